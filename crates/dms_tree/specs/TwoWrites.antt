-- Two blocks of a file are written one after the other, and the file has both already.
use Rattle.std.proofs.Common.{◌≡◌, ◌≢◌, ℕ, ◌+◌, ◌≤◌, ◌<◌, IsTrue, List, refl, sym, ap, subst, ◌∙◌, length, slice_get, arith}
use Rattle.std.proofs.lemmas.Bool.Decides.{nat_tests}
use Rattle.std.specs.declared.option.Option.{Option}
use Rattle.dms_block.specs.declared.blocks.Blocks.{Ghosts}
use Rattle.dms_block.specs.declared.overlay.Overlay.{Overlay}
use Rattle.dms_block.specs.Content.{Content, put_block, raise_count, with_block}
use Rattle.dms_block.specs.ContentLaws.{in_file, in_others, laid_length}
use Rattle.dms_block.specs.View.{overlay_content, seen_counts, under}
use Rattle.dms_chain.specs.Laid.{laid_look}
use Rattle.dms_chain.specs.Linked.{put}
use Rattle.dms_tree.specs.OpenTree.{put_other}

pub two_look : (bs : List (List ℕ)) (n f : ℕ) (x y : List ℕ) → n < length bs → f < length bs → slice_get (put_block f y (put_block n x bs)) ≡ put (put (slice_get bs) n x) f y
two_look bs n f x y near near' = laid_look f y (put_block n x bs) (omega (arith, near', near, laid_length n x bs (omega (arith, near)))) ∙ ap (λ (look : ℕ → Option (List ℕ)). put look f y) (laid_look n x bs (omega (arith, near)))

-- all other blocks stay
pub two_off : (bs : List (List ℕ)) (n f : ℕ) (x y : List ℕ) → n < length bs → f < length bs → (k : ℕ) → (k ≡ n → ⊥) → (k ≡ f → ⊥) → slice_get (put_block f y (put_block n x bs)) k ≡ slice_get bs k
two_off bs n f x y near near' k off away = ap (λ (look : ℕ → Option (List ℕ)). look k) (two_look bs n f x y near near') ∙ put_other (put (slice_get bs) n x) f y k away ∙ put_other (slice_get bs) n x k off

-- the counts stay
pub count_kept : (c : ℕ → ℕ) (file n f : ℕ) → n < c file → raise_count c file n f ≡ c f
count_kept c file n f low = grind (arith, nat_tests, low)

module _ {B : Type 0} {g : Ghosts B} (a b d : Overlay B g) (file n f : ℕ) (x y x' y' : List ℕ) (below : b.below ≡ a.below) (near : n < seen_counts a file) (near' : f < seen_counts a file) (x_is : x ≡ x') (y_is : y ≡ y')
    (seen : IsTrue (under a).told → (under a).sound → overlay_content b ≡ with_block (overlay_content a) file n x) (counts : seen_counts b ≡ raise_count (seen_counts a) file n)
    (seen' : IsTrue (under b).told → (under b).sound → overlay_content d ≡ with_block (overlay_content b) file f y) (counts' : seen_counts d ≡ raise_count (seen_counts b) file f) where
  one_count : (k : ℕ) → seen_counts b k ≡ seen_counts a k
  one_count k = ap (λ (c : ℕ → ℕ). c k) counts ∙ count_kept (seen_counts a) file n k near

  pub two_counts : (k : ℕ) → seen_counts d k ≡ seen_counts a k
  two_counts k = ap (λ (c : ℕ → ℕ). c k) counts' ∙ count_kept (seen_counts b) file f k (omega (arith, near', one_count file)) ∙ one_count k

  after : IsTrue (under a).told → (under a).sound → overlay_content d ≡ with_block (with_block (overlay_content a) file n x) file f y
  after told sound = seen' (subst (λ z. IsTrue (g.held z).told) (sym below) told) (subst (λ z. (g.held z).sound) (sym below) sound) ∙ ap (λ (c : Content). with_block c file f y) (seen told sound)

  pub two_laid : IsTrue (under a).told → (under a).sound → overlay_content d file ≡ put_block f y' (put_block n x' (overlay_content a file))
  two_laid told sound =
      ap (λ (c : Content). c file) (after told sound) ∙ in_file (with_block (overlay_content a) file n x) file f y ∙ ap (put_block f y) (in_file (overlay_content a) file n x)
      ∙ (λ i. put_block f (y_is i) (put_block n (x_is i) (overlay_content a file)))

  pub two_long : IsTrue (under a).told → (under a).sound → length (overlay_content a file) ≡ seen_counts a file → length (overlay_content d file) ≡ seen_counts d file
  two_long told sound long =
      let bs = overlay_content a file in
      let size = laid_length n x' bs (omega (arith, near, long)) in
      ap (λ (l : List (List ℕ)). length l) (two_laid told sound)
      ∙ (let e : length (put_block f y' (put_block n x' bs)) ≡ seen_counts a file = omega (arith, long, near, near', size, laid_length f y' (put_block n x' bs) (omega (arith, long, near, near', size))) in e)
      ∙ sym (two_counts file)

  pub two_others : IsTrue (under a).told → (under a).sound → (k : ℕ) → k ≢ file → overlay_content d k ≡ overlay_content a k
  two_others told sound k off = ap (λ (c : Content). c k) (after told sound) ∙ in_others (with_block (overlay_content a) file n x) file f y k off ∙ in_others (overlay_content a) file n x k off

  -- the file's other blocks stay
  pub two_still : IsTrue (under a).told → (under a).sound → length (overlay_content a file) ≡ seen_counts a file → (k : ℕ) → (k ≡ n → ⊥) → (k ≡ f → ⊥) → slice_get (overlay_content d file) k ≡ slice_get (overlay_content a file) k
  two_still told sound long k off away = ap (λ (l : List (List ℕ)). slice_get l k) (two_laid told sound) ∙ two_off (overlay_content a file) n f x' y' (omega (arith, near, long)) (omega (arith, near', long)) k off away
