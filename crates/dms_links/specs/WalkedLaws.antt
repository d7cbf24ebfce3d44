-- What a walk finds damaged was damaged before it.
use Rattle.std.proofs.Common.{◌≡◌, ◌∙◌, ◌+◌, ◌<◌, ◌≤◌, ℕ, zero, suc, List, [], ◌∷◌, Bool, false, Some, sym, subst, ap, refl, map, drop, take, length, get_or, slice_get, arith}
use Rattle.std.specs.Prelude.{slice_index_or}
use Rattle.std.specs.declared.option.Option.{Option}
use Rattle.std.specs.declared.result.Result.TheVariants.{Ok}
use Rattle.std.proofs.lemmas.List.{length-map}
use Rattle.dms_block.specs.Content.{Content, counts_after}
use Rattle.dms_block.specs.HeldLaws.{told_after}
use Rattle.dms_block.specs.View.{ReadsOverlay, overlay_content}
use Rattle.dms_block.specs.ViewLaws.{seen_still}
use Rattle.dms_block.specs.declared.blocks.Blocks.{Ghosts}
use Rattle.dms_block.specs.declared.overlay.Overlay.{Overlay}
use Rattle.dms_desc.specs.Files.{file_of}
use Rattle.dms_desc.specs.Shape.{Shape, shape_of}
use Rattle.dms_desc.specs.declared.structure.Structure.{Structure}
use Rattle.dms_links.specs.Linking.{walked_most, walked_of}
use Rattle.dms_slots.specs.Seen.{BadIn}
use Rattle.dms_slots.specs.SlotBlocks.{is_block}

module _ {B : Type 0} {g : Ghosts B} where
  -- a block that is bad after reads was bad before them
  pub bad_since : {T : Type 0} {n : ℕ} {x : T} (s : Shape) (a b : Overlay B g) → ReadsOverlay n (Ok x) a b → (f k : ℕ) → BadIn s b f k → BadIn s a f k
  bad_since s a b reads f k bad = (
    (
      bad.0.0,
      λ told.
          let same : overlay_content b (file_of s.number) ≡ overlay_content a (file_of s.number) = ap (λ (c : Content). c (file_of s.number)) (seen_still reads told) in
          subst (λ (bs : List (List ℕ)). (k < length bs) × (is_block s (slice_index_or bs k []) ≡ false)) same (bad.0.1 (told_after reads.looks.passes.lasts told)),
    ),
    subst (λ (m : ℕ). k < m) (λ i. counts_after (reads.written_still i) (reads.looks.counts i) (file_of s.number)) bad.1,
  )

-- ---- one structure after another

got_at : (ss : List Structure) (k : ℕ) (x : Structure) → k < length ss → x ≡ get_or ss k x → slice_get (map shape_of ss) k ≡ Some (shape_of x)
got_at [] k x low h = absurd (omega (arith, low))
got_at (s ∷ ss) zero x low h = ap (λ (y : Structure). Some (shape_of y)) (sym h)
got_at (s ∷ ss) (suc k) x low h = got_at ss k x (omega (arith, low)) h

-- the structure of a turn is that of the description
pub shape_at : (items ss : List Structure) (k : ℕ) (x : Structure) → items ≡ ss → k < length items → x ≡ get_or items k x → slice_get (map shape_of ss) k ≡ Some (shape_of x)
shape_at items ss k x same low h = got_at ss k x (subst (λ (l : List Structure). k < length l) same low) (h ∙ ap (λ (l : List Structure). get_or l k x) same)

pub shapes_long : (ss : List Structure) → length (map shape_of ss) ≡ length ss
shapes_long ss = length-map ss shape_of

of_some : {x y : Shape} → ◌≡◌ {A = Option Shape} (Some x) (Some y) → x ≡ y
of_some h = cc

pub drop_here : (ss : List Shape) (k : ℕ) (s : Shape) → slice_get ss k ≡ Some s → drop k ss ≡ s ∷ drop (k + 1) ss
drop_here [] k s at = absurd (cc at)
drop_here (t ∷ ss) zero s at = ap (λ (x : Shape). x ∷ ss) (of_some at)
drop_here (t ∷ ss) (suc k) s at = let e : suc (k + 1) ≡ suc k + 1 = omega arith in drop_here ss k s at ∙ ap (λ n. s ∷ drop n (t ∷ ss)) e

pub none_left : (ss : List Shape) (k : ℕ) → length ss ≤ k → drop k ss ≡ []
none_left [] zero le = refl
none_left [] (suc k) le = refl
none_left (s ∷ ss) zero le = absurd (omega (arith, le))
none_left (s ∷ ss) (suc k) le = none_left ss k (omega (arith, le))

pub walked_next : (to : ℕ) (ss : List Shape) (k : ℕ) (s : Shape) → slice_get ss k ≡ Some s → walked_most to (take (k + 1) ss) ≡ walked_most to (take k ss) + walked_of to s
walked_next to [] k s at = absurd (cc at)
walked_next to (t ∷ ss) zero s at = let one = ap (walked_of to) (of_some at) in omega (arith, one)
walked_next to (t ∷ ss) (suc k) s at =
    let e : suc k + 1 ≡ suc (k + 1) = omega arith in
    let one : ℕ = walked_of to t in
    let first : ℕ = walked_most to (take k ss) in
    let here : ℕ = walked_of to s in
    let turned : one + (first + here) ≡ (one + first) + here = omega arith in
    ap (λ n. walked_most to (take n (t ∷ ss))) e ∙ ap (λ n. one + n) (walked_next to ss k s at) ∙ turned

pub walked_low : (to : ℕ) (ss : List Shape) (k : ℕ) → walked_most to (take k ss) ≤ walked_most to ss
walked_low to [] zero = omega arith
walked_low to [] (suc k) = omega arith
walked_low to (t ∷ ss) zero = omega arith
walked_low to (t ∷ ss) (suc k) = omega (arith, walked_low to ss k)
