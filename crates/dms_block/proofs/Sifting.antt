-- The changes that differ, as far as a loop over all changes has come.
use Rattle.std.proofs.Common.{ℕ, ◌+◌, ◌≤◌, ◌<◌, ◌≡◌, ◌∙◌, Bool, true, false, IsTrue, List, [], ◌∷◌, ◌++◌, length, take, get_or, sym, ap, subst, arith, inl, inr, length-append, if◌then◌else◌}
use Rattle.std.proofs.lemmas.List.{take_more}
use Rattle.dms_block.specs.declared.change.Change.{Change}
use Rattle.dms_block.specs.Content.{Content, FitsIn, NoneOf, differing, differs, counts_after, with_change}
use Rattle.dms_block.specs.Changing.{apart_at, differing_push, fits_at, fits_in_push, grown_high, grown_push, none_push, none_split, raised_old, with_new}
use Rattle.dms_block.specs.Content.{AreApart, TakesUp, raise_count}

pub record Sifted (told : Bool) (content : Content) (owns : ℕ → Bool) (counts : ℕ → ℕ) (kept now : List Change) : Type 0 where
  pub fits : FitsIn kept owns counts
  pub same_counts : counts_after kept counts ≡ counts_after now counts
  pub differ : IsTrue told → kept ≡ differing content now
  pub none : (f b : ℕ) → NoneOf f b now → NoneOf f b kept
  pub fewer : length kept ≤ length now

module _ (told : Bool) (content : Content) (owns : ℕ → Bool) (counts : ℕ → ℕ) where
  chosen : (xs : List Change) (x : Change) (t : Bool) → (IsTrue told → t ≡ differs content x) → IsTrue told → differing content (xs ++ x ∷ []) ≡ (if t then differing content xs ++ x ∷ [] else differing content xs)
  chosen xs x t is tells = differing_push content xs x ∙ ap (λ b. if b then differing content xs ++ x ∷ [] else differing content xs) (sym (is tells))

  kept_new : (kept now : List Change) (x : Change) → Sifted told content owns counts kept now → NoneOf x.id.file x.id.block now → IsTrue (owns x.id.file) × (x.id.block < 2097152) × (x.id.block ≤ counts_after now counts x.id.file)
      → (IsTrue told → true ≡ differs content x) → Sifted told content owns counts (kept ++ x ∷ []) (now ++ x ∷ [])
  kept_new kept now x s none fit is = record {
    fits = fits_in_push kept x owns counts s.fits fit.0 fit.1 (omega (arith, fit.2, ap (λ k. k x.id.file) s.same_counts));
    same_counts = grown_push kept x counts ∙ ap (λ k. raise_count k x.id.file x.id.block) s.same_counts ∙ sym (grown_push now x counts);
    differ = λ tells. ap (λ (l : List Change). l ++ x ∷ []) (s.differ tells) ∙ sym (chosen now x true is tells);
    none = λ f b h. let parts = none_split f b now x h in none_push f b kept x (s.none f b parts.0) parts.1;
    fewer = omega (arith, s.fewer, length-append kept (x ∷ []), length-append now (x ∷ []));
  }

  kept_none : (kept now : List Change) (x : Change) → Sifted told content owns counts kept now → x.id.block < counts x.id.file → (IsTrue told → false ≡ differs content x) → Sifted told content owns counts kept (now ++ x ∷ [])
  kept_none kept now x s low is = record {
    fits = s.fits;
    same_counts = s.same_counts ∙ sym (grown_push now x counts ∙ raised_old (counts_after now counts) x.id.file x.id.block (omega (arith, low, grown_high now counts x.id.file)));
    differ = λ tells. s.differ tells ∙ sym (chosen now x false is tells);
    none = λ f b h. s.none f b (none_split f b now x h).0;
    fewer = omega (arith, s.fewer, length-append now (x ∷ []));
  }

  -- one change further
  pub sift_kept : (all items kept kept' : List Change) (i : ℕ) (d : Change) → items ≡ all → i < length items → FitsIn all owns counts → AreApart all → Sifted told content owns counts kept (take i all)
      → (IsTrue told → true ≡ differs content (get_or items i d)) → kept' ≡ with_change (get_or items i d).id.file (get_or items i d).id.block (get_or items i d).block.0 kept → Sifted told content owns counts kept' (take (i + 1) all)
  sift_kept all items kept kept' i d is low fits other s differs_is made =
      let x = get_or items i d in
      let there : i < length all = subst (λ (l : List Change). i < length l) is low in
      let none : NoneOf x.id.file x.id.block (take i all) = subst (λ (l : List Change). NoneOf (get_or l i d).id.file (get_or l i d).id.block (take i all)) (sym is) (apart_at all i d other there) in
      let fit : IsTrue (owns x.id.file) × (x.id.block < 2097152) × (x.id.block ≤ counts_after (take i all) counts x.id.file) =
      subst (λ (l : List Change). IsTrue (owns (get_or l i d).id.file) × ((get_or l i d).id.block < 2097152) × ((get_or l i d).id.block ≤ counts_after (take i all) counts (get_or l i d).id.file)) (sym is) (fits_at all owns counts i d fits there) in
      let longer : take (i + 1) all ≡ take i all ++ x ∷ [] = subst (λ l. take (i + 1) l ≡ take i l ++ x ∷ []) is (take_more items i d low) in
      let more : kept' ≡ kept ++ x ∷ [] = made ∙ with_new x.id.file x.id.block x.block.0 kept (s.none x.id.file x.id.block none) in
      subst (λ (l : List Change). Sifted told content owns counts l (take (i + 1) all)) (sym more) (subst (λ (l : List Change). Sifted told content owns counts (kept ++ x ∷ []) l) (sym longer) (kept_new kept (take i all) x s none fit differs_is))

  pub sift_dropped : (all items kept : List Change) (i : ℕ) (d : Change) → items ≡ all → i < length items → Sifted told content owns counts kept (take i all)
      → (IsTrue told → false ≡ differs content (get_or items i d)) → (get_or items i d).id.block < counts (get_or items i d).id.file → Sifted told content owns counts kept (take (i + 1) all)
  sift_dropped all items kept i d is low s differs_is old =
      let x = get_or items i d in
      let longer : take (i + 1) all ≡ take i all ++ x ∷ [] = subst (λ l. take (i + 1) l ≡ take i l ++ x ∷ []) is (take_more items i d low) in
      subst (λ (l : List Change). Sifted told content owns counts kept l) (sym longer) (kept_none kept (take i all) x s old differs_is)

  -- one change further, taken up or not
  pub sift_on : (all items kept kept' : List Change) (i : ℕ) (d : Change) → items ≡ all → i < length items → FitsIn all owns counts → AreApart all → Sifted told content owns counts kept (take i all)
      → TakesUp told content counts (get_or items i d) kept kept' → Sifted told content owns counts kept' (take (i + 1) all)
  sift_on all items kept kept' i d is low fits other s (inl taken) = sift_kept all items kept kept' i d is low fits other s taken.1 taken.0
  sift_on all items kept kept' i d is low fits other s (inr left) = subst (λ (l : List Change). Sifted told content owns counts l (take (i + 1) all)) (sym left.0) (sift_dropped all items kept i d is low s left.2 left.1)

-- what is taken up over blocks that stand as they did
pub takes_up_on : (t t' : Bool) (c c' : Content) (k k' : ℕ → ℕ) (x : Change) (kept kept' : List Change) → (IsTrue t → IsTrue t') → (IsTrue t → c' ≡ c) → k' ≡ k → TakesUp t' c' k' x kept kept' → TakesUp t c k x kept kept'
takes_up_on t t' c c' k k' x kept kept' tells same still (inl taken) = inl (taken.0, λ h. taken.1 (tells h) ∙ ap (λ d. differs d x) (same h))
takes_up_on t t' c c' k k' x kept kept' tells same still (inr left) = inr (left.0, omega (arith, left.1, ap (λ n. n x.id.file) still), λ h. left.2 (tells h) ∙ ap (λ d. differs d x) (same h))
