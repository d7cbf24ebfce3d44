-- Blocks that a restore writes.
use Rattle.std.proofs.Common.{ℕ, suc, ◌+◌, ◌*◌, ◌^◌, ◌≤◌, ◌<◌, ◌≡◌, ◌≢◌, inl, inr, true, false, cond, List, [], ◌∷◌, ◌++◌, length, take, drop, get_or, Some, refl, sym, ◌∙◌, ap, subst, arith}
use Rattle.std.specs.Prelude.{nat_eq}
use Rattle.std.proofs.lemmas.List.{take_more}
use Rattle.std.proofs.Math.Seq.{split_at}
use Rattle.std.proofs.lemmas.Bool.{cases_eq}
use Rattle.std.proofs.lemmas.Bool.Decides.{nat_tests}
use Rattle.dms_moments.specs.Moments.{Clock, After, Steps}
use Rattle.dms_moments.specs.MomentLaws.{runs_none, steps_on, steps_weaken}
use Rattle.dms_site.specs.Files.{Files, Left, with_file, overlay_bytes, InFile, Torn, OnDisk, stored_of}
use Rattle.dms_site.specs.StoredLaws.{stored_apart, stored_written}
use Rattle.dms_history.specs.Events.{BlockBytes, Event}
use Rattle.dms_history.specs.Told.{told_block}
use Rattle.dms_history.specs.declared.event.FileCount.{FileCount}
use Rattle.dms_history.specs.Entries.{counts_in}
use Rattle.dms_running.specs.Restoring.{IsKept, Rewritten, Rewrites, Rising}
use Rattle.dms_history.proofs.Turns.{some_not_none}

module _ (keeps : ℕ → ℕ → Type 0) where
  pub rewritten_same : (files : Files) → Rewritten keeps files files
  rewritten_same files = record { others = λ g le. refl; longer = λ f. omega arith; kept = λ f b is whole. refl }

  pub rewritten_on : (x y z : Files) → Rewritten keeps x y → Rewritten keeps y z → Rewritten keeps x z
  rewritten_on x y z one two = record {
    others = λ g le. two.others g le ∙ one.others g le;
    longer = λ f. omega (arith, one.longer f, two.longer f);
    kept = λ f b is whole. two.kept f b is (omega (arith, whole, one.longer f)) ∙ one.kept f b is whole;
  }

  -- a block that isn't kept is written, torn or whole
  pub rewritten_torn : (f b : ℕ) (x y : Files) → 30000 < f → (keeps f b → ⊥) → InFile f (Torn (1024 * b) 1024) x y → Rewritten keeps x y
  rewritten_torn f b x y structure free step = record {
    others = λ g le. step.others g (λ e. omega (arith, le, structure, e));
    longer = λ g. elim (cases_eq g f) [
      | inl same ↦ subst (λ j. length (x j) ≤ length (y j)) (sym same) step.here.no_shorter
      | inr other ↦ omega (arith, ap length (step.others g other))
    ];
    kept = λ g c is whole. stored_apart x y f b g c step
        (λ same at. free (subst (λ j. keeps f j) at (subst (λ j. keeps j c) same is)))
        (λ same less. subst (λ j. 1024 * c + 1024 ≤ length (x j)) same whole);
  }

  pub steps_torn : (f b : ℕ) (old new : Clock Left) → 30000 < f → (keeps f b → ⊥) → Steps (OnDisk f (Torn (1024 * b) 1024)) old new → Steps (Rewrites keeps) old new
  steps_torn f b old new structure free steps = steps_weaken steps (λ x y now step. record { files = rewritten_torn f b x.files y.files structure free step.files; said = step.said })

  -- what a stop leaves where nothing is done
  pub steps_still : (c : Clock Left) → Steps (Rewrites keeps) c c
  steps_still c = record {
    follows = λ x now. (x, now, record { files = rewritten_same x.files; said = refl });
    runs = runs_none c (After c (Rewrites keeps));
  }

  pub steps_more : (a b c : Clock Left) → Steps (Rewrites keeps) a b → Steps (Rewrites keeps) b c → Steps (Rewrites keeps) a c
  steps_more a b c one two = steps_on one two
      (λ x y z nx ny r s. record { files = rewritten_on x.files y.files z.files r.files s.files; said = s.said ∙ r.said })
      (λ x y nx r. r)

pub told_free : (live : List Event) (m f b : ℕ) (x : BlockBytes) → told_block live m f b ≡ Some x → IsKept live m f b → ⊥
told_free live m f b x is kept = some_not_none x (sym is ∙ kept.1)

-- ---- what stands in the files as they are read

pub stands_written : (f b : ℕ) (files later : Files) (x : BlockBytes) → 30000 < f → length x ≡ 1024 → later ≡ with_file files f (overlay_bytes (1024 * b) x (files f)) → stored_of later f b ≡ x
stands_written f b files later x structure len is = ap (λ (l : Files). stored_of l f b) is ∙ stored_written files f b x structure len

-- ---- rising lists of counts

-- the parts of a list at an index
pub cut_at : (cs : List FileCount) (i : ℕ) (d : FileCount) → i < length cs → (take (i + 1) cs ≡ take i cs ++ get_or cs i d ∷ []) × (cs ≡ take i cs ++ get_or cs i d ∷ drop (suc i) cs)
cut_at cs i d low = (take_more cs i d low, split_at cs i d low)

-- what stands in a rising list
pub rising_at : (xs ys : List FileCount) (c : FileCount) (low : ℕ) → Rising low (xs ++ c ∷ ys) → (low < c.file) × (c.blocks ≤ 2 ^ 21)
rising_at [] ys c low rising = (rising.0, rising.1)
rising_at (x ∷ xs) ys c low rising = let r = rising_at xs ys c x.file rising.2 in (omega (arith, rising.0, r.0), r.1)

same_test : (m n : ℕ) → m ≡ n → nat_eq m n ≡ true
same_test m n same = grind (arith, nat_tests)

pub other_test : (m n : ℕ) → m ≢ n → nat_eq m n ≡ false
other_test m n other = grind (arith, nat_tests)

-- a count more at the end of a rising list
counts_new : (xs ys : List FileCount) (c : FileCount) (low : ℕ) → Rising low (xs ++ c ∷ ys) → counts_in (xs ++ c ∷ []) c.file ≡ c.blocks
counts_new [] ys c low rising = ap (λ k. cond k c.blocks 0) (same_test c.file c.file refl)
counts_new (x ∷ xs) ys c low rising =
    let above = rising_at xs ys c x.file rising.2 in
    ap (λ k. cond k x.blocks (counts_in (xs ++ c ∷ []) c.file)) (other_test x.file c.file (λ e. omega (arith, above.0, e))) ∙ counts_new xs ys c x.file rising.2

counts_others : (xs : List FileCount) (c : FileCount) (f : ℕ) → f ≢ c.file → counts_in (xs ++ c ∷ []) f ≡ counts_in xs f
counts_others [] c f other = ap (λ k. cond k c.blocks 0) (other_test c.file f (λ e. other (sym e)))
counts_others (x ∷ xs) c f other = ap (λ n. cond (nat_eq x.file f) x.blocks n) (counts_others xs c f other)
