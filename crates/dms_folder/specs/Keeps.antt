-- What is kept through each call.
use Rattle.std.proofs.Common.{ℕ, ◌^◌, ◌<◌, ◌≡◌, ◌≢◌, ◌⊎◌, inl, inr, ⊎_elim, sym, ◌∙◌, ap, subst, List, length, Bool, true, false, Some, None, arith, zero, suc}
use Rattle.std.specs.Prelude.{slice_get, slice_set}
use Rattle.std.proofs.lemmas.Option.{same_Some, none-some}
use Rattle.std.proofs.lemmas.Bool.{false≢true, cases_lt}
use Rattle.dms_moments.specs.Moments.{Clock, Now, Steps}
use Rattle.dms_calls.specs.World.{World, Unchanged, OnFile, MakesFile, StableFile}
use Rattle.dms_folder.specs.declared.opened.OpenedFile.{OpenedFile}
use Rattle.dms_calls.specs.Names.{name_of}
use Rattle.dms_folder.specs.NameLaws.{name_inj}
use Rattle.dms_folder.specs.Kept.{KeepsFolder, StableAt, Untouched}
use Rattle.dms_folder.specs.Places.{get_set_same, get_set_other}

-- equal or not
pub same_or_not : (m n : ℕ) → (m ≡ n) ⊎ (m ≢ n)
same_or_not m n = elim (cases_lt m n) [
  | inl less ↦ inr (λ e. omega (arith, e, less))
  | inr no_less ↦ elim (cases_lt n m) [ inl more ↦ inr (λ e. omega (arith, e, more)) | inr no_more ↦ inl (omega (arith, no_less, no_more)) ]
]

-- no outcome came
pub no_new : {a b : Clock World} → Steps Unchanged a b → (w : World) → Now b w → Now a w
no_new {a} {b} step w now = let y = step.follows w now in subst (λ (v : World). Now a v) (sym y.2) y.1

pub stable_same : {v w : World} {a b : Clock World} (n : ℕ) → StableAt v a n → w ≡ v → Steps Unchanged a b → StableAt w b n
stable_same {v} {w} {a} {b} n stable same step = subst (λ (w : World). StableAt w b n) (sym same) (λ i is y now. stable i is y (no_new step y now))

module _ {H : Type 0} {file : H → ℕ} {opened : List (OpenedFile H)} {made synced : Bool} {w : World} {c : Clock World} where
  -- a call that changes nothing
  pub kept_same : {w' : World} {c' : Clock World} → KeepsFolder file opened made synced w c → w' ≡ w → Steps Unchanged c c' → KeepsFolder file opened made synced w' c'
  kept_same {w'} {c'} kept same step =
      subst (λ (v : World). KeepsFolder file opened made synced v c') (sym same)
      (record {
        named = kept.named;
        names = λ none v now. kept.names none v (no_new step v now);
        bytes = λ known n low un i is v now. kept.bytes known n low un i is v (no_new step v now);
      })

  -- an open file is marked as touched
  pub kept_touched : KeepsFolder file opened made synced w c → (k : ℕ) (o : OpenedFile H) → slice_get opened k ≡ Some o → k < length opened
      → KeepsFolder file (slice_set opened k (record { number = o.number; file = o.file; touched = true })) made synced w c
  kept_touched kept k o is within = record {
    named = λ j p at. ⊎_elim
        (λ e. let q : slice_get (slice_set opened k t) k ≡ Some p = subst (λ (j : ℕ). slice_get (slice_set opened k t) j ≡ Some p) e at in
        let r : t ≡ p = same_Some t p (sym (get_set_same opened k t within) ∙ q) in
        subst (λ (p : OpenedFile H). w.names (name_of p.number) ≡ Some (file p.file)) r (kept.named k o is))
        (λ other. kept.named j p (sym (get_set_other opened k j t other) ∙ at))
        (same_or_not j k);
    names = kept.names;
    bytes = λ known n low un. kept.bytes known n low (λ j p at number. ⊎_elim
        (λ e. let q : p ≡ o = same_Some p o (sym at ∙ ap (λ (j : ℕ). slice_get opened j) e ∙ is) in
        absurd (false≢true (sym (un k t (get_set_same opened k t within) (ap (λ (p : OpenedFile H). p.number) (sym q) ∙ number)))))
        (λ other. un j p (get_set_other opened k j t other ∙ at) number)
        (same_or_not j k));
  }
    where
      t : OpenedFile H
      t = record { number = o.number; file = o.file; touched = true }

  -- the bytes of an open file are stable, and its mark is taken away
  pub kept_cleared : {w' : World} {c' : Clock World} → KeepsFolder file opened made synced w c → (k : ℕ) (o : OpenedFile H) → slice_get opened k ≡ Some o → k < length opened
      → w' ≡ w → Steps Unchanged c c' → StableFile (file o.file) (w.bytes (file o.file)) c'
      → KeepsFolder file (slice_set opened k (record { number = o.number; file = o.file; touched = false })) made synced w' c'
  kept_cleared {w'} {c'} kept k o is within same step stable =
      subst (λ (v : World). KeepsFolder file (slice_set opened k t) made synced v c') (sym same)
      (record {
        named = λ j p at. ⊎_elim
            (λ e. let q : slice_get (slice_set opened k t) k ≡ Some p = subst (λ (j : ℕ). slice_get (slice_set opened k t) j ≡ Some p) e at in
            let r : t ≡ p = same_Some t p (sym (get_set_same opened k t within) ∙ q) in
            subst (λ (p : OpenedFile H). w.names (name_of p.number) ≡ Some (file p.file)) r (kept.named k o is))
            (λ other. kept.named j p (sym (get_set_other opened k j t other) ∙ at))
            (same_or_not j k);
        names = λ none v now. kept.names none v (no_new step v now);
        bytes = λ known n low un i at. ⊎_elim
            (λ e.
            let f : file o.file ≡ i = same_Some (file o.file) i (sym (kept.named k o is) ∙ ap (λ (m : ℕ). w.names (name_of m)) e ∙ at) in
            subst (λ (i : ℕ). StableFile i (w.bytes i) c') f stable)
            (λ other. λ v now. kept.bytes known n low (λ j p there number. ⊎_elim
            (λ e. let q : p ≡ o = same_Some p o (sym there ∙ ap (λ (j : ℕ). slice_get opened j) e ∙ is) in
            absurd (other (ap (λ (p : OpenedFile H). p.number) (sym q) ∙ number)))
            (λ away. un j p (get_set_other opened k j t away ∙ there) number)
            (same_or_not j k)) i at v (no_new step v now))
            (same_or_not o.number n);
      })
    where
      t : OpenedFile H
      t = record { number = o.number; file = o.file; touched = false }

  -- the first open file is shut, which isn't touched
  pub kept_dropped : {rest : List (OpenedFile H)} → KeepsFolder file opened made synced w c → ((k : ℕ) → slice_get rest k ≡ slice_get opened (suc k))
      → ((o : OpenedFile H) → slice_get opened 0 ≡ Some o → o.touched ≡ false) → KeepsFolder file rest made synced w c
  kept_dropped {rest} kept moved first = record {
    named = λ k o is. kept.named (suc k) o (sym (moved k) ∙ is);
    names = kept.names;
    bytes = λ known n low un. kept.bytes known n low (below un);
  }
    where
      below : {n : ℕ} → Untouched rest n → Untouched opened n
      below un zero o is number = first o is
      below un (suc k) o is number = un k o (moved k ∙ is) number

  -- a file is made: its name isn't stable
  pub kept_made : {w' : World} {c' : Clock World} → KeepsFolder file opened made synced w c → (f i : ℕ) → f < 2 ^ 32 → w.names (name_of f) ≡ None
      → MakesFile (name_of f) i w w' → Steps (MakesFile (name_of f) i) c c' → KeepsFolder file opened true synced w' c'
  kept_made {w'} {c'} kept f i small absent makes step = record {
    named = λ k o is. makes.names (name_of o.number) (λ e. none-some (file o.file) (sym absent ∙ ap (λ (m : List ℕ). w.names m) (sym e) ∙ kept.named k o is)) ∙ kept.named k o is;
    names = λ none. absurd (false≢true (sym none));
    bytes = λ known n low un j at. ⊎_elim
        (λ e. λ v now. let y = step.follows v now in ap (λ (k : ℕ). v.bytes k) e ∙ y.2.empty ∙ sym makes.empty ∙ ap (λ (k : ℕ). w'.bytes k) (sym e))
        (λ other. λ v now. let y = step.follows v now in
        y.2.others j other ∙ kept.bytes known n low un j (was n j low at other) y.0 y.1 ∙ sym (makes.others j other))
        (same_or_not j i);
  }
    where
      was : (n j : ℕ) → n < 2 ^ 32 → w'.names (name_of n) ≡ Some j → j ≢ i → w.names (name_of n) ≡ Some j
      was n j low at other = ⊎_elim
          (λ e. ⊎_elim
          (λ same. ap (λ (m : ℕ). w.names (name_of m)) e ∙ sym same ∙ ap (λ (m : ℕ). w'.names (name_of m)) (sym e) ∙ at)
          (λ new. absurd (other (same_Some j i (sym at ∙ ap (λ (m : ℕ). w'.names (name_of m)) e ∙ new.1))))
          makes.here)
          (λ away. sym (makes.names (name_of n) (λ e. away (name_inj n f low small e))) ∙ at)
          (same_or_not n f)

  -- a file that is open and touched is written or cut
  pub kept_written : {step : List ℕ → List ℕ → Type 0} {w' : World} {c' : Clock World} → KeepsFolder file opened made synced w c → (k f i : ℕ) (o : OpenedFile H)
      → slice_get opened k ≡ Some o → o.number ≡ f → o.touched ≡ true → w.names (name_of f) ≡ Some i → ((g : ℕ) → g < 2 ^ 32 → w.names (name_of g) ≡ Some i → g ≡ f)
      → OnFile i step w w' → Steps (OnFile i step) c c' → KeepsFolder file opened made synced w' c'
  kept_written {step} {w'} {c'} kept k f i o is number touched leads own moved call = record {
    named = λ j p at. moved.names (name_of p.number) ∙ kept.named j p at;
    names = λ none v now m. let y = call.follows v now in y.2.names m ∙ kept.names none y.0 y.1 m ∙ sym (moved.names m);
    bytes = λ known n low un j at. ⊎_elim
        (λ e. absurd (false≢true (sym (un k o is (number ∙ sym (own n low (sym (moved.names (name_of n)) ∙ at ∙ ap (λ (j : ℕ). Some j) e)))) ∙ touched)))
        (λ other. λ v now. let y = call.follows v now in
        y.2.others j other ∙ kept.bytes known n low un j (sym (moved.names (name_of n)) ∙ at) y.0 y.1 ∙ sym (moved.others j other))
        (same_or_not j i);
  }

  -- each file was synced
  pub kept_known : KeepsFolder file opened made synced w c → ((n : ℕ) → n < 2 ^ 32 → StableAt w c n) → KeepsFolder file opened made true w c
  kept_known kept stable = record { named = kept.named; names = kept.names; bytes = λ known n low un. stable n low }
