-- How the description file comes to be, stop by stop.
use Rattle.std.proofs.Common.{ℕ, zero, suc, ◌+◌, ◌<◌, ◌≡◌, ◌≢◌, ◌⊎◌, inl, inr, List, [], ◌∷◌, ◌++◌, length, get_or, refl, sym, ◌∙◌, ap, subst, arith, append-nil}
use Rattle.std.proofs.lemmas.List.{ext_get_or, drop_all}
use Rattle.std.proofs.lemmas.Bool.{cases_eq}
use Rattle.std.specs.Int.{w32, to_be_bytes}
use Rattle.dms_moments.specs.Moments.{Clock, Now, Steps}
use Rattle.dms_moments.specs.MomentLaws.{steps_on, runs_none, runs_on, runs_weaken}
use Rattle.dms_site.specs.Files.{Files, Left, Torn, Cut, OnDisk, Only, Same, with_file, overlay_bytes, pad_zeros}
use Rattle.dms_site.specs.Laws.{with_file_here}
use Rattle.dms_descfile.specs.DescriptionFile.{description_file, IsUnsealed}
use Rattle.dms_descfile.specs.Becoming.{Shuts, Becoming, IsCreated, Creates}

-- a file that is too short for a description
pub short_unsealed : (file : List ℕ) → length file < 6 → IsUnsealed file
unfolding description_file
short_unsealed file short d s = absurd (omega (arith, short, ap length s.is))

-- a file whose gate isn't open
pub closed_unsealed : (file : List ℕ) → get_or file 0 0 ≢ 1 → IsUnsealed file
unfolding description_file
closed_unsealed file closed d s = closed (ap (λ (l : List ℕ). get_or l 0 0) s.is)

-- a cut of the whole file
pub cut_becomes : (made : List ℕ) (z x : Left) → OnDisk 1 (Cut 0) z x → OnDisk 1 (Becoming made) z x
cut_becomes made z x step = record {
  files = record {
    here = elim step.files.here [
      | inl same ↦ inl same
      | inr none ↦ inr (inl (subst (λ (l : List ℕ). IsUnsealed l) (sym none) (short_unsealed [] (omega arith))))
    ];
    others = step.files.others;
  };
  said = step.said;
}

pub shuts_becomes : (made : List ℕ) (z x : Left) → OnDisk 1 Shuts z x → OnDisk 1 (Becoming made) z x
shuts_becomes made z x step = record {
  files = record { here = inr (inl step.files.here); others = step.files.others };
  said = step.said;
}

pub shuts_after : {step : List ℕ → List ℕ → Type 0} (z y x : Left) → OnDisk 1 step z y → OnDisk 1 Shuts y x → OnDisk 1 Shuts z x
shuts_after z y x r s = record {
  files = record { here = s.files.here; others = λ g other. s.files.others g other ∙ r.files.others g other };
  said = s.said ∙ r.said;
}

-- two steps after one another
pub becoming_after : (made : List ℕ) (x y z : Left) → OnDisk 1 (Becoming made) x y → OnDisk 1 (Becoming made) y z → OnDisk 1 (Becoming made) x z
becoming_after made x y z r s = record {
  files = record {
    here = elim s.files.here [
      | inl same ↦ subst (λ (l : List ℕ). Becoming made (x.files 1) l) (sym same) r.files.here
      | inr other ↦ inr other
    ];
    others = λ g other. s.files.others g other ∙ r.files.others g other;
  };
  said = s.said ∙ r.said;
}

pub becoming_on : (made : List ℕ) {a b c : Clock Left} → Steps (OnDisk 1 (Becoming made)) a b → Steps (OnDisk 1 (Becoming made)) b c → Steps (OnDisk 1 (Becoming made)) a c
becoming_on made first then = steps_on first then (λ x y z was now r s. becoming_after made x y z r s) (λ x y now r. r)

-- within the write of the two closed gates into the empty file
pub gates_shut : (z x : Left) → z.files 1 ≡ [] → OnDisk 1 (Torn 0 2) z x → OnDisk 1 Shuts z x
gates_shut z x none step = record {
  files = record {
    here = short_unsealed (x.files 1) (omega (arith, step.files.here.no_longer, ap length none));
    others = step.files.others;
  };
  said = step.said;
}

-- within the write of what stands behind them
pub rest_shut : (n : ℕ) (z x : Left) → z.files 1 ≡ 0 ∷ 0 ∷ [] → OnDisk 1 (Torn 2 n) z x → OnDisk 1 Shuts z x
rest_shut n z x is step =
    let low : 0 < length (z.files 1) = omega (arith, ap length is) in
    let first : get_or (x.files 1) 0 0 ≡ 0 = step.files.here.below 0 low (omega arith) ∙ ap (λ (l : List ℕ). get_or l 0 0) is in
    record {
      files = record {
        here = closed_unsealed (x.files 1) (λ is_open. absurd (omega (arith, first, is_open)));
        others = step.files.others;
      };
      said = step.said;
    }

-- only the gate differs
only_gate : (rest new : List ℕ) → Torn 0 1 (0 ∷ 0 ∷ rest) new → get_or new 0 0 ≡ 1 → new ≡ 1 ∷ 0 ∷ rest
only_gate rest new torn opened =
    let len : length new ≡ length (1 ∷ 0 ∷ rest) = omega (arith, torn.no_shorter, torn.no_longer) in
    ext_get_or 0 new (1 ∷ 0 ∷ rest) len (at_each)
  where
    at_each : (k : ℕ) → k < length new → get_or new k 0 ≡ get_or (1 ∷ 0 ∷ rest) k 0
    at_each zero h = opened
    at_each (suc k) h = torn.above (suc k) (omega (arith, h, torn.no_longer)) (omega arith)

-- within the write of the gate
pub gate_becomes : (rest : List ℕ) (z x : Left) → z.files 1 ≡ 0 ∷ 0 ∷ rest → OnDisk 1 (Torn 0 1) z x → OnDisk 1 (Becoming (1 ∷ 0 ∷ rest)) z x
gate_becomes rest z x is step =
    let torn : Torn 0 1 (0 ∷ 0 ∷ rest) (x.files 1) = subst (λ (l : List ℕ). Torn 0 1 l (x.files 1)) is step.files.here in
    record {
      files = record {
        here = elim (cases_eq (get_or (x.files 1) 0 0) 1) [
          | inl opened ↦ inr (inr (only_gate rest (x.files 1) torn opened))
          | inr closed ↦ inr (inl (closed_unsealed (x.files 1) closed))
        ];
        others = step.files.others;
      };
      said = step.said;
    }

-- what the three writes make of the file
gates_laid : overlay_bytes 0 (0 ∷ 0 ∷ []) [] ≡ 0 ∷ 0 ∷ []
unfolding overlay_bytes pad_zeros
gates_laid = refl

rest_laid : (rest : List ℕ) → overlay_bytes 2 rest (0 ∷ 0 ∷ []) ≡ 0 ∷ 0 ∷ rest
unfolding overlay_bytes pad_zeros
rest_laid rest =
    ap (λ (l : List ℕ). 0 ∷ 0 ∷ (rest ++ l)) (drop_all (2 + length rest) (0 ∷ 0 ∷ []) (omega arith)) ∙ ap (λ (l : List ℕ). 0 ∷ 0 ∷ l) (append-nil rest)

gate_laid : (rest : List ℕ) → overlay_bytes 0 (1 ∷ []) (0 ∷ 0 ∷ rest) ≡ 1 ∷ 0 ∷ rest
unfolding overlay_bytes pad_zeros
gate_laid rest = refl

at_file : (old new : Files) (at : ℕ) (bytes file : List ℕ) → new ≡ with_file old 1 (overlay_bytes at bytes (old 1)) → old 1 ≡ file → new 1 ≡ overlay_bytes at bytes file
at_file old new at bytes file written is = ap (λ (l : Files). l 1) written ∙ with_file_here old 1 (overlay_bytes at bytes (old 1)) ∙ ap (λ (l : List ℕ). overlay_bytes at bytes l) is

pub gates_written : (old new : Files) → new ≡ with_file old 1 (overlay_bytes 0 (0 ∷ 0 ∷ []) (old 1)) → old 1 ≡ [] → new 1 ≡ 0 ∷ 0 ∷ []
gates_written old new written none = at_file old new 0 (0 ∷ 0 ∷ []) [] written none ∙ gates_laid

pub rest_written : (old new : Files) (rest : List ℕ) → new ≡ with_file old 1 (overlay_bytes 2 rest (old 1)) → old 1 ≡ 0 ∷ 0 ∷ [] → new 1 ≡ 0 ∷ 0 ∷ rest
rest_written old new rest written is = at_file old new 2 rest (0 ∷ 0 ∷ []) written is ∙ rest_laid rest

pub gate_written : (old new : Files) (rest : List ℕ) → new ≡ with_file old 1 (overlay_bytes 0 (1 ∷ []) (old 1)) → old 1 ≡ 0 ∷ 0 ∷ rest → new 1 ≡ 1 ∷ 0 ∷ rest
gate_written old new rest written is = at_file old new 0 (1 ∷ []) (0 ∷ 0 ∷ rest) written is ∙ gate_laid rest

-- what stands behind the gates
pub file_is : (bytes rest : List ℕ) → rest ≡ to_be_bytes w32 (length bytes) ++ bytes → 1 ∷ 0 ∷ rest ≡ description_file 1 0 bytes
unfolding description_file
file_is bytes rest is = ap (λ (l : List ℕ). 1 ∷ 0 ∷ l) is

-- two outcomes with the same files and the same text
left_same : (y x : Left) → x.files 1 ≡ y.files 1 → ((g : ℕ) → g ≢ 1 → x.files g ≡ y.files g) → x.said ≡ y.said → x ≡ y
left_same y x here others said = λ i. record { files = λ g. (at_each g) i; said = said i }
  where
    at_each : (g : ℕ) → x.files g ≡ y.files g
    at_each g = elim (cases_eq g 1) [
      | inl e ↦ subst (λ (n : ℕ). x.files n ≡ y.files n) (sym e) here
      | inr ne ↦ others g ne
    ]

same_as : (a : Clock Left) (y x : Left) → Now a y → x ≡ y → Now a x
same_as a y x now same = subst (λ (z : Left). Now a z) (sym same) now

-- an outcome of a moment at which nothing is pending, and what a step makes of it
created_after : (made : List ℕ) (files : Files) (a b : Clock Left) → Steps Same a b → Only files b → (y x : Left) → Now b y → OnDisk 1 (Becoming made) y x → Now a x ⊎ IsCreated made files x
created_after made files a b first only y x now step =
    let z = first.follows y now in
    elim step.files.here [
      | inl same ↦ inl (same_as a z.0 x z.1 (left_same y x same step.files.others step.said ∙ z.2))
      | inr other ↦ inr (record { here = other; others = λ g ne. step.files.others g ne ∙ ap (λ (l : Files). l g) (only y now) })
    ]

-- no call
pub creates_nothing : (made : List ℕ) (files : Files) (a : Clock Left) → Creates made files a a
creates_nothing made files a = runs_none a (λ x. Now a x ⊎ IsCreated made files x)

-- a call that changes nothing
pub creates_none : (made : List ℕ) (files : Files) {a b : Clock Left} → Steps Same a b → Creates made files a b
creates_none made files {a} steps = runs_weaken steps.runs (λ x after. inl (same_as a after.0 x after.1 after.2))

-- what is pending is made stable, and then the description file is made
pub creates_stable : (made : List ℕ) (files : Files) {a b c : Clock Left} → Steps Same a b → Only files b → Steps (OnDisk 1 (Becoming made)) b c → Creates made files a c
creates_stable made files {a} {b} first only then = runs_on (creates_none made files first) then.runs (λ x after. created_after made files a b first only after.0 x after.1 after.2)

pub same_becomes : (made : List ℕ) (y x : Left) → x ≡ y → OnDisk 1 (Becoming made) y x
same_becomes made y x same = subst (λ (z : Left). OnDisk 1 (Becoming made) y z) (sym same) (record { files = record { here = inl refl; others = λ g ne. refl }; said = refl })
