-- How the file of a dump comes to be, stop by stop.
use Rattle.std.proofs.Common.{ℕ, zero, suc, ◌<◌, ◌≡◌, inl, inr, List, [], ◌∷◌, ◌++◌, length, take, drop, get_or, refl, sym, ◌∙◌, ap, subst, arith}
use Rattle.std.proofs.lemmas.List.{ext_get_or}
use Rattle.std.proofs.lemmas.Bool.{cases_eq}
use Rattle.dms_moments.specs.Moments.{Clock, Steps}
use Rattle.dms_moments.specs.MomentLaws.{steps_on, steps_weaken}
use Rattle.dms_site.specs.Files.{Files, Left, with_file, overlay_bytes, pad_zeros, range, Torn, Cut, OnDisk, Same}
use Rattle.dms_site.specs.Laws.{with_file_here}
use Rattle.dms_dump.specs.Stops.{BecomesDump, KeepsGate}

pub cut_becomes : (f : ℕ) (made : List ℕ) (z x : Left) → OnDisk f (Cut 0) z x → OnDisk f (BecomesDump made) z x
cut_becomes f made z x step = record {
  files = record {
    here = elim step.files.here [
      | inl same ↦ inl same
      | inr none ↦ inr (inl (inl (omega (arith, ap length none))))
    ];
    others = step.files.others;
  };
  said = step.said;
}

-- within the write of the shut gate into the empty file
pub gate_shuts : (f : ℕ) (made : List ℕ) (z x : Left) → z.files f ≡ [] → OnDisk f (Torn 0 1) z x → OnDisk f (BecomesDump made) z x
gate_shuts f made z x none step = record {
  files = record { here = inr (inl (inl (omega (arith, step.files.here.no_longer, ap length none)))); others = step.files.others };
  said = step.said;
}

-- behind a shut gate anything is shut
pub keeps_shut : (f : ℕ) (made : List ℕ) (z x : Left) → z.files f ≡ 0 ∷ [] → OnDisk f KeepsGate z x → OnDisk f (BecomesDump made) z x
keeps_shut f made z x is step =
    let some : 0 < length (z.files f) = omega (arith, ap length is) in
    let gate : get_or (x.files f) 0 0 ≡ 0 = step.files.here.gate some ∙ ap (λ (l : List ℕ). get_or l 0 0) is in
    record {
      files = record { here = inr (inl (inr (λ one. absurd (omega (arith, gate, one))))); others = step.files.others };
      said = step.said;
    }

only_gate : (rest new : List ℕ) → Torn 0 1 (0 ∷ rest) new → get_or new 0 0 ≡ 1 → new ≡ 1 ∷ rest
only_gate rest new torn opened =
    let len : length new ≡ length (1 ∷ rest) = omega (arith, torn.no_shorter, torn.no_longer) in
    ext_get_or 0 new (1 ∷ rest) len (at_each)
  where
    at_each : (k : ℕ) → k < length new → get_or new k 0 ≡ get_or (1 ∷ rest) k 0
    at_each zero h = opened
    at_each (suc k) h = torn.above (suc k) (omega (arith, h, torn.no_longer)) (omega arith)

-- within the write of the open gate
pub gate_becomes : (f : ℕ) (rest : List ℕ) (z x : Left) → z.files f ≡ 0 ∷ rest → OnDisk f (Torn 0 1) z x → OnDisk f (BecomesDump (1 ∷ rest)) z x
gate_becomes f rest z x is step =
    let torn : Torn 0 1 (0 ∷ rest) (x.files f) = subst (λ (l : List ℕ). Torn 0 1 l (x.files f)) is step.files.here in
    record {
      files = record {
        here = elim (cases_eq (get_or (x.files f) 0 0) 1) [
          | inl opened ↦ inr (inr (only_gate rest (x.files f) torn opened))
          | inr closed ↦ inr (inl (inr closed))
        ];
        others = step.files.others;
      };
      said = step.said;
    }

becomes_after : (f : ℕ) (made : List ℕ) (x y z : Left) → OnDisk f (BecomesDump made) x y → OnDisk f (BecomesDump made) y z → OnDisk f (BecomesDump made) x z
becomes_after f made x y z r s = record {
  files = record {
    here = elim s.files.here [
      | inl same ↦ subst (λ (l : List ℕ). BecomesDump made (x.files f) l) (sym same) r.files.here
      | inr other ↦ inr other
    ];
    others = λ g other. s.files.others g other ∙ r.files.others g other;
  };
  said = s.said ∙ r.said;
}

pub becomes_on : (f : ℕ) (made : List ℕ) {a b c : Clock Left} → Steps (OnDisk f (BecomesDump made)) a b → Steps (OnDisk f (BecomesDump made)) b c → Steps (OnDisk f (BecomesDump made)) a c
becomes_on f made first after = steps_on first after (λ x y z was now r s. becomes_after f made x y z r s) (λ x y was r. r)

pub same_becomes : (f : ℕ) (made : List ℕ) {a b : Clock Left} → Steps Same a b → Steps (OnDisk f (BecomesDump made)) a b
same_becomes f made steps = steps_weaken steps (λ y x was same. subst (λ (z : Left). OnDisk f (BecomesDump made) y z) (sym same) (record { files = record { here = inl refl; others = λ g other. refl }; said = refl }))

-- what the writes of one byte make of the file
shut_laid : overlay_bytes 0 (0 ∷ []) [] ≡ 0 ∷ []
unfolding overlay_bytes pad_zeros
shut_laid = refl

gate_laid : (rest : List ℕ) → overlay_bytes 0 (1 ∷ []) (0 ∷ rest) ≡ 1 ∷ rest
unfolding overlay_bytes pad_zeros
gate_laid rest = refl

at_file : (f : ℕ) (old new : Files) (at : ℕ) (bytes file : List ℕ) → new ≡ with_file old f (overlay_bytes at bytes (old f)) → old f ≡ file → new f ≡ overlay_bytes at bytes file
at_file f old new at bytes file written is = ap (λ (l : Files). l f) written ∙ with_file_here old f (overlay_bytes at bytes (old f)) ∙ ap (λ (l : List ℕ). overlay_bytes at bytes l) is

pub cut_written : (f : ℕ) (old new : Files) → new ≡ with_file old f (take 0 (old f)) → new f ≡ []
cut_written f old new cut = ap (λ (l : Files). l f) cut ∙ with_file_here old f []

pub shut_written : (f : ℕ) (old new : Files) → new ≡ with_file old f (overlay_bytes 0 (0 ∷ []) (old f)) → old f ≡ [] → new f ≡ 0 ∷ []
shut_written f old new written none = at_file f old new 0 (0 ∷ []) [] written none ∙ shut_laid

pub gate_written : (f : ℕ) (old new : Files) (rest : List ℕ) → new ≡ with_file old f (overlay_bytes 0 (1 ∷ []) (old f)) → old f ≡ 0 ∷ rest → new f ≡ 1 ∷ rest
gate_written f old new rest written is = at_file f old new 0 (1 ∷ []) (0 ∷ rest) written is ∙ gate_laid rest

-- the byte that was read
pub gate_read : (n : ℕ) (file into : List ℕ) → (n ≡ length (range 0 1 file)) × (into ≡ range 0 1 file ++ drop n (0 ∷ [])) → get_or into 0 0 ≡ get_or file 0 0
unfolding range
gate_read n [] into read = ap (λ (l : List ℕ). get_or l 0 0) read.1 ∙ ap (λ k. get_or (drop k (0 ∷ [])) 0 0) read.0
gate_read n (b ∷ bs) into read = ap (λ (l : List ℕ). get_or l 0 0) read.1
