-- Entries of a new trail, start behind another.
use Rattle.std.proofs.Common.{ℕ, ◌<◌, ◌≤◌, ◌≡◌, ◌≢◌, inl, inr, List, [], ◌∷◌, ◌++◌, take, drop, refl, sym, ◌∙◌, ap, subst, arith, append-nil, append_assoc}
use Rattle.std.proofs.lemmas.List.{take-append-drop}
use Rattle.dms_moments.specs.Moments.{Clock, Steps}
use Rattle.dms_moments.specs.MomentLaws.{steps_weaken}
use Rattle.dms_site.specs.Files.{Files, Left}
use Rattle.dms_history.specs.Entries.{Entry}
use Rattle.dms_audfile.specs.Trail.{trail_from}
use Rattle.dms_audfile.specs.TrailEntries.{trail_entries}
use Rattle.dms_audfile.specs.Sealing.{IsWrittenUpTo}
use Rattle.dms_audfile.specs.Ends.{EndsAt, AllHoldAnEntry, Grown, Seals, Appends}
use Rattle.dms_audfile.specs.EndLaws.{filled_on}
use Rattle.dms_audfile.specs.declared.audit_end.AuditEnd.{AuditEnd}
use Rattle.dms_creation.specs.Clearing.{KeepsApart, IsClear, ApartStay}
use Rattle.dms_creation.specs.Laid.{Laid}
use Rattle.dms_creation.proofs.Cleared.{apart_audit, not_first}
use Rattle.dms_creation.specs.Creation.{IsFirstTrail}

pub keeps_sealing : (total tag : ℕ) (es : List Entry) {a b : Clock Left} → Steps (Seals total tag 10001 es) a b → Steps KeepsApart a b
keeps_sealing total tag es steps = steps_weaken steps (λ z x now s. record { apart = λ g a. elim (apart_audit g a) [ inl low ↦ s.below g low | inr high ↦ s.above g high ]; said = s.said })

filled_more : (total t : ℕ) (old files : Files) → t ≡ total → AllHoldAnEntry (trail_from 10000 total 10001 old) → Grown t 10001 old files → AllHoldAnEntry (trail_from 10000 t 10001 files)
filled_more total t old files same filled grown =
    subst (λ (l : List (List ℕ)). AllHoldAnEntry l) (sym grown.trail) (filled_on (trail_from 10000 t 10001 old) grown.made (subst (λ k. AllHoldAnEntry (trail_from 10000 k 10001 old)) (sym same) filled) grown.filled)

-- one entry more
pub laid_more : (end new : AuditEnd) (entries : List Entry) (e : Entry) (start : Files) (old files : Files) (a b : Clock Left) (l : Laid end entries start old a) → Appends new 10001 (l.waiting ++ e ∷ []) old files b → new.total ≡ end.total → end.file ≤ new.file
    → ((g : ℕ) → g < end.file → files g ≡ old g) → ((g : ℕ) → new.file < g → files g ≡ old g) → Laid new (entries ++ e ∷ []) start files b
laid_more end new entries e start old files a b l m same order before behind =
    let more : List Entry = l.waiting ++ e ∷ [] in
    record {
      waiting = drop m.some more;
      ends = m.ends;
      plain = m.plain;
      all = ap (λ (x : List Entry). x ++ drop m.some more) m.sealed
          ∙ append_assoc (trail_entries new.total 10001 old) (take m.some more) (drop m.some more)
          ∙ ap (λ (x : List Entry). trail_entries new.total 10001 old ++ x) (take-append-drop m.some more)
          ∙ sym (append_assoc (trail_entries new.total 10001 old) l.waiting (e ∷ []))
          ∙ ap (λ t. (trail_entries t 10001 old ++ l.waiting) ++ e ∷ []) same
          ∙ ap (λ (x : List Entry). x ++ e ∷ []) l.all;
      filled = filled_more end.total new.total old files same l.filled m.grown;
      behind = λ g far high. behind g far ∙ l.behind g (omega (arith, far, order)) high;
      dumps = λ g low high. behind g (omega (arith, low, new.high)) ∙ l.dumps g low high;
      structures = λ g low high. behind g (omega (arith, low, new.high)) ∙ l.structures g low high;
      apart = λ g a. elim (apart_audit g a) [ inl low ↦ before g (omega (arith, low, end.low)) ∙ l.apart g a | inr high ↦ behind g (omega (arith, high, new.high)) ∙ l.apart g a ];
    }

-- the header alone
pub laid_first : (total : ℕ) (end : AuditEnd) (old files : Files) (clock : Clock Left) → EndsAt end 10001 [] files clock → trail_from 10000 total 10001 files ≡ [] → trail_entries total 10001 files ≡ [] → end.total ≡ total → ((g : ℕ) → g ≢ 10001 → files g ≡ old g)
    → IsClear old → end.file ≡ 10001 → Laid end [] old files clock
laid_first total end old files clock ends trail entries same others clear front = record {
  waiting = [];
  ends = ends;
  plain = tt;
  all = append-nil (trail_entries end.total 10001 files) ∙ ap (λ t. trail_entries t 10001 files) same ∙ entries;
  filled = subst (λ (l : List (List ℕ)). AllHoldAnEntry l) (sym (ap (λ t. trail_from 10000 t 10001 files) same ∙ trail)) tt;
  behind = λ g far high. others g (omega (arith, far, front)) ∙ clear.audit g (omega (arith, far, front)) high;
  dumps = λ g low high. others g (omega (arith, low)) ∙ clear.dumps g low high;
  structures = λ g low high. others g (omega (arith, low)) ∙ clear.structures g low high;
  apart = λ g a. others g (not_first g a);
}

-- all is sealed
module _ (end new : AuditEnd) (entries : List Entry) (start : Files) (old files : Files) (a b : Clock Left) (l : Laid end entries start old a) (sealed : trail_entries end.total 10001 files ≡ trail_entries end.total 10001 old ++ l.waiting)
    (ends : EndsAt new 10001 [] files b) (grown : Grown end.total 10001 old files) (total : new.total ≡ end.total) (order : end.file ≤ new.file)
    (before : (g : ℕ) → g < end.file → files g ≡ old g) (behind : (g : ℕ) → new.file < g → files g ≡ old g) where
  pub stands_apart : ApartStay start files
  stands_apart g a = elim (apart_audit g a) [ inl low ↦ before g (omega (arith, low, end.low)) ∙ l.apart g a | inr high ↦ behind g (omega (arith, high, new.high)) ∙ l.apart g a ]

  pub stands_all : (tag blocks : ℕ) → new.tag ≡ tag → end.total ≡ blocks → IsFirstTrail tag blocks entries files
  stands_all tag blocks marked wide = record {
    file = new.file;
    count = new.count;
    writes = subst (λ t. IsWrittenUpTo blocks t 10001 new.file new.count files) marked (subst (λ t. IsWrittenUpTo t new.tag 10001 new.file new.count files) (total ∙ wide) ends.writes);
    high = new.high;
    exactly = subst (λ t. trail_entries t 10001 files ≡ entries) wide (sealed ∙ l.all);
    filled = subst (λ t. AllHoldAnEntry (trail_from 10000 t 10001 files)) wide (filled_more end.total end.total old files refl l.filled grown);
    behind = λ g far high. behind g far ∙ l.behind g (omega (arith, far, order)) high;
    dumps = λ g low high. behind g (omega (arith, low, new.high)) ∙ l.dumps g low high;
    structures = λ g low high. behind g (omega (arith, low, new.high)) ∙ l.structures g low high;
  }
