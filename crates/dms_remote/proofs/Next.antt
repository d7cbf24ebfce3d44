-- When the next block may be sealed.
use Rattle.std.proofs.Common.{ℕ, ◌≡◌, ◌∙◌, inl, inr, true, false, sym, ap, subst, refl, List, [], ◌∷◌, ◌++◌, append_assoc, Option, None}
use Rattle.std.proofs.lemmas.Bool.{cases_Bool}
use Rattle.std.proofs.lemmas.Option.{none-some}
use Rattle.dms_site.specs.Files.{Files, stored_of}
use Rattle.dms_history.specs.History.{Pending}
use Rattle.dms_history.specs.Lists.{has}
use Rattle.dms_history.specs.Entries.{Entry, is_begin}
use Rattle.dms_history.specs.EntryEvents.{live_of}
use Rattle.dms_audfile.specs.Blocks.{block_entries}
use Rattle.dms_audfile.specs.TrailEntries.{entries_of, entries_in}
use Rattle.dms_audfile.specs.declared.audit_end.AuditEnd.{AuditEnd}
use Rattle.dms_follow.specs.Following.{AgreesAlone, StandsBy, Follows, AllStand, is_control_entry, ControlsFirst}
use Rattle.dms_follow.proofs.Going.{plain_follows, control_follows, begin_follows}
use Rattle.dms_remote.specs.Copy.{MaySeal}
use Rattle.dms_remote.specs.Next.{IsCopyAt, BeginsLive, PlainIsNext, ControlIsNext, FirstIsNext, BeginIsNext, IdleIsNext}

-- the entries with one more block
pub entries_more : (bs : List (List ℕ)) (b : List ℕ) → entries_in (bs ++ b ∷ []) ≡ entries_in bs ++ entries_in (b ∷ [])
entries_more [] b = refl
entries_more (c ∷ bs) b = ap (λ (l : List Entry). entries_of (block_entries c) ++ l) (entries_more bs b) ∙ sym (append_assoc (entries_of (block_entries c)) (entries_in bs) (entries_in (b ∷ [])))

module _ (end : AuditEnd) (head : List ℕ) (blocks : List (List ℕ)) (block : List ℕ) (files : Files) (at : IsCopyAt end head blocks files) (alone : AgreesAlone (entries_in (blocks ++ block ∷ []))) where
  more : AgreesAlone (entries_in blocks ++ entries_in (block ∷ []))
  more = subst (λ (es : List Entry). AgreesAlone es) (entries_more blocks block) alone

  sealed : Follows (entries_in blocks ++ entries_in (block ∷ [])) (stored_of files) → MaySeal end head blocks block files
  sealed follows = record {
    trail = at.trail;
    head_is = at.head_is;
    follows = at.follows;
    follows_next = subst (λ (es : List Entry). Follows es (stored_of files)) (sym (entries_more blocks block)) follows;
  }

pub plain_is_next : PlainIsNext
plain_is_next end head blocks block files at alone no_begin no_control =
    sealed end head blocks block files at alone (plain_follows (entries_in blocks) (entries_in (block ∷ [])) (stored_of files) at.follows no_begin no_control (more end head blocks block files at alone))

pub control_is_next : ControlIsNext
control_is_next end head blocks block files at alone all ordered no_begin control =
    sealed end head blocks block files at alone (control_follows (entries_in blocks) (entries_in (block ∷ [])) (stored_of files) all no_begin control ordered (more end head blocks block files at alone))

pub first_is_next : FirstIsNext
first_is_next end head blocks block files at alone none = control_is_next end head blocks block files at alone (λ f b x last. absurd (none-some x (sym (none f b) ∙ last)))

pub begin_is_next : BeginIsNext
begin_is_next end head blocks block files m kind at alone idle is lives by_audit =
    sealed end head blocks block files at alone
    (subst (λ (be : List Entry). Follows (entries_in blocks ++ be) (stored_of files)) (sym is)
    (begin_follows (entries_in blocks) (stored_of files) m kind at.follows.tells idle lives by_audit
    (subst (λ (be : List Entry). AgreesAlone (entries_in blocks ++ be)) is (more end head blocks block files at alone))))

pub idle_is_next : IdleIsNext
idle_is_next end head blocks block files m kind at alone none =
    begin_is_next end head blocks block files m kind at alone (subst (λ (o : Option Pending). StandsBy o (live_of (entries_in blocks)) (stored_of files)) none at.follows.stands)

-- ---- one turn

-- It may be sealed where all blocks stand, or nothing needs them to.
pub may_seal : (end : AuditEnd) (head : List ℕ) (blocks : List (List ℕ)) (block : List ℕ) (files : Files) → IsCopyAt end head blocks files → AgreesAlone (entries_in (blocks ++ block ∷ [])) → ControlsFirst (entries_in (block ∷ []))
    → (has is_begin (entries_in (block ∷ [])) ≡ true → BeginsLive blocks block) → (has is_begin (entries_in (block ∷ [])) ≡ true → StandsBy None (live_of (entries_in blocks)) (stored_of files))
    → (has is_begin (entries_in (block ∷ [])) ≡ false → has is_control_entry (entries_in (block ∷ [])) ≡ true → AllStand (live_of (entries_in blocks)) (stored_of files)) → MaySeal end head blocks block files
may_seal end head blocks block files at alone ordered begins idle all = elim (cases_Bool (has is_begin (entries_in (block ∷ [])))) [
  | inl on ↦ (let b = begins on in begin_is_next end head blocks block files b.point b.kind at alone (idle on) b.alone b.lives b.by_audit)
  | inr off ↦ elim (cases_Bool (has is_control_entry (entries_in (block ∷ [])))) [
    | inl control ↦ control_is_next end head blocks block files at alone (all off control) ordered off control
    | inr none ↦ plain_is_next end head blocks block files at alone off none
  ]
]
