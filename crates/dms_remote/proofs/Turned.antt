-- What has to stand before a block is sealed.
use Rattle.std.proofs.Common.{ℕ, ◌≡◌, ◌∙◌, ◌&&◌, ◌||◌, Bool, true, false, inl, inr, sym, subst, refl, List, [], ◌∷◌, Option, Some, None}
use Rattle.std.specs.Prelude.{is_some}
use Rattle.std.proofs.lemmas.Bool.{cases_Bool, true≢false}
use Rattle.std.proofs.lemmas.Option.{none-some}
use Rattle.dms_moments.specs.Moments.{Clock, Steps}
use Rattle.dms_moments.specs.MomentLaws.{runs_none}
use Rattle.dms_site.specs.Files.{Files, Left, Only, stored_of}
use Rattle.dms_history.specs.History.{Pending}
use Rattle.dms_history.specs.Lists.{has}
use Rattle.dms_history.specs.Entries.{is_begin}
use Rattle.dms_history.specs.EntryEvents.{history_of, live_of}
use Rattle.dms_audfile.specs.TrailEntries.{entries_in}
use Rattle.dms_audfile.specs.declared.audit_end.AuditEnd.{AuditEnd}
use Rattle.dms_restore.specs.declared.live.PendingAt.{PendingAt}
use Rattle.dms_restore.specs.declared.tracing.TrailHistory.{TrailHistory}
use Rattle.dms_follow.specs.Following.{StandsBy, AllStand, is_control_entry}
use Rattle.dms_remote.specs.Copy.{IsCopyOf, MaySeal}
use Rattle.dms_remote.specs.Next.{TakesNext, AreKinds}
use Rattle.dms_remote.specs.Settling.{HoldsCopy, StaysCopy, IsSettled}
use Rattle.dms_remote.specs.declared.kinds.Kinds.{Kinds}
use Rattle.dms_remote.proofs.Next.{may_seal}
use Rattle.dms_remote.proofs.Planned.{none_pending}

and_true : (a b : Bool) → (a && b) ≡ true → (a ≡ true) × (b ≡ true)
and_true true b is = (refl, is)
and_true false b is = absurd (cc)

or_false : (a b : Bool) → (a || b) ≡ false → (a ≡ false) × (b ≡ false)
or_false true b is = absurd (cc)
or_false false b is = (refl, is)

and_right : (a b : Bool) → a ≡ true → (a && b) ≡ false → b ≡ false
and_right true b on is = is
and_right false b on is = absurd (true≢false (sym on))

is_none : (o : Option PendingAt) → is_some o ≡ false → o ≡ None
is_none None is = refl
is_none (Some q) is = absurd (cc)

module _ (end : AuditEnd) (h : TrailHistory) (opened : Bool) (head : List ℕ) (blocks : List (List ℕ)) (block : List ℕ) (files : Files) (next : TakesNext end h opened head blocks block files) where
  -- an opened copy may be settled
  pub holds : opened ≡ true → HoldsCopy end h head blocks files
  holds on = record {
    trail = next.at.trail;
    head_is = next.at.head_is;
    follows = next.at.follows;
    traced = next.traced;
    may = record { alone = next.at.follows.tells; pending = next.at.follows.pending; controlled = next.controlled on; new = next.new };
    whole = next.whole;
  }

  -- where it was settled the block may be sealed
  pub ready_settled : (new : Files) → IsSettled end head blocks new → MaySeal end head blocks block new
  ready_settled new settled =
      may_seal end head blocks block new (record { trail = settled.trail; head_is = settled.head_is; follows = settled.stands.follows }) next.alone next.ordered next.begins (λ on. settled.stands.idle) (λ off control. settled.all)

  idle_stands : (history_of (entries_in blocks)).pending ≡ None → StandsBy None (live_of (entries_in blocks)) (stored_of files)
  idle_stands none = subst (λ (o : Option Pending). StandsBy o (live_of (entries_in blocks)) (stored_of files)) none next.at.follows.stands

  module _ (kinds : Kinds) (are : AreKinds kinds block) (not : (opened && (kinds.control || (kinds.begin && is_some h.pending))) ≡ false) where
    idle : has is_begin (entries_in (block ∷ [])) ≡ true → StandsBy None (live_of (entries_in blocks)) (stored_of files)
    idle on = elim (cases_Bool opened) [
      | inl is ↦
          (let two = or_false kinds.control (kinds.begin && is_some h.pending) (and_right opened (kinds.control || (kinds.begin && is_some h.pending)) is not) in
          idle_stands (none_pending files (entries_in blocks) h (is_none h.pending (and_right kinds.begin (is_some h.pending) (are.begin ∙ on) two.1)) next.traced))
      | inr off ↦ idle_stands (next.idle off)
    ]

    all : has is_control_entry (entries_in (block ∷ [])) ≡ true → AllStand (live_of (entries_in blocks)) (stored_of files)
    all control = elim (cases_Bool opened) [
      | inl is ↦
          (let two = or_false kinds.control (kinds.begin && is_some h.pending) (and_right opened (kinds.control || (kinds.begin && is_some h.pending)) is not) in
          absurd (true≢false (sym control ∙ sym are.control ∙ two.0)))
      | inr off ↦ (λ f b x last. absurd (none-some x (sym (next.bare off f b) ∙ last)))
    ]

    -- where nothing has to be settled it may be, too
    pub ready_before : MaySeal end head blocks block files
    ready_before = may_seal end head blocks block files next.at next.alone next.ordered next.begins idle (λ off control. all control)

  -- nothing was written
  pub stays_copy : (a : Clock Left) → Only files a → Steps (StaysCopy end.total end.tag head blocks) a a
  stays_copy a only = record {
    follows = λ x now. (x, now, subst (λ (fs : Files). IsCopyOf end.total end.tag head blocks fs) (sym (only x now)) (record { trail = record { file = end.file; count = end.count; is = next.at.trail }; head_is = next.at.head_is; follows = next.at.follows }));
    runs = runs_none a _;
  }

pub must_open : (opened control begin pending : Bool) → (opened && (control || (begin && pending))) ≡ true → opened ≡ true
must_open opened control begin pending is = (and_true opened (control || (begin && pending)) is).0
