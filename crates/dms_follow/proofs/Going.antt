-- It follows on, block by block.
use Rattle.std.proofs.Common.{ℕ, ◌≡◌, ◌||◌, inl, inr, Bool, true, false, List, [], ◌∷◌, ◌++◌, length, Option, Some, None, refl, sym, ◌∙◌, ap, subst, append_assoc}
use Rattle.std.proofs.lemmas.Bool.{cases_Bool, true≢false}
use Rattle.std.proofs.lemmas.Option.{none-some}
use Rattle.dms_history.specs.Events.{BlockBytes, Stored, Event, begin}
use Rattle.dms_history.specs.Lists.{has, until_first, until_last, after_last}
use Rattle.dms_history.specs.Places.{is_control, is_point, IsLive}
use Rattle.dms_history.specs.Images.{or_else, last_after}
use Rattle.dms_history.specs.History.{Pending, History, after_event, history_from, history}
use Rattle.dms_history.specs.Pick.{pick}
use Rattle.dms_history.specs.Restores.{is_unlogged}
use Rattle.dms_history.specs.Agrees.{BeginsAloneEvents}
use Rattle.dms_history.specs.Told.{told_block}
use Rattle.dms_history.specs.Schemas.{no_parts, parts_from}
use Rattle.dms_history.specs.Entries.{Entry, begin_restore, how_of, is_begin}
use Rattle.dms_history.specs.EntryEvents.{events, history_of, live_of, next_of}
use Rattle.dms_history.proofs.Picks.{option_cases, some_is, last_append}
use Rattle.dms_history.proofs.Picks as picks
use Rattle.dms_history.proofs.Order.{append_none}
use Rattle.dms_history.proofs.AtPoints.{split_last}
use Rattle.dms_history.proofs.Alone.{alone_events}
use Rattle.dms_history.proofs.Given.{controlled}
use Rattle.dms_history.proofs.HalfDone.{has_front}
use Rattle.dms_history.proofs.Schemas.{parts_append}
use Rattle.dms_history.proofs.Sealed.{begin_sealed, one_more_event}
use Rattle.dms_history.proofs.Stops.{log_takes}
use Rattle.dms_history.proofs.ToldBlocks.{tells_blocks}
use Rattle.dms_history.proofs.Whole.{history_clean, pending_cut}
use Rattle.dms_follow.specs.Following.{no_blocks, last_told, AgreesAlone, PendingTells, StandsBy, Follows, AllStand, settled_to, LeavesSettled, WritesSettled, AllWhole, is_change, is_control_entry, ControlsFirst}
use Rattle.dms_follow.specs.Laws.{PlainFollows, ControlFollows, BeginFollows, StandsAll, SettledFollows, WritesKeepFollowing, SettlesAll}
use Rattle.dms_follow.proofs.Growing.{more_events, events_more, history_more, or_none, Grown, grows, after_append}
use Rattle.dms_follow.proofs.Begun.{nothing_more}
use Rattle.dms_follow.proofs.Picked.{sound_nothing, opened_nothing, is_there, pick_is}
use Rattle.dms_follow.proofs.Agreeing.{relisted}

-- ---- a block without a Control and a Begin

module _ (es be : List Entry) where
  abbrev pub evs : List Event
  evs = more_events (history_of es) (parts_from no_parts es) be

  pub now : history_of (es ++ be) ≡ history_from (history_of es) evs
  now = history_more es be

  module _ (off : has is_begin be ≡ false) where
    pub grown : Grown (history_of es) (history_from (history_of es) evs) evs be
    grown = grows be (history_of es) (parts_from no_parts es) off

    pub live_now : live_of (es ++ be) ≡ live_of es ++ evs
    live_now = ap (λ (h : History). h.live) now ∙ grown.live

plain_idle : (live evs : List Event) (stored : Stored) → StandsBy None live stored → has is_control evs ≡ false → StandsBy None (live ++ evs) stored
plain_idle live evs stored stands free f b x last none =
    let cut = picks.or_none (last_after f b evs) (last_after f b (after_last is_control live))
    (sym (last_append (after_last is_control live) evs f b) ∙ ap (λ (l : List Event). last_after f b l) (sym (after_append live evs free)) ∙ none) in
    stands f b x (ap (λ o. or_else o (last_after f b live)) (sym cut.0) ∙ sym (last_append live evs f b) ∙ last) cut.1

pub plain_follows : PlainFollows
plain_follows es be stored follows off free tells = elim (option_cases (history_of es).pending) [
  | inl idle ↦
      let g = grown es be off in
      let calm = g.free free in
      let none : (history_of (es ++ be)).pending ≡ None = ap (λ (h : History). h.pending) (now es be) ∙ calm.1 ∙ idle in
      record {
        tells = tells;
        pending = λ p is. absurd (none-some p (sym none ∙ is));
        stands = subst (λ (o : Option Pending). StandsBy o (live_of (es ++ be)) stored) (sym none)
            (subst (λ (l : List Event). StandsBy None l stored) (sym (live_now es be off))
            (plain_idle (live_of es) (evs es be) stored (subst (λ (o : Option Pending). StandsBy o (live_of es) stored) idle follows.stands) calm.0));
      }
  | inr some ↦
      let g = grown es be off in
      let nothing : evs es be ≡ [] = nothing_more (events es) (evs es be) some.0 (subst (λ (l : List Event). BeginsAloneEvents l) (events_more es be) (alone_events (es ++ be) tells.alone)) some.1 (g.free free).0 g.plain in
      let same : history_of (es ++ be) ≡ history_of es = now es be ∙ ap (λ (l : List Event). history_from (history_of es) l) nothing in
      record {
        tells = tells;
        pending = λ p is. follows.pending p (ap (λ (h : History). h.pending) (sym same) ∙ is);
        stands = subst (λ (h : History). StandsBy h.pending h.live stored) (sym same) follows.stands;
      }
]

-- ---- a block with a Control

control_idle : (live us vs : List Event) (stored : Stored) → AllStand live stored → ((f b : ℕ) → last_after f b us ≡ None) → has is_control vs ≡ false → StandsBy None (live ++ (us ++ vs)) stored
control_idle live us vs stored all calm free f b x last none =
    let cut = picks.or_none (last_after f b vs) (last_after f b (after_last is_control (live ++ us)))
    (sym (last_append (after_last is_control (live ++ us)) vs f b) ∙ ap (λ (l : List Event). last_after f b l) (sym (after_append (live ++ us) vs free))
    ∙ ap (λ (l : List Event). last_after f b (after_last is_control l)) (append_assoc live us vs) ∙ none) in
    let quiet : last_after f b (us ++ vs) ≡ None = last_append us vs f b ∙ (λ i. or_else (cut.0 i) (calm f b i)) in
    all f b x (ap (λ o. or_else o (last_after f b live)) (sym quiet) ∙ sym (last_append live (us ++ vs) f b) ∙ last)

both_off : (xs ys : List Entry) → has is_begin (xs ++ ys) ≡ false → (has is_begin xs ≡ false) × (has is_begin ys ≡ false)
both_off [] ys off = (refl, off)
both_off (x ∷ xs) ys off =
    let one = or_none (is_begin x) (has is_begin (xs ++ ys)) off in
    let rest = both_off xs ys one.1 in (λ i. or_false (is_begin x) (has is_begin xs) one.0 rest.0 i, rest.1)
  where
    or_false : (a b : Bool) → a ≡ false → b ≡ false → a || b ≡ false
    or_false true b e d = e
    or_false false b e d = d

pub control_follows : ControlFollows
control_follows es be stored all off on first tells =
    let us = first.front in
    let vs = first.back in
    let halves = both_off us vs (ap (λ (l : List Entry). has is_begin l) (sym first.is) ∙ off) in
    let one = grown es us halves.0 in
    let two = grown (es ++ us) vs halves.1 in
    let whole : es ++ be ≡ (es ++ us) ++ vs = ap (λ (l : List Entry). es ++ l) first.is ∙ sym (append_assoc es us vs) in
    let live : live_of (es ++ be) ≡ live_of es ++ (evs es us ++ evs (es ++ us) vs) =
    ap live_of whole ∙ live_now (es ++ us) vs halves.1 ∙ ap (λ (l : List Event). l ++ evs (es ++ us) vs) (live_now es us halves.0) ∙ append_assoc (live_of es) (evs es us) (evs (es ++ us) vs) in
    let none : (history_of (es ++ be)).pending ≡ None = ap (λ (h : History). h.pending) (now es be) ∙ (grown es be off).ends on in
    record {
      tells = tells;
      pending = λ p is. absurd (none-some p (sym none ∙ is));
      stands = subst (λ (o : Option Pending). StandsBy o (live_of (es ++ be)) stored) (sym none)
          (subst (λ (l : List Event). StandsBy None l stored) (sym live)
          (control_idle (live_of es) (evs es us) (evs (es ++ us) vs) stored all (one.calm first.calm) (two.free first.free).0));
    }

-- ---- a Begin

pub begin_follows : BeginFollows
begin_follows es stored m kind tells idle at by_audit more =
    let live = live_of es in
    let how = how_of kind in
    let p : Pending = record { entries = live; point = m; how = how } in
    let is : history_of (es ++ begin_restore m kind ∷ []) ≡ after_event (history_of es) (begin m how) = ap history (begin_sealed es m kind) ∙ one_more_event (events es) (begin m how) in
    let found : has is_control live ≡ true = has_front (is_point m) is_control live (controlled live m at) in
    let clean = history_clean (events es) in
    let told : PendingTells p = record {
      by_audit = by_audit;
      lives = at;
      sound = sound_nothing live (next_of es) (last_told live) clean tells.lists;
      opened = opened_nothing live (next_of es) (last_told live) found tells.lists;
    } in
    let sound = sound_nothing live (next_of es) stored clean (relisted live (next_of es) (last_told live) stored tells.lists idle) in
    record {
      tells = more;
      pending = λ q at_q. subst PendingTells (some_is p q (ap (λ (h : History). h.pending) (sym is) ∙ at_q)) told;
      stands = subst (λ (h : History). StandsBy h.pending h.live stored) (sym is)
          (λ f b x last on. sym (log_takes live m f b stored on) ∙ pick_is live m stored sound told.opened at f b x last);
    }

-- ---- settling

stands_all : (p : Option Pending) (live : List Event) (stored : Stored) → AllStand live stored → StandsBy p live stored
stands_all None live stored all = λ f b x last none. all f b x last
stands_all (Some p) live stored all = λ f b x last on. all f b x last

pub settled_follows : SettledFollows
settled_follows es old stored follows all = record {
  follows = record { tells = follows.tells; pending = follows.pending; stands = stands_all (history_of es).pending (live_of es) stored all };
  idle = λ f b x last none. all f b x last;
}

writes_keep : (p : Option Pending) (live : List Event) (stored written : Stored) → AllWhole live → LeavesSettled p live stored written → StandsBy p live stored → StandsBy p live written
writes_keep None live stored written whole leaves stands = λ f b x last none.
    let was = stands f b x last none in leaves f b x last none (ap length was ∙ whole f b x last) ∙ was
writes_keep (Some p) live stored written whole leaves stands = λ f b x last on.
    let was = stands f b x last on in leaves f b x last ((tells_blocks p.entries p.point f b).logged on) (ap length was ∙ whole f b x last) ∙ was

pub writes_keep_following : WritesKeepFollowing
writes_keep_following es stored written follows whole leaves = record {
  tells = follows.tells;
  pending = follows.pending;
  stands = writes_keep (history_of es).pending (live_of es) stored written whole leaves follows.stands;
}

settle_idle : (live : List Event) (stored written : Stored) → AllWhole live → LeavesSettled None live stored written → WritesSettled None live written → StandsBy None live stored → AllStand live written
settle_idle live stored written whole leaves writes stands f b x last = elim (option_cases (last_after f b (after_last is_control live))) [
  | inl none ↦ let was = stands f b x last none in leaves f b x last none (ap length was ∙ whole f b x last) ∙ was
  | inr (y, at) ↦
      let same : y ≡ x = some_is y x (sym (ap (λ o. or_else o (last_after f b (until_last is_control live))) at) ∙ sym (last_append (until_last is_control live) (after_last is_control live) f b)
      ∙ ap (λ (l : List Event). last_after f b l) (split_last is_control live) ∙ last) in
      writes f b x y last at (ap length same ∙ whole f b x last) ∙ same
]

settle_pending : (es : List Entry) (p : Pending) (stored written : Stored) → AgreesAlone es → (history_of es).pending ≡ Some p → PendingTells p → AllWhole (live_of es)
    → LeavesSettled (Some p) (live_of es) stored written → WritesSettled (Some p) (live_of es) written → StandsBy (Some p) (live_of es) stored → AllStand (live_of es) written
settle_pending es p stored written tells is pending whole leaves writes stands f b x last =
    let m = p.point in
    let t = tells_blocks p.entries m f b in
    let told = last_told p.entries in
    let cut : live_of es ≡ until_first (is_point m) p.entries = pending_cut (events es) (alone_events es tells.alone) p is in
    let up_to : last_after f b (until_first (is_point m) p.entries) ≡ Some x = ap (λ (l : List Event). last_after f b l) (sym cut) ∙ last in
    elim (option_cases (told_block p.entries m f b)) [
      | inl none ↦ let was = stands f b x last (t.unlogged none) in leaves f b x last none (ap length was ∙ whole f b x last) ∙ was
      | inr (y, at) ↦
          let same : y ≡ x = sym (t.told told y at) ∙ pick_is p.entries m told pending.sound pending.opened pending.lives f b x up_to in
          writes f b x y last at (ap length same ∙ whole f b x last) ∙ same
    ]

pub settles_all : SettlesAll
settles_all es stored written follows whole leaves writes = elim (option_cases (history_of es).pending) [
  | inl idle ↦
      settle_idle (live_of es) stored written whole
      (subst (λ (o : Option Pending). LeavesSettled o (live_of es) stored written) idle leaves)
      (subst (λ (o : Option Pending). WritesSettled o (live_of es) written) idle writes)
      (subst (λ (o : Option Pending). StandsBy o (live_of es) stored) idle follows.stands)
  | inr (p, is) ↦
      settle_pending es p stored written follows.tells is (follows.pending p is) whole
      (subst (λ (o : Option Pending). LeavesSettled o (live_of es) stored written) is leaves)
      (subst (λ (o : Option Pending). WritesSettled o (live_of es) written) is writes)
      (subst (λ (o : Option Pending). StandsBy o (live_of es) stored) is follows.stands)
]
