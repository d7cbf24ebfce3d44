-- Blocks are settled by a restore: the pending one, or one to a point that would be made now.
use Rattle.std.proofs.Common.{ℕ, zero, suc, ◌+◌, ◌*◌, ◌<◌, ◌≤◌, ◌≡◌, ◌||◌, inl, inr, Bool, true, false, cond, eqb, nat_lt, List, [], ◌∷◌, ◌++◌, length, take, drop, Option, Some, None, refl, sym, ◌∙◌, ap, subst, arith}
use Rattle.std.proofs.lemmas.Bool.Decides.{nat_tests}
use Rattle.std.proofs.lemmas.Bool.{cases_Bool, cases_lt}
use Rattle.std.proofs.lemmas.Option.{none-some}
use Rattle.dms_site.specs.Files.{Files, stored_of, range}
use Rattle.dms_history.specs.Events.{BlockBytes, Stored, How, halt_load, back_out, roll_back, rebuild, reconstruct, Event, quiet}
use Rattle.dms_history.specs.Lists.{has, until_first, after_first, after_last}
use Rattle.dms_history.specs.Places as places
use Rattle.dms_history.specs.Places.{is_control, is_point}
use Rattle.dms_history.specs.Images.{or_else, last_after, first_before}
use Rattle.dms_history.specs.History.{Pending}
use Rattle.dms_history.specs.Pick.{Dumps, count_at, reached_count}
use Rattle.dms_history.specs.Base.{from_control}
use Rattle.dms_history.specs.Restores.{takes_stored}
use Rattle.dms_history.specs.Agrees.{ListAgrees}
use Rattle.dms_history.specs.Told.{told_block, undone_to}
use Rattle.dms_history.specs.Replay.{replay}
use Rattle.dms_history.specs.Entries.{Entry}
use Rattle.dms_history.specs.EntryEvents.{events, history_of, live_of, next_of}
use Rattle.dms_history.proofs.Base.{parts}
use Rattle.dms_history.proofs.Counts.{reached_append, reached_any, chain_reached}
use Rattle.dms_history.proofs.Picks.{option_cases, or_none, last_append}
use Rattle.dms_history.proofs.Alone.{alone_events}
use Rattle.dms_history.proofs.ToldBlocks.{tells_blocks}
use Rattle.dms_history.proofs.Whole.{history_clean, pending_cut}
use Rattle.dms_history.specs.Base.{opening}
use Rattle.dms_running.specs.Begun.{ByAudit}
use Rattle.dms_running.specs.ByHow.{told_by, IsKeptBy, StandsAsToldBy}
use Rattle.dms_running.specs.Restoring.{Rewritten}
use Rattle.dms_follow.specs.Following.{no_blocks, last_told, AgreesAlone, PendingTells, settled_to, settling, LeavesSettled, WritesSettled}
use Rattle.dms_follow.specs.Laws.{MaySettle, settler, RestoringLeaves, RestoringSettles}
use Rattle.dms_follow.proofs.Growing.{after_append}
use Rattle.dms_follow.proofs.Picked.{sound_nothing, opened_nothing, last_is, is_there}

-- ---- a block that stands whole

take_short : (n : ℕ) (xs : List ℕ) → length (take n xs) ≤ length xs
take_short zero xs = omega arith
take_short (suc n) [] = omega arith
take_short (suc n) (x ∷ xs) = omega (arith, take_short n xs)

room_at : (at : ℕ) (xs : List ℕ) → length (take 1024 (drop at xs)) ≡ 1024 → at + 1024 ≤ length xs
room_at zero xs whole = omega (arith, take_short 1024 xs, whole)
room_at (suc a) [] whole = absurd (omega (arith, whole))
room_at (suc a) (x ∷ xs) whole = omega (arith, room_at a xs whole)

room_of : (files : Files) (f b : ℕ) → length (stored_of files f b) ≡ 1024 → 1024 * b + 1024 ≤ length (files f)
unfolding stored_of range
room_of files f b whole = elim (cases_lt 30000 f) [
  | inl above ↦ (let on : nat_lt 30000 f ≡ true = grind (arith, nat_tests) in
      room_at (1024 * b) (files f) (ap (λ (t : Bool). length (cond t (take 1024 (drop (1024 * b) (files f))) [])) (sym on) ∙ whole))
  | inr below ↦ (let off : nat_lt 30000 f ≡ false = grind (arith, nat_tests) in
      absurd (omega (arith, ap (λ (t : Bool). length (cond t (take 1024 (drop (1024 * b) (files f))) [])) (sym off) ∙ whole)))
]

-- ---- what a restore by the audit keeps and writes

keeps_by_audit : (how : How) (live : List Event) (m f b : ℕ) → ByAudit how → told_block live m f b ≡ None → takes_stored how live m f b ≡ true
keeps_by_audit halt_load live m f b by none = (tells_blocks live m f b).unlogged none
keeps_by_audit back_out live m f b by none = (tells_blocks live m f b).unlogged none
keeps_by_audit roll_back live m f b by none = (tells_blocks live m f b).unlogged none
keeps_by_audit (rebuild d) live m f b by none = absurd by
keeps_by_audit (reconstruct d named) live m f b by none = absurd by

tells_by_audit : (how : How) (dumps : Dumps) (live : List Event) (m f b : ℕ) → ByAudit how → told_by how dumps live m f b ≡ told_block live m f b
unfolding told_by
tells_by_audit halt_load dumps live m f b by = refl
tells_by_audit back_out dumps live m f b by = refl
tells_by_audit roll_back dumps live m f b by = refl
tells_by_audit (rebuild d) dumps live m f b by = absurd by
tells_by_audit (reconstruct d named) dumps live m f b by = absurd by

-- ---- the point that would be made now

left_off : (a b : Bool) → (a || b) ≡ false → (a ≡ false) × (b ≡ false)
left_off false b off = (refl, off)
left_off true b off = absurd (cc)

or_right : (a b : Bool) → b ≡ true → (a || b) ≡ true
or_right true b on = refl
or_right false b on = on

module _ (n : ℕ) where
  now : Event
  now = quiet n

  is_now : is_point n (quiet n) ≡ true
  is_now = grind (arith, nat_tests)

  has_now : (xs : List Event) → has (is_point n) (xs ++ quiet n ∷ []) ≡ true
  has_now [] = ap (λ (t : Bool). t || false) is_now
  has_now (x ∷ xs) = or_right (is_point n x) (has (is_point n) (xs ++ quiet n ∷ [])) (has_now xs)

  until_now : (xs : List Event) → has (is_point n) xs ≡ false → until_first (is_point n) (xs ++ quiet n ∷ []) ≡ xs ++ quiet n ∷ []
  until_now [] off = ap (λ (t : Bool). cond t (quiet n ∷ []) []) is_now
  until_now (x ∷ xs) off =
      let two = left_off (is_point n x) (has (is_point n) xs) off in
      (λ i. cond (two.0 i) (x ∷ []) (cond (has_now xs i) (x ∷ until_first (is_point n) (xs ++ quiet n ∷ [])) [])) ∙ ap (λ (l : List Event). x ∷ l) (until_now xs two.1)

  after_now : (xs : List Event) → has (is_point n) xs ≡ false → after_first (is_point n) (xs ++ quiet n ∷ []) ≡ []
  after_now [] off = ap (λ (t : Bool). cond t [] []) is_now
  after_now (x ∷ xs) off =
      let two = left_off (is_point n x) (has (is_point n) xs) off in
      ap (λ (t : Bool). cond t (xs ++ quiet n ∷ []) (after_first (is_point n) (xs ++ quiet n ∷ []))) two.0 ∙ after_now xs two.1

  or_none_is : (o : Option BlockBytes) → or_else o None ≡ o
  or_none_is None = refl
  or_none_is (Some x) = refl

  told_now : (live : List Event) (f b : ℕ) → has (is_point n) live ≡ false → told_block (live ++ quiet n ∷ []) n f b ≡ last_after f b (after_last is_control live)
  unfolding told_block
  told_now live f b off =
      (λ i. or_else (last_after f b (after_last is_control (until_now live off i))) (undone_to (first_before f b (after_now live off i))))
      ∙ or_none_is (last_after f b (after_last is_control (live ++ quiet n ∷ [])))
      ∙ ap (λ (l : List Event). last_after f b l) (after_append live (quiet n ∷ []) refl)
      ∙ last_append (after_last is_control live) (quiet n ∷ []) f b

  count_now : (live : List Event) (f : ℕ) → has (is_point n) live ≡ false → count_at (live ++ quiet n ∷ []) n f ≡ reached_count f 0 live
  unfolding count_at
  count_now live f off = ap (λ (l : List Event). reached_count f 0 l) (until_now live off) ∙ reached_append live (quiet n ∷ []) f 0

-- a block with a live after-image is below the count that is reached
from_has : (es : List Event) → has is_control es ≡ true → has is_control (from_control es) ≡ true
from_has [] found = absurd (cc)
from_has (e ∷ es) found = elim (cases_Bool (is_control e)) [
  | inl on ↦ ap (λ (t : Bool). has is_control (cond t (e ∷ es) (from_control es))) on ∙ found
  | inr off ↦ ap (λ (t : Bool). has is_control (cond t (e ∷ es) (from_control es))) off ∙ from_has es (ap (λ (t : Bool). t || has is_control es) (sym off) ∙ found)
]

reached_there : (live : List Event) (next f b : ℕ) (x : BlockBytes) → has places.is_begin live ≡ false → has is_control live ≡ true → ListAgrees true live next (last_told live) → last_after f b live ≡ Some x → b < reached_count f 0 live
reached_there live next f b x clean found lists last =
    let sound = sound_nothing live next (last_told live) clean lists in
    let low = (last_is live f b x sound.chain (opened_nothing live next (last_told live) found lists) last).0 in
    let count : reached_count f 0 (from_control live) ≡ length (replay (from_control live) no_blocks f) = chain_reached (from_control live) no_blocks f sound.chain in
    let same : reached_count f 0 live ≡ reached_count f 0 (from_control live) =
    ap (λ (l : List Event). reached_count f 0 l) (sym (parts live)) ∙ reached_append (opening live) (from_control live) f 0 ∙ reached_any (from_control live) f (reached_count f 0 (opening live)) 0 (from_has live found) in
    omega (arith, low, count, same)

-- ---- it is below the count of the settling restore, which is by the audit and tells of it what settling writes

record Told (es : List Entry) (n f b : ℕ) : Type 0 where
  by_audit : ByAudit (settler es n).how
  low : b < count_at (settler es n).entries (settler es n).point f
  same : told_block (settler es n).entries (settler es n).point f b ≡ settled_to (history_of es).pending (live_of es) f b

told_of : (es : List Entry) (n f b : ℕ) (x : BlockBytes) → MaySettle es n → last_after f b (live_of es) ≡ Some x → Told es n f b
told_of es n f b x may last = by (history_of es).pending refl
  where
    low_as : (o : Option Pending) → (history_of es).pending ≡ o → b < count_at (settling o (live_of es) n).entries (settling o (live_of es) n).point f
    low_as None is =
        omega (arith, count_now n (live_of es) f may.new, reached_there (live_of es) (next_of es) f b x (history_clean (events es)) may.controlled may.alone.lists last)
    low_as (Some p) is =
        let pending = may.pending p is in
        let cut : live_of es ≡ until_first (is_point p.point) p.entries = pending_cut (events es) (alone_events es may.alone.alone) p is in
        is_there p.entries p.point (last_told p.entries) pending.sound pending.opened pending.lives f b x (ap (λ (l : List Event). last_after f b l) (sym cut) ∙ last)

    audit_as : (o : Option Pending) → (history_of es).pending ≡ o → ByAudit (settling o (live_of es) n).how
    audit_as None is = tt
    audit_as (Some p) is = (may.pending p is).by_audit

    same_as : (o : Option Pending) → told_block (settling o (live_of es) n).entries (settling o (live_of es) n).point f b ≡ settled_to o (live_of es) f b
    same_as None = told_now n (live_of es) f b may.new
    same_as (Some p) = refl

    by : (o : Option Pending) → (history_of es).pending ≡ o → Told es n f b
    by o is = record { by_audit = audit_as (history_of es).pending refl; low = low_as (history_of es).pending refl; same = same_as (history_of es).pending }

pub restoring_leaves : RestoringLeaves
restoring_leaves es n old new may rewritten f b x last none whole =
    let p = settler es n in
    let t = told_of es n f b x may last in
    rewritten.kept f b (t.low, keeps_by_audit p.how p.entries p.point f b t.by_audit (t.same ∙ none)) (room_of old f b whole)

pub restoring_settles : RestoringSettles
restoring_settles es n dumps new may told f b x y last at whole =
    let p = settler es n in
    let t = told_of es n f b x may last in
    told f b t.low y (tells_by_audit p.how dumps p.entries p.point f b t.by_audit ∙ t.same ∙ at) whole
