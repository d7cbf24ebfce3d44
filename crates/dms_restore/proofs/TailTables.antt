-- The table of a point from what stands behind an earlier Control.
use Rattle.std.specs.Prelude.{◌==◌, ◌||◌}
use Rattle.std.proofs.Common.{ℕ, zero, suc, ◌+◌, ◌<◌, ◌≤◌, ◌≡◌, inl, inr, Bool, true, false, cond, List, [], ◌∷◌, ◌++◌, map, length, take, drop, get_or, Option, Some, refl, sym, ◌∙◌, ap, subst, arith, append_assoc}
use Rattle.std.proofs.lemmas.Bool.{cases_Bool, true≢false}
use Rattle.std.proofs.lemmas.Bool.Decides.{nat_tests}
use Rattle.std.proofs.lemmas.List.{map-append, take-append-drop}
use Rattle.dms_site.specs.Files.{Files, stored_of}
use Rattle.dms_history.specs.Agrees.{Numbered, ListAgrees}
use Rattle.dms_history.specs.Here.{here, here_by}
use Rattle.dms_history.specs.History.{Pending}
use Rattle.dms_history.specs.Entries.{Entry, schema_part, image, byte_range, quiet_point, control_point, begin_restore, counts_in}
use Rattle.dms_history.specs.EntryEvents.{events_in, history_of, live_of, next_of}
use Rattle.dms_history.specs.Events.{Counts, Event, Stored, control}
use Rattle.dms_history.specs.Images.{or_else, last_after, first_before}
use Rattle.dms_history.specs.LawsOfRanges.{HasImages}
use Rattle.dms_history.specs.Lists.{has, until_first, after_first, after_last}
use Rattle.dms_history.specs.Places.{is_control, is_point, point_numbers}
use Rattle.dms_history.specs.Ranges.{Logged, event, all_changes, live_logged, is_control_logged}
use Rattle.dms_history.specs.Schemas.{no_parts, parts_from, is_whole}
use Rattle.dms_history.specs.Told.{undone_to, told_block}
use Rattle.dms_history.specs.declared.event.FileCount.{FileCount}
use Rattle.dms_history.proofs.AtPoints.{or_no, or_true_right}
use Rattle.dms_history.proofs.Base.{has_append, after_behind}
use Rattle.dms_history.proofs.Cuts.{until_none}
use Rattle.dms_history.proofs.Order.{append_none, point_among, points_append}
use Rattle.dms_history.proofs.Schemas.{logged_append}
use Rattle.dms_history.proofs.Splits.{ranges_split}
use Rattle.dms_audfile.specs.AuditTrail.{EntriesAreThere, AreThere, entry_there}
use Rattle.dms_audfile.specs.Ends.{Grown}
use Rattle.dms_audfile.specs.ScanLaws.{PlacesStay}
use Rattle.dms_audfile.specs.Scanning.{Placed, place_in, entry_in, whole}
use Rattle.dms_audfile.specs.Sealing.{IsWrittenUpTo}
use Rattle.dms_audfile.specs.Tails.{tail_read, ReadsPlaces, TailIsFound}
use Rattle.dms_audfile.specs.TrailEntries.{trail_entries}
use Rattle.dms_audfile.specs.declared.audit_end.AuditEnd.{AuditEnd}
use Rattle.dms_audfile.specs.declared.place.EntryPlace.{EntryPlace}
use Rattle.dms_restore.specs.declared.audit_block.AuditBlock.{AuditBlock}
use Rattle.dms_restore.specs.declared.live.LiveEntry.{LiveEntry}
use Rattle.dms_restore.specs.declared.live.LiveEntry.TheVariants.{Quiet}
use Rattle.dms_restore.specs.declared.told.Told.{Told}
use Rattle.dms_restore.specs.declared.trace.TrailTrace.{TrailTrace}
use Rattle.dms_restore.specs.declared.tracing.TrailHistory.{TrailHistory}
use Rattle.dms_restore.specs.Finding.{IsFoundFrom}
use Rattle.dms_restore.specs.LiveEntries.{logged_live, changes_at, AllStandWhole}
use Rattle.dms_restore.specs.Logging.{LogView, telling, state, entries, LogRuns}
use Rattle.dms_running.specs.Standing.{MayRun}
use Rattle.dms_running.proofs.Appending.{now_runs}
use Rattle.dms_running.proofs.Wholes.{stands_agrees}
use Rattle.dms_restore.specs.Scanned.{AreInAudit}
use Rattle.dms_restore.specs.Table.{IsTable, IsTableOver}
use Rattle.dms_restore.specs.TailTables.{IsInTrail, control_number, AreInOrder, TellsPlaced, TellsLast, HasControl, FindsControl, IsOrdered, TellsTrail, IsAtLastControl, Undoes, UndoesLast, UndoesPlaced, Serves}
use Rattle.dms_restore.specs.Traces.{TracesPlaces}
use Rattle.dms_restore.specs.Tracing.{IsTraced}
use Rattle.dms_restore.proofs.Changes.{live_append, live_changes}
use Rattle.dms_restore.proofs.InAudit.{found_in_audit}
use Rattle.dms_restore.proofs.Logs as lemmas
use Rattle.dms_restore.proofs.Logs.{ReadsNow}
use Rattle.dms_restore.proofs.Patched.{control_from, behind_control, at_control, no_control}
use Rattle.dms_restore.proofs.BackTables.{quiet_first, undoes_quiet, table_over, table_as}
use Rattle.dms_restore.proofs.ReadOn.{no_place, get_place, there_at, map_length}
use Rattle.dms_restore.proofs.RunLoops.{drop_at}

-- ---- lists of which the first part has none of a kind

has_on : {A : Type 0} (p : A → Bool) (xs ys : List A) → has p ys ≡ true → has p (xs ++ ys) ≡ true
has_on p [] ys on = on
has_on p (x ∷ xs) ys on = or_true_right (p x) (has p (xs ++ ys)) (has_on p xs ys on)

until_on : {A : Type 0} (p : A → Bool) (xs ys : List A) → has p xs ≡ false → has p ys ≡ true → until_first p (xs ++ ys) ≡ xs ++ until_first p ys
until_on p [] ys off on = refl
until_on {A} p (x ∷ xs) ys off on =
    let both = or_no (p x) (has p xs) off in
    (λ i. cond (both.0 i) (x ∷ []) (cond (has_on p xs ys on i) (x ∷ until_first p (xs ++ ys)) [])) ∙ ap (λ (l : List A). x ∷ l) (until_on p xs ys both.1 on)

after_on : {A : Type 0} (p : A → Bool) (xs ys : List A) → has p xs ≡ false → after_first p (xs ++ ys) ≡ after_first p ys
after_on p [] ys off = refl
after_on p (x ∷ xs) ys off =
    let both = or_no (p x) (has p xs) off in
    ap (λ k. cond k (xs ++ ys) (after_first p (xs ++ ys))) both.0 ∙ after_on p xs ys both.1

-- ---- what is told of a point behind a Control

module _ (before behind : List Event) (k next : ℕ) (counts : Counts) (described : Bool) (m : ℕ) (above : k < m) where
  abbrev c : Event
  c = control k next counts described

  abbrev upto : List Event
  upto = before ++ c ∷ []

  other : (k == m) ≡ false
  other = grind (arith, nat_tests, above)

  -- no point before it has so great a number
  none_before : (last : ℕ) → Numbered (before ++ c ∷ behind) last → has (is_point m) before ≡ false
  none_before last numbered = elim (cases_Bool (has (is_point m) before)) [
    | inr off ↦ off
    | inl found ↦
        let among = point_among before m found in
        let is : point_numbers (before ++ c ∷ behind) ≡ among.0 ++ m ∷ (among.1 ++ k ∷ point_numbers behind) =
        points_append before (c ∷ behind) ∙ ap (λ (l : List ℕ). l ++ k ∷ point_numbers behind) among.2 ∙ append_assoc among.0 (m ∷ among.1) (k ∷ point_numbers behind) in
        let le : m ≤ k = numbered.never_fall among.0 among.1 (point_numbers behind) m k is in
        absurd (omega (arith, le, above))
  ]

  module _ (none : has (is_point m) before ≡ false) where
    whole_is : upto ++ behind ≡ before ++ c ∷ behind
    whole_is = append_assoc before (c ∷ []) behind

    none_upto : has (is_point m) upto ≡ false
    none_upto = has_append (is_point m) before (c ∷ []) ∙ (λ i. none i || (other i || false))

    late_same : after_last is_control (until_first (is_point m) (before ++ c ∷ behind)) ≡ after_last is_control (until_first (is_point m) behind)
    late_same = ap (λ (l : List Event). after_last is_control (until_first (is_point m) l)) (sym whole_is) ∙ elim (cases_Bool (has (is_point m) behind)) [
      | inl on ↦
          ap (λ (l : List Event). after_last is_control l) (until_on (is_point m) upto behind none_upto on ∙ append_assoc before (c ∷ []) (until_first (is_point m) behind))
          ∙ after_behind is_control before (c ∷ until_first (is_point m) behind) refl
      | inr off ↦
          ap (λ (l : List Event). after_last is_control l)
          (until_none (is_point m) (upto ++ behind) (has_append (is_point m) upto behind ∙ (λ i. none_upto i || off i)) ∙ sym (until_none (is_point m) behind off))
    ]

    beyond_same : after_first (is_point m) (before ++ c ∷ behind) ≡ after_first (is_point m) behind
    beyond_same = ap (λ (l : List Event). after_first (is_point m) l) (sym whole_is) ∙ after_on (is_point m) upto behind none_upto

    told_same : (f b : ℕ) → told_block (before ++ c ∷ behind) m f b ≡ told_block behind m f b
    unfolding told_block
    told_same f b = λ i. or_else (last_after f b (late_same i)) (undone_to (first_before f b (beyond_same i)))

  -- so the table of what stands behind it is that of all
  table_same : (last : ℕ) (files : Files) (table : List Told) → Numbered (before ++ c ∷ behind) last → IsTable behind m files table → IsTable (before ++ c ∷ behind) m files table
  table_same last files table numbered t = record { whole = t.whole; tells = λ f b. told_same (none_before last numbered) f b ∙ t.tells f b; among = t.among }

-- ---- entries behind a Control

control_first : (k next : ℕ) (counts : Counts) (described : Bool) (xs : List Logged) → all_changes (event (control k next counts described) ∷ xs) ≡ control k next counts described ∷ all_changes xs
unfolding all_changes
control_first k next counts described xs = control_from k next counts described xs []

-- where all stands behind the last Control there is none
none_late : (xs : List Logged) → after_last is_control_logged xs ≡ xs → has is_control (all_changes xs) ≡ false
unfolding all_changes
none_late xs same = elim (cases_Bool (has is_control_logged xs)) [
  | inl on ↦ absurd (true≢false (sym on ∙ ap (λ (l : List Logged). has is_control_logged l) (sym same) ∙ (at_control xs on).none))
  | inr off ↦ no_control xs [] refl off
]

module _ (files : Files) (front es : List Entry) (k next : ℕ) (counts : List FileCount) (h : TrailHistory) (t : IsTraced files es h) (plain : h.begun ≡ false) where
  abbrev all : List Entry
  all = front ++ control_point k next counts ∷ es

  abbrev before_it : List Logged
  before_it = live_logged [] (events_in front)

  abbrev described : Bool
  described = is_whole (parts_from no_parts front)

  abbrev behind_it : List Logged
  behind_it = logged_live files h.live.items

  live_all : live_logged [] (events_in all) ≡ before_it ++ event (control k next (counts_in counts) described) ∷ behind_it
  live_all =
      let x = event (control k next (counts_in counts) described) in
      ap (live_logged []) (logged_append front (control_point k next counts ∷ es) no_parts) ∙ live_append (events_in front) (x ∷ events_in es) []
      ∙ t.follows plain (before_it ++ x ∷ []) ∙ append_assoc before_it (x ∷ []) behind_it

  changes_all : HasImages (live_logged [] (events_in all)) → live_of all ≡ all_changes before_it ++ control k next (counts_in counts) described ∷ all_changes behind_it
  changes_all images =
      live_changes all ∙ ap all_changes live_all ∙ ranges_split before_it behind_it k next (counts_in counts) described (subst HasImages live_all images)
      ∙ ap (λ (l : List Event). all_changes before_it ++ l) (control_first k next (counts_in counts) described behind_it)

  table_all : (m : ℕ) (table : List Told) → k < m → AreInOrder all → IsTable (changes_at files h.live.items) m files table → IsTable (live_of all) m files table
  table_all m table above order is =
      let same = changes_all order.images in
      subst (λ (l : List Event). IsTable l m files table) (sym same)
      (table_same (all_changes before_it) (all_changes behind_it) k next (counts_in counts) described m above (next_of all) files table (subst (λ (l : List Event). Numbered l (next_of all)) same order.numbered) is)

  -- a table that undoes what stands behind this Control, where it is the last one
  undoes_all : (table : List Told) → AreInOrder all → after_last is_control_logged behind_it ≡ behind_it → IsTable (changes_at files (Quiet 0 ∷ h.live.items)) 0 files table → UndoesLast all files table
  undoes_all table order late is =
      let since = all_changes behind_it in
      let c = control k next (counts_in counts) described in
      let last : after_last is_control (live_of all) ≡ since =
      ap (λ (l : List Event). after_last is_control l) (changes_all order.images)
      ∙ behind_control (all_changes before_it) since k next (counts_in counts) described (none_late behind_it late) in
      subst (λ (l : List Event). Undoes l files table) (sym last) (undoes_quiet since files table (subst (λ (l : List Event). IsTable l 0 files table) (quiet_first 0 behind_it) is))

-- the table of the entries that were read
pub tells_placed : (old : Files) (places : List EntryPlace) (m : ℕ) (t : TrailTrace) (lent : List LiveEntry) (table : List Told) → lent ≡ t.history.live.items → t.history.begun ≡ false → TracesPlaces old places t
    → ((files : Files) → AllStandWhole files lent → IsTable (changes_at files lent) m files table) → TellsPlaced old places m table
tells_placed old places m t lent table same plain traces is placed audit are there new also front k next counts above order =
    let h = (traces audit placed are there new also).history in
    table_all new front (map entry_in placed) k next counts t.history h plain m table above order
    (subst (λ (l : List LiveEntry). AllStandWhole new l → IsTable (changes_at new l) m new table) same (is new) h.live_whole)

-- so it is of a table that undoes them
pub undoes_placed : (old : Files) (places : List EntryPlace) (t : TrailTrace) (lent : List LiveEntry) (table : List Told) → lent ≡ t.history.live.items → t.history.begun ≡ false → TracesPlaces old places t
    → ((files : Files) → after_last is_control_logged (logged_live files lent) ≡ logged_live files lent)
    → ((files : Files) → AllStandWhole files lent → IsTable (changes_at files (Quiet 0 ∷ lent)) 0 files table) → UndoesPlaced old places table
undoes_placed old places t lent table same plain traces last is placed audit are there new also front k next counts order =
    let h = (traces audit placed are there new also).history in
    undoes_all new front (map entry_in placed) k next counts t.history h plain table order
    (subst (λ (l : List LiveEntry). after_last is_control_logged (logged_live new l) ≡ logged_live new l) same (last new))
    (subst (λ (l : List LiveEntry). AllStandWhole new l → IsTable (changes_at new (Quiet 0 ∷ l)) 0 new table) same (is new) h.live_whole)

-- ---- a Control among the last entries

pub control_found : (files other : Files) (places : List EntryPlace) (i number : ℕ) (d : EntryPlace) → i < length places → other ≡ files
    → ((e : Entry) → entry_there other (get_or places i d) ≡ Some e → Some number ≡ control_number e) → FindsControl files places (i + 1) number
control_found files other places i number d low same is placed are there =
    let under : i < length placed = omega (arith, low, ap length are, map_length placed) in
    let p = get_or placed i no_place in
    let at : get_or places i d ≡ p.place = ap (λ (l : List EntryPlace). get_or l i d) are ∙ get_place placed i d under in
    let here : entry_there other (get_or places i d) ≡ Some p.entry = (λ j. entry_there (same j) (at j)) ∙ (there_at files placed i under there).there in
    record {
      front = take i placed;
      control = p;
      are = sym (take-append-drop i placed) ∙ ap (λ (l : List Placed). take i placed ++ l) (drop_at placed i no_place under);
      number_is = sym (is p.entry here);
    }

control_is : (e : Entry) (number : ℕ) → control_number e ≡ Some number → (next : ℕ) × (counts : List FileCount) × (e ≡ control_point number next counts)
control_is (schema_part part parts bytes) number is = absurd cc
control_is (image f b before after) number is = absurd cc
control_is (byte_range f b place bytes) number is = absurd cc
control_is (quiet_point n) number is = absurd cc
control_is (control_point n next counts) number is =
    let same : n ≡ number = cc is in
    (next, counts, ap (λ j. control_point j next counts) same)
control_is (begin_restore n kind) number is = absurd cc

drop_places : (n : ℕ) (ps : List Placed) → drop n (map place_in ps) ≡ map place_in (drop n ps)
drop_places zero ps = refl
drop_places (suc n) [] = refl
drop_places (suc n) (p ∷ ps) = drop_places n ps

audit_drop : (n : ℕ) (ps : List EntryPlace) → AreInAudit ps → AreInAudit (drop n ps)
audit_drop zero ps audit = audit
audit_drop (suc n) [] audit = tt
audit_drop (suc n) (p ∷ ps) audit = audit_drop n ps audit.1

there_drop : (files : Files) (n : ℕ) (ps : List Placed) → AreThere files ps → AreThere files (drop n ps)
there_drop files zero ps there = there
there_drop files (suc n) [] there = tt
there_drop files (suc n) (p ∷ ps) there = there_drop files n ps there.1

module _ (old files : Files) (places rest : List EntryPlace) (up_to number : ℕ) (is : rest ≡ drop up_to places) (same : files ≡ old) (finds : FindsControl old places up_to number)
    (placed : List Placed) (audit : AreInAudit places) (are : places ≡ map place_in placed) (there : AreThere old placed) (front : List Entry) where
  abbrev found : HasControl placed up_to number
  found = finds placed are there

  abbrev late : List Placed
  late = drop up_to placed

  abbrev e : (next : ℕ) × (counts : List FileCount) × (found.control.entry ≡ control_point number next counts)
  e = control_is found.control.entry number found.number_is

  abbrev before : List Entry
  before = front ++ map entry_in found.front

  all_are : front ++ map entry_in placed ≡ before ++ control_point number e.0 e.1 ∷ map entry_in late
  all_are =
      ap (λ (l : List Placed). front ++ map entry_in l) found.are
      ∙ ap (λ (l : List Entry). front ++ l) (map-append entry_in found.front (found.control ∷ late) ∙ ap (λ (y : Entry). map entry_in found.front ++ y ∷ map entry_in late) e.2)
      ∙ sym (append_assoc front (map entry_in found.front) (control_point number e.0 e.1 ∷ map entry_in late))

  there_now : AreThere files late
  there_now = subst (λ (f : Files). AreThere f late) (sym same) (there_drop old up_to placed there)

  audit_now : AreInAudit rest
  audit_now = subst AreInAudit (sym is) (audit_drop up_to places audit)

  are_now : rest ≡ map place_in late
  are_now = is ∙ ap (drop up_to) are ∙ drop_places up_to placed

pub tells_last : (settled : Bool) (old files : Files) (places rest : List EntryPlace) (up_to number m : ℕ) (table : List Told) → number < m → rest ≡ drop up_to places → files ≡ old → FindsControl old places up_to number → TellsPlaced files rest m table
    → TellsLast settled old places m table
tells_last settled old files places rest up_to number m table above is same finds tells placed audit are there new also front order =
    let all = all_are old files places rest up_to number is same finds placed audit are there front in
    let x = e old files places rest up_to number is same finds placed audit are there front in
    subst (λ (l : List Entry). Serves settled l m new table) (sym all)
    (inl (tells (drop up_to placed) (audit_now old files places rest up_to number is same finds placed audit are there front) (are_now old files places rest up_to number is same finds placed audit are there front)
    (there_now old files places rest up_to number is same finds placed audit are there front) new (there_drop new up_to placed also) (before old files places rest up_to number is same finds placed audit are there front) number x.0 x.1 above (subst AreInOrder all order)))

pub undoes_last : (settled : Bool) (old files : Files) (places rest : List EntryPlace) (up_to number m : ℕ) (table : List Told) → settled ≡ true → rest ≡ drop up_to places → files ≡ old → FindsControl old places up_to number → UndoesPlaced files rest table
    → TellsLast settled old places m table
undoes_last settled old files places rest up_to number m table on is same finds undoes placed audit are there new also front order =
    let all = all_are old files places rest up_to number is same finds placed audit are there front in
    let x = e old files places rest up_to number is same finds placed audit are there front in
    subst (λ (l : List Entry). Serves settled l m new table) (sym all)
    (inr (
      on,
      undoes (drop up_to placed) (audit_now old files places rest up_to number is same finds placed audit are there front) (are_now old files places rest up_to number is same finds placed audit are there front)
          (there_now old files places rest up_to number is same finds placed audit are there front) new (there_drop new up_to placed also) (before old files places rest up_to number is same finds placed audit are there front) number x.0 x.1 (subst AreInOrder all order),
    ))

-- ---- the last entries of a trail

audit_last : (xs ys : List Placed) → AreInAudit (map place_in (xs ++ ys)) → AreInAudit (map place_in ys)
audit_last [] ys audit = audit
audit_last (x ∷ xs) ys audit = audit_last xs ys audit.1

there_last : (files : Files) (xs ys : List Placed) → AreThere files (xs ++ ys) → AreThere files ys
there_last files [] ys there = there
there_last files (x ∷ xs) ys there = there_last files xs ys there.1

whole_same : (xs ys : List Placed) → whole xs ≡ whole ys → xs ≡ ys
whole_same xs ys is = cc

pub tells_trail : (settled : Bool) → EntriesAreThere → PlacesStay → TailIsFound → (end : AuditEnd) (first : ℕ) (old files : Files) (from : AuditBlock) (places lent : List EntryPlace) (m : ℕ) (table : List Told) → IsInTrail end first from → lent ≡ places → files ≡ old
    → ReadsPlaces (tail_read end.total end.file end.count from.file from.block old) places → TellsLast settled files lent m table → TellsTrail settled end first old m table
tells_trail settled stand stay tail end first old files from places lent m table within same still reads tells o new grown =
    let f = o.found.finds in
    let start = o.found.first_is in
    let own : IsWrittenUpTo end.total end.tag f.trail.first end.file end.count old = subst (λ k. IsWrittenUpTo end.total end.tag k end.file end.count old) (sym start) o.writes in
    let r = tail old f.placed f.trail end.total end.tag end.file end.count from.file from.block own (omega (arith, start, within.0)) within.1 within.3 (omega (arith, within.4)) in
    let are : lent ≡ map place_in r.last = same ∙ reads.places_are ∙ ap (map place_in) (whole_same reads.placed r.last (sym reads.read_is ∙ r.read_is)) in
    let there : AreThere old r.last = there_last old r.before r.last (subst (AreThere old) (sym r.are) (stand old f.placed f.trail)) in
    let also : AreThere new r.last =
    there_last new r.before r.last (subst (AreThere new) (sym r.are) (stay old new f.placed f.trail end.total end.tag end.file end.count own (subst (λ k. Grown end.total k old new) (sym start) grown))) in
    let audit : AreInAudit (map place_in f.placed) = found_in_audit stand old first (map place_in f.placed) (record { entries = f.placed; places_are = refl; trail = f.trail; first_is = start }) in
    let now : AreInAudit lent = subst AreInAudit (sym are) (audit_last r.before r.last (subst (λ (l : List Placed). AreInAudit (map place_in l)) (sym r.are) audit)) in
    let entries : map entry_in r.before ++ map entry_in r.last ≡ trail_entries end.total first old = sym (map-append entry_in r.before r.last) ∙ ap (map entry_in) r.are ∙ f.are in
    subst (λ (l : List Entry). Serves settled l m new table) entries
    (tells r.last now are (subst (λ (f : Files). AreThere f r.last) (sym still) there) new also (map entry_in r.before) (subst AreInOrder (sym entries) o.order))

-- ---- a database that runs

pub log_ordered : (v : LogView) → LogRuns v → ReadsNow v → IsOrdered v.end v.first v.files
log_ordered v r read =
    let may = r.runs.each 0 read.0 read.1 in
    let all = append_none (trail_entries v.end.total v.first v.files) in
    record {
      writes = r.ends.writes;
      found = subst (IsFoundFrom v.end.total v.first) read.2 (r.runs.found read.0 read.1);
      order = record {
        numbered = subst (λ (l : List Entry). Numbered (live_of l) (next_of l)) all may.stands.kept.numbered;
        images = subst (λ (l : List Entry). HasImages (live_logged [] (events_in l))) all may.stands.kept.images;
      };
    }

-- the table of the last point of a database that runs, over its blocks
pub runs_over : (v : LogView) → LogRuns v → ReadsNow v → (settled : Bool) (m : ℕ) (new : Files) (table : List Told) → (settled ≡ true → IsAtLastControl (entries v) m) → Serves settled (entries v) m new table
    → IsTableOver (live_of (entries v)) m (stored_of v.files) new table
runs_over v r read settled m new table went (inl is) = table_as (live_of (entries v)) m (stored_of v.files) new table is
runs_over v r read settled m new table went (inr (on, undoes)) =
    let es = entries v in
    let dumps = (telling v).dumps v.files in
    let now : MayRun (telling v).first es dumps r.runs.base (stored_of v.files) = now_runs (telling v) (lemmas.tells v r read) (state v) r.runs read in
    let agrees = (stands_agrees (telling v).first es dumps r.runs.base (stored_of v.files) now.stands).events_agree.lists in
    let plain : here dumps (history_of es) (stored_of v.files) ≡ stored_of v.files = ap (λ (p : Option Pending). here_by p dumps (stored_of v.files)) now.none in
    table_over (live_of es) m (went on) (telling v).first (next_of es) (stored_of v.files) (subst (λ (s : Stored). ListAgrees (telling v).first (live_of es) (next_of es) s) plain agrees) new table undoes
