-- What an opening does, and what it needs, of a trail that was read.
use Rattle.std.specs.Prelude.{◌||◌}
use Rattle.std.proofs.Common.{ℕ, ◌≡◌, ◌⊎◌, inl, inr, Bool, true, false, cond, IsTrue, List, [], ◌∷◌, ◌++◌, map, take, drop, Option, Some, None, refl, sym, ◌∙◌, ap, subst, append-nil}
use Rattle.std.proofs.lemmas.List.{take-append-drop}
use Rattle.std.proofs.lemmas.Bool.{true≢false}
use Rattle.std.proofs.lemmas.Option.{none-some}
use Rattle.dms_site.specs.Files.{Files}
use Rattle.dms_history.specs.Events.{Event}
use Rattle.dms_history.specs.Lists.{has, until_first}
use Rattle.dms_history.specs.Places.{is_point, is_described, IsLive}
use Rattle.dms_history.specs.History.{Pending, History, last_point}
use Rattle.dms_history.specs.Judge.{judge_point}
use Rattle.dms_history.specs.Entries.{Entry, how_of}
use Rattle.dms_history.specs.declared.event.Row.{Row}
use Rattle.dms_history.specs.EntryEvents.{history_of, live_of, next_of}
use Rattle.dms_history.specs.Pick.{count_at}
use Rattle.dms_history.specs.SchemaAt.{schema_at}
use Rattle.dms_history.specs.LawsOfSchemas.{LiveHasSchema}
use Rattle.dms_history.proofs.HalfDone.{until_until}
use Rattle.dms_history.proofs.Judging.{each_judged}
use Rattle.dms_history.proofs.Stops.{until_append}
use Rattle.dms_audfile.specs.AuditTrail.{AreThere}
use Rattle.dms_audfile.specs.Scanning.{Placed, place_in, entry_in}
use Rattle.dms_audfile.specs.Header.{tag_said}
use Rattle.dms_audfile.specs.TrailEntries.{trail_entries}
use Rattle.dms_audfile.specs.declared.place.EntryPlace.{EntryPlace}
use Rattle.dms_audfile.specs.declared.fault.AudFault.{AudFault}
use Rattle.dms_audfile.specs.declared.fault.AudFault.TheVariants.{Disk, Damaged, Memory}
use Rattle.dms_running.specs.FromDumps.{dump_by, dump_in}
use Rattle.dms_opening.specs.declared.choosing.Choice.{Choice}
use Rattle.dms_opening.specs.declared.choosing.OpenFault.{OpenFault}
use Rattle.dms_opening.specs.declared.choosing.OpenFault.TheVariants.{Audit}
use Rattle.dms_restore.specs.declared.schemas.SchemaSpan.{SchemaSpan}
use Rattle.dms_restore.specs.declared.restore_table.RestoreTable.{RestoreTable}
use Rattle.dms_restore.specs.declared.trace.TrailTrace.{TrailTrace}
use Rattle.dms_restore.specs.declared.tracing.TrailHistory.{TrailHistory}
use Rattle.dms_opening.specs.declared.asked.Asked.{Asked}
use Rattle.dms_opening.specs.declared.asked.Asked.TheVariants.{HaltLoad, Rollback, Rebuild, Reconstruct}
use Rattle.dms_opening.specs.declared.asked.DumpLook.{DumpLook}
use Rattle.dms_opening.specs.declared.dump_looks.DumpFound.{DumpFound}
use Rattle.dms_opening.specs.declared.dump_looks.DumpFound.TheVariants.{Missing}
use Rattle.dms_opening.specs.Asked.{Refused, judge_restore, judge}
use Rattle.dms_opening.specs.Choices.{RefusesAsked, Chooses, judge_entries, judge_files}
use Rattle.dms_opening.specs.DumpLooks.{look_of, look_seen, IsFoundAs, IsFoundFor, dump_at, dump_numbered, dump_begun, dump_asked}
use Rattle.dms_restore.specs.Counts.{count_of}
use Rattle.dms_restore.specs.LiveEntries.{logged_live, changes_at}
use Rattle.dms_history.specs.Ranges.{all_changes}
use Rattle.dms_history.proofs.Turns.{changes_until}
use Rattle.dms_restore.proofs.Changes.{changes_on, changes_append}
use Rattle.dms_restore.proofs.Traced.{live_at}
use Rattle.dms_opening.specs.Doing.{IsDone, kind_asked}
use Rattle.dms_opening.specs.Starts.{TracesDone}
use Rattle.dms_restore.specs.Scanned.{IsNoEntryOf}
use Rattle.dms_restore.specs.SchemaSpans.{span_bytes}
use Rattle.dms_restore.specs.Table.{IsPlan}
use Rattle.dms_restore.specs.Traces.{IsTraceOf}
use Rattle.dms_restore.specs.Tracing.{IsTraced}
use Rattle.dms_opening.proofs.Chosen.{own_none, begun_none, restore_point, restore_file, own_file}
use Rattle.dms_opening.proofs.DumpLooks.{look_is, head_for, found_stays}
use Rattle.dms_opening.proofs.Prepared.{HoldsPending, holds}
use Rattle.dms_restore.proofs.Scans.{none_missing}
use Rattle.dms_opening.specs.declared.plan.OpeningPlan.{OpeningPlan}
use Rattle.dms_opening.specs.Plans.{IsTrailRead, IsTaggedRead, AreFoundFor, PlansFor, HasNoDescriptionAt, IsPlainFault, RefusesFor}
use Rattle.dms_opening.proofs.Faults.{plain_audit}

-- nothing was sealed yet
pub read_now : (total first : ℕ) (files : Files) (places : List EntryPlace) (t : TrailTrace) → IsTrailRead total first files places t → IsTraceOf files (trail_entries total first files) t
read_now total first files places t r = r.stays files (record { made = []; trail = sym (append-nil _); filled = tt })

-- ---- the point of an opening is live

found_front : (p : Event → Bool) (xs ys : List Event) → has p xs ≡ true → has p (xs ++ ys) ≡ true
found_front p [] ys found = absurd (true≢false (sym found))
found_front p (x ∷ xs) ys found = go (p x) (has p xs) found (λ more. found_front p xs ys more)
  where
    go : (a b : Bool) → a || b ≡ true → (b ≡ true → has p (xs ++ ys) ≡ true) → a || has p (xs ++ ys) ≡ true
    go true b found more = refl
    go false b found more = more found

front_has : (p : Event → Bool) (xs : List Event) → has p xs ≡ true → has p (until_first p xs) ≡ true
front_has p [] found = found
front_has p (x ∷ xs) found = go (p x) (has p xs) refl refl found (λ more. front_has p xs more)
  where
    go : (a b : Bool) → p x ≡ a → has p xs ≡ b → a || b ≡ true → (has p xs ≡ true → has p (until_first p xs) ≡ true) → has p (cond a (x ∷ []) (cond b (x ∷ until_first p xs) [])) ≡ true
    go true b one two found more = ap (λ k. k || false) one
    go false true one two found more = λ i. one i || more two i
    go false false one two found more = absurd (true≢false (sym found))

-- a point that is live is so in what a cut at its place leaves, and whatever follows
live_front : (xs ys rest : List Event) (n : ℕ) → IsLive xs n → ys ≡ until_first (is_point n) xs ++ rest → IsLive ys n
live_front xs ys rest n lives is =
    let p = is_point n in
    let front = until_first p xs in
    let has_it : has p front ≡ true = front_has p xs lives.found in
    subst (λ (l : List Event). IsLive l n) (sym is) (record {
      found = found_front p front rest has_it;
      described = ap (has is_described) (until_append p front rest has_it ∙ until_until p p xs has_it) ∙ lives.described;
    })

-- the point of a restore that goes on
pending_lives : (files : Files) (entries : List Entry) (h : TrailHistory) (next : ℕ) (p : Pending) → IsTraced files entries h → (history_of entries).pending ≡ Some p → judge_point p.entries next p.point ≡ None → IsLive (live_of entries) p.point
pending_lives files entries h next p t pending own =
    let held : HoldsPending files h p = holds files entries h p t pending in
    let live = h.live.items in
    let kept = held.q.kept in
    let lives : IsLive p.entries p.point = ((each_judged p.entries next p.point).lives.0 own).1 in
    let all = logged_live files (take kept live ++ h.removed.items) in
    let front : until_first (is_point p.point) p.entries ≡ changes_at files (take kept live) =
    (λ i. until_first (is_point (held.at.point_is i)) (held.at.entries_are i)) ∙ sym (changes_until held.q.point all) ∙ ap all_changes held.at.front in
    let rest = changes_on (changes_at files (take kept live)) (logged_live files (drop kept live)) in
    let parts : changes_at files live ≡ changes_at files (take kept live) ++ rest =
    ap (changes_at files) (sym (take-append-drop kept live)) ∙ changes_append files (take kept live) (drop kept live) in
    let is : live_of entries ≡ until_first (is_point p.point) p.entries ++ rest = live_at files entries h t ∙ parts ∙ ap (λ (l : List Event). l ++ rest) (sym front) in
    live_front p.entries (live_of entries) rest p.point lives is

module _ (files : Files) (entries : List Entry) (h : TrailHistory) (first : ℕ) (asked : Asked) (rows : List Row) (begun look : DumpLook) (c : Choice) (t : IsTraced files entries h)
    (chooses : Chooses (judge first (history_of entries) (next_of entries) asked begun look) (history_of entries) asked rows c) where
  -- what goes on is pending, and isn't refused
  gone_on : c.begins ≡ false → ((history_of entries).pending ≡ Some chooses.restore) × (judge_restore first (next_of entries) chooses.restore.how begun chooses.restore.entries chooses.restore.point ≡ None)
  gone_on off = begun_none first (history_of entries) (next_of entries) asked begun look chooses.restore (chooses.is.goes_on off) chooses.none

  pub chosen_lives : IsLive (live_of entries) c.point
  chosen_lives = by_kind c.begins refl
    where
      by_kind : (b : Bool) → c.begins ≡ b → IsLive (live_of entries) c.point
      by_kind true on = (chooses.is.new on).2
      by_kind false off =
          let p = chooses.restore in
          let o = gone_on off in
          subst (λ n. IsLive (live_of entries) n) chooses.is.point_is (pending_lives files entries h (next_of entries) p t o.0 (restore_point first (next_of entries) p.how begun p.entries p.point o.1))

-- the dump that is asked for is looked at
pub looked_at : (files : Files) (asked : Asked) (rows : List Row) (d : ℕ) → dump_by (how_of (kind_asked asked rows)) ≡ Some d → dump_asked files asked ≡ dump_at files d
looked_at files HaltLoad rows d by = absurd cc
looked_at files (Rollback n) rows d by = absurd cc
looked_at files (Rebuild e n) rows d by = let same : e ≡ d = cc in ap (dump_at files) same
looked_at files (Reconstruct e) rows d by = let same : e ≡ d = cc in ap (dump_at files) same

module _ (files : Files) (entries : List Entry) (first : ℕ) (asked : Asked) (rows : List Row) (c : Choice) (begun look found : DumpFound) (chooses : Chooses (judge_entries first entries files asked) (history_of entries) asked rows c)
    (begun_is : IsFoundAs (tag_said (files first)) (dump_begun files (history_of entries).pending) begun) (look_is : IsFoundAs (tag_said (files first)) (dump_asked files asked) look) (is : found ≡ cond c.begins look begun) where
  abbrev p : Pending
  p = chooses.restore

  abbrev next : ℕ
  next = next_of entries

  abbrev began : DumpLook
  began = look_of (tag_said (files first)) (dump_begun files (history_of entries).pending)

  abbrev looked : DumpLook
  looked = look_of (tag_said (files first)) (dump_asked files asked)

  found_begins : c.begins ≡ true → IsFoundFor files chooses.restore.how found
  found_begins on =
      let how : p.how ≡ how_of (kind_asked asked rows) = ap (λ (q : Pending). q.how) (chooses.is.new on).3 in
      let own = own_none first (history_of entries) next asked began looked chooses.none in
      subst (λ (f : DumpFound). IsFoundFor files p.how f) (sym (is ∙ ap (λ b. cond b look begun) on))
      (head_for files first (tag_said (files first)) p.how (dump_asked files asked) look
      (λ d by. let named = sym (ap dump_by how) ∙ by in (looked_at files asked rows d named, own_file first (live_of entries) next (last_point (history_of entries)) asked looked rows d named own)) look_is)

  found_goes_on : c.begins ≡ false → IsFoundFor files chooses.restore.how found
  found_goes_on off =
      let o = begun_none first (history_of entries) next asked began looked p (chooses.is.goes_on off) chooses.none in
      subst (λ (f : DumpFound). IsFoundFor files p.how f) (sym (is ∙ ap (λ b. cond b look begun) off))
      (head_for files first (tag_said (files first)) p.how (dump_begun files (history_of entries).pending) begun
      (λ d by. (ap (dump_numbered files) (ap dump_in o.0 ∙ by), restore_file first next p.how began p.entries p.point d by o.1)) begun_is)

  -- the dump of the restore is found with its head
  pub chosen_found : IsFoundFor files chooses.restore.how found
  chosen_found = by_kind c.begins refl
    where
      by_kind : (b : Bool) → c.begins ≡ b → IsFoundFor files chooses.restore.how found
      by_kind true on = found_begins on
      by_kind false off = found_goes_on off

-- ---- the description at it

pub none_there : LiveHasSchema → (total first : ℕ) (files : Files) (places : List EntryPlace) (t : TrailTrace) (point : ℕ) (span : Option SchemaSpan) → None ≡ span
    → ((files : Files) (entries : List Entry) → IsTraceOf files entries t → has (is_point point) (live_of entries) ≡ true → span_bytes entries span ≡ schema_at entries point)
    → IsTrailRead total first files places t → IsLive (live_of (trail_entries total first files)) point → ⊥
none_there law total first files places t point span none said r lives =
    let entries = trail_entries total first files in
    let there = law entries point lives in
    none-some there.0 (ap (span_bytes entries) none ∙ said files entries (read_now total first files places t r) lives.found ∙ there.1)

pub bytes_there : (total first : ℕ) (files : Files) (places : List EntryPlace) (t : TrailTrace) (point : ℕ) (found : Option SchemaSpan) (span : SchemaSpan) (bytes : List ℕ) → found ≡ Some span
    → ((files : Files) (entries : List Entry) → IsTraceOf files entries t → has (is_point point) (live_of entries) ≡ true → span_bytes entries found ≡ schema_at entries point)
    → ((ps : List Placed) → places ≡ map place_in ps → AreThere files ps → span_bytes (map entry_in ps) (Some span) ≡ Some bytes)
    → IsTrailRead total first files places t → IsLive (live_of (trail_entries total first files)) point → schema_at (trail_entries total first files) point ≡ Some bytes
bytes_there total first files places t point found span bytes some said read r lives =
    let entries = trail_entries total first files in
    sym (said files entries (read_now total first files places t r) lives.found) ∙ ap (span_bytes entries) some
    ∙ ap (λ (l : List Entry). span_bytes l (Some span)) (sym r.placed.entries_are) ∙ read r.placed.placed r.placed.places_are r.placed.there

-- no entry is missing
pub read_fault : (tells : Bool) (total first : ℕ) (files : Files) (places : List EntryPlace) (t : TrailTrace) (fault : AudFault) → (fault ≡ Disk) ⊎ ((fault ≡ Memory) ⊎ IsNoEntryOf tells files places fault) → IsTrue tells → IsTrailRead total first files places t
    → IsPlainFault (Audit fault)
read_fault tells total first files places t fault is on r = elim is [
  | inl disk ↦ plain_audit fault (inl disk)
  | inr rest ↦ elim rest [
    | inl memory ↦ plain_audit fault (inr memory)
    | inr missing ↦ absurd (none_missing files r.placed.placed missing.before missing.after missing.place r.placed.there (sym r.placed.places_are ∙ missing.among) (missing.none on))
  ]
]

-- ---- the plan

-- a call of the site failed, or memory was refused
pub plain_plan : (total first : ℕ) (files : Files) (asked : Asked) (e : OpenFault) → IsPlainFault e → RefusesFor total first files asked e
plain_plan total first files asked e is = elim is [ inl disk ↦ inl disk | inr memory ↦ inr (inl (inl memory)) ]

module _ (total first : ℕ) (files : Files) (places : List EntryPlace) (t : TrailTrace) (asked : Asked) (rows : List Row) (begun look : DumpFound) (r : AreFoundFor total first files places t asked begun look) where
  abbrev entries : List Entry
  entries = trail_entries total first files

  -- what is looked at are the dumps of the files
  looks : (one two : DumpLook) → one ≡ look_seen begun → two ≡ look_seen look → judge first (history_of entries) (next_of entries) asked one two ≡ judge_files total first files asked
  looks one two a b = λ i. judge first (history_of entries) (next_of entries) asked ((a ∙ look_is (tag_said (files first)) (dump_begun files (history_of entries).pending) begun r.begun_is) i) ((b ∙ look_is (tag_said (files first)) (dump_asked files asked) look r.look_is) i)

  pub chosen_at : (one two : DumpLook) (c : Choice) → one ≡ look_seen begun → two ≡ look_seen look → ((files : Files) (entries : List Entry) (rows : List Row) → IsTraced files entries t.history → Chooses (judge first (history_of entries) (next_of entries) asked one two) (history_of entries) asked rows c)
      → Chooses (judge_files total first files asked) (history_of entries) asked rows c
  chosen_at one two c a b chosen =
      subst (λ (o : Option Refused). Chooses o (history_of entries) asked rows c) (looks one two a b) (chosen files entries rows (read_now total first files places t r.read).history)

  pub refused_for : (one two : DumpLook) (e : OpenFault) → one ≡ look_seen begun → two ≡ look_seen look → ((files : Files) (entries : List Entry) → IsTraced files entries t.history → RefusesAsked first (judge first (history_of entries) (next_of entries) asked one two) e)
      → RefusesFor total first files asked e
  refused_for one two e a b refuses =
      inr (inl (subst (λ (o : Option Refused). RefusesAsked first o e) (looks one two a b) (refuses files entries (read_now total first files places t r.read).history)))

  pub point_lives : (c : Choice) → Chooses (judge_files total first files asked) (history_of entries) asked rows c → IsLive (live_of entries) c.point
  point_lives c chooses =
      chosen_lives files entries t.history first asked rows (look_of (tag_said (files first)) (dump_begun files (history_of entries).pending)) (look_of (tag_said (files first)) (dump_asked files asked)) c (read_now total first files places t r.read).history chooses

  -- what is done, by what is kept
  pub done_now : (c : Choice) (chooses : Chooses (judge_files total first files asked) (history_of entries) asked rows c) → TracesDone files t.history asked rows c chooses.restore
  done_now c chooses = record { entries = entries; traced = (read_now total first files places t r.read).history; done = chooses.is }

  pub planned : (c : Choice) (next : ℕ) (table : RestoreTable) (counts schema : List ℕ) (found : DumpFound) (plan : OpeningPlan) → plan.choice ≡ c → plan.next ≡ next → plan.table ≡ table → plan.counts.items ≡ counts → plan.schema.items ≡ schema
      → next ≡ t.history.next → Chooses (judge_files total first files asked) (history_of entries) asked rows c → found ≡ cond c.begins look begun
      → ((p : Pending) → TracesDone files t.history asked rows c p → (new : Files) → TracesDone new t.history asked rows c p → IsFoundFor new p.how found → IsPlan p new table)
      → ((p : Pending) → TracesDone files t.history asked rows c p → (f : ℕ) → count_of counts f ≡ count_at p.entries p.point f)
      → (IsLive (live_of entries) c.point → schema_at entries c.point ≡ Some schema) → PlansFor total first files asked rows plan
  planned c next table counts schema found plan same_choice same_next same_table same_counts same_schema next_is chooses found_is told counted described =
      let now = read_now total first files places t r.read in
      let own : Chooses (judge_files total first files asked) (history_of entries) asked rows plan.choice = subst (λ (k : Choice). Chooses (judge_files total first files asked) (history_of entries) asked rows k) (sym same_choice) chooses in
      let done : IsDone (history_of entries) asked rows c.begins c.point own.restore = subst (λ (k : Choice). IsDone (history_of entries) asked rows k.begins k.point own.restore) same_choice own.is in
      let traces : TracesDone files t.history asked rows c own.restore = record { entries = entries; traced = now.history; done = done } in
      let has : IsFoundFor files own.restore.how found = chosen_found files entries first asked rows plan.choice begun look found own r.begun_is r.look_is (found_is ∙ ap (λ (k : Choice). cond k.begins look begun) (sym same_choice)) in
      record {
        chooses = own;
        plan_is = λ new grown same. subst (λ (k : RestoreTable). IsPlan own.restore new k) (sym same_table)
            (told own.restore traces new (record { entries = entries; traced = (r.read.stays new grown).history; done = done }) (found_stays files new own.restore.how found same has));
        counts_are = λ f. ap (λ (l : List ℕ). count_of l f) same_counts ∙ counted own.restore traces f;
        schema_is = ap (λ (k : Choice). schema_at entries k.point) same_choice ∙ described (point_lives c chooses) ∙ ap (λ (l : List ℕ). Some l) (sym same_schema);
        next_is = now.history.next_is ∙ sym next_is ∙ sym same_next;
      }

  -- ---- why it isn't had

  pub not_described : (c : Choice) (e : OpenFault) → ((rows : List Row) → Chooses (judge_files total first files asked) (history_of entries) asked rows c)
      → (IsLive (live_of entries) c.point → IsPlainFault e ⊎ ((e ≡ Audit (Damaged first 0)) × HasNoDescriptionAt entries c.point)) → RefusesFor total first files asked e
  not_described c e chooses only =
      elim (only (point_lives c (chooses rows))) [
        | inl plain ↦ plain_plan total first files asked e plain
        | inr none ↦ inr (inr (none.0, record { choice = c; chooses = chooses; at = none.1 }))
      ]

  pub not_prepared : (c : Choice) (e : OpenFault) → Chooses (judge_files total first files asked) (history_of entries) asked rows c → ((p : Pending) → TracesDone files t.history asked rows c p → IsPlainFault e) → RefusesFor total first files asked e
  not_prepared c e chooses only = plain_plan total first files asked e (only chooses.restore (done_now c chooses))

-- ---- of an opening, which looks at the dump of the restore that is pending

pub found_now : (total tag first : ℕ) (files now : Files) (places : List EntryPlace) (t : TrailTrace) (begun : DumpFound) → now ≡ files → IsTaggedRead total tag first files places t
    → ((older : Files) (entries : List Entry) → IsTraced older entries t.history → IsFoundAs tag (dump_begun files (history_of entries).pending) begun) → AreFoundFor total first now places t HaltLoad begun Missing
found_now total tag first files now places t begun same r found =
    let es : List Entry = trail_entries total first files in
    subst (λ (f : Files). AreFoundFor total first f places t HaltLoad begun Missing) (sym same) (record {
      read = r.read;
      begun_is = subst (λ k. IsFoundAs k (dump_begun files (history_of es).pending) begun) (sym r.tag_is) (found files es (read_now total first files places t r.read).history);
      look_is = refl;
    })

pub plan_as : (total first : ℕ) (files now : Files) (plan : OpeningPlan) → now ≡ files → PlansFor total first now HaltLoad [] plan → PlansFor total first files HaltLoad [] plan
plan_as total first files now plan same plans = subst (λ (f : Files). PlansFor total first f HaltLoad [] plan) same plans

pub refuses_as : (total first : ℕ) (files now : Files) (e : OpenFault) → now ≡ files → RefusesFor total first now HaltLoad e → RefusesFor total first files HaltLoad e
refuses_as total first files now e same why = subst (λ (f : Files). RefusesFor total first f HaltLoad e) same why
