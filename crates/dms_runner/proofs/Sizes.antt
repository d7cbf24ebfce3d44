-- How many records and entries a database has: a step makes one more at most, and where its line waits none.
use Rattle.std.proofs.Common.{◌≡◌, ◌≤◌, ◌+◌, ◌-◌, ◌*◌, ◌⊎◌, inl, inr, ℕ, suc, List, [], ◌∷◌, ◌++◌, Bool, true, false, cond, Some, None, refl, sym, ap, ◌∙◌, subst, arith, nat_le, nat_lt, length, map, filter}
use Rattle.std.specs.Prelude.{T, ◌&&◌, slice_get}
use Rattle.std.specs.declared.option.Option.{Option}
use Rattle.std.specs.FinMap.{contains_key, entries, entries-from_sorted, entries_sorted, find, from_sorted, get, get-entries, insert, is_sorted, len, len-entries, len-insert, len-remove, remove}
use Rattle.std.specs.FinMap.Entries.{below_all}
use Rattle.std.specs.List.{AllByRecursion}
use Rattle.std.specs.Ordering.{eq_by_cmp, is_lt}
use Rattle.std.proofs.lemmas.Bool.Decides.{nat_tests}
use Rattle.std.proofs.lemmas.Cmp.{eq_by_cmp_equiv}
use Rattle.dms_base.specs.declared.category.Category.{Category}
use Rattle.dms_base.specs.declared.category.Category.TheVariants.{AuditError, LimitError}
use Rattle.dms_desc.specs.declared.record.Record.{Record}
use Rattle.dms_desc.specs.Shape.{Described}
use Rattle.dms_desc.specs.Sorted.{place_in}
use Rattle.dms_model.specs.declared.mode.Mode.{Mode}
use Rattle.dms_model.specs.declared.put.Put.{Put}
use Rattle.dms_model.specs.declared.put.Put.TheVariants.{Stored, Duplicate, Full}
use Rattle.dms_model.specs.declared.reply.Reply.{Reply}
use Rattle.dms_model.specs.declared.spot.Spot.{Spot}
use Rattle.dms_model.specs.declared.verb.Path.{Path}
use Rattle.dms_model.specs.declared.verb.Setting.{Setting}
use Rattle.dms_model.specs.declared.verb.Verb.{Verb}
use Rattle.dms_model.specs.declared.verb.Verb.TheVariants.{OpenUpdate, OpenInquiry, Close, Find, Lock, Free, Create, Put as PutItems, Get, Store, Delete, Insert, Remove, Assign, Begin, End, Abort}
use Rattle.dms_model.specs.Changing.{is_entry_of, storing_count}
use Rattle.dms_model.specs.Counting.{area_count, count_for, counts_of, restart_count, verb_count}
use Rattle.dms_model.specs.Db.{Db, Place, Records, SubsetEntry, place_cmp}
use Rattle.dms_model.specs.Places.{places_total}
use Rattle.dms_model.specs.Programs.{Program, Area}
use Rattle.dms_model.specs.Session.{Session, Outcome, StoreResult, Refused, Keeps, Filled, Misfit, Values', Sought, Unbased, Missed, Met, after_begin, after_end, after_find, after_lock, after_put, after_store, area_answer, area_number, area_of, area_refusals, abort_step, assign_refusals, assign_step, begin_blockers, begin_refusals, begin_step, begin_transaction, carried_out, close_step, create_for, create_step, current_of, delete_refusals, delete_step, deleted, done_unless, end_step, find_step, first_held, free_for, free_step, get_area, get_step, has_some, insert_refusals, insert_step, inserted, is_waits, keep, lacks_area, linked, lock_step, lock_unless, new_program, open_as, open_in, open_step, opens, or_no_area, or_zero, place_of, put_area, put_step, record_of, refuse, remove_refusals, remove_step, removed, replies, restart_of, settle, shows, someone_works, step, step_at, store_step, storing, succeeds, unless, verb_step}
use Rattle.dms_model.specs.Stores.{put_after, record_to_store}
use Rattle.dms_model.specs.Traits.{traits}
use Rattle.dms_model.specs.Uses.{after_enter, after_leave, after_link, after_remove, corrected_entry, entry_before, entry_of, is_not_entry, linked_record, linkers, links_to, place_in_entry}
use Rattle.std.proofs.lemmas.List.{length-map}
use Rattle.dms_model.proofs.Rises.{step_small}
use Rattle.dms_runner.specs.EventLaws.{HasSize}

-- ---- databases

size_more : (n : ℕ) (db : Db) → HasSize n db → HasSize (n + 1) db
size_more n db h = record { records = omega (arith, h.records); entries = omega (arith, h.entries) }

insert_low : (b : Bool) (n : ℕ) → cond b n (n + 1) ≤ n + 1
insert_low true n = omega arith
insert_low false n = omega arith

inserted_low : (m : Records) (k : Place) (r : Record) → len (insert m k r) ≤ len m + 1
inserted_low m k r = omega (arith, len-insert places_total m k r, insert_low (contains_key m k) (len m))

remove_low : (b : Bool) (n : ℕ) → cond b (n - 1) n ≤ n
remove_low true n = omega arith
remove_low false n = omega arith

removed_low : (m : Records) (k : Place) → len (remove m k) ≤ len m
removed_low m k = omega (arith, len-remove places_total m k, remove_low (contains_key m k) (len m))

filter_low : {X : Type 0} (p : X → Bool) (xs : List X) → length (filter p xs) ≤ length xs
filter_low p [] = omega arith
filter_low p (x ∷ xs) = by (p x) (filter_low p xs)
  where
    by : (b : Bool) → length (filter p xs) ≤ length xs → length (cond b (x ∷ filter p xs) (filter p xs)) ≤ suc (length xs)
    by true h = omega (arith, h)
    by false h = omega (arith, h)

placed_low : (e : SubsetEntry) (es : List SubsetEntry) → length (place_in entry_before e es) ≤ length es + 1
placed_low e [] = omega arith
placed_low e (x ∷ es) = by (entry_before e x) (placed_low e es)
  where
    by : (b : Bool) → length (place_in entry_before e es) ≤ length es + 1 → length (cond b (e ∷ x ∷ es) (x ∷ place_in entry_before e es)) ≤ suc (length es) + 1
    by true h = omega arith
    by false h = omega (arith, h)

-- a list whose records alone change stays in order
below_still : (desc : Described) (to number : ℕ) (q : Place) (es : List (Place × Record)) → below_all place_cmp q (map (corrected_entry desc to number) es) ≡ below_all place_cmp q es
below_still desc to number q [] = refl
below_still desc to number q (e ∷ es) = ap (λ (b : Bool). is_lt (place_cmp q e.0) && b) (below_still desc to number q es)

sorted_still : (desc : Described) (to number : ℕ) (es : List (Place × Record)) → is_sorted place_cmp (map (corrected_entry desc to number) es) ≡ is_sorted place_cmp es
sorted_still desc to number [] = refl
sorted_still desc to number (e ∷ es) = ap (λ (b : Bool). b && is_sorted place_cmp (map (corrected_entry desc to number) es)) (below_still desc to number e.0 es) ∙ ap (λ (b : Bool). below_all place_cmp e.0 es && b) (sorted_still desc to number es)

corrected_low : (desc : Described) (m : Records) (to number : ℕ) → len (from_sorted {R = place_cmp} (map (corrected_entry desc to number) (entries m))) ≡ len m
corrected_low desc m to number =
    let es = map (corrected_entry desc to number) (entries m) in
    let order : T (is_sorted place_cmp es) = subst T (sym (sorted_still desc to number (entries m))) (entries_sorted m) in
    len-entries (from_sorted {R = place_cmp} es) ∙ ap length (entries-from_sorted place_cmp es order) ∙ length-map (entries m) (corrected_entry desc to number) ∙ sym (len-entries m)

put_size : (n : ℕ) (a : Put) (desc : Described) (db : Db) (set : ℕ) (rec : Record) → HasSize n db → HasSize (n + 1) (put_after a desc db set rec)
put_size n (Stored number) desc db set rec h = record { records = omega (arith, inserted_low db.records (set, number) (record_to_store desc db set (Some number) rec), h.records); entries = omega (arith, h.entries) }
put_size n (Duplicate s) desc db set rec h = size_more n db h
put_size n Full desc db set rec h = size_more n db h

remove_size : (n : ℕ) (desc : Described) (db : Db) (set number : ℕ) → HasSize n db → HasSize (n + 1) (after_remove desc db set number)
unfolding after_remove
remove_size n desc db set number h = record {
  records = omega (arith, removed_low (from_sorted {R = place_cmp} (map (corrected_entry desc set number) (entries db.records))) (set, number), corrected_low desc db.records set number, h.records);
  entries = omega (arith, h.entries);
}

link_size : (n : ℕ) (db : Db) (set number item : ℕ) (to : Option ℕ) → HasSize n db → HasSize (n + 1) (after_link db set number item to)
unfolding after_link
link_size n db set number item to h = record { records = omega (arith, inserted_low db.records (set, number) (linked_record (get db.records (set, number)) item to), h.records); entries = omega (arith, h.entries) }

enter_size : (n : ℕ) (a : Put) (db : Db) (subset owner : ℕ) → HasSize n db → HasSize (n + 1) (after_enter a db subset owner)
enter_size n (Stored number) db subset owner h = record { records = omega (arith, h.records); entries = omega (arith, placed_low (entry_of subset owner number) db.entries, h.entries) }
enter_size n (Duplicate s) db subset owner h = size_more n db h
enter_size n Full db subset owner h = size_more n db h

leave_size : (n : ℕ) (db : Db) (subset owner number : ℕ) → HasSize n db → HasSize (n + 1) (after_leave db subset owner number)
unfolding after_leave
leave_size n db subset owner number h = record { records = omega (arith, h.records); entries = omega (arith, filter_low (is_not_entry subset owner number) db.entries, h.entries) }

-- ---- sessions

-- the databases now and at the last quiet point
pub record IsSized (n : ℕ) (s : Session) : Type 0 where
  pub db : HasSize n s.db
  pub mark : HasSize n s.mark

module _ (n : ℕ) (s : Session) (sized : IsSized n s) where
  record Grown (o : Outcome) : Type 0 where
    db : HasSize (n + 1) o.session.db
    mark : HasSize (n + 1) o.session.mark

  if_grown : (b : Bool) (x y : Outcome) → Grown x → Grown y → Grown (cond b x y)
  if_grown true x y p q = p
  if_grown false x y p q = q

  now : HasSize (n + 1) s.db
  now = size_more n s.db sized.db

  last : HasSize (n + 1) s.mark
  last = size_more n s.mark sized.mark

  replies_grown : (r : Reply) → Grown (replies s r)
  replies_grown r = record { db = now; mark = last }

  refuse_grown : (c : Category) (name : List ℕ) → Grown (refuse s c name)
  refuse_grown c name = record { db = now; mark = last }

  -- the database may change, and that of the last quiet point stays
  changed : (t : Session) (text : List ℕ) → HasSize (n + 1) t.db → t.mark ≡ s.mark → Grown (shows t text)
  changed t text db mark = record { db = db; mark = subst (HasSize (n + 1)) (sym mark) last }

  settled : (t : Session) → HasSize (n + 1) t.db → t.mark ≡ s.mark → Grown (settle t)
  unfolding settle
  settled t db mark = if_grown (someone_works t.programs) _ _ (changed t [] db mark) (if_grown t.pending _ _ (record { db = db; mark = db }) (record { db = db; mark = db }))

  -- what storing an area leaves
  abbrev StoreGrown : StoreResult → Type 0
  StoreGrown (Refused r) = Unit {0}
  StoreGrown (Keeps p db) = HasSize (n + 1) db

  unless_grown : (o : Option Reply) (k : StoreResult) → StoreGrown k → StoreGrown (unless o k)
  unless_grown None k h = h
  unless_grown (Some r) k h = tt

  keep_grown : (desc : Described) (p : Program) (set : ℕ) → StoreGrown (keep desc p s.db set)
  unfolding keep
  keep_grown desc p set = unless_grown (first_held (lacks_area desc (area_of p set) set ∷ area_refusals (or_no_area (area_of p set)) (area_answer desc p s.db set) desc p set)) (storing (or_no_area (area_of p set)) (area_answer desc p s.db set) desc p s.db set) (put_size n (area_answer desc p s.db set) desc s.db set (record_of (or_no_area (area_of p set))) sized.db)

  begun : (audit : Bool) (a : Area) (answer : Put) (desc : Described) (p : Program) (restart : ℕ) → StoreGrown (cond audit (storing a answer desc p s.db restart) (Keeps p s.db))
  begun true a answer desc p restart = put_size n answer desc s.db restart (record_of a) sized.db
  begun false a answer desc p restart = now

  begin_grown : (desc : Described) (p : Program) (audit : Bool) → StoreGrown (begin_transaction desc p s audit)
  unfolding begin_transaction
  begin_grown desc p audit =
      let restart = restart_of desc in
      let a = area_of p restart in
      let answer = area_answer desc p s.db restart in
      unless_grown (first_held (begin_refusals audit (begin_blockers s) s.waits a answer desc p restart)) (cond audit (storing (or_no_area a) answer desc p s.db restart) (Keeps p s.db)) (begun audit (or_no_area a) answer desc p restart)

  store_grown : (i : ℕ) (k : StoreResult) → StoreGrown k → Grown (after_store k i s)
  store_grown i (Refused r) h = replies_grown r
  store_grown i (Keeps p db) h = changed _ [] h refl

  after_begin_grown : (i : ℕ) (k : StoreResult) → StoreGrown k → Grown (after_begin k i s)
  after_begin_grown i (Refused r) h = replies_grown r
  after_begin_grown i (Keeps p db) h = changed _ [] h refl

  end_grown : (k : StoreResult) (desc : Described) (i : ℕ) (sync : Bool) → StoreGrown k → Grown (after_end k desc i s sync)
  end_grown (Refused r) desc i sync h = replies_grown r
  end_grown (Keeps p db) desc i sync h = settled _ h refl

  ending : (audit : Bool) (desc : Described) (p : Program) → StoreGrown (cond audit (keep desc p s.db (restart_of desc)) (Keeps p s.db))
  ending true desc p = keep_grown desc p (restart_of desc)
  ending false desc p = now

  find_grown : (r : Sought) (desc : Described) (i : ℕ) (p : Program) (path : Path) → Grown (after_find r desc i p s path)
  find_grown (Unbased set) desc i p path = refuse_grown _ _
  find_grown (Missed name) desc i p path = refuse_grown _ _
  find_grown (Met r) desc i p path = changed _ [] now refl

  lock_unless_grown : (who : List (List ℕ)) (desc : Described) (i : ℕ) (p : Program) (path : Path) (r : Spot) → Grown (lock_unless who desc i p s path r)
  lock_unless_grown who desc i p path r = if_grown (has_some who) _ _ (replies_grown _) (changed _ [] now refl)

  lock_grown : (r : Sought) (desc : Described) (i : ℕ) (p : Program) (path : Path) → Grown (after_lock r desc i p s path)
  lock_grown (Unbased set) desc i p path = refuse_grown _ _
  lock_grown (Missed name) desc i p path = refuse_grown _ _
  lock_grown (Met r) desc i p path = lock_unless_grown _ desc i p path r

  free_grown : (o : Option ℕ) (desc : Described) (i : ℕ) (p : Program) (set : ℕ) → Grown (free_for o desc i p s set)
  free_grown None desc i p set = refuse_grown _ _
  free_grown (Some number) desc i p set = changed _ [] now refl

  create_grown : (o : Option ℕ) (desc : Described) (i : ℕ) (p : Program) (set : ℕ) → Grown (create_for o desc i p s set)
  create_grown None desc i p set = refuse_grown _ _
  create_grown (Some owner) desc i p set = changed _ [] now refl

  after_put_grown : (f : Filled) (i : ℕ) (p : Program) (set : ℕ) (a : Area) → Grown (after_put f i p s set a)
  after_put_grown (Misfit item) i p set a = refuse_grown _ _
  after_put_grown (Values' values) i p set a = changed _ [] now refl

  put_grown : (a : Option Area) (desc : Described) (i : ℕ) (p : Program) (set : ℕ) (settings : List Setting) → Grown (put_area a desc i p s set settings)
  put_grown None desc i p set settings = refuse_grown _ _
  put_grown (Some a) desc i p set settings = after_put_grown _ i p set a

  get_grown : (a : Option Area) (desc : Described) (i : ℕ) (p : Program) (set : ℕ) (numbers : List ℕ) → Grown (get_area a desc i p s set numbers)
  get_grown None desc i p set numbers = refuse_grown _ _
  get_grown (Some a) desc i p set numbers = changed _ _ now refl

  done_grown : (o : Option Reply) (x : Outcome) → Grown x → Grown (done_unless o s x)
  done_grown None x h = h
  done_grown (Some r) x h = replies_grown r

  listed_grown : (p : Program) (o : Option Reply) (x : Outcome) → Grown x → Grown (cond p.in_transaction (done_unless o s x) (refuse s AuditError p.name))
  listed_grown p o x h = if_grown p.in_transaction (done_unless o s x) (refuse s AuditError p.name) (done_grown o x h) (refuse_grown AuditError p.name)

  verb_grown : (desc : Described) (i : ℕ) (p : Program) (v : Verb) → Grown (verb_step desc i p s v)
  unfolding verb_step store_step delete_step insert_step remove_step assign_step begin_step end_step abort_step find_step lock_step free_step create_step put_step get_step close_step
  verb_grown desc i p OpenUpdate = refuse_grown _ _
  verb_grown desc i p OpenInquiry = refuse_grown _ _
  verb_grown desc i p Close = if_grown p.in_transaction _ _ (refuse_grown _ _) (changed _ [] now refl)
  verb_grown desc i p (Find path) = find_grown _ desc i p path
  verb_grown desc i p (Lock path) = lock_grown _ desc i p path
  verb_grown desc i p (Free set) = free_grown _ desc i p set
  verb_grown desc i p (Create set) = create_grown _ desc i p set
  verb_grown desc i p (PutItems set settings) = put_grown _ desc i p set settings
  verb_grown desc i p (Get set items) = get_grown _ desc i p set items
  verb_grown desc i p (Store set) = if_grown p.in_transaction (after_store (keep desc p s.db set) i s) (refuse s AuditError p.name) (store_grown i (keep desc p s.db set) (keep_grown desc p set)) (refuse_grown AuditError p.name)
  verb_grown desc i p (Delete set) =
      listed_grown p (first_held (delete_refusals desc p s set (or_zero (current_of p set)))) (deleted desc i p s set (or_zero (current_of p set))) (changed _ [] (remove_size n desc s.db set (or_zero (current_of p set)) sized.db) refl)
  verb_grown desc i p (Insert set subset) = listed_grown p (first_held (insert_refusals desc p s set subset)) (inserted desc i p s set subset) (changed _ [] (enter_size n _ s.db subset _ sized.db) refl)
  verb_grown desc i p (Remove set subset) = listed_grown p (first_held (remove_refusals desc p s set subset)) (removed desc i p s set subset) (changed _ [] (leave_size n s.db subset _ _ sized.db) refl)
  verb_grown desc i p (Assign to set item) = listed_grown p (first_held (assign_refusals to desc p set)) (linked desc i p s to set item) (changed _ [] (link_size n s.db set _ item _ sized.db) refl)
  verb_grown desc i p (Begin audit) = if_grown p.in_transaction (refuse s AuditError p.name) (after_begin (begin_transaction desc p s audit) i s) (refuse_grown AuditError p.name) (after_begin_grown i (begin_transaction desc p s audit) (begin_grown desc p audit))
  verb_grown desc i p (End audit sync) =
      if_grown p.in_transaction (after_end (cond audit (keep desc p s.db (restart_of desc)) (Keeps p s.db)) desc i s sync) (refuse s AuditError p.name) (end_grown (cond audit (keep desc p s.db (restart_of desc)) (Keeps p s.db)) desc i sync (ending audit desc p)) (refuse_grown AuditError p.name)
  verb_grown desc i p Abort = if_grown p.in_transaction _ _ (record { db = last; mark = last }) (refuse_grown AuditError p.name)

  open_as_grown : (desc : Described) (name : List ℕ) (mode : Mode) → Grown (open_as desc s name mode)
  open_as_grown desc name mode =
      let opened : Session = record s { programs = s.programs ++ new_program desc name mode ∷ [] } in
      if_grown (nat_le 64 (length s.programs)) (refuse s LimitError name) (succeeds opened) (refuse_grown LimitError name) (changed opened [] now refl)

  open_in_grown : (o : Option Mode) (desc : Described) (name : List ℕ) → Grown (open_in o desc s name)
  open_in_grown None desc name = refuse_grown _ _
  open_in_grown (Some mode) desc name = open_as_grown desc name mode

  open_grown : (desc : Described) (name : List ℕ) (v : Verb) → Grown (open_step desc s name v)
  unfolding open_step
  open_grown desc name v = open_in_grown (traits v).opens desc name

  at_grown : (desc : Described) (p : Option Program) (i : ℕ) (name : List ℕ) (v : Verb) → Grown (step_at desc p i s name v)
  at_grown desc None i name v = open_grown desc name v
  at_grown desc (Some p) i name v =
      if_grown (opens v) _ _ (refuse_grown _ _)
      (if_grown p.owes_abort _ _ (record { db = now; mark = last })
      (if_grown _ _ _ (refuse_grown _ _) (verb_grown desc i p v)))

  -- a step makes one record or entry more at most
  pub step_sized : (desc : Described) (name : List ℕ) (v : Verb) → IsSized (n + 1) (step desc s name v).session
  unfolding step carried_out
  step_sized desc name v = let o = at_grown desc (slice_get s.programs (place_of name s.programs)) (place_of name s.programs) name v in record { db = o.db; mark = o.mark }

  -- and none where its line waits
  pub waits_sized : (desc : Described) (name : List ℕ) (v : Verb) → is_waits (step desc s name v).reply ≡ true → IsSized n (step desc s name v).session
  waits_sized desc name v waits =
      let same = (step_small desc s name v).waits waits in
      record {
        db = subst (HasSize n) (sym (ap (λ (t : Session). t.db) same)) sized.db;
        mark = subst (HasSize n) (sym (ap (λ (t : Session). t.mark) same)) sized.mark;
      }

-- ---- counts

module _ (desc : Described) (n : ℕ) (db : Db) (size : HasSize n db) where
  storing_low : (set : ℕ) (number : Option ℕ) → storing_count desc set number db ≤ n + 3
  storing_low set None = omega arith
  storing_low set (Some number) = omega (arith, filter_low (is_entry_of desc set number) db.entries, size.entries)

  linkers_low : (set number : ℕ) → length (linkers desc db set number) ≤ n
  unfolding linkers
  linkers_low set number =
      omega (arith, length-map (filter (links_to false desc set number) (entries db.records)) place_in_entry, filter_low (links_to false desc set number) (entries db.records), len-entries db.records, size.records)

  area_low : (p : Program) (set : ℕ) → area_count desc p db set ≤ n + 3
  area_low p set = storing_low set (area_number (or_no_area (area_of p set)) (current_of p set))

  restart_low : (audit : Bool) (p : Program) → restart_count audit desc p db ≤ n + 3
  restart_low true p = area_low p (restart_of desc)
  restart_low false p = omega arith

  verb_low : (p : Program) (verb : Verb) → verb_count desc p db verb ≤ n + 3
  verb_low p OpenUpdate = omega arith
  verb_low p OpenInquiry = omega arith
  verb_low p Close = omega arith
  verb_low p (Find path) = omega arith
  verb_low p (Lock path) = omega arith
  verb_low p (Free set) = omega arith
  verb_low p (Create set) = omega arith
  verb_low p (PutItems set settings) = omega arith
  verb_low p (Get set items) = omega arith
  verb_low p (Store set) = area_low p set
  verb_low p (Delete set) = omega (arith, linkers_low set (or_zero (current_of p set)))
  verb_low p (Insert set subset) = omega arith
  verb_low p (Remove set subset) = omega arith
  verb_low p (Assign to set item) = omega arith
  verb_low p (Begin audit) = restart_low audit p
  verb_low p (End audit sync) = restart_low audit p
  verb_low p Abort = omega arith

  for_low : (o : Option Program) (verb : Verb) → count_for o desc db verb ≤ n + 3
  for_low None verb = omega arith
  for_low (Some p) verb = verb_low p verb

-- no verb names, refers to, moves or nulls links in more than there are, and three
pub counts_low : (desc : Described) (n : ℕ) (s : Session) → HasSize n s.db → (name : List ℕ) (verb : Verb) → counts_of desc s name verb ≤ n + 3
unfolding counts_of
counts_low desc n s size name verb = for_low desc n s.db size (slice_get s.programs (place_of name s.programs)) verb

-- ---- records whose numbers are low

-- places in one row
abbrev code : Place → ℕ
code p = 1000000 * p.0 + p.1

-- a data set has a number up to 200, and a record one up to 1,000,000
pub record IsLowPlace (p : Place) : Type 0 where
  pub set : (1 ≤ p.0) × (p.0 ≤ 200)
  pub number : (1 ≤ p.1) × (p.1 ≤ 1000000)

less_sets : (a b : Place) → T (is_lt (place_cmp a b)) → (a.0 + 1 ≤ b.0) ⊎ ((a.0 ≡ b.0) × (a.1 + 1 ≤ b.1))
less_sets a b h = by (nat_lt a.0 b.0) refl
  where
    by : (t : Bool) → nat_lt a.0 b.0 ≡ t → (a.0 + 1 ≤ b.0) ⊎ ((a.0 ≡ b.0) × (a.1 + 1 ≤ b.1))
    by true e = inl (grind (arith, nat_tests, e))
    by false e = inr (grind (arith, nat_tests, e, h), grind (arith, nat_tests, e, h))

less_code : (a b : Place) → IsLowPlace a → IsLowPlace b → (a.0 + 1 ≤ b.0) ⊎ ((a.0 ≡ b.0) × (a.1 + 1 ≤ b.1)) → code a + 1 ≤ code b
less_code a b p q (inl sets) = omega (arith, sets, p.number.1, q.number.0)
less_code a b p q (inr numbers) = omega (arith, numbers.0, numbers.1)

abbrev AreLow : List (Place × Record) → Type 0
AreLow es = AllByRecursion (λ (e : Place × Record). IsLowPlace e.0) es

first_true : (a b : Bool) → T (a && b) → T a
first_true true b p = tt
first_true false b p = absurd p

second_true : (a b : Bool) → T (a && b) → T b
second_true true b p = p
second_true false b p = absurd p

rising_low : (k : ℕ) (es : List (Place × Record)) → k ≤ 201000000 → AreLow es → AllByRecursion (λ (e : Place × Record). k + 1 ≤ code e.0) es → T (is_sorted place_cmp es) → length es + k ≤ 201000000
rising_low k [] most low above order = omega (arith, most)
rising_low k (e ∷ es) most low above order =
    let here : code e.0 ≤ 201000000 = omega (arith, low.0.set.1, low.0.number.1) in
    let rest = rising_low (code e.0) es here low.1 (over es low.1 (first_true (below_all place_cmp e.0 es) (is_sorted place_cmp es) order)) (second_true (below_all place_cmp e.0 es) (is_sorted place_cmp es) order) in
    omega (arith, above.0, rest)
  where
    over : (fs : List (Place × Record)) → AreLow fs → T (below_all place_cmp e.0 fs) → AllByRecursion (λ (f : Place × Record). code e.0 + 1 ≤ code f.0) fs
    over [] lows below = tt
    over (f ∷ fs) lows below =
        (less_code e.0 f.0 low.0 lows.0 (less_sets e.0 f.0 (first_true (is_lt (place_cmp e.0 f.0)) (below_all place_cmp e.0 fs) below)), over fs lows.1 (second_true (is_lt (place_cmp e.0 f.0)) (below_all place_cmp e.0 fs) below))

above_first : (es : List (Place × Record)) → AreLow es → AllByRecursion (λ (e : Place × Record). 1000000 + 1 ≤ code e.0) es
above_first [] low = tt
above_first (e ∷ es) low = (omega (arith, low.0.set.0, low.0.number.0), above_first es low.1)

-- each entry of a map is found in it

abbrev StandsIn : List (Place × Record) → Place → Type 0
StandsIn es q = (r : Record) × (find place_cmp q es ≡ Some r)

stands_more : (d : Place × Record) (es : List (Place × Record)) (q : Place) → StandsIn es q → StandsIn (d ∷ es) q
stands_more d es q h = by (eq_by_cmp place_cmp q d.0)
  where
    by : (b : Bool) → (r : Record) × (cond b (Some d.1) (find place_cmp q es) ≡ Some r)
    by true = (d.1, refl)
    by false = h

all_more : (d : Place × Record) (es xs : List (Place × Record)) → AllByRecursion (λ (e : Place × Record). StandsIn es e.0) xs → AllByRecursion (λ (e : Place × Record). StandsIn (d ∷ es) e.0) xs
all_more d es [] all = tt
all_more d es (x ∷ xs) all = (stands_more d es x.0 all.0, all_more d es xs all.1)

all_stand : (es : List (Place × Record)) → AllByRecursion (λ (e : Place × Record). StandsIn es e.0) es
all_stand [] = tt
all_stand (e ∷ es) = ((e.1, ap (λ (b : Bool). cond b (Some e.1) (find place_cmp e.0 es)) ((eq_by_cmp_equiv places_total).refl e.0)), all_more e es es (all_stand es))

module _ (m : Records) (places : (p : Place) (r : Record) → get m p ≡ Some r → IsLowPlace p) where
  all_low : (es : List (Place × Record)) → AllByRecursion (λ (e : Place × Record). StandsIn (entries m) e.0) es → AreLow es
  all_low [] all = tt
  all_low (e ∷ es) all = (places e.0 all.0.0 (get-entries m e.0 ∙ all.0.1), all_low es all.1)

  -- there are at most 1,000,000 for each of 200 data sets
  pub records_few : len m ≤ 200000000
  records_few =
      let low = all_low (entries m) (all_stand (entries m)) in
      omega (arith, len-entries m, rising_low 1000000 (entries m) (omega arith) low (above_first (entries m) low) (entries_sorted m))
