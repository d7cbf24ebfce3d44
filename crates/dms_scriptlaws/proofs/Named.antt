-- Each step of a session whose programs have names leaves such a session, and its reply holds no line feed.
use Rattle.std.proofs.Common.{◌≡◌, ◌+◌, ◌-◌, ℕ, zero, suc, List, [], ◌∷◌, ◌++◌, Bool, true, false, cond, Some, None, refl, subst, ◌&&◌, ◌||◌, nat_le, length, map, codes}
use Rattle.std.specs.Prelude.{slice_get, slice_set, is_some, not, IfSome}
use Rattle.std.specs.List.{AllByRecursion, list_any}
use Rattle.std.specs.declared.option.Option.{Option}
use Rattle.std.specs.FinMap.{get}
use Rattle.std.specs.Str.{bytes_eq}
use Rattle.dms_base.specs.declared.value.Value.{Value}
use Rattle.dms_base.specs.declared.category.Category.{Category}
use Rattle.dms_base.specs.declared.category.Category.TheVariants.{Deadlock, LimitError, AuditError, Abort as AbortDue}
use Rattle.dms_base.specs.Fits.{fits}
use Rattle.dms_base.specs.Name.{IsName}
use Rattle.dms_base.specs.Spelling.{text_for}
use Rattle.dms_desc.specs.declared.structure.Item.{Item}
use Rattle.dms_desc.specs.Conds.{is_null, or_null, item_of}
use Rattle.dms_desc.specs.declared.record.Record.{Record}
use Rattle.dms_desc.specs.Plain.{IsPlain, ArePlain}
use Rattle.dms_desc.specs.Shape.{Shape, Described}
use Rattle.dms_locks.specs.Locks.{has_lock, no_locks, without_lock}
use Rattle.dms_locks.specs.Places.{Place}
use Rattle.dms_locks.specs.Waits.{closes_circle}
use Rattle.dms_model.specs.Programs.{Program, Area, New, Old, Wait}
use Rattle.dms_model.specs.declared.mode.Mode.{Mode}
use Rattle.dms_model.specs.declared.verb.Verb.{Verb}
use Rattle.dms_model.specs.declared.verb.Verb.TheVariants.{OpenUpdate, OpenInquiry, Close, Find, Lock, Free, Create, Put as PutItems, Get, Store, Delete, Insert, Remove, Assign, Begin, End, Abort}
use Rattle.dms_model.specs.declared.verb.Path.{Path}
use Rattle.dms_model.specs.declared.verb.Path.TheVariants.{First, Last, Next, Prior, Current, Via, At}
use Rattle.dms_model.specs.declared.verb.Setting.{Setting}
use Rattle.dms_model.specs.declared.reply.Reply.{Reply}
use Rattle.dms_model.specs.declared.reply.Reply.TheVariants.{Exception, Waits}
use Rattle.dms_model.specs.StoreLaws.{AllAnswers, begun_by, keep_by}
use Rattle.dms_model.specs.declared.put.Put.{Put}
use Rattle.dms_model.specs.declared.spot.Spot.{Spot}
use Rattle.dms_model.specs.Db.{Db}
use Rattle.dms_desc.specs.Lookups.{name_of, structure_of, items_of}
use Rattle.dms_model.specs.AtHand.{is_same}
use Rattle.dms_model.specs.Fitting.{AreFitting}
use Rattle.dms_model.specs.Seeking.{met_by, sought_from}
use Rattle.dms_model.specs.FitLaws.{linked_fits, null_fits}
use Rattle.dms_model.specs.Stores.{linked_from, old_of, values_of}
use Rattle.dms_model.specs.Uses.{after_enter, after_leave, after_link, linkers}
use Rattle.dms_model.specs.Valid.{IsValid, OfItems}
use Rattle.dms_model.specs.Session.{Session, Outcome, StoreResult, Refused, Keeps, Filled, Misfit, Values', refuse, succeeds, shows, settle, keep, store_step, after_store, begin_step, after_begin, begin_transaction, begin_refusals, area_answer, area_of, area_refusals, duplicate_of, or_no_area, or_unknown, replies, stored_program, begin_blockers, blockers, has_some, wait_reply, workers, end_step, after_end, abort_step, find_step, after_find, assign_refusals, assign_step, assigned, delete_refusals, delete_step, deleted, done_unless, entered_as, first_held, insert_refusals, insert_step, inserted, linked, or_zero, remove_refusals, remove_step, removed, sought_name, without_current, found_by, found_in, moves, sought, Sought, Unbased, Missed, Met, lock_step, lock_unless, after_lock, locked_program, free_step, free_for, create_step, create_for, create_area, current_of, owner_for, owner_in, base_of, refuse_unowned, put_step, put_area, after_put, fill_values, item_name, setting_value, get_step, get_area, get_text, more_text, item_text, close_step, open_as, open_step, verb_step, step_at, after_answer, freed_named, programs_after, says_deadlock, carried_out, step, with_area, with_current, with_program, restart_of, someone_works, is_inquiry, opens, changes, new_program, place_of, activate, leave_transaction, without, idle, backed_out, found_program, let_go, missing_from, area_number, area_values, shown_values, open_in}
use Rattle.dms_model.specs.Traits.{traits}
use Rattle.dms_model.specs.Areas.{AreaFits, AreasFit}
use Rattle.dms_laws.proofs.Lists.{all_at, all_set, all_mapped, all_pushed, all_without}
use Rattle.dms_laws.proofs.Refusals.{done_all}
use Rattle.dms_scriptlaws.specs.Truths.{HasNames}
use Rattle.dms_scriptlaws.proofs.Digits.{NoFeed}
use Rattle.dms_scriptlaws.proofs.Feeds.{IsClean, feed_on, feed_of, name_feed, unknown_feed, text_feed}
use Rattle.dms_block.specs.Held.{one_more}
use Rattle.dms_desc_bytes.specs.Finding.{owner_in as owner_of}

-- a program has a name
abbrev pub Named : Program → Type 0
Named p = IsName p.name

abbrev pub AreNamed : List Program → Type 0
AreNamed ps = AllByRecursion Named ps

-- the reply of an outcome is clean, and the programs that it leaves have names
pub record LeavesNamed (o : Outcome) : Type 0 where
  pub reply : IsClean o.reply
  pub names : AreNamed o.session.programs

leaves_if : (b : Bool) (x y : Outcome) → LeavesNamed x → LeavesNamed y → LeavesNamed (cond b x y)
leaves_if true x y h k = h
leaves_if false x y h k = k

replied : (s : Session) (r : Reply) → IsClean r → AreNamed s.programs → LeavesNamed (replies s r)
replied s r h all = record { reply = h; names = all }

refused : (s : Session) (c : Category) (n : List ℕ) → NoFeed n → AreNamed s.programs → LeavesNamed (refuse s c n)
refused s c n h all = record { reply = h; names = all }

shown : (s : Session) (text : List ℕ) → NoFeed text → AreNamed s.programs → LeavesNamed (shows s text)
shown s text h all = record { reply = h; names = all }

settled : (t : Session) → AreNamed t.programs → LeavesNamed (settle t)
unfolding settle
settled t h =
    let idles = all_mapped Named idle t.programs (λ x n. n) h in
    leaves_if (someone_works t.programs) _ _ (shown t [] tt h) (leaves_if t.pending _ _ (record { reply = tt; names = idles }) (record { reply = tt; names = idles }))

-- programs keep their names

if_named : (b : Bool) (x y : Program) → Named x → Named y → Named (cond b x y)
if_named true x y h k = h
if_named false x y h k = k

let_go_named : (p : Program) (set : ℕ) → Named p → Named (let_go p set)
let_go_named p set h = if_named p.in_transaction p (record p { locks = _ }) h h

current_named : (desc : Described) (set : ℕ) (c : Option ℕ) (p : Program) → Named p → Named (with_current desc set c p)
unfolding with_current
current_named desc set c p h = if_named (is_same (current_of p set) c) p _ h h

found_named : (desc : Described) (p : Program) (path : Path) (r : Spot) → Named p → Named (found_program desc p path r)
unfolding found_program
found_named desc p path r h =
    let set = found_in desc path in
    let now = current_named desc set (Some r.number) p h in
    let_go_named _ set (if_named (moves path) _ (with_area (with_current desc set (Some r.number) p) set (Some (Old r.rec.values))) now now)

freed_one : (name : List ℕ) (p : Program) → Named p → Named (freed_named name p)
freed_one name p h = if_named (bytes_eq p.name name) (record p { locks = no_locks }) p h h

answered_names : (b : Bool) (name : List ℕ) (ps : List Program) → AreNamed ps → AreNamed (cond b (map (freed_named name) ps) ps)
answered_names true name ps h = all_mapped Named (freed_named name) ps (λ x n. freed_one name x n) h
answered_names false name ps h = h

backed_named : (name : List ℕ) (p : Program) → Named p → Named (backed_out name p)
unfolding backed_out
backed_named name p h = if_named p.active _ _ h h

one_more_feed : (b : Bool) (name : List ℕ) (names : List (List ℕ)) → NoFeed name → AllByRecursion NoFeed names → AllByRecursion NoFeed (cond b (name ∷ names) names)
one_more_feed true name names h k = (h, k)
one_more_feed false name names h k = k

workers_feed : (ps : List Program) → AreNamed ps → AllByRecursion NoFeed (workers ps)
workers_feed [] h = tt
workers_feed (p ∷ ps) h = one_more_feed p.in_transaction p.name (workers ps) (name_feed p.name h.0) (workers_feed ps h.1)

blockers_feed : (places : List Place) (name : List ℕ) (ps : List Program) → AreNamed ps → AllByRecursion NoFeed (blockers places name ps)
blockers_feed places name [] h = tt
blockers_feed places name (p ∷ ps) h = one_more_feed (not (bytes_eq p.name name) && list_any (has_lock p.locks) places) p.name (blockers places name ps) (name_feed p.name h.0) (blockers_feed places name ps h.1)

-- a program is answered that it waits, or DEADLOCK

clean_if : (b : Bool) (x y : Reply) → IsClean x → IsClean y → IsClean (cond b x y)
clean_if true x y h k = h
clean_if false x y h k = k

wait_clean : (ws : List Wait) (name : List ℕ) (who : List (List ℕ)) (set : List ℕ) → AllByRecursion NoFeed who → NoFeed set → IsClean (wait_reply ws name who set)
wait_clean ws name who set h k = clean_if (closes_circle ws name who) (Exception Deadlock set) (Waits who) k h

-- items have names

abbrev ItemsNamed : List Item → Type 0
ItemsNamed items = AllByRecursion (λ (i : Item). NoFeed i.name) items

items_named : (items : List Item) → ((k : ℕ) (item : Item) → slice_get items k ≡ Some item → IsName item.name) → ItemsNamed items
items_named [] all = tt
items_named (i ∷ items) all = (name_feed i.name (all 0 i refl), items_named items (λ k item at. all (suc k) item at))

if_missing : (b : Bool) (name : List ℕ) (o : Option (List ℕ)) → NoFeed name → IfSome o NoFeed → IfSome (cond b (Some name) o) NoFeed
if_missing true name o h k = h
if_missing false name o h k = k

missing_feed : (k : ℕ) (items : List Item) (values : List Value) → ItemsNamed items → IfSome (missing_from k items values) NoFeed
missing_feed k [] values h = tt
missing_feed k (i ∷ items) values h = if_missing (i.required && is_null (or_null (slice_get values k))) i.name (missing_from (k + 1) items values) h.0 (missing_feed (k + 1) items values h.1)

item_name_feed : (items : List Item) (k : ℕ) → ItemsNamed items → NoFeed (item_name (slice_get items k))
item_name_feed [] k h = unknown_feed
item_name_feed (i ∷ items) zero h = h.0
item_name_feed (i ∷ items) (suc k) h = item_name_feed items k h.1

unknown_or : (o : Option (List ℕ)) → IfSome o NoFeed → NoFeed (or_unknown o)
unknown_or None h = unknown_feed
unknown_or (Some name) h = h

abbrev FilledClean : Filled → Type 0
FilledClean (Misfit name) = NoFeed name
FilledClean (Values' values) = Unit {0}

filled_if : (b : Bool) (x y : Filled) → FilledClean x → FilledClean y → FilledClean (cond b x y)
filled_if true x y h k = h
filled_if false x y h k = k

filled_clean : (items : List Item) (ts : List Setting) (values : List Value) → ItemsNamed items → FilledClean (fill_values items ts values)
filled_clean items [] values h = tt
filled_clean items (t ∷ ts) values h =
    filled_if (is_some (setting_value items t)) (fill_values items ts (slice_set values (t.item - 1) (or_null (setting_value items t)))) (Misfit (item_name (slice_get items (t.item - 1))))
    (filled_clean items ts _ h) (item_name_feed items (t.item - 1) h)

-- what GET shows

value_plain : (values : List Value) (k : ℕ) → ArePlain values → IsPlain (or_null (slice_get values k))
value_plain [] k h = tt
value_plain (v ∷ vs) zero h = h.0
value_plain (v ∷ vs) (suc k) h = value_plain vs k h.1

item_feed : (items : List Item) (k : ℕ) (v : Value) → ItemsNamed items → IsPlain v → NoFeed (item_text (slice_get items k) v)
item_feed [] k v h plain = tt
item_feed (i ∷ items) zero v h plain = feed_on (i.name ++ codes "=") (text_for i.kind v) (feed_on i.name (codes "=") h.0 (feed_of (codes "=") refl)) (text_feed i.kind v plain)
item_feed (i ∷ items) (suc k) v h plain = item_feed items k v h.1 plain

more_feed : (items : List Item) (ns : List ℕ) (values : List Value) → ItemsNamed items → ArePlain values → NoFeed (more_text items ns values)
more_feed items [] values h plain = tt
more_feed items (n ∷ ns) values h plain =
    feed_on (codes ", " ++ item_text (slice_get items (n - 1)) (item_of values n)) (more_text items ns values)
    (feed_on (codes ", ") (item_text (slice_get items (n - 1)) (item_of values n)) (feed_of (codes ", ") refl) (item_feed items (n - 1) (item_of values n) h (value_plain values (n - 1) plain)))
    (more_feed items ns values h plain)

get_feed : (items : List Item) (ns : List ℕ) (values : List Value) → ItemsNamed items → ArePlain values → NoFeed (get_text items ns values)
get_feed items [] values h plain = tt
get_feed items (n ∷ ns) values h plain =
    feed_on (item_text (slice_get items (n - 1)) (item_of values n)) (more_text items ns values)
    (item_feed items (n - 1) (item_of values n) h (value_plain values (n - 1) plain)) (more_feed items ns values h plain)

-- the name of what isn't there

abbrev SoughtClean : Sought → Type 0
SoughtClean (Unbased set) = Unit {0}
SoughtClean (Missed name) = NoFeed name
SoughtClean (Met r) = Unit {0}

met_clean : (o : Option Spot) (desc : Described) (path : Path) → NoFeed (sought_name desc path) → SoughtClean (met_by o desc path)
met_clean None desc path h = h
met_clean (Some r) desc path h = tt

sought_at : (o : Option ℕ) (desc : Described) (db : Db) (p : Program) (path : Path) → NoFeed (sought_name desc path) → SoughtClean (sought_from o desc db p path)
sought_at None desc db p path h = tt
sought_at (Some base) desc db p path h = met_clean (found_by desc db p base path) desc path h

sought_clean : (desc : Described) (db : Db) (p : Program) (path : Path) → NoFeed (sought_name desc path) → SoughtClean (sought desc db p path)
unfolding sought
sought_clean desc db p path h = sought_at (owner_in p (base_of desc path)) desc db p path h

-- storing

abbrev KeptNamed : StoreResult → Type 0
KeptNamed (Refused r) = IsClean r
KeptNamed (Keeps p db) = Named p

kept_if : (b : Bool) (x y : StoreResult) → KeptNamed x → KeptNamed y → KeptNamed (cond b x y)
kept_if true x y h k = h
kept_if false x y h k = k

module _ (desc : Described) (names : HasNames desc) where
  shape_feed : (n : ℕ) → NoFeed (name_of (structure_of desc n))
  shape_feed n = by (structure_of desc n) refl
    where
      by : (o : Option Shape) → structure_of desc n ≡ o → NoFeed (name_of o)
      by None h = unknown_feed
      by (Some shape) h = name_feed shape.name (names.structures n shape h)

  set_items : (n : ℕ) → ItemsNamed (items_of (structure_of desc n))
  set_items n = by (structure_of desc n) refl
    where
      by : (o : Option Shape) → structure_of desc n ≡ o → ItemsNamed (items_of o)
      by None h = tt
      by (Some shape) h = items_named shape.items (names.items n shape h)

  -- what a path looks for has a name
  sought_feed : (path : Path) → NoFeed (sought_name desc path)
  sought_feed (First x) = shape_feed x
  sought_feed (Last x) = shape_feed x
  sought_feed (Next x) = shape_feed x
  sought_feed (Prior x) = shape_feed x
  sought_feed (Current set) = shape_feed set
  sought_feed (Via set item) = item_name_feed (items_of (structure_of desc set)) (item - 1) (set_items set)
  sought_feed (At x literals) = shape_feed x

  module _ (s : Session) (i : ℕ) (p : Program) (at : slice_get s.programs i ≡ Some p) (all : AreNamed s.programs) where
    mine : Named p
    mine = all_at Named s.programs i p at all

    mine_feed : NoFeed p.name
    mine_feed = name_feed p.name mine

    with_named : (q : Program) → Named q → AreNamed (slice_set s.programs i q)
    with_named q h = all_set Named s.programs i q all h

    kept_named : (db : Db) (set : ℕ) (a : Area) (n : ℕ) → Named (stored_program desc p set n a)
    kept_named db set a n = current_named desc set (Some n) p mine

    area_clean : (a : Area) (answer : Put) (set : ℕ) → AllAnswers IsClean (area_refusals a answer desc p set)
    area_clean a answer set = (shape_feed set, (unknown_or (missing_from 0 (items_of (structure_of desc set)) (area_values a)) (missing_feed 0 (items_of (structure_of desc set)) (area_values a) (set_items set)), (shape_feed set, (shape_feed (duplicate_of answer), (shape_feed set, tt)))))

    begun_clean : (audit : Bool) (who : List (List ℕ)) (ws : List Wait) (o : Option Area) (answer : Put) (set : ℕ) → AllByRecursion NoFeed who → AllAnswers IsClean (begin_refusals audit who ws o answer desc p set)
    begun_clean true who ws o answer set h = (shape_feed set, (wait_clean ws p.name who (name_of (structure_of desc set)) h (shape_feed set), area_clean (or_no_area o) answer set))
    begun_clean false who ws o answer set h = (wait_clean ws p.name who (name_of (structure_of desc set)) h (shape_feed set), tt)

    keep_named : (db : Db) (set : ℕ) → KeptNamed (keep desc p db set)
    keep_named db set = keep_by KeptNamed desc p db set (λ a n may. kept_named db set a n) (shape_feed set, area_clean (or_no_area (area_of p set)) (area_answer desc p db set) set)

    begun_kept : (audit : Bool) → AllByRecursion NoFeed (begin_blockers s) → KeptNamed (begin_transaction desc p s audit)
    begun_kept audit h = begun_by KeptNamed desc p s audit (λ is a n may. kept_named s.db (restart_of desc) a n) mine (begun_clean audit (begin_blockers s) s.waits (area_of p (restart_of desc)) (area_answer desc p s.db (restart_of desc)) (restart_of desc) h)

    keep_if : (audit : Bool) → KeptNamed (cond audit (keep desc p s.db (restart_of desc)) (Keeps p s.db))
    keep_if audit = kept_if audit (keep desc p s.db (restart_of desc)) (Keeps p s.db) (keep_named s.db (restart_of desc)) mine

    store_named : (k : StoreResult) → KeptNamed k → LeavesNamed (after_store k i s)
    store_named (Refused r) h = replied s r h all
    store_named (Keeps q db) h = shown _ [] tt (with_named (activate q) h)

    begun_named : (k : StoreResult) → KeptNamed k → LeavesNamed (after_begin k i s)
    begun_named (Refused r) h = replied s r h all
    begun_named (Keeps q db) h = shown _ [] tt (with_named _ h)

    end_named : (k : StoreResult) (sync : Bool) → KeptNamed k → LeavesNamed (after_end k desc i s sync)
    end_named (Refused r) sync h = replied s r h all
    end_named (Keeps q db) sync h =
        settled (record s { db = db; programs = slice_set s.programs i (leave_transaction q); pending = s.pending || sync || nat_le desc.syncpoint (one_more s.since); since = one_more s.since }) (with_named (leave_transaction q) h)

    find_named : (k : Sought) (path : Path) → SoughtClean k → LeavesNamed (after_find k desc i p s path)
    find_named (Unbased set) path h = refused s _ _ (shape_feed set) all
    find_named (Missed name) path h = refused s _ name h all
    find_named (Met r) path h = shown _ [] tt (with_named (activate (found_program desc p path r)) (found_named desc p path r mine))

    lock_met : (who : List (List ℕ)) (path : Path) (r : Spot) → AllByRecursion NoFeed who → LeavesNamed (lock_unless who desc i p s path r)
    lock_met who path r h =
        let name = name_of (structure_of desc (found_in desc path)) in
        leaves_if (has_some who) _ _ (replied s (wait_reply s.waits p.name who name) (wait_clean s.waits p.name who name h (shape_feed (found_in desc path))) all)
        (shown _ [] tt (with_named (activate (locked_program desc p path r)) (found_named desc p path r mine)))

    lock_named : (k : Sought) (path : Path) → SoughtClean k → LeavesNamed (after_lock k desc i p s path)
    lock_named (Unbased set) path h = refused s _ _ (shape_feed set) all
    lock_named (Missed name) path h = refused s _ name h all
    lock_named (Met r) path h = let places = (found_in desc path, r.number) ∷ [] in lock_met (blockers places p.name s.programs) path r (blockers_feed places p.name s.programs all)

    free_named : (o : Option ℕ) (set : ℕ) → LeavesNamed (free_for o desc i p s set)
    free_named None set = refused s _ _ (shape_feed set) all
    free_named (Some n) set = shown _ [] tt (with_named (activate (let_go p set)) (let_go_named p set mine))

    owner_feed : (x : ℕ) → LeavesNamed (refuse_unowned desc s x)
    owner_feed x = refused s _ _ (shape_feed (owner_of (structure_of desc x))) all

    create_for_named : (o : Option ℕ) (set : ℕ) → LeavesNamed (create_for o desc i p s set)
    create_for_named None set = owner_feed set
    create_for_named (Some owner) set = shown _ [] tt (with_named (activate (create_area desc p set owner)) (let_go_named _ set (current_named desc set None p mine)))

    after_put_named : (f : Filled) (set : ℕ) (a : Area) → FilledClean f → LeavesNamed (after_put f i p s set a)
    after_put_named (Misfit item) set a h = refused s _ item h all
    after_put_named (Values' values) set a h = shown _ [] tt (with_named _ mine)

    put_area_named : (o : Option Area) (set : ℕ) (settings : List Setting) → LeavesNamed (put_area o desc i p s set settings)
    put_area_named None set settings = refused s _ _ (shape_feed set) all
    put_area_named (Some a) set settings =
        after_put_named (fill_values (items_of (structure_of desc set)) settings (area_values a)) set a (filled_clean (items_of (structure_of desc set)) settings (area_values a) (set_items set))

    -- values of an area fit, where its data set is there; else nothing is shown of them
    area_fitting : (shape : Shape) (a : Area) → AreaFits shape (Some a) → AreFitting shape.items (area_values a)
    area_fitting shape (New values owner) h = h.1
    area_fitting shape (Old values) h = h

    -- and so do those of a record that stands
    olds_fit : IsValid desc s.db → (set : ℕ) (shape : Shape) (number : Option ℕ) → structure_of desc set ≡ Some shape
        → OfItems shape.items (values_of (old_of s.db set number)) (λ item v. fits item.kind v ≡ true) × ArePlain (values_of (old_of s.db set number))
    olds_fit valid set shape None here = ((λ k item here. null_fits item.kind), tt)
    olds_fit valid set shape (Some n) here = by (get s.db.records (set, n)) refl
      where
        by : (o : Option Record) → get s.db.records (set, n) ≡ o → OfItems shape.items (values_of o) (λ item v. fits item.kind v ≡ true) × ArePlain (values_of o)
        by None at = ((λ k item here. null_fits item.kind), tt)
        by (Some r) at = (valid.fit (set, n) r shape at here, valid.plain (set, n) r shape at here)

    shown_plain : IsValid desc s.db → (set : ℕ) (shape : Shape) (a : Area) (number : Option ℕ) → structure_of desc set ≡ Some shape → AreaFits shape (Some a)
        → ArePlain (linked_from 0 shape.items (values_of (old_of s.db set number)) (area_values a))
    shown_plain valid set shape a number here h =
        let olds = olds_fit valid set shape number here in
        (linked_fits shape.items (values_of (old_of s.db set number)) (area_values a) (area_fitting shape a h) olds.0 olds.1).plain

    none_text : (ns : List ℕ) (values : List Value) → NoFeed (more_text [] ns values)
    none_text [] values = tt
    none_text (n ∷ ns) values = (refl, (refl, none_text ns values))

    none_shown : (ns : List ℕ) (values : List Value) → NoFeed (get_text [] ns values)
    none_shown [] values = tt
    none_shown (n ∷ ns) values = none_text ns values

    get_named : (o : Option Area) (set : ℕ) (numbers : List ℕ) → IsValid desc s.db → AreasFit desc p → area_of p set ≡ o → LeavesNamed (get_area o desc i p s set numbers)
    get_named None set numbers valid fit is = refused s _ _ (shape_feed set) all
    get_named (Some a) set numbers valid fit is = shown _ _ (by (structure_of desc set) refl) (with_named (activate p) mine)
      where
        number : Option ℕ
        number = area_number a (current_of p set)

        values : Option Shape → List Value
        values o = linked_from 0 (items_of o) (values_of (old_of s.db set number)) (area_values a)

        by : (o : Option Shape) → structure_of desc set ≡ o → NoFeed (get_text (items_of o) numbers (values o))
        by None h = none_shown numbers (values None)
        by (Some shape) h = get_feed shape.items numbers (values (Some shape)) (items_named shape.items (names.items set shape h)) (shown_plain valid set shape a number h (subst (AreaFits shape) is (fit set shape h)))

    -- deleting, entries and links

    listed_named : (rs : List (Bool × Reply)) (o : Outcome) → AllAnswers IsClean rs → LeavesNamed o → LeavesNamed (cond p.in_transaction (done_unless (first_held rs) s o) (refuse s AuditError p.name))
    listed_named rs o clean done =
        leaves_if p.in_transaction (done_unless (first_held rs) s o) (refuse s AuditError p.name)
        (done_all LeavesNamed s o rs (all_replied rs clean) (λ none. done)) (refused s AuditError p.name mine_feed all)
      where
        all_replied : (rs : List (Bool × Reply)) → AllAnswers IsClean rs → AllAnswers (λ r. LeavesNamed (replies s r)) rs
        all_replied [] h = tt
        all_replied (r ∷ rs) h = (replied s r.1 h.0 all, all_replied rs h.1)

    without_named : (set n : ℕ) (x : Program) → Named x → Named (without_current desc set n x)
    without_named set n x h = if_named (is_same (current_of x set) (Some n)) (with_area (with_current desc set None x) set None) x (current_named desc set None x h) h

    deleted_named : (set n : ℕ) → LeavesNamed (deleted desc i p s set n)
    deleted_named set n =
        let gone = activate (record p { locks = without_lock p.locks (set, n) }) in
        shown _ [] tt (all_mapped Named (without_current desc set n) (slice_set s.programs i gone) (without_named set n) (with_named gone mine))

    delete_clean : (set n : ℕ) → AllAnswers IsClean (delete_refusals desc p s set n)
    delete_clean set n = (shape_feed set, (shape_feed set, (shape_feed set, (wait_clean s.waits p.name (blockers (linkers desc s.db set n) p.name s.programs) (name_of (structure_of desc set)) (blockers_feed (linkers desc s.db set n) p.name s.programs all) (shape_feed set), tt))))

    insert_clean : (set subset : ℕ) → AllAnswers IsClean (insert_refusals desc p s set subset)
    insert_clean set subset = (shape_feed set, (shape_feed (owner_of (structure_of desc subset)), (shape_feed subset, (shape_feed subset, tt))))

    remove_clean : (set subset : ℕ) → AllAnswers IsClean (remove_refusals desc p s set subset)
    remove_clean set subset = (shape_feed set, (shape_feed (owner_of (structure_of desc subset)), (shape_feed subset, tt)))

    assign_clean : (to : Option ℕ) (set : ℕ) → AllAnswers IsClean (assign_refusals to desc p set)
    assign_clean None set = (shape_feed set, (shape_feed set, tt))
    assign_clean (Some d) set = (shape_feed d, (shape_feed set, (shape_feed set, tt)))

    done_named : (db : Db) → LeavesNamed (succeeds (record s { db = db; programs = slice_set s.programs i (activate p) }))
    done_named db = shown _ [] tt (with_named (activate p) mine)

  awaited_feed : (s : Session) → AreNamed s.programs → AllByRecursion NoFeed (begin_blockers s)
  awaited_feed s all = by s.pending
    where
      by : (b : Bool) → AllByRecursion NoFeed (cond b (workers s.programs) [])
      by true = workers_feed s.programs all
      by false = tt

  -- every verb

  verb_named : (i : ℕ) (p : Program) (s : Session) (v : Verb) → slice_get s.programs i ≡ Some p → AreNamed s.programs → AreasFit desc p → IsValid desc s.db → LeavesNamed (verb_step desc i p s v)
  unfolding verb_step store_step delete_step insert_step remove_step assign_step begin_step end_step abort_step find_step lock_step free_step create_step put_step get_step close_step
  verb_named i p s OpenUpdate at all fit valid = refused s _ p.name (mine_feed s i p at all) all
  verb_named i p s OpenInquiry at all fit valid = refused s _ p.name (mine_feed s i p at all) all
  verb_named i p s Close at all fit valid = leaves_if p.in_transaction (refuse s AuditError p.name) (succeeds (record s { programs = without i s.programs })) (refused s _ p.name (mine_feed s i p at all) all) (shown _ [] tt (all_without Named s.programs i all))
  verb_named i p s (Find path) at all fit valid = find_named s i p at all (sought desc s.db p path) path (sought_clean desc s.db p path (sought_feed path))
  verb_named i p s (Lock path) at all fit valid = lock_named s i p at all (sought desc s.db p path) path (sought_clean desc s.db p path (sought_feed path))
  verb_named i p s (Free set) at all fit valid = free_named s i p at all (current_of p set) set
  verb_named i p s (Create set) at all fit valid = create_for_named s i p at all (owner_for desc p set) set
  verb_named i p s (PutItems set settings) at all fit valid = put_area_named s i p at all (area_of p set) set settings
  verb_named i p s (Get set items) at all fit valid = get_named s i p at all (area_of p set) set items valid fit refl
  verb_named i p s (Store set) at all fit valid = leaves_if p.in_transaction (after_store (keep desc p s.db set) i s) (refuse s AuditError p.name) (store_named s i p at all (keep desc p s.db set) (keep_named s i p at all s.db set)) (refused s _ p.name (mine_feed s i p at all) all)
  verb_named i p s (Delete set) at all fit valid =
      let n = or_zero (current_of p set) in
      listed_named s i p at all (delete_refusals desc p s set n) (deleted desc i p s set n) (delete_clean s i p at all set n) (deleted_named s i p at all set n)
  verb_named i p s (Insert set subset) at all fit valid =
      listed_named s i p at all (insert_refusals desc p s set subset) (inserted desc i p s set subset) (insert_clean s i p at all set subset) (done_named s i p at all (after_enter (entered_as desc p s set subset) s.db subset (or_zero (owner_for desc p subset))))
  verb_named i p s (Remove set subset) at all fit valid =
      listed_named s i p at all (remove_refusals desc p s set subset) (removed desc i p s set subset) (remove_clean s i p at all set subset) (done_named s i p at all (after_leave s.db subset (or_zero (owner_for desc p subset)) (or_zero (current_of p set))))
  verb_named i p s (Assign to set item) at all fit valid =
      listed_named s i p at all (assign_refusals to desc p set) (linked desc i p s to set item) (assign_clean s i p at all to set) (done_named s i p at all (after_link s.db set (or_zero (current_of p set)) item (assigned to p)))
  verb_named i p s (Begin audit) at all fit valid =
      leaves_if p.in_transaction (refuse s AuditError p.name) (after_begin (begin_transaction desc p s audit) i s) (refused s _ p.name (mine_feed s i p at all) all)
      (begun_named s i p at all (begin_transaction desc p s audit) (begun_kept s i p at all audit (awaited_feed s all)))
  verb_named i p s (End audit sync) at all fit valid =
      leaves_if p.in_transaction (after_end (cond audit (keep desc p s.db (restart_of desc)) (Keeps p s.db)) desc i s sync) (refuse s AuditError p.name)
      (end_named s i p at all (cond audit (keep desc p s.db (restart_of desc)) (Keeps p s.db)) sync (keep_if s i p at all audit)) (refused s _ p.name (mine_feed s i p at all) all)
  verb_named i p s Abort at all fit valid =
      leaves_if p.in_transaction (succeeds (record s { db = s.mark; programs = map (backed_out p.name) s.programs; pending = false; since = 0 })) (refuse s AuditError p.name)
      (shown _ [] tt (all_mapped Named (backed_out p.name) s.programs (λ x n. backed_named p.name x n) all)) (refused s _ p.name (mine_feed s i p at all) all)

open_as_named : (desc : Described) (s : Session) (name : List ℕ) (mode : Mode) → IsName name → AreNamed s.programs → LeavesNamed (open_as desc s name mode)
open_as_named desc s name mode named all =
    leaves_if (nat_le 64 (length s.programs)) (refuse s LimitError name) (succeeds (record s { programs = s.programs ++ new_program desc name mode ∷ [] }))
    (refused s _ name (name_feed name named) all) (shown _ [] tt (all_pushed Named s.programs (new_program desc name mode) all named))

open_in_named : (o : Option Mode) (desc : Described) (s : Session) (name : List ℕ) → IsName name → AreNamed s.programs → LeavesNamed (open_in o desc s name)
open_in_named None desc s name named all = refused s _ name (name_feed name named) all
open_in_named (Some mode) desc s name named all = open_as_named desc s name mode named all

open_named : (desc : Described) (s : Session) (name : List ℕ) (v : Verb) → IsName name → AreNamed s.programs → LeavesNamed (open_step desc s name v)
unfolding open_step
open_named desc s name v named all = open_in_named (traits v).opens desc s name named all

step_at_named : (desc : Described) → HasNames desc → (o : Option Program) (i : ℕ) (s : Session) (name : List ℕ) (v : Verb) → slice_get s.programs i ≡ o → IsName name → AreNamed s.programs → AllByRecursion (AreasFit desc) s.programs → IsValid desc s.db
    → LeavesNamed (step_at desc o i s name v)
step_at_named desc names None i s name v at named all fit valid = open_named desc s name v named all
step_at_named desc names (Some p) i s name v at named all fit valid =
    let due : Program = record p { owes_abort = false } in
    leaves_if (opens v) (refuse s _ name) _ (refused s _ name (name_feed name named) all)
    (leaves_if p.owes_abort (record { session = with_program s i due; reply = Exception AbortDue name; sync = None; quiets = [] }) _
    (record { reply = name_feed name named; names = with_named desc names s i p at all due (mine desc names s i p at all) })
    (leaves_if (is_inquiry p.mode && changes v) (refuse s _ name) _ (refused s _ name (name_feed name named) all) (verb_named desc names i p s v at all (all_at (AreasFit desc) s.programs i p at fit) valid)))

answered_named : (name : List ℕ) (o : Outcome) → LeavesNamed o → LeavesNamed (after_answer name o)
answered_named name o h = record { reply = h.reply; names = answered_names (says_deadlock o.reply) name o.session.programs h.names }

-- one step
pub step_named : (desc : Described) → HasNames desc → (s : Session) (name : List ℕ) (v : Verb) → IsName name → AreNamed s.programs → AllByRecursion (AreasFit desc) s.programs → IsValid desc s.db → LeavesNamed (step desc s name v)
unfolding step carried_out
step_named desc names s name v named all fit valid = answered_named name _ (step_at_named desc names (slice_get s.programs (place_of name s.programs)) (place_of name s.programs) s name v refl named all fit valid)
