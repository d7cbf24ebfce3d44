-- Each step leaves a coherent session coherent.
use Rattle.std.proofs.Common.{◌≡◌, ◌≢◌, ◌≤◌, ◌-◌, ◌∙◌, ◌++◌, ℕ, zero, suc, List, [], ◌∷◌, Bool, true, false, cond, Some, None, refl, sym, ap, subst, length, map, not, nat_le, replicate, ◌&&◌, ◌||◌, arith}
use Rattle.std.specs.Prelude.{◌==◌, is_some, slice_get, slice_set}
use Rattle.std.specs.List.{AllByRecursion, list_any}
use Rattle.std.specs.Str.{bytes_eq}
use Rattle.std.specs.declared.option.Option.{Option}
use Rattle.std.specs.FinMap.{get}
use Rattle.std.specs.FinSet as locking
use Rattle.std.specs.Ordering.{eq_by_cmp}
use Rattle.std.proofs.lemmas.Bool.Decides.{nat_tests}
use Rattle.std.proofs.lemmas.List.{length-replicate}
use Rattle.std.proofs.lemmas.Slice.Eq.{bytes_eq-Decides}
use Rattle.dms_base.specs.declared.category.Category.{Category}
use Rattle.dms_base.specs.declared.category.Category.TheVariants.{AuditError, LimitError, Abort as AbortDue}
use Rattle.dms_base.specs.declared.value.Value.{Value}
use Rattle.dms_block.specs.Held.{one_more}
use Rattle.dms_desc.specs.declared.structure.Item.{Item}
use Rattle.dms_desc.specs.Kinds.{is_link}
use Rattle.dms_desc.specs.Lookups.{items_of, over_of, structure_of}
use Rattle.dms_desc.specs.Shape.{Shape, Described}
use Rattle.dms_locks.specs.Locks.{has_lock, no_locks, without_lock}
use Rattle.dms_locks.specs.PlaceLaws.{place_is, places_total}
use Rattle.dms_locks.specs.Places.{Place, place_cmp}
use Rattle.dms_base.specs.declared.kind.ItemKind.{ItemKind}
use Rattle.dms_base.specs.declared.kind.ItemKind.TheVariants.{Alpha, Number as Decimal, Bool as OneBit, Field, Link}
use Rattle.dms_model.specs.AtHand.{is_same}
use Rattle.dms_model.specs.Db.{Db}
use Rattle.dms_model.specs.declared.mode.Mode.{Mode}
use Rattle.dms_model.specs.declared.put.Put.{Put}
use Rattle.dms_model.specs.declared.put.Put.TheVariants.{Stored, Duplicate, Full}
use Rattle.dms_model.specs.declared.reply.Reply.{Reply}
use Rattle.dms_model.specs.declared.reply.Reply.TheVariants.{Exception}
use Rattle.dms_model.specs.declared.spot.Spot.{Spot}
use Rattle.dms_model.specs.declared.verb.Path.{Path}
use Rattle.dms_model.specs.declared.verb.Path.TheVariants.{First, Last, Next, Prior, Current, Via, At}
use Rattle.dms_model.specs.declared.verb.Setting.{Setting}
use Rattle.dms_model.specs.declared.verb.Verb.{Verb}
use Rattle.dms_model.specs.declared.verb.Verb.TheVariants.{OpenUpdate, OpenInquiry, Close, Find, Lock, Free, Create, Put as PutItems, Get, Store, Delete, Insert, Remove, Assign, Begin, End, Abort}
use Rattle.dms_model.specs.Fitting.{IsDataSet}
use Rattle.dms_model.specs.Places.{stands_still, stands_there}
use Rattle.dms_model.specs.Programs.{Area, New, Old, Program, Work}
use Rattle.dms_model.specs.Seeking.{kind_target, link_target}
use Rattle.dms_model.specs.Session.{Filled, Keeps, Met, Misfit, Missed, Outcome, Refused, Session, Sought, StoreResult, Unbased, Values', abort_step, activate, after_begin, after_end, after_find, after_lock, after_put, after_store, area_of, area_values, assign_refusals, assigned, assign_step, backed_out, begin_step, begin_transaction, blockers, carried_out, changes, close_step, create_area, create_for, create_step, current_of, delete_refusals, delete_step, deleted, done_unless, end_step, entered_as, enter_transaction, fill_values, find_step, first_held, found_in, found_program, free_for, free_step, get_area, get_step, has_some, idle, insert_refusals, insert_step, inserted, is_inquiry, is_waits, item_in, keep, leave_transaction, let_go, linked, lock_step, lose_within, new_program, no_work, open_in, open_step, opens, or_none, or_zero, owner_for, place_of, put_area, put_step, record_of, refuse, remove_refusals, remove_step, removed, replies, restart_of, settle, shows, someone_works, sought, step_at, store_step, stored_program, succeeds, verb_step, with_area, with_current, with_lock, with_program, with_values, with_work, without, without_current, work_of}
use Rattle.dms_model.specs.StoreLaws.{NoneHolds, begun_any, keep_any}
use Rattle.dms_model.specs.Stores.{is_link_item, put_after, record_to_store}
use Rattle.dms_model.specs.Traits.{traits}
use Rattle.dms_model.specs.Uses.{after_enter, after_leave, after_link, after_remove}
use Rattle.dms_model.specs.Valid.{is_data_set}
use Rattle.dms_model.specs.Verbs.{IsPathOf, IsVerbOf, is_path}
use Rattle.dms_laws.specs.Coherent.{IsAtHand, IsCoherent, is_open}
use Rattle.dms_laws.specs.Exclusive.{IsExclusive}
use Rattle.dms_laws.specs.Made.{IsWellMade, PointsAt}
use Rattle.dms_laws.proofs.Founds.{MetStands, sought_stands}
use Rattle.dms_laws.proofs.Hanging.{Goes, Hangs, Outside, StandStill, created_goes, found_goes, hangs_of, hangs_still, let_go_alike, range, rehang, shifted, shifted_outside, shifts_at}
use Rattle.dms_laws.proofs.Linked.{link_stands_still}
use Rattle.dms_laws.proofs.Lists.{all_at, all_changed, all_mapped, all_pushed, all_set, all_without, named_so, unlike}
use Rattle.dms_laws.proofs.Locks.{backed_name}
use Rattle.dms_laws.proofs.Refusals.{MayDelete, done_by, may_delete}
use Rattle.dms_laws.proofs.Removed.{remove_stands}
use Rattle.dms_laws.proofs.Shifts.{SameFlags, Shifts, same_of, unmoved}

-- ---- lists of programs

module _ (t : Program → Bool) where
  any_there : (ps : List Program) (i : ℕ) (p : Program) → slice_get ps i ≡ Some p → t p ≡ true → list_any t ps ≡ true
  any_there [] i p at h = absurd (cc)
  any_there (x ∷ ps) zero p at h = let is : x ≡ p = cc in ap (λ b. b || list_any t ps) (ap t is ∙ h)
  any_there (x ∷ ps) (suc i) p at h = ap (λ b. t x || b) (any_there ps i p at h) ∙ last (t x)
    where
      last : (b : Bool) → (b || true) ≡ true
      last true = refl
      last false = refl

  any_set : (ps : List Program) (i : ℕ) (p q : Program) → slice_get ps i ≡ Some p → t q ≡ t p → list_any t (slice_set ps i q) ≡ list_any t ps
  any_set [] i p q at h = refl
  any_set (x ∷ ps) zero p q at h = let is : x ≡ p = cc in ap (λ b. b || list_any t ps) (h ∙ sym (ap t is))
  any_set (x ∷ ps) (suc i) p q at h = ap (λ b. t x || b) (any_set ps i p q at h)

  any_new : (ps : List Program) (i : ℕ) (p q : Program) → slice_get ps i ≡ Some p → t q ≡ true → list_any t (slice_set ps i q) ≡ true
  any_new [] i p q at h = absurd (cc)
  any_new (x ∷ ps) zero p q at h = ap (λ b. b || list_any t ps) h
  any_new (x ∷ ps) (suc i) p q at h = ap (λ b. t x || b) (any_new ps i p q at h) ∙ last (t x)
    where
      last : (b : Bool) → (b || true) ≡ true
      last true = refl
      last false = refl

  any_gone : (ps : List Program) (i : ℕ) (p : Program) → slice_get ps i ≡ Some p → t p ≡ false → list_any t (without i ps) ≡ list_any t ps
  any_gone [] i p at h = refl
  any_gone (x ∷ ps) zero p at h = let is : x ≡ p = cc in sym (ap (λ b. b || list_any t ps) (ap t is ∙ h))
  any_gone (x ∷ ps) (suc i) p at h = ap (λ b. t x || b) (any_gone ps i p at h)

  pub any_map : (g : Program → Program) → ((x : Program) → t (g x) ≡ t x) → (ps : List Program) → list_any t (map g ps) ≡ list_any t ps
  any_map g same [] = refl
  any_map g same (x ∷ ps) = λ k. same x k || any_map g same ps k

  any_more : (ps : List Program) (q : Program) → list_any t ps ≡ true → list_any t (ps ++ q ∷ []) ≡ true
  any_more [] q h = absurd (cc)
  any_more (x ∷ ps) q h = by (t x) h (any_more ps q)
    where
      by : (b : Bool) → (b || list_any t ps) ≡ true → (list_any t ps ≡ true → list_any t (ps ++ q ∷ []) ≡ true) → (b || list_any t (ps ++ q ∷ [])) ≡ true
      by true h rest = refl
      by false h rest = rest h

  none_each : (ps : List Program) → list_any t ps ≡ false → AllByRecursion (λ x. t x ≡ false) ps
  none_each [] h = tt
  none_each (x ∷ ps) h = by (t x) refl h (none_each ps)
    where
      by : (b : Bool) → t x ≡ b → (b || list_any t ps) ≡ false → (list_any t ps ≡ false → AllByRecursion (λ y. t y ≡ false) ps) → (t x ≡ false) × AllByRecursion (λ y. t y ≡ false) ps
      by true e h rest = absurd (cc)
      by false e h rest = (e, rest h)

-- ---- what a verb leaves

pub record Hold (desc : Described) (s : Session) (name : List ℕ) (o : Outcome) : Type 0 where
  pub programs : AllByRecursion (IsAtHand desc o.session.db o.session.mark) o.session.programs
  pub pending : o.session.pending ≡ true → someone_works o.session.programs ≡ true
  pub others : (other : List ℕ) → other ≢ name → is_open s.programs other ≡ true → is_open o.session.programs other ≡ true
  pub own : is_waits o.reply ≡ true → is_open o.session.programs name ≡ true

hold_if : (desc : Described) (s : Session) (name : List ℕ) (b : Bool) (x y : Outcome) → (b ≡ true → Hold desc s name x) → (b ≡ false → Hold desc s name y) → Hold desc s name (cond b x y)
hold_if desc s name true x y h k = h refl
hold_if desc s name false x y h k = k refl

-- no lock is held where none is
pub no_hold : (p : Program) (d n : ℕ) → has_lock no_locks (d, n) ≡ true → ⊥
no_hold p d n h = let none = locking.contains-empty place_cmp (d, n) in absurd (cc)

-- a program that is active
active_at_hand : (desc : Described) (db mark : Db) (q : Program) → q.active ≡ true → Hangs desc db q → (q.in_transaction ≡ true → (is_inquiry q.mode ≡ false) × (q.owes_abort ≡ false)) → Outside q → IsAtHand desc db mark q
active_at_hand desc db mark q active h working outside = record {
  works = h.works;
  current = h.current;
  marked = λ off d n low is. absurd (cc);
  made = h.made;
  copied = h.copied;
  area = h.area;
  working = λ on. (active, working on);
  outside = outside;
}

-- each record that a program has current stands where each one that stood does
still_at_hand : (desc : Described) (db new mark : Db) → StandStill db new → (x : Program) → IsAtHand desc db mark x → IsAtHand desc new mark x
still_at_hand desc db new mark still x h = record { works = h.works; current = λ d n low is. still (d, n) (h.current d n low is); marked = h.marked; made = h.made; copied = h.copied; area = h.area; working = h.working; outside = h.outside }

same_still : (db : Db) → StandStill db db
same_still db place h = h

enter_still : (a : Put) (db : Db) (subset owner : ℕ) → StandStill db (after_enter a db subset owner)
enter_still (Stored n) db subset owner place h = h
enter_still (Duplicate d) db subset owner place h = h
enter_still Full db subset owner place h = h

leave_still : (db : Db) (subset owner number : ℕ) → StandStill db (after_leave db subset owner number)
unfolding after_leave
leave_still db subset owner number place h = h

without_flags : (desc : Described) (d n : ℕ) (x : Program) → SameFlags x (without_current desc d n x)
unfolding with_current
without_flags desc d n x = by (is_same (current_of x d) (Some n)) (is_same (current_of x d) None)
  where
    by : (b c : Bool) → SameFlags x (cond b (with_area (cond c x (lose_within desc d (with_work x d (record (work_of x d) { current = None })))) d None) x)
    by true true = record { name = refl; mode = refl; in_transaction = refl; owes_abort = refl; active = refl }
    by true false = record { name = refl; mode = refl; in_transaction = refl; owes_abort = refl; active = refl }
    by false c = record { name = refl; mode = refl; in_transaction = refl; owes_abort = refl; active = refl }

-- ---- the data set of what a path finds

path_set : (desc : Described) → IsWellMade desc → (x : ℕ) (o : Option Shape) → structure_of desc x ≡ o → is_path o ≡ true → is_data_set (structure_of desc (over_of o)) ≡ true
path_set desc made x None here h = absurd (cc)
path_set desc made x (Some s) here h = made.over x s here

kind_set : (desc : Described) (k : ItemKind) → is_link k ≡ true → PointsAt desc k → is_data_set (structure_of desc (kind_target k)) ≡ true
kind_set desc (Alpha n) link h = absurd (cc)
kind_set desc (Decimal n m t) link h = absurd (cc)
kind_set desc OneBit link h = absurd (cc)
kind_set desc (Field n) link h = absurd (cc)
kind_set desc (Link to counted) link h = h

found_set : (desc : Described) → IsWellMade desc → (path : Path) → IsPathOf desc path → IsDataSet desc (found_in desc path)
found_set desc made (First x) is = path_set desc made x (structure_of desc x) refl is
found_set desc made (Last x) is = path_set desc made x (structure_of desc x) refl is
found_set desc made (Next x) is = path_set desc made x (structure_of desc x) refl is
found_set desc made (Prior x) is = path_set desc made x (structure_of desc x) refl is
found_set desc made (Current d) is = is
found_set desc made (Via d item) is = by (structure_of desc d) refl is.link
  where
    here : (s : Shape) → structure_of desc d ≡ Some s → (o : Option Item) → slice_get s.items (item - 1) ≡ o → is_link_item o ≡ true → is_data_set (structure_of desc (link_target o)) ≡ true
    here s has None at link = absurd (cc)
    here s has (Some t) at link = kind_set desc t.kind link (made.targets d s has (item - 1) t at)

    by : (o : Option Shape) → structure_of desc d ≡ o → is_link_item (slice_get (items_of o) (item - 1)) ≡ true → is_data_set (structure_of desc (link_target (item_in desc d item))) ≡ true
    by None has link = absurd (cc)
    by (Some s) has link =
        ap (λ x. is_data_set (structure_of desc (link_target (slice_get (items_of x) (item - 1))))) has
        ∙ here s has (slice_get s.items (item - 1)) refl link
found_set desc made (At x literals) is = path_set desc made x (structure_of desc x) refl is.0

-- ---- a verb of one program

module _ (desc : Described) (made : IsWellMade desc) (s : Session) (i : ℕ) (p : Program) (name : List ℕ) (at : slice_get s.programs i ≡ Some p) (named : p.name ≡ name) (ex : IsExclusive s) (co : IsCoherent desc s) where
  mine : IsAtHand desc s.db s.mark p
  mine = all_at (IsAtHand desc s.db s.mark) s.programs i p at co.programs

  hang : Hangs desc s.db p
  hang = hangs_of desc s.db s.mark p mine

  open_here : is_open s.programs name ≡ true
  open_here = any_there (λ x. bytes_eq x.name name) s.programs i p at ((bytes_eq-Decides p.name name).1 named)

  hold_replies : (r : Reply) → Hold desc s name (replies s r)
  hold_replies r = record { programs = co.programs; pending = co.pending; others = λ other apart h. h; own = λ w. open_here }

  hold_refuse : (c : Category) (n : List ℕ) → Hold desc s name (refuse s c n)
  hold_refuse c n = hold_replies (Exception c n)

  named_set : (q : Program) → q.name ≡ p.name → (other : List ℕ) → is_open s.programs other ≡ true → is_open (slice_set s.programs i q) other ≡ true
  named_set q same other h = any_set (λ x. bytes_eq x.name other) s.programs i p q at (ap (λ n. bytes_eq n other) same) ∙ h

  -- the program changed, and the database so that each record stands that stood
  hold_one : (q : Program) (db : Db) (text : List ℕ) → q.name ≡ p.name → (p.in_transaction ≡ true → q.in_transaction ≡ true) → StandStill s.db db → IsAtHand desc db s.mark q
      → Hold desc s name (shows (record s { db = db; programs = slice_set s.programs i q }) text)
  hold_one q db text same works still h = record {
    programs = all_set (IsAtHand desc db s.mark) s.programs i q (all_still s.programs co.programs) h;
    pending = λ on. by p.in_transaction refl (co.pending on);
    others = λ other apart k. named_set q same other k;
    own = λ w. absurd (cc);
  }
    where
      all_still : (ps : List Program) → AllByRecursion (IsAtHand desc s.db s.mark) ps → AllByRecursion (IsAtHand desc db s.mark) ps
      all_still [] all = tt
      all_still (x ∷ ps) all = (still_at_hand desc s.db db s.mark still x all.0, all_still ps all.1)

      by : (b : Bool) → p.in_transaction ≡ b → someone_works s.programs ≡ true → someone_works (slice_set s.programs i q) ≡ true
      by true e h = any_new (λ x. x.in_transaction) s.programs i p q at (works e)
      by false e h = others_work q.in_transaction refl
        where
          others_work : (c : Bool) → q.in_transaction ≡ c → someone_works (slice_set s.programs i q) ≡ true
          others_work true f = any_new (λ x. x.in_transaction) s.programs i p q at f
          others_work false f = any_set (λ x. x.in_transaction) s.programs i p q at (f ∙ sym e) ∙ h

  -- a program that has other things at hand, and its state
  working_by : (q : Program) → SameFlags p q → q.in_transaction ≡ true → (is_inquiry q.mode ≡ false) × (q.owes_abort ≡ false)
  working_by q f on = let w = (mine.working (sym f.in_transaction ∙ on)).1 in (ap is_inquiry f.mode ∙ w.0, f.owes_abort ∙ w.1)

  hold_active : (q : Program) (text : List ℕ) → SameFlags p q → Hangs desc s.db q → Outside q → Hold desc s name (shows (with_program s i (activate q)) text)
  hold_active q text f h out =
      hold_one (activate q) s.db text f.name (λ on. f.in_transaction ∙ on) (same_still s.db)
      (active_at_hand desc s.db s.mark (activate q) refl (rehang desc s.db q (activate q) refl (λ x. refl) (λ x. refl) h) (working_by q f) out)

  -- ---- finding and locking

  module _ (d : ℕ) (is : IsDataSet desc d) where
    low : 1 ≤ d
    low = (range desc made p hang.works d is).0

    module _ (r : Spot) (stands : get s.db.records (d, r.number) ≡ Some r.rec) (q : Program) (goes : Goes desc d (Some r.number) (Some (Old r.rec.values)) p q) where
      found_hangs : Hangs desc s.db q
      found_hangs =
          shifted desc made d low (Some r.number) (Some (Old r.rec.values)) p q goes.shift s.db s.db hang (λ x n lowx apart has. mine.current x n lowx has)
          (λ n has. let same : r.number ≡ n = cc in ap (λ m. is_some (get s.db.records (d, m))) (sym same) ∙ ap is_some stands)
          (λ o values no. absurd (cc)) (λ values old. refl) (λ n has. refl)

      found_outside : Outside q
      found_outside = shifted_outside desc made d low (Some r.number) (Some (Old r.rec.values)) p q goes.shift mine.outside (λ off n l. absurd (goes.none off n l))

      lock_outside : Outside (with_lock q d r.number)
      lock_outside off x n lowx l = by (eq_by_cmp place_cmp (x, n) (d, r.number)) refl (sym (locking.contains-insert places_total q.locks (d, r.number) (x, n)) ∙ l)
        where
          by : (b : Bool) → eq_by_cmp place_cmp (x, n) (d, r.number) ≡ b → (b || has_lock q.locks (x, n)) ≡ true → current_of q x ≡ Some n
          by true e h = let same = place_is (x, n) (d, r.number) e in ap (λ (y : Place). current_of q y.0) same ∙ goes.shift.current ∙ sym (ap (λ (y : Place). Some y.1) same)
          by false e h = found_outside off x n lowx h

      hold_found : Hold desc s name (succeeds (with_program s i (activate q)))
      hold_found = hold_active q [] goes.shift.flags found_hangs found_outside

      hold_locked : Hold desc s name (succeeds (with_program s i (activate (with_lock q d r.number))))
      hold_locked =
          let f = goes.shift.flags in
          hold_active (with_lock q d r.number) [] (record { name = f.name; mode = f.mode; in_transaction = f.in_transaction; owes_abort = f.owes_abort; active = f.active })
          (rehang desc s.db q (with_lock q d r.number) refl (λ x. refl) (λ x. refl) found_hangs) lock_outside
      -- ---- storing

    stored_new : (n : ℕ) (a : Area) → Db
    stored_new n a = put_after (Stored n) desc s.db d (record_of a)

    stored_still : (n : ℕ) (a : Area) → StandStill s.db (put_after (Stored n) desc s.db d (record_of a))
    stored_still n a place h = stands_still s.db.records (d, n) place (record_to_store desc s.db d (Some n) (record_of a)) h

    stored_hangs : (n : ℕ) (a : Area) → Hangs desc (put_after (Stored n) desc s.db d (record_of a)) (stored_program desc p d n a)
    stored_hangs n a =
        let new = put_after (Stored n) desc s.db d (record_of a) in
        let q = with_area (with_current desc d (Some n) p) d (Some (Old (area_values a))) in
        let h = shifts_at desc made p hang.works d is (Some n) (Some (Old (area_values a))) in
        rehang desc new q (with_lock q d n) refl (λ x. refl) (λ x. refl)
        (shifted desc made d low (Some n) (Some (Old (area_values a))) p q h s.db new hang (λ x m lowx apart has. stored_still n a (x, m) (mine.current x m lowx has))
        (λ m has. let same : n ≡ m = cc in ap (λ k. is_some (get new.records (d, k))) (sym same) ∙ ap is_some (stands_there s.db.records (d, n) (record_to_store desc s.db d (Some n) (record_of a))))
        (λ o values no. absurd (cc)) (λ values old. refl) (λ m has. refl))

    stored_flags : (n : ℕ) (a : Area) → SameFlags p (stored_program desc p d n a)
    stored_flags n a = let f = (shifts_at desc made p hang.works d is (Some n) (Some (Old (area_values a)))).flags in record { name = f.name; mode = f.mode; in_transaction = f.in_transaction; owes_abort = f.owes_abort; active = f.active }

    -- ---- areas

    hold_created : (owner : ℕ) → owner_for desc p d ≡ Some owner → Hold desc s name (succeeds (with_program s i (activate (create_area desc p d owner))))
    hold_created owner own =
        let vs = map (λ (t : Item). t.initial) (items_of (structure_of desc d)) in
        let q = create_area desc p d owner in
        let goes = created_goes desc made p hang.works d is owner in
        hold_active q [] goes.shift.flags
        (shifted desc made d low None (Some (New vs owner)) p q goes.shift s.db s.db hang (λ x n lowx apart has. mine.current x n lowx has) (λ n has. absurd (cc))
        (λ o values has. let same : owner ≡ o = cc in (refl, own ∙ ap (λ m. Some m) same)) (λ values old. absurd (cc)) (λ n has. absurd (cc)))
        (shifted_outside desc made d low None (Some (New vs owner)) p q goes.shift mine.outside (λ off n l. absurd (goes.none off n l)))

    is_same_self : (c : Option ℕ) → is_same c c ≡ true
    is_same_self None = refl
    is_same_self (Some n) = grind (arith, nat_tests)

    hold_put : (a : Area) (values : List Value) → area_of p d ≡ Some a → Hold desc s name (succeeds (with_program s i (activate (with_area p d (Some (with_values a values))))))
    hold_put a values has =
        let q = with_area p d (Some (with_values a values)) in
        let r = range desc made p hang.works d is in
        let h = unmoved desc made d low (current_of p d) p r.1 (Some (with_values a values)) (is_same_self (current_of p d)) in
        hold_active q [] h.flags
        (shifted desc made d low (current_of p d) (Some (with_values a values)) p q h s.db s.db hang (λ x n lowx apart has. mine.current x n lowx has) (λ n has. mine.current d n low has)
        (λ o vs new. news a has o vs new) (λ vs old. olds a has vs old) (λ n has. refl))
        (shifted_outside desc made d low (current_of p d) (Some (with_values a values)) p q h mine.outside (λ off n l. mine.outside off d n low l))
      where
        news : (b : Area) → area_of p d ≡ Some b → (o : ℕ) (vs : List Value) → ◌≡◌ {A = Option Area} (Some (with_values b values)) (Some (New vs o)) → (current_of p d ≡ None) × (owner_for desc p d ≡ Some o)
        news (New ws owner) was o vs new = let same : owner ≡ o = cc in let two = mine.made d owner ws low was in (two.0, two.1 ∙ ap (λ m. Some m) same)
        news (Old ws) was o vs new = absurd (cc)

        olds : (b : Area) → area_of p d ≡ Some b → (vs : List Value) → ◌≡◌ {A = Option Area} (Some (with_values b values)) (Some (Old vs)) → is_some (current_of p d) ≡ true
        olds (New ws owner) was vs old = absurd (cc)
        olds (Old ws) was vs old = mine.copied d ws low was

    hold_freed : Hold desc s name (succeeds (with_program s i (activate (let_go p d))))
    hold_freed =
        let k = let_go_alike p d in
        hold_active (let_go p d) [] k.flags (rehang desc s.db p (let_go p d) k.long k.current k.area hang)
        (λ off x n lowx l. k.current x ∙ mine.outside (sym k.flags.in_transaction ∙ off) x n lowx (k.locks (x, n) l))

    find_holds : (o : Sought) (path : Path) → d ≡ found_in desc path → MetStands desc s.db path o → Hold desc s name (after_find o desc i p s path)
    find_holds (Unbased x) path same stands = hold_refuse _ _
    find_holds (Missed n) path same stands = hold_refuse _ _
    find_holds (Met r) path same stands =
        hold_found r (ap (λ x. get s.db.records (x, r.number)) same ∙ stands) (found_program desc p path r) (found_goes desc made p hang.works d is path r same)

    lock_holds : (o : Sought) (path : Path) → d ≡ found_in desc path → MetStands desc s.db path o → Hold desc s name (after_lock o desc i p s path)
    lock_holds (Unbased x) path same stands = hold_refuse _ _
    lock_holds (Missed n) path same stands = hold_refuse _ _
    lock_holds (Met r) path same stands =
        hold_if desc s name (has_some (blockers ((found_in desc path, r.number) ∷ []) p.name s.programs)) _ _ (λ e. hold_replies _)
        (λ e. subst (λ x. Hold desc s name (succeeds (with_program s i (activate (with_lock (found_program desc p path r) x r.number))))) same
        (hold_locked r (ap (λ x. get s.db.records (x, r.number)) same ∙ stands) (found_program desc p path r) (found_goes desc made p hang.works d is path r same)))

    free_holds : (o : Option ℕ) → Hold desc s name (free_for o desc i p s d)
    free_holds None = hold_refuse _ _
    free_holds (Some n) = hold_freed

    create_holds : (o : Option ℕ) → owner_for desc p d ≡ o → Hold desc s name (create_for o desc i p s d)
    create_holds None own = hold_refuse _ _
    create_holds (Some owner) own = hold_created owner own

    after_put_holds : (f : Filled) (a : Area) → area_of p d ≡ Some a → Hold desc s name (after_put f i p s d a)
    after_put_holds (Misfit n) a has = hold_refuse _ _
    after_put_holds (Values' vs) a has = hold_put a vs has

    put_holds : (o : Option Area) (settings : List Setting) → area_of p d ≡ o → Hold desc s name (put_area o desc i p s d settings)
    put_holds None settings has = hold_refuse _ _
    put_holds (Some a) settings has = after_put_holds (fill_values (items_of (structure_of desc d)) settings (area_values a)) a has

  own_flags : SameFlags p p
  own_flags = record { name = refl; mode = refl; in_transaction = refl; owes_abort = refl; active = refl }

  get_holds : (o : Option Area) (d : ℕ) (numbers : List ℕ) → Hold desc s name (get_area o desc i p s d numbers)
  get_holds None d numbers = hold_refuse _ _
  get_holds (Some a) d numbers = hold_active p _ own_flags hang mine.outside

  -- ---- storing and transactions

  -- what storing leaves of a program and the database
  record KeptSo (q : Program) (db : Db) : Type 0 where
    flags : SameFlags p q
    hangs : Hangs desc db q
    still : StandStill s.db db

  abbrev Kept : StoreResult → Type 0
  Kept (Refused r) = Unit {0}
  Kept (Keeps q db) = KeptSo q db

  kept_same : KeptSo p s.db
  kept_same = record { flags = own_flags; hangs = hang; still = same_still s.db }

  kept_stored : (d : ℕ) → IsDataSet desc d → (a : Area) (n : ℕ) → KeptSo (stored_program desc p d n a) (put_after (Stored n) desc s.db d (record_of a))
  kept_stored d is a n = record { flags = stored_flags d is n a; hangs = stored_hangs d is n a; still = stored_still d is n a }

  keep_kept : (d : ℕ) → IsDataSet desc d → Kept (keep desc p s.db d)
  keep_kept d is = keep_any Kept desc p s.db d (λ a n may. kept_stored d is a n) (λ r. tt)

  begun_kept : (audit : Bool) → IsDataSet desc (restart_of desc) → Kept (begin_transaction desc p s audit)
  begun_kept audit is = begun_any Kept desc p s audit (λ on a n may. kept_stored (restart_of desc) is a n) kept_same (λ r. tt)

  if_kept : (audit : Bool) → IsDataSet desc (restart_of desc) → Kept (cond audit (keep desc p s.db (restart_of desc)) (Keeps p s.db))
  if_kept true is = keep_kept (restart_of desc) is
  if_kept false is = kept_same

  store_holds : p.in_transaction ≡ true → (k : StoreResult) → Kept k → Hold desc s name (after_store k i s)
  store_holds on (Refused r) k = hold_replies r
  store_holds on (Keeps q db) k =
      hold_one (activate q) db [] k.flags.name (λ h. k.flags.in_transaction ∙ h) k.still
      (active_at_hand desc db s.mark (activate q) refl (rehang desc db q (activate q) refl (λ x. refl) (λ x. refl) k.hangs) (working_by q k.flags) (λ off. absurd (let yes = k.flags.in_transaction ∙ on in cc)))

  begin_holds : is_inquiry p.mode ≡ false → p.owes_abort ≡ false → (k : StoreResult) → Kept k → Hold desc s name (after_begin k i s)
  begin_holds update due (Refused r) k = hold_replies r
  begin_holds update due (Keeps q db) k =
      hold_one (enter_transaction q) db [] k.flags.name (λ h. refl) k.still
      (active_at_hand desc db s.mark (enter_transaction q) refl (rehang desc db q (enter_transaction q) refl (λ x. refl) (λ x. refl) k.hangs)
      (λ on. (ap is_inquiry k.flags.mode ∙ update, k.flags.owes_abort ∙ due)) (λ off. absurd (cc)))

  -- after an END
  module _ (t : Session) (db : t.db ≡ t.db) (all : AllByRecursion (IsAtHand desc t.db t.mark) t.programs) (others : (other : List ℕ) → other ≢ name → is_open s.programs other ≡ true → is_open t.programs other ≡ true) where
    idle_all : (ps : List Program) → AllByRecursion (λ x. x.in_transaction ≡ false) ps → AllByRecursion (IsAtHand desc t.db t.mark) ps → AllByRecursion (IsAtHand desc t.db t.db) (map idle ps)
    idle_all [] off h = tt
    idle_all (x ∷ ps) off h =
        let k = h.0 in (
          record { works = k.works; current = k.current; marked = λ e d n lowd is. k.current d n lowd is; made = k.made; copied = k.copied; area = k.area; working = λ on. absurd (let no = off.0 in cc); outside = k.outside },
          idle_all ps off.1 h.1,
        )

    idle_open : (other : List ℕ) → other ≢ name → is_open s.programs other ≡ true → is_open (map idle t.programs) other ≡ true
    idle_open other apart h = any_map (λ x. bytes_eq x.name other) idle (λ x. refl) t.programs ∙ others other apart h

    settle_holds : Hold desc s name (settle t)
    unfolding settle
    settle_holds =
        hold_if desc s name (someone_works t.programs) _ _
        (λ e. record { programs = all; pending = λ on. e; others = others; own = λ w. absurd (cc) })
        (λ e.
        let quiet = idle_all t.programs (none_each (λ x. x.in_transaction) t.programs e) all in
        hold_if desc s name t.pending _ _
        (λ on. record { programs = quiet; pending = λ no. absurd (cc); others = idle_open; own = λ w. absurd (cc) })
        (λ off. record { programs = quiet; pending = λ on. absurd (cc); others = idle_open; own = λ w. absurd (cc) }))

  end_holds : (k : StoreResult) (sync : Bool) → Kept k → Hold desc s name (after_end k desc i s sync)
  end_holds (Refused r) sync k = hold_replies r
  end_holds (Keeps q db) sync k =
      let left = leave_transaction q in
      let t : Session = record s { db = db; programs = slice_set s.programs i left; pending = s.pending || sync || nat_le desc.syncpoint (one_more s.since); since = one_more s.since } in
      settle_holds t refl
      (all_set (IsAtHand desc db s.mark) s.programs i left (stilled s.programs co.programs)
      (active_at_hand desc db s.mark left refl (rehang desc db q left refl (λ x. refl) (λ x. refl) k.hangs) (λ on. absurd (cc)) (λ off x n lowx l. absurd (no_hold left x n l))))
      (λ other apart h. named_set left k.flags.name other h)
    where
      stilled : (ps : List Program) → AllByRecursion (IsAtHand desc s.db s.mark) ps → AllByRecursion (IsAtHand desc db s.mark) ps
      stilled [] all = tt
      stilled (x ∷ ps) all = (still_at_hand desc s.db db s.mark k.still x all.0, stilled ps all.1)

  -- ---- entries and links

  hold_done : p.in_transaction ≡ true → (db : Db) → StandStill s.db db → Hold desc s name (succeeds (record s { db = db; programs = slice_set s.programs i (activate p) }))
  hold_done on db still =
      hold_one (activate p) db [] refl (λ h. h) still
      (active_at_hand desc db s.mark (activate p) refl (rehang desc db p (activate p) refl (λ x. refl) (λ x. refl) (hangs_still desc s.db db p still hang)) (working_by p own_flags) (λ off. absurd (cc)))

  listed_holds : (rs : List (Bool × Reply)) (o : Outcome) → (p.in_transaction ≡ true → NoneHolds rs → Hold desc s name o) → Hold desc s name (cond p.in_transaction (done_unless (first_held rs) s o) (refuse s AuditError p.name))
  listed_holds rs o done = hold_if desc s name p.in_transaction _ _ (λ on. done_by (Hold desc s name) s o rs hold_replies (done on)) (λ off. hold_refuse _ _)

  -- ---- deleting

  module _ (d n : ℕ) (is : IsDataSet desc d) (may : MayDelete desc p s d n) (on : p.in_transaction ≡ true) where
    abbrev left : Db
    left = after_remove desc s.db d n

    lowd : 1 ≤ d
    lowd = low d is

    apart_stands : (x m : ℕ) → ((x ≡ d) → (m ≡ n) → ⊥) → is_some (get s.db.records (x, m)) ≡ true → is_some (get left.records (x, m)) ≡ true
    apart_stands x m apart h = by (eq_by_cmp place_cmp (x, m) (d, n)) refl
      where
        by : (b : Bool) → eq_by_cmp place_cmp (x, m) (d, n) ≡ b → is_some (get left.records (x, m)) ≡ true
        by true e = let same = place_is (x, m) (d, n) e in absurd (apart (ap (λ (y : Place). y.0) same) (ap (λ (y : Place). y.1) same))
        by false e = remove_stands desc s.db d n (x, m) e ∙ h

    missed : (x : Program) (y m : ℕ) → current_of x y ≡ Some m → is_same (current_of x d) (Some n) ≡ false → y ≡ d → m ≡ n → ⊥
    missed x y m has off e f =
        let tie : is_same (Some m) (Some n) ≡ true = grind (arith, nat_tests, f) in
        let both = ap (λ z. is_same (current_of x z) (Some n)) (sym e) ∙ ap (λ o. is_same o (Some n)) has ∙ tie in
        absurd (cc)

    -- a program that hasn't the record current
    without_it : (x : Program) → IsAtHand desc s.db s.mark x → is_same (current_of x d) (Some n) ≡ false → IsAtHand desc left s.mark x
    without_it x h off = record {
      works = h.works;
      current = λ y m lowy has. apart_stands y m (λ e f. missed x y m has off e f) (h.current y m lowy has);
      marked = h.marked;
      made = h.made;
      copied = h.copied;
      area = h.area;
      working = h.working;
      outside = h.outside;
    }

    -- one that has, and doesn't lock it outside transaction state
    loses_it : (x : Program) → IsAtHand desc s.db s.mark x → current_of x d ≡ Some n → (x.in_transaction ≡ false → has_lock x.locks (d, n) ≡ true → ⊥) → IsAtHand desc left s.mark (with_area (with_current desc d None x) d None)
    loses_it x h has free =
        let q = with_area (with_current desc d None x) d None in
        let k = shifts_at desc made x h.works d is None None in
        let hangs : Hangs desc left q = shifted desc made d lowd None None x q k s.db left (hangs_of desc s.db s.mark x h) (λ y m lowy apart here. apart_stands y m (λ e f. apart e) (h.current y m lowy here)) (λ m no. absurd (cc)) (λ o values no. absurd (cc)) (λ values no. absurd (cc)) (λ m no. absurd (cc)) in
        record {
          works = hangs.works;
          current = hangs.current;
          marked = λ off y m lowy here. marked_at q k off y m lowy here (y == d) refl;
          made = hangs.made;
          copied = hangs.copied;
          area = hangs.area;
          working = λ yes. let w = h.working (sym k.flags.in_transaction ∙ yes) in (k.flags.active ∙ w.0, (ap is_inquiry k.flags.mode ∙ w.1.0, k.flags.owes_abort ∙ w.1.1));
          outside = shifted_outside desc made d lowd None None x q k h.outside (λ off m l.
              let l' = k.fewer (d, m) l in
              let cur = h.outside off d m lowd l' in
              let same : m ≡ n = (let both = sym cur ∙ has in cc) in
              absurd (free off (ap (λ y. has_lock x.locks (d, y)) (sym same) ∙ l')));
        }
      where
        marked_at : (q : Program) (k : Shifts desc d None None x q) → q.active ≡ false → (y m : ℕ) → 1 ≤ y → current_of q y ≡ Some m → (b : Bool) → (y == d) ≡ b → is_some (get s.mark.records (y, m)) ≡ true
        marked_at q k off y m lowy here true e = let same : y ≡ d = grind (arith, nat_tests, e) in absurd (let no = sym (ap (current_of q) same ∙ k.current) ∙ here in cc)
        marked_at q k off y m lowy here false e =
            let apart : (y ≡ d → ⊥) = λ is. grind (arith, nat_tests, e, is) in
            h.marked (sym k.flags.active ∙ off) y m lowy (from (k.lost y) (sym (k.current_other y lowy apart) ∙ here))
          where
            from : (c : Bool) → cond c None (current_of x y) ≡ Some m → current_of x y ≡ Some m
            from true h = absurd (cc)
            from false h = h

    each_left : (x : Program) → IsAtHand desc s.db s.mark x → (x.in_transaction ≡ false → has_lock x.locks (d, n) ≡ true → ⊥) → IsAtHand desc left s.mark (without_current desc d n x)
    each_left x h free = by (is_same (current_of x d) (Some n)) refl
      where
        by : (b : Bool) → is_same (current_of x d) (Some n) ≡ b → IsAtHand desc left s.mark (cond b (with_area (with_current desc d None x) d None) x)
        by true e = loses_it x h (same_of (current_of x d) (Some n) e) free
        by false e = without_it x h e

    abbrev gone : Program
    gone = activate (record p { locks = without_lock p.locks (d, n) })

    gone_at_hand : IsAtHand desc s.db s.mark gone
    gone_at_hand = active_at_hand desc s.db s.mark gone refl (rehang desc s.db p gone refl (λ x. refl) (λ x. refl) hang) (λ yes. (mine.working on).1) (λ off. absurd (cc))

    mapped : (ps : List Program) → AllByRecursion (λ x. IsAtHand desc left s.mark (without_current desc d n x)) ps → AllByRecursion (IsAtHand desc left s.mark) (map (without_current desc d n) ps)
    mapped [] all = tt
    mapped (x ∷ ps) all = (all.0, mapped ps all.1)

    working_still : (x : Program) → (without_current desc d n x).in_transaction ≡ x.in_transaction
    working_still x = (without_flags desc d n x).in_transaction

    hold_deleted : Hold desc s name (deleted desc i p s d n)
    hold_deleted = record {
      programs = mapped (slice_set s.programs i gone) (all_changed (IsAtHand desc s.db s.mark) (λ x. IsAtHand desc left s.mark (without_current desc d n x)) p gone
          (λ x a h. each_left x h (λ off l. a.locks (d, n) may.locked l)) (each_left gone gone_at_hand (λ off. absurd (cc))) s.programs i at ex.apart co.programs);
      pending = λ yes. any_map (λ x. x.in_transaction) (without_current desc d n) working_still (slice_set s.programs i gone) ∙ any_new (λ x. x.in_transaction) s.programs i p gone at on;
      others = λ other apart h. any_map (λ x. bytes_eq x.name other) (without_current desc d n) (λ x. ap (λ m. bytes_eq m other) (without_flags desc d n x).name) (slice_set s.programs i gone) ∙ named_set gone refl other h;
      own = λ w. absurd (cc);
    }

  -- ---- opening, closing, and the rest

  close_holds : p.in_transaction ≡ false → Hold desc s name (succeeds (record s { programs = without i s.programs }))
  close_holds off = record {
    programs = all_without (IsAtHand desc s.db s.mark) s.programs i co.programs;
    pending = λ on. any_gone (λ x. x.in_transaction) s.programs i p at off ∙ co.pending on;
    others = λ other apart h. any_gone (λ x. bytes_eq x.name other) s.programs i p at (unlike p.name other (λ e. apart (sym e ∙ named))) ∙ h;
    own = λ w. absurd (cc);
  }

  pub due_holds : Hold desc s name (record { session = with_program s i (record p { owes_abort = false }); reply = Exception AbortDue name; sync = None; quiets = [] })
  due_holds =
      let q : Program = record p { owes_abort = false } in
      record {
        programs = all_set (IsAtHand desc s.db s.mark) s.programs i q co.programs (record { works = mine.works; current = mine.current; marked = mine.marked; made = mine.made; copied = mine.copied; area = mine.area; working = λ on. let w = mine.working on in (w.0, (w.1.0, refl)); outside = mine.outside });
        pending = λ on. any_set (λ x. x.in_transaction) s.programs i p q at refl ∙ co.pending on;
        others = λ other apart h. named_set q refl other h;
        own = λ w. absurd (cc);
      }

-- ---- every verb

-- a back-out leaves a program that was active nothing at hand, and each other one what it has
none_left : (ws : List Work) (j : ℕ) → or_none (slice_get (map (λ (w : Work). no_work) ws) j) ≡ no_work
none_left [] j = refl
none_left (w ∷ ws) zero = refl
none_left (w ∷ ws) (suc j) = none_left ws j

none_long : (ws : List Work) → length (map (λ (w : Work). no_work) ws) ≡ length ws
none_long [] = refl
none_long (w ∷ ws) = ap suc (none_long ws)

backed_at_hand : (desc : Described) (db mark : Db) (name : List ℕ) (x : Program) → IsAtHand desc db mark x → IsAtHand desc mark mark (backed_out name x)
unfolding backed_out
backed_at_hand desc db mark name x h = by x.active refl
  where
    gone : Program
    gone = record x { in_transaction = false; owes_abort = x.owes_abort || not (bytes_eq x.name name); works = map (λ (w : Work). no_work) x.works; locks = no_locks }

    out : x.active ≡ false → (b : Bool) → x.in_transaction ≡ b → b ≡ false
    out off true e = absurd (let on = (h.working e).0 in cc)
    out off false e = refl

    by : (b : Bool) → x.active ≡ b → IsAtHand desc mark mark (cond b gone (record x { in_transaction = false }))
    by true e = record {
      works = none_long x.works ∙ h.works;
      current = λ d n low is. absurd (let none = ap (λ (w : Work). w.current) (none_left x.works (d - 1)) in cc);
      marked = λ off d n low is. absurd (let none = ap (λ (w : Work). w.current) (none_left x.works (d - 1)) in cc);
      made = λ d o values low is. absurd (let none = ap (λ (w : Work). w.area) (none_left x.works (d - 1)) in cc);
      copied = λ d values low is. absurd (let none = ap (λ (w : Work). w.area) (none_left x.works (d - 1)) in cc);
      area = λ d n low is. absurd (let none = ap (λ (w : Work). w.current) (none_left x.works (d - 1)) in cc);
      working = λ on. absurd (cc);
      outside = λ off d n low l. absurd (no_hold gone d n l);
    }
    by false e = record {
      works = h.works;
      current = h.marked e;
      marked = λ off. h.marked e;
      made = h.made;
      copied = h.copied;
      area = h.area;
      working = λ on. absurd (cc);
      outside = λ off d n low l. h.outside (out e x.in_transaction refl) d n low l;
    }

back_holds : (desc : Described) (s : Session) (name from : List ℕ) → IsCoherent desc s → Hold desc s name (succeeds (record s { db = s.mark; programs = map (backed_out from) s.programs; pending = false; since = 0 }))
back_holds desc s name from co = record {
  programs = all_mapped {P = IsAtHand desc s.db s.mark} (IsAtHand desc s.mark s.mark) (backed_out from) s.programs (λ x h. backed_at_hand desc s.db s.mark from x h) co.programs;
  pending = λ on. absurd (cc);
  others = λ other apart h. any_map (λ x. bytes_eq x.name other) (backed_out from) (λ x. ap (λ n. bytes_eq n other) (backed_name from x)) s.programs ∙ h;
  own = λ w. absurd (cc);
}

not_inquiry : (b : Bool) → (b && true) ≡ false → b ≡ false
not_inquiry true h = absurd (cc)
not_inquiry false h = refl

module _ (desc : Described) (made : IsWellMade desc) (s : Session) (i : ℕ) (p : Program) (name : List ℕ) (at : slice_get s.programs i ≡ Some p) (named : p.name ≡ name) (ex : IsExclusive s) (co : IsCoherent desc s) where
  verb_holds : (v : Verb) → IsVerbOf desc v → p.owes_abort ≡ false → (is_inquiry p.mode && changes v) ≡ false → Hold desc s name (verb_step desc i p s v)
  unfolding verb_step store_step delete_step insert_step remove_step assign_step begin_step end_step abort_step find_step lock_step free_step create_step put_step get_step close_step
  verb_holds OpenUpdate of due may = hold_refuse desc made s i p name at named ex co _ _
  verb_holds OpenInquiry of due may = hold_refuse desc made s i p name at named ex co _ _
  verb_holds Close of due may = hold_if desc s name p.in_transaction _ _ (λ on. hold_refuse desc made s i p name at named ex co _ _) (close_holds desc made s i p name at named ex co)
  verb_holds (Find path) of due may = find_holds desc made s i p name at named ex co (found_in desc path) (found_set desc made path of) (sought desc s.db p path) path refl (sought_stands desc s.db p path)
  verb_holds (Lock path) of due may = lock_holds desc made s i p name at named ex co (found_in desc path) (found_set desc made path of) (sought desc s.db p path) path refl (sought_stands desc s.db p path)
  verb_holds (Free d) of due may = free_holds desc made s i p name at named ex co d of (current_of p d)
  verb_holds (Create d) of due may = create_holds desc made s i p name at named ex co d of (owner_for desc p d) refl
  verb_holds (PutItems d settings) of due may = put_holds desc made s i p name at named ex co d of.0 (area_of p d) settings refl
  verb_holds (Get d items) of due may = get_holds desc made s i p name at named ex co (area_of p d) d items
  verb_holds (Store d) of due may =
      hold_if desc s name p.in_transaction (after_store (keep desc p s.db d) i s) (refuse s AuditError p.name)
      (λ on. store_holds desc made s i p name at named ex co on (keep desc p s.db d) (keep_kept desc made s i p name at named ex co d of)) (λ off. hold_refuse desc made s i p name at named ex co AuditError p.name)
  verb_holds (Delete d) of due may =
      listed_holds desc made s i p name at named ex co (delete_refusals desc p s d (or_zero (current_of p d))) (deleted desc i p s d (or_zero (current_of p d)))
      (λ on none. hold_deleted desc made s i p name at named ex co d (or_zero (current_of p d)) of (may_delete desc p s d none) on)
  verb_holds (Insert d subset) of due may =
      listed_holds desc made s i p name at named ex co (insert_refusals desc p s d subset) (inserted desc i p s d subset)
      (λ on none. hold_done desc made s i p name at named ex co on (after_enter (entered_as desc p s d subset) s.db subset (or_zero (owner_for desc p subset))) (enter_still (entered_as desc p s d subset) s.db subset (or_zero (owner_for desc p subset))))
  verb_holds (Remove d subset) of due may =
      listed_holds desc made s i p name at named ex co (remove_refusals desc p s d subset) (removed desc i p s d subset)
      (λ on none. hold_done desc made s i p name at named ex co on (after_leave s.db subset (or_zero (owner_for desc p subset)) (or_zero (current_of p d))) (leave_still s.db subset (or_zero (owner_for desc p subset)) (or_zero (current_of p d))))
  verb_holds (Assign to d item) of due may =
      listed_holds desc made s i p name at named ex co (assign_refusals to desc p d) (linked desc i p s to d item)
      (λ on none. hold_done desc made s i p name at named ex co on (after_link s.db d (or_zero (current_of p d)) item (assigned to p)) (link_stands_still s.db d (or_zero (current_of p d)) item (assigned to p)))
  verb_holds (Begin audit) of due may =
      hold_if desc s name p.in_transaction (refuse s AuditError p.name) (after_begin (begin_transaction desc p s audit) i s) (λ on. hold_refuse desc made s i p name at named ex co AuditError p.name)
      (λ off. begin_holds desc made s i p name at named ex co (not_inquiry (is_inquiry p.mode) may) due (begin_transaction desc p s audit) (begun_kept desc made s i p name at named ex co audit of))
  verb_holds (End audit sync) of due may =
      let k = cond audit (keep desc p s.db (restart_of desc)) (Keeps p s.db) in
      hold_if desc s name p.in_transaction (after_end k desc i s sync) (refuse s AuditError p.name)
      (λ on. end_holds desc made s i p name at named ex co k sync (if_kept desc made s i p name at named ex co audit of)) (λ off. hold_refuse desc made s i p name at named ex co AuditError p.name)
  verb_holds Abort of due may = hold_if desc s name p.in_transaction _ _ (λ on. back_holds desc s name p.name co) (λ off. hold_refuse desc made s i p name at named ex co AuditError p.name)

-- a program that opens the database has nothing at hand
none_new : (n j : ℕ) → or_none (slice_get (replicate n no_work) j) ≡ no_work
none_new zero j = refl
none_new (suc n) zero = refl
none_new (suc n) (suc j) = none_new n j

new_at_hand : (desc : Described) (db mark : Db) (name : List ℕ) (mode : Mode) → IsAtHand desc db mark (new_program desc name mode)
new_at_hand desc db mark name mode =
    let none = λ (d : ℕ). none_new (length desc.structures) (d - 1) in
    record {
      works = length-replicate (length desc.structures) no_work;
      current = λ d n low is. absurd (let gone = ap (λ (w : Work). w.current) (none d) in cc);
      marked = λ off d n low is. absurd (cc);
      made = λ d o values low is. absurd (let gone = ap (λ (w : Work). w.area) (none d) in cc);
      copied = λ d values low is. absurd (let gone = ap (λ (w : Work). w.area) (none d) in cc);
      area = λ d n low is. absurd (let gone = ap (λ (w : Work). w.current) (none d) in cc);
      working = λ on. absurd (cc);
      outside = λ off d n low l. absurd (no_hold (new_program desc name mode) d n l);
    }

-- a refusal of a program that isn't open doesn't wait
unopened_holds : (desc : Described) (s : Session) (name : List ℕ) (c : Category) (n : List ℕ) → IsCoherent desc s → Hold desc s name (refuse s c n)
unopened_holds desc s name c n co = record { programs = co.programs; pending = co.pending; others = λ other apart h. h; own = λ w. absurd (cc) }

open_holds : (desc : Described) (s : Session) (name : List ℕ) (o : Option Mode) → IsCoherent desc s → Hold desc s name (open_in o desc s name)
open_holds desc s name None co = unopened_holds desc s name _ _ co
open_holds desc s name (Some mode) co =
    let new = new_program desc name mode in
    hold_if desc s name (nat_le 64 (length s.programs)) (refuse s LimitError name) (succeeds (record s { programs = s.programs ++ new ∷ [] })) (λ e. unopened_holds desc s name LimitError name co)
    (λ e. record {
      programs = all_pushed (IsAtHand desc s.db s.mark) s.programs new co.programs (new_at_hand desc s.db s.mark name mode);
      pending = λ on. any_more (λ x. x.in_transaction) s.programs new (co.pending on);
      others = λ other apart h. any_more (λ x. bytes_eq x.name other) s.programs new h;
      own = λ w. absurd (cc);
    })

step_at_holds : (desc : Described) → IsWellMade desc → (s : Session) (name : List ℕ) (v : Verb) (o : Option Program) → slice_get s.programs (place_of name s.programs) ≡ o → IsVerbOf desc v → IsExclusive s → IsCoherent desc s → Hold desc s name (step_at desc o (place_of name s.programs) s name v)
unfolding open_step
step_at_holds desc made s name v None at of ex co = open_holds desc s name (traits v).opens co
step_at_holds desc made s name v (Some p) at of ex co =
    let i = place_of name s.programs in
    let named = named_so s.programs name p at in
    hold_if desc s name (opens v) _ _ (λ e. hold_refuse desc made s i p name at named ex co _ _)
    (λ e. hold_if desc s name p.owes_abort _ _ (λ f. due_holds desc made s i p name at named ex co)
    (λ due. hold_if desc s name (is_inquiry p.mode && changes v) _ _ (λ g. hold_refuse desc made s i p name at named ex co _ _) (λ may. verb_holds desc made s i p name at named ex co v of due may)))

pub carried_holds : (desc : Described) → IsWellMade desc → (s : Session) (name : List ℕ) (v : Verb) → IsVerbOf desc v → IsExclusive s → IsCoherent desc s → Hold desc s name (carried_out desc s name v)
unfolding carried_out
carried_holds desc made s name v of ex co = step_at_holds desc made s name v (slice_get s.programs (place_of name s.programs)) refl of ex co
