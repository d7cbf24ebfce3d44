-- DELETE, INSERT, REMOVE and ASSIGN, as the tests before their turn leave them.
use Rattle.std.proofs.Common.{◌≡◌, ℕ, List, [], ◌∷◌, Bool, true, false, cond, not, Some, None, refl, sym, ap, ◌∙◌}
use Rattle.std.specs.Prelude.{is_some, slice_set}
use Rattle.std.specs.declared.option.Option.{Option}
use Rattle.dms_base.specs.declared.category.Category.{Category}
use Rattle.dms_base.specs.declared.category.Category.TheVariants.{AuditError, Deadlock, Duplicates, InUse, LimitError, NoRecord, NotFound, NotLocked}
use Rattle.dms_desc.specs.Lookups.{name_of, structure_of}
use Rattle.dms_desc.specs.Shape.{Described}
use Rattle.dms_locks.specs.declared.verdict.Verdict.TheVariants.{Goes, Waits as Stays, Deadlocks}
use Rattle.dms_locks.specs.Waits.{verdict}
use Rattle.dms_model.specs.declared.put.Put.{Put}
use Rattle.dms_model.specs.declared.reply.Reply.{Reply}
use Rattle.dms_model.specs.declared.reply.Reply.TheVariants.{Exception, Waits}
use Rattle.dms_model.specs.Programs.{Program}
use Rattle.dms_model.specs.Session.{Session, Outcome, activate, assign_refusals, assign_step, assigned, blockers, current_of, delete_refusals, delete_step, deleted, done_unless, first_held, has_some, holds, insert_refusals, insert_step, inserted, is_duplicate, is_full_answer, lacks_current, lacks_lock, lacks_owner, linked, or_zero, owner_at, owner_for, refuse, remove_refusals, remove_step, removed, replies, succeeds, wait_reply}
use Rattle.dms_model.specs.Uses.{after_enter, after_leave, after_link, enter_answer, has_entry, in_use, linkers}
use Rattle.dms_storeverbs.specs.declared.refusal.Refusal.{Refusal}
use Rattle.dms_storeverbs.specs.Judging.{HasEntry, HasLocked, missing_target}
use Rattle.dms_storeverbs.proofs.Unfolds.{deadlock_reply, deadlocks_by, end_if, goes_by, waits_by, waits_reply}

-- a refusal that was made says what a step says
pub refused_so : (s : Session) (x : Outcome) (r : Refusal) (c : Category) (name said : List ℕ) → x ≡ refuse s c name → r ≡ record { category = c; name = said } → said ≡ name → x ≡ refuse s r.category r.name
refused_so s x r c name said is made named = is ∙ sym (ap (λ (q : Refusal). refuse s q.category q.name) made ∙ ap (λ (n : List ℕ). refuse s c n) named)

-- ---- a list of refusals

in_turn : (b : Bool) (x y : Outcome) → b ≡ true → cond b x y ≡ x
in_turn b x y is = ap (λ (c : Bool). cond c x y) is

held : (s : Session) (o : Outcome) (r : Bool × Reply) (rs : List (Bool × Reply)) → r.0 ≡ true → done_unless (first_held (r ∷ rs)) s o ≡ replies s r.1
held s o r rs is = ap (λ (b : Bool). done_unless (cond b (Some r.1) (first_held rs)) s o) is

off : (s : Session) (o : Outcome) (r : Bool × Reply) (rs : List (Bool × Reply)) → r.0 ≡ false → done_unless (first_held (r ∷ rs)) s o ≡ done_unless (first_held rs) s o
off s o r rs is = ap (λ (b : Bool). done_unless (cond b (Some r.1) (first_held rs)) s o) is

none_there : (o : Option ℕ) → o ≡ None → not (is_some o) ≡ true
none_there o is = ap (λ (x : Option ℕ). not (is_some x)) is

some_there : (o : Option ℕ) (n : ℕ) → o ≡ Some n → not (is_some o) ≡ false
some_there o n is = ap (λ (x : Option ℕ). not (is_some x)) is

module _ (desc : Described) (i : ℕ) (p : Program) (s : Session) (set : ℕ) where
  not_locked : (n : ℕ) → current_of p set ≡ Some n → holds p set (Some n) ≡ false → not (holds p set (current_of p set)) ≡ true
  not_locked n has free = ap (λ (o : Option ℕ). not (holds p set o)) has ∙ ap not free

  locked_one : (n : ℕ) → current_of p set ≡ Some n → holds p set (Some n) ≡ true → not (holds p set (current_of p set)) ≡ false
  locked_one n has lock = ap (λ (o : Option ℕ). not (holds p set o)) has ∙ ap not lock

  abbrev now : ℕ
  now = or_zero (current_of p set)

  -- ---- DELETE

  abbrev used_by : ℕ → Bool × Reply
  used_by n = (in_use desc s.db set n, Exception InUse (name_of (structure_of desc set)))

  abbrev blocked_by : ℕ → Bool × Reply
  blocked_by n = (has_some (blockers (linkers desc s.db set n) p.name s.programs), wait_reply s.waits p.name (blockers (linkers desc s.db set n) p.name s.programs) (name_of (structure_of desc set)))

  abbrev last_two : ℕ → List (Bool × Reply)
  last_two n = used_by n ∷ blocked_by n ∷ []

  pub delete_outside : p.in_transaction ≡ false → delete_step desc i p s set ≡ refuse s AuditError p.name
  unfolding delete_step
  delete_outside idle = end_if p.in_transaction _ (refuse s AuditError p.name) idle

  delete_inside : p.in_transaction ≡ true → delete_step desc i p s set ≡ done_unless (first_held (delete_refusals desc p s set (or_zero (current_of p set)))) s (deleted desc i p s set (or_zero (current_of p set)))
  unfolding delete_step
  delete_inside works = in_turn p.in_transaction _ _ works

  pub delete_none : p.in_transaction ≡ true → current_of p set ≡ None → delete_step desc i p s set ≡ refuse s NoRecord (name_of (structure_of desc set))
  delete_none works none = delete_inside works ∙ held s (deleted desc i p s set now) (lacks_current desc p set) (lacks_lock desc p set ∷ last_two now) (none_there (current_of p set) none)

  pub delete_unlocked : (n : ℕ) → p.in_transaction ≡ true → current_of p set ≡ Some n → holds p set (Some n) ≡ false → delete_step desc i p s set ≡ refuse s NotLocked (name_of (structure_of desc set))
  delete_unlocked n works has free =
      delete_inside works
      ∙ off s (deleted desc i p s set now) (lacks_current desc p set) (lacks_lock desc p set ∷ last_two now) (some_there (current_of p set) n has)
      ∙ held s (deleted desc i p s set now) (lacks_lock desc p set) (last_two now) (not_locked n has free)

  module _ (n : ℕ) (has : HasLocked p set n) where
    abbrev who : List (List ℕ)
    who = blockers (linkers desc s.db set n) p.name s.programs

    abbrev set_name : List ℕ
    set_name = name_of (structure_of desc set)

    delete_left : delete_step desc i p s set ≡ done_unless (first_held (last_two n)) s (deleted desc i p s set n)
    delete_left =
        delete_inside has.works
        ∙ off s (deleted desc i p s set now) (lacks_current desc p set) (lacks_lock desc p set ∷ last_two now) (some_there (current_of p set) n has.current)
        ∙ off s (deleted desc i p s set now) (lacks_lock desc p set) (last_two now) (locked_one n has.current has.locked)
        ∙ ap (λ (o : Option ℕ). done_unless (first_held (last_two (or_zero o))) s (deleted desc i p s set (or_zero o))) has.current

    pub delete_used : in_use desc s.db set n ≡ true → delete_step desc i p s set ≡ refuse s InUse set_name
    delete_used is = delete_left ∙ held s (deleted desc i p s set n) (used_by n) (blocked_by n ∷ []) is

    delete_free : in_use desc s.db set n ≡ false → delete_step desc i p s set ≡ done_unless (first_held (blocked_by n ∷ [])) s (deleted desc i p s set n)
    delete_free is = delete_left ∙ off s (deleted desc i p s set n) (used_by n) (blocked_by n ∷ []) is

    pub delete_waits : in_use desc s.db set n ≡ false → verdict s.waits p.name who ≡ Stays → delete_step desc i p s set ≡ replies s (Waits who)
    delete_waits is judged = delete_free is ∙ held s (deleted desc i p s set n) (blocked_by n) [] (waits_by s.waits p.name who judged).0 ∙ ap (replies s) (waits_reply s.waits p.name who set_name judged)

    pub delete_deadlocks : in_use desc s.db set n ≡ false → verdict s.waits p.name who ≡ Deadlocks → delete_step desc i p s set ≡ refuse s Deadlock set_name
    delete_deadlocks is judged = delete_free is ∙ held s (deleted desc i p s set n) (blocked_by n) [] (deadlocks_by s.waits p.name who judged).0 ∙ ap (replies s) (deadlock_reply s.waits p.name who set_name judged)

    pub delete_goes : in_use desc s.db set n ≡ false → verdict s.waits p.name who ≡ Goes → delete_step desc i p s set ≡ deleted desc i p s set n
    delete_goes is judged = delete_free is ∙ off s (deleted desc i p s set n) (blocked_by n) [] (ap has_some (goes_by s.waits p.name who judged))

  -- ---- INSERT and REMOVE

  module _ (subset : ℕ) where
    abbrev double_by : Put → Bool × Reply
    double_by a = (is_duplicate a, Exception Duplicates (name_of (structure_of desc subset)))

    abbrev full_by : Put → Bool × Reply
    full_by a = (is_full_answer a, Exception LimitError (name_of (structure_of desc subset)))

    abbrev mine : ℕ
    mine = or_zero (owner_for desc p subset)

    abbrev answer_to : ℕ → ℕ → Put
    answer_to owner n = enter_answer desc s.db subset owner n

    abbrev put_two : Put → List (Bool × Reply)
    put_two a = double_by a ∷ full_by a ∷ []

    abbrev absent : ℕ → ℕ → Bool × Reply
    absent owner n = (not (has_entry s.db subset owner n), Exception NotFound (name_of (structure_of desc subset)))

    pub insert_outside : p.in_transaction ≡ false → insert_step desc i p s set subset ≡ refuse s AuditError p.name
    unfolding insert_step
    insert_outside idle = end_if p.in_transaction _ (refuse s AuditError p.name) idle

    pub remove_outside : p.in_transaction ≡ false → remove_step desc i p s set subset ≡ refuse s AuditError p.name
    unfolding remove_step
    remove_outside idle = end_if p.in_transaction _ (refuse s AuditError p.name) idle

    insert_inside : p.in_transaction ≡ true → insert_step desc i p s set subset ≡ done_unless (first_held (insert_refusals desc p s set subset)) s (inserted desc i p s set subset)
    unfolding insert_step
    insert_inside works = in_turn p.in_transaction _ _ works

    remove_inside : p.in_transaction ≡ true → remove_step desc i p s set subset ≡ done_unless (first_held (remove_refusals desc p s set subset)) s (removed desc i p s set subset)
    unfolding remove_step
    remove_inside works = in_turn p.in_transaction _ _ works

    pub insert_none : p.in_transaction ≡ true → current_of p set ≡ None → insert_step desc i p s set subset ≡ refuse s NoRecord (name_of (structure_of desc set))
    insert_none works none = insert_inside works ∙ held s (inserted desc i p s set subset) (lacks_current desc p set) (lacks_owner desc p subset ∷ put_two (answer_to mine now)) (none_there (current_of p set) none)

    pub remove_none : p.in_transaction ≡ true → current_of p set ≡ None → remove_step desc i p s set subset ≡ refuse s NoRecord (name_of (structure_of desc set))
    remove_none works none = remove_inside works ∙ held s (removed desc i p s set subset) (lacks_current desc p set) (lacks_owner desc p subset ∷ absent mine now ∷ []) (none_there (current_of p set) none)

    pub insert_unowned : (n : ℕ) → p.in_transaction ≡ true → current_of p set ≡ Some n → owner_for desc p subset ≡ None → insert_step desc i p s set subset ≡ refuse s NoRecord (name_of (structure_of desc (owner_at desc subset)))
    insert_unowned n works has none =
        insert_inside works
        ∙ off s (inserted desc i p s set subset) (lacks_current desc p set) (lacks_owner desc p subset ∷ put_two (answer_to mine now)) (some_there (current_of p set) n has)
        ∙ held s (inserted desc i p s set subset) (lacks_owner desc p subset) (put_two (answer_to mine now)) (none_there (owner_for desc p subset) none)

    pub remove_unowned : (n : ℕ) → p.in_transaction ≡ true → current_of p set ≡ Some n → owner_for desc p subset ≡ None → remove_step desc i p s set subset ≡ refuse s NoRecord (name_of (structure_of desc (owner_at desc subset)))
    remove_unowned n works has none =
        remove_inside works
        ∙ off s (removed desc i p s set subset) (lacks_current desc p set) (lacks_owner desc p subset ∷ absent mine now ∷ []) (some_there (current_of p set) n has)
        ∙ held s (removed desc i p s set subset) (lacks_owner desc p subset) (absent mine now ∷ []) (none_there (owner_for desc p subset) none)

    module _ (owner n : ℕ) (has : HasEntry desc p set subset owner n) where
      abbrev subset_name : List ℕ
      subset_name = name_of (structure_of desc subset)

      -- what INSERT leaves where the store answers this
      abbrev entered : Put → Outcome
      entered a = succeeds (record s { db = after_enter a s.db subset owner; programs = slice_set s.programs i (activate p) })

      abbrev pub entered_by : Put → Outcome
      entered_by a = done_unless (first_held (put_two a)) s (entered a)

      insert_left : insert_step desc i p s set subset ≡ entered_by (answer_to owner n)
      insert_left =
          insert_inside has.works
          ∙ off s (inserted desc i p s set subset) (lacks_current desc p set) (lacks_owner desc p subset ∷ put_two (answer_to mine now)) (some_there (current_of p set) n has.current)
          ∙ off s (inserted desc i p s set subset) (lacks_owner desc p subset) (put_two (answer_to mine now)) (some_there (owner_for desc p subset) owner has.owned)
          ∙ (λ j. done_unless (first_held (put_two (answer_to (or_zero (has.owned j)) (or_zero (has.current j))))) s
          (succeeds (record s { db = after_enter (answer_to (or_zero (has.owned j)) (or_zero (has.current j))) s.db subset (or_zero (has.owned j)); programs = slice_set s.programs i (activate p) })))

      pub insert_answered : (a : Put) → a ≡ enter_answer desc s.db subset owner n → insert_step desc i p s set subset ≡ entered_by a
      insert_answered a is = insert_left ∙ ap entered_by (sym is)

      abbrev left : Outcome
      left = succeeds (record s { db = after_leave s.db subset owner n; programs = slice_set s.programs i (activate p) })

      remove_left : remove_step desc i p s set subset ≡ done_unless (first_held (absent owner n ∷ [])) s left
      remove_left =
          remove_inside has.works
          ∙ off s (removed desc i p s set subset) (lacks_current desc p set) (lacks_owner desc p subset ∷ absent mine now ∷ []) (some_there (current_of p set) n has.current)
          ∙ off s (removed desc i p s set subset) (lacks_owner desc p subset) (absent mine now ∷ []) (some_there (owner_for desc p subset) owner has.owned)
          ∙ (λ j. done_unless (first_held (absent (or_zero (has.owned j)) (or_zero (has.current j)) ∷ [])) s
          (succeeds (record s { db = after_leave s.db subset (or_zero (has.owned j)) (or_zero (has.current j)); programs = slice_set s.programs i (activate p) })))

      pub remove_lacks : has_entry s.db subset owner n ≡ false → remove_step desc i p s set subset ≡ refuse s NotFound (name_of (structure_of desc subset))
      remove_lacks none = remove_left ∙ held s left (absent owner n) [] (ap not none)

      pub remove_goes : has_entry s.db subset owner n ≡ true → remove_step desc i p s set subset ≡ left
      remove_goes there = remove_left ∙ off s left (absent owner n) [] (ap not there)

  -- ---- ASSIGN

  module _ (to : Option ℕ) (item : ℕ) where
    pub assign_outside : p.in_transaction ≡ false → assign_step desc i p s to set item ≡ refuse s AuditError p.name
    unfolding assign_step
    assign_outside idle = end_if p.in_transaction _ (refuse s AuditError p.name) idle

    assign_inside : p.in_transaction ≡ true → assign_step desc i p s to set item ≡ done_unless (first_held (assign_refusals to desc p set)) s (linked desc i p s to set item)
    unfolding assign_step
    assign_inside works = in_turn p.in_transaction _ _ works

    pub assign_untargeted : (e : ℕ) → p.in_transaction ≡ true → missing_target to p ≡ Some e → assign_step desc i p s to set item ≡ refuse s NoRecord (name_of (structure_of desc e))
    assign_untargeted e works misses = assign_inside works ∙ by to misses
      where
        lacks : (d : ℕ) (o : Option ℕ) (x : Outcome) (rs : List (Bool × Reply)) → cond (is_some o) None (Some d) ≡ Some e → done_unless (first_held ((not (is_some o), Exception NoRecord (name_of (structure_of desc d))) ∷ rs)) s x ≡ refuse s NoRecord (name_of (structure_of desc e))
        lacks d None x rs h = let same : d ≡ e = cc in ap (λ (y : ℕ). refuse s NoRecord (name_of (structure_of desc y))) same
        lacks d (Some n) x rs h = absurd (cc)

        by : (t : Option ℕ) → missing_target t p ≡ Some e → done_unless (first_held (assign_refusals t desc p set)) s (linked desc i p s to set item) ≡ refuse s NoRecord (name_of (structure_of desc e))
        by None h = absurd (cc)
        by (Some d) h = lacks d (current_of p d) (linked desc i p s to set item) (lacks_current desc p set ∷ lacks_lock desc p set ∷ []) h

    targeted : (x : Outcome) → missing_target to p ≡ None → done_unless (first_held (assign_refusals to desc p set)) s x ≡ done_unless (first_held (lacks_current desc p set ∷ lacks_lock desc p set ∷ [])) s x
    targeted x there = by to there
      where
        has : (d : ℕ) (o : Option ℕ) (rs : List (Bool × Reply)) → cond (is_some o) None (Some d) ≡ None → done_unless (first_held ((not (is_some o), Exception NoRecord (name_of (structure_of desc d))) ∷ rs)) s x ≡ done_unless (first_held rs) s x
        has d None rs h = absurd (cc)
        has d (Some n) rs h = refl

        by : (t : Option ℕ) → missing_target t p ≡ None → done_unless (first_held (assign_refusals t desc p set)) s x ≡ done_unless (first_held (lacks_current desc p set ∷ lacks_lock desc p set ∷ [])) s x
        by None h = refl
        by (Some d) h = has d (current_of p d) (lacks_current desc p set ∷ lacks_lock desc p set ∷ []) h

    pub assign_none : p.in_transaction ≡ true → missing_target to p ≡ None → current_of p set ≡ None → assign_step desc i p s to set item ≡ refuse s NoRecord (name_of (structure_of desc set))
    assign_none works there none = assign_inside works ∙ targeted (linked desc i p s to set item) there ∙ held s (linked desc i p s to set item) (lacks_current desc p set) (lacks_lock desc p set ∷ []) (none_there (current_of p set) none)

    pub assign_unlocked : (n : ℕ) → p.in_transaction ≡ true → missing_target to p ≡ None → current_of p set ≡ Some n → holds p set (Some n) ≡ false → assign_step desc i p s to set item ≡ refuse s NotLocked (name_of (structure_of desc set))
    assign_unlocked n works there has free =
        assign_inside works ∙ targeted (linked desc i p s to set item) there
        ∙ off s (linked desc i p s to set item) (lacks_current desc p set) (lacks_lock desc p set ∷ []) (some_there (current_of p set) n has) ∙ held s (linked desc i p s to set item) (lacks_lock desc p set) [] (not_locked n has free)

    pub assign_goes : (n : ℕ) → HasLocked p set n → missing_target to p ≡ None → assign_step desc i p s to set item ≡ succeeds (record s { db = after_link s.db set n item (assigned to p); programs = slice_set s.programs i (activate p) })
    assign_goes n has there =
        assign_inside has.works ∙ targeted (linked desc i p s to set item) there
        ∙ off s (linked desc i p s to set item) (lacks_current desc p set) (lacks_lock desc p set ∷ []) (some_there (current_of p set) n has.current) ∙ off s (linked desc i p s to set item) (lacks_lock desc p set) [] (locked_one n has.current has.locked)
        ∙ ap (λ (o : Option ℕ). succeeds (record s { db = after_link s.db set (or_zero o) item (assigned to p); programs = slice_set s.programs i (activate p) })) has.current
