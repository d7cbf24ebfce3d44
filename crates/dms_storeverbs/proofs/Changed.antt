-- What a store's answers to the calls for DELETE, INSERT, REMOVE and ASSIGN say, where it tells its database.
use Rattle.std.proofs.Common.{◌≡◌, ◌∙◌, ℕ, List, [], ◌∷◌, Bool, true, false, cond, not, Some, refl, sym, ap, subst}
use Rattle.std.specs.Prelude.{filter}
use Rattle.std.specs.List.{list_any}
use Rattle.std.specs.declared.option.Option.{Option}
use Rattle.std.specs.declared.result.Result.{Result}
use Rattle.std.proofs.lemmas.Bool.{or_parts}
use Rattle.dms_block.specs.declared.block_fault.BlockFault.{BlockFault}
use Rattle.dms_block.specs.Faults.{IfFull}
use Rattle.dms_desc.specs.Shape.{Described}
use Rattle.dms_model.specs.Changing.{Enters, FullWhereEntered, FullWhereLeft, IsLinkTarget, Leaves, Links, MayEnter, Removes}
use Rattle.dms_model.specs.declared.put.Put.{Put}
use Rattle.dms_model.specs.Db.{Db, SubsetEntry}
use Rattle.dms_model.specs.Fitting.{HasRecord, IsStored}
use Rattle.dms_model.specs.Members.{names}
use Rattle.dms_model.specs.Uses.{after_enter, after_leave, after_link, after_remove, enter_answer, has_entry, in_use, is_not_entry}

module _ (told new : Option Db) (db : Db) (desc desc' : Described) (under : desc' ≡ desc) (tells : told ≡ Some db) where
  pub removed_db : (set n : ℕ) (b : Bool) → Removes told new desc' set n b → HasRecord db set n → in_use desc db set n ≡ false → new ≡ Some (after_remove desc db set n)
  removed_db set n b h has free =
      let one : Removes told new desc set n b = subst (λ (d : Described). Removes told new d set n b) under h in
      let two : Removes (Some db) new desc set n b = subst (λ (o : Option Db). Removes o new desc set n b) tells one in
      (two has).1 ∙ ap (λ (c : Bool). Some (cond c db (after_remove desc db set n))) free

  pub entered_is : (subset owner n : ℕ) (a : Put) → Enters told new desc' subset owner n a → MayEnter desc db subset owner n → (a ≡ enter_answer desc db subset owner n) × (new ≡ Some (after_enter a db subset owner))
  entered_is subset owner n a h may =
      let one : Enters told new desc subset owner n a = subst (λ (d : Described). Enters told new d subset owner n a) under h in
      let two : Enters (Some db) new desc subset owner n a = subst (λ (o : Option Db). Enters o new desc subset owner n a) tells one in
      let both = two may in
      (both.0, both.1 ∙ ap (λ (x : Put). Some (after_enter x db subset owner)) (sym both.0))

  pub left_is : (subset owner n : ℕ) (b : Bool) → Leaves told new desc' subset owner n b → MayEnter desc db subset owner n → (b ≡ has_entry db subset owner n) × (new ≡ Some (after_leave db subset owner n))
  left_is subset owner n b h may =
      let one : Leaves told new desc subset owner n b = subst (λ (d : Described). Leaves told new d subset owner n b) under h in
      let two : Leaves (Some db) new desc subset owner n b = subst (λ (o : Option Db). Leaves o new desc subset owner n b) tells one in
      two may

  pub linked_db : (set n item : ℕ) (to : Option ℕ) → Links told new desc' set n item to → HasRecord db set n → IsLinkTarget desc db set item to → new ≡ Some (after_link db set n item to)
  linked_db set n item to h has target =
      let one : Links told new desc set n item to = subst (λ (d : Described). Links told new d set n item to) under h in
      let two : Links (Some db) new desc set n item to = subst (λ (o : Option Db). Links o new desc set n item to) tells one in
      two has target

-- where the audit had no room
module _ (told : Option Db) (db : Db) (desc desc' : Described) (under : desc' ≡ desc) (tells : told ≡ Some db) where
  pub full_entered : (subset owner n : ℕ) (r : Result Put BlockFault) → FullWhereEntered told desc' subset owner n r → MayEnter desc db subset owner n → IfFull r (λ f. IsStored (enter_answer desc db subset owner n))
  full_entered subset owner n r h may =
      let one : FullWhereEntered told desc subset owner n r = subst (λ (d : Described). FullWhereEntered told d subset owner n r) under h in
      let two : FullWhereEntered (Some db) desc subset owner n r = subst (λ (o : Option Db). FullWhereEntered o desc subset owner n r) tells one in
      two may

  pub full_left : (subset owner n : ℕ) (r : Result Bool BlockFault) → FullWhereLeft told desc' subset owner n r → MayEnter desc db subset owner n → IfFull r (λ f. has_entry db subset owner n ≡ true)
  full_left subset owner n r h may =
      let one : FullWhereLeft told desc subset owner n r = subst (λ (d : Described). FullWhereLeft told d subset owner n r) under h in
      let two : FullWhereLeft (Some db) desc subset owner n r = subst (λ (o : Option Db). FullWhereLeft o desc subset owner n r) tells one in
      two may

-- an entry that doesn't stand isn't taken out
none_taken : (subset owner n : ℕ) (es : List SubsetEntry) → list_any (names subset owner n) es ≡ false → filter (is_not_entry subset owner n) es ≡ es
none_taken subset owner n [] h = refl
none_taken subset owner n (e ∷ es) h =
    let two = or_parts (names subset owner n e) (list_any (names subset owner n) es) h in
    (λ j. cond (not (two.0 j)) (e ∷ filter (is_not_entry subset owner n) es) (filter (is_not_entry subset owner n) es))
    ∙ ap (λ (xs : List SubsetEntry). e ∷ xs) (none_taken subset owner n es two.1)

pub leave_none : (db : Db) (subset owner n : ℕ) → has_entry db subset owner n ≡ false → after_leave db subset owner n ≡ db
unfolding after_leave
leave_none db subset owner n h = ap (λ (es : List SubsetEntry). record db { entries = es }) (none_taken subset owner n db.entries h)
