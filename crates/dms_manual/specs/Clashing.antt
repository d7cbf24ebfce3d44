-- The manual subset that refuses a record which is stored is the first that refuses to move its entries; a new record has none.
use Rattle.std.proofs.Common.{◌≡◌, ℕ, List, [], ◌∷◌, Bool, true, false, cond, Some, None, refl, ap, ◌∙◌, ◌&&◌}
use Rattle.std.specs.Prelude.{nat_lt, ◌==◌, not}
use Rattle.std.specs.List.{list_any}
use Rattle.std.specs.declared.option.Option.{Option}
use Rattle.std.specs.FinMap.{entries}
use Rattle.dms_desc.specs.declared.record.Record.{Record}
use Rattle.dms_desc.specs.Kinds.{takes}
use Rattle.dms_desc.specs.Shape.{Shape}
use Rattle.dms_model.specs.Db.{Db}
use Rattle.dms_model.specs.Stores.{clashes_in, has_equal, is_strict, owners_in}
use Rattle.dms_model.specs.Strict.{manual_clash}
use Rattle.dms_manual.specs.Following.{first_refusing}
use Rattle.dms_manual.specs.Naming.{is_manual_over}

both_over : (k a o d t x : Bool) → (k && ((((a && o) && d) && t) && x)) ≡ ((k && o) && ((((a && o) && d) && t) && x))
both_over false a o d t x = refl
both_over true a true d t x = refl
both_over true true false d t x = refl
both_over true false false d t x = refl

and_no : (b : Bool) → (b && false) ≡ false
and_no true = refl
and_no false = refl

abbrev has_equal_for : Db → Option ℕ → Record → Shape → ℕ → Bool
has_equal_for db number rec s owner = has_equal s db.entries number (record rec { owner = owner }) (entries db.records)

pub manual_clash_is : (db : Db) (set number : ℕ) (new : Record) (ss : List Shape) → manual_clash ss db set (Some number) new ≡ first_refusing ss db set number new
manual_clash_is db set number new [] = refl
manual_clash_is db set number new (s ∷ ss) =
    let some = list_any (has_equal_for db (Some number) new s) (owners_in s db.entries (Some number) new.owner) in
    ap (λ (b : Bool). cond b (Some s.number) (manual_clash ss db set (Some number) new)) (both_over (s.kind == 5) (nat_lt 2 s.kind && nat_lt s.kind 6) (s.set == set) (not s.duplicates) (takes s new.values) some)
    ∙ ap (λ (o : Option ℕ). cond (is_manual_over s set && clashes_in s db set (Some number) new) (Some s.number) o) (manual_clash_is db set number new ss)

-- no entry names a record that doesn't stand yet
new_at : (k : Bool) (db : Db) (set : ℕ) (rec : Record) (s : Shape) → (s.kind == 5) ≡ k → (k && clashes_in s db set None rec) ≡ false
new_at false db set rec s is = refl
new_at true db set rec s is =
    ap (λ (os : List ℕ). is_strict s set rec.values && list_any (has_equal_for db None rec s) os) (ap (λ (k : Bool). cond k [] (rec.owner ∷ [])) is)
    ∙ and_no (is_strict s set rec.values)

pub manual_clash_new : (db : Db) (set : ℕ) (rec : Record) (ss : List Shape) → manual_clash ss db set None rec ≡ None
manual_clash_new db set rec [] = refl
manual_clash_new db set rec (s ∷ ss) =
    ap (λ (b : Bool). cond b (Some s.number) (manual_clash ss db set None rec)) (new_at (s.kind == 5) db set rec s refl)
    ∙ manual_clash_new db set rec ss
