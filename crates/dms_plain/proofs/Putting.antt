-- What a record that is put replaces.
use Rattle.std.proofs.Common.{◌≡◌, ℕ, Bool, true, false, cond, Option, Some, None, sym, ap, ◌∙◌}
use Rattle.std.specs.Prelude.{length}
use Rattle.std.specs.FinMap.{get}
use Rattle.dms_desc.specs.declared.record.Record.{Record}
use Rattle.dms_desc.specs.Shape.{Described}
use Rattle.dms_model.specs.Db.{Db, fresh, records_of}
use Rattle.dms_model.specs.Fresh.{fresh_free}
use Rattle.dms_desc.specs.Lookups.{items_of, structure_of}
use Rattle.dms_model.specs.declared.put.Put.TheVariants.{Stored, Full}
use Rattle.dms_model.specs.Stores.{clash, is_full, judge_put, with_links_of, old_of, put_answer, put_number, put_unless, record_to_store}

fresh_at : (b : Bool) (desc : Described) (db : Db) (set n : ℕ) → cond b Full (Stored (fresh db.records set)) ≡ Stored n → old_of db set None ≡ get db.records (set, n)
fresh_at true desc db set n is = absurd (cc)
fresh_at false desc db set n is =
    let same : fresh db.records set ≡ n = cc in
    sym (fresh_free db.records set) ∙ ap (λ (m : ℕ). get db.records (set, m)) same

number_at : (desc : Described) (db : Db) (set n : ℕ) (number : Option ℕ) → put_number desc db set number ≡ Stored n → old_of db set number ≡ get db.records (set, n)
number_at desc db set n None is = fresh_at (is_full (structure_of desc set) (length (records_of db.records set))) desc db set n is
number_at desc db set n (Some m) is =
    let same : m ≡ n = cc in
    ap (λ (k : ℕ). get db.records (set, k)) same

unless_at : (c : Option ℕ) (desc : Described) (db : Db) (set n : ℕ) (number : Option ℕ) → put_unless c (put_number desc db set number) ≡ Stored n → old_of db set number ≡ get db.records (set, n)
unless_at None desc db set n number is = number_at desc db set n number is
unless_at (Some s) desc db set n number is = absurd (cc)

-- where a record is stored stands the one that was named, or none
pub replaced : (desc : Described) (db : Db) (set n : ℕ) (number : Option ℕ) (made : Record) → judge_put desc db set number made ≡ Stored n → old_of db set number ≡ get db.records (set, n)
replaced desc db set n number made is = unless_at (clash desc.structures db set number made) desc db set n number is

-- what is stored is what was judged
pub answers : (desc : Described) (db : Db) (set : ℕ) (number : Option ℕ) (rec made : Record) → made ≡ record_to_store desc db set number rec → judge_put desc db set number made ≡ put_answer desc db set number rec
unfolding put_answer
answers desc db set number rec made is = ap (λ (r : Record). judge_put desc db set number r) is

pub made_is : (desc : Described) (db : Db) (set n : ℕ) (number : Option ℕ) (rec made : Record) → made ≡ record_to_store desc db set number rec → judge_put desc db set number made ≡ Stored n → made ≡ record_to_store desc db set (Some n) rec
made_is desc db set n number rec made is at = is ∙ ap (λ (o : Option Record). with_links_of (items_of (structure_of desc set)) o rec) (replaced desc db set n number made at)
