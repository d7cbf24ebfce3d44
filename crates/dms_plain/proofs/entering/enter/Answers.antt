use Rattle.std.proofs.Common.{◌≡◌, ◌∙◌, ℕ, Bool, true, false, cond, sym}
use Rattle.std.specs.Prelude.{◌||◌, filter, length}
use Rattle.dms_desc.specs.Lookups.{structure_of}
use Rattle.dms_desc.specs.Shape.{Described, as_described}
use Rattle.dms_model.specs.Db.{Db}
use Rattle.dms_model.specs.declared.put.Put.TheVariants.{Stored, Duplicate, Full}
use Rattle.dms_model.specs.Stores.{is_full}
use Rattle.dms_model.specs.Uses.{clashes_for, enter_answer, has_entry, is_in_subset}
use Rattle.dms_plain.specs.Rows.{db_of, records_in}
use Rattle.dms_plain.proofs.entering.enter.Goals as goal

answer_is : (desc : Described) (db : Db) (subset owner number : ℕ) (refused full : Bool) → refused ≡ (has_entry db subset owner number || clashes_for (structure_of desc subset) db owner number)
    → full ≡ is_full (structure_of desc subset) (length (filter (is_in_subset subset) db.entries)) → cond refused (Duplicate subset) (cond full Full (Stored number)) ≡ enter_answer desc db subset owner number
unfolding enter_answer
answer_is desc db subset owner number refused full p q = λ i. cond (p i) (Duplicate subset) (cond (q i) Full (Stored number))

duplicate_is : (desc : Described) (db : Db) (subset owner number : ℕ) → true ≡ (has_entry db subset owner number || clashes_for (structure_of desc subset) db owner number) → Duplicate subset ≡ enter_answer desc db subset owner number
unfolding enter_answer
duplicate_is desc db subset owner number p = λ i. cond (p i) (Duplicate subset) (cond (is_full (structure_of desc subset) (length (filter (is_in_subset subset) db.entries))) Full (Stored number))

pub returns-then-is_refused-clause-answer : goal.returns-then-is_refused-clause-answer
returns-then-is_refused-clause-answer c =
    duplicate_is (as_described c.args.desc.now) (db_of (records_in c.args.rows.now) c.args.manual.now.entries) c.args.subset c.args.owner c.args.number (sym c.if-is_refused.true ∙ c.is_refused.ensures)

pub returns-then-is_full_subset-clause-answer : goal.returns-then-is_full_subset-clause-answer
returns-then-is_full_subset-clause-answer c =
    answer_is (as_described c.args.desc.now) (db_of (records_in c.args.rows.now) c.args.manual.now.entries) c.args.subset c.args.owner c.args.number false true
    (sym c.if-is_refused.false ∙ c.is_refused.ensures) (sym c.if-is_full_subset.true ∙ c.is_full_subset.ensures)

pub returns-clause-answer : goal.returns-clause-answer
returns-clause-answer c =
    answer_is (as_described c.args.desc.now) (db_of (records_in c.args.rows.now) c.args.manual.now.entries) c.args.subset c.args.owner c.args.number false false
    (sym c.if-is_refused.false ∙ c.is_refused.ensures) (sym c.if-is_full_subset.false ∙ c.is_full_subset.ensures)
