use Rattle.std.proofs.Common.{◌≡◌, ◌∙◌, [], ap, refl, rules, List, subst, sym, Some}
use Rattle.std.specs.FinMap.{empty}
use Rattle.dms_plain.specs.declared.rows.RecordRow.{RecordRow}
use Rattle.dms_plain.specs.declared.rows.Undo.{Undo}
use Rattle.dms_plain.specs.Rows.{IsInOrder, records_in, db_of, undo_all}
use Rattle.dms_desc.specs.Shape.{as_described}
use Rattle.dms_plain.proofs.Fits.{nothing_fits}
use Rattle.dms_plain.proofs.Following.{no_lists}
use Rattle.dms_plain.proofs.Maps.{no_rows}
use Rattle.dms_plain.proofs.store.PlainStore.new.Goals as goal

first_records : (rows : List RecordRow) → rows ≡ [] → records_in rows ≡ empty
first_records rows none = ap records_in none ∙ no_rows

first_mark : (rows : List RecordRow) (undo : List Undo) → rows ≡ [] → undo ≡ [] → undo_all undo (records_in rows) ≡ empty
first_mark rows undo none nothing = (λ i. undo_all (nothing i) (records_in (none i))) ∙ no_rows

pub returns-in-Ok-clause-starts : goal.returns-in-Ok-clause-starts
returns-in-Ok-clause-starts g c = record {
  sound = tt;
  desc_is = search rules;
  db_is = λ i. Some (db_of (first_records c.new.result.items c.new.ensures.items i) (c.new-in-Ok-3.ensures.entries i));
  mark = λ i. Some (db_of (first_mark c.new.result.items c.new-in-Ok-2.result.items c.new.ensures.items c.new-in-Ok-2.ensures.items i) (c.new-in-Ok-3.ensures.mark i));
  next_is = refl;
  points = refl;
  durable = refl;
  fulls = refl;
  damages = refl;
  effort = refl;
}

pub invariant_of-result : goal.invariant_of-result
invariant_of-result g c = record {
  in_order = subst IsInOrder (sym c.new.ensures.items) tt;
  fit = nothing_fits (as_described c.in-Ok.desc) c.new.result.items c.new-in-Ok-2.result.items c.new.ensures.items c.new-in-Ok-2.ensures.items;
  listed = no_lists (as_described c.in-Ok.desc).structures c.new-in-Ok.result.items (records_in c.new.result.items) c.new-in-Ok.ensures.items;
}
