use Rattle.std.proofs.Common.{◌∙◌, List, [], ◌∷◌, ◌++◌, ap, map, subst, sym}
use Rattle.dms_desc.specs.Shape.{as_described}
use Rattle.dms_model.specs.Db.{Place, Records}
use Rattle.dms_plain.specs.Linkers.{linkers_in}
use Rattle.dms_plain.specs.Listed.{AreLists}
use Rattle.dms_plain.specs.Removed.{kept_at, removed_from}
use Rattle.dms_plain.specs.Rows.{entries_of, records_in}
use Rattle.dms_plain.specs.declared.rows.RecordRow.{RecordRow}
use Rattle.dms_plain.proofs.Removing.{removal_undone}
use Rattle.dms_plain.proofs.removal.remove.Goals as goal

pub returns-clause-mark : goal.returns-clause-mark
returns-clause-mark c =
    let desc = as_described c.args.desc.now in
    let set = c.args.set in
    let number = c.args.number in
    let rows = c.args.rows.now.items in
    let found = c.in_ok-places.ensures ∙ ap (λ (rs : List RecordRow). linkers_in desc set number (entries_of rs)) c.as_slice-2.ensures.value in
    let places = c.in_ok-push.ensures.ok ∙ ap (λ (ps : List Place). ps ++ (set, number) ∷ []) found in
    let kept = c.in_ok-kept.ensures ∙ (λ i. map (kept_at (records_in (c.as_slice-3.ensures.value i))) (c.as_slice-4.ensures i)) in
    removal_undone desc set number rows c.args.undo.now.items c.in_ok-kept.kept.items c.append.new.self.items c.push.new.self (records_in c.take_out.new.rows.items) c.requires.in_order places kept c.in_ok-append.ensures.items c.take_out.ensures.db

pub follow_removal-requires-clause-places : goal.follow_removal-requires-clause-places
follow_removal-requires-clause-places c =
    let desc = as_described c.args.desc.now in
    let set = c.args.set in
    let number = c.args.number in
    let found = c.in_ok-places.ensures ∙ ap (λ (rs : List RecordRow). linkers_in desc set number (entries_of rs)) c.as_slice-2.ensures.value in
    c.as_slice-6.ensures ∙ c.in_ok-push.ensures.ok ∙ ap (λ (ps : List Place). ps ++ (set, number) ∷ []) (found ∙ ap (λ (rs : List RecordRow). linkers_in desc set number (entries_of rs)) (sym c.as_slice-5.ensures.value))

pub returns-clause-listed : goal.returns-clause-listed
returns-clause-listed c =
    let desc = as_described c.args.desc.now in
    let set = c.args.set in
    let number = c.args.number in
    let ls = c.follow_removal.new.lists.items in
    subst (λ (m : Records). AreLists desc.structures ls m) (sym c.take_out.ensures.db)
    (subst (λ (rs : List RecordRow). AreLists desc.structures ls (removed_from desc set number (records_in rs))) c.as_slice-5.ensures.value c.follow_removal.ensures)
