use Rattle.std.proofs.Common.{◌≡◌, [], subst, sym}
use Rattle.dms_desc.specs.Shape.{as_described}
use Rattle.dms_plain.specs.Rows.{IsInOrder, records_in, undo_all}
use Rattle.dms_plain.proofs.Fits.{nothing_fits, taken_back}
use Rattle.dms_plain.proofs.Following.{no_lists}
use Rattle.dms_plain.proofs.store.PlainStoreStore.back_out.Goals as goal

pub invariant_of-self : goal.invariant_of-self
invariant_of-self g c =
    let rows_are : c.replace-rows.new.dest.items ≡ [] = rw c.replace-rows.ensures.after c.new-2.ensures.items in
    let undo_is : c.replace-undo.new.dest.items ≡ [] = rw c.replace-undo.ensures.after c.new.ensures.items in
    let lists_are : c.replace-lists.new.dest.items ≡ [] = rw c.replace-lists.ensures.after c.new-3.ensures.items in
    record {
      in_order = subst IsInOrder (sym rows_are) tt;
      fit = nothing_fits (as_described c.args.self.now.desc) c.replace-rows.new.dest.items c.replace-undo.new.dest.items rows_are undo_is;
      listed = no_lists (as_described c.args.self.now.desc).structures c.replace-lists.new.dest.items (records_in c.replace-rows.new.dest.items) lists_are;
    }

pub invariant_of-self-2 : goal.invariant_of-self-2
invariant_of-self-2 g c =
    let undo_is : c.replace-undo.new.dest.items ≡ [] = rw c.replace-undo.ensures.after c.new.ensures.items in
    let back : records_in c.take_back.new.rows.items ≡ undo_all c.args.self.now.undo.items (records_in c.args.self.now.rows.items) = rw c.replace-undo.ensures.value at (rw c.replace-rows.ensures.value at c.in_ok-take_back.ensures.db) in
    record {
      in_order = c.in_ok-take_back.ensures.in_order;
      fit = taken_back (as_described c.args.self.now.desc) c.args.self.now.rows.items c.take_back.new.rows.items c.args.self.now.undo.items c.replace-undo.new.dest.items back undo_is c.args.self.now.fit;
      listed = c.in_ok-take_back.ensures.listed;
    }
