use Rattle.std.proofs.Common.{List, subst, Ok, Err}
use Rattle.dms_desc.specs.Shape.{as_described}
use Rattle.dms_links.specs.Taking.{holds_since}
use Rattle.dms_model.specs.Db.{Place}
use Rattle.dms_spelling.specs.Ready.{holds_sets, ready_since}
use Rattle.dms_removal.specs.Clears.{ClearsSlots}
use Rattle.dms_removal.specs.Removing.{clear_failed, slots_had, unused_goes, walk_failed}
use Rattle.dms_removal.proofs.removing.remove_unused.Goals as goal

pub linkers-requires-clause-sound : goal.linkers-requires-clause-sound
linkers-requires-clause-sound g c = c.requires.ready.sound

pub linkers-requires-clause-slots : goal.linkers-requires-clause-slots
linkers-requires-clause-slots g c = slots_had (as_described c.args.desc.now) c.requires.ready.served

pub clear-requires-clause-sound : goal.clear-requires-clause-sound
clear-requires-clause-sound g c = c.in-Ok.ensures.reads.looks.stays.sound

pub clear-requires-clause-holds : goal.clear-requires-clause-holds
clear-requires-clause-holds g c = holds_since (as_described c.args.desc.now) c.args.over.now c.linkers.new.over c.in-Ok.ensures.reads (holds_sets (as_described c.args.desc.now) c.args.over.now c.requires.ready)

pub take_out-requires : goal.take_out-requires
take_out-requires g c =
    let desc = as_described c.args.desc.now in
    record { ready = ready_since desc c.linkers.new.over c.clear.new.over (c.in-Ok-clear.ensures).writes.writes.looks (ready_since desc c.args.over.now c.linkers.new.over c.in-Ok.ensures.reads.looks c.requires.ready) }

pub returns-in-Err : goal.returns-in-Err
returns-in-Err g c = walk_failed (as_described c.args.desc.now) c.args.set c.args.number c.in-Err.e c.args.over.now c.linkers.new.over c.requires.ready c.in-Err.ensures.reads c.in-Err.ensures.causes

pub returns-in-Err-clear : goal.returns-in-Err-clear
returns-in-Err-clear g c =
    let desc = as_described c.args.desc.now in
    clear_failed desc c.args.set c.args.number c.in-Ok.places.items c.args.over.now c.linkers.new.over g.met.B.Blocks.same_then c.requires.ready c.requires.set c.in-Ok.ensures.reads c.in-Ok.ensures.causes c.in-Ok.ensures.found c.in-Err-clear.e c.clear.new.over
    (subst (λ (ps : List Place). ClearsSlots {T = Unit {0}} desc c.args.set c.args.number ps (Err c.in-Err-clear.e) c.linkers.new.over c.clear.new.over) c.as_slice.ensures.value c.in-Err-clear.ensures)

pub returns : goal.returns
returns g c =
    let desc = as_described c.args.desc.now in
    unused_goes desc c.args.set c.args.number c.in-Ok.places.items c.args.over.now c.linkers.new.over g.met.B.Blocks.same_then c.requires.ready c.requires.set c.in-Ok.ensures.reads c.in-Ok.ensures.causes c.in-Ok.ensures.found c.take_out.result c.clear.new.over
    c.take_out.new.over (subst (λ (ps : List Place). ClearsSlots {T = Unit {0}} desc c.args.set c.args.number ps (Ok c.in-Ok-clear.field-0) c.linkers.new.over c.clear.new.over) c.as_slice.ensures.value c.in-Ok-clear.ensures) c.take_out.ensures
