use Rattle.std.proofs.Common.{◌+◌, ◌-◌, ◌*◌, ◌/◌, ◌≤◌, ap, arith}
use Rattle.dms_reorg.proofs.Filing.{rounded_most, rounded_room}
use Rattle.dms_reorg.proofs.widening.blocks_needed.Goals as goal

pub overflow_cast-needed : goal.overflow_cast-needed
overflow_cast-needed c = omega (arith, rounded_most c.min-slots.result c.args.per_then c.requires.some, c.min-slots.ensures, c.from-2.ensures, c.ranges.population.fits)

pub returns-clause-room : goal.returns-clause-room
returns-clause-room c =
    let slots = c.min-slots.result in
    let per = c.args.per_then in
    let first : (slots + per - 1) / per ≤ c.max.result = omega (arith, c.max.ensures) in
    omega (arith, rounded_room slots per c.max.result c.requires.some first, c.min-slots.ensures, c.from-2.ensures, ap (λ n. n * c.args.per) c.from.ensures)

pub returns-clause-not_fewer : goal.returns-clause-not_fewer
returns-clause-not_fewer c = omega (arith, c.max.ensures)

pub returns-clause-most : goal.returns-clause-most
returns-clause-most c = omega (arith, rounded_most c.min-slots.result c.args.per_then c.requires.some, c.min-slots.ensures, c.from-2.ensures, c.max.ensures)
