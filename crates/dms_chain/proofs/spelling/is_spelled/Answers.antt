use Rattle.std.proofs.Common.{refl, sym, ◌∙◌, drop, take, arith}
use Rattle.std.specs.Int.{w32, from_be_bytes}
use Rattle.dms_chain.specs.InPlace.{laid_spells}
use Rattle.dms_chain.proofs.spelling.is_spelled.Goals as goal

pub returns : goal.returns
returns c =
    let b = c.args.bytes.now in
    let next = from_be_bytes w32 (take 4 (drop 3 b)) in
    c.is_laid_to.ensures
    ∙ sym (laid_spells c.args.width c.args.count next b c.requires.long (λ i. omega (arith, c.type_inv.bytes i)) c.requires.room c.requires.count refl)
