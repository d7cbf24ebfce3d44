use Rattle.std.proofs.Common.{◌≡◌, ◌+◌, ◌-◌, ◌∙◌, ap, sym, arith, length, true, false, List, ℕ}
use Rattle.dms_audfile.specs.Blocks.{block_entries}
use Rattle.dms_audfile.specs.Gates.{block_at}
use Rattle.dms_audfile.specs.HeldImages.{holds_on}
use Rattle.dms_audfile.proofs.Group.{piece_is, piece_long}
use Rattle.dms_audfile.proofs.HeldImages.{in_blocks, in_turn, in_here}
use Rattle.dms_audfile.proofs.holding.group_holds.Goals as goal

pub block_holds-requires : goal.block_holds-requires
block_holds-requires c = ap length (piece_is c.loop-i.i c.args.group.now) ∙ piece_long c.loop-i.i c.args.full c.args.group.now c.loop-i-test.true c.requires

pub returns-then-block_holds : goal.returns-then-block_holds
returns-then-block_holds c =
    let i = c.loop-i.i in
    let group = c.args.group.now in
    let here : holds_on c.args.file c.args.block false (block_entries (block_at i group)) ≡ true = ap (λ (l : List ℕ). holds_on c.args.file c.args.block false (block_entries l)) (sym (piece_is i group)) ∙ sym c.block_holds.ensures ∙ c.if-block_holds.true in
    sym (in_here c.args.file c.args.block (c.args.full - i) i group (omega (arith, c.loop-i-test.true)) here) ∙ c.loop-i.invariant

pub loop-i-preserved : goal.loop-i-preserved
loop-i-preserved c =
    let i = c.loop-i.i in
    let group = c.args.group.now in
    let off : holds_on c.args.file c.args.block false (block_entries (block_at i group)) ≡ false = ap (λ (l : List ℕ). holds_on c.args.file c.args.block false (block_entries l)) (sym (piece_is i group)) ∙ sym c.block_holds.ensures ∙ c.if-block_holds.false in
    let e : c.args.full - (i + 1) ≡ c.args.full - i - 1 = omega arith in
    ap (λ n. in_blocks c.args.file c.args.block n (i + 1) group) e ∙ in_turn c.args.file c.args.block (c.args.full - i) i group (omega (arith, c.loop-i-test.true)) off ∙ c.loop-i.invariant

pub returns : goal.returns
returns c =
    let e : c.args.full - c.loop-i.i ≡ 0 = omega (arith, c.loop-i-test.false) in
    sym (ap (λ n. in_blocks c.args.file c.args.block n c.loop-i.i c.args.group.now) e) ∙ c.loop-i.invariant
