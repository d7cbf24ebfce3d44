use Rattle.std.proofs.Common.{◌≡◌, ◌^◌, ◌<◌, ◌≤◌, ◌∙◌, length, get_or, sym, ap, rules, arith}
use Rattle.dms_recovery.proofs.Placed.{key, place_end, place_here, place_next, place_there, placed, puts}
use Rattle.dms_recovery.proofs.rows.put_row.Goals as goal

pub loop-place-preserved : goal.loop-place-preserved
loop-place-preserved c =
    let rows = c.loop-place.rows.items in
    let x = c.index.result.now in
    let within : c.loop-place.place < length rows = omega (arith, c.loop-place-test.true, c.len-place-end.ensures, ap length c.loop-place.invariant.same) in
    let is : x ≡ get_or rows c.loop-place.place x = search rules in
    let not : c.key_of-key.result ≡ c.key_of-other.result → ⊥ = c.if-key-other.false in
    let less : key x < key c.args.row = omega (arith, c.key_of-key.ensures, c.key_of-other.ensures, c.if-key-other-2.false, not) in
    record { same = c.loop-place.invariant.same; place = place_next c.args.row rows c.loop-place.place c.loop-place.invariant.place x within is less }

pub returns-then-key-other : goal.returns-then-key-other
returns-then-key-other c =
    let rows = c.loop-place.rows.items in
    let x = c.index.result.now in
    let within : c.loop-place.place < length rows = omega (arith, c.loop-place-test.true, c.len-place-end.ensures, ap length c.loop-place.invariant.same) in
    let is : x ≡ get_or rows c.loop-place.place x = search rules in
    let small : c.args.row.row < 2 ^ 32 = search rules in
    let same : key c.args.row ≡ key x = sym c.key_of-key.ensures ∙ c.if-key-other.true ∙ c.key_of-other.ensures in
    let p = puts c.args.row c.args.rows.now.items rows c.requires.low c.requires.high small c.requires.rising c.requires.small
    (sym (place_there c.args.row rows c.loop-place.place c.loop-place.invariant.place x within is same) ∙ ap (placed c.args.row) c.loop-place.invariant.same) in
    record { rising = p.rising; small = p.small; named = p.named; more = p.more }

pub returns-then-key-other-2 : goal.returns-then-key-other-2
returns-then-key-other-2 c =
    let rows = c.loop-place.rows.items in
    let x = c.index.result.now in
    let within : c.loop-place.place < length rows = omega (arith, c.loop-place-test.true, c.len-place-end.ensures, ap length c.loop-place.invariant.same) in
    let is : x ≡ get_or rows c.loop-place.place x = search rules in
    let small : c.args.row.row < 2 ^ 32 = search rules in
    let less : key c.args.row < key x = omega (arith, c.key_of-key.ensures, c.key_of-other.ensures, c.if-key-other-2.true) in
    let p = puts c.args.row c.args.rows.now.items c.insert.new.self.items c.requires.low c.requires.high small c.requires.rising c.requires.small
    (c.in_ok-insert.ensures.items ∙ sym (place_here c.args.row rows c.loop-place.place c.loop-place.invariant.place x within is less) ∙ ap (placed c.args.row) c.loop-place.invariant.same) in
    record { rising = p.rising; small = p.small; named = p.named; more = p.more }

pub returns : goal.returns
returns c =
    let rows = c.loop-place.rows.items in
    let past : length rows ≤ c.loop-place.place = omega (arith, c.loop-place-test.false, c.len-place-end.ensures, ap length c.loop-place.invariant.same) in
    let small : c.args.row.row < 2 ^ 32 = search rules in
    let p = puts c.args.row c.args.rows.now.items c.push.new.self.items c.requires.low c.requires.high small c.requires.rising c.requires.small
    (c.in_ok-push.ensures.items ∙ sym (place_end c.args.row rows c.loop-place.place c.loop-place.invariant.place past) ∙ ap (placed c.args.row) c.loop-place.invariant.same) in
    record { rising = p.rising; small = p.small; named = p.named; more = p.more }
