use Rattle.std.proofs.Common.{◌≡◌, ◌+◌, ◌-◌, ◌≤◌, ◌∙◌, ap, sym, arith, length, drop, length-drop}
use Rattle.dms_audrec.specs.Seen.{entry_seen}
use Rattle.dms_audfile.specs.Blocks.{entries_from, stands_there}
use Rattle.dms_audfile.specs.HeldImages.{holds_on}
use Rattle.dms_audfile.proofs.Reading.{empty_is, empty_not, entries_none, entries_stop, entries_alone}
use Rattle.dms_audfile.proofs.HeldImages.{holds_all, holds_none, entries_over, holds_turn}
use Rattle.dms_audfile.proofs.holding.holds_in.Goals as goal

pub returns-then-is_empty : goal.returns-then-is_empty
returns-then-is_empty c =
    let zero_is = empty_is _ c.loop-entry.rest.now c.is_empty.ensures c.if-is_empty.true in
    sym (holds_all c.args.file c.args.block c.loop-entry.found _ (entries_none _ c.loop-entry.at c.loop-entry.rest.now zero_is)) ∙ c.loop-entry.invariant.so_far

pub returns-in-None : goal.returns-in-None
returns-in-None c =
    let some = empty_not _ c.loop-entry.rest.now c.is_empty.ensures c.if-is_empty.false in
    sym (holds_none c.args.file c.args.block c.loop-entry.found _ (entries_stop _ c.loop-entry.at c.loop-entry.rest.now some (sym c.in-None.ensures.read))) ∙ c.loop-entry.invariant.so_far

pub returns-then-not-stands_there : goal.returns-then-not-stands_there
returns-then-not-stands_there c =
    let some = empty_not _ c.loop-entry.rest.now c.is_empty.ensures c.if-is_empty.false in
    sym (holds_none c.args.file c.args.block c.loop-entry.found _ (entries_alone _ c.loop-entry.at c.loop-entry.rest.now (entry_seen c.in-Some.read.0) _ some (sym c.in-Some.ensures.read)
    (ap (stands_there c.loop-entry.at (entry_seen c.in-Some.read.0)) (sym c.split_at.ensures.back) ∙ sym c.stands_there.ensures ∙ c.if-not-stands_there.true)))
    ∙ c.loop-entry.invariant.so_far

pub loop-entry-preserved : goal.loop-entry-preserved
loop-entry-preserved c =
    let some = empty_not _ c.loop-entry.rest.now c.is_empty.ensures c.if-is_empty.false in
    let rest = c.loop-entry.rest.now in
    let at = c.loop-entry.at in
    let n = c.in-Some.read.1 in
    let few : n ≤ length rest = c.in-Some.ensures.found.2 in
    let len : length (drop n rest) ≡ length rest - n = length-drop n rest in
    let e : length c.args.bytes.now - (c.loop-entry._entry + 1) ≡ length c.args.bytes.now - c.loop-entry._entry - 1 = omega arith in
    let next : at + n ≡ at + (length rest - length (drop n rest)) = omega arith in
    record {
      at = omega (arith, c.loop-entry.invariant.at, ap length c.split_at.ensures.back);
      so_far = (λ i. holds_on c.args.file c.args.block (c.found_with-found.ensures i) (entries_from (e i) (at + n) (c.split_at.ensures.back i)))
          ∙ holds_turn (length c.args.bytes.now - c.loop-entry._entry) at (at + n) c.args.file c.args.block rest (entry_seen c.in-Some.read.0) (drop n rest) c.loop-entry.found (omega (arith, c.loop-entry-test.true)) some (sym c.in-Some.ensures.read)
          (ap (stands_there at (entry_seen c.in-Some.read.0)) (sym c.split_at.ensures.back) ∙ sym c.stands_there.ensures ∙ c.if-not-stands_there.false) next
          ∙ c.loop-entry.invariant.so_far;
    }

pub returns-then-not-is_empty : goal.returns-then-not-is_empty
returns-then-not-is_empty c =
    let over : length c.args.bytes.now - c.loop-entry._entry ≡ 0 = omega (arith, c.loop-entry-test.false) in
    let some = empty_not _ c.loop-entry.rest.now c.is_empty-2.ensures c.if-not-is_empty.true in
    sym (ap (λ k. holds_on c.args.file c.args.block c.loop-entry.found (entries_from k c.loop-entry.at c.loop-entry.rest.now)) over
    ∙ holds_none c.args.file c.args.block c.loop-entry.found _ (entries_over c.loop-entry.at c.loop-entry.rest.now some)) ∙ c.loop-entry.invariant.so_far

pub returns : goal.returns
returns c =
    let none = empty_is _ c.loop-entry.rest.now c.is_empty-2.ensures c.if-not-is_empty.false in
    sym (holds_all c.args.file c.args.block c.loop-entry.found _ (entries_none _ c.loop-entry.at c.loop-entry.rest.now none)) ∙ c.loop-entry.invariant.so_far
