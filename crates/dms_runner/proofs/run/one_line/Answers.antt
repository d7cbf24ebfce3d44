use Rattle.dms_storeverbs.specs.View.{engine_view}
use Rattle.std.proofs.Common.{Bool, ◌+◌, ◌∙◌, List, ℕ, Err, refl, ap, subst, sym, arith}
use Rattle.dms_desc.specs.Shape.{as_described}
use Rattle.dms_feed.specs.Feeds.{Remains}
use Rattle.dms_feed.specs.Lines.{after_line, first_line}
use Rattle.dms_block.specs.Texts.{Prints}
use Rattle.dms_runner.proofs.Happening.{part_run}
use Rattle.dms_runner.proofs.Lining.{line_silent}
use Rattle.dms_runner.proofs.run.one_line.Goals as goal

pub returns-in-Err-Bytes-clause-bytes : goal.returns-in-Err-Bytes-clause-bytes
returns-in-Err-Bytes-clause-bytes g c = λ _ all remains. c.in-Err-Bytes.ensures.bytes (ap Err c.in-Err-Bytes.field-0-is) all remains

pub returns-in-Ok-None-clause-none : goal.returns-in-Ok-None-clause-none
returns-in-Ok-None-clause-none g c = λ _. (
  refl,
  refl,
  λ all remains.
      let e = (rw c.in-Ok-None.field-0-is at c.in-Ok-None.ensures.line) all remains in
      (e.0, subst (λ (r : List ℕ). Remains c.next_raw.new.feed (g.I.Source.left c.next_raw.new.source) r) (ap after_line e.0) e.1),
)

pub returns-in-Ok-None-clause-rest : goal.returns-in-Ok-None-clause-rest
returns-in-Ok-None-clause-rest g c = λ all remains.
    let e = (rw c.in-Ok-None.field-0-is at c.in-Ok-None.ensures.line) all remains in
    (after_line all, e.1)

pub returns-then-raw-clause-read : goal.returns-then-raw-clause-read
returns-then-raw-clause-read g c = λ _ all remains.
    let e = (rw c.in-Ok-Some.field-0-is at c.in-Ok-Some.ensures.line) all remains in
    record { some = e.0.0; remains = e.1; bytes = omega (arith, c.saturating_sub.ensures, e.0.2, e.0.3) }

pub returns-then-raw-clause-took : goal.returns-then-raw-clause-took
returns-then-raw-clause-took g c = λ _ now all stands same line room remains.
    let e = (rw c.in-Ok-Some.field-0-is at c.in-Ok-Some.ensures.line) all remains in
    (rw c.in-Ok-true.field-0-test at c.in-Ok-true.ensures.lined) now (first_line all) (c.as_slice.ensures ∙ e.0.1) stands same (ap (λ (n : ℕ). n + 1) line) room

pub returns-then-raw-clause-rest : goal.returns-then-raw-clause-rest
returns-then-raw-clause-rest g c = λ all remains.
    let e = (rw c.in-Ok-Some.field-0-is at c.in-Ok-Some.ensures.line) all remains in
    (after_line all, e.1)

pub returns-in-Ok-true-clause-read : goal.returns-in-Ok-true-clause-read
returns-in-Ok-true-clause-read g c = λ _ all remains.
    let e = (rw c.in-Ok-Some.field-0-is at c.in-Ok-Some.ensures.line) all remains in
    record { some = e.0.0; remains = e.1; bytes = omega (arith, c.saturating_sub.ensures, e.0.2, e.0.3) }

pub returns-in-Ok-true-clause-took : goal.returns-in-Ok-true-clause-took
returns-in-Ok-true-clause-took g c = λ _ now all stands same line room remains.
    let e = (rw c.in-Ok-Some.field-0-is at c.in-Ok-Some.ensures.line) all remains in
    (rw c.in-Ok-true.field-0-test at c.in-Ok-true.ensures.lined) now (first_line all) (c.as_slice.ensures ∙ e.0.1) stands same (ap (λ (n : ℕ). n + 1) line) room

pub returns-in-Ok-true-clause-rest : goal.returns-in-Ok-true-clause-rest
returns-in-Ok-true-clause-rest g c = λ all remains.
    let e = (rw c.in-Ok-Some.field-0-is at c.in-Ok-Some.ensures.line) all remains in
    (after_line all, e.1)

pub returns-then-raw-clause-ended : goal.returns-then-raw-clause-ended
returns-then-raw-clause-ended g c = λ _ all remains.
    let e = (rw c.in-Ok-Some.field-0-is at c.in-Ok-Some.ensures.line) all remains in
    sym e.0.4 ∙ c.if-raw.true

pub returns-in-Ok-true-clause-last : goal.returns-in-Ok-true-clause-last
returns-in-Ok-true-clause-last g c = λ _ all remains.
    let e = (rw c.in-Ok-Some.field-0-is at c.in-Ok-Some.ensures.line) all remains in
    sym e.0.4 ∙ c.if-raw.false

pub returns-in-Ok-false-clause-full_list : goal.returns-in-Ok-false-clause-full_list
returns-in-Ok-false-clause-full_list g c = λ _ now all stands same line room remains.
    let e = (rw c.in-Ok-Some.field-0-is at c.in-Ok-Some.ensures.line) all remains in
    let goes = (rw c.in-Ok-false.field-0-test at c.in-Ok-false.ensures.lined) now (first_line all) (c.as_slice.ensures ∙ e.0.1) stands same (ap (λ (n : ℕ). n + 1) line) room in
    record {
      said = subst (λ (t : List ℕ). Prints (engine_view c.args.engine.now).said (engine_view c.take_line.new.engine).said t) (line_silent (as_described c.args.engine.now.desc) now (first_line all) goes.full) goes.ran.text;
      some = e.0.0;
      full = goes.full;
      fits = omega (arith, e.0.2, e.0.3);
      did = goes.ran;
    }

pub returns-clause-part : goal.returns-clause-part
returns-clause-part g c = λ f is now all stands same line room remains.
    let e = (rw c.in-Ok-Some.field-0-is at c.in-Ok-Some.ensures.line) all remains in
    record {
      some = e.0.0;
      fits = omega (arith, e.0.2, e.0.3);
      part = part_run Bool _ _ _ _ (c.in-Err.ensures.part now (first_line all) (c.as_slice.ensures ∙ e.0.1) stands same (ap (λ (n : ℕ). n + 1) line) room);
    }
