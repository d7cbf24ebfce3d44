use Rattle.std.proofs.Common.{Err, ◌≡◌, ◌++◌, List, ℕ, length, true, false, sym, ◌∙◌, ap, arith}
use Rattle.dms_top.specs.Schema.{is_script}
use Rattle.dms_top.proofs.Taken.{goes_on, ends_at, ends_last, ends_none, too_long, long_first}
use Rattle.dms_top.proofs.schema.schema_line.Goals as goal

pub returns-in-Err-Bytes-clause-long : goal.returns-in-Err-Bytes-clause-long
returns-in-Err-Bytes-clause-long g c = λ _ all remains. long_first all c.args.text.now (c.in-Err-Bytes.ensures.bytes (ap Err c.in-Err-Bytes.field-0-is) all remains)

pub returns-in-Ok-None-clause-line : goal.returns-in-Ok-None-clause-line
returns-in-Ok-None-clause-line g c = λ all remains.
    let e = (rw c.in-Ok-None.field-0-is at c.in-Ok-None.ensures.line) all remains in
    ends_none all _ _ _ e.0 e.1

pub returns-then-raw-clause-line : goal.returns-then-raw-clause-line
returns-then-raw-clause-line g c = λ all remains.
    let e = (rw c.in-Ok-Some.field-0-is at c.in-Ok-Some.ensures.line) all remains in
    ends_at true all _ c.in-Ok-Some.raw.kept _ c.in-Ok-Some.raw.length _ e.0.0 e.0.1 e.0.2 e.0.3 (ap is_script (sym c.as_slice.ensures) ∙ sym c.if-is_script.ensures) (sym e.0.4 ∙ c.if-raw.true) e.1

pub returns-then-is_script-clause-line : goal.returns-then-is_script-clause-line
returns-then-is_script-clause-line g c = λ all remains.
    let e = (rw c.in-Ok-Some.field-0-is at c.in-Ok-Some.ensures.line) all remains in
    ends_at false all _ c.in-Ok-Some.raw.kept _ c.in-Ok-Some.raw.length _ e.0.0 e.0.1 e.0.2 e.0.3 (ap is_script (sym c.as_slice.ensures) ∙ sym c.if-is_script.ensures) (sym e.0.4 ∙ c.if-raw.false) e.1

pub returns-then-as_slice-gt-TEXT_BYTES-clause-long : goal.returns-then-as_slice-gt-TEXT_BYTES-clause-long
returns-then-as_slice-gt-TEXT_BYTES-clause-long g c = λ _ all remains.
    let e = (rw c.in-Ok-Some.field-0-is at c.in-Ok-Some.ensures.line) all remains in
    let other : is_script c.in-Ok-Some.raw.kept ≡ false = ap is_script (sym c.as_slice.ensures) ∙ sym c.if-is_script.ensures in
    let added : c.extend.new.self ≡ c.args.text.now ++ c.in-Ok-Some.raw.kept = c.in-Ok.ensures.ok ∙ ap (λ (l : List ℕ). c.args.text.now ++ l) c.as_slice-in-Ok-Some.ensures in
    too_long all c.args.text.now c.extend.new.self c.in-Ok-Some.raw.kept c.in-Ok-Some.raw.length e.0.0 e.0.1 e.0.2 e.0.3 other added (omega (arith, c.if-as_slice-gt-TEXT_BYTES.true, ap length c.as_slice-in-Ok-Some-2.ensures))

pub returns-then-raw-2-clause-line : goal.returns-then-raw-2-clause-line
returns-then-raw-2-clause-line g c = λ all remains.
    let e = (rw c.in-Ok-Some.field-0-is at c.in-Ok-Some.ensures.line) all remains in
    let other : is_script c.in-Ok-Some.raw.kept ≡ false = ap is_script (sym c.as_slice.ensures) ∙ sym c.if-is_script.ensures in
    let added : c.extend.new.self ≡ c.args.text.now ++ c.in-Ok-Some.raw.kept = c.in-Ok.ensures.ok ∙ ap (λ (l : List ℕ). c.args.text.now ++ l) c.as_slice-in-Ok-Some.ensures in
    goes_on all c.args.text.now c.extend.new.self c.in-Ok-Some.raw.kept _ c.in-Ok-Some.raw.length _ e.0.0 e.0.1 e.0.2 e.0.3 other added (sym e.0.4 ∙ c.if-raw-2.true) e.1

pub returns-clause-line : goal.returns-clause-line
returns-clause-line g c = λ all remains.
    let e = (rw c.in-Ok-Some.field-0-is at c.in-Ok-Some.ensures.line) all remains in
    let other : is_script c.in-Ok-Some.raw.kept ≡ false = ap is_script (sym c.as_slice.ensures) ∙ sym c.if-is_script.ensures in
    let added : c.extend.new.self ≡ c.args.text.now ++ c.in-Ok-Some.raw.kept = c.in-Ok.ensures.ok ∙ ap (λ (l : List ℕ). c.args.text.now ++ l) c.as_slice-in-Ok-Some.ensures in
    ends_last all c.args.text.now c.extend.new.self c.in-Ok-Some.raw.kept _ c.in-Ok-Some.raw.length _ e.0.0 e.0.1 e.0.2 e.0.3 other added (sym e.0.4 ∙ c.if-raw-2.false) e.1
