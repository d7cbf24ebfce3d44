use Rattle.std.proofs.Common.{sym, arith, ap, ◌∙◌, ℕ, List, Some}
use Rattle.dms_audrec.specs.Seen.{entry_seen}
use Rattle.dms_audrec.specs.EntryLaws.{entry_takes, front_found, front_short, front_only, none_only, front_rest}
use Rattle.dms_audrec.proofs.reading.decode.Goals as goal

pub returns-in_err-entry-clause-only : goal.returns-in_err-entry-clause-only
returns-in_err-entry-clause-only c e rest is parts = absurd (none_only _ e rest (sym c.in_err-entry.ensures) is parts)

pub overflow_sub-result : goal.overflow_sub-result
overflow_sub-result c = front_short _ _ _ (entry_takes _ _ (λ i. omega (arith, c.type_inv.bytes i)) (sym c.in_ok-entry.ensures))

pub returns-clause-found : goal.returns-clause-found
returns-clause-found c = front_found _ _ _ (entry_takes _ _ (λ i. omega (arith, c.type_inv.bytes i)) (sym c.in_ok-entry.ensures))

pub returns-clause-only : goal.returns-clause-only
returns-clause-only c e rest is parts = front_only _ _ e _ rest c.in_ok-entry.ensures is parts

pub returns-clause-read : goal.returns-clause-read
returns-clause-read c =
    ap (λ (r : List ℕ). Some (entry_seen c.in_ok-entry.entry, r)) (front_rest _ _ _ (entry_takes _ _ (λ i. omega (arith, c.type_inv.bytes i)) (sym c.in_ok-entry.ensures))) ∙ c.in_ok-entry.ensures
