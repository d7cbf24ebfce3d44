use Rattle.std.proofs.Common.{◌≡◌, ◌∙◌, ℕ, List, sym, ap, filter, length, arith}
use Rattle.std.specs.Prelude.{◌==◌, not}
use Rattle.std.proofs.lemmas.Bool.Decides.{nat_tests}
use Rattle.dms_sets.proofs.Faults.{if_that}
use Rattle.dms_manual.specs.Named.{any_filter, tells}
use Rattle.dms_manual.proofs.naming.names_record.Goals as goal

pub returns-clause-answer : goal.returns-clause-answer
returns-clause-answer g c xs is =
    let items = c.in_ok-found.ensures.found xs is in
    let long : length c.in_ok-found.found.items ≡ length (filter (tells c.args.number) xs) = ap (λ (l : List (List ℕ)). length l) items in
    let same : not c.is_empty.result ≡ not (length (filter (tells c.args.number) xs) == 0) = grind (arith, nat_tests, c.is_empty.ensures, long) in
    same ∙ sym (any_filter (tells c.args.number) xs)

pub returns-in_err-found-clause-fails : goal.returns-in_err-found-clause-fails
returns-in_err-found-clause-fails g c =
    if_that _ _ _ c.from_residual.ensures.1 (g.met.L.Lists.fails_then _ (λ m. m == c.args.s.now.number) 1 0 _ _ _ (g.met.L.Lists.calm_none (λ m. m == c.args.s.now.number) 1 c.args.lists.now) c.in_err-found.ensures.fails)

pub returns-clause-calm : goal.returns-clause-calm
returns-clause-calm g c = g.met.L.Lists.calm_then (λ m. m == c.args.s.now.number) 0 1 _ _ _ c.in_ok-found.ensures.calm (g.met.L.Lists.calm_none (λ m. m == c.args.s.now.number) 1 c.entries_naming.new.lists)
