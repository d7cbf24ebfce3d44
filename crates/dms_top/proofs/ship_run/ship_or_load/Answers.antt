use Rattle.std.proofs.Common.{ℕ, map, subst, inl, inr}
use Rattle.std.specs.String.{string_bytes}
use Rattle.dms_top.specs.Shipping.{ShipDoes}
use Rattle.dms_top.proofs.Commands.{no_ship_none, some_ship}
use Rattle.dms_top.proofs.Digits.{no_tag, same_tag}
use Rattle.dms_top.proofs.ShipWords.{ship_no_load}
use Rattle.dms_top.proofs.ship_run.ship_or_load.Goals as goal

pub returns-in-Some-clause-words : goal.returns-in-Some-clause-words
returns-in-Some-clause-words g c = (λ bad. absurd (c.ship_trail.ensures.words bad), λ none. absurd (none (inr (some_ship (map string_bytes c.args.words.now) c.in-Some.from c.in-Some.ensures.said))))

pub returns-in-Some-clause-load_does : goal.returns-in-Some-clause-load_does
returns-in-Some-clause-load_does g c = λ seed n is. absurd (ship_no_load (map string_bytes c.args.words.now) c.in-Some.from (seed, n) c.in-Some.ensures.said is)

pub returns-in-Some-clause-ship_does : goal.returns-in-Some-clause-ship_does
returns-in-Some-clause-ship_does g c k is =
    subst (λ (n : ℕ). ShipDoes g.S.Site n c.args.site.now c.ship_trail.new.site c.ship_trail.result) (same_tag _ c.in-Some.from k c.in-Some.ensures.said is) c.ship_trail.ensures.does

pub returns-in-Some-clause-none : goal.returns-in-Some-clause-none
returns-in-Some-clause-none g c = λ no tells. c.ship_trail.ensures.does.files tells

pub returns-in-None-clause-words : goal.returns-in-None-clause-words
returns-in-None-clause-words g c = (λ bad. no_ship_none (map string_bytes c.args.words.now) c.in-None.ensures.said (c.load_or_refuse.ensures.words.0 bad), λ none. c.load_or_refuse.ensures.words.1 (λ load. none (inl load)))

pub returns-in-None-clause-ship_does : goal.returns-in-None-clause-ship_does
returns-in-None-clause-ship_does g c = λ k is. absurd (no_tag _ k c.in-None.ensures.said is)

pub returns-in-None-clause-none : goal.returns-in-None-clause-none
returns-in-None-clause-none g c = λ no tells. λ i. g.S.Site.files (c.load_or_refuse.ensures.none no i)
