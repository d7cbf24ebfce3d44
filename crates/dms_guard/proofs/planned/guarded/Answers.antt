use Rattle.dms_guard.proofs.planned.guarded.Goals as goal

pub returns-clause-looked : goal.returns-clause-looked
returns-clause-looked g c = λ tells l. record { starts = l.starts; trail = l.trail; plans = l.plans }

pub returns-clause-stays : goal.returns-clause-stays
returns-clause-stays g c = λ from st. st
