use Rattle.std.proofs.Common.{◌++◌, [], ◌∷◌}
use Rattle.dms_audrec.specs.Seen.{entry_seen}
use Rattle.dms_creation.proofs.LaidMore.{keeps_sealing, laid_more}
use Rattle.dms_creation.proofs.laying.lay_entry.Goals as goal

pub returns-in-Ok-clause-moments : goal.returns-in-Ok-clause-moments
returns-in-Ok-clause-moments g c tells entries old l = keeps_sealing _ _ (l.waiting ++ entry_seen c.args.entry.now ∷ []) (c.append.ensures.moments 10001 l.waiting tells l.plain l.ends)

pub returns-in-Err-clause-moments : goal.returns-in-Err-clause-moments
returns-in-Err-clause-moments g c tells entries old l = keeps_sealing _ _ (l.waiting ++ entry_seen c.args.entry.now ∷ []) (c.append.ensures.moments 10001 l.waiting tells l.plain l.ends)

pub returns-in-Ok-clause-laid : goal.returns-in-Ok-clause-laid
returns-in-Ok-clause-laid g c tells entries old l =
    laid_more c.args.end.now c.append.new.self entries (entry_seen c.args.entry.now) old _ _ _ _ l (c.in-Ok.ensures.appends 10001 l.waiting tells l.plain l.ends) c.in-Ok.ensures.kind.0 c.in-Ok.ensures.place.0 (c.in-Ok.ensures.before tells) (c.in-Ok.ensures.behind tells)
