use Rattle.std.proofs.Common.{rules, MutBor, refl, sym, subst}
use Rattle.dms_runtop.specs.RunDoes.{RunDoes}
use Rattle.dms_runtop.proofs.Does.{does_of}
use Rattle.dms_runtop.proofs.Opening.{opens_below, short_below}
use Rattle.dms_runtop.proofs.command.run_command.Goals as goal

pub returns-clause-does : goal.returns-clause-does
returns-clause-does g c =
    let ended = c.run_guarded-ended in
    let one = ended.ensures in
    let old = c.args.site.now in
    let new = ended.result.site.now in
    let from = c.args.source.now in
    let to = ended.new.source in
    let status = ended.result.status in
    subst (λ (x : g.row.S.Denot). RunDoes g.S.Site g.I.Source g.state old x from to status) (search rules)
    (subst (λ (x : MutBor g.row.S.Denot). RunDoes g.S.Site g.I.Source g.state old x.now from to status) (sym c.into_site-site.ensures)
    (does_of g.S.Site g.I.Source old new from to status g.state c.held_law.ensures.state c.stands_law.ensures.stops c.stands_law.ensures.ends c.requires.1.1 one.statuses
    (record {
      opens = λ tells. opens_below g.S.Site old new refl refl (λ s. s) status (one.opens.opens tells);
      refused = λ refusal tells. let r = one.opens.refused refusal tells in record { refusal = r.refusal; is = r.is; why = r.why; files = r.files; moments = r.moments };
      untaken = one.opens.untaken;
      short = λ f b is high tells. short_below g.S.Site old new refl refl (λ s. s) status (one.opens.short f b is high tells);
      complete = one.opens.complete;
      complete_state = one.opens.complete_state;
    })
    (λ tells s is next has all held. let r = one.ran tells s is next has all held in record { total = r.total; first = r.first; trail = r.trail; runs = r.runs })
    (λ tells s is. let k = one.trail tells s is in record { kept = k.kept; left = k.left }) one.takes.blames one.full (λ s has. let b = one.beside s has in record { read = b.read; left = b.left })))
