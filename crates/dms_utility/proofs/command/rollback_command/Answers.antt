use Rattle.std.proofs.Common.{rules, MutBor, inl, inr, sym, subst}
use Rattle.dms_goback.specs.RollbackDoes.{RollbackDoes}
use Rattle.dms_utility.proofs.command.rollback_command.Goals as goal

pub returns-clause-does : goal.returns-clause-does
returns-clause-does g c =
    let ended = c.rollback_over-ended in
    let one = ended.ensures.does in
    let n = c.args.point in
    let old = c.args.site.now in
    let status = ended.result.status in
    subst (λ (x : g.row.S.Denot). RollbackDoes g.S.Site n old x status) (search rules)
    (subst (λ (x : MutBor g.row.S.Denot). RollbackDoes g.S.Site n old x.now status) (sym c.into_site-site.ensures) (record {
      statuses = one.statuses;
      refused = λ tells is. let r = one.refused tells is in record { fault = r.fault; is = r.is; why = r.why; files = r.files; moments = r.moments };
      opens = λ tells. elim (one.opens tells) [ inl may ↦ inl may | inr r ↦ inr (record { unmade = r.unmade; files = r.files; moments = r.moments }) ];
      complete = one.complete;
      full = one.full;
      trail = λ tells. let k = one.trail tells in record { kept = k.kept; left = k.left; few = k.few };
      beside = λ s has. let these = one.beside s has in record { read = these.read; left = these.left };
      says = one.says;
      every_moment = one.every_moment;
      at_ok = one.at_ok;
    }))
