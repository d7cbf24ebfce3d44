use Rattle.std.proofs.Common.{rules, MutBor, inl, inr, sym, subst}
use Rattle.dms_goback.specs.ReconstructDoes.{ReconstructDoes}
use Rattle.dms_utility.proofs.command.reconstruct_command.Goals as goal

pub returns-clause-does : goal.returns-clause-does
returns-clause-does g c =
    let ended = c.reconstruct_over-ended in
    let one = ended.ensures.does in
    let d = c.args.dump in
    let rows = c.args.rows.now in
    let old = c.args.site.now in
    let status = ended.result.status in
    subst (λ (x : g.row.S.Denot). ReconstructDoes g.S.Site d rows old x status) (search rules)
    (subst (λ (x : MutBor g.row.S.Denot). ReconstructDoes g.S.Site d rows old x.now status) (sym c.into_site-site.ensures) (record {
      statuses = one.statuses;
      refused = λ tells is. let r = one.refused tells is in record { fault = r.fault; is = r.is; why = r.why; files = r.files; moments = r.moments };
      opens = λ tells. elim (one.opens tells) [ inl may ↦ inl may | inr r ↦ inr (record { unmade = r.unmade; files = r.files; moments = r.moments }) ];
      complete = one.complete;
      full = one.full;
      trail = λ tells. let k = one.trail tells in record { kept = k.kept; left = k.left; few = k.few };
      beside = λ s has. let these = one.beside s has in record { read = these.read; left = these.left };
      says = record { point = one.says.point; line = one.says.line; is = one.says.is };
      every_moment = one.every_moment;
      at_ok = one.at_ok;
    }))
