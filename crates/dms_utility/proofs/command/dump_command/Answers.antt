use Rattle.std.proofs.Common.{rules, MutBor, inl, inr, sym, subst}
use Rattle.dms_dumping.specs.DumpDoes.{DumpDoes}
use Rattle.dms_utility.proofs.command.dump_command.Goals as goal

pub returns-clause-does : goal.returns-clause-does
returns-clause-does g c =
    let ended = c.dump_over-ended in
    let one = ended.ensures.does in
    let d = c.args.dump in
    let old = c.args.site.now in
    let status = ended.result.status in
    subst (λ (x : g.row.S.Denot). DumpDoes g.S.Site d old x status) (search rules)
    (subst (λ (x : MutBor g.row.S.Denot). DumpDoes g.S.Site d old x.now status) (sym c.into_site-site.ensures) (record {
      statuses = one.statuses;
      refused = λ is tells. let r = one.refused is tells in record { refusal = r.refusal; is = r.is; why = r.why; files = r.files; moments = r.moments };
      opens = λ tells. elim (one.opens tells) [ inl may ↦ inl may | inr r ↦ inr (record { unmade = r.unmade; files = r.files; moments = r.moments }) ];
      complete = one.complete;
      full = one.full;
      trail = λ tells s is. let k = one.trail tells s is in record { kept = k.kept; left = k.left; few = k.few };
      beside = λ s has. let these = one.beside s has in record { read = these.read; left = these.left };
      says = record { point = one.says.point; line = one.says.line; is = one.says.is };
      every_moment = one.every_moment;
      dump = one.dump;
      at_ok = one.at_ok;
    }))
