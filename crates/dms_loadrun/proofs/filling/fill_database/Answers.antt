use Rattle.std.proofs.Common.{rules, MutBor, sym, subst}
use Rattle.dms_loadrun.specs.Description.{load_description}
use Rattle.dms_loadrun.specs.Filling.{Fills}
use Rattle.dms_loadrun.proofs.filling.fill_database.Goals as goal

pub returns-clause-fills : goal.returns-clause-fills
returns-clause-fills g c =
    let f = c.fill_by-ended.ensures.fills in
    let old = c.args.site.now in
    let status = c.fill_by-ended.result.status in
    subst (λ (x : g.row.S.Denot). Fills g.S.Site load_description c.args.seed c.args.n old x status) (search rules)
    (subst (λ (x : MutBor g.row.S.Denot). Fills g.S.Site load_description c.args.seed c.args.n old x.now status) (sym c.into_site-site.ensures) (record { stands = f.stands; ends = f.ends; beside = λ s has. let these = f.beside s has in record { read = these.read; left = these.left }; found = f.found; full = f.full }))
