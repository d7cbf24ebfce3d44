use Rattle.std.proofs.Common.{rules, ap, sym, subst, refl, Some, List, ℕ}
use Rattle.dms_loadrun.specs.Description.{load_description}
use Rattle.dms_loadrun.specs.Filling.{Fills}
use Rattle.dms_loadrun.proofs.Filled.{fills_by, told_new}
use Rattle.dms_status.specs.declared.status.Status.{Status}
use Rattle.dms_loadrun.proofs.filling.fill_by.Goals as goal

pub returns-clause-fills : goal.returns-clause-fills
returns-clause-fills g c =
    let f = fills_by c.run_command-status.ensures.does refl c.args.seed c.args.n c.requires.new (ap (λ (l : List ℕ). Some l) c.new-source.ensures.left) in
    subst (λ (s : Status). Fills g.S.Site load_description c.args.seed c.args.n c.args.site c.run_command-status.new.site.site s) (sym c.status_of_filling.ensures) (record { stands = f.stands; ends = f.ends; beside = λ s has. let these = f.beside s has in record { read = these.read; left = these.left }; found = f.found; full = f.full })

pub run_command-status-requires : goal.run_command-status-requires
run_command-status-requires g c κs within = (search rules, (search rules, λ tells. told_new _ (c.requires.new tells)))
