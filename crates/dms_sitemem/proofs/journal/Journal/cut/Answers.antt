use Rattle.std.proofs.Common.{subst, sym, inl, refl}
use Rattle.dms_site.specs.Files.{Files, InFile, Cut}
use Rattle.dms_site.specs.Laws.{in_file_same}
use Rattle.dms_sitemem.specs.Slots.{files_of}
use Rattle.dms_sitemem.specs.Replay.{state_of}
use Rattle.dms_sitemem.specs.Honest.{cut_leads}
use Rattle.dms_sitemem.proofs.Kept.{more_steps, cut_torn}
use Rattle.dms_sitemem.proofs.journal.Journal.cut.Goals as goal

pub returns-in_err-keep-clause-torn : goal.returns-in_err-keep-clause-torn
returns-in_err-keep-clause-torn c =
    let old = files_of c.args.self.now.image.files in
    subst (λ (l : Files). InFile c.args.file (Cut c.args.len) old l) (sym c.in_err-keep.ensures.same_files) (in_file_same c.args.file _ old (inl refl))

pub returns-clause-torn : goal.returns-clause-torn
returns-clause-torn c = cut_torn _ _ _ _ _ c.in_ok-keep.ensures.files

pub returns-clause-moments : goal.returns-clause-moments
returns-clause-moments c = more_steps _ _ _ _ c.in_ok-keep.ensures.kept (cut_leads (state_of c.args.self.now.events.items) _ _ c.succeeds-done.result)
