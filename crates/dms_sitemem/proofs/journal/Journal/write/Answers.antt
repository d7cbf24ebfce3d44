use Rattle.std.proofs.Common.{◌≡◌, refl, subst, sym, length, rules}
use Rattle.dms_site.specs.Files.{Files, InFile, Torn}
use Rattle.dms_site.specs.Laws.{in_file_same, torn_refl}
use Rattle.dms_sitemem.specs.Slots.{files_of}
use Rattle.dms_sitemem.proofs.Kept.{write_torn, write_steps}
use Rattle.dms_sitemem.proofs.journal.Journal.write.Goals as goal

pub returns-in_err-keep-clause-torn : goal.returns-in_err-keep-clause-torn
returns-in_err-keep-clause-torn c =
    let old = files_of c.args.self.now.image.files in
    subst (λ (l : Files). InFile c.args.file (Torn c.args.at (length c.args.bytes.now)) old l) (sym c.in_err-keep.ensures.same_files) (in_file_same c.args.file _ old (torn_refl c.args.at _ (old c.args.file)))

pub returns-clause-torn : goal.returns-clause-torn
returns-clause-torn c =
    let same : c.in_ok-kept.kept.items ≡ c.args.bytes.now = search rules in
    write_torn _ _ _ c.in_ok-kept.kept _ _ _ same c.in_ok-keep.ensures.files

pub returns-clause-moments : goal.returns-clause-moments
returns-clause-moments c =
    let same : c.in_ok-kept.kept.items ≡ c.args.bytes.now = search rules in
    write_steps _ _ _ _ c.in_ok-kept.kept _ _ same c.in_ok-keep.ensures.kept

pub returns-clause-kept : goal.returns-clause-kept
returns-clause-kept c =
    let same : c.in_ok-kept.kept.items ≡ c.args.bytes.now = search rules in
    (_, (c.in_ok-kept.kept, same, refl), c.in_ok-keep.ensures.kept)
