use Rattle.std.proofs.Common.{◌∙◌, ap, refl, arith}
use Rattle.dms_site.specs.Files.{Files}
use Rattle.dms_site.specs.Laws.{with_file_other}
use Rattle.dms_memcalls.specs.Folders.{AlikeFolders}
use Rattle.dms_memcalls.specs.Views.{view}
use Rattle.dms_memcalls.proofs.Grown.{any_err}
use Rattle.dms_memcalls.proofs.disk.MemDisk.make.Goals as goal

pub returns-in_err-set-clause-same : goal.returns-in_err-set-clause-same
returns-in_err-set-clause-same c =
    let same : AlikeFolders (view (record { names = c.set.new.self; files = c.args.self.now.files; count = c.args.self.now.count })) (view c.args.self.now) =
    record { count = refl; names = λ k low. ap (λ (f : Files). f k) c.in_err-set.ensures.same; bytes = refl; said = refl } in
    any_err _ same

pub returns-in_err-set-2-clause-same : goal.returns-in_err-set-2-clause-same
returns-in_err-set-2-clause-same c =
    let same : AlikeFolders (view (record { names = c.set.new.self; files = c.set-2.new.self; count = c.args.self.now.count })) (view c.args.self.now) =
    record {
      count = refl;
      names = λ k low. ap (λ (f : Files). f k) c.in_ok-set.ensures.set ∙ with_file_other _ c.args.self.now.count _ k (λ e. omega (arith, e, low));
      bytes = c.in_err-set-2.ensures.same;
      said = c.set-2.ensures.said;
    } in
    any_err _ same
