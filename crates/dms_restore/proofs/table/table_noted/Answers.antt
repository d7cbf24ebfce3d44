use Rattle.std.proofs.Common.{ℕ, ◌≡◌, Vec, Global}
use Rattle.dms_site.specs.Files.{Files}
use Rattle.dms_restore.specs.declared.told.Told.{Told}
use Rattle.dms_restore.specs.LiveEntries.{AllStandWhole}
use Rattle.dms_restore.specs.Named.{noted_all, told_noted}
use Rattle.dms_restore.specs.Table.{AreWhole, last_of}
use Rattle.dms_restore.proofs.Results.{found_some}
use Rattle.dms_restore.proofs.table.table_noted.Goals as goal

pub returns-in-Ok-Some-clause-whole : goal.returns-in-Ok-Some-clause-whole
returns-in-Ok-Some-clause-whole c files front behind =
    found_some (λ (v : Vec Told Global). (files : Files) → AllStandWhole files c.args.front.now → AreWhole files v.items) c.in-Ok-Some.field-0 c.in-Ok-Some.table c.in-Ok-Some.field-0-is c.in-Ok-Some.ensures.whole files front

pub returns-in-Ok-Some-clause-tells : goal.returns-in-Ok-Some-clause-tells
returns-in-Ok-Some-clause-tells c files whole f b =
    let a = c.args in
    found_some (λ (v : Vec Told Global). (files : Files) → AreWhole files v.items → (of_rows f b : ℕ) → last_of files f b v.items ≡ told_noted (noted_all files a.rows.now of_rows a.of_others a.front.now a.behind.now f b))
    c.in-Ok-Some.field-0 c.in-Ok-Some.table c.in-Ok-Some.field-0-is c.in-Ok-Some.ensures.tells files whole a.of_rows f b
