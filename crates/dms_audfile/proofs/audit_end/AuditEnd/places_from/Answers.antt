use Rattle.std.proofs.Common.{◌≡◌, ◌+◌, ◌-◌, ◌∙◌, ap, subst, refl, arith}
use Rattle.dms_site.specs.Files.{Files}
use Rattle.dms_audfile.specs.Counting.{not_counted}
use Rattle.dms_audfile.specs.Gathering.{known_of, nothing_seen, gather}
use Rattle.dms_audfile.specs.Reads.{NotRead}
use Rattle.dms_audfile.specs.Scanning.{blocks_read, files_read}
use Rattle.dms_audfile.specs.declared.fault.AudFault.TheVariants.{Disk}
use Rattle.dms_audfile.proofs.Reading.{reads_on}
use Rattle.dms_audfile.proofs.Spans.{counted_as, no_error}
use Rattle.dms_audfile.proofs.Tailed.{sealed_few, tail_places, first_refused, rest_refused}
use Rattle.dms_audfile.proofs.audit_end.AuditEnd.places_from.Goals as goal

pub read_blocks-requires-clause-few : goal.read_blocks-requires-clause-few
read_blocks-requires-clause-few g c =
    let end = c.args.self.now in
    omega (arith, c.sealed_in-count.ensures, sealed_few end.total end.file end.count c.args.file (omega (arith, end.room)), end.gates)

pub returns-in-Err-read_blocks-clause-refused : goal.returns-in-Err-read_blocks-clause-refused
returns-in-Err-read_blocks-clause-refused g c tells =
    let file = g.S.Site.files c.args.site.now c.args.file in
    first_refused nothing_seen _ _ c.in-Err-read_blocks.fault
    (subst (λ k. NotRead (blocks_read (k + 1 - c.args.block) c.args.block c.args.file file) c.in-Err-read_blocks.fault) c.sealed_in-count.ensures (c.in-Err-read_blocks.ensures.read tells))

pub returns-in-Err-read_blocks-clause-disk : goal.returns-in-Err-read_blocks-clause-disk
returns-in-Err-read_blocks-clause-disk g c = counted_as _ _ c.in-Err-read_blocks.fault Disk _ _ _ refl refl refl c.in-Err-read_blocks.ensures.disk

pub returns-in-Ok-read_files-clause-read : goal.returns-in-Ok-read_files-clause-read
returns-in-Ok-read_files-clause-read g c tells =
    let end = c.args.self.now in
    let files = g.S.Site.files c.args.site.now in
    let count : end.file + 1 - (c.args.file + 1) ≡ end.file - c.args.file = omega arith in
    let stay = c.in-Ok-read_blocks.ensures.reads.files_stay tells in
    tail_places (known_of c.new-known.result) (known_of c.read_blocks.new.known) (known_of c.read_files.new.known) _ _ c.new-known.ensures
    (c.in-Ok-read_blocks.ensures.read tells ∙ ap (λ k. gather (known_of c.new-known.result) (blocks_read (k + 1 - c.args.block) c.args.block c.args.file (files c.args.file))) c.sealed_in-count.ensures)
    (c.in-Ok-read_files.ensures.read tells ∙ (λ i. gather (known_of c.read_blocks.new.known) (files_read (count i) end.total (c.args.file + 1) (stay i))))

pub returns-in-Ok-read_files-clause-reads : goal.returns-in-Ok-read_files-clause-reads
returns-in-Ok-read_files-clause-reads g c = reads_on g.S.Site.tells c.in-Ok-read_blocks.ensures.reads c.read_files.ensures.reads

pub returns-in-Ok-read_files-clause-disk : goal.returns-in-Ok-read_files-clause-disk
returns-in-Ok-read_files-clause-disk g c =
    not_counted _ _ _ (no_error _ Disk) (c.in-Ok-read_files.ensures.disk.clean (no_error c.in-Ok-read_files.field-0 Disk) ∙ c.in-Ok-read_blocks.ensures.disk.clean (no_error c.in-Ok-read_blocks.field-0 Disk))

pub returns-clause-refused : goal.returns-clause-refused
returns-clause-refused g c tells =
    let end = c.args.self.now in
    let files = g.S.Site.files c.args.site.now in
    let count : end.file + 1 - (c.args.file + 1) ≡ end.file - c.args.file = omega arith in
    let stay = c.in-Ok-read_blocks.ensures.reads.files_stay tells in
    rest_refused (known_of c.new-known.result) (known_of c.read_blocks.new.known) _ (files_read (end.file - c.args.file) end.total (c.args.file + 1) files) c.in-Err-read_files.fault
    (c.in-Ok-read_blocks.ensures.read tells ∙ ap (λ k. gather (known_of c.new-known.result) (blocks_read (k + 1 - c.args.block) c.args.block c.args.file (files c.args.file))) c.sealed_in-count.ensures)
    (subst (λ (l : Files). NotRead (files_read (end.file - c.args.file) end.total (c.args.file + 1) l) c.in-Err-read_files.fault) stay
    (subst (λ k. NotRead (files_read k end.total (c.args.file + 1) (g.S.Site.files c.read_blocks.new.site)) c.in-Err-read_files.fault) count (c.in-Err-read_files.ensures.read tells)))

pub returns-clause-reads : goal.returns-clause-reads
returns-clause-reads g c = reads_on g.S.Site.tells c.in-Ok-read_blocks.ensures.reads c.read_files.ensures.reads

pub returns-clause-disk : goal.returns-clause-disk
returns-clause-disk g c = counted_as _ _ c.in-Err-read_files.fault Disk _ _ _ refl refl (c.in-Ok-read_blocks.ensures.disk.clean (no_error c.in-Ok-read_blocks.field-0 Disk)) c.in-Err-read_files.ensures.disk
