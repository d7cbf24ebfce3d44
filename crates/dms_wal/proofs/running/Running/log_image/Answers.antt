use Rattle.dms_wal.proofs.Lifts.{told_same}
use Rattle.std.proofs.Common.{ℕ, IsTrue, List, Option, refl, sym, ◌∙◌, subst}
use Rattle.std.specs.Option.{option_copied}
use Rattle.std.proofs.Common.{inl}
use Rattle.dms_history.specs.Replay.{TellsBefore}
use Rattle.dms_restore.specs.GrowLaws.{log_grows_on}
use Rattle.dms_restore.specs.Logging.{content}
use Rattle.dms_restore.specs.Views.{view_of}
use Rattle.dms_wal.proofs.Causes.{disk_not_full, disk_or_full, full_left}
use Rattle.dms_wal.proofs.Synced.{kind_is}
use Rattle.dms_wal.proofs.Kept.{alters_made, alters_failed, block_image, counted_more, imaged, usable_changed, with_same, then_left}
use Rattle.dms_wal.proofs.Imaging.{images_image, images_raised}
use Rattle.dms_history.proofs.Picks.{tells_le}
use Rattle.dms_wal.proofs.Roomed.{then_silent}
use Rattle.dms_wal.proofs.Tabled.{raised_there}
use Rattle.dms_wal.proofs.Grown.{kept_append}
use Rattle.dms_wal.proofs.Logged.{logs_image}
use Rattle.dms_wal.proofs.running.Running.log_image.Goals as goal

pub returns-in-Err-clause-alters : goal.returns-in-Err-clause-alters
returns-in-Err-clause-alters g c =
    let m = g.met.S.Site in
    alters_failed g.S.Site m.may_stay m.now_said m.counts_now c.args.self.now c.requires.sound c.image.new.self (kind_is c.image.ensures.kind.0 c.image.ensures.kind.3) c.image.ensures.said c.image.ensures.moments c.image.ensures.silent
    c.append_fault.result (disk_or_full _ _ _ _ c.append_fault.ensures) c.args.self.now.pool _ c.args.self.now.counts c.args.self.now.imaged refl

pub keep-requires-clause-changed : goal.keep-requires-clause-changed
keep-requires-clause-changed g c t =
    imaged (view_of g.S.Site c.args.self.now.log) (view_of g.S.Site c.image.new.self) c.args.self.now.pool c.args.change.now.id.file c.args.change.now.id.block (option_copied c.bytes_of.result) c.args.change.now.block.0 (kind_is c.image.ensures.kind.0 c.image.ensures.kind.3) (c.in-Ok.ensures.runs t) (c.requires.sound.goes t).holds
    (subst (λ (o : Option (List ℕ)). TellsBefore c.args.change.now.id.block o (content (view_of g.S.Site c.args.self.now.log) c.args.change.now.id.file)) (sym c.bytes_of.ensures.bytes) (c.requires.before t)) (c.in-Ok.ensures.logs t)

pub returns-in-Ok-keep-clause-content : goal.returns-in-Ok-keep-clause-content
returns-in-Ok-keep-clause-content g c t = (c.in-Ok-keep.ensures.kept t).content_same ∙ (c.in-Ok.ensures.logs t).content_is ∙ sym (with_same _ _ _ _)

pub returns-in-Ok-keep-clause-alters : goal.returns-in-Ok-keep-clause-alters
returns-in-Ok-keep-clause-alters g c =
    let m = g.met.S.Site in
    let r = c.args.self.now in
    let u = c.requires.sound in
    let kind = kind_is c.image.ensures.kind.0 c.image.ensures.kind.3 in
    let id = c.args.change.now.id in
    let told = λ (t : IsTrue g.S.Site.tells). subst (λ (o : Option (List ℕ)). TellsBefore id.block o (content (view_of g.S.Site r.log) id.file)) (sym c.bytes_of.ensures.bytes) (c.requires.before t) in
    let block = λ (t : IsTrue g.S.Site.tells). block_image (view_of g.S.Site r.log) (view_of g.S.Site c.image.new.self) id.file id.block (option_copied c.bytes_of.result) c.args.change.now.block.0 (c.in-Ok.ensures.logs t) in
    alters_made g.S.Site m.may_stay m.now_said m.counts_now r u c.keep.new.log (told_same c.keep.ensures.passes.kind ∙ kind) (c.keep.ensures.passes.said ∙ c.image.ensures.said)
    (then_left g.S.Site m.may_stay m.counts_now r u c.image.new.self c.keep.new.log id.file id.block c.args.change.now.block.0 kind block c.image.ensures.moments c.keep.ensures.passes.moments)
    (λ t. then_silent (c.image.ensures.silent t) (c.keep.ensures.passes.silent t)) c.keep.new.pool _ c.add.new.self c.raise.ensures.files
    (usable_changed g.S.Site r u id c.args.change.now.block c.requires.owned c.requires.low (λ t. tells_le id.block (option_copied c.bytes_of.result) (content (view_of g.S.Site r.log) id.file) (told t)) c.image.new.self c.keep.new.log c.keep.new.pool _ c.add.new.self block
    c.in-Ok-keep.ensures.kept c.raise.ensures.raised c.raise.ensures.files
    (c.keep.ensures.counted _ (counted_more r.pool r.counts.items _ id.file id.block u.counted c.raise.ensures.raised) (raised_there r.counts.items _ id.file id.block c.raise.ensures.raised))
    (λ t. images_image (view_of g.S.Site r.log) (view_of g.S.Site c.image.new.self) r.imaged c.add.new.self id.file id.block (option_copied c.bytes_of.result) c.args.change.now.block.0 (c.in-Ok.ensures.logs t).entries_are c.add.ensures.added (u.imaged t))
    (images_raised r.imaged c.add.new.self r.counts.items _ id.file id.block c.add.ensures.added c.raise.ensures.raised u.images_counted))
    (λ t. (c.in-Ok-keep.ensures.kept t).points_same ∙ (c.in-Ok.ensures.logs t).points_same)

pub returns-in-Err-keep-clause-alters : goal.returns-in-Err-keep-clause-alters
returns-in-Err-keep-clause-alters g c =
    let m = g.met.S.Site in
    let r = c.args.self.now in
    let u = c.requires.sound in
    let kind = kind_is c.image.ensures.kind.0 c.image.ensures.kind.3 in
    let id = c.args.change.now.id in
    let block = λ (t : IsTrue g.S.Site.tells). block_image (view_of g.S.Site r.log) (view_of g.S.Site c.image.new.self) id.file id.block (option_copied c.bytes_of.result) c.args.change.now.block.0 (c.in-Ok.ensures.logs t) in
    alters_failed g.S.Site m.may_stay m.now_said m.counts_now r u c.keep.new.log (told_same c.keep.ensures.passes.kind ∙ kind) (c.keep.ensures.passes.said ∙ c.image.ensures.said)
    (then_left g.S.Site m.may_stay m.counts_now r u c.image.new.self c.keep.new.log id.file id.block c.args.change.now.block.0 kind block c.image.ensures.moments c.keep.ensures.passes.moments)
    (λ t. then_silent (c.image.ensures.silent t) (c.keep.ensures.passes.silent t)) c.in-Err-keep.fault (inl c.in-Err-keep.ensures.only) c.keep.new.pool _ _ c.add.new.self c.raise.ensures.files

pub returns-in-Err-clause-full : goal.returns-in-Err-clause-full
returns-in-Err-clause-full g c n is = full_left c.in-Err.fault c.append_fault.result _ _ n c.args.self.now.log.end c.image.new.self.end c.in-Err.ensures.only c.append_fault.ensures c.image.ensures.kind.2 c.in-Err.ensures.full is

pub returns-in-Err-keep-clause-full : goal.returns-in-Err-keep-clause-full
returns-in-Err-keep-clause-full g c n is = absurd (disk_not_full c.in-Err-keep.fault n c.in-Err-keep.ensures.only is)

pub returns-in-Ok-keep-clause-logs : goal.returns-in-Ok-keep-clause-logs
returns-in-Ok-keep-clause-logs g c t =
    logs_image (view_of g.S.Site c.args.self.now.log) (view_of g.S.Site c.keep.new.log) c.args.change.now (option_copied c.bytes_of.result) (c.requires.differs t) (sym ((c.requires.sound.imaged t).has_them c.args.change.now.id.file c.args.change.now.id.block) ∙ c.requires.first t)
    (subst (λ (o : Option (List ℕ)). TellsBefore c.args.change.now.id.block o (content (view_of g.S.Site c.args.self.now.log) c.args.change.now.id.file)) (sym c.bytes_of.ensures.bytes) (c.requires.before t))
    ((c.in-Ok-keep.ensures.kept t).entries_same ∙ (c.in-Ok.ensures.logs t).entries_are)

pub returns-in-Err-clause-kept : goal.returns-in-Err-clause-kept
returns-in-Err-clause-kept g c off t = kept_append c.in-Err.fault c.append_fault.result _ _ _ c.in-Err.ensures.only c.append_fault.ensures (λ full. (c.in-Err.ensures.kept full t).entries_same) off

pub returns-in-Err-keep-clause-kept : goal.returns-in-Err-keep-clause-kept
returns-in-Err-keep-clause-kept g c off = absurd (off c.in-Err-keep.ensures.only)

pub returns-in-Ok-keep-clause-grown : goal.returns-in-Ok-keep-clause-grown
returns-in-Ok-keep-clause-grown g c = λ t. log_grows_on (view_of g.S.Site c.args.self.now.log) (view_of g.S.Site c.image.new.self) (view_of g.S.Site c.keep.new.log) c.image.ensures.kind.0 c.image.ensures.kind.3 1 0 ((block_image _ _ _ _ _ _ (c.in-Ok.ensures.logs t)).few) (c.image.ensures.grown t) (c.keep.ensures.passes.grown t)

pub returns-in-Err-keep-clause-grown : goal.returns-in-Err-keep-clause-grown
returns-in-Err-keep-clause-grown g c = λ t. log_grows_on (view_of g.S.Site c.args.self.now.log) (view_of g.S.Site c.image.new.self) (view_of g.S.Site c.keep.new.log) c.image.ensures.kind.0 c.image.ensures.kind.3 1 0 ((block_image _ _ _ _ _ _ (c.in-Ok.ensures.logs t)).few) (c.image.ensures.grown t) (c.keep.ensures.passes.grown t)
