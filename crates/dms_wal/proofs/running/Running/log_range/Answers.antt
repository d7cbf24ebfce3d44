use Rattle.dms_wal.proofs.Lifts.{told_same}
use Rattle.std.proofs.Common.{IsTrue, refl, sym, ◌∙◌, inl, arith}
use Rattle.dms_restore.specs.Counts.{count_of}
use Rattle.dms_restore.specs.GrowLaws.{log_grows_on}
use Rattle.dms_restore.specs.Logging.{content}
use Rattle.dms_restore.specs.Views.{view_of}
use Rattle.dms_wal.proofs.Causes.{disk_not_full, disk_or_full, full_left}
use Rattle.dms_wal.proofs.Synced.{kind_is}
use Rattle.dms_wal.proofs.Kept.{alters_made, alters_failed, block_range, range_few, ranged, usable_changed, with_same, then_left}
use Rattle.dms_wal.proofs.Imaging.{images_range}
use Rattle.dms_wal.proofs.Roomed.{then_silent}
use Rattle.dms_wal.proofs.Grown.{kept_append}
use Rattle.dms_wal.proofs.Logged.{logs_range}
use Rattle.dms_wal.proofs.Spanned.{differs_spanned, patched_told, raise_same, spans_told}
use Rattle.dms_wal.proofs.running.Running.log_range.Goals as goal

pub returns-in-Err-clause-alters : goal.returns-in-Err-clause-alters
returns-in-Err-clause-alters g c =
    let m = g.met.S.Site in
    alters_failed g.S.Site m.may_stay m.now_said m.counts_now c.args.self.now c.requires.sound c.range.new.self (kind_is c.range.ensures.kind.0 c.range.ensures.kind.3) c.range.ensures.said c.range.ensures.moments c.range.ensures.silent
    c.append_fault.result (disk_or_full _ _ _ _ c.append_fault.ensures) c.args.self.now.pool _ c.args.self.now.counts c.args.self.now.imaged refl

pub range-requires-clause-imaged : goal.range-requires-clause-imaged
range-requires-clause-imaged g c t = sym ((c.requires.sound.imaged t).has_them c.args.change.now.id.file c.args.change.now.id.block) ∙ c.requires.again

pub range-requires-clause-fits : goal.range-requires-clause-fits
range-requires-clause-fits g c = (c.requires.spans.some, c.requires.within)

pub keep-requires-clause-changed : goal.keep-requires-clause-changed
keep-requires-clause-changed g c t =
    let id = c.args.change.now.id in
    let v = view_of g.S.Site c.args.self.now.log in
    ranged v (view_of g.S.Site c.range.new.self) c.args.self.now.pool id.file id.block c.args.place c.args.bytes.now c.args.change.now.block.0 (kind_is c.range.ensures.kind.0 c.range.ensures.kind.3) (c.in-Ok.ensures.runs t) (c.requires.sound.goes t).holds
    (sym ((c.requires.sound.imaged t).has_them id.file id.block) ∙ c.requires.again) (c.requires.before t).0 (patched_told (content v) id.file id.block c.args.old.now.0 c.args.change.now.block.0 c.args.place c.args.bytes.now c.requires.long (c.requires.before t).1 c.requires.spans) (c.in-Ok.ensures.logs t)

pub returns-in-Ok-keep-clause-counts : goal.returns-in-Ok-keep-clause-counts
returns-in-Ok-keep-clause-counts g c = sym (raise_same _ c.args.change.now.id.file c.args.change.now.id.block c.requires.there)

pub returns-in-Ok-keep-clause-content : goal.returns-in-Ok-keep-clause-content
returns-in-Ok-keep-clause-content g c t =
    let id = c.args.change.now.id in
    let v = view_of g.S.Site c.args.self.now.log in
    let block = block_range v (view_of g.S.Site c.range.new.self) id.file id.block c.args.place c.args.bytes.now c.args.change.now.block.0
    (patched_told (content v) id.file id.block c.args.old.now.0 c.args.change.now.block.0 c.args.place c.args.bytes.now c.requires.long (c.requires.before t).1 c.requires.spans) (c.in-Ok.ensures.logs t) in
    (c.in-Ok-keep.ensures.kept t).content_same ∙ block.content_is ∙ sym (with_same _ _ _ _)

pub returns-in-Ok-keep-clause-alters : goal.returns-in-Ok-keep-clause-alters
returns-in-Ok-keep-clause-alters g c =
    let m = g.met.S.Site in
    let r = c.args.self.now in
    let u = c.requires.sound in
    let kind = kind_is c.range.ensures.kind.0 c.range.ensures.kind.3 in
    let id = c.args.change.now.id in
    let v = view_of g.S.Site r.log in
    let block = λ (t : IsTrue g.S.Site.tells). block_range v (view_of g.S.Site c.range.new.self) id.file id.block c.args.place c.args.bytes.now c.args.change.now.block.0
    (patched_told (content v) id.file id.block c.args.old.now.0 c.args.change.now.block.0 c.args.place c.args.bytes.now c.requires.long (c.requires.before t).1 c.requires.spans) (c.in-Ok.ensures.logs t) in
    let raised = sym (raise_same (count_of r.counts.items) id.file id.block c.requires.there) in
    alters_made g.S.Site m.may_stay m.now_said m.counts_now r u c.keep.new.log (told_same c.keep.ensures.passes.kind ∙ kind) (c.keep.ensures.passes.said ∙ c.range.ensures.said)
    (then_left g.S.Site m.may_stay m.counts_now r u c.range.new.self c.keep.new.log id.file id.block c.args.change.now.block.0 kind block c.range.ensures.moments c.keep.ensures.passes.moments)
    (λ t. then_silent (c.range.ensures.silent t) (c.keep.ensures.passes.silent t)) c.keep.new.pool r.counts r.imaged refl
    (usable_changed g.S.Site r u id c.args.change.now.block c.requires.owned c.requires.low (λ t. omega (arith, (c.requires.before t).0)) c.range.new.self c.keep.new.log c.keep.new.pool r.counts r.imaged block
    c.in-Ok-keep.ensures.kept raised refl (c.keep.ensures.counted r.counts.items u.counted c.requires.there)
    (λ t. images_range v (view_of g.S.Site c.range.new.self) r.imaged id.file id.block c.args.place c.args.bytes.now (c.in-Ok.ensures.logs t).entries_are (u.imaged t)) u.images_counted)
    (λ t. (c.in-Ok-keep.ensures.kept t).points_same ∙ (c.in-Ok.ensures.logs t).points_same)

pub returns-in-Err-keep-clause-alters : goal.returns-in-Err-keep-clause-alters
returns-in-Err-keep-clause-alters g c =
    let m = g.met.S.Site in
    let r = c.args.self.now in
    let u = c.requires.sound in
    let kind = kind_is c.range.ensures.kind.0 c.range.ensures.kind.3 in
    let id = c.args.change.now.id in
    let v = view_of g.S.Site r.log in
    let block = λ (t : IsTrue g.S.Site.tells). block_range v (view_of g.S.Site c.range.new.self) id.file id.block c.args.place c.args.bytes.now c.args.change.now.block.0
    (patched_told (content v) id.file id.block c.args.old.now.0 c.args.change.now.block.0 c.args.place c.args.bytes.now c.requires.long (c.requires.before t).1 c.requires.spans) (c.in-Ok.ensures.logs t) in
    alters_failed g.S.Site m.may_stay m.now_said m.counts_now r u c.keep.new.log (told_same c.keep.ensures.passes.kind ∙ kind) (c.keep.ensures.passes.said ∙ c.range.ensures.said)
    (then_left g.S.Site m.may_stay m.counts_now r u c.range.new.self c.keep.new.log id.file id.block c.args.change.now.block.0 kind block c.range.ensures.moments c.keep.ensures.passes.moments)
    (λ t. then_silent (c.range.ensures.silent t) (c.keep.ensures.passes.silent t)) c.in-Err-keep.fault (inl c.in-Err-keep.ensures.only) c.keep.new.pool _ r.counts r.imaged refl

pub returns-in-Err-clause-full : goal.returns-in-Err-clause-full
returns-in-Err-clause-full g c n is = full_left c.in-Err.fault c.append_fault.result _ _ n c.args.self.now.log.end c.range.new.self.end c.in-Err.ensures.only c.append_fault.ensures c.range.ensures.kind.2 c.in-Err.ensures.full is

pub returns-in-Err-keep-clause-full : goal.returns-in-Err-keep-clause-full
returns-in-Err-keep-clause-full g c n is = absurd (disk_not_full c.in-Err-keep.fault n c.in-Err-keep.ensures.only is)

pub returns-in-Ok-keep-clause-logs : goal.returns-in-Ok-keep-clause-logs
returns-in-Ok-keep-clause-logs g c t =
    let x = c.args.change.now in
    let v = view_of g.S.Site c.args.self.now.log in
    let spans = spans_told (content v) x.id.file x.id.block c.args.old.now.0 x.block.0 c.args.place c.args.bytes.now (c.requires.before t).1 c.requires.spans in
    logs_range v (view_of g.S.Site c.keep.new.log) x c.args.place c.args.bytes.now (differs_spanned (content v) x c.args.place c.args.bytes.now (c.requires.before t).0 spans) (sym ((c.requires.sound.imaged t).has_them x.id.file x.id.block) ∙ c.requires.again) spans
    ((c.in-Ok-keep.ensures.kept t).entries_same ∙ (c.in-Ok.ensures.logs t).entries_are)

pub returns-in-Err-clause-kept : goal.returns-in-Err-clause-kept
returns-in-Err-clause-kept g c off t = kept_append c.in-Err.fault c.append_fault.result _ _ _ c.in-Err.ensures.only c.append_fault.ensures (λ full. (c.in-Err.ensures.kept full t).entries_same) off

pub returns-in-Err-keep-clause-kept : goal.returns-in-Err-keep-clause-kept
returns-in-Err-keep-clause-kept g c off = absurd (off c.in-Err-keep.ensures.only)

pub returns-in-Ok-keep-clause-grown : goal.returns-in-Ok-keep-clause-grown
returns-in-Ok-keep-clause-grown g c = λ t. log_grows_on (view_of g.S.Site c.args.self.now.log) (view_of g.S.Site c.range.new.self) (view_of g.S.Site c.keep.new.log) c.range.ensures.kind.0 c.range.ensures.kind.3 1 0 (range_few _ _ _ _ _ _ (c.in-Ok.ensures.logs t)) (c.range.ensures.grown t) (c.keep.ensures.passes.grown t)

pub returns-in-Err-keep-clause-grown : goal.returns-in-Err-keep-clause-grown
returns-in-Err-keep-clause-grown g c = λ t. log_grows_on (view_of g.S.Site c.args.self.now.log) (view_of g.S.Site c.range.new.self) (view_of g.S.Site c.keep.new.log) c.range.ensures.kind.0 c.range.ensures.kind.3 1 0 (range_few _ _ _ _ _ _ (c.in-Ok.ensures.logs t)) (c.range.ensures.grown t) (c.keep.ensures.passes.grown t)
