use Rattle.std.proofs.Common.{◌≤◌, ◌<◌, ◌∙◌, ℕ, length, refl, sym, ap, subst}
use Rattle.std.specs.Global.{Vec}
use Rattle.dms_desc.specs.Shape.{as_described}
use Rattle.dms_status.specs.declared.status.Status.TheVariants.{Memory}
use Rattle.dms_wal.specs.Marks.{IsDescription}
use Rattle.dms_runtop.proofs.Described.{files_under, runs_described}
use Rattle.dms_run.proofs.Holding.{bytes_fit}
use Rattle.dms_runtop.proofs.Formed.{files_of, frames_of}
use Rattle.dms_runtop.proofs.Grows.{grows_described, grows_same}
use Rattle.dms_runtop.proofs.Looked.{runs_left}
use Rattle.dms_runtop.proofs.Serving.{counts_each, serves_by}
use Rattle.dms_runtop.proofs.Taking.{takes_none}
use Rattle.dms_runtop.proofs.command.run_described.Goals as goal

pub into_running-requires-clause-frames : goal.into_running-requires-clause-frames
into_running-requires-clause-frames g c =
    let low : 0 < c.args.desc.now.buffers = frames_of (as_described c.args.desc.now) c.requires.formed in
    subst (λ (n : ℕ). 0 < n) (sym c.from.ensures) low

pub into_running-requires-clause-limit : goal.into_running-requires-clause-limit
into_running-requires-clause-limit g c =
    let most : c.args.desc.now.files ≤ 9999 = files_of (as_described c.args.desc.now) c.requires.formed in
    subst (λ (n : ℕ). n ≤ 9999) (sym c.from-3.ensures) most

pub into_running-requires-clause-described : goal.into_running-requires-clause-described
into_running-requires-clause-described g c = subst IsDescription (sym c.in-Some.ensures) (bytes_fit (as_described c.args.desc.now) c.requires.formed)

pub run_over-requires-clause-sound : goal.run_over-requires-clause-sound
run_over-requires-clause-sound g c =
    c.in-Ok.ensures.usable (λ tells. files_under g.S.Site c.spelling_law.ensures c.args.opened (as_described c.args.desc.now) c.requires.formed c.requires.under _ c.in-Some.ensures (c.requires.known tells))

pub run_over-requires-clause-serves : goal.run_over-requires-clause-serves
run_over-requires-clause-serves g c =
    let sound = run_over-requires-clause-sound g c in
    let served = c.served_law.ensures (as_described c.args.desc.now) c.requires.formed in
    let each : length (as_described c.args.desc.now).structures ≤ length c.args.opened.counts.items = counts_each c.args.opened.schema.items c.args.opened.counts.items (as_described c.args.desc.now) c.requires.named c.requires.formed served c.requires.under in
    let kept = c.in-Ok.ensures.kept in
    serves_by (as_described c.args.desc.now) _ c.in-Ok.running.counts.items served refl sound.table.few
    (subst (λ (v : Vec ℕ). length (as_described c.args.desc.now).structures ≤ length v.items) (sym kept.1) each)
    (ap (λ (v : Vec ℕ). v.items) kept.0 ∙ c.in-Some.ensures)

pub run_over-requires-clause-mark : goal.run_over-requires-clause-mark
run_over-requires-clause-mark g c = λ tells.
    let st = files_under g.S.Site c.spelling_law.ensures c.args.opened (as_described c.args.desc.now) c.requires.formed c.requires.under _ c.in-Some.ensures (c.requires.known tells) in
    sym (c.in-Ok.ensures.tells st.0 st.1).content_is

pub returns-in-Ok-clause-ran : goal.returns-in-Ok-clause-ran
returns-in-Ok-clause-ran g c =
    runs_described g.S.Site c.spelling_law.ensures c.args.opened (as_described c.args.desc.now) c.requires.formed c.requires.under _ c.in-Some.ensures c.in-Ok.running c.in-Ok.ensures.log.0 c.in-Ok.ensures.log.2 c.in-Ok.ensures.log.1
    c.in-Ok.ensures.kept.2 (c.in-Ok.ensures.log.3 ∙ c.from-3.ensures) c.in-Ok.ensures.tells (c.in-Ok.ensures.kept.4 ∙ c.from-2.ensures) (c.in-Ok.ensures.kept.7, c.in-Ok.ensures.kept.6, c.in-Ok.ensures.kept.8) c.in-Ok.ensures.nothing
    (c.has_numbers_left.ensures.0 c.if-not-has_numbers_left.false) c.run_over.result.site _ _ c.run_over.result.status c.run_over.ensures.ran

pub returns-clause-ran : goal.returns-clause-ran
returns-clause-ran g c = runs_left g.S.Site c.args.opened _ _ _ c.in-Err.ensures.site

pub returns-in_default-clause-ran : goal.returns-in_default-clause-ran
returns-in_default-clause-ran g c = runs_left g.S.Site c.args.opened c.site_of-in_default.result _ _ c.site_of-in_default.ensures

pub returns-in-Ok-clause-grown : goal.returns-in-Ok-clause-grown
returns-in-Ok-clause-grown g c = grows_described g.S.Site c.args.opened c.in-Ok.running c.in-Ok.ensures.log.0 c.in-Ok.ensures.log.2 c.in-Ok.ensures.log.1 c.run_over.result.site c.run_over.ensures.grown

pub returns-clause-grown : goal.returns-clause-grown
returns-clause-grown g c = grows_same g.S.Site c.args.opened _ c.in-Err.ensures.site

pub returns-in_default-clause-grown : goal.returns-in_default-clause-grown
returns-in_default-clause-grown g c = grows_same g.S.Site c.args.opened c.site_of-in_default.result c.site_of-in_default.ensures

pub returns-in_default-clause-takes : goal.returns-in_default-clause-takes
returns-in_default-clause-takes g c = takes_none g.I.Source g.met.I.Source.same_again c.args.source.now Memory tt

pub returns-clause-takes : goal.returns-clause-takes
returns-clause-takes g c = takes_none g.I.Source g.met.I.Source.same_again c.args.source.now Memory tt

pub returns-then-not-has_numbers_left-clause-ran : goal.returns-then-not-has_numbers_left-clause-ran
returns-then-not-has_numbers_left-clause-ran g c = runs_left g.S.Site c.args.opened c.site_of.result _ _ c.site_of.ensures

pub returns-then-not-has_numbers_left-clause-grown : goal.returns-then-not-has_numbers_left-clause-grown
returns-then-not-has_numbers_left-clause-grown g c = grows_same g.S.Site c.args.opened c.site_of.result c.site_of.ensures

pub returns-then-not-has_numbers_left-clause-takes : goal.returns-then-not-has_numbers_left-clause-takes
returns-then-not-has_numbers_left-clause-takes g c = takes_none g.I.Source g.met.I.Source.same_again c.args.source.now Memory tt
