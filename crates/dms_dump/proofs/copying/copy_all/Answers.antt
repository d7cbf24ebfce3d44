use Rattle.std.proofs.Common.{◌≡◌, ◌<◌, ◌∙◌, inl, inr, refl, sym, List, length, take, subst, arith, append-nil}
use Rattle.std.proofs.lemmas.List.{take_all}
use Rattle.dms_site.specs.Files.{stored_of}
use Rattle.dms_history.specs.declared.event.FileCount.{FileCount}
use Rattle.dms_dump.specs.Body.{body_bytes}
use Rattle.dms_dump.specs.Copying.{CopiesBehind}
use Rattle.dms_dump.proofs.Bodies.{EachWhole}
use Rattle.dms_dump.proofs.Copied.{gate_none, gate_on, copies_file, each_on, blocks_on, stored_other, rise_at, few_blocks, all_from_each, whole_other}
use Rattle.dms_dump.proofs.Results.{is_fault}
use Rattle.dms_dump.proofs.copying.copy_all.Goals as goal

pub loop-count-init : goal.loop-count-init
loop-count-init g c = record {
  room = c.requires.room;
  place = omega arith;
  copied = λ tells size. sym (append-nil _);
  whole = λ tells. tt;
  others = λ tells h other. refl;
  moments = gate_none c.args.dump _;
  said = refl;
  same = g.met.S.Site.same_again _;
  disk = refl;
  say_faults = refl;
}

pub copy_file-requires-clause-behind : goal.copy_file-requires-clause-behind
copy_file-requires-clause-behind g c = omega (arith, c.loop-count.invariant.place, c.requires.behind)

pub copy_file-requires-clause-place : goal.copy_file-requires-clause-place
copy_file-requires-clause-place g c =
    let d : FileCount = record { file = 0; blocks = 0 } in
    let x = rise_at 30001 c.args.counts.now c.loop-count.count-index d c.requires.rising c.loop-count-test.true in
    omega (arith, c.loop-count.invariant.place, c.requires.place, c.requires.few, x.1, few_blocks 30001 c.args.counts.now c.loop-count.count-index c.requires.rising, c.loop-count-test.true)

pub copy_file-requires-clause-few : goal.copy_file-requires-clause-few
copy_file-requires-clause-few g c =
    let d : FileCount = record { file = 0; blocks = 0 } in
    (rise_at 30001 c.args.counts.now c.loop-count.count-index d c.requires.rising c.loop-count-test.true).1

pub copy_file-requires-clause-structure : goal.copy_file-requires-clause-structure
copy_file-requires-clause-structure g c =
    let d : FileCount = record { file = 0; blocks = 0 } in
    omega (arith, (rise_at 30001 c.args.counts.now c.loop-count.count-index d c.requires.rising c.loop-count-test.true).0)

pub returns-in-Err-clause-moments : goal.returns-in-Err-clause-moments
returns-in-Err-clause-moments g c = gate_on c.args.dump c.loop-count.invariant.moments c.copy_file.ensures.moments

pub returns-in-Err-clause-only : goal.returns-in-Err-clause-only
returns-in-Err-clause-only g c =
    let d : FileCount = record { file = 0; blocks = 0 } in
    let x = rise_at 30001 c.args.counts.now c.loop-count.count-index d c.requires.rising c.loop-count-test.true in
    let above : 30000 < _ = omega (arith, x.0) in
    elim c.in-Err.ensures.only [
      | inl disk ↦ inl disk
      | inr damaged ↦ inr (
        _,
        damaged.0,
        subst (λ k. damaged.0 < k) (sym x.2) damaged.1,
        damaged.2,
        (λ tells.
            subst (λ l. length l < 1024) (stored_other (g.S.Site.files c.args.site.now) (g.S.Site.files c.loop-count.site) c.args.dump _ damaged.0 c.requires.no_structure above (c.loop-count.invariant.others tells)) (damaged.3 tells)),
      )
    ]

pub loop-count-preserved : goal.loop-count-preserved
loop-count-preserved g c =
    let d : FileCount = record { file = 0; blocks = 0 } in
    let low = c.loop-count-test.true in
    let inv = c.loop-count.invariant in
    let x = rise_at 30001 c.args.counts.now c.loop-count.count-index d c.requires.rising low in
    let above : 30000 < _ = omega (arith, x.0) in
    record {
      room = c.copy_file.ensures.room;
      place = omega (arith, inv.place, blocks_on c.args.counts.now c.loop-count.count-index d low, c.from.ensures);
      copied = λ tells. copies_file c.args.counts.now c.loop-count.count-index d low (g.S.Site.files c.args.site.now) (g.S.Site.files c.loop-count.site) (g.S.Site.files c.copy_file.new.site) c.args.dump c.args.at c.loop-count.place
          c.requires.no_structure above (inv.others tells) (inv.whole tells) inv.place (inv.copied tells) (c.in-Ok.ensures.copied tells);
      whole = λ tells. each_on c.args.counts.now c.loop-count.count-index d low (stored_of (g.S.Site.files c.args.site.now)) (inv.whole tells)
          (whole_other (g.S.Site.files c.args.site.now) (g.S.Site.files c.loop-count.site) c.args.dump _ _ c.requires.no_structure above (inv.others tells) (c.in-Ok.ensures.whole tells));
      others = λ tells h other. c.copy_file.ensures.others tells h other ∙ inv.others tells h other;
      moments = gate_on c.args.dump inv.moments c.copy_file.ensures.moments;
      said = c.copy_file.ensures.said ∙ inv.said;
      same = g.met.S.Site.same_then _ _ _ inv.same c.copy_file.ensures.same_site;
      disk = c.in-Ok.ensures.disk.clean (λ e. subst (λ r. is_fault r) (sym e) tt) ∙ inv.disk;
      say_faults = c.copy_file.ensures.say_faults ∙ inv.say_faults;
    }

pub returns-clause-copied : goal.returns-clause-copied
returns-clause-copied g c tells =
    let all : take c.loop-count.count-index c.args.counts.now ≡ c.args.counts.now = take_all c.loop-count.count-index c.args.counts.now (omega (arith, c.loop-count-test.false)) in
    subst (λ (l : List FileCount). CopiesBehind c.args.dump c.args.at (body_bytes (stored_of (g.S.Site.files c.args.site.now)) l) (g.S.Site.files c.args.site.now) (g.S.Site.files c.loop-count.site)) all (c.loop-count.invariant.copied tells)

pub returns-clause-whole : goal.returns-clause-whole
returns-clause-whole g c tells =
    let all : take c.loop-count.count-index c.args.counts.now ≡ c.args.counts.now = take_all c.loop-count.count-index c.args.counts.now (omega (arith, c.loop-count-test.false)) in
    all_from_each _ c.args.counts.now (subst (λ (l : List FileCount). EachWhole (stored_of (g.S.Site.files c.args.site.now)) l) all (c.loop-count.invariant.whole tells))

pub overflow_add-place : goal.overflow_add-place
overflow_add-place g c =
    let d : FileCount = record { file = 0; blocks = 0 } in
    let x = rise_at 30001 c.args.counts.now c.loop-count.count-index d c.requires.rising c.loop-count-test.true in
    omega (arith, c.loop-count.invariant.place, c.requires.place, c.requires.few, x.1, few_blocks 30001 c.args.counts.now c.loop-count.count-index c.requires.rising, c.loop-count-test.true, c.from.ensures)
