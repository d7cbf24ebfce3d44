use Rattle.std.proofs.Common.{List, sym, ◌∙◌, ap, refl, subst, arith}
use Rattle.dms_history.specs.Pick.{reached_count}
use Rattle.dms_history.specs.Events.{Event}
use Rattle.dms_audfile.proofs.Reading.{reads_on}
use Rattle.dms_restore.specs.Counts.{count_of}
use Rattle.dms_restore.proofs.Results.{is_fault}
use Rattle.dms_restore.proofs.ReadOn.{reads_none}
use Rattle.dms_restore.proofs.Spots.{events_all}
use Rattle.dms_opening.proofs.Counted.{reached_more, none_among}
use Rattle.dms_opening.proofs.point_counts.count_all.Goals as goal

pub loop-entry-init : goal.loop-entry-init
loop-entry-init g c = record {
  small = λ all. all;
  counts = λ tells f. refl;
  reads = reads_none _ _ _ _ _ _;
  same = g.met.S.Site.same_again _;
  disk = refl;
}

pub loop-entry-preserved : goal.loop-entry-preserved
loop-entry-preserved g c =
    let inv = c.loop-entry.invariant in
    record {
      small = λ all. c.in-Ok.ensures.small (inv.small all);
      counts = λ tells f. reached_more (g.S.Site.files c.args.site.now) (g.S.Site.files c.loop-entry.site) c.args.live.now c.loop-entry.entry-index f (count_of c.args.counts.now f) (count_of c.loop-entry.counts f) (count_of c.count_entry.new.counts f)
          c.loop-entry-test.true (inv.reads.files_stay tells) (c.in-Ok.ensures.counts tells f) (inv.counts tells f);
      reads = reads_on g.S.Site.tells inv.reads c.count_entry.ensures.reads;
      same = g.met.S.Site.same_then _ _ _ inv.same c.count_entry.ensures.same_site;
      disk = c.in-Ok.ensures.disk.clean (λ e. subst (λ r. is_fault r) (sym e) tt) ∙ inv.disk;
    }

pub returns-clause-counts : goal.returns-clause-counts
returns-clause-counts g c tells f =
    c.loop-entry.invariant.counts tells f
    ∙ ap (λ (l : List Event). reached_count f (count_of c.args.counts.now f) l) (events_all (g.S.Site.files c.args.site.now) c.args.live.now c.loop-entry.entry-index (omega (arith, c.loop-entry-test.false)))

pub returns-in-Err-clause-only : goal.returns-in-Err-clause-only
returns-in-Err-clause-only g c =
    none_among g.S.Site.tells (g.S.Site.files c.args.site.now) (g.S.Site.files c.loop-entry.site) c.args.live.now c.loop-entry.entry-index _ c.loop-entry-test.true (λ t. c.loop-entry.invariant.reads.files_stay t) c.in-Err.ensures.only
