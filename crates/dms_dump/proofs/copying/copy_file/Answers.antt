use Rattle.std.proofs.Common.{◌<◌, ◌+◌, ◌*◌, ◌∙◌, inl, inr, refl, sym, length, subst, ap, arith}
use Rattle.dms_site.specs.Files.{stored_of}
use Rattle.dms_dump.proofs.Copied.{gate_none, gate_on, copies_none, copies_on, whole_more, stored_other}
use Rattle.dms_dump.proofs.Results.{is_fault}
use Rattle.dms_dump.proofs.copying.copy_file.Goals as goal

pub loop-block-init : goal.loop-block-init
loop-block-init g c = record {
  room = c.requires.room;
  copied = λ tells. copies_none (g.S.Site.files c.args.site.now) c.args.dump c.args.at c.args.file;
  whole = λ tells b low. absurd (omega (arith, low));
  others = λ tells h other. refl;
  moments = gate_none c.args.dump _;
  said = refl;
  same = g.met.S.Site.same_again _;
  disk = refl;
  say_faults = refl;
}

pub returns-in-Err-clause-moments : goal.returns-in-Err-clause-moments
returns-in-Err-clause-moments g c = gate_on c.args.dump c.loop-block.invariant.moments c.copy_block.ensures.moments

pub returns-in-Err-clause-only : goal.returns-in-Err-clause-only
returns-in-Err-clause-only g c = elim c.in-Err.ensures.only [
  | inl disk ↦ inl disk
  | inr damaged ↦ inr (
    c.loop-block.block,
    c.loop-block-test.true,
    damaged.0,
    (λ tells.
        subst (λ l. length l < 1024) (stored_other (g.S.Site.files c.args.site.now) (g.S.Site.files c.loop-block.site) c.args.dump c.args.file c.loop-block.block c.requires.no_structure c.requires.structure (c.loop-block.invariant.others tells)) (damaged.1 tells)),
  )
]

pub loop-block-preserved : goal.loop-block-preserved
loop-block-preserved g c =
    let inv = c.loop-block.invariant in
    record {
      room = c.copy_block.ensures.room;
      copied = λ tells. copies_on (g.S.Site.files c.args.site.now) (g.S.Site.files c.loop-block.site) (g.S.Site.files c.copy_block.new.site) c.args.dump c.args.at _ c.args.file c.loop-block.block
          c.requires.no_structure c.requires.structure (inv.others tells) (inv.whole tells) (ap (λ k. c.args.at + 1024 * k) c.from.ensures) (inv.copied tells) (c.in-Ok.ensures.copied tells);
      whole = λ tells. whole_more (stored_of (g.S.Site.files c.args.site.now)) c.args.file c.loop-block.block (inv.whole tells)
          (ap length (sym (stored_other (g.S.Site.files c.args.site.now) (g.S.Site.files c.loop-block.site) c.args.dump c.args.file c.loop-block.block c.requires.no_structure c.requires.structure (inv.others tells))) ∙ c.in-Ok.ensures.whole tells);
      others = λ tells h other. c.copy_block.ensures.others tells h other ∙ inv.others tells h other;
      moments = gate_on c.args.dump inv.moments c.copy_block.ensures.moments;
      said = c.copy_block.ensures.said ∙ inv.said;
      same = g.met.S.Site.same_then _ _ _ inv.same c.copy_block.ensures.same_site;
      disk = c.in-Ok.ensures.disk.clean (λ e. subst (λ r. is_fault r) (sym e) tt) ∙ inv.disk;
      say_faults = c.copy_block.ensures.say_faults ∙ inv.say_faults;
    }
