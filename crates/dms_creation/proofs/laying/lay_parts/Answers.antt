use Rattle.std.proofs.Common.{◌≡◌, ◌+◌, ◌/◌, ◌∙◌, ap, refl, subst, ℕ, List, length, arith}
use Rattle.dms_history.specs.Entries.{Entry}
use Rattle.dms_creation.specs.Laid.{Laid, parts_upto}
use Rattle.dms_creation.proofs.Cleared.{keeps_still, keeps_then}
use Rattle.dms_creation.proofs.Parts.{all_parts, next_part}
use Rattle.dms_creation.proofs.laying.lay_parts.Goals as goal

pub loop-number-init : goal.loop-number-init
loop-number-init g c = record {
  near = c.requires.near;
  limit = c.requires.limit;
  kind = (refl, refl, refl);
  laid = λ tells old l. l;
  moments = λ tells old l. keeps_still _;
  said = refl;
  same_site = g.met.S.Site.same_again _;
  disk = refl;
  say = refl;
}

pub returns-in_err-lay_entry-clause-moments : goal.returns-in_err-lay_entry-clause-moments
returns-in_err-lay_entry-clause-moments g c tells old l =
    let inv = c.loop-number.invariant in
    keeps_then (inv.moments tells old l) (c.lay_entry.ensures.moments tells _ old (inv.laid tells old l))

pub loop-number-preserved : goal.loop-number-preserved
loop-number-preserved g c =
    let inv = c.loop-number.invariant in
    let done = c.in_ok-lay_entry.ensures in
    record {
      near = omega (arith, done.place, inv.near);
      limit = done.kind.2 ∙ inv.limit;
      kind = (done.kind.0 ∙ inv.kind.0, done.kind.1 ∙ inv.kind.1, done.kind.2 ∙ inv.kind.2);
      laid = λ tells old l. subst (λ (es : List Entry). Laid c.lay_entry.new.end es old (g.S.Site.files c.lay_entry.new.site) (g.S.Site.clock c.lay_entry.new.site))
          (next_part ((length c.args.bytes.now + 3999) / 4000) c.loop-number.number c.args.bytes.now c.part_of-part.result.now c.part_of-part.ensures.part) (done.laid tells _ old (inv.laid tells old l));
      moments = λ tells old l. keeps_then (inv.moments tells old l) (done.moments tells _ old (inv.laid tells old l));
      said = done.said ∙ inv.said;
      same_site = g.met.S.Site.same_then _ _ _ inv.same_site done.same_site;
      disk = done.faults.clean ∙ inv.disk;
      say = done.say_faults ∙ inv.say;
    }

pub returns-clause-laid : goal.returns-clause-laid
returns-clause-laid g c tells old l =
    let inv = c.loop-number.invariant in
    let count : ℕ = (length c.args.bytes.now + 3999) / 4000 in
    let at : c.loop-number.number ≡ count = omega (arith, c.loop-number-test.false, c.loop-number.auto.number-end) in
    subst (λ (es : List Entry). Laid c.loop-number.end es old (g.S.Site.files c.loop-number.site) (g.S.Site.clock c.loop-number.site))
    (ap (λ k. parts_upto count k c.args.bytes.now) at ∙ all_parts count c.args.bytes.now refl) (inv.laid tells old l)
