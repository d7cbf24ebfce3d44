use Rattle.std.proofs.Common.{ap, refl, sym, ◌∙◌, arith}
use Rattle.std.specs.Prelude.{List}
use Rattle.std.proofs.lemmas.List.{take_all}
use Rattle.dms_restore.specs.declared.live.LiveEntry.{LiveEntry}
use Rattle.dms_restore.specs.Chosen.{place_from}
use Rattle.dms_restore.specs.Named.{Noted, noted_front}
use Rattle.dms_restore.proofs.Marked.{front_more}
use Rattle.dms_restore.proofs.marking.mark_redo.Goals as goal

pub loop-i-init : goal.loop-i-init
loop-i-init c = record { bare = c.requires; names = λ files f b off. refl }

pub loop-i-preserved : goal.loop-i-preserved
loop-i-preserved c =
    let redo = c.args.redo.now in
    let i = c.loop-i.i in
    record {
      bare = c.in_ok-mark_naming.ensures.bare;
      names = λ files f b off.
          let k = place_from c.args.rows.now c.args.of_rows c.args.of_others f b in
          ap (λ (n : Noted). n.named) (front_more files k redo i f b c.loop-i-test.true)
          ∙ c.in_ok-mark_naming.ensures.names files f b _ off (c.loop-i.invariant.names files f b (c.in_ok-mark_naming.ensures.stays f b off));
    }

pub returns-clause-names : goal.returns-clause-names
returns-clause-names c files f b off =
    let k = place_from c.args.rows.now c.args.of_rows c.args.of_others f b in
    ap (λ (l : List LiveEntry). (noted_front files k l f b).named) (sym (take_all c.loop-i.i c.args.redo.now (omega (arith, c.loop-i-test.false)))) ∙ c.loop-i.invariant.names files f b off
