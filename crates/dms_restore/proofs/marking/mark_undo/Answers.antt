use Rattle.std.proofs.Common.{ap, sym, ◌∙◌, arith}
use Rattle.std.specs.Prelude.{List}
use Rattle.std.proofs.lemmas.List.{take_all}
use Rattle.dms_history.specs.Entries.{named_by}
use Rattle.dms_restore.specs.declared.live.LiveEntry.{LiveEntry}
use Rattle.dms_restore.specs.LiveEntries.{logged_live}
use Rattle.dms_restore.proofs.Noting.{undone_other}
use Rattle.dms_restore.proofs.Marked.{undone_more, same_both}
use Rattle.dms_restore.proofs.marking.mark_undo.Goals as goal

pub loop-entry-init : goal.loop-entry-init
loop-entry-init c = record { bare = c.requires; stays = λ f b off. off; undoes = λ files f b n off. same_both (named_by c.args.rows.now f b) n }

pub loop-entry-preserved : goal.loop-entry-preserved
loop-entry-preserved c =
    let now = c.in_ok-mark_other.ensures in
    record {
      bare = now.bare;
      stays = λ f b off. c.loop-entry.invariant.stays f b (now.stays f b off);
      undoes = λ files f b n off.
          undone_more files (named_by c.args.rows.now f b) f b n c.args.undo.now c.loop-entry.entry-index c.loop-entry-test.true (c.loop-entry.invariant.undoes files f b n (now.stays f b off)) (now.undoes files f b n off);
    }

pub returns-clause-undoes : goal.returns-clause-undoes
returns-clause-undoes c files f b n off =
    ap (λ (l : List LiveEntry). undone_other (named_by c.args.rows.now f b) f b n (logged_live files l)) (sym (take_all c.loop-entry.entry-index c.args.undo.now (omega (arith, c.loop-entry-test.false))))
    ∙ c.loop-entry.invariant.undoes files f b n off
