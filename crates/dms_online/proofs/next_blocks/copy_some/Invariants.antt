use Rattle.std.specs.declared.result.Result.TheVariants.{Ok}
use Rattle.std.proofs.Common.{◌<◌, ℕ, List, IsTrue}
use Rattle.dms_block.specs.Held.{HasNextNumber}
use Rattle.dms_wal.specs.Database.{running_held}
use Rattle.dms_online.specs.Calls.{Beside, SameDump}
use Rattle.dms_online.specs.Going.{IsNamed, IsQuiet, Went}
use Rattle.dms_online.specs.contracts.dump_site.DumpSiteSite as contracts
use Rattle.dms_online.proofs.next_blocks.copy_some.Given as goal

abbrev pub invariant-loop-i : goal.invariant-loop-i
invariant-loop-i g l = record {
  beside : Beside (contracts.TheImpl.ghosts g.row.S g.S.Site g.S.Site-dict) {T = Unit {0}} (Ok tt) l.fn.running l.running;
  dump : SameDump g.S.Site l.fn.running.log.site l.running.log.site;
  went : IsTrue g.S.Site.tells → HasNextNumber (running_held (contracts.TheImpl.ghosts g.row.S g.S.Site g.S.Site-dict) l.fn.running) → (low : ℕ) (head : List ℕ) → ((i : ℕ) → i < l.i → IsNamed l.counts i) → IsQuiet (running_held (contracts.TheImpl.ghosts g.row.S g.S.Site g.S.Site-dict) l.fn.running) low
      → Went (running_held (contracts.TheImpl.ghosts g.row.S g.S.Site g.S.Site-dict) l.fn.running) (running_held (contracts.TheImpl.ghosts g.row.S g.S.Site g.S.Site-dict) l.running) (g.S.Site.files l.fn.running.log.site.site l.fn.running.log.site.file) (g.S.Site.files l.running.log.site.site l.fn.running.log.site.file) l.front l.counts l.n l.i low head;
}
