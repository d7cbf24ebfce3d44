use Rattle.std.proofs.Common.{◌≡◌, ◌<◌, ℕ, false, length, Some, IsTrue}
use Rattle.std.specs.Prelude.{slice_get}
use Rattle.dms_moments.specs.Moments.{Steps}
use Rattle.dms_calls.specs.World.{Unchanged}
use Rattle.dms_folder.specs.declared.opened.OpenedFile.{OpenedFile}
use Rattle.dms_folder.specs.Kept.{KeepsFolder}
use Rattle.dms_folder.proofs.folder.Folder.sync_all_opened.Given as goal

abbrev pub invariant-loop-place : goal.invariant-loop-place
invariant-loop-place g l = record {
  broken : g.C.Calls.broken l.self.calls ≡ false;
  kept : IsTrue g.C.Calls.tells → KeepsFolder g.C.Calls.file l.self.opened.items l.self.made l.self.synced (g.C.Calls.world l.self.calls) (g.C.Calls.clock l.self.calls);
  before : (k : ℕ) → k < l.place → (o : OpenedFile g.row.C-Handle.Denot) → slice_get l.self.opened.items k ≡ Some o → o.touched ≡ false;
  len : length l.self.opened.items ≡ l.place-end;
  made : l.self.made ≡ l.fn.self.made;
  synced : l.self.synced ≡ l.fn.self.synced;
  world : g.C.Calls.world l.self.calls ≡ g.C.Calls.world l.fn.self.calls;
  moments : Steps Unchanged (g.C.Calls.clock l.fn.self.calls) (g.C.Calls.clock l.self.calls);
}
