use Rattle.std.proofs.Common.{◌≡◌, ◌<◌, ◌≤◌, false, length, IsTrue}
use Rattle.dms_moments.specs.Moments.{Steps}
use Rattle.dms_calls.specs.Names.{name_of}
use Rattle.dms_calls.specs.World.{Unchanged}
use Rattle.dms_calls.specs.Seen.{site_files}
use Rattle.dms_folder.specs.Kept.{KeepsFolder}
use Rattle.dms_folder.specs.ListingLaws.{AbsentGiven}
use Rattle.dms_folder.proofs.folder.Folder.last_present.Given as goal

abbrev pub invariant-loop-turn : goal.invariant-loop-turn
invariant-loop-turn g l =
    let world = g.C.Calls.world l.self.calls in
    let clock = g.C.Calls.clock l.self.calls in
    let files = site_files name_of (g.C.Calls.world l.fn.self.calls) in
    record {
      broken : g.C.Calls.broken l.self.calls ≡ false;
      kept : IsTrue g.C.Calls.tells → KeepsFolder g.C.Calls.file l.self.opened.items l.self.made l.self.synced world clock;
      bound : 0 < l.last → (l.from ≤ l.last) × (l.last ≤ l.upto);
      present : IsTrue g.C.Calls.tells → 0 < l.last → 0 < length (files l.last);
      absent : IsTrue g.C.Calls.tells → AbsentGiven (g.C.Calls.given l.names) files l.from l.upto l.last;
      listed : IsTrue g.C.Calls.tells → g.C.Calls.listed l.names ≡ (g.C.Calls.world l.fn.self.calls).names;
      world : world ≡ g.C.Calls.world l.fn.self.calls;
      moments : Steps Unchanged (g.C.Calls.clock l.fn.self.calls) clock;
    }
