use Rattle.std.proofs.Common.{◌≡◌, ◌<◌, ◌≤◌, ℕ, [], length}
use Rattle.dms_sitemem.specs.Slots.{files_of}
use Rattle.dms_sitemem.proofs.image.Image.last_present.Given as goal

abbrev pub invariant-loop-file : goal.invariant-loop-file
invariant-loop-file l = record {
  from : l.from ≤ l.file;
  absent : (g : ℕ) → l.from ≤ g → g < l.file → l.last < g → files_of l.self.files g ≡ [];
  present : 0 < l.last → (l.from ≤ l.last) × (l.last < l.file) × (l.last ≤ l.upto) × (0 < length (files_of l.self.files l.last));
}
