-- What an entry of the program means.
use Rattle.std.specs.Prelude.{ℕ, ◌/◌, ◌≡◌, length, Option, Some, None}
use Rattle.dms_history.specs.Entries as meaning
use Rattle.dms_history.specs.Entries.{Kind, by_halt_load, by_back_out, by_roll_back, by_rebuild, by_reconstruct, schema_part, image, byte_range, quiet_point, control_point, begin_restore}
use Rattle.dms_audrec.specs.declared.entry.Entry.{Entry}
use Rattle.dms_audrec.specs.declared.entry.Entry.TheVariants.{Schema, Image, Range, Quiet, Control, Begin}
use Rattle.dms_audrec.specs.declared.entry.BeginHow.{BeginHow}
use Rattle.dms_audrec.specs.declared.entry.BeginHow.TheVariants.{HaltLoad, BackOut, Rollback, Rebuild, Reconstruct}
use Rattle.dms_audrec.specs.Reading.{counts_at, rows_at}
use Rattle.dms_audrec.specs.Spelling.{spelling}

abbrev pub how_seen : BeginHow → Kind
how_seen HaltLoad = by_halt_load
how_seen BackOut = by_back_out
how_seen Rollback = by_roll_back
how_seen (Rebuild dump) = by_rebuild dump
how_seen (Reconstruct dump list) = by_reconstruct dump (rows_at (length list.now / 8) list.now)

abbrev pub entry_seen : Entry → meaning.Entry
entry_seen (Schema part parts text) = schema_part part parts text.now
entry_seen (Image file block None after) = image file block None after.now
entry_seen (Image file block (Some before) after) = image file block (Some before.now) after.now
entry_seen (Range file block place bytes) = byte_range file block place bytes.now
entry_seen (Quiet n) = quiet_point n
entry_seen (Control n next list) = control_point n next (counts_at (length list.now / 8) list.now)
entry_seen (Begin n how) = begin_restore n (how_seen how)

-- what was read is this entry, and takes so many bytes
abbrev pub IsRead : Option (Entry × ℕ) → meaning.Entry → Type 0
IsRead None e = ⊥
IsRead (Some x) e = (entry_seen x.0 ≡ e) × (x.1 ≡ length (spelling e))
