-- What counts as each block while a restore may be half done.
use Rattle.std.specs.Prelude.{ℕ, if◌then◌else◌, List, Option, Some, None}
use Rattle.dms_history.specs.Events.{AllBlocks, Stored, How, halt_load, back_out, roll_back, rebuild, reconstruct, Event, block_in}
use Rattle.dms_history.specs.History.{Pending, History}
use Rattle.dms_history.specs.Pick.{Dumps, count_at, pick, dump_pick, content_of}

-- a block as a restore to point m is to leave it: by the audit, by its dump, or by its dump where the block is named and by the audit elsewhere
unfoldable pub restore_pick : How → Dumps → List Event → ℕ → Stored → Stored
restore_pick halt_load dumps live m stored = pick live m stored
restore_pick back_out dumps live m stored = pick live m stored
restore_pick roll_back dumps live m stored = pick live m stored
restore_pick (rebuild d) dumps live m stored = dump_pick live (dumps d) m
restore_pick (reconstruct d named) dumps live m stored = λ f b. if named f b then dump_pick live (dumps d) m f b else pick live m stored f b

-- the content that a restore to point m is to leave
unfoldable pub outcome : How → Dumps → List Event → ℕ → Stored → AllBlocks
outcome how dumps live m stored = content_of (count_at live m) (restore_pick how dumps live m stored)

abbrev pub here_by : Option Pending → Dumps → Stored → Stored
here_by None dumps stored = stored
here_by (Some p) dumps stored = block_in (outcome p.how dumps p.entries p.point stored)

-- What counts as each block: what the structure files hold; while a restore is pending, what it is to leave, whatever it has written so far.
abbrev pub here : Dumps → History → Stored → Stored
here dumps h stored = here_by h.pending dumps stored
