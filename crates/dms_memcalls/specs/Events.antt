-- What each event makes of what is seen.
use Rattle.std.specs.Prelude.{[], ◌++◌, take, if◌then◌else◌}
use Rattle.dms_site.specs.Files.{overlay_bytes}
use Rattle.dms_memcalls.specs.declared.event.CallEvent.{CallEvent}
use Rattle.dms_memcalls.specs.declared.event.CallEvent.TheVariants.{Looked, Made, Wrote, Shortened, Lengthened, Synced, SyncedNames, Printed, Found, Recalled}
use Rattle.dms_memcalls.specs.Folders.{FolderSeen, with_made, with_bytes, with_said}

-- A call that failed changes nothing that is seen, but that a file which was to be made has a number, and no name.
abbrev pub seen_after : CallEvent → FolderSeen → FolderSeen
seen_after (Looked ok) s = s
seen_after (Made name ok) s = with_made s (if ok then name.items else []) []
seen_after (Wrote f at bytes ok) s = if ok then with_bytes s f (overlay_bytes at bytes.items (s.bytes f)) else s
seen_after (Shortened f len ok) s = if ok then with_bytes s f (take len (s.bytes f)) else s
seen_after (Lengthened f len ok) s = if ok then with_bytes s f (overlay_bytes len [] (s.bytes f)) else s
seen_after (Synced f ok) s = s
seen_after (SyncedNames ok) s = s
seen_after (Printed bytes ok) s = if ok then with_said s (s.said ++ bytes.items) else s
seen_after (Found name bytes) s = with_made s name.items bytes.items
seen_after (Recalled bytes) s = with_said s (s.said ++ bytes.items)
