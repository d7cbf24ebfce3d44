-- What a disk in memory shows.
use Rattle.dms_sitemem.specs.Slots.{files_of}
use Rattle.dms_memcalls.specs.declared.disk.MemDisk.{MemDisk}
use Rattle.dms_memcalls.specs.Folders.{FolderSeen}

abbrev pub view : MemDisk → FolderSeen
view d = record { count = d.count; names = files_of d.names.files; bytes = files_of d.files.files; said = d.files.said.items }
