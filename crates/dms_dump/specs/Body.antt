-- The blocks of a dump, and its whole file.
use Rattle.std.specs.Prelude.{ℕ, zero, suc, ◌+◌, ◌*◌, ◌<◌, ◌≡◌, ◌==◌, if◌then◌else◌, List, [], ◌∷◌, ◌++◌, map, length, Option, Some, None}
use Rattle.std.specs.List.{range_with_len}
use Rattle.dms_site.specs.Files.{Files, range, stored_of}
use Rattle.dms_history.specs.Events.{BlockBytes, Stored}
use Rattle.dms_history.specs.Pick.{Dump}
use Rattle.dms_history.specs.Entries.{counts_in}
use Rattle.dms_history.specs.declared.event.FileCount.{FileCount}
use Rattle.dms_dump.specs.Head.{Head, end_of, head_size, head_bytes, head_in}

-- the first n blocks of a structure file, one after another
unfoldable pub file_bytes : Stored → ℕ → ℕ → List ℕ
file_bytes stored f zero = []
file_bytes stored f (suc n) = file_bytes stored f n ++ stored f n

-- all blocks of these files, in that order
abbrev pub body_bytes : Stored → List FileCount → List ℕ
body_bytes stored [] = []
body_bytes stored (c ∷ cs) = file_bytes stored c.file c.blocks ++ body_bytes stored cs

-- the file of a dump: a gate, the head, the blocks
unfoldable pub dump_file : ℕ → Head → Stored → List ℕ
dump_file gate h stored = gate ∷ (head_bytes h ++ body_bytes stored h.counts)

-- the file of a dump that is made of these files
abbrev pub dump_made : ℕ → ℕ → ℕ → ℕ → List FileCount → Files → List ℕ
dump_made gate tag point audit counts files = dump_file gate (record { tag = tag; point = point; audit = audit; counts = counts; end = None }) (stored_of files)

-- how many blocks of other files stand before the first one of a file
abbrev pub blocks_before : ℕ → List FileCount → ℕ
blocks_before f [] = 0
blocks_before f (c ∷ cs) = if c.file == f then 0 else c.blocks + blocks_before f cs

-- block b of a structure file, in the file of a dump with this head
unfoldable pub dumped_block : Head → List ℕ → ℕ → ℕ → BlockBytes
dumped_block h file f b = range (1 + head_size h + 1024 * (blocks_before f h.counts + b)) 1024 file

-- the dump that a file holds, with this head
abbrev pub dump_with : Head → List ℕ → Dump
dump_with h file = record {
  point = h.point;
  end = end_of h;
  blocks = λ f. map (dumped_block h file f) (range_with_len 0 (counts_in h.counts f));
}

-- a file that is none holds no dump
abbrev pub no_dump : Dump
no_dump = record { point = 0; end = 0; blocks = λ f. [] }

abbrev pub dump_by_head : Option Head → List ℕ → Dump
dump_by_head None file = no_dump
dump_by_head (Some h) file = dump_with h file

-- the dump that a file holds
unfoldable pub dump_of : List ℕ → Dump
dump_of file = dump_by_head (head_in file) file

-- a whole block of each file below its count is stored
abbrev pub AllStored : Stored → List FileCount → Type 0
AllStored stored counts = (f b : ℕ) → b < counts_in counts f → length (stored f b) ≡ 1024
