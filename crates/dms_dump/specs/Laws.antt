-- Laws: what is written as a dump is read as it.
use Rattle.std.specs.Prelude.{ℕ, ◌≡◌, List, ◌++◌, Some}
use Rattle.dms_history.specs.Events.{Stored}
use Rattle.dms_history.specs.Pick.{content_of}
use Rattle.dms_history.specs.Entries.{counts_in}
use Rattle.dms_dump.specs.Head.{Head, IsHead, end_of, head_bytes, head_first, head_in}
use Rattle.dms_dump.specs.Body.{AllStored, dump_file, dump_of}

-- Bytes that begin with the spelling of a head begin with that head.
abbrev pub HeadIsRead : Type 0
HeadIsRead = (h : Head) (rest : List ℕ) → IsHead h → head_first (head_bytes h ++ rest) ≡ Some (h, rest)

-- The file of a dump is in the grammar with its head, and the dump that it holds is that of its point and blocks.
pub record DumpIsRead (gate : ℕ) (h : Head) (stored : Stored) : Type 0 where
  pub head : head_in (dump_file gate h stored) ≡ Some h
  pub dump : dump_of (dump_file gate h stored) ≡ record { point = h.point; end = end_of h; blocks = content_of (counts_in h.counts) stored }

abbrev pub DumpsAreRead : Type 0
DumpsAreRead = (gate : ℕ) (h : Head) (stored : Stored) → IsHead h → AllStored stored h.counts → DumpIsRead gate h stored
