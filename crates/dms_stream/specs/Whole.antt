-- A whole stream is read: its head, and its blocks up to the end or the first bad byte.
use Rattle.std.specs.Prelude.{ℕ, zero, suc, ◌+◌, ◌-◌, ◌/◌, ◌^◌, ◌<◌, ◌≤◌, ◌≡◌, ◌==◌, nat_le, if◌then◌else◌, List, [], ◌∷◌, length, take}
use Rattle.std.specs.declared.option.Option.{Option}
use Rattle.std.specs.declared.option.Option.TheVariants.{Some, None}
use Rattle.dms_stream.specs.Stream.{Heading, head_bytes, stream_bytes}
use Rattle.dms_stream.specs.Taking.{Taken, got, bad, Headed, heading_taken, Placed, record_taken, last_taken}

-- the file and the number of the block behind block i of audit file k, where each file has so many blocks
abbrev pub file_next : ℕ → ℕ → ℕ → ℕ
file_next total k i = if i == total then k + 1 else k

abbrev pub number_next : ℕ → ℕ → ℕ
number_next total i = if i == total then 1 else i + 1

-- the blocks that were read whole, and the first bad byte, if there is one
pub record BlocksRead : Type 0 where
  pub blocks : List (List ℕ)
  pub bad_at : Option ℕ

abbrev pub with_block : List ℕ → BlocksRead → BlocksRead
with_block block r = record { blocks = block ∷ r.blocks; bad_at = r.bad_at }

abbrev pub read_behind : Taken (Option Placed) → (ℕ → ℕ → List ℕ → BlocksRead) → BlocksRead
read_behind (bad q) f = record { blocks = []; bad_at = Some q }
read_behind (got None p bs) f = record { blocks = []; bad_at = None }
read_behind (got (Some x) p bs) f = with_block x.block (f x.file p bs)

-- the record of block i of a file from low to high; behind audit file 9,999 only the end may stand
abbrev pub one_taken : ℕ → ℕ → ℕ → ℕ → List ℕ → Taken (Option Placed)
one_taken low high i p bs = if nat_le low 9999 then record_taken low high i p bs else last_taken p bs

-- at most n records one after another, the first being that of block i of a file from low to high
abbrev pub blocks_read : ℕ → ℕ → ℕ → ℕ → ℕ → ℕ → List ℕ → BlocksRead
blocks_read zero total low high i p bs = record { blocks = []; bad_at = Some p }
blocks_read (suc n) total low high i p bs =
    read_behind (one_taken low high i p bs) (λ file. blocks_read n total (file_next total file i) (file_next total file i) (number_next total i))

-- what is read of a stream: its head, if that is whole, the blocks that are, and the first bad byte, if there is one
pub record StreamRead : Type 0 where
  pub head : Option Headed
  pub read : BlocksRead

abbrev pub read_headed : Taken Headed → StreamRead
read_headed (bad q) = record { head = None; read = record { blocks = []; bad_at = Some q } }
read_headed (got h p bs) = record { head = Some h; read = blocks_read (suc (length bs)) h.total 1 9999 1 p bs }

-- each record has a byte at least, so no more of them are there than bytes
abbrev pub stream_read : List ℕ → StreamRead
stream_read bytes = read_headed (heading_taken 1 bytes)

-- ---- laws

-- Each block has 4,096 bytes and stands in an audit file up to 9,999.
abbrev pub AreInFiles : ℕ → ℕ → ℕ → List (List ℕ) → Type 0
AreInFiles total k i [] = Unit {0}
AreInFiles total k i (b ∷ bs) = (length b ≡ 4096) × (k ≤ 9999) × AreInFiles total (file_next total k i) (number_next total i) bs

-- a head and blocks that a stream may have, the first being block 1 of audit file k
pub record MayStream (h : Heading) (k : ℕ) (blocks : List (List ℕ)) : Type 0 where
  pub tag : h.tag < 2 ^ 64
  pub total : (8 ≤ h.total) × (h.total ≤ 512)
  pub few : length h.description ≤ 65535
  pub from : (1 ≤ k) × (k ≤ 9999)
  pub placed : AreInFiles h.total k 1 blocks

abbrev pub said_by : Heading → Headed
said_by h = record { tag = h.tag; total = h.total; description = h.description }

-- A stream is read to exactly its head and its blocks, and has no bad byte.
abbrev pub ReadsStream : Type 0
ReadsStream = (h : Heading) (k : ℕ) (blocks : List (List ℕ)) → MayStream h k blocks
    → stream_read (stream_bytes h k blocks) ≡ record { head = Some (said_by h); read = record { blocks = blocks; bad_at = None } }

-- A stream that is cut within its head is read to nothing; its first bad byte would be the one behind it.
abbrev pub ReadsCutHead : Type 0
ReadsCutHead = (h : Heading) (k : ℕ) (blocks : List (List ℕ)) → MayStream h k blocks → (c : ℕ) → c < length (head_bytes h)
    → stream_read (take c (stream_bytes h k blocks)) ≡ record { head = None; read = record { blocks = []; bad_at = Some (c + 1) } }

-- One that is cut behind its head, and before its end, is read to the blocks whose records are whole; its first bad byte would be the one behind it.
abbrev pub ReadsCut : Type 0
ReadsCut = (h : Heading) (k : ℕ) (blocks : List (List ℕ)) → MayStream h k blocks → (c : ℕ) → length (head_bytes h) ≤ c → c < length (stream_bytes h k blocks)
    → stream_read (take c (stream_bytes h k blocks)) ≡ record { head = Some (said_by h); read = record { blocks = take ((c - length (head_bytes h)) / 4103) blocks; bad_at = Some (c + 1) } }
