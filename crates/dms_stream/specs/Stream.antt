-- The stream of a trail: a head, the blocks one after another, each with its place, and an end.
use Rattle.std.specs.Prelude.{ℕ, ◌+◌, ◌==◌, if◌then◌else◌, List, [], ◌∷◌, ◌++◌, length}
use Rattle.std.specs.Int.{w16, w32, w64, to_be_bytes}

-- what a head says: the tag, how many blocks each audit file has, and the bytes of the description
pub record Heading : Type 0 where
  pub tag : ℕ
  pub total : ℕ
  pub description : List ℕ

-- `DMSR`, the tag, the number of blocks, the length of the description, and its bytes
unfoldable pub head_bytes : Heading → List ℕ
head_bytes h = 68 ∷ 77 ∷ 83 ∷ 82 ∷ (to_be_bytes w64 h.tag ++ (to_be_bytes w16 h.total ++ (to_be_bytes w32 (length h.description) ++ h.description)))

-- block i of audit file k
unfoldable pub record_bytes : ℕ → ℕ → List ℕ → List ℕ
record_bytes k i block = 1 ∷ (to_be_bytes w32 k ++ (to_be_bytes w16 i ++ block))

-- blocks one after another, the first being block i of audit file k, where each file has so many
abbrev pub records_bytes : ℕ → ℕ → ℕ → List (List ℕ) → List ℕ
records_bytes total k i [] = []
records_bytes total k i (b ∷ bs) = record_bytes k i b ++ (if i == total then records_bytes total (k + 1) 1 bs else records_bytes total k (i + 1) bs)

-- the stream of these blocks, the first being block 1 of audit file k
unfoldable pub stream_bytes : Heading → ℕ → List (List ℕ) → List ℕ
stream_bytes h k blocks = head_bytes h ++ (records_bytes h.total k 1 blocks ++ 0 ∷ [])
