-- What is taken of a stream, up to its first bad byte. Places are counted from 1; p is that of the first byte that follows.
use Rattle.std.specs.Prelude.{ℕ, zero, suc, ◌+◌, ◌*◌, ◌^◌, ◌<◌, ◌≡◌, ◌&&◌, nat_le, nat_lt, if◌then◌else◌, Bool, List, [], ◌∷◌, length, take, drop}
use Rattle.std.specs.declared.option.Option.{Option}
use Rattle.std.specs.declared.option.Option.TheVariants.{Some, None}
use Rattle.dms_feed.specs.Feeds.{Remains}
use Rattle.dms_stream.specs.declared.fault.StreamFault.{StreamFault}
use Rattle.dms_stream.specs.declared.fault.StreamFault.TheVariants.{Input, Bytes, Bad, Memory}
use Rattle.std.specs.Int.{w64, from_be_bytes}
use Rattle.dms_stream.specs.declared.heading.Heading.{Heading}
use Rattle.dms_stream.specs.declared.reader.StreamReader.{StreamReader}

-- what was taken, the place of the first byte that follows, and what follows; or the first bad byte
pub data Taken (A : Type 0) : Type 0 where
  got : A → ℕ → List ℕ → Taken A
  bad : ℕ → Taken A

abbrev pub then_take : {A B : Type 0} → Taken A → (A → ℕ → List ℕ → Taken B) → Taken B
then_take (got x p bs) f = f x p bs
then_take (bad q) f = bad q

-- the next byte, if there is one
abbrev pub next_taken : ℕ → List ℕ → Taken (Option ℕ)
next_taken p [] = got None p []
next_taken p (b ∷ bs) = got (Some b) (p + 1) bs

-- one byte
abbrev pub byte_taken : ℕ → List ℕ → Taken ℕ
byte_taken p [] = bad p
byte_taken p (b ∷ bs) = got b (p + 1) bs

-- some number from lo to hi begins with `g`, of which n bytes are still to come
abbrev pub may_begin : ℕ → ℕ → ℕ → ℕ → Bool
may_begin n lo hi g = nat_le (g * 256 ^ n) hi && nat_lt lo ((g + 1) * 256 ^ n)

-- n bytes more of a number from lo to hi, behind `g`; bad at the first byte behind which no such number stands
abbrev pub number_taken : ℕ → ℕ → ℕ → ℕ → ℕ → List ℕ → Taken ℕ
number_taken zero lo hi g p bs = got g p bs
number_taken (suc n) lo hi g p [] = bad p
number_taken (suc n) lo hi g p (b ∷ bs) = if may_begin n lo hi (g * 256 + b) then number_taken n lo hi (g * 256 + b) (p + 1) bs else bad p

-- n bytes
abbrev pub bytes_taken : ℕ → ℕ → List ℕ → Taken (List ℕ)
bytes_taken n p bs = if nat_lt (length bs) n then bad (p + length bs) else got (take n bs) (p + n) (drop n bs)

-- the most bytes that an input may have
abbrev pub most_bytes : ℕ
most_bytes = 2147483648

-- it was taken, and the reader stands behind it
pub record IsTaken {A : Type 0} (t : Taken A) (sum : ℕ) (new : StreamReader) (left : Option (List ℕ)) (x : A) : Type 0 where
  pub rest : List ℕ
  pub is : t ≡ got x (new.taken + 1) rest
  pub remains : Remains new.feed left rest
  pub size : sum ≡ new.taken + length rest

-- where what remains is told, it was taken so
abbrev pub Takes : {A : Type 0} → (ℕ → List ℕ → Taken A) → StreamReader → Option (List ℕ) → StreamReader → Option (List ℕ) → A → Type 0
Takes read old left new left' x = (all : List ℕ) → Remains old.feed left all → IsTaken (read (old.taken + 1) all) (old.taken + length all) new left' x

-- why it wasn't: its first bad byte; or the input has too many bytes; a failure of the input or want of memory says nothing
abbrev pub NotTaken : {A : Type 0} → Taken A → ℕ → StreamFault → Type 0
NotTaken t size Input = Unit {0}
NotTaken t size Bytes = most_bytes < size
NotTaken t size (Bad q) = t ≡ bad q
NotTaken t size Memory = Unit {0}

abbrev pub Refuses : {A : Type 0} → (ℕ → List ℕ → Taken A) → StreamReader → Option (List ℕ) → StreamFault → Type 0
Refuses read old left e = (all : List ℕ) → Remains old.feed left all → NotTaken (read (old.taken + 1) all) (old.taken + length all) e

-- ---- the parts of a stream

-- a length of at most 65,535, and so many bytes
abbrev pub text_taken : ℕ → List ℕ → Taken (List ℕ)
text_taken p bs = then_take (number_taken 4 0 65535 0 p bs) (λ n. bytes_taken n)

-- what a head says: the tag, how many blocks each audit file has, and the bytes of the description
pub record Headed : Type 0 where
  pub tag : ℕ
  pub total : ℕ
  pub description : List ℕ

abbrev pub headed : Heading → Headed
headed h = record { tag = h.tag; total = h.total; description = h.description.items }

abbrev pub tag_then : ℕ → ℕ → ℕ → List ℕ → Taken Headed
tag_then tag total p bs = then_take (text_taken p bs) (λ description p bs. got (record { tag = tag; total = total; description = description }) p bs)

-- `DMSR`, a tag, 8 to 512, and a text, which isn't judged
abbrev pub heading_taken : ℕ → List ℕ → Taken Headed
heading_taken p bs =
    then_take (number_taken 4 1145918290 1145918290 0 p bs) (λ mark p bs. then_take (bytes_taken 8 p bs) (λ tag p bs. then_take (number_taken 2 8 512 0 p bs) (tag_then (from_be_bytes w64 tag))))

-- a block of that file
pub record Placed : Type 0 where
  pub file : ℕ
  pub block : List ℕ

abbrev pub placed_in : Option ℕ → List ℕ → Option Placed
placed_in None block = None
placed_in (Some k) block = Some (record { file = k; block = block })

-- nothing follows
abbrev pub end_taken : ℕ → List ℕ → Taken (Option Placed)
end_taken p [] = got None p []
end_taken p (b ∷ bs) = bad p

abbrev pub block_taken : ℕ → ℕ → ℕ → ℕ → List ℕ → Taken (Option Placed)
block_taken low high number p bs =
    then_take (number_taken 4 low high 0 p bs) (λ file p bs. then_take (number_taken 2 number number 0 p bs) (λ same p bs. then_take (bytes_taken 4096 p bs) (λ block. got (Some (record { file = file; block = block })))))

abbrev pub behind_kind : ℕ → ℕ → ℕ → ℕ → ℕ → List ℕ → Taken (Option Placed)
behind_kind low high number zero p bs = end_taken p bs
behind_kind low high number (suc kind) p bs = block_taken low high number p bs

-- 1, a file from low to high, this number, and 4,096 bytes, which aren't judged; or 0 and nothing more
abbrev pub record_taken : ℕ → ℕ → ℕ → ℕ → List ℕ → Taken (Option Placed)
record_taken low high number p bs = then_take (number_taken 1 0 1 0 p bs) (behind_kind low high number)

-- 0 and nothing more, behind the last block of file 9,999
abbrev pub last_taken : ℕ → List ℕ → Taken (Option Placed)
last_taken p bs = then_take (number_taken 1 0 0 0 p bs) (λ kind. end_taken)
