-- A stream is read as it was written, whole or cut.
use Rattle.std.proofs.Common.{ℕ, zero, suc, ◌+◌, ◌-◌, ◌/◌, ◌^◌, ◌<◌, ◌≤◌, ◌≡◌, ◌∙◌, ◌==◌, sym, ap, subst, refl, cond, Bool, true, false, List, [], ◌∷◌, length, take, ◌++◌, arith, length-append, append_assoc, nat_le, inl, inr}
use Rattle.std.proofs.lemmas.Bool.Decides.{nat_tests}
use Rattle.std.proofs.lemmas.Bool.{cases_lt}
use Rattle.std.proofs.lemmas.List.{take-append-le}
use Rattle.std.specs.declared.option.Option.{Option}
use Rattle.std.specs.declared.option.Option.TheVariants.{Some, None}
use Rattle.std.specs.Int.{w16, w32, w64, to_be_bytes, from_be_bytes}
use Rattle.std.proofs.lemmas.Nat.{from_be_bytes-to_be_bytes_8}
use Rattle.dms_stream.specs.Stream.{Heading, head_bytes, record_bytes, records_bytes, stream_bytes}
use Rattle.dms_stream.specs.Taking.{Taken, got, bad, then_take, number_taken, bytes_taken, text_taken, Headed, tag_then, heading_taken, Placed, block_taken, behind_kind, record_taken, last_taken}
use Rattle.dms_stream.specs.Whole.{file_next, number_next, BlocksRead, with_block, read_behind, one_taken, blocks_read, read_headed, stream_read, AreInFiles, MayStream, said_by, ReadsStream, ReadsCutHead, ReadsCut}
use Rattle.dms_stream.proofs.Pieces.{Reads, then_reads, told_as, one_reads, two_reads, four_reads, bytes_reads, take_behind}

-- ---- the head

text_reads : (text : List ℕ) → length text ≤ 65535 → Reads text_taken text (to_be_bytes w32 (length text) ++ text)
text_reads text few =
    then_reads (number_taken 4 0 65535 0) (λ n. bytes_taken n) (length text) text (to_be_bytes w32 (length text)) text (four_reads 0 65535 (length text) (omega (arith, few)) (omega arith) few) (bytes_reads (length text) text refl)

described : (tag total : ℕ) (text : List ℕ) → length text ≤ 65535 → Reads (tag_then tag total) (record { tag = tag; total = total; description = text }) (to_be_bytes w32 (length text) ++ text)
described tag total text few =
    told_as text_taken (λ description p bs. got (record { tag = tag; total = total; description = description }) p bs) text (record { tag = tag; total = total; description = text }) (to_be_bytes w32 (length text) ++ text) (text_reads text few) (λ p rest. refl)

tag_is : (tag total : ℕ) (text : List ℕ) → tag < 2 ^ 64 → length text ≤ 65535
    → Reads (tag_then (from_be_bytes w64 (to_be_bytes w64 tag)) total) (record { tag = tag; total = total; description = text }) (to_be_bytes w32 (length text) ++ text)
tag_is tag total text fits few =
    subst (λ (t : ℕ). Reads (tag_then t total) (record { tag = tag; total = total; description = text }) (to_be_bytes w32 (length text) ++ text)) (sym (from_be_bytes-to_be_bytes_8 tag fits)) (described tag total text few)

pub head_reads : (h : Heading) (k : ℕ) (blocks : List (List ℕ)) → MayStream h k blocks → Reads heading_taken (said_by h) (head_bytes h)
unfolding head_bytes
head_reads h k blocks may =
    let tag = to_be_bytes w64 h.tag in
    let said : List ℕ → Headed = λ bytes. record { tag = from_be_bytes w64 bytes; total = h.total; description = h.description } in
    let text = to_be_bytes w32 (length h.description) ++ h.description in
    let total = to_be_bytes w16 h.total in
    then_reads (number_taken 4 1145918290 1145918290 0) (λ mark p bs. then_take (bytes_taken 8 p bs) (λ tag p bs. then_take (number_taken 2 8 512 0 p bs) (tag_then (from_be_bytes w64 tag)))) 1145918290 (said_by h)
    (68 ∷ 77 ∷ 83 ∷ 82 ∷ []) (tag ++ (total ++ text)) (four_reads 1145918290 1145918290 1145918290 (omega arith) (omega arith) (omega arith))
    (then_reads (bytes_taken 8) (λ tag p bs. then_take (number_taken 2 8 512 0 p bs) (tag_then (from_be_bytes w64 tag))) tag (said_by h) tag (total ++ text) (bytes_reads 8 tag refl)
    (then_reads (number_taken 2 8 512 0) (tag_then (from_be_bytes w64 tag)) h.total (said_by h) total text (two_reads 8 512 h.total (omega (arith, may.total)) may.total.0 may.total.1) (tag_is h.tag h.total h.description may.tag may.few)))

-- ---- a record

block_reads : (low high k i : ℕ) (block : List ℕ) → low ≤ k → k ≤ high → k ≤ 9999 → i < 65536 → length block ≡ 4096
    → Reads (block_taken low high i) (Some (record { file = k; block = block })) (to_be_bytes w32 k ++ (to_be_bytes w16 i ++ block))
block_reads low high k i block above below few small size =
    let x : Option Placed = Some (record { file = k; block = block }) in
    then_reads (number_taken 4 low high 0) (λ file p bs. then_take (number_taken 2 i i 0 p bs) (λ same p bs. then_take (bytes_taken 4096 p bs) (λ block. got (Some (record { file = file; block = block }))))) k x (to_be_bytes w32 k) (to_be_bytes w16 i ++ block)
    (four_reads low high k (omega (arith, few)) above below)
    (then_reads (number_taken 2 i i 0) (λ same p bs. then_take (bytes_taken 4096 p bs) (λ block. got (Some (record { file = k; block = block })))) i x (to_be_bytes w16 i) block (two_reads i i i small (omega arith) (omega arith))
    (told_as (bytes_taken 4096) (λ block. got (Some (record { file = k; block = block }))) block x block (bytes_reads 4096 block size) (λ p rest. refl)))

record_reads : (low high k i : ℕ) (block : List ℕ) → low ≤ k → k ≤ high → k ≤ 9999 → i < 65536 → length block ≡ 4096
    → Reads (record_taken low high i) (Some (record { file = k; block = block })) (record_bytes k i block)
unfolding record_bytes
record_reads low high k i block above below few small size =
    then_reads (number_taken 1 0 1 0) (behind_kind low high i) 1 (Some (record { file = k; block = block })) (1 ∷ []) (to_be_bytes w32 k ++ (to_be_bytes w16 i ++ block)) (one_reads 0 1 1 (omega arith) (omega arith) (omega arith)) (block_reads low high k i block above below few small size)

record_size : (k i : ℕ) (block : List ℕ) → length block ≡ 4096 → length (record_bytes k i block) ≡ 4103
unfolding record_bytes
record_size k i block size = omega (arith, size)

-- ---- the records

-- the records behind the first one
behind_one : (total k i : ℕ) (bs : List (List ℕ)) (t : Bool) → cond t (records_bytes total (k + 1) 1 bs) (records_bytes total k (i + 1) bs) ≡ records_bytes total (cond t (k + 1) k) (cond t 1 (i + 1)) bs
behind_one total k i bs true = refl
behind_one total k i bs false = refl

-- what follows in a stream from block i of file k on
tail_bytes : ℕ → ℕ → ℕ → List (List ℕ) → List ℕ
tail_bytes total k i blocks = records_bytes total k i blocks ++ 0 ∷ []

tail_more : (total k i : ℕ) (b : List ℕ) (bs : List (List ℕ)) → tail_bytes total k i (b ∷ bs) ≡ record_bytes k i b ++ tail_bytes total (file_next total k i) (number_next total i) bs
unfolding tail_bytes
tail_more total k i b bs =
    ap (λ (l : List ℕ). (record_bytes k i b ++ l) ++ 0 ∷ []) (behind_one total k i bs (i == total)) ∙ append_assoc (record_bytes k i b) (records_bytes total (file_next total k i) (number_next total i) bs) (0 ∷ [])

abbrev tail_behind : ℕ → ℕ → ℕ → List (List ℕ) → List ℕ
tail_behind total k i bs = tail_bytes total (file_next total k i) (number_next total i) bs

tail_none : (total k i : ℕ) → tail_bytes total k i [] ≡ 0 ∷ []
unfolding tail_bytes
tail_none total k i = refl

-- a number within its file stays one
number_within : (total i : ℕ) → total ≤ 512 → 1 ≤ i → i ≤ total → 1 ≤ total → (1 ≤ number_next total i) × (number_next total i ≤ total)
number_within total i few low high some = by (i == total) refl
  where
    by : (t : Bool) → (i == total) ≡ t → (1 ≤ cond t 1 (i + 1)) × (cond t 1 (i + 1) ≤ total)
    by true is = (omega arith, omega (arith, some))
    by false is = (omega arith, grind (arith, nat_tests, is, high))

one_in : (low high i p : ℕ) (bs : List ℕ) → low ≤ 9999 → one_taken low high i p bs ≡ record_taken low high i p bs
one_in low high i p bs few = let le : nat_le low 9999 ≡ true = grind (arith, nat_tests, few) in ap (λ (t : Bool). cond t (record_taken low high i p bs) (last_taken p bs)) le

one_end : (low high i p : ℕ) → one_taken low high i p (0 ∷ []) ≡ got None (p + 1) []
one_end low high i p = by (nat_le low 9999)
  where
    by : (t : Bool) → cond t (record_taken low high i p (0 ∷ [])) (last_taken p (0 ∷ [])) ≡ got None (p + 1) []
    by true = refl
    by false = refl

one_empty : (low high i p : ℕ) → one_taken low high i p [] ≡ bad p
one_empty low high i p = by (nat_le low 9999)
  where
    by : (t : Bool) → cond t (record_taken low high i p []) (last_taken p []) ≡ bad p
    by true = refl
    by false = refl

abbrev cut_read : List (List ℕ) → ℕ → BlocksRead
cut_read blocks q = record { blocks = blocks; bad_at = Some q }

tail_some : (total k i : ℕ) (blocks : List (List ℕ)) → 1 ≤ length (tail_bytes total k i blocks)
unfolding tail_bytes
tail_some total k i blocks = omega (arith, length-append (records_bytes total k i blocks) (0 ∷ []))

tail_size : (total k i : ℕ) (b : List ℕ) (bs : List (List ℕ)) → length b ≡ 4096 → length (tail_bytes total k i (b ∷ bs)) ≡ 4103 + length (tail_behind total k i bs)
tail_size total k i b bs size =
    ap (λ (l : List ℕ). length l) (tail_more total k i b bs) ∙ length-append (record_bytes k i b) (tail_behind total k i bs) ∙ ap (λ (s : ℕ). s + length (tail_behind total k i bs)) (record_size k i b size)

-- what is done behind a block of a file
abbrev goes_on : ℕ → ℕ → ℕ → ℕ → ℕ → List ℕ → BlocksRead
goes_on m total i file = blocks_read m total (file_next total file i) (file_next total file i) (number_next total i)

records_whole : (n total low high k i p : ℕ) (blocks : List (List ℕ)) → total ≤ 512 → 1 ≤ i → i ≤ total → low ≤ k → k ≤ high → AreInFiles total k i blocks → length (tail_bytes total k i blocks) ≤ n
    → blocks_read n total low high i p (tail_bytes total k i blocks) ≡ record { blocks = blocks; bad_at = None }
records_whole zero total low high k i p blocks small one most above below placed few = absurd (omega (arith, few, tail_some total k i blocks))
records_whole (suc m) total low high k i p [] small one most above below placed few =
    ap (λ (l : List ℕ). read_behind (one_taken low high i p l) (goes_on m total i)) (tail_none total k i) ∙ ap (λ (t : Taken (Option Placed)). read_behind t (goes_on m total i)) (one_end low high i p)
records_whole (suc m) total low high k i p (b ∷ bs) small one most above below placed few =
    let tail = tail_behind total k i bs in
    let reads = record_reads low high k i b above below placed.1 (omega (arith, most, small)) placed.0 in
    let within = number_within total i small one most (omega (arith, one, most)) in
    let next = records_whole m total (file_next total k i) (file_next total k i) (file_next total k i) (number_next total i) (p + length (record_bytes k i b)) bs small within.0 within.1 (omega arith) (omega arith) placed.2
    (omega (arith, few, tail_size total k i b bs placed.0)) in
    ap (λ (l : List ℕ). read_behind (one_taken low high i p l) (goes_on m total i)) (tail_more total k i b bs)
    ∙ ap (λ (t : Taken (Option Placed)). read_behind t (goes_on m total i)) (one_in low high i p (record_bytes k i b ++ tail) (omega (arith, above, placed.1)) ∙ reads.whole p tail)
    ∙ ap (λ (r : BlocksRead). with_block b r) next

records_cut : (n total low high k i p c : ℕ) (blocks : List (List ℕ)) → total ≤ 512 → 1 ≤ i → i ≤ total → low ≤ k → k ≤ high → AreInFiles total k i blocks → c < length (tail_bytes total k i blocks) → c < n
    → blocks_read n total low high i p (take c (tail_bytes total k i blocks)) ≡ record { blocks = take (c / 4103) blocks; bad_at = Some (p + c) }
records_cut zero total low high k i p c blocks small one most above below placed short few = absurd (omega (arith, few))
records_cut (suc m) total low high k i p zero [] small one most above below placed short few =
    let at : p ≡ p + 0 = omega arith in
    ap (λ (t : Taken (Option Placed)). read_behind t (goes_on m total i)) (one_empty low high i p) ∙ ap (λ (q : ℕ). cut_read [] q) at
records_cut (suc m) total low high k i p (suc c) [] small one most above below placed short few = absurd (omega (arith, short, ap (λ (l : List ℕ). length l) (tail_none total k i)))
records_cut (suc m) total low high k i p c (b ∷ bs) small one most above below placed short few =
    let tail = tail_behind total k i bs in
    let front = record_bytes k i b in
    let long = record_size k i b placed.0 in
    let size = tail_size total k i b bs placed.0 in
    let reads = record_reads low high k i b above below placed.1 (omega (arith, most, small)) placed.0 in
    ap (λ (l : List ℕ). read_behind (one_taken low high i p (take c l)) (goes_on m total i)) (tail_more total k i b bs)
    ∙ ap (λ (t : Taken (Option Placed)). read_behind t (goes_on m total i)) (one_in low high i p (take c (front ++ tail)) (omega (arith, above, placed.1)))
    ∙ elim (cases_lt c 4103) [
      | inl within ↦ (let none : 0 ≡ c / 4103 = omega (arith, within) in
          ap (λ (l : List ℕ). read_behind (record_taken low high i p l) (goes_on m total i)) (take-append-le c front tail (omega (arith, within, long)))
          ∙ ap (λ (t : Taken (Option Placed)). read_behind t (goes_on m total i)) (reads.cut p c (omega (arith, within, long)))
          ∙ ap (λ (j : ℕ). cut_read (take j (b ∷ bs)) (p + c)) none)
      | inr behind ↦ (let d = c - 4103 in
          let is : c ≡ length front + d = omega (arith, behind, long) in
          let ranks = number_within total i small one most (omega (arith, one, most)) in
          let next = records_cut m total (file_next total k i) (file_next total k i) (file_next total k i) (number_next total i) (p + length front) d bs small ranks.0 ranks.1 (omega arith) (omega arith) placed.2
          (omega (arith, short, size, behind)) (omega (arith, few, behind)) in
          let many : suc (d / 4103) ≡ c / 4103 = omega (arith, behind) in
          let at : p + length front + d ≡ p + c = omega (arith, is) in
          ap (λ (l : List ℕ). read_behind (record_taken low high i p l) (goes_on m total i)) (take_behind front tail c d is)
          ∙ ap (λ (t : Taken (Option Placed)). read_behind t (goes_on m total i)) (reads.whole p (take d tail))
          ∙ ap (λ (r : BlocksRead). with_block b r) next
          ∙ (λ j. cut_read (take (many j) (b ∷ bs)) (at j)))
    ]

-- ---- the stream

module _ (h : Heading) (k : ℕ) (blocks : List (List ℕ)) (may : MayStream h k blocks) where
  abbrev head : List ℕ
  head = head_bytes h

  abbrev tail : List ℕ
  tail = tail_bytes h.total k 1 blocks

  reads : Reads heading_taken (said_by h) head
  reads = head_reads h k blocks may

  stream_is : stream_bytes h k blocks ≡ head ++ tail
  unfolding stream_bytes tail_bytes
  stream_is = refl

  pub stream_whole : stream_read (stream_bytes h k blocks) ≡ record { head = Some (said_by h); read = record { blocks = blocks; bad_at = None } }
  stream_whole =
      ap (λ (l : List ℕ). stream_read l) stream_is ∙ ap (λ (t : Taken Headed). read_headed t) (reads.whole 1 tail)
      ∙ ap (λ (r : BlocksRead). record { head = Some (said_by h); read = r })
      (records_whole (suc (length tail)) h.total 1 9999 k 1 (1 + length head) blocks may.total.1 (omega arith) (omega (arith, may.total.0)) may.from.0 may.from.1 may.placed (omega arith))

  pub stream_cut_early : (c : ℕ) → c < length head → stream_read (take c (stream_bytes h k blocks)) ≡ record { head = None; read = record { blocks = []; bad_at = Some (c + 1) } }
  stream_cut_early c few =
      let at : 1 + c ≡ c + 1 = omega arith in
      ap (λ (l : List ℕ). stream_read (take c l)) stream_is ∙ ap (λ (l : List ℕ). stream_read l) (take-append-le c head tail (omega (arith, few)))
      ∙ ap (λ (t : Taken Headed). read_headed t) (reads.cut 1 c few) ∙ ap (λ (q : ℕ). record { head = None; read = record { blocks = []; bad_at = Some q } }) at

  pub stream_cut : (c : ℕ) → length head ≤ c → c < length (stream_bytes h k blocks)
      → stream_read (take c (stream_bytes h k blocks)) ≡ record { head = Some (said_by h); read = record { blocks = take ((c - length head) / 4103) blocks; bad_at = Some (c + 1) } }
  stream_cut c some short =
      let d = c - length head in
      let is : c ≡ length head + d = omega (arith, some) in
      let size : length (stream_bytes h k blocks) ≡ length head + length tail = ap (λ (l : List ℕ). length l) stream_is ∙ length-append head tail in
      let less : d < length tail = omega (arith, is, short, size) in
      let at : 1 + length head + d ≡ c + 1 = omega (arith, is) in
      ap (λ (l : List ℕ). stream_read (take c l)) stream_is ∙ ap (λ (l : List ℕ). stream_read l) (take_behind head tail c d is)
      ∙ ap (λ (t : Taken Headed). read_headed t) (reads.whole 1 (take d tail))
      ∙ ap (λ (r : BlocksRead). record { head = Some (said_by h); read = r })
      (records_cut (suc (length (take d tail))) h.total 1 9999 k 1 (1 + length head) d blocks may.total.1 (omega arith) (omega (arith, may.total.0)) may.from.0 may.from.1 may.placed less (omega (arith, taken_size d tail less)))
      ∙ ap (λ (q : ℕ). record { head = Some (said_by h); read = record { blocks = take (d / 4103) blocks; bad_at = Some q } }) at
    where
      taken_size : (n : ℕ) (xs : List ℕ) → n < length xs → length (take n xs) ≡ n
      taken_size zero xs some = refl
      taken_size (suc n) [] some = absurd (omega (arith, some))
      taken_size (suc n) (x ∷ xs) some = ap (λ (m : ℕ). suc m) (taken_size n xs (omega (arith, some)))

pub reads_stream : ReadsStream
reads_stream h k blocks may = stream_whole h k blocks may

pub reads_cut_head : ReadsCutHead
reads_cut_head h k blocks may = stream_cut_early h k blocks may

pub reads_cut : ReadsCut
reads_cut h k blocks may = stream_cut h k blocks may
