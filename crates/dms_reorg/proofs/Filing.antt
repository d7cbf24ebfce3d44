-- The turns of a file that is given further items in its place.
use Rattle.std.proofs.Math.Nat as nat
use Rattle.std.proofs.Common.{◌≡◌, ◌∙◌, ◌+◌, ◌-◌, ◌*◌, ◌/◌, ◌<◌, ◌≤◌, ℕ, suc, List, length, inl, inr, sym, subst, ap, arith}
use Rattle.std.specs.Prelude.{max, min}
use Rattle.std.proofs.lemmas.Bool.{cases_lt}
use Rattle.std.proofs.lemmas.Nat.{div-add-mod'}
use Rattle.dms_base.specs.declared.value.Value.{Value}
use Rattle.dms_block.specs.Content.{Content, put_block}
use Rattle.dms_block.specs.ContentLaws.{in_file}
use Rattle.dms_desc.specs.Files.{file_of}
use Rattle.dms_desc.specs.Shape.{Shape}
use Rattle.dms_slots.specs.SlotBlocks.{per_block, slot_at}
use Rattle.dms_reorg.specs.InPlace.{InPlace, IsInTurn, IsMade}
use Rattle.dms_reorg.specs.Widened.{HasNoneBehind, IsWidened, IsWidenedFile, up_to, WidensAt}
use Rattle.dms_reorg.proofs.Widened.{free_past, widens_file}

-- the counts of blocks
pub next_count : (old count turn block : ℕ) → old ≤ count → turn < count → IsInTurn old count turn block → max (min count (old + turn)) (block + 1) ≡ min count (old + (turn + 1))
next_count old count turn block le low is = elim (cases_lt turn (count - old)) [
  | inl less ↦ (let e = is.behind less in omega (arith, e, less, le, low))
  | inr back ↦ (let e = is.back back in omega (arith, e, back, le, low))
]

-- a block that is read isn't made
pub reads_low : (old count turn block k : ℕ) → old ≤ count → turn < count → IsInTurn old count turn block → k < old → k ≤ block → k < min old (count - turn)
reads_low old count turn block k le low is there upto = elim (cases_lt turn (count - old)) [
  | inl less ↦ omega (arith, less, le, low, there, upto)
  | inr back ↦ (let e = is.back back in omega (arith, e, back, le, low, there, upto))
]

-- a block that is made stands in the file or behind its end
pub turn_low : (old count turn block : ℕ) → old ≤ count → turn < count → IsInTurn old count turn block → block ≤ min count (old + turn)
turn_low old count turn block le low is = elim (cases_lt turn (count - old)) [
  | inl less ↦ (let e = is.behind less in omega (arith, e, less, le, low))
  | inr back ↦ (let e = is.back back in omega (arith, e, back, le, low))
]

-- a block with a slot up to the last one of so many blocks is one of them
pub old_block : (per old last k : ℕ) → last ≡ old * per → k * per < last → k < old
old_block per old last k is low = elim (cases_lt k old) [
  | inl less ↦ less
  | inr past ↦
      let le : old ≤ k = past in
      absurd (omega (arith, nat.mul-le-mul_right per le, is, low))
]

-- the bounds of a call behind one turn more
pub turns_bound : (turn count w : ℕ) → turn < count → turn * w + w ≤ count * w
turns_bound turn count w low =
    let le : suc turn ≤ count = omega (arith, low) in
    omega (arith, nat.suc-mul turn w, nat.mul-le-mul_right w le)

-- so many blocks, rounded up, have room for so many slots, and aren't more
pub rounded_room : (slots per count : ℕ) → 0 < per → (slots + per - 1) / per ≤ count → slots ≤ count * per
rounded_room slots per count some le = omega (arith, div-add-mod' (slots + per - 1) per, nat.mod-lt (slots + per - 1) some, nat.mul-le-mul_right per le, some)

pub rounded_most : (slots per : ℕ) → 0 < per → (slots + per - 1) / per ≤ slots
rounded_most slots per some =
    let one : 1 ≤ per = omega (arith, some) in
    let under : slots + per - 1 < (slots + 1) * per = omega (arith, nat.suc-mul slots per, nat.mul-le-mul_left slots one, some) in
    let lt : (slots + per - 1) / per < slots + 1 = (nat.div-lt_iff_lt-mul some).1 under in
    omega (arith, lt)

module _ (s t : Shape) (more : List Value) (bs : List (List ℕ)) where
  moved : (l l' h h' : ℕ) (cs : List (List ℕ)) → l ≡ l' → h ≡ h' → IsMade s t more bs l h cs → IsMade s t more bs l' h' cs
  moved l l' h h' cs one two m = subst (λ n. IsMade s t more bs n h' cs) one (subst (λ n. IsMade s t more bs l n cs) two m)

  module _ (ip : InPlace s t more bs) (last : ℕ) (last_is : last ≡ length bs * per_block s.items) (c d : Content) where
    is_put : (b : ℕ) (w : WidensAt s t more last b c d) → d (file_of s.number) ≡ put_block b w.block (c (file_of s.number))
    is_put b w = ap (λ (x : Content). x (file_of s.number)) w.is ∙ in_file c (file_of s.number) b w.block

    read : (b : ℕ) (w : WidensAt s t more last b c d) → IsWidened t more (up_to (length bs * per_block s.items) (slot_at s (c (file_of s.number)))) b w.block
    read b w = subst (λ n. IsWidened t more (up_to n (slot_at s (c (file_of s.number)))) b w.block) last_is w.widened

    made_up : (high : ℕ) → IsMade s t more bs (length bs) high (c (file_of s.number)) → WidensAt s t more last high c d → IsMade s t more bs (length bs) (high + 1) (d (file_of s.number))
    made_up high m w = subst (λ (ds : List (List ℕ)). IsMade s t more bs (length bs) (high + 1) ds) (sym (is_put high w)) (ip.rises (c (file_of s.number)) high w.block m (read high w))

    made_down : (low high : ℕ) → IsMade s t more bs (low + 1) high (c (file_of s.number)) → WidensAt s t more last low c d → IsMade s t more bs low high (d (file_of s.number))
    made_down low high m w = subst (λ (ds : List (List ℕ)). IsMade s t more bs low high ds) (sym (is_put low w)) (ip.falls (c (file_of s.number)) low high w.block m (read low w))

    -- one turn
    pub made_on : (old count turn block : ℕ) → length bs ≡ old → old ≤ count → turn < count → IsInTurn old count turn block
        → IsMade s t more bs (min old (count - turn)) (min count (old + turn)) (c (file_of s.number)) → WidensAt s t more last block c d
        → IsMade s t more bs (min old (count - (turn + 1))) (min count (old + (turn + 1))) (d (file_of s.number))
    made_on old count turn block long le low is m w = elim (cases_lt turn (count - old)) [
      | inl less ↦
          let at : block ≡ old + turn = is.behind less in
          let here = moved (min old (count - turn)) (length bs) (min count (old + turn)) block (c (file_of s.number)) (omega (arith, long, less, le)) (omega (arith, at, less, le)) m in
          moved (length bs) (min old (count - (turn + 1))) (block + 1) (min count (old + (turn + 1))) (d (file_of s.number)) (omega (arith, long, less, le)) (omega (arith, at, less, le)) (made_up block here w)
      | inr back ↦
          let at : block + turn + 1 ≡ count = is.back back in
          let here = moved (min old (count - turn)) (block + 1) (min count (old + turn)) count (c (file_of s.number)) (omega (arith, at, back, le)) (omega (arith, back, le)) m in
          moved block (min old (count - (turn + 1))) count (min count (old + (turn + 1))) (d (file_of s.number)) (omega (arith, at, back, le)) (omega (arith, back, le)) (made_down block count here w)
    ]

  -- before the first turn, and behind the last one
  pub made_first : (old count : ℕ) → length bs ≡ old → old ≤ count → InPlace s t more bs → IsMade s t more bs (min old (count - 0)) (min count (old + 0)) bs
  made_first old count long le ip = moved (length bs) (min old (count - 0)) (length bs) (min count (old + 0)) bs (omega (arith, long, le)) (omega (arith, long, le)) ip.starts

  pub made_last : (old count turn : ℕ) (cs : List (List ℕ)) → turn ≡ count → IsMade s t more bs (min old (count - turn)) (min count (old + turn)) cs → IsMade s t more bs 0 count cs
  made_last old count turn cs all m = moved (min old (count - turn)) 0 (min count (old + turn)) count cs (omega (arith, all)) (omega (arith, all)) m

  -- then each slot has its place
  pub made_file : (count : ℕ) (cs : List (List ℕ)) → 0 < per_block s.items → 0 < per_block t.items → min (length bs * per_block s.items) s.population ≤ count * per_block t.items
      → HasNoneBehind s bs → IsMade s t more bs 0 count cs → IsWidenedFile s t more bs cs
  made_file count cs some some_then room none m =
      widens_file s t more bs cs some_then (λ b low. m.wide b (omega arith) (omega (arith, low, m.long)))
      (λ n past.
      let up : count * per_block t.items < n = omega (arith, past, ap (λ k. k * per_block t.items) m.long) in
      elim (cases_lt (length bs * per_block s.items) n) [
        | inl far ↦ free_past s bs n some far
        | inr near ↦ none n (omega (arith, up, room, near))
      ])
