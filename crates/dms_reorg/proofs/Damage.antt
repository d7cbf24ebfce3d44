-- Which blocks may be found damaged while a file is widened in its place.
use Rattle.std.proofs.Common.{◌≡◌, ◌≢◌, ◌∙◌, ◌+◌, ◌-◌, ◌*◌, ◌/◌, ◌<◌, ◌≤◌, ℕ, List, [], true, Ok, Err, inl, inr, sym, ap, subst, length, get_or, arith}
use Rattle.std.specs.Prelude.{IsTrue, ◌==◌}
use Rattle.std.specs.declared.result.Result.{Result}
use Rattle.std.proofs.Math.Nat as nat
use Rattle.std.proofs.lemmas.Bool.{and_parts, cases_eq, cases_lt}
use Rattle.std.proofs.lemmas.Bool.Decides.{nat_tests}
use Rattle.dms_base.specs.declared.value.Value.{Value}
use Rattle.dms_block.specs.declared.block_fault.BlockFault.{BlockFault}
use Rattle.dms_block.specs.declared.block_fault.BlockFault.TheVariants.{Disk, Memory, Full, Damaged, Say}
use Rattle.dms_block.specs.declared.blocks.Blocks.{Ghosts}
use Rattle.dms_block.specs.declared.overlay.Overlay.{Overlay}
use Rattle.dms_block.specs.Content.{Content}
use Rattle.dms_block.specs.Counts.{Faults, Raised}
use Rattle.dms_block.specs.Held.{BlocksAgree, HasCausesOr, Held, IsShort, Lasts}
use Rattle.dms_block.specs.HeldLaws.{causes_or_on, told_after}
use Rattle.dms_block.specs.View.{ReadsOverlay, overlay_changes, overlay_content, under}
use Rattle.dms_desc.specs.Files.{file_of}
use Rattle.dms_desc.specs.Shape.{Shape}
use Rattle.dms_desc.specs.declared.structure.Item.{Item}
use Rattle.dms_slots.specs.Seen.{BadAt, BadIn, blocks_of, count_of}
use Rattle.dms_slots.specs.SlotBlockLaws.{some_at}
use Rattle.dms_slots.specs.SlotBlocks.{are_slots, block_at, block_of, is_block, per_block}
use Rattle.dms_reorg.specs.Damage.{BadBefore, HasCausesSince, IsDamaged, IsNoBlock}
use Rattle.dms_reorg.specs.InPlace.{IsMade}
use Rattle.dms_reorg.proofs.OneFile.{content_below}
use Rattle.dms_reorg.proofs.Seen.{bad_since}

-- ---- one block

slot_behind : (items : List Item) (n b : ℕ) → 0 < per_block items → n ≤ (b + 1) * per_block items → block_of items n ≤ b
slot_behind items n b some low =
    let under : n - 1 < (b + 1) * per_block items = omega (arith, low, some, nat.suc-mul b (per_block items)) in
    let lt : (n - 1) / per_block items < b + 1 = (nat.div-lt_iff_lt-mul some).1 under in
    omega (arith, lt)

slot_before : (items : List Item) (n last : ℕ) → 1 ≤ n → n ≤ last → block_of items n * per_block items < last
slot_before items n last low le = omega (arith, low, le, nat.div-mul-le_self (n - 1) (per_block items))

-- the number of a slot that a widened block has
turn_number : (s t : Shape) (block place number : ℕ) → per_block t.items ≤ per_block s.items → place < per_block t.items → number ≡ block * per_block t.items + place + 1 → block_of s.items number ≤ block
turn_number s t block place number fewer low is =
    let whole : (block + 1) * per_block t.items ≤ (block + 1) * per_block s.items = nat.mul-le-mul_left (block + 1) fewer in
    slot_behind s.items number block (omega (arith, fewer, low)) (omega (arith, is, low, whole, nat.suc-mul block (per_block t.items)))

module _ {B : Type 0} {g : Ghosts B} where
  -- a fault at the slot of a widened block, after reads that went well
  pub slot_causes : {T U : Type 0} {n : ℕ} {x : T} (s t : Shape) (r : Result U BlockFault) (last block place number : ℕ) (a b c : Overlay B g) → (under b).faults ≡ (under a).faults → ReadsOverlay n (Ok x) a b
      → per_block t.items ≤ per_block s.items → place < per_block t.items → number ≡ block * per_block t.items + place + 1
      → HasCausesOr (λ f k. BadAt s (block_of s.items number) b f k × (number ≤ last)) r (under b) (under c) → HasCausesOr (BadBefore s last block a) r (under a) (under c)
  slot_causes s t r last block place number a b c is reads fewer low at h =
      let upto = turn_number s t block place number fewer low at in
      causes_or_on (λ f k. BadAt s (block_of s.items number) b f k × (number ≤ last)) (BadBefore s last block a) r (under a) (under b) (under c)
      (λ f k p. (
        (
          bad_since s a b reads f k p.0.0,
          subst (λ m. m * per_block s.items < last) (sym p.0.1) (slot_before s.items number last (omega (arith, at)) p.1),
        ),
        omega (arith, p.0.1, upto),
      )) is reads.looks.passes.lasts reads.looks.same h

-- ---- a file of which blocks are made

block_long : (s : Shape) (block : List ℕ) → is_block s block ≡ true → length block ≡ 1024
unfolding is_block
block_long s block good = grind (arith, nat_tests, (and_parts (length block == 1024) (are_slots s (per_block s.items) block) good).0)

-- a block that isn't made is one of 1,024 bytes where it was one, and one that is made is
made_long : (s t : Shape) (more : List Value) (bs cs : List (List ℕ)) (low high n : ℕ) → IsMade s t more bs low high cs → low ≤ length bs → n < high → length (get_or bs n []) ≡ 1024 → length (get_or cs n []) ≡ 1024
made_long s t more bs cs low high n m within there long = elim (cases_lt n low) [
  | inl less ↦
      let was : n < length bs = omega (arith, less, within) in
      ap length (some_at cs n (omega (arith, there, m.long)) ∙ m.same n less was ∙ sym (some_at bs n was)) ∙ long
  | inr made ↦ ap length (some_at cs n (omega (arith, there, m.long))) ∙ block_long t (block_at cs n) (m.wide n made there).good
]

module _ {B : Type 0} {g : Ghosts B} (s t : Shape) (more : List Value) (o p : Overlay B g) (last low high block : ℕ) (lasts : Lasts (under o) (under p)) (agrees : BlocksAgree (under p))
    (clean : overlay_changes o ≡ []) (clean_then : overlay_changes p ≡ []) (within : IsTrue (under o).told → low ≤ length (blocks_of s o)) (made : IsTrue (under o).told → IsMade s t more (blocks_of s o) low high (blocks_of s p))
    (others : IsTrue (under o).told → (f : ℕ) → f ≢ file_of s.number → overlay_content p f ≡ overlay_content o f)
    (first : (k : ℕ) → k * per_block s.items < last → k ≤ block → (k < count_of s o) × (k < low)) where
  was : (f : ℕ) → overlay_content o f ≡ (under o).content f
  was f = ap (λ (c : Content). c f) (content_below o clean)

  is : (f : ℕ) → overlay_content p f ≡ (under p).content f
  is f = ap (λ (c : Content). c f) (content_below p clean_then)

  -- a block that is short was so at entry
  no_block : (f n : ℕ) → IsShort (under p) f n → IsNoBlock (under o) f n
  no_block f n short = (
    subst (λ (owns : ℕ → _). IsTrue (owns f)) lasts.owns short.0,
    λ told long. short.2 (told_after lasts told) (elim (cases_eq f (file_of s.number)) [
      | inl same ↦
          let m = made told in
          let long' : length (get_or (blocks_of s o) n []) ≡ 1024 = ap (λ (l : List (List ℕ)). length (get_or l n [])) (was (file_of s.number) ∙ ap (under o).content (sym same)) ∙ long in
          let there : n < high = omega (arith, short.1, agrees.counted (told_after lasts told) f, ap length (ap (under p).content same ∙ sym (is (file_of s.number))), m.long) in
          ap (λ (l : List (List ℕ)). length (get_or l n [])) (ap (under p).content same ∙ sym (is (file_of s.number))) ∙ made_long s t more (blocks_of s o) (blocks_of s p) low high n m (within told) there long'
      | inr apart ↦ ap (λ (l : List (List ℕ)). length (get_or l n [])) (sym (is f) ∙ others told f apart ∙ was f) ∙ long
    ]),
  )

  -- and so was one that is none of the data set
  bad_then : (f k : ℕ) → BadBefore s last block p f k → BadIn s o f k
  bad_then f k h =
      let at = first k h.0.1 h.1 in (
        (
          h.0.0.0.0,
          λ told.
              let bad = h.0.0.0.1 (told_after lasts told) in
              let there : k < length (blocks_of s o) = omega (arith, at.1, within told) in
              (there, ap (is_block s) (some_at (blocks_of s o) k there ∙ sym ((made told).same k at.1 there) ∙ sym (some_at (blocks_of s p) k bad.0)) ∙ bad.1),
        ),
        at.0,
      )

  counted : (e : BlockFault) (c : Faults) → (under p).faults ≡ (under o).faults → Raised e (under p).faults c → Raised e (under o).faults c
  counted e c same h = subst (λ f. Raised e f c) same h

  -- the causes of a fault behind some turns
  pub since : {T : Type 0} (r : Result T BlockFault) (c : Held) → (under p).faults ≡ (under o).faults → HasCausesOr (BadBefore s last block p) r (under p) c → HasCausesSince (IsDamaged s o) r (under o) c
  since (Ok x) c same h = h ∙ same
  since (Err Disk) c same h = counted Disk c.faults same h
  since (Err Memory) c same h = counted Memory c.faults same h
  since (Err (Full f)) c same h = counted (Full f) c.faults same h
  since (Err (Damaged f n)) c same (inl h) = (inl (counted (Damaged f n) c.faults same h.0), inr (no_block f n h.1))
  since (Err (Damaged f n)) c same (inr h) = (inr (h.0 ∙ same), inl (bad_then f n h.1))
  since (Err Say) c same h = h

-- the same where more blocks may be named
pub since_wider : {T : Type 0} (P Q : ℕ → ℕ → Type 0) (r : Result T BlockFault) (a b : Held) → ((f n : ℕ) → P f n → Q f n) → HasCausesSince P r a b → HasCausesSince Q r a b
since_wider P Q (Ok x) a b w h = h
since_wider P Q (Err Disk) a b w h = h
since_wider P Q (Err Memory) a b w h = h
since_wider P Q (Err (Full f)) a b w h = h
since_wider P Q (Err (Damaged f n)) a b w h = (h.0, w f n h.1)
since_wider P Q (Err Say) a b w h = h
