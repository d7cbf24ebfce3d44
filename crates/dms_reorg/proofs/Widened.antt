-- The file of a data set that has further items.
use Rattle.std.proofs.Common.{◌≡◌, ◌∙◌, ◌+◌, ◌-◌, ◌*◌, ◌/◌, ◌<◌, ◌≤◌, ℕ, suc, List, [], ◌∷◌, ◌++◌, Bool, true, inl, inr, refl, sym, ap, length, slice_get, arith}
use Rattle.std.specs.List.{list_all}
use Rattle.std.proofs.lemmas.Bool.{and_from, and_parts, cases_lt}
use Rattle.std.proofs.lemmas.Nat.{div-add-mod'}
use Rattle.std.proofs.Math.Nat as nat
use Rattle.dms_base.specs.Fits.{fits}
use Rattle.dms_base.specs.declared.value.Value.{Value}
use Rattle.dms_desc.specs.declared.structure.Item.{Item}
use Rattle.dms_desc.specs.Fitting.{values_fit}
use Rattle.dms_desc.specs.Shape.{Shape}
use Rattle.dms_desc.specs.Widths.{record_width}
use Rattle.dms_layout.specs.Slots.{slot_width}
use Rattle.dms_layout.specs.declared.slot.SlotRead.TheVariants.{Free}
use Rattle.dms_slots.specs.FileWritten.{slot_is, zeros_in}
use Rattle.dms_slots.specs.SlotBlockLaws.{none_at}
use Rattle.dms_slots.specs.SlotBlocks.{block_at, block_of, is_block, or_free, per_block, place_of, slot_at, slots_in}
use Rattle.dms_reorg.specs.Widened.{EachReadsBefore, IsWidened, up_to, widened, WidenedFits, WidensFile}
use Rattle.dms_reorg.proofs.Capped.{up_past, up_within}

-- ---- files

all_at : (p : List ℕ → Bool) (cs : List (List ℕ)) → ((b : ℕ) → b < length cs → p (block_at cs b) ≡ true) → list_all p cs ≡ true
all_at p [] each = refl
all_at p (c ∷ cs) each = and_from _ _ (each 0 (omega arith)) (all_at p cs (λ b low. each (suc b) (omega (arith, low))))

module _ (s t : Shape) (more : List Value) (bs cs : List (List ℕ)) (some : 0 < per_block t.items) (each : (b : ℕ) → b < length cs → IsWidened t more (slot_at s bs) b (block_at cs b))
    (free : (n : ℕ) → length cs * per_block t.items < n → slot_at s bs n ≡ Free) where
  number_is : (n : ℕ) → 1 ≤ n → block_of t.items n * per_block t.items + place_of t.items n + 1 ≡ n
  number_is n low = omega (arith, div-add-mod' (n - 1) (per_block t.items), low)

  slot_is_widened : (n : ℕ) → 1 ≤ n → slot_at t cs n ≡ widened more (slot_at s bs n)
  slot_is_widened n low = elim (cases_lt (block_of t.items n) (length cs)) [
    | inl there ↦
        slot_is t cs n some ∙ (each (block_of t.items n) there).each (place_of t.items n) (nat.mod-lt (n - 1) some)
        ∙ ap (λ k. widened more (slot_at s bs k)) (number_is n low)
    | inr high ↦
        let past : length cs ≤ block_of t.items n = high in
        let first : length cs * per_block t.items ≤ block_of t.items n * per_block t.items = nat.mul-le-mul_right (per_block t.items) past in
        let none : slot_at s bs n ≡ Free = free n (omega (arith, number_is n low, first)) in
        slot_is t cs n some ∙ ap (λ x. or_free (slice_get (slots_in t x) (place_of t.items n))) (none_at cs (block_of t.items n) past) ∙ zeros_in t (place_of t.items n)
        ∙ sym (ap (widened more) none)
  ]

pub widens_file : WidensFile
widens_file s t more bs cs some each free = record {
  blocks = all_at (is_block t) cs (λ b low. (each b low).good);
  slots = slot_is_widened s t more bs cs some each free;
}

-- ---- records

both_fit : (items further : List Item) (vs ws : List Value) → values_fit items vs ≡ true → values_fit further ws ≡ true → values_fit (items ++ further) (vs ++ ws) ≡ true
both_fit [] further [] ws one two = two
both_fit [] further (v ∷ vs) ws one two = absurd (cc (one))
both_fit (i ∷ items) further [] ws one two = absurd (cc (one))
both_fit (i ∷ items) further (v ∷ vs) ws one two =
    let parts = and_parts (fits i.kind v) (values_fit items vs) one in
    and_from _ _ parts.0 (both_fit items further vs ws parts.1 two)

pub widened_fits : WidenedFits
widened_fits s t more slot w fit = ap (λ (l : List Item). values_fit l (slot.rec.values ++ more)) w.items ∙ both_fit s.items w.further slot.rec.values more fit w.fit

-- ---- the order of blocks

width_both : (items further : List Item) → record_width items ≤ record_width (items ++ further)
width_both [] further = omega arith
width_both (i ∷ items) further = let e = width_both items further in omega (arith, e)

-- slots behind the last block are free
pub free_past : (s : Shape) (bs : List (List ℕ)) (n : ℕ) → 0 < per_block s.items → length bs * per_block s.items < n → slot_at s bs n ≡ Free
free_past s bs n some past =
    let high : length bs ≤ block_of s.items n = (nat.le-div_iff_mul-le some).1 (omega (arith, past)) in
    slot_is s bs n some ∙ ap (λ x. or_free (slice_get (slots_in s x) (place_of s.items n))) (none_at bs (block_of s.items n) high) ∙ zeros_in s (place_of s.items n)

pub each_reads_before : EachReadsBefore
each_reads_before s t more = record {
  same = λ bs cs n b some low equal.
      let at : block_of s.items n ≤ b = behind n b some low in
      slot_is s cs n some ∙ ap (λ x. or_free (slice_get (slots_in s x) (place_of s.items n))) (equal (block_of s.items n) at) ∙ sym (slot_is s bs n some);
  fewer = λ w.
      let wide : slot_width s.items ≤ slot_width t.items = omega (arith, width_both s.items w.further, ap record_width w.items) in
      elim (cases_lt 0 (slot_width s.items)) [
        | inl some ↦
            let whole : per_block t.items * slot_width t.items ≤ 1024 = nat.div-mul-le_self 1024 (slot_width t.items) in
            let less : per_block t.items * slot_width s.items ≤ per_block t.items * slot_width t.items = nat.mul-le-mul_left (per_block t.items) wide in
            (nat.le-div_iff_mul-le some).1 (omega (arith, less, whole))
        | inr none ↦ absurd (omega (arith, none))
      ];
  made = λ bs cs b block some fewer equal is. record { good = is.good; each = λ p low. is.each p low ∙ ap (widened more) (still bs cs b p some fewer equal low) };
}
  where
    behind : (n b : ℕ) → 0 < per_block s.items → n ≤ (b + 1) * per_block s.items → block_of s.items n ≤ b
    behind n b some low =
        let under : n - 1 < (b + 1) * per_block s.items = omega (arith, low, some, nat.suc-mul b (per_block s.items)) in
        let lt : (n - 1) / per_block s.items < b + 1 = (nat.div-lt_iff_lt-mul some).1 under in
        omega (arith, lt)

    still : (bs cs : List (List ℕ)) (b p : ℕ) → 0 < per_block s.items → per_block t.items ≤ per_block s.items → ((i : ℕ) → i ≤ b → i < length bs → block_at cs i ≡ block_at bs i) → p < per_block t.items
        → up_to (length bs * per_block s.items) (slot_at s cs) (b * per_block t.items + p + 1) ≡ slot_at s bs (b * per_block t.items + p + 1)
    still bs cs b p some fewer equal low =
        let n = b * per_block t.items + p + 1 in
        let last = length bs * per_block s.items in
        let whole : (b + 1) * per_block t.items ≤ (b + 1) * per_block s.items = nat.mul-le-mul_left (b + 1) fewer in
        let upto : n ≤ (b + 1) * per_block s.items = omega (arith, low, whole, nat.suc-mul b (per_block t.items)) in
        let at : block_of s.items n ≤ b = behind n b some upto in
        elim (cases_lt last n) [
          | inl past ↦ up_past last (slot_at s cs) n past ∙ sym (free_past s bs n some past)
          | inr within ↦
              let under : n - 1 < length bs * per_block s.items = omega (arith, within) in
              let there : block_of s.items n < length bs = (nat.div-lt_iff_lt-mul some).1 under in
              up_within last (slot_at s cs) n within ∙ slot_is s cs n some ∙ ap (λ x. or_free (slice_get (slots_in s x) (place_of s.items n))) (equal (block_of s.items n) at there) ∙ sym (slot_is s bs n some)
        ]
