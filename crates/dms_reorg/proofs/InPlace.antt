-- A file that is given further items in its place.
use Rattle.std.proofs.Common.{◌≡◌, ◌≢◌, ◌∙◌, ◌+◌, ◌*◌, ◌<◌, ◌≤◌, ℕ, List, length, inl, inr, refl, sym, subst, ap, arith}
use Rattle.std.proofs.lemmas.Bool.{cases_lt}
use Rattle.dms_base.specs.declared.value.Value.{Value}
use Rattle.dms_block.specs.Content.{put_block}
use Rattle.dms_block.specs.ContentLaws.{laid_here, laid_length, laid_other}
use Rattle.dms_desc.specs.Shape.{Shape}
use Rattle.dms_slots.specs.SlotBlockLaws.{some_at}
use Rattle.dms_slots.specs.SlotBlocks.{block_at, per_block, slot_at}
use Rattle.dms_reorg.specs.InPlace.{EachInPlace, IsMade}
use Rattle.dms_reorg.specs.Widened.{IsWidened, up_to}
use Rattle.dms_reorg.proofs.Widened.{each_reads_before, free_past, widens_file}

at_here : (b : ℕ) (x : List ℕ) (cs : List (List ℕ)) → b ≤ length cs → block_at (put_block b x cs) b ≡ x
at_here b x cs le = sym (some_at (put_block b x cs) b (omega (arith, laid_length b x cs le))) ∙ laid_here b x cs le

at_other : (b : ℕ) (x : List ℕ) (cs : List (List ℕ)) (i : ℕ) → b ≤ length cs → i ≢ b → i < length cs → block_at (put_block b x cs) i ≡ block_at cs i
at_other b x cs i le apart low = sym (some_at (put_block b x cs) i (omega (arith, laid_length b x cs le, low))) ∙ laid_other b x cs i le apart ∙ some_at cs i low

module _ (s t : Shape) (more : List Value) (bs : List (List ℕ)) (some : 0 < per_block s.items) (some_then : 0 < per_block t.items) (fewer : per_block t.items ≤ per_block s.items) where
  abbrev Wide : ℕ → List ℕ → Type 0
  Wide i block = IsWidened t more (slot_at s bs) i block

  wide_here : (b : ℕ) (x : List ℕ) (cs : List (List ℕ)) (i : ℕ) → b ≤ length cs → i ≡ b → Wide b x → Wide i (block_at (put_block b x cs) i)
  wide_here b x cs i le is w = subst (λ j. Wide j (block_at (put_block b x cs) j)) (sym is) (subst (λ y. Wide b y) (sym (at_here b x cs le)) w)

  starts : IsMade s t more bs (length bs) (length bs) bs
  starts = record { long = refl; within = omega arith; same = λ i low there. refl; wide = λ i low top. absurd (omega (arith, low, top)) }

  rises : (cs : List (List ℕ)) (high : ℕ) (x : List ℕ) → IsMade s t more bs (length bs) high cs → IsWidened t more (up_to (length bs * per_block s.items) (slot_at s cs)) high x
      → IsMade s t more bs (length bs) (high + 1) (put_block high x cs)
  rises cs high x m w =
      let le : high ≤ length cs = omega (arith, m.long) in
      let made : Wide high x = (each_reads_before s t more).made bs cs high x some fewer (λ i upto there. m.same i there there) w in
      record {
        long = omega (arith, laid_length high x cs le, m.long);
        within = omega (arith, m.within);
        same = λ i low there. at_other high x cs i le (λ e. omega (arith, low, m.within, e)) (omega (arith, low, m.within, m.long)) ∙ m.same i low there;
        wide = λ i low top. elim (cases_lt i high) [
          | inl lt ↦ subst (λ y. Wide i y) (sym (at_other high x cs i le (λ e. omega (arith, lt, e)) (omega (arith, lt, m.long)))) (m.wide i low lt)
          | inr ge ↦ wide_here high x cs i le (omega (arith, ge, top)) made
        ];
      }

  falls : (cs : List (List ℕ)) (low high : ℕ) (x : List ℕ) → IsMade s t more bs (low + 1) high cs → IsWidened t more (up_to (length bs * per_block s.items) (slot_at s cs)) low x
      → IsMade s t more bs low high (put_block low x cs)
  falls cs low high x m w =
      let le : low ≤ length cs = omega (arith, m.long, m.within) in
      let made : Wide low x = (each_reads_before s t more).made bs cs low x some fewer (λ i upto there. m.same i (omega (arith, upto)) there) w in
      record {
        long = omega (arith, laid_length low x cs le, m.long, m.within);
        within = omega (arith, m.within);
        same = λ i lt there. at_other low x cs i le (λ e. omega (arith, lt, e)) (omega (arith, lt, m.within, m.long)) ∙ m.same i (omega (arith, lt)) there;
        wide = λ i ge top. elim (cases_lt low i) [
          | inl lt ↦ subst (λ y. Wide i y) (sym (at_other low x cs i le (λ e. omega (arith, lt, e)) (omega (arith, top, m.long)))) (m.wide i (omega (arith, lt)) top)
          | inr upto ↦ wide_here low x cs i le (omega (arith, ge, upto)) made
        ];
      }

pub each_in_place : EachInPlace
each_in_place s t more bs some some_then fewer = record {
  starts = starts s t more bs some some_then fewer;
  rises = rises s t more bs some some_then fewer;
  falls = falls s t more bs some some_then fewer;
  ends = λ cs high room m. widens_file s t more bs cs some_then (λ b low. m.wide b (omega arith) (omega (arith, low, m.long)))
      (λ n past. free_past s bs n some (omega (arith, past, room, ap (λ k. k * per_block t.items) m.long)));
}
