-- Blocks that are marked as met, by their numbers.
use Rattle.std.specs.Prelude.{ℕ, ◌≡◌, ◌<◌, ◌==◌, ◌&&◌, Bool, true, false, List}
use Rattle.dms_chain.specs.Linked.{times}
use Rattle.dms_shapes.specs.Walks.{AreFresh, is_fresh}

-- none of these was met before, and just they were marked
pub record Marked (old seen : List Bool) (ns : List ℕ) : Type 0 where
  pub fresh : AreFresh old ns
  pub marks : (n : ℕ) → is_fresh seen n ≡ (is_fresh old n && (times n ns == 0))

abbrev pub MarksAnswer : List Bool → List Bool → List ℕ → Bool → Type 0
MarksAnswer old seen ns true = Marked old seen ns
MarksAnswer old seen ns false = AreFresh old ns → ⊥

-- each of them is below a count
abbrev pub AreBelow : ℕ → List ℕ → Type 0
AreBelow count ns = (n : ℕ) → 0 < times n ns → n < count
