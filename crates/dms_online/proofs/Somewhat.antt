-- Some blocks more of a dump are copied.
use Rattle.std.proofs.Common.{ℕ, ◌+◌, ◌-◌, ◌<◌, ◌≡◌, inl, inr, IsTrue, List, [], ◌∷◌, Some, ◌∙◌, ap, arith}
use Rattle.std.specs.Prelude.{nat_lt}
use Rattle.std.proofs.lemmas.Bool.{cases_lt}
use Rattle.std.proofs.lemmas.Bool.Decides.{nat_tests}
use Rattle.dms_block.specs.Content.{Content, block_in}
use Rattle.dms_block.specs.Held.{HasNextNumber, Held, SameBlocks, Stays}
use Rattle.dms_dump.proofs.Bodies.{cond_same, cond_other}
use Rattle.dms_dump.specs.Copies.{id_at}
use Rattle.dms_dump.specs.Head.{all_blocks}
use Rattle.dms_history.specs.declared.event.FileCount.{FileCount}
use Rattle.dms_online.specs.Going.{GoesOn, IsNamed, IsQuiet, Went}
use Rattle.std.proofs.Common.{true, false}

pub quiet_stays : (low : ℕ) (a b : Held) → a.tells → IsTrue a.told → HasNextNumber a → Stays a b → SameBlocks a b → IsQuiet a low → IsQuiet b low
quiet_stays low a b tells told room stays same quiet f k = let p = quiet f k in record {
  before = p.before;
  point = p.point;
  after = p.after;
  are = (stays.points tells room).0 ∙ p.are;
  not_below = p.not_below;
  same = ap (λ (c : Content). block_in c f k) (same.content told) ∙ p.same;
}

-- one more of them
pub went_on : (a b c : Held) (old mid new : List ℕ) (front : ℕ) (counts : List FileCount) (n i low : ℕ) (head : List ℕ) → b.tells → IsTrue b.told → HasNextNumber b → Stays b c → SameBlocks b c
    → (GoesOn b mid front low counts i head → GoesOn c new front low counts (i + 1) head) → Went a b old mid front counts n i low head → Went a c old new front counts n (i + 1) low head
went_on a b c old mid new front counts n i low head tells told room stays same one went = record {
  quiet = quiet_stays low b c tells told room stays same went.quiet;
  goes = λ from. one (went.goes from);
}

-- each number below that of all blocks names one
pub all_named : (cs : List FileCount) (n : ℕ) → n < all_blocks cs → IsNamed cs n
all_named [] n low = absurd (omega (arith, low))
all_named (c ∷ cs) n low = elim (cases_lt n c.blocks) [
  | inl here ↦
      let on : nat_lt n c.blocks ≡ true = grind (arith, nat_tests, here) in
      record { file = c.file; block = n; is = cond_same (nat_lt n c.blocks) (Some (c.file, n)) (id_at cs (n - c.blocks)) on }
  | inr behind ↦
      let off : nat_lt n c.blocks ≡ false = grind (arith, nat_tests, behind) in
      let rest = all_named cs (n - c.blocks) (omega (arith, low, behind)) in
      record { file = rest.file; block = rest.block; is = cond_other (nat_lt n c.blocks) (Some (c.file, n)) (id_at cs (n - c.blocks)) off ∙ rest.is }
]
