-- One block more of a dump is copied.
use Rattle.std.proofs.Common.{ℕ, ◌+◌, ◌*◌, ◌≡◌, IsTrue, List, ◌∷◌, ◌++◌, length, Option, Some, None, sym, ◌∙◌, ap, subst, arith, append_assoc, length-append}
use Rattle.std.specs.Prelude.{⊤}
use Rattle.dms_site.specs.Files.{overlay_bytes}
use Rattle.dms_block.specs.Content.{block_in}
use Rattle.dms_block.specs.Held.{HasNextNumber, Held, SameBlocks, Stays}
use Rattle.dms_history.specs.declared.event.FileCount.{FileCount}
use Rattle.dms_dump.proofs.Copied.{overlay_end}
use Rattle.dms_dump.specs.Copies.{id_at}
use Rattle.dms_online.specs.Copying.{IsAtPoint, IsCopying}
use Rattle.dms_online.specs.Going.{GoesOn, IsQuiet}
use Rattle.dms_online.proofs.Progress.{copying_more, copying_stays}

-- what is asked of the block of this file and number, where there is one
AtId : (ℕ → ℕ → Type 0) → Option (ℕ × ℕ) → Type 0
AtId P (Some p) = P p.0 p.1
AtId P None = ⊤

-- the block of the content of now, where that is the last point's
pub copying_one : (low : ℕ) (counts : List FileCount) (n : ℕ) (body : List ℕ) (f k : ℕ) (a b : Held) → IsCopying a low counts n body → a.tells → IsTrue a.told → HasNextNumber a → Stays a b → SameBlocks a b → b.next ≡ a.next
    → length (block_in a.content f k) ≡ 1024 → id_at counts n ≡ Some (f, k) → IsAtPoint a.points low f k (block_in a.content f k) → IsCopying b low counts (n + 1) (body ++ block_in a.content f k)
unfolding AtId
copying_one low counts n body f k a b c tells told room stays same next size id here =
    let bytes = block_in a.content f k in
    let P : ℕ → ℕ → Type 0 = λ g j. IsAtPoint a.points low g j bytes in
    let one : (g j : ℕ) → id_at counts n ≡ Some (g, j) → P g j = λ g j is. subst (λ (o : Option (ℕ × ℕ)). AtId P o) (sym id ∙ is) here in
    copying_stays low counts (n + 1) (body ++ bytes) a b (copying_more low counts n body bytes a c size one) tells told room stays same (omega (arith, next))

-- and so its file goes on
pub file_goes_on : (head body bytes file : List ℕ) (at : ℕ) → file ≡ 0 ∷ (head ++ body) → at ≡ 1 + length head + length body → overlay_bytes at bytes file ≡ 0 ∷ (head ++ (body ++ bytes))
file_goes_on head body bytes file at is place =
    let long : length file ≡ at = omega (arith, ap (λ (l : List ℕ). length l) is, length-append head body, place) in
    overlay_end at bytes file long ∙ ap (λ (l : List ℕ). l ++ bytes) is ∙ ap (λ (l : List ℕ). 0 ∷ l) (append_assoc head body bytes)

pub goes_next : (a b : Held) (old new : List ℕ) (front low : ℕ) (counts : List FileCount) (n : ℕ) (head : List ℕ) (f k at : ℕ) → a.tells → IsTrue a.told → HasNextNumber a → Stays a b → SameBlocks a b → b.next ≡ a.next → at ≡ front + 1024 * n
    → new ≡ overlay_bytes at (block_in a.content f k) old → length (block_in a.content f k) ≡ 1024 → id_at counts n ≡ Some (f, k) → IsQuiet a low → GoesOn a old front low counts n head → GoesOn b new front low counts (n + 1) head
goes_next a b old new front low counts n head f k at tells told room stays same next place wrote size id quiet goes = record {
  body = goes.body ++ block_in a.content f k;
  is = wrote ∙ file_goes_on head goes.body (block_in a.content f k) old at goes.is (omega (arith, place, goes.place, goes.copying.has.long));
  place = goes.place;
  copying = copying_one low counts n goes.body f k a b goes.copying tells told room stays same next size id (quiet f k);
}
