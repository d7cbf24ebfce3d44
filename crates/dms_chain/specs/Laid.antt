-- A look at blocks of which one was written.
use Rattle.std.proofs.Common.{ℕ, zero, suc, ◌≤◌, ◌≡◌, ◌∙◌, List, [], ◌∷◌, Some, None, cond, eqb, length, slice_get, refl, sym, arith}
use Rattle.std.specs.declared.option.Option.{Option}
use Rattle.std.proofs.lemmas.Bool.Decides.{nat_tests}
use Rattle.dms_block.specs.Content.{put_block}
use Rattle.dms_chain.specs.Linked.{put}

zero_off : (n : ℕ) (o p : Option (List ℕ)) → cond (eqb 0 (suc n)) o p ≡ p
zero_off n o p = grind (arith, nat_tests)

suc_off : (n : ℕ) (o p : Option (List ℕ)) → cond (eqb (suc n) 0) o p ≡ p
suc_off n o p = grind (arith, nat_tests)

suc_same : (m n : ℕ) (o p : Option (List ℕ)) → cond (eqb m n) o p ≡ cond (eqb (suc m) (suc n)) o p
suc_same m n o p = grind (arith, nat_tests)

laid_at : (b : ℕ) (x : List ℕ) (bs : List (List ℕ)) (n : ℕ) → b ≤ length bs → slice_get (put_block b x bs) n ≡ put (slice_get bs) b x n
laid_at zero x [] zero le = refl
laid_at zero x [] (suc n) le = sym (suc_off n (Some x) None)
laid_at (suc b) x [] n le = absurd (omega arith)
laid_at zero x (y ∷ bs) zero le = refl
laid_at zero x (y ∷ bs) (suc n) le = sym (suc_off n (Some x) (slice_get bs n))
laid_at (suc b) x (y ∷ bs) zero le = sym (zero_off b (Some x) (Some y))
laid_at (suc b) x (y ∷ bs) (suc n) le = laid_at b x bs n (omega arith) ∙ suc_same n b (Some x) (slice_get bs n)

pub laid_look : (b : ℕ) (x : List ℕ) (bs : List (List ℕ)) → b ≤ length bs → slice_get (put_block b x bs) ≡ put (slice_get bs) b x
laid_look b x bs le = λ i n. laid_at b x bs n le i
