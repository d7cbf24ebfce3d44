-- Files as vectors and as lists.
use Rattle.std.proofs.Common.{ℕ, zero, suc, ◌+◌, ◌≤◌, ◌<◌, ◌≡◌, ◌∙◌, List, [], ◌∷◌, ◌++◌, length, get_or, set, take, drop, None, inl, inr, min, refl, sym, ap, subst, arith, length-take}
use Rattle.std.proofs.lemmas.List.{get_or-take, take-take}
use Rattle.std.proofs.lemmas.Bool.{cases_lt}
use Rattle.std.specs.Global.{Vec}
use Rattle.dms_block.specs.declared.block.Block.{Block}
use Rattle.dms_memblocks.specs.declared.undo.BlockUndo.{BlockUndo}
use Rattle.dms_memblocks.specs.UndoLaws.{drop_all, take_all}
use Rattle.dms_memblocks.specs.Undoing.{BlockLists, old_in, rows, undo, undo_all}

pub set_rows : (vs : List (Vec Block)) (k : ℕ) (v : Vec Block) → rows (set vs k v) ≡ set (rows vs) k v.items
set_rows [] k v = refl
set_rows (x ∷ vs) zero v = refl
set_rows (x ∷ vs) (suc k) v = ap (λ l. x.items ∷ l) (set_rows vs k v)

pub at_rows : (vs : List (Vec Block)) (k : ℕ) (d : Vec Block) → k < length vs → get_or (rows vs) k [] ≡ (get_or vs k d).items
at_rows [] k d low = absurd (omega arith)
at_rows (x ∷ vs) zero d low = refl
at_rows (x ∷ vs) (suc k) d low = at_rows vs k d (omega arith)

pub length_rows : (vs : List (Vec Block)) → length (rows vs) ≡ length vs
length_rows [] = refl
length_rows (x ∷ vs) = ap suc (length_rows vs)

-- nothing is set behind the end
pub set_high : (fs : List (List Block)) (k : ℕ) (l : List Block) → length fs ≤ k → set fs k l ≡ fs
set_high [] k l high = refl
set_high (x ∷ fs) zero l high = absurd (omega arith)
set_high (x ∷ fs) (suc k) l high = ap (λ m. x ∷ m) (set_high fs k l (omega arith))

pub take_old : (us : List BlockUndo) (u : BlockUndo) → take (length us) (us ++ u ∷ []) ≡ us
take_old [] u = refl
take_old (v ∷ us) u = ap (λ l. v ∷ l) (take_old us u)

pub old_high : (b : ℕ) (l : List Block) → length l ≤ b → old_in b l ≡ None
old_high b [] high = refl
old_high zero (x ∷ l) high = absurd (omega arith)
old_high (suc b) (x ∷ l) high = old_high b l (omega arith)

-- one file is another one
pub set_with : (vs : List (Vec Block)) (k p : ℕ) (d v : Vec Block) (h : List Block → List Block) → k ≡ p → k < length vs → d ≡ get_or vs k d → v.items ≡ h d.items → rows (set vs k v) ≡ set (rows vs) p (h (get_or (rows vs) p []))
set_with vs k p d v h place low was now =
    subst (λ j. rows (set vs k v) ≡ set (rows vs) j (h (get_or (rows vs) j []))) place
    (set_rows vs k v ∙ ap (λ l. set (rows vs) k l) (now ∙ ap h (ap (λ (w : Vec Block). w.items) was ∙ sym (at_rows vs k d low))))

-- the last changes taken back

drops : (k : ℕ) (u : BlockUndo) (us : List BlockUndo) → drop (k + 1) us ≡ drop (suc k + 1) (u ∷ us)
drops k u us = let e : suc (k + 1) ≡ suc k + 1 = omega arith in ap (λ n. drop n (u ∷ us)) e

drop_at : (k : ℕ) (us : List BlockUndo) (d : BlockUndo) → k < length us → drop k us ≡ get_or us k d ∷ drop (k + 1) us
drop_at zero [] d low = absurd (omega arith)
drop_at (suc k) [] d low = absurd (omega arith)
drop_at zero (u ∷ us) d low = refl
drop_at (suc k) (u ∷ us) d low = drop_at k us d (omega arith) ∙ ap (λ l. get_or us k d ∷ l) (drops k u us)

pub back_step : (old log log' : List BlockUndo) (r0 r r' : BlockLists) (d : BlockUndo) (last : ℕ) → last + 1 ≡ length log → log ≡ take (length log) old → r ≡ undo_all (drop (length log) old) r0 → log' ≡ take last log → r' ≡ undo (get_or log last d) r
    → (log' ≡ take (length log') old) × (r' ≡ undo_all (drop (length log') old) r0) × (length log' ≡ last)
back_step old log log' r0 r r' d last is so_far back less now =
    let long : length log ≤ length old = omega (arith, ap length so_far, length-take (length log) old) in
    let short : length log' ≡ last = omega (arith, ap length less, length-take last log, is) in
    let entry : get_or log last d ≡ get_or old last d = ap (λ l. get_or l last d) so_far ∙ get_or-take (length log) old last d (omega (arith, is)) in (
      less ∙ ap (λ l. take last l) so_far ∙ take-take last (length log) old (omega (arith, is)) ∙ ap (λ n. take n old) (omega (arith, short, is)),
      now ∙ ap (λ u. undo u r) entry ∙ ap (λ f. undo (get_or old last d) f) (back ∙ ap (λ n. undo_all (drop n old) r0) (sym is))
          ∙ ap (λ l. undo_all l r0) (sym (drop_at last old d (omega (arith, long, is)))) ∙ ap (λ n. undo_all (drop n old) r0) (sym short),
      short,
    )

pub back_end : (old log : List BlockUndo) (n : ℕ) → log ≡ take (length log) old → min n (length old) ≤ length log → length log ≤ n → (take (length log) old ≡ take n old) × (drop (length log) old ≡ drop n old)
back_end old log n so_far enough few = elim (cases_lt n (length old)) [
  | inl less ↦ let is : length log ≡ n = omega (arith, less, enough, few) in (ap (λ k. take k old) is, ap (λ k. drop k old) is)
  | inr no_less ↦
      let all : length old ≤ length log = omega (arith, no_less, enough) in
      (take_all (length log) old all ∙ sym (take_all n old (omega (arith, no_less))), drop_all (length log) old all ∙ sym (drop_all n old (omega (arith, no_less))))
]

pub rows_push : (vs : List (Vec Block)) (v : Vec Block) → rows (vs ++ v ∷ []) ≡ rows vs ++ v.items ∷ []
rows_push [] v = refl
rows_push (x ∷ vs) v = ap (λ l. x.items ∷ l) (rows_push vs v)
