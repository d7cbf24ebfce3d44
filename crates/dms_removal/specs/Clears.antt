-- Calls that correct the slots at some places, one after another.
use Rattle.std.proofs.Common.{◌≡◌, ◌∙◌, ◌+◌, ◌<◌, ◌≤◌, ℕ, zero, suc, List, [], ◌∷◌, ◌++◌, Bool, IsTrue, refl, ap, subst, length, length-append, get_or, take, arith}
use Rattle.std.specs.Prelude.{IfOk}
use Rattle.std.specs.declared.result.Result.{Result}
use Rattle.std.specs.declared.result.Result.TheVariants.{Ok, Err}
use Rattle.dms_block.specs.Content.{Content}
use Rattle.dms_block.specs.Held.{HasCausesOr}
use Rattle.dms_block.specs.HeldLaws.{causes_or_on, lasts_none, same_none}
use Rattle.dms_block.specs.View.{overlay_content, under}
use Rattle.dms_block.specs.declared.block_fault.BlockFault.{BlockFault}
use Rattle.dms_block.specs.declared.blocks.Blocks.{Ghosts}
use Rattle.dms_block.specs.declared.overlay.Overlay.{Overlay}
use Rattle.dms_chain.specs.SeenLaws.{causes_err}
use Rattle.dms_desc.specs.Shape.{Described}
use Rattle.dms_links.specs.Altering.{WritesSlots, causes_after, told_writes, writes_as, writes_err, writes_then, wrote_none}
use Rattle.dms_links.specs.AlteringIn.{AltersIn, BadOf}
use Rattle.dms_links.specs.Clearing.{CorrectsAll}
use Rattle.dms_links.specs.Stepping.{AreSlotFiles, none_bad_of}
use Rattle.dms_links.specs.declared.altering.SlotChange.TheVariants.{Corrected}
use Rattle.dms_model.specs.Db.{Place}
use Rattle.dms_spelling.specs.After.{corrected_files}

-- ---- the calls

-- The slots at these places are corrected, and at most one block is written for each. Where data sets are slots no block is found damaged.
pub record ClearsSlots {B : Type 0} {g : Ghosts B} {T : Type 0} (desc : Described) (to number : ℕ) (ps : List Place) (result : Result T BlockFault) (a b : Overlay B g) : Type 0 where
  pub writes : WritesSlots (length ps) result a b
  pub cleared : IfOk result (λ x. IsTrue (under a).told → CorrectsAll desc to number ps (overlay_content a) (overlay_content b))
  pub causes : IsTrue (under a).told → AreSlotFiles desc (overlay_content a) → HasCausesOr (λ f k. ⊥) result (under a) (under b)

-- one place more
pub corrects_more : (desc : Described) (to number : ℕ) (ps : List Place) (p : Place) (done : Bool) (c e d : Content) → CorrectsAll desc to number ps c e → AltersIn desc p.0 p.1 (Corrected to number) e d done → CorrectsAll desc to number (ps ++ p ∷ []) c d
corrects_more desc to number [] p done c e d h a = (d, done, subst (λ (x : Content). AltersIn desc p.0 p.1 (Corrected to number) x d done) h a, refl)
corrects_more desc to number (q ∷ ps) p done c e d (x, b, first, h) a = (x, b, first, corrects_more desc to number ps p done x e d h a)

-- the first places, and the next one
pub take_next : {A : Type 0} (xs : List A) (k : ℕ) (d : A) → k < length xs → take (k + 1) xs ≡ take k xs ++ get_or xs k d ∷ []
take_next [] k d low = absurd (omega (arith, low))
take_next (y ∷ ys) zero d low = refl
take_next (y ∷ ys) (suc k) d low =
    let e : suc k + 1 ≡ suc (k + 1) = omega arith in
    ap (λ n. take n (y ∷ ys)) e ∙ ap (λ zs. y ∷ zs) (take_next ys k d (omega (arith, low)))

pub take_all : {A : Type 0} (xs : List A) (k : ℕ) → length xs ≤ k → take k xs ≡ xs
take_all [] zero past = refl
take_all [] (suc k) past = refl
take_all (x ∷ xs) zero past = absurd (omega (arith, past))
take_all (x ∷ xs) (suc k) past = ap (λ zs. x ∷ zs) (take_all xs k (omega (arith, past)))

module _ {B : Type 0} {g : Ghosts B} (desc : Described) (to number : ℕ) where
  pub clears_none : {T : Type 0} (x : T) (a : Overlay B g) → ((b : B) → g.same_blocks b b) → (under a).sound → ClearsSlots desc to number [] (Ok x) a a
  clears_none x a again sound = record { writes = wrote_none 0 (Ok x) a again tt refl sound; cleared = λ told. refl; causes = λ told files. refl }

  pub clears_as : {T U : Type 0} {x : T} (y : U) (ps : List Place) (a b : Overlay B g) → ClearsSlots desc to number ps (Ok x) a b → ClearsSlots desc to number ps (Ok y) a b
  clears_as y ps a b h = record { writes = writes_as (length ps) y a b h.writes; cleared = h.cleared; causes = h.causes }

  -- one more slot was altered,
  pub clears_one : {T : Type 0} {x : T} (ps : List Place) (p : Place) (done : Bool) (a b c : Overlay B g) → ((x y z : B) → g.same_blocks x y → g.same_blocks y z → g.same_blocks x z) → ClearsSlots desc to number ps (Ok x) a b → WritesSlots 1 (Ok done) b c
      → (IsTrue (under b).told → AltersIn desc p.0 p.1 (Corrected to number) (overlay_content b) (overlay_content c) done) → ClearsSlots desc to number (ps ++ p ∷ []) (Ok x) a c
  clears_one {x = x} ps p done a b c onward h writes altered =
      let n : length ps + 1 ≤ length (ps ++ p ∷ []) = omega (arith, length-append ps (p ∷ [])) in
      let both = writes_then (length ps) 1 (length (ps ++ p ∷ [])) (Ok done) a b c onward n h.writes writes in
      record {
        writes = writes_as (length (ps ++ p ∷ [])) x a c both;
        cleared = λ told. corrects_more desc to number ps p done (overlay_content a) (overlay_content b) (overlay_content c) (h.cleared told) (altered (told_writes (length ps) a b h.writes told));
        causes = λ told files. both.causes;
      }

  -- or it failed
  pub clears_err : {T U : Type 0} {x : T} (ps all : List Place) (p : Place) (e : BlockFault) (a b c : Overlay B g) → ((x y z : B) → g.same_blocks x y → g.same_blocks y z → g.same_blocks x z) → length ps + 1 ≤ length all → ClearsSlots desc to number ps (Ok x) a b
      → WritesSlots {T = Bool} 1 (Err e) b c → HasCausesOr {T = Bool} (BadOf desc p.0 b) (Err e) (under b) (under c) → ClearsSlots {T = U} desc to number all (Err e) a c
  clears_err {U = U} ps all p e a b c onward le h writes causes =
      record {
        writes = writes_err (length all) e a c (writes_then {U = Bool} (length ps) 1 (length all) (Err e) a b c onward le h.writes writes);
        cleared = tt;
        causes = λ told files.
            let told_b = told_writes (length ps) a b h.writes told in
            let files_b = corrected_files desc to number ps (overlay_content a) (overlay_content b) files (h.cleared told) in
            let mine = causes_or_on {T = Bool} (BadOf desc p.0 b) (λ f k. ⊥) (Err e) (under b) (under b) (under c) (none_bad_of desc b p.0 told_b files_b) refl (lasts_none (under b)) (same_none (under b)) causes in
            causes_err Bool U (λ f k. ⊥) (λ f k. ⊥) e (under a) (under c) (λ f k z. z) (causes_after {U = Bool} (length ps) (Err e) a b c h.writes mine);
      }
