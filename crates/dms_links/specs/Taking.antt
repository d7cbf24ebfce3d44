-- Calls that alter slots one after another.
use Rattle.std.proofs.Common.{◌≡◌, ◌∙◌, ◌+◌, ◌≤◌, ℕ, List, [], ◌∷◌, ◌++◌, Bool, true, false, IsTrue, refl, sym, ap, subst, arith}
use Rattle.std.specs.Prelude.{⊤, IfOk}
use Rattle.std.specs.declared.result.Result.{Result}
use Rattle.std.specs.declared.result.Result.TheVariants.{Ok, Err}
use Rattle.std.proofs.lemmas.Result.{IfOk-weaker}
use Rattle.dms_block.specs.declared.block_fault.BlockFault.{BlockFault}
use Rattle.dms_block.specs.declared.blocks.Blocks.{Ghosts}
use Rattle.dms_block.specs.declared.overlay.Overlay.{Overlay}
use Rattle.dms_block.specs.Content.{Content}
use Rattle.dms_block.specs.Held.{HasCausesOr}
use Rattle.dms_block.specs.HeldLaws.{causes_or_on, lasts_none, same_none}
use Rattle.dms_block.specs.View.{ReadsOverlay, overlay_content, under}
use Rattle.dms_block.specs.ViewLaws.{seen_still}
use Rattle.dms_desc.specs.Shape.{Shape, Described}
use Rattle.dms_desc.specs.Files.{file_of}
use Rattle.dms_links.specs.Altering.{WritesSlots, causes_after, told_writes, writes_more, writes_then, wrote_none}
use Rattle.dms_links.specs.AlteringIn.{AltersIn, BadOf, HoldsShape}
use Rattle.dms_links.specs.Stepping.{AltersSteps, AreSlotFiles, HoldsSets, SlotStep, none_bad_of, steps_files, steps_off, steps_on, steps_one}

-- A call alters these slots one after another, and writes at most n blocks. It finds no block damaged where data sets are slots.
pub record TakesSteps {B : Type 0} {g : Ghosts B} (desc : Described) (xs : List SlotStep) (n : ℕ) (result : Result Bool BlockFault) (a b : Overlay B g) : Type 0 where
  pub writes : WritesSlots n result a b
  pub altered : IfOk result (λ done. IsTrue (under a).told → AltersSteps desc xs done (overlay_content a) (overlay_content b))
  pub causes : IsTrue (under a).told → AreSlotFiles desc (overlay_content a) → HasCausesOr (λ f k. ⊥) result (under a) (under b)

module _ {B : Type 0} {g : Ghosts B} (desc : Described) where
  -- none is to be altered
  pub takes_none : (n : ℕ) (a : Overlay B g) → ((b : B) → g.same_blocks b b) → (under a).sound → TakesSteps desc [] n (Ok true) a a
  takes_none n a again sound = record { writes = wrote_none n (Ok true) a again tt refl sound; altered = λ told. (refl, refl); causes = λ told files. refl }

  -- one was
  pub takes_one : (x : SlotStep) (r : Result Bool BlockFault) (a b : Overlay B g) → WritesSlots 1 r a b → IfOk r (λ done. IsTrue (under a).told → AltersIn desc x.set x.number x.change (overlay_content a) (overlay_content b) done)
      → HasCausesOr (BadOf desc x.set a) r (under a) (under b) → TakesSteps desc (x ∷ []) 1 r a b
  takes_one x r a b writes altered causes = record {
    writes = writes;
    altered = IfOk-weaker r _ _ (λ done h told. steps_one desc x done (overlay_content a) (overlay_content b) (h told)) altered;
    causes = λ told files. causes_or_on (BadOf desc x.set a) (λ f k. ⊥) r (under a) (under a) (under b) (none_bad_of desc a x.set told files) refl (lasts_none (under a)) (same_none (under a)) causes;
  }

  -- one of them failed
  pub takes_err : (xs ys : List SlotStep) (m n : ℕ) (e : BlockFault) (a b : Overlay B g) → m ≤ n → TakesSteps desc xs m (Err e) a b → TakesSteps desc ys n (Err e) a b
  takes_err xs ys m n e a b le h = record { writes = writes_more m n (Err e) a b le h.writes; altered = tt; causes = h.causes }

  -- or was not altered
  pub takes_off : (xs ys : List SlotStep) (m n : ℕ) (a b : Overlay B g) → m ≤ n → TakesSteps desc xs m (Ok false) a b → TakesSteps desc (xs ++ ys) n (Ok false) a b
  takes_off xs ys m n a b le h = record { writes = writes_more m n (Ok false) a b le h.writes; altered = λ told. steps_off desc xs ys (overlay_content a) (overlay_content b) (h.altered told); causes = h.causes }

  -- or all were, and the next ones follow
  pub takes_then : (xs ys : List SlotStep) (m n k : ℕ) (r : Result Bool BlockFault) (a b c : Overlay B g) → ((x y z : B) → g.same_blocks x y → g.same_blocks y z → g.same_blocks x z) → m + n ≤ k
      → TakesSteps desc xs m (Ok true) a b → TakesSteps desc ys n r b c → TakesSteps desc (xs ++ ys) k r a c
  takes_then xs ys m n k r a b c onward le p q = record {
    writes = writes_then m n k r a b c onward le p.writes q.writes;
    altered = IfOk-weaker r _ _ (λ done h told. steps_on desc xs ys done (overlay_content a) (overlay_content b) (overlay_content c) (p.altered told) (h (told_writes m a b p.writes told))) q.altered;
    causes = λ told files. causes_after m r a b c p.writes (q.causes (told_writes m a b p.writes told) (steps_files desc xs true (overlay_content a) (overlay_content b) (p.altered told) files));
  }

  -- the files that could be written still can
  pub holds_after : {T : Type 0} {x : T} (m : ℕ) (a b : Overlay B g) → WritesSlots m (Ok x) a b → HoldsSets desc (under a) → HoldsSets desc (under b)
  holds_after m a b p holds set s at =
      let h = holds set s at in
      record { sized = h.sized; few = h.few; owns = subst (λ (owns : ℕ → Bool). IsTrue (owns (file_of s.number))) (sym p.writes.looks.passes.lasts.owns) h.owns }

  pub sound_after : {T : Type 0} {x : T} (m : ℕ) (a b : Overlay B g) → WritesSlots m (Ok x) a b → (under b).sound
  sound_after m a b p = p.writes.looks.stays.sound

  -- the same after a read
  pub holds_since : {T : Type 0} {n : ℕ} {x : T} (a b : Overlay B g) → ReadsOverlay n (Ok x) a b → HoldsSets desc (under a) → HoldsSets desc (under b)
  holds_since a b reads holds set s at =
      let h = holds set s at in
      record { sized = h.sized; few = h.few; owns = subst (λ (owns : ℕ → Bool). IsTrue (owns (file_of s.number))) (sym reads.looks.passes.lasts.owns) h.owns }

  pub files_since : {T : Type 0} {n : ℕ} {x : T} (a b : Overlay B g) → ReadsOverlay n (Ok x) a b → IsTrue (under a).told → AreSlotFiles desc (overlay_content a) → AreSlotFiles desc (overlay_content b)
  files_since a b reads told files = subst (AreSlotFiles desc) (sym (seen_still reads told)) files
