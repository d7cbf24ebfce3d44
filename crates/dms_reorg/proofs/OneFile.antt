-- Calls that change the blocks of one file, one after another.
use Rattle.std.proofs.Common.{◌≡◌, ◌≢◌, ◌∙◌, ◌+◌, ◌≤◌, ℕ, List, [], Ok, Err, refl, ap, arith}
use Rattle.std.specs.Prelude.{IsTrue, OnOk, max}
use Rattle.std.proofs.lemmas.Bool.Decides.{nat_tests}
use Rattle.std.specs.declared.result.Result.{Result}
use Rattle.dms_base.specs.declared.value.Value.{Value}
use Rattle.dms_block.specs.declared.block_fault.BlockFault.{BlockFault}
use Rattle.dms_block.specs.declared.blocks.Blocks.{Ghosts}
use Rattle.dms_block.specs.declared.overlay.Overlay.{Overlay}
use Rattle.dms_block.specs.Content.{Content, apply_changes, raise_count}
use Rattle.dms_block.specs.ContentLaws.{in_others}
use Rattle.dms_block.specs.Held.{Alters}
use Rattle.dms_block.specs.HeldLaws.{passes_none, passes_on, stays_none, stays_on, told_after, unbroken_is, unbroken_map, used_more, used_none, used_on}
use Rattle.dms_block.specs.View.{overlay_changes, overlay_content, seen_counts, under}
use Rattle.dms_desc.specs.Files.{file_of}
use Rattle.dms_desc.specs.Shape.{Shape}
use Rattle.dms_reorg.specs.OneFile.{ChangesFile}
use Rattle.dms_reorg.specs.Widened.{WidensAt}

pub on_ok_map : {T E : Type 0} {P Q : Type 0} (r : Result T E) → (P → Q) → OnOk r P → OnOk r Q
on_ok_map (Ok x) f p = f p
on_ok_map (Err e) f p = tt

pub on_ok_is : {T E : Type 0} {P : Type 0} (r : Result T E) → P → OnOk r P
on_ok_is (Ok x) p = p
on_ok_is (Err e) p = tt

pub raised_other : (counts : ℕ → ℕ) (f b other : ℕ) → other ≢ f → raise_count counts f b other ≡ counts other
raised_other counts f b other apart = grind (arith, nat_tests)

pub raised_here : (counts : ℕ → ℕ) (f b : ℕ) → raise_count counts f b f ≡ max (counts f) (b + 1)
raised_here counts f b = grind (arith, nat_tests)

module _ {B : Type 0} {g : Ghosts B} where
  -- where all is handed down, what is seen stands below
  pub content_below : (o : Overlay B g) → overlay_changes o ≡ [] → overlay_content o ≡ (under o).content
  content_below o clean = ap (λ xs. apply_changes xs (under o).content) clean

  -- nothing was changed yet
  pub changes_none : {T : Type 0} (f : ℕ) (r : Result T BlockFault) (o : Overlay B g) → ((b : B) → g.same_blocks b b) → overlay_changes o ≡ [] → (under o).sound → ChangesFile f 0 0 r o o
  changes_none f r o again clean sound = record {
    written = clean;
    passes = passes_none (under o);
    stays = unbroken_is r (stays_none (under o) sound);
    uses = used_none 0 0 (under o).uses;
    counts = on_ok_is r (λ other apart. refl);
    others = on_ok_is r (λ told other apart. refl);
    same = again o.below;
  }

  -- more was changed after calls that went well
  pub changes_on : {T U : Type 0} {f n m n' m' : ℕ} {x : T} (r : Result U BlockFault) {a b c : Overlay B g} → ((x y z : B) → g.same_blocks x y → g.same_blocks y z → g.same_blocks x z)
      → ChangesFile f n m (Ok x) a b → ChangesFile f n' m' r b c → ChangesFile f (n + n') (m + m') r a c
  changes_on r {a} {b} {c} onward p q = record {
    written = q.written;
    passes = passes_on p.passes p.stays q.passes;
    stays = unbroken_map r (λ s. stays_on p.passes p.stays s) q.stays;
    uses = used_on p.uses q.uses;
    counts = on_ok_map r (λ h other apart. h other apart ∙ p.counts other apart) q.counts;
    others = on_ok_map r (λ h told other apart. h (told_after p.passes.lasts told) other apart ∙ p.others told other apart) q.others;
    same = onward a.below b.below c.below p.same q.same;
  }

  pub changes_more : {T : Type 0} {f n m : ℕ} (n' m' : ℕ) {r : Result T BlockFault} {a b : Overlay B g} → n ≤ n' → m ≤ m' → ChangesFile f n m r a b → ChangesFile f n' m' r a b
  changes_more n' m' le le' p = record { written = p.written; passes = p.passes; stays = p.stays; uses = used_more n' m' le le' p.uses; counts = p.counts; others = p.others; same = p.same }

  -- the same of another answer that went well
  pub changes_as : {T U : Type 0} {f n m : ℕ} {x : T} (y : U) {a b : Overlay B g} → ChangesFile f n m (Ok x) a b → ChangesFile f n m (Ok y) a b
  changes_as y p = record { written = p.written; passes = p.passes; stays = p.stays; uses = p.uses; counts = p.counts; others = p.others; same = p.same }

  -- one block was made
  pub widen_changes : {T : Type 0} {n : ℕ} (r : Result T BlockFault) (s t : Shape) (more : List Value) (last block : ℕ) (a b : Overlay B g)
      → overlay_changes b ≡ [] → Alters n 1 r (under a) (under b) → OnOk r (seen_counts b ≡ raise_count (seen_counts a) (file_of s.number) block)
      → OnOk r (IsTrue (under a).told → WidensAt s t more last block (overlay_content a) (overlay_content b)) → g.same_blocks a.below b.below → ChangesFile (file_of s.number) n 1 r a b
  widen_changes r s t more last block a b clean alters counts widened same = record {
    written = clean;
    passes = alters.passes;
    stays = alters.stays;
    uses = alters.uses;
    counts = on_ok_map r (λ h other apart. ap (λ (c : ℕ → ℕ). c other) h ∙ raised_other (seen_counts a) (file_of s.number) block other apart) counts;
    others = on_ok_map r (λ h told other apart. ap (λ (c : Content). c other) (h told).is ∙ in_others (overlay_content a) (file_of s.number) block (h told).block other apart) widened;
    same = same;
  }
