-- What a restore of any kind writes.
use Rattle.std.proofs.Common.{ℕ, ◌≡◌, Bool, true, false, cond, List, Some, refl, sym, ◌∙◌, ap}
use Rattle.dms_history.specs.Events.{BlockBytes, Stored, How, halt_load, back_out, roll_back, rebuild, reconstruct, Event}
use Rattle.dms_history.specs.Pick.{Dumps, pick, dump_pick}
use Rattle.dms_history.specs.Here.{restore_pick}
use Rattle.dms_history.specs.Restores.{takes_stored, is_unlogged}
use Rattle.dms_history.specs.Told.{told_block}
use Rattle.dms_history.proofs.ToldBlocks.{tells_blocks}
use Rattle.dms_history.proofs.Turns.{some_not_none}
use Rattle.dms_history.proofs.Picks.{some_is}
use Rattle.dms_running.specs.ByHow.{told_by, TellsBy, EachToldBy}

by_audit : (how : How) (dumps : Dumps) (live : List Event) (m f b : ℕ) → told_by how dumps live m f b ≡ told_block live m f b
    → ((stored : Stored) → restore_pick how dumps live m stored f b ≡ pick live m stored f b) → takes_stored how live m f b ≡ is_unlogged live m f b → TellsBy how dumps live m f b
by_audit how dumps live m f b told picks takes =
    let t = tells_blocks live m f b in
    record {
      told = λ stored x is. picks stored ∙ t.told stored x (sym told ∙ is);
      kept = λ stored none. picks stored ∙ t.kept stored (sym told ∙ none);
      unwritten = λ none. takes ∙ t.unlogged (sym told ∙ none);
      written = λ is. told ∙ t.logged (sym takes ∙ is);
    }

by_dump : (how : How) (dumps : Dumps) (live : List Event) (m f b : ℕ) (x : BlockBytes) → told_by how dumps live m f b ≡ Some x
    → ((stored : Stored) → restore_pick how dumps live m stored f b ≡ x) → takes_stored how live m f b ≡ false → TellsBy how dumps live m f b
by_dump how dumps live m f b x told picks takes = record {
  told = λ stored y is. picks stored ∙ some_is x y (sym told ∙ is);
  kept = λ stored none. absurd (some_not_none x (sym told ∙ none));
  unwritten = λ none. absurd (some_not_none x (sym told ∙ none));
  written = λ is. absurd (true_not_false (sym is ∙ takes));
}
  where
    true_not_false : true ≡ false → ⊥
    true_not_false e = cc

pub tells_by : EachToldBy
unfolding told_by restore_pick
tells_by halt_load dumps live m f b = by_audit halt_load dumps live m f b refl (λ stored. refl) refl
tells_by back_out dumps live m f b = by_audit back_out dumps live m f b refl (λ stored. refl) refl
tells_by roll_back dumps live m f b = by_audit roll_back dumps live m f b refl (λ stored. refl) refl
tells_by (rebuild d) dumps live m f b = by_dump (rebuild d) dumps live m f b (dump_pick live (dumps d) m f b) refl (λ stored. refl) refl
tells_by (reconstruct d named) dumps live m f b = go (named f b) refl
  where
    go : (n : Bool) → named f b ≡ n → TellsBy (reconstruct d named) dumps live m f b
    go true is = by_dump (reconstruct d named) dumps live m f b (dump_pick live (dumps d) m f b)
        (ap (λ t. cond t (Some (dump_pick live (dumps d) m f b)) (told_block live m f b)) is)
        (λ stored. ap (λ t. cond t (dump_pick live (dumps d) m f b) (pick live m stored f b)) is) (ap (λ t. cond t false (is_unlogged live m f b)) is)
    go false is = by_audit (reconstruct d named) dumps live m f b
        (ap (λ t. cond t (Some (dump_pick live (dumps d) m f b)) (told_block live m f b)) is)
        (λ stored. ap (λ t. cond t (dump_pick live (dumps d) m f b) (pick live m stored f b)) is) (ap (λ t. cond t false (is_unlogged live m f b)) is)
