-- Runs of a dump and a table are what a restore by a dump writes.
use Rattle.std.specs.Prelude.{nat_lt}
use Rattle.std.proofs.Common.{ℕ, zero, suc, ◌<◌, ◌≤◌, ◌≡◌, ◌⊎◌, inl, inr, Bool, true, false, cond, List, [], ◌∷◌, ◌++◌, length, Option, Some, None, refl, sym, ◌∙◌, ap, arith, slice_index_or}
use Rattle.dms_site.specs.Files.{Files}
use Rattle.dms_history.specs.Events.{BlockBytes, rebuild, reconstruct, Event, block_in}
use Rattle.dms_history.specs.Images.{or_else, value, last_after}
use Rattle.dms_history.specs.Pick.{Dump, Dumps, count_at, between, dump_pick}
use Rattle.dms_history.specs.Restores.{is_unlogged, takes_stored}
use Rattle.dms_history.specs.Told.{told_block}
use Rattle.dms_history.proofs.Picks.{some_is}
use Rattle.dms_history.proofs.ToldBlocks.{tells_blocks}
use Rattle.dms_running.specs.ByHow.{told_by}
use Rattle.dms_restore.specs.declared.run.Run.{Run}
use Rattle.dms_restore.specs.declared.told.Told.{Told}
use Rattle.dms_restore.specs.Table.{Kept, keeps_by, AreFree, IsAmong, last_of, all_in, IsPlanOf}
use Rattle.dms_restore.specs.ByDump.{PlansByDump, RebuildPlans, ReconstructPlans}
use Rattle.dms_restore.proofs.ByAudit.{and_second, free_among}
use Rattle.dms_restore.proofs.Tables.{last_on}

below_or : (a b : ℕ) → (a < b) ⊎ (b ≤ a)
below_or a zero = inr (omega arith)
below_or zero (suc b) = inl (omega arith)
below_or (suc a) (suc b) = elim (below_or a b) [ inl less ↦ inl (omega (arith, less)) | inr more ↦ inr (omega (arith, more)) ]

-- no block stands past the end
past_end : (l : List BlockBytes) (b : ℕ) → length l ≤ b → slice_index_or l b [] ≡ []
past_end [] b le = refl
past_end (x ∷ l) zero le = absurd (omega (arith, le))
past_end (x ∷ l) (suc b) le = past_end l b (omega (arith, le))

free_all : (keeps : ℕ → ℕ → Type 0) (ts : List Told) → ((f b : ℕ) → keeps f b → ⊥) → AreFree keeps ts
free_all keeps [] none = tt
free_all keeps (t ∷ ts) none = (none t.file t.block, free_all keeps ts none)

free_by : (keeps others : ℕ → ℕ → Type 0) (ts : List Told) → ((f b : ℕ) → keeps f b → others f b) → AreFree others ts → AreFree keeps ts
free_by keeps others [] is free = tt
free_by keeps others (t ∷ ts) is free = ((λ k. free.0 (is t.file t.block k)), free_by keeps others ts is free.1)

module _ (live : List Event) (m : ℕ) (files : Files) (runs : List Run) (table : List Told) (among : (f b : ℕ) → IsAmong f b table → last_of files f b table ≡ None → ⊥) (dump : Dump) (f b : ℕ) (x : BlockBytes) (size : length x ≡ 1024) where
  abbrev of_runs : Option BlockBytes
  of_runs = last_of files f b (all_in runs)

  from_table : (y : BlockBytes) → last_of files f b table ≡ Some y → y ≡ x → last_of files f b (all_in runs ++ table) ≡ Some x
  from_table y e same = last_on files f b (all_in runs) table (among f b) ∙ ap (λ (o : Option BlockBytes). or_else o of_runs) e ∙ ap (λ (k : BlockBytes). Some k) same

  by_dump : dump_pick live dump m f b ≡ x → last_of files f b table ≡ last_after f b (between dump.point m live) → (b < length (dump.blocks f) → of_runs ≡ Some (block_in dump.blocks f b))
      → last_of files f b (all_in runs ++ table) ≡ Some x
  unfolding dump_pick
  by_dump picked tells there = go (last_after f b (between dump.point m live)) refl
    where
      go : (o : Option BlockBytes) → last_after f b (between dump.point m live) ≡ o → last_of files f b (all_in runs ++ table) ≡ Some x
      go (Some y) e = from_table y (tells ∙ e) (sym (ap (λ (o : Option BlockBytes). value o None (block_in dump.blocks f b)) e) ∙ picked)
      go None e =
          let block : block_in dump.blocks f b ≡ x = sym (ap (λ (o : Option BlockBytes). value o None (block_in dump.blocks f b)) e) ∙ picked in
          last_on files f b (all_in runs) table (among f b) ∙ ap (λ (o : Option BlockBytes). or_else o of_runs) (tells ∙ e)
          ∙ elim (below_or b (length (dump.blocks f))) [
            | inl low ↦ there low ∙ ap (λ (k : BlockBytes). Some k) block
            | inr past ↦ absurd (omega (arith, size, ap length (sym block ∙ past_end (dump.blocks f) b past)))
          ]

never : false ≡ true → ⊥
never e = cc

-- what is told last is the table's, else that of the runs
last_from : (runs table : Option BlockBytes) (x : BlockBytes) → or_else table runs ≡ Some x → (table ≡ Some x) ⊎ ((table ≡ None) × (runs ≡ Some x))
last_from runs None x is = inr (refl, is)
last_from runs (Some y) x is = inl is

-- so a block that goes by the dump is what the dump gives
picked_by : (live : List Event) (m : ℕ) (files : Files) (runs : List Run) (table : List Told) (among : (f b : ℕ) → IsAmong f b table → last_of files f b table ≡ None → ⊥) (dump : Dump) (f b : ℕ) (x : BlockBytes)
    → last_of files f b table ≡ last_after f b (between dump.point m live) → (last_of files f b (all_in runs) ≡ Some x → block_in dump.blocks f b ≡ x)
    → last_of files f b (all_in runs ++ table) ≡ Some x → dump_pick live dump m f b ≡ x
unfolding dump_pick
picked_by live m files runs table among dump f b x tells there is =
    elim (last_from (last_of files f b (all_in runs)) (last_of files f b table) x (sym (last_on files f b (all_in runs) table (among f b)) ∙ is)) [
      | inl told ↦ ap (λ (o : Option BlockBytes). value o None (block_in dump.blocks f b)) (sym tells ∙ told)
      | inr (none, run) ↦ ap (λ (o : Option BlockBytes). value o None (block_in dump.blocks f b)) (sym tells ∙ none) ∙ there run
    ]

pub rebuild_plans : RebuildPlans
unfolding told_by
rebuild_plans d dumps live m files runs table p = record {
  runs_free = free_all (Kept (keeps_by (rebuild d) live m)) (all_in runs) (λ f b k. never (and_second (nat_lt b (count_at live m f)) false k));
  runs_whole = p.runs_whole;
  free = free_all (Kept (keeps_by (rebuild d) live m)) table (λ f b k. never (and_second (nat_lt b (count_at live m f)) false k));
  whole = p.whole;
  all = λ f b x low told size. by_dump live m files runs table p.among (dumps d) f b x size (some_is (dump_pick live (dumps d) m f b) x told) (p.tells f b) (p.runs_all f b low refl);
  only = λ f b x last. ap (λ (k : BlockBytes). Some k) (picked_by live m files runs table p.among (dumps d) f b x (p.tells f b) (λ run. (p.runs_only f b x run).1) last);
}

module _ (d : ℕ) (named : ℕ → ℕ → Bool) (dumps : Dumps) (live : List Event) (m : ℕ) (files : Files) (runs : List Run) (table : List Told) (p : PlansByDump (reconstruct d named) (dumps d) live m files runs table) where
  -- a block that is kept isn't named, and the audit doesn't tell of it
  not_named : (f b : ℕ) (n u : Bool) → cond n false u ≡ true → (n ≡ false) × (u ≡ true)
  not_named f b true u is = absurd (never is)
  not_named f b false u is = (refl, is)

  kept_is : (f b : ℕ) → Kept (keeps_by (reconstruct d named) live m) f b → (named f b ≡ false) × (is_unlogged live m f b ≡ true)
  kept_is f b k = not_named f b (named f b) (is_unlogged live m f b) (and_second (nat_lt b (count_at live m f)) (takes_stored (reconstruct d named) live m f b) k)

  untold : (f b : ℕ) → Kept (keeps_by (reconstruct d named) live m) f b → last_of files f b table ≡ None
  untold f b k =
      let is = kept_is f b k in
      p.tells f b ∙ ap (λ t. cond t (last_after f b (between (dumps d).point m live)) (told_block live m f b)) is.0 ∙ (tells_blocks live m f b).logged is.1

  all_told : (f b : ℕ) (x : BlockBytes) → b < count_at live m f → told_by (reconstruct d named) dumps live m f b ≡ Some x → length x ≡ 1024 → last_of files f b (all_in runs ++ table) ≡ Some x
  unfolding told_by
  all_told f b x low told size = go (named f b) refl
    where
      go : (n : Bool) → named f b ≡ n → last_of files f b (all_in runs ++ table) ≡ Some x
      go true is = by_dump live m files runs table p.among (dumps d) f b x size
          (some_is (dump_pick live (dumps d) m f b) x (sym (ap (λ t. cond t (Some (dump_pick live (dumps d) m f b)) (told_block live m f b)) is) ∙ told))
          (p.tells f b ∙ ap (λ t. cond t (last_after f b (between (dumps d).point m live)) (told_block live m f b)) is) (p.runs_all f b low is)
      go false is = from_table live m files runs table p.among (dumps d) f b x size x
          (p.tells f b ∙ ap (λ t. cond t (last_after f b (between (dumps d).point m live)) (told_block live m f b)) is
          ∙ (sym (ap (λ t. cond t (Some (dump_pick live (dumps d) m f b)) (told_block live m f b)) is) ∙ told)) refl

  only_told : (f b : ℕ) (x : BlockBytes) → last_of files f b (all_in runs ++ table) ≡ Some x → told_by (reconstruct d named) dumps live m f b ≡ Some x
  unfolding told_by
  only_told f b x last = go (named f b) refl
    where
      go : (n : Bool) → named f b ≡ n → cond (named f b) (Some (dump_pick live (dumps d) m f b)) (told_block live m f b) ≡ Some x
      go true is =
          ap (λ t. cond t (Some (dump_pick live (dumps d) m f b)) (told_block live m f b)) is
          ∙ ap (λ (k : BlockBytes). Some k) (picked_by live m files runs table p.among (dumps d) f b x
          (p.tells f b ∙ ap (λ t. cond t (last_after f b (between (dumps d).point m live)) (told_block live m f b)) is) (λ run. (p.runs_only f b x run).1) last)
      go false is =
          ap (λ t. cond t (Some (dump_pick live (dumps d) m f b)) (told_block live m f b)) is
          ∙ elim (last_from (last_of files f b (all_in runs)) (last_of files f b table) x (sym (last_on files f b (all_in runs) table (p.among f b)) ∙ last)) [
            | inl told ↦ sym (p.tells f b ∙ ap (λ t. cond t (last_after f b (between (dumps d).point m live)) (told_block live m f b)) is) ∙ told
            | inr (none, run) ↦ absurd (never (sym is ∙ (p.runs_only f b x run).0))
          ]

  plans : IsPlanOf (reconstruct d named) dumps live m files runs table
  plans = record {
    runs_free = free_by (Kept (keeps_by (reconstruct d named) live m)) (λ f b. named f b ≡ false) (all_in runs) (λ f b k. (kept_is f b k).0) p.runs_by;
    runs_whole = p.runs_whole;
    free = free_among (Kept (keeps_by (reconstruct d named) live m)) table (λ f b among kept. p.among f b among (untold f b kept));
    whole = p.whole;
    all = all_told;
    only = only_told;
  }

pub reconstruct_plans : ReconstructPlans
reconstruct_plans d named dumps live m files runs table p = plans d named dumps live m files runs table p
