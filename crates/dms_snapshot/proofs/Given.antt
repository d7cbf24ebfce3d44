-- What a plan gives as a block.
use Rattle.std.proofs.Common.{ℕ, ◌<◌, ◌≡◌, ◌++◌, Bool, true, false, cond, List, [], length, Option, Some, None, refl, sym, ◌∙◌, ap, subst, arith}
use Rattle.std.proofs.lemmas.Bool.{true≢false}
use Rattle.dms_site.specs.Files.{Files, stored_of}
use Rattle.dms_history.specs.Events.{BlockBytes, Stored, How, halt_load, back_out, roll_back, rebuild, reconstruct, Event, block_in}
use Rattle.dms_history.specs.Here.{outcome, restore_pick}
use Rattle.dms_history.specs.History.{Pending}
use Rattle.dms_history.specs.Pick.{Dumps, count_at, content_of, dump_pick}
use Rattle.dms_history.specs.Restores.{is_unlogged, may_hold_anything, takes_stored}
use Rattle.dms_history.specs.Told.{told_block}
use Rattle.dms_history.proofs.Base.{content_block}
use Rattle.dms_history.proofs.Picks.{some_is}
use Rattle.dms_running.specs.ByHow.{told_by}
use Rattle.dms_running.proofs.ByHow.{tells_by}
use Rattle.dms_restore.specs.Dumped.{dumps_of}
use Rattle.dms_restore.specs.Table.{IsPlan, all_in, last_of}
use Rattle.dms_restore.specs.declared.restore_table.RestoreTable.{RestoreTable}
use Rattle.dms_snapshot.specs.Snapshots.{GivesBlock, PlanGives, TellsWhole, block_of, given, given_by}

no_block : (x : BlockBytes) → None ≡ Some x → ⊥
no_block x e = absurd (cc (e))

-- a block that doesn't go by a dump is what the audit tells, or what is stored
by_audit : (how : How) (dumps : Dumps) (live : List Event) (m f b : ℕ) → may_hold_anything how f b ≡ false → told_by how dumps live m f b ≡ told_block live m f b
unfolding told_by
by_audit halt_load dumps live m f b off = refl
by_audit back_out dumps live m f b off = refl
by_audit roll_back dumps live m f b off = refl
by_audit (rebuild d) dumps live m f b off = absurd (true≢false off)
by_audit (reconstruct d named) dumps live m f b off = ap (λ t. cond t (Some (dump_pick live (dumps d) m f b)) (told_block live m f b)) off

-- a block that goes by a dump isn't taken from what is stored
by_dump : (how : How) (live : List Event) (m f b : ℕ) → may_hold_anything how f b ≡ true → takes_stored how live m f b ≡ false
by_dump halt_load live m f b yes_is = absurd (true≢false (sym yes_is))
by_dump back_out live m f b yes_is = absurd (true≢false (sym yes_is))
by_dump roll_back live m f b yes_is = absurd (true≢false (sym yes_is))
by_dump (rebuild d) live m f b yes_is = refl
by_dump (reconstruct d named) live m f b yes_is = ap (λ t. cond t false (is_unlogged live m f b)) yes_is

module _ (p : Pending) (files : Files) (t : RestoreTable) (plan : IsPlan p files t) (sized : TellsWhole p) (f b : ℕ) (low : b < count_at p.entries p.point f) where
  abbrev dumps : Dumps
  dumps = dumps_of files

  abbrev last : Option BlockBytes
  last = last_of files f b (all_in t.runs.items ++ t.told.items)

  block_is : block_of p files f b ≡ restore_pick p.how dumps p.entries p.point (stored_of files) f b
  unfolding outcome
  block_is = content_block (count_at p.entries p.point) (restore_pick p.how dumps p.entries p.point (stored_of files)) f b low

  -- it is told
  told_case : (x : BlockBytes) → last ≡ Some x → GivesBlock (block_of p files f b) (given_by p files t f b)
  told_case x is =
      let same : block_of p files f b ≡ x = block_is ∙ (tells_by p.how dumps p.entries p.point f b).told (stored_of files) x (plan.only f b x is) in
      let read : given_by p files t f b ≡ x = ap (given p.how files f b) is in
      record { whole = λ size. read ∙ sym same; only = λ size. same ∙ sym read }

  -- it isn't, and stands in its file
  stored_case : last ≡ None → may_hold_anything p.how f b ≡ false → GivesBlock (block_of p files f b) (given_by p files t f b)
  stored_case is off = by (told_by p.how dumps p.entries p.point f b) refl
    where
      read : given_by p files t f b ≡ stored_of files f b
      read = ap (given p.how files f b) is ∙ ap (λ k. cond k [] (stored_of files f b)) off

      by : (o : Option BlockBytes) → told_by p.how dumps p.entries p.point f b ≡ o → GivesBlock (block_of p files f b) (given_by p files t f b)
      by None none =
          let same : block_of p files f b ≡ stored_of files f b = block_is ∙ (tells_by p.how dumps p.entries p.point f b).kept (stored_of files) none in
          record { whole = λ size. read ∙ sym same; only = λ size. same ∙ sym read }
      by (Some y) told =
          let size = sized f b y (sym (by_audit p.how dumps p.entries p.point f b off) ∙ told) in
          absurd (no_block y (sym is ∙ plan.all f b y low told size))

  -- it isn't, and goes by a dump that hasn't it
  nothing_case : last ≡ None → may_hold_anything p.how f b ≡ true → GivesBlock (block_of p files f b) (given_by p files t f b)
  nothing_case is yes_is = by (told_by p.how dumps p.entries p.point f b) refl
    where
      read : given_by p files t f b ≡ []
      read = ap (given p.how files f b) is ∙ ap (λ k. cond k [] (stored_of files f b)) yes_is

      by : (o : Option BlockBytes) → told_by p.how dumps p.entries p.point f b ≡ o → GivesBlock (block_of p files f b) (given_by p files t f b)
      by None none = absurd (true≢false (sym ((tells_by p.how dumps p.entries p.point f b).unwritten none) ∙ by_dump p.how p.entries p.point f b yes_is))
      by (Some y) told =
          let same : block_of p files f b ≡ y = block_is ∙ (tells_by p.how dumps p.entries p.point f b).told (stored_of files) y told in
          record {
            whole = λ size. absurd (no_block y (sym is ∙ plan.all f b y low told (ap length (sym same) ∙ size)));
            only = λ size. absurd (omega (arith, size, ap length read));
          }

  gives : GivesBlock (block_of p files f b) (given_by p files t f b)
  gives = by last refl (may_hold_anything p.how f b) refl
    where
      by : (o : Option BlockBytes) → last ≡ o → (k : Bool) → may_hold_anything p.how f b ≡ k → GivesBlock (block_of p files f b) (given_by p files t f b)
      by (Some x) is k e = told_case x is
      by None is true e = nothing_case is e
      by None is false e = stored_case is e

pub plan_gives : PlanGives
plan_gives p files t plan sized f b low = gives p files t plan sized f b low
