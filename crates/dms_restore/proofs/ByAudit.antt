-- What a restore writes and keeps; one by the audit writes what the audit tells.
use Rattle.std.specs.Prelude.{nat_lt}
use Rattle.std.proofs.Common.{ℕ, ◌<◌, ◌≡◌, inl, inr, ◌&&◌, Bool, true, false, List, [], ◌∷◌, None, refl, sym, ◌∙◌, ap, subst, arith}
use Rattle.std.proofs.lemmas.Bool.Decides.{nat_tests}
use Rattle.dms_moments.specs.Moments.{Clock, Steps}
use Rattle.dms_moments.specs.MomentLaws.{steps_weaken}
use Rattle.dms_site.specs.Files.{Files, Left, stored_of}
use Rattle.dms_history.specs.Events.{Stored, How, halt_load, back_out, roll_back, rebuild, reconstruct, Event}
use Rattle.dms_history.specs.History.{Pending}
use Rattle.dms_history.specs.Pick.{Dumps, count_at}
use Rattle.dms_history.specs.Restores.{takes_stored}
use Rattle.dms_history.specs.Told.{told_block}
use Rattle.dms_history.proofs.ToldBlocks.{tells_blocks}
use Rattle.dms_running.specs.Begun.{ByAudit}
use Rattle.dms_running.specs.ByHow.{IsKeptBy, told_by}
use Rattle.dms_running.specs.Restoring.{Rewritten, Rewrites}
use Rattle.dms_restore.specs.Dumped.{dumps_of}
use Rattle.dms_restore.specs.declared.told.Told.{Told}
use Rattle.dms_restore.specs.declared.run.Run.{Run}
use Rattle.dms_restore.specs.declared.restore_table.RestoreTable.{RestoreTable}
use Rattle.dms_restore.specs.Table.{Kept, keeps_by, AreFree, IsAmong, IsTable, IsTableOver, IsPlanHere, Writes, IsPlan}

-- by the test
lt_test : (a b : ℕ) → a < b → nat_lt a b ≡ true
lt_test a b less = grind (arith, nat_tests)

pub keeps_test : (how : How) (live : List Event) (m f b : ℕ) → IsKeptBy how live m f b → Kept (keeps_by how live m) f b
keeps_test how live m f b k = λ i. lt_test b (count_at live m f) k.0 i && k.1 i

pub rewritten_kept : (how : How) (live : List Event) (m : ℕ) (x y : Files) → Rewritten (Kept (keeps_by how live m)) x y → Rewritten (IsKeptBy how live m) x y
rewritten_kept how live m x y r = record { others = r.others; longer = r.longer; kept = λ f b k whole. r.kept f b (keeps_test how live m f b k) whole }

pub rewrites_kept : (how : How) (live : List Event) (m : ℕ) {a b : Clock Left} → Steps (Rewrites (Kept (keeps_by how live m))) a b → Steps (Rewrites (IsKeptBy how live m)) a b
rewrites_kept how live m steps = steps_weaken steps (λ x y was s. record { files = rewritten_kept how live m x.files y.files s.files; said = s.said })

pub and_second : (a b : Bool) → a && b ≡ true → b ≡ true
and_second true b is = is
and_second false b is = absurd cc

takes_is : (how : How) → ByAudit how → (live : List Event) (m f b : ℕ) → takes_stored how live m f b ≡ true → told_block live m f b ≡ None
takes_is halt_load by_audit live m f b k = (tells_blocks live m f b).logged k
takes_is back_out by_audit live m f b k = (tells_blocks live m f b).logged k
takes_is roll_back by_audit live m f b k = (tells_blocks live m f b).logged k
takes_is (rebuild d) by_audit live m f b k = absurd by_audit
takes_is (reconstruct d named) by_audit live m f b k = absurd by_audit

told_is : (how : How) → ByAudit how → (dumps : Dumps) (live : List Event) (m f b : ℕ) → told_by how dumps live m f b ≡ told_block live m f b
unfolding told_by
told_is halt_load by_audit dumps live m f b = refl
told_is back_out by_audit dumps live m f b = refl
told_is roll_back by_audit dumps live m f b = refl
told_is (rebuild d) by_audit dumps live m f b = absurd by_audit
told_is (reconstruct d named) by_audit dumps live m f b = absurd by_audit

-- ---- a table of the audit is a plan of a restore by the audit

-- none that is kept is among them
pub free_among : (keeps : ℕ → ℕ → Type 0) (ts : List Told) → ((f b : ℕ) → IsAmong f b ts → keeps f b → ⊥) → AreFree keeps ts
free_among keeps [] none = tt
free_among keeps (t ∷ ts) none = (none t.file t.block (inl (refl, refl)), free_among keeps ts (λ f b among. none f b (inr among)))

pub plan_by_audit : (p : Pending) → ByAudit p.how → (files : Files) (table : List Told) → IsTable p.entries p.point files table → Writes p files [] table
plan_by_audit p by_audit files table is = record {
  runs_free = tt;
  runs_whole = tt;
  free = free_among (Kept (keeps_by p.how p.entries p.point)) table (λ f b among kept.
      is.among f b among
      (sym (is.tells f b) ∙ takes_is p.how by_audit p.entries p.point f b (and_second (nat_lt b (count_at p.entries p.point f)) (takes_stored p.how p.entries p.point f b) kept)));
  whole = is.whole;
  all = λ f b x low told size. sym (is.tells f b) ∙ sym (told_is p.how by_audit (dumps_of files) p.entries p.point f b) ∙ told;
  only = λ f b x last. told_is p.how by_audit (dumps_of files) p.entries p.point f b ∙ is.tells f b ∙ last;
}

-- a table over the blocks that stand is a plan over them
pub plan_over : (p : Pending) → ByAudit p.how → (files : Files) (stored : Stored) (table : List Told) → stored_of files ≡ stored → IsTableOver p.entries p.point stored files table → IsPlanHere p files table
plan_over p by_audit files stored table same is = record {
  free = free_among (Kept (keeps_by p.how p.entries p.point)) table (λ f b among kept.
      is.among f b among (takes_is p.how by_audit p.entries p.point f b (and_second (nat_lt b (count_at p.entries p.point f)) (takes_stored p.how p.entries p.point f b) kept)));
  whole = is.whole;
  all = λ f b x told. elim (is.tells f b x (sym (told_is p.how by_audit (dumps_of files) p.entries p.point f b) ∙ told)) [
    | inl one ↦ inl one
    | inr (out, stands) ↦ inr (out, ap (λ (s : Stored). s f b) same ∙ stands)
  ];
}

-- the same, of lists that were lent
pub plan_lent : (p : Pending) (files : Files) (t : RestoreTable) (runs : List Run) (told : List Told) → runs ≡ t.runs.items → told ≡ t.told.items → IsPlan p files t → Writes p files runs told
plan_lent p files t runs told one two plan = subst (λ (l : List Told). Writes p files runs l) (sym two) (subst (λ (l : List Run). Writes p files l t.told.items) (sym one) plan)
