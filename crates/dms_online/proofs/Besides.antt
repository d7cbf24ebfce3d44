-- Calls beside a running database, one after another.
use Rattle.std.specs.Prelude.{OnOk, IfErr}
use Rattle.std.specs.declared.result.Result.{Result}
use Rattle.std.specs.declared.result.Result.TheVariants.{Ok, Err}
use Rattle.std.proofs.Common.{◌≡◌, Bool, true, false, IsTrue, refl, sym, ◌∙◌, subst, arith}
use Rattle.std.proofs.lemmas.Bool.{true≢false}
use Rattle.std.proofs.lemmas.Result.{on_ok_weaker}
use Rattle.dms_site.specs.declared.site.Site.{Ghosts}
use Rattle.dms_block.specs.declared.block_fault.BlockFault.{BlockFault}
use Rattle.dms_block.specs.declared.block_fault.BlockFault.TheVariants.{Disk}
use Rattle.dms_block.specs.Faults.{Unbroken}
use Rattle.dms_block.specs.Held.{HasCauses, Looks, MakesNoPoint, SameBlocks, Stays, Used, Uses}
use Rattle.dms_block.specs.HeldLaws.{causes_on, passes_none, passes_on, same_none, same_on, stays_none, stays_on}
use Rattle.dms_restore.specs.Views.{view_of}
use Rattle.dms_wal.specs.Controls.{KeepsFields, TellsSame}
use Rattle.dms_wal.specs.Database.{running_held}
use Rattle.dms_wal.specs.Growing.{GrowsBy, TrailGrows}
use Rattle.dms_wal.specs.PaceLaws.{grows_none, grows_on, trail_none, trail_then}
use Rattle.dms_wal.specs.declared.running.Running.{Running}
use Rattle.dms_wal.proofs.Grown.{grows_still}
use Rattle.dms_wal.proofs.Keeping.{keeps_none, keeps_on, tells_none, tells_on}
use Rattle.dms_online.specs.Calls.{Beside, IsCopyFault}

ok_unbroken : {T : Type 0} (P : Type 0) (r : Result T BlockFault) → Unbroken r P → OnOk r P
ok_unbroken P (Ok x) p = p
ok_unbroken P (Err e) p = tt

ok_any : {T P : Type 0} (r : Result T BlockFault) → P → OnOk r P
ok_any (Ok x) p = p
ok_any (Err e) p = tt

-- where it didn't break, it went well
by_answer : {T : Type 0} (P : Type 0) (r : Result T BlockFault) (broken : Bool) → OnOk r P → IfErr r (λ e. broken ≡ true) → broken ≡ false → P
by_answer P (Ok x) broken p failed whole = p
by_answer P (Err e) broken p failed whole = absurd (true≢false (sym failed ∙ whole))

used_same : (a b : Uses) → Used 0 0 a b → b ≡ a
used_same a b u =
    let reads : b.reads ≡ a.reads = omega (arith, u.not_fewer, u.reads) in
    let spent : b.spent ≡ a.spent = omega (arith, u.not_less, u.spent) in
    λ i. record { reads = reads i; spent = spent i; syncs = u.syncs i; outs = u.outs i }

disk_is : {T : Type 0} (r : Result T BlockFault) → IfErr r (λ e. e ≡ Disk) → IfErr r IsCopyFault
disk_is (Ok x) p = tt
disk_is (Err e) p = subst (λ (x : BlockFault). IsCopyFault x) (sym p) tt

module _ {D : Type 0} (d : Ghosts D) where
  pub beside_none : {T : Type 0} (x : T) (a : Running D) → (running_held d a).sound → Beside d {T = T} (Ok x) a a
  beside_none x a sound = record {
    passes = passes_none (running_held d a);
    stays = stays_none (running_held d a) sound;
    unchanged = same_none (running_held d a);
    tells = λ tells. tells_none (view_of d a.log);
    uses = refl;
    only = tt;
    causes = refl;
    broken = tt;
    kept = keeps_none a;
    grown = trail_none d a;
    grows = grows_none a;
  }

  -- one after another that went well
  pub beside_on : {T U : Type 0} {x : T} (r : Result U BlockFault) (a b c : Running D) → Beside d (Ok x) a b → Beside d r b c → Beside d r a c
  beside_on r a b c p q = record {
    passes = passes_on p.passes p.stays q.passes;
    stays = on_ok_weaker r (λ (s : Stays (running_held d b) (running_held d c)). stays_on p.passes p.stays s) q.stays;
    unchanged = on_ok_weaker r (λ (s : SameBlocks (running_held d b) (running_held d c)). same_on p.passes.lasts p.unchanged s) q.unchanged;
    tells = on_ok_weaker r (λ (s : IsTrue d.tells → TellsSame (view_of d b.log) (view_of d c.log)) tells. tells_on (p.tells tells) (s tells)) q.tells;
    uses = q.uses ∙ p.uses;
    only = q.only;
    causes = causes_on r (running_held d a) (running_held d b) (running_held d c) p.causes p.passes.lasts p.unchanged q.causes;
    broken = q.broken;
    kept = keeps_on p.kept q.kept;
    grown = trail_then d 0 a b c p.kept.pace (λ tells. (p.tells tells).entries_same) p.grown q.grown;
    grows = grows_on p.kept.pace p.grows q.grows;
  }

  -- the same fault, handed on
  pub beside_err : {T U : Type 0} (e : BlockFault) (a b : Running D) → Beside d {T = T} (Err e) a b → Beside d {T = U} (Err e) a b
  beside_err e a b p = record {
    passes = p.passes;
    stays = tt;
    unchanged = tt;
    tells = tt;
    uses = p.uses;
    only = p.only;
    causes = p.causes;
    broken = p.broken;
    kept = p.kept;
    grown = p.grown;
    grows = p.grows;
  }

  pub beside_ok : {T U : Type 0} {x : T} (y : U) (a b : Running D) → Beside d (Ok x) a b → Beside d (Ok y) a b
  beside_ok y a b p = record {
    passes = p.passes;
    stays = p.stays;
    unchanged = p.unchanged;
    tells = p.tells;
    uses = p.uses;
    only = tt;
    causes = p.causes;
    broken = tt;
    kept = p.kept;
    grown = p.grown;
    grows = p.grows;
  }

  -- a block was looked at
  pub beside_looked : {T : Type 0} (r : Result T BlockFault) (a b : Running D) → (running_held d a).sound → Looks 0 r (running_held d a) (running_held d b) → OnOk r (IsTrue d.tells → TellsSame (view_of d a.log) (view_of d b.log))
      → HasCauses r (running_held d a) (running_held d b) → IfErr r IsCopyFault → KeepsFields a b → IfErr r (λ e. b.broken ≡ true) → TrailGrows d 0 a b → Beside d r a b
  beside_looked r a b sound looks tells causes only kept broken grown = record {
    passes = looks.passes;
    stays = ok_unbroken (Stays (running_held d a) (running_held d b)) r looks.stays;
    unchanged = ok_unbroken (SameBlocks (running_held d a) (running_held d b)) r looks.same;
    tells = tells;
    uses = used_same (running_held d a).uses (running_held d b).uses looks.uses;
    only = only;
    causes = causes;
    broken = broken;
    kept = kept;
    grown = grown;
    grows = grows_still d a b sound.unbroken kept.pace (omega (arith, looks.uses.not_less)) (omega (arith, looks.uses.syncs)) (omega (arith, looks.uses.outs)) (omega (arith, looks.passes.next)) grown
        (λ t whole. (by_answer (IsTrue d.tells → TellsSame (view_of d a.log) (view_of d b.log)) r b.broken tells broken whole t).entries_same);
  }

  -- the dump was written
  pub beside_written : {T : Type 0} (r : Result T BlockFault) (a b : Running D) → MakesNoPoint (running_held d a) (running_held d b) → OnOk r (Stays (running_held d a) (running_held d b)) → SameBlocks (running_held d a) (running_held d b)
      → (IsTrue d.tells → TellsSame (view_of d a.log) (view_of d b.log)) → (running_held d b).uses ≡ (running_held d a).uses → IfErr r (λ e. e ≡ Disk) → HasCauses r (running_held d a) (running_held d b) → IfErr r (λ e. b.broken ≡ true) → KeepsFields a b
      → TrailGrows d 0 a b → GrowsBy d a b → Beside d r a b
  beside_written r a b passes stays same tells uses only causes broken kept grown grows = record {
    passes = passes;
    stays = stays;
    unchanged = ok_any r same;
    tells = ok_any r tells;
    uses = uses;
    only = disk_is r only;
    causes = causes;
    broken = broken;
    kept = kept;
    grown = grown;
    grows = grows;
  }
