-- What a call that only looks leaves of a view.
use Rattle.std.specs.Prelude.{◌≡◌, IsErrOf, IsTrue}
use Rattle.std.specs.declared.result.Result.{Result}
use Rattle.std.specs.declared.result.Result.TheVariants.{Ok, Err}
use Rattle.std.proofs.Common.{ℕ, ◌+◌, ◌≤◌, ◌∙◌, refl, subst, arith}
use Rattle.dms_base.specs.Causes.{Rose}
use Rattle.dms_view.specs.Looks.{Fails}
use Rattle.dms_view.specs.declared.view.View.{Ghosts}
use Rattle.dms_view.specs.declared.view.ViewFault.{ViewFault}
use Rattle.dms_view.specs.declared.view.ViewFault.TheVariants.{Disk, Memory}

err_turned : (T U : Type 0) (e : ViewFault) → IsErrOf {T = T} (Err e) Disk → IsErrOf {T = U} (Err e) Disk
err_turned T U Disk h = refl
err_turned T U Memory h = absurd (cc (h))

module _ {V : Type 0} (g : Ghosts V) where
  -- The blocks are the same, and it is the same view. Disk comes exactly where a call of the outside failed, and then no further one was made.
  pub record Looked {T : Type 0} (old new : V) (result : Result T ViewFault) : Type 0 where
    pub content : IsTrue g.tells → g.content new ≡ g.content old
    pub same : g.same_view old new
    pub faults : Fails (g.faults old) (g.faults new) result

  -- so far no call failed
  pub record LooksOn (old new : V) : Type 0 where
    pub content : IsTrue g.tells → g.content new ≡ g.content old
    pub same : g.same_view old new
    pub clean : g.faults new ≡ g.faults old

  pub looks_none : (v : V) → g.same_view v v → LooksOn v v
  looks_none v same = record { content = λ told. refl; same = same; clean = refl }

  -- what was found keeps no fault
  pub looked_ok : {T : Type 0} (old new : V) (x : T) → Looked old new (Ok x) → LooksOn old new
  looked_ok old new x l = record { content = l.content; same = l.same; clean = l.faults.clean (λ e. absurd (cc (e))) }

  pub looks_on : (a b c : V) → (g.same_view a b → g.same_view b c → g.same_view a c) → LooksOn a b → LooksOn b c → LooksOn a c
  looks_on a b c joined x y = record { content = λ told. y.content told ∙ x.content told; same = joined x.same y.same; clean = y.clean ∙ x.clean }

  pub looks_ok : {T : Type 0} (a b : V) (x : T) → LooksOn a b → Looked a b (Ok x)
  looks_ok a b x l = record {
    content = l.content;
    same = l.same;
    faults = record { later = omega (arith, l.clean); rose = λ e. absurd (cc (e)); once = omega (arith, l.clean); clean = λ _. l.clean };
  }

  -- want of memory has no cause
  pub looks_memory : {T : Type 0} (a b : V) → LooksOn a b → Looked {T = T} a b (Err Memory)
  looks_memory a b l = record {
    content = l.content;
    same = l.same;
    faults = record { later = omega (arith, l.clean); rose = λ e. absurd (cc (e)); once = omega (arith, l.clean); clean = λ _. l.clean };
  }

  -- a fault behind looks
  pub looks_err : (T U : Type 0) (a b c : V) (e : ViewFault) → (g.same_view a b → g.same_view b c → g.same_view a c) → LooksOn a b → Looked {T = T} b c (Err e) → Looked {T = U} a c (Err e)
  looks_err T U a b c e joined x y = record {
    content = λ told. y.content told ∙ x.content told;
    same = joined x.same y.same;
    faults = record {
      later = omega (arith, x.clean, y.faults.later);
      rose = λ h. subst (λ n. Rose n (g.faults c)) x.clean (y.faults.rose (err_turned U T e h));
      once = omega (arith, x.clean, y.faults.once);
      clean = λ off. y.faults.clean (λ h. off (err_turned T U e h)) ∙ x.clean;
    };
  }
