-- A guarded site stays the same one, call by call.
use Rattle.std.proofs.Common.{ℕ, List, ◌≡◌, ◌≤◌, Bool, IsTrue, inl, inr, refl, ap, subst, ◌∙◌, arith}
use Rattle.dms_moments.specs.Moments.{Steps}
use Rattle.dms_moments.specs.MomentLaws.{runs_none, steps_on, steps_weaken}
use Rattle.dms_site.specs.declared.site.Site.{Ghosts}
use Rattle.dms_site.specs.Files.{Files, InFile, Left, OnDisk, PrintsPartOf, Same}
use Rattle.dms_guard.specs.Guard.{HasAtMost, IsBeside, KeepsBeside, LeavesBeside, SameGuarded, StaysBut}

keeps_on : (s : ℕ) (x y z : Files) → KeepsBeside s x y → KeepsBeside s y z → KeepsBeside s x z
keeps_on s x y z one two f is = two f is ∙ one f is

-- a file beside more structure files is beside fewer
beside_fewer : (n s f : ℕ) → n ≤ s → IsBeside s f → IsBeside n f
beside_fewer n s f few (inl low) = inl low
beside_fewer n s f few (inr (inl dump)) = inr (inl dump)
beside_fewer n s f few (inr (inr high)) = inr (inr (omega (arith, few, high)))

-- no structure has a file above 30,200
pub all_structures : (tells : Bool) (files : Files) → HasAtMost 200 tells files
all_structures tells files = inl (omega arith)

module _ {S : Type 0} {g : Ghosts S} where
  -- what stays beside fewer structure files stays beside more
  pub but_fewer : (n s : ℕ) (a b : S) → n ≤ s → StaysBut g n a b → StaysBut g s a b
  but_fewer n s a b few stays = record {
    read = λ tells f is. stays.read tells f (beside_fewer n s f few is);
    left = steps_weaken stays.left (λ x y now keeps f is. keeps f (beside_fewer n s f few is));
  }

  pub but_on : (n : ℕ) (a b c : S) → StaysBut g n a b → StaysBut g n b c → StaysBut g n a c
  but_on n a b c one two = record {
    read = λ tells. keeps_on n (g.files a) (g.files b) (g.files c) (one.read tells) (two.read tells);
    left = steps_on one.left two.left (λ x y z nx ny p q. keeps_on n x.files y.files z.files p q) (λ x y nx p. p);
  }

  -- where no file changes
  pub but_looked : (n : ℕ) (a b : S) → (IsTrue g.tells → g.files b ≡ g.files a) → Steps Same (g.clock a) (g.clock b) → StaysBut g n a b
  but_looked n a b files steps = record {
    read = λ tells f is. ap (λ (fs : Files). fs f) (files tells);
    left = steps_weaken steps (λ x y now same f is. ap (λ (l : Left). l.files f) same);
  }

  -- a call that changes no file beside those that are let through
  pub guarded_kept : (n : ℕ) (a b : S) → g.same_site a b → (IsTrue g.tells → KeepsBeside n (g.files a) (g.files b)) → Steps (LeavesBeside n) (g.clock a) (g.clock b) → g.disk_faults a ≤ g.disk_faults b → SameGuarded g n a n b
  guarded_kept n a b same read left counted = record { same = same; fixed = refl; beside = record { read = read; left = left }; counted = counted }

  -- a call that changes no file
  pub guarded_looked : (n : ℕ) (a b : S) → g.same_site a b → (IsTrue g.tells → g.files b ≡ g.files a) → Steps Same (g.clock a) (g.clock b) → g.disk_faults a ≤ g.disk_faults b → SameGuarded g n a n b
  guarded_looked n a b same files steps counted = record { same = same; fixed = refl; beside = but_looked n a b files steps; counted = counted }

  -- a call that prints
  pub guarded_printed : (n : ℕ) (a b : S) (text : List ℕ) → g.same_site a b → (IsTrue g.tells → g.files b ≡ g.files a) → Steps (PrintsPartOf text) (g.clock a) (g.clock b) → g.disk_faults a ≤ g.disk_faults b → SameGuarded g n a n b
  guarded_printed n a b text same files steps counted =
      guarded_kept n a b same (λ tells f is. ap (λ (fs : Files). fs f) (files tells)) (steps_weaken steps (λ x y now prints f is. ap (λ (fs : Files). fs f) prints.files)) counted

  -- a call on a file that is let through
  pub guarded_written : (n f : ℕ) (step : List ℕ → List ℕ → Type 0) (a b : S) → (IsBeside n f → ⊥) → g.same_site a b → (IsTrue g.tells → InFile f step (g.files a) (g.files b)) → Steps (OnDisk f step) (g.clock a) (g.clock b) → g.disk_faults a ≤ g.disk_faults b → SameGuarded g n a n b
  guarded_written n f step a b through same torn steps counted =
      guarded_kept n a b same (λ tells h is. (torn tells).others h (λ at. through (subst (λ (k : ℕ). IsBeside n k) at is)))
      (steps_weaken steps (λ x y now wrote h is. wrote.files.others h (λ at. through (subst (λ (k : ℕ). IsBeside n k) at is)))) counted

  pub guarded_again : ((s : S) → g.same_site s s) → (n : ℕ) (a : S) → SameGuarded g n a n a
  guarded_again again n a =
      guarded_kept n a a (again a) (λ tells f is. refl) (record { follows = λ x now. (x, now, λ f is. refl); runs = runs_none (g.clock a) _ }) (omega arith)

  pub guarded_then : ((r s t : S) → g.same_site r s → g.same_site s t → g.same_site r t) → (n : ℕ) (a : S) (m : ℕ) (b : S) (k : ℕ) (c : S) → SameGuarded g n a m b → SameGuarded g m b k c → SameGuarded g n a k c
  guarded_then then n a m b k c one two = record {
    same = then a b c one.same two.same;
    fixed = two.fixed ∙ one.fixed;
    beside = but_on n a b c one.beside (subst (λ (j : ℕ). StaysBut g j b c) one.fixed two.beside);
    counted = omega (arith, one.counted, two.counted);
  }
