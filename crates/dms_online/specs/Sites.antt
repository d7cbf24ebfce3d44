-- A site of which one file is let be.
use Rattle.std.proofs.Common.{ℕ, List, ◌≡◌, ◌≤◌, IsTrue, refl, ap, subst, ◌∙◌, arith}
use Rattle.std.specs.Prelude.{◌≢◌}
use Rattle.dms_moments.specs.Moments.{Steps}
use Rattle.dms_moments.specs.MomentLaws.{runs_none, steps_on, steps_weaken}
use Rattle.dms_site.specs.declared.site.Site.{Ghosts}
use Rattle.dms_site.specs.Files.{Files, InFile, Left, OnDisk, PrintsPartOf, Same}

-- a stop leaves that file the same
abbrev pub LeavesFile : ℕ → Left → Left → Type 0
LeavesFile f old new = new.files f ≡ old.files f

module _ {S : Type 0} (g : Ghosts S) where
  -- The same site; the same file is let be, and it is as it was, now and at each stop; and no failure is forgotten.
  pub record SameBut (f : ℕ) (a : S) (h : ℕ) (b : S) : Type 0 where
    pub same : g.same_site a b
    pub file_same : h ≡ f
    pub read : IsTrue g.tells → g.files b f ≡ g.files a f
    pub left : Steps (LeavesFile f) (g.clock a) (g.clock b)
    pub counted : g.disk_faults a ≤ g.disk_faults b

-- ---- call by call

module _ {S : Type 0} {g : Ghosts S} where
  -- a call that changes no file
  pub but_looked : (f : ℕ) (a b : S) → g.same_site a b → (IsTrue g.tells → g.files b ≡ g.files a) → Steps Same (g.clock a) (g.clock b) → g.disk_faults a ≤ g.disk_faults b → SameBut g f a f b
  but_looked f a b same files steps counted = record {
    same = same;
    file_same = refl;
    read = λ tells. ap (λ (fs : Files). fs f) (files tells);
    left = steps_weaken steps (λ x y now is. ap (λ (l : Left). l.files f) is);
    counted = counted;
  }

  -- a call that prints
  pub but_printed : (f : ℕ) (a b : S) (text : List ℕ) → g.same_site a b → (IsTrue g.tells → g.files b ≡ g.files a) → Steps (PrintsPartOf text) (g.clock a) (g.clock b) → g.disk_faults a ≤ g.disk_faults b → SameBut g f a f b
  but_printed f a b text same files steps counted = record {
    same = same;
    file_same = refl;
    read = λ tells. ap (λ (fs : Files). fs f) (files tells);
    left = steps_weaken steps (λ x y now prints. ap (λ (fs : Files). fs f) prints.files);
    counted = counted;
  }

  -- a call on another file
  pub but_written : (f h : ℕ) (step : List ℕ → List ℕ → Type 0) (a b : S) → f ≢ h → g.same_site a b → (IsTrue g.tells → InFile h step (g.files a) (g.files b)) → Steps (OnDisk h step) (g.clock a) (g.clock b) → g.disk_faults a ≤ g.disk_faults b → SameBut g f a f b
  but_written f h step a b other same torn steps counted = record {
    same = same;
    file_same = refl;
    read = λ tells. (torn tells).others f other;
    left = steps_weaken steps (λ x y now wrote. wrote.files.others f other);
    counted = counted;
  }

  pub but_again : ((s : S) → g.same_site s s) → (f : ℕ) (a : S) → SameBut g f a f a
  but_again again f a = record {
    same = again a;
    file_same = refl;
    read = λ tells. refl;
    left = record { follows = λ x now. (x, now, refl); runs = runs_none (g.clock a) _ };
    counted = omega arith;
  }

  pub but_then : ((r s t : S) → g.same_site r s → g.same_site s t → g.same_site r t) → (f : ℕ) (a : S) (h : ℕ) (b : S) (k : ℕ) (c : S) → SameBut g f a h b → SameBut g h b k c → SameBut g f a k c
  but_then then f a h b k c one two =
      let again : SameBut g f b k c = subst (λ (i : ℕ). SameBut g i b k c) one.file_same two in
      record {
        same = then a b c one.same two.same;
        file_same = again.file_same;
        read = λ tells. again.read tells ∙ one.read tells;
        left = steps_on one.left again.left (λ x y z nx ny p q. q ∙ p) (λ x y nx p. p);
        counted = omega (arith, one.counted, two.counted);
      }
