-- The files by number that a folder shows, and what a stop may leave of them.
use Rattle.std.specs.Prelude.{nat_lt, if◌then◌else◌}
use Rattle.std.proofs.Common.{ℕ, ◌^◌, ◌<◌, arith, ◌≡◌, inl, inr, ⊎_elim, refl, sym, subst, List, [], None, Some}
use Rattle.std.specs.declared.option.Option.{Option}
use Rattle.std.proofs.lemmas.Bool.{cases_lt}
use Rattle.std.proofs.lemmas.Bool.Decides.{nat_tests}
use Rattle.dms_moments.specs.Moments.{Clock, Now, Steps}
use Rattle.dms_site.specs.Files.{Files, Left}
use Rattle.dms_calls.specs.World.{World}

-- the bytes behind a name, none where it leads to no file
abbrev pub bytes_of : World → Option ℕ → List ℕ
bytes_of w None = []
bytes_of w (Some i) = w.bytes i

-- the files by number, of 32 bits, for a way to name them
unfoldable pub site_files : (ℕ → List ℕ) → World → Files
site_files name w = λ f. if nat_lt f (2 ^ 32) then bytes_of w (w.names (name f)) else []

abbrev pub left_of : (ℕ → List ℕ) → World → Left
left_of name w = record { files = site_files name w; said = w.said }

-- the moments of the calls, as they are seen
unfoldable pub seen_clock : (ℕ → List ℕ) → Clock World → Clock Left
seen_clock name c = record { now = c.now; left = λ t x. (w : World) × c.left t w × (x ≡ left_of name w) }

module _ (name : ℕ → List ℕ) {a b : Clock World} where
  -- a step of a call, as it is seen
  pub seen_steps : {step : World → World → Type 0} {shown : Left → Left → Type 0} → Steps step a b
      → ((w w' : World) → Now a w → step w w' → shown (left_of name w) (left_of name w')) → Steps shown (seen_clock name a) (seen_clock name b)
  unfolding seen_clock
  seen_steps {step} {shown} call shows = record {
    follows = λ x now.
        let before = call.follows now.0 now.1 in
        (left_of name before.0, (before.0, before.1, refl), subst (λ (l : Left). shown (left_of name before.0) l) (sym now.2) (shows before.0 now.0 before.1 before.2));
    runs = record {
      later = call.runs.later;
      only = λ t x le left. ⊎_elim
          (λ was. inl (left.0, was, left.2))
          (λ after. inr (left_of name after.0, (after.0, after.1, refl), subst (λ (l : Left). shown (left_of name after.0) l) (sym left.2) (shows after.0 left.0 after.1 after.2)))
          (call.runs.only t left.0 le left.1);
      keeps = λ t x le was. (was.0, call.runs.keeps t was.0 le was.1, was.2);
    };
  }

module _ (name : ℕ → List ℕ) where
  -- files that are behind their names the same are seen the same
  pub seen_alike : (v w : World) → ((f : ℕ) → f < 2 ^ 32 → bytes_of v (v.names (name f)) ≡ bytes_of w (w.names (name f))) → site_files name v ≡ site_files name w
  unfolding site_files
  seen_alike v w same = λ i f. alike f i
    where
      alike : (f : ℕ) → site_files name v f ≡ site_files name w f
      alike f = elim (cases_lt f (2 ^ 32)) [
        | inl low ↦ grind (arith, nat_tests, low, same f low)
        | inr high ↦ grind (arith, nat_tests, high)
      ]

  pub seen_at : (w : World) (f : ℕ) → f < 2 ^ 32 → site_files name w f ≡ bytes_of w (w.names (name f))
  unfolding site_files
  seen_at w f low = grind (arith, nat_tests, low)

  pub seen_at_same : (v w : World) (f : ℕ) → (f < 2 ^ 32 → bytes_of v (v.names (name f)) ≡ bytes_of w (w.names (name f))) → site_files name v f ≡ site_files name w f
  unfolding site_files
  seen_at_same v w f same = elim (cases_lt f (2 ^ 32)) [
    | inl low ↦ grind (arith, nat_tests, low, same low)
    | inr high ↦ grind (arith, nat_tests, high)
  ]
