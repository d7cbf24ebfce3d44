-- What a listing gives of the database's files, and the greatest present one.
use Rattle.std.specs.Prelude.{ℕ, ◌^◌, ◌<◌, ◌≤◌, ◌≡◌, ◌≢◌, ◌⊎◌, List, [], ◌∷◌, ◌++◌, length, MatchOption}
use Rattle.std.specs.declared.option.Option.{Option}
use Rattle.dms_site.specs.Files.{Files}
use Rattle.dms_calls.specs.Names.{name_of}

-- A name was given: that of the database file of this number, or of none.
pub record TakesName (old new : List (List ℕ)) (found : Option ℕ) : Type 0 where
  pub name : List ℕ
  pub given : new ≡ old ++ name ∷ []
  pub number : MatchOption found ((n : ℕ) → n < 2 ^ 32 → name ≢ name_of n) (λ n. (n < 2 ^ 32) × (name ≡ name_of n))

-- After one more number the greatest present one so far is that one or the same as before, and it misses no present one.
pub record IsLater (files : Files) (start upto last number found : ℕ) : Type 0 where
  pub from : (found ≡ last) ⊎ ((found ≡ number) × (start ≤ number) × (number ≤ upto) × (0 < length (files number)))
  pub no_less : last ≤ found
  pub skipped : start ≤ number → number ≤ upto → found < number → files number ≡ []
