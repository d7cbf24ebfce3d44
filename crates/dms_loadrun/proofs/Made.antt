-- What a stop leaves while the database of a load is made.
use Rattle.std.proofs.Common.{◌≡◌, ◌≢◌, ◌⊎◌, ◌∙◌, ℕ, List, ap, sym, subst, refl, arith, inl, inr}
use Rattle.std.specs.Prelude.{slice_index, IsErrOf}
use Rattle.std.specs.declared.result.Result.TheVariants.{Err}
use Rattle.dms_creation.specs.Clearing.{AllButDescriptionStay}
use Rattle.dms_creation.specs.Creation.{Initializes, IsMade}
use Rattle.dms_desc.specs.Shape.{Described}
use Rattle.dms_descfile.specs.Becoming.{Creates}
use Rattle.dms_descfile.specs.DescriptionFile.{IsSealed, description_file, sealed_file}
use Rattle.dms_loadrun.specs.Filling.{IsNew, LeavesMaking, Makes}
use Rattle.dms_moments.specs.Moments.{Clock, Now}
use Rattle.dms_moments.specs.MomentLaws.{runs_on, runs_since, runs_weaken}
use Rattle.dms_newdb.specs.State.{MadeStands, StandsNew}
use Rattle.dms_site.specs.Files.{Files, Left, Only}
use Rattle.dms_status.specs.declared.status.Status.{Status}

gate_zero : (d : Described) → slice_index (sealed_file d) 1 ≡ 0
unfolding description_file
gate_zero d = refl

-- the gate of the database isn't open in a description that was just sealed
pub gate_shut : (d : Described) (file : List ℕ) → file ≡ sealed_file d → slice_index file 1 ≢ 1
gate_shut d file is opened = absurd (omega (arith, sym (gate_zero d) ∙ ap (λ (f : List ℕ). slice_index f 1) (sym is) ∙ opened))

-- while the description is sealed
pub creates_makes : (d : Described) (files : Files) (a b : Clock Left) → Creates (sealed_file d) files a b → Makes d files a b
creates_makes d files a b runs = runs_weaken runs (λ x was. elim was [
  | inl now ↦ inl now
  | inr is ↦ inr (record {
    others = λ g apart other. is.others g other;
    holds = inl (elim is.here [ inl unsealed ↦ inl unsealed | inr made ↦ inr (gate_shut d (x.files 1) made) ]);
  })
])

module _ (law : MadeStands) (d : Described) (files made : Files) (sealed : made 1 ≡ sealed_file d) (is : IsSealed (made 1) d) (others : (g : ℕ) → g ≢ 1 → made g ≡ files g) where
  -- the description stands, and there is no database yet
  sealed_leaves : (now : Files) → now ≡ made → LeavesMaking d files now
  sealed_leaves now same = record {
    others = λ g apart other. ap (λ (f : Files). f g) same ∙ others g other;
    holds = inl (inr (gate_shut d (now 1) (ap (λ (f : Files). f 1) same ∙ sealed)));
  }

  -- and then while the database is made
  pub makes_on : (a b c : Clock Left) → Only made b → Creates (sealed_file d) files a b → Initializes 0 d made b c → Makes d files a c
  makes_on a b c only creates runs = runs_on (creates_makes d files a b creates) runs (λ x was. elim was [
    | inl now ↦ inr (sealed_leaves x.files (only x now))
    | inr at ↦ inr (elim at [
      | inl unmade ↦ record { others = λ g apart other. unmade.others g apart other ∙ others g other; holds = inl (inr unmade.here.shut) }
      | inr new ↦ record { others = λ g apart other. new.others g apart other ∙ others g other; holds = inr (law 0 d made x.files is new) }
    ])
  ])

  pub new_of : (now : Files) (c : Clock Left) → IsMade 0 d made now → Only now c → IsNew d files now c
  new_of now c new only = record { others = λ g apart other. new.others g apart other ∙ others g other; first = new.trail; stands = law 0 d made now is new; only = only }

  -- and where that failed no other file was changed
  pub others_on : (b c : Clock Left) → Only made b → Initializes 0 d made b c → (x : Left) → c.left b.now x → AllButDescriptionStay files x.files
  others_on b c only runs x left = elim (runs_since runs x left) [
    | inl now ↦ (sealed_leaves x.files (only x now)).others
    | inr was ↦ elim was [
      | inl now ↦ (sealed_leaves x.files (only x now)).others
      | inr at ↦ elim at [
        | inl unmade ↦ λ g apart other. unmade.others g apart other ∙ others g other
        | inr new ↦ λ g apart other. new.others g apart other ∙ others g other
      ]
    ]
  ]

-- the status that an answer has
pub status_is : (a b : Status) → IsErrOf {T = Unit {0}} (Err a) b → a ≡ b
status_is a b is = cc
