-- A muted site stays the same one, call by call, and tells no text.
use Rattle.std.specs.Prelude.{false, IsTrue}
use Rattle.std.proofs.Common.{refl, ◌∙◌}
use Rattle.std.proofs.lemmas.Bool.{false≢true}
use Rattle.dms_moments.specs.MomentLaws.{runs_none, steps_on}
use Rattle.dms_site.specs.declared.site.Site.{Ghosts}
use Rattle.dms_load.specs.Muting.{SameMuted}

pub untold : {A : Type 0} → IsTrue false → A
untold told = absurd (false≢true told)

module _ {S : Type 0} {g : Ghosts S} where
  pub muted_again : ((s : S) → g.same_site s s) → (s : S) → SameMuted g s s
  muted_again again s = record { same = again s; text = record { said = refl; left = record { follows = λ x now. (x, now, refl); runs = runs_none (g.clock s) _ } }; counted = refl }

  pub muted_then : ((r s t : S) → g.same_site r s → g.same_site s t → g.same_site r t) → (r s t : S) → SameMuted g r s → SameMuted g s t → SameMuted g r t
  muted_then then r s t one two = record {
    same = then r s t one.same two.same;
    text = record { said = two.text.said ∙ one.text.said; left = steps_on one.text.left two.text.left (λ x y z nx ny a b. b ∙ a) (λ x y nx a. a) };
    counted = two.counted ∙ one.counted;
  }
