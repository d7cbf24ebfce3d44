-- A site of which nothing but the text changes.
use Rattle.std.proofs.Common.{◌≡◌, ℕ, List, [], ◌++◌, refl, sym, ap, ◌∙◌, append_assoc}
use Rattle.std.proofs.lemmas.List.{append-nil}
use Rattle.dms_moments.specs.Moments.{Clock, Steps}
use Rattle.dms_moments.specs.MomentLaws.{steps_on, runs_none}
use Rattle.dms_site.specs.Files.{Left}

-- the files stay, and more was printed, or nothing
pub record SpeaksOnly (old new : Left) : Type 0 where
  pub files : new.files ≡ old.files
  pub more : List ℕ
  pub said : new.said ≡ old.said ++ more

-- what a stop on the way may leave is what a stop before it may leave, with more printed
abbrev pub OnlySpeaks : Clock Left → Clock Left → Type 0
OnlySpeaks old new = Steps SpeaksOnly old new

pub only_none : (c : Clock Left) → OnlySpeaks c c
only_none c = record { follows = λ x now. (x, now, record { files = refl; more = []; said = sym (append-nil x.said) }); runs = runs_none c _ }

speaks_on : (x y z : Left) → SpeaksOnly x y → SpeaksOnly y z → SpeaksOnly x z
speaks_on x y z p q = record { files = q.files ∙ p.files; more = p.more ++ q.more; said = q.said ∙ ap (λ (t : List ℕ). t ++ q.more) p.said ∙ append_assoc x.said p.more q.more }

pub only_on : (a b c : Clock Left) → OnlySpeaks a b → OnlySpeaks b c → OnlySpeaks a c
only_on a b c first next = steps_on first next (λ x y z here there p q. speaks_on x y z p q) (λ x y here p. p)
