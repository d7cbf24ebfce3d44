-- A site on which nothing is printed.
use Rattle.std.specs.Prelude.{◌≡◌}
use Rattle.dms_moments.specs.Moments.{Steps}
use Rattle.dms_site.specs.declared.site.Site.{Ghosts}
use Rattle.dms_site.specs.Files.{Left}

-- a stop leaves the same text
abbrev pub LeavesText : Left → Left → Type 0
LeavesText old new = new.said ≡ old.said

module _ {S : Type 0} (g : Ghosts S) where
  -- The text is the same, and each stop since then left a text that a stop could leave then.
  pub record TextStays (a b : S) : Type 0 where
    pub said : g.said b ≡ g.said a
    pub left : Steps LeavesText (g.clock a) (g.clock b)

  -- A muted site is the same one, its text stays, and no printing failed.
  pub record SameMuted (a b : S) : Type 0 where
    pub same : g.same_site a b
    pub text : TextStays a b
    pub counted : g.say_faults b ≡ g.say_faults a
