-- What a load does where no description is, is what it does.
use Rattle.std.proofs.Common.{◌≡◌, ◌∙◌, ℕ, List, ap, subst, IsTrue}
use Rattle.dms_descfile.specs.DescriptionFile.{IsUnsealed}
use Rattle.dms_loadcount.specs.Answers.{load_text}
use Rattle.dms_loadrun.specs.Description.{load_description}
use Rattle.dms_loadrun.specs.LoadDoes.{LoadDoes, LoadsOver}
use Rattle.dms_loadrun.proofs.Loaded.{loads_from}
use Rattle.dms_moments.specs.Moments.{Steps}
use Rattle.dms_status.specs.Saying.{SaysLine}
use Rattle.dms_site.specs.declared.site.Site.{Ghosts}
use Rattle.dms_site.specs.Files.{Files, Same}
use Rattle.dms_status.specs.declared.status.Status.{Status}

pub load_does : {S : Type 0} (g : Ghosts S) (seed n : ℕ) (old mid new : S) (s : Status) → (IsTrue g.tells → g.files mid ≡ g.files old) → Steps Same (g.clock old) (g.clock mid) → g.said mid ≡ g.said old → (IsTrue g.tells → IsUnsealed (g.files old 1))
    → LoadsOver g load_description seed n (load_text load_description seed n) mid new s → LoadDoes g seed n old new s
load_does g seed n old mid new s files step said unsealed l = record {
  statuses = l.statuses;
  found = l.found;
  exists = λ is tells. absurd (l.exists is tells);
  unsealed = λ behind tells. unsealed tells;
  kept = λ tells e sealed. absurd (unsealed tells e sealed);
  every_moment = λ tells. loads_from load_description seed n (g.files old) (g.files mid) (g.clock old) (g.clock mid) (g.clock new) (files tells) step (l.every_moment tells);
  others = λ tells f apart other. l.others tells f apart other ∙ ap (λ (fs : Files). fs f) (files tells);
  at_ok = l.at_ok;
  at_ok_stable = l.at_ok_stable;
  full = l.full;
  held = l.held;
  says = λ told. subst (λ (o : List ℕ). SaysLine s (load_text load_description seed n) o (g.said new)) said (l.says told);
}
