-- A restore that is pending, or none.
use Rattle.std.proofs.Common.{◌≡◌, inl, inr, true, List, Some, sym, ◌∙◌, ap, subst}
use Rattle.std.proofs.lemmas.Bool.{cases_Bool, true≢false}
use Rattle.dms_history.specs.Events.{Stored, Event, AllBlocks, block_in}
use Rattle.dms_history.specs.Lists.{has, until_first}
use Rattle.dms_history.specs.Places.{is_described, is_point}
use Rattle.dms_history.specs.History.{history, pending_point, last_number}
use Rattle.dms_history.specs.Base.{from_control, Sound}
use Rattle.dms_history.specs.LawsOfRestores.{PendingCuts, NoDumpCounts, HereFixed}
use Rattle.dms_history.proofs.Stops.{has_self, here_is}
use Rattle.dms_history.proofs.HalfDone.{has_front, until_until}
use Rattle.dms_history.proofs.Order.{last_front}
use Rattle.dms_history.proofs.Whole.{pending_cut}
use Rattle.dms_history.proofs.Cuts.{until_none}
use Rattle.dms_history.proofs.Again.{steady_of, here_unpending}

pub no_dump_counts : NoDumpCounts
no_dump_counts dumps others h base stored none steady =
    steady_of others h base stored none (subst (λ (s : Stored). Sound (from_control h.live) base s) (here_unpending dumps h stored none) steady.sound)

-- ---- a pending restore

pub pending_cuts : PendingCuts
pending_cuts entries p alone is =
    let h = history entries in
    let m = p.point in
    let cut : h.live ≡ until_first (is_point m) p.entries = pending_cut entries alone p is in
    let ends : last_number (pending_point h.pending) h.live ≡ Some m = elim (cases_Bool (has (is_point m) p.entries)) [
      | inl on ↦ ap (λ (l : List Event). last_number (pending_point h.pending) l) cut ∙ last_front p.entries (pending_point h.pending) m on
      | inr off ↦ (λ i. last_number (pending_point (is i)) ((cut ∙ until_none (is_point m) p.entries off) i))
    ] in
    record {
      cut = cut;
      last = ends;
      lives = λ n at.
          let found : has (is_point m) p.entries ≡ true = elim (cases_Bool (has (is_point m) p.entries)) [
            | inl on ↦ on
            | inr off ↦ absurd (true≢false (sym at.found ∙ ap (λ (l : List Event). has (is_point n) l) (cut ∙ until_none (is_point m) p.entries off)))
          ] in
          let there : has (is_point m) h.live ≡ true = ap (λ (l : List Event). has (is_point m) l) cut ∙ has_self (is_point m) p.entries found in
          let whole : until_first (is_point m) h.live ≡ h.live = ap (λ (l : List Event). until_first (is_point m) l) cut ∙ until_until (is_point m) (is_point m) p.entries (has_self (is_point m) p.entries found) ∙ sym cut in
          record { found = there; described = ap (λ (l : List Event). has is_described l) whole ∙ has_front (is_point n) is_described h.live at.described };
    }

pub here_fixed : HereFixed
here_fixed dumps h base one two p is first second =
    here_is dumps h p one is ∙ ap (λ (c : AllBlocks). block_in c) (first.restored p is ∙ sym (second.restored p is)) ∙ sym (here_is dumps h p two is)
