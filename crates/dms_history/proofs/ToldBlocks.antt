-- What the audit tells of a block.
use Rattle.std.specs.Prelude.{nat_lt, slice_index_or}
use Rattle.std.proofs.Common.{ℕ, ◌<◌, ◌≤◌, ◌≡◌, ◌&&◌, inl, inr, Bool, true, false, List, [], length, Option, Some, None, refl, sym, ◌∙◌, ap, arith}
use Rattle.std.proofs.lemmas.Bool.{cases_lt, true≢false}
use Rattle.std.proofs.lemmas.Bool.Decides.{nat_tests}
use Rattle.std.proofs.lemmas.List.{get_or_past}
use Rattle.std.proofs.lemmas.Option.{none-some}
use Rattle.dms_history.specs.Events.{BlockBytes, Stored}
use Rattle.dms_history.specs.Lists.{until_first, after_first, after_last}
use Rattle.dms_history.specs.Places.{is_control, is_point}
use Rattle.dms_history.specs.History.{Pending}
use Rattle.dms_history.specs.Images.{or_else, last_after, first_before, value, choice}
use Rattle.dms_history.specs.Pick.{Dumps, count_at, pick}
use Rattle.dms_history.specs.Here.{here_by, here, outcome}
use Rattle.dms_history.specs.Restores.{is_none, has_no_before, is_unlogged, takes_stored}
use Rattle.dms_history.specs.Told.{undone_to, told_block, EachTold, counts_stored, EachFromFile}
use Rattle.dms_history.proofs.Picks.{some_is}
use Rattle.dms_history.proofs.Stops.{log_same, log_takes, restore_same, takes_is, outcome_block, outcome_length}

told_value : (o : Option BlockBytes) (first : Option (Option BlockBytes)) (st x : BlockBytes) → or_else o (undone_to first) ≡ Some x → value o first st ≡ x
told_value (Some y) first st x is = some_is y x is
told_value None None st x is = absurd (none-some x is)
told_value None (Some None) st x is = absurd (none-some x is)
told_value None (Some (Some old)) st x is = some_is old x is

kept_value : (o : Option BlockBytes) (first : Option (Option BlockBytes)) (st : BlockBytes) → or_else o (undone_to first) ≡ None → value o first st ≡ st
kept_value (Some y) first st is = absurd (none-some y (sym is))
kept_value None None st is = refl
kept_value None (Some None) st is = refl
kept_value None (Some (Some old)) st is = absurd (none-some old (sym is))

none_unlogged : (o : Option BlockBytes) (first : Option (Option BlockBytes)) → or_else o (undone_to first) ≡ None → is_none o && has_no_before first ≡ true
none_unlogged (Some y) first is = absurd (none-some y (sym is))
none_unlogged None None is = refl
none_unlogged None (Some None) is = refl
none_unlogged None (Some (Some old)) is = absurd (none-some old (sym is))

unlogged_none : (o : Option BlockBytes) (first : Option (Option BlockBytes)) → is_none o && has_no_before first ≡ true → or_else o (undone_to first) ≡ None
unlogged_none (Some y) first is = absurd (true≢false (sym is))
unlogged_none None None is = refl
unlogged_none None (Some None) is = refl
unlogged_none None (Some (Some old)) is = absurd (true≢false (sym is))

pub tells_blocks : EachTold
unfolding told_block pick choice
tells_blocks live m f b =
    let o = last_after f b (after_last is_control (until_first (is_point m) live)) in
    let first = first_before f b (after_first (is_point m) live) in
    record {
      told = λ stored x is. told_value o first (stored f b) x is;
      kept = λ stored is. kept_value o first (stored f b) is;
      unlogged = λ is. none_unlogged o first is;
      logged = λ is. unlogged_none o first is;
    }

-- ---- from the structure file

and_both : (a b : Bool) → a && b ≡ true → (a ≡ true) × (b ≡ true)
and_both true b on = (refl, on)
and_both false b on = absurd (true≢false (sym on))

counts_is : (o : Option Pending) (dumps : Dumps) (stored : Stored) (f b : ℕ) → counts_stored o f b ≡ true → here_by o dumps stored f b ≡ stored f b
counts_is None dumps stored f b on = refl
counts_is (Some p) dumps stored f b on =
    let both = and_both (nat_lt b (count_at p.entries p.point f)) (takes_stored p.how p.entries p.point f b) on in
    let low : b < count_at p.entries p.point f = grind (arith, nat_tests, both.0) in
    outcome_block p.how dumps p.entries p.point f b stored low ∙ takes_is p.how dumps p.entries p.point f b stored both.1

past_end : (blocks : List BlockBytes) (b : ℕ) → length blocks ≤ b → slice_index_or blocks b [] ≡ []
past_end blocks b high = get_or_past blocks b [] high

counts_elsewhere : (o : Option Pending) (dumps : Dumps) (one two : Stored) (f b : ℕ) → counts_stored o f b ≡ false → here_by o dumps one f b ≡ here_by o dumps two f b
counts_elsewhere None dumps one two f b off = absurd (true≢false off)
counts_elsewhere (Some p) dumps one two f b off = elim (cases_lt b (count_at p.entries p.point f)) [
  | inr high ↦
      past_end (outcome p.how dumps p.entries p.point one f) b (omega (arith, high, outcome_length p.how dumps p.entries p.point f one))
      ∙ sym (past_end (outcome p.how dumps p.entries p.point two f) b (omega (arith, high, outcome_length p.how dumps p.entries p.point f two)))
  | inl low ↦
      let test : nat_lt b (count_at p.entries p.point f) ≡ true = grind (arith, nat_tests, low) in
      let free : takes_stored p.how p.entries p.point f b ≡ false = ap (λ k. k && takes_stored p.how p.entries p.point f b) (sym test) ∙ off in
      outcome_block p.how dumps p.entries p.point f b one low
      ∙ restore_same p.how dumps p.entries p.point f b one two (λ on. absurd (true≢false (sym on ∙ free)))
      ∙ sym (outcome_block p.how dumps p.entries p.point f b two low)
]

pub each_from_file : EachFromFile
each_from_file h n f b = record {
  stored = λ on dumps stored.
      let both = and_both (is_unlogged h.live n f b) (counts_stored h.pending f b) on in
      log_takes h.live n f b (here dumps h stored) both.0 ∙ counts_is h.pending dumps stored f b both.1;
  elsewhere = λ off dumps one two. log_same h.live n f b (here dumps h one) (here dumps h two) (λ unlogged.
      counts_elsewhere h.pending dumps one two f b (ap (λ k. k && counts_stored h.pending f b) (sym unlogged) ∙ off));
}
