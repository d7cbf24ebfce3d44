-- No entry disagrees exactly where the entries agree.
use Rattle.std.proofs.Common.{◌≡◌, ℕ, Bool, true, false, cond, leb, List, [], ◌∷◌, Option, Some, None, refl, sym, ap, subst, ◌∙◌}
use Rattle.dms_history.specs.Events.{Stored, Counts, Event}
use Rattle.dms_history.specs.Lists.{has}
use Rattle.dms_history.specs.Places.{is_control}
use Rattle.dms_history.specs.Pick.{Dumps}
use Rattle.dms_history.specs.Here.{here}
use Rattle.dms_history.specs.Base.{first_counts}
use Rattle.dms_history.specs.Ranges.{Logged, all_changes, live_logged, told_events}
use Rattle.dms_history.proofs.Turns.{live_of_ranges}
use Rattle.dms_history.specs.Entries.{Entry}
use Rattle.dms_history.specs.EntryEvents.{events_in, events, history_of, live_of, next_of, Agrees}
use Rattle.dms_flaws.specs.Firsts.{all_pass, first_failing}
use Rattle.dms_flaws.specs.Rules.{AreOfStructures, CountsAsLeft, keeps_rules}
use Rattle.dms_flaws.specs.Numbered.{Said, say, numbered, live_numbered}
use Rattle.dms_flaws.specs.Entries.{EntriesAgree, EntriesAgreeOf, RestoresAsLeft, alone_flaw, entry_flaw, keeps_live, lesser, live_flaw, number_of, of_said, stands_alone}
use Rattle.dms_flaws.proofs.Passing.{fails_none, none_fails}
use Rattle.dms_flaws.proofs.Ruled.{rules_agree}
use Rattle.dms_flaws.proofs.Saying.{live_said_are, pass_said, said_are}
use Rattle.dms_flaws.proofs.Behind.{alone_of, images_of, of_alone, of_rules, rules_of}

none_of : (o : Option Said) → number_of o ≡ None → o ≡ None
none_of None h = refl
none_of (Some x) h = absurd (cc h)

of_none : (o : Option Said) → o ≡ None → number_of o ≡ None
of_none o h = ap number_of h

both_none : (a b : Option ℕ) → lesser a b ≡ None → (a ≡ None) × (b ≡ None)
both_none None b h = (refl, h)
both_none (Some a) None h = absurd (cc h)
both_none (Some a) (Some b) h = by (leb a b) h
  where
    by : (t : Bool) → cond t (Some a) (Some b) ≡ None → (Some a ≡ None) × (Some b ≡ None)
    by true h = absurd (cc h)
    by false h = absurd (cc h)

module _ (first : Bool) (entries : List Entry) (structures : AreOfStructures (live_of entries)) (found : has is_control (live_of entries) ≡ true) where
  abbrev opening : Counts
  opening = first_counts (live_of entries)

  abbrev logged : List Logged
  logged = live_logged [] (events_in entries)

  -- the live events are those of the live entries
  live_is : live_of entries ≡ all_changes logged
  live_is = live_of_ranges (events_in entries)

  alone_passes : alone_flaw entries ≡ None → all_pass stands_alone [] (events_in entries) ≡ true
  alone_passes h =
      ap (λ (l : List Logged). all_pass stands_alone [] l) (sym (said_are entries))
      ∙ sym (pass_said stands_alone [] (numbered entries)) ∙ fails_none (of_said stands_alone) [] (numbered entries) (none_of _ h)

  live_passes : live_flaw first entries ≡ None → all_pass (keeps_live first (next_of entries) opening) [] logged ≡ true
  live_passes h =
      ap (λ (l : List Logged). all_pass (keeps_live first (next_of entries) opening) [] l) (sym (live_said_are entries))
      ∙ sym (pass_said (keeps_live first (next_of entries) opening) [] (live_numbered entries)) ∙ fails_none (of_said (keeps_live first (next_of entries) opening)) [] (live_numbered entries) (none_of _ h)

  agree : entry_flaw first entries ≡ None → (dumps : Dumps) (stored : Stored) → CountsAsLeft (live_of entries) (here dumps (history_of entries) stored)
      → RestoresAsLeft (history_of entries).pending (live_of entries) (here dumps (history_of entries) stored) → Agrees first entries dumps stored
  unfolding entry_flaw
  agree h dumps stored stands restored =
      let none = both_none (alone_flaw entries) (live_flaw first entries) h in
      let passes = live_passes none.1 in
      let rules = subst (λ (l : List Event). all_pass (keeps_rules first (next_of entries) opening) [] l ≡ true) (sym live_is) (rules_of first (next_of entries) opening logged passes) in
      record {
        events_agree = record { lists = (rules_agree first (live_of entries) (next_of entries) structures found).agrees rules (here dumps (history_of entries) stored) stands; restored = restored };
        alone = alone_of (events_in entries) (alone_passes none.0);
        images = images_of first (next_of entries) opening logged passes;
      }

  nothing : (dumps : Dumps) (stored : Stored) → Agrees first entries dumps stored → entry_flaw first entries ≡ None
  unfolding entry_flaw
  nothing dumps stored a =
      let rules = (rules_agree first (live_of entries) (next_of entries) structures found).passes (here dumps (history_of entries) stored) a.events_agree.lists in
      let passes = of_rules first (next_of entries) opening logged a.images (subst (λ (l : List Event). all_pass (keeps_rules first (next_of entries) opening) [] l ≡ true) live_is rules) in
      let alone : alone_flaw entries ≡ None = of_none _ (none_fails (of_said stands_alone) [] (numbered entries)
      (pass_said stands_alone [] (numbered entries) ∙ ap (λ (l : List Logged). all_pass stands_alone [] l) (said_are entries) ∙ of_alone (events_in entries) a.alone)) in
      let live : live_flaw first entries ≡ None = of_none _ (none_fails (of_said (keeps_live first (next_of entries) opening)) [] (live_numbered entries)
      (pass_said (keeps_live first (next_of entries) opening) [] (live_numbered entries) ∙ ap (λ (l : List Logged). all_pass (keeps_live first (next_of entries) opening) [] l) (live_said_are entries) ∙ passes)) in
      λ i. lesser (alone i) (live i)

pub entries_agree : EntriesAgree
entries_agree first entries structures found = record { agrees = agree first entries structures found; none = nothing first entries structures found }
