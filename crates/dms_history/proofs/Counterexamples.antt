-- Small trails that show why two sentences of the agreement are needed, and what a place before the first Control means.
use Rattle.std.proofs.Common.{ℕ, ◌<◌, ◌≡◌, true, List, [], ◌∷◌, ◌++◌, length, get_or, Option, Some, None, refl, sym, ◌∙◌, ap, arith, inl, inr}
use Rattle.std.proofs.lemmas.Bool.{true≢false}
use Rattle.dms_history.specs.Events.{BlockBytes, AllBlocks, Stored, Counts, rebuild, Event, change, quiet, control, begin}
use Rattle.dms_history.specs.Places.{IsLive}
use Rattle.dms_history.specs.History.{history, next_number}
use Rattle.dms_history.specs.Images.{is_at, choice}
use Rattle.dms_history.specs.Pick.{reached_count, Dumps, count_at, pick, dump_pick, content_of, blocks_at}
use Rattle.dms_history.specs.Here.{restore_pick, outcome, here}
use Rattle.dms_history.specs.Base.{from_control, Sound}
use Rattle.dms_history.specs.Agrees.{ListAgrees, EventsAgree, Numbered}
use Rattle.dms_history.proofs.Picks.{last_stands, place_cases, write_old, if_none}
use Rattle.dms_history.proofs.Converse.{logged_below, base_agrees}
use Rattle.dms_history.proofs.Order.{not_empty, numbers_first, numbers_change, numbers_quiet, numbers_begin}

one_block : Counts
one_block f = 1

-- ---- A changed block above its file's count. 'Of a new block exactly where the block is at its file's count' holds of it both ways,
-- and yet there is no content from which it came: so a change that isn't of a new block is of one below the count.

abbrev above : List Event
above = control 0 1 (λ _. 0) true ∷ change 3 1 (Some (7 ∷ [])) (8 ∷ []) ∷ []

before_image : Option BlockBytes
before_image = Some (7 ∷ [])

both_ways : (before_image ≡ None → 1 ≡ reached_count 3 0 (control 0 1 (λ _. 0) true ∷ [])) × (1 ≡ reached_count 3 0 (control 0 1 (λ _. 0) true ∷ []) → before_image ≡ None)
unfolding before_image
both_ways = (λ e. absurd cc, λ e. absurd (omega (arith, e)))

no_base : (base : AllBlocks) (counted : Stored) → Sound (from_control above) base counted → ⊥
no_base base counted sound =
    let none : 0 ≡ length (base 3) = sound.chain.0 3 in
    let low : 1 < length (base 3) = sound.chain.1.0.0 in
    omega (arith, none, low)

-- ---- A pending rebuild from a dump that isn't true. Every rule about the lists holds, since the block has an after-image behind the last Control
-- and nothing is asked of what counts as it; and when the rebuild has ended no base fits what it left. So what counts is asked for while it is pending.

abbrev false_dumps : Dumps
false_dumps d = record { point = 1; end = 1; blocks = λ f. (9 ∷ []) ∷ [] }

abbrev log_example : List Event
log_example = control 0 1 (λ _. 0) true ∷ change 3 0 None (7 ∷ []) ∷ quiet 1 ∷ []

abbrev rebuilding : List Event
rebuilding = log_example ++ begin 1 (rebuild 2) ∷ []

had_seven : (stored : Stored) → blocks_at log_example stored 1 3 ≡ (7 ∷ []) ∷ []
unfolding blocks_at content_of count_at pick choice
had_seven stored = refl

counts_nine : (stored : Stored) → here false_dumps (history rebuilding) stored 3 0 ≡ 9 ∷ []
unfolding history outcome content_of restore_pick dump_pick count_at
counts_nine stored = refl

numbers : Numbered log_example (next_number rebuilding)
unfolding next_number
numbers =
    let start : List Event = control 0 1 (λ _. 0) true ∷ [] in
    let more : List Event = control 0 1 (λ _. 0) true ∷ change 3 0 None (7 ∷ []) ∷ [] in
    let one = numbers_first (λ _. 0) true in
    let two = numbers_change start start 3 0 None (7 ∷ []) one in
    let three = numbers_quiet more more 1 two (omega arith) (omega arith) in
    numbers_begin log_example log_example 1 (rebuild 2) three refl

nothing : AllBlocks
nothing f = []

lists_agree : (stored : Stored) → ListAgrees true log_example (next_number rebuilding) (here false_dumps (history rebuilding) stored)
unfolding nothing
lists_agree stored = base_agrees true log_example (next_number rebuilding) (here false_dumps (history rebuilding) stored) nothing
    (record {
      chain = ((λ f. refl), ((refl, tt)));
      stands = λ f b low none. elim (place_cases f b 3 0) [
        | inl place ↦ absurd (true≢false (sym place.2 ∙ if_none (is_at f b 3 0) (7 ∷ []) none))
        | inr apart ↦ let old = write_old nothing 3 0 (7 ∷ []) f b (omega arith) apart.0 low in absurd (omega (arith, old))
      ];
    }) (record { leads = λ f b x last. absurd cc; linked = λ xs ys f b before after old is last. absurd (not_empty xs ys (change f b before after) (sym is)) }) numbers (λ yes_first f. refl)

end_example : List Event
end_example = control 0 1 (λ _. 0) true ∷ change 3 0 None (7 ∷ []) ∷ quiet 1 ∷ control 1 2 one_block true ∷ []

no_base_then : (base : AllBlocks) (written : Stored) → written 3 0 ≡ 9 ∷ [] → Sound end_example base written → ⊥
unfolding end_example
no_base_then base written is sound =
    let low = logged_below end_example base 3 0 (7 ∷ []) sound.chain refl in
    let same : written 3 0 ≡ 7 ∷ [] = sound.stands 3 0 low refl ∙ last_stands end_example base 3 0 (7 ∷ []) sound.chain refl in
    let heads : 9 ≡ 7 = ap (λ (l : List ℕ). get_or l 0 0) (sym is ∙ same) in
    omega (arith, heads)

-- the added sentence refuses it
refused : (stored : Stored) → EventsAgree true rebuilding false_dumps stored → ⊥
unfolding history
refused stored agrees =
    let same : 9 ∷ [] ≡ 7 ∷ [] = sym (counts_nine stored) ∙ agrees.restored (record { entries = log_example; point = 1; how = rebuild 2 }) 3 0 (7 ∷ []) refl refl in
    let heads : 9 ≡ 7 = ap (λ (l : List ℕ). get_or l 0 0) same in
    omega (arith, heads)

-- ---- Old audit files were removed, and the Quiet of point 5 stands before the first Control that is left: it is the place of 5, so 5 isn't live,
-- though a Control of 5 follows. With that Quiet removed too, it is.

abbrev front_gone : List Event
front_gone = quiet 5 ∷ control 5 6 (λ _. 0) true ∷ []

not_live : IsLive front_gone 5 → ⊥
not_live at = true≢false (sym at.described)

live_by_control : IsLive (from_control front_gone) 5
live_by_control = record { found = refl; described = refl }
