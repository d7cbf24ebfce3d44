-- What each step makes of the list of the live points.
use Rattle.std.specs.Prelude.{◌&&◌, not, nat_le}
use Rattle.std.proofs.Common.{ℕ, ◌≤◌, ◌<◌, ◌≡◌, inl, inr, true, false, cond, List, [], ◌∷◌, ◌++◌, map, refl, sym, ◌∙◌, ap, subst, arith, append_assoc}
use Rattle.std.proofs.lemmas.Bool.{cases_lt, true≢false}
use Rattle.std.proofs.lemmas.Bool.Decides.{nat_tests}
use Rattle.dms_history.proofs.Picks.{some_is}
use Rattle.dms_history.specs.Events.{AllBlocks, Stored, Event, change, quiet, control, begin}
use Rattle.dms_history.specs.Replay.{replay}
use Rattle.dms_history.specs.Lists.{has, until_first, after_first}
use Rattle.dms_history.specs.Places.{is_point, is_described, point_numbers, IsLive}
use Rattle.dms_history.specs.History.{after_event}
use Rattle.dms_history.specs.Base.{from_control, Sound}
use Rattle.dms_history.specs.Agrees.{Numbered}
use Rattle.dms_history.specs.Here.{here}
use Rattle.dms_history.specs.Points.{LivePoint, HasPoint, live_number, new_place, numbers_from, live_numbers, point_at, live_points, up_to, AllAbove, Rises, AllLive, ListsPoints}
use Rattle.dms_history.specs.LawsOfPointLists.{ListsChange, ListsQuiet, ListsControl, ListsLevel, ListsBegin, LastKeepsAll}
use Rattle.dms_history.proofs.AtPoints.{split_first, true_or}
use Rattle.dms_history.proofs.Base.{has_append}
use Rattle.dms_history.proofs.Converse.{opening_append}
use Rattle.dms_history.proofs.Given.{described_control}
use Rattle.dms_history.proofs.Order.{append_none, points_append, front_ends, point_among, last_lives, rolls_back}
use Rattle.dms_history.proofs.Running.{above_all, quiet_is_live, level_is_live}
use Rattle.dms_history.proofs.Runs.{quiets}
use Rattle.dms_history.proofs.Stops.{has_self, restore_begins}
use Rattle.dms_history.proofs.Listed.{numbers_append, EachLive, all_live, points_listed, one_list, points_alike, numbers_rise, listed_rising, rest_above, points_front}

-- ---- rising lists

EachBelow : ℕ → List ℕ → Type 0
EachBelow n [] = Unit {0}
EachBelow n (k ∷ ks) = (k < n) × EachBelow n ks

above_push : (k : ℕ) (ns : List ℕ) (n : ℕ) → AllAbove k ns → k < n → AllAbove k (ns ++ n ∷ [])
above_push k [] n above low = (low, tt)
above_push k (m ∷ ns) n above low = (above.0, above_push k ns n above.1 low)

each_below : (live : List Event) (next n : ℕ) → Numbered live next → next ≤ n → (ks : List ℕ) → EachLive live ks → EachBelow n ks
unfolding EachBelow
each_below live next n numbered free [] all = tt
each_below live next n numbered free (k ∷ ks) all =
    let among = point_among live k all.0.found in
    let low : k < next = numbered.below_next among.0 among.1 k among.2 in
    (omega (arith, low, free), each_below live next n numbered free ks all.1)

-- ---- one more event

-- no number gets its place
stays : (live more : List Event) (next : ℕ) (base : AllBlocks) (counted later : Stored) (ps : List LivePoint) → Numbered live next → numbers_from live more ≡ []
    → Sound (from_control live) base counted → Sound (from_control (live ++ more)) base later → ListsPoints live counted ps → ListsPoints (live ++ more) later ps
unfolding live_numbers
stays live more next base counted later ps numbered none sound grown listed =
    let same : live_points (live ++ more) later ≡ ps =
    points_front live more base counted later sound grown ∙ ap (λ (l : List ℕ). live_points live counted ++ map (point_at (live ++ more) later) l) none ∙ append_none (live_points live counted)
    ∙ one_list live counted (live_points live counted) ps (points_listed live next counted numbered) listed in
    let numbers : numbers_from [] (live ++ more) ≡ numbers_from [] live = numbers_append [] live more ∙ ap (λ (l : List ℕ). numbers_from [] live ++ l) none ∙ append_none (numbers_from [] live) in
    subst (λ (l : List LivePoint). ListsPoints (live ++ more) later l) same (listed_rising (live ++ more) later (subst Rises (sym numbers) (numbers_rise live next numbered)))

pub lists_change : ListsChange
lists_change live next base counted ps f b before after numbered sound grown listed = stays live (change f b before after ∷ []) next base counted counted ps numbered refl sound grown listed

not_placed : (n : ℕ) (front : List Event) (e : Event) → has (is_point n) front ≡ true → live_number n front e ≡ []
not_placed n front e found = ap (λ k. cond (not k && has is_described (front ++ e ∷ [])) (n ∷ []) []) found

pub lists_control : ListsControl
lists_control live next base counted later ps n after counts described numbered live_number sound grown listed =
    let e = control n after counts described in
    stays live (e ∷ []) next base counted later ps numbered (ap (λ (l : List ℕ). l ++ []) (not_placed n live e live_number)) sound grown listed

-- ---- a new point

rises_push : (ns : List ℕ) (n : ℕ) → Rises ns → EachBelow n ns → Rises (ns ++ n ∷ [])
unfolding EachBelow
rises_push [] n rises below = (tt, tt)
rises_push (k ∷ ns) n rises below = (above_push k ns n rises.0 below.0, rises_push ns n rises.1 below.1)

-- one event that makes a point
lists_new : (live : List Event) (next : ℕ) (base : AllBlocks) (counted later : Stored) (ps : List LivePoint) (n : ℕ) (x : Event) → new_place live x ≡ n ∷ [] → Numbered live next → next ≤ n
    → Sound (from_control live) base counted → Sound (from_control (live ++ x ∷ [])) base later → HasPoint (live ++ x ∷ []) later n (replay (from_control live) base) → ListsPoints live counted ps
    → ListsPoints (live ++ x ∷ []) later (ps ++ record { number = n; blocks = replay (from_control live) base } ∷ [])
unfolding live_points live_numbers
lists_new live next base counted later ps n x placed numbered free sound grown at listed =
    let new : numbers_from live (x ∷ []) ≡ n ∷ [] = ap (λ (l : List ℕ). l ++ []) placed in
    let same : map (point_at (live ++ x ∷ []) later) (numbers_from [] (live ++ x ∷ [])) ≡ ps ++ record { number = n; blocks = replay (from_control live) base } ∷ [] =
    points_front live (x ∷ []) base counted later sound grown ∙ ap (λ (l : List ℕ). live_points live counted ++ map (point_at (live ++ x ∷ []) later) l) new
    ∙ (λ i. one_list live counted (live_points live counted) ps (points_listed live next counted numbered) listed i ++ record { number = n; blocks = at.same i } ∷ []) in
    let numbers : numbers_from [] (live ++ x ∷ []) ≡ numbers_from [] live ++ n ∷ [] = numbers_append [] live (x ∷ []) ∙ ap (λ (l : List ℕ). numbers_from [] live ++ l) new in
    subst (λ (l : List LivePoint). ListsPoints (live ++ x ∷ []) later l) same
    (listed_rising (live ++ x ∷ []) later (subst Rises (sym numbers) (rises_push (numbers_from [] live) n (numbers_rise live next numbered) (each_below live next n numbered free (numbers_from [] live) (all_live live)))))

-- its number is new, and a described Control stands before it
newly_placed : (live : List Event) (next n : ℕ) (x : Event) → Numbered live next → next ≤ n → has is_described live ≡ true → live_number n live x ≡ n ∷ []
newly_placed live next n x numbered free described =
    let off : has (is_point n) live ≡ false = above_all live next n numbered free in
    let told : has is_described (live ++ x ∷ []) ≡ true = has_append is_described live (x ∷ []) ∙ true_or (has is_described live) (has is_described (x ∷ [])) described in
    λ i. cond (not (off i) && told i) (n ∷ []) []

pub lists_quiet : ListsQuiet
lists_quiet live next base counted ps n numbered free described sound listed =
    let e = quiet n in
    let grown : Sound (from_control (live ++ e ∷ [])) base counted = subst (λ (l : List Event). Sound l base counted) (sym (opening_append live (e ∷ []) (described_control live described)).1) (quiets (from_control live) base counted n sound) in
    lists_new live next base counted counted ps n e (newly_placed live next n e numbered free described) numbered free sound grown (quiet_is_live live next base counted n numbered free described sound) listed

pub lists_level : ListsLevel
lists_level live next base counted later ps n after counts described numbered free told sound grown listed =
    let e = control n after counts described in
    lists_new live next base counted later ps n e (newly_placed live next n e numbered free told) numbered free sound grown (level_is_live live next base later n after counts described numbered free told grown) listed

-- ---- a Begin

EachUpTo : ℕ → List ℕ → Type 0
EachUpTo m [] = Unit {0}
EachUpTo m (n ∷ ns) = (n ≤ m) × EachUpTo m ns

none_up : (live : List Event) (counted : Stored) (m : ℕ) (ns : List ℕ) → AllAbove m ns → up_to m (map (point_at live counted) ns) ≡ []
none_up live counted m [] above = refl
none_up live counted m (n ∷ ns) above = ap (λ k. cond k (point_at live counted n ∷ up_to m (map (point_at live counted) ns)) []) (test m n above.0)
  where
    test : (m n : ℕ) → m < n → nat_le n m ≡ false
    test m n above = grind (arith, nat_tests)

up_split : (live : List Event) (counted : Stored) (m : ℕ) (ns ms : List ℕ) → EachUpTo m ns → AllAbove m ms → up_to m (map (point_at live counted) (ns ++ ms)) ≡ map (point_at live counted) ns
unfolding EachUpTo
up_split live counted m [] ms low above = none_up live counted m ms above
up_split live counted m (n ∷ ns) ms low above =
    ap (λ k. cond k (point_at live counted n ∷ up_to m (map (point_at live counted) (ns ++ ms))) []) (test m n low.0) ∙ ap (λ (l : List LivePoint). point_at live counted n ∷ l) (up_split live counted m ns ms low.1 above)
  where
    test : (m n : ℕ) → n ≤ m → nat_le n m ≡ true
    test m n low = grind (arith, nat_tests)

above_front : (k : ℕ) (ns ms : List ℕ) → AllAbove k (ns ++ ms) → AllAbove k ns
above_front k [] ms above = tt
above_front k (n ∷ ns) ms above = (above.0, above_front k ns ms above.1)

rises_front : (ns ms : List ℕ) → Rises (ns ++ ms) → Rises ns
rises_front [] ms rises = tt
rises_front (n ∷ ns) ms rises = (above_front n ns ms rises.0, rises_front ns ms rises.1)

module _ (live : List Event) (next m : ℕ) (numbered : Numbered live next) (at : IsLive live m) where
  abbrev front : List Event
  front = until_first (is_point m) live

  abbrev late : List Event
  late = after_first (is_point m) live

  all_up : (ns : List ℕ) → EachLive front ns → EachUpTo m ns
  unfolding EachUpTo
  all_up [] all = tt
  all_up (n ∷ ns) all = (
    elim (cases_lt m n) [
      | inr low ↦ low
      | inl above ↦ absurd (true≢false (sym all.0.found ∙ (rolls_back live next m numbered at).none_above n above))
    ],
    all_up ns all.1,
  )

  above_late : (ys zs : List ℕ) (k : ℕ) → point_numbers late ≡ ys ++ k ∷ zs → m ≤ k
  above_late ys zs k is =
      let ends = front_ends live m at.found in
      numbered.never_fall ends.0 ys zs m k
      (ap point_numbers (sym (split_first (is_point m) live at.found)) ∙ points_append front late ∙ (λ i. ends.1 i ++ is i) ∙ append_assoc ends.0 (m ∷ []) (ys ++ k ∷ zs))

pub lists_begin : ListsBegin
unfolding live_points live_numbers
lists_begin how dumps h next base counted stored ps m numbered ready listed =
    let live = h.live in
    let at = ready.point_lives in
    let front = until_first (is_point m) live in
    let late = after_first (is_point m) live in
    let now = here dumps (after_event h (begin m how)) stored in
    let begun = restore_begins how dumps h base counted stored m ready in
    let ns = numbers_from [] front in
    let ms = numbers_from front late in
    let numbers : numbers_from [] live ≡ ns ++ ms = ap (λ (l : List Event). numbers_from [] l) (sym (split_first (is_point m) live at.found)) ∙ numbers_append [] front late in
    let rises : Rises (ns ++ ms) = subst Rises numbers (numbers_rise live next numbered) in
    let all = all_live front in
    let above : AllAbove m ms = rest_above m front late (has_self (is_point m) live at.found) (above_late live next m numbered at) in
    let same : map (point_at front now) ns ≡ up_to m ps =
    sym (points_alike front live now counted ns all (λ n on. sym (begun.points n on)))
    ∙ sym (up_split live counted m ns ms (all_up live next m numbered at ns all) above)
    ∙ ap (λ (l : List ℕ). up_to m (map (point_at live counted) l)) (sym numbers)
    ∙ ap (λ (l : List LivePoint). up_to m l) (one_list live counted (live_points live counted) ps (points_listed live next counted numbered) listed) in
    subst (λ (l : List LivePoint). ListsPoints front now l) same (listed_rising front now (rises_front ns ms rises))

pub last_keeps_all : LastKeepsAll
last_keeps_all h next counted ps m numbered last listed = go ps listed.lives
  where
    low : (n : ℕ) → IsLive h.live n → nat_le n m ≡ true
    low n at =
        let most = (last_lives h next numbered).points n at in
        let same : most.last ≡ m = some_is most.last m (sym most.is ∙ last) in
        test n (omega (arith, most.not_above, same))
      where
        test : (n : ℕ) → n ≤ m → nat_le n m ≡ true
        test n low = grind (arith, nat_tests)

    go : (ps : List LivePoint) → AllLive h.live counted ps → up_to m ps ≡ ps
    go [] all = refl
    go (p ∷ ps) all = ap (λ k. cond k (p ∷ up_to m ps) []) (low p.number all.0.lives) ∙ ap (λ (l : List LivePoint). p ∷ l) (go ps all.1)
