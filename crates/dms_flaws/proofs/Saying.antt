-- What numbered entries say, and tests of it.
use Rattle.std.proofs.Common.{◌≡◌, ℕ, suc, Bool, true, false, cond, List, [], ◌∷◌, ◌++◌, map, Option, Some, None, refl, sym, ap, ◌∙◌}
use Rattle.std.specs.Prelude.{◌&&◌, ◌||◌}
use Rattle.std.proofs.lemmas.List.{map-append}
use Rattle.dms_history.specs.Events.{change, quiet, control, begin}
use Rattle.dms_history.specs.Lists.{has, until_first}
use Rattle.dms_history.specs.Ranges.{Logged, event, range, is_point_logged, live_step, live_logged}
use Rattle.dms_history.specs.Entries.{Entry}
use Rattle.dms_history.specs.Schemas.{Parts, no_parts, after_entry}
use Rattle.dms_history.specs.EntryEvents.{said_by, logged_from, events_in}
use Rattle.dms_flaws.specs.Firsts.{all_pass}
use Rattle.dms_flaws.specs.Numbered.{Said, said_in, say, with_number, numbered_from, numbered, is_point_said, live_said, live_from, live_numbered}
use Rattle.dms_flaws.specs.Entries.{of_said}

say_append : (xs ys : List Said) → say (xs ++ ys) ≡ say xs ++ say ys
say_append [] ys = refl
say_append (x ∷ xs) ys = ap (λ (l : List Logged). x.1 ∷ l) (say_append xs ys)

say_each : (i : ℕ) (xs : List Logged) → say (map (with_number i) xs) ≡ xs
say_each i [] = refl
say_each i (x ∷ xs) = ap (λ (l : List Logged). x ∷ l) (say_each i xs)

said_from : (i : ℕ) (p : Parts) (es : List Entry) → say (numbered_from i p es) ≡ logged_from p es
said_from i p [] = refl
said_from i p (e ∷ es) =
    say_append (map (with_number i) (said_by p e)) (numbered_from (suc i) (after_entry p e) es)
    ∙ (λ j. say_each i (said_by p e) j ++ said_from (suc i) (after_entry p e) es j)

-- numbers aside, it is what entries say
pub said_are : (entries : List Entry) → say (numbered entries) ≡ events_in entries
unfolding numbered
said_are entries = said_from 0 no_parts entries

has_said : (n : ℕ) (xs : List Said) → has (is_point_said n) xs ≡ has (is_point_logged n) (say xs)
has_said n [] = refl
has_said n (x ∷ xs) = ap (λ t. is_point_logged n x.1 || t) (has_said n xs)

say_cond : (t : Bool) (xs ys : List Said) → say (cond t xs ys) ≡ cond t (say xs) (say ys)
say_cond true xs ys = refl
say_cond false xs ys = refl

until_said : (n : ℕ) (xs : List Said) → say (until_first (is_point_said n) xs) ≡ until_first (is_point_logged n) (say xs)
until_said n [] = refl
until_said n (x ∷ xs) =
    say_cond (is_point_logged n x.1) (x ∷ []) (cond (has (is_point_said n) xs) (x ∷ until_first (is_point_said n) xs) [])
    ∙ ap (λ (l : List Logged). cond (is_point_logged n x.1) (x.1 ∷ []) l)
    (say_cond (has (is_point_said n) xs) (x ∷ until_first (is_point_said n) xs) []
    ∙ (λ j. cond (has_said n xs j) (x.1 ∷ until_said n xs j) []))

step_said : (live : List Said) (i : ℕ) (x : Logged) → say (live_said live i x) ≡ live_step (say live) x
step_said live i (event (change f b before after)) = say_append live ((i, event (change f b before after)) ∷ [])
step_said live i (event (quiet n)) = say_append live ((i, event (quiet n)) ∷ [])
step_said live i (event (control n next counts described)) = say_append live ((i, event (control n next counts described)) ∷ [])
step_said live i (event (begin n how)) = until_said n live
step_said live i (range f b place bytes) = say_append live ((i, range f b place bytes) ∷ [])

live_are : (live xs : List Said) → say (live_from live xs) ≡ live_logged (say live) (say xs)
live_are live [] = refl
live_are live (x ∷ xs) = live_are (live_said live x.0 x.1) xs ∙ ap (λ (l : List Logged). live_logged l (say xs)) (step_said live x.0 x.1)

-- and of the live ones
pub live_said_are : (entries : List Entry) → say (live_numbered entries) ≡ live_logged [] (events_in entries)
unfolding live_numbered
live_said_are entries = live_are [] (numbered entries) ∙ ap (λ (l : List Logged). live_logged [] l) (said_are entries)

-- a test of what is said passes where what is said passes
pub pass_said : (ok : List Logged → Logged → Bool) (before xs : List Said) → all_pass (of_said ok) before xs ≡ all_pass ok (say before) (say xs)
pass_said ok before [] = refl
pass_said ok before (x ∷ xs) = ap (λ t. ok (say before) x.1 && t) (pass_said ok (before ++ x ∷ []) xs ∙ ap (λ (l : List Logged). all_pass ok l (say xs)) (say_append before (x ∷ [])))
