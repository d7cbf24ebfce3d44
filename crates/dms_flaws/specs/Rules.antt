-- The rules by which live entries agree, each as a test of one entry behind those before it.
use Rattle.std.specs.Prelude.{ℕ, zero, suc, ◌+◌, ◌<◌, ◌≤◌, ◌≡◌, ◌==◌, ◌&&◌, ◌||◌, not, nat_le, nat_lt, if◌then◌else◌, Bool, true, false, List, [], ◌∷◌, ◌++◌, Option, Some, None}
use Rattle.std.specs.List.{list_all}
use Rattle.std.specs.Str.{bytes_eq}
use Rattle.dms_history.specs.Events.{BlockBytes, Stored, Counts, Event, change, quiet, control, begin}
use Rattle.dms_history.specs.Lists.{has, after_last}
use Rattle.dms_history.specs.Places.{is_control, point_numbers}
use Rattle.dms_history.specs.Images.{last_after}
use Rattle.dms_history.specs.Pick.{reached_count}
use Rattle.dms_history.specs.Base.{first_counts}
use Rattle.dms_history.specs.Agrees.{ListAgrees}
use Rattle.dms_flaws.specs.Firsts.{all_pass}

-- the before-image is what was left before, where that is told
abbrev pub says_old : Option BlockBytes → Option BlockBytes → Bool
says_old None before = true
says_old (Some old) None = false
says_old (Some old) (Some block) = bytes_eq block old

-- a new block is at its file's count, a changed one below it
abbrev pub fits_count : Option BlockBytes → ℕ → ℕ → Bool
fits_count None b count = b == count
fits_count (Some old) b count = nat_lt b count

-- so many files from f on have the same counts
abbrev pub are_same_from : ℕ → ℕ → Counts → Counts → Bool
are_same_from zero f one other = true
are_same_from (suc k) f one other = (one f == other f) && are_same_from k (f + 1) one other

-- the files 30,001 to 30,200 have the same counts
unfoldable pub are_same_counts : Counts → Counts → Bool
are_same_counts one other = are_same_from 200 30001 one other

-- the number is below the next one, and none before it is greater
abbrev pub is_in_turn : ℕ → List Event → ℕ → Bool
is_in_turn next before n = list_all (λ m. nat_le m n) (point_numbers before) && nat_lt n next

-- first: the trail begins with audit file 1. next: the next number. opening: the counts of the first live Control. before: the live
-- entries before this one.
abbrev pub keeps_rules : Bool → ℕ → Counts → List Event → Event → Bool
keeps_rules first next opening before (change f b old after) =
    says_old (last_after f b before) old && (if has is_control before then fits_count old b (reached_count f 0 before) else nat_lt b (opening f))
keeps_rules first next opening before (quiet n) = is_in_turn next before n
keeps_rules first next opening before (control n later counts described) =
    is_in_turn next before n
    && (if has is_control before then are_same_counts counts (λ f. reached_count f 0 before) else not first || are_same_counts counts (λ f. 0))
keeps_rules first next opening before (begin n how) = true

-- ---- what is so of each trail that was scanned

-- of files other than 30,001 to 30,200 there is no change and no count
abbrev pub IsOfStructures : Event → Type 0
IsOfStructures (change f b before after) = (30001 ≤ f) × (f < 30201)
IsOfStructures (quiet n) = Unit {0}
IsOfStructures (control n later counts described) = (f : ℕ) → (f < 30001 → counts f ≡ 0) × (30201 ≤ f → counts f ≡ 0)
IsOfStructures (begin n how) = Unit {0}

abbrev pub AreOfStructures : List Event → Type 0
AreOfStructures [] = Unit {0}
AreOfStructures (e ∷ es) = IsOfStructures e × AreOfStructures es

-- what counts is the last live after-image of each block that has none after the last live Control
abbrev pub CountsAsLeft : List Event → Stored → Type 0
CountsAsLeft live counted = (f b : ℕ) (x : BlockBytes) → last_after f b live ≡ Some x → last_after f b (after_last is_control live) ≡ None → counted f b ≡ x

-- ---- the law

-- No live entry breaks a rule exactly where the live entries agree, but for what counts as each block.
pub record RulesAgreeOf (first : Bool) (live : List Event) (next : ℕ) : Type 0 where
  pub agrees : all_pass (keeps_rules first next (first_counts live)) [] live ≡ true → (counted : Stored) → CountsAsLeft live counted → ListAgrees first live next counted
  pub passes : (counted : Stored) → ListAgrees first live next counted → all_pass (keeps_rules first next (first_counts live)) [] live ≡ true

abbrev pub RulesAgree : Type 0
RulesAgree = (first : Bool) (live : List Event) (next : ℕ) → AreOfStructures live → has is_control live ≡ true → RulesAgreeOf first live next
