-- The first entry of a trail that disagrees with those before it.
use Rattle.std.specs.Prelude.{ℕ, ◌≡◌, ◌&&◌, ◌||◌, not, nat_le, if◌then◌else◌, Bool, true, false, List, [], ◌∷◌, ◌++◌, Option, Some, None, option_map}
use Rattle.dms_history.specs.Events.{BlockBytes, Stored, Counts, Event}
use Rattle.dms_history.specs.Lists.{has, after_last}
use Rattle.dms_history.specs.Places.{is_control, is_begin}
use Rattle.dms_history.specs.History.{Pending}
use Rattle.dms_history.specs.Images.{last_after}
use Rattle.dms_history.specs.Pick.{Dumps}
use Rattle.dms_history.specs.Here.{here}
use Rattle.dms_history.specs.Base.{first_counts}
use Rattle.dms_history.specs.Ranges.{Logged, event, range, changes_of, all_changes, is_control_logged, is_image}
use Rattle.dms_history.specs.Entries.{Entry}
use Rattle.dms_history.specs.EntryEvents.{history_of, live_of, next_of, ends_restore_logged, Agrees}
use Rattle.dms_flaws.specs.Firsts.{all_pass, first_failing}
use Rattle.dms_flaws.specs.Rules.{AreOfStructures, CountsAsLeft, keeps_rules}
use Rattle.dms_flaws.specs.Numbered.{Said, say, numbered, live_numbered}

-- ---- live entries, Ranges among them

-- A Range has an Image of its block before it, behind the last Control before it. Before the first Control one without any Image is left out.
abbrev pub has_image : List Logged → Logged → Bool
has_image before (event e) = true
has_image before (range f b place bytes) = not (has (is_image f b) before || has is_control_logged before) || has (is_image f b) (after_last is_control_logged before)

-- it has its Image, and the change that it means keeps the rules
abbrev pub keeps_live : Bool → ℕ → Counts → List Logged → Logged → Bool
keeps_live first next opening before x =
    has_image before x && all_pass (keeps_rules first next opening) (all_changes before) (changes_of (all_changes before) x)

-- ---- all entries

abbrev pub begins : Logged → Bool
begins (event e) = is_begin e
begins (range f b place bytes) = false

abbrev pub last_begins : Bool → List Logged → Bool
last_begins t [] = t
last_begins t (x ∷ xs) = last_begins (begins x) xs

-- directly behind a Begin only a Begin or a Control stands; Schema parts say nothing
abbrev pub stands_alone : List Logged → Logged → Bool
stands_alone before x = not (last_begins false before) || ends_restore_logged x

-- ---- the flaw

-- a test of what is said, whatever its number is
abbrev pub of_said : (List Logged → Logged → Bool) → List Said → Said → Bool
of_said ok before x = ok (say before) x.1

abbrev pub number_of : Option Said → Option ℕ
number_of None = None
number_of (Some x) = Some x.0

abbrev pub lesser : Option ℕ → Option ℕ → Option ℕ
lesser None b = b
lesser (Some a) None = Some a
lesser (Some a) (Some b) = if nat_le a b then Some a else Some b

-- the first that may not stand behind a Begin
abbrev pub alone_flaw : List Entry → Option ℕ
alone_flaw entries = number_of (first_failing (of_said stands_alone) [] (numbered entries))

-- the first live one that breaks a rule
abbrev pub live_flaw : Bool → List Entry → Option ℕ
live_flaw first entries = number_of (first_failing (of_said (keeps_live first (next_of entries) (first_counts (live_of entries)))) [] (live_numbered entries))

-- The number, from 0, of the first entry that disagrees. first: the trail begins with audit file 1.
unfoldable pub entry_flaw : Bool → List Entry → Option ℕ
entry_flaw first entries = lesser (alone_flaw entries) (live_flaw first entries)

-- ---- the law

-- while a restore is pending, what counts is the last live after-image of each block that has one
abbrev pub RestoresAsLeft : Option Pending → List Event → Stored → Type 0
RestoresAsLeft pending live counted = (p : Pending) (f b : ℕ) (x : BlockBytes) → pending ≡ Some p → last_after f b live ≡ Some x → counted f b ≡ x

-- No entry disagrees exactly where the entries agree, but for what counts as each block.
pub record EntriesAgreeOf (first : Bool) (entries : List Entry) : Type 0 where
  pub agrees : entry_flaw first entries ≡ None → (dumps : Dumps) (stored : Stored) → CountsAsLeft (live_of entries) (here dumps (history_of entries) stored)
      → RestoresAsLeft (history_of entries).pending (live_of entries) (here dumps (history_of entries) stored) → Agrees first entries dumps stored
  pub none : (dumps : Dumps) (stored : Stored) → Agrees first entries dumps stored → entry_flaw first entries ≡ None

abbrev pub EntriesAgree : Type 0
EntriesAgree = (first : Bool) (entries : List Entry) → AreOfStructures (live_of entries) → has is_control (live_of entries) ≡ true → EntriesAgreeOf first entries
