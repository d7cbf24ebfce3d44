-- A record that is stored anew: what its entries in the manual subsets over its data set become.
use Rattle.std.specs.Prelude.{ℕ, ◌+◌, ◌*◌, ◌≤◌, ◌<◌, ◌≡◌, ◌&&◌, length, filter, List, [], ◌∷◌, Bool, true, false, not, Some, None, slice_get, if◌then◌else◌}
use Rattle.std.specs.List.{list_any}
use Rattle.std.specs.Str.{bytes_eq}
use Rattle.std.specs.declared.option.Option.{Option}
use Rattle.std.specs.FinMap.{entries, get}
use Rattle.dms_base.specs.declared.kind.ItemKind.{ItemKind}
use Rattle.dms_desc.specs.Keys.{key_of}
use Rattle.dms_desc.specs.Lookups.{items_of, structure_of}
use Rattle.dms_desc.specs.Shape.{Shape, Described}
use Rattle.dms_desc.specs.declared.record.Record.{Record}
use Rattle.dms_key.specs.KeyBytes.{key_bytes}
use Rattle.dms_model.specs.Db.{Db}
use Rattle.dms_model.specs.Stores.{has_equal}
use Rattle.dms_model.specs.Uses.{clashes_in, owners_named}
use Rattle.dms_lists.specs.declared.form.ListForm.{ListForm}
use Rattle.dms_sets.specs.Changes.{ChangesSet, HasEntry, IfListed, ListsOf, list_of_set}
use Rattle.dms_sets.specs.Entries.{IsSetKey, kinds_of}
use Rattle.dms_sets.specs.Sets.{kinds_over}
use Rattle.dms_sets.specs.Told.{HaveOwnNumbers, OfStructures, db_with}
use Rattle.dms_manual.specs.Entered.{entered, manual_of}
use Rattle.dms_manual.specs.Moves.{SmallIn}
use Rattle.dms_manual.specs.Named.{tells}
use Rattle.dms_manual.specs.Naming.{AreManual, has_manual, is_manual_over}
use Rattle.dms_manual.specs.Seen.{list_over}

-- ---- one subset

-- the record as a member for an owner
abbrev pub for_owner : ℕ → Record → Record
for_owner owner rec = record rec { owner = owner }

-- two records have one key in a subset
abbrev pub has_same_key : List ItemKind → Shape → Record → Record → Bool
has_same_key kinds s old new = bytes_eq (key_bytes kinds s.parts (key_of s.parts old.values)) (key_bytes kinds s.parts (key_of s.parts new.values))

-- and the subset has DUPLICATES, so no entry moves
abbrev pub stays : List ItemKind → Shape → Record → Record → Bool
stays kinds s old new = s.duplicates && has_same_key kinds s old new

-- the entry for an owner is changed
abbrev pub ChangesFor : List ItemKind → Shape → ℕ → ℕ → Record → Record → ListsOf → ListsOf → Bool → Type 0
ChangesFor kinds s number owner old new a b refused = ChangesSet kinds s number (Some (for_owner owner old)) (Some (for_owner owner new)) a b refused

-- another member of an owner, for whom an entry names the record, has the new key, and the subset has NO DUPLICATES
abbrev pub refuses_moved : Shape → Db → ℕ → Record → Bool
refuses_moved s db number new = not s.duplicates && list_any (λ owner. has_equal s db.entries (Some number) (for_owner owner new) (entries db.records)) (owners_named s.number number db.entries)

-- What is told of one subset: the record stands as it was, owners and numbers are small, keys fit, and the subset has at most 1,000,000
-- entries.
pub record MovesStand (kinds : List ItemKind) (s : Shape) (db : Db) (number : ℕ) (old new : Record) : Type 0 where
  pub old_is : get db.records (s.set, number) ≡ Some old
  pub small : SmallIn s db
  pub fit : (m : ℕ) (x : Record) → get db.records (s.set, m) ≡ Some x → IsSetKey kinds s.parts (key_of s.parts x.values)
  pub new_fits : IsSetKey kinds s.parts (key_of s.parts new.values)
  pub few : length (list_over kinds s (entered s db)) ≤ 1000000

-- The answer is whether the subset refuses; where it doesn't, the list is that of the database with the new record.
pub record MovesOne (kinds : List ItemKind) (s : Shape) (db : Db) (number : ℕ) (new : Record) (left : Option (List (List ℕ))) (refused : Bool) : Type 0 where
  pub answer : refused ≡ refuses_moved s db number new
  pub done : refused ≡ false → left ≡ Some (list_over kinds s (entered s (db_with db s.set number (Some new))))

-- where a database is told, and the list is its
abbrev pub IfMoves : List ItemKind → Shape → ℕ → Record → Record → ListsOf → (Db → Type 0) → Type 0
IfMoves kinds s number old new ls P = (db : Db) → MovesStand kinds s db number old new → list_of_set ls kinds s ≡ Some (list_over kinds s (entered s db)) → P db

abbrev pub Moves : List ItemKind → Shape → ℕ → Record → Record → ListsOf → ListsOf → Bool → Type 0
Moves kinds s number old new a b refused = IfMoves kinds s number old new a (λ db. MovesOne kinds s db number new (list_of_set b kinds s) refused)

-- ---- how many changes of lists

-- two changes for each entry of the list that tells the record
abbrev pub most_changes : ℕ → List (List ℕ) → ℕ
most_changes number xs = 2 * length (filter (tells number) xs)

-- for the manual subsets over the data set among these structures
abbrev pub most_changes_among : Described → Db → ℕ → ℕ → List Shape → ℕ
most_changes_among desc db set number [] = 0
most_changes_among desc db set number (s ∷ ss) = (if is_manual_over s set then most_changes number (manual_of desc db s) else 0) + most_changes_among desc db set number ss

-- calls with so many changes were made, which are few
pub record MadeChanges (made : ℕ → Type 0) (few : ℕ → Type 0) : Type 0 where
  pub count : ℕ
  pub did : made count
  pub low : few count

abbrev pub FewFor : List ItemKind → Shape → ℕ → ListsOf → ℕ → Type 0
FewFor kinds s number a n = IfListed (list_of_set a kinds s) (λ xs. n ≤ most_changes number xs)

-- ---- all subsets over a data set

-- the first manual subset of the data set that refuses
abbrev pub first_refusing : List Shape → Db → ℕ → ℕ → Record → Option ℕ
first_refusing [] db set number new = None
first_refusing (s ∷ ss) db set number new = if is_manual_over s set && clashes_in s db set (Some number) new then Some s.number else first_refusing ss db set number new

-- What is told of a record of a data set that is stored anew.
pub record AllMovesStand (desc : Described) (db : Db) (set number : ℕ) (old new : Record) : Type 0 where
  pub apart : HaveOwnNumbers desc
  pub each : OfStructures desc (λ s. is_manual_over s set ≡ true → MovesStand (kinds_over desc s) s db number old new)

-- The answer names the first subset that refuses. Where none does, the lists are those of the database with the new record.
pub record MovesAll (desc : Described) (db : Db) (set number : ℕ) (new : Record) (after : ListsOf) (answer : Option ℕ) : Type 0 where
  pub answer_is : answer ≡ first_refusing desc.structures db set number new
  pub lists : answer ≡ None → AreManual desc (db_with db set number (Some new)) set after

abbrev pub IfAllMoves : Described → ℕ → ℕ → Record → Record → ListsOf → (Db → Type 0) → Type 0
IfAllMoves desc set number old new ls P = (db : Db) → AllMovesStand desc db set number old new → AreManual desc db set ls → P db

abbrev pub MovesListed : Described → ℕ → ℕ → Record → Record → ListsOf → ListsOf → Option ℕ → Type 0
MovesListed desc set number old new a b answer = IfAllMoves desc set number old new a (λ db. MovesAll desc db set number new b answer)

-- a structure whose list may be changed
abbrev pub is_moved : Described → ℕ → ℕ → Bool
is_moved desc set m = has_manual desc.structures set m

-- no list but those of these subsets is changed
abbrev pub NoOtherMoves : Described → ℕ → ListsOf → ListsOf → Type 0
NoOtherMoves desc set a b = (m : ℕ) (k : ListForm) (w : ℕ) → has_manual desc.structures set m ≡ false → b m k w ≡ a m k w

abbrev pub FewMoves : Described → ℕ → ℕ → Record → Record → ListsOf → ℕ → Type 0
FewMoves desc set number old new a n = IfAllMoves desc set number old new a (λ db. n ≤ most_changes_among desc db set number desc.structures)

-- a record may have an entry in each manual subset over the data set
abbrev pub MayBeEntered : Described → ℕ → Record → Type 0
MayBeEntered desc set rec = OfStructures desc (λ s. is_manual_over s set ≡ true → HasEntry (kinds_of (items_of (structure_of desc set))) s rec.values)

-- ---- one subset after another

-- the first k structures are done, and none of them refused
pub record MovedUpto (desc : Described) (db : Db) (set number : ℕ) (new : Record) (k : ℕ) (now : ListsOf) : Type 0 where
  pub done : (j : ℕ) (s : Shape) → j < k → slice_get desc.structures j ≡ Some s → is_manual_over s set ≡ true → list_of_set now (kinds_over desc s) s ≡ Some (manual_of desc (db_with db set number (Some new)) s)
  pub left : (j : ℕ) (s : Shape) → k ≤ j → slice_get desc.structures j ≡ Some s → is_manual_over s set ≡ true → list_of_set now (kinds_over desc s) s ≡ Some (manual_of desc db s)
  pub none : (j : ℕ) (s : Shape) → j < k → slice_get desc.structures j ≡ Some s → (is_manual_over s set && clashes_in s db set (Some number) new) ≡ false
