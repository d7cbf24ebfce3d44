-- One entry made in the list of a manual subset, and one taken out.
use Rattle.std.specs.Prelude.{ℕ, ◌≡◌, ◌||◌, not, nat_le, length, if◌then◌else◌, List, Bool, false, Some}
use Rattle.std.specs.declared.option.Option.{Option}
use Rattle.dms_base.specs.declared.kind.ItemKind.{ItemKind}
use Rattle.dms_desc.specs.Shape.{Shape}
use Rattle.dms_desc.specs.declared.record.Record.{Record}
use Rattle.dms_model.specs.declared.put.Put.{Put}
use Rattle.dms_model.specs.declared.put.Put.TheVariants.{Stored, Duplicate, Full}
use Rattle.dms_chain.specs.Lists.{has_entry, with_entry, without}
use Rattle.dms_sets.specs.Changes.{HasRoom, IfListed, ListsOf, list_of_set, refuses}
use Rattle.dms_manual.specs.Listed.{bytes_for}

-- The record is the member that the entry names, with the owner of the entry as its own.

-- the bytes of its entry
abbrev pub member_bytes : List ItemKind → Shape → ℕ → Record → List ℕ
member_bytes kinds s number rec = bytes_for kinds s rec.owner number rec

-- It may not be made: it stands, or the subset has NO DUPLICATES and an entry with its owner and key.
abbrev pub in_the_way : List ItemKind → Shape → ℕ → Record → List (List ℕ) → Bool
in_the_way kinds s number rec xs = refuses kinds s (Some rec) xs || has_entry (member_bytes kinds s number rec) xs

-- An entry is made where none is in its way.
pub record MakesOne (kinds : List ItemKind) (s : Shape) (number : ℕ) (rec : Record) (xs : List (List ℕ)) (left : Option (List (List ℕ))) (refused : Bool) : Type 0 where
  pub answer : refused ≡ in_the_way kinds s number rec xs
  pub done : refused ≡ false → HasRoom xs → left ≡ Some (with_entry (member_bytes kinds s number rec) xs)

abbrev pub Makes : List ItemKind → Shape → ℕ → Record → ListsOf → ListsOf → Bool → Type 0
Makes kinds s number rec a b refused = IfListed (list_of_set a kinds s) (λ xs. MakesOne kinds s number rec xs (list_of_set b kinds s) refused)

-- the same where only the entry itself is looked for
pub record PutsOne (kinds : List ItemKind) (s : Shape) (number : ℕ) (rec : Record) (xs : List (List ℕ)) (left : Option (List (List ℕ))) (new : Bool) : Type 0 where
  pub answer : new ≡ not (has_entry (member_bytes kinds s number rec) xs)
  pub done : HasRoom xs → left ≡ Some (with_entry (member_bytes kinds s number rec) xs)

abbrev pub Puts : List ItemKind → Shape → ℕ → Record → ListsOf → ListsOf → Bool → Type 0
Puts kinds s number rec a b new = IfListed (list_of_set a kinds s) (λ xs. PutsOne kinds s number rec xs (list_of_set b kinds s) new)

-- An entry is taken out.
pub record TakesOne (kinds : List ItemKind) (s : Shape) (number : ℕ) (rec : Record) (xs : List (List ℕ)) (left : Option (List (List ℕ))) (was : Bool) : Type 0 where
  pub answer : was ≡ has_entry (member_bytes kinds s number rec) xs
  pub done : left ≡ Some (without (member_bytes kinds s number rec) xs)

abbrev pub Takes : List ItemKind → Shape → ℕ → Record → ListsOf → ListsOf → Bool → Type 0
Takes kinds s number rec a b was = IfListed (list_of_set a kinds s) (λ xs. TakesOne kinds s number rec xs (list_of_set b kinds s) was)

-- where the list is known and has room for one more entry
abbrev pub IfRoomy : Option (List (List ℕ)) → (List (List ℕ) → Type 0) → Type 0
IfRoomy o P = (xs : List (List ℕ)) → o ≡ Some xs → HasRoom xs → P xs

-- What entering a record answers, by the list: a duplicate, also where the entry stands, before a full subset.
abbrev pub entry_put : List ItemKind → Shape → ℕ → Record → List (List ℕ) → Put
entry_put kinds s number rec xs = if in_the_way kinds s number rec xs then Duplicate s.number else (if nat_le s.population (length xs) then Full else Stored number)

-- It is answered, and the entry is made where that is Stored.
pub record EntersOne (kinds : List ItemKind) (s : Shape) (number : ℕ) (rec : Record) (xs : List (List ℕ)) (left : Option (List (List ℕ))) (answer : Put) : Type 0 where
  pub answer_is : answer ≡ entry_put kinds s number rec xs
  pub done : answer ≡ Stored number → left ≡ Some (with_entry (member_bytes kinds s number rec) xs)

abbrev pub Enters : List ItemKind → Shape → ℕ → Record → ListsOf → ListsOf → Put → Type 0
Enters kinds s number rec a b answer = IfRoomy (list_of_set a kinds s) (λ xs. EntersOne kinds s number rec xs (list_of_set b kinds s) answer)
