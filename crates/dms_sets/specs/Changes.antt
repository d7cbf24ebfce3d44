-- One change of a record: what it does to the list of one set, and to the lists of all sets of the data set.
use Rattle.std.specs.Prelude.{ℕ, ◌+◌, ◌≤◌, ◌≡◌, ◌||◌, length, List, [], ◌∷◌, ◌++◌, Bool, true, false, not, ◌&&◌, ◌==◌, nat_lt, Some, None, is_some, if◌then◌else◌}
use Rattle.std.specs.declared.option.Option.{Option}
use Rattle.std.specs.Int.{w32, to_be_bytes}
use Rattle.dms_base.specs.declared.value.Value.{Value}
use Rattle.dms_base.specs.declared.kind.ItemKind.{ItemKind}
use Rattle.dms_base.specs.Fits.{fits}
use Rattle.dms_desc.specs.declared.structure.KeyPart.{KeyPart}
use Rattle.dms_desc.specs.declared.record.Record.{Record}
use Rattle.dms_desc.specs.Shape.{Shape}
use Rattle.dms_desc.specs.Conds.{item_of}
use Rattle.dms_key.specs.KeyBytes.{kind_of, key_bytes}
use Rattle.dms_desc.specs.Keys.{key_of}
use Rattle.dms_desc.specs.Kinds.{takes}
use Rattle.dms_desc.specs.Sorted.{that_passes}
use Rattle.dms_chain.specs.Lists.{pad_bound, first_from, with_in, without_in}
use Rattle.dms_lists.specs.declared.form.ListForm.{ListForm}
use Rattle.dms_lists.specs.Forms.{form_of}
use Rattle.dms_sets.specs.Entries.{entry_bytes}
use Rattle.dms_sets.specs.Prefixes.{starts}
use Rattle.dms_sets.specs.Padded.{entry_width}

-- ---- lists by structure

-- the entries of each list, by the structure's number, the form in which they are kept and their width, where they are known
abbrev pub ListsOf : Type 0
ListsOf = ℕ → ListForm → ℕ → Option (List (List ℕ))

-- a width that entries may have
abbrev pub IsEntryWidth : ℕ → Type 0
IsEntryWidth w = (8 ≤ w) × (w ≤ 104)

-- where the list is known
abbrev pub IfListed : Option (List (List ℕ)) → (List (List ℕ) → Type 0) → Type 0
IfListed o P = (xs : List (List ℕ)) → o ≡ Some xs → P xs

-- one list is changed so, where it is known, and the lists of all other structures are as they were
pub record OnlyList (f : List (List ℕ) → List (List ℕ)) (n : ℕ) (form : ListForm) (w : ℕ) (a b : ListsOf) : Type 0 where
  pub here : (xs : List (List ℕ)) → a n form w ≡ Some xs → b n form w ≡ Some (f xs)
  pub others : (m : ℕ) (k : ListForm) (v : ℕ) → (m == n) ≡ false → b m k v ≡ a m k v

-- One more entry keeps the file of a list within 1,048,576 blocks.
abbrev pub HasRoom : List (List ℕ) → Type 0
HasRoom xs = length xs + 2 ≤ 1048576

-- the same, where the list is known and has room for one more entry
pub record OnlyRoomy (f : List (List ℕ) → List (List ℕ)) (n : ℕ) (form : ListForm) (w : ℕ) (a b : ListsOf) : Type 0 where
  pub here : (xs : List (List ℕ)) → a n form w ≡ Some xs → HasRoom xs → b n form w ≡ Some (f xs)
  pub others : (m : ℕ) (k : ListForm) (v : ℕ) → (m == n) ≡ false → b m k v ≡ a m k v

-- ---- one set

-- the list of a set
abbrev pub list_of_set : ListsOf → List ItemKind → Shape → Option (List (List ℕ))
list_of_set ls kinds s = ls s.number (form_of s) (entry_width kinds s.parts)

-- one list is changed so, where it is known
abbrev pub ListChanged : (List (List ℕ) → List (List ℕ)) → List ItemKind → Shape → ListsOf → ListsOf → Type 0
ListChanged f kinds s a b = OnlyList f s.number (form_of s) (entry_width kinds s.parts) a b

-- the same, where it has room for one more entry
abbrev pub ListGrown : (List (List ℕ) → List (List ℕ)) → List ItemKind → Shape → ListsOf → ListsOf → Type 0
ListGrown f kinds s a b = OnlyRoomy f s.number (form_of s) (entry_width kinds s.parts) a b

-- the lists of all other structures are as they were
abbrev pub OtherListsStay : Shape → ListsOf → ListsOf → Type 0
OtherListsStay s a b = (m : ℕ) (k : ListForm) (v : ℕ) → (m == s.number) ≡ false → b m k v ≡ a m k v

-- the structure is a set or automatic subset of this data set
abbrev pub is_over : Shape → ℕ → Bool
is_over s set = nat_lt 2 s.kind && nat_lt s.kind 5 && (s.set == set)

-- a set or automatic subset of this data set has this number
abbrev pub has_number : List Shape → ℕ → ℕ → Bool
has_number [] set m = false
has_number (s ∷ ss) set m = (is_over s set && (m == s.number)) || has_number ss set m

-- the entry of a record in a set of its data set, where the set takes it
abbrev pub entry_in : List ItemKind → Shape → ℕ → Record → Option (List ℕ)
entry_in kinds s number rec = if takes s rec.values then Some (entry_bytes kinds s.parts rec.owner (key_of s.parts rec.values) number) else None

abbrev pub entry_opt : List ItemKind → Shape → ℕ → Option Record → Option (List ℕ)
entry_opt kinds s number None = None
entry_opt kinds s number (Some rec) = entry_in kinds s number rec

-- the bytes with which the entries of a record's owner and key begin
abbrev pub front_in : List ItemKind → Shape → Record → List ℕ
front_in kinds s rec = to_be_bytes w32 rec.owner ++ key_bytes kinds s.parts (key_of s.parts rec.values)

-- the first entry not below them begins with them
abbrev pub is_seen : List ItemKind → Shape → Record → List (List ℕ) → Bool
is_seen kinds s rec xs = is_some (that_passes (starts (front_in kinds s rec)) (first_from (Some (pad_bound (entry_width kinds s.parts) (front_in kinds s rec))) xs))

-- a set without DUPLICATES refuses a record that it takes where an entry has its owner and key
abbrev pub refuses : List ItemKind → Shape → Option Record → List (List ℕ) → Bool
refuses kinds s None xs = false
refuses kinds s (Some rec) xs = (not s.duplicates && takes s rec.values) && is_seen kinds s rec xs

-- A new record's entry is put into a list that has room for it, unless the set refuses it.
pub record EntersSet (kinds : List ItemKind) (s : Shape) (number : ℕ) (new : Option Record) (xs : List (List ℕ)) (left : Option (List (List ℕ))) (refused : Bool) : Type 0 where
  pub answer : refused ≡ refuses kinds s new xs
  pub done : refused ≡ false → HasRoom xs → left ≡ Some (with_in (entry_opt kinds s number new) xs)

-- What a change makes of one list: the old record's entry is taken out, and the new one's put in, unless the set refuses it.
abbrev pub OneChanged : List ItemKind → Shape → ℕ → Option Record → Option Record → List (List ℕ) → Option (List (List ℕ)) → Bool → Type 0
OneChanged kinds s number old new xs left refused = EntersSet kinds s number new (without_in (entry_opt kinds s number old) xs) left refused

-- the same of the lists, where that of the set is known
abbrev pub Enters : List ItemKind → Shape → ℕ → Option Record → ListsOf → ListsOf → Bool → Type 0
Enters kinds s number new a b refused = IfListed (list_of_set a kinds s) (λ xs. EntersSet kinds s number new xs (list_of_set b kinds s) refused)

abbrev pub ChangesSet : List ItemKind → Shape → ℕ → Option Record → Option Record → ListsOf → ListsOf → Bool → Type 0
ChangesSet kinds s number old new a b refused = IfListed (list_of_set a kinds s) (λ xs. OneChanged kinds s number old new xs (list_of_set b kinds s) refused)

-- ---- what fits

abbrev pub PartFits : Option ItemKind → Value → Type 0
PartFits None v = ⊥
PartFits (Some k) v = fits k v ≡ true

-- each part of the key names an item, and the value fits it
abbrev pub PartsFit : List ItemKind → List KeyPart → List Value → Type 0
PartsFit kinds [] values = Unit {0}
PartsFit kinds (p ∷ ps) values = PartFits (kind_of kinds p) (item_of values p.item) × PartsFit kinds ps values

-- a record may have an entry in a set
pub record HasEntry (kinds : List ItemKind) (s : Shape) (values : List Value) : Type 0 where
  pub parts : PartsFit kinds s.parts values
  pub width : entry_width kinds s.parts ≤ 104

abbrev pub OptHasEntry : List ItemKind → Shape → Option Record → Type 0
OptHasEntry kinds s None = Unit {0}
OptHasEntry kinds s (Some rec) = HasEntry kinds s rec.values
