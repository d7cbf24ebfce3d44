-- Lists of members: of each structure but manual subsets the records that it takes, by owner, by key, and then by number.
use Rattle.std.specs.Prelude.{◌≡◌, ◌<◌, ◌≤◌, ℕ, List, Bool, true, false, not, ◌&&◌, ◌==◌, Some, None, length, slice_get, slice_index_or}
use Rattle.std.specs.List.{list_any}
use Rattle.std.specs.List.Sorted.{IsStrictlySortedBy}
use Rattle.std.specs.FinMap.{get}
use Rattle.std.specs.Ordering.{is_eq, is_lt, nat_cmp, ordering_then}
use Rattle.std.specs.declared.cmp.Ordering.{Ordering}
use Rattle.std.specs.declared.cmp.Ordering.TheVariants.{Less, Equal, Greater}
use Rattle.std.specs.declared.option.Option.{Option}
use Rattle.std.specs.declared.result.Result.{Result}
use Rattle.std.specs.declared.result.Result.TheVariants.{Ok, Err}
use Rattle.dms_base.specs.declared.value.Value.{Value}
use Rattle.dms_desc.specs.declared.record.Record.{Record}
use Rattle.dms_desc.specs.declared.structure.KeyPart.{KeyPart}
use Rattle.dms_desc.specs.Keys.{key_cmp, key_of}
use Rattle.dms_desc.specs.Kinds.{over, takes}
use Rattle.dms_desc.specs.Shape.{Shape}
use Rattle.dms_model.specs.Db.{Place, Records}
use Rattle.dms_model.specs.Stores.{is_other}
use Rattle.dms_plain.specs.declared.member.Member.{Member}

-- by owner, and then by key
abbrev pub front_cmp : List KeyPart → Member → Member → Ordering
front_cmp parts a b = ordering_then (nat_cmp a.owner b.owner) (key_cmp parts a.key b.key)

-- and then by number
abbrev pub member_cmp : List KeyPart → Member → Member → Ordering
member_cmp parts a b = ordering_then (front_cmp parts a b) (nat_cmp a.number b.number)

abbrev pub member_of : List KeyPart → ℕ → List Value → ℕ → Member
member_of parts owner values number = record { owner = owner; key = key_of parts values; number = number }

-- a member is in a list
abbrev pub has : List KeyPart → Member → List Member → Bool
has parts x ms = list_any (λ m. is_eq (member_cmp parts m x)) ms

-- another record than the one with the number is in a list, with the owner and the key of a member
abbrev pub has_other : List KeyPart → Option ℕ → Member → List Member → Bool
has_other parts number x ms = list_any (λ m. is_eq (front_cmp parts m x) && is_other number m.number) ms

-- what stands at a place of a list is such a one
abbrev pub is_other_in : List KeyPart → Option ℕ → Member → Option Member → Bool
is_other_in parts number x None = false
is_other_in parts number x (Some m) = is_eq (front_cmp parts m x) && is_other number m.number

-- the members before the i-th are before an owner and a key, and no others
abbrev pub IsFront : List KeyPart → Member → List Member → ℕ → Type 0
IsFront parts x ms i =
    (i ≤ length ms) × ((j : ℕ) (d : Member) → j < i → is_lt (front_cmp parts (slice_index_or ms j d) x) ≡ true)
    × ((j : ℕ) (d : Member) → i ≤ j → j < length ms → is_lt (front_cmp parts (slice_index_or ms j d) x) ≡ false)

-- a structure's list has records with these values
abbrev pub is_listed : Shape → List Value → Bool
is_listed s values = not (s.kind == 5) && takes s values

-- what stands under a number, if anything, is this member of the list
abbrev pub is_member : Shape → ℕ → Option Record → Member → Bool
is_member s number None x = false
is_member s number (Some rec) x = is_listed s rec.values && is_eq (member_cmp s.parts (member_of s.parts rec.owner rec.values number) x)

-- the list of a structure over records that are looked up by their places
pub record IsListOf (s : Shape) (ms : List Member) (at : Place → Option Record) : Type 0 where
  pub rising : IsStrictlySortedBy (member_cmp s.parts) ms
  pub tells : (x : Member) → has s.parts x ms ≡ is_member s x.number (at (over s, x.number)) x

-- the lists of the first structures, or of all of them
pub record AreLists (ss : List Shape) (ls : List (List Member)) (records : Records) : Type 0 where
  pub few : length ls ≤ length ss
  pub each : (i : ℕ) (s : Shape) (d : List Member) → slice_get ss i ≡ Some s → i < length ls → IsListOf s (slice_index_or ls i d) (get records)

-- a member is the i-th, or it isn't in the list and would be before the i-th
abbrev pub IsMemberAt : List KeyPart → Member → List Member → Result ℕ ℕ → Type 0
IsMemberAt parts x ms (Ok i) = (i < length ms) × ((d : Member) → member_cmp parts (slice_index_or ms i d) x ≡ Equal)
IsMemberAt parts x ms (Err i) =
    (i ≤ length ms) × ((j : ℕ) (d : Member) → j < i → member_cmp parts (slice_index_or ms j d) x ≡ Less)
    × ((j : ℕ) (d : Member) → i ≤ j → j < length ms → member_cmp parts (slice_index_or ms j d) x ≡ Greater)
