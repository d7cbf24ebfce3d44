-- The words of the laws of sets: what they ask first, and what they say.
use Rattle.std.specs.Prelude.{◌≡◌, ◌+◌, ◌^◌, ◌<◌, ◌==◌, ℕ, List, map, false, Some}
use Rattle.std.specs.List.{AllByRecursion}
use Rattle.std.specs.declared.option.Option.{Option}
use Rattle.dms_desc.specs.Lookups.{structure_of}
use Rattle.dms_desc.specs.Shape.{Shape, Described}
use Rattle.dms_desc.specs.declared.bound.Bound.{Bound}
use Rattle.dms_desc.specs.declared.record.Record.{Record}
use Rattle.dms_key.specs.KeyBytes.{key_width}
use Rattle.dms_model.specs.Db.{Db}
use Rattle.dms_model.specs.Members.{members}
use Rattle.dms_model.specs.Strict.{AreNumbered, lesser, manual_clash}
use Rattle.dms_model.specs.Stores.{put_after, put_number, put_unless, record_to_store}
use Rattle.dms_model.specs.declared.put.Put.{Put}
use Rattle.dms_model.specs.declared.put.Put.TheVariants.{Stored}
use Rattle.dms_model.specs.declared.spot.Spot.{Spot}
use Rattle.dms_chain.specs.Lists.{AreInByteOrder, first_from, last_to, with_in, without_in}
use Rattle.dms_sets.specs.Answers.{IsFoundNumber, clash_seen, old_entry}
use Rattle.dms_sets.specs.Bounds.{BoundKeyFits}
use Rattle.dms_sets.specs.Finds.{spot_by}
use Rattle.dms_sets.specs.Owners.{of_owner, spot_bytes}
use Rattle.dms_sets.specs.Padded.{BoundSmall, IsSetEntry, from_bytes, to_bytes}
use Rattle.dms_sets.specs.Puts.{IsNamed, MayCome}
use Rattle.dms_sets.specs.Sets.{entries_of, kinds_over}
use Rattle.dms_sets.specs.Spots.{RecordsHaveSpots}
use Rattle.dms_sets.specs.Stored.{put_entry}

-- ---- what they ask first

-- where the parts and the condition of a structure name items that are no links, and all records fit
abbrev pub IfNamed : Described → Db → Shape → Type 0 → Type 0
IfNamed desc db s P = IsNamed desc s → RecordsHaveSpots desc db → P

-- the same of a structure that is no manual subset
abbrev pub IfKept : Described → Db → Shape → Type 0 → Type 0
IfKept desc db s P = (s.kind == 5) ≡ false → IfNamed desc db s P

-- the same of the structure with a number, for an owner that stands in a record, where the bound's key fits the structure's
abbrev pub IfBounded : Described → Db → ℕ → Shape → ℕ → Bound → Type 0 → Type 0
IfBounded desc db path s owner bound P = structure_of desc path ≡ Some s → owner + 1 < 2 ^ 32 → IfKept desc db s (BoundKeyFits (kinds_over desc s) s.parts bound → P)

-- the same where a number that the bound names has a successor
abbrev pub IfBehind : Described → Db → ℕ → Shape → ℕ → Bound → Type 0 → Type 0
IfBehind desc db path s owner bound P = IfBounded desc db path s owner bound (BoundSmall (kinds_over desc s) s.parts bound → P)

-- where all records fit, and this one may be put
abbrev pub IfComes : Described → Db → ℕ → Record → Type 0 → Type 0
IfComes desc db set rec P = RecordsHaveSpots desc db → MayCome desc set rec → P

-- the same where structures are numbered in their order and each names its items, and the number is one that a record may have
abbrev pub IfPut : Described → Db → ℕ → Option ℕ → Record → Type 0 → Type 0
IfPut desc db set number rec P = AreNumbered 1 desc.structures → AllByRecursion (IsNamed desc) desc.structures → IfComes desc db set rec (IsFoundNumber number → P)

-- ---- what they say

-- each is an owner, a key and a record
abbrev pub AreSetEntries : Described → Shape → List (List ℕ) → Type 0
AreSetEntries desc s xs = AllByRecursion (IsSetEntry (key_width (kinds_over desc s) s.parts)) xs

-- those of an owner are the bytes of the members for that owner in their order
abbrev pub AreMembersOf : Described → Db → Shape → ℕ → List (List ℕ) → Type 0
AreMembersOf desc db s owner xs = owner < 2 ^ 32 → of_owner owner xs ≡ map (spot_bytes (kinds_over desc s) s.parts owner) (members s db owner)

-- they rise, each is an owner, a key and a record, and those of each owner are the bytes of the members for it
pub record IsListing (desc : Described) (db : Db) (s : Shape) (xs : List (List ℕ)) : Type 0 where
  pub rises : AreInByteOrder xs
  pub entries : AreSetEntries desc s xs
  pub members : (owner : ℕ) → AreMembersOf desc db s owner xs

-- the old entries without that of the record that is replaced, and with that of what is stored
abbrev pub entries_after : Described → Db → Shape → ℕ → ℕ → Record → List (List ℕ)
entries_after desc db s set n rec = with_in (put_entry desc db s set n rec) (without_in (old_entry (kinds_over desc s) s db.records set (Some n)) (entries_of desc db s))

-- one put leaves these entries
abbrev pub LeavesEntries : Described → Db → Shape → ℕ → ℕ → Record → Type 0
LeavesEntries desc db s set n rec = entries_of desc (put_after (Stored n) desc db set rec) s ≡ entries_after desc db s set n rec

-- the first set in number order that refuses a record
abbrev pub clash_in : Described → Db → ℕ → Option ℕ → Record → Option ℕ
clash_in desc db set number rec = clash_seen desc desc.structures db set number rec

-- a duplicate for the first set or manual subset that refuses what would be stored, or else the number under which it is stored
abbrev pub answer_seen : Described → Db → ℕ → Option ℕ → Record → Put
answer_seen desc db set number rec =
    let made = record_to_store desc db set number rec in
    put_unless (lesser (clash_in desc db set number made) (manual_clash desc.structures db set number made)) (put_number desc db set number)

-- the member of the first entry not below a bound's bytes, and of the last entry below them, where it is the owner's
abbrev pub first_seen : Described → Db → Shape → ℕ → Bound → Option Spot
first_seen desc db s owner bound = spot_by s db owner (first_from (from_bytes (kinds_over desc s) s.parts owner bound) (entries_of desc db s))

abbrev pub last_seen : Described → Db → Shape → ℕ → Bound → Option Spot
last_seen desc db s owner bound = spot_by s db owner (last_to (to_bytes (kinds_over desc s) s.parts owner bound) (entries_of desc db s))
