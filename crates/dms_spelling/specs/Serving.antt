-- The descriptions that a store on blocks can keep a database under: those that a schema can have.
use Rattle.std.specs.Prelude.{◌≡◌, ◌≤◌, [], true, Some, length}
use Rattle.std.specs.List.{AllByRecursion}
use Rattle.dms_desc.specs.Lookups.{structure_of}
use Rattle.dms_desc.specs.Shape.{Shape, Described}
use Rattle.dms_desc_bytes.specs.Lists.{total}
use Rattle.dms_desc_bytes.specs.WellFormed.{counted_in}
use Rattle.dms_layout.specs.Slots.{AreKinds, slot_width}
use Rattle.dms_model.specs.Valid.{is_data_set, is_manual}
use Rattle.dms_sets.specs.Padded.{entry_width}
use Rattle.dms_sets.specs.Puts.{IsNamed}
use Rattle.dms_sets.specs.Sets.{kinds_over}
use Rattle.dms_links.specs.Rows.{AreNumbered}
use Rattle.dms_desc.specs.Kinds.{is_set_or_automatic}

-- one structure: its kind is one of five, a block holds a slot of it, and a data set has no key
pub record IsServedShape (s : Shape) : Type 0 where
  pub low : 1 ≤ s.kind
  pub most : s.kind ≤ 5
  pub few : length s.items ≤ 60
  pub fits : slot_width s.items ≤ 1024
  pub kinds : AreKinds s.items
  pub population : s.population ≤ 1000000
  pub keyless : is_data_set (Some s) ≡ true → s.parts ≡ []

-- a set or subset: its records are those of a data set, its key and its condition name items of that which are no
-- links, the key has at most 16 parts, and an entry at most 104 bytes
pub record IsServedSet (desc : Described) (s : Shape) : Type 0 where
  pub data_set : is_data_set (structure_of desc s.set) ≡ true
  pub named : IsNamed desc s
  pub few : length s.parts ≤ 16
  pub width : entry_width (kinds_over desc s) s.parts ≤ 104

-- at most 200 structures, numbered in their order, with at most 4,000 items that are counted links
pub record IsServed (desc : Described) : Type 0 where
  pub count : length desc.structures ≤ 200
  pub numbered : AreNumbered 1 desc.structures
  pub each : AllByRecursion IsServedShape desc.structures
  pub sets : AllByRecursion (λ s. is_set_or_automatic s ≡ true → IsServedSet desc s) desc.structures
  pub manual : AllByRecursion (λ s. is_manual (Some s) ≡ true → IsServedSet desc s) desc.structures
  pub links : total counted_in desc.structures ≤ 4000
