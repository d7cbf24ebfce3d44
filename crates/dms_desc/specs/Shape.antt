-- A description as definitions speak of it: without the places of a condition's parts in memory.
use Rattle.std.specs.Prelude.{ℕ, Bool, List, None, Some, map}
use Rattle.std.specs.declared.option.Option.{Option}
use Rattle.dms_base.specs.declared.kind.SetForm.{SetForm}
use Rattle.dms_base.specs.declared.kind.SetForm.TheVariants.{IndexSequential, OrderedList}
use Rattle.dms_base.specs.declared.kind.StructureKind.{StructureKind}
use Rattle.dms_base.specs.declared.kind.StructureKind.TheVariants.{DataSet, RestartDataSet, Set, AutomaticSubset, ManualSubset}
use Rattle.dms_base.specs.declared.value.Value.{Value}
use Rattle.dms_base.specs.declared.op.Op.{Op}
use Rattle.dms_desc.specs.declared.cond.Cond.{Cond, Nothing, Compare, And', Or', Not'}
use Rattle.dms_desc.specs.declared.structure.Item.{Item}
use Rattle.dms_desc.specs.declared.structure.Group.{Group}
use Rattle.dms_desc.specs.declared.structure.KeyPart.{KeyPart}
use Rattle.dms_desc.specs.declared.structure.Structure.{Structure}
use Rattle.dms_desc.specs.declared.description.Description.{Description}

-- a condition: none, an item (counted from 1) compared with a value, both of two, one of two, not one
pub data Tree : Type 0 where
  Empty : Tree
  Test : ℕ → Op → Value → Tree
  Both : Tree → Tree → Tree
  Either : Tree → Tree → Tree
  Contrary : Tree → Tree

abbrev pub tree_of : Cond → Tree
tree_of Nothing = Empty
tree_of (Compare item op value) = Test item op value
tree_of (And' p a q b) = Both (tree_of a) (tree_of b)
tree_of (Or' p a q b) = Either (tree_of a) (tree_of b)
tree_of (Not' p a) = Contrary (tree_of a)

-- the number of a kind of structure in a description
abbrev pub kind_number : StructureKind → ℕ
kind_number DataSet = 1
kind_number RestartDataSet = 2
kind_number Set = 3
kind_number AutomaticSubset = 4
kind_number ManualSubset = 5

-- the number of a form, 0 for a data set, which has none
abbrev pub form_number : Option SetForm → ℕ
form_number None = 0
form_number (Some IndexSequential) = 1
form_number (Some OrderedList) = 2

-- a structure, its kind and form by their numbers
pub record Shape : Type 0 where
  pub number : ℕ
  pub kind : ℕ
  pub name : List ℕ
  pub owner : ℕ
  pub population : ℕ
  pub items : List Item
  pub groups : List Group
  pub cond : Tree
  pub set : ℕ
  pub form : ℕ
  pub duplicates : Bool
  pub parts : List KeyPart

abbrev pub shape_of : Structure → Shape
shape_of s = record { number = s.number; kind = kind_number s.kind; name = s.name; owner = s.owner; population = s.population; items = s.items; groups = s.groups; cond = tree_of s.cond; set = s.set; form = form_number s.form; duplicates = s.duplicates; parts = s.parts }

-- a description
pub record Described : Type 0 where
  pub syncpoint : ℕ
  pub controlpoint : ℕ
  pub buffers : ℕ
  pub blocks : ℕ
  pub files : ℕ
  pub structures : List Shape

abbrev pub as_described : Description → Described
as_described d = record { syncpoint = d.syncpoint; controlpoint = d.controlpoint; buffers = d.buffers; blocks = d.blocks; files = d.files; structures = map shape_of d.structures }
