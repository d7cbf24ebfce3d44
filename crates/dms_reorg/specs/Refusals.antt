-- Why a database may not be given a new description.
use Rattle.std.specs.Prelude.{ℕ, ◌<◌, ◌≡◌, ◌&&◌, Bool, List, Some, None}
use Rattle.std.specs.declared.option.Option.{Option}
use Rattle.dms_desc.specs.declared.structure.Item.{Item}
use Rattle.dms_desc.specs.Conds.{is_null}
use Rattle.dms_desc.specs.Lookups.{structure_of}
use Rattle.dms_desc.specs.Shape.{Shape, Described}
use Rattle.dms_desc.specs.Sorted.{first}
use Rattle.dms_status.specs.declared.status.ReorgFault.{ReorgFault}
use Rattle.dms_status.specs.declared.status.ReorgFault.TheVariants.{AuditTrail, Changed, Required, Duplicate}
use Rattle.dms_reorg.specs.Extended.{further}
use Rattle.dms_reorg.specs.Extends.{KeepsStructure}

-- BLOCKS and FILES of the audit trail are the same
pub record KeepsAudit (old new : Described) : Type 0 where
  pub blocks : new.blocks ≡ old.blocks
  pub files : new.files ≡ old.files

-- a structure stands in that of the new description with the same number
pub record Stands (new : Described) (n : ℕ) (s : Shape) : Type 0 where
  pub now : Shape
  pub is : structure_of new n ≡ Some now
  pub keeps : KeepsStructure s now

-- an item that is REQUIRED and begins as null
abbrev pub lacks_value : Item → Bool
lacks_value i = i.required && is_null i.initial

-- the first further item of the structure with this number that lacks a value
abbrev pub first_lacking : Described → Described → ℕ → Option Item
first_lacking old new n = first lacks_value (further old new n)

-- each structure of a description, with its number
abbrev pub Each : Described → (ℕ → Shape → Type 0) → Type 0
Each desc P = (n : ℕ) (s : Shape) → structure_of desc n ≡ Some s → P n s

-- each one with a number below this one
abbrev pub EachBelow : ℕ → Described → (ℕ → Shape → Type 0) → Type 0
EachBelow bound desc P = (n : ℕ) → n < bound → (s : Shape) → structure_of desc n ≡ Some s → P n s

-- each structure stands in that of its number
abbrev pub AllStand : Described → Described → Type 0
AllStand old new = Each old (Stands new)

-- no further item lacks a value
abbrev pub AllGiven : Described → Described → Type 0
AllGiven old new = Each old (λ n s. first_lacking old new n ≡ None)

-- The new description extends the old one: the audit trail stays, each structure stands in that of its number, and no further item of one lacks a value.
pub record Extends (old new : Described) : Type 0 where
  pub audit : KeepsAudit old new
  pub stand : AllStand old new
  pub given : AllGiven old new

-- the first structure, in the order of numbers, that doesn't stand in the new description has this name
pub record IsFirstChanged (old new : Described) (name : List ℕ) : Type 0 where
  pub number : ℕ
  pub shape : Shape
  pub was : structure_of old number ≡ Some shape
  pub changed : Stands new number shape → ⊥
  pub before : EachBelow number old (Stands new)
  pub name_is : shape.name ≡ name

-- the first further item, in the order of numbers and then in that of items, that lacks a value has this name
pub record IsFirstLacking (old new : Described) (name : List ℕ) : Type 0 where
  pub number : ℕ
  pub shape : Shape
  pub item : Item
  pub was : structure_of old number ≡ Some shape
  pub lacks : first_lacking old new number ≡ Some item
  pub before : EachBelow number old (λ n s. first_lacking old new n ≡ None)
  pub name_is : item.name ≡ name

-- the structure of this name is the reason: the audit trail stays
pub record IsChange (old new : Described) (name : List ℕ) : Type 0 where
  pub audit : KeepsAudit old new
  pub first : IsFirstChanged old new name

-- the item of this name is the reason: the audit trail stays, and each structure stands in that of its number
pub record IsLack (old new : Described) (name : List ℕ) : Type 0 where
  pub audit : KeepsAudit old new
  pub stand : AllStand old new
  pub first : IsFirstLacking old new name

-- The first reason why the new description doesn't extend the old one, or that there is none: the audit trail, then the first structure that doesn't stand
-- in that of its number, then the first further item that lacks a value.
abbrev pub IsFirstRefusal : Described → Described → Option ReorgFault → Type 0
IsFirstRefusal old new None = Extends old new
IsFirstRefusal old new (Some AuditTrail) = KeepsAudit old new → ⊥
IsFirstRefusal old new (Some (Changed name)) = IsChange old new name
IsFirstRefusal old new (Some (Required name)) = IsLack old new name
IsFirstRefusal old new (Some (Duplicate name)) = ⊥
