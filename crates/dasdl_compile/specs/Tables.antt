-- The names of structures in the order in which they are first seen, each with the place of the first data set that has
-- it, if one has.
use Rattle.std.specs.Prelude.{ℕ, ◌+◌, List, [], ◌∷◌, Bool, nat_lt, Some, None, if◌then◌else◌}
use Rattle.std.specs.declared.option.Option.{Option}
use Rattle.std.specs.Map.{lookup}
use Rattle.std.specs.Str.{bytes_eq}
use Rattle.indexmap.specs.IndexMap.{insert_entry}
use Rattle.dms_desc.specs.Shape.{kind_number}
use Rattle.dasdl_compile.specs.declared.draft.Draft.{Draft}

-- a structure's name and kind, which no member changes
abbrev pub title : Draft → List ℕ × ℕ
title d = (d.name, kind_number d.kind)

-- what has neither name nor kind
abbrev pub no_title : {S : Type 0} → S → List ℕ × ℕ
no_title s = ([], 0)

-- what stands beside a name
abbrev pub note_of : List ℕ → List (List ℕ × Option ℕ) → Option (Option ℕ)
note_of name es = lookup (bytes_eq name) es

-- the place of the first data set with a name: the one that is noted, or else this one's
abbrev pub first_place : Option (Option ℕ) → Bool → ℕ → Option ℕ
first_place None is_data_set at = if is_data_set then Some at else None
first_place (Some None) is_data_set at = if is_data_set then Some at else None
first_place (Some (Some first)) is_data_set at = Some first

-- the table with the structure at this place, too
abbrev pub with_title : List ℕ → ℕ → ℕ → List (List ℕ × Option ℕ) → List (List ℕ × Option ℕ)
with_title name kind at es = insert_entry bytes_eq es name (first_place (note_of name es) (nat_lt kind 3) at)

-- the table with these structures, too, the first of them at this place
unfoldable pub with_titles : ℕ → List (List ℕ × Option ℕ) → List Draft → List (List ℕ × Option ℕ)
with_titles at es [] = es
with_titles at es (d ∷ ds) = with_titles (at + 1) (with_title d.name (kind_number d.kind) at es) ds

-- the table of these structures
abbrev pub names_of : List Draft → List (List ℕ × Option ℕ)
names_of ds = with_titles 0 [] ds
