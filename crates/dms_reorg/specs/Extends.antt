-- When a structure stands in another one, which may have further items.
use Rattle.std.specs.Prelude.{ℕ, ◌≤◌, ◌≡◌, nat_lt, Bool, true, length, take, drop}
use Rattle.std.specs.List.{list_all}
use Rattle.dms_desc.specs.declared.structure.Group.{Group}
use Rattle.dms_desc.specs.Shape.{Shape}

-- a structure without what stands behind the items and groups of another one, and with its POPULATION
abbrev pub shortened : Shape → Shape → Shape
shortened s t = record {
  number = t.number;
  kind = t.kind;
  name = t.name;
  owner = t.owner;
  population = s.population;
  items = take (length s.items) t.items;
  groups = take (length s.groups) t.groups;
  cond = t.cond;
  set = t.set;
  form = t.form;
  duplicates = t.duplicates;
  parts = t.parts;
}

-- a group holds items behind the first so many alone
abbrev pub is_behind : ℕ → Group → Bool
is_behind n g = nat_lt n g.first

-- The first structure stands in the second: its fields are the same, but that items and groups may stand behind its own, each such group of such items
-- alone, and that its POPULATION may be greater.
pub record KeepsStructure (s t : Shape) : Type 0 where
  pub same : shortened s t ≡ s
  pub room : s.population ≤ t.population
  pub apart : list_all (is_behind (length s.items)) (drop (length s.groups) t.groups) ≡ true
