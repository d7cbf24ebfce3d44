-- The bytes of each file, in a map. A file without an entry has none.
use Rattle.std.specs.Prelude.{ℕ, List, [], Option, Some, None, Vec}
use Rattle.std.specs.Ordering.{nat_cmp}
use Rattle.std.specs.BTreeMap.{get}
use Rattle.std.specs.declared.alloc.Global.{Global}
use Rattle.std.specs.declared.collections.BTreeMap.{BTreeMap}
use Rattle.dms_site.specs.Files.{Files}

abbrev pub bytes_or_none : Option (Vec ℕ Global) → List ℕ
bytes_or_none None = []
bytes_or_none (Some v) = v.items

abbrev pub files_of : BTreeMap ℕ (Vec ℕ Global) Global → Files
files_of map f = bytes_or_none (get nat_cmp map f)
