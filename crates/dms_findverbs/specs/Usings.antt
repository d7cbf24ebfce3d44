-- What keeps a record from being deleted.
use Rattle.std.specs.Prelude.{ℕ, List, Some, None, if◌then◌else◌}
use Rattle.std.specs.declared.option.Option.{Option}
use Rattle.dms_desc.specs.Shape.{Described}
use Rattle.dms_locks.specs.Places.{Place}
use Rattle.dms_model.specs.Db.{Db}
use Rattle.dms_model.specs.Uses.{in_use, linkers}

-- the records whose self-correcting link refers to a record, where that isn't in use
abbrev pub free_linkers : Described → Db → ℕ → ℕ → Option (List Place)
free_linkers desc db set number = if in_use desc db set number then None else Some (linkers desc db set number)
