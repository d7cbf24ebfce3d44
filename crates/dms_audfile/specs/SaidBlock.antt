-- What is said of a block that is given as bytes.
use Rattle.std.specs.Prelude.{Option, Some, None, Vec}
use Rattle.std.specs.declared.alloc.Global.{Global}
use Rattle.dms_audfile.specs.Scanning.{TrailRead}
use Rattle.dms_audfile.specs.Reads.{IsBroken}
use Rattle.dms_audfile.specs.Tails.{ReadsPlaces}
use Rattle.dms_audfile.specs.declared.place.EntryPlace.{EntryPlace}

-- It is in its grammar and its entries begin at these places, or none are said and it isn't.
abbrev pub SaysPlaces : TrailRead → Option (Vec EntryPlace Global) → Type 0
SaysPlaces read None = IsBroken read
SaysPlaces read (Some v) = ReadsPlaces read v.items
