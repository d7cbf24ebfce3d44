-- Keys, as they are judged.
use Rattle.std.specs.Prelude.{ℕ, ◌-◌, List, [], ◌∷◌, ◌++◌, length, take, drop, Bool, true, false, ◌||◌, ◌==◌, nat_le, nat_lt, Some, None, if◌then◌else◌}
use Rattle.std.specs.declared.option.Option.{Option}
use Rattle.std.specs.declared.result.Result.TheVariants.{Ok, Err}
use Rattle.dms_desc.specs.declared.structure.Item.{Item}
use Rattle.dms_desc.specs.declared.structure.Group.{Group}
use Rattle.dms_desc.specs.declared.structure.KeyPart.{KeyPart}
use Rattle.dasdl_phrases.specs.declared.key_parts.PartDecl.{PartDecl}
use Rattle.dasdl_compile.specs.declared.fault.CompileFault.TheVariants.{Unknown, KeyItem, KeyLong}
use Rattle.dasdl_compile.specs.declared.draft.Draft.{Draft}
use Rattle.dms_desc.specs.declared.lookups.NamedItem.{NamedItem}
use Rattle.dasdl_compile.specs.declared.keys.Run.{Run}
use Rattle.dasdl_compile.specs.declared.keys.KeySoFar.{KeySoFar}
use Rattle.dasdl_compile.specs.Answers.{Judged, ◌>>=◌, steps}
use Rattle.dms_desc.specs.Lookups.{item_named, group_named, after_item}
use Rattle.dms_desc.specs.Kinds.{is_link}
use Rattle.dms_desc.specs.Widths.{item_width}
use Rattle.dasdl_compile.specs.Widths.{plus}

-- an item is among the parts
unfoldable pub is_part : ℕ → List KeyPart → Bool
is_part number [] = false
is_part number (p ∷ ps) = if p.item == number then true else is_part number ps

-- the next item that a part names: it is no link, stands in the key for the first time, and is the key's next item
unfoldable pub key_item_at : Run → KeySoFar → Item → Judged KeySoFar
key_item_at r k i =
    if is_link i.kind || is_part k.next k.parts then Err (KeyItem i.name)
    else Ok (record { next = after_item k.next; bytes = plus k.bytes (item_width i.kind); parts = k.parts ++ record { item = k.next; descending = r.descending } ∷ [] })

abbrev pub item_run : Bool → NamedItem → Run
item_run descending f = record { first = f.number; count = 1; descending = descending }

abbrev pub group_run : Bool → Group → Run
group_run descending g = record { first = g.first; count = g.count; descending = descending }

-- of an item and a group with one name the first declared counts
abbrev pub run_in : PartDecl → Option NamedItem → Option Group → Judged Run
run_in p None None = Err (Unknown p.name)
run_in p (Some f) None = Ok (item_run p.descending f)
run_in p None (Some g) = Ok (group_run p.descending g)
run_in p (Some f) (Some g) = if nat_le g.first f.number then Ok (group_run p.descending g) else Ok (item_run p.descending f)

-- an item stands for itself, and a group for its items in order
abbrev pub run_items : Run → List Item → List Item
run_items r items = take r.count (drop (r.first - 1) items)

-- what a part names
unfoldable pub run_of : Draft → PartDecl → Judged Run
run_of d p = run_in p (item_named p.name 1 d.items) (group_named p.name d.groups)

-- a part: its name is known, then the items for which it stands
unfoldable pub part_at : Draft → KeySoFar → PartDecl → Judged KeySoFar
part_at d k p = run_of d p >>= λ r. steps key_item_at r (record { next = r.first; bytes = k.bytes; parts = k.parts }) (run_items r d.items)

-- a key of at most 16 parts and 96 bytes
unfoldable pub short_key : List ℕ → KeySoFar → Judged (List KeyPart)
short_key name k = if nat_lt 16 (length k.parts) then Err (KeyItem name) else (if nat_lt 96 k.bytes then Err (KeyLong k.bytes) else Ok k.parts)

-- the parts in order, then how many, then the bytes
unfoldable pub key_at : List ℕ → Draft → List PartDecl → Judged (List KeyPart)
key_at name d ps = steps part_at d (record { next = 1; bytes = 0; parts = [] }) ps >>= λ k. short_key name k
