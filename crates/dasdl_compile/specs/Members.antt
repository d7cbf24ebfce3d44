-- Items, groups and links of a data set, and its end.
use Rattle.std.specs.Prelude.{ℕ, min, List, [], ◌∷◌, ◌++◌, length, false, ◌==◌, nat_lt, Some, None, if◌then◌else◌}
use Rattle.std.specs.declared.option.Option.{Option}
use Rattle.std.specs.declared.result.Result.TheVariants.{Ok, Err}
use Rattle.dms_base.specs.declared.value.Value.{Value}
use Rattle.dms_base.specs.declared.value.Value.TheVariants.{Null}
use Rattle.dms_base.specs.declared.kind.ItemKind.{ItemKind}
use Rattle.dms_base.specs.declared.kind.ItemKind.TheVariants.{Link as LinkTo}
use Rattle.dms_base.specs.declared.kind.Literal.{Literal}
use Rattle.dms_desc.specs.declared.structure.Item.{Item as Member}
use Rattle.dms_desc.specs.Shape.{Tree}
use Rattle.dasdl_parse.specs.declared.declarations.Declaration.{Declaration}
use Rattle.dasdl_parse.specs.declared.declarations.Declaration.TheVariants.{DataSet, Item, Group, Link, SetOf, End}
use Rattle.dasdl_parse.specs.declared.declarations.ItemDecl.{ItemDecl}
use Rattle.dasdl_parse.specs.declared.declarations.GroupDecl.{GroupDecl}
use Rattle.dasdl_parse.specs.declared.declarations.LinkDecl.{LinkDecl}
use Rattle.dasdl_parse.specs.declared.declarations.DataSetEnd.{DataSetEnd}
use Rattle.dasdl_compile.specs.declared.fault.CompileFault.TheVariants.{Twice, Unknown, Embedding, RecordLong}
use Rattle.dasdl_compile.specs.declared.draft.Draft.{Draft}
use Rattle.dasdl_compile.specs.Answers.{Judged, ◌>>=◌, steps}
use Rattle.dasdl_compile.specs.Finding.{next_item, is_taken, data_set_named}
use Rattle.dasdl_compile.specs.Conditions.{literal_of, verify_tree}
use Rattle.dms_desc.specs.Widths.{record_width}

-- the items, links and groups of a data set may be 255 at most; a schema has no more than 60
abbrev pub count_of : List ItemDecl → ℕ
count_of is = min (length is) 255

-- a data set with one more item or link
abbrev pub with_item : Draft → Member → Draft
with_item d i = record { number = d.number; kind = d.kind; name = d.name; owner = d.owner; population = d.population; items = d.items ++ i ∷ []; groups = d.groups; cond = d.cond; set = d.set; form = d.form; duplicates = d.duplicates; parts = d.parts }

-- a data set with one more group: so many items that follow
abbrev pub with_group : Draft → GroupDecl → Draft
with_group d g = record { number = d.number; kind = d.kind; name = d.name; owner = d.owner; population = d.population; items = d.items; groups = d.groups ++ record { name = g.name; first = next_item d.items; count = count_of g.items } ∷ []; cond = d.cond; set = d.set; form = d.form; duplicates = d.duplicates; parts = d.parts }

-- a data set with what is said at its end
abbrev pub with_end : Draft → ℕ → Tree → Draft
with_end d population cond = record { number = d.number; kind = d.kind; name = d.name; owner = d.owner; population = population; items = d.items; groups = d.groups; cond = cond; set = d.set; form = d.form; duplicates = d.duplicates; parts = d.parts }

-- INITIALVALUE has to fit its item; without it, it is null
abbrev pub initial_in : ItemDecl → Option Literal → Judged Value
initial_in i None = Ok Null
initial_in i (Some literal) = literal_of i.name i.kind literal

unfoldable pub initial_of : ItemDecl → Judged Value
initial_of i = initial_in i i.initial

-- an item: its name is new in its data set, then its initial value fits
unfoldable pub item_at : List Draft → Draft → ItemDecl → Judged Draft
item_at o d i = if is_taken i.name d then Err (Twice i.name) else (initial_of i >>= λ v. Ok (with_item d (record { name = i.name; kind = i.kind; required = i.required; initial = v })))

-- a group: its name is new in its data set, then its items in order
unfoldable pub group_at : List Draft → Draft → GroupDecl → Judged Draft
group_at o d g = if is_taken g.name d then Err (Twice g.name) else steps item_at o (with_group d g) g.items

abbrev pub link_to : LinkDecl → Option Draft → Judged ItemKind
link_to l None = Err (Unknown l.target)
link_to l (Some t) = if t.owner == 0 then Ok (LinkTo t.number l.counted) else Err (Embedding l.name)

-- a link points to a data set, which stands in no other
unfoldable pub link_kind : List Draft → LinkDecl → Judged ItemKind
link_kind o l = link_to l (data_set_named l.target o)

-- a link: its name is new in its data set, then what it points to
unfoldable pub link_at : List Draft → Draft → LinkDecl → Judged Draft
link_at o d l = if is_taken l.name d then Err (Twice l.name) else (link_kind o l >>= λ k. Ok (with_item d (record { name = l.name; kind = k; required = false; initial = Null })))

-- how many bytes its records have; the count stops at 2 ^ 32 - 1
abbrev pub width_of : Draft → ℕ
width_of d = min (record_width d.items) 4294967295

-- the end of a data set: VERIFY, then its records have at most 480 bytes
unfoldable pub end_at : Draft → DataSetEnd → Judged Draft
end_at d e = verify_tree d.items e.verify >>= λ c. if nat_lt 480 (width_of d) then Err (RecordLong (width_of d)) else Ok (with_end d e.population c)

-- what is declared within a data set, but for structures
unfoldable pub member_at : List Draft → Declaration → Draft → Judged Draft
member_at o (Item i) d = item_at o d i
member_at o (Group g) d = group_at o d g
member_at o (Link l) d = link_at o d l
member_at o (End e) d = end_at d e
member_at o (DataSet s) d = Ok d
member_at o (SetOf s) d = Ok d

-- the data set that is open behind a declaration in an open one
abbrev pub open_after : Declaration → ℕ → ℕ → ℕ
open_after (End e) owner within = owner
open_after (Item i) owner within = within
open_after (Group g) owner within = within
open_after (Link l) owner within = within
open_after (DataSet s) owner within = within
open_after (SetOf s) owner within = within
