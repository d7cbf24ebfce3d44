-- What is declared, before anything is judged: names may be used before they are declared.
use Rattle.std.specs.Prelude.{◌-◌, [], ◌∷◌, ◌++◌, Bool, false, slice_get, set, Some, None, if◌then◌else◌}
use Rattle.std.specs.declared.option.Option.{Option}
use Rattle.std.specs.declared.result.Result.TheVariants.{Ok}
use Rattle.dms_base.specs.declared.value.Value.TheVariants.{Null}
use Rattle.dms_base.specs.declared.kind.ItemKind.TheVariants.{Link as LinkTo}
use Rattle.dms_base.specs.declared.kind.StructureKind.{StructureKind}
use Rattle.dms_base.specs.declared.kind.StructureKind.TheVariants.{DataSet as PlainDataSet, RestartDataSet, Set}
use Rattle.dasdl_parse.specs.declared.declarations.Declaration.{Declaration}
use Rattle.dasdl_parse.specs.declared.declarations.Declaration.TheVariants.{DataSet, Item, Group, Link, SetOf, End}
use Rattle.dasdl_parse.specs.declared.declarations.DataSetDecl.{DataSetDecl}
use Rattle.dasdl_parse.specs.declared.declarations.SetDecl.{SetDecl}
use Rattle.dasdl_parse.specs.declared.declarations.ItemDecl.{ItemDecl}
use Rattle.dasdl_compile.specs.declared.draft.Draft.{Draft}
use Rattle.dasdl_compile.specs.declared.work.Plain.{Plain}
use Rattle.dasdl_compile.specs.declared.work.Compilation.{Compilation}
use Rattle.dasdl_compile.specs.Answers.{Judged, ◌>>=◌, steps}
use Rattle.dasdl_compile.specs.Finding.{new_draft, next_structure}
use Rattle.dasdl_compile.specs.Members.{with_item, with_group, open_after}

-- the kind of a data set
abbrev pub data_set_kind : Bool → StructureKind
data_set_kind restart = if restart then RestartDataSet else PlainDataSet

-- an item is noted
unfoldable pub outlined_item : Plain → Draft → ItemDecl → Judged Draft
outlined_item plain d i = Ok (with_item d (record { name = i.name; kind = i.kind; required = i.required; initial = Null }))

-- what a data set has is noted
unfoldable pub outlined_member : Plain → Declaration → Draft → Judged Draft
outlined_member plain (Item i) d = outlined_item plain d i
outlined_member plain (Group g) d = steps outlined_item plain (with_group d g) g.items
outlined_member plain (Link l) d = Ok (with_item d (record { name = l.name; kind = LinkTo 0 l.counted; required = false; initial = Null }))
outlined_member plain (End e) d = Ok d
outlined_member plain (DataSet s) d = Ok d
outlined_member plain (SetOf s) d = Ok d

abbrev pub outlined_in : Plain → Declaration → Compilation → Option Draft → Judged Compilation
outlined_in plain decl w None = Ok w
outlined_in plain decl w (Some d) = outlined_member plain decl d >>= λ t. Ok (record { made = set w.made (w.within - 1) t; within = open_after decl d.owner w.within })

-- in the data set that is open; in a text of the grammar one is open wherever a member stands
unfoldable pub outlined_inside : Plain → Declaration → Compilation → Judged Compilation
outlined_inside plain decl w = outlined_in plain decl w (slice_get w.made (w.within - 1))

-- a data set is noted, and is open
unfoldable pub outlined_data_set : DataSetDecl → Compilation → Judged Compilation
outlined_data_set s w = Ok (record { made = w.made ++ new_draft (next_structure w.made) (data_set_kind s.restart) s.name w.within ∷ []; within = next_structure w.made })

-- a set or subset is noted as a structure, for the count
unfoldable pub outlined_set : SetDecl → Compilation → Judged Compilation
outlined_set s w = Ok (record { made = w.made ++ new_draft (next_structure w.made) Set s.name w.within ∷ []; within = w.within })

-- a declaration is noted
unfoldable pub outlined_one : Plain → Compilation → Declaration → Judged Compilation
outlined_one plain w (DataSet s) = outlined_data_set s w
outlined_one plain w (SetOf s) = outlined_set s w
outlined_one plain w (Item i) = outlined_inside plain (Item i) w
outlined_one plain w (Group g) = outlined_inside plain (Group g) w
outlined_one plain w (Link l) = outlined_inside plain (Link l) w
outlined_one plain w (End e) = outlined_inside plain (End e) w
