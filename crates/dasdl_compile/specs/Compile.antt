-- The description of a schema, or its first fault in text order.
use Rattle.std.specs.Prelude.{◌≡◌, ◌-◌, List, [], ◌∷◌, ◌++◌, map, Bool, not, ◌&&◌, ◌||◌, ◌==◌, nat_lt, slice_get, set, Some, None, if◌then◌else◌}
use Rattle.std.specs.declared.option.Option.{Option}
use Rattle.std.specs.declared.result.Result.TheVariants.{Ok, Err}
use Rattle.dms_desc.specs.Shape.{Shape, Described, as_described, form_number, kind_number}
use Rattle.dms_desc.specs.declared.description.Description.{Description}
use Rattle.dasdl_parse.specs.declared.schema.Parameters.{Parameters}
use Rattle.dasdl_parse.specs.declared.declarations.Declaration.{Declaration}
use Rattle.dasdl_parse.specs.declared.declarations.Declaration.TheVariants.{DataSet, Item, Group, Link, SetOf, End}
use Rattle.dasdl_parse.specs.declared.declarations.DataSetDecl.{DataSetDecl}
use Rattle.dasdl_compile.specs.declared.fault.CompileFault.TheVariants.{Twice, NoRestart, Embedding, DescriptionLong}
use Rattle.dasdl_compile.specs.declared.draft.Draft.{Draft}
use Rattle.dasdl_compile.specs.declared.work.Plain.TheVariants.{Noted}
use Rattle.dasdl_compile.specs.declared.work.Compilation.{Compilation}
use Rattle.dasdl_compile.specs.Answers.{Judged, ◌>>=◌, CompileFails, steps}
use Rattle.dasdl_compile.specs.Finding.{new_draft, next_structure, is_structure, has_restart, kind_of}
use Rattle.dasdl_compile.specs.Members.{member_at, open_after}
use Rattle.dasdl_compile.specs.Outlines.{data_set_kind, outlined_one}
use Rattle.dasdl_compile.specs.Sets.{set_at}
use Rattle.dasdl_compile.specs.Widths.{description_width}

-- a restart data set stands in no other, and no data set stands in it
unfoldable pub is_misplaced : DataSetDecl → Compilation → Bool
is_misplaced s w = (s.restart && not (w.within == 0)) || kind_of w.within w.made == 2

-- a data set: its name is new, its place, and no second restart data set
unfoldable pub data_set_at : DataSetDecl → Compilation → Judged Compilation
data_set_at s w =
    if is_structure s.name w.made then Err (Twice s.name)
    else (if is_misplaced s w then Err (Embedding s.name)
    else (if s.restart && has_restart w.made then Err (Twice s.name)
    else Ok (record { made = w.made ++ new_draft (next_structure w.made) (data_set_kind s.restart) s.name w.within ∷ []; within = next_structure w.made })))

abbrev pub inside_in : List Draft → Declaration → Compilation → Option Draft → Judged Compilation
inside_in outline decl w None = Ok w
inside_in outline decl w (Some d) = member_at outline decl d >>= λ t. Ok (record { made = set w.made (w.within - 1) t; within = open_after decl d.owner w.within })

-- in the data set that is open; in a text of the grammar one is open wherever a member stands
unfoldable pub inside_at : List Draft → Declaration → Compilation → Judged Compilation
inside_at outline decl w = inside_in outline decl w (slice_get w.made (w.within - 1))

-- a declaration, under all that is declared
unfoldable pub declared_at : List Draft → Compilation → Declaration → Judged Compilation
declared_at outline w (DataSet s) = data_set_at s w
declared_at outline w (SetOf s) = set_at outline s w
declared_at outline w (Item i) = inside_at outline (Item i) w
declared_at outline w (Group g) = inside_at outline (Group g) w
declared_at outline w (Link l) = inside_at outline (Link l) w
declared_at outline w (End e) = inside_at outline (End e) w

abbrev pub nothing_yet : Compilation
nothing_yet = record { made = []; within = 0 }

-- a structure of the description
abbrev pub shape_in : Draft → Shape
shape_in d = record { number = d.number; kind = kind_number d.kind; name = d.name; owner = d.owner; population = d.population; items = d.items; groups = d.groups; cond = d.cond; set = d.set; form = form_number d.form; duplicates = d.duplicates; parts = d.parts }

abbrev pub description_of : Parameters → List Draft → Described
description_of p ds = record { syncpoint = p.syncpoint; controlpoint = p.controlpoint; buffers = p.buffers; blocks = p.blocks; files = p.files; structures = map shape_in ds }

-- the text's end: there is a restart data set, then the description has at most 65,535 bytes
unfoldable pub finish_drafts : Parameters → List Draft → Judged Described
finish_drafts p ds =
    if not (has_restart ds) then Err NoRestart
    else (if nat_lt 65535 (description_width ds) then Err (DescriptionLong (description_width ds))
    else Ok (description_of p ds))

-- the declarations in text order under the names of all of them, then the text's end
unfoldable pub compile_schema : Parameters → List Declaration → Judged Described
compile_schema p decls =
    steps outlined_one Noted nothing_yet decls >>= λ outline.
    steps declared_at outline.made nothing_yet decls >>= λ w.
    finish_drafts p w.made

-- what was answered is what compiling gives, conditions seen as trees
abbrev pub Describes : Judged Description → Judged Described → Type 0
Describes (Ok d) read = read ≡ Ok (as_described d)
Describes (Err e) read = CompileFails e read
