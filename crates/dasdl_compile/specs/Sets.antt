-- Sets and subsets, as they are judged.
use Rattle.std.specs.Prelude.{ℕ, List, [], ◌∷◌, ◌++◌, Bool, true, false, not, ◌&&◌, ◌||◌, ◌==◌, nat_lt, is_some, is_none, Some, None, if◌then◌else◌}
use Rattle.std.specs.declared.option.Option.{Option}
use Rattle.std.specs.declared.result.Result.TheVariants.{Ok, Err}
use Rattle.dms_base.specs.declared.kind.StructureKind.{StructureKind}
use Rattle.dms_base.specs.declared.kind.StructureKind.TheVariants.{Set, AutomaticSubset, ManualSubset}
use Rattle.dms_desc.specs.declared.structure.KeyPart.{KeyPart}
use Rattle.dms_desc.specs.Shape.{Tree, kind_number}
use Rattle.dms_desc.specs.Shape.Tree.{Empty}
use Rattle.dasdl_phrases.specs.Trees.{Condition}
use Rattle.dasdl_parse.specs.declared.declarations.SetDecl.{SetDecl}
use Rattle.dasdl_phrases.specs.declared.key_parts.KeyDecl.{KeyDecl}
use Rattle.dasdl_compile.specs.declared.fault.CompileFault.TheVariants.{Twice, Unknown, KeyItem, CondKind, Embedding}
use Rattle.dasdl_compile.specs.declared.draft.Draft.{Draft}
use Rattle.dasdl_compile.specs.declared.work.Compilation.{Compilation}
use Rattle.dasdl_compile.specs.declared.sets.WhereAndKey.{WhereAndKey}
use Rattle.dasdl_compile.specs.Answers.{Judged, ◌>>=◌}
use Rattle.dasdl_compile.specs.Finding.{next_structure, is_structure, kind_of, data_set_named}
use Rattle.dasdl_compile.specs.Conditions.{condition}
use Rattle.dasdl_compile.specs.Keys.{key_at}

-- a set; a subset with WHERE is automatic, one without is manual
abbrev pub set_kind : SetDecl → StructureKind
set_kind s = if not s.subset then Set else (if is_some s.cond then AutomaticSubset else ManualSubset)

-- the condition is judged first, and then whether it stands on a subset
abbrev pub where_in : Draft → SetDecl → Option Condition → Judged Tree
where_in d s None = Ok Empty
where_in d s (Some c) = condition d.items c.tree >>= λ t. if s.subset then Ok t else Err (CondKind s.name)

unfoldable pub where_of : Draft → SetDecl → Judged Tree
where_of d s = where_in d s s.cond

abbrev pub key_in : Draft → SetDecl → Option KeyDecl → Judged (List KeyPart)
key_in d s None = Ok []
key_in d s (Some k) = key_at s.name d k.parts

unfoldable pub key_of : Draft → SetDecl → Judged (List KeyPart)
key_of d s = key_in d s s.key

-- KEY stands before WHERE
abbrev pub key_is_first : Option Condition → Option KeyDecl → Bool
key_is_first None None = false
key_is_first None (Some k) = false
key_is_first (Some c) None = false
key_is_first (Some c) (Some k) = nat_lt k.place c.place

-- KEY and WHERE in text order
unfoldable pub options_at : Draft → SetDecl → Judged WhereAndKey
options_at d s =
    if key_is_first s.cond s.key then (key_of d s >>= λ ps. where_of d s >>= λ c. Ok (record { cond = c; parts = ps }))
    else (where_of d s >>= λ c. key_of d s >>= λ ps. Ok (record { cond = c; parts = ps }))

-- a set or subset stands where its data set stands; a manual subset of a data set that stands in no other may stand
-- in any data set but the restart data set
unfoldable pub is_misplaced : Compilation → SetDecl → Draft → Bool
is_misplaced w s d = not (d.owner == w.within || (kind_number (set_kind s) == 5 && d.owner == 0 && not (kind_of w.within w.made == 2)))

-- a set and an automatic subset have a key
abbrev pub lacks_key : SetDecl → Bool
lacks_key s = is_none s.key && not (kind_number (set_kind s) == 5)

abbrev pub no_parts : List KeyPart → Bool
no_parts [] = true
no_parts (p ∷ ps) = false

-- population counts in a manual subset alone
abbrev pub population_of : SetDecl → ℕ
population_of s = if kind_number (set_kind s) == 5 then s.population else 0

-- without a key two members may be equal
abbrev pub has_duplicates : SetDecl → List KeyPart → Bool
has_duplicates s ps = s.duplicates || no_parts ps

-- a set or subset as it stands in the description
abbrev pub set_draft : Compilation → SetDecl → Draft → WhereAndKey → Draft
set_draft w s d o = record { number = next_structure w.made; kind = set_kind s; name = s.name; owner = w.within; population = population_of s; items = []; groups = []; cond = o.cond; set = d.number; form = Some s.form; duplicates = has_duplicates s o.parts; parts = o.parts }

-- its place, then KEY and WHERE in text order, then whether it has a key
unfoldable pub set_over : SetDecl → Draft → Compilation → Judged Compilation
set_over s d w = if is_misplaced w s d then Err (Embedding s.name) else (options_at d s >>= λ o. if lacks_key s then Err (KeyItem s.name) else Ok (record { made = w.made ++ set_draft w s d o ∷ []; within = w.within }))

abbrev pub set_in : SetDecl → Compilation → Option Draft → Judged Compilation
set_in s w None = Err (Unknown s.of)
set_in s w (Some d) = set_over s d w

-- a set or subset: its name is new, its data set is known, then the rest
unfoldable pub set_at : List Draft → SetDecl → Compilation → Judged Compilation
set_at outline s w = if is_structure s.name w.made then Err (Twice s.name) else set_in s w (data_set_named s.of outline)
