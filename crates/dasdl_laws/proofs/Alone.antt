-- Each structure that was made is sound by itself.
use Rattle.std.proofs.Common.{◌≡◌, ℕ, List, [], ◌∷◌, map, Bool, true, false, cond, refl, ap, subst, ◌∙◌}
use Rattle.std.proofs.lemmas.Bool.{le-leb, eq-eqb, and_from}
use Rattle.std.specs.Prelude.{◌||◌, ◌==◌, not, is_some, Some}
use Rattle.std.specs.List.{list_all, AllByRecursion}
use Rattle.dms_base.specs.declared.kind.StructureKind.{StructureKind}
use Rattle.dms_desc.specs.declared.structure.KeyPart.{KeyPart}
use Rattle.dms_desc.specs.Shape.{form_number, kind_number}
use Rattle.dms_desc_bytes.proofs.Numbered.{form_within}
use Rattle.dms_desc_bytes.specs.Lists.{is_within, is_empty}
use Rattle.dms_desc_bytes.specs.Spelling.{is_data_set}
use Rattle.dms_desc_bytes.specs.WellFormed.{has_sound_groups, lacks_set_fields}
use Rattle.dasdl_compile.specs.declared.draft.Draft.{Draft}
use Rattle.dasdl_compile.specs.Compile.{shape_in}
use Rattle.dasdl_compile.specs.Finding.{new_draft}
use Rattle.dasdl_compile.specs.Outlines.{data_set_kind}
use Rattle.dasdl_compile.specs.Sets.{set_kind, no_parts}
use Rattle.dasdl_laws.specs.Alone.{has_local_items, is_data_set_alone, is_set_alone, is_sound_alone}
use Rattle.dasdl_laws.proofs.Parts.{EndedDraft, groups_sound}
use Rattle.dasdl_laws.proofs.Trees.{DataSetMade, SetMade, Final, no_data_set}
use Rattle.dasdl_laws.proofs.Trees.Final.{a_data_set_made, a_set_made}
use Rattle.dasdl_laws.proofs.Turns.{outer}

pub kind_is : (b : Bool) → is_data_set (kind_number (data_set_kind b)) ≡ true
kind_is true = refl
kind_is false = refl

items_alone : (o : List Draft) (d : Draft) → EndedDraft o d → has_local_items (shape_in d) ≡ true
unfolding has_local_items
items_alone o d h = and_from _ _ (and_from _ _ (le-leb _ _ h.few) h.sofar.base.local) (le-leb _ _ h.short)

groups_alone : (o : List Draft) (d : Draft) → EndedDraft o d → has_sound_groups (shape_in d) ≡ true
unfolding has_sound_groups
groups_alone o d h = and_from _ _ (and_from _ _ (le-leb _ _ h.sofar.grouped.few) (groups_sound d.items d.groups h.sofar.grouped.within h.sofar.plain)) h.sofar.grouped.follow

lacks_alone : (d : Draft) (number : ℕ) (kind : StructureKind) (name : List ℕ) (owner : ℕ) → outer d ≡ new_draft number kind name owner → lacks_set_fields (shape_in d) ≡ true
unfolding lacks_set_fields
lacks_alone d number kind name owner e =
    let set : d.set ≡ 0 = ap (λ (x : Draft). x.set) e in
    let form : form_number d.form ≡ 0 = ap (λ (x : Draft). form_number x.form) e in
    let duplicates : d.duplicates ≡ false = ap (λ (x : Draft). x.duplicates) e in
    let parts : d.parts ≡ [] = ap (λ (x : Draft). x.parts) e in
    and_from _ _ (and_from _ _ (and_from _ _ (eq-eqb d.set 0 set) (eq-eqb (form_number d.form) 0 form)) (ap not duplicates)) (ap (λ (x : List KeyPart). is_empty x) parts)

data_set_alone : (o : List Draft) (d : Draft) → DataSetMade o d → is_sound_alone (shape_in d) ≡ true
unfolding is_sound_alone is_data_set_alone
data_set_alone o d h =
    let kind : is_data_set (kind_number d.kind) ≡ true = ap (λ (x : Draft). is_data_set (kind_number x.kind)) h.outside ∙ kind_is h.restart in
    and_from _ _ h.name (rw kind
    (and_from _ _ (and_from _ _ (and_from _ _ (and_from _ _ (and_from _ _ h.ended.population (items_alone o d h.ended)) (groups_alone o d h.ended)) h.ended.sofar.base.differ) h.ended.verify) (lacks_alone d h.number (data_set_kind h.restart) h.called h.owner h.outside)))

populated : (b : Bool) (n : ℕ) → is_within 1 1000000 n ≡ true → cond b (is_within 1 1000000 (cond b n 0)) (cond b n 0 == 0) ≡ true
populated true n h = h
populated false n h = refl

some_parts : (ps : List KeyPart) (b : Bool) → ((b || no_parts ps) || not (is_empty ps)) ≡ true
some_parts [] true = refl
some_parts [] false = refl
some_parts (p ∷ ps) true = refl
some_parts (p ∷ ps) false = refl

set_alone : (o : List Draft) (d : Draft) → SetMade o d → is_sound_alone (shape_in d) ≡ true
unfolding is_sound_alone is_set_alone
set_alone o d h =
    subst (λ (x : Draft). is_sound_alone (shape_in x) ≡ true) h.is
    (and_from _ _ h.written.name (rw (no_data_set h.decl.subset (is_some h.decl.cond))
    (and_from _ _ (and_from _ _ (and_from _ _ (and_from _ _ (populated (kind_number (set_kind h.decl) == 5) h.decl.population h.written.population) (form_within (Some h.decl.form))) (some_parts h.options.parts h.decl.duplicates)) refl) refl)))

alone : (o : List Draft) (d : Draft) → Final o d → is_sound_alone (shape_in d) ≡ true
alone o d (a_data_set_made h) = data_set_alone o d h
alone o d (a_set_made h) = set_alone o d h

pub all_alone : (o ds : List Draft) → AllByRecursion (Final o) ds → list_all is_sound_alone (map shape_in ds) ≡ true
all_alone o [] h = refl
all_alone o (d ∷ ds) h = and_from _ _ (alone o d h.0) (all_alone o ds h.1)
