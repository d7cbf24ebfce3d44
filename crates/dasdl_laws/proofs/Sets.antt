-- A set or subset that was made is sound over the structures that were made.
use Rattle.std.proofs.Common.{◌≡◌, ◌≤◌, ℕ, suc, zero, List, [], ◌∷◌, map, length, Bool, true, false, cond, refl, sym, ap, subst, ◌∙◌, arith}
use Rattle.std.proofs.lemmas.Bool.{and_parts, eqb-true, eq-eqb, not-false, both_ways, or_left, or_right, and_from}
use Rattle.std.proofs.lemmas.List.{length-map}
use Rattle.std.specs.Prelude.{◌&&◌, ◌||◌, ◌==◌, not, is_some, slice_get, Some, None}
use Rattle.std.specs.List.{list_all, AllByRecursion}
use Rattle.std.specs.declared.option.Option.{Option}
use Rattle.std.specs.declared.result.Result.TheVariants.{Ok, Err}
use Rattle.dms_base.specs.declared.kind.StructureKind.TheVariants.{Set, AutomaticSubset, ManualSubset}
use Rattle.dms_desc.specs.declared.structure.Item.{Item as Member}
use Rattle.dms_desc.specs.declared.structure.KeyPart.{KeyPart}
use Rattle.dms_desc.specs.Shape.{Tree, kind_number}
use Rattle.dms_desc.specs.Shape.Tree.{Empty}
use Rattle.dms_desc_bytes.specs.Conditions.{is_condition, is_nothing}
use Rattle.dms_desc_bytes.specs.Finding.{kind_of, owner_of, items_at}
use Rattle.dms_desc_bytes.specs.Spelling.{is_data_set}
use Rattle.dms_desc_bytes.specs.WellFormed.{stand_in_order, is_key_sound, is_set_placed}
use Rattle.dasdl_phrases.specs.Trees.{Condition}
use Rattle.dasdl_parse.specs.declared.declarations.SetDecl.{SetDecl}
use Rattle.dasdl_phrases.specs.declared.key_parts.KeyDecl.{KeyDecl}
use Rattle.dasdl_compile.specs.declared.fault.CompileFault.{CompileFault}
use Rattle.dasdl_compile.specs.declared.draft.Draft.{Draft}
use Rattle.dasdl_compile.specs.declared.sets.WhereAndKey.{WhereAndKey}
use Rattle.dasdl_compile.specs.declared.work.Compilation.{Compilation}
use Rattle.dasdl_compile.specs.Answers.{Judged, ◌>>=◌}
use Rattle.dasdl_compile.specs.Compile.{shape_in}
use Rattle.dasdl_compile.specs.Conditions.{condition}
use Rattle.dasdl_compile.specs.Sets.{set_kind, where_in, where_of, key_in, key_of, key_is_first, options_at, is_misplaced, set_draft}
use Rattle.dasdl_compile.specs.Finding.{kind_of as kind_made}
use Rattle.dasdl_laws.specs.Together.{is_set_together, is_sound_together}
use Rattle.dasdl_laws.proofs.Alone.{kind_is}
use Rattle.std.specs.Prelude.{is_none}
use Rattle.dms_desc_bytes.specs.Lists.{is_empty}
use Rattle.dasdl_compile.specs.Sets.{lacks_key}
use Rattle.dasdl_laws.proofs.Filled.{key_filled}
use Rattle.dasdl_laws.proofs.Parts.{GroupWithin}
use Rattle.dasdl_laws.proofs.Written.{IsSomeKey}
use Rattle.dasdl_laws.proofs.Judging.{bind_ok, ok_same}
use Rattle.dasdl_laws.proofs.Judged.{condition_sound}
use Rattle.dasdl_laws.proofs.Keys.{key_sound}
use Rattle.dasdl_laws.proofs.Outline.{outline_of, seen_item}
use Rattle.dasdl_laws.proofs.Together.{FoundAs, found_as, items_sound, same_keys, same_conditions}
use Rattle.dasdl_laws.proofs.Trees.{DataSetMade, SetMade, Final, no_data_set}
use Rattle.dasdl_laws.proofs.Trees.Final.{a_data_set_made, a_set_made}
use Rattle.dasdl_laws.proofs.Written.{IsPlainCondition}

-- ---- KEY and WHERE

read_by : (b : Bool) (d : Draft) (s : SetDecl) (p : WhereAndKey)
    → cond b (key_of d s >>= λ ps. where_of d s >>= λ c. Ok (record { cond = c; parts = ps })) (where_of d s >>= λ c. key_of d s >>= λ ps. Ok (record { cond = c; parts = ps })) ≡ Ok p
    → (key_of d s ≡ Ok p.parts) × (where_of d s ≡ Ok p.cond)
read_by true d s p h =
    let a = bind_ok {A = List KeyPart} {B = WhereAndKey} (key_of d s) _ p h in
    let b = bind_ok {A = Tree} {B = WhereAndKey} (where_of d s) _ p a.2 in
    let e = ok_same {A = WhereAndKey} (record { cond = b.0; parts = a.0 }) p b.2 in
    (a.1 ∙ ap (λ (x : WhereAndKey). Ok x.parts) e, b.1 ∙ ap (λ (x : WhereAndKey). Ok x.cond) e)
read_by false d s p h =
    let b = bind_ok {A = Tree} {B = WhereAndKey} (where_of d s) _ p h in
    let a = bind_ok {A = List KeyPart} {B = WhereAndKey} (key_of d s) _ p b.2 in
    let e = ok_same {A = WhereAndKey} (record { cond = b.0; parts = a.0 }) p a.2 in
    (a.1 ∙ ap (λ (x : WhereAndKey). Ok x.parts) e, b.1 ∙ ap (λ (x : WhereAndKey). Ok x.cond) e)

options_read : (d : Draft) (s : SetDecl) (p : WhereAndKey) → options_at d s ≡ Ok p → (key_of d s ≡ Ok p.parts) × (where_of d s ≡ Ok p.cond)
unfolding options_at
options_read d s p h = read_by (key_is_first s.cond s.key) d s p h

no_key : (is : List Member) → is_key_sound is [] ≡ true
unfolding is_key_sound
no_key is = refl

key_by : (d : Draft) (s : SetDecl) (r : Option KeyDecl) (ps : List KeyPart) → length d.items ≤ 254 → AllByRecursion (GroupWithin (length d.items)) d.groups → key_in d s r ≡ Ok ps → is_key_sound d.items ps ≡ true
key_by d s None ps few w h = subst (λ (x : List KeyPart). is_key_sound d.items x ≡ true) (ok_same [] ps h) (no_key d.items)
key_by d s (Some k) ps few w h = key_sound s.name d k.parts ps few w h

keys_sound : (d : Draft) (s : SetDecl) (ps : List KeyPart) → length d.items ≤ 254 → AllByRecursion (GroupWithin (length d.items)) d.groups → key_of d s ≡ Ok ps → is_key_sound d.items ps ≡ true
unfolding key_of
keys_sound d s ps few w h = key_by d s s.key ps few w h

some_part : (ps : List KeyPart) → 1 ≤ length ps → not (is_empty ps) ≡ true
some_part [] h = absurd (omega (arith, h))
some_part (p ∷ ps) h = refl

filled_by : (d : Draft) (s : SetDecl) (q : Bool) (r : Option KeyDecl) (ps : List KeyPart) → length d.items ≤ 254 → AllByRecursion (GroupWithin (length d.items)) d.groups → IsSomeKey r → is_none r && not q ≡ false → key_in d s r ≡ Ok ps → (q || not (is_empty ps)) ≡ true
filled_by d s true r ps few w some lacks h = refl
filled_by d s false None ps few w some lacks h = absurd (cc)
filled_by d s false (Some k) ps few w some lacks h = some_part ps (key_filled s.name d k.parts ps few w some h)

filled : (d : Draft) (s : SetDecl) (ps : List KeyPart) → length d.items ≤ 254 → AllByRecursion (GroupWithin (length d.items)) d.groups → IsSomeKey s.key → lacks_key s ≡ false → key_of d s ≡ Ok ps → (kind_number (set_kind s) == 5 || not (is_empty ps)) ≡ true
unfolding key_of
filled d s ps few w some lacks h = filled_by d s (kind_number (set_kind s) == 5) s.key ps few w some lacks h

guarded : (b : Bool) (e : CompileFault) (x t : Tree) → ◌≡◌ {A = Judged Tree} (cond b (Ok x) (Err e)) (Ok t) → (b ≡ true) × (x ≡ t)
guarded true e x t h = (refl, ok_same x t h)
guarded false e x t h = absurd (cc)

where_by : (d : Draft) (s : SetDecl) (t : Tree) (b : Bool) (r : Option Condition) → length d.items ≤ 254 → s.subset ≡ b → IsPlainCondition r → where_in d s r ≡ Ok t → cond (kind_number (cond (not b) Set (cond (is_some r) AutomaticSubset ManualSubset)) == 4) (is_condition d.items t) (is_nothing t) ≡ true
where_by d s t true None few e w h = subst (λ (x : Tree). is_nothing x ≡ true) (ok_same Empty t h) refl
where_by d s t false None few e w h = subst (λ (x : Tree). is_nothing x ≡ true) (ok_same Empty t h) refl
where_by d s t true (Some c) few e w h =
    let a = bind_ok {A = Tree} {B = Tree} (condition d.items c.tree) _ t h in
    let g = guarded s.subset _ a.0 t a.2 in
    condition_sound d.items c.tree t few w.0 w.1 (a.1 ∙ ap (λ (x : Tree). Ok x) g.1)
where_by d s t false (Some c) few e w h =
    let a = bind_ok {A = Tree} {B = Tree} (condition d.items c.tree) _ t h in
    let g = guarded s.subset _ a.0 t a.2 in
    absurd (both_ways s.subset e g.0)

where_sound : (d : Draft) (s : SetDecl) (t : Tree) → length d.items ≤ 254 → IsPlainCondition s.cond → where_of d s ≡ Ok t → cond (kind_number (set_kind s) == 4) (is_condition d.items t) (is_nothing t) ≡ true
unfolding where_of
where_sound d s t few w h = where_by d s t s.subset s.cond few refl w h

-- ---- where it stands

place_by : (q : Bool) (i j : ℕ) (b c : Bool) → (j == i) ≡ q → (q || (b && j == 0 && c)) ≡ true → ((i == j) || (b && j == 0)) ≡ true
place_by true i j b c e h = or_left (i == j) _ (eq-eqb i j (sym (eqb-true j i e)))
place_by false i j b c e h = or_right (i == j) _ (and_parts (b && j == 0) c h).0

placed_well : (w : Compilation) (s : SetDecl) (d : Draft) → is_misplaced w s d ≡ false → ((w.within == d.owner) || (kind_number (set_kind s) == 5 && d.owner == 0)) ≡ true
unfolding is_misplaced
placed_well w s d h = place_by (d.owner == w.within) w.within d.owner (kind_number (set_kind s) == 5) (not (kind_made w.within w.made == 2)) refl (not-false _ h)

-- ---- sets

items_few : (o : List Draft) (d : Draft) → Final o d → length d.items ≤ 60
items_few o d (a_data_set_made h) = h.ended.few
items_few o d (a_set_made h) = subst (λ (x : Draft). length x.items ≤ 60) h.is (omega arith)

pub final_at : (P : Draft → Type 0) (ds : List Draft) (k : ℕ) (d : Draft) → AllByRecursion P ds → slice_get ds k ≡ Some d → P d
final_at P [] k d h e = absurd (cc)
final_at P (x ∷ xs) zero d h e = let one : x ≡ d = cc in subst P one h.0
final_at P (x ∷ xs) (suc k) d h e = final_at P xs k d h.1 e

groups_within : (o : List Draft) (d : Draft) → Final o d → AllByRecursion (GroupWithin (length d.items)) d.groups
groups_within o d (a_data_set_made h) = h.ended.sofar.grouped.within
groups_within o d (a_set_made h) = subst (λ (x : Draft). AllByRecursion (GroupWithin (length x.items)) x.groups) h.is tt

set_shape : (made : List Draft) (w : Compilation) (s : SetDecl) (of : Draft) (p : WhereAndKey) (f : FoundAs made of) → length f.is.items ≤ 60 → AllByRecursion (GroupWithin (length f.is.items)) f.is.groups → is_misplaced w s of ≡ false → options_at of s ≡ Ok p → lacks_key s ≡ false → IsPlainCondition s.cond → IsSomeKey s.key → is_set_together (map shape_in made) (shape_in (set_draft w s of p)) ≡ true
unfolding is_set_together kind_of owner_of items_at is_set_placed
set_shape made w s of p f few groups placed read lacks plain some =
    let items : map seen_item of.items ≡ map seen_item f.is.items = ap (λ (x : Draft). x.items) f.alike in
    let size : length of.items ≡ length f.is.items = sym (length-map of.items seen_item) ∙ ap length items ∙ length-map f.is.items seen_item in
    let low : length of.items ≤ 254 = omega (arith, size, few) in
    let gs : f.is.groups ≡ of.groups = ap (λ (x : Draft). x.groups) (sym f.alike) in
    let within : AllByRecursion (GroupWithin (length of.items)) of.groups = subst (λ (n : ℕ). AllByRecursion (GroupWithin n) of.groups) (sym size) (subst (AllByRecursion (GroupWithin (length f.is.items))) gs groups) in
    let o = options_read of s p read in
    let owner : f.is.owner ≡ of.owner = ap (λ (x : Draft). x.owner) (sym f.alike) in
    let key : is_key_sound f.is.items p.parts ≡ true = sym (same_keys of.items f.is.items p.parts items) ∙ keys_sound of s p.parts low within o.0 in
    let test : cond (kind_number (set_kind s) == 4) (is_condition f.is.items p.cond) (is_nothing p.cond) ≡ true = ap (λ (b : Bool). cond (kind_number (set_kind s) == 4) b (is_nothing p.cond)) (sym (same_conditions of.items f.is.items p.cond items)) ∙ where_sound of s p.cond low plain o.1 in
    rw f.structure (and_from _ _ (and_from _ _ (and_from _ _ (and_from _ _ f.kind (rw owner (placed_well w s of placed))) key) test) (filled of s p.parts low within some lacks o.0))

-- what was declared, and what it was declared under
pub record Whole (noted made : List Draft) : Type 0 where
  pub same : map outline_of noted ≡ map outline_of made
  pub numbers : stand_in_order 1 (map shape_in made) ≡ true
  pub final : AllByRecursion (Final noted) made

set_together : (noted made : List Draft) (d : Draft) → Whole noted made → SetMade noted d → is_sound_together (map shape_in made) (shape_in d) ≡ true
unfolding is_sound_together
set_together noted made d w h =
    let f = found_as h.decl.of noted made h.of w.same w.numbers h.found in
    let g = final_at (Final noted) made f.place f.is w.final f.at in
    subst (λ (x : Draft). is_sound_together (map shape_in made) (shape_in x) ≡ true) h.is
    (rw (no_data_set h.decl.subset (is_some h.decl.cond)) (set_shape made h.work h.decl h.of h.options f (items_few noted f.is g) (groups_within noted f.is g) h.placed h.read h.key h.written.cond h.written.key))

data_set_together : (noted made : List Draft) (d : Draft) → Whole noted made → DataSetMade noted d → is_sound_together (map shape_in made) (shape_in d) ≡ true
unfolding is_sound_together
data_set_together noted made d w h =
    let kind : is_data_set (kind_number d.kind) ≡ true = ap (λ (x : Draft). is_data_set (kind_number x.kind)) h.outside ∙ kind_is h.restart in
    rw kind (items_sound noted made d.items w.same w.numbers h.ended.sofar.base.local h.ended.sofar.base.points)

together : (noted made : List Draft) (d : Draft) → Whole noted made → Final noted d → is_sound_together (map shape_in made) (shape_in d) ≡ true
together noted made d w (a_data_set_made h) = data_set_together noted made d w h
together noted made d w (a_set_made h) = set_together noted made d w h

all_of : (noted made ds : List Draft) → Whole noted made → AllByRecursion (Final noted) ds → list_all (is_sound_together (map shape_in made)) (map shape_in ds) ≡ true
all_of noted made [] w h = refl
all_of noted made (d ∷ ds) w h = and_from _ _ (together noted made d w h.0) (all_of noted made ds w h.1)

pub all_together : (noted made : List Draft) → Whole noted made → list_all (is_sound_together (map shape_in made)) (map shape_in made) ≡ true
all_together noted made w = all_of noted made made w w.final
