-- What is sound by itself and with others is sound, and a description of such structures is well-formed.
use Rattle.std.proofs.Common.{◌≡◌, ℕ, List, [], ◌∷◌, length, Bool, true, false, cond, refl}
use Rattle.std.proofs.lemmas.Bool.{and_parts, and_from}
use Rattle.std.specs.Prelude.{◌&&◌, ◌||◌, ◌==◌, not, nat_le}
use Rattle.std.specs.List.{list_all}
use Rattle.std.specs.declared.result.Result.TheVariants.{Ok}
use Rattle.dms_base.specs.Name.{is_name}
use Rattle.dms_desc.specs.Shape.{Shape, Described}
use Rattle.dms_desc_bytes.specs.Finding.{kind_of, items_at}
use Rattle.dms_desc_bytes.specs.Lists.{is_within, is_empty}
use Rattle.dms_desc_bytes.specs.Members.{members_differ, is_item_sound}
use Rattle.dms_desc_bytes.specs.Spelling.{is_data_set}
use Rattle.dms_desc.specs.Widths.{record_width}
use Rattle.dms_desc_bytes.specs.WellFormed.{IsWellFormed, is_sound, is_data_set_sound, is_set_sound, has_sound_items, has_sound_groups, has_sound_verify, lacks_set_fields, has_member, is_owned_well, is_shallow, is_placed, is_set_placed, is_populated, is_key_sound, is_where_sound, are_sound}
use Rattle.dasdl_parse.specs.Grammar.{schema_of}
use Rattle.dasdl_parse.specs.declared.schema.Schema.{Schema}
use Rattle.dasdl_compile.specs.Compile.{compile_schema}
use Rattle.dasdl_laws.specs.Alone.{is_local, has_local_items, is_data_set_alone, is_set_alone, is_sound_alone}
use Rattle.dasdl_laws.specs.Together.{is_set_together, is_sound_together}
use Rattle.dasdl_laws.proofs.Ordered.{has_kind}
use Rattle.dasdl_laws.proofs.Parameters.{in_range}
use Rattle.dasdl_laws.proofs.Structures.{Structured, structured, few_structures, few_counted_links}

-- ---- data sets, and sets

items_both : (ss : List Shape) (s : Shape) → has_local_items s ≡ true → list_all (is_item_sound ss) s.items ≡ true → has_sound_items ss s ≡ true
unfolding has_local_items has_sound_items
items_both ss s h k =
    let a = and_parts (nat_le (length s.items) 60 && list_all is_local s.items) (nat_le (record_width s.items) 480) h in
    let b = and_parts (nat_le (length s.items) 60) (list_all is_local s.items) a.0 in
    and_from _ _ (and_from _ _ b.0 k) a.1

data_set_both : (ss : List Shape) (s : Shape) → is_data_set_alone s ≡ true → list_all (is_item_sound ss) s.items ≡ true → has_member ss s ≡ true → is_data_set_sound ss s ≡ true
unfolding is_data_set_alone is_data_set_sound
data_set_both ss s h k m =
    let lacks = and_parts (is_within 1 1000000 s.population && has_local_items s && has_sound_groups s && members_differ s.items s.groups && has_sound_verify s) (lacks_set_fields s) h in
    let verify = and_parts (is_within 1 1000000 s.population && has_local_items s && has_sound_groups s && members_differ s.items s.groups) (has_sound_verify s) lacks.0 in
    let differ = and_parts (is_within 1 1000000 s.population && has_local_items s && has_sound_groups s) (members_differ s.items s.groups) verify.0 in
    let groups = and_parts (is_within 1 1000000 s.population && has_local_items s) (has_sound_groups s) differ.0 in
    let items = and_parts (is_within 1 1000000 s.population) (has_local_items s) groups.0 in
    and_from _ _ (and_from _ _ (and_from _ _ (and_from _ _ (and_from _ _ (and_from _ _ items.0 m) (items_both ss s items.1 k)) groups.1) differ.1) verify.1) lacks.1

set_both : (ss : List Shape) (s : Shape) → is_set_alone s ≡ true → is_set_together ss s ≡ true → is_set_sound ss s ≡ true
unfolding is_set_alone is_set_together is_set_sound
set_both ss s h k =
    let groups = and_parts (is_populated s && is_within 1 2 s.form && (s.duplicates || not (is_empty s.parts)) && is_empty s.items) (is_empty s.groups) h in
    let items = and_parts (is_populated s && is_within 1 2 s.form && (s.duplicates || not (is_empty s.parts))) (is_empty s.items) groups.0 in
    let duplicates = and_parts (is_populated s && is_within 1 2 s.form) (s.duplicates || not (is_empty s.parts)) items.0 in
    let form = and_parts (is_populated s) (is_within 1 2 s.form) duplicates.0 in
    let filled = and_parts (is_data_set (kind_of ss s.set) && is_set_placed ss s && is_key_sound (items_at ss s.set) s.parts && is_where_sound (items_at ss s.set) s) (s.kind == 5 || not (is_empty s.parts)) k in
    let test = and_parts (is_data_set (kind_of ss s.set) && is_set_placed ss s && is_key_sound (items_at ss s.set) s.parts) (is_where_sound (items_at ss s.set) s) filled.0 in
    let key = and_parts (is_data_set (kind_of ss s.set) && is_set_placed ss s) (is_key_sound (items_at ss s.set) s.parts) test.0 in
    and_from _ _ (and_from _ _ (and_from _ _ (and_from _ _ (and_from _ _ (and_from _ _ (and_from _ _ (and_from _ _ key.0 form.0) form.1) key.1) filled.1) duplicates.1) test.1) items.1) groups.1

-- ---- structures

fields_both : (b : Bool) (ss : List Shape) (s : Shape) → cond b (is_data_set_alone s) (is_set_alone s) ≡ true → cond b (list_all (is_item_sound ss) s.items) (is_set_together ss s) ≡ true → (not b || has_member ss s) ≡ true → cond b (is_data_set_sound ss s) (is_set_sound ss s) ≡ true
fields_both true ss s h k m = data_set_both ss s h k m
fields_both false ss s h k m = set_both ss s h k

sound_by : (ss : List Shape) (s : Shape) → has_kind s ≡ true → is_sound_alone s ≡ true → is_sound_together ss s ≡ true → (not (is_data_set s.kind) || has_member ss s) ≡ true → is_placed s ≡ true → is_owned_well ss s ≡ true → is_shallow ss s ≡ true → is_sound ss s ≡ true
unfolding is_sound is_sound_alone is_sound_together
sound_by ss s kind alone together member placed owned shallow =
    let a = and_parts (is_name s.name) (cond (is_data_set s.kind) (is_data_set_alone s) (is_set_alone s)) alone in
    and_from _ _ (and_from _ _ (and_from _ _ (and_from _ _ (and_from _ _ kind a.0) owned) shallow) placed) (fields_both (is_data_set s.kind) ss s a.1 together member)

abbrev has_its_member : List Shape → Shape → Bool
has_its_member ss s = not (is_data_set s.kind) || has_member ss s

all_sound : (ss ds : List Shape) → list_all has_kind ds ≡ true → list_all is_sound_alone ds ≡ true → list_all (is_sound_together ss) ds ≡ true → list_all (has_its_member ss) ds ≡ true → list_all is_placed ds ≡ true → list_all (is_owned_well ss) ds ≡ true → list_all (is_shallow ss) ds ≡ true → list_all (is_sound ss) ds ≡ true
all_sound ss [] kinds alone together members placed owned shallow = refl
all_sound ss (s ∷ ds) kinds alone together members placed owned shallow =
    let a = and_parts (has_kind s) (list_all has_kind ds) kinds in
    let b = and_parts (is_sound_alone s) (list_all is_sound_alone ds) alone in
    let c = and_parts (is_sound_together ss s) (list_all (is_sound_together ss) ds) together in
    let d = and_parts (has_its_member ss s) (list_all (has_its_member ss) ds) members in
    let e = and_parts (is_placed s) (list_all is_placed ds) placed in
    let f = and_parts (is_owned_well ss s) (list_all (is_owned_well ss) ds) owned in
    let g = and_parts (is_shallow ss s) (list_all (is_shallow ss) ds) shallow in
    and_from _ _ (sound_by ss s a.0 b.0 c.0 d.0 e.0 f.0 g.0) (all_sound ss ds a.1 b.1 c.1 d.1 e.1 f.1 g.1)

-- ---- descriptions

structures_sound : (d : Described) → Structured d → are_sound d.structures ≡ true
unfolding are_sound
structures_sound d h =
    and_from _ _ (and_from _ _ (and_from _ _ (and_from _ _ (and_from _ _ (and_from _ _ (few_structures d h) h.order.numbers) h.order.names) h.order.restart) h.order.restarts) (few_counted_links d h))
    (all_sound d.structures d.structures h.kinds h.alone h.together h.members h.placed h.owned h.shallow)

pub well_formed : (text : List ℕ) (s : Schema) (d : Described) → schema_of text ≡ Ok s → compile_schema s.parameters s.declarations ≡ Ok d → IsWellFormed d
well_formed text s d read made =
    let h = structured text s d read made in
    record { parameters = in_range text s d read made; structures = structures_sound d h; short = h.short }
