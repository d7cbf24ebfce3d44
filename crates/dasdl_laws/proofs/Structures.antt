-- What a description that a text gives has, each in one sentence.
use Rattle.std.proofs.Common.{refl, ◌≡◌, ℕ, List, length, true, subst, IsTrue}
use Rattle.std.proofs.lemmas.Bool.{le-leb}
use Rattle.std.specs.Prelude.{nat_le}
use Rattle.std.specs.List.{list_all}
use Rattle.std.specs.declared.result.Result.TheVariants.{Ok}
use Rattle.dms_desc.specs.Shape.{Shape, Described}
use Rattle.dms_desc_bytes.specs.Spelling.{spelling}
use Rattle.dasdl_parse.specs.Grammar.{schema_of}
use Rattle.dasdl_parse.specs.declared.schema.Schema.{Schema}
use Rattle.dasdl_grammar.proofs.SchemaSound.{text_sound}
use Rattle.dasdl_compile.specs.Compile.{compile_schema}
use Rattle.dasdl_laws.specs.Alone.{is_sound_alone}
use Rattle.dasdl_laws.proofs.Alone.{all_alone}
use Rattle.dasdl_laws.proofs.Trees.{all_final}
use Rattle.dasdl_laws.specs.Together.{is_sound_together}
use Rattle.dasdl_laws.proofs.Outline.{all_alike}
use Rattle.dasdl_laws.proofs.Sets.{Whole, all_together}
use Rattle.dasdl_compile.specs.Compile.{nothing_yet}
use Rattle.dasdl_compile.specs.declared.work.Plain.TheVariants.{Noted}
use Rattle.dms_desc_bytes.specs.WellFormed.{is_placed, counted_in}
use Rattle.dms_desc_bytes.specs.Lists.{total}
use Rattle.std.proofs.Common.{◌≤◌}
use Rattle.dasdl_laws.proofs.Counted.{few_counted}
use Rattle.dasdl_laws.proofs.Placed.{all_placed}
use Rattle.std.specs.Prelude.{not, ◌||◌}
use Rattle.dms_desc_bytes.specs.Spelling.{is_data_set}
use Rattle.dms_desc_bytes.specs.WellFormed.{has_member, is_owned_well, is_shallow}
use Rattle.dasdl_laws.proofs.Levels.{are_shallow, declared_low}
use Rattle.dasdl_laws.proofs.Owned.{all_owned_well}
use Rattle.dasdl_laws.proofs.Nested.{have_members}
use Rattle.dasdl_laws.specs.Together.{is_within_earlier}
use Rattle.dasdl_laws.proofs.Owners.{stand_earlier}
use Rattle.dasdl_laws.proofs.Compiling.{compiled_by}
use Rattle.dasdl_laws.proofs.Ordered.{WellOrdered, well_ordered, have_kinds, has_kind}
use Rattle.dasdl_laws.proofs.Short.{is_short}

-- what is known of the structures of a description
pub record Structured (d : Described) : Type 0 where
  pub order : WellOrdered d.structures
  pub kinds : list_all has_kind d.structures ≡ true
  pub alone : list_all is_sound_alone d.structures ≡ true
  pub together : list_all (is_sound_together d.structures) d.structures ≡ true
  pub placed : list_all is_placed d.structures ≡ true
  pub counted : total counted_in d.structures ≤ 4000
  pub members : list_all (λ (x : Shape). not (is_data_set x.kind) || has_member d.structures x) d.structures ≡ true
  pub earlier : list_all (is_within_earlier d.structures) d.structures ≡ true
  pub owned : list_all (is_owned_well d.structures) d.structures ≡ true
  pub shallow : list_all (is_shallow d.structures) d.structures ≡ true
  pub short : nat_le (length (spelling d)) 65535 ≡ true

pub structured : (text : List ℕ) (s : Schema) (d : Described) → schema_of text ≡ Ok s → compile_schema s.parameters s.declarations ≡ Ok d → Structured d
structured text s d read made =
    let g = (text_sound text s read).0 in
    let c = compiled_by s.parameters s.declarations d made in
    let o = well_ordered c.outline.made s.declarations c.work c.declared g.few c.made.restart in
    let f = all_final s.parameters g.has_parameters g.has_audit s.declarations g.used g.declares c.outline.made c.work g.few c.declared in
    let e = all_alike Noted c.outline.made s.declarations nothing_yet nothing_yet c.outline c.work (record { within = refl; made = refl }) c.outlined c.declared in
    let w : Whole c.outline.made c.work.made = record { same = e.made; numbers = o.numbers; final = f.0 } in
    let early = stand_earlier c.outline.made s.declarations c.work g.few c.declared in
    subst Structured c.made.is
    (record { order = o; kinds = have_kinds c.work.made; alone = all_alone c.outline.made c.work.made f.0; together = all_together c.outline.made c.work.made w; counted = few_counted s.parameters g.has_parameters g.has_audit s.declarations g.used g.declares c.outline.made c.work g.fewer c.declared; earlier = early; owned = all_owned_well c.outline.made s.declarations c.work g.few c.declared w (declared_low s.parameters g.has_parameters g.has_audit s.declarations g.used g.declares c.outline.made c.work g.few c.declared).0; shallow = are_shallow s.parameters g.has_parameters g.has_audit s.declarations g.used g.declares c.outline.made c.work g.few c.declared; members = have_members c.work.made f.1; placed = all_placed c.outline.made s.declarations c.work c.declared; short = is_short s.parameters c.work.made c.made.short })

pub few_structures : (d : Described) → Structured d → IsTrue (nat_le (length d.structures) 200)
few_structures d h = le-leb (length d.structures) 200 h.order.few

pub few_counted_links : (d : Described) → Structured d → IsTrue (nat_le (total counted_in d.structures) 4000)
few_counted_links d h = le-leb (total counted_in d.structures) 4000 h.counted
