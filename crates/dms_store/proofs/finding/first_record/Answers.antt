use Rattle.std.proofs.Common.{Bor, ◌≡◌, ◌∙◌, ap, subst, sym, take, Option, Some}
use Rattle.std.specs.Option.{option_copied, option_map}
use Rattle.dms_block.specs.Content.{Content}
use Rattle.dms_block.specs.View.{ReadsOverlay, overlay_content, under}
use Rattle.dms_desc.specs.Lookups.{structure_of}
use Rattle.dms_desc.specs.Shape.{Shape, as_described, shape_of}
use Rattle.dms_desc.specs.declared.structure.Structure.{Structure}
use Rattle.dms_model.specs.Fitting.{population_of}
use Rattle.dms_model.specs.Members.{first_member}
use Rattle.dms_desc.specs.Files.{file_of}
use Rattle.dms_slots.specs.SlotBlocks.{slots_of}
use Rattle.dms_store.specs.Finding.{causes_in, seen_below, set_if}
use Rattle.dms_spelling.specs.ServingLaws.{served_at}
use Rattle.dms_store.specs.PathLaws.{first_seen, spots_fit, tells_ok}
use Rattle.dms_store.specs.Scans.{first_by, start_of}
use Rattle.dms_store.specs.Undamaged.{not_set}
use Rattle.dms_store.proofs.finding.first_record.Goals as goal

pub returns-in-None-clause-found : goal.returns-in-None-clause-found
returns-in-None-clause-found g c =
    absurd (not_set (as_described c.args.desc.now) c.args.path (sym c.structure.ensures ∙ ap (λ (o : Option (Bor Structure)). option_map shape_of (option_copied o)) c.in-None.is) c.requires.path)

pub first_in-requires-clause-few : goal.first_in-requires-clause-few
first_in-requires-clause-few g c =
    let at : structure_of (as_described c.args.desc.now) c.args.path ≡ Some (shape_of c.in-Some.s.now) = sym c.structure.ensures ∙ ap (λ (o : Option (Bor Structure)). option_map shape_of (option_copied o)) c.in-Some.is in
    (served_at (as_described c.args.desc.now) c.args.path (shape_of c.in-Some.s.now) c.requires.usable.serves.served at).few

pub first_in-requires-clause-fits : goal.first_in-requires-clause-fits
first_in-requires-clause-fits g c =
    let at : structure_of (as_described c.args.desc.now) c.args.path ≡ Some (shape_of c.in-Some.s.now) = sym c.structure.ensures ∙ ap (λ (o : Option (Bor Structure)). option_map shape_of (option_copied o)) c.in-Some.is in
    (served_at (as_described c.args.desc.now) c.args.path (shape_of c.in-Some.s.now) c.requires.usable.serves.served at).fits

pub returns-in-Some-clause-found : goal.returns-in-Some-clause-found
returns-in-Some-clause-found g c =
    let desc = as_described c.args.desc.now in
    let o = c.args.over.now in
    let s = shape_of c.in-Some.s.now in
    let at : structure_of desc c.args.path ≡ Some s = sym c.structure.ensures ∙ ap (λ (o : Option (Bor Structure)). option_map shape_of (option_copied o)) c.in-Some.is in
    let same : overlay_content o ≡ (under o).content = seen_below o c.requires.usable.none in
    tells_ok (under o).told desc (under o).content (λ d. first_member desc d c.args.path c.args.owner c.args.from.now)
    (first_by c.args.owner (start_of c.args.from.now) (take s.population (slots_of s (overlay_content o (file_of s.number))))) c.first_in.result c.first_in.ensures.found
    (λ told spelt.
    ap (λ (x : Content). first_by c.args.owner (start_of c.args.from.now) (take s.population (slots_of s (x (file_of s.number))))) same
    ∙ first_seen desc c.args.path s c.requires.usable.serves.served at (set_if desc c.args.path s at c.requires.path) (under o).content spelt c.args.owner c.args.from.now)

pub returns-in-Some-clause-fits : goal.returns-in-Some-clause-fits
returns-in-Some-clause-fits g c =
    let desc = as_described c.args.desc.now in
    let s = shape_of c.in-Some.s.now in
    let at : structure_of desc c.args.path ≡ Some s = sym c.structure.ensures ∙ ap (λ (o : Option (Bor Structure)). option_map shape_of (option_copied o)) c.in-Some.is in
    spots_fit desc c.args.path s c.requires.usable.serves.served at (set_if desc c.args.path s at c.requires.path) c.first_in.result c.first_in.ensures.fits

pub returns-in-Some-clause-reads : goal.returns-in-Some-clause-reads
returns-in-Some-clause-reads g c =
    let at : structure_of (as_described c.args.desc.now) c.args.path ≡ Some (shape_of c.in-Some.s.now) = sym c.structure.ensures ∙ ap (λ (o : Option (Bor Structure)). option_map shape_of (option_copied o)) c.in-Some.is in
    subst (λ (x : Option Shape). ReadsOverlay (population_of x) c.first_in.result c.args.over.now c.first_in.new.over) (sym at) c.first_in.ensures.reads

pub returns-in-Some-clause-causes : goal.returns-in-Some-clause-causes
returns-in-Some-clause-causes g c =
    let at : structure_of (as_described c.args.desc.now) c.args.path ≡ Some (shape_of c.in-Some.s.now) = sym c.structure.ensures ∙ ap (λ (o : Option (Bor Structure)). option_map shape_of (option_copied o)) c.in-Some.is in
    causes_in (as_described c.args.desc.now) c.args.path (shape_of c.in-Some.s.now) c.args.over.now c.first_in.new.over c.first_in.result at c.first_in.ensures.causes
