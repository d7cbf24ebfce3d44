use Rattle.std.proofs.Common.{Bor, ◌≡◌, ◌∙◌, ap, subst, sym, take, length, min, refl, Option, Some}
use Rattle.std.specs.Option.{option_copied, option_map}
use Rattle.dms_block.specs.Content.{Content}
use Rattle.dms_block.specs.View.{ReadsOverlay, overlay_content, seen_counts, under}
use Rattle.dms_block.specs.ViewLaws.{counts_seen}
use Rattle.dms_desc.specs.Lookups.{structure_of}
use Rattle.dms_desc.specs.Shape.{Shape, as_described, shape_of}
use Rattle.dms_desc.specs.declared.structure.Structure.{Structure}
use Rattle.dms_model.specs.Fitting.{population_of}
use Rattle.dms_model.specs.Members.{last_member}
use Rattle.dms_desc.specs.Files.{file_of}
use Rattle.dms_slots.specs.SlotBlocks.{slots_of}
use Rattle.dms_store.specs.Finding.{causes_in, most_slots, seen_below, set_if}
use Rattle.dms_spelling.specs.ServingLaws.{served_at}
use Rattle.dms_store.specs.PathLaws.{last_seen, spots_fit, tells_ok}
use Rattle.dms_store.specs.Scans.{last_used, stop_of}
use Rattle.dms_store.specs.Undamaged.{not_set}
use Rattle.dms_store.proofs.finding.last_record.Goals as goal

pub returns-in-None-clause-found : goal.returns-in-None-clause-found
returns-in-None-clause-found g c =
    absurd (not_set (as_described c.args.desc.now) c.args.path (sym c.structure.ensures ∙ ap (λ (o : Option (Bor Structure)). option_map shape_of (option_copied o)) c.in-None.is) c.requires.path)

pub last_in-requires-clause-few : goal.last_in-requires-clause-few
last_in-requires-clause-few g c =
    let at : structure_of (as_described c.args.desc.now) c.args.path ≡ Some (shape_of c.in-Some.s.now) = sym c.structure.ensures ∙ ap (λ (o : Option (Bor Structure)). option_map shape_of (option_copied o)) c.in-Some.is in
    (served_at (as_described c.args.desc.now) c.args.path (shape_of c.in-Some.s.now) c.requires.usable.serves.served at).few

pub last_in-requires-clause-fits : goal.last_in-requires-clause-fits
last_in-requires-clause-fits g c =
    let at : structure_of (as_described c.args.desc.now) c.args.path ≡ Some (shape_of c.in-Some.s.now) = sym c.structure.ensures ∙ ap (λ (o : Option (Bor Structure)). option_map shape_of (option_copied o)) c.in-Some.is in
    (served_at (as_described c.args.desc.now) c.args.path (shape_of c.in-Some.s.now) c.requires.usable.serves.served at).fits

pub returns-in-Some-clause-found : goal.returns-in-Some-clause-found
returns-in-Some-clause-found g c =
    let desc = as_described c.args.desc.now in
    let o = c.args.over.now in
    let s = shape_of c.in-Some.s.now in
    let at : structure_of desc c.args.path ≡ Some s = sym c.structure.ensures ∙ ap (λ (o : Option (Bor Structure)). option_map shape_of (option_copied o)) c.in-Some.is in
    let same : overlay_content o ≡ (under o).content = seen_below o c.requires.usable.none in
    let n = seen_counts o (file_of s.number) in
    let j = min (stop_of c.args.to.now (most_slots s o)) (most_slots s o) in
    tells_ok (under o).told desc (under o).content (λ d. last_member desc d c.args.path c.args.owner c.args.to.now)
    (last_used c.args.owner 1 (take j (slots_of s (overlay_content o (file_of s.number))))) c.last_in.result c.last_in.ensures.found
    (λ told spelt.
    let counted : n ≡ length ((under o).content (file_of s.number)) =
    counts_seen o (g.met.B.Blocks.agrees o.below c.requires.usable.sound) told (file_of s.number) ∙ ap (λ (x : Content). length (x (file_of s.number))) same in
    ap (λ (x : Content). last_used c.args.owner 1 (take j (slots_of s (x (file_of s.number))))) same
    ∙ last_seen desc c.args.path s c.requires.usable.serves.served at (set_if desc c.args.path s at c.requires.path) (under o).content spelt c.args.owner c.args.to.now n j counted refl)

pub returns-in-Some-clause-fits : goal.returns-in-Some-clause-fits
returns-in-Some-clause-fits g c =
    let desc = as_described c.args.desc.now in
    let s = shape_of c.in-Some.s.now in
    let at : structure_of desc c.args.path ≡ Some s = sym c.structure.ensures ∙ ap (λ (o : Option (Bor Structure)). option_map shape_of (option_copied o)) c.in-Some.is in
    spots_fit desc c.args.path s c.requires.usable.serves.served at (set_if desc c.args.path s at c.requires.path) c.last_in.result c.last_in.ensures.fits

pub returns-in-Some-clause-reads : goal.returns-in-Some-clause-reads
returns-in-Some-clause-reads g c =
    let at : structure_of (as_described c.args.desc.now) c.args.path ≡ Some (shape_of c.in-Some.s.now) = sym c.structure.ensures ∙ ap (λ (o : Option (Bor Structure)). option_map shape_of (option_copied o)) c.in-Some.is in
    subst (λ (x : Option Shape). ReadsOverlay (population_of x) c.last_in.result c.args.over.now c.last_in.new.over) (sym at) c.last_in.ensures.reads

pub returns-in-Some-clause-causes : goal.returns-in-Some-clause-causes
returns-in-Some-clause-causes g c =
    let at : structure_of (as_described c.args.desc.now) c.args.path ≡ Some (shape_of c.in-Some.s.now) = sym c.structure.ensures ∙ ap (λ (o : Option (Bor Structure)). option_map shape_of (option_copied o)) c.in-Some.is in
    causes_in (as_described c.args.desc.now) c.args.path (shape_of c.in-Some.s.now) c.args.over.now c.last_in.new.over c.last_in.result at c.last_in.ensures.causes
