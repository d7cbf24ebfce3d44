use Rattle.std.proofs.Common.{◌∙◌, Option, Some, inr, refl, subst, sym}
use Rattle.std.specs.FinMap.{get}
use Rattle.dms_block.specs.View.{under}
use Rattle.dms_desc.specs.declared.record.Record.{Record}
use Rattle.dms_desc.specs.Shape.{as_described, shape_of}
use Rattle.dms_model.specs.declared.spot.Spot.{Spot}
use Rattle.dms_model.specs.Fitting.{IsNumber, RecordFits, SpotFits}
use Rattle.dms_model.specs.Stores.{TellsOf}
use Rattle.dms_sets.specs.Finds.{spot_by}
use Rattle.dms_store.specs.Lifted.{db_of}
use Rattle.dms_spelling.specs.ServingLaws.{set_at}
use Rattle.dms_store.proofs.Standing.{member_fits, own_told, other_told, same_false, same_true, small_number, strange, told_of}
use Rattle.dms_store.proofs.entries.member_at.Goals as goal

pub get-requires-clause-set : goal.get-requires-clause-set
get-requires-clause-set g c = (set_at (as_described c.args.desc.now) c.args.s.now.number (shape_of c.args.s.now) c.requires.usable.serves.served c.requires.there c.requires.kept).data_set

pub returns-then-not-branch-clause-causes : goal.returns-then-not-branch-clause-causes
returns-then-not-branch-clause-causes g c =
    let desc = as_described c.args.desc.now in
    let o = c.args.over.now in
    let s = shape_of c.args.s.now in
    let n = c.number_in-number.result in
    let db = db_of desc (under o).told (under o).content in
    let rec : Record = c.in-Some.rec in
    let found : TellsOf {T = Option Record} db (λ e. get e.records (s.set, n)) (Some rec) = rw c.in-Some.is at c.in_ok-get.ensures.found in
    inr (
      c.in_ok-get.ensures.causes,
      inr (
        c.file_of-then-not-branch.ensures,
        refl,
        λ d told stands.
            strange desc s c.requires.kept c.args.found.now n c.number_in-number.ensures d c.args.kinds.now rec c.requires.kinds (told_of db d (λ e. get e.records (s.set, n)) (Some rec) told found)
            (sym c.in_ok-is_entry-in-Some.ensures ∙ c.if-not-branch.true) stands,
      ),
    )

pub returns-in_ok-spot-in-Some-clause-found : goal.returns-in_ok-spot-in-Some-clause-found
returns-in_ok-spot-in-Some-clause-found g c =
    let desc = as_described c.args.desc.now in
    let o = c.args.over.now in
    let s = shape_of c.args.s.now in
    let n = c.number_in-number.result in
    let db = db_of desc (under o).told (under o).content in
    let rec : Record = c.in-Some.rec in
    let found : TellsOf {T = Option Record} db (λ e. get e.records (s.set, n)) (Some rec) = rw c.in-Some.is at c.in_ok-get.ensures.found in
    let number : IsNumber desc s.set n = rw c.in-Some.is at c.in_ok-get.ensures.number in
    let fits : RecordFits desc s.set rec = rw c.in-Some.is at c.in_ok-get.ensures.fits in
    subst (λ (x : Spot). TellsOf {T = Option Spot} db (λ d. spot_by s d c.args.owner (Some c.args.found.now)) (Some x)) (sym c.in_ok-spot-in-Some.ensures)
    (own_told c.args.kinds.now s c.requires.kept db c.args.owner n rec c.args.found.now found (sym c.in_ok-is_entry-in-Some.ensures ∙ c.if-not-branch.false) (small_number desc s.set n c.requires.usable.serves.served number) c.requires.owner fits.owner
    (same_true c.args.owner rec.owner c.if-owner-rec.false))

pub returns-then-owner-rec-clause-found : goal.returns-then-owner-rec-clause-found
returns-then-owner-rec-clause-found g c =
    let desc = as_described c.args.desc.now in
    let o = c.args.over.now in
    let s = shape_of c.args.s.now in
    let n = c.number_in-number.result in
    let db = db_of desc (under o).told (under o).content in
    let rec : Record = c.in-Some.rec in
    let found : TellsOf {T = Option Record} db (λ e. get e.records (s.set, n)) (Some rec) = rw c.in-Some.is at c.in_ok-get.ensures.found in
    let number : IsNumber desc s.set n = rw c.in-Some.is at c.in_ok-get.ensures.number in
    let fits : RecordFits desc s.set rec = rw c.in-Some.is at c.in_ok-get.ensures.fits in
    other_told c.args.kinds.now s c.requires.kept db c.args.owner n rec c.args.found.now found (sym c.in_ok-is_entry-in-Some.ensures ∙ c.if-not-branch.false) (small_number desc s.set n c.requires.usable.serves.served number) c.requires.owner fits.owner
    (same_false c.args.owner rec.owner c.if-owner-rec.true)

pub returns-in_ok-spot-in-Some-clause-fits : goal.returns-in_ok-spot-in-Some-clause-fits
returns-in_ok-spot-in-Some-clause-fits g c =
    let desc = as_described c.args.desc.now in
    let s = shape_of c.args.s.now in
    let n = c.number_in-number.result in
    let rec : Record = c.in-Some.rec in
    let number : IsNumber desc s.set n = rw c.in-Some.is at c.in_ok-get.ensures.number in
    let fits : RecordFits desc s.set rec = rw c.in-Some.is at c.in_ok-get.ensures.fits in
    subst (λ (x : Spot). SpotFits desc c.args.s.now.number x) (sym c.in_ok-spot-in-Some.ensures) (member_fits desc c.args.s.now.number s n rec c.requires.there c.requires.kept number fits)
