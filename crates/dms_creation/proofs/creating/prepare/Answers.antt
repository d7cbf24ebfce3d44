use Rattle.std.proofs.Common.{◌∙◌, ap, sym, subst, arith}
use Rattle.std.proofs.lemmas.Result.{on_ok_weaker}
use Rattle.dms_site.specs.Files.{Files}
use Rattle.dms_audrec.specs.Spelling.{IsControl}
use Rattle.dms_creation.specs.Clearing.{IsClear, ApartStay}
use Rattle.dms_audfile.proofs.Ended.{on_both}
use Rattle.dms_creation.proofs.Cleared.{keeps_then, keeps_same}
use Rattle.dms_creation.proofs.Parts.{zero_control, counts_read, counts_size}
use Rattle.dms_creation.proofs.Making.{ready_of}
use Rattle.dms_creation.proofs.creating.prepare.Goals as goal

pub lay_trail-requires-clause-control : goal.lay_trail-requires-clause-control
lay_trail-requires-clause-control g c =
    let r = c.requires.structures in
    subst (IsControl 0 1) (sym (counts_read r.0 c.as_slice-2.result.now r.1 (c.as_slice-2.ensures ∙ r.2))) (zero_control r.0 r.1)

pub lay_trail-requires-clause-size : goal.lay_trail-requires-clause-size
lay_trail-requires-clause-size g c =
    let r = c.requires.structures in
    omega (arith, r.1, counts_size r.0 c.as_slice-2.result.now (c.as_slice-2.ensures ∙ r.2))

pub returns-clause-moments : goal.returns-clause-moments
returns-clause-moments g c tells =
    let clear : IsClear (g.S.Site.files c.sync.new.self) = subst (λ (l : Files). IsClear l) (sym (c.in_ok-sync.ensures.files tells)) (c.in_ok-clear_old.ensures.clear tells) in
    keeps_then (keeps_then c.clear_old.ensures.moments (keeps_same c.sync.ensures.moments)) (c.lay_trail.ensures.moments tells clear)

pub returns-clause-ready : goal.returns-clause-ready
returns-clause-ready g c = on_ok_weaker c.lay_trail.result (λ both tells d p.
    let r = c.requires.structures in
    let clear : IsClear (g.S.Site.files c.sync.new.self) = subst (λ (l : Files). IsClear l) (sym (c.in_ok-sync.ensures.files tells)) (c.in_ok-clear_old.ensures.clear tells) in
    let stay : ApartStay (g.S.Site.files c.args.site.now) (g.S.Site.files c.lay_trail.new.site) = λ h a. both.1 tells clear h a ∙ ap (λ (l : Files). l h) (c.in_ok-sync.ensures.files tells) ∙ c.in_ok-clear_old.ensures.apart tells h a in
    ready_of _ _ r.0 c.as_slice.result.now c.as_slice-2.result.now _ d _ r.1 (c.as_slice-2.ensures ∙ r.2) p.total (c.as_slice.ensures ∙ p.bytes) (c.as_slice-2.ensures ∙ p.counts) stay (both.0 tells clear))
    (on_both c.lay_trail.result _ _ c.lay_trail.ensures.stands c.lay_trail.ensures.apart)
