use Rattle.std.proofs.Common.{ℕ, ◌∙◌, List, subst, sym, inr, OnOk, IfErr}
use Rattle.std.specs.declared.result.Result.{Result}
use Rattle.std.specs.declared.result.Result.TheVariants.{Ok, Err}
use Rattle.dms_site.specs.Files.{Files}
use Rattle.dms_remote.specs.Shipping.{PrintsStream, PrintsStreamFirst}
use Rattle.dms_remote.specs.Shipment.{HasShipment}
use Rattle.dms_remote.proofs.Printing.{prints_on, prints_same}
use Rattle.dms_remote.proofs.Shipped.{late_kind, late_refuses}
use Rattle.dms_remote.proofs.shipping.ship.Goals as goal

on_ok : {T E P Q : Type 0} (r : Result T E) → OnOk r P → (P → Q) → OnOk r Q
on_ok (Ok x) p more = more p
on_ok (Err e) p more = tt

if_err : {T E : Type 0} {P Q : E → Type 0} (r : Result T E) → IfErr r P → ((e : E) → P e → Q e) → IfErr r Q
if_err (Ok x) p more = tt
if_err (Err e) p more = more e p

pub returns-clause-printed : goal.returns-clause-printed
returns-clause-printed g c =
    let s = c.in-Ok-find_shipment.shipment in
    let k = c.args.from in
    on_ok c.ship_stream.result c.ship_stream.ensures.printed (λ was tells told.
    let same = c.in-Ok-find_shipment.ensures.reads.files_stay tells ∙ c.in-Ok.ensures.files tells in
    let said = c.in-Ok-find_shipment.ensures.reads.text_stays ∙ c.in-Ok.ensures.said in
    let has = subst (λ (fs : Files). HasShipment k fs s.head s.total s.last s.count) (sym (c.in-Ok-find_shipment.ensures.reads.files_stay tells)) (c.in-Ok-find_shipment.ensures.found tells) in
    subst (λ (fs : Files). PrintsStream k fs (g.S.Site.said c.args.site.now) (g.S.Site.said c.ship_stream.new.site)) same
    (subst (λ (l : List ℕ). PrintsStream k (g.S.Site.files c.find_shipment.new.site) l (g.S.Site.said c.ship_stream.new.site)) said (was tells told has)))

pub returns-clause-part : goal.returns-clause-part
returns-clause-part g c = λ tells told.
    let s = c.in-Ok-find_shipment.shipment in
    let k = c.args.from in
    let same = c.in-Ok-find_shipment.ensures.reads.files_stay tells ∙ c.in-Ok.ensures.files tells in
    let said = c.in-Ok-find_shipment.ensures.reads.text_stays ∙ c.in-Ok.ensures.said in
    let has = subst (λ (fs : Files). HasShipment k fs s.head s.total s.last s.count) (sym (c.in-Ok-find_shipment.ensures.reads.files_stay tells)) (c.in-Ok-find_shipment.ensures.found tells) in
    inr (subst (λ (fs : Files). PrintsStreamFirst k fs (g.S.Site.said c.args.site.now) (g.S.Site.said c.ship_stream.new.site)) same
    (subst (λ (l : List ℕ). PrintsStreamFirst k (g.S.Site.files c.find_shipment.new.site) l (g.S.Site.said c.ship_stream.new.site)) said (c.ship_stream.ensures.part tells told has)))

pub returns-clause-refused : goal.returns-clause-refused
returns-clause-refused g c = if_err c.ship_stream.result c.ship_stream.ensures.late (λ e late tells. late_refuses c.args.from (g.S.Site.files c.args.site.now) e late)

pub returns-clause-kinds : goal.returns-clause-kinds
returns-clause-kinds g c = if_err c.ship_stream.result c.ship_stream.ensures.late late_kind

pub returns-clause-silent : goal.returns-clause-silent
returns-clause-silent g c = if_err c.ship_stream.result c.ship_stream.ensures.late (λ e late tells not_late. absurd (not_late late))

pub returns-clause-moments : goal.returns-clause-moments
returns-clause-moments g c = prints_on (prints_same _ _ c.sync.ensures.moments) (prints_on (prints_same _ _ c.find_shipment.ensures.reads.moments) c.ship_stream.ensures.moments)

pub returns-clause-same_site : goal.returns-clause-same_site
returns-clause-same_site g c = let then = g.met.S.Site.same_then in then _ _ _ (then _ _ _ c.sync.ensures.same_site c.find_shipment.ensures.same_site) c.ship_stream.ensures.same_site
