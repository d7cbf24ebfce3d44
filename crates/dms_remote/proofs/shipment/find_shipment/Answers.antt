use Rattle.std.proofs.Common.{ℕ, ◌+◌, ◌-◌, ◌≡◌, ◌∙◌, ap, sym, subst, inr, arith, List}
use Rattle.dms_site.specs.Files.{Files}
use Rattle.dms_audfile.specs.Sealing.{IsWrittenUpTo}
use Rattle.dms_stream.specs.Stream.{head_bytes}
use Rattle.dms_remote.specs.Shipment.{SaysDescription, GivesNone}
use Rattle.dms_remote.proofs.Shipped.{none_refuses}
use Rattle.dms_remote.proofs.shipment.find_shipment.Goals as goal

pub returns-then-from-scan-clause-refused : goal.returns-then-from-scan-clause-refused
returns-then-from-scan-clause-refused g c = λ tells.
    let f = c.in-Ok.ensures.found tells in
    let at : c.in-Ok.scan.first ≡ 10001 + (c.in-Ok.scan.first - 10001) = omega (arith, c.in-Ok.ensures.bounds) in
    inr (record { entries = f.entries; trail = f.trail; first_is = f.first_is ∙ at; behind = omega (arith, c.if-from-scan.true) })

pub returns-in-Err-description_bytes-clause-refused : goal.returns-in-Err-description_bytes-clause-refused
returns-in-Err-description_bytes-clause-refused g c = λ tells.
    let f = c.in-Ok.ensures.found tells in
    none_refuses c.args.from (g.S.Site.files c.args.site.now) c.in-Err-description_bytes.fault f.trail.database
    (subst (λ (fs : Files). GivesNone (fs 1) c.in-Err-description_bytes.fault) (c.in-Ok.ensures.reads.files_stay tells) (c.in-Err-description_bytes.ensures.none tells))

pub returns-in-Ok-head_text-clause-found : goal.returns-in-Ok-head_text-clause-found
returns-in-Ok-head_text-clause-found g c = λ tells.
    let f = c.in-Ok.ensures.found tells in
    let r = c.in-Ok.scan.reach in
    let said = subst (λ (fs : Files). SaysDescription (fs 1) c.in-Ok-description_bytes.bytes) (c.in-Ok.ensures.reads.files_stay tells) (c.in-Ok-description_bytes.ensures.said tells) in
    record {
      tag = r.tag;
      description = c.in-Ok-description_bytes.bytes;
      ships = record {
        desc = said.desc;
        described = said.described;
        says = said.is;
        entries = f.entries;
        trail = f.trail;
        writes = subst (λ (n : ℕ). IsWrittenUpTo r.total r.tag n r.file r.count (g.S.Site.files c.args.site.now)) (sym f.first_is) (c.in-Ok.ensures.writes tells);
        within = omega (arith, f.first_is, c.if-from-scan.false);
      };
      is = c.in-Ok-head_text.ensures ∙ ap (λ (l : List ℕ). head_bytes (record { tag = r.tag; total = r.total; description = l })) c.as_slice.ensures;
    }
