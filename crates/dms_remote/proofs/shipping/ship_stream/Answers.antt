use Rattle.std.proofs.Common.{ℕ, ◌≡◌, ◌∙◌, ◌++◌, ap, List, subst, refl}
use Rattle.dms_site.specs.Files.{Files}
use Rattle.dms_stream.specs.Stream.{Heading, records_bytes}
use Rattle.dms_remote.specs.Shipping.{blocks_on, PrintsFirst}
use Rattle.dms_remote.specs.Files.{EndsIn}
use Rattle.dms_remote.proofs.Blocks.{ends_in}
use Rattle.dms_remote.proofs.Printing.{first_taken, prints_on, prints_part}
use Rattle.dms_remote.proofs.Shipped.{stream_said, stream_head, stream_blocks, stream_end}
use Rattle.dms_remote.proofs.shipping.ship_stream.Goals as goal

pub returns-in-Err-clause-part : goal.returns-in-Err-clause-part
returns-in-Err-clause-part g c = λ tells told has.
    let s = c.args.shipment.now in
    let h : Heading = record { tag = has.tag; total = s.total; description = has.description } in
    record {
      bytes = _;
      stream = record { heading = h; last = s.last; count = s.count; ships = has.ships; is = refl };
      first = stream_head h c.args.from (blocks_on s.total s.last c.args.from (g.S.Site.files c.args.site.now)) s.head has.is _ _
          (subst (λ (l : List ℕ). PrintsFirst l (g.S.Site.said c.args.site.now) (g.S.Site.said c.say.new.self)) c.as_slice.ensures (first_taken _ _ _ (c.in-Err.ensures.some_said told)));
    }

pub returns-in-Err-ship_files-clause-part : goal.returns-in-Err-ship_files-clause-part
returns-in-Err-ship_files-clause-part g c = λ tells told has.
    let s = c.args.shipment.now in
    let k = c.args.from in
    let files = g.S.Site.files c.args.site.now in
    let h : Heading = record { tag = has.tag; total = s.total; description = has.description } in
    let ends = ends_in k files h s.last s.count has.ships in
    record {
      bytes = _;
      stream = record { heading = h; last = s.last; count = s.count; ships = has.ships; is = refl };
      first = stream_blocks h k (blocks_on s.total s.last k files) s.head has.is _ (g.S.Site.said c.say.new.self) _
          (c.in-Ok.ensures.said told ∙ ap (λ (l : List ℕ). g.S.Site.said c.args.site.now ++ l) c.as_slice.ensures)
          (subst (λ (fs : Files). EndsIn k s.total s.last s.count fs → PrintsFirst (records_bytes s.total k 1 (blocks_on s.total s.last k fs)) (g.S.Site.said c.say.new.self) (g.S.Site.said c.ship_files.new.site)) (c.in-Ok.ensures.files tells) (c.in-Err-ship_files.ensures.part tells told) ends);
    }

pub returns-in-Err-ship_files-clause-moments : goal.returns-in-Err-ship_files-clause-moments
returns-in-Err-ship_files-clause-moments g c = prints_on (prints_part _ c.say.ensures.moments) c.ship_files.ensures.moments

pub returns-in-Ok-say-clause-moments : goal.returns-in-Ok-say-clause-moments
returns-in-Ok-say-clause-moments g c = prints_on (prints_part _ c.say.ensures.moments) (prints_on c.ship_files.ensures.moments (prints_part _ c.say-2.ensures.moments))

pub returns-in-Err-say-clause-moments : goal.returns-in-Err-say-clause-moments
returns-in-Err-say-clause-moments g c = prints_on (prints_part _ c.say.ensures.moments) (prints_on c.ship_files.ensures.moments (prints_part _ c.say-2.ensures.moments))

pub returns-in-Ok-say-clause-printed : goal.returns-in-Ok-say-clause-printed
returns-in-Ok-say-clause-printed g c = λ tells told has.
    let s = c.args.shipment.now in
    let k = c.args.from in
    let files = g.S.Site.files c.args.site.now in
    let h : Heading = record { tag = has.tag; total = s.total; description = has.description } in
    let ends = ends_in k files h s.last s.count has.ships in
    record {
      bytes = _;
      stream = record { heading = h; last = s.last; count = s.count; ships = has.ships; is = refl };
      said = stream_said h k (blocks_on s.total s.last k files) s.head has.is _ (g.S.Site.said c.say.new.self) (g.S.Site.said c.ship_files.new.site) _
          (c.in-Ok.ensures.said told ∙ ap (λ (l : List ℕ). g.S.Site.said c.args.site.now ++ l) c.as_slice.ensures)
          (subst (λ (fs : Files). EndsIn k s.total s.last s.count fs → g.S.Site.said c.ship_files.new.site ≡ g.S.Site.said c.say.new.self ++ records_bytes s.total k 1 (blocks_on s.total s.last k fs)) (c.in-Ok.ensures.files tells) (c.in-Ok-ship_files.ensures.printed tells told) ends)
          (c.in-Ok-say.ensures.said told);
    }

pub returns-in-Ok-say-clause-part : goal.returns-in-Ok-say-clause-part
returns-in-Ok-say-clause-part g c = λ tells told has.
    let s = c.args.shipment.now in
    let k = c.args.from in
    let files = g.S.Site.files c.args.site.now in
    let h : Heading = record { tag = has.tag; total = s.total; description = has.description } in
    let ends = ends_in k files h s.last s.count has.ships in
    record {
      bytes = _;
      stream = record { heading = h; last = s.last; count = s.count; ships = has.ships; is = refl };
      first = stream_end h k (blocks_on s.total s.last k files) s.head has.is _ (g.S.Site.said c.say.new.self) (g.S.Site.said c.ship_files.new.site) _
          (c.in-Ok.ensures.said told ∙ ap (λ (l : List ℕ). g.S.Site.said c.args.site.now ++ l) c.as_slice.ensures)
          (subst (λ (fs : Files). EndsIn k s.total s.last s.count fs → g.S.Site.said c.ship_files.new.site ≡ g.S.Site.said c.say.new.self ++ records_bytes s.total k 1 (blocks_on s.total s.last k fs)) (c.in-Ok.ensures.files tells) (c.in-Ok-ship_files.ensures.printed tells told) ends)
          (first_taken _ _ _ (c.in-Ok-say.ensures.some_said told));
    }

pub returns-in-Err-say-clause-part : goal.returns-in-Err-say-clause-part
returns-in-Err-say-clause-part g c = λ tells told has.
    let s = c.args.shipment.now in
    let k = c.args.from in
    let files = g.S.Site.files c.args.site.now in
    let h : Heading = record { tag = has.tag; total = s.total; description = has.description } in
    let ends = ends_in k files h s.last s.count has.ships in
    record {
      bytes = _;
      stream = record { heading = h; last = s.last; count = s.count; ships = has.ships; is = refl };
      first = stream_end h k (blocks_on s.total s.last k files) s.head has.is _ (g.S.Site.said c.say.new.self) (g.S.Site.said c.ship_files.new.site) _
          (c.in-Ok.ensures.said told ∙ ap (λ (l : List ℕ). g.S.Site.said c.args.site.now ++ l) c.as_slice.ensures)
          (subst (λ (fs : Files). EndsIn k s.total s.last s.count fs → g.S.Site.said c.ship_files.new.site ≡ g.S.Site.said c.say.new.self ++ records_bytes s.total k 1 (blocks_on s.total s.last k fs)) (c.in-Ok.ensures.files tells) (c.in-Ok-ship_files.ensures.printed tells told) ends)
          (first_taken _ _ _ (c.in-Err-say.ensures.some_said told));
    }
