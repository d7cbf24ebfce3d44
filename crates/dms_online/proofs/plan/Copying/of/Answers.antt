use Rattle.std.proofs.Common.{◌+◌, ◌*◌, ◌<◌, ◌≡◌, ◌^◌, length, refl, ap, ◌∙◌, arith}
use Rattle.dms_dump.specs.Head.{all_blocks}
use Rattle.dms_dump.proofs.HeadRead.{size_is}
use Rattle.dms_restore.specs.Counts.{file_counts}
use Rattle.dms_online.specs.declared.plan.Copying.{Copying}
use Rattle.dms_online.specs.Plans.{head_of}
use Rattle.dms_online.proofs.Listed.{listed_blocks, listed_few, listed_rise}
use Rattle.dms_online.proofs.plan.Copying.of.Goals as goal

pub blocks_of-total-requires : goal.blocks_of-total-requires
blocks_of-total-requires g c =
    let marks = c.args.running.now.marks.items in
    record { few = listed_few marks c.requires.marked.table c.deref-2.result.now (c.deref-2.ensures.value ∙ c.in_ok-counts.ensures ∙ ap (file_counts 30001) c.deref.ensures.value) }

pub returns-clause-plan : goal.returns-clause-plan
returns-clause-plan g c =
    let r = c.args.running.now in
    let list = c.in_ok-counts.counts.items in
    let t = c.requires.marked.table in
    let are : list ≡ file_counts 30001 r.marks.items = c.in_ok-counts.ensures ∙ ap (file_counts 30001) c.deref.ensures.value in
    let few = listed_few r.marks.items t list are in
    let point : r.point < 2 ^ 64 = omega arith in
    let copy : Copying = record { tag = c.args.tag; point = r.point; audit = c.args.audit; counts = c.in_ok-counts.counts; front = 1 + c.front_size.result + 8 * c.len.result; total = c.blocks_of-total.result; done = 0; first_next = r.next } in
    let total : c.blocks_of-total.result ≡ all_blocks list = c.blocks_of-total.ensures.is ∙ ap all_blocks c.deref-2.ensures.value in
    let front : 1 + c.front_size.result + 8 * c.len.result ≡ 35 + 8 * length list = omega (arith, c.front_size.ensures.is, c.len.ensures) in
    record {
      plan = record {
        head = record { tag = omega (arith, c.ranges.tag.fits); point = point; audit = omega (arith, c.ranges.audit.fits); few = few; rising = listed_rise r.marks.items t list are; end = point };
        front = omega (arith, front, size_is (head_of copy r.point));
        total = total;
        room = omega (arith, front, few, total, listed_blocks r.marks.items t list are);
        within = omega arith;
      };
      point = refl;
      counts = are;
      none = refl;
      first = refl;
    }
