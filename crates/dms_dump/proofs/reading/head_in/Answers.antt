use Rattle.std.specs.Prelude.{◌/◌, option_map}
use Rattle.std.proofs.Common.{ℕ, ◌≡◌, ◌≢◌, ◌<◌, ◌+◌, ◌*◌, ◌∙◌, refl, sym, ap, length, drop, get_or, List, Option, Some, None, arith, true, rules}
use Rattle.dms_history.specs.declared.event.FileCount.{FileCount}
use Rattle.dms_audrec.specs.Spelling.{counts_rise}
use Rattle.dms_audrec.specs.Reading.{counts_at}
use Rattle.dms_dump.specs.Head.{Head, head_first, head_size, all_blocks}
use Rattle.dms_dump.proofs.HeadRead.{front_few}
use Rattle.dms_dump.proofs.Heads.{rise_200, none_read, shut_read, no_head_read, short_head, whole_read, to_end}
use Rattle.dms_dump.proofs.reading.head_in.Goals as goal

pub returns-then-is_empty-clause-refused : goal.returns-then-is_empty-clause-refused
returns-then-is_empty-clause-refused c file size is =
    let none : length c.args.front.now ≡ 0 = search rules in
    (refl, none_read c.args.front.now file is none)

pub returns-then-front-ne1-clause-refused : goal.returns-then-front-ne1-clause-refused
returns-then-front-ne1-clause-refused c file size is =
    let some : 0 < length c.args.front.now = search rules in
    let other : get_or c.args.front.now 0 0 ≢ 1 = search rules in
    (refl, shut_read c.args.front.now file is some other)

pub returns-in_default-clause-refused : goal.returns-in_default-clause-refused
returns-in_default-clause-refused c file size is =
    let some : 0 < length c.args.front.now = search rules in
    let one : get_or c.args.front.now 0 0 ≡ 1 = search rules in
    let none : (let x : Option Head = None in x) ≡ option_map (λ (x : Head × List ℕ). x.0) (head_first (drop 1 c.args.front.now)) = c.in_default.ensures.head ∙ ap (λ (l : List ℕ). option_map (λ (x : Head × List ℕ). x.0) (head_first l)) (to_end c.args.front.now) in
    (ap (λ k. 20000 + k) c.from.ensures, refl, no_head_read c.args.front.now file is some one none)

pub size_of-requires : goal.size_of-requires
size_of-requires c =
    let rises : counts_rise 30001 c.in-Ok.counts.items ≡ true = ap (λ (l : List FileCount). counts_rise 30001 l) c.in-Ok.ensures ∙ c.in-Some.ensures.rising in
    omega (arith, c.len.ensures, rise_200 c.in-Ok.counts.items rises)

pub total_blocks-requires : goal.total_blocks-requires
total_blocks-requires c =
    let rises : counts_rise 30001 c.in-Ok.counts.items ≡ true = ap (λ (l : List FileCount). counts_rise 30001 l) c.in-Ok.ensures ∙ c.in-Some.ensures.rising in
    record { few = omega (arith, ap length c.deref.ensures.value, rise_200 c.in-Ok.counts.items rises) }

pub overflow_mul-total_blocks : goal.overflow_mul-total_blocks
overflow_mul-total_blocks c =
    let rises : counts_rise 30001 c.in-Ok.counts.items ≡ true = ap (λ (l : List FileCount). counts_rise 30001 l) c.in-Ok.ensures ∙ c.in-Some.ensures.rising in
    omega (arith, c.total_blocks.ensures.small, ap length c.deref.ensures.value, rise_200 c.in-Ok.counts.items rises)

pub overflow_add-size_of-2 : goal.overflow_add-size_of-2
overflow_add-size_of-2 c =
    let rises : counts_rise 30001 c.in-Ok.counts.items ≡ true = ap (λ (l : List FileCount). counts_rise 30001 l) c.in-Ok.ensures ∙ c.in-Some.ensures.rising in
    omega (arith, c.total_blocks.ensures.small, ap length c.deref.ensures.value, rise_200 c.in-Ok.counts.items rises, c.size_of.ensures, front_few c.in-Some.head.end c.in-Some.head.tag, c.len.ensures)

pub returns-then-size-size_of-clause-refused : goal.returns-then-size-size_of-clause-refused
returns-then-size-size_of-clause-refused c file size is =
    let some : 0 < length c.args.front.now = search rules in
    let one : get_or c.args.front.now 0 0 ≡ 1 = search rules in
    let a : Head = record { tag = c.in-Some.head.tag; point = c.in-Some.head.point; audit = c.in-Some.head.audit; counts = counts_at (length c.in-Some.head.list.now / 8) c.in-Some.head.list.now; end = c.in-Some.head.end } in
    let h : Head = record { tag = c.in-Some.head.tag; point = c.in-Some.head.point; audit = c.in-Some.head.audit; counts = c.in-Ok.counts.items; end = c.in-Some.head.end } in
    let found : Some a ≡ option_map (λ (x : Head × List ℕ). x.0) (head_first (drop 1 c.args.front.now)) = c.in-Some.ensures.head ∙ ap (λ (l : List ℕ). option_map (λ (x : Head × List ℕ). x.0) (head_first l)) (to_end c.args.front.now) in
    let same : a ≡ h = λ i. record { tag = c.in-Some.head.tag; point = c.in-Some.head.point; audit = c.in-Some.head.audit; counts = sym c.in-Ok.ensures i; end = c.in-Some.head.end } in
    let blocks : c.total_blocks.result ≡ all_blocks c.in-Ok.counts.items = c.total_blocks.ensures.is ∙ ap (λ (l : List FileCount). all_blocks l) c.deref.ensures.value in
    let other : c.args.size ≢ 1 + head_size h + 1024 * all_blocks h.counts = λ e. c.if-size-size_of.true (omega (arith, e, c.size_of.ensures, c.len.ensures, blocks)) in
    (ap (λ k. 20000 + k) c.from-then-size-size_of.ensures, refl, short_head c.args.front.now file is a h c.args.size some one found same size other)

pub returns-clause-fit : goal.returns-clause-fit
returns-clause-fit c =
    let rises : counts_rise 30001 c.in-Ok.counts.items ≡ true = ap (λ (l : List FileCount). counts_rise 30001 l) c.in-Ok.ensures ∙ c.in-Some.ensures.rising in
    (rises, rise_200 c.in-Ok.counts.items rises)

pub returns-clause-found : goal.returns-clause-found
returns-clause-found c file size is =
    let some : 0 < length c.args.front.now = search rules in
    let one : get_or c.args.front.now 0 0 ≡ 1 = search rules in
    let a : Head = record { tag = c.in-Some.head.tag; point = c.in-Some.head.point; audit = c.in-Some.head.audit; counts = counts_at (length c.in-Some.head.list.now / 8) c.in-Some.head.list.now; end = c.in-Some.head.end } in
    let h : Head = record { tag = c.in-Some.head.tag; point = c.in-Some.head.point; audit = c.in-Some.head.audit; counts = c.in-Ok.counts.items; end = c.in-Some.head.end } in
    let found : Some a ≡ option_map (λ (x : Head × List ℕ). x.0) (head_first (drop 1 c.args.front.now)) = c.in-Some.ensures.head ∙ ap (λ (l : List ℕ). option_map (λ (x : Head × List ℕ). x.0) (head_first l)) (to_end c.args.front.now) in
    let same : a ≡ h = λ i. record { tag = c.in-Some.head.tag; point = c.in-Some.head.point; audit = c.in-Some.head.audit; counts = sym c.in-Ok.ensures i; end = c.in-Some.head.end } in
    let blocks : c.total_blocks.result ≡ all_blocks c.in-Ok.counts.items = c.total_blocks.ensures.is ∙ ap (λ (l : List FileCount). all_blocks l) c.deref.ensures.value in
    let equal : c.args.size ≡ 1 + head_size h + 1024 * all_blocks h.counts = omega (arith, c.if-size-size_of.false, c.size_of.ensures, c.len.ensures, blocks) in
    whole_read c.args.front.now file is a h c.args.size some one found same size equal
