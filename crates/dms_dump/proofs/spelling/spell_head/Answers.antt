use Rattle.std.proofs.Common.{ℕ, ◌≡◌, ◌++◌, List, length, ap, ◌∙◌, take, rules}
use Rattle.std.specs.Int.{w16, w32, w64, to_be_bytes}
use Rattle.dms_audrec.specs.Spelling.{pair_bytes, count_file, count_blocks}
use Rattle.dms_dump.specs.Head.{Head, mark_bytes, end_bytes}
use Rattle.dms_dump.proofs.Spelled.{fields_are}
use Rattle.dms_dump.proofs.spelling.spell_head.Goals as goal

pub returns-clause-head : goal.returns-clause-head
returns-clause-head c =
    let h : Head = record { tag = c.args.tag; point = c.args.point; audit = c.args.audit; counts = c.args.counts.now; end = c.args.end } in
    let one : take c.add_mark-next.result c.add_mark-next.new.into ≡ mark_bytes c.args.end c.args.tag = c.add_mark-next.ensures.added in
    let two : take c.add_bytes-next.result c.add_bytes-next.new.into ≡ take c.add_mark-next.result c.add_mark-next.new.into ++ to_be_bytes w64 c.args.point = search rules in
    let end : take c.add_end-next.result c.add_end-next.new.into ≡ take c.add_bytes-next.result c.add_bytes-next.new.into ++ end_bytes c.args.end = c.add_end-next.ensures.added in
    let three : take c.add_bytes-next-2.result c.add_bytes-next-2.new.into ≡ take c.add_end-next.result c.add_end-next.new.into ++ to_be_bytes w32 c.args.audit = search rules in
    let four : take c.add_bytes-next-3.result c.add_bytes-next-3.new.into ≡ take c.add_bytes-next-2.result c.add_bytes-next-2.new.into ++ to_be_bytes w16 (length c.args.counts.now) = search rules in
    let p = to_be_bytes w64 h.point in
    let n = end_bytes h.end in
    let q = to_be_bytes w32 h.audit in
    let r = to_be_bytes w16 (length h.counts) in
    let l = pair_bytes count_file count_blocks h.counts in
    c.add_counts.ensures.added ∙ ap (λ (x : List ℕ). x ++ l) (four ∙ ap (λ (x : List ℕ). x ++ r) (three ∙ ap (λ (x : List ℕ). x ++ q) (end ∙ ap (λ (x : List ℕ). x ++ n) (two ∙ ap (λ (x : List ℕ). x ++ p) one)))) ∙ fields_are h
