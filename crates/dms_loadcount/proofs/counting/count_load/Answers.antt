use Rattle.std.proofs.Common.{rules, ◌≡◌, ◌+◌, ◌≤◌, ◌∙◌, Some, Err, ℕ, List, [], ap, sym, subst, refl, arith}
use Rattle.dms_desc.specs.Shape.{Described, as_described}
use Rattle.dms_load.specs.Script.{load_script}
use Rattle.dms_loadcount.specs.Answers.{HoldsTooMany, load_left, load_lines}
use Rattle.dms_loadcount.specs.Counted.{CountsLoad, CountsText}
use Rattle.dms_loadcount.proofs.Counts.{begins, counts, fault_is, holds_too_many, remains}
use Rattle.dms_model.specs.Db.{Db, empty_db}
use Rattle.dms_plain.specs.Rows.{db_of, records_in}
use Rattle.dms_plain.specs.Told.{text_if}
use Rattle.dms_loadcount.proofs.counting.count_load.Goals as goal

pub summary_of-requires : goal.summary_of-requires
summary_of-requires c =
    let old = c.in-Ok-new-2.engine in
    let stands = begins _ _ c.in-Ok-new.ensures.starts.next_is (c.in-Ok-new-2.ensures.stands empty_db c.in-Ok-new.ensures.starts.db_is) in
    let left = remains _ _ (load_script c.args.seed c.args.n) c.new-feed.ensures c.new-source.ensures.left in
    let ran = c.in-Ok-ran.ensures.ran empty_db 1 (load_script c.args.seed c.args.n) stands (omega arith) left in
    let first : old.store.next ≡ 1 = ap (λ x. x.next) c.in-Ok-new-2.ensures.store ∙ c.in-Ok-new.ensures.starts.next_is in
    let last : c.into_store-store.result.next ≡ c.run_lines-ran.new.engine.store.next = ap (λ x. x.next) c.into_store-store.ensures in
    omega (arith, ran.next, first, last)

pub returns-in-Ok-ran-clause-counts : goal.returns-in-Ok-ran-clause-counts
returns-in-Ok-ran-clause-counts c =
    let old = c.in-Ok-new-2.engine in
    let new = c.run_lines-ran.new.engine in
    let d = as_described old.desc in
    let stands = begins _ _ c.in-Ok-new.ensures.starts.next_is (c.in-Ok-new-2.ensures.stands empty_db c.in-Ok-new.ensures.starts.db_is) in
    let left = remains _ _ (load_script c.args.seed c.args.n) c.new-feed.ensures c.new-source.ensures.left in
    let ran = c.in-Ok-ran.ensures.ran empty_db 1 (load_script c.args.seed c.args.n) stands (omega arith) left in
    let ended = c.in-Ok-ran.ensures.ended empty_db 1 (load_script c.args.seed c.args.n) stands (omega arith) left in
    let whole = c.in-Ok-ran.ensures.answers empty_db 1 (load_script c.args.seed c.args.n) stands (omega arith) left in
    subst (λ (x : Described). CountsLoad x c.args.seed c.args.n c.summary_of.result) c.in-Ok-new-2.ensures.described
    (counts d c.args.seed c.args.n c.summary_of.result new.store.site.journal.image.said.items (Some old.store.site.journal.image.said.items) old.store.next new.store.next
    (subst (λ x. CountsText (c.args.n + 4) (Some x.site.journal.image.said.items) c.summary_of.result) c.into_store-store.ensures c.summary_of.ensures.text)
    (ap (λ x. Some x.site.journal.image.said.items) c.in-Ok-new-2.ensures.store ∙ c.in-Ok-new.ensures.said ∙ ap (λ (l : List ℕ). Some l) c.in-Ok.ensures.said)
    whole
    (c.in-Ok-ran.ensures.fits (load_script c.args.seed c.args.n) left)
    (c.summary_of.ensures.quiets ∙ ap (λ x. x.next) c.into_store-store.ensures)
    (ap (λ x. x.next) c.in-Ok-new-2.ensures.store ∙ c.in-Ok-new.ensures.starts.next_is)
    ran.next
    ran.next_high
    (c.summary_of.ensures.records (load_left d c.args.seed c.args.n)
    (ap (λ x. Some (db_of (records_in x.rows.items) x.manual.entries)) c.into_store-store.ensures ∙ ended.db ∙ ap (λ (db : Db). Some db) (c.left_law.ensures d empty_db 1 (load_lines c.args.seed c.args.n)))))

pub returns-in-Err-ran-clause-held : goal.returns-in-Err-ran-clause-held
returns-in-Err-ran-clause-held c = λ is.
    let old = c.in-Ok-new-2.engine in
    let d = as_described old.desc in
    let stands = begins _ _ c.in-Ok-new.ensures.starts.next_is (c.in-Ok-new-2.ensures.stands empty_db c.in-Ok-new.ensures.starts.db_is) in
    let left = remains _ _ (load_script c.args.seed c.args.n) c.new-feed.ensures c.new-source.ensures.left in
    let carried = c.in-Err-ran.ensures.carried empty_db 1 (load_script c.args.seed c.args.n) stands (omega arith) left in
    subst (λ (x : Described). HoldsTooMany x c.args.seed c.args.n) c.in-Ok-new-2.ensures.described
    (holds_too_many d c.args.seed c.args.n _ _ (carried.full_list (ap Err (c.fault_of.ensures (fault_is _ _ is)))).0)
