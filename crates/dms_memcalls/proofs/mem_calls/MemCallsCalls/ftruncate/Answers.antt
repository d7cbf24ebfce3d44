use Rattle.std.proofs.Common.{List, ℕ, ap, inl, refl, length, arith}
use Rattle.std.proofs.lemmas.Result.{on_ok_weaker}
use Rattle.dms_site.specs.Files.{Cut, Torn}
use Rattle.dms_site.specs.Laws.{torn_refl}
use Rattle.dms_memcalls.proofs.Grown.{cut_done, grown_done, equal_done, cut_step, cut_moments, grown_step, grown_moments, equal_step, equal_moments}
use Rattle.dms_memcalls.proofs.mem_calls.MemCallsCalls.ftruncate.Goals as goal

pub returns-then-len-size-clause-resized : goal.returns-then-len-size-clause-resized
returns-then-len-size-clause-resized c =
    let size = ap (λ (l : List ℕ). length l) c.bytes.ensures in
    on_ok_weaker c.keep_disk.result (λ kept. λ t. cut_done _ _ c.args.handle.now.file c.args.len c.succeeds-done.result kept.1 kept.0 (omega (arith, size, c.if-len-size.true))) c.keep_disk.ensures.kept

pub returns-then-len-size-clause-cut : goal.returns-then-len-size-clause-cut
returns-then-len-size-clause-cut c = λ le. cut_step _ _ c.args.handle.now.file c.args.len c.succeeds-done.result c.keep_disk.ensures.grew

pub returns-then-len-size-clause-cut_moments : goal.returns-then-len-size-clause-cut_moments
returns-then-len-size-clause-cut_moments c = λ le. cut_moments _ _ c.args.handle.now.file c.args.len c.succeeds-done.result c.keep_disk.ensures.grew

pub returns-then-size-len-clause-resized : goal.returns-then-size-len-clause-resized
returns-then-size-len-clause-resized c =
    let size = ap (λ (l : List ℕ). length l) c.bytes.ensures in
    on_ok_weaker c.keep_disk-then-size-len.result (λ kept. λ t. grown_done _ _ c.args.handle.now.file c.args.len c.succeeds-done.result kept.1 kept.0 (omega (arith, size, c.if-size-len.true))) c.keep_disk-then-size-len.ensures.kept

pub returns-then-size-len-clause-grown : goal.returns-then-size-len-clause-grown
returns-then-size-len-clause-grown c = λ le. grown_step _ _ c.args.handle.now.file c.args.len c.succeeds-done.result c.keep_disk-then-size-len.ensures.grew

pub returns-then-size-len-clause-grown_moments : goal.returns-then-size-len-clause-grown_moments
returns-then-size-len-clause-grown_moments c = λ le. grown_moments _ _ c.args.handle.now.file c.args.len c.succeeds-done.result c.keep_disk-then-size-len.ensures.grew

pub returns-clause-resized : goal.returns-clause-resized
returns-clause-resized c =
    let size = ap (λ (l : List ℕ). length l) c.bytes.ensures in
    on_ok_weaker c.keep_disk-2.result (λ kept. λ t. equal_done _ _ c.args.handle.now.file c.args.len c.succeeds-done.result kept.1 (omega (arith, size, c.if-size-len.false, c.if-len-size.false))) c.keep_disk-2.ensures.kept

pub returns-clause-cut : goal.returns-clause-cut
returns-clause-cut c = λ le. equal_step _ _ c.args.handle.now.file c.args.len c.succeeds-done.result (Cut c.args.len) (λ l. inl refl) c.keep_disk-2.ensures.grew

pub returns-clause-cut_moments : goal.returns-clause-cut_moments
returns-clause-cut_moments c = λ le. equal_moments _ _ c.args.handle.now.file c.args.len c.succeeds-done.result (Cut c.args.len) (λ l. inl refl) c.keep_disk-2.ensures.grew

pub returns-clause-grown : goal.returns-clause-grown
returns-clause-grown c = λ le. equal_step _ _ c.args.handle.now.file c.args.len c.succeeds-done.result (Torn c.args.len 0) (torn_refl c.args.len 0) c.keep_disk-2.ensures.grew

pub returns-clause-grown_moments : goal.returns-clause-grown_moments
returns-clause-grown_moments c = λ le. equal_moments _ _ c.args.handle.now.file c.args.len c.succeeds-done.result (Torn c.args.len 0) (torn_refl c.args.len 0) c.keep_disk-2.ensures.grew
