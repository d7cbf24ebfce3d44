-- A run of blocks in the file of a dump.
use Rattle.std.specs.Prelude.{nat_lt, nat_le}
use Rattle.std.proofs.Common.{ℕ, ◌+◌, ◌*◌, ◌<◌, ◌≤◌, ◌≡◌, ◌&&◌, true, cond, List, Option, Some, sym, ◌∙◌, ap, arith}
use Rattle.std.proofs.lemmas.Bool.Decides.{nat_tests}
use Rattle.dms_site.specs.Files.{Files, range}
use Rattle.dms_history.specs.Events.{block_in}
use Rattle.dms_history.specs.Pick.{Dump, content_of}
use Rattle.dms_history.specs.Entries.{counts_in}
use Rattle.dms_history.proofs.Base.{content_block}
use Rattle.dms_dump.specs.Head.{Head, head_size, head_in}
use Rattle.dms_dump.specs.Body.{blocks_before, dumped_block, dump_with, dump_by_head, dump_of, no_dump}
use Rattle.dms_restore.specs.Dumped.{dumps_of}
use Rattle.dms_restore.specs.ByDump.{RunsOfDumps}

some_test : (d : ℕ) → 1 ≤ d → nat_lt 0 d ≡ true
some_test d some = grind (arith, nat_tests)

few_test : (d : ℕ) → d ≤ 9999 → nat_le d 10000 ≡ true
few_test d few = grind (arith, nat_tests)

pub dump_is : (files : Files) (d : ℕ) (h : Head) → 1 ≤ d → d ≤ 9999 → head_in (files (20000 + d)) ≡ Some h → dumps_of files d ≡ dump_with h (files (20000 + d))
unfolding dump_of
dump_is files d h some few is = (λ i. cond (some_test d some i && few_test d few i) (dump_of (files (20000 + d))) no_dump) ∙ ap (λ (o : Option Head). dump_by_head o (files (20000 + d))) is

pub block_is : (h : Head) (file : List ℕ) (f i : ℕ) → i < counts_in h.counts f → block_in (dump_with h file).blocks f i ≡ dumped_block h file f i
unfolding content_of
block_is h file f i low = content_block (counts_in h.counts) (dumped_block h file) f i low

pub runs_of_dumps : RunsOfDumps
unfolding dumped_block
runs_of_dumps h d f n i files some few is low within =
    let place : 1 + head_size h + 1024 * blocks_before f h.counts + 1024 * i ≡ 1 + head_size h + 1024 * (blocks_before f h.counts + i) = omega arith in
    ap (λ k. range k 1024 (files (20000 + d))) place
    ∙ sym (block_is h (files (20000 + d)) f i (omega (arith, low, within)))
    ∙ ap (λ (dump : Dump). block_in dump.blocks f i) (sym (dump_is files d h some few is))
