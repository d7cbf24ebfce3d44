-- The counts of the head of a dump.
use Rattle.std.specs.Prelude.{nat_le, ◌==◌}
use Rattle.std.proofs.Common.{ℕ, ◌+◌, ◌*◌, ◌<◌, ◌≤◌, ◌≡◌, inl, inr, true, cond, List, [], ◌∷◌, length, Option, Some, None, sym, ◌∙◌, ap, subst, arith}
use Rattle.std.proofs.lemmas.Bool.{cases_Bool}
use Rattle.std.proofs.lemmas.Option.{none-some}
use Rattle.dms_fields.specs.Prefix.{◌>>=◌}
use Rattle.dms_site.specs.Files.{range}
use Rattle.dms_history.specs.Entries.{counts_in}
use Rattle.dms_history.specs.declared.event.FileCount.{FileCount}
use Rattle.dms_history.proofs.Order.{eq_of}
use Rattle.dms_history.proofs.Picks.{some_is}
use Rattle.dms_audrec.specs.Spelling.{counts_rise}
use Rattle.dms_dump.proofs.HeadRead.{front_few}
use Rattle.dms_dump.specs.Head.{Head, head_size, all_blocks, head_first, whole_head, head_in}
use Rattle.dms_dump.specs.Body.{blocks_before}
use Rattle.dms_dump.specs.HeadSeen.{head_seen}
use Rattle.dms_dump.specs.Judged.{DumpRead, missing, unsealed, damaged, sealed, read_head, dump_read}
use Rattle.dms_dump.specs.declared.reading.DumpHead.{DumpHead}
use Rattle.dms_dump.proofs.HeadRead.{both, le_of}
use Rattle.dms_restore.specs.declared.run.Run.{Run}
use Rattle.dms_restore.specs.Counts.{AllAtMost}
use Rattle.dms_restore.specs.Table.{IsRun, AreRuns}
use Rattle.dms_restore.specs.Planned.{IsFitHead, IsRunOf, AreRunsOf}

-- only structure files have blocks
rise_low : (low : ℕ) (cs : List FileCount) (f : ℕ) → counts_rise low cs ≡ true → 0 < counts_in cs f → low ≤ f
rise_low low [] f rises some = absurd (omega (arith, some))
rise_low low (c ∷ cs) f rises some =
    let one = both (nat_le low c.file) _ rises in
    let two = both (nat_le c.file 30200) _ one.1 in
    let three = both (nat_le c.blocks 2097152) _ two.1 in
    let least = le_of low c.file one.0 in
    elim (cases_Bool (c.file == f)) [
      | inl on ↦ omega (arith, least, eq_of c.file f on)
      | inr off ↦
          let later : c.file + 1 ≤ f = rise_low (c.file + 1) cs f three.1 (subst (λ n. 0 < n) (ap (λ t. cond t c.blocks (counts_in cs f)) off) some) in
          omega (arith, later, least)
    ]

-- all blocks of a file stand among those of all files
pub before_within : (cs : List FileCount) (f : ℕ) → blocks_before f cs + counts_in cs f ≤ all_blocks cs
before_within [] f = omega arith
before_within (c ∷ cs) f = elim (cases_Bool (c.file == f)) [
  | inl on ↦
      let before : blocks_before f (c ∷ cs) ≡ 0 = ap (λ t. cond t 0 (c.blocks + blocks_before f cs)) on in
      let count : counts_in (c ∷ cs) f ≡ c.blocks = ap (λ t. cond t c.blocks (counts_in cs f)) on in
      omega (arith, before, count)
  | inr off ↦
      let before : blocks_before f (c ∷ cs) ≡ c.blocks + blocks_before f cs = ap (λ t. cond t 0 (c.blocks + blocks_before f cs)) off in
      let count : counts_in (c ∷ cs) f ≡ counts_in cs f = ap (λ t. cond t c.blocks (counts_in cs f)) off in
      omega (arith, before, count, before_within cs f)
]

all_most : (low : ℕ) (cs : List FileCount) → counts_rise low cs ≡ true → all_blocks cs ≤ 2097152 * length cs
all_most low [] rises = omega arith
all_most low (c ∷ cs) rises =
    let one = both (nat_le low c.file) _ rises in
    let two = both (nat_le c.file 30200) _ one.1 in
    let three = both (nat_le c.blocks 2097152) _ two.1 in
    omega (arith, le_of c.blocks 2097152 three.0, all_most (c.file + 1) cs three.1)

size_most : (h : Head) → length h.counts ≤ 200 → head_size h ≤ 1634
size_most h few = omega (arith, few, front_few h.end h.tag)

run_fits : (h : DumpHead) (d : ℕ) (counts : List ℕ) (r : Run) → IsFitHead h → AllAtMost counts → d ≤ 9999 → IsRunOf (head_seen h) d counts r → IsRun r
run_fits h d counts r fit small number is =
    let cs = h.counts.items in
    let some : 0 < counts_in cs r.file = omega (arith, is.some, is.dumped) in
    let end : r.at + 1024 * r.blocks ≤ 1 + head_size (head_seen h) + 1024 * all_blocks cs = omega (arith, is.place, is.dumped, before_within cs r.file) in (
      omega (arith, rise_low 30001 cs r.file fit.0 some),
      omega (arith, is.counted, small r.file),
      omega (arith, is.dump_is, number),
      omega (arith, end, size_most (head_seen h) fit.1, all_most 30001 cs fit.0, fit.1),
    )

pub runs_fit : (h : DumpHead) (d : ℕ) (counts : List ℕ) (rs : List Run) → IsFitHead h → AllAtMost counts → d ≤ 9999 → AreRunsOf (head_seen h) d counts rs → AreRuns rs
runs_fit h d counts [] fit small number are = tt
runs_fit h d counts (r ∷ rs) fit small number are = (run_fits h d counts r fit small number are.0, runs_fit h d counts rs fit small number are.1)

-- ---- a dump that was read

abbrev head_of : DumpRead → Option Head
head_of missing = None
head_of unsealed = None
head_of damaged = None
head_of (sealed h) = Some h

pub sealed_head : (file : List ℕ) (h : Head) → dump_read file ≡ sealed h → head_in file ≡ Some h
unfolding dump_read
sealed_head [] h is = absurd (none-some h (ap head_of is))
sealed_head (gate ∷ rest) h is = elim (cases_Bool (gate == 1)) [
  | inl on ↦ same (head_in (gate ∷ rest)) (ap (λ t. cond t (read_head (head_in (gate ∷ rest))) unsealed) (sym on) ∙ is)
  | inr off ↦ absurd (none-some h (ap head_of (ap (λ t. cond t (read_head (head_in (gate ∷ rest))) unsealed) (sym off) ∙ is)))
]
  where
    same : (o : Option Head) → read_head o ≡ sealed h → o ≡ Some h
    same None e = absurd (none-some h (ap head_of e))
    same (Some k) e = ap head_of e

-- its file ends behind the last block
pub head_ends : (file : List ℕ) (h : Head) → head_in file ≡ Some h → length file ≡ 1 + head_size h + 1024 * all_blocks h.counts
unfolding head_in whole_head
head_ends file h is = go (head_first (range 1 1634 file)) is
  where
    ends : (k : Head) → cond (length file == 1 + head_size k + 1024 * all_blocks k.counts) (Some k) None ≡ Some h → length file ≡ 1 + head_size h + 1024 * all_blocks h.counts
    ends k e = elim (cases_Bool (length file == 1 + head_size k + 1024 * all_blocks k.counts)) [
      | inl on ↦
          let same : k ≡ h = some_is k h (ap (λ t. cond t (Some k) None) (sym on) ∙ e) in
          eq_of (length file) (1 + head_size k + 1024 * all_blocks k.counts) on ∙ ap (λ (x : Head). 1 + head_size x + 1024 * all_blocks x.counts) same
      | inr off ↦ absurd (none-some h (ap (λ t. cond t (Some k) None) (sym off) ∙ e))
    ]

    go : (o : Option (Head × List ℕ)) → (o >>= (λ x. whole_head file x.0)) ≡ Some h → length file ≡ 1 + head_size h + 1024 * all_blocks h.counts
    go None e = absurd (none-some h e)
    go (Some x) e = ends x.0 e

-- no position in the file of a dump is large
pub before_most : (h : DumpHead) (f : ℕ) → IsFitHead h → blocks_before f h.counts.items ≤ 419430400
before_most h f fit = omega (arith, before_within h.counts.items f, all_most 30001 h.counts.items fit.0, fit.1)

pub head_most : (h : DumpHead) → IsFitHead h → head_size (head_seen h) ≤ 1634
head_most h fit = size_most (head_seen h) fit.1
