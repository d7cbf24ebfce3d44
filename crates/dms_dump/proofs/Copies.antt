-- The blocks of a dump that was copied are read again.
use Rattle.std.specs.Prelude.{◌==◌, nat_lt}
use Rattle.std.proofs.Common.{ℕ, ◌+◌, ◌-◌, ◌*◌, ◌<◌, ◌≡◌, inl, inr, true, false, cond, List, [], ◌∷◌, ◌++◌, length, take, Option, Some, None, sym, ◌∙◌, ap, subst, arith, length-append}
use Rattle.std.proofs.lemmas.Bool.{cases_eq}
use Rattle.std.proofs.lemmas.Bool.Decides.{nat_tests}
use Rattle.std.proofs.lemmas.List.FromFn.{length-map-range_with_len, get_or-map-range_with_len}
use Rattle.dms_fields.specs.Prefix.{◌>>=◌}
use Rattle.dms_site.specs.Files.{range}
use Rattle.dms_history.specs.Events.{block_in}
use Rattle.dms_history.specs.Pick.{Dump}
use Rattle.dms_history.specs.Entries.{counts_in}
use Rattle.dms_history.specs.declared.event.FileCount.{FileCount}
use Rattle.dms_dump.specs.Head.{Head, IsHead, head_bytes, head_first, head_size, all_blocks, whole_head, head_in}
use Rattle.dms_dump.specs.Body.{blocks_before, dumped_block, dump_by_head, dump_of, dump_with}
use Rattle.dms_dump.specs.Copies.{BlocksAreRead, CopiesAreRead, HasBlocks, id_at}
use Rattle.dms_dump.specs.Judged.{dump_read, read_head}
use Rattle.dms_dump.proofs.HeadRead.{head_again, size_is, size_bound}
use Rattle.dms_dump.proofs.Bodies.{range_behind, take_behind, cond_same, cond_other}

-- a block of a file is one of all, in its place
pub placed : (cs : List FileCount) (f b : ℕ) → b < counts_in cs f → (id_at cs (blocks_before f cs + b) ≡ Some (f, b)) × (blocks_before f cs + b < all_blocks cs)
placed [] f b low = absurd (omega (arith, low))
placed (c ∷ cs) f b low = elim (cases_eq c.file f) [
  | inl same ↦
      let on : (c.file == f) ≡ true = grind (arith, nat_tests, same) in
      let under : b < c.blocks = subst (λ k. b < k) (cond_same (c.file == f) c.blocks (counts_in cs f) on) low in
      let at : cond (c.file == f) 0 (c.blocks + blocks_before f cs) + b ≡ b = ap (λ k. k + b) (cond_same (c.file == f) 0 (c.blocks + blocks_before f cs) on) ∙ (let none : 0 + b ≡ b = omega arith in none) in
      let less : nat_lt b c.blocks ≡ true = grind (arith, nat_tests, under) in (
        ap (λ k. id_at (c ∷ cs) k) at ∙ cond_same (nat_lt b c.blocks) (Some (c.file, b)) (id_at cs (b - c.blocks)) less ∙ ap (λ k. Some (k, b)) same,
        omega (arith, at, under),
      )
  | inr other ↦
      let off : (c.file == f) ≡ false = grind (arith, nat_tests, other) in
      let under : b < counts_in cs f = subst (λ k. b < k) (cond_other (c.file == f) c.blocks (counts_in cs f) off) low in
      let rest = placed cs f b under in
      let n = c.blocks + blocks_before f cs + b in
      let at : cond (c.file == f) 0 (c.blocks + blocks_before f cs) + b ≡ n = ap (λ k. k + b) (cond_other (c.file == f) 0 (c.blocks + blocks_before f cs) off) in
      let not : nat_lt n c.blocks ≡ false = grind (arith, nat_tests) in
      let behind : n - c.blocks ≡ blocks_before f cs + b = omega arith in (
        ap (λ k. id_at (c ∷ cs) k) at ∙ cond_other (nat_lt n c.blocks) (Some (c.file, n)) (id_at cs (n - c.blocks)) not ∙ ap (λ k. id_at cs k) behind ∙ rest.0,
        omega (arith, at, rest.1),
      )
]

module _ (P : ℕ → ℕ → List ℕ → Type 0) (h : Head) (body : List ℕ) (is : IsHead h) (has : HasBlocks P h.counts (all_blocks h.counts) body) where
  abbrev file : List ℕ
  file = 1 ∷ (head_bytes h ++ body)

  front : range 1 1634 file ≡ head_bytes h ++ take (1634 - length (head_bytes h)) body
  unfolding range
  front = take_behind 1634 (head_bytes h) body (omega (arith, size_is h, size_bound h is))

  found : head_in file ≡ Some h
  unfolding head_in whole_head
  found =
      let rest = take (1634 - length (head_bytes h)) body in
      let size : length file ≡ 1 + head_size h + 1024 * all_blocks h.counts = omega (arith, length-append (head_bytes h) body, size_is h, has.long) in
      let on : (length file == 1 + head_size h + 1024 * all_blocks h.counts) ≡ true = grind (arith, nat_tests, size) in
      ap (λ (o : Option (Head × List ℕ)). o >>= (λ x. whole_head file x.0)) (ap head_first front ∙ head_again h rest is) ∙ ap (λ b. let o : Option Head = cond b (Some h) None in o) on

  block_at : (f b : ℕ) → dumped_block h file f b ≡ range (1024 * (blocks_before f h.counts + b)) 1024 body
  unfolding dumped_block
  block_at f b = range_behind (1 + head_size h) (1024 * (blocks_before f h.counts + b)) 1024 (1 ∷ head_bytes h) body (omega (arith, size_is h))

  dump_is : dump_of file ≡ dump_with h file
  unfolding dump_of
  dump_is = ap (λ (o : Option Head). dump_by_head o file) found

  block_in_dump : (f b : ℕ) → b < counts_in h.counts f → block_in (dump_of file).blocks f b ≡ dumped_block h file f b
  block_in_dump f b low =
      let at : 0 + b ≡ b = omega arith in
      ap (λ (d : Dump). block_in d.blocks f b) dump_is ∙ get_or-map-range_with_len (dumped_block h file f) 0 (counts_in h.counts f) b b [] low at

  pub blocks_are_read : BlocksAreRead P h (1 ∷ (head_bytes h ++ body))
  unfolding dump_read
  blocks_are_read = record {
    read = ap read_head found;
    point = ap (λ (d : Dump). d.point) dump_is;
    end = ap (λ (d : Dump). d.end) dump_is;
    counts = λ f. ap (λ (d : Dump). length (d.blocks f)) dump_is ∙ length-map-range_with_len (dumped_block h file f) 0 (counts_in h.counts f);
    each = λ f b low.
        let p = placed h.counts f b low in
        subst (λ (l : List ℕ). P f b l) (sym (block_in_dump f b low ∙ block_at f b)) (has.each (blocks_before f h.counts + b) f b p.1 p.0);
  }

pub copies_are_read : CopiesAreRead
copies_are_read P h body is has = blocks_are_read P h body is has
