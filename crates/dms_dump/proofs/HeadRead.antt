-- What is spelled as a head is read as that head.
use Rattle.std.specs.Prelude.{nat_le, ◌&&◌, ◌==◌, if◌then◌else◌}
use Rattle.std.proofs.Common.{ℕ, ◌+◌, ◌*◌, ◌^◌, ◌<◌, ◌≤◌, ◌≡◌, inl, inr, Bool, true, false, cond, List, [], ◌∷◌, ◌++◌, length, Option, Some, None, refl, sym, ◌∙◌, ap, arith, append_assoc, length-append}
use Rattle.std.specs.Int.{w16, w32, w64, to_be_bytes}
use Rattle.std.proofs.lemmas.Bool.{cases_eq}
use Rattle.std.proofs.lemmas.Bool.Decides.{nat_tests}
use Rattle.dms_fields.specs.Prefix.{◌>>=◌}
use Rattle.dms_fields.specs.PrefixLaws.{wide16, wide32, wide64, number_again, bytes_again}
use Rattle.dms_history.specs.declared.event.FileCount.{FileCount}
use Rattle.dms_audrec.specs.Spelling.{pair_bytes, count_file, count_blocks, counts_rise, ArePairsSmall}
use Rattle.dms_audrec.specs.PairLaws.{counts_length, counts_again}
use Rattle.dms_dump.specs.Head.{Head, IsHead, end_or, mark_bytes, end_bytes, head_bytes, front_size, head_size, other_tag, plain_mark, copied_mark, mark_behind, mark_first, end_first, counts_first, head_first}

pub both : (a b : Bool) → a && b ≡ true → (a ≡ true) × (b ≡ true)
both true b e = (refl, e)
both false b e = absurd cc

pub le_of : (a b : ℕ) → nat_le a b ≡ true → a ≤ b
le_of a b e = grind (arith, nat_tests, e)

-- counts of structure files fit four bytes each
pub rise_small : (low : ℕ) (cs : List FileCount) → counts_rise low cs ≡ true → ArePairsSmall count_file count_blocks cs
rise_small low [] e = tt
rise_small low (c ∷ cs) e =
    let one = both (nat_le low c.file) _ e in
    let two = both (nat_le c.file 30200) _ one.1 in
    let three = both (nat_le c.blocks 2097152) _ two.1 in
    let file : c.file ≤ 30200 = le_of c.file 30200 two.0 in
    let blocks : c.blocks ≤ 2097152 = le_of c.blocks 2097152 three.0 in
    (omega (arith, file), omega (arith, blocks), rise_small (c.file + 1) cs three.1)

-- the mark is read again
after_mark : (mark rest : List ℕ) → length mark ≡ 4 → mark_first (mark ++ rest) ≡ mark_behind mark rest
after_mark mark rest size = ap (λ (o : Option (List ℕ × List ℕ)). o >>= (λ m. mark_behind m.0 m.1)) (bytes_again 4 mark rest size)

abbrev is_copied : Option ℕ → Bool
is_copied None = false
is_copied (Some end) = true

mark_again : (end : Option ℕ) (tag : ℕ) (rest : List ℕ) → tag < 2 ^ 64 → mark_first (mark_bytes end tag ++ rest) ≡ Some ((tag, is_copied end), rest)
mark_again (Some end) tag rest small =
    after_mark (68 ∷ 77 ∷ 83 ∷ 79 ∷ []) (to_be_bytes w64 tag ++ rest) refl ∙ ap (λ (o : Option (ℕ × List ℕ)). o >>= copied_mark) (number_again w64 (2 ^ 64) wide64 tag rest small)
mark_again None tag rest small = elim (cases_eq tag 0) [
  | inl none ↦
      ap (λ k. mark_first (mark_bytes None k ++ rest)) none ∙ after_mark (68 ∷ 77 ∷ 83 ∷ 68 ∷ []) rest refl ∙ ap (λ k. Some ((k, false), rest)) (sym none)
  | inr some ↦
      let off : (tag == 0) ≡ false = grind (arith, nat_tests, some) in
      let n = number_again w64 (2 ^ 64) wide64 tag rest small in
      let mark : mark_bytes None tag ≡ 68 ∷ 77 ∷ 83 ∷ 69 ∷ to_be_bytes w64 tag = ap (λ b. cond b (68 ∷ 77 ∷ 83 ∷ 68 ∷ []) (68 ∷ 77 ∷ 83 ∷ 69 ∷ to_be_bytes w64 tag)) off in
      ap (λ (l : List ℕ). mark_first (l ++ rest)) mark
      ∙ after_mark (68 ∷ 77 ∷ 83 ∷ 69 ∷ []) (to_be_bytes w64 tag ++ rest) refl
      ∙ ap (λ (o : Option (ℕ × List ℕ)). (o >>= other_tag) >>= plain_mark) n
      ∙ ap (λ b. let x : Option (ℕ × List ℕ) = cond b None (Some (tag, rest)) in x >>= plain_mark) off
]

end_again : (end : Option ℕ) (point : ℕ) (rest : List ℕ) → end_or end point < 2 ^ 64 → end_first (is_copied end) (end_bytes end ++ rest) ≡ Some (end, rest)
end_again None point rest small = refl
end_again (Some end) point rest small = ap (λ (o : Option (ℕ × List ℕ)). o >>= (λ e. Some (Some e.0, e.1))) (number_again w64 (2 ^ 64) wide64 end rest small)

counts_again_first : (cs : List FileCount) (rest : List ℕ) → counts_rise 30001 cs ≡ true → counts_first (length cs) (pair_bytes count_file count_blocks cs ++ rest) ≡ Some (cs, rest)
counts_again_first cs rest rises =
    let l = pair_bytes count_file count_blocks cs in
    rw (bytes_again (8 * length cs) l rest (counts_length cs), counts_again cs (rise_small 30001 cs rises), rises) refl

pub head_again : (h : Head) (rest : List ℕ) → IsHead h → head_first (head_bytes h ++ rest) ≡ Some (h, rest)
unfolding head_first head_bytes
head_again h rest is =
    let m = mark_bytes h.end h.tag in
    let p = to_be_bytes w64 h.point in
    let n = end_bytes h.end in
    let q = to_be_bytes w32 h.audit in
    let r = to_be_bytes w16 (length h.counts) in
    let l = pair_bytes count_file count_blocks h.counts in
    let few : length h.counts < 2 ^ 16 = omega (arith, is.few) in
    let e : (m ++ (p ++ (n ++ (q ++ (r ++ l))))) ++ rest ≡ m ++ (p ++ (n ++ (q ++ (r ++ (l ++ rest))))) =
    append_assoc m (p ++ (n ++ (q ++ (r ++ l)))) rest ∙ ap (λ (t : List ℕ). m ++ t) (append_assoc p (n ++ (q ++ (r ++ l))) rest ∙ ap (λ (t : List ℕ). p ++ t) (append_assoc n (q ++ (r ++ l)) rest ∙ ap (λ (t : List ℕ). n ++ t) (append_assoc q (r ++ l) rest ∙ ap (λ (t : List ℕ). q ++ t) (append_assoc r l rest)))) in
    ap head_first e ∙
    rw (
      mark_again h.end h.tag (p ++ (n ++ (q ++ (r ++ (l ++ rest))))) is.tag,
      number_again w64 (2 ^ 64) wide64 h.point (n ++ (q ++ (r ++ (l ++ rest)))) is.point,
      end_again h.end h.point (q ++ (r ++ (l ++ rest))) is.end,
      number_again w32 (2 ^ 32) wide32 h.audit (r ++ (l ++ rest)) is.audit,
      number_again w16 (2 ^ 16) wide16 (length h.counts) (l ++ rest) few,
      counts_again_first h.counts rest is.rising,
    ) refl

mark_size : (tag : ℕ) → length (mark_bytes None tag) ≡ (if tag == 0 then 4 else 12)
mark_size tag = elim (cases_eq tag 0) [
  | inl none ↦ ap (λ k. length (mark_bytes None k)) none ∙ (let e : length (mark_bytes None 0) ≡ 4 = refl in e) ∙ ap (λ k. if k == 0 then 4 else 12) (sym none)
  | inr some ↦
      let off : (tag == 0) ≡ false = grind (arith, nat_tests, some) in
      ap (λ b. length (cond b (68 ∷ 77 ∷ 83 ∷ 68 ∷ []) (68 ∷ 77 ∷ 83 ∷ 69 ∷ to_be_bytes w64 tag))) off ∙ ap (λ b. cond b 4 12) (sym off)
]

size_more : (b : Bool) → cond b 4 12 + 14 ≡ cond b 18 26
size_more true = refl
size_more false = refl

-- mark and end, with the fields of 14 bytes between them
front_is : (end : Option ℕ) (tag : ℕ) → length (mark_bytes end tag) + length (end_bytes end) + 14 ≡ front_size end tag
front_is None tag = omega (arith, mark_size tag, size_more (tag == 0))
front_is (Some end) tag = omega (arith, wide64.len tag, wide64.len end)

-- a head takes so many bytes, at most 1,634
pub size_is : (h : Head) → length (head_bytes h) ≡ head_size h
unfolding head_bytes
size_is h =
    let m = mark_bytes h.end h.tag in
    let p = to_be_bytes w64 h.point in
    let n = end_bytes h.end in
    let q = to_be_bytes w32 h.audit in
    let r = to_be_bytes w16 (length h.counts) in
    let l = pair_bytes count_file count_blocks h.counts in
    omega (
      arith,
      length-append m (p ++ (n ++ (q ++ (r ++ l)))),
      length-append p (n ++ (q ++ (r ++ l))),
      length-append n (q ++ (r ++ l)),
      length-append q (r ++ l),
      length-append r l,
      wide64.len h.point,
      wide32.len h.audit,
      wide16.len (length h.counts),
      counts_length h.counts,
      front_is h.end h.tag,
    )

size_few : (b : Bool) → cond b 18 26 ≤ 26
size_few true = omega arith
size_few false = omega arith

pub front_few : (end : Option ℕ) (tag : ℕ) → front_size end tag ≤ 34
front_few None tag = omega (arith, size_few (tag == 0))
front_few (Some end) tag = omega arith

pub size_bound : (h : Head) → IsHead h → head_size h ≤ 1634
size_bound h is = omega (arith, is.few, front_few h.end h.tag)
