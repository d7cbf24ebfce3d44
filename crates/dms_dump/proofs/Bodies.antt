-- The blocks of a dump, found in its file.
use Rattle.std.specs.Prelude.{nat_le, ◌==◌}
use Rattle.std.proofs.Common.{ℕ, zero, suc, ◌+◌, ◌*◌, ◌-◌, ◌<◌, ◌≤◌, ◌≡◌, ◌≢◌, inl, inr, Bool, true, false, cond, List, [], ◌∷◌, ◌++◌, map, length, take, drop, Option, Some, None, refl, sym, ◌∙◌, ap, subst, arith, append_assoc, length-append}
use Rattle.std.specs.List.{range_with_len}
use Rattle.std.proofs.lemmas.List.{take_at, drop_at, ext_get_or, take-append-le, drop-drop}
use Rattle.std.proofs.lemmas.List.FromFn.{length-map-range_with_len, get_or-map-range_with_len}
use Rattle.std.proofs.lemmas.Bool.{cases_eq, cases_lt}
use Rattle.std.proofs.lemmas.Bool.Decides.{nat_tests}
use Rattle.dms_fields.specs.Prefix.{◌>>=◌}
use Rattle.dms_site.specs.Files.{range}
use Rattle.dms_history.specs.Events.{Stored}
use Rattle.dms_history.specs.Pick.{content_of}
use Rattle.dms_history.specs.Entries.{counts_in}
use Rattle.dms_history.specs.declared.event.FileCount.{FileCount}
use Rattle.dms_dump.specs.Head.{Head, IsHead, end_of, head_bytes, head_first, head_size, all_blocks, whole_head, head_in}
use Rattle.dms_dump.specs.Body.{file_bytes, body_bytes, dump_file, blocks_before, dumped_block, dump_by_head, dump_of, AllStored}
use Rattle.dms_dump.specs.Laws.{DumpIsRead}
use Rattle.dms_audrec.specs.Spelling.{counts_rise}
use Rattle.dms_dump.proofs.HeadRead.{both, le_of, head_again, size_is, size_bound}
use Rattle.std.proofs.Math.Seq.{take-append-add}

-- each of the first n blocks of a file is whole
abbrev pub WholeTo : Stored → ℕ → ℕ → Type 0
WholeTo stored f n = (b : ℕ) → b < n → length (stored f b) ≡ 1024

pub file_size : (stored : Stored) (f n : ℕ) → WholeTo stored f n → length (file_bytes stored f n) ≡ 1024 * n
unfolding file_bytes
file_size stored f zero whole = refl
file_size stored f (suc n) whole = omega (arith, length-append (file_bytes stored f n) (stored f n), file_size stored f n (λ b low. whole b (omega (arith, low))), whole n (omega arith))

-- the same blocks, the same bytes
pub file_same : (x y : Stored) (f : ℕ) → ((b : ℕ) → x f b ≡ y f b) → (n : ℕ) → file_bytes x f n ≡ file_bytes y f n
unfolding file_bytes
file_same x y f same zero = refl
file_same x y f same (suc n) = λ i. file_same x y f same n i ++ same n i

-- a range that lies in the first part, and one that lies behind it
pub range_front : (at n : ℕ) (xs ys : List ℕ) → at + n ≤ length xs → range at n (xs ++ ys) ≡ range at n xs
unfolding range
range_front at n xs ys low = go at xs low
  where
    go : (at : ℕ) (xs : List ℕ) → at + n ≤ length xs → take n (drop at (xs ++ ys)) ≡ take n (drop at xs)
    go zero xs low = take-append-le n xs ys (omega (arith, low))
    go (suc at) [] low = absurd (omega (arith, low))
    go (suc at) (x ∷ xs) low = go at xs (omega (arith, low))

pub range_behind : (k at n : ℕ) (xs ys : List ℕ) → length xs ≡ k → range (k + at) n (xs ++ ys) ≡ range at n ys
unfolding range
range_behind k at n xs ys size = ap (λ (l : List ℕ). take n l) (sym (drop-drop at k (xs ++ ys)) ∙ ap (λ (l : List ℕ). drop at l) (drop_at xs ys k size))

range_all : (n : ℕ) (xs ys : List ℕ) → length xs ≡ n → range 0 n (xs ++ ys) ≡ xs
unfolding range
range_all n xs ys size = take_at xs ys n size

-- block b of a file stands in its bytes
pub block_there : (stored : Stored) (f n b : ℕ) (rest : List ℕ) → WholeTo stored f n → b < n → range (1024 * b) 1024 (file_bytes stored f n ++ rest) ≡ stored f b
unfolding file_bytes
block_there stored f zero b rest whole low = absurd (omega (arith, low))
block_there stored f (suc n) b rest whole low =
    let less : WholeTo stored f n = λ c at. whole c (omega (arith, at)) in
    let size = file_size stored f n less in
    ap (λ (l : List ℕ). range (1024 * b) 1024 l) (append_assoc (file_bytes stored f n) (stored f n) rest) ∙ elim (cases_lt b n) [
      | inl before ↦ range_front (1024 * b) 1024 (file_bytes stored f n) (stored f n ++ rest) (omega (arith, before, size)) ∙ sym (range_front (1024 * b) 1024 (file_bytes stored f n) [] (omega (arith, before, size))) ∙ block_there stored f n b [] less before
      | inr last ↦
          let is : b ≡ n = omega (arith, low, last) in
          let at : 1024 * b ≡ 1024 * n + 0 = omega (arith, is) in
          ap (λ k. range k 1024 (file_bytes stored f n ++ (stored f n ++ rest))) at
          ∙ range_behind (1024 * n) 0 1024 (file_bytes stored f n) (stored f n ++ rest) size
          ∙ range_all 1024 (stored f n) rest (whole n (omega arith)) ∙ ap (stored f) (sym is)
    ]

-- all blocks below the counts are whole
abbrev pub EachWhole : Stored → List FileCount → Type 0
EachWhole stored [] = Unit {0}
EachWhole stored (c ∷ cs) = WholeTo stored c.file c.blocks × EachWhole stored cs

pub body_size : (stored : Stored) (cs : List FileCount) → EachWhole stored cs → length (body_bytes stored cs) ≡ 1024 * all_blocks cs
body_size stored [] whole = refl
body_size stored (c ∷ cs) whole = omega (arith, length-append (file_bytes stored c.file c.blocks) (body_bytes stored cs), file_size stored c.file c.blocks whole.0, body_size stored cs whole.1)

pub cond_same : {A : Type 0} (b : Bool) (x y : A) → b ≡ true → cond b x y ≡ x
cond_same b x y e = ap (λ c. cond c x y) e

pub cond_other : {A : Type 0} (b : Bool) (x y : A) → b ≡ false → cond b x y ≡ y
cond_other b x y e = ap (λ c. cond c x y) e

-- and each stands where the dump says
pub body_there : (stored : Stored) (cs : List FileCount) (f b : ℕ) → EachWhole stored cs → b < counts_in cs f → range (1024 * (blocks_before f cs + b)) 1024 (body_bytes stored cs) ≡ stored f b
body_there stored [] f b whole low = absurd (omega (arith, low))
body_there stored (c ∷ cs) f b whole low = elim (cases_eq c.file f) [
  | inl same ↦
      let on : (c.file == f) ≡ true = grind (arith, nat_tests, same) in
      let under : b < c.blocks = subst (λ k. b < k) (cond_same (c.file == f) c.blocks (counts_in cs f) on) low in
      ap (λ k. range (1024 * (k + b)) 1024 (body_bytes stored (c ∷ cs))) (cond_same (c.file == f) 0 (c.blocks + blocks_before f cs) on)
      ∙ (let none : 0 + b ≡ b = omega arith in ap (λ k. range (1024 * k) 1024 (body_bytes stored (c ∷ cs))) none)
      ∙ block_there stored c.file c.blocks b (body_bytes stored cs) whole.0 under ∙ ap (λ k. stored k b) same
  | inr other ↦
      let off : (c.file == f) ≡ false = grind (arith, nat_tests, other) in
      let under : b < counts_in cs f = subst (λ k. b < k) (cond_other (c.file == f) c.blocks (counts_in cs f) off) low in
      let at : 1024 * (c.blocks + blocks_before f cs + b) ≡ 1024 * c.blocks + 1024 * (blocks_before f cs + b) = omega arith in
      ap (λ k. range (1024 * (k + b)) 1024 (body_bytes stored (c ∷ cs))) (cond_other (c.file == f) 0 (c.blocks + blocks_before f cs) off)
      ∙ ap (λ k. range k 1024 (body_bytes stored (c ∷ cs))) at
      ∙ range_behind (1024 * c.blocks) (1024 * (blocks_before f cs + b)) 1024 (file_bytes stored c.file c.blocks) (body_bytes stored cs) (file_size stored c.file c.blocks whole.0)
      ∙ body_there stored cs f b whole.1 under
]

-- ---- the counts rise, so no file is named twice

low_none : (low : ℕ) (cs : List FileCount) (f : ℕ) → counts_rise low cs ≡ true → f < low → counts_in cs f ≡ 0
low_none low [] f rises under = refl
low_none low (c ∷ cs) f rises under =
    let one = both (nat_le low c.file) _ rises in
    let two = both (nat_le c.file 30200) _ one.1 in
    let three = both (nat_le c.blocks 2097152) _ two.1 in
    let least : low ≤ c.file = le_of low c.file one.0 in
    let apart : c.file ≢ f = λ e. absurd (omega (arith, e, least, under)) in
    let off : (c.file == f) ≡ false = grind (arith, nat_tests, apart) in
    cond_other (c.file == f) c.blocks (counts_in cs f) off ∙ low_none (c.file + 1) cs f three.1 (omega (arith, least, under))

pub each_whole : (stored : Stored) (low : ℕ) (cs : List FileCount) → counts_rise low cs ≡ true → AllStored stored cs → EachWhole stored cs
each_whole stored low [] rises whole = tt
each_whole stored low (c ∷ cs) rises whole =
    let one = both (nat_le low c.file) _ rises in
    let two = both (nat_le c.file 30200) _ one.1 in
    let three = both (nat_le c.blocks 2097152) _ two.1 in
    let itself : c.file ≡ c.file = refl in
    let on : (c.file == c.file) ≡ true = grind (arith, nat_tests, itself) in (
      (λ b under. whole c.file b (subst (λ k. b < k) (sym (cond_same (c.file == c.file) c.blocks (counts_in cs c.file) on)) under)),
      each_whole stored (c.file + 1) cs three.1 (λ f b under. elim (cases_eq c.file f) [
        | inl same ↦ absurd (omega (arith, under, low_none (c.file + 1) cs f three.1 (omega (arith, same))))
        | inr other ↦
            let off : (c.file == f) ≡ false = grind (arith, nat_tests, other) in
            whole f b (subst (λ k. b < k) (sym (cond_other (c.file == f) c.blocks (counts_in cs f) off)) under)
      ]),
    )

-- ---- the whole file

pub take_behind : (n : ℕ) (xs ys : List ℕ) → length xs ≤ n → take n (xs ++ ys) ≡ xs ++ take (n - length xs) ys
take_behind n xs ys few = let e : n ≡ length xs + (n - length xs) = omega (arith, few) in ap (λ k. take k (xs ++ ys)) e ∙ take-append-add xs ys (n - length xs)

pub written_size : (gate : ℕ) (h : Head) (stored : Stored) → EachWhole stored h.counts → length (dump_file gate h stored) ≡ 1 + head_size h + 1024 * all_blocks h.counts
unfolding dump_file
written_size gate h stored whole = omega (arith, length-append (head_bytes h) (body_bytes stored h.counts), size_is h, body_size stored h.counts whole)

front : (gate : ℕ) (h : Head) (stored : Stored) → IsHead h → range 1 1634 (dump_file gate h stored) ≡ head_bytes h ++ take (1634 - length (head_bytes h)) (body_bytes stored h.counts)
unfolding range dump_file
front gate h stored is = take_behind 1634 (head_bytes h) (body_bytes stored h.counts) (omega (arith, size_is h, size_bound h is))

head_there : (gate : ℕ) (h : Head) (stored : Stored) → IsHead h → EachWhole stored h.counts → head_in (dump_file gate h stored) ≡ Some h
unfolding head_in whole_head
head_there gate h stored is whole =
    let file = dump_file gate h stored in
    let rest = take (1634 - length (head_bytes h)) (body_bytes stored h.counts) in
    let size = written_size gate h stored whole in
    let on : (length file == 1 + head_size h + 1024 * all_blocks h.counts) ≡ true = grind (arith, nat_tests, size) in
    ap (λ (o : Option (Head × List ℕ)). o >>= (λ x. whole_head file x.0)) (ap head_first (front gate h stored is) ∙ head_again h rest is)
    ∙ ap (λ b. let o : Option Head = cond b (Some h) None in o) on

block_is : (gate : ℕ) (h : Head) (stored : Stored) (f b : ℕ) → EachWhole stored h.counts → b < counts_in h.counts f → dumped_block h (dump_file gate h stored) f b ≡ stored f b
unfolding dumped_block dump_file
block_is gate h stored f b whole low =
    range_behind (1 + head_size h) (1024 * (blocks_before f h.counts + b)) 1024 (gate ∷ head_bytes h) (body_bytes stored h.counts) (omega (arith, size_is h))
    ∙ body_there stored h.counts f b whole low

map_same : (n : ℕ) (x y : ℕ → List ℕ) → ((b : ℕ) → b < n → x b ≡ y b) → map x (range_with_len 0 n) ≡ map y (range_with_len 0 n)
map_same n x y same =
    let a = length-map-range_with_len x 0 n in
    let c = length-map-range_with_len y 0 n in
    ext_get_or [] (map x (range_with_len 0 n)) (map y (range_with_len 0 n)) (a ∙ sym c) (λ k under.
    let low : k < n = omega (arith, under, a) in
    let at : 0 + k ≡ k = omega arith in
    get_or-map-range_with_len x 0 n k k [] low at ∙ same k low ∙ sym (get_or-map-range_with_len y 0 n k k [] low at))

pub dump_is_read : (gate : ℕ) (h : Head) (stored : Stored) → IsHead h → AllStored stored h.counts → DumpIsRead gate h stored
unfolding dump_of content_of
dump_is_read gate h stored is all =
    let whole = each_whole stored 30001 h.counts is.rising all in
    let file = dump_file gate h stored in
    let found = head_there gate h stored is whole in
    let blocks : (f : ℕ) → map (dumped_block h file f) (range_with_len 0 (counts_in h.counts f)) ≡ map (stored f) (range_with_len 0 (counts_in h.counts f)) =
    λ f. map_same (counts_in h.counts f) (dumped_block h file f) (stored f) (λ b low. block_is gate h stored f b whole low) in
    record {
      head = found;
      dump = ap (λ (o : Option Head). dump_by_head o file) found ∙ (λ i. record { point = h.point; end = end_of h; blocks = λ f. blocks f i });
    }
