-- A head that was read from the front of a file.
use Rattle.std.specs.Prelude.{nat_le, ◌==◌, if◌then◌else◌, option_map}
use Rattle.std.proofs.Common.{ℕ, zero, suc, ◌+◌, ◌*◌, ◌-◌, ◌<◌, ◌≤◌, ◌≡◌, ◌≢◌, inl, inr, true, false, List, [], ◌∷◌, ◌++◌, length, take, drop, get_or, Option, Some, None, refl, sym, ◌∙◌, ap, arith, append_assoc, append-nil, length-drop, ◌⊎◌}
use Rattle.std.proofs.lemmas.List.{take_all}
use Rattle.std.specs.Int.{w32, from_be_bytes}
use Rattle.std.proofs.lemmas.Bool.Decides.{nat_tests}
use Rattle.dms_fields.specs.Prefix.{◌>>=◌}
use Rattle.dms_site.specs.Files.{range}
use Rattle.dms_history.specs.declared.event.FileCount.{FileCount}
use Rattle.dms_audrec.specs.Spelling.{counts_rise}
use Rattle.dms_audrec.specs.Reading.{counts_at}
use Rattle.dms_dump.specs.Head.{Head, head_size, all_blocks, head_first, whole_head, head_in}
use Rattle.dms_dump.specs.Judged.{missing, unsealed, damaged, sealed, read_head, dump_read}
use Rattle.dms_dump.proofs.HeadRead.{both, le_of}

-- one count more is read
pub counts_cons : (k : ℕ) (bytes : List ℕ) (x : FileCount) (items : List FileCount) → 0 < k → x.file ≡ from_be_bytes w32 (take 4 bytes) → x.blocks ≡ from_be_bytes w32 (take 4 (drop 4 bytes))
    → (items ++ x ∷ []) ++ counts_at (k - 1) (drop 8 bytes) ≡ items ++ counts_at k bytes
unfolding counts_at
counts_cons zero bytes x items some file blocks = absurd (omega (arith, some))
counts_cons (suc k) bytes x items some file blocks =
    let e : suc k - 1 ≡ k = omega arith in
    append_assoc items (x ∷ []) (counts_at (suc k - 1) (drop 8 bytes)) ∙ (λ i. items ++ (record { file = file i; blocks = blocks i }) ∷ counts_at (e i) (drop 8 bytes))

pub counts_none : (k : ℕ) (bytes : List ℕ) (items : List FileCount) → k ≡ 0 → items ++ counts_at k bytes ≡ items
unfolding counts_at
counts_none zero bytes items none = append-nil items
counts_none (suc k) bytes items none = absurd (omega (arith, none))

-- rising counts of structure files are few
pub rise_few : (low : ℕ) (cs : List FileCount) → counts_rise low cs ≡ true → low + length cs ≤ 30201 ⊎ (length cs ≡ 0)
rise_few low [] rises = inr refl
rise_few low (c ∷ cs) rises =
    let one = both (nat_le low c.file) _ rises in
    let two = both (nat_le c.file 30200) _ one.1 in
    let three = both (nat_le c.blocks 2097152) _ two.1 in
    let least = le_of low c.file one.0 in
    let most = le_of c.file 30200 two.0 in
    inl (elim (rise_few (c.file + 1) cs three.1) [
      | inl some ↦ omega (arith, some, least)
      | inr none ↦ omega (arith, none, least, most)
    ])

pub rise_200 : (cs : List FileCount) → counts_rise 30001 cs ≡ true → length cs ≤ 200
rise_200 cs rises = elim (rise_few 30001 cs rises) [
  | inl some ↦ omega (arith, some)
  | inr none ↦ omega (arith, none)
]

-- ---- what the file of a dump is found to be

front_is : (b : ℕ) (bytes file : List ℕ) → b ∷ bytes ≡ range 0 1635 file → (rest : List ℕ) × (file ≡ b ∷ rest) × (bytes ≡ range 1 1634 file)
unfolding range
front_is b bytes [] is = absurd cc
front_is b bytes (c ∷ rest) is = (rest, (let e : c ≡ b = sym (ap (λ (l : List ℕ). head_or l) is) in ap (λ k. k ∷ rest) e), ap (λ (l : List ℕ). drop 1 l) is)
  where
    head_or : List ℕ → ℕ
    head_or [] = 0
    head_or (x ∷ xs) = x

pub nothing_there : (front file : List ℕ) → front ≡ [] → front ≡ range 0 1635 file → dump_read file ≡ missing
unfolding range dump_read
nothing_there front [] none is = refl
nothing_there front (c ∷ rest) none is = absurd (omega (arith, ap length none, ap length is))

pub shut_there : (b : ℕ) (bytes file : List ℕ) → b ≢ 1 → b ∷ bytes ≡ range 0 1635 file → dump_read file ≡ unsealed
unfolding dump_read
shut_there b bytes file other is =
    let f = front_is b bytes file is in
    let off : (b == 1) ≡ false = grind (arith, nat_tests, other) in
    ap dump_read f.1 ∙ ap (λ t. if t then read_head (head_in (b ∷ f.0)) else unsealed) off

open_there : (bytes file : List ℕ) → 1 ∷ bytes ≡ range 0 1635 file → dump_read file ≡ read_head (head_in file)
unfolding dump_read
open_there bytes file is =
    let f = front_is 1 bytes file is in
    ap dump_read f.1 ∙ ap (λ (l : List ℕ). read_head (head_in l)) (sym f.1)

pub no_head_there : (bytes file : List ℕ) → 1 ∷ bytes ≡ range 0 1635 file → option_map (λ (x : Head × List ℕ). x.0) (head_first bytes) ≡ None → dump_read file ≡ damaged
unfolding head_in
no_head_there bytes file is none =
    open_there bytes file is ∙ ap (λ (l : List ℕ). read_head (head_first l >>= (λ x. whole_head file x.0))) (sym (front_is 1 bytes file is).2) ∙ go (head_first bytes) none
  where
    go : (o : Option (Head × List ℕ)) → option_map (λ (x : Head × List ℕ). x.0) o ≡ None → read_head (o >>= (λ x. whole_head file x.0)) ≡ damaged
    go None e = refl
    go (Some x) e = absurd cc

head_there : (bytes file : List ℕ) (h : Head) → 1 ∷ bytes ≡ range 0 1635 file → option_map (λ (x : Head × List ℕ). x.0) (head_first bytes) ≡ Some h → dump_read file ≡ read_head (whole_head file h)
unfolding head_in
head_there bytes file h is some =
    open_there bytes file is ∙ ap (λ (l : List ℕ). read_head (head_first l >>= (λ x. whole_head file x.0))) (sym (front_is 1 bytes file is).2) ∙ go (head_first bytes) some
  where
    go : (o : Option (Head × List ℕ)) → option_map (λ (x : Head × List ℕ). x.0) o ≡ Some h → read_head (o >>= (λ x. whole_head file x.0)) ≡ read_head (whole_head file h)
    go None e = absurd cc
    go (Some x) e = let same : x.0 ≡ h = cc in ap (λ (k : Head). read_head (whole_head file k)) same

pub whole_there : (bytes file : List ℕ) (h : Head) → 1 ∷ bytes ≡ range 0 1635 file → option_map (λ (x : Head × List ℕ). x.0) (head_first bytes) ≡ Some h → length file ≡ 1 + head_size h + 1024 * all_blocks h.counts → dump_read file ≡ sealed h
unfolding whole_head
whole_there bytes file h is some size =
    let on : (length file == 1 + head_size h + 1024 * all_blocks h.counts) ≡ true = grind (arith, nat_tests, size) in
    head_there bytes file h is some ∙ ap (λ b. read_head (if b then Some h else None)) on

pub short_there : (bytes file : List ℕ) (h : Head) → 1 ∷ bytes ≡ range 0 1635 file → option_map (λ (x : Head × List ℕ). x.0) (head_first bytes) ≡ Some h → length file ≢ 1 + head_size h + 1024 * all_blocks h.counts → dump_read file ≡ damaged
unfolding whole_head
short_there bytes file h is some size =
    let off : (length file == 1 + head_size h + 1024 * all_blocks h.counts) ≡ false = grind (arith, nat_tests, size) in
    head_there bytes file h is some ∙ ap (λ b. read_head (if b then Some h else None)) off

-- ---- the same of the first bytes, where they are kept

front_cons : (front : List ℕ) (b : ℕ) → 0 < length front → get_or front 0 0 ≡ b → b ∷ drop 1 front ≡ front
front_cons [] b some is = absurd (omega (arith, some))
front_cons (x ∷ xs) b some is = ap (λ k. k ∷ xs) (sym is)

head_same : (a h : Head) (o : Option Head) → Some a ≡ o → a ≡ h → o ≡ Some h
head_same a h o some same = sym some ∙ ap (λ (k : Head). Some k) same

module _ (front file : List ℕ) (is : front ≡ range 0 1635 file) where
  pub none_read : length front ≡ 0 → dump_read file ≡ missing
  none_read none = nothing_there front file (no_bytes front none) is
    where
      no_bytes : (l : List ℕ) → length l ≡ 0 → l ≡ []
      no_bytes [] e = refl
      no_bytes (x ∷ xs) e = absurd (omega (arith, e))

  pub shut_read : 0 < length front → get_or front 0 0 ≢ 1 → dump_read file ≡ unsealed
  shut_read some other = shut_there (get_or front 0 0) (drop 1 front) file other (front_cons front (get_or front 0 0) some refl ∙ is)

  pub no_head_read : 0 < length front → get_or front 0 0 ≡ 1 → None ≡ option_map (λ (x : Head × List ℕ). x.0) (head_first (drop 1 front)) → dump_read file ≡ damaged
  no_head_read some one none = no_head_there (drop 1 front) file (front_cons front 1 some one ∙ is) (sym none)

  pub short_head : (a h : Head) (size : ℕ) → 0 < length front → get_or front 0 0 ≡ 1 → Some a ≡ option_map (λ (x : Head × List ℕ). x.0) (head_first (drop 1 front)) → a ≡ h → size ≡ length file → size ≢ 1 + head_size h + 1024 * all_blocks h.counts → dump_read file ≡ damaged
  short_head a h size some one found same long other =
      short_there (drop 1 front) file h (front_cons front 1 some one ∙ is) (head_same a h _ found same) (λ e. other (long ∙ e))

  pub whole_read : (a h : Head) (size : ℕ) → 0 < length front → get_or front 0 0 ≡ 1 → Some a ≡ option_map (λ (x : Head × List ℕ). x.0) (head_first (drop 1 front)) → a ≡ h → size ≡ length file → size ≡ 1 + head_size h + 1024 * all_blocks h.counts → dump_read file ≡ sealed h
  whole_read a h size some one found same long equal =
      whole_there (drop 1 front) file h (front_cons front 1 some one ∙ is) (head_same a h _ found same) (sym long ∙ equal)

pub to_end : (front : List ℕ) → take (length front - 1) (drop 1 front) ≡ drop 1 front
to_end front = take_all (length front - 1) (drop 1 front) (omega (arith, length-drop 1 front))
