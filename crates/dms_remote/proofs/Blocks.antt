-- The blocks of a trail's files, one file after another, and their records.
use Rattle.std.proofs.Common.{ℕ, zero, suc, ◌+◌, ◌-◌, ◌<◌, ◌≤◌, ◌≡◌, ◌==◌, ◌∙◌, inl, inr, Bool, true, false, cond, ◌&&◌, sym, ap, subst, refl, List, [], ◌∷◌, ◌++◌, length, append_assoc, append-nil, Some, None, Option, arith}
use Rattle.std.proofs.lemmas.Bool.Decides.{nat_tests}
use Rattle.std.proofs.lemmas.Bool.{cases_lt, cases_eq}
use Rattle.dms_site.specs.Files.{Files}
use Rattle.dms_audfile.specs.Gates.{block_at, blocks_from, count_open, sealed_blocks, is_full}
use Rattle.dms_audfile.specs.Blocks.{block_entries, EntryInBlock}
use Rattle.dms_audfile.specs.Trail.{trail_from}
use Rattle.dms_audfile.specs.Copies.{AreInGrammar}
use Rattle.dms_audfile.proofs.Copies.{found_are_blocks}
use Rattle.dms_audfile.proofs.Followed.{full_opened}
use Rattle.dms_audfile.proofs.Gates.{stands_opened}
use Rattle.dms_stream.specs.Stream.{Heading, record_bytes, records_bytes}
use Rattle.dms_remote.specs.Shipping.{IsShipped, placed_bytes, AreWhole}
use Rattle.dms_remote.specs.Files.{EndsIn}

-- ---- one file

pub blocks_many : (n i : ℕ) (file : List ℕ) → length (blocks_from n i file) ≡ n
blocks_many zero i file = refl
blocks_many (suc n) i file = ap (λ (k : ℕ). suc k) (blocks_many n (i + 1) file)

-- block i and those behind it
pub blocks_turn : (count i : ℕ) (file : List ℕ) → i < count + 1 → blocks_from (count + 1 - i) i file ≡ block_at i file ∷ blocks_from (count + 1 - (i + 1)) (i + 1) file
blocks_turn count i file less = by (count + 1 - i) refl
  where
    by : (n : ℕ) → n ≡ count + 1 - i → blocks_from n i file ≡ block_at i file ∷ blocks_from (count + 1 - (i + 1)) (i + 1) file
    by zero e = absurd (omega (arith, e, less))
    by (suc m) e = let left : m ≡ count + 1 - (i + 1) = omega (arith, e, less) in ap (λ (n : ℕ). block_at i file ∷ blocks_from n (i + 1) file) left

pub full_blocks : (total : ℕ) (file : List ℕ) → is_full total file ≡ true → sealed_blocks total file ≡ blocks_from total 1 file
unfolding sealed_blocks
full_blocks total file is = ap (λ (n : ℕ). blocks_from n 1 file) (full_opened total file is)

pub part_blocks : (total count : ℕ) (file : List ℕ) → count_open total file ≡ count → sealed_blocks total file ≡ blocks_from count 1 file
unfolding sealed_blocks
part_blocks total count file is = ap (λ (n : ℕ). blocks_from n 1 file) is

pub part_full : (total count : ℕ) (file : List ℕ) → count_open total file ≡ count → count < total → is_full total file ≡ false
unfolding is_full
part_full total count file is less = grind (arith, nat_tests, is, less)

-- ---- the files up to the last one

-- the blocks of file g and of those behind it
abbrev pub rest_at : ℕ → ℕ → ℕ → Files → List (List ℕ)
rest_at total last g files = trail_from (last + 1 - g) total g files

rest_full : (total last g : ℕ) (files : Files) → g < last → is_full total (files g) ≡ true → rest_at total last g files ≡ blocks_from total 1 (files g) ++ rest_at total last (g + 1) files
rest_full total last g files less is = by (last + 1 - g) refl
  where
    by : (n : ℕ) → n ≡ last + 1 - g → trail_from n total g files ≡ blocks_from total 1 (files g) ++ rest_at total last (g + 1) files
    by zero e = absurd (omega (arith, e, less))
    by (suc m) e =
        let left : m ≡ last + 1 - (g + 1) = omega (arith, e, less) in
        ap (λ (t : Bool). cond t (sealed_blocks total (files g) ++ trail_from m total (g + 1) files) (sealed_blocks total (files g))) is
        ∙ (λ i. full_blocks total (files g) is i ++ trail_from (left i) total (g + 1) files)

rest_last : (total count g : ℕ) (files : Files) → count_open total (files g) ≡ count → count < total → rest_at total g g files ≡ blocks_from count 1 (files g)
rest_last total count g files is less = by (g + 1 - g) refl
  where
    by : (n : ℕ) → n ≡ g + 1 - g → trail_from n total g files ≡ blocks_from count 1 (files g)
    by zero e = absurd (omega (arith, e))
    by (suc m) e =
        ap (λ (t : Bool). cond t (sealed_blocks total (files g) ++ trail_from m total (g + 1) files) (sealed_blocks total (files g))) (part_full total count (files g) is less) ∙ part_blocks total count (files g) is

pub rest_behind : (total last g : ℕ) (files : Files) → last < g → rest_at total last g files ≡ []
rest_behind total last g files less = let none : last + 1 - g ≡ 0 = omega (arith, less) in ap (λ (n : ℕ). trail_from n total g files) none

-- ---- records

records_full : (total k i : ℕ) (b : List ℕ) (bs rest : List (List ℕ)) → i + length bs ≡ total → records_bytes total k i ((b ∷ bs) ++ rest) ≡ placed_bytes k i (b ∷ bs) ++ records_bytes total (k + 1) 1 rest
records_full total k i b [] rest is =
    let here : (i == total) ≡ true = grind (arith, nat_tests, is) in
    ap (λ (t : Bool). record_bytes k i b ++ cond t (records_bytes total (k + 1) 1 rest) (records_bytes total k (i + 1) rest)) here
    ∙ ap (λ (l : List ℕ). l ++ records_bytes total (k + 1) 1 rest) (sym (append-nil (record_bytes k i b)))
records_full total k i b (c ∷ cs) rest is =
    let here : (i == total) ≡ false = grind (arith, nat_tests, is) in
    ap (λ (t : Bool). record_bytes k i b ++ cond t (records_bytes total (k + 1) 1 ((c ∷ cs) ++ rest)) (records_bytes total k (i + 1) ((c ∷ cs) ++ rest))) here
    ∙ ap (λ (l : List ℕ). record_bytes k i b ++ l) (records_full total k (i + 1) c cs rest (omega (arith, is)))
    ∙ sym (append_assoc (record_bytes k i b) (placed_bytes k (i + 1) (c ∷ cs)) (records_bytes total (k + 1) 1 rest))

records_part : (total k i : ℕ) (bs : List (List ℕ)) → i + length bs ≤ total → records_bytes total k i bs ≡ placed_bytes k i bs
records_part total k i [] le = refl
records_part total k i (b ∷ bs) le =
    let here : (i == total) ≡ false = grind (arith, nat_tests, le) in
    ap (λ (t : Bool). record_bytes k i b ++ cond t (records_bytes total (k + 1) 1 bs) (records_bytes total k (i + 1) bs)) here
    ∙ ap (λ (l : List ℕ). record_bytes k i b ++ l) (records_part total k (i + 1) bs (omega (arith, le)))

-- the records of a whole file's blocks, and what follows
file_full : (total k : ℕ) (bs rest : List (List ℕ)) → 0 < total → length bs ≡ total → records_bytes total k 1 (bs ++ rest) ≡ placed_bytes k 1 bs ++ records_bytes total (k + 1) 1 rest
file_full total k [] rest some is = absurd (omega (arith, some, is))
file_full total k (b ∷ bs) rest some is = records_full total k 1 b bs rest (omega (arith, is))

-- ---- one more file

whole_front : (a b : List (List ℕ)) → AreWhole (a ++ b) → AreWhole a × AreWhole b
whole_front [] b all = (tt, all)
whole_front (x ∷ xs) b all = let rest = whole_front xs b all.1 in ((all.0, rest.0), rest.1)

-- its records, and those of the files behind it
pub record FileTurn (total k last g c : ℕ) (files : Files) : Type 0 where
  pub is : records_bytes total k 1 (rest_at total last g files) ≡ placed_bytes k 1 (blocks_from c 1 (files g)) ++ records_bytes total (k + 1) 1 (rest_at total last (g + 1) files)
  pub whole : AreWhole (rest_at total last g files) → AreWhole (blocks_from c 1 (files g)) × AreWhole (rest_at total last (g + 1) files)

full_turn : (total k last g : ℕ) (files : Files) → 0 < total → g < last → is_full total (files g) ≡ true → FileTurn total k last g total files
full_turn total k last g files some less is =
    let e = rest_full total last g files less is in
    record {
      is = ap (λ (bs : List (List ℕ)). records_bytes total k 1 bs) e ∙ file_full total k (blocks_from total 1 (files g)) (rest_at total last (g + 1) files) some (blocks_many total 1 (files g));
      whole = λ all. whole_front (blocks_from total 1 (files g)) (rest_at total last (g + 1) files) (subst AreWhole e all);
    }

last_turn : (total k g count : ℕ) (files : Files) → count_open total (files g) ≡ count → count < total → FileTurn total k g g count files
last_turn total k g count files is less =
    let e = rest_last total count g files is less in
    let none = rest_behind total g (g + 1) files (omega arith) in
    record {
      is = ap (λ (bs : List (List ℕ)). records_bytes total k 1 bs) e ∙ records_part total k 1 (blocks_from count 1 (files g)) (omega (arith, blocks_many count 1 (files g), less))
          ∙ sym (append-nil (placed_bytes k 1 (blocks_from count 1 (files g)))) ∙ ap (λ (bs : List (List ℕ)). placed_bytes k 1 (blocks_from count 1 (files g)) ++ records_bytes total (k + 1) 1 bs) (sym none);
      whole = λ all. (subst AreWhole e all, subst AreWhole (sym none) tt);
    }

pub file_turn : (k total last count g c : ℕ) (files : Files) → EndsIn k total last count files → 10000 + k ≤ g → g ≤ last → c ≡ cond (g == last) count total → FileTurn total (g - 10000) last g c files
file_turn k total last count g c files ends low high is = elim (cases_eq g last) [
  | inl here ↦ (let yes : (g == last) ≡ true = grind (arith, nat_tests, here) in
      let c_is : count ≡ c = sym (is ∙ ap (λ (t : Bool). cond t count total) yes) in
      subst (λ (n : ℕ). FileTurn total (g - 10000) last g n files) c_is
      (subst (λ (n : ℕ). FileTurn total (g - 10000) n g count files) here (last_turn total (g - 10000) g count files (ap (λ (n : ℕ). count_open total (files n)) here ∙ ends.opened) ends.not_full)))
  | inr other ↦ (let no : (g == last) ≡ false = grind (arith, nat_tests, other) in
      let c_is : total ≡ c = sym (is ∙ ap (λ (t : Bool). cond t count total) no) in
      let less : g < last = omega (arith, high, other) in
      subst (λ (n : ℕ). FileTurn total (g - 10000) last g n files) c_is (full_turn total (g - 10000) last g files (omega (arith, ends.not_full)) less (ends.full g low less)))
]

-- ---- blocks in the grammar are whole

test_of : (a b : Bool) (x : List EntryInBlock) (y : Option (List EntryInBlock)) → cond (a && b) y None ≡ Some x → a ≡ true
test_of true b x y is = refl
test_of false b x y is = absurd cc

grammar_whole : (block : List ℕ) (es : List EntryInBlock) → block_entries block ≡ Some es → length block ≡ 4096
unfolding block_entries
grammar_whole block es is = let yes = test_of (length block == 4096) _ es _ is in grind (arith, nat_tests, yes)

fit_whole : (blocks : List (List ℕ)) → AreInGrammar blocks → AreWhole blocks
fit_whole [] fit = tt
fit_whole (b ∷ bs) fit = (grammar_whole b fit.0.entries fit.0.read, fit_whole bs fit.1)

-- those of the later files are
later_whole : (d n total first : ℕ) (files : Files) → ((g : ℕ) → first ≤ g → g < first + d → is_full total (files g) ≡ true) → AreWhole (trail_from (d + n) total first files) → AreWhole (trail_from n total (first + d) files)
later_whole zero n total first files full all =
    let e : first ≡ first + 0 = omega arith in
    let m : 0 + n ≡ n = omega arith in
    subst (λ (g : ℕ). AreWhole (trail_from n total g files)) e (subst (λ (k : ℕ). AreWhole (trail_from k total first files)) m all)
later_whole (suc d) n total first files full all =
    let m : suc d + n ≡ suc (d + n) = omega arith in
    let e : first + 1 + d ≡ first + suc d = omega arith in
    let here = ap (λ (t : Bool). cond t (sealed_blocks total (files first) ++ trail_from (d + n) total (first + 1) files) (sealed_blocks total (files first))) (full first (omega arith) (omega arith)) in
    let rest = whole_front (sealed_blocks total (files first)) (trail_from (d + n) total (first + 1) files) (subst AreWhole here (subst (λ (k : ℕ). AreWhole (trail_from k total first files)) m all)) in
    subst (λ (g : ℕ). AreWhole (trail_from n total g files)) e (later_whole d n total (first + 1) files (λ g low high. full g (omega (arith, low)) (omega (arith, high))) rest.1)

whole_both : (a b : List (List ℕ)) → AreWhole a → AreWhole b → AreWhole (a ++ b)
whole_both [] b one two = two
whole_both (x ∷ xs) b one two = (one.0, whole_both xs b one.1 two)

-- those of fewer files are
fewer_whole : (m n total g : ℕ) (files : Files) → m ≤ n → AreWhole (trail_from n total g files) → AreWhole (trail_from m total g files)
fewer_whole zero n total g files le all = tt
fewer_whole (suc m) zero total g files le all = absurd (omega (arith, le))
fewer_whole (suc m) (suc n) total g files le all = by (is_full total (files g)) all (λ rest. fewer_whole m n total (g + 1) files (omega (arith, le)) rest)
  where
    by : (t : Bool) → AreWhole (cond t (sealed_blocks total (files g) ++ trail_from n total (g + 1) files) (sealed_blocks total (files g)))
        → (AreWhole (trail_from n total (g + 1) files) → AreWhole (trail_from m total (g + 1) files))
        → AreWhole (cond t (sealed_blocks total (files g) ++ trail_from m total (g + 1) files) (sealed_blocks total (files g)))
    by true all next = let parts = whole_front (sealed_blocks total (files g)) (trail_from n total (g + 1) files) all in whole_both (sealed_blocks total (files g)) (trail_from m total (g + 1) files) parts.0 (next parts.1)
    by false all next = all

-- so a trail that is shipped ends
pub ends_in : (k : ℕ) (files : Files) (h : Heading) (last count : ℕ) → IsShipped k files h last count → EndsIn k h.total last count files
ends_in k files h last count s =
    let first = s.trail.first in
    let w = s.writes in
    let b = found_are_blocks files s.entries s.trail h.total h.tag last count w in
    let all = fit_whole (trail_from 10000 h.total first files) b.fit in
    record {
      full = λ g low high. w.full g (omega (arith, low, s.within)) high;
      opened = stands_opened h.total count (files last) w.stands;
      not_full = w.not_full;
      whole = elim (cases_lt last (10000 + k)) [
        | inl behind ↦ subst AreWhole (sym (rest_behind h.total last (10000 + k) files behind)) tt
        | inr there ↦ (let d = 10000 + k - first in
            let at : first + d ≡ 10000 + k = omega (arith, s.within) in
            let n = 10000 - d in
            let many : 10000 ≡ d + n = omega (arith, there, b.trail.high, b.trail.low) in
            let later = later_whole d n h.total first files (λ g low high. w.full g low (omega (arith, high, at, there))) (subst (λ (m : ℕ). AreWhole (trail_from m h.total first files)) many all) in
            fewer_whole (last + 1 - (10000 + k)) n h.total (10000 + k) files (omega (arith, many, at, b.trail.high, b.trail.low)) (subst (λ (g : ℕ). AreWhole (trail_from n h.total g files)) at later))
      ];
    }
