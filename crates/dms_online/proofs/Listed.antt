-- The counts of a dump, as a table has them.
use Rattle.std.specs.Prelude.{◌&&◌, nat_le, nat_lt}
use Rattle.std.proofs.lemmas.Bool.{cases_lt}
use Rattle.std.proofs.lemmas.Bool.Decides.{nat_tests}
use Rattle.std.proofs.lemmas.List.{take_more}
use Rattle.std.proofs.lemmas.Option.{none-some}
use Rattle.std.proofs.Common.{ℕ, suc, ◌+◌, ◌-◌, ◌*◌, ◌<◌, ◌≤◌, ◌≡◌, ◌==◌, inl, inr, Bool, true, false, List, [], ◌∷◌, ◌++◌, length, take, get_or, Some, refl, sym, ◌∙◌, ap, length-take, arith}
use Rattle.dms_audrec.specs.Spelling.{counts_rise}
use Rattle.dms_dump.proofs.Bodies.{cond_same, cond_other}
use Rattle.dms_dump.specs.Copies.{id_at}
use Rattle.dms_dump.specs.Head.{all_blocks}
use Rattle.dms_history.proofs.Picks.{some_is}
use Rattle.dms_history.specs.Entries.{counts_in}
use Rattle.dms_history.specs.declared.event.FileCount.{FileCount}
use Rattle.dms_restore.proofs.CountBytes.{count_small, counts_say}
use Rattle.dms_restore.specs.Counts.{count_of, file_counts}
use Rattle.dms_wal.specs.Lifting.{AreCounts}

counts_more : (k : ℕ) (ns : List ℕ) (n : ℕ) → file_counts k (ns ++ n ∷ []) ≡ file_counts k ns ++ (record { file = k + length ns; blocks = n }) ∷ []
counts_more k [] n = let e : k ≡ k + 0 = omega arith in ap (λ f. (let c : FileCount = record { file = f; blocks = n } in c) ∷ []) e
counts_more k (m ∷ ns) n =
    let e : k + 1 + length ns ≡ k + suc (length ns) = omega arith in
    let c : FileCount = record { file = k; blocks = m } in
    ap (λ (l : List FileCount). c ∷ l) (counts_more (k + 1) ns n ∙ ap (λ f. file_counts (k + 1) ns ++ (let d : FileCount = record { file = f; blocks = n } in d) ∷ []) e)

-- one file more is listed
pub listed_more : (counts : List ℕ) (i : ℕ) (x : FileCount) (old new : List FileCount) → i < length counts → x ≡ record { file = 30001 + i; blocks = get_or counts i 0 } → old ≡ file_counts 30001 (take i counts) → new ≡ old ++ x ∷ [] → new ≡ file_counts 30001 (take (i + 1) counts)
listed_more counts i x old new low is done added =
    let many : 30001 + length (take i counts) ≡ 30001 + i = omega (arith, low, length-take i counts) in
    added ∙ (λ j. done j ++ is j ∷ [])
    ∙ sym (ap (file_counts 30001) (take_more counts i 0 low) ∙ counts_more 30001 (take i counts) (get_or counts i 0)
    ∙ ap (λ f. file_counts 30001 (take i counts) ++ (let c : FileCount = record { file = f; blocks = get_or counts i 0 } in c) ∷ []) many)

le_true : (a b : ℕ) → a ≤ b → nat_le a b ≡ true
le_true a b le = grind (arith, nat_tests, le)

all_true : (a b c d : Bool) → a ≡ true → b ≡ true → c ≡ true → d ≡ true → (a && (b && (c && d))) ≡ true
all_true a b c d one two three four = (λ i. one i && (two i && (three i && four i)))

all_rise : (k : ℕ) (ns : List ℕ) → k + length ns ≤ 30201 → ((i : ℕ) → get_or ns i 0 ≤ 2097152) → counts_rise k (file_counts k ns) ≡ true
all_rise k [] few small = refl
all_rise k (n ∷ ns) few small = all_true _ _ _ _ (le_true k k (omega arith)) (le_true k 30200 (omega (arith, few))) (le_true n 2097152 (small 0)) (all_rise (k + 1) ns (omega (arith, few)) (λ i. small (suc i)))

as_many : (k : ℕ) (ns : List ℕ) → length (file_counts k ns) ≡ length ns
as_many k [] = refl
as_many k (n ∷ ns) = ap suc (as_many (k + 1) ns)

-- no more blocks than there may be
all_few : (k : ℕ) (ns : List ℕ) → ((i : ℕ) → get_or ns i 0 ≤ 2097152) → all_blocks (file_counts k ns) ≤ 2097152 * length ns
all_few k [] small = omega arith
all_few k (n ∷ ns) small = omega (arith, small 0, all_few (k + 1) ns (λ i. small (suc i)))

-- a block that is named is below the count of its file
named_low : (k : ℕ) (ns : List ℕ) (n f b : ℕ) → id_at (file_counts k ns) n ≡ Some (f, b) → (k ≤ f) × (b < counts_in (file_counts k ns) f)
named_low k [] n f b is = absurd (none-some (f, b) is)
named_low k (m ∷ ns) n f b is = elim (cases_lt n m) [
  | inl here ↦
      let on : nat_lt n m ≡ true = grind (arith, nat_tests, here) in
      let p = some_is (k, n) (f, b) (sym (cond_same (nat_lt n m) (Some (k, n)) (id_at (file_counts (k + 1) ns) (n - m)) on) ∙ is) in
      let file : k ≡ f = ap (λ (x : ℕ × ℕ). x.0) p in
      let block : n ≡ b = ap (λ (x : ℕ × ℕ). x.1) p in
      let same : (k == f) ≡ true = grind (arith, nat_tests, file) in
      (omega (arith, file), omega (arith, here, block, cond_same (k == f) m (counts_in (file_counts (k + 1) ns) f) same))
  | inr behind ↦
      let off : nat_lt n m ≡ false = grind (arith, nat_tests, behind) in
      let rest = named_low (k + 1) ns (n - m) f b (sym (cond_other (nat_lt n m) (Some (k, n)) (id_at (file_counts (k + 1) ns) (n - m)) off) ∙ is) in
      let above = rest.0 in
      let other : (k == f) ≡ false = grind (arith, nat_tests, above) in
      (omega (arith, above), omega (arith, rest.1, cond_other (k == f) m (counts_in (file_counts (k + 1) ns) f) other))
]

module _ (ns : List ℕ) (t : AreCounts ns) (list : List FileCount) (is : list ≡ file_counts 30001 ns) where
  pub listed_few : length list ≤ 200
  listed_few = omega (arith, t.few, as_many 30001 ns, ap length is)

  small : (i : ℕ) → get_or ns i 0 ≤ 2097152
  small = count_small ns (record { few = t.few; small = t.small })

  pub listed_rise : counts_rise 30001 list ≡ true
  listed_rise = ap (counts_rise 30001) is ∙ all_rise 30001 ns (omega (arith, t.few)) small

  pub listed_blocks : all_blocks list ≤ 419430400
  listed_blocks = omega (arith, t.few, all_few 30001 ns small, ap all_blocks is)

-- so each of them is there
pub listed_there : (ns : List ℕ) (list : List FileCount) → list ≡ file_counts 30001 ns → (n f b : ℕ) → id_at list n ≡ Some (f, b) → b < count_of ns f
listed_there ns list is n f b named = omega (arith, (named_low 30001 ns n f b (ap (λ (l : List FileCount). id_at l n) (sym is) ∙ named)).1, counts_say ns f)
