-- Lists of counts.
use Rattle.std.specs.Prelude.{◌&&◌, nat_le}
use Rattle.std.proofs.lemmas.Bool.Decides.{nat_tests}
use Rattle.dms_audrec.specs.Spelling.{counts_rise}
use Rattle.dms_restore.proofs.CountBytes.{count_small}
use Rattle.dms_wal.specs.Lifting.{AreCounts}
use Rattle.std.proofs.Common.{ℕ, suc, ◌+◌, ◌<◌, ◌≤◌, ◌≡◌, Bool, true, List, [], ◌∷◌, ◌++◌, length, take, get_or, refl, sym, ◌∙◌, ap, length-take, arith}
use Rattle.std.proofs.lemmas.List.{take_more}
use Rattle.dms_history.specs.declared.event.FileCount.{FileCount}
use Rattle.dms_restore.specs.Counts.{file_counts}

counts_more : (k : ℕ) (ns : List ℕ) (n : ℕ) → file_counts k (ns ++ n ∷ []) ≡ file_counts k ns ++ (record { file = k + length ns; blocks = n }) ∷ []
counts_more k [] n = let e : k ≡ k + 0 = omega arith in ap (λ f. (let c : FileCount = record { file = f; blocks = n } in c) ∷ []) e
counts_more k (m ∷ ns) n =
    let e : k + 1 + length ns ≡ k + suc (length ns) = omega arith in
    let c : FileCount = record { file = k; blocks = m } in
    ap (λ (l : List FileCount). c ∷ l) (counts_more (k + 1) ns n ∙ ap (λ f. file_counts (k + 1) ns ++ (let d : FileCount = record { file = f; blocks = n } in d) ∷ []) e)

-- one file more is listed
pub listed_more : (counts : List ℕ) (i : ℕ) (x : FileCount) (old new : List FileCount) → i < length counts → x ≡ record { file = 30001 + i; blocks = get_or counts i 0 } → old ≡ file_counts 30001 (take i counts) → new ≡ old ++ x ∷ [] → new ≡ file_counts 30001 (take (i + 1) counts)
listed_more counts i x old new low is done added =
    let many : 30001 + length (take i counts) ≡ 30001 + i = omega (arith, low, length-take i counts) in
    added ∙ (λ j. done j ++ is j ∷ [])
    ∙ sym (ap (file_counts 30001) (take_more counts i 0 low) ∙ counts_more 30001 (take i counts) (get_or counts i 0)
    ∙ ap (λ f. file_counts 30001 (take i counts) ++ (let c : FileCount = record { file = f; blocks = get_or counts i 0 } in c) ∷ []) many)

-- ---- they rise

le_true : (a b : ℕ) → a ≤ b → nat_le a b ≡ true
le_true a b le = grind (arith, nat_tests, le)

all_true : (a b c d : Bool) → a ≡ true → b ≡ true → c ≡ true → d ≡ true → (a && (b && (c && d))) ≡ true
all_true a b c d one two three four = (λ i. one i && (two i && (three i && four i)))

all_rise : (k : ℕ) (ns : List ℕ) → k + length ns ≤ 30201 → ((i : ℕ) → get_or ns i 0 ≤ 2097152) → counts_rise k (file_counts k ns) ≡ true
all_rise k [] few small = refl
all_rise k (n ∷ ns) few small = all_true _ _ _ _ (le_true k k (omega arith)) (le_true k 30200 (omega (arith, few))) (le_true n 2097152 (small 0)) (all_rise (k + 1) ns (omega (arith, few)) (λ i. small (suc i)))

as_many : (k : ℕ) (ns : List ℕ) → length (file_counts k ns) ≡ length ns
as_many k [] = refl
as_many k (n ∷ ns) = ap suc (as_many (k + 1) ns)

module _ (ns : List ℕ) (t : AreCounts ns) (list : List FileCount) (is : list ≡ file_counts 30001 ns) where
  pub listed_few : length list ≤ 200
  listed_few = omega (arith, t.few, as_many 30001 ns, ap length is)

  pub listed_rise : counts_rise 30001 list ≡ true
  listed_rise = ap (counts_rise 30001) is ∙ all_rise 30001 ns (omega (arith, t.few)) (count_small ns (record { few = t.few; small = t.small }))
