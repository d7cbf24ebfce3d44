-- Gates that were read.
use Rattle.std.proofs.Common.{ℕ, zero, suc, ◌+◌, ◌-◌, ◌<◌, ◌≤◌, ◌≡◌, true, List, ◌++◌, length, take, get_or, refl, sym, ◌∙◌, ap, subst, arith, length-append, length-take}
use Rattle.std.proofs.lemmas.Bool.Decides.{nat_tests}
use Rattle.std.proofs.lemmas.List.{get_or-take, get_or_append_left}
use Rattle.dms_site.specs.Files.{range}
use Rattle.dms_site.specs.Laws.{get_or-range, length-range}
use Rattle.dms_audfile.specs.Gates.{gate, opened_from, count_open, is_full}

all_opened : (n i : ℕ) (file : List ℕ) → ((j : ℕ) → i ≤ j → j < i + n → gate j file ≡ 1) → opened_from n i file ≡ n
all_opened zero i file opens = refl
all_opened (suc n) i file opens =
    let here : gate i file ≡ 1 = opens i (omega arith) (omega arith) in
    let rest : opened_from n (i + 1) file ≡ n = all_opened n (i + 1) file (λ j low high. opens j (omega arith) (omega arith)) in
    grind (arith, nat_tests)

-- all gates are open
pub full_by : (total : ℕ) (file : List ℕ) → ((i : ℕ) → i < total → gate (i + 1) file ≡ 1) → is_full total file ≡ true
unfolding is_full count_open
full_by total file opens =
    let all : opened_from total 1 file ≡ total = all_opened total 1 file (λ j low high. let at : j - 1 + 1 ≡ j = omega (arith, low) in subst (λ k. gate k file ≡ 1) at (opens (j - 1) (omega (arith, low, high)))) in
    grind (arith, nat_tests)

-- a byte that was read behind the header's first 512
pub read_gate : (total n i : ℕ) (file bytes rest : List ℕ) → i < total → total ≤ n → n ≡ length (range 512 512 file) → bytes ≡ range 512 512 file ++ rest → (i < length (take total bytes) → get_or (take total bytes) i 0 ≡ 1) → gate (i + 1) file ≡ 1
read_gate total n i file bytes rest low upto count are is =
    let few : i < 512 = omega (arith, low, upto, count, length-range 512 512 file) in
    let long : n ≤ length bytes = omega (arith, count, ap (λ (l : List ℕ). length l) are, length-append (range 512 512 file) rest) in
    let here : get_or bytes i 0 ≡ 1 = sym (get_or-take total bytes i 0 low) ∙ is (omega (arith, low, upto, long, length-take total bytes)) in
    let front : get_or (range 512 512 file ++ rest) i 0 ≡ get_or (range 512 512 file) i 0 = get_or_append_left (range 512 512 file) rest 0 i (omega (arith, low, upto, count)) in
    let at : 512 + i ≡ 511 + (i + 1) = omega arith in
    subst (λ k. get_or file k 0 ≡ 1) at (sym (get_or-range 512 512 i file few) ∙ sym front ∙ sym (ap (λ (l : List ℕ). get_or l i 0) are) ∙ here)
