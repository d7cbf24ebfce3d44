-- Blocks that stand one behind another, by a test of what a restore writes.
use Rattle.std.specs.Prelude.{◌&&◌, ◌||◌, nat_le, nat_lt}
use Rattle.std.proofs.Common.{ℕ, ◌+◌, ◌<◌, ◌≤◌, ◌≡◌, ◌==◌, inl, inr, Bool, true, false, cond, List, length, take, get_or, refl, sym, ◌∙◌, ap, subst, arith}
use Rattle.std.specs.List.{list_any}
use Rattle.std.proofs.lemmas.Bool.{cases_lt}
use Rattle.std.proofs.lemmas.Bool.Decides.{nat_tests}
use Rattle.std.proofs.lemmas.List.Folds.{list_any_more, list_any_kept}
use Rattle.dms_restore.specs.declared.told.Told.{Told}
use Rattle.dms_restore.specs.declared.run.Run.{Run}
use Rattle.dms_restore.specs.declared.restore_table.RestoreTable.{RestoreTable}
use Rattle.dms_opening.specs.Short.{is_told, is_in_run, is_written, GoesOn}

-- none, for a place behind a list
abbrev pub no_told : Told
no_told = record { file = 0; block = 0; place = 0; length = 0; audit = 0; at = 0 }

abbrev pub no_run : Run
no_run = record { file = 0; block = 0; blocks = 0; dump = 0; at = 0 }

or_true : (a b : Bool) → b ≡ true → (a || b) ≡ true
or_true true b is = refl
or_true false b is = is

both : (a b : Bool) → (a && b) ≡ true → (a ≡ true) × (b ≡ true)
both true true h = (refl, refl)
both true false h = absurd cc
both false b h = absurd cc

-- a test of one of them goes on from here to there
pub record StepsOn (test : ℕ → Bool) (next next' : ℕ) : Type 0 where
  pub up : next ≤ next'
  pub each : (b : ℕ) → next ≤ b → b < next' → test b ≡ true
  pub ends : next' ≡ next → test next ≡ false

-- behind one more of a list
pub goes_more : {A : Type 0} (test : ℕ → A → Bool) (xs : List A) (i : ℕ) (d : A) (here next next' : ℕ) → i < length xs → StepsOn (λ b. test b (get_or xs i d)) next next'
    → GoesOn (λ b. list_any (λ x. test b x) (take i xs)) here next → GoesOn (λ b. list_any (λ x. test b x) (take (i + 1) xs)) here next'
goes_more test xs i d here next next' low s g = record {
  from = let one = s.up in let two = g.from in omega (arith, one, two);
  each = λ b from to. elim (cases_lt b next) [
    | inl before ↦ list_any_kept (λ x. test b x) xs i (g.each b from before)
    | inr behind ↦ list_any_more (λ x. test b x) xs i d low ∙ or_true (list_any (λ x. test b x) (take i xs)) (test b (get_or xs i d)) (s.each b behind to)
  ];
  ends = λ same.
      let one = s.up in
      let two = g.from in
      let still : next ≡ here = omega (arith, same, one, two) in
      let stays : next' ≡ next = omega (arith, same, one, two) in
      list_any_more (λ x. test here x) xs i d low
      ∙ (λ j. g.ends still j || (subst (λ k. test k (get_or xs i d) ≡ false) still (s.ends stays)) j);
}

-- all of them
pub goes_all : {A : Type 0} (test : ℕ → A → Bool) (xs : List A) (i here next : ℕ) → take i xs ≡ xs → GoesOn (λ b. list_any (λ x. test b x) (take i xs)) here next → GoesOn (λ b. list_any (λ x. test b x) xs) here next
goes_all test xs i here next all g = subst (λ (ys : List _). GoesOn (λ b. list_any (λ x. test b x) ys) here next) all g

pub steps_told : (f next next' : ℕ) (x : Told) → next' ≡ cond (is_told f next x) (next + 1) next → StepsOn (λ b. is_told f b x) next next'
steps_told f next next' x is = by (is_told f next x) refl
  where
    by : (t : Bool) → is_told f next x ≡ t → StepsOn (λ b. is_told f b x) next next'
    by true e =
        let to : next' ≡ next + 1 = is ∙ (λ j. cond (e j) (next + 1) next) in
        record {
          up = omega (arith, to);
          each = λ b from below. let same : b ≡ next = omega (arith, to, from, below) in ap (λ k. is_told f k x) same ∙ e;
          ends = λ same. absurd (omega (arith, same, to));
        }
    by false e =
        let to : next' ≡ next = is ∙ (λ j. cond (e j) (next + 1) next) in
        record { up = omega (arith, to); each = λ b from below. absurd (omega (arith, to, from, below)); ends = λ same. e }

pub steps_run : (f next next' : ℕ) (r : Run) → next' ≡ cond (is_in_run f next r) (r.block + r.blocks) next → StepsOn (λ b. is_in_run f b r) next next'
steps_run f next next' r is = by (is_in_run f next r) refl
  where
    by : (t : Bool) → is_in_run f next r ≡ t → StepsOn (λ b. is_in_run f b r) next next'
    by true e =
        let to : next' ≡ r.block + r.blocks = is ∙ (λ j. cond (e j) (r.block + r.blocks) next) in
        let one = both (r.file == f) (nat_le r.block next && nat_lt next (r.block + r.blocks)) e in
        let two = both (nat_le r.block next) (nat_lt next (r.block + r.blocks)) one.1 in
        let above : r.block ≤ next = grind (arith, nat_tests, two.0) in
        let under : next < r.block + r.blocks = grind (arith, nat_tests, two.1) in
        record {
          up = omega (arith, to, under);
          each = λ b from below.
              let low : nat_le r.block b ≡ true = grind (arith, nat_tests, above, from) in
              let high : nat_lt b (r.block + r.blocks) ≡ true = grind (arith, nat_tests, to, below) in
              (λ j. one.0 j && (low j && high j));
          ends = λ same. absurd (omega (arith, same, to, under));
        }
    by false e =
        let to : next' ≡ next = is ∙ (λ j. cond (e j) (r.block + r.blocks) next) in
        record { up = omega (arith, to); each = λ b from below. absurd (omega (arith, to, from, below)); ends = λ same. e }

-- behind both: each block up to there is written
pub written_on : (table : RestoreTable) (f from next told further : ℕ) → ((b : ℕ) → from ≤ b → b < next → is_written table f b ≡ true) → GoesOn (λ b. list_any (λ (t : Told). is_told f b t) table.told.items) next told
    → GoesOn (λ b. list_any (λ (r : Run). is_in_run f b r) table.runs.items) told further → (b : ℕ) → from ≤ b → b < further → is_written table f b ≡ true
written_on table f from next told further before one two b low high = elim (cases_lt b next) [
  | inl early ↦ before b low early
  | inr late ↦ elim (cases_lt b told) [
    | inl mid ↦ ap (λ x. x || list_any (λ (r : Run). is_in_run f b r) table.runs.items) (one.each b late mid)
    | inr end ↦ or_true (list_any (λ (t : Told). is_told f b t) table.told.items) (list_any (λ (r : Run). is_in_run f b r) table.runs.items) (two.each b end high)
  ]
]

-- neither goes on: the block isn't written
pub unwritten_at : (table : RestoreTable) (f next told further : ℕ) → further ≡ next → GoesOn (λ b. list_any (λ (t : Told). is_told f b t) table.told.items) next told
    → GoesOn (λ b. list_any (λ (r : Run). is_in_run f b r) table.runs.items) told further → is_written table f next ≡ false
unwritten_at table f next told further same one two =
    let a = one.from in
    let b = two.from in
    let still : told ≡ next = omega (arith, same, a, b) in
    let ends : further ≡ told = omega (arith, same, a, b) in
    (λ j. one.ends still j || (subst (λ k. list_any (λ (r : Run). is_in_run f k r) table.runs.items ≡ false) still (two.ends ends)) j)
