-- The blocks of runs.
use Rattle.std.specs.Prelude.{◌==◌, option_map}
use Rattle.std.proofs.Common.{ℕ, zero, suc, ◌+◌, ◌-◌, ◌*◌, ◌<◌, ◌≤◌, ◌≡◌, ◌⊎◌, inl, inr, cond, List, [], ◌∷◌, ◌++◌, length, Option, Some, None, refl, sym, ◌∙◌, ap, subst, arith}
use Rattle.dms_site.specs.Files.{Files, range}
use Rattle.dms_site.specs.Laws.{length-range}
use Rattle.dms_history.specs.Events.{BlockBytes, Stored, block_in}
use Rattle.dms_history.specs.Entries.{counts_in}
use Rattle.dms_history.specs.Images.{is_at}
use Rattle.dms_history.specs.Pick.{Dump}
use Rattle.dms_history.specs.Ranges.{patch_bytes}
use Rattle.dms_history.proofs.Picks.{place_cases}
use Rattle.dms_dump.specs.Head.{Head, head_size, head_in}
use Rattle.dms_dump.specs.Body.{blocks_before, dumped_block}
use Rattle.dms_restore.specs.declared.run.Run.{Run}
use Rattle.dms_restore.specs.declared.told.Told.{Told}
use Rattle.dms_restore.specs.Dumped.{dumps_of}
use Rattle.dms_restore.specs.Table.{bytes_at, IsAmong, AreWhole, laid_on, told_on, last_of, told_at, blocks_in, all_in}
use Rattle.dms_restore.specs.Planned.{IsRunOf, AreRunsOf, IsInRun, IsInRuns}
use Rattle.dms_restore.proofs.Tables.{among_front, among_back, among_parts}
use Rattle.dms_restore.proofs.DumpRuns.{dump_is, block_is}
use Rattle.dms_restore.proofs.HeadCounts.{before_within, head_ends}

-- ---- which blocks they are

next_or : (i n : ℕ) → i < suc n → (i < n) ⊎ (i ≡ n)
next_or zero zero low = inr refl
next_or zero (suc n) low = inl (omega arith)
next_or (suc i) zero low = absurd (omega (arith, low))
next_or (suc i) (suc n) low = elim (next_or i n (omega (arith, low))) [ inl less ↦ inl (omega (arith, less)) | inr same ↦ inr (ap suc same) ]

run_among : (r : Run) (n i : ℕ) → i < n → IsAmong r.file (r.block + i) (blocks_in r n)
run_among r zero i low = absurd (omega (arith, low))
run_among r (suc n) i low = elim (next_or i n low) [
  | inl less ↦ among_front r.file (r.block + i) (blocks_in r n) (told_at r n ∷ []) (run_among r n i less)
  | inr same ↦ among_back r.file (r.block + i) (blocks_in r n) (told_at r n ∷ []) (inl (refl, ap (λ k. r.block + k) (sym same)))
]

in_run_among : (f b : ℕ) (r : Run) → IsInRun f b r → IsAmong f b (blocks_in r r.blocks)
in_run_among f b r is =
    let at : r.block + (b - r.block) ≡ b = omega (arith, is.1) in
    subst (λ g. IsAmong g b (blocks_in r r.blocks)) is.0 (subst (λ k. IsAmong r.file k (blocks_in r r.blocks)) at (run_among r r.blocks (b - r.block) (omega (arith, is.1, is.2))))

pub runs_among : (f b : ℕ) (rs : List Run) → IsInRuns f b rs → IsAmong f b (all_in rs)
runs_among f b [] is = absurd is
runs_among f b (r ∷ rs) is = elim is [
  | inl here ↦ among_front f b (blocks_in r r.blocks) (all_in rs) (in_run_among f b r here)
  | inr more ↦ among_back f b (blocks_in r r.blocks) (all_in rs) (runs_among f b rs more)
]

among_run : (f b : ℕ) (r : Run) (n : ℕ) → n ≤ r.blocks → IsAmong f b (blocks_in r n) → IsInRun f b r
among_run f b r zero le among = absurd among
among_run f b r (suc n) le among = elim (among_parts f b (blocks_in r n) (told_at r n ∷ []) among) [
  | inl front ↦ among_run f b r n (omega (arith, le)) front
  | inr last ↦ elim last [
    | inl here ↦ (here.0, omega (arith, here.1), omega (arith, here.1, le))
    | inr none ↦ absurd none
  ]
]

pub among_runs : (f b : ℕ) (rs : List Run) → IsAmong f b (all_in rs) → IsInRuns f b rs
among_runs f b [] among = absurd among
among_runs f b (r ∷ rs) among = elim (among_parts f b (blocks_in r r.blocks) (all_in rs) among) [
  | inl here ↦ inl (among_run f b r r.blocks (omega arith) here)
  | inr more ↦ inr (among_runs f b rs more)
]

-- ---- what stands at their places

-- what is wanted stands there, as a whole block
record IsStanding (files : Files) (want : Stored) (t : Told) : Type 0 where
  bytes_are : bytes_at files t ≡ want t.file t.block
  whole : length (bytes_at files t) ≡ t.length
  whole_block : t.length ≡ 1024

abbrev AreStanding : Files → Stored → List Told → Type 0
AreStanding files want [] = Unit {0}
AreStanding files want (t ∷ ts) = IsStanding files want t × AreStanding files want ts

standing_on : (files : Files) (want : Stored) (xs ys : List Told) → AreStanding files want xs → AreStanding files want ys → AreStanding files want (xs ++ ys)
standing_on files want [] ys one two = two
standing_on files want (x ∷ xs) ys one two = (one.0, standing_on files want xs ys one.1 two)

standing_whole : (files : Files) (want : Stored) (ts : List Told) → AreStanding files want ts → AreWhole files ts
standing_whole files want [] are = tt
standing_whole files want (t ∷ ts) are = (are.0.whole, standing_whole files want ts are.1)

-- what they make of a block is what is wanted
standing_on_to : (files : Files) (want : Stored) (ts : List Told) (f b : ℕ) (o : Option BlockBytes) → AreStanding files want ts → (o ≡ Some (want f b)) ⊎ IsAmong f b ts → told_on files f b o ts ≡ Some (want f b)
standing_on_to files want [] f b o are is = elim is [ inl now ↦ now | inr none ↦ absurd none ]
standing_on_to files want (t ∷ ts) f b o are is = elim (place_cases f b t.file t.block) [
  | inl at ↦
      let whole : laid_on files t o ≡ Some (want f b) =
      ap (λ k. cond (k == 1024) (Some (bytes_at files t)) (option_map (patch_bytes t.place (bytes_at files t)) o)) are.0.whole_block
      ∙ ap (λ (x : BlockBytes). Some x) are.0.bytes_are ∙ (λ i. Some (want (at.0 i) (at.1 i))) in
      standing_on_to files want ts f b (cond (is_at f b t.file t.block) (laid_on files t o) o) are.1 (inl (ap (λ k. cond k (laid_on files t o) o) at.2 ∙ whole))
  | inr other ↦ standing_on_to files want ts f b (cond (is_at f b t.file t.block) (laid_on files t o) o) are.1 (elim is [
    | inl now ↦ inl (ap (λ k. cond k (laid_on files t o) o) other.1 ∙ now)
    | inr among ↦ elim among [
      | inl here ↦ absurd (other.0 (sym here.0) (sym here.1))
      | inr more ↦ inr more
    ]
  ])
]

standing_among : (files : Files) (want : Stored) (ts : List Told) (f b : ℕ) → AreStanding files want ts → IsAmong f b ts → last_of files f b ts ≡ Some (want f b)
standing_among files want ts f b are among = standing_on_to files want ts f b None are (inr among)

module _ (files : Files) (d : ℕ) (h : Head) (some : 1 ≤ d) (few : d ≤ 9999) (is : head_in (files (20000 + d)) ≡ Some h) (counts : List ℕ) where
  abbrev file : List ℕ
  file = files (20000 + d)

  abbrev want : Stored
  want = block_in (dumps_of files d).blocks

  run_stands : (r : Run) → IsRunOf h d counts r → (i : ℕ) → i < r.blocks → IsStanding files want (told_at r i)
  unfolding dumped_block
  run_stands r of i low =
      let at = 1 + head_size h + 1024 * (blocks_before r.file h.counts + (r.block + i)) in
      let place : r.at + 1024 * i ≡ at = omega (arith, of.place) in
      let there : bytes_at files (told_at r i) ≡ range at 1024 file = λ k. range (place k) 1024 (files (of.dump_is k)) in
      let under : r.block + i < counts_in h.counts r.file = omega (arith, low, of.dumped) in
      let within : at + 1024 ≤ length file = omega (arith, under, before_within h.counts r.file, head_ends file h is) in
      record {
        bytes_are = there ∙ sym (block_is h file r.file (r.block + i) under) ∙ ap (λ (dump : Dump). block_in dump.blocks r.file (r.block + i)) (sym (dump_is files d h some few is));
        whole = ap (λ (l : List ℕ). length l) there ∙ (let size : length (range at 1024 file) ≡ 1024 = omega (arith, length-range at 1024 file, within) in size);
        whole_block = refl;
      }

  run_standing : (r : Run) (n : ℕ) → IsRunOf h d counts r → n ≤ r.blocks → AreStanding files want (blocks_in r n)
  run_standing r zero of le = tt
  run_standing r (suc n) of le = standing_on files want (blocks_in r n) (told_at r n ∷ []) (run_standing r n of (omega (arith, le))) (run_stands r of n (omega (arith, le)), tt)

  runs_standing : (rs : List Run) → AreRunsOf h d counts rs → AreStanding files want (all_in rs)
  runs_standing [] are = tt
  runs_standing (r ∷ rs) are = standing_on files want (blocks_in r r.blocks) (all_in rs) (run_standing r r.blocks are.0 (omega arith)) (runs_standing rs are.1)

  pub runs_are_whole : (rs : List Run) → AreRunsOf h d counts rs → AreWhole files (all_in rs)
  runs_are_whole rs are = standing_whole files want (all_in rs) (runs_standing rs are)

  pub run_tells : (rs : List Run) (f b : ℕ) → AreRunsOf h d counts rs → IsInRuns f b rs → last_of files f b (all_in rs) ≡ Some (block_in (dumps_of files d).blocks f b)
  run_tells rs f b are in_runs = standing_among files want (all_in rs) f b (runs_standing rs are) (runs_among f b rs in_runs)
