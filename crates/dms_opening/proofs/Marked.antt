-- Blocks that are missing are marked before a restore writes.
use Rattle.std.specs.Prelude.{◌&&◌, ◌||◌, ◌==◌, nat_le, nat_lt, option_map, slice_index_or}
use Rattle.std.proofs.Common.{ℕ, zero, suc, ◌+◌, ◌-◌, ◌*◌, ◌<◌, ◌≤◌, ◌≡◌, inl, inr, Bool, true, false, cond, List, [], ◌∷◌, ◌++◌, Option, Some, None, length, replicate, refl, sym, ◌∙◌, ap, subst, arith}
use Rattle.std.specs.List.{list_any}
use Rattle.std.proofs.lemmas.Bool.{cases_lt}
use Rattle.std.proofs.lemmas.Bool.Decides.{nat_tests}
use Rattle.std.proofs.lemmas.List.{get_or_past, length-replicate}
use Rattle.dms_moments.specs.Moments.{Clock, Steps}
use Rattle.dms_moments.specs.MomentLaws.{steps_weaken}
use Rattle.dms_site.specs.Files.{Files, InFile, Left, Only, Same, Torn, overlay_bytes, range, stored_of, with_file}
use Rattle.dms_site.specs.Laws.{length-range}
use Rattle.dms_site.specs.StoredLaws.{stored_at, stored_apart, stored_range, stored_whole}
use Rattle.dms_history.specs.Events.{BlockBytes}
use Rattle.dms_history.specs.History.{Pending}
use Rattle.dms_history.specs.Images.{is_at}
use Rattle.dms_history.specs.Pick.{Dumps, count_at}
use Rattle.dms_history.specs.Ranges.{patch_bytes}
use Rattle.dms_running.specs.ByHow.{IsKeptBy, told_by}
use Rattle.dms_running.specs.Restoring.{Rewritten, Rewrites}
use Rattle.dms_running.proofs.Rewriting.{rewritten_same, rewritten_on, stands_written, steps_still}
use Rattle.dms_restore.specs.Counts.{count_of}
use Rattle.dms_restore.specs.Dumped.{dumps_of}
use Rattle.dms_restore.specs.Over.{WritesOver}
use Rattle.dms_restore.specs.Begins.{BegunAt, LeavesEach, Restores}
use Rattle.dms_restore.specs.Logging.{EndsSealed, LogGrows, LogView, telling, telling_of, view}
use Rattle.dms_restore.specs.Planned.{AreCountsAt}
use Rattle.dms_restore.specs.Table.{AreBlocks, AreRuns, AreFree, AreWhole, IsPlan, Kept, KeepsNone, SameLow, bytes_at, laid_on, told_on, keeps_by, told_at, blocks_in, all_in}
use Rattle.dms_restore.specs.declared.told.Told.{Told}
use Rattle.dms_restore.specs.declared.run.Run.{Run}
use Rattle.dms_restore.specs.declared.restore_table.RestoreTable.{RestoreTable}
use Rattle.dms_restore.proofs.Beginnings.{ends_kept, table_begun, table_keeps, table_leave}
use Rattle.dms_restore.proofs.Grows.{blocks_grow}
use Rattle.dms_restore.proofs.Logs.{ReadsNow}
use Rattle.dms_restore.proofs.Tables.{bytes_low, run_free}
use Rattle.dms_restore.proofs.Trails.{is_telling}
use Rattle.dms_restore.proofs.Writing.{look_then}
use Rattle.dms_opening.specs.Marking.{mark, whole_or_mark, IsBefore, KeepsOrMarks, MarksIn, MarksShort, StoodWhole}
use Rattle.dms_opening.specs.Short.{is_told, is_in_run, is_written, FindsIn, IsLacking, IsShort}

-- ---- what is written where a block isn't there whole

-- each block that stood whole is kept: so is each one that a restore keeps
pub kept_whole : (keeps : ℕ → ℕ → Type 0) (x y : Files) → Rewritten StoodWhole x y → Rewritten keeps x y
kept_whole keeps x y r = record { others = r.others; longer = r.longer; kept = λ f b is whole. r.kept f b tt whole }

pub steps_whole : (keeps : ℕ → ℕ → Type 0) (a b : Clock Left) → Steps (Rewrites StoodWhole) a b → Steps (Rewrites keeps) a b
steps_whole keeps a b steps = steps_weaken steps (λ x y now s. record { files = kept_whole keeps x.files y.files s.files; said = s.said })

-- the file of a block that it doesn't hold whole ends within it or before
pub ends_within : (files : Files) (f b : ℕ) → 30000 < f → length (stored_of files f b) < 1024 → length (files f) < 1024 * b + 1024
ends_within files f b structure short = omega (arith, short, length-range (1024 * b) 1024 (files f), ap length (stored_at files f b structure))

-- what is written from the first such block on
pub before_whole : (f from : ℕ) (x y : Files) → length (x f) < 1024 * from + 1024 → Rewritten (IsBefore f from) x y → Rewritten StoodWhole x y
before_whole f from x y short r = record {
  others = r.others;
  longer = r.longer;
  kept = λ g b is whole. r.kept g b (λ same. let here : 1024 * b + 1024 ≤ length (x f) = subst (λ h. 1024 * b + 1024 ≤ length (x h)) same whole in omega (arith, short, here)) whole;
}

-- so it is of what a stop leaves, where it left no other files before
pub steps_before : (f from : ℕ) (files : Files) (a b : Clock Left) → Only files a → length (files f) < 1024 * from + 1024 → Steps (Rewrites (IsBefore f from)) a b → Steps (Rewrites StoodWhole) a b
steps_before f from files a b only short steps = steps_weaken steps (λ x y now s. record {
  files = before_whole f from x.files y.files (subst (λ (h : Files). length (h f) < 1024 * from + 1024) (sym (only x now)) short) s.files;
  said = s.said;
})

pub looks_whole : (a b : Clock Left) → Steps Same a b → Steps (Rewrites StoodWhole) a b
looks_whole a b look = look_then StoodWhole a b b look (steps_still StoodWhole b)

pub same_whole : (x y : Files) → y ≡ x → Rewritten StoodWhole x y
same_whole x y same = subst (λ (l : Files). Rewritten StoodWhole x l) (sym same) (rewritten_same StoodWhole x)

-- no block is missing
pub none_marks : (old new : Files) (table : RestoreTable) (f n : ℕ) → FindsIn old table f n None → MarksIn old table f n new
none_marks old new table f n none b low lacks = absurd (none b low lacks)

-- all blocks are marked from the first missing one on
pub some_marks : (old new : Files) (table : RestoreTable) (f n from : ℕ) → FindsIn old table f n (Some from) → ((b : ℕ) → from ≤ b → b < n → stored_of new f b ≡ mark) → MarksIn old table f n new
some_marks old new table f n from first marks b low lacks = elim (cases_lt b from) [
  | inl before ↦ absurd (first.2 b before lacks)
  | inr behind ↦ marks b (omega (arith, behind)) low
]

-- ---- one block after another

pub mark_size : length mark ≡ 1024
mark_size = length-replicate {A = ℕ} 1024 255

-- a block that is written as a mark
pub mark_written : (f b at : ℕ) (x y : Files) (bytes : List ℕ) → 30000 < f → at ≡ 1024 * b → bytes ≡ mark → y ≡ with_file x f (overlay_bytes at bytes (x f)) → stored_of y f b ≡ mark
mark_written f b at x y bytes structure place is written = stands_written f b x y mark structure mark_size (written ∙ (λ i. with_file x f (overlay_bytes (place i) (is i) (x f))))

-- those before it stay
pub marks_more : (f from k : ℕ) (x y : Files) → InFile f (Torn (1024 * k) 1024) x y → stored_of y f k ≡ mark → ((b : ℕ) → from ≤ b → b < k → stored_of x f b ≡ mark) → (b : ℕ) → from ≤ b → b < k + 1 → stored_of y f b ≡ mark
marks_more f from k x y step now marks b up low = elim (cases_lt b k) [
  | inl before ↦
      let was = marks b up before in
      stored_apart x y f k f b step (λ same at. omega (arith, at, before)) (λ same less. (stored_whole x f b (ap length was ∙ mark_size)).1) ∙ was
  | inr behind ↦ let is : k ≡ b = omega (arith, behind, low) in subst (λ j. stored_of y f j ≡ mark) is now
]

-- no block from one on is kept
pub behind_free : (f from k : ℕ) → from ≤ k → IsBefore f from f k → ⊥
behind_free f from k up before = let low = before refl in omega (arith, up, low)

-- ---- one file after another

-- a mark stays while what stood whole is kept
pub mark_stays : (x y : Files) (f b : ℕ) → Rewritten StoodWhole x y → stored_of x f b ≡ mark → stored_of y f b ≡ mark
mark_stays x y f b r is = r.kept f b tt (stored_whole x f b (ap length is ∙ mark_size)).1 ∙ is

-- the same of a block that isn't there whole
pub lacks_as : (x y : Files) (table : RestoreTable) (f b : ℕ) → y f ≡ x f → IsLacking x table f b → IsLacking y table f b
lacks_as x y table f b same lacks = record {
  unwritten = lacks.unwritten;
  short = let stays : stored_of y f b ≡ stored_of x f b = stored_range y x f b (λ structure. ap (λ (l : List ℕ). range (1024 * b) 1024 l) same) in omega (arith, ap length stays, lacks.short);
}

-- a block below a count is one of a structure file
pub structure_of : (counts : List ℕ) (f b : ℕ) → b < count_of counts f → 30000 < f
structure_of counts f b low = elim (cases_lt 30000 f) [
  | inl structure ↦ structure
  | inr other ↦
      let off : nat_lt 30000 f ≡ false = grind (arith, nat_tests, other) in
      let none : count_of counts f ≡ 0 = ap (λ k. cond k (slice_index_or counts (f - 30001) 0) 0) off in
      absurd (omega (arith, low, none))
]

-- the count of a file by its place in the table
pub count_at_place : (counts : List ℕ) (i : ℕ) → count_of counts (30001 + i) ≡ slice_index_or counts i 0
count_at_place counts i =
    let on : nat_lt 30000 (30001 + i) ≡ true = grind (arith, nat_tests) in
    let place : 30001 + i - 30001 ≡ i = omega arith in
    ap (λ k. cond k (slice_index_or counts (30001 + i - 30001) 0) 0) on ∙ ap (λ k. slice_index_or counts k 0) place

pub files_more : (start x y : Files) (counts : List ℕ) (table : RestoreTable) (i n : ℕ) → n ≡ slice_index_or counts i 0 → x (30001 + i) ≡ start (30001 + i) → Rewritten StoodWhole x y → MarksIn x table (30001 + i) n y
    → ((f b : ℕ) → f < 30001 + i → IsShort start counts table f b → stored_of x f b ≡ mark) → (f b : ℕ) → f < 30001 + (i + 1) → IsShort start counts table f b → stored_of y f b ≡ mark
files_more start x y counts table i n is same one marks before f b low short = elim (cases_lt f (30001 + i)) [
  | inl less ↦ mark_stays x y f b one (before f b less short)
  | inr here ↦
      let at : 30001 + i ≡ f = omega (arith, here, low) in
      let there : IsShort start counts table (30001 + i) b = subst (λ g. IsShort start counts table g b) (sym at) short in
      let few : b < n = omega (arith, there.0, count_at_place counts i, is) in
      subst (λ g. stored_of y g b ≡ mark) at (marks b few (lacks_as start x table (30001 + i) b same there.1))
]

-- all files of the table were gone through
pub files_all : (start x : Files) (counts : List ℕ) (table : RestoreTable) (i : ℕ) → length counts ≤ i → ((f b : ℕ) → f < 30001 + i → IsShort start counts table f b → stored_of x f b ≡ mark) → MarksShort start counts table x
files_all start x counts table i all marks f b short = elim (cases_lt f (30001 + i)) [
  | inl less ↦ marks f b less short
  | inr far ↦
      let structure = structure_of counts f b short.0 in
      let place = f - 30001 in
      let is : 30001 + place ≡ f = omega (arith, structure) in
      let none : slice_index_or counts place 0 ≡ 0 = get_or_past counts place 0 (omega (arith, all, is, far)) in
      absurd (omega (arith, short.0, ap (λ g. count_of counts g) is, count_at_place counts place, none))
]

-- ---- the plan of a restore depends on no structure file

abbrev AreLow : List Told → Type 0
AreLow [] = Unit {0}
AreLow (t ∷ ts) = (t.audit ≤ 30000) × AreLow ts

low_blocks : (ts : List Told) → AreBlocks ts → AreLow ts
low_blocks [] blocks = tt
low_blocks (t ∷ ts) blocks = (blocks.0.3, low_blocks ts blocks.1)

low_on : (ts us : List Told) → AreLow ts → AreLow us → AreLow (ts ++ us)
low_on [] us one two = two
low_on (t ∷ ts) us one two = (one.0, low_on ts us one.1 two)

low_run : (r : Run) (n : ℕ) → r.dump ≤ 30000 → AreLow (blocks_in r n)
low_run r zero low = tt
low_run r (suc n) low = low_on (blocks_in r n) (told_at r n ∷ []) (low_run r n low) (low, tt)

low_runs : (rs : List Run) → AreRuns rs → AreLow (all_in rs)
low_runs [] runs = tt
low_runs (r ∷ rs) runs = low_on (blocks_in r r.blocks) (all_in rs) (low_run r r.blocks runs.0.2) (low_runs rs runs.1)

module _ (x y : Files) (same : SameLow x y) where
  whole_low : (ts : List Told) → AreLow ts → AreWhole x ts → AreWhole y ts
  whole_low [] low whole = tt
  whole_low (t ∷ ts) low whole = (ap length (bytes_low x y t low.0 same) ∙ whole.0, whole_low ts low.1 whole.1)

  laid_low : (t : Told) (o : Option BlockBytes) → t.audit ≤ 30000 → laid_on y t o ≡ laid_on x t o
  laid_low t o upto = ap (λ (l : List ℕ). cond (t.length == 1024) (Some l) (option_map (patch_bytes t.place l) o)) (bytes_low x y t upto same)

  told_low : (f b : ℕ) (o : Option BlockBytes) (ts : List Told) → AreLow ts → told_on y f b o ts ≡ told_on x f b o ts
  told_low f b o [] low = refl
  told_low f b o (t ∷ ts) low =
      ap (λ (p : Option BlockBytes). told_on y f b (cond (is_at f b t.file t.block) p o) ts) (laid_low t o low.0)
      ∙ told_low f b (cond (is_at f b t.file t.block) (laid_on x t o) o) ts low.1

  dumps_low : dumps_of y ≡ dumps_of x
  dumps_low = (is_telling 0 0 (omega arith)).dumps_between y x (λ g above upto. same g upto)

  pub plan_low : (p : Pending) (t : RestoreTable) → AreRuns t.runs.items → AreBlocks t.told.items → IsPlan p x t → IsPlan p y t
  plan_low p t runs blocks plan =
      let lows = low_on (all_in t.runs.items) t.told.items (low_runs t.runs.items runs) (low_blocks t.told.items blocks) in
      record {
        runs_free = plan.runs_free;
        runs_whole = whole_low (all_in t.runs.items) (low_runs t.runs.items runs) plan.runs_whole;
        free = plan.free;
        whole = whole_low t.told.items (low_blocks t.told.items blocks) plan.whole;
        all = λ f b v low told size. told_low f b None (all_in t.runs.items ++ t.told.items) lows ∙ plan.all f b v low (ap (λ (d : Dumps). told_by p.how d p.entries p.point f b) (sym dumps_low) ∙ told) size;
        only = λ f b v last. ap (λ (d : Dumps). told_by p.how d p.entries p.point f b) dumps_low ∙ plan.only f b v (sym (told_low f b None (all_in t.runs.items ++ t.told.items) lows) ∙ last);
      }

  -- what is written over files whose structure blocks were marked is written over those before
  pub over_low : (p : Pending) (z : Files) → Rewritten (IsKeptBy p.how p.entries p.point) x y → WritesOver p y z → WritesOver p x z
  over_low p z first over = record {
    written = rewritten_on (IsKeptBy p.how p.entries p.point) x y z first over.written;
    told = λ f b low v told size. over.told f b low v (ap (λ (d : Dumps). told_by p.how d p.entries p.point f b) dumps_low ∙ told) size;
  }

-- ---- a block that a restore keeps isn't written by its plan

place_is : (f b : ℕ) (t : Told) → is_told f b t ≡ true → (t.file ≡ f) × (t.block ≡ b)
place_is f b t on = by (t.file == f) (t.block == b) refl refl on
  where
    by : (one two : Bool) → (t.file == f) ≡ one → (t.block == b) ≡ two → (one && two) ≡ true → (t.file ≡ f) × (t.block ≡ b)
    by false two e1 e2 is = absurd cc
    by true false e1 e2 is = absurd cc
    by true true e1 e2 is = (grind (arith, nat_tests, e1), grind (arith, nat_tests, e2))

run_is : (f b : ℕ) (r : Run) → is_in_run f b r ≡ true → (r.file ≡ f) × (r.block ≤ b) × (b < r.block + r.blocks)
run_is f b r on = by (r.file == f) (nat_le r.block b) (nat_lt b (r.block + r.blocks)) refl refl refl on
  where
    by : (one two three : Bool) → (r.file == f) ≡ one → nat_le r.block b ≡ two → nat_lt b (r.block + r.blocks) ≡ three → (one && (two && three)) ≡ true → (r.file ≡ f) × (r.block ≤ b) × (b < r.block + r.blocks)
    by false two three e1 e2 e3 is = absurd cc
    by true false three e1 e2 e3 is = absurd cc
    by true true false e1 e2 e3 is = absurd cc
    by true true true e1 e2 e3 is = (grind (arith, nat_tests, e1), grind (arith, nat_tests, e2), grind (arith, nat_tests, e3))

module _ (keeps : ℕ → ℕ → Bool) (f b : ℕ) (kept : keeps f b ≡ true) where
  told_out : (ts : List Told) → AreFree (Kept keeps) ts → list_any (λ (t : Told). is_told f b t) ts ≡ false
  told_out [] free = refl
  told_out (t ∷ ts) free = by (told_out ts free.1) (is_told f b t) refl
    where
      by : list_any (λ (u : Told). is_told f b u) ts ≡ false → (on : Bool) → is_told f b t ≡ on → list_any (λ (u : Told). is_told f b u) (t ∷ ts) ≡ false
      by rest false e = (λ j. e j || list_any (λ (u : Told). is_told f b u) ts) ∙ rest
      by rest true e =
          let at = place_is f b t e in
          absurd (free.0 (subst (λ g. keeps g t.block ≡ true) (sym at.0) (subst (λ k. keeps f k ≡ true) (sym at.1) kept)))

  free_front : (ts us : List Told) → AreFree (Kept keeps) (ts ++ us) → AreFree (Kept keeps) ts × AreFree (Kept keeps) us
  free_front [] us free = (tt, free)
  free_front (t ∷ ts) us free = let r = free_front ts us free.1 in ((free.0, r.0), r.1)

  run_out : (r : Run) → AreFree (Kept keeps) (blocks_in r r.blocks) → is_in_run f b r ≡ false
  run_out r free = by (is_in_run f b r) refl
    where
      by : (on : Bool) → is_in_run f b r ≡ on → is_in_run f b r ≡ false
      by false e = e
      by true e =
          let at = run_is f b r e in
          let i = b - r.block in
          let low : i < r.blocks = omega (arith, at.1, at.2) in
          let there : r.block + i ≡ b = omega (arith, at.1) in
          absurd (run_free (Kept keeps) r r.blocks i low free (subst (λ g. keeps g (r.block + i) ≡ true) (sym at.0) (subst (λ k. keeps f k ≡ true) (sym there) kept)))

  runs_out : (rs : List Run) → AreFree (Kept keeps) (all_in rs) → list_any (λ (r : Run). is_in_run f b r) rs ≡ false
  runs_out [] free = refl
  runs_out (r ∷ rs) free =
      let parts = free_front (blocks_in r r.blocks) (all_in rs) free in
      (λ j. run_out r parts.0 j || runs_out rs parts.1 j)

  unwritten : (t : RestoreTable) → AreFree (Kept keeps) (all_in t.runs.items) → AreFree (Kept keeps) t.told.items → is_written t f b ≡ false
  unwritten t runs told = λ j. told_out t.told.items told j || runs_out t.runs.items runs j

kept_test : (p : Pending) (f b : ℕ) → IsKeptBy p.how p.entries p.point f b → keeps_by p.how p.entries p.point f b ≡ true
kept_test p f b kept =
    let low : nat_lt b (count_at p.entries p.point f) ≡ true = grind (arith, nat_tests, kept.0) in
    (λ j. low j && kept.1 j)

-- ---- what stands behind all

mark_for : (bytes : List ℕ) → length bytes < 1024 → whole_or_mark bytes ≡ mark
mark_for bytes short = let on : nat_lt (length bytes) 1024 ≡ true = grind (arith, nat_tests, short) in ap (λ k. cond k mark bytes) on

whole_for : (bytes : List ℕ) → 1024 ≤ length bytes → whole_or_mark bytes ≡ bytes
whole_for bytes long = let off : nat_lt (length bytes) 1024 ≡ false = grind (arith, nat_tests, long) in ap (λ k. cond k mark bytes) off

pub keeps_or_marks : (p : Pending) (a m r : Files) (counts : List ℕ) (table : RestoreTable) → IsPlan p a table → AreCountsAt counts p → MarksShort a counts table m → Rewritten StoodWhole a m
    → Rewritten (IsKeptBy p.how p.entries p.point) m r → KeepsOrMarks p a r
keeps_or_marks p a m r counts table plan at marks one two f b kept =
    let low : b < count_of counts f = subst (λ n. b < n) (sym (at f)) kept.0 in
    let structure = structure_of counts f b low in
    elim (cases_lt (length (stored_of a f b)) 1024) [
      | inl short ↦
          let test = kept_test p f b kept in
          let is : stored_of m f b ≡ mark = marks f b (low, record { unwritten = unwritten (keeps_by p.how p.entries p.point) f b test table plan.runs_free plan.free; short = short }) in
          two.kept f b kept (stored_whole m f b (ap length is ∙ mark_size)).1 ∙ is ∙ sym (mark_for (stored_of a f b) short)
      | inr long ↦
          let whole : 1024 * b + 1024 ≤ length (a f) = omega (arith, long, length-range (1024 * b) 1024 (a f), ap length (stored_at a f b structure)) in
          two.kept f b kept (omega (arith, whole, one.longer f)) ∙ one.kept f b tt whole ∙ sym (whole_for (stored_of a f b) (omega (arith, long)))
    ]

-- what was marked is whole
pub mark_twice : (bytes : List ℕ) → whole_or_mark (whole_or_mark bytes) ≡ whole_or_mark bytes
mark_twice bytes = elim (cases_lt (length bytes) 1024) [
  | inl short ↦ ap whole_or_mark (mark_for bytes short) ∙ whole_for mark (omega (arith, mark_size)) ∙ sym (mark_for bytes short)
  | inr long ↦ ap whole_or_mark (whole_for bytes (omega (arith, long)))
]

-- ---- behind calls that only read

pub marked_steps : (f from : ℕ) (files : Files) (a b c d : Clock Left) → Steps Same a b → Steps Same b c → Only files c → length (files f) < 1024 * from + 1024 → Steps (Rewrites (IsBefore f from)) c d → Steps (Rewrites StoodWhole) a d
marked_steps f from files a b c d one two only short steps = look_then StoodWhole a b d one (look_then StoodWhole b c d two (steps_before f from files c d only short steps))

pub marked_written : (f from : ℕ) (x y z w : Files) → y ≡ x → z ≡ y → length (x f) < 1024 * from + 1024 → Rewritten (IsBefore f from) z w → Rewritten StoodWhole x w
marked_written f from x y z w one two short step = before_whole f from x w short (subst (λ (l : Files). Rewritten (IsBefore f from) l w) (two ∙ one) step)

-- ---- a restore goes on over files in which what is missing was marked

module _ (a b : LogView) (end : b.end ≡ a.end) (first : b.first ≡ a.first) (written : Rewritten StoodWhole a.files b.files) (steps : Steps (Rewrites StoodWhole) a.clock b.clock) where
  same_view : view a.end a.first b.files b.clock ≡ b
  same_view = λ i. view (sym end i) (sym first i) b.files b.clock

  pub tells_as : telling b ≡ telling a
  tells_as = λ i. telling_of (end i).total (first i)

  pub marked_sealed : EndsSealed a → EndsSealed b
  marked_sealed ends = subst (λ (v : LogView). EndsSealed v) same_view (ends_kept a [] StoodWhole b.files b.clock ends steps written)

  pub marked_grows : a.first ≤ 20000 → LogGrows 0 a b
  marked_grows low = blocks_grow a b low written.others (steps_whole KeepsNone a.clock b.clock steps)

  module _ (p : Pending) (begun : BegunAt p a) (read : ReadsNow a) where
    by_steps : Steps (Rewrites (IsKeptBy p.how p.entries p.point)) a.clock b.clock
    by_steps = steps_whole (IsKeptBy p.how p.entries p.point) a.clock b.clock steps

    by_files : Rewritten (IsKeptBy p.how p.entries p.point) a.files b.files
    by_files = kept_whole (IsKeptBy p.how p.entries p.point) a.files b.files written

    pub marked_begun : BegunAt p b
    marked_begun = subst (λ (v : LogView). BegunAt p v) same_view (table_begun p a begun read b.files b.clock by_steps by_files)

    pub marked_keeps : Restores p a b
    marked_keeps = subst (λ (v : LogView). Restores p a v) same_view (table_keeps p a begun read b.files b.clock by_steps by_files)

    pub marked_leaves : LeavesEach a b
    marked_leaves = table_leave p a begun read b.clock by_steps

  pub restores_on : (p : Pending) (c : LogView) → Restores p a b → Restores p b c → Restores p a c
  restores_on p c one two = record {
    points_same = two.points_same ∙ one.points_same;
    next_same = two.next_same ∙ one.next_same;
    outcome_same = two.outcome_same ∙ one.outcome_same;
  }
