-- What is read from a block of a trail on are the last of its entries.
use Rattle.std.proofs.Common.{ℕ, zero, suc, ◌+◌, ◌-◌, ◌≤◌, ◌≡◌, ◌==◌, inl, inr, Bool, true, false, cond, List, [], ◌++◌, refl, sym, ◌∙◌, ap, subst, arith, append_assoc}
use Rattle.std.proofs.lemmas.Bool.Decides.{nat_tests}
use Rattle.std.proofs.lemmas.Bool.{cases_eq}
use Rattle.dms_site.specs.Files.{Files}
use Rattle.dms_audfile.specs.Blocks.{block_entries}
use Rattle.dms_audfile.specs.Gates.{block_at, count_open, is_full}
use Rattle.dms_audfile.specs.Sealing.{IsWrittenUpTo}
use Rattle.dms_audfile.specs.Scanning.{Placed, TrailRead, broken, whole, then_read, places_of, blocks_read, file_read, files_read}
use Rattle.dms_audfile.specs.Gathering.{Known, nothing_seen, reached, gather}
use Rattle.dms_audfile.specs.Reads.{NotRead}
use Rattle.dms_audfile.specs.Tails.{sealed_in, ReadsPlaces, TailIsFound}
use Rattle.dms_audfile.specs.declared.fault.AudFault.{AudFault}
use Rattle.dms_audfile.proofs.Again.{ends_there, trail_is_read}
use Rattle.dms_audfile.proofs.Followed.{then_then, then_none, full_opened, files_follow}
use Rattle.dms_audfile.proofs.Gates.{stands_full, stands_opened}
use Rattle.dms_audfile.proofs.Reading.{read_turn, found_err, file_good, read_all}
use Rattle.dms_audfile.proofs.Spans.{seen_places}
use Rattle.dms_audfile.proofs.There.{both_whole}

-- ---- what is read, in two parts

blocks_split : (a b i f : ℕ) (file : List ℕ) → blocks_read (a + b) i f file ≡ then_read (blocks_read a i f file) (blocks_read b (i + a) f file)
blocks_split zero b i f file =
    let none : 0 + b ≡ b = omega arith in
    let at : i ≡ i + 0 = omega arith in
    (λ j. blocks_read (none j) i f file) ∙ (λ j. blocks_read b (at j) f file) ∙ none_first (blocks_read b (i + 0) f file)
  where
    none_first : (r : TrailRead) → r ≡ then_read (whole []) r
    none_first (broken g k) = refl
    none_first (whole ps) = refl
blocks_split (suc a) b i f file =
    let one = places_of f i (block_entries (block_at i file)) in
    let more : suc a + b ≡ suc (a + b) = omega arith in
    let at : i + 1 + a ≡ i + suc a = omega arith in
    ap (λ k. blocks_read k i f file) more
    ∙ ap (then_read one) (blocks_split a b (i + 1) f file ∙ ap (λ k. then_read (blocks_read a (i + 1) f file) (blocks_read b k f file)) at)
    ∙ sym (then_then one (blocks_read a (i + 1) f file) (blocks_read b (i + suc a) f file))

files_split : (a b total f : ℕ) (files : Files) → files_read (a + b) total f files ≡ then_read (files_read a total f files) (files_read b total (f + a) files)
files_split zero b total f files =
    let none : 0 + b ≡ b = omega arith in
    let at : f ≡ f + 0 = omega arith in
    (λ j. files_read (none j) total f files) ∙ (λ j. files_read b total (at j) files) ∙ none_first (files_read b total (f + 0) files)
  where
    none_first : (r : TrailRead) → r ≡ then_read (whole []) r
    none_first (broken g k) = refl
    none_first (whole ps) = refl
files_split (suc a) b total f files =
    let one = file_read total f (files f) in
    let more : suc a + b ≡ suc (a + b) = omega arith in
    let at : f + 1 + a ≡ f + suc a = omega arith in
    ap (λ k. files_read k total f files) more
    ∙ ap (then_read one) (files_split a b total (f + 1) files ∙ ap (λ k. then_read (files_read a total (f + 1) files) (files_read b total k files)) at)
    ∙ sym (then_then one (files_read a total (f + 1) files) (files_read b total (f + suc a) files))

-- ---- the last of what scanning finds

-- of a file of the trail all blocks are read that are sealed
file_sealed : (total tag first f n g : ℕ) (files : Files) → IsWrittenUpTo total tag first f n files → first ≤ g → g ≤ f → file_read total g (files g) ≡ blocks_read (sealed_in total f n g) 1 g (files g)
file_sealed total tag first f n g files w low high =
    sym (file_good total g (g - 10000) (files g) refl (w.fits g low high)) ∙ ap (λ k. blocks_read k 1 g (files g)) count
  where
    count : count_open total (files g) ≡ sealed_in total f n g
    count = elim (cases_eq g f) [
      | inl here ↦ (let on : (g == f) ≡ true = grind (arith, nat_tests) in
          ap (λ k. count_open total (files k)) here ∙ stands_opened total n (files f) w.stands ∙ sym (ap (λ b. cond b n total) on))
      | inr there ↦ (let off : (g == f) ≡ false = grind (arith, nat_tests) in
          full_opened total (files g) (w.full g low (omega (arith, high, there))) ∙ sym (ap (λ b. cond b n total) off))
    ]

pub sealed_few : (total f n g : ℕ) → n ≤ total → sealed_in total f n g ≤ total
sealed_few total f n g few = by_case (g == f)
  where
    by_case : (b : Bool) → cond b n total ≤ total
    by_case true = few
    by_case false = omega arith

pub tail_is_found : TailIsFound
tail_is_found files ps t total tag f n g i w low high some few =
    let e = ends_there files ps t total tag f n w in
    let k : ℕ = f - t.first in
    let j : ℕ = g - t.first in
    let c : ℕ = sealed_in total f n g in
    let there : t.first + k ≡ f = omega (arith, w.order) in
    let part : is_full total (files (t.first + k)) ≡ false = subst (λ h. is_full total (files h) ≡ false) (sym there) (stands_full total n (files f) w.stands w.not_full) in
    let all : files_read (suc k) total t.first files ≡ whole ps =
    files_follow k 10000 total t.first files (omega (arith, w.some)) (omega (arith, w.order, e.low, t.span.low, t.span.high)) (λ h from upto. w.full h from (omega arith)) part (λ h from upto. w.fits h from (omega arith))
    ∙ trail_is_read files ps t total tag f n w in
    let count : suc k ≡ j + suc (f - g) = omega (arith, w.order, low, high) in
    let at : t.first + j ≡ g = omega (arith, low) in
    let split : then_read (files_read j total t.first files) (files_read (suc (f - g)) total g files) ≡ whole ps =
    sym (ap (λ m. files_read m total t.first files) count ∙ files_split j (suc (f - g)) total t.first files ∙ ap (λ m. then_read (files_read j total t.first files) (files_read (suc (f - g)) total m files)) at) ∙ all in
    let one = both_whole (files_read j total t.first files) (files_read (suc (f - g)) total g files) ps split in
    let two = both_whole (file_read total g (files g)) (files_read (f - g) total (g + 1) files) one.back one.then in
    let blocks : c ≡ (i - 1) + (c + 1 - i) = omega (arith, some, few) in
    let from : 1 + (i - 1) ≡ i = omega (arith, some) in
    let cut : then_read (blocks_read (i - 1) 1 g (files g)) (blocks_read (c + 1 - i) i g (files g)) ≡ whole two.front =
    sym (file_sealed total tag t.first f n g files w low high ∙ ap (λ m. blocks_read m 1 g (files g)) blocks ∙ blocks_split (i - 1) (c + 1 - i) 1 g (files g) ∙ ap (λ m. then_read (blocks_read (i - 1) 1 g (files g)) (blocks_read (c + 1 - i) m g (files g))) from) ∙ two.first in
    let three = both_whole (blocks_read (i - 1) 1 g (files g)) (blocks_read (c + 1 - i) i g (files g)) two.front cut in
    record {
      before = one.front ++ three.front;
      last = three.back ++ two.back;
      are = append_assoc one.front three.front (three.back ++ two.back)
          ∙ ap (λ (l : List Placed). one.front ++ l) (sym (append_assoc three.front three.back two.back) ∙ ap (λ (l : List Placed). l ++ two.back) three.are ∙ two.are) ∙ one.are;
      read_is = (λ h. then_read (three.then h) (two.then h));
    }

-- ---- what a reader knows

pub tail_places : (old mid new : Known) (r rest : TrailRead) → old ≡ nothing_seen → reached mid ≡ gather old r → reached new ≡ gather mid rest → ReadsPlaces (then_read r rest) new.places
tail_places old mid new r rest none one two =
    let a = read_all old new (then_read r rest) none (two ∙ read_turn old mid r rest one) in
    record { placed = a.entries; read_is = a.is; places_are = ap (λ (s : Known). s.places) a.known ∙ seen_places nothing_seen a.entries }

pub first_refused : (old : Known) (r rest : TrailRead) (e : AudFault) → NotRead r e → NotRead (then_read r rest) e
first_refused old r rest e is = found_err old old r rest (then_read r rest) e is refl

pub rest_refused : (old mid : Known) (r rest : TrailRead) (e : AudFault) → reached mid ≡ gather old r → NotRead rest e → NotRead (then_read r rest) e
rest_refused old mid r rest e one is =
    found_err old mid rest (whole []) (then_read r rest) e is (ap (gather mid) (then_none rest) ∙ read_turn old mid r rest one)
