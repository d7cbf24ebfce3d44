-- The trail while a group of blocks is sealed: their contents first, and then their gates, one behind the other.
use Rattle.std.proofs.Common.{ℕ, zero, suc, ◌+◌, ◌-◌, ◌*◌, ◌<◌, ◌≤◌, ◌≡◌, ◌≢◌, inl, inr, true, List, [], ◌∷◌, ◌++◌, length, take, drop, length-take, length-drop, refl, sym, ◌∙◌, ap, subst, arith, append-nil, append_assoc}
use Rattle.std.proofs.lemmas.Bool.{cases_eq}
use Rattle.dms_moments.specs.Moments.{Clock, Now, Steps}
use Rattle.dms_moments.specs.MomentLaws.{runs_none}
use Rattle.dms_site.specs.Files.{Files, Left, range, overlay_bytes, with_file, OnDisk, InFile, Torn, Only}
use Rattle.dms_site.specs.Laws.{range_same, range_overlaid, length-overlaid, torn_overlaid, with_file_here, with_file_other}
use Rattle.dms_audfile.specs.Gates.{block_at, blocks_from}
use Rattle.dms_audfile.specs.Header.{new_header, header_fits, tag_said}
use Rattle.dms_audfile.specs.Trail.{trail_from}
use Rattle.dms_audfile.specs.Sealing.{IsSealedUpTo, IsWrittenUpTo, Grows, GrowsLeft, Anyhow, WritesBlocks, MayOpen, Opens}
use Rattle.dms_audfile.proofs.Blank.{header_stands}
use Rattle.dms_audfile.proofs.Heads.{fits_new}
use Rattle.dms_audfile.proofs.Gates.{blocks_more}
use Rattle.dms_audfile.proofs.Growing.{TrailKept, KeptLeft, content_kept, next_kept, gate_grows, gate_done, gate_done_writes}

-- ---- lists of blocks

pub blocks_alike : (m i k : ℕ) (x y : List ℕ) → ((j : ℕ) → j < m → block_at (i + j) x ≡ block_at (k + j) y) → blocks_from m i x ≡ blocks_from m k y
blocks_alike zero i k x y same = refl
blocks_alike (suc m) i k x y same =
    let first : block_at i x ≡ block_at k y = (let e : i ≡ i + 0 = omega arith in let d : k + 0 ≡ k = omega arith in ap (λ j. block_at j x) e ∙ same 0 (omega arith) ∙ ap (λ j. block_at j y) d) in
    let rest : blocks_from m (i + 1) x ≡ blocks_from m (k + 1) y = blocks_alike m (i + 1) (k + 1) x y (λ j low.
    let e : i + 1 + j ≡ i + (j + 1) = omega arith in let d : k + (j + 1) ≡ k + 1 + j = omega arith in ap (λ l. block_at l x) e ∙ same (j + 1) (omega (arith, low)) ∙ ap (λ l. block_at l y) d) in
    λ n. first n ∷ rest n

pub blocks_long : (m i : ℕ) (file : List ℕ) → length (blocks_from m i file) ≡ m
blocks_long zero i file = refl
blocks_long (suc m) i file = ap suc (blocks_long m (i + 1) file)

pub blocks_front : (k m i : ℕ) (file : List ℕ) → k ≤ m → take k (blocks_from m i file) ≡ blocks_from k i file
blocks_front zero m i file le = refl
blocks_front (suc k) zero i file le = absurd (omega arith)
blocks_front (suc k) (suc m) i file le = ap (λ (l : List (List ℕ)). block_at i file ∷ l) (blocks_front k m (i + 1) file (omega arith))

-- ---- the contents

pub torn_wider : (lo m at n : ℕ) (old new : List ℕ) → lo ≤ at → at + n ≤ lo + m → Torn at n old new → Torn lo m old new
torn_wider lo m at n old new low high torn = record {
  no_shorter = torn.no_shorter;
  no_longer = omega (arith, torn.no_longer);
  below = λ i within less. torn.below i within (omega arith);
  above = λ i within more. torn.above i within (omega arith);
}

pub torn_then : (lo m : ℕ) (a b c : List ℕ) → Torn lo m a b → Torn lo m b c → Torn lo m a c
torn_then lo m a b c one two = record {
  no_shorter = omega (arith, one.no_shorter, two.no_shorter);
  no_longer = omega (arith, one.no_longer, two.no_longer);
  below = λ i within less. two.below i (omega (arith, within, one.no_shorter)) less ∙ one.below i within less;
  above = λ i within more. two.above i (omega (arith, within, one.no_shorter)) more ∙ one.above i within more;
}

pub in_then : (f lo m at n : ℕ) (a b c : Files) → lo ≤ at → at + n ≤ lo + m → InFile f (Torn lo m) a b → InFile f (Torn at n) b c → InFile f (Torn lo m) a c
in_then f lo m at n a b c low high one two = record {
  here = torn_then lo m (a f) (b f) (c f) one.here (torn_wider lo m at n (b f) (c f) low high two.here);
  others = λ g other. two.others g other ∙ one.others g other;
}

pub disk_then : (f lo m at n : ℕ) (a b c : Left) → lo ≤ at → at + n ≤ lo + m → OnDisk f (Torn lo m) a b → OnDisk f (Torn at n) b c → OnDisk f (Torn lo m) a c
disk_then f lo m at n a b c low high one two = record { files = in_then f lo m at n a.files b.files c.files low high one.files two.files; said = two.said ∙ one.said }

-- what a whole write leaves
pub in_written : (f at : ℕ) (bytes : List ℕ) (a b : Files) → b ≡ with_file a f (overlay_bytes at bytes (a f)) → InFile f (Torn at (length bytes)) a b
in_written f at bytes a b is =
    let here : b f ≡ overlay_bytes at bytes (a f) = ap (λ (l : Files). l f) is ∙ with_file_here a f (overlay_bytes at bytes (a f)) in
    record {
      here = subst (λ l. Torn at (length bytes) (a f) l) (sym here) (torn_overlaid at bytes (a f));
      others = λ g other. ap (λ (l : Files). l g) is ∙ with_file_other a f (overlay_bytes at bytes (a f)) g other;
    }

-- one more block is written
module _ (f n m i : ℕ) (contents piece : List ℕ) (a b : Files) (within : i < m) (size : length piece ≡ 4096) (part : piece ≡ block_at i contents) (is : b ≡ with_file a f (overlay_bytes (4096 * (n + i + 1)) piece (a f))) where
  here : b f ≡ overlay_bytes (4096 * (n + i + 1)) piece (a f)
  here = ap (λ (l : Files). l f) is ∙ with_file_here a f (overlay_bytes (4096 * (n + i + 1)) piece (a f))

  pub one_step : InFile f (Torn (4096 * (n + i + 1)) 4096) a b
  one_step = subst (λ k. InFile f (Torn (4096 * (n + i + 1)) k) a b) size (in_written f (4096 * (n + i + 1)) piece a b is)

  pub one_long : 4096 * (n + i + 2) ≤ length (b f)
  one_long = omega (arith, ap length here, length-overlaid (4096 * (n + i + 1)) piece (a f), size)

  one_block : block_at (n + 1 + i) (b f) ≡ block_at i contents
  one_block =
      let e : n + 1 + i ≡ n + i + 1 = omega arith in
      ap (λ j. block_at j (b f)) e ∙ ap (λ l. range (4096 * (n + i + 1)) 4096 l) here
      ∙ subst (λ k. range (4096 * (n + i + 1)) k (overlay_bytes (4096 * (n + i + 1)) piece (a f)) ≡ piece) size (range_overlaid (4096 * (n + i + 1)) piece (a f)) ∙ part

  pub more_blocks : 4096 * (n + i + 1) ≤ length (a f) → ((j : ℕ) → j < i → block_at (n + 1 + j) (a f) ≡ block_at j contents) → (j : ℕ) → j < i + 1 → block_at (n + 1 + j) (b f) ≡ block_at j contents
  more_blocks long before j low = elim (cases_eq j i) [
    | inl is ↦ subst (λ k. block_at (n + 1 + k) (b f) ≡ block_at k contents) (sym is) one_block
    | inr other ↦ range_same (4096 * (n + 1 + j)) 4096 (a f) (b f) (omega (arith, long, low, other)) (omega (arith, long, low, other, one_step.here.no_shorter))
        (λ k from to. one_step.here.below k (omega (arith, long, low, other, to)) (omega (arith, low, other, to))) ∙ before j (omega (arith, low, other))
  ]

-- ---- the gates

pub kept_none : (total tag first f n : ℕ) (y : Files) → IsWrittenUpTo total tag first f n y → TrailKept total tag first f n y y
kept_none total tag first f n y w = record { writes = w; trail = λ r far. refl; others = λ g one two. refl }

pub opens_none : (total tag first f n : ℕ) (files : Files) → IsWrittenUpTo total tag first f n files → Opens total tag first f n 0 files files
opens_none total tag first f n files w = record {
  trail = λ r far. sym (append-nil (trail_from r total first files));
  writes = (λ ne. let e : n ≡ n + 0 = omega arith in subst (λ k. IsWrittenUpTo total tag first f k files) e w, λ is. absurd (omega (arith, is, w.not_full)));
  same = λ j low long. refl;
  long = omega arith;
  others = λ g other. refl;
}

-- behind i gates that are open, the next is written
module _ (total tag first f n m i : ℕ) (old y : Files) (r : MayOpen total tag f n m old) (within : i < m) (o : Opens total tag first f n i old y) where
  writes_now : IsWrittenUpTo total tag first f (n + i) y
  writes_now = o.writes.0 (omega (arith, r.within, within))

  long_now : 4096 * (n + i + 2) ≤ length (y f)
  long_now = omega (arith, r.long, o.long, within)

  block_now : block_at (n + i + 1) (y f) ≡ block_at (n + 1 + i) (old f)
  block_now = let e : n + i + 1 ≡ n + 1 + i = omega arith in ap (λ j. block_at j (y f)) e ∙ o.same (n + 1 + i) (omega arith) (omega (arith, r.long, within))

  next_now : y (f + 1) ≡ old (f + 1)
  next_now = o.others (f + 1) (omega arith)

  next_closed : n + i + 1 ≡ total → IsSealedUpTo total 0 (y (f + 1))
  next_closed last = subst (λ l. IsSealedUpTo total 0 l) (sym next_now) (r.next (omega (arith, last, r.within, within)))

  next_head : n + i + 1 ≡ total → header_fits (f + 1 - 10000) total (y (f + 1)) ≡ true
  next_head last = ap (header_fits (f + 1 - 10000) total) next_now ∙ r.head (omega (arith, last, r.within, within))

  next_mark : n + i + 1 ≡ total → tag_said (y (f + 1)) ≡ tag
  next_mark last = ap tag_said next_now ∙ r.mark (omega (arith, last, r.within, within))

  more_blocks_taken : (s : ℕ) → s ≤ 1 → blocks_from i (n + 1) (old f) ++ take s (block_at (n + 1 + i) (old f) ∷ []) ≡ take (i + s) (blocks_from m (n + 1) (old f))
  more_blocks_taken zero few = let e : i + 0 ≡ i = omega arith in append-nil (blocks_from i (n + 1) (old f)) ∙ sym (blocks_front i m (n + 1) (old f) (omega arith)) ∙ ap (λ k. take k (blocks_from m (n + 1) (old f))) (sym e)
  more_blocks_taken (suc zero) few =
      let e : suc i ≡ i + 1 = omega arith in
      sym (blocks_more i (n + 1) (old f)) ∙ sym (blocks_front (suc i) m (n + 1) (old f) (omega arith)) ∙ ap (λ k. take k (blocks_from m (n + 1) (old f))) e
  more_blocks_taken (suc (suc s)) few = absurd (omega arith)

  pub gate_next : (x : Files) → InFile f (Torn (511 + (n + i + 1)) 1) y x → Grows total tag first f (blocks_from m (n + 1) (old f)) old x
  gate_next x step =
      let g = gate_grows total tag first f (n + i) (block_at (n + 1 + i) (old f)) y y (kept_none total tag first f (n + i) y writes_now) long_now block_now next_closed next_head next_mark x step in
      record {
        some = i + g.some;
        within = omega (arith, g.within, within, blocks_long m (n + 1) (old f));
        trail = λ k far. g.trail k far ∙ ap (λ (l : List (List ℕ)). l ++ take g.some (block_at (n + 1 + i) (old f) ∷ [])) (o.trail k far)
            ∙ append_assoc (trail_from k total first old) (blocks_from i (n + 1) (old f)) (take g.some (block_at (n + 1 + i) (old f) ∷ []))
            ∙ ap (λ (l : List (List ℕ)). trail_from k total first old ++ l) (more_blocks_taken g.some (omega (arith, g.within)));
        others = λ h one two. g.others h one two ∙ o.others h one;
        file = g.file;
        count = g.count;
        writes = g.writes;
        low = g.low;
        high = g.high;
      }

  module _ (x : Files) (is : x ≡ with_file y f (overlay_bytes (511 + (n + i + 1)) (1 ∷ []) (y f))) where
    step : InFile f (Torn (511 + (n + i + 1)) 1) y x
    step = in_written f (511 + (n + i + 1)) (1 ∷ []) y x is

    whole : x f ≡ overlay_bytes (511 + (n + i + 1)) (1 ∷ []) (y f)
    whole = ap (λ (l : Files). l f) is ∙ with_file_here y f (overlay_bytes (511 + (n + i + 1)) (1 ∷ []) (y f))

    gated : (k : ℕ) → f < first + k → trail_from k total first x ≡ trail_from k total first y ++ block_at (n + 1 + i) (old f) ∷ []
    gated = gate_done total tag first f (n + i) (block_at (n + 1 + i) (old f)) y y (kept_none total tag first f (n + i) y writes_now) long_now block_now next_closed next_head next_mark x step whole

    writes_then : (n + i + 1 ≢ total → IsWrittenUpTo total tag first f (n + i + 1) x) × (n + i + 1 ≡ total → IsWrittenUpTo total tag first (f + 1) 0 x)
    writes_then = gate_done_writes total tag first f (n + i) (block_at (n + 1 + i) (old f)) y y (kept_none total tag first f (n + i) y writes_now) long_now block_now next_closed next_head next_mark x step whole

    pub opens_more : Opens total tag first f n (i + 1) old x
    opens_more =
        let e : n + i + 1 ≡ n + (i + 1) = omega arith in
        let d : suc i ≡ i + 1 = omega arith in
        record {
          trail = λ k far. gated k far ∙ ap (λ (l : List (List ℕ)). l ++ block_at (n + 1 + i) (old f) ∷ []) (o.trail k far)
              ∙ append_assoc (trail_from k total first old) (blocks_from i (n + 1) (old f)) (block_at (n + 1 + i) (old f) ∷ [])
              ∙ ap (λ (l : List (List ℕ)). trail_from k total first old ++ l) (sym (blocks_more i (n + 1) (old f)) ∙ ap (λ k. blocks_from k (n + 1) (old f)) d);
          writes = (λ more. subst (λ k. IsWrittenUpTo total tag first f k x) e (writes_then.0 (λ last. more (sym e ∙ last))), λ last. writes_then.1 (e ∙ last));
          same = λ j low long. range_same (4096 * j) 4096 (y f) (x f) (omega (arith, long, o.long)) (omega (arith, long, o.long, step.here.no_shorter))
              (λ k from to. step.here.above k (omega (arith, to, long, o.long)) (omega (arith, from, low, r.within, within, writes_now.stands.few))) ∙ o.same j low long;
          long = omega (arith, o.long, step.here.no_shorter);
          others = λ h other. step.others h other ∙ o.others h other;
        }

-- ---- all of it

-- what is behind the contents and the next file
pub may_open : (total f n m k : ℕ) (contents head : List ℕ) (old one two : Files) → 0 < m → n + m ≤ total → total ≤ 512 → 8 ≤ total → f < 20000 → k ≡ f - 9999 → head ≡ new_header k total (tag_said head) → 4096 * (n + 1) ≤ length (old f)
    → WritesBlocks f n m contents old one → (n + m ≡ total → two ≡ with_file one (f + 1) head) → (n + m ≢ total → two ≡ one) → MayOpen total (tag_said head) f n m two
may_open total f n m k contents head old one two some within few many low k-is head-is long first last not_last =
    let same : two f ≡ one f = elim (cases_eq (n + m) total) [
      | inl is ↦ ap (λ (l : Files). l f) (last is) ∙ with_file_other one (f + 1) head f (omega arith)
      | inr not ↦ ap (λ (l : Files). l f) (not_last not)
    ] in
    let stands_next : n + m ≡ total → two (f + 1) ≡ head = λ at_last. ap (λ (l : Files). l (f + 1)) (last at_last) ∙ with_file_here one (f + 1) head in
    let made : n + m ≡ total → two (f + 1) ≡ new_header k total (tag_said head) = λ at_last. stands_next at_last ∙ head-is in
    record {
      within = within;
      long = omega (arith, ap length same, first.long long);
      next = λ at_last. header_stands k total (tag_said head) (two (f + 1)) (made at_last) few;
      head = λ at_last.
          let e : f + 1 - 10000 ≡ k = omega arith in
          ap (λ j. header_fits j total (two (f + 1))) e ∙ fits_new k total (tag_said head) (two (f + 1)) (made at_last) (header_stands k total (tag_said head) (two (f + 1)) (made at_last) few) (omega arith) many;
      mark = λ at_last. ap tag_said (stands_next at_last);
    }

pub may_open_same : (total tag f n m : ℕ) (mid y : Files) → y ≡ mid → MayOpen total tag f n m mid → MayOpen total tag f n m y
may_open_same total tag f n m mid y is r = subst (λ (l : Files). MayOpen total tag f n m l) (sym is) r

-- what the contents and the next file leave as it was
pub group_kept : (total tag first f n m : ℕ) (contents : List ℕ) (old one two : Files) → IsWrittenUpTo total tag first f n old → WritesBlocks f n m contents old one → InFile (f + 1) Anyhow one two → TrailKept total tag first f n old two
group_kept total tag first f n m contents old one two w wrote next = next_kept total tag first f n old one two (content_kept total tag first f n (4096 * m) old one w wrote.step) next

pub group_blocks : (f n m : ℕ) (contents : List ℕ) (old one two : Files) → 4096 * (n + 1) ≤ length (old f) → WritesBlocks f n m contents old one → InFile (f + 1) Anyhow one two → blocks_from m (n + 1) (two f) ≡ blocks_from m 0 contents
group_blocks f n m contents old one two long first next =
    ap (λ (l : List ℕ). blocks_from m (n + 1) l) (next.others f (omega arith)) ∙ blocks_alike m (n + 1) 0 (one f) contents (λ j low. let e : j ≡ 0 + j = omega arith in first.blocks long j low ∙ ap (λ k. block_at k contents) e)

-- what grows behind what is kept
pub kept_then : (total tag first f n : ℕ) (blocks : List (List ℕ)) (z y x : Left) → KeptLeft total tag first f n z y → GrowsLeft total tag first f blocks y x → GrowsLeft total tag first f blocks z x
kept_then total tag first f n blocks z y x k g = record {
  files = record {
    some = g.files.some;
    within = g.files.within;
    trail = λ r far. g.files.trail r far ∙ ap (λ (l : List (List ℕ)). l ++ take g.files.some blocks) (k.files.trail r far);
    others = λ h one two. g.files.others h one two ∙ k.files.others h one two;
    file = g.files.file;
    count = g.files.count;
    writes = g.files.writes;
    low = g.files.low;
    high = g.files.high;
  };
  said = g.said ∙ k.said;
}

-- ---- for the code

-- what a stop leaves within the write of the next gate
pub gate_left : (total tag first f n m i place : ℕ) (old mid : Files) (z y x : Left) → place ≡ n + i → MayOpen total tag f n m old → i < m → Opens total tag first f n i old mid → z.files ≡ old → y.files ≡ mid → y.said ≡ z.said
    → OnDisk f (Torn (511 + (place + 1)) 1) y x → GrowsLeft total tag first f (blocks_from m (n + 1) (old f)) z x
gate_left total tag first f n m i place old mid z y x at r within o from now said step = record {
  files = subst (λ (l : Files). Grows total tag first f (blocks_from m (n + 1) (old f)) l x.files) (sym from)
      (gate_next total tag first f n m i old mid r within o x.files
      (subst (λ (l : Files). InFile f (Torn (511 + (n + i + 1)) 1) l x.files) now (subst (λ k. InFile f (Torn (511 + (k + 1)) 1) y.files x.files) at step.files)));
  said = step.said ∙ said;
}

pub opens_next : (total tag first f n m i place : ℕ) (old y x : Files) → place ≡ n + i → MayOpen total tag f n m old → i < m → Opens total tag first f n i old y → x ≡ with_file y f (overlay_bytes (511 + (place + 1)) (1 ∷ []) (y f)) → Opens total tag first f n (i + 1) old x
opens_next total tag first f n m i place old y x at r within o is =
    opens_more total tag first f n m i old y r within o x (is ∙ ap (λ k. with_file y f (overlay_bytes (511 + (k + 1)) (1 ∷ []) (y f))) at)

-- nothing is done
pub opens_still : (total tag first f n : ℕ) (blocks : List (List ℕ)) (files : Files) (a : Clock Left) → IsWrittenUpTo total tag first f n files → Only files a → Steps (GrowsLeft total tag first f blocks) a a
opens_still total tag first f n blocks files a w only = record { follows = λ x now. (x, now, here x now); runs = runs_none a _ }
  where
    here : (x : Left) → Now a x → GrowsLeft total tag first f blocks x x
    here x now = record {
      files = record {
        some = 0;
        within = omega arith;
        trail = λ r far. sym (append-nil (trail_from r total first x.files));
        others = λ g one two. refl;
        file = f;
        count = n;
        writes = subst (λ (l : Files). IsWrittenUpTo total tag first f n l) (sym (only x now)) w;
        low = omega arith;
        high = omega arith;
      };
      said = refl;
    }

-- the piece of the contents that is written
pub piece_long : (i m : ℕ) (contents : List ℕ) → i < m → 4096 * m ≤ length contents → length (block_at i contents) ≡ 4096
unfolding range
piece_long i m contents within long = omega (arith, within, long, length-take 4096 (drop (4096 * i) contents), length-drop (4096 * i) contents)

pub piece_is : (i : ℕ) (contents : List ℕ) → take (4096 * i + 4096 - 4096 * i) (drop (4096 * i) contents) ≡ block_at i contents
unfolding range
piece_is i contents = let e : 4096 * i + 4096 - 4096 * i ≡ 4096 = omega arith in ap (λ k. take k (drop (4096 * i) contents)) e

-- what a stop leaves within the write of the next block
pub content_left : (f n m i place : ℕ) (piece : List ℕ) (a b c : Left) → place ≡ n + i → i < m → length piece ≡ 4096 → OnDisk f (Torn (4096 * (n + 1)) (4096 * m)) a b → OnDisk f (Torn (4096 * (place + 1)) (length piece)) b c → OnDisk f (Torn (4096 * (n + 1)) (4096 * m)) a c
content_left f n m i place piece a b c at within size one two = disk_then f (4096 * (n + 1)) (4096 * m) (4096 * (place + 1)) (length piece) a b c (omega (arith, at)) (omega (arith, at, within, size)) one two

-- by the contents that were written
pub open_steps : (total tag first f n m : ℕ) (contents : List ℕ) (mid : Files) (a b : Clock Left) → blocks_from m (n + 1) (mid f) ≡ blocks_from m 0 contents
    → Steps (GrowsLeft total tag first f (blocks_from m (n + 1) (mid f))) a b → Steps (GrowsLeft total tag first f (blocks_from m 0 contents)) a b
open_steps total tag first f n m contents mid a b is steps = subst (λ (l : List (List ℕ)). Steps (GrowsLeft total tag first f l) a b) is steps
