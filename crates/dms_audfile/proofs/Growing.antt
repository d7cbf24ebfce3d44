-- The trail while one more block is sealed.
use Rattle.std.proofs.Common.{ℕ, zero, suc, ◌+◌, ◌-◌, ◌*◌, ◌<◌, ◌≤◌, ◌≡◌, ◌≢◌, inl, inr, Bool, true, false, cond, List, [], ◌∷◌, ◌++◌, length, take, get_or, refl, sym, ◌∙◌, ap, subst, arith, append-nil}
use Rattle.std.proofs.lemmas.Bool.{cases_eq, false≢true}
use Rattle.std.proofs.lemmas.Bool.Decides.{nat_tests}
use Rattle.std.proofs.lemmas.List.{drop_all}
use Rattle.dms_site.specs.Files.{Files, Left, overlay_bytes, pad_zeros, with_file, OnDisk, InFile, Torn}
use Rattle.dms_site.specs.Laws.{get_or-range, range_overlaid, with_file_here, with_file_other}
use Rattle.dms_audfile.specs.Gates.{block_at, gate, sealed_blocks, is_full}
use Rattle.dms_audfile.specs.Header.{header_fits, tag_said}
use Rattle.dms_audfile.specs.Trail.{trail_from}
use Rattle.dms_audfile.specs.Sealing.{IsSealedUpTo, IsWrittenUpTo, Grows, GrowsLeft, Anyhow}
use Rattle.dms_audfile.proofs.Gates.{stands_sealed, stands_full, stands_opened, content_stands, content_sealed, opened_stands, shut_stands, opened_sealed, shut_sealed}
use Rattle.dms_audfile.proofs.Heads.{fits_content, fits_gate, tag_content, tag_gate}
use Rattle.dms_audfile.proofs.Several.{trail_grows}

-- ---- what is kept while the trail doesn't grow

pub record TrailKept (total tag first f n : ℕ) (old new : Files) : Type 0 where
  pub writes : IsWrittenUpTo total tag first f n new
  pub trail : (m : ℕ) → f < first + m → trail_from m total first new ≡ trail_from m total first old
  pub others : (g : ℕ) → g ≢ f → g ≢ f + 1 → new g ≡ old g

pub writes_same : (total tag first f n : ℕ) (old new : Files) → IsWrittenUpTo total tag first f n old → ((g : ℕ) → first ≤ g → g ≤ f → new g ≡ old g) → IsWrittenUpTo total tag first f n new
writes_same total tag first f n old new w same = record {
  order = w.order;
  some = w.some;
  not_full = w.not_full;
  full = λ g low high. ap (is_full total) (same g low (omega arith)) ∙ w.full g low high;
  stands = subst (λ l. IsSealedUpTo total n l) (sym (same f w.order (omega arith))) w.stands;
  fits = λ g low high. ap (header_fits (g - 10000) total) (same g low high) ∙ w.fits g low high;
  tags = λ g low high. ap tag_said (same g low high) ∙ w.tags g low high;
}

grows_by : (total tag first f n : ℕ) (y x : Files) (blocks : List (List ℕ)) → IsWrittenUpTo total tag first f n y → ((g : ℕ) → first ≤ g → g < f → x g ≡ y g)
    → sealed_blocks total (x f) ≡ sealed_blocks total (y f) ++ blocks → (is_full total (x f) ≡ true → (r : ℕ) → trail_from r total (f + 1) x ≡ [])
    → (m : ℕ) → f < first + m → trail_from m total first x ≡ trail_from m total first y ++ blocks
grows_by total tag first f n y x blocks w same grows none m long =
    trail_grows (f - first) m total first f y x blocks (omega (arith, w.order)) (omega (arith, w.order)) w.full (stands_full total n (y f) w.stands w.not_full) same grows none

not_true : {A : Type 0} (b : Bool) → b ≡ false → b ≡ true → A
not_true b off on = absurd (false≢true (sym off ∙ on))

-- within the write of the content, or behind it
pub content_kept : (total tag first f n m : ℕ) (y x : Files) → IsWrittenUpTo total tag first f n y → InFile f (Torn (4096 * (n + 1)) m) y x → TrailKept total tag first f n y x
content_kept total tag first f n m y x w step =
    let s = content_stands total n (y f) (x f) w.stands m step.here in
    let none : is_full total (x f) ≡ true → (r : ℕ) → trail_from r total (f + 1) x ≡ [] = λ is. not_true _ (stands_full total n (x f) s w.not_full) is in
    record {
      writes = record {
        order = w.order;
        some = w.some;
        not_full = w.not_full;
        full = λ g low high. ap (is_full total) (step.others g (omega arith)) ∙ w.full g low high;
        stands = s;
        fits = λ g low high. elim (cases_eq g f) [
          | inl is ↦ subst (λ j. header_fits (j - 10000) total (x j) ≡ true) (sym is) (fits_content (f - 10000) total n m (y f) (x f) w.stands.few w.stands.long step.here (w.fits f w.order (omega arith)))
          | inr other ↦ ap (header_fits (g - 10000) total) (step.others g other) ∙ w.fits g low high
        ];
        tags = λ g low high. elim (cases_eq g f) [
          | inl is ↦ ap (λ j. tag_said (x j)) is ∙ tag_content n m (y f) (x f) w.stands.long step.here ∙ w.tags f w.order (omega arith)
          | inr other ↦ ap tag_said (step.others g other) ∙ w.tags g low high
        ];
      };
      trail = λ r long.
          grows_by total tag first f n y x [] w (λ g low high. step.others g (omega arith)) (content_sealed total n (y f) (x f) w.stands m step.here ∙ sym (append-nil (sealed_blocks total (y f)))) none r long
          ∙ append-nil (trail_from r total first y);
      others = λ g one two. step.others g one;
    }

-- within the making of the next file, or behind it
pub next_kept : (total tag first f n : ℕ) (z y x : Files) → TrailKept total tag first f n z y → InFile (f + 1) Anyhow y x → TrailKept total tag first f n z x
next_kept total tag first f n z y x k step =
    let same : (g : ℕ) → g ≤ f → x g ≡ y g = λ g high. step.others g (omega arith) in
    let w = writes_same total tag first f n y x k.writes (λ g low high. same g high) in
    let none : is_full total (x f) ≡ true → (r : ℕ) → trail_from r total (f + 1) x ≡ [] = λ is. not_true _ (stands_full total n (x f) w.stands w.not_full) is in
    record {
      writes = w;
      trail = λ m long.
          grows_by total tag first f n y x [] k.writes (λ g low high. same g (omega arith)) (ap (sealed_blocks total) (same f (omega arith)) ∙ sym (append-nil (sealed_blocks total (y f)))) none m long
          ∙ append-nil (trail_from m total first y) ∙ k.trail m long;
      others = λ g one two. step.others g two ∙ k.others g one two;
    }

pub kept_same : (total tag first f n : ℕ) (z y x : Files) → TrailKept total tag first f n z y → x ≡ y → TrailKept total tag first f n z x
kept_same total tag first f n z y x k same = subst (λ (l : Files). TrailKept total tag first f n z l) (sym same) k

-- behind a file whose gates are all closed there is nothing
pub none_behind : (total f : ℕ) (x : Files) → 0 < total → IsSealedUpTo total 0 (x f) → (r : ℕ) → trail_from r total f x ≡ []
none_behind total f x some s zero = refl
none_behind total f x some s (suc r) =
    ap (λ b. cond b (sealed_blocks total (x f) ++ trail_from r total (f + 1) x) (sealed_blocks total (x f))) (stands_full total 0 (x f) s some) ∙ stands_sealed total 0 (x f) s

-- ---- the gate

module _ (total tag first f n : ℕ) (content : List ℕ) (z y : Files) (k : TrailKept total tag first f n z y) (long : 4096 * (n + 2) ≤ length (y f)) (block : block_at (n + 1) (y f) ≡ content)
    (next : n + 1 ≡ total → IsSealedUpTo total 0 (y (f + 1))) (head : n + 1 ≡ total → header_fits (f + 1 - 10000) total (y (f + 1)) ≡ true) (mark : n + 1 ≡ total → tag_said (y (f + 1)) ≡ tag) (x : Files) (step : InFile f (Torn (511 + (n + 1)) 1) y x) where
  none_next : (m : ℕ) → m ≤ n + 1 → IsSealedUpTo total m (x f) → is_full total (x f) ≡ true → (r : ℕ) → trail_from r total (f + 1) x ≡ []
  none_next m few s is = elim (cases_eq (n + 1) total) [
    | inl last ↦ none_behind total (f + 1) x (omega (arith, k.writes.some)) (subst (λ l. IsSealedUpTo total 0 l) (sym (step.others (f + 1) (omega arith))) (next last))
    | inr not_last ↦ not_true _ (stands_full total m (x f) s (omega (arith, k.writes.not_full))) is
  ]

  below : (g : ℕ) → first ≤ g → g < f → x g ≡ y g
  below g low high = step.others g (omega arith)

  pub gate_others : (g : ℕ) → g ≢ f → g ≢ f + 1 → x g ≡ z g
  gate_others g one two = step.others g one ∙ k.others g one two

  gate_fits : (m : ℕ) → IsSealedUpTo total m (x f) → (g : ℕ) → first ≤ g → g ≤ f → header_fits (g - 10000) total (x g) ≡ true
  gate_fits m s g low high = elim (cases_eq g f) [
    | inl is ↦ subst (λ j. header_fits (j - 10000) total (x j) ≡ true) (sym is)
        (fits_gate (f - 10000) total n m (y f) (x f) s k.writes.not_full k.writes.stands.few (omega (arith, long)) step.here (k.writes.fits f k.writes.order (omega arith)))
    | inr other ↦ ap (header_fits (g - 10000) total) (step.others g other) ∙ k.writes.fits g low high
  ]

  gate_tags : (g : ℕ) → first ≤ g → g ≤ f → tag_said (x g) ≡ tag
  gate_tags g low high = elim (cases_eq g f) [
    | inl is ↦ ap (λ j. tag_said (x j)) is ∙ tag_gate n (y f) (x f) (omega (arith, long)) step.here ∙ k.writes.tags f k.writes.order (omega arith)
    | inr other ↦ ap tag_said (step.others g other) ∙ k.writes.tags g low high
  ]

  opened_trail : gate (n + 1) (x f) ≡ 1 → (m : ℕ) → f < first + m → trail_from m total first x ≡ trail_from m total first z ++ content ∷ []
  opened_trail is m far =
      let s = opened_stands total n (y f) (x f) k.writes.stands k.writes.not_full long step.here is in
      grows_by total tag first f n y x (content ∷ []) k.writes below
      (opened_sealed total n (y f) (x f) k.writes.stands k.writes.not_full long step.here is ∙ ap (λ (l : List ℕ). sealed_blocks total (y f) ++ l ∷ []) block)
      (none_next (n + 1) (omega arith) s) m far
      ∙ ap (λ (l : List (List ℕ)). l ++ content ∷ []) (k.trail m far)

  shut_trail : gate (n + 1) (x f) ≢ 1 → (m : ℕ) → f < first + m → trail_from m total first x ≡ trail_from m total first z
  shut_trail not m far =
      let s = shut_stands total n (y f) (x f) k.writes.stands k.writes.not_full long step.here not in
      grows_by total tag first f n y x [] k.writes below
      (shut_sealed total n (y f) (x f) k.writes.stands k.writes.not_full long step.here not ∙ sym (append-nil (sealed_blocks total (y f))))
      (none_next n (omega arith) s) m far
      ∙ append-nil (trail_from m total first y) ∙ k.trail m far

  module _ (is : gate (n + 1) (x f) ≡ 1) where
    stands : IsSealedUpTo total (n + 1) (x f)
    stands = opened_stands total n (y f) (x f) k.writes.stands k.writes.not_full long step.here is

    pub gate_writes : n + 1 ≢ total → IsWrittenUpTo total tag first f (n + 1) x
    gate_writes more = record {
      order = k.writes.order;
      some = k.writes.some;
      not_full = omega (arith, k.writes.not_full);
      full = λ g low high. ap (is_full total) (below g low high) ∙ k.writes.full g low high;
      stands = stands;
      fits = gate_fits (n + 1) stands;
      tags = gate_tags;
    }

    full_now : n + 1 ≡ total → is_full total (x f) ≡ true
    unfolding is_full
    full_now last = let e = stands_opened total (n + 1) (x f) stands in grind (arith, nat_tests)

    pub gate_writes_next : n + 1 ≡ total → IsWrittenUpTo total tag first (f + 1) 0 x
    gate_writes_next last = record {
      order = omega (arith, k.writes.order);
      some = k.writes.some;
      not_full = omega (arith, k.writes.some);
      full = λ g low high. elim (cases_eq g f) [
        | inl here ↦ ap (λ j. is_full total (x j)) here ∙ full_now last
        | inr other ↦ ap (is_full total) (below g low (omega arith)) ∙ k.writes.full g low (omega arith)
      ];
      stands = subst (λ l. IsSealedUpTo total 0 l) (sym (step.others (f + 1) (omega arith))) (next last);
      fits = λ g low high. elim (cases_eq g (f + 1)) [
        | inl here ↦ subst (λ j. header_fits (j - 10000) total (x j) ≡ true) (sym here) (ap (header_fits (f + 1 - 10000) total) (step.others (f + 1) (omega arith)) ∙ head last)
        | inr other ↦ gate_fits (n + 1) stands g low (omega arith)
      ];
      tags = λ g low high. elim (cases_eq g (f + 1)) [
        | inl here ↦ ap (λ j. tag_said (x j)) here ∙ ap tag_said (step.others (f + 1) (omega arith)) ∙ mark last
        | inr other ↦ gate_tags g low (omega arith)
      ];
    }

    opened_grows : Grows total tag first f (content ∷ []) z x
    opened_grows = elim (cases_eq (n + 1) total) [
      | inl last ↦ record { some = 1; within = omega arith; trail = opened_trail is; others = gate_others; file = f + 1; count = 0; writes = gate_writes_next last; low = omega arith; high = omega arith }
      | inr more ↦ record { some = 1; within = omega arith; trail = opened_trail is; others = gate_others; file = f; count = n + 1; writes = gate_writes more; low = omega arith; high = omega arith }
    ]

  shut_writes : gate (n + 1) (x f) ≢ 1 → IsWrittenUpTo total tag first f n x
  shut_writes not =
      let s = shut_stands total n (y f) (x f) k.writes.stands k.writes.not_full long step.here not in
      record {
        order = k.writes.order;
        some = k.writes.some;
        not_full = k.writes.not_full;
        full = λ g low high. ap (is_full total) (below g low high) ∙ k.writes.full g low high;
        stands = s;
        fits = gate_fits n s;
        tags = gate_tags;
      }

  -- the gate stands open, or it doesn't
  pub gate_grows : Grows total tag first f (content ∷ []) z x
  gate_grows = elim (cases_eq (gate (n + 1) (x f)) 1) [
    | inl is ↦ opened_grows is
    | inr not ↦ record { some = 0; within = omega arith; trail = λ m far. shut_trail not m far ∙ sym (append-nil (trail_from m total first z)); others = gate_others; file = f; count = n; writes = shut_writes not; low = omega arith; high = omega arith }
  ]

  module _ (whole : x f ≡ overlay_bytes (511 + (n + 1)) (1 ∷ []) (y f)) where
    is_one : gate (n + 1) (x f) ≡ 1
    is_one =
        let e : 511 + (n + 1) + 0 ≡ 511 + (n + 1) = omega arith in
        ap (λ (l : List ℕ). get_or l (511 + (n + 1)) 0) whole
        ∙ ap (λ k. get_or (overlay_bytes (511 + (n + 1)) (1 ∷ []) (y f)) k 0) (sym e)
        ∙ sym (get_or-range (511 + (n + 1)) 1 0 (overlay_bytes (511 + (n + 1)) (1 ∷ []) (y f)) (omega arith))
        ∙ ap (λ (l : List ℕ). get_or l 0 0) (range_overlaid (511 + (n + 1)) (1 ∷ []) (y f))

    pub gate_done : (m : ℕ) → f < first + m → trail_from m total first x ≡ trail_from m total first z ++ content ∷ []
    gate_done = opened_trail is_one

    pub gate_done_writes : (n + 1 ≢ total → IsWrittenUpTo total tag first f (n + 1) x) × (n + 1 ≡ total → IsWrittenUpTo total tag first (f + 1) 0 x)
    gate_done_writes = (gate_writes is_one, gate_writes_next is_one)

-- ---- outcomes

pub kept_grows : (total tag first f n : ℕ) (blocks : List (List ℕ)) (z x : Left) → TrailKept total tag first f n z.files x.files → x.said ≡ z.said → GrowsLeft total tag first f blocks z x
kept_grows total tag first f n blocks z x k said = record {
  files = record { some = 0; within = omega arith; trail = λ m far. k.trail m far ∙ sym (append-nil (trail_from m total first z.files)); others = k.others; file = f; count = n; writes = k.writes; low = omega arith; high = omega arith };
  said = said;
}

-- ---- for the code

pub record KeptLeft (total tag first f n : ℕ) (old new : Left) : Type 0 where
  pub files : TrailKept total tag first f n old.files new.files
  pub said : new.said ≡ old.said

pub content_step : (total tag first f n m : ℕ) (old : Files) → IsWrittenUpTo total tag first f n old → (z x : Left) → ((g : ℕ) → first ≤ g → g ≤ f → z.files g ≡ old g)
    → OnDisk f (Torn (4096 * (n + 1)) m) z x → KeptLeft total tag first f n z x
content_step total tag first f n m old w z x same step = record {
  files = content_kept total tag first f n m z.files x.files (writes_same total tag first f n old z.files w same) step.files;
  said = step.said;
}

pub next_step : (total tag first f n : ℕ) (z y x : Left) → KeptLeft total tag first f n z y → OnDisk (f + 1) Anyhow y x → KeptLeft total tag first f n z x
next_step total tag first f n z y x k step = record { files = next_kept total tag first f n z.files y.files x.files k.files step.files; said = step.said ∙ k.said }

pub none_grows : (total tag first f n : ℕ) (blocks : List (List ℕ)) (z x : Left) → KeptLeft total tag first f n z x → GrowsLeft total tag first f blocks z x
none_grows total tag first f n blocks z x k = kept_grows total tag first f n blocks z x k.files k.said

-- ---- a file that is started

overlaid_none : (head : List ℕ) → overlay_bytes 0 head [] ≡ head
unfolding overlay_bytes pad_zeros
overlaid_none head = ap (λ (l : List ℕ). head ++ l) (drop_all (0 + length head) [] (omega arith)) ∙ append-nil head

pub start_is : (old mid new : Files) (f : ℕ) (head : List ℕ) → mid ≡ with_file old f (take 0 (old f)) → new ≡ with_file mid f (overlay_bytes 0 head (mid f)) → new ≡ with_file old f head
start_is old mid new f head first then = λ i g. at_each g i
  where
    here : new f ≡ head
    here = ap (λ (l : Files). l f) then ∙ with_file_here mid f (overlay_bytes 0 head (mid f)) ∙ ap (λ (l : List ℕ). overlay_bytes 0 head l) (ap (λ (l : Files). l f) first ∙ with_file_here old f (take 0 (old f))) ∙ overlaid_none head

    at_each : (g : ℕ) → new g ≡ with_file old f head g
    at_each g = elim (cases_eq g f) [
      | inl is ↦ ap new is ∙ here ∙ sym (with_file_here old f head) ∙ ap (with_file old f head) (sym is)
      | inr other ↦ ap (λ (l : Files). l g) then ∙ with_file_other mid f (overlay_bytes 0 head (mid f)) g other ∙ ap (λ (l : Files). l g) first ∙ with_file_other old f (take 0 (old f)) g other ∙ sym (with_file_other old f head g other)
    ]

pub anyhow : {one : List ℕ → List ℕ → Type 0} (f : ℕ) (y x : Left) → OnDisk f one y x → OnDisk f Anyhow y x
anyhow f y x step = record { files = record { here = tt; others = step.files.others }; said = step.said }

pub anyhow_after : {one two : List ℕ → List ℕ → Type 0} (f : ℕ) (z y x : Left) → OnDisk f one z y → OnDisk f two y x → OnDisk f Anyhow z x
anyhow_after f z y x r s = record { files = record { here = tt; others = λ g ne. s.files.others g ne ∙ r.files.others g ne }; said = s.said ∙ r.said }

pub next_others : (f n total : ℕ) (one two : Files) (head : List ℕ) → (n + 1 ≡ total → two ≡ with_file one (f + 1) head) → (n + 1 ≢ total → two ≡ one) → InFile (f + 1) Anyhow one two
next_others f n total one two head last not_last = record {
  here = tt;
  others = λ g ne. elim (cases_eq (n + 1) total) [
    | inl is ↦ ap (λ (l : Files). l g) (last is) ∙ with_file_other one (f + 1) head g ne
    | inr not ↦ ap (λ (l : Files). l g) (not_last not)
  ];
}
