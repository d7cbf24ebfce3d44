-- Calls that change the list of one structure, one after another.
use Rattle.std.proofs.Common.{◌≡◌, ◌≢◌, ◌∙◌, ◌-◌, ◌<◌, ◌≤◌, ℕ, zero, suc, List, [], ◌∷◌, true, false, Ok, Err, Some, None, inl, inr, refl, sym, ap, subst, length, get_or, arith}
use Rattle.std.specs.Prelude.{IsTrue, OnOk, ◌==◌}
use Rattle.std.specs.List.{list_all}
use Rattle.std.proofs.lemmas.Bool.{and_parts, cases_eq}
use Rattle.std.proofs.lemmas.Bool.Decides.{nat_tests}
use Rattle.std.specs.declared.option.Option.{Option}
use Rattle.std.specs.declared.result.Result.{Result}
use Rattle.dms_block.specs.declared.block_fault.BlockFault.{BlockFault}
use Rattle.dms_block.specs.declared.blocks.Blocks.{Ghosts}
use Rattle.dms_block.specs.declared.overlay.Overlay.{Overlay}
use Rattle.dms_block.specs.Content.{apply_changes, block_in, Content, counts_after}
use Rattle.dms_block.specs.Faults.{IfFull, NotFull}
use Rattle.dms_block.specs.declared.block_fault.BlockFault.TheVariants.{Disk, Memory, Full, Damaged, Say}
use Rattle.dms_block.specs.Counts.{Raised}
use Rattle.dms_block.specs.Held.{Alters, AuditPace, BlocksAgree, CausedOr, HasCausesOr, Held, IsShort, Lasts, SameBlocks}
use Rattle.dms_block.specs.HeldLaws.{causes_or_on, lasts_none, looks_err, passes_none, passes_on, same_none, stays_none, stays_on, told_after, unbroken_is, unbroken_map}
use Rattle.dms_block.specs.View.{overlay_changes, overlay_content, ReadsOverlay, seen_counts, under}
use Rattle.dms_block.specs.ViewLaws.{seen_still}
use Rattle.dms_desc.specs.Files.{file_of}
use Rattle.dms_sets.specs.Changes.{IfListed}
use Rattle.dms_sets.specs.Keeping.{Calm, EndsInFault, FileStays, FromBelow}
use Rattle.dms_base.specs.declared.kind.ItemKind.{ItemKind}
use Rattle.dms_desc.specs.Shape.{Shape}
use Rattle.dms_slots.specs.Seen.{BadIn, blocks_of, count_of}
use Rattle.dms_slots.specs.SlotBlocks.{is_block}
use Rattle.dms_spelling.specs.Spelled.{is_whole}
use Rattle.dms_reorg.specs.Damage.{HasCausesSince}
use Rattle.dms_reorg.specs.Filling.{FillDamage, FillsList, HandsDown, IfMayFill, PassesDown}
use Rattle.dms_reorg.proofs.OneFile.{on_ok_is, on_ok_map}
use Rattle.dms_reorg.proofs.Seen.{counts_still}

on_ok_two : {T E : Type 0} {P Q R : Type 0} (r : Result T E) → (P → Q → R) → OnOk r P → OnOk r Q → OnOk r R
on_ok_two (Ok x) f p q = f p q
on_ok_two (Err e) f p q = tt

-- a list that is known is none that isn't
pub none_known : (o : Option (List (List ℕ))) (xs : List (List ℕ)) → o ≡ None → o ≡ Some xs → ⊥
none_known o xs none is = clash (sym none ∙ is)
  where
    clash : None ≡ Some xs → ⊥
    clash e = absurd (cc e)

module _ {B : Type 0} {g : Ghosts B} where
  pub fills_none : {T : Type 0} (n : ℕ) (r : Result T BlockFault) (o : Overlay B g) → ((b : B) → g.same_blocks b b) → (under o).sound → FillsList n r o o
  fills_none n r o again sound = record {
    passes = passes_none (under o);
    stays = unbroken_is r (stays_none (under o) sound);
    others = on_ok_is r (λ m off. (refl, λ told. refl));
    same = again o.below;
  }

  pub fills_on : {T U : Type 0} {n : ℕ} {x : T} (r : Result U BlockFault) {a b c : Overlay B g} → ((x y z : B) → g.same_blocks x y → g.same_blocks y z → g.same_blocks x z)
      → FillsList n (Ok x) a b → FillsList n r b c → FillsList n r a c
  fills_on r {a} {b} {c} onward p q = record {
    passes = passes_on p.passes p.stays q.passes;
    stays = unbroken_map r (λ s. stays_on p.passes p.stays s) q.stays;
    others = on_ok_map r (λ h m off. let first = p.others m off in let then = h m off in (then.0 ∙ first.0, λ told. then.1 (told_after p.passes.lasts told) ∙ first.1 told)) q.others;
    same = onward a.below b.below c.below p.same q.same;
  }

  pub fills_as : {T U : Type 0} {n : ℕ} {x : T} (r : Result U BlockFault) {a b : Overlay B g} → FillsList n (Ok x) a b → FillsList n r a b
  fills_as r p = record { passes = p.passes; stays = unbroken_is r p.stays; others = on_ok_is r p.others; same = p.same }

  pub fills_calm : {T : Type 0} (n k : ℕ) (x : T) (a b : Overlay B g) → (under a).sound → Calm (λ m. m == n) k a b → FillsList n (Ok x) a b
  fills_calm n k x a b sound calm = record { passes = (calm.looks sound).passes; stays = (calm.looks sound).stays; others = calm.others; same = calm.same }

  pub fills_fails : {T : Type 0} (n k : ℕ) (e : BlockFault) (a b : Overlay B g) → (under a).sound → EndsInFault e k a b → FillsList {T = T} n (Err e) a b
  fills_fails {T = T} n k e a b sound ends = record { passes = (ends.looks sound).passes; stays = (looks_err {T = Unit {0}} {U = T} e (ends.looks sound)).stays; others = tt; same = ends.same }

  pub fills_reads : {T U : Type 0} {k : ℕ} {x : T} (n : ℕ) (y : U) (a b : Overlay B g) → ReadsOverlay k (Ok x) a b → FillsList n (Ok y) a b
  fills_reads n y a b reads = record {
    passes = reads.looks.passes;
    stays = reads.looks.stays;
    others = λ m off. (ap (λ (c : ℕ → ℕ). c (file_of m)) (counts_still reads), λ told. ap (λ (c : Content). c (file_of m)) (seen_still reads told));
    same = reads.same;
  }

  pub fills_reads_err : {T U : Type 0} {k : ℕ} (n : ℕ) (e : BlockFault) (a b : Overlay B g) → ReadsOverlay {T = T} k (Err e) a b → FillsList {T = U} n (Err e) a b
  fills_reads_err {T = T} {U = U} n e a b reads = record { passes = reads.looks.passes; stays = (looks_err {T = T} {U = U} e reads.looks).stays; others = tt; same = reads.same }

  -- what was written is handed down: all files are seen as before
  finish_stays : (a b : Overlay B g) → overlay_changes b ≡ [] → (under b).counts ≡ seen_counts a → (IsTrue (under a).told → (under b).content ≡ overlay_content a) → (m : ℕ) → FileStays m a b
  finish_stays a b written counts content m = (
    ap (λ (c : ℕ → ℕ). c (file_of m)) (ap (λ xs. counts_after xs (under b).counts) written ∙ counts),
    λ told. ap (λ (c : Content). c (file_of m)) (ap (λ xs. apply_changes xs (under b).content) written ∙ content told),
  )

  pub hands_none : {T : Type 0} (r : Result T BlockFault) (o : Overlay B g) → ((b : B) → g.same_blocks b b) → (under o).sound → HandsDown r o o
  hands_none r o again sound = record {
    passes = passes_none (under o);
    stays = unbroken_is r (stays_none (under o) sound);
    seen = on_ok_is r (λ m. (refl, λ told. refl));
    same = again o.below;
  }

  pub hands_finish : {T : Type 0} {k j : ℕ} (r : Result T BlockFault) (a b : Overlay B g) → overlay_changes b ≡ [] → OnOk r ((under b).counts ≡ seen_counts a)
      → OnOk r (IsTrue (under a).told → (under b).content ≡ overlay_content a) → Alters k j r (under a) (under b) → g.same_blocks a.below b.below → HandsDown r a b
  hands_finish r a b written counts content alters same = record {
    passes = alters.passes;
    stays = alters.stays;
    seen = on_ok_two r (λ one two m. finish_stays a b written one two m) counts content;
    same = same;
  }

  pub fills_hands : {T : Type 0} (n : ℕ) (r : Result T BlockFault) (a b : Overlay B g) → HandsDown r a b → FillsList n r a b
  fills_hands n r a b h = record { passes = h.passes; stays = h.stays; others = on_ok_map r (λ s m off. s m) h.seen; same = h.same }

  pub fills_finish : {T : Type 0} {k j : ℕ} (n : ℕ) (r : Result T BlockFault) (a b : Overlay B g) → overlay_changes b ≡ [] → OnOk r ((under b).counts ≡ seen_counts a)
      → OnOk r (IsTrue (under a).told → (under b).content ≡ overlay_content a) → Alters k j r (under a) (under b) → g.same_blocks a.below b.below → FillsList n r a b
  fills_finish n r a b written counts content alters same = record {
    passes = alters.passes;
    stays = alters.stays;
    others = on_ok_two r (λ one two m off. finish_stays a b written one two m) counts content;
    same = same;
  }

  -- a fault of a list that is known comes from below
  pub known_causes : (o : Option (List (List ℕ))) (P : ℕ → ℕ → Type 0) (e : BlockFault) (a b : Overlay B g) → (under a).sound → ((f k : ℕ) → o ≡ None → P f k)
      → HasCausesOr {T = Unit {0}} (λ f k. Unit {0}) (Err e) (under a) (under b) → IfListed o (λ xs. FromBelow e a b) → CausedOr P e (under a) (under b)
  known_causes None P e a b sound none any known = causes_or_on {T = Unit {0}} (λ f k. Unit {0}) P (Err e) (under a) (under a) (under b) (λ f k h. none f k refl) refl (lasts_none (under a)) (same_none (under a)) any
  known_causes (Some xs) P e a b sound none any known = causes_or_on {T = Unit {0}} (λ f k. ⊥) P (Err e) (under a) (under a) (under b) (λ f k h. absurd h) refl (lasts_none (under a)) (same_none (under a)) (known xs refl sound)

  -- the blocks below after more calls
  pub down_after : (a b d : Overlay B g) → Lasts (under a) (under b) → SameBlocks (under a) (under b) → PassesDown b d → PassesDown a d
  down_after a b d lasts same down told = elim (down (told_after lasts told)) [ inl is ↦ inl (is ∙ same.content told) | inr is ↦ inr is ]

-- a call that needs no room in the audit
pub full_none : (T U : Type 0) (e : BlockFault) (P : ℕ → Type 0) → NotFull {T = T} (Err e) → IfFull {T = U} (Err e) P
full_none T U Disk P room = tt
full_none T U Memory P room = tt
full_none T U (Full f) P room = absurd room
full_none T U (Damaged f n) P room = tt
full_none T U Say P room = tt

pub full_since : {T : Type 0} (r : Result T BlockFault) (p q : AuditPace) → p ≡ q → IfFull r (λ f. f ≡ p.last) → IfFull r (λ f. f ≡ q.last)
full_since r p q same h = subst (λ (x : AuditPace). IfFull r (λ f. f ≡ x.last)) same h

-- ---- the causes of a fault while a set is filled

whole_at : (bs : List (List ℕ)) (n : ℕ) → list_all is_whole bs ≡ true → n < length bs → length (get_or bs n []) ≡ 1024
whole_at [] n all low = absurd (omega (arith, low))
whole_at (b ∷ bs) zero all low = let here = (and_parts (is_whole b) (list_all is_whole bs) all).0 in grind (arith, nat_tests, here)
whole_at (b ∷ bs) (suc n) all low = whole_at bs n (and_parts (is_whole b) (list_all is_whole bs) all).1 (omega (arith, low))

off_number : (m n : ℕ) → m ≢ n → (m == n) ≡ false
off_number m n apart = grind (arith, nat_tests, apart)

module _ {B : Type 0} {g : Ghosts B} (kinds : List ItemKind) (t s : Shape) (a p : Overlay B g) (lasts : Lasts (under a) (under p)) (agrees : BlocksAgree (under p))
    (below : IsTrue (under a).told → (m : ℕ) → (m == s.number) ≡ false → (under p).content (file_of m) ≡ (under a).content (file_of m))
    (whole : IfMayFill kinds t s a (list_all is_whole ((under p).content (file_of s.number)) ≡ true)) where
  -- a block that is none was none at entry
  short_since : (f n : ℕ) → IsShort (under p) f n → IfMayFill kinds t s a (30000 ≤ f → length (block_in (under a).content f n) ≡ 1024 → ⊥)
  short_since f n short told desc same may high long = short.2 (told_after lasts told) (elim (cases_eq (f - 30000) s.number) [
    | inl own ↦ (let at : f ≡ file_of s.number = omega (arith, own, high) in in_own at)
    | inr apart ↦
        let at : file_of (f - 30000) ≡ f = omega (arith, high) in
        let still : (under p).content f ≡ (under a).content f = subst (λ j. (under p).content j ≡ (under a).content j) at (below told (f - 30000) (off_number (f - 30000) s.number apart)) in
        ap (λ (l : List (List ℕ)). length (get_or l n [])) still ∙ long
  ])
    where
      in_own : f ≡ file_of s.number → length (block_in (under p).content f n) ≡ 1024
      in_own at =
          let there : n < length ((under p).content f) = omega (arith, short.1, agrees.counted (told_after lasts told) f) in
          whole_at ((under p).content f) n (ap (λ j. list_all is_whole ((under p).content j)) at ∙ whole told desc same may) there

  pub fill_since : {T : Type 0} (Q : ℕ → ℕ → Type 0) (r : Result T BlockFault) (c : Held) → (under p).faults ≡ (under a).faults → ((f n : ℕ) → Q f n → FillDamage kinds t s a f n) → HasCausesOr Q r (under p) c
      → HasCausesSince (FillDamage kinds t s a) r (under a) c
  fill_since Q (Ok x) c same w h = h ∙ same
  fill_since Q (Err Disk) c same w h = subst (λ f. Raised Disk f c.faults) same h
  fill_since Q (Err Memory) c same w h = subst (λ f. Raised Memory f c.faults) same h
  fill_since Q (Err (Full f)) c same w h = subst (λ x. Raised (Full f) x c.faults) same h
  fill_since Q (Err (Damaged f n)) c same w (inl h) = (inl (subst (λ x. Raised (Damaged f n) x c.faults) same h.0), inr (short_since f n h.1))
  fill_since Q (Err (Damaged f n)) c same w (inr h) = (inr (h.0 ∙ same), w f n h.1)
  fill_since Q (Err Say) c same w h = h

  -- a block that is bad was so at entry, where the data set's file is another one
  pub bad_still : (f n : ℕ) → count_of t p ≡ count_of t a → (IsTrue (under a).told → blocks_of t p ≡ blocks_of t a) → BadIn t p f n → BadIn t a f n
  bad_still f n counts still h = (
    (
      h.0.0,
      λ told.
          let bad = h.0.1 (told_after lasts told) in
          (subst (λ (bs : List (List ℕ)). n < length bs) (still told) bad.0, ap (λ (bs : List (List ℕ)). is_block t (get_or bs n [])) (sym (still told)) ∙ bad.1),
    ),
    subst (λ k. n < k) counts h.1,
  )
