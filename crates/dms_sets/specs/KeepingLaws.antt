-- What calls on ordered lists leave, as keepers of lists say it.
use Rattle.std.proofs.Common.{ℕ, ◌+◌, ◌*◌, ◌≤◌, ◌<◌, ◌≡◌, ◌≢◌, ◌∙◌, Bool, true, false, cond, IsTrue, List, length, max, Some, None, inr, refl, sym, ap, arith}
use Rattle.std.specs.Prelude.{◌==◌, ◌&&◌, IfErr, IfOk, OnOk, nat_le}
use Rattle.std.specs.declared.option.Option.{Option}
use Rattle.std.specs.declared.result.Result.{Result}
use Rattle.std.specs.declared.result.Result.TheVariants.{Ok, Err}
use Rattle.std.proofs.lemmas.Bool.Decides.{nat_tests}
use Rattle.dms_block.specs.declared.block_fault.BlockFault.{BlockFault}
use Rattle.dms_block.specs.declared.block_fault.BlockFault.TheVariants.{Memory, Damaged}
use Rattle.dms_block.specs.declared.blocks.Blocks.{Ghosts}
use Rattle.dms_block.specs.declared.overlay.Overlay.{Overlay}
use Rattle.dms_block.specs.Held.{BlocksAgree, HasCausesOr}
use Rattle.dms_block.specs.HeldLaws.{causes_or_on, looks_as, looks_err, looks_none, looks_on}
use Rattle.dms_block.specs.View.{ReadsOverlay, WritesOverlay, overlay_content, seen_counts, under}
use Rattle.dms_block.specs.ViewLaws.{counts_seen, seen_still}
use Rattle.dms_chain.specs.SeenLaws.{causes_err, counts_still}
use Rattle.dms_lists.specs.declared.form.ListForm.{ListForm}
use Rattle.dms_lists.specs.Forms.{IfKept, NoKept, kept_in}
use Rattle.dms_sets.specs.Changes.{IfListed, OnlyList, OnlyRoomy}
use Rattle.dms_desc.specs.Files.{file_of}
use Rattle.dms_sets.specs.Keeping.{Calm, EndsInFault, FileStays, FromBelow, Usable, list_told, seen_list}

-- ---- a list that is told

both_parts : (t u : Bool) (form : ListForm) (width : ℕ) (bs xs : List (List ℕ)) → cond (t && u) (kept_in form width bs) None ≡ Some xs → (t ≡ true) × (u ≡ true) × (kept_in form width bs ≡ Some xs)
both_parts true true form width bs xs h = (refl, refl, h)
both_parts true false form width bs xs h = absurd (cc h)
both_parts false u form width bs xs h = absurd (cc h)

pub record IsToldList (told : Bool) (form : ListForm) (width : ℕ) (bs xs : List (List ℕ)) : Type 0 where
  pub told_is : told ≡ true
  pub few : length bs ≤ 1048576
  pub list : kept_in form width bs ≡ Some xs

pub told_is : (told : Bool) (form : ListForm) (width : ℕ) (bs xs : List (List ℕ)) → list_told told form width bs ≡ Some xs → IsToldList told form width bs xs
told_is told form width bs xs h =
    let parts = both_parts told (nat_le (length bs) 1048576) form width bs xs h in
    record { told_is = parts.0; few = grind (arith, nat_tests, parts.1); list = parts.2 }

pub told_list : (told : Bool) (form : ListForm) (width : ℕ) (bs xs : List (List ℕ)) → told ≡ true → length bs ≤ 1048576 → kept_in form width bs ≡ Some xs → list_told told form width bs ≡ Some xs
told_list told form width bs xs is few list =
    let low : nat_le (length bs) 1048576 ≡ true = grind (arith, nat_tests, few) in
    (λ i. cond (is i && low i) (kept_in form width bs) None) ∙ list

still_by : (t told : Bool) (form : ListForm) (width : ℕ) (cs bs : List (List ℕ)) → told ≡ t → (IsTrue told → bs ≡ cs) → list_told told form width bs ≡ list_told told form width cs
still_by true told form width cs bs is same = ap (list_told told form width) (same is)
still_by false told form width cs bs is same = (λ i. list_told (is i) form width bs) ∙ sym (λ i. list_told (is i) form width cs)

off_wider : (b : Bool) → (b ≡ true → false ≡ true) → b ≡ false
off_wider true h = sym (h refl)
off_wider false h = refl

files_off : (s m f : ℕ) → f ≡ file_of s → (m == s) ≡ false → file_of m ≢ f
files_off s m f is off e = let same : m ≡ s = omega (arith, e, is) in let on : (m == s) ≡ true = grind (arith, nat_tests, same) in cc (sym off ∙ on)

none_there : (told : Bool) (form : ListForm) (width : ℕ) (bs xs : List (List ℕ)) → list_told told form width bs ≡ Some xs → (IsTrue told → kept_in form width bs ≡ None) → ⊥
none_there told form width bs xs is none =
    let t = told_is told form width bs xs is in
    let one : Option (List (List ℕ)) = Some xs in
    let two : Option (List (List ℕ)) = None in
    let same : one ≡ two = sym t.list ∙ none t.told_is in
    cc same

-- ---- an overlay over calls

module _ {B : Type 0} {g : Ghosts B} where
  pub listed_still : (a b : Overlay B g) (m : ℕ) (form : ListForm) (v : ℕ) → (under b).told ≡ (under a).told → FileStays m a b → seen_list b m form v ≡ seen_list a m form v
  listed_still a b m form v told still =
      ap (λ t. list_told t form v (overlay_content b (file_of m))) told ∙ still_by (under a).told (under a).told form v (overlay_content a (file_of m)) (overlay_content b (file_of m)) refl still.1

  pub calm_none : ((x : B) → g.same_blocks x x) → (p : ℕ → Bool) (n : ℕ) (a : Overlay B g) → Calm p n a a
  calm_none again p n a = record {
    told = refl;
    faults = refl;
    reads = 0;
    looks = λ sound. looks_none 0 (Ok tt) (under a) tt sound;
    more = omega arith;
    same = again a.below;
    others = λ m off. (refl, λ told. refl);
  }

  pub fails_memory : ((x : B) → g.same_blocks x x) → (n : ℕ) (a : Overlay B g) → EndsInFault Memory n a a
  fails_memory again n a = record {
    reads = 0;
    looks = λ sound. looks_none {T = Unit {0}} 0 (Err Memory) (under a) tt sound;
    causes = λ sound. refl;
    more = omega arith;
    same = again a.below;
  }

  pub below_memory : (a : Overlay B g) → FromBelow Memory a a
  below_memory a sound = refl

  pub calm_then : ((x y z : B) → g.same_blocks x y → g.same_blocks y z → g.same_blocks x z) → (p : ℕ → Bool) (m n : ℕ) (a b c : Overlay B g) → Calm p m a b → Calm p n b c → Calm p (m + n) a c
  calm_then onward p m n a b c one two = record {
    told = two.told ∙ one.told;
    faults = two.faults ∙ one.faults;
    reads = one.reads + two.reads;
    looks = λ sound. let first = one.looks sound in looks_on (Ok tt) first (two.looks first.stays.sound);
    more = omega (arith, one.more, two.more);
    same = onward a.below b.below c.below one.same two.same;
    others = λ k off. let first = one.others k off in let then = two.others k off in (then.0 ∙ first.0, λ told. then.1 (one.told ∙ told) ∙ first.1 told);
  }

  pub fails_then : ((x y z : B) → g.same_blocks x y → g.same_blocks y z → g.same_blocks x z) → (e : BlockFault) (p : ℕ → Bool) (m n : ℕ) (a b c : Overlay B g) → Calm p m a b → EndsInFault e n b c → EndsInFault e (m + n) a c
  fails_then onward e p m n a b c one two = record {
    reads = one.reads + two.reads;
    looks = λ sound. let first = one.looks sound in looks_on {U = Unit {0}} (Err e) first (two.looks first.stays.sound);
    causes = λ sound.
        let first = one.looks sound in
        causes_or_on {T = Unit {0}} (λ f k. Unit {0}) (λ f k. Unit {0}) (Err e) (under a) (under b) (under c) (λ f k h. h) one.faults first.passes.lasts first.same (two.causes first.stays.sound);
    more = omega (arith, one.more, two.more);
    same = onward a.below b.below c.below one.same two.same;
  }

  pub below_then : (e : BlockFault) (p : ℕ → Bool) (m : ℕ) (a b c : Overlay B g) → Calm p m a b → FromBelow e b c → FromBelow e a c
  below_then e p m a b c one two sound =
      let first = one.looks sound in
      causes_or_on {T = Unit {0}} (λ f k. ⊥) (λ f k. ⊥) (Err e) (under a) (under b) (under c) (λ f k h. h) one.faults first.passes.lasts first.same (two first.stays.sound)

  pub calm_wider : (p q : ℕ → Bool) (n : ℕ) (a b : Overlay B g) → ((m : ℕ) → p m ≡ true → q m ≡ true) → Calm p n a b → Calm q n a b
  calm_wider p q n a b wider h = record {
    told = h.told;
    faults = h.faults;
    reads = h.reads;
    looks = h.looks;
    more = h.more;
    same = h.same;
    others = λ m off. h.others m (off_wider (p m) (λ is. sym off ∙ wider m is));
  }

  -- ---- one call that writes, into the file f of the structure s

  pub calm_write : {T : Type 0} (s k w f : ℕ) (P : ℕ → ℕ → Type 0) (r : Result T BlockFault) (a b : Overlay B g) → w ≤ 22 → f ≡ file_of s → WritesOverlay k w r a b → HasCausesOr P r (under a) (under b)
      → OnOk r (IsTrue (under a).told → (h : ℕ) → h ≢ f → overlay_content b h ≡ overlay_content a h) → OnOk r ((h : ℕ) → h ≢ f → seen_counts b h ≡ seen_counts a h) → OnOk r (Calm (λ m. m == s) 1 a b)
  calm_write s k w f P (Ok x) a b least is writes causes others counts = record {
    told = writes.looks.passes.lasts.told;
    faults = causes;
    reads = k;
    looks = λ sound. looks_as (Ok tt) tt writes.looks;
    more = omega (arith, writes.more, least);
    same = writes.same;
    others = λ m off. let apart = files_off s m f is off in (counts (file_of m) apart, λ told. others told (file_of m) apart);
  }
  calm_write s k w f P (Err e) a b least is writes causes others counts = tt

  pub fails_write : {T : Type 0} (k w n : ℕ) (P : ℕ → ℕ → Type 0) (r : Result T BlockFault) (a b : Overlay B g) → w ≤ 22 * n → WritesOverlay k w r a b → HasCausesOr P r (under a) (under b) → IfErr r (λ e. EndsInFault e n a b)
  fails_write k w n P (Ok x) a b least writes causes = tt
  fails_write {T = T} k w n P (Err e) a b least writes causes = record {
    reads = k;
    looks = λ sound. looks_err e writes.looks;
    causes = λ sound. causes_err T (Unit {0}) P (λ f n. Unit {0}) e (under a) (under b) (λ f n h. tt) causes;
    more = omega (arith, writes.more, least);
    same = writes.same;
  }

  pub usable_write : {T : Type 0} (k n : ℕ) (r : Result T BlockFault) (a b : Overlay B g) → WritesOverlay k n r a b → OnOk r ((m : ℕ) → Usable a m → Usable b m)
  usable_write k n (Ok x) a b writes = λ m usable. (writes.looks.stays.sound, (λ i. writes.looks.passes.lasts.owns i (file_of m)) ∙ usable.1)
  usable_write k n (Err e) a b writes = tt

  -- a fault isn't found in a list that is known
  pub below_write : {T : Type 0} (form : ListForm) (s w f : ℕ) (r : Result T BlockFault) (a b : Overlay B g) → f ≡ file_of s → HasCausesOr (NoKept form a f w) r (under a) (under b) → IfErr r (λ e. IfListed (seen_list a s form w) (λ xs. FromBelow e a b))
  below_write form s w f (Ok x) a b is causes = tt
  below_write {T = T} form s w f (Err e) a b is causes = λ xs at sound.
      causes_err T (Unit {0}) (NoKept form a f w) (λ h n. ⊥) e (under a) (under b) (λ h n no. none_there (under a).told form w (overlay_content a (file_of s)) xs at (λ told. ap (λ k. kept_in form w (overlay_content a k)) (sym is) ∙ no.2 told)) causes

  -- what is answered of a list
  pub answer_of : {T : Type 0} (form : ListForm) (s w f : ℕ) (Q : T → List (List ℕ) → Type 0) (r : Result T BlockFault) (a : Overlay B g) → f ≡ file_of s → IfOk r (λ x. IfKept form a f w (Q x)) → IfOk r (λ x. IfListed (seen_list a s form w) (Q x))
  answer_of form s w f Q (Ok x) a is answer = λ xs at.
      let t = told_is (under a).told form w (overlay_content a (file_of s)) xs at in
      answer t.told_is xs (ap (λ k. kept_in form w (overlay_content a k)) is ∙ t.list)
  answer_of form s w f Q (Err e) a is answer = tt

  -- the list that a call leaves
  module _ (form : ListForm) (fn : List (List ℕ) → List (List ℕ)) (s w f : ℕ) (a b : Overlay B g) (is : f ≡ file_of s) (before : BlocksAgree (under a)) (after : (under b).sound → BlocksAgree (under b)) where
    list_after : IfKept form a f w (λ xs. kept_in form w (overlay_content b f) ≡ Some (fn xs)) → (told : (under b).told ≡ (under a).told) (xs : List (List ℕ)) → IsToldList (under a).told form w (overlay_content a (file_of s)) xs → length (overlay_content b (file_of s)) ≤ 1048576 → seen_list b s form w ≡ Some (fn xs)
    list_after list told xs t few =
        told_list (under b).told form w (overlay_content b (file_of s)) (fn xs) (told ∙ t.told_is) few
        (ap (λ k. kept_in form w (overlay_content b k)) (sym is) ∙ list t.told_is xs (ap (λ k. kept_in form w (overlay_content a k)) is ∙ t.list))

    counts_at : (under b).sound → (told : (under b).told ≡ (under a).told) → IsTrue (under a).told → (seen_counts a f ≡ length (overlay_content a (file_of s))) × (seen_counts b f ≡ length (overlay_content b (file_of s)))
    counts_at sound told t = (counts_seen a before t f ∙ ap (λ k. length (overlay_content a k)) is, counts_seen b (after sound) (told ∙ t) f ∙ ap (λ k. length (overlay_content b k)) is)

    others_at : {T : Type 0} (k most : ℕ) (x : T) → WritesOverlay k most (Ok x) a b → (IsTrue (under a).told → (h : ℕ) → h ≢ f → overlay_content b h ≡ overlay_content a h) → ((h : ℕ) → h ≢ f → seen_counts b h ≡ seen_counts a h) → (m : ℕ) (j : ListForm) (v : ℕ) → (m == s) ≡ false → seen_list b m j v ≡ seen_list a m j v
    others_at k most x writes others counts m j v off =
        let apart = files_off s m f is off in listed_still a b m j v writes.looks.passes.lasts.told (counts (file_of m) apart, λ told. others told (file_of m) apart)

    pub roomy_after : {T : Type 0} (k most : ℕ) (r : Result T BlockFault) → WritesOverlay k most r a b → OnOk r (IfKept form a f w (λ xs. kept_in form w (overlay_content b f) ≡ Some (fn xs))) → OnOk r (IfKept form a f w (λ xs. seen_counts b f ≤ max (seen_counts a f) (2 + length xs)))
        → OnOk r (IsTrue (under a).told → (h : ℕ) → h ≢ f → overlay_content b h ≡ overlay_content a h) → OnOk r ((h : ℕ) → h ≢ f → seen_counts b h ≡ seen_counts a h) → OnOk r (OnlyRoomy fn s form w (seen_list a) (seen_list b))
    roomy_after k w' (Ok x) writes list few others counts = record {
      here = λ xs at room.
          let t = told_is (under a).told form w (overlay_content a (file_of s)) xs at in
          let told = writes.looks.passes.lasts.told in
          let n = counts_at writes.looks.stays.sound told t.told_is in
          let most = few t.told_is xs (ap (λ k. kept_in form w (overlay_content a k)) is ∙ t.list) in
          list_after list told xs t (omega (arith, n.0, n.1, most, t.few, room));
      others = others_at k w' x writes others counts;
    }
    roomy_after k w' (Err e) writes list few others counts = tt

    pub only_after : {T : Type 0} (k most : ℕ) (r : Result T BlockFault) → WritesOverlay k most r a b → OnOk r (IfKept form a f w (λ xs. kept_in form w (overlay_content b f) ≡ Some (fn xs))) → OnOk r (seen_counts b ≡ seen_counts a)
        → OnOk r (IsTrue (under a).told → (h : ℕ) → h ≢ f → overlay_content b h ≡ overlay_content a h) → OnOk r (OnlyList fn s form w (seen_list a) (seen_list b))
    only_after k w' (Ok x) writes list counts others = record {
      here = λ xs at.
          let t = told_is (under a).told form w (overlay_content a (file_of s)) xs at in
          let told = writes.looks.passes.lasts.told in
          let n = counts_at writes.looks.stays.sound told t.told_is in
          let same = ap (λ (k : ℕ → ℕ). k f) counts in
          list_after list told xs t (omega (arith, n.0, n.1, same, t.few));
      others = others_at k w' x writes others (λ h off. ap (λ (k : ℕ → ℕ). k h) counts);
    }
    only_after k w' (Err e) writes list counts others = tt

  -- ---- one call that reads

  pub writes_of : {T : Type 0} (k m : ℕ) (r : Result T BlockFault) (a b : Overlay B g) → ReadsOverlay k r a b → WritesOverlay k m r a b
  writes_of k m r a b reads = record { looks = reads.looks; more = omega (arith, ap length reads.written_still); same = reads.same }

  files_read : {T : Type 0} (k : ℕ) (x : T) (a b : Overlay B g) → ReadsOverlay k (Ok x) a b → (m : ℕ) → FileStays m a b
  files_read k x a b reads m = (ap (λ (c : ℕ → ℕ). c (file_of m)) (counts_still reads), λ told i. seen_still reads told i (file_of m))

  pub calm_read : {T : Type 0} (s k : ℕ) (P : ℕ → ℕ → Type 0) (r : Result T BlockFault) (a b : Overlay B g) → ReadsOverlay k r a b → HasCausesOr P r (under a) (under b) → OnOk r (Calm (λ m. m == s) 0 a b)
  calm_read s k P (Ok x) a b reads causes = record {
    told = reads.looks.passes.lasts.told;
    faults = causes;
    reads = k;
    looks = λ sound. looks_as (Ok tt) tt reads.looks;
    more = omega (arith, ap length reads.written_still);
    same = reads.same;
    others = λ m off. files_read k x a b reads m;
  }
  calm_read s k P (Err e) a b reads causes = tt

  pub list_read : {T : Type 0} (k : ℕ) (r : Result T BlockFault) (a b : Overlay B g) → ReadsOverlay k r a b → OnOk r (seen_list b ≡ seen_list a)
  list_read k (Ok x) a b reads = λ i n form w. listed_still a b n form w reads.looks.passes.lasts.told (files_read k x a b reads n) i
  list_read k (Err e) a b reads = tt

  -- ---- a file that is too long for a list

  pub fails_long : ((x : B) → g.same_blocks x x) → (f n : ℕ) (a : Overlay B g) → EndsInFault (Damaged f n) 1 a a
  fails_long again f n a = record {
    reads = 0;
    looks = λ sound. looks_none {T = Unit {0}} 0 (Err (Damaged f n)) (under a) tt sound;
    causes = λ sound. inr (refl, tt);
    more = omega arith;
    same = again a.below;
  }

  pub below_long : (form : ListForm) (s w f : ℕ) (e : BlockFault) (a : Overlay B g) → f ≡ file_of s → BlocksAgree (under a) → 1048576 < seen_counts a f → IfListed (seen_list a s form w) (λ xs. FromBelow e a a)
  below_long form s w f e a is agrees long xs at =
      let t = told_is (under a).told form w (overlay_content a (file_of s)) xs at in
      absurd (omega (arith, long, counts_seen a agrees t.told_is f, ap (λ k. length (overlay_content a k)) is, t.few))
