-- What calls leave of the numbers that are known to be taken.
use Rattle.std.proofs.Common.{◌≡◌, ◌≢◌, ◌∙◌, ◌+◌, ◌-◌, ◌≤◌, ℕ, zero, suc, Bool, true, false, cond, List, [], IsTrue, Some, None, inl, inr, refl, sym, ap, subst, length, replicate, slice_get, arith}
use Rattle.std.specs.Prelude.{IfOk, OnOk, nat_le, slice_set}
use Rattle.std.specs.declared.option.Option.{Option}
use Rattle.std.specs.declared.result.Result.{Result}
use Rattle.std.specs.declared.result.Result.TheVariants.{Ok, Err}
use Rattle.std.proofs.Props.{props}
use Rattle.std.proofs.lemmas.Bool.{cases_eq, cases_lt}
use Rattle.std.proofs.lemmas.List.{get_or-set_same, get_or-set_other, set_past}
use Rattle.std.proofs.lemmas.Option.{same_Some}
use Rattle.std.specs.Coded.{le_prop}
use Rattle.dms_block.specs.declared.block_fault.BlockFault.{BlockFault}
use Rattle.dms_block.specs.declared.blocks.Blocks.{Ghosts}
use Rattle.dms_block.specs.declared.overlay.Overlay.{Overlay}
use Rattle.dms_block.specs.Content.{Content}
use Rattle.dms_block.specs.Faults.{Unbroken}
use Rattle.dms_block.specs.Held.{HasNextNumber, Held, Lasts, Looks, MadeDurable, MadeQuiet, SameBlocks, Stays}
use Rattle.dms_block.specs.View.{overlay_content, under, overlay_changes}
use Rattle.dms_desc.specs.Files.{file_of}
use Rattle.dms_desc.specs.Lookups.{structure_of}
use Rattle.dms_desc.specs.Shape.{Shape, Described}
use Rattle.dms_layout.specs.declared.slot.Slot.{Slot}
use Rattle.dms_layout.specs.declared.slot.SlotRead.TheVariants.{Free, Used, Bad}
use Rattle.dms_model.specs.Valid.{is_data_set}
use Rattle.dms_model.specs.declared.put.Put.{Put}
use Rattle.dms_model.specs.declared.put.Put.TheVariants.{Stored, Duplicate as Refused, Full}
use Rattle.dms_slots.specs.SlotBlocks.{AreTaken, MayPutSlot, before_free, block_of, least_free, or_free, slot_at, slots_of}
use Rattle.dms_store.specs.Finding.{number_at, seen_below}
use Rattle.dms_spelling.specs.ServingLaws.{served_at}
use Rattle.dms_sets.specs.Keeping.{FileStays}
use Rattle.dms_spelling.specs.Grown.{IsNoList, set_no_list}
use Rattle.dms_spelling.specs.Staying.{TakenStay, files_stay, free_there, same_stays, then_stays}
use Rattle.dms_store.specs.PuttingEnters.{IfStored}
use Rattle.dms_spelling.specs.Serving.{IsServed}
use Rattle.dms_store.specs.Taken.{AreKnown, AreTakenIn, IfStoredAs, Learns, StaysKnown, StoresNext, TakesNext, learned, none_known, taken_of}

-- ---- propositions

pub AreKnown-prop : (desc : Described) (known : List ℕ) (c : Content) → IsProp (AreKnown desc known c)
AreKnown-prop desc known c = hlevel (props, le_prop)

-- ---- the number of a new record

some_within : (b : Bool) (k n : ℕ) → ◌≡◌ {A = Option ℕ} (cond b (Some k) None) (Some n) → k ≡ n
some_within true k n is = cc
some_within false k n is = absurd (cc)

module _ (s : Shape) (c : Content) (n : ℕ) (least : Some n ≡ least_free s (c (file_of s.number))) where
  least_is : n - 1 ≡ before_free (slots_of s (c (file_of s.number)))
  least_is =
      let k = before_free (slots_of s (c (file_of s.number))) in
      let e = some_within (nat_le (k + 1) s.population) (k + 1) n (sym least) in
      omega (arith, e)

  -- those before it are taken
  pub before_least : AreTaken s (c (file_of s.number)) (n - 1)
  before_least = omega (arith, least_is)

  -- and its own is free
  pub least_good : slot_at s (c (file_of s.number)) n ≢ Bad
  least_good = λ bad. apart (sym (ap (λ k. or_free (slice_get (slots_of s (c (file_of s.number))) k)) least_is ∙ free_there (slots_of s (c (file_of s.number)))) ∙ bad)
    where
      apart : Free ≡ Bad → ⊥
      apart h = absurd (cc h)

-- where nothing is stored
pub none_stored : (p : Put) (P : ℕ → Type 0) → IfStored p ⊥ → IfStoredAs p P
none_stored (Stored n) P none = absurd none
none_stored (Refused s) P none = tt
none_stored Full P none = tt

pub stored_weaker : (p : Put) (P Q : ℕ → Type 0) → ((n : ℕ) → P n → Q n) → IfStoredAs p P → IfStoredAs p Q
stored_weaker (Stored n) P Q f h = f n h
stored_weaker (Refused s) P Q f h = tt
stored_weaker Full P Q f h = tt

-- ---- a slot that may be written behind a change of lists

module _ {B : Type 0} {g : Ghosts B} (desc : Described) (served : IsServed desc) (s : Shape) (here : structure_of desc s.number ≡ Some s) (is_set : is_data_set (Some s) ≡ true) (number : ℕ) (a b : Overlay B g) (told : IsTrue (under a).told) (stays : (k : ℕ) → IsNoList desc k → FileStays k a b) where
  lists_file : (n : ℕ) (t : Shape) → structure_of desc n ≡ Some t → is_data_set (Some t) ≡ true → overlay_content b (file_of t.number) ≡ overlay_content a (file_of t.number)
  lists_file n t at is = (stays t.number (set_no_list desc t.number t (ap (structure_of desc) (number_at desc n t served at) ∙ at) is)).1 told

  pub lists_stay : TakenStay desc (overlay_content a) (overlay_content b)
  lists_stay = files_stay desc (overlay_content a) (overlay_content b) lists_file

  pub lists_may : (1 ≤ number) → block_of s.items number ≤ length (overlay_content a (file_of s.number)) → slot_at s (overlay_content a (file_of s.number)) number ≢ Bad → MayPutSlot s (overlay_content b) number
  lists_may low next good =
      let same = lists_file s.number s here is_set in
      record {
        fits = (served_at desc s.number s served here).fits;
        low = low;
        next = omega (arith, next, ap length same);
        sound = λ bad. good (ap (λ (bs : List (List ℕ)). slot_at s bs number) (sym same) ∙ bad);
      }

-- ---- what is known

none_of : (n i : ℕ) → taken_of (replicate n 0) i ≡ 0
none_of zero i = refl
none_of (suc n) zero = refl
none_of (suc n) (suc i) = none_of n i

-- where nothing is known nothing is claimed
pub nothing_known : (desc : Described) (known : List ℕ) (c : Content) → known ≡ none_known → AreKnown desc known c
nothing_known desc known c none = λ n s at is_set. omega (arith, ap (λ (l : List ℕ). taken_of l n) none, none_of 201 n)

-- it stays where no number is freed
pub known_stays : (desc : Described) (known : List ℕ) (c d : Content) → TakenStay desc c d → AreKnown desc known c → AreKnown desc known d
known_stays desc known c d stay are = λ n s at is_set. omega (arith, are n s at is_set, stay n s at is_set)

set_known : (desc : Described) (known : List ℕ) (c : Content) (set taken : ℕ) → AreTakenIn desc set c taken → AreKnown desc known c → AreKnown desc (slice_set known set taken) c
set_known desc known c set taken here are = λ n. elim (cases_eq n set) [
  | inl same ↦ elim (cases_lt set (length known)) [
    | inl low ↦ subst (λ k. AreTakenIn desc n c k) (sym (ap (λ m. taken_of (slice_set known set taken) m) same ∙ get_or-set_same known set taken 0 low)) (subst (λ m. AreTakenIn desc m c taken) (sym same) here)
    | inr past ↦ subst (λ (l : List ℕ). AreTakenIn desc n c (taken_of l n)) (sym (set_past known set taken past)) (are n)
  ]
  | inr apart ↦ subst (AreTakenIn desc n c) (sym (get_or-set_other known set n taken 0 apart)) (are n)
]

learned_known : (desc : Described) (known : List ℕ) (c d : Content) (set : ℕ) (number : Option ℕ) (p : Put) → TakenStay desc c d → (IfStoredAs p (λ n. number ≡ None → AreTakenIn desc set c (n - 1))) → AreKnown desc known c → AreKnown desc (learned set number p known) d
learned_known desc known c d set None (Stored n) stay next are = known_stays desc (slice_set known set (n - 1)) c d stay (set_known desc known c set (n - 1) (next refl) are)
learned_known desc known c d set None (Refused s) stay next are = known_stays desc known c d stay are
learned_known desc known c d set None Full stay next are = known_stays desc known c d stay are
learned_known desc known c d set (Some m) p stay next are = known_stays desc known c d stay are

-- ---- answers of the calls that store a record

pub used_good : (x : Slot) → Used x ≡ Bad → ⊥
used_good x h = absurd (cc h)

-- blocks that are told were told before
pub told_before : {a b : Held} → Lasts a b → IsTrue b.told → IsTrue a.told
told_before lasts told = sym lasts.told ∙ told

pub next_taken : (desc : Described) (s : Shape) (c : Content) (n k : ℕ) → structure_of desc s.number ≡ Some s → Some n ≡ least_free s (c (file_of s.number)) → k ≡ n → TakesNext desc s.number None c k
next_taken desc s c n k here least same = λ new t at is_set.
    subst (λ (x : Shape). AreTaken x (c (file_of x.number)) (k - 1)) (same_Some s t (sym here ∙ at)) (subst (λ m. AreTaken s (c (file_of s.number)) (m - 1)) (sym same) (before_least s c n least))

-- a record that is replaced is no new one
pub old_next : (desc : Described) (set number : ℕ) (c d : Content) (p : Put) → IfStoredAs p (λ n. (n ≡ number) × TakenStay desc c d) → StoresNext desc set (Some number) c d p
old_next desc set number c d p h = stored_weaker p (λ n. (n ≡ number) × TakenStay desc c d) (λ n. TakesNext desc set (Some number) c n × TakenStay desc c d) (λ n both. ((λ none. absurd (some_none none)), both.1)) h
  where
    some_none : ◌≡◌ {A = Option ℕ} (Some number) None → ⊥
    some_none e = absurd (cc e)

-- ---- what a store knows after a call

unbroken_ok : {T : Type 0} (r : Result T BlockFault) (P : Type 0) → Unbroken r P → OnOk r P
unbroken_ok (Ok x) P h = h
unbroken_ok (Err e) P h = tt

-- a call that left the one content as the other was
after_call : {T : Type 0} (desc : Described) (r : Result T BlockFault) (old new : List ℕ) (t u : Bool) (c d : Content) → u ≡ t → StaysKnown r old new → OnOk r (IsTrue t → d ≡ c) → (IsTrue t → AreKnown desc old c) → IsTrue u → AreKnown desc new d
after_call desc (Ok x) old new t u c d same stay is are told =
    let was : IsTrue t = sym same ∙ told in
    subst (λ l. AreKnown desc l d) (sym stay) (known_stays desc old c d (same_stays desc c d (is was)) (are was))
after_call desc (Err e) old new t u c d same stay is are told = nothing_known desc new d stay

on_ok : {T : Type 0} (r : Result T BlockFault) (P Q : Type 0) → (P → Q) → OnOk r P → OnOk r Q
on_ok (Ok x) P Q f h = f h
on_ok (Err e) P Q f h = tt

both_ok : {T : Type 0} (r : Result T BlockFault) (P Q R : Type 0) → (P → Q → R) → OnOk r P → OnOk r Q → OnOk r R
both_ok (Ok x) P Q R f h k = f h k
both_ok (Err e) P Q R f h k = tt

module _ (desc : Described) (old new : List ℕ) (a b : Held) (lasts : Lasts a b) where
  -- what is known of the blocks: after a call that changes none
  pub call_known : {T : Type 0} (r : Result T BlockFault) → StaysKnown r old new → OnOk r (SameBlocks a b) → (IsTrue a.told → AreKnown desc old a.content) → IsTrue b.told → AreKnown desc new b.content
  call_known r stay same are told = after_call desc r old new a.told b.told a.content b.content lasts.told stay (on_ok r (SameBlocks a b) (IsTrue a.told → b.content ≡ a.content) (λ s. s.content) same) are told

  pub look_known : {T : Type 0} {n : ℕ} (r : Result T BlockFault) → StaysKnown r old new → Looks n r a b → (IsTrue a.told → AreKnown desc old a.content) → IsTrue b.told → AreKnown desc new b.content
  look_known r stay looks are told = call_known r stay (unbroken_ok r (SameBlocks a b) looks.same) are told

  pub quiet_known : {T : Type 0} (r : Result T BlockFault) → StaysKnown r old new → OnOk r (MadeQuiet a b) → OnOk r (HasNextNumber a) → (IsTrue a.told → AreKnown desc old a.content) → IsTrue b.told → AreKnown desc new b.content
  quiet_known r stay made numbered are told = call_known r stay (both_ok r (MadeQuiet a b) (HasNextNumber a) (SameBlocks a b) (λ m n. m.same n) made numbered) are told

  pub sync_known : {T : Type 0} (r : Result T BlockFault) → StaysKnown r old new → OnOk r (MadeDurable a b) → (IsTrue a.told → AreKnown desc old a.content) → IsTrue b.told → AreKnown desc new b.content
  sync_known r stay made are told = call_known r stay (on_ok r (MadeDurable a b) (SameBlocks a b) (λ m. m.same) made) are told

  -- of those at the last quiet point
  pub mark_known : {T : Type 0} (r : Result T BlockFault) → StaysKnown r old new → OnOk r (Stays a b) → (IsTrue a.told → AreKnown desc old a.mark) → IsTrue b.told → AreKnown desc new b.mark
  mark_known r stay stays are told = after_call desc r old new a.told b.told a.mark b.mark lasts.told stay (on_ok r (Stays a b) (IsTrue a.told → b.mark ≡ a.mark) (λ s. s.mark) stays) are told

  pub unbroken_mark : {T : Type 0} (r : Result T BlockFault) → StaysKnown r old new → Unbroken r (Stays a b) → (IsTrue a.told → AreKnown desc old a.mark) → IsTrue b.told → AreKnown desc new b.mark
  unbroken_mark r stay stays are told = mark_known r stay (unbroken_ok r (Stays a b) stays) are told

  pub sync_mark : {T : Type 0} (r : Result T BlockFault) → StaysKnown r old new → OnOk r (MadeDurable a b) → (IsTrue a.told → AreKnown desc old a.mark) → IsTrue b.told → AreKnown desc new b.mark
  sync_mark r stay made are told = after_call desc r old new a.told b.told a.mark b.mark lasts.told stay (on_ok r (MadeDurable a b) (IsTrue a.told → b.mark ≡ a.mark) (λ m. m.mark) made) are told

  -- a quiet point, and the way back to it
  pub quiet_mark : {T : Type 0} (r : Result T BlockFault) → StaysKnown r old new → OnOk r (MadeQuiet a b) → OnOk r (HasNextNumber a) → (IsTrue a.told → AreKnown desc old a.content) → IsTrue b.told → AreKnown desc new b.mark
  quiet_mark r stay made numbered are told = after_call desc r old new a.told b.told a.content b.mark lasts.told stay (both_ok r (MadeQuiet a b) (HasNextNumber a) (IsTrue a.told → b.mark ≡ a.content) (λ m n. m.mark n) made numbered) are told

  pub back_known : {T : Type 0} (r : Result T BlockFault) → StaysKnown r old new → OnOk r (IsTrue a.told → b.content ≡ a.mark) → (IsTrue a.told → AreKnown desc old a.mark) → IsTrue b.told → AreKnown desc new b.content
  back_known r stay is are told = after_call desc r old new a.told b.told a.mark b.content lasts.told stay is are told

  -- a call that stores a record
  pub put_known : (set : ℕ) (number : Option ℕ) (r : Result Put BlockFault) → Learns set number r old new → IfOk r (λ p. IsTrue a.told → IfStoredAs p (TakesNext desc set number a.content))
      → IfOk r (λ p. IsTrue a.told → TakenStay desc a.content b.content) → (IsTrue a.told → AreKnown desc old a.content) → IsTrue b.told → AreKnown desc new b.content
  put_known set number (Ok p) learns next stay are told =
      let was = told_before lasts told in
      subst (λ l. AreKnown desc l b.content) (sym learns) (learned_known desc old a.content b.content set number p (stay was) (next was) (are was))
  put_known set number (Err e) learns next stay are told = nothing_known desc new b.content learns

-- ---- what is handed down, or dropped

module _ {B : Type 0} {g : Ghosts B} (desc : Described) (a b c : Overlay B g) (told : IsTrue (under a).told) where
  pub handed_stays : overlay_changes a ≡ [] → TakenStay desc (overlay_content a) (overlay_content b) → (under c).content ≡ overlay_content b → TakenStay desc (under a).content (under c).content
  handed_stays none stay is =
      then_stays desc (under a).content (overlay_content a) (under c).content (same_stays desc (under a).content (overlay_content a) (seen_below a none))
      (then_stays desc (overlay_content a) (overlay_content b) (under c).content stay (same_stays desc (overlay_content b) (under c).content is))

  pub dropped_stays : SameBlocks (under a) (under b) → c.below ≡ b.below → TakenStay desc (under a).content (under c).content
  dropped_stays same is = same_stays desc (under a).content (under c).content (ap (λ (x : B). (g.held x).content) is ∙ same.content told)

-- the number that is taken, in the blocks below
pub next_below : {B : Type 0} {g : Ghosts B} (desc : Described) (set : ℕ) (number : Option ℕ) (a : Overlay B g) (n : ℕ) → overlay_changes a ≡ [] → TakesNext desc set number (overlay_content a) n → TakesNext desc set number (under a).content n
next_below desc set number a n none next = subst (λ (x : Content). TakesNext desc set number x n) (seen_below a none) next
