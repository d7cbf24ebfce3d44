-- The keys of the slots so far, and whether two of them are one.
use Rattle.std.proofs.Common.{◌≡◌, ◌∙◌, ◌+◌, ◌≤◌, ◌||◌, ℕ, List, ◌∷◌, Bool, true, false, true≢false, not, Some, None, Ok, inl, inr, refl, sym, ap, subst, arith}
use Rattle.std.specs.Prelude.{IsTrue}
use Rattle.std.specs.declared.option.Option.{Option}
use Rattle.std.specs.HashSet.{HashSet, IsEmpty, PutsKey}
use Rattle.std.specs.List.{list_any}
use Rattle.std.proofs.lemmas.List.Sorted.{list_any-IsPermutation}
use Rattle.std.specs.Str.{bytes_eq}
use Rattle.std.proofs.lemmas.Bool.{cases_lt}
use Rattle.std.proofs.lemmas.Option.{none-some, same_Some}
use Rattle.std.proofs.lemmas.Slice.Eq.{bytes_eq-Decides}
use Rattle.dms_base.specs.declared.kind.ItemKind.{ItemKind}
use Rattle.dms_base.specs.declared.value.Value.{Value}
use Rattle.dms_block.specs.declared.blocks.Blocks.{Ghosts}
use Rattle.dms_block.specs.declared.overlay.Overlay.{Overlay}
use Rattle.dms_block.specs.Content.{Content}
use Rattle.dms_block.specs.HeldLaws.{told_after}
use Rattle.dms_block.specs.View.{ReadsOverlay, under}
use Rattle.dms_block.specs.ViewLaws.{seen_still}
use Rattle.dms_desc.specs.Files.{file_of}
use Rattle.dms_desc.specs.Shape.{Shape}
use Rattle.dms_layout.specs.declared.slot.Slot.{Slot}
use Rattle.dms_layout.specs.declared.slot.SlotRead.{SlotRead}
use Rattle.dms_layout.specs.declared.slot.SlotRead.TheVariants.{Used}
use Rattle.dms_links.specs.Rows.{rec_opt}
use Rattle.dms_sets.specs.Changes.{entry_in, entry_opt}
use Rattle.dms_slots.specs.Seen.{blocks_of}
use Rattle.dms_slots.specs.SlotBlocks.{slot_at}
use Rattle.dms_reorg.specs.EqualKeys.{AddsKey, HasTwo, TellsEqual, has_bytes, key_at}
use Rattle.dms_reorg.specs.Widened.{widened, with_values}

clash : {A : Type 0} (b : Bool) → b ≡ true → b ≡ false → A
clash b is isnt = absurd (true≢false (sym is ∙ isnt))

none_some : {A : Type 0} (o : Option (List ℕ)) (q : List ℕ) → o ≡ None → o ≡ Some q → A
none_some o q none some = absurd (none-some q (sym none ∙ some))

met : (n m : ℕ) → m ≤ n + 1 → n + 1 ≤ m → n + 1 ≡ m
met n m high ge = omega (arith, high, ge)

or_left : (a b : Bool) → a ≡ true → (a || b) ≡ true
or_left a b h = ap (λ x. x || b) h

or_right : (a b : Bool) → b ≡ true → (a || b) ≡ true
or_right true b h = refl
or_right false b h = h

-- one of the first n slots has this key
pub record Found (keys : ℕ → Option (List ℕ)) (n : ℕ) (q : List ℕ) : Type 0 where
  pub at : ℕ
  pub low : 1 ≤ at
  pub high : at ≤ n
  pub is : keys at ≡ Some q

module _ {V S : Type 0} (bytes : V → List ℕ) (keys : ℕ → Option (List ℕ)) where
  -- those of the first n slots are kept, and no two of them are one
  pub record KeysUpTo (n : ℕ) (set : HashSet V S) : Type 0 where
    pub has : (q : List ℕ) → has_bytes bytes set q ≡ true → Found keys n q
    pub holds : (m : ℕ) (q : List ℕ) → 1 ≤ m → m ≤ n → keys m ≡ Some q → has_bytes bytes set q ≡ true
    pub single : HasTwo keys n → ⊥

  pub keys_none : (set : HashSet V S) → IsEmpty set → KeysUpTo 0 set
  keys_none set empty = record {
    has = λ q h. clash (has_bytes bytes set q) h (ap (λ (ks : List V). list_any (λ k. bytes_eq q (bytes k)) ks) empty);
    holds = λ m q low high is. absurd (omega (arith, low, high));
    single = λ two. absurd (omega (arith, two.low, two.apart, two.high));
  }

  module _ (n : ℕ) (old new : HashSet V S) (before : KeysUpTo n old) where
    next_none : keys (n + 1) ≡ None → ((q : List ℕ) → has_bytes bytes new q ≡ has_bytes bytes old q) → KeysUpTo (n + 1) new
    next_none none same = record {
      has = λ q h. (let f = before.has q (sym (same q) ∙ h) in record { at = f.at; low = f.low; high = omega (arith, f.high); is = f.is });
      holds = λ m q low high is. elim (cases_lt m (n + 1)) [
        | inr ge ↦ none_some (keys (n + 1)) q none (ap keys (met n m high ge) ∙ is)
        | inl lt ↦ same q ∙ before.holds m q low (omega (arith, lt)) is
      ];
      single = λ two. elim (cases_lt two.two (n + 1)) [
        | inr ge ↦ none_some (keys (n + 1)) two.key none (ap keys (met n two.two two.high ge) ∙ two.there)
        | inl lt ↦ before.single (record { one = two.one; two = two.two; key = two.key; low = two.low; apart = two.apart; high = omega (arith, lt); here = two.here; there = two.there })
      ];
    }

    next_some : (key : List ℕ) → keys (n + 1) ≡ Some key → false ≡ has_bytes bytes old key → ((q : List ℕ) → has_bytes bytes new q ≡ (bytes_eq q key || has_bytes bytes old q)) → KeysUpTo (n + 1) new
    next_some key is fresh same = record {
      has = λ q h. by q (bytes_eq q key) refl (sym (same q) ∙ h);
      holds = λ m q low high at. elim (cases_lt m (n + 1)) [
        | inr ge ↦ (let e : q ≡ key = same_Some q key (sym at ∙ sym (ap keys (met n m high ge)) ∙ is) in same q ∙ or_left (bytes_eq q key) (has_bytes bytes old q) ((bytes_eq-Decides q key).1 e))
        | inl lt ↦ same q ∙ or_right (bytes_eq q key) (has_bytes bytes old q) (before.holds m q low (omega (arith, lt)) at)
      ];
      single = λ two. elim (cases_lt two.two (n + 1)) [
        | inr ge ↦
            let e : two.key ≡ key = same_Some two.key key (sym two.there ∙ sym (ap keys (met n two.two two.high ge)) ∙ is) in
            clash (has_bytes bytes old key) (before.holds two.one key two.low (omega (arith, two.apart, two.high)) (two.here ∙ ap (λ (k : List ℕ). Some k) e)) (sym fresh)
        | inl lt ↦ before.single (record { one = two.one; two = two.two; key = two.key; low = two.low; apart = two.apart; high = omega (arith, lt); here = two.here; there = two.there })
      ];
    }
      where
        by : (q : List ℕ) (b : Bool) → bytes_eq q key ≡ b → (b || has_bytes bytes old q) ≡ true → Found keys (n + 1) q
        by q true e h = record { at = n + 1; low = omega arith; high = omega arith; is = is ∙ ap (λ (k : List ℕ). Some k) (sym ((bytes_eq-Decides q key).0 e)) }
        by q false e h = (let f = before.has q h in record { at = f.at; low = f.low; high = omega (arith, f.high); is = f.is })

    -- a key that wasn't there is put to them
    pub keys_next : (o : Option (List ℕ)) → keys (n + 1) ≡ o → AddsKey bytes o old new false → KeysUpTo (n + 1) new
    keys_next None is adds = next_none is adds.1
    keys_next (Some key) is adds = next_some key is adds.0 adds.1

    -- one that was there is the second
    pub keys_two : (o : Option (List ℕ)) → keys (n + 1) ≡ o → AddsKey bytes o old new true → HasTwo keys (n + 1)
    keys_two None is adds = absurd (true≢false adds.0)
    keys_two (Some key) is adds =
        let f = before.has key (sym adds.0) in
        record { one = f.at; two = n + 1; key = key; low = f.low; apart = omega (arith, f.high); high = omega arith; here = f.is; there = is }

-- two of the first slots are two of more
pub two_more : (keys : ℕ → Option (List ℕ)) (n m : ℕ) → n ≤ m → HasTwo keys n → HasTwo keys m
two_more keys n m le two = record { one = two.one; two = two.two; key = two.key; low = two.low; apart = two.apart; high = omega (arith, two.high, le); here = two.here; there = two.there }

-- ---- one key

-- what a test that was turned answers
not_not : (b c : Bool) → b ≡ not c → not b ≡ c
not_not b true e = ap not e
not_not b false e = ap not e

module _ {V S : Type 0} (bytes : V → List ℕ) (old new : HashSet V S) where
  put_new : (key : V) (r : List ℕ) → PutsKey old new key true → has_bytes bytes new r ≡ (bytes_eq r (bytes key) || has_bytes bytes old r)
  put_new key r puts = sym (list_any-IsPermutation (λ k. bytes_eq r (bytes k)) (key ∷ old.keys) new.keys puts)

  put_there : (q r : List ℕ) (b : Bool) → bytes_eq r q ≡ b → true ≡ has_bytes bytes old q → has_bytes bytes old r ≡ (b || has_bytes bytes old r)
  put_there q r true e there = ap (has_bytes bytes old) ((bytes_eq-Decides r q).0 e) ∙ sym there
  put_there q r false e there = refl

  -- what the set answers of a key that is put to it
  pub puts_key : (key : V) (added : Bool) → added ≡ not (has_bytes bytes old (bytes key)) → PutsKey old new key added → AddsKey bytes (Some (bytes key)) old new (not added)
  puts_key key true is puts = (not_not true (has_bytes bytes old (bytes key)) is, λ r. put_new key r puts)
  puts_key key false is puts =
      let there : true ≡ has_bytes bytes old (bytes key) = not_not false (has_bytes bytes old (bytes key)) is in
      (there, λ r. ap (λ (ks : List V). list_any (λ k. bytes_eq r (bytes k)) ks) puts ∙ put_there (bytes key) r (bytes_eq r (bytes key)) refl there)

  module _ (kinds : List ItemKind) (s : Shape) (first : List Value) (read : ℕ → SlotRead) (n : ℕ) (was : Bool) where
    -- the key of a slot is that of its record, with these values behind its own
    pub adds_used : (slot wide : Slot) → read n ≡ Used slot → wide ≡ with_values first slot → AddsKey bytes (entry_in kinds s 0 wide.rec) old new was → AddsKey bytes (key_at kinds s first read n) old new was
    adds_used slot wide used is adds =
        let here = subst (λ (w : Slot). AddsKey bytes (entry_in kinds s 0 w.rec) old new was) is adds in
        subst (λ (o : Option (List ℕ)). AddsKey bytes o old new was) (sym (ap (λ (x : SlotRead). entry_opt kinds s 0 (rec_opt (widened first x))) used)) here

-- ---- a file that is read

module _ {B : Type 0} {g : Ghosts B} {V S : Type 0} (bytes : V → List ℕ) (kinds : List ItemKind) (s t : Shape) (first : List Value) (a p : Overlay B g) (n : ℕ) (reads : ReadsOverlay {T = ℕ} n (Ok 0) a p) (old new : HashSet V S) where
  abbrev pub keys_at : Overlay B g → ℕ → Option (List ℕ)
  keys_at o = key_at kinds s first (slot_at t (blocks_of t o))

  -- a key that is read behind reads is that of the file at entry
  pub still_adds : (number : ℕ) (was : Bool) → (IsTrue (under p).told → AddsKey bytes (keys_at p number) old new was) → IsTrue (under a).told → AddsKey bytes (keys_at a number) old new was
  still_adds number was adds told =
      let still : blocks_of t p ≡ blocks_of t a = ap (λ (c : Content). c (file_of t.number)) (seen_still reads told) in
      subst (λ (cs : List (List ℕ)). AddsKey bytes (key_at kinds s first (slot_at t cs) number) old new was) still (adds (told_after reads.looks.passes.lasts told))

  pub still_next : (k : ℕ) (was : Bool) → was ≡ false → (IsTrue (under a).told → KeysUpTo bytes (keys_at a) k old) → (IsTrue (under p).told → AddsKey bytes (keys_at p (k + 1)) old new was) → IsTrue (under a).told → KeysUpTo bytes (keys_at a) (k + 1) new
  still_next k was is before adds told =
      keys_next bytes (keys_at a) k old new (before told) (keys_at a (k + 1)) refl (subst (λ (b : Bool). AddsKey bytes (keys_at a (k + 1)) old new b) is (still_adds (k + 1) was adds told))

  pub still_two : (k last : ℕ) (was : Bool) → was ≡ true → k + 1 ≤ last → (IsTrue (under a).told → KeysUpTo bytes (keys_at a) k old) → (IsTrue (under p).told → AddsKey bytes (keys_at p (k + 1)) old new was) → TellsEqual kinds t s first last a true
  still_two k last was is le before adds = record {
    some = λ equal told.
        two_more (keys_at a) (k + 1) last le (keys_two bytes (keys_at a) k old new (before told) (keys_at a (k + 1)) refl (subst (λ (b : Bool). AddsKey bytes (keys_at a (k + 1)) old new b) is (still_adds (k + 1) was adds told)));
    none = λ isnt. absurd (true≢false isnt);
  }
