-- A new set that is filled slot by slot.
use Rattle.std.proofs.Common.{◌≡◌, ◌≢◌, ◌∙◌, ◌+◌, ◌*◌, ◌<◌, ◌≤◌, ◌^◌, ℕ, zero, suc, List, [], ◌∷◌, Bool, true, false, cond, inl, inr, refl, sym, ap, subst, length, Some, None, arith}
use Rattle.std.specs.Prelude.{◌==◌, ◌&&◌}
use Rattle.std.specs.declared.option.Option.{Option}
use Rattle.std.specs.FinMap.{empty, entries, get, get-empty, get-insert, insert, keys, len-empty, len-entries, same_map}
use Rattle.std.specs.Ordering.{eq_by_cmp}
use Rattle.std.proofs.lemmas.Bool.{cases_eq, cases_lt}
use Rattle.std.proofs.lemmas.Bool.Decides.{nat_tests}
use Rattle.dms_base.specs.declared.kind.ItemKind.{ItemKind}
use Rattle.std.specs.Cmp.Lexicographic.{nat_list_cmp_total}
use Rattle.dms_chain.specs.Lists.{bytes_same, empty_keys, with_in, without_in}
use Rattle.dms_desc.specs.declared.record.Record.{Record}
use Rattle.dms_desc.specs.Keys.{key_of}
use Rattle.dms_desc.specs.Kinds.{over, takes}
use Rattle.dms_desc.specs.Shape.{Described, Shape}
use Rattle.dms_layout.specs.declared.slot.Slot.{Slot}
use Rattle.dms_layout.specs.declared.slot.SlotRead.{SlotRead}
use Rattle.dms_layout.specs.declared.slot.SlotRead.TheVariants.{Used}
use Rattle.dms_links.specs.Rows.{rec_opt}
use Rattle.dms_model.specs.Db.{place_cmp, Records}
use Rattle.dms_model.specs.Places.{places_total}
use Rattle.dms_block.specs.declared.blocks.Blocks.{Ghosts}
use Rattle.dms_block.specs.declared.overlay.Overlay.{Overlay}
use Rattle.dms_sets.specs.Changes.{entry_opt, HasRoom, list_of_set, refuses}
use Rattle.dms_sets.specs.Entries.{entry_bytes}
use Rattle.dms_sets.specs.Few.{entries_few, few_room}
use Rattle.dms_sets.specs.Listing.{AllPlaces, listing, lists_members, member_opt, test_of}
use Rattle.dms_sets.specs.Sets.{entries_changed, entry_of, IsSmall, kinds_over, listed_in, own_entry, place_in_entry, small_insert}
use Rattle.dms_lists.specs.FormLaws.{nothing_kept}
use Rattle.dms_lists.specs.Forms.{form_of, kept_in}
use Rattle.dms_sets.specs.Keeping.{list_told, seen_list}
use Rattle.dms_sets.specs.KeepingLaws.{told_is, told_list}
use Rattle.dms_sets.specs.Padded.{entry_width}
use Rattle.dms_slots.specs.SlotBlocks.{per_block, slot_at}
use Rattle.dms_reorg.specs.Filled.{AreRecordsOf, HoldsEntries, ListsUpTo, record_up_to, RefusesNone}
use Rattle.dms_reorg.specs.Widened.{HasNoneBehind, up_to}
use Rattle.dms_reorg.proofs.Capped.{up_past, up_within}
use Rattle.dms_reorg.proofs.Widened.{free_past}

-- ---- the records up to a number

other_number : (set n m : ℕ) → n ≢ m → eq_by_cmp place_cmp (set, n) (set, m) ≡ false
other_number set n m apart = grind (arith, nat_tests)

same_number : (set n : ℕ) → eq_by_cmp place_cmp (set, n) (set, n) ≡ true
same_number set n = grind (arith, nat_tests)

module _ (read : ℕ → SlotRead) where
  up_same : (k n : ℕ) → n ≢ k + 1 → up_to (k + 1) read n ≡ up_to k read n
  up_same k n apart = elim (cases_lt k n) [
    | inl past ↦ (let far : k + 1 < n = beyond k n past apart in up_past (k + 1) read n far ∙ sym (up_past k read n past))
    | inr near ↦ (let le : n ≤ k = near in up_within (k + 1) read n (omega (arith, le)) ∙ sym (up_within k read n le))
  ]
    where
      beyond : (k n : ℕ) → k < n → n ≢ k + 1 → k + 1 < n
      beyond k n past apart = elim (cases_lt (k + 1) n) [ inl lt ↦ lt | inr ge ↦ absurd (apart (omega (arith, past, ge))) ]

  record_same : (k n : ℕ) → n ≢ k + 1 → record_up_to (k + 1) read n ≡ record_up_to k read n
  record_same k zero apart = refl
  record_same k (suc n) apart = ap rec_opt (up_same k (suc n) apart)

  record_here : (k : ℕ) → record_up_to (k + 1) read (k + 1) ≡ rec_opt (read (k + 1))
  record_here k = at (k + 1) k (omega arith) (omega arith)
    where
      at : (last n : ℕ) → last ≡ suc n → k ≡ n → record_up_to last read (k + 1) ≡ rec_opt (read (k + 1))
      at last n e same = ap (record_up_to last read) (let h : k + 1 ≡ suc k = omega arith in h) ∙ ap rec_opt (up_within last read (suc k) (omega (arith, e, same))) ∙ ap (λ m. rec_opt (read m)) (let h : suc k ≡ k + 1 = omega arith in h)

  record_past : (k n : ℕ) → k < n → record_up_to k read n ≡ None
  record_past k zero past = refl
  record_past k (suc n) past = ap rec_opt (up_past k read (suc n) past)

-- ---- one slot more

none_long : {A : Type 0} (xs : List A) → length xs ≡ 0 → xs ≡ []
none_long [] long = refl
none_long (x ∷ xs) long = absurd (omega (arith, long))

no_entries : entries (empty {X = Record} {R = place_cmp}) ≡ []
no_entries = none_long (entries empty) (sym (len-entries empty) ∙ len-empty place_cmp Record)

itself : (n : ℕ) → (n == n) ≡ true
itself n = grind (arith, nat_tests)

module _ (kinds : List ItemKind) (s : Shape) (read : ℕ → SlotRead) where
  -- nothing is listed before the first one
  pub none_listed : ListsUpTo kinds s read 0 []
  none_listed = record {
    records = empty;
    each = λ n. get-empty place_cmp (over s, n) ∙ sym (none n);
    small = subst (AllPlaces IsSmall) (sym no_entries) tt;
    list = sym (ap (λ es. keys (listing (entry_of kinds s) es)) no_entries ∙ empty_keys);
  }
    where
      none : (n : ℕ) → record_up_to 0 read n ≡ None
      none zero = refl
      none (suc n) = record_past read 0 (suc n) (omega arith)

  entry_here : (n : ℕ) (r : Record) → entry_of kinds s (over s, n) r ≡ entry_opt kinds s n (Some r)
  entry_here n r = ap (λ b. cond (b && takes s r.values) (Some (entry_bytes kinds s.parts r.owner (key_of s.parts r.values) n)) None) (itself (over s))

  free_listed : (k : ℕ) (xs : List (List ℕ)) → ListsUpTo kinds s read k xs → rec_opt (read (k + 1)) ≡ None → ListsUpTo kinds s read (k + 1) xs
  free_listed k xs l free = record {
    records = l.records;
    each = λ n. elim (cases_eq n (k + 1)) [
      | inl same ↦ l.each n ∙ ap (record_up_to k read) same ∙ record_past read k (k + 1) (omega arith) ∙ sym (ap (record_up_to (k + 1) read) same ∙ record_here read k ∙ free)
      | inr apart ↦ l.each n ∙ sym (record_same read k n apart)
    ];
    small = l.small;
    list = l.list;
  }

  used_listed : (k : ℕ) (r : Record) (xs : List (List ℕ)) → ListsUpTo kinds s read k xs → rec_opt (read (k + 1)) ≡ Some r → k + 1 < 2 ^ 32 → ListsUpTo kinds s read (k + 1) (with_in (entry_opt kinds s (k + 1) (Some r)) xs)
  used_listed k r xs l used low =
      let here : get l.records (over s, k + 1) ≡ None = l.each (k + 1) ∙ record_past read k (k + 1) (omega arith) in
      record {
        records = insert l.records (over s, k + 1) r;
        each = λ n. get-insert places_total l.records (over s, k + 1) r (over s, n) ∙ elim (cases_eq n (k + 1)) [
          | inl same ↦
              ap (λ b. cond b (Some r) (get l.records (over s, n))) (ap (λ m. eq_by_cmp place_cmp (over s, m) (over s, k + 1)) same ∙ same_number (over s) (k + 1))
              ∙ sym (ap (record_up_to (k + 1) read) same ∙ record_here read k ∙ used)
          | inr apart ↦ ap (λ b. cond b (Some r) (get l.records (over s, n))) (other_number (over s) n (k + 1) apart) ∙ l.each n ∙ sym (record_same read k n apart)
        ];
        small = small_insert l.records (over s, k + 1) r low l.small;
        list =
            (λ i. with_in (sym (entry_here (k + 1) r) i) (l.list i))
            ∙ sym (entries_changed kinds s l.records (over s, k + 1) r l.small low ∙ ap (λ o. with_in (entry_of kinds s (over s, k + 1) r) (without_in (member_opt (entry_of kinds s) (over s, k + 1) o) (keys (listed_in kinds s l.records)))) here);
      }

  by_slot : (k : ℕ) (o : Option Record) (xs : List (List ℕ)) → ListsUpTo kinds s read k xs → rec_opt (read (k + 1)) ≡ o → ((r : Record) → o ≡ Some r → k + 1 < 2 ^ 32) → ListsUpTo kinds s read (k + 1) (with_in (entry_opt kinds s (k + 1) o) xs)
  by_slot k None xs l is low = free_listed k xs l is
  by_slot k (Some r) xs l is low = used_listed k r xs l is (low r refl)

  -- with the entry of the next slot, where that has one
  pub next_listed : (k : ℕ) (xs : List (List ℕ)) → ListsUpTo kinds s read k xs → ((r : Record) → rec_opt (read (k + 1)) ≡ Some r → k + 1 < 2 ^ 32) → ListsUpTo kinds s read (k + 1) (with_in (entry_opt kinds s (k + 1) (rec_opt (read (k + 1)))) xs)
  next_listed k xs l low = by_slot k (rec_opt (read (k + 1))) xs l refl low

  -- records that are those of all slots have these entries
  pub all_listed : (k : ℕ) (xs : List (List ℕ)) (m : Records) → ListsUpTo kinds s read k xs → ((n : ℕ) → get m (over s, n) ≡ record_up_to k read n) → AllPlaces IsSmall (entries m) → xs ≡ keys (listed_in kinds s m)
  all_listed k xs m l each small = l.list ∙ ap (λ x. keys x) (same_listing l.records m l.small small (λ n. l.each n ∙ sym (each n)))
    where
      same_listing : (a b : Records) → AllPlaces IsSmall (entries a) → AllPlaces IsSmall (entries b) → ((n : ℕ) → get a (over s, n) ≡ get b (over s, n)) → listed_in kinds s a ≡ listed_in kinds s b
      same_listing a b small_a small_b same =
          same_map nat_list_cmp_total bytes_same _ _ (λ q.
          lists_members (entry_of kinds s) (place_in_entry s) IsSmall (own_entry kinds s) a small_a q
          ∙ ap (λ o. test_of q (member_opt (entry_of kinds s) (place_in_entry s q) o)) (same (place_in_entry s q).1)
          ∙ sym (lists_members (entry_of kinds s) (place_in_entry s) IsSmall (own_entry kinds s) b small_b q))

-- a list of a new set has room, where no record stands behind POPULATION
pub listed_room : (desc : Described) (kinds : List ItemKind) (t s : Shape) (bs : List (List ℕ)) (k : ℕ) (xs : List (List ℕ)) → kinds ≡ kinds_over desc s → t.population ≤ 1000000 → HasNoneBehind t bs → ListsUpTo kinds s (slot_at t bs) k xs → HasRoom xs
listed_room desc kinds t s bs k xs same few behind given =
    let l : ListsUpTo (kinds_over desc s) s (slot_at t bs) k xs = subst (λ (ks : List ItemKind). ListsUpTo ks s (slot_at t bs) k xs) same given in
    subst HasRoom (sym l.list) (few_room None _ 1000000 (entries_few desc (record { records = l.records; entries = [] }) s 1000000 (λ n rec at. numbered n rec (sym (l.each n) ∙ at))) (omega arith))
  where
    past : (n : ℕ) (rec : Record) → t.population < n → record_up_to k (slot_at t bs) n ≡ Some rec → ⊥
    past zero rec high at = absurd (omega (arith, high))
    past (suc n) rec high at = elim (cases_lt k (suc n)) [
      | inl far ↦ none_some rec (sym (record_past (slot_at t bs) k (suc n) far) ∙ at)
      | inr near ↦ (let le : suc n ≤ k = near in none_some rec (sym (ap rec_opt (up_within k (slot_at t bs) (suc n) le ∙ behind (suc n) high)) ∙ at))
    ]
      where
        none_some : (r : Record) → None ≡ Some r → ⊥
        none_some r e = absurd (cc e)

    numbered : (n : ℕ) (rec : Record) → record_up_to k (slot_at t bs) n ≡ Some rec → (1 ≤ n) × (n ≤ 1000000)
    numbered zero rec at = absurd (cc at)
    numbered (suc n) rec at = (omega arith, elim (cases_lt t.population (suc n)) [ inl high ↦ absurd (past (suc n) rec high at) | inr low ↦ (let le : suc n ≤ t.population = low in omega (arith, le, few)) ])

-- a record has a number that an entry can name
pub small_slot : (t : Shape) (bs : List (List ℕ)) (n : ℕ) (r : Record) → t.population ≤ 1000000 → HasNoneBehind t bs → rec_opt (slot_at t bs n) ≡ Some r → n < 2 ^ 32
small_slot t bs n r few behind used = elim (cases_lt t.population n) [
  | inl high ↦ absurd (none r (sym (ap rec_opt (behind n high)) ∙ used))
  | inr low ↦ omega (arith, low, few)
]
  where
    none : (r : Record) → None ≡ Some r → ⊥
    none r e = absurd (cc e)

-- the records of all slots of a file are those up to its last one
pub records_all : (s t : Shape) (bs : List (List ℕ)) (m : Records) (last : ℕ) → last ≡ length bs * per_block t.items → 0 < per_block t.items → AreRecordsOf s t bs m → (n : ℕ) → get m (over s, n) ≡ record_up_to last (slot_at t bs) n
records_all s t bs m last is some are zero = are.none
records_all s t bs m last is some are (suc n) = are.each n ∙ ap rec_opt (elim (cases_lt last (suc n)) [
  | inl past ↦ free_past t bs (suc n) some (omega (arith, past, is)) ∙ sym (up_past last (slot_at t bs) (suc n) past)
  | inr within ↦ (let le : suc n ≤ last = within in sym (up_within last (slot_at t bs) (suc n) le))
])

module _ (kinds : List ItemKind) (t s : Shape) (bs : List (List ℕ)) where
  -- at the end the file of the set holds all entries
  pub holds_all : (told : Bool) (own xs : List (List ℕ)) (last : ℕ) → last ≡ length bs * per_block t.items → 0 < per_block t.items → list_told told (form_of s) (entry_width kinds s.parts) own ≡ Some xs → ListsUpTo kinds s (slot_at t bs) last xs → HoldsEntries kinds t s bs own
  holds_all told own xs last is some listed l =
      let kept = told_is told (form_of s) (entry_width kinds s.parts) own xs listed in
      record { few = kept.few; kept = λ m are. kept.list ∙ ap (λ (ys : List (List ℕ)). Some ys) (all_listed kinds s (slot_at t bs) last xs m l (records_all s t bs m last is some are) are.small) }

  -- and at the beginning it holds none
  pub holds_none : (told : Bool) (own : List (List ℕ)) → told ≡ true → own ≡ [] → list_told told (form_of s) (entry_width kinds s.parts) own ≡ Some []
  holds_none told own is none =
      told_list told (form_of s) (entry_width kinds s.parts) own [] is (subst (λ (l : List (List ℕ)). length l ≤ 1048576) (sym none) (omega arith)) (ap (λ (l : List (List ℕ)). kept_in (form_of s) (entry_width kinds s.parts) l) none ∙ nothing_kept (form_of s) (entry_width kinds s.parts))

-- the list of the set is known, and has the entries of the first slots
pub record IsListedUpTo {B : Type 0} {g : Ghosts B} (kinds : List ItemKind) (t s : Shape) (bs : List (List ℕ)) (k : ℕ) (o : Overlay B g) : Type 0 where
  pub xs : List (List ℕ)
  pub listed : list_of_set (seen_list o) kinds s ≡ Some xs
  pub upto : ListsUpTo kinds s (slot_at t bs) k xs

-- a set that refuses none of the records doesn't refuse the next one
pub not_refused : (kinds : List ItemKind) (t s : Shape) (bs : List (List ℕ)) (k : ℕ) (xs : List (List ℕ)) (slot : Slot) → RefusesNone kinds s (slot_at t bs) → ListsUpTo kinds s (slot_at t bs) k xs → slot_at t bs (k + 1) ≡ Used slot
    → refuses kinds s (Some slot.rec) xs ≡ true → ⊥
not_refused kinds t s bs k xs slot none l is refused =
    let next : suc k ≡ k + 1 = omega arith in
    let no = none k slot xs (ap (slot_at t bs) next ∙ is) l in
    clash (sym refused ∙ no)
  where
    clash : true ≡ false → ⊥
    clash e = absurd (cc e)
