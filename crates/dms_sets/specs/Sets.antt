-- The entries of a set or automatic subset, and what one put makes of them.
use Rattle.std.proofs.Common.{◌≡◌, ℕ, ◌-◌, ◌^◌, ◌<◌, List, [], ◌∷◌, ◌++◌, Bool, true, false, cond, Some, None, refl, sym, ap, ◌∙◌, subst, drop, take, length, arith, append_assoc, length-append}
use Rattle.std.specs.Ordering.{eq_by_cmp}
use Rattle.std.specs.Prelude.{not, ◌&&◌, ◌==◌, if◌then◌else◌}
use Rattle.std.specs.declared.option.Option.{Option}
use Rattle.std.specs.FinMap.{remove, get, insert, put, entries, keys, entries-insert}
use Rattle.std.specs.FinMap.Entries.{where_key, by_order}
use Rattle.std.specs.declared.cmp.Ordering.{Ordering}
use Rattle.std.specs.declared.cmp.Ordering.TheVariants.{Less, Equal, Greater}
use Rattle.std.specs.Int.{w32, to_be_bytes, from_be_bytes}
use Rattle.std.proofs.lemmas.Nat.{from_be_bytes-to_be_bytes_4}
use Rattle.std.proofs.lemmas.List.{drop_at}
use Rattle.std.proofs.lemmas.Bool.Decides.{nat_tests}
use Rattle.std.proofs.lemmas.Option.{same_Some}
use Rattle.dms_base.specs.declared.value.Value.{Value}
use Rattle.dms_base.specs.declared.kind.ItemKind.{ItemKind}
use Rattle.dms_desc.specs.declared.structure.Item.{Item}
use Rattle.dms_desc.specs.declared.structure.KeyPart.{KeyPart}
use Rattle.dms_desc.specs.declared.record.Record.{Record}
use Rattle.dms_desc.specs.Shape.{Shape, Described}
use Rattle.dms_model.specs.declared.put.Put.TheVariants.{Stored}
use Rattle.dms_model.specs.Db.{Db, Records, Place, place_cmp}
use Rattle.dms_desc.specs.Keys.{key_of}
use Rattle.dms_desc.specs.Kinds.{takes, over}
use Rattle.dms_desc.specs.Lookups.{structure_of, items_of}
use Rattle.dms_model.specs.Stores.{put_after, record_to_store}
use Rattle.dms_sets.specs.Listing.{leaves_list, still, with_opt, without_opt, listing_of, member_opt, AllPlaces, changes_list}
use Rattle.dms_key.specs.ByteOrder.{high_first_length}
use Rattle.dms_key.specs.KeyBytes.{key_bytes}
use Rattle.dms_sets.specs.Entries.{entry_bytes, kinds_of}
use Rattle.dms_chain.specs.Lists.{ByteSet, entries_removed, keys_with, keys_without, with_in, without_in}
use Rattle.dms_model.specs.Places.{places_same, places_total}

-- the entry of a record in a set or automatic subset, where it belongs there
abbrev pub entry_of : List ItemKind → Shape → Place → Record → Option (List ℕ)
entry_of kinds s k r = if (over s == k.0) && takes s r.values then Some (entry_bytes kinds s.parts r.owner (key_of s.parts r.values) k.1) else None

-- the record's number, and the owner's, in an entry
abbrev pub number_in : List ℕ → ℕ
number_in q = from_be_bytes w32 (drop (length q - 4) q)

abbrev pub owner_in : List ℕ → ℕ
owner_in q = from_be_bytes w32 (take 4 q)

abbrev pub place_in_entry : Shape → List ℕ → Place
place_in_entry s q = (over s, number_in q)

abbrev pub IsSmall : Place → Type 0
IsSmall k = k.1 < 2 ^ 32

-- the entries of a set: one for each record of its data set that it takes, in byte order
abbrev pub listed_in : List ItemKind → Shape → Records → ByteSet
listed_in kinds s records = listing_of (entry_of kinds s) records

abbrev pub items_over : Described → Shape → List Item
items_over desc s = items_of (structure_of desc (over s))

abbrev pub kinds_over : Described → Shape → List ItemKind
kinds_over desc s = kinds_of (items_over desc s)

abbrev pub entries_of : Described → Db → Shape → List (List ℕ)
entries_of desc db s = keys (listed_in (kinds_over desc s) s db.records)

pub number_again : (front : List ℕ) (n : ℕ) → n < 2 ^ 32 → number_in (front ++ to_be_bytes w32 n) ≡ n
number_again front n small =
    let long : length front ≡ length (front ++ to_be_bytes w32 n) - 4 = omega (arith, length-append front (to_be_bytes w32 n), high_first_length 4 n) in
    ap (from_be_bytes w32) (drop_at front (to_be_bytes w32 n) (length (front ++ to_be_bytes w32 n) - 4) long) ∙ from_be_bytes-to_be_bytes_4 n small

pub entry_number : (kinds : List ItemKind) (ps : List KeyPart) (owner : ℕ) (key : List Value) (n : ℕ) → n < 2 ^ 32 → number_in (entry_bytes kinds ps owner key n) ≡ n
entry_number kinds ps owner key n small =
    ap number_in (sym (append_assoc (to_be_bytes w32 owner) (key_bytes kinds ps key) (to_be_bytes w32 n)))
    ∙ number_again (to_be_bytes w32 owner ++ key_bytes kinds ps key) n small

own_at : (a b : Bool) (kinds : List ItemKind) (s : Shape) (k : Place) (r : Record) (q : List ℕ) → (over s == k.0) ≡ a → k.1 < 2 ^ 32
    → cond (a && b) (Some (entry_bytes kinds s.parts r.owner (key_of s.parts r.values) k.1)) None ≡ Some q → k ≡ place_in_entry s q
own_at true true kinds s k r q e small h =
    let set : k.0 ≡ over s = grind (arith, nat_tests, e) in
    let number : k.1 ≡ number_in q = sym (entry_number kinds s.parts r.owner (key_of s.parts r.values) k.1 small) ∙ ap number_in (same_Some _ q h) in
    λ i. (set i, number i)
own_at true false kinds s k r q e small h = absurd (cc)
own_at false b kinds s k r q e small h = absurd (cc)

-- an entry tells its record's place
pub own_entry : (kinds : List ItemKind) (s : Shape) (k : Place) (r : Record) (q : List ℕ) → IsSmall k → entry_of kinds s k r ≡ Some q → k ≡ place_in_entry s q
own_entry kinds s k r q small h = own_at (over s == k.0) (takes s r.values) kinds s k r q refl small h

small_at : (o : Ordering) (k : Place) (v : Record) (e : Place × Record) (es : List (Place × Record)) → IsSmall k → AllPlaces IsSmall (e ∷ es) → AllPlaces IsSmall (put place_cmp k v es)
    → AllPlaces IsSmall (by_order o ((k, v) ∷ e ∷ es) ((e.0, v) ∷ es) (e ∷ put place_cmp k v es))
small_at Less k v e es here all rest = (here, all)
small_at Equal k v e es here all rest = all
small_at Greater k v e es here all rest = (all.0, rest)

small_put : (k : Place) (v : Record) (es : List (Place × Record)) → IsSmall k → AllPlaces IsSmall es → AllPlaces IsSmall (put place_cmp k v es)
small_put k v [] here all = (here, tt)
small_put k v (e ∷ es) here all = small_at (place_cmp k e.0) k v e es here all (small_put k v es here all.1)

pub small_insert : (m : Records) (k : Place) (v : Record) → IsSmall k → AllPlaces IsSmall (entries m) → AllPlaces IsSmall (entries (insert m k v))
small_insert m k v here all = subst (AllPlaces IsSmall) (sym (entries-insert places_total m k v)) (small_put k v (entries m) here all)

pub keys_with_opt : (o : Option (List ℕ)) (m : ByteSet) → keys (with_opt o m) ≡ with_in o (keys m)
keys_with_opt None m = refl
keys_with_opt (Some x) m = keys_with x m

pub keys_without_opt : (o : Option (List ℕ)) (m : ByteSet) → keys (without_opt o m) ≡ without_in o (keys m)
keys_without_opt None m = refl
keys_without_opt (Some x) m = keys_without x m

-- After a record was put a set's entries are the old ones without that of the record that stood there, where it belonged, and with that of the
-- new record, where it belongs.
pub entries_changed : (kinds : List ItemKind) (s : Shape) (m : Records) (k : Place) (v : Record) → AllPlaces IsSmall (entries m) → IsSmall k
    → keys (listed_in kinds s (insert m k v)) ≡ with_in (entry_of kinds s k v) (without_in (member_opt (entry_of kinds s) k (get m k)) (keys (listed_in kinds s m)))
entries_changed kinds s m k v all here =
    ap (λ (n : ByteSet). keys n) (changes_list (entry_of kinds s) (place_in_entry s) IsSmall (own_entry kinds s) m k v all (small_insert m k v here all) here)
    ∙ keys_with_opt (entry_of kinds s k v) (without_opt (member_opt (entry_of kinds s) k (get m k)) (listed_in kinds s m))
    ∙ ap (with_in (entry_of kinds s k v)) (keys_without_opt (member_opt (entry_of kinds s) k (get m k)) (listed_in kinds s m))

-- the same of what storing a record leaves
pub entries_put : (desc : Described) (db : Db) (s : Shape) (set n : ℕ) (rec : Record) → AllPlaces IsSmall (entries db.records) → n < 2 ^ 32
    → entries_of desc (put_after (Stored n) desc db set rec) s
    ≡ with_in (entry_of (kinds_over desc s) s (set, n) (record_to_store desc db set (Some n) rec)) (without_in (member_opt (entry_of (kinds_over desc s) s) (set, n) (get db.records (set, n))) (entries_of desc db s))
entries_put desc db s set n rec all small = entries_changed (kinds_over desc s) s db.records (set, n) (record_to_store desc db set (Some n) rec) all small

small_where : (p : Place → Bool) (es : List (Place × Record)) → AllPlaces IsSmall es → AllPlaces IsSmall (where_key place_cmp p es)
small_where p [] all = tt
small_where p (e ∷ es) all =
    let rest = small_where p es all.1 in
    elim (p e.0) as (λ b. AllPlaces IsSmall (cond b (e ∷ where_key place_cmp p es) (where_key place_cmp p es))) [ true ↦ (all.0, rest) | false ↦ rest ]

pub small_remove : (m : Records) (k : Place) → AllPlaces IsSmall (entries m) → AllPlaces IsSmall (entries (remove m k))
small_remove m k all = subst (AllPlaces IsSmall) (sym (entries_removed places_total places_same k m)) (small_where (λ x. not (eq_by_cmp place_cmp k x)) (entries m) all)

module _ (kinds : List ItemKind) (s : Shape) (m : Records) (k : Place) (all : AllPlaces IsSmall (entries m)) (here : IsSmall k) where
  -- after a record was removed
  pub entries_left : keys (listed_in kinds s (remove m k)) ≡ without_in (member_opt (entry_of kinds s) k (get m k)) (keys (listed_in kinds s m))
  entries_left =
      ap (λ (n : ByteSet). keys n) (leaves_list (entry_of kinds s) (place_in_entry s) IsSmall (own_entry kinds s) m k all (small_remove m k all) here)
      ∙ keys_without_opt (member_opt (entry_of kinds s) k (get m k)) (listed_in kinds s m)

  -- a put that changes no entry of the set
  pub entries_still : (v : Record) → entry_of kinds s k v ≡ member_opt (entry_of kinds s) k (get m k) → keys (listed_in kinds s (insert m k v)) ≡ keys (listed_in kinds s m)
  entries_still v same = ap (λ (n : ByteSet). keys n) (still (entry_of kinds s) (place_in_entry s) IsSmall (own_entry kinds s) m k v all (small_insert m k v here all) same)
