-- An entry with an owner and a key is seen by one look at a list of members.
use Rattle.std.proofs.Common.{◌≡◌, ◌∙◌, ◌≤◌, ℕ, List, [], ◌∷◌, ◌++◌, Some, refl, sym, ap, subst, length, length-append, append-nil, arith}
use Rattle.std.specs.Prelude.{is_some}
use Rattle.std.specs.List.{AllByRecursion, list_any}
use Rattle.std.specs.FinMap.{entries, entries_sorted, get, get-entries, keys}
use Rattle.std.specs.Int.{w32, to_be_bytes}
use Rattle.dms_base.specs.declared.kind.ItemKind.{ItemKind}
use Rattle.dms_desc.specs.Keys.{key_of}
use Rattle.dms_desc.specs.Shape.{Shape}
use Rattle.dms_desc.specs.Sorted.{that_passes}
use Rattle.dms_desc.specs.declared.record.Record.{Record}
use Rattle.dms_key.specs.ByteOrder.{high_first_length}
use Rattle.dms_key.specs.KeyBytes.{key_bytes, key_width}
use Rattle.dms_model.specs.Db.{Db, Place, Records}
use Rattle.dms_chain.specs.Lists.{empty_keys, first_from, keys_rise, pad_bound}
use Rattle.dms_sets.specs.Changes.{front_in, is_seen}
use Rattle.dms_sets.specs.Clashes.{key_front}
use Rattle.dms_sets.specs.Entries.{IsSetKey, whole_width}
use Rattle.dms_sets.specs.Listing.{listing, listing_of}
use Rattle.dms_sets.specs.Padded.{IsSetEntry, all_with, entry_width, look_is}
use Rattle.dms_sets.specs.Prefixes.{any_first, first_starts, starts}
use Rattle.dms_sets.specs.Sets.{keys_with_opt}
use Rattle.dms_sets.specs.Spots.{StandsAmong, all_found}
use Rattle.dms_manual.specs.Entered.{IsSmallPair, entered, member_entry}
use Rattle.dms_manual.specs.Listed.{bytes_for}
use Rattle.dms_manual.specs.Moves.{SmallIn}
use Rattle.dms_manual.specs.Refused.{behind}

-- the entries of a manual subset with these members, in byte order
abbrev pub list_over : List ItemKind → Shape → Records → List (List ℕ)
list_over kinds s m = keys (listing_of (member_entry kinds s) m)

-- it holds of the entries of all members
module _ (kinds : List ItemKind) (s : Shape) (P : List ℕ → Type 0) where
  all_listing : (es : List (Place × Record)) → AllByRecursion (λ (e : Place × Record). P (bytes_for kinds s e.0.0 e.0.1 e.1)) es → AllByRecursion P (keys (listing (member_entry kinds s) es))
  all_listing [] all = subst (AllByRecursion P) (sym empty_keys) tt
  all_listing (e ∷ es) all =
      subst (AllByRecursion P) (sym (keys_with_opt (member_entry kinds s e.0 e.1) (listing (member_entry kinds s) es)))
      (all_with P (bytes_for kinds s e.0.0 e.0.1 e.1) all.0 (keys (listing (member_entry kinds s) es)) (all_listing es all.1))

  each_member : (m : Records) (es : List (Place × Record)) → AllByRecursion (StandsAmong (entries m)) es → ((k : Place) (r : Record) → get m k ≡ Some r → P (bytes_for kinds s k.0 k.1 r))
      → AllByRecursion (λ (e : Place × Record). P (bytes_for kinds s e.0.0 e.0.1 e.1)) es
  each_member m [] found h = tt
  each_member m (e ∷ es) found h = (h e.0 e.1 (get-entries m e.0 ∙ found.0), each_member m es found.1 h)

  pub all_listed : (m : Records) → ((k : Place) (r : Record) → get m k ≡ Some r → P (bytes_for kinds s k.0 k.1 r)) → AllByRecursion P (list_over kinds s m)
  all_listed m h = all_listing (entries m) (each_member m (entries m) (all_found (entries m) (entries_sorted m)) h)

-- a member whose owner and number are small, and whose key fits
pub record MemberFits (kinds : List ItemKind) (s : Shape) (k : Place) (r : Record) : Type 0 where
  pub pair : IsSmallPair k
  pub key : IsSetKey kinds s.parts (key_of s.parts r.values)

-- all do
abbrev pub MembersFit : List ItemKind → Shape → Records → Type 0
MembersFit kinds s m = (k : Place) (r : Record) → get m k ≡ Some r → MemberFits kinds s k r

module _ (kinds : List ItemKind) (s : Shape) (m : Records) (fit : MembersFit kinds s m) where
  pub shaped : AllByRecursion (IsSetEntry (key_width kinds s.parts)) (list_over kinds s m)
  shaped = all_listed kinds s (IsSetEntry (key_width kinds s.parts)) m (λ k r at. one k r (fit k r at))
    where
      one : (k : Place) (r : Record) → MemberFits kinds s k r → IsSetEntry (key_width kinds s.parts) (bytes_for kinds s k.0 k.1 r)
      one k r f = record {
        owner = k.0;
        key = key_bytes kinds s.parts (key_of s.parts r.values);
        number = k.1;
        is = refl;
        small_owner = f.pair.0;
        small = f.pair.1;
        long = whole_width kinds s.parts (key_of s.parts r.values) f.key;
      }

  -- The look answers whether an entry begins with the owner and key.
  pub seen_over : (rec : Record) → IsSetKey kinds s.parts (key_of s.parts rec.values)
      → is_seen kinds s rec (list_over kinds s m) ≡ list_any (starts (key_front kinds s.parts rec.owner (key_of s.parts rec.values))) (list_over kinds s m)
  seen_over rec key =
      let the_front : List ℕ = key_front kinds s.parts rec.owner (key_of s.parts rec.values) in
      let bytes = key_bytes kinds s.parts (key_of s.parts rec.values) in
      let same : the_front ≡ front_in kinds s rec = ap (λ (x : List ℕ). to_be_bytes w32 rec.owner ++ x) (append-nil bytes) in
      let low : length the_front ≤ entry_width kinds s.parts =
      omega (arith, length-append (to_be_bytes w32 rec.owner) (bytes ++ []), length-append bytes [], high_first_length 4 rec.owner, whole_width kinds s.parts (key_of s.parts rec.values) key) in
      ap (λ (p : List ℕ). is_some (that_passes (starts p) (first_from (Some (pad_bound (entry_width kinds s.parts) p)) (list_over kinds s m)))) (sym same)
      ∙ ap is_some (sym (look_is (key_width kinds s.parts) the_front (list_over kinds s m) low shaped))
      ∙ ap is_some (sym (first_starts the_front (list_over kinds s m) (keys_rise (listing_of (member_entry kinds s) m))))
      ∙ sym (any_first (starts the_front) (list_over kinds s m))

-- The members of a manual subset fit where the keys of the records do.
pub entered_fit : (kinds : List ItemKind) (s : Shape) (db : Db) → SmallIn s db → ((m : ℕ) (x : Record) → get db.records (s.set, m) ≡ Some x → IsSetKey kinds s.parts (key_of s.parts x.values)) → MembersFit kinds s (entered s db)
entered_fit kinds s db small fit k x h =
    let b = behind s db k.0 k.1 x h in
    record { pair = small.each k.0 k.1 b.has; key = subst (λ (z : Record). IsSetKey kinds s.parts (key_of s.parts z.values)) b.is (fit k.1 b.rec b.stands) }
