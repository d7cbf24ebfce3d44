-- The bytes of a Schema are read from the places of its parts.
use Rattle.std.proofs.Common.{ℕ, zero, suc, ◌+◌, ◌-◌, ◌<◌, ◌≤◌, min, ◌≡◌, ◌⊎◌, inl, inr, Bool, true, false, List, [], ◌∷◌, ◌++◌, map, length, take, drop, get_or, Some, None, refl, sym, ◌∙◌, ap, arith, append_assoc}
use Rattle.std.proofs.lemmas.Bool.{cases_lt, true≢false}
use Rattle.std.proofs.lemmas.List.{length-map, take_all}
use Rattle.dms_site.specs.Files.{Files}
use Rattle.dms_history.specs.Lists.{has, until_first}
use Rattle.dms_history.specs.Places.{is_point}
use Rattle.dms_history.specs.Entries.{Entry, schema_part, image, byte_range, quiet_point, control_point, begin_restore}
use Rattle.dms_history.specs.EntryEvents.{live_of}
use Rattle.dms_history.specs.SchemaAt.{schema_at}
use Rattle.dms_audfile.specs.Scanning.{Placed, place_in, entry_in}
use Rattle.dms_audfile.specs.AuditTrail.{entry_there, AreThere}
use Rattle.dms_audfile.specs.declared.place.EntryPlace.{EntryPlace}
use Rattle.dms_audfile.specs.declared.fault.AudFault.{AudFault}
use Rattle.dms_audfile.specs.declared.fault.AudFault.TheVariants.{Disk, Memory}
use Rattle.dms_restore.specs.declared.live.LiveEntry.{LiveEntry}
use Rattle.dms_restore.specs.declared.schemas.SchemaSpan.{SchemaSpan}
use Rattle.dms_restore.specs.declared.trace.TrailTrace.{TrailTrace}
use Rattle.dms_restore.specs.LiveEntries.{logged_at, logged_live}
use Rattle.dms_history.specs.Ranges.{Logged, is_point_logged}
use Rattle.dms_restore.proofs.Points.{live_in, point_is_logged}
use Rattle.dms_restore.specs.Scanned.{IsNoEntryOf}
use Rattle.dms_restore.specs.SchemaSpans.{part_bytes, span_bytes, spans_before}
use Rattle.dms_restore.specs.Traces.{IsTraceOf}
use Rattle.dms_restore.proofs.ReadOn.{no_place, get_place, there_at, map_length, entries_more}
use Rattle.dms_restore.proofs.Spanned.{until_some, length_take}

-- ---- where it stands

-- the Schema at a point is the one before its live entry
pub record SchemaThere (entries : List Entry) (t : TrailTrace) (point k : ℕ) : Type 0 where
  pub some : 0 < k
  pub within : k ≤ length (spans_before t.schemas)
  pub is : span_bytes entries (get_or (spans_before t.schemas) (k - 1) None) ≡ schema_at entries point

pub schema_there : (files : Files) (entries : List Entry) (t : TrailTrace) (point k : ℕ) (lent : List LiveEntry) → lent ≡ t.history.live.items → k ≤ length lent → until_first (is_point_logged point) (logged_live files lent) ≡ logged_live files (take k lent)
    → IsTraceOf files entries t → has (is_point point) (live_of entries) ≡ true → SchemaThere entries t point k
schema_there files entries t point k lent same le front is found =
    let live : live_in entries ≡ logged_live files lent = is.history.live_is ∙ ap (logged_live files) (sym same) in
    let place : has (is_point_logged point) (live_in entries) ≡ true = sym (point_is_logged entries point) ∙ found in
    let size : length (until_first (is_point_logged point) (live_in entries)) ≡ k =
    ap (λ (l : List Logged). length (until_first (is_point_logged point) l)) live ∙ ap length front ∙ length-map (take k lent) (logged_at files) ∙ length_take k lent le in
    let some : 0 < k = omega (arith, until_some (is_point_logged point) (live_in entries) place, size) in
    record {
      some = some;
      within = omega (arith, le, is.schemas.count, ap length live, length-map lent (logged_at files));
      is = is.schemas.each point (k - 1) place (size ∙ up k some);
    }
  where
    up : (k : ℕ) → 0 < k → k ≡ suc (k - 1)
    up k some = omega (arith, some)

pub no_place_there : (files : Files) (entries : List Entry) (t : TrailTrace) (point : ℕ) (lent : List LiveEntry) → lent ≡ t.history.live.items → has (is_point_logged point) (logged_live files lent) ≡ false → IsTraceOf files entries t → has (is_point point) (live_of entries) ≡ true → ⊥
no_place_there files entries t point lent same off is found =
    true≢false (sym found ∙ point_is_logged entries point ∙ ap (λ (l : List Logged). has (is_point_logged point) l) (is.history.live_is ∙ ap (logged_live files) (sym same)) ∙ off)

-- ---- the parts, one after another

bytes_on : (xs ys : List Entry) → part_bytes (xs ++ ys) ≡ part_bytes xs ++ part_bytes ys
bytes_on [] ys = refl
bytes_on (schema_part part parts bytes ∷ xs) ys = ap (λ (l : List ℕ). bytes ++ l) (bytes_on xs ys) ∙ sym (append_assoc bytes (part_bytes xs) (part_bytes ys))
bytes_on (image f b before after ∷ xs) ys = bytes_on xs ys
bytes_on (byte_range f b place bytes ∷ xs) ys = bytes_on xs ys
bytes_on (quiet_point n ∷ xs) ys = bytes_on xs ys
bytes_on (control_point n next counts ∷ xs) ys = bytes_on xs ys
bytes_on (begin_restore n kind ∷ xs) ys = bytes_on xs ys

pub parts_next : (files other : Files) (places : List EntryPlace) (i : ℕ) (d : EntryPlace) (old new : List ℕ) → i < length places → other ≡ files
    → ((e : Entry) → entry_there other (get_or places i d) ≡ Some e → new ≡ old ++ part_bytes (e ∷ []))
    → (ps : List Placed) → places ≡ map place_in ps → AreThere files ps → old ≡ part_bytes (map entry_in (take i ps)) → new ≡ part_bytes (map entry_in (take (i + 1) ps))
parts_next files other places i d old new low same step ps are there so_far =
    let under : i < length ps = omega (arith, low, ap length are, map_length ps) in
    let p = get_or ps i no_place in
    let at : get_or places i d ≡ p.place = ap (λ (l : List EntryPlace). get_or l i d) are ∙ get_place ps i d under in
    let here : entry_there other (get_or places i d) ≡ Some p.entry = (λ j. entry_there (same j) (at j)) ∙ (there_at files ps i under there).there in
    step p.entry here ∙ ap (λ (l : List ℕ). l ++ part_bytes (p.entry ∷ [])) so_far ∙ sym (bytes_on (map entry_in (take i ps)) (p.entry ∷ [])) ∙ ap part_bytes (sym (entries_more ps i under))

pub parts_all : (places : List EntryPlace) (i : ℕ) (bytes : List ℕ) (ps : List Placed) → length places < i + 1 → places ≡ map place_in ps → bytes ≡ part_bytes (map entry_in (take i ps)) → bytes ≡ part_bytes (map entry_in ps)
parts_all places i bytes ps le are is = is ∙ ap (λ (l : List Placed). part_bytes (map entry_in l)) (take_all i ps (omega (arith, le, ap length are, map_length ps)))

-- ---- some of the places

pub take_least : (n m : ℕ) (xs : List EntryPlace) → m ≡ min n (length xs) → take m xs ≡ take n xs
take_least n m xs is = elim (cases_lt (length xs) n) [
  | inr le ↦ ap (λ k. take k xs) (least n m (length xs) is le)
  | inl more ↦ ap (λ k. take k xs) (most n m (length xs) is more) ∙ take_all (length xs) xs (omega arith) ∙ sym (take_all n xs (omega (arith, more)))
]
  where
    least : (n m l : ℕ) → m ≡ min n l → n ≤ l → m ≡ n
    least n m l is le = omega (arith, is, le)

    most : (n m l : ℕ) → m ≡ min n l → l < n → m ≡ l
    most n m l is more = omega (arith, is, more)

cut_map : {A B : Type 0} (f : A → B) (n k : ℕ) (xs : List A) → take n (drop k (map f xs)) ≡ map f (take n (drop k xs))
cut_map f zero k xs = refl
cut_map f (suc n) zero [] = refl
cut_map f (suc n) zero (x ∷ xs) = ap (λ (l : List _). f x ∷ l) (cut_map f n zero xs)
cut_map f (suc n) (suc k) [] = refl
cut_map f (suc n) (suc k) (x ∷ xs) = cut_map f (suc n) k xs

there_take : (files : Files) (n : ℕ) (ps : List Placed) → AreThere files ps → AreThere files (take n ps)
there_take files zero ps all = tt
there_take files (suc n) [] all = tt
there_take files (suc n) (p ∷ ps) all = (all.0, there_take files n ps all.1)

there_drop : (files : Files) (n : ℕ) (ps : List Placed) → AreThere files ps → AreThere files (drop n ps)
there_drop files zero ps all = all
there_drop files (suc n) [] all = tt
there_drop files (suc n) (p ∷ ps) all = there_drop files n ps all.1

-- the bytes of the parts are those of the Schema
pub span_read : (files : Files) (span : SchemaSpan) (places part_places : List EntryPlace) (bytes : List ℕ) → part_places ≡ take span.parts (drop span.first places)
    → ((ps : List Placed) → part_places ≡ map place_in ps → AreThere files ps → bytes ≡ part_bytes (map entry_in ps))
    → (ps : List Placed) → places ≡ map place_in ps → AreThere files ps → span_bytes (map entry_in ps) (Some span) ≡ Some bytes
span_read files span places part_places bytes cut read ps are there =
    let own = take span.parts (drop span.first ps) in
    let is : part_places ≡ map place_in own = cut ∙ ap (λ (l : List EntryPlace). take span.parts (drop span.first l)) are ∙ cut_map place_in span.parts span.first ps in
    ap (λ (l : List Entry). Some (part_bytes l)) (cut_map entry_in span.parts span.first ps) ∙ ap (λ (l : List ℕ). Some l) (sym (read own is (there_take files span.parts (drop span.first ps) (there_drop files span.first ps there))))

-- no entry stands at one of some of the places
take_drop : (n : ℕ) (xs : List EntryPlace) → take n xs ++ drop n xs ≡ xs
take_drop zero xs = refl
take_drop (suc n) [] = refl
take_drop (suc n) (x ∷ xs) = ap (λ (l : List EntryPlace). x ∷ l) (take_drop n xs)

pub none_within : (tells : Bool) (files : Files) (n k : ℕ) (places part_places : List EntryPlace) (e : AudFault) → part_places ≡ take n (drop k places)
    → (e ≡ Disk) ⊎ ((e ≡ Memory) ⊎ IsNoEntryOf tells files part_places e) → (e ≡ Disk) ⊎ ((e ≡ Memory) ⊎ IsNoEntryOf tells files places e)
none_within tells files n k places part_places e cut is = elim is [
  | inl disk ↦ inl disk
  | inr rest ↦ elim rest [
    | inl memory ↦ inr (inl memory)
    | inr none ↦ inr (inr (record {
      place = none.place;
      before = take k places ++ none.before;
      after = none.after ++ drop n (drop k places);
      among = sym (take_drop k places) ∙ ap (λ (l : List EntryPlace). take k places ++ l) (sym (take_drop n (drop k places)) ∙ ap (λ (l : List EntryPlace). l ++ drop n (drop k places)) (sym cut ∙ none.among)
          ∙ append_assoc none.before (none.place ∷ none.after) (drop n (drop k places))) ∙ sym (append_assoc (take k places) none.before (none.place ∷ (none.after ++ drop n (drop k places))));
      is = none.is;
      none = none.none;
    }))
  ]
]
