-- What the grammar says of entries that scanning finds, and of the events that they are.
use Rattle.std.specs.Prelude.{◌&&◌, nat_le}
use Rattle.std.proofs.Common.{ℕ, ◌+◌, ◌*◌, ◌≤◌, ◌≡◌, ◌⊎◌, inl, inr, Bool, true, false, cond, max, List, [], ◌∷◌, ◌++◌, length, map, Option, Some, None, refl, sym, ◌∙◌, ap, arith}
use Rattle.std.specs.Prelude.{nat_eq}
use Rattle.std.proofs.lemmas.Bool.{cases_eq, true≢false}
use Rattle.std.proofs.lemmas.Bool.Decides.{nat_tests}
use Rattle.std.proofs.lemmas.Option.{none-some}
use Rattle.dms_site.specs.Files.{Files}
use Rattle.dms_history.specs.Events.{BlockBytes, Event, change, quiet, control, begin}
use Rattle.dms_history.specs.Lists.{has, until_first}
use Rattle.dms_history.specs.Places.{is_point}
use Rattle.dms_history.specs.History.{History, history, history_from, after_event}
use Rattle.dms_history.specs.Pick.{reached_count}
use Rattle.dms_history.specs.Images.{is_at, or_else, last_after}
use Rattle.dms_history.specs.Ranges.{patch_bytes, range_change, told_events, events_from}
use Rattle.dms_history.proofs.Patches.{range_fits}
use Rattle.dms_history.proofs.Picks.{some_is}
use Rattle.dms_history.specs.declared.event.FileCount.{FileCount}
use Rattle.dms_history.specs.Entries.{Entry, schema_part, image, byte_range, quiet_point, control_point, begin_restore, counts_in, how_of}
use Rattle.dms_history.specs.Schemas.{Parts, no_parts, after_entry, is_whole}
use Rattle.dms_history.specs.EntryEvents.{logged_from, live_of}
use Rattle.dms_history.specs.Sizes.{IsSizedChange, ImagesSized}
use Rattle.dms_audrec.specs.Spelling.{counts_rise}
use Rattle.dms_audfile.specs.Scanning.{Placed, entry_in}
use Rattle.dms_audfile.specs.AuditTrail.{entry_there, AreThere}
use Rattle.dms_audfile.specs.declared.place.EntryPlace.{EntryPlace}
use Rattle.dms_restore.proofs.EntryPlaces.{ImageThere, image_there, range_there, control_there}
use Rattle.dms_running.proofs.Rewriting.{other_test}

-- ---- each entry that is found

-- an Image has whole blocks of a structure file, a Range bytes within one, and the counts of a Control are those of structure files
abbrev pub IsFine : Entry → Type 0
IsFine (schema_part part parts bytes) = Unit {0}
IsFine (image f b before after) = (30001 ≤ f) × (f ≤ 30200) × IsSizedChange before after
IsFine (byte_range f b place bytes) = (30001 ≤ f) × (f ≤ 30200) × (place + length bytes ≤ 1024)
IsFine (quiet_point n) = Unit {0}
IsFine (control_point n next counts) = counts_rise 30001 counts ≡ true
IsFine (begin_restore n kind) = Unit {0}

abbrev pub AllFine : List Entry → Type 0
AllFine [] = Unit {0}
AllFine (e ∷ es) = IsFine e × AllFine es

sized_there : (files : Files) (p : EntryPlace) (f b : ℕ) (before : Option BlockBytes) (after : BlockBytes) → ImageThere files p f b before after → IsSizedChange before after
sized_there files p f b None after t = record { was = tt; becomes = (t.new refl).1 }
sized_there files p f b (Some old) after t = record { was = (t.old old refl).1; becomes = (t.old old refl).3 }

fine_there : (files : Files) (p : EntryPlace) (e : Entry) → entry_there files p ≡ Some e → IsFine e
fine_there files p (schema_part part parts bytes) is = tt
fine_there files p (image f b before after) is = let t = image_there files p f b before after is in (t.bounds.0, t.bounds.1, sized_there files p f b before after t)
fine_there files p (byte_range f b place bytes) is = let t = range_there files p f b place bytes is in (t.bounds.0, t.bounds.1, t.within)
fine_there files p (quiet_point n) is = tt
fine_there files p (control_point n next counts) is = (control_there files p n next counts is).rise
fine_there files p (begin_restore n kind) is = tt

pub all_fine : (files : Files) (ps : List Placed) → AreThere files ps → AllFine (map entry_in ps)
all_fine files [] are = tt
all_fine files (p ∷ ps) are = (fine_there files p.place p.entry are.0.there, all_fine files ps are.1)

-- ---- events

-- a file that is none of a structure
abbrev pub IsOutside : ℕ → Type 0
IsOutside f = 30001 ≤ f → f ≤ 30200 → ⊥

abbrev pub IsFineEvent : Event → Type 0
IsFineEvent (change f b before after) = (30001 ≤ f) × (f ≤ 30200) × IsSizedChange before after
IsFineEvent (quiet n) = Unit {0}
IsFineEvent (control n next counts described) = (f : ℕ) → IsOutside f → counts f ≡ 0
IsFineEvent (begin n how) = Unit {0}

abbrev pub FineEvents : List Event → Type 0
FineEvents [] = Unit {0}
FineEvents (e ∷ es) = IsFineEvent e × FineEvents es

fine_push : (es : List Event) (e : Event) → FineEvents es → IsFineEvent e → FineEvents (es ++ e ∷ [])
fine_push [] e all one = (one, tt)
fine_push (x ∷ es) e all one = (all.0, fine_push es e all.1 one)

pub fine_behind : (xs ys : List Event) → FineEvents (xs ++ ys) → FineEvents ys
fine_behind [] ys all = all
fine_behind (x ∷ xs) ys all = fine_behind xs ys all.1

pub fine_until : (p : Event → Bool) (es : List Event) → FineEvents es → FineEvents (until_first p es)
fine_until p [] all = tt
fine_until p (e ∷ es) all = go (p e) (has p es) (fine_until p es all.1)
  where
    go : (b c : Bool) → FineEvents (until_first p es) → FineEvents (cond b (e ∷ []) (cond c (e ∷ until_first p es) []))
    go true c rest = (all.0, tt)
    go false true rest = (all.0, rest)
    go false false rest = tt

le_of : (a b : ℕ) → nat_le a b ≡ true → a ≤ b
le_of a b e = grind (arith, nat_tests, e)

three_of : (a b c d : Bool) → a && (b && (c && d)) ≡ true → (a ≡ true) × (b ≡ true) × (d ≡ true)
three_of true true true d e = (refl, refl, e)
three_of true true false d e = absurd (true≢false (sym e))
three_of true false c d e = absurd (true≢false (sym e))
three_of false b c d e = absurd (true≢false (sym e))

counts_outside : (low : ℕ) (cs : List FileCount) (f : ℕ) → 30001 ≤ low → counts_rise low cs ≡ true → IsOutside f → counts_in cs f ≡ 0
counts_outside low [] f from rise out = refl
counts_outside low (c ∷ cs) f from rise out =
    let r = three_of (nat_le low c.file) (nat_le c.file 30200) (nat_le c.blocks 2097152) (counts_rise (c.file + 1) cs) rise in
    let low_file : low ≤ c.file = le_of low c.file r.0 in
    let high_file : c.file ≤ 30200 = le_of c.file 30200 r.1 in
    elim (cases_eq c.file f) [
      | inl same ↦ absurd (out (omega (arith, same, from, low_file)) (omega (arith, same, high_file)))
      | inr other ↦ ap (λ k. cond k c.blocks (counts_in cs f)) (other_test c.file f other) ∙ counts_outside (c.file + 1) cs f (omega (arith, from, low_file)) r.2 out
    ]

some_or : (o : Option BlockBytes) (t : Bool) (x y : BlockBytes) → or_else o (cond t (Some x) None) ≡ Some y → (o ≡ Some y) ⊎ (x ≡ y)
some_or (Some z) t x y is = inl is
some_or None true x y is = inr (some_is x y is)
some_or None false x y is = absurd (none-some y is)

-- the last block after one of them is whole
fine_last : (f b : ℕ) (es : List Event) (x : BlockBytes) → FineEvents es → last_after f b es ≡ Some x → length x ≡ 1024
fine_last f b [] x fine is = absurd (none-some x is)
fine_last f b (change g k before after ∷ es) x fine is = elim (some_or (last_after f b es) (is_at f b g k) after x is) [
  | inl later ↦ fine_last f b es x fine.1 later
  | inr here ↦ ap length (sym here) ∙ fine.0.2.becomes
]
fine_last f b (quiet n ∷ es) x fine is = fine_last f b es x fine.1 is
fine_last f b (control n next counts described ∷ es) x fine is = fine_last f b es x fine.1 is
fine_last f b (begin n how ∷ es) x fine is = fine_last f b es x fine.1 is

module _ (f b place : ℕ) (bytes : List ℕ) (low : 30001 ≤ f) (high : f ≤ 30200) (within : place + length bytes ≤ 1024) (xs : List Entry)
    (rest : (h : History) → FineEvents h.live → FineEvents (history_from h (events_from h (logged_from no_parts xs))).live) where
  -- a Range is a change of the block that stood there, where there is one
  range_fine : (h : History) (o : Option BlockBytes) → FineEvents h.live → last_after f b h.live ≡ o
      → FineEvents (history_from h (range_change f b place bytes o ++ events_from (history_from h (range_change f b place bytes o)) (logged_from no_parts xs))).live
  range_fine h None fine is = rest h fine
  range_fine h (Some old) fine is =
      let whole : length old ≡ 1024 = fine_last f b h.live old fine is in
      let fits = range_fits place 0 old old (omega (arith, within, whole)) refl (λ i below. refl) (λ i above low. refl) in
      let e = change f b (Some old) (patch_bytes place bytes old) in
      rest (after_event h e) (fine_push h.live e fine (low, high, record { was = whole; becomes = fits.1 bytes (omega (arith, within, whole)) ∙ whole }))

live_fine : (xs : List Entry) (p : Parts) (h : History) → AllFine xs → FineEvents h.live → FineEvents (history_from h (events_from h (logged_from p xs))).live
live_fine [] p h all fine = fine
live_fine (schema_part part parts bytes ∷ xs) p h all fine = live_fine xs (after_entry p (schema_part part parts bytes)) h all.1 fine
live_fine (image f b before after ∷ xs) p h all fine = live_fine xs no_parts (after_event h (change f b before after)) all.1 (fine_push h.live (change f b before after) fine all.0)
live_fine (byte_range f b place bytes ∷ xs) p h all fine = range_fine f b place bytes all.0.0 all.0.1 all.0.2 xs (λ k. live_fine xs no_parts k all.1) h (last_after f b h.live) fine refl
live_fine (quiet_point n ∷ xs) p h all fine = live_fine xs no_parts (after_event h (quiet n)) all.1 (fine_push h.live (quiet n) fine tt)
live_fine (control_point n next counts ∷ xs) p h all fine =
    let e = control n next (counts_in counts) (is_whole p) in
    live_fine xs no_parts (after_event h e) all.1 (fine_push h.live e fine (λ f out. counts_outside 30001 counts f (omega arith) all.0 out))
live_fine (begin_restore n kind ∷ xs) p h all fine = live_fine xs no_parts (after_event h (begin n (how_of kind))) all.1 (fine_until (is_point n) h.live fine)

-- the live events of such entries
pub live_is_fine : (es : List Entry) → AllFine es → FineEvents (live_of es)
unfolding told_events history
live_is_fine es all = live_fine es no_parts (record { live = []; pending = None }) all tt

pub fine_images : (es : List Event) → FineEvents es → ImagesSized es
fine_images [] fine = tt
fine_images (change f b before after ∷ es) fine = (fine.0.2, fine_images es fine.1)
fine_images (quiet n ∷ es) fine = fine_images es fine.1
fine_images (control n next counts described ∷ es) fine = fine_images es fine.1
fine_images (begin n how ∷ es) fine = fine_images es fine.1

-- other files than those of structures have no blocks
pub none_reached : (f : ℕ) → IsOutside f → (k : ℕ) (es : List Event) → FineEvents es → k ≡ 0 → reached_count f k es ≡ 0
none_reached f out k [] fine is = is
none_reached f out k (change g b None after ∷ es) fine is = none_reached f out (cond (nat_eq g f) (max k (b + 1)) k) es fine.1 (elim (cases_eq g f) [
  | inl same ↦ absurd (out (omega (arith, same, fine.0.0)) (omega (arith, same, fine.0.1)))
  | inr other ↦ ap (λ t. cond t (max k (b + 1)) k) (other_test g f other) ∙ is
])
none_reached f out k (change g b (Some old) after ∷ es) fine is = none_reached f out k es fine.1 is
none_reached f out k (quiet n ∷ es) fine is = none_reached f out k es fine.1 is
none_reached f out k (control n next counts described ∷ es) fine is = none_reached f out (counts f) es fine.1 (fine.0 f out)
none_reached f out k (begin n how ∷ es) fine is = none_reached f out k es fine.1 is
