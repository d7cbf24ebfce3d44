-- What a stop makes of events, one by one, is what it may leave.
use Rattle.std.proofs.Common.{ℕ, ◌+◌, ◌<◌, ◌≡◌, ◌≢◌, ◌⊎◌, inl, inr, ⊎_elim, true, false, List, [], ◌∷◌, ◌++◌, refl, sym, ◌∙◌, ap, subst, arith}
use Rattle.std.proofs.lemmas.Bool.{cases_lt, false≢true}
use Rattle.dms_site.specs.Files.{Files, with_file}
use Rattle.dms_site.specs.Laws.{with_file_here, with_file_other}
use Rattle.dms_calls.specs.World.{World, OnFile, Speaks}
use Rattle.dms_memcalls.specs.declared.event.CallEvent.{CallEvent}
use Rattle.dms_memcalls.specs.declared.event.CallEvent.TheVariants.{Looked, Made, Wrote, Shortened, Lengthened, Synced, SyncedNames, Printed, Found, Recalled}
use Rattle.dms_memcalls.specs.Names.{leads, is_name}
use Rattle.dms_memcalls.specs.NameLaws.{name_is, leads_is, leads_same, adds_seen}
use Rattle.dms_memcalls.specs.Folders.{FolderSeen, with_made, with_bytes, with_said, world_of}
use Rattle.dms_memcalls.specs.Events.{seen_after}
use Rattle.dms_memcalls.specs.Outcomes.{Adds, EventMakes, IsOutcomeOf, seen_of, WorldMayBeLeft}
use Rattle.dms_memcalls.specs.Steady.{on_file, speaks_all, speaks_none}
use Rattle.dms_memcalls.specs.Settled.{put, with_names, world_settles, settled_names}
use Rattle.dms_memcalls.specs.Strikes.{FileChanged, NamedFile, Strikes, IsLeft}

-- one name here and there, where there is one in both
abbrev NamesAgree : List ℕ → List ℕ → Type 0
NamesAgree here there = (here ≡ []) ⊎ ((there ≡ []) ⊎ (here ≡ there))

abbrev AllAgree : FolderSeen → FolderSeen → Type 0
AllAgree s left = (k : ℕ) → k < left.count → NamesAgree (left.names k) (s.names k)

none_named : (a m : List ℕ) → a ≡ [] → is_name a m ≢ true
none_named a m none is = false≢true (ap (λ (l : List ℕ). is_name l m) (sym none) ∙ is)

one_owner : (a b m n : List ℕ) → NamesAgree a b → is_name a m ≡ true → is_name b n ≡ true → m ≡ n
one_owner a b m n agrees at is = ⊎_elim
    (λ none. absurd (none_named a m none at))
    (λ rest. ⊎_elim (λ none. absurd (none_named b n none is)) (λ same. sym (name_is a m at) ∙ same ∙ name_is b n is) rest)
    agrees

fits_left : (s left : FolderSeen) → left.said ≡ s.said → AllAgree s left → IsOutcomeOf s (world_of left)
fits_left s left said agree = record {
  said = said;
  one_name = λ m n i at is.
      let here = leads_is left.count left.names m i at in
      one_owner (left.names i) (s.names i) m n (agree i here.0) here.1 (leads_is s.count s.names n i is).1;
}

-- one more event, of which this is left
module _ (past : List CallEvent) (e : CallEvent) where
  after : FolderSeen
  after = seen_after e (seen_of past)

  next : (new : FolderSeen) → new.count ≡ (seen_after e (seen_of past)).count → new.said ≡ (seen_after e (seen_of past)).said → AllAgree (seen_after e (seen_of past)) new → (v : World) → WorldMayBeLeft past v → EventMakes (seen_of past) e v (world_of new) → IsLeft (e ∷ past) new
  next new count said agree v may takes = record {
    count = count;
    said = said;
    owners = agree;
    may = (fits_left (seen_after e (seen_of past)) new said agree, (v, may, takes));
  }

agree_made : (s left : FolderSeen) (here there bytes other : List ℕ) → left.count ≡ s.count → AllAgree s left → NamesAgree here there → AllAgree (with_made s there bytes) (with_made left here other)
agree_made s left here there bytes other count agree names k low = elim (cases_lt k left.count) [
  | inl before ↦
      let a : with_file left.names left.count here k ≡ left.names k = with_file_other left.names left.count here k (λ e. omega (arith, e, before)) in
      let b : with_file s.names s.count there k ≡ s.names k = with_file_other s.names s.count there k (λ e. omega (arith, e, before, count)) in
      subst (λ (l : List ℕ). NamesAgree l (with_file s.names s.count there k)) (sym a) (subst (λ (l : List ℕ). NamesAgree (left.names k) l) (sym b) (agree k before))
  | inr last ↦
      let e : k ≡ left.count = omega (arith, low, last) in
      let d : k ≡ s.count = omega (arith, e, count) in
      let a : with_file left.names left.count here k ≡ here = ap (λ (n : ℕ). with_file left.names left.count here n) e ∙ with_file_here left.names left.count here in
      let b : with_file s.names s.count there k ≡ there = ap (λ (n : ℕ). with_file s.names s.count there n) d ∙ with_file_here s.names s.count there in
      subst (λ (l : List ℕ). NamesAgree l (with_file s.names s.count there k)) (sym a) (subst (λ (l : List ℕ). NamesAgree here l) (sym b) names)
]

adds_left : (s left : FolderSeen) (name given bytes : List ℕ) → left.count ≡ s.count → (given ≡ name) ⊎ (given ≡ []) → Adds name bytes s.count (world_of left) (world_of (with_made left given bytes))
adds_left s left name given bytes count which = subst (λ (n : ℕ). Adds name bytes n (world_of left) (world_of (with_made left given bytes))) count (adds_seen left name given bytes which)

module _ (past : List CallEvent) (left : FolderSeen) (was : IsLeft past left) where
  -- a file with a name or none
  made_left : (name given there bytes : List ℕ) (e : CallEvent) (new : FolderSeen) → seen_after e (seen_of past) ≡ with_made (seen_of past) there bytes → ((v w : World) → Adds name bytes (seen_of past).count v w → EventMakes (seen_of past) e v w)
      → (given ≡ name) ⊎ (given ≡ []) → NamesAgree given there → new ≡ with_made left given bytes → IsLeft (e ∷ past) new
  made_left name given there bytes e new is takes which agrees now =
      let s = seen_of past in
      subst (λ (n : FolderSeen). IsLeft (e ∷ past) n) (sym now) (next past e (with_made left given bytes)
      (ap (λ (n : ℕ). n + 1) was.count ∙ sym (ap (λ (x : FolderSeen). x.count) is))
      (was.said ∙ sym (ap (λ (x : FolderSeen). x.said) is))
      (subst (λ (x : FolderSeen). AllAgree x (with_made left given bytes)) (sym is) (agree_made s left given there bytes bytes was.count was.owners agrees))
      (world_of left) was.may (takes _ _ (adds_left s left name given bytes was.count which)))

  -- nothing changed
  same_left : (e : CallEvent) (new : FolderSeen) → seen_after e (seen_of past) ≡ seen_of past → EventMakes (seen_of past) e (world_of left) (world_of left) → new ≡ left → IsLeft (e ∷ past) new
  same_left e new is takes now = subst (λ (n : FolderSeen). IsLeft (e ∷ past) n) (sym now) (next past e left
      (was.count ∙ sym (ap (λ (x : FolderSeen). x.count) is)) (was.said ∙ sym (ap (λ (x : FolderSeen). x.said) is)) (subst (λ (x : FolderSeen). AllAgree x left) (sym is) was.owners) (world_of left) was.may takes)

  -- a file was changed
  changed_left : (f : ℕ) (step : List ℕ → List ℕ → Type 0) (e : CallEvent) (new : FolderSeen) → (bytes : Files) → seen_after e (seen_of past) ≡ record (seen_of past) { bytes = bytes } → ((v w : World) → OnFile f step v w → EventMakes (seen_of past) e v w)
      → FileChanged f step left new → IsLeft (e ∷ past) new
  changed_left f step e new bytes is takes changed =
      let there = with_bytes left f changed.bytes in
      subst (λ (n : FolderSeen). IsLeft (e ∷ past) n) (sym changed.is) (next past e there
      (was.count ∙ sym (ap (λ (x : FolderSeen). x.count) is)) (was.said ∙ sym (ap (λ (x : FolderSeen). x.said) is)) (subst (λ (x : FolderSeen). AllAgree x there) (sym is) was.owners)
      (world_of left) was.may (takes _ _ (on_file left f step changed.bytes changed.took)))

  -- text was printed
  spoken_left : (text : List ℕ) (e : CallEvent) (new : FolderSeen) → seen_after e (seen_of past) ≡ with_said (seen_of past) ((seen_of past).said ++ text) → ((v w : World) → Speaks text v w → EventMakes (seen_of past) e v w)
      → new ≡ with_said left (left.said ++ text) → IsLeft (e ∷ past) new
  spoken_left text e new is takes now =
      let there = with_said left (left.said ++ text) in
      subst (λ (n : FolderSeen). IsLeft (e ∷ past) n) (sym now) (next past e there
      (was.count ∙ sym (ap (λ (x : FolderSeen). x.count) is)) (ap (λ (l : List ℕ). l ++ text) was.said ∙ sym (ap (λ (x : FolderSeen). x.said) is)) (subst (λ (x : FolderSeen). AllAgree x there) (sym is) was.owners)
      (world_of left) was.may (takes _ _ (speaks_all left text)))

  -- a file is stable
  synced_left : (f : ℕ) (new : FolderSeen) → new ≡ with_bytes left f ((seen_of past).bytes f) → IsLeft (Synced f true ∷ past) new
  synced_left f new now =
      let bytes = (seen_of past).bytes f in
      subst (λ (n : FolderSeen). IsLeft (Synced f true ∷ past) n) (sym now) (next past (Synced f true) (with_bytes left f bytes) was.count was.said was.owners
      (put f bytes (world_of left)) (world_settles f past (world_of left) was.may) (refl, λ done. with_file_here left.bytes f bytes))

  -- the names are stable
  named_left : (new : FolderSeen) → NamedFile (seen_of past) left new → IsLeft (SyncedNames true ∷ past) new
  named_left new named = next past (SyncedNames true) new (named.count ∙ was.count) (named.said ∙ was.said)
      (λ k low. inr (inr (named.names k (omega (arith, low, named.count, was.count)))))
      (with_names (seen_of past) (world_of left)) (settled_names past (world_of left) was.may)
      (λ i. record { names = λ m. names m i; bytes = named.bytes i; said = named.said i }, λ done m. names m)
    where
      names : (m : List ℕ) → leads new.count new.names m ≡ leads (seen_of past).count (seen_of past).names m
      names m = ap (λ (n : ℕ). leads n new.names m) (named.count ∙ was.count) ∙ leads_same (seen_of past).count (seen_of past).names new.names m named.names

  -- what a stop makes of one more event is what it may leave
  pub struck_left : (e : CallEvent) (new : FolderSeen) → Strikes e (seen_of past) left new → IsLeft (e ∷ past) new
  struck_left (Looked ok) new struck = same_left (Looked ok) new refl refl struck
  struck_left (Made name true) new struck = made_left name.items struck.given name.items [] (Made name true) new refl (λ v w adds. adds) struck.which (⊎_elim (λ e. inr (inr e)) (λ none. inl none) struck.which) struck.is
  struck_left (Made name false) new struck = made_left name.items struck.given [] [] (Made name false) new refl (λ v w adds. adds) struck.which (inr (inl refl)) struck.is
  struck_left (Wrote f at bytes true) new struck = changed_left f _ (Wrote f at bytes true) new _ refl (λ v w on. on) struck
  struck_left (Wrote f at bytes false) new struck = changed_left f _ (Wrote f at bytes false) new _ refl (λ v w on. on) struck
  struck_left (Shortened f len true) new struck = changed_left f _ (Shortened f len true) new _ refl (λ v w on. on) struck
  struck_left (Shortened f len false) new struck = changed_left f _ (Shortened f len false) new _ refl (λ v w on. on) struck
  struck_left (Lengthened f len true) new struck = changed_left f _ (Lengthened f len true) new _ refl (λ v w on. on) struck
  struck_left (Lengthened f len false) new struck = changed_left f _ (Lengthened f len false) new _ refl (λ v w on. on) struck
  struck_left (Synced f true) new struck = synced_left f new struck
  struck_left (Synced f false) new struck = same_left (Synced f false) new refl (refl, λ done. absurd (false≢true done)) struck
  struck_left (SyncedNames true) new struck = named_left new struck
  struck_left (SyncedNames false) new struck = same_left (SyncedNames false) new refl (refl, λ done. absurd (false≢true done)) struck
  struck_left (Printed text true) new struck = spoken_left text.items (Printed text true) new refl (λ v w speaks. speaks) struck
  struck_left (Printed text false) new struck = same_left (Printed text false) new refl (speaks_none text.items (world_of left)) struck
  struck_left (Found name bytes) new struck = made_left name.items name.items name.items bytes.items (Found name bytes) new refl (λ v w adds. adds) (inl refl) (inr (inr refl)) struck
  struck_left (Recalled text) new struck = spoken_left text.items (Recalled text) new refl (λ v w speaks. speaks) struck
