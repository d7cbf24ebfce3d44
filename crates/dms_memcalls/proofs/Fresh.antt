-- A number that no file has, wherever a stop comes.
use Rattle.std.proofs.Common.{ℕ, ◌+◌, ◌<◌, ◌≤◌, ◌≡◌, ◌≢◌, ◌⊎◌, inl, inr, ⊎_elim, Bool, true, false, IsTrue, List, [], ◌∷◌, ◌++◌, Vec, Some, None, refl, sym, ◌∙◌, ap, subst, arith}
use Rattle.std.proofs.lemmas.Option.{same_Some}
use Rattle.std.proofs.lemmas.Slice.Eq.{bytes_eq-Decides}
use Rattle.std.specs.Prelude.{bytes_eq}
use Rattle.std.specs.declared.option.Option.{Option}
use Rattle.std.specs.declared.alloc.Global.{Global}
use Rattle.std.proofs.lemmas.Bool.{false≢true}
use Rattle.dms_moments.specs.Moments.{Now, Steps}
use Rattle.dms_calls.specs.World.{World, OnFile, MakesFile, Speaks}
use Rattle.dms_memcalls.specs.declared.event.CallEvent.{CallEvent}
use Rattle.dms_memcalls.specs.declared.event.CallEvent.TheVariants.{Looked, Made, Wrote, Shortened, Lengthened, Synced, SyncedNames, Printed, Found, Recalled}
use Rattle.dms_calls.specs.Names.{IsFileName, name_of}
use Rattle.dms_memcalls.specs.Names.{is_name, or_next}
use Rattle.dms_memcalls.specs.NameLaws.{leads_is, leads_made, adds_makes}
use Rattle.dms_memcalls.specs.Folders.{FolderSeen, nothing, world_of}
use Rattle.dms_memcalls.specs.Events.{seen_after}
use Rattle.dms_memcalls.specs.Outcomes.{Adds, EventMakes, WorldMayBeLeft, seen_of, past_of, seen_now, world_now, clock_of}
use Rattle.dms_memcalls.specs.Steady.{seen_push, left_now, stays_now, IsUpToOneMore, steps_more, step_more}

pub record IsFreeHandle (i : ℕ) (w : World) : Type 0 where
  pub bytes : w.bytes i ≡ []
  pub names : (m : List ℕ) → w.names m ≢ Some i

same_or_not : (m n : List ℕ) → (m ≡ n) ⊎ (m ≢ n)
same_or_not m n = by (bytes_eq m n) refl
  where
    by : (b : Bool) → bytes_eq m n ≡ b → (m ≡ n) ⊎ (m ≢ n)
    by true is = inl ((bytes_eq-Decides m n).0 is)
    by false is = inr (λ e. false≢true (sym is ∙ (bytes_eq-Decides m n).1 e))

-- the file that an event touches, where it touches one
abbrev pub touches : FolderSeen → CallEvent → ℕ
touches s (Looked ok) = 0
touches s (Made name ok) = s.count
touches s (Wrote f at bytes ok) = f
touches s (Shortened f len ok) = f
touches s (Lengthened f len ok) = f
touches s (Synced f ok) = 0
touches s (SyncedNames ok) = 0
touches s (Printed bytes ok) = 0
touches s (Found name bytes) = s.count
touches s (Recalled bytes) = 0

-- a number above those of all files that were touched
pub above : List CallEvent → ℕ
above [] = 0
above (e ∷ past) = touches (seen_of past) e + 1 + above past

free_same : (i : ℕ) (v w : World) → w ≡ v → IsFreeHandle i v → IsFreeHandle i w
free_same i v w is free = subst (λ (x : World). IsFreeHandle i x) (sym is) free

free_file : (i f : ℕ) (step : List ℕ → List ℕ → Type 0) (v w : World) → f < i → OnFile f step v w → IsFreeHandle i v → IsFreeHandle i w
free_file i f step v w low on free = record {
  bytes = on.others i (λ e. omega (arith, e, low)) ∙ free.bytes;
  names = λ m is. free.names m (sym (on.names m) ∙ is);
}

free_added : (i n : ℕ) (name bytes : List ℕ) (v w : World) → n < i → Adds name bytes n v w → IsFreeHandle i v → IsFreeHandle i w
free_added i n name bytes v w low adds free = record {
  bytes = adds.others i (λ e. omega (arith, e, low)) ∙ free.bytes;
  names = λ m is. ⊎_elim
      (λ e. ⊎_elim
      (λ same. free.names m (ap v.names e ∙ sym same ∙ ap w.names (sym e) ∙ is))
      (λ new. omega (arith, low, same_Some n i (sym new.1 ∙ ap w.names (sym e) ∙ is)))
      adds.here)
      (λ other. free.names m (sym (adds.names m other) ∙ is))
      (same_or_not m name);
}

free_spoken : (i : ℕ) (text : List ℕ) (v w : World) → Speaks text v w → IsFreeHandle i v → IsFreeHandle i w
free_spoken i text v w speaks free = record { bytes = ap (λ (l : ℕ → List ℕ). l i) speaks.bytes ∙ free.bytes; names = λ m is. free.names m (sym (ap (λ (l : List ℕ → Option ℕ). l m) speaks.names) ∙ is) }

free_step : (i : ℕ) (s : FolderSeen) (e : CallEvent) (v w : World) → touches s e < i → IsFreeHandle i v → EventMakes s e v w → IsFreeHandle i w
free_step i s (Looked ok) v w low free step = free_same i v w step free
free_step i s (Made name ok) v w low free step = free_added i s.count name.items [] v w low step free
free_step i s (Wrote f at bytes ok) v w low free step = free_file i f _ v w low step free
free_step i s (Shortened f len ok) v w low free step = free_file i f _ v w low step free
free_step i s (Lengthened f len ok) v w low free step = free_file i f _ v w low step free
free_step i s (Synced f ok) v w low free step = free_same i v w step.0 free
free_step i s (SyncedNames ok) v w low free step = free_same i v w step.0 free
free_step i s (Printed bytes ok) v w low free step = free_spoken i bytes.items v w step free
free_step i s (Found name bytes) v w low free step = free_added i s.count name.items bytes.items v w low step free
free_step i s (Recalled bytes) v w low free step = free_spoken i bytes.items v w step free

free_of : (past : List CallEvent) (i : ℕ) (w : World) → above past ≤ i → WorldMayBeLeft past w → IsFreeHandle i w
unfolding above
free_of [] i w le may = free_same i (world_of nothing) w may (record { bytes = refl; names = λ m is. omega (arith, (leads_is 0 _ m i is).0) })
free_of (e ∷ past) i w le may =
    let low : above past ≤ i = omega (arith, le) in
    free_step i (seen_of past) e may.1.0 w (omega (arith, le)) (free_of past i may.1.0 low may.1.1) may.1.2

pub free_now : (events : List CallEvent) (w : World) → Now (clock_of events) w → IsFreeHandle (above (past_of events)) w
free_now events w now = free_of (past_of events) (above (past_of events)) w (omega arith) (left_now events w now)

-- nothing was made, under a number that is free
makes_none : (i : ℕ) (name : List ℕ) (w : World) → IsFreeHandle i w → MakesFile name i w w
makes_none i name w free = record { empty = free.bytes; others = λ j other. refl; free = free.names; here = inl refl; names = λ m other. refl; said = refl }

-- no event
pub made_nothing : (events : List CallEvent) (name : List ℕ) → (i : ℕ) × Steps (MakesFile name i) (clock_of events) (clock_of events) × MakesFile name i (world_now events) (world_now events)
made_nothing events name =
    let i = above (past_of events) in (
      i,
      record {
        follows = λ w now. (w, now, makes_none i name w (free_now events w now));
        runs = record { later = omega arith; only = λ t w le left. inl left; keeps = λ t w le left. left };
      },
      makes_none i name (world_now events) (free_now events (world_now events) (stays_now events)),
    )

-- no event
pub made_none : (events all : List CallEvent) (name : List ℕ) → all ≡ events → (i : ℕ) × Steps (MakesFile name i) (clock_of events) (clock_of all) × MakesFile name i (world_now events) (world_now all)
made_none events all name same = subst (λ (l : List CallEvent). (i : ℕ) × Steps (MakesFile name i) (clock_of events) (clock_of l) × MakesFile name i (world_now events) (world_now l)) (sym same) (made_nothing events name)

-- one more file, of this name or of none
pub made_one : (events all : List CallEvent) (v : Vec ℕ Global) (done : Bool) (name : List ℕ) → v.items ≡ name → all ≡ events ++ Made v done ∷ []
    → Steps (MakesFile name (seen_now events).count) (clock_of events) (clock_of all) × MakesFile name (seen_now events).count (world_now events) (world_now all)
made_one events all v done name is more =
    let i = (seen_now events).count in
    subst (λ (n : List ℕ). Steps (MakesFile n i) (clock_of events) (clock_of all) × MakesFile n i (world_now events) (world_now all)) is (
      steps_more events all (Made v done) (MakesFile v.items i) more (λ x y step. adds_makes v.items i x y step),
      step_more events all (Made v done) (MakesFile v.items i) more (λ x y step. adds_makes v.items i x y step),
    )

-- a file that was to be made, of which nothing was kept, or one more event
pub made_grew : (events all : List CallEvent) (v : Vec ℕ Global) (done : Bool) (name : List ℕ) → v.items ≡ name → IsUpToOneMore events (Made v done) all
    → (i : ℕ) × Steps (MakesFile name i) (clock_of events) (clock_of all) × MakesFile name i (world_now events) (world_now all)
made_grew events all v done name is grew = ⊎_elim
    (λ same. made_none events all name same)
    (λ more. let made = made_one events all v done name is more in ((seen_now events).count, made.0, made.1))
    grew

-- the name of a database file is one
full_name : (name : List ℕ) → IsFileName name → is_name name name ≡ true
unfolding name_of
full_name name named = subst (λ (l : List ℕ). is_name l l ≡ true) (sym named.is) ((bytes_eq-Decides (name_of named.number) (name_of named.number)).1 refl)

-- a file that was made, at a name that led to none
pub made_here : (events all : List CallEvent) (v : Vec ℕ Global) (done : Bool) (name : List ℕ) → all ≡ events ++ Made v done ∷ [] → IsTrue done → v.items ≡ name → IsFileName name → (world_now events).names name ≡ None → (world_now all).names name ≡ Some (seen_now events).count
made_here events all v done name more yes' is named none = ap (λ (l : List CallEvent). (world_now l).names name) more ∙ ap (λ (s : FolderSeen). (world_of s).names name) (seen_push events (Made v done)) ∙ by done yes'
  where
    by : (b : Bool) → IsTrue b → (world_of (seen_after (Made v b) (seen_now events))).names name ≡ Some (seen_now events).count
    by true now =
        let s = seen_now events in
        leads_made s.count s.names v.items name ∙ ap (λ (o : Option ℕ). or_next o s.count (is_name v.items name)) none ∙ ap (λ (l : List ℕ). or_next None s.count (is_name l name)) is ∙ ap (λ (b : Bool). or_next None s.count b) (full_name name named)
    by false now = absurd (false≢true now)

-- what is said of a file that was to be made
pub made_said : (events all : List CallEvent) (v : Vec ℕ Global) (done : Bool) → IsUpToOneMore events (Made v done) all → (seen_now all).said ≡ (seen_now events).said
made_said events all v done grew = ⊎_elim (λ same. ap (λ (l : List CallEvent). (seen_now l).said) same) (λ more. ap (λ (l : List CallEvent). (seen_now l).said) more ∙ ap (λ (s : FolderSeen). s.said) (seen_push events (Made v done))) grew
