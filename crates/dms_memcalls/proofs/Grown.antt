-- What is seen after one more event, or after none.
use Rattle.std.proofs.Common.{ℕ, zero, suc, ◌+◌, ◌<◌, ◌≤◌, ◌≡◌, inl, inr, ⊎_elim, Bool, true, false, IsTrue, List, [], ◌∷◌, ◌++◌, length, take, drop, replicate, ◌-◌, Vec, refl, sym, ◌∙◌, ap, subst, arith, if◌then◌else◌}
use Rattle.std.specs.Prelude.{Ok, Err, OnErr, is_ok}
use Rattle.std.specs.declared.result.Result.{Result}
use Rattle.std.specs.declared.alloc.Global.{Global}
use Rattle.std.proofs.lemmas.List.{take_all, drop_all, take-append-le, append-nil}
use Rattle.std.proofs.lemmas.Bool.{cases_lt, false≢true}
use Rattle.dms_moments.specs.Moments.{Steps}
use Rattle.dms_site.specs.Files.{Files, range, with_file, overlay_bytes, pad_zeros, Torn, Cut}
use Rattle.dms_site.specs.Laws.{with_file_here, with_file_other, torn_refl}
use Rattle.dms_calls.specs.World.{World, OnFile, Speaks}
use Rattle.dms_memcalls.specs.declared.event.CallEvent.{CallEvent}
use Rattle.dms_memcalls.specs.declared.event.CallEvent.TheVariants.{Looked, Made, Wrote, Shortened, Lengthened, Synced, SyncedNames, Printed, Found, Recalled}
use Rattle.dms_memcalls.specs.Folders.{FolderSeen, nothing, with_made, with_bytes, AlikeFolders, world_of}
use Rattle.dms_memcalls.specs.Events.{seen_after}
use Rattle.dms_memcalls.specs.Outcomes.{seen_now, world_now, clock_of}
use Rattle.dms_memcalls.specs.Steady.{IsUpToOneMore, seen_push, steps_grew, step_grew, on_file_same, speaks_none}

pub alike_same : (a b : FolderSeen) → a ≡ b → AlikeFolders a b
alike_same a b is = record {
  count = ap (λ (s : FolderSeen). s.count) is;
  names = λ k low. ap (λ (s : FolderSeen). s.names k) is;
  bytes = ap (λ (s : FolderSeen). s.bytes) is;
  said = ap (λ (s : FolderSeen). s.said) is;
}

pub nothing_seen : (events : List CallEvent) → events ≡ [] → nothing ≡ seen_now events
unfolding seen_now
nothing_seen events none = sym (ap seen_now none)

made_alike : (a b : FolderSeen) (name bytes : List ℕ) → AlikeFolders a b → AlikeFolders (with_made a name bytes) (with_made b name bytes)
made_alike a b name bytes alike = record {
  count = ap (λ (n : ℕ). n + 1) alike.count;
  names = names;
  bytes = λ i. with_file (alike.bytes i) (alike.count i) bytes;
  said = alike.said;
}
  where
    names : (k : ℕ) → k < b.count + 1 → with_file a.names a.count name k ≡ with_file b.names b.count name k
    names k low = elim (cases_lt k b.count) [
      | inl before ↦
          with_file_other a.names a.count name k (λ e. omega (arith, e, before, alike.count)) ∙ alike.names k before ∙ sym (with_file_other b.names b.count name k (λ e. omega (arith, e, before)))
      | inr last ↦
          let e : k ≡ b.count = omega (arith, low, last) in
          let d : k ≡ a.count = omega (arith, e, alike.count) in
          ap (λ (n : ℕ). with_file a.names a.count name n) d ∙ with_file_here a.names a.count name ∙ sym (with_file_here b.names b.count name) ∙ ap (λ (n : ℕ). with_file b.names b.count name n) (sym e)
    ]

bytes_alike : (a b : FolderSeen) (f : ℕ) (g : List ℕ → List ℕ) → AlikeFolders a b → AlikeFolders (with_bytes a f (g (a.bytes f))) (with_bytes b f (g (b.bytes f)))
bytes_alike a b f g alike = record {
  count = alike.count;
  names = alike.names;
  bytes = λ i. with_file (alike.bytes i) f (g (alike.bytes i f));
  said = alike.said;
}

said_alike : (a b : FolderSeen) (text : List ℕ) → AlikeFolders a b → AlikeFolders (record a { said = a.said ++ text }) (record b { said = b.said ++ text })
said_alike a b text alike = record { count = alike.count; names = alike.names; bytes = alike.bytes; said = ap (λ (l : List ℕ). l ++ text) alike.said }

-- an event does the same to folders that are the same
pub alike_after : (e : CallEvent) (a b : FolderSeen) → AlikeFolders a b → AlikeFolders (seen_after e a) (seen_after e b)
alike_after (Looked ok) a b alike = alike
alike_after (Made name ok) a b alike = made_alike a b _ _ alike
alike_after (Wrote f at bytes true) a b alike = bytes_alike a b f (λ l. overlay_bytes at bytes.items l) alike
alike_after (Wrote f at bytes false) a b alike = alike
alike_after (Shortened f len true) a b alike = bytes_alike a b f (λ l. take len l) alike
alike_after (Shortened f len false) a b alike = alike
alike_after (Lengthened f len true) a b alike = bytes_alike a b f (λ l. overlay_bytes len [] l) alike
alike_after (Lengthened f len false) a b alike = alike
alike_after (Synced f ok) a b alike = alike
alike_after (SyncedNames ok) a b alike = alike
alike_after (Printed bytes true) a b alike = said_alike a b bytes.items alike
alike_after (Printed bytes false) a b alike = alike
alike_after (Found name bytes) a b alike = made_alike a b _ _ alike
alike_after (Recalled bytes) a b alike = said_alike a b bytes.items alike

pub alike_kept : (events all : List CallEvent) (e : CallEvent) (old new : FolderSeen) → AlikeFolders old (seen_now events) → new ≡ seen_after e old → all ≡ events ++ e ∷ [] → AlikeFolders new (seen_now all)
alike_kept events all e old new was now more =
    subst (λ (s : FolderSeen). AlikeFolders s (seen_now all)) (sym now) (subst (λ (s : FolderSeen). AlikeFolders (seen_after e old) s) (sym (ap seen_now more ∙ seen_push events e)) (alike_after e old (seen_now events) was))

-- what was pushed where there was room
pub surely_pushed : {T E : Type 0} (r : Result T E) (room len : ℕ) (xs ys zs : List CallEvent) → OnErr r (room ≤ len) → len < room → zs ≡ (if is_ok r then xs else ys) → zs ≡ xs
surely_pushed (Ok x) room len xs ys zs full more is = is
surely_pushed (Err e) room len xs ys zs full more is = absurd (omega (arith, full, more))

pub any_err : {T E P : Type 0} (r : Result T E) → P → OnErr r P
any_err (Ok x) p = tt
any_err (Err e) p = p

-- a call that looks, or syncs
module _ (events all : List CallEvent) (e : CallEvent) (grew : IsUpToOneMore events e all) where
  pub grew_seen : seen_after e (seen_now events) ≡ seen_now events → seen_now all ≡ seen_now events
  grew_seen same = ⊎_elim (λ is. ap seen_now is) (λ more. ap seen_now more ∙ seen_push events e ∙ same) grew

  pub grew_world : seen_after e (seen_now events) ≡ seen_now events → world_now all ≡ world_now events
  grew_world same = ap world_of (grew_seen same)

-- a write
module _ (events all : List CallEvent) (f at : ℕ) (v : Vec ℕ Global) (done : Bool) (bytes : List ℕ) (is : v.items ≡ bytes) where
  pub wrote_torn : IsUpToOneMore events (Wrote f at v done) all → OnFile f (Torn at (length bytes)) (world_now events) (world_now all)
  wrote_torn grew = subst (λ (l : List ℕ). OnFile f (Torn at (length l)) (world_now events) (world_now all)) is
      (step_grew events all (Wrote f at v done) (OnFile f (Torn at (length v.items))) grew (on_file_same f _ (torn_refl at (length v.items))) (λ x y step. step))

  pub wrote_moments : IsUpToOneMore events (Wrote f at v done) all → Steps (OnFile f (Torn at (length bytes))) (clock_of events) (clock_of all)
  wrote_moments grew = subst (λ (l : List ℕ). Steps (OnFile f (Torn at (length l))) (clock_of events) (clock_of all)) is
      (steps_grew events all (Wrote f at v done) (OnFile f (Torn at (length v.items))) grew (on_file_same f _ (torn_refl at (length v.items))) (λ x y step. step))

  pub wrote_done : all ≡ events ++ Wrote f at v done ∷ [] → IsTrue done → (world_now all).bytes f ≡ overlay_bytes at (take (length bytes) bytes) ((world_now events).bytes f)
  wrote_done more yes' =
      ap (λ (l : List CallEvent). (seen_now l).bytes f) more ∙ ap (λ (s : FolderSeen). s.bytes f) (seen_push events (Wrote f at v done)) ∙ by done yes'
    where
      by : (b : Bool) → IsTrue b → (seen_after (Wrote f at v b) (seen_now events)).bytes f ≡ overlay_bytes at (take (length bytes) bytes) ((seen_now events).bytes f)
      by true now = with_file_here (seen_now events).bytes f _ ∙ ap (λ (l : List ℕ). overlay_bytes at l ((seen_now events).bytes f)) (is ∙ sym (take_all (length bytes) bytes (omega arith)))
      by false now = absurd (false≢true now)

-- printing
module _ (events all : List CallEvent) (v : Vec ℕ Global) (done : Bool) (bytes : List ℕ) (is : v.items ≡ bytes) where
  pub spoke : IsUpToOneMore events (Printed v done) all → Speaks bytes (world_now events) (world_now all)
  spoke grew = subst (λ (l : List ℕ). Speaks l (world_now events) (world_now all)) is
      (step_grew events all (Printed v done) (Speaks v.items) grew (speaks_none v.items) (λ x y step. step))

  pub spoke_moments : IsUpToOneMore events (Printed v done) all → Steps (Speaks bytes) (clock_of events) (clock_of all)
  spoke_moments grew = subst (λ (l : List ℕ). Steps (Speaks l) (clock_of events) (clock_of all)) is
      (steps_grew events all (Printed v done) (Speaks v.items) grew (speaks_none v.items) (λ x y step. step))

  pub spoke_done : all ≡ events ++ Printed v done ∷ [] → IsTrue done → (world_now all).said ≡ (world_now events).said ++ take (length bytes) bytes
  spoke_done more yes' =
      ap (λ (l : List CallEvent). (seen_now l).said) more ∙ ap (λ (s : FolderSeen). s.said) (seen_push events (Printed v done)) ∙ by done yes'
    where
      by : (b : Bool) → IsTrue b → (seen_after (Printed v b) (seen_now events)).said ≡ (seen_now events).said ++ take (length bytes) bytes
      by true now = ap (λ (l : List ℕ). (seen_now events).said ++ l) (is ∙ sym (take_all (length bytes) bytes (omega arith)))
      by false now = absurd (false≢true now)

-- a length that a file is given
padded_long : (file : List ℕ) (len : ℕ) → length file ≤ len → take len (pad_zeros file len) ≡ overlay_bytes len [] file
unfolding pad_zeros overlay_bytes
padded_long file len le =
    let front = take len (pad_zeros file len) in
    sym (ap (λ (l : List ℕ). front ++ [] ++ l) (drop_all (len + 0) file (omega (arith, le))) ∙ append-nil (front ++ []) ∙ append-nil front)

padded_short : (file : List ℕ) (len : ℕ) → len ≤ length file → take len (pad_zeros file len) ≡ take len file
unfolding pad_zeros
padded_short file len le = take-append-le len file (replicate (len - length file) 0) le

module _ (events all : List CallEvent) (f len : ℕ) (done : Bool) where
  pub cut_done : all ≡ events ++ Shortened f len done ∷ [] → IsTrue done → len ≤ length ((world_now events).bytes f) → (world_now all).bytes f ≡ take len (pad_zeros ((world_now events).bytes f) len)
  cut_done more yes' le =
      ap (λ (l : List CallEvent). (seen_now l).bytes f) more ∙ ap (λ (s : FolderSeen). s.bytes f) (seen_push events (Shortened f len done)) ∙ by done yes'
    where
      by : (b : Bool) → IsTrue b → (seen_after (Shortened f len b) (seen_now events)).bytes f ≡ take len (pad_zeros ((seen_now events).bytes f) len)
      by true now = with_file_here (seen_now events).bytes f _ ∙ sym (padded_short ((seen_now events).bytes f) len le)
      by false now = absurd (false≢true now)

  pub grown_done : all ≡ events ++ Lengthened f len done ∷ [] → IsTrue done → length ((world_now events).bytes f) ≤ len → (world_now all).bytes f ≡ take len (pad_zeros ((world_now events).bytes f) len)
  grown_done more yes' le =
      ap (λ (l : List CallEvent). (seen_now l).bytes f) more ∙ ap (λ (s : FolderSeen). s.bytes f) (seen_push events (Lengthened f len done)) ∙ by done yes'
    where
      by : (b : Bool) → IsTrue b → (seen_after (Lengthened f len b) (seen_now events)).bytes f ≡ take len (pad_zeros ((seen_now events).bytes f) len)
      by true now = with_file_here (seen_now events).bytes f _ ∙ sym (padded_long ((seen_now events).bytes f) len le)
      by false now = absurd (false≢true now)

  pub equal_done : all ≡ events ++ Looked done ∷ [] → len ≡ length ((world_now events).bytes f) → (world_now all).bytes f ≡ take len (pad_zeros ((world_now events).bytes f) len)
  equal_done more e =
      ap (λ (l : List CallEvent). (seen_now l).bytes f) more ∙ ap (λ (s : FolderSeen). s.bytes f) (seen_push events (Looked done))
      ∙ sym (padded_short ((seen_now events).bytes f) len (omega (arith, e)) ∙ take_all len ((seen_now events).bytes f) (omega (arith, e)))

-- the steps of a call that gives a file a length
module _ (events all : List CallEvent) (f len : ℕ) (done : Bool) where
  pub cut_step : IsUpToOneMore events (Shortened f len done) all → OnFile f (Cut len) (world_now events) (world_now all)
  cut_step grew = step_grew events all (Shortened f len done) (OnFile f (Cut len)) grew (on_file_same f (Cut len) (λ l. inl refl)) (λ x y step. step)

  pub cut_moments : IsUpToOneMore events (Shortened f len done) all → Steps (OnFile f (Cut len)) (clock_of events) (clock_of all)
  cut_moments grew = steps_grew events all (Shortened f len done) (OnFile f (Cut len)) grew (on_file_same f (Cut len) (λ l. inl refl)) (λ x y step. step)

  pub grown_step : IsUpToOneMore events (Lengthened f len done) all → OnFile f (Torn len 0) (world_now events) (world_now all)
  grown_step grew = step_grew events all (Lengthened f len done) (OnFile f (Torn len 0)) grew (on_file_same f (Torn len 0) (torn_refl len 0)) (λ x y step. step)

  pub grown_moments : IsUpToOneMore events (Lengthened f len done) all → Steps (OnFile f (Torn len 0)) (clock_of events) (clock_of all)
  grown_moments grew = steps_grew events all (Lengthened f len done) (OnFile f (Torn len 0)) grew (on_file_same f (Torn len 0) (torn_refl len 0)) (λ x y step. step)

  equal_leads : (step : List ℕ → List ℕ → Type 0) → ((l : List ℕ) → step l l) → (v w : World) → w ≡ v → OnFile f step v w
  equal_leads step refls v w is = subst (λ (x : World). OnFile f step v x) (sym is) (on_file_same f step refls v)

  pub equal_step : (step : List ℕ → List ℕ → Type 0) → ((l : List ℕ) → step l l) → IsUpToOneMore events (Looked done) all → OnFile f step (world_now events) (world_now all)
  equal_step step refls grew = step_grew events all (Looked done) (OnFile f step) grew (on_file_same f step refls) (equal_leads step refls)

  pub equal_moments : (step : List ℕ → List ℕ → Type 0) → ((l : List ℕ) → step l l) → IsUpToOneMore events (Looked done) all → Steps (OnFile f step) (clock_of events) (clock_of all)
  equal_moments step refls grew = steps_grew events all (Looked done) (OnFile f step) grew (on_file_same f step refls) (equal_leads step refls)

take_front : (n : ℕ) (xs : List ℕ) → take (length (take n xs)) xs ≡ take n xs
take_front zero xs = refl
take_front (suc n) [] = refl
take_front (suc n) (x ∷ xs) = ap (λ (l : List ℕ). x ∷ l) (take_front n xs)

-- a read that gives all that stands there
pub range_front : (at n : ℕ) (file : List ℕ) → range at (length (range at n file)) file ≡ range at n file
unfolding range
range_front at n file = take_front n (drop at file)

-- names that are copied one by one
pub names_on : (old new names : Files) (n : ℕ) (name : List ℕ) → ((k : ℕ) → k < n → old k ≡ names k) → new ≡ with_file old n name → name ≡ names n → (k : ℕ) → k < n + 1 → new k ≡ names k
names_on old new names n name below now is k low = elim (cases_lt k n) [
  | inl before ↦ ap (λ (f : Files). f k) now ∙ with_file_other old n name k (λ e. omega (arith, e, before)) ∙ below k before
  | inr last ↦ let e : k ≡ n = omega (arith, low, last) in ap (λ (f : Files). f k) now ∙ ap (λ (j : ℕ). with_file old n name j) e ∙ with_file_here old n name ∙ is ∙ ap names (sym e)
]
