-- What a program has at hand after another record became current, or none.
use Rattle.std.proofs.Common.{◌≡◌, ◌≢◌, ◌≤◌, ◌<◌, ◌+◌, ◌-◌, ◌∙◌, ℕ, zero, suc, List, [], ◌∷◌, Bool, true, false, cond, eqb, Some, None, refl, sym, ap, subst, length, not, arith}
use Rattle.std.specs.Prelude.{◌||◌, ◌==◌, slice_get}
use Rattle.std.specs.declared.option.Option.{Option}
use Rattle.std.specs.FinSet as set
use Rattle.std.proofs.lemmas.Bool.{and_parts}
use Rattle.std.proofs.lemmas.Bool.Decides.{nat_tests}
use Rattle.std.proofs.lemmas.List.{length-set}
use Rattle.std.proofs.lemmas.Option.{slice_get_within}
use Rattle.dms_desc.specs.Lookups.{structure_of}
use Rattle.dms_desc.specs.Shape.{Shape, Described}
use Rattle.dms_desc_bytes.specs.Finding.{owner_in as owner_of}
use Rattle.dms_locks.specs.Locks.{Locks, has_lock, is_elsewhere}
use Rattle.dms_locks.specs.PlaceLaws.{places_same}
use Rattle.dms_locks.specs.Places.{Place}
use Rattle.dms_model.specs.AtHand.{is_same, is_within, is_without, locks_without, works_without}
use Rattle.dms_model.specs.FitLaws.{get_set_here, get_set_other}
use Rattle.dms_model.specs.Programs.{Area, Program, Work}
use Rattle.dms_model.specs.Session.{area_of, current_of, let_go, lose_within, no_work, or_none, owner_at, with_area, with_current, with_work, work_of}
use Rattle.dms_laws.specs.Made.{IsWellMade}

-- ---- where structures stand

-- the structure with a number is one of these
pub in_range : (desc : Described) (x : ℕ) (s : Shape) → structure_of desc x ≡ Some s → (1 ≤ x) × (x - 1 < length desc.structures)
in_range desc x s here = by (eqb x 0) refl here
  where
    by : (b : Bool) → eqb x 0 ≡ b → cond b None (slice_get desc.structures (x - 1)) ≡ Some s → (1 ≤ x) × (x - 1 < length desc.structures)
    by true e h = absurd (cc)
    by false e h = (grind (arith, nat_tests, e), slice_get_within desc.structures (x - 1) s h)

module _ (desc : Described) (made : IsWellMade desc) where
  -- what a structure stands in is before it
  owner_low : (x : ℕ) → 1 ≤ x → owner_at desc x < x
  owner_low x low = by (structure_of desc x) refl
    where
      by : (o : Option Shape) → structure_of desc x ≡ o → owner_of o < x
      by None h = omega (arith, low)
      by (Some s) h = made.owners x s h

  -- a data set doesn't stand within itself
  pub not_within : (x : ℕ) → 1 ≤ x → is_within desc x x ≡ false
  not_within x low = by (owner_at desc x == x) (owner_at desc (owner_at desc x) == x) refl refl
    where
      first : owner_at desc x < x
      first = owner_low x low

      low_twice : (y : ℕ) → y < x → owner_at desc y < x
      low_twice zero h = omega (arith, low)
      low_twice (suc y) h = omega (arith, owner_low (suc y) (omega arith), h)

      by : (a b : Bool) → (owner_at desc x == x) ≡ a → (owner_at desc (owner_at desc x) == x) ≡ b → (a || b) ≡ false
      by true b e f = absurd (grind (arith, nat_tests, e, first))
      by false true e f = absurd (let l = low_twice (owner_at desc x) first in grind (arith, nat_tests, f, l))
      by false false e f = refl

  -- what stands in something that is lost is lost
  pub within_down : (d x : ℕ) → 1 ≤ d → is_within desc d (owner_at desc x) ≡ true → is_within desc d x ≡ true
  within_down d x low h = by (owner_at desc (owner_at desc x) == d) (owner_at desc (owner_at desc (owner_at desc x)) == d) refl refl h
    where
      last : (a : Bool) → (a || true) ≡ true
      last true = refl
      last false = refl

      by : (a b : Bool) → (owner_at desc (owner_at desc x) == d) ≡ a → (owner_at desc (owner_at desc (owner_at desc x)) == d) ≡ b → (a || b) ≡ true → is_within desc d x ≡ true
      by true b e f k = ap (λ c. (owner_at desc x == d) || c) e ∙ last (owner_at desc x == d)
      by false true e f k = absurd (let z = made.shallow x in grind (arith, nat_tests, f, z, low))
      by false false e f k = absurd (cc)

-- ---- works

without_at : (desc : Described) (d n : ℕ) (ws : List Work) (j m : ℕ) → m ≡ n + j → or_none (slice_get (works_without desc d n ws) j) ≡ cond (is_within desc d m) no_work (or_none (slice_get ws j))
without_at desc d n [] j m is = by (is_within desc d m)
  where
    by : (b : Bool) → no_work ≡ cond b no_work no_work
    by true = refl
    by false = refl
without_at desc d n (w ∷ ws) zero m is = let e : n ≡ m = omega (arith, is) in ap (λ k. cond (is_within desc d k) no_work w) e ∙ by (is_within desc d m)
  where
    by : (b : Bool) → cond b no_work w ≡ cond b no_work w
    by b = refl
without_at desc d n (w ∷ ws) (suc j) m is = without_at desc d (n + 1) ws j m (omega (arith, is))

without_long : (desc : Described) (d n : ℕ) (ws : List Work) → length (works_without desc d n ws) ≡ length ws
without_long desc d n [] = refl
without_long desc d n (w ∷ ws) = ap suc (without_long desc d (n + 1) ws)

apart_places : (x y : ℕ) → 1 ≤ x → 1 ≤ y → x ≢ y → (y - 1 ≡ x - 1 → ⊥)
apart_places x y low low' apart e = apart (omega (arith, low, low', e))

-- the work of a structure that was set, and of another one
pub work_here : (p : Program) (x : ℕ) (w : Work) → x - 1 < length p.works → work_of (with_work p x w) x ≡ w
work_here p x w lt = ap or_none (get_set_here p.works (x - 1) w lt)

pub work_other : (p : Program) (x y : ℕ) (w : Work) → 1 ≤ x → 1 ≤ y → x ≢ y → work_of (with_work p y w) x ≡ work_of p x
work_other p x y w low low' apart = ap or_none (get_set_other p.works (y - 1) (x - 1) w (apart_places x y low low' apart))

-- ---- locks

pub kept_lock : (locks : Locks) (t : Place → Bool) (place : Place) → has_lock (set.retain locks t) place ≡ true → (has_lock locks place ≡ true) × (t place ≡ true)
kept_lock locks t place h = and_parts (has_lock locks place) (t place) (sym (set.contains-retain locks t place (λ x tie. ap t (sym (places_same place x tie)))) ∙ h)

-- ---- a program after another record of a data set became current, or none, and its area is this one

pub same_of : (a b : Option ℕ) → is_same a b ≡ true → a ≡ b
same_of None None h = refl
same_of None (Some b) h = absurd (cc)
same_of (Some a) None h = absurd (cc)
same_of (Some a) (Some b) h = let e : a ≡ b = grind (arith, nat_tests, h) in ap (λ n. Some n) e

-- what a program is, but for what it has at hand and its locks
pub record SameFlags (p q : Program) : Type 0 where
  pub name : q.name ≡ p.name
  pub mode : q.mode ≡ p.mode
  pub in_transaction : q.in_transaction ≡ p.in_transaction
  pub owes_abort : q.owes_abort ≡ p.owes_abort
  pub active : q.active ≡ p.active

pub record Shifts (desc : Described) (d : ℕ) (c : Option ℕ) (a : Option Area) (p q : Program) : Type 0 where
  pub flags : SameFlags p q
  pub long : length q.works ≡ length p.works
  pub current : current_of q d ≡ c
  pub area : area_of q d ≡ a
  -- of the other structures some lose all that it had of them, and of the others it has what it had
  pub lost : ℕ → Bool
  pub here : lost d ≡ false
  pub current_other : (x : ℕ) → 1 ≤ x → x ≢ d → current_of q x ≡ cond (lost x) None (current_of p x)
  pub area_other : (x : ℕ) → 1 ≤ x → x ≢ d → area_of q x ≡ cond (lost x) None (area_of p x)
  -- those that stand in the data set do, where another record is current there; and those that stand in what is lost
  pub within : (x : ℕ) → owner_at desc x ≡ d → lost x ≡ false → current_of p d ≡ c
  pub down : (x : ℕ) → lost (owner_at desc x) ≡ true → lost x ≡ true
  -- it has no new lock, and outside transaction state none on what is lost
  pub fewer : (place : Place) → has_lock q.locks place ≡ true → has_lock p.locks place ≡ true
  pub freed : p.in_transaction ≡ false → (place : Place) → has_lock q.locks place ≡ true → lost place.0 ≡ false

module _ (desc : Described) (made : IsWellMade desc) (d : ℕ) (low : 1 ≤ d) (c : Option ℕ) (p : Program) (lt : d - 1 < length p.works) where
  abbrev moved : Program
  moved = with_work p d (record (work_of p d) { current = c })

  work_left : (x : ℕ) → 1 ≤ x → work_of (lose_within desc d moved) x ≡ cond (is_within desc d x) no_work (work_of moved x)
  work_left x lowx = without_at desc d 1 moved.works (x - 1) x (omega (arith, lowx))

  abbrev now : Option Area → Program → Program
  now a q = with_area q d a

  long_work : (q : Program) (x : ℕ) (w : Work) → length (with_work q x w).works ≡ length q.works
  long_work q x w = length-set q.works (x - 1) w

  pub unmoved : (a : Option Area) → is_same (current_of p d) c ≡ true → Shifts desc d c a p (with_area p d a)
  unmoved a same = record {
    flags = record { name = refl; mode = refl; in_transaction = refl; owes_abort = refl; active = refl };
    long = long_work p d (record (work_of p d) { area = a });
    current = ap (λ (w : Work). w.current) (work_here p d (record (work_of p d) { area = a }) lt) ∙ same_of (current_of p d) c same;
    area = ap (λ (w : Work). w.area) (work_here p d (record (work_of p d) { area = a }) lt);
    lost = λ x. false;
    here = refl;
    current_other = λ x lowx apart. ap (λ (w : Work). w.current) (work_other p x d (record (work_of p d) { area = a }) lowx low apart);
    area_other = λ x lowx apart. ap (λ (w : Work). w.area) (work_other p x d (record (work_of p d) { area = a }) lowx low apart);
    within = λ x own keep. same_of (current_of p d) c same;
    down = λ x h. h;
    fewer = λ place h. h;
    freed = λ out place h. refl;
  }

  lost_cond : {A : Type 0} (b : Bool) (f : Work → A) (w : Work) → f (cond b no_work w) ≡ cond b (f no_work) (f w)
  lost_cond true f w = refl
  lost_cond false f w = refl

  locks_fewer : (place : Place) → has_lock (lose_within desc d moved).locks place ≡ true → has_lock p.locks place ≡ true
  locks_fewer place h = by p.in_transaction h
    where
      by : (b : Bool) → has_lock (cond b p.locks (locks_without desc d p.locks)) place ≡ true → has_lock p.locks place ≡ true
      by true h = h
      by false h = (kept_lock p.locks (is_without desc d) place h).0

  locks_freed : p.in_transaction ≡ false → (place : Place) → has_lock (lose_within desc d moved).locks place ≡ true → is_within desc d place.0 ≡ false
  locks_freed out place h = by p.in_transaction out h
    where
      off : (b : Bool) → not b ≡ true → b ≡ false
      off true k = absurd (cc)
      off false k = refl

      by : (b : Bool) → b ≡ false → has_lock (cond b p.locks (locks_without desc d p.locks)) place ≡ true → is_within desc d place.0 ≡ false
      by true e k = absurd (cc)
      by false e k = off (is_within desc d place.0) (kept_lock p.locks (is_without desc d) place k).1

  unlike_self : (b : Bool) (x : ℕ) → (is_within desc d x) ≡ b → (x ≡ d) → b ≡ false
  unlike_self b x e is = sym e ∙ ap (is_within desc d) is ∙ not_within desc made d low

  owned_within : (x : ℕ) → owner_at desc x ≡ d → is_within desc d x ≡ false → ⊥
  owned_within x own off = by (owner_at desc x == d) (owner_at desc (owner_at desc x) == d) refl off
    where
      by : (u v : Bool) → (owner_at desc x == d) ≡ u → (u || v) ≡ false → ⊥
      by true v e h = absurd (cc)
      by false v e h = grind (arith, nat_tests, e, own)

  lost_moved : (a : Option Area) → Shifts desc d c a p (with_area (lose_within desc d moved) d a)
  lost_moved a =
      let q = lose_within desc d moved in
      let long_q : length q.works ≡ length p.works = without_long desc d 1 moved.works ∙ long_work p d (record (work_of p d) { current = c }) in
      let lt_q : d - 1 < length q.works = subst (λ n. d - 1 < n) (sym long_q) lt in
      let mine : work_of q d ≡ record (work_of p d) { current = c } =
      work_left d low ∙ ap (λ b. cond b no_work (work_of moved d)) (not_within desc made d low) ∙ work_here p d (record (work_of p d) { current = c }) lt in
      let there : (x : ℕ) → 1 ≤ x → x ≢ d → work_of (with_area q d a) x ≡ cond (is_within desc d x) no_work (work_of p x) = λ x lowx apart.
      work_other q x d (record (work_of q d) { area = a }) lowx low apart ∙ work_left x lowx
      ∙ ap (λ w. cond (is_within desc d x) no_work w) (work_other p x d (record (work_of p d) { current = c }) lowx low apart) in
      record {
        flags = record { name = refl; mode = refl; in_transaction = refl; owes_abort = refl; active = refl };
        long = long_work q d (record (work_of q d) { area = a }) ∙ long_q;
        current = ap (λ (w : Work). w.current) (work_here q d (record (work_of q d) { area = a }) lt_q) ∙ ap (λ (w : Work). w.current) mine;
        area = ap (λ (w : Work). w.area) (work_here q d (record (work_of q d) { area = a }) lt_q);
        lost = is_within desc d;
        here = not_within desc made d low;
        current_other = λ x lowx apart. ap (λ (w : Work). w.current) (there x lowx apart) ∙ lost_cond (is_within desc d x) (λ w. w.current) (work_of p x);
        area_other = λ x lowx apart. ap (λ (w : Work). w.area) (there x lowx apart) ∙ lost_cond (is_within desc d x) (λ w. w.area) (work_of p x);
        within = λ x own off. absurd (owned_within x own off);
        down = λ x h. within_down desc made d x low h;
        fewer = locks_fewer;
        freed = locks_freed;
      }

  -- with this current record, and this area
  pub shifts : (a : Option Area) → Shifts desc d c a p (with_area (with_current desc d c p) d a)
  unfolding with_current
  shifts a = by (is_same (current_of p d) c) refl
    where
      by : (b : Bool) → is_same (current_of p d) c ≡ b → Shifts desc d c a p (with_area (cond b p (lose_within desc d moved)) d a)
      by true e = unmoved a e
      by false e = lost_moved a

-- a program with the same works, and no lock that it hadn't
pub record Alike (q r : Program) : Type 0 where
  pub flags : SameFlags q r
  pub long : length r.works ≡ length q.works
  pub current : (x : ℕ) → current_of r x ≡ current_of q x
  pub area : (x : ℕ) → area_of r x ≡ area_of q x
  pub locks : (place : Place) → has_lock r.locks place ≡ true → has_lock q.locks place ≡ true

pub shifts_on : (desc : Described) (d : ℕ) (c : Option ℕ) (a : Option Area) (p q r : Program) → Shifts desc d c a p q → Alike q r → Shifts desc d c a p r
shifts_on desc d c a p q r h k = record {
  flags = record { name = k.flags.name ∙ h.flags.name; mode = k.flags.mode ∙ h.flags.mode; in_transaction = k.flags.in_transaction ∙ h.flags.in_transaction; owes_abort = k.flags.owes_abort ∙ h.flags.owes_abort; active = k.flags.active ∙ h.flags.active };
  long = k.long ∙ h.long;
  current = k.current d ∙ h.current;
  area = k.area d ∙ h.area;
  lost = h.lost;
  here = h.here;
  current_other = λ x low apart. k.current x ∙ h.current_other x low apart;
  area_other = λ x low apart. k.area x ∙ h.area_other x low apart;
  within = h.within;
  down = h.down;
  fewer = λ place l. h.fewer place (k.locks place l);
  freed = λ out place l. h.freed out place (k.locks place l);
}

-- outside transaction state a program that lets go its locks on a data set has none there
pub let_go_none : (q : Program) (d : ℕ) → q.in_transaction ≡ false → (n : ℕ) → has_lock (let_go q d).locks (d, n) ≡ true → ⊥
let_go_none q d out n h = by q.in_transaction out h
  where
    off : (b : Bool) → b ≡ true → not b ≡ true → ⊥
    off true e k = absurd (cc)
    off false e k = absurd (cc)

    by : (b : Bool) → b ≡ false → has_lock (cond b q (record q { locks = set.retain q.locks (is_elsewhere d) })).locks (d, n) ≡ true → ⊥
    by true e k = absurd (cc)
    by false e k = let far = (kept_lock q.locks (is_elsewhere d) (d, n) k).1 in grind (arith, nat_tests, far)
