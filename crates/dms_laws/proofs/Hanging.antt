-- What a program has at hand hangs together with the database after another record became current, or none.
use Rattle.std.proofs.Common.{◌≡◌, ◌≢◌, ◌≤◌, ◌<◌, ◌-◌, ◌∙◌, ℕ, zero, suc, List, [], ◌∷◌, Bool, true, false, cond, Some, None, refl, sym, ap, subst, length, map, arith}
use Rattle.std.specs.Prelude.{◌==◌, IsTrue, is_some, slice_get, slice_set}
use Rattle.std.specs.declared.option.Option.{Option}
use Rattle.std.specs.FinMap.{get}
use Rattle.std.proofs.lemmas.Bool.Decides.{nat_tests}
use Rattle.std.proofs.lemmas.List.{length-set}
use Rattle.dms_base.specs.declared.value.Value.{Value}
use Rattle.dms_desc.specs.declared.structure.Item.{Item}
use Rattle.dms_desc.specs.Lookups.{items_of, structure_of}
use Rattle.dms_desc.specs.Shape.{Shape, Described}
use Rattle.dms_desc.specs.declared.bound.Bound.{Bound}
use Rattle.dms_desc.specs.declared.bound.Bound.TheVariants.{At as AtMember}
use Rattle.dms_model.specs.Valid.{is_data_set}
use Rattle.dms_locks.specs.Locks.{is_elsewhere, without_set}
use Rattle.dms_locks.specs.Places.{Place}
use Rattle.dms_model.specs.Db.{Db}
use Rattle.dms_model.specs.Fitting.{IsDataSet}
use Rattle.dms_model.specs.Programs.{Area, New, Old, Program, Work}
use Rattle.dms_model.specs.declared.spot.Spot.{Spot}
use Rattle.dms_model.specs.declared.verb.Path.{Path}
use Rattle.dms_model.specs.Session.{area_of, create_area, current_of, found_in, found_program, holds, let_go, moves, or_none, owner_at, owner_for, path_of, with_area, with_current, with_found, with_position, work_of}
use Rattle.dms_laws.specs.Coherent.{IsAtHand}
use Rattle.dms_laws.specs.Made.{IsWellMade}
use Rattle.dms_laws.proofs.Shifts.{Alike, Shifts, in_range, kept_lock, let_go_none, shifts, shifts_on}

-- ---- what a program has at hand, whatever its state and locks

pub record Hangs (desc : Described) (db : Db) (p : Program) : Type 0 where
  pub works : length p.works ≡ length desc.structures
  pub current : (d n : ℕ) → 1 ≤ d → current_of p d ≡ Some n → is_some (get db.records (d, n)) ≡ true
  pub made : (d o : ℕ) (values : List Value) → 1 ≤ d → area_of p d ≡ Some (New values o) → (current_of p d ≡ None) × (owner_for desc p d ≡ Some o)
  pub copied : (d : ℕ) (values : List Value) → 1 ≤ d → area_of p d ≡ Some (Old values) → is_some (current_of p d) ≡ true
  pub area : (d n : ℕ) → 1 ≤ d → current_of p d ≡ Some n → is_some (area_of p d) ≡ true

pub hangs_of : (desc : Described) (db mark : Db) (p : Program) → IsAtHand desc db mark p → Hangs desc db p
hangs_of desc db mark p h = record { works = h.works; current = h.current; made = h.made; copied = h.copied; area = h.area }

-- every record that stood stands
abbrev pub StandStill : Db → Db → Type 0
StandStill db new = (place : Place) → is_some (get db.records place) ≡ true → is_some (get new.records place) ≡ true

pub hangs_still : (desc : Described) (db new : Db) (p : Program) → StandStill db new → Hangs desc db p → Hangs desc new p
hangs_still desc db new p still h = record { works = h.works; current = λ d n low is. still (d, n) (h.current d n low is); made = h.made; copied = h.copied; area = h.area }

-- a program that has the same at hand
pub owner_same : (desc : Described) (q r : Program) → ((x : ℕ) → current_of r x ≡ current_of q x) → (x : ℕ) → owner_for desc r x ≡ owner_for desc q x
owner_same desc q r same x = by (owner_at desc x == 0)
  where
    by : (b : Bool) → cond b (Some 0) (current_of r (owner_at desc x)) ≡ cond b (Some 0) (current_of q (owner_at desc x))
    by true = refl
    by false = same (owner_at desc x)

pub rehang : (desc : Described) (db : Db) (q r : Program) → length r.works ≡ length q.works → ((x : ℕ) → current_of r x ≡ current_of q x) → ((x : ℕ) → area_of r x ≡ area_of q x) → Hangs desc db q → Hangs desc db r
rehang desc db q r long current area h = record {
  works = long ∙ h.works;
  current = λ d n low is. h.current d n low (sym (current d) ∙ is);
  made = λ d o values low is. let two = h.made d o values low (sym (area d) ∙ is) in (current d ∙ two.0, owner_same desc q r current d ∙ two.1);
  copied = λ d values low is. ap is_some (current d) ∙ h.copied d values low (sym (area d) ∙ is);
  area = λ d n low is. ap is_some (area d) ∙ h.area d n low (sym (current d) ∙ is);
}

-- outside transaction state it locks at most its current records
abbrev pub Outside : Program → Type 0
Outside r = r.in_transaction ≡ false → (x n : ℕ) → 1 ≤ x → holds r x (Some n) ≡ true → current_of r x ≡ Some n

-- ---- after another record became current, or none

module _ (desc : Described) (made : IsWellMade desc) (d : ℕ) (low : 1 ≤ d) (c : Option ℕ) (a : Option Area) (p q : Program) (h : Shifts desc d c a p q) where
  kept : (x : ℕ) → 1 ≤ x → x ≢ d → (o : Option ℕ) → cond (h.lost x) None (current_of p x) ≡ o → is_some o ≡ true → (h.lost x ≡ false) × (current_of p x ≡ o)
  kept x lowx apart o is some = by (h.lost x) is
    where
      by : (b : Bool) → cond b None (current_of p x) ≡ o → (b ≡ false) × (current_of p x ≡ o)
      by true e = absurd (let none = ap is_some e in cc)
      by false e = (refl, e)

  kept_area : (x : ℕ) → (o : Option Area) → cond (h.lost x) None (area_of p x) ≡ o → is_some o ≡ true → (h.lost x ≡ false) × (area_of p x ≡ o)
  kept_area x o is some = by (h.lost x) is
    where
      by : (b : Bool) → cond b None (area_of p x) ≡ o → (b ≡ false) × (area_of p x ≡ o)
      by true e = absurd (let none = ap is_some e in cc)
      by false e = (refl, e)

  -- of a structure that isn't lost the owner is still the same
  owner_kept : (x : ℕ) → 1 ≤ x → h.lost x ≡ false → owner_for desc q x ≡ owner_for desc p x
  owner_kept x lowx off = by (owner_at desc x == 0) refl
    where
      y : ℕ
      y = owner_at desc x

      not_lost : (b : Bool) → h.lost y ≡ b → b ≡ false
      not_lost true e = let yes = h.down x e in absurd (cc)
      not_lost false e = refl

      here : (b : Bool) → (y == d) ≡ b → (y == 0) ≡ false → current_of q y ≡ current_of p y
      here true e some =
          let is : y ≡ d = grind (arith, nat_tests, e) in
          ap (current_of q) is ∙ h.current ∙ sym (h.within x is off) ∙ sym (ap (current_of p) is)
      here false e some = h.current_other y (grind (arith, nat_tests, some)) (λ is. grind (arith, nat_tests, e, is)) ∙ ap (λ b. cond b None (current_of p y)) (not_lost (h.lost y) refl)

      by : (b : Bool) → (y == 0) ≡ b → cond b (Some 0) (current_of q y) ≡ cond b (Some 0) (current_of p y)
      by true e = refl
      by false e = here (y == d) refl e

  module _ (db new : Db) (hang : Hangs desc db p) (stand : (x n : ℕ) → 1 ≤ x → x ≢ d → current_of p x ≡ Some n → is_some (get new.records (x, n)) ≡ true) (here : (n : ℕ) → c ≡ Some n → is_some (get new.records (d, n)) ≡ true)
      (news : (o : ℕ) (values : List Value) → a ≡ Some (New values o) → (c ≡ None) × (owner_for desc p d ≡ Some o)) (olds : (values : List Value) → a ≡ Some (Old values) → is_some c ≡ true) (both : (n : ℕ) → c ≡ Some n → is_some a ≡ true) where
    shifted_current : (x n : ℕ) → 1 ≤ x → current_of q x ≡ Some n → is_some (get new.records (x, n)) ≡ true
    shifted_current x n lowx is = by (x == d) refl
      where
        by : (b : Bool) → (x == d) ≡ b → is_some (get new.records (x, n)) ≡ true
        by true e = let same : x ≡ d = grind (arith, nat_tests, e) in ap (λ y. is_some (get new.records (y, n))) same ∙ here n (sym (ap (current_of q) same ∙ h.current) ∙ is)
        by false e =
            let apart : (x ≡ d → ⊥) = λ is. grind (arith, nat_tests, e, is) in
            stand x n lowx apart (kept x lowx apart (Some n) (sym (h.current_other x lowx apart) ∙ is) refl).1

    shifted_made : (x o : ℕ) (values : List Value) → 1 ≤ x → area_of q x ≡ Some (New values o) → (current_of q x ≡ None) × (owner_for desc q x ≡ Some o)
    shifted_made x o values lowx is = by (x == d) refl
      where
        by : (b : Bool) → (x == d) ≡ b → (current_of q x ≡ None) × (owner_for desc q x ≡ Some o)
        by true e =
            let same : x ≡ d = grind (arith, nat_tests, e) in
            let two = news o values (sym (ap (area_of q) same ∙ h.area) ∙ is) in
            (ap (current_of q) same ∙ h.current ∙ two.0, ap (owner_for desc q) same ∙ owner_kept d low h.here ∙ two.1)
        by false e =
            let apart : (x ≡ d → ⊥) = λ is. grind (arith, nat_tests, e, is) in
            let k = kept_area x (Some (New values o)) (sym (h.area_other x lowx apart) ∙ is) refl in
            let two = hang.made x o values lowx k.1 in
            (h.current_other x lowx apart ∙ ap (λ b. cond b None (current_of p x)) k.0 ∙ two.0, owner_kept x lowx k.0 ∙ two.1)

    shifted_copied : (x : ℕ) (values : List Value) → 1 ≤ x → area_of q x ≡ Some (Old values) → is_some (current_of q x) ≡ true
    shifted_copied x values lowx is = by (x == d) refl
      where
        by : (b : Bool) → (x == d) ≡ b → is_some (current_of q x) ≡ true
        by true e =
            let same : x ≡ d = grind (arith, nat_tests, e) in
            ap is_some (ap (current_of q) same ∙ h.current) ∙ olds values (sym (ap (area_of q) same ∙ h.area) ∙ is)
        by false e =
            let apart : (x ≡ d → ⊥) = λ is. grind (arith, nat_tests, e, is) in
            let k = kept_area x (Some (Old values)) (sym (h.area_other x lowx apart) ∙ is) refl in
            ap is_some (h.current_other x lowx apart ∙ ap (λ b. cond b None (current_of p x)) k.0) ∙ hang.copied x values lowx k.1

    shifted_area : (x n : ℕ) → 1 ≤ x → current_of q x ≡ Some n → is_some (area_of q x) ≡ true
    shifted_area x n lowx is = by (x == d) refl
      where
        by : (b : Bool) → (x == d) ≡ b → is_some (area_of q x) ≡ true
        by true e =
            let same : x ≡ d = grind (arith, nat_tests, e) in
            ap is_some (ap (area_of q) same ∙ h.area) ∙ both n (sym (ap (current_of q) same ∙ h.current) ∙ is)
        by false e =
            let apart : (x ≡ d → ⊥) = λ is. grind (arith, nat_tests, e, is) in
            let k = kept x lowx apart (Some n) (sym (h.current_other x lowx apart) ∙ is) refl in
            ap is_some (h.area_other x lowx apart ∙ ap (λ b. cond b None (area_of p x)) k.0) ∙ hang.area x n lowx k.1

    pub shifted : Hangs desc new q
    shifted = record { works = h.long ∙ hang.works; current = shifted_current; made = shifted_made; copied = shifted_copied; area = shifted_area }

  -- it does so after it, where it does in the data set
  pub shifted_outside : Outside p → (p.in_transaction ≡ false → (n : ℕ) → holds q d (Some n) ≡ true → c ≡ Some n) → Outside q
  shifted_outside out mine off x n lowx l = by (x == d) refl
    where
      away : p.in_transaction ≡ false
      away = sym h.flags.in_transaction ∙ off

      by : (b : Bool) → (x == d) ≡ b → current_of q x ≡ Some n
      by true e =
          let same : x ≡ d = grind (arith, nat_tests, e) in
          ap (current_of q) same ∙ h.current ∙ mine away n (ap (λ y. holds q y (Some n)) (sym same) ∙ l)
      by false e =
          let apart : (x ≡ d → ⊥) = λ is. grind (arith, nat_tests, e, is) in
          h.current_other x lowx apart ∙ ap (λ b. cond b None (current_of p x)) (h.freed away (x, n) l) ∙ out away x n lowx (h.fewer (x, n) l)

-- ---- what verbs make of a program

same_work : {A : Type 0} (f : Work → A) → ((w : Work) (b : Bound) → f (record w { position = b }) ≡ f w) → (ws : List Work) (j k : ℕ) (b : Bound) → f (or_none (slice_get (slice_set ws j (record (or_none (slice_get ws j)) { position = b })) k)) ≡ f (or_none (slice_get ws k))
same_work f same [] j k b = refl
same_work f same (w ∷ ws) zero zero b = same w b
same_work f same (w ∷ ws) zero (suc k) b = refl
same_work f same (w ∷ ws) (suc j) zero b = refl
same_work f same (w ∷ ws) (suc j) (suc k) b = same_work f same ws j k b

-- a position changes no current record and no area, and neither does freeing locks
pub moved_alike : (path : Path) (r : Spot) (q : Program) → Alike q (with_found q path r)
moved_alike path r q = by (moves path)
  where
    moved : Program
    moved = with_position q (path_of path) (AtMember r.key r.number)

    by : (b : Bool) → Alike q (cond b moved q)
    by true = record {
      flags = record { name = refl; mode = refl; in_transaction = refl; owes_abort = refl; active = refl };
      long = length-set q.works (path_of path - 1) (record (work_of q (path_of path)) { position = AtMember r.key r.number });
      current = λ x. same_work (λ w. w.current) (λ w b. refl) q.works (path_of path - 1) (x - 1) (AtMember r.key r.number);
      area = λ x. same_work (λ w. w.area) (λ w b. refl) q.works (path_of path - 1) (x - 1) (AtMember r.key r.number);
      locks = λ place l. l;
    }
    by false = record { flags = record { name = refl; mode = refl; in_transaction = refl; owes_abort = refl; active = refl }; long = refl; current = λ x. refl; area = λ x. refl; locks = λ place l. l }

pub let_go_alike : (q : Program) (d : ℕ) → Alike q (let_go q d)
let_go_alike q d = by q.in_transaction refl
  where
    freed : Program
    freed = record q { locks = without_set q.locks d }

    by : (b : Bool) → q.in_transaction ≡ b → Alike q (cond b q freed)
    by true e = record { flags = record { name = refl; mode = refl; in_transaction = refl; owes_abort = refl; active = refl }; long = refl; current = λ x. refl; area = λ x. refl; locks = λ place l. l }
    by false e = record { flags = record { name = refl; mode = refl; in_transaction = refl; owes_abort = refl; active = refl }; long = refl; current = λ x. refl; area = λ x. refl; locks = λ place l. (kept_lock q.locks (is_elsewhere d) place l).0 }

-- behind FIND and CREATE: the current record, the area, and no lock on the data set outside transaction state
pub record Goes (desc : Described) (d : ℕ) (c : Option ℕ) (a : Option Area) (p q : Program) : Type 0 where
  pub shift : Shifts desc d c a p q
  pub none : p.in_transaction ≡ false → (n : ℕ) → holds q d (Some n) ≡ true → ⊥

module _ (desc : Described) (made : IsWellMade desc) (p : Program) (long : length p.works ≡ length desc.structures) (d : ℕ) (is : IsDataSet desc d) where
  pub range : (1 ≤ d) × (d - 1 < length p.works)
  range = by (structure_of desc d) refl is
    where
      by : (o : Option Shape) → structure_of desc d ≡ o → IsTrue (is_data_set o) → (1 ≤ d) × (d - 1 < length p.works)
      by None here h = absurd (cc)
      by (Some s) here h = let two = in_range desc d s here in (two.0, subst (λ n. d - 1 < n) (sym long) two.1)

  pub shifts_at : (c : Option ℕ) (a : Option Area) → Shifts desc d c a p (with_area (with_current desc d c p) d a)
  shifts_at c a = shifts desc made d range.0 c p range.1 a

  let_go_goes : (c : Option ℕ) (a : Option Area) (q : Program) → Shifts desc d c a p q → Goes desc d c a p (let_go q d)
  let_go_goes c a q h = record { shift = shifts_on desc d c a p q (let_go q d) h (let_go_alike q d); none = λ off n l. let_go_none q d (h.flags.in_transaction ∙ off) n l }

  pub created_goes : (owner : ℕ) → Goes desc d None (Some (New (map (λ (t : Item). t.initial) (items_of (structure_of desc d))) owner)) p (create_area desc p d owner)
  created_goes owner = let a = Some (New (map (λ (t : Item). t.initial) (items_of (structure_of desc d))) owner) in let_go_goes None a (with_area (with_current desc d None p) d a) (shifts_at None a)

  pub found_goes : (path : Path) (r : Spot) → d ≡ found_in desc path → Goes desc d (Some r.number) (Some (Old r.rec.values)) p (found_program desc p path r)
  unfolding found_program
  found_goes path r same =
      let one = with_area (with_current desc d (Some r.number) p) d (Some (Old r.rec.values)) in
      let two = shifts_on desc d (Some r.number) (Some (Old r.rec.values)) p one (with_found one path r) (shifts_at (Some r.number) (Some (Old r.rec.values))) (moved_alike path r one) in
      subst (λ x. Goes desc d (Some r.number) (Some (Old r.rec.values)) p (let_go (with_found (with_area (with_current desc x (Some r.number) p) x (Some (Old r.rec.values))) path r) x)) same (let_go_goes (Some r.number) (Some (Old r.rec.values)) (with_found one path r) two)
