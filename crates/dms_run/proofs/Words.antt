-- What a run leaves, word by word.
use Rattle.std.proofs.Common.{ℕ, ◌≡◌, ◌∙◌, ◌⊎◌, inl, inr, ⊎_elim, List, [], ◌∷◌, ◌++◌, map, refl, sym, subst, ap, Bool, true, false, Option, Some}
use Rattle.std.specs.Str.{bytes_eq}
use Rattle.std.proofs.lemmas.List.{append_assoc, map-append}
use Rattle.std.proofs.lemmas.Slice.Eq.{bytes_eq-Decides}
use Rattle.std.proofs.lemmas.Option.{same_Some}
use Rattle.dms_block.specs.Content.{Content}
use Rattle.dms_block.specs.Held.{BlockPoint}
use Rattle.dms_desc.specs.Shape.{Described}
use Rattle.dms_desc_bytes.specs.Spelling.{spelling}
use Rattle.dms_model.specs.Db.{Db}
use Rattle.dms_model.specs.Points.{Point, Quiet, told_point, known_point}
use Rattle.dms_runner.specs.Answers.{last_quiet}
use Rattle.dms_running.specs.Points.{DescribedPoint}
use Rattle.dms_store.specs.Lifted.{point_of, db_of}
use Rattle.dms_store.specs.Spelled.{database_in}
use Rattle.dms_wal.specs.Lifting.{block_point}
use Rattle.dms_run.specs.States.{EndsWith, BlocksEndWith, LivesEndWith}
use Rattle.dms_run.specs.Stops.{last_quiet_number, IsOneOf}
use Rattle.dms_run.specs.Laws.{AllowsLaw, OneStateLaw, BlocksLaw, LivesLaw}

-- ---- the state of entry, or one of the quiet points

pub last_one : (n : ℕ) (db : Db) (made rest : List Quiet) → ((last_quiet_number n made ≡ n) × (last_quiet db made ≡ db)) ⊎ IsOneOf (last_quiet_number n made, last_quiet db made) (made ++ rest)
last_one n db [] rest = inl (refl, refl)
last_one n db (q ∷ qs) rest = ⊎_elim (λ e. inr (inl (pair q _ _ e.0 e.1))) (λ m. inr (inr m)) (last_one q.0 q.1 qs rest)
  where
    pair : (q : Quiet) (a : ℕ) (b : Db) → a ≡ q.0 → b ≡ q.1 → (a, b) ≡ q
    pair q a b e f = ap (λ (z : ℕ). (z, b)) e ∙ ap (λ (z : Db). (q.0, z)) f

pub allows : AllowsLaw
allows entry points n db next events stop r = record {
  point = last_quiet_number n r.made;
  now = last_quiet db r.made;
  state = r.state;
  recovered = subst (λ (q : List Quiet). ((last_quiet_number n r.made ≡ n) × (last_quiet db r.made ≡ db)) ⊎ IsOneOf (last_quiet_number n r.made, last_quiet db r.made) q) r.front_of (last_one n db r.made r.rest);
  keeps = λ q s. record {
    before = s.before;
    point = s.point;
    after = s.after ++ r.more;
    are = r.kept ∙ ap (λ (l : List Point). l ++ r.more) s.are ∙ append_assoc s.before (s.point ∷ s.after) r.more;
    is = s.is;
  };
}

-- ---- one state

ends_same : {A : Type 0} (xs ys : List A) (x y : A) → xs ++ x ∷ [] ≡ ys ++ y ∷ [] → x ≡ y
ends_same [] [] x y e = cc
ends_same [] (b ∷ []) x y e = absurd (cc)
ends_same [] (b ∷ c ∷ ys) x y e = absurd (cc)
ends_same (a ∷ []) [] x y e = absurd (cc)
ends_same (a ∷ c ∷ xs) [] x y e = absurd (cc)
ends_same (a ∷ xs) (b ∷ ys) x y e = let tails : xs ++ x ∷ [] ≡ ys ++ y ∷ [] = cc in ends_same xs ys x y tails

pub one_state : OneStateLaw
one_state points n m a b s t =
    let point : s.point ≡ t.point = ends_same s.before t.before s.point t.point (sym s.are ∙ t.are) in
    let same : known_point (n, a) ≡ known_point (m, b) = sym s.is ∙ ap told_point point ∙ t.is in
    (ap (λ (x : ℕ × Option Db). x.0) same, same_Some a b (ap (λ (x : ℕ × Option Db). x.1) same))

-- ---- points of blocks

told_here : (desc : Described) (b : Bool) (c : Content) (db : Db) → db_of desc b c ≡ Some db → (b ≡ true) × (database_in desc c ≡ Some db)
told_here desc true c db e = (refl, e)
told_here desc false c db e = absurd (cc)

same_bytes : (a b : List ℕ) → bytes_eq a b ≡ true → a ≡ b
same_bytes a b e = (bytes_eq-Decides a b).0 e

pub as_bytes : (a b : List ℕ) → a ≡ b → bytes_eq a b ≡ true
as_bytes a b e = (bytes_eq-Decides a b).1 e

-- a mapped list ends with what its last one is mapped to
record Last {A B : Type 0} (f : A → B) (xs : List A) (y : B) : Type 0 where
  front : List A
  last : A
  are : xs ≡ front ++ last ∷ []
  is : f last ≡ y

last_of : {A B : Type 0} (f : A → B) (xs : List A) (before : List B) (y : B) → map f xs ≡ before ++ y ∷ [] → Last f xs y
last_of f [] [] y e = absurd (cc)
last_of f [] (b ∷ bs) y e = absurd (cc)
last_of f (x ∷ []) [] y e = record { front = []; last = x; are = refl; is = cc }
last_of f (x ∷ z ∷ xs) [] y e = absurd (cc)
last_of f (x ∷ xs) (b ∷ bs) y e =
    let tails : map f xs ≡ bs ++ y ∷ [] = cc in
    let r = last_of f xs bs y tails in
    record { front = x ∷ r.front; last = r.last; are = ap (λ (l : List _). x ∷ l) r.are; is = r.is }

-- a point has a quiet point's number and database exactly where it stands under the description and its blocks spell the database
pub point_spells : (desc : Described) (p : BlockPoint) (q : Quiet) → told_point (point_of desc p) ≡ known_point q → (p.number ≡ q.0) × ((p.schema ≡ spelling desc) × (database_in desc p.blocks ≡ Some q.1))
point_spells desc p q is =
    let h = told_here desc (bytes_eq p.schema (spelling desc)) p.blocks q.1 (ap (λ (x : ℕ × Option Db). x.1) is) in
    (ap (λ (x : ℕ × Option Db). x.0) is, (same_bytes p.schema (spelling desc) h.0, h.1))

point_told : (desc : Described) (p : BlockPoint) (n : ℕ) (db : Db) → p.number ≡ n → p.schema ≡ spelling desc → database_in desc p.blocks ≡ Some db → told_point (point_of desc p) ≡ known_point (n, db)
point_told desc p n db number schema spells =
    ap (λ (b : Bool). (p.number, db_of desc b p.blocks)) (as_bytes p.schema (spelling desc) schema) ∙ ap (λ (o : Option Db). (p.number, o)) spells ∙ ap (λ (k : ℕ). known_point (k, db)) number

pub blocks_seen : (desc : Described) (points : List BlockPoint) (n : ℕ) (db : Db) → BlocksEndWith desc points n db → EndsWith (map (point_of desc) points) n db
blocks_seen desc points n db s = record {
  before = map (point_of desc) s.before;
  point = point_of desc s.point;
  are = ap (map (point_of desc)) s.are ∙ map-append (point_of desc) s.before (s.point ∷ []);
  is = point_told desc s.point n db s.number s.schema s.spells;
}

pub blocks_are : (desc : Described) (points : List BlockPoint) (n : ℕ) (db : Db) → EndsWith (map (point_of desc) points) n db → BlocksEndWith desc points n db
blocks_are desc points n db s =
    let l = last_of (point_of desc) points s.before s.point s.are in
    let h = point_spells desc l.last (n, db) (ap told_point l.is ∙ s.is) in
    record { before = l.front; point = l.last; are = l.are; number = h.0; schema = h.1.0; spells = h.1.1 }

pub blocks : BlocksLaw
blocks = record { seen = blocks_seen; are = blocks_are }

-- ---- live points

pub lives_seen : (desc : Described) (points : List DescribedPoint) (n : ℕ) (db : Db) → LivesEndWith desc points n db → BlocksEndWith desc (map block_point points) n db
lives_seen desc points n db s = record {
  before = map block_point s.before;
  point = block_point s.point;
  are = ap (map block_point) s.are ∙ map-append block_point s.before (s.point ∷ []);
  number = s.number;
  schema = s.schema;
  spells = s.spells;
}

pub lives_are : (desc : Described) (points : List DescribedPoint) (n : ℕ) (db : Db) → BlocksEndWith desc (map block_point points) n db → LivesEndWith desc points n db
lives_are desc points n db s =
    let l = last_of block_point points s.before s.point s.are in
    record {
      before = l.front;
      point = l.last;
      are = l.are;
      number = ap (λ (p : BlockPoint). p.number) l.is ∙ s.number;
      schema = ap (λ (p : BlockPoint). p.schema) l.is ∙ s.schema;
      spells = ap (λ (p : BlockPoint). database_in desc p.blocks) l.is ∙ s.spells;
    }

pub lives : LivesLaw
lives = record { seen = lives_seen; are = lives_are }
