-- Keys, conditions and entries look at the items that a data set had: further items, and their values, change none.
use Rattle.std.proofs.Common.{◌≡◌, ◌∙◌, ◌-◌, ◌<◌, ◌++◌, ℕ, zero, suc, List, [], ◌∷◌, Bool, true, false, cond, Some, None, refl, sym, ap, length, arith}
use Rattle.std.specs.Prelude.{slice_get, ◌+◌, ◌&&◌, ◌||◌, ◌==◌, not}
use Rattle.std.specs.Int.{w32, to_be_bytes}
use Rattle.std.specs.List.{AllByRecursion}
use Rattle.dms_base.specs.declared.kind.ItemKind.{ItemKind}
use Rattle.dms_base.specs.declared.value.Value.{Value}
use Rattle.dms_desc.specs.declared.record.Record.{Record}
use Rattle.dms_desc.specs.declared.structure.KeyPart.{KeyPart}
use Rattle.dms_desc.specs.Conds.{compares, item_of, meets, or_null}
use Rattle.dms_desc.specs.Keys.{key_of}
use Rattle.dms_desc.specs.Kinds.{is_automatic, over, takes}
use Rattle.dms_desc.specs.Shape.{Shape, Tree, Empty, Test, Both, Either, Contrary}
use Rattle.dms_key.specs.KeyBytes.{key_bytes, key_width, kind_of, part_bytes, part_width}
use Rattle.dms_model.specs.Db.{Place}
use Rattle.dms_sets.specs.Entries.{entry_bytes}
use Rattle.dms_sets.specs.Padded.{entry_width}
use Rattle.dms_sets.specs.Sets.{entry_of}

pub get_front : {A : Type 0} (xs ys : List A) (k : ℕ) → k < length xs → slice_get (xs ++ ys) k ≡ slice_get xs k
get_front [] ys k low = absurd (omega (arith, low))
get_front (x ∷ xs) ys zero low = refl
get_front (x ∷ xs) ys (suc k) low = get_front xs ys k (omega (arith, low))

-- each part of a key names one of the first so many items,
abbrev pub PartsWithin : ℕ → List KeyPart → Type 0
PartsWithin n ps = AllByRecursion (λ (p : KeyPart). p.item - 1 < n) ps

-- and so does each comparison
abbrev pub TestsWithin : ℕ → Tree → Type 0
TestsWithin n Empty = Unit {0}
TestsWithin n (Test item op v) = item - 1 < n
TestsWithin n (Both a b) = TestsWithin n a × TestsWithin n b
TestsWithin n (Either a b) = TestsWithin n a × TestsWithin n b
TestsWithin n (Contrary a) = TestsWithin n a

pub record LooksWithin (n : ℕ) (s : Shape) : Type 0 where
  pub parts : PartsWithin n s.parts
  pub cond : TestsWithin n s.cond

module _ (kinds more : List ItemKind) where
  kind_front : (p : KeyPart) → p.item - 1 < length kinds → kind_of (kinds ++ more) p ≡ kind_of kinds p
  kind_front p low = get_front kinds more (p.item - 1) low

  bytes_front : (ps : List KeyPart) (vs : List Value) → PartsWithin (length kinds) ps → key_bytes (kinds ++ more) ps vs ≡ key_bytes kinds ps vs
  bytes_front ps [] all = refl
  bytes_front [] (v ∷ vs) all = refl
  bytes_front (p ∷ ps) (v ∷ vs) all =
      let here = kind_front p all.0 in
      let rest = bytes_front ps vs all.1 in
      λ i. part_bytes (here i) p.descending v ++ rest i

  key_width_front : (ps : List KeyPart) → PartsWithin (length kinds) ps → key_width (kinds ++ more) ps ≡ key_width kinds ps
  key_width_front [] all = refl
  key_width_front (p ∷ ps) all =
      let here = kind_front p all.0 in
      let rest = key_width_front ps all.1 in
      λ i. part_width (here i) + rest i

  -- an entry is as wide
  pub width_front : (ps : List KeyPart) → PartsWithin (length kinds) ps → entry_width (kinds ++ more) ps ≡ entry_width kinds ps
  width_front ps all = ap (λ n. 4 + (n + 4)) (key_width_front ps all)

module _ (vs more : List Value) where
  value_front : (item : ℕ) → item - 1 < length vs → item_of (vs ++ more) item ≡ item_of vs item
  value_front item low = ap or_null (get_front vs more (item - 1) low)

  pub key_front : (ps : List KeyPart) → PartsWithin (length vs) ps → key_of ps (vs ++ more) ≡ key_of ps vs
  key_front [] all = refl
  key_front (p ∷ ps) all =
      let here = value_front p.item all.0 in
      let rest = key_front ps all.1 in
      λ i. here i ∷ rest i

  pub meets_front : (t : Tree) → TestsWithin (length vs) t → meets t (vs ++ more) ≡ meets t vs
  meets_front Empty all = refl
  meets_front (Test item op v) all = ap (λ x. compares op x v) (value_front item all)
  meets_front (Both a b) all = let one = meets_front a all.0 in let two = meets_front b all.1 in λ i. one i && two i
  meets_front (Either a b) all = let one = meets_front a all.0 in let two = meets_front b all.1 in λ i. one i || two i
  meets_front (Contrary a) all = ap not (meets_front a all)

  pub takes_front : (s : Shape) → LooksWithin (length vs) s → takes s (vs ++ more) ≡ takes s vs
  takes_front s all = ap (λ b. cond (is_automatic s) b true) (meets_front s.cond all.cond)

-- the bytes of an entry
pub entry_bytes_front : (kinds ks : List ItemKind) (vs more : List Value) (ps : List KeyPart) (owner n : ℕ) → PartsWithin (length kinds) ps → PartsWithin (length vs) ps
    → entry_bytes (kinds ++ ks) ps owner (key_of ps (vs ++ more)) n ≡ entry_bytes kinds ps owner (key_of ps vs) n
entry_bytes_front kinds ks vs more ps owner n one two =
    ap (λ (key : List Value). entry_bytes (kinds ++ ks) ps owner key n) (key_front vs more ps two)
    ∙ ap (λ (bytes : List ℕ). to_be_bytes w32 owner ++ (bytes ++ to_be_bytes w32 n)) (bytes_front kinds ks ps (key_of ps vs) one)

-- a record with values behind its own
abbrev pub with_more : List Value → Record → Record
with_more more r = record { owner = r.owner; values = r.values ++ more }

-- the entry of a record, where it belongs to the set
pub entry_front : (kinds ks : List ItemKind) (s : Shape) (k : Place) (r : Record) (more : List Value) → ((over s == k.0) ≡ true → LooksWithin (length kinds) s × LooksWithin (length r.values) s)
    → entry_of (kinds ++ ks) s k (with_more more r) ≡ entry_of kinds s k r
entry_front kinds ks s k r more within = by (over s == k.0) refl
  where
    both : (b t : Bool) → LooksWithin (length kinds) s × LooksWithin (length r.values) s
        → cond (b && t) (Some (entry_bytes (kinds ++ ks) s.parts r.owner (key_of s.parts (r.values ++ more)) k.1)) None ≡ cond (b && t) (Some (entry_bytes kinds s.parts r.owner (key_of s.parts r.values) k.1)) None
    both b t w = ap (λ (bytes : List ℕ). cond (b && t) (Some bytes) None) (entry_bytes_front kinds ks r.values more s.parts r.owner k.1 w.0.parts w.1.parts)

    by : (b : Bool) → (over s == k.0) ≡ b → entry_of (kinds ++ ks) s k (with_more more r) ≡ entry_of kinds s k r
    by true is =
        let w = within is in
        ap (λ (t : Bool). cond ((over s == k.0) && t) (Some (entry_bytes (kinds ++ ks) s.parts r.owner (key_of s.parts (r.values ++ more)) k.1)) None) (takes_front r.values more s w.1)
        ∙ both (over s == k.0) (takes s r.values) w
    by false is =
        ap (λ (b : Bool). cond (b && takes s (r.values ++ more)) (Some (entry_bytes (kinds ++ ks) s.parts r.owner (key_of s.parts (r.values ++ more)) k.1)) None) is
        ∙ sym (ap (λ (b : Bool). cond (b && takes s r.values) (Some (entry_bytes kinds s.parts r.owner (key_of s.parts r.values) k.1)) None) is)
