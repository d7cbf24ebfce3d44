-- Looks at the list of a set: the bytes of bounds, and what is found.
use Rattle.std.proofs.Common.{◌≡◌, ◌∙◌, ◌+◌, ◌-◌, ◌≤◌, ℕ, List, [], ◌∷◌, ◌++◌, Bool, true, false, cond, IfSome, Some, None, sym, ap, length, length-append, replicate, arith}
use Rattle.std.specs.declared.option.Option.{Option}
use Rattle.std.specs.Int.{w32, to_be_bytes}
use Rattle.std.specs.Cmp.Lexicographic.{nat_list_cmp_total}
use Rattle.std.proofs.lemmas.Cmp.{eq_by_cmp_equiv}
use Rattle.std.proofs.lemmas.List.{length-replicate}
use Rattle.std.proofs.lemmas.Option.{same_Some}
use Rattle.std.proofs.lemmas.Bool.{or_left, or_right}
use Rattle.dms_base.specs.declared.kind.ItemKind.{ItemKind}
use Rattle.dms_base.specs.declared.value.Value.{Value}
use Rattle.dms_desc.specs.declared.bound.Bound.{Bound}
use Rattle.dms_desc.specs.declared.bound.Bound.TheVariants.{Start, End, At, From}
use Rattle.dms_desc.specs.declared.structure.KeyPart.{KeyPart}
use Rattle.dms_key.specs.KeyBytes.{KeyHasKinds, key_bytes}
use Rattle.dms_key.specs.KeyOrder.{key_most}
use Rattle.dms_chain.specs.Lists.{first, first_from, has_entry, is_same, last, last_to, or_else, pad_bound}
use Rattle.dms_sets.specs.Entries.{IsSetKey, entry_bytes, whole_width}
use Rattle.dms_sets.specs.Padded.{entry_width, from_bytes, to_bytes}
use Rattle.dms_entries.specs.Looked.{MayLook}

-- ---- the bytes of a bound

padded_long : (w : ℕ) (p : List ℕ) → length p ≤ w → length (pad_bound w p) ≡ w
padded_long w p le =
    let zeros = length-replicate {A = ℕ} (w - length p) 0 in
    length-append p (replicate (w - length p) 0) ∙ omega (arith, le, zeros)

module _ (kinds : List ItemKind) (ps : List KeyPart) (owner : ℕ) where
  owner_long : (n : ℕ) → length (pad_bound (entry_width kinds ps) (to_be_bytes w32 n)) ≡ entry_width kinds ps
  owner_long n = padded_long (entry_width kinds ps) (to_be_bytes w32 n) (omega arith)

  key_long : (key : List Value) → KeyHasKinds kinds ps key → length (pad_bound (entry_width kinds ps) (to_be_bytes w32 owner ++ (key_bytes kinds ps key ++ []))) ≡ entry_width kinds ps
  key_long key f =
      let whole = length-append (to_be_bytes w32 owner) (key_bytes kinds ps key ++ []) in
      let inner = length-append (key_bytes kinds ps key) [] in
      let most = key_most kinds ps key f in
      padded_long (entry_width kinds ps) (to_be_bytes w32 owner ++ (key_bytes kinds ps key ++ [])) (omega (arith, whole, inner, most))

  whole_long : (key : List Value) (n : ℕ) → IsSetKey kinds ps key → length (entry_bytes kinds ps owner key n) ≡ entry_width kinds ps
  whole_long key n f =
      let whole = length-append (to_be_bytes w32 owner) (key_bytes kinds ps key ++ to_be_bytes w32 n) in
      let inner = length-append (key_bytes kinds ps key) (to_be_bytes w32 n) in
      let width = whole_width kinds ps key f in
      omega (arith, whole, inner, width)

  -- they have the width of entries
  pub from_long : (bound : Bound) (q : List ℕ) → MayLook kinds ps bound → from_bytes kinds ps owner bound ≡ Some q → length q ≡ entry_width kinds ps
  from_long Start q may is = ap length (sym (same_Some _ q is)) ∙ owner_long owner
  from_long End q may is = absurd (cc)
  from_long (At key n) q may is = ap length (sym (same_Some _ q is)) ∙ whole_long key (n + 1) may.0.0
  from_long (From key) q may is = ap length (sym (same_Some _ q is)) ∙ key_long key may.0

  pub to_long : (bound : Bound) (q : List ℕ) → MayLook kinds ps bound → to_bytes kinds ps owner bound ≡ Some q → length q ≡ entry_width kinds ps
  to_long Start q may is = absurd (cc)
  to_long End q may is = ap length (sym (same_Some _ q is)) ∙ owner_long (owner + 1)
  to_long (At key n) q may is = ap length (sym (same_Some _ q is)) ∙ whole_long key n may.0.0
  to_long (From key) q may is = ap length (sym (same_Some _ q is)) ∙ key_long key may.0

-- ---- what is found

here : (x q : List ℕ) (xs : List (List ℕ)) → ◌≡◌ {A = Option (List ℕ)} (Some x) (Some q) → has_entry q (x ∷ xs) ≡ true
here x q xs h = or_left (is_same q x) (has_entry q xs) (ap (is_same q) (same_Some x q h) ∙ (eq_by_cmp_equiv nat_list_cmp_total).refl q)

first_turn : (b : Bool) (o : Option (List ℕ)) (x q : List ℕ) (xs : List (List ℕ)) → cond b (Some x) o ≡ Some q → (o ≡ Some q → has_entry q xs ≡ true) → has_entry q (x ∷ xs) ≡ true
first_turn true o x q xs h rest = here x q xs h
first_turn false o x q xs h rest = or_right (is_same q x) (has_entry q xs) (rest h)

first_has : (p : List ℕ → Bool) (xs : List (List ℕ)) (q : List ℕ) → first p xs ≡ Some q → has_entry q xs ≡ true
first_has p [] q h = absurd (cc)
first_has p (x ∷ xs) q h = first_turn (p x) (first p xs) x q xs h (first_has p xs q)

last_turn : (o : Option (List ℕ)) (b : Bool) (x q : List ℕ) (xs : List (List ℕ)) → or_else o (cond b (Some x) None) ≡ Some q → (o ≡ Some q → has_entry q xs ≡ true) → has_entry q (x ∷ xs) ≡ true
last_turn None true x q xs h rest = here x q xs h
last_turn None false x q xs h rest = absurd (cc)
last_turn (Some y) b x q xs h rest = or_right (is_same q x) (has_entry q xs) (rest h)

last_has : (p : List ℕ → Bool) (xs : List (List ℕ)) (q : List ℕ) → last p xs ≡ Some q → has_entry q xs ≡ true
last_has p [] q h = absurd (cc)
last_has p (x ∷ xs) q h = last_turn (last p xs) (p x) x q xs h (last_has p xs q)

-- is an entry of the list
pub first_listed : (o : Option (List ℕ)) (c : List ℕ) (xs : List (List ℕ)) → o ≡ first_from (Some c) xs → IfSome o (λ q. has_entry q xs ≡ true)
first_listed None c xs h = tt
first_listed (Some q) c xs h = first_has _ xs q (sym h)

pub last_listed : (o : Option (List ℕ)) (c : List ℕ) (xs : List (List ℕ)) → o ≡ last_to (Some c) xs → IfSome o (λ q. has_entry q xs ≡ true)
last_listed None c xs h = tt
last_listed (Some q) c xs h = last_has _ xs q (sym h)
