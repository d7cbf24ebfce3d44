-- A set's entries are the only rising list of entries that has for each owner the members for that owner.
use Rattle.std.proofs.Common.{◌≡◌, ℕ, ◌^◌, ◌<◌, List, [], ◌∷◌, ◌++◌, Bool, true, false, cond, Some, None, refl, sym, ap, ◌∙◌, subst, map, filter}
use Rattle.std.specs.Prelude.{T, ◌&&◌, ◌||◌, ◌==◌}
use Rattle.std.specs.List.{AllByRecursion}
use Rattle.std.specs.declared.option.Option.{Option}
use Rattle.std.specs.FinMap.{entries, find, is_sorted}
use Rattle.std.specs.FinMap.Entries.{below_all, same_entries}
use Rattle.std.specs.Ordering.{is_eq, is_lt}
use Rattle.std.specs.Cmp.Lexicographic.{nat_list_cmp_total}
use Rattle.std.specs.Int.{w32, to_be_bytes}
use Rattle.dms_desc.specs.Shape.{Shape, Described}
use Rattle.dms_model.specs.Db.{Db}
use Rattle.dms_model.specs.Members.{members}
use Rattle.dms_sets.specs.Prefixes.{front_cmp, front_whole}
use Rattle.dms_sets.specs.Sets.{listed_in, entries_of, kinds_over}
use Rattle.dms_sets.specs.Owners.{is_of, of_owner, spot_bytes, EntriesFit, owned_entries}
use Rattle.dms_sets.specs.Padded.{IsSetEntry, entries_shaped}
use Rattle.dms_key.specs.KeyBytes.{key_width}
use Rattle.dms_key.specs.KeyOrder.{equal_itself}
use Rattle.dms_chain.specs.Lists.{AreAllAbove, AreInByteOrder, bytes_cmp, bytes_same, has_entry, is_same, keys_rise}
use Rattle.dms_model.specs.MemberLaws.{equal_of}

-- what holds of all entries holds of one that is there
has_at : (P : List ℕ → Type 0) (b : Bool) (q x : List ℕ) (r : Bool) → is_same q x ≡ b → P x → (r ≡ true → P q) → (b || r) ≡ true → P q
has_at P true q x r e h rest has = subst P (sym (bytes_same q x (equal_of (bytes_cmp q x) e))) h
has_at P false q x r e h rest has = rest has

has_all : (P : List ℕ → Type 0) (q : List ℕ) (xs : List (List ℕ)) → AllByRecursion P xs → has_entry q xs ≡ true → P q
has_all P q [] all has = absurd (cc)
has_all P q (x ∷ xs) all has = has_at P (is_same q x) q x (has_entry q xs) refl all.0 (has_all P q xs all.1) has

-- an entry that passes is there among those that pass
kept_at : (p : List ℕ → Bool) (c : Bool) (q x : List ℕ) (r : Bool) → p q ≡ true → is_same q x ≡ c → has_entry q (cond (p x) (x ∷ []) []) ≡ c
kept_at p true q x r h e =
    let same : p x ≡ true = ap p (sym (bytes_same q x (equal_of (bytes_cmp q x) e))) ∙ h in
    ap (λ b. has_entry q (cond b (x ∷ []) [])) same ∙ or_false (is_same q x) ∙ e
  where
    or_false : (b : Bool) → (b || false) ≡ b
    or_false true = refl
    or_false false = refl
kept_at p false q x r h e = holds_none (p x) q x e
  where
    holds_none : (b : Bool) (q x : List ℕ) → is_same q x ≡ false → has_entry q (cond b (x ∷ []) []) ≡ false
    holds_none true q x e = ap (λ z. z || false) e
    holds_none false q x e = refl

front_or : (b : Bool) (q x : List ℕ) (ys : List (List ℕ)) → has_entry q (cond b (x ∷ ys) ys) ≡ (has_entry q (cond b (x ∷ []) []) || has_entry q ys)
front_or true q x ys = or_assoc (is_same q x) (has_entry q ys)
  where
    or_assoc : (a b : Bool) → (a || b) ≡ ((a || false) || b)
    or_assoc true b = refl
    or_assoc false b = refl
front_or false q x ys = refl

has_kept : (p : List ℕ → Bool) (q : List ℕ) (xs : List (List ℕ)) → p q ≡ true → has_entry q (filter p xs) ≡ has_entry q xs
has_kept p q [] h = refl
has_kept p q (x ∷ xs) h =
    front_or (p x) q x (filter p xs)
    ∙ (λ i. kept_at p (is_same q x) q x true h refl i || has_kept p q xs h i)

is_of_own : (w : ℕ) (q : List ℕ) → (e : IsSetEntry w q) → is_of e.owner q ≡ true
is_of_own w q e =
    ap is_eq (ap (front_cmp (to_be_bytes w32 e.owner)) e.is ∙ front_whole (to_be_bytes w32 e.owner) (to_be_bytes w32 e.owner) (e.key ++ to_be_bytes w32 e.number) refl ∙ equal_itself (to_be_bytes w32 e.owner))

one_way : (w : ℕ) (xs ys : List (List ℕ)) (q : List ℕ) → AllByRecursion (IsSetEntry w) xs → ((owner : ℕ) → owner < 2 ^ 32 → of_owner owner xs ≡ of_owner owner ys) → has_entry q xs ≡ true → has_entry q ys ≡ true
one_way w xs ys q all same has =
    let e = has_all (IsSetEntry w) q xs all has in
    let mine = is_of_own w q e in
    sym (has_kept (is_of e.owner) q ys mine) ∙ ap (has_entry q) (sym (same e.owner e.small_owner)) ∙ has_kept (is_of e.owner) q xs mine ∙ has

both_ways : (s t : Bool) → (s ≡ true → t ≡ true) → (t ≡ true → s ≡ true) → s ≡ t
both_ways true t f g = sym (f refl)
both_ways false true f g = g refl
both_ways false false f g = refl

-- rising lists with the same entries are one

abbrev pairs_of : List (List ℕ) → List (List ℕ × Unit {0})
pairs_of xs = map (λ x. (x, tt)) xs

firsts_again : (xs : List (List ℕ)) → map (λ (e : List ℕ × Unit {0}). e.0) (pairs_of xs) ≡ xs
firsts_again [] = refl
firsts_again (x ∷ xs) = ap (λ (ys : List (List ℕ)). x ∷ ys) (firsts_again xs)

both_true : (a b : Bool) → T a → T b → T (a && b)
both_true true b p q = q
both_true false b p q = p

above_pairs : (x : List ℕ) (ys : List (List ℕ)) → AreAllAbove x ys → T (below_all bytes_cmp x (pairs_of ys))
above_pairs x [] all = tt
above_pairs x (y ∷ ys) all = both_true (is_lt (bytes_cmp x y)) (below_all bytes_cmp x (pairs_of ys)) (subst (λ o. T (is_lt o)) (sym all.0) tt) (above_pairs x ys all.1)

sorted_pairs : (xs : List (List ℕ)) → AreInByteOrder xs → T (is_sorted bytes_cmp (pairs_of xs))
sorted_pairs [] rise = tt
sorted_pairs (x ∷ xs) rise = both_true (below_all bytes_cmp x (pairs_of xs)) (is_sorted bytes_cmp (pairs_of xs)) (above_pairs x xs rise.0) (sorted_pairs xs rise.1)

or_cond : (a b : Bool) → ◌≡◌ {A = Option (Unit {0})} (cond a (Some tt) (cond b (Some tt) None)) (cond (a || b) (Some tt) None)
or_cond true b = refl
or_cond false b = refl

found_is : (q : List ℕ) (xs : List (List ℕ)) → find bytes_cmp q (pairs_of xs) ≡ cond (has_entry q xs) (Some tt) None
found_is q [] = refl
found_is q (x ∷ xs) =
    ap (cond (is_same q x) (Some tt)) (found_is q xs)
    ∙ or_cond (is_same q x) (has_entry q xs)

pub rising_same : (xs ys : List (List ℕ)) → AreInByteOrder xs → AreInByteOrder ys → ((q : List ℕ) → has_entry q xs ≡ has_entry q ys) → xs ≡ ys
rising_same xs ys rise rise' same =
    sym (firsts_again xs)
    ∙ ap (map (λ (e : List ℕ × Unit {0}). e.0))
    (same_entries bytes_cmp nat_list_cmp_total bytes_same (pairs_of xs) (pairs_of ys) (sorted_pairs xs rise) (sorted_pairs ys rise') (λ q. found_is q xs ∙ ap (λ b. cond b (Some tt) None) (same q) ∙ sym (found_is q ys)))
    ∙ firsts_again ys

-- a rising list of entries that has for each owner the bytes of the members for that owner is the set's
pub entries_determined : (desc : Described) (db : Db) (s : Shape) (xs : List (List ℕ)) → (s.kind == 5) ≡ false → EntriesFit (kinds_over desc s) s (entries db.records)
    → AreInByteOrder xs → AllByRecursion (IsSetEntry (key_width (kinds_over desc s) s.parts)) xs
    → ((owner : ℕ) → owner < 2 ^ 32 → of_owner owner xs ≡ map (spot_bytes (kinds_over desc s) s.parts owner) (members s db owner))
    → xs ≡ entries_of desc db s
entries_determined desc db s xs auto all rise shaped same =
    let w = key_width (kinds_over desc s) s.parts in
    let ys = entries_of desc db s in
    let alike : (owner : ℕ) → owner < 2 ^ 32 → of_owner owner xs ≡ of_owner owner ys = λ owner small. same owner small ∙ sym (owned_entries desc db s owner small auto all) in
    rising_same xs ys rise (keys_rise (listed_in (kinds_over desc s) s db.records)) (λ q.
    both_ways (has_entry q xs) (has_entry q ys) (one_way w xs ys q shaped alike) (one_way w ys xs q (entries_shaped desc db s all) (λ owner small. sym (alike owner small))))
