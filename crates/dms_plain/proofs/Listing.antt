-- Lists of members: what halving finds in them, and what they tell of records.
use Rattle.std.proofs.Common.{◌≡◌, ◌+◌, ◌<◌, ◌≤◌, ℕ, zero, suc, List, [], ◌∷◌, Bool, true, false, Some, None, refl, sym, ap, ◌∙◌, arith, length, get_or, slice_get, ◌⊎◌, inl, inr}
use Rattle.std.specs.Prelude.{not, nat_lt, ◌&&◌, ◌||◌}
use Rattle.std.specs.declared.option.Option.{Option}
use Rattle.std.specs.declared.result.Result.{Result}
use Rattle.std.specs.declared.result.Result.TheVariants.{Ok, Err}
use Rattle.std.specs.List.Sorted.{IsBinarySearchResult, IsPartitionedBy, IsPartitionPoint, IsSearchInRange, IsStrictlySortedBy}
use Rattle.std.specs.Cmp.{IsTotalOrder, nat_cmp_total}
use Rattle.std.specs.Ordering.{is_eq, is_gt, is_lt, nat_cmp, ordering_then}
use Rattle.std.specs.declared.cmp.Ordering.{Ordering}
use Rattle.std.specs.declared.cmp.Ordering.TheVariants.{Less, Equal, Greater}
use Rattle.std.proofs.lemmas.Bool.Decides.{nat_tests}
use Rattle.std.proofs.lemmas.Bool.{cases_lt, cases_order}
use Rattle.std.proofs.lemmas.Cmp.{alike_right, on_total, then_total, tied_itself}
use Rattle.std.proofs.lemmas.List.Folds.{Any-from_list_any, list_any_at}
use Rattle.std.proofs.lemmas.Map.Keys.{Less-from_sorted}
use Rattle.std.proofs.lemmas.Option.{slice_get-get_or}
use Rattle.dms_desc.specs.declared.structure.KeyPart.{KeyPart}
use Rattle.dms_model.specs.MemberLaws.{equal_of, key_total}
use Rattle.dms_model.specs.Stores.{is_other}
use Rattle.dms_plain.specs.declared.member.Member.{Member}
use Rattle.dms_plain.specs.Listed.{IsFront, IsMemberAt, front_cmp, has, has_other, is_other_in, member_cmp}
use Rattle.dms_plain.proofs.Ordered.{same_tests, searchable, true_or}

pub front_total : (ps : List KeyPart) → IsTotalOrder (front_cmp ps)
front_total ps = then_total (on_total (λ (m : Member). m.owner) nat_cmp_total) (on_total (λ (m : Member). m.key) (key_total 0 ps))

pub member_total : (ps : List KeyPart) → IsTotalOrder (member_cmp ps)
member_total ps = then_total (front_total ps) (on_total (λ (m : Member). m.number) nat_cmp_total)

-- what halving finds
pub found : (ps : List KeyPart) (x : Member) (ms : List Member) (r : Result ℕ ℕ) → IsStrictlySortedBy (member_cmp ps) ms → IsSearchInRange r (length ms) → IsBinarySearchResult (λ m. member_cmp ps m x) ms r → IsMemberAt ps x ms r
found ps x ms (Ok i) order lt tie = (lt, tie)
found ps x ms (Err i) order le parted =
    let halves = parted (searchable (member_total ps) ms x order) in
    (le, λ j d lt. halves.0 j d (omega arith) lt, λ j d from lt. halves.1 j d from lt)

pub both : (a b : Bool) → (a && b) ≡ true → (a ≡ true) × (b ≡ true)
both true b h = (refl, h)
both false b h = absurd (cc)

pub and_true : (a b : Bool) → a ≡ true → b ≡ true → (a && b) ≡ true
and_true true b p q = q
and_true false b p q = absurd (cc)

pub not_true : (b : Bool) → (b ≡ true → ⊥) → b ≡ false
not_true true h = absurd (h refl)
not_true false h = refl

-- ---- by owner and key alone

module _ (ps : List KeyPart) (ms : List Member) (order : IsStrictlySortedBy (member_cmp ps) ms) where
  not_more : (r n : Ordering) → ordering_then r n ≡ Less → is_gt r ≡ false
  not_more Less n h = refl
  not_more Equal n h = refl
  not_more Greater n h = absurd (cc)

  -- fronts don't fall
  fronts : (i j : ℕ) (d : Member) → i ≤ j → j < length ms → is_gt (front_cmp ps (get_or ms i d) (get_or ms j d)) ≡ false
  fronts i j d le lt = elim (cases_order i j) [
    | inl same ↦ ap is_gt (ap (λ n. front_cmp ps (get_or ms i d) (get_or ms n d)) (sym same) ∙ tied_itself (front_total ps) (get_or ms i d))
    | inr (inl under) ↦ not_more (front_cmp ps (get_or ms i d) (get_or ms j d)) (nat_cmp (get_or ms i d).number (get_or ms j d).number) (Less-from_sorted (member_cmp ps) ms i j d order under lt)
    | inr (inr over') ↦ absurd (omega arith)
  ]

  less_before : (a b x : Member) (r : Ordering) → front_cmp ps a b ≡ r → is_gt r ≡ false → is_lt (front_cmp ps b x) ≡ true → is_lt (front_cmp ps a x) ≡ true
  less_before a b x Less is h less = ap is_lt ((front_total ps).trans a b x is (less_of (front_cmp ps b x) less))
    where
      less_of : (o : Ordering) → is_lt o ≡ true → o ≡ Less
      less_of Less k = refl
      less_of Equal k = absurd (cc)
      less_of Greater k = absurd (cc)
  less_before a b x Equal is h less = ap is_lt ((front_total ps).congr a b x is) ∙ less
  less_before a b x Greater is h less = absurd (cc)

  pub fronts_parted : (x : Member) → IsPartitionedBy (λ m. is_lt (front_cmp ps m x)) ms
  fronts_parted x i j d le lt less = less_before (get_or ms i d) (get_or ms j d) x (front_cmp ps (get_or ms i d) (get_or ms j d)) refl (fronts i j d le lt) less

  pub front_found : (x : Member) (i : ℕ) → i ≤ length ms → IsPartitionPoint (λ m. is_lt (front_cmp ps m x) ≡ true) (λ m. is_lt (front_cmp ps m x) ≡ false) ms i → IsFront ps x ms i
  front_found x i le halves = (le, λ j d lt. halves.0 j d (omega arith) lt, λ j d from lt. halves.1 j d from lt)

  equal_between : (r : Ordering) → is_lt r ≡ false → is_gt r ≡ false → r ≡ Equal
  equal_between Less h k = absurd (cc)
  equal_between Equal h k = refl
  equal_between Greater h k = absurd (cc)

  module _ (number : Option ℕ) (x : Member) (i : ℕ) (front : IsFront ps x ms i) where
    abbrev other : Member → Bool
    other m = is_eq (front_cmp ps m x) && is_other number m.number

    -- the members from the front to one that has the owner and the key have them, too
    has_them : (j k : ℕ) (d : Member) → i ≤ j → j ≤ k → k < length ms → front_cmp ps (get_or ms k d) x ≡ Equal → front_cmp ps (get_or ms j d) x ≡ Equal
    has_them j k d from le lt tie =
        let here = alike_right (front_total ps) (get_or ms k d) x (get_or ms j d) tie in
        equal_between (front_cmp ps (get_or ms j d) x) (front.2 j d from (omega arith)) (ap is_gt (sym here) ∙ fronts j k d le lt)

    -- two members with one owner and key rise by their numbers
    numbers_rise : (a b : Member) → front_cmp ps a x ≡ Equal → front_cmp ps b x ≡ Equal → member_cmp ps a b ≡ Less → a.number < b.number
    numbers_rise a b p q less =
        let tie : front_cmp ps a b ≡ Equal = alike_right (front_total ps) b x a q ∙ p in
        let rise : nat_cmp a.number b.number ≡ Less = ap (λ (r : Ordering). ordering_then r (nat_cmp a.number b.number)) (sym tie) ∙ less in
        grind (arith, nat_tests, rise)

    one_other : (n : Option ℕ) (a b : ℕ) → a < b → is_other n a ≡ false → is_other n b ≡ true
    one_other None a b lt h = absurd (cc)
    one_other (Some n) a b lt h = grind (arith, nat_tests, lt, h)

    look : (j : ℕ) (d : Member) → j < length ms → is_other_in ps number x (slice_get ms j) ≡ other (get_or ms j d)
    look j d lt = ap (is_other_in ps number x) (slice_get-get_or ms j d lt)

    or_right : (a b : Bool) → b ≡ true → (a || b) ≡ true
    or_right true b h = refl
    or_right false b h = h

    at_one : (j : ℕ) (d : Member) → j < length ms → other (get_or ms j d) ≡ true → (is_other_in ps number x (slice_get ms i) || (nat_lt i (length ms) && is_other_in ps number x (slice_get ms (i + 1)))) ≡ true
    at_one j d lt is = elim (cases_order i j) [
      | inl same ↦ true_or (is_other_in ps number x (slice_get ms i)) (look i d (omega (arith, same, lt)) ∙ ap (λ n. other (get_or ms n d)) same ∙ is) (nat_lt i (length ms) && is_other_in ps number x (slice_get ms (i + 1)))
      | inr (inl under) ↦
          (let tie = equal_of (front_cmp ps (get_or ms j d) x) (both (is_eq (front_cmp ps (get_or ms j d) x)) (is_other number (get_or ms j d).number) is).0 in
          let one = has_them i j d (omega arith) (omega (arith, under)) lt tie in
          let two = has_them (i + 1) j d (omega arith) (omega (arith, under)) lt tie in
          let rise = numbers_rise (get_or ms i d) (get_or ms (i + 1) d) one two (Less-from_sorted (member_cmp ps) ms i (i + 1) d order (omega arith) (omega (arith, under, lt))) in
          by_first (is_other number (get_or ms i d).number) refl (omega (arith, under, lt)) one two rise)
      | inr (inr below) ↦ absurd (below_front j d below (both (is_eq (front_cmp ps (get_or ms j d) x)) (is_other number (get_or ms j d).number) is).0)
    ]
      where
        below_front : (j : ℕ) (d : Member) → j < i → is_eq (front_cmp ps (get_or ms j d) x) ≡ true → ⊥
        below_front j d lt h = let less = front.1 j d lt in apart (front_cmp ps (get_or ms j d) x) less h
          where
            apart : (r : Ordering) → is_lt r ≡ true → is_eq r ≡ true → ⊥
            apart Less p q = absurd (cc)
            apart Equal p q = absurd (cc)
            apart Greater p q = absurd (cc)

        by_first : (b : Bool) → is_other number (get_or ms i d).number ≡ b → i + 1 < length ms → front_cmp ps (get_or ms i d) x ≡ Equal → front_cmp ps (get_or ms (i + 1) d) x ≡ Equal → (get_or ms i d).number < (get_or ms (i + 1) d).number
            → (is_other_in ps number x (slice_get ms i) || (nat_lt i (length ms) && is_other_in ps number x (slice_get ms (i + 1)))) ≡ true
        by_first true h room one two rise =
            true_or (is_other_in ps number x (slice_get ms i)) (look i d (omega (arith, room)) ∙ and_true (is_eq (front_cmp ps (get_or ms i d) x)) (is_other number (get_or ms i d).number) (ap is_eq one) h) (nat_lt i (length ms) && is_other_in ps number x (slice_get ms (i + 1)))
        by_first false h room one two rise =
            or_right (is_other_in ps number x (slice_get ms i)) (nat_lt i (length ms) && is_other_in ps number x (slice_get ms (i + 1)))
            (and_true (nat_lt i (length ms)) (is_other_in ps number x (slice_get ms (i + 1))) (grind (arith, nat_tests, room))
            (look (i + 1) d room ∙ and_true (is_eq (front_cmp ps (get_or ms (i + 1) d) x)) (is_other number (get_or ms (i + 1) d).number) (ap is_eq two) (one_other number (get_or ms i d).number (get_or ms (i + 1) d).number rise h)))

    at_place : (j : ℕ) (m : Option Member) → slice_get ms j ≡ m → is_other_in ps number x m ≡ true → has_other ps number x ms ≡ true
    at_place j None at is = absurd (cc)
    at_place j (Some m) at is = list_any_at other ms j m (below j ms m at) (ap other (get_at j ms m at) ∙ is)
      where
        below : (k : ℕ) (xs : List Member) (y : Member) → slice_get xs k ≡ Some y → k < length xs
        below k [] y h = absurd (cc)
        below zero (z ∷ zs) y h = omega arith
        below (suc k) (z ∷ zs) y h = omega (arith, below k zs y h)

        get_at : (k : ℕ) (xs : List Member) (y : Member) → slice_get xs k ≡ Some y → get_or xs k y ≡ y
        get_at k [] y h = absurd (cc)
        get_at zero (z ∷ zs) y h = cc
        get_at (suc k) (z ∷ zs) y h = get_at k zs y h

    one_of : (a b : Bool) → (a || b) ≡ true → (a ≡ true) ⊎ (b ≡ true)
    one_of true b h = inl refl
    one_of false b h = inr h

    -- whether another record has the owner and the key: that at the front, or the next
    pub other_is : has_other ps number x ms ≡ (is_other_in ps number x (slice_get ms i) || (nat_lt i (length ms) && is_other_in ps number x (slice_get ms (i + 1))))
    other_is =
        same_tests (has_other ps number x ms) _
        (λ is. let a = Any-from_list_any other ms is in at_one a.0 a.1 a.2 (ap other a.3 ∙ a.4))
        (λ is. elim (one_of (is_other_in ps number x (slice_get ms i)) (nat_lt i (length ms) && is_other_in ps number x (slice_get ms (i + 1))) is) [
          | inl left ↦ at_place i (slice_get ms i) refl left
          | inr right ↦ at_place (i + 1) (slice_get ms (i + 1)) refl (both (nat_lt i (length ms)) (is_other_in ps number x (slice_get ms (i + 1))) right).1
        ])

-- what isn't in a list needn't be taken out of it
pub missing : (ps : List KeyPart) (k x : Member) (i : ℕ) (ms : List Member) → IsMemberAt ps k ms (Err i) → has ps x ms ≡ (not (is_eq (member_cmp ps k x)) && has ps x ms)
missing ps k x i ms at = by (is_eq (member_cmp ps k x)) refl
  where
    none : is_eq (member_cmp ps k x) ≡ true → has ps x ms ≡ true → ⊥
    none tie is =
        let a = Any-from_list_any (λ m. is_eq (member_cmp ps m x)) ms is in
        let same : member_cmp ps a.1 k ≡ Equal = alike_right (member_total ps) k x a.1 (equal_of (member_cmp ps k x) tie) ∙ equal_of (member_cmp ps a.1 x) a.4 in
        let here : member_cmp ps (get_or ms a.0 a.1) k ≡ Equal = ap (λ m. member_cmp ps m k) a.3 ∙ same in
        elim (cases_lt a.0 i) [
          | inl under ↦ (let less = at.1 a.0 a.1 under in cc)
          | inr over' ↦ (let more = at.2 a.0 a.1 over' a.2 in cc)
        ]

    by : (b : Bool) → is_eq (member_cmp ps k x) ≡ b → has ps x ms ≡ (not b && has ps x ms)
    by true tie = not_true (has ps x ms) (none tie)
    by false apart = refl
