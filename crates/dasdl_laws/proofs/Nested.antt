-- Each data set of a list has an item, or a structure of the list that stands in it.
use Rattle.std.proofs.Common.{◌≡◌, ◌≤◌, ◌⊎◌, inl, inr, ℕ, List, [], ◌∷◌, ◌++◌, map, length, Bool, true, false, refl, arith}
use Rattle.std.specs.Prelude.{◌||◌, ◌==◌, not}
use Rattle.std.specs.List.{list_all, list_any, AllByRecursion}
use Rattle.std.proofs.lemmas.Bool.{or_right, and_from}
use Rattle.dms_desc.specs.declared.structure.Item.{Item}
use Rattle.dms_desc.specs.Shape.{Shape, kind_number}
use Rattle.dms_desc_bytes.specs.Lists.{is_empty}
use Rattle.dms_desc_bytes.specs.Spelling.{is_data_set}
use Rattle.dms_desc_bytes.specs.WellFormed.{has_member, stands_in}
use Rattle.dasdl_compile.specs.declared.draft.Draft.{Draft}
use Rattle.dasdl_compile.specs.Compile.{shape_in}

abbrev pub owned : ℕ → Draft → Bool
owned n d = d.owner == n

abbrev pub HasIn : List Draft → Draft → Type 0
HasIn l d = (is_data_set (kind_number d.kind) ≡ false) ⊎ ((1 ≤ length d.items) ⊎ (list_any (owned d.number) l ≡ true))

left_case : (b : Bool) (p : Draft → Bool) (xs ys : List Draft) → (b || list_any p xs) ≡ true → (list_any p xs ≡ true → list_any p (xs ++ ys) ≡ true) → (b || list_any p (xs ++ ys)) ≡ true
left_case true p xs ys h f = refl
left_case false p xs ys h f = f h

pub any_left : (p : Draft → Bool) (xs ys : List Draft) → list_any p xs ≡ true → list_any p (xs ++ ys) ≡ true
any_left p [] ys h = absurd (cc)
any_left p (x ∷ xs) ys h = left_case (p x) p xs ys h (any_left p xs ys)

pub any_right : (p : Draft → Bool) (xs ys : List Draft) → list_any p ys ≡ true → list_any p (xs ++ ys) ≡ true
any_right p [] ys h = h
any_right p (x ∷ xs) ys h = or_right (p x) _ (any_right p xs ys h)

has_in : (l m : List Draft) (d : Draft) → ((n : ℕ) → list_any (owned n) l ≡ true → list_any (owned n) m ≡ true) → HasIn l d → HasIn m d
has_in l m d f (inl e) = inl e
has_in l m d f (inr (inl e)) = inr (inl e)
has_in l m d f (inr (inr e)) = inr (inr (f d.number e))

pub all_in : (l m ds : List Draft) → ((n : ℕ) → list_any (owned n) l ≡ true → list_any (owned n) m ≡ true) → AllByRecursion (HasIn l) ds → AllByRecursion (HasIn m) ds
all_in l m [] f h = tt
all_in l m (d ∷ ds) f h = (has_in l m d f h.0, all_in l m ds f h.1)

joined : (P : Draft → Type 0) (xs ys : List Draft) → AllByRecursion P xs → AllByRecursion P ys → AllByRecursion P (xs ++ ys)
joined P [] ys h k = k
joined P (x ∷ xs) ys h k = (h.0, joined P xs ys h.1 k)

-- lists that are closed so are so together
pub both_closed : (xs ys : List Draft) → AllByRecursion (HasIn xs) xs → AllByRecursion (HasIn ys) ys → AllByRecursion (HasIn (xs ++ ys)) (xs ++ ys)
both_closed xs ys h k =
    joined (HasIn (xs ++ ys)) xs ys (all_in xs (xs ++ ys) xs (λ n e. any_left (owned n) xs ys e) h) (all_in ys (xs ++ ys) ys (λ n e. any_right (owned n) xs ys e) k)

any_shape : (n : ℕ) (ds : List Draft) → list_any (owned n) ds ≡ list_any (stands_in n) (map shape_in ds)
any_shape n [] = refl
any_shape n (d ∷ ds) = rw (any_shape n ds) refl

some_item : (is : List Item) (b : Bool) → 1 ≤ length is → (not (is_empty is) || b) ≡ true
some_item [] b h = absurd (omega (arith, h))
some_item (i ∷ is) b h = refl

member_in : (l : List Draft) (d : Draft) → HasIn l d → (not (is_data_set (kind_number d.kind)) || has_member (map shape_in l) (shape_in d)) ≡ true
unfolding has_member
member_in l d (inl e) = rw e refl
member_in l d (inr (inl e)) = or_right (not (is_data_set (kind_number d.kind))) _ (some_item d.items _ e)
member_in l d (inr (inr e)) = or_right (not (is_data_set (kind_number d.kind))) _ (or_right (not (is_empty d.items)) _ (rw (any_shape d.number l) at e))

all_members : (l ds : List Draft) → AllByRecursion (HasIn l) ds → list_all (λ (s : Shape). not (is_data_set s.kind) || has_member (map shape_in l) s) (map shape_in ds) ≡ true
all_members l [] h = refl
all_members l (d ∷ ds) h = and_from _ _ (member_in l d h.0) (all_members l ds h.1)

pub have_members : (l : List Draft) → AllByRecursion (HasIn l) l → list_all (λ (s : Shape). not (is_data_set s.kind) || has_member (map shape_in l) s) (map shape_in l) ≡ true
have_members l h = all_members l l h
