-- What was written is read again: items, groups, parts of keys, and lists of them.
use Rattle.std.proofs.Common.{◌≡◌, ℕ, suc, ◌+◌, ◌≤◌, Bool, true, List, [], ◌∷◌, ◌++◌, length, refl, ap, ◌∙◌, append_assoc}
use Rattle.std.specs.List.{flat_map, list_all}
use Rattle.std.proofs.lemmas.Bool.{and_parts}
use Rattle.std.proofs.lemmas.List.Concat.{flat_map-cons}
use Rattle.dms_base.specs.Name.{is_name}
use Rattle.dms_base.specs.declared.value.Value.{Value}
use Rattle.dms_base.specs.declared.kind.ItemKind.{ItemKind}
use Rattle.dms_desc.specs.declared.structure.Item.{Item}
use Rattle.dms_desc.specs.declared.structure.Group.{Group}
use Rattle.dms_desc.specs.declared.structure.KeyPart.{KeyPart}
use Rattle.dms_desc_bytes.specs.Reading.{ReadBytes, byte_at, kind_at, flag_at, literal_at, item_at, group_at, part_at, several, list_at}
use Rattle.dms_desc_bytes.specs.Spelling.{count_byte, name_bytes, kind_bytes, literal_bytes, flag, item_bytes, group_bytes, part_bytes}
use Rattle.dms_desc_bytes.proofs.Fields.{Again, flag_again, small_count}
use Rattle.dms_desc_bytes.proofs.Values.{SpelledValue, Typed, name_again, kind_again, literal_again}

-- an item that a description can spell
pub record SpelledItem (i : Item) : Type 0 where
  pub name : is_name i.name ≡ true
  pub kind : Typed i.kind
  pub initial : SpelledValue i.initial

-- the readers of an item, from its last field to its first
abbrev item_of : List ℕ → ItemKind → Bool → ReadBytes Value → ReadBytes Item
item_of name kind required initial = (record { name = name; kind = kind; required = required; initial = initial.0 }, initial.1)

abbrev required_on : List ℕ → ItemKind → ReadBytes Bool → ReadBytes Item
required_on name kind required = item_of name kind required.0 (literal_at required.1)

abbrev kind_on : List ℕ → ReadBytes ItemKind → ReadBytes Item
kind_on name kind = required_on name kind.0 (flag_at kind.1)

abbrev name_on : ReadBytes (List ℕ) → ReadBytes Item
name_on name = kind_on name.0 (kind_at name.1)

pub two : (a b rest : List ℕ) → a ++ b ++ rest ≡ a ++ (b ++ rest)
two a b rest = append_assoc a b rest

pub three : (a b c rest : List ℕ) → a ++ b ++ c ++ rest ≡ a ++ (b ++ (c ++ rest))
three a b c rest = append_assoc (a ++ b) c rest ∙ append_assoc a b (c ++ rest)

pub four : (a b c d rest : List ℕ) → a ++ b ++ c ++ d ++ rest ≡ a ++ (b ++ (c ++ (d ++ rest)))
four a b c d rest = append_assoc (a ++ b ++ c) d rest ∙ three a b c (d ++ rest)

pub item_again : (i : Item) → SpelledItem i → Again item_at (item_bytes i) i
unfolding item_at item_bytes
item_again i good rest =
    let n = name_bytes i.name in
    let k = kind_bytes i.kind in
    let f = flag i.required ∷ [] in
    let l = literal_bytes i.initial in
    ap item_at (four n k f l rest)
    ∙ ap name_on (name_again i.name good.name (k ++ (f ++ (l ++ rest))))
    ∙ ap (kind_on i.name) (kind_again i.kind good.kind (f ++ (l ++ rest)))
    ∙ ap (required_on i.name i.kind) (flag_again i.required (l ++ rest))
    ∙ ap (item_of i.name i.kind i.required) (literal_again i.initial good.initial rest)

abbrev group_of : ReadBytes (List ℕ) → ReadBytes Group
group_of name = (record { name = name.0; first = (byte_at name.1).0; count = (byte_at (byte_at name.1).1).0 }, (byte_at (byte_at name.1).1).1)

pub group_again : (g : Group) → is_name g.name ≡ true → Again group_at (group_bytes g) g
unfolding group_at group_bytes
group_again g good rest =
    ap group_at (append_assoc (name_bytes g.name) (g.first ∷ g.count ∷ []) rest)
    ∙ ap group_of (name_again g.name good (g.first ∷ g.count ∷ rest))

abbrev part_of : ℕ → ReadBytes Bool → ReadBytes KeyPart
part_of item d = (record { item = item; descending = d.0 }, d.1)

pub part_again : (p : KeyPart) → Again part_at (part_bytes p) p
unfolding part_at part_bytes
part_again p rest = ap (part_of p.item) (flag_again p.descending rest)

-- ---- lists

-- each element is read again, the first one known by k
abbrev pub EachAgain : {A : Type 0} → (ℕ → List ℕ → ReadBytes A) → (A → List ℕ) → ℕ → List A → Type 0
EachAgain one spell k [] = Unit {0}
EachAgain one spell k (x ∷ xs) = Again (one k) (spell x) x × EachAgain one spell (k + 1) xs

abbrev first_on : {A : Type 0} → (ℕ → List ℕ → ReadBytes A) → ℕ → ℕ → ReadBytes A → ReadBytes (List A)
first_on one k n first = (first.0 ∷ (several one k n first.1).0, (several one k n first.1).1)

abbrev rest_on : {A : Type 0} → A → ReadBytes (List A) → ReadBytes (List A)
rest_on first others = (first ∷ others.0, others.1)

pub several_again : {A : Type 0} (one : ℕ → List ℕ → ReadBytes A) (spell : A → List ℕ) (k : ℕ) (xs : List A) → EachAgain one spell k xs → Again (several one k (length xs)) (flat_map spell xs) xs
unfolding several
several_again one spell k [] each rest = refl
several_again {A} one spell k (x ∷ xs) each rest =
    let regrouped : flat_map spell (x ∷ xs) ++ rest ≡ spell x ++ (flat_map spell xs ++ rest) = ap (λ (l : List ℕ). l ++ rest) (flat_map-cons spell x xs) ∙ append_assoc (spell x) (flat_map spell xs) rest in
    ap (several one k (suc (length xs))) regrouped
    ∙ ap (first_on one (k + 1) (length xs)) (each.0 (flat_map spell xs ++ rest))
    ∙ ap (rest_on x) (several_again one spell (k + 1) xs each.1 rest)

pub list_again : {A : Type 0} (one : List ℕ → ReadBytes A) (spell : A → List ℕ) (xs : List A) → length xs ≤ 255 → EachAgain (λ k. one) spell 1 xs → Again (list_at one) (count_byte xs ∷ flat_map spell xs) xs
unfolding list_at
list_again {A} one spell xs few each rest =
    ap (λ (n : ℕ). several (λ k. one) 1 n (flat_map spell xs ++ rest)) (small_count (length xs) few)
    ∙ several_again (λ k. one) spell 1 xs each rest

-- what holds for each element that passes a test holds for each of a list that passes it
pub each_again : {A : Type 0} (one : List ℕ → ReadBytes A) (spell : A → List ℕ) (test : A → Bool) → ((x : A) → test x ≡ true → Again one (spell x) x) → (k : ℕ) (xs : List A) → list_all test xs ≡ true → EachAgain (λ k. one) spell k xs
each_again one spell test law k [] all = tt
each_again one spell test law k (x ∷ xs) all =
    let parts = and_parts (test x) (list_all test xs) all in
    (law x parts.0, each_again one spell test law (k + 1) xs parts.1)
