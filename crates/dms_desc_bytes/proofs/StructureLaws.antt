-- A structure that was written is read again.
use Rattle.std.proofs.Common.{◌≡◌, ℕ, ◌+◌, ◌^◌, ◌<◌, ◌≤◌, Bool, true, false, cond, eqb, List, [], ◌∷◌, ◌++◌, length, refl, sym, ap, ◌∙◌, append_assoc}
use Rattle.std.specs.List.{flat_map}
use Rattle.std.specs.Int.{w16, w32, to_be_bytes}
use Rattle.dms_base.specs.Name.{is_name}
use Rattle.dms_desc.specs.declared.structure.Item.{Item}
use Rattle.dms_desc.specs.declared.structure.Group.{Group}
use Rattle.dms_desc.specs.declared.structure.KeyPart.{KeyPart}
use Rattle.dms_desc.specs.Shape.{Tree, Shape}
use Rattle.dms_desc.specs.Shape.Tree.{Empty}
use Rattle.dms_desc_bytes.specs.declared.reading.Head.{Head}
use Rattle.dms_desc_bytes.specs.Reading.{ReadBytes, known_kind, known_form, byte_at, name_at, number_at, flag_at, list_at, item_at, group_at, part_at, tree_at, data_set_at, where_at, set_at, fields_at, structure_at}
use Rattle.dms_desc_bytes.specs.Spelling.{count_byte, flag, name_bytes, item_bytes, group_bytes, part_bytes, tree_bytes, data_set_bytes, where_bytes, set_bytes, is_data_set, structure_bytes}
use Rattle.dms_desc_bytes.proofs.Fields.{Again, u16_again, u32_again, flag_again}
use Rattle.dms_desc_bytes.proofs.Values.{name_again}
use Rattle.dms_desc_bytes.proofs.MemberLaws.{EachAgain, list_again, part_again, three}

abbrev pub head_of : Shape → Head
head_of s = record { number = s.number; kind = s.kind; name = s.name; owner = s.owner }

-- a data set that a description can spell
pub record SpelledDataSet (s : Shape) : Type 0 where
  pub known : known_kind s.kind ≡ s.kind
  pub population : s.population < 2 ^ 32
  pub few_items : length s.items ≤ 255
  pub items : EachAgain (λ k. item_at) item_bytes 1 s.items
  pub few_groups : length s.groups ≤ 255
  pub groups : EachAgain (λ k. group_at) group_bytes 1 s.groups
  pub verify : Again (tree_at 100) (tree_bytes s.cond) s.cond
  pub no_set : s.set ≡ 0
  pub no_form : s.form ≡ 0
  pub no_duplicates : s.duplicates ≡ false
  pub no_parts : s.parts ≡ []

-- a set or subset that a description can spell
pub record SpelledSet (s : Shape) : Type 0 where
  pub known : known_kind s.kind ≡ s.kind
  pub known_form : known_form s.form ≡ s.form
  pub set : s.set < 2 ^ 16
  pub population : s.population < 2 ^ 32
  pub few_parts : length s.parts ≤ 255
  pub has_where : eqb s.kind 4 ≡ true → Again (tree_at 100) (tree_bytes s.cond) s.cond
  pub no_where : eqb s.kind 4 ≡ false → s.cond ≡ Empty
  pub no_items : s.items ≡ []
  pub no_groups : s.groups ≡ []

seven : (a b c : List ℕ) (d : ℕ) (e f rest : List ℕ) → a ++ b ++ c ++ d ∷ [] ++ e ++ f ++ rest ≡ a ++ (b ++ (c ++ ((d ∷ e) ++ (f ++ rest))))
seven a b c d e f rest =
    append_assoc (a ++ b ++ c ++ d ∷ [] ++ e) f rest
    ∙ append_assoc (a ++ b ++ c ++ d ∷ []) e (f ++ rest)
    ∙ append_assoc (a ++ b ++ c) (d ∷ []) (e ++ (f ++ rest))
    ∙ three a b c ((d ∷ e) ++ (f ++ rest))

-- ---- data sets

abbrev data_set_of : Head → ℕ → List Item → List Group → Tree → Shape
data_set_of h population items groups t = record { number = h.number; kind = known_kind h.kind; name = h.name; owner = h.owner; population = population; items = items; groups = groups; cond = t; set = 0; form = 0; duplicates = false; parts = [] }

abbrev groups_on : Head → ℕ → List Item → ReadBytes (List Group) → ReadBytes Shape
groups_on h population items groups = (data_set_of h population items groups.0 (tree_at 100 groups.1).0, (tree_at 100 groups.1).1)

abbrev items_on : Head → ℕ → ReadBytes (List Item) → ReadBytes Shape
items_on h population items = groups_on h population items.0 (list_at group_at items.1)

abbrev population_on : Head → ReadBytes ℕ → ReadBytes Shape
population_on h population = items_on h population.0 (list_at item_at population.1)

same_data_set : (s : Shape) → SpelledDataSet s → data_set_of (head_of s) s.population s.items s.groups s.cond ≡ s
same_data_set s good = λ i. record { number = s.number; kind = good.known i; name = s.name; owner = s.owner; population = s.population; items = s.items; groups = s.groups; cond = s.cond; set = sym good.no_set i; form = sym good.no_form i; duplicates = sym good.no_duplicates i; parts = sym good.no_parts i }

data_set_again : (s : Shape) → SpelledDataSet s → Again (data_set_at (head_of s)) (data_set_bytes s) s
unfolding data_set_at data_set_bytes
data_set_again s good rest =
    let h = head_of s in
    let p = to_be_bytes w32 s.population in
    let is = flat_map item_bytes s.items in
    let gs = flat_map group_bytes s.groups in
    let t = tree_bytes s.cond in
    let after_items = (count_byte s.groups ∷ gs) ++ (t ++ rest) in
    ap (data_set_at h) (seven p (count_byte s.items ∷ []) is (count_byte s.groups) gs t rest)
    ∙ ap (population_on h) (u32_again s.population good.population ((count_byte s.items ∷ is) ++ after_items))
    ∙ ap (items_on h s.population) (list_again item_at item_bytes s.items good.few_items good.items after_items)
    ∙ ap (groups_on h s.population s.items) (list_again group_at group_bytes s.groups good.few_groups good.groups (t ++ rest))
    ∙ ap (λ (r : ReadBytes Tree). (data_set_of h s.population s.items s.groups r.0, r.1)) (good.verify rest)
    ∙ ap (λ (x : Shape). (x, rest)) (same_data_set s good)

-- ---- sets and subsets

where_case : (b : Bool) (t : Tree) (rest : List ℕ) → (b ≡ true → Again (tree_at 100) (tree_bytes t) t) → (b ≡ false → t ≡ Empty) → ◌≡◌ {A = ReadBytes Tree} (cond b (tree_at 100 (cond b (tree_bytes t) [] ++ rest)) (Empty, cond b (tree_bytes t) [] ++ rest)) (t, rest)
where_case true t rest has lacks = has refl rest
where_case false t rest has lacks = ap (λ (x : Tree). (x, rest)) (sym (lacks refl))

where_again : (s : Shape) → SpelledSet s → Again (where_at s.kind) (where_bytes s) s.cond
unfolding where_at
where_again s good rest = where_case (eqb s.kind 4) s.cond rest good.has_where good.no_where

abbrev set_of : Head → ℕ → ℕ → Bool → ℕ → List KeyPart → Tree → Shape
set_of h set form duplicates population parts t = record { number = h.number; kind = known_kind h.kind; name = h.name; owner = h.owner; population = population; items = []; groups = []; cond = t; set = set; form = known_form form; duplicates = duplicates; parts = parts }

abbrev parts_on : Head → ℕ → ℕ → Bool → ℕ → ReadBytes (List KeyPart) → ReadBytes Shape
parts_on h set form duplicates population parts = (set_of h set form duplicates population parts.0 (where_at h.kind parts.1).0, (where_at h.kind parts.1).1)

abbrev entries_on : Head → ℕ → ℕ → Bool → ReadBytes ℕ → ReadBytes Shape
entries_on h set form duplicates population = parts_on h set form duplicates population.0 (list_at part_at population.1)

abbrev duplicates_on : Head → ℕ → ℕ → ReadBytes Bool → ReadBytes Shape
duplicates_on h set form duplicates = entries_on h set form duplicates.0 (number_at w32 duplicates.1)

abbrev set_on : Head → ReadBytes ℕ → ReadBytes Shape
set_on h set = duplicates_on h set.0 (byte_at set.1).0 (flag_at (byte_at set.1).1)

same_set : (s : Shape) → SpelledSet s → set_of (head_of s) s.set s.form s.duplicates s.population s.parts s.cond ≡ s
same_set s good = λ i. record { number = s.number; kind = good.known i; name = s.name; owner = s.owner; population = s.population; items = sym good.no_items i; groups = sym good.no_groups i; cond = s.cond; set = s.set; form = good.known_form i; duplicates = s.duplicates; parts = s.parts }

all_parts : (k : ℕ) (ps : List KeyPart) → EachAgain (λ n. part_at) part_bytes k ps
all_parts k [] = tt
all_parts k (p ∷ ps) = (part_again p, all_parts (k + 1) ps)

set_again : (s : Shape) → SpelledSet s → Again (set_at (head_of s)) (set_bytes s) s
unfolding set_at set_bytes
set_again s good rest =
    let h = head_of s in
    let d = to_be_bytes w16 s.set in
    let p = to_be_bytes w32 s.population in
    let ps = flat_map part_bytes s.parts in
    let w = where_bytes s in
    let after_flag = p ++ ((count_byte s.parts ∷ ps) ++ (w ++ rest)) in
    ap (set_at h) (seven d (s.form ∷ flag s.duplicates ∷ []) p (count_byte s.parts) ps w rest)
    ∙ ap (set_on h) (u16_again s.set good.set ((s.form ∷ flag s.duplicates ∷ []) ++ after_flag))
    ∙ ap (duplicates_on h s.set s.form) (flag_again s.duplicates after_flag)
    ∙ ap (entries_on h s.set s.form s.duplicates) (u32_again s.population good.population ((count_byte s.parts ∷ ps) ++ (w ++ rest)))
    ∙ ap (parts_on h s.set s.form s.duplicates s.population) (list_again part_at part_bytes s.parts good.few_parts (all_parts 1 s.parts) (w ++ rest))
    ∙ ap (λ (r : ReadBytes Tree). (set_of h s.set s.form s.duplicates s.population s.parts r.0, r.1)) (where_again s good rest)
    ∙ ap (λ (x : Shape). (x, rest)) (same_set s good)

-- ---- structures

-- a structure that a description can spell
pub record SpelledShape (s : Shape) : Type 0 where
  pub name : is_name s.name ≡ true
  pub owner : s.owner < 2 ^ 16
  pub data_set : is_data_set s.kind ≡ true → SpelledDataSet s
  pub set : is_data_set s.kind ≡ false → SpelledSet s

fields_case : (b : Bool) (s : Shape) (rest : List ℕ) → (b ≡ true → SpelledDataSet s) → (b ≡ false → SpelledSet s) → ◌≡◌ {A = ReadBytes Shape} (cond b (data_set_at (head_of s) (cond b (data_set_bytes s) (set_bytes s) ++ rest)) (set_at (head_of s) (cond b (data_set_bytes s) (set_bytes s) ++ rest))) (s, rest)
fields_case true s rest data_set set = data_set_again s (data_set refl) rest
fields_case false s rest data_set set = set_again s (set refl) rest

fields_again : (s : Shape) → SpelledShape s → Again (fields_at (head_of s)) (cond (is_data_set s.kind) (data_set_bytes s) (set_bytes s)) s
unfolding fields_at
fields_again s good rest = fields_case (is_data_set s.kind) s rest good.data_set good.set

abbrev owner_on : ℕ → ℕ → List ℕ → ReadBytes ℕ → ReadBytes Shape
owner_on n kind name owner = fields_at (record { number = n; kind = kind; name = name; owner = owner.0 }) owner.1

abbrev name_on : ℕ → ℕ → ReadBytes (List ℕ) → ReadBytes Shape
name_on n kind name = owner_on n kind name.0 (number_at w16 name.1)

pub structure_again : (s : Shape) → SpelledShape s → Again (structure_at s.number) (structure_bytes s) s
unfolding structure_at structure_bytes
structure_again s good rest =
    let n = name_bytes s.name in
    let o = to_be_bytes w16 s.owner in
    let f = cond (is_data_set s.kind) (data_set_bytes s) (set_bytes s) in
    ap (λ (bytes : List ℕ). name_on s.number s.kind (name_at bytes)) (three n o f rest)
    ∙ ap (name_on s.number s.kind) (name_again s.name good.name (o ++ (f ++ rest)))
    ∙ ap (owner_on s.number s.kind s.name) (u16_again s.owner good.owner (f ++ rest))
    ∙ fields_again s good rest
