-- The links of a stored record change none of its entries.
use Rattle.std.proofs.Common.{◌≡◌, ℕ, zero, suc, ◌+◌, ◌-◌, ◌^◌, ◌<◌, List, [], ◌∷◌, Bool, true, false, cond, Some, None, refl, sym, ap, ◌∙◌, arith, slice_get}
use Rattle.std.specs.Prelude.{◌&&◌, ◌||◌, not, ◌==◌}
use Rattle.std.specs.List.{AllByRecursion}
use Rattle.std.specs.declared.option.Option.{Option}
use Rattle.std.specs.FinMap.{get, entries}
use Rattle.dms_base.specs.declared.value.Value.{Value}
use Rattle.dms_base.specs.declared.kind.ItemKind.{ItemKind}
use Rattle.dms_desc.specs.declared.structure.Item.{Item}
use Rattle.dms_desc.specs.declared.structure.KeyPart.{KeyPart}
use Rattle.dms_desc.specs.declared.record.Record.{Record}
use Rattle.dms_desc.specs.Shape.{Shape, Described, Tree, Empty, Test, Both, Either, Contrary}
use Rattle.dms_desc.specs.Conds.{or_null, item_of, meets, compares}
use Rattle.dms_model.specs.declared.put.Put.TheVariants.{Stored}
use Rattle.dms_model.specs.Db.{Db, Place}
use Rattle.dms_desc.specs.Keys.{key_of}
use Rattle.dms_desc.specs.Kinds.{takes, over, is_link}
use Rattle.dms_desc.specs.Lookups.{structure_of, items_of}
use Rattle.dms_model.specs.Stores.{kept_value, linked_from, with_links_of, values_of, put_after, kept_owner}
use Rattle.dms_sets.specs.Listing.{member_opt, AllPlaces}
use Rattle.dms_sets.specs.Sets.{entry_of, entries_of, items_over, kinds_over, IsSmall, entries_put}
use Rattle.dms_sets.specs.Entries.{entry_bytes}
use Rattle.dms_chain.specs.Lists.{with_in, without_in}

abbrev pub is_link_at : Option Item → Bool
is_link_at None = false
is_link_at (Some k) = is_link k.kind

kept_new : (k : Option Item) (old new : Value) → is_link_at k ≡ false → kept_value k old new ≡ new
kept_new None old new h = refl
kept_new (Some k) old new h = ap (λ b. cond b old new) h

value_kept : (i : ℕ) (items : List Item) (olds vs : List Value) (j : ℕ) → is_link_at (slice_get items (i + j)) ≡ false → or_null (slice_get (linked_from i items olds vs) j) ≡ or_null (slice_get vs j)
value_kept i items olds [] j h = refl
value_kept i items olds (v ∷ vs) zero h = kept_new (slice_get items i) (or_null (slice_get olds i)) v (ap (λ n. is_link_at (slice_get items n)) (omega arith) ∙ h)
value_kept i items olds (v ∷ vs) (suc j) h = value_kept (i + 1) items olds vs j (ap (λ n. is_link_at (slice_get items n)) (omega arith) ∙ h)

-- a part, and a condition, that names no link
abbrev pub NamesNoLink : List Item → ℕ → Type 0
NamesNoLink items item = is_link_at (slice_get items (item - 1)) ≡ false

abbrev pub TestsNoLink : List Item → Tree → Type 0
TestsNoLink items Empty = Unit {0}
TestsNoLink items (Test item op v) = NamesNoLink items item
TestsNoLink items (Both a b) = TestsNoLink items a × TestsNoLink items b
TestsNoLink items (Either a b) = TestsNoLink items a × TestsNoLink items b
TestsNoLink items (Contrary a) = TestsNoLink items a

item_kept : (items : List Item) (olds vs : List Value) (item : ℕ) → NamesNoLink items item → item_of (linked_from 0 items olds vs) item ≡ item_of vs item
item_kept items olds vs item h = value_kept 0 items olds vs (item - 1) (ap (λ n. is_link_at (slice_get items n)) (omega arith) ∙ h)

key_kept : (items : List Item) (olds vs : List Value) (ps : List KeyPart) → AllByRecursion (λ p. NamesNoLink items p.item) ps → key_of ps (linked_from 0 items olds vs) ≡ key_of ps vs
key_kept items olds vs [] all = refl
key_kept items olds vs (p ∷ ps) all = λ i. item_kept items olds vs p.item all.0 i ∷ key_kept items olds vs ps all.1 i

meets_kept : (items : List Item) (olds vs : List Value) (t : Tree) → TestsNoLink items t → meets t (linked_from 0 items olds vs) ≡ meets t vs
meets_kept items olds vs Empty h = refl
meets_kept items olds vs (Test item op v) h = ap (λ x. compares op x v) (item_kept items olds vs item h)
meets_kept items olds vs (Both a b) h = λ i. meets_kept items olds vs a h.0 i && meets_kept items olds vs b h.1 i
meets_kept items olds vs (Either a b) h = λ i. meets_kept items olds vs a h.0 i || meets_kept items olds vs b h.1 i
meets_kept items olds vs (Contrary a) h = ap not (meets_kept items olds vs a h)

pub record NamesNoLinks (items : List Item) (s : Shape) : Type 0 where
  pub parts : AllByRecursion (λ p. NamesNoLink items p.item) s.parts
  pub cond : TestsNoLink items s.cond

-- the record, with the owner of the one that it replaces
abbrev pub owned_as : Option Record → Record → Record
owned_as old rec = record { owner = kept_owner old rec.owner; values = rec.values }

-- the entry in a set of what is stored for a record under a number
abbrev pub put_entry : Described → Db → Shape → ℕ → ℕ → Record → Option (List ℕ)
put_entry desc db s set n rec = entry_of (kinds_over desc s) s (set, n) (owned_as (get db.records (set, n)) rec)

-- the entry of a record, with the owner of the one that it replaces, is that of what is stored for it
pub entry_kept : (kinds : List ItemKind) (items : List Item) (s : Shape) (k : Place) (old : Option Record) (rec : Record) → NamesNoLinks items s → entry_of kinds s k (with_links_of items old rec) ≡ entry_of kinds s k (owned_as old rec)
entry_kept kinds items s k old rec none =
    let key = key_kept items (values_of old) rec.values s.parts none.parts in
    let test : takes s (with_links_of items old rec).values ≡ takes s rec.values = ap (λ b. cond (s.kind == 4) b true) (meets_kept items (values_of old) rec.values s.cond none.cond) in
    λ i. cond ((over s == k.0) && test i) (Some (entry_bytes kinds s.parts (kept_owner old rec.owner) (key i) k.1)) None

-- What storing a record leaves of a set over its data set: the old entries without that of the record that it replaces, and with its own.
pub entries_stored : (desc : Described) (db : Db) (s : Shape) (set n : ℕ) (rec : Record) → AllPlaces IsSmall (entries db.records) → n < 2 ^ 32 → over s ≡ set → NamesNoLinks (items_over desc s) s
    → entries_of desc (put_after (Stored n) desc db set rec) s
    ≡ with_in (put_entry desc db s set n rec) (without_in (member_opt (entry_of (kinds_over desc s) s) (set, n) (get db.records (set, n))) (entries_of desc db s))
entries_stored desc db s set n rec all small at none =
    entries_put desc db s set n rec all small
    ∙ ap (λ o. with_in o (without_in (member_opt (entry_of (kinds_over desc s) s) (set, n) (get db.records (set, n))) (entries_of desc db s)))
    (ap (λ m. entry_of (kinds_over desc s) s (set, n) (with_links_of (items_of (structure_of desc m)) (get db.records (set, n)) rec)) (sym at) ∙ entry_kept (kinds_over desc s) (items_over desc s) s (set, n) (get db.records (set, n)) rec none)
