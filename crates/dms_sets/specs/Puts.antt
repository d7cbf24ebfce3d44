-- One put: what it answers, and what it makes of each set.
use Rattle.std.proofs.Common.{◌≡◌, ℕ, ◌^◌, ◌<◌, List, [], ◌∷◌, true, Some, sym, subst}
use Rattle.std.specs.Prelude.{not}
use Rattle.std.specs.List.{AllByRecursion}
use Rattle.std.specs.FinMap.{entries}
use Rattle.dms_base.specs.declared.kind.ItemKind.{ItemKind}
use Rattle.dms_desc.specs.declared.record.Record.{Record}
use Rattle.dms_desc.specs.Shape.{Shape, Described}
use Rattle.dms_model.specs.declared.put.Put.TheVariants.{Stored}
use Rattle.dms_model.specs.Db.{Db, Place}
use Rattle.dms_desc.specs.Kinds.{takes, over}
use Rattle.dms_desc.specs.Lookups.{structure_of, items_of}
use Rattle.dms_model.specs.Stores.{put_after, is_closed}
use Rattle.dms_sets.specs.Listing.{AllPlaces}
use Rattle.dms_sets.specs.Sets.{entries_of, items_over, kinds_over, IsSmall}
use Rattle.dms_sets.specs.Owners.{EntriesFit}
use Rattle.dms_sets.specs.Answers.{AreJudged, closed_is, old_entry}
use Rattle.dms_sets.specs.Spots.{ValuesFit, NameItems, RecordsHaveSpots, all_fit, key_fits}
use Rattle.dms_sets.specs.Stored.{NamesNoLinks, entries_stored, put_entry}
use Rattle.dms_chain.specs.Lists.{with_in, without_in}

-- each part of a key names an item that is no link, and so does each comparison of WHERE
pub record IsNamed (desc : Described) (s : Shape) : Type 0 where
  pub items : NameItems (items_over desc s) s.parts
  pub links : NamesNoLinks (items_over desc s) s

-- a record that may be put: its owner, and its values
pub record MayCome (desc : Described) (set : ℕ) (rec : Record) : Type 0 where
  pub owner : rec.owner < 2 ^ 32
  pub values : ValuesFit (items_of (structure_of desc set)) rec.values

judges_put : (desc : Described) (db : Db) (set : ℕ) (rec : Record) (s : Shape) → IsNamed desc s → RecordsHaveSpots desc db → MayCome desc set rec → is_closed s set rec.values ≡ true → AreJudged desc db rec s
judges_put desc db set rec s named fits may closed =
    let able = closed_is s set (not s.duplicates) (takes s rec.values) closed in
    record {
      all = all_fit desc db s named.items fits;
      key = key_fits (items_over desc s) s.parts rec.values (subst (λ n. ValuesFit (items_of (structure_of desc n)) rec.values) (sym able.over) may.values) named.items;
    }

pub all_judged : (desc : Described) (db : Db) (set : ℕ) (rec : Record) (ss : List Shape) → AllByRecursion (IsNamed desc) ss → RecordsHaveSpots desc db → MayCome desc set rec → AllByRecursion (λ s. is_closed s set rec.values ≡ true → AreJudged desc db rec s) ss
all_judged desc db set rec [] named fits may = tt
all_judged desc db set rec (s ∷ ss) named fits may = ((λ h. judges_put desc db set rec s named.0 fits may h), all_judged desc db set rec ss named.1 fits may)

pub all_small : (kinds : List ItemKind) (s : Shape) (es : List (Place × Record)) → EntriesFit kinds s es → AllPlaces IsSmall es
all_small kinds s [] all = tt
all_small kinds s (e ∷ es) all = (all.0.small, all_small kinds s es all.1)

-- And it leaves in each set over the data set the old entries without that of the record that it replaces, and with its own, for
-- the owner that is stored.
pub put_leaves : (desc : Described) (db : Db) (s : Shape) (set n : ℕ) (rec : Record) → IsNamed desc s → RecordsHaveSpots desc db → n < 2 ^ 32 → over s ≡ set
    → entries_of desc (put_after (Stored n) desc db set rec) s
    ≡ with_in (put_entry desc db s set n rec) (without_in (old_entry (kinds_over desc s) s db.records set (Some n)) (entries_of desc db s))
put_leaves desc db s set n rec named fits small at =
    entries_stored desc db s set n rec (all_small (kinds_over desc s) s (entries db.records) (all_fit desc db s named.items fits)) small at named.links
