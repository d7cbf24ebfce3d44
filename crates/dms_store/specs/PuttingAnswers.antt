-- What the change of the sets and manual subsets answers is what storing the record answers.
use Rattle.std.proofs.Common.{◌≡◌, ◌+◌, ◌^◌, ◌<◌, ℕ, List, [], ◌∷◌, true, Some, sym, subst}
use Rattle.std.specs.Prelude.{◌&&◌, ◌==◌, not}
use Rattle.std.specs.List.{AllByRecursion}
use Rattle.std.specs.declared.option.Option.{Option}
use Rattle.std.specs.FinMap.{get}
use Rattle.std.proofs.lemmas.Bool.{and_parts}
use Rattle.dms_base.specs.declared.value.Value.{Value}
use Rattle.dms_block.specs.Content.{Content}
use Rattle.dms_desc.specs.Kinds.{takes, is_set_or_automatic}
use Rattle.dms_desc.specs.Lookups.{items_of, structure_of}
use Rattle.dms_desc.specs.Shape.{Shape, Described}
use Rattle.dms_desc.specs.declared.record.Record.{Record}
use Rattle.dms_links.specs.Rows as links
use Rattle.dms_links.specs.Stands.{tally_of}
use Rattle.dms_manual.specs.Following.{AllMovesStand}
use Rattle.dms_model.specs.Db.{Db}
use Rattle.dms_model.specs.Fitting.{RecordFits}
use Rattle.dms_model.specs.Stores.{is_closed, put_answer, put_number, put_unless, record_to_store}
use Rattle.dms_model.specs.Strict.{AreNumbered, lesser, manual_clash}
use Rattle.dms_sets.specs.Answers.{AreJudged, IsFoundNumber, answer_is, clash_seen, closed_is}
use Rattle.dms_sets.specs.Puts.{MayCome}
use Rattle.dms_sets.specs.Sets.{items_over}
use Rattle.dms_sets.specs.Spots.{RecordsHaveSpots, ValuesFit, key_fits}
use Rattle.dms_sets.specs.Spots as spots
use Rattle.dms_sets.specs.Told.{ChangeStands}
use Rattle.dms_spelling.specs.Back.{spelled_files}
use Rattle.dms_spelling.specs.Holds.{all_moves_stand, comes}
use Rattle.dms_spelling.specs.Holds as changes
use Rattle.dms_spelling.specs.Serving.{IsServed, IsServedSet}
use Rattle.dms_spelling.specs.Spelled.{database_in}
use Rattle.dms_store.specs.SpelledLaws.{spelled_fits}

-- ---- the change of the sets stands

-- a record that fits may be changed in the lists of the sets of its data set
pub change_stands : (desc : Described) (c : Content) (db : Db) (set number : ℕ) (s : Shape) (old : Option Record) (made : Record) → IsServed desc → database_in desc c ≡ Some db → structure_of desc set ≡ Some s → number < 2 ^ 32
    → get db.records (set, number) ≡ old → RecordFits desc set made → ChangeStands desc db set number old (Some made)
change_stands desc c db set number s old made served spelt at small was fits =
    changes.change_stands desc served db (tally_of desc db) c (spelled_files desc c db served spelt).slots set number old (Some made) small was (comes desc set s made served at fits)

-- and so may its entries in the manual subsets
pub moves_stand : (desc : Described) (c : Content) (db : Db) (set number : ℕ) (s : Shape) (old made : Record) → IsServed desc → database_in desc c ≡ Some db → structure_of desc set ≡ Some s → get db.records (set, number) ≡ Some old → RecordFits desc set made
    → AllMovesStand desc db set number old made
moves_stand desc c db set number s old made served spelt at was fits =
    let files = spelled_files desc c db served spelt in
    all_moves_stand desc served db (tally_of desc db) c files.slots files.lists files.entries set number old made was (comes desc set s made served at fits)

-- ---- the answer

closed_kept : (s : Shape) (set : ℕ) (values : List Value) → is_closed s set values ≡ true → is_set_or_automatic s ≡ true
closed_kept s set values h =
    let four = and_parts (is_set_or_automatic s && (s.set == set) && not s.duplicates) (takes s values) h in
    let three = and_parts (is_set_or_automatic s && (s.set == set)) (not s.duplicates) four.0 in
    (and_parts (is_set_or_automatic s) (s.set == set) three.0).0

one_judged : (desc : Described) (db : Db) (set : ℕ) (made : Record) (s : Shape) → IsServedSet desc s → RecordsHaveSpots desc db → MayCome desc set made → is_closed s set made.values ≡ true → AreJudged desc db made s
one_judged desc db set made s served fits may closed =
    let able = closed_is s set (not s.duplicates) (takes s made.values) closed in
    record {
      all = spots.all_fit desc db s served.named.items fits;
      key = key_fits (items_over desc s) s.parts made.values (subst (λ n. ValuesFit (items_of (structure_of desc n)) made.values) (sym able.over) may.values) served.named.items;
    }

all_judged : (desc : Described) (db : Db) (set : ℕ) (made : Record) (ss : List Shape) → AllByRecursion (λ s. is_set_or_automatic s ≡ true → IsServedSet desc s) ss → RecordsHaveSpots desc db → MayCome desc set made → AllByRecursion (λ s. is_closed s set made.values ≡ true → AreJudged desc db made s) ss
all_judged desc db set made [] sets fits may = tt
all_judged desc db set made (s ∷ ss) sets fits may = ((λ h. one_judged desc db set made s (sets.0 (closed_kept s set made.values h)) fits may h), all_judged desc db set made ss sets.1 fits may)

-- the first structure that refuses a record: the lesser of the first set and the first manual subset
abbrev pub refusal : Described → Db → ℕ → Option ℕ → Record → Option ℕ
refusal desc db set number made = lesser (clash_seen desc desc.structures db set number made) (manual_clash desc.structures db set number made)

strict_numbered : (k : ℕ) (ss : List Shape) → links.AreNumbered k ss → AreNumbered k ss
strict_numbered k [] all = tt
strict_numbered k (s ∷ ss) all = (all.0, strict_numbered (k + 1) ss all.1)

-- what storing a record answers, by what the sets and manual subsets refuse
pub answers : (desc : Described) (c : Content) (db : Db) (set : ℕ) (s : Shape) (number : Option ℕ) (rec : Record) → IsServed desc → database_in desc c ≡ Some db → structure_of desc set ≡ Some s → IsFoundNumber number → RecordFits desc set (record_to_store desc db set number rec)
    → put_answer desc db set number rec ≡ put_unless (refusal desc db set number (record_to_store desc db set number rec)) (put_number desc db set number)
unfolding put_answer
answers desc c db set s number rec served spelt at small fits =
    let made = record_to_store desc db set number rec in
    let may = comes desc set s made served at fits in
    answer_is desc db set number made (strict_numbered 1 desc.structures served.numbered) fits.owner small (all_judged desc db set made desc.structures served.sets (spelled_fits desc c db served spelt) may)
