-- The blocks of the files of a content that spells a database.
use Rattle.std.proofs.Common.{◌≡◌, ◌∙◌, ◌-◌, ◌<◌, ℕ, zero, suc, List, [], ◌∷◌, Bool, true, Some, sym, ap, length, get_or, arith}
use Rattle.std.specs.List.{list_all}
use Rattle.std.proofs.lemmas.Bool.{and_parts}
use Rattle.std.proofs.lemmas.Bool.Decides.{nat_tests}
use Rattle.dms_block.specs.Content.{Content, block_in}
use Rattle.dms_desc.specs.Files.{file_of}
use Rattle.dms_desc.specs.Lookups.{structure_of}
use Rattle.dms_desc.specs.Shape.{Shape, Described}
use Rattle.dms_links.specs.Rows.{file_in}
use Rattle.dms_links.specs.Stands.{tally_of}
use Rattle.dms_model.specs.Valid.{is_data_set}
use Rattle.dms_slots.specs.SlotBlocks.{is_block}
use Rattle.dms_spelling.specs.Back.{spelled_files, spelled_fit}
use Rattle.dms_spelling.specs.Serving.{IsServed}
use Rattle.dms_spelling.specs.Spelled.{database_in, db_in, is_spelled, is_whole, some_if}
use Rattle.dms_spelling.specs.Stands.{StandsFiles}
use Rattle.dms_store.specs.Lifted.{IsStructureFile}

-- what such a content spells is what it reads as
pub spelled_is : (desc : Described) (c : Content) → is_spelled desc c ≡ true → database_in desc c ≡ Some (db_in desc c)
spelled_is desc c spelt = ap (λ t. some_if t (db_in desc c)) spelt

pub files_in : (desc : Described) (c : Content) → IsServed desc → is_spelled desc c ≡ true → StandsFiles desc (db_in desc c) (tally_of desc (db_in desc c)) c
files_in desc c served spelt = spelled_files desc c (db_in desc c) served (spelled_is desc c spelt)

pub all_of : (p : List ℕ → Bool) (bs : List (List ℕ)) (b : ℕ) → list_all p bs ≡ true → b < length bs → p (get_or bs b []) ≡ true
all_of p [] b all low = absurd (omega (arith, low))
all_of p (x ∷ bs) zero all low = (and_parts (p x) (list_all p bs) all).0
all_of p (x ∷ bs) (suc b) all low = all_of p bs b (and_parts (p x) (list_all p bs) all).1 (omega (arith, low))

whole_long : (b : List ℕ) → is_whole b ≡ true → length b ≡ 1024
whole_long b h = grind (arith, nat_tests, h)

-- each block of a structure's file has 1,024 bytes
pub whole_at : (desc : Described) (c : Content) (file b : ℕ) → is_spelled desc c ≡ true → IsStructureFile file → b < length (c file) → length (block_in c file b) ≡ 1024
whole_at desc c file b spelt is low =
    let n : ℕ = file - 30000 in
    let e : file_of n ≡ file = omega (arith, is.low) in
    let fits = spelled_fit desc c spelt n (omega (arith, is.low)) (omega (arith, is.low, is.most)) in
    whole_long (get_or (c file) b []) (all_of is_whole (c file) b (ap (λ f. list_all is_whole (c f)) (sym e) ∙ fits.whole) low)

-- each block of a data set's file is one of slots
pub block_at : (desc : Described) (c : Content) (n : ℕ) (s : Shape) (b : ℕ) → IsServed desc → is_spelled desc c ≡ true → structure_of desc n ≡ Some s → is_data_set (Some s) ≡ true → b < length (file_in c s) → is_block s (get_or (file_in c s) b []) ≡ true
block_at desc c n s b served spelt at is_set low = all_of (is_block s) (file_in c s) b ((files_in desc c served spelt).slots.each n s at is_set).blocks low
