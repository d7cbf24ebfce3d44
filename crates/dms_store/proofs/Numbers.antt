-- No record has a number that none may have.
use Rattle.std.proofs.Common.{◌≡◌, ◌∙◌, ◌≤◌, ℕ, true, false, Some, None, refl, sym, ap, arith}
use Rattle.std.specs.Prelude.{◌&&◌, nat_le}
use Rattle.std.specs.declared.option.Option.{Option}
use Rattle.std.specs.FinMap.{get}
use Rattle.std.proofs.lemmas.Bool.Decides.{nat_tests}
use Rattle.std.proofs.lemmas.Option.{same_Some}
use Rattle.std.proofs.lemmas.Bool.{and_from}
use Rattle.dms_block.specs.Content.{Content}
use Rattle.dms_desc.specs.declared.record.Record.{Record}
use Rattle.dms_desc.specs.Lookups.{structure_of}
use Rattle.dms_desc.specs.Shape.{Shape, Described}
use Rattle.dms_model.specs.Fitting.{is_number}
use Rattle.dms_links.specs.Stands.{tally_of}
use Rattle.dms_spelling.specs.Holds.{RecordStands}
use Rattle.dms_spelling.specs.Serving.{IsServed}
use Rattle.dms_spelling.specs.Spelled.{db_in, is_spelled}
use Rattle.dms_store.specs.Files.{spelled_is}
use Rattle.dms_store.specs.SpelledLaws.{spelled_stands}

in_range : (n p : ℕ) → 1 ≤ n → n ≤ p → (nat_le 1 n && nat_le n p) ≡ true
in_range n p low most = and_from (nat_le 1 n) (nat_le n p) (grind (arith, nat_tests, low)) (grind (arith, nat_tests, most))

pub no_record : (desc : Described) (c : Content) (set number : ℕ) (s : Shape) → IsServed desc → is_spelled desc c ≡ true → structure_of desc set ≡ Some s → is_number (Some s) number ≡ false
    → None ≡ get (db_in desc c).records (set, number)
no_record desc c set number s served spelt at off = by (get (db_in desc c).records (set, number)) refl
  where
    stands : (rec : Record) → get (db_in desc c).records (set, number) ≡ Some rec → RecordStands desc (db_in desc c) (tally_of desc (db_in desc c)) (set, number) rec
    stands rec is = spelled_stands desc c (db_in desc c) served (spelled_is desc c spelt) (set, number) rec is

    by : (o : Option Record) → get (db_in desc c).records (set, number) ≡ o → None ≡ o
    by None is = refl
    by (Some rec) is =
        let r = stands rec is in
        let same : r.shape ≡ s = same_Some r.shape s (sym r.is ∙ at) in
        let on : is_number (Some s) number ≡ true = ap (λ (x : Shape). is_number (Some x) number) (sym same) ∙ in_range number r.shape.population r.low r.stands.most in
        absurd (cc (on, off))
