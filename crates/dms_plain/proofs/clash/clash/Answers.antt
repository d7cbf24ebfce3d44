use Rattle.std.proofs.Common.{◌≡◌, ℕ, List, Option, Some, None, Bor, arith, get_or, length, map, slice_get, subst, sym}
use Rattle.std.specs.Prelude.{IfSome, is_some, nat_lt}
use Rattle.std.specs.FinMap.{get}
use Rattle.std.specs.Option.{option_copied}
use Rattle.std.proofs.lemmas.Bool.Decides.{nat_tests}
use Rattle.dms_desc.specs.Shape.{Shape, shape_of}
use Rattle.dms_model.specs.Db.{Records}
use Rattle.dms_plain.specs.declared.member.Member.{Member}
use Rattle.dms_plain.specs.Listed.{AreLists, IsListOf}
use Rattle.dms_plain.specs.Rows.{records_in}
use Rattle.dms_plain.proofs.Following.{shape_at}
use Rattle.dms_plain.proofs.clash.clash.Goals as goal

-- the list that was looked up, if it is kept
looked : (ss : List Shape) (ls : List (List Member)) (records : Records) (i : ℕ) (s : Shape) (o : Option (Bor (List Member))) → AreLists ss ls records → slice_get ss i ≡ Some s → is_some o ≡ nat_lt i (length ls)
    → IfSome o (λ x. x.now ≡ get_or ls i x.now) → IfSome (option_copied o) (λ ms. IsListOf s ms (get records))
looked ss ls records i s None lists at some is = tt
looked ss ls records i s (Some x) lists at some is = subst (λ (xs : List Member). IsListOf s xs (get records)) (sym is) (lists.each i s x.now at (grind (arith, nat_tests, some)))

pub refuses-requires-clause-listed : goal.refuses-requires-clause-listed
refuses-requires-clause-listed c =
    let x = c.index-structures-i.result in
    looked (map shape_of c.args.structures.now) c.args.lists.now (records_in c.args.rows.now) c.loop-i.i (shape_of x) c.get.result c.requires.listed
    (shape_at c.args.structures.now c.loop-i.i x c.loop-i-test.true c.index-structures-i.is) c.get.ensures.lookup.0 c.get.ensures.lookup.1
