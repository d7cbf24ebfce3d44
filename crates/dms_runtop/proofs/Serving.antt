-- The running database of a description serves a store of it.
use Rattle.std.proofs.Common.{◌≡◌, ◌+◌, ◌≤◌, inl, inr, ℕ, List, Bool, true, IsTrue, nat_lt, nat_le, sym, subst, length, arith}
use Rattle.std.specs.Prelude.{◌&&◌}
use Rattle.std.proofs.lemmas.Bool.Decides.{nat_tests}
use Rattle.dms_block.specs.Held.{Held}
use Rattle.dms_desc.specs.Shape.{Described}
use Rattle.dms_desc.proofs.Numbers.{some_at}
use Rattle.dms_desc_bytes.specs.Spelling.{spelling}
use Rattle.dms_desc_bytes.specs.WellFormed.{IsWellFormed}
use Rattle.dms_opening.specs.Openings.{NamesStructures}
use Rattle.dms_guard.specs.Both.{first_of, second_of, both_of}
use Rattle.dms_runtop.specs.Describing.{IsUnderSchema}
use Rattle.dms_store.specs.Lifted.{Serves}
use Rattle.dms_store.specs.Serving.{IsServed}
use Rattle.dms_wal.specs.Lifting.{owns_of}

owned : (many n : ℕ) → 1 ≤ n → n ≤ many → IsTrue (nat_lt 30000 (30000 + n) && nat_le (30000 + n) (30000 + many))
owned many n low most =
    let a : nat_lt 30000 (30000 + n) ≡ true = grind (arith, nat_tests, low) in
    let b : nat_le (30000 + n) (30000 + many) ≡ true = grind (arith, nat_tests, most) in
    both_of (nat_lt 30000 (30000 + n)) (nat_le (30000 + n) (30000 + many)) a b

-- a table with a count for each structure, and for at most 200
pub serves_by : (desc : Described) (h : Held) (counts : List ℕ) → IsServed desc → h.owns ≡ owns_of counts → length counts ≤ 200 → length desc.structures ≤ length counts → h.here.schema ≡ spelling desc → Serves desc h
serves_by desc h counts served owns few each schema = record {
  served = served;
  schema = schema;
  all = λ n some.
      let at = some_at desc.structures n some in
      subst (λ (o : ℕ → Bool). IsTrue (o (30000 + n))) (sym owns) (owned (length counts) n at.0 (omega (arith, at.1, each)));
  only = λ file is.
      let own : IsTrue (owns_of counts file) = subst (λ (o : ℕ → Bool). IsTrue (o file)) owns is in
      let low = first_of (nat_lt 30000 file) (nat_le file (30000 + length counts)) own in
      let most = second_of (nat_lt 30000 file) (nat_le file (30000 + length counts)) own in
      record { low = grind (arith, nat_tests, low); most = grind (arith, nat_tests, most, few) };
}

-- the table of an opening has one for each structure of the description that is used
pub counts_each : (schema counts : List ℕ) (desc : Described) → NamesStructures schema counts → IsWellFormed desc → IsServed desc → IsUnderSchema schema desc → length desc.structures ≤ length counts
counts_each schema counts desc named formed served (inl is) = named.each desc formed is
counts_each schema counts desc named formed served (inr none) = omega (arith, named.all_left none, served.count)
