-- New blocks in memory serve a store.
use Rattle.std.proofs.Common.{◌≡◌, ◌∙◌, ◌+◌, ◌≤◌, ℕ, [], Bool, true, false, Some, nat_lt, nat_le, refl, sym, ap, arith}
use Rattle.std.specs.Prelude.{◌&&◌}
use Rattle.std.proofs.lemmas.Bool.Decides.{nat_tests}
use Rattle.std.proofs.lemmas.Bool.{and_parts}
use Rattle.dms_block.specs.Content.{Content}
use Rattle.dms_block.specs.Held.{Held}
use Rattle.dms_desc.specs.Shape.{Described}
use Rattle.dms_desc.proofs.Numbers.{some_at}
use Rattle.dms_desc_bytes.specs.Spelling.{spelling}
use Rattle.dms_memblocks.specs.View.{IsNew}
use Rattle.dms_model.specs.Db.{empty_db}
use Rattle.dms_store.specs.Lifted.{Serves, db_of}
use Rattle.dms_store.specs.Serving.{IsServed}
use Rattle.dms_store.specs.Spelled.{database_in}

owned : (n : ℕ) → 1 ≤ n → n ≤ 200 → (nat_lt 30000 (30000 + n) && nat_le (30000 + n) 30200) ≡ true
owned n low most =
    let a : nat_lt 30000 (30000 + n) ≡ true = grind (arith, nat_tests, low) in
    let b : nat_le (30000 + n) 30200 ≡ true = grind (arith, nat_tests, most) in
    ap (λ x. x && nat_le (30000 + n) 30200) a ∙ b

pub serves_new : (desc : Described) (h : Held) → IsServed desc → IsNew 200 h → h.here.schema ≡ spelling desc → Serves desc h
serves_new desc h served new schema = record {
  served = served;
  schema = schema;
  all = λ n some.
      let at = some_at desc.structures n some in
      new.owns (30000 + n) ∙ owned n at.0 (omega (arith, at.1, served.count));
  only = λ file owns.
      let t = and_parts (nat_lt 30000 file) (nat_le file 30200) (sym (new.owns file) ∙ owns) in
      record { low = grind (arith, nat_tests, t.0); most = grind (arith, nat_tests, t.1) };
}

-- what is gone back to spells the same database
pub mark_new : (desc : Described) (h : Held) → ((c : Content) → ((f : ℕ) → c f ≡ []) → database_in desc c ≡ Some empty_db) → IsNew 200 h → (told : Bool) → db_of desc told h.mark ≡ db_of desc told h.content
mark_new desc h empty new true = empty h.mark new.mark ∙ sym (empty h.content new.content)
mark_new desc h empty new false = refl
