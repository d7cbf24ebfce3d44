-- A call that writes over the blocks, and what becomes of it: it reaches them in one call where it was done, and is forgotten else.
use Rattle.std.proofs.Common.{◌≡◌, ◌∙◌, ◌≤◌, ℕ, [], Bool, true, false, IsTrue, refl, sym, ap, subst, length}
use Rattle.std.specs.Prelude.{IfOk, IsErrOf, OnOk, Some}
use Rattle.std.specs.declared.result.Result.{Result}
use Rattle.std.specs.declared.result.Result.TheVariants.{Ok, Err}
use Rattle.std.proofs.lemmas.Result.{IfOk-weaker}
use Rattle.dms_block.specs.declared.block_fault.BlockFault.{BlockFault}
use Rattle.dms_block.specs.declared.block_fault.BlockFault.TheVariants.{Say}
use Rattle.dms_block.specs.declared.blocks.Blocks.{Ghosts}
use Rattle.dms_block.specs.declared.overlay.Overlay.{Overlay}
use Rattle.dms_block.specs.Faults.{IfFull}
use Rattle.dms_block.specs.FaultLaws.{full_none, full_weaker}
use Rattle.dms_block.specs.Held.{Alters, AuditPace, HasCauses, HasCausesOr}
use Rattle.dms_block.specs.HeldLaws.{causes_or}
use Rattle.dms_block.specs.View.{overlay_changes, overlay_content, under}
use Rattle.dms_chain.specs.SeenLaws.{causes_err}
use Rattle.dms_desc.specs.Shape.{Described}
use Rattle.dms_model.specs.Db.{Db}
use Rattle.dms_spelling.specs.Ready.{FaultsBelow, IfSpelt, seen_below}
use Rattle.dms_spelling.specs.Spelled.{database_in}
use Rattle.dms_store.specs.PuttingCalls.{HandsFew, WritesFew, drops_few, few_as, few_causes, few_err, few_told, hands_few}

module _ {B : Type 0} {g : Ghosts B} where
  -- What was written was handed down, and this is answered, or a fault.
  pub record Finishes {T : Type 0} (x : T) (result : Result T BlockFault) (b c : Overlay B g) : Type 0 where
    pub is : IfOk result (λ y. y ≡ x)
    pub content : OnOk result (IsTrue (under b).told → (under c).content ≡ overlay_content b)
    pub alters : Alters (length (overlay_changes b)) (length (overlay_changes b)) result (under b) (under c)
    pub causes : HasCauses result (under b) (under c)
    pub silent : IsErrOf result Say → ⊥
    pub full : IfFull result (λ f. f ≡ (g.pace b.below).last)
    pub same : g.same_blocks b.below c.below

  -- It was forgotten.
  pub record Forgets {T : Type 0} (x : T) (result : Result T BlockFault) (b c : Overlay B g) : Type 0 where
    pub is : result ≡ Ok x
    pub below : c.below ≡ b.below

  abbrev pub Settles : {T : Type 0} → T → Bool → Result T BlockFault → Overlay B g → Overlay B g → Type 0
  Settles x true result b c = Finishes x result b c
  Settles x false result b c = Forgets x result b c

  -- at most 64 blocks of each structure for each record and entry, where a database is told
  abbrev pub IsFewFor : Described → (Db → ℕ) → Overlay B g → ℕ → Type 0
  IsFewFor desc limit a n = IfSpelt desc a (λ db. n ≤ limit db)

  -- A call over the blocks that leaves nothing written over them: it changes few blocks, names the last file where the audit has no room, and
  -- where a database is told a fault comes from below.
  pub record HandsOn {T : Type 0} (desc : Described) (limit : Db → ℕ) (result : Result T BlockFault) (a c : Overlay B g) : Type 0 where
    pub hands : HandsFew (IsFewFor desc limit a) result a c
    pub full : IfFull result (λ f. f ≡ (g.pace a.below).last)
    pub below : IfSpelt desc a (λ db. FaultsBelow result a c)

  -- Where a database is told of which this holds, the answer is its answer, and the blocks spell the one after it.
  abbrev pub Leaves : {T : Type 0} → Described → (Db → Type 0) → (Db → T) → (Db → Db) → Overlay B g → Overlay B g → T → Type 0
  Leaves desc Q answer after a c x = IsTrue (under a).told → (db : Db) → database_in desc (under a).content ≡ Some db → Q db → (x ≡ answer db) × (database_in desc (under c).content ≡ Some (after db))

  -- Where the audit had no room, this holds of that database.
  abbrev pub FullWhen : {T : Type 0} → Described → (Db → Type 0) → (Db → Type 0) → Overlay B g → Result T BlockFault → Type 0
  FullWhen desc Q D a result = IsTrue (under a).told → (db : Db) → database_in desc (under a).content ≡ Some db → Q db → IfFull result (λ f. D db)

  -- What a call over the blocks says before it is settled: the answer is the database's, and where it was done the blocks spell the one after it, which
  -- is the same else.
  pub record IsDone (desc : Described) (after : Db → Db) (D : Db → Type 0) (b : Overlay B g) (db : Db) (done : Bool) : Type 0 where
    pub spells : done ≡ true → database_in desc (overlay_content b) ≡ Some (after db)
    pub does : done ≡ true → D db
    pub still : done ≡ false → after db ≡ db

  -- ---- laws

  module _ (onward : (x y z : B) → g.same_blocks x y → g.same_blocks y z → g.same_blocks x z) (paced : (x y : B) → g.same_blocks x y → g.pace y ≡ g.pace x) (desc : Described) (limit : Db → ℕ) (a b c : Overlay B g) (none : overlay_changes a ≡ []) where
    -- a call that failed
    pub hands_failed : {T U : Type 0} (e : BlockFault) → WritesFew {T = T} (IsFewFor desc limit a) (Err e) a b → IfSpelt desc a (λ db. FaultsBelow {T = T} (Err e) a b) → c.below ≡ b.below → HandsOn {T = U} desc limit (Err e) a c
    hands_failed {T = T} {U = U} e writes below same = record {
      hands = drops_few (IsFewFor desc limit a) (Err e) a b c (few_err (IsFewFor desc limit a) e a b writes) same;
      full = full_none {T = U} (Err e) _ (few_err {U = U} (IsFewFor desc limit a) e a b writes).writes.writes.looks.not_full;
      below = λ told db is. subst (λ (x : B). HasCausesOr {T = U} (λ f k. ⊥) (Err e) (under a) (g.held x)) (sym same) (causes_err T U (λ f k. ⊥) (λ f k. ⊥) e (under a) (under b) (λ f k h. h) (below told db is));
    }

    -- one that is settled
    pub hands_settled : {T U : Type 0} {y : T} (x : U) (done : Bool) (r : Result U BlockFault) → WritesFew (IsFewFor desc limit a) (Ok y) a b → Settles x done r b c → HandsOn desc limit r a c
    hands_settled x true r writes settled = record {
      hands = hands_few (IsFewFor desc limit a) (length (overlay_changes b)) r a b c onward writes none refl settled.alters settled.causes settled.silent settled.same;
      full = subst (λ (p : AuditPace). IfFull r (λ f. f ≡ p.last)) (paced a.below b.below writes.writes.writes.same) settled.full;
      below = λ told db is. few_causes (IsFewFor desc limit a) r a b c writes (causes_or (λ f k. ⊥) r (under b) (under c) settled.causes settled.silent);
    }
    hands_settled {T = T} {U = U} {y = y} x false r writes settled = subst (λ (s : Result U BlockFault). HandsOn desc limit s a c) (sym settled.is) (record {
      hands = drops_few (IsFewFor desc limit a) (Ok x) a b c (few_as (IsFewFor desc limit a) x a b writes) settled.below;
      full = tt;
      below = λ told db is. subst (λ (z : B). HasCausesOr {T = U} (λ f k. ⊥) (Ok x) (under a) (g.held z)) (sym settled.below) writes.writes.causes;
    })

    -- what it tells
    pub leaves_settled : {T U : Type 0} {y : T} (Q D : Db → Type 0) (answer : Db → U) (after : Db → Db) (x : U) (done : Bool) (r : Result U BlockFault) → WritesFew (IsFewFor desc limit a) (Ok y) a b → Settles x done r b c
        → IfSpelt desc a (λ db. Q db → (x ≡ answer db) × IsDone desc after D b db done) → IfOk r (Leaves desc Q answer after a c)
    leaves_settled {U = U} Q D answer after x true r writes settled first =
        IfOk-weaker r _ _ (λ z h told db is holds.
        let f = first told db (ap (database_in desc) (seen_below a none) ∙ is) holds in
        (h.0 ∙ f.0, ap (database_in desc) (h.1 (few_told (IsFewFor desc limit a) a b writes told)) ∙ f.1.spells refl))
        (both_of (IsTrue (under b).told → (under c).content ≡ overlay_content b) r settled.is settled.content)
      where
        both_of : (P : Type 0) (s : Result U BlockFault) → IfOk s (λ z. z ≡ x) → OnOk s P → IfOk s (λ z. (z ≡ x) × P)
        both_of P (Ok z) one two = (one, two)
        both_of P (Err e) one two = tt
    leaves_settled {U = U} Q D answer after x false r writes settled first =
        subst (λ (s : Result U BlockFault). IfOk s (Leaves desc Q answer after a c)) (sym settled.is) (λ told db is holds.
        let f = first told db (ap (database_in desc) (seen_below a none) ∙ is) holds in
        (f.0, ap (λ (z : B). database_in desc (g.held z).content) settled.below ∙ ap (database_in desc) (writes.writes.writes.looks.same.content told) ∙ is ∙ ap (λ d. Some d) (sym (f.1.still refl))))

    pub full_settled : {U : Type 0} (Q D : Db → Type 0) (answer : Db → U) (after : Db → Db) (x : U) (done : Bool) (r : Result U BlockFault) → Settles x done r b c
        → IfSpelt desc a (λ db. Q db → (x ≡ answer db) × IsDone desc after D b db done) → FullWhen desc Q D a r
    full_settled Q D answer after x true r settled first told db is holds =
        full_weaker r _ _ (λ f at. (first told db (ap (database_in desc) (seen_below a none) ∙ is) holds).1.does refl) settled.full
    full_settled {U = U} Q D answer after x false r settled first told db is holds =
        subst (λ (s : Result U BlockFault). IfFull s (λ f. D db)) (sym settled.is) tt
