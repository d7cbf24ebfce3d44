-- What storing a record leaves of a store.
use Rattle.std.proofs.Common.{◌≡◌, ◌∙◌, ◌*◌, ◌<◌, ◌≤◌, ◌^◌, ◌-◌, ℕ, List, [], ◌∷◌, Bool, true, false, cond, IsTrue, Some, None, slice_get, refl, sym, ap, length, arith}
use Rattle.std.specs.Prelude.{◌==◌, ⊤, IfOk, IsErrOf}
use Rattle.std.specs.declared.option.Option.{Option}
use Rattle.std.specs.declared.result.Result.{Result}
use Rattle.std.specs.declared.result.Result.TheVariants.{Ok, Err}
use Rattle.std.proofs.lemmas.Result.{IfOk-weaker}
use Rattle.dms_block.specs.declared.block_fault.BlockFault.{BlockFault}
use Rattle.dms_block.specs.declared.block_fault.BlockFault.TheVariants.{Disk, Memory, Full, Damaged, Say}
use Rattle.dms_block.specs.declared.blocks.Blocks.{Ghosts}
use Rattle.dms_block.specs.declared.overlay.Overlay.{Overlay}
use Rattle.dms_block.specs.Content.{Content}
use Rattle.dms_block.specs.Faults.{IfFull, Unbroken, Undamaged}
use Rattle.dms_block.specs.Held.{BlocksAgree, HasCausesOr, Held}
use Rattle.dms_block.specs.HeldLaws.{unbroken_map}
use Rattle.dms_block.specs.View.{under, overlay_changes}
use Rattle.dms_desc.specs.Shape.{Shape, Described}
use Rattle.dms_desc.specs.declared.record.Record.{Record}
use Rattle.dms_model.specs.declared.put.Put.{Put}
use Rattle.dms_model.specs.Db.{Db}
use Rattle.dms_desc.specs.Lookups.{structure_of}
use Rattle.dms_model.specs.Changing.{ChangesSome, SpendsFor}
use Rattle.dms_model.specs.Fitting.{IsStored}
use Rattle.dms_model.specs.Seen as store
use Rattle.dms_model.specs.Stores.{put_after, put_answer}
use Rattle.dms_store.specs.Lifted.{IsUsable, db_of, store_seen}
use Rattle.dms_store.specs.LiftedLaws.{causes_lifted, db_same, keeps_points_lifted, silent_lifted, usable_on}
use Rattle.dms_store.specs.Noted.{causes_noted, noted_by}
use Rattle.dms_store.specs.Putting.{Answers, FullStored, MayStore}
use Rattle.dms_store.specs.PuttingCalls.{HandsFew}
use Rattle.dms_spelling.specs.Spelled.{database_in}
use Rattle.dms_store.specs.Undamaged.{undamaged_or}

-- A call that changes the blocks: what is durable stays durable, without memory nothing has changed, and a fault has its cause.
pub record Changes {T : Type 0} (result : Result T BlockFault) (old new : store.Seen) : Type 0 where
  pub memory : IsErrOf result Memory → new.db ≡ old.db
  pub keeps : Unbroken result (store.KeepsPoints old new)
  pub silent : store.IsSilent old new
  pub changes : ChangesSome old.effort new.effort
  pub undamaged : (d : Db) → old.db ≡ Some d → Undamaged result
  pub mute_fault : IsErrOf result Say → ⊥
  pub causes : store.HasStoreCauses result old new

-- where the record may be stored the answer and the database after it are those of storing it
abbrev pub Stores : Described → Option Db → Option Db → ℕ → Option ℕ → Record → Put → Type 0
Stores desc old new set number rec answer = (db : Db) → old ≡ Some db → MayStore desc db set number rec
    → (answer ≡ put_answer desc db set number rec) × (new ≡ Some (put_after (put_answer desc db set number rec) desc db set rec))

-- where the audit had no room for a record that may be stored, it was to be stored
abbrev pub FullWhere : Described → Option Db → ℕ → Option ℕ → Record → Result Put BlockFault → Type 0
FullWhere desc old set number rec result = (db : Db) → old ≡ Some db → MayStore desc db set number rec → IfFull result (λ f. IsStored (put_answer desc db set number rec))

pub mute_or : {T : Type 0} (P : ℕ → ℕ → Type 0) (r : Result T BlockFault) (a b : Held) → HasCausesOr P r a b → IsErrOf r Say → ⊥
mute_or P (Ok x) a b h is = absurd (cc)
mute_or P (Err Disk) a b h is = absurd (cc)
mute_or P (Err Memory) a b h is = absurd (cc)
mute_or P (Err (Full f)) a b h is = absurd (cc)
mute_or P (Err (Damaged f n)) a b h is = absurd (cc)
mute_or P (Err Say) a b h is = h

-- a told database is that which a told content spells
pub told_db : (desc : Described) (told : Bool) (c : Content) (d : Db) → db_of desc told c ≡ Some d → IsTrue told × (database_in desc c ≡ Some d)
told_db desc true c d h = (refl, h)
told_db desc false c d h = absurd (cc)

-- a data set is one of the structures
pub some_structure : (desc : Described) (set : ℕ) (s : Shape) → structure_of desc set ≡ Some s → 1 ≤ length desc.structures
some_structure desc set s at = by desc.structures refl
  where
    nothing : (n : ℕ) (b : Bool) → desc.structures ≡ [] → cond b None (slice_get desc.structures (n - 1)) ≡ None
    nothing n true e = refl
    nothing n false e = ap (λ (xs : List Shape). slice_get xs (n - 1)) e

    apart : (t : Shape) → ◌≡◌ {A = Option Shape} None (Some t) → ⊥
    apart t h = absurd (cc h)

    by : (ss : List Shape) → desc.structures ≡ ss → 1 ≤ length desc.structures
    by [] none = absurd (apart s (sym (nothing set (set == 0) none) ∙ at))
    by (t ∷ ss) some = omega (arith, ap length some)

module _ {B : Type 0} {g : Ghosts B} (desc : Described) (found found' : ℕ) (o o' : Overlay B g) where
  pub change_noted : {T : Type 0} (p : ℕ → Type 0) (r : Result T BlockFault) → found < 2 ^ 64 → found' ≡ noted_by r found → IsUsable desc o → BlocksAgree (under o) → ((x y : B) → g.same_blocks x y → g.pace y ≡ g.pace x) → overlay_changes o' ≡ [] → HandsFew p r o o'
      → ((db : Db) → IsTrue (under o).told → database_in desc (under o).content ≡ Some db → HasCausesOr (λ f b. ⊥) r (under o) (under o')) → Changes r (store_seen desc found o) (store_seen desc found' o')
  change_noted p r small noted usable agrees law none few below =
      let hands = few.hands in
      let lasts = hands.alters.passes.lasts in
      let uses = hands.alters.uses in
      record {
        memory = λ is. db_same desc (under o).told (under o').told (under o).content (under o').content lasts.told (hands.alters.memory is).content;
        keeps = unbroken_map r (λ stays. keeps_points_lifted desc (IsUsable desc o) (IsUsable desc o') found found' (g.pace o.below) (g.pace o'.below) (under o) (under o') (usable_on desc o o' usable lasts stays.sound none) lasts stays) hands.alters.stays;
        silent = silent_lifted desc (IsUsable desc o) (IsUsable desc o') found found' (g.pace o.below) (g.pace o'.below) (under o) (under o') hands.alters.passes;
        changes = record { least = uses.not_less; syncs = uses.syncs; outs = uses.outs };
        undamaged = λ d told. let t = told_db desc (under o).told (under o).content d told in undamaged_or desc (under o) usable.serves agrees d told (λ f b. ⊥) r (under o') (λ f b h. h) (below d t.0 t.1);
        mute_fault = mute_or (λ f b. ⊤) r (under o) (under o') hands.causes;
        causes = causes_lifted desc (IsUsable desc o) (IsUsable desc o') found found' (g.pace o.below) (g.pace o'.below) (under o) (under o') r lasts (law o.below o'.below hands.same) uses.not_fewer (causes_noted (under o) (under o') found found' small (λ f b. ⊤) r noted hands.causes);
      }

  -- how many blocks it changes, where a database is told
  pub spends : {T : Type 0} (count : Db → ℕ) (r : Result T BlockFault) → HandsFew (λ n. (db : Db) → IsTrue (under o).told → database_in desc (under o).content ≡ Some db → n ≤ 64 * length desc.structures * count db) r o o'
      → SpendsFor (store_seen desc found o).db desc count (store_seen desc found o).effort (store_seen desc found' o').effort
  spends count r few = by (db_of desc (under o).told (under o).content) refl
    where
      by : (x : Option Db) → db_of desc (under o).told (under o).content ≡ x → SpendsFor x desc count (store_seen desc found o).effort (store_seen desc found' o').effort
      by None is = tt
      by (Some db) is =
          let t = told_db desc (under o).told (under o).content db is in
          omega (arith, few.hands.alters.uses.spent, few.low db t.0 t.1)

  -- the database after it
  pub stores : (p : ℕ → Type 0) (set : ℕ) (number : Option ℕ) (rec : Record) (r : Result Put BlockFault) → HandsFew p r o o' → IfOk r (λ p. IsTrue (under o).told → Answers desc (under o).content (under o').content set number rec p)
      → IfOk r (Stores desc (store_seen desc found o).db (store_seen desc found' o').db set number rec)
  stores p set number rec r few answers =
      IfOk-weaker r _ _ (λ q h db is may.
      let t = told_db desc (under o).told (under o).content db is in
      let answer = h t.0 db t.1 may in
      let told : (under o').told ≡ true = few.hands.alters.passes.lasts.told ∙ t.0 in
      (answer.0, ap (λ b. db_of desc b (under o').content) told ∙ answer.1 ∙ ap (λ a. Some (put_after a desc db set rec)) answer.0)) answers

  pub full_where : (set : ℕ) (number : Option ℕ) (rec : Record) (r : Result Put BlockFault) → (IsTrue (under o).told → FullStored desc (under o).content set number rec r) → FullWhere desc (store_seen desc found o).db set number rec r
  full_where set number rec r stored db is may = let t = told_db desc (under o).told (under o).content db is in stored t.0 db t.1 may
