-- Blocks that a database is kept in, and what is told where what is seen of them spells one.
use Rattle.std.proofs.Common.{◌≡◌, ◌∙◌, ℕ, suc, List, [], Bool, IsTrue, Some, refl, sym, ap, subst}
use Rattle.std.specs.Prelude.{IsSome, is_some}
use Rattle.std.specs.declared.option.Option.{Option}
use Rattle.std.specs.declared.result.Result.{Result}
use Rattle.std.specs.declared.result.Result.TheVariants.{Ok}
use Rattle.dms_block.specs.Content.{apply_changes}
use Rattle.dms_block.specs.Held.{HasCausesOr, Looks}
use Rattle.dms_block.specs.View.{overlay_changes, overlay_content, under}
use Rattle.dms_block.specs.declared.block_fault.BlockFault.{BlockFault}
use Rattle.dms_block.specs.declared.blocks.Blocks.{Ghosts}
use Rattle.dms_block.specs.declared.change.Change.{Change}
use Rattle.dms_block.specs.declared.overlay.Overlay.{Overlay}
use Rattle.dms_desc.specs.Files.{file_of}
use Rattle.dms_desc.specs.Lookups.{structure_of}
use Rattle.dms_desc.specs.Shape.{Shape, Described}
use Rattle.dms_desc.specs.declared.record.Record.{Record}
use Rattle.std.specs.FinMap.{get}
use Rattle.dms_links.specs.Linking.{number_at, structure_here}
use Rattle.dms_links.specs.Stepping.{HoldsSets}
use Rattle.dms_model.specs.Db.{Db}
use Rattle.dms_model.specs.Fitting.{HasRecord}
use Rattle.dms_sets.specs.Keeping.{Usable}
use Rattle.dms_sets.specs.Told.{OfStructures}
use Rattle.dms_spelling.specs.Serving.{IsServed}
use Rattle.dms_spelling.specs.ServingLaws.{served_at}
use Rattle.dms_spelling.specs.Spelled.{database_in}

some_is : (o : Option Shape) (s : Shape) → o ≡ Some s → IsSome o
some_is o s h = ap (λ (x : Option Shape). is_some x) h

module _ {B : Type 0} {g : Ghosts B} where
  -- Blocks in which a database of a description is kept: they may be used, the description is one that a schema can have, and the
  -- file of each structure is theirs.
  pub record IsReady (desc : Described) (o : Overlay B g) : Type 0 where
    pub sound : (under o).sound
    pub served : IsServed desc
    pub owns : (n : ℕ) → IsSome (structure_of desc n) → IsTrue ((under o).owns (file_of n))

  -- where what is seen spells a database
  abbrev pub IfSpelt : Described → Overlay B g → (Db → Type 0) → Type 0
  IfSpelt desc o P = IsTrue (under o).told → (db : Db) → database_in desc (overlay_content o) ≡ Some db → P db

  -- that has a record with this number,
  abbrev pub IfHolds : Described → ℕ → ℕ → Overlay B g → (Db → Type 0) → Type 0
  IfHolds desc set number o P = IfSpelt desc o (λ db. HasRecord db set number → P db)

  -- or this record
  abbrev pub IfRecord : Described → ℕ → ℕ → Record → Overlay B g → (Db → Type 0) → Type 0
  IfRecord desc set number rec o P = IfSpelt desc o (λ db. get db.records (set, number) ≡ Some rec → P db)

  -- a fault comes from the blocks below
  abbrev pub FaultsBelow : {T : Type 0} → Result T BlockFault → Overlay B g → Overlay B g → Type 0
  FaultsBelow result a b = HasCausesOr (λ f k. ⊥) result (under a) (under b)

  -- ---- laws

  pub owned_at : (desc : Described) (o : Overlay B g) → IsReady desc o → (n : ℕ) (s : Shape) → structure_of desc n ≡ Some s → IsTrue ((under o).owns (file_of s.number))
  owned_at desc o ready n s at =
      subst (λ k. IsTrue ((under o).owns (file_of k))) (sym (number_at desc ready.served.numbered n s at)) (ready.owns n (some_is (structure_of desc n) s at))

  pub holds_sets : (desc : Described) (o : Overlay B g) → IsReady desc o → HoldsSets desc (under o)
  holds_sets desc o ready set s at =
      let one = served_at desc set s ready.served at in
      record { sized = record { few = one.few; fits = one.fits }; few = one.population; owns = owned_at desc o ready set s at }

  -- the list of each structure may be asked for
  pub all_usable : (desc : Described) (o : Overlay B g) → IsReady desc o → OfStructures desc (λ s. Usable o s.number)
  all_usable desc o ready k s at = (ready.sound, owned_at desc o ready (suc k) s (structure_here desc.structures k s at))

  -- they stay so
  pub ready_since : {T : Type 0} {x : T} {n : ℕ} (desc : Described) (a b : Overlay B g) → Looks n (Ok x) (under a) (under b) → IsReady desc a → IsReady desc b
  ready_since desc a b looks ready = record {
    sound = looks.stays.sound;
    served = ready.served;
    owns = λ n some. subst (λ (owns : ℕ → Bool). IsTrue (owns (file_of n))) (sym looks.passes.lasts.owns) (ready.owns n some);
  }

  -- where nothing is written over them they are what is seen
  pub seen_below : (o : Overlay B g) → overlay_changes o ≡ [] → overlay_content o ≡ (under o).content
  seen_below o none = ap (λ (l : List Change). apply_changes l (under o).content) none
