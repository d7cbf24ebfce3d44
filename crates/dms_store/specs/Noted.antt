-- How a store counts its answers that a block is damaged, and the cause of each fault.
use Rattle.std.proofs.Common.{◌≡◌, ◌+◌, ◌-◌, ◌<◌, ◌^◌, ℕ, min, Bool, true, false, IsTrue, refl, ap, inl, inr, arith}
use Rattle.std.specs.declared.result.Result.{Result}
use Rattle.std.specs.declared.result.Result.TheVariants.{Ok, Err}
use Rattle.dms_block.specs.declared.block_fault.BlockFault.{BlockFault}
use Rattle.dms_block.specs.declared.block_fault.BlockFault.TheVariants.{Disk, Memory, Full, Damaged, Say}
use Rattle.dms_block.specs.Content.{Content}
use Rattle.dms_block.specs.Counts.{CausedBy, Faults, Raised, RoseOnce}
use Rattle.dms_block.specs.Held.{CausedOr, HasCausesOr, Held}
use Rattle.dms_desc.specs.Shape.{Described}
use Rattle.dms_model.specs.Db.{Db}
use Rattle.dms_model.specs.Stores.{TellsOf}
use Rattle.dms_store.specs.Lifted.{db_of, faults_with}
use Rattle.dms_spelling.specs.Spelled.{db_in, is_spelled, some_if}

-- the count after this fault
abbrev pub count_damage : BlockFault → ℕ → ℕ
count_damage Disk n = n
count_damage Memory n = n
count_damage (Full f) n = n
count_damage (Damaged f b) n = min (n + 1) (2 ^ 64 - 1)
count_damage Say n = n

-- and after this answer
abbrev pub noted_by : {T : Type 0} → Result T BlockFault → ℕ → ℕ
noted_by (Ok x) n = n
noted_by (Err e) n = count_damage e n

one_up : (n m : ℕ) → n < 2 ^ 64 → m ≡ min (n + 1) (2 ^ 64 - 1) → RoseOnce n m
one_up n m small is = record { later = omega (arith, small, is); rose = omega (arith, is); once = omega (arith, is) }

with_count : (a b : Faults) (m : ℕ) → b ≡ record a { damaged = b.damaged } → faults_with b m ≡ faults_with a m
with_count a b m is = ap (λ (x : Faults). faults_with x m) is

module _ (a b : Held) (n m : ℕ) (small : n < 2 ^ 64) where
  raised_noted : (e : BlockFault) → m ≡ count_damage e n → Raised e a.faults b.faults → Raised e (faults_with a.faults n) (faults_with b.faults m)
  raised_noted Disk is h = (h.0, (λ i. record { disk = b.faults.disk; say = (ap (λ (x : Faults). x.say) h.1) i; full = (ap (λ (x : Faults). x.full) h.1) i; damaged = is i }))
  raised_noted Memory is h = (λ i. faults_with (h i) (is i))
  raised_noted (Full f) is h = (h.0, (λ i. record { disk = (ap (λ (x : Faults). x.disk) h.1) i; say = (ap (λ (x : Faults). x.say) h.1) i; full = b.faults.full; damaged = is i }))
  raised_noted (Damaged f k) is h = (one_up n m small is, with_count a.faults b.faults m h.1)
  raised_noted Say is h = (h.0, (λ i. record { disk = (ap (λ (x : Faults). x.disk) h.1) i; say = b.faults.say; full = (ap (λ (x : Faults). x.full) h.1) i; damaged = is i }))

  caused_noted : (P : ℕ → ℕ → Type 0) (e : BlockFault) → m ≡ count_damage e n → CausedOr P e a b → Raised e (faults_with a.faults n) (faults_with b.faults m)
  caused_noted P Disk is h = raised_noted Disk is h
  caused_noted P Memory is h = raised_noted Memory is h
  caused_noted P (Full f) is h = raised_noted (Full f) is h
  caused_noted P (Damaged f k) is (inl h) = raised_noted (Damaged f k) is h.0
  caused_noted P (Damaged f k) is (inr h) = (one_up n m small is, ap (λ (x : Faults). faults_with x m) h.0)
  caused_noted P Say is h = absurd h

  -- a call that finds damaged blocks by itself
  pub causes_noted : {T : Type 0} (P : ℕ → ℕ → Type 0) (r : Result T BlockFault) → m ≡ noted_by r n → HasCausesOr P r a b → CausedBy r (faults_with a.faults n) (faults_with b.faults m)
  causes_noted P (Ok x) is h = λ i. faults_with (h i) (is i)
  causes_noted P (Err e) is h = caused_noted P e is h

-- ---- where a database is told

tells_some : {A : Type 0} (t : Bool) (db : Db) (f : Db → A) (answer : A) → (t ≡ true → answer ≡ f db) → TellsOf (some_if t db) f answer
tells_some true db f answer is = is refl
tells_some false db f answer is = tt

-- an answer is that of a told database where it is that of the one that is spelled
pub tells_if : {A : Type 0} (told : Bool) (desc : Described) (c : Content) (f : Db → A) (answer : A) → (IsTrue told → is_spelled desc c ≡ true → answer ≡ f (db_in desc c)) → TellsOf (db_of desc told c) f answer
tells_if true desc c f answer is = tells_some (is_spelled desc c) (db_in desc c) f answer (is refl)
tells_if false desc c f answer is = tt
