-- How often calls failed, and what a call leaves of that.
use Rattle.std.specs.Prelude.{ℕ, ◌≡◌, ◌≤◌, ◌+◌}
use Rattle.std.proofs.Common.{sym, subst, arith}
use Rattle.std.specs.declared.result.Result.{Result}
use Rattle.std.specs.declared.result.Result.TheVariants.{Ok, Err}
use Rattle.dms_base.specs.Causes.{Rose}
use Rattle.dms_block.specs.declared.block_fault.BlockFault.{BlockFault}
use Rattle.dms_block.specs.declared.block_fault.BlockFault.TheVariants.{Disk, Memory, Full, Damaged, Say}

-- how often the disk has failed, how often printing has, how often the audit was full, and how often a block was found damaged
pub record Faults : Type 0 where
  pub disk : ℕ
  pub say : ℕ
  pub full : ℕ
  pub damaged : ℕ

-- a count rose by one, or stands at the end of its type
pub record RoseOnce (before now : ℕ) : Type 0 where
  pub later : before ≤ now
  pub rose : Rose before now
  pub once : now ≤ before + 1

-- this fault was counted once, and no other was
abbrev pub Raised : BlockFault → Faults → Faults → Type 0
Raised Disk a b = RoseOnce a.disk b.disk × (b ≡ record a { disk = b.disk })
Raised Memory a b = b ≡ a
Raised (Full f) a b = RoseOnce a.full b.full × (b ≡ record a { full = b.full })
Raised (Damaged f n) a b = RoseOnce a.damaged b.damaged × (b ≡ record a { damaged = b.damaged })
Raised Say a b = RoseOnce a.say b.say × (b ≡ record a { say = b.say })

-- a call that failed raised the count of its fault, and no other; one that answered, or was refused memory, raised none
abbrev pub CausedBy : {T : Type 0} → Result T BlockFault → Faults → Faults → Type 0
CausedBy (Ok x) a b = b ≡ a
CausedBy (Err f) a b = Raised f a b

-- a call that failed, after calls that didn't
pub caused_since : {T : Type 0} (r : Result T BlockFault) (a b c : Faults) → b ≡ a → CausedBy r b c → CausedBy r a c
caused_since r a b c same caused = subst (λ (x : Faults). CausedBy r x c) same caused

-- no failure is forgotten
pub record NotFewer (a b : Faults) : Type 0 where
  pub disk : a.disk ≤ b.disk
  pub say : a.say ≤ b.say
  pub full : a.full ≤ b.full
  pub damaged : a.damaged ≤ b.damaged

same_few : (a b : Faults) → b ≡ a → NotFewer a b
same_few a b same = subst (λ (x : Faults). NotFewer a x) (sym same) (record { disk = omega arith; say = omega arith; full = omega arith; damaged = omega arith })

module _ (a b : Faults) where
  raised_few : (f : BlockFault) → Raised f a b → NotFewer a b
  raised_few Disk p = subst (λ (x : Faults). NotFewer a x) (sym p.1) (record { disk = p.0.later; say = omega arith; full = omega arith; damaged = omega arith })
  raised_few Memory p = same_few a b p
  raised_few (Full f) p = subst (λ (x : Faults). NotFewer a x) (sym p.1) (record { disk = omega arith; say = omega arith; full = p.0.later; damaged = omega arith })
  raised_few (Damaged f n) p = subst (λ (x : Faults). NotFewer a x) (sym p.1) (record { disk = omega arith; say = omega arith; full = omega arith; damaged = p.0.later })
  raised_few Say p = subst (λ (x : Faults). NotFewer a x) (sym p.1) (record { disk = omega arith; say = p.0.later; full = omega arith; damaged = omega arith })

pub not_fewer : {T : Type 0} (r : Result T BlockFault) (a b : Faults) → CausedBy r a b → NotFewer a b
not_fewer (Ok x) a b p = same_few a b p
not_fewer (Err f) a b p = raised_few a b f p
