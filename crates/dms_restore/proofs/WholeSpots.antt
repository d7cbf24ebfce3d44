-- What stands whole is a block of a structure file, or bytes of one, so no table of it is refused.
use Rattle.std.proofs.Common.{◌≡◌, ◌⊎◌, inl, inr, List, [], ◌∷◌, length, sym, subst, arith}
use Rattle.dms_site.specs.Files.{Files}
use Rattle.dms_audfile.specs.declared.fault.AudFault.{AudFault}
use Rattle.dms_audfile.specs.declared.fault.AudFault.TheVariants.{Memory}
use Rattle.dms_restore.specs.declared.live.LiveEntry.{LiveEntry}
use Rattle.dms_restore.specs.declared.live.LiveEntry.TheVariants.{Changed, Ranged, Quiet, Controlled}
use Rattle.dms_restore.specs.declared.told.Told.{Told}
use Rattle.dms_restore.specs.LiveEntries.{StandsWhole, AllStandWhole}
use Rattle.dms_restore.specs.Named.{Spots, IsPiece, IsPieceAmong, IsHeld, AllHeld, HasNoBlock}
use Rattle.dms_restore.specs.Table.{bytes_at, IsBlock, AreWhole}

one_block : (files : Files) (e : LiveEntry) (t : Told) → StandsWhole files e → IsPiece e t → IsBlock t
one_block files (Changed i) t w is = elim is [
  | inl after ↦ subst IsBlock (sym after) (omega (arith, w.2), omega (arith, w.4), omega arith, omega (arith, w.5), omega (arith, w.6))
  | inr before ↦ subst IsBlock (sym before.1) (omega (arith, w.2), omega (arith, w.4), omega arith, omega (arith, w.5), omega (arith, w.6))
]
one_block files (Ranged r) t w is = subst IsBlock (sym is) (omega (arith, w.1), omega (arith, w.3), omega (arith, w.0.2), omega (arith, w.0.3), omega (arith, w.0.4))
one_block files (Quiet n) t w is = absurd is
one_block files (Controlled c) t w is = absurd is

among_block : (files : Files) (es : List LiveEntry) (t : Told) → AllStandWhole files es → IsPieceAmong es t → IsBlock t
among_block files [] t all is = absurd is
among_block files (e ∷ es) t all is = elim is [
  | inl one ↦ one_block files e t all.0 one
  | inr more ↦ among_block files es t all.1 more
]

pub memory_alone : (files : Files) (front behind : List LiveEntry) (e : AudFault) → AllStandWhole files front → AllStandWhole files behind → (e ≡ Memory) ⊎ HasNoBlock front behind e → e ≡ Memory
memory_alone files front behind e one two is = elim is [
  | inl memory ↦ memory
  | inr lost ↦ elim lost.among [
    | inl here ↦ absurd (lost.is.1 (among_block files front lost.told one here))
    | inr there ↦ absurd (lost.is.1 (among_block files behind lost.told two there))
  ]
]

-- ---- the bytes stand there

abbrev Stands : Files → Told → Type 0
Stands files t = length (bytes_at files t) ≡ t.length

one_whole : (files : Files) (e : LiveEntry) (t : Told) → StandsWhole files e → IsPiece e t → Stands files t
one_whole files (Changed i) t w is = elim is [
  | inl after ↦ subst (Stands files) (sym after) w.0
  | inr before ↦ subst (Stands files) (sym before.1) (w.1 before.0)
]
one_whole files (Ranged r) t w is = subst (Stands files) (sym is) w.0.0
one_whole files (Quiet n) t w is = absurd is
one_whole files (Controlled c) t w is = absurd is

pub among_whole : (files : Files) (es : List LiveEntry) (t : Told) → AllStandWhole files es → IsPieceAmong es t → Stands files t
among_whole files [] t all is = absurd is
among_whole files (e ∷ es) t all is = elim is [
  | inl one ↦ one_whole files e t all.0 one
  | inr more ↦ among_whole files es t all.1 more
]

-- a table of what was noted
pub held_whole : (files : Files) (spots : Spots) (front behind : List LiveEntry) → ((t : Told) → IsHeld spots t → IsPieceAmong front t ⊎ IsPieceAmong behind t) → AllStandWhole files front → AllStandWhole files behind → (ts : List Told) → AllHeld spots ts
    → AreWhole files ts
held_whole files spots front behind from one two [] held = tt
held_whole files spots front behind from one two (t ∷ ts) held = (
  elim (from t held.0) [
    | inl here ↦ among_whole files front t one here
    | inr there ↦ among_whole files behind t two there
  ],
  held_whole files spots front behind from one two ts held.1,
)
