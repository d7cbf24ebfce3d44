-- Which blocks are there whole.
use Rattle.std.proofs.Common.{ℕ, ◌+◌, ◌*◌, ◌/◌, ◌<◌, ◌≤◌, ◌≡◌, inl, inr, true, false, length, sym, ◌∙◌, ap, arith}
use Rattle.std.proofs.lemmas.Bool.{cases_lt, true≢false}
use Rattle.dms_site.specs.Files.{Files, stored_of}
use Rattle.dms_site.specs.Laws.{length-range}
use Rattle.dms_site.specs.StoredLaws.{stored_at}
use Rattle.dms_restore.specs.declared.restore_table.RestoreTable.{RestoreTable}
use Rattle.dms_opening.specs.Short.{is_written, IsLacking}

-- a block behind the whole ones that a restore doesn't write
pub lacks : (files : Files) (table : RestoreTable) (f b whole : ℕ) → 30000 < f → whole ≡ length (files f) / 1024 → whole ≤ b → is_written table f b ≡ false → IsLacking files table f b
lacks files table f b whole structure is past unwritten =
    let at = ap length (stored_at files f b structure) ∙ length-range (1024 * b) 1024 (files f) in
    record { unwritten = unwritten; short = omega (arith, at, past, is) }

-- a whole one
whole_stands : (files : Files) (table : RestoreTable) (f b whole : ℕ) → 30000 < f → whole ≡ length (files f) / 1024 → b < whole → IsLacking files table f b → ⊥
whole_stands files table f b whole structure is low l =
    let at = ap length (stored_at files f b structure) ∙ length-range (1024 * b) 1024 (files f) in
    absurd (omega (arith, at, low, is, l.short))

-- those before one up to which all behind the whole ones are written
pub lacks_not : (files : Files) (table : RestoreTable) (f whole next : ℕ) → 30000 < f → whole ≡ length (files f) / 1024 → ((b : ℕ) → whole ≤ b → b < next → is_written table f b ≡ true) → (b : ℕ) → b < next → IsLacking files table f b → ⊥
lacks_not files table f whole next structure is written b low l = elim (cases_lt b whole) [
  | inl before ↦ whole_stands files table f b whole structure is before l
  | inr behind ↦ absurd (true≢false (sym (written b behind low) ∙ l.unwritten))
]

-- none of them
pub lacks_none : (files : Files) (table : RestoreTable) (f whole count : ℕ) → 30000 < f → whole ≡ length (files f) / 1024 → count ≤ whole → (b : ℕ) → b < count → IsLacking files table f b → ⊥
lacks_none files table f whole count structure is enough b low l = whole_stands files table f b whole structure is (omega (arith, enough, low)) l
