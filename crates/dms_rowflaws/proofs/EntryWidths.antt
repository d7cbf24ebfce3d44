-- The width of a structure's entries.
use Rattle.std.proofs.Common.{◌≡◌, ◌≤◌, ℕ, Bool, true, false, Some, refl, ap, arith}
use Rattle.std.specs.Prelude.{◌&&◌, ◌==◌, nat_lt}
use Rattle.std.proofs.lemmas.Bool.Decides.{nat_tests}
use Rattle.dms_chain.specs.Seen.{IsListWidth}
use Rattle.dms_desc.specs.Kinds.{is_set_or_automatic}
use Rattle.dms_desc.specs.Lookups.{structure_of}
use Rattle.dms_desc.specs.Shape.{Shape, Described}
use Rattle.dms_model.specs.Valid.{is_data_set, is_manual}
use Rattle.dms_rowflaws.specs.Blocks.{width_of}
use Rattle.dms_sets.specs.Padded.{entry_width}
use Rattle.dms_sets.specs.Sets.{kinds_over}
use Rattle.dms_spelling.specs.Serving.{IsServed, IsServedShape}
use Rattle.dms_spelling.specs.ServingLaws.{manual_at, served_at, set_at}

no_kind : (k : ℕ) → (nat_lt 0 k && nat_lt k 3) ≡ false → (nat_lt 2 k && nat_lt k 5) ≡ false → (k == 5) ≡ false → 1 ≤ k → k ≤ 5 → ⊥
no_kind k data_set set manual low most = grind (arith, nat_tests, data_set, set, manual, low, most)

module _ (desc : Described) (n : ℕ) (s : Shape) (served : IsServed desc) (at : structure_of desc n ≡ Some s) where
  one : IsServedShape s
  one = served_at desc n s served at

  most_by : (d a m : Bool) → is_data_set (Some s) ≡ d → is_set_or_automatic s ≡ a → is_manual (Some s) ≡ m → width_of desc s ≤ 104
  most_by true a m data_set set manual = let e : width_of desc s ≡ 8 = ap (entry_width (kinds_over desc s)) (one.keyless data_set) in omega (arith, e)
  most_by false true m data_set set manual = (set_at desc n s served at set).width
  most_by false false true data_set set manual = (manual_at desc n s served at manual).width
  most_by false false false data_set set manual = absurd (no_kind s.kind data_set set manual one.low one.most)

  pub wide_at : IsListWidth (width_of desc s)
  wide_at = record { low = omega arith; most = most_by (is_data_set (Some s)) (is_set_or_automatic s) (is_manual (Some s)) refl refl refl }
