-- The members of a set or automatic subset, by one look at its file's list.
use Rattle.std.proofs.Common.{◌≡◌, ℕ, true, false, Some, arith}
use Rattle.std.specs.Prelude.{◌==◌, nat_lt}
use Rattle.std.proofs.lemmas.Bool.Decides.{nat_tests}
use Rattle.std.proofs.lemmas.Bool.{and_parts}
use Rattle.dms_block.specs.Content.{Content}
use Rattle.dms_desc.specs.declared.bound.Bound.{Bound}
use Rattle.dms_desc.specs.Lookups.{structure_of}
use Rattle.dms_desc.specs.Kinds.{is_set_or_automatic}
use Rattle.dms_desc.specs.Shape.{Shape, Described}
use Rattle.dms_entries.specs.BoundFits.{may_look}
use Rattle.dms_model.specs.Fitting.{MayStart}
use Rattle.dms_model.specs.Members.{first_member, last_member}
use Rattle.dms_chain.specs.Lists.{first_from, last_to}
use Rattle.dms_sets.specs.Bounds.{BoundKeyFits}
use Rattle.dms_sets.specs.Finds.{first_member_by, last_member_by, spot_by}
use Rattle.dms_sets.specs.Padded.{BoundSmall, from_bytes, to_bytes}
use Rattle.dms_sets.specs.Sets.{entries_of, kinds_over}
use Rattle.dms_spelling.specs.ServingLaws.{set_at}
use Rattle.dms_spelling.specs.Serving.{IsServed}
use Rattle.dms_spelling.specs.Spelled.{db_in, is_spelled, database_in}
use Rattle.dms_store.specs.Files.{spelled_is}
use Rattle.dms_store.specs.SpelledLaws.{spelled_fits}

kept_apart : (s : Shape) → is_set_or_automatic s ≡ true → (s.kind == 5) ≡ false
kept_apart s h = let both = and_parts (nat_lt 2 s.kind) (nat_lt s.kind 5) h in grind (arith, nat_tests, both.1)

-- The first member of a set or automatic subset behind a bound, and the last one before it, are those of one look at the list
-- of its file.
module _ (desc : Described) (path : ℕ) (s : Shape) (c : Content) (served : IsServed desc) (at : structure_of desc path ≡ Some s) (kept : is_set_or_automatic s ≡ true) (spelt : is_spelled desc c ≡ true) (owner : ℕ) (bound : Bound) (may : MayStart desc path owner bound) where
  fits_bound : BoundKeyFits (kinds_over desc s) s.parts bound × BoundSmall (kinds_over desc s) s.parts bound
  fits_bound = may_look desc path s served at owner bound may

  is_told : database_in desc c ≡ Some (db_in desc c)
  is_told = spelled_is desc c spelt

  pub first_look : first_member desc (db_in desc c) path owner bound ≡ spot_by s (db_in desc c) owner (first_from (from_bytes (kinds_over desc s) s.parts owner bound) (entries_of desc (db_in desc c) s))
  first_look =
      first_member_by desc (db_in desc c) path s owner bound at may.owned (kept_apart s kept) (set_at desc path s served at kept).named
      (spelled_fits desc c (db_in desc c) served is_told) fits_bound.0 fits_bound.1

  pub last_look : last_member desc (db_in desc c) path owner bound ≡ spot_by s (db_in desc c) owner (last_to (to_bytes (kinds_over desc s) s.parts owner bound) (entries_of desc (db_in desc c) s))
  last_look =
      last_member_by desc (db_in desc c) path s owner bound at may.owned (kept_apart s kept) (set_at desc path s served at kept).named
      (spelled_fits desc c (db_in desc c) served is_told) fits_bound.0
