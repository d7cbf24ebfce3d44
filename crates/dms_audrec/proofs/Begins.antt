-- A Begin that is read field by field.
use Rattle.std.proofs.Common.{◌≡◌, ℕ, ◌*◌, ◌/◌, ◌≤◌, true, ltb, List, length, take, drop, Some, refl, sym, ap, subst, arith, length-take}
use Rattle.std.specs.Int.{w16, w64}
use Rattle.std.proofs.lemmas.Bool.{ltb-false}
use Rattle.dms_history.specs.Entries.{begin_restore}
use Rattle.dms_fields.specs.Prefix.{byte_first, number_first, bytes_first}
use Rattle.dms_audrec.specs.Reading.{begin_at, rows_at, kind_of, kind_fits}
use Rattle.dms_fields.specs.PrefixLaws.{stop_some}

pub taken_length : (n : ℕ) (bytes list rest : List ℕ) → Some (list, rest) ≡ bytes_first n bytes → length list ≡ n
taken_length n bytes list rest e =
    let g = stop_some (ltb (length bytes) n) (take n bytes, drop n bytes) (list, rest) (sym e) in
    let long : n ≤ length bytes = ltb-false _ _ g.0 in
    omega (arith, length-take n bytes, ap (λ (p : List ℕ × List ℕ). length p.0) g.1)

begun : (bytes b1 b2 b3 b4 b5 list : List ℕ) (n how dump rows : ℕ) → number_first w64 bytes ≡ Some (n, b1) → byte_first b1 ≡ Some (how, b2) → number_first w16 b2 ≡ Some (dump, b3) → number_first w16 b3 ≡ Some (rows, b4) → bytes_first (8 * rows) b4 ≡ Some (list, b5)
    → kind_fits how dump (rows_at rows list) ≡ true → Some (begin_restore n (kind_of how dump (rows_at rows list)), b5) ≡ begin_at bytes
unfolding begin_at
begun bytes b1 b2 b3 b4 b5 list n how dump rows e1 e2 e3 e4 e5 fits = rw (e1, e2, e3, e4, e5, fits) refl

pub begin_is : (bytes b1 b2 b3 b4 b5 list : List ℕ) (n how dump rows : ℕ) → Some (n, b1) ≡ number_first w64 bytes → Some (how, b2) ≡ byte_first b1 → Some (dump, b3) ≡ number_first w16 b2 → Some (rows, b4) ≡ number_first w16 b3 → Some (list, b5) ≡ bytes_first (8 * rows) b4
    → kind_fits how dump (rows_at (length list / 8) list) ≡ true → Some (begin_restore n (kind_of how dump (rows_at (length list / 8) list)), b5) ≡ begin_at bytes
begin_is bytes b1 b2 b3 b4 b5 list n how dump rows e1 e2 e3 e4 e5 =
    let m : length list / 8 ≡ rows = omega (arith, taken_length (8 * rows) b4 list b5 e5) in
    subst (λ k. kind_fits how dump (rows_at k list) ≡ true → Some (begin_restore n (kind_of how dump (rows_at k list)), b5) ≡ begin_at bytes) (sym m)
    (begun bytes b1 b2 b3 b4 b5 list n how dump rows (sym e1) (sym e2) (sym e3) (sym e4) (sym e5))
