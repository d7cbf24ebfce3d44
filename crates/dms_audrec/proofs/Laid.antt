-- An entry that is written field by field, and how long entries are.
use Rattle.std.proofs.Common.{◌≡◌, ℕ, ◌+◌, ◌*◌, ◌/◌, ◌≤◌, List, ◌∷◌, ◌++◌, length, take, sym, ap, ◌∙◌, arith}
use Rattle.std.specs.Int.{w16, w64, to_be_bytes}
use Rattle.dms_fields.specs.Fields.{lay_bytes}
use Rattle.dms_fields.specs.Laying.{laid_on}
use Rattle.dms_history.specs.Entries.{Kind, control_point, begin_restore}
use Rattle.dms_audrec.specs.Reading.{counts_at, rows_at}
use Rattle.dms_audrec.specs.Spelling.{spelling, rows_of, begin_bytes}
use Rattle.dms_audrec.specs.PairLaws.{counts_length, counts_many, counts_spelled, rows_length, rows_spelled}
use Rattle.dms_fields.specs.PrefixLaws.{IsBytes}
use Rattle.dms_audrec.proofs.Callers.{rows_many}

-- one field more
pub laid_more : (next size : ℕ) (now before text field old : List ℕ) → now ≡ lay_bytes next field before → before ≡ lay_bytes 0 text old → next ≡ length text → length field ≡ size → next + size ≤ length old
    → now ≡ lay_bytes 0 (text ++ field) old
laid_more next size now before text field old is done place many room =
    is ∙ ap (λ (l : List ℕ). lay_bytes next field l) done ∙ laid_on 0 next text field old (omega (arith, place)) (omega (arith, many, room))

pub control_length : (n next : ℕ) (list : List ℕ) → length (spelling (control_point n next (counts_at (length list / 8) list))) ≡ 19 + 8 * (length list / 8)
control_length n next list =
    let k = length list / 8 in
    omega (arith, counts_length (counts_at k list), counts_many k list)

pub begin_length : (n : ℕ) (kind : Kind) → length (spelling (begin_restore n kind)) ≡ 14 + 8 * length (rows_of kind)
begin_length n kind = omega (arith, rows_length (rows_of kind))

pub control_is : (n next : ℕ) (list : List ℕ) → IsBytes list
    → 4 ∷ (to_be_bytes w64 n ++ (to_be_bytes w64 next ++ (to_be_bytes w16 (length list / 8) ++ take (8 * (length list / 8)) list))) ≡ spelling (control_point n next (counts_at (length list / 8) list))
control_is n next list fits =
    let k = length list / 8 in
    λ i. 4 ∷ (to_be_bytes w64 n ++ (to_be_bytes w64 next ++ (to_be_bytes w16 (sym (counts_many k list) i) ++ counts_spelled k list (omega arith) fits i)))

pub begin_is : (n how dump : ℕ) (list : List ℕ) → IsBytes list
    → 5 ∷ (to_be_bytes w64 n ++ (how ∷ (to_be_bytes w16 dump ++ (to_be_bytes w16 (length list / 8) ++ take (8 * (length list / 8)) list)))) ≡ begin_bytes n how dump (rows_at (length list / 8) list)
begin_is n how dump list fits =
    let k = length list / 8 in
    λ i. 5 ∷ (to_be_bytes w64 n ++ (how ∷ (to_be_bytes w16 dump ++ (to_be_bytes w16 (sym (rows_many k list) i) ++ rows_spelled k list (omega arith) fits i))))
