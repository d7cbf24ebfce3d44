-- Fields of a head that are put one behind another.
use Rattle.std.specs.Prelude.{◌==◌}
use Rattle.std.proofs.Common.{ℕ, ◌+◌, ◌≤◌, ◌<◌, ◌≡◌, ◌≢◌, false, cond, List, [], ◌∷◌, ◌++◌, length, take, get_or, Option, Some, None, sym, ◌∙◌, ap, arith, append_assoc}
use Rattle.std.specs.Int.{w16, w32, w64, to_be_bytes}
use Rattle.std.proofs.lemmas.List.{take_more}
use Rattle.std.proofs.lemmas.Bool.Decides.{nat_tests}
use Rattle.dms_fields.specs.Fields.{lay_bytes}
use Rattle.dms_fields.specs.Laying.{laid_length}
use Rattle.dms_history.specs.declared.event.FileCount.{FileCount}
use Rattle.dms_audrec.specs.Spelling.{pair_bytes, count_file, count_blocks}
use Rattle.dms_dump.specs.Head.{Head, mark_bytes, end_bytes, head_bytes}
use Rattle.dms_dump.proofs.Callers.{pairs_more}

pub laid_size : (at : ℕ) (bytes old : List ℕ) → at + length bytes ≤ length old → length (lay_bytes at bytes old) ≡ length old
laid_size at bytes old room = laid_length at bytes old room

-- the bytes of the six fields, put one behind another
pub fields_are : (h : Head) → ((((mark_bytes h.end h.tag ++ to_be_bytes w64 h.point) ++ end_bytes h.end) ++ to_be_bytes w32 h.audit) ++ to_be_bytes w16 (length h.counts)) ++ pair_bytes count_file count_blocks h.counts ≡ head_bytes h
unfolding head_bytes
fields_are h =
    let m = mark_bytes h.end h.tag in
    let p = to_be_bytes w64 h.point in
    let n = end_bytes h.end in
    let q = to_be_bytes w32 h.audit in
    let r = to_be_bytes w16 (length h.counts) in
    let l = pair_bytes count_file count_blocks h.counts in
    append_assoc (((m ++ p) ++ n) ++ q) r l ∙ append_assoc ((m ++ p) ++ n) q (r ++ l) ∙ append_assoc (m ++ p) n (q ++ (r ++ l)) ∙ append_assoc m p (n ++ (q ++ (r ++ l)))

-- the mark with a tag that isn't 0
pub mark_else : (tag : ℕ) (xs : List ℕ) → tag ≢ 0 → (xs ++ 68 ∷ 77 ∷ 83 ∷ 69 ∷ []) ++ to_be_bytes w64 tag ≡ xs ++ mark_bytes None tag
mark_else tag xs some =
    let off : (tag == 0) ≡ false = grind (arith, nat_tests, some) in
    append_assoc xs (68 ∷ 77 ∷ 83 ∷ 69 ∷ []) (to_be_bytes w64 tag) ∙ sym (ap (λ b. xs ++ cond b (68 ∷ 77 ∷ 83 ∷ 68 ∷ []) (68 ∷ 77 ∷ 83 ∷ 69 ∷ to_be_bytes w64 tag)) off)

-- the mark of a dump that is copied, with any tag
pub mark_copied : (o : Option ℕ) (end tag : ℕ) (xs : List ℕ) → o ≡ Some end → (xs ++ 68 ∷ 77 ∷ 83 ∷ 79 ∷ []) ++ to_be_bytes w64 tag ≡ xs ++ mark_bytes o tag
mark_copied o end tag xs is = append_assoc xs (68 ∷ 77 ∷ 83 ∷ 79 ∷ []) (to_be_bytes w64 tag) ∙ ap (λ (e : Option ℕ). xs ++ mark_bytes e tag) (sym is)

-- one count more
pub counts_on : (counts : List FileCount) (i : ℕ) (d : FileCount) (front : List ℕ) → i < length counts
    → ((front ++ pair_bytes count_file count_blocks (take i counts)) ++ to_be_bytes w32 (get_or counts i d).file) ++ to_be_bytes w32 (get_or counts i d).blocks ≡ front ++ pair_bytes count_file count_blocks (take (i + 1) counts)
counts_on counts i d front low =
    let p = pair_bytes count_file count_blocks (take i counts) in
    let x = get_or counts i d in
    append_assoc (front ++ p) (to_be_bytes w32 x.file) (to_be_bytes w32 x.blocks)
    ∙ append_assoc front p (to_be_bytes w32 x.file ++ to_be_bytes w32 x.blocks)
    ∙ ap (λ (l : List ℕ). front ++ l) (sym (append_assoc p (to_be_bytes w32 x.file) (to_be_bytes w32 x.blocks)) ∙ sym (pairs_more (take i counts) x) ∙ ap (λ (l : List FileCount). pair_bytes count_file count_blocks l) (sym (take_more counts i d low)))
