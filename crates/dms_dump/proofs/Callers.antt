-- Bytes that are put one behind another, for the crates above too.
use Rattle.std.proofs.Common.{ℕ, ◌+◌, ◌≤◌, ◌≡◌, List, [], ◌∷◌, ◌++◌, length, take, drop, sym, ◌∙◌, ap, arith, append_assoc, append-nil, length-append, length-take}
use Rattle.std.specs.Int.{w32, to_be_bytes}
use Rattle.std.proofs.lemmas.List.{take_at}
use Rattle.dms_fields.specs.Fields.{lay_bytes}
use Rattle.dms_history.specs.declared.event.FileCount.{FileCount}
use Rattle.dms_audrec.specs.Spelling.{pair_bytes, count_file, count_blocks}

-- the bytes up to the end of what was laid
pub laid_take : (at : ℕ) (bytes old : List ℕ) → at ≤ length old → take (at + length bytes) (lay_bytes at bytes old) ≡ take at old ++ bytes
unfolding lay_bytes
laid_take at bytes old le =
    ap (λ (l : List ℕ). take (at + length bytes) l) (sym (append_assoc (take at old) bytes (drop (at + length bytes) old)))
    ∙ take_at (take at old ++ bytes) (drop (at + length bytes) old) (at + length bytes) (omega (arith, le, length-append (take at old) bytes, length-take at old))

-- one count more
pub pairs_more : (xs : List FileCount) (x : FileCount) → pair_bytes count_file count_blocks (xs ++ x ∷ []) ≡ (pair_bytes count_file count_blocks xs ++ to_be_bytes w32 x.file) ++ to_be_bytes w32 x.blocks
pairs_more [] x = ap (λ (l : List ℕ). to_be_bytes w32 x.file ++ l) (append-nil (to_be_bytes w32 x.blocks))
pairs_more (y ∷ ys) x =
    let a = to_be_bytes w32 y.file in
    let b = to_be_bytes w32 y.blocks in
    let r = pair_bytes count_file count_blocks ys in
    let p = to_be_bytes w32 x.file in
    let q = to_be_bytes w32 x.blocks in
    ap (λ (l : List ℕ). a ++ (b ++ l)) (pairs_more ys x)
    ∙ ap (λ (l : List ℕ). a ++ l) (sym (append_assoc b (r ++ p) q) ∙ ap (λ (l : List ℕ). l ++ q) (sym (append_assoc b r p)))
    ∙ sym (append_assoc a ((b ++ r) ++ p) q) ∙ ap (λ (l : List ℕ). l ++ q) (sym (append_assoc a (b ++ r) p))
