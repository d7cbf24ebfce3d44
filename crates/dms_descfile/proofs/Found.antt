-- What a description file is found to hold.
use Rattle.std.proofs.Common.{ℕ, ◌+◌, ◌-◌, ◌<◌, ◌≤◌, ◌≡◌, ◌≢◌, ◌⊎◌, inl, inr, List, [], ◌∷◌, ◌++◌, length, take, drop, get_or, refl, sym, ◌∙◌, ap, arith, append-nil, length-drop, Bool, true, false, not, Some, None, Option}
use Rattle.std.proofs.lemmas.List.{take_all, drop_all, take_at}
use Rattle.std.specs.Str.{bytes_eq}
use Rattle.std.proofs.lemmas.Slice.Eq.{bytes_eq-Decides}
use Rattle.std.specs.Int.{w32, to_be_bytes}
use Rattle.dms_desc.specs.declared.description.Description.{Description}
use Rattle.std.specs.Prelude.{IfSome}
use Rattle.dms_desc.specs.Shape.{as_described}
use Rattle.dms_desc_bytes.specs.WellFormed.{IsWellFormed}
use Rattle.dms_desc_bytes.specs.Spelling.{spelling}
use Rattle.dms_desc_bytes.specs.Decoding.{Decodes}
use Rattle.dms_site.specs.Files.{range}
use Rattle.dms_descfile.specs.DescriptionFile.{description_file, IsUnsealed, Holds}
use Rattle.dms_descfile.specs.Contents.{HasContent}

-- a file whose length is that of no description file
pub odd_unsealed : (file : List ℕ) → (length file < 6) ⊎ (65541 < length file) → IsUnsealed file
unfolding description_file
odd_unsealed file odd d s = elim odd [
  | inl short ↦ absurd (omega (arith, short, ap length s.is))
  | inr long ↦ absurd (omega (arith, long, s.few, ap length s.is))
]

-- no content stands in a file that is too short, or whose gate isn't open
pub short_none : (file bytes : List ℕ) → length file < 6 → HasContent file bytes → ⊥
unfolding description_file
short_none file bytes short c = omega (arith, short, ap length c.is)

pub closed_none : (file bytes : List ℕ) → get_or file 0 0 ≢ 1 → HasContent file bytes → ⊥
unfolding description_file
closed_none file bytes closed c = closed (ap (λ (l : List ℕ). get_or l 0 0) c.is)

by_not : (b : Bool) → false ≡ not b → b ≡ true
by_not true h = refl
by_not false h = absurd (cc)

by_not_true : (b : Bool) → true ≡ not b → b ≡ false
by_not_true true h = absurd (cc)
by_not_true false h = refl

not_both : (b : Bool) → b ≡ true → b ≡ false → ⊥
not_both b t f = cc

-- the bytes behind the first six
rest_of : (file : List ℕ) → take (length file - 6) (drop 6 file) ≡ drop 6 file
rest_of file = take_all (length file - 6) (drop 6 file) (omega (arith, length-drop 6 file))

at_head : (file r content : List ℕ) → 6 ≤ length file → get_or file 0 0 ≡ 1 → content ≡ drop 6 file → r ≡ to_be_bytes w32 (length content) → take 4 (drop 2 file) ≡ r → file ≡ description_file 1 (get_or file 1 0) content
unfolding description_file
at_head [] r content long gate is field same = absurd (omega (arith, long))
at_head (a ∷ []) r content long gate is field same = absurd (omega (arith, long))
at_head (a ∷ b ∷ []) r content long gate is field same = absurd (omega (arith, long))
at_head (a ∷ b ∷ c ∷ []) r content long gate is field same = absurd (omega (arith, long))
at_head (a ∷ b ∷ c ∷ d ∷ []) r content long gate is field same = absurd (omega (arith, long))
at_head (a ∷ b ∷ c ∷ d ∷ e ∷ []) r content long gate is field same = absurd (omega (arith, long))
at_head (a ∷ b ∷ c ∷ d ∷ e ∷ f ∷ rest) r content long gate is field same =
    let head : c ∷ d ∷ e ∷ f ∷ [] ≡ to_be_bytes w32 (length content) = same ∙ field in
    λ i. gate i ∷ b ∷ head i ++ sym is i

-- the gate is open and the length is right
pub found : (file r content : List ℕ) → 6 ≤ length file → get_or file 0 0 ≡ 1 → content ≡ take (length file - 6) (drop 6 file) → r ≡ to_be_bytes w32 (length content) → false ≡ not (bytes_eq (take 4 (drop 2 file)) r) → HasContent file content
found file r content long gate is field test = record {
  database = get_or file 1 0;
  is = at_head file r content long gate (is ∙ rest_of file) field ((bytes_eq-Decides (take 4 (drop 2 file)) r).0 (by_not (bytes_eq (take 4 (drop 2 file)) r) test));
}

field_of : (database : ℕ) (bytes file : List ℕ) → file ≡ description_file 1 database bytes → take 4 (drop 2 file) ≡ to_be_bytes w32 (length bytes)
unfolding description_file
field_of database bytes file is = ap (λ (l : List ℕ). take 4 (drop 2 l)) is

content_of : (gate database : ℕ) (bytes file : List ℕ) → file ≡ description_file gate database bytes → drop 6 file ≡ bytes
unfolding description_file
content_of gate database bytes file is = ap (λ (l : List ℕ). drop 6 l) is

-- the length is wrong
pub wrong_none : (file r content bytes : List ℕ) → content ≡ take (length file - 6) (drop 6 file) → r ≡ to_be_bytes w32 (length content) → true ≡ not (bytes_eq (take 4 (drop 2 file)) r) → HasContent file bytes → ⊥
wrong_none file r content bytes is field test c =
    let same : content ≡ bytes = is ∙ rest_of file ∙ content_of 1 c.database bytes file c.is in
    let right : take 4 (drop 2 file) ≡ r = field_of c.database bytes file c.is ∙ ap (λ (l : List ℕ). to_be_bytes w32 (length l)) (sym same) ∙ sym field in
    not_both (bytes_eq (take 4 (drop 2 file)) r) ((bytes_eq-Decides (take 4 (drop 2 file)) r).1 right) (by_not_true (bytes_eq (take 4 (drop 2 file)) r) test)

length_of : (gate database : ℕ) (bytes file : List ℕ) → file ≡ description_file gate database bytes → length file ≡ 6 + length bytes
unfolding description_file
length_of gate database bytes file is = omega (arith, ap length is)

-- what the content spells is what the file holds
pub holds_of : (file content : List ℕ) (read : Option Description) → HasContent file content → Decodes content read → length file ≤ 65541 → Holds file read
holds_of file content None c decodes few = λ d s.
    decodes d s.well_formed (sym (content_of 1 s.database (spelling d) file s.is) ∙ content_of 1 c.database content file c.is)
holds_of file content (Some d) c decodes few = record {
  database = c.database;
  well_formed = decodes.0;
  few = omega (arith, few, length_of 1 c.database content file c.is, ap length decodes.1);
  is = c.is ∙ ap (λ (l : List ℕ). description_file 1 c.database l) (sym decodes.1);
}

-- a read of a whole file
pub whole_read : (file into new items : List ℕ) (len n : ℕ) → len ≡ length file → length into ≡ len → n ≡ length (range 0 (length into) file) → new ≡ range 0 (length into) file ++ drop n into → take len (new ++ drop (length new) items) ≡ file
unfolding range
whole_read file into new items len n long size count is =
    let all : take (length into) (drop 0 file) ≡ file = take_all (length into) file (omega (arith, long, size)) in
    let none : drop n into ≡ [] = drop_all n into (omega (arith, long, size, count, ap length all)) in
    let same : new ≡ file = is ∙ (λ i. all i ++ none i) ∙ append-nil file in
    take_at new (drop (length new) items) len (omega (arith, long, ap length same)) ∙ same

-- what is decoded is well-formed
pub sound_of : (bytes : List ℕ) (read : Option Description) → Decodes bytes read → IfSome read (λ d. IsWellFormed (as_described d))
sound_of bytes None decodes = tt
sound_of bytes (Some d) decodes = decodes.0
