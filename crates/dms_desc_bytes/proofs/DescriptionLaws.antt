-- A well-formed description that was written is read again, and so at most one is spelled by the same bytes.
use Rattle.std.proofs.Common.{◌≡◌, ℕ, ◌+◌, ◌%◌, ◌^◌, ◌<◌, ◌≤◌, Bool, true, false, List, [], ◌∷◌, ◌++◌, length, refl, sym, ap, subst, ◌∙◌, append_assoc, arith}
use Rattle.std.specs.Prelude.{not, ◌&&◌, ◌==◌, nat_le}
use Rattle.std.specs.Str.{bytes_eq}
use Rattle.std.proofs.lemmas.Slice.Eq.{bytes_eq-Decides}
use Rattle.std.specs.List.{flat_map, list_all, list_any}
use Rattle.std.specs.Int.{w16, to_be_bytes}
use Rattle.std.proofs.lemmas.Bool.{and_parts, leb-true, eqb-true}
use Rattle.std.proofs.lemmas.List.{append-nil}
use Rattle.dms_desc.specs.Shape.{Shape, Described}
use Rattle.dms_desc_bytes.specs.Lists.{is_within, apart, total}
use Rattle.dms_desc_bytes.specs.Reading.{ReadBytes, bytes_at, number_at, several, structure_at, all_structures_at, description_at}
use Rattle.dms_desc_bytes.specs.Spelling.{structure_bytes, spelling}
use Rattle.dms_desc.specs.Kinds.{is_restart}
use Rattle.dms_desc_bytes.specs.WellFormed.{is_sound, stand_in_order, names_differ, not_both_restart, counted_in, has_parameters, are_sound, IsWellFormed}
use Rattle.dms_desc_bytes.proofs.Fields.{Again, bytes_again, u16_again}
use Rattle.dms_desc_bytes.proofs.MemberLaws.{EachAgain, several_again, three}
use Rattle.dms_desc_bytes.proofs.StructureLaws.{structure_again}
use Rattle.dms_desc_bytes.proofs.Soundness.{shape_spelled}

-- ---- structures

each_structure : (whole : List Shape) → length whole ≤ 200 → list_all (is_sound whole) whole ≡ true → (k : ℕ) (ss : List Shape) → stand_in_order k ss ≡ true → list_all (is_sound whole) ss ≡ true → EachAgain structure_at structure_bytes k ss
each_structure whole few all k [] numbers sound = tt
each_structure whole few all k (s ∷ ss) numbers sound =
    let number = and_parts (s.number == k) (stand_in_order (k + 1) ss) numbers in
    let first = and_parts (is_sound whole s) (list_all (is_sound whole) ss) sound in
    let again = structure_again s (shape_spelled whole s few all first.0) in
    (subst (λ (n : ℕ). Again (structure_at n) (structure_bytes s) s) (eqb-true s.number k number.0) again, each_structure whole few all (k + 1) ss number.1 first.1)

sound_parts : (ss : List Shape) → are_sound ss ≡ true → (length ss ≤ 200) × (stand_in_order 1 ss ≡ true) × (list_all (is_sound ss) ss ≡ true)
unfolding are_sound
sound_parts ss good =
    let a = nat_le (length ss) 200 in
    let b = stand_in_order 1 ss in
    let c = apart names_differ ss in
    let d = list_any is_restart ss in
    let e = apart not_both_restart ss in
    let f = nat_le (total counted_in ss) 4000 in
    let six = and_parts (a && b && c && d && e && f) (list_all (is_sound ss) ss) good in
    let five = and_parts (a && b && c && d && e) f six.0 in
    let four = and_parts (a && b && c && d) e five.0 in
    let three' = and_parts (a && b && c) d four.0 in
    let two = and_parts (a && b) c three'.0 in
    let one = and_parts a b two.0 in
    (leb-true (length ss) 200 one.0, one.1, six.1)

abbrev count_on : ReadBytes ℕ → ReadBytes (List Shape)
count_on n = several structure_at 1 n.0 n.1

small_count : (n : ℕ) → n ≤ 200 → n % 65536 ≡ n
small_count n low = omega arith

structures_again : (ss : List Shape) → are_sound ss ≡ true → Again all_structures_at (to_be_bytes w16 (length ss % 65536) ++ flat_map structure_bytes ss) ss
unfolding all_structures_at
structures_again ss good rest =
    let parts = sound_parts ss good in
    let texts = flat_map structure_bytes ss in
    let few = small_count (length ss) parts.0 in
    ap (λ (bytes : List ℕ). count_on (number_at w16 bytes)) (append_assoc (to_be_bytes w16 (length ss % 65536)) texts rest)
    ∙ ap count_on (u16_again (length ss % 65536) (omega (arith, few, parts.0)) (texts ++ rest))
    ∙ ap (λ (n : ℕ). several structure_at 1 n (texts ++ rest)) few
    ∙ several_again structure_at structure_bytes 1 ss (each_structure ss parts.0 parts.2 1 ss parts.1 parts.2) rest

-- ---- parameters

record LowNumbers (d : Described) : Type 0 where
  pub syncpoint : d.syncpoint < 2 ^ 16
  pub controlpoint : d.controlpoint < 2 ^ 16
  pub buffers : d.buffers < 2 ^ 16
  pub blocks : d.blocks < 2 ^ 16
  pub files : d.files < 2 ^ 16

most_of : (least most n : ℕ) → is_within least most n ≡ true → n ≤ most
most_of least most n good = leb-true n most (and_parts (nat_le least n) (nat_le n most) good).1

low_parameters : (d : Described) → has_parameters d ≡ true → LowNumbers d
unfolding has_parameters
low_parameters d good =
    let a = is_within 1 10000 d.syncpoint in
    let b = is_within 1 10000 d.controlpoint in
    let c = is_within 8 4096 d.buffers in
    let e = is_within 8 512 d.blocks in
    let f = is_within 2 9999 d.files in
    let four = and_parts (a && b && c && e) f good in
    let three' = and_parts (a && b && c) e four.0 in
    let two = and_parts (a && b) c three'.0 in
    let one = and_parts a b two.0 in
    let sa = most_of 1 10000 d.syncpoint one.0 in
    let sb = most_of 1 10000 d.controlpoint one.1 in
    let sc = most_of 8 4096 d.buffers two.1 in
    let se = most_of 8 512 d.blocks three'.1 in
    let sf = most_of 2 9999 d.files four.1 in
    record { syncpoint = omega (arith, sa); controlpoint = omega (arith, sb); buffers = omega (arith, sc); blocks = omega (arith, se); files = omega (arith, sf) }

-- ---- descriptions

abbrev made : ℕ → ℕ → ℕ → ℕ → ℕ → ReadBytes (List Shape) → ReadBytes Described
made a b c e f ss = (record { syncpoint = a; controlpoint = b; buffers = c; blocks = e; files = f; structures = ss.0 }, ss.1)

abbrev files_on : ℕ → ℕ → ℕ → ℕ → ReadBytes ℕ → ReadBytes Described
files_on a b c e f = made a b c e f.0 (all_structures_at f.1)

abbrev blocks_on : ℕ → ℕ → ℕ → ReadBytes ℕ → ReadBytes Described
blocks_on a b c e = files_on a b c e.0 (number_at w16 e.1)

abbrev buffers_on : ℕ → ℕ → ReadBytes ℕ → ReadBytes Described
buffers_on a b c = blocks_on a b c.0 (number_at w16 c.1)

abbrev controlpoint_on : ℕ → ReadBytes ℕ → ReadBytes Described
controlpoint_on a b = buffers_on a b.0 (number_at w16 b.1)

abbrev syncpoint_on : ReadBytes ℕ → ReadBytes Described
syncpoint_on a = controlpoint_on a.0 (number_at w16 a.1)

eight : (m a b c e f n s : List ℕ) → m ++ a ++ b ++ c ++ e ++ f ++ n ++ s ≡ m ++ (a ++ (b ++ (c ++ (e ++ (f ++ (n ++ s))))))
eight m a b c e f n s =
    append_assoc (m ++ a ++ b ++ c ++ e ++ f) n s
    ∙ append_assoc (m ++ a ++ b ++ c ++ e) f (n ++ s)
    ∙ append_assoc (m ++ a ++ b ++ c) e (f ++ (n ++ s))
    ∙ append_assoc (m ++ a ++ b) c (e ++ (f ++ (n ++ s)))
    ∙ three m a b (c ++ (e ++ (f ++ (n ++ s))))

ended : (ss : List Shape) → are_sound ss ≡ true → ◌≡◌ {A = ReadBytes (List Shape)} (all_structures_at (to_be_bytes w16 (length ss % 65536) ++ flat_map structure_bytes ss)) (ss, [])
ended ss good =
    let text = to_be_bytes w16 (length ss % 65536) ++ flat_map structure_bytes ss in
    ap all_structures_at (sym (append-nil text)) ∙ structures_again ss good []

abbrev mark : List ℕ
mark = 68 ∷ 77 ∷ 83 ∷ 83 ∷ 0 ∷ 1 ∷ []

mark_read : (rest : List ℕ) → ◌≡◌ {A = ReadBytes (List ℕ)} (bytes_at 6 (mark ++ rest)) (mark, rest)
mark_read rest = bytes_again 6 mark refl rest

pub description_again : (d : Described) → IsWellFormed d → ◌≡◌ {A = ReadBytes Described} (description_at (spelling d)) (d, [])
unfolding description_at spelling
description_again d good =
    let low = low_parameters d good.parameters in
    let a = to_be_bytes w16 d.syncpoint in
    let b = to_be_bytes w16 d.controlpoint in
    let c = to_be_bytes w16 d.buffers in
    let e = to_be_bytes w16 d.blocks in
    let f = to_be_bytes w16 d.files in
    let n = to_be_bytes w16 (length d.structures % 65536) in
    let s = flat_map structure_bytes d.structures in
    ap (λ (bytes : List ℕ). syncpoint_on (number_at w16 (bytes_at 6 bytes).1)) (eight mark a b c e f n s)
    ∙ ap (λ (r : ReadBytes (List ℕ)). syncpoint_on (number_at w16 r.1)) (mark_read (a ++ (b ++ (c ++ (e ++ (f ++ (n ++ s)))))))
    ∙ ap syncpoint_on (u16_again d.syncpoint low.syncpoint (b ++ (c ++ (e ++ (f ++ (n ++ s))))))
    ∙ ap (controlpoint_on d.syncpoint) (u16_again d.controlpoint low.controlpoint (c ++ (e ++ (f ++ (n ++ s)))))
    ∙ ap (buffers_on d.syncpoint d.controlpoint) (u16_again d.buffers low.buffers (e ++ (f ++ (n ++ s))))
    ∙ ap (blocks_on d.syncpoint d.controlpoint d.buffers) (u16_again d.blocks low.blocks (f ++ (n ++ s)))
    ∙ ap (files_on d.syncpoint d.controlpoint d.buffers d.blocks) (u16_again d.files low.files (n ++ s))
    ∙ ap (made d.syncpoint d.controlpoint d.buffers d.blocks d.files) (ended d.structures good.structures)

-- what was read is the only description that these bytes can spell
pub only_read : (bytes : List ℕ) (found d : Described) → found ≡ (description_at bytes).0 → IsWellFormed d → spelling d ≡ bytes → found ≡ d
only_read bytes found d read good spelled =
    read ∙ ap (λ (text : List ℕ). (description_at text).0) (sym spelled) ∙ ap (λ (r : ReadBytes Described). r.0) (description_again d good)

pub both_ways : (b : Bool) → false ≡ b → b ≡ true → ⊥
both_ways b fails holds = let bad : false ≡ true = fails ∙ holds in absurd cc

pub written_so : (out bytes : List ℕ) → true ≡ not (bytes_eq out bytes) → out ≡ bytes → ⊥
written_so out bytes other same =
    let bad : true ≡ false = other ∙ ap not ((bytes_eq-Decides out bytes).1 same) in absurd cc
