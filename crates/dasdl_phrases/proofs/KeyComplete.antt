-- Each key of at most 16 parts is read.
use Rattle.std.proofs.Common.{◌≡◌, ◌≤◌, ◌<◌, ℕ, List, [], ◌∷◌, ◌++◌, map, length, length-append, Bool, true, false, refl, ap, ◌∙◌, arith, append_assoc}
use Rattle.std.proofs.lemmas.Bool.Decides.{nat_tests}
use Rattle.std.specs.Prelude.{codes, nat_le}
use Rattle.std.specs.declared.result.Result.TheVariants.{Ok}
use Rattle.dms_base.specs.Name.{is_name}
use Rattle.dms_tokens.specs.declared.token.Token.{Token}
use Rattle.dms_tokens.specs.declared.token.Token.TheVariants.{Word, Sign}
use Rattle.dms_tokens.specs.declared.token.Lexeme.{Lexeme}
use Rattle.dasdl_phrases.specs.declared.key_parts.PartDecl.{PartDecl}
use Rattle.dms_tokens.specs.Cursors.{starts, is_word, is_the_sign}
use Rattle.dasdl_phrases.specs.Cursors.{is_free, word_at, sign_at, turns_at, until_close}
use Rattle.dasdl_phrases.specs.Keys.{direction_at, part_at, next_part_at, parts_at}
use Rattle.dasdl_phrases.specs.CondSpelling.{token_of}
use Rattle.dasdl_phrases.specs.KeySpelling.{IsDirection, IsPart, AreParts, IsKey}
use Rattle.dasdl_phrases.specs.KeySpelling.IsDirection.{not_said, ascending, descending}
use Rattle.dasdl_phrases.specs.KeySpelling.IsPart.{a_part}
use Rattle.dasdl_phrases.specs.KeySpelling.AreParts.{first_part, next_part}
use Rattle.dasdl_phrases.specs.KeySpelling.IsKey.{lone_part, in_brackets}
use Rattle.dasdl_phrases.proofs.CondComplete.{RunsBranches, joins, turns_at-runs, splits, heads, none_left, name_reads, is_unreserved, sign_reads}
use Rattle.dasdl_phrases.proofs.CondComplete.RunsBranches.{here, step}

-- no direction follows
record NoDirection (rest : List Lexeme) : Type 0 where
  up : starts (is_word (codes "ASCENDING")) rest ≡ false
  down : starts (is_word (codes "DESCENDING")) rest ≡ false

by_sign : (s : ℕ) (l : Lexeme) (ls : List Lexeme) → l.token ≡ Sign s → NoDirection (l ∷ ls)
by_sign s l ls e = record { up = rw e refl; down = rw e refl }

said_up : (l : Lexeme) (rest : List Lexeme) → l.token ≡ Word (codes "ASCENDING") → direction_at (l ∷ rest) ≡ Ok (false, rest)
unfolding direction_at word_at
said_up l rest e = rw e refl

said_down : (l : Lexeme) (rest : List Lexeme) → l.token ≡ Word (codes "DESCENDING") → direction_at (l ∷ rest) ≡ Ok (true, rest)
unfolding direction_at word_at
said_down l rest e = rw e refl

said_not : (rest : List Lexeme) → NoDirection rest → direction_at rest ≡ Ok (false, rest)
unfolding direction_at
said_not rest n = rw (n.up, n.down) refl

direction_reads : (d : Bool) (xs : List Token) → IsDirection d xs → (us rest : List Lexeme) → map token_of us ≡ xs → NoDirection rest → direction_at (us ++ rest) ≡ Ok (d, rest)
direction_reads _ _ not_said us rest e n = rw (none_left us e) (said_not rest n)
direction_reads _ _ ascending us rest e n =
    let k = heads us (Word (codes "ASCENDING")) [] e in
    let same : us ≡ k.l ∷ [] = k.all ∙ ap (λ (vs : List Lexeme). k.l ∷ vs) (none_left k.b k.back) in
    rw same (said_up k.l rest k.token)
direction_reads _ _ descending us rest e n =
    let k = heads us (Word (codes "DESCENDING")) [] e in
    let same : us ≡ k.l ∷ [] = k.all ∙ ap (λ (vs : List Lexeme). k.l ∷ vs) (none_left k.b k.back) in
    rw same (said_down k.l rest k.token)

few_parts : (n : ℕ) → n < 16 → nat_le 16 n ≡ false
few_parts n h = grind (arith, nat_tests)

part_step : (parts : List PartDecl) (l : Lexeme) (us rest : List Lexeme) (name : List ℕ) (d : Bool) → l.token ≡ Word name → is_name name ≡ true → length parts < 16 → direction_at (us ++ rest) ≡ Ok (d, rest) → part_at parts (l ∷ (us ++ rest)) ≡ Ok (parts ++ record { name = name; descending = d } ∷ [], rest)
unfolding part_at
part_step parts l us rest name d e n few h =
    let free : starts is_free (l ∷ (us ++ rest)) ≡ true = rw (e, is_unreserved name n) refl in
    rw (free, few_parts (length parts) few, name_reads l (us ++ rest) name e n, h) refl

part_reads : (p : PartDecl) (xs : List Token) → IsPart p xs → (parts : List PartDecl) (us rest : List Lexeme) → map token_of us ≡ xs → length parts < 16 → NoDirection rest → part_at parts (us ++ rest) ≡ Ok (parts ++ p ∷ [], rest)
part_reads _ _ (a_part name d xs n f) parts us rest e few no_more =
    let k = heads us (Word name) xs e in
    rw k.all (part_step parts k.l k.b rest name d k.token n few (direction_reads d xs f k.b rest k.back no_more))

comma_reads : (parts : List PartDecl) (l : Lexeme) (ls : List Lexeme) → l.token ≡ Sign 44 → next_part_at parts (l ∷ ls) ≡ part_at parts ls
unfolding next_part_at sign_at
comma_reads parts l ls e = rw e refl

-- the first part is read, and turns read the others
record ReadsParts (ps : List PartDecl) (us rest : List Lexeme) : Type 0 where
  start : List PartDecl
  mid : List Lexeme
  first : part_at [] (us ++ rest) ≡ Ok (start, mid)
  others : RunsBranches until_close next_part_at start mid ps rest

are_read : (ps : List PartDecl) (xs : List Token) → AreParts ps xs → (us rest : List Lexeme) → map token_of us ≡ xs → length ps ≤ 16 → NoDirection rest → ReadsParts ps us rest
are_read _ _ (first_part p xs f) us rest e few no_more = record {
  start = p ∷ [];
  mid = rest;
  first = part_reads p xs f [] us rest e (omega arith) no_more;
  others = here (p ∷ []) rest;
}
are_read _ _ (next_part ps p xs ys d f) us rest e few no_more =
    let k = splits us xs (Sign 44 ∷ ys) e in
    let m = heads k.b (Sign 44) ys k.back in
    let fewer : length ps < 16 = omega (arith, few, length-append ps (p ∷ [])) in
    let before = are_read ps xs d k.a (m.l ∷ (m.b ++ rest)) k.front (omega arith) (by_sign 44 m.l (m.b ++ rest) m.token) in
    let go : until_close ps (m.l ∷ (m.b ++ rest)) ≡ false = rw m.token refl in
    let one : next_part_at ps (m.l ∷ (m.b ++ rest)) ≡ Ok (ps ++ p ∷ [], rest) = comma_reads ps m.l (m.b ++ rest) m.token ∙ part_reads p ys f ps m.b rest m.back fewer no_more in
    let last = step ps (ps ++ p ∷ []) (ps ++ p ∷ []) (m.l ∷ (m.b ++ rest)) rest rest go one (omega (arith, length-append m.b rest)) (here (ps ++ p ∷ []) rest) in
    let same : us ++ rest ≡ k.a ++ (m.l ∷ (m.b ++ rest)) = ap (λ (vs : List Lexeme). vs ++ rest) k.all ∙ append_assoc k.a k.b rest ∙ ap (λ (vs : List Lexeme). k.a ++ (vs ++ rest)) m.all in
    record {
      start = before.start;
      mid = before.mid;
      first = rw same before.first;
      others = joins until_close next_part_at before.start ps (ps ++ p ∷ []) before.mid (m.l ∷ (m.b ++ rest)) rest before.others last;
    }

lone_step : (l : Lexeme) (ls : List Lexeme) (name : List ℕ) → l.token ≡ Word name → parts_at (l ∷ ls) ≡ part_at [] (l ∷ ls)
unfolding parts_at
lone_step l ls name e =
    let closed : starts (is_the_sign 40) (l ∷ ls) ≡ false = rw e refl in
    rw closed refl

brackets_step : (l r : Lexeme) (us rest mid : List Lexeme) (start ps : List PartDecl) → l.token ≡ Sign 40 → r.token ≡ Sign 41 → part_at [] (us ++ (r ∷ rest)) ≡ Ok (start, mid) → turns_at until_close next_part_at start mid ≡ Ok (ps, r ∷ rest) → parts_at (l ∷ (us ++ (r ∷ rest))) ≡ Ok (ps, rest)
unfolding parts_at
brackets_step l r us rest mid start ps e f first others =
    let opened : starts (is_the_sign 40) (l ∷ (us ++ (r ∷ rest))) ≡ true = rw e refl in
    rw (opened, sign_reads 40 l (us ++ (r ∷ rest)) refl e, first, others, sign_reads 41 r rest refl f) refl

key_reads : (ps : List PartDecl) (xs : List Token) → IsKey ps xs → (us rest : List Lexeme) → map token_of us ≡ xs → length ps ≤ 16 → NoDirection rest → parts_at (us ++ rest) ≡ Ok (ps, rest)
key_reads _ _ (lone_part p _ (a_part name d xs n f)) us rest e few no_more =
    let k = heads us (Word name) xs e in
    rw k.all (lone_step k.l (k.b ++ rest) name k.token ∙ part_step [] k.l k.b rest name d k.token n (omega arith) (direction_reads d xs f k.b rest k.back no_more))
key_reads _ _ (in_brackets ps xs d) us rest e few no_more =
    let k = heads us (Sign 40) (xs ++ (Sign 41 ∷ [])) e in
    let s = splits k.b xs (Sign 41 ∷ []) k.back in
    let m = heads s.b (Sign 41) [] s.back in
    let r = are_read ps xs d s.a (m.l ∷ rest) s.front few (by_sign 41 m.l rest m.token) in
    let ended : until_close ps (m.l ∷ rest) ≡ true = rw m.token refl in
    let all = turns_at-runs until_close next_part_at r.start ps r.mid (m.l ∷ rest) r.others ended in
    let same : us ++ rest ≡ k.l ∷ (s.a ++ (m.l ∷ rest)) = ap (λ (vs : List Lexeme). vs ++ rest) k.all ∙ ap (λ (vs : List Lexeme). k.l ∷ (vs ++ rest)) (s.all ∙ ap (λ (vs : List Lexeme). s.a ++ vs) (m.all ∙ ap (λ (vs : List Lexeme). m.l ∷ vs) (none_left m.b m.back))) ∙ ap (λ (vs : List Lexeme). k.l ∷ vs) (append_assoc s.a (m.l ∷ []) rest) in
    rw same (brackets_step k.l m.l s.a rest r.mid r.start ps k.token m.token r.first all)

pub key_complete : (us rest : List Lexeme) (parts : List PartDecl) → IsKey parts (map token_of us) → length parts ≤ 16 → starts (is_word (codes "ASCENDING")) rest ≡ false → starts (is_word (codes "DESCENDING")) rest ≡ false → parts_at (us ++ rest) ≡ Ok (parts, rest)
key_complete us rest parts d few up down = key_reads parts (map token_of us) d us rest refl few (record { up = up; down = down })
