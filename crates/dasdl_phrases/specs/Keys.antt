-- Keys.
use Rattle.std.specs.Prelude.{List, [], ◌∷◌, ◌++◌, Bool, true, false, not, nat_le, length, codes, if◌then◌else◌}
use Rattle.std.specs.declared.result.Result.TheVariants.{Ok, Err}
use Rattle.dasdl_phrases.specs.declared.fault.ParseFault.TheVariants.{TooMany}
use Rattle.dms_tokens.specs.declared.token.Lexeme.{Lexeme}
use Rattle.dasdl_phrases.specs.Reads.{Read, ◌>>=◌}
use Rattle.dasdl_phrases.specs.declared.key_parts.PartDecl.{PartDecl}
use Rattle.dasdl_phrases.specs.declared.key_parts.KeyDecl.{KeyDecl}
use Rattle.dms_tokens.specs.Cursors.{place_at, starts, is_word, is_the_sign}
use Rattle.dasdl_phrases.specs.Cursors.{fault_at, is_free, word_at, sign_at, name_at, turns_at, until_close}

-- [ ASCENDING | DESCENDING ]
unfoldable pub direction_at : List Lexeme → Read Bool
direction_at ts =
    if starts (is_word (codes "ASCENDING")) ts then (do
      t1 ← word_at (codes "ASCENDING") ts
      Ok (false, t1))
    else (if starts (is_word (codes "DESCENDING")) ts then (do
      t1 ← word_at (codes "DESCENDING") ts
      Ok (true, t1))
    else Ok (false, ts))

-- one more part, where there are fewer than 16
unfoldable pub part_at : List PartDecl → List Lexeme → Read (List PartDecl)
part_at parts ts =
    if not (starts is_free ts) then Err (fault_at ts)
    else (if nat_le 16 (length parts) then Err (TooMany 16)
    else (do
      name ← name_at ts
      d ← direction_at name.1
      Ok (parts ++ record { name = name.0; descending = d.0 } ∷ [], d.1)))

unfoldable pub next_part_at : List PartDecl → List Lexeme → Read (List PartDecl)
next_part_at parts ts = do
  t1 ← sign_at 44 ts
  part_at parts t1

-- part | ( part { , part } )
unfoldable pub parts_at : List Lexeme → Read (List PartDecl)
parts_at ts =
    if not (starts (is_the_sign 40) ts) then part_at [] ts
    else (do
      t1 ← sign_at 40 ts
      first ← part_at [] t1
      all ← turns_at until_close next_part_at first.0 first.1
      t2 ← sign_at 41 all.1
      Ok (all.0, t2))

-- KEY IS parts
unfoldable pub key_at : List Lexeme → Read KeyDecl
key_at ts = do
  t1 ← word_at (codes "KEY") ts
  t2 ← word_at (codes "IS") t1
  parts ← parts_at t2
  Ok (record { place = place_at ts; parts = parts.0 }, parts.1)
