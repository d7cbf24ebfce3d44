-- Items, groups and links.
use Rattle.std.specs.Prelude.{ℕ, ◌+◌, List, [], ◌∷◌, ◌++◌, Bool, true, false, ◌&&◌, not, nat_le, codes, is_none, Some, None, if◌then◌else◌}
use Rattle.std.specs.declared.result.Result.TheVariants.{Ok, Err}
use Rattle.dms_base.specs.declared.kind.Literal.TheVariants.{Null}
use Rattle.dasdl_phrases.specs.declared.fault.ParseFault.TheVariants.{TooMany}
use Rattle.dms_tokens.specs.declared.token.Lexeme.{Lexeme}
use Rattle.dasdl_phrases.specs.Reads.{Read, ◌>>=◌}
use Rattle.dasdl_parse.specs.declared.declarations.ItemDecl.{ItemDecl}
use Rattle.dasdl_parse.specs.declared.declarations.LinkDecl.{LinkDecl}
use Rattle.dasdl_parse.specs.declared.items.ItemOptions.{ItemOptions}
use Rattle.dasdl_parse.specs.declared.items.GroupItems.{GroupItems}
use Rattle.dms_tokens.specs.Cursors.{place_at, starts, is_word}
use Rattle.dasdl_phrases.specs.Cursors.{fault_at, word_at, sign_at, equal_at, comma_at, name_at, turns_at, until_close, until_semicolon}
use Rattle.dasdl_phrases.specs.Kinds.{literal_at, kind_at, starts_kind}

abbrev pub no_options : ItemOptions
no_options = record { required = false; initial = None }

-- an option that hasn't been said; INITIALVALUE and NULL exclude each other
unfoldable pub item_option_at : ItemOptions → List Lexeme → Read ItemOptions
item_option_at s ts =
    if starts (is_word (codes "REQUIRED")) ts && not s.required then (do
      t1 ← word_at (codes "REQUIRED") ts
      Ok (record { required = true; initial = s.initial }, t1))
    else (if starts (is_word (codes "INITIALVALUE")) ts && is_none s.initial then (do
      t1 ← word_at (codes "INITIALVALUE") ts
      t2 ← equal_at t1
      l ← literal_at t2
      Ok (record { required = s.required; initial = Some l.0 }, l.1))
    else (if starts (is_word (codes "NULL")) ts && is_none s.initial then (do
      t1 ← word_at (codes "NULL") ts
      Ok (record { required = s.required; initial = Some Null }, t1))
    else Err (fault_at ts)))

-- [ , ] option
unfoldable pub next_item_option_at : ItemOptions → List Lexeme → Read ItemOptions
next_item_option_at s ts = do
  t1 ← comma_at ts
  item_option_at s t1

-- type { [ , ] option } ; behind an item's name
unfoldable pub item_at : ℕ → List ℕ → List Lexeme → Read ItemDecl
item_at place name ts = do
  kind ← kind_at ts
  said ← turns_at until_semicolon next_item_option_at no_options kind.1
  t1 ← sign_at 59 said.1
  Ok (record { place = place; name = name; kind = kind.0; required = said.0.required; initial = said.0.initial }, t1)

-- one more item of a group, where its data set has fewer than 60
unfoldable pub group_item_at : GroupItems → ℕ → List ℕ → List Lexeme → Read GroupItems
group_item_at s place name ts =
    if not (starts_kind ts) then Err (fault_at ts)
    else (if nat_le 60 s.count then Err (TooMany 60)
    else (do
      item ← item_at place name ts
      Ok (record { items = s.items ++ item.0 ∷ []; count = s.count + 1 }, item.1)))

unfoldable pub next_group_item_at : GroupItems → List Lexeme → Read GroupItems
next_group_item_at s ts = do
  name ← name_at ts
  group_item_at s (place_at ts) name.0 name.1

-- GROUP ( item { item } ) ; behind a group's name
unfoldable pub group_at : ℕ → List Lexeme → Read GroupItems
group_at count ts = do
  t1 ← word_at (codes "GROUP") ts
  t2 ← sign_at 40 t1
  first ← next_group_item_at (record { items = []; count = count }) t2
  all ← turns_at until_close next_group_item_at first.0 first.1
  t3 ← sign_at 41 all.1
  t4 ← sign_at 59 t3
  Ok (all.0, t4)

-- [ COUNTED ], which a schema may say 4,000 times
unfoldable pub counted_at : ℕ → List Lexeme → Read Bool
counted_at counted ts =
    if not (starts (is_word (codes "COUNTED")) ts) then Ok (false, ts)
    else (if nat_le 4000 counted then Err (TooMany 4000)
    else (do
      t1 ← word_at (codes "COUNTED") ts
      Ok (true, t1)))

-- LINK TO name [ COUNTED ] ; behind a link's name
unfoldable pub link_at : ℕ → ℕ → List ℕ → List Lexeme → Read LinkDecl
link_at counted place name ts = do
  t1 ← word_at (codes "LINK") ts
  t2 ← word_at (codes "TO") t1
  target ← name_at t2
  c ← counted_at counted target.1
  t3 ← sign_at 59 c.1
  Ok (record { place = place; name = name; target = target.0; counted = c.0 }, t3)
