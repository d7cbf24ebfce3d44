-- Conditions, token by token.
use Rattle.std.specs.Prelude.{ℕ, ◌+◌, List, [], ◌∷◌, Bool, ◌&&◌, ◌||◌, not, nat_le, codes, is_some, Some, None, if◌then◌else◌}
use Rattle.std.specs.declared.option.Option.{Option}
use Rattle.std.specs.declared.result.Result.TheVariants.{Ok, Err}
use Rattle.dms_base.specs.declared.op.Op.{Op}
use Rattle.dasdl_phrases.specs.declared.fault.ParseFault.TheVariants.{Expected, TooMany}
use Rattle.dms_tokens.specs.declared.token.Token.{Token}
use Rattle.dms_tokens.specs.declared.token.Token.TheVariants.{Compare}
use Rattle.dms_tokens.specs.declared.token.Lexeme.{Lexeme}
use Rattle.dasdl_phrases.specs.Reads.{Read, ◌>>=◌}
use Rattle.dasdl_phrases.specs.TreeCodes.{WrittenTree}
use Rattle.dasdl_phrases.specs.TreeCodes.WrittenTree.{Test}
use Rattle.dasdl_phrases.specs.Trees.{Condition}
use Rattle.dasdl_phrases.specs.Branches.{under_nots, with_and, with_or, is_nil}
use Rattle.dasdl_phrases.specs.declared.levels.Level.{Level}
use Rattle.dasdl_phrases.specs.declared.cond.CondRead.{CondRead}
use Rattle.dms_tokens.specs.Cursors.{place_at, starts, is_word, is_the_sign}
use Rattle.dasdl_phrases.specs.Cursors.{fault_of, fault_at, is_free, word_at, sign_at, name_at, turns_at}
use Rattle.dasdl_phrases.specs.Kinds.{literal_at}

-- nothing is read within these brackets
abbrev pub no_level : Level
no_level = record { either = None; both = None; nots = 0 }

-- a factor is read: the NOTs before it turn it, and it joins what stands before AND
unfoldable pub close_factor : List Level → Level → ℕ → WrittenTree → CondRead
close_factor outer level nodes t = record {
  outer = outer;
  level = record { either = level.either; both = None; nots = 0 };
  done = Some (with_and level.both (under_nots level.nots t));
  nodes = nodes;
}

abbrev pub op_of : Token → ℕ → List Lexeme → Read Op
op_of (Compare op) place ls = Ok (op, ls)
op_of token place ls = Err (fault_of token place)

unfoldable pub op_at : List Lexeme → Read Op
op_at [] = Err (Expected 0)
op_at (l ∷ ls) = op_of l.token l.place ls

-- name op literal
unfoldable pub compare_at : List Lexeme → Read WrittenTree
compare_at ts = do
  name ← name_at ts
  op ← op_at name.1
  l ← literal_at op.1
  Ok (Test name.0 op.0 l.0, l.1)

-- a comparison is one of 100 nodes
unfoldable pub compare_turn_at : CondRead → List Lexeme → Read CondRead
compare_turn_at s ts =
    if not (starts is_free ts) then Err (fault_at ts)
    else (if nat_le 100 s.nodes then Err (TooMany 100)
    else (do
      t ← compare_at ts
      Ok (close_factor s.outer s.level (s.nodes + 1) t.0, t.1)))

-- NOT is one of 100 nodes, and so there are no more before one factor
unfoldable pub not_turn_at : CondRead → List Lexeme → Read CondRead
not_turn_at s ts =
    if nat_le 100 s.nodes || nat_le 100 s.level.nots then Err (TooMany 100)
    else (do
      t1 ← word_at (codes "NOT") ts
      Ok (
        record {
          outer = s.outer;
          level = record { either = s.level.either; both = s.level.both; nots = s.level.nots + 1 };
          done = None;
          nodes = s.nodes + 1;
        },
        t1,
      ))

unfoldable pub open_turn_at : CondRead → List Lexeme → Read CondRead
open_turn_at s ts = do
  t1 ← sign_at 40 ts
  Ok (record { outer = s.level ∷ s.outer; level = no_level; done = None; nodes = s.nodes }, t1)

-- where a factor is wanted
unfoldable pub factor_turn_at : CondRead → List Lexeme → Read CondRead
factor_turn_at s ts =
    if starts (is_word (codes "NOT")) ts then not_turn_at s ts
    else (if starts (is_the_sign 40) ts then open_turn_at s ts
    else compare_turn_at s ts)

unfoldable pub and_turn_at : List Level → Level → ℕ → WrittenTree → List Lexeme → Read CondRead
and_turn_at outer level nodes t ts =
    if nat_le 100 nodes then Err (TooMany 100)
    else (do
      t1 ← word_at (codes "AND") ts
      Ok (record { outer = outer; level = record { either = level.either; both = Some t; nots = 0 }; done = None; nodes = nodes + 1 }, t1))

unfoldable pub or_turn_at : List Level → Level → ℕ → WrittenTree → List Lexeme → Read CondRead
or_turn_at outer level nodes t ts =
    if nat_le 100 nodes then Err (TooMany 100)
    else (do
      t1 ← word_at (codes "OR") ts
      Ok (record { outer = outer; level = record { either = Some (with_or level.either t); both = None; nots = 0 }; done = None; nodes = nodes + 1 }, t1))

-- a closing bracket ends a factor of what is outside
unfoldable pub close_turn_at : List Level → Level → ℕ → WrittenTree → List Lexeme → Read CondRead
close_turn_at [] inner nodes t ts = Err (fault_at ts)
close_turn_at (level ∷ outer) inner nodes t ts = do
  t1 ← sign_at 41 ts
  Ok (close_factor outer level nodes (with_or inner.either t), t1)

-- where a factor has been read
unfoldable pub join_turn_at : List Level → Level → ℕ → WrittenTree → List Lexeme → Read CondRead
join_turn_at outer level nodes t ts =
    if starts (is_word (codes "AND")) ts then and_turn_at outer level nodes t ts
    else (if starts (is_word (codes "OR")) ts then or_turn_at outer level nodes t ts
    else close_turn_at outer level nodes t ts)

abbrev pub cond_turn_by : Option WrittenTree → CondRead → List Lexeme → Read CondRead
cond_turn_by None s ts = factor_turn_at s ts
cond_turn_by (Some t) s ts = join_turn_at s.outer s.level s.nodes t ts

unfoldable pub cond_turn_at : CondRead → List Lexeme → Read CondRead
cond_turn_at s ts = cond_turn_by s.done s ts

-- a condition ends behind a factor outside all brackets, where no AND or OR follows
abbrev pub cond_done : CondRead → List Lexeme → Bool
cond_done s ts = is_some s.done && is_nil s.outer && not (starts (is_word (codes "AND")) ts || starts (is_word (codes "OR")) ts)

abbrev pub no_cond : CondRead
no_cond = record { outer = []; level = no_level; done = None; nodes = 0 }

abbrev pub end_condition : Option WrittenTree → Option WrittenTree → List Lexeme → Read WrittenTree
end_condition None either ts = Err (fault_at ts)
end_condition (Some t) either ts = Ok (with_or either t, ts)

unfoldable pub cond_at : List Lexeme → Read WrittenTree
cond_at ts = do
  s ← turns_at cond_done cond_turn_at no_cond ts
  end_condition s.0.done s.0.level.either s.1

-- VERIFY or WHERE, and a condition
unfoldable pub cond_decl_at : List ℕ → List Lexeme → Read Condition
cond_decl_at word ts = do
  t1 ← word_at word ts
  t ← cond_at t1
  Ok (record { place = place_at ts; tree = t.0 }, t.1)
