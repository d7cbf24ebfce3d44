-- A condition that was read has at most 100 nodes.
use Rattle.std.proofs.Common.{◌+◌, ◌≡◌, ◌≤◌, ℕ, zero, suc, List, [], ◌∷◌, Bool, false, cond, not, ◌||◌, refl, sym, ap, subst, arith}
use Rattle.std.proofs.lemmas.Bool.{or_parts}
use Rattle.std.proofs.lemmas.Bool.Decides.{nat_tests}
use Rattle.std.specs.Prelude.{codes, nat_le, Some, None}
use Rattle.std.specs.declared.option.Option.{Option}
use Rattle.std.specs.declared.result.Result.TheVariants.{Ok, Err}
use Rattle.dms_tokens.specs.declared.token.Lexeme.{Lexeme}
use Rattle.dasdl_phrases.specs.declared.levels.Level.{Level}
use Rattle.dasdl_phrases.specs.declared.cond.CondRead.{CondRead}
use Rattle.dasdl_phrases.specs.TreeCodes.{WrittenTree}
use Rattle.dasdl_phrases.specs.TreeCodes.WrittenTree.{Test}
use Rattle.dasdl_phrases.specs.Branches.{under_nots, with_and, with_or}
use Rattle.dasdl_phrases.specs.Reads.{◌>>=◌, Read}
use Rattle.dms_tokens.specs.Cursors.{starts, is_word, is_the_sign}
use Rattle.dasdl_phrases.specs.Cursors.{turns, turns_at, fault_at, is_free, word_at, sign_at, name_at}
use Rattle.dasdl_phrases.specs.Kinds.{literal_at}
use Rattle.dasdl_phrases.specs.Conditions.{close_factor, no_level, no_cond, op_at, compare_at, compare_turn_at, not_turn_at, open_turn_at, factor_turn_at, and_turn_at, or_turn_at, close_turn_at, join_turn_at, cond_turn_by, cond_turn_at, cond_done, cond_at, end_condition}
use Rattle.dasdl_phrases.specs.CondSpelling.{nodes}
use Rattle.dasdl_phrases.proofs.Inverting.{bind_ok, skip_ok, ok_same}
use Rattle.dasdl_phrases.proofs.CondSound.{pick}

module _ {S : Type 0} (P : S → Type 0) (done : S → List Lexeme → Bool) (one : S → List Lexeme → Read S) (keeps : (s t : S) (ts rest : List Lexeme) → P s → one s ts ≡ Ok (t, rest) → P t) where
  stays : (s t : S) (ts rest : List Lexeme) → P s → ◌≡◌ {A = S × List Lexeme} (s, ts) (t, rest) → P t
  stays s t ts rest h e = subst (λ (x : S × List Lexeme). P x.0) e h

  turns-keep : (n : ℕ) (s t : S) (ts rest : List Lexeme) → P s → turns done one n s ts ≡ Ok (t, rest) → P t
  unfolding turns
  turns-keep zero s t ts rest h e =
      pick {A = S × List Lexeme} (done s ts) (Ok (s, ts)) (Err (fault_at ts)) (t, rest) (λ f. stays s t ts rest h (ok_same (s, ts) (t, rest) f)) (λ f. absurd (cc)) e
  turns-keep (suc n) s t ts rest h e =
      pick {A = S × List Lexeme} (done s ts) (Ok (s, ts)) (one s ts >>= λ r. turns done one n r.0 r.1) (t, rest) (λ f. stays s t ts rest h (ok_same (s, ts) (t, rest) f))
      (λ f.
      let b = bind_ok (one s ts) (λ (r : S × List Lexeme). turns done one n r.0 r.1) (t, rest) f in
      turns-keep n b.0.0 t b.0.1 rest (keeps s b.0.0 ts b.0.1 h b.1) b.2) e

  -- what each turn keeps holds where turns end
  pub turns_at-keep : (s t : S) (ts rest : List Lexeme) → P s → turns_at done one s ts ≡ Ok (t, rest) → P t
  unfolding turns_at
  turns_at-keep s t ts rest h e = turns-keep _ s t ts rest h e

-- the nodes of what stands before OR or AND, and that word
abbrev joined_nodes : Option WrittenTree → ℕ
joined_nodes None = 0
joined_nodes (Some t) = nodes t + 1

abbrev level_nodes : Level → ℕ
level_nodes level = joined_nodes level.either + joined_nodes level.both + level.nots

abbrev outer_nodes : List Level → ℕ
outer_nodes [] = 0
outer_nodes (l ∷ ls) = level_nodes l + outer_nodes ls

abbrev inner_nodes : Option WrittenTree → Level → ℕ
inner_nodes None level = level_nodes level
inner_nodes (Some t) level = joined_nodes level.either + nodes t

-- as many nodes as are counted, and at most 100
record CountsNodes (outer : List Level) (level : Level) (done : Option WrittenTree) (n : ℕ) : Type 0 where
  all : n ≡ outer_nodes outer + inner_nodes done level
  few : n ≤ 100

abbrev Counted : CondRead → Type 0
Counted s = CountsNodes s.outer s.level s.done s.nodes

nodes_negated : (n : ℕ) (t : WrittenTree) → nodes (under_nots n t) ≡ n + nodes t
nodes_negated zero t = omega arith
nodes_negated (suc n) t = omega (arith, nodes_negated n t)

nodes_and : (o : Option WrittenTree) (t : WrittenTree) → nodes (with_and o t) ≡ joined_nodes o + nodes t
nodes_and None t = omega arith
nodes_and (Some a) t = omega arith

nodes_or : (o : Option WrittenTree) (t : WrittenTree) → nodes (with_or o t) ≡ joined_nodes o + nodes t
nodes_or None t = omega arith
nodes_or (Some a) t = omega arith

completed_counts : (outer : List Level) (level : Level) (n : ℕ) (t : WrittenTree) → n ≡ outer_nodes outer + level_nodes level + nodes t → n ≤ 100 → Counted (close_factor outer level n t)
unfolding close_factor
completed_counts outer level n t e few = record {
  all = omega (arith, e, nodes_and level.both (under_nots level.nots t), nodes_negated level.nots t);
  few = few;
}

abbrev KeepsNodes : Read CondRead → Type 0
KeepsNodes read = (t : CondRead) (rest : List Lexeme) → read ≡ Ok (t, rest) → Counted t

test_nodes : (ts : List Lexeme) (t : WrittenTree) (rest : List Lexeme) → compare_at ts ≡ Ok (t, rest) → nodes t ≡ 1
unfolding compare_at
test_nodes ts t rest h =
    let a = bind_ok (name_at ts) _ _ h in
    let b = bind_ok (op_at a.0.1) _ _ a.2 in
    let c = bind_ok (literal_at b.0.1) _ _ b.2 in
    sym (ap (λ (x : WrittenTree × List Lexeme). nodes x.0) (ok_same (Test a.0.0 b.0.0 c.0.0, c.0.1) (t, rest) c.2))

below : (n : ℕ) → nat_le 100 n ≡ false → n + 1 ≤ 100
below n h = grind (arith, nat_tests)

compare_counts : (s : CondRead) (ts : List Lexeme) → CountsNodes s.outer s.level None s.nodes → KeepsNodes (compare_turn_at s ts)
unfolding compare_turn_at
compare_counts s ts k t rest h =
    let a = skip_ok (not (starts is_free ts)) _ _ _ h in
    let b = skip_ok (nat_le 100 s.nodes) _ _ _ a.1 in
    let c = bind_ok (compare_at ts) _ _ b.1 in
    subst (λ (x : CondRead × List Lexeme). Counted x.0) (ok_same (close_factor s.outer s.level (s.nodes + 1) c.0.0, c.0.1) (t, rest) c.2)
    (completed_counts s.outer s.level (s.nodes + 1) c.0.0 (omega (arith, k.all, test_nodes ts c.0.0 c.0.1 c.1)) (below s.nodes b.0))

not_counts : (s : CondRead) (ts : List Lexeme) → CountsNodes s.outer s.level None s.nodes → KeepsNodes (not_turn_at s ts)
unfolding not_turn_at
not_counts s ts k t rest h =
    let a = skip_ok (nat_le 100 s.nodes || nat_le 100 s.level.nots) _ _ _ h in
    let b = bind_ok (word_at (codes "NOT") ts) _ _ a.1 in
    subst (λ (x : CondRead × List Lexeme). Counted x.0) (ok_same (record { outer = s.outer; level = record { either = s.level.either; both = s.level.both; nots = s.level.nots + 1 }; done = None; nodes = s.nodes + 1 }, b.0) (t, rest) b.2)
    (record { all = omega (arith, k.all); few = below s.nodes (or_parts (nat_le 100 s.nodes) (nat_le 100 s.level.nots) a.0).0 })

open_counts : (s : CondRead) (ts : List Lexeme) → CountsNodes s.outer s.level None s.nodes → KeepsNodes (open_turn_at s ts)
unfolding open_turn_at
open_counts s ts k t rest h =
    let b = bind_ok (sign_at 40 ts) _ _ h in
    subst (λ (x : CondRead × List Lexeme). Counted x.0) (ok_same (record { outer = s.level ∷ s.outer; level = no_level; done = None; nodes = s.nodes }, b.0) (t, rest) b.2)
    (record { all = omega (arith, k.all); few = k.few })

factor_counts : (s : CondRead) (ts : List Lexeme) → CountsNodes s.outer s.level None s.nodes → KeepsNodes (factor_turn_at s ts)
unfolding factor_turn_at
factor_counts s ts k t rest h =
    pick (starts (is_word (codes "NOT")) ts) (not_turn_at s ts) (cond (starts (is_the_sign 40) ts) (open_turn_at s ts) (compare_turn_at s ts)) (t, rest)
    (not_counts s ts k t rest)
    (pick (starts (is_the_sign 40) ts) (open_turn_at s ts) (compare_turn_at s ts) (t, rest) (open_counts s ts k t rest) (compare_counts s ts k t rest)) h

and_counts : (outer : List Level) (level : Level) (n : ℕ) (left : WrittenTree) (ts : List Lexeme) → CountsNodes outer level (Some left) n → KeepsNodes (and_turn_at outer level n left ts)
unfolding and_turn_at
and_counts outer level n left ts k t rest h =
    let a = skip_ok (nat_le 100 n) _ _ _ h in
    let b = bind_ok (word_at (codes "AND") ts) _ _ a.1 in
    subst (λ (x : CondRead × List Lexeme). Counted x.0) (ok_same (record { outer = outer; level = record { either = level.either; both = Some left; nots = 0 }; done = None; nodes = n + 1 }, b.0) (t, rest) b.2)
    (record { all = omega (arith, k.all); few = below n a.0 })

or_counts : (outer : List Level) (level : Level) (n : ℕ) (left : WrittenTree) (ts : List Lexeme) → CountsNodes outer level (Some left) n → KeepsNodes (or_turn_at outer level n left ts)
unfolding or_turn_at
or_counts outer level n left ts k t rest h =
    let a = skip_ok (nat_le 100 n) _ _ _ h in
    let b = bind_ok (word_at (codes "OR") ts) _ _ a.1 in
    subst (λ (x : CondRead × List Lexeme). Counted x.0) (ok_same (record { outer = outer; level = record { either = Some (with_or level.either left); both = None; nots = 0 }; done = None; nodes = n + 1 }, b.0) (t, rest) b.2)
    (record { all = omega (arith, k.all, nodes_or level.either left); few = below n a.0 })

close_counts : (outer : List Level) (level : Level) (n : ℕ) (left : WrittenTree) (ts : List Lexeme) → CountsNodes outer level (Some left) n → KeepsNodes (close_turn_at outer level n left ts)
unfolding close_turn_at
close_counts [] level n left ts k t rest h = absurd (cc)
close_counts (up ∷ outer) level n left ts k t rest h =
    let b = bind_ok (sign_at 41 ts) _ _ h in
    subst (λ (x : CondRead × List Lexeme). Counted x.0) (ok_same (close_factor outer up n (with_or level.either left), b.0) (t, rest) b.2)
    (completed_counts outer up n (with_or level.either left) (omega (arith, k.all, nodes_or level.either left)) k.few)

join_counts : (outer : List Level) (level : Level) (n : ℕ) (left : WrittenTree) (ts : List Lexeme) → CountsNodes outer level (Some left) n → KeepsNodes (join_turn_at outer level n left ts)
unfolding join_turn_at
join_counts outer level n left ts k t rest h =
    pick (starts (is_word (codes "AND")) ts) (and_turn_at outer level n left ts) (cond (starts (is_word (codes "OR")) ts) (or_turn_at outer level n left ts) (close_turn_at outer level n left ts)) (t, rest)
    (and_counts outer level n left ts k t rest)
    (pick (starts (is_word (codes "OR")) ts) (or_turn_at outer level n left ts) (close_turn_at outer level n left ts) (t, rest) (or_counts outer level n left ts k t rest) (close_counts outer level n left ts k t rest)) h

turn_counts_by : (done : Option WrittenTree) (s : CondRead) (ts : List Lexeme) → CountsNodes s.outer s.level done s.nodes → KeepsNodes (cond_turn_by done s ts)
turn_counts_by None s ts k = factor_counts s ts k
turn_counts_by (Some left) s ts k = join_counts s.outer s.level s.nodes left ts k

turn_counts : (s t : CondRead) (ts rest : List Lexeme) → Counted s → cond_turn_at s ts ≡ Ok (t, rest) → Counted t
unfolding cond_turn_at
turn_counts s t ts rest k h = turn_counts_by s.done s ts k t rest h

finished_few : (done : Option WrittenTree) (outer : List Level) (level : Level) (n : ℕ) (t : WrittenTree) (ts rest : List Lexeme) → CountsNodes outer level done n → end_condition done level.either ts ≡ Ok (t, rest) → nodes t ≤ 100
finished_few None outer level n t ts rest k h = absurd (cc)
finished_few (Some left) outer level n t ts rest k h =
    subst (λ (x : WrittenTree × List Lexeme). nodes x.0 ≤ 100) (ok_same (with_or level.either left, ts) (t, rest) h) (omega (arith, k.all, k.few, nodes_or level.either left))

pub cond_few : (ts : List Lexeme) (t : WrittenTree) (rest : List Lexeme) → cond_at ts ≡ Ok (t, rest) → nodes t ≤ 100
unfolding cond_at
cond_few ts t rest h =
    let b = bind_ok (turns_at cond_done cond_turn_at no_cond ts) _ _ h in
    let start : Counted no_cond = record { all = refl; few = omega arith } in
    let k = turns_at-keep Counted cond_done cond_turn_at turn_counts no_cond b.0.0 ts b.0.1 start b.1 in
    finished_few b.0.0.done b.0.0.outer b.0.0.level b.0.0.nodes t b.0.1 rest k b.2
