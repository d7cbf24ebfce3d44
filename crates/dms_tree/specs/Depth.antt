-- How many levels a tree of so many entries has at most.
use Rattle.std.proofs.Common.{◌≡◌, ℕ, zero, suc, ◌+◌, ◌*◌, ◌^◌, ◌≤◌, ◌<◌, List, [], ◌∷◌, ◌++◌, Some, None, refl, sym, ap, subst, ◌∙◌, length, length-append, arith}
use Rattle.std.specs.declared.option.Option.{Option}
use Rattle.dms_chain.specs.Linked.{BlockChain, front, numbers, said_by}
use Rattle.dms_chain.specs.LinkedLaws.{numbers_length}
use Rattle.dms_chain.specs.ListBlocks.{leaf_in}
use Rattle.dms_chain.specs.ListIn.{Leaf, entries_of}
use Rattle.dms_chain.specs.SpellLaws.{leaf_is}
use Rattle.dms_tree.specs.Levels.{Hangs, Inner, kids_of}
use Rattle.dms_tree.specs.TreeBlocks.{inner_in}
use Rattle.dms_tree.specs.TreeIn.{SayLevel, SayLevels, says}
use Rattle.dms_tree.specs.TreeSpells.{inner_says}

-- a level has at least twice as many blocks as the one above
pub kids_twice : (width : ℕ) (look : ℕ → Option (List ℕ)) (us : List Inner) → SayLevel width look us → 2 * length us ≤ length (kids_of us)
kids_twice width look [] said = omega arith
kids_twice width look (u ∷ us) said = omega (arith, length-append u.1.0 (kids_of us), kids_twice width look us said.1, two (look u.0) u.1 said.0)
  where
    two : (o : Option (List ℕ)) (x : List ℕ × List (List ℕ)) → says (inner_in width) o ≡ Some x → 2 ≤ length x.0
    two None x is = absurd (cc is)
    two (Some b) x is = let s = inner_says width b x is in omega (arith, s.inner.more, s.inner.some)

more_times : (a b w : ℕ) → a ≤ b → a * w ≤ b * w
more_times a b w h = grind arith

times_two : (a m : ℕ) → 2 * a * m ≡ a * (2 * m)
times_two a m = grind arith

double : (a b m : ℕ) → 2 * a ≤ b → a * (2 * m) ≤ b * m
double a b m le = omega (arith, more_times (2 * a) b m le, times_two a m)

power_more : (n : ℕ) → 2 ^ suc n ≡ 2 * 2 ^ n
power_more n = grind arith

pub levels_deep : (width : ℕ) (look : ℕ → Option (List ℕ)) (ns : List ℕ) (us : List (List Inner)) (leaves : List ℕ) → Hangs ns us leaves → SayLevels width look us → length ns * 2 ^ length us ≤ length leaves
levels_deep width look ns [] leaves hangs said = omega (arith, ap (λ (l : List ℕ). length l) hangs)
levels_deep width look ns (u ∷ us) leaves hangs said =
    let below = levels_deep width look (kids_of u) us leaves hangs.1 said.1 in
    let step : length u * (2 * 2 ^ length us) ≤ length (kids_of u) * 2 ^ length us = double (length u) (length (kids_of u)) (2 ^ length us) (kids_twice width look u said.0) in
    let same : length ns * 2 ^ suc (length us) ≡ length u * (2 * 2 ^ length us) = (λ i. (sym (ap (λ (l : List ℕ). length l) hangs.0) ∙ numbers_length u) i * power_more (length us) i) in
    omega (arith, below, step, same)

pub leaves_some : (width : ℕ) (look : ℕ → Option (List ℕ)) (ls : List Leaf) (n : ℕ) → BlockChain (leaf_in width) look ls n → length ls ≤ length (entries_of ls)
leaves_some width look [] n chain = omega arith
leaves_some width look (l ∷ ls) n chain = omega (arith, length-append l.1 (entries_of ls), leaves_some width look ls n chain.2, some (look l.0) (front ls n) l.1 chain.1)
  where
    some : (o : Option (List ℕ)) (next : ℕ) (es : List (List ℕ)) → said_by (leaf_in width) o ≡ Some (next, es) → 0 < length es
    some None next es said = absurd (cc said)
    some (Some b) next es said = (leaf_is width b next es said).holds.some

power_some : (a : ℕ) → 1 ≤ 2 ^ a
power_some zero = omega arith
power_some (suc a) = omega (arith, power_some a, power_more a)

power_less : (a b : ℕ) → 2 ^ a < 2 ^ b → a < b
power_less a zero less = absurd (omega (arith, less, power_some a))
power_less zero (suc b) less = omega arith
power_less (suc a) (suc b) less = omega (arith, power_less a b (omega (arith, less, power_more a, power_more b)))

-- where so many binary digits are enough for the count of entries, there are fewer levels above the leaves
pub few_levels : (width : ℕ) (look : ℕ → Option (List ℕ)) (root : ℕ) (us : List (List Inner)) (ls : List Leaf) (digits : ℕ) → Hangs (root ∷ []) us (numbers ls) → SayLevels width look us → BlockChain (leaf_in width) look ls 0 → length (entries_of ls) < 2 ^ digits → length us < digits
few_levels width look root us ls digits hangs said chain few =
    power_less (length us) digits (omega (arith, few, levels_deep width look (root ∷ []) us (numbers ls) hangs said, leaves_some width look ls 0 chain, numbers_length ls))
