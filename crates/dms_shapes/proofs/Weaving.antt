-- The order of leaves and separators, leaf by leaf.
use Rattle.std.proofs.Common.{◌≡◌, ℕ, ◌+◌, ◌<◌, List, [], ◌∷◌, ◌++◌, Bool, true, false, Some, None, refl, sym, ap, ◌∙◌, length, drop, slice_get, arith}
use Rattle.std.specs.Prelude.{◌&&◌, not}
use Rattle.std.specs.declared.option.Option.{Option}
use Rattle.std.specs.Ordering.{is_gt, is_lt, ordering_then}
use Rattle.std.specs.declared.cmp.Ordering.{Ordering}
use Rattle.std.specs.declared.cmp.Ordering.TheVariants.{Less, Equal, Greater}
use Rattle.dms_chain.specs.Leads.{last_of}
use Rattle.dms_chain.specs.Linked.{BlockChain, front, said_by}
use Rattle.dms_chain.specs.ListBlocks.{is_rising, leaf_in}
use Rattle.dms_chain.specs.ListIn.{Leaf}
use Rattle.dms_chain.specs.Lists.{bytes_cmp, or_else}
use Rattle.dms_chain.specs.SpellLaws.{AllWide, leaf_is}
use Rattle.dms_shapes.specs.Leafage.{ends_below, is_ahead, is_behind}
use Rattle.dms_shapes.specs.Walks.{goes_on}
use Rattle.dms_shapes.specs.WalkLaws.{rising_append}
use Rattle.dms_tree.specs.Levels.{lace, leaf_pieces, marked}
use Rattle.dms_tree.specs.Order.{append_cmp}

-- ---- marks in comparisons

then_same : (o : Ordering) → ordering_then o (bytes_cmp (1 ∷ []) (1 ∷ [])) ≡ o
then_same Less = refl
then_same Equal = refl
then_same Greater = refl

then_less : (o : Ordering) → is_lt (ordering_then o (bytes_cmp (0 ∷ []) (1 ∷ []))) ≡ not (is_gt o)
then_less Less = refl
then_less Equal = refl
then_less Greater = refl

then_more : (o : Ordering) → is_lt (ordering_then o (bytes_cmp (1 ∷ []) (0 ∷ []))) ≡ is_lt o
then_more Less = refl
then_more Equal = refl
then_more Greater = refl

two_entries : (x y : List ℕ) → length x ≡ length y → bytes_cmp (x ++ 1 ∷ []) (y ++ 1 ∷ []) ≡ bytes_cmp x y
two_entries x y wide = append_cmp x y (1 ∷ []) (1 ∷ []) wide ∙ then_same (bytes_cmp x y)

bar_entry : (f e : List ℕ) → length f ≡ length e → is_lt (bytes_cmp (f ++ 0 ∷ []) (e ++ 1 ∷ [])) ≡ not (is_gt (bytes_cmp f e))
bar_entry f e wide = ap is_lt (append_cmp f e (0 ∷ []) (1 ∷ []) wide) ∙ then_less (bytes_cmp f e)

entry_bar : (e f : List ℕ) → length e ≡ length f → is_lt (bytes_cmp (e ++ 1 ∷ []) (f ++ 0 ∷ [])) ≡ is_lt (bytes_cmp e f)
entry_bar e f wide = ap is_lt (append_cmp e f (1 ∷ []) (0 ∷ []) wide) ∙ then_more (bytes_cmp e f)

-- the entries of one leaf, marked
marked_rising : (width : ℕ) (es : List (List ℕ)) → AllWide width es → is_rising (marked 1 es) ≡ is_rising es
marked_rising width [] wide = refl
marked_rising width (x ∷ []) wide = refl
marked_rising width (x ∷ y ∷ es) wide = λ i. is_lt (two_entries x y (wide.0 ∙ sym wide.1.0) i) && marked_rising width (y ∷ es) wide.1 i

-- the last one of some
pub record HasLast (width : ℕ) (es : List (List ℕ)) : Type 0 where
  pub last : List ℕ
  pub is : last_of es ≡ Some last
  pub wide : length last ≡ width
  pub marked_is : last_of (marked 1 es) ≡ Some (last ++ 1 ∷ [])

has_last : (width : ℕ) (e : List ℕ) (es : List (List ℕ)) → AllWide width (e ∷ es) → HasLast width (e ∷ es)
has_last width e [] wide = record { last = e; is = refl; wide = wide.0; marked_is = refl }
has_last width e (y ∷ es) wide =
    let h = has_last width y es wide.1 in
    record { last = h.last; is = ap (λ (o : Option (List ℕ)). or_else o (Some e)) h.is; wide = h.wide; marked_is = ap (λ (o : Option (List ℕ)). or_else o (Some (e ++ 1 ∷ []))) h.marked_is }

-- a separator before, marked
abbrev pub bar : Option (List ℕ) → List (List ℕ)
bar None = []
bar (Some f) = (f ++ 0 ∷ []) ∷ []

abbrev pub IsWide : ℕ → Option (List ℕ) → Type 0
IsWide width None = Unit {0}
IsWide width (Some f) = length f ≡ width

and_true : (b : Bool) → b ≡ (b && true)
and_true true = refl
and_true false = refl

and_left : (a b c : Bool) → a ≡ true → ((a && b) && c) ≡ (b && c)
and_left true b c h = refl
and_left false b c h = absurd (cc (h))

-- one leaf and what is behind it
leaf_rising : (width : ℕ) (es rest : List (List ℕ)) → AllWide width es → is_rising es ≡ true → is_rising (marked 1 es ++ rest) ≡ (goes_on (last_of (marked 1 es)) rest && is_rising rest)
leaf_rising width es rest wide rises =
    rising_append (marked 1 es) rest ∙ and_left (is_rising (marked 1 es)) (goes_on (last_of (marked 1 es)) rest) (is_rising rest) (marked_rising width es wide ∙ rises)

piece_rising : (width : ℕ) (o : Option (List ℕ)) (es rest : List (List ℕ)) → IsWide width o → AllWide width es → 0 < length es → is_rising es ≡ true
    → is_rising (bar o ++ (marked 1 es ++ rest)) ≡ (is_behind o es && (goes_on (last_of (marked 1 es)) rest && is_rising rest))
piece_rising width None es rest fits wide some rises = leaf_rising width es rest wide rises
piece_rising width (Some f) [] rest fits wide some rises = absurd (omega (arith, some))
piece_rising width (Some f) (e ∷ es) rest fits wide some rises = λ i. bar_entry f e (fits ∙ sym wide.0) i && leaf_rising width (e ∷ es) rest wide rises i

-- a separator behind a leaf
bar_ahead : (width : ℕ) (es : List (List ℕ)) (f : List ℕ) (rest : List (List ℕ)) → AllWide width es → 0 < length es → length f ≡ width → goes_on (last_of (marked 1 es)) ((f ++ 0 ∷ []) ∷ rest) ≡ is_ahead es (Some f)
bar_ahead width [] f rest wide some fits = absurd (omega (arith, some))
bar_ahead width (e ∷ es) f rest wide some fits =
    let h = has_last width e es wide in
    ap (λ (o : Option (List ℕ)). goes_on o ((f ++ 0 ∷ []) ∷ rest)) h.marked_is ∙ entry_bar h.last f (h.wide ∙ sym fits) ∙ sym (ap (ends_below f) h.is)

none_behind : (o : Option (List ℕ)) → goes_on o [] ≡ true
none_behind None = refl
none_behind (Some x) = refl

-- ---- all leaves

-- each leaf stands between its separators
abbrev pub parts : Option (List ℕ) → List Leaf → List (List ℕ) → Bool
parts o [] fs = true
parts o (l ∷ ls) fs = (is_behind o l.1 && is_ahead l.1 (slice_get fs 0)) && parts (slice_get fs 0) ls (drop 1 fs)

abbrev pub AreLeaves : ℕ → List Leaf → Type 0
AreLeaves width [] = Unit {0}
AreLeaves width (l ∷ ls) = (AllWide width l.1 × (0 < length l.1) × (is_rising l.1 ≡ true)) × AreLeaves width ls

pub chain_leaves : (width : ℕ) (look : ℕ → Option (List ℕ)) (ls : List Leaf) (n : ℕ) → BlockChain (leaf_in width) look ls n → AreLeaves width ls
chain_leaves width look [] n chain = tt
chain_leaves width look (l ∷ ls) n chain = (here (look l.0) (front ls n) l.1 chain.1, chain_leaves width look ls n chain.2)
  where
    here : (o : Option (List ℕ)) (next : ℕ) (es : List (List ℕ)) → said_by (leaf_in width) o ≡ Some (next, es) → AllWide width es × (0 < length es) × (is_rising es ≡ true)
    here None next es said = absurd (cc said)
    here (Some b) next es said = let l = leaf_is width b next es said in (l.wide, l.holds.some, l.holds.rising)

and_three : (a b c : Bool) → (a && (b && c)) ≡ ((a && b) && c)
and_three true b c = refl
and_three false b c = refl

pub rising_parts : (width : ℕ) (o : Option (List ℕ)) (ls : List Leaf) (fs : List (List ℕ)) → IsWide width o → AreLeaves width ls → AllWide width fs → length fs + 1 ≡ length ls → is_rising (bar o ++ lace (leaf_pieces ls) (marked 0 fs)) ≡ parts o ls fs
rising_parts width o [] fs fits leaves wide even = absurd (omega (arith, even))
rising_parts width o (l ∷ []) [] fits leaves wide even =
    piece_rising width o l.1 [] fits leaves.0.0 leaves.0.1 leaves.0.2
    ∙ (λ i. is_behind o l.1 && (none_behind (last_of (marked 1 l.1)) i && true))
    ∙ and_true (is_behind o l.1 && true)
rising_parts width o (l ∷ []) (f ∷ fs) fits leaves wide even = absurd (omega (arith, even))
rising_parts width o (l ∷ m ∷ ls) [] fits leaves wide even = absurd (omega (arith, even))
rising_parts width o (l ∷ m ∷ ls) (f ∷ fs) fits leaves wide even =
    let rest = (f ++ 0 ∷ []) ∷ lace (leaf_pieces (m ∷ ls)) (marked 0 fs) in
    piece_rising width o l.1 rest fits leaves.0.0 leaves.0.1 leaves.0.2
    ∙ (λ i. is_behind o l.1 && (bar_ahead width l.1 f (lace (leaf_pieces (m ∷ ls)) (marked 0 fs)) leaves.0.0 leaves.0.1 wide.0 i && rising_parts width (Some f) (m ∷ ls) fs wide.0 leaves.1 wide.1 (omega (arith, even)) i))
    ∙ and_three (is_behind o l.1) (is_ahead l.1 (Some f)) (parts (Some f) (m ∷ ls) fs)
