-- What a walk over the blocks of a list gathers.
use Rattle.std.proofs.Common.{◌≡◌, ◌∙◌, ◌+◌, ◌≤◌, ◌<◌, ℕ, List, [], ◌∷◌, ◌++◌, Bool, false, Some, None, refl, sym, ap, subst, append-nil, append_assoc, length-append, length, filter, slice_get, arith}
use Rattle.std.proofs.Math.Dec.{eqb}
use Rattle.std.specs.Prelude.{IsErrAnd}
use Rattle.std.specs.List as list
use Rattle.std.specs.declared.option.Option.{Option}
use Rattle.std.specs.declared.result.Result.{Result}
use Rattle.std.specs.declared.result.Result.TheVariants.{Ok, Err}
use Rattle.std.proofs.lemmas.List.Elements.{filter-append}
use Rattle.std.proofs.lemmas.Option.{same_Some}
use Rattle.dms_block.specs.declared.block_fault.BlockFault.{BlockFault}
use Rattle.dms_block.specs.declared.block_fault.BlockFault.TheVariants.{Memory}
use Rattle.dms_block.specs.declared.blocks.Blocks.{Ghosts}
use Rattle.dms_block.specs.declared.overlay.Overlay.{Overlay}
use Rattle.dms_block.specs.Faults.{NotFull}
use Rattle.dms_block.specs.HeldLaws.{looks_err}
use Rattle.dms_block.specs.View.{ReadsOverlay}
use Rattle.dms_ordlist.specs.declared.walking.Gathered.{Gathered}
use Rattle.dms_chain.specs.Linked.{BlockChain, front, said_by}
use Rattle.dms_chain.specs.ListBlocks.{head_in, leaf_in}
use Rattle.dms_chain.specs.ListIn.{Leaf, entries_of, list_in}
use Rattle.dms_chain.specs.ListInLaws.{list_is, none_is}
use Rattle.dms_ordlist.specs.Looks.{head_first, no_leaves}

-- an entry ends with these bytes
abbrev pub ends_with : List ℕ → List ℕ → Bool
ends_with tail entry = list.ends_with eqb entry tail

-- where a tail is asked for
abbrev pub has_tail : Option (List ℕ) → (List ℕ → Bool)
has_tail None = λ entry. false
has_tail (Some tail) = ends_with tail

-- how many entries there are, and those that end with a tail
pub record IsGathered (tail : Option (List ℕ)) (xs : List (List ℕ)) (r : Gathered) : Type 0 where
  pub count : r.count ≡ length xs
  pub ending : r.ending.items ≡ filter (has_tail tail) xs

-- A walk has come to this number after so many blocks, and has gathered this: the blocks behind are a chain, and what they hold is missing.
pub record Passed (tail : Option (List ℕ)) (width : ℕ) (look : ℕ → Option (List ℕ)) (ls : List Leaf) (turn at count : ℕ) (found : List (List ℕ)) : Type 0 where
  pub behind : List Leaf
  pub chain : BlockChain (leaf_in width) look behind 0
  pub head : front behind 0 ≡ at
  pub long : length ls ≡ turn + length behind
  pub counted : length (entries_of ls) ≡ count + length (entries_of behind)
  pub ending : filter (has_tail tail) (entries_of ls) ≡ found ++ filter (has_tail tail) (entries_of behind)

module _ (tail : Option (List ℕ)) (width : ℕ) (look : ℕ → Option (List ℕ)) (ls : List Leaf) where
  -- before the first block
  pub passed_none : (at : ℕ) → BlockChain (leaf_in width) look ls 0 → front ls 0 ≡ at → Passed tail width look ls 0 at 0 []
  passed_none at chain head = record { behind = ls; chain = chain; head = head; long = omega arith; counted = omega arith; ending = refl }

  module _ (turn at count : ℕ) (found : List (List ℕ)) (p : Passed tail width look ls turn at count found) (some : 0 < at) where
    -- there is a block at the number that was reached
    pub passed_long : turn + 1 ≤ length ls
    passed_long = by p.behind p.head p.long
      where
        by : (behind : List Leaf) → front behind 0 ≡ at → length ls ≡ turn + length behind → turn + 1 ≤ length ls
        by [] head long = absurd (omega (arith, some, head))
        by (l ∷ others) head long = omega (arith, long)

    pub passed_there : said_by (leaf_in width) (look at) ≡ None → ⊥
    passed_there said = by p.behind p.chain p.head
      where
        by : (behind : List Leaf) → BlockChain (leaf_in width) look behind 0 → front behind 0 ≡ at → ⊥
        by [] chain head = absurd (omega (arith, some, head))
        by (l ∷ others) chain head =
            let none : Option Leaf = None in
            let one : Option Leaf = Some (front others 0, l.1) in
            let same : none ≡ one = sym said ∙ ap (λ n. said_by (leaf_in width) (look n)) (sym head) ∙ chain.1 in
            cc same

    -- one block more
    pub passed_on : (next : ℕ) (es : List (List ℕ)) → said_by (leaf_in width) (look at) ≡ Some (next, es) → (n : ℕ) (out : List (List ℕ)) → n ≡ count + length es → out ≡ found ++ filter (has_tail tail) es → Passed tail width look ls (turn + 1) next n out
    passed_on next es said n out n_is out_is = by p.behind p.chain p.head p.long p.counted p.ending
      where
        by : (behind : List Leaf) → BlockChain (leaf_in width) look behind 0 → front behind 0 ≡ at → length ls ≡ turn + length behind → length (entries_of ls) ≡ count + length (entries_of behind)
            → filter (has_tail tail) (entries_of ls) ≡ found ++ filter (has_tail tail) (entries_of behind) → Passed tail width look ls (turn + 1) next n out
        by [] chain head long counted ending = absurd (omega (arith, some, head))
        by (l ∷ others) chain head long counted ending =
            let here : Option Leaf = Some (front others 0, l.1) in
            let told : Option Leaf = Some (next, es) in
            let same : here ≡ told = sym chain.1 ∙ ap (λ k. said_by (leaf_in width) (look k)) head ∙ said in
            let pair : ◌≡◌ {A = Leaf} (front others 0, l.1) (next, es) = same_Some {A = Leaf} (front others 0, l.1) (next, es) same in
            let held : l.1 ≡ es = ap (λ (x : Leaf). x.1) pair in
            record {
              behind = others;
              chain = chain.2;
              head = ap (λ (x : Leaf). x.0) pair;
              long = omega (arith, long);
              counted = omega (arith, counted, length-append l.1 (entries_of others), ap (λ (x : List (List ℕ)). length x) held, n_is);
              ending = ending ∙ ap (λ (x : List (List ℕ)). found ++ x) (filter-append (has_tail tail) l.1 (entries_of others)) ∙ sym (append_assoc found (filter (has_tail tail) l.1) (filter (has_tail tail) (entries_of others)))
                  ∙ ap (λ (x : List (List ℕ)). (found ++ filter (has_tail tail) x) ++ filter (has_tail tail) (entries_of others)) held
                  ∙ ap (λ (x : List (List ℕ)). x ++ filter (has_tail tail) (entries_of others)) (sym out_is);
            }

  -- behind the last block
  pub passed_all : (turn at : ℕ) (r : Gathered) → Passed tail width look ls turn at r.count r.ending.items → at ≡ 0 → IsGathered tail (entries_of ls) r
  passed_all turn at r p none =
      let rest = no_leaves width look p.behind p.chain (p.head ∙ none) in
      record {
        count = omega (arith, p.counted, ap (λ l. length (entries_of l)) rest);
        ending = sym (p.ending ∙ ap (λ l. r.ending.items ++ filter (has_tail tail) (entries_of l)) rest ∙ append-nil r.ending.items);
      }

-- ---- faults that are handed on

module _ {B : Type 0} {g : Ghosts B} where
  pub reads_err : {T U : Type 0} {n : ℕ} (e : BlockFault) {old new : Overlay B g} → ReadsOverlay {T = T} n (Err e) old new → ReadsOverlay {T = U} n (Err e) old new
  reads_err e reads = record { written_still = reads.written_still; looks = looks_err e reads.looks; same = reads.same }

-- memory was refused, so no audit is full
pub memory_not_full : {T : Type 0} (r : Result T BlockFault) → IsErrAnd r (λ e. e ≡ Memory) → NotFull r
memory_not_full (Ok x) h = tt
memory_not_full {T = T} (Err e) h = subst (λ x. NotFull {T = T} (Err x)) (sym h) tt

-- ---- a whole file

module _ (tail : Option (List ℕ)) (width : ℕ) (bs xs : List (List ℕ)) (r : Gathered) where
  -- nothing of an empty list
  nothing_is : r.count ≡ 0 → r.ending.items ≡ [] → xs ≡ [] → IsGathered tail xs r
  nothing_is count ending none = record { count = count ∙ ap (λ (l : List (List ℕ)). length l) (sym none); ending = ending ∙ ap (filter (has_tail tail)) (sym none) }

  pub gathered_none : length bs ≡ 0 → list_in width bs ≡ Some xs → r.count ≡ 0 → r.ending.items ≡ [] → IsGathered tail xs r
  gathered_none none is count ending = nothing_is count ending (none_is width bs xs none is)

  pub gathered_empty : (first free : ℕ) → (length bs ≡ 0 → ⊥) → list_in width bs ≡ Some xs → said_by head_in (slice_get bs 0) ≡ Some (first, free) → first ≡ 0 → r.count ≡ 0 → r.ending.items ≡ [] → IsGathered tail xs r
  gathered_empty first free some is said none count ending =
      let s = list_is width bs xs some is in
      let one = head_first (slice_get bs) first free (front s.leaves 0) (front s.spares 0) said s.list.head in
      nothing_is count ending (sym s.entries ∙ ap entries_of (no_leaves width (slice_get bs) s.leaves s.list.chain (sym one ∙ none)))

  pub gathered_chain : (first free : ℕ) → (length bs ≡ 0 → ⊥) → list_in width bs ≡ Some xs → said_by head_in (slice_get bs 0) ≡ Some (first, free)
      → ((ls : List Leaf) → BlockChain (leaf_in width) (slice_get bs) ls 0 → front ls 0 ≡ first → IsGathered tail (entries_of ls) r) → IsGathered tail xs r
  gathered_chain first free some is said all =
      let s = list_is width bs xs some is in
      let one = head_first (slice_get bs) first free (front s.leaves 0) (front s.spares 0) said s.list.head in
      subst (λ l. IsGathered tail l r) s.entries (all s.leaves s.list.chain (sym one))
