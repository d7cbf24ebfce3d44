-- Where bytes belong in a chain of blocks.
use Rattle.std.proofs.Common.{ℕ, ◌+◌, ◌<◌, ◌≡◌, ◌⊎◌, inl, inr, ◌∙◌, List, [], ◌∷◌, ◌++◌, Some, None, length, refl, sym, ap, subst, append-nil, append_assoc, length-append, arith}
use Rattle.std.specs.Prelude.{IfSome}
use Rattle.std.specs.declared.option.Option.{Option}
use Rattle.dms_ordlist.specs.declared.place.NumberedLeaf.{NumberedLeaf}
use Rattle.dms_ordlist.specs.declared.place.ListPlace.{ListPlace}
use Rattle.dms_chain.specs.declared.spelling.LeafBlock.{LeafBlock}
use Rattle.dms_chain.specs.Leads.{lead}
use Rattle.dms_chain.specs.Linked.{BlockChain, front, said_by}
use Rattle.dms_chain.specs.LinkedLaws.{chain_second}
use Rattle.dms_chain.specs.ListBlocks.{leaf_in}
use Rattle.dms_chain.specs.ListIn.{Leaf, entries_of}
use Rattle.dms_chain.specs.Located.{lead_past}
use Rattle.dms_chain.specs.SpellLaws.{IsLeaf}

abbrev pub link_of : NumberedLeaf → Leaf
link_of s = (s.number, s.leaf.entries.items)

-- the number of a block, 0 where it is none
abbrev pub number_of : Option NumberedLeaf → ℕ
number_of None = 0
number_of (Some s) = s.number

-- a block is the last of these
abbrev pub Before : Option NumberedLeaf → List Leaf → Type 0
Before None ahead = ahead ≡ []
Before (Some s) ahead = (others : List Leaf) × (ahead ≡ others ++ link_of s ∷ [])

-- the block is one of the file's, and holds what may be
pub record SpotHolds (width count : ℕ) (s : NumberedLeaf) : Type 0 where
  pub leaf : IsLeaf width s.leaf.next s.leaf.entries.items
  pub there : s.number < count

pub record PlaceHolds (width count : ℕ) (p : ListPlace) : Type 0 where
  pub here : SpotHolds width count p.here
  pub before : IfSome p.before (SpotHolds width count)

-- All entries before the block are less, and one of its own isn't, or it is the last block.
pub record IsPlace (c : List ℕ) (ls : List Leaf) (p : ListPlace) : Type 0 where
  pub ahead : List Leaf
  pub behind : List Leaf
  pub is : ls ≡ ahead ++ link_of p.here ∷ behind
  pub before : Before p.before ahead
  pub next : p.here.leaf.next ≡ front behind 0
  pub low : lead c (entries_of ahead) ≡ length (entries_of ahead)
  pub stop : (lead c p.here.leaf.entries.items < length p.here.leaf.entries.items) ⊎ (behind ≡ [])

-- a walk has come to this number after so many blocks
pub record Walked (c : List ℕ) (ls : List Leaf) (back : Option NumberedLeaf) (turn at : ℕ) : Type 0 where
  pub ahead : List Leaf
  pub behind : List Leaf
  pub is : ls ≡ ahead ++ behind
  pub head : front behind 0 ≡ at
  pub before : Before back ahead
  pub low : lead c (entries_of ahead) ≡ length (entries_of ahead)
  pub long : length ahead ≡ turn

pub entries_append : (xs ys : List Leaf) → entries_of (xs ++ ys) ≡ entries_of xs ++ entries_of ys
entries_append [] ys = refl
entries_append (x ∷ xs) ys = ap (λ (l : List (List ℕ)). x.1 ++ l) (entries_append xs ys) ∙ sym (append_assoc x.1 (entries_of xs) (entries_of ys))

pub entries_one : (l : Leaf) → entries_of (l ∷ []) ≡ l.1
entries_one l = append-nil l.1

module _ (c : List ℕ) (ls : List Leaf) where
  module _ (width : ℕ) (look : ℕ → Option (List ℕ)) (chain : BlockChain (leaf_in width) look ls 0) where
    -- what the chain says of the block that was reached
    record Here (ahead behind : List Leaf) (at next : ℕ) (es : List (List ℕ)) : Type 0 where
      pub others : List Leaf
      pub is : behind ≡ (at, es) ∷ others
      pub next_is : next ≡ front others 0
      pub ends : next ≡ 0 → others ≡ []

    ends_at : (others : List Leaf) → BlockChain (leaf_in width) look others 0 → front others 0 ≡ 0 → others ≡ []
    ends_at [] rest zero_is = refl
    ends_at (l ∷ others) rest zero_is = absurd (rest.0 zero_is)

    abbrev fst_of : Option Leaf → ℕ
    fst_of None = 0
    fst_of (Some x) = x.0

    abbrev snd_of : Option Leaf → List (List ℕ)
    snd_of None = []
    snd_of (Some x) = x.1

    here : (ahead behind : List Leaf) (at next : ℕ) (es : List (List ℕ)) → ls ≡ ahead ++ behind → front behind 0 ≡ at → (at ≡ 0 → ⊥) → said_by (leaf_in width) (look at) ≡ Some (next, es) → Here ahead behind at next es
    here ahead [] at next es is head some said = absurd (some (sym head))
    here ahead (l ∷ others) at next es is head some said =
        let rest = chain_second (leaf_in width) look ahead (l ∷ others) 0 (subst (λ x. BlockChain (leaf_in width) look x 0) is chain) in
        let one : Option Leaf = Some (next, es) in
        let two : Option Leaf = Some (front others 0, l.1) in
        let same : one ≡ two = sym said ∙ ap (λ n. said_by (leaf_in width) (look n)) (sym head) ∙ rest.1 in
        let next_same : next ≡ front others 0 = ap fst_of same in
        let held : l.1 ≡ es = sym (ap snd_of same) in
        record {
          others = others;
          is = (λ i. (head i, held i) ∷ others);
          next_is = next_same;
          ends = λ e. ends_at others rest.2 (sym next_same ∙ e);
        }

    there : (ahead behind : List Leaf) (at : ℕ) → ls ≡ ahead ++ behind → front behind 0 ≡ at → (at ≡ 0 → ⊥) → said_by (leaf_in width) (look at) ≡ None → ⊥
    there ahead [] at is head some said = some (sym head)
    there ahead (l ∷ others) at is head some said =
        let rest = chain_second (leaf_in width) look ahead (l ∷ others) 0 (subst (λ x. BlockChain (leaf_in width) look x 0) is chain) in
        let none : Option Leaf = None in
        let one : Option Leaf = Some (front others 0, l.1) in
        let same : none ≡ one = sym said ∙ ap (λ n. said_by (leaf_in width) (look n)) (sym head) ∙ rest.1 in
        cc same

    pub walked_place : (before : Option NumberedLeaf) (turn at : ℕ) (leaf : LeafBlock) → Walked c ls before turn at → (at ≡ 0 → ⊥) → said_by (leaf_in width) (look at) ≡ Some (leaf.next, leaf.entries.items)
        → (leaf.next ≡ 0) ⊎ (lead c leaf.entries.items < length leaf.entries.items) → IsPlace c ls (record { before = before; here = record { number = at; leaf = leaf } })
    walked_place before turn at leaf walked some said stop =
        let h = here walked.ahead walked.behind at leaf.next leaf.entries.items walked.is walked.head some said in
        record {
          ahead = walked.ahead;
          behind = h.others;
          is = walked.is ∙ ap (λ (l : List Leaf). walked.ahead ++ l) h.is;
          before = walked.before;
          next = h.next_is;
          low = walked.low;
          stop = stops h.ends stop;
        }
      where
        stops : {P : Type 0} {n : ℕ} {others : List Leaf} → (n ≡ 0 → others ≡ []) → (n ≡ 0) ⊎ P → P ⊎ (others ≡ [])
        stops ends (inl e) = inr (ends e)
        stops ends (inr p) = inl p

    -- the number that was reached is that of a block of entries
    pub walked_there : (before : Option NumberedLeaf) (turn at : ℕ) → Walked c ls before turn at → (at ≡ 0 → ⊥) → said_by (leaf_in width) (look at) ≡ None → ⊥
    walked_there before turn at walked some said = there walked.ahead walked.behind at walked.is walked.head some said

    pub walked_next : (before : Option NumberedLeaf) (turn at : ℕ) (leaf : LeafBlock) → Walked c ls before turn at → (at ≡ 0 → ⊥) → said_by (leaf_in width) (look at) ≡ Some (leaf.next, leaf.entries.items)
        → lead c leaf.entries.items ≡ length leaf.entries.items → Walked c ls (Some (record { number = at; leaf = leaf })) (turn + 1) leaf.next
    walked_next before turn at leaf walked some said all =
        let es = leaf.entries.items in
        let h = here walked.ahead walked.behind at leaf.next es walked.is walked.head some said in
        let whole = entries_append walked.ahead ((at, es) ∷ []) ∙ ap (λ (l : List (List ℕ)). entries_of walked.ahead ++ l) (entries_one (at, es)) in
        record {
          ahead = walked.ahead ++ (at, es) ∷ [];
          behind = h.others;
          is = walked.is ∙ ap (λ (l : List Leaf). walked.ahead ++ l) h.is ∙ sym (append_assoc walked.ahead ((at, es) ∷ []) h.others);
          head = sym h.next_is;
          before = (walked.ahead, refl);
          low = ap (lead c) whole ∙ lead_past c (entries_of walked.ahead) es walked.low ∙ ap (λ n. length (entries_of walked.ahead) + n) all ∙ sym (length-append (entries_of walked.ahead) es) ∙ sym (ap length whole);
          long = omega (arith, length-append walked.ahead ((at, es) ∷ []), walked.long);
        }
