-- A level of a tree, block by block, and what it says of each level that hangs there.
use Rattle.std.proofs.Common.{◌≡◌, ℕ, zero, suc, ◌+◌, ◌<◌, ◌≤◌, List, [], ◌∷◌, ◌++◌, Bool, true, false, cond, ltb, get_or, Some, None, refl, sym, ap, subst, ◌∙◌, length, length-append, take, drop, append_assoc, append-nil, arith}
use Rattle.std.specs.Prelude.{◌&&◌, is_some}
use Rattle.std.specs.declared.option.Option.{Option}
use Rattle.std.specs.Option.{option_map}
use Rattle.std.proofs.lemmas.Bool.{and_parts}
use Rattle.std.proofs.lemmas.Bool.Decides.{nat_tests}
use Rattle.std.proofs.lemmas.List.{drop_all}
use Rattle.std.proofs.lemmas.Option.{slice_get_past}
use Rattle.dms_chain.specs.Linked.{numbers}
use Rattle.dms_shapes.specs.Levels.{HasLevel, bar_at, bar_of, full_inner, full_level, is_inner_level}
use Rattle.dms_tree.specs.LaceLaws.{kids_append}
use Rattle.dms_tree.specs.Levels.{Inner, kids_of, lace, seps_of}
use Rattle.dms_tree.specs.TreeBlocks.{inner_half, inner_in}
use Rattle.dms_tree.specs.TreeIn.{SayLevel, half_level, is_half, level_step, says}

abbrev Said : Type 0
Said = List ℕ × List (List ℕ)

abbrev Found : Type 0
Found = Option (List Inner)

abbrev some_level : List Inner → Found
some_level u = Some u

no_level : (u : List Inner) → some_level u ≡ None → ⊥
no_level u h = absurd (cc (h))

abbrev level_or : Found → List Inner
level_or None = []
level_or (Some u) = u

-- the first so many blocks of a level were read
pub record LevelSoFar (width root : ℕ) (look : ℕ → Option (List ℕ)) (ns : List ℕ) (fs : List (List ℕ)) (place : ℕ) (kids : List ℕ) (fences : List (List ℕ)) : Type 0 where
  pub done : List Inner
  pub size : length done ≡ place
  pub on : full_level width root look ns ≡ option_map (λ us. done ++ us) (full_level width root look (drop place ns))
  pub kids_are : kids_of done ≡ kids
  pub fences_are : lace (seps_of done) (take place fs) ≡ fences

pub opened_at : (ns : List ℕ) (i : ℕ) → i < length ns → drop i ns ≡ get_or ns i 0 ∷ drop (suc i) ns
opened_at [] i low = absurd (omega (arith, low))
opened_at (n ∷ ns) zero low = refl
opened_at (n ∷ ns) (suc i) low = opened_at ns i (omega (arith, low))

pub plus_one : (n : ℕ) → suc n ≡ n + 1
plus_one n = omega arith

-- the separators up to one block further
lace_more : (done : List Inner) (u : Inner) (fs : List (List ℕ)) (i : ℕ) → length done ≡ i → i ≤ length fs → lace (seps_of (done ++ u ∷ [])) (take (suc i) fs) ≡ (lace (seps_of done) (take i fs) ++ u.1.1) ++ bar_at fs i
lace_more [] u [] zero size low = refl
lace_more [] u (f ∷ fs) zero size low = refl
lace_more [] u fs (suc i) size low = absurd (omega (arith, size))
lace_more (d ∷ done) u fs zero size low = absurd (omega (arith, size))
lace_more (d ∷ done) u [] (suc i) size low = absurd (omega (arith, low))
lace_more (d ∷ done) u (f ∷ fs) (suc i) size low =
    let laid = lace (seps_of done) (take i fs) in
    ap (λ (l : List (List ℕ)). d.1.1 ++ f ∷ l) (lace_more done u fs i (omega (arith, size)) (omega (arith, low)))
    ∙ sym (append_assoc d.1.1 (f ∷ (laid ++ u.1.1)) (bar_at fs i))
    ∙ ap (λ (l : List (List ℕ)). l ++ bar_at fs i) (sym (append_assoc d.1.1 (f ∷ laid) u.1.1))

map_same : (o : Found) → o ≡ option_map (λ us. us) o
map_same None = refl
map_same (Some u) = refl

map_glue : (done : List Inner) (u : Inner) (o : Found) → option_map (λ us. done ++ us) (option_map (λ us. u ∷ us) o) ≡ option_map (λ us. (done ++ u ∷ []) ++ us) o
map_glue done u None = refl
map_glue done u (Some us) = ap some_level (sym (append_assoc done (u ∷ []) us))

record Behind (front u : List Inner) : Type 0 where
  rest : List Inner
  is : front ++ rest ≡ u

map_front : (front : List Inner) (o : Found) (u : List Inner) → option_map (λ us. front ++ us) o ≡ some_level u → Behind front u
map_front front None u is = absurd (no_level u (sym is))
map_front front (Some us) u is = record { rest = us; is = ap level_or is }

module _ (width root : ℕ) (look : ℕ → Option (List ℕ)) (ns : List ℕ) (fs : List (List ℕ)) where
  pub level_begins : LevelSoFar width root look ns fs 0 [] []
  level_begins = record { done = []; size = refl; on = map_same (full_level width root look ns); kids_are = refl; fences_are = refl }

  read_on : (i : ℕ) (o : Option Said) → i < length ns → full_inner width root (get_or ns i 0) (says (inner_in width) (look (get_or ns i 0))) ≡ o
      → full_level width root look (drop i ns) ≡ level_step (get_or ns i 0) o (full_level width root look (drop (suc i) ns))
  read_on i o low said = ap (full_level width root look) (opened_at ns i low) ∙ ap (λ (x : Option Said). level_step (get_or ns i 0) x (full_level width root look (drop (suc i) ns))) said

  module _ (i : ℕ) (kids : List ℕ) (fences : List (List ℕ)) (s : LevelSoFar width root look ns fs i kids fences) where
    pub level_more : (x : Said) → i < length ns → length fs + 1 ≡ length ns → full_inner width root (get_or ns i 0) (says (inner_in width) (look (get_or ns i 0))) ≡ Some x → LevelSoFar width root look ns fs (i + 1) (kids ++ x.0) ((fences ++ x.1) ++ bar_at fs i)
    level_more x low even said =
        let n = get_or ns i 0 in
        record {
          done = s.done ++ (n, x) ∷ [];
          size = omega (arith, length-append s.done ((n, x) ∷ []), s.size);
          on = s.on ∙ ap (λ (o : Found). option_map (λ us. s.done ++ us) o) (read_on i (Some x) low said) ∙ map_glue s.done (n, x) (full_level width root look (drop (suc i) ns))
              ∙ ap (λ k. option_map (λ us. (s.done ++ (n, x) ∷ []) ++ us) (full_level width root look (drop k ns))) (plus_one i);
          kids_are = kids_append s.done ((n, x) ∷ []) ∙ (λ j. s.kids_are j ++ append-nil x.0 j);
          fences_are = ap (λ k. lace (seps_of (s.done ++ (n, x) ∷ [])) (take k fs)) (sym (plus_one i)) ∙ lace_more s.done (n, x) fs i s.size (omega (arith, low, even)) ∙ ap (λ (l : List (List ℕ)). (l ++ x.1) ++ bar_at fs i) s.fences_are;
        }

    -- another block stands there
    pub level_stops : i < length ns → full_inner width root (get_or ns i 0) (says (inner_in width) (look (get_or ns i 0))) ≡ None → (u : List Inner) → full_level width root look ns ≡ Some u → ⊥
    level_stops low said u is = no_level u (sym is ∙ s.on ∙ ap (λ (o : Found). option_map (λ us. s.done ++ us) o) (read_on i None low said))

    pub level_long : (x : Said) (room : ℕ) → i < length ns → length fs + 1 ≡ length ns → full_inner width root (get_or ns i 0) (says (inner_in width) (look (get_or ns i 0))) ≡ Some x → room < length kids + length x.0
        → (u : List Inner) → full_level width root look ns ≡ Some u → length (kids_of u) ≤ room → ⊥
    level_long x room low even said many u is few =
        let t = level_more x low even said in
        let b = map_front t.done (full_level width root look (drop (i + 1) ns)) u (sym t.on ∙ is) in
        omega (arith, many, few, ap (λ (l : List Inner). length (kids_of l)) b.is, ap (λ (l : List ℕ). length l) (kids_append t.done b.rest), length-append (kids_of t.done) (kids_of b.rest), ap (λ (l : List ℕ). length l) t.kids_are, length-append kids x.0)

    -- all blocks were read
    pub level_ends : length ns ≤ i → length fs + 1 ≡ length ns → HasLevel width root look ns fs kids fences
    level_ends past even = record {
      level = s.done;
      is = s.on ∙ ap (λ (l : List ℕ). option_map (λ us. s.done ++ us) (full_level width root look l)) (drop_all i ns past) ∙ ap some_level (append-nil s.done);
      kids_are = s.kids_are;
      fences_are = ap (lace (seps_of s.done)) (sym (take_past i fs (omega (arith, past, even)))) ∙ s.fences_are;
    }
      where
        take_past : (k : ℕ) (l : List (List ℕ)) → length l ≤ k → take k l ≡ l
        take_past zero [] fit = refl
        take_past (suc k) [] fit = refl
        take_past zero (x ∷ l) fit = absurd (omega (arith, fit))
        take_past (suc k) (x ∷ l) fit = ap (λ (m : List (List ℕ)). x ∷ m) (take_past k l (omega (arith, fit)))

-- ---- what such a level is

module _ (width root : ℕ) (look : ℕ → Option (List ℕ)) where
  pub record IsFullLevel (ns : List ℕ) (u : List Inner) : Type 0 where
    pub at : numbers u ≡ ns
    pub said : SayLevel width look u
    pub half : half_level width root u ≡ true

  pub full_is : (u : List Inner) → SayLevel width look u → half_level width root u ≡ true → full_level width root look (numbers u) ≡ Some u
  full_is [] said half = refl
  full_is (v ∷ u) said half =
      let parts = and_parts (is_half root (inner_half width) v.0 (length v.1.1)) (half_level width root u) half in
      ap (λ o. level_step v.0 (full_inner width root v.0 o) (full_level width root look (numbers u))) said.0
      ∙ ap (λ t. level_step v.0 (cond t (Some v.1) None) (full_level width root look (numbers u))) parts.0
      ∙ ap (λ (o : Found). option_map (λ us. (v.0, v.1) ∷ us) o) (full_is u said.1 parts.1)

  nothing_found : (u : List Inner) → some_level [] ≡ some_level u → IsFullLevel [] u
  nothing_found u is = subst (IsFullLevel []) (ap level_or is) (record { at = refl; said = tt; half = refl })

  found_more : (n : ℕ) (ns : List ℕ) (x : Said) (o : Found) (u : List Inner) → says (inner_in width) (look n) ≡ Some x → is_half root (inner_half width) n (length x.1) ≡ true → ((us : List Inner) → o ≡ Some us → IsFullLevel ns us)
      → option_map (λ us. (n, x) ∷ us) o ≡ some_level u → IsFullLevel (n ∷ ns) u
  found_more n ns x None u said half rest is = absurd (no_level u (sym is))
  found_more n ns x (Some us) u said half rest is =
      let r = rest us refl in
      subst (IsFullLevel (n ∷ ns)) (ap level_or is) (record { at = ap (λ (l : List ℕ). n ∷ l) r.at; said = (said, r.said); half = (λ i. half i && r.half i) })

  found_half : (n : ℕ) (ns : List ℕ) (x : Said) (t : Bool) (rest : Found) (u : List Inner) → says (inner_in width) (look n) ≡ Some x → is_half root (inner_half width) n (length x.1) ≡ t → ((us : List Inner) → rest ≡ Some us → IsFullLevel ns us)
      → level_step n (cond t (Some x) None) rest ≡ some_level u → IsFullLevel (n ∷ ns) u
  found_half n ns x false rest u said half more is = absurd (no_level u (sym is))
  found_half n ns x true rest u said half more is = found_more n ns x rest u said half more is

  found_on : (n : ℕ) (ns : List ℕ) (o : Option Said) (rest : Found) (u : List Inner) → says (inner_in width) (look n) ≡ o → ((us : List Inner) → rest ≡ Some us → IsFullLevel ns us) → level_step n (full_inner width root n o) rest ≡ some_level u → IsFullLevel (n ∷ ns) u
  found_on n ns None rest u said more is = absurd (no_level u (sym is))
  found_on n ns (Some x) rest u said more is = found_half n ns x (is_half root (inner_half width) n (length x.1)) rest u said refl more is

  pub full_finds : (ns : List ℕ) (u : List Inner) → full_level width root look ns ≡ Some u → IsFullLevel ns u
  full_finds [] u is = nothing_found u is
  full_finds (n ∷ ns) u is = found_on n ns (says (inner_in width) (look n)) (full_level width root look ns) u refl (λ us h. full_finds ns us h) is

-- no separator at a place
pub none_added : (xs fs : List (List ℕ)) (place : ℕ) → false ≡ ltb place (length fs) → xs ≡ xs ++ bar_at fs place
none_added xs fs place off =
    let past : length fs ≤ place = grind (arith, nat_tests, off) in
    sym (ap (λ (o : Option (List ℕ)). xs ++ bar_of o) (slice_get_past fs place past) ∙ append-nil xs)

-- the block at the first of some numbers
pub first_level : (width : ℕ) (look : ℕ → Option (List ℕ)) (ns : List ℕ) → 1 ≤ length ns → is_inner_level width look ns ≡ is_some (says (inner_in width) (look (get_or ns 0 0)))
first_level width look [] some = absurd (omega (arith, some))
first_level width look (n ∷ ns) some = refl
