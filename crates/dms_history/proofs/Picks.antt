-- What a log gives back at a point is the content there.
use Rattle.std.proofs.Common.{ℕ, suc, ◌+◌, ◌<◌, ◌≤◌, ◌≡◌, ◌≢◌, ◌⊎◌, inl, inr, Bool, true, false, cond, List, [], ◌∷◌, ◌++◌, length, take, drop, get_or, Option, Some, None, refl, sym, ◌∙◌, ap, subst, arith, length-append, length-take, length-drop, max, ◌-◌}
use Rattle.std.proofs.lemmas.List.{get_or_at, get_or_append_left, get_or-take, get_or-drop, get_or-append_right}
use Rattle.std.proofs.lemmas.Bool.{cases_eq, cases_lt}
use Rattle.std.proofs.lemmas.Bool.Decides.{nat_tests}
use Rattle.std.proofs.lemmas.Option.{cond_some}
use Rattle.dms_history.specs.Events.{BlockBytes, AllBlocks, Event, change, quiet, control, begin, block_in}
use Rattle.dms_history.specs.Replay.{with_block, replay, TellsBefore, Chain}
use Rattle.dms_history.specs.Images.{is_at, or_else, last_after, first_before, else_stored, value, choice}
use Rattle.dms_history.specs.LawsOfPoints.{ChoiceGivesContent}

-- ---- one block is written

abbrev put_block : ℕ → BlockBytes → List BlockBytes → List BlockBytes
put_block b x l = take b l ++ (x ∷ drop (suc b) l)

pub laid_length : (b : ℕ) (x : BlockBytes) (l : List BlockBytes) → b ≤ length l → length (put_block b x l) ≡ max (length l) (b + 1)
laid_length b x l le = omega (arith, length-append (take b l) (x ∷ drop (suc b) l), length-take b l, length-drop (suc b) l)

laid_here : (b : ℕ) (x : BlockBytes) (l : List BlockBytes) → b ≤ length l → get_or (put_block b x l) b [] ≡ x
laid_here b x l le = get_or_at (take b l) x (drop (suc b) l) [] b (omega (arith, length-take b l))

laid_other : (b : ℕ) (x : BlockBytes) (l : List BlockBytes) (k : ℕ) → b ≤ length l → k ≢ b → k < length l → get_or (put_block b x l) k [] ≡ get_or l k []
laid_other b x l k le other low = elim (cases_lt k b) [
  | inl less ↦ get_or_append_left (take b l) (x ∷ drop (suc b) l) [] k (omega (arith, length-take b l)) ∙ get_or-take b l k [] less
  | inr no_less ↦
      let from_control : k - b ≡ suc (k - suc b) = omega arith in
      let place : suc b + (k - suc b) ≡ k = omega arith in
      get_or-append_right (take b l) (x ∷ drop (suc b) l) b k [] (omega (arith, length-take b l)) no_less
      ∙ ap (λ j. get_or (x ∷ drop (suc b) l) j []) from_control
      ∙ get_or-drop (suc b) l (k - suc b) []
      ∙ ap (λ j. get_or l j []) place
]

pub in_file : (c : AllBlocks) (f b : ℕ) (x : BlockBytes) → with_block c f b x f ≡ put_block b x (c f)
unfolding with_block
in_file c f b x = grind (arith, nat_tests)

pub in_others : (c : AllBlocks) (f b : ℕ) (x : BlockBytes) (g : ℕ) → g ≢ f → with_block c f b x g ≡ c g
unfolding with_block
in_others c f b x g other = grind (arith, nat_tests)

pub write_here : (c : AllBlocks) (f b : ℕ) (x : BlockBytes) → b ≤ length (c f) → block_in (with_block c f b x) f b ≡ x
write_here c f b x le = ap (λ (l : List BlockBytes). get_or l b []) (in_file c f b x) ∙ laid_here b x (c f) le

pub write_other : (c : AllBlocks) (f b : ℕ) (x : BlockBytes) (g k : ℕ) → b ≤ length (c f) → (g ≡ f → k ≡ b → ⊥) → k < length (c g) → block_in (with_block c f b x) g k ≡ block_in c g k
write_other c f b x g k le apart low = elim (cases_eq g f) [
  | inl same ↦
      ap (λ j. block_in (with_block c f b x) j k) same ∙ ap (λ (l : List BlockBytes). get_or l k []) (in_file c f b x)
      ∙ laid_other b x (c f) k le (λ e. apart same e) (subst (λ j. k < length (c j)) same low) ∙ ap (λ j. block_in c j k) (sym same)
  | inr other ↦ ap (λ (l : List BlockBytes). get_or l k []) (in_others c f b x g other)
]

pub write_length : (c : AllBlocks) (f b : ℕ) (x : BlockBytes) (g : ℕ) → b ≤ length (c f) → length (c g) ≤ length (with_block c f b x g)
write_length c f b x g le = elim (cases_eq g f) [
  | inl same ↦ subst (λ j. length (c j) ≤ length (with_block c f b x j)) (sym same) (omega (arith, ap length (in_file c f b x), laid_length b x (c f) le))
  | inr other ↦ omega (arith, ap length (in_others c f b x g other))
]

-- another block than the one that is written was there
pub write_old : (c : AllBlocks) (f b : ℕ) (x : BlockBytes) (g k : ℕ) → b ≤ length (c f) → (g ≡ f → k ≡ b → ⊥) → k < length (with_block c f b x g) → k < length (c g)
write_old c f b x g k le apart low = elim (cases_eq g f) [
  | inl same ↦
      let other : k ≢ b = λ e. apart same e in
      let here : k < length (with_block c f b x f) = subst (λ j. k < length (with_block c f b x j)) same low in
      subst (λ j. k < length (c j)) (sym same) (omega (arith, ap length (in_file c f b x), laid_length b x (c f) le))
  | inr other ↦ omega (arith, ap length (in_others c f b x g other))
]

-- ---- events

pub tells_le : (b : ℕ) (before : Option BlockBytes) (l : List BlockBytes) → TellsBefore b before l → b ≤ length l
tells_le b None l t = omega (arith, t)
tells_le b (Some old) l t = omega (arith, t.0)

-- one block or another
pub place_cases : (f b g k : ℕ) → ((g ≡ f) × (k ≡ b) × (is_at f b g k ≡ true)) ⊎ ((f ≡ g → b ≡ k → ⊥) × (is_at f b g k ≡ false))
place_cases f b g k = elim (cases_eq g f) [
  | inl same ↦ elim (cases_eq k b) [
    | inl here ↦ inl (same, here, grind (arith, nat_tests))
    | inr off ↦ inr (λ p q. off (sym q), grind (arith, nat_tests))
  ]
  | inr other ↦ inr (λ p q. other (sym p), grind (arith, nat_tests))
]

pub option_cases : {A : Type 0} (o : Option A) → (o ≡ None) ⊎ ((x : A) × (o ≡ Some x))
option_cases None = inl refl
option_cases (Some x) = inr (x, refl)

pub or_none : {A : Type 0} (x y : Option A) → or_else x y ≡ None → (x ≡ None) × (y ≡ None)
or_none None y e = (refl, e)
or_none (Some x) y e = absurd cc

pub if_none : {A : Type 0} (b : Bool) (x : A) → cond b (Some x) None ≡ None → b ≡ false
if_none true x e = absurd cc
if_none false x e = refl

pub some_is : {A : Type 0} (x y : A) → Some x ≡ Some y → x ≡ y
some_is x y e = cc

pub replay_length : (es : List Event) (c : AllBlocks) (f : ℕ) → Chain es c → length (c f) ≤ length (replay es c f)
replay_length [] c f chain = omega arith
replay_length (change g k before after ∷ es) c f chain =
    omega (arith, write_length c g k after f (tells_le k before (c g) chain.0), replay_length es (with_block c g k after) f chain.1)
replay_length (quiet n ∷ es) c f chain = replay_length es c f chain
replay_length (control n next counts described ∷ es) c f chain = replay_length es c f chain.1
replay_length (begin n how ∷ es) c f chain = absurd chain

-- what isn't logged was there and stands as it did
pub none_stands : (es : List Event) (c : AllBlocks) (f b : ℕ) → Chain es c → last_after f b es ≡ None → b < length (replay es c f) → (b < length (c f)) × (block_in (replay es c) f b ≡ block_in c f b)
none_stands [] c f b chain none low = (low, refl)
none_stands (change g k before after ∷ es) c f b chain none low =
    let le = tells_le k before (c g) chain.0 in
    let (rest, off) = or_none (last_after f b es) _ none in
    let (old, same) = none_stands es (with_block c g k after) f b chain.1 rest low in
    elim (place_cases f b g k) [
      | inl at ↦ absurd (true_not_false (sym at.2 ∙ if_none _ after off))
      | inr apart ↦ (write_old c g k after f b le apart.0 old, same ∙ write_other c g k after f b le apart.0 (write_old c g k after f b le apart.0 old))
    ]
  where
    true_not_false : true ≡ false → ⊥
    true_not_false e = absurd cc
none_stands (quiet n ∷ es) c f b chain none low = none_stands es c f b chain none low
none_stands (control n next counts described ∷ es) c f b chain none low = none_stands es c f b chain.1 none low
none_stands (begin n how ∷ es) c f b chain none low = absurd chain

-- what is logged last stands in the content
pub last_stands : (es : List Event) (c : AllBlocks) (f b : ℕ) (x : BlockBytes) → Chain es c → last_after f b es ≡ Some x → block_in (replay es c) f b ≡ x
last_stands [] c f b x chain last = absurd cc
last_stands (change g k before after ∷ es) c f b x chain last =
    let le = tells_le k before (c g) chain.0 in
    let next = with_block c g k after in
    elim (option_cases (last_after f b es)) [
      | inr (y, is) ↦ last_stands es next f b x chain.1 (is ∙ (sym (ap (λ o. or_else o (cond (is_at f b g k) (Some after) None)) is) ∙ last))
      | inl none ↦
          let (at, same) = cond_some (is_at f b g k) after x (sym (ap (λ o. or_else o (cond (is_at f b g k) (Some after) None)) none) ∙ last) in
          elim (place_cases f b g k) [
            | inl place ↦
                let here : block_in next f b ≡ after = subst (λ j. block_in next j b ≡ after) place.0 (subst (λ j. block_in next g j ≡ after) place.1 (write_here c g k after le)) in
                let there : b < length (next f) = subst (λ j. b < length (next j)) place.0 (omega (arith, place.1, ap length (in_file c g k after), laid_length k after (c g) le)) in
                (none_stands es next f b chain.1 none (omega (arith, there, replay_length es next f chain.1))).1 ∙ here ∙ same
            | inr apart ↦ absurd (true_not_false (sym at ∙ apart.1))
          ]
    ]
  where
    true_not_false : true ≡ false → ⊥
    true_not_false e = absurd cc
last_stands (quiet n ∷ es) c f b x chain last = last_stands es c f b x chain last
last_stands (control n next counts described ∷ es) c f b x chain last = last_stands es c f b x chain.1 last
last_stands (begin n how ∷ es) c f b x chain last = absurd chain

-- the first before-image of a block that was there is what it was
pub first_old : (es : List Event) (c : AllBlocks) (f b : ℕ) (o : Option BlockBytes) → Chain es c → b < length (c f) → first_before f b es ≡ Some o → o ≡ Some (block_in c f b)
first_old [] c f b o chain low first = absurd cc
first_old (change g k before after ∷ es) c f b o chain low first =
    let le = tells_le k before (c g) chain.0 in
    elim (place_cases f b g k) [
      | inl place ↦
          let same : before ≡ o = some_is before o (sym (ap (λ t. cond t (Some before) (first_before f b es)) place.2) ∙ first) in
          let tells : TellsBefore b before (c f) = subst (λ j. TellsBefore b before (c j)) place.0 (subst (λ j. TellsBefore j before (c g)) place.1 chain.0) in
          sym same ∙ told before tells low
      | inr apart ↦
          let rest : first_before f b es ≡ Some o = sym (ap (λ t. cond t (Some before) (first_before f b es)) apart.1) ∙ first in
          first_old es (with_block c g k after) f b o chain.1 (omega (arith, low, write_length c g k after f le)) rest ∙ ap (λ x. Some x) (write_other c g k after f b le apart.0 low)
    ]
  where
    told : (before : Option BlockBytes) → TellsBefore b before (c f) → b < length (c f) → before ≡ Some (block_in c f b)
    told None tells low = absurd (omega arith)
    told (Some old) tells low = ap (λ x. Some x) tells.1
first_old (quiet n ∷ es) c f b o chain low first = first_old es c f b o chain low first
first_old (control n next counts described ∷ es) c f b o chain low first = first_old es c f b o chain.1 low first
first_old (begin n how ∷ es) c f b o chain low first = absurd chain

pub first_none : (es : List Event) (f b : ℕ) → first_before f b es ≡ None → last_after f b es ≡ None
first_none [] f b none = refl
first_none (change g k before after ∷ es) f b none = elim (place_cases f b g k) [
  | inl place ↦ absurd (not_none before (sym (ap (λ t. cond t (Some before) (first_before f b es)) place.2) ∙ none))
  | inr apart ↦
      let rest = first_none es f b (sym (ap (λ t. cond t (Some before) (first_before f b es)) apart.1) ∙ none) in
      λ i. or_else (rest i) (cond (apart.1 i) (Some after) None)
]
  where
    not_none : (x : Option BlockBytes) → Some x ≡ None → ⊥
    not_none x e = absurd cc
first_none (quiet n ∷ es) f b none = first_none es f b none
first_none (control n next counts described ∷ es) f b none = first_none es f b none
first_none (begin n how ∷ es) f b none = first_none es f b none

pub chain_split : (xs ys : List Event) (c : AllBlocks) → Chain (xs ++ ys) c → Chain xs c × Chain ys (replay xs c)
chain_split [] ys c chain = (tt, chain)
chain_split (change g k before after ∷ xs) ys c chain = let (first, rest) = chain_split xs ys (with_block c g k after) chain.1 in ((chain.0, first), rest)
chain_split (quiet n ∷ xs) ys c chain = chain_split xs ys c chain
chain_split (control n next counts described ∷ xs) ys c chain = let (first, rest) = chain_split xs ys c chain.1 in ((chain.0, first), rest)
chain_split (begin n how ∷ xs) ys c chain = absurd chain

or_assoc : {A : Type 0} (x y z : Option A) → or_else (or_else x y) z ≡ or_else x (or_else y z)
or_assoc None y z = refl
or_assoc (Some x) y z = refl

pub last_append : (xs ys : List Event) (f b : ℕ) → last_after f b (xs ++ ys) ≡ or_else (last_after f b ys) (last_after f b xs)
last_append [] ys f b = or_nothing (last_after f b ys)
  where
    or_nothing : {A : Type 0} (x : Option A) → x ≡ or_else x None
    or_nothing None = refl
    or_nothing (Some x) = refl
last_append (change g k before after ∷ xs) ys f b =
    ap (λ o. or_else o (cond (is_at f b g k) (Some after) None)) (last_append xs ys f b) ∙ or_assoc (last_after f b ys) (last_after f b xs) _
last_append (quiet n ∷ xs) ys f b = last_append xs ys f b
last_append (control n next counts described ∷ xs) ys f b = last_append xs ys f b
last_append (begin n how ∷ xs) ys f b = last_append xs ys f b

pub choice_gives_content : ChoiceGivesContent
unfolding choice
choice_gives_content earlier later start stored chain kept f b low =
    let (before, from_control) = chain_split earlier later start chain in
    elim (option_cases (last_after f b earlier)) [
      | inr (x, is) ↦ ap (λ o. value o (first_before f b later) (stored f b)) is ∙ sym (last_stands earlier start f b x before is)
      | inl none ↦
          let (old, same) = none_stands earlier start f b before none low in
          elim (option_cases (first_before f b later)) [
            | inr (o, is) ↦
                (λ i. value (none i) (is i) (stored f b)) ∙ ap (λ p. else_stored (Some p) (stored f b)) (first_old later (replay earlier start) f b o from_control low is)
            | inl no_first ↦
                let all : last_after f b (earlier ++ later) ≡ None = last_append earlier later f b ∙ (λ i. or_else (first_none later f b no_first i) (none i)) in
                (λ i. value (none i) (no_first i) (stored f b)) ∙ kept f b old all ∙ sym same
          ]
    ]
