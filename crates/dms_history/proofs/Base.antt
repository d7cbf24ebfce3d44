-- Where a trail and its blocks agree, they have a base.
use Rattle.std.proofs.Common.{ℕ, ◌<◌, ◌≡◌, ◌||◌, ◌⊎◌, inl, inr, Bool, true, false, cond, List, [], ◌∷◌, ◌++◌, length, Option, Some, None, refl, sym, ◌∙◌, ap, subst, arith, append_assoc}
use Rattle.std.proofs.lemmas.List.FromFn.{length-map-range_with_len, get_or-map-range_with_len}
use Rattle.std.proofs.lemmas.Bool.Decides.{nat_tests}
use Rattle.std.proofs.lemmas.Bool.{true≢false}
use Rattle.dms_history.specs.Events.{BlockBytes, AllBlocks, Stored, Counts, Event, change, quiet, control, begin, block_in}
use Rattle.dms_history.specs.Replay.{TellsBefore, Chain, replay, with_block}
use Rattle.dms_history.specs.Images.{is_at, or_else, last_after, first_before, value, choice}
use Rattle.dms_history.specs.Lists.{has, after_last}
use Rattle.dms_history.specs.Places.{is_control, is_begin}
use Rattle.dms_history.specs.Pick.{content_of, reached_count}
use Rattle.dms_history.specs.Base.{opening, from_control, first_counts, base_of}
use Rattle.dms_history.specs.Agrees.{FitsCount, ListAgrees}
use Rattle.dms_history.specs.LawsOfBase.{AgreesHasBase}
use Rattle.dms_history.proofs.Picks.{tells_le, place_cases, option_cases, or_none, if_none, some_is, last_append, last_stands, none_stands, write_here, write_other, write_old, write_length, laid_length, in_file}
use Rattle.dms_history.proofs.Counts.{reached_append, reached_any, count_one}
use Rattle.dms_history.proofs.AtPoints.{or_no, true_or, or_true_right}

-- ---- lists

pub content_length : (counts : Counts) (s : Stored) (f : ℕ) → length (content_of counts s f) ≡ counts f
unfolding content_of
content_length counts s f = length-map-range_with_len (s f) 0 (counts f)

pub content_block : (counts : Counts) (s : Stored) (f b : ℕ) → b < counts f → block_in (content_of counts s) f b ≡ s f b
unfolding content_of
content_block counts s f b low = get_or-map-range_with_len (s f) 0 (counts f) b b [] low (omega arith)

pub at_self : (f b : ℕ) → is_at f b f b ≡ true
at_self f b = grind (arith, nat_tests)

pub has_append : (p : Event → Bool) (xs ys : List Event) → has p (xs ++ ys) ≡ (has p xs || has p ys)
has_append p [] ys = refl
has_append p (e ∷ xs) ys = ap (λ b. p e || b) (has_append p xs ys) ∙ or_assoc (p e) (has p xs) (has p ys)
  where
    or_assoc : (a b c : Bool) → (a || (b || c)) ≡ ((a || b) || c)
    or_assoc true b c = refl
    or_assoc false b c = refl

pub parts : (es : List Event) → opening es ++ from_control es ≡ es
parts [] = refl
parts (change f b before after ∷ es) = ap (λ (l : List Event). change f b before after ∷ l) (parts es)
parts (quiet n ∷ es) = ap (λ (l : List Event). quiet n ∷ l) (parts es)
parts (control n next counts described ∷ es) = refl
parts (begin n how ∷ es) = ap (λ (l : List Event). begin n how ∷ l) (parts es)

pub opens : (es : List Event) → has is_control (opening es) ≡ false
opens [] = refl
opens (change f b before after ∷ es) = opens es
opens (quiet n ∷ es) = opens es
opens (control n next counts described ∷ es) = refl
opens (begin n how ∷ es) = opens es

pub none_first : (es : List Event) (f b : ℕ) → last_after f b es ≡ None → first_before f b es ≡ None
none_first [] f b none = refl
none_first (change g k before after ∷ es) f b none =
    let (rest, off) = or_none (last_after f b es) _ none in
    ap (λ t. cond t (Some before) (first_before f b es)) (if_none _ after off) ∙ none_first es f b rest
none_first (quiet n ∷ es) f b none = none_first es f b none
none_first (control n next counts described ∷ es) f b none = none_first es f b none
none_first (begin n how ∷ es) f b none = none_first es f b none

-- ---- the fields of what stands behind the first Control

record Fields (all : List Event) : Type 0 where
  linked : (xs ys : List Event) (f b : ℕ) (before : Option BlockBytes) (after old : BlockBytes) → xs ++ change f b before after ∷ ys ≡ all → last_after f b xs ≡ Some old → before ≡ Some old
  grows : (xs ys : List Event) (f b : ℕ) (before : Option BlockBytes) (after : BlockBytes) → xs ++ change f b before after ∷ ys ≡ all → has is_control xs ≡ true → FitsCount before b (reached_count f 0 xs)
  recounts : (xs ys : List Event) (n later : ℕ) (counts : Counts) (described : Bool) → xs ++ control n later counts described ∷ ys ≡ all → has is_control xs ≡ true → (f : ℕ) → counts f ≡ reached_count f 0 xs

-- entries that were read, those that follow, and the content between them
record Walk (xs es : List Event) (c : AllBlocks) : Type 0 where
  lengths : (f : ℕ) → length (c f) ≡ reached_count f 0 xs
  afters : (f b : ℕ) (x : BlockBytes) → last_after f b xs ≡ Some x → (b < length (c f)) × (block_in c f b ≡ x)
  firsts : (f b : ℕ) (o : BlockBytes) → last_after f b xs ≡ None → b < length (c f) → first_before f b es ≡ Some (Some o) → block_in c f b ≡ o

tells_of : (xs es : List Event) (c : AllBlocks) (f b : ℕ) (before : Option BlockBytes) (after : BlockBytes) → Walk xs (change f b before after ∷ es) c → FitsCount before b (reached_count f 0 xs)
    → ((old : BlockBytes) → last_after f b xs ≡ Some old → before ≡ Some old) → TellsBefore b before (c f)
tells_of xs es c f b None after walk grows linked = grows ∙ sym (walk.lengths f)
tells_of xs es c f b (Some old) after walk grows linked =
    let low : b < length (c f) = omega (arith, grows, walk.lengths f) in
    elim (option_cases (last_after f b xs)) [
      | inr (y, is) ↦ (low, some_is old y (linked y is) ∙ sym (walk.afters f b y is).1)
      | inl none ↦ (low, sym (walk.firsts f b old none low (ap (λ t. cond t (Some (Some old)) (first_before f b es)) (at_self f b))))
    ]

moves : (xs es : List Event) (c : AllBlocks) (f b : ℕ) (before : Option BlockBytes) (after : BlockBytes) → Walk xs (change f b before after ∷ es) c → TellsBefore b before (c f)
    → Walk (xs ++ change f b before after ∷ []) es (with_block c f b after)
moves xs es c f b before after walk tells =
    let e = change f b before after in
    let le = tells_le b before (c f) tells in
    record {
      lengths = λ g. sym (reached_append xs (e ∷ []) g 0 ∙ ap (λ k. reached_count g k (e ∷ [])) (sym (walk.lengths g)) ∙ count_one c g f b before after tells);
      afters = λ g k x last.
          let both : or_else (cond (is_at g k f b) (Some after) None) (last_after g k xs) ≡ Some x = sym (last_append xs (e ∷ []) g k) ∙ last in
          elim (place_cases g k f b) [
            | inl place ↦
                let is : after ≡ x = some_is after x (ap (λ t. or_else (cond t (Some after) None) (last_after g k xs)) (sym place.2) ∙ both) in
                let low : b < length (with_block c f b after f) = omega (arith, ap length (in_file c f b after), laid_length b after (c f) le) in (
                  subst (λ i. i < length (with_block c f b after g)) place.1 (subst (λ j. b < length (with_block c f b after j)) place.0 low),
                  subst (λ j. block_in (with_block c f b after) j k ≡ x) place.0 (subst (λ j. block_in (with_block c f b after) f j ≡ x) place.1 (write_here c f b after le ∙ is)),
                )
            | inr apart ↦
                let was = walk.afters g k x (ap (λ t. or_else (cond t (Some after) None) (last_after g k xs)) (sym apart.1) ∙ both) in
                (omega (arith, was.0, write_length c f b after g le), write_other c f b after g k le apart.0 was.0 ∙ was.1)
          ];
      firsts = λ g k o none low first.
          let both = or_none (cond (is_at g k f b) (Some after) None) (last_after g k xs) (sym (last_append xs (e ∷ []) g k) ∙ none) in
          let off : is_at g k f b ≡ false = if_none (is_at g k f b) after both.0 in
          elim (place_cases g k f b) [
            | inl place ↦ absurd (true≢false (sym place.2 ∙ off))
            | inr apart ↦
                let old : k < length (c g) = write_old c f b after g k le apart.0 low in
                write_other c f b after g k le apart.0 old ∙ walk.firsts g k o both.1 old (ap (λ t. cond t (Some before) (first_before g k es)) off ∙ first)
          ];
    }

walks : (all : List Event) → Fields all → (es xs : List Event) (c : AllBlocks) → xs ++ es ≡ all → has is_control xs ≡ true → has is_begin es ≡ false → Walk xs es c → Chain es c
walks all fields [] xs c is found off walk = tt
walks all fields (change f b before after ∷ es) xs c is found off walk =
    let tells = tells_of xs es c f b before after walk (fields.grows xs es f b before after is found) (λ old last. fields.linked xs es f b before after old is last) in (
      tells,
      walks all fields es (xs ++ change f b before after ∷ []) (with_block c f b after) (append_assoc xs (change f b before after ∷ []) es ∙ is)
          (has_append is_control xs (change f b before after ∷ []) ∙ true_or (has is_control xs) false found) off (moves xs es c f b before after walk tells),
    )
walks all fields (quiet n ∷ es) xs c is found off walk =
    walks all fields es (xs ++ quiet n ∷ []) c (append_assoc xs (quiet n ∷ []) es ∙ is) (has_append is_control xs (quiet n ∷ []) ∙ true_or (has is_control xs) false found) off (record {
      lengths = λ f. walk.lengths f ∙ sym (reached_append xs (quiet n ∷ []) f 0);
      afters = λ f b x last. walk.afters f b x (sym (last_append xs (quiet n ∷ []) f b) ∙ last);
      firsts = λ f b o none low first. walk.firsts f b o (sym (last_append xs (quiet n ∷ []) f b) ∙ none) low first;
    })
walks all fields (control n next counts described ∷ es) xs c is found off walk =
    let e = control n next counts described in
    let count : (f : ℕ) → counts f ≡ length (c f) = λ f. fields.recounts xs es n next counts described is found f ∙ sym (walk.lengths f) in (
      count,
      walks all fields es (xs ++ e ∷ []) c (append_assoc xs (e ∷ []) es ∙ is) (has_append is_control xs (e ∷ []) ∙ or_true_right (has is_control xs) true refl) off (record {
        lengths = λ f. sym (count f) ∙ sym (reached_append xs (e ∷ []) f 0);
        afters = λ f b x last. walk.afters f b x (sym (last_append xs (e ∷ []) f b) ∙ last);
        firsts = λ f b o none low first. walk.firsts f b o (sym (last_append xs (e ∷ []) f b) ∙ none) low first;
      }),
    )
walks all fields (begin n how ∷ es) xs c is found off walk = absurd (true≢false off)

-- what follows the first Control has the fields
fields_of : (first : Bool) (live : List Event) (next : ℕ) (counted : Stored) → ListAgrees first live next counted → Fields (from_control live)
fields_of first live next counted agrees =
    let os = opening live in
    let whole : (xs ys : List Event) (e : Event) → xs ++ e ∷ ys ≡ from_control live → live ≡ (os ++ xs) ++ e ∷ ys =
    λ xs ys e is. sym (append_assoc os xs (e ∷ ys) ∙ ap (λ (l : List Event). os ++ l) is ∙ parts live) in
    record {
      linked = λ xs ys f b before after old is last. agrees.linked (os ++ xs) ys f b before after old (whole xs ys (change f b before after) is)
          (last_append os xs f b ∙ ap (λ o. or_else o (last_after f b os)) last);
      grows = λ xs ys f b before after is found. subst (λ k. FitsCount before b k) (reached_append os xs f 0 ∙ reached_any xs f _ 0 found)
          (agrees.grows (os ++ xs) ys f b before after (whole xs ys (change f b before after) is) (has_append is_control os xs ∙ or_true_right (has is_control os) (has is_control xs) found));
      recounts = λ xs ys n later counts described is found f. agrees.recounts (os ++ xs) ys n later counts described (whole xs ys (control n later counts described) is) (has_append is_control os xs ∙ or_true_right (has is_control os) (has is_control xs) found) f
          ∙ reached_append os xs f 0 ∙ reached_any xs f _ 0 found;
    }

-- ---- all that starts with a Control

abbrev pub StartsCounts : List Event → Counts → Type 0
StartsCounts es k = (n : ℕ) × (later : ℕ) × (rest : List Event) × (described : Bool) × (es ≡ control n later k described ∷ rest)

pub from_cases : (es : List Event) → (from_control es ≡ []) ⊎ StartsCounts (from_control es) (first_counts es)
from_cases [] = inl refl
from_cases (change f b before after ∷ es) = from_cases es
from_cases (quiet n ∷ es) = from_cases es
from_cases (control n next counts described ∷ es) = inr (n, next, es, described, refl)
from_cases (begin n how ∷ es) = from_cases es

first_none_counts : (es : List Event) → from_control es ≡ [] → (f : ℕ) → first_counts es f ≡ 0
first_none_counts [] none f = refl
first_none_counts (change g b before after ∷ es) none f = first_none_counts es none f
first_none_counts (quiet n ∷ es) none f = first_none_counts es none f
first_none_counts (control n next counts described ∷ es) none f = absurd cc
first_none_counts (begin n how ∷ es) none f = first_none_counts es none f

start_walk : (n later : ℕ) (k : Counts) (described : Bool) (rest : List Event) (counted : Stored) → Walk (control n later k described ∷ []) rest (content_of k (choice [] (control n later k described ∷ rest) counted))
unfolding choice
start_walk n later k described rest counted = record {
  lengths = λ f. content_length k _ f;
  afters = λ f b x last. absurd (not_some x last);
  firsts = λ f b o none low first. content_block k _ f b (subst (λ j. b < j) (content_length k _ f) low) ∙ ap (λ t. value None t (counted f b)) first;
}
  where
    not_some : (x : BlockBytes) → None ≡ Some x → ⊥
    not_some x e = absurd cc

chain_from : (all : List Event) (k : Counts) (counted : Stored) → Fields all → has is_begin all ≡ false → StartsCounts all k → Chain all (content_of k (choice [] all counted))
chain_from all k counted fields off (n, later, rest, described, is) =
    let base = content_of k (choice [] all counted) in
    let same : content_of k (choice [] (control n later k described ∷ rest) counted) ≡ base = ap (λ (l : List Event). content_of k (choice [] l counted)) (sym is) in
    let off_rest : has is_begin rest ≡ false = sym (ap (λ (l : List Event). has is_begin l) is) ∙ off in
    subst (λ (l : List Event). Chain l base) (sym is) (
      (λ f. sym (content_length k (choice [] all counted) f)),
      subst (λ (c : AllBlocks). Chain rest c) same (walks all fields rest (control n later k described ∷ []) (content_of k (choice [] (control n later k described ∷ rest) counted)) (sym is) refl off_rest (start_walk n later k described rest counted)),
    )

pub after_behind : (p : Event → Bool) (os xs : List Event) → has p xs ≡ true → after_last p (os ++ xs) ≡ after_last p xs
after_behind p [] xs found = refl
after_behind p (e ∷ os) xs found =
    ap (λ b. cond b (after_last p (os ++ xs)) (e ∷ (os ++ xs))) (or_true_right (p e) (has p (os ++ xs)) (has_append p os xs ∙ or_true_right (has p os) (has p xs) found)) ∙ after_behind p os xs found

no_begin_from : (es : List Event) → has is_begin es ≡ false → has is_begin (from_control es) ≡ false
no_begin_from es off = (or_no (has is_begin (opening es)) (has is_begin (from_control es)) (sym (has_append is_begin (opening es) (from_control es)) ∙ ap (λ (l : List Event). has is_begin l) (parts es) ∙ off)).1

pub starts_has : (es : List Event) (k : Counts) → StartsCounts es k → has is_control es ≡ true
starts_has es k (n, later, rest, described, is) = ap (λ (l : List Event). has is_control l) is

pub stored_pick : (es : List Event) (s : Stored) (f b : ℕ) → first_before f b es ≡ None → choice [] es s f b ≡ s f b
unfolding choice
stored_pick es s f b none = ap (λ t. value None t (s f b)) none

pub agrees_has_base : AgreesHasBase
unfolding base_of
agrees_has_base first live next counted off agrees = elim (from_cases live) [
  | inl none ↦ record {
    chain = subst (λ (l : List Event). Chain l (base_of live counted)) (sym none) tt;
    stands = λ f b low out.
        let low2 : b < length (base_of live counted f) = subst (λ (l : List Event). b < length (replay l (base_of live counted) f)) none low in
        absurd (omega (arith, low2, content_length (first_counts live) (choice [] (from_control live) counted) f, first_none_counts live none f));
  }
  | inr starts ↦
      let all = from_control live in
      let base = base_of live counted in
      let found : has is_control all ≡ true = starts_has all (first_counts live) starts in
      let chain : Chain all base = chain_from all (first_counts live) counted (fields_of first live next counted agrees) (no_begin_from live off) starts in
      let late : after_last is_control live ≡ after_last is_control all = ap (λ (l : List Event). after_last is_control l) (sym (parts live)) ∙ after_behind is_control (opening live) all found in
      record {
        chain = chain;
        stands = λ f b low out. elim (option_cases (last_after f b all)) [
          | inr (x, is) ↦
              let is_last : last_after f b live ≡ Some x = ap (λ (l : List Event). last_after f b l) (sym (parts live)) ∙ last_append (opening live) all f b ∙ ap (λ o. or_else o (last_after f b (opening live))) is in
              agrees.stands f b x is_last (ap (λ (l : List Event). last_after f b l) late ∙ out) ∙ sym (last_stands all base f b x chain is)
          | inl none ↦
              let (old, same) = none_stands all base f b chain none low in
              let count : b < first_counts live f = omega (arith, old, content_length (first_counts live) (choice [] all counted) f) in
              sym (same ∙ content_block (first_counts live) (choice [] all counted) f b count ∙ stored_pick all counted f b (none_first all f b none))
        ];
      }
]
