-- What has a base agrees.
use Rattle.std.proofs.Common.{ℕ, ◌<◌, ◌≡◌, ◌||◌, inl, inr, Bool, true, false, cond, List, [], ◌∷◌, ◌++◌, length, get_or, Option, Some, None, refl, sym, ◌∙◌, ap, subst, arith, append_assoc}
use Rattle.std.proofs.lemmas.Bool.{cases_Bool, true≢false}
use Rattle.std.proofs.lemmas.Option.{cond_some, none-some}
use Rattle.dms_history.specs.Events.{BlockBytes, AllBlocks, Stored, Counts, Event, change, quiet, control, begin}
use Rattle.dms_history.specs.Replay.{TellsBefore, Chain, replay, with_block}
use Rattle.dms_history.specs.Images.{is_at, or_else, last_after, first_before, value, choice}
use Rattle.dms_history.specs.Lists.{has, after_last}
use Rattle.dms_history.specs.Places.{is_control}
use Rattle.dms_history.specs.Base.{Sound, opening, from_control, first_counts, OpenedFrom, base_of}
use Rattle.dms_history.specs.Agrees.{FitsCount}
use Rattle.dms_history.specs.LawsOfBase.{AgreesLeadsToBase, BaseAgrees}
use Rattle.dms_history.proofs.Picks.{tells_le, place_cases, laid_length, in_file, replay_length, first_none, option_cases, or_none, if_none, some_is, last_append, last_stands, none_stands, chain_split}
use Rattle.dms_history.proofs.AtPoints.{suffix_none}
use Rattle.dms_history.specs.Pick.{reached_count}
use Rattle.dms_history.proofs.Counts.{reached_append, reached_any, chain_reached}
use Rattle.dms_history.proofs.Base.{content_length, content_block, at_self, has_append, parts, opens, from_cases, after_behind, stored_pick, StartsCounts, starts_has}

-- ---- the split at the first Control

pub opening_front : (os : List Event) (n later : ℕ) (k : Counts) (described : Bool) (zs : List Event) → has is_control os ≡ false → (opening (os ++ control n later k described ∷ zs) ≡ os) × (from_control (os ++ control n later k described ∷ zs) ≡ control n later k described ∷ zs)
opening_front [] n later k described zs off = (refl, refl)
opening_front (change f b before after ∷ os) n later k described zs off = let r = opening_front os n later k described zs off in (ap (λ (l : List Event). change f b before after ∷ l) r.0, r.1)
opening_front (quiet m ∷ os) n later k described zs off = let r = opening_front os n later k described zs off in (ap (λ (l : List Event). quiet m ∷ l) r.0, r.1)
opening_front (control m next counts whole ∷ os) n later k described zs off = absurd (true≢false off)
opening_front (begin m how ∷ os) n later k described zs off = let r = opening_front os n later k described zs off in (ap (λ (l : List Event). begin m how ∷ l) r.0, r.1)

pub opening_append : (xs ys : List Event) → has is_control xs ≡ true → (opening (xs ++ ys) ≡ opening xs) × (from_control (xs ++ ys) ≡ from_control xs ++ ys)
opening_append [] ys found = absurd cc
opening_append (change f b before after ∷ xs) ys found = let r = opening_append xs ys found in (ap (λ (l : List Event). change f b before after ∷ l) r.0, r.1)
opening_append (quiet m ∷ xs) ys found = let r = opening_append xs ys found in (ap (λ (l : List Event). quiet m ∷ l) r.0, r.1)
opening_append (control m next counts described ∷ xs) ys found = (refl, refl)
opening_append (begin m how ∷ xs) ys found = let r = opening_append xs ys found in (ap (λ (l : List Event). begin m how ∷ l) r.0, r.1)

opening_none : (xs ys : List Event) → has is_control xs ≡ false → opening (xs ++ ys) ≡ xs ++ opening ys
opening_none [] ys off = refl
opening_none (change f b before after ∷ xs) ys off = ap (λ (l : List Event). change f b before after ∷ l) (opening_none xs ys off)
opening_none (quiet m ∷ xs) ys off = ap (λ (l : List Event). quiet m ∷ l) (opening_none xs ys off)
opening_none (control m next counts described ∷ xs) ys off = absurd (true≢false off)
opening_none (begin m how ∷ xs) ys off = ap (λ (l : List Event). begin m how ∷ l) (opening_none xs ys off)

first_is : (os : List Event) (n later : ℕ) (k : Counts) (described : Bool) (zs : List Event) → has is_control os ≡ false → first_counts (os ++ control n later k described ∷ zs) ≡ k
first_is [] n later k described zs off = refl
first_is (change f b before after ∷ os) n later k described zs off = first_is os n later k described zs off
first_is (quiet m ∷ os) n later k described zs off = first_is os n later k described zs off
first_is (control m next counts whole ∷ os) n later k described zs off = absurd (true≢false off)
first_is (begin m how ∷ os) n later k described zs off = first_is os n later k described zs off

-- ---- counts and blocks by the chain

reached : (xs : List Event) (base : AllBlocks) (f : ℕ) → Chain (from_control xs) base → has is_control (from_control xs) ≡ true → reached_count f 0 xs ≡ length (replay (from_control xs) base f)
reached xs base f chain found =
    ap (λ (l : List Event). reached_count f 0 l) (sym (parts xs)) ∙ reached_append (opening xs) (from_control xs) f 0 ∙ reached_any (from_control xs) f _ (length (base f)) found ∙ chain_reached (from_control xs) base f chain

-- a block that was logged is there
pub logged_below : (es : List Event) (c : AllBlocks) (f b : ℕ) (x : BlockBytes) → Chain es c → last_after f b es ≡ Some x → b < length (replay es c f)
logged_below [] c f b x chain last = absurd cc
logged_below (change g k before after ∷ es) c f b x chain last =
    let le = tells_le k before (c g) chain.0 in
    let next = with_block c g k after in
    elim (option_cases (last_after f b es)) [
      | inr (y, is) ↦ logged_below es next f b y chain.1 is
      | inl none ↦
          let (at, same) = cond_some (is_at f b g k) after x (sym (ap (λ o. or_else o (cond (is_at f b g k) (Some after) None)) none) ∙ last) in
          elim (place_cases f b g k) [
            | inl place ↦
                let there : b < length (next f) = subst (λ j. b < length (next j)) place.0 (omega (arith, place.1, ap length (in_file c g k after), laid_length k after (c g) le)) in
                omega (arith, there, replay_length es next f chain.1)
            | inr apart ↦ absurd (true≢false (sym at ∙ apart.1))
          ]
    ]
logged_below (quiet n ∷ es) c f b x chain last = logged_below es c f b x chain last
logged_below (control n next counts described ∷ es) c f b x chain last = logged_below es c f b x chain.1 last
logged_below (begin n how ∷ es) c f b x chain last = absurd chain

pub told : (before : Option BlockBytes) (b : ℕ) (l : List BlockBytes) → TellsBefore b before l → b < length l → before ≡ Some (get_or l b [])
told None b l tells low = absurd (omega arith)
told (Some old) b l tells low = ap (λ x. Some x) tells.1

grown : (before : Option BlockBytes) (b : ℕ) (l : List BlockBytes) → TellsBefore b before l → FitsCount before b (length l)
grown None b l tells = tells
grown (Some old) b l tells = tells.0

-- the Image that is the last of its block, and the first
pub last_at : (es : List Event) (f b : ℕ) (x : BlockBytes) → last_after f b es ≡ Some x → (xs : List Event) × (ys : List Event) × (before : Option BlockBytes) × (es ≡ xs ++ change f b before x ∷ ys)
last_at [] f b x last = absurd cc
last_at (change g k before after ∷ es) f b x last = elim (option_cases (last_after f b es)) [
  | inr (y, is) ↦
      let same : Some y ≡ Some x = sym (ap (λ o. or_else o (cond (is_at f b g k) (Some after) None)) is) ∙ last in
      let r = last_at es f b x (is ∙ same) in
      (change g k before after ∷ r.0, r.1, r.2, ap (λ (l : List Event). change g k before after ∷ l) r.3)
  | inl none ↦
      let (at, same) = cond_some (is_at f b g k) after x (sym (ap (λ o. or_else o (cond (is_at f b g k) (Some after) None)) none) ∙ last) in
      elim (place_cases f b g k) [
        | inl place ↦ ([], es, before, λ i. change (place.0 i) (place.1 i) before (same i) ∷ es)
        | inr apart ↦ absurd (true≢false (sym at ∙ apart.1))
      ]
]
last_at (quiet n ∷ es) f b x last = let r = last_at es f b x last in (quiet n ∷ r.0, r.1, r.2, ap (λ (l : List Event). quiet n ∷ l) r.3)
last_at (control n next counts described ∷ es) f b x last = let r = last_at es f b x last in (control n next counts described ∷ r.0, r.1, r.2, ap (λ (l : List Event). control n next counts described ∷ l) r.3)
last_at (begin n how ∷ es) f b x last = let r = last_at es f b x last in (begin n how ∷ r.0, r.1, r.2, ap (λ (l : List Event). begin n how ∷ l) r.3)

pub first_at : (es : List Event) (f b : ℕ) (o : Option BlockBytes) → first_before f b es ≡ Some o → (xs : List Event) × (ys : List Event) × (after : BlockBytes) × (es ≡ xs ++ change f b o after ∷ ys) × (last_after f b xs ≡ None)
first_at [] f b o first = absurd cc
first_at (change g k before after ∷ es) f b o first = elim (place_cases f b g k) [
  | inl place ↦
      let same : before ≡ o = some_is before o (sym (ap (λ t. cond t (Some before) (first_before f b es)) place.2) ∙ first) in
      ([], es, after, (λ i. change (place.0 i) (place.1 i) (same i) after ∷ es), refl)
  | inr apart ↦
      let r = first_at es f b o (sym (ap (λ t. cond t (Some before) (first_before f b es)) apart.1) ∙ first) in
      (change g k before after ∷ r.0, r.1, r.2, ap (λ (l : List Event). change g k before after ∷ l) r.3, λ i. or_else (r.4 i) (cond (apart.1 i) (Some after) None))
]
first_at (quiet n ∷ es) f b o first = let r = first_at es f b o first in (quiet n ∷ r.0, r.1, r.2, ap (λ (l : List Event). quiet n ∷ l) r.3, r.4)
first_at (control n next counts described ∷ es) f b o first = let r = first_at es f b o first in (control n next counts described ∷ r.0, r.1, r.2, ap (λ (l : List Event). control n next counts described ∷ l) r.3, r.4)
first_at (begin n how ∷ es) f b o first = let r = first_at es f b o first in (begin n how ∷ r.0, r.1, r.2, ap (λ (l : List Event). begin n how ∷ l) r.3, r.4)

has_skip : (xs ys : List Event) (e : Event) → is_control e ≡ false → has is_control (xs ++ e ∷ ys) ≡ has is_control (xs ++ ys)
has_skip [] ys e off = ap (λ b. b || has is_control ys) off
has_skip (x ∷ xs) ys e off = ap (λ b. is_control x || b) (has_skip xs ys e off)

first_pick : (es : List Event) (s : Stored) (f b : ℕ) (x : BlockBytes) → first_before f b es ≡ Some (Some x) → choice [] es s f b ≡ x
unfolding choice
first_pick es s f b x is = ap (λ t. value None t (s f b)) is

logged_some : (xs ys : List Event) (f b : ℕ) (before : Option BlockBytes) (after : BlockBytes) → last_after f b (xs ++ change f b before after ∷ ys) ≡ None → ⊥
logged_some xs ys f b before after none =
    let both = or_none (last_after f b (change f b before after ∷ ys)) (last_after f b xs) (sym (last_append xs (change f b before after ∷ ys) f b) ∙ none) in
    let last = or_none (last_after f b ys) (cond (is_at f b f b) (Some after) None) both.0 in
    true≢false (sym (at_self f b) ∙ if_none (is_at f b f b) after last.1)

-- with no Control all stands behind the last one
pub all_after : (es : List Event) → has is_control es ≡ false → after_last is_control es ≡ es
all_after [] off = refl
all_after (e ∷ es) off = ap (λ b. cond b (after_last is_control es) (e ∷ es)) off

-- ---- from the agreement

has_starts : (es : List Event) → has is_control es ≡ true → StartsCounts (from_control es) (first_counts es)
has_starts es found = elim (from_cases es) [
  | inr starts ↦ starts
  | inl none ↦
      let off : has is_control es ≡ false = ap (λ (l : List Event). has is_control l) (sym (parts es)) ∙ has_append is_control (opening es) (from_control es) ∙ (λ i. opens es i || has is_control (none i)) in
      absurd (true≢false (sym found ∙ off))
]

pub agrees_leads : AgreesLeadsToBase
unfolding base_of
agrees_leads first live next counted agrees found =
    let os = opening live in
    let all = from_control live in
    let k = first_counts live in
    let starts = has_starts live found in
    let controlled : has is_control all ≡ true = starts_has all k starts in
    let whole : live ≡ os ++ control starts.0 starts.1 k starts.3 ∷ starts.2 = sym (parts live) ∙ ap (λ (l : List Event). os ++ l) starts.4 in
    let late : after_last is_control live ≡ after_last is_control all = ap (λ (l : List Event). after_last is_control l) (sym (parts live)) ∙ after_behind is_control os all controlled in (
      record {
        leads = λ f b x last.
            let r = last_at os f b x last in
            let split : live ≡ r.0 ++ change f b r.2 x ∷ (r.1 ++ control starts.0 starts.1 k starts.3 ∷ starts.2) =
            whole ∙ ap (λ (l : List Event). l ++ control starts.0 starts.1 k starts.3 ∷ starts.2) r.3 ∙ append_assoc r.0 (change f b r.2 x ∷ r.1) (control starts.0 starts.1 k starts.3 ∷ starts.2) in
            let none_in : has is_control (r.0 ++ r.1) ≡ false = sym (has_skip r.0 r.1 (change f b r.2 x) refl) ∙ ap (λ (l : List Event). has is_control l) (sym r.3) ∙ opens live in
            let low : b < k f = agrees.counted_first r.0 r.1 starts.2 f b r.2 x starts.0 starts.1 k starts.3 split none_in in
            let is_here : choice [] all counted f b ≡ x = elim (option_cases (first_before f b all)) [
              | inl none ↦
                  let out : last_after f b all ≡ None = first_none all f b none in
                  stored_pick all counted f b none
                  ∙ agrees.stands f b x (ap (λ (l : List Event). last_after f b l) (sym (parts live)) ∙ last_append os all f b ∙ ap (λ o. or_else o (last_after f b os)) out ∙ last)
                  (ap (λ (l : List Event). last_after f b l) late ∙ suffix_none is_control all f b out)
              | inr (o, is) ↦
                  let s = first_at all f b o is in
                  let at : live ≡ (os ++ s.0) ++ change f b o s.2 ∷ s.1 = sym (parts live) ∙ ap (λ (l : List Event). os ++ l) s.3 ∙ sym (append_assoc os s.0 (change f b o s.2 ∷ s.1)) in
                  let was : o ≡ Some x = agrees.linked (os ++ s.0) s.1 f b o s.2 x at (last_append os s.0 f b ∙ ap (λ t. or_else t (last_after f b os)) s.4 ∙ last) in
                  first_pick all counted f b x (is ∙ ap (λ t. Some t) was)
            ] in
            (omega (arith, low, content_length k (choice [] all counted) f), content_block k (choice [] all counted) f b low ∙ is_here);
        linked = λ xs ys f b before after old is last.
            agrees.linked xs (ys ++ all) f b before after old (sym (parts live) ∙ ap (λ (l : List Event). l ++ all) is ∙ append_assoc xs (change f b before after ∷ ys) all) last;
      },
      λ yes f. content_length k (choice [] all counted) f ∙ agrees.empty os starts.2 starts.0 starts.1 k starts.3 yes whole (opens live) f,
    )

-- ---- to the agreement

module _ (live : List Event) (base : AllBlocks) (counted : Stored) (sound : Sound (from_control live) base counted) (opened : OpenedFrom (opening live) base) where
  -- a split behind the first Control
  behind_split : (xs ys : List Event) (e : Event) → live ≡ xs ++ e ∷ ys → has is_control xs ≡ true → Chain (from_control xs) base × Chain (e ∷ ys) (replay (from_control xs) base)
  behind_split xs ys e is found =
      chain_split (from_control xs) (e ∷ ys) base (subst (λ (l : List Event). Chain l base) (ap (λ (l : List Event). from_control l) is ∙ (opening_append xs (e ∷ ys) found).1) sound.chain)

  same_opening : (xs ys : List Event) (e : Event) → live ≡ xs ++ e ∷ ys → has is_control xs ≡ true → opening xs ≡ opening live
  same_opening xs ys e is found = sym (ap (λ (l : List Event). opening l) is ∙ (opening_append xs (e ∷ ys) found).0)

  linked_of : (xs ys : List Event) (f b : ℕ) (before : Option BlockBytes) (after old : BlockBytes) → live ≡ xs ++ change f b before after ∷ ys → last_after f b xs ≡ Some old → before ≡ Some old
  linked_of xs ys f b before after old is last = elim (cases_Bool (has is_control xs)) [
    | inl found ↦
        let (front, back) = behind_split xs ys (change f b before after) is found in
        let joint : or_else (last_after f b (from_control xs)) (last_after f b (opening xs)) ≡ Some old = sym (last_append (opening xs) (from_control xs) f b) ∙ ap (λ (l : List Event). last_after f b l) (parts xs) ∙ last in
        elim (option_cases (last_after f b (from_control xs))) [
          | inr (y, at) ↦
              let same : y ≡ old = some_is y old (sym (ap (λ o. or_else o (last_after f b (opening xs))) at) ∙ joint) in
              told before b (replay (from_control xs) base f) back.0 (logged_below (from_control xs) base f b y front at) ∙ ap (λ x. Some x) (last_stands (from_control xs) base f b y front at ∙ same)
          | inl none ↦
              let first : last_after f b (opening live) ≡ Some old = ap (λ (l : List Event). last_after f b l) (sym (same_opening xs ys (change f b before after) is found)) ∙ sym (ap (λ o. or_else o (last_after f b (opening xs))) none) ∙ joint in
              let leads = opened.leads f b old first in
              let low : b < length (replay (from_control xs) base f) = omega (arith, leads.0, replay_length (from_control xs) base f front) in
              told before b (replay (from_control xs) base f) back.0 low ∙ ap (λ x. Some x) ((none_stands (from_control xs) base f b front none low).1 ∙ leads.1)
        ]
    | inr off ↦ opened.linked xs (opening ys) f b before after old (ap (λ (l : List Event). opening l) is ∙ opening_none xs (change f b before after ∷ ys) off) last
  ]

  grows_of : (xs ys : List Event) (f b : ℕ) (before : Option BlockBytes) (after : BlockBytes) → live ≡ xs ++ change f b before after ∷ ys → has is_control xs ≡ true → FitsCount before b (reached_count f 0 xs)
  grows_of xs ys f b before after is found =
      let (front, back) = behind_split xs ys (change f b before after) is found in
      subst (λ k. FitsCount before b k) (sym (reached xs base f front (starts_has (from_control xs) (first_counts xs) (has_starts xs found)))) (grown before b (replay (from_control xs) base f) back.0)

  recounts_of : (xs ys : List Event) (n later : ℕ) (counts : Counts) (described : Bool) → live ≡ xs ++ control n later counts described ∷ ys → has is_control xs ≡ true → (f : ℕ) → counts f ≡ reached_count f 0 xs
  recounts_of xs ys n later counts described is found f =
      let (front, back) = behind_split xs ys (control n later counts described) is found in
      back.0 f ∙ sym (reached xs base f front (starts_has (from_control xs) (first_counts xs) (has_starts xs found)))

  counts_of : (os zs : List Event) (n later : ℕ) (counts : Counts) (described : Bool) → live ≡ os ++ control n later counts described ∷ zs → has is_control os ≡ false → (f : ℕ) → counts f ≡ length (base f)
  counts_of os zs n later counts described is off f =
      (subst (λ (l : List Event). Chain l base) (ap (λ (l : List Event). from_control l) is ∙ (opening_front os n later counts described zs off).1) sound.chain).0 f

  counted_of : (xs ys zs : List Event) (f b : ℕ) (before : Option BlockBytes) (after : BlockBytes) (n later : ℕ) (counts : Counts) (described : Bool)
      → live ≡ xs ++ change f b before after ∷ (ys ++ control n later counts described ∷ zs) → has is_control (xs ++ ys) ≡ false → b < counts f
  counted_of xs ys zs f b before after n later counts described is off =
      let os : List Event = xs ++ change f b before after ∷ ys in
      let whole : live ≡ os ++ control n later counts described ∷ zs = is ∙ sym (append_assoc xs (change f b before after ∷ ys) (control n later counts described ∷ zs)) in
      let none : has is_control os ≡ false = has_skip xs ys (change f b before after) refl ∙ off in
      let front : opening live ≡ os = ap (λ (l : List Event). opening l) whole ∙ (opening_front os n later counts described zs none).0 in
      elim (option_cases (last_after f b os)) [
        | inr (x, at) ↦ omega (arith, (opened.leads f b x (ap (λ (l : List Event). last_after f b l) front ∙ at)).0, counts_of os zs n later counts described whole none f)
        | inl out ↦ absurd (logged_some xs ys f b before after out)
      ]

  stands_of : (f b : ℕ) (x : BlockBytes) → last_after f b live ≡ Some x → last_after f b (after_last is_control live) ≡ None → counted f b ≡ x
  stands_of f b x last none = elim (cases_Bool (has is_control live)) [
    | inr off ↦ absurd (none-some x (sym none ∙ ap (λ (l : List Event). last_after f b l) (all_after live off) ∙ last))
    | inl found ↦
        let all = from_control live in
        let controlled : has is_control all ≡ true = starts_has all (first_counts live) (has_starts live found) in
        let late : after_last is_control live ≡ after_last is_control all = ap (λ (l : List Event). after_last is_control l) (sym (parts live)) ∙ after_behind is_control (opening live) all controlled in
        let out : last_after f b (after_last is_control all) ≡ None = ap (λ (l : List Event). last_after f b l) (sym late) ∙ none in
        let joint : or_else (last_after f b all) (last_after f b (opening live)) ≡ Some x = sym (last_append (opening live) all f b) ∙ ap (λ (l : List Event). last_after f b l) (parts live) ∙ last in
        elim (option_cases (last_after f b all)) [
          | inr (y, at) ↦
              sound.stands f b (logged_below all base f b y sound.chain at) out ∙ last_stands all base f b y sound.chain at ∙ some_is y x (sym (ap (λ o. or_else o (last_after f b (opening live))) at) ∙ joint)
          | inl off ↦
              let leads = opened.leads f b x (sym (ap (λ o. or_else o (last_after f b (opening live))) off) ∙ joint) in
              let low : b < length (replay all base f) = omega (arith, leads.0, replay_length all base f sound.chain) in
              sound.stands f b low out ∙ (none_stands all base f b sound.chain off low).1 ∙ leads.1
        ]
  ]

pub base_agrees : BaseAgrees
base_agrees first live next counted base sound opened numbered empty = record {
  never_fall = numbered.never_fall;
  below_next = numbered.below_next;
  counted_first = counted_of live base counted sound opened;
  linked = linked_of live base counted sound opened;
  stands = stands_of live base counted sound opened;
  empty = λ xs ys n later counts described yes is off f. counts_of live base counted sound opened xs ys n later counts described is off f ∙ empty yes f;
  grows = grows_of live base counted sound opened;
  recounts = recounts_of live base counted sound opened;
}
