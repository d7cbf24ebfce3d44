-- The tests of entries, and the rules that they are.
use Rattle.std.proofs.Common.{◌≡◌, ℕ, ◌⊎◌, inl, inr, Bool, true, false, cond, List, [], ◌∷◌, ◌++◌, Option, Some, None, refl, sym, ap, subst, ◌∙◌, append_assoc}
use Rattle.std.specs.Prelude.{◌&&◌, ◌||◌, not}
use Rattle.std.proofs.lemmas.Bool.{and_parts, and_from, true≢false}
use Rattle.dms_history.specs.Events.{BlockBytes, Counts, How, Event, change, quiet, control, begin}
use Rattle.dms_history.specs.Lists.{has, after_last}
use Rattle.dms_history.specs.Ranges.{Logged, event, range, changes_of, changes_from, all_changes, is_control_logged, is_image}
use Rattle.dms_history.specs.LawsOfRanges.{HasImages}
use Rattle.dms_history.specs.EntryEvents.{ends_restore_logged, BeginsAlone}
use Rattle.dms_flaws.specs.Firsts.{all_pass}
use Rattle.dms_flaws.specs.Rules.{keeps_rules}
use Rattle.dms_flaws.specs.Entries.{has_image, keeps_live, begins, last_begins, stands_alone}
use Rattle.dms_flaws.proofs.Passing.{pass_at, pass_by}

-- ---- Begins

last_push : (t : Bool) (us : List Logged) (x : Logged) → last_begins t (us ++ x ∷ []) ≡ begins x
last_push t [] x = refl
last_push t (u ∷ us) x = last_push (begins u) us x

unless : (a b : Bool) → a ≡ true → (not a || b) ≡ true → b ≡ true
unless true b on h = h
unless false b on h = absurd (true≢false (sym on))

pub alone_of : (xs : List Logged) → all_pass stands_alone [] xs ≡ true → BeginsAlone xs
alone_of xs all us vs m how x is =
    unless (last_begins false (us ++ event (begin m how) ∷ [])) (ends_restore_logged x) (last_push false us (event (begin m how)))
    (pass_at stands_alone [] (us ++ event (begin m how) ∷ []) vs x (subst (λ (l : List Logged). all_pass stands_alone [] l ≡ true) (is ∙ sym (append_assoc us (event (begin m how) ∷ []) (x ∷ vs))) all))

record EndsSo (us : List Logged) : Type 0 where
  before : List Logged
  m : ℕ
  how : How
  is : us ≡ before ++ event (begin m how) ∷ []

begin_is : (x : Logged) → begins x ≡ true → EndsSo (x ∷ [])
begin_is (event (change f b before after)) h = absurd (true≢false (sym h))
begin_is (event (quiet n)) h = absurd (true≢false (sym h))
begin_is (event (control n next counts described)) h = absurd (true≢false (sym h))
begin_is (event (begin n how)) h = record { before = []; m = n; how = how; is = refl }
begin_is (range f b place bytes) h = absurd (true≢false (sym h))

further : (u : Logged) (us : List Logged) → EndsSo us → EndsSo (u ∷ us)
further u us e = record { before = u ∷ e.before; m = e.m; how = e.how; is = ap (λ (l : List Logged). u ∷ l) e.is }

ends_so : (u : Logged) (us : List Logged) → last_begins (begins u) us ≡ true → EndsSo (u ∷ us)
ends_so u [] h = begin_is u h
ends_so u (v ∷ us) h = further u (v ∷ us) (ends_so v us h)

ends_of : (us : List Logged) → last_begins false us ≡ true → EndsSo us
ends_of [] h = absurd (true≢false (sym h))
ends_of (u ∷ us) h = ends_so u us h

alone_test : (xs us vs : List Logged) (x : Logged) → BeginsAlone xs → xs ≡ us ++ x ∷ vs → (t : Bool) → last_begins false us ≡ t → (not t || ends_restore_logged x) ≡ true
alone_test xs us vs x alone is false off = refl
alone_test xs us vs x alone is true on =
    let e = ends_of us on in
    alone e.before vs e.m e.how x (is ∙ ap (λ (l : List Logged). l ++ x ∷ vs) e.is ∙ append_assoc e.before (event (begin e.m e.how) ∷ []) (x ∷ vs))

pub of_alone : (xs : List Logged) → BeginsAlone xs → all_pass stands_alone [] xs ≡ true
of_alone xs alone = pass_by stands_alone [] xs (λ us vs x is. alone_test xs us vs x alone is (last_begins false us) refl)

-- ---- changes

more : (xs ys : List Logged) (acc : List Event) → changes_from acc (xs ++ ys) ≡ changes_from (changes_from acc xs) ys
more [] ys acc = refl
more (x ∷ xs) ys acc = more xs ys (acc ++ changes_of acc x)

push : (xs : List Logged) (x : Logged) → all_changes (xs ++ x ∷ []) ≡ all_changes xs ++ changes_of (all_changes xs) x
unfolding all_changes
push xs x = more xs (x ∷ []) []

-- the changes that come behind some
behind : List Event → List Logged → List Event
behind acc [] = []
behind acc (x ∷ xs) = changes_of acc x ++ behind (acc ++ changes_of acc x) xs

append_none : (l : List Event) → l ++ [] ≡ l
append_none [] = refl
append_none (e ∷ l) = ap (λ (k : List Event). e ∷ k) (append_none l)

behind_are : (acc : List Event) (xs : List Logged) → changes_from acc xs ≡ acc ++ behind acc xs
unfolding behind
behind_are acc [] = sym (append_none acc)
behind_are acc (x ∷ xs) = behind_are (acc ++ changes_of acc x) xs ∙ append_assoc acc (changes_of acc x) (behind (acc ++ changes_of acc x) xs)

and_assoc : (a b c : Bool) → (a && (b && c)) ≡ ((a && b) && c)
and_assoc true b c = refl
and_assoc false b c = refl

pass_append : (ok : List Event → Event → Bool) (before us vs : List Event) → all_pass ok before (us ++ vs) ≡ (all_pass ok before us && all_pass ok (before ++ us) vs)
pass_append ok before [] vs = ap (λ (l : List Event). all_pass ok l vs) (sym (append_none before))
pass_append ok before (u ∷ us) vs =
    ap (λ t. ok before u && t) (pass_append ok (before ++ u ∷ []) us vs ∙ ap (λ (l : List Event). all_pass ok (before ++ u ∷ []) us && all_pass ok l vs) (append_assoc before (u ∷ []) us))
    ∙ and_assoc (ok before u) (all_pass ok (before ++ u ∷ []) us) (all_pass ok (before ++ u ∷ us) vs)

module _ (first : Bool) (next : ℕ) (opening : Counts) where
  abbrev ok : List Event → Event → Bool
  ok = keeps_rules first next opening

  abbrev live : List Logged → Logged → Bool
  live = keeps_live first next opening

  rules_from : (before xs : List Logged) → all_pass live before xs ≡ true → all_pass ok (all_changes before) (behind (all_changes before) xs) ≡ true
  unfolding behind
  rules_from before [] all = refl
  rules_from before (x ∷ xs) all =
      let acc = all_changes before in
      let both = and_parts (live before x) (all_pass live (before ++ x ∷ []) xs) all in
      let here = and_parts (has_image before x) (all_pass ok acc (changes_of acc x)) both.0 in
      let rest = subst (λ (l : List Event). all_pass ok l (behind l xs) ≡ true) (push before x) (rules_from (before ++ x ∷ []) xs both.1) in
      pass_append ok acc (changes_of acc x) (behind (acc ++ changes_of acc x) xs) ∙ and_from (all_pass ok acc (changes_of acc x)) _ here.1 rest

  pub rules_of : (xs : List Logged) → all_pass live [] xs ≡ true → all_pass ok [] (all_changes xs) ≡ true
  unfolding all_changes
  rules_of xs all = ap (λ (l : List Event). all_pass ok [] l) (behind_are [] xs) ∙ rules_from [] xs all

  has_either : (a b c : Bool) → (a ≡ true) ⊎ (b ≡ true) → (not (a || b) || c) ≡ true → c ≡ true
  has_either true b c either h = h
  has_either false true c either h = h
  has_either false false c (inl on) h = absurd (true≢false (sym on))
  has_either false false c (inr on) h = absurd (true≢false (sym on))

  pub images_of : (xs : List Logged) → all_pass live [] xs ≡ true → HasImages xs
  images_of xs all = record {
    images = λ us vs f b place bytes is either.
        has_either (has (is_image f b) us) (has is_control_logged us) (has (is_image f b) (after_last is_control_logged us)) either
        (and_parts (has_image us (range f b place bytes)) _ (pass_at live [] us vs (range f b place bytes) (subst (λ (l : List Logged). all_pass live [] l ≡ true) is all))).0;
  }

  image_test : (xs us vs : List Logged) (x : Logged) → HasImages xs → xs ≡ us ++ x ∷ vs → has_image us x ≡ true
  image_test xs us vs (event e) images is = refl
  image_test xs us vs (range f b place bytes) images is = by (has (is_image f b) us) refl (has is_control_logged us) refl
    where
      by : (s : Bool) → has (is_image f b) us ≡ s → (t : Bool) → has is_control_logged us ≡ t → (not (s || t) || has (is_image f b) (after_last is_control_logged us)) ≡ true
      by true one t two = images.images us vs f b place bytes is (inl one)
      by false one true two = images.images us vs f b place bytes is (inr two)
      by false one false two = refl

  pass_of : (xs : List Logged) → HasImages xs → (before ys : List Logged) → before ++ ys ≡ xs → all_pass ok (all_changes before) (behind (all_changes before) ys) ≡ true → all_pass live before ys ≡ true
  unfolding behind
  pass_of xs images before [] is all = refl
  pass_of xs images before (y ∷ ys) is all =
      let acc = all_changes before in
      let both = and_parts (all_pass ok acc (changes_of acc y)) (all_pass ok (acc ++ changes_of acc y) (behind (acc ++ changes_of acc y) ys)) (sym (pass_append ok acc (changes_of acc y) (behind (acc ++ changes_of acc y) ys)) ∙ all) in
      and_from (live before y) (all_pass live (before ++ y ∷ []) ys)
      (and_from (has_image before y) (all_pass ok acc (changes_of acc y)) (image_test xs before ys y images (sym is)) both.0)
      (pass_of xs images (before ++ y ∷ []) ys (append_assoc before (y ∷ []) ys ∙ is) (subst (λ (l : List Event). all_pass ok l (behind l ys) ≡ true) (sym (push before y)) both.1))

  pub of_rules : (xs : List Logged) → HasImages xs → all_pass ok [] (all_changes xs) ≡ true → all_pass live [] xs ≡ true
  unfolding all_changes
  of_rules xs images all = pass_of xs images [] xs refl (ap (λ (l : List Event). all_pass ok [] l) (sym (behind_are [] xs)) ∙ all)
