-- Waits of which some are marked, and what is reached by the others.
use Rattle.std.proofs.Common.{◌≡◌, ◌<◌, ◌+◌, ℕ, zero, suc, List, [], ◌∷◌, ◌++◌, Bool, true, false, not, refl, sym, ap, ◌∙◌, subst, ◌&&◌, ◌||◌, length, take, get_or, arith, replicate, Some}
use Rattle.std.specs.Prelude.{slice_set, slice_get}
use Rattle.std.specs.List.{list_any}
use Rattle.std.specs.Str.{bytes_eq}
use Rattle.std.proofs.lemmas.List.{take_more}
use Rattle.dms_locks.specs.Waits.{Wait, is_among, waits_on, Follows, leads}
use Rattle.dms_locks.specs.Following.{left, IsRipe, HasNoRipe, Joins}
use Rattle.dms_locks.proofs.Ways.{any_name, among_any, leads_itself, way, leads_along, same}

-- the first waits have none that is ripe, and the next one isn't: then these with it have none
pub none_more : (t : Wait → Bool) (ms : List Bool) (ws : List Wait) (i : ℕ) (d : Bool) (e : Wait) → i < length ms → i < length ws
    → list_any t (left (take i ms) (take i ws)) ≡ false → (not (get_or ms i d) && t (get_or ws i e)) ≡ false → list_any t (left (take (suc i) ms) (take (suc i) ws)) ≡ false
none_more t [] ws i d e low low' h k = absurd (omega arith)
none_more t (m ∷ ms) [] i d e low low' h k = absurd (omega arith)
none_more t (true ∷ ms) (w ∷ ws) zero d e low low' h k = refl
none_more t (false ∷ ms) (w ∷ ws) zero d e low low' h k = rw k refl
none_more t (true ∷ ms) (w ∷ ws) (suc i) d e low low' h k = none_more t ms ws i d e (omega arith) (omega arith) h k
none_more t (false ∷ ms) (w ∷ ws) (suc i) d e low low' h k = at (t w) (none_more t ms ws i d e (omega arith) (omega arith)) h
  where
    at : (b : Bool) → (list_any t (left (take i ms) (take i ws)) ≡ false → (not (get_or ms i d) && t (get_or ws i e)) ≡ false → list_any t (left (take (suc i) ms) (take (suc i) ws)) ≡ false)
        → (b || list_any t (left (take i ms) (take i ws))) ≡ false → (b || list_any t (left (take (suc i) ms) (take (suc i) ws))) ≡ false
    at true on h = absurd (cc)
    at false on h = on h k

-- nothing is marked
pub none_marked : (ws : List Wait) → left (replicate (length ws) false) ws ≡ ws
none_marked [] = refl
none_marked (w ∷ ws) = ap (λ (us : List Wait). w ∷ us) (none_marked ws)

or_swap : (a b c : Bool) → (a || (b || c)) ≡ (b || (a || c))
or_swap true true c = refl
or_swap true false c = refl
or_swap false b c = refl

-- a wait that is marked now stands no longer among those that are left, and else nothing changed
pub marked_out : (t : Wait → Bool) (ms : List Bool) (ws : List Wait) (i : ℕ) (w : Wait) → length ms ≡ length ws → slice_get ms i ≡ Some false → slice_get ws i ≡ Some w
    → list_any t (left ms ws) ≡ (t w || list_any t (left (slice_set ms i true) ws))
marked_out t [] ws i w e h k = absurd (cc)
marked_out t (m ∷ ms) [] i w e h k = absurd (cc)
marked_out t (m ∷ ms) (x ∷ ws) zero w e h k =
    let unmarked : m ≡ false = cc in
    let is : x ≡ w = cc in
    rw unmarked (ap (λ (y : Wait). t y || list_any t (left ms ws)) is)
marked_out t (true ∷ ms) (x ∷ ws) (suc i) w e h k = marked_out t ms ws i w (omega arith) h k
marked_out t (false ∷ ms) (x ∷ ws) (suc i) w e h k = ap (λ (b : Bool). t x || b) (marked_out t ms ws i w (omega arith) h k) ∙ or_swap (t x) (t w) _

pub marked_length : (ms : List Bool) (ws : List Wait) (i : ℕ) (w : Wait) → length ms ≡ length ws → slice_get ms i ≡ Some false → slice_get ws i ≡ Some w
    → length (left ms ws) ≡ length (left (slice_set ms i true) ws) + 1
marked_length [] ws i w e h k = absurd (cc)
marked_length (m ∷ ms) [] i w e h k = absurd (cc)
marked_length (m ∷ ms) (x ∷ ws) zero w e h k = let unmarked : m ≡ false = cc in rw unmarked (omega arith)
marked_length (true ∷ ms) (x ∷ ws) (suc i) w e h k = marked_length ms ws i w (omega arith) h k
marked_length (false ∷ ms) (x ∷ ws) (suc i) w e h k = let on = marked_length ms ws i w (omega arith) h k in omega (arith, on)

-- two tests that agree where they hold
from_both : (a b : Bool) → (a ≡ true → b ≡ true) → (b ≡ true → a ≡ true) → a ≡ b
from_both true b h k = sym (h refl)
from_both false true h k = k refl
from_both false false h k = refl

-- what is reached depends on who waits for whom alone
pub ways_same : (ws vs : List Wait) → ((a b : List ℕ) → waits_on ws a b ≡ waits_on vs a b) → (via : List (List ℕ)) (a b : List ℕ) → Follows ws a via b → Follows vs a via b
ways_same ws vs e [] a b f = f
ways_same ws vs e (q ∷ qs) a b f = (sym (e a q) ∙ f.0, ways_same ws vs e qs q b f.1)

pub leads_same : (ws vs : List Wait) → ((a b : List ℕ) → waits_on ws a b ≡ waits_on vs a b) → (a b : List ℕ) → leads ws a b ≡ leads vs a b
leads_same ws vs e a b =
    from_both (leads ws a b) (leads vs a b)
    (λ l. let r = way ws a b l in leads_along vs r.via a b (ways_same ws vs e r.via a b r.follows))
    (λ l. let r = way vs a b l in leads_along ws r.via a b (ways_same vs ws (λ x y. sym (e x y)) r.via a b r.follows))

pub any_same : (p q : List ℕ → Bool) → ((x : List ℕ) → p x ≡ q x) → (xs : List (List ℕ)) → list_any p xs ≡ list_any q xs
any_same p q e [] = refl
any_same p q e (x ∷ xs) = rw (e x) (ap (λ (b : Bool). q x || b) (any_same p q e xs))

pub any_either : (p q : List ℕ → Bool) (c : Bool) (xs : List (List ℕ)) → list_any (λ x. p x || (q x && c)) xs ≡ (list_any p xs || (list_any q xs && c))
any_either p q true [] = refl
any_either p q false [] = refl
any_either p q c (x ∷ xs) = rw (any_either p q c xs) (mixed (p x) (q x) c (list_any p xs) (list_any q xs))
  where
    mixed : (a b c d e : Bool) → ((a || (b && c)) || (d || (e && c))) ≡ ((a || d) || ((b || e) && c))
    mixed true b c d e = refl
    mixed false true true true e = refl
    mixed false true true false e = refl
    mixed false true false true e = refl
    mixed false true false false true = refl
    mixed false true false false false = refl
    mixed false false c true e = refl
    mixed false false c false e = refl

any_behind : (p : List ℕ → Bool) (xs ys : List (List ℕ)) → list_any p (xs ++ ys) ≡ (list_any p xs || list_any p ys)
any_behind p [] ys = refl
any_behind p (x ∷ xs) ys = rw (any_behind p xs ys) (grouped (p x) (list_any p xs) (list_any p ys))
  where
    grouped : (a b c : Bool) → (a || (b || c)) ≡ ((a || b) || c)
    grouped true b c = refl
    grouped false b c = refl

-- who was reached leads on
reached_leads : (ws : List Wait) (names : List (List ℕ)) (b : List ℕ) → is_among names b ≡ true → list_any (λ q. leads ws q b) names ≡ true
reached_leads ws [] b h = absurd (cc)
reached_leads ws (x ∷ xs) b h = at (bytes_eq x b) refl (reached_leads ws xs b) h
  where
    at : (t : Bool) → bytes_eq x b ≡ t → (is_among xs b ≡ true → list_any (λ q. leads ws q b) xs ≡ true) → (t || is_among xs b) ≡ true → (leads ws x b || list_any (λ q. leads ws q b) xs) ≡ true
    at true is on h = let l : leads ws x b ≡ true = subst (λ (y : List ℕ). leads ws y b ≡ true) (sym (same x b is)) (leads_itself ws b) in rw l refl
    at false is on h = last (leads ws x b) (on h)
      where
        last : (c : Bool) → list_any (λ q. leads ws q b) xs ≡ true → (c || list_any (λ q. leads ws q b) xs) ≡ true
        last true e = refl
        last false e = e

-- the first wait is followed: those for which it waits are reached beside the others
first_followed : (w : Wait) (ws : List Wait) (names : List (List ℕ)) (b : List ℕ) → is_among names w.program ≡ true
    → list_any (λ q. leads (w ∷ ws) q b) names ≡ list_any (λ q. leads ws q b) (names ++ w.who)
first_followed w ws names b h =
    any_either (λ q. leads ws q b) (λ q. leads ws q w.program) (list_any (λ q. leads ws q b) w.who) names
    ∙ rw (reached_leads ws names w.program h) (sym (any_behind (λ q. leads ws q b) names w.who))

-- a wait of a reached program is marked
pub followed : (ms : List Bool) (ws : List Wait) (i : ℕ) (w : Wait) (names : List (List ℕ)) (b : List ℕ) → length ms ≡ length ws → slice_get ms i ≡ Some false → slice_get ws i ≡ Some w → is_among names w.program ≡ true
    → list_any (λ q. leads (left ms ws) q b) names ≡ list_any (λ q. leads (left (slice_set ms i true) ws) q b) (names ++ w.who)
followed ms ws i w names b e h k on =
    let rest = left (slice_set ms i true) ws in
    any_same (λ q. leads (left ms ws) q b) (λ q. leads (w ∷ rest) q b) (λ x. leads_same (left ms ws) (w ∷ rest) (λ a q. marked_out (λ v. bytes_eq v.program a && is_among v.who q) ms ws i w e h k) x b) names
    ∙ first_followed w rest names b on

pub or_parts : (a b : Bool) → (a || b) ≡ false → (a ≡ false) × (b ≡ false)
or_parts true b h = absurd (cc)
or_parts false b h = (refl, h)

-- where no wait is of a reached program, nothing more is reached
pub all_followed : (ws : List Wait) (names : List (List ℕ)) (b : List ℕ) → HasNoRipe names ws → list_any (λ q. leads ws q b) names ≡ is_among names b
all_followed [] names b h = refl
all_followed (w ∷ ws) names b h =
    let parts = or_parts (is_among names w.program) (list_any (λ v. is_among names v.program) ws) h in
    any_either (λ q. leads ws q b) (λ q. leads ws q w.program) (list_any (λ q. leads ws q b) w.who) names
    ∙ rw (all_followed ws names w.program parts.1) (rw parts.0 (none_or (list_any (λ q. leads ws q b) names) ∙ all_followed ws names b parts.1))
  where
    none_or : (c : Bool) → (c || (false && list_any (λ q. leads ws q b) w.who)) ≡ c
    none_or true = refl
    none_or false = refl

-- what passes one of two lists with the same names passes one of the other
same_names : (p : List ℕ → Bool) (xs ys : List (List ℕ)) → ((q : List ℕ) → is_among xs q ≡ is_among ys q) → list_any p xs ≡ list_any p ys
same_names p xs ys e =
    from_both (list_any p xs) (list_any p ys)
    (λ h. any_name p xs (list_any p ys ≡ true) h (λ q at on. among_any p ys q (sym (e q) ∙ at) on))
    (λ h. any_name p ys (list_any p xs ≡ true) h (λ q at on. among_any p xs q (e q ∙ at) on))

joined_any : (p : List ℕ → Bool) (names olds more : List (List ℕ)) → Joins names olds more → list_any p names ≡ list_any p (olds ++ more)
joined_any p names olds more j = same_names p names (olds ++ more) (λ q. j q ∙ sym (any_behind (λ x. bytes_eq x q) olds more))

-- a name that is there already
pub already : (names : List (List ℕ)) (name : List ℕ) → is_among names name ≡ true → Joins names names (name ∷ [])
already names name there = λ q. by q (bytes_eq name q) refl
  where
    no_more : (a : Bool) → a ≡ (a || (false || false))
    no_more true = refl
    no_more false = refl

    by : (q : List ℕ) (b : Bool) → bytes_eq name q ≡ b → is_among names q ≡ (is_among names q || (b || false))
    by q true e = let here : is_among names q ≡ true = ap (is_among names) (sym (same name q e)) ∙ there in rw here refl
    by q false e = no_more (is_among names q)

pub put_behind : (news olds : List (List ℕ)) (name : List ℕ) → news ≡ olds ++ name ∷ [] → Joins news olds (name ∷ [])
put_behind news olds name is = λ q. ap (λ (ns : List (List ℕ)). is_among ns q) is ∙ any_behind (λ x. bytes_eq x q) olds (name ∷ [])

pub joins_more : (nows thens olds : List (List ℕ)) (more : List (List ℕ)) (i : ℕ) (name d : List ℕ) → i < length more → Joins thens olds (take i more) → Joins nows thens (name ∷ []) → name ≡ get_or more i d → Joins nows olds (take (i + 1) more)
joins_more nows thens olds more i name d low j k is = λ q.
    k q ∙ ap (λ (b : Bool). b || is_among (name ∷ []) q) (j q)
    ∙ grouped (is_among olds q) (is_among (take i more) q) (is_among (name ∷ []) q)
    ∙ ap (λ (b : Bool). is_among olds q || b) (sym (ap (λ (ns : List (List ℕ)). is_among ns q) (take_more more i d low ∙ ap (λ (n : List ℕ). take i more ++ n ∷ []) (sym is)) ∙ any_behind (λ x. bytes_eq x q) (take i more) (name ∷ [])))
  where
    grouped : (a b c : Bool) → ((a || b) || c) ≡ (a || (b || c))
    grouped true b c = refl
    grouped false b c = refl

pub joins_none : (names : List (List ℕ)) → Joins names names []
joins_none names = λ q. last (is_among names q)
  where
    last : (a : Bool) → a ≡ (a || false)
    last true = refl
    last false = refl

-- the search begins with these, nothing marked
pub begun : (ws : List Wait) (who names olds : List (List ℕ)) (ms : List Bool) (b : List ℕ) → ms ≡ replicate (length ws) false → olds ≡ [] → Joins names olds who
    → list_any (λ q. leads (left ms ws) q b) names ≡ list_any (λ q. leads ws q b) who
begun ws who names olds ms b e none j =
    joined_any (λ q. leads (left ms ws) q b) names olds who j ∙ rw none (rw e (rw (none_marked ws) refl))

-- and it ends where no wait is ripe
pub none_left : (rest ws : List Wait) (names who : List (List ℕ)) (b : List ℕ) → HasNoRipe names rest → list_any (λ q. leads rest q b) names ≡ list_any (λ q. leads ws q b) who
    → is_among names b ≡ list_any (λ q. leads ws q b) who
none_left rest ws names who b none same = sym (all_followed rest names b none) ∙ same

some_at : (ws : List Wait) (i : ℕ) (C : Type 0) → i < length ws → ((w : Wait) → slice_get ws i ≡ Some w → C) → C
some_at [] i C low k = absurd (omega arith)
some_at (w ∷ ws) zero C low k = k w refl
some_at (w ∷ ws) (suc i) C low k = some_at ws i C (omega arith) k

pub one_fewer : (ms : List Bool) (ws : List Wait) (i : ℕ) (names : List (List ℕ)) → length ms ≡ length ws → IsRipe names ms ws i → length (left (slice_set ms i true) ws) < length (left ms ws)
one_fewer ms ws i names e r = some_at ws i (length (left (slice_set ms i true) ws) < length (left ms ws)) r.place (λ w is. let on = marked_length ms ws i w e r.unmarked is in omega (arith, on))

pub one_followed : (ms : List Bool) (ws : List Wait) (i : ℕ) (names nows : List (List ℕ)) (b : List ℕ) (w : Wait) → Joins nows names w.who → length ms ≡ length ws → IsRipe names ms ws i → slice_get ws i ≡ Some w
    → list_any (λ q. leads (left (slice_set ms i true) ws) q b) nows ≡ list_any (λ q. leads (left ms ws) q b) names
one_followed ms ws i names nows b w k e r is = joined_any (λ q. leads (left (slice_set ms i true) ws) q b) nows names w.who k ∙ sym (followed ms ws i w names b e r.unmarked is (r.ripe w is))

pub still_long : (ms : List Bool) (i : ℕ) → length (slice_set ms i true) ≡ length ms
still_long [] i = refl
still_long (m ∷ ms) zero = refl
still_long (m ∷ ms) (suc i) = let on = still_long ms i in omega (arith, on)

pub at_place : (ws : List Wait) (i : ℕ) (w d : Wait) → i < length ws → w ≡ get_or ws i d → slice_get ws i ≡ Some w
at_place [] i w d low e = absurd (omega arith)
at_place (x ∷ ws) zero w d low e = ap Some (sym e)
at_place (x ∷ ws) (suc i) w d low e = at_place ws i w d (omega arith) e
