-- A sum over all records, after one of them is put or taken away.
use Rattle.std.proofs.Common.{◌≡◌, ◌∙◌, ◌+◌, ℕ, List, [], ◌∷◌, Bool, true, false, cond, Some, None, refl, sym, ap, arith}
use Rattle.std.specs.Prelude.{T, sum_by}
use Rattle.std.specs.Ordering.{eq_by_cmp, is_eq, is_lt}
use Rattle.std.specs.declared.cmp.Ordering.{Ordering}
use Rattle.std.specs.declared.cmp.Ordering.TheVariants.{Less, Equal, Greater}
use Rattle.std.specs.declared.option.Option.{Option}
use Rattle.std.specs.FinMap.{entries, entries-insert, entries_sorted, find, get, get-entries, get-insert, get-remove, insert, is_sorted, put, remove, same_map}
use Rattle.std.specs.FinMap.Entries.{below_all, by_order}
use Rattle.std.proofs.lemmas.List.Sums.{sum_by-cons}
use Rattle.dms_desc.specs.declared.record.Record.{Record}
use Rattle.dms_model.specs.Db.{Place, Records, place_cmp}
use Rattle.dms_model.specs.Fresh.{first_true, second_true}
use Rattle.dms_model.specs.Places.{itself, place_is, places_same, places_total}

less_of : (o : Ordering) → T (is_lt o) → o ≡ Less
less_of Less h = refl
less_of Equal h = absurd h
less_of Greater h = absurd h

-- what a count says of a record that stands there, 0 where none does
abbrev pub of_opt : (Record → ℕ) → Option Record → ℕ
of_opt f None = 0
of_opt f (Some r) = f r

none_behind : (k x : Place) (es : List (Place × Record)) → place_cmp k x ≡ Less → T (below_all place_cmp x es) → find place_cmp k es ≡ None
none_behind k x [] p h = refl
none_behind k x (e ∷ es) p h =
    let q : place_cmp k e.0 ≡ Less = places_total.trans k x e.0 p (less_of _ (first_true _ _ h)) in
    ap (λ r. cond (is_eq r) (Some e.1) (find place_cmp k es)) q ∙ none_behind k x es p (second_true _ _ h)

module _ (f : Place × Record → ℕ) (k : Place) (v : Record) where
  put_turn : (o : Ordering) (e : Place × Record) (es : List (Place × Record)) → place_cmp k e.0 ≡ o → T (is_sorted place_cmp (e ∷ es))
      → sum_by f (put place_cmp k v es) + of_opt (λ r. f (k, r)) (find place_cmp k es) ≡ sum_by f es + f (k, v)
      → sum_by f (by_order o ((k, v) ∷ e ∷ es) ((e.0, v) ∷ es) (e ∷ put place_cmp k v es)) + of_opt (λ r. f (k, r)) (cond (is_eq o) (Some e.1) (find place_cmp k es)) ≡ sum_by f (e ∷ es) + f (k, v)
  put_turn Less e es p order rest =
      let none : of_opt (λ r. f (k, r)) (find place_cmp k es) ≡ 0 = ap (of_opt (λ r. f (k, r))) (none_behind k e.0 es p (first_true _ _ order)) in
      omega (arith, sum_by-cons f (k, v) (e ∷ es), none)
  put_turn Equal e es p order rest =
      let same : k ≡ e.0 = places_same k e.0 p in
      let new : f (k, v) ≡ f (e.0, v) = ap (λ (q : Place). f (q, v)) same in
      let old : f (k, e.1) ≡ f e = ap (λ (q : Place). f (q, e.1)) same in
      omega (arith, sum_by-cons f (e.0, v) es, sum_by-cons f e es, new, old)
  put_turn Greater e es p order rest = omega (arith, rest, sum_by-cons f e (put place_cmp k v es), sum_by-cons f e es)

  put_sum : (es : List (Place × Record)) → T (is_sorted place_cmp es) → sum_by f (put place_cmp k v es) + of_opt (λ r. f (k, r)) (find place_cmp k es) ≡ sum_by f es + f (k, v)
  put_sum [] order = omega (arith, sum_by-cons f (k, v) [])
  put_sum (e ∷ es) order = put_turn (place_cmp k e.0) e es refl order (put_sum es (second_true _ _ order))

  pub insert_sum : (m : Records) → sum_by f (entries (insert m k v)) + of_opt (λ r. f (k, r)) (get m k) ≡ sum_by f (entries m) + f (k, v)
  insert_sum m =
      (λ i. sum_by f (entries-insert places_total m k v i) + of_opt (λ r. f (k, r)) (get-entries m k i))
      ∙ put_sum (entries m) (entries_sorted m)

-- ---- a sum over all records, after one of them is taken away

module _ (f : Place × Record → ℕ) (k : Place) where
  gone_get : (m : Records) → get (remove m k) k ≡ None
  gone_get m = get-remove places_total m k k ∙ ap (λ b. cond b None (get m k)) (itself k)

  back_at : (m : Records) (r : Record) (q : Place) (b : Bool) → get m k ≡ Some r → eq_by_cmp place_cmp q k ≡ b → cond b (Some r) (cond b None (get m q)) ≡ get m q
  back_at m r q true at h = sym (ap (get m) (place_is q k h) ∙ at)
  back_at m r q false at h = refl

  -- taken away and put back
  put_back : (m : Records) (r : Record) → get m k ≡ Some r → insert (remove m k) k r ≡ m
  put_back m r at =
      same_map places_total places_same _ _ (λ q.
      get-insert places_total (remove m k) k r q ∙ ap (λ o. cond (eq_by_cmp place_cmp q k) (Some r) o) (get-remove places_total m k q)
      ∙ back_at m r q (eq_by_cmp place_cmp q k) at refl)

  none_at : (m : Records) (q : Place) (b : Bool) → get m k ≡ None → eq_by_cmp place_cmp q k ≡ b → cond b None (get m q) ≡ get m q
  none_at m q true none h = sym (ap (get m) (place_is q k h) ∙ none)
  none_at m q false none h = refl

  none_taken : (m : Records) → get m k ≡ None → remove m k ≡ m
  none_taken m none = same_map places_total places_same _ _ (λ q. get-remove places_total m k q ∙ none_at m q (eq_by_cmp place_cmp q k) none refl)

  pub remove_sum : (m : Records) → sum_by f (entries (remove m k)) + of_opt (λ r. f (k, r)) (get m k) ≡ sum_by f (entries m)
  remove_sum m = by (get m k) refl
    where
      by : (o : Option Record) → get m k ≡ o → sum_by f (entries (remove m k)) + of_opt (λ r. f (k, r)) o ≡ sum_by f (entries m)
      by None none = omega (arith, ap (λ (x : Records). sum_by f (entries x)) (none_taken m none))
      by (Some r) at =
          let sum = insert_sum f k r (remove m k) in
          let gone : of_opt (λ x. f (k, x)) (get (remove m k) k) ≡ 0 = ap (of_opt (λ x. f (k, x))) (gone_get m) in
          let back : sum_by f (entries (insert (remove m k) k r)) ≡ sum_by f (entries m) = ap (λ (x : Records). sum_by f (entries x)) (put_back m r at) in
          omega (arith, sum, gone, back)
