-- What the calls of the cache make of what is held and of the order.
use Rattle.std.proofs.Common.{◌≡◌, ◌-◌, ◌<◌, ◌++◌, ℕ, List, [], ◌∷◌, Bool, true, false, not, filter, if◌then◌else◌, cond, eqb, Some, None, refl, sym, ap, ◌∙◌, subst, arith, length, take, append-nil}
use Rattle.std.specs.Prelude.{◌||◌, nat_lt, is_some, option_map, reverse}
use Rattle.std.specs.declared.option.Option.{Option}
use Rattle.std.specs.List.{AllByRecursion, IsDistinct}
use Rattle.std.specs.Option.{option_map_or}
use Rattle.std.specs.Map.{keys_of, lookup, lookup_entry, remove_entry}
use Rattle.std.proofs.lemmas.List.{reverse-append, take_all}
use Rattle.std.proofs.lemmas.List.Elements.{filter-append}
use Rattle.std.proofs.lemmas.Bool.Decides.{nat_tests}
use Rattle.std.proofs.lemmas.Bool.{and_parts}
use Rattle.lru.specs.LruCache.{LruCache, promoted, put_entries}
use Rattle.dms_block.specs.declared.block.BlockId.{BlockId}
use Rattle.dms_pool.specs.declared.frame.BufferFrame.{BufferFrame}
use Rattle.dms_pool.specs.declared.frame.FrameKey.{FrameKey}
use Rattle.dms_pool.specs.Entries.{Entries, id_of, ids_of, is_id, is_key, key_of, same_key}
use Rattle.dms_pool.specs.Held.{move_to_last}

pub same_id : (a b : BlockId) → is_id a b ≡ true → b ≡ a
same_id a b h =
    let parts = and_parts (eqb a.file b.file) (eqb a.block b.block) h in
    let p : b.file ≡ a.file = grind (arith, nat_tests, parts.0) in
    let q : b.block ≡ a.block = grind (arith, nat_tests, parts.1) in
    λ i. record { file = p i; block = q i }

-- a block that isn't this one is none of its keys
pub apart_on : (k id x : BlockId) → is_id k id ≡ false → is_id id x ≡ true → is_id k x ≡ false
apart_on k id x off on = ap (is_id k) (same_id id x on) ∙ off

-- the lookups

removed_turn : (t : Bool) (k : BlockId) (e : FrameKey × BufferFrame) (es rest : Entries) → (t ≡ true → is_key k e.0 ≡ false) → lookup (is_key k) rest ≡ lookup (is_key k) es
    → lookup (is_key k) (cond t es (e ∷ rest)) ≡ cond (is_key k e.0) (Some e.1) (lookup (is_key k) es)
removed_turn true k e es rest off same = ap (λ b. cond b (Some e.1) (lookup (is_key k) es)) (sym (off refl))
removed_turn false k e es rest off same = ap (cond (is_key k e.0) (Some e.1)) same

lookup_removed : (k id : BlockId) (es : Entries) → is_id k id ≡ false → lookup (is_key k) (remove_entry (is_key id) es) ≡ lookup (is_key k) es
lookup_removed k id [] off = refl
lookup_removed k id (e ∷ es) off = removed_turn (is_key id e.0) k e es (remove_entry (is_key id) es) (apart_on k id (id_of e.0) off) (lookup_removed k id es off)

front_turn : (t : Bool) (v : BufferFrame) (o r : Option BufferFrame) → (t ≡ false → o ≡ r) → cond t (Some v) o ≡ (if t then Some v else r)
front_turn true v o r same = refl
front_turn false v o r same = same refl

-- the entries with this block first
abbrev pub front : BlockId → BufferFrame → Entries → Entries
front id v es = (key_of id, v) ∷ remove_entry (is_key id) es

pub front_lookup : (k id : BlockId) (v : BufferFrame) (es : Entries) → lookup (is_key k) (front id v es) ≡ (if is_id k id then Some v else lookup (is_key k) es)
front_lookup k id v es = front_turn (is_id k id) v (lookup (is_key k) (remove_entry (is_key id) es)) (lookup (is_key k) es) (lookup_removed k id es)

-- the order

apart_all : (id : BlockId) (es : Entries) → AllByRecursion (λ y. is_key id y ≡ false) (keys_of es) → filter (λ x. not (is_id id x)) (ids_of es) ≡ ids_of es
apart_all id [] all = refl
apart_all id (e ∷ es) all =
    ap (λ b. cond (not b) (id_of e.0 ∷ filter (λ x. not (is_id id x)) (ids_of es)) (filter (λ x. not (is_id id x)) (ids_of es))) all.0
    ∙ ap (λ (l : List BlockId). id_of e.0 ∷ l) (apart_all id es all.1)

ids_turn : (t : Bool) (id : BlockId) (e : FrameKey × BufferFrame) (es rest : Entries) → is_key id e.0 ≡ t → AllByRecursion (λ y. same_key e.0 y ≡ false) (keys_of es)
    → ids_of rest ≡ filter (λ x. not (is_id id x)) (ids_of es)
    → ids_of (cond t es (e ∷ rest)) ≡ cond (not t) (id_of e.0 ∷ filter (λ x. not (is_id id x)) (ids_of es)) (filter (λ x. not (is_id id x)) (ids_of es))
ids_turn true id e es rest on all same = sym (apart_all id es (subst (λ (x : BlockId). AllByRecursion (λ y. is_key x y ≡ false) (keys_of es)) (same_id id (id_of e.0) on) all))
ids_turn false id e es rest on all same = ap (λ (l : List BlockId). id_of e.0 ∷ l) same

ids_removed : (id : BlockId) (es : Entries) → IsDistinct same_key (keys_of es) → ids_of (remove_entry (is_key id) es) ≡ filter (λ x. not (is_id id x)) (ids_of es)
unfolding IsDistinct
ids_removed id [] distinct = refl
ids_removed id (e ∷ es) distinct = ids_turn (is_key id e.0) id e es (remove_entry (is_key id) es) refl distinct.0 (ids_removed id es distinct.1)

pub reverse_front : {X : Type 0} (x : X) (xs : List X) → reverse (x ∷ xs) ≡ reverse xs ++ x ∷ []
reverse_front x xs = reverse-append (x ∷ []) xs

reverse_turn : {X : Type 0} (t : Bool) (x : X) (l r : List X) → l ≡ reverse r → l ++ cond t (x ∷ []) [] ≡ reverse (cond t (x ∷ r) r)
reverse_turn true x l r is = ap (λ ys. ys ++ x ∷ []) is ∙ sym (reverse_front x r)
reverse_turn false x l r is = append-nil l ∙ is

filter_reverse : {X : Type 0} (p : X → Bool) (xs : List X) → filter p (reverse xs) ≡ reverse (filter p xs)
filter_reverse p [] = refl
filter_reverse p (x ∷ xs) = ap (filter p) (reverse_front x xs) ∙ filter-append p (reverse xs) (x ∷ []) ∙ reverse_turn (p x) x (filter p (reverse xs)) (filter p xs) (filter_reverse p xs)

pub front_order : (id : BlockId) (v : BufferFrame) (es : Entries) → IsDistinct same_key (keys_of es) → reverse (ids_of (front id v es)) ≡ move_to_last id (reverse (ids_of es))
front_order id v es distinct =
    reverse_front id (ids_of (remove_entry (is_key id) es))
    ∙ ap (λ (l : List BlockId). l ++ id ∷ []) (ap reverse (ids_removed id es distinct) ∙ sym (filter_reverse (λ x. not (is_id id x)) (ids_of es)))

-- a block that is used

entry_turn : (t : Bool) (id : BlockId) (e : FrameKey × BufferFrame) (o : Option (FrameKey × BufferFrame)) (f : Option BufferFrame) → is_key id e.0 ≡ t → o ≡ option_map (λ x. (key_of id, x)) f
    → cond t (Some e) o ≡ option_map (λ x. (key_of id, x)) (cond t (Some e.1) f)
entry_turn true id e o f h is = ap (λ (k : BlockId). Some (key_of k, e.1)) (same_id id (id_of e.0) h)
entry_turn false id e o f h is = is

entry_same : (id : BlockId) (es : Entries) → lookup_entry (is_key id) es ≡ option_map (λ x. (key_of id, x)) (lookup (is_key id) es)
entry_same id [] = refl
entry_same id (e ∷ es) = entry_turn (is_key id e.0) id e (lookup_entry (is_key id) es) (lookup (is_key id) es) refl (entry_same id es)

-- the entries after a block was looked up
abbrev pub after : Option BufferFrame → BlockId → Entries → Entries
after None id es = es
after (Some f) id es = front id f es

after_at : (id : BlockId) (es : Entries) (o : Option BufferFrame) → option_map_or (λ e. e ∷ remove_entry (is_key id) es) (option_map (λ x. (key_of id, x)) o) es ≡ after o id es
after_at id es None = refl
after_at id es (Some f) = refl

pub promoted_same : (id : BlockId) (es : Entries) → promoted (is_key id) es ≡ after (lookup (is_key id) es) id es
promoted_same id es = ap (λ (o : Option (FrameKey × BufferFrame)). option_map_or (λ e. e ∷ remove_entry (is_key id) es) o es) (entry_same id es) ∙ after_at id es (lookup (is_key id) es)

still_turn : (t : Bool) (k id : BlockId) (es : Entries) (f : BufferFrame) → is_id k id ≡ t → lookup (is_key id) es ≡ Some f → (if t then Some f else lookup (is_key k) es) ≡ lookup (is_key k) es
still_turn true k id es f on is = sym is ∙ ap (λ (x : BlockId). lookup (is_key x) es) (same_id k id on)
still_turn false k id es f on is = refl

pub after_lookup : (o : Option BufferFrame) (k id : BlockId) (es : Entries) → lookup (is_key id) es ≡ o → lookup (is_key k) (after o id es) ≡ lookup (is_key k) es
after_lookup None k id es is = refl
after_lookup (Some f) k id es is = front_lookup k id f es ∙ still_turn (is_id k id) k id es f refl is

pub after_order : (o : Option BufferFrame) (id : BlockId) (es : Entries) → IsDistinct same_key (keys_of es) → reverse (ids_of (after o id es)) ≡ (if is_some o then move_to_last id (reverse (ids_of es)) else reverse (ids_of es))
after_order None id es distinct = refl
after_order (Some f) id es distinct = front_order id f es distinct

-- a block that is put where there is room

none_turn : (t : Bool) (id : BlockId) (e : FrameKey × BufferFrame) (es : Entries) → cond t (Some e.1) (lookup (is_key id) es) ≡ None → (lookup (is_key id) es ≡ None → remove_entry (is_key id) es ≡ es)
    → cond t es (e ∷ remove_entry (is_key id) es) ≡ e ∷ es
none_turn true id e es h later = absurd (cc)
none_turn false id e es h later = ap (λ (xs : Entries). e ∷ xs) (later h)

without_none : (id : BlockId) (es : Entries) → lookup (is_key id) es ≡ None → remove_entry (is_key id) es ≡ es
without_none id [] h = refl
without_none id (e ∷ es) h = none_turn (is_key id e.0) id e es h (without_none id es)

pub or_nothing : (b : Bool) → (b || false) ≡ true → b ≡ true
or_nothing true h = refl
or_nothing false h = h

put_at : (id : BlockId) (v : BufferFrame) (es : Entries) (room_for : ℕ) (o : Option BufferFrame) → lookup (is_key id) es ≡ o → (nat_lt (length es) room_for || is_some o) ≡ true
    → option_map_or (λ (e : FrameKey × BufferFrame). (e.0, v) ∷ remove_entry (is_key id) es) (option_map (λ x. (key_of id, x)) o) ((key_of id, v) ∷ take (room_for - 1) es) ≡ front id v es
put_at id v es room_for (Some f) is room = refl
put_at id v es room_for None is room =
    let small : length es < room_for = grind (arith, nat_tests, or_nothing (nat_lt (length es) room_for) room) in
    ap (λ (xs : Entries). (key_of id, v) ∷ xs) (take_all (room_for - 1) es (omega (arith, small)) ∙ sym (without_none id es is))

pub put_same : (id : BlockId) (v : BufferFrame) (c : LruCache FrameKey BufferFrame) → (nat_lt (length c.entries) c.cap || is_some (lookup (is_key id) c.entries)) ≡ true → put_entries same_key c (key_of id) v ≡ front id v c.entries
put_same id v c room =
    ap (λ (o : Option (FrameKey × BufferFrame)). option_map_or (λ (e : FrameKey × BufferFrame). (e.0, v) ∷ remove_entry (is_key id) c.entries) o ((key_of id, v) ∷ take (c.cap - 1) c.entries)) (entry_same id c.entries)
    ∙ put_at id v c.entries c.cap (lookup (is_key id) c.entries) refl room
