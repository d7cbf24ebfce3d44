-- What holds of every pool.
use Rattle.std.proofs.Common.{◌≡◌, ◌++◌, List, [], ◌∷◌, Bool, true, false, cond, Some, refl, sym, ap, ◌∙◌, subst}
use Rattle.std.specs.Prelude.{◌||◌, is_some, reverse}
use Rattle.std.specs.declared.option.Option.{Option}
use Rattle.std.specs.List.{AllByRecursion, IsDistinct, list_any}
use Rattle.std.specs.Map.{keys_of, lookup}
use Rattle.dms_block.specs.declared.block.BlockId.{BlockId}
use Rattle.dms_pool.specs.declared.frame.BufferFrame.{BufferFrame}
use Rattle.dms_pool.specs.declared.frame.FrameKey.{FrameKey}
use Rattle.dms_pool.specs.declared.pool.Pool.{Pool}
use Rattle.dms_pool.specs.Entries.{Entries, id_of, ids_of, is_id, is_key, same_key}
use Rattle.dms_pool.specs.Held.{frame_of, order}
use Rattle.dms_pool.proofs.Lasts.{flip}
use Rattle.dms_pool.proofs.Same.{reverse_front}

all_push : (P : BlockId → Type 0) (xs : List BlockId) (x : BlockId) → AllByRecursion P xs → P x → AllByRecursion P (xs ++ x ∷ [])
all_push P [] x all last = (last, tt)
all_push P (y ∷ ys) x all last = (all.0, all_push P ys x all.1 last)

all_reverse : (P : BlockId → Type 0) (xs : List BlockId) → AllByRecursion P xs → AllByRecursion P (reverse xs)
all_reverse P [] all = tt
all_reverse P (x ∷ xs) all = subst (AllByRecursion P) (sym (reverse_front x xs)) (all_push P (reverse xs) x (all_reverse P xs all.1) all.0)

distinct_push : (xs : List BlockId) (x : BlockId) → IsDistinct is_id xs → AllByRecursion (λ y. is_id x y ≡ false) xs → IsDistinct is_id (xs ++ x ∷ [])
unfolding IsDistinct
distinct_push [] x distinct all = (tt, tt)
distinct_push (y ∷ ys) x distinct all = (all_push (λ z. is_id y z ≡ false) ys x distinct.0 (flip y x ∙ all.0), distinct_push ys x distinct.1 all.1)

distinct_reverse : (xs : List BlockId) → IsDistinct is_id xs → IsDistinct is_id (reverse xs)
unfolding IsDistinct
distinct_reverse [] distinct = tt
distinct_reverse (x ∷ xs) distinct = subst (IsDistinct is_id) (sym (reverse_front x xs)) (distinct_push (reverse xs) x (distinct_reverse xs distinct.1) (all_reverse (λ y. is_id x y ≡ false) xs distinct.0))

all_ids : (key : FrameKey) (es : Entries) → AllByRecursion (λ y. same_key key y ≡ false) (keys_of es) → AllByRecursion (λ y. is_id (id_of key) y ≡ false) (ids_of es)
all_ids key [] all = tt
all_ids key (e ∷ es) all = (all.0, all_ids key es all.1)

distinct_ids : (es : Entries) → IsDistinct same_key (keys_of es) → IsDistinct is_id (ids_of es)
unfolding IsDistinct
distinct_ids [] distinct = tt
distinct_ids (e ∷ es) distinct = (all_ids e.0 es distinct.0, distinct_ids es distinct.1)

any_push : (p : BlockId → Bool) (xs : List BlockId) (x : BlockId) → list_any p (xs ++ x ∷ []) ≡ (p x || list_any p xs)
any_push p [] x = refl
any_push p (y ∷ ys) x = ap (λ b. p y || b) (any_push p ys x) ∙ or_turn (p y) (p x) (list_any p ys)
  where
    or_turn : (a b c : Bool) → (a || (b || c)) ≡ (b || (a || c))
    or_turn true true c = refl
    or_turn true false c = refl
    or_turn false true c = refl
    or_turn false false c = refl

any_reverse : (p : BlockId → Bool) (xs : List BlockId) → list_any p (reverse xs) ≡ list_any p xs
any_reverse p [] = refl
any_reverse p (x ∷ xs) = ap (list_any p) (reverse_front x xs) ∙ any_push p (reverse xs) x ∙ ap (λ b. p x || b) (any_reverse p xs)

some_turn : (t : Bool) (f : BufferFrame) (o : Option BufferFrame) (b : Bool) → is_some o ≡ b → is_some (cond t (Some f) o) ≡ (t || b)
some_turn true f o b is = refl
some_turn false f o b is = is

any_held : (id : BlockId) (es : Entries) → is_some (lookup (is_key id) es) ≡ list_any (is_id id) (ids_of es)
any_held id [] = refl
any_held id (e ∷ es) = some_turn (is_key id e.0) e.1 (lookup (is_key id) es) (list_any (is_id id) (ids_of es)) (any_held id es)

-- the order has the blocks that are held, and no others
pub order_held : (id : BlockId) (pool : Pool) → is_some (frame_of id pool) ≡ list_any (is_id id) (order pool)
order_held id pool = any_held id pool.frames.entries ∙ sym (any_reverse (is_id id) (ids_of pool.frames.entries))
