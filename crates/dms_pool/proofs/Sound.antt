-- No call of the cache holds a block twice, or more blocks than there may be.
use Rattle.std.proofs.Common.{◌≡◌, ◌+◌, ◌<◌, ◌≤◌, ℕ, zero, suc, List, [], ◌∷◌, Bool, true, false, cond, Some, None, refl, sym, ap, ◌∙◌, subst, arith, length, take}
use Rattle.std.specs.Prelude.{◌||◌, nat_lt, is_some}
use Rattle.std.specs.Prelude.{OnErr, OnOk}
use Rattle.std.specs.declared.option.Option.{Option}
use Rattle.std.specs.declared.result.Result.{Result}
use Rattle.std.specs.declared.result.Result.TheVariants.{Ok, Err}
use Rattle.std.specs.List.{AllByRecursion, IsDistinct}
use Rattle.std.specs.Map.{keys_of, lookup, remove_entry, set_value}
use Rattle.std.proofs.lemmas.Bool.Decides.{nat_tests}
use Rattle.lru.specs.LruCache.{LruCache, lru_cache, promoted, put_entries}
use Rattle.dms_block.specs.declared.block.BlockId.{BlockId}
use Rattle.dms_pool.specs.declared.frame.BufferFrame.{BufferFrame}
use Rattle.dms_pool.specs.declared.frame.FrameKey.{FrameKey}
use Rattle.dms_pool.specs.Entries.{Entries, IsSoundPool, id_of, is_key, key_of, same_key}
use Rattle.dms_pool.proofs.Same.{after, front, or_nothing, promoted_same, put_same, same_id}

all_turn : (P : FrameKey → Type 0) (t : Bool) (e : FrameKey × BufferFrame) (es rest : Entries) → AllByRecursion P (keys_of (e ∷ es)) → AllByRecursion P (keys_of rest) → AllByRecursion P (keys_of (cond t es (e ∷ rest)))
all_turn P true e es rest all later = all.1
all_turn P false e es rest all later = (all.0, later)

all_removed : (P : FrameKey → Type 0) (id : BlockId) (es : Entries) → AllByRecursion P (keys_of es) → AllByRecursion P (keys_of (remove_entry (is_key id) es))
all_removed P id [] all = tt
all_removed P id (e ∷ es) all = all_turn P (is_key id e.0) e es (remove_entry (is_key id) es) all (all_removed P id es all.1)

distinct_turn : (t : Bool) (e : FrameKey × BufferFrame) (es rest : Entries) → IsDistinct same_key (keys_of es) → IsDistinct same_key (keys_of rest) → AllByRecursion (λ y. same_key e.0 y ≡ false) (keys_of rest)
    → IsDistinct same_key (keys_of (cond t es (e ∷ rest)))
unfolding IsDistinct
distinct_turn true e es rest behind later all = behind
distinct_turn false e es rest behind later all = (all, later)

distinct_removed : (id : BlockId) (es : Entries) → IsDistinct same_key (keys_of es) → IsDistinct same_key (keys_of (remove_entry (is_key id) es))
unfolding IsDistinct
distinct_removed id [] distinct = tt
distinct_removed id (e ∷ es) distinct = distinct_turn (is_key id e.0) e es (remove_entry (is_key id) es) distinct.1 (distinct_removed id es distinct.1) (all_removed (λ y. same_key e.0 y ≡ false) id es distinct.0)

apart_turn : (t : Bool) (id : BlockId) (e : FrameKey × BufferFrame) (es rest : Entries) → is_key id e.0 ≡ t → AllByRecursion (λ y. same_key e.0 y ≡ false) (keys_of es) → AllByRecursion (λ y. is_key id y ≡ false) (keys_of rest)
    → AllByRecursion (λ y. is_key id y ≡ false) (keys_of (cond t es (e ∷ rest)))
apart_turn true id e es rest on all later = subst (λ (x : BlockId). AllByRecursion (λ y. is_key x y ≡ false) (keys_of es)) (same_id id (id_of e.0) on) all
apart_turn false id e es rest off all later = (off, later)

apart_removed : (id : BlockId) (es : Entries) → IsDistinct same_key (keys_of es) → AllByRecursion (λ y. is_key id y ≡ false) (keys_of (remove_entry (is_key id) es))
unfolding IsDistinct
apart_removed id [] distinct = tt
apart_removed id (e ∷ es) distinct = apart_turn (is_key id e.0) id e es (remove_entry (is_key id) es) refl distinct.0 (apart_removed id es distinct.1)

distinct_front : (id : BlockId) (v : BufferFrame) (es : Entries) → IsDistinct same_key (keys_of es) → IsDistinct same_key (keys_of (front id v es))
unfolding IsDistinct
distinct_front id v es distinct = (apart_removed id es distinct, distinct_removed id es distinct)

-- how many

one_of : Option BufferFrame → ℕ
one_of None = 0
one_of (Some f) = 1

length_turn : (t : Bool) (e : FrameKey × BufferFrame) (es rest : Entries) (r : Option BufferFrame) → length rest + one_of r ≡ length es → length (cond t es (e ∷ rest)) + one_of (cond t (Some e.1) r) ≡ length es + 1
unfolding one_of
length_turn true e es rest r is = refl
length_turn false e es rest r is = omega (arith, is)

length_removed : (id : BlockId) (es : Entries) → length (remove_entry (is_key id) es) + one_of (lookup (is_key id) es) ≡ length es
unfolding one_of
length_removed id [] = refl
length_removed id (e ∷ es) = length_turn (is_key id e.0) e es (remove_entry (is_key id) es) (lookup (is_key id) es) (length_removed id es) ∙ omega arith

fits_turn : (r : Option BufferFrame) (rest long most : ℕ) → rest + one_of r ≡ long → long ≤ most → (nat_lt long most || is_some r) ≡ true → rest + 1 ≤ most
unfolding one_of
fits_turn None rest long most is le room =
    let small : long < most = grind (arith, nat_tests, or_nothing (nat_lt long most) room) in
    omega (arith, is, small)
fits_turn (Some f) rest long most is le room = omega (arith, is, le)

fits_front : (id : BlockId) (v : BufferFrame) (es : Entries) (most : ℕ) → length es ≤ most → (nat_lt (length es) most || is_some (lookup (is_key id) es)) ≡ true → length (front id v es) ≤ most
fits_front id v es most le room =
    let fits = fits_turn (lookup (is_key id) es) (length (remove_entry (is_key id) es)) (length es) most (length_removed id es) le room in
    omega (arith, fits)

or_held : (b : Bool) → (b || true) ≡ true
or_held true = refl
or_held false = refl

sound_after : (o : Option BufferFrame) (id : BlockId) (c : LruCache FrameKey BufferFrame) → lookup (is_key id) c.entries ≡ o → IsSoundPool c → IsSoundPool (lru_cache (after o id c.entries) c.cap)
sound_after None id c is sound = sound
sound_after (Some f) id c is sound =
    (distinct_front id f c.entries sound.0, fits_front id f c.entries c.cap sound.1 (ap (λ (r : Option BufferFrame). nat_lt (length c.entries) c.cap || is_some r) is ∙ or_held (nat_lt (length c.entries) c.cap)), sound.2)

pub sound_promoted : (id : BlockId) (c new : LruCache FrameKey BufferFrame) → IsSoundPool c → new ≡ lru_cache (promoted (is_key id) c.entries) c.cap → IsSoundPool new
sound_promoted id c new sound is =
    subst IsSoundPool (sym (is ∙ ap (λ (l : Entries). lru_cache l c.cap) (promoted_same id c.entries))) (sound_after (lookup (is_key id) c.entries) id c refl sound)

sound_put : (id : BlockId) (v : BufferFrame) (c new : LruCache FrameKey BufferFrame) → IsSoundPool c → (nat_lt (length c.entries) c.cap || is_some (lookup (is_key id) c.entries)) ≡ true
    → new ≡ lru_cache (put_entries same_key c (key_of id) v) c.cap → IsSoundPool new
sound_put id v c new sound room is =
    let front_sound : IsSoundPool (lru_cache (front id v c.entries) c.cap) = (distinct_front id v c.entries sound.0, fits_front id v c.entries c.cap sound.1 room, sound.2) in
    subst IsSoundPool (sym (is ∙ ap (λ (l : Entries). lru_cache l c.cap) (put_same id v c room))) front_sound

-- also where memory was refused
pub sound_either : {T E : Type 0} (r : Result T E) (id : BlockId) (v : BufferFrame) (c new : LruCache FrameKey BufferFrame) → IsSoundPool c → (nat_lt (length c.entries) c.cap || is_some (lookup (is_key id) c.entries)) ≡ true
    → OnOk r (new ≡ lru_cache (put_entries same_key c (key_of id) v) c.cap) → OnErr r (new ≡ c) → IsSoundPool new
sound_either (Ok x) id v c new sound room is same = sound_put id v c new sound room is
sound_either (Err e) id v c new sound room is same = subst IsSoundPool (sym same) sound

-- fewer

all_take : (P : FrameKey → Type 0) (n : ℕ) (es : Entries) → AllByRecursion P (keys_of es) → AllByRecursion P (keys_of (take n es))
all_take P zero es all = tt
all_take P (suc n) [] all = tt
all_take P (suc n) (e ∷ es) all = (all.0, all_take P n es all.1)

distinct_take : (n : ℕ) (es : Entries) → IsDistinct same_key (keys_of es) → IsDistinct same_key (keys_of (take n es))
unfolding IsDistinct
distinct_take zero es distinct = tt
distinct_take (suc n) [] distinct = tt
distinct_take (suc n) (e ∷ es) distinct = (all_take (λ y. same_key e.0 y ≡ false) n es distinct.0, distinct_take n es distinct.1)

length_take : (n : ℕ) (es : Entries) → length (take n es) ≤ length es
length_take zero es = omega arith
length_take (suc n) [] = omega arith
length_take (suc n) (e ∷ es) = let le = length_take n es in omega (arith, le)

pub sound_take : (n : ℕ) (c new : LruCache FrameKey BufferFrame) → IsSoundPool c → new ≡ lru_cache (take n c.entries) c.cap → IsSoundPool new
sound_take n c new sound is =
    let le = length_take n c.entries in
    let fewer : IsSoundPool (lru_cache (take n c.entries) c.cap) = (distinct_take n c.entries sound.0, omega (arith, le, sound.1), sound.2) in
    subst IsSoundPool (sym is) fewer

-- the same blocks

keys_turn : (t : Bool) (e : FrameKey × BufferFrame) (es rest : Entries) (w : BufferFrame) → keys_of rest ≡ keys_of es → keys_of (cond t ((e.0, w) ∷ es) (e ∷ rest)) ≡ e.0 ∷ keys_of es
keys_turn true e es rest w same = refl
keys_turn false e es rest w same = ap (λ (l : List FrameKey). e.0 ∷ l) same

set_keys : (id : BlockId) (es : Entries) (w : BufferFrame) → keys_of (set_value (is_key id) es w) ≡ keys_of es
set_keys id [] w = refl
set_keys id (e ∷ es) w = keys_turn (is_key id e.0) e es (set_value (is_key id) es w) w (set_keys id es w)

same_length : (t : Bool) (e : FrameKey × BufferFrame) (es rest : Entries) (w : BufferFrame) → length rest ≡ length es → length (cond t ((e.0, w) ∷ es) (e ∷ rest)) ≡ length es + 1
same_length true e es rest w same = omega arith
same_length false e es rest w same = omega (arith, same)

set_length : (id : BlockId) (es : Entries) (w : BufferFrame) → length (set_value (is_key id) es w) ≡ length es
set_length id [] w = refl
set_length id (e ∷ es) w = same_length (is_key id e.0) e es (set_value (is_key id) es w) w (set_length id es w) ∙ omega arith

pub sound_set : (id : BlockId) (w : BufferFrame) (c new : LruCache FrameKey BufferFrame) → IsSoundPool c → new ≡ lru_cache (set_value (is_key id) c.entries w) c.cap → IsSoundPool new
sound_set id w c new sound is =
    let again : IsSoundPool (lru_cache (set_value (is_key id) c.entries w) c.cap) = (subst (IsDistinct same_key) (sym (set_keys id c.entries w)) sound.0, rw (set_length id c.entries w) sound.1, sound.2) in
    subst IsSoundPool (sym is) again

pub sound_empty : (old new : LruCache FrameKey BufferFrame) → IsSoundPool old → new ≡ lru_cache [] old.cap → IsSoundPool new
unfolding IsDistinct
sound_empty old new sound is = subst IsSoundPool (sym is) (tt, omega arith, sound.2)
