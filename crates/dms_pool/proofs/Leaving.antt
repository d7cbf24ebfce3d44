-- What each call leaves, from what the cache's call leaves.
use Rattle.std.proofs.Common.{◌≡◌, ◌-◌, [], ◌∷◌, true, Some, sym, ap, ◌∙◌, length, take, refl}
use Rattle.std.specs.Prelude.{◌||◌, nat_lt, is_some, reverse}
use Rattle.std.specs.Map.{lookup, set_value}
use Rattle.std.proofs.lemmas.List.{length-map, length-reverse}
use Rattle.lru.specs.LruCache.{last_entry, lru_cache, promoted, put_entries}
use Rattle.dms_block.specs.declared.block.BlockId.{BlockId}
use Rattle.dms_pool.specs.declared.frame.BufferFrame.{BufferFrame}
use Rattle.dms_pool.specs.declared.frame.FrameKey.{FrameKey}
use Rattle.dms_pool.specs.declared.pool.Pool.{Pool}
use Rattle.dms_pool.specs.Entries.{Entries, id_of, ids_of, is_key, key_of, same_key}
use Rattle.dms_pool.specs.Calls.{IsEmpty, Cleans, GivesUp, HasFrameFor, FrameUsed, PutsFrame}
use Rattle.dms_pool.specs.Held.{clean_frame}
use Rattle.dms_pool.proofs.Lasts.{IsLastFrame, is_last}
use Rattle.dms_pool.proofs.Same.{after, after_lookup, after_order, front, front_lookup, front_order, promoted_same, put_same}
use Rattle.dms_pool.proofs.Washed.{set_clean, set_ids}

pub looked : (id : BlockId) (old new : Pool) → new.frames ≡ lru_cache (promoted (is_key id) old.frames.entries) old.frames.cap → FrameUsed id old new
looked id old new is =
    let es = old.frames.entries in
    let all : new.frames.entries ≡ after (lookup (is_key id) es) id es = ap (λ c. c.entries) is ∙ promoted_same id es in
    record {
      holds = λ x. ap (lookup (is_key x)) all ∙ after_lookup (lookup (is_key id) es) x id es refl;
      uses = ap (λ (l : Entries). reverse (ids_of l)) all ∙ after_order (lookup (is_key id) es) id es old.sound.0;
      bound = ap (λ c. c.cap) is;
    }

-- the order has as many blocks as there are entries
pub order_length : (es : Entries) → length (reverse (ids_of es)) ≡ length es
order_length es = length-reverse (ids_of es) ∙ length-map es (λ e. id_of e.0)

pub has_room : (id : BlockId) (pool : Pool) → HasFrameFor id pool → (nat_lt (length pool.frames.entries) pool.frames.cap || is_some (lookup (is_key id) pool.frames.entries)) ≡ true
has_room id pool room = ap (λ n. nat_lt n pool.frames.cap || is_some (lookup (is_key id) pool.frames.entries)) (sym (order_length pool.frames.entries)) ∙ room

pub puts : (id : BlockId) (v : BufferFrame) (old new : Pool) → HasFrameFor id old
    → new.frames ≡ lru_cache (put_entries same_key old.frames (key_of id) v) old.frames.cap → PutsFrame id v old new
puts id v old new room is =
    let es = old.frames.entries in
    let all : new.frames.entries ≡ front id v es = ap (λ c. c.entries) is ∙ put_same id v old.frames (has_room id old room) in
    record {
      holds = λ x. ap (lookup (is_key x)) all ∙ front_lookup x id v es;
      uses = ap (λ (l : Entries). reverse (ids_of l)) all ∙ front_order id v es old.sound.0;
      bound = ap (λ c. c.cap) is;
    }

-- all are given up
pub emptied : (old new : Pool) → new.frames ≡ lru_cache [] old.frames.cap → IsEmpty old.frames.cap new
emptied old new is = record { holds = λ x. ap (λ c. lookup (is_key x) c.entries) is; uses = ap (λ c. reverse (ids_of c.entries)) is; bound = ap (λ c. c.cap) is }

pub gives_up : (key : FrameKey) (f : BufferFrame) (old new : Pool) → Some (key, f) ≡ last_entry old.frames.entries → new.frames ≡ lru_cache (take (length old.frames.entries - 1) old.frames.entries) old.frames.cap
    → GivesUp (id_of key) f old new
gives_up key f old new last is =
    let es = old.frames.entries in
    let facts : IsLastFrame es (key, f) = is_last es (key, f) old.sound.0 last in
    let rest : new.frames.entries ≡ take (length es - 1) es = ap (λ c. c.entries) is in
    record {
      was = facts.was;
      holds = λ x. ap (lookup (is_key x)) rest ∙ facts.holds x;
      uses = facts.uses ∙ ap (λ (l : Entries). id_of key ∷ reverse (ids_of l)) (sym rest);
      bound = ap (λ c. c.cap) is;
    }

pub cleans : (id : BlockId) (f : BufferFrame) (old new : Pool) → lookup (is_key id) old.frames.entries ≡ Some f → new.frames ≡ lru_cache (set_value (is_key id) old.frames.entries (clean_frame f)) old.frames.cap → Cleans id old new
cleans id f old new found is =
    let es = old.frames.entries in
    let all : new.frames.entries ≡ set_value (is_key id) es (clean_frame f) = ap (λ c. c.entries) is in
    record {
      holds = λ x. ap (lookup (is_key x)) all ∙ set_clean x id es f found;
      uses = ap (λ (l : Entries). reverse (ids_of l)) all ∙ ap reverse (set_ids id es (clean_frame f));
      bound = ap (λ c. c.cap) is;
    }
