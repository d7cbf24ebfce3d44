-- A block that was written leaves fewer to be written.
use Rattle.std.proofs.Common.{◌≤◌, ◌<◌, ◌≡◌, List, [], ◌∷◌, Bool, true, false, cond, Some, None, length, refl, sym, ap, ◌∙◌, subst, arith}
use Rattle.std.specs.Prelude.{◌||◌, filter, is_some, option_map}
use Rattle.std.specs.declared.option.Option.{Option}
use Rattle.std.specs.List.{list_any}
use Rattle.std.specs.Option.{option_map_or}
use Rattle.std.proofs.lemmas.Bool.{true≢false}
use Rattle.dms_block.specs.declared.block.BlockId.{BlockId}
use Rattle.dms_pool.specs.declared.frame.BufferFrame.{BufferFrame}
use Rattle.dms_pool.specs.declared.pool.Pool.{Pool}
use Rattle.dms_pool.specs.Calls.{Cleans}
use Rattle.dms_pool.specs.Entries.{is_id}
use Rattle.dms_pool.specs.Held.{frame_of, is_dirty, order, to_write, clean_frame}
use Rattle.dms_pool.proofs.Callers.{order_held}
use Rattle.dms_pool.proofs.Lasts.{self}
use Rattle.dms_pool.proofs.Same.{same_id}

-- ---- lists

turn_le : (p q : Bool) (x : BlockId) (a b : List BlockId) → (q ≡ true → p ≡ true) → length a ≤ length b → length (cond q (x ∷ a) a) ≤ length (cond p (x ∷ b) b)
turn_le true true x a b sub le = omega (arith, le)
turn_le true false x a b sub le = omega (arith, le)
turn_le false true x a b sub le = absurd (true≢false (sym (sub refl)))
turn_le false false x a b sub le = le

turn_less : (p q : Bool) (x : BlockId) (a b : List BlockId) → (q ≡ true → p ≡ true) → length a < length b → length (cond q (x ∷ a) a) < length (cond p (x ∷ b) b)
turn_less true true x a b sub le = omega (arith, le)
turn_less true false x a b sub le = omega (arith, le)
turn_less false true x a b sub le = absurd (true≢false (sym (sub refl)))
turn_less false false x a b sub le = le

turn_one : (p q : Bool) (x : BlockId) (a b : List BlockId) → p ≡ true → q ≡ false → length a ≤ length b → length (cond q (x ∷ a) a) < length (cond p (x ∷ b) b)
turn_one true true x a b on off le = absurd (true≢false off)
turn_one true false x a b on off le = omega (arith, le)
turn_one false q x a b on off le = absurd (true≢false (sym on))

module _ (P Q : BlockId → Bool) (sub : (x : BlockId) → Q x ≡ true → P x ≡ true) where
  fewer : (l : List BlockId) → length (filter Q l) ≤ length (filter P l)
  fewer [] = omega arith
  fewer (x ∷ l) = turn_le (P x) (Q x) x (filter Q l) (filter P l) (sub x) (fewer l)

  -- one less, where one of the list is no more
  one_fewer : (id : BlockId) → ((x : BlockId) → is_id id x ≡ true → (P x ≡ true) × (Q x ≡ false)) → (l : List BlockId) → list_any (is_id id) l ≡ true → length (filter Q l) < length (filter P l)
  one_fewer id is [] among = absurd (true≢false (sym among))
  one_fewer id is (x ∷ l) among = turn (is_id id x) refl among (one_fewer id is l)
    where
      turn : (t : Bool) → is_id id x ≡ t → (t || list_any (is_id id) l) ≡ true → (list_any (is_id id) l ≡ true → length (filter Q l) < length (filter P l)) → length (filter Q (x ∷ l)) < length (filter P (x ∷ l))
      turn true here on rest = let r = is x here in turn_one (P x) (Q x) x (filter Q l) (filter P l) r.0 r.1 (fewer l)
      turn false off on rest = turn_less (P x) (Q x) x (filter Q l) (filter P l) (sub x) (rest on)

-- ---- a pool

washed_clean : (o : Option BufferFrame) → option_map_or (λ f. f.dirty) (option_map clean_frame o) false ≡ false
washed_clean None = refl
washed_clean (Some f) = refl

held_dirty : (o : Option BufferFrame) → option_map_or (λ f. f.dirty) o false ≡ true → is_some o ≡ true
held_dirty None on = absurd (true≢false (sym on))
held_dirty (Some f) on = refl

module _ (id : BlockId) (old new : Pool) (c : Cleans id old new) where
  -- the block isn't to be written, and the others are as they were
  now_clean : (x : BlockId) → is_id x id ≡ true → is_dirty x new ≡ false
  now_clean x same = ap (λ (o : Option BufferFrame). option_map_or (λ f. f.dirty) o false) (c.holds x ∙ ap (λ t. cond t (option_map clean_frame (frame_of x old)) (frame_of x old)) same) ∙ washed_clean (frame_of x old)

  still_dirty : (x : BlockId) → is_dirty x new ≡ true → is_dirty x old ≡ true
  still_dirty x on = turn (is_id x id) refl
    where
      turn : (t : Bool) → is_id x id ≡ t → is_dirty x old ≡ true
      turn true same = absurd (true≢false (sym on ∙ now_clean x same))
      turn false off = sym (ap (λ (o : Option BufferFrame). option_map_or (λ f. f.dirty) o false) (c.holds x ∙ ap (λ t. cond t (option_map clean_frame (frame_of x old)) (frame_of x old)) off)) ∙ on

  -- so fewer are to be written
  pub cleans_fewer : is_dirty id old ≡ true → to_write new < to_write old
  cleans_fewer dirty =
      let among : list_any (is_id id) (order old) ≡ true = sym (order_held id old) ∙ held_dirty (frame_of id old) dirty in
      let one : length (filter (λ x. is_dirty x new) (order old)) < length (filter (λ x. is_dirty x old) (order old)) =
      one_fewer (λ x. is_dirty x old) (λ x. is_dirty x new) still_dirty id (λ x same.
      let at : x ≡ id = same_id id x same in
      (ap (λ (y : BlockId). is_dirty y old) at ∙ dirty, now_clean x (ap (λ (y : BlockId). is_id y id) at ∙ self id))) (order old) among in
      subst (λ n. n < to_write old) (sym (ap (λ (l : List BlockId). length (filter (λ x. is_dirty x new) l)) c.uses)) one
