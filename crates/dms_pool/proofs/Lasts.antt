-- The last entry is given up.
use Rattle.std.proofs.Common.{ℕ, ◌+◌, ◌-◌, ◌≡◌, Bool, true, false, cond, if◌then◌else◌, [], ◌∷◌, ◌++◌, length, take, Some, None, refl, sym, ◌∙◌, ap, subst, arith, ◌<◌}
use Rattle.std.specs.Prelude.{nat_eq, ◌&&◌, reverse}
use Rattle.std.specs.List.{IsDistinct, AllByRecursion, slice_get}
use Rattle.std.specs.Map.{keys_of, lookup}
use Rattle.std.proofs.lemmas.List.{map-append, reverse-append, take_more}
use Rattle.std.proofs.lemmas.Option.{slice_get_within, get_or_from_slice_get}
use Rattle.std.proofs.lemmas.Bool.Decides.{nat_tests}
use Rattle.std.proofs.Math.Seq.{take-length}
use Rattle.lru.specs.LruCache.{last_entry}
use Rattle.dms_block.specs.declared.block.BlockId.{BlockId}
use Rattle.dms_pool.specs.declared.frame.BufferFrame.{BufferFrame}
use Rattle.dms_pool.specs.declared.frame.FrameKey.{FrameKey}
use Rattle.dms_pool.specs.Entries.{Entries, id_of, ids_of, is_id, is_key, same_key}
use Rattle.dms_pool.proofs.Same.{same_id}

nat_self : (m : ℕ) → nat_eq m m ≡ true
nat_self m = grind (arith)

pub self : (a : BlockId) → is_id a a ≡ true
self a = λ i. nat_self a.file i && nat_self a.block i

at_last : (p : FrameKey → Type 0) (xs : Entries) (e : FrameKey × BufferFrame) → AllByRecursion p (keys_of (xs ++ e ∷ [])) → p e.0
at_last p [] e all = all.0
at_last p (x ∷ xs) e all = at_last p xs e all.1

nat_flip : (m n : ℕ) → nat_eq m n ≡ nat_eq n m
nat_flip m n = grind (arith, nat_tests)

pub flip : (a b : BlockId) → is_id a b ≡ is_id b a
flip a b = λ i. nat_flip a.file b.file i && nat_flip a.block b.block i

last_was : (xs : Entries) (e : FrameKey × BufferFrame) → IsDistinct same_key (keys_of (xs ++ e ∷ [])) → lookup (is_key (id_of e.0)) (xs ++ e ∷ []) ≡ Some e.1
unfolding IsDistinct
last_was [] e distinct = ap (λ k. cond k (Some e.1) None) (self (id_of e.0))
last_was (x ∷ xs) e distinct =
    ap (λ k. cond k (Some x.1) (lookup (is_key (id_of e.0)) (xs ++ e ∷ []))) (flip (id_of e.0) (id_of x.0) ∙ at_last (λ y. same_key x.0 y ≡ false) xs e distinct.0)
    ∙ last_was xs e distinct.1

last_gone : (xs : Entries) (e : FrameKey × BufferFrame) → IsDistinct same_key (keys_of (xs ++ e ∷ [])) → lookup (is_key (id_of e.0)) xs ≡ None
unfolding IsDistinct
last_gone [] e distinct = refl
last_gone (x ∷ xs) e distinct =
    ap (λ k. cond k (Some x.1) (lookup (is_key (id_of e.0)) xs)) (flip (id_of e.0) (id_of x.0) ∙ at_last (λ y. same_key x.0 y ≡ false) xs e distinct.0)
    ∙ last_gone xs e distinct.1

last_others : (xs : Entries) (e : FrameKey × BufferFrame) (id : BlockId) → is_key id e.0 ≡ false → lookup (is_key id) xs ≡ lookup (is_key id) (xs ++ e ∷ [])
last_others [] e id off = sym (ap (λ k. cond k (Some e.1) None) off)
last_others (x ∷ xs) e id off = ap (λ o. cond (is_key id x.0) (Some x.1) o) (last_others xs e id off)

last_turn : (t : Bool) (xs : Entries) (e : FrameKey × BufferFrame) (id : BlockId) → is_key id e.0 ≡ t → IsDistinct same_key (keys_of (xs ++ e ∷ []))
    → lookup (is_key id) xs ≡ (if t then None else lookup (is_key id) (xs ++ e ∷ []))
last_turn true xs e id on distinct = sym (ap (λ (x : BlockId). lookup (is_key x) xs) (same_id id (id_of e.0) on)) ∙ last_gone xs e distinct
last_turn false xs e id off distinct = last_others xs e id off

-- the last of a list that has one
last_split : (es : Entries) (e : FrameKey × BufferFrame) → slice_get es (length es - 1) ≡ Some e → es ≡ take (length es - 1) es ++ e ∷ []
last_split es e is =
    let n = length es - 1 in
    let low : n < length es = slice_get_within es n e is in
    let all : n + 1 ≡ length es = omega (arith, low) in
    sym (take-length es) ∙ ap (λ k. take k es) (sym all) ∙ take_more es n e low ∙ ap (λ (x : FrameKey × BufferFrame). take n es ++ x ∷ []) (get_or_from_slice_get es n e e is)

-- what is known of the last of some entries, and of the others
pub record IsLastFrame (es : Entries) (e : FrameKey × BufferFrame) : Type 0 where
  pub was : lookup (is_key (id_of e.0)) es ≡ Some e.1
  pub holds : (x : BlockId) → lookup (is_key x) (take (length es - 1) es) ≡ (if is_key x e.0 then None else lookup (is_key x) es)
  pub uses : reverse (ids_of es) ≡ id_of e.0 ∷ reverse (ids_of (take (length es - 1) es))

split_last : (es xs : Entries) (e : FrameKey × BufferFrame) → es ≡ xs ++ e ∷ [] → xs ≡ take (length es - 1) es → IsDistinct same_key (keys_of es) → IsLastFrame es e
split_last es xs e whole front distinct =
    let apart : IsDistinct same_key (keys_of (xs ++ e ∷ [])) = subst (λ (l : Entries). IsDistinct same_key (keys_of l)) whole distinct in
    record {
      was = ap (lookup (is_key (id_of e.0))) whole ∙ last_was xs e apart;
      holds = λ x. ap (lookup (is_key x)) (sym front) ∙ last_turn (is_key x e.0) xs e x refl apart ∙ ap (λ (l : Entries). if is_key x e.0 then None else lookup (is_key x) l) (sym whole);
      uses = ap (λ (l : Entries). reverse (ids_of l)) whole ∙ ap reverse (map-append (λ (y : FrameKey × BufferFrame). id_of y.0) xs (e ∷ [])) ∙ reverse-append (ids_of xs) (id_of e.0 ∷ []) ∙ ap (λ (l : Entries). id_of e.0 ∷ reverse (ids_of l)) front;
    }

pub is_last : (es : Entries) (e : FrameKey × BufferFrame) → IsDistinct same_key (keys_of es) → Some e ≡ last_entry es → IsLastFrame es e
is_last es e distinct last = split_last es (take (length es - 1) es) e (last_split es e (sym last)) refl distinct

-- where there is no last, there is none
none_left : (e : FrameKey × BufferFrame) (xs : Entries) → slice_get (e ∷ xs) (length xs) ≡ None → e ∷ xs ≡ []
none_left e [] is = absurd (cc is)
none_left e (x ∷ xs) is = absurd (cc (none_left x xs is))
