-- The neighbours of the blocks of a path, which are read before anything is written: they stand above the blocks that are written, and stay.
use Rattle.std.proofs.Common.{◌≡◌, ℕ, zero, suc, ◌+◌, ◌≤◌, ◌<◌, ◌⊎◌, inl, inr, List, [], ◌∷◌, ◌++◌, Some, None, refl, sym, ap, subst, ◌∙◌, length, drop, slice_get, get_or, append_assoc, append-nil, arith}
use Rattle.std.proofs.lemmas.Bool.Decides.{nat_tests}
use Rattle.std.specs.declared.option.Option.{Option}
use Rattle.dms_chain.specs.Linked.{numbers, times}
use Rattle.dms_chain.specs.LinkedLaws.{times_append, times_own}
use Rattle.dms_tree.specs.declared.node.InnerBlock.{InnerBlock}
use Rattle.dms_tree.specs.declared.raising.PathStep.{PathStep}
use Rattle.dms_tree.specs.declared.removing.Joint.{Joint}
use Rattle.dms_tree.specs.LaceLaws.{kids_append}
use Rattle.dms_tree.specs.Levels.{Hangs, Inner, inner_numbers, kids_of, top_numbers}
use Rattle.dms_tree.specs.Mates.{mate_place}
use Rattle.dms_tree.specs.Mends.{IsJointUp, joint_step}
use Rattle.dms_tree.specs.Paths.{IsPath, IsStep, Step}
use Rattle.dms_tree.specs.TreeBlocks.{inner_in}
use Rattle.dms_tree.specs.TreeIn.{SayLevel, SayLevels, says}
use Rattle.dms_tree.specs.TreeSpells.{IsInner}
use Rattle.dms_tree.specs.Ups.{ArePassed, IsPassed, step_of, steps_of}
use Rattle.dms_tree.specs.Uppers.{kid_in, upper_off}

-- the number of the neighbour under a block of the path: the child before the one that was taken, else the one behind it
abbrev pub mate_of : PathStep → ℕ
mate_of p = get_or p.inner.kids.items (mate_place p.taken) 0

-- this is what the neighbour says
abbrev pub SaysMate : List (List ℕ) → ℕ → PathStep → InnerBlock → Type 0
SaysMate bs width step mate = says (inner_in width) (slice_get bs (mate_of step)) ≡ Some (mate.kids.items, mate.seps.items)

-- and so under each block of a path
abbrev pub SayMates : List (List ℕ) → ℕ → List PathStep → List InnerBlock → Type 0
SayMates bs width [] [] = Unit {0}
SayMates bs width [] (m ∷ ms) = ⊥
SayMates bs width (p ∷ ps) [] = ⊥
SayMates bs width (p ∷ ps) (m ∷ ms) = SaysMate bs width p m × SayMates bs width ps ms

-- what holds of blocks that were passed and of the neighbours under them, in a file of so many blocks
abbrev pub MatesHold : ℕ → ℕ → List PathStep → List InnerBlock → Type 0
MatesHold width count [] [] = Unit {0}
MatesHold width count [] (m ∷ ms) = ⊥
MatesHold width count (p ∷ ps) [] = ⊥
MatesHold width count (p ∷ ps) (m ∷ ms) = IsPassed width count p × (mate_of p < count) × IsInner width m.kids.items m.seps.items × MatesHold width count ps ms

-- one more under the last block
pub say_more : (bs : List (List ℕ)) (width : ℕ) (ps : List PathStep) (ms : List InnerBlock) (p : PathStep) (m : InnerBlock) → SayMates bs width ps ms → SaysMate bs width p m → SayMates bs width (ps ++ p ∷ []) (ms ++ m ∷ [])
say_more bs width [] [] p m said one = (one, tt)
say_more bs width [] (n ∷ ms) p m said one = absurd said
say_more bs width (q ∷ ps) [] p m said one = absurd said
say_more bs width (q ∷ ps) (n ∷ ms) p m said one = (said.0, say_more bs width ps ms p m said.1 one)

pub say_last : (bs : List (List ℕ)) (width : ℕ) (ps : List PathStep) (ms : List InnerBlock) (p : PathStep) (m : InnerBlock) → SayMates bs width (ps ++ p ∷ []) (ms ++ m ∷ []) → SayMates bs width ps ms × SaysMate bs width p m
say_last bs width [] [] p m said = (tt, said.0)
say_last bs width [] (n ∷ []) p m said = absurd said.1
say_last bs width [] (n ∷ o ∷ ms) p m said = absurd said.1
say_last bs width (q ∷ []) [] p m said = absurd said.1
say_last bs width (q ∷ r ∷ ps) [] p m said = absurd said.1
say_last bs width (q ∷ ps) (n ∷ ms) p m said = let rest = say_last bs width ps ms p m said.1 in ((said.0, rest.0), rest.1)

pub hold_more : (width count : ℕ) (ps : List PathStep) (ms : List InnerBlock) (p : PathStep) (m : InnerBlock) → MatesHold width count ps ms → IsPassed width count p → mate_of p < count → IsInner width m.kids.items m.seps.items → MatesHold width count (ps ++ p ∷ []) (ms ++ m ∷ [])
hold_more width count [] [] p m held passed near is = (passed, near, is, tt)
hold_more width count [] (n ∷ ms) p m held passed near is = absurd held
hold_more width count (q ∷ ps) [] p m held passed near is = absurd held
hold_more width count (q ∷ ps) (n ∷ ms) p m held passed near is = (held.0, held.1, held.2, hold_more width count ps ms p m held.3 passed near is)

pub record LastMate (width count : ℕ) (ps : List PathStep) (ms : List InnerBlock) (p : PathStep) (m : InnerBlock) : Type 0 where
  pub before : MatesHold width count ps ms
  pub passed : IsPassed width count p
  pub near : mate_of p < count
  pub is : IsInner width m.kids.items m.seps.items

pub hold_last : (width count : ℕ) (ps : List PathStep) (ms : List InnerBlock) (p : PathStep) (m : InnerBlock) → MatesHold width count (ps ++ p ∷ []) (ms ++ m ∷ []) → LastMate width count ps ms p m
hold_last width count [] [] p m held = record { before = tt; passed = held.0; near = held.1; is = held.2 }
hold_last width count [] (n ∷ []) p m held = absurd held.3
hold_last width count [] (n ∷ o ∷ ms) p m held = absurd held.3
hold_last width count (q ∷ []) [] p m held = absurd held.3
hold_last width count (q ∷ r ∷ ps) [] p m held = absurd held.3
hold_last width count (q ∷ ps) (n ∷ ms) p m held =
    let rest = hold_last width count ps ms p m held.3 in
    record { before = (held.0, held.1, held.2, rest.before); passed = rest.passed; near = rest.near; is = rest.is }

pub hold_size : (width count : ℕ) (ps : List PathStep) (ms : List InnerBlock) → MatesHold width count ps ms → length ps ≡ length ms
hold_size width count [] [] held = refl
hold_size width count [] (m ∷ ms) held = absurd held
hold_size width count (p ∷ ps) [] held = absurd held
hold_size width count (p ∷ ps) (m ∷ ms) held = ap suc (hold_size width count ps ms held.3)

pub hold_passed : (width count : ℕ) (ps : List PathStep) (ms : List InnerBlock) → MatesHold width count ps ms → ArePassed width count ps
hold_passed width count [] [] held = tt
hold_passed width count [] (m ∷ ms) held = absurd held
hold_passed width count (p ∷ ps) [] held = absurd held
hold_passed width count (p ∷ ps) (m ∷ ms) held = (held.0, hold_passed width count ps ms held.3)

-- the neighbour is a child
pub mate_low : (width count : ℕ) (p : PathStep) → IsPassed width count p → mate_place p.taken < length p.inner.kids.items
mate_low width count p passed = by p.taken passed.fit
  where
    by : (k : ℕ) → k ≤ length p.inner.seps.items → mate_place k < length p.inner.kids.items
    by zero fit = omega (arith, passed.inner.more, passed.inner.some)
    by (suc k) fit = omega (arith, passed.inner.more, fit)

-- The neighbour under each of these blocks is a block of these levels.
abbrev pub AreMates : List (List Inner) → List PathStep → Type 0
AreMates us [] = Unit {0}
AreMates us (p ∷ ps) = (0 < times (mate_of p) (inner_numbers us)) × AreMates us ps

mates_down : (u : List Inner) (us : List (List Inner)) (ps : List PathStep) → AreMates us ps → AreMates (u ∷ us) ps
mates_down u us [] all = tt
mates_down u us (p ∷ ps) all = (omega (arith, all.0, times_append (mate_of p) (numbers u) (inner_numbers us)), mates_down u us ps all.1)

kid_down : (s : Step) (u v : List Inner) (us : List (List Inner)) (place number i n k : ℕ) → IsStep s u place number i n → numbers v ≡ kids_of u → 0 < times k s.kids → 0 < times k (inner_numbers (u ∷ v ∷ us))
kid_down s u v us place number i n k step is some =
    let p : Inner = (s.number, (s.kids, s.seps)) in
    omega (
      arith,
      some,
      times_append k (numbers u) (numbers v ++ inner_numbers us),
      times_append k (numbers v) (inner_numbers us),
      ap (times k) is,
      ap (λ (l : List Inner). times k (kids_of l)) step.is,
      ap (times k) (kids_append step.ups (p ∷ step.downs)),
      times_append k (kids_of step.ups) (s.kids ++ kids_of step.downs),
      times_append k s.kids (kids_of step.downs),
    )

some_down : (ps : List PathStep) (s : Step) (place number next below : ℕ) → IsPath (steps_of ps ++ s ∷ []) [] place number next below → ⊥
some_down [] s place number next below path = path
some_down (p ∷ ps) s place number next below path = path

-- so it is under each block of a path but the last one
pub mates_in : (width count : ℕ) (ps : List PathStep) (s : Step) (us lower : List (List Inner)) (place number next below : ℕ) (ns leaves : List ℕ) → IsPath (steps_of ps ++ s ∷ []) us place number next below → Hangs ns (us ++ lower) leaves → ArePassed width count ps → AreMates us ps
mates_in width count [] s us lower place number next below ns leaves path hangs passed = tt
mates_in width count (p ∷ ps) s [] lower place number next below ns leaves path hangs passed = absurd path
mates_in width count (p ∷ ps) s (u ∷ []) lower place number next below ns leaves path hangs passed = absurd (some_down ps s path.0 path.1 next below path.3)
mates_in width count (p ∷ ps) s (u ∷ v ∷ us) lower place number next below ns leaves path hangs passed = (
  kid_down (step_of p) u v us place number path.0 path.1 (mate_of p) path.2 hangs.1.0 (kid_in p.inner.kids.items (mate_place p.taken) (mate_low width count p passed.0)),
  mates_down u (v ∷ us) ps (mates_in width count ps s (v ∷ us) lower path.0 path.1 next below (kids_of u) leaves path.3 hangs.1 passed.1),
)

pub mates_stay : (bs bs' : List (List ℕ)) (width : ℕ) (us : List (List Inner)) → ((k : ℕ) → 0 < times k (inner_numbers us) → slice_get bs' k ≡ slice_get bs k) → (ps : List PathStep) → AreMates us ps → (ms : List InnerBlock) → SayMates bs width ps ms → SayMates bs' width ps ms
mates_stay bs bs' width us still [] all [] said = tt
mates_stay bs bs' width us still [] all (m ∷ ms) said = absurd said
mates_stay bs bs' width us still (p ∷ ps) all [] said = absurd said
mates_stay bs bs' width us still (p ∷ ps) all (m ∷ ms) said = (ap (says (inner_in width)) (still (mate_of p) all.0) ∙ said.0, mates_stay bs bs' width us still ps all.1 ms said.1)

-- where two neighbouring blocks under the path are written, these neighbours stay
pub joint_mates : (count : ℕ) (bs bs' : List (List ℕ)) (width more : ℕ) (j : Joint) (xs : List (List ℕ)) → IsJointUp count bs j xs → ((k : ℕ) → (k ≡ j.first → ⊥) → (k ≡ j.second → ⊥) → slice_get bs' k ≡ slice_get bs k)
    → ArePassed width more j.path.items → (ms : List InnerBlock) → SayMates bs width j.path.items ms → SayMates bs' width j.path.items ms
joint_mates count bs bs' width more j xs up still passed ms said =
    let p = up.pair in
    let level : List Inner = p.ahead ++ (j.first, (up.low, up.a)) ∷ (j.second, (up.high, up.b)) ∷ p.rest in
    let all = mates_in width more j.path.items (joint_step j up.sep) p.over (level ∷ p.lower) 0 j.root (length p.ahead) j.first (top_numbers j.root) (numbers p.leaves) p.path p.opened.hangs passed in
    mates_stay bs bs' width p.over (λ k some. let off = upper_off count bs j xs up k some in still k off.0 off.1) j.path.items all ms said

-- Each block of the levels says something.
pub none_some : {A : Type 0} (o : Option A) (x : A) → o ≡ Some x → o ≡ None → ⊥
none_some None x a b = cc a
none_some (Some y) x a b = cc b

pub same_or : (k n : ℕ) (ns : List ℕ) → 0 < times k (n ∷ ns) → (k ≡ n) ⊎ (0 < times k ns)
same_or k n ns some = grind (arith, nat_tests, some)

parts : (a b : ℕ) → 0 < a + b → (0 < a) ⊎ (0 < b)
parts zero b h = inr (omega (arith, h))
parts (suc a) b h = inl (omega arith)

pub either : {A B : Type 0} → (A → ⊥) → (B → ⊥) → A ⊎ B → ⊥
either f g (inl a) = f a
either f g (inr b) = g b

level_says : (width : ℕ) (look : ℕ → Option (List ℕ)) (u : List Inner) → SayLevel width look u → (k : ℕ) → 0 < times k (numbers u) → says (inner_in width) (look k) ≡ None → ⊥
level_says width look [] said k some none = absurd (omega (arith, some))
level_says width look (v ∷ u) said k some none =
    either (λ e. none_some (says (inner_in width) (look v.0)) v.1 said.0 (ap (λ n. says (inner_in width) (look n)) (sym e) ∙ none)) (λ more. level_says width look u said.1 k more none) (same_or k v.0 (numbers u) some)

pub levels_say : (width : ℕ) (look : ℕ → Option (List ℕ)) (us : List (List Inner)) → SayLevels width look us → (k : ℕ) → 0 < times k (inner_numbers us) → says (inner_in width) (look k) ≡ None → ⊥
levels_say width look [] said k some none = absurd (omega (arith, some))
levels_say width look (u ∷ us) said k some none =
    either (λ here. level_says width look u said.0 k here none) (λ more. levels_say width look us said.1 k more none) (parts (times k (numbers u)) (times k (inner_numbers us)) (omega (arith, some, times_append k (numbers u) (inner_numbers us))))

-- there is a neighbour under each of these blocks
abbrev pub HaveMates : ℕ → (ℕ → Option (List ℕ)) → List PathStep → Type 0
HaveMates width look [] = Unit {0}
HaveMates width look (p ∷ ps) = (says (inner_in width) (look (mate_of p)) ≡ None → ⊥) × HaveMates width look ps

pub mates_there : (width : ℕ) (look : ℕ → Option (List ℕ)) (us : List (List Inner)) → SayLevels width look us → (ps : List PathStep) → AreMates us ps → HaveMates width look ps
mates_there width look us said [] all = tt
mates_there width look us said (p ∷ ps) all = (levels_say width look us said (mate_of p) all.0, mates_there width look us said ps all.1)

pub mate_at : (width : ℕ) (look : ℕ → Option (List ℕ)) (ps : List PathStep) (i : ℕ) (p : PathStep) → i < length ps → p ≡ get_or ps i p → HaveMates width look ps → says (inner_in width) (look (mate_of p)) ≡ None → ⊥
mate_at width look [] i p low at all = absurd (omega (arith, low))
mate_at width look (q ∷ ps) zero p low at all = subst (λ (x : PathStep). says (inner_in width) (look (mate_of x)) ≡ None → ⊥) (sym at) all.0
mate_at width look (q ∷ ps) (suc i) p low at all = mate_at width look ps i p (omega (arith, low)) at all.1
