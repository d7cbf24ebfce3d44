-- The way up of an insert in code: a block that isn't written yet, with the way to it and the blocks that were taken for it.
use Rattle.std.proofs.Common.{◌≡◌, ℕ, zero, suc, ◌+◌, ◌*◌, ◌/◌, ◌-◌, ◌^◌, ◌≤◌, ◌<◌, ◌⊎◌, inl, inr, max, List, [], ◌∷◌, ◌++◌, Bool, true, false, Some, refl, sym, ap, subst, ◌∙◌, length, take, drop, slice_get, get_or, length-append, append_assoc, arith}
use Rattle.std.specs.Prelude.{if◌then◌else◌, nat_le}
use Rattle.std.specs.declared.option.Option.{Option}
use Rattle.std.proofs.Math.Nat as nat
use Rattle.std.proofs.lemmas.Bool.{cases_lt}
use Rattle.std.proofs.lemmas.Bool.Decides.{nat_tests}
use Rattle.dms_block.specs.Content.{limit, put_block}
use Rattle.dms_block.specs.ContentLaws.{laid_length}
use Rattle.dms_chain.specs.Laid.{laid_look}
use Rattle.dms_chain.specs.Linked.{numbers, put, times}
use Rattle.dms_chain.specs.LinkedLaws.{times_append, times_own}
use Rattle.dms_chain.specs.ListBlocks.{flat}
use Rattle.dms_chain.specs.Parts.{wide_both, wide_drop, wide_first, wide_second, wide_take}
use Rattle.dms_chain.specs.Seen.{IsListWidth}
use Rattle.dms_chain.specs.SpellLaws.{AllWide}
use Rattle.dms_tree.specs.declared.raising.Hole.{Hole}
use Rattle.dms_tree.specs.declared.raising.PathStep.{PathStep}
use Rattle.dms_tree.specs.Fives.{four_at_least}
use Rattle.dms_tree.specs.LaceLaws.{kids_append}
use Rattle.dms_tree.specs.Levels.{Hangs, Inner, inner_numbers, kids_of}
use Rattle.dms_tree.specs.OpenTree.{tree_times}
use Rattle.dms_tree.specs.Paths.{IsPath, Step, part_kids, path_last}
use Rattle.dms_tree.specs.Settles.{IsHole, path_cut, root_cut}
use Rattle.dms_tree.specs.TreeBlocks.{inner_bytes, inner_half, inner_in}
use Rattle.dms_tree.specs.TreeSpells.{AreNumbers, IsInner, inner_again}

abbrev pub step_of : PathStep → Step
step_of p = record { number = p.number; kids = p.inner.kids.items; seps = p.inner.seps.items; taken = p.taken }

abbrev pub steps_of : List PathStep → List Step
steps_of [] = []
steps_of (p ∷ ps) = step_of p ∷ steps_of ps

pub steps_append : (ps qs : List PathStep) → steps_of (ps ++ qs) ≡ steps_of ps ++ steps_of qs
steps_append [] qs = refl
steps_append (p ∷ ps) qs = ap (λ (l : List Step). step_of p ∷ l) (steps_append ps qs)

-- whether so many separators fit in a block
abbrev pub fits : ℕ → ℕ → Bool
fits width n = nat_le (n * (width + 4)) 1017

-- how many blocks are written at most until a block that isn't written yet fits
abbrev pub writes_up : Hole → ℕ
writes_up h = if fits h.width (length h.inner.seps.items) then 0 else 2 + 2 * length h.path.items

-- how many blocks are new where a block under a path is cut: one for it, one for each block above that has no room, and one for a new root
abbrev pub needs_from : ℕ → ℕ → List PathStep → ℕ
needs_from width n [] = n
needs_from width n (p ∷ ps) = needs_from width (if fits width (length p.inner.seps.items + 1) then 1 else n + 1) ps

abbrev pub needs : ℕ → List PathStep → ℕ
needs width ps = needs_from width 2 ps

pub needs_most : (width n : ℕ) (ps : List PathStep) → needs_from width n ps ≤ n + length ps
needs_most width n [] = omega arith
needs_most width n (p ∷ ps) = by_case (fits width (length p.inner.seps.items + 1)) (needs_most width (if fits width (length p.inner.seps.items + 1) then 1 else n + 1) ps)
  where
    by_case : (t : Bool) → needs_from width (if t then 1 else n + 1) ps ≤ (if t then 1 else n + 1) + length ps → needs_from width (if t then 1 else n + 1) ps ≤ n + suc (length ps)
    by_case true h = omega (arith, h)
    by_case false h = omega (arith, h)

pub needs_last : (width n : ℕ) (ps : List PathStep) (p : PathStep) → needs_from width n (ps ++ p ∷ []) ≡ (if fits width (length p.inner.seps.items + 1) then 1 else needs_from width n ps + 1)
needs_last width n [] p = refl
needs_last width n (q ∷ ps) p = needs_last width (if fits width (length q.inner.seps.items + 1) then 1 else n + 1) ps p

-- a block on the way, below so many, and room for one child more
pub record IsPassed (width count : ℕ) (p : PathStep) : Type 0 where
  pub low : p.number < count
  pub inner : IsInner width p.inner.kids.items p.inner.seps.items
  pub fit : p.taken ≤ length p.inner.seps.items

abbrev pub ArePassed : ℕ → ℕ → List PathStep → Type 0
ArePassed width count [] = Unit {0}
ArePassed width count (p ∷ ps) = IsPassed width count p × ArePassed width count ps

abbrev pub HaveRoom : List PathStep → Type 0
HaveRoom [] = Unit {0}
HaveRoom (p ∷ ps) = (p.taken < length p.inner.kids.items) × (p.taken ≤ length p.inner.seps.items) × HaveRoom ps

pub passed_room : (width count : ℕ) (ps : List PathStep) → ArePassed width count ps → HaveRoom ps
passed_room width count [] all = tt
passed_room width count (p ∷ ps) all = (omega (arith, all.0.inner.more, all.0.fit), all.0.fit, passed_room width count ps all.1)

pub passed_first : (width count : ℕ) (ps qs : List PathStep) → ArePassed width count (ps ++ qs) → ArePassed width count ps
passed_first width count [] qs all = tt
passed_first width count (p ∷ ps) qs all = (all.0, passed_first width count ps qs all.1)

pub passed_second : (width count : ℕ) (ps qs : List PathStep) → ArePassed width count (ps ++ qs) → ArePassed width count qs
passed_second width count [] qs all = all
passed_second width count (p ∷ ps) qs all = passed_second width count ps qs all.1

pub passed_both : (width count : ℕ) (ps qs : List PathStep) → ArePassed width count ps → ArePassed width count qs → ArePassed width count (ps ++ qs)
passed_both width count [] qs a b = b
passed_both width count (p ∷ ps) qs a b = (a.0, passed_both width count ps qs a.1 b)

pub passed_more : (width count more : ℕ) (ps : List PathStep) → count ≤ more → ArePassed width count ps → ArePassed width more ps
passed_more width count more [] le all = tt
passed_more width count more (p ∷ ps) le all = (record { low = omega (arith, le, all.0.low); inner = all.0.inner; fit = all.0.fit }, passed_more width count more ps le all.1)

pub room_first : (ps qs : List PathStep) → HaveRoom (ps ++ qs) → HaveRoom qs
room_first [] qs all = all
room_first (p ∷ ps) qs all = room_first ps qs all.2

-- blocks that are written one after another: none is past the end of what was written before
abbrev pub Follow : ℕ → List ℕ → Type 0
Follow count [] = Unit {0}
Follow count (f ∷ fs) = (f ≤ count) × Follow (max count (f + 1)) fs

abbrev pub end_after : ℕ → List ℕ → ℕ
end_after count [] = count
end_after count (f ∷ fs) = end_after (max count (f + 1)) fs

pub end_more : (count : ℕ) (fs : List ℕ) → count ≤ end_after count fs
end_more count [] = omega arith
end_more count (f ∷ fs) = omega (arith, end_more (max count (f + 1)) fs)

abbrev pub hole_end : ℕ → Hole → ℕ
hole_end count h = end_after (max count (h.number + 1)) h.fresh.items

-- what holds of a block that isn't written yet, in a file of so many blocks
pub record HoleHolds (count : ℕ) (h : Hole) : Type 0 where
  pub wide_is : IsListWidth h.width
  pub near : h.number ≤ count
  pub follows : Follow (max count (h.number + 1)) h.fresh.items
  pub more : length h.inner.kids.items ≡ suc (length h.inner.seps.items)
  pub some : 0 < length h.inner.seps.items
  pub wide : AllWide h.width h.inner.seps.items
  pub almost : length h.inner.seps.items * (h.width + 4) ≤ 1017 + (h.width + 4)
  pub passed : ArePassed h.width count h.path.items
  pub needs_is : length h.fresh.items ≡ (if fits h.width (length h.inner.seps.items) then 0 else needs h.width h.path.items)

-- it stands in an open tree
abbrev pub IsUp : (end free : ℕ) → List (List ℕ) → Hole → List (List ℕ) → Type 0
IsUp end free bs h xs = IsHole h.width end (slice_get bs) h.root free (steps_of h.path.items) h.number h.inner.kids.items h.inner.seps.items (h.number ∷ []) h.fresh.items xs

-- One level up: the last block of the path has one child more.
pub record RaisedPath (root : ℕ) (fresh : List ℕ) (path : List PathStep) (other : ℕ) (sep : List ℕ) (h : Hole) : Type 0 where
  pub step : PathStep
  pub path_is : path ≡ h.path.items ++ step ∷ []
  pub root_is : h.root ≡ root
  pub fresh_is : h.fresh.items ≡ fresh
  pub number_is : h.number ≡ step.number
  pub kids_is : h.inner.kids.items ≡ take (step.taken + 1) step.inner.kids.items ++ other ∷ drop (step.taken + 1) step.inner.kids.items
  pub seps_is : h.inner.seps.items ≡ take step.taken step.inner.seps.items ++ sep ∷ drop step.taken step.inner.seps.items

-- or there is a new root of two children
pub record RaisedRoot (fresh : List ℕ) (path : List PathStep) (child other : ℕ) (sep : List ℕ) (h : Hole) : Type 0 where
  pub path_is : path ≡ []
  pub path_now : h.path.items ≡ []
  pub fresh_is : fresh ≡ h.root ∷ h.fresh.items
  pub number_is : h.number ≡ h.root
  pub kids_is : h.inner.kids.items ≡ child ∷ other ∷ []
  pub seps_is : h.inner.seps.items ≡ sep ∷ []

abbrev pub IsRaised : ℕ → List ℕ → List PathStep → ℕ → ℕ → List ℕ → Hole → Type 0
IsRaised root fresh path child other sep h = RaisedPath root fresh path other sep h ⊎ RaisedRoot fresh path child other sep h

-- children and separators in two halves, and the separator between them
pub record AreHalves (kids : List ℕ) (seps : List (List ℕ)) (low high : List ℕ) (a : List (List ℕ)) (sep : List ℕ) (b : List (List ℕ)) : Type 0 where
  pub kids_is : kids ≡ low ++ high
  pub seps_is : seps ≡ a ++ sep ∷ b
  pub kids_half : length low ≡ suc (length a)
  pub seps_half : length a ≡ length seps / 2

-- sizes

pub more_times : (a b w : ℕ) → a ≤ b → a * w ≤ b * w
more_times a b w h = grind arith

twice : (m k : ℕ) → (2 * m) * k ≡ 2 * (m * k)
twice m k = grind arith

one_times : (n k : ℕ) → (n + 1) * k ≡ n * k + k
one_times n k = grind arith

over_most : (k n : ℕ) → 0 < k → 1017 < n * k → 1017 / k < n
over_most k n some many = elim (cases_lt (1017 / k) n) [
  | inl less ↦ less
  | inr past ↦ absurd (omega (arith, many, (nat.le-div_iff_mul-le {k = k} {x = n} {y = 1017} some).0 past))
]

fits_low : (width n : ℕ) → fits width n ≡ true → n * (width + 4) ≤ 1017
fits_low width n h = grind (arith, nat_tests, h)

fits_over : (width n : ℕ) → fits width n ≡ false → 1017 < n * (width + 4)
fits_over width n h = grind (arith, nat_tests, h)

low_fits : (width n : ℕ) → n * (width + 4) ≤ 1017 → fits width n ≡ true
low_fits width n h = grind (arith, nat_tests, h)

over_fits : (width n : ℕ) → 1017 < n * (width + 4) → fits width n ≡ false
over_fits width n h = grind (arith, nat_tests, h)

-- both halves of a block that is too full
pub record HalfSizes (width n a b : ℕ) : Type 0 where
  pub low : inner_half width ≤ a
  pub high : inner_half width ≤ b
  pub some : 0 < a
  pub some' : 0 < b
  pub room : a * (width + 4) ≤ 1017
  pub room' : b * (width + 4) ≤ 1017

pub half_sizes : (width n a b : ℕ) → IsListWidth width → 1017 < n * (width + 4) → n * (width + 4) ≤ 1017 + (width + 4) → a ≡ n / 2 → n ≡ a + suc b → HalfSizes width n a b
half_sizes width n a b w many almost is sum =
    let most = over_most (width + 4) n (omega arith) many in
    let four = four_at_least width w.most in
    let low : inner_half width ≤ a = omega (arith, most, is) in
    let high : inner_half width ≤ b = omega (arith, most, is, sum) in
    let room : a * (width + 4) ≤ 1017 = omega (arith, w.most, almost, more_times (2 * a) n (width + 4) (omega (arith, is)), twice a (width + 4)) in
    record { low = low; high = high; some = omega (arith, four, low); some' = omega (arith, four, high); room = room; room' = omega (arith, room, more_times b a (width + 4) (omega (arith, is, sum))) }

pub flat_long : (w : ℕ) (xs : List (List ℕ)) → AllWide w xs → length (flat xs) ≡ length xs * w
flat_long w [] a = omega arith
flat_long w (x ∷ xs) a = omega (arith, length-append x (flat xs), a.0, flat_long w xs a.1, plus (length xs) w)
  where
    plus : (n w : ℕ) → suc n * w ≡ w + n * w
    plus n w = grind arith

-- what a block that is written asks for
pub inner_fits : (w : ℕ) (kids : List ℕ) (seps : List (List ℕ)) → IsInner w kids seps → 3 + 4 * length kids + length (flat seps) ≤ 1024
inner_fits w kids seps is = omega (arith, is.more, flat_long w seps is.wide, is.room, parts (length seps) w)
  where
    parts : (n w : ℕ) → n * (w + 4) ≡ n * w + 4 * n
    parts n w = grind arith

pub inner_few : (w : ℕ) (kids : List ℕ) (seps : List (List ℕ)) → IsInner w kids seps → length seps ≤ 1017
inner_few w kids seps is = omega (arith, is.room, parts (length seps) w)
  where
    parts : (n w : ℕ) → n * (w + 4) ≡ n * w + 4 * n
    parts n w = grind arith

-- the two halves are blocks
pub record InnerHalves (width : ℕ) (low high : List ℕ) (a b : List (List ℕ)) : Type 0 where
  pub sizes : (inner_half width ≤ length a) × (inner_half width ≤ length b)
  pub low_is : IsInner width low a
  pub high_is : IsInner width high b

pub inner_halves : (count : ℕ) (h : Hole) (low high : List ℕ) (a : List (List ℕ)) (sep : List ℕ) (b : List (List ℕ)) → HoleHolds count h → 1017 < length h.inner.seps.items * (h.width + 4) → AreHalves h.inner.kids.items h.inner.seps.items low high a sep b → InnerHalves h.width low high a b
inner_halves count h low high a sep b holds many halves =
    let seps = h.inner.seps.items in
    let size : length seps ≡ length a + suc (length b) = omega (arith, ap (λ (l : List (List ℕ)). length l) halves.seps_is, length-append a (sep ∷ b)) in
    let s = half_sizes h.width (length seps) (length a) (length b) holds.wide_is many holds.almost halves.seps_half size in
    let wide = subst (AllWide h.width) halves.seps_is holds.wide in
    record {
      sizes = (s.low, s.high);
      low_is = record { more = halves.kids_half; some = s.some; room = s.room; wide = wide_first h.width a (sep ∷ b) wide };
      high_is = record {
        more = omega (arith, holds.more, ap (λ (l : List ℕ). length l) halves.kids_is, length-append low high, halves.kids_half, size);
        some = s.some';
        room = s.room';
        wide = (wide_second h.width a (sep ∷ b) wide).1;
      };
    }

-- numbers of children

numbers_low : (ns : List ℕ) → ((k : ℕ) → 0 < times k ns → k < 2 ^ 32) → AreNumbers ns
numbers_low [] low = tt
numbers_low (n ∷ ns) low = (low n (omega (arith, times_own n)), numbers_low ns (λ k some. low k (omega (arith, some))))

kids_in : (over : List (List Inner)) (u : List Inner) (lower : List (List Inner)) (ns leaves : List ℕ) → Hangs ns (over ++ u ∷ lower) leaves → (k : ℕ) → times k (kids_of u) ≤ times k (inner_numbers (over ++ u ∷ lower)) + times k leaves
kids_in [] u [] ns leaves hangs k = omega (arith, ap (times k) hangs.1)
kids_in [] u (v ∷ lower) ns leaves hangs k = omega (arith, ap (times k) hangs.1.0, times_append k (numbers u) (numbers v ++ inner_numbers lower), times_append k (numbers v) (inner_numbers lower))
kids_in (x ∷ over) u lower ns leaves hangs k = omega (arith, kids_in over u lower (kids_of x) leaves hangs.1 k, times_append k (numbers x) (inner_numbers (over ++ u ∷ lower)))

pub hole_kids : (width count : ℕ) (look : ℕ → Option (List ℕ)) (root free : ℕ) (ss : List Step) (n : ℕ) (kids : List ℕ) (seps : List (List ℕ)) (holes loose : List ℕ) (xs : List (List ℕ)) → IsHole width count look root free ss n kids seps holes loose xs → (k : ℕ) → 0 < times k kids → k < count
hole_kids width count look root free ss n kids seps holes loose xs h k some =
    let u = h.ups ++ (n, (kids, seps)) ∷ h.downs in
    h.opened.low k (omega (
      arith,
      some,
      kids_in h.over u h.lower _ (numbers h.leaves) h.opened.hangs k,
      ap (times k) (kids_append h.ups ((n, (kids, seps)) ∷ h.downs)),
      times_append k (kids_of h.ups) (kids ++ kids_of h.downs),
      times_append k kids (kids_of h.downs),
      tree_times k (h.over ++ u ∷ h.lower) h.leaves h.spares,
    ))

pub kids_first : (low high kids : List ℕ) (count : ℕ) → count ≤ 2097152 → kids ≡ low ++ high → ((k : ℕ) → 0 < times k kids → k < count) → AreNumbers low × AreNumbers high
kids_first low high kids count most is each = (
  numbers_low low (λ k some. omega (arith, most, each k (omega (arith, some, ap (times k) is, times_append k low high)))),
  numbers_low high (λ k some. omega (arith, most, each k (omega (arith, some, ap (times k) is, times_append k low high)))),
)

pub kids_numbers : (kids : List ℕ) (count : ℕ) → count ≤ 2097152 → ((k : ℕ) → 0 < times k kids → k < count) → AreNumbers kids
kids_numbers kids count most each = numbers_low kids (λ k some. omega (arith, most, each k some))
