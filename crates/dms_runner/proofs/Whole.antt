-- A stop within events, told of all of them.
use Rattle.std.proofs.Common.{ℕ, ◌≡◌, ◌≤◌, ◌+◌, ◌⊎◌, inl, inr, ⊎_elim, List, [], ◌∷◌, ◌++◌, length, take, Some, None, refl, sym, ◌∙◌, ap, arith, append_assoc, length-append, length-take}
use Rattle.std.specs.declared.option.Option.{Option}
use Rattle.dms_model.specs.Points.{StopFiles, Point, Quiet, Stop, LeavesPrefix}
use Rattle.dms_storeverbs.specs.View.{LeavesQuiets}
use Rattle.dms_storeverbs.proofs.Calls.{lower}
use Rattle.dms_runner.specs.Events.{RunEvent, text_of, quiets_of, durable_by, durable_after}
use Rattle.dms_runner.specs.EventLaws.{WholeLaw, SyncLaw, PointLaw}
use Rattle.dms_runner.proofs.Happening.{text_on, quiets_on, durable_on, length_grew}
use Rattle.dms_runner.proofs.Texts.{some_front}

covered_some : (sync : Option ℕ) (n durable all : ℕ) → sync ≡ Some n → durable_by sync durable all ≡ all
covered_some sync n durable all is = ap (λ (s : Option ℕ). durable_by s durable all) is

covered_fair : (sync : Option ℕ) (durable count more : ℕ) → durable ≤ count → (durable_by sync durable (count + more) ≤ count + more) × (durable ≤ durable_by sync durable (count + more))
covered_fair None durable count more low = (omega (arith, low), omega arith)
covered_fair (Some n) durable count more low = (omega arith, omega (arith, low))

-- what is durable stays durable
durable_keeps : (count durable : ℕ) (x : List RunEvent) → durable ≤ count → durable ≤ durable_after count durable x
durable_keeps count durable [] low = omega arith
durable_keeps count durable (e ∷ x) low =
    let fair = covered_fair e.sync durable count (length e.quiets) low in
    omega (arith, fair.1, durable_keeps (count + length e.quiets) (durable_by e.sync durable (count + length e.quiets)) x fair.0)

-- behind a syncpoint all points up to it are durable
durable_behind : (count durable : ℕ) (x : List RunEvent) (e : RunEvent) (y : List RunEvent) (n : ℕ) → e.sync ≡ Some n → count + length (quiets_of x) + length e.quiets ≤ durable_after count durable (x ++ e ∷ y)
durable_behind count durable x e y n is =
    let c = count + length (quiets_of x) in
    let s = durable_after count durable x in
    let all : durable_by e.sync s (c + length e.quiets) ≡ c + length e.quiets = covered_some e.sync n s (c + length e.quiets) is in
    omega (arith, durable_on count durable x (e ∷ y), all, durable_keeps (c + length e.quiets) (durable_by e.sync s (c + length e.quiets)) y (omega (arith, all)))

abbrev head_or : RunEvent → List RunEvent → RunEvent
head_or d [] = d
head_or d (x ∷ xs) = x

abbrev tail_of : List RunEvent → List RunEvent
tail_of [] = []
tail_of (x ∷ xs) = xs

-- of two events in a list, one stands before the other, or they are the same
record SamePlace (xs ys : List RunEvent) (a b : RunEvent) : Type 0 where
  before : xs ≡ ys
  here : a ≡ b

places : (xs : List RunEvent) (a : RunEvent) (us ys : List RunEvent) (b : RunEvent) (vs : List RunEvent) → xs ++ a ∷ us ≡ ys ++ b ∷ vs
    → ((k : List RunEvent) × (xs ≡ ys ++ b ∷ k)) ⊎ (SamePlace xs ys a b ⊎ ((k : List RunEvent) × (ys ≡ xs ++ a ∷ k)))
places [] a us [] b vs is = inr (inl (record { before = refl; here = ap (head_or b) is }))
places [] a us (y ∷ ys) b vs is = inr (inr (ys, ap (λ (l : List RunEvent). head_or y l ∷ ys) (sym is)))
places (x ∷ xs) a us [] b vs is = inl (xs, ap (λ (l : List RunEvent). head_or x l ∷ xs) is)
places (x ∷ xs) a us (y ∷ ys) b vs is = ⊎_elim
    (λ p. inl (p.0, ap (λ (l : List RunEvent). head_or x l ∷ xs) is ∙ ap (λ (l : List RunEvent). y ∷ l) p.1))
    (λ q. inr (⊎_elim
    (λ p. inl (record { before = ap (λ (l : List RunEvent). head_or x l ∷ xs) is ∙ ap (λ (l : List RunEvent). y ∷ l) p.before; here = p.here }))
    (λ p. inr (p.0, ap (λ (l : List RunEvent). y ∷ l) p.1 ∙ ap (λ (l : List RunEvent). head_or y l ∷ (xs ++ a ∷ p.0)) (sym is)))
    q))
    (places xs a us ys b vs (ap tail_of is))

left_lower : {W : StopFiles → Type 0} {low high next : ℕ} {points : List Point} {q : List Quiet} {stop : Stop} → low ≤ high → LeavesQuiets W high points next q stop → LeavesQuiets W low points next q stop
left_lower low l = record { made = l.made; rest = l.rest; all = l.all; front_of = l.front_of; grew = l.grew; front = lower (λ files w. w) low (omega arith) l.front }

left_more : {W : StopFiles → Type 0} {durable next : ℕ} {points : List Point} {q all : List Quiet} (r : List Quiet) {stop : Stop} → all ≡ q ++ r → LeavesQuiets W durable points next q stop → LeavesQuiets W durable points next all stop
left_more r is l = record { made = l.made; rest = l.rest ++ r; all = l.all; front_of = sym (append_assoc l.made l.rest r) ∙ ap (λ (x : List Quiet). x ++ r) l.front_of ∙ sym is; grew = l.grew; front = l.front }

length_front : {W : StopFiles → Type 0} {durable next : ℕ} {points : List Point} {stop : Stop} → LeavesPrefix W durable points next stop → durable ≤ length stop.points
length_front {points = points} f = omega (arith, ap (λ (l : List Point). length l) f.is, length-take f.count points, f.enough, f.within)

next_left : {W : StopFiles → Type 0} {high durable next : ℕ} {points : List Point} {q : List Quiet} {stop : Stop} → LeavesQuiets W high points next q stop → durable ≤ high → durable ≡ length points → next ≤ stop.next
next_left l under all = omega (arith, l.front.not_fallen, length_grew l.grew, l.front.enough, under, all)

-- it never rose by more than the points that are made
next_most : {W : StopFiles → Type 0} {durable next : ℕ} {points : List Point} {q : List Quiet} {stop : Stop} → LeavesQuiets W durable points next q stop → stop.next ≤ next + length q
next_most l = omega (arith, l.front.not_risen, length-append l.made l.rest, ap length l.front_of)

pub whole_law : WholeLaw
whole_law said points durable next events stop low s =
    let left = left_more (quiets_of s.rest) (ap quiets_of (sym s.all) ∙ quiets_on s.before (s.at ∷ s.rest) ∙ sym (append_assoc (quiets_of s.before) s.at.quiets (quiets_of s.rest))) (left_lower (durable_keeps (length points) durable s.before low) s.left) in
    record {
      left = left;
      not_fallen = λ all. next_left s.left (durable_keeps (length points) durable s.before low) all;
      not_risen = next_most left;
      text = λ t is.
          let n = s.text t is in
          let front = some_front (text_of s.before) s.at.text (text_of s.rest) n.0 in
          (front.0, n.1 ∙ append_assoc t (text_of s.before) (take n.0 s.at.text) ∙ ap (λ (l : List ℕ). t ++ l) (front.1 ∙ ap (take front.0) (sym (text_on s.before (s.at ∷ s.rest)) ∙ ap text_of s.all)));
    }

-- the text of a stop is no longer than that up to its event, this one's too, and no shorter than that before it
text_most : (t x y : List ℕ) (n : ℕ) (l : List ℕ) → l ≡ (t ++ x) ++ take n y → (length l ≤ length t + length x + length y) × (length t + length x ≤ length l)
text_most t x y n l is =
    let e = ap (λ (z : List ℕ). length z) is in
    (omega (arith, e, length-append (t ++ x) (take n y), length-append t x, length-take n y), omega (arith, e, length-append (t ++ x) (take n y), length-append t x))

text_behind : (x y z : List RunEvent) (e : RunEvent) → x ≡ y ++ e ∷ z → length (text_of y) + length e.text ≤ length (text_of x)
text_behind x y z e is = omega (arith, ap (λ (l : List RunEvent). length (text_of l)) is, ap length (text_on y (e ∷ z)), length-append (text_of y) (e.text ++ text_of z), length-append e.text (text_of z))

quiets_behind : (x y z : List RunEvent) (e : RunEvent) → x ≡ y ++ e ∷ z → length (quiets_of y ++ e.quiets) ≤ length (quiets_of x)
quiets_behind x y z e is = omega (arith, length-append (quiets_of y) e.quiets, ap (λ (l : List RunEvent). length (quiets_of l)) is, ap length (quiets_on y (e ∷ z)), length-append (quiets_of y) (e.quiets ++ quiets_of z), length-append e.quiets (quiets_of z))

-- no more quiet points are left than there are
left_most : {W : StopFiles → Type 0} {durable next : ℕ} {points : List Point} {q : List Quiet} {stop : Stop} → LeavesQuiets W durable points next q stop → length stop.points ≤ length points + length q
left_most {q = q} l = omega (arith, ap (λ (x : List Point). length x) l.front.is, length-take l.front.count l.all, length_grew l.grew, length-append l.made l.rest, ap length l.front_of)

pub sync_law : SyncLaw
sync_law said points durable next events stop low s before call rest n is synced t told printed =
    let m = s.text t told in
    let most = text_most t (text_of s.before) s.at.text m.0 stop.said m.1 in
    ⊎_elim
    (λ p. omega (arith, durable_behind (length points) durable before call p.0 n synced, ap (durable_after (length points) durable) p.1, length_front s.left.front))
    (λ q. absurd (⊎_elim
    (λ p. omega (arith, printed, most.0, ap (λ (l : List RunEvent). length (text_of l)) p.before, ap (λ (e : RunEvent). length e.text) p.here))
    (λ p. omega (arith, printed, most.0, text_behind before s.before p.0 s.at p.1))
    q))
    (places s.before s.at s.rest before call rest (s.all ∙ sym is))

pub point_law : PointLaw
point_law said points durable next events stop s before at rest is more t told =
    let m = s.text t told in
    let most = text_most t (text_of s.before) s.at.text m.0 stop.said m.1 in
    ⊎_elim
    (λ p. omega (arith, most.1, text_behind s.before before p.0 at p.1))
    (λ q. ⊎_elim
    (λ p. omega (arith, most.1, ap (λ (l : List RunEvent). length (text_of l)) p.before))
    (λ p. absurd (omega (arith, more, left_most s.left, quiets_behind before s.before p.0 s.at p.1)))
    q)
    (places s.before s.at s.rest before at rest (s.all ∙ sym is))
