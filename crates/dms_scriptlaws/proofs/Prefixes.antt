-- What a prefix of a true run tells, and what a stop within it leaves.
use Rattle.std.proofs.Common.{ℕ, zero, suc, ◌≡◌, ◌≤◌, ◌<◌, ◌+◌, ◌-◌, ◌==◌, ◌||◌, inl, inr, ⊎_elim, ◌∙◌, List, [], ◌∷◌, ◌++◌, Bool, true, false, take, map, length, refl, sym, ap, subst, arith, Option, Some, None}
use Rattle.std.proofs.lemmas.Bool.Decides.{nat_tests}
use Rattle.std.proofs.lemmas.List.{append_assoc, length-map, length-append}
use Rattle.dms_model.specs.Db.{Db}
use Rattle.dms_model.specs.Points.{Point, Quiet, told_point, known_point}
use Rattle.dms_runner.specs.Events.{RunEvent, text_of, quiets_of, durable_after, durable_by}
use Rattle.dms_runner.proofs.Happening.{quiets_on}
use Rattle.dms_scriptlaws.specs.Told.{told}
use Rattle.dms_scriptlaws.specs.Truths.{is_quiet_in, is_point_in, IsTruthful, LeavesTold, RiseFrom}
use Rattle.dms_scriptlaws.proofs.Telling.{IsSafe, Honest, AreNumberedFrom, told_stopped, told_safe}
use Rattle.dms_scriptlaws.proofs.Speaking.{IsTrueRun, durable_within}

pub numbered_rise : (n : ℕ) (qs : List Quiet) → AreNumberedFrom n qs → RiseFrom n qs
numbered_rise n [] h = refl
numbered_rise n (q ∷ qs) h =
    let here = h.0 in
    let rest = numbered_rise (n + 1) qs h.1 in
    λ i. here i ∷ rest i

numbered_front : (n : ℕ) (x y : List Quiet) → AreNumberedFrom n (x ++ y) → AreNumberedFrom n x
numbered_front n [] y h = tt
numbered_front n (q ∷ x) y h = (h.0, numbered_front (n + 1) x y h.1)

or_has : (b c : Bool) → (b ≡ false → c ≡ true) → (b || c) ≡ true
or_has true c h = refl
or_has false c h = h refl

numbered_has : (f n k : ℕ) (qs : List Quiet) → AreNumberedFrom f qs → f ≤ n → n < f + k → k ≤ length qs → is_quiet_in (take k qs) n ≡ true
numbered_has f n zero qs h low high few = absurd (omega (arith, low, high))
numbered_has f n (suc k) [] h low high few = absurd (omega (arith, few))
numbered_has f n (suc k) (q ∷ qs) h low high few =
    let is : q.0 ≡ f = h.0 in
    or_has (q.0 == n) (is_quiet_in (take k qs) n) (λ e. let apart : f + 1 ≤ n = grind (arith, nat_tests, e, is, low) in numbered_has (f + 1) n k qs h.1 apart (omega (arith, high)) (omega (arith, few)))

module _ (first : ℕ) (Q : Quiet → Type 0) (events : List RunEvent) (r : IsTrueRun first Q events) where
  before_numbered : (before : List RunEvent) (at : RunEvent) (rest : List RunEvent) → before ++ at ∷ rest ≡ events → AreNumberedFrom first (quiets_of before ++ (at.quiets ++ quiets_of rest))
  before_numbered before at rest split = subst (AreNumberedFrom first) (ap quiets_of (sym split) ∙ quiets_on before (at ∷ rest)) r.numbered

  told_so : (before : List RunEvent) (at : RunEvent) (rest : List RunEvent) (n : ℕ) → before ++ at ∷ rest ≡ events → IsSafe first (durable_after 0 0 before) (told (text_of before ++ take n at.text))
  told_so before at rest n split =
      told_safe first (durable_after 0 0 before) [] (text_of before ++ take n at.text) (told_stopped first 0 0 n before at rest (omega arith) (subst (Honest first 0 0) (sym split) r.honest))

  pub truthful : IsTruthful events
  truthful before at rest n split =
      ⊎_elim (λ h. inl h)
      (λ h. inr (numbered_has first (told (text_of before ++ take n at.text)) (durable_after 0 0 before) (quiets_of before) (numbered_front first (quiets_of before) (at.quiets ++ quiets_of rest) (before_numbered before at rest split)) h.0 h.1
      (omega (arith, durable_within 0 0 before (omega arith)))))
      (told_so before at rest n split)

  -- a stop

  front_same : (a b c : List ℕ) → a ++ b ≡ a ++ c → b ≡ c
  front_same [] b c e = e
  front_same (x ∷ xs) b c e = front_same xs b c (let t : xs ++ b ≡ xs ++ c = cc in t)

  covered_shift : (c : ℕ) (o : Option ℕ) (s s' all all' : ℕ) → s' ≡ c + s → all' ≡ c + all → durable_by o s' all' ≡ c + durable_by o s all
  covered_shift c None s s' all all' e f = e
  covered_shift c (Some n) s s' all all' e f = f

  durable_shift : (c n s n' s' : ℕ) (es : List RunEvent) → n' ≡ c + n → s' ≡ c + s → durable_after n' s' es ≡ c + durable_after n s es
  durable_shift c n s n' s' [] e f = f
  durable_shift c n s n' s' (x ∷ es) e f =
      let all : n' + length x.quiets ≡ c + (n + length x.quiets) = omega (arith, e) in
      durable_shift c (n + length x.quiets) (durable_by x.sync s (n + length x.quiets)) (n' + length x.quiets) (durable_by x.sync s' (n' + length x.quiets)) es all (covered_shift c x.sync s s' (n + length x.quiets) (n' + length x.quiets) f all)

  or_later : (b c : Bool) → c ≡ true → (b || c) ≡ true
  or_later true c h = refl
  or_later false c h = h

  behind_points : (m k j : ℕ) (points more : List Point) → j ≡ length points + k → is_point_in (take k more) m ≡ true → is_point_in (take j (points ++ more)) m ≡ true
  behind_points m k j [] more e h = let is : j ≡ k = omega (arith, e) in subst (λ (i : ℕ). is_point_in (take i more) m ≡ true) (sym is) h
  behind_points m k zero (p ∷ points) more e h = absurd (omega (arith, e))
  behind_points m k (suc j) (p ∷ points) more e h = or_later (p.number == m) (is_point_in (take j (points ++ more)) m) (behind_points m k j points more (omega (arith, e)) h)

  as_points : (m k : ℕ) (more : List Point) (made : List Quiet) → map told_point more ≡ map known_point made → is_point_in (take k more) m ≡ is_quiet_in (take k made) m
  as_points m zero more made e = (λ i. is_point_in (none_p i) m) ∙ sym (λ i. is_quiet_in (none_q i) m)
    where
      none_p : take 0 more ≡ []
      none_p = grind arith

      none_q : take 0 made ≡ []
      none_q = grind arith
  as_points m (suc k) [] [] e = refl
  as_points m (suc k) [] (q ∷ made) e = absurd (cc)
  as_points m (suc k) (p ∷ more) [] e = absurd (cc)
  as_points m (suc k) (p ∷ more) (q ∷ made) e =
      let here : told_point p ≡ known_point q = cc in
      let number : p.number ≡ q.0 = ap (λ (x : ℕ × Option Db). x.0) here in
      let tails : map told_point more ≡ map known_point made = cc in
      let rest = as_points m k more made tails in
      λ i. (number i == m) || rest i

  pub leaves_told : LeavesTold events
  leaves_told text printed points next stop s said =
      let tx = s.text text refl in
      let is : printed ≡ text_of s.before ++ take tx.0 s.at.text = front_same text printed _ (sym said ∙ tx.1 ∙ append_assoc text (text_of s.before) (take tx.0 s.at.text)) in
      let safe : IsSafe first (durable_after 0 0 s.before) (told printed) = subst (λ (t : List ℕ). IsSafe first (durable_after 0 0 s.before) (told t)) (sym is) (told_so s.before s.at s.rest tx.0 s.all) in
      let c = length points in
      let l = s.left in
      let f = l.front in
      let g = l.grew in
      let shift = durable_shift c 0 0 c c s.before (omega arith) (omega arith) in
      let lengths : length g.more ≡ length l.made = sym (length-map g.more told_point) ∙ ap length g.spells ∙ length-map l.made known_point in
      let all : length l.all ≡ c + length g.more = ap length g.is ∙ length-append points g.more in
      let enough : c + durable_after 0 0 s.before ≤ f.count = omega (arith, shift, f.enough) in
      let within : f.count ≤ c + length l.made = omega (arith, f.within, all, lengths) in
      let whole = before_numbered s.before s.at s.rest s.all in
      let numbered : AreNumberedFrom first (quiets_of s.before ++ s.at.quiets) = numbered_front first (quiets_of s.before ++ s.at.quiets) (quiets_of s.rest) (subst (AreNumberedFrom first) (sym (append_assoc (quiets_of s.before) s.at.quiets (quiets_of s.rest))) whole) in
      let made : AreNumberedFrom first l.made = numbered_front first l.made l.rest (subst (AreNumberedFrom first) (sym l.front_of) numbered) in
      ⊎_elim (λ h. inl h)
      (λ h.
      let k = f.count - c in
      let has = numbered_has first (told printed) k l.made made h.0 (omega (arith, h.1, enough)) (omega (arith, within)) in
      let point = as_points (told printed) k g.more l.made g.spells ∙ has in
      inr (subst (λ (ps : List Point). is_point_in ps (told printed) ≡ true) (sym (f.is ∙ ap (take f.count) g.is)) (behind_points (told printed) k f.count points g.more (omega (arith, enough)) point)))
      safe
