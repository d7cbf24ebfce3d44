-- The next line of a script, and the lines behind it.
use Rattle.std.proofs.Common.{ℕ, zero, suc, ◌≡◌, ◌+◌, ◌-◌, ◌<◌, ◌≤◌, ◌%◌, Bool, true, false, cond, List, ◌++◌, length, drop, ap, sym, ◌∙◌, arith}
use Rattle.std.specs.Prelude.{◌==◌, codes, decimal, nat_lt, slice_set}
use Rattle.std.proofs.lemmas.Bool.Decides.{nat_tests}
use Rattle.std.proofs.lemmas.List.{drop_all}
use Rattle.dms_load.specs.declared.phase.Phase.{Phase}
use Rattle.dms_load.specs.declared.phase.Phase.TheVariants.{Choose}
use Rattle.dms_load.specs.Script.{Drawing, after_line, drawn, next_line, next_lines, open_text, phase_after, phase_of, phase_text, program_of, second_draw, third_draw, verb_text}

lt_is : (a b : ℕ) → a < b → nat_lt a b ≡ true
lt_is a b lt = grind (arith, nat_tests)

lt_not : (a b : ℕ) → b ≤ a → nat_lt a b ≡ false
lt_not a b le = grind (arith, nat_tests)

-- the first four lines open the database
pub opens_text : (d : Drawing) → d.opened < 4 → next_line d ≡ open_text (d.opened + 1)
unfolding next_line
opens_text d low =
    ap (λ (t : Bool). cond t (open_text (d.opened + 1)) (phase_text (program_of d + 1) (phase_of d) (drawn (second_draw d) % 1000 + 1) (drawn (third_draw d)))) (lt_is d.opened 4 low)

pub opens_after : (d : Drawing) → d.opened < 4 → after_line d ≡ record { opened = d.opened + 1; x = d.x; phases = d.phases }
unfolding after_line
opens_after d low =
    ap (λ (t : Bool). cond t (record { opened = d.opened + 1; x = d.x; phases = d.phases }) (record { opened = d.opened; x = third_draw d; phases = slice_set d.phases (program_of d) (phase_after (phase_of d)) })) (lt_is d.opened 4 low)

-- the others are drawn
drawn_text : (d : Drawing) → 4 ≤ d.opened → next_line d ≡ phase_text (program_of d + 1) (phase_of d) (drawn (second_draw d) % 1000 + 1) (drawn (third_draw d))
unfolding next_line
drawn_text d high =
    ap (λ (t : Bool). cond t (open_text (d.opened + 1)) (phase_text (program_of d + 1) (phase_of d) (drawn (second_draw d) % 1000 + 1) (drawn (third_draw d)))) (lt_not d.opened 4 high)

pub drawn_after : (d : Drawing) → 4 ≤ d.opened → after_line d ≡ record { opened = d.opened; x = third_draw d; phases = slice_set d.phases (program_of d) (phase_after (phase_of d)) }
unfolding after_line
drawn_after d high =
    ap (λ (t : Bool). cond t (record { opened = d.opened + 1; x = d.x; phases = d.phases }) (record { opened = d.opened; x = third_draw d; phases = slice_set d.phases (program_of d) (phase_after (phase_of d)) })) (lt_not d.opened 4 high)

pub text_by : (d : Drawing) (program key done : ℕ) (phase : Phase) → 4 ≤ d.opened → program ≡ program_of d → phase ≡ phase_of d → key ≡ drawn (second_draw d) → done ≡ drawn (third_draw d) → phase_text (program + 1) phase (key % 1000 + 1) done ≡ next_line d
text_by d program key done phase high p f k t = (λ i. phase_text (p i + 1) (f i) (k i % 1000 + 1) (t i)) ∙ sym (drawn_text d high)

-- a line is held, and the others follow
pub lines_more : (n : ℕ) (d : Drawing) → 0 < n → next_lines n d ≡ next_line d ++ next_lines (n - 1) (after_line d)
unfolding next_lines
lines_more zero d some = absurd (omega (arith, some))
lines_more (suc n) d some =
    let e : n ≡ suc n - 1 = omega arith in
    ap (λ (k : ℕ). next_line d ++ next_lines k (after_line d)) e

-- the line that was held is taken whole, and the next one is held
pub refilled : (line new : List ℕ) (place n : ℕ) (d e : Drawing) → place ≡ length line → 0 < n → new ≡ next_line d → e ≡ after_line d → new ++ next_lines (n - 1) e ≡ drop place line ++ next_lines n d
refilled line new place n d e whole some is then =
    (λ i. is i ++ next_lines (n - 1) (then i)) ∙ sym (lines_more n d some) ∙ ap (λ (l : List ℕ). l ++ next_lines n d) (sym (drop_all place line (omega (arith, whole))))

ne_is : (a : ℕ) → (a ≡ 0 → ⊥) → (a == 0) ≡ false
ne_is a h = grind (arith, nat_tests)

-- where the draw is odd a record is looked for
pub choose_odd : (k c : ℕ) → (c % 2 ≡ 0 → ⊥) → verb_text Choose k c ≡ codes "LOCK ACCT-SET AT ANO = " ++ decimal k
unfolding verb_text
choose_odd k c odd = ap (λ (t : Bool). cond t (codes "CREATE ACCOUNT") (codes "LOCK ACCT-SET AT ANO = " ++ decimal k)) (ne_is (c % 2) odd)

pub after_by : (d : Drawing) (opened x program : ℕ) (phases : List Phase) (phase : Phase) → 4 ≤ d.opened → opened ≡ d.opened → x ≡ third_draw d → phases ≡ d.phases → program ≡ program_of d → phase ≡ phase_after (phase_of d)
    → ◌≡◌ {A = Drawing} (record { opened = opened; x = x; phases = slice_set phases program phase }) (after_line d)
after_by d opened x program phases phase high o xx ps p f =
    let e : ◌≡◌ {A = Drawing} (record { opened = opened; x = x; phases = slice_set phases program phase }) (record { opened = d.opened; x = third_draw d; phases = slice_set d.phases (program_of d) (phase_after (phase_of d)) }) = (λ i. record { opened = o i; x = xx i; phases = slice_set (ps i) (p i) (f i) }) in
    e ∙ sym (drawn_after d high)
