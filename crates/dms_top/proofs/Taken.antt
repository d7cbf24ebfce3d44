-- The text of a schema, a line at a time.
use Rattle.std.proofs.Common.{◌≡◌, ◌≢◌, ◌<◌, ◌≤◌, ◌+◌, ℕ, List, [], ◌∷◌, ◌++◌, Bool, true, false, cond, eqb, refl, sym, ap, ◌∙◌, arith, append_assoc, length, take, length-append}
use Rattle.std.specs.Prelude.{codes}
use Rattle.std.specs.declared.option.Option.{Option}
use Rattle.std.proofs.lemmas.List.{append-nil, take_all}
use Rattle.std.proofs.lemmas.Slice.Eq.{bytes_eq-Decides}
use Rattle.dms_runner.proofs.Running.{lines_step, some_first}
use Rattle.dms_runner.proofs.Lining.{line_text_long}
use Rattle.dms_feed.specs.Feeds.{Remains}
use Rattle.dms_feed.specs.Lines.{raw_lines, first_line, after_line, line_text}
use Rattle.dms_feed.specs.Raws.{CutLine, has_end}
use Rattle.dms_runner.specs.Running.{AreEnded, text_of_lines}
use Rattle.dms_runner.proofs.Running.{first_joined, joined_on, nothing_after}
use Rattle.dms_top.specs.declared.schema.SchemaText.{SchemaText}
use Rattle.dms_top.specs.Schema.{is_script, schema_part, script_part, schema_text}
use Rattle.dms_top.specs.Taking.{LeavesLines, TakesTextLine, EndsText, IsLong, IsWholeText, CutText}

pub text_on : (all : List ℕ) → all ≢ [] → is_script (first_line all) ≡ false → schema_text all ≡ first_line all ++ schema_text (after_line all)
text_on all some other = ap schema_part (lines_step all some) ∙ ap (λ (t : Bool). cond t [] (first_line all ++ schema_text (after_line all))) other

pub script_on : (all : List ℕ) → all ≢ [] → is_script (first_line all) ≡ false → script_part (raw_lines all) ≡ script_part (raw_lines (after_line all))
script_on all some other = ap script_part (lines_step all some) ∙ ap (λ (t : Bool). cond t (raw_lines (after_line all)) (script_part (raw_lines (after_line all)))) other

pub text_here : (all : List ℕ) → all ≢ [] → is_script (first_line all) ≡ true → schema_text all ≡ []
text_here all some here = ap schema_part (lines_step all some) ∙ ap (λ (t : Bool). cond t [] (first_line all ++ schema_text (after_line all))) here

pub script_here : (all : List ℕ) → all ≢ [] → is_script (first_line all) ≡ true → script_part (raw_lines all) ≡ raw_lines (after_line all)
script_here all some here = ap script_part (lines_step all some) ∙ ap (λ (t : Bool). cond t (raw_lines (after_line all)) (script_part (raw_lines (after_line all)))) here

not_script : (t : Bool) (l : List ℕ) → t ≡ is_script l → 8 < length l → t ≡ false
not_script false l e long = refl
not_script true l e long =
    let same : line_text l ≡ codes "SCRIPT" = (bytes_eq-Decides (line_text l) (codes "SCRIPT")).0 (sym e) in
    absurd (omega (arith, line_text_long l, ap length same, long))

pub long_line : (all text : List ℕ) → all ≢ [] → 1000008 < length (first_line all) → IsLong text all
long_line all text some long =
    let other : is_script (first_line all) ≡ false = not_script (is_script (first_line all)) (first_line all) refl (omega (arith, long)) in
    omega (arith, long, length-append text (schema_text all), ap length (text_on all some other), length-append (first_line all) (schema_text (after_line all)))

pub long_first : (all text : List ℕ) → 1000008 < length (first_line all) → IsLong text all
long_first all text long = long_line all text (some_first all (omega (arith, long))) long

whole : (l kept : List ℕ) (n : ℕ) → kept ≡ take 1000008 l → n ≡ length l → n ≤ 1000008 → kept ≡ l
whole l kept n is len small = is ∙ take_all 1000008 l (omega (arith, len, small))

line_some : (all : List ℕ) → all ≢ [] → 0 < length (first_line all)
line_some [] some = absurd (some refl)
line_some (b ∷ bs) some = at (eqb b 10) b bs
  where
    at : (t : Bool) (b : ℕ) (bs : List ℕ) → 0 < length (cond t (b ∷ []) (b ∷ first_line bs))
    at true b bs = omega arith
    at false b bs = omega arith

-- one line was taken
leaves_one : (all : List ℕ) → all ≢ [] → LeavesLines (first_line all ∷ []) all (after_line all)
leaves_one all some = record { lines = lines_step all some; whole = sym (first_joined all) ∙ ap (λ (l : List ℕ). l ++ after_line all) (sym (append-nil (first_line all))) }

-- lines, and then lines
leaves_on : (a b : List (List ℕ)) (all mid rest : List ℕ) → LeavesLines a all mid → LeavesLines b mid rest → LeavesLines (a ++ b) all rest
leaves_on a b all mid rest p q = record {
  lines = p.lines ∙ ap (λ (ls : List (List ℕ)). a ++ ls) q.lines ∙ sym (append_assoc a b (raw_lines rest));
  whole = p.whole ∙ ap (λ (x : List ℕ). text_of_lines a ++ x) q.whole ∙ sym (append_assoc (text_of_lines a) (text_of_lines b) rest) ∙ ap (λ (x : List ℕ). x ++ rest) (sym (joined_on a b));
}

leaves_none : (all : List ℕ) → all ≡ [] → LeavesLines [] all (after_line all)
leaves_none all none = record { lines = ap raw_lines none ∙ sym (ap (λ (l : List ℕ). raw_lines (after_line l)) none); whole = none ∙ sym (ap after_line none) }

-- ended lines, and then ended lines
pub ended_on : (a b : List (List ℕ)) → AreEnded a → AreEnded b → AreEnded (a ++ b)
ended_on [] b p q = q
ended_on (l ∷ ls) b p q = (p.0, ended_on ls b p.1 q)

-- a line that isn't SCRIPT was added, with its line feed
pub goes_on : (all old new kept held : List ℕ) (n : ℕ) (left : Option (List ℕ)) → all ≢ [] → kept ≡ take 1000008 (first_line all) → n ≡ length (first_line all) → n ≤ 1000008
    → is_script kept ≡ false → new ≡ old ++ kept → has_end (first_line all) ≡ true → Remains held left (after_line all) → TakesTextLine old new all held left
goes_on all old new kept held n left some is len small other added ended remains =
    let w : kept ≡ first_line all = whole (first_line all) kept n is len small in
    let o : is_script (first_line all) ≡ false = ap is_script (sym w) ∙ other in
    record {
      rest = after_line all;
      remains = remains;
      text = ap (λ (t : List ℕ). old ++ t) (text_on all some o) ∙ sym (append_assoc old (first_line all) (schema_text (after_line all))) ∙ ap (λ (k : List ℕ). (old ++ k) ++ schema_text (after_line all)) (sym w) ∙ ap (λ (t : List ℕ). t ++ schema_text (after_line all)) (sym added);
      script = script_on all some o;
      longer = omega (arith, ap length added, length-append old kept, ap length w, line_some all some);
      leaves = leaves_one all some;
      other = o;
      ended = ended;
    }

-- a last line that isn't SCRIPT was added, without a line feed
pub ends_last : (all old new kept held : List ℕ) (n : ℕ) (left : Option (List ℕ)) → all ≢ [] → kept ≡ take 1000008 (first_line all) → n ≡ length (first_line all) → n ≤ 1000008
    → is_script kept ≡ false → new ≡ old ++ kept → has_end (first_line all) ≡ false → Remains held left (after_line all) → EndsText false old new all held left
ends_last all old new kept held n left some is len small other added unended remains =
    let w : kept ≡ first_line all = whole (first_line all) kept n is len small in
    let o : is_script (first_line all) ≡ false = ap is_script (sym w) ∙ other in
    let e : after_line all ≡ [] = nothing_after all unended in
    let t : schema_text all ≡ first_line all = text_on all some o ∙ ap (λ (x : List ℕ). first_line all ++ schema_text x) e ∙ append-nil (first_line all) in
    record {
      rest = after_line all;
      remains = remains;
      text = added ∙ ap (λ (k : List ℕ). old ++ k) (w ∙ sym t);
      script = ap raw_lines e ∙ sym (script_on all some o ∙ ap (λ (x : List ℕ). script_part (raw_lines x)) e);
      done = first_line all ∷ [];
      leaves = leaves_one all some;
      behind = λ i.
          let none : take i (raw_lines (after_line all)) ≡ [] = ap (λ (x : List ℕ). take i (raw_lines x)) e ∙ take_all {A = List ℕ} i [] (omega arith) in
          ap (λ (ls : List (List ℕ)). script_part (first_line all ∷ ls)) none ∙ ap (λ (b : Bool). cond b [] (script_part [])) o ∙ sym none;
      ended = λ follows. absurd (cc);
      over = λ ends. e;
    }

-- the text grows by nothing
nothing_more : (old text : List ℕ) → text ≡ [] → old ≡ old ++ text
nothing_more old text none = sym (ap (λ (t : List ℕ). old ++ t) none ∙ append-nil old)

-- the line SCRIPT was taken
pub ends_at : (follows : Bool) (all old kept held : List ℕ) (n : ℕ) (left : Option (List ℕ)) → all ≢ [] → kept ≡ take 1000008 (first_line all) → n ≡ length (first_line all) → n ≤ 1000008
    → is_script kept ≡ true → has_end (first_line all) ≡ follows → Remains held left (after_line all) → EndsText follows old old all held left
ends_at follows all old kept held n left some is len small here end remains =
    let w : kept ≡ first_line all = whole (first_line all) kept n is len small in
    let h : is_script (first_line all) ≡ true = ap is_script (sym w) ∙ here in
    record {
      rest = after_line all;
      remains = remains;
      text = nothing_more old (schema_text all) (text_here all some h);
      script = sym (script_here all some h);
      done = first_line all ∷ [];
      leaves = leaves_one all some;
      behind = λ i. ap (λ (t : Bool). cond t (take i (raw_lines (after_line all))) (script_part (take i (raw_lines (after_line all))))) h;
      ended = λ so. (end ∙ so, tt);
      over = λ so. nothing_after all (end ∙ so);
    }

pub ends_none : (all old held : List ℕ) (left : Option (List ℕ)) → all ≡ [] → Remains held left (after_line all) → EndsText false old old all held left
ends_none all old held left none remains = record {
  rest = after_line all;
  remains = remains;
  text = nothing_more old (schema_text all) (ap schema_text none);
  script = ap (λ (l : List ℕ). raw_lines (after_line l)) none ∙ sym (ap (λ (l : List ℕ). script_part (raw_lines l)) none);
  done = [];
  leaves = leaves_none all none;
  behind = λ i.
      let e : take i (raw_lines (after_line all)) ≡ [] = ap (λ (l : List ℕ). take i (raw_lines (after_line l))) none ∙ take_all {A = List ℕ} i [] (omega arith) in
      ap script_part e ∙ sym e;
  ended = λ so. absurd (cc);
  over = λ so. ap after_line none;
}

-- the text is too long already
pub too_long : (all old new kept : List ℕ) (n : ℕ) → all ≢ [] → kept ≡ take 1000008 (first_line all) → n ≡ length (first_line all) → n ≤ 1000008
    → is_script kept ≡ false → new ≡ old ++ kept → 1000000 < length new → IsLong old all
too_long all old new kept n some is len small other added long =
    let w : kept ≡ first_line all = whole (first_line all) kept n is len small in
    let o : is_script (first_line all) ≡ false = ap is_script (sym w) ∙ other in
    omega (arith, long, ap length added, length-append old kept, ap length w, length-append old (schema_text all), ap length (text_on all some o), length-append (first_line all) (schema_text (after_line all)))

-- so much of the text was taken in so many lines, each with its line feed
pub record TextReaches (n : ℕ) (text all held : List ℕ) (left : Option (List ℕ)) : Type 0 where
  pub rest : List ℕ
  pub remains : Remains held left rest
  pub is : schema_text all ≡ text ++ schema_text rest
  pub script : script_part (raw_lines all) ≡ script_part (raw_lines rest)
  pub grown : n ≤ length text
  pub done : List (List ℕ)
  pub leaves : LeavesLines done all rest
  pub before : (ls : List (List ℕ)) → script_part (done ++ ls) ≡ script_part ls
  pub ended : AreEnded done

pub reaches_on : (n : ℕ) (old new all held held' : List ℕ) (left left' : Option (List ℕ)) (r : TextReaches n old all held left) → TakesTextLine old new r.rest held' left' → TextReaches (n + 1) new all held' left'
reaches_on n old new all held held' left left' r g =
    let l = first_line r.rest in
    record {
      rest = g.rest;
      remains = g.remains;
      is = r.is ∙ g.text;
      script = r.script ∙ g.script;
      grown = omega (arith, r.grown, g.longer);
      done = r.done ++ l ∷ [];
      leaves = leaves_on r.done (l ∷ []) all r.rest g.rest r.leaves g.leaves;
      before = λ ls. ap script_part (append_assoc r.done (l ∷ []) ls) ∙ r.before (l ∷ ls) ∙ ap (λ (t : Bool). cond t ls (script_part ls)) g.other;
      ended = ended_on r.done (l ∷ []) r.ended (g.ended, tt);
    }

pub reaches_end : (n : ℕ) (taken : SchemaText) (old all held held' : List ℕ) (left left' : Option (List ℕ)) (r : TextReaches n old all held left) → EndsText taken.script old taken.text r.rest held' left'
    → IsWholeText taken all held' left'
reaches_end n taken old all held held' left left' r e = record {
  is = e.text ∙ sym r.is;
  rest = e.rest;
  remains = e.remains;
  script = e.script ∙ sym r.script;
  done = r.done ++ e.done;
  leaves = leaves_on r.done e.done all r.rest e.rest r.leaves e.leaves;
  behind = λ i.
      let ls = take i (raw_lines e.rest) in
      ap script_part (append_assoc r.done e.done ls) ∙ r.before (e.done ++ ls) ∙ e.behind i;
  ended = λ so. ended_on r.done e.done r.ended (e.ended so);
  over = e.over;
}

-- taking failed
pub reaches_cut : (n : ℕ) (old all held : List ℕ) (left left' : Option (List ℕ)) (r : TextReaches n old all held left) → CutLine 1000008 left' r.rest → CutText all left'
reaches_cut n old all held left left' r cut = record {
  done = r.done;
  rest = r.rest;
  leaves = r.leaves;
  none = ap script_part (sym (append-nil r.done)) ∙ r.before [];
  ended = r.ended;
  cut = cut;
}

pub reaches_long : (n : ℕ) (old all held : List ℕ) (left : Option (List ℕ)) (r : TextReaches n old all held left) → IsLong old r.rest → 1000000 < length (schema_text all)
reaches_long n old all held left r long = omega (arith, long, ap length r.is)

pub reaches_over : (n : ℕ) (old all held : List ℕ) (left : Option (List ℕ)) → TextReaches n old all held left → 1000000 < n → 1000000 < length (schema_text all)
reaches_over n old all held left r over = omega (arith, over, r.grown, ap length r.is, length-append old (schema_text r.rest))
