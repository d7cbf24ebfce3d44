-- What was taken where taking from the input fails.
use Rattle.std.proofs.Common.{◌≡◌, ◌+◌, ℕ, Bool, List, [], ◌++◌, refl, sym, ap, ◌∙◌, subst, arith, append_assoc, length, length-append, length-take, take}
use Rattle.std.specs.declared.option.Option.{Option}
use Rattle.std.proofs.Math.Seq.{take-append-add}
use Rattle.std.proofs.lemmas.List.{take_at}
use Rattle.dms_desc.specs.Shape.{Described}
use Rattle.dms_feed.specs.Lines.{raw_lines}
use Rattle.dms_model.specs.Db.{empty_db}
use Rattle.dms_plain.specs.Told.{text_if}
use Rattle.dms_runner.specs.Answers.{script_run}
use Rattle.dms_runner.specs.Events.{RunEvent}
use Rattle.dms_runner.specs.Running.{AreEnded, bytes_of, text_of_lines, CutInput}
use Rattle.dms_runner.proofs.Running.{joined_on}
use Rattle.dms_top.specs.TryLimits.{CutLines, CutTry, SaidIf, WithinLimits}
use Rattle.dms_top.proofs.Printing.{none_said, none_within, told_prints, within_front}
use Rattle.dms_top.proofs.Taken.{ended_on}
use Rattle.dms_top.specs.Schema.{script_part}
use Rattle.dms_top.specs.Taking.{LeavesLines, IsBehind, CutText}

-- the lines that were taken, and what was printed
pub cut_lines : (b : Bool) (before after : List ℕ) (d : Described) (all : List ℕ) (left : Option (List ℕ)) → CutInput d empty_db 1 all left (text_if b before) (text_if b after) → CutLines (SaidIf b before after) d all left
cut_lines b before after d all left c = record {
  n = c.n;
  within = c.took.within;
  ended = c.ended;
  part = c.part;
  rest = c.rest;
  whole = c.whole;
  left_is = c.left_is;
  unended = c.unended;
  before = within_front d (raw_lines all) c.n (text_if b before) (text_if b after) c.took;
  text = λ tells. told_prints b before after _ tells c.took.text;
  fits = c.fits;
  last = c.last;
}

pub cut_lines_described : (said : List RunEvent → Type 0) (d d' : Described) (all : List ℕ) (left : Option (List ℕ)) → d ≡ d' → CutLines said d' all left → CutLines said d all left
cut_lines_described said d d' all left e p = subst (λ (x : Described). CutLines said x all left) (sym e) p

-- the same texts
pub cut_said : (b : Bool) (before after before' after' : List ℕ) (d : Described) (all : List ℕ) (left : Option (List ℕ)) → after ≡ after' → before ≡ before' → CutLines (SaidIf b before' after') d all left → CutLines (SaidIf b before after) d all left
cut_said b before after before' after' d all left a s p =
    subst (λ (x : List ℕ). CutLines (SaidIf b before x) d all left) (sym a) (subst (λ (x : List ℕ). CutLines (SaidIf b x after') d all left) (sym s) p)

pub cut_described : (said : List RunEvent → Type 0) (d d' : Described) (all : List ℕ) (left : Option (List ℕ)) → d ≡ d' → CutTry said d' all left → CutTry said d all left
cut_described said d d' all left e p = subst (λ (x : Described). CutTry said x all left) (sym e) p

-- within the text of the schema: no line of the script was taken
pub cut_text : (b : Bool) (said : List ℕ) (d : Described) (all : List ℕ) (left : Option (List ℕ)) → CutText all left → CutTry (SaidIf b said said) d all left
cut_text b said d all left c =
    let t : take (length c.done) (raw_lines all) ≡ c.done = ap (take (length c.done)) c.leaves.lines ∙ take_at c.done (raw_lines c.rest) (length c.done) refl in
    let none : script_part (take (length c.done) (raw_lines all)) ≡ [] = ap script_part t ∙ c.none in
    record {
      n = length c.done;
      within = omega (arith, ap length c.leaves.lines, length-append c.done (raw_lines c.rest));
      ended = subst AreEnded (sym t) c.ended;
      part = c.cut.part;
      rest = c.cut.rest;
      whole = c.leaves.whole ∙ ap (λ (x : List ℕ). text_of_lines c.done ++ x) c.cut.whole ∙ ap (λ (ls : List (List ℕ)). text_of_lines ls ++ (c.cut.part ++ c.cut.rest)) (sym t);
      left_is = c.cut.left_is;
      unended = c.cut.unended;
      before = none_within d (script_part (take (length c.done) (raw_lines all))) none;
      text = subst (λ (ls : List (List ℕ)). SaidIf b said said (script_run d empty_db 1 ls).events) (sym none) (none_said b d said);
      fits = omega (arith, ap bytes_of none, c.cut.fits);
      last = λ end. absurd (omega (arith, end, ap length none));
    }

-- within the script
pub cut_script : (said : List RunEvent → Type 0) (d : Described) (done : List (List ℕ)) (all mid : List ℕ) (left : Option (List ℕ)) → LeavesLines done all mid → IsBehind done mid → AreEnded done → CutLines said d mid left → CutTry said d all left
cut_script said d done all mid left leaves behind ended c =
    let ls = take c.n (raw_lines mid) in
    let t : take (length done + c.n) (raw_lines all) ≡ done ++ ls = ap (take (length done + c.n)) leaves.lines ∙ take-append-add done (raw_lines mid) c.n in
    let s : script_part (take (length done + c.n) (raw_lines all)) ≡ ls = ap script_part t ∙ behind c.n in
    record {
      n = length done + c.n;
      within = omega (arith, ap length leaves.lines, length-append done (raw_lines mid), c.within);
      ended = subst AreEnded (sym t) (ended_on done ls ended c.ended);
      part = c.part;
      rest = c.rest;
      whole = leaves.whole ∙ ap (λ (x : List ℕ). text_of_lines done ++ x) c.whole ∙ sym (append_assoc (text_of_lines done) (text_of_lines ls) (c.part ++ c.rest))
          ∙ ap (λ (x : List ℕ). x ++ (c.part ++ c.rest)) (sym (joined_on done ls)) ∙ ap (λ (xs : List (List ℕ)). text_of_lines xs ++ (c.part ++ c.rest)) (sym t);
      left_is = c.left_is;
      unended = c.unended;
      before = subst (λ (xs : List (List ℕ)). WithinLimits d xs) (sym s) c.before;
      text = subst (λ (xs : List (List ℕ)). said (script_run d empty_db 1 xs).events) (sym s) c.text;
      fits = omega (arith, ap bytes_of s, c.fits);
      last = λ end. c.last (omega (arith, end, ap length s, length-take c.n (raw_lines mid), c.within));
    }
