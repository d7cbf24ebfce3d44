use Rattle.std.proofs.Common.{◌≡◌, ◌∙◌, ap, refl, sym, Ok, Err, List, ℕ}
use Rattle.dms_desc.specs.Shape.{as_described}
use Rattle.dms_feed.specs.Lines.{raw_lines}
use Rattle.dms_model.specs.Db.{empty_db}
use Rattle.dms_plain.specs.Speaking.{only_none}
use Rattle.dms_runner.specs.Answers.{script_events}
use Rattle.dms_runner.specs.Events.{text_of}
use Rattle.dms_top.specs.Answering.{script_of, try_events, try_text}
use Rattle.dms_newdb.specs.Judging.{judge_schema}
use Rattle.dms_top.specs.Schema.{schema_text}
use Rattle.dms_top.proofs.Cutting.{cut_described, cut_script}
use Rattle.dms_top.proofs.Judgements.{at_start, long_judged, no_more, no_more_over, ok_of, refused_is}
use Rattle.dms_top.proofs.Printing.{events_accepted, front_none, none_printed, none_within, not_refused, nothing_part, part_moved, passes_described, passes_lines, printed_front, printed_moved, same_description, within_lines, within_moved}
use Rattle.dms_newdb.proofs.Sealed.{judged_well}
use Rattle.dms_top.proofs.Trying.{text_cut, text_refused, text_unheld}
use Rattle.dms_top.proofs.top.try_input.Goals as goal

pub try_lines-requires : goal.try_lines-requires
try_lines-requires g c = judged_well _ _ c.in-Description.ensures

pub returns-in-Err-Input-clause-does : goal.returns-in-Err-Input-clause-does
returns-in-Err-Input-clause-does g c = text_cut g.S.Site g.I.Source _ _ _ (λ all left. c.in-Err-Input.ensures.failed (ap Err c.in-Err-Input.field-0-is) all (at_start _ _ all c.new-feed.ensures left))

pub returns-in-Err-Memory-clause-does : goal.returns-in-Err-Memory-clause-does
returns-in-Err-Memory-clause-does g c = text_unheld g.S.Site g.I.Source _ _ _

pub returns-in-Memory-clause-does : goal.returns-in-Memory-clause-does
returns-in-Memory-clause-does g c = text_unheld g.S.Site g.I.Source _ _ _

pub returns-in-Err-Long-clause-does : goal.returns-in-Err-Long-clause-does
returns-in-Err-Long-clause-does g c = text_refused g.S.Site g.I.Source _ _ _ _ (λ f is all left.
    long_judged _ f is (c.in-Err-Long.ensures.long (ap Err c.in-Err-Long.field-0-is) all (at_start _ _ all c.new-feed.ensures left)))

pub returns-in-Refused-clause-does : goal.returns-in-Refused-clause-does
returns-in-Refused-clause-does g c = text_refused g.S.Site g.I.Source _ _ _ _ (λ f is all left.
    let t = c.in-Ok.ensures.text all (at_start _ _ all c.new-feed.ensures left) in
    refused_is _ f _ is (ap judge_schema (sym t.is ∙ sym c.as_slice.ensures) ∙ c.in-Refused.ensures))

pub returns-clause-end : goal.returns-clause-end
returns-clause-end g c = λ ok all left.
    let t = c.in-Ok.ensures.text all (at_start _ _ all c.new-feed.ensures left) in
    no_more _ _ (c.try_lines.ensures.end ok t.rest t.remains)

pub returns-clause-does : goal.returns-clause-does
returns-clause-does g c = record {
  statuses = c.try_lines.ensures.statuses;
  refused = λ f is. absurd (c.try_lines.ensures.schema f is);
  accepted = λ past all left.
      let t = c.in-Ok.ensures.text all (at_start _ _ all c.new-feed.ensures left) in
      ok_of _ _ (ap judge_schema (sym t.is ∙ sym c.as_slice.ensures) ∙ c.in-Description.ensures);
  by_input = record {
    ok = λ ok all d left is.
        let t = c.in-Ok.ensures.text all (at_start _ _ all c.new-feed.ensures left) in
        let j : judge_schema (schema_text all) ≡ Ok (as_described c.in-Description.desc) = ap judge_schema (sym t.is ∙ sym c.as_slice.ensures) ∙ c.in-Description.ensures in
        within_moved _ _ _ (same_description _ _ d j is) (within_lines _ _ _ t.script (c.try_lines.ensures.within ok t.rest t.remains));
    limit = λ k limit all d left is.
        let t = c.in-Ok.ensures.text all (at_start _ _ all c.new-feed.ensures left) in
        let j : judge_schema (schema_text all) ≡ Ok (as_described c.in-Description.desc) = ap judge_schema (sym t.is ∙ sym c.as_slice.ensures) ∙ c.in-Description.ensures in
        passes_described _ k _ _ _ (same_description _ _ d j is) (passes_lines _ k _ _ _ t.script (c.try_lines.ensures.limit k limit t.rest t.remains));
    breaks = λ cut all d left is.
        let t = c.in-Ok.ensures.text all (at_start _ _ all c.new-feed.ensures left) in
        let j : judge_schema (schema_text all) ≡ Ok (as_described c.in-Description.desc) = ap judge_schema (sym t.is ∙ sym c.as_slice.ensures) ∙ c.in-Description.ensures in
        cut_described _ _ _ all _ (same_description _ _ d j is) (cut_script _ _ t.done all t.rest _ t.leaves t.behind (t.ended c.if-not-taken.false) (c.try_lines.ensures.input_cut cut t.rest t.remains));
    breaks_schema = λ cut all e left is.
        let t = c.in-Ok.ensures.text all (at_start _ _ all c.new-feed.ensures left) in
        let j : judge_schema (schema_text all) ≡ Ok (as_described c.in-Description.desc) = ap judge_schema (sym t.is ∙ sym c.as_slice.ensures) ∙ c.in-Description.ensures in
        absurd (not_refused _ _ _ j is);
  };
  answers = λ ok told all left.
      let t = c.in-Ok.ensures.text all (at_start _ _ all c.new-feed.ensures left) in
      let j : judge_schema (schema_text all) ≡ Ok (as_described c.in-Description.desc) = ap judge_schema (sym t.is ∙ sym c.as_slice.ensures) ∙ c.in-Description.ensures in
      printed_moved _ _ (try_text all) _ _ _ refl refl (ap text_of (events_accepted _ _ (script_of all) j ∙ ap (λ (ls : List (List ℕ)). script_events (as_described c.in-Description.desc) empty_db 1 ls) (sym t.script))) (c.try_lines.ensures.answers ok told t.rest t.remains);
  part = λ told all left.
      let t = c.in-Ok.ensures.text all (at_start _ _ all c.new-feed.ensures left) in
      let j : judge_schema (schema_text all) ≡ Ok (as_described c.in-Description.desc) = ap judge_schema (sym t.is ∙ sym c.as_slice.ensures) ∙ c.in-Description.ensures in
      part_moved _ _ _ _ _ (try_events all) _ refl refl (events_accepted _ _ (script_of all) j ∙ ap (λ (ls : List (List ℕ)). script_events (as_described c.in-Description.desc) empty_db 1 ls) (sym t.script)) (c.try_lines.ensures.part told t.rest t.remains);
  front = λ told all d left is.
      let t = c.in-Ok.ensures.text all (at_start _ _ all c.new-feed.ensures left) in
      let j : judge_schema (schema_text all) ≡ Ok (as_described c.in-Description.desc) = ap judge_schema (sym t.is ∙ sym c.as_slice.ensures) ∙ c.in-Description.ensures in
      printed_front _ _ _ _ _ _ _ _ _ refl refl (same_description _ _ d j is) (sym t.script) (c.try_lines.ensures.front told t.rest t.remains);
  silent = λ told silent. absurd (c.try_lines.ensures.spoken silent);
  files = c.try_lines.ensures.files;
  only_speaks = c.try_lines.ensures.only_speaks;
}

-- no line of a script follows

pub returns-then-not-taken-clause-end : goal.returns-then-not-taken-clause-end
returns-then-not-taken-clause-end g c = λ ok all left.
    let t = c.in-Ok.ensures.text all (at_start _ _ all c.new-feed.ensures left) in
    no_more_over _ _ _ (t.over c.if-not-taken.true) t.remains

pub returns-then-not-taken-clause-does : goal.returns-then-not-taken-clause-does
returns-then-not-taken-clause-does g c = record {
  statuses = tt;
  refused = λ f is. absurd cc;
  accepted = λ past all left.
      let t = c.in-Ok.ensures.text all (at_start _ _ all c.new-feed.ensures left) in
      ok_of _ _ (ap judge_schema (sym t.is ∙ sym c.as_slice.ensures) ∙ c.in-Description.ensures);
  by_input = record {
    ok = λ ok all d left is.
        let t = c.in-Ok.ensures.text all (at_start _ _ all c.new-feed.ensures left) in
        none_within d (script_of all) (sym t.script ∙ ap raw_lines (t.over c.if-not-taken.true));
    limit = λ k is. absurd cc;
    breaks = λ is. absurd cc;
    breaks_schema = λ is. absurd cc;
  };
  answers = λ ok told all left.
      let t = c.in-Ok.ensures.text all (at_start _ _ all c.new-feed.ensures left) in
      let j : judge_schema (schema_text all) ≡ Ok (as_described c.in-Description.desc) = ap judge_schema (sym t.is ∙ sym c.as_slice.ensures) ∙ c.in-Description.ensures in
      printed_moved _ _ (try_text all) _ _ _ refl refl (ap text_of (events_accepted _ _ (script_of all) j)) (none_printed _ (script_of all) _ (sym t.script ∙ ap raw_lines (t.over c.if-not-taken.true)));
  part = λ told all left. nothing_part _ _ _ (try_events all) refl;
  front = λ told all d left is. front_none _ d (script_of all) _ _ refl;
  silent = λ told silent. refl;
  files = λ tells. refl;
  only_speaks = only_none _;
}
