use Rattle.std.proofs.Common.{◌≡◌, ◌∙◌, Ok, Err, ap, subst, sym}
use Rattle.dms_desc.specs.Shape.{Described, as_described}
use Rattle.dms_descfile.specs.Becoming.{Creates}
use Rattle.dms_descfile.specs.DescriptionFile.{sealed_file}
use Rattle.dms_status.specs.declared.status.Status.{Status}
use Rattle.dms_top.specs.Compiling.{IsOfFile, SaysSealed}
use Rattle.dms_newdb.specs.Judging.{judge_schema}
use Rattle.dms_top.proofs.Compiling.{line_of, nothing_compiled, unread, unheld, unsaid}
use Rattle.dms_top.proofs.Creating.{some_created}
use Rattle.dms_top.proofs.Judgements.{long_judged, ok_of, refused_is}
use Rattle.dms_top.proofs.Printing.{same_description, not_refused}
use Rattle.dms_newdb.proofs.Sealed.{sealed_is, short_judged}
use Rattle.dms_top.proofs.compile_run.compile_input.Goals as goal

pub create-requires : goal.create-requires
create-requires g c = short_judged _ _ c.in-Description.ensures

pub returns-in-Err-Input-clause-does : goal.returns-in-Err-Input-clause-does
returns-in-Err-Input-clause-does g c = unread g.S.Site g.I.Source _ _

pub returns-in-Err-Memory-clause-does : goal.returns-in-Err-Memory-clause-does
returns-in-Err-Memory-clause-does g c = unheld g.S.Site g.I.Source _ _

pub returns-in-Memory-clause-does : goal.returns-in-Memory-clause-does
returns-in-Memory-clause-does g c = unheld g.S.Site g.I.Source _ _

pub returns-in-Err-Long-clause-does : goal.returns-in-Err-Long-clause-does
returns-in-Err-Long-clause-does g c = nothing_compiled g.S.Site g.I.Source _ _ _ (λ f is all left. long_judged _ f is (c.in-Err-Long.ensures.long (ap Err c.in-Err-Long.field-0-is) all left))

pub returns-in-Refused-clause-does : goal.returns-in-Refused-clause-does
returns-in-Refused-clause-does g c = nothing_compiled g.S.Site g.I.Source _ _ _ (λ f is all left. refused_is _ f _ is (ap judge_schema (sym (c.in-Ok.ensures.text all left) ∙ sym c.as_slice.ensures) ∙ c.in-Refused.ensures))

pub returns-clause-does : goal.returns-clause-does
returns-clause-does g c = record {
  statuses = c.create.ensures.statuses;
  refused = λ f is. absurd (subst (λ (s : Status). IsOfFile s) is c.create.ensures.of_file);
  accepted = λ past all left. ok_of _ _ (ap judge_schema (sym (c.in-Ok.ensures.text all left) ∙ sym c.as_slice.ensures) ∙ c.in-Description.ensures);
  refused_text = λ all e left is.
      let j : judge_schema all ≡ Ok (as_described c.in-Description.desc) = ap judge_schema (sym (c.in-Ok.ensures.text all left) ∙ sym c.as_slice.ensures) ∙ c.in-Description.ensures in
      absurd (not_refused _ _ _ j is);
  input_fault = λ is. absurd (subst (λ (s : Status). IsOfFile s) is c.create.ensures.of_file);
  others = c.create.ensures.others;
  exists = c.create.ensures.exists;
  unsealed = c.create.ensures.unsealed;
  kept = c.create.ensures.kept;
  every_moment = λ tells all d left is.
      let j : judge_schema all ≡ Ok (as_described c.in-Description.desc) = ap judge_schema (sym (c.in-Ok.ensures.text all left) ∙ sym c.as_slice.ensures) ∙ c.in-Description.ensures in
      subst (λ (x : Described). Creates (sealed_file x) (g.S.Site.files c.args.site.now) (g.S.Site.clock c.args.site.now) (g.S.Site.clock c.create.new.site)) (sym (same_description _ _ d j is)) (c.create.ensures.creates tells);
  every_moment_some = λ tells. some_created _ _ _ _ (c.create.ensures.creates tells);
  stays = c.create.ensures.stays;
  at_ok = λ spoken tells all d left is.
      let j : judge_schema all ≡ Ok (as_described c.in-Description.desc) = ap judge_schema (sym (c.in-Ok.ensures.text all left) ∙ sym c.as_slice.ensures) ∙ c.in-Description.ensures in
      c.create.ensures.sealed spoken tells ∙ ap sealed_file (sym (same_description _ _ d j is));
  at_ok_sealed = λ spoken tells all d left is.
      let j : judge_schema all ≡ Ok (as_described c.in-Description.desc) = ap judge_schema (sym (c.in-Ok.ensures.text all left) ∙ sym c.as_slice.ensures) ∙ c.in-Description.ensures in
      sealed_is all d _ is (c.create.ensures.sealed spoken tells ∙ ap sealed_file (sym (same_description _ _ d j is)));
  at_ok_some = λ spoken tells. (as_described c.in-Description.desc, sealed_is _ _ _ c.in-Description.ensures (c.create.ensures.sealed spoken tells));
  at_ok_stable = c.create.ensures.stable;
  says = λ told all d left is.
      let j : judge_schema all ≡ Ok (as_described c.in-Description.desc) = ap judge_schema (sym (c.in-Ok.ensures.text all left) ∙ sym c.as_slice.ensures) ∙ c.in-Description.ensures in
      line_of c.in-Description.desc d _ _ _ (same_description _ _ d j is) (c.create.ensures.says told);
  silent = λ told mute. unsaid _ _ _ _ mute (c.create.ensures.says told);
  says_sealed = λ tells all d left is.
      let j : judge_schema all ≡ Ok (as_described c.in-Description.desc) = ap judge_schema (sym (c.in-Ok.ensures.text all left) ∙ sym c.as_slice.ensures) ∙ c.in-Description.ensures in
      subst (λ (x : Described). SaysSealed (sealed_file x) (g.S.Site.clock c.args.site.now) (g.S.Site.clock c.create.new.site)) (sym (same_description _ _ d j is)) (c.create.ensures.says_sealed tells);
}
