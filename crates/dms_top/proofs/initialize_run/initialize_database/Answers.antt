use Rattle.std.proofs.Common.{◌++◌, ◌∙◌, take, inr, Err, ap, sym, subst}
use Rattle.dms_moments.specs.MomentLaws.{runs_step}
use Rattle.dms_site.specs.Files.{Files}
use Rattle.dms_creation.specs.Creation.{IsMade}
use Rattle.dms_top.specs.Initializing.{initialized_text}
use Rattle.dms_top.proofs.Creating.{made_said}
use Rattle.dms_newdb.proofs.Stands.{becomes_new}
use Rattle.dms_top.proofs.initialize_run.initialize_database.Goals as goal

pub returns-in-Err-Disk-clause-does : goal.returns-in-Err-Disk-clause-does
returns-in-Err-Disk-clause-does g c = record {
  statuses = tt;
  no_description = λ is. absurd cc;
  described = λ spoken. absurd spoken;
  exists = λ is. absurd cc;
  exists_described = λ is. absurd cc;
  shut = λ spoken. absurd spoken;
  every_moment = c.initialize.ensures.moments;
  every_moment_stands = λ tells d sealed. becomes_new c.what_is_made_stands.ensures c.args.tag d _ _ _ sealed (c.initialize.ensures.moments tells d sealed);
  stays = λ before. absurd before;
  at_ok = λ spoken. absurd spoken;
  at_ok_stands = λ spoken. absurd spoken;
  at_ok_stable = λ spoken. absurd spoken;
  says = λ told. c.initialize.ensures.said;
}

pub returns-in-Err-Memory-clause-does : goal.returns-in-Err-Memory-clause-does
returns-in-Err-Memory-clause-does g c = record {
  statuses = tt;
  no_description = λ is. absurd cc;
  described = λ spoken. absurd spoken;
  exists = λ is. absurd cc;
  exists_described = λ is. absurd cc;
  shut = λ spoken. absurd spoken;
  every_moment = c.initialize.ensures.moments;
  every_moment_stands = λ tells d sealed. becomes_new c.what_is_made_stands.ensures c.args.tag d _ _ _ sealed (c.initialize.ensures.moments tells d sealed);
  stays = λ before. c.in-Err-Memory.ensures.stays (λ is. absurd (cc c.in-Err-Memory.field-0-is));
  at_ok = λ spoken. absurd spoken;
  at_ok_stands = λ spoken. absurd spoken;
  at_ok_stable = λ spoken. absurd spoken;
  says = λ told. c.initialize.ensures.said;
}

pub returns-in-Err-NoDescription-clause-does : goal.returns-in-Err-NoDescription-clause-does
returns-in-Err-NoDescription-clause-does g c = record {
  statuses = tt;
  no_description = λ is tells. c.in-Err-NoDescription.ensures.no_description (ap Err c.in-Err-NoDescription.field-0-is) tells;
  described = λ spoken. absurd spoken;
  exists = λ is. absurd cc;
  exists_described = λ is. absurd cc;
  shut = λ spoken. absurd spoken;
  every_moment = c.initialize.ensures.moments;
  every_moment_stands = λ tells d sealed. becomes_new c.what_is_made_stands.ensures c.args.tag d _ _ _ sealed (c.initialize.ensures.moments tells d sealed);
  stays = λ before. c.in-Err-NoDescription.ensures.stays (λ is. absurd (cc c.in-Err-NoDescription.field-0-is));
  at_ok = λ spoken. absurd spoken;
  at_ok_stands = λ spoken. absurd spoken;
  at_ok_stable = λ spoken. absurd spoken;
  says = λ told. c.initialize.ensures.said;
}

pub returns-in-Err-Exists-clause-does : goal.returns-in-Err-Exists-clause-does
returns-in-Err-Exists-clause-does g c = record {
  statuses = tt;
  no_description = λ is. absurd cc;
  described = λ spoken. absurd spoken;
  exists = λ is tells. c.in-Err-Exists.ensures.exists (ap Err c.in-Err-Exists.field-0-is) tells;
  exists_described = λ is tells. c.in-Err-Exists.ensures.described (ap Err c.in-Err-Exists.field-0-is) tells;
  shut = λ spoken. absurd spoken;
  every_moment = c.initialize.ensures.moments;
  every_moment_stands = λ tells d sealed. becomes_new c.what_is_made_stands.ensures c.args.tag d _ _ _ sealed (c.initialize.ensures.moments tells d sealed);
  stays = λ before. c.in-Err-Exists.ensures.stays (λ is. absurd (cc c.in-Err-Exists.field-0-is));
  at_ok = λ spoken. absurd spoken;
  at_ok_stands = λ spoken. absurd spoken;
  at_ok_stable = λ spoken. absurd spoken;
  says = λ told. c.initialize.ensures.said;
}

pub returns-in-Ok-say-clause-does : goal.returns-in-Ok-say-clause-does
unfolding initialized_text
returns-in-Ok-say-clause-does g c = record {
  statuses = tt;
  no_description = λ is. absurd cc;
  described = λ spoken tells. c.in-Ok.ensures.sealed tells;
  exists = λ is. absurd cc;
  exists_described = λ is. absurd cc;
  shut = λ spoken tells. c.in-Ok.ensures.shut tells;
  every_moment = λ tells d sealed. runs_step (c.initialize.ensures.moments tells d sealed) c.say.ensures.moments
      (λ y x now step. inr (made_said c.args.tag d (g.S.Site.files c.args.site.now) (g.S.Site.files c.initialize.new.site) y x (c.in-Ok.ensures.durable tells y now) step.files (c.in-Ok.ensures.made tells d sealed)));
  every_moment_stands = λ tells d sealed. becomes_new c.what_is_made_stands.ensures c.args.tag d _ _ _ sealed (runs_step (c.initialize.ensures.moments tells d sealed) c.say.ensures.moments
      (λ y x now step. inr (made_said c.args.tag d (g.S.Site.files c.args.site.now) (g.S.Site.files c.initialize.new.site) y x (c.in-Ok.ensures.durable tells y now) step.files (c.in-Ok.ensures.made tells d sealed))));
  stays = λ before. absurd before;
  at_ok = λ spoken tells d sealed. subst (λ (l : Files). IsMade c.args.tag d (g.S.Site.files c.args.site.now) l) (sym (c.say.ensures.files tells)) (c.in-Ok.ensures.made tells d sealed);
  at_ok_stands = λ spoken tells d sealed. c.what_is_made_stands.ensures c.args.tag d (g.S.Site.files c.args.site.now) _ sealed
      (subst (λ (l : Files). IsMade c.args.tag d (g.S.Site.files c.args.site.now) l) (sym (c.say.ensures.files tells)) (c.in-Ok.ensures.made tells d sealed));
  at_ok_stable = λ spoken tells x now.
      let from = c.say.ensures.moments.follows x now in
      from.2.files ∙ c.in-Ok.ensures.durable tells from.0 from.1 ∙ sym (c.say.ensures.files tells);
  says = λ told. c.in-Ok-say.ensures.said told ∙ (λ i. c.initialize.ensures.said i ++ initialized_text);
}

pub returns-in-Err-clause-does : goal.returns-in-Err-clause-does
unfolding initialized_text
returns-in-Err-clause-does g c = record {
  statuses = tt;
  no_description = λ is. absurd cc;
  described = λ spoken tells. c.in-Ok.ensures.sealed tells;
  exists = λ is. absurd cc;
  exists_described = λ is. absurd cc;
  shut = λ spoken tells. c.in-Ok.ensures.shut tells;
  every_moment = λ tells d sealed. runs_step (c.initialize.ensures.moments tells d sealed) c.say.ensures.moments
      (λ y x now step. inr (made_said c.args.tag d (g.S.Site.files c.args.site.now) (g.S.Site.files c.initialize.new.site) y x (c.in-Ok.ensures.durable tells y now) step.files (c.in-Ok.ensures.made tells d sealed)));
  every_moment_stands = λ tells d sealed. becomes_new c.what_is_made_stands.ensures c.args.tag d _ _ _ sealed (runs_step (c.initialize.ensures.moments tells d sealed) c.say.ensures.moments
      (λ y x now step. inr (made_said c.args.tag d (g.S.Site.files c.args.site.now) (g.S.Site.files c.initialize.new.site) y x (c.in-Ok.ensures.durable tells y now) step.files (c.in-Ok.ensures.made tells d sealed))));
  stays = λ before. absurd before;
  at_ok = λ spoken tells d sealed. subst (λ (l : Files). IsMade c.args.tag d (g.S.Site.files c.args.site.now) l) (sym (c.say.ensures.files tells)) (c.in-Ok.ensures.made tells d sealed);
  at_ok_stands = λ spoken tells d sealed. c.what_is_made_stands.ensures c.args.tag d (g.S.Site.files c.args.site.now) _ sealed
      (subst (λ (l : Files). IsMade c.args.tag d (g.S.Site.files c.args.site.now) l) (sym (c.say.ensures.files tells)) (c.in-Ok.ensures.made tells d sealed));
  at_ok_stable = λ spoken tells x now.
      let from = c.say.ensures.moments.follows x now in
      from.2.files ∙ c.in-Ok.ensures.durable tells from.0 from.1 ∙ sym (c.say.ensures.files tells);
  says = λ told. let s = c.say.ensures.some_said told in (s.0, s.1 ∙ (λ i. c.initialize.ensures.said i ++ take s.0 initialized_text));
}
