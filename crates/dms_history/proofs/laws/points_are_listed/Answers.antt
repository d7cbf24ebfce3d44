use Rattle.dms_history.proofs.Listed.{points_listed, one_list, points_front, points_stay}
use Rattle.dms_history.proofs.ListSteps.{lists_change, lists_quiet, lists_control, lists_level, lists_begin, last_keeps_all}
use Rattle.dms_history.proofs.laws.points_are_listed.Goals as goal

pub returns : goal.returns
returns c = record {
  listed = points_listed;
  one = one_list;
  front = points_front;
  stay = points_stay;
  change = lists_change;
  quiet = lists_quiet;
  control = lists_control;
  level = lists_level;
  begin = lists_begin;
  last = last_keeps_all;
}
