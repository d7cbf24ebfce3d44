use Rattle.dms_history.proofs.Order.{rolls_back, last_points, last_lives, next_stays, next_steps, used_once, numbers_change, numbers_quiet, numbers_begin, numbers_control, numbers_level, numbers_first, true_dump_serves}
use Rattle.dms_history.proofs.Copied.{copied_dump_serves, true_dump_is_copied}
use Rattle.dms_history.proofs.laws.keeps_numbers.Goals as goal

pub returns : goal.returns
returns c = record {
  rolls_back = rolls_back;
  last_points = last_points;
  last_lives = last_lives;
  next_stays = next_stays;
  next_steps = next_steps;
  used_once = used_once;
  change = numbers_change;
  quiet = numbers_quiet;
  begin = numbers_begin;
  control = numbers_control;
  level = numbers_level;
  first = numbers_first;
  dump = true_dump_serves;
  copied = copied_dump_serves;
  true_is_copied = true_dump_is_copied;
}
