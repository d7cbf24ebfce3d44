use Rattle.dms_history.proofs.Keeping.{kept_first, kept_image, kept_range, kept_quiet, kept_schema, kept_control, kept_level, kept_begin, kept_ends, kept_writes, kept_restores, kept_agrees, agrees_kept, kept_in_parts, first_agrees}
use Rattle.dms_history.proofs.laws.kept_goes_on.Goals as goal

pub returns : goal.returns
returns c = record {
  first = kept_first;
  image = kept_image;
  range = kept_range;
  quiet = kept_quiet;
  schema = kept_schema;
  control = kept_control;
  level = kept_level;
  begin = kept_begin;
  ends = kept_ends;
  writes = kept_writes;
  restores = kept_restores;
  agrees = kept_agrees;
  kept = agrees_kept;
  in_parts = kept_in_parts;
  first_agrees = first_agrees;
}
