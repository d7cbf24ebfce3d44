use Rattle.dasdl_laws.proofs.Structures.{structured, few_structures, few_counted_links}
use Rattle.dasdl_laws.proofs.laws.structures_law.Goals as goal

pub returns : goal.returns
returns c = record {
  few = λ text s d read made. few_structures d (structured text s d read made);
  numbers = λ text s d read made. (structured text s d read made).order.numbers;
  names = λ text s d read made. (structured text s d read made).order.names;
  restart = λ text s d read made. (structured text s d read made).order.restart;
  one_restart = λ text s d read made. (structured text s d read made).order.restarts;
  counted = λ text s d read made. few_counted_links d (structured text s d read made);
  kinds = λ text s d read made. (structured text s d read made).kinds;
  alone = λ text s d read made. (structured text s d read made).alone;
  together = λ text s d read made. (structured text s d read made).together;
  placed = λ text s d read made. (structured text s d read made).placed;
  members = λ text s d read made. (structured text s d read made).members;
  earlier = λ text s d read made. (structured text s d read made).earlier;
  owned = λ text s d read made. (structured text s d read made).owned;
  shallow = λ text s d read made. (structured text s d read made).shallow;
  short = λ text s d read made. (structured text s d read made).short;
}
