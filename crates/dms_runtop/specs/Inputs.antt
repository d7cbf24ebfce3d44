-- What an input has to do with the end of a run, whatever the files stand for.
use Rattle.std.specs.Prelude.{ℕ, ◌≡◌, List, [], Some}
use Rattle.std.specs.declared.option.Option.{Option}
use Rattle.dms_audfile.specs.Counting.{CountedAt}
use Rattle.dms_runner.specs.Running.{FitsScript, HasTooManyBytes, HasTooManyLines, InputBreaks}
use Rattle.dms_site.specs.declared.source.Source as source
use Rattle.dms_status.specs.declared.status.LimitKind.TheVariants.{Lines, Bytes}
use Rattle.dms_status.specs.declared.status.Status.{Status}
use Rattle.dms_status.specs.declared.status.Status.TheVariants.{Ok, Limit, InputFault}

-- At status 0 the input, if it is told, has no more lines and bytes than a script may have. Status 8 of lines or of bytes comes only where it has more
-- of them, and where it passes that limit it hasn't passed the other before. At status 6 taking failed behind so many whole lines and a part of the
-- next one, and the rest is left.
pub record BlamesInput (left left' : Option (List ℕ)) (status : Status) : Type 0 where
  pub ok : status ≡ Ok → (all : List ℕ) → left ≡ Some all → FitsScript all
  pub lines : status ≡ Limit Lines → (all : List ℕ) → left ≡ Some all → HasTooManyLines all
  pub bytes : status ≡ Limit Bytes → (all : List ℕ) → left ≡ Some all → HasTooManyBytes all
  pub breaks : status ≡ InputFault → (all : List ℕ) → left ≡ Some all → InputBreaks left' all

-- What a run takes of its input, however it ends: at status 0 it was read to its end; the statuses 0, 6, and 8 of lines and bytes have their cause in
-- it; and 6 comes exactly where one call of it failed.
pub record TakesInput {I : Type 0} (i : source.Ghosts I) (from to : I) (status : Status) : Type 0 where
  pub end : status ≡ Ok → (all : List ℕ) → i.left from ≡ Some all → i.left to ≡ Some []
  pub blames : BlamesInput (i.left from) (i.left to) status
  pub faults : CountedAt (status ≡ InputFault) (i.faults from) (i.faults to)
  pub same : i.same_source from to
