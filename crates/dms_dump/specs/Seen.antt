-- What heads of the program mean.
use Rattle.std.specs.Prelude.{ℕ, ◌/◌, Bool, List, length}
use Rattle.dms_audrec.specs.Reading.{counts_at}
use Rattle.dms_dump.specs.Head.{Head}
use Rattle.dms_dump.specs.declared.head.HeadAt.{HeadAt}
use Rattle.dms_dump.specs.declared.head.MarkAt.{MarkAt}

abbrev pub head_at : HeadAt → Head
head_at x = record { tag = x.tag; point = x.point; audit = x.audit; counts = counts_at (length x.list.now / 8) x.list.now; end = x.end }

abbrev pub mark_at : MarkAt → (ℕ × Bool) × List ℕ
mark_at m = ((m.tag, m.copied), m.rest.now)
