-- A database that was opened over the site of a run, as one over the site below it.
use Rattle.dms_opening.specs.declared.opened.Opened.{Opened}
use Rattle.dms_guard.specs.declared.site.RunSite.{RunSite}

abbrev pub bare : {S K : Type 0} → Opened (RunSite S K) → Opened S
bare o = record { log = record { site = o.log.site.site; end = o.log.end; first = o.log.first }; schema = o.schema; counts = o.counts; next = o.next; point = o.point; audit = o.audit }

-- a guarded site like this one, over another site
abbrev pub around : {S K : Type 0} → RunSite S K → S → RunSite S K
around r site = record { site = site; structures = r.structures; refused = r.refused; by = r.by }
