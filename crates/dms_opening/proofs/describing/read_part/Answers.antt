use Rattle.std.proofs.Common.{◌≡◌, inr, ◌∷◌, [], ◌++◌, Some, refl, sym, ◌∙◌, ap}
use Rattle.std.specs.Prelude.{option_map}
use Rattle.dms_history.specs.Entries.{Entry}
use Rattle.dms_history.proofs.Picks.{some_is}
use Rattle.dms_audrec.specs.Seen.{entry_seen}
use Rattle.dms_audfile.specs.AuditTrail.{entry_there}
use Rattle.dms_restore.specs.SchemaSpans.{part_bytes}
use Rattle.dms_restore.proofs.ReadOn.{load_only}
use Rattle.dms_opening.proofs.describing.read_part.Goals as goal

pub returns-in-Ok-add_bytes-clause-added : goal.returns-in-Ok-add_bytes-clause-added
returns-in-Ok-add_bytes-clause-added g c tells current e there =
    let site_files = g.S.Site.files c.args.site.now in
    let seen : entry_there site_files c.args.place.now ≡ Some (entry_seen c.in-Some.entry) =
    sym (c.entry.ensures.there site_files (c.in-Ok.ensures.holds tells current)) ∙ ap (option_map entry_seen) c.in-Some.is in
    c.in-Ok-add_bytes.ensures ∙ ap (λ (x : Entry). c.args.bytes.now.items ++ part_bytes (x ∷ [])) (some_is (entry_seen c.in-Some.entry) e (sym seen ∙ there))

pub returns-in-Err-clause-only : goal.returns-in-Err-clause-only
returns-in-Err-clause-only g c = load_only g.S.Site.tells _ _ c.args.place.now _ c.in-Err.ensures.only

pub returns-in-None-clause-only : goal.returns-in-None-clause-only
returns-in-None-clause-only g c = inr (inr (
  refl,
  λ tells current.
      let files = g.S.Site.files c.args.site.now in
      inr (sym (c.entry.ensures.there files (c.in-Ok.ensures.holds tells current)) ∙ ap (option_map entry_seen) c.in-None.is),
))
