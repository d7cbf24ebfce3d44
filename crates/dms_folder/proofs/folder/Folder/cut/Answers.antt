use Rattle.std.proofs.Common.{ℕ, List, ◌≡◌, ◌∙◌, ap, refl, length, inl, arith, None}
use Rattle.std.proofs.lemmas.Option.{MatchOption-at_none}
use Rattle.dms_calls.specs.World.{World}
use Rattle.dms_calls.specs.Seen.{site_files}
use Rattle.dms_calls.specs.Names.{name_of}
use Rattle.dms_folder.specs.Moves.{same_first}
use Rattle.dms_folder.specs.Shown.{quiet_steps, cut_none, seen_absent, unchanged_steps}
use Rattle.dms_site.specs.Laws.{in_file_same}
use Rattle.dms_folder.proofs.folder.Folder.cut.Goals as goal

pub returns-in_err-find-clause-moments : goal.returns-in_err-find-clause-moments
returns-in_err-find-clause-moments g c = quiet_steps c.args.file (λ l. inl refl) c.find.ensures.moments

pub returns-in-None-clause-moments : goal.returns-in-None-clause-moments
returns-in-None-clause-moments g c = quiet_steps c.args.file (λ l. inl refl) c.find.ensures.moments

pub returns-in-None-clause-cut : goal.returns-in-None-clause-cut
returns-in-None-clause-cut g c = λ t.
    let v = g.C.Calls.world c.args.self.now.calls in
    let absent : v.names (name_of c.args.file) ≡ None = MatchOption-at_none {o = c.in_ok-find.field-0} _ _ c.in-None.is c.in_ok-find.ensures.found t in
    ap (λ (w : World). site_files name_of w) c.in_ok-find.ensures.world
    ∙ cut_none c.args.file c.args.len (site_files name_of v) (omega (arith, ap (λ (l : List ℕ). length l) (seen_absent v c.args.file c.ranges.file.fits absent)))

pub returns-in-Some-clause-moments : goal.returns-in-Some-clause-moments
returns-in-Some-clause-moments g c =
    same_first (λ x. record { files = in_file_same c.args.file _ x.files (inl refl); said = refl }) (unchanged_steps c.find.ensures.moments) c.cut_opened.ensures.moments
