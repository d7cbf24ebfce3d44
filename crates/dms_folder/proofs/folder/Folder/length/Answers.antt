use Rattle.std.proofs.Common.{ℕ, List, ◌≡◌, ◌∙◌, sym, ap, refl, length, IsTrue, Some}
use Rattle.std.specs.Prelude.{slice_get}
use Rattle.std.proofs.lemmas.Option.{MatchOption-at_none, MatchOption-at_some, same_Some, slice_get_read, slice_get_within}
use Rattle.std.proofs.lemmas.Result.{IfOk-weaker}
use Rattle.dms_calls.specs.World.{World}
use Rattle.dms_calls.specs.Seen.{site_files}
use Rattle.dms_folder.specs.declared.opened.OpenedFile.{OpenedFile}
use Rattle.dms_calls.specs.Names.{name_of}
use Rattle.dms_folder.specs.Kept.{IsAt}
use Rattle.dms_folder.specs.Shown.{seen_absent, seen_leads}
use Rattle.dms_folder.proofs.folder.Folder.length.Goals as goal

pub returns-in-None-clause-length : goal.returns-in-None-clause-length
returns-in-None-clause-length g c = λ t.
    let v = g.C.Calls.world c.args.self.now.calls in
    sym (ap (λ (l : List ℕ). length l) (seen_absent v c.args.file c.ranges.file.fits (MatchOption-at_none {o = c.in_ok-find.field-0} _ _ c.in-None.is c.in_ok-find.ensures.found t)))

pub returns-in-Some-clause-length : goal.returns-in-Some-clause-length
returns-in-Some-clause-length g c =
    let f = c.args.file in
    let place = c.in-Some.place in
    let opened = c.find.new.self.opened.items in
    let at : IsAt opened place f = MatchOption-at_some {o = c.in_ok-find.field-0} _ _ place c.in-Some.is c.in_ok-find.ensures.found in
    let r = c.index.result.now in
    let there : slice_get opened place ≡ Some r = slice_get_read opened (length opened) place r refl (slice_get_within opened place at.0 at.1) c.index.ensures in
    let number : r.number ≡ f = ap (λ (o : OpenedFile g.row.C-Handle.Denot). o.number) (same_Some r at.0 (sym there ∙ at.1)) ∙ at.2 in
    let w = g.C.Calls.world c.find.new.self.calls in
    let leads : IsTrue g.C.Calls.tells → w.names (name_of f) ≡ Some (g.C.Calls.file r.file) = λ t. ap (λ (n : ℕ). w.names (name_of n)) (sym number) ∙ (c.in_ok-find.ensures.kept t).named place r there in
    IfOk-weaker c.size.result _ _ (λ n is t. is t ∙ sym (ap (λ (l : List ℕ). length l) (seen_leads w f _ c.ranges.file.fits (leads t))) ∙ ap (λ (w : World). length (site_files name_of w f)) c.in_ok-find.ensures.world) c.size.ensures.size
