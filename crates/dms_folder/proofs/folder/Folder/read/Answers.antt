use Rattle.std.proofs.Common.{ℕ, List, ◌≡◌, ◌∙◌, sym, ap, refl, length, drop, [], ◌++◌, IsTrue, Some, Ok, Err}
use Rattle.std.specs.Prelude.{slice_get, IfOk, Result}
use Rattle.std.proofs.lemmas.Option.{MatchOption-at_none, MatchOption-at_some, same_Some, slice_get_read, slice_get_within}
use Rattle.dms_site.specs.Files.{range}
use Rattle.dms_folder.specs.Reads.{range_nothing}
use Rattle.dms_calls.specs.World.{World}
use Rattle.dms_calls.specs.Seen.{site_files}
use Rattle.dms_folder.specs.declared.opened.OpenedFile.{OpenedFile}
use Rattle.dms_calls.specs.Names.{name_of}
use Rattle.dms_folder.specs.Kept.{IsAt}
use Rattle.dms_folder.specs.Shown.{seen_absent, seen_leads}
use Rattle.dms_folder.proofs.folder.Folder.read.Goals as goal

if_both : {T E : Type 0} (r : Result T E) (P Q R : T → Type 0) → ((x : T) → P x → Q x → R x) → IfOk r P → IfOk r Q → IfOk r R
if_both (Ok x) P Q R f p q = f x p q
if_both (Err e) P Q R f p q = tt

pub returns-in-None-clause-bytes : goal.returns-in-None-clause-bytes
returns-in-None-clause-bytes g c = λ t.
    let v = g.C.Calls.world c.args.self.now.calls in
    let none : site_files name_of v c.args.file ≡ [] = seen_absent v c.args.file c.ranges.file.fits (MatchOption-at_none {o = c.in_ok-find.field-0} _ _ c.in-None.is c.in_ok-find.ensures.found t) in
    let empty : range c.args.at (length c.args.into.now) (site_files name_of v c.args.file) ≡ [] = ap (λ (l : List ℕ). range c.args.at (length c.args.into.now) l) none ∙ range_nothing c.args.at (length c.args.into.now) in
    (sym (ap (λ (l : List ℕ). length l) empty), sym (ap (λ (l : List ℕ). l ++ c.args.into.now) empty))

pub returns-in-Some-clause-bytes : goal.returns-in-Some-clause-bytes
returns-in-Some-clause-bytes g c =
    let f = c.args.file in
    let place = c.in-Some.place in
    let opened = c.find.new.self.opened.items in
    let at : IsAt opened place f = MatchOption-at_some {o = c.in_ok-find.field-0} _ _ place c.in-Some.is c.in_ok-find.ensures.found in
    let r = c.index.result.now in
    let there : slice_get opened place ≡ Some r = slice_get_read opened (length opened) place r refl (slice_get_within opened place at.0 at.1) c.index.ensures in
    let number : r.number ≡ f = ap (λ (o : OpenedFile g.row.C-Handle.Denot). o.number) (same_Some r at.0 (sym there ∙ at.1)) ∙ at.2 in
    let w = g.C.Calls.world c.find.new.self.calls in
    let leads : IsTrue g.C.Calls.tells → w.names (name_of f) ≡ Some (g.C.Calls.file r.file) = λ t. ap (λ (n : ℕ). w.names (name_of n)) (sym number) ∙ (c.in_ok-find.ensures.kept t).named place r there in
    let bytes : IsTrue g.C.Calls.tells → w.bytes (g.C.Calls.file r.file) ≡ site_files name_of (g.C.Calls.world c.args.self.now.calls) f = λ t. sym (seen_leads w f _ c.ranges.file.fits (leads t)) ∙ ap (λ (w : World). site_files name_of w f) c.in_ok-find.ensures.world in
    if_both c.read_full.result _ _ _ (λ n count into t. (
      count t ∙ ap (λ (l : List ℕ). length (range c.args.at (length c.args.into.now) l)) (bytes t),
      into t ∙ ap (λ (l : List ℕ). range c.args.at (length c.args.into.now) l ++ drop n c.args.into.now) (bytes t),
    )) c.read_full.ensures.count c.read_full.ensures.bytes
