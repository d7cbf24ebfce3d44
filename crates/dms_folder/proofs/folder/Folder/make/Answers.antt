use Rattle.std.proofs.Common.{ℕ, List, ◌≡◌, ◌∙◌, ap, subst}
use Rattle.dms_moments.specs.Moments.{Steps}
use Rattle.dms_calls.specs.World.{World, MakesFile}
use Rattle.dms_calls.specs.Seen.{site_files}
use Rattle.dms_calls.specs.Names.{name_of}
use Rattle.dms_folder.specs.Moves.{same_twice}
use Rattle.dms_folder.specs.Keeps.{kept_made}
use Rattle.dms_folder.specs.Shown.{makes_seen, makes_steps, unchanged_steps}
use Rattle.dms_folder.proofs.folder.Folder.make.Goals as goal

pub returns-in_err-handle-clause-files : goal.returns-in_err-handle-clause-files
returns-in_err-handle-clause-files g c = λ t.
    let m = c.create.ensures.made in
    let n : c.as_str.result.now ≡ name_of c.args.file = c.as_str.ensures.value ∙ c.file_name-name.ensures.name in
    makes_seen c.args.file m.0 c.ranges.file.fits _ _ (subst (λ (n : List ℕ). MakesFile n m.0 (g.C.Calls.world c.args.self.now.calls) (g.C.Calls.world c.create.new.self)) n (m.2 t))

pub returns-in_err-handle-clause-moments : goal.returns-in_err-handle-clause-moments
returns-in_err-handle-clause-moments g c =
    let m = c.create.ensures.made in
    let n : c.as_str.result.now ≡ name_of c.args.file = c.as_str.ensures.value ∙ c.file_name-name.ensures.name in
    makes_steps c.args.file m.0 c.ranges.file.fits (subst (λ (n : List ℕ). Steps (MakesFile n m.0) (g.C.Calls.clock c.args.self.now.calls) (g.C.Calls.clock c.create.new.self)) n m.1)

pub keep-requires-clause-kept : goal.keep-requires-clause-kept
keep-requires-clause-kept g c = λ t.
    let m = c.create.ensures.made in
    let n : c.as_str.result.now ≡ name_of c.args.file = c.as_str.ensures.value ∙ c.file_name-name.ensures.name in
    kept_made (c.requires.kept t) c.args.file m.0 c.ranges.file.fits (c.requires.absent t)
    (subst (λ (n : List ℕ). MakesFile n m.0 (g.C.Calls.world c.args.self.now.calls) (g.C.Calls.world c.create.new.self)) n (m.2 t))
    (subst (λ (n : List ℕ). Steps (MakesFile n m.0) (g.C.Calls.clock c.args.self.now.calls) (g.C.Calls.clock c.create.new.self)) n m.1)

pub returns-clause-files : goal.returns-clause-files
returns-clause-files g c = λ t.
    let m = c.create.ensures.made in
    let n : c.as_str.result.now ≡ name_of c.args.file = c.as_str.ensures.value ∙ c.file_name-name.ensures.name in
    ap (λ (w : World). site_files name_of w) c.keep.ensures.world
    ∙ makes_seen c.args.file m.0 c.ranges.file.fits _ _ (subst (λ (n : List ℕ). MakesFile n m.0 (g.C.Calls.world c.args.self.now.calls) (g.C.Calls.world c.create.new.self)) n (m.2 t))

pub returns-clause-moments : goal.returns-clause-moments
returns-clause-moments g c =
    let m = c.create.ensures.made in
    let n : c.as_str.result.now ≡ name_of c.args.file = c.as_str.ensures.value ∙ c.file_name-name.ensures.name in
    same_twice (makes_steps c.args.file m.0 c.ranges.file.fits (subst (λ (n : List ℕ). Steps (MakesFile n m.0) (g.C.Calls.clock c.args.self.now.calls) (g.C.Calls.clock c.create.new.self)) n m.1)) (unchanged_steps c.keep.ensures.moments)

pub returns-in_err-handle-clause-kept : goal.returns-in_err-handle-clause-kept
returns-in_err-handle-clause-kept g c = λ t.
    let m = c.create.ensures.made in
    let n : c.as_str.result.now ≡ name_of c.args.file = c.as_str.ensures.value ∙ c.file_name-name.ensures.name in
    kept_made (c.requires.kept t) c.args.file m.0 c.ranges.file.fits (c.requires.absent t)
    (subst (λ (n : List ℕ). MakesFile n m.0 (g.C.Calls.world c.args.self.now.calls) (g.C.Calls.world c.create.new.self)) n (m.2 t))
    (subst (λ (n : List ℕ). Steps (MakesFile n m.0) (g.C.Calls.clock c.args.self.now.calls) (g.C.Calls.clock c.create.new.self)) n m.1)
