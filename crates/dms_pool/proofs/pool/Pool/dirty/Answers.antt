use Rattle.std.proofs.Common.{rules, ◌≡◌, ◌∙◌, Some, None, sym}
use Rattle.dms_pool.proofs.Washed.{dirty_in, find_passes, first_dirty, first_is, none_dirty}
use Rattle.dms_pool.proofs.pool.Pool.dirty.Goals as goal

pub returns-then-frame-clause-which : goal.returns-then-frame-clause-which
returns-then-frame-clause-which c =
    let first : Some c.id.result ≡ first_dirty c.args.self.now.frames.entries = search rules in
    first ∙ first_is c.args.self.now.frames.entries c.args.self.now.sound.0

pub returns-then-frame-clause-found : goal.returns-then-frame-clause-found
returns-then-frame-clause-found c =
    let first : Some c.id.result ≡ first_dirty c.args.self.now.frames.entries = search rules in
    find_passes (dirty_in c.args.self.now.frames.entries) _ c.id.result (sym (first ∙ first_is c.args.self.now.frames.entries c.args.self.now.sound.0))

pub returns-clause-none : goal.returns-clause-none
returns-clause-none c =
    let first : first_dirty c.args.self.now.frames.entries ≡ None = search rules in
    none_dirty c.args.self.now.frames.entries first

pub returns-clause-which : goal.returns-clause-which
returns-clause-which c =
    let first : first_dirty c.args.self.now.frames.entries ≡ None = search rules in
    sym first ∙ first_is c.args.self.now.frames.entries c.args.self.now.sound.0
