use Rattle.std.proofs.Common.{◌∙◌, ◌≡◌, ◌≤◌, ap, subst, arith, length, take, IsTrue}
use Rattle.std.proofs.lemmas.Result.{on_ok_weaker}
use Rattle.dms_site.specs.Files.{Torn, pad_zeros}
use Rattle.dms_calls.specs.World.{World, OnFile}
use Rattle.dms_folder.specs.Writes.{overlaid_none, overlaid_within, on_file_refl}
use Rattle.dms_site.specs.Laws.{torn_refl}
use Rattle.dms_folder.specs.Moves.{same_first}
use Rattle.dms_folder.proofs.write.lengthen.Goals as goal

pub returns-then-branch-len-clause-written : goal.returns-then-branch-len-clause-written
returns-then-branch-len-clause-written g c =
    let i = g.C.Calls.file c.args.handle.now in
    let s = c.in_ok-size.ensures in
    let same : g.C.Calls.world c.size.new.self ≡ g.C.Calls.world c.args.calls.now = s.world in
    let short : IsTrue g.C.Calls.tells → length ((g.C.Calls.world c.args.calls.now).bytes i) ≤ c.args.len = λ t. omega (arith, s.size t, c.if-branch-len.true) in
    on_ok_weaker c.ftruncate.result (λ is t.
    is t ∙ ap (λ (w : World). take c.args.len (pad_zeros (w.bytes i) c.args.len)) same ∙ overlaid_none c.args.len _ (short t)) c.ftruncate.ensures.resized

pub returns-then-branch-len-clause-torn : goal.returns-then-branch-len-clause-torn
returns-then-branch-len-clause-torn g c =
    let i = g.C.Calls.file c.args.handle.now in
    let s = c.in_ok-size.ensures in
    let same : g.C.Calls.world c.size.new.self ≡ g.C.Calls.world c.args.calls.now = s.world in
    let short : IsTrue g.C.Calls.tells → length ((g.C.Calls.world c.size.new.self).bytes i) ≤ c.args.len = λ t. omega (arith, s.size t, c.if-branch-len.true, ap (λ (w : World). length (w.bytes i)) same) in
    subst (λ (w : World). OnFile i (Torn c.args.len 0) w (g.C.Calls.world c.ftruncate.new.self)) same (c.ftruncate.ensures.grown short)

pub returns-then-branch-len-clause-moments : goal.returns-then-branch-len-clause-moments
returns-then-branch-len-clause-moments g c =
    let i = g.C.Calls.file c.args.handle.now in
    let s = c.in_ok-size.ensures in
    let same : g.C.Calls.world c.size.new.self ≡ g.C.Calls.world c.args.calls.now = s.world in
    let short : IsTrue g.C.Calls.tells → length ((g.C.Calls.world c.size.new.self).bytes i) ≤ c.args.len = λ t. omega (arith, s.size t, c.if-branch-len.true, ap (λ (w : World). length (w.bytes i)) same) in
    same_first (λ w. on_file_refl i _ w (torn_refl c.args.len 0 (w.bytes i))) s.moments (c.ftruncate.ensures.grown_moments short)

pub returns-clause-written : goal.returns-clause-written
returns-clause-written g c = λ t.
    let i = g.C.Calls.file c.args.handle.now in
    let s = c.in_ok-size.ensures in
    let same : g.C.Calls.world c.size.new.self ≡ g.C.Calls.world c.args.calls.now = s.world in
    ap (λ (w : World). w.bytes i) same ∙ overlaid_within c.args.len _ (omega (arith, s.size t, c.if-branch-len.false))
