use Rattle.std.proofs.lemmas.List.{take_all}
use Rattle.std.proofs.Common.{◌∙◌, ap, ◌≡◌, ◌+◌, ◌-◌, ◌<◌, arith, length, ℕ, List, take, drop, length-drop}
use Rattle.dms_site.specs.Files.{overlay_bytes}
use Rattle.dms_folder.specs.Writes.{write_on, some_on, on_file_on, torn_on}
use Rattle.dms_folder.proofs.write.write_all.Goals as goal

pub returns-in_err-count-clause-moments : goal.returns-in_err-count-clause-moments
returns-in_err-count-clause-moments g c =
    let l = c.loop-done in
    write_on (g.C.Calls.file c.args.handle.now) c.args.at (length c.args.bytes.now) l.done _ l.invariant.5 c.in_err-count.ensures.moments (omega (arith, l.invariant.0, length-drop l.done c.args.bytes.now))

pub returns-then-count-eq0-clause-moments : goal.returns-then-count-eq0-clause-moments
returns-then-count-eq0-clause-moments g c =
    let l = c.loop-done in
    write_on (g.C.Calls.file c.args.handle.now) c.args.at (length c.args.bytes.now) l.done _ l.invariant.5 c.in_ok-count.ensures.moments (omega (arith, l.invariant.0, length-drop l.done c.args.bytes.now))

pub loop-done-preserved : goal.loop-done-preserved
loop-done-preserved g c =
    let l = c.loop-done in
    let n = c.in_ok-count.count in
    let i = g.C.Calls.file c.args.handle.now in
    let e = c.in_ok-count.ensures in
    let bytes = c.args.bytes.now in
    let more : 0 < n = omega (arith, c.if-count-eq0.false) in
    let mid = (g.C.Calls.world l.calls).bytes i in
    let whole : take (length bytes - l.done) (drop l.done bytes) ≡ drop l.done bytes = take_all (length bytes - l.done) (drop l.done bytes) (omega (arith, length-drop l.done bytes)) in (
      omega (arith, e.count, l.invariant.0, length-drop l.done bytes),
      e.broken,
      (λ t none. absurd (omega (arith, none, more))),
      (λ t some. some_on c.args.at l.done n bytes _ _ _ (l.invariant.2 t) (l.invariant.3 t) l.invariant.0 (e.written t more ∙ ap (λ (r : List ℕ). overlay_bytes (c.args.at + l.done) (take n r) mid) whole)),
      on_file_on i _ _ _ _ _ _ l.invariant.4 e.torn (λ x y z one two. torn_on c.args.at (length bytes) l.done _ x y z one two (omega (arith, l.invariant.0, length-drop l.done bytes))),
      write_on i c.args.at (length bytes) l.done _ l.invariant.5 e.moments (omega (arith, l.invariant.0, length-drop l.done bytes)),
    )
