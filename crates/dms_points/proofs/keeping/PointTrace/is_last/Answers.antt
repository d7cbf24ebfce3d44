use Rattle.std.proofs.Common.{◌==◌, List, length, sym, ◌∙◌, ap}
use Rattle.dms_points.specs.Keeping.{is_last}
use Rattle.dms_points.specs.declared.keeping.PlaceAt.{PlaceAt}
use Rattle.dms_points.proofs.Found.{last_at, some_of}
use Rattle.dms_points.proofs.keeping.PointTrace.is_last.Goals as goal

pub returns-in-Some : goal.returns-in-Some
returns-in-Some c =
    let n = c.args.number in
    ap (λ (p : PlaceAt). p.number == n) c.in-Some.ensures.item.1
    ∙ sym (last_at c.deref.result.now n c.in-Some.place.now (some_of (length c.deref.result.now) c.in-Some.ensures.item.0)) ∙ ap (λ (l : List PlaceAt). is_last l n) c.deref.ensures.value
