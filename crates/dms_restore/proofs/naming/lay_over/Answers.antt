use Rattle.std.proofs.Common.{inl, inr, refl, sym, ◌∙◌, ap, subst}
use Rattle.std.specs.Prelude.{◌≡◌, ◌||◌}
use Rattle.dms_restore.specs.Named.{pieces_at, IsOneOf}
use Rattle.dms_restore.proofs.Noting.{laid_is}
use Rattle.dms_restore.proofs.SpotParts.{laid_piece}
use Rattle.dms_restore.proofs.naming.lay_over.Goals as goal
use Rattle.dms_restore.proofs.naming.lay_over.Goals.{then-named, else-named}

pub returns-after-named-clause-lays : goal.returns-after-named-clause-lays
returns-after-named-clause-lays c files =
    let named : c.if-named.result ≡ c.args.was.named || c.args.names = elim c.if-named.branch [
      | then-named w ↦ w.result-is ∙ w.if-named.true ∙ sym (ap (λ t. t || c.args.names) w.if-named.true)
      | else-named w ↦ w.result-is ∙ sym (ap (λ t. t || c.args.names) w.if-named.false)
    ] in
    laid_is files c.args.was c.in-Some.spot c.args.patch c.args.names c.if-named.result c.push.new.self.items c.in-Some.is c.in_ok-push-in-Some.ensures.items named _ refl refl

pub returns-after-named-clause-from : goal.returns-after-named-clause-from
returns-after-named-clause-from c f b t is = elim (laid_piece f b c.in-Some.spot (record { audit = c.in-Some.spot.audit; at = c.in-Some.spot.at; patches = c.push.new.self }) c.args.patch t refl refl c.in_ok-push-in-Some.ensures.items is) [
  | inl old ↦ inl (subst (λ o. IsOneOf t (pieces_at f b o)) (sym c.in-Some.is) old)
  | inr this ↦ inr this
]
