use Rattle.std.proofs.Common.{◌≡◌, ◌∙◌, ◌++◌, ap, arith, false, sym, subst, inl, inr, [], ◌∷◌, drop}
use Rattle.std.proofs.lemmas.Result.{on_ok_weaker}
use Rattle.std.proofs.lemmas.Bool.{cases_Bool}
use Rattle.dms_moments.specs.MomentLaws.{steps_on, steps_weaken}
use Rattle.dms_audrec.specs.Seen.{entry_seen}
use Rattle.dms_audfile.specs.declared.audit_end.AuditEnd.{AuditEnd}
use Rattle.dms_audfile.specs.TrailEntries.{trail_entries}
use Rattle.dms_audfile.specs.Ends.{EndsAt, Appends, Grown, is_past}
use Rattle.dms_audfile.proofs.Ended.{seals_first, seals_then, between, appends_held, appends_begun, on_both, steps_as}
use Rattle.dms_audfile.proofs.Waiting.{held_ends}
use Rattle.dms_audfile.proofs.audit_end.AuditEnd.append.Goals as goal

pub returns-in-Err-clause-moments : goal.returns-in-Err-clause-moments
returns-in-Err-clause-moments g c first waiting tells plain at =
    steps_weaken (c.make_room.ensures.moments first waiting tells at) (λ z x now one. seals_first _ _ first waiting (entry_seen c.args.entry.now ∷ []) z x one)

pub returns-clause-moments : goal.returns-clause-moments
returns-clause-moments g c first waiting tells plain at =
    let s = c.args.self.now in
    let one = c.make_room.new.self in
    let new = c.hold.new.self in
    let e = entry_seen c.args.entry.now in
    let old = g.S.Site.files c.args.site.now in
    let mid = g.S.Site.files c.make_room.new.site in
    let b = g.S.Site.clock c.make_room.new.site in
    let made : Appends one first waiting old mid b = c.in-Ok.ensures.appends first waiting tells plain at in
    let held = c.hold.ensures in
    let ends : EndsAt new first (drop made.some waiting ++ e ∷ []) mid b = held_ends one new first (drop made.some waiting) e mid b made.ends made.plain c.requires.entry c.requires.size
    (λ on. c.in-Ok.ensures.alone (c.begins-alone.ensures ∙ on)) held.held held.begun held.kind.0 held.kind.1 held.place.0 held.place.1 in
    steps_on (c.make_room.ensures.moments first waiting tells at)
    (steps_as new.total s.total new.tag s.tag first (drop made.some waiting ++ e ∷ []) _ _ (held.kind.0 ∙ c.in-Ok.ensures.kind.0) (held.kind.1 ∙ c.in-Ok.ensures.kind.1) (c.seal_where.ensures.moments first (drop made.some waiting ++ e ∷ []) tells ends))
    (λ z y x was now first_step then_step. seals_then s.total s.tag first made.some waiting (e ∷ []) z y x
    (between s one first made.some waiting (drop made.some waiting) old mid (g.S.Site.clock c.args.site.now) b z y at made.ends c.in-Ok.ensures.kind.0 s.high one.high made.sealed was now) first_step then_step)
    (λ z x now step. seals_first s.total s.tag first waiting (e ∷ []) z x step)

pub returns-clause-appends : goal.returns-clause-appends
returns-clause-appends g c = elim (cases_Bool c.begins-alone.result) [
  | inl on ↦ on_ok_weaker c.seal_where.result (λ both first waiting tells plain at.
      let s = c.args.self.now in
      let one = c.make_room.new.self in
      let new = c.hold.new.self in
      let e = entry_seen c.args.entry.now in
      let old = g.S.Site.files c.args.site.now in
      let mid = g.S.Site.files c.make_room.new.site in
      let b = g.S.Site.clock c.make_room.new.site in
      let made : Appends one first waiting old mid b = c.in-Ok.ensures.appends first waiting tells plain at in
      let held = c.hold.ensures in
      let ends : EndsAt new first (drop made.some waiting ++ e ∷ []) mid b = held_ends one new first (drop made.some waiting) e mid b made.ends made.plain c.requires.entry c.requires.size
      (λ on. c.in-Ok.ensures.alone (c.begins-alone.ensures ∙ on)) held.held held.begun held.kind.0 held.kind.1 held.place.0 held.place.1 in
      let files = g.S.Site.files c.seal_where.new.site in
      let more = drop made.some waiting ++ e ∷ [] in
      appends_begun one c.seal_where.new.self first waiting (e ∷ []) old mid files b (g.S.Site.clock c.seal_where.new.site) made (c.seal_where.ensures.kind.0 ∙ held.kind.0)
      (subst (λ t. trail_entries t first files ≡ trail_entries t first mid ++ more) held.kind.0 (both.0.0 on first more tells ends))
      (subst (λ t. Grown t first mid files) held.kind.0 (both.1 first more tells ends)) (both.0.1 on first more tells ends))
      (on_both c.seal_where.result _ _ (on_both c.seal_where.result _ _ c.seal_where.ensures.sealed c.seal_where.ensures.ends) c.seal_where.ensures.grown)
  | inr off ↦ on_ok_weaker c.seal_where.result (λ done first waiting tells plain at.
      let s = c.args.self.now in
      let one = c.make_room.new.self in
      let new = c.hold.new.self in
      let e = entry_seen c.args.entry.now in
      let old = g.S.Site.files c.args.site.now in
      let mid = g.S.Site.files c.make_room.new.site in
      let b = g.S.Site.clock c.make_room.new.site in
      let made : Appends one first waiting old mid b = c.in-Ok.ensures.appends first waiting tells plain at in
      let held = c.hold.ensures in
      let ends : EndsAt new first (drop made.some waiting ++ e ∷ []) mid b = held_ends one new first (drop made.some waiting) e mid b made.ends made.plain c.requires.entry c.requires.size
      (λ on. c.in-Ok.ensures.alone (c.begins-alone.ensures ∙ on)) held.held held.begun held.kind.0 held.kind.1 held.place.0 held.place.1 in
      let idle = c.seal_where.ensures.idle off in
      let appended : Appends new first (waiting ++ e ∷ []) old mid b = appends_held one new first waiting e old mid b made held.kind.0 ends c.requires.entry (sym c.begins-alone.ensures ∙ off) in
      subst (λ (s : AuditEnd). Appends s first (waiting ++ e ∷ []) old (g.S.Site.files c.seal_where.new.site) (g.S.Site.clock c.seal_where.new.site)) (sym idle.0)
      (subst (λ t. Appends new first (waiting ++ e ∷ []) old (g.S.Site.files t) (g.S.Site.clock t)) (sym idle.1) appended)) c.seal_where.ensures.empty
]

pub returns-clause-within : goal.returns-clause-within
returns-clause-within g c = on_ok_weaker c.seal_where.result (λ done. sym (λ i. is_past c.args.self.now (c.length.ensures i) (c.begins-alone.ensures i)) ∙ c.in-Ok.ensures.within) c.seal_where.ensures.empty

pub returns-in-Err-clause-past : goal.returns-in-Err-clause-past
returns-in-Err-clause-past g c is = sym (λ i. is_past c.args.self.now (c.length.ensures i) (c.begins-alone.ensures i)) ∙ c.in-Err.ensures.past is

pub returns-clause-waits : goal.returns-clause-waits
returns-clause-waits g c = on_ok_weaker c.seal_where.result (λ done plain.
    let off : c.begins-alone.result ≡ false = c.begins-alone.ensures ∙ plain in
    let same = ap (λ (s : AuditEnd). s.used) (c.seal_where.ensures.idle off).0 in
    omega (arith, same, c.hold.ensures.some)) c.seal_where.ensures.empty
