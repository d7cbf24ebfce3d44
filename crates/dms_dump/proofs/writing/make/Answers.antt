use Rattle.std.proofs.Common.{None, ℕ, ◌++◌, ◌∙◌, inl, inr, List, subst}
use Rattle.dms_moments.specs.Moments.{Steps}
use Rattle.dms_site.specs.Files.{OnDisk, stored_of}
use Rattle.dms_dump.specs.Head.{Head, head_bytes}
use Rattle.dms_dump.specs.Body.{body_bytes}
use Rattle.dms_dump.specs.Stops.{BecomesDump}
use Rattle.dms_dump.proofs.Copied.{all_kept, short_kept, dump_shut, dump_kept}
use Rattle.dms_dump.proofs.Gates.{becomes_on}
use Rattle.dms_dump.proofs.writing.make.Goals as goal

pub returns-in-Err-clause-moments : goal.returns-in-Err-clause-moments
returns-in-Err-clause-moments g c tells = c.shut.ensures.moments _ tells

pub returns-in-Err-fill_synced-clause-moments : goal.returns-in-Err-fill_synced-clause-moments
returns-in-Err-fill_synced-clause-moments g c tells = becomes_on c.args.file _ (c.shut.ensures.moments _ tells) (c.fill_synced.ensures.moments _ tells)

pub returns-in-Err-fill_synced-clause-only : goal.returns-in-Err-fill_synced-clause-only
returns-in-Err-fill_synced-clause-only g c = elim c.in-Err-fill_synced.ensures.only [
  | inl disk ↦ inl disk
  | inr short ↦ inr (short_kept g.S.Site.tells (g.S.Site.files c.args.site.now) (g.S.Site.files c.shut.new.site) c.args.file c.args.counts.now _ c.requires.no_structure c.shut.ensures.others short)
]

pub returns-in-Ok-open_gate-clause-written : goal.returns-in-Ok-open_gate-clause-written
returns-in-Ok-open_gate-clause-written g c tells =
    let h : Head = record { tag = c.args.tag; point = c.args.point; audit = c.args.audit; counts = c.args.counts.now; end = None } in
    let mid = g.S.Site.files c.shut.new.site in
    c.in-Ok-open_gate.ensures.opened (head_bytes h ++ body_bytes (stored_of mid) h.counts) tells (c.in-Ok-fill_synced.ensures.filled tells ∙ dump_shut h (stored_of mid))
    ∙ dump_kept (g.S.Site.files c.args.site.now) mid c.args.file h c.requires.no_structure (c.shut.ensures.others tells)

pub returns-in-Ok-open_gate-clause-whole : goal.returns-in-Ok-open_gate-clause-whole
returns-in-Ok-open_gate-clause-whole g c tells =
    all_kept (g.S.Site.files c.args.site.now) (g.S.Site.files c.shut.new.site) c.args.file c.args.counts.now c.requires.no_structure (c.shut.ensures.others tells) (c.in-Ok-fill_synced.ensures.whole tells)

pub returns-in-Ok-open_gate-clause-moments : goal.returns-in-Ok-open_gate-clause-moments
returns-in-Ok-open_gate-clause-moments g c tells =
    let h : Head = record { tag = c.args.tag; point = c.args.point; audit = c.args.audit; counts = c.args.counts.now; end = None } in
    let mid = g.S.Site.files c.shut.new.site in
    becomes_on c.args.file _ (becomes_on c.args.file _ (c.shut.ensures.moments _ tells) (c.fill_synced.ensures.moments _ tells))
    (subst (λ (l : List ℕ). Steps (OnDisk c.args.file (BecomesDump l)) (g.S.Site.clock c.fill_synced.new.site) (g.S.Site.clock c.open_gate.new.site))
    (dump_kept (g.S.Site.files c.args.site.now) mid c.args.file h c.requires.no_structure (c.shut.ensures.others tells))
    (c.open_gate.ensures.moments (head_bytes h ++ body_bytes (stored_of mid) h.counts) tells (c.in-Ok-fill_synced.ensures.filled tells ∙ dump_shut h (stored_of mid))))

pub returns-in-Err-open_gate-clause-moments : goal.returns-in-Err-open_gate-clause-moments
returns-in-Err-open_gate-clause-moments g c tells =
    let h : Head = record { tag = c.args.tag; point = c.args.point; audit = c.args.audit; counts = c.args.counts.now; end = None } in
    let mid = g.S.Site.files c.shut.new.site in
    becomes_on c.args.file _ (becomes_on c.args.file _ (c.shut.ensures.moments _ tells) (c.fill_synced.ensures.moments _ tells))
    (subst (λ (l : List ℕ). Steps (OnDisk c.args.file (BecomesDump l)) (g.S.Site.clock c.fill_synced.new.site) (g.S.Site.clock c.open_gate.new.site))
    (dump_kept (g.S.Site.files c.args.site.now) mid c.args.file h c.requires.no_structure (c.shut.ensures.others tells))
    (c.open_gate.ensures.moments (head_bytes h ++ body_bytes (stored_of mid) h.counts) tells (c.in-Ok-fill_synced.ensures.filled tells ∙ dump_shut h (stored_of mid))))
