-- Laws of a running database of which a dump is copied.
use Rattle.std.proofs.Common.{ℕ, ◌≡◌, IsTrue, List, refl, sym, ◌∙◌, subst, arith}
use Rattle.dms_moments.specs.Moments.{Clock, Now, Steps}
use Rattle.dms_moments.specs.MomentLaws.{runs_none, steps_on, steps_weaken}
use Rattle.dms_site.specs.declared.site.Site.{Ghosts}
use Rattle.dms_site.specs.Files.{Left}
use Rattle.dms_block.specs.Held.{BlocksAgree}
use Rattle.dms_dump.specs.Stops.{KeepsGate}
use Rattle.dms_wal.specs.AgreeLaws.{agrees}
use Rattle.dms_wal.specs.PaceLaws.{grows_none, grows_on, pace_none, pace_on}
use Rattle.dms_online.specs.declared.dump_site.DumpSite.{DumpSite}
use Rattle.dms_online.specs.declared.online.Online.{Online}
use Rattle.dms_online.specs.Calls.{LeavesGate, SameDump}
use Rattle.dms_online.specs.Onlines.{SameOnline, online_held}
use Rattle.dms_online.specs.Sites.{SameBut}

gate_refl : (l : List ℕ) → KeepsGate l l
gate_refl l = record { no_shorter = omega arith; gate = λ some. refl }

gate_kept : (k l m : List ℕ) → KeepsGate k l → KeepsGate l m → KeepsGate k m
gate_kept k l m p q = record { no_shorter = omega (arith, p.no_shorter, q.no_shorter); gate = λ some. q.gate (omega (arith, some, p.no_shorter)) ∙ p.gate some }

gate_none : (f : ℕ) (c : Clock Left) → Steps (LeavesGate f) c c
gate_none f c = record { follows = λ x now. (x, now, gate_refl (x.files f)); runs = runs_none c _ }

pub gate_then : (f h : ℕ) {a b c : Clock Left} → h ≡ f → Steps (LeavesGate f) a b → Steps (LeavesGate h) b c → Steps (LeavesGate f) a c
gate_then f h {b = b} {c = c} same one two =
    steps_on one (subst (λ (k : ℕ). Steps (LeavesGate k) b c) same two) (λ x y z nx ny p q. gate_kept (x.files f) (y.files f) (z.files f) p q) (λ x y nx p. p)

pub gate_same : (f : ℕ) {a b : Clock Left} → Steps (λ (x y : Left). y.files f ≡ x.files f) a b → Steps (LeavesGate f) a b
gate_same f steps = steps_weaken steps (λ x y now is. subst (λ (l : List ℕ). KeepsGate (x.files f) l) (sym is) (gate_refl (x.files f)))

module _ {S : Type 0} (g : Ghosts S) where
  pub dump_again : ((s : S) → g.same_site s s) → (a : DumpSite S) → SameDump g a a
  dump_again again a = record { same = again a.site; file = refl; gate = λ tells. gate_none a.file (g.clock a.site) }

  pub dump_then : ((r s t : S) → g.same_site r s → g.same_site s t → g.same_site r t) → (a b c : DumpSite S) → SameDump g a b → SameDump g b c → SameDump g a c
  dump_then then a b c one two = record {
    same = then a.site b.site c.site one.same two.same;
    file = two.file ∙ one.file;
    gate = λ tells. gate_then a.file b.file one.file (one.gate tells) (two.gate tells);
  }

  -- a call of the database lets it be
  pub dump_kept : (a b : DumpSite S) → SameBut g a.file a.site b.file b.site → SameDump g a b
  dump_kept a b same = record {
    same = same.same;
    file = same.file_same;
    gate = λ tells. gate_same a.file same.left;
  }

module _ {S : Type 0} {d : Ghosts (DumpSite S)} {g : Ghosts S} where
  pub online_agrees : ((s : DumpSite S) → IsTrue d.tells → (x : Left) × Now (d.clock s) x × (x.files ≡ d.files s)) → ((s : DumpSite S) (x : Left) → IsTrue d.tells_said → Now (d.clock s) x → x.said ≡ d.said s)
      → (o : Online S) → (online_held d g o).sound → BlocksAgree (online_held d g o)
  online_agrees stay now_said o sound =
      let b = agrees stay now_said o.running sound.usable in
      record { counted = b.counted; may_stop = b.may_stop; stop = b.stop; here = b.here; durable = b.durable }

  pub online_again : ((s : S) → g.same_site s s) → (o : Online S) → SameOnline d g o o
  online_again again o = record { dump = dump_again g again o.running.log.site; pace = pace_none o.running; grows = grows_none o.running; plan = refl }

  pub online_then : ((r s t : S) → g.same_site r s → g.same_site s t → g.same_site r t) → (a b c : Online S) → SameOnline d g a b → SameOnline d g b c → SameOnline d g a c
  online_then then a b c one two = record {
    dump = dump_then g then a.running.log.site b.running.log.site c.running.log.site one.dump two.dump;
    pace = pace_on one.pace two.pace;
    grows = grows_on one.pace one.grows two.grows;
    plan = two.plan ∙ one.plan;
  }
