-- The dump of a restore that is pending is in order.
use Rattle.std.proofs.Common.{ℕ, ◌<◌, ◌≤◌, ◌≡◌, List, Option, Some, None, refl, sym, ◌∙◌, ap, subst}
use Rattle.dms_site.specs.Files.{Files}
use Rattle.dms_history.specs.Events.{Stored, Event, How, halt_load, back_out, roll_back, rebuild, reconstruct}
use Rattle.dms_history.specs.Places.{IsLive}
use Rattle.dms_history.specs.History.{Pending}
use Rattle.dms_history.specs.Pick.{Dumps, count_at, pick, content_of}
use Rattle.dms_history.specs.Here.{outcome, restore_pick}
use Rattle.dms_running.specs.Begun.{ByAudit}
use Rattle.dms_running.specs.Telling.{Telling, IsTelling}
use Rattle.dms_running.specs.FromDumps.{OrderBy, DumpsInOrder}

-- a restore by the audit asks nothing of dumps
pub audit_order : (found : ℕ → Type 0) (d : Dumps) (p : Pending) → (how : How) → ByAudit how → OrderBy found d p how
audit_order found d p halt_load by_audit = tt
audit_order found d p back_out by_audit = tt
audit_order found d p roll_back by_audit = tt
audit_order found d p (rebuild k) by_audit = absurd by_audit
audit_order found d p (reconstruct k named) by_audit = absurd by_audit

-- nor where none is pending
pub none_order : (found : ℕ → Type 0) (d : Dumps) (q : Option Pending) → q ≡ None → DumpsInOrder found d q
none_order found d q none = subst (DumpsInOrder found d) (sym none) tt

order_by : (x y : ℕ → Type 0) (a b : Dumps) (p : Pending) (how : How) → ((k : ℕ) → x k → y k) → b ≡ a → OrderBy x a p how → OrderBy y b p how
order_by x y a b p halt_load goes same order = tt
order_by x y a b p back_out goes same order = tt
order_by x y a b p roll_back goes same order = tt
order_by x y a b p (rebuild k) goes same order = record {
  is_found = goes k order.is_found;
  point_lives = subst (λ (d : Dumps). IsLive p.entries (d k).point) (sym same) order.point_lives;
  end_lives = subst (λ (d : Dumps). IsLive p.entries (d k).end) (sym same) order.end_lives;
  point_low = subst (λ (d : Dumps). (d k).point ≤ p.point) (sym same) order.point_low;
  end_low = subst (λ (d : Dumps). (d k).end ≤ p.point) (sym same) order.end_low;
}
order_by x y a b p (reconstruct k named) goes same order = record {
  is_found = goes k order.is_found;
  point_lives = subst (λ (d : Dumps). IsLive p.entries (d k).point) (sym same) order.point_lives;
  end_lives = subst (λ (d : Dumps). IsLive p.entries (d k).end) (sym same) order.end_lives;
  point_low = subst (λ (d : Dumps). (d k).point ≤ p.point) (sym same) order.point_low;
  end_low = subst (λ (d : Dumps). (d k).end ≤ p.point) (sym same) order.end_low;
}

order_on : (x y : ℕ → Type 0) (a b : Dumps) (q : Option Pending) → ((k : ℕ) → x k → y k) → b ≡ a → DumpsInOrder x a q → DumpsInOrder y b q
order_on x y a b None goes same order = tt
order_on x y a b (Some p) goes same order = order_by x y a b p p.how goes same order

-- while the dump files are the same and found it stays so
pub order_stays : (t : Telling) → IsTelling t → (x y : Files) (q : Option Pending) → ((g : ℕ) → 20000 < g → g ≤ 30000 → y g ≡ x g) → ((k : ℕ) → t.dump_found x k → t.dump_found y k) → DumpsInOrder (t.dump_found x) (t.dumps x) q
    → DumpsInOrder (t.dump_found y) (t.dumps y) q
order_stays t telling x y q same goes order = order_on (t.dump_found x) (t.dump_found y) (t.dumps x) (t.dumps y) q goes (telling.dumps_between y x same) order

picks_audit : (how : How) (d : Dumps) (live : List Event) (m : ℕ) (st : Stored) → ByAudit how → restore_pick how d live m st ≡ pick live m st
unfolding restore_pick
picks_audit halt_load d live m st by_audit = refl
picks_audit back_out d live m st by_audit = refl
picks_audit roll_back d live m st by_audit = refl
picks_audit (rebuild d) dumps live m st by_audit = absurd by_audit
picks_audit (reconstruct d named) dumps live m st by_audit = absurd by_audit

-- no dump counts in it
pub outcomes_by : (q : Pending) → ByAudit q.how → (e d : Dumps) (st : Stored) → outcome q.how e q.entries q.point st ≡ outcome q.how d q.entries q.point st
unfolding outcome
outcomes_by q by_audit e d st = ap (λ (s : Stored). content_of (count_at q.entries q.point) s) (picks_audit q.how e q.entries q.point st by_audit ∙ sym (picks_audit q.how d q.entries q.point st by_audit))
