-- Whatever a run does, its session stays in order: no two programs lock one record, what is locked stands, and what programs have at hand hangs
-- together with the database.
use Rattle.std.proofs.Common.{◌≡◌, ℕ, List, [], arith, subst}
use Rattle.dms_desc.specs.Shape.{Described}
use Rattle.dms_desc_bytes.specs.WellFormed.{IsWellFormed}
use Rattle.dms_model.specs.declared.verb.Verb.{Verb}
use Rattle.dms_model.specs.Db.{Db}
use Rattle.dms_model.specs.Session.{Session, step}
use Rattle.dms_model.specs.Verbs.{IsVerbOf}
use Rattle.dms_laws.proofs.Coherences.{stays_coherent}
use Rattle.dms_laws.proofs.Formed.{well_made}
use Rattle.dms_laws.proofs.Locks.{locks_stay_exclusive}
use Rattle.dms_storeverbs.specs.View.{MayStep, Room}
use Rattle.dms_runner.specs.declared.waiting.WaitingLine.{WaitingLine}
use Rattle.dms_runner.specs.Answers.{RunState, IsInOrder, MayTakeLine, first_state, line_step, one_line_more}
use Rattle.dms_runner.specs.Waiting.{AreVerbs, retry}
use Rattle.dms_runner.proofs.Kept.{line_kept, retry_kept}
use Rattle.dms_runner.proofs.LineVerbs.{line_verb}

pub may_go_on : {desc : Described} {s : Session} → Room s.next → IsInOrder desc s → MayStep desc s
may_go_on room order = record { room = room; exclusive = order.exclusive; coherent = order.coherent }

pub may_step : {desc : Described} {g : RunState} → MayTakeLine desc g → MayStep desc g.session
may_step may = may_go_on (omega (arith, may.room)) may.order

pub in_order : {desc : Described} {s : Session} → IsWellFormed desc → MayStep desc s → IsInOrder desc s
in_order well may = record { well = well; exclusive = may.exclusive; coherent = may.coherent }

pub line_more : {desc : Described} {g : RunState} → MayTakeLine desc g → MayTakeLine desc (one_line_more g)
line_more may = record { room = may.room; order = may.order }

-- under the same description

pub order_under : {d e : Described} {s : Session} → d ≡ e → IsInOrder d s → IsInOrder e s
order_under {s = s} same order = subst (λ (x : Described). IsInOrder x s) same order

pub may_under : {d e : Described} {s : Session} → d ≡ e → MayStep d s → MayStep e s
may_under {s = s} same may = subst (λ (x : Described). MayStep x s) same may

pub take_under : {d e : Described} {g : RunState} → d ≡ e → MayTakeLine d g → MayTakeLine e g
take_under {g = g} same may = subst (λ (x : Described). MayTakeLine x g) same may

-- steps and lines

pub first_in_order : (desc : Described) → IsWellFormed desc → (db : Db) (first : ℕ) → IsInOrder desc (first_state db first).session
first_in_order desc well db first = record { well = well; exclusive = locks_stay_exclusive.first db first; coherent = (stays_coherent desc (well_made desc well)).first db first }

pub step_in_order : (desc : Described) (s : Session) (name : List ℕ) (verb : Verb) → IsVerbOf desc verb → IsInOrder desc s → IsInOrder desc (step desc s name verb).session
step_in_order desc s name verb of order = record {
  well = order.well;
  exclusive = locks_stay_exclusive.keeps desc s name verb order.exclusive;
  coherent = (stays_coherent desc (well_made desc order.well)).keeps s name verb of order.exclusive order.coherent;
}

-- a session in order, and lines with verbs that a line can spell
abbrev pub InOrderWith : Described → Session → List WaitingLine → Type 0
InOrderWith desc s waiting = IsInOrder desc s × AreVerbs desc waiting

pub retry_in_order : (desc : Described) (s : Session) (waiting : List WaitingLine) → AreVerbs desc waiting → IsInOrder desc s → IsInOrder desc (retry desc s [] waiting).session
retry_in_order desc s waiting verbs order = (retry_kept (IsInOrder desc) (IsVerbOf desc) desc (line_verb desc order.well) (step_in_order desc) s [] waiting order tt verbs).kept

pub line_in_order : (desc : Described) (g : RunState) (raw : List ℕ) → AreVerbs desc g.waiting → IsInOrder desc g.session → InOrderWith desc (line_step desc g raw).going.session (line_step desc g raw).going.waiting
line_in_order desc g raw verbs order =
    let k = line_kept (IsInOrder desc) (IsVerbOf desc) desc (line_verb desc order.well) (step_in_order desc) g raw order verbs in
    (k.kept, k.verbs)
