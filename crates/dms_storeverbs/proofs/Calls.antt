-- What a stop within a call of the engine leaves.
use Rattle.std.proofs.Common.{ℕ, ◌+◌, ◌≤◌, ◌≡◌, List, [], ◌∷◌, ◌++◌, Some, None, refl, sym, ◌∙◌, ap, subst, arith, append-nil, Bool, true, false, cond}
use Rattle.std.specs.declared.option.Option.{Option}
use Rattle.dms_moments.specs.Moments.{Clock, Runs}
use Rattle.dms_moments.specs.MomentLaws.{runs_on, runs_weaken, runs_none}
use Rattle.dms_model.specs.Programs.{Program, Wait}
use Rattle.dms_model.specs.declared.reply.Answer.{Answer}
use Rattle.dms_model.specs.Db.{Db}
use Rattle.dms_model.specs.Seen.{Seen, StoreAgrees, IsSilent, StaysDurable}
use Rattle.std.specs.Prelude.{IsErr, IsErrAnd, IfOk}
use Rattle.std.specs.declared.result.Result.{Result}
use Rattle.std.specs.declared.result.Result.TheVariants.{Ok, Err}
use Rattle.std.proofs.lemmas.Result.{IfOk-weaker}
use Rattle.std.proofs.lemmas.Bool.{false≢true}
use Rattle.dms_block.specs.declared.block_fault.BlockFault.{BlockFault}
use Rattle.dms_block.specs.Faults.{Undamaged}
use Rattle.dms_model.specs.Points.{StopFiles, Point, Quiet, Stop, LeavesPrefix, StopTextIs, told_point, known_point, StoreLeaves, PointsStayDurable}
use Rattle.dms_model.specs.Session.{Session, Outcome, after_answer, programs_after, settle, someone_works, waits_after}
use Rattle.dms_storeverbs.specs.Apart.{Alone}
use Rattle.dms_storeverbs.specs.View.{View, StandsFor, MatchesOutcome, PerformsCall, Room, view_of, LeavesQuiets, MakesPoints}

-- fewer points are durable, and the next number is the same
pub lower : {V W : StopFiles → Type 0} {a b m n : ℕ} {ps : List Point} {stop : Stop} → ((files : StopFiles) → V files → W files) → a ≤ b → m ≡ n → LeavesPrefix V b ps n stop → LeavesPrefix W a ps m stop
lower {stop = stop} whole low same front = record { count = front.count; enough = omega (arith, low, front.enough); within = front.within; is = front.is; not_fallen = omega (arith, same, front.not_fallen); not_risen = omega (arith, same, front.not_risen); files = whole stop.files front.files }

-- nothing of a call's quiet points was made yet
pub stays : {W : StopFiles → Type 0} {durable next : ℕ} {points : List Point} {stop : Stop} (quiets : List Quiet) → LeavesPrefix W durable points next stop → LeavesQuiets W durable points next quiets stop
stays {points = points} quiets front = record { made = []; rest = quiets; all = points; front_of = refl; grew = record { more = []; is = sym (append-nil points); spells = refl }; front = lower (λ files w. w) (omega arith) (omega arith) front }

pub still : {W : StopFiles → Type 0} {old new : Clock Stop} {durable next : ℕ} {points : List Point} {said : Option (List ℕ)} (quiets : List Quiet) → StoreLeaves W old new durable points next said → Runs old new (λ stop. LeavesQuiets W durable points next quiets stop × StopTextIs said stop)
still quiets run = runs_weaken run (λ x p. (stays quiets p.0, p.1))

-- a call that makes no point
pub no_more : (answer : Answer) {durable durable' : ℕ} {points points' : List Point} → answer.sync ≡ None → PointsStayDurable points durable points' durable' → MakesPoints answer durable points [] durable' points'
no_more answer {points = points} none stays = record { grew = record { more = []; is = stays.0 ∙ sym (append-nil points); spells = refl }; later = stays.1; synced = λ n is. absurd (let no : ◌≡◌ {A = Option ℕ} None (Some n) = sym none ∙ is in cc) }

-- a call that leaves its store alone
module _ {db mark : Option Db} {next since : ℕ} {programs new : List Program} {pending : Bool} {waits : List Wait} {o : Outcome} {s : Session} {answer : Answer} where
  pub apart : Alone o s answer new → StandsFor (view_of db mark next programs pending since waits) s → MatchesOutcome o answer (view_of db mark next new pending since waits)
  apart alone stands = record {
    reply = alone.reply;
    sync = alone.unsynced ∙ sym alone.sync;
    session = record {
      db = stands.db ∙ ap (λ (t : Session). Some t.db) (sym alone.session);
      mark = stands.mark ∙ ap (λ (t : Session). Some t.mark) (sym alone.session);
      next = stands.next ∙ ap (λ (t : Session). t.next) (sym alone.session);
      programs = ap (λ (t : Session). t.programs) (sym alone.session);
      pending = stands.pending ∙ ap (λ (t : Session). t.pending) (sym alone.session);
      since = stands.since ∙ ap (λ (t : Session). t.since) (sym alone.session);
      waits = stands.waits ∙ ap (λ (t : Session). t.waits) (sym alone.session);
    };
  }

pub nothing : (W : StopFiles → Type 0) (c : Clock Stop) (durable : ℕ) (points : List Point) (next : ℕ) (said : Option (List ℕ)) (quiets : List Quiet) → Runs c c (λ stop. LeavesQuiets W durable points next quiets stop × StopTextIs said stop)
nothing W c durable points next said quiets = runs_none c _

-- one quiet point was made, or was not
pub one : {W : StopFiles → Type 0} {durable next : ℕ} {points : List Point} {stop : Stop} (p : Point) (q : Quiet) → told_point p ≡ known_point q → LeavesPrefix W durable (points ++ p ∷ []) (next + 1) stop → LeavesQuiets W durable points next (q ∷ []) stop
one {points = points} p q same front = record { made = q ∷ []; rest = []; all = points ++ p ∷ []; front_of = refl; grew = record { more = p ∷ []; is = refl; spells = ap (λ (x : ℕ × Option Db). x ∷ []) same }; front = front }

pub told_known : (b : Seen) (s : Session) → StoreAgrees b → b.next ≡ s.next → b.db ≡ Some s.db → told_point b.here ≡ known_point (s.next, s.db)
told_known b s agrees n d = λ i. ((agrees.number ∙ n) i, agrees.here s.db d i)

pub made_one : (answer : Answer) {durable durable' : ℕ} {points points' : List Point} (p : Point) (q : Quiet) → told_point p ≡ known_point q → answer.sync ≡ None → PointsStayDurable (points ++ p ∷ []) durable points' durable' → MakesPoints answer durable points (q ∷ []) durable' points'
made_one answer p q same none stays = record { grew = record { more = p ∷ []; is = stays.0; spells = ap (λ (x : ℕ × Option Db). x ∷ []) same }; later = stays.1; synced = λ n is. absurd (let no : ◌≡◌ {A = Option ℕ} None (Some n) = sym none ∙ is in cc) }

-- the quiet point of a call, of which a stop may leave nothing yet
module _ (here : Point) (q : Quiet) (same : told_point here ≡ known_point q) (quiets : List Quiet) (is : quiets ≡ q ∷ []) {W : StopFiles → Type 0} {durable next : ℕ} {points : List Point} {said : Option (List ℕ)} where
  pub quieted : {a b : Clock Stop} → StoreLeaves W a b durable (points ++ here ∷ []) (next + 1) said → Runs a b (λ stop. LeavesQuiets W durable points next quiets stop × StopTextIs said stop)
  quieted run = runs_weaken run (λ x p. (subst (λ (qs : List Quiet). LeavesQuiets W durable points next qs x) (sym is) (one here q same p.0), p.1))

  pub synced : {V : StopFiles → Type 0} {a b c : Clock Stop} {durable' next' : ℕ} {points' : List Point} {said' : Option (List ℕ)} → ((files : StopFiles) → V files → W files) → StoreLeaves W a b durable (points ++ here ∷ []) (next + 1) said → (points' ≡ points ++ here ∷ []) × (durable ≤ durable') → next' ≡ next + 1 → said' ≡ said → StoreLeaves V b c durable' points' next' said' → Runs a c (λ stop. LeavesQuiets W durable points next quiets stop × StopTextIs said stop)
  synced {V} {durable' = durable'} {next' = next'} whole first grown more text last = runs_on (quieted first) (runs_weaken last (λ x p. (subst (λ (qs : List Quiet). LeavesQuiets W durable points next qs x) (sym is) (one here q same (lower whole grown.1 (sym more) (subst (λ (ps : List Point). LeavesPrefix V durable' ps next' x) grown.0 p.0))), λ t e. p.1 t (text ∙ e)))) (λ x p. p)

if_same : (b : Bool) (x y : Outcome) (qs : List Quiet) → x.quiets ≡ qs → y.quiets ≡ qs → (cond b x y).quiets ≡ qs
if_same true x y qs ex ey = ex
if_same false x y qs ex ey = ey

pub settled_quiets : (s : Session) → someone_works s.programs ≡ false → (settle s).quiets ≡ (s.next, s.db) ∷ []
unfolding settle
settled_quiets s nobody = rw nobody (if_same s.pending _ _ ((s.next, s.db) ∷ []) refl refl)

-- a call that first stores a record, and then may make a quiet point
pub then_settles : {V W : StopFiles → Type 0} {a b c : Clock Stop} {durable durable' next next' : ℕ} {points points' : List Point} {said said' : Option (List ℕ)} (quiets : List Quiet) → ((files : StopFiles) → V files → W files) → StoreLeaves W a b durable points next said → PointsStayDurable points durable points' durable' → next' ≡ next → said' ≡ said → Runs b c (λ stop. LeavesQuiets V durable' points' next' quiets stop × StopTextIs said' stop) → Runs a c (λ stop. LeavesQuiets W durable points next quiets stop × StopTextIs said stop)
then_settles {durable = durable} {durable' = durable'} {next = next} {next' = next'} {points = points} {points' = points'} quiets whole first stayed number text last =
    runs_on (still quiets first) last (λ x p. (let left = p.0 in record { made = left.made; rest = left.rest; all = left.all; front_of = left.front_of; grew = record { more = left.grew.more; is = left.grew.is ∙ ap (λ (ps : List Point). ps ++ left.grew.more) stayed.0; spells = left.grew.spells }; front = lower whole stayed.1 (omega (arith, number)) left.front }, λ t e. p.1 t (text ∙ e)))

-- one that makes none behind it
pub then_stays : {V W : StopFiles → Type 0} {a b c : Clock Stop} {durable durable' next next' : ℕ} {points points' : List Point} {said said' : Option (List ℕ)} → ((files : StopFiles) → V files → W files) → StoreLeaves W a b durable points next said → PointsStayDurable points durable points' durable' → next' ≡ next → said' ≡ said → StoreLeaves V b c durable' points' next' said' → StoreLeaves W a c durable points next said
then_stays {V} {durable' = durable'} {next' = next'} whole first stayed number text last =
    runs_on first last (λ x p. (lower whole stayed.1 (omega (arith, number)) (subst (λ (ps : List Point). LeavesPrefix V durable' ps next' x) stayed.0 p.0), λ t e. p.1 t (text ∙ e)))

pub then_made : {answer : Answer} {durable durable' durable'' : ℕ} {points points' points'' : List Point} (quiets : List Quiet) → PointsStayDurable points durable points' durable' → MakesPoints answer durable' points' quiets durable'' points'' → MakesPoints answer durable points quiets durable'' points''
then_made quiets stayed made = record { grew = record { more = made.grew.more; is = made.grew.is ∙ ap (λ (ps : List Point). ps ++ made.grew.more) stayed.0; spells = made.grew.spells }; later = omega (arith, stayed.1, made.later); synced = made.synced }

pub none_made : {answer : Answer} {durable durable' : ℕ} {points points' : List Point} {qs : List Quiet} → qs ≡ [] → answer.sync ≡ None → PointsStayDurable points durable points' durable' → MakesPoints answer durable points qs durable' points'
none_made {answer} {durable} {durable'} {points} {points'} same none stays = subst (λ (x : List Quiet). MakesPoints answer durable points x durable' points') (sym same) (no_more answer none stays)

-- what is told of an outcome is told of an equal one
pub did_from : {o o' : Outcome} {old new : Seen} {now : View} {result : Result Answer BlockFault} → o ≡ o' → PerformsCall o' old new now result → PerformsCall o old new now result
did_from {old = old} {new = new} {now = now} {result = result} same did = subst (λ (x : Outcome). PerformsCall x old new now result) (sym same) did

pub if_err : (r : Result Answer BlockFault) (P : Answer → Type 0) → IsErr r → IfOk r P
if_err (Ok x) P err = absurd (false≢true err)
if_err (Err e) P err = tt

-- a call that made no quiet point, and failed
pub failed : {o : Outcome} {old new : Seen} {now : View} {result : Result Answer BlockFault} → IsErr result → Undamaged result → IsSilent old new → (s : Session) → old.next ≡ s.next → Room s.next → PerformsCall o old new now result
failed {o} {result = result} err undamaged silent s next room = record { answers = if_err result _ err; made = λ t. if_err result _ err; undamaged = undamaged; leaves = λ t. still o.quiets (silent.leaves t (omega (arith, next, room))) }

-- and one that answered
pub silently : {o : Outcome} {old new : Seen} {now : View} {answer : Answer} → IsSilent old new → StaysDurable old new → (s : Session) → old.next ≡ s.next → Room s.next → o.quiets ≡ [] → answer.sync ≡ None → MatchesOutcome o answer now → PerformsCall o old new now (Ok answer)
silently {o} {answer = answer} silent points s next room quiets none is = record {
  answers = is;
  made = λ t. none_made quiets none (points t (omega (arith, next, room)));
  undamaged = tt;
  leaves = λ t. still o.quiets (silent.leaves t (omega (arith, next, room)));
}

-- one that left the store alone
pub unchanged : {o : Outcome} {old : Seen} {now : View} {answer : Answer} → o.quiets ≡ [] → answer.sync ≡ None → MatchesOutcome o answer now → PerformsCall o old old now (Ok answer)
unchanged {o} {old} quiets none is = record { answers = is; made = λ t. none_made quiets none (refl, omega arith); undamaged = tt; leaves = λ t. runs_none old.clock _ }

-- one that changed programs alone
pub apart_did : {o : Outcome} {s : Session} {old : Seen} {answer : Answer} {programs new : List Program} {pending : Bool} {since : ℕ} {waits : List Wait} → Alone o s answer new → StandsFor (view_of old.db old.mark old.next programs pending since waits) s → PerformsCall o old old (view_of old.db old.mark old.next new pending since waits) (Ok answer)
apart_did alone stands = unchanged alone.quiets alone.unsynced (apart alone stands)

-- a call that first stores a record, and then does the rest
pub then_did : {o : Outcome} {old mid new : Seen} {now : View} {result : Result Answer BlockFault} → ((files : StopFiles) → mid.whole files → old.whole files) → IsSilent old mid → StaysDurable old mid → (s : Session) → old.next ≡ s.next → Room s.next → (old.tells → mid.tells) → PerformsCall o mid new now result → PerformsCall o old new now result
then_did {o} {old = old} {result = result} whole silent points s next room tells did = record {
  answers = did.answers;
  made = λ t. IfOk-weaker result _ _ (λ answer h. then_made o.quiets (points t (omega (arith, next, room))) h) (did.made (tells t));
  undamaged = did.undamaged;
  leaves = λ t. then_settles o.quiets whole (silent.leaves t (omega (arith, next, room))) (points t (omega (arith, next, room))) silent.next silent.said (did.leaves (tells t));
}

-- a call whose program wasn't answered in the end
pub unanswered_did : {o : Outcome} {old new : Seen} {then now : View} {before result : Result Answer BlockFault} (name : List ℕ) → IsErr result → Undamaged result → PerformsCall o old new then before → PerformsCall (after_answer name o) old new now result
unanswered_did {result = result} name err undamaged did = record { answers = if_err result _ err; made = λ t. if_err result _ err; undamaged = undamaged; leaves = did.leaves }

-- one whose program was answered
pub answered_did : {o : Outcome} {old new : Seen} {db mark : Option Db} {next since : ℕ} {programs ps : List Program} {pending : Bool} {waits ws : List Wait} {answer : Answer} (name : List ℕ)
    → PerformsCall o old new (view_of db mark next programs pending since waits) (Ok answer) → ps ≡ programs_after name answer.reply programs → ws ≡ waits_after name answer.reply waits
    → PerformsCall (after_answer name o) old new (view_of db mark next ps pending since ws) (Ok answer)
answered_did name did ps_is ws_is = record {
  answers = record {
    reply = did.answers.reply;
    sync = did.answers.sync;
    session = record {
      db = did.answers.session.db;
      mark = did.answers.session.mark;
      next = did.answers.session.next;
      programs = ps_is ∙ (λ j. programs_after name (did.answers.reply j) (did.answers.session.programs j));
      pending = did.answers.session.pending;
      since = did.answers.session.since;
      waits = ws_is ∙ (λ j. waits_after name (did.answers.reply j) (did.answers.session.waits j));
    };
  };
  made = did.made;
  undamaged = did.undamaged;
  leaves = did.leaves;
}

-- a fault that is known is no damage
pub same_undamaged : {U : Type 0} (r : Result U BlockFault) (e : BlockFault) → IsErrAnd r (λ f. f ≡ e) → Undamaged {T = U} (Err e) → Undamaged r
same_undamaged (Ok v) e same h = tt
same_undamaged {U = U} (Err f) e same h = subst (λ (z : BlockFault). Undamaged {T = U} (Err z)) (sym same) h
