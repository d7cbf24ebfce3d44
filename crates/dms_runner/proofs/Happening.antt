-- Events, one behind another.
use Rattle.std.specs.Prelude.{IsErrAnd, IsOkUnless, OnOk, ◌<◌, ◌^◌, nat_le, ◌&&◌, is_some, slice_get}
use Rattle.std.specs.declared.result.Result.{Result}
use Rattle.std.specs.declared.result.Result.TheVariants.{Ok, Err}
use Rattle.dms_block.specs.declared.block_fault.BlockFault.{BlockFault}
use Rattle.dms_block.specs.declared.block_fault.BlockFault.TheVariants.{Disk, Memory, Full, Damaged, Say}
use Rattle.dms_block.specs.Counts.{Faults, CausedBy}
use Rattle.dms_block.specs.Held.{AuditPace}
use Rattle.dms_block.specs.Faults.{IfFull, NotFull, Undamaged}
use Rattle.dms_model.specs.Programs.{Program, Wait}
use Rattle.dms_model.specs.BackOut.{asks_back_out}
use Rattle.dms_model.specs.declared.reply.Reply.{Reply}
use Rattle.dms_model.specs.Seen.{Effort, GoesBack, Seen, IsMute, IsSilent, Keeps, SaysPart, StaysDurable}
use Rattle.dms_storeverbs.specs.Costs.{Costs, IsFullFor, SpendsUpTo, up_if}
use Rattle.std.proofs.Common.{ℕ, zero, suc, ◌≡◌, ◌≤◌, ◌+◌, ◌⊎◌, inl, inr, List, [], ◌∷◌, ◌++◌, length, take, map, Some, None, refl, sym, ◌∙◌, ap, subst, arith, append_assoc, length-append, Bool, true, false, cond}
use Rattle.std.specs.declared.option.Option.{Option}
use Rattle.std.proofs.lemmas.List.{append-nil, map-append, length-map, take-append-le, take_all}
use Rattle.std.proofs.lemmas.Option.{slice_get_within}
use Rattle.std.proofs.Math.Seq.{take-append-add}
use Rattle.std.proofs.lemmas.Bool.Decides.{nat_tests}
use Rattle.dms_moments.specs.MomentLaws.{runs_none, runs_on, runs_weaken}
use Rattle.dms_model.specs.declared.reply.Answer.{Answer}
use Rattle.dms_model.specs.Db.{Db}
use Rattle.dms_model.specs.Points.{StopFiles, Point, Quiet, Stop, LeavesPrefix, StopTextIs, StopTextGrows, told_point, known_point}
use Rattle.dms_block.specs.Texts.{Prints, PrintsPrefix}
use Rattle.dms_desc.specs.Shape.{Described}
use Rattle.dms_model.specs.declared.verb.Verb.{Verb}
use Rattle.dms_model.specs.Session.{Session, Outcome, end_session, is_waits, step}
use Rattle.dms_storeverbs.specs.Laws.{MakesWhereQuiet}
use Rattle.dms_storeverbs.proofs.Quiet.{quiet_rule}
use Rattle.dms_storeverbs.specs.View.{View, PerformsCall, PointsGrow, LeavesQuiets, StandsFor, view_of}
use Rattle.dms_storeverbs.proofs.Calls.{lower, stays}
use Rattle.dms_runner.specs.Events.{IsTold, RunEvent, calls, says, goes_back, text_of, quiets_of, durable_by, durable_after, CrashesFrom, IsCutShort, Fate, fate_of, IsFullOver, IsFullIn, IsFullOf, SaidWhole, Performs, PerformsPrefix, SaidAtLeast, TakesEvents, TookAll, TookOneMore, TookPart, EndsAnswered, blocks_begun, blocks_for, blocks_of, syncs_of, backs_of, one_if}
use Rattle.dms_runner.specs.Blaming.{IsFullRun, run_fate}
use Rattle.dms_runner.specs.declared.run.RunFault.TheVariants.{Block}
use Rattle.dms_runner.proofs.Texts.{prints_none, prints_on, front_none, front_all, front_of_first, front_on}
use Rattle.dms_laws.specs.Exclusive.{is_done}

pub text_on : (x y : List RunEvent) → text_of (x ++ y) ≡ text_of x ++ text_of y
text_on [] y = refl
text_on (e ∷ x) y = ap (λ (t : List ℕ). e.text ++ t) (text_on x y) ∙ sym (append_assoc e.text (text_of x) (text_of y))

pub quiets_on : (x y : List RunEvent) → quiets_of (x ++ y) ≡ quiets_of x ++ quiets_of y
quiets_on [] y = refl
quiets_on (e ∷ x) y = ap (λ (q : List Quiet). e.quiets ++ q) (quiets_on x y) ∙ sym (append_assoc e.quiets (quiets_of x) (quiets_of y))

count_of_both : (x y : List RunEvent) → length (quiets_of (x ++ y)) ≡ length (quiets_of x) + length (quiets_of y)
count_of_both x y = omega (arith, ap length (quiets_on x y), length-append (quiets_of x) (quiets_of y))

pub blocks_on : (desc : Described) (x y : List RunEvent) → blocks_of desc (x ++ y) ≡ blocks_of desc x + blocks_of desc y
blocks_on desc [] y = omega arith
blocks_on desc (e ∷ x) y = omega (arith, blocks_on desc x y)

pub syncs_on : (x y : List RunEvent) → syncs_of (x ++ y) ≡ syncs_of x + syncs_of y
syncs_on [] y = omega arith
syncs_on (e ∷ x) y = omega (arith, syncs_on x y)

pub backs_on : (x y : List RunEvent) → backs_of (x ++ y) ≡ backs_of x + backs_of y
backs_on [] y = omega arith
backs_on (e ∷ x) y = omega (arith, backs_on x y)

-- nothing was done
pub takes_still : (desc : Described) (x : List RunEvent) {a b : Effort} → b ≡ a → TakesEvents desc x a b
takes_still desc x {a} {b} same = record { spent = omega (arith, ap (λ (e : Effort). e.spent) same); syncs = omega (arith, ap (λ (e : Effort). e.syncs) same); outs = omega (arith, ap (λ (e : Effort). e.outs) same) }

takes_on : (desc : Described) (x y : List RunEvent) {a b c : Effort} → TakesEvents desc x a b → TakesEvents desc y b c → TakesEvents desc (x ++ y) a c
takes_on desc x y p q = record {
  spent = omega (arith, p.spent, q.spent, blocks_on desc x y);
  syncs = omega (arith, p.syncs, q.syncs, syncs_on x y);
  outs = omega (arith, p.outs, q.outs, backs_on x y);
}

count_on : (c d e : ℕ) (s : ℕ) (y : List RunEvent) → c + d ≡ e → durable_after e s y ≡ durable_after (c + d) s y
count_on c d e s y same = ap (λ (n : ℕ). durable_after n s y) (sym same)

pub durable_on : (c s : ℕ) (x y : List RunEvent) → durable_after c s (x ++ y) ≡ durable_after (c + length (quiets_of x)) (durable_after c s x) y
durable_on c s [] y = let e : c ≡ c + 0 = omega arith in ap (λ (n : ℕ). durable_after n s y) e
durable_on c s (e ∷ x) y =
    let n = c + length e.quiets in
    let same : n + length (quiets_of x) ≡ c + length (e.quiets ++ quiets_of x) = omega (arith, length-append e.quiets (quiets_of x)) in
    durable_on n (durable_by e.sync s n) x y ∙ ap (λ (k : ℕ). durable_after k (durable_after n (durable_by e.sync s n) x) y) same

covered_low : (sync : Option ℕ) (low high all : ℕ) → low ≤ high → durable_by sync low all ≤ durable_by sync high all
covered_low None low high all under = under
covered_low (Some n) low high all under = omega arith

-- where more is durable before, more is durable behind
pub durable_low_at : (c low high : ℕ) (x : List RunEvent) → low ≤ high → durable_after c low x ≤ durable_after c high x
durable_low_at c low high [] under = under
durable_low_at c low high (e ∷ x) under = durable_low_at (c + length e.quiets) (durable_by e.sync low (c + length e.quiets)) (durable_by e.sync high (c + length e.quiets)) x (covered_low e.sync low high (c + length e.quiets) under)

pub grew_none : (p : List Point) → PointsGrow p [] p
grew_none p = record { more = []; is = sym (append-nil p); spells = refl }

pub grew_on : {a b c : List Point} {q r : List Quiet} → PointsGrow a q b → PointsGrow b r c → PointsGrow a (q ++ r) c
grew_on {a} {q = q} {r = r} x y = record {
  more = x.more ++ y.more;
  is = y.is ∙ ap (λ (l : List Point). l ++ y.more) x.is ∙ append_assoc a x.more y.more;
  spells = map-append told_point x.more y.more ∙ ap (λ (l : List (ℕ × Option Db)). l ++ map told_point y.more) x.spells ∙ ap (λ (l : List (ℕ × Option Db)). map known_point q ++ l) y.spells ∙ sym (map-append known_point q r);
}

pub length_grew : {a b : List Point} {q : List Quiet} → PointsGrow a q b → length b ≡ length a + length q
length_grew {a} {b} {q} x = omega (arith, ap length x.is, length-append a x.more, length-map x.more told_point, ap length x.spells, length-map q known_point)

-- what is left of later points is left of all
pub left_on : {V W : StopFiles → Type 0} {a b : List Point} {q r : List Quiet} {low high m n : ℕ} {stop : Stop} → ((files : StopFiles) → V files → W files) → PointsGrow a q b → low ≤ high → m + length q ≡ n → LeavesQuiets V high b n r stop → LeavesQuiets W low a m (q ++ r) stop
left_on {q = q} whole grew under fell l = record { made = q ++ l.made; rest = l.rest; all = l.all; front_of = append_assoc q l.made l.rest ∙ ap (λ (x : List Quiet). q ++ x) l.front_of; grew = grew_on grew l.grew; front = lower whole under (omega (arith, fell, length-append q l.made)) l.front }

-- what is told before is told behind
told_on : {a b : Seen} {x : List RunEvent} → Performs a b x → a.tells → b.tells
told_on ran t = ran.tells t

-- where the database is told, no count of damaged blocks rises
damaged_same : {T : Type 0} (r : Result T BlockFault) (a b : Faults) → Undamaged r → CausedBy r a b → b.damaged ≡ a.damaged
damaged_same (Ok x) a b u p = ap (λ (f : Faults). f.damaged) p
damaged_same (Err Disk) a b u p = ap (λ (f : Faults). f.damaged) p.1
damaged_same (Err Memory) a b u p = ap (λ (f : Faults). f.damaged) p
damaged_same (Err (Full f)) a b u p = ap (λ (f : Faults). f.damaged) p.1
damaged_same (Err (Damaged f n)) a b u p = absurd u
damaged_same (Err Say) a b u p = ap (λ (f : Faults). f.damaged) p.1

abbrev pub FindsNoDamage : Seen → Seen → Type 0
FindsNoDamage a b = IsTold a → b.faults.damaged ≡ a.faults.damaged

pub undamaged_by : {T : Type 0} (a b : Seen) (r : Result T BlockFault) → ((d : Db) → a.db ≡ Some d → Undamaged r) → CausedBy r a.faults b.faults → FindsNoDamage a b
undamaged_by a b r u p t = damaged_same r a.faults b.faults (u t.db t.db_is) p

pub ran_none : (a : Seen) → Performs a a []
ran_none a = record { text = prints_none a.said a.said refl; tells = λ t. t; whole = λ files w. w; told = λ t. t; undamaged = λ t. refl; next = omega arith; next_high = omega arith; grew = λ t. grew_none a.points; durable = λ t. omega arith; moments = λ t. runs_none a.clock (CrashesFrom a []); desc = refl; pace = refl; effort = takes_still a.desc [] refl }

-- a stop within the first events
pub stopped_first : (a : Seen) (x y : List RunEvent) (stop : Stop) → CrashesFrom a x stop → CrashesFrom a (x ++ y) stop
stopped_first a x y stop s = record { before = s.before; at = s.at; rest = s.rest ++ y; all = sym (append_assoc s.before (s.at ∷ s.rest) y) ∙ ap (λ (l : List RunEvent). l ++ y) s.all; left = s.left; text = s.text }

-- a stop within the events behind those that happened
pub stopped_on : (a b : Seen) (x y : List RunEvent) (stop : Stop) → a.tells → Performs a b x → CrashesFrom b y stop → CrashesFrom a (x ++ y) stop
stopped_on a b x y stop t ran s =
    let c = length a.points in
    let high : durable_after c a.durable (x ++ s.before) ≤ durable_after (length b.points) b.durable s.before =
    omega (arith, durable_on c a.durable x s.before, ap (λ (n : ℕ). durable_after n (durable_after c a.durable x) s.before) (length_grew (ran.grew t)), durable_low_at (length b.points) (durable_after c a.durable x) b.durable s.before (ran.durable t)) in
    record {
      before = x ++ s.before;
      at = s.at;
      rest = s.rest;
      all = append_assoc x s.before (s.at ∷ s.rest) ∙ ap (λ (l : List RunEvent). x ++ l) s.all;
      left = subst (λ (q : List Quiet). LeavesQuiets a.whole (durable_after c a.durable (x ++ s.before)) a.points a.next q stop) (sym (append_assoc (quiets_of x) (quiets_of s.before) s.at.quiets) ∙ ap (λ (q : List Quiet). q ++ s.at.quiets) (sym (quiets_on x s.before))) (left_on ran.whole (ran.grew t) high (omega (arith, ran.next, ran.next_high)) s.left);
      text = λ said is.
          let n = s.text (said ++ text_of x) (ran.text said is) in
          (n.0, n.1 ∙ ap (λ (l : List ℕ). l ++ take n.0 s.at.text) (append_assoc said (text_of x) (text_of s.before) ∙ ap (λ (l : List ℕ). said ++ l) (sym (text_on x s.before))));
    }

-- events behind events
pub ran_on : (a b c : Seen) (x y : List RunEvent) → Performs a b x → Performs b c y → Performs a c (x ++ y)
ran_on a b c x y first next = record {
  text = subst (λ (t : List ℕ). Prints a.said c.said t) (sym (text_on x y)) (prints_on a.said b.said c.said (text_of x) (text_of y) first.text next.text);
  tells = λ t. next.tells (first.tells t);
  whole = λ files w. first.whole files (next.whole files w);
  told = λ t. next.told (first.told t);
  undamaged = λ t. next.undamaged (first.told t) ∙ first.undamaged t;
  next = omega (arith, first.next, next.next, count_of_both x y);
  next_high = omega (arith, first.next_high, next.next_high, count_of_both x y);
  grew = λ t. subst (λ (q : List Quiet). PointsGrow a.points q c.points) (sym (quiets_on x y)) (grew_on (first.grew t) (next.grew (told_on first t)));
  durable = λ t. omega (arith, durable_on (length a.points) a.durable x y, ap (λ (n : ℕ). durable_after n (durable_after (length a.points) a.durable x) y) (length_grew (first.grew t)), durable_low_at (length b.points) (durable_after (length a.points) a.durable x) b.durable y (first.durable t), next.durable (told_on first t));
  moments = λ t. runs_on (runs_weaken (first.moments t) (stopped_first a x y)) (next.moments (told_on first t)) (λ stop s. stopped_on a b x y stop t first s);
  desc = next.desc ∙ first.desc;
  pace = next.pace ∙ first.pace;
  effort = takes_on a.desc x y first.effort (subst (λ (d : Described). TakesEvents d y b.effort c.effort) first.desc next.effort);
}

-- whole events

pub whole_none : (a b : Option (List ℕ)) (x : List RunEvent) → b ≡ a → SaidWhole a b x
whole_none a b x same = (0, prints_none a b same)

pub whole_all : (a b : Option (List ℕ)) (x : List RunEvent) → Prints a b (text_of x) → SaidWhole a b x
whole_all a b x all = (length x, subst (λ (e : List RunEvent). Prints a b (text_of e)) (sym (take_all (length x) x (omega arith))) all)

fewer : (t : Bool) (k : ℕ) (x : List RunEvent) → t ≡ nat_le (length x) k → (n : ℕ) × (take k x ≡ take n x) × (n ≤ length x)
fewer true k x e =
    let long : length x ≤ k = grind (arith, nat_tests) in
    (length x, take_all k x long ∙ sym (take_all (length x) x (omega arith)), omega arith)
fewer false k x e = (k, refl, grind (arith, nat_tests))

pub whole_of_first : (a b : Option (List ℕ)) (x y : List RunEvent) → SaidWhole a b x → SaidWhole a b (x ++ y)
whole_of_first a b x y part =
    let n = fewer (nat_le (length x) part.0) part.0 x refl in
    (n.0, subst (λ (e : List RunEvent). Prints a b (text_of e)) (n.1 ∙ sym (take-append-le n.0 x y n.2)) part.1)

pub whole_on : (a b c : Option (List ℕ)) (x y : List RunEvent) → Prints a b (text_of x) → SaidWhole b c y → SaidWhole a c (x ++ y)
whole_on a b c x y first next =
    (length x + next.0, subst (λ (t : List ℕ). Prints a c t) (sym (ap text_of (take-append-add x y next.0) ∙ text_on x (take next.0 y))) (prints_on a b c (text_of x) (text_of (take next.0 y)) first next.1))

-- what a part of the events takes

-- what was said at least, and no less

least_all : (a b : Option (List ℕ)) (x : List ℕ) → Prints a b x → SaidAtLeast a b x
least_all a b x all = λ t is. ([], all t is ∙ ap (λ (z : List ℕ). Some z) (sym (append-nil (t ++ x))))

least_none : (a b : Option (List ℕ)) (x : List ℕ) → PrintsPrefix a b x → SaidAtLeast a b []
least_none a b x part = λ t is.
    let p = part t is in
    (take p.0 x, p.1 ∙ ap (λ (z : List ℕ). Some (z ++ take p.0 x)) (sym (append-nil t)))

least_on : (a b c : Option (List ℕ)) (x y : List ℕ) → Prints a b x → SaidAtLeast b c y → SaidAtLeast a c (x ++ y)
least_on a b c x y first next = λ t is.
    let p = next (t ++ x) (first t is) in
    (p.0, p.1 ∙ ap (λ (z : List ℕ). Some (z ++ p.0)) (append_assoc t x y))

-- all that was done, and its text
took_by : {cut : Type 0} (a b : Seen) (x : List RunEvent) (k : ℕ) → k ≤ length x → Prints a.said b.said (text_of (take k x)) → TakesEvents a.desc (take k x) a.effort b.effort → b.next ≤ a.next + length (quiets_of (take k x)) → TookPart cut a b x
took_by a b x k within text t high = record {
  k = k;
  within = within;
  text = λ uncut. text;
  whole = k;
  near = (omega arith, omega arith);
  least = least_all a.said b.said (text_of (take k x)) text;
  most = front_all a.said b.said (text_of (take k x)) text;
  took = inl (record { effort = t; next = high });
}

-- nothing was done, and nothing said
took_none : {cut : Type 0} (a b : Seen) (x : List RunEvent) → b.said ≡ a.said → b.effort ≡ a.effort → b.next ≡ a.next → TookPart cut a b x
took_none a b x said same next = took_by a b x 0 (omega arith) (prints_none a.said b.said said) (takes_still a.desc [] same) (omega (arith, next))

took_all : {cut : Type 0} (a b : Seen) (x : List RunEvent) → Performs a b x → TookPart cut a b x
took_all a b x ran =
    let all : x ≡ take (length x) x = sym (take_all (length x) x (omega arith)) in
    took_by a b x (length x) (omega arith) (subst (λ (e : List RunEvent). Prints a.said b.said (text_of e)) all ran.text) (subst (λ (e : List RunEvent). TakesEvents a.desc e a.effort b.effort) all ran.effort)
    (subst (λ (e : List RunEvent). b.next ≤ a.next + length (quiets_of e)) all ran.next_high)

-- the event behind so many

get_front : (x y : List RunEvent) (k : ℕ) (e : RunEvent) → slice_get x k ≡ Some e → slice_get (x ++ y) k ≡ Some e
get_front [] y k e is = absurd (cc is)
get_front (f ∷ x) y zero e is = is
get_front (f ∷ x) y (suc k) e is = get_front x y k e is

get_behind : (x y : List RunEvent) (k : ℕ) → slice_get (x ++ y) (length x + k) ≡ slice_get y k
get_behind [] y k = let e : 0 + k ≡ k = omega arith in ap (slice_get y) e
get_behind (f ∷ x) y k = let e : suc (length x) + k ≡ suc (length x + k) = omega arith in ap (slice_get (f ∷ (x ++ y))) e ∙ get_behind x y k

same_front : (x y : List RunEvent) (k : ℕ) → k < length x → slice_get (x ++ y) k ≡ slice_get x k
same_front [] y k low = absurd (omega (arith, low))
same_front (f ∷ x) y zero low = refl
same_front (f ∷ x) y (suc k) low = same_front x y k (omega (arith, low))

-- one call more behind the first of them
more_of_first : (a b : Seen) (whole k : ℕ) (x y : List RunEvent) → take k (x ++ y) ≡ take k x → TookOneMore a b whole k x → TookOneMore a b whole k (x ++ y)
more_of_first a b whole k x y front p = record {
  said = p.said;
  more = omega (arith, p.more, length-append x y);
  answered = subst (λ (e : List RunEvent). EndsAnswered e) (sym front) p.answered;
  spent = omega (arith, p.spent, ap (blocks_of a.desc) front, ap (blocks_begun a.desc) (same_front x y k p.more));
  next = omega (arith, p.next, ap (λ (e : List RunEvent). length (quiets_of e)) front);
  syncs = omega (arith, p.syncs, ap syncs_of front);
  outs = omega (arith, p.outs, ap backs_of front);
}

either_of_first : (a b : Seen) (whole k : ℕ) (x y : List RunEvent) → take k (x ++ y) ≡ take k x → TookAll a b (take k x) ⊎ TookOneMore a b whole k x → TookAll a b (take k (x ++ y)) ⊎ TookOneMore a b whole k (x ++ y)
either_of_first a b whole k x y front (inl all) = inl (subst (λ (e : List RunEvent). TookAll a b e) (sym front) all)
either_of_first a b whole k x y front (inr more) = inr (more_of_first a b whole k x y front more)

took_of_first : {cut : Type 0} (a b : Seen) (x y : List RunEvent) → TookPart cut a b x → TookPart cut a b (x ++ y)
took_of_first a b x y p =
    let front : take p.k (x ++ y) ≡ take p.k x = take-append-le p.k x y p.within in
    let whole : take p.whole (x ++ y) ≡ take p.whole x = take-append-le p.whole x y (omega (arith, p.within, p.near.0)) in
    record {
      k = p.k;
      within = omega (arith, p.within, length-append x y);
      text = λ uncut. subst (λ (e : List RunEvent). Prints a.said b.said (text_of e)) (sym front) (p.text uncut);
      whole = p.whole;
      near = p.near;
      least = subst (λ (e : List RunEvent). SaidAtLeast a.said b.said (text_of e)) (sym whole) p.least;
      most = subst (λ (e : List RunEvent). PrintsPrefix a.said b.said (text_of e)) (sym front) p.most;
      took = either_of_first a b p.whole p.k x y front p.took;
    }

-- where the last of the first events takes nothing, and that of those behind them, that of all does
pub answered_on : (x y : List RunEvent) → EndsAnswered x → EndsAnswered y → EndsAnswered (x ++ y)
answered_on [] y p q = q
answered_on (e ∷ []) [] p q = p
answered_on (e ∷ []) (f ∷ y) p q = q
answered_on (e ∷ f ∷ x) y p q = answered_on (f ∷ x) y p q

-- all that was done behind events
all_on : (a b c : Seen) (x y : List RunEvent) → Performs a b x → TookAll b c y → TookAll a c (x ++ y)
all_on a b c x y first next = record {
  effort = takes_on a.desc x y first.effort (subst (λ (d : Described). TakesEvents d y b.effort c.effort) first.desc next.effort);
  next = omega (arith, first.next_high, next.next, count_of_both x y);
}

-- one call more behind events
more_on : (a b c : Seen) (whole k : ℕ) (x y : List RunEvent) → Performs a b x → EndsAnswered x → TookOneMore b c whole k y → TookOneMore a c (length x + whole) (length x + k) (x ++ y)
more_on a b c whole k x y first answered next =
    let front : take (length x + k) (x ++ y) ≡ x ++ take k y = take-append-add x y k in
    let spent : c.effort.spent ≤ b.effort.spent + blocks_of a.desc (take k y) + blocks_begun a.desc (slice_get y k) =
    subst (λ (d : Described). c.effort.spent ≤ b.effort.spent + blocks_of d (take k y) + blocks_begun d (slice_get y k)) first.desc next.spent in
    record {
      said = omega (arith, next.said);
      more = omega (arith, next.more, length-append x y);
      answered = subst (λ (e : List RunEvent). EndsAnswered e) (sym front) (answered_on x (take k y) answered next.answered);
      spent = omega (arith, first.effort.spent, spent, blocks_on a.desc x (take k y), ap (blocks_of a.desc) front, ap (blocks_begun a.desc) (get_behind x y k));
      next = omega (arith, first.next_high, next.next, count_of_both x (take k y), ap (λ (e : List RunEvent). length (quiets_of e)) front);
      syncs = omega (arith, first.effort.syncs, next.syncs, syncs_on x (take k y), ap syncs_of front);
      outs = omega (arith, first.effort.outs, next.outs, backs_on x (take k y), ap backs_of front);
    }

took_either : (a b c : Seen) (whole k : ℕ) (x y : List RunEvent) → Performs a b x → EndsAnswered x → TookAll b c (take k y) ⊎ TookOneMore b c whole k y
    → TookAll a c (x ++ take k y) ⊎ TookOneMore a c (length x + whole) (length x + k) (x ++ y)
took_either a b c whole k x y first answered (inl all) = inl (all_on a b c x (take k y) first all)
took_either a b c whole k x y first answered (inr more) = inr (more_on a b c whole k x y first answered more)

all_behind : (a c : Seen) (whole k : ℕ) (x y : List RunEvent) → TookAll a c (x ++ take k y) ⊎ TookOneMore a c whole (length x + k) (x ++ y) → TookAll a c (take (length x + k) (x ++ y)) ⊎ TookOneMore a c whole (length x + k) (x ++ y)
all_behind a c whole k x y (inl all) = inl (subst (λ (e : List RunEvent). TookAll a c e) (sym (take-append-add x y k)) all)
all_behind a c whole k x y (inr more) = inr more

-- events, and a part of those behind them, by what they took together
took_behind : {cut : Type 0} (a b c : Seen) (x y : List RunEvent) → Performs a b x → (p : TookPart cut b c y) → TookAll a c (x ++ take p.k y) ⊎ TookOneMore a c (length x + p.whole) (length x + p.k) (x ++ y) → TookPart cut a c (x ++ y)
took_behind a b c x y first next took =
    let front : take (length x + next.k) (x ++ y) ≡ x ++ take next.k y = take-append-add x y next.k in
    let whole : take (length x + next.whole) (x ++ y) ≡ x ++ take next.whole y = take-append-add x y next.whole in
    let text : text_of (take (length x + next.k) (x ++ y)) ≡ text_of x ++ text_of (take next.k y) = ap text_of front ∙ text_on x (take next.k y) in
    record {
      k = length x + next.k;
      within = omega (arith, next.within, length-append x y);
      text = λ uncut. subst (λ (t : List ℕ). Prints a.said c.said t) (sym text) (prints_on a.said b.said c.said (text_of x) (text_of (take next.k y)) first.text (next.text uncut));
      whole = length x + next.whole;
      near = (omega (arith, next.near.0), omega (arith, next.near.1));
      least = subst (λ (t : List ℕ). SaidAtLeast a.said c.said t) (sym (ap text_of whole ∙ text_on x (take next.whole y))) (least_on a.said b.said c.said (text_of x) (text_of (take next.whole y)) first.text next.least);
      most = subst (λ (t : List ℕ). PrintsPrefix a.said c.said t) (sym text) (front_on a.said b.said c.said (text_of x) (text_of (take next.k y)) first.text next.most);
      took = all_behind a c (length x + next.whole) next.k x y took;
    }

took_on : {cut : Type 0} (a b c : Seen) (x y : List RunEvent) → Performs a b x → EndsAnswered x → TookPart cut b c y → TookPart cut a c (x ++ y)
took_on a b c x y first answered next = took_behind a b c x y first next (took_either a b c next.whole next.k x y first answered next.took)

-- behind the events nothing more was done
took_on_said : {cut : Type 0} (a b c : Seen) (x y : List RunEvent) → Performs a b x → c.effort ≡ b.effort → c.next ≡ b.next → TookPart cut b c y → TookPart cut a c (x ++ y)
took_on_said a b c x y first same number next =
    took_behind a b c x y first next (inl (all_on a b c x (take next.k y) first (record { effort = takes_still b.desc (take next.k y) same; next = omega (arith, number) })))

took_cut : {cut cut' : Type 0} (a b : Seen) (x : List RunEvent) → (cut → cut') → TookPart cut a b x → TookPart cut' a b x
took_cut a b x f p = record { k = p.k; within = p.within; text = λ uncut. p.text (λ is. uncut (f is)); whole = p.whole; near = p.near; least = p.least; most = p.most; took = p.took }

-- where the audit had no room

-- where it was so in the first events it is so in all
full_front : (f : ℕ) (a b : Seen) (x y : List RunEvent) → IsFullOver f a b x → IsFullOver f a b (x ++ y)
full_front f a b x y d =
    let front : take d.k (x ++ y) ≡ take d.k x = take-append-le d.k x y (omega (arith, slice_get_within x d.k d.at d.is)) in
    record {
      k = d.k;
      at = d.at;
      is = get_front x y d.k d.at d.is;
      full = d.full;
      text = subst (λ (e : List RunEvent). Prints a.said b.said (text_of e)) (sym front) d.text;
    }

-- where it was so behind events it is so in all
full_on : (f : ℕ) (a b c : Seen) (x y : List RunEvent) → Performs a b x → IsFullOver f b c y → IsFullOver f a c (x ++ y)
full_on f a b c x y first d =
    let front : take (length x + d.k) (x ++ y) ≡ x ++ take d.k y = take-append-add x y d.k in
    record {
      k = length x + d.k;
      at = d.at;
      is = get_behind x y d.k ∙ d.is;
      full = subst (λ (p : AuditPace). IsFullIn p.last d.at f) first.pace d.full;
      text = subst (λ (t : List ℕ). Prints a.said c.said t) (sym (ap text_of front ∙ text_on x (take d.k y))) (prints_on a.said b.said c.said (text_of x) (text_of (take d.k y)) first.text d.text);
    }

-- nothing was said, and the only event had no room
full_first : (f : ℕ) (a b : Seen) (e : RunEvent) → b.said ≡ a.said → IsFullIn a.pace.last e f → IsFullOver f a b (e ∷ [])
full_first f a b e same full = record { k = 0; at = e; is = refl; full = full; text = prints_none a.said b.said same }

-- no event of them happened
pub part_none : {fate : Fate} → ((f : ℕ) → fate.full f → ⊥) → (a : Seen) (x : List RunEvent) → PerformsPrefix fate a a x
part_none room a x = record { text = front_none a.said a.said (text_of x) refl; said_whole = λ uncut. whole_none a.said a.said x refl; due = λ f full. absurd (room f full); undamaged = λ t. refl; moments = λ t. runs_none a.clock (CrashesFrom a x); took = took_none a a x refl refl refl }

-- all of them happened
pub part_all : {fate : Fate} → ((f : ℕ) → fate.full f → ⊥) → (a b : Seen) (x : List RunEvent) → Performs a b x → PerformsPrefix fate a b x
part_all room a b x ran = record { text = front_all a.said b.said (text_of x) ran.text; said_whole = λ uncut. whole_all a.said b.said x ran.text; due = λ f full. absurd (room f full); undamaged = ran.undamaged; moments = ran.moments; took = took_all a b x ran }

-- a prefix of the first events is a prefix of all
pub part_of_first : {fate : Fate} (a b : Seen) (x y : List RunEvent) → PerformsPrefix fate a b x → PerformsPrefix fate a b (x ++ y)
part_of_first a b x y part = record {
  text = subst (λ (t : List ℕ). PrintsPrefix a.said b.said t) (sym (text_on x y)) (front_of_first a.said b.said (text_of x) (text_of y) part.text);
  said_whole = λ uncut. whole_of_first a.said b.said x y (part.said_whole uncut);
  due = λ f full. full_front f a b x y (part.due f full);
  undamaged = part.undamaged;
  moments = λ t. runs_weaken (part.moments t) (stopped_first a x y);
  took = took_of_first a b x y part.took;
}

part_behind : {fate : Fate} (a b c : Seen) (x y : List RunEvent) → Performs a b x → PerformsPrefix fate b c y → TookPart fate.cut a c (x ++ y) → PerformsPrefix fate a c (x ++ y)
part_behind a b c x y first next took = record {
  text = subst (λ (t : List ℕ). PrintsPrefix a.said c.said t) (sym (text_on x y)) (front_on a.said b.said c.said (text_of x) (text_of y) first.text next.text);
  said_whole = λ uncut. whole_on a.said b.said c.said x y first.text (next.said_whole uncut);
  due = λ f full. full_on f a b c x y first (next.due f full);
  undamaged = λ t. next.undamaged (first.told t) ∙ first.undamaged t;
  moments = λ t. runs_on (runs_weaken (first.moments t) (stopped_first a x y)) (next.moments (told_on first t)) (λ stop s. stopped_on a b x y stop t first s);
  took = took;
}

-- events, the last of which takes nothing, and a prefix of those behind them
pub part_on : {fate : Fate} (a b c : Seen) (x y : List RunEvent) → Performs a b x → EndsAnswered x → PerformsPrefix fate b c y → PerformsPrefix fate a c (x ++ y)
part_on a b c x y first answered next = part_behind a b c x y first next (took_on a b c x y first answered next.took)

-- events, and a prefix of those behind them, where nothing but text came behind them
pub part_on_said : {fate : Fate} (a b c : Seen) (x y : List RunEvent) → Performs a b x → c.effort ≡ b.effort → c.next ≡ b.next → PerformsPrefix fate b c y → PerformsPrefix fate a c (x ++ y)
part_on_said a b c x y first same number next = part_behind a b c x y first next (took_on_said a b c x y first same number next.took)

-- the same events, told otherwise
pub ran_as : (a b : Seen) (x y : List RunEvent) → x ≡ y → Performs a b x → Performs a b y
ran_as a b x y is ran = subst (λ (l : List RunEvent). Performs a b l) is ran

pub part_as : {fate : Fate} (a b : Seen) (x y : List RunEvent) → x ≡ y → PerformsPrefix fate a b x → PerformsPrefix fate a b y
part_as {fate} a b x y is part = subst (λ (l : List RunEvent). PerformsPrefix fate a b l) is part

-- where one is cut off the other is, too, and where the other had no room the one had none
pub part_cut : {fate fate' : Fate} (a b : Seen) (x : List RunEvent) → (fate.cut → fate'.cut) → ((f : ℕ) → fate'.full f → fate.full f) → PerformsPrefix fate a b x → PerformsPrefix fate' a b x
part_cut a b x f room part = record { text = part.text; said_whole = λ uncut. part.said_whole (λ is. uncut (f is)); due = λ n full. part.due n (room n full); undamaged = part.undamaged; moments = part.moments; took = took_cut a b x f part.took }

-- the same fault, of whatever else would be answered
pub cut_as : {T : Type 0} (r : Result T BlockFault) (f : BlockFault) → IsErrAnd r (λ x. x ≡ f) → f ≡ Say → IsCutShort r
cut_as (Ok x) f same is = absurd same
cut_as (Err e) f same is = same ∙ is

not_full_is : {T : Type 0} (n : ℕ) (r : Result T BlockFault) → NotFull r → IsFullOf r n → ⊥
not_full_is n (Ok x) room is = is
not_full_is n (Err Disk) room is = is
not_full_is n (Err Memory) room is = is
not_full_is n (Err (Full f)) room is = room
not_full_is n (Err (Damaged f b)) room is = is
not_full_is n (Err Say) room is = is

full_other : (T U : Type 0) (e : BlockFault) (n : ℕ) → IsFullOf {T = T} (Err e) n → IsFullOf {T = U} (Err e) n
full_other T U Disk n is = is
full_other T U Memory n is = is
full_other T U (Full f) n is = is
full_other T U (Damaged f b) n is = is
full_other T U Say n is = is

-- a fault that isn't a lack of room
pub had_room : {T : Type 0} (r : Result T BlockFault) (f : BlockFault) → IsErrAnd r (λ x. x ≡ f) → NotFull {T = T} (Err f) → (n : ℕ) → IsFullOf r n → ⊥
had_room (Ok x) f same room n is = is
had_room {T} (Err e) f same room n is = not_full_is {T = T} n (Err e) (subst (λ (y : BlockFault). NotFull {T = T} (Err y)) (sym same) room) is

pub full_as : {T : Type 0} (U : Type 0) (r : Result T BlockFault) (f : BlockFault) → IsErrAnd r (λ x. x ≡ f) → (n : ℕ) → IsFullOf r n → IsFullOf {T = U} (Err f) n
full_as U (Ok x) f same n is = absurd is
full_as {T} U (Err e) f same n is = full_other T U f n (subst (λ (y : BlockFault). IsFullOf {T = T} (Err y) n) same is)

-- where the audit had no room behind a file, what holds of that file
pub full_at : {T : Type 0} (r : Result T BlockFault) (P : ℕ → Type 0) (n : ℕ) → IfFull r P → IsFullOf r n → P n
full_at (Ok x) P n at is = absurd is
full_at (Err Disk) P n at is = absurd is
full_at (Err Memory) P n at is = absurd is
full_at (Err (Full f)) P n at is = subst P is at
full_at (Err (Damaged f b)) P n at is = absurd is
full_at (Err Say) P n at is = absurd is

pub full_call : {U : Type 0} (r : Result U BlockFault) (e : BlockFault) (P : ℕ → Type 0) → IsErrAnd r (λ x. x ≡ e) → IfFull {T = Answer} (Err e) P → (n : ℕ) → IsFullOf r n → P n
full_call r e P same at n is = full_at {T = Answer} (Err e) P n at (full_as Answer r e same n is)

-- the same fault, and the same events
pub part_err : {T : Type 0} (U : Type 0) (r : Result T BlockFault) (f : BlockFault) (a b : Seen) (x : List RunEvent) → IsErrAnd r (λ y. y ≡ f) → PerformsPrefix (fate_of {T = U} (Err f)) a b x → PerformsPrefix (fate_of r) a b x
part_err U r f a b x same part = part_cut a b x (cut_as r f same) (full_as U r f same) part

pub run_full : (U : Type 0) (f : BlockFault) (n : ℕ) → IsFullRun {T = Unit {0}} (Err (Block f)) n → IsFullOf {T = U} (Err f) n
run_full U f n is = full_other (Unit {0}) U f n is

-- in a run
pub part_run : (U : Type 0) (f : BlockFault) (a b : Seen) (x : List RunEvent) → PerformsPrefix (fate_of {T = U} (Err f)) a b x → PerformsPrefix (run_fate {T = Unit {0}} (Err (Block f))) a b x
part_run U f a b x part = part_cut a b x (λ is. ap Block is) (λ n is. run_full U f n is) part

-- a call that prints had room
pub says_room : {T : Type 0} (r : Result T BlockFault) → IsOkUnless r Say → (n : ℕ) → IsFullOf r n → ⊥
says_room (Ok x) only n is = is
says_room {T} (Err f) only n is = not_full_is {T = T} n (Err f) (subst (λ (y : BlockFault). NotFull {T = T} (Err y)) (sym only) tt) is

pub say_failed : {T : Type 0} (r : Result T BlockFault) (f : BlockFault) → IsErrAnd r (λ x. x ≡ f) → f ≡ Say → (n : ℕ) → IsFullOf r n → ⊥
say_failed {T} r f same is n full = had_room r f same (subst (λ (y : BlockFault). NotFull {T = T} (Err y)) (sym is) tt) n full

-- a call that may have room or not by a test had none where the test says so
pub full_if : {T : Type 0} (b : Bool) (r : Result T BlockFault) (n : ℕ) → (b ≡ false → NotFull r) → IsFullOf r n → b ≡ true
full_if {T} true r n room is = refl
full_if {T} false r n room is = absurd (not_full_is {T = T} n r (room refl) is)

-- a way back that had no room had none behind file 9,999
pub full_back : (e : BlockFault) (b : Bool) → (b ≡ false → NotFull {T = Unit {0}} (Err e)) → IfFull {T = Unit {0}} (Err e) (λ f. f ≡ 9999) → (n : ℕ) → IsFullRun {T = Unit {0}} (Err (Block e)) n → (b ≡ true) × (n ≡ 9999)
full_back e b room file n is = (full_if {T = Unit {0}} b (Err e) n room is, full_at {T = Unit {0}} (Err e) (λ f. f ≡ 9999) n file is)

-- a fault of printing is the only one of a call that prints
pub unless_cut : {T : Type 0} (r : Result T BlockFault) (P : Type 0) → IsOkUnless r Say → OnOk r P → (IsCutShort r → ⊥) → P
unless_cut (Ok x) P only p uncut = p
unless_cut (Err f) P only p uncut = absurd (uncut only)

-- bytes

stopped_says : (a : Seen) (x : List ℕ) (stop : Stop) → LeavesPrefix a.whole a.durable a.points a.next stop × StopTextGrows a.said x stop → CrashesFrom a (says x ∷ []) stop
stopped_says a x stop p = record {
  before = [];
  at = says x;
  rest = [];
  all = refl;
  left = stays [] p.0;
  text = λ t is. let n = p.1 t is in (n.0, n.1 ∙ ap (λ (l : List ℕ). l ++ take n.0 x) (sym (append-nil t)));
}

pub ran_says : (a b : Seen) (x y : List ℕ) → x ≡ y → (a.tells → b.tells) → ((files : StopFiles) → b.whole files → a.whole files) → b.desc ≡ a.desc → b.pace ≡ a.pace → b.effort ≡ a.effort → FindsNoDamage a b → Prints a.said b.said x → SaysPart a b x → Keeps a b → a.next + 1 < 2 ^ 64 → Performs a b (says y ∷ [])
ran_says a b x y is tells whole desc pace same undamaged text part keeps room = record {
  text = subst (λ (t : List ℕ). Prints a.said b.said t) (is ∙ sym (append-nil y)) text;
  tells = tells;
  whole = whole;
  told = λ t. record { db = t.db; mark = t.mark; db_is = keeps.db ∙ t.db_is; mark_is = keeps.mark ∙ t.mark_is };
  undamaged = undamaged;
  next = omega (arith, part.next);
  next_high = omega (arith, part.next);
  grew = λ t. record { more = []; is = (keeps.points t room).0 ∙ sym (append-nil a.points); spells = refl };
  durable = λ t. (keeps.points t room).1;
  moments = λ t. runs_weaken (part.leaves t room) (λ stop p. subst (λ (z : List ℕ). CrashesFrom a (says z ∷ []) stop) is (stopped_says a x stop p));
  desc = desc;
  pace = pace;
  effort = takes_still a.desc (says y ∷ []) same;
}

-- a text that may have been cut off
took_says : {cut : Type 0} (a b : Seen) (x y : List ℕ) → x ≡ y → b.effort ≡ a.effort → SaysPart a b x → ((cut → ⊥) → Prints a.said b.said x) → TookPart cut a b (says y ∷ [])
took_says a b x y is same part whole =
    record {
      k = 1;
      within = omega arith;
      text = λ uncut. subst (λ (z : List ℕ). Prints a.said b.said z) (is ∙ sym (append-nil y)) (whole uncut);
      whole = 0;
      near = (omega arith, omega arith);
      least = least_none a.said b.said x part.part;
      most = subst (λ (z : List ℕ). PrintsPrefix a.said b.said z) (is ∙ sym (append-nil y)) part.part;
      took = inl (record { effort = takes_still a.desc (says y ∷ []) same; next = omega (arith, part.next) });
    }

pub part_says : {fate : Fate} → ((f : ℕ) → fate.full f → ⊥) → (a b : Seen) (x y : List ℕ) → x ≡ y → b.effort ≡ a.effort → FindsNoDamage a b → SaysPart a b x → ((fate.cut → ⊥) → Prints a.said b.said x) → a.next + 1 < 2 ^ 64 → PerformsPrefix fate a b (says y ∷ [])
part_says fits a b x y is same undamaged part whole room = record {
  due = λ f full. absurd (fits f full);
  took = took_says a b x y is same part whole;
  said_whole = λ uncut. whole_all a.said b.said (says y ∷ []) (subst (λ (t : List ℕ). Prints a.said b.said t) (is ∙ sym (append-nil y)) (whole uncut));
  undamaged = undamaged;
  text = subst (λ (t : List ℕ). PrintsPrefix a.said b.said t) (is ∙ sym (append-nil y)) part.part;
  moments = λ t. runs_weaken (part.leaves t room) (λ stop p. subst (λ (z : List ℕ). CrashesFrom a (says z ∷ []) stop) is (stopped_says a x stop p));
}

-- nothing to say
pub ran_silent : (a : Seen) (x : List ℕ) → x ≡ [] → Performs a a (says x ∷ [])
ran_silent a x is = subst (λ (t : List ℕ). Performs a a (says t ∷ [])) (sym is) (record { text = prints_none a.said a.said refl; tells = λ t. t; whole = λ files w. w; told = λ t. t; undamaged = λ t. refl; next = omega arith; next_high = omega arith; grew = λ t. grew_none a.points; durable = λ t. omega arith; moments = λ t. runs_none a.clock (CrashesFrom a (says [] ∷ [])); desc = refl; pace = refl; effort = takes_still a.desc (says [] ∷ []) refl })

-- nothing of an event was done yet
stopped_before : (a : Seen) (e : RunEvent) (stop : Stop) → LeavesPrefix a.whole a.durable a.points a.next stop × StopTextIs a.said stop → CrashesFrom a (e ∷ []) stop
stopped_before a e stop p = record {
  before = [];
  at = e;
  rest = [];
  all = refl;
  left = stays e.quiets p.0;
  text = λ t is. (0, p.1 t is ∙ sym (append-nil t) ∙ sym (append-nil (t ++ [])));
}

-- calls

numbered : (b : Bool) (s : Session) (o : Outcome) → MakesWhereQuiet b s o → o.session.next ≡ s.next + length o.quiets
numbered true s o m = omega (arith, m.next, ap length m.quiets)
numbered false s o m = omega (arith, m.next, ap length m.quiets)

-- each quiet point takes the next number
pub step_numbers : (desc : Described) (s : Session) (name : List ℕ) (verb : Verb) → (step desc s name verb).session.next ≡ s.next + length (step desc s name verb).quiets
step_numbers desc s name verb = numbered _ s (step desc s name verb) (quiet_rule desc s name verb)

stopped_calls : (a : Seen) (count : ℕ) (verb : Verb) (o : Outcome) (stop : Stop) → LeavesQuiets a.whole a.durable a.points a.next o.quiets stop × StopTextIs a.said stop → CrashesFrom a (calls count verb o ∷ []) stop
stopped_calls a count verb o stop p = record {
  before = [];
  at = calls count verb o;
  rest = [];
  all = refl;
  left = p.0;
  text = λ t is. (0, p.1 t is ∙ sym (append-nil t) ∙ sym (append-nil (t ++ [])));
}

covered_made : (sync : Option ℕ) (before all durable : ℕ) → before ≤ durable → ((n : ℕ) → sync ≡ Some n → durable ≡ all) → durable_by sync before all ≤ durable
covered_made None before all durable later synced = later
covered_made (Some n) before all durable later synced = omega (arith, synced n refl)

-- what a call takes by its answer

spent_for : (a b : Seen) (count : ℕ) → SpendsUpTo a b count → b.effort.spent ≤ a.effort.spent + blocks_for a.desc count
unfolding blocks_for
spent_for a b count spends = spends

spent_by : (w : Bool) (desc : Described) (count m n : ℕ) → n ≤ m + blocks_for desc count → (w ≡ true → n ≤ m) → n ≤ m + (blocks_for desc (cond w 0 count) + 0)
spent_by true desc count m n all none = omega (arith, none refl)
spent_by false desc count m n all none = omega (arith, all)

up_by : (b : Bool) (m n : ℕ) → n ≡ up_if b m → n ≤ m + (one_if b + 0)
up_by true m n is = omega (arith, is)
up_by false m n is = omega (arith, is)

call_takes : (desc : Described) (count : ℕ) (verb : Verb) (o : Outcome) (answer : Answer) {a b : Effort} → answer.reply ≡ o.reply → answer.sync ≡ o.sync → Costs (asks_back_out verb) (Ok answer) a b → b.spent ≤ a.spent + blocks_for desc count
    → (is_waits answer.reply ≡ true → b.spent ≤ a.spent) → TakesEvents desc (calls count verb o ∷ []) a b
call_takes desc count verb o answer {a} {b} reply sync costs spends idle = record {
  spent = spent_by (is_waits o.reply) desc count a.spent b.spent spends (λ waits. idle (ap is_waits reply ∙ waits));
  syncs = up_by (is_some o.sync) a.syncs b.syncs (costs.syncs ∙ ap (λ (s : Option ℕ). up_if (is_some s) a.syncs) sync);
  outs = up_by (asks_back_out verb && is_done o.reply) a.outs b.outs (costs.outs ∙ ap (λ (r : Reply). up_if (asks_back_out verb && is_done r) a.outs) reply);
}

-- or of one that was under way
took_call : {cut : Type 0} (a b : Seen) (verb : Verb) (call : RunEvent) (result : Result Answer BlockFault) → IsMute a b → Costs (asks_back_out verb) result a.effort b.effort → b.effort.spent ≤ a.effort.spent + blocks_for a.desc call.count
    → TookPart cut a b (call ∷ [])
took_call a b verb call result mute costs spends = record {
  k = 0;
  within = omega arith;
  text = λ uncut. prints_none a.said b.said mute.said;
  whole = 0;
  near = (omega arith, omega arith);
  least = least_all a.said b.said [] (prints_none a.said b.said mute.said);
  most = front_none a.said b.said [] mute.said;
  took = inr (record {
    said = refl;
    more = omega arith;
    answered = tt;
    spent = omega (arith, spends);
    next = omega (arith, mute.one_number);
    syncs = omega (arith, costs.few_syncs.1);
    outs = omega (arith, costs.few_outs.1);
  });
}

pub ran_calls : (a b : Seen) {programs : List Program} {pending : Bool} {since : ℕ} {waits : List Wait} (count : ℕ) (verb : Verb) (o : Outcome) (answer : Answer) → (a.tells → b.tells) → ((files : StopFiles) → b.whole files → a.whole files) → b.desc ≡ a.desc → b.pace ≡ a.pace → Costs (asks_back_out verb) (Ok answer) a.effort b.effort → SpendsUpTo a b count → (is_waits answer.reply ≡ true → b.effort.spent ≤ a.effort.spent)
    → b.faults ≡ a.faults → IsMute a b → b.next ≡ a.next + length o.quiets → PerformsCall o a b (view_of b.db b.mark b.next programs pending since waits) (Ok answer) → Performs a b (calls count verb o ∷ [])
ran_calls a b count verb o answer tells whole desc pace costs spends idle same mute next did = record {
  text = prints_none a.said b.said mute.said;
  tells = tells;
  whole = whole;
  told = λ t. record { db = o.session.db; mark = o.session.mark; db_is = did.answers.session.db; mark_is = did.answers.session.mark };
  undamaged = λ t. ap (λ (f : Faults). f.damaged) same;
  next = omega (arith, next, ap length (append-nil o.quiets));
  next_high = omega (arith, next, ap length (append-nil o.quiets));
  grew = λ t. subst (λ (q : List Quiet). PointsGrow a.points q b.points) (sym (append-nil o.quiets)) (did.made t).grew;
  durable = λ t. covered_made o.sync a.durable (length a.points + length o.quiets) b.durable (did.made t).later (λ n is. (did.made t).synced n (did.answers.sync ∙ is) ∙ length_grew (did.made t).grew);
  moments = λ t. runs_weaken (did.leaves t) (stopped_calls a count verb o);
  desc = desc;
  pace = pace;
  effort = call_takes a.desc count verb o answer did.answers.reply did.answers.sync costs (spent_for a b count spends) idle;
}

pub part_calls : {fate : Fate} (a b : Seen) (v : View) (count : ℕ) (verb : Verb) (o : Outcome) {result : Result Answer BlockFault} → ((f : ℕ) → fate.full f → IsFullFor a.pace.last verb o f) → Costs (asks_back_out verb) result a.effort b.effort → SpendsUpTo a b count → CausedBy result a.faults b.faults → IsMute a b → PerformsCall o a b v result → PerformsPrefix fate a b (calls count verb o ∷ [])
part_calls a b v count verb o {result} changed costs spends cause mute did = record {
  due = λ f full. full_first f a b (calls count verb o) mute.said (changed f full);
  said_whole = λ uncut. whole_none a.said b.said (calls count verb o ∷ []) mute.said;
  took = took_call a b verb (calls count verb o) result mute costs (spent_for a b count spends);
  undamaged = λ t. damaged_same result a.faults b.faults did.undamaged cause;
  text = front_none a.said b.said [] mute.said;
  moments = λ t. runs_weaken (did.leaves t) (stopped_calls a count verb o);
}

-- the way back

-- where nobody works nothing is done
pub back_takes : {T : Type 0} (r : Result T BlockFault) (works : Bool) (desc : Described) {a b : Effort} → (works ≡ true → GoesBack r a b) → (works ≡ false → b ≡ a) → TakesEvents desc (goes_back works ∷ []) a b
back_takes r true desc back stays = let p = back refl in record { spent = omega (arith, p.spent); syncs = omega (arith, p.syncs); outs = omega (arith, p.few.1) }
back_takes r false desc back stays = takes_still desc (goes_back false ∷ []) (stays refl)

pub ran_back : (works : Bool) (a b : Seen) → (a.tells → b.tells) → ((files : StopFiles) → b.whole files → a.whole files) → b.desc ≡ a.desc → b.pace ≡ a.pace → TakesEvents a.desc (goes_back works ∷ []) a.effort b.effort → (IsTold a → IsTold b) → FindsNoDamage a b → IsSilent a b → StaysDurable a b → a.next + 1 < 2 ^ 64 → Performs a b (goes_back works ∷ [])
ran_back works a b tells whole desc pace takes told_point undamaged silent points room = record {
  text = prints_none a.said b.said silent.said;
  tells = tells;
  whole = whole;
  told = told_point;
  undamaged = undamaged;
  next = omega (arith, silent.next);
  next_high = omega (arith, silent.next);
  grew = λ t. record { more = []; is = (points t room).0 ∙ sym (append-nil a.points); spells = refl };
  durable = λ t. (points t room).1;
  moments = λ t. runs_weaken (silent.leaves t room) (stopped_before a (goes_back works));
  desc = desc;
  pace = pace;
  effort = takes;
}

-- it may be done in part
took_back : {cut : Type 0} (works : Bool) (a b : Seen) → TakesEvents a.desc (goes_back works ∷ []) a.effort b.effort → IsSilent a b → TookPart cut a b (goes_back works ∷ [])
took_back works a b takes silent = took_by a b (goes_back works ∷ []) 1 (omega arith) (prints_none a.said b.said silent.said) takes (omega (arith, silent.next))

pub part_back : {fate : Fate} (works : Bool) (a b : Seen) → ((f : ℕ) → fate.full f → (works ≡ true) × (f ≡ 9999)) → TakesEvents a.desc (goes_back works ∷ []) a.effort b.effort → FindsNoDamage a b → IsSilent a b → a.next + 1 < 2 ^ 64 → PerformsPrefix fate a b (goes_back works ∷ [])
part_back works a b backs takes undamaged silent room = record {
  due = λ f full. full_first f a b (goes_back works) silent.said (inr (backs f full));
  took = took_back works a b takes silent;
  said_whole = λ uncut. whole_none a.said b.said (goes_back works ∷ []) silent.said;
  undamaged = undamaged;
  text = front_none a.said b.said [] silent.said;
  moments = λ t. runs_weaken (silent.leaves t room) (stopped_before a (goes_back works));
}

-- the end of a run leaves the databases told
pub told_ended : {a b : Seen} {programs programs' : List Program} {pending pending' : Bool} {since since' : ℕ} {waits waits' : List Wait}
    → ((s : Session) → StandsFor (view_of a.db a.mark a.next programs pending since waits) s → StandsFor (view_of b.db b.mark b.next programs' pending' since' waits') (end_session s)) → IsTold a → IsTold b
told_ended {a} {programs = programs} {pending = pending} {since = since} {waits = waits} f t =
    let s : Session = record { db = t.db; mark = t.mark; next = a.next; programs = programs; pending = pending; since = since; waits = waits } in
    let st = f s (record { db = t.db_is; mark = t.mark_is; next = refl; programs = refl; pending = refl; since = refl; waits = refl }) in
    record { db = (end_session s).db; mark = (end_session s).mark; db_is = st.db; mark_is = st.mark }
