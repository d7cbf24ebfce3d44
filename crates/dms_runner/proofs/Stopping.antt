-- What is carried out of a script where its run stops, and where all its lines were taken.
use Rattle.std.proofs.Common.{◌≡◌, ◌≢◌, ◌+◌, ◌<◌, ◌≤◌, ◌^◌, ◌∙◌, ℕ, List, [], true, Ok, Err, IsErr, IsErrOf, Result, inl, inr, refl, sym, ap, subst, arith, length, take}
use Rattle.std.specs.Prelude.{◌⊎◌}
use Rattle.std.specs.declared.option.Option.{Option}
use Rattle.std.proofs.lemmas.List.{take_all}
use Rattle.dms_block.specs.declared.block_fault.BlockFault.{BlockFault}
use Rattle.dms_desc.specs.declared.description.Description.{Description}
use Rattle.dms_desc.specs.Shape.{Described, as_described}
use Rattle.dms_feed.specs.Lines.{first_line, after_line, raw_lines}
use Rattle.dms_feed.specs.Raws.{CutLine, IsUnended}
use Rattle.dms_model.specs.declared.store.Store.{Ghosts}
use Rattle.dms_model.specs.Db.{Db}
use Rattle.dms_model.specs.Programs.{Program}
use Rattle.dms_model.specs.Session.{someone_works}
use Rattle.dms_storeverbs.specs.declared.engine.Engine.{Engine}
use Rattle.dms_storeverbs.specs.View.{engine_view, view}
use Rattle.dms_runner.specs.declared.run.RunFault.{RunFault}
use Rattle.dms_runner.specs.declared.run.RunFault.TheVariants.{Block, Input, Lines, Bytes, Held, Memory}
use Rattle.dms_runner.specs.declared.waiting.WaitingLine.{WaitingLine}
use Rattle.dms_runner.specs.Answers.{LineEffect, RunState, end_events, first_state, line_step, script_events, script_run}
use Rattle.dms_runner.specs.Blaming.{run_fate}
use Rattle.dms_runner.specs.Events.{Fate, RunEvent, Performs, PerformsPrefix}
use Rattle.dms_runner.specs.Running.{AreEnded, TakesRawLine, bytes_of, front_events}
use Rattle.dms_runner.specs.Starting.{AnswersAll, AtInput, CarriesOut, DoesExactly, HeldTooMany, LineOfInputTaken, LinePart, RunPart, StopsAtBytes, StopsAtInput, StopsAtLines, TakesAll, events_at}
use Rattle.dms_runner.proofs.Always.{always_ok}
use Rattle.dms_runner.proofs.Answered.{run_answered}
use Rattle.dms_runner.proofs.Happening.{part_all, part_as, part_on, ran_as, ran_on}
use Rattle.dms_runner.proofs.InOrder.{take_under}
use Rattle.dms_runner.proofs.Lining.{lined_as}
use Rattle.dms_runner.proofs.Running.{RunsLines, going_on, nothing_after, read_fits, read_keeps, read_keeps_more, runs_all, runs_bytes, runs_cut, runs_did, runs_did_more, runs_held, runs_lines, runs_next, runs_on, runs_part_more, runs_room, runs_roomy, runs_stands, runs_waiting}
use Rattle.dms_runner.proofs.Texts.{prints_none}

-- all lines were taken
pub takes_whole : {St : Type 0} {g : Ghosts St} (old mid : Engine St g) (db : Db) (first : ℕ) (all : List ℕ) (i room : ℕ) (waiting : List WaitingLine) (feed : List ℕ) (left : Option (List ℕ)) (r : RunsLines (as_described old.desc) (first_state db first) i room all (view mid) waiting feed left (engine_view old) (engine_view mid))
    → i ≤ 1000000 → r.read.rest ≡ [] → first + 1000003 < 2 ^ 64 → TakesAll old mid waiting db first all
takes_whole old mid db first all i room waiting feed left r few none small =
    let desc = as_described old.desc in
    let roomy = runs_roomy desc db first i room all _ waiting feed left _ _ r none in
    record {
      fits = read_fits r.read few none;
      roomy = roomy;
      stands = runs_stands desc db first i room all _ waiting feed left _ _ r none;
      waiting_is = runs_held desc db first i room all _ waiting feed left _ _ r none;
      ran = runs_all desc db first i room all _ waiting feed left _ _ r none;
      answered = run_answered desc (first_state db first) (raw_lines all) roomy;
      room = omega (arith, r.stands.next, runs_next desc db first i room all _ waiting feed left _ _ r few small);
    }

module _ {St : Type 0} {g : Ghosts St} (old mid : Engine St g) (db : Db) (first : ℕ) (all : List ℕ) (i room : ℕ) (waiting : List WaitingLine) (feed : List ℕ) (left : Option (List ℕ)) (r : RunsLines (as_described old.desc) (first_state db first) i room all (view mid) waiting feed left (engine_view old) (engine_view mid)) where
  abbrev desc : Described
  desc = as_described old.desc

  abbrev going : RunState
  going = going_on desc db first i room all (view mid) waiting feed left (engine_view old) (engine_view mid) r

  abbrev front : ℕ → List RunEvent
  front n = front_events desc db first (raw_lines all) n

  did : Performs (engine_view old) (engine_view mid) (front i)
  did = runs_did desc db first i room all (view mid) waiting feed left (engine_view old) (engine_view mid) r

  -- it holds of how the run stands here, and of what is left of the input
  pub at_next : {P : RunState → List ℕ → Type 0} → mid.desc ≡ old.desc → AtInput mid waiting i feed left P → i < 1000000 → first + 1000003 < 2 ^ 64 → P going r.read.rest
  at_next {P} same holds few small = holds going r.read.rest r.stands (sym r.waiting_is) r.line (take_under (ap as_described (sym same)) (runs_room desc db first i room all _ waiting feed left _ _ r few small)) r.read.remains

  -- what the next line does is told of the same description
  step_is : mid.desc ≡ old.desc → line_step (as_described mid.desc) going (first_line r.read.rest) ≡ line_step desc going (first_line r.read.rest)
  step_is same = ap (λ (d : Description). line_step (as_described d) going (first_line r.read.rest)) same

  -- one line more was taken
  pub takes_on : {room' : ℕ} {feed' : List ℕ} {left' : Option (List ℕ)} {next : List WaitingLine} (new : Engine St g) → mid.desc ≡ old.desc → TakesRawLine room room' feed' left' r.read.rest → LineOfInputTaken mid new next going r.read.rest
      → (s : RunsLines desc (first_state db first) (i + 1) room' all (view new) next feed' left' (engine_view old) (engine_view new)) × (s.read.rest ≡ after_line r.read.rest)
  takes_on new same taken goes = runs_on desc (first_state db first) i room _ all _ _ waiting _ feed _ left _ _ _ _ r taken (lined_as _ _ true _ _ _ _ (step_is same) goes)

  -- and it was the last one
  pub takes_last : {room' : ℕ} {feed' : List ℕ} {left' : Option (List ℕ)} {next : List WaitingLine} (new : Engine St g) → mid.desc ≡ old.desc → TakesRawLine room room' feed' left' r.read.rest → LineOfInputTaken mid new next going r.read.rest
      → IsUnended (first_line r.read.rest) → i < 1000000 → first + 1000003 < 2 ^ 64 → TakesAll old new next db first all
  takes_last new same taken goes last few small = let s = takes_on new same taken goes in takes_whole old new db first all (i + 1) _ _ _ _ s.0 (omega (arith, few)) (s.1 ∙ nothing_after r.read.rest last) small

  exactly : (n : ℕ) → n ≡ i → DoesExactly old mid db first all i (front i) n
  exactly n is = record { are = (sym is, ap front (sym is)); did = did }

  -- the run stops between two lines, but for the audit's room
  stops_still : {T : Type 0} (fault : RunFault) (left' : Option (List ℕ)) → ((n : ℕ) → (run_fate {T = T} (Err fault)).full n → ⊥) → i ≤ 1000000 → (IsErrOf {T = T} (Err fault) Lines → StopsAtLines old mid db first all × (1000000 ≡ i))
      → (IsErrOf {T = T} (Err fault) Bytes → (p : StopsAtBytes old mid db first all) × (p.n ≡ i)) → (IsErrOf {T = T} (Err fault) Held → ⊥) → (IsErrOf {T = T} (Err fault) Input → (p : StopsAtInput left' old mid db first all) × (p.n ≡ i))
      → CarriesOut {T = T} (Err fault) left' old mid db first all
  stops_still fault left' fine few lines bytes held cut = record {
    n = i;
    events = front i;
    front = read_keeps r.read few;
    are = inl refl;
    part = part_all fine _ _ _ did;
    whole = tt;
    lines = λ e. let p = lines e in (p.0, exactly _ p.1);
    bytes = λ e. let p = bytes e in (p.0, exactly _ p.1);
    full_list = λ e. absurd (held e);
    failed = λ e. let p = cut e in (p.0, exactly _ p.1);
  }

  cut_at : (k : ℕ) (left' : Option (List ℕ)) → AreEnded (take i (raw_lines all)) → i ≤ 1000000 → k ≤ room → (i ≡ 1000000 → k ≡ 0) → CutLine k left' r.read.rest → (p : StopsAtInput left' old mid db first all) × (p.n ≡ i)
  cut_at k left' ended few under last cut = runs_cut desc db first k i room all _ waiting feed left left' _ _ _ r ended few under last (prints_none _ _ refl) cut

  over_at : i < 1000000 → room < length (first_line r.read.rest) → (p : StopsAtBytes old mid db first all) × (p.n ≡ i)
  over_at few over = runs_bytes desc db first i room all _ waiting feed left _ _ _ r few (prints_none _ _ refl) over

  -- behind the last line that a script may have, the run stops where another one follows, where the input fails, or where memory is short
  pub stops_behind : {T : Type 0} (result : Result T RunFault) (left' : Option (List ℕ)) → i ≡ 1000000 → AreEnded (take i (raw_lines all)) → (IsErrOf result Lines → r.read.rest ≢ []) → (IsErrOf result Input → CutLine 0 left' r.read.rest)
      → (IsErrOf result Bytes → ⊥) × (IsErrOf result Held → ⊥) → ((f : BlockFault) → IsErrOf result (Block f) → ⊥) → IsErr result → CarriesOut result left' old mid db first all
  stops_behind (Ok x) left' end ended more cut limits block err = absurd (cc)
  stops_behind (Err (Block f)) left' end ended more cut limits block err = absurd (block f refl)
  stops_behind (Err Bytes) left' end ended more cut limits block err = absurd (limits.0 refl)
  stops_behind (Err Held) left' end ended more cut limits block err = absurd (limits.1 refl)
  stops_behind (Err Memory) left' end ended more cut limits block err = stops_still Memory left' (λ f is. is) (omega (arith, end)) (λ e. absurd (cc)) (λ e. absurd (cc)) (λ e. absurd (cc)) (λ e. absurd (cc))
  stops_behind (Err Input) left' end ended more cut limits block err = stops_still Input left' (λ f is. is) (omega (arith, end)) (λ e. absurd (cc)) (λ e. absurd (cc)) (λ e. absurd (cc))
      (λ e. cut_at 0 left' ended (omega (arith, end)) (omega arith) (λ x. refl) (cut refl))
  stops_behind (Err Lines) left' end ended more cut limits block err = stops_still Lines left' (λ f is. is) (omega (arith, end))
      (λ e. (runs_lines desc db first i room all _ waiting feed left _ _ _ r (prints_none _ _ refl) end (more refl), sym end)) (λ e. absurd (cc)) (λ e. absurd (cc)) (λ e. absurd (cc))

  still : {T : Type 0} (fault : RunFault) (left' : Option (List ℕ)) (new : Engine St g) → new ≡ mid → CarriesOut {T = T} (Err fault) left' old mid db first all → CarriesOut {T = T} (Err fault) left' old new db first all
  still {T} fault left' new same carries = subst (λ (e : Engine St g). CarriesOut {T = T} (Err fault) left' old e db first all) (sym same) carries

  -- it stops at a line: behind the lines before it nothing was done, or a part of what it does, or where it would be one too many to hold, its first try
  pub stops_at : {T U : Type 0} (fault : RunFault) (left' : Option (List ℕ)) (new : Engine St g) → mid.desc ≡ old.desc → i < 1000000 → AreEnded (take i (raw_lines all))
      → ((f : BlockFault) → IsErrOf {T = T} (Err fault) (Block f) → LinePart {T = T} (Err fault) mid new room going r.read.rest)
      → (IsErrOf {T = T} (Err fault) Input ⊎ (IsErrOf {T = T} (Err fault) Memory ⊎ IsErrOf {T = T} (Err fault) Bytes) → new ≡ mid)
      → (IsErrOf {T = T} (Err fault) Bytes → room < length (first_line r.read.rest)) → (IsErrOf {T = T} (Err fault) Held → HeldTooMany mid new room going r.read.rest)
      → (IsErrOf {T = T} (Err fault) Lines → ⊥) → (IsErrOf {T = T} (Err fault) Input → CutLine room left' r.read.rest) → CarriesOut {T = U} (Err fault) left' old new db first all
  stops_at Lines left' new same few ended part untouched over held none cut = absurd (none refl)
  stops_at Memory left' new same few ended part untouched over held none cut =
      still Memory left' new (untouched (inr (inl refl))) (stops_still Memory left' (λ f is. is) (omega (arith, few)) (λ e. absurd (cc)) (λ e. absurd (cc)) (λ e. absurd (cc)) (λ e. absurd (cc)))
  stops_at Bytes left' new same few ended part untouched over held none cut =
      still Bytes left' new (untouched (inr (inr refl))) (stops_still Bytes left' (λ f is. is) (omega (arith, few)) (λ e. absurd (cc)) (λ e. over_at few (over refl)) (λ e. absurd (cc)) (λ e. absurd (cc)))
  stops_at Input left' new same few ended part untouched over held none cut =
      still Input left' new (untouched (inl refl)) (stops_still Input left' (λ f is. is) (omega (arith, few)) (λ e. absurd (cc)) (λ e. absurd (cc)) (λ e. absurd (cc))
      (λ e. cut_at room left' ended (omega (arith, few)) (omega arith) (λ x. absurd (omega (arith, x, few))) (cut refl)))
  stops_at (Block f) left' new same few ended part untouched over held none cut =
      let p = part f refl in
      record {
        n = i + 1;
        events = front (i + 1);
        front = read_keeps_more r.read p.some few p.fits;
        are = inl refl;
        part = runs_part_more desc db first i room all (view mid) waiting feed left (engine_view old) (engine_view mid) r (engine_view new) p.some (part_as _ _ _ _ (ap (λ (l : LineEffect). l.events) (step_is same)) p.part);
        whole = tt;
        lines = λ e. absurd (cc);
        bytes = λ e. absurd (cc);
        full_list = λ e. absurd (cc);
        failed = λ e. absurd (cc);
      }
  stops_at Held left' new same few ended part untouched over held none cut =
      let h = held refl in
      let done = runs_did_more desc db first i room all (view mid) waiting feed left (engine_view old) (engine_view mid) r (engine_view new) h.some (ran_as _ _ _ _ (ap (λ (l : LineEffect). l.events) (step_is same)) h.did) in
      record {
        n = i + 1;
        events = front (i + 1);
        front = read_keeps_more r.read h.some few h.fits;
        are = inl refl;
        part = part_all (λ f is. is) _ _ _ done;
        whole = tt;
        lines = λ e. absurd (cc);
        bytes = λ e. absurd (cc);
        full_list = λ e.
            let p = runs_waiting desc db first i room all _ waiting feed left _ _ _ r few h.said h.some (sym (ap (λ (l : LineEffect). l.full) (step_is same)) ∙ h.full) h.fits in
            let same_count = ap (λ (n : ℕ). n + 1) (sym p.1) in
            (p.0, record { are = (same_count, ap front same_count); did = done });
        failed = λ e. absurd (cc);
      }

-- where all lines were taken, the end of the script follows
module _ {St : Type 0} {g : Ghosts St} (old mid new : Engine St g) (db : Db) (first : ℕ) (all : List ℕ) (waiting held : List WaitingLine) (same : held ≡ waiting) (t : TakesAll old mid waiting db first all) where
  abbrev whole : LineEffect
  whole = script_run (as_described old.desc) db first (raw_lines all)

  abbrev ends : List RunEvent
  ends = end_events (someone_works mid.programs.items) held

  -- so it does what the end of the script does
  ends_are : ends ≡ end_events (someone_works whole.going.session.programs) whole.going.waiting
  ends_are = ap (λ (ps : List Program). end_events (someone_works ps) held) t.stands.programs ∙ ap (end_events (someone_works whole.going.session.programs)) (same ∙ t.waiting_is)

  pub ends_run : Performs (engine_view mid) (engine_view new) ends → Performs (engine_view old) (engine_view new) (events_at old db first all)
  unfolding script_events
  ends_run last = ran_on _ _ _ _ _ t.ran (ran_as _ _ _ _ ends_are last)

  pub ends_answers : Performs (engine_view mid) (engine_view new) ends → AnswersAll old new db first all
  ends_answers last = record { few = t.fits.few; short = t.fits.short; room = t.roomy; text = (ends_run last).text }

  ends_part : {fate : Fate} → PerformsPrefix fate (engine_view mid) (engine_view new) ends → PerformsPrefix fate (engine_view old) (engine_view new) (events_at old db first all)
  unfolding script_events
  ends_part last = part_on _ _ _ _ _ t.ran t.answered (part_as _ _ _ _ ends_are last)

  -- all that the script has was carried out, or a part of it
  pub ends_carry : {T : Type 0} (result : Result T RunFault) (left' : Option (List ℕ)) → RunPart result mid new ends
      → (IsErrOf result Lines → ⊥) × (IsErrOf result Bytes → ⊥) × (IsErrOf result Held → ⊥) → (IsErrOf result Input → ⊥) → CarriesOut result left' old new db first all
  ends_carry result left' part limits input =
      let n = length (raw_lines all) in
      record {
        n = n;
        events = events_at old db first all;
        front = record { within = omega arith; few = t.fits.few; short = omega (arith, t.fits.short, ap bytes_of (take_all n (raw_lines all) (omega arith))) };
        are = inr (refl, t.roomy, refl);
        part = ends_part part;
        whole = always_ok result _ refl;
        lines = λ e. absurd (limits.0 e);
        bytes = λ e. absurd (limits.1 e);
        full_list = λ e. absurd (limits.2 e);
        failed = λ e. absurd (input e);
      }
