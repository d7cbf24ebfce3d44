-- How much audit a run takes, step by step.
use Rattle.std.proofs.Common.{ℕ, ◌+◌, ◌-◌, ◌*◌, ◌^◌, ◌<◌, ◌≤◌, ◌≡◌, ◌⊎◌, ◌∙◌, inl, inr, false, IsTrue, List, [], ◌++◌, length, take, Option, Some, refl, sym, ap, subst, arith}
use Rattle.std.specs.Prelude.{slice_get}
use Rattle.std.proofs.lemmas.List.{append-nil, take_all}
use Rattle.dms_block.specs.declared.block_fault.BlockFault.TheVariants as block
use Rattle.dms_block.specs.Texts.{Prints, PrintsPrefix}
use Rattle.dms_desc.specs.Shape.{Described}
use Rattle.dms_history.specs.Entries.{Entry}
use Rattle.dms_history.proofs.Order.{append_none}
use Rattle.dms_model.specs.Seen.{Effort, Seen}
use Rattle.dms_runner.specs.EventLaws.{AreCounted}
use Rattle.dms_runner.specs.Events.{RunEvent, SaidAtLeast, TakesEvents, TookAll, TookOneMore, TookPart, backs_of, blocks_begun, blocks_of, quiets_of, syncs_of, text_of}
use Rattle.dms_runner.specs.declared.run.RunFault.{RunFault}
use Rattle.dms_runner.specs.declared.run.RunFault.TheVariants.{Block}
use Rattle.dms_runner.proofs.Texts.{front_all, front_none, prints_none}
use Rattle.dms_running.specs.Telling.{Telling}
use Rattle.dms_restore.specs.Logging.{FilesGrew, entries, telling, waits}
use Rattle.dms_restore.specs.Views.{view_of}
use Rattle.dms_site.specs.declared.site.Site.{Ghosts}
use Rattle.dms_site.specs.Files.{Files}
use Rattle.dms_status.specs.declared.status.Status.{Status}
use Rattle.dms_status.specs.declared.status.Status.TheVariants.{Ok, SayFault}
use Rattle.dms_wal.specs.declared.running.Running.{Running}
use Rattle.dms_wal.specs.Growing.{GrowsBy, IsCounted, controls_among}
use Rattle.dms_wal.proofs.Grown.{controls_low}
use Rattle.dms_runtop.specs.Bound.{AnswersPart, GrewWithin, PrintsEvents, audit_begun, audit_of}
use Rattle.dms_runtop.specs.Faults.{IsWithin, run_status}
use Rattle.dms_runtop.proofs.Endings.{run_not_ok}

-- ---- the text

-- nothing was printed
says_none : (cut : Type 0) (events : List RunEvent) (x y : Option (List ℕ)) → y ≡ x → PrintsEvents cut 0 events x y
says_none cut events x y same = record {
  within = omega arith;
  text = λ off. prints_none x y same;
  whole = 0;
  near = (omega arith, omega arith);
  least = λ t is. ([], same ∙ is ∙ ap (λ (l : List ℕ). Some l) (sym (append-nil (t ++ []) ∙ append-nil t)));
  most = front_none x y [] same;
}

-- all was printed
says_all : (cut : Type 0) (events : List RunEvent) (x y : Option (List ℕ)) → Prints x y (text_of events) → PrintsEvents cut (length events) events x y
says_all cut events x y text =
    let all : take (length events) events ≡ events = take_all (length events) events (omega arith) in
    record {
      within = omega arith;
      text = λ off. subst (λ (es : List RunEvent). Prints x y (text_of es)) (sym all) text;
      whole = length events;
      near = (omega arith, omega arith);
      least = subst (λ (es : List RunEvent). SaidAtLeast x y (text_of es)) (sym all) (λ t is. ([], text t is ∙ ap (λ (l : List ℕ). Some l) (sym (append-nil (t ++ text_of events)))));
      most = subst (λ (es : List RunEvent). PrintsPrefix x y (text_of es)) (sym all) (front_all x y (text_of events) text);
    }

-- where less may have cut it off
says_uncut : {cut cut' : Type 0} {k : ℕ} {events : List RunEvent} {x y : Option (List ℕ)} → ((cut' → ⊥) → cut → ⊥) → PrintsEvents cut k events x y → PrintsEvents cut' k events x y
says_uncut whole p = record { within = p.within; text = λ off. p.text (whole off); whole = p.whole; near = p.near; least = p.least; most = p.most }

-- and where the text is the same
says_same : {cut : Type 0} {k : ℕ} {events : List RunEvent} {x y z : Option (List ℕ)} → z ≡ y → PrintsEvents cut k events x y → PrintsEvents cut k events x z
says_same {k = k} {events = events} {x = x} same p = record {
  within = p.within;
  text = λ off. subst (λ (o : Option (List ℕ)). Prints x o (text_of (take k events))) (sym same) (p.text off);
  whole = p.whole;
  near = p.near;
  least = subst (λ (o : Option (List ℕ)). SaidAtLeast x o (text_of (take p.whole events))) (sym same) p.least;
  most = subst (λ (o : Option (List ℕ)). PrintsPrefix x o (text_of (take k events))) (sym same) p.most;
}

-- ---- what was done before, and what is done since

-- a part is as much of what the files of an earlier moment hold, where no more was added since than is allowed besides
grew_since : (n m : ℕ) (t : Telling) (desc : Described) (whole k : ℕ) (events : List RunEvent) (a0 a b : Files) → length (t.entries a) + n ≤ length (t.entries a0) + m → GrewWithin n t desc whole k events a b → GrewWithin m t desc whole k events a0 b
grew_since n m t desc whole k events a0 a b grew (inl all) = inl (omega (arith, grew, all))
grew_since n m t desc whole k events a0 a b grew (inr more) = inr (more.0, omega (arith, grew, more.1))

pub bounds_since : {n m : ℕ} {t : Telling} {desc : Described} {events : List RunEvent} {a0 a b : Files} {x y : Option (List ℕ)} {s : Status} → length (t.entries a) + n ≤ length (t.entries a0) + m → AnswersPart n t desc events a b x y s
    → AnswersPart m t desc events a0 b x y s
bounds_since {n} {m} {t} {desc} {events} {a0} {a} {b} grew p = record { k = p.k; text = p.text; whole = p.whole; grew = grew_since n m t desc p.text.whole p.k events a0 a b grew p.grew }

-- so it is where the run ends with another status, and nothing was done since
pub bounds_instead : {n : ℕ} {t : Telling} {desc : Described} {events : List RunEvent} {a b c : Files} {x y z : Option (List ℕ)} (s0 s : Status) → (s0 ≡ SayFault → ⊥) → (s ≡ Ok → ⊥) → c ≡ b → z ≡ y → AnswersPart n t desc events a b x y s0
    → AnswersPart n t desc events a c x z s
unfolding says_same says_uncut
bounds_instead {n} {t} {desc} {events} {a} s0 s unsaid not_ok files said p = record {
  k = p.k;
  text = says_same said (says_uncut (λ other cut. unsaid cut) p.text);
  whole = λ is. absurd (not_ok is);
  grew = subst (λ (f : Files). GrewWithin n t desc p.text.whole p.k events a f) (sym files) p.grew;
}

-- nothing was said, and the files have no more than an opening adds
pub bounds_opening : {n : ℕ} {t : Telling} {desc : Described} {events : List RunEvent} {a b : Files} {x y : Option (List ℕ)} (s : Status) → (s ≡ Ok → ⊥) → length (t.entries b) ≤ length (t.entries a) + n → y ≡ x → AnswersPart n t desc events a b x y s
bounds_opening {events = events} {x = x} {y = y} s not_ok few same = record { k = 0; text = says_none (s ≡ SayFault) events x y same; whole = λ is. absurd (not_ok is); grew = inl (omega (arith, few)) }

-- nothing was done
pub bounds_none : {n : ℕ} {t : Telling} {desc : Described} {events : List RunEvent} {a b : Files} {x y : Option (List ℕ)} (s : Status) → (s ≡ Ok → ⊥) → b ≡ a → y ≡ x → AnswersPart n t desc events a b x y s
bounds_none {t = t} s not_ok files same = bounds_opening s not_ok (omega (arith, ap (λ (l : Files). length (t.entries l)) files)) same

-- ---- a cut text

full_not_say : (f : ℕ) → Block (block.Full f) ≡ Block block.Say → ⊥
full_not_say f is = absurd cc

-- a fault of printing ends with its status
say_within : (last : ℕ) (fault then : RunFault) → IsWithin last fault then → fault ≡ Block block.Say → run_status then ≡ SayFault
say_within last fault then (inl within) is = ap run_status (within.0 ∙ is)
say_within last fault then (inr memory) is = absurd (full_not_say memory.1.0 (sym memory.1.1 ∙ is))

-- ---- a run over a running database

abbrev pub effort_is : {S : Type 0} → Running S → Effort
effort_is r = record { spent = r.spent; syncs = r.syncs; outs = r.outs }

module _ {S : Type 0} (g : Ghosts S) (d : Described) (r r' : Running S) (t : Telling) (told : telling (view_of g r.log) ≡ t) (told' : telling (view_of g r'.log) ≡ t) (nothing : waits r.log.end ≡ [])
    (every : r.every ≡ d.controlpoint) (spent : r.spent ≡ 0) (syncs : r.syncs ≡ 0) (outs : r.outs ≡ 0) (tells : IsTrue g.tells) (grows : GrowsBy g r r') where
  entry_entries : length (entries (view_of g r.log)) ≡ length (t.entries (g.files r.log.site))
  entry_entries =
      let v = view_of g r.log in
      ap (λ (l : List Entry). length ((telling v).entries v.files ++ l)) nothing ∙ ap (λ (l : List Entry). length l) (append_none ((telling v).entries v.files)) ∙ ap (λ (k : Telling). length (k.entries v.files)) told

  -- by bounds of its uses
  module _ (blocks made synced backs : ℕ) (one : r'.spent ≤ blocks) (used : r'.next ≤ r.next + made) (two : r'.syncs ≤ synced) (three : r'.outs ≤ backs) (low_one : blocks < 2 ^ 64 - 1) (low_two : synced < 2 ^ 64 - 1) (low_three : backs < 2 ^ 64 - 1) where
    counted : IsCounted r'
    counted = record { spent = omega (arith, one, low_one); syncs = omega (arith, two, low_two); outs = omega (arith, three, low_three) }

    controls : controls_among r'.every r'.syncs ≤ controls_among d.controlpoint synced
    controls = subst (λ n. controls_among n r'.syncs ≤ controls_among d.controlpoint synced) (sym (grows.every ∙ every)) (controls_low d.controlpoint r'.syncs synced two)

    -- the entries of the log, where no call of it failed
    in_log : r'.broken ≡ false → length (entries (view_of g r'.log)) ≤ length (t.entries (g.files r.log.site)) + (blocks + made + 18 * controls_among d.controlpoint synced + 19 * backs)
    in_log unbroken = omega (arith, grows.grows tells unbroken counted, entry_entries, controls, one, used, three)

    -- and those of the files, whatever failed
    in_files : length (t.entries (g.files r'.log.site)) ≤ length (t.entries (g.files r.log.site)) + (blocks + made + 18 * controls_among d.controlpoint synced + 19 * backs)
    in_files = omega (arith, grows.sealed tells counted, ap (λ (k : Telling). length (k.entries (g.files r'.log.site))) told', entry_entries, controls, one, used, three)

  module _ (events : List RunEvent) (old new : Seen) (old_is : old.effort ≡ effort_is r) (new_is : new.effort ≡ effort_is r') (next_is : old.next ≡ r.next) (next_is' : new.next ≡ r'.next) (desc_is : old.desc ≡ d)
      (counts : (k : ℕ) → AreCounted d events k) where
    blocks_same : (es : List RunEvent) → blocks_of old.desc es ≡ blocks_of d es
    blocks_same es = ap (λ (x : Described). blocks_of x es) desc_is

    spent_now : new.effort.spent ≡ r'.spent
    spent_now = ap (λ (x : Effort). x.spent) new_is

    syncs_now : new.effort.syncs ≡ r'.syncs
    syncs_now = ap (λ (x : Effort). x.syncs) new_is

    outs_now : new.effort.outs ≡ r'.outs
    outs_now = ap (λ (x : Effort). x.outs) new_is

    spent_then : old.effort.spent ≡ 0
    spent_then = ap (λ (x : Effort). x.spent) old_is ∙ spent

    syncs_then : old.effort.syncs ≡ 0
    syncs_then = ap (λ (x : Effort). x.syncs) old_is ∙ syncs

    outs_then : old.effort.outs ≡ 0
    outs_then = ap (λ (x : Effort). x.outs) old_is ∙ outs

    -- the counts of 64 bits can tell what these events do
    record IsLow (es : List RunEvent) : Type 0 where
      few_blocks : blocks_of d es < 2 ^ 64 - 1
      few_syncs : syncs_of es < 2 ^ 64 - 1
      few_backs : backs_of es < 2 ^ 64 - 1

    front_low : (k : ℕ) → IsLow (take k events)
    front_low k = let c = counts k in record { few_blocks = omega (arith, c.blocks); few_syncs = omega (arith, c.syncs); few_backs = omega (arith, c.backs) }

    all_low : IsLow events
    all_low = subst IsLow (take_all (length events) events (omega arith)) (front_low (length events))

    -- no more was done than these events may take
    log_all : (es : List RunEvent) → r'.broken ≡ false → TakesEvents old.desc es old.effort new.effort → new.next ≤ old.next + length (quiets_of es) → IsLow es
        → length (entries (view_of g r'.log)) ≤ length (t.entries (g.files r.log.site)) + audit_of d es
    log_all es unbroken takes numbers c =
        in_log (blocks_of d es) (length (quiets_of es)) (syncs_of es) (backs_of es) (omega (arith, takes.spent, spent_now, spent_then, blocks_same es)) (omega (arith, numbers, next_is, next_is')) (omega (arith, takes.syncs, syncs_now, syncs_then))
        (omega (arith, takes.outs, outs_now, outs_then)) c.few_blocks c.few_syncs c.few_backs unbroken

    files_all : (es : List RunEvent) → TookAll old new es → IsLow es → length (t.entries (g.files r'.log.site)) ≤ length (t.entries (g.files r.log.site)) + audit_of d es
    files_all es took c =
        let takes = took.effort in
        in_files (blocks_of d es) (length (quiets_of es)) (syncs_of es) (backs_of es) (omega (arith, takes.spent, spent_now, spent_then, blocks_same es)) (omega (arith, took.next, next_is, next_is')) (omega (arith, takes.syncs, syncs_now, syncs_then))
        (omega (arith, takes.outs, outs_now, outs_then)) c.few_blocks c.few_syncs c.few_backs

    -- and one call more was under way
    files_more : (whole k : ℕ) → TookOneMore old new whole k events → AreCounted d events k → length (t.entries (g.files r'.log.site)) ≤ length (t.entries (g.files r.log.site)) + audit_begun d events k
    files_more whole k took c =
        let es = take k events in
        let made = in_files (blocks_of d es + blocks_begun d (slice_get events k)) (length (quiets_of es) + 1) (syncs_of es + 1) (backs_of es + 1)
        (omega (arith, took.spent, spent_now, spent_then, blocks_same es, ap (λ (x : Described). blocks_begun x (slice_get events k)) desc_is))
        (omega (arith, took.next, next_is, next_is')) (omega (arith, took.syncs, syncs_now, syncs_then)) (omega (arith, took.outs, outs_now, outs_then)) c.blocks c.syncs c.backs in
        omega (arith, made)

    files_took : (n whole k : ℕ) → TookAll old new (take k events) ⊎ TookOneMore old new whole k events → AreCounted d events k → GrewWithin n t d whole k events (g.files r.log.site) (g.files r'.log.site)
    files_took n whole k (inl took) c = inl (omega (arith, files_all (take k events) took (front_low k)))
    files_took n whole k (inr took) c = inr (record { said = took.said; more = took.more; answered = took.answered }, omega (arith, files_more whole k took c))

    -- the script stopped before its end
    pub failed_bound : (last : ℕ) (fault then : RunFault) → IsWithin last fault then → TookPart (fault ≡ Block block.Say) old new events → AnswersPart 18 t d events (g.files r.log.site) (g.files r'.log.site) old.said new.said (run_status then)
    failed_bound last fault then within part = record {
      k = part.k;
      text = record { within = part.within; text = λ unsaid. part.text (λ cut. unsaid (say_within last fault then within cut)); whole = part.whole; near = part.near; least = part.least; most = part.most };
      whole = λ is. absurd (run_not_ok then is);
      grew = files_took 18 part.whole part.k part.took (counts part.k);
    }

    module _ (takes : TakesEvents old.desc events old.effort new.effort) (numbers : new.next ≡ old.next + length (quiets_of events)) where
      -- all events happened, and so many entries the files have then
      all_bound : (status : Status) (files : Files) (said : Option (List ℕ)) → Prints old.said said (text_of events) → length (t.entries files) ≤ length (t.entries (g.files r.log.site)) + audit_of d events + 18 → AnswersPart 18 t d events (g.files r.log.site) files old.said said status
      all_bound status files said text few =
          let all : take (length events) events ≡ events = take_all (length events) events (omega arith) in
          record {
            k = length events;
            text = says_all (status ≡ SayFault) events old.said said text;
            whole = λ is. refl;
            grew = inl (omega (arith, few, ap (λ (es : List RunEvent). audit_of d es) all));
          }

      -- the script was carried out, and then the database closed, or not closed
      pub closed_bound : (status : Status) (files : Files) (said : Option (List ℕ)) → r'.broken ≡ false → FilesGrew 18 (view_of g r'.log) files → Prints old.said said (text_of events) → AnswersPart 18 t d events (g.files r.log.site) files old.said said status
      closed_bound status files said unbroken few text =
          let closing : length (t.entries files) ≤ length (entries (view_of g r'.log)) + 18 = subst (λ (k : Telling). length (k.entries files) ≤ length (entries (view_of g r'.log)) + 18) told' few in
          all_bound status files said text (omega (arith, closing, log_all events unbroken takes (omega (arith, numbers)) all_low))
