-- Runs of a dump and a table are what a restore by it writes.
use Rattle.std.proofs.Common.{ℕ, ◌+◌, ◌<◌, ◌≡◌, ◌⊎◌, inl, inr, Bool, true, false, cond, eqb, List, [], ◌∷◌, length, drop, Option, Some, None, refl, sym, ◌∙◌, ap, subst, arith}
use Rattle.std.proofs.lemmas.Bool.{and_parts}
use Rattle.std.proofs.lemmas.Bool.Decides.{nat_tests}
use Rattle.dms_site.specs.Files.{Files}
use Rattle.dms_history.specs.Events.{BlockBytes, How, rebuild, reconstruct, Event, block_in}
use Rattle.dms_history.specs.History.{Pending}
use Rattle.dms_history.specs.Lists.{after_first}
use Rattle.dms_history.specs.Ranges.{Logged, all_changes, is_point_logged}
use Rattle.dms_history.specs.Images.{is_at, last_after}
use Rattle.dms_history.specs.Pick.{Dump, between, count_at, content_of}
use Rattle.dms_history.specs.Told.{told_block}
use Rattle.dms_history.specs.Entries.{counts_in, named_by}
use Rattle.dms_history.specs.Restores.{may_hold_anything}
use Rattle.dms_history.specs.declared.event.Row.{Row}
use Rattle.dms_history.proofs.Base.{content_length}
use Rattle.dms_history.proofs.Picks.{some_is}
use Rattle.dms_running.specs.Begun.{ByAudit}
use Rattle.dms_dump.specs.Head.{head_in}
use Rattle.dms_dump.specs.Body.{dumped_block, dump_with}
use Rattle.dms_dump.specs.HeadSeen.{head_seen}
use Rattle.dms_dump.specs.declared.reading.DumpHead.{DumpHead}
use Rattle.dms_restore.specs.declared.live.HowAt.{HowAt}
use Rattle.dms_restore.specs.declared.live.HowAt.TheVariants.{Rebuild, Reconstruct}
use Rattle.dms_restore.specs.declared.live.LiveEntry.{LiveEntry}
use Rattle.dms_restore.specs.declared.restore_table.RestoreTable.{RestoreTable}
use Rattle.dms_restore.specs.declared.run.Run.{Run}
use Rattle.dms_restore.specs.declared.told.Told.{Told}
use Rattle.dms_restore.specs.Counts.{count_of}
use Rattle.dms_restore.specs.Dumped.{dumps_of}
use Rattle.dms_restore.specs.LiveEntries.{logged_live}
use Rattle.dms_restore.specs.Named.{IsTableOf, TellsByRows, TellsBetween}
use Rattle.dms_restore.specs.Table.{AreWhole, IsAmong, laid_on, last_of, all_in, told_on, IsPlanOf, Writes}
use Rattle.dms_restore.specs.Tracing.{MatchesHow}
use Rattle.dms_restore.specs.ByDump.{PlansByDump}
use Rattle.dms_restore.specs.Planned.{HasHead, IsHeadFor, AreRunsOf, IsInRuns, CutsAt, PlansDump, PlansCut}
use Rattle.dms_restore.proofs.ByAudit.{free_among, plan_by_audit}
use Rattle.dms_restore.proofs.ByDump.{rebuild_plans, reconstruct_plans}
use Rattle.dms_restore.proofs.DumpRuns.{dump_is}
use Rattle.dms_restore.proofs.HeadCounts.{sealed_head}
use Rattle.dms_restore.proofs.RunBlocks.{among_runs, runs_are_whole, run_tells}

true_not_false : true ≡ false → ⊥
true_not_false e = absurd cc

at_parts : (f b g k : ℕ) → is_at f b g k ≡ true → (g ≡ f) × (k ≡ b)
at_parts f b g k at = let both = and_parts (eqb g f) (eqb k b) at in (grind (arith, nat_tests, both.0), grind (arith, nat_tests, both.1))

none_some : (x : BlockBytes) → None ≡ Some x → ⊥
none_some x e = absurd (cc (e))

-- a block that is told is among them
among_from : (files : Files) (f b : ℕ) (ts : List Told) (o : Option BlockBytes) (x : BlockBytes) → told_on files f b o ts ≡ Some x → (o ≡ Some x) ⊎ IsAmong f b ts
among_from files f b [] o x is = inl is
among_from files f b (t ∷ ts) o x is = by (is_at f b t.file t.block) refl (among_from files f b ts _ x is)
  where
    by : (n : Bool) → is_at f b t.file t.block ≡ n → (cond n (laid_on files t o) o ≡ Some x) ⊎ IsAmong f b ts → (o ≡ Some x) ⊎ (((t.file ≡ f) × (t.block ≡ b)) ⊎ IsAmong f b ts)
    by n at (inr more) = inr (inr more)
    by true at (inl here) = inr (inl (at_parts f b t.file t.block at))
    by false at (inl here) = inl here

among_told : (files : Files) (f b : ℕ) (ts : List Told) (x : BlockBytes) → last_of files f b ts ≡ Some x → IsAmong f b ts
among_told files f b ts x is = elim (among_from files f b ts None x is) [ inl none ↦ absurd (none_some x none) | inr among ↦ among ]

module _ (files : Files) (logged : List Logged) (m : ℕ) (front behind : List LiveEntry) (cut : CutsAt files logged m front behind) where
  abbrev live : List Event
  live = all_changes logged

  module _ (d : ℕ) (head : DumpHead) (has : HasHead files d (Some head)) (counts : List ℕ) (counted : (f : ℕ) → count_of counts f ≡ count_at live m f) (runs : List Run) (are : AreRunsOf (head_seen head) d counts runs) where
    abbrev dump : Dump
    dump = dumps_of files d

    there : head_in (files (20000 + d)) ≡ Some (head_seen head)
    there = sealed_head (files (20000 + d)) (head_seen head) has.2

    is_dump : dumps_of files d ≡ dump_with (head_seen head) (files (20000 + d))
    is_dump = dump_is files d (head_seen head) has.0 has.1 there

    pub whole_runs : AreWhole files (all_in runs)
    whole_runs = runs_are_whole files d (head_seen head) has.0 has.1 there counts runs are

    dump_length : (f : ℕ) → length (dump.blocks f) ≡ counts_in head.counts.items f
    unfolding content_of
    dump_length f = ap (λ (k : Dump). length (k.blocks f)) is_dump ∙ content_length (counts_in head.counts.items) (dumped_block (head_seen head) (files (20000 + d))) f

    pub all_runs : (f b : ℕ) → (b < counts_in head.counts.items f → b < count_of counts f → IsInRuns f b runs) → b < count_at live m f → b < length (dump.blocks f) → last_of files f b (all_in runs) ≡ Some (block_in dump.blocks f b)
    all_runs f b covered low within =
        run_tells files d (head_seen head) has.0 has.1 there counts runs f b are (covered (subst (λ n. b < n) (dump_length f) within) (subst (λ n. b < n) (sym (counted f)) low))

    -- the runs tell blocks of the dump alone
    runs_told : (f b : ℕ) (x : BlockBytes) → last_of files f b (all_in runs) ≡ Some x → IsInRuns f b runs × (block_in dump.blocks f b ≡ x)
    runs_told f b x last =
        let among = among_runs f b runs (among_told files f b (all_in runs) x last) in
        (among, some_is (block_in dump.blocks f b) x (sym (run_tells files d (head_seen head) has.0 has.1 there counts runs f b are among) ∙ last))

    pub rebuilt : (told : List Told) (from : ℕ) → after_first (is_point_logged head.point) (logged_live files front) ≡ logged_live files (drop from front)
        → ((f b : ℕ) → b < counts_in head.counts.items f → b < count_of counts f → IsInRuns f b runs)
        → AreWhole files told → TellsBetween front from told → ((f b : ℕ) → IsAmong f b told → last_of files f b told ≡ None → ⊥) → PlansByDump (rebuild d) dump live m files runs told
    rebuilt told from is covered whole tells some = record {
      runs_by = free_among (λ f b. may_hold_anything (rebuild d) f b ≡ false) (all_in runs) (λ f b among no. true_not_false no);
      runs_whole = whole_runs;
      runs_all = λ f b low any within. all_runs f b (covered f b) low within;
      runs_only = λ f b x last. (refl, (runs_told f b x last).1);
      whole = whole;
      tells = λ f b. tells files logged m head.point cut.until cut.front_whole is f b ∙ ap (λ (k : Dump). last_after f b (between k.point m live)) (sym is_dump);
      among = some;
    }

    pub reconstructed : (rows : List Row) (told : List Told) (from : ℕ) → after_first (is_point_logged head.point) (logged_live files front) ≡ logged_live files (drop from front)
        → ((f b : ℕ) → named_by rows f b ≡ true → b < counts_in head.counts.items f → b < count_of counts f → IsInRuns f b runs) → ((f b : ℕ) → IsInRuns f b runs → named_by rows f b ≡ true) → AreWhole files told
        → TellsByRows front from behind rows told → ((f b : ℕ) → IsAmong f b told → last_of files f b told ≡ None → ⊥) → PlansByDump (reconstruct d (named_by rows)) dump live m files runs told
    reconstructed rows told from is covered only whole tells some = record {
      runs_by = free_among (λ f b. may_hold_anything (reconstruct d (named_by rows)) f b ≡ false) (all_in runs) (λ f b among no. true_not_false (sym (only f b (among_runs f b runs among)) ∙ no));
      runs_whole = whole_runs;
      runs_all = λ f b low any within. all_runs f b (covered f b any) low within;
      runs_only = λ f b x last. let r = runs_told f b x last in (only f b r.0, r.1);
      whole = whole;
      tells = λ f b.
          tells files logged m head.point cut.until cut.after cut.front_whole cut.behind_whole is f b
          ∙ ap (λ (k : Dump). cond (named_by rows f b) (last_after f b (between k.point m live)) (told_block live m f b)) (sym is_dump);
      among = some;
    }

-- ---- of any kind

by_audit_is : (how k : How) → how ≡ k → ByAudit k → ByAudit how
by_audit_is how k is by_audit = subst ByAudit (sym is) by_audit

-- a table of the audit alone
pub cut_by_audit : (how k : How) (front behind : List LiveEntry) (t : RestoreTable) → how ≡ k → ByAudit k → t.runs.items ≡ [] → IsTableOf front behind t.told.items → (files : Files) (logged : List Logged) (m : ℕ) → CutsAt files logged m front behind
    → IsPlanOf how (dumps_of files) (all_changes logged) m files t.runs.items t.told.items
cut_by_audit how k front behind t is by_audit none table files logged m cut =
    let p : Pending = record { entries = all_changes logged; point = m; how = how } in
    subst (λ (l : List Run). Writes p files l t.told.items) (sym none)
    (plan_by_audit p (by_audit_is how k is by_audit) files t.told.items (table files logged m cut.until cut.after cut.front_whole cut.behind_whole))

-- the head of the dump is the one that is given
head_is : (files : Files) (d : ℕ) (o : Option DumpHead) (h : DumpHead) → o ≡ Some h → HasHead files d o → HasHead files d (Some h)
head_is files d o h is has = subst (HasHead files d) is has

pub cut_rebuild : (d : ℕ) (rows : List Row) (o : Option DumpHead) (h : DumpHead) (counts : List ℕ) (front behind : List LiveEntry) (t : RestoreTable) → o ≡ Some h → PlansDump (rebuild d) d h counts front behind t.runs.items t.told.items → PlansCut (Rebuild d) rows o counts front behind t
cut_rebuild d rows o h counts front behind t is plans files logged m how matches cut has counted =
    subst (λ (k : How). IsPlanOf k (dumps_of files) (all_changes logged) m files t.runs.items t.told.items) (sym matches)
    (rebuild_plans d (dumps_of files) (all_changes logged) m files t.runs.items t.told.items
    (plans files logged m cut (head_is files d o h is (subst (λ (k : How). IsHeadFor files k o) matches has)) counted))

pub cut_reconstruct : (d : ℕ) (rows : List Row) (o : Option DumpHead) (h : DumpHead) (counts : List ℕ) (front behind : List LiveEntry) (t : RestoreTable) → o ≡ Some h → PlansDump (reconstruct d (named_by rows)) d h counts front behind t.runs.items t.told.items
    → PlansCut (Reconstruct d) rows o counts front behind t
cut_reconstruct d rows o h counts front behind t is plans files logged m how matches cut has counted =
    subst (λ (k : How). IsPlanOf k (dumps_of files) (all_changes logged) m files t.runs.items t.told.items) (sym matches)
    (reconstruct_plans d (named_by rows) (dumps_of files) (all_changes logged) m files t.runs.items t.told.items
    (plans files logged m cut (head_is files d o h is (subst (λ (k : How). IsHeadFor files k o) matches has)) counted))

-- a restore by a dump has a head
pub no_head : (at : HowAt) (d : ℕ) (rows : List Row) (o : Option DumpHead) → (at ≡ Rebuild d) ⊎ (at ≡ Reconstruct d) → ((files : Files) → HasHead files d o → ⊥) → (files : Files) (how : How) → MatchesHow at rows how → IsHeadFor files how o → ⊥
no_head at d rows o is none files how matches has = elim is [
  | inl one ↦ none files (subst (λ (k : How). IsHeadFor files k o) (subst (λ (k : HowAt). MatchesHow k rows how) one matches) has)
  | inr two ↦ none files (subst (λ (k : How). IsHeadFor files k o) (subst (λ (k : HowAt). MatchesHow k rows how) two matches) has)
]
