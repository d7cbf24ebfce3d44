-- What is done for what is asked, where nothing is refused.
use Rattle.std.proofs.Common.{ℕ, ◌≡◌, true, false, List, Option, Some, None, refl, sym, ◌∙◌, ap, subst}
use Rattle.std.proofs.lemmas.Bool.{true≢false}
use Rattle.dms_site.specs.Files.{Files}
use Rattle.dms_history.specs.Events.{Event, How, halt_load, back_out, roll_back, rebuild, reconstruct}
use Rattle.dms_history.specs.Places.{IsLive}
use Rattle.dms_history.specs.History.{Pending, History, last_point}
use Rattle.dms_history.specs.Judge.{PointRefusal, judge_point}
use Rattle.dms_history.specs.Entries.{Entry, how_of}
use Rattle.dms_history.specs.EntryEvents.{history_of, next_of}
use Rattle.dms_history.specs.declared.event.Row.{Row}
use Rattle.dms_history.proofs.Judging.{each_judged}
use Rattle.dms_running.specs.FromDumps.{dump_by, dump_in}
use Rattle.dms_restore.specs.declared.live.PendingAt.{PendingAt}
use Rattle.dms_restore.specs.declared.tracing.TrailHistory.{TrailHistory}
use Rattle.dms_restore.specs.Tracing.{MatchesHow, IsTraced}
use Rattle.dms_opening.specs.declared.asked.Asked.{Asked}
use Rattle.dms_opening.specs.declared.asked.Asked.TheVariants.{HaltLoad, Rollback, Rebuild, Reconstruct}
use Rattle.dms_opening.specs.declared.asked.DumpLook.{DumpLook}
use Rattle.dms_opening.specs.Asked.{Refused, refused_at, or_next, judge_file, judge_dump, judge_dump_point, judge_last_point, judge_own, judge_by_dump, judge_restore, judge_begun, judge, number_or}
use Rattle.dms_opening.specs.Choices.{Chooses}
use Rattle.dms_opening.specs.Doing.{goes_first, point_asked, kind_asked}
use Rattle.dms_opening.proofs.Pendings.{none_pending, some_pending}

-- no refusal of two
pub or_none : (a b : Option Refused) → or_next a b ≡ None → (a ≡ None) × (b ≡ None)
or_none None b none = (refl, none)
or_none (Some r) b none = absurd cc

pub at_none : (n : ℕ) (o : Option PointRefusal) → refused_at n o ≡ None → o ≡ None
at_none n None none = refl
at_none n (Some r) none = absurd cc

-- ---- the parts of a judgement

pub own_none : (first : ℕ) (h : History) (next : ℕ) (asked : Asked) (begun look : DumpLook) → judge first h next asked begun look ≡ None → judge_own first h.live next (last_point h) asked look ≡ None
own_none first h next HaltLoad begun look none = (or_none (judge_begun first next h.pending begun) (judge_own first h.live next (last_point h) HaltLoad look) none).1
own_none first h next (Rollback n) begun look none = (or_none (judge_begun first next h.pending begun) (judge_own first h.live next (last_point h) (Rollback n) look) none).1
own_none first h next (Rebuild d n) begun look none = none
own_none first h next (Reconstruct d) begun look none = (or_none (judge_begun first next h.pending begun) (judge_own first h.live next (last_point h) (Reconstruct d) look) none).1

-- a restore that goes on first is pending, and isn't refused
pub begun_none : (first : ℕ) (h : History) (next : ℕ) (asked : Asked) (begun look : DumpLook) (p : Pending) → goes_first asked h.pending ≡ Some p → judge first h next asked begun look ≡ None
    → (h.pending ≡ Some p) × (judge_restore first next p.how begun p.entries p.point ≡ None)
begun_none first h next HaltLoad begun look p is none =
    (is, ap (λ (q : Option Pending). judge_begun first next q begun) (sym is) ∙ (or_none (judge_begun first next h.pending begun) (judge_own first h.live next (last_point h) HaltLoad look) none).0)
begun_none first h next (Rollback n) begun look p is none =
    (is, ap (λ (q : Option Pending). judge_begun first next q begun) (sym is) ∙ (or_none (judge_begun first next h.pending begun) (judge_own first h.live next (last_point h) (Rollback n) look) none).0)
begun_none first h next (Rebuild d n) begun look p is none = absurd cc
begun_none first h next (Reconstruct d) begun look p is none =
    (is, ap (λ (q : Option Pending). judge_begun first next q begun) (sym is) ∙ (or_none (judge_begun first next h.pending begun) (judge_own first h.live next (last_point h) (Reconstruct d) look) none).0)

by_dump_parts : (first next d : ℕ) (look : DumpLook) (live : List Event) (m : ℕ) → judge_by_dump first next d look live m ≡ None → (judge_file first d look ≡ None) × (judge_point live next m ≡ None)
by_dump_parts first next d look live m none =
    let parts = or_none (judge_file first d look) (or_next (refused_at m (judge_point live next m)) (judge_dump_point live next d look m)) none in
    (parts.0, at_none m (judge_point live next m) (or_none (refused_at m (judge_point live next m)) (judge_dump_point live next d look m) parts.1).0)

-- its point isn't refused
pub restore_point : (first next : ℕ) (how : How) (look : DumpLook) (live : List Event) (m : ℕ) → judge_restore first next how look live m ≡ None → judge_point live next m ≡ None
restore_point first next halt_load look live m none = at_none m (judge_point live next m) none
restore_point first next back_out look live m none = at_none m (judge_point live next m) none
restore_point first next roll_back look live m none = at_none m (judge_point live next m) none
restore_point first next (rebuild d) look live m none = (by_dump_parts first next d look live m none).1
restore_point first next (reconstruct d named) look live m none = (by_dump_parts first next d look live m none).1

-- nor is the file of its dump
pub restore_file : (first next : ℕ) (how : How) (look : DumpLook) (live : List Event) (m d : ℕ) → dump_by how ≡ Some d → judge_restore first next how look live m ≡ None → judge_file first d look ≡ None
restore_file first next halt_load look live m d is none = absurd cc
restore_file first next back_out look live m d is none = absurd cc
restore_file first next roll_back look live m d is none = absurd cc
restore_file first next (rebuild e) look live m d is none = let same : e ≡ d = cc in subst (λ k. judge_file first k look ≡ None) same (by_dump_parts first next e look live m none).0
restore_file first next (reconstruct e named) look live m d is none = let same : e ≡ d = cc in subst (λ k. judge_file first k look ≡ None) same (by_dump_parts first next e look live m none).0

-- nor that of the dump that is asked for
pub own_file : (first : ℕ) (live : List Event) (next : ℕ) (last : Option ℕ) (asked : Asked) (look : DumpLook) (rows : List Row) (d : ℕ) → dump_by (how_of (kind_asked asked rows)) ≡ Some d → judge_own first live next last asked look ≡ None
    → judge_file first d look ≡ None
own_file first live next last HaltLoad look rows d is none = absurd cc
own_file first live next last (Rollback n) look rows d is none = absurd cc
own_file first live next last (Rebuild e n) look rows d is none =
    let same : e ≡ d = cc in
    let dump = (or_none (refused_at n (judge_point live next n)) (judge_dump first live next e look n) none).1 in
    subst (λ k. judge_file first k look ≡ None) same (or_none (judge_file first e look) (judge_dump_point live next e look n) dump).0
own_file first live next last (Reconstruct e) look rows d is none =
    let same : e ≡ d = cc in
    let dump = (or_none (judge_last_point next live last) (judge_dump first live next e look (number_or last)) none).1 in
    subst (λ k. judge_file first k look ≡ None) same (or_none (judge_file first e look) (judge_dump_point live next e look (number_or last)) dump).0

-- ---- the point that is asked for

-- it is there, and it is live
pub record PointLives (h : History) (asked : Asked) : Type 0 where
  pub point : ℕ
  pub asked_is : point_asked asked (last_point h) ≡ Some point
  pub lives : IsLive h.live point

lives_at : (live : List Event) (next n : ℕ) → refused_at n (judge_point live next n) ≡ None → IsLive live n
lives_at live next n none = ((each_judged live next n).lives.0 (at_none n (judge_point live next n) none)).1

-- where the last point isn't refused there is one, and it is live
last_lives : (h : History) (next : ℕ) (k : Option ℕ) → last_point h ≡ k → judge_last_point next h.live k ≡ None → PointLives h HaltLoad
last_lives h next None is none = absurd cc
last_lives h next (Some n) is none = record { point = n; asked_is = is; lives = lives_at h.live next n none }

pub own_lives : (first : ℕ) (h : History) (next : ℕ) (asked : Asked) (look : DumpLook) → judge_own first h.live next (last_point h) asked look ≡ None → PointLives h asked
own_lives first h next HaltLoad look none = last_lives h next (last_point h) refl none
own_lives first h next (Rollback n) look none = record { point = n; asked_is = refl; lives = lives_at h.live next n none }
own_lives first h next (Rebuild d n) look none =
    record { point = n; asked_is = refl; lives = lives_at h.live next n (or_none (refused_at n (judge_point h.live next n)) (judge_dump first h.live next d look n) none).0 }
own_lives first h next (Reconstruct d) look none =
    let l = last_lives h next (last_point h) refl (or_none (judge_last_point next h.live (last_point h)) (judge_dump first h.live next d look (number_or (last_point h))) none).0 in
    record { point = l.point; asked_is = l.asked_is; lives = l.lives }

-- ---- the choice

pub begins_at : (first : ℕ) (h : History) (next : ℕ) (asked : Asked) (rows : List Row) (begun look : DumpLook) (point : ℕ) → goes_first asked h.pending ≡ None → ((n : ℕ) → point_asked asked (last_point h) ≡ Some n → point ≡ n)
    → judge first h next asked begun look ≡ None → Chooses (judge first h next asked begun look) h asked rows (record { begins = true; point = point })
begins_at first h next asked rows begun look point pending is none =
    let l = own_lives first h next asked look (own_none first h next asked begun look none) in
    let same : point ≡ l.point = is l.point l.asked_is in
    record {
      none = none;
      restore = record { entries = h.live; point = point; how = how_of (kind_asked asked rows) };
      is = record {
        point_is = refl;
        new = λ b. (pending, l.asked_is ∙ ap (λ n. Some n) (sym same), subst (λ n. IsLive h.live n) (sym same) l.lives, refl);
        goes_on = λ b. absurd (true≢false b);
      };
    }

none_first : (files : Files) (entries : List Entry) (h : TrailHistory) (asked : Asked) → goes_first asked h.pending ≡ None → IsTraced files entries h → goes_first asked (history_of entries).pending ≡ None
none_first files entries h HaltLoad none t = none_pending files entries h none t
none_first files entries h (Rollback n) none t = none_pending files entries h none t
none_first files entries h (Rebuild d n) none t = refl
none_first files entries h (Reconstruct d) none t = none_pending files entries h none t

pub begins_with : (files : Files) (entries : List Entry) (h : TrailHistory) (first : ℕ) (asked : Asked) (rows : List Row) (begun look : DumpLook) (q : Option PendingAt) (last : Option ℕ) (point : ℕ) → q ≡ goes_first asked h.pending → q ≡ None → IsTraced files entries h
    → last ≡ last_point (history_of entries) → ((n : ℕ) → point_asked asked last ≡ Some n → point ≡ n) → judge first (history_of entries) (next_of entries) asked begun look ≡ None
    → Chooses (judge first (history_of entries) (next_of entries) asked begun look) (history_of entries) asked rows (record { begins = true; point = point })
begins_with files entries h first asked rows begun look q last point is off t same at none =
    begins_at first (history_of entries) (next_of entries) asked rows begun look point (none_first files entries h asked (sym is ∙ off) t)
    (λ n some. at n (ap (point_asked asked) same ∙ some)) none

-- the pending restore goes on with its point
record GoesFirst (files : Files) (entries : List Entry) (asked : Asked) (q : PendingAt) : Type 0 where
  p : Pending
  is : goes_first asked (history_of entries).pending ≡ Some p
  point_is : p.point ≡ q.point

some_first : (files : Files) (entries : List Entry) (h : TrailHistory) (asked : Asked) (q : PendingAt) → goes_first asked h.pending ≡ Some q → IsTraced files entries h → GoesFirst files entries asked q
some_first files entries h HaltLoad q some t = let s = some_pending files entries h q some t in record { p = s.p; is = s.is; point_is = s.at.point_is }
some_first files entries h (Rollback n) q some t = let s = some_pending files entries h q some t in record { p = s.p; is = s.is; point_is = s.at.point_is }
some_first files entries h (Rebuild d n) q some t = absurd cc
some_first files entries h (Reconstruct d) q some t = let s = some_pending files entries h q some t in record { p = s.p; is = s.is; point_is = s.at.point_is }

pub goes_on_with : (files : Files) (entries : List Entry) (h : TrailHistory) (first : ℕ) (asked : Asked) (rows : List Row) (begun look : DumpLook) (r : Option PendingAt) (q : PendingAt) → r ≡ goes_first asked h.pending → r ≡ Some q → IsTraced files entries h
    → judge first (history_of entries) (next_of entries) asked begun look ≡ None
    → Chooses (judge first (history_of entries) (next_of entries) asked begun look) (history_of entries) asked rows (record { begins = false; point = q.point })
goes_on_with files entries h first asked rows begun look r q is some t none =
    let s = some_first files entries h asked q (sym is ∙ some) t in
    record {
      none = none;
      restore = s.p;
      is = record {
        point_is = s.point_is;
        new = λ b. absurd (true≢false (sym b));
        goes_on = λ b. s.is;
      };
    }

-- ---- the dump of the pending restore

pub dump_none : (files : Files) (entries : List Entry) (h : TrailHistory) → h.pending ≡ None → IsTraced files entries h → None ≡ dump_in (history_of entries).pending
dump_none files entries h none t = sym (ap dump_in (none_pending files entries h none t))

pub dump_some : (files : Files) (entries : List Entry) (h : TrailHistory) (q : PendingAt) (d : Option ℕ) → h.pending ≡ Some q → IsTraced files entries h → ((rows : List Row) (how : How) → MatchesHow q.how rows how → d ≡ dump_by how)
    → d ≡ dump_in (history_of entries).pending
dump_some files entries h q d some t is = let s = some_pending files entries h q some t in is h.rows.items s.p.how s.how ∙ ap dump_in (sym s.is)
