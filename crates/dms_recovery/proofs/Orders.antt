-- The dump of what is asked is in order where nothing is refused, and it serves where it is a true one.
use Rattle.std.specs.Prelude.{max, nat_lt}
use Rattle.std.proofs.Common.{ℕ, ◌+◌, ◌≤◌, ◌≡◌, Bool, true, false, cond, List, Option, Some, None, refl, sym, subst, arith}
use Rattle.std.proofs.lemmas.Bool.Decides.{nat_tests}
use Rattle.dms_site.specs.Files.{Files}
use Rattle.dms_history.specs.Base.{from_control, Sound}
use Rattle.dms_history.specs.Agrees.{Numbered}
use Rattle.dms_history.specs.Events.{AllBlocks, Stored, Event, How, halt_load, back_out, roll_back, rebuild, reconstruct}
use Rattle.dms_history.specs.History.{Pending}
use Rattle.dms_history.specs.Pick.{Dumps}
use Rattle.dms_history.specs.Places.{IsLive}
use Rattle.dms_history.specs.Judge.{judge_point}
use Rattle.dms_history.specs.Copied.{IsCopiedDump}
use Rattle.dms_history.specs.Restores.{HasDump}
use Rattle.dms_history.specs.Entries.{how_of}
use Rattle.dms_history.specs.declared.event.Row.{Row}
use Rattle.dms_history.proofs.Judging.{each_judged}
use Rattle.dms_history.proofs.Copied.{copied_dump_serves}
use Rattle.dms_audfile.specs.Header.{tag_said}
use Rattle.dms_dump.specs.Head.{Head, end_of}
use Rattle.dms_dump.specs.Judged.{DumpRead, missing, unsealed, damaged, sealed}
use Rattle.dms_running.specs.FromDumps.{DumpInOrder, OrderBy}
use Rattle.dms_restore.specs.Dumped.{IsDumpFound, dumps_of}
use Rattle.dms_opening.specs.declared.asked.Asked.{Asked}
use Rattle.dms_opening.specs.declared.asked.Asked.TheVariants.{HaltLoad, Rollback, Rebuild, Reconstruct}
use Rattle.dms_opening.specs.declared.asked.DumpLook.{DumpLook}
use Rattle.dms_opening.specs.declared.asked.DumpLook.TheVariants.{Sealed}
use Rattle.dms_opening.specs.Asked.{Refused, audit_before, dump_later, or_next, refused_at, judge_file, judge_dump, judge_dump_point, judge_last_point, judge_own, is_later, number_or}
use Rattle.dms_opening.specs.Doing.{kind_asked, point_asked}
use Rattle.dms_opening.specs.DumpLooks.{look_of, dump_at, dump_asked}
use Rattle.dms_opening.proofs.Chosen.{or_none, at_none}
use Rattle.dms_opening.proofs.Completed.{dump_end, dump_point}
use Rattle.dms_opening.proofs.DumpLooks.{own_look, own_tag, sealed_at}

no_refusal : (b : Bool) (r : Refused) → cond b (Some r) None ≡ None → b ≡ false
no_refusal true r is = absurd cc
no_refusal false r is = refl

not_less : (a b : ℕ) → nat_lt a b ≡ false → b ≤ a
not_less a b off = grind (arith, nat_tests)

-- a dump that isn't refused is in order
module _ (first next d m : ℕ) (files : Files) (live : List Event) (how : How) (none : judge_dump first live next d (look_of (tag_said (files first)) (dump_at files d)) m ≡ None) where
  abbrev p : Pending
  p = record { entries = live; point = m; how = how }

  abbrev tag : ℕ
  tag = tag_said (files first)

  -- it can be read, and has the tag of the trail
  order_read : (h : Head) → dump_at files d ≡ sealed h → h.tag ≡ tag → judge_file first d (Sealed h.point (end_of h) h.audit) ≡ None → judge_dump_point live next d (Sealed h.point (end_of h) h.audit) m ≡ None → DumpInOrder (IsDumpFound first files) (dumps_of files) p d
  order_read h is own file point =
      let s = sealed_at files d h is in
      let within : first ≤ 10000 + h.audit = not_less (10000 + h.audit) first (no_refusal (nat_lt (10000 + h.audit) first) audit_before file) in
      let top = max h.point (end_of h) in
      let parts = or_none (refused_at h.point (judge_point live next h.point)) (or_next (refused_at (end_of h) (judge_point live next (end_of h))) (is_later d top m)) point in
      let rest = or_none (refused_at (end_of h) (judge_point live next (end_of h))) (is_later d top m) parts.1 in
      let lives : IsLive live h.point = ((each_judged live next h.point).lives.0 (at_none h.point (judge_point live next h.point) parts.0)).1 in
      let end_lives : IsLive live (end_of h) = ((each_judged live next (end_of h)).lives.0 (at_none (end_of h) (judge_point live next (end_of h)) rest.0)).1 in
      let low : top ≤ m = not_less m top (no_refusal (nat_lt m top) (dump_later d top) rest.1) in
      let same : (dumps_of files d).point ≡ h.point = dump_point files d h s.some s.few s.read in
      let ends : (dumps_of files d).end ≡ end_of h = dump_end files d h s.some s.few s.read in
      record {
        is_found = record { some = s.some; few = s.few; head = h; read = s.read; tag_is = own; within = within };
        point_lives = subst (λ n. IsLive live n) (sym same) lives;
        end_lives = subst (λ n. IsLive live n) (sym ends) end_lives;
        point_low = omega (arith, same, low);
        end_low = omega (arith, ends, low);
      }

  by_read : (r : DumpRead) → dump_at files d ≡ r → judge_file first d (look_of tag r) ≡ None → judge_dump_point live next d (look_of tag r) m ≡ None → DumpInOrder (IsDumpFound first files) (dumps_of files) p d
  by_read missing is file point = absurd cc
  by_read unsealed is file point = absurd cc
  by_read damaged is file point = absurd cc
  by_read (sealed h) is file point =
      let own : h.tag ≡ tag = own_tag first d tag h file in
      let looked = own_look tag h own in
      order_read h is own (subst (λ (l : DumpLook). judge_file first d l ≡ None) looked file) (subst (λ (l : DumpLook). judge_dump_point live next d l m ≡ None) looked point)

  pub dump_order : DumpInOrder (IsDumpFound first files) (dumps_of files) (record { entries = live; point = m; how = how }) d
  dump_order =
      let parts = or_none (judge_file first d (look_of (tag_said (files first)) (dump_at files d))) (judge_dump_point live next d (look_of (tag_said (files first)) (dump_at files d)) m) none in
      by_read (dump_at files d) refl parts.0 parts.1

-- so is that of what is asked
pub order_asked : (first next m : ℕ) (files : Files) (live : List Event) (last : Option ℕ) (asked : Asked) (rows : List Row) → judge_own first live next last asked (look_of (tag_said (files first)) (dump_asked files asked)) ≡ None → point_asked asked last ≡ Some m
    → OrderBy (IsDumpFound first files) (dumps_of files) (record { entries = live; point = m; how = how_of (kind_asked asked rows) }) (how_of (kind_asked asked rows))
order_asked first next m files live last HaltLoad rows none at = tt
order_asked first next m files live last (Rollback n) rows none at = tt
order_asked first next m files live last (Rebuild d n) rows none at =
    let same : n ≡ m = cc in
    dump_order first next d m files live (how_of (kind_asked (Rebuild d n) rows))
    (subst (λ k. judge_dump first live next d (look_of (tag_said (files first)) (dump_at files d)) k ≡ None) same (or_none (refused_at n (judge_point live next n)) (judge_dump first live next d (look_of (tag_said (files first)) (dump_at files d)) n) none).1)
order_asked first next m files live last (Reconstruct d) rows none at =
    dump_order first next d m files live (how_of (kind_asked (Reconstruct d) rows))
    (subst (λ (k : Option ℕ). judge_dump first live next d (look_of (tag_said (files first)) (dump_at files d)) (number_or k) ≡ None) at
    (or_none (judge_last_point next live last) (judge_dump first live next d (look_of (tag_said (files first)) (dump_at files d)) (number_or last)) none).1)

-- a dump that was copied from the database, for each restore that goes by one
abbrev pub CopiedFor : Dumps → List Event → Stored → How → Type 0
CopiedFor dumps live counted halt_load = Unit {0}
CopiedFor dumps live counted back_out = Unit {0}
CopiedFor dumps live counted roll_back = Unit {0}
CopiedFor dumps live counted (rebuild d) = IsCopiedDump (dumps d) live counted
CopiedFor dumps live counted (reconstruct d named) = IsCopiedDump (dumps d) live counted

-- it serves
pub dump_serves : (how : How) (found : ℕ → Type 0) (dumps : Dumps) (live : List Event) (base : AllBlocks) (counted : Stored) (next m : ℕ) (p : Pending) → p.point ≡ m → Sound (from_control live) base counted → Numbered live next → IsLive live m
    → CopiedFor dumps live counted how → OrderBy found dumps p how → HasDump how dumps live counted m
dump_serves halt_load found dumps live base counted next m p at sound numbered lives is order = tt
dump_serves back_out found dumps live base counted next m p at sound numbered lives is order = tt
dump_serves roll_back found dumps live base counted next m p at sound numbered lives is order = tt
dump_serves (rebuild d) found dumps live base counted next m p at sound numbered lives is order = copied_dump_serves live base next m (dumps d) counted sound numbered lives is (omega (arith, at, order.end_low))
dump_serves (reconstruct d named) found dumps live base counted next m p at sound numbered lives is order = copied_dump_serves live base next m (dumps d) counted sound numbered lives is (omega (arith, at, order.end_low))
