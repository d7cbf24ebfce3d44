-- A follower takes the next block.
use Rattle.std.proofs.Common.{ℕ, ◌+◌, ◌≤◌, ◌≡◌, ◌∙◌, Bool, sym, subst, List, [], ◌∷◌, ◌++◌, length, arith}
use Rattle.dms_site.specs.Files.{Files}
use Rattle.dms_history.specs.Lists.{has}
use Rattle.dms_history.specs.Entries.{Entry, is_begin}
use Rattle.dms_audfile.specs.TrailEntries.{entries_in}
use Rattle.dms_audfile.specs.declared.audit_end.AuditEnd.{AuditEnd}
use Rattle.dms_audfile.specs.declared.place.EntryPlace.{EntryPlace}
use Rattle.dms_follow.specs.Following.{is_control_entry}
use Rattle.dms_restore.specs.declared.trace.TrailTrace.{TrailTrace}
use Rattle.dms_remote.specs.Copy.{EndsCopy}
use Rattle.dms_remote.specs.Kinds.{any_of}
use Rattle.dms_remote.specs.Next.{TakesNext, AreKinds}
use Rattle.dms_remote.specs.Noting.{NotesAll}
use Rattle.dms_remote.specs.Settling.{SameHistory}
use Rattle.dms_remote.specs.Traced.{TracesBlocks}
use Rattle.dms_remote.specs.Turn.{KeepsUp, IsNextOf, ReadsNext}
use Rattle.dms_remote.specs.declared.kinds.Kinds.{Kinds}
use Rattle.dms_remote.proofs.BlockKinds.{entries_are_of}
use Rattle.dms_remote.proofs.Gates.{ends_at}
use Rattle.dms_remote.proofs.Traced.{traces_trail, ends_behind, traces_more, traces_same}

module _ (end : AuditEnd) (t : TrailTrace) (entries : ℕ) (opened : Bool) (head : List ℕ) (blocks : List (List ℕ)) (block : List ℕ) (files : Files) (places : List EntryPlace) (size : length block ≡ 4096)
    (up : KeepsUp end t entries head blocks files) (reads : ReadsNext end block places) where
  low : 10001 ≤ end.file
  low = omega (arith, up.at.trail.writes.order)

  few : end.count + 1 ≤ 512
  few = omega (arith, up.at.trail.writes.not_full, up.at.trail.writes.stands.few)

  pub kind_of : (kind : Entry → Bool) → any_of kind block places ≡ has kind (entries_in (block ∷ []))
  kind_of kind = entries_are_of kind block end.file (end.count + 1) places size low (omega arith) few reads

  pub are_kinds : (kinds : Kinds) → kinds.control ≡ any_of is_control_entry block places → kinds.begin ≡ any_of is_begin block places → AreKinds kinds block
  are_kinds kinds control begin = record { control = control ∙ kind_of is_control_entry; begin = begin ∙ kind_of is_begin }

  pub takes_next : IsNextOf opened blocks block → TakesNext end t.history opened head blocks block files
  takes_next next = record {
    at = up.at;
    traced = (traces_trail end.total end.tag end.file end.count entries blocks files t up.at.trail up.traces).history;
    whole = next.whole;
    controlled = next.controlled;
    new = next.new;
    bare = next.bare;
    idle = next.idle;
    alone = next.alone;
    ordered = next.ordered;
    begins = next.begins;
  }

  pub keeps_up : (then : AuditEnd) (mid new : TrailTrace) (h : List ℕ) (now : Files) → then.total ≡ end.total → SameHistory t.history mid.history → mid.schemas ≡ t.schemas → NotesAll block places entries mid new → EndsCopy then h blocks block now
      → KeepsUp then new (entries + length places) h (blocks ++ block ∷ []) now
  keeps_up then mid new h now total same schemas notes ends = record {
    at = ends_at then h blocks block now ends;
    traces = subst (λ (n : ℕ). TracesBlocks n (blocks ++ block ∷ []) (entries + length places) new) (sym total)
        (traces_more end.total end.file (end.count + 1) entries blocks block places mid new (ends_behind end.total end.tag end.file end.count blocks files up.at.trail) low up.at.trail.high (omega arith) few size reads notes
        (traces_same end.total entries blocks t mid same schemas up.traces));
  }
