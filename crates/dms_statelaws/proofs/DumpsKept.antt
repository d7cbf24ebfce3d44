-- A dump of a database is one of each that has its points.
use Rattle.std.proofs.Common.{ℕ, ◌+◌, ◌<◌, ◌≤◌, ◌≡◌, Bool, cond, List, length, refl, sym, ◌∙◌, ap, subst, arith}
use Rattle.std.specs.Prelude.{◌&&◌, nat_lt, nat_le}
use Rattle.dms_site.specs.Files.{Files, stored_of}
use Rattle.dms_history.specs.Copied.{CopiedAt, IsCopiedDump}
use Rattle.dms_history.specs.Entries.{Entry}
use Rattle.dms_history.specs.EntryEvents.{history_of, live_of}
use Rattle.dms_history.specs.Events.{AllBlocks, Event, Stored, block_in}
use Rattle.dms_history.specs.Here.{here}
use Rattle.dms_history.specs.Pick.{Dump, blocks_at, count_at, pick}
use Rattle.dms_history.specs.Places.{IsLive}
use Rattle.dms_history.specs.Restores.{IsTrueDump}
use Rattle.dms_history.proofs.Base.{content_length}
use Rattle.dms_audfile.specs.Header.{tag_said}
use Rattle.dms_audfile.specs.ScanLaws.{IsFoundWith}
use Rattle.dms_dump.specs.Body.{dump_of, no_dump}
use Rattle.dms_dump.specs.Judged.{dump_read}
use Rattle.dms_restore.specs.Dumped.{dumps_of}
use Rattle.dms_run.specs.SamePoint.{LivesIn, SamePoint, content_in}
use Rattle.dms_run.specs.State.{HasTag}
use Rattle.dms_run.proofs.Lives.{one_found}
use Rattle.dms_statelaws.specs.Dumps.{HasCopiedDump, HasDumpAt}
use Rattle.dms_statelaws.specs.DumpsStay.{DumpStays, DumpsStay, KeepsDumpTo}

-- the count of a file at a point is that of the blocks there
count_there : (live : List Event) (counted : Stored) (n f : ℕ) → length (blocks_at live counted n f) ≡ count_at live n f
unfolding blocks_at
count_there live counted n f = content_length (count_at live n) (pick live n counted) f

-- a dump is read from its file alone
dump_same : (old new : Files) (d : ℕ) → new (20000 + d) ≡ old (20000 + d) → dumps_of new d ≡ dumps_of old d
dump_same old new d same = ap (λ (file : List ℕ). cond (nat_lt 0 d && nat_le d 10000) (dump_of file) no_dump) same

-- ---- at one point

module _ (n d : ℕ) (old new : Files) (keeps : KeepsDumpTo n d old new) (low : (dumps_of old d).end ≤ n) (has : HasCopiedDump old d) where
  abbrev tagged : HasTag new has.head.tag
  tagged = keeps.tag has.head.tag (record { entries = has.entries; finds = has.finds; is = sym has.tag_is })

  abbrev es : List Entry
  es = tagged.entries

  abbrev dump : Dump
  dump = dumps_of old d

  abbrev counted_of : Files → List Entry → Stored
  counted_of files entries = here (dumps_of files) (history_of entries) (stored_of files)

  -- a point that isn't above its end, in the entries of both
  pub record AtBoth (m : ℕ) : Type 0 where
    pub lives : IsLive (live_of es) m
    pub same : content_in new es m ≡ content_in old has.entries m

  at_both : (m : ℕ) → m ≤ dump.end → IsLive (live_of has.entries) m → AtBoth m
  at_both m le lives =
      let p = keeps.points m (omega (arith, le, low)) (record { entries = has.entries; finds = has.finds; lives = lives }) in
      let before : p.then.entries ≡ has.entries = one_found old p.then.entries has.entries p.then.finds has.finds in
      let after : p.now.entries ≡ es = one_found new p.now.entries es p.now.finds tagged.finds in
      record {
        lives = subst (λ (l : List Entry). IsLive (live_of l) m) after p.now.lives;
        same = sym (ap (λ (l : List Entry). content_in new l m) after) ∙ p.content_same ∙ ap (λ (l : List Entry). content_in old l m) before;
      }

  at_point : AtBoth dump.point
  at_point = at_both dump.point has.is_copied.order has.is_copied.point_lives

  counts_same : (f : ℕ) → count_at (live_of es) dump.point f ≡ count_at (live_of has.entries) dump.point f
  counts_same f =
      sym (count_there (live_of es) (counted_of new es) dump.point f) ∙ ap (λ (c : AllBlocks). length (c f)) at_point.same
      ∙ count_there (live_of has.entries) (counted_of old has.entries) dump.point f

  pub copied_there : IsCopiedDump dump (live_of es) (counted_of new es)
  copied_there = record {
    point_lives = at_point.lives;
    end_lives = (at_both dump.end (omega arith) has.is_copied.end_lives).lives;
    order = has.is_copied.order;
    counts = λ f. has.is_copied.counts f ∙ sym (counts_same f);
    each = λ f b less.
        let c = has.is_copied.each f b (subst (λ (k : ℕ). b < k) (counts_same f) less) in
        let at = at_both c.point c.high c.lives in
        record { point = c.point; lives = at.lives; low = c.low; high = c.high; same = c.same ∙ sym (ap (λ (blocks : AllBlocks). block_in blocks f b) at.same) };
  }

  pub there : dumps_of new d ≡ dump
  there = dump_same old new d keeps.file

  abbrev pub copied_stays : HasCopiedDump new d
  copied_stays = record {
    some = has.some;
    few = has.few;
    head = has.head;
    read = ap dump_read keeps.file ∙ has.read;
    entries = es;
    finds = tagged.finds;
    tag_is = sym tagged.is;
    is_copied = subst (λ (q : Dump). IsCopiedDump q (live_of es) (counted_of new es)) (sym there) copied_there;
  }

  pub true_stays : IsTrueDump dump (live_of has.entries) (counted_of old has.entries) → IsTrueDump (dumps_of new d) (live_of es) (counted_of new es)
  true_stays t =
      subst (λ (q : Dump). IsTrueDump q (live_of es) (counted_of new es)) (sym there)
      (record { point_lives = at_point.lives; same = t.same ∙ sym at_point.same })

pub dumps_stay : DumpsStay
dumps_stay n d old new keeps low = record {
  copied = λ has. copied_stays n d old new keeps low has;
  whole = λ m at. record {
    has = copied_stays n d old new keeps low at.has;
    is_true = true_stays n d old new keeps low at.has at.is_true;
    point_is = ap (λ (q : Dump). q.point) (dump_same old new d keeps.file) ∙ at.point_is;
  };
}
