-- A dump of a database that was opened is true.
use Rattle.std.specs.Prelude.{◌&&◌, nat_lt, nat_le}
use Rattle.std.proofs.Common.{ℕ, ◌+◌, ◌≤◌, ◌<◌, ◌≡◌, ◌==◌, Bool, true, cond, List, [], length, Option, Some, None, sym, ◌∙◌, ap, subst, arith}
use Rattle.std.proofs.lemmas.Bool.Decides.{nat_tests}
use Rattle.dms_site.specs.Files.{Files, stored_of}
use Rattle.dms_history.specs.Events.{AllBlocks, Stored, Counts, Event, block_in}
use Rattle.dms_history.specs.Here.{here, here_by}
use Rattle.dms_history.specs.History.{Pending, last_point}
use Rattle.dms_history.specs.Pick.{Dumps, count_at, pick, content_of, blocks_at}
use Rattle.dms_history.specs.Places.{IsLive}
use Rattle.dms_history.specs.Entries.{Entry}
use Rattle.dms_history.specs.EntryEvents.{history_of, live_of}
use Rattle.dms_history.proofs.Base.{content_length, content_block}
use Rattle.dms_history.proofs.Stops.{blocks_same}
use Rattle.dms_dump.specs.Body.{AllStored, dump_file, dump_of, no_dump}
use Rattle.dms_dump.specs.Head.{Head, IsHead, head_in}
use Rattle.dms_dump.specs.Judged.{DumpRead, read_head, unsealed, dump_read, sealed}
use Rattle.dms_dump.proofs.Bodies.{dump_is_read}
use Rattle.dms_running.specs.Running.{AllWritten}
use Rattle.dms_restore.specs.Dumped.{dumps_of}
use Rattle.dms_restore.specs.Logging.{LogView, telling, state, waits, LogRuns, points, content, entries}
use Rattle.dms_restore.specs.Counts.{count_of}
use Rattle.dms_restore.proofs.Logs.{ReadsNow}
use Rattle.dms_wal.specs.Lifting.{last_blocks}
use Rattle.dms_wal.specs.Marks.{IsMarkOf}
use Rattle.dms_wal.proofs.Backs.{all_sized}
use Rattle.dms_wal.proofs.Pointing as pointing
use Rattle.dms_statelaws.proofs.Ends.{sealed_all}

-- ---- contents

-- blocks that stand as the content at a point has them, below counts that are its own
content_stands : (live : List Event) (n : ℕ) (counts : Counts) (stored : Stored) (p : AllBlocks) → blocks_at live stored n ≡ p → ((f : ℕ) → counts f ≡ length (p f)) → ((f b : ℕ) → b < length (p f) → stored f b ≡ block_in p f b)
    → content_of counts stored ≡ blocks_at live stored n
unfolding blocks_at
content_stands live n counts stored p is counted stands =
    let reached = count_at live n in
    let picked = pick live n stored in
    let long : (f : ℕ) → length (p f) ≡ reached f = λ f. ap (λ (c : AllBlocks). length (c f)) (sym is) ∙ content_length reached picked f in
    let same : counts ≡ reached = λ i f. (counted f ∙ long f) i in
    ap (λ (c : Counts). content_of c stored) same ∙ blocks_same reached stored picked (λ f b low.
    stands f b (omega (arith, low, long f)) ∙ ap (λ (c : AllBlocks). block_in c f b) (sym is) ∙ content_block reached picked f b low)

numbered : (d : ℕ) → 1 ≤ d → d ≤ 9999 → (nat_lt 0 d && nat_le d 10000) ≡ true
numbered d some few = grind (arith, nat_tests, some, few)

-- dump d of files is the one that its file holds
pub dump_there : (files : Files) (d : ℕ) → 1 ≤ d → d ≤ 9999 → dumps_of files d ≡ dump_of (files (20000 + d))
dump_there files d some few = ap (λ (b : Bool). cond b (dump_of (files (20000 + d))) no_dump) (numbered d some few)

-- what is written as a dump is read as it
pub dump_reads : (gate : ℕ) (h : Head) (stored : Stored) → gate ≡ 1 → IsHead h → AllStored stored h.counts → dump_read (dump_file gate h stored) ≡ sealed h
unfolding dump_read dump_file
dump_reads gate h stored gated head whole = (λ i. by_gate (is_one gate gated i)) ∙ ap read_head (dump_is_read gate h stored head whole).head
  where
    by_gate : Bool → DumpRead
    by_gate b = cond b (read_head (head_in (dump_file gate h stored))) unsealed

    is_one : (k : ℕ) → k ≡ 1 → (k == 1) ≡ true
    is_one k e = grind (arith, nat_tests, e)

pub none_counts : (d : Dumps) (es : List Entry) (st : Stored) → (history_of es).pending ≡ None → here d (history_of es) st ≡ st
none_counts d es st none = ap (λ (o : Option Pending). here_by o d st) none

-- the content of the last point stands in the files
module _ (v : LogView) (r : LogRuns v) (read : ReadsNow v) (nothing : waits v.end ≡ []) (n : ℕ) (counts : List ℕ) (mark : IsMarkOf (points v) n counts) (is : content v ≡ last_blocks (λ f. []) (points v)) (stand : AllWritten (telling v) (state v)) where
  abbrev pub es : List Entry
  es = (telling v).entries v.files

  abbrev last : AllBlocks
  last = last_blocks (λ f. []) (points v)

  all_same : entries v ≡ es
  all_same = sealed_all v r read nothing

  pub point_lives : IsLive (live_of es) n
  point_lives = subst (λ (l : List Entry). IsLive (live_of l) n) all_same (pointing.last_is v r read n mark.number).lives

  pub point_is_last : last_point (history_of es) ≡ Some n
  point_is_last = ap (λ (l : List Entry). last_point (history_of l)) (sym all_same) ∙ (pointing.last_is v r read n mark.number).last

  content_there : blocks_at (live_of es) (stored_of v.files) n ≡ last
  content_there = ap (λ (l : List Entry). blocks_at (live_of l) (stored_of v.files) n) (sym all_same) ∙ pointing.mark_is v r read n mark.number

  -- blocks below the counts there are the content there
  pub dumped : (counted : Counts) → ((f : ℕ) → counted f ≡ count_of counts f) → content_of counted (stored_of v.files) ≡ blocks_at (live_of es) (stored_of v.files) n
  dumped counted same = content_stands (live_of es) n counted (stored_of v.files) last content_there (λ f. same f ∙ mark.counted f)
      (λ f b low. stand f b (omega (arith, low, ap (λ (c : AllBlocks). length (c f)) is)) ∙ ap (λ (c : AllBlocks). block_in c f b) is)

  -- and each of them is whole
  pub all_stored : (counted : Counts) → ((f : ℕ) → counted f ≡ count_of counts f) → (f b : ℕ) → b < counted f → length (stored_of v.files f b) ≡ 1024
  all_stored counted same f b low =
      let below : b < length (content v f) = omega (arith, low, same f, mark.counted f, ap (λ (c : AllBlocks). length (c f)) is) in
      ap (λ (l : List ℕ). length l) (stand f b below) ∙ all_sized v r read f b below
