-- A database that runs on from its log.
use Rattle.std.proofs.Common.{ℕ, ◌≡◌, false, IsTrue, None, refl, sym, ◌∙◌, subst}
use Rattle.dms_site.specs.declared.site.Site.{Ghosts}
use Rattle.dms_pool.specs.declared.pool.Pool.{Pool}
use Rattle.dms_pool.specs.Calls.{IsEmpty}
use Rattle.dms_running.proofs.Framed.{holds_none}
use Rattle.dms_restore.specs.declared.log.Log.{Log}
use Rattle.dms_restore.specs.Logging.{telling, state, entries}
use Rattle.dms_restore.specs.TailTables.{IsAtLastControl}
use Rattle.dms_restore.specs.Views.{view_of}
use Rattle.dms_wal.specs.declared.imaged.ImagedBlocks.{ImagedBlocks}
use Rattle.dms_wal.specs.declared.running.Running.{Running}
use Rattle.dms_wal.specs.declared.running.Start.{Start}
use Rattle.dms_wal.specs.Database.{frames_of, IsRunningUsable}
use Rattle.dms_wal.specs.ImagedSets.{HasNone}
use Rattle.dms_wal.specs.Lifting.{AreCounts}
use Rattle.dms_wal.specs.Starting.{IsInBounds, StartsFrom}
use Rattle.dms_wal.proofs.Imaging.{images_none}
use Rattle.dms_wal.proofs.Pooled.{counted_empty, frames_empty, holds_like}

-- no call was made, no block is held, and none is said to have an Image
abbrev pub started : {S : Type 0} → Log S → Start → Pool → ImagedBlocks → Running S
started log s pool set = record {
  log = log;
  pool = pool;
  counts = s.counts;
  marks = s.marks;
  schema = s.schema;
  next = s.next;
  point = s.point;
  every = s.every;
  imaged = set;
  changed = s.changed;
  broken = false;
  reads = 0;
  spent = 0;
  syncs = 0;
  outs = 0;
  full = 0;
  damaged = 0;
}

pub usable_new : {S : Type 0} (g : Ghosts S) (log : Log S) (s : Start) (pool : Pool) (set : ImagedBlocks) (n : ℕ) → IsEmpty n pool → HasNone set → set.number ≡ s.point → AreCounts s.counts.items → IsInBounds s → (IsTrue g.tells → StartsFrom (view_of g log) s) → IsRunningUsable g (started log s pool set)
usable_new g log s pool set n empty none number table bounds starts = record {
  unbroken = refl;
  described = bounds.described;
  table = table;
  marked = bounds.marked;
  counted = counted_empty n pool s.counts.items empty;
  under = λ t. (starts t).under;
  goes = λ t. let k = starts t in record {
    runs = k.runs;
    holds = holds_like (telling (view_of g log)) (state (view_of g log)) (λ f b. None) (frames_of pool) (frames_empty n pool empty) (holds_none (telling (view_of g log)) (state (view_of g log)) k.written);
    numbered = k.numbered;
    counted = k.counted;
  };
  images_counted = images_none set s.counts.items none;
  imaged = λ t. record {
    has_them = λ f b. none f b ∙ sym ((starts t).none_imaged f b);
    at_point = λ on. subst (IsAtLastControl (entries (view_of g log))) (sym number) (starts t).at_control;
  };
  pointed = λ t. (starts t).pointed;
  unchanged = λ no t. (starts t).unchanged no;
}
