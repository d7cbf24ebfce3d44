-- The files that a stop leaves by a pick: what stands where something was written since the last sync, and whether cuts have happened.
use Rattle.std.specs.Prelude.{ℕ, zero, suc, ◌+◌, ◌-◌, ◌*◌, ◌/◌, ◌%◌, ◌^◌, ◌==◌, min, if◌then◌else◌, Bool, List, [], ◌∷◌, length, take, replicate}
use Rattle.dms_site.specs.Files.{Files, with_file, overlay_bytes}
use Rattle.dms_sitemem.specs.declared.event.SiteEvent.{SiteEvent}
use Rattle.dms_sitemem.specs.declared.event.SiteEvent.TheVariants.{Looked, Wrote, Shortened, Synced, Said, Replaced, Recalled}
use Rattle.dms_sitemem.specs.declared.pick.Fill.{Fill}
use Rattle.dms_sitemem.specs.declared.pick.Fill.TheVariants.{Old, New, Sevens, Drawn}
use Rattle.dms_sitemem.specs.Replay.{state_of}

-- what a draw makes of the seed
unfoldable pub next_seed : ℕ → ℕ
next_seed seed = (6364136223846793005 * seed + 1442695040888963407) % 2 ^ 64

-- so many bytes drawn from a seed
unfoldable pub draw_bytes : ℕ → ℕ → List ℕ
draw_bytes zero seed = []
draw_bytes (suc count) seed = (next_seed seed / 2 ^ 33) % 256 ∷ draw_bytes count (next_seed seed)

-- the seed after so many draws
unfoldable pub seed_after : ℕ → ℕ → ℕ
seed_after zero seed = seed
seed_after (suc count) seed = seed_after count (next_seed seed)

-- Where a write begins to count as written: at its offset, or at the file's end where a gap stands before it.
abbrev pub start_of : ℕ → List ℕ → ℕ
start_of at file = min at (length file)

-- how many bytes count as written, the gap among them
abbrev pub count_of : ℕ → List ℕ → List ℕ → ℕ
count_of at bytes file = at + length bytes - start_of at file

-- A file after a write that a stop cut off: with its old bytes and its old length, its new bytes, the byte 7, or drawn bytes.
abbrev pub file_after : Fill → ℕ → ℕ → List ℕ → List ℕ → List ℕ
file_after Old seed at bytes file = file
file_after New seed at bytes file = overlay_bytes at bytes file
file_after Sevens seed at bytes file = overlay_bytes (start_of at file) (replicate (count_of at bytes file) 7) file
file_after Drawn seed at bytes file = overlay_bytes (start_of at file) (draw_bytes (count_of at bytes file) seed) file

abbrev pub seed_behind : Fill → ℕ → ℕ → ℕ
seed_behind Old count seed = seed
seed_behind New count seed = seed
seed_behind Sevens count seed = seed
seed_behind Drawn count seed = seed_after count seed

-- files that a stop leaves, and the seed of the next draw
pub record Struck : Type 0 where
  pub files : Files
  pub seed : ℕ

-- one more event before the stop
abbrev pub strike : Fill → Bool → SiteEvent → Struck → Struck
strike fill cuts (Wrote f at bytes ok) s = record {
  files = with_file s.files f (file_after fill s.seed at bytes.items (s.files f));
  seed = seed_behind fill (count_of at bytes.items (s.files f)) s.seed;
}
strike fill cuts (Shortened f len ok) s = record s { files = if cuts then with_file s.files f (take len (s.files f)) else s.files }
strike fill cuts (Looked ok) s = s
strike fill cuts (Synced ok) s = s
strike fill cuts (Said bytes ok) s = s
strike fill cuts (Replaced f bytes) s = record s { files = with_file s.files f bytes.items }
strike fill cuts (Recalled bytes) s = s

-- what a pick puts where something was written
abbrev pub fill_of : ℕ → Fill
fill_of pick = if pick == 0 then Old else if pick == 1 then New else if pick == 7 then Sevens else Drawn

-- cuts have happened where the pick is odd
abbrev pub cuts_of : ℕ → Bool
cuts_of pick = pick % 2 == 1

-- From the files at the last sync through the events since, of which the newest comes first. The pick is the seed of the draws.
unfoldable pub pick_state : ℕ → Files → List SiteEvent → Struck
pick_state pick stable [] = record { files = stable; seed = pick }
pick_state pick stable (event ∷ earlier) = strike (fill_of pick) (cuts_of pick) event (pick_state pick stable earlier)

-- the files that a stop leaves by a pick after these events
abbrev pub picked_after : ℕ → List SiteEvent → Struck
picked_after pick events = pick_state pick (state_of events).stable (state_of events).pending
