-- The changes since a place as a table, in the order of the audit.
use Rattle.std.specs.Prelude.{ℕ, ◌+◌, ◌≡◌, ◌||◌, if◌then◌else◌, Bool, true, false, List, [], ◌∷◌, ◌++◌}
use Rattle.std.specs.BTreeSet.{BTreeSet, contains}
use Rattle.dms_history.specs.Images.{is_at}
use Rattle.dms_restore.specs.declared.live.LiveEntry.{LiveEntry}
use Rattle.dms_restore.specs.declared.live.LiveEntry.TheVariants.{Changed, Ranged, Quiet, Controlled}
use Rattle.dms_restore.specs.declared.told.Told.{Told}
use Rattle.dms_restore.specs.Named.{block_cmp, patch_of}
use Rattle.dms_restore.specs.Table.{AreBlocks}

-- the entry is an Image or a Range
abbrev pub is_change : LiveEntry → Bool
is_change (Changed i) = true
is_change (Ranged r) = true
is_change (Quiet n) = false
is_change (Controlled c) = false

-- one of them is
abbrev pub has_change : List LiveEntry → Bool
has_change [] = false
has_change (e ∷ es) = is_change e || has_change es

-- how many of them are
abbrev pub change_count : List LiveEntry → ℕ
change_count [] = 0
change_count (e ∷ es) = (if is_change e then 1 else 0) + change_count es

-- the set has block b of file f
abbrev pub is_imaged : BTreeSet (ℕ × ℕ) → ℕ → ℕ → Bool
is_imaged images f b = contains block_cmp images (f, b)

-- the entry is an Image of that block
abbrev pub is_image_of : ℕ → ℕ → LiveEntry → Bool
is_image_of f b (Changed i) = is_at f b i.file i.block
is_image_of f b (Ranged r) = false
is_image_of f b (Quiet n) = false
is_image_of f b (Controlled c) = false

-- what an entry leaves of its block: the whole block after the change, or the bytes that are laid over it
abbrev pub replay_of : LiveEntry → List Told
replay_of (Changed i) = record { file = i.file; block = i.block; place = 0; length = 1024; audit = i.audit; at = i.at } ∷ []
replay_of (Ranged r) = patch_of r.file r.block r.patch ∷ []
replay_of (Quiet n) = []
replay_of (Controlled c) = []

-- the block of a Range has an Image
abbrev pub IsBehindImage : BTreeSet (ℕ × ℕ) → LiveEntry → Type 0
IsBehindImage images (Changed i) = Unit {0}
IsBehindImage images (Ranged r) = is_imaged images r.file r.block ≡ true
IsBehindImage images (Quiet n) = Unit {0}
IsBehindImage images (Controlled c) = Unit {0}

-- One entry more is in the table. The set has the blocks with an Image so far, and a Range is of one of these.
pub record Replays (e : LiveEntry) (before : BTreeSet (ℕ × ℕ)) (old : List Told) (after : BTreeSet (ℕ × ℕ)) (new : List Told) : Type 0 where
  pub blocks : AreBlocks new
  pub added : new ≡ old ++ replay_of e
  pub images : (f b : ℕ) → is_imaged after f b ≡ is_image_of f b e || is_imaged before f b
  pub behind : IsBehindImage before e
