-- A copy: blocks of its source, from audit file 1 on, and structure files that follow them.
use Rattle.std.specs.Prelude.{ℕ, ◌≡◌, ◌⊎◌, List, [], ◌∷◌, ◌++◌}
use Rattle.dms_site.specs.Files.{Files, Left, stored_of}
use Rattle.dms_audfile.specs.TrailEntries.{entries_in}
use Rattle.dms_audfile.specs.Copies.{IsTrailOf, HasTrailOf}
use Rattle.dms_audfile.specs.declared.audit_end.AuditEnd.{AuditEnd}
use Rattle.dms_follow.specs.Following.{Follows}

-- Its trail from file 1 on are these blocks, its description file has these bytes, and its structure files follow the entries of the blocks.
pub record IsCopyOf (total tag : ℕ) (head : List ℕ) (blocks : List (List ℕ)) (files : Files) : Type 0 where
  pub trail : HasTrailOf total tag 10001 blocks files
  pub head_is : files 1 ≡ head
  pub follows : Follows (entries_in blocks) (stored_of files)

-- The writer of such a copy stands at its end, and its structure files follow the entries with the next block, too: so it may be sealed.
pub record MaySeal (end : AuditEnd) (head : List ℕ) (blocks : List (List ℕ)) (block : List ℕ) (files : Files) : Type 0 where
  pub trail : IsTrailOf end.total end.tag 10001 end.file end.count blocks files
  pub head_is : files 1 ≡ head
  pub follows : Follows (entries_in blocks) (stored_of files)
  pub follows_next : Follows (entries_in (blocks ++ block ∷ [])) (stored_of files)

-- what a stop leaves while a block is sealed: the copy without it, or with it
abbrev pub CopiesOn : ℕ → ℕ → List ℕ → List (List ℕ) → List ℕ → Left → Left → Type 0
CopiesOn total tag head blocks block old new = IsCopyOf total tag head blocks new.files ⊎ IsCopyOf total tag head (blocks ++ block ∷ []) new.files

-- Then the writer stands at the end of the copy with it.
pub record EndsCopy (end : AuditEnd) (head : List ℕ) (blocks : List (List ℕ)) (block : List ℕ) (files : Files) : Type 0 where
  pub trail : IsTrailOf end.total end.tag 10001 end.file end.count (blocks ++ block ∷ []) files
  pub head_is : files 1 ≡ head
  pub follows : Follows (entries_in (blocks ++ block ∷ [])) (stored_of files)
