-- What a LOCK gives, and for whom it waits.
use Rattle.std.specs.Prelude.{◌≡◌, ◌≢◌, ℕ, List, [], ◌∷◌, true, slice_get, Some}
use Rattle.dms_desc.specs.Shape.{Described}
use Rattle.dms_model.specs.declared.reply.Reply.TheVariants.{Waits}
use Rattle.dms_model.specs.declared.verb.Path.{Path}
use Rattle.dms_model.specs.declared.verb.Verb.TheVariants.{Lock}
use Rattle.dms_model.specs.Db.{Place}
use Rattle.dms_model.specs.Programs.{Program}
use Rattle.dms_model.specs.Session.{Session, place_of, step}
use Rattle.dms_laws.specs.Exclusive.{is_done, is_locked_for}

-- this is the program of that name
abbrev pub IsProgram : Session → List ℕ → Program → Type 0
IsProgram s name p = slice_get s.programs (place_of name s.programs) ≡ Some p

-- another program alone is waited for, which holds the record locked
pub record HasOneBlocker (s : Session) (name : List ℕ) (place : Place) (who : List (List ℕ)) : Type 0 where
  pub holder : List ℕ
  pub alone : who ≡ holder ∷ []
  pub holds : is_locked_for s holder place ≡ true
  pub other : holder ≢ name

-- a LOCK that is done holds the record that its path names, and one that waits does for the record's one holder
pub record LockTells (desc : Described) (s : Session) (name : List ℕ) (path : Path) (place : Place) : Type 0 where
  pub gives : is_done (step desc s name (Lock path)).reply ≡ true → is_locked_for (step desc s name (Lock path)).session name place ≡ true
  pub waits : (who : List (List ℕ)) → (step desc s name (Lock path)).reply ≡ Waits who → HasOneBlocker s name place who
