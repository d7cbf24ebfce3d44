-- What the site's answer says of how its call was kept.
use Rattle.std.specs.Prelude.{◌≡◌, Bool, true, false, List, Ok, Err, OnOk, OnErr}
use Rattle.std.specs.declared.result.Result.{Result}
use Rattle.std.proofs.Common.{◌⊎◌, inl, inr, sym}
use Rattle.std.proofs.lemmas.Bool.{false≢true}
use Rattle.dms_sitemem.specs.declared.event.SiteEvent.{SiteEvent}
use Rattle.dms_sitemem.specs.Keeping.{OneMore, KeepsEvent, KeptCall}
use Rattle.dms_sitemem.specs.Plans.{Succeeded, Failing}

pub kept_done : {E : Type 0} (is : Bool → SiteEvent → Type 0) (old new : List SiteEvent) (r : Result Bool E) → KeepsEvent is old new r → Succeeded r → OneMore is true old new
kept_done is old new (Ok true) kept done = kept
kept_done is old new (Ok false) kept done = absurd (false≢true done)
kept_done is old new (Err e) kept done = absurd done

pub kept_failed : {E : Type 0} (is : Bool → SiteEvent → Type 0) (old new : List SiteEvent) (r : Result Bool E) → KeepsEvent is old new r → Failing r → (new ≡ old) ⊎ OneMore is false old new
kept_failed is old new (Ok true) kept failed = absurd (false≢true (sym failed))
kept_failed is old new (Ok false) kept failed = inr kept
kept_failed is old new (Err e) kept failed = inl kept

-- the same for the whole answer
pub kept_call : {T E F : Type 0} (is : Bool → SiteEvent → Type 0) (old new : List SiteEvent) (r : Result Bool E) (answer : Result T F) → KeepsEvent is old new r → OnOk answer (Succeeded r) → OnErr answer (Failing r) → KeptCall is old new answer
kept_call is old new r (Ok x) kept done failed = kept_done is old new r kept done
kept_call is old new r (Err e) kept done failed = kept_failed is old new r kept failed
