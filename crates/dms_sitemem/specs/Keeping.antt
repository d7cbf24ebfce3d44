-- How the journal keeps a call.
use Rattle.std.specs.Prelude.{ℕ, ◌≡◌, ◌⊎◌, Bool, true, false, List, [], ◌∷◌, ◌++◌, Vec, Ok, Err}
use Rattle.std.specs.declared.alloc.Global.{Global}
use Rattle.std.specs.declared.result.Result.{Result}
use Rattle.dms_sitemem.specs.declared.event.SiteEvent.{SiteEvent}
use Rattle.dms_sitemem.specs.declared.event.SiteEvent.TheVariants.{Looked, Wrote, Shortened, Synced, Said}

-- an event keeps this call, with its success
abbrev pub IsLookEvent : Bool → SiteEvent → Type 0
IsLookEvent done event = event ≡ Looked done

abbrev pub IsWrite : ℕ → ℕ → List ℕ → Bool → SiteEvent → Type 0
IsWrite file at bytes done event = (v : Vec ℕ Global) × (v.items ≡ bytes) × (event ≡ Wrote file at v done)

abbrev pub IsCut : ℕ → ℕ → Bool → SiteEvent → Type 0
IsCut file len done event = event ≡ Shortened file len done

abbrev pub IsSync : Bool → SiteEvent → Type 0
IsSync done event = event ≡ Synced done

abbrev pub IsSaying : List ℕ → Bool → SiteEvent → Type 0
IsSaying bytes done event = (v : Vec ℕ Global) × (v.items ≡ bytes) × (event ≡ Said v done)

-- one event more, of this call with this success
abbrev pub OneMore : (Bool → SiteEvent → Type 0) → Bool → List SiteEvent → List SiteEvent → Type 0
OneMore is done old new = (event : SiteEvent) × is done event × (new ≡ old ++ event ∷ [])

-- the journal keeps one event more, or none where memory is refused
abbrev pub KeepsEvent : {E : Type 0} → (Bool → SiteEvent → Type 0) → List SiteEvent → List SiteEvent → Result Bool E → Type 0
KeepsEvent is old new (Ok done) = OneMore is done old new
KeepsEvent is old new (Err e) = new ≡ old

-- the same by what the site answers: a call that answered was kept as one that succeeded, and one that failed as one that
-- failed, or not at all where memory is refused
abbrev pub KeptCall : {T E : Type 0} → (Bool → SiteEvent → Type 0) → List SiteEvent → List SiteEvent → Result T E → Type 0
KeptCall is old new (Ok x) = OneMore is true old new
KeptCall is old new (Err e) = (new ≡ old) ⊎ OneMore is false old new
