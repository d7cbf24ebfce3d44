-- Laws: where the entries and the blocks agree there is a base, and the other way round.
use Rattle.std.specs.Prelude.{ℕ, ◌≡◌, Bool, true, false, List, [], ◌∷◌, ◌++◌, length, Some}
use Rattle.dms_history.specs.Events.{AllBlocks, Stored, Event}
use Rattle.dms_history.specs.Lists.{has, until_first}
use Rattle.dms_history.specs.Places.{is_control, is_point, is_begin, IsLive}
use Rattle.dms_history.specs.History.{Pending, history, next_number}
use Rattle.dms_history.specs.Pick.{Dumps, blocks_at}
use Rattle.dms_history.specs.Here.{here}
use Rattle.dms_history.specs.Base.{opening, from_control, Sound, OpenedFrom, base_of}
use Rattle.dms_history.specs.Agrees.{BeginsAloneEvents, ListAgrees, EventsAgree, Numbered}
use Rattle.dms_history.specs.Restores.{Steady}
use Rattle.dms_history.specs.Points.{HasPoint}

abbrev pub AgreesHasBase : Type 0
AgreesHasBase = (first : Bool) (live : List Event) (next : ℕ) (counted : Stored) → has is_begin live ≡ false
    → ListAgrees first live next counted → Sound (from_control live) (base_of live counted) counted

abbrev pub AgreesLeadsToBase : Type 0
AgreesLeadsToBase = (first : Bool) (live : List Event) (next : ℕ) (counted : Stored) → ListAgrees first live next counted
    → has is_control live ≡ true → OpenedFrom (opening live) (base_of live counted) × (first ≡ true → (f : ℕ) → length (base_of live counted f) ≡ 0)

-- any base will do
abbrev pub BaseAgrees : Type 0
BaseAgrees = (first : Bool) (live : List Event) (next : ℕ) (counted : Stored) (base : AllBlocks) → Sound (from_control live) base counted
    → OpenedFrom (opening live) base → Numbered live next → (first ≡ true → (f : ℕ) → length (base f) ≡ 0) → ListAgrees first live next counted

-- With its dumps, and a restore that may be pending: what agrees is steady.
abbrev pub AgreesIsSteady : Type 0
AgreesIsSteady = (first : Bool) (entries : List Event) (dumps : Dumps) (stored : Stored) → EventsAgree first entries dumps stored → BeginsAloneEvents entries
    → ((p : Pending) → (history entries).pending ≡ Some p → IsLive (history entries).live p.point)
    → Steady dumps (history entries) (base_of (history entries).live (here dumps (history entries) stored)) stored

abbrev pub SteadyAgrees : Type 0
SteadyAgrees = (first : Bool) (entries : List Event) (dumps : Dumps) (stored : Stored) (base : AllBlocks) → Steady dumps (history entries) base stored
    → OpenedFrom (opening (history entries).live) base → Numbered (history entries).live (next_number entries)
    → (first ≡ true → (f : ℕ) → length (base f) ≡ 0) → EventsAgree first entries dumps stored

-- What is left of the live entries, ys, has a later base, and each of its live points without a place among the removed ones, xs, is one of all, with its blocks.
pub record HasLaterBase (xs ys : List Event) (here : Stored) : Type 0 where
  pub later : AllBlocks
  pub sound : Sound (from_control ys) later here
  pub opened : OpenedFrom (opening ys) later
  pub points : (n : ℕ) → IsLive ys n → has (is_point n) xs ≡ false → HasPoint (xs ++ ys) here n (blocks_at ys here n)

-- Old audit files are removed from the front: what counts has a later base, and each live point whose place is not removed has its content.
abbrev pub PrefixGoes : Type 0
PrefixGoes = (xs ys : List Event) (base : AllBlocks) (here : Stored) → Sound (from_control (xs ++ ys)) base here → OpenedFrom (opening (xs ++ ys)) base → has is_control ys ≡ true
    → HasLaterBase xs ys here

-- What stands before the first Control stays as it is, whatever follows and wherever a Begin cuts behind that Control.
abbrev pub OpeningStays : Type 0
OpeningStays = (live : List Event) → ((e : Event) → has is_control live ≡ true → opening (live ++ e ∷ []) ≡ opening live)
    × ((n : ℕ) → IsLive live n → opening (until_first (is_point n) live) ≡ opening live)
