-- What is kept after one more event, or after none.
use Rattle.std.proofs.Common.{ℕ, ◌+◌, ◌≤◌, ◌≡◌, inl, inr, Bool, true, false, IsTrue, List, [], ◌∷◌, ◌++◌, if◌then◌else◌, ◌==◌, ◌∙◌, ap, sym, subst, refl, take, length, Vec, arith}
use Rattle.std.specs.declared.alloc.Global.{Global}
use Rattle.std.proofs.lemmas.List.{append-nil}
use Rattle.std.proofs.lemmas.Bool.{false≢true}
use Rattle.std.proofs.lemmas.Bool.Decides.{nat_tests}
use Rattle.dms_moments.specs.Moments.{Steps}
use Rattle.dms_site.specs.Files.{Files, Left, with_file, overlay_bytes, InFile, Torn, Cut, OnDisk, PrintsPartOf, Only}
use Rattle.dms_site.specs.Laws.{torn_overlaid, torn_refl, in_file_with, in_file_same}
use Rattle.dms_sitemem.specs.declared.event.SiteEvent.{SiteEvent}
use Rattle.dms_sitemem.specs.declared.event.SiteEvent.TheVariants.{Wrote, Shortened, Synced, Said}
use Rattle.dms_sitemem.specs.Events.{files_after, said_after, is_call, calls_in}
use Rattle.dms_sitemem.specs.Replay.{Replayed, MayLeave, after, state_of, clock_of}
use Rattle.dms_sitemem.specs.Honest.{state_push, push_holds, write_leads, say_leads, synced_only}

pub kept_file : (old new : Files) (f : ℕ) (next bytes : List ℕ) → ((g : ℕ) → new g ≡ (if g == f then next else old g)) → next ≡ bytes → new ≡ with_file old f bytes
unfolding with_file
kept_file old new f next bytes each is = λ i g. (each g ∙ (λ j. if g == f then is j else old g)) i

pub kept_same : (old new : Files) → ((g : ℕ) → new g ≡ old g) → new ≡ old
kept_same old new each = λ i g. each g i

-- after one more event
abbrev pub More : List SiteEvent → SiteEvent → List SiteEvent → Type 0
More events event all = all ≡ events ++ event ∷ []

pub more_state : (events all : List SiteEvent) (event : SiteEvent) → More events event all → state_of all ≡ after event (state_of events)
more_state events all event more = ap state_of more ∙ state_push events event

pub more_files : (events all : List SiteEvent) (event : SiteEvent) (old new : Files) → More events event all → old ≡ (state_of events).files → new ≡ files_after event old → new ≡ (state_of all).files
more_files events all event old new more was now =
    now ∙ ap (λ (l : Files). files_after event l) was ∙ sym (ap (λ (s : Replayed). s.files) (more_state events all event more))

pub more_said : (events all : List SiteEvent) (event : SiteEvent) (old new : List ℕ) → More events event all → old ≡ (state_of events).said → new ≡ said_after event old → new ≡ (state_of all).said
more_said events all event old new more was now =
    now ∙ ap (λ (l : List ℕ). said_after event l) was ∙ sym (ap (λ (s : Replayed). s.said) (more_state events all event more))

pub same_files : (events all : List SiteEvent) (old new : Files) → all ≡ events → old ≡ (state_of events).files → new ≡ old → new ≡ (state_of all).files
same_files events all old new is was now = now ∙ was ∙ sym (ap (λ (l : List SiteEvent). (state_of l).files) is)

pub same_said : (events all : List SiteEvent) (old new : List ℕ) → all ≡ events → old ≡ (state_of events).said → new ≡ old → new ≡ (state_of all).said
same_said events all old new is was now = now ∙ was ∙ sym (ap (λ (l : List SiteEvent). (state_of l).said) is)

pub calls_push : (events : List SiteEvent) (event : SiteEvent) → calls_in (events ++ event ∷ []) ≡ calls_in events + (if is_call event then 1 else 0)
unfolding calls_in
calls_push [] event = omega arith
calls_push (e ∷ events) event = ap (λ (n : ℕ). (if is_call e then 1 else 0) + n) (calls_push events event) ∙ omega arith

pub at_most_one : (b : Bool) → (if b then 1 else 0) ≤ 1
at_most_one true = omega arith
at_most_one false = omega arith

pub calls_few : (events : List SiteEvent) → calls_in events ≤ length events
unfolding calls_in
calls_few [] = omega arith
calls_few (e ∷ events) = omega (arith, calls_few events, at_most_one (is_call e))

pub more_steps : (events all : List SiteEvent) (event : SiteEvent) (step : Left → Left → Type 0) → More events event all → ((x : Left) → MayLeave (after event (state_of events)) x → (y : Left) × MayLeave (state_of events) y × step y x) → Steps step (clock_of events) (clock_of all)
more_steps events all event step more leads = subst (λ l. Steps step (clock_of events) (clock_of l)) (sym more) (push_holds events event step leads)

pub prints_none : (bytes : List ℕ) (x : Left) → PrintsPartOf bytes x x
prints_none bytes x = record { files = refl; some = 0; said = sym (append-nil x.said) }

-- one more write
module _ (events all : List SiteEvent) (f at : ℕ) (v : Vec ℕ Global) (ok : Bool) (bytes : List ℕ) (is : v.items ≡ bytes) (more : More events (Wrote f at v ok) all) where
  pub write_steps : Steps (OnDisk f (Torn at (length bytes))) (clock_of events) (clock_of all)
  write_steps = subst (λ (l : List ℕ). Steps (OnDisk f (Torn at (length l))) (clock_of events) (clock_of all)) is (more_steps events all _ _ more (write_leads (state_of events) f at v ok))

write_torn_by : (ok : Bool) (f at : ℕ) (bytes : List ℕ) (old new : Files) → new ≡ (if ok then with_file old f (overlay_bytes at bytes (old f)) else old) → InFile f (Torn at (length bytes)) old new
write_torn_by true f at bytes old new is = subst (λ (l : Files). InFile f (Torn at (length bytes)) old l) (sym is) (in_file_with f _ old _ (torn_overlaid at bytes (old f)))
write_torn_by false f at bytes old new is = subst (λ (l : Files). InFile f (Torn at (length bytes)) old l) (sym is) (in_file_same f _ old (torn_refl at (length bytes) (old f)))

pub write_torn : (ok : Bool) (f at : ℕ) (v : Vec ℕ Global) (bytes : List ℕ) (old new : Files) → v.items ≡ bytes → new ≡ files_after (Wrote f at v ok) old → InFile f (Torn at (length bytes)) old new
write_torn ok f at v bytes old new same is = subst (λ (l : List ℕ). InFile f (Torn at (length l)) old new) same (write_torn_by ok f at v.items old new is)

pub cut_torn : (ok : Bool) (f len : ℕ) (old new : Files) → new ≡ files_after (Shortened f len ok) old → InFile f (Cut len) old new
cut_torn true f len old new is = subst (λ (l : Files). InFile f (Cut len) old l) (sym is) (in_file_with f _ old _ (inr refl))
cut_torn false f len old new is = subst (λ (l : Files). InFile f (Cut len) old l) (sym is) (in_file_same f _ old (inl refl))

pub cut_done : (ok : Bool) (f len : ℕ) (old new : Files) → new ≡ files_after (Shortened f len ok) old → IsTrue ok → new ≡ with_file old f (take len (old f))
cut_done true f len old new is yes' = is
cut_done false f len old new is yes' = absurd (false≢true yes')

pub say_steps : (events all : List SiteEvent) (v : Vec ℕ Global) (ok : Bool) (bytes : List ℕ) → v.items ≡ bytes → More events (Said v ok) all → Steps (PrintsPartOf bytes) (clock_of events) (clock_of all)
say_steps events all v ok bytes is more = subst (λ (l : List ℕ). Steps (PrintsPartOf l) (clock_of events) (clock_of all)) is (more_steps events all _ _ more (say_leads (state_of events) v ok))

pub sync_only : (events all : List SiteEvent) (ok : Bool) (old : Files) → More events (Synced ok) all → old ≡ (state_of events).files → IsTrue ok → Only old (clock_of all)
sync_only events all true old more was yes' x now = subst (λ (l : List SiteEvent). Only (state_of events).files (clock_of l)) (sym more) (synced_only events) x now ∙ sym was
sync_only events all false old more was yes' x now = absurd (false≢true yes')

pub same_file : (files : Files) (f : ℕ) → files ≡ with_file files f (files f)
unfolding with_file
same_file files f = λ i g. one g i
  where
    one : (g : ℕ) → files g ≡ (if g == f then files f else files g)
    one g = grind (arith, nat_tests)
