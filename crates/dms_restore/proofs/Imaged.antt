-- Blocks with a change since the last Control, among sealed entries and those that wait.
use Rattle.std.proofs.Common.{ℕ, ◌≡◌, inl, inr, Bool, true, false, List, [], ◌∷◌, ◌++◌, None, refl, sym, ◌∙◌, ap, subst, append_assoc}
use Rattle.std.specs.Prelude.{◌||◌}
use Rattle.std.proofs.lemmas.Bool.{cases_Bool, true≢false}
use Rattle.dms_history.specs.Events.{Event, change, quiet}
use Rattle.dms_history.specs.Images.{is_at, last_after}
use Rattle.dms_history.specs.Lists.{has, after_last}
use Rattle.dms_history.specs.Places.{is_control}
use Rattle.dms_history.specs.Ranges.{Logged, event, range, all_changes, is_control_logged, is_image, live_logged}
use Rattle.dms_history.specs.LawsOfRanges.{HasImages}
use Rattle.dms_history.specs.Schemas.{Parts, no_parts, after_entry}
use Rattle.dms_history.specs.Entries.{Entry, schema_part, image, byte_range, quiet_point, control_point, begin_restore}
use Rattle.dms_history.specs.EntryEvents.{logged_from, events_in, live_of}
use Rattle.dms_history.proofs.AtPoints.{or_no}
use Rattle.dms_history.proofs.Order.{append_none}
use Rattle.dms_history.proofs.Turns.{left_out}
use Rattle.dms_running.specs.Telling.{Telling, IsTelling}
use Rattle.dms_running.specs.Running.{State, entries_now, IsPlainEntry, AllPlain, IsRunning, IsAnOutcome, IsLogged, IsChanged}
use Rattle.dms_running.proofs.Appending.{now_runs}
use Rattle.dms_restore.proofs.Changes.{live_changes, live_more}
use Rattle.dms_restore.proofs.Patched.{late_changes, has_more, behind_more}

module _ (f k : ℕ) where
  -- among live entries an Image of the block stands behind the last Control
  abbrev pub late_has : List Logged → Bool
  late_has ls = has (is_image f k) (after_last is_control_logged ls)

  abbrev pub imaged_in : List Entry → Bool
  imaged_in es = late_has (live_logged [] (events_in es))

  -- by the changes that they mean
  last_late : (es : List Entry) → HasImages (live_logged [] (events_in es)) → last_after f k (after_last is_control (live_of es)) ≡ last_after f k (all_changes (after_last is_control_logged (live_logged [] (events_in es))))
  last_late es images = ap (λ (l : List Event). last_after f k (after_last is_control l)) (live_changes es) ∙ ap (last_after f k) (late_changes (live_logged [] (events_in es)) images)

  none_imaged : (es : List Entry) → HasImages (live_logged [] (events_in es)) → last_after f k (after_last is_control (live_of es)) ≡ None → imaged_in es ≡ false
  none_imaged es images none = (left_out (after_last is_control_logged (live_logged [] (events_in es))) f k).1 (sym (last_late es images) ∙ none)

  not_imaged : (es : List Entry) → HasImages (live_logged [] (events_in es)) → imaged_in es ≡ false → last_after f k (after_last is_control (live_of es)) ≡ None
  not_imaged es images off = last_late es images ∙ (left_out (after_last is_control_logged (live_logged [] (events_in es))) f k).0 off

  -- ---- plain entries behind others

  one_behind : (ls : List Logged) (x : Logged) → is_control_logged x ≡ false → is_image f k x ≡ false → late_has (ls ++ x ∷ []) ≡ late_has ls
  one_behind ls x plain off =
      ap (λ (l : List Logged). has (is_image f k) l) (behind_more ls x plain) ∙ has_more (is_image f k) (after_last is_control_logged ls) x
      ∙ ap (λ t. late_has ls || t) off ∙ or_off (late_has ls)
    where
      or_off : (b : Bool) → (b || false) ≡ b
      or_off true = refl
      or_off false = refl

  one_more : (es : List Entry) (e : Entry) (p : Parts) → IsPlainEntry e → has (is_image f k) (logged_from p (e ∷ [])) ≡ false → imaged_in (es ++ e ∷ []) ≡ imaged_in es
  one_more es (schema_part part parts bytes) p plain off = absurd plain
  one_more es (image g b before after) p plain off =
      ap late_has (live_more es (image g b before after) (event (change g b before after)) refl) ∙ one_behind (live_logged [] (events_in es)) (event (change g b before after)) refl (or_no (is_at f k g b) false off).0
  one_more es (byte_range g b place bytes) p plain off = ap late_has (live_more es (byte_range g b place bytes) (range g b place bytes) refl) ∙ one_behind (live_logged [] (events_in es)) (range g b place bytes) refl refl
  one_more es (quiet_point n) p plain off = ap late_has (live_more es (quiet_point n) (event (quiet n)) refl) ∙ one_behind (live_logged [] (events_in es)) (event (quiet n)) refl refl
  one_more es (control_point n next counts) p plain off = absurd plain
  one_more es (begin_restore n kind) p plain off = absurd plain

  -- the first of some entries, and the others
  parts_off : (p : Parts) (e : Entry) (es : List Entry) → IsPlainEntry e → has (is_image f k) (logged_from p (e ∷ es)) ≡ false
      → (has (is_image f k) (logged_from p (e ∷ [])) ≡ false) × (has (is_image f k) (logged_from (after_entry p e) es) ≡ false)
  parts_off p (schema_part part parts bytes) es plain off = absurd plain
  parts_off p (image g b before after) es plain off =
      let both = or_no (is_at f k g b) (has (is_image f k) (logged_from (after_entry p (image g b before after)) es)) off in
      (ap (λ t. t || false) both.0, both.1)
  parts_off p (byte_range g b place bytes) es plain off = (refl, off)
  parts_off p (quiet_point n) es plain off = (refl, off)
  parts_off p (control_point n next counts) es plain off = absurd plain
  parts_off p (begin_restore n kind) es plain off = absurd plain

  plain_behind : (es ws : List Entry) (p : Parts) → AllPlain ws → has (is_image f k) (logged_from p ws) ≡ false → imaged_in (es ++ ws) ≡ imaged_in es
  plain_behind es [] p plain off = ap imaged_in (append_none es)
  plain_behind es (e ∷ ws) p plain off =
      let parts = parts_off p e ws plain.0 off in
      ap imaged_in (sym (append_assoc es (e ∷ []) ws)) ∙ plain_behind (es ++ e ∷ []) ws (after_entry p e) plain.1 parts.1 ∙ one_more es e p plain.0 parts.0

-- ---- of a database that runs

module _ (t : Telling) (telling : IsTelling t) (a : State) (r : IsRunning t a) (read : IsAnOutcome a) where
  all_images : HasImages (live_logged [] (events_in (entries_now t a)))
  all_images = (now_runs t telling a r read).stands.kept.images

  sealed_images : HasImages (live_logged [] (events_in (t.entries a.files)))
  sealed_images = subst (λ (l : List Entry). HasImages (live_logged [] (events_in l))) (append_none (t.entries a.files)) (r.each 0 read.0 read.1).stands.kept.images

  module _ (f k : ℕ) where
    -- where no Image of the block waits, a sealed entry since the last Control changes it
    pub sealed_tells : has (is_image f k) (events_in a.waiting) ≡ false → IsChanged t a f k → IsLogged t a.files f k
    sealed_tells off changed none = changed (not_imaged f k (entries_now t a) all_images (plain_behind f k (t.entries a.files) a.waiting no_parts r.plain off ∙ none_imaged f k (t.entries a.files) sealed_images none))

    pub changed_has : IsChanged t a f k → imaged_in f k (entries_now t a) ≡ true
    changed_has changed = elim (cases_Bool (imaged_in f k (entries_now t a))) [
      | inl on ↦ on
      | inr off ↦ absurd (changed (not_imaged f k (entries_now t a) all_images off))
    ]

    pub image_changes : imaged_in f k (entries_now t a) ≡ true → IsChanged t a f k
    image_changes on none = true≢false (sym on ∙ none_imaged f k (entries_now t a) all_images none)
