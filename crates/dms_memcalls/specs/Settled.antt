-- An outcome in which a file, or all names, is as it is seen is an outcome too.
use Rattle.std.proofs.Common.{ℕ, ◌≡◌, ◌≢◌, ◌⊎◌, inl, inr, true, false, List, [], ◌∷◌, length, refl, sym, ◌∙◌, ap, subst}
use Rattle.std.proofs.lemmas.Bool.{cases_eq}
use Rattle.dms_site.specs.Files.{Files, with_file}
use Rattle.dms_site.specs.Laws.{with_file_here, with_file_other, torn_overlaid, torn_refl}
use Rattle.dms_calls.specs.World.{World, OnFile, Speaks}
use Rattle.dms_memcalls.specs.declared.event.CallEvent.{CallEvent}
use Rattle.dms_memcalls.specs.declared.event.CallEvent.TheVariants.{Looked, Made, Wrote, Shortened, Lengthened, Synced, SyncedNames, Printed, Found, Recalled}
use Rattle.dms_memcalls.specs.NameLaws.{adds_seen}
use Rattle.dms_memcalls.specs.Folders.{FolderSeen, nothing, with_made, with_bytes, world_of}
use Rattle.dms_memcalls.specs.Events.{seen_after}
use Rattle.dms_memcalls.specs.Outcomes.{Adds, EventMakes, seen_of, WorldMayBeLeft}
use Rattle.dms_memcalls.specs.Steady.{fits_seen}

-- a world in which one file has these bytes
abbrev pub put : ℕ → List ℕ → World → World
put f bytes w = record { names = w.names; bytes = with_file w.bytes f bytes; said = w.said }

-- a world with the names that are seen
abbrev pub with_names : FolderSeen → World → World
with_names s w = record { names = (world_of s).names; bytes = w.bytes; said = w.said }

module _ (f : ℕ) where
  settle_added : (name bytes : List ℕ) (i : ℕ) (old new : List ℕ) (u v : World) → Adds name bytes i u v → (f ≡ i → new ≡ bytes) → (f ≢ i → new ≡ old) → Adds name bytes i (put f old u) (put f new v)
  settle_added name bytes i old new u v adds here away = record {
    holds = elim (cases_eq f i) [
      | inl e ↦ ap (λ (k : ℕ). with_file v.bytes f new k) (sym e) ∙ with_file_here v.bytes f new ∙ here e
      | inr other ↦ with_file_other v.bytes f new i (λ e. other (sym e)) ∙ adds.holds
    ];
    others = λ j apart. elim (cases_eq f j) [
      | inl e ↦
          ap (λ (k : ℕ). with_file v.bytes f new k) (sym e) ∙ with_file_here v.bytes f new ∙ away (λ same. apart (sym e ∙ same)) ∙ sym (with_file_here u.bytes f old) ∙ ap (λ (k : ℕ). with_file u.bytes f old k) e
      | inr other ↦ with_file_other v.bytes f new j (λ e. other (sym e)) ∙ adds.others j apart ∙ sym (with_file_other u.bytes f old j (λ e. other (sym e)))
    ];
    free = adds.free;
    here = adds.here;
    names = adds.names;
    said = adds.said;
  }

  settle_file : (i : ℕ) (step : List ℕ → List ℕ → Type 0) (old new : List ℕ) (u v : World) → OnFile i step u v → (f ≡ i → step old new) → (f ≢ i → new ≡ old) → OnFile i step (put f old u) (put f new v)
  settle_file i step old new u v on here away = record {
    here = elim (cases_eq f i) [
      | inl e ↦
          let was : with_file u.bytes f old i ≡ old = ap (λ (k : ℕ). with_file u.bytes f old k) (sym e) ∙ with_file_here u.bytes f old in
          let now : with_file v.bytes f new i ≡ new = ap (λ (k : ℕ). with_file v.bytes f new k) (sym e) ∙ with_file_here v.bytes f new in
          subst (λ (l : List ℕ). step l (with_file v.bytes f new i)) (sym was) (subst (λ (l : List ℕ). step old l) (sym now) (here e))
      | inr other ↦
          let was : with_file u.bytes f old i ≡ u.bytes i = with_file_other u.bytes f old i (λ e. other (sym e)) in
          let now : with_file v.bytes f new i ≡ v.bytes i = with_file_other v.bytes f new i (λ e. other (sym e)) in
          subst (λ (l : List ℕ). step l (with_file v.bytes f new i)) (sym was) (subst (λ (l : List ℕ). step (u.bytes i) l) (sym now) on.here)
    ];
    others = λ j apart. elim (cases_eq f j) [
      | inl e ↦
          ap (λ (k : ℕ). with_file v.bytes f new k) (sym e) ∙ with_file_here v.bytes f new ∙ away (λ same. apart (sym e ∙ same)) ∙ sym (with_file_here u.bytes f old) ∙ ap (λ (k : ℕ). with_file u.bytes f old k) e
      | inr other ↦ with_file_other v.bytes f new j (λ e. other (sym e)) ∙ on.others j apart ∙ sym (with_file_other u.bytes f old j (λ e. other (sym e)))
    ];
    names = on.names;
    said = on.said;
  }

  settle_spoken : (text old : List ℕ) (u v : World) → Speaks text u v → Speaks text (put f old u) (put f old v)
  settle_spoken text old u v speaks = record { names = speaks.names; bytes = ap (λ (l : Files). with_file l f old) speaks.bytes; some = speaks.some; said = speaks.said }

  -- the bytes of a file that was written, where it is this one, and where not
  written_here : (s : FolderSeen) (i : ℕ) (bytes : List ℕ) → f ≡ i → (with_bytes s i bytes).bytes f ≡ bytes
  written_here s i bytes e = ap (λ (k : ℕ). with_file s.bytes i bytes k) e ∙ with_file_here s.bytes i bytes

  settle_changed : (s : FolderSeen) (i : ℕ) (step : List ℕ → List ℕ → Type 0) (bytes : List ℕ) (u v : World) → OnFile i step u v → step (s.bytes i) bytes → OnFile i step (put f (s.bytes f) u) (put f ((with_bytes s i bytes).bytes f) v)
  settle_changed s i step bytes u v on here = settle_file i step (s.bytes f) _ u v on
      (λ e. subst (λ (l : List ℕ). step l ((with_bytes s i bytes).bytes f)) (ap s.bytes (sym e)) (subst (λ (l : List ℕ). step (s.bytes i) l) (sym (written_here s i bytes e)) here))
      (λ other. with_file_other s.bytes i bytes f other)

  settle_kept : (s : FolderSeen) (i : ℕ) (step : List ℕ → List ℕ → Type 0) (u v : World) → OnFile i step u v → ((l : List ℕ) → step l l) → OnFile i step (put f (s.bytes f) u) (put f (s.bytes f) v)
  settle_kept s i step u v on refls = settle_file i step (s.bytes f) (s.bytes f) u v on (λ e. refls (s.bytes f)) (λ other. refl)

  settle_step : (s : FolderSeen) (e : CallEvent) (u v : World) → EventMakes s e u v → EventMakes s e (put f (s.bytes f) u) (put f ((seen_after e s).bytes f) v)
  settle_step s (Looked ok) u v step = ap (put f (s.bytes f)) step
  settle_step s (Made name ok) u v step = settle_added name.items [] s.count (s.bytes f) _ u v step (written_here s s.count []) (λ other. with_file_other s.bytes s.count [] f other)
  settle_step s (Wrote i at bytes true) u v step = settle_changed s i _ _ u v step (torn_overlaid at bytes.items (s.bytes i))
  settle_step s (Wrote i at bytes false) u v step = settle_kept s i _ u v step (torn_refl at (length bytes.items))
  settle_step s (Shortened i len true) u v step = settle_changed s i _ _ u v step (inr refl)
  settle_step s (Shortened i len false) u v step = settle_kept s i _ u v step (λ l. inl refl)
  settle_step s (Lengthened i len true) u v step = settle_changed s i _ _ u v step (torn_overlaid len [] (s.bytes i))
  settle_step s (Lengthened i len false) u v step = settle_kept s i _ u v step (torn_refl len 0)
  settle_step s (Synced i ok) u v step = (
    ap (put f (s.bytes f)) step.0,
    λ done. elim (cases_eq f i) [
      | inl e ↦ ap (λ (k : ℕ). with_file v.bytes f (s.bytes f) k) (sym e) ∙ with_file_here v.bytes f (s.bytes f) ∙ ap s.bytes e
      | inr other ↦ with_file_other v.bytes f (s.bytes f) i (λ e. other (sym e)) ∙ step.1 done
    ],
  )
  settle_step s (SyncedNames ok) u v step = (ap (put f (s.bytes f)) step.0, step.1)
  settle_step s (Printed text true) u v step = settle_spoken text.items (s.bytes f) u v step
  settle_step s (Printed text false) u v step = settle_spoken text.items (s.bytes f) u v step
  settle_step s (Found name bytes) u v step = settle_added name.items bytes.items s.count (s.bytes f) _ u v step (written_here s s.count bytes.items) (λ other. with_file_other s.bytes s.count bytes.items f other)
  settle_step s (Recalled text) u v step = settle_spoken text.items (s.bytes f) u v step

  -- an outcome in which this file is as it is seen
  pub world_settles : (past : List CallEvent) (v : World) → WorldMayBeLeft past v → WorldMayBeLeft past (put f ((seen_of past).bytes f) v)
  world_settles [] v may = subst (λ (w : World). put f [] w ≡ world_of nothing) (sym may) (λ i. record { names = (world_of nothing).names; bytes = λ k. none k i; said = [] })
    where
      none : (k : ℕ) → with_file (λ j. []) f [] k ≡ []
      none k = elim (cases_eq f k) [
        | inl e ↦ ap (λ (j : ℕ). with_file (λ j. []) f [] j) (sym e) ∙ with_file_here (λ j. []) f []
        | inr other ↦ with_file_other (λ j. []) f [] k (λ e. other (sym e))
      ]
  world_settles (e ∷ past) v may = (
    record { said = may.0.said; one_name = may.0.one_name },
    (put f ((seen_of past).bytes f) may.1.0, world_settles past may.1.0 may.1.1, settle_step (seen_of past) e may.1.0 v may.1.2),
  )

rename_added : (s : FolderSeen) (name given bytes : List ℕ) (u v : World) → (given ≡ name) ⊎ (given ≡ []) → Adds name bytes s.count u v → Adds name bytes s.count (with_names s u) (with_names (with_made s given bytes) v)
rename_added s name given bytes u v which adds =
    let seen = adds_seen s name given bytes which in
    record { holds = adds.holds; others = adds.others; free = seen.free; here = seen.here; names = seen.names; said = adds.said }

rename_file : (s : FolderSeen) (i : ℕ) (step : List ℕ → List ℕ → Type 0) (u v : World) → OnFile i step u v → OnFile i step (with_names s u) (with_names s v)
rename_file s i step u v on = record { here = on.here; others = on.others; names = λ m. refl; said = on.said }

rename_spoken : (s : FolderSeen) (text : List ℕ) (u v : World) → Speaks text u v → Speaks text (with_names s u) (with_names s v)
rename_spoken s text u v speaks = record { names = refl; bytes = speaks.bytes; some = speaks.some; said = speaks.said }

rename_step : (s : FolderSeen) (e : CallEvent) (u v : World) → EventMakes s e u v → EventMakes s e (with_names s u) (with_names (seen_after e s) v)
rename_step s (Looked ok) u v step = ap (with_names s) step
rename_step s (Made name true) u v step = rename_added s name.items name.items [] u v (inl refl) step
rename_step s (Made name false) u v step = rename_added s name.items [] [] u v (inr refl) step
rename_step s (Wrote i at bytes true) u v step = rename_file s i _ u v step
rename_step s (Wrote i at bytes false) u v step = rename_file s i _ u v step
rename_step s (Shortened i len true) u v step = rename_file s i _ u v step
rename_step s (Shortened i len false) u v step = rename_file s i _ u v step
rename_step s (Lengthened i len true) u v step = rename_file s i _ u v step
rename_step s (Lengthened i len false) u v step = rename_file s i _ u v step
rename_step s (Synced i ok) u v step = (ap (with_names s) step.0, step.1)
rename_step s (SyncedNames ok) u v step = (ap (with_names s) step.0, λ done m. refl)
rename_step s (Printed text true) u v step = rename_spoken s text.items u v step
rename_step s (Printed text false) u v step = rename_spoken s text.items u v step
rename_step s (Found name bytes) u v step = rename_added s name.items name.items bytes.items u v (inl refl) step
rename_step s (Recalled text) u v step = rename_spoken s text.items u v step

-- an outcome in which all names are as they are seen
pub settled_names : (past : List CallEvent) (v : World) → WorldMayBeLeft past v → WorldMayBeLeft past (with_names (seen_of past) v)
settled_names [] v may = subst (λ (w : World). with_names nothing w ≡ world_of nothing) (sym may) refl
settled_names (e ∷ past) v may = (
  record { said = may.0.said; one_name = (fits_seen (seen_after e (seen_of past))).one_name },
  (with_names (seen_of past) may.1.0, settled_names past may.1.0 may.1.1, rename_step (seen_of past) e may.1.0 v may.1.2),
)
