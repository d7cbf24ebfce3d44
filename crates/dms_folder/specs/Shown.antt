-- What calls do to the files by number.
use Rattle.std.proofs.Common.{ℕ, ◌^◌, ◌<◌, ◌≡◌, ◌≢◌, inl, ⊎_elim, refl, sym, ◌∙◌, ap, subst, List, [], length, Bool, false, IsTrue, Some, None, ◌≤◌, take}
use Rattle.std.specs.declared.option.Option.{Option}
use Rattle.std.proofs.lemmas.List.{take_all}
use Rattle.dms_moments.specs.Moments.{Clock, Now, Steps}
use Rattle.dms_site.specs.Files.{Files, Left, with_file, InFile, OnDisk, Cut, Same, Only}
use Rattle.dms_site.specs.Laws.{with_file_here, with_file_other, in_file_same}
use Rattle.dms_calls.specs.World.{World, Unchanged, OnFile, MakesFile}
use Rattle.dms_calls.specs.Seen.{bytes_of, site_files, seen_clock, left_of, seen_steps, seen_alike, seen_at, seen_at_same}
use Rattle.dms_folder.specs.declared.opened.OpenedFile.{OpenedFile}
use Rattle.dms_calls.specs.Names.{name_of}
use Rattle.dms_folder.specs.NameLaws.{name_inj}
use Rattle.dms_folder.specs.Kept.{KeepsFolder, Untouched}
use Rattle.dms_folder.specs.Keeps.{same_or_not}

-- a file behind a name, where no bytes but those of one file changed
bytes_away : (v w : World) (i : ℕ) → ((j : ℕ) → j ≢ i → w.bytes j ≡ v.bytes j) → (o : Option ℕ) → o ≢ Some i → bytes_of w o ≡ bytes_of v o
bytes_away v w i others None free = refl
bytes_away v w i others (Some j) free = others j (λ e. free (ap (λ (k : ℕ). Some k) e))

-- a made file is as one that isn't there
pub makes_seen : (f i : ℕ) → f < 2 ^ 32 → (v w : World) → MakesFile (name_of f) i v w → site_files name_of w ≡ site_files name_of v
makes_seen f i small v w makes = seen_alike name_of w v (λ g low. ⊎_elim
    (λ e. ⊎_elim
    (λ same. ap (λ o. bytes_of w o) (ap (λ (n : ℕ). w.names (name_of n)) e ∙ same) ∙ bytes_away v w i makes.others (v.names (name_of f)) (makes.free (name_of f)) ∙ ap (λ (n : ℕ). bytes_of v (v.names (name_of n))) (sym e))
    (λ new. ap (λ o. bytes_of w o) (ap (λ (n : ℕ). w.names (name_of n)) e ∙ new.1) ∙ makes.empty ∙ ap (λ o. bytes_of v o) (sym (ap (λ (n : ℕ). v.names (name_of n)) e ∙ new.0)))
    makes.here)
    (λ away. ap (λ o. bytes_of w o) (makes.names (name_of g) (λ e. away (name_inj g f low small e))) ∙ bytes_away v w i makes.others (v.names (name_of g)) (makes.free (name_of g)))
    (same_or_not g f))

left_same : (v w : World) → site_files name_of w ≡ site_files name_of v → w.said ≡ v.said → left_of name_of w ≡ left_of name_of v
left_same v w files said = λ i. record { files = files i; said = said i }

pub makes_steps : {a b : Clock World} (f i : ℕ) → f < 2 ^ 32 → Steps (MakesFile (name_of f) i) a b → Steps Same (seen_clock name_of a) (seen_clock name_of b)
makes_steps f i small step = seen_steps name_of step (λ v w now makes. left_same v w (makes_seen f i small v w makes) makes.said)

pub unchanged_steps : {a b : Clock World} → Steps Unchanged a b → Steps Same (seen_clock name_of a) (seen_clock name_of b)
unchanged_steps step = seen_steps name_of step (λ v w now same. ap (λ (w : World). left_of name_of w) same)

-- one file is changed, and no name
module _ (f i : ℕ) (small : f < 2 ^ 32) {step : List ℕ → List ℕ → Type 0} (none : (l : List ℕ) → step l l) where
  pub on_file_seen : (v w : World) → ((g : ℕ) → g < 2 ^ 32 → v.names (name_of g) ≡ Some i → g ≡ f) → OnFile i step v w → InFile f step (site_files name_of v) (site_files name_of w)
  on_file_seen v w own moved = record {
    here = subst (λ (l : List ℕ). step l (site_files name_of w f)) (sym (seen_at name_of v f small)) (subst (λ (l : List ℕ). step (bytes_of v (v.names (name_of f))) l) (sym (seen_at name_of w f small ∙ ap (λ o. bytes_of w o) (moved.names (name_of f)))) (behind (v.names (name_of f))));
    others = λ g other. seen_at_same name_of w v g (λ low. ap (λ o. bytes_of w o) (moved.names (name_of g)) ∙ bytes_away v w i moved.others (v.names (name_of g)) (λ e. other (own g low e)));
  }
    where
      behind : (o : Option ℕ) → step (bytes_of v o) (bytes_of w o)
      behind None = none []
      behind (Some j) = ⊎_elim
          (λ e. subst (λ (j : ℕ). step (v.bytes j) (w.bytes j)) (sym e) moved.here)
          (λ other. subst (λ (l : List ℕ). step (v.bytes j) l) (sym (moved.others j other)) (none (v.bytes j)))
          (same_or_not j i)

  pub on_file_steps : {a b : Clock World} → ((v : World) → Now a v → (g : ℕ) → g < 2 ^ 32 → v.names (name_of g) ≡ Some i → g ≡ f) → Steps (OnFile i step) a b → Steps (OnDisk f step) (seen_clock name_of a) (seen_clock name_of b)
  on_file_steps own call = seen_steps name_of call (λ v w now moved. record { files = on_file_seen v w (own v now) moved; said = moved.said })

-- one file got these bytes, and the others are the same
pub in_file_is : {step : List ℕ → List ℕ → Type 0} (f : ℕ) (old new : Files) (bytes : List ℕ) → InFile f step old new → new f ≡ bytes → new ≡ with_file old f bytes
in_file_is f old new bytes one is = λ i g. each g i
  where
    each : (g : ℕ) → new g ≡ with_file old f bytes g
    each g = ⊎_elim
        (λ e. ap (λ (g : ℕ). new g) e ∙ is ∙ sym (with_file_here old f bytes) ∙ ap (λ (g : ℕ). with_file old f bytes g) (sym e))
        (λ other. one.others g other ∙ sym (with_file_other old f bytes g other))
        (same_or_not g f)

-- All is stable where all names and all open files are.
pub only_seen : {H : Type 0} {file : H → ℕ} {opened : List (OpenedFile H)} {made synced : Bool} {w : World} {c : Clock World} → KeepsFolder file opened made synced w c
    → made ≡ false → IsTrue synced → ((n : ℕ) → Untouched opened n) → Only (site_files name_of w) (seen_clock name_of c)
unfolding seen_clock
only_seen {w} kept named known un x now =
    let v = now.0 in
    ap (λ (l : Left). l.files) now.2 ∙ seen_alike name_of v w (λ g low. ap (λ o. bytes_of v o) (kept.names named v now.1 (name_of g)) ∙ stable g low (w.names (name_of g)) refl)
  where
    stable : (g : ℕ) → g < 2 ^ 32 → (o : Option ℕ) → w.names (name_of g) ≡ o → bytes_of now.0 o ≡ bytes_of w o
    stable g low None is = refl
    stable g low (Some i) is = kept.bytes known g low (un g) i is now.0 now.1

-- a call that changes nothing is a step on a file that may do nothing
pub quiet_steps : {a b : Clock World} (f : ℕ) {step : List ℕ → List ℕ → Type 0} → ((l : List ℕ) → step l l) → Steps Unchanged a b → Steps (OnDisk f step) (seen_clock name_of a) (seen_clock name_of b)
quiet_steps f {step} none call = seen_steps name_of call (λ v w now same.
    subst (λ (w : World). OnDisk f step (left_of name_of v) (left_of name_of w)) (sym same) (record { files = in_file_same f step (site_files name_of v) (none (site_files name_of v f)); said = refl }))

-- a cut to a length that the file doesn't have does nothing
pub cut_none : (f len : ℕ) (files : Files) → length (files f) ≤ len → files ≡ with_file files f (take len (files f))
cut_none f len files short = in_file_is f files files (take len (files f)) (in_file_same f (Cut len) files (inl refl)) (sym (take_all len (files f) short))

-- the file behind a name
pub seen_leads : (w : World) (f i : ℕ) → f < 2 ^ 32 → w.names (name_of f) ≡ Some i → site_files name_of w f ≡ w.bytes i
seen_leads w f i small leads = seen_at name_of w f small ∙ ap (λ o. bytes_of w o) leads

pub seen_absent : (w : World) (f : ℕ) → f < 2 ^ 32 → w.names (name_of f) ≡ None → site_files name_of w f ≡ []
seen_absent w f small absent = seen_at name_of w f small ∙ ap (λ o. bytes_of w o) absent
