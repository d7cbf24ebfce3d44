-- One entry more is noted.
use Rattle.std.specs.Prelude.{◌||◌, nat_le, is_some}
use Rattle.std.proofs.Common.{ℕ, ◌+◌, ◌<◌, ◌≤◌, ◌≡◌, inl, inr, Bool, true, false, cond, List, [], ◌∷◌, ◌++◌, length, drop, get_or, Option, Some, None, refl, sym, ◌∙◌, ap}
use Rattle.std.specs.Ordering.{is_eq}
use Rattle.dms_site.specs.Files as site
use Rattle.dms_site.specs.Files.{Files}
use Rattle.dms_history.specs.Events.{BlockBytes}
use Rattle.dms_history.specs.Images.{is_at}
use Rattle.dms_history.specs.Ranges.{Logged, patch_bytes}
use Rattle.dms_history.specs.declared.event.Row.{Row}
use Rattle.dms_history.proofs.Picks.{place_cases}
use Rattle.dms_restore.specs.declared.live.AuditSpot.{AuditSpot}
use Rattle.dms_restore.specs.declared.live.PatchAt.{PatchAt}
use Rattle.dms_restore.specs.declared.live.LiveEntry.{LiveEntry}
use Rattle.dms_restore.specs.declared.live.LiveEntry.TheVariants.{Changed, Ranged, Quiet, Controlled}
use Rattle.dms_restore.specs.declared.naming.NamedSpot.{NamedSpot}
use Rattle.dms_restore.specs.Chosen.{place_from, is_naming}
use Rattle.dms_restore.specs.LiveEntries.{patch_in, logged_at, logged_live}
use Rattle.dms_restore.specs.Named.{block_cmp, Spots, spot_of, Noted, noted_of, noted_in, noted_by, noted_from, undone_by, undone, laid_over, laid_all, stands_at}
use Rattle.dms_restore.proofs.RunLoops.{drop_at, drop_end}
use Rattle.dms_restore.proofs.Spots.{no_entry, noted_set, key_is, where_on, other_noted}

-- one block is noted anew, and each other stays
pub noted_at_set : (files : Files) (old new : Spots) (g k : ℕ) (v : NamedSpot) (one : Noted → Noted) → ((f b : ℕ) → spot_of new f b ≡ cond (is_eq (block_cmp (g, k) (f, b))) (Some v) (spot_of old f b)) → noted_of files (Some v) ≡ one (noted_in files old g k)
    → (f b : ℕ) → noted_in files new f b ≡ cond (is_at f b g k) (one (noted_in files old f b)) (noted_in files old f b)
noted_at_set files old new g k v one set is f b =
    noted_set files f b g k (spot_of new f b) (Some v) (spot_of old f b) (set f b)
    ∙ where_on (is_at f b g k) (noted_of files (Some v)) (one (noted_in files old f b)) (noted_in files old f b) (λ on. is ∙ ap (λ o. one (noted_of files o)) (sym (key_is old f b g k on)))

-- ---- bytes laid over a block

laid_more : (files : Files) (block : BlockBytes) (ps : List PatchAt) (p : PatchAt) → laid_all files block (ps ++ p ∷ []) ≡ patch_bytes p.place (patch_in files p) (laid_all files block ps)
laid_more files block [] p = refl
laid_more files block (q ∷ ps) p = laid_more files (patch_bytes q.place (patch_in files q) block) ps p

pub laid_is : (files : Files) (was : NamedSpot) (s : AuditSpot) (p : PatchAt) (names r : Bool) (items : List PatchAt) → was.spot ≡ Some s → items ≡ s.patches.items ++ p ∷ [] → r ≡ was.named || names → (n : Noted) → n.stands ≡ Some (laid_all files (site.range s.at 1024 (files s.audit)) items) → n ≡ record { stands = n.stands; named = r }
    → n ≡ laid_over names p.place (patch_in files p) (noted_of files (Some was))
laid_is files was s p names r items is are named n stands whole =
    let block = site.range s.at 1024 (files s.audit) in
    whole
    ∙ (λ i. record { stands = stands i; named = named i })
    ∙ ap (λ (l : BlockBytes). record { stands = Some l; named = was.named || names }) (ap (laid_all files block) are ∙ laid_more files block s.patches.items p)
    ∙ ap (λ o. laid_over names p.place (patch_in files p) (record { stands = stands_at files o; named = was.named })) (sym is)

-- a block that stands has a place
pub named_some : (files : Files) (t : Bool) (o : Option AuditSpot) → t || is_some o ≡ t || is_some (stands_at files o)
named_some files t None = refl
named_some files t (Some s) = refl

-- ---- which entries name a block

pub naming_is : (files : Files) (rows : List Row) (of_rows of_others i : ℕ) (e : LiveEntry) (f b : ℕ) (n : Noted)
    → noted_by f b (is_naming rows of_rows of_others i e) n (logged_at files e) ≡ noted_by f b (nat_le (place_from rows of_rows of_others f b) i) n (logged_at files e)
naming_is files rows of_rows of_others i (Changed c) f b n = elim (place_cases f b c.file c.block) [
  | inl at ↦ λ j. noted_by f b (nat_le (place_from rows of_rows of_others (at.0 j) (at.1 j)) i) n (logged_at files (Changed c))
  | inr apart ↦ other_noted f b c.file c.block _ _ n apart.1
]
naming_is files rows of_rows of_others i (Ranged r) f b n = elim (place_cases f b r.file r.block) [
  | inl at ↦ λ j. noted_by f b (nat_le (place_from rows of_rows of_others (at.0 j) (at.1 j)) i) n (logged_at files (Ranged r))
  | inr apart ↦ other_noted f b r.file r.block _ _ n apart.1
]
naming_is files rows of_rows of_others i (Quiet m) f b n = refl
naming_is files rows of_rows of_others i (Controlled c) f b n = refl

-- ---- the loops

pub redo_step : (files : Files) (f b k i : ℕ) (cur next : Noted) (es : List LiveEntry) (end : Noted) → i < length es → next ≡ noted_by f b (nat_le k i) cur (logged_at files (get_or es i no_entry)) → noted_from f b k i cur (logged_live files (drop i es)) ≡ end
    → noted_from f b k (i + 1) next (logged_live files (drop (i + 1) es)) ≡ end
redo_step files f b k i cur next es end low is so =
    ap (λ n. noted_from f b k (i + 1) n (logged_live files (drop (i + 1) es))) is
    ∙ sym (ap (λ (l : List LiveEntry). noted_from f b k i cur (logged_live files l)) (drop_at es i no_entry low)) ∙ so

pub redo_end : (files : Files) (f b k i : ℕ) (cur : Noted) (es : List LiveEntry) (end : Noted) → length es ≤ i → noted_from f b k i cur (logged_live files (drop i es)) ≡ end → cur ≡ end
redo_end files f b k i cur es end le so = sym (ap (λ (l : List LiveEntry). noted_from f b k i cur (logged_live files l)) (drop_end es i le)) ∙ so

-- of no block of the rows
abbrev pub undone_other : Bool → ℕ → ℕ → Noted → List Logged → Noted
undone_other named f b n xs = cond named n (undone f b n xs)

pub undo_step : (files : Files) (named : Bool) (f b i : ℕ) (cur next : Noted) (es : List LiveEntry) (end : Noted) → i < length es → next ≡ cond named cur (undone_by f b cur (logged_at files (get_or es i no_entry))) → undone_other named f b cur (logged_live files (drop i es)) ≡ end
    → undone_other named f b next (logged_live files (drop (i + 1) es)) ≡ end
undo_step files named f b i cur next es end low is so = go named is ∙ sym (ap (λ (l : List LiveEntry). undone_other named f b cur (logged_live files l)) (drop_at es i no_entry low)) ∙ so
  where
    x : Logged
    x = logged_at files (get_or es i no_entry)

    xs : List Logged
    xs = logged_live files (drop (i + 1) es)

    go : (t : Bool) → next ≡ cond t cur (undone_by f b cur x) → undone_other t f b next xs ≡ undone_other t f b cur (x ∷ xs)
    go true same = same
    go false same = ap (λ n. undone f b n xs) same

pub undo_end : (files : Files) (named : Bool) (f b i : ℕ) (cur : Noted) (es : List LiveEntry) (end : Noted) → length es ≤ i → undone_other named f b cur (logged_live files (drop i es)) ≡ end → cur ≡ end
undo_end files named f b i cur es end le so = go named ∙ sym (ap (λ (l : List LiveEntry). undone_other named f b cur (logged_live files l)) (drop_end es i le)) ∙ so
  where
    go : (t : Bool) → cur ≡ undone_other t f b cur []
    go true = refl
    go false = refl
