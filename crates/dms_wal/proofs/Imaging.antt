-- The set of the blocks with an Image since the last Control, from entry to entry.
use Rattle.std.specs.Prelude.{◌||◌, IsOk, OnOk}
use Rattle.std.specs.declared.result.Result.{Result}
use Rattle.std.specs.declared.result.Result.TheVariants.{Ok, Err}
use Rattle.std.proofs.Common.{ℕ, ◌<◌, ◌≡◌, inl, inr, Bool, true, false, cond, Option, List, [], ◌∷◌, ◌++◌, append_assoc, length, refl, sym, ◌∙◌, ap, subst, arith}
use Rattle.std.proofs.lemmas.Bool.{false≢true, or_cases, true≢false}
use Rattle.dms_moments.specs.Moments.{Clock}
use Rattle.dms_site.specs.Files.{Files, Left, stored_of}
use Rattle.dms_block.specs.Content.{raise_count}
use Rattle.dms_history.specs.Events.{change, quiet, control}
use Rattle.dms_history.specs.Images.{is_at}
use Rattle.dms_history.specs.Lists.{has, after_last}
use Rattle.dms_history.specs.Ranges.{Logged, event, range, is_control_logged, is_image, live_logged, live_step}
use Rattle.dms_history.specs.Entries.{Kind, how_of, Entry, image, byte_range, quiet_point, control_point, begin_restore, by_back_out, counts_in}
use Rattle.dms_history.specs.EntryEvents.{said_by, events_in}
use Rattle.dms_history.specs.Schemas.{is_whole, no_parts, parts_from, schema_entries}
use Rattle.dms_history.specs.declared.event.FileCount.{FileCount}
use Rattle.dms_history.proofs.Picks.{place_cases}
use Rattle.dms_audfile.specs.declared.audit_end.AuditEnd.{AuditEnd}
use Rattle.dms_audrec.specs.Bodies.{bodies}
use Rattle.dms_restore.specs.Counts.{count_of, file_counts}
use Rattle.dms_history.specs.Events.{Event, begin}
use Rattle.dms_history.specs.History.{History, history}
use Rattle.dms_history.specs.Lists.{until_first}
use Rattle.dms_history.specs.Places.{is_point}
use Rattle.dms_history.specs.EntryEvents.{events, live_of}
use Rattle.dms_history.proofs.Sealed.{begin_sealed, one_more_event}
use Rattle.dms_running.specs.Running.{IsPlainEntry}
use Rattle.dms_running.proofs.Plain.{plain_grows}
use Rattle.dms_running.proofs.Controlled.{whole_is}
use Rattle.dms_restore.specs.Dumped.{dumps_of}
use Rattle.dms_restore.proofs.Laid.{some_bodies}
use Rattle.dms_restore.specs.TailTables.{EndsRestore, IsUnchangedSince, IsAtControl, IsAtLastControl}
use Rattle.dms_restore.proofs.AtControls.{control_at, ended_at, at_more}
use Rattle.dms_restore.specs.Logging.{LogView, view, entries}
use Rattle.dms_restore.proofs.Changes.{live_more}
use Rattle.dms_restore.proofs.Patched.{behind_more, has_more, no_behind}
use Rattle.dms_wal.specs.declared.imaged.ImagedBlocks.{ImagedBlocks}
use Rattle.dms_wal.specs.BackOuts.{entries_back}
use Rattle.dms_wal.specs.ImagedSets.{AddsImage, has_block, has_image, HasNone, ImagesCounted, IsImagedSet, SameImages}
use Rattle.dms_wal.proofs.Logged.{entries_still}
use Rattle.dms_wal.proofs.Tabled.{raised_more, raised_there}

-- ---- entries

-- one entry more that is no Control and no Begin
one_more : (es : List Entry) (e : Entry) (x : Logged) (f k : ℕ) → said_by (parts_from no_parts es) e ≡ x ∷ [] → live_step (live_logged [] (events_in es)) x ≡ live_logged [] (events_in es) ++ x ∷ [] → is_control_logged x ≡ false
    → has_image (es ++ e ∷ []) f k ≡ (has_image es f k || is_image f k x)
one_more es e x f k says step plain =
    ap (λ (l : List Logged). has (is_image f k) (after_last is_control_logged l)) (live_more es e x says ∙ step)
    ∙ ap (λ (l : List Logged). has (is_image f k) l) (behind_more (live_logged [] (events_in es)) x plain)
    ∙ has_more (is_image f k) (after_last is_control_logged (live_logged [] (events_in es))) x

or_no : (t : Bool) → (t || false) ≡ t
or_no true = refl
or_no false = refl

-- behind a Control no block has one
behind_control : (es : List Entry) (n next : ℕ) (counts : List FileCount) (f k : ℕ) → has_image (es ++ control_point n next counts ∷ []) f k ≡ false
behind_control es n next counts f k =
    let x : Logged = event (control n next (counts_in counts) (is_whole (parts_from no_parts es))) in
    ap (λ (l : List Logged). has (is_image f k) (after_last is_control_logged l)) (live_more es (control_point n next counts) x refl)
    ∙ no_behind f k (live_logged [] (events_in es)) x refl

-- nor behind a Schema with its Control
pub none_imaged : (v : LogView) (front middle : List Entry) (schema : List ℕ) (point next : ℕ) (counts : List FileCount) → entries v ≡ front ++ (middle ++ (schema_entries (bodies schema) ++ control_point point next counts ∷ []))
    → (f k : ℕ) → has_image (entries v) f k ≡ false
none_imaged v front middle schema point next counts is f k =
    let parts = schema_entries (bodies schema) in
    let last : List Entry = control_point point next counts ∷ [] in
    ap (λ (l : List Entry). has_image l f k) (is ∙ ap (λ (l : List Entry). front ++ l) (sym (append_assoc middle parts last)) ∙ sym (append_assoc front (middle ++ parts) last))
    ∙ behind_control (front ++ (middle ++ parts)) point next counts f k

-- ---- what stands at the last Control

-- an entry more behind it
at_behind : (old new : List Entry) (e : Entry) (m : ℕ) → new ≡ old ++ e ∷ [] → IsPlainEntry e → IsAtLastControl old m → IsAtLastControl new m
at_behind old new e m more plain is =
    let g = plain_grows old (e ∷ []) (plain, tt) in
    subst (λ (l : List Event). IsAtControl l m) (sym (ap live_of more ∙ g.live)) (at_more (live_of old) g.more m g.no_control is)

-- what is live behind a whole Schema with its Control
pub controlled_live : (a : LogView) (old new : List Entry) (m next : ℕ) (schema : List ℕ) (counts : List FileCount) → new ≡ old ++ (schema_entries (bodies schema) ++ control_point m next counts ∷ []) → 0 < length schema
    → live_of new ≡ live_of old ++ control m next (counts_in counts) true ∷ []
controlled_live a old new m next schema counts is some =
    let b = some_bodies schema some in
    ap live_of (is ∙ ap (λ (l : List (List ℕ)). old ++ (schema_entries l ++ control_point m next counts ∷ [])) b.2)
    ∙ ap (λ (h : History). h.live) (whole_is false old (dumps_of a.files) (λ f. []) (stored_of a.files) m next b.0 b.1 counts)

-- the Control of a restore, where what is live before it is so up to the place of its point
pub ends_sealed : (a : LogView) (old new : List Entry) (m next : ℕ) (schema : List ℕ) (counts : List FileCount) (before : List Event) → live_of old ≡ until_first (is_point m) before
    → new ≡ old ++ (schema_entries (bodies schema) ++ control_point m next counts ∷ []) → 0 < length schema → EndsRestore (live_of new) m
ends_sealed a old new m next schema counts before cut is some = record {
  before = before;
  next = next;
  counts = counts_in counts;
  described = true;
  are = controlled_live a old new m next schema counts is some ∙ ap (λ (l : List Event). l ++ control m next (counts_in counts) true ∷ []) cut;
}

-- what is live behind a Begin
pub begun_live : (es : List Entry) (m : ℕ) (kind : Kind) → live_of (es ++ begin_restore m kind ∷ []) ≡ until_first (is_point m) (live_of es)
begun_live es m kind = ap (λ (h : History). h.live) (ap history (begin_sealed es m kind) ∙ one_more_event (events es) (begin m (how_of kind)))

-- it stands behind a Begin and a whole Schema
pub ends_back : (a : LogView) (new : List Entry) (m next : ℕ) (schema : List ℕ) (counts : List FileCount) → new ≡ entries a ++ begin_restore m by_back_out ∷ (schema_entries (bodies schema) ++ control_point m next counts ∷ [])
    → 0 < length schema → EndsRestore (live_of new) m
ends_back a new m next schema counts is some =
    let old = entries a in
    let e = begin_restore m by_back_out in
    ends_sealed a (old ++ e ∷ []) new m next schema counts (live_of old) (begun_live old m by_back_out)
    (is ∙ sym (append_assoc old (e ∷ []) (schema_entries (bodies schema) ++ control_point m next counts ∷ []))) some

-- ---- the set

-- the same entries
pub images_on : (a b : LogView) (set : ImagedBlocks) → entries b ≡ entries a → IsImagedSet a set → IsImagedSet b set
images_on a b set same is = record {
  has_them = λ f k. is.has_them f k ∙ sym (ap (λ (es : List Entry). has_image es f k) same);
  at_point = λ on. subst (λ (es : List Entry). IsAtLastControl es set.number) (sym same) (is.at_point on);
}

-- in the same files
pub images_still : (end : AuditEnd) (first : ℕ) (files later : Files) (clock then_ : Clock Left) (set : ImagedBlocks) → later ≡ files → IsImagedSet (view end first files clock) set → IsImagedSet (view end first later then_) set
images_still end first files later clock then_ set same = images_on (view end first files clock) (view end first later then_) set (entries_still end first files later clock then_ same)

-- with other room
pub images_as : (v : LogView) (old new : ImagedBlocks) → SameImages old new → IsImagedSet v old → IsImagedSet v new
images_as v old new same is = record { has_them = λ f k. same.0 f k ∙ is.has_them f k; at_point = λ on. subst (IsAtLastControl (entries v)) (sym same.1.1) (is.at_point (sym same.1.0 ∙ on)) }

-- an Image more
pub images_image : (a b : LogView) (old new : ImagedBlocks) (g c : ℕ) (before : Option (List ℕ)) (after : List ℕ) → entries b ≡ entries a ++ image g c before after ∷ [] → AddsImage g c old new → IsImagedSet a old → IsImagedSet b new
images_image a b old new g c before after more adds is = record {
  has_them = λ f k.
      adds.0 f k ∙ ap (λ t. t || is_at f k g c) (is.has_them f k)
      ∙ sym (ap (λ (es : List Entry). has_image es f k) more ∙ one_more (entries a) (image g c before after) (event (change g c before after)) f k refl refl refl);
  at_point = λ on. subst (IsAtLastControl (entries b)) (sym adds.1.1) (at_behind (entries a) (entries b) (image g c before after) old.number more tt (is.at_point (sym adds.1.0 ∙ on)));
}

-- a Range more
pub images_range : (a b : LogView) (set : ImagedBlocks) (g c place : ℕ) (bytes : List ℕ) → entries b ≡ entries a ++ byte_range g c place bytes ∷ [] → IsImagedSet a set → IsImagedSet b set
images_range a b set g c place bytes more is = record {
  has_them = λ f k. is.has_them f k ∙ sym (ap (λ (es : List Entry). has_image es f k) more ∙ one_more (entries a) (byte_range g c place bytes) (range g c place bytes) f k refl refl refl ∙ or_no (has_image (entries a) f k));
  at_point = λ on. at_behind (entries a) (entries b) (byte_range g c place bytes) set.number more tt (is.at_point on);
}

-- a quiet point more
pub images_quiet : (a b : LogView) (set : ImagedBlocks) (n : ℕ) → entries b ≡ entries a ++ quiet_point n ∷ [] → IsImagedSet a set → IsImagedSet b set
images_quiet a b set n more is = record {
  has_them = λ f k. is.has_them f k ∙ sym (ap (λ (es : List Entry). has_image es f k) more ∙ one_more (entries a) (quiet_point n) (event (quiet n)) f k refl refl refl ∙ or_no (has_image (entries a) f k));
  at_point = λ on. at_behind (entries a) (entries b) (quiet_point n) set.number more tt (is.at_point on);
}

-- a Schema with its Control behind all, where behind the point no block was changed
pub images_controlled : (a b : LogView) (set : ImagedBlocks) (schema : List ℕ) (point next : ℕ) (counts : List FileCount) → entries b ≡ entries a ++ (schema_entries (bodies schema) ++ control_point point next counts ∷ []) → HasNone set → 0 < length schema
    → set.number ≡ point → (set.at_point ≡ true → IsUnchangedSince (live_of (entries b)) point) → IsImagedSet b set
images_controlled a b set schema point next counts is none some same unchanged = record {
  has_them = λ f k. none f k ∙ sym (none_imaged b (entries a) [] schema point next counts is f k);
  at_point = λ on. subst (IsAtLastControl (entries b)) (sym same)
      (control_at (live_of (entries b)) (live_of (entries a)) point point next (counts_in counts) true (controlled_live a (entries a) (entries b) point next schema counts is some) (unchanged on));
}

-- and a Begin before them
pub images_back : (a b : LogView) (set : ImagedBlocks) (schema : List ℕ) (point next : ℕ) (marks : List ℕ) → entries b ≡ entries a ++ entries_back point schema next marks → HasNone set → 0 < length schema → set.number ≡ point → IsImagedSet b set
images_back a b set schema point next marks is none some same = record {
  has_them = λ f k. none f k ∙ sym (none_imaged b (entries a) (begin_restore point by_back_out ∷ []) schema point next (file_counts 30001 marks) is f k);
  at_point = λ on. subst (IsAtLastControl (entries b)) (sym same) (ended_at (live_of (entries b)) point (ends_back a (entries b) point next schema (file_counts 30001 marks) is some));
}

-- ---- its blocks are counted

pub images_none : (set : ImagedBlocks) (counts : List ℕ) → HasNone set → ImagesCounted set counts
images_none set counts none f k on = absurd (true≢false (sym on ∙ none f k))

pub images_kept : (old new : ImagedBlocks) (counts : List ℕ) → SameImages old new → ImagesCounted old counts → ImagesCounted new counts
images_kept old new counts same is f k on = is f k (sym (same.0 f k) ∙ on)

pub images_raised : (old new : ImagedBlocks) (l m : List ℕ) (g c : ℕ) → AddsImage g c old new → count_of m ≡ raise_count (count_of l) g c → ImagesCounted old l → ImagesCounted new m
images_raised old new l m g c adds raises is f k on = elim (or_cases (has_block old f k) (is_at f k g c) (sym (adds.0 f k) ∙ on)) [
  | inl was ↦ omega (arith, is f k was, raised_more l m g c f raises)
  | inr here ↦ elim (place_cases f k g c) [
    | inl place ↦ omega (arith, raised_there l m g c raises, place.1, ap (λ h. count_of m h) place.0)
    | inr apart ↦ absurd (true≢false (sym here ∙ apart.1))
  ]
]

-- ---- a call of the set

pub done_is : {T E P : Type 0} (r : Result T E) → IsOk r → OnOk r P → P
done_is (Ok x) ok p = p
done_is (Err e) ok p = absurd (false≢true ok)

pub one_or : (t b : Bool) → cond t true b ≡ (b || t)
one_or true true = refl
one_or true false = refl
one_or false true = refl
one_or false false = refl
