-- How a database comes to be, stop by stop.
use Rattle.std.proofs.Common.{ℕ, zero, suc, ◌-◌, ◌/◌, ◌<◌, ◌≤◌, ◌≡◌, ◌≢◌, ◌⊎◌, inl, inr, true, false, List, [], ◌∷◌, ◌++◌, length, drop, get_or, refl, sym, ◌∙◌, ap, subst, arith}
use Rattle.std.specs.Prelude.{IsTrue, nat_eq}
use Rattle.std.proofs.lemmas.List.{ext_get_or}
use Rattle.std.proofs.lemmas.Bool.{cases_eq}
use Rattle.std.proofs.lemmas.Bool.Decides.{nat_tests}
use Rattle.dms_moments.specs.Moments.{Clock, Now, Steps}
use Rattle.dms_moments.specs.MomentLaws.{runs_weaken, runs_step, runs_on}
use Rattle.dms_site.specs.Files.{Files, Left, Only, Same, OnDisk, Torn, with_file, overlay_bytes, range}
use Rattle.dms_site.specs.Laws.{torn_overlaid, length-overlaid, range_overlaid, get_or-range, with_file_here, with_file_other}
use Rattle.std.proofs.lemmas.List.{length-map}
use Rattle.dms_desc.specs.declared.description.Description.{Description}
use Rattle.dms_creation.specs.declared.planning.Plan.{Plan}
use Rattle.dms_desc.specs.Shape.{Described, as_described, shape_of}
use Rattle.dms_desc_bytes.specs.Spelling.{spelling}
use Rattle.dms_desc_bytes.specs.WellFormed.{IsWellFormed, has_parameters, are_sound}
use Rattle.dms_desc_bytes.specs.Reading.{ReadBytes, description_at}
use Rattle.dms_desc_bytes.proofs.DescriptionLaws.{description_again, only_read}
use Rattle.dms_descfile.specs.DescriptionFile.{IsSealed, description_file}
use Rattle.dms_history.specs.Entries.{Entry, control_point}
use Rattle.dms_history.specs.Schemas.{schema_entries}
use Rattle.dms_audrec.specs.Spelling.{pair_bytes, count_file, count_blocks}
use Rattle.dms_audrec.specs.Reading.{counts_at}
use Rattle.dms_audfile.specs.Trail.{trail_from}
use Rattle.dms_audfile.specs.TrailEntries.{entries_in, trail_entries}
use Rattle.dms_audfile.specs.Ends.{AllHoldAnEntry}
use Rattle.dms_audfile.proofs.Several.{trail_same}
use Rattle.dms_audfile.proofs.Gates.{stands_full}
use Rattle.dms_audfile.proofs.Growing.{writes_same}
use Rattle.dms_creation.specs.Clearing.{KeepsApart, IsApart, ApartStay, AllButDescriptionStay}
use Rattle.dms_audrec.specs.Bodies.{bodies}
use Rattle.dms_creation.specs.FirstEntries.{zero_counts, first_entries}
use Rattle.dms_creation.specs.Creation.{IsGate, IsFirstTrail, IsReadyToOpen, IsMade, IsShut, IsCreation, Initializes}
use Rattle.dms_creation.specs.Plans.{IsPlanOf, HasShutDatabaseGate}
use Rattle.dms_creation.proofs.Parts.{counts_read, counts_size}

-- ---- the gate of the database

gate_decides : (b : ℕ) (file : List ℕ) → get_or file 1 0 ≡ b → IsGate (nat_eq b 1) file
gate_decides b file is = record { opened = λ on. is ∙ one b on; shut = λ off at. absurd (other b (sym is ∙ at) off) }
  where
    one : (b : ℕ) → nat_eq b 1 ≡ true → b ≡ 1
    one b on = grind (arith, nat_tests)

    other : (b : ℕ) → b ≡ 1 → nat_eq b 1 ≡ false → ⊥
    other b at off = grind (arith, nat_tests)

pub gate_is : (file into rest : List ℕ) → into ≡ range 1 1 file ++ rest → 2 ≤ length file → IsGate (nat_eq (get_or into 0 0) 1) file
unfolding range
gate_is [] into rest is long = absurd (omega arith)
gate_is (a ∷ []) into rest is long = absurd (omega arith)
gate_is (a ∷ b ∷ bs) into rest is long = gate_decides (get_or into 0 0) (a ∷ b ∷ bs) (sym (ap (λ (l : List ℕ). get_or l 0 0) is))

pub sealed_long : (file : List ℕ) (d : Described) → IsSealed file d → 2 ≤ length file
unfolding description_file
sealed_long file d s = omega (arith, ap length s.is)

byte_one : (old : List ℕ) → get_or (overlay_bytes 1 (1 ∷ []) old) 1 0 ≡ 1
byte_one old = sym (get_or-range 1 1 0 (overlay_bytes 1 (1 ∷ []) old) (omega arith)) ∙ ap (λ (l : List ℕ). get_or l 0 0) (range_overlaid 1 (1 ∷ []) old)

-- only the gate differs
only_gate : (old new : List ℕ) → 2 ≤ length old → Torn 1 1 old new → get_or new 1 0 ≡ 1 → new ≡ overlay_bytes 1 (1 ∷ []) old
only_gate old new long torn is =
    let whole = torn_overlaid 1 (1 ∷ []) old in
    let len : length new ≡ length (overlay_bytes 1 (1 ∷ []) old) = omega (arith, torn.no_shorter, torn.no_longer, length-overlaid 1 (1 ∷ []) old) in
    ext_get_or 0 new (overlay_bytes 1 (1 ∷ []) old) len (λ k h. at_each whole k (omega (arith, h, torn.no_longer)))
  where
    at_each : Torn 1 1 old (overlay_bytes 1 (1 ∷ []) old) → (k : ℕ) → k < length old → get_or new k 0 ≡ get_or (overlay_bytes 1 (1 ∷ []) old) k 0
    at_each whole zero h = torn.below 0 h (omega arith) ∙ sym (whole.below 0 h (omega arith))
    at_each whole (suc zero) h = is ∙ sym (byte_one old)
    at_each whole (suc (suc k)) h = torn.above (suc (suc k)) h (omega arith) ∙ sym (whole.above (suc (suc k)) h (omega arith))

-- ---- a trail that stays

pub trail_kept : (tag total : ℕ) (entries : List Entry) (y x : Files) → ((g : ℕ) → g ≢ 1 → x g ≡ y g) → IsFirstTrail tag total entries y → IsFirstTrail tag total entries x
unfolding trail_entries
trail_kept tag total entries y x same t =
    let trail : trail_from 10000 total 10001 x ≡ trail_from 10000 total 10001 y =
    trail_same (t.file - 10001) 10000 total 10001 t.file y x (omega (arith, t.writes.order)) (omega (arith, t.high)) t.writes.full (stands_full total t.count (y t.file) t.writes.stands t.writes.not_full) (λ g low high. same g (omega (arith, low))) in
    record {
      file = t.file;
      count = t.count;
      writes = writes_same total tag 10001 t.file t.count y x t.writes (λ g low high. same g (omega (arith, low)));
      high = t.high;
      exactly = ap entries_in trail ∙ t.exactly;
      filled = subst (λ (l : List (List ℕ)). AllHoldAnEntry l) (sym trail) t.filled;
      behind = λ g far high. same g (omega (arith, far, t.writes.order)) ∙ t.behind g far high;
      dumps = λ g low high. same g (omega (arith, low)) ∙ t.dumps g low high;
      structures = λ g low high. same g (omega (arith, low)) ∙ t.structures g low high;
    }

-- the entries of a new database
pub first_are : (n : ℕ) (bytes counts : List ℕ) (d : Described) → n ≤ 200 → counts ≡ pair_bytes count_file count_blocks (zero_counts n 1) → bytes ≡ spelling d → counts ≡ pair_bytes count_file count_blocks (zero_counts (length d.structures) 1)
    → schema_entries (bodies bytes) ++ control_point 0 1 (counts_at (length counts / 8) counts) ∷ [] ≡ first_entries d
unfolding first_entries
first_are n bytes counts d few is spelled counted =
    let many : n ≡ length d.structures = omega (arith, counts_size n counts is, counts_size (length d.structures) counts counted) in
    let read = counts_read n counts few is ∙ ap (λ k. zero_counts k 1) many in
    λ i. schema_entries (bodies (spelled i)) ++ control_point 0 1 (read i) ∷ []

pub ready_of : (tag total n : ℕ) (bytes counts : List ℕ) (old : Files) (d : Described) (files : Files) → n ≤ 200 → counts ≡ pair_bytes count_file count_blocks (zero_counts n 1) → total ≡ d.blocks → bytes ≡ spelling d
    → counts ≡ pair_bytes count_file count_blocks (zero_counts (length d.structures) 1) → ApartStay old files → IsFirstTrail tag total (schema_entries (bodies bytes) ++ control_point 0 1 (counts_at (length counts / 8) counts) ∷ []) files → IsReadyToOpen tag d old files
ready_of tag total n bytes counts old d files few is wide spelled counted apart t =
    record { apart = apart; trail = subst (λ (es : List Entry). IsFirstTrail tag d.blocks es files) (first_are n bytes counts d few is spelled counted) (subst (λ k. IsFirstTrail tag k (schema_entries (bodies bytes) ++ control_point 0 1 (counts_at (length counts / 8) counts) ∷ []) files) wide t) }

-- ---- stop by stop

one_apart : IsApart 1
one_apart = inl (omega arith)

looked : (tag : ℕ) (d : Described) (old : Files) (a : Clock Left) (y x : Left) → Now a y → x ≡ y → Now a x
looked tag d old a y x now same = subst (λ (z : Left). Now a z) (sym same) now

shut_at : (tag : ℕ) (d : Described) (old : Files) (y x : Left) → HasShutDatabaseGate (old 1) → y.files ≡ old → KeepsApart y x → IsCreation tag d old x
shut_at tag d old y x room from k =
    let stay : ApartStay old x.files = λ g a. k.apart g a ∙ ap (λ (l : Files). l g) from in
    let here : IsShut (old 1) (old 1) = record { shut = room.shut; long = refl; bytes = λ i within other. refl } in
    inl (record { here = subst (λ (l : List ℕ). IsShut (old 1) l) (sym (stay 1 one_apart)) here; others = λ g a other. stay g a })

-- the gate's byte alone may be another
still_shut : (old new : List ℕ) → 2 ≤ length old → Torn 1 1 old new → get_or new 1 0 ≢ 1 → IsShut old new
still_shut old new long torn not = record {
  shut = not;
  long = omega (arith, long, torn.no_shorter, torn.no_longer);
  bytes = at_each;
}
  where
    at_each : (i : ℕ) → i < length old → i ≢ 1 → get_or new i 0 ≡ get_or old i 0
    at_each zero h other = torn.below 0 h (omega arith)
    at_each (suc zero) h other = absurd (other refl)
    at_each (suc (suc i)) h other = torn.above (suc (suc i)) h (omega arith)

gated_at : (tag : ℕ) (d : Described) (old mid : Files) (y x : Left) → 2 ≤ length (old 1) → y.files ≡ mid → IsReadyToOpen tag d old mid → OnDisk 1 (Torn 1 1) y x → IsCreation tag d old x
gated_at tag d old mid y x long from r step =
    let torn : Torn 1 1 (old 1) (x.files 1) = subst (λ (l : List ℕ). Torn 1 1 l (x.files 1)) (ap (λ (l : Files). l 1) from ∙ r.apart 1 one_apart) step.files.here in
    let stay : AllButDescriptionStay old x.files = λ g a other. step.files.others g other ∙ ap (λ (l : Files). l g) from ∙ r.apart g a in
    elim (cases_eq (get_or (x.files 1) 1 0) 1) [
      | inr not ↦ inl (record { here = still_shut (old 1) (x.files 1) long torn not; others = stay })
      | inl is ↦ inr (record {
        here = only_gate (old 1) (x.files 1) long torn is;
        trail = trail_kept tag d.blocks (first_entries d) mid x.files (λ g other. step.files.others g other ∙ ap (λ (l : Files). l g) from) r.trail;
        others = stay;
      })
    ]

pub made_early : (tag : ℕ) (d : Described) (old : Files) (a b c : Clock Left) → HasShutDatabaseGate (old 1) → Steps Same a b → Only old b → Steps KeepsApart b c → Initializes tag d old a c
made_early tag d old a b c room looks only keeps =
    runs_step (runs_weaken looks.runs (λ x after. inl (looked tag d old a after.0 x after.1 after.2))) keeps (λ y x now k. inr (shut_at tag d old y x room (only y now) k))

pub made_all : (tag : ℕ) (d : Described) (old mid : Files) (a b c e : Clock Left) → HasShutDatabaseGate (old 1) → Steps Same a b → Only old b → Steps KeepsApart b c → Only mid c → IsReadyToOpen tag d old mid → Steps (OnDisk 1 (Torn 1 1)) c e → Initializes tag d old a e
made_all tag d old mid a b c e room looks only keeps settled r gate =
    runs_step (made_early tag d old a b c room looks only keeps) gate (λ y x now step. inr (gated_at tag d old mid y x room.long (settled y now) r step))

pub made_files : (tag : ℕ) (d : Described) (old mid new : Files) → IsReadyToOpen tag d old mid → new ≡ with_file mid 1 (overlay_bytes 1 (1 ∷ []) (mid 1)) → IsMade tag d old new
made_files tag d old mid new r is =
    let stay : (g : ℕ) → g ≢ 1 → new g ≡ mid g = λ g other. ap (λ (l : Files). l g) is ∙ with_file_other mid 1 (overlay_bytes 1 (1 ∷ []) (mid 1)) g other in
    record {
      here = ap (λ (l : Files). l 1) is ∙ with_file_here mid 1 (overlay_bytes 1 (1 ∷ []) (mid 1)) ∙ ap (λ (l : List ℕ). overlay_bytes 1 (1 ∷ []) l) (r.apart 1 one_apart);
      trail = trail_kept tag d.blocks (first_entries d) mid new stay r.trail;
      others = λ g a other. stay g other ∙ r.apart g a;
    }

-- where nothing was begun
pub only_looked : (tag : ℕ) (d : Described) (old : Files) (a b : Clock Left) → Steps Same a b → Initializes tag d old a b
only_looked tag d old a b looks = runs_weaken looks.runs (λ x after. inl (looked tag d old a after.0 x after.1 after.2))

-- ---- well-formed descriptions

pub blocks_range : (d : Described) → IsTrue (has_parameters d) → (8 ≤ d.blocks) × (d.blocks ≤ 512)
unfolding has_parameters
blocks_range d on = (grind (arith, nat_tests), grind (arith, nat_tests))

pub few_structures : (d : Described) → IsTrue (are_sound d.structures) → length d.structures ≤ 200
unfolding are_sound
few_structures d on = grind (arith, nat_tests)

pub few_kept : (desc : Description) → IsTrue (are_sound (as_described desc).structures) → length desc.structures ≤ 200
few_kept desc on = omega (arith, few_structures (as_described desc) on, length-map desc.structures shape_of)

-- ---- the description in a file is one

behind_head : (database : ℕ) (bytes file : List ℕ) → file ≡ description_file 1 database bytes → drop 6 file ≡ bytes
unfolding description_file
behind_head database bytes file is = ap (λ (l : List ℕ). drop 6 l) is

spelled_once : (d e : Described) → IsWellFormed d → IsWellFormed e → spelling d ≡ spelling e → d ≡ e
spelled_once d e good other same = only_read (spelling e) d e (sym (ap (λ (r : ReadBytes Described). r.0) (description_again d good)) ∙ ap (λ (bytes : List ℕ). (description_at bytes).0) same) other refl

same_sealed : (file : List ℕ) (d e : Described) → IsSealed file d → IsSealed file e → d ≡ e
same_sealed file d e one two = spelled_once d e one.well_formed two.well_formed (sym (behind_head one.database (spelling d) file one.is) ∙ behind_head two.database (spelling e) file two.is)

pub planned_by : (file : List ℕ) (plan : Plan) (desc : Description) (d : Described) → IsSealed file d → IsSealed file (as_described desc) → plan.bytes ≡ spelling (as_described desc) → plan.end.total ≡ desc.blocks
    → plan.counts ≡ pair_bytes count_file count_blocks (zero_counts (length desc.structures) 1) → IsPlanOf plan d
planned_by file plan desc d sealed read bytes total counts =
    let same : as_described desc ≡ d = same_sealed file (as_described desc) d read sealed in
    let many : length desc.structures ≡ length d.structures = sym (length-map desc.structures shape_of) ∙ ap (λ (x : Described). length x.structures) same in
    record {
      bytes = bytes ∙ ap spelling same;
      total = total ∙ ap (λ (x : Described). x.blocks) same;
      counts = counts ∙ ap (λ k. pair_bytes count_file count_blocks (zero_counts k 1)) many;
    }

-- behind what only looks
pub initializes_after : (tag mark : ℕ) (d : Described) (old mid : Files) (a b c : Clock Left) → tag ≡ mark → mid ≡ old → Steps Same a b → (HasShutDatabaseGate (mid 1) → Initializes tag d mid b c) → HasShutDatabaseGate (old 1) → Initializes mark d old a c
initializes_after tag mark d old mid a b c marked same looks makes room =
    let run : Initializes mark d old b c =
    subst (λ (l : Files). Initializes mark d l b c) same (subst (λ t. Initializes t d mid b c) marked (makes (subst (λ (l : Files). HasShutDatabaseGate (l 1)) (sym same) room))) in
    runs_on (only_looked mark d old a b looks) run (λ x made. weaker x made)
  where
    weaker : (x : Left) → Now b x ⊎ IsCreation mark d old x → Now a x ⊎ IsCreation mark d old x
    weaker x made = elim made [
      | inl now ↦ (let before = looks.follows x now in inl (looked mark d old a before.0 x before.1 before.2))
      | inr is ↦ inr is
    ]
