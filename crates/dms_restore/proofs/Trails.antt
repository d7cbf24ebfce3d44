-- A trail as entries of a database.
use Rattle.std.proofs.Common.{ℕ, zero, suc, ◌+◌, ◌-◌, ◌*◌, ◌≤◌, ◌<◌, ◌≡◌, ◌⊎◌, inl, inr, Bool, true, false, cond, List, [], ◌∷◌, ◌++◌, map, length, take, drop, Option, Some, None, refl, sym, ◌∙◌, ap, subst, arith}
use Rattle.std.specs.Option.{option_copied}
use Rattle.std.specs.Borrow.{Bor}
use Rattle.std.specs.Prelude.{◌&&◌, nat_lt, nat_le}
use Rattle.std.proofs.lemmas.Bool.{cases_lt}
use Rattle.std.proofs.lemmas.Bool.Decides.{nat_tests}
use Rattle.dms_moments.specs.Moments.{Clock, Steps}
use Rattle.dms_moments.specs.MomentLaws.{steps_weaken}
use Rattle.dms_site.specs.Files.{Files, Left, InFile, Torn, OnDisk}
use Rattle.dms_history.specs.Entries.{Entry, schema_part, image, byte_range, quiet_point, control_point, begin_restore, is_begin}
use Rattle.dms_audrec.specs.declared.entry.Entry.TheVariants.{Image}
use Rattle.dms_audrec.specs.Seen.{entry_seen}
use Rattle.dms_audfile.specs.declared.audit_end.AuditEnd.{AuditEnd}
use Rattle.dms_audfile.specs.Gates.{sealed_blocks, is_full}
use Rattle.dms_audfile.specs.BlockLaws.{AreNoBegins, IsAlone}
use Rattle.dms_audfile.specs.Trail.{trail_from}
use Rattle.dms_audfile.specs.TrailEntries.{entries_in, trail_entries}
use Rattle.dms_audfile.specs.Ends as ends
use Rattle.dms_audfile.specs.Ends.{EndsAt, Appends}
use Rattle.dms_audfile.specs.Sealing.{IsWrittenUpTo}
use Rattle.dms_audfile.specs.Scanning as scan
use Rattle.dms_audfile.specs.Scanning.{Placed, entry_in}
use Rattle.dms_audfile.specs.AuditTrail.{IsScanned}
use Rattle.dms_audfile.specs.TrailLaws.{read_trail, all_of}
use Rattle.dms_audfile.specs.Database.{HasDatabase}
use Rattle.dms_audfile.proofs.Again.{scans_again}
use Rattle.dms_audfile.proofs.Waiting.{waiting_is}
use Rattle.dms_audfile.proofs.Followed.{fits_says, scans_trail}
use Rattle.dms_audfile.specs.Header.{tag_said}
use Rattle.dms_audfile.proofs.Growing.{writes_same}
use Rattle.dms_audfile.proofs.Ended.{entries_settled, writes_once}
use Rattle.dms_audfile.proofs.Kept.{long_head, found_is_kept}
use Rattle.dms_running.specs.Telling.{IsTelling}
use Rattle.dms_running.specs.Sealing.{SealsSome, Appended, AreSealed, Settled}
use Rattle.dms_running.specs.Running.{AllPlain}
use Rattle.dms_dump.specs.Body.{no_dump, dump_of}
use Rattle.dms_dump.specs.Judged.{dump_read}
use Rattle.dms_restore.specs.Dumped.{dumps_of, IsDumpFound}
use Rattle.dms_restore.specs.Finding.{IsFoundFrom}
use Rattle.dms_restore.specs.Logging.{telling_of, waits}

-- the trail depends on as many files as it may have
pub trail_low : (n total f : ℕ) (x y : Files) → ((g : ℕ) → f ≤ g → g < f + n → x g ≡ y g) → trail_from n total f x ≡ trail_from n total f y
trail_low zero total f x y same = refl
trail_low (suc n) total f x y same =
    let here : x f ≡ y f = same f (omega arith) (omega arith) in
    λ i. cond (is_full total (here i)) (sealed_blocks total (here i) ++ trail_low n total (f + 1) x y (λ g from upto. same g (omega (arith, from)) (omega (arith, upto))) i) (sealed_blocks total (here i))

pub trail_entries_low : (total first : ℕ) → first ≤ 20000 → (x y : Files) → ((g : ℕ) → g ≤ 30000 → x g ≡ y g) → trail_entries total first x ≡ trail_entries total first y
unfolding trail_entries
trail_entries_low total first low x y same = ap entries_in (trail_low 10000 total first x y (λ g from upto. same g (omega (arith, upto, low))))

-- ---- dumps

dump_same : (x y : Files) (d : ℕ) (b : Bool) → (b ≡ true → x (20000 + d) ≡ y (20000 + d)) → cond b (dump_of (x (20000 + d))) no_dump ≡ cond b (dump_of (y (20000 + d))) no_dump
dump_same x y d true same = ap dump_of (same refl)
dump_same x y d false same = refl

dump_numbers : (d : ℕ) → nat_lt 0 d && nat_le d 10000 ≡ true → (0 < d) × (d ≤ 10000)
dump_numbers d on = (grind (arith, nat_tests), grind (arith, nat_tests))

dumps_same : (x y : Files) → ((g : ℕ) → 20000 < g → g ≤ 30000 → x g ≡ y g) → dumps_of x ≡ dumps_of y
dumps_same x y same =
    λ i. λ d. dump_same x y d (nat_lt 0 d && nat_le d 10000) (λ on. let n = dump_numbers d on in same (20000 + d) (omega (arith, n.0)) (omega (arith, n.1))) i

-- a dump that is found is found in files with the same dumps and the same tag
pub found_dump : (first : ℕ) (x y : Files) (d : ℕ) → tag_said (x first) ≡ tag_said (y first) → ((g : ℕ) → 20000 < g → g ≤ 30000 → x g ≡ y g) → IsDumpFound first y d → IsDumpFound first x d
found_dump first x y d tags same found = record {
  some = found.some;
  few = found.few;
  head = found.head;
  read = ap dump_read (same (20000 + d) (omega (arith, found.some)) (omega (arith, found.few))) ∙ found.read;
  tag_is = found.tag_is ∙ sym tags;
  within = found.within;
}

-- ---- scanning

-- structure files don't count
found_stays : (total first : ℕ) (x y : Files) → ((g : ℕ) → g ≤ 30000 → x g ≡ y g) → IsFoundFrom total first y → IsFoundFrom total first x
found_stays total first x y same f =
    let t = f.finds.trail in
    let k = found_is_kept t.first t.last y f.finds.placed t.span.order t.is in
    let below : (g : ℕ) → t.first ≤ g → g ≤ k.file → x g ≡ y g = λ g from upto. same g (omega (arith, upto, k.low, t.span.high)) in
    let one = scans_trail k.total k.tag t.first k.file k.count t.last 10000 x (writes_same k.total k.tag t.first k.file k.count y x k.writes below) k.low k.high (omega (arith, k.low, t.span.low, t.span.high)) in
    let two = scans_trail k.total k.tag t.first k.file k.count t.last 10000 y k.writes k.low k.high (omega (arith, k.low, t.span.low, t.span.high)) in
    let trail : trail_from 10000 k.total t.first x ≡ trail_from 10000 k.total t.first y = trail_low 10000 k.total t.first x y (λ g from upto. same g (omega (arith, upto, t.span.order, t.span.high))) in
    record {
      finds = record {
        placed = f.finds.placed;
        trail = record {
          database = subst (λ (l : List ℕ). HasDatabase l) (sym (same 1 (omega arith))) t.database;
          first = t.first;
          last = t.last;
          span = record {
            low = t.span.low;
            order = t.span.order;
            high = t.span.high;
            absent = λ g above upto. same g (omega (arith, upto)) ∙ t.span.absent g above upto;
            present = λ g from upto. subst (λ (l : List ℕ). 0 < length l) (sym (same g (omega (arith, upto, t.span.high)))) (t.span.present g from upto);
            before = λ g low next. same g (omega (arith, next, t.span.order, t.span.high)) ∙ t.span.before g low next;
          };
          is = one ∙ ap (λ (l : List (List ℕ)). all_of t.first (read_trail k.total t.first 1 l)) trail ∙ sym two ∙ t.is;
        };
        are = f.finds.are ∙ sym (trail_entries_low total first (omega (arith, f.first_is, t.span.order, t.span.high)) x y same);
      };
      first_is = f.first_is;
    }

-- a trail that is found ends by the file behind that in which a writer is
ends_by : (total tag first g n : ℕ) (files : Files) (ps : List Placed) (t : IsScanned files (scan.found ps)) → t.first ≡ first → IsWrittenUpTo total tag first g n files → t.last ≤ g + 1
ends_by total tag first g n files ps t from writes =
    let w : IsWrittenUpTo total tag t.first g n files = subst (λ k. IsWrittenUpTo total tag k g n files) (sym from) writes in
    let k = found_is_kept t.first t.last files ps t.span.order t.is in
    let one = fits_says (t.first - 10000) total (files t.first) (w.fits t.first (omega arith) w.order) in
    let two = fits_says (t.first - 10000) k.total (files t.first) (k.writes.fits t.first (omega arith) k.writes.order) in
    let same_tag : k.tag ≡ tag = sym (k.writes.tags t.first (omega arith) k.writes.order) ∙ w.tags t.first (omega arith) w.order in
    let v : IsWrittenUpTo total tag t.first k.file k.count files =
    subst (λ a. IsWrittenUpTo a tag t.first k.file k.count files) (two.1 ∙ sym one.1) (subst (λ a. IsWrittenUpTo k.total a t.first k.file k.count files) same_tag k.writes) in
    omega (arith, k.high, writes_once total tag t.first g n k.file k.count files w v)

-- what was sealed is found from the same first file on
first_stays : (total tag first g n : ℕ) (w : List Entry) (y x : Left) (ps qs : List Placed) (t : IsScanned y.files (scan.found ps)) (r : IsScanned x.files (scan.found qs)) → t.first ≡ first → IsWrittenUpTo total tag first g n y.files
    → ends.Seals total tag first w y x → r.first ≡ first
first_stays total tag first g n w y x ps qs t r from writes s = elim (cases_lt r.first first) [
  | inl lower ↦ absurd (some_bytes (x.files (first - 1)) (r.span.present (first - 1) (omega (arith, lower)) (omega (arith, low))) (front lower))
  | inr not_lower ↦ elim (cases_lt first r.first) [
    | inl higher ↦ elim (cases_lt s.file (r.first - 1)) [
      | inl behind ↦ absurd (some_bytes (x.files r.first) (r.span.present r.first (omega arith) r.span.order) (s.behind r.first (omega (arith, behind)) ∙ t.span.absent r.first (omega (arith, behind, ends)) (omega (arith, r.span.order, r.span.high))))
      | inr within ↦ absurd (some_bytes (x.files (r.first - 1)) (long (r.first - 1) (omega (arith, higher)) (omega (arith, within))) (r.span.before (r.first - 1) (omega (arith, higher, from, t.span.low)) (omega (arith, higher))))
    ]
    | inr same ↦ omega (arith, not_lower, same)
  ]
]
  where
    some_bytes : (bytes : List ℕ) → 0 < length bytes → bytes ≡ [] → ⊥
    some_bytes bytes some none = omega (arith, some, ap length none)

    long : (j : ℕ) → first ≤ j → j ≤ s.file → 0 < length (x.files j)
    long j up to = omega (arith, long_head (j - 10000) total (x.files j) (s.writes.fits j up to))

    ends : t.last ≤ s.file + 1
    ends = omega (arith, ends_by total tag first g n y.files ps t from writes, s.later g n writes)

    -- the file in which the writer is now is present
    low : first ≤ r.last
    low = elim (cases_lt r.last s.file) [
      | inl beyond ↦ absurd (some_bytes (x.files s.file) (long s.file s.writes.order (omega arith)) (r.span.absent s.file beyond s.high))
      | inr reached ↦ omega (arith, reached, s.writes.order)
    ]

    front : r.first < first → x.files (first - 1) ≡ []
    front lower = s.below (first - 1) (omega (arith, lower)) ∙ t.span.before (first - 1) (omega (arith, r.span.low, lower)) (omega (arith, from, lower))

-- what is sealed behind a trail is found too
pub found_sealed : (total tag first g n : ℕ) (w : List Entry) (y x : Left) → IsWrittenUpTo total tag first g n y.files → ends.Seals total tag first w y x → IsFoundFrom total first y.files → IsFoundFrom total first x.files
found_sealed total tag first g n w y x writes seals f =
    let t = f.finds.trail in
    let from = f.first_is in
    let s : ends.Seals total tag t.first w y x = subst (λ k. ends.Seals total tag k w y x) (sym from) seals in
    let r = scans_again total tag g n w y x f.finds.placed t (subst (λ k. IsWrittenUpTo total tag k g n y.files) (sym from) writes) s in
    let old : map entry_in f.finds.placed ≡ trail_entries total t.first y.files = f.finds.are ∙ ap (λ k. trail_entries total k y.files) (sym from) in
    subst (λ k. IsFoundFrom total k x.files) from (record {
      finds = record { placed = r.placed; trail = r.trail; are = r.are ∙ ap (λ (l : List Entry). l ++ take s.some w) old ∙ sym s.entries };
      first_is = first_stays total tag first g n w y x f.finds.placed r.placed t r.trail from writes seals ∙ sym from;
    })

pub is_telling : (total first : ℕ) → first ≤ 20000 → IsTelling (telling_of total first)
is_telling total first low = record { entries_low = trail_entries_low total first low; dumps_between = dumps_same; found_low = found_stays total first; dump_found_low = λ x y d same found. found_dump first x y d (ap tag_said (same first (omega (arith, low)))) (λ g above upto. same g upto) found }

pub first_low : (end : AuditEnd) (first : ℕ) (w : List Entry) (files : Files) (clock : Clock Left) → EndsAt end first w files clock → first ≤ 20000
first_low end first w files clock e = omega (arith, e.writes.order, end.high)

-- ---- what waits

pub waits_is : (end : AuditEnd) (first : ℕ) (w : List Entry) (files : Files) (clock : Clock Left) → EndsAt end first w files clock → waits end ≡ w
unfolding waits
waits_is end first w files clock e = waiting_is end w e.waits

-- so it ends with what waits
pub ends_waiting : (end : AuditEnd) (first : ℕ) (w : List Entry) (files : Files) (clock : Clock Left) → EndsAt end first w files clock → EndsAt end first (waits end) files clock
ends_waiting end first w files clock e = subst (λ (l : List Entry). EndsAt end first l files clock) (sym (waits_is end first w files clock e)) e

not_begun : (e : Entry) → AllPlain (e ∷ []) → is_begin e ≡ false
not_begun (schema_part part parts bytes) plain = refl
not_begun (image f b before after) plain = refl
not_begun (byte_range f b place bytes) plain = refl
not_begun (quiet_point n) plain = refl
not_begun (control_point n next counts) plain = refl
not_begun (begin_restore n kind) plain = absurd plain.0

-- what waits of a running database is in the grammar, and no Begin
pub plain_waits : (w : List Entry) → AllPlain w → AreNoBegins w ⊎ IsAlone w → AreNoBegins w
plain_waits w plain kind = elim kind [
  | inl all ↦ all
  | inr one ↦ subst (λ (l : List Entry). AreNoBegins l) (sym one.is) (one.fits, not_begun one.entry (subst AllPlain one.is plain), tt)
]

-- ---- the moments and answers of the audit

pub seals_as : (end : AuditEnd) (first : ℕ) (waiting : List Entry) (files : Files) (old : Clock Left) → EndsAt end first waiting files old → (w : List Entry) (new : Clock Left) → Steps (ends.Seals end.total end.tag first w) old new
    → Steps (SealsSome (telling_of end.total first) w) old new
seals_as end first waiting files old e w new steps = steps_weaken steps (λ y x now s. record {
  some = s.some;
  sealed = s.entries;
  found = found_sealed end.total end.tag first end.file end.count w y x (writes_same end.total end.tag first end.file end.count files y.files e.writes (λ g from upto. e.settled g from upto y now)) s;
  dumps_found = λ d found.
      let tag_then = ap tag_said (e.settled first (omega arith) e.writes.order y now) ∙ e.writes.tags first (omega arith) e.writes.order in
      found_dump first x.files y.files d (s.writes.tags first (omega arith) s.writes.order ∙ sym tag_then) (λ g above upto. s.above g above) found;
  above = s.above;
  said = s.said;
})

pub appended_as : (total : ℕ) (new : AuditEnd) (first : ℕ) (es : List Entry) (old later : Files) (clock : Clock Left) → new.total ≡ total → ((g : ℕ) → new.file < g → later g ≡ old g) → Appends new first es old later clock
    → Appended (telling_of total first) es old later (waits new)
appended_as total new first es old later clock same behind a = record {
  some = a.some;
  sealed = subst (λ n. trail_entries n first later ≡ trail_entries n first old ++ take a.some es) same a.sealed;
  rest = waits_is new first (drop a.some es) later clock a.ends;
  above = λ g up. behind g (omega (arith, up, new.high));
}

pub sealed_as : (total : ℕ) (new : AuditEnd) (first : ℕ) (es : List Entry) (old later : Files) → ((g : ℕ) → new.file < g → later g ≡ old g) → trail_entries total first later ≡ trail_entries total first old ++ es → AreSealed (telling_of total first) es old later
sealed_as total new first es old later behind is = record { sealed = is; above = λ g up. behind g (omega (arith, up, new.high)) }

pub settled_as : (end : AuditEnd) (first : ℕ) (w : List Entry) (files : Files) (clock : Clock Left) → EndsAt end first w files clock → Settled (telling_of end.total first) files clock
settled_as end first w files clock e x now = entries_settled end.total end.tag first end.file end.count files x.files e.low end.high e.writes (λ g from upto. e.settled g from upto x now)

-- ---- a structure file is written

pub ends_written : (end : AuditEnd) (first : ℕ) (w : List Entry) (f b : ℕ) (files later : Files) (old new : Clock Left) → 30000 < f → EndsAt end first w files old → InFile f (Torn (1024 * b) 1024) files later
    → Steps (OnDisk f (Torn (1024 * b) 1024)) old new → EndsAt end first w later new
ends_written end first w f b files later old new structure e step steps = record {
  low = e.low;
  writes = writes_same end.total end.tag first end.file end.count files later e.writes (λ g from upto. step.others g (λ is. omega (arith, structure, upto, end.high, is)));
  settled = λ g from upto x now.
      let other : g ≡ f → ⊥ = λ is. omega (arith, structure, upto, end.high, is) in
      let after = steps.follows x now in
      after.2.files.others g other ∙ e.settled g from upto after.0 after.1 ∙ sym (step.others g other);
  waits = e.waits;
  kind = e.kind;
}

-- ---- entries of the program

pub image_seen : (f b : ℕ) (before : Option (Bor (List ℕ))) (after : Bor (List ℕ)) → entry_seen (Image f b before after) ≡ image f b (option_copied before) after.now
image_seen f b None after = refl
image_seen f b (Some old) after = refl
