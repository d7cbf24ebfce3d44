-- A block sealed at the end of a trail.
use Rattle.std.proofs.Common.{◌≡◌, ◌≢◌, ◌⊎◌, inl, inr, ℕ, zero, suc, ◌+◌, ◌-◌, ◌^◌, ◌<◌, ◌≤◌, false, List, [], ◌∷◌, ◌++◌, take, drop, map, length, refl, sym, ◌∙◌, ap, subst, arith, append-nil, append_assoc}
use Rattle.dms_moments.specs.Moments.{Now}
use Rattle.std.specs.Prelude.{OnOk}
use Rattle.std.specs.declared.result.Result.{Result}
use Rattle.std.specs.declared.result.Result.TheVariants.{Ok, Err}
use Rattle.dms_moments.specs.MomentLaws.{runs_none}
use Rattle.dms_site.specs.Files.{OnlyIn}
use Rattle.dms_history.specs.Entries.{Entry, schema_part, image, byte_range, quiet_point, control_point, begin_restore, is_begin}
use Rattle.dms_audrec.specs.Spelling.{spelling, IsEntry}
use Rattle.dms_audfile.specs.declared.audit_end.AuditEnd.{AuditEnd}
use Rattle.dms_audfile.specs.Blocks.{block_entries}
use Rattle.dms_audfile.specs.BlockLaws.{spellings, AreNoBegins, IsAlone, entered_at, block_of}
use Rattle.dms_audfile.specs.Trail.{trail_from}
use Rattle.dms_audfile.specs.TrailEntries.{entry_of, entries_of, entries_in, trail_entries}
use Rattle.dms_audfile.specs.Ends.{EndsAt, HoldsAnEntry, Grown, Seals, Appends}
use Rattle.dms_audfile.specs.EndLaws.{filled_on}
use Rattle.std.proofs.lemmas.Bool.{cases_lt, false≢true}
use Rattle.dms_audfile.proofs.BlockRead.{block_is_read}
use Rattle.dms_audfile.proofs.Growing.{writes_same}
use Rattle.dms_audfile.proofs.Gates.{stands_full}
use Rattle.dms_audfile.proofs.Several.{trail_same}
use Rattle.std.proofs.lemmas.Nat.{from_be_bytes-to_be_bytes_8}
use Rattle.dms_moments.specs.Moments.{Clock, Steps}
use Rattle.dms_site.specs.Files.{Files, Left, range}
use Rattle.dms_audfile.specs.Header.{new_header, tag_said}
use Rattle.dms_audfile.specs.Sealing.{IsWrittenUpTo, GrowsLeft}

pub tag_new : (k total tag : ℕ) → tag < 2 ^ 64 → tag_said (new_header k total tag) ≡ tag
unfolding tag_said new_header range
tag_new k total tag small = from_be_bytes-to_be_bytes_8 tag small

-- by the same tag and contents
pub grows_as : (h tag total first f : ℕ) (a b : List (List ℕ)) (x y : Clock Left) → h ≡ tag → a ≡ b → Steps (GrowsLeft total h first f a) x y → Steps (GrowsLeft total tag first f b) x y
grows_as h tag total first f a b x y same is steps =
    subst (λ (l : List (List ℕ)). Steps (GrowsLeft total tag first f l) x y) is (subst (λ k. Steps (GrowsLeft total k first f a) x y) same steps)

-- ---- entries of a trail

pub entered_entries : (at : ℕ) (es : List Entry) → map entry_of (entered_at at es) ≡ es
entered_entries at [] = refl
entered_entries at (e ∷ es) = ap (λ (l : List Entry). e ∷ l) (entered_entries (at + length (spelling e)) es)

pub block_holds : (es : List Entry) → AreNoBegins es ⊎ IsAlone es → length (spellings es) ≤ 4094 → entries_of (block_entries (block_of es)) ≡ es
block_holds es kind few = ap entries_of (block_is_read es kind few) ∙ entered_entries 2 es

-- the entries are those of the files that the trail reaches
pub entries_settled : (total tag first f n : ℕ) (old new : Files) → 10001 ≤ first → f ≤ 20000 → IsWrittenUpTo total tag first f n old → ((g : ℕ) → first ≤ g → g ≤ f → new g ≡ old g) → trail_entries total first new ≡ trail_entries total first old
unfolding trail_entries
entries_settled total tag first f n old new low high w same =
    ap entries_in (trail_same (f - first) 10000 total first f old new (omega (arith, w.order)) (omega (arith, w.order)) w.full (stands_full total n (old f) w.stands w.not_full) same)

all_taken : (es : List Entry) → take (length es) es ≡ es
all_taken [] = refl
all_taken (e ∷ es) = ap (λ (l : List Entry). e ∷ l) (all_taken es)

-- a writer is in the first file that isn't full
pub writes_once : (total tag first f n g m : ℕ) (files : Files) → IsWrittenUpTo total tag first f n files → IsWrittenUpTo total tag first g m files → g ≤ f
writes_once total tag first f n g m files w v = elim (cases_lt f g) [
  | inl before ↦ absurd (false≢true (sym (stands_full total n (files f) w.stands w.not_full) ∙ v.full f w.order before))
  | inr not ↦ not
]

entered_length : (at : ℕ) (es : List Entry) → length (entered_at at es) ≡ length es
entered_length at [] = refl
entered_length at (e ∷ es) = ap suc (entered_length (at + length (spelling e)) es)

pub block_filled : (es : List Entry) → AreNoBegins es ⊎ IsAlone es → length (spellings es) ≤ 4094 → 0 < length es → HoldsAnEntry (block_of es)
block_filled es kind few some = record { entries = entered_at 2 es; read = block_is_read es kind few; some = omega (arith, some, entered_length 2 es) }

pub grown_none : (total first : ℕ) (files : Files) → Grown total first files files
grown_none total first files = record { made = []; trail = sym (append-nil (trail_from 10000 total first files)); filled = tt }

pub grown_on : (total first : ℕ) (a b c : Files) → Grown total first a b → Grown total first b c → Grown total first a c
grown_on total first a b c one two = record {
  made = one.made ++ two.made;
  trail = two.trail ∙ ap (λ (l : List (List ℕ)). l ++ two.made) one.trail ∙ append_assoc (trail_from 10000 total first a) one.made two.made;
  filled = filled_on one.made two.made one.filled two.filled;
}

-- no entry is without bytes
no_bytes : (e : Entry) (rest : List ℕ) → IsEntry e → spelling e ++ rest ≢ []
no_bytes (schema_part part parts bytes) rest is none = absurd cc
no_bytes (image f b before after) rest is none = absurd cc
no_bytes (byte_range f b place bytes) rest is none = absurd cc
no_bytes (quiet_point n) rest is none = absurd cc
no_bytes (control_point n next counts) rest is none = absurd cc
no_bytes (begin_restore n kind) rest is none = absurd cc

pub entry_long : (e : Entry) → IsEntry e → 0 < length (spelling e)
entry_long (schema_part part parts bytes) is = omega arith
entry_long (image f b before after) is = omega arith
entry_long (byte_range f b place bytes) is = omega arith
entry_long (quiet_point n) is = omega arith
entry_long (control_point n next counts) is = omega arith
entry_long (begin_restore n kind) is = omega arith

pub none_waits : (es : List Entry) → AreNoBegins es ⊎ IsAlone es → [] ≡ spellings es → es ≡ []
none_waits [] kind none = refl
none_waits (e ∷ es) (inl plain) none = absurd (no_bytes e (spellings es) plain.0 (sym none))
none_waits (e ∷ es) (inr alone) none = absurd (no_bytes alone.entry [] alone.fits (sym (none ∙ ap spellings alone.is)))

-- nothing is done
pub seals_none : (total tag first f n : ℕ) (es : List Entry) (files : Files) (a : Clock Left) → IsWrittenUpTo total tag first f n files → ((g : ℕ) → first ≤ g → g ≤ f → OnlyIn g files a) → f ≤ 20000 → Steps (Seals total tag first es) a a
seals_none total tag first f n es files a w settled high = record { follows = λ x now. (x, now, here x now); runs = runs_none a _ }
  where
    writes_at : (x : Left) → Now a x → IsWrittenUpTo total tag first f n x.files
    writes_at x now = writes_same total tag first f n files x.files w (λ g low high. settled g low high x now)

    here : (x : Left) → Now a x → Seals total tag first es x x
    here x now = record {
      some = 0;
      entries = sym (append-nil (trail_entries total first x.files));
      grown = grown_none total first x.files;
      file = f;
      count = n;
      high = high;
      writes = writes_at x now;
      later = λ g m v. writes_once total tag first f n g m x.files (writes_at x now) v;
      behind = λ g far. refl;
      below = λ g less. refl;
      above = λ g more. refl;
      said = refl;
    }

-- ---- one entry more

take_behind : (a b : List Entry) (j : ℕ) → take (length a + j) (a ++ b) ≡ a ++ take j b
take_behind [] b j = let e : 0 + j ≡ j = omega arith in ap (λ k. take k b) e
take_behind (x ∷ a) b j = let e : length (x ∷ a) + j ≡ suc (length a + j) = omega arith in ap (λ k. take k (x ∷ (a ++ b))) e ∙ ap (λ (l : List Entry). x ∷ l) (take_behind a b j)

drop_behind : (a b : List Entry) (j : ℕ) → drop (length a + j) (a ++ b) ≡ drop j b
drop_behind [] b j = let e : 0 + j ≡ j = omega arith in ap (λ k. drop k b) e
drop_behind (x ∷ a) b j = let e : length (x ∷ a) + j ≡ suc (length a + j) = omega arith in ap (λ k. drop k (x ∷ (a ++ b))) e ∙ drop_behind a b j

parts_of : (k : ℕ) (es more : List Entry) → take k es ++ (drop k es ++ more) ≡ es ++ more
parts_of zero es more = refl
parts_of (suc k) [] more = refl
parts_of (suc k) (e ∷ es) more = ap (λ (l : List Entry). e ∷ l) (parts_of k es more)

taken : (k j : ℕ) (es more : List Entry) → take (length (take k es) + j) (es ++ more) ≡ take k es ++ take j (drop k es ++ more)
taken k j es more = ap (λ (l : List Entry). take (length (take k es) + j) l) (sym (parts_of k es more)) ∙ take_behind (take k es) (drop k es ++ more) j

dropped : (k j : ℕ) (es more : List Entry) → drop (length (take k es) + j) (es ++ more) ≡ drop j (drop k es ++ more)
dropped k j es more = ap (λ (l : List Entry). drop (length (take k es) + j) l) (sym (parts_of k es more)) ∙ drop_behind (take k es) (drop k es ++ more) j

plain_drop : (k : ℕ) (es : List Entry) → AreNoBegins es → AreNoBegins (drop k es)
plain_drop zero es plain = plain
plain_drop (suc k) [] plain = tt
plain_drop (suc k) (e ∷ es) plain = plain_drop k es plain.2

pub plain_more : (es : List Entry) (e : Entry) → AreNoBegins es → IsEntry e → is_begin e ≡ false → AreNoBegins (es ++ e ∷ [])
plain_more [] e plain is off = (is, off, tt)
plain_more (x ∷ es) e plain is off = (plain.0, plain.1, plain_more es e plain.2 is off)

pub spellings_more : (es : List Entry) (e : Entry) → spellings (es ++ e ∷ []) ≡ spellings es ++ spelling e
spellings_more [] e = append-nil (spelling e)
spellings_more (x ∷ es) e = ap (λ (l : List ℕ). spelling x ++ l) (spellings_more es e) ∙ sym (append_assoc (spelling x) (spellings es) (spelling e))

-- fewer entries are sealed
pub seals_first : (total tag first : ℕ) (es more : List Entry) (z x : Left) → Seals total tag first es z x → Seals total tag first (es ++ more) z x
seals_first total tag first es more z x s = record {
  some = length (take s.some es) + 0;
  entries = s.entries ∙ ap (λ (l : List Entry). trail_entries total first z.files ++ l) (sym (append-nil (take s.some es)) ∙ sym (taken s.some 0 es more));
  grown = s.grown;
  later = s.later;
  behind = s.behind;
  file = s.file;
  count = s.count;
  high = s.high;
  writes = s.writes;
  below = s.below;
  above = s.above;
  said = s.said;
}

-- one seal behind another that is whole
pub seals_then : (total tag first k : ℕ) (es more : List Entry) (z y x : Left) → trail_entries total first y.files ≡ trail_entries total first z.files ++ take k es
    → Seals total tag first es z y → Seals total tag first (drop k es ++ more) y x → Seals total tag first (es ++ more) z x
seals_then total tag first k es more z y x whole one two = record {
  some = length (take k es) + two.some;
  entries = two.entries ∙ ap (λ (l : List Entry). l ++ take two.some (drop k es ++ more)) whole ∙ append_assoc (trail_entries total first z.files) (take k es) (take two.some (drop k es ++ more))
      ∙ ap (λ (l : List Entry). trail_entries total first z.files ++ l) (sym (taken k two.some es more));
  grown = grown_on total first z.files y.files x.files one.grown two.grown;
  file = two.file;
  count = two.count;
  high = two.high;
  writes = two.writes;
  later = λ g m v. omega (arith, one.later g m v, two.later one.file one.count one.writes);
  behind = λ g far. two.behind g far ∙ one.behind g (omega (arith, far, two.later one.file one.count one.writes));
  below = λ g less. two.below g less ∙ one.below g less;
  above = λ g high. two.above g high ∙ one.above g high;
  said = two.said ∙ one.said;
}

-- what waits is sealed, or stays
pub appends_all : (end : AuditEnd) (first : ℕ) (es : List Entry) (old new : Files) (clock : Clock Left) → trail_entries end.total first new ≡ trail_entries end.total first old ++ es → Grown end.total first old new → EndsAt end first [] new clock → Appends end first es old new clock
appends_all end first es old new clock sealed grown ends =
    let none : drop (length es) es ≡ [] = all_dropped es in
    record {
      some = length es;
      sealed = sealed ∙ ap (λ (l : List Entry). trail_entries end.total first old ++ l) (sym (all_taken es));
      grown = grown;
      ends = subst (λ (l : List Entry). EndsAt end first l new clock) (sym none) ends;
      plain = subst (λ (l : List Entry). AreNoBegins l) (sym none) tt;
    }
  where
    all_dropped : (es : List Entry) → drop (length es) es ≡ []
    all_dropped [] = refl
    all_dropped (e ∷ es) = all_dropped es

pub appends_none : (end : AuditEnd) (first : ℕ) (es : List Entry) (files : Files) (clock : Clock Left) → AreNoBegins es → EndsAt end first es files clock → Appends end first es files files clock
appends_none end first es files clock plain ends = record { some = 0; sealed = sym (append-nil (trail_entries end.total first files)); grown = grown_none end.total first files; ends = ends; plain = plain }

-- ---- for the code

-- what a stop leaves between two calls
pub between : (s one : AuditEnd) (first k : ℕ) (es rest : List Entry) (old mid : Files) (a b : Clock Left) (z y : Left) → EndsAt s first es old a → EndsAt one first rest mid b → one.total ≡ s.total → s.file ≤ 20000 → one.file ≤ 20000
    → trail_entries one.total first mid ≡ trail_entries one.total first old ++ take k es → Now a z → Now b y → trail_entries s.total first y.files ≡ trail_entries s.total first z.files ++ take k es
between s one first k es rest old mid a b z y at then same high high_one sealed was now =
    let e0 : trail_entries s.total first z.files ≡ trail_entries s.total first old = entries_settled s.total s.tag first s.file s.count old z.files at.low high at.writes (λ g from upto. at.settled g from upto z was) in
    let e1 : trail_entries one.total first y.files ≡ trail_entries one.total first mid = entries_settled one.total one.tag first one.file one.count mid y.files then.low high_one then.writes (λ g from upto. then.settled g from upto y now) in
    subst (λ t. trail_entries t first y.files ≡ trail_entries t first old ++ take k es) same (e1 ∙ sealed) ∙ ap (λ (l : List Entry). l ++ take k es) (sym e0)

pub appends_held : (one new : AuditEnd) (first : ℕ) (es : List Entry) (e : Entry) (old mid : Files) (clock : Clock Left) (m : Appends one first es old mid clock) → new.total ≡ one.total → EndsAt new first (drop m.some es ++ e ∷ []) mid clock → IsEntry e → is_begin e ≡ false
    → Appends new first (es ++ e ∷ []) old mid clock
appends_held one new first es e old mid clock m same ends is off =
    let more : drop (length (take m.some es) + 0) (es ++ e ∷ []) ≡ drop m.some es ++ e ∷ [] = dropped m.some 0 es (e ∷ []) in
    record {
      some = length (take m.some es) + 0;
      sealed = subst (λ t. trail_entries t first mid ≡ trail_entries t first old ++ take m.some es) (sym same) m.sealed
          ∙ ap (λ (l : List Entry). trail_entries new.total first old ++ l) (sym (append-nil (take m.some es)) ∙ sym (taken m.some 0 es (e ∷ [])));
      grown = subst (λ t. Grown t first old mid) (sym same) m.grown;
      ends = subst (λ (l : List Entry). EndsAt new first l mid clock) (sym more) ends;
      plain = subst (λ (l : List Entry). AreNoBegins l) (sym more) (plain_more (drop m.some es) e m.plain is off);
    }

pub appends_begun : (one new : AuditEnd) (first : ℕ) (es more : List Entry) (old mid files : Files) (b clock : Clock Left) (m : Appends one first es old mid b) → new.total ≡ one.total
    → trail_entries one.total first files ≡ trail_entries one.total first mid ++ (drop m.some es ++ more) → Grown one.total first mid files → EndsAt new first [] files clock → Appends new first (es ++ more) old files clock
appends_begun one new first es more old mid files b clock m same sealed grown ends =
    appends_all new first (es ++ more) old files clock (subst (λ t. trail_entries t first files ≡ trail_entries t first old ++ (es ++ more)) (sym same)
    (sealed ∙ ap (λ (l : List Entry). l ++ (drop m.some es ++ more)) m.sealed ∙ append_assoc (trail_entries one.total first old) (take m.some es) (drop m.some es ++ more)
    ∙ ap (λ (l : List Entry). trail_entries one.total first old ++ l) (parts_of m.some es more)))
    (subst (λ t. Grown t first old files) (sym same) (grown_on one.total first old mid files m.grown grown)) ends

pub on_both : {T F : Type 0} (r : Result T F) (A B : Type 0) → OnOk r A → OnOk r B → OnOk r (A × B)
on_both (Ok x) A B a b = (a, b)
on_both (Err e) A B a b = tt

pub steps_as : (t total h tag first : ℕ) (es : List Entry) (x y : Clock Left) → t ≡ total → h ≡ tag → Steps (Seals t h first es) x y → Steps (Seals total tag first es) x y
steps_as t total h tag first es x y one two steps = subst (λ k. Steps (Seals total k first es) x y) two (subst (λ k. Steps (Seals k h first es) x y) one steps)
