-- Entries that wait, block by block.
use Rattle.std.proofs.Common.{ℕ, zero, suc, ◌+◌, ◌<◌, ◌≤◌, ◌≡◌, ◌≢◌, ◌⊎◌, inl, inr, true, List, [], ◌∷◌, ◌++◌, length, take, drop, map, refl, sym, ◌∙◌, ap, subst, arith, append-nil, append_assoc, length-take, length-drop}
use Rattle.std.proofs.lemmas.Bool.{cases_lt, cases_Bool}
use Rattle.std.proofs.lemmas.List.{take-map, map-append}
use Rattle.dms_moments.specs.Moments.{Clock}
use Rattle.dms_site.specs.Files.{Files, Left}
use Rattle.dms_history.specs.Entries.{Entry, is_begin}
use Rattle.dms_audrec.specs.Spelling.{spelling, IsEntry}
use Rattle.dms_audfile.specs.declared.audit_end.AuditEnd.{AuditEnd}
use Rattle.dms_audfile.specs.Blocks.{block_entries}
use Rattle.dms_audfile.specs.BlockLaws.{spellings, AreNoBegins, IsAlone, block_of}
use Rattle.dms_audfile.specs.Trail.{trail_from}
use Rattle.dms_audfile.specs.TrailEntries.{entries_of, entries_in, trail_entries}
use Rattle.dms_audfile.specs.Unsealed.{block_with}
use Rattle.dms_audfile.specs.Sealing.{IsWrittenUpTo, GrowsLeft}
use Rattle.dms_audfile.specs.Ends.{unsealed_bytes, full_blocks, all_in, AllFill, Waits, EndsAt, AllHoldAnEntry, Grown, Seals, SealsAll}
use Rattle.dms_audfile.specs.EndLaws.{none_full}
use Rattle.dms_audfile.proofs.Ended.{block_holds, block_filled, none_waits, plain_more, spellings_more, writes_once, grown_none}

-- ---- entries of blocks

entries_on : (bs cs : List (List ℕ)) → entries_in (bs ++ cs) ≡ entries_in bs ++ entries_in cs
entries_on [] cs = refl
entries_on (b ∷ bs) cs = ap (λ (l : List Entry). entries_of (block_entries b) ++ l) (entries_on bs cs) ∙ sym (append_assoc (entries_of (block_entries b)) (entries_in bs) (entries_in cs))

entries_all : (parts : List (List Entry)) → AllFill parts → entries_in (map block_of parts) ≡ all_in parts
entries_all [] filled = refl
entries_all (es ∷ more) filled = λ i. block_holds es filled.0.kind filled.0.fits i ++ entries_all more filled.1 i

all_on : (a b : List (List Entry)) → all_in (a ++ b) ≡ all_in a ++ all_in b
all_on [] b = refl
all_on (es ∷ a) b = ap (λ (l : List Entry). es ++ l) (all_on a b) ∙ sym (append_assoc es (all_in a) (all_in b))

fill_on : (a b : List (List Entry)) → AllFill a → AllFill b → AllFill (a ++ b)
fill_on [] b one two = two
fill_on (es ∷ a) b one two = (one.0, fill_on a b one.1 two)

fill_front : (k : ℕ) (parts : List (List Entry)) → AllFill parts → AllFill (take k parts)
fill_front zero parts filled = tt
fill_front (suc k) [] filled = tt
fill_front (suc k) (es ∷ more) filled = (filled.0, fill_front k more filled.1)

hold_all : (parts : List (List Entry)) → AllFill parts → AllHoldAnEntry (map block_of parts)
hold_all [] filled = tt
hold_all (es ∷ more) filled = (block_filled es filled.0.kind filled.0.fits filled.0.some, hold_all more filled.1)

taken_behind : (a b : List Entry) (j : ℕ) → take (length a + j) (a ++ b) ≡ a ++ take j b
taken_behind [] b j = let e : 0 + j ≡ j = omega arith in ap (λ k. take k b) e
taken_behind (x ∷ a) b j = let e : length (x ∷ a) + j ≡ suc (length a + j) = omega arith in ap (λ k. take k (x ∷ (a ++ b))) e ∙ ap (λ (l : List Entry). x ∷ l) (taken_behind a b j)

-- the entries of the first blocks are the first entries
front_all : (k : ℕ) (parts : List (List Entry)) → take (length (all_in (take k parts))) (all_in parts) ≡ all_in (take k parts)
front_all zero parts = refl
front_all (suc k) [] = refl
front_all (suc k) (es ∷ more) =
    let rest = all_in (take k more) in
    let e : length (es ++ rest) ≡ length es + length rest = omega (arith, length-both es rest) in
    ap (λ n. take n (es ++ all_in more)) e ∙ taken_behind es (all_in more) (length rest) ∙ ap (λ (l : List Entry). es ++ l) (front_all k more)
  where
    length-both : (a b : List Entry) → length (a ++ b) ≡ length a + length b
    length-both [] b = let e : length b ≡ 0 + length b = omega arith in e
    length-both (x ∷ a) b = let e : suc (length a + length b) ≡ length (x ∷ a) + length b = omega arith in ap suc (length-both a b) ∙ e

-- ---- a trail with the first of them

entries_grow : (total first k : ℕ) (parts : List (List Entry)) (old new : Files) → AllFill parts → trail_from 10000 total first new ≡ trail_from 10000 total first old ++ take k (map block_of parts)
    → trail_entries total first new ≡ trail_entries total first old ++ all_in (take k parts)
unfolding trail_entries
entries_grow total first k parts old new filled trail =
    let trail_old = trail_from 10000 total first old in
    ap entries_in trail ∙ entries_on trail_old (take k (map block_of parts))
    ∙ ap (λ (l : List Entry). entries_in trail_old ++ l) (ap entries_in (take-map block_of k parts) ∙ entries_all (take k parts) (fill_front k parts filled))

pub entries_grown : (total first : ℕ) (parts : List (List Entry)) (old new : Files) → AllFill parts → trail_from 10000 total first new ≡ trail_from 10000 total first old ++ map block_of parts
    → trail_entries total first new ≡ trail_entries total first old ++ all_in parts
unfolding trail_entries
entries_grown total first parts old new filled trail =
    let trail_old = trail_from 10000 total first old in
    ap entries_in trail ∙ entries_on trail_old (map block_of parts) ∙ ap (λ (l : List Entry). entries_in trail_old ++ l) (entries_all parts filled)

pub grown_all : (total first : ℕ) (parts : List (List Entry)) (old new : Files) → AllFill parts → trail_from 10000 total first new ≡ trail_from 10000 total first old ++ map block_of parts → Grown total first old new
grown_all total first parts old new filled trail = record { made = map block_of parts; trail = trail; filled = hold_all parts filled }

pub seals_of : (total tag first f n : ℕ) (parts : List (List Entry)) (z x : Left) → 10001 ≤ first → IsWrittenUpTo total tag first f n z.files → f < 20000 → AllFill parts
    → GrowsLeft total tag first f (map block_of parts) z x → Seals total tag first (all_in parts) z x
seals_of total tag first f n parts z x low w high filled grows =
    let k = grows.files.some in
    let trail = grows.files.trail 10000 (omega (arith, w.order)) in
    record {
      some = length (all_in (take k parts));
      entries = entries_grow total first k parts z.files x.files filled trail ∙ ap (λ (l : List Entry). trail_entries total first z.files ++ l) (sym (front_all k parts));
      grown = record { made = take k (map block_of parts); trail = trail; filled = subst AllHoldAnEntry (sym (take-map block_of k parts)) (hold_all (take k parts) (fill_front k parts filled)) };
      file = grows.files.file;
      count = grows.files.count;
      high = omega (arith, high, grows.files.high);
      writes = grows.files.writes;
      later = λ g m v. omega (arith, writes_once total tag first f n g m z.files w v, grows.files.low);
      behind = λ g far. grows.files.others g (omega (arith, far, grows.files.low, grows.files.high)) (omega (arith, far, grows.files.low, grows.files.high));
      below = λ g less. grows.files.others g (omega (arith, less, w.order)) (omega (arith, less, w.order));
      above = λ g more. grows.files.others g (omega (arith, more, high)) (omega (arith, more, high));
      said = grows.said;
    }

-- ---- what waits

nothing_mapped : (parts : List (List Entry)) → [] ≡ map block_of parts → parts ≡ []
nothing_mapped [] none = refl
nothing_mapped (es ∷ more) none = absurd cc

pub waits_empty : (end : AuditEnd) (es : List Entry) → end.used ≡ 0 → Waits end es → es ≡ []
waits_empty end es none w =
    let before : w.before ≡ [] = nothing_mapped w.before (sym (none_full end none) ∙ w.full) in
    let last : w.last ≡ [] = none_waits w.last w.kind (sym (ap (λ k. take k (drop 2 end.block.items)) none) ∙ w.bytes) in
    w.are ∙ (λ i. all_in (before i) ++ last i)

last_few : (end : AuditEnd) (es : List Entry) (w : Waits end es) → length (spellings w.last) ≤ 4094
last_few end es w = omega (arith, ap length w.bytes, length-take end.used (drop 2 end.block.items), end.few)

last_some : (end : AuditEnd) (last : List Entry) → unsealed_bytes end ≡ spellings last → end.used ≢ 0 → 0 < length last
last_some end [] is some = absurd (some (omega (arith, ap length is, length-take end.used (drop 2 end.block.items), length-drop 2 end.block.items, end.block_size, end.few)))
last_some end (e ∷ es) is some = omega arith

-- the entries of the blocks that are sealed next
abbrev pub parts_of : (end : AuditEnd) (es : List Entry) → Waits end es → List (List Entry)
parts_of end es w = w.before ++ w.last ∷ []

pub parts_filled : (end : AuditEnd) (es : List Entry) (w : Waits end es) → end.used ≢ 0 → AllFill (parts_of end es w)
parts_filled end es w some = fill_on w.before (w.last ∷ []) w.filled (record { kind = w.kind; fits = last_few end es w; some = last_some end w.last w.bytes some }, tt)

pub parts_are : (end : AuditEnd) (es : List Entry) (w : Waits end es) → all_in (parts_of end es w) ≡ es
parts_are end es w = all_on w.before (w.last ∷ []) ∙ ap (λ (l : List Entry). all_in w.before ++ l) (append-nil w.last) ∙ sym w.are

pub parts_blocks : (end : AuditEnd) (es : List Entry) (w : Waits end es) → full_blocks end ++ block_with (unsealed_bytes end) ∷ [] ≡ map block_of (parts_of end es w)
parts_blocks end es w = (λ i. w.full i ++ block_with (w.bytes i) ∷ []) ∙ sym (map-append block_of w.before (w.last ∷ []))

nothing_behind : (a b : List Entry) → [] ≡ a ++ b → b ≡ []
nothing_behind [] b is = sym is
nothing_behind (e ∷ a) b is = absurd cc

-- where no entry waits no byte does
pub waits_nothing : (end : AuditEnd) → Waits end [] → end.used ≡ 0
waits_nothing end w =
    let none : unsealed_bytes end ≡ [] = w.bytes ∙ ap spellings (nothing_behind (all_in w.before) w.last w.are) in
    omega (arith, ap length none, length-take end.used (drop 2 end.block.items), length-drop 2 end.block.items, end.block_size, end.few)

-- they are what the blocks hold
pub waiting_is : (end : AuditEnd) (es : List Entry) → Waits end es → entries_in (full_blocks end) ++ entries_of (block_entries (block_with (unsealed_bytes end))) ≡ es
waiting_is end es w =
    (λ i. entries_in (w.full i) ++ entries_of (block_entries (block_with (w.bytes i))))
    ∙ (λ i. entries_all w.before w.filled i ++ block_holds w.last w.kind (last_few end es w) i) ∙ sym w.are

-- ---- one entry more

plain_last : (a b : List Entry) → AreNoBegins (a ++ b) → AreNoBegins b
plain_last [] b plain = plain
plain_last (e ∷ a) b plain = plain_last a b plain.2

module _ (end new : AuditEnd) (es : List Entry) (e : Entry) (w : Waits end es) (plain : AreNoBegins es) (is : IsEntry e) (size : length (spelling e) ≤ 4094) (alone : is_begin e ≡ true → end.used ≡ 0) where
  last_plain : AreNoBegins w.last
  last_plain = plain_last (all_in w.before) w.last (subst AreNoBegins w.are plain)

  entry_kind : AreNoBegins (e ∷ []) ⊎ IsAlone (e ∷ [])
  entry_kind = inr (record { entry = e; is = refl; fits = is })

  behind_last : end.used + length (spelling e) ≤ 4094 → full_blocks new ≡ full_blocks end → unsealed_bytes new ≡ unsealed_bytes end ++ spelling e → Waits new (es ++ e ∷ [])
  behind_last fits full bytes = record {
    before = w.before;
    last = w.last ++ e ∷ [];
    are = ap (λ (l : List Entry). l ++ e ∷ []) w.are ∙ append_assoc (all_in w.before) w.last (e ∷ []);
    full = full ∙ w.full;
    filled = w.filled;
    bytes = bytes ∙ ap (λ (l : List ℕ). l ++ spelling e) w.bytes ∙ sym (spellings_more w.last e);
    kind = elim (cases_Bool (is_begin e)) [
      | inl on ↦ (let none : w.last ≡ [] = none_waits w.last w.kind (sym (ap (λ k. take k (drop 2 end.block.items)) (alone on)) ∙ w.bytes) in
          subst (λ (l : List Entry). AreNoBegins (l ++ e ∷ []) ⊎ IsAlone (l ++ e ∷ [])) (sym none) entry_kind)
      | inr off ↦ inl (plain_more w.last e last_plain is off)
    ];
  }

  in_next : 4094 < end.used + length (spelling e) → full_blocks new ≡ full_blocks end ++ block_with (unsealed_bytes end) ∷ [] → unsealed_bytes new ≡ spelling e → Waits new (es ++ e ∷ [])
  in_next over full bytes = record {
    before = w.before ++ w.last ∷ [];
    last = e ∷ [];
    are = ap (λ (l : List Entry). l ++ e ∷ []) (sym (parts_are end es w));
    full = full ∙ parts_blocks end es w;
    filled = parts_filled end es w (λ none. omega (arith, over, size, none));
    bytes = bytes ∙ sym (append-nil (spelling e));
    kind = entry_kind;
  }

  pub waits_more : (end.used + length (spelling e) ≤ 4094 → (full_blocks new ≡ full_blocks end) × (unsealed_bytes new ≡ unsealed_bytes end ++ spelling e))
      → (4094 < end.used + length (spelling e) → (full_blocks new ≡ full_blocks end ++ block_with (unsealed_bytes end) ∷ []) × (unsealed_bytes new ≡ spelling e)) → Waits new (es ++ e ∷ [])
  waits_more one two = elim (cases_lt 4094 (end.used + length (spelling e))) [
    | inl over ↦ in_next over (two over).0 (two over).1
    | inr fits ↦ behind_last (omega (arith, fits)) (one (omega (arith, fits))).0 (one (omega (arith, fits))).1
  ]

-- an entry is held behind those that wait
pub held_ends : (end new : AuditEnd) (first : ℕ) (es : List Entry) (e : Entry) (files : Files) (clock : Clock Left) → EndsAt end first es files clock → AreNoBegins es → IsEntry e → length (spelling e) ≤ 4094 → (is_begin e ≡ true → end.used ≡ 0)
    → (end.used + length (spelling e) ≤ 4094 → (full_blocks new ≡ full_blocks end) × (unsealed_bytes new ≡ unsealed_bytes end ++ spelling e))
    → (4094 < end.used + length (spelling e) → (full_blocks new ≡ full_blocks end ++ block_with (unsealed_bytes end) ∷ []) × (unsealed_bytes new ≡ spelling e))
    → new.total ≡ end.total → new.tag ≡ end.tag → new.file ≡ end.file → new.count ≡ end.count → EndsAt new first (es ++ e ∷ []) files clock
held_ends end new first es e files clock at plain is size alone one two total tag file count = record {
  low = at.low;
  writes = subst (λ (f : ℕ). IsWrittenUpTo new.total new.tag first f new.count files) (sym file) (subst (λ c. IsWrittenUpTo new.total new.tag first end.file c files) (sym count)
      (subst (λ t. IsWrittenUpTo new.total t first end.file end.count files) (sym tag) (subst (λ t. IsWrittenUpTo t end.tag first end.file end.count files) (sym total) at.writes)));
  settled = λ g low high. at.settled g low (omega (arith, high, file));
  waits = waits_more end new es e at.waits plain is size alone one two;
  kind = elim (cases_Bool (is_begin e)) [
    | inl on ↦ (let none : es ≡ [] = waits_empty end es (alone on) at.waits in
        inr (record { entry = e; is = ap (λ (l : List Entry). l ++ e ∷ []) none; fits = is }))
    | inr off ↦ inl (plain_more es e plain is off)
  ];
}

-- what waits is sealed, or nothing waits
pub seals_all_none : (end : AuditEnd) (first : ℕ) (es : List Entry) (files : Files) (clock : Clock Left) → end.used ≡ 0 → EndsAt end first es files clock → SealsAll end first es files files clock
seals_all_none end first es files clock none at =
    let no_entry : es ≡ [] = waits_empty end es none at.waits in
    record {
      sealed = sym (append-nil (trail_entries end.total first files)) ∙ ap (λ (l : List Entry). trail_entries end.total first files ++ l) (sym no_entry);
      grown = grown_none end.total first files;
      ends = subst (λ (l : List Entry). EndsAt end first l files clock) no_entry at;
    }

-- ---- for the code

pub seals_as : (end : AuditEnd) (first : ℕ) (es : List Entry) (w : Waits end es) → end.used ≢ 0 → (z x : Left) → 10001 ≤ first → IsWrittenUpTo end.total end.tag first end.file end.count z.files → end.file < 20000
    → GrowsLeft end.total end.tag first end.file (full_blocks end ++ block_with (unsealed_bytes end) ∷ []) z x → Seals end.total end.tag first es z x
seals_as end first es w some z x low writes high grows =
    subst (λ (l : List Entry). Seals end.total end.tag first l z x) (parts_are end es w)
    (seals_of end.total end.tag first end.file end.count (parts_of end es w) z x low writes high (parts_filled end es w some)
    (subst (λ (l : List (List ℕ)). GrowsLeft end.total end.tag first end.file l z x) (parts_blocks end es w) grows))

pub sealed_as : (end : AuditEnd) (first : ℕ) (es : List Entry) (w : Waits end es) → end.used ≢ 0 → (old new : Files)
    → trail_from 10000 end.total first new ≡ trail_from 10000 end.total first old ++ (full_blocks end ++ block_with (unsealed_bytes end) ∷ []) → trail_entries end.total first new ≡ trail_entries end.total first old ++ es
sealed_as end first es w some old new trail =
    entries_grown end.total first (parts_of end es w) old new (parts_filled end es w some) (trail ∙ ap (λ (l : List (List ℕ)). trail_from 10000 end.total first old ++ l) (parts_blocks end es w))
    ∙ ap (λ (l : List Entry). trail_entries end.total first old ++ l) (parts_are end es w)

pub grown_as : (end : AuditEnd) (first : ℕ) (es : List Entry) (w : Waits end es) → end.used ≢ 0 → (old new : Files)
    → trail_from 10000 end.total first new ≡ trail_from 10000 end.total first old ++ (full_blocks end ++ block_with (unsealed_bytes end) ∷ []) → Grown end.total first old new
grown_as end first es w some old new trail =
    grown_all end.total first (parts_of end es w) old new (parts_filled end es w some) (trail ∙ ap (λ (l : List (List ℕ)). trail_from 10000 end.total first old ++ l) (parts_blocks end es w))
