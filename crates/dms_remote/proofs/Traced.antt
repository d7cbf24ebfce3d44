-- What the entries of a copy tell is kept.
use Rattle.std.proofs.Common.{ℕ, zero, suc, ◌+◌, ◌<◌, ◌≤◌, ◌≡◌, ◌∙◌, inl, inr, Bool, true, false, cond, sym, ap, subst, refl, List, [], ◌∷◌, ◌++◌, map, length, append_assoc, append-nil, Option, Some, None, arith}
use Rattle.std.specs.Prelude.{◌==◌}
use Rattle.std.proofs.lemmas.Bool.Decides.{nat_tests}
use Rattle.std.proofs.lemmas.Bool.{cases_eq}
use Rattle.std.proofs.lemmas.List.{length-append, length-map, map-append}
use Rattle.dms_site.specs.Files.{Files}
use Rattle.dms_history.specs.Entries.{Entry}
use Rattle.dms_history.specs.EntryEvents.{history_of}
use Rattle.dms_audfile.specs.AuditTrail.{AreThere}
use Rattle.dms_audfile.specs.Blocks.{EntryInBlock, block_entries}
use Rattle.dms_audfile.specs.Gates.{blocks_from, is_full, count_open, sealed_blocks}
use Rattle.dms_audfile.specs.Scanning.{Placed, TrailRead, broken, whole, then_read, place_in, place_of, places_of, entry_in}
use Rattle.dms_audfile.specs.Trail.{trail_from}
use Rattle.dms_audfile.specs.TrailLaws.{read_trail}
use Rattle.dms_audfile.proofs.Again.{entries_read}
use Rattle.dms_audfile.proofs.Copies.{blocks_are_there}
use Rattle.dms_audfile.proofs.Gates.{stands_opened}
use Rattle.dms_restore.specs.LiveEntries.{logged_live, AllStandWhole}
use Rattle.dms_restore.specs.Scanned.{AreInAudit}
use Rattle.dms_restore.specs.SchemaSpans.{IsSchemaTraced}
use Rattle.dms_restore.specs.Tracing.{IsTraced, MatchesPending, MatchesRestore, FollowsAny}
use Rattle.dms_restore.specs.Traces.{IsTraceOf}
use Rattle.dms_restore.specs.declared.live.LiveEntry.{LiveEntry}
use Rattle.dms_restore.specs.declared.live.PendingAt.{PendingAt}
use Rattle.dms_restore.specs.declared.schemas.SchemaHistory.{SchemaHistory}
use Rattle.dms_restore.specs.declared.tracing.TrailHistory.{TrailHistory}
use Rattle.dms_remote.specs.Settling.{SameHistory}
use Rattle.dms_remote.specs.Traced.{BlockNumber, behind_blocks, TracesTrail, EndsBehind, TracesMore, TracesSame}
use Rattle.dms_remote.proofs.BlockKinds.{said_in}
use Rattle.dms_remote.proofs.Blocks.{full_blocks, part_blocks, part_full}

-- ---- where the next block is

behind_part : (total f k i : ℕ) (file : List ℕ) → i + k ≤ total → behind_blocks total f i (blocks_from k i file) ≡ record { file = f; block = i + k }
behind_part total f zero i file within = ap (λ (n : ℕ). record { file = f; block = n }) (omega arith)
behind_part total f (suc k) i file within =
    let off : (i == total) ≡ false = grind (arith, nat_tests, within) in
    ap (λ (t : Bool). cond t (behind_blocks total (f + 1) 1 (blocks_from k (i + 1) file)) (behind_blocks total f (i + 1) (blocks_from k (i + 1) file))) off
    ∙ behind_part total f k (i + 1) file (omega (arith, within)) ∙ ap (λ (n : ℕ). record { file = f; block = n }) (omega arith)

behind_full : (total f k i : ℕ) (file : List ℕ) (rest : List (List ℕ)) → i + k ≡ total → behind_blocks total f i (blocks_from (suc k) i file ++ rest) ≡ behind_blocks total (f + 1) 1 rest
behind_full total f zero i file rest is =
    let on : (i == total) ≡ true = grind (arith, nat_tests, is) in
    ap (λ (t : Bool). cond t (behind_blocks total (f + 1) 1 rest) (behind_blocks total f (i + 1) rest)) on
behind_full total f (suc k) i file rest is =
    let more = blocks_from (suc k) (i + 1) file ++ rest in
    let off : (i == total) ≡ false = grind (arith, nat_tests, is) in
    ap (λ (t : Bool). cond t (behind_blocks total (f + 1) 1 more) (behind_blocks total f (i + 1) more)) off ∙ behind_full total f k (i + 1) file rest (omega (arith, is))

behind_file : (total f : ℕ) (file : List ℕ) (rest : List (List ℕ)) → 0 < total → behind_blocks total f 1 (blocks_from total 1 file ++ rest) ≡ behind_blocks total (f + 1) 1 rest
behind_file zero f file rest some = absurd (omega (arith, some))
behind_file (suc k) f file rest some = behind_full (suc k) f k 1 file rest (omega arith)

behind_trail : (m total first f n : ℕ) (files : Files) → first ≤ f → f < first + m → 0 < total → n < total → ((g : ℕ) → first ≤ g → g < f → is_full total (files g) ≡ true) → count_open total (files f) ≡ n
    → behind_blocks total first 1 (trail_from m total first files) ≡ record { file = f; block = n + 1 }
behind_trail zero total first f n files order far some less full opened = absurd (omega (arith, order, far))
behind_trail (suc m) total first f n files order far some less full opened = elim (cases_eq first f) [
  | inl is ↦
      (let here : count_open total (files first) ≡ n = ap (λ (g : ℕ). count_open total (files g)) is ∙ opened in
      let rest = trail_from m total (first + 1) files in
      ap (λ (t : Bool). behind_blocks total first 1 (cond t (sealed_blocks total (files first) ++ rest) (sealed_blocks total (files first)))) (part_full total n (files first) here less)
      ∙ ap (λ (bs : List (List ℕ)). behind_blocks total first 1 bs) (part_blocks total n (files first) here)
      ∙ behind_part total first n 1 (files first) (omega (arith, less))
      ∙ (λ i. record { file = is i; block = one i }))
  | inr other ↦
      (let on : is_full total (files first) ≡ true = full first (omega arith) (omega (arith, order, other)) in
      let rest = trail_from m total (first + 1) files in
      ap (λ (t : Bool). behind_blocks total first 1 (cond t (sealed_blocks total (files first) ++ rest) (sealed_blocks total (files first)))) on
      ∙ ap (λ (bs : List (List ℕ)). behind_blocks total first 1 (bs ++ rest)) (full_blocks total (files first) on)
      ∙ behind_file total first (files first) rest some
      ∙ behind_trail m total (first + 1) f n files (omega (arith, order, other)) (omega (arith, far)) some less (λ g from upto. full g (omega (arith, from)) upto) opened)
]
  where
    one : 1 + n ≡ n + 1
    one = omega arith

pub ends_behind : EndsBehind
ends_behind total tag f n blocks files t =
    ap (λ (bs : List (List ℕ)). behind_blocks total 10001 1 bs) (sym t.trail)
    ∙ behind_trail 10000 total 10001 f n files t.writes.order (omega (arith, t.high)) (omega (arith, t.writes.some)) t.writes.not_full t.writes.full (stands_opened total n (files f) t.writes.stands)

-- ---- one block more is read

then_nothing : (r : TrailRead) → then_read r (whole []) ≡ r
then_nothing (broken f b) = refl
then_nothing (whole ps) = ap (λ (l : List Placed). whole l) (append-nil ps)

then_assoc : (a b c : TrailRead) → then_read a (then_read b c) ≡ then_read (then_read a b) c
then_assoc (broken f n) b c = refl
then_assoc (whole ps) (broken f n) c = refl
then_assoc (whole ps) (whole qs) (broken f n) = refl
then_assoc (whole ps) (whole qs) (whole rs) = ap (λ (l : List Placed). whole l) (sym (append_assoc ps qs rs))

nothing_then : (r : TrailRead) → then_read (whole []) r ≡ r
nothing_then (broken f b) = refl
nothing_then (whole ps) = refl

-- a block at that place
abbrev at_place : BlockNumber → List ℕ → TrailRead
at_place p block = places_of p.file p.block (block_entries block)

last_either : (t : Bool) (block : List ℕ) (a b : TrailRead) (p q : BlockNumber) (x y : TrailRead) → x ≡ then_read a (at_place p block) → y ≡ then_read b (at_place q block) → cond t x y ≡ then_read (cond t a b) (at_place (cond t p q) block)
last_either true block a b p q x y one two = one
last_either false block a b p q x y one two = two

none_either : (t : Bool) → cond t (whole []) (whole []) ≡ whole []
none_either true = refl
none_either false = refl

read_last : (total f i : ℕ) (blocks : List (List ℕ)) (block : List ℕ) → read_trail total f i (blocks ++ block ∷ []) ≡ then_read (read_trail total f i blocks) (at_place (behind_blocks total f i blocks) block)
read_last total f i [] block =
    let here = places_of f i (block_entries block) in
    ap (λ (r : TrailRead). then_read here r) (none_either (i == total)) ∙ then_nothing here ∙ sym (nothing_then here)
read_last total f i (b ∷ bs) block =
    let here = places_of f i (block_entries b) in
    ap (λ (r : TrailRead). then_read here r)
    (last_either (i == total) block (read_trail total (f + 1) 1 bs) (read_trail total f (i + 1) bs) (behind_blocks total (f + 1) 1 bs) (behind_blocks total f (i + 1) bs) _ _ (read_last total (f + 1) 1 bs block) (read_last total f (i + 1) bs block))
    ∙ then_assoc here (cond (i == total) (read_trail total (f + 1) 1 bs) (read_trail total f (i + 1) bs)) (at_place (cond (i == total) (behind_blocks total (f + 1) 1 bs) (behind_blocks total f (i + 1) bs)) block)

-- ---- the trace

there_front : (files : Files) (ps qs : List Placed) → AreThere files (ps ++ qs) → AreThere files ps
there_front files [] qs there = tt
there_front files (p ∷ ps) qs there = (there.0, there_front files ps qs there.1)

there_back : (files : Files) (ps qs : List Placed) → AreThere files (ps ++ qs) → AreThere files qs
there_back files [] qs there = there
there_back files (p ∷ ps) qs there = there_back files ps qs there.1

in_audit : (f n : ℕ) (es : List EntryInBlock) → f ≤ 20000 → n ≤ 512 → AreInAudit (map place_in (map (place_of f n) es))
in_audit f n [] low few = tt
in_audit f n (e ∷ es) low few = ((low, few), in_audit f n es low few)

audit_of : (f n : ℕ) (o : Option (List EntryInBlock)) (qs : List Placed) → f ≤ 20000 → n ≤ 512 → places_of f n o ≡ whole qs → AreInAudit (map place_in qs)
audit_of f n None qs low few is = absurd (cc is)
audit_of f n (Some es) qs low few is =
    let same : map (place_of f n) es ≡ qs = cc is in
    subst (λ (l : List Placed). AreInAudit (map place_in l)) same (in_audit f n es low few)

pub traces_trail : TracesTrail
traces_trail total tag f n at blocks files t trail traces =
    subst (λ (es : List Entry). IsTraceOf files es t) (entries_read total 10001 1 blocks traces.placed traces.read)
    (traces.traces files (blocks_are_there total tag 10001 f n blocks files traces.placed trail traces.read))

pub traces_more : TracesMore
traces_more total f n at blocks block places old new next low high some few size reads notes traces = record {
  placed = traces.placed ++ reads.placed;
  read = read_last total 10001 1 blocks block ∙ (λ i. then_read (traces.read i) (at_place (next i) block)) ∙ ap (λ (r : TrailRead). then_read (whole traces.placed) r) reads.read_is;
  many = length-append traces.placed reads.placed ∙ (λ i. traces.many i + long i);
  traces = λ files there.
      subst (λ (es : List Entry). IsTraceOf files es new) (sym (map-append entry_in traces.placed reads.placed))
      (notes files (map entry_in traces.placed) reads.placed reads.places_are (said_in f n block reads.placed low some few size reads.read_is) (there_back files traces.placed reads.placed there)
      (subst AreInAudit (sym reads.places_are) (audit_of f n (block_entries block) reads.placed high few reads.read_is))
      (length-map traces.placed entry_in ∙ traces.many) (traces.traces files (there_front files traces.placed reads.placed there)));
}
  where
    long : length reads.placed ≡ length places
    long = sym (ap length reads.places_are ∙ length-map reads.placed place_in)

pub traced_same : (files : Files) (es : List Entry) (old new : TrailHistory) → SameHistory old new → IsTraced files es old → IsTraced files es new
traced_same files es old new same t = record {
  live_is = t.live_is ∙ ap (λ (l : List LiveEntry). logged_live files l) (sym same.live);
  pending_matches = subst (λ (l : List LiveEntry). MatchesPending files l new.removed.items new.pending (history_of es).pending) (sym same.live)
      (subst (λ (l : List LiveEntry). MatchesPending files old.live.items l new.pending (history_of es).pending) (ap (λ v. v.items) (sym same.removed))
      (subst (λ (o : Option PendingAt). MatchesPending files old.live.items old.removed.items o (history_of es).pending) (sym same.pending) t.pending_matches));
  how_matches = subst (λ (o : Option PendingAt). MatchesRestore o new.rows.items (history_of es).pending) (sym same.pending)
      (subst (λ v. MatchesRestore old.pending v.items (history_of es).pending) (sym same.rows) t.how_matches);
  parts_are = t.parts_are ∙ (λ i. record { read = sym same.read i; all = sym same.all i });
  next_is = t.next_is ∙ sym same.next;
  follows = subst (λ (l : List LiveEntry). FollowsAny es (logged_live files l) new.begun) (sym same.live) (subst (λ (b : Bool). FollowsAny es (logged_live files old.live.items) b) (sym same.begun) t.follows);
  live_whole = subst (AllStandWhole files) (sym same.live) t.live_whole;
  removed_whole = subst (AllStandWhole files) (ap (λ v. v.items) (sym same.removed)) t.removed_whole;
}

pub traces_same : TracesSame
traces_same total at blocks old new same schemas traces = record {
  placed = traces.placed;
  read = traces.read;
  many = traces.many;
  traces = λ files there.
      let t = traces.traces files there in
      let es = map entry_in traces.placed in
      record { history = traced_same files es old.history new.history same t.history; schemas = subst (λ (h : SchemaHistory). IsSchemaTraced es h) (sym schemas) t.schemas };
}
