-- A trail by its blocks.
use Rattle.std.proofs.Common.{ℕ, zero, suc, refl, ◌+◌, ◌-◌, ◌<◌, ◌≤◌, ◌≡◌, inl, inr, true, cond, List, [], ◌∷◌, ◌++◌, map, length, take, sym, ◌∙◌, ap, subst, arith}
use Rattle.std.proofs.lemmas.Bool.{cases_eq, cases_lt}
use Rattle.dms_site.specs.Files.{Files}
use Rattle.dms_audfile.specs.Gates.{is_full, sealed_blocks}
use Rattle.dms_audfile.specs.Trail.{Span, trail_from}
use Rattle.dms_audfile.specs.TrailEntries.{entries_in}
use Rattle.dms_audfile.specs.Scanning.{found, entry_in, scan_files, no_schema}
use Rattle.dms_audfile.specs.TrailLaws.{read_trail, all_of}
use Rattle.dms_audfile.specs.WholeSchema.{holds_schema}
use Rattle.dms_audfile.specs.Copies.{AreInGrammar, IsTrailOf, BlocksAreFound, FoundAreBlocks, BlocksAreThere, TrailGoesOn, TrailIsSame}
use Rattle.dms_audfile.proofs.Again.{AreRead, are_read, all_are_read, ends_there, trail_is_read, entries_read}
use Rattle.dms_audfile.proofs.Followed.{scans_trail}
use Rattle.dms_audfile.proofs.Growing.{writes_same}
use Rattle.dms_audfile.proofs.Kept.{long_head}
use Rattle.dms_audfile.proofs.Staying.{trail_there}

in_grammar : (bs : List (List ℕ)) → AreInGrammar bs → AreRead bs
in_grammar [] are = tt
in_grammar (b ∷ bs) are = (record { entries = are.0.entries; is = are.0.read }, in_grammar bs are.1)

read_fits : (bs : List (List ℕ)) → AreRead bs → AreInGrammar bs
read_fits [] are = tt
read_fits (b ∷ bs) are = (record { entries = are.0.entries; read = are.0.is }, read_fits bs are.1)

no_bytes : (bytes : List ℕ) → length bytes ≤ 0 → bytes ≡ []
no_bytes [] none = refl
no_bytes (b ∷ bytes) none = absurd (omega arith)

-- the trail's files: up to the one that is written, or the one behind it
record LastOf (first f : ℕ) (files : Files) : Type 0 where
  last : ℕ
  low : f ≤ last
  high : last ≤ f + 1
  span : Span files first last

last_of : (total tag first f n : ℕ) (blocks : List (List ℕ)) (files : Files) → IsTrailOf total tag first f n blocks files → LastOf first f files
last_of total tag first f n blocks files t = elim (cases_lt f 20000) [
  | inl inside ↦ elim (cases_lt 0 (length (files (f + 1)))) [
    | inl some ↦ record {
      last = f + 1;
      low = omega arith;
      high = omega arith;
      span = record {
        low = t.low;
        order = omega (arith, t.writes.order);
        high = omega (arith, inside);
        absent = λ g above upto. t.behind g (omega (arith, above)) upto;
        present = λ g from upto. elim (cases_eq g (f + 1)) [
          | inl is ↦ subst (λ j. 0 < length (files j)) (sym is) some
          | inr other ↦ there g from (omega (arith, other, upto))
        ];
        before = t.before;
      };
    }
    | inr none ↦ record {
      last = f;
      low = omega arith;
      high = omega arith;
      span = record {
        low = t.low;
        order = t.writes.order;
        high = t.high;
        absent = λ g above upto. elim (cases_eq g (f + 1)) [
          | inl is ↦ ap files is ∙ no_bytes (files (f + 1)) none
          | inr other ↦ t.behind g (omega (arith, other, above)) upto
        ];
        present = there;
        before = t.before;
      };
    }
  ]
  | inr outside ↦ record {
    last = f;
    low = omega arith;
    high = omega arith;
    span = record {
      low = t.low;
      order = t.writes.order;
      high = t.high;
      absent = λ g above upto. absurd (omega (arith, outside, above, upto));
      present = there;
      before = t.before;
    };
  }
]
  where
    there : (g : ℕ) → first ≤ g → g ≤ f → 0 < length (files g)
    there g from upto = omega (arith, long_head (g - 10000) total (files g) (t.writes.fits g from upto))

pub blocks_are_found : BlocksAreFound
blocks_are_found total tag first f n blocks files t fit database schema =
    let l = last_of total tag first f n blocks files t in
    let all = all_are_read total first 1 blocks (in_grammar blocks fit) in
    let are : map entry_in all.placed ≡ entries_in blocks = entries_read total first 1 blocks all.placed all.is in
    let holds : holds_schema (map entry_in all.placed) ≡ true = ap holds_schema are ∙ schema in
    let is : scan_files first l.last files ≡ found all.placed =
    scans_trail total tag first f n l.last 10000 files t.writes l.low l.high (omega (arith, l.low, t.low, l.span.high))
    ∙ ap (λ (bs : List (List ℕ)). all_of first (read_trail total first 1 bs)) t.trail
    ∙ ap (all_of first) all.is ∙ ap (λ b. cond b (found all.placed) (no_schema first)) holds in
    record {
      finds = record {
        placed = all.placed;
        trail = record { database = database; first = first; last = l.last; span = l.span; is = is };
        are = are;
      };
      first_is = refl;
    }

pub found_are_blocks : FoundAreBlocks
found_are_blocks files ps t total tag f n w =
    let e = ends_there files ps t total tag f n w in
    record {
      trail = record {
        low = t.span.low;
        high = omega (arith, e.low, t.span.high);
        writes = w;
        trail = refl;
        before = t.span.before;
        behind = λ g above upto. t.span.absent g (omega (arith, above, e.high)) upto;
      };
      fit = read_fits (trail_from 10000 total t.first files) (are_read total t.first 1 (trail_from 10000 total t.first files) ps (trail_is_read files ps t total tag f n w));
    }

pub blocks_are_there : BlocksAreThere
blocks_are_there total tag first f n blocks files ps t read =
    trail_there 10000 total first files ps (omega (arith, t.writes.some)) t.writes.stands.few t.low (ap (read_trail total first 1) t.trail ∙ read)

pub trail_goes_on : TrailGoesOn
trail_goes_on total tag first f n blocks more old new t allowed g = record {
  low = t.low;
  high = omega (arith, g.high, allowed);
  writes = g.writes;
  trail = g.trail 10000 (omega (arith, t.low, allowed)) ∙ ap (λ (bs : List (List ℕ)). bs ++ take g.some more) t.trail;
  before = λ h low next. g.others h (omega (arith, next, t.writes.order)) (omega (arith, next, t.writes.order)) ∙ t.before h low next;
  behind = λ h above upto. g.others h (omega (arith, above, g.low)) (omega (arith, above, g.low)) ∙ t.behind h (omega (arith, above, g.low)) upto;
}

trail_same : (n total f : ℕ) (old new : Files) → ((g : ℕ) → f ≤ g → g < f + n → new g ≡ old g) → trail_from n total f new ≡ trail_from n total f old
trail_same zero total f old new same = refl
trail_same (suc n) total f old new same =
    let here : new f ≡ old f = same f (omega arith) (omega arith) in
    let rest : trail_from n total (f + 1) new ≡ trail_from n total (f + 1) old = trail_same n total (f + 1) old new (λ g from upto. same g (omega (arith, from)) (omega (arith, upto))) in
    λ i. cond (is_full total (here i)) (sealed_blocks total (here i) ++ rest i) (sealed_blocks total (here i))

pub trail_is_same : TrailIsSame
trail_is_same total tag first f n blocks old new t same = record {
  low = t.low;
  high = t.high;
  writes = writes_same total tag first f n old new t.writes (λ g from upto. same g (omega (arith, from, t.low)) (omega (arith, upto, t.high)));
  trail = trail_same 10000 total first old new (λ g from upto. same g (omega (arith, from, t.low)) (omega (arith, upto, t.writes.order, t.high))) ∙ t.trail;
  before = λ g low next. same g low (omega (arith, next, t.writes.order, t.high)) ∙ t.before g low next;
  behind = λ g above upto. same g (omega (arith, above, t.writes.order, t.low)) (omega (arith, upto)) ∙ t.behind g above upto;
}
