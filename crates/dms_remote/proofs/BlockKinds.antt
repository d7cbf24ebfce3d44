-- What the entries of a block are.
use Rattle.std.proofs.Common.{ℕ, ◌+◌, ◌*◌, ◌<◌, ◌≤◌, ◌≡◌, ◌∙◌, ◌||◌, Bool, true, false, sym, ap, subst, refl, List, [], ◌∷◌, ◌++◌, map, take, drop, length, get_or, replicate, append-nil, Option, Some, None, arith}
use Rattle.std.proofs.lemmas.List.{drop_all, drop_more, drop_at, take_all, length-replicate}
use Rattle.dms_site.specs.Files.{Files, range}
use Rattle.dms_history.specs.Lists.{has}
use Rattle.dms_history.specs.Entries.{Entry}
use Rattle.dms_audfile.specs.AuditTrail.{entry_from, entry_there, AreThere}
use Rattle.dms_audfile.specs.Blocks.{EntryInBlock, block_entries}
use Rattle.dms_audfile.specs.Gates.{block_at}
use Rattle.dms_audfile.specs.Scanning.{Placed, place_in, place_of, places_of, whole, then_read}
use Rattle.dms_audfile.specs.Tails.{ReadsPlaces}
use Rattle.dms_audfile.specs.TrailEntries.{entry_of, entries_of}
use Rattle.dms_audfile.specs.declared.place.EntryPlace.{EntryPlace}
use Rattle.dms_audfile.proofs.There.{blocks_there}
use Rattle.dms_remote.specs.Kinds.{is_of, any_of, EntriesAreOf}
use Rattle.dms_remote.specs.Noting.{AreSaid}

or_assoc : (a b c : Bool) → (a || (b || c)) ≡ ((a || b) || c)
or_assoc true b c = refl
or_assoc false b c = refl

or_false : (a : Bool) → (a || false) ≡ a
or_false true = refl
or_false false = refl

-- one place more was looked at
pub any_more : (kind : Entry → Bool) (block : List ℕ) (ps : List EntryPlace) (i : ℕ) (p : EntryPlace) (seen here : Bool) → i < length ps → p ≡ get_or ps i p → here ≡ is_of kind (entry_from p.offset block)
    → (seen || any_of kind block (drop i ps)) ≡ any_of kind block ps → ((seen || here) || any_of kind block (drop (i + 1) ps)) ≡ any_of kind block ps
any_more kind block ps i p seen here within at is so_far =
    let next : drop i ps ≡ p ∷ drop (i + 1) ps = drop_more ps i p within ∙ (λ j. sym at j ∷ drop (i + 1) ps) in
    (λ j. (seen || is j) || any_of kind block (drop (i + 1) ps)) ∙ sym (or_assoc seen (is_of kind (entry_from p.offset block)) (any_of kind block (drop (i + 1) ps)))
    ∙ ap (λ (l : List EntryPlace). seen || any_of kind block l) (sym next) ∙ so_far

-- and all were
pub any_all : (kind : Entry → Bool) (block : List ℕ) (ps : List EntryPlace) (i : ℕ) (seen : Bool) → length ps ≤ i → (seen || any_of kind block (drop i ps)) ≡ any_of kind block ps → seen ≡ any_of kind block ps
any_all kind block ps i seen far so_far = sym (or_false seen) ∙ ap (λ (l : List EntryPlace). seen || any_of kind block l) (sym (drop_all i ps far)) ∙ so_far

-- ---- the places of its entries

all_of : (kind : Entry → Bool) (block : List ℕ) (files : Files) (f n : ℕ) (es : List EntryInBlock) → block_at n (files f) ≡ block → AreThere files (map (place_of f n) es)
    → any_of kind block (map place_in (map (place_of f n) es)) ≡ has kind (map entry_of es)
unfolding entry_there
all_of kind block files f n [] held there = refl
all_of kind block files f n (e ∷ es) held there =
    let one : entry_from e.offset block ≡ Some e.entry = ap (λ (b : List ℕ). entry_from e.offset b) (sym held) ∙ there.0.there in
    (λ i. is_of kind (one i) || all_of kind block files f n es held there.1 i)

-- a file with this block
held_in : (n : ℕ) (block : List ℕ) → length block ≡ 4096 → block_at n (replicate (4096 * n) 0 ++ block) ≡ block
unfolding range
held_in n block size =
    ap (λ (l : List ℕ). take 4096 l) (drop_at (replicate (4096 * n) 0) block (4096 * n) (length-replicate (4096 * n) 0)) ∙ take_all 4096 block (omega (arith, size))

there_once : (files : Files) (f n : ℕ) (block : List ℕ) (es : List EntryInBlock) → 10001 ≤ f → 1 ≤ n → n ≤ 512 → block_at n (files f) ≡ block → block_entries block ≡ Some es → AreThere files (map (place_of f n) es)
there_once files f n block es low some few held is =
    subst (AreThere files) (append-nil (map (place_of f n) es))
    (blocks_there 1 n f files (map (place_of f n) es ++ []) low some (omega (arith, few)) (λ i. then_read (places_of f n ((ap block_entries held ∙ is) i)) (whole [])))

pub entries_are_of : EntriesAreOf
entries_are_of kind block f n places size low some few reads = by (block_entries block) refl reads
  where
    files : Files
    files = λ g. replicate (4096 * n) 0 ++ block

    by : (o : Option (List EntryInBlock)) → block_entries block ≡ o → ReadsPlaces (places_of f n o) places → any_of kind block places ≡ has kind (entries_of o ++ [])
    by None is r = absurd (cc (r.read_is))
    by (Some es) is r =
        let same : map (place_of f n) es ≡ r.placed = cc (r.read_is) in
        ap (λ (l : List EntryPlace). any_of kind block l) (r.places_are ∙ ap (λ (l : List Placed). map place_in l) (sym same))
        ∙ all_of kind block files f n es (held_in n block size) (there_once files f n block es low some few (held_in n block size) is)
        ∙ ap (λ (l : List Entry). has kind l) (sym (append-nil (map entry_of es)))

-- ---- they begin at their places

said_all : (block : List ℕ) (files : Files) (f n : ℕ) (es : List EntryInBlock) → block_at n (files f) ≡ block → AreThere files (map (place_of f n) es) → AreSaid block (map (place_of f n) es)
unfolding entry_there
said_all block files f n [] held there = tt
said_all block files f n (e ∷ es) held there = (ap (λ (b : List ℕ). entry_from e.offset b) (sym held) ∙ there.0.there, said_all block files f n es held there.1)

pub said_in : (f n : ℕ) (block : List ℕ) (qs : List Placed) → 10001 ≤ f → 1 ≤ n → n ≤ 512 → length block ≡ 4096 → places_of f n (block_entries block) ≡ whole qs → AreSaid block qs
said_in f n block qs low some few size is = by (block_entries block) refl is
  where
    files : Files
    files = λ g. replicate (4096 * n) 0 ++ block

    by : (o : Option (List EntryInBlock)) → block_entries block ≡ o → places_of f n o ≡ whole qs → AreSaid block qs
    by None read e = absurd (cc e)
    by (Some es) read e =
        let same : map (place_of f n) es ≡ qs = cc e in
        subst (λ (l : List Placed). AreSaid block l) same (said_all block files f n es (held_in n block size) (there_once files f n block es low some few (held_in n block size) read))
