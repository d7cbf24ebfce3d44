-- What was printed of entries by their places.
use Rattle.std.proofs.Common.{◌≡◌, ℕ, zero, suc, ◌+◌, ◌<◌, List, [], ◌∷◌, ◌++◌, refl, sym, ap, ◌∙◌, subst, arith, length, length-append, take, get_or, map, append_assoc, IsTrue, Bool, inr, OnOk, IfErr}
use Rattle.std.proofs.Math.Seq.{take-append-add}
use Rattle.std.proofs.lemmas.List.{take_all, append-nil}
use Rattle.std.specs.declared.option.Option.{Option}
use Rattle.std.specs.declared.result.Result.{Result}
use Rattle.std.specs.declared.result.Result.TheVariants.{Ok, Err}
use Rattle.dms_moments.specs.Moments.{Clock, Steps}
use Rattle.dms_moments.specs.MomentLaws.{steps_on, steps_weaken, runs_none}
use Rattle.dms_history.specs.Entries.{Entry}
use Rattle.dms_site.specs.Files.{Files, Left, Same}
use Rattle.dms_audfile.specs.AuditTrail.{AreThere, IsFound, EntriesAreThere}
use Rattle.dms_audfile.specs.Scanning.{Placed, place_in}
use Rattle.dms_audfile.specs.declared.place.EntryPlace.{EntryPlace}
use Rattle.dms_audprint.specs.AuditText.{placed_line, audit_text, HasTrail, PrintsAudit, PrintsPart}
use Rattle.dms_audfile.specs.declared.fault.AudFault.TheVariants.{NoDatabase, Disk, Full, Missing, Unsealed, Damaged, Foreign, Memory}
use Rattle.dms_audprint.specs.Printing.{line_of, line_at, lines_at, HoldsEntry, AllHoldEntries, PrintsSome, IsLate, RefusesAudit}
use Rattle.dms_audprint.specs.declared.fault.PrintFault.{PrintFault}
use Rattle.dms_audprint.specs.declared.fault.PrintFault.TheVariants.{Audit, Say}

-- one place more
pub lines_more : (files : Files) (ps : List EntryPlace) (k : ℕ) (d : EntryPlace) → k < length ps → lines_at files (take (k + 1) ps) ≡ lines_at files (take k ps) ++ line_at files (get_or ps k d)
lines_more files [] k d low = absurd (omega (arith, low))
lines_more files (q ∷ qs) zero d low = append-nil (line_at files q)
lines_more files (q ∷ qs) (suc k) d low =
    let e : suc k + 1 ≡ suc (k + 1) = omega arith in
    ap (λ n. lines_at files (take n (q ∷ qs))) e
    ∙ ap (λ (l : List ℕ). line_at files q ++ l) (lines_more files qs k d (omega (arith, low))) ∙ sym (append_assoc (line_at files q) (lines_at files (take k qs)) (line_at files (get_or qs k d)))

-- the lines of the first so many places are a prefix of all
lines_front : (files : Files) (ps : List EntryPlace) (k : ℕ) → take (length (lines_at files (take k ps))) (lines_at files ps) ≡ lines_at files (take k ps)
lines_front files [] zero = refl
lines_front files [] (suc k) = refl
lines_front files (q ∷ qs) zero = refl
lines_front files (q ∷ qs) (suc k) =
    ap (λ n. take n (line_at files q ++ lines_at files qs)) (length-append (line_at files q) (lines_at files (take k qs)))
    ∙ take-append-add (line_at files q) (lines_at files qs) (length (lines_at files (take k qs)))
    ∙ ap (λ (l : List ℕ). line_at files q ++ l) (lines_front files qs k)

-- a prefix of the lines
pub record TextPrefix (all bytes : List ℕ) : Type 0 where
  pub some : ℕ
  pub is : bytes ≡ take some all

abbrev min_of : ℕ → ℕ → ℕ
min_of zero n = 0
min_of (suc j) zero = 0
min_of (suc j) (suc n) = suc (min_of j n)

-- a prefix of a prefix
front_front : (all : List ℕ) (n j : ℕ) → TextPrefix all (take j (take n all))
front_front all n j = record { some = min_of j n; is = taken j n all }
  where
    taken : (j n : ℕ) (xs : List ℕ) → take j (take n xs) ≡ take (min_of j n) xs
    taken zero n xs = refl
    taken (suc j) zero xs = refl
    taken (suc j) (suc n) [] = refl
    taken (suc j) (suc n) (x ∷ xs) = ap (λ (l : List ℕ). x ∷ l) (taken j n xs)

-- the lines of the places so far, and a part of the next one
part_of : (files : Files) (ps : List EntryPlace) (k j : ℕ) (d : EntryPlace) → k < length ps → TextPrefix (lines_at files ps) (lines_at files (take k ps) ++ take j (line_at files (get_or ps k d)))
part_of files ps k j d low =
    let line = line_at files (get_or ps k d) in
    let so_far = lines_at files (take k ps) in
    let more = lines_more files ps k d low in
    let all_of = lines_front files ps (k + 1) in
    let front = front_front (lines_at files ps) (length (lines_at files (take (k + 1) ps))) (length so_far + j) in
    record {
      some = front.some;
      is = sym (take-append-add so_far line j) ∙ ap (take (length so_far + j)) (sym more) ∙ ap (take (length so_far + j)) (sym all_of) ∙ front.is;
    }

-- the text behind a part of one more line
pub part_then : (files other : Files) (ps : List EntryPlace) (k j : ℕ) (d : EntryPlace) (start said new : List ℕ) → k < length ps → other ≡ files
    → said ≡ start ++ lines_at files (take k ps) → new ≡ said ++ take j (line_at other (get_or ps k d)) → (n : ℕ) × (new ≡ start ++ take n (lines_at files ps))
part_then files other ps k j d start said new low same so_far more =
    let f = part_of files ps k j d low in
    (f.some, more ∙ (λ i. so_far i ++ take j (line_at (same i) (get_or ps k d))) ∙ append_assoc start (lines_at files (take k ps)) (take j (line_at files (get_or ps k d))) ∙ ap (λ (l : List ℕ). start ++ l) f.is)

-- the text behind one more line
pub line_then : (files other : Files) (ps : List EntryPlace) (k : ℕ) (d : EntryPlace) (start said new : List ℕ) → k < length ps → other ≡ files
    → said ≡ start ++ lines_at files (take k ps) → new ≡ said ++ line_at other (get_or ps k d) → new ≡ start ++ lines_at files (take (k + 1) ps)
line_then files other ps k d start said new low same so_far more =
    more ∙ (λ i. so_far i ++ line_at (same i) (get_or ps k d)) ∙ append_assoc start (lines_at files (take k ps)) (line_at files (get_or ps k d)) ∙ ap (λ (l : List ℕ). start ++ l) (sym (lines_more files ps k d low))

-- the text so far is a prefix of all
pub part_now : (files : Files) (ps : List EntryPlace) (k : ℕ) (start said : List ℕ) → said ≡ start ++ lines_at files (take k ps) → (n : ℕ) × (said ≡ start ++ take n (lines_at files ps))
part_now files ps k start said so_far = (length (lines_at files (take k ps)), so_far ∙ ap (λ (l : List ℕ). start ++ l) (sym (lines_front files ps k)))

-- one of them
stands_at : (files : Files) (ps : List EntryPlace) (k : ℕ) (d : EntryPlace) → AllHoldEntries files ps → k < length ps → HoldsEntry files (get_or ps k d)
stands_at files [] k d all low = absurd (omega (arith, low))
stands_at files (q ∷ qs) zero d all low = all.0
stands_at files (q ∷ qs) (suc k) d all low = stands_at files qs k d all.1 (omega (arith, low))

pub stands_then : (files other : Files) (ps : List EntryPlace) (k : ℕ) (d : EntryPlace) → AllHoldEntries files ps → k < length ps → other ≡ files → HoldsEntry other (get_or ps k d)
stands_then files other ps k d all low same = subst (λ (l : Files). HoldsEntry l (get_or ps k d)) (sym same) (stands_at files ps k d all low)

-- entries that are there stand at their places, and their lines are theirs
pub stands_all : (files : Files) (es : List Placed) → AreThere files es → AllHoldEntries files (map place_in es)
stands_all files [] all = tt
stands_all files (e ∷ es) all = (record { entry = e.entry; there = all.0.there; within = all.0.block.1 }, stands_all files es all.1)

pub lines_there : (files : Files) (es : List Placed) → AreThere files es → lines_at files (map place_in es) ≡ audit_text es
lines_there files [] all = refl
lines_there files (e ∷ es) all =
    ap (λ (o : Option Entry). line_of e.place o ++ lines_at files (map place_in es)) all.0.there ∙ ap (λ (l : List ℕ). placed_line e ++ l) (lines_there files es all.1)

-- the places that were found
pub all_stand : (files other : Files) (es : List Placed) (ps : List EntryPlace) → AreThere files es → ps ≡ map place_in es → other ≡ files → AllHoldEntries other ps
all_stand files other es ps there are same =
    let one : AllHoldEntries files ps = subst (AllHoldEntries files) (sym are) (stands_all files es there) in
    subst (λ (l : Files). AllHoldEntries l ps) (sym same) one

found_lines : (files other : Files) (es : List Placed) (ps : List EntryPlace) → AreThere files es → ps ≡ map place_in es → other ≡ files → lines_at other ps ≡ audit_text es
found_lines files other es ps there are same = (λ i. lines_at (same i) (are i)) ∙ lines_there files es there

pub found_whole : (files other : Files) (es : List Placed) (ps : List EntryPlace) (start said new : List ℕ) → AreThere files es → ps ≡ map place_in es → other ≡ files → said ≡ start
    → new ≡ said ++ lines_at other ps → new ≡ start ++ audit_text es
found_whole files other es ps start said new there are same stays more = more ∙ (λ i. stays i ++ found_lines files other es ps there are same i)

pub found_front : (files other : Files) (es : List Placed) (ps : List EntryPlace) (k : ℕ) (start said new : List ℕ) → AreThere files es → ps ≡ map place_in es → other ≡ files → said ≡ start
    → new ≡ said ++ take k (lines_at other ps) → new ≡ start ++ take k (audit_text es)
found_front files other es ps k start said new there are same stays more = more ∙ (λ i. stays i ++ take k (found_lines files other es ps there are same i))

-- what comes late refuses nothing
pub late_refuses : (files : Files) (fault : PrintFault) → IsLate fault → RefusesAudit files fault
late_refuses files (Audit NoDatabase) late = absurd late
late_refuses files (Audit Disk) late = tt
late_refuses files (Audit (Full k)) late = absurd late
late_refuses files (Audit (Missing k)) late = absurd late
late_refuses files (Audit (Unsealed k)) late = absurd late
late_refuses files (Audit (Damaged f b)) late = absurd late
late_refuses files (Audit (Foreign k)) late = absurd late
late_refuses files (Audit Memory) late = tt
late_refuses files Say late = tt

on_ok : {T E : Type 0} (r : Result T E) {P Q : Type 0} → OnOk r P → (P → Q) → OnOk r Q
on_ok (Ok x) p more = more p
on_ok (Err e) p more = tt

always_ok : {T E : Type 0} (r : Result T E) {P : Type 0} → P → OnOk r P
always_ok (Ok x) p = p
always_ok (Err e) p = tt

if_err : {T E : Type 0} (r : Result T E) (A : Type 0) {P Q : E → Type 0} → (A → IfErr r P) → ((e : E) → P e → Q e) → IfErr r (λ e. A → Q e)
if_err (Ok x) A p more = tt
if_err (Err e) A p more = λ a. more e (p a)

-- so the entries that were found were printed
module _ {T : Type 0} (tells tells_said : Bool) (files other : Files) (first : ℕ) (ps : List EntryPlace) (start said new : List ℕ) (r : Result T PrintFault)
    (law : EntriesAreThere) (found_is : IsTrue tells → IsFound files first ps) (same : IsTrue tells → other ≡ files) (stays : said ≡ start) where
  there : (t : IsTrue tells) → AreThere files (found_is t).entries
  there t = law files (found_is t).entries (found_is t).trail

  pub audit_printed : OnOk r (IsTrue tells → IsTrue tells_said → new ≡ said ++ lines_at other ps) → OnOk r (IsTrue tells → IsTrue tells_said → PrintsAudit files start new)
  audit_printed was = on_ok r was (λ one t told. record {
    entries = (found_is t).entries;
    trail = (found_is t).trail;
    said = found_whole files other (found_is t).entries ps start said new (there t) (found_is t).places_are (same t) stays (one t told);
  })

  pub audit_found : OnOk r (IsTrue tells → HasTrail files)
  audit_found = always_ok r (λ t. record { entries = (found_is t).entries; trail = (found_is t).trail })

  pub audit_part : (IsTrue tells → IsTrue tells_said → (k : ℕ) × (new ≡ said ++ take k (lines_at other ps))) → IsTrue tells → IsTrue tells_said → PrintsPart files start new
  audit_part was t told = inr (record {
    entries = (found_is t).entries;
    trail = (found_is t).trail;
    some = (was t told).0;
    said = found_front files other (found_is t).entries ps (was t told).0 start said new (there t) (found_is t).places_are (same t) stays (was t told).1;
  })

  late : (IsTrue tells → AllHoldEntries other ps → IfErr r IsLate) → IsTrue tells → IfErr r IsLate
  late was t = was t (all_stand files other (found_is t).entries ps (there t) (found_is t).places_are (same t))

  pub audit_refused : (IsTrue tells → AllHoldEntries other ps → IfErr r IsLate) → IfErr r (λ fault. IsTrue tells → RefusesAudit files fault)
  audit_refused was = if_err r (IsTrue tells) (late was) (λ fault is. late_refuses files fault is)

  pub audit_silent : (IsTrue tells → AllHoldEntries other ps → IfErr r IsLate) → IfErr r (λ fault. IsTrue tells → (IsLate fault → ⊥) → new ≡ start)
  audit_silent was = if_err r (IsTrue tells) (late was) (λ fault is not_late. absurd (not_late is))

-- ---- moments

pub prints_none : (c : Clock Left) → Steps PrintsSome c c
prints_none c = record { follows = λ x now. (x, now, ([], record { files = refl; some = 0; said = sym (append-nil x.said) })); runs = runs_none c _ }

pub prints_same : (a b : Clock Left) → Steps Same a b → Steps PrintsSome a b
prints_same a b steps = steps_weaken steps (λ x y here same. ([], record { files = ap (λ (l : Left). l.files) same; some = 0; said = ap (λ (l : Left). l.said) same ∙ sym (append-nil x.said) }))

both : (x y z : Left) → PrintsSome x y → PrintsSome y z → PrintsSome x z
both x y z p q =
    let one = take p.1.some p.0 in
    let two = take q.1.some q.0 in (
      one ++ two,
      record {
        files = q.1.files ∙ p.1.files;
        some = length (one ++ two);
        said = q.1.said ∙ ap (λ (l : List ℕ). l ++ two) p.1.said ∙ append_assoc x.said one two ∙ ap (λ (l : List ℕ). x.said ++ l) (sym (take_all (length (one ++ two)) (one ++ two) (omega arith)));
      },
    )

pub prints_on : {a b c : Clock Left} → Steps PrintsSome a b → Steps PrintsSome b c → Steps PrintsSome a c
prints_on first next = steps_on first next (λ x y z here there p q. both x y z p q) (λ x y here p. p)
