-- A planned list of entries, appended and sealed over files on which nothing is pending.
use Rattle.std.proofs.Common.{ℕ, zero, suc, min, ◌+◌, ◌<◌, ◌≡◌, List, [], ◌∷◌, ◌++◌, length, take, drop, refl, sym, ◌∙◌, ap, subst, arith, append_assoc}
use Rattle.std.proofs.lemmas.List.{take_all, take-append-drop}
use Rattle.std.proofs.Math.Seq.{take-append-add}
use Rattle.dms_moments.specs.Moments.{Clock, Now, Runs, Steps}
use Rattle.dms_moments.specs.MomentLaws.{runs_none, runs_on, runs_weaken}
use Rattle.dms_site.specs.Files.{Files, Left, Only, stored_of}
use Rattle.dms_history.specs.Events.{AllBlocks, Stored}
use Rattle.dms_history.specs.Pick.{Dumps}
use Rattle.dms_history.specs.Entries.{Entry}
use Rattle.dms_history.specs.EntryEvents.{history_of, next_of}
use Rattle.dms_history.proofs.Order.{append_none}
use Rattle.dms_running.specs.FromDumps.{DumpsInOrder}
use Rattle.dms_running.proofs.FromDumps.{order_stays}
use Rattle.dms_running.specs.Telling.{Telling, IsTelling}
use Rattle.dms_running.specs.Standing.{Stands, MayRun, IsWhole}
use Rattle.dms_running.specs.Points.{DescribedPoint, points_told, points_of, next_in, LeavesPointsPrefix}
use Rattle.dms_running.specs.Sealing.{SealsSome, Appended, AreSealed, Settled}
use Rattle.dms_running.specs.Running.{State, entries_now, count_live, AllPlain, IsRunning}
use Rattle.dms_running.specs.Begun.{LeavesAll}
use Rattle.dms_running.specs.Plans.{Planned, Lays, KeepsAll}
use Rattle.dms_running.proofs.Stopped.{blocks_same, joined}
use Rattle.dms_history.proofs.SchemaParts.{take_nothing}

-- a stop leaves all of these points
pub all_left : (t : Telling) (points : List DescribedPoint) (next : ℕ) (x : Left) → points_of t x.files ≡ points → next_in t x.files ≡ next → IsWhole t x.files → LeavesPointsPrefix t points (length points) next x
all_left t points next x is up whole = record {
  count = length points;
  enough = omega arith;
  within = omega arith;
  is = is ∙ sym (take_all (length points) points (omega arith));
  not_fallen = omega (arith, up);
  not_risen = omega (arith, up);
  whole = whole;
}

-- what stands over files holds over files that agree above 20,000
pub carried : (t : Telling) (telling : IsTelling t) (x y : Files) (es : List Entry) (base : AllBlocks) → ((g : ℕ) → 20000 < g → y g ≡ x g) → Stands t.first es (t.dumps x) base (stored_of x) → Stands t.first es (t.dumps y) base (stored_of y)
carried t telling x y es base same s =
    subst (λ (d : Dumps). Stands t.first es d base (stored_of y)) (sym (telling.dumps_between y x (λ g above below. same g above)))
    (subst (λ (st : Stored). Stands t.first es (t.dumps x) base st) (sym (blocks_same y x same)) s)

-- where a stop leaves what is read alone and nothing waits, a database that may run is running
pub still_runs : (t : Telling) (b : State) (base : AllBlocks) → t.found b.files → Only b.files b.clock → b.waiting ≡ [] → MayRun t.first (t.entries b.files) (t.dumps b.files) base (stored_of b.files) → IsRunning t b
still_runs t b base found only none m =
    let is : (k : ℕ) → t.entries b.files ++ take k b.waiting ≡ t.entries b.files = λ k. ap (λ (l : List Entry). t.entries b.files ++ l) (take_nothing k b.waiting none) ∙ append_none (t.entries b.files) in
    let now_is : entries_now t b ≡ t.entries b.files = ap (λ (l : List Entry). t.entries b.files ++ l) none ∙ append_none (t.entries b.files) in
    record {
      base = base;
      settled = λ x now. ap t.entries (only x now);
      found = λ x now. subst t.found (sym (only x now)) found;
      each = λ k x now. subst (λ (l : List Entry). MayRun t.first l (t.dumps x.files) base (stored_of x.files)) (sym (is k)) (subst (λ (l : Files). MayRun t.first (t.entries b.files) (t.dumps l) base (stored_of l)) (sym (only x now)) m);
      plain = subst AllPlain (sym none) tt;
      counted = λ k. omega (arith, ap (λ (l : List Entry). next_of l) (is k), ap (λ (l : List Entry). count_live l) (is k), ap (λ (l : List Entry). next_of l) now_is, ap (λ (l : List Entry). count_live l) now_is);
    }

take_front : (k : ℕ) (xs ys : List Entry) → take k xs ≡ take (min k (length xs)) (xs ++ ys)
take_front zero xs ys = let e : min 0 (length xs) ≡ 0 = omega arith in ap (λ n. take n (xs ++ ys)) (sym e)
take_front (suc k) [] ys = let e : min (suc k) 0 ≡ 0 = omega arith in ap (λ n. take n ys) (sym e)
take_front (suc k) (x ∷ xs) ys =
    let e : min (suc k) (length (x ∷ xs)) ≡ suc (min k (length xs)) = omega arith in ap (λ (l : List Entry). x ∷ l) (take_front k xs ys) ∙ ap (λ n. take n ((x ∷ xs) ++ ys)) (sym e)

drop_behind : (xs ys : List Entry) (k : ℕ) → drop (length xs + k) (xs ++ ys) ≡ drop k ys
drop_behind [] ys k = let e : 0 + k ≡ k = omega arith in ap (λ n. drop n ys) e
drop_behind (x ∷ xs) ys k = let e : length (x ∷ xs) + k ≡ suc (length xs + k) = omega arith in ap (λ n. drop n ((x ∷ xs) ++ ys)) e ∙ drop_behind xs ys k

-- fewer entries than are planned
pub planned_more : (t : Telling) (es rest : List Entry) (start : Files) (x : Left) → Planned t es start x → Planned t (es ++ rest) start x
planned_more t es rest start x p = record {
  some = min p.some (length es);
  sealed = p.sealed ∙ ap (λ (l : List Entry). t.entries start ++ l) (take_front p.some es rest);
  found = p.found;
  dumps_found = p.dumps_found;
  above = p.above;
}

pub lays_none : (t : Telling) (a : State) → Only a.files a.clock → a.waiting ≡ [] → Lays t [] a.files a.clock a
lays_none t a only nothing = record {
  appended = record { some = 0; sealed = sym (append_none (t.entries a.files)); rest = nothing; above = λ g up. refl };
  settled = λ x now. ap t.entries (only x now);
  since = runs_none a.clock (Planned t [] a.files);
  now = λ x now. record { some = 0; sealed = ap t.entries (only x now) ∙ sym (append_none (t.entries a.files)); found = λ f. subst t.found (sym (only x now)) f; dumps_found = λ k found. subst (λ (l : Files). t.dump_found l k) (sym (only x now)) found; above = λ g up. ap (λ (l : Files). l g) (only x now) };
}

module _ (t : Telling) (es : List Entry) (start : Files) (old : Clock Left) (s : State) (l : Lays t es start old s) where
  abbrev pub sealed_part : List Entry
  sealed_part = take l.appended.some es

  halves : (more : List Entry) → es ++ more ≡ sealed_part ++ (s.waiting ++ more)
  halves more = ap (λ (k : List Entry). k ++ more) (sym (take-append-drop l.appended.some es)) ∙ append_assoc sealed_part (drop l.appended.some es) more ∙ ap (λ (k : List Entry). sealed_part ++ (k ++ more)) (sym l.appended.rest)

  -- so many more are sealed
  sealed_more : (more : List Entry) (k : ℕ) → (t.entries start ++ sealed_part) ++ take k (s.waiting ++ more) ≡ t.entries start ++ take (length sealed_part + k) (es ++ more)
  sealed_more more k =
      append_assoc (t.entries start) sealed_part (take k (s.waiting ++ more))
      ∙ ap (λ (j : List Entry). t.entries start ++ j) (sym (take-append-add sealed_part (s.waiting ++ more) k) ∙ ap (λ (j : List Entry). take (length sealed_part + k) j) (sym (halves more)))

  -- what a stop leaves while these and some more are sealed
  reached : (more : List Entry) (y x : Left) → Now s.clock y → SealsSome t (s.waiting ++ more) y x → Planned t (es ++ more) start x
  reached more y x now seals = record {
    some = length sealed_part + seals.some;
    sealed = seals.sealed ∙ ap (λ (j : List Entry). j ++ take seals.some (s.waiting ++ more)) (l.settled y now ∙ l.appended.sealed) ∙ sealed_more more seals.some;
    found = λ f. seals.found ((l.now y now).found f);
    dumps_found = λ k found. seals.dumps_found k ((l.now y now).dumps_found k found);
    above = λ g up. seals.above g up ∙ (l.now y now).above g up;
  }

  pub lays_since : (more : List Entry) (later : Clock Left) → Steps (SealsSome t (s.waiting ++ more)) s.clock later → Runs old later (Planned t (es ++ more) start)
  lays_since more later steps = runs_on (runs_weaken l.since (λ x p. planned_more t es more start x p)) (runs_weaken steps.runs (λ x after. reached more after.0 x after.1 after.2)) (λ x p. p)

  pub lays_more : (more : List Entry) (b : State) → Steps (SealsSome t (s.waiting ++ more)) s.clock b.clock → Settled t b.files b.clock → Appended t (s.waiting ++ more) s.files b.files b.waiting → Lays t (es ++ more) start old b
  lays_more more b steps settles a = record {
    appended = record {
      some = length sealed_part + a.some;
      sealed = a.sealed ∙ ap (λ (j : List Entry). j ++ take a.some (s.waiting ++ more)) l.appended.sealed ∙ sealed_more more a.some;
      rest = a.rest ∙ sym (ap (λ (j : List Entry). drop (length sealed_part + a.some) j) (halves more) ∙ drop_behind sealed_part (s.waiting ++ more) a.some);
      above = λ g up. a.above g up ∙ l.appended.above g up;
    };
    settled = settles;
    since = lays_since more b.clock steps;
    now = λ x now. let after = steps.follows x now in reached more after.0 x after.1 after.2;
  }

  -- what waits is sealed
  pub lays_sealing : (later : Clock Left) → Steps (SealsSome t s.waiting) s.clock later → Runs old later (Planned t es start)
  lays_sealing later steps = subst (λ (j : List Entry). Runs old later (Planned t j start)) (append_none es)
      (lays_since [] later (subst (λ (j : List Entry). Steps (SealsSome t j) s.clock later) (sym (append_none s.waiting)) steps))

  -- scanning finds the entries of what a stop leaves then
  pub lays_found : (later : Clock Left) → Steps (SealsSome t s.waiting) s.clock later → (x : Left) → Now later x → t.found start → t.found x.files
  lays_found later steps x now f = let after = steps.follows x now in after.2.found ((l.now after.0 after.1).found f)

  pub lays_sealed : (later : Files) → AreSealed t s.waiting s.files later → (t.entries later ≡ t.entries start ++ es) × ((g : ℕ) → 20000 < g → later g ≡ start g)
  lays_sealed later sealed = (sealed.sealed ∙ joined t es s.waiting start s.files l.appended, λ g up. sealed.above g up ∙ l.appended.above g up)

module _ (t : Telling) (telling : IsTelling t) (es : List Entry) (a : State) (base : AllBlocks) (keeps : KeepsAll t es a.files base) (finds : t.found a.files) (only : Only a.files a.clock) where
  planned_front : (x : Left) → Planned t es a.files x → LeavesPointsPrefix t (points_of t a.files) (length (points_of t a.files)) (next_in t a.files) x
  planned_front x p =
      all_left t (points_of t a.files) (next_in t a.files) x
      ((λ i. points_told (telling.dumps_between x.files a.files (λ g up below. p.above g up) i) (p.sealed i) (blocks_same x.files a.files p.above i)) ∙ keeps.points p.some)
      (ap (λ (l : List Entry). next_of l) p.sealed ∙ keeps.next p.some)
      (record { found = p.found finds; base = base; stands = carried t telling a.files x.files (t.entries x.files) base p.above (subst (λ (l : List Entry). Stands t.first l (t.dumps a.files) base (stored_of a.files)) (sym p.sealed) (keeps.stands p.some)); order = subst (λ (l : List Entry). DumpsInOrder (t.dump_found x.files) (t.dumps x.files) (history_of l).pending) (sym p.sealed) (order_stays t telling a.files x.files _ (λ g up below. p.above g up) p.dumps_found (keeps.order p.some)) })

  -- a stop while they are appended and sealed leaves all points
  pub plan_leaves : (later : Clock Left) → Runs a.clock later (Planned t es a.files) → LeavesAll t a later
  plan_leaves later runs = runs_weaken runs planned_front
