-- What a stop within a load leaves, step by step.
use Rattle.std.proofs.Common.{◌≡◌, ◌≢◌, ◌≤◌, ◌⊎◌, ◌∙◌, ℕ, List, [], None, Some, ap, sym, subst, refl, arith, inl, inr, Ok, Err, Result, IsTrue}
use Rattle.std.proofs.lemmas.Option.{none-some}
use Rattle.dms_creation.specs.Clearing.{AllButDescriptionStay, IsApart}
use Rattle.dms_desc.specs.Shape.{Described}
use Rattle.dms_loadrun.specs.Filling.{Fills, IsNew, LeavesMaking, Makes}
use Rattle.dms_loadrun.specs.LoadDoes.{FillsAudit}
use Rattle.dms_loadrun.specs.Loading.{EndsLoaded, LeavesLoad, Loads, StandsWithin, load_events}
use Rattle.dms_loadrun.proofs.FirstFile.{last_full}
use Rattle.dms_model.specs.Db.{Db, empty_db}
use Rattle.dms_moments.specs.Moments.{After, Clock, Now, Runs, Steps}
use Rattle.dms_moments.specs.MomentLaws.{runs_on, runs_since, runs_step, runs_weaken}
use Rattle.dms_newdb.specs.State.{StandsNew}
use Rattle.dms_runner.specs.Events.{RunEvent}
use Rattle.dms_run.specs.RunStands.{RunStands}
use Rattle.dms_runtop.specs.Full.{IsFullAt}
use Rattle.dms_guard.specs.Guard.{IsBeside, LeavesBeside, StaysBut}
use Rattle.dms_guard.specs.GuardLaws.{all_structures}
use Rattle.dms_site.specs.declared.site.Site.{Ghosts}
use Rattle.dms_site.specs.Files.{Files, Left, Only, PrintsPartOf, Same}
use Rattle.dms_status.specs.declared.status.LimitKind.TheVariants.{AuditFile}
use Rattle.dms_status.specs.declared.status.SchemaFault.{SchemaFault}
use Rattle.dms_status.specs.declared.status.Status.{Status}
use Rattle.dms_status.specs.declared.status.Status.TheVariants.{Limit}

-- the files that a load leaves are among those that a run leaves
pub apart_beside : (f : ℕ) → IsApart f → IsBeside 200 f
apart_beside f (inl low) = inl (omega (arith, low))
apart_beside f (inr (inl is)) = inr (inl (omega (arith, is), omega (arith, is)))
apart_beside f (inr (inr high)) = inr (inr high)

pub making_loads : (d : Described) (seed n : ℕ) (was files : Files) → LeavesMaking d was files → LeavesLoad d seed n was files
making_loads d seed n was files is = record { others = is.others; holds = elim is.holds [ inl none ↦ inl none | inr new ↦ inr (inl new) ] }

-- where the database alone was made, or a part of it
pub makes_loads : (d : Described) (seed n : ℕ) (was : Files) (a b : Clock Left) → Makes d was a b → Loads d seed n was a b
makes_loads d seed n was a b runs = runs_weaken runs (λ x at. elim at [ inl now ↦ inl now | inr is ↦ inr (making_loads d seed n was x.files is) ])

-- where nothing was done before
pub loads_from : (d : Described) (seed n : ℕ) (was files : Files) (a b c : Clock Left) → files ≡ was → Steps Same a b → Loads d seed n files b c → Loads d seed n was a c
loads_from d seed n was files a b c same step runs = runs_on (runs_weaken step.runs (λ x after. inl (before x after))) runs (λ x at. elim at [
  | inl now ↦ inl (before x (step.follows x now))
  | inr is ↦ inr (subst (λ (f : Files). LeavesLoad d seed n f x.files) same is)
])
  where
    before : (x : Left) → After a Same x → Now a x
    before x y = subst (λ (z : Left). Now a z) (sym y.2) y.1

-- both of two facts on what a stop leaves
pub record Both (P Q : Type 0) : Type 0 where
  pub one : P
  pub two : Q

pub both_runs : {P Q : Left → Type 0} (a b : Clock Left) → Runs a b P → Runs a b Q → Runs a b (λ x. Both (P x) (Q x))
both_runs a b one two = record {
  later = one.later;
  only = λ t x le left. elim (one.only t x le left) [
    | inl was ↦ inl was
    | inr p ↦ elim (two.only t x le left) [ inl was ↦ inl was | inr q ↦ inr (record { one = p; two = q }) ]
  ];
  keeps = one.keeps;
}

-- what was printed doesn't count where no text was told at entry
pub any_said : (made : Files) (d : Described) (n : ℕ) (db : Db) (next : ℕ) (events : List RunEvent) (x : Left) → RunStands made d None n db next events x → RunStands made d None n db next events (record { files = x.files; said = [] })
any_said made d n db next events x r = record {
  point = r.point;
  now = r.now;
  state = r.state;
  recovered = r.recovered;
  no_earlier = λ text printed told. absurd (none-some text told);
  text = λ t told. absurd (none-some t told);
  keeps = r.keeps;
  each = r.each;
  next_left = r.next_left;
  has_next = r.has_next;
  not_fallen = r.not_fallen;
  not_risen = r.not_risen;
}

module _ {S : Type 0} (g : Ghosts S) (d : Described) (seed n : ℕ) (was : Files) (a : Clock Left) (old new : S) (status : Status) (tells : IsTrue g.tells)
    (begun : IsNew d was (g.files old) (g.clock old)) (makes : Makes d was a (g.clock old)) (fills : Fills g d seed n old new status) where
  -- all but audit files and the structure files that a database may have
  stays : StaysBut g 200 old new
  stays = fills.beside 200 (all_structures g.tells (g.files old))

  -- the new database, with nothing run yet
  new_leaves : (files : Files) → files ≡ g.files old → LeavesLoad d seed n was files
  new_leaves files same = record { others = λ f apart other. ap (λ (fs : Files). fs f) same ∙ begun.others f apart other; holds = inr (inl (subst (λ (fs : Files). StandsNew 0 d fs) (sym same) begun.stands)) }

  run_leaves : (x : Left) → RunStands (g.files old) d None 0 empty_db 1 (load_events d seed n) x → After (g.clock old) (LeavesBeside 200) x → LeavesLoad d seed n was x.files
  run_leaves x r y = record {
    others = λ f apart other. y.2 f (apart_beside f apart) ∙ ap (λ (fs : Files). fs f) (begun.only y.0 y.1) ∙ begun.others f apart other;
    holds = inr (inr (record { made = g.files old; new = begun.stands; stands = any_said (g.files old) d 0 empty_db 1 (load_events d seed n) x r }));
  }

  run_both : Runs (g.clock old) (g.clock new) (λ x. Both (RunStands (g.files old) d None 0 empty_db 1 (load_events d seed n) x) (After (g.clock old) (LeavesBeside 200) x))
  run_both = both_runs (g.clock old) (g.clock new) (fills.stands tells) stays.left.runs

  -- while the script is run
  pub fills_loads : Loads d seed n was a (g.clock new)
  fills_loads = runs_on (makes_loads d seed n was a (g.clock old) makes) run_both (λ x is. inr (run_leaves x is.one is.two))

  -- what a stop leaves behind it
  end_leaves : (x : Left) → (g.clock new).left (g.clock old).now x → LeavesLoad d seed n was x.files
  end_leaves x left = elim (runs_since run_both x left) [
    | inl then ↦ new_leaves x.files (begun.only x then)
    | inr is ↦ run_leaves x is.one is.two
  ]

  -- and while the summary is printed
  pub says_loads : ((t : ℕ) (x : Left) → t ≤ (g.clock new).now → Now (g.clock new) x → (g.clock new).left t x) → (text : List ℕ) (last : Clock Left) → Steps (PrintsPartOf text) (g.clock new) last → Loads d seed n was a last
  says_loads counted text last step = runs_step fills_loads step (λ y x now prints. inr (subst (λ (fs : Files). LeavesLoad d seed n was fs) (sym prints.files) (end_leaves y (counted (g.clock old).now y run_both.later now))))

  pub fills_others : AllButDescriptionStay was (g.files new)
  fills_others f apart other = stays.read tells f (apart_beside f apart) ∙ begun.others f apart other

  pub fills_audit : (k : ℕ) → status ≡ Limit (AuditFile k) → FillsAudit d k (g.files new)
  fills_audit k is = let f = fills.full k is tells in (f.0, last_full 0 d (g.files old) begun.first (g.files new) (subst (λ n. IsFullAt n (g.files old) (g.files new)) f.0 f.1))

-- one description is meant
or_that : {T E : Type 0} → T → Result T E → T
or_that x (Ok y) = y
or_that x (Err e) = x

pub same_described : (j : Result Described SchemaFault) (d e : Described) → j ≡ Ok d → j ≡ Ok e → d ≡ e
unfolding or_that
same_described j d e first second = ap (or_that d) (sym first ∙ second)
