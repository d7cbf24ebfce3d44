-- Each step leaves a coherent session coherent: programs, and who waits.
use Rattle.std.proofs.Common.{◌≡◌, ◌∙◌, ◌++◌, ℕ, List, [], ◌∷◌, Bool, true, false, cond, refl, sym, ap, subst, map, not}
use Rattle.std.specs.List.{AllByRecursion}
use Rattle.std.specs.Str.{bytes_eq}
use Rattle.std.proofs.lemmas.Slice.Eq.{bytes_eq-Decides}
use Rattle.dms_desc.specs.Shape.{Described}
use Rattle.dms_locks.specs.Locks.{no_locks}
use Rattle.dms_locks.specs.Waits.{Wait, wait_ended}
use Rattle.dms_model.specs.Db.{Db}
use Rattle.dms_model.specs.declared.reply.Reply.{Reply}
use Rattle.dms_model.specs.declared.reply.Reply.TheVariants.{Done, Exception, Waits}
use Rattle.dms_model.specs.declared.verb.Verb.{Verb}
use Rattle.dms_model.specs.Programs.{Program}
use Rattle.dms_model.specs.Session.{Outcome, Session, after_answer, carried_out, freed_named, has_some, is_waits, programs_after, says_deadlock, someone_works, step, waits_after}
use Rattle.dms_model.specs.Verbs.{IsVerbOf}
use Rattle.dms_model.proofs.Rises.{step_waits}
use Rattle.dms_laws.specs.Coherent.{IsAtHand, IsCoherent, StaysCoherent, WaitsOpen, is_open}
use Rattle.dms_laws.specs.Exclusive.{IsExclusive}
use Rattle.dms_laws.specs.Made.{IsWellMade}
use Rattle.dms_laws.proofs.Coheres.{Hold, any_map, carried_holds, no_hold}
use Rattle.dms_laws.proofs.Judged.{judges_waits}
use Rattle.dms_laws.proofs.Lists.{all_mapped}

-- DEADLOCK frees locks alone
freed_at_hand : (desc : Described) (db mark : Db) (name : List ℕ) (x : Program) → IsAtHand desc db mark x → IsAtHand desc db mark (freed_named name x)
freed_at_hand desc db mark name x h = by (bytes_eq x.name name)
  where
    by : (b : Bool) → IsAtHand desc db mark (cond b (record x { locks = no_locks }) x)
    by true = record { works = h.works; current = h.current; marked = h.marked; made = h.made; copied = h.copied; area = h.area; working = h.working; outside = λ off d n low l. absurd (no_hold x d n l) }
    by false = h

freed_works : (name : List ℕ) (x : Program) → (freed_named name x).in_transaction ≡ x.in_transaction
freed_works name x = by (bytes_eq x.name name)
  where
    by : (b : Bool) → (cond b (record x { locks = no_locks }) x).in_transaction ≡ x.in_transaction
    by true = refl
    by false = refl

freed_called : (name : List ℕ) (x : Program) → (freed_named name x).name ≡ x.name
freed_called name x = by (bytes_eq x.name name)
  where
    by : (b : Bool) → (cond b (record x { locks = no_locks }) x).name ≡ x.name
    by true = refl
    by false = refl

module _ (desc : Described) (s : Session) (name : List ℕ) (o : Outcome) (h : Hold desc s name o) where
  abbrev after : List Program
  after = programs_after name o.reply o.session.programs

  programs_hold : AllByRecursion (IsAtHand desc o.session.db o.session.mark) after
  programs_hold = by (says_deadlock o.reply)
    where
      by : (b : Bool) → AllByRecursion (IsAtHand desc o.session.db o.session.mark) (cond b (map (freed_named name) o.session.programs) o.session.programs)
      by true = all_mapped {P = IsAtHand desc o.session.db o.session.mark} (IsAtHand desc o.session.db o.session.mark) (freed_named name) o.session.programs (λ x k. freed_at_hand desc o.session.db o.session.mark name x k) h.programs
      by false = h.programs

  works_after : someone_works after ≡ someone_works o.session.programs
  works_after = by (says_deadlock o.reply)
    where
      by : (b : Bool) → someone_works (cond b (map (freed_named name) o.session.programs) o.session.programs) ≡ someone_works o.session.programs
      by true = any_map (λ x. x.in_transaction) (freed_named name) (freed_works name) o.session.programs
      by false = refl

  open_after : (other : List ℕ) → is_open after other ≡ is_open o.session.programs other
  open_after other = by (says_deadlock o.reply)
    where
      by : (b : Bool) → is_open (cond b (map (freed_named name) o.session.programs) o.session.programs) other ≡ is_open o.session.programs other
      by true = any_map (λ x. bytes_eq x.name other) (freed_named name) (λ x. ap (λ n. bytes_eq n other) (freed_called name x)) o.session.programs
      by false = refl

  -- the waits of the other programs
  ended : (ws : List Wait) → AllByRecursion (WaitsOpen s.programs) ws → AllByRecursion (WaitsOpen after) (wait_ended name ws)
  ended [] all = tt
  ended (w ∷ ws) all = by (bytes_eq w.program name) refl (ended ws all.1)
    where
      by : (b : Bool) → bytes_eq w.program name ≡ b → AllByRecursion (WaitsOpen after) (wait_ended name ws) → AllByRecursion (WaitsOpen after) (cond (not b) (w ∷ wait_ended name ws) (wait_ended name ws))
      by true e rest = rest
      by false e rest =
          let apart : (w.program ≡ name → ⊥) = λ is. let yes = (bytes_eq-Decides w.program name).1 is in absurd (cc) in
          (record { open_one = open_after w.program ∙ h.others w.program apart all.0.open_one; someone = all.0.someone }, rest)

  pushed : (ws : List Wait) (w : Wait) → AllByRecursion (WaitsOpen after) ws → WaitsOpen after w → AllByRecursion (WaitsOpen after) (ws ++ w ∷ [])
  pushed [] w all k = (k, tt)
  pushed (x ∷ ws) w all k = (all.0, pushed ws w all.1 k)

  waits_hold : (ws : List Wait) (r : Reply) → o.reply ≡ r → AllByRecursion (WaitsOpen s.programs) ws → ((who : List (List ℕ)) → r ≡ Waits who → has_some who ≡ true) → AllByRecursion (WaitsOpen after) (waits_after name r ws)
  waits_hold ws (Done text) is all some = ended ws all
  waits_hold ws (Exception c n) is all some = ended ws all
  waits_hold ws (Waits who) is all some = pushed (wait_ended name ws) (record { program = name; who = who }) (ended ws all) (record { open_one = open_after name ∙ h.own (ap is_waits is); someone = some who refl })

answered_coherent : (desc : Described) (s : Session) (name : List ℕ) (o : Outcome) → Hold desc s name o → AllByRecursion (WaitsOpen (programs_after name o.reply o.session.programs)) (waits_after name o.reply o.session.waits) → IsCoherent desc (after_answer name o).session
answered_coherent desc s name o h waits = record {
  programs = programs_hold desc s name o h;
  pending = λ on. works_after desc s name o h ∙ h.pending on;
  waits = waits;
}

keeps_coherent : (desc : Described) → IsWellMade desc → (s : Session) (name : List ℕ) (v : Verb) → IsVerbOf desc v → IsExclusive s → IsCoherent desc s → IsCoherent desc (step desc s name v).session
unfolding step
keeps_coherent desc made s name v of ex co =
    let o = carried_out desc s name v in
    let h = carried_holds desc made s name v of ex co in
    answered_coherent desc s name o h
    (subst (AllByRecursion (WaitsOpen (programs_after name o.reply o.session.programs))) (sym (step_waits desc s name v))
    (waits_hold desc s name o h s.waits o.reply refl co.waits (λ who is. ((judges_waits desc s name v).waits who is).0)))

pub stays_coherent : (desc : Described) → IsWellMade desc → StaysCoherent desc
stays_coherent desc made = record {
  first = λ db next. record { programs = tt; pending = λ on. absurd (cc); waits = tt };
  keeps = keeps_coherent desc made;
}
