use Rattle.std.proofs.Common.{ℕ, List, ◌≡◌, ◌∙◌, sym, ap, refl, Some}
use Rattle.std.specs.declared.option.Option.{Option}
use Rattle.std.proofs.lemmas.Bool.{MatchBool-at_true, MatchBool-at_false}
use Rattle.dms_calls.specs.Names.{name_of}
use Rattle.dms_calls.specs.World.{World, AllGiven}
use Rattle.dms_folder.specs.Keeps.{kept_known, stable_same}
use Rattle.dms_folder.specs.ListingLaws.{stable_next}
use Rattle.dms_folder.specs.Moves.{same_twice}
use Rattle.dms_folder.proofs.folder.Folder.sync_present.Goals as goal

pub returns-then-not-branch-clause-kept : goal.returns-then-not-branch-clause-kept
returns-then-not-branch-clause-kept g c = λ t.
    let l = c.loop-turn in
    let e = c.sync_next.ensures in
    let v = g.C.Calls.world l.self.calls in
    let all : AllGiven (g.C.Calls.listed l.names) v.names (g.C.Calls.given l.names) = MatchBool-at_false _ _ c.if-not-branch.true c.in_ok-sync_next.ensures.next t in
    kept_known (e.kept t) (λ n low i is.
    let here : v.names (name_of n) ≡ Some i = sym (ap (λ (w : World). w.names (name_of n)) e.world) ∙ is in
    let before : g.C.Calls.listed l.names (name_of n) ≡ Some i =
    ap (λ (f : List ℕ → Option ℕ). f (name_of n)) (l.invariant.listed t) ∙ sym (ap (λ (w : World). w.names (name_of n)) l.invariant.world) ∙ here in
    stable_same n (l.invariant.before t (name_of n) (all (name_of n) i before here) n low refl) e.world e.moments i is)

pub loop-turn-preserved : goal.loop-turn-preserved
loop-turn-preserved g c =
    let l = c.loop-turn in
    let e = c.sync_next.ensures in
    record {
      broken = c.in_ok-sync_next.ensures.broken;
      kept = e.kept;
      before = λ t. stable_next (l.invariant.before t) e.world e.moments (MatchBool-at_true _ _ c.if-not-branch.false c.in_ok-sync_next.ensures.next t);
      listed = λ t. e.listed t ∙ l.invariant.listed t;
      world = e.world ∙ l.invariant.world;
      moments = same_twice l.invariant.moments e.moments;
    }
