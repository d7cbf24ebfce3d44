use Rattle.std.proofs.Common.{ℕ, List, ◌≡◌, ◌∙◌, ⊎_elim, ap, subst, arith, IsTrue}
use Rattle.std.specs.declared.option.Option.{Option}
use Rattle.std.proofs.lemmas.Option.{MatchOption-at_none, MatchOption-at_some}
use Rattle.dms_calls.specs.Names.{name_of}
use Rattle.dms_calls.specs.World.{World, AllGiven}
use Rattle.dms_calls.specs.Seen.{site_files}
use Rattle.dms_folder.specs.Listings.{TakesName}
use Rattle.dms_folder.specs.ListingLaws.{Later, absent_next, present_next, last_at_end}
use Rattle.dms_folder.specs.Moves.{same_twice}
use Rattle.dms_folder.proofs.folder.Folder.last_present.Goals as goal

pub returns-in-None-clause-found : goal.returns-in-None-clause-found
returns-in-None-clause-found g c = λ t.
    let l = c.loop-turn in
    let w = g.C.Calls.world c.args.self.now.calls in
    let given = g.C.Calls.given l.names in
    let all : AllGiven (g.C.Calls.listed l.names) (g.C.Calls.world l.self.calls).names given = MatchOption-at_none _ _ c.in-None.is c.in_ok-next_number.ensures.next t in
    let whole : AllGiven w.names w.names given = λ m i before now.
    all m i (ap (λ (f : List ℕ → Option ℕ). f m) (l.invariant.listed t) ∙ before) (ap (λ (w : World). w.names m) l.invariant.world ∙ now) in
    last_at_end w given c.args.from c.args.upto l.last c.ranges.upto.fits whole (l.invariant.absent t) l.invariant.bound (l.invariant.present t)

pub loop-turn-preserved : goal.loop-turn-preserved
loop-turn-preserved g c =
    let l = c.loop-turn in
    let n = c.next_number.ensures in
    let e = c.later.ensures in
    let found = c.in_ok-last-in-Some.last in
    let w = g.C.Calls.world c.args.self.now.calls in
    let takes : IsTrue g.C.Calls.tells → TakesName (g.C.Calls.given l.names) (g.C.Calls.given c.next_number.new.names) c.in-Some.found =
    λ t. MatchOption-at_some _ _ c.in-Some.found c.in-Some.is c.in_ok-next_number.ensures.next t in
    let same : g.C.Calls.world c.next_number.new.calls ≡ w = n.world ∙ l.invariant.world in
    let later : IsTrue g.C.Calls.tells → Later (site_files name_of w) c.args.from c.args.upto l.last c.in-Some.found found =
    λ t. subst (λ (v : World). Later (site_files name_of v) c.args.from c.args.upto l.last c.in-Some.found found) same (c.in_ok-last-in-Some.ensures.later t) in
    record {
      broken = c.in_ok-last-in-Some.ensures.broken;
      kept = e.kept;
      bound = λ some. ⊎_elim (λ is. let b = l.invariant.bound (omega (arith, is, some)) in (omega (arith, is, b.0), omega (arith, is, b.1))) (λ b. b) c.in_ok-last-in-Some.ensures.bound;
      present = λ t. present_next (site_files name_of w) c.args.from c.args.upto l.last found c.in-Some.found (l.invariant.present t) (later t);
      absent = λ t. absent_next (site_files name_of w) c.args.from c.args.upto l.last found c.in-Some.found (l.invariant.absent t) (takes t) (later t);
      listed = λ t. n.listed t ∙ l.invariant.listed t;
      world = e.world ∙ same;
      moments = same_twice (same_twice l.invariant.moments n.moments) e.moments;
    }
