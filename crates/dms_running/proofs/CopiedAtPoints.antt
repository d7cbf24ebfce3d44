-- A dump that was copied at points that files hold.
use Rattle.std.proofs.Common.{ℕ, ◌≤◌, ◌≡◌, Bool, List, [], ◌∷◌, ◌++◌, map, Some, sym, ◌∙◌, ap, subst, arith}
use Rattle.dms_history.specs.Events.{AllBlocks, Stored, Event, block_in}
use Rattle.dms_history.specs.Here.{here}
use Rattle.dms_history.specs.History.{last_point}
use Rattle.dms_history.specs.Numbers.{LastPoint}
use Rattle.dms_history.specs.Pick.{Dumps}
use Rattle.dms_history.specs.Places.{IsLive}
use Rattle.dms_history.specs.Points.{AllLive, HasPoint, LivePoint, live_points}
use Rattle.dms_history.specs.Entries.{Entry}
use Rattle.dms_history.specs.EntryEvents.{history_of, live_of, next_of}
use Rattle.dms_history.proofs.Listed.{points_listed}
use Rattle.dms_history.proofs.Order.{last_lives}
use Rattle.dms_history.proofs.Picks.{some_is}
use Rattle.dms_running.specs.CopiedAtPoints.{CopiesAtPoints, IsAtDescribed}
use Rattle.dms_running.specs.Points.{DescribedPoint, described_in, points_told}
use Rattle.dms_running.specs.Standing.{Stands}

-- a point that is described is one of those that are listed
pub listed_at : (es : List Entry) (live : List Event) (counted : Stored) (ps : List LivePoint) (before : List DescribedPoint) (p : DescribedPoint) (after : List DescribedPoint) → AllLive live counted ps → map (described_in es) ps ≡ before ++ p ∷ after
    → HasPoint live counted p.number p.blocks
listed_at es live counted [] [] p after all is = absurd cc
listed_at es live counted [] (q ∷ before) p after all is = absurd cc
listed_at es live counted (l ∷ ps) [] p after all is =
    let same : described_in es l ≡ p = cc in
    subst (λ (d : DescribedPoint). HasPoint live counted d.number d.blocks) same all.0
listed_at es live counted (l ∷ ps) (q ∷ before) p after all is =
    let rest : map (described_in es) ps ≡ before ++ p ∷ after = cc in
    listed_at es live counted ps before p after all.1 rest

module _ (first : Bool) (es : List Entry) (dumps : Dumps) (base : AllBlocks) (stored : Stored) (s : Stands first es dumps base stored) where
  abbrev counted : Stored
  counted = here dumps (history_of es) stored

  pub told_at : (low f b : ℕ) (bytes : List ℕ) (a : IsAtDescribed (points_told dumps es stored) low f b bytes) → HasPoint (live_of es) counted a.point.number a.point.blocks
  told_at low f b bytes a = listed_at es (live_of es) counted (live_points (live_of es) counted) a.before a.point a.after (points_listed (live_of es) (next_of es) counted s.kept.numbered).lives a.are

  pub last_at : (n e : ℕ) → IsLive (live_of es) n → last_point (history_of es) ≡ Some e → (n ≤ e) × IsLive (live_of es) e
  last_at n e lives is =
      let l : LastPoint (history_of es) n = (last_lives (history_of es) (next_of es) s.kept.numbered).points n lives in
      let same : l.last ≡ e = some_is l.last e (sym l.is ∙ is) in
      (omega (arith, l.not_above, same), subst (λ k. IsLive (live_of es) k) same l.lives)

pub copies_at_points : CopiesAtPoints
copies_at_points first es dumps base stored dump s lives last counts each = record {
  point_lives = lives;
  end_lives = (last_at first es dumps base stored s dump.point dump.end lives last).1;
  order = (last_at first es dumps base stored s dump.point dump.end lives last).0;
  counts = counts;
  each = λ f b low.
      let a = each f b low in
      let p : HasPoint (live_of es) (here dumps (history_of es) stored) a.point.number a.point.blocks = told_at first es dumps base stored s dump.point f b (block_in dump.blocks f b) a in
      record {
        point = a.point.number;
        lives = p.lives;
        low = a.not_below;
        high = (last_at first es dumps base stored s a.point.number dump.end p.lives last).0;
        same = a.same ∙ ap (λ (c : AllBlocks). block_in c f b) (sym p.same);
      };
}
