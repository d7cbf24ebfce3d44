-- Restores one after another.
use Rattle.std.proofs.Common.{ℕ, ◌≡◌, ◌==◌, ◌||◌, inl, inr, Bool, true, false, List, [], ◌∷◌, ◌++◌, Some, None, refl, sym, ◌∙◌, ap, subst}
use Rattle.std.proofs.lemmas.Bool.{true≢false, cases_Bool}
use Rattle.std.proofs.lemmas.Option.{none-some}
use Rattle.dms_history.specs.Events.{block_in, AllBlocks, Stored, Counts, Event, change, quiet, control, begin}
use Rattle.dms_history.specs.Lists.{has}
use Rattle.dms_history.specs.Places.{is_described, is_point, IsLive}
use Rattle.dms_history.specs.Pick.{blocks_at, Dumps}
use Rattle.dms_history.specs.Base.{Sound, opening, from_control}
use Rattle.dms_history.specs.History.{History, history_from, after_event}
use Rattle.dms_history.specs.Here.{here_by, here}
use Rattle.dms_history.specs.Restores.{Steady}
use Rattle.dms_history.specs.Often.{Disk, RestoreStep, began, wrote, ended, disk_after_step, May, StepsKeep, HoweverOften, FromAnything}
use Rattle.dms_history.specs.LawsOfRunning.{RunsSteady}
use Rattle.dms_history.specs.Replay.{replay, with_block}
use Rattle.dms_history.specs.Images.{or_else, last_after}
use Rattle.dms_history.specs.Ranges.{patch_bytes, range_change}
use Rattle.dms_history.specs.LawsOfRanges.{RangesSteady}
use Rattle.dms_history.proofs.Picks.{last_append, last_stands}
use Rattle.dms_history.proofs.AtPoints.{replay_append}
use Rattle.dms_history.proofs.HalfDone.{or_at}
use Rattle.dms_history.proofs.Runs.{changes, quiets, writes_early, controls}
use Rattle.dms_history.proofs.Base.{has_append, parts}
use Rattle.dms_history.proofs.Converse.{opening_append, logged_below}
use Rattle.dms_history.proofs.Order.{eq_of}
use Rattle.dms_history.proofs.Stops.{restore_begins, restore_writes, restore_ends, live_in, until_append}

-- a point that is live with the Control of a live point was live
was_live : (live : List Event) (m n next : ℕ) (counts : Counts) (described : Bool) → IsLive live m → IsLive (live ++ control m next counts described ∷ []) n → IsLive live n
was_live live m n next counts described at on = elim (cases_Bool (has (is_point n) live)) [
  | inl found ↦ record { found = found; described = ap (λ (l : List Event). has is_described l) (sym (until_append (is_point n) live (control m next counts described ∷ []) found)) ∙ on.described }
  | inr off ↦
      let last : (m == n) || false ≡ true = ap (λ k. k || ((m == n) || false)) (sym off) ∙ sym (has_append (is_point n) live (control m next counts described ∷ [])) ∙ on.found in
      elim (or_at (m == n) false last) [
        | inl counted ↦ subst (λ k. IsLive live k) (eq_of m n counted) at
        | inr off_too ↦ absurd (true≢false (sym off_too.1))
      ]
]

one_step : (dumps : Dumps) (base : AllBlocks) (d : Disk) (s : RestoreStep) → Steady dumps d.history base d.stored → May dumps base d s → StepsKeep dumps base d (disk_after_step d s)
one_step dumps base d (began how m) steady ready =
    let r = restore_begins how dumps d.history base (here dumps d.history d.stored) d.stored m ready in
    record { steady = r.steady; points = λ n at. record { lives = live_in d.history.live m n at; same = sym (r.points n at) } }
one_step dumps base d (wrote written) steady may =
    let r = restore_writes dumps d.history base d.stored written may.p may.is steady may.stays in
    record { steady = r.steady; points = λ n at. record { lives = at; same = ap (λ (s : Stored). blocks_at d.history.live s n) (sym r.counts) } }
one_step dumps base d (ended written m next counts described) steady may =
    let p = may.p in
    let r = restore_ends dumps d.history base d.stored written p next counts described may.is steady may.counted may.stand in
    let new : Disk = disk_after_step d (ended written p.point next counts described) in
    let kept : StepsKeep dumps base d new = record {
      steady = r.steady;
      points = λ n at. let was = was_live d.history.live p.point n next counts described (steady.point_lives p may.is) at in record { lives = was; same = sym (r.points n was).same };
    } in
    subst (λ k. StepsKeep dumps base d (disk_after_step d (ended written k next counts described))) (sym may.its_point) kept

pub however_often : HoweverOften
however_often dumps base d [] steady may = record { steady = steady; points = λ n at. record { lives = at; same = refl } }
however_often dumps base d (s ∷ ss) steady may =
    let one = one_step dumps base d s steady may.0 in
    let rest = however_often dumps base (disk_after_step d s) ss one.steady may.1 in
    record { steady = rest.steady; points = λ n at. let r = rest.points n at in let q = one.points n r.lives in record { lives = q.lives; same = q.same ∙ r.same } }

-- ---- a database that runs

pub here_unpending : (dumps : Dumps) (t : History) (stored : Stored) → t.pending ≡ None → here dumps t stored ≡ stored
here_unpending dumps t stored none = ap (λ o. here_by o dumps stored) none

pub steady_of : (dumps : Dumps) (t : History) (base : AllBlocks) (stored : Stored) → t.pending ≡ None → Sound (from_control t.live) base stored → Steady dumps t base stored
steady_of dumps t base stored none sound = record {
  sound = subst (λ (s : Stored). Sound (from_control t.live) base s) (sym (here_unpending dumps t stored none)) sound;
  restored = λ p is. absurd (none-some p (sym none ∙ is));
  point_lives = λ p is. absurd (none-some p (sym none ∙ is));
}

pub runs_steady : RunsSteady
runs_steady dumps t base stored none controlled steady =
    let sound : Sound (from_control t.live) base stored = subst (λ (s : Stored). Sound (from_control t.live) base s) (here_unpending dumps t stored none) steady.sound in
    let grown : (e : Event) → from_control t.live ++ e ∷ [] ≡ from_control (t.live ++ e ∷ []) = λ e. sym (opening_append t.live (e ∷ []) controlled).1 in
    record {
      change = λ f b before after tells.
          let e = change f b before after in
          steady_of dumps (after_event t e) base stored none (subst (λ (l : List Event). Sound l base stored) (grown e) (changes (from_control t.live) base stored f b before after sound tells));
      quiet = λ n. steady_of dumps (after_event t (quiet n)) base stored none (subst (λ (l : List Event). Sound l base stored) (grown (quiet n)) (quiets (from_control t.live) base stored n sound));
      writes = λ written same. steady_of dumps t base written none (writes_early (from_control t.live) base stored written sound same);
      control = λ written n next counts described count stand.
          let e = control n next counts described in
          steady_of dumps (after_event t e) base written refl (subst (λ (l : List Event). Sound l base written) (grown e) (controls (from_control t.live) base stored written n next counts described sound count stand));
    }

pub ranges_steady : RangesSteady
ranges_steady dumps t base stored f b place bytes old none found steady last =
    let all = from_control t.live in
    let e = change f b (Some old) (patch_bytes place bytes old) in
    let live_last : last_after f b t.live ≡ Some old = ap (λ (l : List Event). last_after f b l) (sym (parts t.live)) ∙ last_append (opening t.live) all f b ∙ ap (λ o. or_else o (last_after f b (opening t.live))) last in
    let chain = steady.sound.chain in
    let stands : old ≡ block_in (replay all base) f b = sym (last_stands all base f b old chain last) in
    let grown : from_control (t.live ++ e ∷ []) ≡ all ++ e ∷ [] = (opening_append t.live (e ∷ []) found).1 in
    record {
      is = ap (λ o. history_from t (range_change f b place bytes o)) live_last;
      steady = (runs_steady dumps t base stored none found steady).change f b (Some old) (patch_bytes place bytes old) (logged_below all base f b old chain last, stands);
      content = ap (λ (l : List Event). replay l base) grown ∙ replay_append all (e ∷ []) base ∙ ap (λ x. with_block (replay all base) f b (patch_bytes place bytes x)) stands;
    }

pub from_anything : FromAnything
from_anything how dumps t base counted stored m steps ready may n at =
    let d : Disk = record { history = after_event t (begin m how); stored = stored } in
    let begun = restore_begins how dumps t base counted stored m ready in
    let rest = (however_often dumps base d steps begun.steady may).points n at in
    record { lives = live_in t.live m n rest.lives; same = sym (begun.points n rest.lives) ∙ rest.same }
