-- A restore by any rule begins, writes and ends.
use Rattle.std.proofs.Common.{ℕ, ◌<◌, ◌≡◌, ◌||◌, ◌&&◌, inl, inr, Bool, true, false, cond, List, [], ◌∷◌, ◌++◌, map, length, Option, Some, None, refl, sym, ◌∙◌, ap, subst, arith}
use Rattle.std.specs.List.{range_with_len}
use Rattle.std.proofs.lemmas.List.FromFn.{fill_by_all}
use Rattle.std.proofs.lemmas.Bool.{cases_Bool, true≢false}
use Rattle.std.proofs.lemmas.Option.{none-some}
use Rattle.dms_history.specs.Events.{BlockBytes, AllBlocks, Stored, Counts, How, halt_load, back_out, roll_back, rebuild, reconstruct, Event, control, block_in}
use Rattle.dms_history.specs.Replay.{Chain, replay}
use Rattle.dms_history.specs.Images.{last_after, first_before, value, choice}
use Rattle.dms_history.specs.Lists.{has, until_first, after_first, after_last}
use Rattle.dms_history.specs.Places.{is_control, is_described, is_point, IsLive}
use Rattle.dms_history.specs.Base.{Sound, from_control}
use Rattle.dms_history.specs.Pick.{Dump, Dumps, count_at, reached_count, pick, dump_pick, content_of}
use Rattle.dms_history.specs.Here.{restore_pick, outcome, here_by, here}
use Rattle.dms_history.specs.History.{Pending, History}
use Rattle.dms_history.specs.Restores.{is_none, is_unlogged, has_no_before, takes_stored}
use Rattle.dms_history.specs.LawsOfRestores.{RestoreBegins, RestoreWrites, RestoreEnds, EndsFirst, PendingWritesFirst}
use Rattle.dms_history.proofs.Picks.{chain_split, some_is}
use Rattle.dms_history.proofs.AtPoints.{split_first, replay_append, true_or, or_true_right}
use Rattle.dms_history.proofs.HalfDone.{has_front, until_until, chain_control}
use Rattle.dms_history.proofs.Base.{content_length, content_block, has_append}
use Rattle.dms_history.proofs.Converse.{opening_append}
use Rattle.dms_history.proofs.Given.{controlled, from_until, live_from, at_point, outcome_right}

-- ---- prefixes

pub has_self : (p : Event → Bool) (es : List Event) → has p es ≡ true → has p (until_first p es) ≡ true
has_self p [] found = found
has_self p (e ∷ es) found = go (p e) (has p es) refl found (λ more. has_self p es more)
  where
    go : (b c : Bool) → p e ≡ b → b || c ≡ true → (c ≡ true → has p (until_first p es) ≡ true) → has p (cond b (e ∷ []) (cond c (e ∷ until_first p es) [])) ≡ true
    go true c is some rest = ap (λ k. k || false) is
    go false true is some rest = or_true_right (p e) (has p (until_first p es)) (rest refl)
    go false false is some rest = absurd (true≢false (sym some))

pub until_append : (p : Event → Bool) (xs ys : List Event) → has p xs ≡ true → until_first p (xs ++ ys) ≡ until_first p xs
until_append p [] ys found = absurd (true≢false (sym found))
until_append p (e ∷ xs) ys found = go (p e) (has p xs) (has p (xs ++ ys)) found (λ more. has_append p xs ys ∙ true_or (has p xs) (has p ys) more) (λ more. until_append p xs ys more)
  where
    go : (b c d : Bool) → b || c ≡ true → (c ≡ true → d ≡ true) → (c ≡ true → until_first p (xs ++ ys) ≡ until_first p xs) → cond b (e ∷ []) (cond d (e ∷ until_first p (xs ++ ys)) []) ≡ cond b (e ∷ []) (cond c (e ∷ until_first p xs) [])
    go true c d some leads rest = refl
    go false true d some leads rest = λ i. cond (leads refl i) (e ∷ rest refl i) []
    go false false d some leads rest = absurd (true≢false (sym some))

pub front_live : (entries : List Event) (m : ℕ) → IsLive entries m → IsLive (until_first (is_point m) entries) m
front_live entries m at =
    let found = has_self (is_point m) entries at.found in
    record { found = found; described = ap (λ (l : List Event). has is_described l) (until_until (is_point m) (is_point m) entries found) ∙ at.described }

pub live_in : (entries : List Event) (m n : ℕ) → IsLive (until_first (is_point m) entries) n → IsLive entries n
live_in entries m n at = record {
  found = has_front (is_point m) (is_point n) entries at.found;
  described = ap (λ (l : List Event). has is_described l) (sym (until_until (is_point m) (is_point n) entries at.found)) ∙ at.described;
}

-- ---- begins

pub restore_begins : RestoreBegins
restore_begins how dumps t base counted stored m ready =
    let entries = t.live in
    let front = until_first (is_point m) entries in
    let left = outcome how dumps entries m stored in
    let cut : from_control front ≡ until_first (is_point m) (from_control entries) = from_until (is_point m) entries (controlled entries m ready.point_lives) in
    let right : left ≡ replay (until_first (is_point m) (from_control entries)) base = outcome_right entries base counted m ready.sound ready.point_lives how dumps stored ready.same ready.dump in
    let now : left ≡ replay (from_control front) base = right ∙ ap (λ (l : List Event). replay l base) (sym cut) in
    let front_chain : Chain (until_first (is_point m) (from_control entries)) base = (chain_split (until_first (is_point m) (from_control entries)) (after_first (is_point m) (from_control entries)) base
    (subst (λ (l : List Event). Chain l base) (sym (split_first (is_point m) (from_control entries) (live_from entries m ready.point_lives).found)) ready.sound.chain)).0 in
    let sound : Sound (from_control front) base (block_in left) = record {
      chain = subst (λ (l : List Event). Chain l base) (sym cut) front_chain;
      stands = λ f b low none. ap (λ (c : AllBlocks). block_in c f b) now;
    } in
    let pending : Pending = record { entries = entries; point = m; how = how } in
    record {
      steady = record {
        sound = sound;
        restored = λ p is. subst (λ (q : Pending). outcome q.how dumps q.entries q.point stored ≡ replay (from_control front) base) (some_is pending p is) now;
        point_lives = λ p is. subst (λ (q : Pending). IsLive front q.point) (some_is pending p is) (front_live entries m ready.point_lives);
      };
      leaves = right ∙ sym (at_point entries base counted m ready.sound ready.point_lives);
      points = λ n at.
          let in_front = live_from front n at in
          let same : until_first (is_point n) (from_control front) ≡ until_first (is_point n) (from_control entries) =
          ap (λ (l : List Event). until_first (is_point n) l) cut ∙ until_until (is_point m) (is_point n) (from_control entries) (ap (λ (l : List Event). has (is_point n) l) (sym cut) ∙ in_front.found) in
          at_point front base (block_in left) n sound at ∙ ap (λ (l : List Event). replay l base) same ∙ sym (at_point entries base counted n ready.sound (live_in entries m n at));
    }

-- ---- writes

pub blocks_same : (counts : Counts) (s r : Stored) → ((f b : ℕ) → b < counts f → s f b ≡ r f b) → content_of counts s ≡ content_of counts r
unfolding content_of
blocks_same counts s r same = λ i f. fill_by_all (r f) (map (s f) (range_with_len 0 (counts f))) (counts f) [] (content_length counts s f) (λ k low. content_block counts s f k low ∙ same f k low) i

pub log_same : (entries : List Event) (m f b : ℕ) (written stored : Stored) → (is_unlogged entries m f b ≡ true → written f b ≡ stored f b) → pick entries m written f b ≡ pick entries m stored f b
unfolding pick choice
log_same entries m f b written stored same = go (last_after f b (after_last is_control (until_first (is_point m) entries))) (first_before f b (after_first (is_point m) entries)) same
  where
    go : (o : Option BlockBytes) (first : Option (Option BlockBytes)) → (is_none o && has_no_before first ≡ true → written f b ≡ stored f b) → value o first (written f b) ≡ value o first (stored f b)
    go (Some x) first at = refl
    go None None at = at refl
    go None (Some None) at = at refl
    go None (Some (Some old)) at = refl

pub restore_same : (how : How) (dumps : Dumps) (entries : List Event) (m f b : ℕ) (written stored : Stored) → (takes_stored how entries m f b ≡ true → written f b ≡ stored f b) → restore_pick how dumps entries m written f b ≡ restore_pick how dumps entries m stored f b
unfolding restore_pick
restore_same halt_load dumps entries m f b written stored same = log_same entries m f b written stored same
restore_same back_out dumps entries m f b written stored same = log_same entries m f b written stored same
restore_same roll_back dumps entries m f b written stored same = log_same entries m f b written stored same
restore_same (rebuild d) dumps entries m f b written stored same = refl
restore_same (reconstruct d named) dumps entries m f b written stored same = go (named f b) same
  where
    go : (k : Bool) → (cond k false (is_unlogged entries m f b) ≡ true → written f b ≡ stored f b) → cond k (dump_pick entries (dumps d) m f b) (pick entries m written f b) ≡ cond k (dump_pick entries (dumps d) m f b) (pick entries m stored f b)
    go true at = refl
    go false at = log_same entries m f b written stored at

outcome_same : (how : How) (dumps : Dumps) (entries : List Event) (m : ℕ) (written stored : Stored) → ((f b : ℕ) → b < count_at entries m f → takes_stored how entries m f b ≡ true → written f b ≡ stored f b)
    → outcome how dumps entries m written ≡ outcome how dumps entries m stored
unfolding outcome
outcome_same how dumps entries m written stored same = blocks_same (count_at entries m) (restore_pick how dumps entries m written) (restore_pick how dumps entries m stored) (λ f b low. restore_same how dumps entries m f b written stored (λ takes_it. same f b low takes_it))

pub here_is : (dumps : Dumps) (t : History) (p : Pending) (stored : Stored) → t.pending ≡ Some p → here dumps t stored ≡ block_in (outcome p.how dumps p.entries p.point stored)
here_is dumps t p stored is = ap (λ o. here_by o dumps stored) is

pub restore_writes : RestoreWrites
restore_writes dumps t base stored written p is steady same =
    let left : outcome p.how dumps p.entries p.point written ≡ outcome p.how dumps p.entries p.point stored = outcome_same p.how dumps p.entries p.point written stored same in
    let equal : here dumps t written ≡ here dumps t stored = here_is dumps t p written is ∙ ap (λ (c : AllBlocks). block_in c) left ∙ sym (here_is dumps t p stored is) in record {
      steady = record {
        sound = subst (λ (s : Stored). Sound (from_control t.live) base s) (sym equal) steady.sound;
        restored = λ q is_q. subst (λ (r : Pending). outcome r.how dumps r.entries r.point written ≡ replay (from_control t.live) base) (some_is p q (sym is ∙ is_q)) (left ∙ steady.restored p is);
        point_lives = steady.point_lives;
      };
      counts = equal;
    }

-- ---- ends

pub restore_ends : RestoreEnds
restore_ends dumps t base stored written p next counts described is steady count stand =
    let m = p.point in
    let e = control m next counts described in
    let left = outcome p.how dumps p.entries p.point stored in
    let right : left ≡ replay (from_control t.live) base = steady.restored p is in
    let at = steady.point_lives p is in
    let controlled : has is_control t.live ≡ true = has_front (is_point m) is_control t.live (controlled t.live m at) in
    let grown : from_control (t.live ++ e ∷ []) ≡ from_control t.live ++ e ∷ [] = (opening_append t.live (e ∷ []) controlled).1 in
    let count_is : (f : ℕ) → counts f ≡ length (replay (from_control t.live) base f) = λ f. count f ∙ ap (λ (c : AllBlocks). length (c f)) right in
    let now : replay (from_control (t.live ++ e ∷ [])) base ≡ replay (from_control t.live) base = ap (λ (l : List Event). replay l base) grown ∙ replay_append (from_control t.live) (e ∷ []) base in
    let sound : Sound (from_control (t.live ++ e ∷ [])) base written = record {
      chain = subst (λ (l : List Event). Chain l base) (sym grown) (chain_control (from_control t.live) base m next counts described steady.sound.chain count_is);
      stands = λ f b low none.
          let under : b < counts f = omega (arith, subst (λ (c : AllBlocks). b < length (c f)) now low, count_is f) in
          stand f b under ∙ ap (λ (s : Stored). s f b) (here_is dumps t p stored is) ∙ ap (λ (c : AllBlocks). block_in c f b) (right ∙ sym now);
    } in record {
      steady = record { sound = sound; restored = λ q none. absurd (none-some q none); point_lives = λ q none. absurd (none-some q none) };
      points = λ n live.
          let more : until_first (is_point n) (t.live ++ e ∷ []) ≡ until_first (is_point n) t.live = until_append (is_point n) t.live (e ∷ []) live.found in
          let live_on : IsLive (t.live ++ e ∷ []) n = record {
            found = has_append (is_point n) t.live (e ∷ []) ∙ true_or (has (is_point n) t.live) (has (is_point n) (e ∷ [])) live.found;
            described = ap (λ (l : List Event). has is_described l) more ∙ live.described;
          } in
          let inner : until_first (is_point n) (from_control (t.live ++ e ∷ [])) ≡ until_first (is_point n) (from_control t.live) =
          ap (λ (l : List Event). until_first (is_point n) l) grown ∙ until_append (is_point n) (from_control t.live) (e ∷ []) (live_from t.live n live).found in
          record { lives = live_on; same = at_point (t.live ++ e ∷ []) base written n sound live_on ∙ ap (λ (l : List Event). replay l base) inner ∙ sym (at_point t.live base (here dumps t stored) n steady.sound live) };
    }

-- ---- a pending restore is finished before a reconstruction

pub outcome_block : (how : How) (dumps : Dumps) (entries : List Event) (m f b : ℕ) (s : Stored) → b < count_at entries m f → block_in (outcome how dumps entries m s) f b ≡ restore_pick how dumps entries m s f b
unfolding outcome
outcome_block how dumps entries m f b s low = content_block (count_at entries m) (restore_pick how dumps entries m s) f b low

pub outcome_length : (how : How) (dumps : Dumps) (entries : List Event) (m f : ℕ) (s : Stored) → length (outcome how dumps entries m s f) ≡ count_at entries m f
unfolding outcome
outcome_length how dumps entries m f s = content_length (count_at entries m) (restore_pick how dumps entries m s) f

-- what a dump gives, and how many blocks there are, is told by the entries up to the place
dump_until : (xs ys : List Event) (dump : Dump) (m f b : ℕ) → until_first (is_point m) xs ≡ until_first (is_point m) ys → dump_pick xs dump m f b ≡ dump_pick ys dump m f b
unfolding dump_pick
dump_until xs ys dump m f b same = ap (λ (l : List Event). value (last_after f b (after_first (is_point dump.point) l)) None (block_in dump.blocks f b)) same

count_until : (xs ys : List Event) (m f : ℕ) → until_first (is_point m) xs ≡ until_first (is_point m) ys → count_at xs m f ≡ count_at ys m f
unfolding count_at
count_until xs ys m f same = ap (λ (l : List Event). reached_count f 0 l) same

pub ends_first : EndsFirst
ends_first dumps t base right stored written p next d named counts described is steady true_dump same count stand =
    let m = p.point in
    let e = control m next counts described in
    let mixed : Stored = λ f b. cond (named f b) (here dumps t right f b) (written f b) in
    let low_is : (f b : ℕ) → b < counts f → b < count_at p.entries m f = λ f b low. omega (arith, low, count f, outcome_length p.how dumps p.entries m f stored) in
    let block : (f b : ℕ) (s : Stored) → b < counts f → here dumps t s f b ≡ restore_pick p.how dumps p.entries m s f b =
    λ f b s low. ap (λ (r : Stored). r f b) (here_is dumps t p s is) ∙ outcome_block p.how dumps p.entries m f b s (low_is f b low) in
    let ended = restore_ends dumps t base right mixed p next counts described is steady
    (λ f. count f ∙ outcome_length p.how dumps p.entries m f stored ∙ sym (outcome_length p.how dumps p.entries m f right))
    (λ f b low. elim (cases_Bool (named f b)) [
      | inl on ↦ ap (λ k. cond k (here dumps t right f b) (written f b)) on
      | inr off ↦
          ap (λ k. cond k (here dumps t right f b) (written f b)) off ∙ stand f b low off ∙ block f b stored low
          ∙ restore_same p.how dumps p.entries m f b stored right (λ _. same f b off) ∙ sym (block f b right low)
    ]) in
    let point = steady.point_lives p is in
    let kept = ended.points m point in
    let more : until_first (is_point m) (t.live ++ e ∷ []) ≡ until_first (is_point m) t.live = until_append (is_point m) t.live (e ∷ []) point.found in
    record {
      steady = ended.steady;
      ready = record {
        sound = ended.steady.sound;
        same = λ f b off. ap (λ k. cond k (here dumps t right f b) (written f b)) (sym off);
        point_lives = kept.lives;
        dump = record {
          gives = λ f b low.
              dump_until (t.live ++ e ∷ []) t.live (dumps d) m f b more ∙ true_dump.gives f b (subst (λ k. b < k) (count_until (t.live ++ e ∷ []) t.live m f more) low)
              ∙ ap (λ (c : AllBlocks). block_in c f b) (sym kept.same);
        };
      };
      points = ended.points;
    }

pub log_takes : (entries : List Event) (m f b : ℕ) (s : Stored) → is_unlogged entries m f b ≡ true → pick entries m s f b ≡ s f b
unfolding pick choice
log_takes entries m f b s on = go (last_after f b (after_last is_control (until_first (is_point m) entries))) (first_before f b (after_first (is_point m) entries)) on
  where
    go : (o : Option BlockBytes) (first : Option (Option BlockBytes)) → is_none o && has_no_before first ≡ true → value o first (s f b) ≡ s f b
    go (Some x) first at = absurd (true≢false (sym at))
    go None None at = refl
    go None (Some None) at = refl
    go None (Some (Some old)) at = absurd (true≢false (sym at))

pub takes_is : (how : How) (dumps : Dumps) (entries : List Event) (m f b : ℕ) (s : Stored) → takes_stored how entries m f b ≡ true → restore_pick how dumps entries m s f b ≡ s f b
unfolding restore_pick
takes_is halt_load dumps entries m f b s on = log_takes entries m f b s on
takes_is back_out dumps entries m f b s on = log_takes entries m f b s on
takes_is roll_back dumps entries m f b s on = log_takes entries m f b s on
takes_is (rebuild d) dumps entries m f b s on = absurd (true≢false (sym on))
takes_is (reconstruct d named) dumps entries m f b s on = go (named f b) on
  where
    go : (k : Bool) → cond k false (is_unlogged entries m f b) ≡ true → cond k (dump_pick entries (dumps d) m f b) (pick entries m s f b) ≡ s f b
    go true at = absurd (true≢false (sym at))
    go false at = log_takes entries m f b s at

pub pending_writes_first : PendingWritesFirst
pending_writes_first dumps t base right stored written p named is steady same kept =
    let m = p.point in
    restore_writes dumps t base right (λ f b. cond (named f b) (here dumps t right f b) (written f b)) p is steady (λ f b low on. elim (cases_Bool (named f b)) [
      | inl yes_named ↦
          ap (λ k. cond k (here dumps t right f b) (written f b)) yes_named
          ∙ ap (λ (s : Stored). s f b) (here_is dumps t p right is) ∙ outcome_block p.how dumps p.entries m f b right low ∙ takes_is p.how dumps p.entries m f b right on
      | inr off ↦ ap (λ k. cond k (here dumps t right f b) (written f b)) off ∙ kept f b off low on ∙ same f b off
    ])
