-- The slots, cut on the way from one first line to the next.
use Rattle.std.proofs.Common.{Vec, Global, ◌≡◌, ◌∙◌, ◌≤◌, ◌<◌, ◌+◌, ◌||◌, ℕ, zero, suc, List, [], ◌∷◌, ◌++◌, Bool, true, false, cond, Some, None, length, take, drop, get_or, refl, sym, ap, arith, append_assoc, length-append}
use Rattle.std.specs.Prelude.{slice_get, slice_set}
use Rattle.std.specs.List.{AllByRecursion, remove}
use Rattle.std.specs.Str.{bytes_eq}
use Rattle.std.specs.declared.option.Option.{Option}
use Rattle.std.proofs.lemmas.List.{drop_all, drop_more, take_more, take-append-drop}
use Rattle.dms_runner.specs.declared.waiting.WaitingLine.{WaitingLine}
use Rattle.dms_runner.specs.declared.waiting.WaitingLines.{WaitingLines}
use Rattle.dms_runner.specs.Firsts.{AreFirst, FirstAt, first_slots, line_in, lines_of, next_slot, none_seen, put_some, seen_too, standing}
use Rattle.dms_runner.specs.Waiting.{has_line, said_to_wait}
use Rattle.dms_runner.proofs.Firsts.{line_on, or_none, seen_again, standing_on, unseen}

-- lines of programs that were seen
abbrev pub AreSeen : (List ℕ → Bool) → List WaitingLine → Type 0
AreSeen seen hs = AllByRecursion (λ h. seen h.program ≡ true) hs

-- ---- on to the next first line

record Jump (seen : List ℕ → Bool) (xs : List (Option WaitingLine)) : Type 0 where
  skipped : List (Option WaitingLine)
  line : WaitingLine
  ahead : List (Option WaitingLine)
  is : xs ≡ skipped ++ Some line ∷ ahead
  all : AreSeen seen (standing skipped)
  new : seen line.program ≡ false

jump : (n : ℕ) (seen : List ℕ → Bool) (xs : List (Option WaitingLine)) (q : ℕ) (rest : List ℕ) → first_slots n seen xs ≡ q ∷ rest → Jump seen xs
jump n seen [] q rest is = absurd (cc)
jump n seen (None ∷ xs) q rest is =
    let j = jump (n + 1) seen xs q rest is in
    record { skipped = None ∷ j.skipped; line = j.line; ahead = j.ahead; is = ap (λ (l : List (Option WaitingLine)). None ∷ l) j.is; all = j.all; new = j.new }
jump n seen (Some h ∷ xs) q rest is = by (seen h.program) refl (λ e. jump (n + 1) seen xs q rest e) is
  where
    by : (t : Bool) → seen h.program ≡ t → (first_slots (n + 1) seen xs ≡ q ∷ rest → Jump seen xs) → cond t (first_slots (n + 1) seen xs) (n ∷ first_slots (n + 1) (seen_too seen h.program) xs) ≡ q ∷ rest → Jump seen (Some h ∷ xs)
    by true e on is =
        let j = on is in
        record { skipped = Some h ∷ j.skipped; line = j.line; ahead = j.ahead; is = ap (λ (l : List (Option WaitingLine)). Some h ∷ l) j.is; all = (e, j.all); new = j.new }
    by false e on is = record { skipped = []; line = h; ahead = xs; is = refl; all = tt; new = e }

none_first : (n : ℕ) (seen : List ℕ → Bool) (xs : List (Option WaitingLine)) → first_slots n seen xs ≡ [] → AreSeen seen (standing xs)
none_first n seen [] is = tt
none_first n seen (None ∷ xs) is = none_first (n + 1) seen xs is
none_first n seen (Some h ∷ xs) is = by (seen h.program) refl (λ e. none_first (n + 1) seen xs e) is
  where
    by : (t : Bool) → seen h.program ≡ t → (first_slots (n + 1) seen xs ≡ [] → AreSeen seen (standing xs)) → cond t (first_slots (n + 1) seen xs) (n ∷ first_slots (n + 1) (seen_too seen h.program) xs) ≡ [] → AreSeen seen (h ∷ standing xs)
    by true e on is = (e, on is)
    by false e on is = absurd (cc)

-- lines of programs that were seen are passed over
skip_firsts : (n : ℕ) (seen : List ℕ → Bool) (ys zs : List (Option WaitingLine)) → AreSeen seen (standing ys) → first_slots n seen (ys ++ zs) ≡ first_slots (n + length ys) seen zs
skip_firsts n seen [] zs all = let e : n ≡ n + 0 = omega arith in ap (λ (k : ℕ). first_slots k seen zs) e
skip_firsts n seen (None ∷ ys) zs all = let e : n + 1 + length ys ≡ n + suc (length ys) = omega arith in skip_firsts (n + 1) seen ys zs all ∙ ap (λ (k : ℕ). first_slots k seen zs) e
skip_firsts n seen (Some h ∷ ys) zs all =
    let e : n + 1 + length ys ≡ n + suc (length ys) = omega arith in
    ap (λ (b : Bool). cond b (first_slots (n + 1) seen (ys ++ zs)) (n ∷ first_slots (n + 1) (seen_too seen h.program) (ys ++ zs))) all.0 ∙ skip_firsts (n + 1) seen ys zs all.1 ∙ ap (λ (k : ℕ). first_slots k seen zs) e

-- and none is seen by them that wasn't before
seen_still : (seen : List ℕ → Bool) (hs : List WaitingLine) (name : List ℕ) → AreSeen seen hs → (seen name || has_line hs name) ≡ seen name
seen_still seen [] name all = or_none (seen name)
seen_still seen (h ∷ hs) name all = sym (turn (seen name) (bytes_eq h.program name) (has_line hs name)) ∙ ap (λ (b : Bool). b || has_line hs name) (seen_again seen h.program all.0 name) ∙ seen_still seen hs name all.1
  where
    turn : (a b c : Bool) → ((a || b) || c) ≡ (a || (b || c))
    turn true b c = refl
    turn false b c = refl

-- ---- cuts

-- before the j-th of the firsts
pub record Split (w : WaitingLines) (j : ℕ) : Type 0 where
  pub behind : List (Option WaitingLine)
  pub ahead : List (Option WaitingLine)
  pub seen : List ℕ → Bool
  pub are : w.slots.items ≡ behind ++ ahead
  pub same : (name : List ℕ) → has_line (standing behind) name ≡ seen name
  pub before : (more : List (Option WaitingLine)) → first_slots 0 none_seen (behind ++ more) ≡ take j w.firsts.items ++ first_slots (length behind) seen more
  pub now : drop j w.firsts.items ≡ first_slots (length behind) seen ahead
  pub count : w.count ≡ length (lines_of w)

abbrev pub split_start : (w : WaitingLines) → AreFirst w → Split w 0
split_start w are = record { behind = []; ahead = w.slots.items; seen = none_seen; are = refl; same = λ name. refl; before = λ more. refl; now = are.firsts; count = are.count }

pub split_first : (w : WaitingLines) (j : ℕ) → Split w j → AreFirst w
split_first w j s = record {
  firsts = sym (take-append-drop j w.firsts.items) ∙ ap (λ (l : List ℕ). take j w.firsts.items ++ l) s.now ∙ sym (s.before s.ahead) ∙ ap (first_slots 0 none_seen) (sym s.are);
  count = s.count;
}

-- the next first line, and those that are passed over on the way there
pub record Reached (w : WaitingLines) (j : ℕ) (s : Split w j) : Type 0 where
  pub first : FirstAt w j
  pub skipped : List (Option WaitingLine)
  pub is_behind : first.behind ≡ s.behind ++ skipped
  pub is_ahead : s.ahead ≡ skipped ++ Some first.line ∷ first.ahead
  pub all : AreSeen (has_line (standing s.behind)) (standing skipped)

seen_by : (s t : List ℕ → Bool) (hs : List WaitingLine) → ((b : List ℕ) → t b ≡ s b) → AreSeen s hs → AreSeen t hs
seen_by s t [] e all = tt
seen_by s t (h ∷ hs) e all = (e h.program ∙ all.0, seen_by s t hs e all.1)

pub reach : (w : WaitingLines) (j : ℕ) (s : Split w j) → j < length w.firsts.items → Reached w j s
reach w j s low =
    let k = jump (length s.behind) s.seen s.ahead (get_or w.firsts.items j 0) (drop (j + 1) w.firsts.items) (sym s.now ∙ drop_more w.firsts.items j 0 low) in
    let len : length (s.behind ++ k.skipped) ≡ length s.behind + length k.skipped = length-append s.behind k.skipped in
    record {
      first = record {
        behind = s.behind ++ k.skipped;
        line = k.line;
        ahead = k.ahead;
        seen = s.seen;
        are = s.are ∙ ap (λ (l : List (Option WaitingLine)). s.behind ++ l) k.is ∙ sym (append_assoc s.behind k.skipped (Some k.line ∷ k.ahead));
        same = λ name. ap (λ (l : List WaitingLine). has_line l name) (standing_on s.behind k.skipped) ∙ line_on (standing s.behind) (standing k.skipped) name ∙ ap (λ (b : Bool). b || has_line (standing k.skipped) name) (s.same name) ∙ seen_still s.seen (standing k.skipped) name k.all;
        new = k.new;
        before = λ more.
            ap (first_slots 0 none_seen) (append_assoc s.behind k.skipped more) ∙ s.before (k.skipped ++ more)
            ∙ ap (λ (l : List ℕ). take j w.firsts.items ++ l) (skip_firsts (length s.behind) s.seen k.skipped more k.all ∙ ap (λ (n : ℕ). first_slots n s.seen more) (sym len));
        now =
            s.now ∙ ap (first_slots (length s.behind) s.seen) k.is ∙ skip_firsts (length s.behind) s.seen k.skipped (Some k.line ∷ k.ahead) k.all ∙ ap (λ (n : ℕ). first_slots n s.seen (Some k.line ∷ k.ahead)) (sym len)
            ∙ ap (λ (b : Bool). cond b (first_slots (length (s.behind ++ k.skipped) + 1) s.seen k.ahead) (length (s.behind ++ k.skipped) ∷ first_slots (length (s.behind ++ k.skipped) + 1) (seen_too s.seen k.line.program) k.ahead)) k.new;
        count = s.count;
      };
      skipped = k.skipped;
      is_behind = refl;
      is_ahead = k.is;
      all = seen_by s.seen (has_line (standing s.behind)) (standing k.skipped) s.same k.all;
    }

-- no first line is left
pub reach_none : (w : WaitingLines) (j : ℕ) (s : Split w j) → length w.firsts.items ≤ j → AreSeen (has_line (standing s.behind)) (standing s.ahead)
reach_none w j s over = seen_by s.seen (has_line (standing s.behind)) (standing s.ahead) s.same (none_first (length s.behind) s.seen s.ahead (sym s.now ∙ drop_all j w.firsts.items over))

-- ---- the slot of a first line

get_at : (xs : List (Option WaitingLine)) (y : Option WaitingLine) (zs : List (Option WaitingLine)) → slice_get (xs ++ y ∷ zs) (length xs) ≡ Some y
get_at [] y zs = refl
get_at (x ∷ xs) y zs = get_at xs y zs

set_at : (xs : List (Option WaitingLine)) (y z : Option WaitingLine) (zs : List (Option WaitingLine)) → slice_set (xs ++ y ∷ zs) (length xs) z ≡ xs ++ z ∷ zs
set_at [] y z zs = refl
set_at (x ∷ xs) y z zs = ap (λ (l : List (Option WaitingLine)). x ∷ l) (set_at xs y z zs)

drop_at : (xs : List (Option WaitingLine)) (y : Option WaitingLine) (zs : List (Option WaitingLine)) → drop (length xs + 1) (xs ++ y ∷ zs) ≡ zs
drop_at [] y zs = refl
drop_at (x ∷ xs) y zs = let e : suc (length xs) + 1 ≡ suc (length xs + 1) = omega arith in ap (λ (k : ℕ). drop k (x ∷ (xs ++ y ∷ zs))) e ∙ drop_at xs y zs

abbrev head_of : ℕ → List ℕ → ℕ
head_of d [] = d
head_of d (x ∷ xs) = x

abbrev tail_of : List ℕ → List ℕ
tail_of [] = []
tail_of (x ∷ xs) = xs

-- the j-th of the firsts is the line's slot
pub slot_is : (w : WaitingLines) (j : ℕ) (f : FirstAt w j) (x : ℕ) → j < length w.firsts.items → x ≡ get_or w.firsts.items j x → x ≡ length f.behind
slot_is w j f x low at = at ∙ ap (head_of x) (sym (drop_more w.firsts.items j x low) ∙ f.now)

pub first_in_slot : (w : WaitingLines) (j : ℕ) (f : FirstAt w j) → slice_get w.slots.items (length f.behind) ≡ Some (Some f.line)
first_in_slot w j f = ap (λ (l : List (Option WaitingLine)). slice_get l (length f.behind)) f.are ∙ get_at f.behind (Some f.line) f.ahead

-- before the next of them, behind a line of which it was said that it waits
pub record Next (w v : WaitingLines) (j : ℕ) (f : FirstAt w j) : Type 0 where
  pub split : Split v (j + 1)
  pub is_behind : standing split.behind ≡ standing f.behind ++ said_to_wait f.line ∷ []
  pub is_ahead : split.ahead ≡ f.ahead

-- the line was tried, and it was said that it waits
pub split_next : (w v : WaitingLines) (j : ℕ) (f : FirstAt w j) → j < length w.firsts.items → v.slots.items ≡ slice_set w.slots.items (length f.behind) (Some (said_to_wait f.line)) → v.firsts ≡ w.firsts → v.count ≡ w.count → Next w v j f
split_next w v j f low set firsts count =
    let n = length f.behind in
    let said : Option WaitingLine = Some (said_to_wait f.line) in
    let front : v.slots.items ≡ f.behind ++ said ∷ f.ahead = set ∙ ap (λ (l : List (Option WaitingLine)). slice_set l n said) f.are ∙ set_at f.behind (Some f.line) said f.ahead in
    let len : length (f.behind ++ said ∷ []) ≡ n + 1 = length-append f.behind (said ∷ []) in
    let here : get_or w.firsts.items j n ≡ n = ap (head_of n) (sym (drop_more w.firsts.items j n low) ∙ f.now) in
    let taken : take (j + 1) w.firsts.items ≡ take j w.firsts.items ++ n ∷ [] = take_more w.firsts.items j n low ∙ ap (λ (k : ℕ). take j w.firsts.items ++ k ∷ []) here in
    record {
      is_behind = standing_on f.behind (said ∷ []);
      is_ahead = refl;
      split = record {
        behind = f.behind ++ said ∷ [];
        ahead = f.ahead;
        seen = seen_too f.seen f.line.program;
        are = front ∙ sym (append_assoc f.behind (said ∷ []) f.ahead);
        same = λ name. ap (λ (l : List WaitingLine). has_line l name) (standing_on f.behind (said ∷ [])) ∙ line_on (standing f.behind) (said_to_wait f.line ∷ []) name ∙ ap (λ (b : Bool). b || (bytes_eq f.line.program name || false)) (f.same name) ∙ ap (λ (b : Bool). f.seen name || b) (or_none (bytes_eq f.line.program name));
        before = λ more.
            ap (first_slots 0 none_seen) (append_assoc f.behind (said ∷ []) more) ∙ f.before (said ∷ more)
            ∙ ap (λ (b : Bool). take j w.firsts.items ++ cond b (first_slots (n + 1) f.seen more) (n ∷ first_slots (n + 1) (seen_too f.seen f.line.program) more)) f.new
            ∙ sym (append_assoc (take j w.firsts.items) (n ∷ []) (first_slots (n + 1) (seen_too f.seen f.line.program) more))
            ∙ ap (λ (l : List ℕ). l ++ first_slots (n + 1) (seen_too f.seen f.line.program) more) (sym taken ∙ ap (λ (l : Vec ℕ Global). take (j + 1) l.items) (sym firsts))
            ∙ ap (λ (k : ℕ). take (j + 1) v.firsts.items ++ first_slots k (seen_too f.seen f.line.program) more) (sym len);
        now =
            ap (λ (l : Vec ℕ Global). drop (j + 1) l.items) firsts ∙ ap tail_of (sym (drop_more w.firsts.items j n low) ∙ f.now)
            ∙ ap (λ (k : ℕ). first_slots k (seen_too f.seen f.line.program) f.ahead) (sym len);
        count = count ∙ f.count ∙ ap (λ (l : List (Option WaitingLine)). length (standing l)) f.are ∙ ap length (standing_on f.behind (Some f.line ∷ f.ahead)) ∙ same_length (standing f.behind) f.line (said_to_wait f.line) (standing f.ahead)
            ∙ sym (ap length (standing_on f.behind (said ∷ f.ahead))) ∙ ap (λ (l : List (Option WaitingLine)). length (standing l)) (sym front);
      };
    }
  where
    same_length : (xs : List WaitingLine) (x y : WaitingLine) (zs : List WaitingLine) → length (xs ++ x ∷ zs) ≡ length (xs ++ y ∷ zs)
    same_length [] x y zs = refl
    same_length (z ∷ xs) x y zs = ap suc (same_length xs x y zs)

-- ---- a first line is taken out

pub slots_out : (w : WaitingLines) (j : ℕ) (f : FirstAt w j) (slots : List (Option WaitingLine)) (n : ℕ) → n ≡ length f.behind → slots ≡ slice_set w.slots.items n None → slots ≡ f.behind ++ None ∷ f.ahead
slots_out w j f slots n here set = set ∙ ap (λ (k : ℕ). slice_set w.slots.items k None) here ∙ ap (λ (l : List (Option WaitingLine)). slice_set l (length f.behind) None) f.are ∙ set_at f.behind (Some f.line) None f.ahead

pub lines_out : (w : WaitingLines) (j : ℕ) (f : FirstAt w j) (slots : List (Option WaitingLine)) → slots ≡ f.behind ++ None ∷ f.ahead → standing slots ≡ standing f.behind ++ standing f.ahead
lines_out w j f slots is = ap standing is ∙ standing_on f.behind (None ∷ f.ahead)

pub count_out : (w : WaitingLines) (j : ℕ) (f : FirstAt w j) (slots : List (Option WaitingLine)) → slots ≡ f.behind ++ None ∷ f.ahead → w.count ≡ length (standing slots) + 1
count_out w j f slots is =
    omega (arith, f.count, ap (λ (l : List (Option WaitingLine)). length (standing l)) f.are, ap length (standing_on f.behind (Some f.line ∷ f.ahead)), length-append (standing f.behind) (f.line ∷ standing f.ahead), ap length (lines_out w j f slots is), length-append (standing f.behind) (standing f.ahead))

pub next_out : (w : WaitingLines) (j : ℕ) (f : FirstAt w j) (slots : List (Option WaitingLine)) (n : ℕ) → n ≡ length f.behind → slots ≡ f.behind ++ None ∷ f.ahead → next_slot (n + 1) f.line.program (drop (n + 1) slots) ≡ next_slot (length f.behind + 1) f.line.program f.ahead
next_out w j f slots n here is =
    ap (λ (k : ℕ). next_slot (k + 1) f.line.program (drop (k + 1) slots)) here ∙ ap (next_slot (length f.behind + 1) f.line.program) (ap (drop (length f.behind + 1)) is ∙ drop_at f.behind None f.ahead)

pub firsts_out : (w : WaitingLines) (j : ℕ) (f : FirstAt w j) (slots : List (Option WaitingLine)) → slots ≡ f.behind ++ None ∷ f.ahead → j < length w.firsts.items
    → first_slots 0 none_seen slots ≡ take j w.firsts.items ++ put_some (next_slot (length f.behind + 1) f.line.program f.ahead) (drop (j + 1) w.firsts.items)
firsts_out w j f slots is low =
    let n = length f.behind in
    let rest : drop (j + 1) w.firsts.items ≡ first_slots (n + 1) (seen_too f.seen f.line.program) f.ahead = ap tail_of (sym (drop_more w.firsts.items j n low) ∙ f.now) in
    ap (first_slots 0 none_seen) is ∙ f.before (None ∷ f.ahead)
    ∙ ap (λ (l : List ℕ). take j w.firsts.items ++ l) (unseen (n + 1) f.seen (seen_too f.seen f.line.program) f.line.program f.ahead f.new (λ b. refl) ∙ ap (put_some (next_slot (n + 1) f.line.program f.ahead)) (sym rest))

-- the firsts without the j-th
take_removed : (l : List ℕ) (j : ℕ) → j < length l → take j (remove l j) ≡ take j l
take_removed [] j low = absurd (omega (arith, low))
take_removed (x ∷ l) zero low = refl
take_removed (x ∷ l) (suc j) low = ap (λ (k : List ℕ). x ∷ k) (take_removed l j (omega (arith, low)))

drop_removed : (l : List ℕ) (j : ℕ) → j < length l → drop j (remove l j) ≡ drop (j + 1) l
drop_removed [] j low = absurd (omega (arith, low))
drop_removed (x ∷ l) zero low = refl
drop_removed (x ∷ l) (suc j) low = let e : suc j + 1 ≡ suc (j + 1) = omega arith in drop_removed l j (omega (arith, low)) ∙ ap (λ (k : ℕ). drop k (x ∷ l)) (sym e)

pub removed_out : (l m : List ℕ) (j : ℕ) (o : Option ℕ) → j < length l → m ≡ remove l j → take j m ++ put_some o (drop j m) ≡ take j l ++ put_some o (drop (j + 1) l)
removed_out l m j o low is =
    ap (λ (k : List ℕ). take j k ++ put_some o (drop j k)) is ∙ ap (λ (k : List ℕ). k ++ put_some o (drop j (remove l j))) (take_removed l j low) ∙ ap (λ (k : List ℕ). take j l ++ put_some o k) (drop_removed l j low)

pub first_out : (w : WaitingLines) (j : ℕ) (f : FirstAt w j) (slots : List (Option WaitingLine)) (n : ℕ) (next : Option ℕ) (m firsts : List ℕ) → j < length w.firsts.items → n ≡ length f.behind → slots ≡ f.behind ++ None ∷ f.ahead
    → next ≡ next_slot (n + 1) f.line.program (drop (n + 1) slots) → m ≡ remove w.firsts.items j → firsts ≡ take j m ++ put_some next (drop j m) → firsts ≡ first_slots 0 none_seen slots
first_out w j f slots n next m firsts low here is found gone made =
    made ∙ removed_out w.firsts.items m j next low gone
    ∙ ap (λ (o : Option ℕ). take j w.firsts.items ++ put_some o (drop (j + 1) w.firsts.items)) (found ∙ next_out w j f slots n here is)
    ∙ sym (firsts_out w j f slots is low)

pub taken_is : (w : WaitingLines) (j : ℕ) (f : FirstAt w j) (n : ℕ) (o : Option WaitingLine) → n ≡ length f.behind → slice_get w.slots.items n ≡ Some o → o ≡ Some f.line
taken_is w j f n o here at = ap line_in (sym at ∙ ap (slice_get w.slots.items) here ∙ first_in_slot w j f)
