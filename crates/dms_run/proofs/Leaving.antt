-- What a stop within true events leaves.
use Rattle.std.proofs.Common.{ℕ, zero, suc, ◌≡◌, ◌≤◌, ◌+◌, ◌-◌, ◌∙◌, List, [], ◌∷◌, ◌++◌, take, drop, map, length, refl, sym, ap, arith, Option, Some, None}
use Rattle.std.specs.List.{AllByRecursion}
use Rattle.std.proofs.lemmas.List.{append_assoc, take-append-drop, length-append, length-take-le, length-map}
use Rattle.std.proofs.Math.Seq.{take-append-add}
use Rattle.dms_model.specs.Db.{Db}
use Rattle.dms_model.specs.Points.{StopFiles, Point, Quiet, Stop, told_point, known_point}
use Rattle.dms_runner.specs.Answers.{last_quiet}
use Rattle.dms_runner.specs.EventLaws.{any}
use Rattle.dms_runner.specs.Events.{RunEvent, text_of, quiets_of, durable_after, durable_by, CrashesWithin}
use Rattle.dms_runner.proofs.Happening.{quiets_on}
use Rattle.dms_storeverbs.specs.View.{LeavesQuiets}
use Rattle.dms_run.specs.States.{EndsWith, HasState}
use Rattle.dms_run.specs.Stops.{last_quiet_number, RunLeaves}
use Rattle.dms_run.specs.Laws.{StopsLaw, EndsLaw}

-- ---- points behind points

-- the last of the points behind those of entry
pub ends_behind : (points front : List Point) (n : ℕ) (db : Db) (p : Point) (more : List Point) (made : List Quiet)
    → points ≡ front ++ p ∷ more → told_point p ≡ known_point (n, db) → map told_point more ≡ map known_point made → EndsWith points (last_quiet_number n made) (last_quiet db made)
ends_behind points front n db p [] [] are is same = record { before = front; point = p; are = are; is = is }
ends_behind points front n db p [] (q ∷ qs) are is same = absurd (cc)
ends_behind points front n db p (c ∷ cs) [] are is same = absurd (cc)
ends_behind points front n db p (c ∷ cs) (q ∷ qs) are is same =
    let head : told_point c ≡ known_point q = cc in
    let tail : map told_point cs ≡ map known_point qs = cc in
    ends_behind points (front ++ p ∷ []) q.0 q.1 c cs qs (are ∙ sym (append_assoc front (p ∷ []) (c ∷ cs))) head tail

-- each of them
each_behind : (points front more : List Point) (made : List Quiet) → points ≡ front ++ more → map told_point more ≡ map known_point made → AllByRecursion (HasState points) made
each_behind points front more [] are same = tt
each_behind points front [] (q ∷ qs) are same = absurd (cc)
each_behind points front (c ∷ cs) (q ∷ qs) are same =
    let head : told_point c ≡ known_point q = cc in
    let tail : map told_point cs ≡ map known_point qs = cc in
    (record { before = front; point = c; after = cs; are = are; is = head }, each_behind points (front ++ c ∷ []) cs qs (are ∙ sym (append_assoc front (c ∷ []) cs)) tail)

-- ---- how many are left

-- what is left of the quiet points behind points that were all durable
record QuietsLeft (whole : StopFiles → Type 0) (points : List Point) (durable next : ℕ) (quiets : List Quiet) (stop : Stop) : Type 0 where
  made : List Quiet
  rest : List Quiet
  more : List Point
  front_of : made ++ rest ≡ quiets
  is : stop.points ≡ points ++ more
  spells : map told_point more ≡ map known_point made
  enough : durable ≤ length points + length made
  next_is : next + length made ≤ stop.next
  not_risen : stop.next ≤ next + length quiets
  files : whole stop.files

map_take : {A B : Type 0} (f : A → B) (k : ℕ) (l : List A) → map f (take k l) ≡ take k (map f l)
map_take f zero l = grind arith
map_take f (suc k) [] = refl
map_take f (suc k) (x ∷ xs) = ap (λ (t : List _). f x ∷ t) (map_take f k xs)

cut_of : (whole : StopFiles → Type 0) (points : List Point) (durable next : ℕ) (quiets : List Quiet) (stop : Stop) → length points ≤ durable → LeavesQuiets whole durable points next quiets stop → QuietsLeft whole points durable next quiets stop
cut_of whole points durable next quiets stop le left =
    let g = left.grew in
    let f = left.front in
    let k = f.count - length points in
    let lens : length g.more ≡ length left.made = sym (length-map g.more told_point) ∙ ap length g.spells ∙ length-map left.made known_point in
    let all : length left.all ≡ length points + length g.more = ap length g.is ∙ length-append points g.more in
    let low : k ≤ length left.made = omega (arith, f.within, lens, all, f.enough, le) in
    let count : f.count ≡ length points + k = omega (arith, f.enough, le) in
    let taken : stop.points ≡ points ++ take k g.more =
    f.is ∙ ap (λ (l : List Point). take f.count l) g.is ∙ ap (λ (n : ℕ). take n (points ++ g.more)) count ∙ take-append-add points g.more k in
    let len : length (take k left.made) ≡ k = length-take-le k left.made low in
    record {
      made = take k left.made;
      rest = drop k left.made ++ left.rest;
      more = take k g.more;
      front_of = sym (append_assoc (take k left.made) (drop k left.made) left.rest) ∙ ap (λ (l : List Quiet). l ++ left.rest) (take-append-drop k left.made) ∙ left.front_of;
      is = taken;
      spells = map_take told_point k g.more ∙ ap (λ (l : List (ℕ × Option Db)). take k l) g.spells ∙ sym (map_take known_point k left.made);
      enough = omega (arith, f.enough, count, len);
      next_is = omega (arith, f.not_fallen, all, lens, count, low, len);
      not_risen = omega (arith, f.not_risen, ap length left.front_of, length-append left.made left.rest);
      files = f.files;
    }

-- ---- how many were durable

durable_by_shift : (c : ℕ) (o : Option ℕ) (s s' all all' : ℕ) → s' ≡ c + s → all' ≡ c + all → durable_by o s' all' ≡ c + durable_by o s all
durable_by_shift c None s s' all all' e f = e
durable_by_shift c (Some n) s s' all all' e f = f

durable_shift : (c n s n' s' : ℕ) (es : List RunEvent) → n' ≡ c + n → s' ≡ c + s → durable_after n' s' es ≡ c + durable_after n s es
durable_shift c n s n' s' [] e f = f
durable_shift c n s n' s' (x ∷ es) e f =
    let all : n' + length x.quiets ≡ c + (n + length x.quiets) = omega (arith, e) in
    durable_shift c (n + length x.quiets) (durable_by x.sync s (n + length x.quiets)) (n' + length x.quiets) (durable_by x.sync s' (n' + length x.quiets)) es all (durable_by_shift c x.sync s s' (n + length x.quiets) (n' + length x.quiets) f all)

-- ---- a stop

module _ (whole : StopFiles → Type 0) (entry : Option (List ℕ)) (points : List Point) (n : ℕ) (db : Db) (next : ℕ) (events : List RunEvent) (stop : Stop) where
  pub stop_leaves : EndsWith points n db → CrashesWithin whole entry points (length points) next events stop → RunLeaves whole entry points n db next events stop
  stop_leaves ends s =
      let b = durable_after (length points) (length points) s.before in
      let d = durable_after 0 0 s.before in
      let shift : b ≡ length points + d = durable_shift (length points) 0 0 (length points) (length points) s.before (omega arith) (omega arith) in
      let c = cut_of whole points b next (quiets_of s.before ++ s.at.quiets) stop (omega (arith, shift)) s.left in
      let split : quiets_of s.before ++ (s.at.quiets ++ quiets_of s.rest) ≡ quiets_of events = sym (quiets_on s.before (s.at ∷ s.rest)) ∙ ap quiets_of s.all in
      let quiets : c.made ++ (c.rest ++ quiets_of s.rest) ≡ quiets_of events =
      sym (append_assoc c.made c.rest (quiets_of s.rest)) ∙ ap (λ (l : List Quiet). l ++ quiets_of s.rest) c.front_of
      ∙ append_assoc (quiets_of s.before) s.at.quiets (quiets_of s.rest) ∙ split in
      let enough : d ≤ length c.made = omega (arith, c.enough, shift) in
      let few : length c.made ≤ length (quiets_of s.before) + length s.at.quiets =
      omega (arith, ap length c.front_of, length-append c.made c.rest, length-append (quiets_of s.before) s.at.quiets) in
      let up_to : length (quiets_of s.before ++ s.at.quiets) ≤ length (quiets_of events) = omega (arith, ap length c.front_of, ap length quiets, length-append c.made c.rest, length-append c.made (c.rest ++ quiets_of s.rest), length-append c.rest (quiets_of s.rest)) in
      record {
        made = c.made;
        rest = c.rest ++ quiets_of s.rest;
        front_of = quiets;
        state = ends_behind stop.points ends.before n db ends.point c.more c.made (c.is ∙ ap (λ (l : List Point). l ++ c.more) ends.are ∙ append_assoc ends.before (ends.point ∷ []) c.more) ends.is c.spells;
        more = c.more;
        kept = c.is;
        are = c.spells;
        each = each_behind stop.points points c.more c.made c.is c.spells;
        next_is = c.next_is;
        not_risen = omega (arith, c.not_risen, up_to);
        text = λ t is.
            let x = s.text t is in
            record { before = s.before; at = s.at; rest = s.rest; all = s.all; printed = x.0; said_is = x.1 ∙ append_assoc t (text_of s.before) (take x.0 s.at.text); enough = enough; few = few };
        files = c.files;
      }

-- ---- the laws

pub stops : StopsLaw
stops entry points n db next events stop ends s = stop_leaves any entry points n db next events stop ends s

pub ends : EndsLaw
ends points after n db quiets end grew =
    ends_behind after end.before n db end.point grew.more quiets (grew.is ∙ ap (λ (l : List Point). l ++ grew.more) end.are ∙ append_assoc end.before (end.point ∷ []) grew.more) end.is grew.spells
