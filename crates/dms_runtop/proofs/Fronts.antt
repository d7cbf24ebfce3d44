-- What a stop within the events of the first lines leaves, told of the whole script.
use Rattle.std.proofs.Common.{ℕ, ◌≡◌, ◌≤◌, ◌+◌, ◌⊎◌, ◌∙◌, inl, inr, Bool, List, [], ◌∷◌, ◌++◌, length, take, Option, refl, sym, ap, subst, arith, append_assoc}
use Rattle.std.proofs.lemmas.List.{append-nil, length-append, take_all}
use Rattle.dms_desc.specs.Shape.{Described}
use Rattle.dms_model.specs.Db.{Db}
use Rattle.dms_model.specs.Points.{Quiet}
use Rattle.dms_model.specs.Session.{someone_works}
use Rattle.dms_runner.specs.Answers.{script_run, script_events, unanswered_events}
use Rattle.dms_runner.specs.Events.{RunEvent, durable_after, durable_by, goes_back, pause, quiets_of, text_of}
use Rattle.dms_runner.specs.Running.{AreOfFront}
use Rattle.dms_runner.proofs.Fronts.{front_of_script}
use Rattle.dms_runner.proofs.Happening.{quiets_on}
use Rattle.dms_running.specs.Telling.{Telling}
use Rattle.dms_running.specs.Points.{DescribedPoint}
use Rattle.dms_site.specs.Files.{Left}
use Rattle.dms_run.specs.Files.{RunLeavesFiles}
use Rattle.dms_run.specs.Stops.{PrintedUpTo}

-- ---- more events

-- These are more events: they make more quiet points, and a stop within those lies within these.
pub record Widens (events wide : List RunEvent) : Type 0 where
  pub more : List Quiet
  pub quiets : quiets_of events ++ more ≡ quiets_of wide
  pub text : (entry : List ℕ) (left : ℕ) (said : List ℕ) → PrintedUpTo entry events left said → PrintedUpTo entry wide left said

pub leaves_wide : {t : Telling} {desc : Described} {entry : Option (List ℕ)} {points : List DescribedPoint} {n : ℕ} {db : Db} {next : ℕ} {events wide : List RunEvent} → Widens events wide
    → (x : Left) → RunLeavesFiles t desc entry points n db next events x → RunLeavesFiles t desc entry points n db next wide x
leaves_wide {events = events} w x l = record {
  made = l.made;
  rest = l.rest ++ w.more;
  front_of = sym (append_assoc l.made l.rest w.more) ∙ ap (λ (q : List Quiet). q ++ w.more) l.front_of ∙ w.quiets;
  state = l.state;
  more = l.more;
  kept = l.kept;
  are = l.are;
  each = l.each;
  next_is = l.next_is;
  not_risen = omega (arith, l.not_risen, ap length w.quiets, length-append (quiets_of events) w.more);
  text = λ b is. w.text b (length l.made) x.said (l.text b is);
  whole = l.whole;
}

-- events behind them
pub wider : (xs ys : List RunEvent) → Widens xs (xs ++ ys)
wider xs ys = record {
  more = quiets_of ys;
  quiets = sym (quiets_on xs ys);
  text = λ entry left said p. record {
    before = p.before;
    at = p.at;
    rest = p.rest ++ ys;
    all = sym (append_assoc p.before (p.at ∷ p.rest) ys) ∙ ap (λ (l : List RunEvent). l ++ ys) p.all;
    printed = p.printed;
    said_is = p.said_is;
    enough = p.enough;
    few = p.few;
  };
}

-- ---- a stop behind the last event

not_none : (xs : List RunEvent) (y : RunEvent) (ys : List RunEvent) → xs ++ y ∷ ys ≡ [] → ⊥
not_none [] y ys is = absurd cc
not_none (x ∷ xs) y ys is = absurd cc

-- an event of a list, or the one behind it
last_or_in : (xs : List RunEvent) (last : RunEvent) (before : List RunEvent) (at : RunEvent) (rest : List RunEvent) → before ++ at ∷ rest ≡ xs ++ last ∷ []
    → ((before ≡ xs) × (at ≡ last)) ⊎ ((r : List RunEvent) × (before ++ at ∷ r ≡ xs))
last_or_in [] last [] at rest is = inl (refl, head)
  where
    head : at ≡ last
    head = cc
last_or_in [] last (b ∷ before) at rest is = absurd (not_none before at rest tail)
  where
    tail : before ++ at ∷ rest ≡ []
    tail = cc
last_or_in (x ∷ xs) last [] at rest is = inr (xs, same)
  where
    same : at ∷ xs ≡ x ∷ xs
    same = cc
last_or_in (x ∷ xs) last (b ∷ before) at rest is = on (last_or_in xs last before at rest tail)
  where
    head : b ≡ x
    head = cc

    tail : before ++ at ∷ rest ≡ xs ++ last ∷ []
    tail = cc

    on : ((before ≡ xs) × (at ≡ last)) ⊎ ((r : List RunEvent) × (before ++ at ∷ r ≡ xs)) → ((b ∷ before ≡ x ∷ xs) × (at ≡ last)) ⊎ ((r : List RunEvent) × ((b ∷ before) ++ at ∷ r ≡ x ∷ xs))
    on (inl l) = inl ((λ i. head i ∷ l.0 i), l.1)
    on (inr r) = inr (r.0, λ i. head i ∷ r.1 i)

-- nothing is printed at a pause
said_still : (xs before : List RunEvent) (at : RunEvent) (printed : ℕ) (entry said : List ℕ) → before ≡ xs → at ≡ pause → said ≡ entry ++ (text_of before ++ take printed at.text) → said ≡ entry ++ (text_of xs ++ [])
said_still xs before at printed entry said same silent is =
    is ∙ ap (λ (l : List RunEvent). entry ++ (text_of l ++ take printed at.text)) same ∙ ap (λ (e : RunEvent). entry ++ (text_of xs ++ take printed e.text)) silent
    ∙ ap (λ (z : List ℕ). entry ++ (text_of xs ++ z)) (take_all printed [] (omega arith))

-- so it is a stop before what comes next
widens_pause : (xs : List RunEvent) (y : RunEvent) (ys : List RunEvent) → Widens (xs ++ pause ∷ []) (xs ++ y ∷ ys)
widens_pause xs y ys = record {
  more = quiets_of (y ∷ ys);
  quiets = ap (λ (q : List Quiet). q ++ quiets_of (y ∷ ys)) (quiets_on xs (pause ∷ []) ∙ append-nil (quiets_of xs)) ∙ sym (quiets_on xs (y ∷ ys));
  text = λ entry left said p. at_end entry left said p (last_or_in xs pause p.before p.at p.rest p.all);
}
  where
    at_end : (entry : List ℕ) (left : ℕ) (said : List ℕ) (p : PrintedUpTo entry (xs ++ pause ∷ []) left said) → ((p.before ≡ xs) × (p.at ≡ pause)) ⊎ ((r : List RunEvent) × (p.before ++ p.at ∷ r ≡ xs)) → PrintedUpTo entry (xs ++ y ∷ ys) left said
    at_end entry left said p (inl is) =
        let few : length (quiets_of p.before) ≡ length (quiets_of xs) = ap (λ (l : List RunEvent). length (quiets_of l)) is.0 in
        let none : length p.at.quiets ≡ 0 = ap (λ (e : RunEvent). length e.quiets) is.1 in
        record {
          before = xs;
          at = y;
          rest = ys;
          all = refl;
          printed = 0;
          said_is = said_still xs p.before p.at p.printed entry said is.0 is.1 p.said_is;
          enough = subst (λ (l : List RunEvent). durable_after 0 0 l ≤ left) is.0 p.enough;
          few = omega (arith, p.few, few, none);
        }
    at_end entry left said p (inr rest) =
        record { before = p.before; at = p.at; rest = rest.0 ++ y ∷ ys; all = sym (append_assoc p.before (p.at ∷ rest.0) (y ∷ ys)) ∙ ap (λ (l : List RunEvent). l ++ y ∷ ys) rest.1; printed = p.printed; said_is = p.said_is; enough = p.enough; few = p.few }

-- ---- behind the way back

text_still : (xs : List RunEvent) (works : Bool) → text_of (xs ++ goes_back works ∷ []) ≡ text_of xs
text_still [] works = refl
text_still (x ∷ xs) works = ap (λ (t : List ℕ). x.text ++ t) (text_still xs works)

quiets_still : (xs : List RunEvent) (works : Bool) → quiets_of (xs ++ goes_back works ∷ []) ≡ quiets_of xs
quiets_still [] works = refl
quiets_still (x ∷ xs) works = ap (λ (q : List Quiet). x.quiets ++ q) (quiets_still xs works)

durable_still : (xs : List RunEvent) (works : Bool) (count durable : ℕ) → durable_after count durable (xs ++ goes_back works ∷ []) ≡ durable_after count durable xs
durable_still [] works count durable = refl
durable_still (x ∷ xs) works count durable = durable_still xs works (count + length x.quiets) (durable_by x.sync durable (count + length x.quiets))

-- nothing is said in it, and nothing made, so a stop behind it is one before it
module _ (xs : List RunEvent) (works : Bool) where
  abbrev ws : List RunEvent
  ws = xs ++ goes_back works ∷ []

  at_end : (entry : List ℕ) (left : ℕ) (said : List ℕ) (p : PrintedUpTo entry (ws ++ pause ∷ []) left said) → ((p.before ≡ ws) × (p.at ≡ pause)) ⊎ ((r : List RunEvent) × (p.before ++ p.at ∷ r ≡ ws)) → PrintedUpTo entry ws left said
  at_end entry left said p (inl is) =
      let few : length (quiets_of p.before) ≡ length (quiets_of xs) = ap (λ (l : List RunEvent). length (quiets_of l)) is.0 ∙ ap length (quiets_still xs works) in
      let none : length p.at.quiets ≡ 0 = ap (λ (e : RunEvent). length e.quiets) is.1 in
      record {
        before = xs;
        at = goes_back works;
        rest = [];
        all = refl;
        printed = 0;
        said_is = said_still ws p.before p.at p.printed entry said is.0 is.1 p.said_is ∙ ap (λ (z : List ℕ). entry ++ (z ++ [])) (text_still xs works);
        enough = subst (λ (m : ℕ). m ≤ left) (durable_still xs works 0 0) (subst (λ (l : List RunEvent). durable_after 0 0 l ≤ left) is.0 p.enough);
        few = omega (arith, p.few, few, none);
      }
  at_end entry left said p (inr rest) = record { before = p.before; at = p.at; rest = rest.0; all = rest.1; printed = p.printed; said_is = p.said_is; enough = p.enough; few = p.few }

  widens_back : Widens (ws ++ pause ∷ []) ws
  widens_back = record {
    more = [];
    quiets = append-nil (quiets_of (ws ++ pause ∷ [])) ∙ quiets_on ws (pause ∷ []) ∙ append-nil (quiets_of ws);
    text = λ entry left said p. at_end entry left said p (last_or_in ws pause p.before p.at p.rest p.all);
  }

-- ---- the whole script

-- the script ends with the way back
script_ends : (desc : Described) (db : Db) (first : ℕ) (lines : List (List ℕ)) → Widens (script_events desc db first lines ++ pause ∷ []) (script_events desc db first lines)
unfolding script_events
script_ends desc db first lines =
    let run = script_run desc db first lines in
    let works = someone_works run.going.session.programs in
    subst (λ (es : List RunEvent). Widens (es ++ pause ∷ []) es) (append_assoc run.events (unanswered_events run.going.waiting) (goes_back works ∷ []))
    (widens_back (run.events ++ unanswered_events run.going.waiting) works)

-- so a stop within what was carried out of it, or behind that, is one within the script
pub script_widens : (desc : Described) (db : Db) (first : ℕ) (lines : List (List ℕ)) (n : ℕ) (events : List RunEvent) → AreOfFront desc db first lines n events → Widens (events ++ pause ∷ []) (script_events desc db first lines)
script_widens desc db first lines n events (inr are) = subst (λ (es : List RunEvent). Widens (es ++ pause ∷ []) (script_events desc db first lines)) (sym are.2) (script_ends desc db first lines)
script_widens desc db first lines n events (inl are) = let f = front_of_script desc db first lines n in by_rest f.0 (f.1 ∙ ap (λ (es : List RunEvent). es ++ f.0) (sym are))
  where
    by_rest : (rest : List RunEvent) → script_events desc db first lines ≡ events ++ rest → Widens (events ++ pause ∷ []) (script_events desc db first lines)
    by_rest [] is = subst (λ (es : List RunEvent). Widens (es ++ pause ∷ []) (script_events desc db first lines)) (is ∙ append-nil events) (script_ends desc db first lines)
    by_rest (y ∷ ys) is = subst (λ (es : List RunEvent). Widens (events ++ pause ∷ []) es) (sym is) (widens_pause events y ys)
