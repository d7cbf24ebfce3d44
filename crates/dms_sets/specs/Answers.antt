-- What storing a record answers, by looks at the sets' entries.
use Rattle.std.proofs.Common.{◌≡◌, ℕ, ◌^◌, ◌<◌, List, [], ◌∷◌, Bool, true, false, cond, Some, None, refl, ap, ◌∙◌, arith}
use Rattle.std.specs.Prelude.{◌&&◌, not, ◌==◌, nat_lt, is_some, if◌then◌else◌, ⊤}
use Rattle.std.specs.List.{AllByRecursion}
use Rattle.std.specs.declared.option.Option.{Option}
use Rattle.std.specs.FinMap.{get, entries}
use Rattle.std.proofs.lemmas.Bool.Decides.{nat_tests}
use Rattle.std.proofs.lemmas.Bool.{and_parts}
use Rattle.dms_base.specs.declared.kind.ItemKind.{ItemKind}
use Rattle.dms_desc.specs.declared.record.Record.{Record}
use Rattle.dms_desc.specs.Shape.{Shape, Described}
use Rattle.dms_model.specs.Db.{Db, Records}
use Rattle.dms_desc.specs.Keys.{key_of}
use Rattle.dms_desc.specs.Kinds.{takes, over}
use Rattle.dms_model.specs.Stores.{has_equal, is_closed, judge_put, put_number, put_unless}
use Rattle.dms_model.specs.Strict.{AreNumbered, clash_is_lesser, lesser, manual_clash, set_clash}
use Rattle.dms_sets.specs.Listing.{member_opt}
use Rattle.dms_sets.specs.Sets.{entry_of, entries_of, kinds_over}
use Rattle.dms_sets.specs.Owners.{EntriesFit}
use Rattle.dms_sets.specs.Clashes.{key_front, look, new_taken, old_taken}
use Rattle.dms_sets.specs.Entries.{IsSetKey}
use Rattle.dms_chain.specs.Lists.{without_in}

-- the entry of the record that is replaced
abbrev pub old_entry : List ItemKind → Shape → Records → ℕ → Option ℕ → Option (List ℕ)
old_entry kinds s m set None = None
old_entry kinds s m set (Some n) = member_opt (entry_of kinds s) (set, n) (get m (set, n))

-- Of a set's entries without that one, the first that reaches the record's owner and key has them.
abbrev pub is_blocked : Described → Shape → Db → ℕ → Option ℕ → Record → Bool
is_blocked desc s db set number rec =
    is_some (look (key_front (kinds_over desc s) s.parts rec.owner (key_of s.parts rec.values)) (without_in (old_entry (kinds_over desc s) s db.records set number) (entries_of desc db s)))

-- the first set or automatic subset in number order that refuses
abbrev pub clash_seen : Described → List Shape → Db → ℕ → Option ℕ → Record → Option ℕ
clash_seen desc [] db set number rec = None
clash_seen desc (s ∷ ss) db set number rec = if is_closed s set rec.values && is_blocked desc s db set number rec then Some s.number else clash_seen desc ss db set number rec

-- the records that a set has, and a new one, fit
pub record AreJudged (desc : Described) (db : Db) (rec : Record) (s : Shape) : Type 0 where
  pub all : EntriesFit (kinds_over desc s) s (entries db.records)
  pub key : IsSetKey (kinds_over desc s) s.parts (key_of s.parts rec.values)

abbrev pub IsFoundNumber : Option ℕ → Type 0
IsFoundNumber None = ⊤
IsFoundNumber (Some n) = n < 2 ^ 32

-- what is known of a closed structure
pub record IsOpenTo (s : Shape) (set : ℕ) : Type 0 where
  pub auto : (s.kind == 5) ≡ false
  pub over : over s ≡ set

over_at : (b : Bool) (s : Shape) (set : ℕ) → nat_lt s.kind 3 ≡ b → nat_lt 2 s.kind ≡ true → s.set ≡ set → cond b s.number s.set ≡ set
over_at true s set e h same = absurd (grind (arith, nat_tests, e, h))
over_at false s set e h same = same

pub closed_is : (s : Shape) (set : ℕ) (d t : Bool) → (nat_lt 2 s.kind && nat_lt s.kind 5 && (s.set == set) && d && t) ≡ true → IsOpenTo s set
closed_is s set d t h =
    let four = and_parts (nat_lt 2 s.kind && nat_lt s.kind 5 && (s.set == set) && d) t h in
    let three = and_parts (nat_lt 2 s.kind && nat_lt s.kind 5 && (s.set == set)) d four.0 in
    let two = and_parts (nat_lt 2 s.kind && nat_lt s.kind 5) (s.set == set) three.0 in
    let one = and_parts (nat_lt 2 s.kind) (nat_lt s.kind 5) two.0 in
    let same : s.set ≡ set = grind (arith, nat_tests, two.1) in
    record { auto = grind (arith, nat_tests, one.1); over = over_at (nat_lt s.kind 3) s set refl one.0 same }

blocked_at : (desc : Described) (s : Shape) (db : Db) (set : ℕ) (number : Option ℕ) (rec : Record) → IsOpenTo s set → rec.owner < 2 ^ 32 → IsFoundNumber number → AreJudged desc db rec s
    → has_equal s db.entries number rec (entries db.records) ≡ is_blocked desc s db set number rec
blocked_at desc s db set None rec able owned small judge_put = new_taken (kinds_over desc s) s db.entries rec able.auto owned judge_put.key db.records judge_put.all
blocked_at desc s db set (Some n) rec able owned small judge_put =
    old_taken (kinds_over desc s) s db.entries rec able.auto owned judge_put.key db.records n small judge_put.all
    ∙ ap (λ (k : ℕ). is_blocked desc s db k (Some n) rec) able.over

clash_turn : (b : Bool) (desc : Described) (s : Shape) (db : Db) (set : ℕ) (number : Option ℕ) (rec : Record) (o p : Option ℕ) → is_closed s set rec.values ≡ b → rec.owner < 2 ^ 32 → IsFoundNumber number → (is_closed s set rec.values ≡ true → AreJudged desc db rec s) → o ≡ p
    → cond (b && has_equal s db.entries number rec (entries db.records)) (Some s.number) o ≡ cond (b && is_blocked desc s db set number rec) (Some s.number) p
clash_turn true desc s db set number rec o p closed owned small judge_put rest =
    (λ i. cond (blocked_at desc s db set number rec (closed_is s set (not s.duplicates) (takes s rec.values) closed) owned small (judge_put closed) i) (Some s.number) (rest i))
clash_turn false desc s db set number rec o p closed owned small judge_put rest = rest

pub clash_is : (desc : Described) (ss : List Shape) (db : Db) (set : ℕ) (number : Option ℕ) (rec : Record) → rec.owner < 2 ^ 32 → IsFoundNumber number → AllByRecursion (λ s. is_closed s set rec.values ≡ true → AreJudged desc db rec s) ss
    → set_clash ss db set number rec ≡ clash_seen desc ss db set number rec
clash_is desc [] db set number rec owned small all = refl
clash_is desc (s ∷ ss) db set number rec owned small all =
    clash_turn (is_closed s set rec.values) desc s db set number rec (set_clash ss db set number rec) (clash_seen desc ss db set number rec) refl owned small all.0 (clash_is desc ss db set number rec owned small all.1)

-- What is answered where a record would be stored: a duplicate exactly where a look at a set's entries finds its owner and key, or a
-- manual subset refuses it, whichever comes first.
pub answer_is : (desc : Described) (db : Db) (set : ℕ) (number : Option ℕ) (rec : Record) → AreNumbered 1 desc.structures → rec.owner < 2 ^ 32 → IsFoundNumber number → AllByRecursion (λ s. is_closed s set rec.values ≡ true → AreJudged desc db rec s) desc.structures
    → judge_put desc db set number rec ≡ put_unless (lesser (clash_seen desc desc.structures db set number rec) (manual_clash desc.structures db set number rec)) (put_number desc db set number)
answer_is desc db set number rec numbered owned small all =
    ap (λ o. put_unless o (put_number desc db set number)) (clash_is_lesser db set number rec 1 desc.structures numbered
    ∙ ap (λ o. lesser o (manual_clash desc.structures db set number rec)) (clash_is desc desc.structures db set number rec owned small all))
