-- What storing a record makes of the lists that are seen over the blocks.
use Rattle.std.proofs.Common.{◌≡◌, ◌∙◌, ◌+◌, ◌*◌, ◌^◌, ◌<◌, ◌≤◌, ℕ, suc, List, [], ◌∷◌, Bool, true, false, cond, IsTrue, Some, None, refl, sym, ap, subst, slice_get, arith}
use Rattle.std.specs.Prelude.{◌&&◌, ◌==◌, ◌||◌, nat_le, nat_lt, not}
use Rattle.std.specs.List.{list_any}
use Rattle.std.specs.declared.option.Option.{Option}
use Rattle.std.specs.declared.result.Result.TheVariants.{Ok, Err}
use Rattle.std.specs.FinMap.{entries, get}
use Rattle.std.proofs.lemmas.Bool.Decides.{nat_tests}
use Rattle.dms_block.specs.Content.{Content}
use Rattle.dms_block.specs.declared.block_fault.BlockFault.{BlockFault}
use Rattle.dms_block.specs.declared.blocks.Blocks.{Ghosts}
use Rattle.dms_block.specs.declared.overlay.Overlay.{Overlay}
use Rattle.dms_block.specs.View.{overlay_content, under}
use Rattle.dms_desc.specs.Kinds.{takes}
use Rattle.dms_desc.specs.Lookups.{structure_of}
use Rattle.dms_desc.specs.Shape.{Shape, Described}
use Rattle.dms_desc.specs.declared.record.Record.{Record}
use Rattle.dms_links.specs.Altering.{WritesSlots}
use Rattle.dms_links.specs.Linking.{structure_here}
use Rattle.dms_links.specs.Stands.{tally_of}
use Rattle.dms_manual.specs.Clashing.{manual_clash_is}
use Rattle.dms_manual.specs.Following.{AllMovesStand, FewMoves, IfAllMoves, MovesListed, is_moved, most_changes_among}
use Rattle.dms_manual.specs.Named.{names_record}
use Rattle.dms_manual.specs.Naming.{AreManual, has_manual, is_manual_over}
use Rattle.dms_model.specs.Db.{Db, SubsetEntry}
use Rattle.dms_model.specs.Fitting.{RecordFits}
use Rattle.dms_model.specs.Stores.{clashes_in, has_equal, is_strict, owners_in, owners_named}
use Rattle.dms_model.specs.Strict.{lesser, manual_clash}
use Rattle.dms_sets.specs.Answers.{clash_seen}
use Rattle.dms_sets.specs.Changes.{has_number}
use Rattle.dms_sets.specs.Keeping.{Calm, EndsInFault, FileStays, FromBelow, seen_list}
use Rattle.dms_sets.specs.KeepingLaws.{calm_then, calm_wider, fails_then}
use Rattle.dms_sets.specs.Told.{AreListed, ChangeStands, KeepsSets, answer_of}
use Rattle.dms_sets.specs.declared.answer.SetAnswer.{SetAnswer}
use Rattle.dms_sets.specs.declared.answer.SetAnswer.TheVariants.{Done, Duplicate}
use Rattle.dms_spelling.specs.Back.{spelled_files}
use Rattle.dms_spelling.specs.Calls.{calm_writes, fails_writes}
use Rattle.dms_spelling.specs.Grown.{IsNoList, are_listed, not_manual, not_over}
use Rattle.dms_spelling.specs.Holds.{manual_kind}
use Rattle.dms_spelling.specs.Spelled.{database_in}
use Rattle.dms_spelling.specs.Stands.{EntriesStand, StandsFiles}
use Rattle.dms_store.specs.Finding.{number_at, seen_below}
use Rattle.dms_store.specs.Lifted.{IsUsable}
use Rattle.dms_store.specs.PuttingAfter.{none_named, with_record}
use Rattle.dms_store.specs.PuttingAnswers.{change_stands, moves_stand, refusal}
use Rattle.dms_store.specs.PuttingOver.{ListsPut, lists_put, manual_before, manual_new}

-- ---- definitions

-- the set that refuses, and none where all are done
abbrev pub set_refusal : SetAnswer → Option ℕ
set_refusal Done = None
set_refusal (Duplicate n) = Some n

module _ {B : Type 0} {g : Ghosts B} where
  -- the entries of a record that is replaced are moved; for a new record nothing is done
  abbrev pub MovesOf : Described → ℕ → ℕ → Option Record → Record → Overlay B g → Overlay B g → Option ℕ → Type 0
  MovesOf desc set number None new a b answer = (answer ≡ None) × (b ≡ a)
  MovesOf desc set number (Some old) new a b answer = MovesListed desc set number old new (seen_list a) (seen_list b) answer

  -- where a database is told; for a new record nothing fails
  abbrev pub IfMovesOf : Described → ℕ → ℕ → Option Record → Record → Overlay B g → (Db → Type 0) → Type 0
  IfMovesOf desc set number None new a P = ⊥
  IfMovesOf desc set number (Some old) new a P = IfAllMoves desc set number old new (seen_list a) P

  -- so many changes of lists are few
  abbrev pub FewMovesOf : Described → ℕ → ℕ → Option Record → Record → Overlay B g → ℕ → Type 0
  FewMovesOf desc set number None new a n = n ≤ 0
  FewMovesOf desc set number (Some old) new a n = FewMoves desc set number old new (seen_list a) n

-- the changes of lists that move the entries of a record which is replaced
abbrev pub moves_of : Described → ℕ → ℕ → Option Record → Db → ℕ
moves_of desc set number None db = 0
moves_of desc set number (Some old) db = most_changes_among desc db set number desc.structures

-- What the lists answer and are: the answer is the first structure that refuses, and where none does they are those of the database with
-- the record.
pub record ListsLeft (desc : Described) (db : Db) (set number : ℕ) (new : Record) (c d : Content) (answer : Option ℕ) : Type 0 where
  pub answer_is : answer ≡ refusal desc db set (Some number) new
  pub lists : answer ≡ None → ListsPut desc (with_record db set number new) c d

-- ---- no manual subset refuses a record that no entry names

no_owners : (subset n : ℕ) (es : List SubsetEntry) → list_any (names_record subset n) es ≡ false → owners_named subset n es ≡ []
no_owners subset n [] h = refl
no_owners subset n (e ∷ es) h = by ((e.subset == subset) && (e.number == n)) h (λ k. no_owners subset n es k)
  where
    by : (b : Bool) → (b || list_any (names_record subset n) es) ≡ false → (list_any (names_record subset n) es ≡ false → owners_named subset n es ≡ []) → cond b (e.owner ∷ owners_named subset n es) (owners_named subset n es) ≡ []
    by true k rest = absurd (cc k)
    by false k rest = rest k

both_off : (x y : Bool) → y ≡ false → (x && y) ≡ false
both_off true y h = h
both_off false y h = refl

unclashed : (s : Shape) (db : Db) (set n : ℕ) (rec : Record) → (is_manual_over s set ≡ true → list_any (names_record s.number n) db.entries ≡ false) → ((s.kind == 5) && clashes_in s db set (Some n) rec) ≡ false
unclashed s db set n rec off = by (s.kind == 5) (s.set == set) refl refl
  where
    some : List ℕ → Bool
    some os = list_any (λ owner. has_equal s db.entries (Some n) (record rec { owner = owner }) (entries db.records)) os

    strict : Bool → Bool
    strict b = ((((nat_lt 2 s.kind && nat_lt s.kind 6) && b) && not s.duplicates) && takes s rec.values)

    none_strict : (a d t x : Bool) → ((((a && false) && d) && t) && x) ≡ false
    none_strict true d t x = refl
    none_strict false d t x = refl

    by : (a b : Bool) → (s.kind == 5) ≡ a → (s.set == set) ≡ b → (a && clashes_in s db set (Some n) rec) ≡ false
    by false b is of = refl
    by true false is of =
        ap (λ x. strict x && some (owners_in s db.entries (Some n) rec.owner)) of
        ∙ none_strict (nat_lt 2 s.kind && nat_lt s.kind 6) (not s.duplicates) (takes s rec.values) (some (owners_in s db.entries (Some n) rec.owner))
    by true true is of =
        let none = no_owners s.number n db.entries (off (λ i. is i && of i)) in
        ap (λ (os : List ℕ). is_strict s set rec.values && some os) (ap (λ (x : Bool). cond x (owners_named s.number n db.entries) (rec.owner ∷ [])) is ∙ none)
        ∙ both_off (is_strict s set rec.values) false refl

pub none_manual : (db : Db) (set n : ℕ) (rec : Record) (ss : List Shape) → ((i : ℕ) (s : Shape) → slice_get ss i ≡ Some s → is_manual_over s set ≡ true → list_any (names_record s.number n) db.entries ≡ false) → manual_clash ss db set (Some n) rec ≡ None
none_manual db set n rec [] off = refl
none_manual db set n rec (s ∷ ss) off =
    ap (λ b. cond b (Some s.number) (manual_clash ss db set (Some n) rec)) (unclashed s db set n rec (off 0 s refl))
    ∙ none_manual db set n rec ss (λ i t at. off (suc i) t at)

-- so none refuses a new record
pub none_new : {db : Db} (desc : Described) (set n : ℕ) (rec : Record) → ((k : ℕ) (s : Shape) → structure_of desc k ≡ Some s → s.number ≡ k) → get db.records (set, n) ≡ None → EntriesStand desc db → manual_clash desc.structures db set (Some n) rec ≡ None
none_new {db = db} desc set n rec numbered none stand =
    none_manual db set n rec desc.structures (λ i s at own.
    let there = structure_here desc.structures i s at in
    none_named desc db n s (ap (structure_of desc) (numbered (suc i) s there) ∙ there) (manual_kind s set own) (ap (λ t. get db.records (t, n)) (own_set s own) ∙ none) stand)
  where
    own_set : (s : Shape) → is_manual_over s set ≡ true → s.set ≡ set
    own_set s h = grind (arith, nat_tests, h)

-- ---- the calls on lists

lesser_none : (a b : Option ℕ) → lesser a b ≡ None → (a ≡ None) × (b ≡ None)
lesser_none None b h = (refl, h)
lesser_none (Some a) None h = absurd (cc h)
lesser_none (Some a) (Some b) h = absurd (by (nat_le a b) h)
  where
    by : (t : Bool) → ◌≡◌ {A = Option ℕ} (cond t (Some a) (Some b)) None → ⊥
    by true k = cc k
    by false k = cc k

refusal_is : (a : SetAnswer) (o : Option ℕ) → a ≡ answer_of o → set_refusal a ≡ o
refusal_is a None h = ap set_refusal h
refusal_is a (Some n) h = ap set_refusal h

set_done : (a : SetAnswer) → set_refusal a ≡ None → a ≡ Done
set_done Done h = refl
set_done (Duplicate n) h = absurd (cc h)

module _ {B : Type 0} {g : Ghosts B} (desc : Described) (a : Overlay B g) (usable : IsUsable desc a) (s : Shape) (number : ℕ) (at : structure_of desc s.number ≡ Some s) (small : number < 2 ^ 32) (old : Option Record) (new : Record) (fits : RecordFits desc s.number new)
    (db : Db) (told : IsTrue (under a).told) (spelt : database_in desc (under a).content ≡ Some db) (was : get db.records (s.number, number) ≡ old) where
  spelt_seen : database_in desc (overlay_content a) ≡ Some db
  spelt_seen = ap (database_in desc) (seen_below a usable.none) ∙ spelt

  files : StandsFiles desc db (tally_of desc db) (overlay_content a)
  files = spelled_files desc (overlay_content a) db usable.serves.served spelt_seen

  abbrev after : Db
  after = with_record db s.number number new

  -- the sets may be changed, and are those of the database
  pub set_stands : ChangeStands desc db s.number number old (Some new)
  set_stands = change_stands desc (overlay_content a) db s.number number s old new usable.serves.served spelt_seen at small was fits

  pub set_listed : AreListed desc db (seen_list a)
  set_listed = are_listed desc usable.serves.served db a told files.lists files.fit

  module _ (b : Overlay B g) (n : ℕ) (calm : Calm (has_number desc.structures s.number) n a b) where
    -- and then so may the manual subsets
    pub moves_listed : AreManual desc db s.number (seen_list b)
    moves_listed = manual_before desc usable.serves.served db (tally_of desc db) s.number number new a b told files n calm

    pub moves_may : (x : Record) → old ≡ Some x → AllMovesStand desc db s.number number x new
    moves_may x is = moves_stand desc (overlay_content a) db s.number number s x new usable.serves.served spelt_seen at (was ∙ is) fits

    few_of_moves : (o : Option Record) → old ≡ o → (m : ℕ) → FewMovesOf desc s.number number o new b m → m ≤ moves_of desc s.number number o db
    few_of_moves None is m low = low
    few_of_moves (Some x) is m low = low db (moves_may x is) moves_listed

    -- how many changes of lists they take
    pub moves_few : (m : ℕ) → FewMovesOf desc s.number number old new b m → m ≤ moves_of desc s.number number old db
    moves_few m low = few_of_moves old refl m low

    pub below_of : (o : Option Record) → old ≡ o → (e : BlockFault) (z : Overlay B g) → IfMovesOf desc s.number number o new b (λ db. FromBelow e b z) → FromBelow e b z
    below_of None is e z h = absurd h
    below_of (Some x) is e z h = h db (moves_may x is) moves_listed

    module _ (answer : SetAnswer) (kept : KeepsSets desc db s.number number (Some new) (seen_list b) answer) (z : Overlay B g) (m : ℕ) (moved : Calm (is_moved desc s.number) m b z) (second : Option ℕ) where
      first_is : set_refusal answer ≡ clash_seen desc desc.structures db s.number (Some number) new
      first_is = refusal_is answer (clash_seen desc desc.structures db s.number (Some number) new) kept.answer_is

      left_by : second ≡ manual_clash desc.structures db s.number (Some number) new → (second ≡ None → AreManual desc after s.number (seen_list z)) → ListsLeft desc db s.number number new (overlay_content a) (overlay_content z) (lesser (set_refusal answer) second)
      left_by is manual = record {
        answer_is = λ i. lesser (first_is i) (is i);
        lists = λ none.
            let both = lesser_none (set_refusal answer) second none in
            lists_put desc usable.serves.served db (tally_of desc db) s.number number new a b told files n calm z m moved (kept.lists (set_done answer both.0)) (manual both.1);
      }

      left_of : (o : Option Record) → old ≡ o → MovesOf desc s.number number o new b z second → ListsLeft desc db s.number number new (overlay_content a) (overlay_content z) (lesser (set_refusal answer) second)
      left_of None is h =
          left_by (h.0 ∙ sym (none_new desc s.number number new (λ k t there. number_at desc k t usable.serves.served there) (was ∙ is) files.entries))
          (λ none. subst (λ (y : Overlay B g). AreManual desc after s.number (seen_list y)) (sym h.1) (manual_new desc usable.serves.served db (tally_of desc db) s.number number new a b told files n calm (was ∙ is)))
      left_of (Some x) is h =
          let all = h db (moves_may x is) moves_listed in
          left_by (all.answer_is ∙ sym (manual_clash_is db s.number number new desc.structures)) all.lists

      -- What is left is the lists of the database with the record, or a structure refuses it.
      pub lists_left : MovesOf desc s.number number old new b z second → ListsLeft desc db s.number number new (overlay_content a) (overlay_content z) (lesser (set_refusal answer) second)
      lists_left h = left_of old refl h

-- ---- what is written

all_lists : (p : ℕ → Bool) → (m : ℕ) → p m ≡ true → true ≡ true
all_lists p m h = refl

module _ {B : Type 0} {g : Ghosts B} (onward : (x y z : B) → g.same_blocks x y → g.same_blocks y z → g.same_blocks x z) where
  -- changes of sets, and then of manual subsets
  pub both_write : {T : Type 0} (p q : ℕ → Bool) (n m : ℕ) (x : T) (a b z : Overlay B g) → (under a).sound → Calm p n a b → Calm q m b z → WritesSlots (22 * (n + m)) (Ok x) a z
  both_write p q n m x a b z sound one two =
      calm_writes (λ k. true) (n + m) (22 * (n + m)) x a z sound (omega arith) (calm_then onward (λ k. true) n m a b z (calm_wider p (λ k. true) n a b (λ k h. refl) one) (calm_wider q (λ k. true) m b z (λ k h. refl) two))

  pub both_fail : {T : Type 0} (e : BlockFault) (p : ℕ → Bool) (n m : ℕ) (a b z : Overlay B g) → (under a).sound → Calm p n a b → EndsInFault e m b z → WritesSlots {T = T} (22 * (n + m)) (Err e) a z
  both_fail e p n m a b z sound one two = fails_writes e (n + m) (22 * (n + m)) a z sound (omega arith) (fails_then onward e p n m a b z one two)

-- the files of data sets stay
pub both_stay : {B : Type 0} {g : Ghosts B} (desc : Described) (a b z : Overlay B g) (usable : IsUsable desc a) (set n m : ℕ) → Calm (has_number desc.structures set) n a b → Calm (has_manual desc.structures set) m b z → (k : ℕ) → IsNoList desc k → FileStays k a z
both_stay desc a b z usable set n m one two k none =
    let served = usable.serves.served in
    let first = one.others k (not_over desc served set k none) in
    let then = two.others k (not_manual desc served set k none) in
    (then.0 ∙ first.0, λ told. then.1 (one.told ∙ told) ∙ first.1 told)
