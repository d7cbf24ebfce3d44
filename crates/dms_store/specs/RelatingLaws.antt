-- What the calls on links, entries and records that go promise, from what they write over the blocks and what becomes of that.
use Rattle.std.proofs.Common.{◌≡◌, ◌∙◌, ◌*◌, ◌≤◌, ◌<◌, ◌^◌, ℕ, [], inl, inr, Bool, true, false, cond, IsTrue, Some, None, refl, sym, ap, subst, length, arith}
use Rattle.std.specs.Prelude.{◌-◌, ◌||◌, List, ◌∷◌, zero, suc, IfOk, OnOk, not, min, filter, slice_get, IfSome}
use Rattle.std.specs.List.{list_any}
use Rattle.std.specs.declared.option.Option.{Option}
use Rattle.std.specs.declared.result.Result.{Result}
use Rattle.std.specs.declared.result.Result.TheVariants.{Ok, Err}
use Rattle.std.proofs.lemmas.Result.{IfOk-weaker}
use Rattle.dms_block.specs.declared.block_fault.BlockFault.{BlockFault}
use Rattle.dms_block.specs.declared.blocks.Blocks.{Ghosts}
use Rattle.dms_block.specs.declared.overlay.Overlay.{Overlay}
use Rattle.dms_block.specs.Content.{Content}
use Rattle.dms_block.specs.Faults.{IfFull}
use Rattle.dms_block.specs.Held.{BlocksAgree, HasCausesOr, Held, Lasts}
use Rattle.dms_block.specs.FaultLaws.{full_none}
use Rattle.dms_block.specs.View.{ReadsOverlay, overlay_changes, overlay_content, under}
use Rattle.dms_desc.specs.Lookups.{items_of, structure_of}
use Rattle.dms_desc.specs.Shape.{Shape, Described}
use Rattle.dms_entries.specs.Promises.{EntryMade, EntryTaken}
use Rattle.dms_links.specs.Altered.{IsSmallTarget}
use Rattle.dms_links.specs.Altering.{WritesSlots}
use Rattle.dms_links.specs.AlteringIn.{MayChangeIn}
use Rattle.dms_links.specs.declared.altering.SlotChange.TheVariants.{Linked}
use Rattle.dms_model.specs.Changing.{Enters as EntersDb, FullWhereEntered, FullWhereLeft, FullWhereRemoved, IsLinkOf, IsManual, Leaves as LeavesDb, Links, MayEnter, Removes, SpendsFor, TellsWhere, removal_count}
use Rattle.dms_model.specs.Db.{Db, SubsetEntry}
use Rattle.dms_model.specs.Members.{names}
use Rattle.dms_model.specs.Fitting.{HasRecord, IsDataSet, IsStored}
use Rattle.dms_model.specs.Stores.{is_link_item}
use Rattle.dms_model.specs.Valid.{is_data_set, is_manual}
use Rattle.dms_model.specs.Uses.{after_enter, after_leave, after_link, after_remove, enter_answer, has_entry, in_use, is_not_entry}
use Rattle.dms_model.specs.declared.put.Put.{Put}
use Rattle.dms_model.specs.declared.put.Put.TheVariants.{Stored, Duplicate, Full}
use Rattle.dms_removal.specs.Freed.{FreesOne, frees_none}
use Rattle.dms_removal.specs.Promises.{RemovesRecord}
use Rattle.dms_spelling.specs.Ready.{FaultsBelow, IfSpelt, IsReady, seen_below}
use Rattle.dms_spelling.specs.Spelled.{database_in}
use Rattle.dms_store.specs.Lifted.{IsUsable, db_of, store_seen}
use Rattle.dms_store.specs.LiftedLaws.{causes_lifted, reads_effort, reads_keep, reads_silent}
use Rattle.dms_store.specs.Looked.{Looked}
use Rattle.dms_store.specs.Noted.{causes_noted, noted_by}
use Rattle.dms_store.specs.Undamaged.{undamaged_or}
use Rattle.dms_store.specs.PuttingCalls.{HandsFew, WritesFew, few_err, few_told}
use Rattle.dms_spelling.specs.Staying.{TakenStay, same_stays}
use Rattle.dms_store.specs.Taken.{AreKnown, Lowers, StaysKnown, lowered, taken_of}
use Rattle.dms_store.specs.TakenLaws.{known_stays, nothing_known, told_before}
use Rattle.std.proofs.lemmas.Bool.{cases_eq, cases_lt}
use Rattle.std.proofs.lemmas.List.{get_or-set_same, get_or-set_other, set_past}
use Rattle.dms_store.specs.PuttingStore.{Changes, change_noted, mute_or, some_structure, spends, told_db}
use Rattle.dms_store.specs.Relating.{MayBeLinked, Relates, db_entered, db_removed, is_stored, limit_for}
use Rattle.dms_store.specs.Settled.{FullWhen, HandsOn, IsDone, IsFewFor, Leaves, Settles, full_settled, hands_failed, hands_settled, leaves_settled}

-- a call that wrote nothing only reads
pub reads_only : {B : Type 0} {g : Ghosts B} {T : Type 0} {m : ℕ} (a b : Overlay B g) (r : Result T BlockFault) → overlay_changes a ≡ [] → overlay_changes b ≡ [] → (writes : WritesSlots m r a b) → ReadsOverlay writes.reads r a b
reads_only a b r none left writes = record { looks = writes.writes.looks; written_still = left ∙ sym none; same = writes.writes.same }

-- a store's blocks are ready for the calls below
pub ready_of : {B : Type 0} {g : Ghosts B} (desc : Described) (o : Overlay B g) → IsUsable desc o → IsReady desc o
ready_of desc o usable = record { sound = usable.sound; served = usable.serves.served; owns = usable.serves.all }

-- there is a structure at least
some_of : (desc : Described) (n : ℕ) (p : Option Shape → Bool) → p None ≡ false → p (structure_of desc n) ≡ true → 1 ≤ length desc.structures
some_of desc n p none is = by (structure_of desc n) refl is
  where
    apart : true ≡ false → ⊥
    apart h = absurd (cc h)

    by : (o : Option Shape) → structure_of desc n ≡ o → p o ≡ true → 1 ≤ length desc.structures
    by None at h = absurd (apart (sym h ∙ none))
    by (Some s) at h = some_structure desc n s at

pub some_manual : (desc : Described) (subset : ℕ) → IsManual desc subset → 1 ≤ length desc.structures
some_manual desc subset is = some_of desc subset is_manual refl is

pub some_set : (desc : Described) (set : ℕ) → IsDataSet desc set → 1 ≤ length desc.structures
some_set desc set is = some_of desc set is_data_set refl is

-- the item of a data set may be linked
pub may_link : (desc : Described) (set item : ℕ) (to : Option ℕ) → IsLinkOf desc set item → IfSome to (λ n. n < 2 ^ 32) → MayChangeIn desc set (Linked item to)
may_link desc set item to link small s at = (ap (λ (o : Option Shape). is_link_item (slice_get (items_of o) (item - 1))) (sym at) ∙ link, small_of to small)
  where
    small_of : (o : Option ℕ) → IfSome o (λ n. n < 2 ^ 32) → IsSmallTarget o
    small_of None h = h
    small_of (Some n) h = h

-- a removal that freed no number
pub frees_same : (desc : Described) (set number : ℕ) (k : Content) → FreesOne desc set number k k
frees_same desc set number k = frees_none desc set number k k (same_stays desc k k refl)

-- ---- what is told of a store

module _ {B : Type 0} {g : Ghosts B} (desc : Described) (count : Db → ℕ) (found found' : ℕ) (o o' : Overlay B g) where
  -- few blocks, as the store counts them
  few_below : {T : Type 0} (r : Result T BlockFault) → overlay_changes o ≡ [] → HandsOn desc (limit_for desc count) r o o' → HandsFew (λ n. (db : Db) → IsTrue (under o).told → database_in desc (under o).content ≡ Some db → n ≤ 64 * length desc.structures * count db) r o o'
  few_below r none on = record { count = on.hands.count; hands = on.hands.hands; low = λ db told is. on.hands.low told db (ap (database_in desc) (seen_below o none) ∙ is) }

  -- a call that changes blocks
  pub changes_on : {T : Type 0} (r : Result T BlockFault) → found < 2 ^ 64 → found' ≡ noted_by r found → IsUsable desc o → BlocksAgree (under o) → ((x y : B) → g.same_blocks x y → g.pace y ≡ g.pace x) → overlay_changes o' ≡ []
      → HandsOn desc (limit_for desc count) r o o' → Changes r (store_seen desc found o) (store_seen desc found' o')
  changes_on r small noted usable agrees law none on =
      change_noted desc found found' o o' (IsFewFor desc (limit_for desc count) o) r small noted usable agrees law none on.hands (λ db told is. on.below told db (ap (database_in desc) (seen_below o usable.none) ∙ is))

  pub spends_on : {T : Type 0} (r : Result T BlockFault) → overlay_changes o ≡ [] → HandsOn desc (limit_for desc count) r o o' → SpendsFor (store_seen desc found o).db desc count (store_seen desc found o).effort (store_seen desc found' o').effort
  spends_on r none on = spends desc found found' o o' count r (few_below r none on)

  -- a call that only reads
  pub looked_for : {T : Type 0} {n : ℕ} (r : Result T BlockFault) → found < 2 ^ 64 → found' ≡ noted_by r found → IsUsable desc o → BlocksAgree (under o) → ((x y : B) → g.same_blocks x y → g.pace y ≡ g.pace x) → ReadsOverlay n r o o'
      → HasCausesOr (λ f k. Unit {0}) r (under o) (under o') → IfSpelt desc o (λ db. FaultsBelow r o o') → Looked r (store_seen desc found o) (store_seen desc found' o')
  looked_for r small noted usable agrees law reads cause below = record {
    keeps = reads_keep desc o o' found found' r usable reads;
    silent = reads_silent desc o o' found found' reads;
    effort = reads_effort desc o o' reads;
    undamaged = λ d told.
        let t = told_db desc (under o).told (under o).content d told in
        undamaged_or desc (under o) usable.serves agrees d told (λ f b. ⊥) r (under o') (λ f b h. h) (below t.0 d (ap (database_in desc) (seen_below o usable.none) ∙ t.1));
    mute_fault = mute_or (λ f k. Unit {0}) r (under o) (under o') cause;
    room = reads.looks.not_full;
    causes = causes_lifted desc (IsUsable desc o) (IsUsable desc o') found found' (g.pace o.below) (g.pace o'.below) (under o) (under o') r reads.looks.passes.lasts (law o.below o'.below reads.same) reads.looks.uses.not_fewer
        (causes_noted (under o) (under o') found found' small (λ f k. Unit {0}) r noted cause);
  }

  -- the answer, and the database after it
  pub tells_after : {T : Type 0} (Q : Db → Type 0) (answer : Db → T) (after : Db → Db) (r : Result T BlockFault) → ((under o').told ≡ (under o).told) → IfOk r (Leaves desc Q answer after o o')
      → IfOk r (λ x. (d : Db) → (store_seen desc found o).db ≡ Some d → Q d → (x ≡ answer d) × ((store_seen desc found' o').db ≡ Some (after d)))
  tells_after Q answer after r same leaves =
      IfOk-weaker r _ _ (λ x h d is holds.
      let t = told_db desc (under o).told (under o).content d is in
      let a = h t.0 d t.1 holds in
      (a.0, ap (λ b. db_of desc b (under o').content) (same ∙ t.0) ∙ a.1)) leaves

  pub full_after : {T : Type 0} (Q D : Db → Type 0) (r : Result T BlockFault) → FullWhen desc Q D o r → (d : Db) → (store_seen desc found o).db ≡ Some d → Q d → IfFull r (λ f. D d)
  full_after Q D r full d is holds = let t = told_db desc (under o).told (under o).content d is in full t.0 d t.1 holds

-- ---- as the trait Store says it

pub tells_where : {T : Type 0} {B : Type 0} {g : Ghosts B} (desc : Described) (found : ℕ) (o : Overlay B g) (set number : ℕ) (f : Db → T) (r : Result T BlockFault) → overlay_changes o ≡ [] → IfOk r (λ x. IfSpelt desc o (λ db. HasRecord db set number → x ≡ f db)) → IfOk r (TellsWhere (store_seen desc found o).db set number f)
tells_where {T = T} desc found o set number f r none told = IfOk-weaker r _ _ (λ x h. by (store_seen desc found o).db refl x h) told
  where
    by : (db : Option Db) → (store_seen desc found o).db ≡ db → (x : T) → IfSpelt desc o (λ d. HasRecord d set number → x ≡ f d) → TellsWhere db set number f x
    by None is x h = tt
    by (Some d) is x h = let t = told_db desc (under o).told (under o).content d is in h t.0 d (ap (database_in desc) (seen_below o none) ∙ t.1)

pub removes_as : (old new : Option Db) (desc : Described) (set number : ℕ) (x : Bool) → ((d : Db) → old ≡ Some d → HasRecord d set number → (x ≡ not (in_use desc d set number)) × (new ≡ Some (db_removed desc set number d))) → Removes old new desc set number x
removes_as None new desc set number x h = tt
removes_as (Some d) new desc set number x h = h d refl

pub links_as : (old new : Option Db) (desc : Described) (set number item : ℕ) (to : Option ℕ) (x : Unit {0}) → ((d : Db) → old ≡ Some d → MayBeLinked desc set number item to d → (x ≡ tt) × (new ≡ Some (after_link d set number item to))) → Links old new desc set number item to
links_as None new desc set number item to x h = tt
links_as (Some d) new desc set number item to x h = λ has target. (h d refl (has, target)).1

pub enters_as : (old new : Option Db) (desc : Described) (subset owner number : ℕ) (x : Put) → ((d : Db) → old ≡ Some d → MayEnter desc d subset owner number → (x ≡ enter_answer desc d subset owner number) × (new ≡ Some (db_entered desc subset owner number d))) → EntersDb old new desc subset owner number x
enters_as None new desc subset owner number x h = tt
enters_as (Some d) new desc subset owner number x h = h d refl

pub leaves_as : (old new : Option Db) (desc : Described) (subset owner number : ℕ) (x : Bool) → ((d : Db) → old ≡ Some d → MayEnter desc d subset owner number → (x ≡ has_entry d subset owner number) × (new ≡ Some (after_leave d subset owner number))) → LeavesDb old new desc subset owner number x
leaves_as None new desc subset owner number x h = tt
leaves_as (Some d) new desc subset owner number x h = h d refl

pub full_removed : (old : Option Db) (desc : Described) (set number : ℕ) (r : Result Bool BlockFault) → ((d : Db) → old ≡ Some d → HasRecord d set number → IfFull r (λ f. in_use desc d set number ≡ false)) → FullWhereRemoved old desc set number r
full_removed None desc set number r h = tt
full_removed (Some d) desc set number r h = h d refl

pub full_entered : (old : Option Db) (desc : Described) (subset owner number : ℕ) (r : Result Put BlockFault) → ((d : Db) → old ≡ Some d → MayEnter desc d subset owner number → IfFull r (λ f. IsStored (enter_answer desc d subset owner number))) → FullWhereEntered old desc subset owner number r
full_entered None desc subset owner number r h = tt
full_entered (Some d) desc subset owner number r h = h d refl

pub full_left : (old : Option Db) (desc : Described) (subset owner number : ℕ) (r : Result Bool BlockFault) → ((d : Db) → old ≡ Some d → MayEnter desc d subset owner number → IfFull r (λ f. has_entry d subset owner number ≡ true)) → FullWhereLeft old desc subset owner number r
full_left None desc subset owner number r h = tt
full_left (Some d) desc subset owner number r h = h d refl

-- ---- what was done before it is settled

-- without an entry that doesn't stand a database is as it was
not_named : (subset owner number : ℕ) (es : List SubsetEntry) → list_any (names subset owner number) es ≡ false → filter (is_not_entry subset owner number) es ≡ es
not_named subset owner number [] none = refl
not_named subset owner number (e ∷ es) none = by (not_named subset owner number es) (names subset owner number e) refl
  where
    by : (list_any (names subset owner number) es ≡ false → filter (is_not_entry subset owner number) es ≡ es) → (q : Bool) → names subset owner number e ≡ q → filter (is_not_entry subset owner number) (e ∷ es) ≡ e ∷ es
    by rest true is = absurd (apart (sym (ap (λ q. q || list_any (names subset owner number) es) is) ∙ none))
      where
        apart : true ≡ false → ⊥
        apart h = absurd (cc)
    by rest false is =
        ap (λ q. cond (not q) (e ∷ filter (is_not_entry subset owner number) es) (filter (is_not_entry subset owner number) es)) is
        ∙ ap (λ xs. e ∷ xs) (rest (sym (ap (λ q. q || list_any (names subset owner number) es) is) ∙ none))

none_left : (db : Db) (subset owner number : ℕ) → has_entry db subset owner number ≡ false → after_leave db subset owner number ≡ db
unfolding after_leave
none_left db subset owner number none = λ i. record { records = db.records; entries = not_named subset owner number db.entries none i }

module _ {B : Type 0} {g : Ghosts B} (desc : Described) (b : Overlay B g) where
  -- a record that isn't in use is removed
  pub removed_done : (set number : ℕ) (db : Db) (done : Bool) → done ≡ not (in_use desc db set number) → (done ≡ true → database_in desc (overlay_content b) ≡ Some (after_remove desc db set number))
      → IsDone desc (db_removed desc set number) (λ d. in_use desc d set number ≡ false) b db done
  removed_done set number db done is spells = by (in_use desc db set number) refl
    where
      by : (u : Bool) → in_use desc db set number ≡ u → IsDone desc (db_removed desc set number) (λ d. in_use desc d set number ≡ false) b db done
      by true used = record {
        spells = λ on. absurd (apart (sym on ∙ is ∙ ap not used));
        does = λ on. absurd (apart (sym on ∙ is ∙ ap not used));
        still = λ off. ap (λ u. cond u db (after_remove desc db set number)) used;
      }
        where
          apart : true ≡ false → ⊥
          apart h = absurd (cc)
      by false free = record {
        spells = λ on. spells on ∙ ap (λ u. Some (cond u db (after_remove desc db set number))) (sym free);
        does = λ on. free;
        still = λ off. absurd (apart (sym off ∙ is ∙ ap not free));
      }
        where
          apart : false ≡ true → ⊥
          apart h = absurd (cc)

  pub linked_done : (set number item : ℕ) (to : Option ℕ) (db : Db) (done : Bool) → done ≡ true → database_in desc (overlay_content b) ≡ Some (after_link db set number item to)
      → IsDone desc (λ d. after_link d set number item to) (λ d. Unit {0}) b db done
  linked_done set number item to db done is spells = record { spells = λ on. spells; does = λ on. tt; still = λ off. absurd (apart (sym off ∙ is)) }
    where
      apart : false ≡ true → ⊥
      apart h = absurd (cc)

  pub entered_done : (subset owner number : ℕ) (db : Db) (answer : Put) → EntryMade desc db subset owner number (overlay_content b) answer
      → IsDone desc (db_entered desc subset owner number) (λ d. IsStored (enter_answer desc d subset owner number)) b db (is_stored answer)
  entered_done subset owner number db answer made = record {
    spells = λ on. made.made (stored_of answer on) ∙ ap (λ p. Some (after_enter p db subset owner)) made.is;
    does = λ on. subst IsStored made.is (stored_of answer on);
    still = λ off. ap (λ p. after_enter p db subset owner) (sym made.is) ∙ not_entered answer off;
  }
    where
      stored_of : (p : Put) → is_stored p ≡ true → IsStored p
      stored_of (Stored n) h = tt
      stored_of (Duplicate s) h = absurd (cc)
      stored_of Full h = absurd (cc)

      not_entered : (p : Put) → is_stored p ≡ false → after_enter p db subset owner ≡ db
      not_entered (Stored n) h = absurd (cc)
      not_entered (Duplicate s) h = refl
      not_entered Full h = refl

  pub left_done : (subset owner number : ℕ) (db : Db) (was : Bool) → EntryTaken desc db subset owner number (overlay_content b) was
      → IsDone desc (λ d. after_leave d subset owner number) (λ d. has_entry d subset owner number ≡ true) b db was
  left_done subset owner number db was taken = record {
    spells = taken.made;
    does = λ on. sym taken.is ∙ on;
    still = λ off. none_left db subset owner number (sym taken.is ∙ off);
  }

-- ---- what each call leaves

-- it stays the same kind of blocks
told_same : {B : Type 0} {g : Ghosts B} {T : Type 0} (desc : Described) (limit : Db → ℕ) (r : Result T BlockFault) (a c : Overlay B g) → HandsOn desc limit r a c → (under c).told ≡ (under a).told
told_same desc limit r a c on = on.hands.hands.alters.passes.lasts.told

-- where a call is settled its numbers are those of what was written, or of what stood below
pub on_settled : {B : Type 0} {g : Ghosts B} {T U : Type 0} {y : T} (R : Content → Content → Type 0) (few : ℕ → Type 0) (x : U) (done : Bool) (r : Result U BlockFault) (a b c : Overlay B g) → overlay_changes a ≡ [] → WritesFew few (Ok y) a b → Settles x done r b c
    → (IsTrue (under a).told → R (overlay_content a) (overlay_content b)) → ((k : Content) → R k k) → IfOk r (λ z. IsTrue (under a).told → R (under a).content (under c).content)
on_settled R few x true r a b c none writes settled first again = by r settled.content
  where
    by : {U : Type 0} (s : Result U BlockFault) → OnOk s (IsTrue (under b).told → (under c).content ≡ overlay_content b) → IfOk s (λ z. IsTrue (under a).told → R (under a).content (under c).content)
    by (Ok z) is = λ told. subst (R (under a).content) (sym (is (few_told few a b writes told))) (subst (λ k. R k (overlay_content b)) (seen_below a none) (first told))
    by (Err e) is = tt
on_settled {g = g} {U = U} R few x false r a b c none writes settled first again =
    subst (λ (s : Result U BlockFault). IfOk s (λ z. IsTrue (under a).told → R (under a).content (under c).content)) (sym settled.is)
    (λ told. subst (R (under a).content) (sym (ap (λ z. (g.held z).content) settled.below ∙ writes.writes.writes.looks.same.content told)) (again (under a).content))

module _ {B : Type 0} {g : Ghosts B} (onward : (x y z : B) → g.same_blocks x y → g.same_blocks y z → g.same_blocks x z) (paced : (x y : B) → g.same_blocks x y → g.pace y ≡ g.pace x) (desc : Described) (a b c : Overlay B g) (none : overlay_changes a ≡ []) where
  -- a call that failed leaves nothing
  pub failed_relates : {T U : Type 0} (count : Db → ℕ) (Q : Db → Type 0) (answer : Db → U) (after : Db → Db) (D : Db → Type 0) (e : BlockFault) → WritesFew {T = T} (IsFewFor desc (limit_for desc count) a) (Err e) a b
      → IfSpelt desc a (λ db. FaultsBelow {T = T} (Err e) a b) → c.below ≡ b.below → Relates desc count Q answer after D (Err e) a c
  failed_relates {T = T} {U = U} count Q answer after D e writes below same =
      let on = hands_failed onward paced desc (limit_for desc count) a b c none {T = T} {U = U} e writes below same in
      record {
        on = on;
        leaves = tt;
        full = λ told db is holds. full_none {T = U} (Err e) _ (few_err {U = U} (IsFewFor desc (limit_for desc count) a) e a b writes).writes.writes.looks.not_full;
      }

  -- one that is settled
  pub settled_relates : {T U : Type 0} {y : T} (count : Db → ℕ) (Q : Db → Type 0) (answer : Db → U) (after : Db → Db) (D : Db → Type 0) (x : U) (done : Bool) (r : Result U BlockFault) → WritesFew (IsFewFor desc (limit_for desc count) a) (Ok y) a b → Settles x done r b c
      → IfSpelt desc a (λ db. Q db → (x ≡ answer db) × IsDone desc after D b db done) → Relates desc count Q answer after D r a c
  settled_relates count Q answer after D x done r writes settled first = record {
    on = hands_settled onward paced desc (limit_for desc count) a b c none x done r writes settled;
    leaves = leaves_settled onward paced desc (limit_for desc count) a b c none Q D answer after x done r writes settled first;
    full = full_settled onward paced desc (limit_for desc count) a b c none Q D answer after x done r settled first;
  }

-- ---- how many blocks each call writes

module _ {B : Type 0} {g : Ghosts B} (desc : Described) (a b : Overlay B g) where
  -- a number below that of one structure
  pub few_always : {T : Type 0} (m : ℕ) (count : Db → ℕ) (r : Result T BlockFault) → ((db : Db) → m ≤ limit_for desc count db) → WritesSlots m r a b → WritesFew (IsFewFor desc (limit_for desc count) a) r a b
  few_always m count r low writes = record { count = m; writes = writes; low = λ told db is. low db }

  pub few_removed : (set number : ℕ) (r : Result Bool BlockFault) → RemovesRecord desc set number r a b → WritesFew (IsFewFor desc (limit_for desc (removal_count desc set number)) a) r a b
  few_removed set number r removes = record { count = removes.most; writes = removes.writes; low = removes.few }

-- ---- what is known to be taken

past_zero : (known : List ℕ) (set : ℕ) → length known ≤ set → taken_of known set ≡ 0
past_zero [] set past = refl
past_zero (k ∷ ks) zero past = absurd (omega (arith, past))
past_zero (k ∷ ks) (suc n) past = past_zero ks n (omega (arith, past))

pub lowered_known : (desc : Described) (known : List ℕ) (c d : Content) (set number : ℕ) → 1 ≤ number → FreesOne desc set number c d → AreKnown desc known c → AreKnown desc (lowered set number known) d
lowered_known desc known c d set number low frees are = λ n. elim (cases_eq n set) [
  | inl same ↦ λ s at is_set. frees n s at is_set (taken_of (lowered set number known) n) (λ own. below n own) (omega (arith, at_most n, are n s at is_set))
  | inr apart ↦ λ s at is_set. frees n s at is_set (taken_of (lowered set number known) n) (λ own. absurd (apart own)) (omega (arith, at_most n, are n s at is_set))
]
  where
    new : ℕ
    new = min (taken_of known set) (number - 1)

    at_most : (n : ℕ) → taken_of (lowered set number known) n ≤ taken_of known n
    at_most n = elim (cases_eq n set) [
      | inl same ↦ elim (cases_lt set (length known)) [
        | inl short ↦ omega (arith, ap (λ m. taken_of (lowered set number known) m) same ∙ get_or-set_same known set new 0 short, ap (taken_of known) same)
        | inr past ↦ omega (arith, ap (λ (l : List ℕ). taken_of l n) (set_past known set new past))
      ]
      | inr apart ↦ omega (arith, get_or-set_other known set n new 0 apart)
    ]

    below : (n : ℕ) → n ≡ set → taken_of (lowered set number known) n < number
    below n same = elim (cases_lt set (length known)) [
      | inl short ↦ omega (arith, low, ap (λ m. taken_of (lowered set number known) m) same ∙ get_or-set_same known set new 0 short)
      | inr past ↦ omega (arith, low, ap (λ (l : List ℕ). taken_of l n) (set_past known set new past), ap (taken_of known) same, past_zero known set past)
    ]

pub removed_known : (desc : Described) (old new : List ℕ) (a b : Held) (set number : ℕ) (r : Result Bool BlockFault) → Lasts a b → 1 ≤ number → Lowers set number r old new → IfOk r (λ x. IsTrue a.told → FreesOne desc set number a.content b.content) → (IsTrue a.told → AreKnown desc old a.content) → IsTrue b.told → AreKnown desc new b.content
removed_known desc old new a b set number (Ok x) lasts low lowers frees are told =
    let was = told_before lasts told in
    subst (λ l. AreKnown desc l b.content) (sym lowers) (lowered_known desc old a.content b.content set number low (frees was) (are was))
removed_known desc old new a b set number (Err e) lasts low lowers frees are told = nothing_known desc new b.content lowers

pub related_known : {T : Type 0} (desc : Described) (old new : List ℕ) (a b : Held) (r : Result T BlockFault) → Lasts a b → StaysKnown r old new → IfOk r (λ x. IsTrue a.told → TakenStay desc a.content b.content) → (IsTrue a.told → AreKnown desc old a.content) → IsTrue b.told → AreKnown desc new b.content
related_known desc old new a b (Ok x) lasts stay frees are told =
    let was = told_before lasts told in
    subst (λ l. AreKnown desc l b.content) (sym stay) (known_stays desc old a.content b.content (frees was) (are was))
related_known desc old new a b (Err e) lasts stay frees are told = nothing_known desc new b.content stay
