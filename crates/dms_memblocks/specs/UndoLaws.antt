-- Changes in memory, and how they are taken back.
use Rattle.std.proofs.Common.{ℕ, zero, suc, ◌+◌, ◌≤◌, ◌<◌, ◌≡◌, ◌≢◌, ◌∙◌, ◌⊎◌, inl, inr, ◌&&◌, true, false, IsTrue, nat_lt, nat_le, List, [], ◌∷◌, ◌++◌, length, map, filter, get_or, set, take, drop, Option, Some, None, refl, sym, ap, subst, arith, length-append, length-take, append_assoc}
use Rattle.std.proofs.Props.{props}
use Rattle.std.specs.Coded.{×_prop, Unit-prop, le_prop}
use Rattle.std.proofs.lemmas.Bool.{cases_eq, cases_lt}
use Rattle.std.proofs.lemmas.Bool.Decides.{nat_tests}
use Rattle.std.proofs.lemmas.List.Elements.{filter-append}
use Rattle.std.proofs.lemmas.List.{length-map, take-append-le, take_more}
use Rattle.dms_block.specs.declared.block.Block.{Block}
use Rattle.dms_block.specs.declared.block.BlockId.{BlockId}
use Rattle.dms_moments.specs.Moments.{Runs}
use Rattle.dms_block.specs.declared.change.Change.{Change}
use Rattle.dms_block.specs.Content.{Content, FitsIn, counts_after, put_block, limit, with_block}
use Rattle.dms_block.specs.Changing.{changed_push, fits_at, fits_take, grown_is, either_way}
use Rattle.dms_block.specs.ContentLaws.{in_file, in_others}
use Rattle.dms_block.specs.Held.{BlocksAgree, BlockPoint, BlockStop, MakesNoPoint, Prefix, Stays, TextIs, Uses}
use Rattle.dms_memblocks.specs.declared.undo.BlockUndo.{BlockUndo}
use Rattle.dms_memblocks.specs.Undoing.{AreBefore, AreEmpty, AreSince, AreSmall, BlockLists, after, bytes, content_of, old_in, owns_of, place, points_to, put_at, put_in, taken_back, undo, undo_all, LeavesBlocks, PutAll, clock_of, held_of}

pub AreBefore-prop : (n : ℕ) (us : List BlockUndo) → IsProp (AreBefore n us)
AreBefore-prop n [] = Unit-prop
AreBefore-prop n (u ∷ us) = ×_prop le_prop (AreBefore-prop n us)

pub AreSince-prop : (n : ℕ) (us : List BlockUndo) → IsProp (AreSince n us)
AreSince-prop n [] = Unit-prop
AreSince-prop n (u ∷ us) = let rest : IsProp (AreSince n us) = AreSince-prop n us in hlevel (props, rest, le_prop)

pub AreSmall-prop : (files : BlockLists) → IsProp (AreSmall files)
AreSmall-prop [] = Unit-prop
AreSmall-prop (blocks ∷ files) = ×_prop le_prop (AreSmall-prop files)

-- one file

low_is : (a b : ℕ) → nat_lt a b ≡ true → a < b
low_is a b is = grind (arith, nat_tests)

high_is : (a b : ℕ) → nat_lt a b ≡ false → b ≤ a
high_is a b is = grind (arith, nat_tests)

set_laid : (b : ℕ) (x : Block) (l : List Block) → b < length l → map bytes (set l b x) ≡ put_block b (bytes x) (map bytes l)
set_laid b x [] low = absurd (omega arith)
set_laid zero x (y ∷ l) low = refl
set_laid (suc b) x (y ∷ l) low = ap (λ m. bytes y ∷ m) (set_laid b x l (omega arith))

push_laid : (b : ℕ) (x : Block) (l : List Block) → b ≡ length l → map bytes (l ++ x ∷ []) ≡ put_block b (bytes x) (map bytes l)
push_laid zero x [] is = refl
push_laid (suc b) x [] is = absurd (omega (arith, is))
push_laid zero x (y ∷ l) is = absurd (omega (arith, is))
push_laid (suc b) x (y ∷ l) is = ap (λ m. bytes y ∷ m) (push_laid b x l (omega (arith, is)))

pub put_laid : (b : ℕ) (x : Block) (l : List Block) → b ≤ length l → map bytes (put_in b x l) ≡ put_block b (bytes x) (map bytes l)
put_laid b x l le = either_way (λ m. map bytes m ≡ put_block b (bytes x) (map bytes l)) (nat_lt b (length l)) (set l b x) (l ++ x ∷ [])
    (λ is. set_laid b x l (low_is b (length l) is)) (λ is. let high = high_is b (length l) is in push_laid b x l (omega (arith, le, high)))

under_cons : (b : ℕ) (y : Block) (old : Option Block) (l : List Block) → taken_back (suc b) old (y ∷ l) ≡ y ∷ taken_back b old l
under_cons b y None l = refl
under_cons b y (Some x) l = refl

set_back : (b : ℕ) (x : Block) (l : List Block) → b < length l → taken_back b (old_in b l) (set l b x) ≡ l
set_back b x [] low = absurd (omega arith)
set_back zero x (y ∷ l) low = refl
set_back (suc b) x (y ∷ l) low = under_cons b y (old_in b l) (set l b x) ∙ ap (λ m. y ∷ m) (set_back b x l (omega arith))

push_back : (b : ℕ) (x : Block) (l : List Block) → b ≡ length l → taken_back b (old_in b l) (l ++ x ∷ []) ≡ l
push_back zero x [] is = refl
push_back (suc b) x [] is = absurd (omega (arith, is))
push_back zero x (y ∷ l) is = absurd (omega (arith, is))
push_back (suc b) x (y ∷ l) is = under_cons b y (old_in b l) (l ++ x ∷ []) ∙ ap (λ m. y ∷ m) (push_back b x l (omega (arith, is)))

-- a change that is taken back
put_back : (b : ℕ) (x : Block) (l : List Block) → b ≤ length l → taken_back b (old_in b l) (put_in b x l) ≡ l
put_back b x l le = either_way (λ m. taken_back b (old_in b l) m ≡ l) (nat_lt b (length l)) (set l b x) (l ++ x ∷ [])
    (λ is. set_back b x l (low_is b (length l) is)) (λ is. let high = high_is b (length l) is in push_back b x l (omega (arith, le, high)))

-- all files

-- a file of the list
abbrev pub file_at : BlockLists → ℕ → List Block
file_at files k = get_or files k []

set_again : (files : BlockLists) (k : ℕ) (l m : List Block) → set (set files k l) k m ≡ set files k m
set_again [] k l m = refl
set_again (x ∷ files) zero l m = refl
set_again (x ∷ files) (suc k) l m = ap (λ fs. x ∷ fs) (set_again files k l m)

pub set_same : (files : BlockLists) (k : ℕ) → set files k (get_or files k []) ≡ files
set_same [] k = refl
set_same (x ∷ files) zero = refl
set_same (x ∷ files) (suc k) = ap (λ fs. x ∷ fs) (set_same files k)

at_set : (files : BlockLists) (k : ℕ) (l : List Block) → k < length files → get_or (set files k l) k [] ≡ l
at_set [] k l low = absurd (omega arith)
at_set (x ∷ files) zero l low = refl
at_set (x ∷ files) (suc k) l low = at_set files k l (omega arith)

at_other : (files : BlockLists) (k j : ℕ) (l : List Block) → j ≢ k → get_or (set files k l) j [] ≡ get_or files j []
at_other [] k j l other = refl
at_other (x ∷ files) zero zero l other = absurd (other refl)
at_other (x ∷ files) zero (suc j) l other = refl
at_other (x ∷ files) (suc k) zero l other = refl
at_other (x ∷ files) (suc k) (suc j) l other = at_other files k j l (λ e. other (ap suc e))

-- the log's newest entry takes the newest change back
pub undo_put : (u : BlockUndo) (x : Block) (files : BlockLists) → place u.id.file < length files → u.id.block ≤ length (file_at files (place u.id.file)) → u.old ≡ old_in u.id.block (file_at files (place u.id.file)) → undo u (put_at (place u.id.file) u.id.block x files) ≡ files
undo_put u x files low le is =
    let k = place u.id.file in
    let l = file_at files k in
    set_again files k (put_in u.id.block x l) (taken_back u.id.block u.old (get_or (put_at k u.id.block x files) k []))
    ∙ ap (λ m. set files k (taken_back u.id.block u.old m)) (at_set files k (put_in u.id.block x l) low)
    ∙ ap (λ o. set files k (taken_back u.id.block o (put_in u.id.block x l))) is
    ∙ ap (λ m. set files k m) (put_back u.id.block x l le)
    ∙ set_same files k

-- many changes

pub undone-append : (us vs : List BlockUndo) (files : BlockLists) → undo_all (us ++ vs) files ≡ undo_all us (undo_all vs files)
undone-append [] vs files = refl
undone-append (u ∷ us) vs files = ap (λ f. undo u f) (undone-append us vs files)

after_before : (n : ℕ) (us : List BlockUndo) → AreBefore n us → after n us ≡ []
after_before n [] before = refl
after_before n (u ∷ us) before = either_way (λ l. l ≡ []) (nat_lt n u.point) (u ∷ after n us) (after n us)
    (λ is. let high = low_is n u.point is in absurd (omega (arith, high, before.0))) (λ is. after_before n us before.1)

after_since : (n m : ℕ) (us : List BlockUndo) → m ≤ n → AreSince n us → after m us ≡ us
after_since n m [] le since = refl
after_since n m (u ∷ us) le since = either_way (λ l. l ≡ u ∷ us) (nat_lt m u.point) (u ∷ after m us) (after m us)
    (λ is. ap (λ l. u ∷ l) (after_since n m us le since.2)) (λ is. let low = high_is m u.point is in absurd (omega (arith, low, since.0, le)))

before_more : (n m : ℕ) (us : List BlockUndo) → n ≤ m → AreBefore n us → AreBefore m us
before_more n m [] le before = tt
before_more n m (u ∷ us) le before = (omega (arith, le, before.0), before_more n m us le before.1)

since_before : (n : ℕ) (us : List BlockUndo) → AreSince n us → AreBefore (n + 1) us
since_before n [] since = tt
since_before n (u ∷ us) since = (since.1, since_before n us since.2)

before_append : (n : ℕ) (us vs : List BlockUndo) → AreBefore n us → AreBefore n vs → AreBefore n (us ++ vs)
before_append n [] vs one two = two
before_append n (u ∷ us) vs one two = (one.0, before_append n us vs one.1 two)

pub since_push : (n : ℕ) (us : List BlockUndo) (u : BlockUndo) → AreSince n us → n < u.point → u.point ≤ n + 1 → AreSince n (us ++ u ∷ [])
since_push n [] u since high low = (high, low, tt)
since_push n (v ∷ us) u since high low = (since.0, since.1, since_push n us u since.2 high low)

take_drop : (n : ℕ) (us : List BlockUndo) → take n us ++ drop n us ≡ us
take_drop zero us = refl
take_drop (suc n) [] = refl
take_drop (suc n) (u ∷ us) = ap (λ l. u ∷ l) (take_drop n us)

one_more : (n : ℕ) → suc n ≡ n + 1
one_more n = omega arith

since_append : (n : ℕ) (us vs : List BlockUndo) → AreSince n us → AreSince n vs → AreSince n (us ++ vs)
since_append n [] vs one two = two
since_append n (u ∷ us) vs one two = (one.0, one.1, since_append n us vs one.2 two)

-- the content of the files

owns_list : (files : BlockLists) (f : ℕ) → IsTrue (owns_of files f) → (30000 < f) × (place f < length files)
owns_list files f is = (grind (arith, nat_tests), (let high : 30000 < f = grind (arith, nat_tests) in let low : f ≤ 30000 + length files = grind (arith, nat_tests) in omega (arith, high, low)))

pub content_at : (files : BlockLists) (f : ℕ) → 30000 < f → content_of files f ≡ map bytes (get_or files (place f) [])
content_at files f high = grind (arith, nat_tests)

pub content_none : (files : BlockLists) (f : ℕ) → f ≤ 30000 → content_of files f ≡ []
content_none files f low = grind (arith, nat_tests)

cases_le : (a b : ℕ) → a ≤ b ⊎ b < a
cases_le a b = elim (cases_lt b a) [ inl less ↦ inr less | inr no_less ↦ inl (omega (arith, no_less)) ]

places_apart : (f g : ℕ) → 30000 < f → 30000 < g → g ≢ f → place g ≢ place f
places_apart f g high high' other = λ e. other (omega (arith, e, high, high'))

elsewhere : (files : BlockLists) (f b : ℕ) (x : Block) (g : ℕ) → 30000 < f → g ≢ f → content_of (put_at (place f) b x files) g ≡ with_block (content_of files) f b (bytes x) g
elsewhere files f b x g high other = elim (cases_le g 30000) [
  | inl low ↦ content_none (put_at (place f) b x files) g low ∙ sym (in_others (content_of files) f b (bytes x) g other ∙ content_none files g low)
  | inr over ↦
      let over' : 30000 < g = over in
      content_at (put_at (place f) b x files) g over' ∙ ap (λ l. map bytes l) (at_other files (place f) (place g) (put_in b x (get_or files (place f) [])) (places_apart f g high over' other))
      ∙ sym (in_others (content_of files) f b (bytes x) g other ∙ content_at files g over')
]

pub put_content : (files : BlockLists) (f b : ℕ) (x : Block) → 30000 < f → place f < length files → b ≤ length (get_or files (place f) []) → content_of (put_at (place f) b x files) ≡ with_block (content_of files) f b (bytes x)
put_content files f b x high low le = λ i g. (elim (cases_eq g f) as (λ _. content_of (put_at (place f) b x files) g ≡ with_block (content_of files) f b (bytes x) g) [
  | inl same ↦ subst (λ j. content_of (put_at (place f) b x files) j ≡ with_block (content_of files) f b (bytes x) j) (sym same)
      (content_at (put_at (place f) b x files) f high ∙ ap (λ l. map bytes l) (at_set files (place f) (put_in b x (get_or files (place f) [])) low)
      ∙ put_laid b x (get_or files (place f) []) le ∙ sym (in_file (content_of files) f b (bytes x) ∙ ap (λ l. put_block b (bytes x) l) (content_at files f high)))
  | inr other ↦ elsewhere files f b x g high other
]) i

-- changes one after another

drop-length : (us vs : List BlockUndo) → drop (length us) (us ++ vs) ≡ vs
drop-length [] vs = refl
drop-length (u ∷ us) vs = drop-length us vs

take-length : (us vs : List BlockUndo) → take (length us) (us ++ vs) ≡ us
take-length [] vs = refl
take-length (u ∷ us) vs = ap (λ l. u ∷ l) (take-length us vs)

set_length : (files : BlockLists) (k : ℕ) (l : List Block) → length (set files k l) ≡ length files
set_length [] k l = refl
set_length (x ∷ files) zero l = refl
set_length (x ∷ files) (suc k) l = ap suc (set_length files k l)

set_blocks : (b : ℕ) (x : Block) (l : List Block) → length (set l b x) ≡ length l
set_blocks b x [] = refl
set_blocks zero x (y ∷ l) = refl
set_blocks (suc b) x (y ∷ l) = ap suc (set_blocks b x l)

put_length : (b : ℕ) (x : Block) (l : List Block) → length l ≤ limit → b < limit → b ≤ length l → length (put_in b x l) ≤ limit
put_length b x l small low le = either_way (λ m. length m ≤ limit) (nat_lt b (length l)) (set l b x) (l ++ x ∷ [])
    (λ is. omega (arith, set_blocks b x l, small)) (λ is. let high = high_is b (length l) is in omega (arith, length-append l (x ∷ []), low, high, le))

pub small_at : (files : BlockLists) (k : ℕ) → AreSmall files → length (get_or files k []) ≤ limit
small_at [] k small = omega arith
small_at (x ∷ files) zero small = small.0
small_at (x ∷ files) (suc k) small = small_at files k small.1

small_set : (files : BlockLists) (k : ℕ) (l : List Block) → AreSmall files → length l ≤ limit → AreSmall (set files k l)
small_set [] k l small le = tt
small_set (x ∷ files) zero l small le = (le, small.1)
small_set (x ∷ files) (suc k) l small le = (small.0, small_set files k l small.1 le)

content_length : (files : BlockLists) (f : ℕ) → 30000 < f → length (content_of files f) ≡ length (get_or files (place f) [])
content_length files f high = ap length (content_at files f high) ∙ length-map (get_or files (place f) []) bytes

-- one change more
put_one : (made : ℕ) (cs : List Change) (x : Change) (r0 r : BlockLists) (l0 l : List BlockUndo) (u : BlockUndo) → AreSmall r → PutAll made cs r0 l0 r l → 30000 < x.id.file → place x.id.file < length r → x.id.block < limit → x.id.block ≤ length (get_or r (place x.id.file) [])
    → u.point ≡ made + 1 → u.id ≡ x.id → u.old ≡ old_in x.id.block (get_or r (place x.id.file) []) → PutAll made (cs ++ x ∷ []) r0 l0 (put_at (place x.id.file) x.id.block x.block r) (l ++ u ∷ [])
put_one made cs x r0 r l0 l u small put high there low le point id old =
    let k = place x.id.file in
    let b = x.id.block in
    let r' : BlockLists = put_at k b x.block r in
    let back : undo u r' ≡ r = ap (λ (i : BlockId). set r' (place i.file) (taken_back i.block u.old (get_or r' (place i.file) []))) id ∙ undo_put (record u { id = x.id }) x.block r there le old in
    record {
      more = put.more ++ u ∷ [];
      logged = ap (λ m. m ++ u ∷ []) put.logged ∙ append_assoc l0 put.more (u ∷ []);
      since = since_push made put.more u put.since (omega (arith, point)) (omega (arith, point));
      back = undone-append put.more (u ∷ []) r' ∙ ap (λ f. undo_all put.more f) back ∙ put.back;
      content = put_content r x.id.file b x.block high there le ∙ ap (λ (c : Content). with_block c x.id.file b (bytes x.block)) put.content ∙ sym (changed_push cs x (content_of r0));
      many = set_length r k (put_in b x.block (get_or r k [])) ∙ put.many;
      small = small_set r k (put_in b x.block (get_or r k [])) small (put_length b x.block (get_or r k []) (small_at r k small) low le);
    }

pub place_low : (cs items : List Change) (i : ℕ) (d : Change) (r0 : BlockLists) → items ≡ cs → i < length items → FitsIn cs (owns_of r0) (λ f. length (content_of r0 f)) → place (get_or items i d).id.file < length r0
place_low cs items i d r0 is low fits =
    let there : i < length cs = subst (λ (l : List Change). i < length l) is low in
    subst (λ (l : List Change). place (get_or l i d).id.file < length r0) (sym is) (owns_list r0 (get_or cs i d).id.file (fits_at cs (owns_of r0) (λ f. length (content_of r0 f)) i d fits there).0).1

pub put_step : (made : ℕ) (cs items : List Change) (i : ℕ) (d : Change) (r0 r r' : BlockLists) (l0 l l' : List BlockUndo) (u : BlockUndo) → items ≡ cs → i < length items → FitsIn cs (owns_of r0) (λ f. length (content_of r0 f)) → PutAll made (take i cs) r0 l0 r l
    → u.point ≡ made + 1 → u.id ≡ (get_or items i d).id → u.old ≡ old_in (get_or items i d).id.block (get_or r (place (get_or items i d).id.file) [])
    → r' ≡ put_at (place (get_or items i d).id.file) (get_or items i d).id.block (get_or items i d).block r → l' ≡ l ++ u ∷ [] → PutAll made (take (i + 1) cs) r0 l0 r' l'
put_step made cs items i d r0 r r' l0 l l' u is low fits put point id old now logged =
    let x = get_or items i d in
    let f = x.id.file in
    let counts : ℕ → ℕ = λ g. length (content_of r0 g) in
    let there : i < length cs = subst (λ (l : List Change). i < length l) is low in
    let fit : IsTrue (owns_of r0 f) × (x.id.block < limit) × (x.id.block ≤ counts_after (take i cs) counts f) =
    subst (λ (l : List Change). IsTrue (owns_of r0 (get_or l i d).id.file) × ((get_or l i d).id.block < limit) × ((get_or l i d).id.block ≤ counts_after (take i cs) counts (get_or l i d).id.file)) (sym is) (fits_at cs (owns_of r0) counts i d fits there) in
    let mine = owns_list r0 f fit.0 in
    let grows : counts_after (take i cs) counts f ≡ length (content_of r f) = grown_is (take i cs) (owns_of r0) counts (content_of r0) (λ g. refl) (fits_take i cs (owns_of r0) counts fits) f ∙ ap (λ (c : Content). length (c f)) (sym put.content) in
    let le : x.id.block ≤ length (get_or r (place f) []) = omega (arith, fit.2, grows, content_length r f mine.0) in
    let longer : take (i + 1) cs ≡ take i cs ++ x ∷ [] = subst (λ (m : List Change). take (i + 1) m ≡ take i m ++ x ∷ []) is (take_more items i d low) in
    subst (λ (m : List Change). PutAll made m r0 l0 r' l') (sym longer)
    (subst (λ m. PutAll made (take i cs ++ x ∷ []) r0 l0 m l') (sym now)
    (subst (λ m. PutAll made (take i cs ++ x ∷ []) r0 l0 (put_at (place f) x.id.block x.block r) m) (sym logged)
    (put_one made (take i cs) x r0 r l0 l u put.small put mine.0 (omega (arith, mine.1, put.many)) fit.1 le point id old)))

-- points

-- the points are as they were where the content before each change after them is
points_still : (schema : List ℕ) (files files' : BlockLists) (log log' : List BlockUndo) (n : ℕ) → ((k : ℕ) → k ≤ n → content_of (undo_all (after k log') files') ≡ content_of (undo_all (after k log) files)) → points_to schema files' log' n ≡ points_to schema files log n
points_still schema files files' log log' zero same = refl
points_still schema files files' log log' (suc n) same =
    ap (λ ps. ps ++ (record { number = suc n; blocks = content_of (undo_all (after (suc n) log') files'); schema = schema } ∷ [])) (points_still schema files files' log log' n (λ k le. same k (omega (arith, le))))
    ∙ ap (λ (c : Content). points_to schema files log n ++ (record { number = suc n; blocks = c; schema = schema } ∷ [])) (same (suc n) (omega arith))

pub points-length : (schema : List ℕ) (files : BlockLists) (log : List BlockUndo) (n : ℕ) → length (points_to schema files log n) ≡ n
points-length schema files log zero = refl
points-length schema files log (suc n) = omega (arith, length-append (points_to schema files log n) (record { number = suc n; blocks = content_of (undo_all (after (suc n) log) files); schema = schema } ∷ []), points-length schema files log n)

-- after changes that the log takes back
more_still : (made k : ℕ) (files files' : BlockLists) (log more : List BlockUndo) → AreSince made more → undo_all more files' ≡ files → k ≤ made → undo_all (after k (log ++ more)) files' ≡ undo_all (after k log) files
more_still made k files files' log more since back le =
    ap (λ l. undo_all l files') (filter-append (λ u. nat_lt k u.point) log more ∙ ap (λ l. filter (λ u. nat_lt k u.point) log ++ l) (after_since made k more le since))
    ∙ undone-append (after k log) more files' ∙ ap (λ f. undo_all (after k log) f) back

pub put_points : (schema : List ℕ) (made n : ℕ) (changes : List Change) (files files' : BlockLists) (log log' : List BlockUndo) → PutAll made changes files log files' log' → n ≤ made → points_to schema files' log' n ≡ points_to schema files log n
put_points schema made n changes files files' log log' put le = points_still schema files files' log log' n (λ k low.
    ap content_of (ap (λ l. undo_all (after k l) files') put.logged ∙ more_still made k files files' log put.more put.since put.back (omega (arith, le, low))))

pub put_mark : (made : ℕ) (changes : List Change) (files files' : BlockLists) (log log' : List BlockUndo) → PutAll made changes files log files' log' → content_of (undo_all (after made log') files') ≡ content_of (undo_all (after made log) files)
put_mark made changes files files' log log' put = ap content_of (ap (λ l. undo_all (after made l) files') put.logged ∙ more_still made made files files' log put.more put.since put.back (omega arith))

-- after all changes since the mark are taken back
out_still : (made mark k : ℕ) (files : BlockLists) (log : List BlockUndo) → AreSince made (drop mark log) → k ≤ made → undo_all (after k (take mark log)) (undo_all (drop mark log) files) ≡ undo_all (after k log) files
out_still made mark k files log since le =
    sym (more_still made k (undo_all (drop mark log) files) files (take mark log) (drop mark log) since refl le) ∙ ap (λ l. undo_all (after k l) files) (take_drop mark log)

pub out_points : (schema : List ℕ) (made mark : ℕ) (files : BlockLists) (log : List BlockUndo) → AreSince made (drop mark log) → points_to schema (undo_all (drop mark log) files) (take mark log) made ≡ points_to schema files log made
out_points schema made mark files log since = points_still schema files (undo_all (drop mark log) files) log (take mark log) made (λ k low. ap content_of (out_still made mark k files log since low))

pub out_mark : (made mark : ℕ) (files : BlockLists) (log : List BlockUndo) → AreSince made (drop mark log) → content_of (undo_all (after made (take mark log)) (undo_all (drop mark log) files)) ≡ content_of (undo_all (after made log) files)
out_mark made mark files log since = ap content_of (out_still made mark made files log since (omega arith))

-- and they are the content at the last point
pub out_content : (made mark : ℕ) (files : BlockLists) (log : List BlockUndo) → AreBefore made (take mark log) → AreSince made (drop mark log) → content_of (undo_all (drop mark log) files) ≡ content_of (undo_all (after made log) files)
out_content made mark files log before since =
    sym (ap (λ l. content_of (undo_all l (undo_all (drop mark log) files))) (after_before made (take mark log) before)) ∙ out_mark made mark files log since

pub all_before : (made mark : ℕ) (log : List BlockUndo) → AreBefore made (take mark log) → AreSince made (drop mark log) → AreBefore (made + 1) log
all_before made mark log before since = subst (λ l. AreBefore (made + 1) l) (take_drop mark log) (before_append (made + 1) (take mark log) (drop mark log) (before_more made (made + 1) (take mark log) (omega arith) before) (since_before made (drop mark log) since))

-- a point that is made now
pub quiet_mark : (made mark : ℕ) (files : BlockLists) (log : List BlockUndo) → AreBefore made (take mark log) → AreSince made (drop mark log) → content_of (undo_all (after (made + 1) log) files) ≡ content_of files
quiet_mark made mark files log before since = ap (λ l. content_of (undo_all l files)) (after_before (made + 1) log (all_before made mark log before since))

pub quiet_points : (schema : List ℕ) (made mark : ℕ) (files : BlockLists) (log : List BlockUndo) → AreBefore made (take mark log) → AreSince made (drop mark log)
    → points_to schema files log (made + 1) ≡ points_to schema files log made ++ (record { number = made + 1; blocks = content_of files; schema = schema } ∷ [])
quiet_points schema made mark files log before since =
    subst (λ n. points_to schema files log n ≡ points_to schema files log made ++ (record { number = n; blocks = content_of files; schema = schema } ∷ [])) (one_more made)
    (ap (λ (c : Content). points_to schema files log made ++ (record { number = suc made; blocks = c; schema = schema } ∷ [])) (ap (λ n. content_of (undo_all (after n log) files)) (one_more made) ∙ quiet_mark made mark files log before since))

-- moments

pub runs_quietly : (points points' : List BlockPoint) (d d' : ℕ) (P : BlockStop → Type 0) → points' ≡ points → d ≤ d' → Runs (clock_of points d) (clock_of points' d') P
runs_quietly points points' d d' P is le = record {
  later = le;
  only = λ t x low left. inl (subst (λ ps. LeavesBlocks ps t x) is left);
  keeps = λ t x low left. subst (λ ps. LeavesBlocks ps t x) (sym is) left;
}

left_more : (ps : List BlockPoint) (here : BlockPoint) (t : ℕ) (x : BlockStop) → LeavesBlocks ps t x → LeavesBlocks (ps ++ here ∷ []) t x
left_more ps here t x left = record {
  count = left.count;
  enough = left.enough;
  within = omega (arith, left.within, length-append ps (here ∷ []));
  is = left.is ∙ sym (take-append-le left.count ps (here ∷ []) left.within);
  next = left.next;
}

made_or_left : (ps : List BlockPoint) (here : BlockPoint) (t d : ℕ) (x : BlockStop) → t ≤ d → d ≤ length ps → LeavesBlocks (ps ++ here ∷ []) t x → LeavesBlocks ps t x ⊎ (Prefix (λ f. Unit {0}) d (ps ++ here ∷ []) (length ps + 2) x × TextIs None x)
made_or_left ps here t d x low le left = elim (cases_le left.count (length ps)) [
  | inl within ↦ inl (record { count = left.count; enough = left.enough; within = within; is = left.is ∙ take-append-le left.count ps (here ∷ []) within; next = left.next })
  | inr over ↦
      let long = length-append ps (here ∷ []) in
      inr (record { count = left.count; enough = omega (arith, over, le); within = left.within; is = left.is; not_fallen = omega (arith, left.next, left.within, long, over); not_risen = omega (arith, left.next, left.within, long); whole_files = tt }, λ s e. absurd (cc e))
]

pub runs_quiet : (schema : List ℕ) (made mark : ℕ) (files : BlockLists) (log : List BlockUndo) (d : ℕ) → d ≤ made → AreBefore made (take mark log) → AreSince made (drop mark log)
    → Runs (clock_of (points_to schema files log made) d) (clock_of (points_to schema files log (made + 1)) d)
    (λ stop. Prefix (λ f. Unit {0}) d (points_to schema files log made ++ (record { number = made + 1; blocks = content_of files; schema = schema } ∷ [])) (made + 1 + 1) stop × TextIs None stop)
runs_quiet schema made mark files log d le before since =
    let ps = points_to schema files log made in
    let here : BlockPoint = record { number = made + 1; blocks = content_of files; schema = schema } in
    let is : points_to schema files log (made + 1) ≡ ps ++ here ∷ [] = quiet_points schema made mark files log before since in
    let long : length ps ≡ made = points-length schema files log made in
    let longer : length (ps ++ here ∷ []) ≡ made + 1 = omega (arith, length-append ps (here ∷ []), long) in
    record {
      later = omega arith;
      only = λ t x low left. subst (λ n. LeavesBlocks ps t x ⊎ (Prefix (λ f. Unit {0}) d (ps ++ here ∷ []) n x × TextIs None x)) (omega (arith, long)) (made_or_left ps here t d x low (omega (arith, le, long)) (subst (λ l. LeavesBlocks l t x) is left));
      keeps = λ t x low left. subst (λ l. LeavesBlocks l t x) (sym is) (left_more ps here t x left);
    }

-- what a stop now leaves
pub stops : (schema : List ℕ) (files : BlockLists) (log : List BlockUndo) (made d : ℕ) (x : BlockStop) → LeavesBlocks (points_to schema files log made) d x → Prefix (λ f. Unit {0}) d (points_to schema files log made) (made + 1) x × TextIs None x
stops schema files log made d x left =
    (record { count = left.count; enough = left.enough; within = left.within; is = left.is; not_fallen = omega (arith, left.next, points-length schema files log made); not_risen = omega (arith, left.next, left.within, points-length schema files log made); whole_files = tt }, λ s e. absurd (cc e))

-- a stop now that leaves the durable points alone
stop_at : List ℕ → BlockLists → List BlockUndo → ℕ → ℕ → BlockStop
stop_at schema files log made d = record { files = λ f. []; points = take d (points_to schema files log made); next = d + 1; said = [] }

-- files without blocks

pub empty_push : (files : BlockLists) → AreEmpty files → AreEmpty (files ++ [] ∷ [])
empty_push [] empty = (refl, tt)
empty_push (x ∷ files) empty = (empty.0, empty_push files empty.1)

pub empty_small : (files : BlockLists) → AreEmpty files → AreSmall files
empty_small [] empty = tt
empty_small (x ∷ files) empty = (omega (arith, ap length empty.0), empty_small files empty.1)

empty_at : (files : BlockLists) (k : ℕ) → AreEmpty files → get_or files k [] ≡ []
empty_at [] k empty = refl
empty_at (x ∷ files) zero empty = empty.0
empty_at (x ∷ files) (suc k) empty = empty_at files k empty.1

pub empty_content : (files : BlockLists) (f : ℕ) → AreEmpty files → content_of files f ≡ []
empty_content files f empty = elim (cases_le f 30000) [
  | inl low ↦ content_none files f low
  | inr high ↦ content_at files f high ∙ ap (λ l. map bytes l) (empty_at files (place f) empty)
]

-- what calls leave of what is told

pub agrees : (schema : List ℕ) (files : BlockLists) (log : List BlockUndo) (made d : ℕ) (uses : Uses) → d ≤ made → BlocksAgree (held_of schema files log made d uses)
unfolding stop_at
agrees schema files log made d uses le = record {
  counted = λ t f. refl;
  may_stop = λ t. (stop_at schema files log made d, record { count = d; enough = omega arith; within = omega (arith, le, points-length schema files log made); is = refl; next = refl });
  stop = λ t room x now. stops schema files log made d x now;
  here = λ t room. (refl, λ told. refl);
  durable = λ t room. omega (arith, le, points-length schema files log made);
}

pub passes : (schema : List ℕ) (files files' : BlockLists) (log log' : List BlockUndo) (made d d' : ℕ) (uses uses' : Uses) → length files' ≡ length files → points_to schema files' log' made ≡ points_to schema files log made → d ≤ d' → MakesNoPoint (held_of schema files log made d uses) (held_of schema files' log' made d' uses')
passes schema files files' log log' made d d' uses uses' many points le = record {
  lasts = record { told = refl; tells = λ t. t; owns = λ i f. nat_lt 30000 f && nat_le f (30000 + many i); schema = refl; whole = λ fs w. w; whole_on = λ fs w. w };
  next = refl;
  said = refl;
  leaves = λ t room. runs_quietly (points_to schema files log made) (points_to schema files' log' made) d d' _ points le;
}

pub stays : (schema : List ℕ) (files files' : BlockLists) (log log' : List BlockUndo) (made d d' : ℕ) (uses uses' : Uses) → content_of (undo_all (after made log') files') ≡ content_of (undo_all (after made log) files) → points_to schema files' log' made ≡ points_to schema files log made → d ≤ d' → Stays (held_of schema files log made d uses) (held_of schema files' log' made d' uses')
stays schema files files' log log' made d d' uses uses' mark points le = record { sound = tt; mark = λ t. mark; points = λ t room. (points, le) }

undone_length : (us : List BlockUndo) (files : BlockLists) → length (undo_all us files) ≡ length files
undone_length [] files = refl
undone_length (u ∷ us) files = set_length (undo_all us files) (place u.id.file) _ ∙ undone_length us files

pub out_passes : (schema : List ℕ) (files : BlockLists) (log : List BlockUndo) (made mark d : ℕ) (uses uses' : Uses) → AreSince made (drop mark log) → MakesNoPoint (held_of schema files log made d uses) (held_of schema (undo_all (drop mark log) files) (take mark log) made d uses')
out_passes schema files log made mark d uses uses' since = passes schema files (undo_all (drop mark log) files) log (take mark log) made d d uses uses' (undone_length (drop mark log) files) (out_points schema made mark files log since) (omega arith)

pub out_stays : (schema : List ℕ) (files : BlockLists) (log : List BlockUndo) (made mark d : ℕ) (uses uses' : Uses) → AreSince made (drop mark log) → Stays (held_of schema files log made d uses) (held_of schema (undo_all (drop mark log) files) (take mark log) made d uses')
out_stays schema files log made mark d uses uses' since = stays schema files (undo_all (drop mark log) files) log (take mark log) made d d uses uses' (out_mark made mark files log since) (out_points schema made mark files log since) (omega arith)

-- no file grows when changes are taken back
back_length : (b : ℕ) (old : Option Block) (l : List Block) → length l ≤ limit → length (taken_back b old l) ≤ limit
back_length b None l le = omega (arith, length-take b l, le)
back_length b (Some x) l le = omega (arith, set_blocks b x l, le)

pub undone_small : (us : List BlockUndo) (files : BlockLists) → AreSmall files → AreSmall (undo_all us files)
undone_small [] files small = small
undone_small (u ∷ us) files small =
    let rest : AreSmall (undo_all us files) = undone_small us files small in
    small_set (undo_all us files) (place u.id.file) _ rest (back_length u.id.block u.old (get_or (undo_all us files) (place u.id.file) []) (small_at (undo_all us files) (place u.id.file) rest))

-- after all changes since the mark are taken back there are none
drop_take : (n : ℕ) (us : List BlockUndo) → drop n (take n us) ≡ []
drop_take zero us = refl
drop_take (suc n) [] = refl
drop_take (suc n) (u ∷ us) = drop_take n us

take_again : (n : ℕ) (us : List BlockUndo) → take n (take n us) ≡ take n us
take_again zero us = refl
take_again (suc n) [] = refl
take_again (suc n) (u ∷ us) = ap (λ l. u ∷ l) (take_again n us)

pub out_before : (n mark : ℕ) (us : List BlockUndo) → AreBefore n (take mark us) → AreBefore n (take mark (take mark us))
out_before n mark us before = subst (λ l. AreBefore n l) (sym (take_again mark us)) before

pub out_since : (n mark : ℕ) (us : List BlockUndo) → AreSince n (drop mark (take mark us))
out_since n mark us = subst (λ l. AreSince n l) (sym (drop_take mark us)) tt

-- changes are logged behind the mark
drop_more : (n : ℕ) (us vs : List BlockUndo) → n ≤ length us → drop n (us ++ vs) ≡ drop n us ++ vs
drop_more zero us vs le = refl
drop_more (suc n) [] vs le = absurd (omega arith)
drop_more (suc n) (u ∷ us) vs le = drop_more n us vs (omega arith)

pub put_before : (made mark : ℕ) (cs : List Change) (r0 r : BlockLists) (l0 l : List BlockUndo) → PutAll made cs r0 l0 r l → mark ≤ length l0 → AreBefore made (take mark l0) → AreBefore made (take mark l)
put_before made mark cs r0 r l0 l put le before = subst (λ m. AreBefore made (take mark m)) (sym put.logged) (subst (λ m. AreBefore made m) (sym (take-append-le mark l0 put.more le)) before)

pub put_since : (made mark : ℕ) (cs : List Change) (r0 r : BlockLists) (l0 l : List BlockUndo) → PutAll made cs r0 l0 r l → mark ≤ length l0 → AreSince made (drop mark l0) → AreSince made (drop mark l)
put_since made mark cs r0 r l0 l put le since = subst (λ m. AreSince made (drop mark m)) (sym put.logged) (subst (λ m. AreSince made m) (sym (drop_more mark l0 put.more le)) (since_append made (drop mark l0) put.more since put.since))

pub put_marked : (made mark : ℕ) (cs : List Change) (r0 r : BlockLists) (l0 l : List BlockUndo) → PutAll made cs r0 l0 r l → mark ≤ length l0 → mark ≤ length l
put_marked made mark cs r0 r l0 l put le = omega (arith, le, ap length put.logged, length-append l0 put.more)

pub put_counts : (made : ℕ) (cs : List Change) (r0 r : BlockLists) (l0 l : List BlockUndo) → PutAll made cs r0 l0 r l → FitsIn cs (owns_of r0) (λ f. length (content_of r0 f)) → (λ f. length (content_of r f)) ≡ counts_after cs (λ f. length (content_of r0 f))
put_counts made cs r0 r l0 l put fits = λ i f. (ap (λ (c : Content). length (c f)) put.content ∙ sym (grown_is cs (owns_of r0) (λ g. length (content_of r0 g)) (content_of r0) (λ g. refl) fits f)) i

pub take_all : (n : ℕ) (us : List BlockUndo) → length us ≤ n → take n us ≡ us
take_all zero [] le = refl
take_all (suc n) [] le = refl
take_all zero (u ∷ us) le = absurd (omega arith)
take_all (suc n) (u ∷ us) le = ap (λ l. u ∷ l) (take_all n us (omega arith))

pub drop_all : (n : ℕ) (us : List BlockUndo) → length us ≤ n → drop n us ≡ []
drop_all zero [] le = refl
drop_all (suc n) [] le = refl
drop_all zero (u ∷ us) le = absurd (omega arith)
drop_all (suc n) (u ∷ us) le = drop_all n us (omega arith)
