-- What becomes of a frame that was written, and which frames are to be written.
use Rattle.std.proofs.Common.{◌≡◌, List, [], ◌∷◌, Bool, true, false, if◌then◌else◌, cond, Some, None, refl, sym, ap, ◌∙◌}
use Rattle.std.specs.Prelude.{find, option_map, reverse}
use Rattle.std.specs.declared.option.Option.{Option}
use Rattle.std.specs.List.{AllByRecursion, IsDistinct}
use Rattle.std.specs.Option.{option_map_or}
use Rattle.std.specs.Map.{keys_of, lookup, set_value}
use Rattle.std.proofs.lemmas.List.{reverse-reverse}
use Rattle.std.proofs.lemmas.Option.{same_Some}
use Rattle.dms_block.specs.declared.block.BlockId.{BlockId}
use Rattle.dms_pool.specs.declared.frame.BufferFrame.{BufferFrame}
use Rattle.dms_pool.specs.declared.frame.FrameKey.{FrameKey}
use Rattle.dms_pool.specs.Entries.{Entries, id_of, ids_of, is_id, is_key, same_key}
use Rattle.dms_pool.specs.Held.{clean_frame}
use Rattle.dms_pool.proofs.Same.{same_id, apart_on}
use Rattle.dms_pool.proofs.Lasts.{flip, self}

-- a frame is set

here_turn : (t : Bool) (id : BlockId) (e : FrameKey × BufferFrame) (es rest : Entries) (f w : BufferFrame) → is_key id e.0 ≡ t → cond t (Some e.1) (lookup (is_key id) es) ≡ Some f
    → (lookup (is_key id) es ≡ Some f → lookup (is_key id) rest ≡ Some w) → lookup (is_key id) (cond t ((e.0, w) ∷ es) (e ∷ rest)) ≡ Some w
here_turn true id e es rest f w on is later = ap (λ b. cond b (Some w) (lookup (is_key id) es)) on
here_turn false id e es rest f w off is later = ap (λ b. cond b (Some e.1) (lookup (is_key id) rest)) off ∙ later is

set_here : (id : BlockId) (es : Entries) (f w : BufferFrame) → lookup (is_key id) es ≡ Some f → lookup (is_key id) (set_value (is_key id) es w) ≡ Some w
set_here id [] f w is = absurd (cc is)
set_here id (e ∷ es) f w is = here_turn (is_key id e.0) id e es (set_value (is_key id) es w) f w refl is (set_here id es f w)

other_turn : (t : Bool) (k : BlockId) (e : FrameKey × BufferFrame) (es rest : Entries) (w : BufferFrame) → (t ≡ true → is_key k e.0 ≡ false) → lookup (is_key k) rest ≡ lookup (is_key k) es
    → lookup (is_key k) (cond t ((e.0, w) ∷ es) (e ∷ rest)) ≡ cond (is_key k e.0) (Some e.1) (lookup (is_key k) es)
other_turn true k e es rest w off same = ap (λ b. cond b (Some w) (lookup (is_key k) es)) (off refl) ∙ sym (ap (λ b. cond b (Some e.1) (lookup (is_key k) es)) (off refl))
other_turn false k e es rest w off same = ap (cond (is_key k e.0) (Some e.1)) same

set_other : (k id : BlockId) (es : Entries) (w : BufferFrame) → is_id k id ≡ false → lookup (is_key k) (set_value (is_key id) es w) ≡ lookup (is_key k) es
set_other k id [] w off = refl
set_other k id (e ∷ es) w off = other_turn (is_key id e.0) k e es (set_value (is_key id) es w) w (apart_on k id (id_of e.0) off) (set_other k id es w off)

ids_turn : (t : Bool) (e : FrameKey × BufferFrame) (es rest : Entries) (w : BufferFrame) → ids_of rest ≡ ids_of es → ids_of (cond t ((e.0, w) ∷ es) (e ∷ rest)) ≡ id_of e.0 ∷ ids_of es
ids_turn true e es rest w same = refl
ids_turn false e es rest w same = ap (λ (l : List BlockId). id_of e.0 ∷ l) same

pub set_ids : (id : BlockId) (es : Entries) (w : BufferFrame) → ids_of (set_value (is_key id) es w) ≡ ids_of es
set_ids id [] w = refl
set_ids id (e ∷ es) w = ids_turn (is_key id e.0) e es (set_value (is_key id) es w) w (set_ids id es w)

clean_turn : (t : Bool) (k id : BlockId) (es : Entries) (f : BufferFrame) → is_id k id ≡ t → lookup (is_key id) es ≡ Some f
    → lookup (is_key k) (set_value (is_key id) es (clean_frame f)) ≡ (if t then option_map clean_frame (lookup (is_key k) es) else lookup (is_key k) es)
clean_turn true k id es f on is =
    let same : id ≡ k = same_id k id on in
    sym (ap (λ (x : BlockId). lookup (is_key x) (set_value (is_key id) es (clean_frame f))) same) ∙ set_here id es f (clean_frame f) is
    ∙ sym (ap (option_map clean_frame) is) ∙ ap (λ (x : BlockId). option_map clean_frame (lookup (is_key x) es)) same
clean_turn false k id es f off is = set_other k id es (clean_frame f) off

pub set_clean : (k id : BlockId) (es : Entries) (f : BufferFrame) → lookup (is_key id) es ≡ Some f
    → lookup (is_key k) (set_value (is_key id) es (clean_frame f)) ≡ (if is_id k id then option_map clean_frame (lookup (is_key k) es) else lookup (is_key k) es)
set_clean k id es f is = clean_turn (is_id k id) k id es f refl is

-- the frames that are to be written

-- the first of them
abbrev pub first_dirty : Entries → Option BlockId
first_dirty [] = None
first_dirty (e ∷ es) = if e.1.dirty then Some (id_of e.0) else first_dirty es

abbrev pub dirty_in : Entries → BlockId → Bool
dirty_in es id = option_map_or (λ f. f.dirty) (lookup (is_key id) es) false

-- each entry is what is held of its block
abbrev FoundFrame : Entries → Entries → Type 0
FoundFrame all = AllByRecursion (λ e. lookup (is_key (id_of e.0)) all ≡ Some e.1)

found_behind : (e : FrameKey × BufferFrame) (all es : Entries) → AllByRecursion (λ y. same_key e.0 y ≡ false) (keys_of es) → FoundFrame all es → FoundFrame (e ∷ all) es
found_behind e all [] apart found = tt
found_behind e all (x ∷ es) apart found =
    (ap (λ b. cond b (Some e.1) (lookup (is_key (id_of x.0)) all)) (flip (id_of x.0) (id_of e.0) ∙ apart.0) ∙ found.0, found_behind e all es apart.1 found.1)

each_found : (es : Entries) → IsDistinct same_key (keys_of es) → FoundFrame es es
unfolding IsDistinct
each_found [] distinct = tt
each_found (e ∷ es) distinct = (ap (λ b. cond b (Some e.1) (lookup (is_key (id_of e.0)) es)) (self (id_of e.0)), found_behind e es es distinct.0 (each_found es distinct.1))

first_found : (all es : Entries) → FoundFrame all es → first_dirty es ≡ find (dirty_in all) (ids_of es)
first_found all [] found = refl
first_found all (e ∷ es) found =
    ap (λ o. if e.1.dirty then Some (id_of e.0) else o) (first_found all es found.1)
    ∙ sym (ap (λ o. cond (option_map_or (λ (f : BufferFrame). f.dirty) o false) (Some (id_of e.0)) (find (dirty_in all) (ids_of es))) found.0)

pub first_is : (es : Entries) → IsDistinct same_key (keys_of es) → first_dirty es ≡ find (dirty_in es) (reverse (reverse (ids_of es)))
first_is es distinct = first_found es es (each_found es distinct) ∙ sym (ap (find (dirty_in es)) (reverse-reverse (ids_of es)))

passes_turn : (t : Bool) (p : BlockId → Bool) (x y : BlockId) (o : Option BlockId) → p x ≡ t → cond t (Some x) o ≡ Some y → (o ≡ Some y → p y ≡ true) → p y ≡ true
passes_turn true p x y o on is later = ap p (sym (same_Some x y is)) ∙ on
passes_turn false p x y o off is later = later is

pub find_passes : (p : BlockId → Bool) (xs : List BlockId) (y : BlockId) → find p xs ≡ Some y → p y ≡ true
find_passes p [] y is = absurd (cc is)
find_passes p (x ∷ xs) y is = passes_turn (p x) p x y (find p xs) refl is (find_passes p xs y)

clean_all_turn : (d t : Bool) (x : BlockId) (f : BufferFrame) (o : Option BlockId) (r : Option BufferFrame) → f.dirty ≡ d → cond d (Some x) o ≡ None → (o ≡ None → option_map_or (λ (g : BufferFrame). g.dirty) r false ≡ false)
    → option_map_or (λ (g : BufferFrame). g.dirty) (cond t (Some f) r) false ≡ false
clean_all_turn true t x f o r on is later = absurd (cc is)
clean_all_turn false true x f o r off is later = off
clean_all_turn false false x f o r off is later = later is

pub none_dirty : (es : Entries) → first_dirty es ≡ None → (id : BlockId) → dirty_in es id ≡ false
none_dirty [] is id = refl
none_dirty (e ∷ es) is id = clean_all_turn e.1.dirty (is_key id e.0) (id_of e.0) e.1 (first_dirty es) (lookup (is_key id) es) refl is (λ none. none_dirty es none id)
