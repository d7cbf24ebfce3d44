-- Images of one block among entries that are read one after another.
use Rattle.std.proofs.Common.{ℕ, zero, suc, ◌+◌, ◌-◌, ◌<◌, ◌≤◌, ◌≡◌, ◌≢◌, Bool, true, false, cond, List, [], ◌∷◌, ◌++◌, length, take, drop, map, Option, Some, None, refl, sym, ◌∙◌, ap, arith, length-take, length-drop}
use Rattle.std.specs.Prelude.{◌||◌}
use Rattle.dms_history.specs.Entries.{Entry, schema_part, image, byte_range, quiet_point, control_point, begin_restore}
use Rattle.dms_history.specs.EntryEvents.{logged_from, events_in}
use Rattle.dms_history.specs.Images.{is_at}
use Rattle.dms_history.specs.Lists.{has}
use Rattle.dms_history.specs.Ranges.{is_image}
use Rattle.dms_history.specs.Schemas.{Parts, no_parts, after_entry}
use Rattle.dms_audrec.specs.Reading.{entry_at}
use Rattle.dms_audfile.specs.Blocks.{EntryInBlock, block_entries, entries_from, stands_there, used_in}
use Rattle.dms_audfile.specs.Gates.{block_at, blocks_from}
use Rattle.dms_audfile.specs.Header.{all_zero}
use Rattle.dms_audfile.specs.HeldImages.{names_image, holds_on}
use Rattle.dms_audfile.specs.TrailEntries.{entry_of, entries_of, entries_in}
use Rattle.dms_audfile.specs.Unsealed.{block_with}
use Rattle.dms_audfile.proofs.BlockRead.{block_filled}
use Rattle.dms_audfile.proofs.Reading.{after_one, entries_step, block_is, block_test}

or_assoc : (a b c : Bool) → (a || (b || c)) ≡ ((a || b) || c)
or_assoc true b c = refl
or_assoc false b c = refl

or_off : (a : Bool) → (a || false) ≡ a
or_off true = refl
or_off false = refl

has_both : (p : Entry → Bool) (xs ys : List Entry) → has p (xs ++ ys) ≡ (has p xs || has p ys)
has_both p [] ys = refl
has_both p (x ∷ xs) ys = ap (λ b. p x || b) (has_both p xs ys) ∙ or_assoc (p x) (has p xs) (has p ys)

-- an Image is said whatever of a Schema stands before it
among : (f b : ℕ) (p : Parts) (es : List Entry) → has (is_image f b) (logged_from p es) ≡ has (names_image f b) es
among f b p [] = refl
among f b p (schema_part part parts bytes ∷ es) = among f b (after_entry p (schema_part part parts bytes)) es
among f b p (image g k before after ∷ es) = ap (λ t. is_at f b g k || t) (among f b (after_entry p (image g k before after)) es)
among f b p (byte_range g k place bytes ∷ es) = among f b (after_entry p (byte_range g k place bytes)) es
among f b p (quiet_point n ∷ es) = among f b (after_entry p (quiet_point n)) es
among f b p (control_point n next counts ∷ es) = among f b (after_entry p (control_point n next counts)) es
among f b p (begin_restore n kind ∷ es) = among f b (after_entry p (begin_restore n kind)) es

-- ---- one entry after another

pub holds_all : (f b : ℕ) (found : Bool) (r : Option (List EntryInBlock)) → r ≡ Some [] → holds_on f b found r ≡ found
holds_all f b found r is = ap (λ (x : Option (List EntryInBlock)). holds_on f b found x) is ∙ or_off found

pub holds_none : (f b : ℕ) (found : Bool) (r : Option (List EntryInBlock)) → r ≡ None → holds_on f b found r ≡ false
holds_none f b found r is = ap (λ (x : Option (List EntryInBlock)). holds_on f b found x) is

pub entries_over : (at : ℕ) (rest : List ℕ) → length rest ≢ 0 → entries_from 0 at rest ≡ None
entries_over at [] some = absurd (some refl)
entries_over at (x ∷ rest) some = refl

holds_one : (f b at : ℕ) (found : Bool) (e : Entry) (r : Option (List EntryInBlock)) → holds_on f b (found || names_image f b e) r ≡ holds_on f b found (after_one e at true r)
unfolding after_one
holds_one f b at found e None = refl
holds_one f b at found e (Some es) = sym (or_assoc found (names_image f b e) (has (names_image f b) (map entry_of es)))

pub holds_turn : (k at next f b : ℕ) (rest : List ℕ) (e : Entry) (more : List ℕ) (found : Bool) → 0 < k → length rest ≢ 0 → entry_at rest ≡ Some (e, more) → stands_there at e more ≡ true → next ≡ at + (length rest - length more)
    → holds_on f b (found || names_image f b e) (entries_from (k - 1) next more) ≡ holds_on f b found (entries_from k at rest)
holds_turn zero at next f b rest e more found low some is alone on = absurd (omega (arith, low))
holds_turn (suc k) at next f b rest e more found low some is alone on =
    let m : suc k - 1 ≡ k = omega arith in
    (λ i. holds_on f b (found || names_image f b e) (entries_from (m i) (on i) more))
    ∙ holds_one f b at found e (entries_from k (at + (length rest - length more)) more)
    ∙ ap (λ (t : Bool). holds_on f b found (after_one e at t (entries_from k (at + (length rest - length more)) more))) (sym alone)
    ∙ ap (λ (r : Option (List EntryInBlock)). holds_on f b found r) (sym (entries_step k at rest e more some is))

-- ---- one block after another

pub holds_wrong : (f b : ℕ) (block : List ℕ) → block_test block ≡ false → holds_on f b false (block_entries block) ≡ false
unfolding block_entries
holds_wrong f b block wrong = ap (λ t. holds_on f b false (cond t (entries_from (used_in block) 2 (drop 2 (take (2 + used_in block) block))) None)) wrong

pub holds_block : (f b : ℕ) (block bytes : List ℕ) → length block ≡ 4096 → used_in block ≤ 4094 → all_zero (drop (2 + used_in block) block) ≡ true → bytes ≡ drop 2 (take (2 + used_in block) block)
    → holds_on f b false (entries_from (length bytes) 2 bytes) ≡ holds_on f b false (block_entries block)
holds_block f b block bytes long few zeros is =
    let len : length bytes ≡ used_in block = omega (arith, long, few, ap length is, length-drop 2 (take (2 + used_in block) block), length-take (2 + used_in block) block) in
    (λ i. holds_on f b false (entries_from (len i) 2 (is i))) ∙ ap (λ (r : Option (List EntryInBlock)). holds_on f b false r) (block_is block long few zeros)

holds_first : (f b : ℕ) (r : Option (List EntryInBlock)) → holds_on f b false r ≡ has (names_image f b) (entries_of r)
holds_first f b None = refl
holds_first f b (Some es) = refl

-- whether one of some blocks holds an Image
abbrev pub in_blocks : ℕ → ℕ → ℕ → ℕ → List ℕ → Bool
in_blocks f b k i group = has (names_image f b) (entries_in (blocks_from k i group))

in_both : (f b k i : ℕ) (group : List ℕ) → in_blocks f b (suc k) i group ≡ (holds_on f b false (block_entries (block_at i group)) || in_blocks f b k (i + 1) group)
in_both f b k i group =
    has_both (names_image f b) (entries_of (block_entries (block_at i group))) (entries_in (blocks_from k (i + 1) group))
    ∙ ap (λ t. t || in_blocks f b k (i + 1) group) (sym (holds_first f b (block_entries (block_at i group))))

pub in_turn : (f b k i : ℕ) (group : List ℕ) → 0 < k → holds_on f b false (block_entries (block_at i group)) ≡ false → in_blocks f b (k - 1) (i + 1) group ≡ in_blocks f b k i group
in_turn f b zero i group some off = absurd (omega (arith, some))
in_turn f b (suc k) i group some off =
    let m : suc k - 1 ≡ k = omega arith in
    ap (λ n. in_blocks f b n (i + 1) group) m ∙ ap (λ t. t || in_blocks f b k (i + 1) group) (sym off) ∙ sym (in_both f b k i group)

pub in_here : (f b k i : ℕ) (group : List ℕ) → 0 < k → holds_on f b false (block_entries (block_at i group)) ≡ true → in_blocks f b k i group ≡ true
in_here f b zero i group some on = absurd (omega (arith, some))
in_here f b (suc k) i group some on = in_both f b k i group ∙ ap (λ t. t || in_blocks f b k (i + 1) group) on

-- ---- all that waits

waiting_both : (f b : ℕ) (full : List (List ℕ)) (bytes : List ℕ) → length bytes ≤ 4094 → has (is_image f b) (events_in (entries_in full ++ entries_of (block_entries (block_with bytes))))
    ≡ (has (names_image f b) (entries_in full) || holds_on f b false (entries_from (length bytes) 2 bytes))
waiting_both f b full bytes few =
    among f b no_parts (entries_in full ++ entries_of (block_entries (block_with bytes)))
    ∙ has_both (names_image f b) (entries_in full) (entries_of (block_entries (block_with bytes)))
    ∙ ap (λ t. has (names_image f b) (entries_in full) || t) (sym (holds_first f b (block_entries (block_with bytes))))
    ∙ ap (λ (r : Option (List EntryInBlock)). has (names_image f b) (entries_in full) || holds_on f b false r) (block_filled bytes few)

pub waiting_full : (f b : ℕ) (full : List (List ℕ)) (bytes : List ℕ) → length bytes ≤ 4094 → has (names_image f b) (entries_in full) ≡ true
    → has (is_image f b) (events_in (entries_in full ++ entries_of (block_entries (block_with bytes)))) ≡ true
waiting_full f b full bytes few on = waiting_both f b full bytes few ∙ ap (λ t. t || holds_on f b false (entries_from (length bytes) 2 bytes)) on

pub waiting_last : (f b : ℕ) (full : List (List ℕ)) (bytes : List ℕ) → length bytes ≤ 4094 → has (names_image f b) (entries_in full) ≡ false
    → has (is_image f b) (events_in (entries_in full ++ entries_of (block_entries (block_with bytes)))) ≡ holds_on f b false (entries_from (length bytes) 2 bytes)
waiting_last f b full bytes few off = waiting_both f b full bytes few ∙ ap (λ t. t || holds_on f b false (entries_from (length bytes) 2 bytes)) off
