-- What a change is logged as, and the block that it makes.
use Rattle.std.specs.Prelude.{◌&&◌, not, nat_lt, option_map, IfSome}
use Rattle.std.proofs.Common.{ℕ, ◌+◌, ◌-◌, ◌<◌, ◌≤◌, ◌≡◌, inl, inr, true, false, IsTrue, max, get_or, List, [], length, length-take, length-drop, take, drop, Option, Some, None, sym, ◌∙◌, ap, subst, arith}
use Rattle.std.specs.Str.{bytes_eq}
use Rattle.std.proofs.lemmas.Bool.{cases_Bool, cases_eq, cases_lt}
use Rattle.std.proofs.lemmas.List.{ext_get_or}
use Rattle.std.proofs.lemmas.Bool.Decides.{nat_tests}
use Rattle.std.proofs.lemmas.Slice.Eq.{bytes_eq-Decides}
use Rattle.dms_block.specs.declared.block.Block.{Block}
use Rattle.dms_block.specs.declared.change.Change.{Change}
use Rattle.dms_block.specs.Content.{Content, block_in, differs, raise_count, with_block}
use Rattle.dms_block.specs.ContentLaws.{write_same}
use Rattle.dms_block.specs.declared.block.BlockId.{BlockId}
use Rattle.dms_block.specs.Held.{Alters, Held}
use Rattle.dms_block.specs.HeldLaws.{passes_none, stays_none, used_none}
use Rattle.std.specs.declared.result.Result.TheVariants.{Ok}
use Rattle.dms_site.specs.declared.site.Site.{Ghosts}
use Rattle.dms_restore.specs.Logging.{content}
use Rattle.dms_restore.specs.Views.{view_of}
use Rattle.dms_wal.specs.declared.running.Running.{Running}
use Rattle.dms_wal.specs.Database.{IsRunningUsable}
use Rattle.dms_wal.specs.ImagedSets.{has_block}
use Rattle.dms_history.specs.Ranges.{patch_bytes}
use Rattle.dms_history.specs.Replay.{TellsBefore}
use Rattle.dms_history.proofs.Patches.{range_fits}
use Rattle.dms_wal.specs.Differing.{DiffersAt, SameBelow, SameFrom, SpansDifference}

-- a block that is counted changes no count
pub raise_same : (c : ℕ → ℕ) (f b : ℕ) → b < c f → raise_count c f b ≡ c
raise_same c f b low = λ i g. (elim (cases_eq g f) as (λ _. raise_count c f b g ≡ c g) [
  | inl same ↦ let le : max (c f) (b + 1) ≡ c f = omega (arith, low) in subst (λ h. raise_count c f b h ≡ c h) (sym same) (here le)
  | inr other ↦ grind (arith, nat_tests, other)
]) i
  where
    here : max (c f) (b + 1) ≡ c f → raise_count c f b f ≡ c f
    here le = grind (arith, nat_tests, le)

-- where the counts are the same, a block that is there is counted
pub counted_then : (a b : ℕ → ℕ) (f k : ℕ) (o : Option Block) → b ≡ a → IfSome o (λ x. k < a f) → IfSome o (λ x. k < b f)
counted_then a b f k None same low = tt
counted_then a b f k (Some x) same low = subst (λ (c : ℕ → ℕ). k < c f) (sym same) low

-- what the block was, by cases
pub none_told : (b : ℕ) (blocks : List (List ℕ)) (o : Option Block) → o ≡ None → TellsBefore b (option_map (λ (x : Block). x.0) o) blocks → b ≡ length blocks
none_told b blocks o is told = subst (λ (p : Option Block). TellsBefore b (option_map (λ (x : Block). x.0) p) blocks) is told

pub some_told : (b : ℕ) (blocks : List (List ℕ)) (o : Option Block) (old : Block) → o ≡ Some old → TellsBefore b (option_map (λ (x : Block). x.0) o) blocks → (b < length blocks) × (old.0 ≡ get_or blocks b [])
some_told b blocks o old is told = subst (λ (p : Option Block). TellsBefore b (option_map (λ (x : Block). x.0) p) blocks) is told

pub some_low : (k n : ℕ) (o : Option Block) (old : Block) → o ≡ Some old → IfSome o (λ x. k < n) → k < n
some_low k n o old is low = subst (λ (p : Option Block). IfSome p (λ x. k < n)) is low

-- ---- whether a change changes its block

low_test : (b n : ℕ) → b < n → nat_lt b n ≡ true
low_test b n low = grind (arith, nat_tests, low)

high_test : (b n : ℕ) → b ≡ n → nat_lt b n ≡ false
high_test b n is = grind (arith, nat_tests, is)

-- one of a new block does
pub differs_new : (c : Content) (x : Change) → x.id.block ≡ length (c x.id.file) → differs c x ≡ true
differs_new c x is = ap (λ t. not (t && bytes_eq (block_in c x.id.file x.id.block) x.block.0)) (high_test x.id.block (length (c x.id.file)) is)

-- one to the same bytes doesn't
pub differs_not : (c : Content) (x : Change) → x.id.block < length (c x.id.file) → x.block.0 ≡ block_in c x.id.file x.id.block → differs c x ≡ false
differs_not c x low same =
    (λ i. not (low_test x.id.block (length (c x.id.file)) low i && (bytes_eq-Decides (block_in c x.id.file x.id.block) x.block.0).1 (sym same) i))

-- one by which some byte is another one does
pub differs_spanned : (c : Content) (x : Change) (place : ℕ) (bytes : List ℕ) → x.id.block < length (c x.id.file) → SpansDifference (block_in c x.id.file x.id.block) x.block.0 place bytes → differs c x ≡ true
differs_spanned c x place bytes low spans = elim (cases_Bool (bytes_eq (block_in c x.id.file x.id.block) x.block.0)) [
  | inl on ↦
      let same : block_in c x.id.file x.id.block ≡ x.block.0 = (bytes_eq-Decides (block_in c x.id.file x.id.block) x.block.0).0 on in
      absurd (spans.first (ap (λ (l : List ℕ). get_or l place 0) (sym same)))
  | inr off ↦ (λ i. not (low_test x.id.block (length (c x.id.file)) low i && off i))
]

-- ---- the bytes that differ

-- over the block as it was they make it as it is
pub patched_new : (old new : List ℕ) (place : ℕ) (bytes : List ℕ) → length new ≡ length old → SpansDifference old new place bytes → patch_bytes place bytes old ≡ new
patched_new old new place bytes long s = ap (λ (l : List ℕ). patch_bytes place l old) s.are ∙ (range_fits place (length bytes) old new s.within long s.below s.above).0

-- over the block as the content has it
pub spans_told : (c : Content) (f b : ℕ) (old new : List ℕ) (place : ℕ) (bytes : List ℕ) → old ≡ block_in c f b → SpansDifference old new place bytes → SpansDifference (block_in c f b) new place bytes
spans_told c f b old new place bytes is = subst (λ (l : List ℕ). SpansDifference l new place bytes) is

pub patched_told : (c : Content) (f b : ℕ) (old new : List ℕ) (place : ℕ) (bytes : List ℕ) → length new ≡ length old → old ≡ block_in c f b → SpansDifference old new place bytes → patch_bytes place bytes (block_in c f b) ≡ new
patched_told c f b old new place bytes long is s = ap (λ (l : List ℕ). patch_bytes place bytes l) (sym is) ∙ patched_new old new place bytes long s

-- ---- looking for them

pub below_more : (n : ℕ) (old new : List ℕ) → SameBelow n old new → get_or new n 0 ≡ get_or old n 0 → SameBelow (n + 1) old new
below_more n old new s at i low = elim (cases_lt i n) [
  | inl less ↦ s i less
  | inr off ↦ let is : i ≡ n = omega (arith, off, low) in ap (λ j. get_or new j 0) is ∙ at ∙ sym (ap (λ j. get_or old j 0) is)
]

pub from_more : (n m : ℕ) (old new : List ℕ) → m + 1 ≡ n → SameFrom n old new → get_or new m 0 ≡ get_or old m 0 → SameFrom m old new
from_more n m old new next s at i high low = elim (cases_lt m i) [
  | inl above ↦ s i (omega (arith, next, above)) low
  | inr off ↦ let is : i ≡ m = omega (arith, off, high) in ap (λ j. get_or new j 0) is ∙ at ∙ sym (ap (λ j. get_or old j 0) is)
]

pub all_same : (n : ℕ) (old new : List ℕ) → length old ≡ n → length new ≡ n → SameBelow n old new → new ≡ old
all_same n old new one two s = ext_get_or 0 new old (two ∙ sym one) (λ i low. s i (omega (arith, low, two)))

-- the first place is before the end
pub place_below : (place end : ℕ) (old new : List ℕ) → place < length old → DiffersAt place old new → SameFrom end old new → place < end
place_below place end old new low other same = elim (cases_lt place end) [ inl less ↦ less | inr off ↦ absurd (other (same place off low)) ]

pub spans_found : (place end : ℕ) (old new bytes : List ℕ) → length new ≡ length old → end ≤ length old → place < end → bytes ≡ take (end - place) (drop place new) → SameBelow place old new → SameFrom end old new → DiffersAt place old new → DiffersAt (end - 1) old new
    → SpansDifference old new place bytes
spans_found place end old new bytes long within less are below above first last =
    let size : length bytes ≡ end - place = ap length are ∙ omega (arith, length-take (end - place) (drop place new), length-drop place new, long, within) in
    let stop : place + length bytes ≡ end = omega (arith, size, less) in
    record {
      some = omega (arith, size, less);
      within = omega (arith, stop, within);
      are = are ∙ ap (λ n. take n (drop place new)) (sym size);
      first = first;
      last = subst (λ j. DiffersAt j old new) (ap (λ j. j - 1) (sym stop)) last;
      below = below;
      above = subst (λ j. SameFrom j old new) (sym stop) above;
    }

-- ---- a block that is as it is to be

pub with_old : (c : Content) (f b : ℕ) (old new : List ℕ) → b < length (c f) → old ≡ block_in c f b → new ≡ old → c ≡ with_block c f b new
with_old c f b old new low is same = sym (ap (λ (l : List ℕ). with_block c f b l) (same ∙ is) ∙ write_same c f b low)

pub alters_none : (a : Held) → a.sound → Alters 0 0 (Ok (tt {0})) a a
alters_none a sound = record { passes = passes_none a; stays = stays_none a sound; memory = λ e. absurd (cc e); uses = used_none 0 0 a.uses }

-- ---- a new block

-- it has no Image since the last Control
pub first_image : {S : Type 0} (g : Ghosts S) (r : Running S) → IsRunningUsable g r → (id : BlockId) → IsTrue g.tells → id.block ≡ length (content (view_of g r.log) id.file) → has_block r.imaged id.file id.block ≡ false
first_image g r u id t new = elim (cases_Bool (has_block r.imaged id.file id.block)) [
  | inl on ↦ absurd (omega (arith, u.images_counted id.file id.block on, (u.goes t).counted id.file, new))
  | inr off ↦ off
]
