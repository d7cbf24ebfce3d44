-- The changes since a place, in the order of the audit, tell of each block what is noted of it.
use Rattle.std.specs.Prelude.{◌||◌, ◌==◌}
use Rattle.std.proofs.Common.{ℕ, ◌+◌, ◌<◌, ◌≤◌, ◌≡◌, ◌⊎◌, inl, inr, Bool, true, false, cond, List, [], ◌∷◌, ◌++◌, length, take, get_or, Some, None, refl, sym, ◌∙◌, ap, subst, arith}
use Rattle.std.proofs.lemmas.Bool.{true≢false}
use Rattle.std.proofs.lemmas.Bool.Decides.{nat_tests}
use Rattle.std.proofs.lemmas.List.{take_all}
use Rattle.std.specs.Ordering.{is_eq}
use Rattle.std.specs.BTreeSet.{BTreeSet, contains}
use Rattle.dms_site.specs.Files.{Files}
use Rattle.dms_history.specs.Events.{BlockBytes}
use Rattle.dms_history.specs.Images.{is_at}
use Rattle.dms_history.specs.Ranges.{patch_bytes}
use Rattle.dms_history.specs.Told.{undone_to}
use Rattle.dms_history.specs.declared.event.Row.{Row}
use Rattle.dms_history.proofs.Picks.{place_cases, option_cases}
use Rattle.dms_audfile.specs.declared.fault.AudFault.{AudFault}
use Rattle.dms_audfile.specs.declared.fault.AudFault.TheVariants.{Memory}
use Rattle.dms_restore.specs.declared.live.ImageAt.{ImageAt}
use Rattle.dms_restore.specs.declared.live.RangeAt.{RangeAt}
use Rattle.dms_restore.specs.declared.live.LiveEntry.{LiveEntry}
use Rattle.dms_restore.specs.declared.live.LiveEntry.TheVariants.{Changed, Ranged, Quiet, Controlled}
use Rattle.dms_restore.specs.declared.told.Told.{Told}
use Rattle.dms_restore.specs.LiveEntries.{patch_in, after_in, logged_at, logged_live, AllStandWhole}
use Rattle.dms_restore.specs.Named.{block_cmp, Noted, noted_by, noted_front, noted_all, undone, laid_over, told_noted, IsPiece, IsPieceAmong, HasNoBlock}
use Rattle.dms_restore.specs.Replayed.{has_change, is_imaged, replay_of, Replays}
use Rattle.dms_restore.specs.Table.{AreBlocks, IsAmong, AreWhole, told_on, last_of}
use Rattle.dms_restore.proofs.Marked.{front_more}
use Rattle.dms_restore.proofs.Noted.{unnamed_by, not_yet, from_now}
use Rattle.dms_restore.proofs.Spots.{block_same, no_entry}
use Rattle.dms_restore.proofs.SpotParts.{piece_here, piece_take}
use Rattle.dms_restore.proofs.TableParts.{here, blocks_parts, patches_on, some_on}
use Rattle.dms_restore.proofs.Tables.{whole_parts, among_parts, on_append, on_apart}
use Rattle.dms_restore.proofs.WholeSpots.{among_whole}
use Rattle.dms_restore.proofs.Writing.{patched_length}

-- ---- the set

or_by : (t a : Bool) → cond t true a ≡ t || a
or_by true a = refl
or_by false a = refl

or_true : (a : Bool) → a || true ≡ true
or_true true = refl
or_true false = refl

pub imaged_more : (old new : BTreeSet (ℕ × ℕ)) (g k : ℕ) → ((q : ℕ × ℕ) → contains block_cmp new q ≡ cond (is_eq (block_cmp (g, k) q)) true (contains block_cmp old q)) → (f b : ℕ) → is_imaged new f b ≡ is_at f b g k || is_imaged old f b
imaged_more old new g k set f b = set (f, b) ∙ ap (λ t. cond t true (is_imaged old f b)) (block_same g k f b) ∙ or_by (is_at f b g k) (is_imaged old f b)

-- ---- what is known of a block

-- the table has it as it stands, and it is named
pub record Known (files : Files) (f b : ℕ) (table : List Told) (n : Noted) : Type 0 where
  pub block : BlockBytes
  pub made : last_of files f b table ≡ Some block
  pub noted : n ≡ record { stands = Some block; named = true }
  pub size : length block ≡ 1024

-- it has no Image yet, is in no table, and isn't named; or it has one
abbrev pub Follows : Files → ℕ → ℕ → Bool → List Told → Noted → Type 0
Follows files f b false table n = (IsAmong f b table → ⊥) × (n.named ≡ false)
Follows files f b true table n = (last_of files f b table ≡ None → ⊥) × (AreWhole files table → Known files f b table n)

-- each of these is a piece of an entry
abbrev pub AllAmong : List LiveEntry → List Told → Type 0
AllAmong es [] = Unit {0}
AllAmong es (t ∷ ts) = IsPieceAmong es t × AllAmong es ts

-- The table has the changes among the first i entries, but for those before the place.
pub record ReplaysSoFar (front : List LiveEntry) (from i : ℕ) (images : BTreeSet (ℕ × ℕ)) (table : List Told) : Type 0 where
  pub blocks : AreBlocks table
  pub each : (files : Files) (f b : ℕ) → Follows files f b (is_imaged images f b) table (noted_front files from (take i front) f b)
  pub idle : i ≤ from → (f b : ℕ) → is_imaged images f b ≡ false
  pub among : AllAmong front table

-- ---- an entry of another block

module _ (files : Files) (f b : ℕ) where
  apart_follows : (k : Bool) (old us : List Told) (n : Noted) → (IsAmong f b us → ⊥) → Follows files f b k old n → Follows files f b k (old ++ us) n
  apart_follows false old us n apart so = ((λ among. elim (among_parts f b old us among) [ inl one ↦ so.0 one | inr two ↦ apart two ]), so.1)
  apart_follows true old us n apart so =
      let same : last_of files f b (old ++ us) ≡ last_of files f b old = on_append files f b None old us ∙ on_apart files f b (last_of files f b old) us apart in (
        (λ none. so.0 (sym same ∙ none)),
        λ whole.
            let w = so.1 (whole_parts files old us whole).0 in
            record { block = w.block; made = same ∙ w.made; noted = w.noted; size = w.size },
      )

  other_follows : (k l : Bool) (old new us : List Told) (n m : Noted) → new ≡ old ++ us → l ≡ k → m ≡ n → (IsAmong f b us → ⊥) → Follows files f b k old n → Follows files f b l new m
  other_follows k l old new us n m is same stays apart so =
      subst (λ t. Follows files f b t new m) (sym same) (subst (Follows files f b k new) (sym stays) (subst (λ (ts : List Told). Follows files f b k ts n) (sym is) (apart_follows k old us n apart so)))

  -- ---- an Image of this block

  some_none : (x : BlockBytes) → Some x ≡ None → ⊥
  some_none x e = absurd cc

  image_follows : (i : ImageAt) (l : Bool) (old new : List Told) (n : Noted) → new ≡ old ++ replay_of (Changed i) → l ≡ true → is_at f b i.file i.block ≡ true → Follows files f b l new (noted_by f b true n (logged_at files (Changed i)))
  image_follows i l old new n is on at = subst (λ t. Follows files f b t new m) (sym on) (subst (λ (ts : List Told). Follows files f b true ts m) (sym is) (
    (λ none. some_none (after_in files i) (sym made ∙ none)),
    λ whole. record {
      block = after_in files i;
      made = made;
      noted = ap (λ t. cond t (record { stands = Some (after_in files i); named = n.named || true }) n) at ∙ (λ j. record { stands = Some (after_in files i); named = or_true n.named j });
      size = (whole_parts files old (replay_of (Changed i)) whole).1.0;
    },
  ))
    where
      m : Noted
      m = noted_by f b true n (logged_at files (Changed i))

      made : last_of files f b (old ++ replay_of (Changed i)) ≡ Some (after_in files i)
      made = on_append files f b None old (replay_of (Changed i)) ∙ ap (λ t. cond t (Some (after_in files i)) (last_of files f b old)) at

-- ---- a Range of this block, behind its Image

range_known : (files : Files) (r : RangeAt) (old : List Told) (n : Noted) → AreBlocks (old ++ replay_of (Ranged r)) → Follows files r.file r.block true old n
    → Follows files r.file r.block true (old ++ replay_of (Ranged r)) (noted_by r.file r.block true n (logged_at files (Ranged r)))
range_known files r old n blocks so = (
  (λ none. elim (option_cases (last_of files g k old)) [
    | inl nothing ↦ so.0 nothing
    | inr (x, is) ↦ some_on files g k x us (sym (ap (λ o. told_on files g k o us) is) ∙ sym (on_append files g k None old us) ∙ none)
  ]),
  λ whole.
      let parts = whole_parts files old us whole in
      let one = (blocks_parts old us blocks).1 in
      let w = so.1 parts.0 in
      let bytes = patch_in files r.patch in
      let within : r.patch.place + length bytes ≤ 1024 = omega (arith, one.0.2, parts.1.0) in
      record {
        block = patch_bytes r.patch.place bytes w.block;
        made = on_append files g k None old us ∙ ap (λ o. told_on files g k o us) w.made ∙ patches_on files g k w.block (r.patch ∷ []) w.size one parts.1;
        noted = ap (λ t. cond t (laid_over true r.patch.place bytes n) n) (here g k) ∙ ap (laid_over true r.patch.place bytes) w.noted;
        size = patched_length r.patch.place bytes w.block w.size within;
      },
)
  where
    g : ℕ
    g = r.file

    k : ℕ
    k = r.block

    us : List Told
    us = replay_of (Ranged r)

-- ---- one entry more

off_it : (t : Bool) (one n : Noted) → t ≡ false → cond t one n ≡ n
off_it t one n off = ap (λ u. cond u one n) off

-- what is known of a block before it is known behind it
abbrev pub FollowsOn : Files → LiveEntry → BTreeSet (ℕ × ℕ) → BTreeSet (ℕ × ℕ) → List Told → List Told → Noted → ℕ → ℕ → Type 0
FollowsOn files e before after old new n f b = Follows files f b (is_imaged before f b) old n → Follows files f b (is_imaged after f b) new (noted_by f b true n (logged_at files e))

pub follows_more : (files : Files) (e : LiveEntry) (before after : BTreeSet (ℕ × ℕ)) (old new : List Told) (n : Noted) (f b : ℕ) → Replays e before old after new → Follows files f b (is_imaged before f b) old n
    → Follows files f b (is_imaged after f b) new (noted_by f b true n (logged_at files e))
follows_more files (Changed i) before after old new n f b one so = elim (place_cases f b i.file i.block) [
  | inl at ↦ image_follows files f b i (is_imaged after f b) old new n one.added (one.images f b ∙ ap (λ t. t || is_imaged before f b) at.2) at.2
  | inr apart ↦
      other_follows files f b (is_imaged before f b) (is_imaged after f b) old new (replay_of (Changed i)) n _ one.added (one.images f b ∙ ap (λ t. t || is_imaged before f b) apart.1) (off_it (is_at f b i.file i.block) _ n apart.1)
      (λ among. elim among [ inl same ↦ apart.0 (sym same.0) (sym same.1) | inr none ↦ absurd none ]) so
]
follows_more files (Ranged r) before after old new n f b one so = elim (place_cases f b r.file r.block) [
  | inl at ↦ subst (λ h. FollowsOn files (Ranged r) before after old new n h b) at.0 (subst (λ j. FollowsOn files (Ranged r) before after old new n r.file j) at.1 this) so
  | inr apart ↦
      other_follows files f b (is_imaged before f b) (is_imaged after f b) old new (replay_of (Ranged r)) n _ one.added (one.images f b) (off_it (is_at f b r.file r.block) _ n apart.1)
      (λ among. elim among [ inl same ↦ apart.0 (sym same.0) (sym same.1) | inr none ↦ absurd none ]) so
]
  where
    this : FollowsOn files (Ranged r) before after old new n r.file r.block
    this so =
        subst (λ t. Follows files r.file r.block t new (noted_by r.file r.block true n (logged_at files (Ranged r)))) (sym (one.images r.file r.block ∙ one.behind))
        (subst (λ (ts : List Told). Follows files r.file r.block true ts (noted_by r.file r.block true n (logged_at files (Ranged r)))) (sym one.added)
        (range_known files r old n (subst AreBlocks one.added one.blocks) (subst (λ t. Follows files r.file r.block t old n) one.behind so)))
follows_more files (Quiet q) before after old new n f b one so = other_follows files f b (is_imaged before f b) (is_imaged after f b) old new [] n n one.added (one.images f b) refl (λ none. none) so
follows_more files (Controlled c) before after old new n f b one so = other_follows files f b (is_imaged before f b) (is_imaged after f b) old new [] n n one.added (one.images f b) refl (λ none. none) so

all_among_on : (es : List LiveEntry) (ts us : List Told) → AllAmong es ts → AllAmong es us → AllAmong es (ts ++ us)
all_among_on es [] us one two = two
all_among_on es (t ∷ ts) us one two = (one.0, all_among_on es ts us one.1 two)

replay_among : (es : List LiveEntry) (e : LiveEntry) → ((t : Told) → IsPiece e t → IsPieceAmong es t) → AllAmong es (replay_of e)
replay_among es (Changed i) of = (of _ (inl refl), tt)
replay_among es (Ranged r) of = (of _ refl, tt)
replay_among es (Quiet n) of = tt
replay_among es (Controlled c) of = tt

piece_of : (es : List LiveEntry) (i : ℕ) (t : Told) → i < length es → IsPiece (get_or es i no_entry) t → IsPieceAmong es t
piece_of es i t low is = piece_take (i + 1) es t (piece_here es i t low is)

-- from the place on
pub replays_more : (front : List LiveEntry) (from i : ℕ) (before after : BTreeSet (ℕ × ℕ)) (old new : List Told) → i < length front → from ≤ i → ReplaysSoFar front from i before old → Replays (get_or front i no_entry) before old after new → ReplaysSoFar front from (i + 1) after new
replays_more front from i before after old new low le so one = record {
  blocks = one.blocks;
  each = λ files f b. subst (Follows files f b (is_imaged after f b) new)
      (sym (front_more files from front i f b low ∙ ap (λ t. noted_by f b t (noted_front files from (take i front) f b) (logged_at files (get_or front i no_entry))) (from_now from i le)))
      (follows_more files (get_or front i no_entry) before after old new (noted_front files from (take i front) f b) f b one (so.each files f b));
  idle = λ early. absurd (omega (arith, early, le));
  among = subst (AllAmong front) (sym one.added) (all_among_on front old (replay_of (get_or front i no_entry)) so.among (replay_among front (get_or front i no_entry) (λ t is. piece_of front i t low is)));
}

unnamed_follows : (files : Files) (f b : ℕ) (k : Bool) (table : List Told) (n m : Noted) → k ≡ false → (n.named ≡ false → m.named ≡ false) → Follows files f b k table n → Follows files f b k table m
unnamed_follows files f b false table n m off still so = (so.0, still so.1)
unnamed_follows files f b true table n m off still so = absurd (true≢false off)

-- before it
pub replays_idle : (front : List LiveEntry) (from i : ℕ) (images : BTreeSet (ℕ × ℕ)) (table : List Told) → i < length front → i < from → ReplaysSoFar front from i images table → ReplaysSoFar front from (i + 1) images table
replays_idle front from i images table low early so =
    let none : (f b : ℕ) → is_imaged images f b ≡ false = so.idle (omega (arith, early)) in
    record {
      blocks = so.blocks;
      each = λ files f b.
          let x = logged_at files (get_or front i no_entry) in
          let n = noted_front files from (take i front) f b in
          unnamed_follows files f b (is_imaged images f b) table n _ (none f b)
          (λ off. ap (λ (m : Noted). m.named) (front_more files from front i f b low ∙ ap (λ t. noted_by f b t n x) (not_yet from i early)) ∙ unnamed_by f b n x off) (so.each files f b);
      idle = λ le f b. none f b;
      among = so.among;
    }

pub replays_none : (front : List LiveEntry) (from : ℕ) (images : BTreeSet (ℕ × ℕ)) (table : List Told) → table ≡ [] → ((f b : ℕ) → is_imaged images f b ≡ false) → ReplaysSoFar front from 0 images table
replays_none front from images table is none = record {
  blocks = subst AreBlocks (sym is) tt;
  each = λ files f b. subst (λ t. Follows files f b t table (noted_front files from [] f b)) (sym (none f b)) ((λ among. subst (λ (l : List Told). IsAmong f b l) is among), refl);
  idle = λ le. none;
  among = subst (AllAmong front) (sym is) tt;
}

-- an entry that is none of a block
pub entry_fault : (front : List LiveEntry) (i : ℕ) (e : AudFault) → i < length front → (e ≡ Memory) ⊎ HasNoBlock (get_or front i no_entry ∷ []) [] e → (e ≡ Memory) ⊎ HasNoBlock front [] e
entry_fault front i e low only = elim only [
  | inl memory ↦ inl memory
  | inr bad ↦ inr (record {
    told = bad.told;
    among = elim bad.among [ inl this ↦ elim this [ inl is ↦ inl (piece_of front i bad.told low is) | inr none ↦ absurd none ] | inr none ↦ absurd none ];
    is = bad.is;
  })
]

-- ---- all entries

told_follows : (files : Files) (f b : ℕ) (k : Bool) (table : List Told) (n : Noted) → Follows files f b k table n → AreWhole files table → last_of files f b table ≡ told_noted n
told_follows files f b false table n so whole = on_apart files f b None table so.0 ∙ sym (ap (λ t. undone_to (cond t (Some n.stands) None)) so.1)
told_follows files f b true table n so whole = let w = so.1 whole in w.made ∙ sym (ap told_noted w.noted)

some_follows : (files : Files) (f b : ℕ) (k : Bool) (table : List Told) (n : Noted) → Follows files f b k table n → IsAmong f b table → last_of files f b table ≡ None → ⊥
some_follows files f b false table n so among is = so.0 among
some_follows files f b true table n so among is = so.0 is

module _ (front : List LiveEntry) (from i : ℕ) (images : BTreeSet (ℕ × ℕ)) (table : List Told) (le : length front ≤ i) (so : ReplaysSoFar front from i images table) where
  pub replay_tells : (files : Files) → AreWhole files table → (f b : ℕ) → last_of files f b table ≡ told_noted (noted_front files from front f b)
  replay_tells files whole f b =
      told_follows files f b (is_imaged images f b) table (noted_front files from (take i front) f b) (so.each files f b) whole
      ∙ ap (λ (l : List LiveEntry). told_noted (noted_front files from l f b)) (take_all i front le)

  pub replay_some : (files : Files) (f b : ℕ) → IsAmong f b table → last_of files f b table ≡ None → ⊥
  replay_some files f b = some_follows files f b (is_imaged images f b) table (noted_front files from (take i front) f b) (so.each files f b)

pub replay_whole : (files : Files) (front : List LiveEntry) (ts : List Told) → AllStandWhole files front → AllAmong front ts → AreWhole files ts
replay_whole files front [] all among = tt
replay_whole files front (t ∷ ts) all among = (among_whole files front t all among.0, replay_whole files front ts all among.1)

-- ---- nothing was changed behind the point

still_undone : (files : Files) (f b : ℕ) (n : Noted) (es : List LiveEntry) → has_change es ≡ false → undone f b n (logged_live files es) ≡ n
still_undone files f b n [] off = refl
still_undone files f b n (Changed i ∷ es) off = absurd (true≢false off)
still_undone files f b n (Ranged r ∷ es) off = absurd (true≢false off)
still_undone files f b n (Quiet q ∷ es) off = still_undone files f b n es off
still_undone files f b n (Controlled c ∷ es) off = still_undone files f b n es off

pub all_is_front : (files : Files) (rows : List Row) (of_rows of_others : ℕ) (front behind : List LiveEntry) (f b : ℕ) → rows ≡ [] → has_change behind ≡ false → noted_front files of_others front f b ≡ noted_all files rows of_rows of_others front behind f b
all_is_front files rows of_rows of_others front behind f b none off =
    sym (still_undone files f b (noted_front files of_others front f b) behind off) ∙ ap (λ (l : List Row). noted_all files l of_rows of_others front behind f b) (sym none)

no_length : (n : ℕ) → true ≡ (n == 0) → n ≡ 0
no_length n is = grind (arith, nat_tests, is)

pub no_rows : (rows : List Row) → true ≡ (length rows == 0) → rows ≡ []
no_rows [] is = refl
no_rows (r ∷ rows) is = let none = no_length (length (r ∷ rows)) is in absurd (omega (arith, none))
