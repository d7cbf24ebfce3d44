-- The counts of structure files, entry by entry.
use Rattle.std.specs.Prelude.{◌==◌, ◌||◌, if◌then◌else◌}
use Rattle.std.proofs.Common.{ℕ, zero, suc, ◌+◌, ◌-◌, ◌/◌, ◌≤◌, ◌<◌, ◌≡◌, ◌⊎◌, inl, inr, Bool, true, false, cond, IsTrue, List, [], ◌∷◌, ◌++◌, length, take, drop, get_or, refl, sym, ◌∙◌, ap, subst, arith, append_assoc, get_or-set_same, get_or-set_other}
use Rattle.std.proofs.Math.ListN.{set}
use Rattle.std.proofs.lemmas.Bool.{cases_lt, cases_eq}
use Rattle.std.proofs.lemmas.Bool.Decides.{nat_tests}
use Rattle.std.proofs.lemmas.List.{take-append-drop}
use Rattle.std.specs.Int.{w32, from_be_bytes}
use Rattle.dms_site.specs.Files.{Files, range}
use Rattle.dms_history.specs.declared.event.FileCount.{FileCount}
use Rattle.dms_history.specs.Lists.{has}
use Rattle.dms_history.specs.Places.{is_control}
use Rattle.dms_history.specs.Entries.{counts_in}
use Rattle.dms_history.specs.Pick.{reached_count}
use Rattle.dms_history.proofs.Counts.{reached_append, reached_any}
use Rattle.dms_history.proofs.Cuts.{to_end}
use Rattle.dms_audrec.specs.Reading.{counts_at}
use Rattle.dms_restore.specs.declared.live.LiveEntry.{LiveEntry}
use Rattle.dms_restore.specs.declared.live.LiveEntry.TheVariants.{Changed, Ranged, Quiet, Controlled}
use Rattle.dms_restore.specs.Counts.{count_of, AllAtMost}
use Rattle.dms_audrec.specs.Spelling.{counts_rise}
use Rattle.dms_audfile.specs.declared.fault.AudFault.{AudFault}
use Rattle.dms_audfile.specs.declared.fault.AudFault.TheVariants.{Disk, Memory}
use Rattle.dms_opening.specs.PointCounts.{IsNoCount, IsNoCountAmong}
use Rattle.dms_restore.specs.LiveEntries.{logged_at, logged_live, events_at}
use Rattle.dms_history.specs.Ranges.{is_control_logged}
use Rattle.dms_restore.proofs.Changes.{events_append, own_controls}
use Rattle.dms_restore.proofs.Spots.{no_entry, events_more}
use Rattle.dms_wal.proofs.Tabled.{count_low}

-- ---- one place of a table

high_count : (counts : List ℕ) (f : ℕ) → 30000 < f → count_of counts f ≡ get_or counts (f - 30001) 0
high_count counts f high = grind (arith, nat_tests, high)

pub count_set : (counts : List ℕ) (file n f : ℕ) → length counts ≡ 200 → 30001 ≤ file → file ≤ 30200 → count_of (set counts (file - 30001) n) f ≡ (if file == f then n else count_of counts f)
count_set counts file n f size low high = elim (cases_eq file f) [
  | inl same ↦
      let on : (file == f) ≡ true = grind (arith, nat_tests, same) in
      let at : f - 30001 ≡ file - 30001 = omega (arith, same) in
      let within : file - 30001 < length counts = omega (arith, size, low, high) in
      high_count (set counts (file - 30001) n) f (omega (arith, same, low)) ∙ ap (λ i. get_or (set counts (file - 30001) n) i 0) at ∙ get_or-set_same counts (file - 30001) n 0 within
      ∙ sym (ap (λ b. cond b n (count_of counts f)) on)
  | inr other ↦
      let off : (file == f) ≡ false = no_test file f other in
      sym (ap (λ b. cond b n (count_of counts f)) off ∙ sym (elim (cases_lt 30000 f) [
        | inl up ↦
            let apart : f - 30001 ≡ file - 30001 → ⊥ = λ e. other (omega (arith, e, up, low)) in
            high_count (set counts (file - 30001) n) f up ∙ get_or-set_other counts (file - 30001) (f - 30001) n 0 apart ∙ sym (high_count counts f up)
        | inr down ↦ count_low (set counts (file - 30001) n) f down ∙ sym (count_low counts f down)
      ]))
]
  where
    no_test : (m k : ℕ) → (m ≡ k → ⊥) → (m == k) ≡ false
    no_test m k other = grind (arith, nat_tests, other)

pub most_set : (counts : List ℕ) (file n : ℕ) → length counts ≡ 200 → 30001 ≤ file → file ≤ 30200 → n ≤ 2097152 → AllAtMost counts → AllAtMost (set counts (file - 30001) n)
most_set counts file n size low high few all f = subst (λ k. k ≤ 2097152) (sym (count_set counts file n f size low high)) (either (file == f))
  where
    either : (b : Bool) → cond b n (count_of counts f) ≤ 2097152
    either true = few
    either false = all f

pub none_counted : (counts : List ℕ) → ((i : ℕ) → get_or counts i 0 ≡ 0) → (f : ℕ) → count_of counts f ≡ 0
none_counted counts none f = elim (cases_lt 30000 f) [ inl up ↦ high_count counts f up ∙ none (f - 30001) | inr down ↦ count_low counts f down ]

-- ---- a list of counts

abbrev AllBelow : ℕ → List FileCount → Type 0
AllBelow low [] = Unit {0}
AllBelow low (c ∷ cs) = (c.file < low) × AllBelow low cs

below_more : (low more : ℕ) (cs : List FileCount) → low ≤ more → AllBelow low cs → AllBelow more cs
below_more low more [] le all = tt
below_more low more (c ∷ cs) le all = (omega (arith, le, all.0), below_more low more cs le all.1)

below_push : (low : ℕ) (cs : List FileCount) (c : FileCount) → AllBelow low cs → c.file < low → AllBelow low (cs ++ c ∷ [])
below_push low [] c all one = (one, tt)
below_push low (d ∷ cs) c all one = (all.0, below_push low cs c all.1 one)

-- a count behind those of lower files
said_push : (cs : List FileCount) (c : FileCount) (f : ℕ) → AllBelow c.file cs → counts_in (cs ++ c ∷ []) f ≡ (if c.file == f then c.blocks else counts_in cs f)
said_push [] c f all = refl
said_push (d ∷ cs) c f all = elim (cases_eq d.file f) [
  | inl same ↦
      let on : (d.file == f) ≡ true = same_test d.file f same in
      let off : (c.file == f) ≡ false = other_test c.file f (λ e. below d.file c.file f all.0 same e) in
      ap (λ b. cond b d.blocks (counts_in (cs ++ c ∷ []) f)) on
      ∙ sym (ap (λ b. cond b c.blocks (cond (d.file == f) d.blocks (counts_in cs f))) off ∙ ap (λ b. cond b d.blocks (counts_in cs f)) on)
  | inr other ↦
      let off : (d.file == f) ≡ false = other_test d.file f other in
      ap (λ b. cond b d.blocks (counts_in (cs ++ c ∷ []) f)) off ∙ said_push cs c f all.1 ∙ ap (λ k. cond (c.file == f) c.blocks k) (sym (ap (λ b. cond b d.blocks (counts_in cs f)) off))
]
  where
    same_test : (m k : ℕ) → m ≡ k → (m == k) ≡ true
    same_test m k same = grind (arith, nat_tests, same)

    other_test : (m k : ℕ) → (m ≡ k → ⊥) → (m == k) ≡ false
    other_test m k other = grind (arith, nat_tests, other)

    below : (a b k : ℕ) → a < b → a ≡ k → b ≡ k → ⊥
    below a b k less one two = omega (arith, less, one, two)

-- the first counts of a list are in the table, and k are still to be taken
pub record CountsTaken (list rest : List ℕ) (n k low : ℕ) (counts : List ℕ) : Type 0 where
  pub done : List FileCount
  pub are : counts_at n list ≡ done ++ counts_at k rest
  pub below : AllBelow low done
  pub from : 30001 ≤ low
  pub table : (f : ℕ) → count_of counts f ≡ counts_in done f
  pub small : AllAtMost counts

pub taken_none : (list : List ℕ) (n : ℕ) (counts : List ℕ) → ((i : ℕ) → get_or counts i 0 ≡ 0) → CountsTaken list list n n 30001 counts
taken_none list n counts none = record {
  done = [];
  are = refl;
  below = tt;
  from = omega arith;
  table = none_counted counts none;
  small = λ f. omega (arith, none_counted counts none f);
}

next_pair : (k : ℕ) (rest : List ℕ) → 0 < k → counts_at k rest ≡ (record { file = from_be_bytes w32 (take 4 rest); blocks = from_be_bytes w32 (take 4 (drop 4 rest)) }) ∷ counts_at (k - 1) (drop 8 rest)
unfolding counts_at
next_pair zero rest some = absurd (omega (arith, some))
next_pair (suc k) rest some = let e : suc k - 1 ≡ k = omega arith in ap (λ j. (let c : FileCount = record { file = from_be_bytes w32 (take 4 rest); blocks = from_be_bytes w32 (take 4 (drop 4 rest)) } in c) ∷ counts_at j (drop 8 rest)) (sym e)

pub taken_more : (list rest after : List ℕ) (n k low file blocks : ℕ) (counts : List ℕ) → length counts ≡ 200 → 0 < k → file ≡ from_be_bytes w32 (take 4 rest) → blocks ≡ from_be_bytes w32 (take 4 (drop 4 rest)) → after ≡ drop 8 rest
    → low ≤ file → file ≤ 30200 → blocks ≤ 2097152 → CountsTaken list rest n k low counts → CountsTaken list after n (k - 1) (file + 1) (set counts (file - 30001) blocks)
taken_more list rest after n k low file blocks counts size some one two behind le high few t =
    let c : FileCount = record { file = file; blocks = blocks } in
    let up : 30001 ≤ file = omega (arith, t.from, le) in
    record {
      done = t.done ++ c ∷ [];
      are = t.are ∙ ap (λ (l : List FileCount). t.done ++ l) (next_pair k rest some ∙ (λ i. (let d : FileCount = record { file = sym one i; blocks = sym two i } in d) ∷ counts_at (k - 1) (sym behind i)))
          ∙ sym (append_assoc t.done (c ∷ []) (counts_at (k - 1) after));
      below = below_push (file + 1) t.done c (below_more low (file + 1) t.done (omega (arith, le)) t.below) (omega arith);
      from = omega (arith, up);
      table = λ f. count_set counts file blocks f size up high ∙ ap (λ j. cond (file == f) blocks j) (t.table f) ∙ sym (said_push t.done c f (below_more low file t.done le t.below));
      small = most_set counts file blocks size up high few t.small;
    }

pub taken_all : (list rest : List ℕ) (n k low : ℕ) (counts : List ℕ) → k ≡ 0 → CountsTaken list rest n k low counts → (f : ℕ) → count_of counts f ≡ counts_in (counts_at n list) f
unfolding counts_at
taken_all list rest n zero low counts none t f = t.table f ∙ ap (λ (l : List FileCount). counts_in l f) (sym (t.are ∙ append_nothing t.done))
  where
    append_nothing : (xs : List FileCount) → xs ++ [] ≡ xs
    append_nothing [] = refl
    append_nothing (x ∷ xs) = ap (λ (l : List FileCount). x ∷ l) (append_nothing xs)
taken_all list rest n (suc k) low counts none t f = absurd (omega (arith, none))

-- ---- where to begin

drop_cons : (i : ℕ) (es : List LiveEntry) → i < length es → drop i es ≡ get_or es i no_entry ∷ drop (suc i) es
drop_cons i [] low = absurd (omega (arith, low))
drop_cons zero (e ∷ es) low = refl
drop_cons (suc i) (e ∷ es) low = drop_cons i es (omega (arith, low))

events_cut : (files : Files) (i : ℕ) (es : List LiveEntry) → events_at files es ≡ events_at files (take i es) ++ events_at files (drop i es)
events_cut files i es = ap (events_at files) (sym (take-append-drop i es)) ∙ events_append files (take i es) (drop i es)

pub from_control : (files : Files) (f i : ℕ) (es : List LiveEntry) → i < length es → is_control_logged (logged_at files (get_or es i no_entry)) ≡ true → reached_count f 0 (events_at files es) ≡ reached_count f 0 (events_at files (drop i es))
from_control files f i es low on =
    ap (reached_count f 0) (events_cut files i es) ∙ reached_append (events_at files (take i es)) (events_at files (drop i es)) f 0
    ∙ reached_any (events_at files (drop i es)) f (reached_count f 0 (events_at files (take i es))) 0 found
  where
    found : has is_control (events_at files (drop i es)) ≡ true
    found =
        sym (own_controls (logged_live files (drop i es))) ∙ ap (λ (l : List LiveEntry). has is_control_logged (logged_live files l)) (drop_cons i es low)
        ∙ (λ j. on j || has is_control_logged (logged_live files (drop (suc i) es)))

pub reached_more : (files other : Files) (es : List LiveEntry) (i f start old new : ℕ) → i < length es → other ≡ files → new ≡ reached_count f old (events_at other (get_or es i no_entry ∷ [])) → old ≡ reached_count f start (events_at files (take i es))
    → new ≡ reached_count f start (events_at files (take (i + 1) es))
reached_more files other es i f start old new low same step so_far =
    step ∙ (λ j. reached_count f (so_far j) (events_at (same j) (get_or es i no_entry ∷ [])))
    ∙ sym (ap (reached_count f start) (events_more files es i no_entry low) ∙ reached_append (events_at files (take i es)) (events_at files (get_or es i no_entry ∷ [])) f start)

-- ---- whether the counts rise

module _ (bytes : List ℕ) (file number : ℕ) (one : file ≡ from_be_bytes w32 (take 4 bytes)) (two : number ≡ from_be_bytes w32 (take 4 (drop 4 bytes))) where
  pub rises_on : (k low : ℕ) → 0 < k → low ≤ file → file ≤ 30200 → number ≤ 2097152 → counts_rise (file + 1) (counts_at (k - 1) (drop 8 bytes)) ≡ counts_rise low (counts_at k bytes)
  unfolding counts_at
  rises_on zero low some a b c = absurd (omega arith)
  rises_on (suc k) low some a b c = grind (arith, nat_tests, one, two)

  pub rises_not : (k low : ℕ) → 0 < k → (file < low) ⊎ ((30200 < file) ⊎ (2097152 < number)) → false ≡ counts_rise low (counts_at k bytes)
  unfolding counts_at
  rises_not zero low some bad = absurd (omega arith)
  rises_not (suc k) low some bad = grind (arith, nat_tests, one, two)

-- ---- where a count can't be known

split_entry : (es : List LiveEntry) (i : ℕ) → i < length es → es ≡ take i es ++ get_or es i no_entry ∷ drop (suc i) es
split_entry [] i low = absurd (omega (arith, low))
split_entry (e ∷ es) zero low = refl
split_entry (e ∷ es) (suc i) low = ap (λ (l : List LiveEntry). e ∷ l) (split_entry es i (omega (arith, low)))

no_count_as : (tells : Bool) (files other : Files) (e : LiveEntry) (fault : AudFault) → (IsTrue tells → other ≡ files) → IsNoCount tells other e fault → IsNoCount tells files e fault
no_count_as tells files other (Changed i) fault same none = none
no_count_as tells files other (Ranged r) fault same none = none
no_count_as tells files other (Quiet n) fault same none = none
no_count_as tells files other (Controlled c) fault same none = (
  none.0,
  elim none.1 [
    | inl long ↦ inl long
    | inr rest ↦ inr (elim rest [
      | inl far ↦ inl far
      | inr told ↦ inr (λ t. subst (λ (f : Files). (length (range c.at c.size (f c.audit)) < c.size) ⊎ (counts_rise 30001 (counts_at (c.size / 8) (range c.at c.size (f c.audit))) ≡ false)) (same t) (told t))
    ])
  ],
)

pub none_among : (tells : Bool) (files other : Files) (live : List LiveEntry) (i : ℕ) (fault : AudFault) → i < length live → (IsTrue tells → other ≡ files) → (fault ≡ Disk) ⊎ IsNoCount tells other (get_or live i no_entry) fault
    → (fault ≡ Disk) ⊎ IsNoCountAmong tells files live fault
none_among tells files other live i fault low same is = elim is [
  | inl disk ↦ inl disk
  | inr none ↦ inr (record { entry = get_or live i no_entry; before = take i live; after = drop (suc i) live; among = split_entry live i low; is = no_count_as tells files other (get_or live i no_entry) fault same none })
]

-- so it is among all of which they are the last ones
pub none_behind : (tells : Bool) (files : Files) (k : ℕ) (live : List LiveEntry) (fault : AudFault) → (fault ≡ Disk) ⊎ IsNoCountAmong tells files (take (length live - k) (drop k live)) fault → (fault ≡ Disk) ⊎ ((fault ≡ Memory) ⊎ IsNoCountAmong tells files live fault)
none_behind tells files k live fault is = elim is [
  | inl disk ↦ inl disk
  | inr none ↦ inr (inr (record {
    entry = none.entry;
    before = take k live ++ none.before;
    after = none.after;
    among = sym (take-append-drop k live) ∙ ap (λ (l : List LiveEntry). take k live ++ l) (sym (to_end k live) ∙ none.among) ∙ sym (append_assoc (take k live) none.before (none.entry ∷ none.after));
    is = none.is;
  }))
]

-- the counts of all entries, in a table that was copied
pub counted_all : (files : Files) (live : List LiveEntry) (k f : ℕ) (old new items : List ℕ) → items ≡ new → count_of new f ≡ reached_count f (count_of old f) (events_at files (take (length live - k) (drop k live))) → count_of old f ≡ 0
    → reached_count f 0 (events_at files live) ≡ reached_count f 0 (events_at files (drop k live)) → count_of items f ≡ reached_count f 0 (events_at files live)
counted_all files live k f old new items copied counted none from =
    ap (λ (l : List ℕ). count_of l f) copied ∙ counted ∙ ap (λ (l : List LiveEntry). reached_count f (count_of old f) (events_at files l)) (to_end k live) ∙ ap (λ n. reached_count f n (events_at files (drop k live))) none ∙ sym from

pub small_none : (old : List ℕ) → ((i : ℕ) → get_or old i 0 ≡ 0) → AllAtMost old
small_none old none f = omega (arith, none_counted old none f)

pub small_all : (new items : List ℕ) → items ≡ new → AllAtMost new → AllAtMost items
small_all new items copied small f = subst (λ (l : List ℕ). count_of l f ≤ 2097152) (sym copied) (small f)

-- so it is among all of which they are the first ones, in a list that was lent
pub none_in_front : (tells : Bool) (files : Files) (k : ℕ) (live lent : List LiveEntry) (fault : AudFault) → lent ≡ live → (fault ≡ Disk) ⊎ ((fault ≡ Memory) ⊎ IsNoCountAmong tells files (take k lent) fault)
    → (fault ≡ Disk) ⊎ ((fault ≡ Memory) ⊎ IsNoCountAmong tells files live fault)
none_in_front tells files k live lent fault same is = elim is [
  | inl disk ↦ inl disk
  | inr rest ↦ elim rest [
    | inl memory ↦ inr (inl memory)
    | inr none ↦ inr (inr (record {
      entry = none.entry;
      before = none.before;
      after = none.after ++ drop k live;
      among = sym (take-append-drop k live) ∙ ap (λ (l : List LiveEntry). l ++ drop k live) (ap (λ (l : List LiveEntry). take k l) (sym same) ∙ none.among) ∙ append_assoc none.before (none.entry ∷ none.after) (drop k live);
      is = none.is;
    }))
  ]
]
