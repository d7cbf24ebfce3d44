-- What a copied block makes of the file of a dump, at every moment and in the end.
use Rattle.std.proofs.Common.{ℕ, zero, suc, ◌+◌, ◌*◌, ◌-◌, ◌<◌, ◌≤◌, ◌≡◌, ◌≢◌, inl, inr, true, false, List, [], ◌∷◌, ◌++◌, length, take, drop, replicate, get_or, refl, sym, ◌∙◌, ap, subst, arith, append_assoc, append-nil, length-append}
use Rattle.std.proofs.lemmas.List.{drop_all, take_all}
use Rattle.dms_moments.specs.Moments.{Clock, Steps}
use Rattle.dms_moments.specs.MomentLaws.{steps_on, steps_weaken, runs_none}
use Rattle.dms_site.specs.Files.{Files, Left, with_file, overlay_bytes, pad_zeros, range, stored_of, Torn, OnDisk, Same}
use Rattle.dms_site.specs.Laws.{with_file_here, with_file_other, length-range}
use Rattle.dms_site.specs.StoredLaws.{stored_at, stored_range, stored_same}
use Rattle.std.specs.Prelude.{nat_le, ◌==◌, if◌then◌else◌}
use Rattle.std.proofs.lemmas.List.{take_more}
use Rattle.std.proofs.lemmas.Bool.{cases_eq, cases_lt}
use Rattle.std.proofs.lemmas.Bool.Decides.{nat_tests}
use Rattle.dms_history.specs.Events.{Stored}
use Rattle.dms_history.specs.Entries.{counts_in}
use Rattle.dms_history.specs.declared.event.FileCount.{FileCount}
use Rattle.dms_audrec.specs.Spelling.{counts_rise}
use Rattle.dms_dump.specs.Head.{Head, head_bytes, head_size, all_blocks}
use Rattle.dms_dump.specs.declared.fault.DumpFault.{DumpFault}
use Rattle.std.specs.Prelude.{IsTrue}
use Rattle.std.proofs.Common.{Bool}
use Rattle.dms_dump.specs.Body.{AllStored, file_bytes, body_bytes, dump_file}
use Rattle.dms_dump.proofs.HeadRead.{both, le_of, size_is}
use Rattle.dms_dump.proofs.Bodies.{WholeTo, EachWhole, file_size, body_size, file_same}
use Rattle.dms_dump.specs.Stops.{KeepsGate}
use Rattle.dms_dump.specs.Copying.{CopiesBehind, IsShortIn}

-- bytes that are written at a file's end stand behind it
pub overlay_end : (at : ℕ) (bytes file : List ℕ) → length file ≡ at → overlay_bytes at bytes file ≡ file ++ bytes
unfolding overlay_bytes pad_zeros
overlay_end at bytes file size =
    let none : at - length file ≡ 0 = omega (arith, size) in
    let pad : file ++ replicate (at - length file) 0 ≡ file = ap (λ n. file ++ replicate n 0) none ∙ append-nil file in
    let front : take at (file ++ replicate (at - length file) 0) ≡ file = ap (λ (l : List ℕ). take at l) pad ∙ take_all at file (omega (arith, size)) in
    let behind : drop (at + length bytes) file ≡ [] = drop_all (at + length bytes) file (omega (arith, size)) in
    (λ i. front i ++ bytes ++ behind i) ∙ append-nil (file ++ bytes)

pub copied_behind : (old new : Files) (f at : ℕ) (bytes : List ℕ) → new ≡ with_file old f (overlay_bytes at bytes (old f)) → CopiesBehind f at bytes old new
copied_behind old new f at bytes written size = ap (λ (l : Files). l f) written ∙ with_file_here old f (overlay_bytes at bytes (old f)) ∙ overlay_end at bytes (old f) size

-- a torn write behind the first byte keeps the gate
pub torn_keeps : (at n : ℕ) (old new : List ℕ) → 1 ≤ at → Torn at n old new → KeepsGate old new
torn_keeps at n old new behind torn = record { no_shorter = torn.no_shorter; gate = λ some. torn.below 0 some (omega (arith, behind)) }

pub keeps_refl : (l : List ℕ) → KeepsGate l l
keeps_refl l = record { no_shorter = omega arith; gate = λ some. refl }

pub keeps_then : (a b c : List ℕ) → KeepsGate a b → KeepsGate b c → KeepsGate a c
keeps_then a b c p q = record { no_shorter = omega (arith, p.no_shorter, q.no_shorter); gate = λ some. q.gate (omega (arith, some, p.no_shorter)) ∙ p.gate some }

disk_then : (f : ℕ) (a b c : Left) → OnDisk f KeepsGate a b → OnDisk f KeepsGate b c → OnDisk f KeepsGate a c
disk_then f a b c p q = record {
  files = record { here = keeps_then _ _ _ p.files.here q.files.here; others = λ g other. q.files.others g other ∙ p.files.others g other };
  said = q.said ∙ p.said;
}

disk_same : (f : ℕ) (a b : Left) → Same a b → OnDisk f KeepsGate a b
disk_same f a b same = subst (λ (z : Left). OnDisk f KeepsGate a z) (sym same) (record { files = record { here = keeps_refl (a.files f); others = λ g other. refl }; said = refl })

pub torn_steps : (f at n : ℕ) {a b : Clock Left} → 1 ≤ at → Steps (OnDisk f (Torn at n)) a b → Steps (OnDisk f KeepsGate) a b
torn_steps f at n behind steps = steps_weaken steps (λ x y was s. record { files = record { here = torn_keeps at n _ _ behind s.files.here; others = s.files.others }; said = s.said })

pub read_steps : (f : ℕ) {a b : Clock Left} → Steps Same a b → Steps (OnDisk f KeepsGate) a b
read_steps f steps = steps_weaken steps (λ x y was same. disk_same f x y same)

pub gate_on : (f : ℕ) {a b c : Clock Left} → Steps (OnDisk f KeepsGate) a b → Steps (OnDisk f KeepsGate) b c → Steps (OnDisk f KeepsGate) a c
gate_on f first after = steps_on first after (λ x y z was now r s. disk_then f x y z r s) (λ x y was r. r)

pub gate_none : (f : ℕ) (a : Clock Left) → Steps (OnDisk f KeepsGate) a a
gate_none f a = record { follows = λ x now. (x, now, disk_same f x x refl); runs = runs_none a _ }

-- ---- a whole block is read, and written behind

pub full_read : (n place : ℕ) (file buffer into : List ℕ) → length buffer ≡ 1024 → n ≡ 1024 → (n ≡ length (range place (length buffer) file)) × (into ≡ range place (length buffer) file ++ drop n buffer) → (into ≡ range place 1024 file) × (length into ≡ 1024)
full_read n place file buffer into room full read =
    let none : drop n buffer ≡ [] = drop_all n buffer (omega (arith, full, room)) in
    let is : into ≡ range place (length buffer) file = read.1 ∙ ap (λ (l : List ℕ). range place (length buffer) file ++ l) none ∙ append-nil (range place (length buffer) file) in
    (is ∙ ap (λ k. range place k file) room, omega (arith, ap length is, read.0, full))

pub short_read : (n place : ℕ) (file buffer : List ℕ) → length buffer ≡ 1024 → n ≢ 1024 → n ≡ length (range place (length buffer) file) → length (range place 1024 file) < 1024
short_read n place file buffer room other read =
    let e : n ≡ length (range place 1024 file) = read ∙ ap (λ k. length (range place k file)) room in
    omega (arith, e, other, length-range place 1024 file)

pub stored_read : (files : Files) (f b k place : ℕ) → 30000 < f → k ≡ b → place ≡ 1024 * k → range place 1024 (files f) ≡ stored_of files f b
stored_read files f b k place structure same is = ap (λ n. range n 1024 (files f)) (let e : place ≡ 1024 * b = omega (arith, same, is) in e) ∙ sym (stored_at files f b structure)

pub copy_is : (old mid new : Files) (f at : ℕ) (bytes stored : List ℕ) → mid ≡ old → bytes ≡ stored → new ≡ with_file mid f (overlay_bytes at bytes (mid f)) → CopiesBehind f at stored old new
copy_is old mid new f at bytes stored same is written size =
    copied_behind mid new f at bytes written (ap (λ (l : Files). length (l f)) same ∙ size) ∙ (λ i. same i f ++ is i)

-- ---- one block more, and one file more

-- structure files are the same where a file that is none was written
pub stored_other : (old mid : Files) (f g b : ℕ) → f ≤ 30000 → 30000 < g → ((h : ℕ) → h ≢ f → mid h ≡ old h) → stored_of mid g b ≡ stored_of old g b
stored_other old mid f g b no_structure structure others =
    let apart : g ≢ f = λ e. absurd (omega (arith, e, no_structure, structure)) in
    stored_range mid old g b (λ s. ap (λ (l : List ℕ). range (1024 * b) 1024 l) (others g apart))

file_more : (stored : Stored) (f b : ℕ) → file_bytes stored f (b + 1) ≡ file_bytes stored f b ++ stored f b
unfolding file_bytes
file_more stored f b = let e : b + 1 ≡ suc b = omega arith in ap (λ k. file_bytes stored f k) e

pub copies_none : (files : Files) (f at g : ℕ) → CopiesBehind f at (file_bytes (stored_of files) g 0) files files
unfolding file_bytes
copies_none files f at g size = sym (append-nil (files f))

pub whole_more : (stored : Stored) (f b : ℕ) → WholeTo stored f b → length (stored f b) ≡ 1024 → WholeTo stored f (b + 1)
whole_more stored f b whole one k low = elim (cases_lt k b) [
  | inl before ↦ whole k before
  | inr last ↦ let e : k ≡ b = omega (arith, low, last) in ap (λ n. length (stored f n)) e ∙ one
]

pub copies_on : (old mid new : Files) (f at place g b : ℕ) → f ≤ 30000 → 30000 < g → ((h : ℕ) → h ≢ f → mid h ≡ old h) → WholeTo (stored_of old) g b → place ≡ at + 1024 * b
    → CopiesBehind f at (file_bytes (stored_of old) g b) old mid → CopiesBehind f place (stored_of mid g b) mid new → CopiesBehind f at (file_bytes (stored_of old) g (b + 1)) old new
copies_on old mid new f at place g b no_structure structure others whole is done step size =
    let so : mid f ≡ old f ++ file_bytes (stored_of old) g b = done size in
    let long : length (mid f) ≡ place = omega (arith, ap length so, length-append (old f) (file_bytes (stored_of old) g b), size, is, file_size (stored_of old) g b whole) in
    step long ∙ (λ i. so i ++ stored_other old mid f g b no_structure structure others i) ∙ append_assoc (old f) (file_bytes (stored_of old) g b) (stored_of old g b) ∙ ap (λ (l : List ℕ). old f ++ l) (sym (file_more (stored_of old) g b))

-- files, one behind another

body_more : (stored : Stored) (xs : List FileCount) (x : FileCount) → body_bytes stored (xs ++ x ∷ []) ≡ body_bytes stored xs ++ file_bytes stored x.file x.blocks
body_more stored [] x = append-nil (file_bytes stored x.file x.blocks)
body_more stored (y ∷ ys) x = ap (λ (l : List ℕ). file_bytes stored y.file y.blocks ++ l) (body_more stored ys x) ∙ sym (append_assoc (file_bytes stored y.file y.blocks) (body_bytes stored ys) (file_bytes stored x.file x.blocks))

blocks_more : (xs : List FileCount) (x : FileCount) → all_blocks (xs ++ x ∷ []) ≡ all_blocks xs + x.blocks
blocks_more [] x = omega arith
blocks_more (y ∷ ys) x = omega (arith, blocks_more ys x)

each_more : (stored : Stored) (xs : List FileCount) (x : FileCount) → EachWhole stored xs → WholeTo stored x.file x.blocks → EachWhole stored (xs ++ x ∷ [])
each_more stored [] x whole one = (one, tt)
each_more stored (y ∷ ys) x whole one = (whole.0, each_more stored ys x whole.1 one)

-- one file more of a list
module _ (counts : List FileCount) (i : ℕ) (d : FileCount) (low : i < length counts) where
  pub body_on : (stored : Stored) → body_bytes stored (take (i + 1) counts) ≡ body_bytes stored (take i counts) ++ file_bytes stored (get_or counts i d).file (get_or counts i d).blocks
  body_on stored = ap (λ (l : List FileCount). body_bytes stored l) (take_more counts i d low) ∙ body_more stored (take i counts) (get_or counts i d)

  pub blocks_on : all_blocks (take (i + 1) counts) ≡ all_blocks (take i counts) + (get_or counts i d).blocks
  blocks_on = ap (λ (l : List FileCount). all_blocks l) (take_more counts i d low) ∙ blocks_more (take i counts) (get_or counts i d)

  pub each_on : (stored : Stored) → EachWhole stored (take i counts) → WholeTo stored (get_or counts i d).file (get_or counts i d).blocks → EachWhole stored (take (i + 1) counts)
  each_on stored whole one = subst (λ (l : List FileCount). EachWhole stored l) (sym (take_more counts i d low)) (each_more stored (take i counts) (get_or counts i d) whole one)

  pub copies_file : (old mid new : Files) (f at place : ℕ) → f ≤ 30000 → 30000 < (get_or counts i d).file → ((h : ℕ) → h ≢ f → mid h ≡ old h) → EachWhole (stored_of old) (take i counts) → place ≡ at + 1024 * all_blocks (take i counts)
      → CopiesBehind f at (body_bytes (stored_of old) (take i counts)) old mid → CopiesBehind f place (file_bytes (stored_of mid) (get_or counts i d).file (get_or counts i d).blocks) mid new
      → CopiesBehind f at (body_bytes (stored_of old) (take (i + 1) counts)) old new
  copies_file old mid new f at place no_structure structure others whole is done step size =
      let x = get_or counts i d in
      let front = body_bytes (stored_of old) (take i counts) in
      let so : mid f ≡ old f ++ front = done size in
      let long : length (mid f) ≡ place = omega (arith, ap length so, length-append (old f) front, size, is, body_size (stored_of old) (take i counts) whole) in
      let same : file_bytes (stored_of mid) x.file x.blocks ≡ file_bytes (stored_of old) x.file x.blocks = file_same (stored_of mid) (stored_of old) x.file (λ b. stored_other old mid f x.file b no_structure structure others) x.blocks in
      step long ∙ (λ k. so k ++ same k) ∙ append_assoc (old f) front (file_bytes (stored_of old) x.file x.blocks) ∙ ap (λ (l : List ℕ). old f ++ l) (sym (body_on (stored_of old)))

-- ---- bounds

pub rise_at : (low : ℕ) (cs : List FileCount) (i : ℕ) (d : FileCount) → counts_rise low cs ≡ true → i < length cs
    → (low ≤ (get_or cs i d).file) × ((get_or cs i d).blocks ≤ 2097152) × (counts_in cs (get_or cs i d).file ≡ (get_or cs i d).blocks)
rise_at low [] i d rises under = absurd (omega (arith, under))
rise_at low (c ∷ cs) zero d rises under =
    let one = both (nat_le low c.file) _ rises in
    let two = both (nat_le c.file 30200) _ one.1 in
    let three = both (nat_le c.blocks 2097152) _ two.1 in
    let itself : c.file ≡ c.file = refl in
    let on : (c.file == c.file) ≡ true = grind (arith, nat_tests, itself) in
    (le_of low c.file one.0, le_of c.blocks 2097152 three.0, ap (λ b. if b then c.blocks else counts_in cs c.file) on)
rise_at low (c ∷ cs) (suc i) d rises under =
    let one = both (nat_le low c.file) _ rises in
    let two = both (nat_le c.file 30200) _ one.1 in
    let three = both (nat_le c.blocks 2097152) _ two.1 in
    let rest = rise_at (c.file + 1) cs i d three.1 (omega (arith, under)) in
    let least = le_of low c.file one.0 in
    let apart : c.file ≢ (get_or cs i d).file = λ e. absurd (omega (arith, e, rest.0)) in
    let off : (c.file == (get_or cs i d).file) ≡ false = grind (arith, nat_tests, apart) in
    (omega (arith, rest.0, least), rest.1, ap (λ b. if b then c.blocks else counts_in cs (get_or cs i d).file) off ∙ rest.2)

pub few_blocks : (low : ℕ) (cs : List FileCount) (i : ℕ) → counts_rise low cs ≡ true → all_blocks (take i cs) ≤ 2097152 * i
few_blocks low cs zero rises = omega arith
few_blocks low [] (suc i) rises = omega arith
few_blocks low (c ∷ cs) (suc i) rises =
    let one = both (nat_le low c.file) _ rises in
    let two = both (nat_le c.file 30200) _ one.1 in
    let three = both (nat_le c.blocks 2097152) _ two.1 in
    omega (arith, le_of c.blocks 2097152 three.0, few_blocks (c.file + 1) cs i three.1)

-- blocks that are whole of each file of the list are all whole
pub all_from_each : (stored : Stored) (cs : List FileCount) → EachWhole stored cs → AllStored stored cs
all_from_each stored [] whole f b low = absurd (omega (arith, low))
all_from_each stored (c ∷ cs) whole f b low = elim (cases_eq c.file f) [
  | inl same ↦
      let on : (c.file == f) ≡ true = grind (arith, nat_tests, same) in
      let under : b < c.blocks = subst (λ k. b < k) (ap (λ t. if t then c.blocks else counts_in cs f) on) low in
      ap (λ k. length (stored k b)) (sym same) ∙ whole.0 b under
  | inr other ↦
      let off : (c.file == f) ≡ false = grind (arith, nat_tests, other) in
      all_from_each stored cs whole.1 f b (subst (λ k. b < k) (ap (λ t. if t then c.blocks else counts_in cs f) off) low)
]

pub whole_other : (old mid : Files) (f g n : ℕ) → f ≤ 30000 → 30000 < g → ((h : ℕ) → h ≢ f → mid h ≡ old h) → WholeTo (stored_of mid) g n → WholeTo (stored_of old) g n
whole_other old mid f g n no_structure structure others whole b low = ap length (sym (stored_other old mid f g b no_structure structure others)) ∙ whole b low

-- ---- the whole file

-- the head behind the gate, and all blocks behind the head
pub filled : (old mid new : Files) (f used : ℕ) (h : Head) (bytes : List ℕ) → f ≤ 30000 → used ≡ head_size h → bytes ≡ head_bytes h → mid ≡ with_file old f (overlay_bytes 1 bytes (old f)) → CopiesBehind f (1 + used) (body_bytes (stored_of mid) h.counts) mid new
    → old f ≡ 0 ∷ [] → new f ≡ dump_file 0 h (stored_of old)
unfolding dump_file
filled old mid new f used h bytes no_structure size is written copied start =
    let laid : mid f ≡ 0 ∷ head_bytes h = copied_behind old mid f 1 bytes written (ap length start) ∙ (λ i. start i ++ is i) in
    let others : (g : ℕ) → g ≢ f → mid g ≡ old g = λ g other. ap (λ (l : Files). l g) written ∙ with_file_other old f (overlay_bytes 1 bytes (old f)) g other in
    let long : length (mid f) ≡ 1 + used = omega (arith, ap length laid, size_is h, size) in
    let same : stored_of mid ≡ stored_of old = stored_same mid old (λ g structure. others g (λ e. absurd (omega (arith, e, no_structure, structure)))) in
    copied long ∙ (λ i. laid i ++ body_bytes (same i) h.counts)

pub stored_kept : (old mid : Files) (f : ℕ) → f ≤ 30000 → ((g : ℕ) → g ≢ f → mid g ≡ old g) → stored_of mid ≡ stored_of old
stored_kept old mid f no_structure others = stored_same mid old (λ g structure. others g (λ e. absurd (omega (arith, e, no_structure, structure))))

pub short_kept : (tells : Bool) (old mid : Files) (f : ℕ) (counts : List FileCount) (e : DumpFault) → f ≤ 30000 → (IsTrue tells → (g : ℕ) → g ≢ f → mid g ≡ old g) → IsShortIn tells mid counts e → IsShortIn tells old counts e
short_kept tells old mid f counts e no_structure others short =
    (short.0, short.1, short.2, short.3, (λ t. subst (λ (s : Stored). length (s short.0 short.1) < 1024) (stored_kept old mid f no_structure (others t)) (short.4 t)))

pub all_kept : (old mid : Files) (f : ℕ) (counts : List FileCount) → f ≤ 30000 → ((g : ℕ) → g ≢ f → mid g ≡ old g) → AllStored (stored_of mid) counts → AllStored (stored_of old) counts
all_kept old mid f counts no_structure others whole = subst (λ (s : Stored). AllStored s counts) (stored_kept old mid f no_structure others) whole

pub dump_shut : (h : Head) (stored : Stored) → dump_file 0 h stored ≡ 0 ∷ (head_bytes h ++ body_bytes stored h.counts)
unfolding dump_file
dump_shut h stored = refl

pub dump_open : (h : Head) (stored : Stored) → dump_file 1 h stored ≡ 1 ∷ (head_bytes h ++ body_bytes stored h.counts)
unfolding dump_file
dump_open h stored = refl

-- the whole dump, from files that differ only in the dump's own
pub dump_kept : (old mid : Files) (f : ℕ) (h : Head) → f ≤ 30000 → ((g : ℕ) → g ≢ f → mid g ≡ old g) → 1 ∷ (head_bytes h ++ body_bytes (stored_of mid) h.counts) ≡ dump_file 1 h (stored_of old)
dump_kept old mid f h no_structure others = sym (dump_open h (stored_of mid)) ∙ ap (λ (s : Stored). dump_file 1 h s) (stored_kept old mid f no_structure others)
