-- Files that hold a database are opened.
use Rattle.std.specs.Prelude.{◌&&◌, max, nat_lt, nat_le}
use Rattle.std.proofs.Common.{ℕ, ◌+◌, ◌<◌, ◌≤◌, ◌≡◌, ◌==◌, inl, inr, Bool, true, false, cond, List, [], ◌∷◌, Option, Some, None, length, refl, sym, ◌∙◌, ap, subst, arith}
use Rattle.std.proofs.lemmas.Bool.{cases_lt, true≢false}
use Rattle.std.proofs.lemmas.Bool.Decides.{nat_tests}
use Rattle.std.proofs.lemmas.Option.{none-some}
use Rattle.dms_site.specs.Files.{Files}
use Rattle.dms_history.specs.Events.{Event, How, halt_load, back_out, roll_back, rebuild, reconstruct}
use Rattle.dms_history.specs.Lists.{has, until_first}
use Rattle.dms_history.specs.Places.{is_point, is_described, IsLive}
use Rattle.dms_history.specs.History.{Pending, History, last_point}
use Rattle.dms_history.specs.Judge.{judge_point}
use Rattle.dms_history.specs.Entries.{Entry}
use Rattle.dms_history.specs.EntryEvents.{events, history_of, next_of}
use Rattle.dms_history.specs.Agrees.{Numbered}
use Rattle.dms_history.specs.LawsOfRestores.{PendingCut}
use Rattle.dms_history.specs.SchemaAt.{schema_at}
use Rattle.dms_history.proofs.Alone.{alone_events}
use Rattle.dms_history.proofs.HalfDone.{has_front, until_until}
use Rattle.dms_history.proofs.Judging.{each_judged}
use Rattle.dms_history.proofs.LastPending.{pending_cuts}
use Rattle.dms_history.proofs.Running.{above_all}
use Rattle.dms_audfile.specs.Header.{tag_said}
use Rattle.dms_audfile.specs.TrailEntries.{trail_entries}
use Rattle.dms_history.specs.Pick.{Dump, Dumps}
use Rattle.dms_dump.specs.Head.{Head, end_of, head_in}
use Rattle.dms_dump.specs.Body.{dump_of, dump_by_head, dump_with, no_dump}
use Rattle.dms_dump.specs.Judged.{dump_read, read_head, missing, unsealed, damaged, sealed}
use Rattle.dms_running.specs.FromDumps.{DumpInOrder, OrderBy, DumpsInOrder, dump_by}
use Rattle.dms_running.specs.Standing.{IsWhole}
use Rattle.dms_restore.specs.Dumped.{IsDumpFound, dumps_of}
use Rattle.dms_restore.specs.Logging.{telling_of}
use Rattle.dms_opening.specs.declared.asked.Asked.TheVariants.{HaltLoad}
use Rattle.dms_opening.specs.declared.asked.DumpLook.{DumpLook}
use Rattle.dms_opening.specs.declared.asked.DumpLook.TheVariants.{Sealed}
use Rattle.dms_opening.specs.declared.choosing.Choice.{Choice}
use Rattle.dms_opening.specs.Asked.{Refused, audit_before, dump_later, refused_at, or_next, judge_file, is_later, judge_last_point, judge_by_dump, judge_restore, judge_begun}
use Rattle.dms_opening.specs.Choices.{Chooses, judge_files}
use Rattle.dms_opening.specs.DumpLooks.{look_of, dump_at, dump_numbered, dump_begun}
use Rattle.dms_opening.specs.Plans.{HasNoDescription}
use Rattle.dms_opening.specs.Laws.{LastIsDescribed, WholeIsOpened}
use Rattle.dms_opening.proofs.DumpLooks.{at_read, own_look}

some_is : {A : Type 0} (x y : A) → Some x ≡ Some y → x ≡ y
some_is x y is = cc

-- a point that has its place is below the next number
below : (live : List Event) (next n : ℕ) → Numbered live next → has (is_point n) live ≡ true → n < next
below live next n numbered found = elim (cases_lt n next) [
  | inl less ↦ less
  | inr not ↦ absurd (true≢false (sym found ∙ above_all live next n numbered not))
]

-- a point that is live in what a cut leaves is live
live_uncut : (n m : ℕ) (es : List Event) → IsLive (until_first (is_point m) es) n → IsLive es n
live_uncut n m es lives = record {
  found = has_front (is_point m) (is_point n) es lives.found;
  described = ap (has is_described) (sym (until_until (is_point m) (is_point n) es lives.found)) ∙ lives.described;
}

-- ---- a restore whose dump is in order isn't refused

not_less : (a b : ℕ) → b ≤ a → nat_lt a b ≡ false
not_less a b le = grind (arith, nat_tests)

same_head : (k h : Head) → sealed k ≡ sealed h → k ≡ h
same_head k h is = cc

not_missing : (h : Head) → missing ≡ sealed h → ⊥
not_missing h is = absurd cc

not_unsealed : (h : Head) → unsealed ≡ sealed h → ⊥
not_unsealed h is = absurd cc

not_damaged : (h : Head) → damaged ≡ sealed h → ⊥
not_damaged h is = absurd cc

by_gate : (b : Bool) (o : Option Head) (h : Head) → cond b (read_head o) unsealed ≡ sealed h → o ≡ Some h
by_gate true (Some k) h is = ap (λ (x : Head). Some x) (same_head k h is)
by_gate true None h is = absurd (not_damaged h is)
by_gate false o h is = absurd (not_unsealed h is)

head_read : (file : List ℕ) (h : Head) → dump_read file ≡ sealed h → head_in file ≡ Some h
unfolding dump_read
head_read [] h is = absurd (not_missing h is)
head_read (gate ∷ rest) h is = by_gate (gate == 1) (head_in (gate ∷ rest)) h is

-- its point and its end are those in the file
module _ (files : Files) (d : ℕ) (h : Head) (some : 1 ≤ d) (few : d ≤ 9999) (is : dump_read (files (20000 + d)) ≡ sealed h) where
  low : nat_lt 0 d ≡ true
  low = grind (arith, nat_tests)

  high : nat_le d 10000 ≡ true
  high = grind (arith, nat_tests)

  dump_in_file : dumps_of files d ≡ dump_with h (files (20000 + d))
  unfolding dump_of
  dump_in_file =
      (λ i. cond (low i && high i) (dump_of (files (20000 + d))) no_dump) ∙ ap (λ (o : Option Head). dump_by_head o (files (20000 + d))) (head_read (files (20000 + d)) h is)

  pub dump_point : (dumps_of files d).point ≡ h.point
  dump_point = ap (λ (x : Dump). x.point) dump_in_file

  pub dump_end : (dumps_of files d).end ≡ end_of h
  dump_end = ap (λ (x : Dump). x.end) dump_in_file

dump_judged : (first next d : ℕ) (files : Files) (p : Pending) → judge_point p.entries next p.point ≡ None → p.point < next → DumpInOrder (IsDumpFound first files) (dumps_of files) p d
    → judge_by_dump first next d (look_of (tag_said (files first)) (dump_at files d)) p.entries p.point ≡ None
dump_judged first next d files p none below o =
    let f = o.is_found in
    let h : Head = f.head in
    let same : (dumps_of files d).point ≡ h.point = dump_point files d h f.some f.few f.read in
    let ends : (dumps_of files d).end ≡ end_of h = dump_end files d h f.some f.few f.read in
    let low : h.point ≤ p.point = omega (arith, o.point_low, same) in
    let end_low : end_of h ≤ p.point = omega (arith, o.end_low, ends) in
    let both_low : max h.point (end_of h) ≤ p.point = omega (arith, low, end_low) in
    let lives : IsLive p.entries h.point = subst (λ n. IsLive p.entries n) same o.point_lives in
    let end_lives : IsLive p.entries (end_of h) = subst (λ n. IsLive p.entries n) ends o.end_lives in
    let file : judge_file first d (Sealed h.point (end_of h) h.audit) ≡ None = ap (λ b. cond b (Some audit_before) None) (not_less (10000 + h.audit) first f.within) in
    let point : judge_point p.entries next h.point ≡ None = (each_judged p.entries next h.point).lives.1 (omega (arith, low, below), lives) in
    let end : judge_point p.entries next (end_of h) ≡ None = (each_judged p.entries next (end_of h)).lives.1 (omega (arith, end_low, below), end_lives) in
    let later : is_later d (max h.point (end_of h)) p.point ≡ None = ap (λ b. cond b (Some (dump_later d (max h.point (end_of h)))) None) (not_less p.point (max h.point (end_of h)) both_low) in
    ap (λ (l : DumpLook). judge_by_dump first next d l p.entries p.point) (ap (look_of (tag_said (files first))) (at_read files d f.some f.few ∙ f.read) ∙ own_look (tag_said (files first)) h f.tag_is)
    ∙ (λ i. or_next (file i) (or_next (refused_at p.point (none i)) (or_next (refused_at h.point (point i)) (or_next (refused_at (end_of h) (end i)) (later i)))))

restore_judged : (first next : ℕ) (files : Files) (p : Pending) (how : How) → judge_point p.entries next p.point ≡ None → p.point < next → OrderBy (IsDumpFound first files) (dumps_of files) p how
    → judge_restore first next how (look_of (tag_said (files first)) (dump_numbered files (dump_by how))) p.entries p.point ≡ None
restore_judged first next files p halt_load none below order = ap (refused_at p.point) none
restore_judged first next files p back_out none below order = ap (refused_at p.point) none
restore_judged first next files p roll_back none below order = ap (refused_at p.point) none
restore_judged first next files p (rebuild d) none below order = dump_judged first next d files p none below order
restore_judged first next files p (reconstruct d named) none below order = dump_judged first next d files p none below order

module _ (total first : ℕ) (files : Files) (whole : IsWhole (telling_of total first) files) (last : LastIsDescribed (trail_entries total first files)) where
  abbrev found_here : List Entry
  found_here = trail_entries total first files

  abbrev h : History
  h = history_of found_here

  abbrev next : ℕ
  next = next_of found_here

  cut_at : (p : Pending) → h.pending ≡ Some p → PendingCut (events found_here) p
  cut_at p is = pending_cuts (events found_here) p (alone_events found_here whole.stands.kept.alone) is

  last_judged : judge_last_point next h.live (last_point h) ≡ None
  last_judged =
      ap (judge_last_point next h.live) last.last
      ∙ ap (refused_at last.point) ((each_judged h.live next last.point).lives.1 (below h.live next last.point whole.stands.kept.numbered last.lives.found, last.lives))

  lives_at : (p : Pending) → h.pending ≡ Some p → IsLive h.live p.point
  lives_at p is = whole.stands.kept.steady.point_lives p is

  pending_judged : (p : Pending) → h.pending ≡ Some p → judge_point p.entries next p.point ≡ None
  pending_judged p is =
      let lives : IsLive h.live p.point = whole.stands.kept.steady.point_lives p is in
      let own : IsLive p.entries p.point = live_uncut p.point p.point p.entries (subst (λ (l : List Event). IsLive l p.point) (cut_at p is).cut lives) in
      (each_judged p.entries next p.point).lives.1 (below h.live next p.point whole.stands.kept.numbered lives.found, own)

  begun_judged : (q : Option Pending) → h.pending ≡ q → judge_begun first next q (look_of (tag_said (files first)) (dump_begun files q)) ≡ None
  begun_judged None is = refl
  begun_judged (Some p) is =
      restore_judged first next files p p.how (pending_judged p is) (below h.live next p.point whole.stands.kept.numbered (lives_at p is).found)
      (subst (λ (q : Option Pending). DumpsInOrder (IsDumpFound first files) (dumps_of files) q) is whole.order)

  pub judged : judge_files total first files HaltLoad ≡ None
  judged = λ i. or_next (begun_judged h.pending refl i) (last_judged i)

  same_point : (c : Choice) → Chooses (judge_files total first files HaltLoad) h HaltLoad [] c → c.point ≡ last.point
  same_point c chooses = by_kind c.begins refl
    where
      by_kind : (b : Bool) → c.begins ≡ b → c.point ≡ last.point
      by_kind true on = some_is c.point last.point (sym (chooses.is.new on).1 ∙ last.last)
      by_kind false off = sym chooses.is.point_is ∙ some_is chooses.restore.point last.point (sym (cut_at chooses.restore (chooses.is.goes_on off)).last ∙ last.last)

  described : HasNoDescription total first files HaltLoad → ⊥
  described none =
      let same : none.at.bytes ≡ last.bytes = some_is none.at.bytes last.bytes (sym none.at.schema_is ∙ ap (schema_at found_here) (same_point none.choice (none.chooses [])) ∙ last.schema_is) in
      elim none.at.none [
        | inl empty ↦ omega (arith, empty, ap length same, last.some)
        | inr many ↦ omega (arith, many, ap length same, last.few)
      ]

pub whole_is_opened : WholeIsOpened
whole_is_opened total first files fault whole last refuses = elim refuses [
  | inl disk ↦ inl disk
  | inr rest ↦ elim rest [
    | inl judged_so ↦ elim judged_so [
      | inl memory ↦ inr memory
      | inr refused ↦ absurd (none-some refused.refusal (sym (judged total first files whole last) ∙ refused.is))
    ]
    | inr none ↦ absurd (described total first files whole last none.1)
  ]
]
