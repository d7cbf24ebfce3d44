-- An entry that is read is spelled so, and what is spelled so is read again.
use Rattle.std.proofs.Common.{◌≡◌, ℕ, zero, suc, ◌+◌, ◌*◌, ◌^◌, ◌<◌, ◌≤◌, Bool, true, cond, List, [], ◌∷◌, ◌++◌, length, take, drop, Option, Some, None, refl, sym, ap, subst, ◌∙◌, append_assoc, length-append, arith, inl, inr, ◌-◌}
use Rattle.std.specs.Prelude.{nat_le, nat_lt, ◌&&◌, ◌||◌, ◌==◌, IfSome}
use Rattle.std.specs.Int.{w16, w32, w64, to_be_bytes}
use Rattle.std.proofs.lemmas.Bool.{cases_eq}
use Rattle.std.proofs.lemmas.List.{take_at, drop_at}
use Rattle.std.proofs.lemmas.Bool.Decides.{nat_tests}
use Rattle.std.proofs.lemmas.Option.{cond_some}
use Rattle.dms_history.specs.Entries.{Entry, schema_part, image, byte_range, quiet_point, control_point, begin_restore, Kind, by_halt_load, by_back_out, by_roll_back, by_rebuild, by_reconstruct}
use Rattle.dms_history.specs.declared.event.FileCount.{FileCount}
use Rattle.dms_history.specs.declared.event.Row.{Row}
use Rattle.dms_audrec.specs.Spelling.{spelling, before_bytes, IsSchemaSpelled, IsImage, IsRange, IsControl, IsRestoreKind, IsEntry, counts_rise, rows_rise, how_number, dump_of, rows_of, pair_bytes, count_file, count_blocks, row_file, row_number, ArePairsSmall}
use Rattle.dms_fields.specs.Prefix.{byte_first, number_first, bytes_first}
use Rattle.dms_audrec.specs.Reading.{schema_at, before_at, image_at, range_fits, range_at, quiet_at, control_at, begin_at, entry_at, counts_at, rows_at, kind_of, kind_fits}
use Rattle.dms_audrec.specs.PairLaws.{counts_take, counts_length, counts_again, rows_take, rows_length, rows_again}
use Rattle.dms_fields.specs.PrefixLaws.{IsBytes, IsBytes-take, bind_some, TakesPrefix, takes_then, wide16, wide32, wide64, number_takes, number_again, bytes_takes, bytes_again}

-- from the front of bytes an entry behind its kind was read
pub record ReadsEntry (kind : ℕ) (bytes : List ℕ) (x : Entry × List ℕ) : Type 0 where
  pub parts : kind ∷ bytes ≡ spelling x.0 ++ x.1
  pub is : IsEntry x.0

pub quiet_takes : (bytes : List ℕ) (x : Entry × List ℕ) → IsBytes bytes → quiet_at bytes ≡ Some x → ReadsEntry 3 bytes x
unfolding quiet_at
quiet_takes bytes x fits e =
    let n = bind_some (number_first w64 bytes) (λ n. Some (quiet_point n.0, n.1)) x e in
    let t = number_takes w64 (2 ^ 64) wide64 bytes n.0 fits n.1 in
    let is : (quiet_point n.0.0, n.0.1) ≡ x = cc (n.2) in
    subst (λ x. ReadsEntry 3 bytes x) is (record { parts = ap (λ (l : List ℕ). 3 ∷ l) t.0.parts; is = t.1 })

abbrev schema_fits : ℕ → ℕ → ℕ → Bool
schema_fits part parts len = nat_le 1 part && nat_le part parts && (parts == part || len == 4000)

schema_test : (part parts len : ℕ) → schema_fits part parts len ≡ true → (1 ≤ part) × (part ≤ parts) × (part < parts → len ≡ 4000)
schema_test part parts len e = (grind (arith, nat_tests), grind (arith, nat_tests), λ less. grind (arith, nat_tests))

schema_tested : (part parts len : ℕ) → 1 ≤ part → part ≤ parts → (part < parts → len ≡ 4000) → schema_fits part parts len ≡ true
schema_tested part parts len some within full = elim (cases_eq parts part) [
  | inl is ↦ grind (arith, nat_tests)
  | inr other ↦ let e : len ≡ 4000 = full (omega arith) in grind (arith, nat_tests)
]

schema_from : (bytes : List ℕ) (part parts len : ℕ × List ℕ) (text : List ℕ × List ℕ) (x : Entry × List ℕ) → IsBytes bytes
    → number_first w16 bytes ≡ Some part → number_first w16 part.1 ≡ Some parts → number_first w16 parts.1 ≡ Some len → bytes_first len.0 len.1 ≡ Some text
    → cond (schema_fits part.0 parts.0 len.0) (Some (schema_part part.0 parts.0 text.0, text.1)) None ≡ Some x → ReadsEntry 1 bytes x
schema_from bytes part parts len text x fits e1 e2 e3 e4 e5 =
    let a = number_takes w16 (2 ^ 16) wide16 bytes part fits e1 in
    let b = number_takes w16 (2 ^ 16) wide16 part.1 parts a.0.rest_fits e2 in
    let c = number_takes w16 (2 ^ 16) wide16 parts.1 len b.0.rest_fits e3 in
    let d = bytes_takes len.0 len.1 text c.0.rest_fits e4 in
    let g = cond_some (schema_fits part.0 parts.0 len.0) (schema_part part.0 parts.0 text.0, text.1) x e5 in
    let t = schema_test part.0 parts.0 len.0 g.0 in
    let whole = takes_then bytes _ _ _ _ (takes_then bytes _ _ _ _ (takes_then bytes _ _ _ _ a.0 b.0) c.0) d.0 in
    let p = to_be_bytes w16 part.0 in
    let q = to_be_bytes w16 parts.0 in
    let size : to_be_bytes w16 len.0 ≡ to_be_bytes w16 (length text.0) = ap (λ k. to_be_bytes w16 k) (sym d.1) in
    subst (λ x. ReadsEntry 1 bytes x) g.1 (record {
      parts = ap (λ (l : List ℕ). 1 ∷ l) (whole.parts
          ∙ ap (λ (l : List ℕ). l ++ text.1) (append_assoc (p ++ q) (to_be_bytes w16 len.0) text.0 ∙ append_assoc p q (to_be_bytes w16 len.0 ++ text.0)
          ∙ ap (λ (l : List ℕ). p ++ (q ++ (l ++ text.0))) size));
      is = record { some = t.0; within = t.1; small = b.1; short = subst (λ k. k < 2 ^ 16) (sym d.1) c.1; full = λ less. d.1 ∙ t.2 less };
    })

pub schema_takes : (bytes : List ℕ) (x : Entry × List ℕ) → IsBytes bytes → schema_at bytes ≡ Some x → ReadsEntry 1 bytes x
unfolding schema_at
schema_takes bytes x fits e =
    let (part, e1, r1) = bind_some (number_first w16 bytes) _ x e in
    let (parts, e2, r2) = bind_some (number_first w16 part.1) _ x r1 in
    let (len, e3, r3) = bind_some (number_first w16 parts.1) _ x r2 in
    let (text, e4, r4) = bind_some (bytes_first len.0 len.1) _ x r3 in
    schema_from bytes part parts len text x fits e1 e2 e3 e4 r4

pub schema_again : (part parts : ℕ) (text rest : List ℕ) → IsSchemaSpelled part parts text
    → schema_at ((to_be_bytes w16 part ++ (to_be_bytes w16 parts ++ (to_be_bytes w16 (length text) ++ text))) ++ rest) ≡ Some (schema_part part parts text, rest)
unfolding schema_at
schema_again part parts text rest is =
    let p = to_be_bytes w16 part in
    let q = to_be_bytes w16 parts in
    let l = to_be_bytes w16 (length text) in
    let e : (p ++ (q ++ (l ++ text))) ++ rest ≡ p ++ (q ++ (l ++ (text ++ rest))) = append_assoc p (q ++ (l ++ text)) rest ∙ ap (λ (t : List ℕ). p ++ t) (append_assoc q (l ++ text) rest ∙ ap (λ (t : List ℕ). q ++ t) (append_assoc l text rest)) in
    ap schema_at e ∙
    rw (
      number_again w16 (2 ^ 16) wide16 part (q ++ (l ++ (text ++ rest))) (omega (arith, is.within, is.small)),
      number_again w16 (2 ^ 16) wide16 parts (l ++ (text ++ rest)) is.small,
      number_again w16 (2 ^ 16) wide16 (length text) (text ++ rest) (omega (arith, is.short)),
      bytes_again (length text) text rest refl,
      schema_tested part parts (length text) is.some is.within is.full,
    ) refl

before_takes : (bytes : List ℕ) (x : Option (List ℕ) × List ℕ) → IsBytes bytes → before_at bytes ≡ Some x → TakesPrefix bytes (before_bytes x.0) x.1 × IfSome x.0 (λ b. length b ≡ 1024)
unfolding before_at
before_takes [] x fits e = absurd cc
before_takes (zero ∷ rest) x fits e =
    let is : (None, rest) ≡ x = cc e in
    subst (λ (x : Option (List ℕ) × List ℕ). TakesPrefix (0 ∷ rest) (before_bytes x.0) x.1 × IfSome x.0 (λ b. length b ≡ 1024)) is (record { parts = refl; rest_fits = λ i. fits (suc i) }, tt)
before_takes (suc zero ∷ rest) x fits e =
    let (bytes, e1, r1) = bind_some (bytes_first 1024 rest) _ x e in
    let is : (Some bytes.0, bytes.1) ≡ x = cc r1 in
    let t = bytes_takes 1024 rest bytes (λ i. fits (suc i)) e1 in
    subst (λ (x : Option (List ℕ) × List ℕ). TakesPrefix (1 ∷ rest) (before_bytes x.0) x.1 × IfSome x.0 (λ b. length b ≡ 1024)) is (record { parts = ap (λ (l : List ℕ). 1 ∷ l) t.0.parts; rest_fits = t.0.rest_fits }, t.1)
before_takes (suc (suc b) ∷ rest) x fits e = absurd cc

before_again : (before : Option (List ℕ)) (rest : List ℕ) → IfSome before (λ b. length b ≡ 1024) → before_at (before_bytes before ++ rest) ≡ Some (before, rest)
unfolding before_at
before_again None rest size = refl
before_again (Some bytes) rest size = rw (bytes_again 1024 bytes rest size) refl

abbrev image_fits : ℕ → ℕ → Bool
image_fits file block = nat_le 30001 file && nat_le file 30200 && nat_lt block 2097152

image_test : (file block : ℕ) → image_fits file block ≡ true → (30001 ≤ file) × (file ≤ 30200) × (block < 2097152)
image_test file block e = (grind (arith, nat_tests), grind (arith, nat_tests), grind (arith, nat_tests))

image_tested : (file block : ℕ) → 30001 ≤ file → file ≤ 30200 → block < 2097152 → image_fits file block ≡ true
image_tested file block low high place = grind (arith, nat_tests)

image_from : (bytes : List ℕ) (file block : ℕ × List ℕ) (before : Option (List ℕ) × List ℕ) (after : List ℕ × List ℕ) (x : Entry × List ℕ) → IsBytes bytes
    → number_first w32 bytes ≡ Some file → number_first w32 file.1 ≡ Some block → before_at block.1 ≡ Some before → bytes_first 1024 before.1 ≡ Some after
    → cond (image_fits file.0 block.0) (Some (image file.0 block.0 before.0 after.0, after.1)) None ≡ Some x → ReadsEntry 2 bytes x
image_from bytes file block before after x fits e1 e2 e3 e4 e5 =
    let a = number_takes w32 (2 ^ 32) wide32 bytes file fits e1 in
    let b = number_takes w32 (2 ^ 32) wide32 file.1 block a.0.rest_fits e2 in
    let c = before_takes block.1 before b.0.rest_fits e3 in
    let d = bytes_takes 1024 before.1 after c.0.rest_fits e4 in
    let g = cond_some (image_fits file.0 block.0) (image file.0 block.0 before.0 after.0, after.1) x e5 in
    let t = image_test file.0 block.0 g.0 in
    let whole = takes_then bytes _ _ _ _ (takes_then bytes _ _ _ _ (takes_then bytes _ _ _ _ a.0 b.0) c.0) d.0 in
    let p = to_be_bytes w32 file.0 in
    let q = to_be_bytes w32 block.0 in
    subst (λ x. ReadsEntry 2 bytes x) g.1 (record {
      parts = ap (λ (l : List ℕ). 2 ∷ l) (whole.parts
          ∙ ap (λ (l : List ℕ). l ++ after.1) (append_assoc (p ++ q) (before_bytes before.0) after.0 ∙ append_assoc p q (before_bytes before.0 ++ after.0)));
      is = record { low = t.0; high = t.1; place = t.2; old_size = c.1; new_size = d.1 };
    })

pub image_takes : (bytes : List ℕ) (x : Entry × List ℕ) → IsBytes bytes → image_at bytes ≡ Some x → ReadsEntry 2 bytes x
unfolding image_at
image_takes bytes x fits e =
    let (file, e1, r1) = bind_some (number_first w32 bytes) _ x e in
    let (block, e2, r2) = bind_some (number_first w32 file.1) _ x r1 in
    let (before, e3, r3) = bind_some (before_at block.1) _ x r2 in
    let (after, e4, r4) = bind_some (bytes_first 1024 before.1) _ x r3 in
    image_from bytes file block before after x fits e1 e2 e3 e4 r4

image_again : (file block : ℕ) (before : Option (List ℕ)) (after rest : List ℕ) → IsImage file block before after
    → image_at ((to_be_bytes w32 file ++ (to_be_bytes w32 block ++ (before_bytes before ++ after))) ++ rest) ≡ Some (image file block before after, rest)
unfolding image_at
image_again file block before after rest is =
    let p = to_be_bytes w32 file in
    let q = to_be_bytes w32 block in
    let l = before_bytes before in
    let e : (p ++ (q ++ (l ++ after))) ++ rest ≡ p ++ (q ++ (l ++ (after ++ rest))) = append_assoc p (q ++ (l ++ after)) rest ∙ ap (λ (t : List ℕ). p ++ t) (append_assoc q (l ++ after) rest ∙ ap (λ (t : List ℕ). q ++ t) (append_assoc l after rest)) in
    ap image_at e ∙
    rw (
      number_again w32 (2 ^ 32) wide32 file (q ++ (l ++ (after ++ rest))) (omega (arith, is.high)),
      number_again w32 (2 ^ 32) wide32 block (l ++ (after ++ rest)) (omega (arith, is.place)),
      before_again before (after ++ rest) is.old_size,
      bytes_again 1024 after rest is.new_size,
      image_tested file block is.low is.high is.place,
    ) refl

quiet_again : (n : ℕ) (rest : List ℕ) → n < 2 ^ 64 → quiet_at (to_be_bytes w64 n ++ rest) ≡ Some (quiet_point n, rest)
unfolding quiet_at
quiet_again n rest small = rw (number_again w64 (2 ^ 64) wide64 n rest small) refl

-- ---- Control

front_fits : (whole text rest : List ℕ) → whole ≡ text ++ rest → IsBytes whole → IsBytes text
front_fits whole text rest is fits =
    let e : take (length text) whole ≡ text = ap (λ (l : List ℕ). take (length text) l) is ∙ take_at text rest (length text) refl in
    subst (λ (l : List ℕ). IsBytes l) e (IsBytes-take (length text) whole fits)

control_from : (bytes : List ℕ) (n next files : ℕ × List ℕ) (list : List ℕ × List ℕ) (x : Entry × List ℕ) → IsBytes bytes
    → number_first w64 bytes ≡ Some n → number_first w64 n.1 ≡ Some next → number_first w16 next.1 ≡ Some files → bytes_first (8 * files.0) files.1 ≡ Some list
    → cond (counts_rise 30001 (counts_at files.0 list.0)) (Some (control_point n.0 next.0 (counts_at files.0 list.0), list.1)) None ≡ Some x → ReadsEntry 4 bytes x
control_from bytes n next files list x fits e1 e2 e3 e4 e5 =
    let a = number_takes w64 (2 ^ 64) wide64 bytes n fits e1 in
    let b = number_takes w64 (2 ^ 64) wide64 n.1 next a.0.rest_fits e2 in
    let c = number_takes w16 (2 ^ 16) wide16 next.1 files b.0.rest_fits e3 in
    let d = bytes_takes (8 * files.0) files.1 list c.0.rest_fits e4 in
    let cs = counts_at files.0 list.0 in
    let ps = counts_take files.0 list.0 d.1 (front_fits files.1 list.0 list.1 d.0.parts c.0.rest_fits) in
    let g = cond_some (counts_rise 30001 cs) (control_point n.0 next.0 cs, list.1) x e5 in
    let whole = takes_then bytes _ _ _ _ (takes_then bytes _ _ _ _ (takes_then bytes _ _ _ _ a.0 b.0) c.0) d.0 in
    let p = to_be_bytes w64 n.0 in
    let q = to_be_bytes w64 next.0 in
    let r = to_be_bytes w16 files.0 in
    let size : r ≡ to_be_bytes w16 (length cs) = ap (λ k. to_be_bytes w16 k) (sym ps.many) in
    let spelled : list.0 ≡ pair_bytes count_file count_blocks cs = sym ps.spelled in
    subst (λ x. ReadsEntry 4 bytes x) g.1 (record {
      parts = ap (λ (l : List ℕ). 4 ∷ l) (whole.parts
          ∙ ap (λ (l : List ℕ). l ++ list.1) (append_assoc (p ++ q) r list.0 ∙ append_assoc p q (r ++ list.0)
          ∙ (λ i. p ++ (q ++ (size i ++ spelled i)))));
      is = record { number = a.1; next_number = b.1; few = subst (λ k. k < 2 ^ 16) (sym ps.many) c.1; rising = g.0; small = ps.small };
    })

pub control_takes : (bytes : List ℕ) (x : Entry × List ℕ) → IsBytes bytes → control_at bytes ≡ Some x → ReadsEntry 4 bytes x
unfolding control_at
control_takes bytes x fits e =
    let (n, e1, r1) = bind_some (number_first w64 bytes) _ x e in
    let (next, e2, r2) = bind_some (number_first w64 n.1) _ x r1 in
    let (files, e3, r3) = bind_some (number_first w16 next.1) _ x r2 in
    let (list, e4, r4) = bind_some (bytes_first (8 * files.0) files.1) _ x r3 in
    control_from bytes n next files list x fits e1 e2 e3 e4 r4

control_again : (n next : ℕ) (cs : List FileCount) (rest : List ℕ) → IsControl n next cs
    → control_at ((to_be_bytes w64 n ++ (to_be_bytes w64 next ++ (to_be_bytes w16 (length cs) ++ pair_bytes count_file count_blocks cs))) ++ rest) ≡ Some (control_point n next cs, rest)
unfolding control_at
control_again n next cs rest is =
    let p = to_be_bytes w64 n in
    let q = to_be_bytes w64 next in
    let r = to_be_bytes w16 (length cs) in
    let l = pair_bytes count_file count_blocks cs in
    let e : (p ++ (q ++ (r ++ l))) ++ rest ≡ p ++ (q ++ (r ++ (l ++ rest))) = append_assoc p (q ++ (r ++ l)) rest ∙ ap (λ (t : List ℕ). p ++ t) (append_assoc q (r ++ l) rest ∙ ap (λ (t : List ℕ). q ++ t) (append_assoc r l rest)) in
    ap control_at e ∙
    rw (
      number_again w64 (2 ^ 64) wide64 n (q ++ (r ++ (l ++ rest))) is.number,
      number_again w64 (2 ^ 64) wide64 next (r ++ (l ++ rest)) is.next_number,
      number_again w16 (2 ^ 16) wide16 (length cs) (l ++ rest) is.few,
      bytes_again (8 * length cs) l rest (counts_length cs),
      counts_again cs is.small,
      is.rising,
    ) refl

-- ---- Begin

byte_takes : (bytes : List ℕ) (x : ℕ × List ℕ) → IsBytes bytes → byte_first bytes ≡ Some x → TakesPrefix bytes (x.0 ∷ []) x.1
byte_takes [] x fits e = absurd cc
byte_takes (b ∷ bs) x fits e =
    let is : (b, bs) ≡ x = cc e in
    subst (λ (x : ℕ × List ℕ). TakesPrefix (b ∷ bs) (x.0 ∷ []) x.1) is (record { parts = refl; rest_fits = λ i. fits (suc i) })

record KindIs (how d : ℕ) (rows : List Row) (kind : Kind) : Type 0 where
  number : how_number kind ≡ how
  dump : dump_of kind ≡ d
  named : rows_of kind ≡ rows
  is : IsRestoreKind kind

module _ (d : ℕ) where
  by_audit : (how : ℕ) (kind : Kind) → how_number kind ≡ how → dump_of kind ≡ 0 → rows_of kind ≡ [] → IsRestoreKind kind → (rows : List Row) → ((length rows == 0) && (d == 0)) ≡ true → KindIs how d rows kind
  by_audit how kind number none empty is [] e = record { number = number; dump = none ∙ grind (arith, nat_tests); named = empty; is = is }
  by_audit how kind number none empty is (r ∷ rs) e = absurd (grind (arith, nat_tests))

  by_dump : (rows : List Row) → ((length rows == 0) && (nat_le 1 d && nat_le d 9999)) ≡ true → KindIs 4 d rows (by_rebuild d)
  by_dump [] e = record { number = refl; dump = refl; named = refl; is = (grind (arith, nat_tests), grind (arith, nat_tests)) }
  by_dump (r ∷ rs) e = absurd (grind (arith, nat_tests))

  by_rows : (rows : List Row) → (nat_le 1 d && (nat_le d 9999 && rows_rise 0 rows)) ≡ true → length rows < 2 ^ 16 → ArePairsSmall row_file row_number rows → KindIs 5 d rows (by_reconstruct d rows)
  by_rows rows e few small = record {
    number = refl;
    dump = refl;
    named = refl;
    is = ((grind (arith, nat_tests), grind (arith, nat_tests)), record { few = few; rising = grind (arith, nat_tests); small = small });
  }

kind_test : (how d : ℕ) (rows : List Row) → kind_fits how d rows ≡ true → length rows < 2 ^ 16 → ArePairsSmall row_file row_number rows → KindIs how d rows (kind_of how d rows)
kind_test how d rows e few small = elim (cases_eq how 1) [
  | inl is ↦ subst (λ h. kind_fits h d rows ≡ true → KindIs h d rows (kind_of h d rows)) (sym is) (λ t. by_audit d 1 by_halt_load refl refl refl tt rows t) e
  | inr not_one ↦ elim (cases_eq how 2) [
    | inl is ↦ subst (λ h. kind_fits h d rows ≡ true → KindIs h d rows (kind_of h d rows)) (sym is) (λ t. by_audit d 2 by_back_out refl refl refl tt rows t) e
    | inr not_two ↦ elim (cases_eq how 3) [
      | inl is ↦ subst (λ h. kind_fits h d rows ≡ true → KindIs h d rows (kind_of h d rows)) (sym is) (λ t. by_audit d 3 by_roll_back refl refl refl tt rows t) e
      | inr not_three ↦ elim (cases_eq how 4) [
        | inl is ↦ subst (λ h. kind_fits h d rows ≡ true → KindIs h d rows (kind_of h d rows)) (sym is) (λ t. by_dump d rows t) e
        | inr not_four ↦ elim (cases_eq how 5) [
          | inl is ↦ subst (λ h. kind_fits h d rows ≡ true → KindIs h d rows (kind_of h d rows)) (sym is) (λ t. by_rows d rows t few small) e
          | inr not_five ↦ absurd (other not_one not_two not_three not_four not_five)
        ]
      ]
    ]
  ]
]
  where
    other : (how ≡ 1 → ⊥) → (how ≡ 2 → ⊥) → (how ≡ 3 → ⊥) → (how ≡ 4 → ⊥) → (how ≡ 5 → ⊥) → ⊥
    other a b c d f = grind (arith, nat_tests)

begin_from : (bytes : List ℕ) (n how dump rows : ℕ × List ℕ) (list : List ℕ × List ℕ) (x : Entry × List ℕ) → IsBytes bytes
    → number_first w64 bytes ≡ Some n → byte_first n.1 ≡ Some how → number_first w16 how.1 ≡ Some dump → number_first w16 dump.1 ≡ Some rows → bytes_first (8 * rows.0) rows.1 ≡ Some list
    → cond (kind_fits how.0 dump.0 (rows_at rows.0 list.0)) (Some (begin_restore n.0 (kind_of how.0 dump.0 (rows_at rows.0 list.0)), list.1)) None ≡ Some x → ReadsEntry 5 bytes x
begin_from bytes n how dump rows list x fits e1 e2 e3 e4 e5 e6 =
    let a = number_takes w64 (2 ^ 64) wide64 bytes n fits e1 in
    let b = byte_takes n.1 how a.0.rest_fits e2 in
    let c = number_takes w16 (2 ^ 16) wide16 how.1 dump b.rest_fits e3 in
    let d = number_takes w16 (2 ^ 16) wide16 dump.1 rows c.0.rest_fits e4 in
    let f = bytes_takes (8 * rows.0) rows.1 list d.0.rest_fits e5 in
    let rs = rows_at rows.0 list.0 in
    let kind = kind_of how.0 dump.0 rs in
    let ps = rows_take rows.0 list.0 f.1 (front_fits rows.1 list.0 list.1 f.0.parts d.0.rest_fits) in
    let g = cond_some (kind_fits how.0 dump.0 rs) (begin_restore n.0 kind, list.1) x e6 in
    let t = kind_test how.0 dump.0 rs g.0 (subst (λ k. k < 2 ^ 16) (sym ps.many) d.1) ps.small in
    let whole = takes_then bytes _ _ _ _ (takes_then bytes _ _ _ _ (takes_then bytes _ _ _ _ (takes_then bytes _ _ _ _ a.0 b) c.0) d.0) f.0 in
    let p = to_be_bytes w64 n.0 in
    let h = how.0 ∷ [] in
    let u = to_be_bytes w16 dump.0 in
    let r = to_be_bytes w16 rows.0 in
    let size : r ≡ to_be_bytes w16 (length (rows_of kind)) = ap (λ k. to_be_bytes w16 k) (sym ps.many ∙ ap length (sym t.named)) in
    let spelled : list.0 ≡ pair_bytes row_file row_number (rows_of kind) = sym ps.spelled ∙ ap (pair_bytes row_file row_number) (sym t.named) in
    subst (λ x. ReadsEntry 5 bytes x) g.1 (record {
      parts = ap (λ (l : List ℕ). 5 ∷ l) (whole.parts
          ∙ ap (λ (l : List ℕ). l ++ list.1) (append_assoc ((p ++ h) ++ u) r list.0 ∙ append_assoc (p ++ h) u (r ++ list.0) ∙ append_assoc p h (u ++ (r ++ list.0))
          ∙ (λ i. p ++ (sym t.number i ∷ (to_be_bytes w16 (sym t.dump i) ++ (size i ++ spelled i))))));
      is = (a.1, t.is);
    })

pub begin_takes : (bytes : List ℕ) (x : Entry × List ℕ) → IsBytes bytes → begin_at bytes ≡ Some x → ReadsEntry 5 bytes x
unfolding begin_at
begin_takes bytes x fits e =
    let (n, e1, r1) = bind_some (number_first w64 bytes) _ x e in
    let (how, e2, r2) = bind_some (byte_first n.1) _ x r1 in
    let (dump, e3, r3) = bind_some (number_first w16 how.1) _ x r2 in
    let (rows, e4, r4) = bind_some (number_first w16 dump.1) _ x r3 in
    let (list, e5, r5) = bind_some (bytes_first (8 * rows.0) rows.1) _ x r4 in
    begin_from bytes n how dump rows list x fits e1 e2 e3 e4 e5 r5

begin_again : (n how d : ℕ) (rs : List Row) (kind : Kind) (rest : List ℕ) → n < 2 ^ 64 → d < 2 ^ 16 → length rs < 2 ^ 16 → ArePairsSmall row_file row_number rs → kind_fits how d rs ≡ true → kind_of how d rs ≡ kind
    → begin_at ((to_be_bytes w64 n ++ (how ∷ (to_be_bytes w16 d ++ (to_be_bytes w16 (length rs) ++ pair_bytes row_file row_number rs)))) ++ rest) ≡ Some (begin_restore n kind, rest)
unfolding begin_at
begin_again n how d rs kind rest number low few small fits is =
    let p = to_be_bytes w64 n in
    let u = to_be_bytes w16 d in
    let r = to_be_bytes w16 (length rs) in
    let l = pair_bytes row_file row_number rs in
    let e : (p ++ (how ∷ (u ++ (r ++ l)))) ++ rest ≡ p ++ (how ∷ (u ++ (r ++ (l ++ rest)))) = append_assoc p (how ∷ (u ++ (r ++ l))) rest ∙ ap (λ (t : List ℕ). p ++ (how ∷ t)) (append_assoc u (r ++ l) rest ∙ ap (λ (t : List ℕ). u ++ t) (append_assoc r l rest)) in
    ap begin_at e ∙
    rw (
      number_again w64 (2 ^ 64) wide64 n (how ∷ (u ++ (r ++ (l ++ rest)))) number,
      number_again w16 (2 ^ 16) wide16 d (r ++ (l ++ rest)) low,
      number_again w16 (2 ^ 16) wide16 (length rs) (l ++ rest) few,
      bytes_again (8 * length rs) l rest (rows_length rs),
      rows_again rs small,
      fits,
      is,
    ) refl

kind_again : (n : ℕ) (kind : Kind) (rest : List ℕ) → n < 2 ^ 64 → IsRestoreKind kind
    → begin_at ((to_be_bytes w64 n ++ (how_number kind ∷ (to_be_bytes w16 (dump_of kind) ++ (to_be_bytes w16 (length (rows_of kind)) ++ pair_bytes row_file row_number (rows_of kind))))) ++ rest) ≡ Some (begin_restore n kind, rest)
kind_again n by_halt_load rest number is = begin_again n 1 0 [] by_halt_load rest number (omega arith) (omega arith) tt refl refl
kind_again n by_back_out rest number is = begin_again n 2 0 [] by_back_out rest number (omega arith) (omega arith) tt refl refl
kind_again n by_roll_back rest number is = begin_again n 3 0 [] by_roll_back rest number (omega arith) (omega arith) tt refl refl
kind_again n (by_rebuild d) rest number is = begin_again n 4 d [] (by_rebuild d) rest number (omega (arith, is.1)) (omega arith) tt (let a = is.0 in let b = is.1 in grind (arith, nat_tests)) refl
kind_again n (by_reconstruct d rs) rest number is = begin_again n 5 d rs (by_reconstruct d rs) rest number (omega (arith, is.0.1)) is.1.few is.1.small (let a = is.0.0 in let b = is.0.1 in let r = is.1.rising in grind (arith, nat_tests)) refl

range_test : (file block place len : ℕ) → range_fits file block place len ≡ true → (30001 ≤ file) × (file ≤ 30200) × (block < 2097152) × (1 ≤ len) × (place + len ≤ 1024)
range_test file block place len e = (grind (arith, nat_tests), grind (arith, nat_tests), grind (arith, nat_tests), grind (arith, nat_tests), grind (arith, nat_tests))

range_tested : (file block place len : ℕ) → 30001 ≤ file → file ≤ 30200 → block < 2097152 → 1 ≤ len → place + len ≤ 1024 → range_fits file block place len ≡ true
range_tested file block place len a b c d e = grind (arith, nat_tests)

range_from : (bytes : List ℕ) (file block place len : ℕ × List ℕ) (text : List ℕ × List ℕ) (x : Entry × List ℕ) → IsBytes bytes
    → number_first w32 bytes ≡ Some file → number_first w32 file.1 ≡ Some block → number_first w16 block.1 ≡ Some place → number_first w16 place.1 ≡ Some len → bytes_first len.0 len.1 ≡ Some text
    → cond (range_fits file.0 block.0 place.0 len.0) (Some (byte_range file.0 block.0 place.0 text.0, text.1)) None ≡ Some x → ReadsEntry 6 bytes x
range_from bytes file block place len text x fits e1 e2 e3 e4 e5 e6 =
    let a = number_takes w32 (2 ^ 32) wide32 bytes file fits e1 in
    let b = number_takes w32 (2 ^ 32) wide32 file.1 block a.0.rest_fits e2 in
    let c = number_takes w16 (2 ^ 16) wide16 block.1 place b.0.rest_fits e3 in
    let d = number_takes w16 (2 ^ 16) wide16 place.1 len c.0.rest_fits e4 in
    let t = bytes_takes len.0 len.1 text d.0.rest_fits e5 in
    let g = cond_some (range_fits file.0 block.0 place.0 len.0) (byte_range file.0 block.0 place.0 text.0, text.1) x e6 in
    let r = range_test file.0 block.0 place.0 len.0 g.0 in
    let whole = takes_then bytes _ _ _ _ (takes_then bytes _ _ _ _ (takes_then bytes _ _ _ _ (takes_then bytes _ _ _ _ a.0 b.0) c.0) d.0) t.0 in
    let p = to_be_bytes w32 file.0 in
    let q = to_be_bytes w32 block.0 in
    let o = to_be_bytes w16 place.0 in
    let l = to_be_bytes w16 len.0 in
    let size : l ≡ to_be_bytes w16 (length text.0) = ap (λ k. to_be_bytes w16 k) (sym t.1) in
    subst (λ x. ReadsEntry 6 bytes x) g.1 (record {
      parts = ap (λ (l : List ℕ). 6 ∷ l) (whole.parts
          ∙ ap (λ (s : List ℕ). s ++ text.1) (append_assoc ((p ++ q) ++ o) l text.0 ∙ append_assoc (p ++ q) o (l ++ text.0) ∙ append_assoc p q (o ++ (l ++ text.0))
          ∙ ap (λ (s : List ℕ). p ++ (q ++ (o ++ (s ++ text.0)))) size));
      is = record { low = r.0; high = r.1; block = r.2; some = omega (arith, r.3, t.1); within = omega (arith, r.4, t.1) };
    })

pub range_takes : (bytes : List ℕ) (x : Entry × List ℕ) → IsBytes bytes → range_at bytes ≡ Some x → ReadsEntry 6 bytes x
unfolding range_at
range_takes bytes x fits e =
    let (file, e1, r1) = bind_some (number_first w32 bytes) _ x e in
    let (block, e2, r2) = bind_some (number_first w32 file.1) _ x r1 in
    let (place, e3, r3) = bind_some (number_first w16 block.1) _ x r2 in
    let (len, e4, r4) = bind_some (number_first w16 place.1) _ x r3 in
    let (text, e5, r5) = bind_some (bytes_first len.0 len.1) _ x r4 in
    range_from bytes file block place len text x fits e1 e2 e3 e4 e5 r5

range_again : (file block place : ℕ) (bytes rest : List ℕ) → IsRange file block place bytes
    → range_at ((to_be_bytes w32 file ++ (to_be_bytes w32 block ++ (to_be_bytes w16 place ++ (to_be_bytes w16 (length bytes) ++ bytes)))) ++ rest) ≡ Some (byte_range file block place bytes, rest)
unfolding range_at
range_again file block place bytes rest is =
    let p = to_be_bytes w32 file in
    let q = to_be_bytes w32 block in
    let o = to_be_bytes w16 place in
    let l = to_be_bytes w16 (length bytes) in
    let e : (p ++ (q ++ (o ++ (l ++ bytes)))) ++ rest ≡ p ++ (q ++ (o ++ (l ++ (bytes ++ rest)))) =
    append_assoc p (q ++ (o ++ (l ++ bytes))) rest ∙ ap (λ (t : List ℕ). p ++ t) (append_assoc q (o ++ (l ++ bytes)) rest
    ∙ ap (λ (t : List ℕ). q ++ t) (append_assoc o (l ++ bytes) rest ∙ ap (λ (t : List ℕ). o ++ t) (append_assoc l bytes rest))) in
    ap range_at e ∙
    rw (
      number_again w32 (2 ^ 32) wide32 file (q ++ (o ++ (l ++ (bytes ++ rest)))) (omega (arith, is.high)),
      number_again w32 (2 ^ 32) wide32 block (o ++ (l ++ (bytes ++ rest))) (omega (arith, is.block)),
      number_again w16 (2 ^ 16) wide16 place (l ++ (bytes ++ rest)) (omega (arith, is.within)),
      number_again w16 (2 ^ 16) wide16 (length bytes) (bytes ++ rest) (omega (arith, is.within)),
      bytes_again (length bytes) bytes rest refl,
      range_tested file block place (length bytes) is.low is.high is.block is.some is.within,
    ) refl

-- what is read from the front
pub record BeginsWithEntry (bytes : List ℕ) (x : Entry × List ℕ) : Type 0 where
  pub parts : bytes ≡ spelling x.0 ++ x.1
  pub is : IsEntry x.0

front_of : (kind : ℕ) (bytes : List ℕ) (x : Entry × List ℕ) (k : ℕ) → k ≡ kind → ReadsEntry kind bytes x → BeginsWithEntry (k ∷ bytes) x
front_of kind bytes x k is read = record { parts = ap (λ j. j ∷ bytes) is ∙ read.parts; is = read.is }

abbrev read_as : ℕ → List ℕ → Option (Entry × List ℕ)
read_as k rest = cond (k == 1) (schema_at rest) (cond (k == 2) (image_at rest) (cond (k == 3) (quiet_at rest) (cond (k == 4) (control_at rest) (cond (k == 5) (begin_at rest) (cond (k == 6) (range_at rest) None)))))

pub entry_takes : (bytes : List ℕ) (x : Entry × List ℕ) → IsBytes bytes → entry_at bytes ≡ Some x → BeginsWithEntry bytes x
unfolding entry_at
entry_takes [] x fits e = absurd cc
entry_takes (k ∷ rest) x fits e = elim (cases_eq k 1) [
  | inl one ↦ front_of 1 rest x k one (schema_takes rest x (λ i. fits (suc i)) (subst (λ j. read_as j rest ≡ Some x) one e))
  | inr not_one ↦ elim (cases_eq k 2) [
    | inl two ↦ front_of 2 rest x k two (image_takes rest x (λ i. fits (suc i)) (subst (λ j. read_as j rest ≡ Some x) two e))
    | inr not_two ↦ elim (cases_eq k 3) [
      | inl three ↦ front_of 3 rest x k three (quiet_takes rest x (λ i. fits (suc i)) (subst (λ j. read_as j rest ≡ Some x) three e))
      | inr not_three ↦ elim (cases_eq k 4) [
        | inl four ↦ front_of 4 rest x k four (control_takes rest x (λ i. fits (suc i)) (subst (λ j. read_as j rest ≡ Some x) four e))
        | inr not_four ↦ elim (cases_eq k 5) [
          | inl five ↦ front_of 5 rest x k five (begin_takes rest x (λ i. fits (suc i)) (subst (λ j. read_as j rest ≡ Some x) five e))
          | inr not_five ↦ elim (cases_eq k 6) [
            | inl six ↦ front_of 6 rest x k six (range_takes rest x (λ i. fits (suc i)) (subst (λ j. read_as j rest ≡ Some x) six e))
            | inr other ↦ absurd (none_else k rest x not_one not_two not_three not_four not_five other e)
          ]
        ]
      ]
    ]
  ]
]
  where
    none_else : (k : ℕ) (rest : List ℕ) (x : Entry × List ℕ) → (k ≡ 1 → ⊥) → (k ≡ 2 → ⊥) → (k ≡ 3 → ⊥) → (k ≡ 4 → ⊥) → (k ≡ 5 → ⊥) → (k ≡ 6 → ⊥) → read_as k rest ≡ Some x → ⊥
    none_else k rest x a b c d f h e = grind (arith, nat_tests)

pub entry_again : (e : Entry) (rest : List ℕ) → IsEntry e → entry_at (spelling e ++ rest) ≡ Some (e, rest)
unfolding entry_at
entry_again (schema_part part parts text) rest is = schema_again part parts text rest is
entry_again (image file block before after) rest is = image_again file block before after rest is
entry_again (byte_range f b place bytes) rest is = range_again f b place bytes rest is
entry_again (quiet_point n) rest is = quiet_again n rest is
entry_again (control_point n next cs) rest is = control_again n next cs rest is
entry_again (begin_restore n kind) rest is = kind_again n kind rest is.0 is.1

pub front_found : (bytes : List ℕ) (item : Entry) (rest : List ℕ) → BeginsWithEntry bytes (item, rest) → IsEntry item × (take (length bytes - length rest) bytes ≡ spelling item) × (length bytes - length rest ≤ length bytes)
front_found bytes item rest front =
    let long = length-append (spelling item) rest in
    let n : length (spelling item) ≡ length bytes - length rest = omega (arith, long, ap length front.parts) in
    (front.is, ap (λ (l : List ℕ). take (length bytes - length rest) l) front.parts ∙ take_at (spelling item) rest (length bytes - length rest) n, omega arith)

pub front_short : (bytes : List ℕ) (item : Entry) (rest : List ℕ) → BeginsWithEntry bytes (item, rest) → length rest ≤ length bytes
front_short bytes item rest front = omega (arith, length-append (spelling item) rest, ap length front.parts)

pub front_only : (bytes : List ℕ) (item e : Entry) (rest more : List ℕ) → Some (item, rest) ≡ entry_at bytes → IsEntry e → bytes ≡ spelling e ++ more → (item ≡ e) × (length bytes - length rest ≡ length (spelling e))
front_only bytes item e rest more read is parts =
    let both : Some (item, rest) ≡ Some (e, more) = read ∙ ap entry_at parts ∙ entry_again e more is in
    let same : (item, rest) ≡ (e, more) = cc both in
    (ap (λ (p : Entry × List ℕ). p.0) same, omega (arith, ap (λ (p : Entry × List ℕ). length p.1) same, length-append (spelling e) more, ap length parts))

some_not_none : {A : Type 0} (x : A) → Some x ≡ None → ⊥
some_not_none x e = absurd cc

pub none_only : (bytes : List ℕ) (e : Entry) (more : List ℕ) → entry_at bytes ≡ None → IsEntry e → bytes ≡ spelling e ++ more → ⊥
none_only bytes e more none is parts = absurd (some_not_none (e, more) (sym (ap entry_at parts ∙ entry_again e more is) ∙ none))

-- what follows the entry
pub front_rest : (bytes : List ℕ) (e : Entry) (rest : List ℕ) → BeginsWithEntry bytes (e, rest) → drop (length bytes - length rest) bytes ≡ rest
front_rest bytes e rest front =
    let long = length-append (spelling e) rest in
    let n : length (spelling e) ≡ length bytes - length rest = omega (arith, long, ap length front.parts) in
    ap (λ (l : List ℕ). drop (length bytes - length rest) l) front.parts ∙ drop_at (spelling e) rest (length bytes - length rest) n

pub some_same : (x y : Entry × List ℕ) → Some x ≡ Some y → x.0 ≡ y.0
some_same x y same = cc same
