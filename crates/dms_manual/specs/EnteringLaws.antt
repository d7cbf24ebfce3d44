-- What calls on a list make of the entry of a member.
use Rattle.std.proofs.Common.{◌≡◌, ◌∙◌, ◌+◌, ◌<◌, ◌≤◌, ℕ, List, [], ◌∷◌, Bool, true, false, cond, Some, None, refl, sym, ap, subst, length, arith}
use Rattle.std.specs.Prelude.{◌||◌, ◌==◌, nat_le, not, IfOk, OnOk}
use Rattle.std.specs.Ordering.{is_eq}
use Rattle.std.specs.FinMap.Entries.{by_order}
use Rattle.std.specs.declared.cmp.Ordering.{Ordering}
use Rattle.std.specs.declared.cmp.Ordering.TheVariants.{Less, Equal, Greater}
use Rattle.std.specs.declared.option.Option.{Option}
use Rattle.std.specs.declared.result.Result.{Result}
use Rattle.std.specs.declared.result.Result.TheVariants.{Ok, Err}
use Rattle.std.proofs.lemmas.Bool.Decides.{nat_tests}
use Rattle.std.proofs.lemmas.Option.{same_Some}
use Rattle.dms_base.specs.declared.kind.ItemKind.{ItemKind}
use Rattle.dms_desc.specs.Kinds.{takes}
use Rattle.dms_desc.specs.Shape.{Shape}
use Rattle.dms_desc.specs.declared.record.Record.{Record}
use Rattle.dms_model.specs.declared.put.Put.TheVariants.{Stored, Duplicate, Full}
use Rattle.dms_chain.specs.Lists.{bytes_cmp, has_entry, with_entry, without}
use Rattle.dms_lists.specs.declared.form.ListForm.{ListForm}
use Rattle.dms_lists.specs.declared.form.ListForm.TheVariants.{List as OneChain}
use Rattle.dms_lists.specs.FormLaws.{manual_form}
use Rattle.dms_lists.specs.Forms.{form_of}
use Rattle.dms_sets.specs.ChangeLaws.{entry_long}
use Rattle.dms_sets.specs.Changes.{HasEntry, HasRoom, IfListed, ListsOf, OnlyList, OnlyRoomy, entry_in, refuses}
use Rattle.dms_sets.specs.Padded.{entry_width}
use Rattle.dms_manual.specs.Entering.{EntersOne, MakesOne, Puts, PutsOne, Takes, in_the_way, member_bytes}

pub both_ok : {T E : Type 0} {P R : T → Type 0} {Q : Type 0} (r : Result T E) → IfOk r P → OnOk r Q → ((x : T) → P x → Q → R x) → IfOk r R
both_ok (Ok v) p q h = h v p q
both_ok (Err e) p q h = tt

-- a manual subset takes each record
pub manual_takes : (s : Shape) (rec : Record) → s.kind ≡ 5 → takes s rec.values ≡ true
manual_takes s rec kind = by (s.kind == 4) refl
  where
    by : (b : Bool) → (s.kind == 4) ≡ b → takes s rec.values ≡ true
    by b is = grind (arith, nat_tests, kind)

pub bytes_are : (kinds : List ItemKind) (s : Shape) (number : ℕ) (rec : Record) (q : List ℕ) → s.kind ≡ 5 → entry_in kinds s number rec ≡ Some q → member_bytes kinds s number rec ≡ q
bytes_are kinds s number rec q kind h = same_Some (member_bytes kinds s number rec) q (sym (ap (λ b. cond b (Some (member_bytes kinds s number rec)) None) (manual_takes s rec kind)) ∙ h)

module _ (kinds : List ItemKind) (s : Shape) (number : ℕ) (rec : Record) (q : List ℕ) (kind : s.kind ≡ 5) (fits : HasEntry kinds s rec.values) (is : entry_in kinds s number rec ≡ Some q) where
  wide : length q ≡ entry_width kinds s.parts
  wide = entry_long kinds s number rec q fits is

  pub put_made : (form : ListForm) → form ≡ form_of s → (a b : ListsOf) (new : Bool) → IfListed (a s.number form (length q)) (λ xs. new ≡ not (has_entry q xs)) → OnlyRoomy (with_entry q) s.number form (length q) a b → Puts kinds s number rec a b new
  put_made form at a b new answer list xs h =
      let there : a s.number form (length q) ≡ Some xs = (λ i. a s.number (at i) (wide i)) ∙ h in
      let here : b s.number (form_of s) (entry_width kinds s.parts) ≡ b s.number form (length q) = sym (λ i. b s.number (at i) (wide i)) in
      let same = sym (bytes_are kinds s number rec q kind is) in
      record {
        answer = subst (λ (x : List ℕ). new ≡ not (has_entry x xs)) same (answer xs there);
        done = λ room. subst (λ (x : List ℕ). b s.number (form_of s) (entry_width kinds s.parts) ≡ Some (with_entry x xs)) same (here ∙ list.here xs there room);
      }

  pub taken_out : (form : ListForm) → form ≡ form_of s → (a b : ListsOf) (was : Bool) → IfListed (a s.number form (length q)) (λ xs. was ≡ has_entry q xs) → OnlyList (without q) s.number form (length q) a b → Takes kinds s number rec a b was
  taken_out form at a b was answer list xs h =
      let there : a s.number form (length q) ≡ Some xs = (λ i. a s.number (at i) (wide i)) ∙ h in
      let here : b s.number (form_of s) (entry_width kinds s.parts) ≡ b s.number form (length q) = sym (λ i. b s.number (at i) (wide i)) in
      let same = sym (bytes_are kinds s number rec q kind is) in
      record {
        answer = subst (λ (x : List ℕ). was ≡ has_entry x xs) same (answer xs there);
        done = subst (λ (x : List ℕ). b s.number (form_of s) (entry_width kinds s.parts) ≡ Some (without x xs)) same (here ∙ list.here xs there);
      }

  -- the same of the bytes that a call is given, over the list of a manual subset
  pub put_given : (p : List ℕ) → p ≡ q → (a b : ListsOf) (new : Bool) → IfListed (a s.number OneChain (length p)) (λ xs. new ≡ not (has_entry p xs)) → OnlyRoomy (with_entry p) s.number OneChain (length p) a b → Puts kinds s number rec a b new
  put_given p same a b new answer list =
      put_made OneChain (sym (manual_form s kind)) a b new (subst (λ (x : List ℕ). IfListed (a s.number OneChain (length x)) (λ xs. new ≡ not (has_entry x xs))) same answer) (subst (λ (x : List ℕ). OnlyRoomy (with_entry x) s.number OneChain (length x) a b) same list)

  pub taken_given : (p : List ℕ) → p ≡ q → (a b : ListsOf) (was : Bool) → IfListed (a s.number OneChain (length p)) (λ xs. was ≡ has_entry p xs) → OnlyList (without p) s.number OneChain (length p) a b → Takes kinds s number rec a b was
  taken_given p same a b was answer list =
      taken_out OneChain (sym (manual_form s kind)) a b was (subst (λ (x : List ℕ). IfListed (a s.number OneChain (length x)) (λ xs. was ≡ has_entry x xs)) same answer) (subst (λ (x : List ℕ). OnlyList (without x) s.number OneChain (length x) a b) same list)

not_twice : (r h n : Bool) → r ≡ false → n ≡ not h → not n ≡ (r || h)
not_twice r h n off is = ap not is ∙ by h ∙ ap (λ b. b || h) (sym off)
  where
    by : (b : Bool) → not (not b) ≡ b
    by true = refl
    by false = refl

pub makes_one : (kinds : List ItemKind) (s : Shape) (number : ℕ) (rec : Record) (xs : List (List ℕ)) (left : Option (List (List ℕ))) (r new : Bool) → r ≡ false → r ≡ refuses kinds s (Some rec) xs → PutsOne kinds s number rec xs left new → MakesOne kinds s number rec xs left (not new)
makes_one kinds s number rec xs left r new off is p = record {
  answer = not_twice (refuses kinds s (Some rec) xs) (has_entry (member_bytes kinds s number rec) xs) new (sym is ∙ off) p.answer;
  done = λ made room. p.done room;
}

-- ---- an answer

-- a list with one new entry is longer by one
pub with_new : (x : List ℕ) (ys : List (List ℕ)) → has_entry x ys ≡ false → length (with_entry x ys) ≡ length ys + 1
with_new x [] h = omega arith
with_new x (y ∷ ys) h = step (bytes_cmp x y) (with_new x ys) h
  where
    step : (o : Ordering) → (has_entry x ys ≡ false → length (with_entry x ys) ≡ length ys + 1) → (is_eq o || has_entry x ys) ≡ false → length (by_order o (x ∷ y ∷ ys) (y ∷ ys) (y ∷ with_entry x ys)) ≡ length (y ∷ ys) + 1
    step Less rest k = omega arith
    step Equal rest k = absurd (cc k)
    step Greater rest k = omega (arith, rest k)

second_off : (a b : Bool) → (a || b) ≡ false → b ≡ false
second_off true b h = absurd (cc h)
second_off false b h = h

module _ (kinds : List ItemKind) (s : Shape) (number : ℕ) (rec : Record) (xs : List (List ℕ)) (left : Option (List (List ℕ))) (refused : Bool) (made : MakesOne kinds s number rec xs left refused) where
  pub enters_refused : (last : Option (List (List ℕ))) → refused ≡ true → EntersOne kinds s number rec xs last (Duplicate s.number)
  enters_refused last is = record {
    answer_is = sym (ap (λ b. cond b (Duplicate s.number) (cond (nat_le s.population (length xs)) Full (Stored number))) (sym made.answer ∙ is));
    done = λ e. absurd (cc e);
  }

  module _ (is : refused ≡ false) (room : HasRoom xs) (n : ℕ) (counted : IfListed left (λ ys. n ≡ length ys)) where
    off : in_the_way kinds s number rec xs ≡ false
    off = sym made.answer ∙ is

    one_more : n ≡ length xs + 1
    one_more = counted (with_entry (member_bytes kinds s number rec) xs) (made.done is room) ∙ with_new (member_bytes kinds s number rec) xs (second_off (refuses kinds s (Some rec) xs) (has_entry (member_bytes kinds s number rec) xs) off)

    pub enters_full : (last : Option (List (List ℕ))) → s.population < n → EntersOne kinds s number rec xs last Full
    enters_full last over =
        let full : nat_le s.population (length xs) ≡ true = grind (arith, nat_tests, over, one_more) in
        record {
          answer_is = sym ((λ i. cond (off i) (Duplicate s.number) (cond (full i) Full (Stored number))));
          done = λ e. absurd (cc e);
        }

    pub enters_stored : (last : Option (List (List ℕ))) → last ≡ left → n ≤ s.population → EntersOne kinds s number rec xs last (Stored number)
    enters_stored last same low =
        let free : nat_le s.population (length xs) ≡ false = grind (arith, nat_tests, low, one_more) in
        record {
          answer_is = sym ((λ i. cond (off i) (Duplicate s.number) (cond (free i) Full (Stored number))));
          done = λ e. same ∙ made.done is room;
        }
