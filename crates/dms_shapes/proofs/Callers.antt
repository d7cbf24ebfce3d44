-- What callers of a walk need: how many entries a list has at most.
use Rattle.std.proofs.Common.{◌≡◌, ℕ, zero, suc, ◌*◌, ◌≤◌, List, [], ◌∷◌, ◌++◌, Some, None, refl, ap, length, length-append, slice_get, arith}
use Rattle.std.proofs.Math.Nat.{mul-le-mul_left}
use Rattle.std.specs.declared.option.Option.{Option}
use Rattle.dms_chain.specs.Linked.{BlockChain, front, numbers, said_by}
use Rattle.dms_chain.specs.LinkedLaws.{numbers_length}
use Rattle.dms_chain.specs.ListBlocks.{leaf_in}
use Rattle.dms_chain.specs.ListIn.{Leaf, entries_of, list_in}
use Rattle.dms_chain.specs.ListInLaws.{list_is}
use Rattle.dms_chain.specs.SpellLaws.{leaf_is}
use Rattle.dms_lists.specs.Forms.{kept_in}
use Rattle.dms_lists.specs.declared.form.ListForm.{ListForm}
use Rattle.dms_lists.specs.declared.form.ListForm.TheVariants.{Tree, List as OneChain}
use Rattle.dms_shapes.proofs.Fronts.{no_list, no_tree}
use Rattle.dms_shapes.specs.Walking.{IsAhead}
use Rattle.dms_tree.specs.Levels.{inner_numbers}
use Rattle.dms_tree.specs.TreeIn.{tree_in}
use Rattle.dms_tree.specs.TreeLaws.{tree_is}

module _ (width : ℕ) (wide : 8 ≤ width) where
  few_here : (o : Option (List ℕ)) (next : ℕ) (es : List (List ℕ)) → said_by (leaf_in width) o ≡ Some (next, es) → length es ≤ 127
  few_here None next es said = absurd (cc (said))
  few_here (Some b) next es said =
      let room : length es * width ≤ 1017 = (leaf_is width b next es said).holds.room in
      let more : length es * 8 ≤ length es * width = mul-le-mul_left (length es) wide in
      omega (arith, room, more)

  few_entries : (look : ℕ → Option (List ℕ)) (ls : List Leaf) → BlockChain (leaf_in width) look ls 0 → length (entries_of ls) ≤ length ls * 127
  few_entries look [] chain = omega arith
  few_entries look (l ∷ ls) chain =
      omega (arith, length-append l.1 (entries_of ls), few_here (look l.0) (front ls 0) l.1 chain.1, few_entries look ls chain.2)

  few_by : (bs xs : List (List ℕ)) (ls : List Leaf) → BlockChain (leaf_in width) (slice_get bs) ls 0 → entries_of ls ≡ xs → length ls ≤ length bs → length xs ≤ length bs * 127
  few_by bs xs ls chain entries low = omega (arith, few_entries (slice_get bs) ls chain, ap (λ (l : List (List ℕ)). length l) entries, low)

  few_ahead : (bs xs : List (List ℕ)) → length bs ≡ 0 → IsAhead width bs 0 xs → length xs ≤ length bs * 127
  few_ahead bs xs none a = by a.leaves a.chain a.begins a.entries
    where
      by : (ls : List Leaf) → BlockChain (leaf_in width) (slice_get bs) ls 0 → front ls 0 ≡ 0 → entries_of ls ≡ xs → length xs ≤ length bs * 127
      by [] chain begins entries = omega (arith, ap (λ (l : List (List ℕ)). length l) entries)
      by (l ∷ ls) chain begins entries = absurd (chain.0 begins)

  few_listed : (bs xs : List (List ℕ)) (n : ℕ) → length bs ≡ n → list_in width bs ≡ Some xs → length xs ≤ length bs * 127
  few_listed bs xs zero size is = few_ahead bs xs size (no_list width bs xs size is)
  few_listed bs xs (suc n) size is =
      let s = list_is width bs xs (λ e. absurd (omega (arith, e, size))) is in
      few_by bs xs s.leaves s.list.chain s.entries (omega (arith, s.list.count_is))

  few_grown : (bs xs : List (List ℕ)) (n : ℕ) → length bs ≡ n → tree_in width bs ≡ Some xs → length xs ≤ length bs * 127
  few_grown bs xs zero size is = few_ahead bs xs size (no_tree width bs xs size is)
  few_grown bs xs (suc n) size is =
      let s = tree_is width bs xs (λ e. absurd (omega (arith, e, size))) is in
      few_by bs xs s.leaves s.tree.chain s.entries
      (omega (arith, s.tree.count_is, length-append (inner_numbers s.inner) (numbers s.leaves ++ numbers s.spares), length-append (numbers s.leaves) (numbers s.spares), numbers_length s.leaves))

  -- a list has at most 127 entries for each block of its file
  pub few_kept : (form : ListForm) (bs xs : List (List ℕ)) → kept_in form width bs ≡ Some xs → length xs ≤ length bs * 127
  few_kept Tree bs xs is = few_grown bs xs (length bs) refl is
  few_kept OneChain bs xs is = few_listed bs xs (length bs) refl is
