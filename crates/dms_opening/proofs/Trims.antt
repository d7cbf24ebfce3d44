-- Counts that are cut to the structures of a description.
use Rattle.std.proofs.Common.{ℕ, max, ◌-◌, ◌<◌, ◌≤◌, ◌≡◌, List, IsTrue, length, take, get_or, sym, ◌∙◌, ap, subst, arith, length-take}
use Rattle.std.proofs.lemmas.List.{get_or-take}
use Rattle.std.proofs.lemmas.Bool.Decides.{nat_tests}
use Rattle.dms_desc.specs.Shape.{Described}
use Rattle.dms_desc_bytes.specs.Spelling.{spelling}
use Rattle.dms_desc_bytes.specs.WellFormed.{IsWellFormed, are_sound}
use Rattle.dms_opening.specs.Openings.{NamesStructures}

few_structures : (d : Described) → IsTrue (are_sound d.structures) → length d.structures ≤ 200
unfolding are_sound
few_structures d on = grind (arith, nat_tests)

pub named_cut : (d : Described) (size keep used : ℕ) (schema old new : List ℕ) → ((a b : Described) → IsWellFormed a → IsWellFormed b → spelling a ≡ spelling b → a ≡ b) → IsWellFormed d → spelling d ≡ schema → size ≡ length d.structures → length old ≡ 200
    → used ≤ length old → (0 < used → 0 < get_or old (used - 1) 0) → keep ≡ max used size → new ≡ take keep old → NamesStructures schema new
named_cut d size keep used schema old new once well spells sized all within last is cut =
    let few : length d.structures ≤ 200 = few_structures d well.structures in
    let long : length new ≡ keep = omega (arith, ap (λ (l : List ℕ). length l) cut, length-take keep old, is, sized, few, all, within) in
    let low : length d.structures ≤ length new = omega (arith, long, is, sized) in
    record {
      each = λ e wf sp. let same = once d e well wf (spells ∙ sym sp) in subst (λ (x : Described). length x.structures ≤ length new) same low;
      none_behind = λ e wf sp more.
          let same = once e d wf well (sp ∙ sym spells) in
          let behind : length d.structures < length new = subst (λ (x : Described). length x.structures < length new) same more in
          let end : length new ≡ used = omega (arith, long, is, sized, behind) in
          let some : 0 < used = omega (arith, end, behind) in
          let under : used - 1 < keep = omega (arith, some, is) in
          let at : get_or new (length new - 1) 0 ≡ get_or old (used - 1) 0 = ap (λ (l : List ℕ). get_or l (length new - 1) 0) cut ∙ ap (λ n. get_or (take keep old) (n - 1) 0) end ∙ get_or-take keep old (used - 1) 0 under in
          omega (arith, at, last some);
      all_left = λ none. absurd (none d well spells);
    }
