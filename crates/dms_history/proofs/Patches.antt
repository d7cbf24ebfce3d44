-- Bytes over a block.
use Rattle.std.proofs.Common.{ℕ, ◌+◌, ◌-◌, ◌<◌, ◌≤◌, ◌≡◌, inl, inr, List, ◌++◌, length, take, drop, get_or, sym, ◌∙◌, ap, arith, length-append, length-take, length-drop}
use Rattle.std.proofs.lemmas.List.{ext_get_or, get_or_append_left, get_or-take, get_or-drop, get_or-append_right}
use Rattle.std.proofs.lemmas.Bool.{cases_lt}
use Rattle.dms_history.specs.Events.{BlockBytes}
use Rattle.dms_history.specs.Ranges.{patch_bytes}
use Rattle.dms_history.specs.LawsOfRanges.{RangeFits}

patched_length : (place : ℕ) (bytes : List ℕ) (old : BlockBytes) → place + length bytes ≤ length old → length (patch_bytes place bytes old) ≡ length old
unfolding patch_bytes
patched_length place bytes old fits =
    omega (arith, length-append (take place old) (bytes ++ drop (place + length bytes) old), length-append bytes (drop (place + length bytes) old), length-take place old, length-drop (place + length bytes) old)

patched_at : (place n : ℕ) (old new : BlockBytes) → place + n ≤ length old → length new ≡ length old
    → ((i : ℕ) → i < place → get_or new i 0 ≡ get_or old i 0) → ((i : ℕ) → place + n ≤ i → i < length old → get_or new i 0 ≡ get_or old i 0)
    → (i : ℕ) → i < length old → get_or (patch_bytes place (take n (drop place new)) old) i 0 ≡ get_or new i 0
unfolding patch_bytes
patched_at place n old new fits long below above i low =
    let bytes = take n (drop place new) in
    let size : length bytes ≡ n = omega (arith, length-take n (drop place new), length-drop place new) in
    let front : length (take place old) ≡ place = omega (arith, length-take place old) in
    elim (cases_lt i place) [
      | inl less ↦ get_or_append_left (take place old) (bytes ++ drop (place + length bytes) old) 0 i (omega (arith, front)) ∙ get_or-take place old i 0 less ∙ sym (below i less)
      | inr no_less ↦
          get_or-append_right (take place old) (bytes ++ drop (place + length bytes) old) place i 0 front no_less
          ∙ elim (cases_lt (i - place) n) [
            | inl within ↦
                let at : place + (i - place) ≡ i = omega arith in
                get_or_append_left bytes (drop (place + length bytes) old) 0 (i - place) (omega (arith, size)) ∙ get_or-take n (drop place new) (i - place) 0 within ∙ get_or-drop place new (i - place) 0 ∙ ap (λ j. get_or new j 0) at
            | inr past ↦
                let at : (place + length bytes) + ((i - place) - n) ≡ i = omega (arith, size) in
                get_or-append_right bytes (drop (place + length bytes) old) n (i - place) 0 size past
                ∙ get_or-drop (place + length bytes) old ((i - place) - n) 0 ∙ ap (λ j. get_or old j 0) at ∙ sym (above i (omega arith) low)
          ]
    ]

pub range_fits : RangeFits
range_fits place n old new fits long below above = (
  let size : length (take n (drop place new)) ≡ n = omega (arith, length-take n (drop place new), length-drop place new) in
      let same : length (patch_bytes place (take n (drop place new)) old) ≡ length old = patched_length place (take n (drop place new)) old (omega (arith, size, fits)) in
      ext_get_or 0 (patch_bytes place (take n (drop place new)) old) new (same ∙ sym long) (λ i low. patched_at place n old new fits long below above i (omega (arith, low, same))),
  λ bytes room. patched_length place bytes old room,
)
