-- One part more of a key.
use Rattle.std.proofs.Common.{ℕ, ◌+◌, ◌<◌, ◌≡◌, List, ◌∷◌, length, drop, get_or, ap, ◌∙◌, refl, false}
use Rattle.std.proofs.lemmas.List.{drop_more}
use Rattle.dms_desc.specs.declared.structure.KeyPart.{KeyPart}
use Rattle.dasdl_compile.specs.Widths.{plus, parts_width}

no_part : KeyPart
no_part = record { item = 0; descending = false }

next_part : (w : ℕ) (p : KeyPart) (ps : List KeyPart) → parts_width w (p ∷ ps) ≡ parts_width (plus w 2) ps
unfolding parts_width
next_part w p ps = refl

pub parts-one : (w : ℕ) (ps : List KeyPart) (i : ℕ) → i < length ps → parts_width w (drop i ps) ≡ parts_width (plus w 2) (drop (i + 1) ps)
parts-one w ps i low = ap (λ (l : List KeyPart). parts_width w l) (drop_more ps i no_part low) ∙ next_part w (get_or ps i no_part) (drop (i + 1) ps)
