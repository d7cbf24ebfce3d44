use Rattle.std.proofs.Common.{ℕ, List, [], ◌∷◌, ◌++◌, ◌-◌, ◌≡◌, ◌∙◌, ap, length, replicate}
use Rattle.std.specs.Prelude.{codes, decimal}
use Rattle.dms_calls.specs.Names.{digits_of, name_of}
use Rattle.dms_folder.proofs.name.file_name.Goals as goal

pub returns : goal.returns
unfolding name_of digits_of
returns c =
    let zs = c.zeros_before.result.now in
    let ds = c.format-digits.result.now in
    let text : ds ≡ decimal c.args.file = c.format-digits.ensures.text in
    let z : zs ≡ replicate (5 - length (decimal c.args.file)) 48 = c.zeros_before.ensures.zeros ∙ ap (λ (l : List ℕ). replicate (5 - length l) 48) text in
    let both : zs ++ ds ≡ digits_of c.args.file = ap (λ (l : List ℕ). l ++ ds) z ∙ ap (λ (l : List ℕ). replicate (5 - length (decimal c.args.file)) 48 ++ l) text in
    let one : c.push_str.new.self.bytes ≡ 70 ∷ [] = c.push_str.ensures.bytes ∙ ap (λ (l : List ℕ). l ++ codes "F") c.new-name.ensures in
    let two : c.push_str-2.new.self.bytes ≡ 70 ∷ zs = c.push_str-2.ensures.bytes ∙ ap (λ (l : List ℕ). l ++ zs) one in
    let three : c.push_str-3.new.self.bytes ≡ 70 ∷ (zs ++ ds) = c.push_str-3.ensures.bytes ∙ ap (λ (l : List ℕ). l ++ ds) two in
    record { name = c.push_str-4.ensures.bytes ∙ ap (λ (l : List ℕ). l ++ codes ".DMS") three ∙ ap (λ (l : List ℕ). 70 ∷ (l ++ codes ".DMS")) both }
