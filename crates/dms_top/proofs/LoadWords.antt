-- Words that are not those of `load`, and what its statuses leave.
use Rattle.std.proofs.Common.{◌≡◌, ◌∙◌, ℕ, List, [], ◌∷◌, sym, ap, Some, None}
use Rattle.std.proofs.lemmas.Option.{none-some}
use Rattle.dms_loadrun.specs.Statuses.{IsOfLoad}
use Rattle.dms_status.specs.declared.status.Status.{Status}
use Rattle.dms_status.specs.declared.status.Status.TheVariants.{Ok, BadWords, SchemaRefused, NoDatabase, Needed, InputFault, Memory, Limit, Damaged, SayFault, DiskFault, Exists, BadStatement, Reorganization, BadStream, Diverged, Flaw}
use Rattle.dms_top.specs.Words.{IsUntouched, initialize_tag, load_numbers}

-- other words say no numbers
pub no_load : (ws vs : List (List ℕ)) (p : ℕ × ℕ) → ws ≡ vs → load_numbers vs ≡ None → load_numbers ws ≡ Some p → ⊥
no_load ws vs p is none says = none-some p (sym none ∙ ap load_numbers (sym is) ∙ says)

-- nor do those of `initialize`
pub tag_no_load : (ws : List (List ℕ)) (tag : ℕ) (p : ℕ × ℕ) → Some tag ≡ initialize_tag ws → load_numbers ws ≡ Some p → ⊥
tag_no_load [] tag p says is = none-some p is
tag_no_load (a ∷ []) tag p says is = none-some p is
tag_no_load (a ∷ b ∷ []) tag p says is = none-some p is
tag_no_load (a ∷ b ∷ c ∷ ws) tag p says is = none-some tag (sym says)

-- with none of its statuses it is known to have touched nothing
pub not_untouched : (s : Status) → IsOfLoad s → IsUntouched s → ⊥
not_untouched Ok of is = is
not_untouched BadWords of is = of
not_untouched (SchemaRefused f) of is = of
not_untouched NoDatabase of is = is
not_untouched (Needed n) of is = is
not_untouched InputFault of is = is
not_untouched Memory of is = is
not_untouched (Limit k) of is = is
not_untouched (Damaged f b) of is = is
not_untouched SayFault of is = is
not_untouched DiskFault of is = is
not_untouched Exists of is = is
not_untouched (BadStatement p) of is = of
not_untouched (Reorganization why) of is = of
not_untouched (BadStream place) of is = of
not_untouched (Diverged file block) of is = of
not_untouched (Flaw flaw) of is = of
