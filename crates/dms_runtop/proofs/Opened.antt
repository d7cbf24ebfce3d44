-- A database that was opened, as one from which a script runs.
use Rattle.std.proofs.Common.{ℕ, ◌≡◌, ◌∙◌, inl, inr, List, [], ◌∷◌, ◌++◌, map, refl, sym, ap, Some}
use Rattle.dms_block.specs.Content.{Content}
use Rattle.dms_block.specs.Held.{BlockPoint}
use Rattle.dms_desc.specs.Shape.{Described}
use Rattle.dms_desc_bytes.specs.Spelling.{spelling}
use Rattle.dms_desc_bytes.specs.WellFormed.{IsWellFormed}
use Rattle.dms_model.specs.Db.{Db}
use Rattle.dms_running.specs.Points.{DescribedPoint}
use Rattle.dms_store.specs.Spelled.{database_in}
use Rattle.dms_wal.specs.Lifting.{block_point, last_blocks}
use Rattle.dms_wal.proofs.Lifts.{last_here}
use Rattle.dms_run.specs.States.{LivesEndWith}
use Rattle.dms_runtop.specs.Describing.{IsUnderSchema}

-- ---- the points

unblock : BlockPoint → DescribedPoint
unblock p = record { number = p.number; blocks = p.blocks; schema = p.schema }

unblocked : (ps : List DescribedPoint) → map unblock (map block_point ps) ≡ ps
unfolding unblock
unblocked [] = refl
unblocked (p ∷ ps) = ap (λ (l : List DescribedPoint). p ∷ l) (unblocked ps)

same_points : (ps qs : List DescribedPoint) → map block_point ps ≡ map block_point qs → ps ≡ qs
same_points ps qs same = sym (unblocked ps) ∙ ap (map unblock) same ∙ unblocked qs

-- the blocks at the last point spell its database
pub spells_last : (desc : Described) (ps qs : List DescribedPoint) (content : Content) (n : ℕ) (db : Db) → LivesEndWith desc qs n db → map block_point ps ≡ map block_point qs → content ≡ last_blocks (λ f. []) ps → database_in desc content ≡ Some db
spells_last desc ps qs content n db state same is =
    let ends : ps ≡ state.before ++ state.point ∷ [] = same_points ps qs same ∙ state.are in
    let blocks : content ≡ state.point.blocks = is ∙ ap (last_blocks (λ f. [])) ends ∙ last_here (λ f. []) state.before state.point in
    ap (database_in desc) blocks ∙ state.spells

-- ---- the description

-- the description that is used is the one whose bytes were found
pub same_description : ((d e : Described) → IsWellFormed d → IsWellFormed e → spelling d ≡ spelling e → d ≡ e) → (schema : List ℕ) (d e : Described) → IsWellFormed d → IsUnderSchema schema d → IsWellFormed e → spelling e ≡ schema → d ≡ e
same_description one schema d e formed (inl is) other found = one d e formed other (is ∙ sym found)
same_description one schema d e formed (inr none) other found = absurd (none e other found)
