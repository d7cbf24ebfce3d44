use Rattle.std.proofs.Common.{◌≡◌, ◌∙◌, ℕ, List, [], ◌∷◌, Bool, true, false, cond, Some, refl, sym, ap}
use Rattle.std.specs.Prelude.{◌==◌, ◌&&◌, ◌||◌}
use Rattle.std.specs.List.{list_any}
use Rattle.std.specs.declared.option.Option.{Option}
use Rattle.dms_desc.specs.Shape.{shape_of}
use Rattle.dms_model.specs.Db.{SubsetEntry}
use Rattle.dms_model.specs.Stores.{entered_owners, owners_named}
use Rattle.dms_plain.specs.Clashes.{clashes_at, clashes_for_owner}
use Rattle.dms_plain.specs.Rows.{entries_of}
use Rattle.dms_plain.proofs.clash.is_refused_entered.Goals as goal

-- for one of the owners that entries name, and for the owner of one of these entries
any_owner : (f : ℕ → Bool) (subset number : ℕ) (es : List SubsetEntry) → list_any (λ e. (e.subset == subset) && (e.number == number) && f e.owner) es ≡ list_any f (owners_named subset number es)
any_owner f subset number [] = refl
any_owner f subset number (e ∷ es) = by ((e.subset == subset) && (e.number == number)) (any_owner f subset number es)
  where
    by : (b : Bool) → list_any (λ x. (x.subset == subset) && (x.number == number) && f x.owner) es ≡ list_any f (owners_named subset number es)
        → ((b && f e.owner) || list_any (λ x. (x.subset == subset) && (x.number == number) && f x.owner) es) ≡ list_any f (cond b (e.owner ∷ owners_named subset number es) (owners_named subset number es))
    by true rest = ap (λ b. f e.owner || b) rest
    by false rest = rest

pub returns-in-Some : goal.returns-in-Some
returns-in-Some c =
    let s = shape_of c.args.s.now in
    let manual = c.args.manual.now.entries in
    let es = entries_of c.args.rows.now in
    c.is_refused_of.ensures ∙ ap (list_any (clashes_for_owner s manual c.in-Some.n c.args.values.now es)) c.entries.ensures
    ∙ any_owner (clashes_at s manual (Some c.in-Some.n) c.args.values.now es) s.number c.in-Some.n manual
    ∙ sym (ap (λ (o : Option ℕ). list_any (clashes_at s manual o c.args.values.now es) (entered_owners s.number o manual)) c.in-Some.is)
