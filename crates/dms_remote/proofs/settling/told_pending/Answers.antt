use Rattle.std.proofs.Common.{◌≡◌, ◌∙◌, ℕ, min, true, false, sym, ap, subst, cond, Bool, IfOk, List, [], take, length, Vec, Global}
use Rattle.std.specs.declared.result.Result.{Result}
use Rattle.std.specs.declared.result.Result.TheVariants.{Ok}
use Rattle.std.proofs.lemmas.List.{take_min}
use Rattle.dms_restore.specs.declared.live.LiveEntry.{LiveEntry}
use Rattle.dms_restore.specs.declared.told.Told.{Told}
use Rattle.dms_restore.specs.Named.{IsTableOf}
use Rattle.dms_remote.proofs.settling.told_pending.Goals as goal
use Rattle.dms_remote.proofs.settling.told_pending.Goals.{then-at, else-at}

pick_ok : {T E : Type 0} (P : T → Type 0) (r : Result T E) (x : T) → r ≡ Ok x → IfOk r P → P x
pick_ok {T} {E} P r x is p = subst (λ (o : Result T E). IfOk o P) is p

chosen_table : (live removed : List LiveEntry) (kept n : ℕ) (b has : Bool) (v : List Told) → n ≡ min kept (length live) → has ≡ b → IsTableOf (take n live) (cond b removed []) v → IsTableOf (take kept live) (cond has removed []) v
chosen_table live removed kept n b has v is same table =
    subst (λ (front : List LiveEntry). IsTableOf front (cond has removed []) v) (ap (λ (k : ℕ). take k live) is ∙ take_min kept live)
    (subst (λ (t : Bool). IsTableOf (take n live) (cond t removed []) v) (sym same) table)

pub returns-in-Ok-clause-table : goal.returns-in-Ok-clause-table
returns-in-Ok-clause-table c within = elim c.if-at.branch [
  | then-at w ↦ chosen_table c.args.live.now c.args.removed.now c.args.at.kept c.min.result true c.args.at.has_place c.in-Ok.told.items c.min.ensures w.if-at.true
      (pick_ok (λ (v : Vec Told Global). IsTableOf (take c.min.result c.args.live.now) c.args.removed.now v.items) w.table_of-told.result c.in-Ok.told (sym w.told-is ∙ c.in-Ok.is) w.table_of-told.ensures.table)
  | else-at w ↦ chosen_table c.args.live.now c.args.removed.now c.args.at.kept c.min.result false c.args.at.has_place c.in-Ok.told.items c.min.ensures w.if-at.false
      (pick_ok (λ (v : Vec Told Global). IsTableOf (take c.min.result c.args.live.now) [] v.items) w.table_of-told-else-at.result c.in-Ok.told (sym w.told-is ∙ c.in-Ok.is) w.table_of-told-else-at.ensures.table)
]
