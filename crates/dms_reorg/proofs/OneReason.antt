-- Two descriptions have one first reason, or none.
use Rattle.std.proofs.Common.{◌≡◌, ◌<◌, ℕ, List, Some, None, sym, ap, ◌∙◌, refl}
use Rattle.std.specs.Ordering.{nat_cmp}
use Rattle.std.proofs.lemmas.Cmp.{by_ranked, ranked}
use Rattle.std.proofs.lemmas.Option.{none-some, same_Some}
use Rattle.dms_desc.specs.declared.structure.Item.{Item}
use Rattle.dms_desc.specs.Lookups.{structure_of}
use Rattle.dms_desc.specs.Shape.{Described, Shape}
use Rattle.dms_status.specs.declared.status.ReorgFault.TheVariants.{AuditTrail, Changed, Required, Duplicate}
use Rattle.dms_reorg.specs.RefusalLaws.{HasOneReason}
use Rattle.dms_reorg.specs.Refusals.{EachBelow, Extends, IsFirstChanged, IsFirstLacking, Stands, first_lacking}

module _ (old : Described) (P : ℕ → Shape → Type 0) where
  -- two numbers below which it holds of each structure, and at which it doesn't, are one
  one_number : (n m : ℕ) (s t : Shape) → structure_of old n ≡ Some s → structure_of old m ≡ Some t → (P n s → ⊥) → (P m t → ⊥) → EachBelow n old P → EachBelow m old P → n ≡ m
  one_number n m s t here there bad worse below under =
      by_ranked (n < m) (n ≡ m) (m < n) (nat_cmp n m) (ranked n m (nat_cmp n m) refl)
      (λ e low. absurd (bad (under n low s here)))
      (λ e same. same)
      (λ e low. absurd (worse (below m low t there)))

module _ (old new : Described) where
  one_changed : (a b : List ℕ) → IsFirstChanged old new a → IsFirstChanged old new b → a ≡ b
  one_changed a b x y =
      let e : x.number ≡ y.number = one_number old (Stands new) x.number y.number x.shape y.shape x.was y.was x.changed y.changed x.before y.before in
      let same : x.shape ≡ y.shape = same_Some x.shape y.shape (sym x.was ∙ ap (λ (n : ℕ). structure_of old n) e ∙ y.was) in
      sym x.name_is ∙ ap (λ (s : Shape). s.name) same ∙ y.name_is

  one_lacking : (a b : List ℕ) → IsFirstLacking old new a → IsFirstLacking old new b → a ≡ b
  one_lacking a b x y =
      let e : x.number ≡ y.number = one_number old (λ n s. first_lacking old new n ≡ None) x.number y.number x.shape y.shape x.was y.was (λ none. none-some x.item (sym none ∙ x.lacks)) (λ none. none-some y.item (sym none ∙ y.lacks)) x.before y.before in
      let same : x.item ≡ y.item = same_Some x.item y.item (sym x.lacks ∙ ap (λ (n : ℕ). first_lacking old new n) e ∙ y.lacks) in
      sym x.name_is ∙ ap (λ (i : Item). i.name) same ∙ y.name_is

  -- where all stands none is changed, and where all is given none lacks a value
  unchanged : (a : List ℕ) → ((n : ℕ) (s : Shape) → structure_of old n ≡ Some s → Stands new n s) → IsFirstChanged old new a → ⊥
  unchanged a stand x = x.changed (stand x.number x.shape x.was)

  unlacking : (a : List ℕ) → Extends old new → IsFirstLacking old new a → ⊥
  unlacking a all x = none-some x.item (sym (all.given x.number x.shape x.was) ∙ x.lacks)

pub one_reason : HasOneReason
one_reason old new None None x y = refl
one_reason old new None (Some AuditTrail) x y = absurd (y x.audit)
one_reason old new None (Some (Changed b)) x y = absurd (unchanged old new b x.stand y.first)
one_reason old new None (Some (Required b)) x y = absurd (unlacking old new b x y.first)
one_reason old new None (Some (Duplicate b)) x y = absurd y
one_reason old new (Some AuditTrail) None x y = absurd (x y.audit)
one_reason old new (Some AuditTrail) (Some AuditTrail) x y = refl
one_reason old new (Some AuditTrail) (Some (Changed b)) x y = absurd (x y.audit)
one_reason old new (Some AuditTrail) (Some (Required b)) x y = absurd (x y.audit)
one_reason old new (Some AuditTrail) (Some (Duplicate b)) x y = absurd y
one_reason old new (Some (Changed a)) None x y = absurd (unchanged old new a y.stand x.first)
one_reason old new (Some (Changed a)) (Some AuditTrail) x y = absurd (y x.audit)
one_reason old new (Some (Changed a)) (Some (Changed b)) x y = ap (λ (n : List ℕ). Some (Changed n)) (one_changed old new a b x.first y.first)
one_reason old new (Some (Changed a)) (Some (Required b)) x y = absurd (unchanged old new a y.stand x.first)
one_reason old new (Some (Changed a)) (Some (Duplicate b)) x y = absurd y
one_reason old new (Some (Required a)) None x y = absurd (unlacking old new a y x.first)
one_reason old new (Some (Required a)) (Some AuditTrail) x y = absurd (y x.audit)
one_reason old new (Some (Required a)) (Some (Changed b)) x y = absurd (unchanged old new b x.stand y.first)
one_reason old new (Some (Required a)) (Some (Required b)) x y = ap (λ (n : List ℕ). Some (Required n)) (one_lacking old new a b x.first y.first)
one_reason old new (Some (Required a)) (Some (Duplicate b)) x y = absurd y
one_reason old new (Some (Duplicate a)) b x y = absurd x
