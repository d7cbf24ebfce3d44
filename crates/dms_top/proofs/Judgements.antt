-- How the judging of a text ends.
use Rattle.std.proofs.Common.{◌≡◌, ◌<◌, ◌∙◌, ap, sym, Err, Ok, Some, None, Option, Result, List, ℕ, [], ◌∷◌, ◌++◌, length, nat_lt, true, IsOk, arith, subst, refl}
use Rattle.std.proofs.lemmas.Bool.Decides.{nat_tests}
use Rattle.std.proofs.lemmas.Option.{none-some, same_Some}
use Rattle.dasdl_phrases.specs.declared.fault.ParseFault.TheVariants.{TooMany}
use Rattle.dasdl_parse.specs.Grammar.{schema_of}
use Rattle.dms_desc.specs.Shape.{Described}
use Rattle.dms_feed.specs.Feeds.{Remains}
use Rattle.dms_status.specs.declared.status.Status.TheVariants.{SchemaRefused}
use Rattle.dms_status.specs.declared.status.SchemaFault.{SchemaFault}
use Rattle.dms_status.specs.declared.status.SchemaFault.TheVariants.{Parse}
use Rattle.dms_newdb.specs.Judging.{judge_schema}

same_fault : (e f : SchemaFault) → SchemaRefused e ≡ SchemaRefused f → e ≡ f
same_fault e f is = cc

-- a text of more than 1,000,000 bytes is refused for that
long_text : (text : List ℕ) → 1000000 < length text → judge_schema text ≡ Err (Parse (TooMany 1000000))
unfolding judge_schema schema_of
long_text text long = let e : nat_lt 1000000 (length text) ≡ true = grind (arith, nat_tests) in rw e refl

pub long_judged : (text : List ℕ) (f : SchemaFault) → SchemaRefused (Parse (TooMany 1000000)) ≡ SchemaRefused f → 1000000 < length text → judge_schema text ≡ Err f
long_judged text f is long = long_text text long ∙ ap (λ (e : SchemaFault). Err e) (same_fault _ f is)

pub refused_is : (e f : SchemaFault) (j : Result Described SchemaFault) → SchemaRefused e ≡ SchemaRefused f → j ≡ Err e → j ≡ Err f
refused_is e f j is was = was ∙ ap (λ (x : SchemaFault). Err x) (same_fault e f is)

pub ok_of : (d : Described) (j : Result Described SchemaFault) → j ≡ Ok d → IsOk j
ok_of d j is = subst (λ (x : Result Described SchemaFault). IsOk x) (sym is) refl

empty_front : (held xs : List ℕ) → held ++ xs ≡ [] → xs ≡ []
empty_front [] xs h = h
empty_front (b ∷ bs) xs h = absurd (cc)

-- where nothing remains, the source has nothing left
pub no_more : (held : List ℕ) (left : Option (List ℕ)) → Remains held left [] → left ≡ Some []
no_more held None h = absurd (none-some [] h)
no_more held (Some xs) h = ap (λ (l : List ℕ). Some l) (empty_front held xs (same_Some _ _ h))

pub no_more_over : (rest held : List ℕ) (left : Option (List ℕ)) → rest ≡ [] → Remains held left rest → left ≡ Some []
no_more_over rest held left none h = no_more held left (subst (λ (r : List ℕ). Remains held left r) none h)

-- with nothing held, what the source has left remains
pub at_start : (held : List ℕ) (left : Option (List ℕ)) (all : List ℕ) → held ≡ [] → left ≡ Some all → Remains held left all
at_start held left all none is = subst (λ (h : List ℕ). Remains h left all) (sym none) (subst (λ (l : Option (List ℕ)). Remains [] l all) (sym is) refl)
