-- What the tokens of PARAMETERS and AUDIT TRAIL are.
use Rattle.std.specs.Prelude.{◌≤◌, ℕ, List, [], ◌∷◌, ◌++◌, codes, Some, None}
use Rattle.std.specs.declared.option.Option.{Option}
use Rattle.dms_base.specs.declared.op.Op.TheVariants.{Equal}
use Rattle.dms_tokens.specs.declared.token.Token.{Token}
use Rattle.dms_tokens.specs.declared.token.Token.TheVariants.{Word, Number, Sign, Compare}
use Rattle.dasdl_parse.specs.declared.parameters.ParameterPairs.{ParameterPairs}
use Rattle.dasdl_parse.specs.declared.parameters.AuditPairs.{AuditPairs}
use Rattle.dasdl_parse.specs.Parameters.{no_pairs, no_audit_pairs}

-- pairs with a comma between two, where a pair is what one more of them makes of what the others have said
pub data ArePairs {S : Type 0} (nothing : S) (pair : S → S → List Token → Type 0) : S → List Token → Type 0 where
  first_pair : (t : S) (xs : List Token) → pair nothing t xs → ArePairs nothing pair t xs
  next_pair : (s t : S) (xs ys : List Token) → ArePairs nothing pair s xs → pair s t ys → ArePairs nothing pair t (xs ++ (Sign 44 ∷ ys))

-- word = number unit
abbrev pub measure : List ℕ → ℕ → List ℕ → List Token
measure word n unit = Word word ∷ (Compare Equal ∷ (Number n ∷ (Word unit ∷ [])))

-- word = number
abbrev pub setting : List ℕ → ℕ → List Token
setting word n = Word word ∷ (Compare Equal ∷ (Number n ∷ []))

-- a pair that hasn't been said
pub data IsPair : ParameterPairs → ParameterPairs → List Token → Type 0 where
  says_syncpoint : (c b : Option ℕ) (n : ℕ) → 1 ≤ n → n ≤ 10000 → IsPair (record { syncpoint = None; controlpoint = c; buffers = b }) (record { syncpoint = Some n; controlpoint = c; buffers = b }) (measure (codes "SYNCPOINT") n (codes "TRANSACTIONS"))
  says_controlpoint : (s b : Option ℕ) (n : ℕ) → 1 ≤ n → n ≤ 10000 → IsPair (record { syncpoint = s; controlpoint = None; buffers = b }) (record { syncpoint = s; controlpoint = Some n; buffers = b }) (measure (codes "CONTROLPOINT") n (codes "SYNCPOINTS"))
  says_buffers : (s c : Option ℕ) (n : ℕ) → 8 ≤ n → n ≤ 4096 → IsPair (record { syncpoint = s; controlpoint = c; buffers = None }) (record { syncpoint = s; controlpoint = c; buffers = Some n }) (measure (codes "BUFFERS") n (codes "BLOCKS"))

pub data IsAuditPair : AuditPairs → AuditPairs → List Token → Type 0 where
  says_blocks : (f : Option ℕ) (n : ℕ) → 8 ≤ n → n ≤ 512 → IsAuditPair (record { blocks = None; files = f }) (record { blocks = Some n; files = f }) (setting (codes "BLOCKS") n)
  says_files : (b : Option ℕ) (n : ℕ) → 2 ≤ n → n ≤ 9999 → IsAuditPair (record { blocks = b; files = None }) (record { blocks = b; files = Some n }) (setting (codes "FILES") n)

-- PARAMETERS ( pair { , pair } ) ;
pub data AreParameters : ParameterPairs → List Token → Type 0 where
  parameters : (said : ParameterPairs) (xs : List Token) → ArePairs no_pairs IsPair said xs → AreParameters said (Word (codes "PARAMETERS") ∷ (Sign 40 ∷ (xs ++ (Sign 41 ∷ (Sign 59 ∷ [])))))

-- AUDIT TRAIL ( pair { , pair } ) ;
pub data IsTrail : AuditPairs → List Token → Type 0 where
  trail : (said : AuditPairs) (xs : List Token) → ArePairs no_audit_pairs IsAuditPair said xs → IsTrail said (Word (codes "AUDIT") ∷ (Word (codes "TRAIL") ∷ (Sign 40 ∷ (xs ++ (Sign 41 ∷ (Sign 59 ∷ []))))))
