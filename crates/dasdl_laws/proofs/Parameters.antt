-- Each parameter that a text says is in its range, and so is each that it leaves.
use Rattle.std.proofs.Common.{◌≡◌, ◌≤◌, ℕ, List, Bool, true, false, subst, arith, IsTrue}
use Rattle.std.proofs.lemmas.Bool.Decides.{nat_tests}
use Rattle.std.specs.Prelude.{Some, None}
use Rattle.std.specs.declared.option.Option.{Option}
use Rattle.std.specs.declared.result.Result.TheVariants.{Ok}
use Rattle.std.proofs.lemmas.Bool.{and_from}
use Rattle.dms_desc.specs.Shape.{Described}
use Rattle.dms_desc_bytes.specs.Lists.{is_within}
use Rattle.dms_desc_bytes.specs.WellFormed.{has_parameters}
use Rattle.dasdl_parse.specs.Grammar.{schema_of}
use Rattle.dasdl_parse.specs.Sets.{or_else}
use Rattle.dasdl_parse.specs.Parameters.{no_pairs, no_audit_pairs}
use Rattle.dasdl_parse.specs.declared.schema.Schema.{Schema}
use Rattle.dasdl_parse.specs.declared.schema.Parameters.{Parameters}
use Rattle.dasdl_parse.specs.declared.parameters.ParameterPairs.{ParameterPairs}
use Rattle.dasdl_parse.specs.declared.parameters.AuditPairs.{AuditPairs}
use Rattle.dms_tokens.specs.declared.token.Token.{Token}
use Rattle.dms_tokens.specs.declared.token.Lexeme.{Lexeme}
use Rattle.dasdl_parse.specs.declared.declarations.Declaration.{Declaration}
use Rattle.dasdl_grammar.specs.ParameterSpelling.{ArePairs, IsPair, IsAuditPair, AreParameters, IsTrail}
use Rattle.dasdl_grammar.specs.ParameterSpelling.ArePairs.{first_pair, next_pair}
use Rattle.dasdl_grammar.specs.ParameterSpelling.IsPair.{says_syncpoint, says_controlpoint, says_buffers}
use Rattle.dasdl_grammar.specs.ParameterSpelling.IsAuditPair.{says_blocks, says_files}
use Rattle.dasdl_grammar.specs.ParameterSpelling.AreParameters.{parameters}
use Rattle.dasdl_grammar.specs.ParameterSpelling.IsTrail.{trail}
use Rattle.dasdl_grammar.specs.SchemaSpelling.{Declares}
use Rattle.dasdl_grammar.specs.SchemaSpelling.Declares.{no_declaration, then_parameters, then_audit, then_structure}
use Rattle.dasdl_grammar.proofs.SchemaSound.{text_sound}
use Rattle.dasdl_compile.specs.Compile.{compile_schema, description_of}
use Rattle.dasdl_compile.specs.declared.draft.Draft.{Draft}
use Rattle.dasdl_laws.proofs.Compiling.{compiled_by}

-- none, or within its range
abbrev IsSaid : ℕ → ℕ → Option ℕ → Type 0
IsSaid low high None = Unit {0}
IsSaid low high (Some n) = (low ≤ n) × (n ≤ high)

record Paired (p : ParameterPairs) : Type 0 where
  sync : IsSaid 1 10000 p.syncpoint
  control : IsSaid 1 10000 p.controlpoint
  buffers : IsSaid 8 4096 p.buffers

record AuditPaired (p : AuditPairs) : Type 0 where
  blocks : IsSaid 8 512 p.blocks
  files : IsSaid 2 9999 p.files

one_pair : (s t : ParameterPairs) (xs : List Token) → IsPair s t xs → Paired s → Paired t
one_pair _ _ _ (says_syncpoint c b n low high) h = record { sync = (low, high); control = h.control; buffers = h.buffers }
one_pair _ _ _ (says_controlpoint s b n low high) h = record { sync = h.sync; control = (low, high); buffers = h.buffers }
one_pair _ _ _ (says_buffers s c n low high) h = record { sync = h.sync; control = h.control; buffers = (low, high) }

all_pairs : (t : ParameterPairs) (xs : List Token) → ArePairs no_pairs IsPair t xs → Paired t
all_pairs _ _ (first_pair t xs p) = one_pair no_pairs t xs p (record { sync = tt; control = tt; buffers = tt })
all_pairs _ _ (next_pair s t xs ys l p) = one_pair s t ys p (all_pairs s xs l)

one_audit_pair : (s t : AuditPairs) (xs : List Token) → IsAuditPair s t xs → AuditPaired s → AuditPaired t
one_audit_pair _ _ _ (says_blocks f n low high) h = record { blocks = (low, high); files = h.files }
one_audit_pair _ _ _ (says_files b n low high) h = record { blocks = h.blocks; files = (low, high) }

all_audit_pairs : (t : AuditPairs) (xs : List Token) → ArePairs no_audit_pairs IsAuditPair t xs → AuditPaired t
all_audit_pairs _ _ (first_pair t xs p) = one_audit_pair no_audit_pairs t xs p (record { blocks = tt; files = tt })
all_audit_pairs _ _ (next_pair s t xs ys l p) = one_audit_pair s t ys p (all_audit_pairs s xs l)

said_pairs : (said : ParameterPairs) (xs : List Token) → AreParameters said xs → Paired said
said_pairs _ _ (parameters said xs l) = all_pairs said xs l

said_audit_pairs : (said : AuditPairs) (xs : List Token) → IsTrail said xs → AuditPaired said
said_audit_pairs _ _ (trail said xs l) = all_audit_pairs said xs l

record Ranged (p : Parameters) : Type 0 where
  sync : (1 ≤ p.syncpoint) × (p.syncpoint ≤ 10000)
  control : (1 ≤ p.controlpoint) × (p.controlpoint ≤ 10000)
  buffers : (8 ≤ p.buffers) × (p.buffers ≤ 4096)
  blocks : (8 ≤ p.blocks) × (p.blocks ≤ 512)
  files : (2 ≤ p.files) × (p.files ≤ 9999)

or_default : (low high default : ℕ) (o : Option ℕ) → low ≤ default → default ≤ high → IsSaid low high o → (low ≤ or_else default o) × (or_else default o ≤ high)
or_default low high default None a b h = (a, b)
or_default low high default (Some n) a b h = h

ranged : (p : Parameters) (b a : Bool) (ds : List Declaration) (us : List Lexeme) → Declares p b a ds us → Ranged p
ranged _ _ _ _ _ no_declaration = record { sync = (omega arith, omega arith); control = (omega arith, omega arith); buffers = (omega arith, omega arith); blocks = (omega arith, omega arith); files = (omega arith, omega arith) }
ranged _ _ _ _ _ (then_parameters p a ds us said vs d q) =
    let h = ranged p false a ds us d in
    let s = said_pairs said _ q in
    record { sync = or_default 1 10000 100 said.syncpoint (omega arith) (omega arith) s.sync; control = or_default 1 10000 10 said.controlpoint (omega arith) (omega arith) s.control; buffers = or_default 8 4096 256 said.buffers (omega arith) (omega arith) s.buffers; blocks = h.blocks; files = h.files }
ranged _ _ _ _ _ (then_audit p b ds us said vs d q) =
    let h = ranged p b false ds us d in
    let s = said_audit_pairs said _ q in
    record { sync = h.sync; control = h.control; buffers = h.buffers; blocks = or_default 8 512 512 said.blocks (omega arith) (omega arith) s.blocks; files = or_default 2 9999 9999 said.files (omega arith) (omega arith) s.files }
ranged _ _ _ _ _ (then_structure p b a ds us es vs d m) = ranged p b a ds us d

within : (low high n : ℕ) → (low ≤ n) × (n ≤ high) → is_within low high n ≡ true
within low high n h =
    let a : low ≤ n = h.0 in
    let b : n ≤ high = h.1 in
    grind (arith, nat_tests)

ranges_hold : (p : Parameters) (ds : List Draft) → Ranged p → has_parameters (description_of p ds) ≡ true
unfolding has_parameters
ranges_hold p ds h =
    and_from _ _ (and_from _ _ (and_from _ _ (and_from _ _ (within 1 10000 p.syncpoint h.sync) (within 1 10000 p.controlpoint h.control)) (within 8 4096 p.buffers h.buffers)) (within 8 512 p.blocks h.blocks)) (within 2 9999 p.files h.files)

pub in_range : (text : List ℕ) (s : Schema) (d : Described) → schema_of text ≡ Ok s → compile_schema s.parameters s.declarations ≡ Ok d → IsTrue (has_parameters d)
in_range text s d read made =
    let g = (text_sound text s read).0 in
    let c = compiled_by s.parameters s.declarations d made in
    subst (λ (x : Described). has_parameters x ≡ true) c.made.is (ranges_hold s.parameters c.work.made (ranged s.parameters g.has_parameters g.has_audit s.declarations g.used g.declares))
