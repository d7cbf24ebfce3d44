-- PARAMETERS and AUDIT TRAIL.
use Rattle.std.specs.Prelude.{ℕ, List, ◌&&◌, codes, is_none, Some, None, if◌then◌else◌}
use Rattle.std.specs.declared.result.Result.TheVariants.{Ok, Err}
use Rattle.dms_tokens.specs.declared.token.Lexeme.{Lexeme}
use Rattle.dasdl_phrases.specs.Reads.{Read, ◌>>=◌}
use Rattle.dms_tokens.specs.Cursors.{starts, is_word}
use Rattle.dasdl_phrases.specs.Cursors.{fault_at, word_at, sign_at, equal_at, number_at, turns_at, until_close}
use Rattle.dasdl_parse.specs.declared.parameters.ParameterPairs.{ParameterPairs}
use Rattle.dasdl_parse.specs.declared.parameters.AuditPairs.{AuditPairs}

abbrev pub no_pairs : ParameterPairs
no_pairs = record { syncpoint = None; controlpoint = None; buffers = None }

abbrev pub no_audit_pairs : AuditPairs
no_audit_pairs = record { blocks = None; files = None }

-- word = number
unfoldable pub setting_at : List ℕ → ℕ → ℕ → List Lexeme → Read ℕ
setting_at word low high ts = do
  t1 ← word_at word ts
  t2 ← equal_at t1
  number_at low high t2

-- word = number unit
unfoldable pub measure_at : List ℕ → ℕ → ℕ → List ℕ → List Lexeme → Read ℕ
measure_at word low high unit ts = do
  n ← setting_at word low high ts
  t1 ← word_at unit n.1
  Ok (n.0, t1)

-- a pair whose word hasn't been said
unfoldable pub pair_at : ParameterPairs → List Lexeme → Read ParameterPairs
pair_at p ts =
    if starts (is_word (codes "SYNCPOINT")) ts && is_none p.syncpoint then (do
      n ← measure_at (codes "SYNCPOINT") 1 10000 (codes "TRANSACTIONS") ts
      Ok (record { syncpoint = Some n.0; controlpoint = p.controlpoint; buffers = p.buffers }, n.1))
    else (if starts (is_word (codes "CONTROLPOINT")) ts && is_none p.controlpoint then (do
      n ← measure_at (codes "CONTROLPOINT") 1 10000 (codes "SYNCPOINTS") ts
      Ok (record { syncpoint = p.syncpoint; controlpoint = Some n.0; buffers = p.buffers }, n.1))
    else (if starts (is_word (codes "BUFFERS")) ts && is_none p.buffers then (do
      n ← measure_at (codes "BUFFERS") 8 4096 (codes "BLOCKS") ts
      Ok (record { syncpoint = p.syncpoint; controlpoint = p.controlpoint; buffers = Some n.0 }, n.1))
    else Err (fault_at ts)))

-- , pair
unfoldable pub next_pair_at : ParameterPairs → List Lexeme → Read ParameterPairs
next_pair_at p ts = do
  t1 ← sign_at 44 ts
  pair_at p t1

-- PARAMETERS ( pair { , pair } ) ;
unfoldable pub parameters_at : List Lexeme → Read ParameterPairs
parameters_at ts = do
  t1 ← word_at (codes "PARAMETERS") ts
  t2 ← sign_at 40 t1
  first ← pair_at no_pairs t2
  all ← turns_at until_close next_pair_at first.0 first.1
  t3 ← sign_at 41 all.1
  t4 ← sign_at 59 t3
  Ok (all.0, t4)

unfoldable pub audit_pair_at : AuditPairs → List Lexeme → Read AuditPairs
audit_pair_at p ts =
    if starts (is_word (codes "BLOCKS")) ts && is_none p.blocks then (do
      n ← setting_at (codes "BLOCKS") 8 512 ts
      Ok (record { blocks = Some n.0; files = p.files }, n.1))
    else (if starts (is_word (codes "FILES")) ts && is_none p.files then (do
      n ← setting_at (codes "FILES") 2 9999 ts
      Ok (record { blocks = p.blocks; files = Some n.0 }, n.1))
    else Err (fault_at ts))

unfoldable pub next_audit_pair_at : AuditPairs → List Lexeme → Read AuditPairs
next_audit_pair_at p ts = do
  t1 ← sign_at 44 ts
  audit_pair_at p t1

-- AUDIT TRAIL ( pair { , pair } ) ;
unfoldable pub audit_at : List Lexeme → Read AuditPairs
audit_at ts = do
  t1 ← word_at (codes "AUDIT") ts
  t2 ← word_at (codes "TRAIL") t1
  t3 ← sign_at 40 t2
  first ← audit_pair_at no_audit_pairs t3
  all ← turns_at until_close next_audit_pair_at first.0 first.1
  t4 ← sign_at 41 all.1
  t5 ← sign_at 59 t4
  Ok (all.0, t5)
