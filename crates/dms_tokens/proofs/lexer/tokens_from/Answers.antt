use Rattle.std.proofs.Common.{◌≡◌, ◌+◌, ◌<◌, ◌++◌, ◌∷◌, [], ℕ, suc, List, length, get_or, drop, drop-cons, sym, ap, ◌∙◌, subst}
use Rattle.std.proofs.lemmas.List.{append-nil}
use Rattle.dms_tokens.specs.declared.token.Lexeme.{Lexeme}
use Rattle.dms_tokens.specs.declared.reading.Reading.{Reading}
use Rattle.dms_tokens.specs.declared.reading.Reading.TheVariants.{Between, Stopped}
use Rattle.dms_tokens.specs.Tokens.{byte_turn, tokens_from}
use Rattle.dms_tokens.proofs.WordScan.{stopped}
use Rattle.dms_tokens.proofs.lexer.tokens_from.Goals as goal

-- a byte that can't be read is the last
last : (reading : Reading) (place b : ℕ) (bs : List ℕ) (out new all : List Lexeme) → new ≡ out ++ (byte_turn reading place b).0 → (byte_turn reading place b).1 ≡ Stopped → out ++ tokens_from reading place (b ∷ bs) ≡ all → new ≡ all
last reading place b bs out new all n s e =
    let r : tokens_from (byte_turn reading place b).1 (place + 1) bs ≡ [] = rw s (stopped (place + 1) bs) in
    let t : (byte_turn reading place b).0 ++ tokens_from (byte_turn reading place b).1 (place + 1) bs ≡ (byte_turn reading place b).0 = ap (λ (ls : List Lexeme). (byte_turn reading place b).0 ++ ls) r ∙ append-nil _ in
    n ∙ sym (ap (λ (ls : List Lexeme). out ++ ls) t) ∙ e

pub returns-in-Stopped : goal.returns-in-Stopped
returns-in-Stopped c =
    let h : c.loop-b.b-index < length c.args.text.now = c.loop-b-test.true in
    last c.loop-b.reading c.loop-b.place (get_or c.args.text.now c.loop-b.b-index 0) (drop (suc c.loop-b.b-index) c.args.text.now) c.loop-b.out _ _ c.in_ok-reading.ensures.given (sym c.in_ok-reading.ensures.reading ∙ c.in-Stopped.is)
    (subst (λ (xs : List ℕ). c.loop-b.out ++ tokens_from c.loop-b.reading c.loop-b.place xs ≡ tokens_from Between c.args.first c.args.text.now) (drop-cons c.args.text.now c.loop-b.b-index 0 h) c.loop-b.invariant.same)
