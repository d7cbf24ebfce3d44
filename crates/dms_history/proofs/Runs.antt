-- What keeps entries and stored blocks sound.
use Rattle.std.proofs.Common.{ℕ, ◌<◌, ◌≡◌, ◌||◌, inl, inr, Bool, true, false, cond, List, [], ◌∷◌, ◌++◌, length, Option, Some, None, refl, sym, ◌∙◌, ap, subst}
use Rattle.std.proofs.lemmas.Bool.{cases_Bool, true≢false}
use Rattle.dms_history.specs.Events.{BlockBytes, AllBlocks, Event, change, quiet, control, begin, block_in}
use Rattle.dms_history.specs.Replay.{TellsBefore, Chain, replay, with_block}
use Rattle.dms_history.specs.Images.{is_at, last_after}
use Rattle.dms_history.specs.Lists.{has, after_last}
use Rattle.dms_history.specs.Places.{is_control}
use Rattle.dms_history.specs.LawsOfRunning.{ChangesBlock, Quiets, WritesEarly, Controls}
use Rattle.dms_history.proofs.Picks.{or_none, last_append, tells_le, write_other, write_old, place_cases}
use Rattle.dms_history.proofs.AtPoints.{replay_append}
use Rattle.dms_history.proofs.HalfDone.{chain_control}

chain_push : (es : List Event) (c : AllBlocks) (f b : ℕ) (before : Option BlockBytes) (after : BlockBytes) → Chain es c → TellsBefore b before (replay es c f) → Chain (es ++ change f b before after ∷ []) c
chain_push [] c f b before after chain tells = (tells, tt)
chain_push (change g k old new ∷ es) c f b before after chain tells = (chain.0, chain_push es (with_block c g k new) f b before after chain.1 tells)
chain_push (quiet n ∷ es) c f b before after chain tells = chain_push es c f b before after chain tells
chain_push (control n next counts described ∷ es) c f b before after chain tells = (chain.0, chain_push es c f b before after chain.1 tells)
chain_push (begin n how ∷ es) c f b before after chain tells = absurd chain

chain_quiet : (es : List Event) (c : AllBlocks) (n : ℕ) → Chain es c → Chain (es ++ quiet n ∷ []) c
chain_quiet [] c n chain = tt
chain_quiet (change g k old new ∷ es) c n chain = (chain.0, chain_quiet es (with_block c g k new) n chain.1)
chain_quiet (quiet m ∷ es) c n chain = chain_quiet es c n chain
chain_quiet (control m next counts described ∷ es) c n chain = (chain.0, chain_quiet es c n chain.1)
chain_quiet (begin m how ∷ es) c n chain = absurd chain

or_nothing : (b : Bool) → b || false ≡ b
or_nothing true = refl
or_nothing false = refl

pub has_push : (p : Event → Bool) (es : List Event) (x : Event) → p x ≡ false → has p (es ++ x ∷ []) ≡ has p es
has_push p [] x off = ap (λ b. b || false) off
has_push p (e ∷ es) x off = ap (λ b. p e || b) (has_push p es x off)

-- behind the last Control there is one entry more
pub after_push : (p : Event → Bool) (es : List Event) (x : Event) → p x ≡ false → after_last p (es ++ x ∷ []) ≡ after_last p es ++ x ∷ []
after_push p [] x off = ap (λ b. cond (b || false) [] (x ∷ [])) off
after_push p (e ∷ es) x off = elim (cases_Bool (has p (e ∷ es))) [
  | inl found ↦
      ap (λ b. cond (p e || b) (after_last p (es ++ x ∷ [])) (e ∷ (es ++ x ∷ []))) (has_push p es x off)
      ∙ ap (λ b. cond b (after_last p (es ++ x ∷ [])) (e ∷ (es ++ x ∷ []))) found ∙ after_push p es x off
      ∙ sym (ap (λ b. cond b (after_last p es) (e ∷ es) ++ x ∷ []) found)
  | inr none ↦
      ap (λ b. cond (p e || b) (after_last p (es ++ x ∷ [])) (e ∷ (es ++ x ∷ []))) (has_push p es x off)
      ∙ ap (λ b. cond b (after_last p (es ++ x ∷ [])) (e ∷ (es ++ x ∷ []))) none
      ∙ sym (ap (λ b. cond b (after_last p es) (e ∷ es) ++ x ∷ []) none)
]

if_none : (b : Bool) (x : BlockBytes) → cond b (Some x) None ≡ None → b ≡ false
if_none true x e = absurd cc
if_none false x e = refl

pub changes : ChangesBlock
changes entries base stored f b before after sound tells =
    let e = change f b before after in
    let now = replay entries base in
    let le = tells_le b before (now f) tells in
    let grown : replay (entries ++ e ∷ []) base ≡ with_block now f b after = replay_append entries (e ∷ []) base in
    record {
      chain = chain_push entries base f b before after sound.chain tells;
      stands = λ g k low none.
          let more : last_after g k (after_last is_control entries ++ e ∷ []) ≡ None = ap (λ (l : List Event). last_after g k l) (sym (after_push is_control entries e refl)) ∙ none in
          let both = or_none (last_after g k (e ∷ [])) (last_after g k (after_last is_control entries)) (sym (last_append (after_last is_control entries) (e ∷ []) g k) ∙ more) in
          let off : is_at g k f b ≡ false = if_none (is_at g k f b) after both.0 in
          elim (place_cases g k f b) [
            | inl place ↦ absurd (true≢false (sym place.2 ∙ off))
            | inr apart ↦
                let counted : k < length (with_block now f b after g) = subst (λ (c : AllBlocks). k < length (c g)) grown low in
                let old : k < length (now g) = write_old now f b after g k le apart.0 counted in
                sound.stands g k old both.1 ∙ sym (write_other now f b after g k le apart.0 old) ∙ ap (λ (c : AllBlocks). block_in c g k) (sym grown)
          ];
    }

pub quiets : Quiets
quiets entries base stored n sound =
    let same : replay (entries ++ quiet n ∷ []) base ≡ replay entries base = replay_append entries (quiet n ∷ []) base in
    record {
      chain = chain_quiet entries base n sound.chain;
      stands = λ f b low none.
          let more : last_after f b (after_last is_control entries ++ quiet n ∷ []) ≡ None = ap (λ (l : List Event). last_after f b l) (sym (after_push is_control entries (quiet n) refl)) ∙ none in
          let both = or_none (last_after f b (quiet n ∷ [])) (last_after f b (after_last is_control entries)) (sym (last_append (after_last is_control entries) (quiet n ∷ []) f b) ∙ more) in
          sound.stands f b (subst (λ (c : AllBlocks). b < length (c f)) same low) both.1 ∙ ap (λ (c : AllBlocks). block_in c f b) (sym same);
    }

pub writes_early : WritesEarly
writes_early entries base stored written sound same = record {
  chain = sound.chain;
  stands = λ f b low none. same f b low none ∙ sound.stands f b low none;
}

pub controls : Controls
controls entries base stored written n next counts described sound count stand =
    let same : replay (entries ++ control n next counts described ∷ []) base ≡ replay entries base = replay_append entries (control n next counts described ∷ []) base in
    record {
      chain = chain_control entries base n next counts described sound.chain count;
      stands = λ f b low none. stand f b (subst (λ (c : AllBlocks). b < length (c f)) same low) ∙ ap (λ (c : AllBlocks). block_in c f b) (sym same);
    }
