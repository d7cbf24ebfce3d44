-- How a load ends, by the statuses of its steps.
use Rattle.std.proofs.Common.{◌≡◌, ◌≢◌, ◌++◌, ◌∙◌, ◌≤◌, ℕ, List, take, refl, ap, sym, subst, IsTrue}
use Rattle.dms_creation.specs.Clearing.{AllButDescriptionStay}
use Rattle.dms_desc.specs.Shape.{Described}
use Rattle.dms_loadcount.specs.Answers.{HoldsTooMany, load_text}
use Rattle.dms_loadrun.specs.Filling.{Fills, IsNew, Makes}
use Rattle.dms_loadrun.specs.LoadDoes.{LoadsOver}
use Rattle.dms_loadrun.specs.Loading.{EndsLoaded, Loads}
use Rattle.dms_loadrun.specs.Statuses.{IsOfAudit, IsOfFilling, IsOfLoad, IsOfLoadLimit, IsOfMaking, IsUnfound}
use Rattle.dms_loadrun.proofs.Loaded.{fills_audit, fills_loads, fills_others, makes_loads, says_loads}
use Rattle.dms_moments.specs.Moments.{Now, Steps}
use Rattle.dms_status.specs.Saying.{IsSpoken, SaysLine}
use Rattle.dms_site.specs.declared.site.Site.{Ghosts}
use Rattle.dms_site.specs.Files.{Files, Left, Only, PrintsPartOf}
use Rattle.dms_status.specs.declared.status.LimitKind.{LimitKind}
use Rattle.dms_status.specs.declared.status.LimitKind.TheVariants.{AuditFile, Lines, Bytes, Held}
use Rattle.dms_status.specs.declared.status.Status.{Status}
use Rattle.dms_status.specs.declared.status.Status.TheVariants.{Ok, BadWords, SchemaRefused, NoDatabase, Needed, InputFault, Memory, Limit, Damaged, SayFault, DiskFault, Exists, BadStatement, Reorganization, BadStream, Diverged, Flaw}

pub says_none : (s : Status) (text old new : List ℕ) → (IsSpoken s → ⊥) → new ≡ old → SaysLine s text old new
says_none Ok text old new un is = absurd (un tt)
says_none BadWords text old new un is = is
says_none (SchemaRefused f) text old new un is = is
says_none NoDatabase text old new un is = is
says_none (Needed n) text old new un is = is
says_none InputFault text old new un is = is
says_none Memory text old new un is = is
says_none (Limit k) text old new un is = is
says_none (Damaged f b) text old new un is = is
says_none SayFault text old new un is = absurd (un tt)
says_none DiskFault text old new un is = is
says_none Exists text old new un is = is
says_none (BadStatement p) text old new un is = is
says_none (Reorganization why) text old new un is = is
says_none (BadStream place) text old new un is = is
says_none (Diverged file block) text old new un is = is
says_none (Flaw flaw) text old new un is = is

pub making_loading : (s : Status) → IsOfMaking s → IsOfLoad s
making_loading Ok of = absurd of
making_loading BadWords of = absurd of
making_loading (SchemaRefused f) of = absurd of
making_loading NoDatabase of = absurd of
making_loading (Needed n) of = tt
making_loading InputFault of = absurd of
making_loading Memory of = tt
making_loading (Limit k) of = absurd of
making_loading (Damaged f b) of = absurd of
making_loading SayFault of = absurd of
making_loading DiskFault of = tt
making_loading Exists of = tt
making_loading (BadStatement p) of = absurd of
making_loading (Reorganization why) of = absurd of
making_loading (BadStream place) of = absurd of
making_loading (Diverged file block) of = absurd of
making_loading (Flaw flaw) of = absurd of

pub making_unspoken : (s : Status) → IsOfMaking s → IsSpoken s → ⊥
making_unspoken Ok of is = of
making_unspoken BadWords of is = is
making_unspoken (SchemaRefused f) of is = is
making_unspoken NoDatabase of is = is
making_unspoken (Needed n) of is = is
making_unspoken InputFault of is = is
making_unspoken Memory of is = is
making_unspoken (Limit k) of is = is
making_unspoken (Damaged f b) of is = is
making_unspoken SayFault of is = of
making_unspoken DiskFault of is = is
making_unspoken Exists of is = is
making_unspoken (BadStatement p) of is = is
making_unspoken (Reorganization why) of is = is
making_unspoken (BadStream place) of is = is
making_unspoken (Diverged file block) of is = is
making_unspoken (Flaw flaw) of is = is

limit_loading : (k : LimitKind) → IsOfAudit k → IsOfLoadLimit k
limit_loading (AuditFile f) of = tt
limit_loading Lines of = absurd of
limit_loading Bytes of = absurd of
limit_loading Held of = absurd of

pub filling_loading : (s : Status) → IsOfFilling s → IsOfLoad s
filling_loading Ok of = tt
filling_loading BadWords of = absurd of
filling_loading (SchemaRefused f) of = absurd of
filling_loading NoDatabase of = tt
filling_loading (Needed n) of = tt
filling_loading InputFault of = absurd of
filling_loading Memory of = tt
filling_loading (Limit k) of = limit_loading k of
filling_loading (Damaged f b) of = of
filling_loading SayFault of = absurd of
filling_loading DiskFault of = tt
filling_loading Exists of = absurd of
filling_loading (BadStatement p) of = absurd of
filling_loading (Reorganization why) of = absurd of
filling_loading (BadStream place) of = absurd of
filling_loading (Diverged file block) of = absurd of
filling_loading (Flaw flaw) of = absurd of

pub filling_unspoken : (s : Status) → IsOfFilling s → s ≢ Ok → IsSpoken s → ⊥
filling_unspoken Ok of other is = other refl
filling_unspoken BadWords of other is = is
filling_unspoken (SchemaRefused f) of other is = is
filling_unspoken NoDatabase of other is = is
filling_unspoken (Needed n) of other is = is
filling_unspoken InputFault of other is = is
filling_unspoken Memory of other is = is
filling_unspoken (Limit k) of other is = is
filling_unspoken (Damaged f b) of other is = is
filling_unspoken SayFault of other is = of
filling_unspoken DiskFault of other is = is
filling_unspoken Exists of other is = is
filling_unspoken (BadStatement p) of other is = is
filling_unspoken (Reorganization why) of other is = is
filling_unspoken (BadStream place) of other is = is
filling_unspoken (Diverged file block) of other is = is
filling_unspoken (Flaw flaw) of other is = is

pub filling_there : (s : Status) → IsOfFilling s → s ≡ Exists → ⊥
filling_there Ok of is = absurd cc
filling_there BadWords of is = absurd cc
filling_there (SchemaRefused f) of is = absurd cc
filling_there NoDatabase of is = absurd cc
filling_there (Needed n) of is = absurd cc
filling_there InputFault of is = absurd cc
filling_there Memory of is = absurd cc
filling_there (Limit k) of is = absurd cc
filling_there (Damaged f b) of is = absurd cc
filling_there SayFault of is = absurd cc
filling_there DiskFault of is = absurd cc
filling_there Exists of is = of
filling_there (BadStatement p) of is = absurd cc
filling_there (Reorganization why) of is = absurd cc
filling_there (BadStream place) of is = absurd cc
filling_there (Diverged file block) of is = absurd cc
filling_there (Flaw flaw) of is = absurd cc

audit_held : (k : LimitKind) → IsOfAudit k → Limit k ≡ Limit Held → ⊥
audit_held (AuditFile f) of is = absurd cc
audit_held Lines of is = of
audit_held Bytes of is = of
audit_held Held of is = of

pub filling_held : (s : Status) → IsOfFilling s → s ≡ Limit Held → ⊥
filling_held Ok of is = absurd cc
filling_held BadWords of is = absurd cc
filling_held (SchemaRefused f) of is = absurd cc
filling_held NoDatabase of is = absurd cc
filling_held (Needed n) of is = absurd cc
filling_held InputFault of is = absurd cc
filling_held Memory of is = absurd cc
filling_held (Limit k) of is = audit_held k of is
filling_held (Damaged f b) of is = absurd cc
filling_held SayFault of is = absurd cc
filling_held DiskFault of is = absurd cc
filling_held Exists of is = absurd cc
filling_held (BadStatement p) of is = absurd cc
filling_held (Reorganization why) of is = absurd cc
filling_held (BadStream place) of is = absurd cc
filling_held (Diverged file block) of is = absurd cc
filling_held (Flaw flaw) of is = absurd cc

pub making_limit : (s : Status) (k : LimitKind) → IsOfMaking s → s ≡ Limit k → ⊥
making_limit Ok l of is = absurd cc
making_limit BadWords l of is = absurd cc
making_limit (SchemaRefused f) l of is = absurd cc
making_limit NoDatabase l of is = absurd cc
making_limit (Needed n) l of is = absurd cc
making_limit InputFault l of is = absurd cc
making_limit Memory l of is = absurd cc
making_limit (Limit k) l of is = of
making_limit (Damaged f b) l of is = absurd cc
making_limit SayFault l of is = absurd cc
making_limit DiskFault l of is = absurd cc
making_limit Exists l of is = absurd cc
making_limit (BadStatement p) l of is = absurd cc
making_limit (Reorganization why) l of is = absurd cc
making_limit (BadStream place) l of is = absurd cc
making_limit (Diverged file block) l of is = absurd cc
making_limit (Flaw flaw) l of is = absurd cc

module _ {S : Type 0} (g : Ghosts S) (d : Described) (seed n : ℕ) (text : List ℕ) where
  -- the making of the database failed
  pub unmade : (old new : S) (s : Status) → IsOfMaking s → (IsTrue g.tells → IsUnfound s → ⊥) → (s ≡ Exists → IsTrue g.tells → ⊥) → (IsTrue g.tells → Makes d (g.files old) (g.clock old) (g.clock new)) → (IsTrue g.tells → AllButDescriptionStay (g.files old) (g.files new)) → g.said new ≡ g.said old
      → LoadsOver g d seed n text old new s
  unmade old new s of found exists makes others said = record {
    statuses = making_loading s of;
    found = found;
    exists = exists;
    every_moment = λ tells. makes_loads d seed n (g.files old) (g.clock old) (g.clock new) (makes tells);
    others = others;
    at_ok = λ spoken. absurd (making_unspoken s of spoken);
    at_ok_stable = λ spoken. absurd (making_unspoken s of spoken);
    full = λ k is. absurd (making_limit s (AuditFile k) of is);
    held = λ is. absurd (making_limit s Held of is);
    says = λ told. says_none s text (g.said old) (g.said new) (making_unspoken s of) said;
  }

  -- the database was made
  module _ (old mid new : S) (begun : IsTrue g.tells → IsNew d (g.files old) (g.files mid) (g.clock mid)) (makes : IsTrue g.tells → Makes d (g.files old) (g.clock old) (g.clock mid)) (made_said : g.said mid ≡ g.said old) where
    -- the run of the script didn't end
    pub unfilled : (s : Status) → IsOfFilling s → s ≢ Ok → Fills g d seed n mid new s → g.said new ≡ g.said mid → LoadsOver g d seed n text old new s
    unfilled s of other fills said = record {
      statuses = filling_loading s of;
      found = fills.found;
      exists = λ is. absurd (filling_there s of is);
      every_moment = λ tells. fills_loads g d seed n (g.files old) (g.clock old) mid new s tells (begun tells) (makes tells) fills;
      others = λ tells. fills_others g d seed n (g.files old) (g.clock old) mid new s tells (begun tells) (makes tells) fills;
      at_ok = λ spoken. absurd (filling_unspoken s of other spoken);
      at_ok_stable = λ spoken. absurd (filling_unspoken s of other spoken);
      full = λ k is tells. fills_audit g d seed n (g.files old) (g.clock old) mid new s tells (begun tells) (makes tells) fills k is;
      held = λ is. absurd (filling_held s of is);
      says = λ told. says_none s text (g.said old) (g.said new) (filling_unspoken s of other) (said ∙ made_said);
    }

    -- the summary was printed behind it, or a part of it
    module _ (filled : S) (fills : Fills g d seed n mid filled Ok) (fill_said : g.said filled ≡ g.said mid) (counted : (t : ℕ) (x : Left) → t ≤ (g.clock filled).now → Now (g.clock filled) x → (g.clock filled).left t x) (prints : Steps (PrintsPartOf text) (g.clock filled) (g.clock new)) (same : IsTrue g.tells → g.files new ≡ g.files filled) where
      ends : IsTrue g.tells → EndsLoaded d seed n (g.files new)
      ends tells = subst (λ (f : Files). EndsLoaded d seed n f) (sym (same tells)) (fills.ends refl tells).0

      only : IsTrue g.tells → Only (g.files new) (g.clock new)
      only tells x now = let from = prints.follows x now in from.2.files ∙ (fills.ends refl tells).1 from.0 from.1 ∙ sym (same tells)

      moments : IsTrue g.tells → Loads d seed n (g.files old) (g.clock old) (g.clock new)
      moments tells = says_loads g d seed n (g.files old) (g.clock old) mid filled Ok tells (begun tells) (makes tells) fills counted text (g.clock new) prints

      apart : IsTrue g.tells → AllButDescriptionStay (g.files old) (g.files new)
      apart tells = subst (λ (f : Files). AllButDescriptionStay (g.files old) f) (sym (same tells)) (fills_others g d seed n (g.files old) (g.clock old) mid filled Ok tells (begun tells) (makes tells) fills)

      pub done : (IsTrue g.tells_said → g.said new ≡ g.said filled ++ text) → LoadsOver g d seed n text old new Ok
      done says = record {
        statuses = tt;
        found = λ tells un. un;
        exists = λ is. absurd cc;
        every_moment = moments;
        others = apart;
        at_ok = λ spoken. ends;
        at_ok_stable = λ spoken. only;
        full = λ k is. absurd cc;
        held = λ is. absurd cc;
        says = λ told. says told ∙ ap (λ (l : List ℕ). l ++ text) (fill_said ∙ made_said);
      }

      pub cut : (IsTrue g.tells_said → (k : ℕ) × (g.said new ≡ g.said filled ++ take k text)) → LoadsOver g d seed n text old new SayFault
      cut says = record {
        statuses = tt;
        found = λ tells un. un;
        exists = λ is. absurd cc;
        every_moment = moments;
        others = apart;
        at_ok = λ spoken. ends;
        at_ok_stable = λ spoken. only;
        full = λ k is. absurd cc;
        held = λ is. absurd cc;
        says = λ told. let s = says told in (s.0, s.1 ∙ ap (λ (l : List ℕ). l ++ take s.0 text) (fill_said ∙ made_said));
      }
