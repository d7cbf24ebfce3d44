-- What `utility` does, from what reading its input and carrying out its statement do.
use Rattle.std.proofs.Common.{ℕ, ◌≡◌, ◌∙◌, inl, inr, List, Option, Some, arith, refl, sym, ap, subst}
use Rattle.std.specs.declared.result.Result.{Result}
use Rattle.std.specs.declared.result.Result.TheVariants as answer
use Rattle.dms_moments.specs.MomentLaws.{runs_none}
use Rattle.dms_site.specs.declared.site.Site.{Ghosts}
use Rattle.dms_site.specs.declared.source.Source as source
use Rattle.dms_recovery.specs.declared.wanted.Wanted.TheVariants as meant
use Rattle.dms_restore.specs.GrowLaws.{kept_none, left_none}
use Rattle.dms_statelaws.proofs.Statements.{rollback_law, rebuild_law, reconstruct_law}
use Rattle.dms_statements.specs.Statements.{statement_of}
use Rattle.dms_statements.specs.declared.statement.NamedRow.{NamedRow}
use Rattle.dms_statements.specs.declared.statement.Statement.{Statement}
use Rattle.dms_statements.specs.declared.statement.Statement.TheVariants.{Dump, Rebuild, Rollback, Reconstruct}
use Rattle.dms_status.specs.declared.status.LimitKind.TheVariants.{AuditFile}
use Rattle.dms_status.specs.declared.status.NeedFault.{NeedFault}
use Rattle.dms_status.specs.declared.status.NeedFault.TheVariants.{NoDescription, AuditMissing, AuditUnsealed, AuditForeign, NoSuchPoint, Voided, DumpMissing, DumpUnsealed, DumpForeign, DumpLater, NoSuchRow}
use Rattle.dms_status.specs.declared.status.Status.{Status}
use Rattle.dms_status.specs.declared.status.Status.TheVariants.{Ok, BadWords, SchemaRefused, NoDatabase, Needed, InputFault, Memory, Limit, Damaged, SayFault, DiskFault, Exists, BadStatement, Reorganization, BadStream, Diverged, Flaw}
use Rattle.dms_dumping.specs.Filling.{FillsTrail}
use Rattle.dms_guard.specs.Statuses.{IsOfOpening, IsRefusal}
use Rattle.dms_dumping.specs.DumpDoes.{DumpDoes}
use Rattle.dms_dumping.specs.Preparing.{IsUndone}
use Rattle.dms_dumping.specs.Statuses.{IsDumpRefusal, IsOfDump, IsOfReading}
use Rattle.dms_status.specs.Saying.{IsSpoken, SaysLine}
use Rattle.dms_goback.specs.RebuildDoes.{RebuildDoes}
use Rattle.dms_goback.specs.ReconstructDoes.{IsOfReconstruct, ReconstructDoes}
use Rattle.dms_goback.specs.Restores.{IsOfRestore}
use Rattle.dms_goback.specs.RollbackDoes.{RollbackDoes}
use Rattle.dms_goback.proofs.Backs.{trail_none, beside_none, rolls_none, rebuilds_none}
use Rattle.dms_utility.specs.Asking.{IsOfText, bad_place}
use Rattle.dms_utility.specs.Statuses.{IsOfStatement, IsOfUtility}
use Rattle.dms_utility.specs.UtilityDoes.{UtilityDoes}

-- ---- statuses

-- what holds of each status that comes before a statement is known
by_text : (P : Status → Type 0) → P InputFault → P Memory → ((q : ℕ) → P (BadStatement q)) → (s : Status) → IsOfText s → P s
by_text P input memory bad Ok p = absurd p
by_text P input memory bad BadWords p = absurd p
by_text P input memory bad (SchemaRefused f) p = absurd p
by_text P input memory bad NoDatabase p = absurd p
by_text P input memory bad (Needed n) p = absurd p
by_text P input memory bad InputFault p = input
by_text P input memory bad Memory p = memory
by_text P input memory bad (Limit k) p = absurd p
by_text P input memory bad (Damaged f b) p = absurd p
by_text P input memory bad SayFault p = absurd p
by_text P input memory bad DiskFault p = absurd p
by_text P input memory bad Exists p = absurd p
by_text P input memory bad (BadStatement q) p = bad q
by_text P input memory bad (Reorganization why) p = absurd p
by_text P input memory bad (BadStream place) p = absurd p
by_text P input memory bad (Diverged file block) p = absurd p
by_text P input memory bad (Flaw flaw) p = absurd p

-- no other one is one of them
text_no : (s t : Status) → (IsOfText t → ⊥) → IsOfText s → s ≡ t → ⊥
text_no s t none p is = none (subst IsOfText is p)

pub text_no_ok : (s : Status) → IsOfText s → s ≡ Ok → ⊥
text_no_ok s = text_no s Ok (λ q. q)

pub text_no_disk : (s : Status) → IsOfText s → s ≡ DiskFault → ⊥
text_no_disk s = text_no s DiskFault (λ q. q)

pub text_no_say : (s : Status) → IsOfText s → s ≡ SayFault → ⊥
text_no_say s = text_no s SayFault (λ q. q)

text_room : {S : Type 0} (g : Ghosts S) (old new : S) (s : Status) → IsOfText s → FillsTrail g old new s
text_room g old new s p k is tells = absurd (text_no s (Limit (AuditFile k)) (λ q. q) p is)

text_says : (line said : List ℕ) (s : Status) → IsOfText s → SaysLine s line said said
text_says line said = by_text (λ s. SaysLine s line said said) refl refl (λ q. refl)

text_unmade : (s : Status) → IsOfText s → IsSpoken s → ⊥
text_unmade = by_text (λ s. IsSpoken s → ⊥) (λ r. r) (λ r. r) (λ q r. r)

-- the statuses of a statement are those of `utility`

opening_needs : (n : NeedFault) → IsOfOpening n → IsOfStatement n
opening_needs NoDescription p = p
opening_needs (AuditMissing k) p = tt
opening_needs (AuditUnsealed k) p = tt
opening_needs (AuditForeign k) p = tt
opening_needs (NoSuchPoint n) p = tt
opening_needs (Voided n) p = tt
opening_needs (DumpMissing d) p = tt
opening_needs (DumpUnsealed d) p = tt
opening_needs (DumpForeign d) p = tt
opening_needs (DumpLater d n) p = tt
opening_needs (NoSuchRow name r) p = absurd p

pub dump_of_utility : (s : Status) → IsOfDump s → IsOfUtility s
dump_of_utility Ok p = tt
dump_of_utility BadWords p = p
dump_of_utility (SchemaRefused f) p = p
dump_of_utility NoDatabase p = tt
dump_of_utility (Needed n) p = opening_needs n p
dump_of_utility InputFault p = tt
dump_of_utility Memory p = tt
dump_of_utility (Limit k) p = p
dump_of_utility (Damaged f b) p = tt
dump_of_utility SayFault p = tt
dump_of_utility DiskFault p = tt
dump_of_utility Exists p = tt
dump_of_utility (BadStatement q) p = absurd p
dump_of_utility (Reorganization why) p = absurd p
dump_of_utility (BadStream place) p = absurd p
dump_of_utility (Diverged file block) p = absurd p
dump_of_utility (Flaw flaw) p = absurd p

pub restore_of_utility : (s : Status) → IsOfRestore s → IsOfUtility s
restore_of_utility Ok p = tt
restore_of_utility BadWords p = p
restore_of_utility (SchemaRefused f) p = p
restore_of_utility NoDatabase p = tt
restore_of_utility (Needed n) p = opening_needs n p
restore_of_utility InputFault p = tt
restore_of_utility Memory p = tt
restore_of_utility (Limit k) p = p
restore_of_utility (Damaged f b) p = tt
restore_of_utility SayFault p = tt
restore_of_utility DiskFault p = tt
restore_of_utility Exists p = absurd p
restore_of_utility (BadStatement q) p = absurd p
restore_of_utility (Reorganization why) p = absurd p
restore_of_utility (BadStream place) p = absurd p
restore_of_utility (Diverged file block) p = absurd p
restore_of_utility (Flaw flaw) p = absurd p

pub rows_of_utility : (s : Status) → IsOfReconstruct s → IsOfUtility s
rows_of_utility s (inl of) = restore_of_utility s of
rows_of_utility s (inr none) = subst IsOfUtility (sym none.is) tt

-- ---- what it doesn't end with

pub taken_no_input : (s : Status) → (IsOfReading s → ⊥) → s ≡ InputFault → ⊥
taken_no_input s taken is = taken (subst IsOfReading (sym is) tt)

taken_no_bad : (s : Status) (p : ℕ) → (IsOfReading s → ⊥) → s ≡ BadStatement p → ⊥
taken_no_bad s p taken is = taken (subst IsOfReading (sym is) tt)

-- a statement was read, and so nothing failed
pub no_fault : (x : Statement) (s : Status) → answer.Ok x ≡ answer.Err s → ⊥
no_fault x s e = absurd cc

-- ---- statements

ok_err : (s : Statement) (p : ℕ) (r : Result Statement ℕ) → r ≡ answer.Ok s → r ≡ answer.Err p → ⊥
ok_err s p r one two = apart (sym one ∙ two)
  where
    apart : answer.Ok s ≡ answer.Err p → ⊥
    apart e = absurd cc

same_statement : (s t : Statement) (r : Result Statement ℕ) → r ≡ answer.Ok s → r ≡ answer.Ok t → s ≡ t
same_statement s t r one two = same_ok (sym one ∙ two)
  where
    same_ok : (let r : Result Statement ℕ = answer.Ok s in r) ≡ answer.Ok t → s ≡ t
    same_ok e = cc

-- ---- nothing was done

module _ {S : Type 0} (g : Ghosts S) (old : S) (status : Status) (text : IsOfText status) (not : (p : ℕ) → status ≡ BadStatement p → ⊥) where
  -- a status of it, but that of a bad statement, is one of these
  of_text : (P : Status → Type 0) → P InputFault → P Memory → P status
  of_text P input memory = by_text (λ s. ((p : ℕ) → s ≡ BadStatement p → ⊥) → P s) (λ n. input) (λ n. memory) (λ q n. absurd (n q refl)) status text not

  none_done : IsUndone g old old status
  none_done = record { unmade = text_unmade status text; files = refl; moments = record { follows = λ x now. (x, now, refl); runs = runs_none (g.clock old) _ } }

  no_dump : (d : ℕ) → DumpDoes g d old old status
  no_dump d = record {
    statuses = of_text IsOfDump tt tt;
    refused = λ is. absurd (of_text (λ s. IsDumpRefusal s → ⊥) (λ r. r) (λ r. r) is);
    opens = λ tells. inr none_done;
    complete = λ tells total first openable shut is. of_text (λ s. IsDumpRefusal s → ⊥) (λ r. r) (λ r. r) is;
    full = text_room g old old status text;
    trail = λ tells s is. record { kept = λ total first found. kept_none total first (g.files old); left = λ total first found. left_none total first (g.clock old); few = λ total first found whole. omega arith };
    beside = λ structures has. record { read = λ tells f is not. refl; left = λ tells. record { follows = λ x now. (x, now, λ f is not. refl); runs = runs_none (g.clock old) _ } };
    says = record { point = 0; line = λ tells. text_says _ _ status text; is = λ made. absurd (text_unmade status text made) };
    every_moment = λ tells n desc db s. runs_none (g.clock old) _;
    dump = λ tells s is. runs_none (g.clock old) _;
    at_ok = λ made. absurd (text_unmade status text made);
  }

  no_rollback : (n : ℕ) → RollbackDoes g n old old status
  no_rollback n = record {
    statuses = of_text IsOfRestore tt tt;
    refused = λ tells is. absurd (of_text (λ s. IsRefusal s → ⊥) (λ r. r) (λ r. r) is);
    opens = λ tells. inr none_done;
    complete = λ tells total first can is. of_text (λ s. IsRefusal s → ⊥) (λ r. r) (λ r. r) is;
    full = text_room g old old status text;
    trail = λ tells. trail_none g old;
    beside = beside_none g old (meant.Rollback n);
    says = λ tells. text_says _ _ status text;
    every_moment = λ tells. (rollback_law g old old).stands n (rolls_none g old n);
    at_ok = λ made. absurd (text_unmade status text made);
  }

  no_rebuild : (d : ℕ) (chosen : Option ℕ) → RebuildDoes g d chosen old old status
  no_rebuild d chosen = record {
    statuses = of_text IsOfRestore tt tt;
    refused = λ tells is. absurd (of_text (λ s. IsRefusal s → ⊥) (λ r. r) (λ r. r) is);
    opens = λ tells. inr none_done;
    complete = λ tells total first can is. of_text (λ s. IsRefusal s → ⊥) (λ r. r) (λ r. r) is;
    full = text_room g old old status text;
    trail = λ tells. trail_none g old;
    beside = beside_none g old (meant.Rebuild d chosen);
    says = record { point = 0; line = λ tells. text_says _ _ status text; is = λ made. absurd (text_unmade status text made) };
    every_moment = λ tells. (rebuild_law g old old).stands d chosen (rebuilds_none g old d chosen);
    at_ok = λ made. absurd (text_unmade status text made);
  }

  no_reconstruct : (d : ℕ) (rows : List NamedRow) → ReconstructDoes g d rows old old status
  no_reconstruct d rows = record {
    statuses = inl (of_text IsOfRestore tt tt);
    refused = λ tells is. absurd (of_text (λ s. IsRefusal s → ⊥) (λ r. r) (λ r. r) is);
    opens = λ tells. inr none_done;
    complete = λ tells total first can is. of_text (λ s. IsRefusal s → ⊥) (λ r. r) (λ r. r) is;
    full = text_room g old old status text;
    trail = λ tells. trail_none g old;
    beside = beside_none g old (meant.Reconstruct d);
    says = record { point = 0; line = λ tells. text_says _ _ status text; is = λ made. absurd (text_unmade status text made) };
    every_moment = λ tells. (reconstruct_law g old old).stands d rows (λ u total first n desc from. runs_none (g.clock old) _);
    at_ok = λ made. absurd (text_unmade status text made);
  }

-- ---- the command

-- what is promised of the statement that was read
abbrev pub IsCarriedOut : {S : Type 0} → Ghosts S → S → S → Status → Statement → Type 0
IsCarriedOut g old new status (Dump d) = DumpDoes g d old new status
IsCarriedOut g old new status (Rebuild d chosen) = RebuildDoes g d chosen old new status
IsCarriedOut g old new status (Rollback n) = RollbackDoes g n old new status
IsCarriedOut g old new status (Reconstruct d rows) = ReconstructDoes g d rows old new status

module _ {S I : Type 0} (g : Ghosts S) (i : source.Ghosts I) (old : S) (from to : I) (status : Status) where
  -- the input is no statement, or wasn't read
  pub unread_does : IsOfText status → ((p : ℕ) → status ≡ BadStatement p → (all : List ℕ) → i.left from ≡ Some all → statement_of all ≡ answer.Err p) → UtilityDoes g i old old from to status
  unread_does text bad = record {
    statuses = by_text IsOfUtility tt tt (λ q. tt) status text;
    text = record { bad = λ p is all left. ap bad_place (bad p is all left); read = λ none. absurd (none text) };
    untouched = λ reading. refl;
    dump = λ all left d is. no_dump g old status text (known all left (Dump d) is) d;
    rollback = λ all left n is. no_rollback g old status text (known all left (Rollback n) is) n;
    rebuild = λ all left d chosen is. no_rebuild g old status text (known all left (Rebuild d chosen) is) d chosen;
    reconstruct = λ all left d rows is. no_reconstruct g old status text (known all left (Reconstruct d rows) is) d rows;
  }
    where
      known : (all : List ℕ) → i.left from ≡ Some all → (s : Statement) → statement_of all ≡ answer.Ok s → (p : ℕ) → status ≡ BadStatement p → ⊥
      known all left s is p at = ok_err s p (statement_of all) is (bad p at all left)

  -- it is this statement, and it was carried out
  pub carried_does : (s : Statement) → ((all : List ℕ) → i.left from ≡ Some all → statement_of all ≡ answer.Ok s) → (new : S) → IsOfUtility status → (IsOfReading status → ⊥) → IsCarriedOut g old new status s → UtilityDoes g i old new from to status
  carried_does s asks new of taken does = record {
    statuses = of;
    text = record { bad = λ p is. absurd (taken_no_bad status p taken is); read = λ none all left. ap bad_place (asks all left) };
    untouched = λ reading. absurd (taken reading);
    dump = λ all left d at. of_it all left (Dump d) at;
    rollback = λ all left n at. of_it all left (Rollback n) at;
    rebuild = λ all left d chosen at. of_it all left (Rebuild d chosen) at;
    reconstruct = λ all left d rows at. of_it all left (Reconstruct d rows) at;
  }
    where
      of_it : (all : List ℕ) → i.left from ≡ Some all → (t : Statement) → statement_of all ≡ answer.Ok t → IsCarriedOut g old new status t
      of_it all left t at = subst (λ (x : Statement). IsCarriedOut g old new status x) (same_statement s t (statement_of all) (asks all left) at) does
