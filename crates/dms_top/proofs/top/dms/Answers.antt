use Rattle.std.proofs.Common.{subst, inl, inr, refl, ap, ℕ, [], ◌∷◌}
use Rattle.std.specs.Prelude.{codes, map, string_bytes}
use Rattle.dms_runtop.specs.Statuses.{IsOfRun}
use Rattle.dms_utility.specs.Statuses.{IsOfUtility}
use Rattle.dms_top.specs.Initializing.{InitializeDoes}
use Rattle.dms_top.proofs.Commands.{no_bad_words, none_read, of_command, of_none, of_tag, print_unread, tag_unread}
use Rattle.dms_top.proofs.Digits.{no_tag, tag_try, tag_compile, tag_print, tag_run, tag_utility, same_tag}
use Rattle.dms_top.proofs.LoadWords.{no_load, tag_no_load}
use Rattle.dms_top.proofs.Running.{never_untouched}
use Rattle.dms_top.proofs.ShipWords.{no_ship, tag_no_ship}
use Rattle.dms_top.proofs.Utility.{only_read}
use Rattle.dms_top.proofs.Words.{not_both, try_no_compile, try_no_print, try_no_run, try_no_utility, compile_no_print, compile_no_run, compile_no_utility, print_no_run, print_no_utility, run_no_utility}
use Rattle.dms_top.proofs.top.dms.Goals as goal

pub returns-then-is_try-clause-untaken : goal.returns-then-is_try-clause-untaken
returns-then-is_try-clause-untaken g c = λ unread. absurd (unread (inl (c.is_try.ensures.0 c.if-is_try.true)))

pub returns-then-is_compile-clause-untaken : goal.returns-then-is_compile-clause-untaken
returns-then-is_compile-clause-untaken g c = λ unread. absurd (unread (inr (inl (c.is_compile.ensures.0 c.if-is_compile.true))))

pub returns-then-is_run-clause-untaken : goal.returns-then-is_run-clause-untaken
returns-then-is_run-clause-untaken g c = λ unread. absurd (unread (inr (inr (inl (c.is_run.ensures.0 c.if-is_run.true)))))

pub returns-then-is_utility-clause-untaken : goal.returns-then-is_utility-clause-untaken
returns-then-is_utility-clause-untaken g c = λ unread. absurd (unread (inr (inr (inr (c.is_utility.ensures.0 c.if-is_utility.true)))))

pub returns-then-is_run-clause-untouched : goal.returns-then-is_run-clause-untouched
returns-then-is_run-clause-untouched g c = λ is. absurd (never_untouched c.run_command.result c.run_command.ensures.does.statuses is)

pub returns-then-is_utility-clause-untouched : goal.returns-then-is_utility-clause-untouched
returns-then-is_utility-clause-untouched g c = λ is. c.utility_command.ensures.does.untouched (only_read c.utility_command.result c.utility_command.ensures.does.statuses is)

pub returns-then-is_run-clause-before : goal.returns-then-is_run-clause-before
returns-then-is_run-clause-before g c = λ other. absurd (other (inl (c.is_run.ensures.0 c.if-is_run.true)))

pub returns-then-is_utility-clause-before : goal.returns-then-is_utility-clause-before
returns-then-is_utility-clause-before g c = λ other. absurd (other (inr (inl (c.is_utility.ensures.0 c.if-is_utility.true))))

pub returns-then-is_print_audit-clause-before : goal.returns-then-is_print_audit-clause-before
returns-then-is_print_audit-clause-before g c = λ other early tells. c.print_trail.ensures.does.files tells

pub returns-then-is_try-clause-before : goal.returns-then-is_try-clause-before
returns-then-is_try-clause-before g c = λ other early tells. c.try_input.ensures.does.files tells

pub returns-then-is_utility-clause-end : goal.returns-then-is_utility-clause-end
returns-then-is_utility-clause-end g c = λ reads. c.utility_command.ensures.end

pub returns-then-is_print_audit-clause-end : goal.returns-then-is_print_audit-clause-end
returns-then-is_print_audit-clause-end g c = λ reads. absurd (print_unread _ (c.is_print_audit.ensures.0 c.if-is_print_audit.true) reads)

pub returns-in-Some-clause-end : goal.returns-in-Some-clause-end
returns-in-Some-clause-end g c = λ reads. absurd (tag_unread _ c.in-Some.tag c.in-Some.ensures reads)

-- bad words are those of no command

pub returns-then-is_try-clause-words : goal.returns-then-is_try-clause-words
returns-then-is_try-clause-words g c = of_command _ c.try_input.result c.try_input.ensures.words (inl (c.is_try.ensures.0 c.if-is_try.true))

pub returns-then-is_compile-clause-words : goal.returns-then-is_compile-clause-words
returns-then-is_compile-clause-words g c = of_command _ c.compile_input.result c.compile_input.ensures.words (inr (inl (c.is_compile.ensures.0 c.if-is_compile.true)))

pub returns-then-is_print_audit-clause-words : goal.returns-then-is_print_audit-clause-words
returns-then-is_print_audit-clause-words g c = of_command _ c.print_trail.result c.print_trail.ensures.words (inr (inr (inl (c.is_print_audit.ensures.0 c.if-is_print_audit.true))))

pub returns-then-is_run-clause-words : goal.returns-then-is_run-clause-words
returns-then-is_run-clause-words g c =
    of_command _ c.run_command.result (no_bad_words IsOfRun c.run_command.result (λ none. none) c.run_command.ensures.does.statuses) (inr (inr (inr (inl (c.is_run.ensures.0 c.if-is_run.true)))))

pub returns-then-is_utility-clause-words : goal.returns-then-is_utility-clause-words
returns-then-is_utility-clause-words g c =
    of_command _ c.utility_command.result (no_bad_words IsOfUtility c.utility_command.result (λ none. none) c.utility_command.ensures.does.statuses) (inr (inr (inr (inr (inl (c.is_utility.ensures.0 c.if-is_utility.true))))))

pub returns-in-Some-clause-words : goal.returns-in-Some-clause-words
returns-in-Some-clause-words g c = of_command _ c.initialize_database.result c.initialize_database.ensures.words (of_tag _ c.in-Some.tag c.in-Some.ensures)

pub returns-in-None-clause-words : goal.returns-in-None-clause-words
returns-in-None-clause-words g c = (
  λ bad. of_none _ c.is_try.result c.is_compile.result c.is_print_audit.result c.is_run.result c.is_utility.result c.is_try.ensures.1 c.if-is_try.false c.is_compile.ensures.1 c.if-is_compile.false c.is_print_audit.ensures.1 c.if-is_print_audit.false c.is_run.ensures.1 c.if-is_run.false c.is_utility.ensures.1 c.if-is_utility.false c.in-None.ensures (c.ship_or_load.ensures.words.0 bad),
  λ none. c.ship_or_load.ensures.words.1 (λ either. none (inr (inr (inr (inr (inr (inr either))))))),
)

pub returns-in-None-clause-before : goal.returns-in-None-clause-before
returns-in-None-clause-before g c = λ other early tells. c.ship_or_load.ensures.none (λ load. other (inr (inr load))) tells

pub returns-in-None-clause-end : goal.returns-in-None-clause-end
returns-in-None-clause-end g c = λ reads. absurd (none_read _ c.is_try.result c.is_compile.result c.is_run.result c.is_utility.result c.is_try.ensures.1 c.if-is_try.false c.is_compile.ensures.1 c.if-is_compile.false c.is_run.ensures.1 c.if-is_run.false c.is_utility.ensures.1 c.if-is_utility.false reads)

pub returns-in-None-clause-load_does : goal.returns-in-None-clause-load_does
returns-in-None-clause-load_does g c = c.ship_or_load.ensures.load_does

-- the words are those of one command

pub returns-then-is_try-clause-initialize_does : goal.returns-then-is_try-clause-initialize_does
returns-then-is_try-clause-initialize_does g c = λ tag is. absurd (tag_try _ tag (c.is_try.ensures.0 c.if-is_try.true) is)

pub returns-then-is_compile-clause-initialize_does : goal.returns-then-is_compile-clause-initialize_does
returns-then-is_compile-clause-initialize_does g c = λ tag is. absurd (tag_compile _ tag (c.is_compile.ensures.0 c.if-is_compile.true) is)

pub returns-then-is_print_audit-clause-initialize_does : goal.returns-then-is_print_audit-clause-initialize_does
returns-then-is_print_audit-clause-initialize_does g c = λ tag is. absurd (tag_print _ tag (c.is_print_audit.ensures.0 c.if-is_print_audit.true) is)

pub returns-then-is_run-clause-initialize_does : goal.returns-then-is_run-clause-initialize_does
returns-then-is_run-clause-initialize_does g c = λ tag is. absurd (tag_run _ tag (c.is_run.ensures.0 c.if-is_run.true) is)

pub returns-then-is_try-clause-compile_does : goal.returns-then-is_try-clause-compile_does
returns-then-is_try-clause-compile_does g c = λ is. absurd (try_no_compile _ (c.is_try.ensures.0 c.if-is_try.true) is)

pub returns-then-is_try-clause-audit_does : goal.returns-then-is_try-clause-audit_does
returns-then-is_try-clause-audit_does g c = λ is. absurd (try_no_print _ (c.is_try.ensures.0 c.if-is_try.true) is)

pub returns-then-is_try-clause-run_does : goal.returns-then-is_try-clause-run_does
returns-then-is_try-clause-run_does g c = λ is. absurd (try_no_run _ (c.is_try.ensures.0 c.if-is_try.true) is)

pub returns-then-is_compile-clause-try_does : goal.returns-then-is_compile-clause-try_does
returns-then-is_compile-clause-try_does g c = λ is. absurd (not_both c.is_try.result (c.is_try.ensures.1 is) c.if-is_try.false)

pub returns-then-is_compile-clause-audit_does : goal.returns-then-is_compile-clause-audit_does
returns-then-is_compile-clause-audit_does g c = λ is. absurd (compile_no_print _ (c.is_compile.ensures.0 c.if-is_compile.true) is)

pub returns-then-is_compile-clause-run_does : goal.returns-then-is_compile-clause-run_does
returns-then-is_compile-clause-run_does g c = λ is. absurd (compile_no_run _ (c.is_compile.ensures.0 c.if-is_compile.true) is)

pub returns-then-is_print_audit-clause-try_does : goal.returns-then-is_print_audit-clause-try_does
returns-then-is_print_audit-clause-try_does g c = λ is. absurd (not_both c.is_try.result (c.is_try.ensures.1 is) c.if-is_try.false)

pub returns-then-is_print_audit-clause-compile_does : goal.returns-then-is_print_audit-clause-compile_does
returns-then-is_print_audit-clause-compile_does g c = λ is. absurd (not_both c.is_compile.result (c.is_compile.ensures.1 is) c.if-is_compile.false)

pub returns-then-is_print_audit-clause-run_does : goal.returns-then-is_print_audit-clause-run_does
returns-then-is_print_audit-clause-run_does g c = λ is. absurd (print_no_run _ (c.is_print_audit.ensures.0 c.if-is_print_audit.true) is)

pub returns-then-is_run-clause-try_does : goal.returns-then-is_run-clause-try_does
returns-then-is_run-clause-try_does g c = λ is. absurd (not_both c.is_try.result (c.is_try.ensures.1 is) c.if-is_try.false)

pub returns-then-is_run-clause-compile_does : goal.returns-then-is_run-clause-compile_does
returns-then-is_run-clause-compile_does g c = λ is. absurd (not_both c.is_compile.result (c.is_compile.ensures.1 is) c.if-is_compile.false)

pub returns-then-is_run-clause-audit_does : goal.returns-then-is_run-clause-audit_does
returns-then-is_run-clause-audit_does g c = λ is. absurd (not_both c.is_print_audit.result (c.is_print_audit.ensures.1 is) c.if-is_print_audit.false)

pub returns-in-Some-clause-try_does : goal.returns-in-Some-clause-try_does
returns-in-Some-clause-try_does g c = λ is. absurd (not_both c.is_try.result (c.is_try.ensures.1 is) c.if-is_try.false)

pub returns-in-Some-clause-compile_does : goal.returns-in-Some-clause-compile_does
returns-in-Some-clause-compile_does g c = λ is. absurd (not_both c.is_compile.result (c.is_compile.ensures.1 is) c.if-is_compile.false)

pub returns-in-Some-clause-audit_does : goal.returns-in-Some-clause-audit_does
returns-in-Some-clause-audit_does g c = λ is. absurd (not_both c.is_print_audit.result (c.is_print_audit.ensures.1 is) c.if-is_print_audit.false)

pub returns-in-Some-clause-run_does : goal.returns-in-Some-clause-run_does
returns-in-Some-clause-run_does g c = λ is. absurd (not_both c.is_run.result (c.is_run.ensures.1 is) c.if-is_run.false)

pub returns-in-None-clause-try_does : goal.returns-in-None-clause-try_does
returns-in-None-clause-try_does g c = λ is. absurd (not_both c.is_try.result (c.is_try.ensures.1 is) c.if-is_try.false)

pub returns-in-None-clause-compile_does : goal.returns-in-None-clause-compile_does
returns-in-None-clause-compile_does g c = λ is. absurd (not_both c.is_compile.result (c.is_compile.ensures.1 is) c.if-is_compile.false)

pub returns-in-None-clause-audit_does : goal.returns-in-None-clause-audit_does
returns-in-None-clause-audit_does g c = λ is. absurd (not_both c.is_print_audit.result (c.is_print_audit.ensures.1 is) c.if-is_print_audit.false)

pub returns-in-None-clause-run_does : goal.returns-in-None-clause-run_does
returns-in-None-clause-run_does g c = λ is. absurd (not_both c.is_run.result (c.is_run.ensures.1 is) c.if-is_run.false)

pub returns-in-None-clause-initialize_does : goal.returns-in-None-clause-initialize_does
returns-in-None-clause-initialize_does g c = λ tag is. absurd (no_tag _ tag c.in-None.ensures is)

pub returns-in-Some-clause-initialize_does : goal.returns-in-Some-clause-initialize_does
returns-in-Some-clause-initialize_does g c tag is =
    subst (λ (t : ℕ). InitializeDoes g.S.Site t c.args.site.now c.initialize_database.new.site c.initialize_database.result) (same_tag _ c.in-Some.tag tag c.in-Some.ensures is) c.initialize_database.ensures.does

pub returns-then-is_try-clause-utility_does : goal.returns-then-is_try-clause-utility_does
returns-then-is_try-clause-utility_does g c = λ is. absurd (try_no_utility _ (c.is_try.ensures.0 c.if-is_try.true) is)

pub returns-then-is_compile-clause-utility_does : goal.returns-then-is_compile-clause-utility_does
returns-then-is_compile-clause-utility_does g c = λ is. absurd (compile_no_utility _ (c.is_compile.ensures.0 c.if-is_compile.true) is)

pub returns-then-is_print_audit-clause-utility_does : goal.returns-then-is_print_audit-clause-utility_does
returns-then-is_print_audit-clause-utility_does g c = λ is. absurd (print_no_utility _ (c.is_print_audit.ensures.0 c.if-is_print_audit.true) is)

pub returns-then-is_run-clause-utility_does : goal.returns-then-is_run-clause-utility_does
returns-then-is_run-clause-utility_does g c = λ is. absurd (run_no_utility _ (c.is_run.ensures.0 c.if-is_run.true) is)

pub returns-in-Some-clause-utility_does : goal.returns-in-Some-clause-utility_does
returns-in-Some-clause-utility_does g c = λ is. absurd (not_both c.is_utility.result (c.is_utility.ensures.1 is) c.if-is_utility.false)

pub returns-in-None-clause-utility_does : goal.returns-in-None-clause-utility_does
returns-in-None-clause-utility_does g c = λ is. absurd (not_both c.is_utility.result (c.is_utility.ensures.1 is) c.if-is_utility.false)

pub returns-then-is_utility-clause-try_does : goal.returns-then-is_utility-clause-try_does
returns-then-is_utility-clause-try_does g c = λ is. absurd (not_both c.is_try.result (c.is_try.ensures.1 is) c.if-is_try.false)

pub returns-then-is_utility-clause-compile_does : goal.returns-then-is_utility-clause-compile_does
returns-then-is_utility-clause-compile_does g c = λ is. absurd (not_both c.is_compile.result (c.is_compile.ensures.1 is) c.if-is_compile.false)

pub returns-then-is_utility-clause-audit_does : goal.returns-then-is_utility-clause-audit_does
returns-then-is_utility-clause-audit_does g c = λ is. absurd (not_both c.is_print_audit.result (c.is_print_audit.ensures.1 is) c.if-is_print_audit.false)

pub returns-then-is_utility-clause-run_does : goal.returns-then-is_utility-clause-run_does
returns-then-is_utility-clause-run_does g c = λ is. absurd (not_both c.is_run.result (c.is_run.ensures.1 is) c.if-is_run.false)

pub returns-then-is_utility-clause-initialize_does : goal.returns-then-is_utility-clause-initialize_does
returns-then-is_utility-clause-initialize_does g c = λ tag is. absurd (tag_utility _ tag (c.is_utility.ensures.0 c.if-is_utility.true) is)

-- `run`

pub returns-then-is_run-clause-run_does : goal.returns-then-is_run-clause-run_does
returns-then-is_run-clause-run_does g c = λ is. c.run_command.ensures.does

-- `utility`

pub returns-then-is_utility-clause-utility_does : goal.returns-then-is_utility-clause-utility_does
returns-then-is_utility-clause-utility_does g c = λ is. c.utility_command.ensures.does

-- `load`

pub returns-then-is_try-clause-load_does : goal.returns-then-is_try-clause-load_does
returns-then-is_try-clause-load_does g c = λ seed n is. absurd (no_load _ (codes "try" ∷ []) (seed, n) (c.is_try.ensures.0 c.if-is_try.true) refl is)

pub returns-then-is_compile-clause-load_does : goal.returns-then-is_compile-clause-load_does
returns-then-is_compile-clause-load_does g c = λ seed n is. absurd (no_load _ (codes "compile" ∷ []) (seed, n) (c.is_compile.ensures.0 c.if-is_compile.true) refl is)

pub returns-then-is_print_audit-clause-load_does : goal.returns-then-is_print_audit-clause-load_does
returns-then-is_print_audit-clause-load_does g c = λ seed n is. absurd (no_load _ (codes "print" ∷ codes "audit" ∷ []) (seed, n) (c.is_print_audit.ensures.0 c.if-is_print_audit.true) refl is)

pub returns-then-is_run-clause-load_does : goal.returns-then-is_run-clause-load_does
returns-then-is_run-clause-load_does g c = λ seed n is. absurd (no_load _ (codes "run" ∷ []) (seed, n) (c.is_run.ensures.0 c.if-is_run.true) refl is)

pub returns-then-is_utility-clause-load_does : goal.returns-then-is_utility-clause-load_does
returns-then-is_utility-clause-load_does g c = λ seed n is. absurd (no_load _ (codes "utility" ∷ []) (seed, n) (c.is_utility.ensures.0 c.if-is_utility.true) refl is)

pub returns-in-Some-clause-load_does : goal.returns-in-Some-clause-load_does
returns-in-Some-clause-load_does g c = λ seed n is. absurd (tag_no_load (map string_bytes c.args.words.now) c.in-Some.tag (seed, n) c.in-Some.ensures is)

-- `ship`

pub returns-then-is_try-clause-ship_does : goal.returns-then-is_try-clause-ship_does
returns-then-is_try-clause-ship_does g c = λ k is. absurd (no_ship _ (codes "try" ∷ []) k (c.is_try.ensures.0 c.if-is_try.true) refl is)

pub returns-then-is_compile-clause-ship_does : goal.returns-then-is_compile-clause-ship_does
returns-then-is_compile-clause-ship_does g c = λ k is. absurd (no_ship _ (codes "compile" ∷ []) k (c.is_compile.ensures.0 c.if-is_compile.true) refl is)

pub returns-then-is_print_audit-clause-ship_does : goal.returns-then-is_print_audit-clause-ship_does
returns-then-is_print_audit-clause-ship_does g c = λ k is. absurd (no_ship _ (codes "print" ∷ codes "audit" ∷ []) k (c.is_print_audit.ensures.0 c.if-is_print_audit.true) refl is)

pub returns-then-is_run-clause-ship_does : goal.returns-then-is_run-clause-ship_does
returns-then-is_run-clause-ship_does g c = λ k is. absurd (no_ship _ (codes "run" ∷ []) k (c.is_run.ensures.0 c.if-is_run.true) refl is)

pub returns-then-is_utility-clause-ship_does : goal.returns-then-is_utility-clause-ship_does
returns-then-is_utility-clause-ship_does g c = λ k is. absurd (no_ship _ (codes "utility" ∷ []) k (c.is_utility.ensures.0 c.if-is_utility.true) refl is)

pub returns-in-Some-clause-ship_does : goal.returns-in-Some-clause-ship_does
returns-in-Some-clause-ship_does g c = λ k is. absurd (tag_no_ship (map string_bytes c.args.words.now) c.in-Some.tag k c.in-Some.ensures is)

pub returns-in-None-clause-ship_does : goal.returns-in-None-clause-ship_does
returns-in-None-clause-ship_does g c = c.ship_or_load.ensures.ship_does
