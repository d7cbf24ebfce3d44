-- What settling writes is a plan of the restore that is pending, or of one to a point that would be made now.
use Rattle.std.proofs.Common.{ℕ, ◌≤◌, ◌≡◌, ◌∙◌, ◌||◌, Bool, true, false, cond, sym, ap, subst, refl, List, [], ◌∷◌, ◌++◌, take, length, Option, Some, None, arith}
use Rattle.std.proofs.lemmas.Bool.Decides.{nat_tests}
use Rattle.dms_site.specs.Files.{Files}
use Rattle.dms_history.specs.Events.{Event, quiet}
use Rattle.dms_history.specs.Lists.{has, until_first, after_first}
use Rattle.dms_history.specs.Places.{is_point}
use Rattle.dms_history.specs.Ranges.{Logged, event, all_changes, is_point_logged}
use Rattle.dms_history.specs.History.{Pending}
use Rattle.dms_history.specs.Entries.{Entry}
use Rattle.dms_history.specs.EntryEvents.{history_of, live_of}
use Rattle.dms_history.proofs.Turns.{changes_push}
use Rattle.dms_restore.specs.declared.live.LiveEntry.{LiveEntry}
use Rattle.dms_restore.specs.declared.live.LiveEntry.TheVariants.{Quiet}
use Rattle.dms_restore.specs.declared.live.PendingAt.{PendingAt}
use Rattle.dms_restore.specs.declared.told.Told.{Told}
use Rattle.dms_restore.specs.declared.tracing.TrailHistory.{TrailHistory}
use Rattle.dms_restore.specs.LiveEntries.{logged_at, logged_live, AllStandWhole}
use Rattle.dms_restore.specs.Named.{IsTableOf}
use Rattle.dms_restore.specs.Table.{IsTable, Writes}
use Rattle.dms_restore.specs.Tracing.{IsTraced, MatchesPending}
use Rattle.dms_restore.proofs.ByAudit.{plan_by_audit}
use Rattle.dms_restore.proofs.PendingTables.{pending_is, table_pending}
use Rattle.dms_restore.proofs.Points.{point_is_logged}
use Rattle.dms_restore.proofs.Traced.{live_at}
use Rattle.dms_follow.specs.Following.{settling}
use Rattle.dms_follow.specs.Laws.{MaySettle, settler}
use Rattle.dms_remote.specs.Settling.{no_point}

-- ---- one more at the end

left_off : (a b : Bool) → (a || b) ≡ false → (a ≡ false) × (b ≡ false)
left_off false b off = (refl, off)
left_off true b off = absurd (cc)

or_right : (a b : Bool) → b ≡ true → (a || b) ≡ true
or_right true b on = refl
or_right false b on = on

module _ {A : Type 0} (p : A → Bool) (y : A) (is : p y ≡ true) where
  has_end : (xs : List A) → has p (xs ++ y ∷ []) ≡ true
  has_end [] = ap (λ (t : Bool). t || false) is
  has_end (x ∷ xs) = or_right (p x) (has p (xs ++ y ∷ [])) (has_end xs)

  until_end : (xs : List A) → has p xs ≡ false → until_first p (xs ++ y ∷ []) ≡ xs ++ y ∷ []
  until_end [] off = ap (λ (t : Bool). cond t (y ∷ []) []) is
  until_end (x ∷ xs) off =
      let two = left_off (p x) (has p xs) off in
      (λ i. cond (two.0 i) (x ∷ []) (cond (has_end xs i) (x ∷ until_first p (xs ++ y ∷ [])) [])) ∙ ap (λ (l : List A). x ∷ l) (until_end xs two.1)

  after_end : (xs : List A) → has p xs ≡ false → after_first p (xs ++ y ∷ []) ≡ []
  after_end [] off = ap (λ (t : Bool). cond t [] []) is
  after_end (x ∷ xs) off =
      let two = left_off (p x) (has p xs) off in
      ap (λ (t : Bool). cond t (xs ++ y ∷ []) (after_first p (xs ++ y ∷ []))) two.0 ∙ after_end xs two.1

logged_end : (files : Files) (xs : List LiveEntry) (y : LiveEntry) → logged_live files (xs ++ y ∷ []) ≡ logged_live files xs ++ logged_at files y ∷ []
logged_end files [] y = refl
logged_end files (x ∷ xs) y = ap (λ (l : List Logged). logged_at files x ∷ l) (logged_end files xs y)

whole_end : (files : Files) (xs : List LiveEntry) (n : ℕ) → AllStandWhole files xs → AllStandWhole files (xs ++ Quiet n ∷ [])
whole_end files [] n whole = (tt, tt)
whole_end files (x ∷ xs) n whole = (whole.0, whole_end files xs n whole.1)

is_now : (n : ℕ) → is_point_logged n (event (quiet n)) ≡ true
is_now n = grind (arith, nat_tests)

-- ---- no restore is pending

now_table : (files : Files) (es : List Entry) (h : TrailHistory) (n : ℕ) (v : List Told) → IsTraced files es h → has (is_point n) (live_of es) ≡ false → IsTableOf (h.live.items ++ Quiet n ∷ []) [] v
    → IsTable (live_of es ++ quiet n ∷ []) n files v
now_table files es h n v traced new table = subst (λ (l : List Event). IsTable l n files v) same (table files logged n until after (whole_end files live n traced.live_whole) tt)
  where
    live : List LiveEntry
    live = h.live.items

    logged : List Logged
    logged = logged_live files (live ++ Quiet n ∷ [])

    parted : logged ≡ logged_live files live ++ event (quiet n) ∷ []
    parted = logged_end files live (Quiet n)

    none : has (is_point_logged n) (logged_live files live) ≡ false
    none = ap (λ (l : List Logged). has (is_point_logged n) l) (sym traced.live_is) ∙ sym (point_is_logged es n) ∙ new

    until : until_first (is_point_logged n) logged ≡ logged
    until = ap (λ (l : List Logged). until_first (is_point_logged n) l) parted ∙ until_end (is_point_logged n) (event (quiet n)) (is_now n) (logged_live files live) none ∙ sym parted

    after : after_first (is_point_logged n) logged ≡ []
    after = ap (λ (l : List Logged). after_first (is_point_logged n) l) parted ∙ after_end (is_point_logged n) (event (quiet n)) (is_now n) (logged_live files live) none

    same : all_changes logged ≡ live_of es ++ quiet n ∷ []
    same = ap (λ (l : List Logged). all_changes l) parted ∙ changes_push (logged_live files live) (event (quiet n)) ∙ ap (λ (l : List Event). l ++ quiet n ∷ []) (sym (live_at files es h traced))

-- what is pending by these entries is pending by the history
pub none_pending : (files : Files) (es : List Entry) (h : TrailHistory) → h.pending ≡ None → IsTraced files es h → (history_of es).pending ≡ None
none_pending files es h held traced = by (history_of es).pending refl
  where
    by : (o : Option Pending) → (history_of es).pending ≡ o → (history_of es).pending ≡ None
    by None is = is
    by (Some p) is = absurd (pending_is files es h None p held is traced)

pub plan_now : (files : Files) (es : List Entry) (h : TrailHistory) (v : List Told) → h.pending ≡ None → IsTableOf (h.live.items ++ Quiet no_point ∷ []) [] v → IsTraced files es h → MaySettle es no_point
    → Writes (settler es no_point) files [] v
plan_now files es h v held table traced may =
    subst (λ (o : Option Pending). Writes (settling o (live_of es) no_point) files [] v) (sym (none_pending files es h held traced))
    (plan_by_audit (settling None (live_of es) no_point) tt files v (now_table files es h no_point v traced may.new table))

-- ---- a restore is pending

some_pending : (files : Files) (es : List Entry) (h : TrailHistory) (q : PendingAt) → h.pending ≡ Some q → IsTraced files es h → (p : Pending) × ((history_of es).pending ≡ Some p)
some_pending files es h q held traced = by (history_of es).pending refl
  where
    by : (o : Option Pending) → (history_of es).pending ≡ o → (p : Pending) × ((history_of es).pending ≡ Some p)
    by None is = absurd (subst (λ (o : Option Pending). MatchesPending files h.live.items h.removed.items (Some q) o) is (subst (λ (o : Option PendingAt). MatchesPending files h.live.items h.removed.items o (history_of es).pending) held traced.pending_matches))
    by (Some p) is = (p, is)

chosen : (files : Files) (b : Bool) (removed : List LiveEntry) → logged_live files (cond b removed []) ≡ cond b (logged_live files removed) []
chosen files true removed = refl
chosen files false removed = refl

chosen_whole : (files : Files) (b : Bool) (removed : List LiveEntry) → AllStandWhole files removed → AllStandWhole files (cond b removed [])
chosen_whole files true removed whole = whole
chosen_whole files false removed whole = tt

pub plan_pending : (files : Files) (es : List Entry) (h : TrailHistory) (q : PendingAt) (v : List Told) → h.pending ≡ Some q
    → (q.kept ≤ length h.live.items → IsTableOf (take q.kept h.live.items) (cond q.has_place h.removed.items []) v) → IsTraced files es h → MaySettle es no_point → Writes (settler es no_point) files [] v
plan_pending files es h q v held table traced may =
    let some = some_pending files es h q held traced in
    let p = some.0 in
    let at = pending_is files es h (Some q) p held some.1 traced in
    subst (λ (o : Option Pending). Writes (settling o (live_of es) no_point) files [] v) (sym some.1)
    (plan_by_audit p (may.pending p some.1).by_audit files v
    (table_pending files h.live.items h.removed.items q p q.kept (cond q.has_place h.removed.items []) v (λ within. refl) (chosen files q.has_place h.removed.items) (chosen_whole files q.has_place h.removed.items)
    (λ live m until after front behind. table at.within files live m until after front behind)
    at traced.live_whole traced.removed_whole))

-- the same, of lists that were lent
pub plan_lent : (files : Files) (es : List Entry) (h : TrailHistory) (q : PendingAt) (live removed : List LiveEntry) (v : List Told) → h.pending ≡ Some q → live ≡ h.live.items → removed ≡ h.removed.items
    → (q.kept ≤ length live → IsTableOf (take q.kept live) (cond q.has_place removed []) v) → IsTraced files es h → MaySettle es no_point → Writes (settler es no_point) files [] v
plan_lent files es h q live removed v held lent gone table =
    plan_pending files es h q v held
    (subst (λ (l : List LiveEntry). q.kept ≤ length l → IsTableOf (take q.kept l) (cond q.has_place h.removed.items []) v) lent
    (subst (λ (l : List LiveEntry). q.kept ≤ length live → IsTableOf (take q.kept live) (cond q.has_place l []) v) gone table))
