-- Entries that an opening seals, by one call after another.
use Rattle.std.proofs.Common.{ℕ, ◌+◌, ◌/◌, ◌≤◌, ◌≡◌, List, [], ◌++◌, length, length-append, take, sym, ◌∙◌, ap, subst, arith}
use Rattle.dms_site.specs.declared.site.Site.{Ghosts}
use Rattle.dms_history.specs.History.{Pending}
use Rattle.dms_history.specs.Entries.{Entry, control_point}
use Rattle.dms_audrec.specs.Reading.{counts_at}
use Rattle.dms_audfile.specs.Ends.{EndsAt}
use Rattle.dms_audfile.specs.TrailEntries.{trail_entries}
use Rattle.dms_restore.specs.Begins.{BegunAt}
use Rattle.dms_restore.specs.GrowLaws.{log_grows_more, log_grows_on}
use Rattle.dms_restore.specs.Laying.{schema_control}
use Rattle.dms_restore.specs.Logging.{EndsSealed, LogGrows, LogView, entries, view, waits}
use Rattle.dms_restore.specs.Parts.{SealsPart}
use Rattle.dms_restore.specs.Views.{view_of}
use Rattle.dms_restore.specs.declared.log.Log.{Log}
use Rattle.dms_restore.proofs.Trails.{waits_is}
use Rattle.dms_wal.proofs.Grown.{control_few}

-- nothing waits where a restore is begun
pub ends_sealed : (p : Pending) (v : LogView) → BegunAt p v → EndsSealed v
ends_sealed p v b = subst (λ (l : List Entry). EndsAt v.end v.first l v.files v.clock) b.begun.nothing b.ends

-- the first so many, behind entries that are the same
pub sealed_as : (a b c : LogView) (es : List Entry) → b.end.total ≡ a.end.total → b.first ≡ a.first → trail_entries a.end.total a.first b.files ≡ trail_entries a.end.total a.first a.files → SealsPart b c es → SealsPart a c es
sealed_as a b c es total first same p = (
  p.0,
  (λ i. trail_entries (sym total i) (sym first i) c.files) ∙ p.1 ∙ (λ i. trail_entries (total i) (first i) b.files ++ take p.0 es) ∙ ap (λ (l : List Entry). l ++ take p.0 es) same,
)

-- the whole Schema of a description and a Control are 18 entries at most
pub grows_ended : (a b : LogView) (description : List ℕ) (point next : ℕ) (counts : List ℕ) → length description ≤ 65535 → LogGrows (length (schema_control description point next counts)) a b → LogGrows 18 a b
grows_ended a b description point next counts few grows =
    log_grows_more (length (schema_control description point next counts)) 18 a b (control_few description (control_point point next (counts_at (length counts / 8) counts)) few) grows

-- a log of which nothing waits has the entries of its files alone
sealed_few : (n : ℕ) (a b : LogView) → b.end.total ≡ a.end.total → b.first ≡ a.first → EndsSealed b → LogGrows n a b → length (entries b) ≤ length (entries a) + n
sealed_few n a b total first ends grows =
    let same : length (trail_entries b.end.total b.first b.files) ≡ length (trail_entries a.end.total a.first b.files) = λ i. length (trail_entries (total i) (first i) b.files) in
    let none : length (waits b.end) ≡ 0 = ap (λ (l : List Entry). length l) (waits_is b.end b.first [] b.files b.clock ends) in
    omega (arith, grows.few, same, none, length-append (trail_entries b.end.total b.first b.files) (waits b.end))

-- one growth may follow another where nothing waits between them
pub grows_sealed : (n m : ℕ) (a b c : LogView) → b.end.total ≡ a.end.total → b.first ≡ a.first → EndsSealed b → LogGrows n a b → LogGrows m b c → LogGrows (n + m) a c
grows_sealed n m a b c total first ends one two = log_grows_on a b c total first n m (sealed_few n a b total first ends one) one two

-- the same of the site of a log that is given back without it
pub grows_site : {S : Type 0} (g : Ghosts S) (n : ℕ) (a : LogView) (log : Log S) (site : S) → site ≡ log.site → LogGrows n a (view_of g log) → LogGrows n a (view a.end a.first (g.files site) (g.clock site))
grows_site g n a log site is grows =
    subst (λ s. LogGrows n a (view a.end a.first (g.files s) (g.clock s))) (sym is) (record { stays = record { kept = grows.stays.kept; left = grows.stays.left }; few = grows.few })
