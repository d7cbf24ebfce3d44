use Rattle.std.proofs.Common.{List, ◌≡◌, ◌∙◌, subst, ap, IsTrue, Bool, sym}
use Rattle.std.specs.Prelude.{slice_get}
use Rattle.std.proofs.lemmas.Result.{on_ok_weaker}
use Rattle.dms_site.specs.Files.{Only}
use Rattle.dms_calls.specs.World.{World}
use Rattle.dms_calls.specs.Seen.{site_files, seen_clock}
use Rattle.dms_folder.specs.declared.opened.OpenedFile.{OpenedFile}
use Rattle.dms_calls.specs.Names.{name_of}
use Rattle.dms_folder.specs.Shown.{only_seen}
use Rattle.dms_folder.proofs.folder.Folder.sync.Goals as goal

pub returns-clause-durable : goal.returns-clause-durable
returns-clause-durable g c =
    let e = c.sync_names.ensures in
    let a = c.in_ok-sync_all_opened.ensures in
    let p = c.in_ok-sync_present.ensures in
    let known : IsTrue c.sync_names.new.self.synced = subst (λ (b : Bool). IsTrue b) (sym (e.synced ∙ a.synced)) p.synced in
    let world : g.C.Calls.world c.sync_names.new.self.calls ≡ g.C.Calls.world c.args.self.now.calls = e.world ∙ a.world ∙ p.world in
    on_ok_weaker c.sync_names.result (λ made t.
    subst (λ (w : World). Only (site_files name_of w) (seen_clock name_of (g.C.Calls.clock c.sync_names.new.self.calls))) world
    (only_seen (e.kept t) made known (λ n k o is number. a.untouched k o (sym (ap (λ (l : List (OpenedFile g.row.C-Handle.Denot)). slice_get l k) e.opened) ∙ is)))) e.made
