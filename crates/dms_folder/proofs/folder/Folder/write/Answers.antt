use Rattle.std.proofs.Common.{ℕ, List, ◌≡◌, ◌∙◌, ◌<◌, ◌^◌, sym, ap, refl, subst, length, Some, IsTrue, rules, arith}
use Rattle.std.specs.Prelude.{slice_get}
use Rattle.std.proofs.lemmas.Option.{same_Some, slice_get_read, slice_get_within}
use Rattle.std.proofs.lemmas.Result.{on_ok_weaker}
use Rattle.dms_moments.specs.Moments.{Now, Steps}
use Rattle.dms_site.specs.Files.{Files, InFile, Torn, Same, overlay_bytes}
use Rattle.dms_site.specs.Laws.{torn_refl, in_file_same}
use Rattle.dms_calls.specs.World.{World}
use Rattle.dms_calls.specs.Seen.{bytes_of, site_files, seen_clock, seen_at}
use Rattle.dms_folder.specs.declared.opened.OpenedFile.{OpenedFile}
use Rattle.dms_calls.specs.Names.{name_of}
use Rattle.dms_folder.specs.NameLaws.{name_inj}
use Rattle.dms_folder.specs.Kept.{touch_file}
use Rattle.dms_folder.specs.NoBytes.{nothing_written, empty_of}
use Rattle.dms_folder.specs.Moves.{same_first}
use Rattle.dms_folder.specs.Keeps.{kept_written}
use Rattle.dms_folder.specs.Shown.{on_file_seen, on_file_steps, in_file_is}
use Rattle.dms_folder.proofs.folder.Folder.write.Goals as goal

pub returns-then-is_empty-clause-written : goal.returns-then-is_empty-clause-written
returns-then-is_empty-clause-written g c = λ t.
    let none : length c.args.bytes.now ≡ 0 = search rules in
    nothing_written _ c.args.file c.args.at c.args.bytes.now c.if-at-eq0.true (empty_of c.args.bytes.now none)

pub touch-requires-clause-place : goal.touch-requires-clause-place
touch-requires-clause-place g c = let at = c.in_ok-place.ensures.place in slice_get_within _ c.in_ok-place.place at.0 at.1

pub index-requires : goal.index-requires
index-requires g c =
    let at = c.in_ok-place.ensures.place in
    let within : c.in_ok-place.place < length c.touch.new.self.opened.items = slice_get_within _ c.in_ok-place.place (touch_file at.0) (c.touch.ensures.marked at.0 at.1) in
    omega (arith, within, c.touch.new.self.opened.ok.0)

pub returns-clause-kept : goal.returns-clause-kept
returns-clause-kept g c = λ t.
    let f = c.args.file in
    let place = c.in_ok-place.place in
    let at = c.in_ok-place.ensures.place in
    let opened = c.touch.new.self.opened.items in
    let here : slice_get opened place ≡ Some (touch_file at.0) = c.touch.ensures.marked at.0 at.1 in
    let r = c.index.result.now in
    let there : slice_get opened place ≡ Some r = slice_get_read opened (length opened) place r refl (slice_get_within opened place (touch_file at.0) here) c.index.ensures in
    let same : r ≡ touch_file at.0 = same_Some r (touch_file at.0) (sym there ∙ here) in
    let number : r.number ≡ f = ap (λ (o : OpenedFile g.row.C-Handle.Denot). o.number) same ∙ at.2 in
    let calls = c.touch.new.self.calls in
    let w = g.C.Calls.world calls in
    let i = g.C.Calls.file r.file in
    let leads : w.names (name_of f) ≡ Some i = ap (λ (n : ℕ). w.names (name_of n)) (sym number) ∙ (c.touch.ensures.kept t).named place r there in
    let small = c.ranges.file.fits in
    let own : (v : World) → Now (g.C.Calls.clock calls) v → (h : ℕ) → h < 2 ^ 32 → v.names (name_of h) ≡ Some i → h ≡ f = λ v now h low is. name_inj h f low small (g.met.C.Calls.one_name calls v (name_of h) (name_of f) i now is leads) in
    let seeing = own w (g.met.C.Calls.may_stay calls t) in
    kept_written (c.touch.ensures.kept t) place f i r there number (ap (λ (o : OpenedFile g.row.C-Handle.Denot). o.touched) same) leads seeing c.write_all.ensures.torn c.write_all.ensures.moments

pub returns-clause-torn : goal.returns-clause-torn
returns-clause-torn g c = λ t.
    let f = c.args.file in
    let place = c.in_ok-place.place in
    let at = c.in_ok-place.ensures.place in
    let opened = c.touch.new.self.opened.items in
    let here : slice_get opened place ≡ Some (touch_file at.0) = c.touch.ensures.marked at.0 at.1 in
    let r = c.index.result.now in
    let there : slice_get opened place ≡ Some r = slice_get_read opened (length opened) place r refl (slice_get_within opened place (touch_file at.0) here) c.index.ensures in
    let same : r ≡ touch_file at.0 = same_Some r (touch_file at.0) (sym there ∙ here) in
    let number : r.number ≡ f = ap (λ (o : OpenedFile g.row.C-Handle.Denot). o.number) same ∙ at.2 in
    let calls = c.touch.new.self.calls in
    let w = g.C.Calls.world calls in
    let i = g.C.Calls.file r.file in
    let leads : w.names (name_of f) ≡ Some i = ap (λ (n : ℕ). w.names (name_of n)) (sym number) ∙ (c.touch.ensures.kept t).named place r there in
    let small = c.ranges.file.fits in
    let own : (v : World) → Now (g.C.Calls.clock calls) v → (h : ℕ) → h < 2 ^ 32 → v.names (name_of h) ≡ Some i → h ≡ f = λ v now h low is. name_inj h f low small (g.met.C.Calls.one_name calls v (name_of h) (name_of f) i now is leads) in
    let seeing = own w (g.met.C.Calls.may_stay calls t) in
    let none : (l : List ℕ) → Torn c.args.at (length c.args.bytes.now) l l = torn_refl c.args.at (length c.args.bytes.now) in
    let w' = g.C.Calls.world c.write_all.new.calls in
    let files : site_files name_of w ≡ site_files name_of (g.C.Calls.world c.args.self.now.calls) = ap (λ k. site_files name_of (g.C.Calls.world k)) c.touch.ensures.calls ∙ c.in_ok-place.ensures.files t in
    let one : InFile f (Torn c.args.at (length c.args.bytes.now)) (site_files name_of (g.C.Calls.world c.args.self.now.calls)) (site_files name_of w') =
    subst (λ (l : Files). InFile f (Torn c.args.at (length c.args.bytes.now)) l (site_files name_of w')) files (on_file_seen f i small none w w' seeing c.write_all.ensures.torn) in
    one

pub returns-clause-written : goal.returns-clause-written
returns-clause-written g c = on_ok_weaker c.write_all.result (λ is t.
    let f = c.args.file in
    let place = c.in_ok-place.place in
    let at = c.in_ok-place.ensures.place in
    let opened = c.touch.new.self.opened.items in
    let here : slice_get opened place ≡ Some (touch_file at.0) = c.touch.ensures.marked at.0 at.1 in
    let r = c.index.result.now in
    let there : slice_get opened place ≡ Some r = slice_get_read opened (length opened) place r refl (slice_get_within opened place (touch_file at.0) here) c.index.ensures in
    let same : r ≡ touch_file at.0 = same_Some r (touch_file at.0) (sym there ∙ here) in
    let number : r.number ≡ f = ap (λ (o : OpenedFile g.row.C-Handle.Denot). o.number) same ∙ at.2 in
    let calls = c.touch.new.self.calls in
    let w = g.C.Calls.world calls in
    let i = g.C.Calls.file r.file in
    let leads : w.names (name_of f) ≡ Some i = ap (λ (n : ℕ). w.names (name_of n)) (sym number) ∙ (c.touch.ensures.kept t).named place r there in
    let small = c.ranges.file.fits in
    let own : (v : World) → Now (g.C.Calls.clock calls) v → (h : ℕ) → h < 2 ^ 32 → v.names (name_of h) ≡ Some i → h ≡ f = λ v now h low is. name_inj h f low small (g.met.C.Calls.one_name calls v (name_of h) (name_of f) i now is leads) in
    let seeing = own w (g.met.C.Calls.may_stay calls t) in
    let none : (l : List ℕ) → Torn c.args.at (length c.args.bytes.now) l l = torn_refl c.args.at (length c.args.bytes.now) in
    let w' = g.C.Calls.world c.write_all.new.calls in
    let files : site_files name_of w ≡ site_files name_of (g.C.Calls.world c.args.self.now.calls) = ap (λ k. site_files name_of (g.C.Calls.world k)) c.touch.ensures.calls ∙ c.in_ok-place.ensures.files t in
    let one : InFile f (Torn c.args.at (length c.args.bytes.now)) (site_files name_of (g.C.Calls.world c.args.self.now.calls)) (site_files name_of w') =
    subst (λ (l : Files). InFile f (Torn c.args.at (length c.args.bytes.now)) l (site_files name_of w')) files (on_file_seen f i small none w w' seeing c.write_all.ensures.torn) in
    let names : w'.names (name_of f) ≡ Some i = c.write_all.ensures.torn.names (name_of f) ∙ leads in
    let before : w.bytes i ≡ site_files name_of (g.C.Calls.world c.args.self.now.calls) f = sym (seen_at name_of w f small ∙ ap (λ o. bytes_of w o) leads) ∙ ap (λ (l : Files). l f) files in
    in_file_is f _ _ _ one (seen_at name_of w' f small ∙ ap (λ o. bytes_of w' o) names ∙ is t ∙ ap (λ (l : List ℕ). overlay_bytes c.args.at c.args.bytes.now l) before)) c.write_all.ensures.written

pub returns-clause-moments : goal.returns-clause-moments
returns-clause-moments g c =
    let f = c.args.file in
    let place = c.in_ok-place.place in
    let at = c.in_ok-place.ensures.place in
    let opened = c.touch.new.self.opened.items in
    let here : slice_get opened place ≡ Some (touch_file at.0) = c.touch.ensures.marked at.0 at.1 in
    let r = c.index.result.now in
    let there : slice_get opened place ≡ Some r = slice_get_read opened (length opened) place r refl (slice_get_within opened place (touch_file at.0) here) c.index.ensures in
    let same : r ≡ touch_file at.0 = same_Some r (touch_file at.0) (sym there ∙ here) in
    let number : r.number ≡ f = ap (λ (o : OpenedFile g.row.C-Handle.Denot). o.number) same ∙ at.2 in
    let calls = c.touch.new.self.calls in
    let w = g.C.Calls.world calls in
    let i = g.C.Calls.file r.file in
    let leads : IsTrue g.C.Calls.tells → w.names (name_of f) ≡ Some i = λ t. ap (λ (n : ℕ). w.names (name_of n)) (sym number) ∙ (c.touch.ensures.kept t).named place r there in
    let small = c.ranges.file.fits in
    let own : (v : World) → Now (g.C.Calls.clock calls) v → (h : ℕ) → h < 2 ^ 32 → v.names (name_of h) ≡ Some i → h ≡ f = λ v now h low is. name_inj h f low small (g.met.C.Calls.one_name calls v (name_of h) (name_of f) i now is (leads (g.met.C.Calls.told calls v now))) in
    let none : (l : List ℕ) → Torn c.args.at (length c.args.bytes.now) l l = torn_refl c.args.at (length c.args.bytes.now) in
    same_first (λ x. record { files = in_file_same f _ x.files (none (x.files f)); said = refl })
    (subst (λ k. Steps Same (seen_clock name_of (g.C.Calls.clock c.args.self.now.calls)) (seen_clock name_of (g.C.Calls.clock k))) (sym c.touch.ensures.calls) c.in_ok-place.ensures.moments)
    (on_file_steps f i small none own c.write_all.ensures.moments)
