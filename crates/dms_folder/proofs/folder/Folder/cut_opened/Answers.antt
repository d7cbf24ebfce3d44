use Rattle.std.proofs.Common.{ℕ, List, ◌≡◌, ◌∙◌, ◌<◌, ◌^◌, sym, ap, refl, subst, length, Some, IsTrue, ◌≤◌, take, arith, inl}
use Rattle.std.specs.Prelude.{slice_get}
use Rattle.std.proofs.lemmas.Option.{same_Some, slice_get_read, slice_get_within}
use Rattle.std.proofs.lemmas.Result.{on_ok_weaker}
use Rattle.dms_moments.specs.Moments.{Now, Steps}
use Rattle.dms_site.specs.Files.{Files, InFile, Cut, Same, pad_zeros}
use Rattle.dms_site.specs.Laws.{in_file_same}
use Rattle.dms_calls.specs.World.{World}
use Rattle.dms_calls.specs.Seen.{site_files, seen_clock}
use Rattle.dms_folder.specs.declared.opened.OpenedFile.{OpenedFile}
use Rattle.dms_calls.specs.Names.{name_of}
use Rattle.dms_folder.specs.NameLaws.{name_inj}
use Rattle.dms_folder.specs.Kept.{touch_file}
use Rattle.dms_folder.specs.Writes.{front_padded}
use Rattle.dms_folder.specs.Moves.{same_first}
use Rattle.dms_folder.specs.Keeps.{kept_written}
use Rattle.dms_folder.specs.Shown.{on_file_seen, on_file_steps, in_file_is, quiet_steps, unchanged_steps, cut_none, seen_leads}
use Rattle.dms_folder.proofs.folder.Folder.cut_opened.Goals as goal

pub touch-requires-clause-place : goal.touch-requires-clause-place
touch-requires-clause-place g c = slice_get_within c.args.self.now.opened.items c.args.place c.requires.place.0 c.requires.place.1

pub index-requires-2 : goal.index-requires-2
index-requires-2 g c =
    let opened = c.touch.new.self.opened in
    omega (arith, slice_get_within opened.items c.args.place (touch_file c.requires.place.0) (c.touch.ensures.marked c.requires.place.0 c.requires.place.1), opened.ok.0)

pub returns-in_err-size-clause-moments : goal.returns-in_err-size-clause-moments
returns-in_err-size-clause-moments g c = quiet_steps c.args.file (λ l. inl refl) c.size.ensures.moments

pub returns-then-branch-len-clause-moments : goal.returns-then-branch-len-clause-moments
returns-then-branch-len-clause-moments g c = quiet_steps c.args.file (λ l. inl refl) c.size.ensures.moments

pub returns-then-branch-len-clause-cut : goal.returns-then-branch-len-clause-cut
returns-then-branch-len-clause-cut g c = λ t.
    let f = c.args.file in
    let place = c.args.place in
    let at = c.requires.place in
    let first = c.args.self.now.opened.items in
    let r = c.index.result.now in
    let is_at : slice_get first place ≡ Some r = slice_get_read first (length first) place r refl (slice_get_within first place at.0 at.1) c.index.ensures in
    let same : r ≡ at.0 = same_Some r at.0 (sym is_at ∙ at.1) in
    let number : r.number ≡ f = ap (λ (o : OpenedFile g.row.C-Handle.Denot). o.number) same ∙ at.2 in
    let v = g.C.Calls.world c.args.self.now.calls in
    let i = g.C.Calls.file r.file in
    let leads : IsTrue g.C.Calls.tells → v.names (name_of f) ≡ Some i = λ t. ap (λ (n : ℕ). v.names (name_of n)) (sym number) ∙ (c.requires.kept t).named place r is_at in
    let small = c.ranges.file.fits in
    let none : (l : List ℕ) → Cut c.args.len l l = λ l. inl refl in
    let short : length (site_files name_of v f) ≤ c.args.len = omega (arith, c.if-branch-len.true, c.in_ok-size.ensures.size t, ap (λ (l : List ℕ). length l) (seen_leads v f i small (leads t))) in
    ap (λ (w : World). site_files name_of w) c.size.ensures.world ∙ cut_none f c.args.len (site_files name_of v) short

pub returns-clause-kept : goal.returns-clause-kept
returns-clause-kept g c = λ t.
    let f = c.args.file in
    let place = c.args.place in
    let at = c.requires.place in
    let first = c.args.self.now.opened.items in
    let r = c.index.result.now in
    let is_at : slice_get first place ≡ Some r = slice_get_read first (length first) place r refl (slice_get_within first place at.0 at.1) c.index.ensures in
    let same : r ≡ at.0 = same_Some r at.0 (sym is_at ∙ at.1) in
    let number : r.number ≡ f = ap (λ (o : OpenedFile g.row.C-Handle.Denot). o.number) same ∙ at.2 in
    let v = g.C.Calls.world c.args.self.now.calls in
    let i = g.C.Calls.file r.file in
    let leads : IsTrue g.C.Calls.tells → v.names (name_of f) ≡ Some i = λ t. ap (λ (n : ℕ). v.names (name_of n)) (sym number) ∙ (c.requires.kept t).named place r is_at in
    let small = c.ranges.file.fits in
    let none : (l : List ℕ) → Cut c.args.len l l = λ l. inl refl in
    let opened = c.touch.new.self.opened.items in
    let r' = c.index-2.result.now in
    let here : slice_get opened place ≡ Some (touch_file at.0) = c.touch.ensures.marked at.0 at.1 in
    let there : slice_get opened place ≡ Some r' = slice_get_read opened (length opened) place r' refl (slice_get_within opened place (touch_file at.0) here) c.index-2.ensures in
    let same' : r' ≡ touch_file at.0 = same_Some r' (touch_file at.0) (sym there ∙ here) in
    let number' : r'.number ≡ f = ap (λ (o : OpenedFile g.row.C-Handle.Denot). o.number) same' ∙ at.2 in
    let calls = c.touch.new.self.calls in
    let w = g.C.Calls.world calls in
    let still : w ≡ v = ap (λ k. g.C.Calls.world k) c.touch.ensures.calls ∙ c.in_ok-size.ensures.world in
    let i' = g.C.Calls.file r'.file in
    let one_file : i ≡ i' = ap (λ (o : OpenedFile g.row.C-Handle.Denot). g.C.Calls.file o.file) same ∙ sym (ap (λ (o : OpenedFile g.row.C-Handle.Denot). g.C.Calls.file o.file) same') in
    let leads' : IsTrue g.C.Calls.tells → w.names (name_of f) ≡ Some i' = λ t. ap (λ (n : ℕ). w.names (name_of n)) (sym number') ∙ (c.touch.ensures.kept t).named place r' there in
    let own : (y : World) → Now (g.C.Calls.clock calls) y → (h : ℕ) → h < 2 ^ 32 → y.names (name_of h) ≡ Some i' → h ≡ f = λ y now h low is. name_inj h f low small (g.met.C.Calls.one_name calls y (name_of h) (name_of f) i' now is (leads' (g.met.C.Calls.told calls y now))) in
    let long : IsTrue g.C.Calls.tells → c.args.len ≤ length (w.bytes i') = λ t. omega (arith, c.if-branch-len.false, c.in_ok-size.ensures.size t, ap (λ (w : World). length (w.bytes i')) still, ap (λ (k : ℕ). length (v.bytes k)) one_file) in
    let w' = g.C.Calls.world c.ftruncate.new.self in
    let seeing = own w (g.met.C.Calls.may_stay calls t) in
    kept_written (c.touch.ensures.kept t) place f i' r' there number' (ap (λ (o : OpenedFile g.row.C-Handle.Denot). o.touched) same') (leads' t) seeing (c.ftruncate.ensures.cut long) (c.ftruncate.ensures.cut_moments long)

pub returns-clause-torn : goal.returns-clause-torn
returns-clause-torn g c = λ t.
    let f = c.args.file in
    let place = c.args.place in
    let at = c.requires.place in
    let first = c.args.self.now.opened.items in
    let r = c.index.result.now in
    let is_at : slice_get first place ≡ Some r = slice_get_read first (length first) place r refl (slice_get_within first place at.0 at.1) c.index.ensures in
    let same : r ≡ at.0 = same_Some r at.0 (sym is_at ∙ at.1) in
    let number : r.number ≡ f = ap (λ (o : OpenedFile g.row.C-Handle.Denot). o.number) same ∙ at.2 in
    let v = g.C.Calls.world c.args.self.now.calls in
    let i = g.C.Calls.file r.file in
    let leads : IsTrue g.C.Calls.tells → v.names (name_of f) ≡ Some i = λ t. ap (λ (n : ℕ). v.names (name_of n)) (sym number) ∙ (c.requires.kept t).named place r is_at in
    let small = c.ranges.file.fits in
    let none : (l : List ℕ) → Cut c.args.len l l = λ l. inl refl in
    let opened = c.touch.new.self.opened.items in
    let r' = c.index-2.result.now in
    let here : slice_get opened place ≡ Some (touch_file at.0) = c.touch.ensures.marked at.0 at.1 in
    let there : slice_get opened place ≡ Some r' = slice_get_read opened (length opened) place r' refl (slice_get_within opened place (touch_file at.0) here) c.index-2.ensures in
    let same' : r' ≡ touch_file at.0 = same_Some r' (touch_file at.0) (sym there ∙ here) in
    let number' : r'.number ≡ f = ap (λ (o : OpenedFile g.row.C-Handle.Denot). o.number) same' ∙ at.2 in
    let calls = c.touch.new.self.calls in
    let w = g.C.Calls.world calls in
    let still : w ≡ v = ap (λ k. g.C.Calls.world k) c.touch.ensures.calls ∙ c.in_ok-size.ensures.world in
    let i' = g.C.Calls.file r'.file in
    let one_file : i ≡ i' = ap (λ (o : OpenedFile g.row.C-Handle.Denot). g.C.Calls.file o.file) same ∙ sym (ap (λ (o : OpenedFile g.row.C-Handle.Denot). g.C.Calls.file o.file) same') in
    let leads' : IsTrue g.C.Calls.tells → w.names (name_of f) ≡ Some i' = λ t. ap (λ (n : ℕ). w.names (name_of n)) (sym number') ∙ (c.touch.ensures.kept t).named place r' there in
    let own : (y : World) → Now (g.C.Calls.clock calls) y → (h : ℕ) → h < 2 ^ 32 → y.names (name_of h) ≡ Some i' → h ≡ f = λ y now h low is. name_inj h f low small (g.met.C.Calls.one_name calls y (name_of h) (name_of f) i' now is (leads' (g.met.C.Calls.told calls y now))) in
    let long : IsTrue g.C.Calls.tells → c.args.len ≤ length (w.bytes i') = λ t. omega (arith, c.if-branch-len.false, c.in_ok-size.ensures.size t, ap (λ (w : World). length (w.bytes i')) still, ap (λ (k : ℕ). length (v.bytes k)) one_file) in
    let w' = g.C.Calls.world c.ftruncate.new.self in
    let seeing = own w (g.met.C.Calls.may_stay calls t) in
    let files : site_files name_of w ≡ site_files name_of v = ap (λ (w : World). site_files name_of w) still in
    let torn = c.ftruncate.ensures.cut long in
    let one : InFile f (Cut c.args.len) (site_files name_of v) (site_files name_of w') = subst (λ (l : Files). InFile f (Cut c.args.len) l (site_files name_of w')) files (on_file_seen f i' small none w w' seeing torn) in
    one

pub returns-clause-moments : goal.returns-clause-moments
returns-clause-moments g c =
    let f = c.args.file in
    let place = c.args.place in
    let at = c.requires.place in
    let first = c.args.self.now.opened.items in
    let r = c.index.result.now in
    let is_at : slice_get first place ≡ Some r = slice_get_read first (length first) place r refl (slice_get_within first place at.0 at.1) c.index.ensures in
    let same : r ≡ at.0 = same_Some r at.0 (sym is_at ∙ at.1) in
    let number : r.number ≡ f = ap (λ (o : OpenedFile g.row.C-Handle.Denot). o.number) same ∙ at.2 in
    let v = g.C.Calls.world c.args.self.now.calls in
    let i = g.C.Calls.file r.file in
    let leads : IsTrue g.C.Calls.tells → v.names (name_of f) ≡ Some i = λ t. ap (λ (n : ℕ). v.names (name_of n)) (sym number) ∙ (c.requires.kept t).named place r is_at in
    let small = c.ranges.file.fits in
    let none : (l : List ℕ) → Cut c.args.len l l = λ l. inl refl in
    let opened = c.touch.new.self.opened.items in
    let r' = c.index-2.result.now in
    let here : slice_get opened place ≡ Some (touch_file at.0) = c.touch.ensures.marked at.0 at.1 in
    let there : slice_get opened place ≡ Some r' = slice_get_read opened (length opened) place r' refl (slice_get_within opened place (touch_file at.0) here) c.index-2.ensures in
    let same' : r' ≡ touch_file at.0 = same_Some r' (touch_file at.0) (sym there ∙ here) in
    let number' : r'.number ≡ f = ap (λ (o : OpenedFile g.row.C-Handle.Denot). o.number) same' ∙ at.2 in
    let calls = c.touch.new.self.calls in
    let w = g.C.Calls.world calls in
    let still : w ≡ v = ap (λ k. g.C.Calls.world k) c.touch.ensures.calls ∙ c.in_ok-size.ensures.world in
    let i' = g.C.Calls.file r'.file in
    let one_file : i ≡ i' = ap (λ (o : OpenedFile g.row.C-Handle.Denot). g.C.Calls.file o.file) same ∙ sym (ap (λ (o : OpenedFile g.row.C-Handle.Denot). g.C.Calls.file o.file) same') in
    let leads' : IsTrue g.C.Calls.tells → w.names (name_of f) ≡ Some i' = λ t. ap (λ (n : ℕ). w.names (name_of n)) (sym number') ∙ (c.touch.ensures.kept t).named place r' there in
    let own : (y : World) → Now (g.C.Calls.clock calls) y → (h : ℕ) → h < 2 ^ 32 → y.names (name_of h) ≡ Some i' → h ≡ f = λ y now h low is. name_inj h f low small (g.met.C.Calls.one_name calls y (name_of h) (name_of f) i' now is (leads' (g.met.C.Calls.told calls y now))) in
    let long : IsTrue g.C.Calls.tells → c.args.len ≤ length (w.bytes i') = λ t. omega (arith, c.if-branch-len.false, c.in_ok-size.ensures.size t, ap (λ (w : World). length (w.bytes i')) still, ap (λ (k : ℕ). length (v.bytes k)) one_file) in
    let w' = g.C.Calls.world c.ftruncate.new.self in
    same_first (λ x. record { files = in_file_same f (Cut c.args.len) x.files (none (x.files f)); said = refl })
    (subst (λ k. Steps Same (seen_clock name_of (g.C.Calls.clock c.args.self.now.calls)) (seen_clock name_of (g.C.Calls.clock k))) (sym c.touch.ensures.calls) (unchanged_steps c.in_ok-size.ensures.moments))
    (on_file_steps f i' small none own (c.ftruncate.ensures.cut_moments long))

pub returns-clause-cut : goal.returns-clause-cut
returns-clause-cut g c = on_ok_weaker c.ftruncate.result (λ is t.
    let f = c.args.file in
    let place = c.args.place in
    let at = c.requires.place in
    let first = c.args.self.now.opened.items in
    let r = c.index.result.now in
    let is_at : slice_get first place ≡ Some r = slice_get_read first (length first) place r refl (slice_get_within first place at.0 at.1) c.index.ensures in
    let same : r ≡ at.0 = same_Some r at.0 (sym is_at ∙ at.1) in
    let number : r.number ≡ f = ap (λ (o : OpenedFile g.row.C-Handle.Denot). o.number) same ∙ at.2 in
    let v = g.C.Calls.world c.args.self.now.calls in
    let i = g.C.Calls.file r.file in
    let leads : IsTrue g.C.Calls.tells → v.names (name_of f) ≡ Some i = λ t. ap (λ (n : ℕ). v.names (name_of n)) (sym number) ∙ (c.requires.kept t).named place r is_at in
    let small = c.ranges.file.fits in
    let none : (l : List ℕ) → Cut c.args.len l l = λ l. inl refl in
    let opened = c.touch.new.self.opened.items in
    let r' = c.index-2.result.now in
    let here : slice_get opened place ≡ Some (touch_file at.0) = c.touch.ensures.marked at.0 at.1 in
    let there : slice_get opened place ≡ Some r' = slice_get_read opened (length opened) place r' refl (slice_get_within opened place (touch_file at.0) here) c.index-2.ensures in
    let same' : r' ≡ touch_file at.0 = same_Some r' (touch_file at.0) (sym there ∙ here) in
    let number' : r'.number ≡ f = ap (λ (o : OpenedFile g.row.C-Handle.Denot). o.number) same' ∙ at.2 in
    let calls = c.touch.new.self.calls in
    let w = g.C.Calls.world calls in
    let still : w ≡ v = ap (λ k. g.C.Calls.world k) c.touch.ensures.calls ∙ c.in_ok-size.ensures.world in
    let i' = g.C.Calls.file r'.file in
    let one_file : i ≡ i' = ap (λ (o : OpenedFile g.row.C-Handle.Denot). g.C.Calls.file o.file) same ∙ sym (ap (λ (o : OpenedFile g.row.C-Handle.Denot). g.C.Calls.file o.file) same') in
    let leads' : IsTrue g.C.Calls.tells → w.names (name_of f) ≡ Some i' = λ t. ap (λ (n : ℕ). w.names (name_of n)) (sym number') ∙ (c.touch.ensures.kept t).named place r' there in
    let own : (y : World) → Now (g.C.Calls.clock calls) y → (h : ℕ) → h < 2 ^ 32 → y.names (name_of h) ≡ Some i' → h ≡ f = λ y now h low is. name_inj h f low small (g.met.C.Calls.one_name calls y (name_of h) (name_of f) i' now is (leads' (g.met.C.Calls.told calls y now))) in
    let long : IsTrue g.C.Calls.tells → c.args.len ≤ length (w.bytes i') = λ t. omega (arith, c.if-branch-len.false, c.in_ok-size.ensures.size t, ap (λ (w : World). length (w.bytes i')) still, ap (λ (k : ℕ). length (v.bytes k)) one_file) in
    let w' = g.C.Calls.world c.ftruncate.new.self in
    let seeing = own w (g.met.C.Calls.may_stay calls t) in
    let files : site_files name_of w ≡ site_files name_of v = ap (λ (w : World). site_files name_of w) still in
    let torn = c.ftruncate.ensures.cut long in
    let one : InFile f (Cut c.args.len) (site_files name_of v) (site_files name_of w') = subst (λ (l : Files). InFile f (Cut c.args.len) l (site_files name_of w')) files (on_file_seen f i' small none w w' seeing torn) in
    let names : w'.names (name_of f) ≡ Some i' = torn.names (name_of f) ∙ leads' t in
    let front : take c.args.len (pad_zeros (w.bytes i') c.args.len) ≡ take c.args.len (w.bytes i') = front_padded c.args.len (w.bytes i') (long t) in
    let before : w.bytes i' ≡ site_files name_of v f = sym (seen_leads w f i' small (leads' t)) ∙ ap (λ (l : Files). l f) files in
    in_file_is f _ _ _ one (seen_leads w' f i' small names ∙ is t ∙ front ∙ ap (λ (l : List ℕ). take c.args.len l) before)) c.ftruncate.ensures.resized
