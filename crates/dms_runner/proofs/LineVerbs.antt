-- The verb of a line names what is there, under a well-formed description.
use Rattle.std.proofs.Common.{◌≡◌, ◌≤◌, ◌-◌, ◌∙◌, ℕ, zero, suc, List, [], ◌∷◌, Bool, true, false, cond, not, eqb, Some, None, refl, sym, ap, subst, arith, nat_lt}
use Rattle.std.specs.Prelude.{slice_get, ◌==◌, IsTrue}
use Rattle.std.specs.List.{AllByRecursion}
use Rattle.std.specs.declared.option.Option.{Option}
use Rattle.std.proofs.lemmas.Bool.Decides.{nat_tests}
use Rattle.std.proofs.lemmas.Bool.{and_from, and_parts}
use Rattle.dms_base.specs.declared.kind.ItemKind.{ItemKind}
use Rattle.dms_base.specs.declared.kind.ItemKind.TheVariants.{Alpha, Number as Decimal, Bool as OneBit, Field, Link}
use Rattle.dms_base.specs.declared.kind.Literal.{Literal}
use Rattle.dms_desc.specs.declared.structure.Item.{Item}
use Rattle.dms_desc.specs.declared.structure.KeyPart.{KeyPart}
use Rattle.dms_desc.specs.Kinds.{is_link, is_restart, over}
use Rattle.dms_desc.specs.Lookups.{structure_of, items_of, parts_of, over_of}
use Rattle.dms_desc.specs.Shape.{Shape, Described}
use Rattle.dms_desc_bytes.specs.WellFormed.{IsWellFormed}
use Rattle.dms_model.specs.declared.verb.Setting.{Setting}
use Rattle.dms_model.specs.declared.verb.Path.{Path}
use Rattle.dms_model.specs.declared.verb.Path.TheVariants.{First, Last, Next, Prior, Current, Via, At}
use Rattle.dms_model.specs.declared.verb.Verb.{Verb}
use Rattle.dms_model.specs.declared.verb.Verb.TheVariants.{OpenUpdate, OpenInquiry, Close, Find, Lock, Free, Create, Put, Get, Store, Delete, Insert, Remove, Assign, Begin, End, Abort}
use Rattle.dms_model.specs.Session.{restart_in, restart_of}
use Rattle.dms_model.specs.Fitting.{IsDataSet}
use Rattle.dms_model.specs.Seeking.{kind_target, link_target}
use Rattle.dms_model.specs.Stores.{is_link_item}
use Rattle.dms_model.specs.Valid.{is_data_set, is_manual}
use Rattle.dms_model.specs.Verbs.{has_kind, is_path, IsAssigned, IsKeyOf, IsLinkIn, IsPathOf, IsSettingOf, IsSubsetOf, IsVerbOf, TakesLiteral}
use Rattle.dms_laws.proofs.Formed.{groups_at, in_number, of_number}
use Rattle.dms_script.specs.declared.line.Line.{Line}
use Rattle.dms_script.specs.declared.line.Line.TheVariants.{Verb as Spoken}
use Rattle.dms_script.specs.declared.look.Wanted.TheVariants.{DataSet, Path as AnyPath, Manual, Restart}
use Rattle.dms_script.specs.Lines.{line_of}
use Rattle.dms_script.specs.Looks.{is_link_to}
use Rattle.dms_script.specs.Spoken.{HasOrder, HasRestart, IsLinkOf as IsLinkNamed, IsLinkTo, IsManualOf, IsReferent, IsWay, is_such, MaySetTo, NamesWhatIsThere, SpeaksWell, TakeKey, TakesAt}
use Rattle.dms_script.proofs.Spoken.{lines_speak_well}

-- ---- literals

takes_so : (o : Option Item) (l : Literal) → MaySetTo o l → TakesLiteral o l
takes_so None l h = absurd h
takes_so (Some i) l h = record { kind = and_from (not (is_link i.kind)) (has_kind i.kind l) (ap not h.0) h.1.0; plain = h.1.1 }

settings_so : (items : List Item) (ts : List Setting) → AllByRecursion (λ (t : Setting). MaySetTo (slice_get items (t.item - 1)) t.literal) ts → AllByRecursion (IsSettingOf items) ts
settings_so items [] h = tt
settings_so items (t ∷ ts) h = (takes_so (slice_get items (t.item - 1)) t.literal h.0, settings_so items ts h.1)

key_so : (ps : List KeyPart) (items : List Item) (ls : List Literal) → TakeKey ps items ls → IsKeyOf ps items ls
key_so ps items [] h = tt
key_so [] items (l ∷ ls) h = absurd h
key_so (p ∷ ps) items (l ∷ ls) h = (takes_so (slice_get items (p.item - 1)) l h.0, key_so ps items ls h.1)

-- ---- structures

path_so : (o : Option Shape) → is_such AnyPath o ≡ true → IsTrue (is_path o)
path_so None h = absurd (cc)
path_so (Some s) h = h

-- a structure that a line names as a data set is one
pub data_set_of : (desc : Described) → ((n : ℕ) (shape : Shape) → structure_of desc n ≡ Some shape → 1 ≤ shape.kind) → (n : ℕ) → is_such DataSet (structure_of desc n) ≡ true → IsDataSet desc n
data_set_of desc kinds n h = by (structure_of desc n) refl h
  where
    by : (o : Option Shape) → structure_of desc n ≡ o → is_such DataSet o ≡ true → IsTrue (is_data_set o)
    by None here h = absurd (cc)
    by (Some s) here h = let low = kinds n s here in grind (arith, nat_tests, low, h)

-- a manual subset of a data set is one, and over it
manual_so : (set : ℕ) (o : Option Shape) → is_such (Manual set) o ≡ true → IsTrue (is_manual o) × (over_of o ≡ set)
manual_so set None h = absurd (cc)
manual_so set (Some s) h =
    let h' = and_parts (s.kind == 5) (s.set == set) h in
    let kind : nat_lt s.kind 3 ≡ false = let five = h'.0 in grind (arith, nat_tests, five) in
    (h'.0, ap (λ (b : Bool). cond b s.number s.set) kind ∙ (let e = h'.1 in grind (arith, nat_tests, e)))

-- a link that a line names is one, into the data set that it names
link_so : (to : Option ℕ) (o : Option Item) → IsLinkTo to o → IsTrue (is_link_item o)
link_so to None h = absurd h
link_so to (Some i) h = by to i.kind h
  where
    by : (to : Option ℕ) (kind : ItemKind) → is_link_to to kind ≡ true → IsTrue (is_link kind)
    by None kind h = h
    by (Some set) (Alpha n) h = absurd (cc)
    by (Some set) (Decimal n m s) h = absurd (cc)
    by (Some set) OneBit h = absurd (cc)
    by (Some set) (Field n) h = absurd (cc)
    by (Some set) (Link t counted) h = refl

target_so : (set : ℕ) (o : Option Item) → IsLinkTo (Some set) o → link_target o ≡ set
target_so set None h = absurd h
target_so set (Some i) h = by i.kind h
  where
    by : (kind : ItemKind) → is_link_to (Some set) kind ≡ true → kind_target kind ≡ set
    by (Alpha n) h = absurd (cc)
    by (Decimal n m s) h = absurd (cc)
    by OneBit h = absurd (cc)
    by (Field n) h = absurd (cc)
    by (Link t counted) h = grind (arith, nat_tests, h)

-- the first restart data set among these
record FirstRestart (ss : List Shape) : Type 0 where
  place : ℕ
  shape : Shape
  at : slice_get ss place ≡ Some shape
  restart : is_restart shape ≡ true
  number : restart_in ss ≡ shape.number

restart_here : (b : Bool) (x : Shape) (ss : List Shape) → is_restart x ≡ b → (b ≡ false → FirstRestart ss) → FirstRestart (x ∷ ss)
restart_here true x ss e rest = record { place = 0; shape = x; at = refl; restart = e; number = ap (λ (b : Bool). cond b x.number (restart_in ss)) e }
restart_here false x ss e rest =
    let r = rest refl in
    record { place = suc r.place; shape = r.shape; at = r.at; restart = r.restart; number = ap (λ (b : Bool). cond b x.number (restart_in ss)) e ∙ r.number }

first_restart : (ss : List Shape) (k : ℕ) (s : Shape) → slice_get ss k ≡ Some s → is_restart s ≡ true → FirstRestart ss
first_restart [] k s at h = absurd (cc)
first_restart (x ∷ ss) zero s at h = restart_here (is_restart x) x ss refl (λ not_so. let is : x ≡ s = cc in absurd (let no = sym (ap is_restart is ∙ h) ∙ not_so in cc))
first_restart (x ∷ ss) (suc k) s at h = restart_here (is_restart x) x ss refl (λ not_so. first_restart ss k s at h)

restart_such : (o : Option Shape) → is_such Restart o ≡ true → (C : Type 0) → ((s : Shape) → o ≡ Some s → is_restart s ≡ true → C) → C
restart_such None h C with_shape = absurd (cc)
restart_such (Some s) h C with_shape = with_shape s refl h

slice_of : (ss : List Shape) (n : ℕ) (s : Shape) → cond (n == 0) None (slice_get ss (n - 1)) ≡ Some s → slice_get ss (n - 1) ≡ Some s
slice_of ss n s h = by (eqb n 0) h
  where
    by : (b : Bool) → cond b None (slice_get ss (n - 1)) ≡ Some s → slice_get ss (n - 1) ≡ Some s
    by true h = absurd (cc)
    by false h = h

-- ---- verbs

module _ (desc : Described) (well : IsWellFormed desc) where
  kinds : (n : ℕ) (shape : Shape) → structure_of desc n ≡ Some shape → 1 ≤ shape.kind
  kinds n shape here = (of_number desc well n shape here).kind

  order : HasOrder desc
  order = record { numbers = in_number desc well; groups = groups_at desc well }

  number_here : (k : ℕ) (s : Shape) → slice_get desc.structures k ≡ Some s → structure_of desc s.number ≡ Some s
  number_here k s at =
      let some : (suc k == 0) ≡ false = grind (arith, nat_tests) in
      let e : suc k - 1 ≡ k = omega arith in
      ap (structure_of desc) (in_number desc well k s at) ∙ ap (λ (b : Bool). cond b None (slice_get desc.structures (suc k - 1))) some ∙ ap (slice_get desc.structures) e ∙ at

  restart_is : (s : Shape) → is_restart s ≡ true → IsTrue (is_data_set (Some s))
  restart_is s restart = grind (arith, nat_tests, restart)

  restart_so : HasRestart desc → IsDataSet desc (restart_of desc)
  restart_so h =
      restart_such (structure_of desc h.number) h.is _
      (λ s here restart.
      let r = first_restart desc.structures (h.number - 1) s (slice_of desc.structures h.number s here) restart in
      let there : structure_of desc (restart_of desc) ≡ Some r.shape = ap (structure_of desc) r.number ∙ number_here r.place r.shape r.at in
      subst (λ (o : Option Shape). IsTrue (is_data_set o)) (sym there) (restart_is r.shape r.restart))

  at_so : (x : ℕ) (literals : List Literal) (o : Option Shape) → structure_of desc x ≡ o → TakesAt desc o literals → IsKeyOf (parts_of o) (items_of (structure_of desc (over_of o))) literals
  at_so x literals None here h = absurd h
  at_so x literals (Some s) here h = key_so s.parts (items_of (structure_of desc (over s))) literals h

  link_in : (to : Option ℕ) (set item : ℕ) → IsLinkNamed desc to set item → IsLinkIn desc set item
  link_in to set item h = record { data_set = data_set_of desc kinds set h.data_set; link = link_so to (slice_get (items_of (structure_of desc set)) (item - 1)) h.link }

  subset_so : (set x : ℕ) → IsManualOf desc set x → IsSubsetOf desc set x
  subset_so set x h =
      let m = manual_so set (structure_of desc x) h.subset in
      record { data_set = data_set_of desc kinds set h.data_set; manual = m.0; over = m.1 }

  assigned_so : (to : Option ℕ) (set item : ℕ) → IsReferent desc to → IsLinkNamed desc to set item → IsAssigned desc to set item
  assigned_so None set item there h = tt
  assigned_so (Some d) set item there h = (data_set_of desc kinds d there, target_so d (slice_get (items_of (structure_of desc set)) (item - 1)) h.link)

  way_so : (path : Path) → IsWay desc path → IsPathOf desc path
  way_so (First x) h = path_so (structure_of desc x) h
  way_so (Last x) h = path_so (structure_of desc x) h
  way_so (Next x) h = path_so (structure_of desc x) h
  way_so (Prior x) h = path_so (structure_of desc x) h
  way_so (Current set) h = data_set_of desc kinds set h
  way_so (Via set item) h = link_in None set item h
  way_so (At x literals) h = (path_so (structure_of desc x) h.0, at_so x literals (structure_of desc x) refl h.1)

  verb_so : (verb : Verb) → NamesWhatIsThere desc verb → IsVerbOf desc verb
  verb_so OpenUpdate h = tt
  verb_so OpenInquiry h = tt
  verb_so Close h = tt
  verb_so (Find path) h = way_so path h
  verb_so (Lock path) h = way_so path h
  verb_so (Free set) h = data_set_of desc kinds set h
  verb_so (Create set) h = data_set_of desc kinds set h
  verb_so (Put set settings) h = (data_set_of desc kinds set h.0, settings_so (items_of (structure_of desc set)) settings h.1)
  verb_so (Get set items) h = (data_set_of desc kinds set h.0, h.1)
  verb_so (Store set) h = data_set_of desc kinds set h
  verb_so (Delete set) h = data_set_of desc kinds set h
  verb_so (Insert set subset) h = subset_so set subset h
  verb_so (Remove set subset) h = subset_so set subset h
  verb_so (Assign to set item) h = (link_in to set item h.1, assigned_so to set item h.0 h.1)
  verb_so (Begin audit) h = restart_so h
  verb_so (End audit sync) h = restart_so h
  verb_so Abort h = restart_so h

  spoken_so : (l : Line) (name : List ℕ) (verb : Verb) → SpeaksWell desc l → l ≡ Spoken name verb → IsVerbOf desc verb
  spoken_so l name verb h is = verb_so verb (subst (SpeaksWell desc) is h).1

  -- the verb of a line is one that the engine may be called with
  pub line_verb : (line : List ℕ) (name : List ℕ) (verb : Verb) → line_of desc line ≡ Spoken name verb → IsVerbOf desc verb
  line_verb line name verb is = spoken_so (line_of desc line) name verb (lines_speak_well desc order line) is
