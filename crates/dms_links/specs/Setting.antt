-- A link is set, and the records that it referred to and refers to count it: the slots that are altered.
use Rattle.std.proofs.Common.{◌≡◌, ◌∙◌, ◌-◌, ℕ, List, [], ◌∷◌, ◌++◌, Bool, true, false, Some, None, refl, sym, ap, subst, slice_get}
use Rattle.std.specs.Prelude.{◌==◌, if◌then◌else◌}
use Rattle.std.proofs.lemmas.Option.{same_Some}
use Rattle.std.specs.declared.option.Option.{Option}
use Rattle.dms_base.specs.declared.kind.ItemKind.{ItemKind}
use Rattle.dms_base.specs.declared.kind.ItemKind.TheVariants.{Alpha, Number as Decimal, Bool as OneBit, Field, Link}
use Rattle.dms_base.specs.declared.value.Value.{Value}
use Rattle.dms_base.specs.declared.value.Value.TheVariants.{Null, Text, Number, Bool as Truth, Bits, Link as Reference}
use Rattle.dms_block.specs.Content.{Content}
use Rattle.dms_desc.specs.Conds.{or_null}
use Rattle.dms_desc.specs.Lookups.{structure_of}
use Rattle.dms_desc.specs.Shape.{Shape, Described}
use Rattle.dms_desc.specs.declared.structure.Item.{Item}
use Rattle.dms_layout.specs.Slots.{SlotFits}
use Rattle.dms_layout.specs.declared.slot.Slot.{Slot}
use Rattle.dms_layout.specs.declared.slot.SlotRead.{SlotRead}
use Rattle.dms_layout.specs.declared.slot.SlotRead.TheVariants.{Free, Used, Bad}
use Rattle.dms_slots.specs.SlotBlocks.{slot_at}
use Rattle.dms_links.specs.AlteringIn.{OfStructure, is_slot}
use Rattle.dms_links.specs.Rows.{file_in}
use Rattle.dms_links.specs.Stepping.{AltersSteps, SlotStep}
use Rattle.dms_links.specs.declared.altering.SlotChange.{SlotChange}
use Rattle.dms_links.specs.declared.altering.SlotChange.TheVariants.{Counted, Uncounted, Linked}

-- the data set whose records count links of this kind, 0 for none
abbrev pub counts_in_kind : ItemKind → ℕ
counts_in_kind (Alpha n) = 0
counts_in_kind (Decimal n d s) = 0
counts_in_kind OneBit = 0
counts_in_kind (Field n) = 0
counts_in_kind (Link to counted) = if counted then to else 0

abbrev pub counts_in : Option Item → ℕ
counts_in None = 0
counts_in (Some i) = counts_in_kind i.kind

-- the number to which a value refers
abbrev pub target_of : Value → Option ℕ
target_of Null = None
target_of (Text a) = None
target_of (Number a) = None
target_of (Truth a) = None
target_of (Bits a) = None
target_of (Reference n) = Some n

-- the slot of a record that counts links, changed so, where one refers to it
abbrev pub count_steps : ℕ → Option ℕ → SlotChange → List SlotStep
count_steps t None change = []
count_steps t (Some n) change = if t == 0 then [] else record { set = t; number = n; change = change } ∷ []

-- the record that a link referred to counts it no more, and that which it refers to now does
abbrev pub moved_steps : ℕ → Option ℕ → Option ℕ → List SlotStep
moved_steps t old to = count_steps t old Uncounted ++ count_steps t to Counted

-- and the link is set
abbrev pub link_step : ℕ → ℕ → ℕ → Option ℕ → SlotStep
link_step set number item to = record { set = set; number = number; change = Linked item to }

abbrev pub link_steps : ℕ → ℕ → ℕ → Option ℕ → ℕ → Option ℕ → List SlotStep
link_steps set number item to t old = moved_steps t old to ++ (link_step set number item to ∷ [])

-- what the link of a slot refers to
abbrev pub old_target : ℕ → Slot → Option ℕ
old_target item x = target_of (or_null (slice_get x.rec.values (item - 1)))

-- Where a record stands in the slot these slots are altered, and else none is.
abbrev pub LinksSlot : Described → Shape → ℕ → ℕ → ℕ → Option ℕ → SlotRead → Bool → Content → Content → Type 0
LinksSlot desc s set number item to Free done c d = (done ≡ false) × (d ≡ c)
LinksSlot desc s set number item to (Used x) done c d = SlotFits s x × AltersSteps desc (link_steps set number item to (counts_in (slice_get s.items (item - 1))) (old_target item x)) done c d
LinksSlot desc s set number item to Bad done c d = (done ≡ false) × (d ≡ c)

-- The same of a record by the number of its data set.
abbrev pub LinksIn : Described → ℕ → ℕ → ℕ → Option ℕ → Content → Content → Bool → Type 0
LinksIn desc set number item to c d done = OfStructure desc set (λ s. is_slot s number ≡ true → LinksSlot desc s set number item to (slot_at s (file_in c s) number) done c d)

-- ---- what an answer says

none_at : (s : Shape) → ◌≡◌ {A = Option Shape} None (Some s) → ⊥
none_at s h = absurd (cc)

not_both : false ≡ true → ⊥
not_both h = absurd (cc)

pub links_none : (desc : Described) (set number item : ℕ) (to : Option ℕ) (c d : Content) (done : Bool) → structure_of desc set ≡ None → LinksIn desc set number item to c d done
links_none desc set number item to c d done off s at one = absurd (none_at s (sym off ∙ at))

pub links_off : (desc : Described) (set number item : ℕ) (to : Option ℕ) (c d : Content) (done : Bool) (s : Shape) → structure_of desc set ≡ Some s → is_slot s number ≡ false → LinksIn desc set number item to c d done
links_off desc set number item to c d done s at off t there one =
    absurd (not_both (sym off ∙ subst (λ (x : Shape). is_slot x number ≡ true) (sym (same_Some s t (sym at ∙ there))) one))

pub links_slot : (desc : Described) (set number item : ℕ) (to : Option ℕ) (c d : Content) (done : Bool) (s : Shape) (r : SlotRead) → structure_of desc set ≡ Some s → slot_at s (file_in c s) number ≡ r → LinksSlot desc s set number item to r done c d
    → LinksIn desc set number item to c d done
links_slot desc set number item to c d done s r at was h t there one =
    subst (λ (x : Shape). LinksSlot desc x set number item to (slot_at x (file_in c x) number) done c d) (same_Some s t (sym at ∙ there))
    (subst (λ (x : SlotRead). LinksSlot desc s set number item to x done c d) (sym was) h)

pub links_used : (desc : Described) (set number item : ℕ) (to : Option ℕ) (c e d : Content) (done : Bool) (s : Shape) (x : Slot) (counts : ℕ) (old : Option ℕ) → structure_of desc set ≡ Some s → slot_at s (file_in c s) number ≡ Used x → SlotFits s x → e ≡ c
    → counts ≡ counts_in (slice_get s.items (item - 1)) → old ≡ old_target item x → AltersSteps desc (link_steps set number item to counts old) done e d → LinksIn desc set number item to c d done
links_used desc set number item to c e d done s x counts old at was fits same counts_is old_is h =
    links_slot desc set number item to c d done s (Used x) at was (
      fits,
      subst (λ (z : Content). AltersSteps desc (link_steps set number item to (counts_in (slice_get s.items (item - 1))) (old_target item x)) done z d) same
          (subst (λ (o : Option ℕ). AltersSteps desc (link_steps set number item to (counts_in (slice_get s.items (item - 1))) o) done e d) old_is (subst (λ k. AltersSteps desc (link_steps set number item to k old) done e d) counts_is h)),
    )
