-- What a stop makes of one event, and a folder that begins with what it left.
use Rattle.std.proofs.Common.{ℕ, zero, suc, ◌+◌, ◌<◌, ◌≡◌, inl, inr, Vec, List, [], ◌∷◌, ◌++◌, take, Some, refl, sym, ◌∙◌, ap, subst, arith}
use Rattle.std.specs.Prelude.{slice_get}
use Rattle.std.specs.declared.alloc.Global.{Global}
use Rattle.std.proofs.lemmas.Option.{same_Some, none-some}
use Rattle.std.proofs.lemmas.Bool.{cases_lt, cases_eq}
use Rattle.dms_site.specs.Files.{Files, with_file}
use Rattle.dms_site.specs.Laws.{with_file_here, with_file_other}
use Rattle.dms_memcalls.specs.declared.event.CallEvent.{CallEvent}
use Rattle.dms_memcalls.specs.declared.event.CallEvent.TheVariants.{Found, Recalled}
use Rattle.dms_memcalls.specs.Names.{leads}
use Rattle.dms_memcalls.specs.NameLaws.{leads_is, leads_same}
use Rattle.dms_memcalls.specs.Folders.{FolderSeen, world_of}
use Rattle.dms_memcalls.specs.Events.{seen_after}
use Rattle.dms_memcalls.specs.Outcomes.{seen_of, past_of, seen_now, world_now}
use Rattle.dms_memcalls.specs.Steady.{past_push, seen_push}
use Rattle.dms_memcalls.specs.Strikes.{FileChanged, Strikes, IsLeft, Shows}
use Rattle.dms_memcalls.specs.StruckLaws.{struck_left}
use Rattle.dms_memcalls.proofs.Grown.{nothing_seen}

-- a file that was changed
pub changed_files : (left : FolderSeen) (f : ℕ) (step : List ℕ → List ℕ → Type 0) (x : List ℕ) (files : Files) (said : List ℕ) → step (left.bytes f) x → files ≡ with_file left.bytes f x → said ≡ left.said
    → FileChanged f step left (record { count = left.count; names = left.names; bytes = files; said = said })
changed_files left f step x files said took now same = record { bytes = x; took = took; is = λ i. record { count = left.count; names = left.names; bytes = now i; said = same i } }

-- one that was not
pub changed_not : (left : FolderSeen) (f : ℕ) (step : List ℕ → List ℕ → Type 0) → ((l : List ℕ) → step l l) → FileChanged f step left left
changed_not left f step refls = record { bytes = left.bytes f; took = refls (left.bytes f); is = λ i. record { count = left.count; names = left.names; bytes = λ k. same k i; said = left.said } }
  where
    same : (k : ℕ) → left.bytes k ≡ with_file left.bytes f (left.bytes f) k
    same k = elim (cases_eq f k) [
      | inl e ↦ sym (ap (λ (j : ℕ). with_file left.bytes f (left.bytes f) j) (sym e) ∙ with_file_here left.bytes f (left.bytes f) ∙ ap left.bytes e)
      | inr other ↦ sym (with_file_other left.bytes f (left.bytes f) k (λ e. other (sym e)))
    ]

take_suc : {X : Type 0} (xs : List X) (p : ℕ) (x : X) → slice_get xs p ≡ Some x → take (suc p) xs ≡ take p xs ++ x ∷ []
take_suc [] p x is = absurd (none-some x is)
take_suc (y ∷ xs) zero x is = ap (λ z. z ∷ []) (same_Some y x is)
take_suc (y ∷ xs) (suc p) x is = ap (λ l. y ∷ l) (take_suc xs p x is)

past_next : (events : List CallEvent) (p : ℕ) (e : CallEvent) → slice_get events p ≡ Some e → e ∷ past_of (take p events) ≡ past_of (take (p + 1) events)
past_next events p e is =
    let one : suc p ≡ p + 1 = omega arith in
    sym (ap (λ (n : ℕ). past_of (take n events)) (sym one) ∙ ap past_of (take_suc events p e is) ∙ past_push (take p events) e)

-- one more event before the stop
pub shown_next : (events : List CallEvent) (p : ℕ) (e : CallEvent) (shown new : FolderSeen) → slice_get events p ≡ Some e → shown ≡ seen_of (past_of (take p events)) → new ≡ seen_after e shown → new ≡ seen_of (past_of (take (p + 1) events))
shown_next events p e shown new is was now = now ∙ ap (λ (s : FolderSeen). seen_after e s) was ∙ ap seen_of (past_next events p e is)

pub left_next : (events : List CallEvent) (p : ℕ) (e : CallEvent) (shown left new : FolderSeen) → slice_get events p ≡ Some e → shown ≡ seen_of (past_of (take p events)) → IsLeft (past_of (take p events)) left → Strikes e shown left new
    → IsLeft (past_of (take (p + 1) events)) new
left_next events p e shown left new is was may struck =
    subst (λ (l : List CallEvent). IsLeft l new) (past_next events p e is) (struck_left (past_of (take p events)) left may e new (subst (λ (s : FolderSeen). Strikes e s left new) was struck))

-- the files of a folder up to that number came to another one
pub record Came (disk : FolderSeen) (n : ℕ) (now : FolderSeen) : Type 0 where
  pub count : now.count ≡ n
  pub names : (k : ℕ) → k < n → now.names k ≡ disk.names k
  pub bytes : (k : ℕ) → k < n → now.bytes k ≡ disk.bytes k
  pub said : now.said ≡ []

pub came_none : (disk : FolderSeen) (events : List CallEvent) → events ≡ [] → Came disk 0 (seen_now events)
came_none disk events none = subst (λ (s : FolderSeen). Came disk 0 s) (nothing_seen events none)
    (record { count = refl; names = λ k low. absurd (omega (arith, low)); bytes = λ k low. absurd (omega (arith, low)); said = refl })

one_came : (disk now : Files) (n c : ℕ) (bytes : List ℕ) → c ≡ n → ((k : ℕ) → k < n → now k ≡ disk k) → bytes ≡ disk n → (k : ℕ) → k < n + 1 → with_file now c bytes k ≡ disk k
one_came disk now n c bytes count below is k low = elim (cases_lt k n) [
  | inl before ↦ with_file_other now c bytes k (λ e. omega (arith, e, before, count)) ∙ below k before
  | inr last ↦
      let e : k ≡ c = omega (arith, low, last, count) in
      let d : n ≡ k = omega (arith, low, last) in
      ap (λ (j : ℕ). with_file now c bytes j) e ∙ with_file_here now c bytes ∙ is ∙ ap disk d
]

pub came_next : (disk : FolderSeen) (n : ℕ) (events all : List CallEvent) (name bytes : Vec ℕ Global) → Came disk n (seen_now events) → all ≡ events ++ Found name bytes ∷ [] → name.items ≡ disk.names n → bytes.items ≡ disk.bytes n → Came disk (n + 1) (seen_now all)
came_next disk n events all name bytes came more named held =
    let s = seen_now events in
    subst (λ (x : FolderSeen). Came disk (n + 1) x) (sym (ap seen_now more ∙ seen_push events (Found name bytes)))
    (record {
      count = ap (λ (c : ℕ). c + 1) came.count;
      names = one_came disk.names s.names n s.count name.items came.count came.names named;
      bytes = one_came disk.bytes s.bytes n s.count bytes.items came.count came.bytes held;
      said = came.said;
    })

pub came_all : (disk : FolderSeen) (n : ℕ) (events all : List CallEvent) (said : Vec ℕ Global) → Came disk n (seen_now events) → n ≡ disk.count → all ≡ events ++ Recalled said ∷ [] → said.items ≡ disk.said → Shows (world_of disk) (world_now all)
came_all disk n events all said came every more same =
    let s = seen_now events in
    subst (λ (x : FolderSeen). Shows (world_of disk) (world_of x)) (sym (ap seen_now more ∙ seen_push events (Recalled said)))
    (record {
      names = λ m. ap (λ (c : ℕ). leads c s.names m) (came.count ∙ every) ∙ leads_same disk.count disk.names s.names m (λ k low. came.names k (omega (arith, low, every)));
      bytes = λ m i at. came.bytes i (omega (arith, every, (leads_is disk.count disk.names m i at).0));
      said = ap (λ (l : List ℕ). l ++ said.items) came.said ∙ same;
    })
