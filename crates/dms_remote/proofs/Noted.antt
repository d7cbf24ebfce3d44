-- The entries of a block are noted.
use Rattle.std.proofs.Common.{ℕ, zero, suc, ◌+◌, ◌<◌, ◌≤◌, ◌≡◌, ◌∙◌, sym, ap, subst, refl, List, [], ◌∷◌, ◌++◌, map, take, length, get_or, append_assoc, append-nil, Some, arith}
use Rattle.std.proofs.lemmas.List.{take_more, take_all, length-append, length-map, length-take-le, map-append}
use Rattle.dms_site.specs.Files.{Files}
use Rattle.dms_history.specs.Entries.{Entry, quiet_point}
use Rattle.dms_audfile.specs.AuditTrail.{entry_from, entry_there, IsThere, AreThere}
use Rattle.dms_audfile.specs.Scanning.{Placed, place_in, entry_in}
use Rattle.dms_audfile.specs.declared.place.EntryPlace.{EntryPlace}
use Rattle.dms_restore.specs.Scanned.{IsInAudit, AreInAudit}
use Rattle.dms_restore.specs.Traces.{IsTraceOf}
use Rattle.dms_restore.specs.declared.trace.TrailTrace.{TrailTrace}
use Rattle.dms_remote.specs.Noting.{TracesSaid, AreSaid, NotesAll}

there_at : (files : Files) (ps : List Placed) (i : ℕ) (d : Placed) → AreThere files ps → i < length ps → IsThere files (get_or ps i d)
there_at files [] i d there low = absurd (omega (arith, low))
there_at files (p ∷ ps) zero d there low = there.0
there_at files (p ∷ ps) (suc i) d there low = there_at files ps i d there.1 (omega (arith, low))

said_at : (block : List ℕ) (ps : List Placed) (i : ℕ) (d : Placed) → AreSaid block ps → i < length ps → entry_from (get_or ps i d).place.offset block ≡ Some (get_or ps i d).entry
said_at block [] i d are low = absurd (omega (arith, low))
said_at block (p ∷ ps) zero d are low = are.0
said_at block (p ∷ ps) (suc i) d are low = said_at block ps i d are.1 (omega (arith, low))

audit_at : (ps : List EntryPlace) (i : ℕ) (d : EntryPlace) → AreInAudit ps → i < length ps → IsInAudit (get_or ps i d)
audit_at [] i d all low = absurd (omega (arith, low))
audit_at (p ∷ ps) zero d all low = all.0
audit_at (p ∷ ps) (suc i) d all low = audit_at ps i d all.1 (omega (arith, low))

get_map : (ps : List Placed) (i : ℕ) (d : Placed) (e : EntryPlace) → i < length ps → get_or (map place_in ps) i e ≡ (get_or ps i d).place
get_map [] i d e low = absurd (omega (arith, low))
get_map (p ∷ ps) zero d e low = refl
get_map (p ∷ ps) (suc i) d e low = get_map ps i d e (omega (arith, low))

-- the first so many were noted
abbrev pub NotesFirst : List ℕ → List EntryPlace → ℕ → ℕ → TrailTrace → TrailTrace → Type 0
NotesFirst block places at i old new = (files : Files) (entries : List Entry) (placed : List Placed) → places ≡ map place_in placed → AreSaid block placed → AreThere files placed → AreInAudit places
    → length entries ≡ at → IsTraceOf files entries old → IsTraceOf files (entries ++ map entry_in (take i placed)) new

pub notes_none : (block : List ℕ) (places : List EntryPlace) (at : ℕ) (old : TrailTrace) → NotesFirst block places at 0 old old
notes_none block places at old files entries placed are held there audit size traced = subst (λ (es : List Entry). IsTraceOf files es old) (sym (append-nil entries)) traced

pub notes_more : (block : List ℕ) (places : List EntryPlace) (at i : ℕ) (old mid new : TrailTrace) (p e : EntryPlace) → i < length places → p ≡ get_or places i e → TracesSaid block p (at + i) mid new → NotesFirst block places at i old mid
    → NotesFirst block places at (i + 1) old new
notes_more block places at i old mid new p e within is said first files entries placed are held there audit size traced =
    subst (λ (es : List Entry). IsTraceOf files es new) grown (said q.entry entry_is files (entries ++ map entry_in (take i placed)) in_audit stands long (first files entries placed are held there audit size traced))
  where
    d : Placed
    d = record { place = p; entry = quiet_point 0 }

    q : Placed
    q = get_or placed i d

    low : i < length placed
    low = omega (arith, within, ap length are ∙ length-map placed place_in)

    place_is : p ≡ q.place
    place_is = is ∙ ap (λ (ps : List EntryPlace). get_or ps i e) are ∙ get_map placed i d e low

    here : entry_there files q.place ≡ Some q.entry
    here = (there_at files placed i d there low).there

    entry_is : entry_from p.offset block ≡ Some q.entry
    entry_is = ap (λ (x : EntryPlace). entry_from x.offset block) place_is ∙ said_at block placed i d held low

    stands : entry_there files p ≡ Some q.entry
    stands = ap (λ (x : EntryPlace). entry_there files x) place_is ∙ here

    in_audit : IsInAudit p
    in_audit = subst IsInAudit (sym is) (audit_at places i e audit within)

    some : length (take i placed) ≡ i
    some = length-take-le i placed (omega (arith, low))

    long : length (entries ++ map entry_in (take i placed)) ≡ at + i
    long = length-append entries (map entry_in (take i placed)) ∙ (λ k. size k + (length-map (take i placed) entry_in ∙ some) k)

    grown : (entries ++ map entry_in (take i placed)) ++ q.entry ∷ [] ≡ entries ++ map entry_in (take (i + 1) placed)
    grown = append_assoc entries (map entry_in (take i placed)) (q.entry ∷ [])
        ∙ ap (λ (l : List Entry). entries ++ l) (sym (ap (λ (l : List Placed). map entry_in l) (take_more placed i d low) ∙ map-append entry_in (take i placed) (q ∷ [])))

pub notes_all : (block : List ℕ) (places : List EntryPlace) (at i : ℕ) (old new : TrailTrace) → length places ≤ i → NotesFirst block places at i old new → NotesAll block places at old new
notes_all block places at i old new far first files entries placed are held there audit size traced =
    subst (λ (ps : List Placed). IsTraceOf files (entries ++ map entry_in ps) new) (take_all i placed (omega (arith, far, ap length are ∙ length-map placed place_in)))
    (first files entries placed are held there audit size traced)
