-- A record, and a stream, as they were printed.
use Rattle.std.proofs.Common.{ℕ, ◌≡◌, ◌∙◌, sym, ap, subst, List, [], ◌∷◌, ◌++◌, take, drop, append_assoc, append-nil, length, arith, drop_of_length-le}
use Rattle.std.specs.Int.{w16, w32, to_be_bytes}
use Rattle.dms_site.specs.Files.{Files, range}
use Rattle.dms_audfile.specs.Database.{HasDatabase}
use Rattle.dms_audfile.specs.declared.fault.AudFault.{AudFault}
use Rattle.dms_audfile.specs.declared.fault.AudFault.TheVariants.{NoDatabase, Disk, Full, Missing, Unsealed, Damaged, Foreign, Memory}
use Rattle.dms_stream.specs.Stream.{Heading, head_bytes, record_bytes, records_bytes, stream_bytes}
use Rattle.dms_remote.specs.Shipping.{PrintsFirst, RefusesFrom, IsLateAudit, RefusesShip, IsLate, IsOfShipping}
use Rattle.dms_remote.specs.declared.fault.RemoteFault.{RemoteFault}
use Rattle.dms_remote.specs.declared.fault.RemoteFault.TheVariants.{Audit, Input, Bytes, Say, BadStream, Diverged}
use Rattle.dms_remote.specs.Shipment.{GivesNone}
use Rattle.dms_remote.proofs.Printing.{first_front, first_then}

-- what was read over a whole slice
pub read_whole : (old into file : List ℕ) (at n : ℕ) → length old ≡ 4096 → n ≡ length (range at (length old) file) → into ≡ range at (length old) file ++ drop n old → length (range at 4096 file) ≡ 4096
    → into ≡ range at 4096 file
read_whole old into file at n size many is whole =
    let all : n ≡ 4096 = many ∙ ap (λ (k : ℕ). length (range at k file)) size ∙ whole in
    is ∙ (λ i. range at (size i) file ++ drop n old) ∙ ap (λ (l : List ℕ). range at 4096 file ++ l) (drop_of_length-le old (omega (arith, all, size))) ∙ append-nil (range at 4096 file)

pub record_loaded : (k i : ℕ) (old put into block : List ℕ) → put ≡ 1 ∷ (to_be_bytes w32 k ++ (to_be_bytes w16 i ++ drop 7 old)) → into ≡ block → take 7 put ++ into ≡ record_bytes k i block
unfolding record_bytes
record_loaded k i old put into block one two = λ j. take 7 (one j) ++ two j

-- ---- the stream

module _ (h : Heading) (k : ℕ) (blocks : List (List ℕ)) (head : List ℕ) (head_is : head ≡ head_bytes h) where
  stream_is : stream_bytes h k blocks ≡ head ++ (records_bytes h.total k 1 blocks ++ 0 ∷ [])
  unfolding stream_bytes
  stream_is = ap (λ (l : List ℕ). l ++ (records_bytes h.total k 1 blocks ++ 0 ∷ [])) (sym head_is)

  pub stream_said : (s t u v : List ℕ) → t ≡ s ++ head → u ≡ t ++ records_bytes h.total k 1 blocks → v ≡ u ++ 0 ∷ [] → v ≡ s ++ stream_bytes h k blocks
  stream_said s t u v one two three =
      three ∙ ap (λ (l : List ℕ). l ++ 0 ∷ []) (two ∙ ap (λ (l : List ℕ). l ++ records_bytes h.total k 1 blocks) one) ∙ append_assoc (s ++ head) (records_bytes h.total k 1 blocks) (0 ∷ [])
      ∙ append_assoc s head (records_bytes h.total k 1 blocks ++ 0 ∷ []) ∙ ap (λ (l : List ℕ). s ++ l) (sym stream_is)

  pub stream_head : (s t : List ℕ) → PrintsFirst head s t → PrintsFirst (stream_bytes h k blocks) s t
  stream_head s t p = subst (λ (l : List ℕ). PrintsFirst l s t) (sym stream_is) (first_front head (records_bytes h.total k 1 blocks ++ 0 ∷ []) s t p)

  pub stream_blocks : (s t u : List ℕ) → t ≡ s ++ head → PrintsFirst (records_bytes h.total k 1 blocks) t u → PrintsFirst (stream_bytes h k blocks) s u
  stream_blocks s t u one p =
      subst (λ (l : List ℕ). PrintsFirst l s u) (sym stream_is) (first_then head (records_bytes h.total k 1 blocks ++ 0 ∷ []) s t u one (first_front (records_bytes h.total k 1 blocks) (0 ∷ []) t u p))

  pub stream_end : (s t u v : List ℕ) → t ≡ s ++ head → u ≡ t ++ records_bytes h.total k 1 blocks → PrintsFirst (0 ∷ []) u v → PrintsFirst (stream_bytes h k blocks) s v
  stream_end s t u v one two p =
      subst (λ (l : List ℕ). PrintsFirst l s v) (sym stream_is) (first_then head (records_bytes h.total k 1 blocks ++ 0 ∷ []) s t v one (first_then (records_bytes h.total k 1 blocks) (0 ∷ []) t u v two p))

-- ---- refusals

pub none_refuses : (k : ℕ) (files : Files) (fault : AudFault) → HasDatabase (files 1) → GivesNone (files 1) fault → RefusesFrom k files fault
none_refuses k files NoDatabase there none = absurd (none there.description there.sealed)
none_refuses k files Disk there none = tt
none_refuses k files (Full n) there none = absurd none
none_refuses k files (Missing n) there none = absurd none
none_refuses k files (Unsealed n) there none = absurd none
none_refuses k files (Damaged f b) there none = absurd none
none_refuses k files (Foreign n) there none = absurd none
none_refuses k files Memory there none = tt

late_audit : (k : ℕ) (files : Files) (fault : AudFault) → IsLateAudit fault → RefusesFrom k files fault
late_audit k files NoDatabase late = absurd late
late_audit k files Disk late = tt
late_audit k files (Full n) late = absurd late
late_audit k files (Missing n) late = absurd late
late_audit k files (Unsealed n) late = absurd late
late_audit k files (Damaged f b) late = absurd late
late_audit k files (Foreign n) late = absurd late
late_audit k files Memory late = tt

pub late_refuses : (k : ℕ) (files : Files) (fault : RemoteFault) → IsLate fault → RefusesShip k files fault
late_refuses k files (Audit fault) late = late_audit k files fault late
late_refuses k files Input late = absurd late
late_refuses k files Bytes late = absurd late
late_refuses k files Say late = tt
late_refuses k files (BadStream p) late = absurd late
late_refuses k files (Diverged f b) late = absurd late

pub late_kind : (fault : RemoteFault) → IsLate fault → IsOfShipping fault
late_kind (Audit fault) late = tt
late_kind Input late = absurd late
late_kind Bytes late = absurd late
late_kind Say late = tt
late_kind (BadStream p) late = absurd late
late_kind (Diverged f b) late = absurd late
