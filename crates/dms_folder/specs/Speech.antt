-- Printing by parts.
use Rattle.std.proofs.Common.{ℕ, ◌+◌, ◌-◌, ◌≡◌, List, ◌++◌, length, take, drop, refl, sym, ◌∙◌, ap, subst, arith, length-drop, None, Some}
use Rattle.std.proofs.lemmas.List.{append_assoc, append-nil, take_all}
use Rattle.std.proofs.Math.Seq.{take-add}
use Rattle.std.specs.declared.option.Option.{Option}
use Rattle.dms_moments.specs.Moments.{Clock, Now, Steps}
use Rattle.dms_moments.specs.MomentLaws.{steps_on}
use Rattle.dms_site.specs.Files.{PrintsPartOf}
use Rattle.dms_calls.specs.World.{World, Speaks}
use Rattle.dms_calls.specs.Seen.{site_files, seen_clock, seen_steps, bytes_of, seen_alike}
use Rattle.dms_calls.specs.Names.{name_of}

pub speaks_none : (text : List ℕ) (w : World) → Speaks text w w
speaks_none text w = record { names = refl; bytes = refl; some = 0; said = sym (append-nil w.said) }

-- the first bytes were printed, and then some of the rest
pub speaks_on : (text base : List ℕ) (done : ℕ) (a b c : World) → a.said ≡ base → b.said ≡ base ++ take done text → b.names ≡ a.names → b.bytes ≡ a.bytes → Speaks (drop done text) b c → Speaks text a c
speaks_on text base done a b c first so_far names bytes then = record {
  names = then.names ∙ names;
  bytes = then.bytes ∙ bytes;
  some = done + then.some;
  said = then.said ∙ ap (λ (l : List ℕ). l ++ take then.some (drop done text)) so_far ∙ append_assoc base (take done text) (take then.some (drop done text))
      ∙ ap (λ (l : List ℕ). base ++ l) (sym (take-add done then.some text)) ∙ ap (λ (l : List ℕ). l ++ take (done + then.some) text) (sym first);
}

pub whole_rest : (done : ℕ) (text : List ℕ) → take (length text - done) (drop done text) ≡ drop done text
whole_rest done text = take_all (length text - done) (drop done text) (omega (arith, length-drop done text))

pub speak_steps : {a b c : Clock World} (text base : List ℕ) (done : ℕ) → ((w : World) → Now a w → w.said ≡ base) → ((w : World) → Now b w → w.said ≡ base ++ take done text)
    → Steps (Speaks text) a b → Steps (Speaks (take (length text - done) (drop done text))) b c → Steps (Speaks text) a c
speak_steps text base done first so_far one then =
    steps_on one then
    (λ x y z now nowy r s. speaks_on text base done x y z (first x now) (so_far y nowy) r.names r.bytes (subst (λ (l : List ℕ). Speaks l y z) (whole_rest done text) s))
    (λ x y now r. r)

same_bytes : (v w : World) → w.bytes ≡ v.bytes → (o : Option ℕ) → bytes_of w o ≡ bytes_of v o
same_bytes v w bytes None = refl
same_bytes v w bytes (Some i) = ap (λ (b : ℕ → List ℕ). b i) bytes

pub seen_spoken : (v w : World) → w.names ≡ v.names → w.bytes ≡ v.bytes → site_files name_of w ≡ site_files name_of v
seen_spoken v w names bytes = seen_alike name_of w v (λ f low. ap (λ (n : List ℕ → Option ℕ). bytes_of w (n (name_of f))) names ∙ same_bytes v w bytes (v.names (name_of f)))

pub spoken_steps : {a b : Clock World} (text : List ℕ) → Steps (Speaks text) a b → Steps (PrintsPartOf text) (seen_clock name_of a) (seen_clock name_of b)
spoken_steps text call = seen_steps name_of call (λ v w now s. record { files = seen_spoken v w s.names s.bytes; some = s.some; said = s.said })
