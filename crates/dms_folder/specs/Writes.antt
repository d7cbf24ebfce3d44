-- Writes by parts.
use Rattle.std.proofs.Common.{ℕ, ◌+◌, ◌-◌, ◌<◌, ◌≤◌, ◌≡◌, List, [], ◌++◌, length, take, drop, get_or, replicate, refl, sym, ◌∙◌, ap, arith, length-append, length-take, inl, ⊎_elim, zero, suc}
use Rattle.std.proofs.lemmas.List.{length-replicate, get_or-drop, ext_get_or, append-nil, drop_all, take-append-le, take-append-drop, get_or_append_left, get_or-append-add}
use Rattle.std.proofs.lemmas.Bool.{cases_lt}
use Rattle.std.proofs.Math.Seq.{take-add}
use Rattle.std.proofs.lemmas.Grind.{common_steps}
use Rattle.dms_moments.specs.Moments.{Clock, Steps}
use Rattle.dms_moments.specs.MomentLaws.{steps_on}
use Rattle.dms_site.specs.Files.{pad_zeros, overlay_bytes, Torn}
use Rattle.dms_site.specs.Laws.{length-overlaid}
use Rattle.dms_calls.specs.World.{World, OnFile}

-- a write of a part, and then of the rest
pub torn_on : (at n k m : ℕ) (a b c : List ℕ) → Torn at n a b → Torn (at + k) m b c → k + m ≤ n → Torn at n a c
torn_on at n k m a b c first then room = record {
  no_shorter = omega (arith, first.no_shorter, then.no_shorter);
  no_longer = omega (arith, first.no_longer, then.no_longer, room);
  below = λ i within low. then.below i (omega (arith, within, first.no_shorter)) (omega (arith, low)) ∙ first.below i within low;
  above = λ i within high. then.above i (omega (arith, within, first.no_shorter)) (omega (arith, high, room)) ∙ first.above i within high;
}

pub on_file_refl : (i : ℕ) (step : List ℕ → List ℕ → Type 0) (w : World) → step (w.bytes i) (w.bytes i) → OnFile i step w w
on_file_refl i step w here = record { here = here; others = λ j other. refl; names = λ m. refl; said = refl }

pub on_file_on : (i : ℕ) (r s t : List ℕ → List ℕ → Type 0) (a b c : World) → OnFile i r a b → OnFile i s b c → ((x y z : List ℕ) → r x y → s y z → t x z) → OnFile i t a c
on_file_on i r s t a b c first then both = record {
  here = both (a.bytes i) (b.bytes i) (c.bytes i) first.here then.here;
  others = λ j other. then.others j other ∙ first.others j other;
  names = λ m. then.names m ∙ first.names m;
  said = then.said ∙ first.said;
}

module _ {a b c : Clock World} (i at n k m : ℕ) where
  pub write_on : Steps (OnFile i (Torn at n)) a b → Steps (OnFile i (Torn (at + k) m)) b c → k + m ≤ n → Steps (OnFile i (Torn at n)) a c
  write_on first then room =
      steps_on first then
      (λ x y z now nowy one two. on_file_on i (Torn at n) (Torn (at + k) m) (Torn at n) x y z one two (λ p q r f t. torn_on at n k m p q r f t room))
      (λ x y now one. one)

-- no call was made
pub steps_none : (c : Clock World) (step : World → World → Type 0) → ((w : World) → step w w) → Steps step c c
steps_none c step same = record {
  follows = λ w now. (w, now, same w);
  runs = record { later = omega arith; only = λ t w le left. inl left; keeps = λ t w le left. left };
}

-- Each byte of a file with bytes over it.
length-front : (at : ℕ) (file : List ℕ) → length (take at (pad_zeros file at)) ≡ at
unfolding pad_zeros
length-front at file = omega (arith, length-take at (file ++ replicate (at - length file) 0), length-append file (replicate (at - length file) 0), length-replicate {A = ℕ} (at - length file) 0)

byte_before : (at i : ℕ) (file : List ℕ) → i < at → get_or (take at (pad_zeros file at)) i 0 ≡ get_or file i 0
unfolding pad_zeros
byte_before at i file low = grind (arith, common_steps, low)

byte_low : (at i : ℕ) (bytes file : List ℕ) → i < at → get_or (overlay_bytes at bytes file) i 0 ≡ get_or file i 0
unfolding overlay_bytes
byte_low at i bytes file low = grind (arith, common_steps, low, length-front at file, byte_before at i file low)

byte_in : (at i k : ℕ) (bytes file : List ℕ) → i ≡ at + k → k < length bytes → get_or (overlay_bytes at bytes file) i 0 ≡ get_or bytes k 0
unfolding overlay_bytes
byte_in at i k bytes file is low = grind (arith, common_steps, is, low, length-front at file)

byte_high : (at i : ℕ) (bytes file : List ℕ) → at + length bytes ≤ i → get_or (overlay_bytes at bytes file) i 0 ≡ get_or file i 0
unfolding overlay_bytes
byte_high at i bytes file high =
    let front = take at (pad_zeros file at) ++ bytes in
    let m = i - (at + length bytes) in
    let e : i ≡ length front + m = omega (arith, high, length-front at file, length-append (take at (pad_zeros file at)) bytes) in
    let b : at + length bytes + m ≡ i = omega (arith, high) in
    ap (λ (j : ℕ). get_or (front ++ drop (at + length bytes) file) j 0) e
    ∙ get_or-append-add front (drop (at + length bytes) file) m 0
    ∙ get_or-drop (at + length bytes) file m 0
    ∙ ap (λ (j : ℕ). get_or file j 0) b

module _ (at : ℕ) (p q file : List ℕ) (k : ℕ) where
  abbrev SameByte : Type 0
  SameByte = get_or (overlay_bytes (at + length p) q (overlay_bytes at p file)) k 0 ≡ get_or (overlay_bytes at (p ++ q) file) k 0

  on_low : k < at → SameByte
  on_low low = byte_low (at + length p) k q (overlay_bytes at p file) (omega (arith, low)) ∙ byte_low at k p file low ∙ sym (byte_low at k (p ++ q) file low)

  on_first : at ≤ k → k < at + length p → SameByte
  on_first low high =
      let j = k - at in
      let e : k ≡ at + j = omega (arith, low) in
      let h : j < length p = omega (arith, low, high) in
      byte_low (at + length p) k q (overlay_bytes at p file) high ∙ byte_in at k j p file e h
      ∙ sym (byte_in at k j (p ++ q) file e (omega (arith, h, length-append p q)) ∙ get_or_append_left p q 0 j h)

  on_then : at + length p ≤ k → k < at + length p + length q → SameByte
  on_then low high =
      let j = k - (at + length p) in
      let e : k ≡ at + length p + j = omega (arith, low) in
      let h : j < length q = omega (arith, low, high) in
      byte_in (at + length p) k j q (overlay_bytes at p file) e h
      ∙ sym (byte_in at k (length p + j) (p ++ q) file (omega (arith, e)) (omega (arith, h, length-append p q)) ∙ get_or-append-add p q j 0)

  on_high : at + length p + length q ≤ k → SameByte
  on_high high =
      byte_high (at + length p) k q (overlay_bytes at p file) high ∙ byte_high at k p file (omega (arith, high))
      ∙ sym (byte_high at k (p ++ q) file (omega (arith, high, length-append p q)))

  on_each : SameByte
  on_each =
      ⊎_elim on_low (λ a. ⊎_elim (on_first a) (λ b. ⊎_elim (on_then b) on_high (cases_lt k (at + length p + length q))) (cases_lt k (at + length p))) (cases_lt k at)

-- a part over a file, and then the rest behind it
pub overlaid_on : (at : ℕ) (p q file : List ℕ) → overlay_bytes (at + length p) q (overlay_bytes at p file) ≡ overlay_bytes at (p ++ q) file
overlaid_on at p q file =
    ext_get_or 0 (overlay_bytes (at + length p) q (overlay_bytes at p file)) (overlay_bytes at (p ++ q) file)
    (omega (arith, length-overlaid (at + length p) q (overlay_bytes at p file), length-overlaid at p file, length-overlaid at (p ++ q) file, length-append p q))
    (λ k low. on_each at p q file k)

-- what was written so far, and some more
pub some_on : (at done n : ℕ) (bytes old mid new : List ℕ) → (done ≡ 0 → mid ≡ old) → (0 < done → mid ≡ overlay_bytes at (take done bytes) old)
    → done ≤ length bytes → new ≡ overlay_bytes (at + done) (take n (drop done bytes)) mid → new ≡ overlay_bytes at (take (done + n) bytes) old
some_on at zero n bytes old mid new none some within is =
    let e : at + zero ≡ at = omega arith in
    let d : zero + n ≡ n = omega arith in
    is ∙ ap (λ (l : List ℕ). overlay_bytes (at + zero) (take n bytes) l) (none refl) ∙ ap (λ (k : ℕ). overlay_bytes k (take n bytes) old) e
    ∙ ap (λ (k : ℕ). overlay_bytes at (take k bytes) old) (sym d)
some_on at (suc k) n bytes old mid new none some within is =
    let e : length (take (suc k) bytes) ≡ suc k = omega (arith, within, length-take (suc k) bytes) in
    is ∙ ap (λ (l : List ℕ). overlay_bytes (at + suc k) (take n (drop (suc k) bytes)) l) (some (omega arith))
    ∙ ap (λ (d : ℕ). overlay_bytes (at + d) (take n (drop (suc k) bytes)) (overlay_bytes at (take (suc k) bytes) old)) (sym e)
    ∙ overlaid_on at (take (suc k) bytes) (take n (drop (suc k) bytes)) old
    ∙ ap (λ (l : List ℕ). overlay_bytes at l old) (sym (take-add (suc k) n bytes))

-- no bytes lengthen a file
pub overlaid_none : (len : ℕ) (file : List ℕ) → length file ≤ len → take len (pad_zeros file len) ≡ overlay_bytes len [] file
unfolding overlay_bytes
overlaid_none len file short =
    let e : drop (len + 0) file ≡ [] = drop_all (len + 0) file (omega (arith, short)) in
    sym (append-nil (take len (pad_zeros file len))) ∙ ap (λ (l : List ℕ). take len (pad_zeros file len) ++ l) (sym e)
    ∙ ap (λ (l : List ℕ). l ++ drop (len + 0) file) (sym (append-nil (take len (pad_zeros file len))))

pub overlaid_within : (len : ℕ) (file : List ℕ) → len ≤ length file → file ≡ overlay_bytes len [] file
unfolding overlay_bytes pad_zeros
overlaid_within len file long =
    sym (take-append-drop len file) ∙ ap (λ (l : List ℕ). l ++ drop len file) (sym (take-append-le len file (replicate (len - length file) 0) long) ∙ sym (append-nil (take len (file ++ replicate (len - length file) 0))))
    ∙ ap (λ (d : ℕ). take len (file ++ replicate (len - length file) 0) ++ [] ++ drop d file) (omega arith)

pub front_padded : (len : ℕ) (file : List ℕ) → len ≤ length file → take len (pad_zeros file len) ≡ take len file
unfolding pad_zeros
front_padded len file long = take-append-le len file (replicate (len - length file) 0) long
