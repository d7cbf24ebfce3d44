-- What was written is read again: numbers, names and literals.
use Rattle.std.proofs.Common.{◌≡◌, ℕ, ◌%◌, ◌^◌, ◌<◌, ◌≤◌, Bool, true, false, ltb, List, [], ◌∷◌, ◌++◌, length, refl, ap, ◌∙◌, arith}
use Rattle.std.specs.Int.{Width, w16, w32, w64, byte_len, from_be_bytes, to_be_bytes}
use Rattle.std.proofs.lemmas.Bool.{le-ltb}
use Rattle.std.proofs.lemmas.List.{take_at, drop_at, length-append}
use Rattle.std.proofs.lemmas.Nat.{from_be_bytes-to_be_bytes_2, from_be_bytes-to_be_bytes_4, from_be_bytes-to_be_bytes_8}
use Rattle.dms_desc_bytes.specs.Reading.{ReadBytes, bytes_at, number_in, number_at, flag_at, counted_at}
use Rattle.dms_desc_bytes.specs.Spelling.{flag, count_byte}

-- a spelling is read again as this, whatever follows it
abbrev pub Again : {A : Type 0} → (List ℕ → ReadBytes A) → List ℕ → A → Type 0
Again {A} one text x = (rest : List ℕ) → ◌≡◌ {A = ReadBytes A} (one (text ++ rest)) (x, rest)

pub bytes_again : (n : ℕ) (text : List ℕ) → length text ≡ n → Again (bytes_at n) text text
unfolding bytes_at
bytes_again n text size rest =
    let long : ltb (length (text ++ rest)) n ≡ false = le-ltb _ _ (omega (arith, length-append text rest, size)) in
    rw (long, take_at text rest n size, drop_at text rest n size) refl

number_again : (w : Width) (n : ℕ) → length (to_be_bytes w n) ≡ byte_len w → from_be_bytes w (to_be_bytes w n) ≡ n → Again (number_at w) (to_be_bytes w n) n
unfolding number_at
number_again w n size back rest =
    let whole : ltb (length (to_be_bytes w n)) (byte_len w) ≡ false = le-ltb _ _ (omega (arith, size)) in
    ap (λ (r : ReadBytes (List ℕ)). number_in w r) (bytes_again (byte_len w) (to_be_bytes w n) size rest)
    ∙ rw (whole, back) refl

pub u16_again : (n : ℕ) → n < 2 ^ 16 → Again (number_at w16) (to_be_bytes w16 n) n
u16_again n low = number_again w16 n refl (from_be_bytes-to_be_bytes_2 n low)

pub u32_again : (n : ℕ) → n < 2 ^ 32 → Again (number_at w32) (to_be_bytes w32 n) n
u32_again n low = number_again w32 n refl (from_be_bytes-to_be_bytes_4 n low)

pub u64_again : (n : ℕ) → n < 2 ^ 64 → Again (number_at w64) (to_be_bytes w64 n) n
u64_again n low = number_again w64 n refl (from_be_bytes-to_be_bytes_8 n low)

pub flag_again : (b : Bool) → Again flag_at (flag b ∷ []) b
unfolding flag_at
flag_again true rest = refl
flag_again false rest = refl

pub small_count : (n : ℕ) → n ≤ 255 → n % 256 ≡ n
small_count n low = omega arith

pub counted_again : (text : List ℕ) → length text ≤ 255 → Again counted_at (count_byte text ∷ text) text
unfolding counted_at
counted_again text low rest =
    ap (λ (k : ℕ). bytes_at k (text ++ rest)) (small_count (length text) low) ∙ bytes_again (length text) text refl rest
