-- The lines of a text.
use Rattle.std.specs.Prelude.{ℕ, List, [], ◌∷◌, ◌==◌, ◌&&◌, if◌then◌else◌, Bool, false}

-- a byte goes onto the first line of the rest
abbrev pub onto_first : ℕ → List (List ℕ) → List (List ℕ)
onto_first b [] = (b ∷ []) ∷ []
onto_first b (l ∷ ls) = (b ∷ l) ∷ ls

-- the lines of a text, each with the line feed that ends it; a last one without a line feed counts
abbrev pub raw_lines : List ℕ → List (List ℕ)
raw_lines [] = []
raw_lines (b ∷ bs) = if b == 10 then (b ∷ []) ∷ raw_lines bs else onto_first b (raw_lines bs)

-- the first line, and what follows it
abbrev pub first_line : List ℕ → List ℕ
first_line [] = []
first_line (b ∷ bs) = if b == 10 then b ∷ [] else b ∷ first_line bs

abbrev pub after_line : List ℕ → List ℕ
after_line [] = []
after_line (b ∷ bs) = if b == 10 then bs else after_line bs

-- a line's end: a line feed, or a carriage return and a line feed
abbrev pub is_end : List ℕ → Bool
is_end [] = false
is_end (b ∷ []) = b == 10
is_end (b ∷ c ∷ []) = (b == 13) && (c == 10)
is_end (b ∷ c ∷ d ∷ ds) = false

-- a line without its line feed, and without a carriage return that stands before it
abbrev pub line_text : List ℕ → List ℕ
line_text [] = []
line_text (b ∷ bs) = if is_end (b ∷ bs) then [] else b ∷ line_text bs
