-- The blocks of each file, and changes to them.
use Rattle.std.specs.Prelude.{ℕ, suc, ◌+◌, max, ◌<◌, ◌≤◌, ◌≡◌, ◌==◌, ◌&&◌, Bool, true, false, ◌⊎◌, IsTrue, if◌then◌else◌, List, [], ◌∷◌, ◌++◌, length, take, drop, slice_index_or, not, filter, nat_lt, Some, None}
use Rattle.std.specs.declared.option.Option.{Option}
use Rattle.std.specs.Str.{bytes_eq}
use Rattle.dms_block.specs.declared.change.Change.{Change}

-- by the file's number, its blocks in order
abbrev pub Content : Type 0
Content = ℕ → List (List ℕ)

-- a block of a file, [] where there is none
abbrev pub block_in : Content → ℕ → ℕ → List ℕ
block_in c f b = slice_index_or (c f) b []

-- an element is another one, or a new one at the end
abbrev pub put_block : ℕ → List ℕ → List (List ℕ) → List (List ℕ)
put_block b x l = take b l ++ (x ∷ drop (suc b) l)

-- one block is another one, or a new one at the end
unfoldable pub with_block : Content → ℕ → ℕ → List ℕ → Content
with_block c f b x = λ g. if g == f then put_block b x (c f) else c g

-- the changes, one after another
abbrev pub apply_changes : List Change → Content → Content
apply_changes [] c = c
apply_changes (x ∷ xs) c = apply_changes xs (with_block c x.id.file x.id.block x.block.0)

-- a count of blocks after one block was changed, or is new
abbrev pub raise_count : (ℕ → ℕ) → ℕ → ℕ → ℕ → ℕ
raise_count counts f b = λ g. if g == f then max (counts g) (b + 1) else counts g

-- the counts after changes
abbrev pub counts_after : List Change → (ℕ → ℕ) → ℕ → ℕ
counts_after [] counts = counts
counts_after (x ∷ xs) counts = counts_after xs (raise_count counts x.id.file x.id.block)

-- the first block number that no file has
abbrev pub limit : ℕ
limit = 2097152

-- Changes are of files that the object owns and of blocks below the limit, and each new block stands at its file's count.
abbrev pub FitsIn : List Change → (ℕ → Bool) → (ℕ → ℕ) → Type 0
FitsIn [] owns counts = Unit {0}
FitsIn (x ∷ xs) owns counts = IsTrue (owns x.id.file) × (x.id.block < limit) × (x.id.block ≤ counts x.id.file) × FitsIn xs owns (raise_count counts x.id.file x.id.block)

-- a change of this block
abbrev pub is_of : ℕ → ℕ → Change → Bool
is_of f b x = (x.id.file == f) && (x.id.block == b)

-- no change is of this block
abbrev pub NoneOf : ℕ → ℕ → List Change → Type 0
NoneOf f b [] = Unit {0}
NoneOf f b (x ∷ xs) = (is_of f b x ≡ false) × NoneOf f b xs

-- no two changes are of one block
abbrev pub AreApart : List Change → Type 0
AreApart [] = Unit {0}
AreApart (x ∷ xs) = NoneOf x.id.file x.id.block xs × AreApart xs

-- the changes with one more, in the place of that of the same block, if there is one
abbrev pub with_change : ℕ → ℕ → List ℕ → List Change → List Change
with_change f b y [] = record { id = record { file = f; block = b }; block = record { 0 = y } } ∷ []
with_change f b y (x ∷ xs) = if is_of f b x then record x { block = record { 0 = y } } ∷ xs else x ∷ with_change f b y xs

-- the bytes that a block is to be, if a change is of it
abbrev pub change_at : ℕ → ℕ → List Change → Option (List ℕ)
change_at f b [] = None
change_at f b (x ∷ xs) = if is_of f b x then Some x.block.0 else change_at f b xs

-- a change is of a new block, or isn't what stands there
abbrev pub differs : Content → Change → Bool
differs c x = not (nat_lt x.id.block (length (c x.id.file)) && bytes_eq (block_in c x.id.file x.id.block) x.block.0)

-- the changes that differ from what stands there
abbrev pub differing : Content → List Change → List Change
differing c xs = filter (differs c) xs

-- a change is taken up where it differs, and else it is of a block that stands there
abbrev pub TakesUp : Bool → Content → (ℕ → ℕ) → Change → List Change → List Change → Type 0
TakesUp told c counts x kept kept' =
    ((kept' ≡ with_change x.id.file x.id.block x.block.0 kept) × (IsTrue told → true ≡ differs c x))
    ⊎ ((kept' ≡ kept) × (x.id.block < counts x.id.file) × (IsTrue told → false ≡ differs c x))
