-- The leaves of a tree, from the numbers of their level and the separators between them.
use Rattle.std.specs.Prelude.{ℕ, zero, suc, ◌+◌, ◌==◌, ◌&&◌, not, Bool, true, false, List, [], ◌∷◌, length, drop, Some, None, slice_get, slice_index_or}
use Rattle.std.specs.declared.option.Option.{Option}
use Rattle.std.specs.Ordering.{is_gt, is_lt}
use Rattle.dms_chain.specs.Leads.{last_of}
use Rattle.dms_chain.specs.Linked.{said_by}
use Rattle.dms_chain.specs.ListBlocks.{leaf_in}
use Rattle.dms_chain.specs.Lists.{bytes_cmp}
use Rattle.dms_tree.specs.TreeBlocks.{leaf_half}
use Rattle.dms_tree.specs.TreeIn.{first_number, is_half}

-- entries may stand behind a separator, if there is one
abbrev pub is_behind : Option (List ℕ) → List (List ℕ) → Bool
is_behind None es = true
is_behind (Some f) [] = true
is_behind (Some f) (e ∷ es) = not (is_gt (bytes_cmp f e))

abbrev pub ends_below : List ℕ → Option (List ℕ) → Bool
ends_below f None = true
ends_below f (Some e) = is_lt (bytes_cmp e f)

-- a separator, if there is one, may stand behind entries
abbrev pub is_ahead : List (List ℕ) → Option (List ℕ) → Bool
is_ahead es None = true
is_ahead es (Some f) = ends_below f (last_of es)

-- What is asked of a leaf with a number: it names the next one, it is the root or at least half full, and its entries stand between two separators.
abbrev pub fits_leaf : ℕ → ℕ → ℕ → ℕ → Option (List ℕ) → Option (List ℕ) → ℕ × List (List ℕ) → Bool
fits_leaf width root n next before after x = (((x.0 == next) && is_half root (leaf_half width) n (length x.1)) && is_behind before x.1) && is_ahead x.1 after

-- such a leaf stands there
abbrev pub is_leaf : ℕ → ℕ → ℕ → ℕ → Option (List ℕ) → Option (List ℕ) → Option (ℕ × List (List ℕ)) → Bool
is_leaf width root n next before after None = false
is_leaf width root n next before after (Some x) = fits_leaf width root n next before after x

-- at these numbers stand leaves, with these separators between them
abbrev pub are_leaves : ℕ → ℕ → (ℕ → Option (List ℕ)) → Option (List ℕ) → List ℕ → List (List ℕ) → Bool
are_leaves width root look before [] fs = true
are_leaves width root look before (n ∷ ns) fs = is_leaf width root n (first_number ns) before (slice_get fs 0) (said_by (leaf_in width) (look n)) && are_leaves width root look (slice_get fs 0) ns (drop 1 fs)

-- the separator before a place
abbrev pub bar_before : List (List ℕ) → ℕ → Option (List ℕ)
bar_before fs zero = None
bar_before fs (suc k) = slice_get fs k

-- what is asked of a leaf at a place
abbrev pub fits_place : ℕ → ℕ → List ℕ → List (List ℕ) → ℕ → ℕ × List (List ℕ) → Bool
fits_place width root ns fs k x = fits_leaf width root (slice_index_or ns k 0) (slice_index_or ns (k + 1) 0) (bar_before fs k) (slice_get fs k) x

abbrev pub is_leaf_at : ℕ → ℕ → List ℕ → List (List ℕ) → ℕ → Option (ℕ × List (List ℕ)) → Bool
is_leaf_at width root ns fs k None = false
is_leaf_at width root ns fs k (Some x) = fits_place width root ns fs k x
