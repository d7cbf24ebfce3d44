use Rattle.std.specs.Prelude.{ℕ, List, Bool, ◌||◌, codes}
use Rattle.std.specs.Str.{bytes_eq}

-- the words of items and links
abbrev pub is_item_word : List ℕ → Bool
is_item_word word = bytes_eq word (codes "ALPHA") || bytes_eq word (codes "NUMBER") || bytes_eq word (codes "BOOLEAN") || bytes_eq word (codes "FIELD") || bytes_eq word (codes "GROUP") || bytes_eq word (codes "LINK") || bytes_eq word (codes "TO")

-- the words of data sets, sets and subsets
abbrev pub is_structure_word : List ℕ → Bool
is_structure_word word = bytes_eq word (codes "COUNTED") || bytes_eq word (codes "DATA") || bytes_eq word (codes "SET") || bytes_eq word (codes "SUBSET") || bytes_eq word (codes "RESTART") || bytes_eq word (codes "OF") || bytes_eq word (codes "WHERE")

-- the words of keys and of a data set's options
abbrev pub is_key_word : List ℕ → Bool
is_key_word word = bytes_eq word (codes "VERIFY") || bytes_eq word (codes "POPULATION") || bytes_eq word (codes "KEY") || bytes_eq word (codes "IS") || bytes_eq word (codes "ASCENDING") || bytes_eq word (codes "DESCENDING") || bytes_eq word (codes "DUPLICATES")

-- the words of a set's form and of an item's options
abbrev pub is_option_word : List ℕ → Bool
is_option_word word = bytes_eq word (codes "NO") || bytes_eq word (codes "INDEX") || bytes_eq word (codes "SEQUENTIAL") || bytes_eq word (codes "ORDERED") || bytes_eq word (codes "LIST") || bytes_eq word (codes "REQUIRED") || bytes_eq word (codes "INITIALVALUE")

-- the words of literals and conditions, and that of parameters
abbrev pub is_condition_word : List ℕ → Bool
is_condition_word word = bytes_eq word (codes "NULL") || bytes_eq word (codes "TRUE") || bytes_eq word (codes "FALSE") || bytes_eq word (codes "AND") || bytes_eq word (codes "OR") || bytes_eq word (codes "NOT") || bytes_eq word (codes "PARAMETERS")

-- the words of the audit trail and of the ways to move along a path
abbrev pub is_path_word : List ℕ → Bool
is_path_word word = bytes_eq word (codes "AUDIT") || bytes_eq word (codes "NO-AUDIT") || bytes_eq word (codes "TRAIL") || bytes_eq word (codes "FIRST") || bytes_eq word (codes "LAST") || bytes_eq word (codes "NEXT") || bytes_eq word (codes "PRIOR")

-- the other words of script lines
abbrev pub is_script_word : List ℕ → Bool
is_script_word word = bytes_eq word (codes "CURRENT") || bytes_eq word (codes "AT") || bytes_eq word (codes "VIA") || bytes_eq word (codes "INTO") || bytes_eq word (codes "FROM") || bytes_eq word (codes "SYNC") || bytes_eq word (codes "SCRIPT")

-- a word that no name may be
unfoldable pub is_reserved : List ℕ → Bool
is_reserved word = is_item_word word || is_structure_word word || is_key_word word || is_option_word word || is_condition_word word || is_path_word word || is_script_word word
