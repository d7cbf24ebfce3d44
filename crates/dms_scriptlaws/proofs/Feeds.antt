-- Names, values and replies hold no line feed.
use Rattle.std.proofs.Common.{ℕ, zero, suc, ◌≡◌, ◌/◌, ◌^◌, ◌==◌, Bool, true, false, cond, eqb, not, List, [], ◌∷◌, ◌++◌, refl, ap, arith, codes, decimal}
use Rattle.std.specs.Prelude.{ℤ, pos, int_lt, unsigned_abs}
use Rattle.std.specs.List.{AllByRecursion, list_all}
use Rattle.std.proofs.lemmas.Bool.Decides.{nat_tests}
use Rattle.std.proofs.lemmas.Bool.{and_parts}
use Rattle.dms_base.specs.declared.category.Category.{Category}
use Rattle.dms_base.specs.declared.category.Category.TheVariants.{NotFound, Duplicates, Deadlock, DataError, NotLocked, ReadOnly, LimitError, OpenError, NoRecord, InUse, AuditError, Abort}
use Rattle.dms_base.specs.declared.kind.ItemKind.{ItemKind}
use Rattle.dms_base.specs.declared.value.Value.{Value}
use Rattle.dms_base.specs.declared.value.Value.TheVariants.{Null, Text, Number, Bool as Truth, Bits, Link}
use Rattle.dms_base.specs.Name.{IsName, is_name, unknown_name}
use Rattle.dms_base.specs.Spelling.{text_for, is_kind}
use Rattle.dms_base.specs.Text.{is_printable}
use Rattle.dms_base.specs.Texts.{double_quotes, quote, last_digits, after_point, sign_of, number_text, decimals_of, value_text}
use Rattle.dms_base.specs.Words.{is_word, is_word_byte}
use Rattle.dms_desc.specs.Plain.{IsPlain}
use Rattle.dms_model.specs.declared.reply.Reply.{Reply}
use Rattle.dms_model.specs.declared.reply.Reply.TheVariants.{Done, Exception, Waits}
use Rattle.dms_script.specs.Replies.{reply_text, bad_text, unanswered_text, answer_text, line_head, category_text, more_names, names_text, shown_text}
use Rattle.dms_scriptlaws.proofs.Digits.{NoFeed, BeginsElse, decimal_feed, decimal_else}
use Rattle.dms_scriptlaws.proofs.Lined.{TellsNone, none_line}

pub feed_on : (a b : List ℕ) → NoFeed a → NoFeed b → NoFeed (a ++ b)
feed_on [] b f g = g
feed_on (x ∷ xs) b f g = (f.0, feed_on xs b f.1 g)

feed_if : (t : Bool) (a b : List ℕ) → NoFeed a → NoFeed b → NoFeed (cond t a b)
feed_if true a b f g = f
feed_if false a b f g = g

-- a byte that passes a test which a line feed doesn't
not_feed : (test : ℕ → Bool) (b : ℕ) → test 10 ≡ false → test b ≡ true → (b == 10) ≡ false
not_feed test b none h = by (eqb b 10) refl
  where
    by : (t : Bool) → eqb b 10 ≡ t → t ≡ false
    by true e = let is : b ≡ 10 = grind (arith, nat_tests, e) in let same = ap test is in absurd (cc)
    by false e = refl

all_feed : (test : ℕ → Bool) (bs : List ℕ) → test 10 ≡ false → list_all test bs ≡ true → NoFeed bs
all_feed test [] none h = tt
all_feed test (b ∷ bs) none h =
    let h' = and_parts (test b) (list_all test bs) h in
    (not_feed test b none h'.0, all_feed test bs none h'.1)

-- bytes of which none is a line feed, by a test
pub feed_of : (bs : List ℕ) → list_all (λ b. not (b == 10)) bs ≡ true → NoFeed bs
feed_of bs h = all_feed (λ b. not (b == 10)) bs refl h

pub name_feed : (name : List ℕ) → IsName name → NoFeed name
unfolding is_name is_word
name_feed name h =
    let word = (and_parts _ _ (and_parts _ _ h).0).1 in
    all_feed is_word_byte name refl (and_parts _ _ word).1

pub unknown_feed : NoFeed unknown_name
unknown_feed = feed_of unknown_name refl

-- values

doubled_feed : (bs : List ℕ) → NoFeed bs → NoFeed (double_quotes bs)
doubled_feed [] h = tt
doubled_feed (b ∷ bs) h = feed_if (b == 34) (34 ∷ 34 ∷ double_quotes bs) (b ∷ double_quotes bs) (refl, (refl, doubled_feed bs h.1)) (h.0, doubled_feed bs h.1)

quoted_feed : (bs : List ℕ) → NoFeed bs → NoFeed (quote bs)
quoted_feed bs h = (refl, feed_on (double_quotes bs) (34 ∷ []) (doubled_feed bs h) (refl, tt))

last_feed : (m n : ℕ) → NoFeed (last_digits m n)
last_feed zero n = tt
last_feed (suc m) n = (grind (arith, nat_tests), last_feed m n)

number_feed : (m : ℕ) (z : ℤ) → NoFeed (number_text m z)
number_feed m z =
    feed_on (sign_of z ++ decimal (unsigned_abs z / 10 ^ m)) (after_point m (unsigned_abs z))
    (feed_on (sign_of z) (decimal (unsigned_abs z / 10 ^ m)) (feed_if (int_lt z (pos 0)) (45 ∷ []) [] (refl, tt) tt) (decimal_feed (unsigned_abs z / 10 ^ m)))
    (feed_if (m == 0) [] (46 ∷ last_digits m (unsigned_abs z)) tt (refl, last_feed m (unsigned_abs z)))

value_feed : (k : ItemKind) (v : Value) → IsPlain v → NoFeed (value_text k v)
value_feed k Null h = feed_of (codes "NULL") refl
value_feed k (Text bytes) h = quoted_feed bytes (all_feed is_printable bytes refl h.printable)
value_feed k (Number z) h = number_feed (decimals_of k) z
value_feed k (Truth true) h = feed_of (codes "TRUE") refl
value_feed k (Truth false) h = feed_of (codes "FALSE") refl
value_feed k (Bits n) h = decimal_feed n
value_feed k (Link n) h = decimal_feed n

pub text_feed : (k : ItemKind) (v : Value) → IsPlain v → NoFeed (text_for k v)
text_feed k v h = feed_if (is_kind k) (value_text k v) [] (value_feed k v h) tt

-- replies

-- neither what a reply shows nor a name in it holds a line feed
abbrev pub IsClean : Reply → Type 0
IsClean (Done text) = NoFeed text
IsClean (Exception category name) = NoFeed name
IsClean (Waits names) = AllByRecursion NoFeed names

category_feed : (c : Category) → NoFeed (category_text c)
category_feed NotFound = feed_of (codes "NOTFOUND") refl
category_feed Duplicates = feed_of (codes "DUPLICATES") refl
category_feed Deadlock = feed_of (codes "DEADLOCK") refl
category_feed DataError = feed_of (codes "DATAERROR") refl
category_feed NotLocked = feed_of (codes "NOTLOCKED") refl
category_feed ReadOnly = feed_of (codes "READONLY") refl
category_feed LimitError = feed_of (codes "LIMITERROR") refl
category_feed OpenError = feed_of (codes "OPENERROR") refl
category_feed NoRecord = feed_of (codes "NORECORD") refl
category_feed InUse = feed_of (codes "INUSE") refl
category_feed AuditError = feed_of (codes "AUDITERROR") refl
category_feed Abort = feed_of (codes "ABORT") refl

shown_feed : (text : List ℕ) → NoFeed text → NoFeed (shown_text text)
shown_feed [] h = tt
shown_feed (b ∷ bs) h = (refl, h)

more_feed : (names : List (List ℕ)) → AllByRecursion NoFeed names → NoFeed (more_names names)
more_feed [] h = tt
more_feed (q ∷ qs) h = feed_on (codes ", " ++ q) (more_names qs) (feed_on (codes ", ") q (feed_of (codes ", ") refl) h.0) (more_feed qs h.1)

names_feed : (names : List (List ℕ)) → AllByRecursion NoFeed names → NoFeed (names_text names)
names_feed [] h = tt
names_feed (q ∷ qs) h = feed_on q (more_names qs) h.0 (more_feed qs h.1)

answer_feed : (r : Reply) → IsClean r → NoFeed (answer_text r)
answer_feed (Done text) h = feed_on (codes "DONE") (shown_text text) (feed_of (codes "DONE") refl) (shown_feed text h)
answer_feed (Exception category name) h = feed_on (codes "EXCEPTION " ++ category_text category) (32 ∷ name) (feed_on (codes "EXCEPTION ") (category_text category) (feed_of (codes "EXCEPTION ") refl) (category_feed category)) (refl, h)
answer_feed (Waits names) h = feed_on (codes "WAITS FOR ") (names_text names) (feed_of (codes "WAITS FOR ") refl) (names_feed names h)

begins_on : (a b : List ℕ) → BeginsElse a → BeginsElse (a ++ b)
begins_on [] b h = absurd h
begins_on (x ∷ xs) b h = h

line_none : (t : List ℕ) → BeginsElse t → NoFeed t → TellsNone (t ++ 10 ∷ [])
line_none [] h f = absurd h
line_none (b ∷ bs) h f = none_line b bs h f

head_begins : (line : ℕ) (program : List ℕ) → BeginsElse (line_head line program)
head_begins line program = begins_on (decimal line ++ 32 ∷ program) (32 ∷ []) (begins_on (decimal line) (32 ∷ program) (decimal_else line))

head_feed : (line : ℕ) (program : List ℕ) → NoFeed program → NoFeed (line_head line program)
head_feed line program h = feed_on (decimal line ++ 32 ∷ program) (32 ∷ []) (feed_on (decimal line) (32 ∷ program) (decimal_feed line) (refl, h)) (refl, tt)

-- a clean reply is a line that tells nothing
pub reply_none : (line : ℕ) (program : List ℕ) (r : Reply) → NoFeed program → IsClean r → TellsNone (reply_text line program r)
unfolding reply_text
reply_none line program r name clean =
    line_none (line_head line program ++ answer_text r) (begins_on (line_head line program) (answer_text r) (head_begins line program))
    (feed_on (line_head line program) (answer_text r) (head_feed line program name) (answer_feed r clean))

pub bad_none : (line place : ℕ) → TellsNone (bad_text line place)
unfolding bad_text
bad_none line place =
    line_none (decimal line ++ codes " BADLINE " ++ decimal place)
    (begins_on (decimal line ++ codes " BADLINE ") (decimal place) (begins_on (decimal line) (codes " BADLINE ") (decimal_else line)))
    (feed_on (decimal line ++ codes " BADLINE ") (decimal place) (feed_on (decimal line) (codes " BADLINE ") (decimal_feed line) (feed_of (codes " BADLINE ") refl)) (decimal_feed place))

pub unanswered_none : (line : ℕ) (program : List ℕ) → NoFeed program → TellsNone (unanswered_text line program)
unfolding unanswered_text
unanswered_none line program h =
    line_none (line_head line program ++ codes "UNANSWERED") (begins_on (line_head line program) (codes "UNANSWERED") (head_begins line program))
    (feed_on (line_head line program) (codes "UNANSWERED") (head_feed line program h) (feed_of (codes "UNANSWERED") refl))
