-- What a dump that is copied keeps over each call on blocks.
use Rattle.std.proofs.Common.{ℕ, ◌+◌, ◌*◌, ◌≤◌, ◌≡◌, IsTrue, inl, inr, List, [], ◌∷◌, ◌++◌, length, Some, refl, sym, ◌∙◌, ap, subst, arith, append_assoc, length-append}
use Rattle.std.proofs.lemmas.Bool.{cases_lt}
use Rattle.std.proofs.lemmas.List.{take_all}
use Rattle.dms_site.specs.Files.{range}
use Rattle.dms_block.specs.Content.{Content, FitsIn, apply_changes, block_in}
use Rattle.dms_block.specs.Changing.{changed_length, fits_content}
use Rattle.dms_block.specs.declared.change.Change.{Change}
use Rattle.dms_block.specs.Held.{BlockPoint, BlocksAgree, HasNextNumber, Held, MadeDurable, MadeQuiet, SameBlocks, Stays}
use Rattle.dms_history.specs.declared.event.FileCount.{FileCount}
use Rattle.dms_dump.proofs.Bodies.{range_front, range_behind}
use Rattle.dms_dump.specs.Copies.{HasBlocks, id_at}
use Rattle.dms_online.specs.Copying.{Covers, EndsAtPoint, IsAtPoint, IsCopying}

-- ---- blocks one after another

-- none yet
pub has_none : (P : ℕ → ℕ → List ℕ → Type 0) (counts : List FileCount) → HasBlocks P counts 0 []
has_none P counts = record { long = refl; each = λ i f b low. absurd (omega (arith, low)) }

whole_range : (l : List ℕ) → length l ≡ 1024 → range 0 1024 l ≡ l
unfolding range
whole_range l is = take_all 1024 l (omega (arith, is))

last_range : (body bytes : List ℕ) (n i : ℕ) → i ≡ n → length body ≡ 1024 * n → length bytes ≡ 1024 → range (1024 * i) 1024 (body ++ bytes) ≡ bytes
last_range body bytes n i at long size =
    let place : 1024 * i ≡ length body + 0 = omega (arith, at, long) in
    ap (λ (k : ℕ). range k 1024 (body ++ bytes)) place ∙ range_behind (length body) 0 1024 body bytes refl ∙ whole_range bytes size

-- one more
pub has_more : (P : ℕ → ℕ → List ℕ → Type 0) (counts : List FileCount) (n : ℕ) (body bytes : List ℕ) → HasBlocks P counts n body → length bytes ≡ 1024 → ((f b : ℕ) → id_at counts n ≡ Some (f, b) → P f b bytes) → HasBlocks P counts (n + 1) (body ++ bytes)
has_more P counts n body bytes h size one = record {
  long = omega (arith, length-append body bytes, h.long, size);
  each = λ i f b low is. elim (cases_lt i n) [
    | inl before ↦ subst (λ (l : List ℕ). P f b l) (sym (range_front (1024 * i) 1024 body bytes (omega (arith, before, h.long)))) (h.each i f b before is)
    | inr last ↦
        let at : i ≡ n = omega (arith, low, last) in
        subst (λ (l : List ℕ). P f b l) (sym (last_range body bytes n i at h.long size)) (one f b (subst (λ (k : ℕ). id_at counts k ≡ Some (f, b)) at is))
  ];
}

-- less is asked
pub has_weaker : (P Q : ℕ → ℕ → List ℕ → Type 0) (counts : List FileCount) (n : ℕ) (body : List ℕ) → ((f b : ℕ) (bytes : List ℕ) → P f b bytes → Q f b bytes) → HasBlocks P counts n body → HasBlocks Q counts n body
has_weaker P Q counts n body weaker h = record { long = h.long; each = λ i f b low is. weaker f b (range (1024 * i) 1024 body) (h.each i f b low is) }

-- ---- points

-- more points
pub at_more : (ps more : List BlockPoint) (low f b : ℕ) (bytes : List ℕ) → IsAtPoint ps low f b bytes → IsAtPoint (ps ++ more) low f b bytes
at_more ps more low f b bytes p = record {
  before = p.before;
  point = p.point;
  after = p.after ++ more;
  are = ap (λ (l : List BlockPoint). l ++ more) p.are ∙ append_assoc p.before (p.point ∷ p.after) more;
  not_below = p.not_below;
  same = p.same;
}

module _ (low : ℕ) (counts : List FileCount) (n : ℕ) (body : List ℕ) (a b : Held) (c : IsCopying a low counts n body) where
  -- the same points, content and mark
  pub copying_same : b.points ≡ a.points → b.content ≡ a.content → b.mark ≡ a.mark → a.next ≤ b.next → IsCopying b low counts n body
  copying_same points content mark next = record {
    has = subst (λ (ps : List BlockPoint). HasBlocks (IsAtPoint ps low) counts n body) (sym points) c.has;
    there = subst (Covers counts) (sym content) c.there;
    marked = subst (Covers counts) (sym mark) c.marked;
    order = omega (arith, c.order, next);
  }

  -- blocks were only read, or something was printed or written beside them
  pub copying_stays : a.tells → IsTrue a.told → HasNextNumber a → Stays a b → SameBlocks a b → a.next ≤ b.next → IsCopying b low counts n body
  copying_stays tells told room stays same next = copying_same (stays.points tells room).0 (same.content told) (stays.mark told) next

  -- blocks were changed: no file gets shorter
  pub copying_changed : (changes : List Change) → a.tells → IsTrue a.told → HasNextNumber a → BlocksAgree a → FitsIn changes a.owns a.counts → b.content ≡ apply_changes changes a.content → Stays a b → a.next ≤ b.next → IsCopying b low counts n body
  copying_changed changes tells told room agree fits content stays next = record {
    has = subst (λ (ps : List BlockPoint). HasBlocks (IsAtPoint ps low) counts n body) (sym (stays.points tells room).0) c.has;
    there = λ i f k is. omega (arith, c.there i f k is, changed_length changes a.content f (fits_content changes a.owns a.counts a.content (agree.counted told) fits), ap (λ (k : Content). length (k f)) content);
    marked = subst (Covers counts) (sym (stays.mark told)) c.marked;
    order = omega (arith, c.order, next);
  }

  -- all points were made durable
  pub copying_durable : a.tells → IsTrue a.told → HasNextNumber a → MadeDurable a b → a.next ≤ b.next → IsCopying b low counts n body
  copying_durable tells told room made next = copying_same (made.points tells room) (made.same.content told) (made.mark told) next

  -- it went back to its mark
  pub copying_back : a.tells → IsTrue a.told → HasNextNumber a → b.content ≡ a.mark → Stays a b → a.next ≤ b.next → IsCopying b low counts n body
  copying_back tells told room content stays next = record {
    has = subst (λ (ps : List BlockPoint). HasBlocks (IsAtPoint ps low) counts n body) (sym (stays.points tells room).0) c.has;
    there = subst (Covers counts) (sym content) c.marked;
    marked = subst (Covers counts) (sym (stays.mark told)) c.marked;
    order = omega (arith, c.order, next);
  }

  -- a quiet point was made
  pub copying_quiet : a.tells → IsTrue a.told → HasNextNumber a → MadeQuiet a b → IsCopying b low counts n body
  copying_quiet tells told room made = record {
    has = subst (λ (ps : List BlockPoint). HasBlocks (IsAtPoint ps low) counts n body) (sym (made.points tells room).0)
        (has_weaker (IsAtPoint a.points low) (IsAtPoint (a.points ++ a.here ∷ []) low) counts n body (λ f k bytes p. at_more a.points (a.here ∷ []) low f k bytes p) c.has);
    there = subst (Covers counts) (sym ((made.same room).content told)) c.there;
    marked = subst (Covers counts) (sym (made.mark room told)) c.there;
    order = omega (arith, c.order, made.next room);
  }

  -- and the content is that of the new point
  pub quiet_point : a.tells → IsTrue a.told → HasNextNumber a → BlocksAgree a → MadeQuiet a b → (f k : ℕ) (bytes : List ℕ) → bytes ≡ block_in b.content f k → IsAtPoint b.points low f k bytes
  quiet_point tells told room agree made f k bytes is = record {
    before = a.points;
    point = a.here;
    after = [];
    are = (made.points tells room).0;
    not_below = omega (arith, c.order, (agree.here tells room).0);
    same = is ∙ ap (λ (l : Content). block_in l f k) ((made.same room).content told ∙ sym ((agree.here tells room).1 told));
  }

-- one block more was copied, as it is at one of the points
pub copying_more : (low : ℕ) (counts : List FileCount) (n : ℕ) (body bytes : List ℕ) (h : Held) → IsCopying h low counts n body → length bytes ≡ 1024 → ((f b : ℕ) → id_at counts n ≡ Some (f, b) → IsAtPoint h.points low f b bytes) → IsCopying h low counts (n + 1) (body ++ bytes)
copying_more low counts n body bytes h c size one = record {
  has = has_more (IsAtPoint h.points low) counts n body bytes c.has size one;
  there = c.there;
  marked = c.marked;
  order = c.order;
}

-- ---- the last point

module _ (low : ℕ) (a b : Held) where
  pub ends_same : b.points ≡ a.points → b.mark ≡ a.mark → EndsAtPoint a low → EndsAtPoint b low
  ends_same points mark e = record { before = e.before; point = e.point; are = points ∙ e.are; not_below = e.not_below; blocks = mark ∙ e.blocks }

  pub ends_stays : a.tells → IsTrue a.told → HasNextNumber a → Stays a b → EndsAtPoint a low → EndsAtPoint b low
  ends_stays tells told room stays = ends_same (stays.points tells room).0 (stays.mark told)

  pub ends_durable : a.tells → IsTrue a.told → HasNextNumber a → MadeDurable a b → EndsAtPoint a low → EndsAtPoint b low
  ends_durable tells told room made = ends_same (made.points tells room) (made.mark told)

  -- a quiet point is the last one
  pub ends_quiet : a.tells → IsTrue a.told → HasNextNumber a → BlocksAgree a → low ≤ a.next → MadeQuiet a b → EndsAtPoint b low
  ends_quiet tells told room agree order made = record {
    before = a.points;
    point = a.here;
    are = (made.points tells room).0;
    not_below = omega (arith, order, (agree.here tells room).0);
    blocks = made.mark room told ∙ sym ((agree.here tells room).1 told);
  }

-- a block of the last point's content
pub at_last : (h : Held) (low f k : ℕ) (bytes : List ℕ) → EndsAtPoint h low → bytes ≡ block_in h.mark f k → IsAtPoint h.points low f k bytes
at_last h low f k bytes e is = record { before = e.before; point = e.point; after = []; are = e.are; not_below = e.not_below; same = is ∙ ap (λ (c : Content). block_in c f k) e.blocks }
