-- What was printed so far of some bytes.
use Rattle.std.proofs.Common.{ℕ, ◌≡◌, ◌∙◌, sym, ap, refl, List, [], ◌++◌, take, drop, append_assoc, append-nil, length, arith}
use Rattle.std.proofs.lemmas.List.{take_all, take-append-drop}
use Rattle.dms_moments.specs.Moments.{Clock, Steps}
use Rattle.dms_moments.specs.MomentLaws.{steps_on, steps_weaken, runs_none}
use Rattle.dms_site.specs.Files.{Left, Same, PrintsPartOf}
use Rattle.dms_remote.specs.Shipping.{PrintsFirst, PrintsSome}

pub first_taken : (bytes old new : List ℕ) → (k : ℕ) × (new ≡ old ++ take k bytes) → PrintsFirst bytes old new
first_taken bytes old new is = record { printed = take is.0 bytes; rest = drop is.0 bytes; whole = sym (take-append-drop is.0 bytes); said = is.1 }

pub first_none : (bytes old new : List ℕ) → new ≡ old → PrintsFirst bytes old new
first_none bytes old new is = record { printed = []; rest = bytes; whole = refl; said = is ∙ sym (append-nil old) }

pub first_all : (bytes old new : List ℕ) → new ≡ old ++ bytes → PrintsFirst bytes old new
first_all bytes old new is = record { printed = bytes; rest = []; whole = sym (append-nil bytes); said = is }

pub first_front : (a b old new : List ℕ) → PrintsFirst a old new → PrintsFirst (a ++ b) old new
first_front a b old new p = record { printed = p.printed; rest = p.rest ++ b; whole = ap (λ (l : List ℕ). l ++ b) p.whole ∙ append_assoc p.printed p.rest b; said = p.said }

pub first_then : (a b old mid new : List ℕ) → mid ≡ old ++ a → PrintsFirst b mid new → PrintsFirst (a ++ b) old new
first_then a b old mid new is p = record {
  printed = a ++ p.printed;
  rest = p.rest;
  whole = ap (λ (l : List ℕ). a ++ l) p.whole ∙ sym (append_assoc a p.printed p.rest);
  said = p.said ∙ ap (λ (l : List ℕ). l ++ p.printed) is ∙ append_assoc old a p.printed;
}

-- of all these bytes some were printed, and those are left
pub record Printing (all start text todo : List ℕ) : Type 0 where
  pub printed : List ℕ
  pub whole : all ≡ printed ++ todo
  pub said : text ≡ start ++ printed

pub printing_none : (all start todo : List ℕ) → todo ≡ all → Printing all start start todo
printing_none all start todo is = record { printed = []; whole = sym is; said = sym (append-nil start) }

pub printing_part : (all start said new todo a b : List ℕ) → Printing all start said todo → todo ≡ a ++ b → PrintsFirst a said new → PrintsFirst all start new
printing_part all start said new todo a b p is first = record {
  printed = p.printed ++ first.printed;
  rest = first.rest ++ b;
  whole = p.whole ∙ ap (λ (l : List ℕ). p.printed ++ l) (is ∙ ap (λ (l : List ℕ). l ++ b) first.whole ∙ append_assoc first.printed first.rest b) ∙ sym (append_assoc p.printed first.printed (first.rest ++ b));
  said = first.said ∙ ap (λ (l : List ℕ). l ++ first.printed) p.said ∙ append_assoc start p.printed first.printed;
}

pub printing_more : (all start said new todo a b : List ℕ) → Printing all start said todo → todo ≡ a ++ b → new ≡ said ++ a → Printing all start new b
printing_more all start said new todo a b p is more = record {
  printed = p.printed ++ a;
  whole = p.whole ∙ ap (λ (l : List ℕ). p.printed ++ l) is ∙ sym (append_assoc p.printed a b);
  said = more ∙ ap (λ (l : List ℕ). l ++ a) p.said ∙ append_assoc start p.printed a;
}

pub printing_done : (all start said todo : List ℕ) → Printing all start said todo → todo ≡ [] → said ≡ start ++ all
printing_done all start said todo p none = p.said ∙ ap (λ (l : List ℕ). start ++ l) (sym (p.whole ∙ ap (λ (l : List ℕ). p.printed ++ l) none ∙ append-nil p.printed))

pub printing_first : (all start said todo : List ℕ) → Printing all start said todo → PrintsFirst all start said
printing_first all start said todo p = record { printed = p.printed; rest = todo; whole = p.whole; said = p.said }

-- ---- moments

pub prints_none : (c : Clock Left) → Steps PrintsSome c c
prints_none c = record { follows = λ x now. (x, now, ([], record { files = refl; some = 0; said = sym (append-nil x.said) })); runs = runs_none c _ }

pub prints_same : (a b : Clock Left) → Steps Same a b → Steps PrintsSome a b
prints_same a b steps = steps_weaken steps (λ x y here same. ([], record { files = ap (λ (l : Left). l.files) same; some = 0; said = ap (λ (l : Left). l.said) same ∙ sym (append-nil x.said) }))

both : (x y z : Left) → PrintsSome x y → PrintsSome y z → PrintsSome x z
both x y z p q =
    let one = take p.1.some p.0 in
    let two = take q.1.some q.0 in (
      one ++ two,
      record {
        files = q.1.files ∙ p.1.files;
        some = length (one ++ two);
        said = q.1.said ∙ ap (λ (l : List ℕ). l ++ two) p.1.said ∙ append_assoc x.said one two ∙ ap (λ (l : List ℕ). x.said ++ l) (sym (take_all (length (one ++ two)) (one ++ two) (omega arith)));
      },
    )

pub prints_on : {a b c : Clock Left} → Steps PrintsSome a b → Steps PrintsSome b c → Steps PrintsSome a c
prints_on first next = steps_on first next (λ x y z here there p q. both x y z p q) (λ x y here p. p)

pub prints_part : {a b : Clock Left} (bytes : List ℕ) → Steps (PrintsPartOf bytes) a b → Steps PrintsSome a b
prints_part bytes steps = steps_weaken steps (λ x y here part. (bytes, part))
