-- Bytes that come one after another on a pair of nodes.
use Rattle.std.proofs.Common.{◌≡◌, ◌≤◌, ◌<◌, ◌+◌, ◌-◌, ℕ, List, [], ◌∷◌, ◌++◌, length, Option, Some, None, refl, ap, sym, ◌∙◌, append_assoc, append-nil}
use Rattle.std.proofs.Common.{length-append, length-take, length-drop, take, drop, take-add, take-append-drop, subst, zero, suc, arith}
use borrow.Rule.Slice.PartMut.{post_of, put_mid}
use Rattle.std.{specs.Io.KnownBytes.append_known, proofs.lemmas.List.{take_at, drop_at, take-append-le, length-take-le}}
use Rattle.spl_edge.specs.Devices.{AreTaken, AreLeft, IsOtherPair, Streams}
use Rattle.spl_pump.specs.Moves.{Grows, GrowsAtMost, GrowsPart, AreDue}

pub known_more : (k : Option (List ℕ)) (xs ys : List ℕ) → append_known (append_known k xs) ys ≡ append_known k (xs ++ ys)
known_more None xs ys = refl
known_more (Some k) xs ys = ap (λ (l : List ℕ). Some l) (append_assoc k xs ys)

pub known_same : (k : Option (List ℕ)) → append_known k [] ≡ k
known_same None = refl
known_same (Some k) = ap (λ (l : List ℕ). Some l) (append-nil k)

pub grows_none : (from to : ℕ) (a : Streams) → Grows from to [] a a
grows_none from to a = record { here = sym (known_same (a from to)); others = λ x y p q other. refl }

pub grows_more : (from to : ℕ) (xs ys : List ℕ) (a b c : Streams) → Grows from to xs a b → Grows from to ys b c → Grows from to (xs ++ ys) a c
grows_more from to xs ys a b c first second = record {
  here = second.here ∙ ap (λ (k : Option (List ℕ)). append_known k ys) first.here ∙ known_more (a from to) xs ys;
  others = λ x y p q other. second.others x y p q other ∙ first.others x y p q other;
}

-- what is put is due
pub due_by : (put taken put' : Option (List ℕ)) (xs : List ℕ) → AreTaken put taken → put' ≡ append_known put xs → AreDue (length xs) put' taken
due_by None taken put' xs all e = rw e tt
due_by (Some p) None put' xs all e = rw e tt
due_by (Some p) (Some t) put' xs all e = rw e (omega (arith, all, length-append p xs))

-- what is taken is due no more
pub due_less : (n : ℕ) (put taken taken' : Option (List ℕ)) (ys : List ℕ) → AreDue n put taken → taken' ≡ append_known taken ys → length ys ≤ n
    → AreDue (n - length ys) put taken'
due_less n None taken taken' ys due e le = tt
due_less n (Some p) None taken' ys due e le = rw e tt
due_less n (Some p) (Some t) taken' ys due e le = rw e (omega (arith, due, le, length-append t ys))

pub none_due : (put taken : Option (List ℕ)) → AreDue 0 put taken → AreTaken put taken
none_due None taken due = tt
none_due (Some p) None due = tt
none_due (Some p) (Some t) due = omega (arith, due)

pub some_due : (n : ℕ) (put taken : Option (List ℕ)) → AreDue n put taken → 0 < n → AreLeft put taken
some_due n None taken due pos = tt
some_due n (Some p) None due pos = tt
some_due n (Some p) (Some t) due pos = omega (arith, due, pos)

-- a prefix of a piece came, and nothing since
pub part_is : (from to n : ℕ) (piece : List ℕ) (a b c : Streams) → b from to ≡ append_known (a from to) (take n piece)
    → ((x y : ℕ) → x < 256 → y < 256 → IsOtherPair x y from to → b x y ≡ a x y) → ((x y : ℕ) → c x y ≡ b x y) → GrowsPart from to piece a c
part_is from to n piece a b c here others same = (
  take n piece,
  drop n piece,
  sym (take-append-drop n piece),
  record {
    here = same from to ∙ here;
    others = λ x y p q other. same x y ∙ others x y p q other;
  },
)

-- a prefix of what is left came after what came before
pub part_more : (from to n : ℕ) (all : List ℕ) (a b c : Streams) → Grows from to (take n all) a b → GrowsPart from to (drop n all) b c
    → GrowsPart from to all a c
part_more from to n all a b c first (done, more, is, grows) = (
  take n all ++ done,
  more,
  sym (take-append-drop n all) ∙ ap (λ (l : List ℕ). take n all ++ l) is
      ∙ sym (append_assoc (take n all) done more),
  grows_more from to (take n all) done a b c first grows,
)

pub part_of : (from to n : ℕ) (all : List ℕ) (a b : Streams) → Grows from to (take n all) a b → GrowsPart from to all a b
part_of from to n all a b grows = (take n all, drop n all, sym (take-append-drop n all), grows)

take_prefix : (k m : ℕ) (xs : List ℕ) → k ≤ length (take m xs) → take k (take m xs) ≡ take k xs
take_prefix zero m xs le = refl
take_prefix (suc k) zero xs le = absurd (omega (arith, le))
take_prefix (suc k) (suc m) [] le = refl
take_prefix (suc k) (suc m) (x ∷ xs) le = ap (λ (l : List ℕ). x ∷ l) (take_prefix k m xs (omega (arith, le)))

part_of_prefix : (from to m : ℕ) (rest piece : List ℕ) (b c : Streams) → piece ≡ take m rest → GrowsPart from to piece b c → GrowsPart from to rest b c
part_of_prefix from to m rest piece b c is (done, more, parts, grows) = (
  done,
  more ++ drop m rest,
  sym (take-append-drop m rest) ∙ ap (λ (l : List ℕ). l ++ drop m rest) (sym is ∙ parts)
      ∙ append_assoc done more (drop m rest),
  grows,
)

-- where a piece of what is left failed, a prefix of all was put
pub part_at : (from to n m : ℕ) (bytes piece : List ℕ) (a b c : Streams) → piece ≡ take m (drop n bytes) → Grows from to (take n bytes) a b
    → GrowsPart from to piece b c → GrowsPart from to bytes a c
part_at from to n m bytes piece a b c is before part = part_more from to n bytes a b c before (part_of_prefix from to m (drop n bytes) piece b c is part)

-- ---- at most so many

pub at_most_of : (from to n : ℕ) (xs : List ℕ) (a b : Streams) → Grows from to xs a b → length xs ≤ n → GrowsAtMost from to n a b
at_most_of from to n xs a b grows le = (xs, le, grows)

pub at_most_none : (from to n : ℕ) (a b : Streams) → ((x y : ℕ) → b x y ≡ a x y) → GrowsAtMost from to n a b
at_most_none from to n a b same = ([], omega arith, record { here = same from to ∙ sym (known_same (a from to)); others = λ x y p q other. same x y })

-- so many, and then at most as many as are left
pub at_most_more : (from to m n : ℕ) (xs : List ℕ) (a b c : Streams) → Grows from to xs a b → length xs + m ≤ n → GrowsAtMost from to m b c
    → GrowsAtMost from to n a c
at_most_more from to m n xs a b c first le (last, short, grows) =
    (xs ++ last, omega (arith, le, short, length-append xs last), grows_more from to xs last a b c first grows)

-- where nothing came before
pub at_most_since : (from to n m : ℕ) (a b c : Streams) → ((x y : ℕ) → b x y ≡ a x y) → m ≤ n → GrowsAtMost from to m b c → GrowsAtMost from to n a c
at_most_since from to n m a b c same le (last, short, grows) = (
  last,
  omega (arith, short, le),
  record {
    here = grows.here ∙ ap (λ (k : Option (List ℕ)). append_known k last) (same from to);
    others = λ x y p q other. grows.others x y p q other ∙ same x y;
  },
)

-- ---- bytes that are taken into a part of a buffer

pub put_size : (a k : ℕ) (buf part : List ℕ) → a + k ≤ length buf → length part ≡ k → length (put_mid a k buf part) ≡ length buf
put_size a k buf part within long =
    omega (
      arith,
      within,
      long,
      length-append (take a buf) (part ++ post_of a k buf),
      length-append part (post_of a k buf),
      length-take a buf,
      length-drop k (drop a buf),
      length-drop a buf,
    )

-- those before the part, and the first ones in it
pub put_prefix : (a k n : ℕ) (buf part : List ℕ) → a ≤ length buf → n ≤ length part → take (a + n) (put_mid a k buf part) ≡ take a buf ++ take n part
put_prefix a k n buf part within le =
    let size : length (take a buf) ≡ a = length-take-le a buf within in
    take-add a n (put_mid a k buf part)
    ∙ ap (λ (l : List ℕ). l ++ take n (drop a (put_mid a k buf part))) (take_at (take a buf) (part ++ post_of a k buf) a size)
    ∙ ap (λ (l : List ℕ). take a buf ++ take n l) (drop_at (take a buf) (part ++ post_of a k buf) a size)
    ∙ ap (λ (l : List ℕ). take a buf ++ l) (take-append-le n part (post_of a k buf) le)

pub taken_into : (from to a k n : ℕ) (buf part : List ℕ) (x y z : Streams) → a ≤ length buf → n ≤ length part → Grows from to (take a buf) x y
    → Grows from to (take n part) y z
    → Grows from to (take (a + n) (put_mid a k buf part)) x z
taken_into from to a k n buf part x y z within le first second =
    subst (λ (l : List ℕ). Grows from to l x z) (sym (put_prefix a k n buf part within le)) (grows_more from to (take a buf) (take n part) x y z first second)

-- what is left to be taken
pub due_into : (m n a k : ℕ) (buf part : List ℕ) (put put' taken taken' : Option (List ℕ)) → m ≡ length buf → a + k ≤ length buf → length part ≡ k
    → k ≡ length buf - a → n ≤ length part
    → AreDue (m - a) put taken → put' ≡ put → taken' ≡ append_known taken (take n part) → AreDue (length (put_mid a k buf part) - (a + n)) put' taken'
due_into m n a k buf part put put' taken taken' size within long rest le due same is =
    let some : length (take n part) ≡ n = length-take-le n part le in
    let left : length (put_mid a k buf part) - (a + n) ≡ (m - a) - length (take n part) =
    omega (arith, put_size a k buf part within long, some, size, rest, long, le) in
    subst (λ (p : Option (List ℕ)). AreDue (length (put_mid a k buf part) - (a + n)) p taken') (sym same)
    (subst (λ (i : ℕ). AreDue i put taken') (sym left) (due_less (m - a) put taken taken' (take n part) due is (omega (arith, some, size, rest, long, le))))

-- ---- what is put piece by piece

-- what was put before, and the first ones of a piece
pub put_moved : (from to n m i : ℕ) (bytes piece : List ℕ) (a b c : Streams) → piece ≡ take m (drop n bytes) → i ≤ length piece
    → Grows from to (take n bytes) a b → Grows from to (take i piece) b c → Grows from to (take (n + i) bytes) a c
put_moved from to n m i bytes piece a b c is le first second =
    let prefix : take i piece ≡ take i (drop n bytes) =
    ap (λ (l : List ℕ). take i l) is ∙ take_prefix i m (drop n bytes) (subst (λ (l : List ℕ). i ≤ length l) is le) in
    subst (λ (l : List ℕ). Grows from to l a c) (ap (λ (l : List ℕ). take n bytes ++ l) prefix ∙ sym (take-add n i bytes))
    (grows_more from to (take n bytes) (take i piece) a b c first second)

pub piece_within : (n m : ℕ) (bytes piece : List ℕ) → piece ≡ take m (drop n bytes) → n ≤ length bytes → n + length piece ≤ length bytes
piece_within n m bytes piece is le = omega (arith, ap length is, length-take m (drop n bytes), length-drop n bytes, le)

pub part_same : (from to : ℕ) (xs ys : List ℕ) (a b : Streams) → xs ≡ ys → GrowsPart from to xs a b → GrowsPart from to ys a b
part_same from to xs ys a b e part = subst (λ (l : List ℕ). GrowsPart from to l a b) e part
