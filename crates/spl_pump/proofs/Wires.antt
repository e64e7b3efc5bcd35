-- What is put where messages are carried.
use Rattle.std.{specs.Io.KnownBytes.append_known, proofs.Common.{◌≡◌, ◌<◌, ◌⊎◌, inl, inr, ℕ, Bool, true, false, ◌&&◌, eqb, cond, List, [], ◌++◌, Option}}
use Rattle.std.proofs.{Common.{Some, None, append_assoc, append-nil, refl, sym, ap, ◌∙◌}, lemmas.Bool.{eqb-true, eqb-false, eq-eqb}}
use Rattle.spl_agree.specs.World.{IsPrefixOf}
use Rattle.spl_edge.specs.Devices.{AreTaken, IsOtherPair, Streams}
use Rattle.spl_registry.specs.Nodes.{Entry}
use Rattle.spl_pump.specs.{Moves.{Grows, GrowsPart, IsLie}, Wires.{Puts, PutsPart, AllBytesTaken, AreLastBytes, IsOn, LiesOf, bytes_on_pair, hands, hands_if}}
use Rattle.spl_pump.{specs.declared.fault.PumpFault.{PumpFault, TheVariants.{Link, Lied, NoMemory}}, proofs.Streams.{known_same, known_more}}

pub puts_nothing : (a : Streams) → Puts (λ x y. []) a a
puts_nothing a = λ x y p q. sym (known_same (a x y))

pub puts_nothing_part : (a : Streams) → PutsPart (λ x y. []) a a
puts_nothing_part a = λ x y p q. ([], [], refl, sym (known_same (a x y)))

pub tells : (b : Bool) → (b ≡ true) ⊎ (b ≡ false)
tells true = inl refl
tells false = inr refl

pub never : true ≡ false → ⊥
never e = cc

-- a pair is this one, or another
pair_cases : (a b from to : ℕ) → ((a ≡ from) × (b ≡ to)) ⊎ (IsOtherPair a b from to × (cond (eqb a from && eqb b to) true false ≡ false))
pair_cases a b from to = go (tells (eqb a from)) (tells (eqb b to))
  where
    go : (eqb a from ≡ true) ⊎ (eqb a from ≡ false) → (eqb b to ≡ true) ⊎ (eqb b to ≡ false)
        → ((a ≡ from) × (b ≡ to)) ⊎ (IsOtherPair a b from to × (cond (eqb a from && eqb b to) true false ≡ false))
    go (inl p) (inl q) = inl (eqb-true a from p, eqb-true b to q)
    go (inl p) (inr q) = inr (λ e f. absurd (eqb-false b to q f), rw (p, q) refl)
    go (inr p) q = inr (λ e f. absurd (eqb-false a from p e), rw p refl)

pub on_this : (from to : ℕ) (xs : List ℕ) → bytes_on_pair from to xs from to ≡ xs
on_this from to xs = rw (eq-eqb from from refl, eq-eqb to to refl) refl

pub on_other : (from to a b : ℕ) (xs : List ℕ) → cond (eqb a from && eqb b to) true false ≡ false → bytes_on_pair from to xs a b ≡ []
on_other from to a b xs h = go (tells (eqb a from && eqb b to))
  where
    go : (eqb a from && eqb b to ≡ true) ⊎ (eqb a from && eqb b to ≡ false) → bytes_on_pair from to xs a b ≡ []
    go (inl p) = let bad : true ≡ false = sym (rw p refl) ∙ h in absurd (never bad)
    go (inr p) = rw p refl

pub grows_puts : (from to : ℕ) (xs : List ℕ) (old new : Streams) → Grows from to xs old new → Puts (bytes_on_pair from to xs) old new
grows_puts from to xs old new grows = λ a b p q. go a b p q (pair_cases a b from to)
  where
    go : (a b : ℕ) → a < 256 → b < 256 → ((a ≡ from) × (b ≡ to)) ⊎ (IsOtherPair a b from to × (cond (eqb a from && eqb b to) true false ≡ false))
        → new a b ≡ append_known (old a b) (bytes_on_pair from to xs a b)
    go a b p q (inl here) = rw (here.0, here.1, on_this from to xs) grows.here
    go a b p q (inr other) =
        grows.others a b p q other.0 ∙ sym (known_same (old a b)) ∙ ap (λ (l : List ℕ). append_known (old a b) l) (sym (on_other from to a b xs other.1))

pub puts_more : (f h : ℕ → ℕ → List ℕ) (a b c : Streams) → Puts f a b → Puts h b c → Puts (λ x y. f x y ++ h x y) a c
puts_more f h a b c first second =
    λ x y p q. second x y p q ∙ ap (λ (k : Option (List ℕ)). append_known k (h x y)) (first x y p q) ∙ known_more (a x y) (f x y) (h x y)

pub part_puts : (from to : ℕ) (xs : List ℕ) (old new : Streams) → GrowsPart from to xs old new → PutsPart (bytes_on_pair from to xs) old new
part_puts from to xs old new (done, more, is, grows) = λ a b p q. go a b p q (pair_cases a b from to)
  where
    go : (a b : ℕ) → a < 256 → b < 256 → ((a ≡ from) × (b ≡ to)) ⊎ (IsOtherPair a b from to × (cond (eqb a from && eqb b to) true false ≡ false))
        → (d : List ℕ) × (m : List ℕ) × (bytes_on_pair from to xs a b ≡ d ++ m) × (new a b ≡ append_known (old a b) d)
    go a b p q (inl here) = (done, more, rw (here.0, here.1) (on_this from to xs ∙ is), rw (here.0, here.1) grows.here)
    go a b p q (inr other) = ([], [], on_other from to a b xs other.1, grows.others a b p q other.0 ∙ sym (known_same (old a b)))

pub puts_then_part : (f h : ℕ → ℕ → List ℕ) (a b c : Streams) → Puts f a b → PutsPart h b c → PutsPart (λ x y. f x y ++ h x y) a c
puts_then_part f h a b c first second =
    λ x y p q. let (done, more, is, grows) = second x y p q in (
      f x y ++ done,
      more,
      ap (λ (l : List ℕ). f x y ++ l) is ∙ sym (append_assoc (f x y) done more),
      grows
          ∙ ap (λ (k : Option (List ℕ)). append_known k done) (first x y p q) ∙ known_more (a x y) (f x y) done,
    )

pub part_no_more : (f h : ℕ → ℕ → List ℕ) (a b : Streams) → PutsPart f a b → PutsPart (λ x y. f x y ++ h x y) a b
part_no_more f h a b first =
    λ x y p q. let (done, more, is, grows) = first x y p q in
    (done, more ++ h x y, ap (λ (l : List ℕ). l ++ h x y) is ∙ append_assoc done more (h x y), grows)

-- a prefix of what begins other bytes is one of those
pub part_of_more : (f h : ℕ → ℕ → List ℕ) (a b : Streams) → ((x y : ℕ) → IsPrefixOf (f x y) (h x y)) → PutsPart f a b → PutsPart h a b
part_of_more f h a b prefix part =
    λ x y p q. let (done, more, is, grows) = part x y p q in let (rest, all) = prefix x y in
    (done, more ++ rest, sym all ∙ ap (λ (l : List ℕ). l ++ rest) is ∙ append_assoc done more rest, grows)

pub puts_part : (f : ℕ → ℕ → List ℕ) (a b : Streams) → Puts f a b → PutsPart f a b
puts_part f a b all = λ x y p q. (f x y, [], sym (append-nil (f x y)), all x y p q)

pub all_taken : (from to : ℕ) (xs ys : List ℕ) (put put' taken taken' : Streams) → AllBytesTaken put taken → Grows from to xs put put'
    → Grows from to ys taken taken' → AreTaken (put' from to) (taken' from to) → AllBytesTaken put' taken'
all_taken from to xs ys put put' taken taken' before out into here = λ a b p q. go a b p q (pair_cases a b from to)
  where
    go : (a b : ℕ) → a < 256 → b < 256 → ((a ≡ from) × (b ≡ to)) ⊎ (IsOtherPair a b from to × (cond (eqb a from && eqb b to) true false ≡ false))
        → AreTaken (put' a b) (taken' a b)
    go a b p q (inl is) = rw (is.0, is.1) here
    go a b p q (inr other) = rw (out.others a b p q other.0, into.others a b p q other.0) (before a b p q)

ends_by : (k k' : Option (List ℕ)) (xs : List ℕ) → k' ≡ append_known k xs → AreLastBytes xs k'
ends_by None k' xs e = rw e tt
ends_by (Some k) k' xs e = rw e (k, refl)

pub lies_of : (from to : ℕ) (frame : List ℕ) (put put' taken taken' : Streams) (e : PumpFault) → IsLie from to frame put put' taken taken' e
    → LiesOf (IsOn from to frame) e put' taken'
lies_of from to frame put put' taken taken' Link h = tt
lies_of from to frame put put' taken taken' NoMemory h = tt
lies_of from to frame put put' taken taken' (Lied sent got) (is, differ, long, all, out, into) = (
  from,
  to,
  (refl, refl, is),
  record {
    differ = differ;
    long = long;
    all = all;
    put_last = ends_by (put from to) (put' from to) sent out.here;
    taken_last = ends_by (taken from to) (taken' from to) got into.here;
  },
)

pub none_if : (es : List Entry) (low high : ℕ) (a : Streams) (met : Bool) → met ≡ true → Puts (hands_if es met low high) a a
none_if es low high a met h = rw h (puts_nothing a)

pub none_part_if : (es : List Entry) (low high : ℕ) (a : Streams) (met : Bool) → met ≡ true → PutsPart (hands_if es met low high) a a
none_part_if es low high a met h = rw h (puts_nothing_part a)

pub hands_when : (es : List Entry) (low high : ℕ) (a b : Streams) (met : Bool) → met ≡ false → Puts (hands es low high) a b
    → Puts (hands_if es met low high) a b
hands_when es low high a b met h all = rw h all

pub hands_part_when : (es : List Entry) (low high : ℕ) (a b : Streams) (met : Bool) → met ≡ false → PutsPart (hands es low high) a b
    → PutsPart (hands_if es met low high) a b
hands_part_when es low high a b met h all = rw h all

pub hands_as_met : (P : (ℕ → ℕ → List ℕ) → Type 0) (es : List Entry) (low high : ℕ) (met : Bool) → met ≡ false → P (hands es low high)
    → P (hands_if es met low high)
hands_as_met P es low high met h all = rw h all
