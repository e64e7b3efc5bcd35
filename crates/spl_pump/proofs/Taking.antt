-- What is taken where messages are carried, and other bytes that come last.
use Rattle.std.{specs.Io.KnownBytes.append_known, proofs.Common.{◌≡◌, ◌<◌, ⊎_elim, inl, inr, ℕ, Bool, true, false, cond, List, [], ◌++◌, length, Option}}
use Rattle.std.proofs.Common.{append_assoc, append-nil, refl, sym, ap, ◌∙◌, arith}
use Rattle.spl_agree.specs.World.{IsPrefixOf}
use Rattle.spl_edge.specs.Devices.{Streams}
use Rattle.spl_pump.specs.{Moves.GrowsAtMost, Wires.{Carried, WireGoesOn, Puts, PutsPart, TakesBetween, TakesPart, Wire, bytes_on_pair}}
use Rattle.spl_pump.proofs.{Streams.known_more, Wires.{grows_puts, puts_nothing_part, puts_part}}

pub none_either : (none : List ℕ) (met : Bool) → cond met none none ≡ none
none_either none true = refl
none_either none false = refl

module _ {Due : ℕ → ℕ → List ℕ → Type 0} where
  -- no others came
  abbrev pub takes_between : (least most : ℕ → ℕ → List ℕ) (x y : Streams)
      → ((a b : ℕ) → a < 256 → b < 256
      → (done : List ℕ) × (more : List ℕ) × (most a b ≡ (least a b ++ done) ++ more) × (y a b ≡ append_known (x a b) (least a b ++ done)))
      → TakesBetween Due least most x y
  takes_between least most x y part = record {
    from = 0;
    to = 0;
    next = [];
    last = [];
    due = inl refl;
    short = omega arith;
    each = λ a b p q.
        let (done, more, is, grows) = part a b p q in
        let none : bytes_on_pair 0 0 [] a b ≡ [] = none_either [] _ in
        (done, more, rw none is, rw none (grows ∙ ap (λ (l : List ℕ). append_known (x a b) l) (sym (append-nil (least a b ++ done)))));
  }

  abbrev pub takes_prefix : (f : ℕ → ℕ → List ℕ) (x y : Streams) → PutsPart f x y → TakesPart Due f x y
  takes_prefix f x y part = takes_between (λ a b. []) f x y part

  abbrev pub takes_nothing : (x : Streams) → TakesPart Due (λ a b. []) x x
  takes_nothing x = takes_prefix (λ a b. []) x x (puts_nothing_part x)

  -- others came on one pair
  pub takes_short : (from to : ℕ) (next : List ℕ) (x y : Streams) → Due from to next → GrowsAtMost from to (length next) x y
      → TakesPart Due (bytes_on_pair from to next) x y
  takes_short from to next x y due (last, short, grows) = record {
    from = from;
    to = to;
    next = next;
    last = last;
    due = inr due;
    short = short;
    each = λ a b p q. ([], [], sym (append-nil (bytes_on_pair from to next a b)), grows_puts from to last x y grows a b p q);
  }

  abbrev pub takes_then : (f h : ℕ → ℕ → List ℕ) (x y z : Streams) → Puts f x y → TakesPart Due h y z → TakesPart Due (λ a b. f a b ++ h a b) x z
  takes_then f h x y z first t = record {
    from = t.from;
    to = t.to;
    next = t.next;
    last = t.last;
    due = t.due;
    short = t.short;
    each = λ a b p q.
        let (done, more, is, grows) = t.each a b p q in
        let own = bytes_on_pair t.from t.to t.last a b in (
          f a b ++ done,
          more,
          ap (λ (l : List ℕ). f a b ++ l) is ∙ sym (append_assoc (f a b) done (bytes_on_pair t.from t.to t.next a b ++ more)),
          grows ∙ ap (λ (k : Option (List ℕ)). append_known k (done ++ own)) (first a b p q) ∙ known_more (x a b) (f a b) (done ++ own)
              ∙ ap (λ (l : List ℕ). append_known (x a b) l) (sym (append_assoc (f a b) done own)),
        );
  }

  -- a part of what begins other bytes is one of those
  abbrev pub takes_of_more : (least f h : ℕ → ℕ → List ℕ) (x y : Streams) → ((a b : ℕ) → IsPrefixOf (f a b) (h a b)) → TakesBetween Due least f x y
      → TakesBetween Due least h x y
  takes_of_more least f h x y prefix t = record {
    from = t.from;
    to = t.to;
    next = t.next;
    last = t.last;
    due = t.due;
    short = t.short;
    each = λ a b p q.
        let (done, more, is, grows) = t.each a b p q in
        let (rest, all) = prefix a b in
        let own = bytes_on_pair t.from t.to t.next a b in
        let first = least a b ++ done in (
          done,
          more ++ rest,
          sym all ∙ ap (λ (l : List ℕ). l ++ rest) is ∙ append_assoc first (own ++ more) rest
              ∙ ap (λ (l : List ℕ). first ++ l) (append_assoc own more rest),
          grows,
        );
  }

  pub takes_no_more : (f h : ℕ → ℕ → List ℕ) (x y : Streams) → TakesPart Due f x y → TakesPart Due (λ a b. f a b ++ h a b) x y
  takes_no_more f h x y t = takes_of_more (λ a b. []) f (λ a b. f a b ++ h a b) x y (λ a b. (h a b, refl)) t

  abbrev pub takes_same : (least f h : ℕ → ℕ → List ℕ) (x y : Streams) → ((a b : ℕ) → f a b ≡ h a b) → TakesBetween Due least f x y
      → TakesBetween Due least h x y
  takes_same least f h x y same t = takes_of_more least f h x y (λ a b. ([], append-nil (f a b) ∙ same a b)) t

  abbrev pub takes_all : (f : ℕ → ℕ → List ℕ) (x y : Streams) → Puts f x y → TakesPart Due f x y
  takes_all f x y all = takes_prefix f x y (puts_part f x y all)

  -- what messages put, one after another
  abbrev pub takes_on : (xs ys : List Carried) (f g : Wire) (x y z : Streams) → WireGoesOn xs f g → Puts (f xs) x y → TakesPart Due (g ys) y z
      → TakesPart Due (f (xs ++ ys)) x z
  takes_on xs ys f g x y z on first second =
      takes_same (λ a b. []) (λ a b. f xs a b ++ g ys a b) (f (xs ++ ys)) x z (λ a b. sym (on.after ys a b)) (takes_then (f xs) (g ys) x y z first second)

-- what was due is due by more
abbrev pub takes_due : (Due More : ℕ → ℕ → List ℕ → Type 0) (least most : ℕ → ℕ → List ℕ) (x y : Streams)
    → ((a b : ℕ) (bytes : List ℕ) → Due a b bytes → More a b bytes) → TakesBetween Due least most x y → TakesBetween More least most x y
takes_due Due More least most x y more t = record {
  from = t.from;
  to = t.to;
  next = t.next;
  last = t.last;
  due = ⊎_elim (λ none. inl none) (λ due. inr (more t.from t.to t.next due)) t.due;
  short = t.short;
  each = t.each;
}
