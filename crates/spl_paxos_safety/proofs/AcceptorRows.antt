-- What an acceptor does keeps the soundness of a round.
use Rattle.std.{specs.Prelude.{List, [], ◌∷◌, Option, Some}, proofs.Common.{◌≡◌, ◌≢◌, ℕ, ◌≤◌, ◌⊎◌, Bool, true, false, eqb, inl, inr, sym, subst, arith}}
use Rattle.spl_agree.proofs.Tests.{put-same, bool_cases, eqb_is, eqb_not}
use Rattle.spl_acceptor.specs.{Quorums.IsWithin, Processes.{Pair, Pairs, Acceptor}, declared.group.Group.Group}
use Rattle.spl_paxos_safety.proofs.{Round.{Message, Accept, Promise, Higher, Accepted, Round, IsAmong, with_acceptor}, Soundness.{Accepts, Covers, Given}}
use Rattle.spl_paxos_safety.proofs.{Soundness.{Promised, Sound}, Changes.{at_most_self, acceptor-sound}, Tests.{was-prefix, was-after, accepted-same}}

-- nothing but this is among these
abbrev pub Only : Message → List Message → Type 0
Only x sends = (y : Message) → IsAmong y sends → y ≡ x

pub same_number : (j i : ℕ) → (j ≡ i) ⊎ (j ≢ i)
same_number j i = go (bool_cases (eqb j i))
  where
    go : (eqb j i ≡ true) ⊎ (eqb j i ≡ false) → (j ≡ i) ⊎ (j ≢ i)
    go (inl q) = inl (eqb_is j i q)
    go (inr q) = inr (eqb_not j i q)

-- it promised a ballot that isn't below, and says what it accepted
pub promises-sound : (g : Group) (w : Round) (a b : ℕ) (x : Acceptor) (pairs : Pairs) → (w.acceptor a).promised ≤ b → x.promised ≡ b
    → x.accepted ≡ (w.acceptor a).accepted
    → ((i : ℕ) (z : Pair) → pairs i ≡ Some z → (w.acceptor a).accepted i ≡ Some z)
    → ((i : ℕ) → IsWithin g.members i → pairs i ≡ (w.acceptor a).accepted i)
    → Sound g w → Sound g (with_acceptor w a x (Promise a b pairs ∷ []))
promises-sound g w a b x pairs l eb ea from within s = acceptor-sound g w a x (Promise a b pairs ∷ []) (let k : x.promised ≡ b = eb in omega arith)
    (λ i c k y. subst (λ (f : Pairs). Covers (f i) c) (sym ea) y) given promised none (λ i y e. inl (subst (λ (f : Pairs). f i ≡ Some y) ea e)) s
  where
    v : Round
    v = with_acceptor w a x (Promise a b pairs ∷ [])

    given : (c i d : ℕ) (p : Bool) → IsAmong (Accepted c i d p) (Promise a b pairs ∷ []) → ((w.acceptor c).promised ≤ d) × Given v c i d p
    given c i d p (inl e) = cc
    given c i d p (inr u) = absurd u

    mine : Promised v a b pairs
    mine = record {
      below = subst (λ (z : Acceptor). b ≤ z.promised) (sym (put-same w.acceptor a x)) (let k : x.promised ≡ b = eb in omega arith);
      true_pairs =
          λ i z e. let y : Accepts w.sent a i z.0 z.1 = s.pairs a i z (from i z e) in
          ((let k : z.0 ≤ (w.acceptor a).promised = (s.given a i z.0 z.1 y).below in omega arith), inr y);
      all_pairs = λ i c p y k. all i c p y;
    }
      where
        all : (i c : ℕ) (p : Bool) → Accepts v.sent a i c p → Covers (pairs i) c
        all i c p (inl e) = cc
        all i c p (inr y) = subst (λ (o : Option Pair). Covers o c) (sym (within i (s.ordered i c p (s.given a i c p y).asked).member)) (s.given a i c p y).kept

    promised : (c d : ℕ) (y : Pairs) → IsAmong (Promise c d y) (Promise a b pairs ∷ []) → Promised v c d y
    promised c d y (inr u) = absurd u
    promised c d y (inl e) =
        subst (λ (z : Pairs). Promised v c d z) (sym pe)
        (subst (λ (z : ℕ). Promised v c z pairs) (sym de) (subst (λ (z : ℕ). Promised v z b pairs) (sym ce) mine))
      where
        ce : c ≡ a
        ce = cc

        de : d ≡ b
        de = cc

        pe : y ≡ pairs
        pe = cc

    none : (i d : ℕ) (p : Bool) → IsAmong (Accept i d p) (Promise a b pairs ∷ []) → ⊥
    none i d p (inl e) = cc
    none i d p (inr u) = u

-- it accepted what was ordered in a ballot that isn't below, whether it had accepted it before or not
pub accepts-sound : (g : Group) (w : Round) (a i b : ℕ) (p : Bool) (x : Acceptor) (sends : List Message) → (w.acceptor a).promised ≤ b → x.promised ≡ b
    → x.accepted i ≡ Some (b, p)
    → ((j : ℕ) → j ≢ i → x.accepted j ≡ (w.acceptor a).accepted j)
    → IsAmong (Accept i b p) w.sent → Only (Accepted a i b p) sends → IsAmong (Accepted a i b p) sends → Sound g w → Sound g (with_acceptor w a x sends)
accepts-sound g w a i b p x sends l eb ei ej asked only has s =
    acceptor-sound g w a x sends (let k : x.promised ≡ b = eb in omega arith) (λ j d. kept j d) given promised none pairs s
  where
    v : Round
    v = with_acceptor w a x sends

    kept : (j d : ℕ) → d ≤ (w.acceptor a).promised → Covers ((w.acceptor a).accepted j) d → Covers (x.accepted j) d
    kept j d k y = go (same_number j i)
      where
        go : (j ≡ i) ⊎ (j ≢ i) → Covers (x.accepted j) d
        go (inl e) = subst (λ (z : ℕ). Covers (x.accepted z) d) (sym e) ((b, p), ei, omega arith)
        go (inr n) = subst (λ (o : Option Pair). Covers o d) (sym (ej j n)) y

    mine : ((w.acceptor a).promised ≤ b) × Given v a i b p
    mine = (
      l,
      record {
        asked = was-after (Accept i b p) sends w.sent asked;
        below = subst (λ (z : Acceptor). b ≤ z.promised) (sym (put-same w.acceptor a x)) (let k : x.promised ≡ b = eb in omega arith);
        kept = subst (λ (z : Acceptor). Covers (z.accepted i) b) (sym (put-same w.acceptor a x)) ((b, p), ei, at_most_self b);
      },
    )

    given : (c j d : ℕ) (q : Bool) → IsAmong (Accepted c j d q) sends → ((w.acceptor c).promised ≤ d) × Given v c j d q
    given c j d q u =
        let m : (c ≡ a) × (j ≡ i) × (d ≡ b) × (q ≡ p) = accepted-same c j d a i b q p (only (Accepted c j d q) u) in
        subst (λ (z : ℕ). ((w.acceptor z).promised ≤ d) × Given v z j d q) (sym m.0)
        (subst (λ (z : ℕ). ((w.acceptor a).promised ≤ d) × Given v a z d q) (sym m.1)
        (subst (λ (z : ℕ). ((w.acceptor a).promised ≤ z) × Given v a i z q) (sym m.2)
        (subst (λ (z : Bool). ((w.acceptor a).promised ≤ b) × Given v a i b z) (sym m.3) mine)))

    promised : (c d : ℕ) (y : Pairs) → IsAmong (Promise c d y) sends → Promised v c d y
    promised c d y u = let e : Promise c d y ≡ Accepted a i b p = only (Promise c d y) u in cc

    none : (j d : ℕ) (q : Bool) → IsAmong (Accept j d q) sends → ⊥
    none j d q u = let e : Accept j d q ≡ Accepted a i b p = only (Accept j d q) u in cc

    pairs : (j : ℕ) (y : Pair) → x.accepted j ≡ Some y → ((w.acceptor a).accepted j ≡ Some y) ⊎ Accepts v.sent a j y.0 y.1
    pairs j y e = go (same_number j i)
      where
        go : (j ≡ i) ⊎ (j ≢ i) → ((w.acceptor a).accepted j ≡ Some y) ⊎ Accepts v.sent a j y.0 y.1
        go (inr n) = inl (subst (λ (o : Option Pair). o ≡ Some y) (ej j n) e)
        go (inl k) =
            let f : Some (b, p) ≡ Some y = subst (λ (o : Option Pair). o ≡ Some y) ei (subst (λ (z : ℕ). x.accepted z ≡ Some y) k e) in
            let h : (b, p) ≡ y = cc in
            inr (subst (λ (z : Pair). Accepts v.sent a j z.0 z.1) h
            (subst (λ (z : ℕ). Accepts v.sent a z b p) (sym k) (was-prefix (Accepted a i b p) sends w.sent has)))

-- it says what it promised, and nothing else
pub declines-sound : (g : Group) (w : Round) (a b : ℕ) → Sound g w → Sound g (with_acceptor w a (w.acceptor a) (Higher b ∷ []))
declines-sound g w a b s = acceptor-sound g w a (w.acceptor a) (Higher b ∷ []) (at_most_self _) (λ i c k y. y) given promised none (λ i y e. inl e) s
  where
    given : (c i d : ℕ) (p : Bool) → IsAmong (Accepted c i d p) (Higher b ∷ [])
        → ((w.acceptor c).promised ≤ d) × Given (with_acceptor w a (w.acceptor a) (Higher b ∷ [])) c i d p
    given c i d p (inl e) = cc
    given c i d p (inr u) = absurd u

    promised : (c d : ℕ) (y : Pairs) → IsAmong (Promise c d y) (Higher b ∷ []) → Promised (with_acceptor w a (w.acceptor a) (Higher b ∷ [])) c d y
    promised c d y (inl e) = cc
    promised c d y (inr u) = absurd u

    none : (i d : ℕ) (p : Bool) → IsAmong (Accept i d p) (Higher b ∷ []) → ⊥
    none i d p (inl e) = cc
    none i d p (inr u) = u

pub idle-acceptor-sound : (g : Group) (w : Round) (a : ℕ) → Sound g w → Sound g (with_acceptor w a (w.acceptor a) [])
idle-acceptor-sound g w a s =
    acceptor-sound g w a (w.acceptor a) [] (at_most_self _) (λ i c k y. y) (λ c i b p u. absurd u) (λ c b y u. absurd u) (λ i b p u. u) (λ i y e. inl e) s
