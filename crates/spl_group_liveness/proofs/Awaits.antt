-- Facts that wait for a message, and facts that a tick gives.
use Rattle.std.proofs.Common.{◌≡◌, ◌≢◌, ℕ, ◌<◌, ◌⊎◌, true, false, ◌||◌, eqb, List, [], ◌∷◌, refl, sym, subst, ◌∙◌, inl, inr}
use Rattle.spl_agree.{specs.{Member.{Group, has}, Rows.row, declared.{event.GroupEvent.GroupEvent, message.CommitMsg.CommitMsg}}, proofs.Tests.eqb_is}
use Rattle.spl_agree.proofs.Tests.{bool_cases}
use Rattle.spl_agree.specs.declared.event.GroupEvent.TheVariants as event
use Rattle.spl_group_liveness.specs.{Bound.AnyOf, Calm.{Calm, Order, left, move, ticked, first_delivered, deliver_first, turn_by, group_turn, group_ticks}}
use Rattle.spl_group_liveness.{specs.Calm.{group_turns, group_pass, AllBelow, AllPairs, HasPair, IsFull}, proofs.Moves.{Ready, IsKept, left-same}}
use Rattle.spl_group_liveness.proofs.Moves.{mailed-other, wanted-kept, kept-deliver, kept-turn_by, kept-ticks, kept-turns}

-- until `Q` comes, `R` holds and a message of such a kind stands on the pair
abbrev pub Awaits : {V : Type 0} → ℕ → ℕ → (Calm V → Type 0) → (CommitMsg V → Type 0) → (Calm V → Type 0) → Calm V → Type 0
Awaits a b R W Q k = (R k × AnyOf W (k.due a b)) ⊎ Q k

-- the message, once it is delivered, gives `Q`
abbrev pub Gives : {V : Type 0} → Group V → ℕ → ℕ → (Calm V → Type 0) → (CommitMsg V → Type 0) → (Calm V → Type 0) → Type 0
Gives {V} g a b R W Q =
    (k : Calm V) (m : CommitMsg V) (d : ℕ → ℕ → List (CommitMsg V)) → Ready g k b (event.From a m) d → R k → W m → Q (move g k b (event.From a m) d)

pub awaits-kept : {V : Type 0} (g : Group V) (a b : ℕ) (R : Calm V → Type 0) (W : CommitMsg V → Type 0) (Q : Calm V → Type 0) → IsKept g (λ k. R k ⊎ Q k)
    → IsKept g Q → Gives g a b R W Q → IsKept g (Awaits a b R W Q)
awaits-kept {V} g a b R W Q until kept gives k here e d ready h = go h
  where
    Result : Type 0
    Result = Awaits a b R W Q (move g k here e d)

    hit : (m : CommitMsg V) → W m → R k → (i : ℕ) (x : GroupEvent V) → i ≡ b → x ≡ event.From a m → Ready g k i x d → Q (move g k i x d)
    hit m w r i x p q =
        subst (λ (j : ℕ). Ready g k j x d → Q (move g k j x d)) (sym p)
        (subst (λ (y : GroupEvent V). Ready g k b y d → Q (move g k b y d)) (sym q) (λ z. gives k m d z r w))

    stays : AnyOf W ((move g k here e d).due a b) → R (move g k here e d) ⊎ Q (move g k here e d) → Result
    stays x (inl r) = inl (r, x)
    stays x (inr q) = inr q

    cases : R k → AnyOf W ((move g k here e d).due a b) ⊎ ((m : CommitMsg V) × (W m × ((here ≡ b) × (e ≡ event.From a m)))) → Result
    cases r (inl x) = stays x (until k here e d ready (inl r))
    cases r (inr x) = inr (hit x.0 x.1.0 r here e x.1.1.0 x.1.1.1 ready)

    go : (R k × AnyOf W (k.due a b)) ⊎ Q k → Result
    go (inl x) = cases x.0 (wanted-kept g W a b k here e d ready x.1)
    go (inr q) = inr (kept k here e d ready q)

-- after the turn of the pair it has come
pub awaits-turn_by : {V : Type 0} (g : Group V) (a b : ℕ) (R : Calm V → Type 0) (W : CommitMsg V → Type 0) (Q : Calm V → Type 0)
    → IsKept g (λ k. R k ⊎ Q k) → IsKept g Q → Gives g a b R W Q → a < g.members → b < g.members → a ≢ b → (ms : List (CommitMsg V)) (k : Calm V)
    → k.due a b ≡ ms → Awaits a b R W Q k → Q (turn_by g a b ms k)
awaits-turn_by {V} g a b R W Q until kept gives la lb n [] k e h = go h
  where
    go : (R k × AnyOf W (k.due a b)) ⊎ Q k → Q k
    go (inl x) = absurd (subst (λ (l : List (CommitMsg V)). AnyOf W l) e x.1)
    go (inr q) = q
awaits-turn_by {V} g a b R W Q until kept gives la lb n (m ∷ ms) k e h =
    awaits-turn_by g a b R W Q until kept gives la lb n ms (deliver_first g a b k) (rest (k.due a b) e)
    (kept-deliver g (Awaits a b R W Q) (awaits-kept g a b R W Q until kept gives) a b la lb n (k.due a b) k refl h)
  where
    rest : (ds : List (CommitMsg V)) → ds ≡ m ∷ ms → (first_delivered g k a b ds).due a b ≡ ms
    rest [] q = cc
    rest (x ∷ xs) q = mailed-other (left k.due a b xs) b (row g b (k.world.at b) (event.From a x)).sends a b n ∙ (left-same k.due a b xs ∙ cc)

pub awaits-turns : {V : Type 0} (g : Group V) (a b : ℕ) (R : Calm V → Type 0) (W : CommitMsg V → Type 0) (Q : Calm V → Type 0) → IsKept g (λ k. R k ⊎ Q k)
    → IsKept g Q → Gives g a b R W Q → a < g.members → b < g.members → a ≢ b → (ps : List (ℕ × ℕ)) → AllPairs g.members ps → HasPair a b ps → (k : Calm V)
    → Awaits a b R W Q k → Q (group_turns g ps k)
awaits-turns g a b R W Q until kept gives la lb n [] l h k w = absurd h
awaits-turns {V} g a b R W Q until kept gives la lb n (x ∷ xs) l (inl e) k w = kept-turns g Q kept xs l.1 (group_turn g x.0 x.1 k) (now x.0 x.1 e.0 e.1)
  where
    now : (i j : ℕ) → i ≡ a → j ≡ b → Q (group_turn g i j k)
    now i j p q =
        subst (λ (y : ℕ). Q (group_turn g y j k)) (sym p)
        (subst (λ (y : ℕ). Q (group_turn g a y k)) (sym q) (awaits-turn_by g a b R W Q until kept gives la lb n (k.due a b) k refl w))
awaits-turns {V} g a b R W Q until kept gives la lb n (x ∷ xs) l (inr h) k w =
    awaits-turns g a b R W Q until kept gives la lb n xs l.1 h (group_turn g x.0 x.1 k)
    (kept-turn_by g (Awaits a b R W Q) (awaits-kept g a b R W Q until kept gives) x.0 x.1 l.0.0 l.0.1 l.0.2 (k.due x.0 x.1) k w)

-- what waits for a message at the start of a pass has come at its end
pub awaits-pass : {V : Type 0} (g : Group V) (o : Order) → IsFull g.members o
    → (a b : ℕ) (R : Calm V → Type 0) (W : CommitMsg V → Type 0) (Q : Calm V → Type 0) → IsKept g (λ k. R k ⊎ Q k) → IsKept g Q → Gives g a b R W Q
    → a < g.members → b < g.members → a ≢ b → (k : Calm V) → Awaits a b R W Q k → Q (group_pass g o k)
awaits-pass g o full a b R W Q until kept gives la lb n k w =
    awaits-turns g a b R W Q until kept gives la lb n o.pairs full.among (full.every a b la lb n) (group_ticks g o.ticks k)
    (kept-ticks g (Awaits a b R W Q) (awaits-kept g a b R W Q until kept gives) o.ticks full.members k w)

-- what the tick of a member gives holds after the ticks
pub ticks-give : {V : Type 0} (g : Group V) (here : ℕ) (R Q : Calm V → Type 0) → IsKept g (λ k. R k ⊎ Q k) → IsKept g Q
    → ((k : Calm V) → R k → Q (ticked g here k)) → (is : List ℕ) → AllBelow g.members is → has here is ≡ true → (k : Calm V) → R k ⊎ Q k
    → Q (group_ticks g is k)
ticks-give g here R Q until kept gives [] l h k w = cc
ticks-give {V} g here R Q until kept gives (x ∷ xs) l h k w =
    go (bool_cases (eqb x here))
    (λ q. ticks-give g here R Q until kept gives xs l.1 q (ticked g x k) (until k x event.Tick k.due (record { member = l.0; may = refl }) w))
  where
    at_here : R k ⊎ Q k → here < g.members → Q (ticked g here k)
    at_here (inl r) lt = gives k r
    at_here (inr q) lt = kept k here event.Tick k.due (record { member = lt; may = refl }) q

    now : (j : ℕ) → j ≡ here → j < g.members → Q (ticked g j k)
    now j e = subst (λ (i : ℕ). i < g.members → Q (ticked g i k)) (sym e) (at_here w)

    later : (eqb x here || has here xs) ≡ true → eqb x here ≡ false → has here xs ≡ true
    later p q = cc

    go : (eqb x here ≡ true) ⊎ (eqb x here ≡ false) → (has here xs ≡ true → Q (group_ticks g xs (ticked g x k))) → Q (group_ticks g xs (ticked g x k))
    go (inl q) f = kept-ticks g Q kept xs l.1 (ticked g x k) (now x (eqb_is x here q) l.0)
    go (inr q) f = f (later h q)

-- the same of all ticks of a pass
pub ticks-pass : {V : Type 0} (g : Group V) (o : Order) → IsFull g.members o → (here : ℕ) (R Q : Calm V → Type 0) → IsKept g (λ k. R k ⊎ Q k) → IsKept g Q
    → ((k : Calm V) → R k → Q (ticked g here k)) → here < g.members → (k : Calm V) → R k ⊎ Q k → Q (group_ticks g o.ticks k)
ticks-pass g o full here R Q until kept gives l k w = ticks-give g here R Q until kept gives o.ticks full.members (full.each here l) k w
