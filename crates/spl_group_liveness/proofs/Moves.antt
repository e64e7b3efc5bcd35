-- What a calm delivers: facts that every move keeps.
use Rattle.std.{specs.Prelude.◌==◌, proofs.Common.{◌≡◌, ◌≢◌, ℕ, ◌<◌, ◌⊎◌, true, false, ◌&&◌, eqb, List, [], ◌∷◌, ◌++◌, refl, sym, ap, subst, ◌∙◌, inl, inr}}
use Rattle.spl_agree.specs.{Member.Group, Rows.row, World.{Sent, posted}, Agreement.Was, declared.{event.GroupEvent.GroupEvent, message.CommitMsg.CommitMsg}}
use Rattle.spl_agree.proofs.Tests.{if_holds, eqb_is, eqb_not, eqb_other, eqb_same, and_left, and_right, bool_cases}
use Rattle.spl_agree.specs.declared.event.GroupEvent.TheVariants as event
use Rattle.spl_group_safety.proofs.Sends.{AllSends}
use Rattle.spl_group_liveness.specs.{Bound.AnyOf, Calm.{Calm, Order, mail, mailed, left, move, ticked, first_delivered, deliver_first, turn_by, group_turn}}
use Rattle.spl_group_liveness.specs.Calm.{group_ticks, group_turns, group_pass, group_passes, AllBelow, AllPairs, IsFull, AllFull}

pub any-left : {A : Type 0} (P : A → Type 0) (xs ys : List A) → AnyOf P xs → AnyOf P (xs ++ ys)
any-left P [] ys h = absurd h
any-left P (x ∷ xs) ys (inl h) = inl h
any-left P (x ∷ xs) ys (inr h) = inr (any-left P xs ys h)

pub any-right : {A : Type 0} (P : A → Type 0) (xs ys : List A) → AnyOf P ys → AnyOf P (xs ++ ys)
any-right P [] ys h = h
any-right P (x ∷ xs) ys h = inr (any-right P xs ys h)

pub any-cases : {A : Type 0} (P : A → Type 0) (xs ys : List A) → AnyOf P (xs ++ ys) → AnyOf P xs ⊎ AnyOf P ys
any-cases P [] ys h = inr h
any-cases P (x ∷ xs) ys (inl h) = inl (inl h)
any-cases {A} P (x ∷ xs) ys (inr h) = go (any-cases P xs ys h)
  where
    go : AnyOf P xs ⊎ AnyOf P ys → AnyOf P (x ∷ xs) ⊎ AnyOf P ys
    go (inl q) = inl (inr q)
    go (inr q) = inr q

-- what a move needs: it is at a member, and a message is the first one on its pair
abbrev pub MayMove : {V : Type 0} → Group V → Calm V → ℕ → GroupEvent V → (ℕ → ℕ → List (CommitMsg V)) → Type 0
MayMove g k here event.Tick d = d ≡ k.due
MayMove {V} g k here (event.From a m) d = (a < g.members) × (a ≢ here) × (ms : List (CommitMsg V)) × (k.due a here ≡ m ∷ ms) × (d ≡ left k.due a here ms)
MayMove g k here event.Expire d = ⊥
MayMove g k here (event.Submit v) d = ⊥

pub record Ready {V : Type 0} (g : Group V) (k : Calm V) (here : ℕ) (e : GroupEvent V) (d : ℕ → ℕ → List (CommitMsg V)) : Type 0 where
  pub member : here < g.members
  pub may : MayMove g k here e d

-- every move keeps this
abbrev pub IsKept : {V : Type 0} → Group V → (Calm V → Type 0) → Type 0
IsKept {V} g P = (k : Calm V) (here : ℕ) (e : GroupEvent V) (d : ℕ → ℕ → List (CommitMsg V)) → Ready g k here e d → P k → P (move g k here e d)

pub left-same : {V : Type 0} (due : ℕ → ℕ → List (CommitMsg V)) (a b : ℕ) (ms : List (CommitMsg V)) → left due a b ms a b ≡ ms
unfolding left
left-same due a b ms = rw (eqb_same a, eqb_same b)

pub left-cases : {V : Type 0} (due : ℕ → ℕ → List (CommitMsg V)) (a b : ℕ) (ms : List (CommitMsg V)) (from to : ℕ)
    → (left due a b ms from to ≡ due from to) ⊎ ((from ≡ a) × (to ≡ b))
unfolding left
left-cases due a b ms from to =
    if_holds (λ x. (x ≡ due from to) ⊎ ((from ≡ a) × (to ≡ b))) (from == a && to == b) _ _
    (λ q. inr (eqb_is from a (and_left (from == a) (to == b) q), eqb_is to b (and_right (from == a) (to == b) q))) (λ q. inl refl)

pub mailed-other : {V : Type 0} (due : ℕ → ℕ → List (CommitMsg V)) (here : ℕ) (ss : List (ℕ × CommitMsg V)) (from to : ℕ) → from ≢ here
    → mailed due here ss from to ≡ due from to
unfolding mailed
mailed-other due here ss from to n = rw (eqb_other from here n)

pub mailed-here : {V : Type 0} (due : ℕ → ℕ → List (CommitMsg V)) (here : ℕ) (ss : List (ℕ × CommitMsg V)) (to : ℕ)
    → mailed due here ss here to ≡ due here to ++ mail to ss
unfolding mailed
mailed-here due here ss to = rw (eqb_same here)

-- what stands on a pair after more was sent
pub mailed-cases : {V : Type 0} (P : CommitMsg V → Type 0) (due : ℕ → ℕ → List (CommitMsg V)) (here : ℕ) (ss : List (ℕ × CommitMsg V)) (from to : ℕ)
    → AnyOf P (mailed due here ss from to) → AnyOf P (due from to) ⊎ ((from ≡ here) × AnyOf P (mail to ss))
mailed-cases {V} P due here ss from to h = go (bool_cases (eqb from here))
  where
    sub : AnyOf P (due here to) ⊎ AnyOf P (mail to ss) → AnyOf P (due here to) ⊎ ((here ≡ here) × AnyOf P (mail to ss))
    sub (inl x) = inl x
    sub (inr x) = inr (refl, x)

    same : (f : ℕ) → f ≡ here → AnyOf P (mailed due here ss f to) → AnyOf P (due f to) ⊎ ((f ≡ here) × AnyOf P (mail to ss))
    same f e = subst (λ (j : ℕ). AnyOf P (mailed due here ss j to) → AnyOf P (due j to) ⊎ ((j ≡ here) × AnyOf P (mail to ss))) (sym e)
        (λ x. sub (any-cases P (due here to) (mail to ss) (subst (λ (y : List (CommitMsg V)). AnyOf P y) (mailed-here due here ss to) x)))

    go : (eqb from here ≡ true) ⊎ (eqb from here ≡ false) → AnyOf P (due from to) ⊎ ((from ≡ here) × AnyOf P (mail to ss))
    go (inl q) = same from (eqb_is from here q) h
    go (inr q) = inl (subst (λ (y : List (CommitMsg V)). AnyOf P y) (mailed-other due here ss from to (eqb_not from here q)) h)

pub mailed-keeps : {V : Type 0} (P : CommitMsg V → Type 0) (due : ℕ → ℕ → List (CommitMsg V)) (here : ℕ) (ss : List (ℕ × CommitMsg V)) (from to : ℕ)
    → AnyOf P (due from to) → AnyOf P (mailed due here ss from to)
unfolding mailed
mailed-keeps P due here ss from to h = if_holds (λ x. AnyOf P x) (from == here) _ _ (λ q. any-left P (due from to) (mail to ss) h) (λ q. h)

-- what was mailed was sent, and was posted
pub mail-sends : {V : Type 0} (P : CommitMsg V → Type 0) (Q : CommitMsg V → Type 0) (to : ℕ) (ss : List (ℕ × CommitMsg V)) → AllSends P ss
    → AnyOf Q (mail to ss) → (m : CommitMsg V) × (P m × Q m)
mail-sends P Q to [] a h = absurd h
mail-sends {V} P Q to (s ∷ ss) a h =
    if_holds (λ x. AnyOf Q x → (m : CommitMsg V) × (P m × Q m)) (s.0 == to) _ _ (λ q y. one (λ x. mail-sends P Q to ss a.1 x) y)
    (λ q y. mail-sends P Q to ss a.1 y) h
  where
    one : (AnyOf Q (mail to ss) → (m : CommitMsg V) × (P m × Q m)) → Q s.1 ⊎ AnyOf Q (mail to ss) → (m : CommitMsg V) × (P m × Q m)
    one f (inl x) = (s.1, (a.0, x))
    one f (inr x) = f x

pub mail-was : {V : Type 0} (here to : ℕ) (m : CommitMsg V) (ss : List (ℕ × CommitMsg V)) (sent : List (Sent V)) → AnyOf (λ x. x ≡ m) (mail to ss)
    → Was (record { from = here; to = to; message = m }) (posted here ss ++ sent)
mail-was here to m [] sent h = absurd h
mail-was {V} here to m (s ∷ ss) sent h =
    if_holds (λ x. AnyOf (λ y. y ≡ m) x → Was (record { from = here; to = to; message = m }) (posted here (s ∷ ss) ++ sent)) (s.0 == to) _ _
    (λ q y. one (λ x. mail-was here to m ss sent x) (eqb_is s.0 to q) y) (λ q y. inr (mail-was here to m ss sent y)) h
  where
    one : (AnyOf (λ y. y ≡ m) (mail to ss) → Was (record { from = here; to = to; message = m }) (posted here ss ++ sent)) → s.0 ≡ to
        → (s.1 ≡ m) ⊎ AnyOf (λ y. y ≡ m) (mail to ss) → Was (record { from = here; to = to; message = m }) (posted here (s ∷ ss) ++ sent)
    one f e (inl x) = inl cc
    one f e (inr x) = inr (f x)

-- a message that waits stays, or it is the one that comes
pub wanted-kept : {V : Type 0} (g : Group V) (P : CommitMsg V → Type 0) (a b : ℕ) (k : Calm V) (here : ℕ) (e : GroupEvent V)
    (d : ℕ → ℕ → List (CommitMsg V)) → Ready g k here e d → AnyOf P (k.due a b)
    → AnyOf P ((move g k here e d).due a b) ⊎ ((m : CommitMsg V) × (P m × ((here ≡ b) × (e ≡ event.From a m))))
wanted-kept {V} g P a b k here e d ready h = go e ready.may (λ x. mailed-keeps P d here (row g here (k.world.at here) e).sends a b x)
  where
    pop : (s : ℕ) (m : CommitMsg V) (ms : List (CommitMsg V)) → k.due s here ≡ m ∷ ms → (a ≡ s) → (b ≡ here) → (P m ⊎ AnyOf P ms)
        → AnyOf P (left k.due s here ms a b) ⊎ ((x : CommitMsg V) × (P x × ((here ≡ b) × (event.From s m ≡ event.From a x))))
    pop s m ms q x y (inl p) = inr (m, (p, (sym y, ap (λ (j : ℕ). event.From j m) (sym x))))
    pop s m ms q x y (inr p) =
        inl (subst (λ (j : ℕ). AnyOf P (left k.due s here ms j b)) (sym x)
        (subst (λ (j : ℕ). AnyOf P (left k.due s here ms s j)) (sym y) (subst (λ (l : List (CommitMsg V)). AnyOf P l) (sym (left-same k.due s here ms)) p)))

    fresh : (s : ℕ) (m : CommitMsg V) (ms : List (CommitMsg V)) → k.due s here ≡ m ∷ ms → ((left k.due s here ms a b ≡ k.due a b) ⊎ ((a ≡ s) × (b ≡ here)))
        → AnyOf P (left k.due s here ms a b) ⊎ ((x : CommitMsg V) × (P x × ((here ≡ b) × (event.From s m ≡ event.From a x))))
    fresh s m ms q (inl z) = inl (subst (λ (l : List (CommitMsg V)). AnyOf P l) (sym z) h)
    fresh s m ms q (inr z) =
        pop s m ms q z.0 z.1 (subst (λ (l : List (CommitMsg V)). AnyOf P l) (ap (λ (j : ℕ). k.due j b) z.0 ∙ (ap (λ (j : ℕ). k.due s j) z.1 ∙ q)) h)

    sum : (x : GroupEvent V) (D : Type 0) → (AnyOf P (d a b) → D) → AnyOf P (d a b) ⊎ ((m : CommitMsg V) × (P m × ((here ≡ b) × (x ≡ event.From a m))))
        → D ⊎ ((m : CommitMsg V) × (P m × ((here ≡ b) × (x ≡ event.From a m))))
    sum x D f (inl y) = inl (f y)
    sum x D f (inr y) = inr y

    go : (x : GroupEvent V) → MayMove g k here x d → (AnyOf P (d a b) → AnyOf P ((move g k here e d).due a b))
        → AnyOf P ((move g k here e d).due a b) ⊎ ((m : CommitMsg V) × (P m × ((here ≡ b) × (x ≡ event.From a m))))
    go event.Tick y f = inl (f (subst (λ (z : ℕ → ℕ → List (CommitMsg V)). AnyOf P (z a b)) (sym y) h))
    go (event.From s m) y f =
        sum (event.From s m) _ f
        (subst (λ (z : ℕ → ℕ → List (CommitMsg V)). AnyOf P (z a b) ⊎ ((x : CommitMsg V) × (P x × ((here ≡ b) × (event.From s m ≡ event.From a x)))))
        (sym y.4) (fresh s m y.2 y.3 (left-cases k.due s here y.2 a b)))
    go _ y f = absurd y

-- a fact that is kept holds after each part of a pass
pub kept-deliver : {V : Type 0} (g : Group V) (P : Calm V → Type 0) → IsKept g P → (a b : ℕ) → a < g.members → b < g.members → a ≢ b
    → (ds : List (CommitMsg V)) (k : Calm V) → k.due a b ≡ ds → P k → P (first_delivered g k a b ds)
kept-deliver g P kept a b la lb n [] k e p = p
kept-deliver g P kept a b la lb n (m ∷ ms) k e p = kept k b (event.From a m) (left k.due a b ms) (record { member = lb; may = (la, n, ms, e, refl) }) p

pub kept-turn_by : {V : Type 0} (g : Group V) (P : Calm V → Type 0) → IsKept g P → (a b : ℕ) → a < g.members → b < g.members → a ≢ b
    → (ds : List (CommitMsg V)) (k : Calm V) → P k → P (turn_by g a b ds k)
kept-turn_by g P kept a b la lb n [] k p = p
kept-turn_by g P kept a b la lb n (m ∷ ms) k p =
    kept-turn_by g P kept a b la lb n ms (deliver_first g a b k) (kept-deliver g P kept a b la lb n (k.due a b) k refl p)

pub kept-ticks : {V : Type 0} (g : Group V) (P : Calm V → Type 0) → IsKept g P → (is : List ℕ) → AllBelow g.members is → (k : Calm V) → P k
    → P (group_ticks g is k)
kept-ticks g P kept [] l k p = p
kept-ticks g P kept (i ∷ is) l k p = kept-ticks g P kept is l.1 (ticked g i k) (kept k i event.Tick k.due (record { member = l.0; may = refl }) p)

pub kept-turns : {V : Type 0} (g : Group V) (P : Calm V → Type 0) → IsKept g P → (ps : List (ℕ × ℕ)) → AllPairs g.members ps → (k : Calm V) → P k
    → P (group_turns g ps k)
kept-turns g P kept [] l k p = p
kept-turns g P kept (x ∷ xs) l k p = kept-turns g P kept xs l.1 (group_turn g x.0 x.1 k) (kept-turn_by g P kept x.0 x.1 l.0.0 l.0.1 l.0.2 (k.due x.0 x.1) k p)

pub kept-pass : {V : Type 0} (g : Group V) (o : Order) → IsFull g.members o → (P : Calm V → Type 0) → IsKept g P → (k : Calm V) → P k → P (group_pass g o k)
kept-pass g o full P kept k p = kept-turns g P kept o.pairs full.among (group_ticks g o.ticks k) (kept-ticks g P kept o.ticks full.members k p)

pub kept-passes : {V : Type 0} (g : Group V) (P : Calm V → Type 0) → IsKept g P → (os : List Order) → AllFull g.members os → (k : Calm V) → P k
    → P (group_passes g os k)
kept-passes g P kept [] f k p = p
kept-passes g P kept (o ∷ os) f k p = kept-passes g P kept os f.1 (group_pass g o k) (kept-pass g o f.0 P kept k p)
