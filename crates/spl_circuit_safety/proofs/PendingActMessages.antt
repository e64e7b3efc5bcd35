-- What holds of all forwarded and returned acts beside the cells, and that each step keeps it.
use Rattle.std.{specs.Prelude.is_some, proofs.Common.{◌≡◌, ◌≢◌, ℕ, ◌⊎◌, true, refl, sym, subst, ◌∙◌, inl, inr}}
use Rattle.spl_agree.specs.{Member.found, declared.{message.CommitMsg.CommitMsg, reason.Reason.Reason}}
use Rattle.spl_agree.specs.declared.message.CommitMsg.TheVariants as msg
use Rattle.spl_circuit.specs.{Nodes.NodeId, Rules.admin, Equality.same_act_key, declared.{act.Act.Act, definition.Definition.Definition}}
use Rattle.spl_circuit_safety.{specs.Agreement.is_proposal, proofs.{GroupOfDefinition.{GroupMessage, Ever, IsOne}, CoupledSteps.Past, PendingActLists.Among}}
use Rattle.spl_circuit_safety.proofs.{PendingActLists.{key-back, keys-one, single-one, both-not}, PendingActsDue.{IsOther, Forwards}, PendingActCells.View}
use Rattle.spl_circuit_safety.proofs.PendingActCells.{Sight, Sees, sees_is, Settled, settled-not, settled-key, Returns, IsTidy, WhySettled, Grows}

-- wherever this cell is bound to e, the key of the act is settled there
abbrev pub SettledAt : (NodeId → Sight) → NodeId → Definition → Act → Type 0
SettledAt see k e u = (w : View) → see k ≡ Sees e w → Settled w u

-- who forwards was bound, and to whose coordinator it does; for a vote or a removal that one was bound too
abbrev pub WasBound : Past → NodeId → NodeId → ℕ → Act → Type 0
WasBound past n k g u = (e : Definition) × Ever n e past × (e.generation ≡ g) × (k ≡ admin e) × (IsOther u → Ever (admin e) e past)

-- a forwarded act is pending at its node, or settled there and at the coordinator
abbrev pub IsKept : (NodeId → Sight) → Definition → View → Act → Type 0
IsKept see e w u = Among u w.pending ⊎ (Settled w u × (IsOther u → SettledAt see (admin e) e u))

-- who returns an act has settled it
abbrev pub WasSettled : Past → (NodeId → Sight) → NodeId → ℕ → Act → Type 0
WasSettled past see n g u = (e : Definition) × Ever n e past × (e.generation ≡ g) × SettledAt see n e u

-- two acts are one, or one of them is settled
abbrev pub IsOneOf : View → Act → Act → Type 0
IsOneOf w u v = (u ≡ v) ⊎ (Settled w u ⊎ Settled w v)

pub record IsFew (past : Past) (see : NodeId → Sight) (said : GroupMessage Act → Type 0) : Type 0 where
  pub tidy : (n : NodeId) (e : Definition) (w : View) → see n ≡ Sees e w → IsTidy past said n e w
  pub own : (n k : NodeId) (g : ℕ) (u : Act) → Forwards said n k g u → u.node ≡ n
  pub first : (n k : NodeId) (g : ℕ) (u : Act) → Forwards said n k g u → is_proposal u.kind ≡ true → u.turn ≡ 1
  pub bound : (n k : NodeId) (g : ℕ) (u : Act) → Forwards said n k g u → WasBound past n k g u
  -- a node forwards one act of each key
  pub one : (n k k2 : NodeId) (g : ℕ) (u v : Act) → Forwards said n k g u → Forwards said n k2 g v → same_act_key u v ≡ true → u ≡ v
  pub kept : (n k : NodeId) (g : ℕ) (u : Act) → Forwards said n k g u → (e : Definition) (w : View) → see n ≡ Sees e w → e.generation ≡ g → IsKept see e w u
  -- of the votes and removals that a node has forwarded to a coordinator, at most one isn't settled there
  pub few : (n k : NodeId) (g : ℕ) (u v : Act) → Forwards said n k g u → Forwards said n k g v → IsOther u → IsOther v → (d : Definition) (w : View)
      → see k ≡ Sees d w → d.generation ≡ g → k ≡ admin d → IsOneOf w u v
  pub back : (n k : NodeId) (g : ℕ) (u : Act) (why : Reason) → Returns said n k g u why → IsOther u → WasSettled past see n g u

-- a bound cell was bound before, and goes on; or was bound to nothing of this generation
abbrev pub CameFrom : Past → (NodeId → Sight) → (GroupMessage Act → Type 0) → NodeId → Definition → View → Type 0
CameFrom past see said k e w2 = ((w : View) × (see k ≡ Sees e w) × Grows said k e w w2) ⊎ ((f : Definition) → Ever k f past → f.generation ≢ e.generation)

-- a new message: what is forwarded is pending at its node, and what is returned is settled there or a proposal
abbrev pub IsNews : (NodeId → Sight) → NodeId → NodeId → CommitMsg Act → Type 0
IsNews see from to (msg.Forward g u) =
    (e : Definition) × (w : View) × (see from ≡ Sees e w) × (e.generation ≡ g) × (to ≡ admin e) × (from ≢ admin e) × Among u w.pending
IsNews see from to (msg.Refused g u why) =
    (is_proposal u.kind ≡ true) ⊎ ((e : Definition) × (w : View) × (see from ≡ Sees e w) × (e.generation ≡ g) × Settled w u)
IsNews see from to _ = Unit {0}

-- a step
pub record IsStep (past past2 : Past) (see see2 : NodeId → Sight) (said said2 : GroupMessage Act → Type 0) : Type 0 where
  pub ever : (k : NodeId) (f : Definition) → Ever k f past → Ever k f past2
  pub law : IsOne past2
  pub bound : (k : NodeId) (e : Definition) (w : View) → see2 k ≡ Sees e w → Ever k e past2
  pub before : (k : NodeId) (e : Definition) (w2 : View) → see2 k ≡ Sees e w2 → CameFrom past see said k e w2
  -- what is committed at a member is at the coordinator
  pub prefix : (k : NodeId) (e : Definition) (w w3 : View) (u : Act) → see2 k ≡ Sees e w → see2 (admin e) ≡ Sees e w3
      → is_some (found (same_act_key u) w.done) ≡ true → is_some (found (same_act_key u) w3.done) ≡ true
  pub news : (l : GroupMessage Act) → said2 l → said l ⊎ IsNews see2 l.from l.to l.body
  pub tidy : (n : NodeId) (e : Definition) (w : View) → see2 n ≡ Sees e w → IsTidy past2 said2 n e w

-- what is settled stays so
pub later : (past past2 : Past) (see see2 : NodeId → Sight) (said said2 : GroupMessage Act → Type 0) → IsStep past past2 see see2 said said2
    → (k : NodeId) (e : Definition) (u : Act) → Ever k e past → SettledAt see k e u → SettledAt see2 k e u
later past past2 see see2 said said2 s k e u h old w2 is = go (s.before k e w2 is)
  where
    go : CameFrom past see said k e w2 → Settled w2 u
    go (inl x) = x.2.settled u (old x.0 x.1)
    go (inr x) = absurd (x e h refl)

-- a message that was sent, where its node is bound
pub kept-old : (past past2 : Past) (see see2 : NodeId → Sight) (said said2 : GroupMessage Act → Type 0) → IsStep past past2 see see2 said said2
    → IsFew past see said → (n k : NodeId) (g : ℕ) (u : Act) → Forwards said n k g u → (e : Definition) (w2 : View) → see2 n ≡ Sees e w2 → e.generation ≡ g
    → IsKept see2 e w2 u
kept-old past past2 see see2 said said2 s few n k g u sent e w2 is gen = go (s.before n e w2 is)
  where
    was : WasBound past n k g u
    was = few.bound n k g u sent

    same : was.0 ≡ e
    same = s.law n was.0 e (s.ever n was.0 was.1) (s.bound n e w2 is) (was.2 ∙ sym gen)

    led : IsOther u → Ever (admin e) e past
    led o = subst (λ (f : Definition). Ever (admin f) f past) same (was.4 o)

    returned : IsOther u → WasSettled past see (admin e) e.generation u → SettledAt see2 (admin e) e u
    returned o x =
        let it : x.0 ≡ e = s.law (admin e) x.0 e (s.ever (admin e) x.0 x.1) (s.ever (admin e) e (led o)) x.2 in
        later past past2 see see2 said said2 s (admin e) e u (led o) (subst (λ (f : Definition). SettledAt see (admin e) f u) it x.3)

    there : Settled w2 u → WhySettled said n e w2 u → IsOther u → SettledAt see2 (admin e) e u
    there x (inl c) o = λ w3 is3. inl (s.prefix n e w2 w3 u is is3 c)
    there x (inr (inl c)) o =
        λ w3 is3. subst (λ (w : View). Settled w u) (sees_is e e w2 w3 (sym is ∙ subst (λ (z : NodeId). see2 z ≡ Sees e w3) (sym c) is3)).1 x
    there x (inr (inr c)) o = returned o (few.back (admin e) n e.generation u c.0 c.1 o)

    pending : Among u w2.pending ⊎ (Settled w2 u × WhySettled said n e w2 u) → IsKept see2 e w2 u
    pending (inl x) = inl x
    pending (inr x) = inr (x.0, there x.0 x.1)

    grown : (w : View) → Grows said n e w w2 → IsKept see e w u → IsKept see2 e w2 u
    grown w g (inl x) = pending (g.pending u x)
    grown w g (inr x) = inr (g.settled u x.0, λ o. later past past2 see see2 said said2 s (admin e) e u (led o) (x.1 o))

    go : CameFrom past see said n e w2 → IsKept see2 e w2 u
    go (inl x) = grown x.0 x.2 (few.kept n k g u sent e x.0 x.1 gen)
    go (inr x) = absurd (x was.0 was.1 (was.2 ∙ sym gen))

-- a new message is pending where its node is bound
pub kept-new : (see2 : NodeId → Sight) (n k : NodeId) (g : ℕ) (u : Act) → IsNews see2 n k (msg.Forward g u) → (e : Definition) (w2 : View)
    → see2 n ≡ Sees e w2 → Among u w2.pending
kept-new see2 n k g u new e w2 is = subst (λ (w : View). Among u w.pending) (sees_is new.0 e new.1 w2 (sym new.2 ∙ is)).1 new.6

-- any message
pub kept-any : (past past2 : Past) (see see2 : NodeId → Sight) (said said2 : GroupMessage Act → Type 0) → IsStep past past2 see see2 said said2
    → IsFew past see said → (n k : NodeId) (g : ℕ) (u : Act) → Forwards said n k g u ⊎ IsNews see2 n k (msg.Forward g u) → (e : Definition) (w2 : View)
    → see2 n ≡ Sees e w2 → e.generation ≡ g → IsKept see2 e w2 u
kept-any past past2 see see2 said said2 s few n k g u (inl x) e w2 is gen = kept-old past past2 see see2 said said2 s few n k g u x e w2 is gen
kept-any past past2 see see2 said said2 s few n k g u (inr x) e w2 is gen = inl (kept-new see2 n k g u x e w2 is)

-- of one key with what is pending
pub one-pending : (past : Past) (see : NodeId → Sight) (said : GroupMessage Act → Type 0) (n : NodeId) (e : Definition) (w : View) (u v : Act)
    → IsTidy past said n e w → Among u w.pending → IsKept see e w v → same_act_key u v ≡ true → u ≡ v
one-pending past see said n e w u v t h (inl k) q = keys-one u v w.pending t.keys h k q
one-pending past see said n e w u v t h (inr k) q = absurd (settled-not w u (settled-key w v u (key-back u v q) k.0) (t.unsettled u h))

-- a step keeps all
pub few-step : (past past2 : Past) (see see2 : NodeId → Sight) (said said2 : GroupMessage Act → Type 0) → IsStep past past2 see see2 said said2
    → IsFew past see said → IsFew past2 see2 said2
few-step past past2 see see2 said said2 s f = record {
  tidy = s.tidy;
  own = λ n k g u x. own n k g u (news n k g u x);
  first = λ n k g u x. first n k g u (news n k g u x);
  bound = λ n k g u x. bound n k g u (news n k g u x);
  one = λ n k k2 g u v x y. one n k k2 g u v (news n k g u x) (news n k2 g v y);
  kept = λ n k g u x. kept-any past past2 see see2 said said2 s f n k g u (news n k g u x);
  few = λ n k g u v x y p q. few n k g u v (news n k g u x) (news n k g v y) p q;
  back = λ n k g u why x o. back n k g u why o (s.news (record { from = n; to = k; body = msg.Refused g u why }) x);
}
  where
    news : (n k : NodeId) (g : ℕ) (u : Act) → Forwards said2 n k g u → Forwards said n k g u ⊎ IsNews see2 n k (msg.Forward g u)
    news n k g u x = s.news (record { from = n; to = k; body = msg.Forward g u }) x

    own : (n k : NodeId) (g : ℕ) (u : Act) → Forwards said n k g u ⊎ IsNews see2 n k (msg.Forward g u) → u.node ≡ n
    own n k g u (inl x) = f.own n k g u x
    own n k g u (inr x) = (s.tidy n x.0 x.1 x.2).own x.5 u x.6

    first : (n k : NodeId) (g : ℕ) (u : Act) → Forwards said n k g u ⊎ IsNews see2 n k (msg.Forward g u) → is_proposal u.kind ≡ true → u.turn ≡ 1
    first n k g u (inl x) = f.first n k g u x
    first n k g u (inr x) = (s.tidy n x.0 x.1 x.2).first u x.6

    bound : (n k : NodeId) (g : ℕ) (u : Act) → Forwards said n k g u ⊎ IsNews see2 n k (msg.Forward g u) → WasBound past2 n k g u
    bound n k g u (inl x) = let b : WasBound past n k g u = f.bound n k g u x in (b.0, s.ever n b.0 b.1, b.2, b.3, λ o. s.ever (admin b.0) b.0 (b.4 o))
    bound n k g u (inr x) = (x.0, s.bound n x.0 x.1 x.2, x.3, x.4, λ o. (s.tidy n x.0 x.1 x.2).lively u x.6 o)

    one : (n k k2 : NodeId) (g : ℕ) (u v : Act) → Forwards said n k g u ⊎ IsNews see2 n k (msg.Forward g u)
        → Forwards said n k2 g v ⊎ IsNews see2 n k2 (msg.Forward g v) → same_act_key u v ≡ true → u ≡ v
    one n k k2 g u v (inl x) (inl y) q = f.one n k k2 g u v x y q
    one n k k2 g u v (inr x) y q =
        one-pending past2 see2 said2 n x.0 x.1 u v (s.tidy n x.0 x.1 x.2) x.6 (kept-any past past2 see see2 said said2 s f n k2 g v y x.0 x.1 x.2 x.3) q
    one n k k2 g u v (inl x) (inr y) q =
        sym (one-pending past2 see2 said2 n y.0 y.1 v u (s.tidy n y.0 y.1 y.2) y.6
        (kept-any past past2 see see2 said said2 s f n k g u (inl x) y.0 y.1 y.2 y.3) (key-back u v q))

    -- one of two messages is new
    beside : (n k : NodeId) (g : ℕ) (u v : Act) → IsNews see2 n k (msg.Forward g u) → Forwards said n k g v ⊎ IsNews see2 n k (msg.Forward g v) → IsOther u
        → IsOther v → (d : Definition) (w : View) → see2 k ≡ Sees d w → d.generation ≡ g → (u ≡ v) ⊎ Settled w v
    beside n k g u v x y p q d w is gen = go (kept-any past past2 see see2 said said2 s f n k g v y x.0 x.1 x.2 x.3)
      where
        tidy : IsTidy past2 said2 n x.0 x.1
        tidy = s.tidy n x.0 x.1 x.2

        same : x.0 ≡ d
        same = s.law k x.0 d (subst (λ (z : NodeId). Ever z x.0 past2) (sym x.4) (tidy.lively u x.6 p)) (s.bound k d w is) (x.3 ∙ sym gen)

        at_lead : see2 (admin x.0) ≡ Sees x.0 w
        at_lead = subst (λ (z : NodeId). see2 z ≡ Sees x.0 w) x.4 (subst (λ (z : Definition). see2 k ≡ Sees z w) (sym same) is)

        go : IsKept see2 x.0 x.1 v → (u ≡ v) ⊎ Settled w v
        go (inl h) = inl (single-one n u v x.1.pending tidy.single x.6 h (own n k g u (inr x)) (own n k g v y))
        go (inr h) = inr (h.1 q w at_lead)

    few : (n k : NodeId) (g : ℕ) (u v : Act) → Forwards said n k g u ⊎ IsNews see2 n k (msg.Forward g u)
        → Forwards said n k g v ⊎ IsNews see2 n k (msg.Forward g v) → IsOther u → IsOther v → (d : Definition) (w : View) → see2 k ≡ Sees d w
        → d.generation ≡ g → k ≡ admin d → IsOneOf w u v
    few n k g u v (inr x) y p q d w is gen lead = go (beside n k g u v x y p q d w is gen)
      where
        go : (u ≡ v) ⊎ Settled w v → IsOneOf w u v
        go (inl h) = inl h
        go (inr h) = inr (inr h)
    few n k g u v (inl x) (inr y) p q d w is gen lead = go (beside n k g v u y (inl x) q p d w is gen)
      where
        go : (v ≡ u) ⊎ Settled w u → IsOneOf w u v
        go (inl h) = inl (sym h)
        go (inr h) = inr (inl h)
    few n k g u v (inl x) (inl y) p q d w is gen lead = go (s.before k d w is)
      where
        was : WasBound past n k g u
        was = f.bound n k g u x

        more : (w0 : View) → Grows said k d w0 w → IsOneOf w0 u v → IsOneOf w u v
        more w0 z (inl h) = inl h
        more w0 z (inr (inl h)) = inr (inl (z.settled u h))
        more w0 z (inr (inr h)) = inr (inr (z.settled v h))

        go : CameFrom past see said k d w → IsOneOf w u v
        go (inl z) = more z.0 z.2 (f.few n k g u v x y p q d z.0 z.1 gen lead)
        go (inr z) = absurd (z was.0 (subst (λ (m : NodeId). Ever m was.0 past) (sym was.3) (was.4 p)) (was.2 ∙ sym gen))

    back : (n k : NodeId) (g : ℕ) (u : Act) (why : Reason) → IsOther u → Returns said n k g u why ⊎ IsNews see2 n k (msg.Refused g u why)
        → WasSettled past2 see2 n g u
    back n k g u why o (inl x) =
        let b : WasSettled past see n g u = f.back n k g u why x o in (b.0, s.ever n b.0 b.1, b.2, later past past2 see see2 said said2 s n b.0 u b.1 b.3)
    back n k g u why o (inr (inl x)) = absurd (both-not (is_proposal u.kind) x o)
    back n k g u why o (inr (inr x)) = (x.0, s.bound n x.0 x.1 x.2, x.3, λ w is. subst (λ (z : View). Settled z u) (sees_is x.0 x.0 x.1 w (sym x.2 ∙ is)).1 x.4)
