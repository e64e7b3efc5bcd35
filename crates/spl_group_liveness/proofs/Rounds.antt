-- What is sent in a round, and what comes of it.
use Rattle.std.{specs.Prelude.{Option, Some, None, ◌==◌, nat_lt}, proofs.Common.{◌≡◌, ◌≢◌, ℕ, ◌<◌, ◌≤◌, ◌⊎◌, Bool, true, false, not, ◌&&◌, List, [], ◌∷◌}}
use Rattle.std.proofs.Common.{length, refl, sym, ap, subst, ◌∙◌, inl, inr, arith}
use Rattle.spl_agree.specs.{Member.{Group, Member, has_round, others, has, but, is_open, none_left}, Rows.{row, member_tick, coordinator_tick, ask_again}}
use Rattle.spl_agree.specs.{Rows.{requested, fits_here, told, decided, on_vote, counted_vote, commit_open, abort_open}, World.after}
use Rattle.spl_agree.{specs.declared.{message.CommitMsg.CommitMsg, plan.GroupPlan.GroupPlan}, proofs.Tests.{if_holds, if_true, if_false, eqb_other, eqb_same}}
use Rattle.spl_agree.proofs.Tests.{ltb_is, ltb_not, and_right}
use Rattle.spl_agree.specs.declared.message.CommitMsg.TheVariants as msg
use Rattle.spl_agree.specs.declared.event.GroupEvent.TheVariants as event
use Rattle.spl_group_liveness.{specs.{Bound.AnyOf, Calm.mail}, proofs.{Live.missing_of, Lists.{mail-each, has-but-same}}}

-- which messages are waited for
abbrev pub IsAsking : {V : Type 0} → ℕ → ℕ → CommitMsg V → Type 0
IsAsking gen q m = m ≡ msg.DecisionRequest gen q

abbrev pub IsAnswer : {V : Type 0} → ℕ → ℕ → CommitMsg V → Type 0
IsAnswer gen q m = (commit : Bool) × (m ≡ msg.Decision gen q commit)

abbrev pub IsRequest : {V : Type 0} → ℕ → ℕ → CommitMsg V → Type 0
IsRequest {V} gen r m = (place : ℕ) × (v : V) × (m ≡ msg.VoteRequest gen r place v)

abbrev pub IsVote : {V : Type 0} → ℕ → ℕ → CommitMsg V → Type 0
IsVote gen r m = (aye : Bool) × (m ≡ msg.Vote gen r aye)

-- no promise, or one of this round
abbrev pub FreeOf : {V : Type 0} → ℕ → Member V → Type 0
FreeOf {V} r m = (m.promise ≡ None) ⊎ ((u : V) × (m.promise ≡ Some (r, u)))

-- one message to one position
pub mail-one : {V : Type 0} (P : CommitMsg V → Type 0) (to : ℕ) (m : CommitMsg V) → P m → AnyOf P (mail to ((to, m) ∷ []))
mail-one P to m p = if_true (λ x. AnyOf P x) (to == to) _ _ (eqb_same to) (inl p)

-- a member with a promise asks the coordinator
pub tick-asks : {V : Type 0} (g : Group V) (here : ℕ) (m : Member V) (q : ℕ) (u : V) → here ≢ g.coordinator → m.promise ≡ Some (q, u)
    → AnyOf (IsAsking g.generation q) (mail g.coordinator (row g here m event.Tick).sends)
tick-asks {V} g here m q u n p =
    if_false (λ (x : GroupPlan V). AnyOf (IsAsking g.generation q) (mail g.coordinator x.sends)) (here == g.coordinator) _ _
    (eqb_other here g.coordinator n) (go m.promise p)
  where
    go : (o : Option (ℕ × V)) → o ≡ Some (q, u) → AnyOf (IsAsking g.generation q) (mail g.coordinator (member_tick g m o).sends)
    go None e = absurd (let z : ◌≡◌ {A = Option (ℕ × V)} None (Some (q, u)) = e in cc)
    go (Some x) e =
        mail-one (IsAsking g.generation q) g.coordinator (msg.DecisionRequest g.generation x.0)
        (ap (λ (j : ℕ). msg.DecisionRequest g.generation j) (let z : ◌≡◌ {A = ℕ × V} x (q, u) = cc in ap (λ (y : ℕ × V). y.0) z))

-- the coordinator reports of a round that is not open
pub lead-tells : {V : Type 0} (g : Group V) (m : Member V) (i q r : ℕ) (missing : List ℕ) → m.opened ≡ Some (r, missing) → q ≢ r → q < m.next
    → has i (others g g.coordinator) ≡ true
    → AnyOf (IsAnswer g.generation q) (mail i (row g g.coordinator m (event.From i (msg.DecisionRequest g.generation q))).sends)
lead-tells {V} g m i q r missing o n l h =
    if_true (λ (x : GroupPlan V). AnyOf (IsAnswer g.generation q) (mail i x.sends)) (g.coordinator == g.coordinator && has i (others g g.coordinator)) _ _
    (rw (eqb_same g.coordinator) h)
    (if_holds D (has_round q m.history) _ _ (λ t. known true) (λ t. if_true D (nat_lt q m.next && not (is_open q m.opened)) _ _ both (known false)))
  where
    D : Option Bool → Type 0
    D = λ d. AnyOf (IsAnswer {V = V} g.generation q) (mail i (told g.generation d i q).sends)

    known : (commit : Bool) → D (Some commit)
    known commit = mail-one (IsAnswer g.generation q) i (msg.Decision g.generation q commit) (commit, refl)

    below_next : (b : Bool) → nat_lt q m.next ≡ b → b ≡ true
    below_next true e = refl
    below_next false e = absurd (let z : m.next ≤ q = ltb_not q m.next e in omega (arith, z))

    both : (nat_lt q m.next && not (is_open q m.opened)) ≡ true
    both = rw (below_next (nat_lt q m.next) refl) (rw o (rw (eqb_other r q (λ e. n (sym e)))))

-- a decision ends a promise
pub decided-free : {V : Type 0} (g : Group V) (here : ℕ) (m : Member V) (q : ℕ) (u : V) (commit : Bool) → m.promise ≡ Some (q, u)
    → (after g here m (row g here m (event.From g.coordinator (msg.Decision g.generation q commit)))).promise ≡ None
decided-free {V} g here m q u commit p =
    if_true (λ (x : GroupPlan V). (after g here m x).promise ≡ None) (g.coordinator == g.coordinator) _ _ (eqb_same g.coordinator) (go m.promise commit p)
  where
    round : (x : ℕ × V) → Some x ≡ Some (q, u) → x.0 ≡ q
    round x e = let z : ◌≡◌ {A = ℕ × V} x (q, u) = cc in ap (λ (y : ℕ × V). y.0) z

    go : (o : Option (ℕ × V)) (b : Bool) → o ≡ Some (q, u) → (after g here m (decided o q b)).promise ≡ None
    go None b e = absurd (let z : ◌≡◌ {A = Option (ℕ × V)} None (Some (q, u)) = e in cc)
    go (Some x) true e = if_true (λ (y : GroupPlan V). (after g here m y).promise ≡ None) (x.0 == q) _ _ (rw (round x e) (eqb_same q)) refl
    go (Some x) false e = if_true (λ (y : GroupPlan V). (after g here m y).promise ≡ None) (x.0 == q) _ _ (rw (round x e) (eqb_same q)) refl

-- the coordinator asks each that has not voted yes
pub tick-requests : {V : Type 0} (g : Group V) (m : Member V) (i r : ℕ) (missing : List ℕ) (v : V) (rest : List V) → m.opened ≡ Some (r, missing)
    → m.pending ≡ v ∷ rest → has i missing ≡ true → AnyOf (IsRequest g.generation r) (mail i (row g g.coordinator m event.Tick).sends)
tick-requests {V} g m i r missing v rest o p h = if_true D (g.coordinator == g.coordinator) _ _ (eqb_same g.coordinator) (by_open m.opened o)
  where
    D : GroupPlan V → Type 0
    D = λ x. AnyOf (IsRequest g.generation r) (mail i x.sends)

    by_pending : (x : ℕ × List ℕ) (us : List V) → x.0 ≡ r → x.1 ≡ missing → us ≡ v ∷ rest → D (ask_again g g.coordinator m x us)
    by_pending x [] a b e = absurd (let z : ◌≡◌ {A = List V} [] (v ∷ rest) = e in cc)
    by_pending x (u ∷ us) a b e =
        mail-each (IsRequest g.generation r) (msg.VoteRequest g.generation x.0 (length m.history) u) i x.1
        (length m.history, u, ap (λ (j : ℕ). msg.VoteRequest g.generation j (length m.history) u) a) (subst (λ (xs : List ℕ). has i xs ≡ true) (sym b) h)

    by_open : (x : Option (ℕ × List ℕ)) → x ≡ Some (r, missing) → D (coordinator_tick g g.coordinator m x)
    by_open None e = absurd (let z : ◌≡◌ {A = Option (ℕ × List ℕ)} None (Some (r, missing)) = e in cc)
    by_open (Some x) e =
        let z : ◌≡◌ {A = ℕ × List ℕ} x (r, missing) = cc in by_pending x m.pending (ap (λ (y : ℕ × List ℕ). y.0) z) (ap (λ (y : ℕ × List ℕ). y.1) z) p

-- a member that has no other promise votes
pub member-votes : {V : Type 0} (g : Group V) (here : ℕ) (m : Member V) (r place : ℕ) (u : V) → FreeOf r m → m.seen ≤ r → has_round r m.history ≡ false
    → AnyOf (IsVote g.generation r) (mail g.coordinator (row g here m (event.From g.coordinator (msg.VoteRequest g.generation r place u))).sends)
member-votes {V} g here m r place u free heard new =
    if_true D (g.coordinator == g.coordinator) _ _ (eqb_same g.coordinator) (go m.promise (of m.promise refl free))
  where
    D : GroupPlan V → Type 0
    D = λ x. AnyOf (IsVote g.generation r) (mail g.coordinator x.sends)

    votes : (aye : Bool) → AnyOf (IsVote {V = V} g.generation r) (mail g.coordinator ((g.coordinator, msg.Vote g.generation r aye) ∷ []))
    votes aye = mail-one (IsVote g.generation r) g.coordinator (msg.Vote g.generation r aye) (aye, refl)

    of : (o : Option (ℕ × V)) → m.promise ≡ o → FreeOf r m → (o ≡ None) ⊎ ((w : V) × (o ≡ Some (r, w)))
    of o e (inl x) = inl (sym e ∙ x)
    of o e (inr x) = inr (x.0, sym e ∙ x.1)

    round : (x : ℕ × V) → (Some x ≡ None) ⊎ ((w : V) × (Some x ≡ Some (r, w))) → x.0 ≡ r
    round x (inl e) = absurd (let z : ◌≡◌ {A = Option (ℕ × V)} (Some x) None = e in cc)
    round x (inr e) = let y : ◌≡◌ {A = Option (ℕ × V)} (Some x) (Some (r, e.0)) = e.1 in let z : ◌≡◌ {A = ℕ × V} x (r, e.0) = cc in ap (λ (t : ℕ × V). t.0) z

    go : (o : Option (ℕ × V)) → (o ≡ None) ⊎ ((w : V) × (o ≡ Some (r, w))) → D (requested g m o g.coordinator r place u)
    go (Some x) f = if_true D (x.0 == r) _ _ (rw (round x f) (eqb_same r)) (votes true)
    go None f =
        if_holds D (nat_lt r m.seen) _ _ (λ q. absurd (let z : r < m.seen = ltb_is r m.seen q in omega (arith, z))) (λ q.
        if_holds D (r == m.seen && has_round r m.history) _ _
        (λ t. absurd (let z : has_round r m.history ≡ true = and_right (r == m.seen) (has_round r m.history) t in
        let y : has_round r m.history ≡ false = new in cc)) (λ t.
        if_holds D (r == m.seen) _ _ (λ s. votes false) (λ s.
        if_holds D (fits_here g.rules m.history place u) _ _ (λ f. votes true) (λ f. votes false))))

-- a vote is counted, or ends the round
pub vote-counts : {V : Type 0} (g : Group V) (m : Member V) (i r : ℕ) (missing : List ℕ) (v : V) (rest : List V) (aye : Bool)
    → m.opened ≡ Some (r, missing) → m.pending ≡ v ∷ rest → has i (others g g.coordinator) ≡ true
    → has i (missing_of (after g g.coordinator m (row g g.coordinator m (event.From i (msg.Vote g.generation r aye)))).opened) ≡ false
vote-counts {V} g m i r missing v rest aye o p h = by_open m.opened aye o refl
  where
    D : GroupPlan V → Type 0
    D = λ x. has i (missing_of (after g g.coordinator m x).opened) ≡ false

    by_commit : (us : List V) → us ≡ v ∷ rest → D (commit_open g g.coordinator r us)
    by_commit [] e = absurd (let z : ◌≡◌ {A = List V} [] (v ∷ rest) = e in cc)
    by_commit (u ∷ us) e = refl

    by_abort : (us : List V) → us ≡ v ∷ rest → D (abort_open g g.coordinator r us)
    by_abort [] e = absurd (let z : ◌≡◌ {A = List V} [] (v ∷ rest) = e in cc)
    by_abort (u ∷ us) e = refl

    counted : (xs : List ℕ) (b : Bool) → m.opened ≡ Some (r, xs) → D (counted_vote g g.coordinator m i r xs b)
    counted xs true e = if_holds D (has i (others g g.coordinator) && has i xs) _ _
        (λ t. if_holds D (none_left (but i xs)) _ _ (λ s. by_commit m.pending p) (λ s. rw e (has-but-same i xs)))
        (λ t. rw e (let z : (true && has i xs) ≡ false = rw h at t in z))
    counted xs false e = if_true D (has i (others g g.coordinator)) _ _ h (by_abort m.pending p)

    by_open : (x : Option (ℕ × List ℕ)) (b : Bool) → x ≡ Some (r, missing) → m.opened ≡ x → D (on_vote g g.coordinator m x i r b)
    by_open None b e t = absurd (let z : ◌≡◌ {A = Option (ℕ × List ℕ)} None (Some (r, missing)) = e in cc)
    by_open (Some x) b e t = let z : ◌≡◌ {A = ℕ × List ℕ} x (r, missing) = cc in let a : x.0 ≡ r = ap (λ (y : ℕ × List ℕ). y.0) z in
        if_true D (g.coordinator == g.coordinator && x.0 == r) _ _ (rw (eqb_same g.coordinator) (rw a (eqb_same r)))
        (counted x.1 b (t ∙ ap (λ (j : ℕ). Some (j, x.1)) a))
