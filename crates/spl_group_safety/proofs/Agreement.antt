-- Each happening keeps the agreement.
use Rattle.std.{specs.Prelude.{Option, Some, None, ◌==◌, nat_lt, slice_get}, proofs.Common.{◌≡◌, ◌≢◌, ℕ, zero, suc, ◌<◌, ◌≤◌, ◌⊎◌, true, false, not, eqb}}
use Rattle.std.proofs.Common.{List, [], ◌∷◌, ◌++◌, append-nil, refl, sym, ap, subst, ◌∙◌, inl, inr, arith}
use Rattle.spl_agree.specs.{Member.{Group, Member, restarted, has_round, changed_by, moved}, Rows.row, World.{Sent, World, new_world, after, put, posted}}
use Rattle.spl_agree.specs.World.{carried_out, stopped, is_strange_message, is_strange, Happening, Ticks, Expires, Submits, Delivers, Strays, Restarts, acts}
use Rattle.spl_agree.specs.{World.{comes, happens, run, IsPrefixOf, cut_short}, Agreement.{Ballot, Lead, lead, Seat, seat, IsLed, Follows, Told, Said, Was}}
use Rattle.spl_agree.specs.{Agreement.{Agrees, MayCome, MayHappen, IsFresh}, declared.event.{GroupChange.GroupChange, GroupEvent.GroupEvent}}
use Rattle.spl_agree.{specs.declared.{event.OpenMove.OpenMove, message.CommitMsg.CommitMsg, plan.GroupPlan.GroupPlan}, proofs.Tests.{if_holds, eqb_is}}
use Rattle.spl_agree.proofs.Tests.{eqb_not, ltb_is, ltb_not, and_left, and_right, not_true, put-same, put-other, bool_cases}
use Rattle.spl_agree.specs.declared.message.CommitMsg.TheVariants as msg
use Rattle.spl_agree.specs.declared.event.GroupEvent.TheVariants as event
use Rattle.spl_agree.specs.declared.event.OpenMove.TheVariants as move
use Rattle.spl_group_safety.proofs.{Singles.{single-prefix, single-row}, Leads.{Keeps, keeps-closed, follows-closed}, Sends.AllSends, SeatRows.SeatKeeps}
use Rattle.spl_group_safety.proofs.{SeatRows.{Heard, seat-row}, LeadRows.{LeadKeeps, AllFollow, HeardByLead, lead-row}}

-- what is sent after a plan was in it, or was sent before
pub posted-cases : {V : Type 0} (P : CommitMsg V → Type 0) (here : ℕ) (ss : List (ℕ × CommitMsg V)) (sent : List (Sent V)) (s : Sent V) → AllSends P ss
    → Was s (posted here ss ++ sent) → ((s.from ≡ here) × P s.message) ⊎ Was s sent
posted-cases P here [] sent s a w = inr w
posted-cases {V} P here (x ∷ xs) sent s a (inl e) = inl (ap (λ (z : Sent V). z.from) e, subst (λ (z : Sent V). P z.message) (sym e) a.0)
posted-cases P here (x ∷ xs) sent s a (inr w) = posted-cases P here xs sent s a.1 w

-- what holds of the new member at its place, and of the old ones at theirs
pub put_holds : {A : Type 0} (P : ℕ → A → Type 0) (f : ℕ → A) (h : ℕ) (m : A) (i : ℕ) → P h m → (i ≢ h → P i (f i)) → P i (put f h m i)
put_holds {A} P f h m i p q = go (bool_cases (eqb i h))
  where
    go : (eqb i h ≡ true) ⊎ (eqb i h ≡ false) → P i (put f h m i)
    go (inl e) = subst (λ (j : ℕ). P j (put f h m j)) (sym (eqb_is i h e)) (subst (λ (x : A). P h x) (sym (put-same f h m)) p)
    go (inr e) = subst (λ (x : A). P i x) (sym (put-other f h m i (eqb_not i h e))) (q (eqb_not i h e))

-- a member that is not the coordinator changes, and sends
pub agrees-seat : {V : Type 0} (g : Group V) (w : World V) (here : ℕ) (new : Member V) (sends : List (ℕ × CommitMsg V)) → here ≢ g.coordinator
    → Follows (lead (w.at g.coordinator)) (seat new) here
    → ((x : CommitMsg V) → Said (lead (w.at g.coordinator)) (seat (w.at here)) x → Said (lead (w.at g.coordinator)) (seat new) x)
    → AllSends (Said (lead (w.at g.coordinator)) (seat new)) sends → Agrees g w
    → Agrees g (record { at = put w.at here new; sent = posted here sends ++ w.sent })
agrees-seat {V} g w here new sends d follows keeps fresh a = record {
  led = rw same a.led;
  follows = λ i l n. rw same (put_holds (λ j x. Follows L (seat x) j) w.at here new i follows (λ q. a.follows i l n));
  told = λ s was e. rw same (told s e (posted-cases P here sends w.sent s fresh was));
  said = λ s was e. rw same (said s e (posted-cases P here sends w.sent s fresh was));
}
  where
    L : Lead V
    L = lead (w.at g.coordinator)

    P : CommitMsg V → Type 0
    P = Said L (seat new)

    same : put w.at here new g.coordinator ≡ w.at g.coordinator
    same = put-other w.at here new g.coordinator (λ e. d (sym e))

    told : (s : Sent V) → s.from ≡ g.coordinator → ((s.from ≡ here) × P s.message) ⊎ Was s w.sent → Told L s.message
    told s e (inl x) = absurd (d (sym x.0 ∙ e))
    told s e (inr x) = a.told s x e

    mine : (s : Sent V) → s.from ≢ g.coordinator → ((s.from ≡ here) × P s.message) ⊎ Was s w.sent → s.from ≡ here → Said L (seat new) s.message
    mine s e (inl x) q = x.1
    mine s e (inr x) q = keeps s.message (subst (λ (j : ℕ). Said L (seat (w.at j)) s.message) q (a.said s x e))

    theirs : (s : Sent V) → s.from ≢ g.coordinator → ((s.from ≡ here) × P s.message) ⊎ Was s w.sent → s.from ≢ here → Said L (seat (w.at s.from)) s.message
    theirs s e (inl x) n = absurd (n x.0)
    theirs s e (inr x) n = a.said s x e

    said : (s : Sent V) → s.from ≢ g.coordinator → ((s.from ≡ here) × P s.message) ⊎ Was s w.sent → Said L (seat (put w.at here new s.from)) s.message
    said s e x = put_holds (λ j y. s.from ≡ j → Said L (seat y) s.message) w.at here new s.from (λ q. mine s e x q) (λ n q. theirs s e x n) refl

-- the coordinator changes, and sends
pub agrees-lead : {V : Type 0} (g : Group V) (w : World V) (new : Member V) (sends : List (ℕ × CommitMsg V)) → Keeps (lead (w.at g.coordinator)) (lead new)
    → AllFollow g g.coordinator (λ i. seat (w.at i)) (lead new) → AllSends (Told (lead new)) sends → Agrees g w
    → Agrees g (record { at = put w.at g.coordinator new; sent = posted g.coordinator sends ++ w.sent })
agrees-lead {V} g w new sends keeps follow fresh a = record {
  led = rw same keeps.led;
  follows = λ i l n. rw same (rw (put-other w.at g.coordinator new i n) (follow i l n));
  told = λ s was e. rw same (told s e (posted-cases (Told (lead new)) g.coordinator sends w.sent s fresh was));
  said = λ s was e. rw same (rw (put-other w.at g.coordinator new s.from e) (said s e (posted-cases (Told (lead new)) g.coordinator sends w.sent s fresh was)));
}
  where
    same : put w.at g.coordinator new g.coordinator ≡ new
    same = put-same w.at g.coordinator new

    told : (s : Sent V) → s.from ≡ g.coordinator → ((s.from ≡ g.coordinator) × Told (lead new) s.message) ⊎ Was s w.sent → Told (lead new) s.message
    told s e (inl x) = x.1
    told s e (inr x) = keeps.told s.message (a.told s x e)

    said : (s : Sent V) → s.from ≢ g.coordinator → ((s.from ≡ g.coordinator) × Told (lead new) s.message) ⊎ Was s w.sent
        → Said (lead new) (seat (w.at s.from)) s.message
    said s e (inl x) = absurd (e x.0)
    said s e (inr x) = keeps.said (seat (w.at s.from)) s.message (a.said s x e)

pub heard-seat : {V : Type 0} (g : Group V) (w : World V) (here : ℕ) (e : GroupEvent V) → MayHappen g w here e → Heard g (lead (w.at g.coordinator)) e
heard-seat g w here (event.From sender x) h = h.told
heard-seat g w here _ h = tt

pub heard-lead : {V : Type 0} (g : Group V) (w : World V) (e : GroupEvent V) → MayHappen g w g.coordinator e
    → HeardByLead g g.coordinator (λ i. seat (w.at i)) (lead (w.at g.coordinator)) e
heard-lead g w (event.From sender x) h = (h.other, λ l n. h.said refl l n)
heard-lead g w _ h = tt

-- any event at a member keeps the agreement
pub agrees-row : {V : Type 0} (g : Group V) (w : World V) (here : ℕ) (e : GroupEvent V) → here < g.members → MayHappen g w here e → Agrees g w
    → Agrees g (carried_out g w here (row g here (w.at here) e))
agrees-row {V} g w here e l may a = go (bool_cases (eqb here g.coordinator))
  where
    as_lead : (h : ℕ) → h ≡ g.coordinator → MayHappen g w h e → Agrees g (carried_out g w h (row g h (w.at h) e))
    as_lead h q = subst (λ (j : ℕ). MayHappen g w j e → Agrees g (carried_out g w j (row g j (w.at j) e))) (sym q)
        (λ m. let k : LeadKeeps g g.coordinator (λ i. seat (w.at i)) (w.at g.coordinator)
        (row g g.coordinator (w.at g.coordinator) e) = lead-row g g.coordinator (λ i. seat (w.at i)) (w.at g.coordinator) e refl a.led a.follows
        (heard-lead g w e m) in
        agrees-lead g w (after g g.coordinator (w.at g.coordinator) (row g g.coordinator (w.at g.coordinator) e))
        (row g g.coordinator (w.at g.coordinator) e).sends k.keeps k.follow k.new a)

    as_seat : here ≢ g.coordinator → Agrees g (carried_out g w here (row g here (w.at here) e))
    as_seat d =
        let k : SeatKeeps g (lead (w.at g.coordinator)) here (w.at here) (row g here (w.at here) e) = seat-row g (lead (w.at g.coordinator)) here
        (w.at here) e d a.led (a.follows here l d) (heard-seat g w here e may) in
        agrees-seat g w here (after g here (w.at here) (row g here (w.at here) e)) (row g here (w.at here) e).sends d k.follows k.said k.new a

    go : (eqb here g.coordinator ≡ true) ⊎ (eqb here g.coordinator ≡ false) → Agrees g (carried_out g w here (row g here (w.at here) e))
    go (inl q) = as_lead here (eqb_is here g.coordinator q) may
    go (inr q) = as_seat (eqb_not here g.coordinator q)

-- a member stops and starts again
pub agrees-stopped : {V : Type 0} (g : Group V) (w : World V) (here : ℕ) → here < g.members → Agrees g w → Agrees g (stopped w here)
agrees-stopped {V} g w here l a = go (bool_cases (eqb here g.coordinator))
  where
    as_lead : (h : ℕ) → h ≡ g.coordinator → Agrees g (stopped w h)
    as_lead h q = subst (λ (j : ℕ). Agrees g (stopped w j)) (sym q)
        (agrees-lead g w (restarted (w.at g.coordinator)) [] (keeps-closed (lead (w.at g.coordinator)) a.led)
        (λ i l d. follows-closed (lead (w.at g.coordinator)) (seat (w.at i)) i (a.follows i l d)) tt a)

    go : (eqb here g.coordinator ≡ true) ⊎ (eqb here g.coordinator ≡ false) → Agrees g (stopped w here)
    go (inl q) = as_lead here (eqb_is here g.coordinator q)
    go (inr q) =
        let d : here ≢ g.coordinator = eqb_not here g.coordinator q in agrees-seat g w here (restarted (w.at here)) [] d (a.follows here l d) (λ x h. h) tt a

-- an event, where it is at a member
pub agrees-acts : {V : Type 0} (g : Group V) (w : World V) (here : ℕ) (e : GroupEvent V) → MayHappen g w here e → Agrees g w → Agrees g (acts g w here e)
agrees-acts g w here e may a = if_holds (Agrees g) (nat_lt here g.members) _ _ (λ q. agrees-row g w here e (ltb_is here g.members q) may a) (λ q. a)

pub was-slice_get : {V : Type 0} (xs : List (Sent V)) (k : ℕ) (s : Sent V) → slice_get xs k ≡ Some s → Was s xs
was-slice_get [] k s e = cc
was-slice_get (x ∷ xs) zero s e = inl (let q : x ≡ s = cc in sym q)
was-slice_get (x ∷ xs) (suc k) s e = inr (was-slice_get xs k s e)

-- what was sent may come
pub may_come-sent : {V : Type 0} (g : Group V) (w : World V) (s : Sent V) → s.from ≢ s.to → Was s w.sent → Agrees g w → MayCome g w s.to s.from s.message
may_come-sent g w s d was a = record { other = d; told = a.told s was; said = λ q l n. a.said s was n }

-- what a stranger may send may come
pub strange-told : {V : Type 0} (g : Group V) (l : Lead V) (sender : ℕ) (x : CommitMsg V) → is_strange_message g sender x ≡ true → sender ≡ g.coordinator
    → Told l x
strange-told g l sender (msg.VoteRequest gen r place v) h e = absurd (eqb_not sender g.coordinator (not_true (sender == g.coordinator) h) e)
strange-told g l sender (msg.Decision gen r commit) h e = absurd (eqb_not sender g.coordinator (not_true (sender == g.coordinator) h) e)
strange-told g l sender _ h e = tt

pub strange-said : {V : Type 0} (g : Group V) (l : Lead V) (s : Seat V) (sender : ℕ) (x : CommitMsg V) → is_strange_message g sender x ≡ true
    → sender < g.members → Said l s x
strange-said g l s sender (msg.Vote gen r true) h e =
    absurd (let k : g.members ≤ sender = ltb_not sender g.members (not_true (nat_lt sender g.members) h) in omega arith)
strange-said g l s sender _ h e = tt

pub may_come-strange : {V : Type 0} (g : Group V) (w : World V) (here sender : ℕ) (x : CommitMsg V) → is_strange g here sender x ≡ true
    → MayCome g w here sender x
may_come-strange g w here sender x h =
    let m : is_strange_message g sender x ≡ true = and_right (not (sender == here)) (is_strange_message g sender x) h in
    record {
      other = eqb_not sender here (not_true (sender == here) (and_left (not (sender == here)) (is_strange_message g sender x) h));
      told = strange-told g (lead (w.at g.coordinator)) sender x m;
      said = λ q l n. strange-said g (lead (w.at g.coordinator)) (seat (w.at sender)) sender x m l;
    }

pub agrees-comes : {V : Type 0} (g : Group V) (w : World V) (o : Option (Sent V)) → ((s : Sent V) → o ≡ Some s → Was s w.sent) → Agrees g w
    → Agrees g (comes g w o)
agrees-comes g w None was a = a
agrees-comes g w (Some s) was a =
    if_holds (Agrees g) (s.from == s.to) _ _ (λ q. a)
    (λ q. agrees-acts g w s.to (event.From s.from s.message) (may_come-sent g w s (eqb_not s.from s.to q) (was s refl) a) a)

pub agrees-happens : {V : Type 0} (g : Group V) (w : World V) (e : Happening V) → Agrees g w → Agrees g (happens g w e)
agrees-happens g w (Ticks here) a = agrees-acts g w here event.Tick tt a
agrees-happens g w (Expires here) a = agrees-acts g w here event.Expire tt a
agrees-happens g w (Submits here v) a = agrees-acts g w here (event.Submit v) tt a
agrees-happens g w (Delivers which) a = agrees-comes g w (slice_get w.sent which) (λ s q. was-slice_get w.sent which s q) a
agrees-happens g w (Strays here sender x) a =
    if_holds (Agrees g) (is_strange g here sender x) _ _ (λ q. agrees-acts g w here (event.From sender x) (may_come-strange g w here sender x q) a) (λ q. a)
agrees-happens g w (Restarts here) a = if_holds (Agrees g) (nat_lt here g.members) _ _ (λ q. agrees-stopped g w here (ltb_is here g.members q) a) (λ q. a)

pub agrees-run : {V : Type 0} (g : Group V) (w : World V) (es : List (Happening V)) → Agrees g w → Agrees g (run g w es)
agrees-run g w [] a = a
agrees-run g w (e ∷ es) a = agrees-run g (happens g w e) es (agrees-happens g w e a)

pub agrees-new : {V : Type 0} (g : Group V) → Agrees g new_world
agrees-new g = record {
  led = record { settled = λ o p. cc; begun = λ r h. cc; latest = λ b p. cc };
  follows = λ i l n. record { trails = inl refl; held = λ e p. cc; passed = λ r h. cc; counted = λ b p h. cc };
  told = λ s was e. absurd was;
  said = λ s was e. absurd was;
}

pub prefix-agrees : {V : Type 0} (g : Group V) (w : World V) (i : ℕ) → i < g.members → Agrees g w → IsPrefixOf (w.at i).history (w.at g.coordinator).history
prefix-agrees {V} g w i l a = go (bool_cases (eqb i g.coordinator))
  where
    sub : (s : List (ℕ × V)) (p : Option (ℕ × V))
        → (s ≡ (w.at g.coordinator).history) ⊎ ((e : ℕ × V) × (p ≡ Some e) × ((w.at g.coordinator).history ≡ s ++ e ∷ []))
        → IsPrefixOf s (w.at g.coordinator).history
    sub s p (inl e) = ([], append-nil s ∙ e)
    sub s p (inr e) = (e.0 ∷ [], sym e.2)

    go : (eqb i g.coordinator ≡ true) ⊎ (eqb i g.coordinator ≡ false) → IsPrefixOf (w.at i).history (w.at g.coordinator).history
    go (inl q) = ([], append-nil _ ∙ ap (λ (j : ℕ). (w.at j).history) (eqb_is i g.coordinator q))
    go (inr q) = sub (w.at i).history (w.at i).promise (a.follows i l (eqb_not i g.coordinator q)).trails

-- after every schedule each history is a beginning of the coordinator's
pub prefix-run : {V : Type 0} (g : Group V) (es : List (Happening V)) (i : ℕ) → i < g.members
    → IsPrefixOf ((run g new_world es).at i).history ((run g new_world es).at g.coordinator).history
prefix-run g es i l = prefix-agrees g (run g new_world es) i l (agrees-run g new_world es (agrees-new g))

-- fewer messages than were sent are as good
pub agrees-fewer : {V : Type 0} (g : Group V) (w : World V) (sent : List (Sent V)) → ((s : Sent V) → Was s sent → Was s w.sent) → Agrees g w
    → Agrees g (record { at = w.at; sent = sent })
agrees-fewer g w sent fewer a =
    record { led = a.led; follows = a.follows; told = λ s was e. a.told s (fewer s was) e; said = λ s was e. a.said s (fewer s was) e }

-- a world in which nobody has a history or a promise, nothing is open at the coordinator, and nothing was sent
pub agrees-start : {V : Type 0} (g : Group V) (at : ℕ → Member V) → IsFresh g at → Agrees g (record { at = at; sent = [] })
agrees-start {V} g at fresh = record {
  led = record {
    settled = λ o p. absurd (no_open o p);
    begun = λ r h. absurd (no_round r h);
    latest = λ b p. absurd (no_ballot b (rw fresh.shut at p));
  };
  follows = λ i l n. record {
    trails = inl (fresh.empty i ∙ sym (fresh.empty g.coordinator));
    held = λ e p. absurd (no_promise i e p);
    passed = λ r h. absurd (no_round r h);
    counted = λ b p h. absurd (no_ballot b (rw fresh.shut at p));
  };
  told = λ s was e. absurd was;
  said = λ s was e. absurd was;
}
  where
    no_open : (o : ℕ × List ℕ) → (at g.coordinator).opened ≡ Some o → ⊥
    no_open o p = let q : (at g.coordinator).opened ≡ None = fresh.shut in cc

    no_round : (r : ℕ) → has_round r (at g.coordinator).history ≡ true → ⊥
    no_round r h =
        let q : (at g.coordinator).history ≡ [] = fresh.empty g.coordinator in
        let k : has_round {V = V} r [] ≡ true = subst (λ (x : List (ℕ × V)). has_round r x ≡ true) q h in cc

    no_ballot : (b : Ballot V) → None ≡ Some b → ⊥
    no_ballot b p = cc

    no_promise : (i : ℕ) (e : ℕ × V) → (at i).promise ≡ Some e → ⊥
    no_promise i e p = let q : (at i).promise ≡ None = fresh.free i in cc

-- what is sent stays after what is sent later
pub was-trails : {V : Type 0} (prefix sent : List (Sent V)) (s : Sent V) → Was s sent → Was s (prefix ++ sent)
was-trails [] sent s w = w
was-trails (x ∷ xs) sent s w = inr (was-trails xs sent s w)

-- members that are equal at each position agree alike
pub agrees-same : {V : Type 0} (g : Group V) (old new : ℕ → Member V) (sent : List (Sent V)) → ((i : ℕ) → old i ≡ new i)
    → Agrees g (record { at = old; sent = sent }) → Agrees g (record { at = new; sent = sent })
agrees-same {V} g old new sent p a = record {
  led = subst (λ (m : Member V). IsLed (lead m)) (p g.coordinator) a.led;
  follows = λ i l n. subst (λ (m : Member V). Follows (lead m) (seat (new i)) i) (p g.coordinator)
      (subst (λ (m : Member V). Follows (lead (old g.coordinator)) (seat m) i) (p i) (a.follows i l n));
  told = λ s was e. subst (λ (m : Member V). Told (lead m) s.message) (p g.coordinator) (a.told s was e);
  said = λ s was e. subst (λ (m : Member V). Said (lead m) (seat (new s.from)) s.message) (p g.coordinator)
      (subst (λ (m : Member V). Said (lead (old g.coordinator)) (seat m) s.message) (p s.from) (a.said s was e));
}

pub put-put : {A : Type 0} (f : ℕ → A) (h : ℕ) (a b : A) (i : ℕ) → put (put f h a) h b i ≡ put f h b i
put-put {A} f h a b i = go (bool_cases (eqb i h))
  where
    go : (eqb i h ≡ true) ⊎ (eqb i h ≡ false) → put (put f h a) h b i ≡ put f h b i
    go (inl q) = let e : i ≡ h = eqb_is i h q in rw e (put-same (put f h a) h b ∙ sym (put-same f h b))
    go (inr q) = let d : i ≢ h = eqb_not i h q in put-other (put f h a) h b i d ∙ put-other f h a i d ∙ sym (put-other f h b i d)

-- a member that changed stops
pub agrees-put-stopped : {V : Type 0} (g : Group V) (at : ℕ → Member V) (sent : List (Sent V)) (here : ℕ) (m : Member V) → here < g.members
    → Agrees g (record { at = put at here m; sent = sent }) → Agrees g (record { at = put at here (restarted m); sent = sent })
agrees-put-stopped {V} g at sent here m l a =
    agrees-same g (put (put at here m) here (restarted m)) (put at here (restarted m)) sent (put-put at here m (restarted m))
    (subst (λ (k : Member V). Agrees g (record { at = put (put at here m) here (restarted k); sent = sent })) (put-same at here m)
    (agrees-stopped g (record { at = put at here m; sent = sent }) here l a))

-- a stop after any prefix of a plan's changes: it is a stop, or one after the whole plan with nothing sent
pub agrees-cut : {V : Type 0} (g : Group V) (w : World V) (here : ℕ) (e : GroupEvent V) (made rest : List (GroupChange V)) → here < g.members
    → MayHappen g w here e → made ++ rest ≡ (row g here (w.at here) e).changes → Agrees g w → Agrees g (cut_short g w here made)
agrees-cut {V} g w here e made rest l may f a = go (single-prefix made rest (row g here (w.at here) e).changes f (single-row g here (w.at here) e))
  where
    p : GroupPlan V
    p = row g here (w.at here) e

    whole : Agrees g (carried_out g w here p)
    whole = agrees-row g w here e l may a

    unsent : Agrees g (record { at = put w.at here (after g here (w.at here) p); sent = w.sent })
    unsent = agrees-fewer g (carried_out g w here p) w.sent (λ s was. was-trails (posted here p.sends) w.sent s was) whole

    shut : (m : Member V) (x : OpenMove) → restarted (moved g here m x) ≡ restarted m
    shut m move.Keep = refl
    shut m _ = refl

    go : (made ≡ []) ⊎ (made ≡ p.changes) → Agrees g (cut_short g w here made)
    go (inl q) = subst (λ (cs : List (GroupChange V)). Agrees g (cut_short g w here cs)) (sym q) (agrees-stopped g w here l a)
    go (inr q) = subst (λ (cs : List (GroupChange V)). Agrees g (cut_short g w here cs)) (sym q)
        (subst (λ (k : Member V). Agrees g (record { at = put w.at here k; sent = w.sent })) (shut (changed_by g.rules (w.at here) p.changes) p.opening)
        (agrees-put-stopped g w.at w.sent here (after g here (w.at here) p) l unsent))
