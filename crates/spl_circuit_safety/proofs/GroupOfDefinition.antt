-- One group of each definition over cells that are bound late, purged, stopped and cut: for a definition d, a world of its
-- group that is coupled with the cells.
use Rattle.std.{specs.Prelude.None, proofs.Common.{◌≡◌, ◌≢◌, ℕ, ◌<◌, ◌≤◌, ◌⊎◌, true, false, List, [], ◌∷◌, ◌++◌, append-nil, append_assoc, length, refl, sym}}
use Rattle.std.proofs.Common.{ap, subst, ◌∙◌, inl, inr}
use Rattle.spl_agree.specs.{Member.{Rules, Group, Member, new_member, values, changed, changed_by, moved}, Rows.row, World.Sent as GroupSent}
use Rattle.spl_agree.specs.{World.{World as GroupWorld, carried_out as group_carried_out, posted as group_posted, put, after}, Agreement.{Lead, lead, Seat}}
use Rattle.spl_agree.specs.{Agreement.{seat, Told, Said, Was, Agrees, MayCome, MayHappen}, Fits.{AllGood, generation_of}}
use Rattle.spl_agree.specs.declared.{event.{GroupChange.GroupChange, GroupEvent.GroupEvent, OpenMove.OpenMove}, message.CommitMsg.CommitMsg}
use Rattle.spl_agree.{specs.declared.plan.GroupPlan.GroupPlan, proofs.Tests.{put-same, put-other}}
use Rattle.spl_agree.specs.declared.message.CommitMsg.TheVariants as msg
use Rattle.spl_agree.specs.declared.event.GroupEvent.TheVariants as event
use Rattle.spl_agree.specs.declared.event.GroupChange.TheVariants as change
use Rattle.spl_agree.specs.declared.event.OpenMove.TheVariants as move
use Rattle.spl_circuit.specs.{Nodes.{NodeId, has_node, position, node_or}, Positions.node_at_position, declared.definition.Definition.Definition}
use Rattle.spl_group_safety.proofs.{Agreement.agrees-row, Sound.values-more}
use Rattle.spl_circuit_world.proofs.Nodes.{node_cases}
use Rattle.spl_circuit_safety.{specs.Agreement.committed, proofs.{Same.definition_cases, Positions.position-apart}}

-- one of the two groups that each definition has: its rules and who coordinates it
pub record Groups (V : Type 0) : Type 0 where
  pub rules : Definition → Rules V
  pub leader : Definition → NodeId

-- the group of a definition in such groups
abbrev pub group_of : {V : Type 0} → Groups V → Definition → Group V
group_of groups d = record { rules = groups.rules d; generation = d.generation; members = length d.members; coordinator = position d.members (groups.leader d) }

-- what such groups sees of a cell
pub data Presence (V : Type 0) : Type 0 where
  Away : Presence V
  There : (d : Definition) → (m : Member V) → Presence V

-- a message in such groups
pub record GroupMessage (V : Type 0) : Type 0 where
  pub from : NodeId
  pub to : NodeId
  pub body : CommitMsg V

-- bindings so far
abbrev pub Ever : NodeId → Definition → List (NodeId × Definition) → Type 0
Ever n d [] = ⊥
Ever n d (x ∷ xs) = ((n ≡ x.0) × (d ≡ x.1)) ⊎ Ever n d xs

-- a node was bound to at most one definition of a generation
abbrev pub IsOne : List (NodeId × Definition) → Type 0
IsOne past = (n : NodeId) (d e : Definition) → Ever n d past → Ever n e past → d.generation ≡ e.generation → d ≡ e

-- a member that has committed and promised nothing
abbrev pub IsQuiet : {V : Type 0} → Member V → Type 0
IsQuiet m = (m.history ≡ []) × (m.promise ≡ None)

-- a message that counts in the group of d
abbrev pub Matters : {V : Type 0} → Groups V → Definition → NodeId → NodeId → CommitMsg V → Type 0
Matters groups d from to (msg.VoteRequest gen r place v) = (from ≡ groups.leader d) × (gen ≡ d.generation)
Matters groups d from to (msg.Decision gen r commit) = (from ≡ groups.leader d) × (gen ≡ d.generation)
Matters groups d from to (msg.Vote gen r true) = (to ≡ groups.leader d) × (gen ≡ d.generation)
Matters groups d from to _ = ⊥

-- what a message reports of bindings
abbrev pub Shows : {V : Type 0} → Groups V → List (NodeId × Definition) → NodeId → NodeId → CommitMsg V → Type 0
Shows groups past from to (msg.VoteRequest gen r place v) =
    (e : Definition) × Ever from e past × (e.generation ≡ gen) × (place ≡ 0 → (groups.rules e).check [] v ≡ None)
Shows groups past from to (msg.Decision gen r commit) = (e : Definition) × Ever from e past × (e.generation ≡ gen)
Shows groups past from to (msg.Vote gen r true) = (e : Definition) × Ever to e past × (e.generation ≡ gen)
Shows groups past from to _ = Unit {0}

-- the position has said this
abbrev pub Says : {V : Type 0} → ℕ → CommitMsg V → List (GroupSent V) → Type 0
Says i x [] = ⊥
Says i x (s ∷ ss) = ((i ≡ s.from) × (x ≡ s.message)) ⊎ Says i x ss

-- a member and the coordinator have positions
pub record IsPlaced {V : Type 0} (groups : Groups V) (d : Definition) (n : NodeId) : Type 0 where
  pub few : length d.members ≤ 8
  pub here_in : has_node d.members n ≡ true
  pub lead_in : has_node d.members (groups.leader d) ≡ true
  pub here : position d.members n < length d.members
  pub leads : position d.members (groups.leader d) < length d.members

-- a world of the group of d, coupled with the cells and the messages
pub record Coupled {V : Type 0} (groups : Groups V) (d : Definition) (past : List (NodeId × Definition)) (at : NodeId → Presence V)
    (said : GroupMessage V → Type 0) (list : List V) (w : GroupWorld V) : Type 0 where
  pub agrees : Agrees (group_of groups d) w
  pub there : (n : NodeId) (m : Member V) → at n ≡ There d m → w.at (position d.members n) ≡ m
  pub never : (n : NodeId) → position d.members n < length d.members → (w.at (position d.members n) ≡ new_member) ⊎ Ever n d past
  pub known : (l : GroupMessage V) → said l → Matters groups d l.from l.to l.body → Says (position d.members l.from) l.body w.sent
  pub listed : values (w.at (position d.members (groups.leader d))).history ≡ list
  -- each value of the list had a good check against those before it
  pub good : AllGood (groups.rules d) [] list

-- there is such a world
abbrev pub SomeWorld : {V : Type 0} → Groups V → Definition → List (NodeId × Definition) → (NodeId → Presence V) → (GroupMessage V → Type 0) → List V → Type 0
SomeWorld {V} groups d past at said list = (w : GroupWorld V) × Coupled groups d past at said list w

-- what holds of such groups for a definition d: of all cells and messages, and of the world of d once its coordinator was bound
pub record InGroups {V : Type 0} (groups : Groups V) (d : Definition) (past : List (NodeId × Definition)) (at : NodeId → Presence V)
    (said : GroupMessage V → Type 0) (list : List V) : Type 0 where
  pub ever : (n : NodeId) (e : Definition) (m : Member V) → at n ≡ There e m → Ever n e past
  pub quiet : (n : NodeId) (e : Definition) (m : Member V) → at n ≡ There e m → IsQuiet m ⊎ Ever (groups.leader e) e past
  pub placed : (n : NodeId) (e : Definition) (m : Member V) → at n ≡ There e m → IsPlaced groups e n
  pub shows : (l : GroupMessage V) → said l → Shows groups past l.from l.to l.body
  pub coupled : Ever (groups.leader d) d past → SomeWorld groups d past at said list
  pub empty : (list ≡ []) ⊎ Ever (groups.leader d) d past

-- the messages of a plan
abbrev pub IsMessageOf : {V : Type 0} → NodeId → Definition → NodeId → List (ℕ × CommitMsg V) → GroupMessage V → Type 0
IsMessageOf n d back [] l = ⊥
IsMessageOf n d back (s ∷ ss) l = (l ≡ record { from = n; to = node_or d.members back s.0; body = s.1 }) ⊎ IsMessageOf n d back ss l

-- what holds of each send of a plan
abbrev pub AllPosts : {V : Type 0} → (ℕ → CommitMsg V → Type 0) → List (ℕ × CommitMsg V) → Type 0
AllPosts P [] = Unit {0}
AllPosts P (s ∷ ss) = P s.0 s.1 × AllPosts P ss

-- what a plan may send: a request or a decision of its generation, and a yes to the coordinator for what it has promised
abbrev pub IsByRule : {V : Type 0} → Group V → Member V → ℕ → CommitMsg V → Type 0
IsByRule g new q (msg.VoteRequest gen r place v) = (gen ≡ g.generation) × (place ≡ 0 → g.rules.check [] v ≡ None)
IsByRule g new q (msg.Decision gen r commit) = gen ≡ g.generation
IsByRule g new q (msg.Vote gen r true) = (gen ≡ g.generation) × (q ≡ g.coordinator) × (new.promise ≡ None → ⊥)
IsByRule g new q _ = Unit {0}

-- each message of a plan comes from one of its sends
pub message-by_rule : {V : Type 0} (P : ℕ → CommitMsg V → Type 0) (n : NodeId) (d : Definition) (back : NodeId) (ss : List (ℕ × CommitMsg V))
    (l : GroupMessage V) → AllPosts P ss → IsMessageOf n d back ss l → (q : ℕ) × P q l.body × (l.from ≡ n) × (l.to ≡ node_or d.members back q)
message-by_rule P n d back [] l a i = absurd i
message-by_rule {V} P n d back (s ∷ ss) l a (inl e) =
    (s.0, subst (λ (z : GroupMessage V). P s.0 z.body) (sym e) a.0, ap (λ (z : GroupMessage V). z.from) e, ap (λ (z : GroupMessage V). z.to) e)
message-by_rule P n d back (s ∷ ss) l a (inr i) = message-by_rule P n d back ss l a.1 i

-- what was said stays said
pub says-more : {V : Type 0} (i : ℕ) (x : CommitMsg V) (news olds : List (GroupSent V)) → Says i x olds → Says i x (news ++ olds)
says-more i x [] olds h = h
says-more i x (s ∷ ss) olds h = inr (says-more i x ss olds h)

-- the messages of a plan are said with it
pub message-says : {V : Type 0} (n : NodeId) (d : Definition) (back : NodeId) (p : ℕ) (ss : List (ℕ × CommitMsg V)) (olds : List (GroupSent V))
    (l : GroupMessage V) → IsMessageOf n d back ss l → Says p l.body (group_posted p ss ++ olds)
message-says n d back p [] olds l i = absurd i
message-says {V} n d back p (s ∷ ss) olds l (inl e) = inl (refl, ap (λ (z : GroupMessage V). z.body) e)
message-says n d back p (s ∷ ss) olds l (inr i) = inr (message-says n d back p ss olds l i)

-- what was said was sent
pub says-was : {V : Type 0} (i : ℕ) (x : CommitMsg V) (ss : List (GroupSent V)) → Says i x ss → (s : GroupSent V) × Was s ss × (i ≡ s.from) × (x ≡ s.message)
says-was i x [] h = absurd h
says-was i x (s ∷ ss) (inl e) = (s, inl refl, e.0, e.1)
says-was {V} i x (s ∷ ss) (inr h) = let k : (s : GroupSent V) × Was s ss × (i ≡ s.from) × (x ≡ s.message) = says-was i x ss h in (k.0, inr k.1, k.2, k.3)

-- what the coordinator said it has reported
pub says-told : {V : Type 0} (g : Group V) (w : GroupWorld V) (i : ℕ) (x : CommitMsg V) → Agrees g w → Says i x w.sent → i ≡ g.coordinator
    → Told (lead (w.at g.coordinator)) x
says-told {V} g w i x a h e =
    let k : (s : GroupSent V) × Was s w.sent × (i ≡ s.from) × (x ≡ s.message) = says-was i x w.sent h in
    subst (λ (y : CommitMsg V). Told (lead (w.at g.coordinator)) y) (sym k.3) (a.told k.0 k.1 (sym k.2 ∙ e))

-- what another member said
pub says-said : {V : Type 0} (g : Group V) (w : GroupWorld V) (i : ℕ) (x : CommitMsg V) → Agrees g w → Says i x w.sent → i ≢ g.coordinator
    → Said (lead (w.at g.coordinator)) (seat (w.at i)) x
says-said {V} g w i x a h n =
    let k : (s : GroupSent V) × Was s w.sent × (i ≡ s.from) × (x ≡ s.message) = says-was i x w.sent h in
    subst (λ (y : CommitMsg V). Said (lead (w.at g.coordinator)) (seat (w.at i)) y) (sym k.3)
    (subst (λ (j : ℕ). Said (lead (w.at g.coordinator)) (seat (w.at j)) k.0.message) (sym k.2) (a.said k.0 k.1 (λ q. n (k.2 ∙ q))))

-- a message of another kind is anybody's
pub told-by : {V : Type 0} (groups : Groups V) (d : Definition) (l : Lead V) (from to : NodeId) (x : CommitMsg V) → generation_of x ≡ d.generation
    → from ≡ groups.leader d → (Matters groups d from to x → Told l x) → Told l x
told-by groups d l from to (msg.VoteRequest gen r place v) g e h = h (e, g)
told-by groups d l from to (msg.Decision gen r commit) g e h = h (e, g)
told-by groups d l from to _ g e h = tt

-- a message to the coordinator that matters, or any other one
pub said-by : {V : Type 0} (groups : Groups V) (d : Definition) (l : Lead V) (s : Seat V) (from to : NodeId) (x : CommitMsg V)
    → generation_of x ≡ d.generation → to ≡ groups.leader d → (Matters groups d from to x → Said l s x) → Said l s x
said-by groups d l s from to (msg.Vote gen r true) g e h = h (e, g)
said-by groups d l s from to _ g e h = tt

-- an event that may happen at a cell that is bound to d: a message was sent to it by another node, and has its generation
abbrev pub MayHear : {V : Type 0} → Definition → (GroupMessage V → Type 0) → NodeId → NodeId → GroupEvent V → Type 0
MayHear d said n back (event.From s x) =
    (s ≡ position d.members back) × said (record { from = back; to = n; body = x }) × (generation_of x ≡ d.generation) × (back ≢ n)
MayHear d said n back _ = Unit {0}

-- what may be heard at a cell may happen in the coupled world
pub may-happen : {V : Type 0} (groups : Groups V) (d : Definition) (past : List (NodeId × Definition)) (at : NodeId → Presence V)
    (said : GroupMessage V → Type 0) (list : List V) (w : GroupWorld V) (n back : NodeId) (e : GroupEvent V) → IsPlaced groups d n
    → Coupled groups d past at said list w → MayHear d said n back e → MayHappen (group_of groups d) w (position d.members n) e
may-happen {V} groups d past at said list w n back (event.From s x) p c h =
    subst (λ (i : ℕ). MayCome (group_of groups d) w (position d.members n) i x) (sym h.0) (record {
      other = λ q. h.3 (sym (position-apart d.members n back p.few p.here (sym q)));
      told = λ q.
          let same : back ≡ groups.leader d = sym (position-apart d.members (groups.leader d) back p.few p.leads (sym q)) in
          told-by groups d (lead (w.at (position d.members (groups.leader d)))) back n x h.2 same
          (λ k. says-told (group_of groups d) w (position d.members back) x c.agrees (c.known (record { from = back; to = n; body = x }) h.1 k) q);
      said = λ mine l other.
          let same : n ≡ groups.leader d = position-apart d.members n (groups.leader d) p.few p.here mine in
          said-by groups d (lead (w.at (position d.members (groups.leader d)))) (seat (w.at (position d.members back))) back n x h.2 same
          (λ k. says-said (group_of groups d) w (position d.members back) x c.agrees (c.known (record { from = back; to = n; body = x }) h.1 k) other);
    })
may-happen groups d past at said list w n back _ p c h = tt

-- what changes do to a history
abbrev pub all_committed : {V : Type 0} → List (GroupChange V) → List V
all_committed [] = []
all_committed (x ∷ xs) = committed x ++ all_committed xs

-- a change adds what it commits
pub history-changed : {V : Type 0} (rules : Rules V) (m : Member V) (x : GroupChange V) → values (changed rules m x).history ≡ values m.history ++ committed x
history-changed rules m (change.Commit r v) = values-more m.history (r, v)
history-changed rules m _ = sym (append-nil _)

-- changes add what they commit
pub history-by : {V : Type 0} (rules : Rules V) (m : Member V) (xs : List (GroupChange V))
    → values (changed_by rules m xs).history ≡ values m.history ++ all_committed xs
history-by rules m [] = sym (append-nil _)
history-by rules m (x ∷ xs) =
    history-by rules (changed rules m x) xs
    ∙ (ap (λ h. h ++ all_committed xs) (history-changed rules m x) ∙ append_assoc (values m.history) (committed x) (all_committed xs))

-- a move adds nothing
pub history-moved : {V : Type 0} (g : Group V) (here : ℕ) (m : Member V) (o : OpenMove) → (moved g here m o).history ≡ m.history
history-moved g here m move.Keep = refl
history-moved g here m _ = refl

-- a plan adds what its changes commit
pub history-after : {V : Type 0} (g : Group V) (here : ℕ) (m : Member V) (p : GroupPlan V)
    → values (after g here m p).history ≡ values m.history ++ all_committed p.changes
history-after g here m p = ap (λ h. values h) (history-moved g here (changed_by g.rules m p.changes) p.opening) ∙ history-by g.rules m p.changes

-- equal stands have equal parts
pub there_is : {V : Type 0} (d e : Definition) (m k : Member V) → There d m ≡ There e k → (d ≡ e) × (m ≡ k)
there_is d e m k h = (cc, cc)

-- a row at a cell that is bound to d
pub coupled-row : {V : Type 0} (groups : Groups V) (d : Definition) (past : List (NodeId × Definition)) (at at2 : NodeId → Presence V)
    (said said2 : GroupMessage V → Type 0) (list more : List V) (w : GroupWorld V) (n back : NodeId) (e : GroupEvent V) → Ever n d past
    → IsPlaced groups d n → MayHear d said n back e
    → AllGood (groups.rules d) []
    (values (after (group_of groups d) (position d.members n) (w.at (position d.members n))
    (row (group_of groups d) (position d.members n) (w.at (position d.members n)) e)).history)
    → at2 n ≡ There d (after (group_of groups d) (position d.members n) (w.at (position d.members n))
    (row (group_of groups d) (position d.members n) (w.at (position d.members n)) e))
    → ((k : NodeId) → k ≢ n → at2 k ≡ at k)
    → ((l : GroupMessage V) → said2 l → said l ⊎ IsMessageOf n d back (row (group_of groups d) (position d.members n) (w.at (position d.members n)) e).sends l)
    → (n ≡ groups.leader d → more ≡ all_committed (row (group_of groups d) (position d.members n) (w.at (position d.members n)) e).changes)
    → (n ≢ groups.leader d → more ≡ [])
    → Coupled groups d past at said list w
    → Coupled groups d past at2 said2 (list ++ more)
    (group_carried_out (group_of groups d) w (position d.members n) (row (group_of groups d) (position d.members n) (w.at (position d.members n)) e))
coupled-row {V} groups d past at at2 said said2 list more w n back e ever p may sound new others messages leads follows c = record {
  agrees = agrees-row g w i e p.here (may-happen groups d past at said list w n back e p c may) c.agrees;
  there = there;
  never = never;
  known = known;
  listed = listed;
  good = good (node_cases n (groups.leader d));
}
  where
    g : Group V
    g = group_of groups d

    i : ℕ
    i = position d.members n

    plan : GroupPlan V
    plan = row (group_of groups d) (position d.members n) (w.at (position d.members n)) e

    m2 : Member V
    m2 = after g i (w.at i) plan

    there : (k : NodeId) (m : Member V) → at2 k ≡ There d m → put w.at i m2 (position d.members k) ≡ m
    there k m is = go (node_cases k n)
      where
        go : (k ≡ n) ⊎ (k ≢ n) → put w.at i m2 (position d.members k) ≡ m
        go (inl q) =
            subst (λ (z : NodeId). put w.at i m2 (position d.members z) ≡ m) (sym q)
            (put-same w.at i m2 ∙ (there_is d d m2 m (sym new ∙ subst (λ (z : NodeId). at2 z ≡ There d m) q is)).1)
        go (inr q) =
            put-other w.at i m2 (position d.members k) (λ x. q (sym (position-apart d.members n k p.few p.here (sym x))))
            ∙ c.there k m (sym (others k q) ∙ is)

    never : (k : NodeId) → position d.members k < length d.members → (put w.at i m2 (position d.members k) ≡ new_member) ⊎ Ever k d past
    never k l = go (node_cases k n) (c.never k l)
      where
        go : (k ≡ n) ⊎ (k ≢ n) → (w.at (position d.members k) ≡ new_member) ⊎ Ever k d past
            → (put w.at i m2 (position d.members k) ≡ new_member) ⊎ Ever k d past
        go (inl q) x = inr (subst (λ (z : NodeId). Ever z d past) (sym q) ever)
        go (inr q) (inl x) = inl (put-other w.at i m2 (position d.members k) (λ y. q (sym (position-apart d.members n k p.few p.here (sym y)))) ∙ x)
        go (inr q) (inr x) = inr x

    known : (l : GroupMessage V) → said2 l → Matters groups d l.from l.to l.body → Says (position d.members l.from) l.body (group_posted i plan.sends ++ w.sent)
    known l s k = go (messages l s)
      where
        go : said l ⊎ IsMessageOf n d back plan.sends l → Says (position d.members l.from) l.body (group_posted i plan.sends ++ w.sent)
        go (inl x) = says-more (position d.members l.from) l.body (group_posted i plan.sends) w.sent (c.known l x k)
        go (inr x) =
            subst (λ (z : NodeId). Says (position d.members z) l.body (group_posted i plan.sends ++ w.sent)) (sym (from_is plan.sends x))
            (message-says n d back i plan.sends w.sent l x)
          where
            from_is : (ss : List (ℕ × CommitMsg V)) → IsMessageOf n d back ss l → l.from ≡ n
            from_is [] y = absurd y
            from_is (t ∷ ts) (inl y) = ap (λ (z : GroupMessage V). z.from) y
            from_is (t ∷ ts) (inr y) = from_is ts y

    listed : values (put w.at i m2 (position d.members (groups.leader d))).history ≡ list ++ more
    listed = go (node_cases n (groups.leader d))
      where
        go : (n ≡ groups.leader d) ⊎ (n ≢ groups.leader d) → values (put w.at i m2 (position d.members (groups.leader d))).history ≡ list ++ more
        go (inl q) =
            ap (λ (z : Member V). values z.history) (subst (λ (z : NodeId). put w.at i m2 (position d.members z) ≡ m2) q (put-same w.at i m2))
            ∙ (history-after g i (w.at i) plan
            ∙ (ap (λ (z : List V). z ++ all_committed plan.changes)
            (subst (λ (z : NodeId). values (w.at (position d.members z)).history ≡ list) (sym q) c.listed)
            ∙ ap (λ (z : List V). list ++ z) (sym (leads q))))
        go (inr q) =
            ap (λ (z : Member V). values z.history)
            (put-other w.at i m2 (position d.members (groups.leader d)) (λ y. q (position-apart d.members n (groups.leader d) p.few p.here (sym y))))
            ∙ (c.listed ∙ (sym (append-nil _) ∙ ap (λ (z : List V). list ++ z) (sym (follows q))))

    good : (n ≡ groups.leader d) ⊎ (n ≢ groups.leader d) → AllGood (groups.rules d) [] (list ++ more)
    good (inl q) =
        subst (λ (z : List V). AllGood (groups.rules d) [] z)
        (ap (λ (z : Member V). values z.history) (sym (subst (λ (z : NodeId). put w.at i m2 (position d.members z) ≡ m2) q (put-same w.at i m2)))
        ∙ listed) sound
    good (inr q) = subst (λ (z : List V). AllGood (groups.rules d) [] z) (sym (append-nil _) ∙ ap (λ (z : List V). list ++ z) (sym (follows q))) c.good

-- a row at a cell that is bound to another definition
pub coupled-other : {V : Type 0} (groups : Groups V) (d e : Definition) (past : List (NodeId × Definition)) (at at2 : NodeId → Presence V)
    (said said2 : GroupMessage V → Type 0) (list : List V) (w : GroupWorld V) (n back : NodeId) (ss : List (ℕ × CommitMsg V)) (new : Member V) → d ≢ e
    → IsOne past → Ever n e past → Ever (groups.leader d) d past → IsPlaced groups e n
    → (IsQuiet new ⊎ Ever (groups.leader e) e past) → AllPosts (IsByRule (group_of groups e) new) ss
    → at2 n ≡ There e new
    → ((k : NodeId) → k ≢ n → at2 k ≡ at k)
    → ((l : GroupMessage V) → said2 l → said l ⊎ IsMessageOf n e back ss l)
    → Coupled groups d past at said list w → Coupled groups d past at2 said2 list w
coupled-other {V} groups d e past at at2 said said2 list w n back ss new other law ever led p quiet by_rule is others messages c = record {
  agrees = c.agrees;
  there = there;
  never = c.never;
  known = known;
  listed = c.listed;
  good = c.good;
}
  where
    there : (k : NodeId) (m : Member V) → at2 k ≡ There d m → w.at (position d.members k) ≡ m
    there k m h = go (node_cases k n)
      where
        go : (k ≡ n) ⊎ (k ≢ n) → w.at (position d.members k) ≡ m
        go (inl q) = absurd (other (sym (there_is e d new m (sym is ∙ subst (λ (z : NodeId). at2 z ≡ There d m) q h)).0))
        go (inr q) = c.there k m (sym (others k q) ∙ h)

    leads : (z : NodeId) → z ≡ n → z ≡ groups.leader d → e.generation ≡ d.generation → ⊥
    leads z q x y = other (law (groups.leader d) d e led (subst (λ (u : NodeId). Ever u e past) (sym q ∙ x) ever) (sym y))

    ledby : IsQuiet new ⊎ Ever (groups.leader e) e past → (new.promise ≡ None → ⊥) → Ever (groups.leader e) e past
    ledby (inl q) h = absurd (h q.1)
    ledby (inr q) h = q

    no : (q : ℕ) (from to : NodeId) (x : CommitMsg V) → IsByRule (group_of groups e) new q x → from ≡ n → to ≡ node_or e.members back q
        → Matters groups d from to x → ⊥
    no q from to (msg.VoteRequest gen r place v) f a b h = leads from a h.0 (sym f.0 ∙ h.1)
    no q from to (msg.Decision gen r commit) f a b h = leads from a h.0 (sym f ∙ h.1)
    no q from to (msg.Vote gen r true) f a b h =
        let x : to ≡ groups.leader e = b ∙ (ap (λ (z : ℕ). node_or e.members back z) f.1 ∙ node_at_position e.members back (groups.leader e) p.lead_in) in
        let y : groups.leader e ≡ groups.leader d = sym x ∙ h.0 in
        other (law (groups.leader d) d e led (subst (λ (z : NodeId). Ever z e past) y (ledby quiet f.2)) (sym (sym f.0 ∙ h.1)))
    no q from to _ f a b h = h

    known : (l : GroupMessage V) → said2 l → Matters groups d l.from l.to l.body → Says (position d.members l.from) l.body w.sent
    known l s k = go (messages l s)
      where
        go : said l ⊎ IsMessageOf n e back ss l → Says (position d.members l.from) l.body w.sent
        go (inl x) = c.known l x k
        go (inr x) =
            let y : (q : ℕ) × IsByRule (group_of groups e) new q l.body × (l.from ≡ n)
            × (l.to ≡ node_or e.members back q) = message-by_rule (IsByRule (group_of groups e) new) n e back ss l by_rule x in absurd
            (no y.0 l.from l.to l.body y.1 y.2 y.3 k)

-- what the messages of a row show
pub shows-message : {V : Type 0} (groups : Groups V) (e : Definition) (past : List (NodeId × Definition)) (n back : NodeId) (new : Member V) (q : ℕ)
    (from to : NodeId) (x : CommitMsg V) → Ever n e past → IsPlaced groups e n → (IsQuiet new ⊎ Ever (groups.leader e) e past)
    → IsByRule (group_of groups e) new q x → from ≡ n → to ≡ node_or e.members back q → Shows groups past from to x
shows-message groups e past n back new q from to (msg.VoteRequest gen r place v) ever p quiet f a b =
    (e, subst (λ (z : NodeId). Ever z e past) (sym a) ever, sym f.0, f.1)
shows-message groups e past n back new q from to (msg.Decision gen r commit) ever p quiet f a b = (e, subst (λ (z : NodeId). Ever z e past) (sym a) ever, sym f)
shows-message {V} groups e past n back new q from to (msg.Vote gen r true) ever p quiet f a b =
    let x : to ≡ groups.leader e = b ∙ (ap (λ (z : ℕ). node_or e.members back z) f.1 ∙ node_at_position e.members back (groups.leader e) p.lead_in) in
    (e, subst (λ (z : NodeId). Ever z e past) (sym x) (ledby quiet), sym f.0)
  where
    ledby : IsQuiet new ⊎ Ever (groups.leader e) e past → Ever (groups.leader e) e past
    ledby (inl q) = absurd (f.2 q.1)
    ledby (inr q) = q
shows-message groups e past n back new q from to (msg.Vote gen r false) ever p quiet f a b = tt
shows-message groups e past n back new q from to _ ever p quiet f a b = tt

-- the member after a row at a cell
abbrev pub after_row : {V : Type 0} → Groups V → Definition → NodeId → Member V → GroupEvent V → Member V
after_row groups e n m ev = after (group_of groups e) (position e.members n) m (row (group_of groups e) (position e.members n) m ev)

-- the plan of a row at a cell
abbrev pub plan_row : {V : Type 0} → Groups V → Definition → NodeId → Member V → GroupEvent V → GroupPlan V
plan_row groups e n m ev = row (group_of groups e) (position e.members n) m ev

-- where one cell sees a member again, what holds of that one and of all members before holds of all members
pub each-member : {V : Type 0} (at at2 : NodeId → Presence V) (n : NodeId) (e : Definition) (new : Member V) → at2 n ≡ There e new
    → ((k : NodeId) → k ≢ n → at2 k ≡ at k) → (P : NodeId → Definition → Member V → Type 0) → P n e new
    → ((k : NodeId) (f : Definition) (x : Member V) → at k ≡ There f x → P k f x) → (k : NodeId) (f : Definition) (x : Member V) → at2 k ≡ There f x → P k f x
each-member {V} at at2 n e new is others P mine old k f x h = go (node_cases k n)
  where
    go : (k ≡ n) ⊎ (k ≢ n) → P k f x
    go (inl q) = let y : (e ≡ f) × (new ≡ x) = there_is e f new x (sym is ∙ subst (λ (z : NodeId). at2 z ≡ There f x) q h) in
        subst (λ (z : NodeId). P z f x) (sym q) (subst (λ (z : Definition). P n z x) y.0 (subst (λ (z : Member V). P n e z) y.1 mine))
    go (inr q) = old k f x (sym (others k q) ∙ h)

-- any row
pub groups-row : {V : Type 0} (groups : Groups V) (d e : Definition) (past : List (NodeId × Definition)) (at at2 : NodeId → Presence V)
    (said said2 : GroupMessage V → Type 0) (list more : List V) (n back : NodeId) (m : Member V) (ev : GroupEvent V) → IsOne past
    → at n ≡ There e m → MayHear e said n back ev
    → AllGood (groups.rules e) [] (values (after_row groups e n m ev).history)
    → (IsQuiet (after_row groups e n m ev) ⊎ Ever (groups.leader e) e past)
    → AllPosts (IsByRule (group_of groups e) (after_row groups e n m ev)) (plan_row groups e n m ev).sends
    → at2 n ≡ There e (after_row groups e n m ev)
    → ((k : NodeId) → k ≢ n → at2 k ≡ at k)
    → ((l : GroupMessage V) → said2 l → said l ⊎ IsMessageOf n e back (plan_row groups e n m ev).sends l)
    → (e ≡ d → n ≡ groups.leader d → more ≡ all_committed (plan_row groups e n m ev).changes)
    → ((e ≢ d) ⊎ (n ≢ groups.leader d) → more ≡ [])
    → InGroups groups d past at said list → InGroups groups d past at2 said2 (list ++ more)
groups-row {V} groups d e past at at2 said said2 list more n back m ev law is may sound quiet by_rule new others messages leads follows c = record {
  ever = ever;
  quiet = quiets;
  placed = placed;
  shows = shows;
  coupled = λ led. coupled led (definition_cases d e);
  empty = empty (definition_cases d e) (node_cases n (groups.leader d));
}
  where
    bound : Ever n e past
    bound = c.ever n e m is

    spot : IsPlaced groups e n
    spot = c.placed n e m is

    ever : (k : NodeId) (f : Definition) (x : Member V) → at2 k ≡ There f x → Ever k f past
    ever = each-member at at2 n e (after_row groups e n m ev) new others (λ k f x. Ever k f past) bound c.ever

    quiets : (k : NodeId) (f : Definition) (x : Member V) → at2 k ≡ There f x → IsQuiet x ⊎ Ever (groups.leader f) f past
    quiets = each-member at at2 n e (after_row groups e n m ev) new others (λ k f x. IsQuiet x ⊎ Ever (groups.leader f) f past) quiet c.quiet

    placed : (k : NodeId) (f : Definition) (x : Member V) → at2 k ≡ There f x → IsPlaced groups f k
    placed = each-member at at2 n e (after_row groups e n m ev) new others (λ k f x. IsPlaced groups f k) spot c.placed

    shows : (l : GroupMessage V) → said2 l → Shows groups past l.from l.to l.body
    shows l s = go (messages l s)
      where
        go : said l ⊎ IsMessageOf n e back (plan_row groups e n m ev).sends l → Shows groups past l.from l.to l.body
        go (inl x) = c.shows l x
        go (inr x) =
            let y : (q : ℕ) × IsByRule (group_of groups e) (after_row groups e n m ev) q l.body × (l.from ≡ n)
            × (l.to ≡ node_or e.members back q) = message-by_rule (IsByRule (group_of groups e) (after_row groups e n m ev)) n e back
            (plan_row groups e n m ev).sends l by_rule x in
            shows-message groups e past n back (after_row groups e n m ev) y.0 l.from l.to l.body bound spot quiet y.1 y.2 y.3

    empty : (d ≡ e) ⊎ (d ≢ e) → (n ≡ groups.leader d) ⊎ (n ≢ groups.leader d) → (list ++ more ≡ []) ⊎ Ever (groups.leader d) d past
    empty (inl q) (inl x) = inr (subst (λ (z : NodeId). Ever z d past) x (subst (λ (z : Definition). Ever n z past) (sym q) bound))
    empty (inl q) (inr x) = still c.empty (follows (inr x))
      where
        still : (list ≡ []) ⊎ Ever (groups.leader d) d past → more ≡ [] → (list ++ more ≡ []) ⊎ Ever (groups.leader d) d past
        still (inl y) z = inl (rw (y, z))
        still (inr y) z = inr y
    empty (inr q) x = still c.empty (follows (inl (λ y. q (sym y))))
      where
        still : (list ≡ []) ⊎ Ever (groups.leader d) d past → more ≡ [] → (list ++ more ≡ []) ⊎ Ever (groups.leader d) d past
        still (inl y) z = inl (rw (y, z))
        still (inr y) z = inr y

    mine : (f : Definition) → f ≡ d → Ever (groups.leader d) d past → at n ≡ There f m → MayHear f said n back ev → Ever n f past → IsPlaced groups f n
        → at2 n ≡ There f (after_row groups f n m ev) → ((l : GroupMessage V) → said2 l → said l ⊎ IsMessageOf n f back (plan_row groups f n m ev).sends l)
        → (n ≡ groups.leader d → more ≡ all_committed (plan_row groups f n m ev).changes) → (n ≢ groups.leader d → more ≡ [])
        → AllGood (groups.rules f) [] (values (after_row groups f n m ev).history)
        → SomeWorld groups d past at2 said2 (list ++ more)
    mine f q led h1 h2 h3 h4 h5 h6 h7 h8 h9 =
        let old : SomeWorld groups d past at said list = c.coupled led in
        let same : old.0.at (position d.members n) ≡ m = old.1.there n m (subst (λ (z : Definition). at n ≡ There z m) q h1) in
        let g1 : MayHear d said n back ev = subst (λ (z : Definition). MayHear z said n back ev) q h2 in
        let g2 : at2 n ≡ There d (after_row groups d n (old.0.at (position d.members n)) ev) =
        subst (λ (y : Member V). at2 n ≡ There d (after_row groups d n y ev)) (sym same)
        (subst (λ (z : Definition). at2 n ≡ There z (after_row groups z n m ev)) q h5) in
        let g3 : ((l : GroupMessage V) → said2 l → said l ⊎ IsMessageOf n d back (plan_row groups d n (old.0.at (position d.members n)) ev).sends l) =
        subst (λ (y : Member V). (l : GroupMessage V) → said2 l → said l ⊎ IsMessageOf n d back (plan_row groups d n y ev).sends l) (sym same)
        (subst (λ (z : Definition). (l : GroupMessage V) → said2 l → said l ⊎ IsMessageOf n z back (plan_row groups z n m ev).sends l) q h6) in
        let g4 : (n ≡ groups.leader d → more ≡ all_committed (plan_row groups d n (old.0.at (position d.members n)) ev).changes) =
        subst (λ (y : Member V). n ≡ groups.leader d → more ≡ all_committed (plan_row groups d n y ev).changes) (sym same)
        (subst (λ (z : Definition). n ≡ groups.leader d → more ≡ all_committed (plan_row groups z n m ev).changes) q h7) in
        let g5 : AllGood (groups.rules d) [] (values (after_row groups d n (old.0.at (position d.members n)) ev).history) =
        subst (λ (y : Member V). AllGood (groups.rules d) [] (values (after_row groups d n y ev).history)) (sym same)
        (subst (λ (z : Definition). AllGood (groups.rules z) [] (values (after_row groups z n m ev).history)) q h9) in (
          group_carried_out (group_of groups d) old.0 (position d.members n) (plan_row groups d n (old.0.at (position d.members n)) ev),
          coupled-row groups d past at at2 said said2 list more old.0 n back ev (subst (λ (z : Definition). Ever n z past) q h3)
              (subst (λ (z : Definition). IsPlaced groups z n) q h4) g1 g5 g2 others g3 g4 h8 old.1,
        )

    coupled : Ever (groups.leader d) d past → (d ≡ e) ⊎ (d ≢ e) → SomeWorld groups d past at2 said2 (list ++ more)
    coupled led (inl q) = mine e (sym q) led is may bound spot new messages (leads (sym q)) (λ x. follows (inr x)) sound
    coupled led (inr q) =
        let old : SomeWorld groups d past at said list = c.coupled led in
        let none : more ≡ [] = follows (inl (λ y. q (sym y))) in (
          old.0,
          subst (λ (z : List V). Coupled groups d past at2 said2 z old.0) (sym (ap (λ (z : List V). list ++ z) none ∙ append-nil _))
              (coupled-other groups d e past at at2 said said2 list old.0 n back (plan_row groups e n m ev).sends
              (after_row groups e n m ev) q law bound led spot quiet by_rule new others messages old.1),
        )
