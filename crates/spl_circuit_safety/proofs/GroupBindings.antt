-- What else happens to a group of a definition: messages that count in none are sent, and a cell is purged, stops or is bound.
use Rattle.std.{specs.Prelude.if◌then◌else◌, proofs.Common.{◌≡◌, ◌≢◌, ℕ, ◌<◌, ◌⊎◌, true, List, [], ◌∷◌, length, refl, sym, ap, subst, ◌∙◌, inl, inr}}
use Rattle.spl_agree.specs.{Member.{Member, new_member, values, restarted}, World.{stopped as group_stopped, put}, Fits.AllGood}
use Rattle.spl_agree.{specs.declared.message.CommitMsg.CommitMsg, proofs.Tests.{put-same, put-other, if_holds, if_true}}
use Rattle.spl_agree.specs.declared.message.CommitMsg.TheVariants as msg
use Rattle.spl_circuit.specs.{Nodes.{NodeId, position, node_or}, Equality.same_definition, Same.{definition_is, definition_same}, Positions.node_at_position}
use Rattle.spl_circuit.specs.{Positions.member_below, declared.definition.Definition.Definition}
use Rattle.spl_group_safety.proofs.Agreement.{agrees-stopped, agrees-start}
use Rattle.spl_circuit_world.proofs.Nodes.{node_cases}
use Rattle.spl_circuit_safety.proofs.{Same.definition_cases, Positions.position-apart, GroupOfDefinition.{each-member, Groups, group_of, Presence}}
use Rattle.spl_circuit_safety.proofs.GroupOfDefinition.{GroupMessage, Ever, IsQuiet, Matters, Shows, Says, IsPlaced, SomeWorld, InGroups, there_is, Away}
use Rattle.spl_circuit_safety.proofs.GroupOfDefinition.{There}

-- messages that count in no group
abbrev pub IsHarmless : {V : Type 0} → CommitMsg V → Type 0
IsHarmless (msg.VoteRequest gen r place v) = ⊥
IsHarmless (msg.Decision gen r commit) = ⊥
IsHarmless (msg.Vote gen r true) = ⊥
IsHarmless _ = Unit {0}

-- a harmless message reports nothing
pub harmless-shows : {V : Type 0} (groups : Groups V) (past : List (NodeId × Definition)) (from to : NodeId) (x : CommitMsg V) → IsHarmless x
    → Shows groups past from to x
harmless-shows groups past from to (msg.VoteRequest gen r place v) h = absurd h
harmless-shows groups past from to (msg.Decision gen r commit) h = absurd h
harmless-shows groups past from to (msg.Vote gen r true) h = absurd h
harmless-shows groups past from to _ h = tt

-- a harmless message doesn't matter
pub harmless-not : {V : Type 0} (groups : Groups V) (d : Definition) (from to : NodeId) (x : CommitMsg V) → IsHarmless x → Matters groups d from to x → ⊥
harmless-not groups d from to (msg.VoteRequest gen r place v) h k = h
harmless-not groups d from to (msg.Decision gen r commit) h k = h
harmless-not groups d from to (msg.Vote gen r true) h k = h
harmless-not groups d from to _ h k = k

-- no cell changes, and what is new among the messages is harmless; there may be fewer
pub groups-messages : {V : Type 0} (groups : Groups V) (d : Definition) (past : List (NodeId × Definition)) (at at2 : NodeId → Presence V)
    (said said2 : GroupMessage V → Type 0) (list : List V) → ((k : NodeId) → at2 k ≡ at k) → ((l : GroupMessage V) → said2 l → said l ⊎ IsHarmless l.body)
    → InGroups groups d past at said list → InGroups groups d past at2 said2 list
groups-messages {V} groups d past at at2 said said2 list still messages c = record {
  ever = λ n e m h. c.ever n e m (sym (still n) ∙ h);
  quiet = λ n e m h. c.quiet n e m (sym (still n) ∙ h);
  placed = λ n e m h. c.placed n e m (sym (still n) ∙ h);
  shows = λ l s. shows l (messages l s);
  coupled = λ led. coupled (c.coupled led);
  empty = c.empty;
}
  where
    shows : (l : GroupMessage V) → said l ⊎ IsHarmless l.body → Shows groups past l.from l.to l.body
    shows l (inl x) = c.shows l x
    shows l (inr x) = harmless-shows groups past l.from l.to l.body x

    coupled : SomeWorld groups d past at said list → SomeWorld groups d past at2 said2 list
    coupled old = (
      old.0,
      record {
        agrees = old.1.agrees;
        there = λ n m h. old.1.there n m (sym (still n) ∙ h);
        never = old.1.never;
        known = λ l s k. known l k (messages l s);
        listed = old.1.listed;
        good = old.1.good;
      },
    )
      where
        known : (l : GroupMessage V) → Matters groups d l.from l.to l.body → said l ⊎ IsHarmless l.body → Says (position d.members l.from) l.body old.0.sent
        known l k (inl x) = old.1.known l x k
        known l k (inr x) = absurd (harmless-not groups d l.from l.to l.body x k)

-- no member is where the cell is not bound
pub away_not : {V : Type 0} (d : Definition) (m : Member V) → Away ≡ There d m → ⊥
away_not d m h = cc

-- a cell is no longer bound
pub groups-drop : {V : Type 0} (groups : Groups V) (d : Definition) (past : List (NodeId × Definition)) (at at2 : NodeId → Presence V)
    (said : GroupMessage V → Type 0) (list : List V) (n : NodeId) → at2 n ≡ Away → ((k : NodeId) → k ≢ n → at2 k ≡ at k)
    → InGroups groups d past at said list → InGroups groups d past at2 said list
groups-drop {V} groups d past at at2 said list n gone others c = record {
  ever = λ k e m h. c.ever k e m (before k e m h);
  quiet = λ k e m h. c.quiet k e m (before k e m h);
  placed = λ k e m h. c.placed k e m (before k e m h);
  shows = c.shows;
  coupled = λ led. coupled (c.coupled led);
  empty = c.empty;
}
  where
    before : (k : NodeId) (e : Definition) (m : Member V) → at2 k ≡ There e m → at k ≡ There e m
    before k e m h = go (node_cases k n)
      where
        go : (k ≡ n) ⊎ (k ≢ n) → at k ≡ There e m
        go (inl q) = absurd (away_not e m (sym gone ∙ subst (λ (z : NodeId). at2 z ≡ There e m) q h))
        go (inr q) = sym (others k q) ∙ h

    coupled : SomeWorld groups d past at said list → SomeWorld groups d past at2 said list
    coupled old = (
      old.0,
      record {
        agrees = old.1.agrees;
        there = λ k m h. old.1.there k m (before k d m h);
        never = old.1.never;
        known = old.1.known;
        listed = old.1.listed;
        good = old.1.good;
      },
    )

-- a cell forgets its open round
pub groups-restart : {V : Type 0} (groups : Groups V) (d e : Definition) (past : List (NodeId × Definition)) (at at2 : NodeId → Presence V)
    (said : GroupMessage V → Type 0) (list : List V) (n : NodeId) (m : Member V) → at n ≡ There e m → at2 n ≡ There e (restarted m)
    → ((k : NodeId) → k ≢ n → at2 k ≡ at k) → InGroups groups d past at said list → InGroups groups d past at2 said list
groups-restart {V} groups d e past at at2 said list n m is new others c = record {
  ever = each-member at at2 n e (restarted m) new others (λ k f x. Ever k f past) (c.ever n e m is) c.ever;
  quiet = each-member at at2 n e (restarted m) new others (λ k f x. IsQuiet x ⊎ Ever (groups.leader f) f past) (c.quiet n e m is) c.quiet;
  placed = each-member at at2 n e (restarted m) new others (λ k f x. IsPlaced groups f k) (c.placed n e m is) c.placed;
  shows = c.shows;
  coupled = λ led. coupled (c.coupled led) (definition_cases d e);
  empty = c.empty;
}
  where
    coupled : SomeWorld groups d past at said list → (d ≡ e) ⊎ (d ≢ e) → SomeWorld groups d past at2 said list
    coupled old (inr q) =
        (old.0, record { agrees = old.1.agrees; there = there; never = old.1.never; known = old.1.known; listed = old.1.listed; good = old.1.good })
      where
        there : (k : NodeId) (x : Member V) → at2 k ≡ There d x → old.0.at (position d.members k) ≡ x
        there k x h = go (node_cases k n)
          where
            go : (k ≡ n) ⊎ (k ≢ n) → old.0.at (position d.members k) ≡ x
            go (inl y) = absurd (q (sym (there_is e d (restarted m) x (sym new ∙ subst (λ (z : NodeId). at2 z ≡ There d x) y h)).0))
            go (inr y) = old.1.there k x (sym (others k y) ∙ h)
    coupled old (inl q) = (
      group_stopped old.0 i,
      record {
        agrees = agrees-stopped (group_of groups d) old.0 i spot.here old.1.agrees;
        there = there;
        never = never;
        known = old.1.known;
        listed = listed;
        good = old.1.good;
      },
    )
      where
        i : ℕ
        i = position d.members n

        spot : IsPlaced groups d n
        spot = subst (λ (z : Definition). IsPlaced groups z n) (sym q) (c.placed n e m is)

        same : old.0.at i ≡ m
        same = old.1.there n m (subst (λ (z : Definition). at n ≡ There z m) (sym q) is)

        apart : (k : NodeId) → k ≢ n → position d.members k ≢ i
        apart k y z = y (sym (position-apart d.members n k spot.few spot.here (sym z)))

        there : (k : NodeId) (x : Member V) → at2 k ≡ There d x → put old.0.at i (restarted (old.0.at i)) (position d.members k) ≡ x
        there k x h = go (node_cases k n)
          where
            go : (k ≡ n) ⊎ (k ≢ n) → put old.0.at i (restarted (old.0.at i)) (position d.members k) ≡ x
            go (inl y) = subst (λ (z : NodeId). put old.0.at i (restarted (old.0.at i)) (position d.members z) ≡ x) (sym y)
                (put-same old.0.at i (restarted (old.0.at i))
                ∙ (ap (λ (z : Member V). restarted z) same ∙ (there_is e d (restarted m) x (sym new ∙ subst (λ (z : NodeId). at2 z ≡ There d x) y h)).1))
            go (inr y) = put-other old.0.at i (restarted (old.0.at i)) (position d.members k) (apart k y) ∙ old.1.there k x (sym (others k y) ∙ h)

        never : (k : NodeId) → position d.members k < length d.members
            → (put old.0.at i (restarted (old.0.at i)) (position d.members k) ≡ new_member) ⊎ Ever k d past
        never k l = go (node_cases k n) (old.1.never k l)
          where
            go : (k ≡ n) ⊎ (k ≢ n) → (old.0.at (position d.members k) ≡ new_member) ⊎ Ever k d past
                → (put old.0.at i (restarted (old.0.at i)) (position d.members k) ≡ new_member) ⊎ Ever k d past
            go (inl y) x = inr (subst (λ (z : NodeId). Ever z d past) (sym y) (subst (λ (z : Definition). Ever n z past) (sym q) (c.ever n e m is)))
            go (inr y) (inl x) = inl (put-other old.0.at i (restarted (old.0.at i)) (position d.members k) (apart k y) ∙ x)
            go (inr y) (inr x) = inr x

        listed : values (put old.0.at i (restarted (old.0.at i)) (position d.members (groups.leader d))).history ≡ list
        listed = go (node_cases (groups.leader d) n)
          where
            go : (groups.leader d ≡ n) ⊎ (groups.leader d ≢ n)
                → values (put old.0.at i (restarted (old.0.at i)) (position d.members (groups.leader d))).history ≡ list
            go (inl y) =
                ap (λ (z : Member V). values z.history)
                (subst (λ (z : NodeId). put old.0.at i (restarted (old.0.at i)) (position d.members z) ≡ restarted (old.0.at i)) (sym y)
                (put-same old.0.at i (restarted (old.0.at i))))
                ∙ subst (λ (z : NodeId). values (old.0.at (position d.members z)).history ≡ list) y old.1.listed
            go (inr y) =
                ap (λ (z : Member V). values z.history)
                (put-other old.0.at i (restarted (old.0.at i)) (position d.members (groups.leader d)) (apart (groups.leader d) y)) ∙ old.1.listed

-- the member from which a group starts
abbrev pub start_of : {V : Type 0} → Definition → Presence V → Member V
start_of d Away = new_member
start_of d (There f m) = if same_definition f d then m else new_member

-- it is quiet
pub start-quiet : {V : Type 0} (d : Definition) (s : Presence V) → ((m : Member V) → s ≡ There d m → IsQuiet m) → IsQuiet (start_of d s)
start-quiet d Away h = (refl, refl)
start-quiet {V} d (There f m) h =
    if_holds IsQuiet (same_definition f d) m new_member (λ q. h m (ap (λ (u : Definition). There u m) (definition_is f d q))) (λ q. (refl, refl))

-- it is the member of a cell that is bound to d
pub start-there : {V : Type 0} (d : Definition) (s : Presence V) (m : Member V) → s ≡ There d m → start_of d s ≡ m
start-there {V} d s m h =
    subst (λ (z : Presence V). start_of d z ≡ m) (sym h) (if_true (λ x. x ≡ m) (same_definition d d) m new_member (definition_same d) refl)

-- elsewhere it is a new one
pub start-other : {V : Type 0} (d : Definition) (s : Presence V) → (start_of d s ≡ new_member) ⊎ ((m : Member V) × (s ≡ There d m))
start-other d Away = inl refl
start-other {V} d (There f m) =
    if_holds (λ z. (z ≡ new_member) ⊎ ((x : Member V) × (There f m ≡ There d x))) (same_definition f d) m new_member
    (λ q. inr (m, ap (λ (u : Definition). There u m) (definition_is f d q))) (λ q. inl refl)

-- beside a new member it is a new one
pub start-new : {V : Type 0} (d e : Definition) → start_of d (There e (new_member {V = V})) ≡ new_member
start-new {V} d e = if_holds (λ z. z ≡ new_member) (same_definition e d) new_member new_member (λ q. refl) (λ q. refl)

-- a cell is bound, with a member as it is made
pub groups-fresh : {V : Type 0} (groups : Groups V) (d e : Definition) (past : List (NodeId × Definition)) (at at2 : NodeId → Presence V)
    (said : GroupMessage V → Type 0) (list : List V) (n : NodeId) → ((f : Definition) → Ever n f past → f.generation ≢ e.generation) → IsPlaced groups e n
    → at2 n ≡ There e new_member → ((k : NodeId) → k ≢ n → at2 k ≡ at k) → InGroups groups d past at said list
    → InGroups groups d ((n, e) ∷ past) at2 said list
groups-fresh {V} groups d e past at at2 said list n fresh spot new others c = record {
  ever = each-member at at2 n e new_member new others (λ k f x. Ever k f ((n, e) ∷ past)) (inl (refl, refl)) (λ k f x h. inr (c.ever k f x h));
  quiet = each-member at at2 n e new_member new others (λ k f x. IsQuiet x ⊎ Ever (groups.leader f) f ((n, e) ∷ past)) (inl (refl, refl))
      (λ k f x h. more f x (c.quiet k f x h));
  placed = each-member at at2 n e new_member new others (λ k f x. IsPlaced groups f k) spot c.placed;
  shows = λ l s. shows l.from l.to l.body (c.shows l s);
  coupled = coupled;
  empty = empty c.empty;
}
  where
    more : (f : Definition) (x : Member V) → IsQuiet x ⊎ Ever (groups.leader f) f past → IsQuiet x ⊎ Ever (groups.leader f) f ((n, e) ∷ past)
    more f x (inl h) = inl h
    more f x (inr h) = inr (inr h)

    empty : (list ≡ []) ⊎ Ever (groups.leader d) d past → (list ≡ []) ⊎ Ever (groups.leader d) d ((n, e) ∷ past)
    empty (inl h) = inl h
    empty (inr h) = inr (inr h)

    shows : (from to : NodeId) (x : CommitMsg V) → Shows groups past from to x → Shows groups ((n, e) ∷ past) from to x
    shows from to (msg.VoteRequest gen r place v) h = (h.0, inr h.1, h.2, h.3)
    shows from to (msg.Decision gen r commit) h = (h.0, inr h.1, h.2)
    shows from to (msg.Vote gen r true) h = (h.0, inr h.1, h.2)
    shows from to _ h = tt

    old_world : SomeWorld groups d past at said list → SomeWorld groups d ((n, e) ∷ past) at2 said list
    old_world old = (
      old.0,
      record {
        agrees = old.1.agrees;
        there = there;
        never = λ k l. later k (old.1.never k l);
        known = old.1.known;
        listed = old.1.listed;
        good = old.1.good;
      },
    )
      where
        later : (k : NodeId) → (old.0.at (position d.members k) ≡ new_member) ⊎ Ever k d past
            → (old.0.at (position d.members k) ≡ new_member) ⊎ Ever k d ((n, e) ∷ past)
        later k (inl h) = inl h
        later k (inr h) = inr (inr h)

        unbound : e ≡ d → (old.0.at (position d.members n) ≡ new_member) ⊎ Ever n d past → old.0.at (position d.members n) ≡ new_member
        unbound q (inl h) = h
        unbound q (inr h) = absurd (fresh d h (sym (ap (λ (z : Definition). z.generation) q)))

        there : (k : NodeId) (x : Member V) → at2 k ≡ There d x → old.0.at (position d.members k) ≡ x
        there k x h = go (node_cases k n)
          where
            go : (k ≡ n) ⊎ (k ≢ n) → old.0.at (position d.members k) ≡ x
            go (inl y) = let z : (e ≡ d) × (new_member ≡ x) = there_is e d new_member x (sym new ∙ subst (λ (u : NodeId). at2 u ≡ There d x) y h) in
                subst (λ (u : NodeId). old.0.at (position d.members u) ≡ x) (sym y)
                (unbound z.0 (old.1.never n (subst (λ (u : Definition). position u.members n < length u.members) z.0 spot.here)) ∙ z.1)
            go (inr y) = old.1.there k x (sym (others k y) ∙ h)

    -- the coordinator is bound only now
    new_world : groups.leader d ≡ n → d ≡ e → SomeWorld groups d ((n, e) ∷ past) at2 said list
    new_world q r = (
      record { at = start; sent = [] },
      record {
        agrees = agrees-start (group_of groups d) start
            (record { empty = λ i. (calm i).0; free = λ i. (calm i).1; shut = ap (λ (z : Member V). z.opened) begins });
        there = there;
        never = never;
        known = λ l s k. absurd (none l.from l.to l.body (c.shows l s) k);
        listed = ap (λ (z : Member V). values z.history) begins ∙ sym (no_list c.empty);
        good = subst (λ (z : List V). AllGood (groups.rules d) [] z) (sym (no_list c.empty)) tt;
      },
    )
      where
        fits : IsPlaced groups d n
        fits = subst (λ (u : Definition). IsPlaced groups u n) (sym r) spot

        start : ℕ → Member V
        start i = start_of d (at2 (node_or d.members [] i))

        none_before : (k : NodeId) (f : Definition) → Ever k f past → k ≡ groups.leader d → f.generation ≡ d.generation → ⊥
        none_before k f h x y = fresh f (subst (λ (u : NodeId). Ever u f past) (x ∙ q) h) (y ∙ ap (λ (u : Definition). u.generation) r)

        quiet_one : (k : NodeId) (m : Member V) → at2 k ≡ There d m → IsQuiet m
        quiet_one k m h = go (node_cases k n)
          where
            sub : IsQuiet m ⊎ Ever (groups.leader d) d past → IsQuiet m
            sub (inl x) = x
            sub (inr x) = absurd (none_before (groups.leader d) d x refl refl)

            go : (k ≡ n) ⊎ (k ≢ n) → IsQuiet m
            go (inl y) = subst IsQuiet (there_is e d new_member m (sym new ∙ subst (λ (u : NodeId). at2 u ≡ There d m) y h)).1 (refl, refl)
            go (inr y) = sub (c.quiet k d m (sym (others k y) ∙ h))

        calm : (i : ℕ) → IsQuiet (start i)
        calm i = start-quiet d (at2 (node_or d.members [] i)) (quiet_one (node_or d.members [] i))

        at_lead : node_or d.members [] (position d.members (groups.leader d)) ≡ n
        at_lead = node_at_position d.members [] (groups.leader d) fits.lead_in ∙ q

        begins : start (position d.members (groups.leader d)) ≡ new_member
        begins = ap (λ (u : NodeId). start_of d (at2 u)) at_lead ∙ (ap (λ (u : Presence V). start_of d u) new ∙ start-new d e)

        no_list : (list ≡ []) ⊎ Ever (groups.leader d) d past → list ≡ []
        no_list (inl x) = x
        no_list (inr x) = absurd (none_before (groups.leader d) d x refl refl)

        is_placed : (k : NodeId) (x : Member V) → at2 k ≡ There d x → IsPlaced groups d k
        is_placed k x h = each-member at at2 n e new_member new others (λ k f x. IsPlaced groups f k) spot c.placed k d x h

        there : (k : NodeId) (x : Member V) → at2 k ≡ There d x → start (position d.members k) ≡ x
        there k x h = ap (λ (u : NodeId). start_of d (at2 u)) (node_at_position d.members [] k (is_placed k x h).here_in) ∙ start-there d (at2 k) x h

        never : (k : NodeId) → position d.members k < length d.members → (start (position d.members k) ≡ new_member) ⊎ Ever k d ((n, e) ∷ past)
        never k l = go (start-other d (at2 k))
          where
            same : start (position d.members k) ≡ start_of d (at2 k)
            same = ap (λ (u : NodeId). start_of d (at2 u)) (node_at_position d.members [] k (member_below d.members k fits.few l))

            go : (start_of d (at2 k) ≡ new_member) ⊎ ((m : Member V) × (at2 k ≡ There d m))
                → (start (position d.members k) ≡ new_member) ⊎ Ever k d ((n, e) ∷ past)
            go (inl x) = inl (same ∙ x)
            go (inr x) =
                inr (each-member at at2 n e new_member new others (λ k f x. Ever k f ((n, e) ∷ past)) (inl (refl, refl))
                (λ k f x h. inr (c.ever k f x h)) k d x.0 x.1)

        none : (from to : NodeId) (x : CommitMsg V) → Shows groups past from to x → Matters groups d from to x → ⊥
        none from to (msg.VoteRequest gen rr place v) h k = none_before from h.0 h.1 k.0 (h.2 ∙ k.1)
        none from to (msg.Decision gen rr commit) h k = none_before from h.0 h.1 k.0 (h.2 ∙ k.1)
        none from to (msg.Vote gen rr true) h k = none_before to h.0 h.1 k.0 (h.2 ∙ k.1)
        none from to _ h k = k

    coupled : Ever (groups.leader d) d ((n, e) ∷ past) → SomeWorld groups d ((n, e) ∷ past) at2 said list
    coupled (inl h) = new_world h.0 h.1
    coupled (inr h) = old_world (c.coupled h)
