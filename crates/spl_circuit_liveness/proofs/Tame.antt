-- What each cell keeps of its groups by itself, over a run: the keys of pending values differ, numbers grow by one at most
-- in an event, and a member has seen no round but one that its coordinator has asked for.
use Rattle.std.{specs.Prelude.{Option, None}, proofs.Common.{◌≡◌, ◌≢◌, ℕ, ◌+◌, ◌⊎◌, true, eqb, refl, sym, ap, subst, ◌∙◌, inl, inr}}
use Rattle.spl_agree.specs.Member.{Rules, Member, new_member, restarted, values, found, found_refused, known, or_else, value_of}
use Rattle.spl_agree.{specs.declared.{event.GroupEvent.GroupEvent, reason.Reason.Reason}, proofs.Tests.{eqb_is, eqb_same}}
use Rattle.spl_agree.specs.declared.message.CommitMsg.TheVariants as msg
use Rattle.spl_agree.specs.declared.event.GroupEvent.TheVariants as event
use Rattle.spl_circuit.specs.{Nodes.{NodeId, position}, Rules.broken, Acts.act_rules, Same.{act_same, key_parts, key_from}}
use Rattle.spl_circuit.{specs.declared.definition.Definition.Definition, proofs.Valid.few_members}
use Rattle.spl_scabbard.specs.{Checks.batch_rules, Same.same_batches}
use Rattle.spl_group_liveness.{specs.Bound.IsKeyed, proofs.Steady.{IsSteady, IsFair, Asks, steady-new, steady-more, steady-restarted, steady-row, seen-row}}
use Rattle.spl_circuit_safety.proofs.{Positions.position-apart, GroupOfDefinition.{Groups, GroupMessage, IsPlaced, MayHear, after_row, group_of}}
use Rattle.spl_circuit_safety.proofs.CoupledSteps.{IsNew}

-- ---- keys

pub keyed-acts : (d : Definition) → IsKeyed (act_rules d)
keyed-acts d = record {
  self = λ v. key_from v v refl refl;
  turned = λ u v h. let k = key_parts u v h in key_from v u (sym k.0) (sym k.1);
  through = λ u v w h k. let x = key_parts u v h in let y = key_parts v w k in key_from u w (x.0 ∙ y.0) (x.1 ∙ y.1);
  same = act_same;
}

pub keyed-batches : IsKeyed batch_rules
keyed-batches = record {
  self = λ v. eqb_same v.id;
  turned = λ u v h. subst (λ (z : ℕ). eqb z u.id ≡ true) (eqb_is u.id v.id h) (eqb_same u.id);
  through = λ u v w h k. subst (λ (z : ℕ). eqb u.id z ≡ true) (eqb_is u.id v.id h ∙ eqb_is v.id w.id k) (eqb_same u.id);
  same = λ v. (same_batches v v).1 refl;
}

-- ---- a member

-- the coordinator has sent a request for this round
abbrev pub WasAsked : {V : Type 0} → Groups V → Definition → (GroupMessage V → Type 0) → ℕ → Type 0
WasAsked {V} groups d said r =
    (l : GroupMessage V) × said l × (l.from ≡ groups.leader d) × (place : ℕ) × (v : V) × (l.body ≡ msg.VoteRequest d.generation r place v)

pub record IsTame {V : Type 0} (groups : Groups V) (d : Definition) (n : NodeId) (said : GroupMessage V → Type 0) (count : ℕ) (m : Member V) : Type 0 where
  pub steady : IsSteady (group_of groups d) count m
  pub heard : n ≢ groups.leader d → (m.seen ≡ 0) ⊎ WasAsked groups d said m.seen

pub tame-new : {V : Type 0} (groups : Groups V) (d : Definition) (n : NodeId) (said : GroupMessage V → Type 0) (count : ℕ)
    → IsTame groups d n said count new_member
tame-new groups d n said count = record { steady = steady-new (group_of groups d) count; heard = λ q. inl refl }

-- what is said stays said
pub tame-said : {V : Type 0} (groups : Groups V) (d : Definition) (n : NodeId) (said said2 : GroupMessage V → Type 0) (count : ℕ) (m : Member V)
    → ((l : GroupMessage V) → said l → said2 l) → IsTame groups d n said count m → IsTame groups d n said2 count m
tame-said {V} groups d n said said2 count m more t = record { steady = t.steady; heard = λ q. go (t.heard q) }
  where
    go : (m.seen ≡ 0) ⊎ WasAsked groups d said m.seen → (m.seen ≡ 0) ⊎ WasAsked groups d said2 m.seen
    go (inl e) = inl e
    go (inr a) = inr (a.0, more a.0 a.1, a.2, a.3, a.4, a.5)

pub tame-more : {V : Type 0} (groups : Groups V) (d : Definition) (n : NodeId) (said : GroupMessage V → Type 0) (count : ℕ) (m : Member V)
    → IsTame groups d n said count m → IsTame groups d n said (count + 1) m
tame-more groups d n said count m t = record { steady = steady-more (group_of groups d) count m t.steady; heard = t.heard }

pub tame-restarted : {V : Type 0} (groups : Groups V) (d : Definition) (n : NodeId) (said : GroupMessage V → Type 0) (count : ℕ) (m : Member V)
    → IsTame groups d n said count m → IsTame groups d n said count (restarted m)
tame-restarted groups d n said count m t = record { steady = steady-restarted (group_of groups d) count m t.steady; heard = t.heard }

-- what is not known is not pending
pub not-pending : {V : Type 0} (rules : Rules V) (m : Member V) (v : V) → known rules m v ≡ None → found (rules.same_key v) m.pending ≡ None
not-pending {V} rules m v h =
    go (found (rules.same_key v) (values m.history)) (found (rules.same_key v) m.pending) (found_refused (rules.same_key v) m.refused) h
  where
    go : (x y : Option V) (z : Option (V × Reason)) → or_else x (or_else y (value_of z)) ≡ None → y ≡ None
    go None None z k = refl
    go _ _ z k = cc

-- what may be heard at a cell is fair
pub fair-hear : {V : Type 0} (groups : Groups V) (d : Definition) (n back : NodeId) (said : GroupMessage V → Type 0) (m : Member V) (e : GroupEvent V)
    → IsPlaced groups d n → MayHear d said n back e → IsNew (groups.rules d) m e → IsFair (group_of groups d) (position d.members n) m e
fair-hear groups d n back said m (event.Submit v) p h new = not-pending (groups.rules d) m v new.0
fair-hear groups d n back said m (event.From s x) p h new = λ q. h.3 (sym (position-apart d.members n back p.few p.here (sym q ∙ h.0)))
fair-hear groups d n back said m _ p h new = tt

-- a request that is heard was sent by the coordinator
pub asked-hear : {V : Type 0} (groups : Groups V) (d : Definition) (n back : NodeId) (said : GroupMessage V → Type 0) (e : GroupEvent V) (r : ℕ)
    → IsPlaced groups d n → MayHear d said n back e → Asks (group_of groups d) r e → WasAsked groups d said r
asked-hear {V} groups d n back said e r p h a = go (subst (λ (z : GroupEvent V). MayHear d said n back z) a.3 h)
  where
    named : (gen : ℕ) → gen ≡ d.generation → msg.VoteRequest gen r a.1 a.2 ≡ msg.VoteRequest d.generation r a.1 a.2
    named gen q = ap (λ (z : ℕ). msg.VoteRequest z r a.1 a.2) q

    go : MayHear d said n back (event.From (position d.members (groups.leader d)) (msg.VoteRequest a.0 r a.1 a.2)) → WasAsked groups d said r
    go k = (
      record { from = back; to = n; body = msg.VoteRequest a.0 r a.1 a.2 },
      k.1,
      sym (position-apart d.members (groups.leader d) back p.few p.leads k.0),
      a.1,
      a.2,
      named a.0 k.2,
    )

-- a row keeps a member tame
pub tame-row : {V : Type 0} (groups : Groups V) (d : Definition) (n back : NodeId) (said : GroupMessage V → Type 0) (count : ℕ) (m : Member V)
    (e : GroupEvent V) → IsKeyed (groups.rules d) → broken d ≡ None → IsPlaced groups d n → MayHear d said n back e → IsNew (groups.rules d) m e
    → IsTame groups d n said count m → IsTame groups d n said (count + 1) (after_row groups d n m e)
tame-row {V} groups d n back said count m e keyed ruled p h new t = record {
  steady = steady-row (group_of groups d) keyed (few_members d ruled).0 count (position d.members n) m e fair t.steady;
  heard = λ off. go off (seen-row (group_of groups d) (position d.members n) m e (λ q. off (position-apart d.members n (groups.leader d) p.few p.here q)) fair);
}
  where
    fair : IsFair (group_of groups d) (position d.members n) m e
    fair = fair-hear groups d n back said m e p h new

    go : n ≢ groups.leader d → ((after_row groups d n m e).seen ≡ m.seen) ⊎ Asks (group_of groups d) (after_row groups d n m e).seen e
        → ((after_row groups d n m e).seen ≡ 0) ⊎ WasAsked groups d said (after_row groups d n m e).seen
    go off (inl q) = subst (λ (r : ℕ). (r ≡ 0) ⊎ WasAsked groups d said r) (sym q) (t.heard off)
    go off (inr a) = inr (asked-hear groups d n back said e (after_row groups d n m e).seen p h a)
