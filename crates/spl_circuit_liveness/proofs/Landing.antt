-- Where the sends of a plan land, and the cell after it.
use Rattle.std.{specs.{Prelude.{None, nat_lt, map}, Str.bytes_eq}, proofs.Common.{◌≡◌, ◌≢◌, ℕ, ◌<◌, ◌≤◌, ◌⊎◌, true, false, List, [], ◌∷◌, ◌++◌, length, sym}}
use Rattle.std.proofs.Common.{ap, subst, ◌∙◌, inl, inr}
use Rattle.spl_wire.specs.declared.change.Change.TheVariants as durable
use Rattle.spl_agree.specs.{Member.{Member, changed_by}, Fits.generation_of, World.after, declared.{message.CommitMsg.CommitMsg, plan.GroupPlan.GroupPlan}}
use Rattle.spl_agree.proofs.Tests.{bool_cases, ltb_is, ltb_not}
use Rattle.spl_agree.specs.declared.event.OpenMove.TheVariants as move
use Rattle.spl_circuit.specs.{Nodes.{NodeId, has_node, position, node_or}, Rules.broken, Acts.act_rules, Positions.{node_at_position, node_or_out}}
use Rattle.spl_circuit.specs.declared.{act.Act.Act, definition.Definition.Definition}
use Rattle.spl_circuit.specs.declared.lifecycle.Mark.TheVariants as mark
use Rattle.spl_command.specs.declared.batch.Batch.{Batch}
use Rattle.spl_cell_rules.specs.{Cells.{Cell, Held, Bound}, Changes.{changes_made, moved_cell}}
use Rattle.spl_circuit_world.proofs.Nodes.{node_other}
use Rattle.spl_circuit_safety.proofs.{GroupOfDefinition.{AllPosts, group_of}, GroupWorlds.{admin_groups, service_groups}, CoupledDeeds.made-admin}
use Rattle.spl_circuit_safety.proofs.CoupledDeeds.{made-service, made-append}
use Rattle.spl_circuit_liveness.proofs.Places.{position-at}

-- a message of the generation, to a member or back to this node
abbrev pub Lands : {V : Type 0} → Definition → NodeId → NodeId → ℕ → CommitMsg V → Type 0
Lands d n back q x = (generation_of x ≡ d.generation) × ((q < length d.members) ⊎ (back ≡ n))

pub posts-more : {V : Type 0} (P Q : ℕ → CommitMsg V → Type 0) (ss : List (ℕ × CommitMsg V)) → ((q : ℕ) (x : CommitMsg V) → P q x → Q q x) → AllPosts P ss
    → AllPosts Q ss
posts-more P Q [] f a = tt
posts-more P Q (s ∷ ss) f a = (f s.0 s.1 a.0, posts-more P Q ss f a.1)

-- it goes to a member where the position is the member's
pub lands-there : (d : Definition) (back y : NodeId) (q : ℕ) → has_node d.members y ≡ true → q ≡ position d.members y → node_or d.members back q ≡ y
lands-there d back y q h e = ap (λ (i : ℕ). node_or d.members back i) e ∙ node_at_position d.members back y h

pub lands-elsewhere : (d : Definition) (n back y : NodeId) (q : ℕ) → broken d ≡ None → y ≢ n → (q < length d.members) ⊎ (back ≡ n)
    → q ≢ position d.members y → bytes_eq (node_or d.members back q) y ≡ false
lands-elsewhere d n back y q ruled dif f other = node_other (node_or d.members back q) y (λ e. go f (bool_cases (nat_lt q (length d.members))) e)
  where
    near : q < length d.members → node_or d.members back q ≡ y → ⊥
    near l e = other (sym (position-at d back q ruled l) ∙ ap (λ (z : NodeId). position d.members z) e)

    go : (q < length d.members) ⊎ (back ≡ n) → (nat_lt q (length d.members) ≡ true) ⊎ (nat_lt q (length d.members) ≡ false) → node_or d.members back q ≡ y → ⊥
    go (inl l) t e = near l e
    go (inr b) (inl t) e = near (ltb_is q (length d.members) t) e
    go (inr b) (inr t) e = dif (sym e ∙ (node_or_out d.members back q (ltb_not q (length d.members) t) ∙ b))

-- nothing comes to a member where all goes back to a node that is none
pub lands-back : (d : Definition) (from y : NodeId) (q : ℕ) → length d.members ≤ q → has_node d.members y ≡ true → has_node d.members from ≡ false
    → bytes_eq (node_or d.members from q) y ≡ false
lands-back d from y q l h none =
    node_other (node_or d.members from q) y
    (λ e. let z : from ≡ y = sym (node_or_out d.members from q l) ∙ e in
    let k : has_node d.members y ≡ false = subst (λ (u : NodeId). has_node d.members u ≡ false) z none in cc)

-- ---- cells after a plan of a group

-- what is kept at an open cell that is bound to the definition
abbrev pub open_at : Definition → ℕ → Member Act → Member Batch → Bound
open_at d t a b = record { definition = d; mark = mark.Open; turn = t; acts = a; batches = b }

pub after-acts : (n : NodeId) (b : Bound) (p : GroupPlan Act)
    → (u : ℕ) × (moved_cell n (changes_made n (Held b) (map durable.Admin p.changes)) p.opening move.Keep
    ≡ Held (record b { turn = u; acts = after (group_of admin_groups b.definition) (position b.definition.members n) b.acts p }))
after-acts n b p =
    let x : (u : ℕ) × (changes_made n (Held b) (map durable.Admin p.changes)
    ≡ Held (record b { turn = u; acts = changed_by (act_rules b.definition) b.acts p.changes })) = made-admin n b p.changes in
    (x.0, ap (λ (z : Cell). moved_cell n z p.opening move.Keep) x.1)

pub after-serves : (n : NodeId) (b : Bound) (p : GroupPlan Batch)
    → moved_cell n (changes_made n (Held b) (map durable.Service p.changes)) move.Keep p.opening
    ≡ Held (record b { batches = after (group_of service_groups b.definition) (position b.definition.members n) b.batches p })
after-serves n b p = ap (λ (z : Cell). moved_cell n z move.Keep p.opening) (made-service n b p.changes)

pub after-both : (n : NodeId) (b : Bound) (p : GroupPlan Act) (q : GroupPlan Batch)
    → (u : ℕ) × (moved_cell n (changes_made n (Held b) (map durable.Admin p.changes ++ map durable.Service q.changes)) p.opening q.opening
    ≡ Held (record b {
      turn = u;
      acts = after (group_of admin_groups b.definition) (position b.definition.members n) b.acts p;
      batches = after (group_of service_groups b.definition) (position b.definition.members n) b.batches q;
    }))
after-both n b p q =
    let x : (u : ℕ) × (changes_made n (Held b) (map durable.Admin p.changes)
    ≡ Held (record b { turn = u; acts = changed_by (act_rules b.definition) b.acts p.changes })) = made-admin n b p.changes in (
      x.0,
      ap (λ (z : Cell). moved_cell n z p.opening q.opening)
          (made-append n (Held b) (map durable.Admin p.changes) (map durable.Service q.changes)
          ∙ (ap (λ (z : Cell). changes_made n z (map durable.Service q.changes)) x.1
          ∙ made-service n (record b { turn = x.0; acts = changed_by (act_rules b.definition) b.acts p.changes }) q.changes)),
    )
