-- What a calm needs of a circuit, and what it gives (docs/RULES.md, Calm).
use Rattle.std.specs.Prelude.{◌≡◌, ◌⊎◌, Bool, true, [], None}
use Rattle.spl_agree.specs.Member.{Member, new_member, values}
use Rattle.spl_circuit.specs.{Nodes.{NodeId, has_node}, Rules.{admin, is_member}, Lifecycle.{life, is_running}, declared.act.Act.Act}
use Rattle.spl_circuit.specs.declared.definition.Definition.{Definition}
use Rattle.spl_circuit.specs.declared.lifecycle.Mark.TheVariants as mark
use Rattle.spl_command.specs.declared.batch.Batch.{Batch}
use Rattle.spl_group_liveness.specs.Bound.{InHistory, IsPending, IsRefused}
use Rattle.spl_cell_rules.specs.Cells.{Cell, Held}
use Rattle.spl_circuit_world.specs.Worlds.{World}

-- what a cell keeps of acts, and of batches; a cell that is not bound keeps nothing
abbrev pub cell_acts : Cell → Member Act
cell_acts (Held h) = h.acts
cell_acts _ = new_member

abbrev pub cell_batches : Cell → Member Batch
cell_batches (Held h) = h.batches
cell_batches _ = new_member

-- what each node keeps of them
abbrev pub acts_kept : World → NodeId → Member Act
acts_kept w n = cell_acts (w.at n)

abbrev pub batches_kept : World → NodeId → Member Batch
batches_kept w n = cell_batches (w.at n)

-- the cell is bound to the definition, and the node takes part
abbrev pub IsOpenIn : Definition → Cell → Type 0
IsOpenIn d (Held h) = (h.definition ≡ d) × (h.mark ≡ mark.Open)
IsOpenIn d _ = ⊥

-- something holds of each member
abbrev pub AtMembers : Definition → (NodeId → Type 0) → Type 0
AtMembers d P = (n : NodeId) → is_member d n ≡ true → P n

-- all members are registered and up, and their cells are bound to the definition and open
pub record IsWhole (w : World) (d : Definition) : Type 0 where
  pub registered : AtMembers d (λ n. has_node w.nodes n ≡ true)
  pub up : AtMembers d (λ n. w.up n ≡ true)
  pub open_cells : AtMembers d (λ n. IsOpenIn d (w.at n))

-- by what is kept of acts the circuit runs
abbrev pub is_running_by : Definition → Member Act → Bool
is_running_by d a = is_running (life d (values a.history)).state

-- the circuit runs at all members
abbrev pub RunsAtAll : World → Definition → Type 0
RunsAtAll w d = AtMembers d (λ n. is_running_by d (acts_kept w n) ≡ true)

-- it goes on so in a calm: no act is pending at a member, and the coordinator has no round of acts open
pub record IsRunningAll (w : World) (d : Definition) : Type 0 where
  pub runs : RunsAtAll w d
  pub idle : AtMembers d (λ n. (acts_kept w n).pending ≡ [])
  pub shut : (acts_kept w (admin d)).opened ≡ None

-- the value is in the history of every member, or the coordinator has refused it and it is pending at no member
abbrev pub IsValueSettled : {V : Type 0} → Definition → NodeId → V → (NodeId → Member V) → Type 0
IsValueSettled d leader v kept = AtMembers d (λ n. InHistory v (kept n)) ⊎ (IsRefused v (kept leader) × AtMembers d (λ n. IsPending v (kept n) → ⊥))
