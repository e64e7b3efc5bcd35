-- What the status of an end says of it.
use Rattle.std.proofs.Common.{◌≡◌, ◌⊎◌, ⊎_elim, inl, inr, ◌<◌, ℕ, true, List, [], ◌∷◌, ◌++◌, length, refl, sym, ◌∙◌, Ok, Err, Some, subst}
use Rattle.spl_acceptor.specs.declared.group.Group.{Group}
use Rattle.spl_cli.specs.{Command.reads, Registered.EndsReading, declared.{command.Command.Command, status.Status.Status}}
use Rattle.spl_cli.specs.declared.command.Command.TheVariants as command
use Rattle.spl_cli.specs.declared.status.Status.TheVariants as status
use Rattle.spl_audit.{specs.Audit.{CameOfAudit, IsAuditStatus}, proofs.Audits.audit_usage}
use Rattle.spl_edge.specs.Devices.{PairView, SinkView, SourceView}
use Rattle.spl_paxos_run.{specs.{Paxos.CameOfGroup, Run.PaxosDevices as GroupDevices}, proofs.GroupComplete.group_usage}
use Rattle.spl_pump.specs.Wires.{LiesOf}
use Rattle.spl_pump.specs.declared.fault.PumpFault.TheVariants as pump
use Rattle.spl_registry.specs.Nodes.{Entry}
use Rattle.spl_runs.specs.Run.{Plan, RunMode, Devices, Ended, Why}
use Rattle.spl_runs.specs.declared.fault.RunEnd.TheVariants as end
use Rattle.spl_runs.specs.declared.fault.RunFault.TheVariants as fault
use Rattle.spl_world.specs.Links.{MayBeDue}
use Rattle.spl_world.specs.declared.fault.WorldFault.TheVariants as error
use Rattle.spl_app.specs.{Asked.{Outside, runs_circuits, IsStatusOf}, Headline.{Began, CameOfPlan, NotBegun}, Parts.EndNamesNodes}

-- ---- the nodes that it names

nothing_ends : (before bytes : List ℕ) → [] ≡ before ++ bytes → bytes ≡ []
nothing_ends [] bytes e = sym e
nothing_ends (x ∷ before) bytes e = absurd cc

-- nothing that was put and taken is no lie
pub no_lie : (Due : ℕ → ℕ → List ℕ → Type 0) (sent got : List ℕ) → LiesOf Due (pump.Lied sent got) (λ a b. Some []) (λ a b. Some []) → ⊥
no_lie Due sent got (a, b, due, on) = on.differ (nothing_ends on.put_last.0 sent on.put_last.1 ∙ sym (nothing_ends on.taken_last.0 got on.taken_last.1))

-- those of an end are of the plan
pub named : (e : Ended) (w : RunMode) (p : Plan) (x y : Devices)
    → ((from to : ℕ) (sent got : List ℕ) (i : ℕ) → LiesOf (MayBeDue x.links.hello from to) (pump.Lied sent got) y.links.put y.links.taken
    → i < x.links.slots → i < length p.nodes) → Why e w p x y → EndNamesNodes p.nodes e
named (Err (fault.World (error.Disk k))) w p x y of_plan h = h.0
named (Err (fault.World (error.NotAJournal k at))) w p x y of_plan h = h
named (Err (fault.World (error.Lied from to sent got))) w p x y of_plan h = (of_plan from to sent got from h.2 h.0, of_plan from to sent got to h.2 h.1)
named e w p x y of_plan h = tt

-- where memory ran out it says so
pub memory_status : (es : List Entry) (e : Ended) (s : Status) → e ≡ Err fault.NoMemory → IsStatusOf es e s → s ≡ status.NoMemory
memory_status es e s is h = subst (λ (f : Ended). IsStatusOf es f s) is h

-- ---- words that are a command

end_usage : (es : List Entry) (e : Ended) → IsStatusOf es e status.Usage → ⊥
end_usage es (Ok end.Whole) h = cc
end_usage es (Ok end.Read) h = cc
end_usage es (Ok end.TooLong) h = cc
end_usage es (Err (fault.BadLine n)) h = cc
end_usage es (Err (fault.World (error.TooMany which))) h = cc
end_usage es (Err (fault.World (error.Disk k))) (n, there, h) = cc
end_usage es (Err (fault.World (error.NotAJournal k at))) (n, there, h) = cc
end_usage es (Err (fault.World error.Link)) h = cc
end_usage es (Err (fault.World (error.Lied from to sent got))) (a, b, first, second, h) = cc
end_usage es (Err (fault.World error.NoMemory)) h = cc
end_usage es (Err fault.Write) h = cc
end_usage es (Err fault.NoMemory) h = cc

usage_plan : (m : Command) (r q c d : SourceView) (x y : Outside) → CameOfPlan status.Usage m r q c d x y → ⊥
usage_plan m r q c d x y h =
    ⊎_elim (λ (n : NotBegun status.Usage m h.plan c d x y). n.why)
    (λ (b : Began status.Usage m h.plan c d x y). end_usage h.plan.nodes b.ended b.status) h.comes

usage_run : (A : Type 0) (s : Status) (m : Command) (r q c d : SourceView) (x y : Outside)
    → ((reads m ≡ true) × EndsReading s r q × A) ⊎ CameOfPlan s m r q c d x y → s ≡ status.Usage → ⊥
usage_run A s m r q c d x y (inl h) is = subst (λ (t : Status). EndsReading t r q) is h.1
usage_run A s m r q c d x y (inr h) is = usage_plan m r q c d x y (subst (λ (t : Status). CameOfPlan t m r q c d x y) is h)

usage_audit : (A : Type 0) (s : Status) (r q : SourceView) (ps qs : List PairView) (w z : SinkView) → (EndsReading s r q × A) ⊎ CameOfAudit s r q ps qs w z
    → s ≡ status.Usage → ⊥
usage_audit A s r q ps qs w z (inl h) is = subst (λ (t : Status). EndsReading t r q) is h.0
usage_audit A s r q ps qs w z (inr h) is =
    audit_usage h.nodes h.audited.ended (subst (λ (t : Status). IsAuditStatus h.nodes h.audited.ended t) is h.audited.status)

module _ (A : Type 0) (s : Status) (r q c d : SourceView) (x y : Outside) (ps qs : List PairView) (w z : SinkView) (k l : GroupDevices) where
  -- of which nothing else comes than Usage
  pub no_usage : (m : Command) → (runs_circuits m ≡ true → ((reads m ≡ true) × EndsReading s r q × A) ⊎ CameOfPlan s m r q c d x y)
      → (m ≡ command.Audit → (EndsReading s r q × A) ⊎ CameOfAudit s r q ps qs w z)
      → ((g : Group) → m ≡ command.Paxos g → CameOfGroup s g c d k l) → s ≡ status.Usage → ⊥
  no_usage command.Replay circuits audited rounds is = usage_run A s command.Replay r q c d x y (circuits refl) is
  no_usage command.Trace circuits audited rounds is = usage_run A s command.Trace r q c d x y (circuits refl) is
  no_usage command.Links circuits audited rounds is = usage_run A s command.Links r q c d x y (circuits refl) is
  no_usage command.Resume circuits audited rounds is = usage_run A s command.Resume r q c d x y (circuits refl) is
  no_usage command.Audit circuits audited rounds is = usage_audit A s r q ps qs w z (audited refl) is
  no_usage (command.Gen n seed) circuits audited rounds is = usage_run A s (command.Gen n seed) r q c d x y (circuits refl) is
  no_usage (command.Paxos g) circuits audited rounds is = (let came = rounds g refl in group_usage came.ended (sym is ∙ came.status))
