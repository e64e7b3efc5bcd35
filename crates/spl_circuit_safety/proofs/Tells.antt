-- What a node that is up reports is reported of the prefixes of the circuit's lists that are committed there.
use Rattle.std.{specs.Prelude.{Option, Some, None, if◌then◌else◌}, proofs.Common.{◌≡◌, ℕ, Bool, true, false, List, [], length, take, refl, sym, ap, subst}}
use Rattle.std.proofs.Common.{◌∙◌}
use Rattle.spl_agree.{specs.{Member.values, World.IsPrefixOf}, proofs.Tests.length-values}
use Rattle.spl_state.specs.Root.{node_at}
use Rattle.spl_command.specs.{Lists.state_of, declared.{batch.Batch.Batch, receipt.Receipt.Receipt}}
use Rattle.spl_scabbard.specs.Readers.{place_of, receipts_of}
use Rattle.spl_circuit.specs.{Lifecycle.life, declared.act.Act.Act}
use Rattle.spl_wire.specs.declared.event.Event.{Event}
use Rattle.spl_wire.specs.declared.event.Event.TheVariants as event
use Rattle.spl_wire.specs.declared.answer.Answer.TheVariants as answer
use Rattle.spl_wire.specs.declared.answer.BatchStatus.TheVariants as status
use Rattle.spl_wire.specs.declared.answer.Refusal.TheVariants as refusal
use Rattle.spl_cell_rules.specs.{Cells.{Cell, Held, Deed, Refuses, Tells, runs, Bound, Site}, Batches.{when_active, root_told, proof_told, history_told}}
use Rattle.spl_cell_rules.specs.{Batches.{value_told, listed_entries, status_kept, status_told, receipt_kept, receipt_told}, Events.held_does}
use Rattle.spl_cell_rules.specs.Plans.{tells_only, planned, plan_of}
use Rattle.spl_circuit_world.specs.Worlds.{World}
use Rattle.spl_circuit_safety.{specs.Agreement.{answered, members_accepting, TellsLists, TellsPrefixes}, proofs.Prefixes.{take-prefix, receipts-placed}}

-- where a node is up, it is asked what its cell reports
pub held-answers : (w : World) (site : Site) (b : Bound) (e : Event) → w.up site.here ≡ true → w.at site.here ≡ Held b
    → answered w site e ≡ (plan_of site (Held b) e).answer
held-answers w site b e up is =
    ap (λ (x : Bool). (if x then plan_of site (w.at site.here) e else tells_only (answer.Refused refusal.Down)).answer) up
    ∙ ap (λ (k : Cell). (plan_of site k e).answer) is

-- where the circuit is active there it is reported, and refused where it isn't
pub active-answer : (site : Site) (b : Bound) (deed : Deed) → runs b ≡ true → (planned site (when_active b deed)).answer ≡ (planned site deed).answer
active-answer site b deed q = ap (λ (x : Bool). (planned site (if x then deed else Refuses refusal.NotActive)).answer) q

pub inactive-answer : (site : Site) (b : Bound) (deed : Deed) → runs b ≡ false → (planned site (when_active b deed)).answer ≡ answer.Refused refusal.NotActive
inactive-answer site b deed q = ap (λ (x : Bool). (planned site (if x then deed else Refuses refusal.NotActive)).answer) q

module _ (w : World) (site : Site) (b : Bound) (up : w.up site.here ≡ true) (is : w.at site.here ≡ Held b) where
  says : (e : Event) → answered w site e ≡ (plan_of site (Held b) e).answer
  says e = held-answers w site b e up is

  -- of its batches
  told : (e : Event) (deed : Deed) → held_does site b e ≡ when_active b deed → runs b ≡ true → answered w site e ≡ (planned site deed).answer
  told e deed h q = says e ∙ (ap (λ (x : Deed). (planned site x).answer) h ∙ active-answer site b deed q)

  told-receipt : (i : ℕ) → runs b ≡ true → (o : Option ℕ) (r : Option (List Receipt)) → place_of (values b.batches.history) i ≡ o
      → receipts_of (values b.batches.history) i ≡ r → answered w site (event.Receipt i) ≡ (planned site (receipt_kept i o r)).answer
  told-receipt i q o r h k =
      told (event.Receipt i) (receipt_told b.batches i) refl q
      ∙ (ap (λ (x : Option ℕ). (planned site (receipt_kept i x (receipts_of (values b.batches.history) i))).answer) h
      ∙ ap (λ (x : Option (List Receipt)). (planned site (receipt_kept i o x)).answer) k)

  told-committed : (i place : ℕ) → runs b ≡ true → place_of (values b.batches.history) i ≡ Some place
      → answered w site (event.Status i) ≡ answer.Status (status.Committed place)
  told-committed i place q h =
      told (event.Status i) (status_told b.batches i) refl q ∙ ap (λ (x : Option ℕ). (planned site (status_kept b.batches i x)).answer) h

  told-show : answered w site event.Show
      ≡ answer.Show b.definition.generation (life b.definition (values b.acts.history)).state b.mark
      (members_accepting b.definition (values b.acts.history)) (length (values b.acts.history)) (length b.acts.pending) (length (values b.batches.history))
      (length b.batches.pending)
  told-show =
      says event.Show
      ∙ (ap (λ (k : ℕ). answer.Show b.definition.generation (life b.definition (values b.acts.history)).state b.mark
      (members_accepting b.definition (values b.acts.history)) k (length b.acts.pending) (length b.batches.history) (length b.batches.pending))
      (sym (length-values b.acts.history))
      ∙ ap (λ (k : ℕ). answer.Show b.definition.generation (life b.definition (values b.acts.history)).state b.mark
      (members_accepting b.definition (values b.acts.history)) (length (values b.acts.history)) (length b.acts.pending) k (length b.batches.pending))
      (sym (length-values b.batches.history)))

  told-own : TellsLists (answered w site) b (values b.acts.history) (values b.batches.history)
  told-own = record {
    show = told-show;
    detail = says event.Detail;
    root = λ q. told event.Root (Tells (root_told b.batches)) refl q
        ∙ ap (λ (k : ℕ). answer.Root k (node_at 70 [] (state_of (values b.batches.history)))) (sym (length-values b.batches.history));
    prove = λ address q. told (event.Prove address) (Tells (proof_told b.batches address)) refl q;
    history = λ q. told event.History (Tells (history_told b.batches)) refl q;
    get = λ address q. told (event.Get address) (Tells (value_told b.batches address)) refl q;
    list = λ prefix q. told (event.List prefix) (Tells (listed_entries b.batches prefix)) refl q;
    committed = told-committed;
    receipt = λ i place receipts q h k. told-receipt i q (Some place) (Some receipts) h (receipts-placed (values b.batches.history) i place h ∙ k);
    unknown = λ i q h. told-receipt i q None (receipts_of (values b.batches.history) i) h refl;
  }

-- its histories are the prefixes of the lists
pub tells-lists : (w : World) (site : Site) (b : Bound) (acts : List Act) (batches : List Batch) → w.at site.here ≡ Held b
    → IsPrefixOf (values b.acts.history) acts → IsPrefixOf (values b.batches.history) batches → TellsPrefixes w site b acts batches
tells-lists w site b acts batches is p q up =
    subst (λ (xs : List Act). TellsLists (answered w site) b xs (take (length b.batches.history) batches)) (sym (take-prefix b.acts.history acts p))
    (subst (λ (ys : List Batch). TellsLists (answered w site) b (values b.acts.history) ys) (sym (take-prefix b.batches.history batches q))
    (told-own w site b up is))
