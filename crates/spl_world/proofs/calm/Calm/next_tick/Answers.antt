use Rattle.spl_world.{specs.{Calms.due_at, Cursor.{Opens, turns_from}, Views.world_node_ids}, proofs.{Calms.{idle_due, ticks_more}, Common.{◌≡◌, ◌+◌, ◌≤◌}}}
use Rattle.spl_world.proofs.Common.{◌∙◌, ◌∷◌, ◌++◌, Bool, Some, List, [], drop, length, length-append, refl, sym, ap, subst, arith, drop_all, NodeId, Calming}
use Rattle.spl_world.proofs.{Common.{calming_step, open_nodes, passes, ticks}, Cursor.{no_ticks, tick_on}, Idling.{few_ticked, idle_more, idle_world}}
use Rattle.spl_world.proofs.{Idling.open_more, Slots.{both_off, length_ids}, Turns.within_step}
use Rattle.spl_world.proofs.calm.Calm.next_tick.Goals as goal
use Rattle.spl_sched.specs.declared.line.Step.TheVariants as step
use Rattle.spl_wire.specs.declared.event.Event.TheVariants as event

pub returns-in_default-clause-on : goal.returns-in_default-clause-on
returns-in_default-clause-on c = λ is z sits h f.
    let k = c.args.self.now in
    let ids = world_node_ids c.args.world.now in
    let all : length ids ≤ c.len-self.result = omega (arith, length_ids c.args.world.now.slots.items, c.len-self.ensures) in
    let none : open_nodes z.world (drop k.slot ids) ≡ [] = subst (λ r. Opens r k.circuit ids k.slot z) c.in_default.is (c.next_open.ensures.opens is z sits h) in (
      ap (λ (y : Calming). passes k.circuit ids k.later (turns_from k.circuit y ids (drop k.from ids) (drop k.to ids)))
          (no_ticks k.circuit z ids c.len-self.result all ∙ sym (ap (λ (ns : List NodeId). ticks k.circuit z ns) none)),
      record {
        tracks = f.tracks;
        idle = λ off. (let s = f.idle off in let world = idle_world k.circuit s.start z s.ticked s.idle s.now in record {
          start = s.start;
          ticked = s.ticked;
          opened = s.opened ∙ ap (λ (ns : List NodeId). s.ticked ++ ns)
              (subst (λ w. open_nodes w (drop k.slot ids) ≡ []) world none ∙ sym (ap (open_nodes s.start.world) (drop_all c.len-self.result ids all)));
          idle = s.idle;
          now = s.now;
          count = s.count;
          from = s.from;
          to = s.to;
        });
        left = f.left;
      },
    )

pub returns-clause-on : goal.returns-clause-on
returns-clause-on c = λ is z sits h f.
    let k = c.args.self.now in
    let ids = world_node_ids c.args.world.now in
    let o = subst (λ r. Opens r k.circuit ids k.slot z) c.in-Some.is (c.next_open.ensures.opens is z sits h) in
    let n : NodeId = o.0 in
    record {
      step = step.At n k.circuit event.Tick;
      is_step = (n, o.1, refl);
      next = calming_step z (step.At n k.circuit event.Tick);
      world = refl;
      happened = refl;
      same = ap (λ (y : Calming). passes k.circuit ids k.later (turns_from k.circuit y ids (drop k.from ids) (drop k.to ids)))
          (tick_on k.circuit z ids k.slot c.in-Some.slot n h.ordered o.1 o.2);
      follows = record {
        tracks = record { taken = f.tracks.taken; within = within_step z (step.At n k.circuit event.Tick) f.tracks.within };
        idle = λ off.
            let b = both_off k.moved c.in-Some.due off in
            let s = f.idle b.0 in
            let world = idle_world k.circuit s.start z s.ticked s.idle s.now in
            let opened = open_more s.start.world z.world ids s.ticked k.slot c.in-Some.slot n world s.opened o.2 in
            let few = few_ticked s.start.world ids (s.ticked ++ n ∷ []) (open_nodes s.start.world (drop (c.in-Some.slot + 1) ids)) opened in
            let longer = length-append s.ticked (n ∷ []) in
            record {
              start = s.start;
              ticked = s.ticked ++ n ∷ [];
              opened = opened;
              idle = idle_more k.circuit s.start.world z.world s.ticked n world s.idle (idle_due k.circuit n z.world (subst (λ (due : Bool). due_at k.circuit z.world n ≡ Some due) b.1 o.3));
              now = ap (λ (y : Calming). calming_step y (step.At n k.circuit event.Tick)) s.now ∙ sym (ticks_more k.circuit s.start s.ticked n);
              count = omega (arith, s.count, longer, few, length_ids c.args.world.now.slots.items, c.saturating_add-self.ensures, c.args.world.now.slots.ok);
              from = s.from;
              to = s.to;
            };
        left = λ a left at asked. absurd cc;
      };
    }
