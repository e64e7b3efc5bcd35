use Rattle.std.{specs.{Prelude.OnOk, List.join_with_byte}, proofs.Common.{◌≡◌, ◌++◌, ◌∙◌, sym, ap, subst, List, ℕ}}
use Rattle.spl_sched.specs.{Grammar.{event_name, event_words, step_words}, declared.line.Step.Step}
use Rattle.spl_sched.proofs.write.put_step.Goals as goal
use Rattle.spl_words.proofs.Items.{home_put}

pub returns-in_ok-put_next-in-At-2 : goal.returns-in_ok-put_next-in-At-2
returns-in_ok-put_next-in-At-2 c =
    subst (λ (s : Step). OnOk c.put_event.result (c.put_event.new.w ≡ c.args.w.now ++ join_with_byte 32 (step_words s))) (sym c.in-At.is)
    (home_put c.put_event.result c.args.w.now c.put_raw.new.self c.put_next.new.w c.put_next-in-At.new.w c.put_event.new.w
    (event_name c.in-At.event) c.in-At.node c.in-At.circuit (event_words c.in-At.event)
    (c.in_ok-put_raw-in-At.ensures.ok
    ∙ ap (λ (name : List ℕ). c.args.w.now
    ++ name) c.event_name.ensures) c.in_ok-put_next-in-At.ensures c.in_ok-put_next-in-At-2.ensures c.put_event.ensures)
