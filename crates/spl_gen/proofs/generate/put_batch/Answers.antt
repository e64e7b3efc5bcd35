use Rattle.spl_gen.{specs.{Draws.next_state, Generated.{submitted_lines, restart_lines}}, proofs.Texts.{put_as, put_then}}
use Rattle.spl_gen.proofs.generate.put_batch.Goals as goal

pub returns-clause-text : goal.returns-clause-text
returns-clause-text c =
    let x = c.args.draws.now in
    let k = c.args.number in
    put_then c.put_restarted.result (submitted_lines k x)
    (restart_lines k (next_state (next_state (next_state x)))) c.args.w.now c.put_submit.new.w c.put_restarted.new.w (cc c.in_ok-put_submit.ensures.text)
    (put_as c.put_restarted.result _ _ c.put_submit.new.w c.put_restarted.new.w c.put_restarted.ensures.text (cc c.in_ok-put_submit.ensures.state))
