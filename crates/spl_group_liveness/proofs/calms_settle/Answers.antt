use Rattle.spl_group_liveness.proofs.{Milestones.orders-settle, Reach.calm-reached, Idle.idle-calm, Runs.calm-runs}
use Rattle.spl_group_liveness.proofs.calms_settle.Goals as goal

pub returns : goal.returns
returns g c = record { reached = calm-reached; fit = orders-settle; events = calm-runs; idle = idle-calm }
