use Rattle.std.proofs.Common.{◌≡◌, ◌∙◌, ℕ, Err, IfSome, sym, subst}
use Rattle.spl_edge.specs.Devices.{image_now}
use Rattle.spl_acceptor.{specs.Logs.records_on, proofs.Logs.{head_on, handed_on, older_on}}
use Rattle.spl_acceptor.proofs.log.PaxosLog.open.Goals as goal

pub returns-in_err-walk-clause-not : goal.returns-in_err-walk-clause-not
returns-in_err-walk-clause-not g c =
    λ at is. head_on (image_now (g.D.Disk.view c.args.disk.now)) at
    (c.in_err-walk.ensures.not at (handed_on c.from_residual.result _ _ c.from_residual.ensures is))

pub returns-then-is_older-clause-not : goal.returns-then-is_older-clause-not
returns-then-is_older-clause-not g c = λ at is.
    let here : 0 ≡ at = cc in
    subst (λ (n : ℕ). IfSome (image_now (g.D.Disk.view c.args.disk.now)) (λ i. records_on i.bytes ≡ Err n)) here
    (older_on c.in_ok-walk.walk.at c.in_ok-walk.walk.extent c.in_ok-walk.walk.epoch c.in_ok-walk.walk.form c.in_ok-walk.walk.ended
    (image_now (g.D.Disk.view c.args.disk.now)) c.in_ok-walk.ensures.walks (sym c.is_older.ensures.older ∙ c.if-is_older.true))
