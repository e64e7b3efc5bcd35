use Rattle.spl_edge.specs.Devices.{image_now}
use Rattle.spl_node.proofs.Turns.{turn_moments, turn_stands}
use Rattle.spl_node.proofs.turn.Turn.keep.Goals as goal

pub returns-in_err-keep_turn-clause-any_moment : goal.returns-in_err-keep_turn-clause-any_moment
returns-in_err-keep_turn-clause-any_moment g c =
    λ here before es was. turn_moments here before es c.args.self was (image_now (g.D.Disk.view c.args.disks.now.first))
    (image_now (g.D.Disk.view c.args.disks.now.second)) c.args.self.node.pairing.second (g.D.Disk.view c.keep_turn.new.disks.first).image_at
    (g.D.Disk.view c.keep_turn.new.disks.second).image_at (g.D.Disk.view c.args.disks.now.first).moment (g.D.Disk.view c.keep_turn.new.disks.first).moment
    (g.D.Disk.view c.args.disks.now.second).moment (g.D.Disk.view c.keep_turn.new.disks.second).moment c.in_err-keep_turn.ensures.leaves.any_moment

pub returns-clause-any_moment : goal.returns-clause-any_moment
returns-clause-any_moment g c =
    λ here before es was. turn_moments here before es c.args.self was (image_now (g.D.Disk.view c.args.disks.now.first))
    (image_now (g.D.Disk.view c.args.disks.now.second)) c.args.self.node.pairing.second (g.D.Disk.view c.keep_turn.new.disks.first).image_at
    (g.D.Disk.view c.keep_turn.new.disks.second).image_at (g.D.Disk.view c.args.disks.now.first).moment (g.D.Disk.view c.keep_turn.new.disks.first).moment
    (g.D.Disk.view c.args.disks.now.second).moment (g.D.Disk.view c.keep_turn.new.disks.second).moment c.in_ok-keep_turn.ensures.leaves.any_moment

pub returns-clause-stands : goal.returns-clause-stands
returns-clause-stands g c =
    λ here before es was. turn_stands here before es c.args.self was c.keep_turn.new.self (image_now (g.D.Disk.view c.args.disks.now.first))
    (image_now (g.D.Disk.view c.args.disks.now.second)) (image_now (g.D.Disk.view c.keep_turn.new.disks.first))
    (image_now (g.D.Disk.view c.keep_turn.new.disks.second)) c.in_ok-keep_turn.ensures.leaves.stands
