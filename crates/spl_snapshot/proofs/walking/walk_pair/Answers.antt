use Rattle.std.proofs.Common.{◌≡◌, [], Err}
use Rattle.spl_edge.specs.Devices.{image_now}
use Rattle.spl_snapshot.{specs.{Choices.IsFound, Counting.pair_records, Pairs.pair_given}, proofs.Findings.both_found}
use Rattle.spl_snapshot.proofs.walking.walk_pair.Goals as goal

pub returns-in-Ok-choose-clause-start : goal.returns-in-Ok-choose-clause-start
returns-in-Ok-choose-clause-start g c =
    both_found (image_now (g.D.Disk.view c.args.disks.now.first)) (image_now (g.D.Disk.view c.args.disks.now.second))
    (IsFound g.R.Form.is_record c.in-Ok.found) (IsFound g.R.Form.is_record c.in-Ok-look.found)
    (λ i j. pair_given g.R.Form.is_record c.in-Ok-choose.walk i.bytes j.bytes ≡ []) c.in-Ok.ensures.found c.in-Ok-look.ensures.found
    (λ i j a b. c.in-Ok-choose.ensures.start i j a b)

pub returns-in-Err-choose-clause-not : goal.returns-in-Err-choose-clause-not
returns-in-Err-choose-clause-not g c =
    λ at fault. both_found (image_now (g.D.Disk.view c.args.disks.now.first)) (image_now (g.D.Disk.view c.args.disks.now.second))
    (IsFound g.R.Form.is_record c.in-Ok.found) (IsFound g.R.Form.is_record c.in-Ok-look.found)
    (λ i j. pair_records g.R.Form.is_record i.bytes j.bytes ≡ Err at) c.in-Ok.ensures.found c.in-Ok-look.ensures.found
    (λ i j a b. c.in-Err-choose.ensures.not at fault i j a b)
