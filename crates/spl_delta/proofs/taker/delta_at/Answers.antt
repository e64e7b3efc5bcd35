use Rattle.std.proofs.Common.{◌≡◌, Some, rules, tests}
use Rattle.spl_scabbard.{specs.Readers.{place_of, receipts_of}, proofs.Places.told_at_place}
use Rattle.spl_delta.proofs.Deltas.{told}
use Rattle.spl_delta.proofs.taker.delta_at.Goals as goal

pub returns-in_ok-changes_in-in-Some : goal.returns-in_ok-changes_in-in-Some
returns-in_ok-changes_in-in-Some c =
    let at : place_of c.args.service.now c.args.id ≡ Some c.args.place = search (rules, tests) in
    let found : receipts_of c.args.service.now c.args.id ≡ Some c.in-Some.receipts.now = search rules in
    let one = told c.args.service.now c.args.place c.args.id c.in-Some.receipts.now (told_at_place c.args.service.now) at found in
    search rules
