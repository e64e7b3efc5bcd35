use Rattle.std.{specs.Fmt.decimal, proofs.{Common.{◌+◌, ◌/◌, ◌%◌, [], ◌∷◌, append_assoc, arith}, lemmas.Fmt.decimal_step}}
use Rattle.spl_paxos.proofs.text.+append_number.Goals as goal

pub returns : goal.returns
returns t c =
    let step = decimal_step c.args.n (omega arith) (omega arith) in
    let regroup = append_assoc c.args.out.now.items (decimal (c.args.n / 10)) ((48 + c.args.n % 10) ∷ []) in
    rw (step, ← regroup, ← c.in_ok-append_number.ensures) c.append-2.ensures
