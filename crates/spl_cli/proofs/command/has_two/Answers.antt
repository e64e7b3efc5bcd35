use Rattle.std.proofs.{Common.{◌≡◌, arith, rules}, lemmas.Slice.Eq.bytes_eq-Decides}
use Rattle.spl_cli.proofs.Commands.{two}
use Rattle.spl_cli.proofs.command.has_two.Goals as goal

pub returns-in-len3 : goal.returns-in-len3
returns-in-len3 c =
    let h = two c.args.name.now c.args.words.now c.first-item.result (omega arith) c.first-item.is in (
      λ yes. h.0 (search rules),
      λ form. (let same = h.1 form in
          let text : c.as_str.result.now ≡ c.args.name.now = search rules in
          let yes = (bytes_eq-Decides c.as_str.result.now c.args.name.now).1 text in
          search rules
          ),
    )
