use Rattle.std.proofs.{Common.{◌≡◌, Ok, Some, decimal, ap, sym, ◌∙◌}, lemmas.{Fmt.parse-decimal, Slice.Eq.bytes_eq-Decides}}
use Rattle.spl_cli.proofs.command.read_number.Goals as goal

pub returns-in-Ok-clause-all : goal.returns-in-Ok-clause-all
returns-in-Ok-clause-all c = λ n small is.
    let parsed : c.parse.result ≡ Ok n = parse-decimal 64 n c.args.word.now c.parse.result small small is c.parse.ensures.value.0 in
    ap Some cc

pub returns-in_default-clause-all : goal.returns-in_default-clause-all
returns-in_default-clause-all c = λ n small is.
    let parsed : c.parse.result ≡ Ok n = parse-decimal 64 n c.args.word.now c.parse.result small small is c.parse.ensures.value.0 in
    let found : c.in-Ok.n ≡ n = cc in
    let text : c.format.result.now ≡ c.args.word.now = c.format.ensures.text ∙ ap decimal found ∙ sym is in
    let same = (bytes_eq-Decides c.format.result.now c.args.word.now).1 text in
    absurd cc

pub returns-in_default-2-clause-all : goal.returns-in_default-2-clause-all
returns-in_default-2-clause-all c = λ n small is.
    let parsed : c.parse.result ≡ Ok n = parse-decimal 64 n c.args.word.now c.parse.result small small is c.parse.ensures.value.0 in
    absurd cc
