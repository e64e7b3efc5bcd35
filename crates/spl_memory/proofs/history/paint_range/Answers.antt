use Rattle.std.proofs.{Common.{◌≡◌, ◌+◌, ◌-◌, ◌∙◌, ℕ, ◌++◌, List, take, drop, ap, arith, rules}, lemmas.List.drop-drop}
use Rattle.spl_edge.specs.ImageLaws.{painted_is}
use Rattle.spl_memory.proofs.history.paint_range.Goals as goal

pub returns : goal.returns
returns c =
    let size : c.min-from.result + c.min.result - c.min-from.result ≡ c.min.result = omega arith in
    let post : drop (c.min-from.result + c.min.result - c.min-from.result) (drop c.min-from.result c.args.bytes.now)
    ≡ drop (c.min-from.result + c.min.result) c.args.bytes.now =
    ap (λ (n : ℕ). drop n (drop c.min-from.result c.args.bytes.now)) size ∙ drop-drop c.min.result c.min-from.result c.args.bytes.now in
    ap (λ (l : List ℕ). take c.min-from.result c.args.bytes.now ++ (c.fill.new.self ++ l)) post
    ∙ painted_is c.args.byte c.args.at c.args.count c.min-from.result c.min.result c.args.bytes.now c.fill.new.self c.min-from.ensures c.min.ensures
    (search rules) (search rules)
