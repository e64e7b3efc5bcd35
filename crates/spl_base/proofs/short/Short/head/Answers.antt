use Rattle.std.{specs.Prelude.slice_index, proofs.Common.{◌≡◌, ℕ, List, ◌∙◌, ap, arith}}
use Rattle.spl_base.proofs.Heads.{padded_at}
use Rattle.spl_base.proofs.short.Short.head.Goals as goal

pub returns : goal.returns
returns g c =
    let cells : List ℕ = c.self.inside.cells in
    let text : List ℕ = c.args.self.now in
    let at : (k : ℕ) → slice_index cells k ≡ slice_index text k =
    λ k. padded_at g.row.CAP cells _ c.self.invariant.0 k ∙ ap (λ (l : List ℕ). slice_index l k) c.self.view_is in
    c.from_be_bytes.ensures ∙ omega (arith, at 0, at 1, at 2, at 3, at 4, at 5, at 6, at 7)
