use Rattle.std.{specs.Prelude.slice_index, proofs.Common.{◌≡◌, ℕ, suc, ◌+◌, ◌-◌, List, refl, ap, ◌∙◌, arith}}
use Rattle.spl_base.{specs.Cells.padded, proofs.Heads.padded_at}
use Rattle.spl_base.proofs.short.Short.last.Goals as goal

pub returns : goal.returns
returns g c =
    let cells : List ℕ = c.self.inside.cells in
    let text : List ℕ = c.args.self.now in
    let n : ℕ = g.row.CAP - 8 in
    let at : (i k : ℕ) → i ≡ k → slice_index cells i ≡ slice_index text k = λ i k e.
    padded_at g.row.CAP cells text (c.self.invariant.0 ∙ ap (padded g.row.CAP) c.self.view_is) i ∙ ap (slice_index text) e in
    c.from_be_bytes.ensures
    ∙ omega (
      arith,
      at n n refl,
      at (n + 1) (suc n) (omega arith),
      at (n + 2) (suc (suc n)) (omega arith),
      at (n + 3) (suc (suc (suc n))) (omega arith),
      at (n + 4) (suc (suc (suc (suc n)))) (omega arith),
      at (n + 5) (suc (suc (suc (suc (suc n))))) (omega arith),
      at (n + 6) (suc (suc (suc (suc (suc (suc n)))))) (omega arith),
      at (n + 7) (suc (suc (suc (suc (suc (suc (suc n))))))) (omega arith),
    )
