use Rattle.std.{specs.List.list_all, proofs.Common.{◌≡◌, IsTrue, IfOk, ℕ, List, take, subst, sym, ◌∙◌, ap, arith}}
use Rattle.spl_base.specs.Booleans.{all_more}
use Rattle.spl_wire.{specs.{Changes.change_form, Grouping.{grouped, grouped_records, spelled}, declared.change.Change.Change}, proofs.Packs.take_next}
use Rattle.spl_wire.proofs.Packs.{packed_next, packed_all}
use Rattle.spl_wire.proofs.packing.packed_records.Goals as goal

pub loop-change-preserved : goal.loop-change-preserved
loop-change-preserved c =
    let all = c.deref-change-items.result.now in
    let i = c.loop-change.change-index in
    let x = c.change-item.result in (
      rw c.in_ok-take.ensures.ok (packed_next c.args.circuit all i x c.loop-change.packing c.loop-change-test.true c.change-item.is c.loop-change.invariant.0),
      subst (λ (came : List Change). IsTrue (list_all change_form.fits came)) (sym (take_next all i x c.loop-change-test.true c.change-item.is))
          (all_more change_form.fits (take i all) x c.loop-change.invariant.1 c.in_ok-take.ensures.fits),
    )

pub returns-clause-ok : goal.returns-clause-ok
returns-clause-ok c =
    let all = packed_all c.args.circuit c.deref-change-items.result.now c.loop-change.change-index c.loop-change.packing
    (omega (arith, c.loop-change-test.false)) c.loop-change.invariant.0 in
    let value = ap (λ (xs : List Change). spelled (grouped_records c.args.circuit (grouped c.args.circuit xs))) c.deref-change-items.ensures.value in
    subst (λ (bytes : List (List ℕ)). IfOk c.finish.result (λ rs. rs.items ≡ bytes)) (all ∙ value) c.finish.ensures
