use Rattle.std.proofs.Common.{◌≡◌, ◌∙◌, ℕ, List, Option, Some, None, sym, subst}
use Rattle.spl_agree.specs.Member.{values}
use Rattle.spl_circuit.specs.declared.act.Act.{Act}
use Rattle.spl_command.specs.declared.batch.Batch.{Batch}
use Rattle.spl_audit.{specs.Searching.IsFirstDifference, proofs.Pairs.{by_acts, by_batches, by_none}}
use Rattle.spl_audit.proofs.cells.first_clash.Goals as goal

pub returns-in-Some : goal.returns-in-Some
returns-in-Some c =
    let h = c.args.one.now.bound in
    let k = c.args.other.now.bound in
    let same : h.definition ≡ k.definition = sym c.definition.ensures.value ∙ (c.same.ensures.0 c.if-not-same.false ∙ c.definition-2.ensures.value) in
    by_acts h k c.in-Some.place same
    (subst (λ (xs : List Act). IsFirstDifference xs (values k.acts.history) (Some c.in-Some.place)) c.acts.ensures
    (subst (λ (ys : List Act). IsFirstDifference c.acts.result.now ys (Some c.in-Some.place)) c.acts-2.ensures c.in-Some.ensures))

pub returns-in-Some-first_difference : goal.returns-in-Some-first_difference
returns-in-Some-first_difference c =
    let h = c.args.one.now.bound in
    let k = c.args.other.now.bound in
    let place = c.in-Some-first_difference.place in
    let same : h.definition ≡ k.definition = sym c.definition.ensures.value ∙ (c.same.ensures.0 c.if-not-same.false ∙ c.definition-2.ensures.value) in
    by_batches h k place same
    (subst (λ (xs : List Act). IsFirstDifference xs (values k.acts.history) None) c.acts.ensures
    (subst (λ (ys : List Act). IsFirstDifference c.acts.result.now ys None) c.acts-2.ensures
    (subst (λ (o : Option ℕ). IsFirstDifference c.acts.result.now c.acts-2.result.now o) c.in_default.is c.first_difference.ensures)))
    (subst (λ (xs : List Batch). IsFirstDifference xs (values k.batches.history) (Some place)) c.batches.ensures
    (subst (λ (ys : List Batch). IsFirstDifference c.batches.result.now ys (Some place)) c.batches-2.ensures c.in-Some-first_difference.ensures))

pub returns-in-None : goal.returns-in-None
returns-in-None c =
    let h = c.args.one.now.bound in
    let k = c.args.other.now.bound in
    let same : h.definition ≡ k.definition = sym c.definition.ensures.value ∙ (c.same.ensures.0 c.if-not-same.false ∙ c.definition-2.ensures.value) in
    by_none h k same
    (subst (λ (xs : List Act). IsFirstDifference xs (values k.acts.history) None) c.acts.ensures
    (subst (λ (ys : List Act). IsFirstDifference c.acts.result.now ys None) c.acts-2.ensures
    (subst (λ (o : Option ℕ). IsFirstDifference c.acts.result.now c.acts-2.result.now o) c.in_default.is c.first_difference.ensures)))
    (subst (λ (xs : List Batch). IsFirstDifference xs (values k.batches.history) None) c.batches.ensures
    (subst (λ (ys : List Batch). IsFirstDifference c.batches.result.now ys None) c.batches-2.ensures c.in-None.ensures))
