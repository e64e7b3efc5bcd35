use Rattle.std.{specs.Map.lookup, proofs.{Common.{◌≡◌, ◌-◌, ◌^◌, ◌<◌, ◌==◌, ◌++◌, ◌∷◌, [], length, None, ap, sym, ◌∙◌, arith}, lemmas.Grind.common_steps}}
use Rattle.indexmap.proofs.CallerLemmas.{insert_entry-new}
use Rattle.spl_command.specs.Lists.{receipts_after, with_receipts}
use Rattle.spl_scabbard.{specs.Checks.misfit_batch, proofs.Keeps.{keeps, new_where_good}}
use Rattle.spl_scabbard.proofs.agreed.ServiceAgreed.apply.Goals as goal

pub invariant_of-self-in-Ok : goal.invariant_of-self-in-Ok
invariant_of-self-in-Ok c =
    let bs = c.self.inside.batches.items in
    let b = c.args.value in
    let kept = c.self.inside.kept.entries in
    let rs = c.in_ok-receipts.receipts in
    let good : misfit_batch bs b ≡ None = ap (λ xs. misfit_batch xs b) c.self.view_is ∙ c.requires.good in
    let room : length bs < 2 ^ 32 - 1 = omega (arith, ap length c.self.view_is, c.requires.room) in
    let none : lookup (λ k. b.id == k) kept ≡ None = new_where_good bs b kept good c.self.invariant.kept_are in
    let same : c.reserve-2.new.self.entries ≡ kept = c.in_ok-reserve-2.ensures.entries in
    let none2 : lookup (λ k. b.id == k) c.reserve-2.new.self.entries ≡ None = ap (lookup (λ k. b.id == k)) same ∙ none in
    let items : c.push.new.self.items ≡ bs ++ b ∷ [] = grind (arith, common_steps) in
    let entries : c.insert.new.self.entries ≡ kept ++ (b.id, rs) ∷ [] = grind (arith, common_steps, insert_entry-new) in
    let state : c.finish.result ≡ with_receipts c.self.inside.state rs =
    c.finish.ensures ∙ c.in-Ok.ensures.ok ∙ ap (λ m. with_receipts m rs) (c.new-draft.ensures.entries ∙ c.replace-state.ensures.value) in
    keeps bs c.push.new.self.items b c.self.inside.ids c.extend.new.ids kept c.insert.new.self.entries c.self.inside.state c.finish.result rs
    c.self.invariant.ids_are c.self.invariant.kept_are c.self.invariant.state_is room
    items c.in-Ok.ensures.ids entries (c.in_ok-receipts.ensures ∙ ap (λ xs. receipts_after xs b) (sym c.self.view_is)) state
