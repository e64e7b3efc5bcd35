use Rattle.std.{specs.Map.keys_of, proofs.Common.{◌==◌, [], length, position, ap, ◌∙◌, arith}}
use Rattle.spl_scabbard.{specs.Readers.place_of, proofs.Keeps.{keys_kept, length_kept}}
use Rattle.spl_scabbard.proofs.service.Service.place_of.Goals as goal

pub returns-in_err-place : goal.returns-in_err-place
returns-in_err-place c =
    let bs = c.self.inside.batches.items in
    c.from_residual.ensures ∙ c.in_err-place.ensures.index ∙ ap (λ es. position (λ k. c.args.id == k) (keys_of es)) c.self.invariant.kept_are
    ∙ ap (position (λ k. c.args.id == k)) (keys_kept bs []) ∙ ap (λ xs. place_of xs c.args.id) c.self.view_is

pub overflow_cast-result : goal.overflow_cast-result
overflow_cast-result c = omega (arith, c.in_ok-place.ensures.within, ap length c.self.invariant.kept_are, length_kept c.self.inside.batches.items [])

pub returns : goal.returns
returns c =
    let bs = c.self.inside.batches.items in
    c.in_ok-place.ensures.index ∙ ap (λ es. position (λ k. c.args.id == k) (keys_of es)) c.self.invariant.kept_are
    ∙ ap (position (λ k. c.args.id == k)) (keys_kept bs []) ∙ ap (λ xs. place_of xs c.args.id) c.self.view_is
