use Rattle.std.{specs.{Prelude.slice_get, Option.option_map}, proofs.Common.{ℕ, sym, ap, ◌∙◌}}
use Rattle.spl_commit.proofs.Index.{found-by_place}
use Rattle.spl_commit.proofs.history.History.find.Goals as goal

pub returns-in_err-place : goal.returns-in_err-place
returns-in_err-place g c =
    rw c.from_residual.ensures
    (sym (found-by_place (g.M.Key.PartialEq.eq c.args.key.now) g.M.Agreed.key_of c.args.self.now c.self.inside.entries.items c.self.inside.places.entries _
    (sym c.self.view_is) (c.self.invariant.keys c.args.key.now) c.in_err-place.ensures.value))

pub returns-in-Some : goal.returns-in-Some
returns-in-Some g c =
    let f = found-by_place (g.M.Key.PartialEq.eq c.args.key.now) g.M.Agreed.key_of c.args.self.now c.self.inside.entries.items c.self.inside.places.entries
    _ (sym c.self.view_is) (c.self.invariant.keys c.args.key.now) c.in_ok-place.ensures.value in
    ap (option_map (λ (e : ℕ × _). e.1)) c.in-Some.ensures
    ∙ ap (λ h. option_map (λ (e : ℕ × _). e.1) (slice_get h c.in_ok-place.field-0.now)) (sym c.self.view_is) ∙ sym f

pub returns-in-None : goal.returns-in-None
returns-in-None g c =
    let f = found-by_place (g.M.Key.PartialEq.eq c.args.key.now) g.M.Agreed.key_of c.args.self.now c.self.inside.entries.items c.self.inside.places.entries
    _ (sym c.self.view_is) (c.self.invariant.keys c.args.key.now) c.in_ok-place.ensures.value in
    ap (option_map (λ (e : ℕ × _). e.1)) c.in-None.ensures
    ∙ ap (λ h. option_map (λ (e : ℕ × _). e.1) (slice_get h c.in_ok-place.field-0.now)) (sym c.self.view_is) ∙ sym f
