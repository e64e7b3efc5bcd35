-- What the tree says of shared digits, in the words of the state.
use Rattle.std.proofs.Common.{◌≡◌, ◌≤◌, ◌∷◌, [], length, MatchOption, sym, ap, subst, ◌∙◌, arith}
use Rattle.spl_state.{specs.{Root.{under, digits_of}, Digits.shares}, proofs.Prefixes.under_shares}
use Rattle.spl_state.proofs.state.State.foot.Goals as goal

pub returns-clause-lone : goal.returns-clause-lone
returns-clause-lone c =
    let n = c.foot-digits.result.0 in
    let a = c.args.address.now in
    let tree = c.self.inside.tree in
    let same : shares n tree.depth a tree.entries ≡ under (digits_of n 0 a.0) c.args.self.now =
    ap (λ d. shares n d a tree.entries) c.self.invariant.top ∙ ap (λ es. shares n 0 a es) c.self.view_is ∙ sym (under_shares n a c.args.self.now) in
    subst (λ xs. MatchOption c.foot-digits.result.1 (xs ≡ []) (λ e. xs ≡ (e.0, e.1.now) ∷ [])) same c.foot-digits.ensures.lone

pub returns-clause-many : goal.returns-clause-many
returns-clause-many c = λ i low.
    let a = c.args.address.now in
    let tree = c.self.inside.tree in
    let same : shares i tree.depth a tree.entries ≡ under (digits_of i 0 a.0) c.args.self.now =
    ap (λ d. shares i d a tree.entries) c.self.invariant.top ∙ ap (λ es. shares i 0 a es) c.self.view_is ∙ sym (under_shares i a c.args.self.now) in
    subst (λ xs. 2 ≤ length xs) same (c.foot-digits.ensures.many i (omega (arith, c.self.invariant.top)) low)
