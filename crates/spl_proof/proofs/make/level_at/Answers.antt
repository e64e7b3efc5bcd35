-- Digit by digit.
use Rattle.std.proofs.{Common.{◌≡◌, ◌<◌, ◌≤◌, ◌+◌, ◌-◌, ◌++◌, ◌∷◌, [], length, refl, sym, ap, ◌∙◌, arith}, lemmas.List.{take_all, take_more_set, length-set}}
use Rattle.spl_state.specs.Root.{digits_of, node_at}
use Rattle.spl_proof.{specs.Made.listed, proofs.Listing.{listed_none, listed_more}}
use Rattle.spl_proof.proofs.make.level_at.Goals as goal

pub loop-d-init : goal.loop-d-init
loop-d-init c = (sym (listed_none (λ d. node_at (69 - c.args.i) (digits_of c.args.i 0 c.args.a.now.0 ++ d ∷ []) c.args.state.now)), refl)

pub loop-d-preserved : goal.loop-d-preserved
loop-d-preserved c =
    let i = c.args.i in
    let d = c.loop-d.d in
    let m = c.args.state.now in
    let x = c.digest_at.result in
    let low : d < length c.loop-d.level = omega (arith, c.loop-d.invariant.1) in
    let left : 70 - (i + 1) ≡ 69 - i = omega arith in
    let is : x ≡ node_at (69 - i) (digits_of i 0 c.args.a.now.0 ++ d ∷ []) m =
    c.digest_at.ensures ∙ ap (λ q. node_at q (digits_of (i + 1) 0 c.with_digit.result.0) m) left ∙ ap (λ p. node_at (69 - i) p m) c.with_digit.ensures in (
      take_more_set c.loop-d.level d x low
          ∙ ap (λ xs. xs ++ x ∷ []) c.loop-d.invariant.0
          ∙ ap (λ y. listed (λ e. node_at (69 - i) (digits_of i 0 c.args.a.now.0 ++ e ∷ []) m) d ++ y ∷ []) is
          ∙ sym (listed_more (λ e. node_at (69 - i) (digits_of i 0 c.args.a.now.0 ++ e ∷ []) m) d),
      length-set c.loop-d.level d x ∙ c.loop-d.invariant.1,
    )

pub returns : goal.returns
returns c =
    let all : length c.loop-d.level ≤ c.loop-d.d = omega (arith, c.loop-d.invariant.1) in
    let end : c.loop-d.d ≡ 16 = omega arith in
    sym (take_all c.loop-d.d c.loop-d.level all) ∙ c.loop-d.invariant.0
    ∙ ap (listed (λ e. node_at (69 - c.args.i) (digits_of c.args.i 0 c.args.a.now.0 ++ e ∷ []) c.args.state.now)) end
