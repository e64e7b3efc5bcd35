-- Each digest is hashed after those before it.
use Rattle.std.proofs.Common.{rules, ◌∷◌, [], ap, subst, ◌∙◌, arith}
use Rattle.sha2.specs.{Sha256.sha256, Hashers.Holds256}
use Rattle.spl_proof.proofs.Listing.{joined_at, joined_all}
use Rattle.spl_proof.proofs.accept.level_digest.Goals as goal

pub loop-digest-init : goal.loop-digest-init
loop-digest-init c = c.update.ensures [] c.new-hasher.ensures

pub loop-digest-preserved : goal.loop-digest-preserved
loop-digest-preserved c =
    subst (λ xs. Holds256 c.update-in-loop-digest.new.self (1 ∷ xs))
    (joined_at c.args.level.now c.loop-digest.digest-index [] (first_of (omega arith, search rules, grind arith)))
    (c.update-in-loop-digest.ensures _ c.loop-digest.invariant)

pub returns : goal.returns
returns c =
    c.finalize.ensures _ c.loop-digest.invariant
    ∙ ap (λ xs. sha256 (1 ∷ xs)) (joined_all c.args.level.now c.loop-digest.digest-index (first_of (omega arith, search rules, grind arith)))
