use Rattle.std.proofs.Common.{◌≡◌, Ok, refl, arith}
use Rattle.spl_base.{specs.Prefix.prefix_of, proofs.Prefixes.spelled_from}
use Rattle.spl_base.proofs.field.read_prefix.Goals as goal

pub returns-clause-found : goal.returns-clause-found
returns-clause-found g c =
    let e = rw c.new-r.ensures at c.in_ok-x.ensures in
    let found : prefix_of g.T.Field.form c.args.bytes.now ≡ Ok (c.in_ok-x.x, c.place.result) = rw (e, c.place.ensures) refl in
    spelled_from g.T.Field.form g.met.T.Field.exact c.args.bytes.now (c.in_ok-x.x, c.place.result) (λ i. omega (arith, c.type_inv.bytes i)) found

pub returns-clause-bounded : goal.returns-clause-bounded
returns-clause-bounded g c =
    let e = rw c.new-r.ensures at c.in_ok-x.ensures in
    let found : prefix_of g.T.Field.form c.args.bytes.now ≡ Ok (c.in_ok-x.x, c.place.result) = rw (e, c.place.ensures) refl in
    g.met.T.Field.exact.bounds c.in_ok-x.x
    (spelled_from g.T.Field.form g.met.T.Field.exact c.args.bytes.now (c.in_ok-x.x, c.place.result) (λ i. omega (arith, c.type_inv.bytes i)) found).1
