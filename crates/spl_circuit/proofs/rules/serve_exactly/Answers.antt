use Rattle.std.{specs.List.list_all, proofs.Common.{◌&&◌, ap, sym, ◌∙◌, length, eq-eqb, ne_eqb}}
use Rattle.spl_circuit.{specs.Rules.serves, proofs.Sorting.served_exactly}
use Rattle.spl_circuit.proofs.rules.serve_exactly.Goals as goal

pub returns-then-services-members : goal.returns-then-services-members
returns-then-services-members c =
    let e = eq-eqb (length c.args.services.now) (length c.args.members.now) c.if-services-members.true in
    c.are_served.ensures ∙ ap (λ b. b && list_all (serves c.args.services.now) c.args.members.now) (sym e)
    ∙ served_exactly c.args.services.now c.args.members.now c.requires

pub returns-else-services-members : goal.returns-else-services-members
returns-else-services-members c =
    let e = ne_eqb (length c.args.services.now) (length c.args.members.now) c.if-services-members.false in
    e ∙ ap (λ b. b && list_all (serves c.args.services.now) c.args.members.now) (sym e) ∙ served_exactly c.args.services.now c.args.members.now c.requires
