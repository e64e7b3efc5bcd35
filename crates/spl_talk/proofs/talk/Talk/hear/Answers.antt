use Rattle.std.proofs.Common.{◌≢◌, ◌≤◌, ℕ, List, length, sym, subst}
use Rattle.spl_frame.specs.declared.header.TheConstants.{LONGEST_BODY}
use Rattle.spl_talk.{specs.{Talks.FrameFails, declared.fault.TalkFault.TheVariants.NoMemory}, proofs.{First.{err_has, first_fails}, Frames.first_short}}
use Rattle.spl_talk.proofs.talk.Talk.hear.Goals as goal

pub hear_body-requires : goal.hear_body-requires
hear_body-requires c =
    let first = rw c.in-Some.is at c.in_ok-body.ensures.some in
    record {
      short =
          subst (λ (b : List ℕ). length b ≤ LONGEST_BODY) (sym c.bytes.ensures) (first_short c.self.inside.framer c.next.new.self c.in-Some.body first);
    }

pub returns-in_err-hear_body-clause-fault : goal.returns-in_err-hear_body-clause-fault
returns-in_err-hear_body-clause-fault c =
    let first = rw c.in-Some.is at c.in_ok-body.ensures.some in
    let es = c.args.registry.now in
    let old = c.args.self.now in
    let inside = c.self.inside in
    let e = c.in_err-hear_body.field-0.0 in
    err_has c.from_residual-in_err-hear_body.result e (λ x. x ≢ NoMemory → FrameFails es old x) c.from_residual-in_err-hear_body.ensures
    (first_fails es old (record { here = inside.here; side = inside.side; parts = inside.joiner }) inside.framer c.next.new.self c.in-Some.body
    c.bytes.result.now e c.self.view_is first c.bytes.ensures c.in_err-hear_body.ensures.told)
