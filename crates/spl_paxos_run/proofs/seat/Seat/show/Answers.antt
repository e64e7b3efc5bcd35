use Rattle.std.proofs.Common.{ap, sym, ◌∙◌}
use Rattle.spl_acceptor.specs.Worlds.{shown}
use Rattle.spl_paxos_run.proofs.Answering.{shows_down, shows_up}
use Rattle.spl_paxos_run.proofs.seat.Seat.show.Goals as goal

pub returns-in-None : goal.returns-in-None
returns-in-None c = λ g w o stands. sym (shows_down g w c.args.self.now.name c.args.self.now.process o c.args.round c.requires.kind stands c.in-None.is)

pub returns-in-None-decision : goal.returns-in-None-decision
returns-in-None-decision c = λ g w o stands.
    sym (shows_up g w c.args.self.now.name c.args.self.now.process o c.args.round c.requires.kind stands c.in-Some.process c.decision.result c.in-Some.is
    c.decision.ensures ∙ ap shown c.in-None-decision.is)

pub returns-in-Some-decision : goal.returns-in-Some-decision
returns-in-Some-decision c = λ g w o stands.
    sym (shows_up g w c.args.self.now.name c.args.self.now.process o c.args.round c.requires.kind stands c.in-Some.process c.decision.result c.in-Some.is
    c.decision.ensures ∙ ap shown c.in-Some-decision.is)
