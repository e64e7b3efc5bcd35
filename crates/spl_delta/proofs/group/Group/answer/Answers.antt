use Rattle.spl_delta.proofs.group.Group.answer.Goals as goal

pub returns-in-Watch-clause-after : goal.returns-in-Watch-clause-after
returns-in-Watch-clause-after c = λ h here. rw (c.in-Watch.is) (c.watch.ensures.after h c.in-Watch.node c.in-Watch.circuit here)

pub returns-in-Pull-clause-after : goal.returns-in-Pull-clause-after
returns-in-Pull-clause-after c = λ h here. rw (c.in-Pull.is) (c.pull.ensures.after h c.in-Pull.node c.in-Pull.circuit)
