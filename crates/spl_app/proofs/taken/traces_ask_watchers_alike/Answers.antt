-- By the watchers after all tasks, which no line of the nodes changes.
use Rattle.spl_app.proofs.Traced.{ask-alike}
use Rattle.spl_app.proofs.taken.traces_ask_watchers_alike.Goals as goal

pub returns : goal.returns
returns c = λ o ts begins. ask-alike o begins ts
