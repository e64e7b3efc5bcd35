use Rattle.std.proofs.Common.{refl}
use Rattle.spl_serve.proofs.Turning.{serves_text}
use Rattle.spl_serve.proofs.turn.ServerTurn.tell.Goals as goal

pub returns-clause-told : goal.returns-clause-told
returns-clause-told c = λ here before ds was. serves_text here before ds c.args.caller c.args.text c.args.self.now
    (record {
      turn =
          c.args.self.now.turn;
      runs = c.args.self.now.runs;
      tally = c.args.self.now.tally;
      watchers = c.args.self.now.watchers;
      slots = c.push.new.self;
    }) was refl c.in_ok-push.ensures.items refl
