use Rattle.std.proofs.Common.{refl, ◌∙◌, ap}
use Rattle.spl_delta.specs.{Watches.watch_text, declared.answer.WatchAnswer.WatchAnswer}
use Rattle.spl_serve.{specs.{Servers.turn_served, Turns.ended}, proofs.{Turning.serves_watch, Told.watched_past}}
use Rattle.spl_serve.proofs.turn.ServerTurn.watch.Goals as goal

pub returns-clause-watched : goal.returns-clause-watched
returns-clause-watched c = λ here before ds was. serves_watch here before ds c.args.caller c.args.line.now c.in_ok-text.text c.args.self.now
    (record {
      turn =
          c.args.self.now.turn;
      runs = c.args.self.now.runs;
      tally = c.args.self.now.tally;
      watchers = c.answer_watch.new.watchers;
      slots = c.push.new.self;
    }) was refl
    c.in_ok-push.ensures.items
    (c.in_ok-text.ensures ∙ ap (λ (a : WatchAnswer). ended (watch_text a)) c.in_ok-answer.ensures.answer)
    (watched_past (turn_served c.args.self.now) c.args.line.now c.in_ok-answer.answer c.answer_watch.new.watchers c.in_ok-answer.ensures.answer
    c.in_ok-answer.ensures.after c.in_ok-answer.ensures.others)
