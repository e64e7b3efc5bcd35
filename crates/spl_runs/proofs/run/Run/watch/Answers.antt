use Rattle.std.proofs.Common.{refl}
use Rattle.spl_world.specs.declared.fault.WorldFault.TheVariants.{TooMany}
use Rattle.spl_runs.{specs.Run.held_on, proofs.{Causes.err_as, Running.{watch_fails, watch_runs}}}
use Rattle.spl_runs.proofs.run.Run.watch.Goals as goal

pub returns-in_err-count_event : goal.returns-in_err-count_event
returns-in_err-count_event c = λ linked x go.
    watch_fails go c.args.line.now c.count_event.new.self c.args.self.now.watchers c.count_event.ensures.ids c.count_event.ensures.places _
    c.from_residual.ensures
    (λ o others which before st same. c.in_err-count_event.ensures.many (held_on x.disks) o others which before st (err_as _ (TooMany which) same))
    (λ room. c.in_err-count_event.ensures.only)

pub returns-in_err-tell : goal.returns-in_err-tell
returns-in_err-tell c = λ linked x go.
    watch_fails go c.args.line.now c.count_event.new.self c.tell.new.watchers c.count_event.ensures.ids c.count_event.ensures.places _
    c.from_residual-in_err-tell.ensures
    (λ o others which before st same. absurd cc) (λ room. absurd (room refl))

pub returns : goal.returns
returns c = λ linked x go.
    let is = held_on x.disks in
    watch_runs go c.args.line.now c.count_event.new.self c.tell.new.watchers c.count_event.ensures.ids c.count_event.ensures.places
    (c.count_event.ensures.same is) c.in_ok-count_event.ensures.running
    (c.in_ok-count_event.ensures.stands is) (c.in_ok-count_event.ensures.few is) (λ m h. c.in_ok-tell.ensures.answer is m h)
    (λ m h. c.in_ok-tell.ensures.after is m h) c.tell.ensures.others
