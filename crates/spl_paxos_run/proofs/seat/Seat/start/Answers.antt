use Rattle.std.{specs.Prelude.is_some, proofs.Common.{◌≡◌, true, false, Option, refl, ap, sym, ◌∙◌, rules, subst}}
use Rattle.spl_edge.specs.Devices.{Image, image_now}
use Rattle.spl_journal.specs.declared.form.JournalFault.TheVariants.{Disk, NotAJournal}
use Rattle.spl_acceptor.{specs.Worlds.{Starts, process_started}, proofs.Logs.still_holds}
use Rattle.spl_paxos_run.{specs.Seats.IsDown, proofs.{Answering.settles, Seating.{still_so, is_down, comes_up}, Stopping.{starts_next, start_falls}}}
use Rattle.spl_paxos_run.proofs.Stopping.{down_journal, err_over}
use Rattle.spl_paxos_run.proofs.seat.Seat.start.Goals as goal

pub returns-then-is_some-clause-done : goal.returns-then-is_some-clause-done
returns-then-is_some-clause-done g c = λ w stands.
    let s = c.args.self.now in
    let x = g.D.Disk.view c.args.disk.now in
    let run = c.args.group in
    let some : is_some s.process ≡ true = search rules in
    settles run w (process_started w s.name) (Starts s.name) s.name s x x c.silent.result (starts_next run w s.name c.requires.named) refl refl
    (still_so run w s.name s.process (image_now x) some stands) refl c.silent.ensures.answer c.silent.ensures.sends

pub returns-in-Ok-clause-done : goal.returns-in-Ok-clause-done
returns-in-Ok-clause-done g c = λ w stands.
    let s = c.args.self.now in
    let run = c.args.group in
    let x = g.D.Disk.view c.args.disk.now in
    let y = g.D.Disk.view c.open.new.disk in
    let none : is_some s.process ≡ false = search rules in
    let same = still_holds x y c.open.ensures.stays in
    settles run w (process_started w s.name) (Starts s.name) s.name _ x y c.silent-in-Ok.result
    (starts_next run w s.name c.requires.named) refl c.open.ensures.onward.picks
    (comes_up run w s.name c.in-Ok.process (image_now y)
    (subst (λ (o : Option Image). IsDown run w s.name o) (sym same) (is_down run w s.name s.process (image_now x) none stands))
    c.in-Ok.ensures.run c.in-Ok.ensures.running (c.in-Ok.ensures.states w) c.in-Ok.ensures.stands)
    refl c.silent-in-Ok.ensures.answer c.silent-in-Ok.ensures.sends

pub returns-in-Err-clause-done : goal.returns-in-Err-clause-done
returns-in-Err-clause-done g c = λ w stands.
    let s = c.args.self.now in
    let run = c.args.group in
    let x = g.D.Disk.view c.args.disk.now in
    let y = g.D.Disk.view c.open.new.disk in
    let none : is_some s.process ≡ false = search rules in
    start_falls run w s.name s x y c.in-Err.fault (is_down run w s.name s.process (image_now x) none stands)
    (still_holds x y c.open.ensures.stays) c.open.ensures.onward.picks

pub returns-in-Err-clause-disk : goal.returns-in-Err-clause-disk
returns-in-Err-clause-disk g c =
    let s = c.args.self.now in
    let x = g.D.Disk.view c.args.disk.now in
    let none : is_some s.process ≡ false = search rules in
    let run = c.requires.seated.0 in
    let w = c.requires.seated.1 in
    record {
      later = c.open.ensures.onward.no_less;
      unarmed = λ off. ap (λ a. a.arming) c.open.ensures.onward.armed ∙ off;
      failed = λ is. c.in-Err.ensures.failed (err_over c.in-Err.fault Disk is);
      sound = λ at is. down_journal run w s.name (image_now x) at (is_down run w s.name s.process (image_now x) none c.requires.seated.2)
          (c.in-Err.ensures.not at (err_over c.in-Err.fault (NotAJournal at) is));
    }
