-- How a run ended in the lines of its source, while some of the answers wait.
use Rattle.std.{specs.{Prelude.IsErrOf, Io.KnownBytes.IsAtEnd}, proofs.Common.{◌≡◌, ◌≢◌, ◌∙◌, ◌⊎◌, ◌<◌, ◌≤◌, ◌+◌, ◌-◌, inl, inr, ℕ, Bool, false, List, []}}
use Rattle.std.proofs.Common.{◌∷◌, ◌++◌, Result, Ok, Err, sym, ap, subst, refl, length, take, append-nil, arith}
use Rattle.spl_edge.specs.{Devices.{Rose, SourceView}, Sources.{limit, given}}
use Rattle.spl_lines.specs.{Feed.{Feeds, count_of, waiting}, Lines.{run_of, IsLong, IsShort, has_feed}, declared.feed.{Feed.Feed, FeedFault.FeedFault}}
use Rattle.spl_lines.proofs.Schedules.{all-push}
use Rattle.spl_lines.proofs.Fed.{all_lines, is_long, is_overlong, is_short, rest_given, rest_short, unfinished as is_unfinished}
use Rattle.spl_lines.specs.declared.feed.FeedFault.TheVariants as feed
use Rattle.spl_acceptor.specs.declared.group.Group.{Group}
use Rattle.spl_paxos.specs.declared.line.PaxosLine.{PaxosLine}
use Rattle.spl_paxos_run.specs.{Run.{ArePaxosLines, PaxosDevices, PaxosRunEnds, PaxosEndsText}, Schedule.{IsPaxosLine, numbered_lines, paxos_line_said}}
use Rattle.spl_paxos_run.specs.{Schedule.{with_number, happenings}, Stages.{AreLinesDone, ReachesPaxosEnd, PaxosEndsAt, RunFailsAt, RunFailsBy}}
use Rattle.spl_paxos_run.{specs.{Stages.paxos_feed_end, declared.{fault.PaxosFault.PaxosFault, run.{PaxosEnd.PaxosEnd, Run.Run}}}, proofs.Halting.stops_done}
use Rattle.spl_paxos_run.proofs.{Halting.stops_unread, Lines.numbered_more, Reading.{all_before, before_it, it_and_more, whole}, Standing.are_left}
use Rattle.spl_paxos_run.specs.declared.fault.PaxosFault.TheVariants as fault
use Rattle.spl_paxos_run.specs.declared.run.PaxosEnd.TheVariants as end

ends_at : (f : PaxosFault) (g : Group) (lines read : List (List ℕ)) (before next : List (ℕ × PaxosLine)) (x y : PaxosDevices)
    → ((n : ℕ) → f ≡ fault.BadLine n → read ≡ take (n - 1) lines) → PaxosEndsAt f g before next x y → PaxosRunEnds (Err f) g lines read before next x y
ends_at (fault.BadLine n) g lines read before next x y bad why = (bad n refl, why)
ends_at (fault.TooMany which) g lines read before next x y bad why = why
ends_at (fault.Disk n) g lines read before next x y bad why = why
ends_at fault.Write g lines read before next x y bad why = (why.1, inl why.0)
ends_at fault.NoMemory g lines read before next x y bad why = tt

-- ---- at a line

module _ (g : Group) (lines : List (List ℕ)) (wait : List ℕ) (x y : PaxosDevices) where
  -- after these lines, or in the last of them
  comes : (f : PaxosFault) (read rest : List (List ℕ)) → lines ≡ read ++ rest → ArePaxosLines g read
      → ((n : ℕ) → f ≡ fault.BadLine n → read ≡ take (n - 1) lines) → RunFailsAt f g (numbered_lines 1 read) wait x y
      → ReachesPaxosEnd (Err f) g lines wait x y
  comes f read rest place good bad h = record {
    read = read;
    rest = rest;
    place = place;
    allowed = good;
    before = h.before;
    next = h.next;
    all = h.all;
    ends = ends_at f g lines read h.before h.next x y bad h.why;
    leaves = h.leaves;
  }

  -- there was no memory before the first line
  pub comes_none : RunFailsAt fault.NoMemory g [] wait x y → ReachesPaxosEnd (Err fault.NoMemory) g lines wait x y
  comes_none h = comes fault.NoMemory [] lines refl tt (λ n q. cc) h

  module _ (before : List (List ℕ)) (line : List ℕ) (rest : List (List ℕ)) (place : lines ≡ (before ++ line ∷ []) ++ rest) (good : ArePaxosLines g before)
      (number : ℕ) (counted : number ≡ length before + 1) where
    comes_else : (f : PaxosFault) → ((n : ℕ) → f ≡ fault.BadLine n → ⊥)
        → RunFailsAt f g (numbered_lines 1 before) wait x y
        ⊎ (IsPaxosLine g line × RunFailsAt f g (numbered_lines 1 before ++ with_number number (paxos_line_said line) []) wait x y)
        → ReachesPaxosEnd (Err f) g lines wait x y
    comes_else f other (inl h) = comes f before (line ∷ rest) (whole before line rest lines place) good (λ n q. absurd (other n q)) h
    comes_else f other (inr h) =
        comes f (before ++ line ∷ []) rest place (all-push (IsPaxosLine g) before line good h.0) (λ n q. absurd (other n q))
        (subst (λ (ls : List (ℕ × PaxosLine)). RunFailsAt f g ls wait x y) (sym (numbered_more before line number counted)) h.1)

    pub comes_by : (f : PaxosFault) → RunFailsBy f g (numbered_lines 1 before) number line wait x y → ReachesPaxosEnd (Err f) g lines wait x y
    comes_by (fault.BadLine n) h =
        comes (fault.BadLine n) before (line ∷ rest) (whole before line rest lines place) good
        (λ m q. (let same : n ≡ m = cc in sym (before_it before line rest lines place m (sym same ∙ h.0 ∙ counted)))) h.2
    comes_by (fault.TooMany which) h = comes_else (fault.TooMany which) (λ n q. cc) h
    comes_by (fault.Disk n) h = comes_else (fault.Disk n) (λ m q. cc) h
    comes_by fault.Write h = comes_else fault.Write (λ n q. cc) h
    comes_by fault.NoMemory h = comes_else fault.NoMemory (λ n q. cc) h

    -- what the source gave
    pub text_by : (f : PaxosFault) → RunFailsBy f g (numbered_lines 1 before) number line wait x y → (s t : SourceView) → PaxosEndsText (Err f) g lines s t
    text_by (fault.BadLine n) h s t =
        let same : n ≡ number = h.0 in
        inl (record {
          line = line;
          more = rest;
          counted = omega (arith, same, counted);
          place = it_and_more before line rest lines place n (same ∙ counted);
          bad = h.1;
        })
    text_by (fault.TooMany which) h s t = tt
    text_by (fault.Disk n) h s t = tt
    text_by fault.Write h s t = tt
    text_by fault.NoMemory h s t = tt

-- ---- after all lines given

module _ (g : Group) (lines : List (List ℕ)) (run : Run) (x y : PaxosDevices) (good : ArePaxosLines g lines)
    (done : AreLinesDone g (numbered_lines 1 lines) run x y) where
  pub comes_ok : (e : PaxosEnd) → ReachesPaxosEnd (Ok e) g lines run.output x y
  comes_ok e = record {
    read = lines;
    rest = [];
    place = sym (append-nil lines);
    allowed = good;
    before = numbered_lines 1 lines;
    next = [];
    all = sym (append-nil (numbered_lines 1 lines));
    ends = (refl, refl);
    leaves = record {
      within = done.within;
      left = are_left g (happenings (numbered_lines 1 lines)) x.disks y.disks run.world done.group done.stands done.picked;
      spared = done.spared;
      due = done.due;
    };
  }

  comes_bad : (number : ℕ) → number ≡ length lines + 1 → ReachesPaxosEnd (Err (fault.BadLine number)) g lines run.output x y
  comes_bad number counted =
      comes g lines run.output x y (fault.BadLine number) lines [] (sym (append-nil lines)) good
      (λ n q. (let same : number ≡ n = cc in sym (all_before lines lines n refl (sym same ∙ counted))))
      (stops_unread g (numbered_lines 1 lines) run x y done number)

  -- where no line comes
  pub comes_end : (f : FeedFault) (number : ℕ) → number ≡ length lines + 1 → ReachesPaxosEnd (paxos_feed_end f number) g lines run.output x y
  comes_end feed.Unfinished number counted = comes_bad number counted
  comes_end feed.Overlong number counted = comes_bad number counted
  comes_end feed.TooLong number counted = comes_ok end.TooLong
  comes_end feed.Read number counted = comes_ok end.Read
  comes_end feed.NoMemory number counted =
      comes g lines run.output x y fault.NoMemory lines [] (sym (append-nil lines)) good (λ n q. cc) (stops_done g (numbered_lines 1 lines) run x y done)

-- ---- what the source gave

abbrev failed : FeedFault → Result Bool FeedFault
failed e = Err e

module _ (s t : SourceView) (lines : List (List ℕ)) (f : Feed) (feeds : Feeds s.gave s.left lines t.gave t.left f) (none : has_feed (waiting f) ≡ false)
    (g : Group) where
  pub all_given : run_of (given s t) ≡ lines
  all_given = all_lines s.gave s.left lines t.gave t.left f feeds none

  pub text_whole : IsAtEnd t.left × (count_of f ≤ limit) × (waiting f ≡ []) → PaxosEndsText (Ok end.Whole) g (run_of (given s t)) s t
  text_whole (ended, few, empty) = record {
    ended = ended;
    short = is_short s.gave s.left lines t.gave t.left f feeds none few;
    whole = rest_given s.gave s.left lines t.gave t.left f feeds none few ∙ empty;
  }

  module _ (number : ℕ) (counted : number ≡ length lines + 1) (before : ℕ) (later : s.faults ≤ before) where
    pub text_end : (e : FeedFault) → (IsErrOf (failed e) feed.Unfinished → IsAtEnd t.left × (count_of f ≤ limit) × (waiting f ≢ []))
        → (IsErrOf (failed e) feed.Overlong → IsLong (waiting f))
        → (IsErrOf (failed e) feed.TooLong → (limit < count_of f) × IsShort (waiting f))
        → (IsErrOf (failed e) feed.Read → Rose before t.faults × (count_of f ≤ limit) × IsShort (waiting f))
        → PaxosEndsText (paxos_feed_end e number) g (run_of (given s t)) s t
    text_end feed.Unfinished unfinished over long read =
        let h = unfinished refl in
        inr (record {
          last =
              omega (arith, counted, ap length all_given);
          bad = inl (is_unfinished s.gave s.left lines t.gave t.left f feeds none h.1 h.0 h.2);
        })
    text_end feed.Overlong unfinished over long read =
        inr (record {
          last = omega (arith, counted, ap length all_given);
          bad = inr (is_overlong s.gave s.left lines t.gave t.left f feeds none (over refl));
        })
    text_end feed.TooLong unfinished over long read = is_long s.gave s.left lines t.gave t.left f feeds none (long refl)
    text_end feed.Read unfinished over long read =
        let h = read refl in
        let few = is_short s.gave s.left lines t.gave t.left f feeds none h.1 in
        (omega (arith, later, h.0), few, rest_short s.gave s.left lines t.gave t.left f feeds none h.1 h.2)
    text_end feed.NoMemory unfinished over long read = tt
