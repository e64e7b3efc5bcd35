-- What bytes spell by what they say.
use Rattle.std.proofs.{Common.{◌≡◌, ◌⊎◌, ℕ, true, false, List, Option, Some, None, inl, inr, ap}, lemmas.Bool.cases_Bool}
use Rattle.spl_delta.specs.{Watches.watch_line_of, declared.line.WatchLine.WatchLine}
use Rattle.spl_lines.specs.{Lines.is_silent, Tasks.{or_watch, line_said, said_in}, declared.reading.Said.Said}
use Rattle.spl_lines.specs.declared.reading.Said.TheVariants as say
use Rattle.spl_sched.specs.{Grammar.line_of, declared.line.Line.Line}

or_line : (o : Option Line) (w : Option WatchLine) (l : Line) → or_watch o w ≡ Some (say.Line l) → o ≡ Some l
or_line None None l h = absurd cc
or_line None (Some x) l h = absurd cc
or_line (Some m) w l h = (let same : m ≡ l = cc in ap Some same)

or_watcher : (o : Option Line) (w : Option WatchLine) (l : WatchLine) → or_watch o w ≡ Some (say.Watch l) → w ≡ Some l
or_watcher None None l h = absurd cc
or_watcher None (Some x) l h = (let same : x ≡ l = cc in ap Some same)
or_watcher (Some m) w l h = absurd cc

-- bytes that say something are read
read_in : (bytes : List ℕ) (s : Said) → line_said bytes ≡ Some s → said_in bytes ≡ Some s
read_in bytes s h = go (cases_Bool (is_silent bytes))
  where
    go : (is_silent bytes ≡ true) ⊎ (is_silent bytes ≡ false) → said_in bytes ≡ Some s
    go (inl u) = absurd (let none : None ≡ Some s = rw u at h in cc)
    go (inr u) = rw u at h

pub line_read : (bytes : List ℕ) (l : Line) → line_said bytes ≡ Some (say.Line l) → line_of bytes ≡ Some l
line_read bytes l h = or_line (line_of bytes) (watch_line_of bytes) l (read_in bytes (say.Line l) h)

pub watch_read : (bytes : List ℕ) (l : WatchLine) → line_said bytes ≡ Some (say.Watch l) → watch_line_of bytes ≡ Some l
watch_read bytes l h = or_watcher (line_of bytes) (watch_line_of bytes) l (read_in bytes (say.Watch l) h)
