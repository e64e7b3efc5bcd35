-- The cause of an end, by what a run says of it and of the text that it read.
use Rattle.std.proofs.Common.{◌≡◌, Bool, true, false, Ok, Err, refl, sym, ◌∙◌}
use Rattle.spl_edge.specs.Devices.{SourceView}
use Rattle.spl_runs.specs.Run.{Plan, RunMode, Devices, Ended, EndsText, Why}
use Rattle.spl_runs.specs.declared.fault.RunEnd.TheVariants as end
use Rattle.spl_runs.specs.declared.fault.RunFault.TheVariants as fault
use Rattle.spl_world.specs.declared.fault.WorldFault.TheVariants as error
use Rattle.spl_app.specs.Asked.{Because}

-- the text of a schedule is why it ended
abbrev pub is_of_text : Ended → Bool
is_of_text (Ok end.Read) = true
is_of_text (Ok end.TooLong) = true
is_of_text (Err (fault.BadLine n)) = true
is_of_text e = false

module _ (w : RunMode) (p : Plan) (c d : SourceView) (x y : Devices) where
  -- of a schedule that is read
  pub because_read : (e : Ended) (read : Bool) → read ≡ true → EndsText e w p c d → Why e w p x y → Because e w p read c d x y
  because_read (Ok end.Whole) read is text why = (why, λ h. text)
  because_read (Ok end.Read) read is text why = (why, is, text.0, text.1, text.2)
  because_read (Ok end.TooLong) read is text why = (why, is, text.0, text.1)
  because_read (Err (fault.BadLine n)) read is text why = (why, is, text)
  because_read (Err (fault.World (error.TooMany which))) read is text why = why
  because_read (Err (fault.World (error.Disk k))) read is text why = why
  because_read (Err (fault.World (error.NotAJournal k at))) read is text why = why
  because_read (Err (fault.World error.Link)) read is text why = why
  because_read (Err (fault.World (error.Lied from to sent got))) read is text why = why
  because_read (Err (fault.World error.NoMemory)) read is text why = why
  because_read (Err fault.Write) read is text why = why
  because_read (Err fault.NoMemory) read is text why = why

  -- of one that is made
  pub because_made : (e : Ended) → is_of_text e ≡ false → Why e w p x y → Because e w p false c d x y
  because_made (Ok end.Whole) none why = (why, λ h. absurd cc)
  because_made (Ok end.Read) none why = absurd cc
  because_made (Ok end.TooLong) none why = absurd cc
  because_made (Err (fault.BadLine n)) none why = absurd cc
  because_made (Err (fault.World (error.TooMany which))) none why = why
  because_made (Err (fault.World (error.Disk k))) none why = why
  because_made (Err (fault.World (error.NotAJournal k at))) none why = why
  because_made (Err (fault.World error.Link)) none why = why
  because_made (Err (fault.World (error.Lied from to sent got))) none why = why
  because_made (Err (fault.World error.NoMemory)) none why = why
  because_made (Err fault.Write) none why = why
  because_made (Err fault.NoMemory) none why = why

  -- what the run says
  pub why_of : (e : Ended) (read : Bool) → Because e w p read c d x y → Why e w p x y
  why_of (Ok end.Whole) read h = h.0
  why_of (Ok end.Read) read h = h.0
  why_of (Ok end.TooLong) read h = h.0
  why_of (Err (fault.BadLine n)) read h = h.0
  why_of (Err (fault.World (error.TooMany which))) read h = h
  why_of (Err (fault.World (error.Disk k))) read h = h
  why_of (Err (fault.World (error.NotAJournal k at))) read h = h
  why_of (Err (fault.World error.Link)) read h = h
  why_of (Err (fault.World (error.Lied from to sent got))) read h = h
  why_of (Err (fault.World error.NoMemory)) read h = h
  why_of (Err fault.Write) read h = h
  why_of (Err fault.NoMemory) read h = h

  -- and of the text, where it read one
  pub text_of : (e : Ended) (read : Bool) → read ≡ true → Because e w p read c d x y → EndsText e w p c d
  text_of (Ok end.Whole) read is h = h.1 is
  text_of (Ok end.Read) read is h = (h.2, h.3, h.4)
  text_of (Ok end.TooLong) read is h = (h.2, h.3)
  text_of (Err (fault.BadLine n)) read is h = h.2
  text_of (Err (fault.World (error.TooMany which))) read is h = tt
  text_of (Err (fault.World (error.Disk k))) read is h = tt
  text_of (Err (fault.World (error.NotAJournal k at))) read is h = tt
  text_of (Err (fault.World error.Link)) read is h = tt
  text_of (Err (fault.World (error.Lied from to sent got))) read is h = tt
  text_of (Err (fault.World error.NoMemory)) read is h = tt
  text_of (Err fault.Write) read is h = tt
  text_of (Err fault.NoMemory) read is h = tt

  pub none_of_text : (e : Ended) (read : Bool) → read ≡ false → Because e w p read c d x y → is_of_text e ≡ false
  none_of_text (Ok end.Whole) read is h = refl
  none_of_text (Ok end.Read) read is h = (let both : true ≡ false = sym h.1 ∙ is in absurd cc)
  none_of_text (Ok end.TooLong) read is h = (let both : true ≡ false = sym h.1 ∙ is in absurd cc)
  none_of_text (Err (fault.BadLine n)) read is h = (let both : true ≡ false = sym h.1 ∙ is in absurd cc)
  none_of_text (Err (fault.World (error.TooMany which))) read is h = refl
  none_of_text (Err (fault.World (error.Disk k))) read is h = refl
  none_of_text (Err (fault.World (error.NotAJournal k at))) read is h = refl
  none_of_text (Err (fault.World error.Link)) read is h = refl
  none_of_text (Err (fault.World (error.Lied from to sent got))) read is h = refl
  none_of_text (Err (fault.World error.NoMemory)) read is h = refl
  none_of_text (Err fault.Write) read is h = refl
  none_of_text (Err fault.NoMemory) read is h = refl
