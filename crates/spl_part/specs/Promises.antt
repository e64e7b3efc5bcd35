-- What requests and decisions lead to at a member that isn't the coordinator (docs/RULES.md, "Groups").
use Rattle.std.specs.Prelude.{ℕ, Bool, ◌&&◌, ◌==◌, nat_lt, if◌then◌else◌}
use Rattle.spl_part.specs.declared.promise.{Again.Again, Decided.Decided, Requested.Requested}
use Rattle.spl_part.specs.declared.promise.Requested.TheVariants as requested
use Rattle.spl_part.specs.declared.promise.Again.TheVariants as again
use Rattle.spl_part.specs.declared.promise.Decided.TheVariants as decided

-- a request where nothing is promised: `committed` says that the round is in the history, `fits` that the place and the check are good
abbrev pub requested_of : {V : Type 0} → ℕ → ℕ → Bool → Bool → V → Requested V
requested_of seen r committed fits v =
    if nat_lt r seen then requested.Ignored tt v
    else (if r == seen && committed then requested.Ignored tt v
    else (if r == seen then requested.Declined tt v
    else (if fits then requested.Promised (r, v) else requested.Declined tt v)))

-- a request where a round is promised
abbrev pub asked_again : ℕ → ℕ → Again
asked_again promised r = if promised == r then again.Yes else again.Ask promised

-- a decision where a round is promised
abbrev pub decided_of : {V : Type 0} → ℕ × V → ℕ → Bool → Decided V
decided_of p r commit =
    if p.0 == r then (if commit then decided.Committed tt p.0 p.1 else decided.Aborted tt p.0 p.1) else decided.Ignored p
