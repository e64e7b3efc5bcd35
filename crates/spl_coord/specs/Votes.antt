-- What a vote leads to at the coordinator, and what a set of open rounds says of a round (docs/RULES.md, "Groups").
use Rattle.std.specs.Prelude.{ℕ, Bool, true, false, ◌==◌, ◌&&◌, if◌then◌else◌, Option, Some, None}
use Rattle.spl_agree.specs.Member.{has, but, none_left}
use Rattle.spl_coord.specs.{Views.VotingView, declared.voting.Voted.Voted}
use Rattle.spl_coord.specs.declared.voting.Voted.TheVariants as voted

-- a yes counts once; the last one commits
abbrev pub voted_yes : {V : Type 0} → VotingView V → ℕ → Voted V
voted_yes o i =
    if has i o.missing
    then (if none_left (but i o.missing) then voted.Committed tt o.round o.value else voted.Counted (record o { missing = but i o.missing }))
    else voted.Ignored o

-- a vote on the open round, of one of those that it was opened for
abbrev pub voted_by : {V : Type 0} → VotingView V → ℕ → Bool → Voted V
voted_by o i true = voted_yes o i
voted_by o i false = voted.Aborted tt o.round o.value

-- a vote on a round; one of a stranger, or on another round, is passed over
abbrev pub voted_on : {V : Type 0} → VotingView V → ℕ → ℕ → Bool → Voted V
voted_on o r i aye = if o.round == r && has i o.others then voted_by o i aye else voted.Ignored o

-- the round is the open one
abbrev pub is_the_open : ℕ → Option ℕ → Bool
is_the_open r None = false
is_the_open r (Some o) = o == r
