use Rattle.std.proofs.Common.{◌≡◌, refl}
use Rattle.spl_agree.specs.World.{put}
use Rattle.spl_acceptor.specs.Worlds.{answers_to, put_name, put_round, forget}
use Rattle.spl_paxos_safety.specs.Examples.{two_members, commit_lines, commit_answers, three_acceptors, abort_lines, abort_answers}
use Rattle.spl_paxos_safety.proofs.example_laws.schedules_are_answered.Goals as goal

commits : answers_to two_members commit_lines ≡ commit_answers
unfolding put put_name put_round forget
commits = refl

aborts : answers_to three_acceptors abort_lines ≡ abort_answers
unfolding put put_name put_round forget
aborts = refl

pub returns : goal.returns
returns c = record { commit = commits; abort = aborts }
