-- At each moment what is committed at a process begins the list of its circuit.
use Rattle.spl_serve.proofs.Following.{tell_lists, tell_lists_from_blank}
use Rattle.spl_serve.proofs.laws.watchers_of_processes_take_one_list.Goals as goal

pub returns : goal.returns
returns c = record { from_blank = tell_lists_from_blank; onwards = tell_lists }
