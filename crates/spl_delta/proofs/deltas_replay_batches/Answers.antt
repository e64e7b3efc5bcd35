-- A batch at a time.
use Rattle.spl_delta.proofs.Replays.{replays, prefix-deltas, cut, pulled, deltas-on}
use Rattle.spl_delta.proofs.deltas_replay_batches.Goals as goal

pub returns : goal.returns
returns c = record { states = replays; prefixes = prefix-deltas; cut = cut; pulled = pulled; on = deltas-on }
