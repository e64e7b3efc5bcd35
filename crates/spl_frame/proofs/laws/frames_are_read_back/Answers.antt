use Rattle.spl_frame.proofs.Streams.{frames_back}
use Rattle.spl_frame.proofs.laws.frames_are_read_back.Goals as goal

pub returns : goal.returns
returns c = frames_back
