use Rattle.spl_frame.proofs.Streams.{stream_is_read, one_reading}
use Rattle.spl_frame.proofs.laws.a_stream_is_read_one_way.Goals as goal

pub returns-clause-is : goal.returns-clause-is
returns-clause-is c = stream_is_read

pub returns-clause-only : goal.returns-clause-only
returns-clause-only c = one_reading
