-- What a framer keeps: the bytes from `start` on are not handed out yet, and whole frames reach to `end`.
use Rattle.std.specs.Prelude.{◌≡◌, ◌≤◌, ℕ, List, length, drop, Option}
use Rattle.spl_frame.specs.{Frames.{stream_of, fault_of}, declared.fault.FrameFault.FrameFault}

pub record IsBuffer (bytes : List ℕ) (start end : ℕ) (fault : Option FrameFault) : Type 0 where
  pub order : start ≤ end
  pub within : end ≤ length bytes
  pub after : (stream_of (drop start bytes)).rest ≡ drop end bytes
  pub shows : fault_of (drop start bytes) ≡ fault
