-- What a framer has handed out, and what it has left, of the bytes that it heard.
use Rattle.std.specs.Prelude.{◌≡◌, ℕ, List, ◌++◌}
use Rattle.spl_frame.specs.Frames.{stream_of}

-- whatever comes next, the frames so far and those that are left are those of all bytes heard
abbrev pub Heard : List ℕ → List (List ℕ) → List ℕ → Type 0
Heard heard frames left =
    (more : List ℕ) → ((stream_of (heard ++ more)).frames ≡ frames ++ (stream_of (left ++ more)).frames)
    × ((stream_of (heard ++ more)).fault ≡ (stream_of (left ++ more)).fault)
