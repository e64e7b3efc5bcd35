-- What a tracer has written (docs/RULES.md, Traces).
use Rattle.std.specs.Prelude.{◌≡◌, ℕ, Bool, true, List}
use Rattle.spl_sched.specs.declared.line.Line.{Line}
use Rattle.spl_trace.specs.Traced.{lines_text}

-- whether it writes, and what is written
pub record Tracing : Type 0 where
  pub on : Bool
  pub text : List ℕ

-- where it is on, what is written are these lines
abbrev pub HasHeard : Tracing → List Line → Type 0
HasHeard t es = t.on ≡ true → t.text ≡ lines_text es
