-- Laws of equal definitions, which stand in spl_circuit.
pub use Rattle.spl_circuit.specs.Same.{definition_is, definition_same}
