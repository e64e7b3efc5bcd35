-- The laws of ids and of positions that are used here.
pub use Rattle.spl_circuit.specs.{Same.node_is, Positions.{position_below, position_apart}}
