-- The law of equal batches, which stands in spl_command.
pub use Rattle.spl_command.specs.Same.{same_batches}
