-- What holds of all lines holds of each.
pub use Rattle.spl_lines.proofs.Schedules.{all_at}
