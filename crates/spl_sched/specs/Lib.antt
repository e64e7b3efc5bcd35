pub mod Transactions
pub mod Checks
pub mod Grammar
