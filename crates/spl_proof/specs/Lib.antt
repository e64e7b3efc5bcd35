pub mod Accepted
pub mod Made
pub mod Clashes
pub mod Forms
pub mod FormLaws
