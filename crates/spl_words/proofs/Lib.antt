mod Cells
pub mod Splits
pub mod Numbers
pub mod WordLaws
pub mod HexLaws
pub mod HexDigits
pub mod KeywordLaws
pub mod Items
pub mod RowLaws
