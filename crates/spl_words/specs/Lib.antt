pub mod Words
pub mod HexWords
