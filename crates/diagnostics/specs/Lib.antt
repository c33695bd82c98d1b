pub mod LineText
pub mod KindWord
pub mod FaultLine
