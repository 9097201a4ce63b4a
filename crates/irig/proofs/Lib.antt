pub mod MonthEnds
pub mod Writing
pub mod Reading
