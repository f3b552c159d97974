-- Condition: the files of this crate's definitions; the first line of each says what it is.
pub mod BatchItems
pub mod Batches
pub mod Choices
pub mod Faultless
pub mod InnerColumns
pub mod LaneValues
pub mod Lanes
pub mod NumberTests
pub mod Pipelines
pub mod Pours
pub mod Powers
pub mod Reciprocals
pub mod Rooms
pub mod Rows
