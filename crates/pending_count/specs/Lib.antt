-- Condition: the files of this crate's definitions; the first line of each says what it is. Begin with Shows.
pub mod Views
pub mod Shows
pub mod Steps
pub mod PairSteps
pub mod Plays
pub mod Seats
pub mod PairSeats
pub mod Pairs
