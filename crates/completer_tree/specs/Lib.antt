-- Condition: the files of this crate's definitions; the first line of each says what it is. Begin with Places and
-- Roots.
pub mod Places
pub mod Roots
pub mod Trees
pub mod Forks
pub mod Climbs
pub mod Paths
