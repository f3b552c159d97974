-- Condition: the files of this crate's definitions; the first line of each says what it is. Begin with PlanLegs.
pub mod PlanLegs
