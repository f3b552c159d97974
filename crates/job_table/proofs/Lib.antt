-- Lemmas of this crate.
pub mod PlanFaults
pub mod PlanParts
pub mod PlannedAnswers
pub mod SharedPlanLemmas
