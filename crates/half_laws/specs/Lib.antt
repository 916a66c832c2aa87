pub mod ComparisonLaws
pub mod HitLaws
pub mod MapLaws
pub mod MeanLaws
pub mod ProbeLaws
pub mod RunLaws
pub mod TailLaws
-- What callers need of the words below, so that they list only this crate.
pub use Rattle.half_store.specs.Capacity
pub use Rattle.half_store.specs.Work
pub use Rattle.halfbrown.specs.CostRanges
pub use Rattle.halfbrown.specs.Costs
pub use Rattle.halfbrown.specs.Growth
pub use Rattle.halfbrown.specs.Pairs
pub use Rattle.halfbrown.specs.Run
pub use Rattle.halfbrown.specs.State
