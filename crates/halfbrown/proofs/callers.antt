-- Lemmas and sets of them for callers, by what they are about.
pub mod Costs
pub mod Keys
pub mod Pairs
pub mod Texts
pub mod Values
