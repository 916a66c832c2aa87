-- Lemmas of runs of commands.
pub mod Runs
pub mod Steps
