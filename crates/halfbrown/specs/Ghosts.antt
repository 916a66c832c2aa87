-- What the logic knows of the traits of a map's parameters, under a name for each trait. Declares nothing.
pub use Rattle.std.specs.declared.cmp.PartialEq.{Ghosts as EqGhosts}
pub use Rattle.std.specs.declared.hash.Hash.{Ghosts as HashGhosts}
pub use Rattle.halfbrown.specs.declared.key_hasher.KeyHasher.{Ghosts as HasherGhosts}
pub use Rattle.halfbrown.specs.declared.limit.Limit.{Ghosts as LimitGhosts}
