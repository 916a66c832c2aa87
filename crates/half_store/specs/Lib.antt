pub mod Arrays
pub mod Capacity
pub mod Columns
pub mod Drained
pub mod FormerNames
pub mod Hash
pub mod PairLists
pub mod Reach
pub mod Refusal
pub mod Search
pub mod Slots
pub mod Store
pub mod StoreLending
pub mod StoreRemoval
pub mod Table
pub mod ValueReplacement
pub mod Words
pub mod Work
pub mod formers
-- What the map's equality has in common with that of std's.
pub use Rattle.std_collections.specs.Layout.HashMap
pub use Rattle.std_collections.specs.formers.hash_map.HashMap as HashMapFormer
