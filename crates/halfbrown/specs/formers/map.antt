pub mod LimitedHashMap
