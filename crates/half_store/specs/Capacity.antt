-- The rules for growth: how many buckets a table has, how many pairs it may hold, and how far a vector grows.
use Rattle.std.specs.Prelude.{◌≡◌, ℕ, zero, suc, ◌+◌, ◌-◌, ◌*◌, ◌/◌, ◌^◌, ◌<◌, ◌≤◌, ◌⊎◌, Bool, true, false, ◌||◌, ◌==◌, min, max, nat_lt, nat_le, Option, None, Some, if◌then◌else◌}
use Rattle.std.specs.Option.{option_map_or}

-- the capacity that a vector grows to if more is needed: twice what it was, at least eight and what is needed, at most the limit
abbrev pub grown_capacity : ℕ → ℕ → ℕ → ℕ
grown_capacity limit capacity needed = min (max (max (2 * capacity) 8) needed) limit

-- the load factor is three quarters: the capacity is 0, 3, 6, 12, 24, .. for 0, 4, 8, 16, 32, .. buckets
abbrev pub capacity_of : ℕ → ℕ
capacity_of buckets = buckets - buckets / 4

-- the buckets of a capacity: 0, 4, 8, 16, 32, .. for 0, 3, 6, 12, 24, ..
abbrev pub buckets_of : ℕ → ℕ
buckets_of capacity = capacity + capacity / 3

-- none, or a power of two from 4 on
abbrev pub IsBucketCount : ℕ → Type 0
IsBucketCount buckets = (buckets ≡ 0) ⊎ ((k : ℕ) × (2 ≤ k) × (buckets ≡ 2 ^ k))

-- the bucket count that comes after this one; a table that has buckets has at least 4
abbrev pub next_bucket_count : ℕ → ℕ
next_bucket_count buckets = if buckets == 0 then 4 else 2 * buckets

-- as many buckets if their capacity is more than `pairs`, otherwise the next count
abbrev pub bucket_count_for_one_more : ℕ → ℕ → ℕ
bucket_count_for_one_more pairs buckets = if nat_lt pairs (capacity_of buckets) then buckets else next_bucket_count buckets

-- the least bucket count whose capacity is enough for this many pairs
unfoldable pub least_buckets : ℕ → ℕ
least_buckets zero = 0
least_buckets (suc pairs) = bucket_count_for_one_more pairs (least_buckets pairs)

-- the least of the capacities 0, 3, 6, 12, 24, .. that is enough for this many pairs
abbrev pub least_table_capacity : ℕ → ℕ
least_table_capacity pairs = capacity_of (least_buckets pairs)

-- a number of the series 0, 3, 6, 12, 24, ..
abbrev pub IsTableCapacity : ℕ → Type 0
IsTableCapacity capacity = capacity ≡ least_table_capacity capacity

-- a capacity that this form may have: a vector's is at most the limit, and a table's is more, and one of the series
abbrev pub IsFormCapacity : ℕ → Bool → ℕ → Type 0
IsFormCapacity limit is_vec capacity = (is_vec ≡ true → capacity ≤ limit) × (is_vec ≡ false → (limit < capacity) × IsTableCapacity capacity)

-- the least capacity of a form that is enough for this many pairs: a vector's is their number
abbrev pub least_capacity : Bool → ℕ → ℕ
least_capacity is_vec pairs = if is_vec then pairs else least_table_capacity pairs

-- whether the form is the vector if a map is made for this many pairs: the limit allows them
abbrev pub is_vec_for : ℕ → ℕ → Bool
is_vec_for limit pairs = nat_le pairs limit

-- whether the form is the vector after `shrink_to_fit`: it was one, or the limit allows the pairs
abbrev pub is_vec_shrunk : ℕ → Bool → ℕ → Bool
is_vec_shrunk limit is_vec pairs = is_vec || is_vec_for limit pairs

-- the capacity after `shrink_to_fit`: the least that is enough for these pairs in the form that the map has then
abbrev pub shrunk_capacity : ℕ → Bool → ℕ → ℕ
shrunk_capacity limit is_vec pairs = least_capacity (is_vec_shrunk limit is_vec pairs) pairs

-- the capacity that a reservation for this many pairs in all wants: their number, but in a vector at most the limit
abbrev pub wanted_capacity : ℕ → Bool → ℕ → ℕ
wanted_capacity limit is_vec pairs = if is_vec then min pairs limit else pairs

-- the capacity that is wanted, if it is more than there is; otherwise none
abbrev pub capacity_needed : ℕ → ℕ → Option ℕ
capacity_needed capacity wanted = if nat_lt capacity wanted then Some wanted else None

-- the capacity after a call that succeeded: if it needed none as before; if it needed n, in a vector the greatest of n, 8 and twice the
-- capacity, but at most the limit, and in a table the least of 3, 6, 12, 24, .. from n on
abbrev pub capacity_after : ℕ → Bool → ℕ → Option ℕ → ℕ
capacity_after limit is_vec capacity needed =
    option_map_or (λ n. if is_vec then grown_capacity limit capacity n else least_table_capacity n) needed capacity

-- the capacity of a bucket count is enough for this many pairs, and each other count that is enough for them is no smaller
pub record IsLeastBucketCount (pairs buckets : ℕ) : Type 0 where
  pub count : IsBucketCount buckets
  pub serves : pairs ≤ capacity_of buckets
  pub least : (other : ℕ) → IsBucketCount other → pairs ≤ capacity_of other → buckets ≤ other
