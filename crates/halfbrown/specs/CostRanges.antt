-- What a cost is: an exact number of hashes, and ranges of comparisons and of buckets.
use Rattle.std.specs.Prelude.{◌≡◌, ℕ, ◌+◌, ◌≤◌, Bool, if◌then◌else◌}
use Rattle.half_store.specs.Work.{Work}

-- a least number and a greatest one
pub record Range : Type 0 where
  pub least : ℕ
  pub greatest : ℕ

-- no range: this number
abbrev pub exactly : ℕ → Range
exactly n = record { least = n; greatest = n }

abbrev pub between : ℕ → ℕ → Range
between least greatest = record { least = least; greatest = greatest }

abbrev pub add_ranges : Range → Range → Range
add_ranges a b = between (a.least + b.least) (a.greatest + b.greatest)

-- how often a key is hashed, exactly; how many keys are compared and how many buckets are read, exactly if nothing is found
pub record Cost : Type 0 where
  pub asked : ℕ
  pub compared : Range
  pub looked : Range

abbrev pub no_cost : Cost
no_cost = record { asked = 0; compared = exactly 0; looked = exactly 0 }

abbrev pub add_costs : Cost → Cost → Cost
add_costs a b = record { asked = a.asked + b.asked; compared = add_ranges a.compared b.compared; looked = add_ranges a.looked b.looked }

-- a cost, once this many more keys were hashed
abbrev pub plus_asked : ℕ → Cost → Cost
plus_asked n cost = record cost { asked = n + cost.asked }

-- a cost, once exactly this many more buckets were read
abbrev pub plus_looked : ℕ → Cost → Cost
plus_looked n cost = record cost { looked = add_ranges cost.looked (exactly n) }

-- a cost, but none if the call was refused before it did anything
abbrev pub unless_refused : Bool → Cost → Cost
unless_refused refused cost =
    let unless : Range → Range = λ range. if refused then exactly 0 else range in
    record { asked = if refused then 0 else cost.asked; compared = unless cost.compared; looked = unless cost.looked }

-- a number grew by a number in this range
pub record NumberGrewWithin (range : Range) (before after : ℕ) : Type 0 where
  pub at_least : before + range.least ≤ after
  pub at_most : after ≤ before + range.greatest

-- a tally grew by this cost
pub record TallyGrewBy (cost : Cost) (before after : Work) : Type 0 where
  pub asked : after.asked ≡ before.asked + cost.asked
  pub compared : NumberGrewWithin cost.compared before.compared after.compared
  pub looked : NumberGrewWithin cost.looked before.looked after.looked
