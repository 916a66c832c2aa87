use Rattle.half_store.proofs.Common.{◌≡◌, length, take, ◌∙◌, arith, map, drop, common_steps, zip}
use Rattle.std.proofs.lemmas.List.{take_at}
use Rattle.std.proofs.lemmas.Map.Made.{keys_of-zip}
use Rattle.half_store.proofs.lemmas.vecmap.Columns.{opened}
use Rattle.half_store.proofs.lemmas.vecmap.Zip.{length-zip_even}
use Rattle.half_store.proofs.vecmap.Columns.retain.Given as given
use Rattle.half_store.proofs.vecmap.Columns.retain.Goals as goal

even : (g : given.Over) (c : goal.After-truncate-2 g) → length c.truncate-2.new.self.items ≡ length c.truncate.new.self.items
even g c = grind (arith, common_steps, opened)

-- as many pairs as were accepted
count : (g : given.Over) (c : goal.After-truncate-2 g)
    → length (zip c.truncate.new.self.items c.truncate-2.new.self.items) ≡ c.retain_in_columns-kept.result
count g c =
    length-zip_even c.truncate.new.self.items c.truncate-2.new.self.items (even g c)
    ∙ omega (arith, c.truncate.new.self.ok, c.truncate.ensures.len, c.retain_in_columns-kept.ensures.within, c.as_mut_slice.ensures.len)

pub returns-clause-len : goal.returns-clause-len
returns-clause-len g c = grind (arith, common_steps, count, opened)

pub returns-clause-hashes : goal.returns-clause-hashes
returns-clause-hashes g c = grind (arith, common_steps, count, drop, even, keys_of-zip, map, opened, take, take_at)

pub returns-clause-same : goal.returns-clause-same
returns-clause-same g c = grind (arith, common_steps, count, opened)
