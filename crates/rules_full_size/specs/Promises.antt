-- Everything that is promised at full size: one record, proved in proofs/Promises.antt.
use Rattle.std.specs.Prelude.{◌≡◌}
use Rattle.rules.specs.Table.{obtained, expected}
use Rattle.rules_full_size.specs.Largest.{LargestRing}
use Rattle.rules_full_size.specs.FullSize.{full_size as full_size_table}

pub record Promises : Type 0 where
  -- by computation
  pub full_size : obtained full_size_table ≡ expected full_size_table
  pub largest_ring : LargestRing
