-- What holds of the rows of pictures that the box handed out.
use Rattle.std.specs.Prelude.{ℕ, ◌≡◌}
use Rattle.rules_diff.specs.Differences.{listed_rows, uncompared, compare}
use Rattle.registry.specs.declared.image.RegistryImage.{RegistryImage}
use Rattle.registry.specs.View.{view_of}
use Rattle.registry.specs.Outcome.{HandedOut}

pub record Promises : Type 0 where
  -- the rows of any two of them, compared with any room, are refused 21 or not at all
  pub compared : (p q : RegistryImage) → HandedOut p → HandedOut q → (room n : ℕ)
      → compare (listed_rows (view_of p)) (listed_rows (view_of q)) room ≡ uncompared n → n ≡ 21
