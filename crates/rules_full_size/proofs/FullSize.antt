-- The table holds, by computation.
use mathlib.Core.Path.{◌≡◌, refl}
use Rattle.rules.specs.Table.{hex, obtain, obtained, expected}
use Rattle.rules_full_size.specs.FullSize.{full_size}

pub full_size_holds : obtained full_size ≡ expected full_size
unfolding obtained expected full_size obtain hex
full_size_holds = refl
