-- What the test of L tells.
use Prim.Native.Nat.{ℕ, ◌≤◌}
use mathlib.Core.Path.{◌≡◌, sym, ◌∙◌}
use mathlib.Core.Bool.{Bool, true, false, not}
use Rattle.laws.specs.Bools.{not_false}
use Rattle.rules.specs.House.{min_size, max_size}
use Rattle.rules.specs.Picture.{legal_size}
use Rattle.rules.proofs.RoundTrip.{size_range}

module _ {b : Bool} (l : ℕ) (e : b ≡ not (legal_size l)) (h : b ≡ false) where
  pub legal : legal_size l ≡ true
  legal = not_false (legal_size l) (sym e ∙ h)

  pub range : (min_size ≤ l) × (l ≤ max_size)
  range = size_range l legal
