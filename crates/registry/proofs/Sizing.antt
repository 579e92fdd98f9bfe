-- A size that is legal, and one that is not.
use Prim.Native.Nat.{ℕ, ◌<◌}
use mathlib.Core.Path.{◌≡◌}
use mathlib.Core.Bool.{Bool, true, false, not}
use native.Mathlib.Omega.{arith}
use Rattle.rules.specs.Picture.{legal_size}

flip : (b : Bool) → not b ≡ false → b ≡ true
flip true e = cc
flip false e = cc

flop : (b : Bool) → not b ≡ true → b ≡ false
flop true e = cc
flop false e = cc

pub legal : (l : ℕ) → not (legal_size l) ≡ false → legal_size l ≡ true
legal l = flip (legal_size l)

pub not_legal : (l : ℕ) → not (legal_size l) ≡ true → legal_size l ≡ false
not_legal l = flop (legal_size l)

pub legal_few : (l : ℕ) → legal_size l ≡ true → l < 256
unfolding legal_size
legal_few l e = grind arith
