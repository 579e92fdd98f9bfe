-- A look-up's answer: what it stands for, and that a refusal keeps nothing.
use Rattle.std.specs.Prelude.{◌≡◌, true, Result, Ok, Err, refl}
use Rattle.rules.specs.Picture.{Pair}
use Rattle.rules.specs.Listing.{Lookup, found, not_found}
use Rattle.rules_unit.specs.Slave.{Slave, learn}
use Rattle.numbers.specs.declared.Refusal.{Refusal}
use Rattle.ring_lookup.specs.declared.Place.{Place}
use Rattle.ring_lookup.specs.View.{lookup_of}
use Rattle.unit_slave.specs.Steps.{StandsFor, is_refusal}

-- what the box answers stands for what the rules answer
pub looked_up : (answer : Result Place Refusal) → StandsFor answer (lookup_of answer)
unfolding is_refusal
looked_up (Ok p) = refl
looked_up (Err r) = refl

pub unlearned : (a : Pair) (l : Lookup) (u : Slave) → is_refusal l ≡ true → u ≡ learn a l u
unfolding is_refusal learn
unlearned a (found x b) u h = absurd cc
unlearned a (not_found n) u h = refl
