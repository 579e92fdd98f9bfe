-- What the code's look-up stands for.
use Rattle.std.specs.Prelude.{Result, Ok, Err}
use Rattle.numbers.specs.declared.Refusal.{Refusal}
use Rattle.numbers.specs.Numbers.{number_of}
use Rattle.rules.specs.Listing as rules
use Rattle.ring_lookup.specs.declared.Place.{Place}

-- what a look-up answers: where the pair is listed, or the number of a refusal
abbrev pub lookup_of : Result Place Refusal → rules.Lookup
lookup_of (Ok p) = rules.found p.position.0 p.address.0
lookup_of (Err r) = rules.not_found (number_of r)
