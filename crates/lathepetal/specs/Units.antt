-- What a look-up gave, by its numbers.
use Rattle.std.specs.Prelude.{cond, eqb}
use Rattle.rules.specs.Listing.{Lookup, found, not_found}
use Rattle.lathepetal.specs.declared.ring.LookupOutcome.{LookupOutcome}

-- 0: the pair is listed there; any other number is a refusal
unfoldable pub answer_of : LookupOutcome → Lookup
answer_of o = cond (eqb o.number 0) (found o.position o.address) (not_found o.number)
