-- Everything that is promised at full size is proved.
use Rattle.rules_full_size.specs.Promises.{Promises}
use Rattle.rules_full_size.proofs.FullSize.{full_size_holds}
use Rattle.rules_full_size.proofs.Largest.{largest_ring}

pub promises : Promises
promises = record { full_size = full_size_holds; largest_ring = largest_ring }
