-- No pairs are kept where the count is 0.
use Rattle.laws.specs.Views.{firsts}
use Rattle.wire_pairs.specs.View.{pairs_from}
use Rattle.row_entry.specs.View.{row_of}
use mathlib.Core.Path.{refl}
use native.Mathlib.Omega.{arith}
use Rattle.row_entry.proofs.NodeEntry.bare.Goals as goal

pub returns : goal.returns
unfolding row_of pairs_from firsts
returns c = (refl, λ h w s. record { status = h; count = omega arith; waiting = w; silent = s; pairless = λ m l. refl; settled = λ m. (refl, refl) })
