-- The high half, then the low one.
use Prim.Native.Nat.{◌+◌, ◌/◌, ℕ}
use Rattle.laws.specs.Buffers.{sets_append}
use Rattle.rules.specs.Event.{four, two}
use lib.Seq.{sets}
use mathlib.Core.List.{List}
use mathlib.Core.Path.{◌∙◌, ap}
use Rattle.wire_octets.proofs.write4.Goals as goal

pub returns : goal.returns
unfolding four two
returns c =
    c.write2-2.ensures ∙ ap (λ (b : List ℕ). sets b (c.args.at + 2) (two c.args.n)) c.write2.ensures ∙ sets_append c.args.buffer.now c.args.at (two (c.args.n / 65536)) (two c.args.n)
