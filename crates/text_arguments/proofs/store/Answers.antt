-- The bytes of the digits that are left are still to be stored.
use Prim.Native.Nat.{ℕ, ◌+◌, ◌*◌}
use mathlib.Core.Path.{◌≡◌, ◌∙◌, ap}
use mathlib.Core.List.{[], ◌∷◌, ◌++◌}
use lib.ListN.{drop, length-drop, get_or, set}
use Rattle.laws.specs.Buffers.{Wrote, owes_on, owes_end}
use Rattle.laws.specs.Runs.{drop_two}
use Rattle.text_words.specs.Text.{byte_of, bytes_of}
use Rattle.text_arguments.proofs.Groups.{bytes_two, bytes_none}
use native.Mathlib.Omega.{arith}
use Rattle.text_arguments.proofs.store.Goals as goal

pub loop-i-preserved : goal.loop-i-preserved
loop-i-preserved c =
    let group = c.args.group.now in
    let i = c.loop-i.i in
    let byte = byte_of (get_or group (2 * i) 0) (get_or group (2 * i + 1) 0) in
    let next : 2 * i + 2 ≡ 2 * (i + 1) = omega arith in
    let two = bytes_two (drop_two group (2 * i) 0 (omega arith)) ∙ ap (λ (n : ℕ). (byte ∷ []) ++ bytes_of (drop n group)) next in
    let stored : Wrote c.loop-i.bytes (c.args.from + i) (byte ∷ []) (c.args.from + (i + 1)) c.put.new.bytes =
    record { buffer = c.put.ensures ∙ ap (set c.loop-i.bytes (c.args.from + i)) c.byte.ensures; place = omega arith } in
    owes_on (byte ∷ []) two stored c.loop-i.invariant

pub returns : goal.returns
returns c =
    let group = c.args.group.now in
    let whole = owes_end (bytes_none (drop (2 * c.loop-i.i) group) (omega (arith, length-drop (2 * c.loop-i.i) group))) c.loop-i.invariant in
    record { buffer = whole.buffer; place = omega (arith, whole.place) }
