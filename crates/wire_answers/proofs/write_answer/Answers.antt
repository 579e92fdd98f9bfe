-- The head, and the pairs.
use Prim.Native.Nat.{ℕ, ◌+◌, ◌*◌}
use mathlib.Core.Path.{◌≡◌, sym}
use mathlib.Core.List.{List, [], ◌∷◌, ◌++◌}
use native.Mathlib.Omega.{arith}
use lib.ListN.{length, length-take}
use Rattle.laws.specs.Buffers.{Wrote, wrote_append, wrote_along}
use Rattle.laws.specs.Lists.{collect}
use Rattle.rules.specs.Picture.{Pair}
use Rattle.rules.specs.Event.{ANSWER, two, four, header, pair_bytes, encode_event}
use Rattle.wire_pairs.specs.View.{pairs_of}
use Rattle.wire_pairs.proofs.Arrays.{pairs_slices}
use Rattle.wire_orders.proofs.Bytes.{pairs_size}
use Rattle.wire_answers.proofs.write_answer.Goals as goal

-- an ANSWER that lists pairs: how long it is, and its two parts
module _ (pass x a : ℕ) (ps : List Pair) where
  size : length (encode_event (ANSWER pass x a ps)) ≡ 11 + 2 * length ps
  unfolding encode_event header four two
  size = omega (arith, pairs_size ps)

  wrote : {qs : List Pair} {b c d : List ℕ} {i j n : ℕ} → length ps ≡ n → qs ≡ ps → Wrote b 0 (header 4 pass x ++ two a ++ n ∷ []) i c
      → Wrote c i (collect pair_bytes qs) j d → Wrote b 0 (encode_event (ANSWER pass x a ps)) j d
  unfolding encode_event header four two
  wrote l e v w = wrote_along (λ t. header 4 pass x ++ two a ++ sym l t ∷ collect pair_bytes (e t)) (wrote_append v w)

pub write_head-body-requires : goal.write_head-body-requires
write_head-body-requires c =
    let a = c.args in
    omega (arith, size a.pass a.position.0 a.address.0 (pairs_of a.pairs.now))

pub write_pairs-requires : goal.write_pairs-requires
unfolding header four two
write_pairs-requires c =
    let a = c.args in
    let n = c.len-count.result in
    omega (arith, size a.pass a.position.0 a.address.0 (pairs_of a.pairs.now), c.len-count.ensures.1, length-take n a.pairs.now.blocks, length-take n a.pairs.now.numbers, c.write_head-body.ensures.place, c.write_head-body.auto.out)

pub returns : goal.returns
returns c =
    let a = c.args in
    wrote a.pass a.position.0 a.address.0 _ c.len-count.ensures.1 (pairs_slices a.pairs.now c.len-count.result (omega (arith, c.len-count.ensures.0)) c.len-count.ensures.1) c.write_head-body.ensures c.write_pairs.ensures
