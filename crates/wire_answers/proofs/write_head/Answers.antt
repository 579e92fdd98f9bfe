-- Three stores, the pass, the position, the address and the count.
use Prim.Native.Nat.{ℕ, ◌≤◌}
use mathlib.Core.Path.{◌≡◌, refl, ◌∙◌}
use mathlib.Core.List.{List, [], ◌∷◌, ◌++◌}
use native.Mathlib.Omega.{arith}
use lib.ListN.{length, set, length-set}
use lib.Seq.{sets}
use Rattle.laws.specs.Buffers.{Wrote}
use Rattle.rules.specs.Event.{two, four, header}
use Rattle.wire_answers.proofs.write_head.Goals as goal

wrote : {c d : List ℕ} (b : List ℕ) (pass x a n : ℕ) → c ≡ sets (set (set (set b 0 0x4D) 1 0x45) 2 4) 3 (four pass) → d ≡ sets (set c 7 x) 8 (two a)
    → Wrote b 0 (header 4 pass x ++ two a ++ n ∷ []) 11 (set d 10 n)
unfolding header four two
wrote b pass x a n e f = record { buffer = rw (f, e) refl; place = refl }

pub shape_of-out : goal.shape_of-out
shape_of-out c =
    simp length-set (simp length-set at c.write2.auto.buffer ∙ simp length-set at c.write4.auto.buffer)

pub returns : goal.returns
returns c =
    let a = c.args in
    wrote a.out.now a.pass a.position.0 a.address.0 a.count c.write4.ensures c.write2.ensures

pub bounds-out-1 : goal.bounds-out-1
bounds-out-1 c = simp length-set (omega arith)

pub bounds-out-2 : goal.bounds-out-2
bounds-out-2 c = simp length-set (omega arith)

pub write4-requires : goal.write4-requires
write4-requires c = simp length-set (omega arith)

pub bounds-out-7 : goal.bounds-out-7
bounds-out-7 c =
    let room : 11 ≤ length c.write4.new.buffer = omega (arith, simp length-set at c.write4.auto.buffer) in
    omega (arith, room)

pub write2-requires : goal.write2-requires
write2-requires c =
    let room : 11 ≤ length c.write4.new.buffer = omega (arith, simp length-set at c.write4.auto.buffer) in
    simp length-set (omega (arith, room))

pub bounds-out-10 : goal.bounds-out-10
bounds-out-10 c =
    let room : 11 ≤ length c.write4.new.buffer = omega (arith, simp length-set at c.write4.auto.buffer) in
    let room-on : 11 ≤ length c.write2.new.buffer = omega (arith, room, simp length-set at c.write2.auto.buffer) in
    omega (arith, room-on)
