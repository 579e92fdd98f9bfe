-- The characters counted, and those of the bytes from `i` on, make the whole.
use Prim.Native.Nat.{ℕ, ◌-◌}
use mathlib.Core.Path.{◌≡◌, sym, ◌∙◌, ap}
use native.Mathlib.Omega.{arith}
use borrow.Author.Tests.{lt-ltb}
use lib.Dec.{ltb}
use lib.ListN.{length, get_or}
use Rattle.text_in.specs.Lines.{max_line}
use Rattle.text_records.specs.Fields.{gap_of, spaced_of}
use Rattle.text_records.proofs.Spacing.{spaced_end, width_on, one_at_most}
use Rattle.text_records.proofs.too_wide.Goals as goal

pub loop-i-init : goal.loop-i-init
unfolding spaced_of
loop-i-init c = (omega arith, omega arith)

pub returns-then-width : goal.returns-then-width
returns-then-width c =
    let args = c.args in
    sym (lt-ltb (max_line - 2) (length (spaced_of args.layout args.bytes.now)) (omega arith))

pub loop-i-preserved : goal.loop-i-preserved
loop-i-preserved c =
    let i = c.loop-i.i in
    let blank = c.has_gap.ensures ∙ ap (λ (k : ℕ). gap_of c.args.layout k i) c.kind_of-kind.ensures in
    let more = c.from.ensures in
    (omega (arith, more, one_at_most c.has_gap.result), omega (arith, width_on _ _ _ blank c.loop-i-test.true c.loop-i.width more c.loop-i.invariant.1))

pub returns : goal.returns
returns c =
    let args = c.args in
    let bytes = args.bytes.now in
    let none = ap length (spaced_end (gap_of args.layout (get_or bytes 2 0)) bytes c.loop-i.i c.loop-i-test.false) in
    let all : c.loop-i.width ≡ length (spaced_of args.layout bytes) = omega arith in
    ap (ltb (max_line - 2)) all
