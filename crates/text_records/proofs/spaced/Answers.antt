-- The bytes from `i` on are left to put.
use Prim.Native.Nat.{ℕ}
use mathlib.Core.Path.{◌∙◌, ap}
use lib.ListN.{get_or}
use Rattle.text_out.specs.Putting.{owes_start, owes_on, owes_end}
use Rattle.text_records.specs.Fields.{gap_of, spaced_byte, spaced_of}
use Rattle.text_records.proofs.Spacing.{spaced_on, spaced_end}
use Rattle.text_records.proofs.spaced.Goals as goal

pub loop-i-init : goal.loop-i-init
unfolding spaced_of
loop-i-init c = owes_start _ _

pub loop-i-preserved : goal.loop-i-preserved
loop-i-preserved c =
    let args = c.args in
    let i = c.loop-i.i in
    let blank = c.has_gap.ensures ∙ ap (λ (k : ℕ). gap_of args.layout k i) c.kind_of-kind.ensures in
    owes_on (spaced_byte c.has_gap.result (get_or args.bytes.now i 0)) (spaced_on _ _ _ blank c.loop-i-test.true) c.spaced_byte.ensures c.loop-i.invariant

pub returns : goal.returns
returns c = owes_end (spaced_end _ _ _ c.loop-i-test.false) c.loop-i.invariant
