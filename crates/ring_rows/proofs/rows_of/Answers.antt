-- At every turn the places are filled with the rows of the entries passed.
use Prim.Native.Nat.{ℕ, ◌+◌, ◌≤◌, min}
use lib.ListN.{length, take}
use mathlib.Core.List.{List, map}
use mathlib.Core.Path.{◌≡◌, ◌∙◌, ap, subst, sym}
use native.Mathlib.Omega.{arith}
use Rattle.std.proofs.lemmas.List.{take_min, length-take-le}
use Rattle.rules.specs.House.{max_units}
use Rattle.rules_diff.specs.Differences.{listed_rows_from}
use Rattle.row_entry.specs.declared.NodeEntry.{NodeEntry}
use Rattle.row_entry.specs.View.{row_of}
use Rattle.ring_rows.specs.View.{listed_entries, filled_rows, node_rows_in}
use Rattle.ring_rows.proofs.Filling.{Filling, filling_start, filling_few, filling_push, filling_pass, filling_end}
use Rattle.ring_rows.proofs.rows_of.Goals as goal
use Rattle.ring_rows.proofs.rows_of.Goals.{then-is_listed, else-is_listed}

pub loop-i-init : goal.loop-i-init
loop-i-init c = filling_start (take c.clamp.result c.args.entries.now) c.none-listed.ensures

pub push-requires : goal.push-requires
push-requires c =
    let es = c.args.entries.now in
    let n : c.clamp.result ≡ min max_units (length es) = omega (arith, c.clamp.ensures) in
    omega (arith, filling_few c.loop-i.auto.i-end c.loop-i.invariant, c.loop-i-test.true, n, length-take-le c.clamp.result es (omega (arith, n)))

pub loop-i-preserved : goal.loop-i-preserved
loop-i-preserved c =
    let es = take c.clamp.result c.args.entries.now in
    let i = c.loop-i.i in
    elim c.if-is_listed.branch [
      | then-is_listed w ↦
          filling_push es i _ c.loop-i-test.true (sym c.is_listed.ensures ∙ w.if-is_listed.true) w.of.ensures.0 w.of.ensures.1
          (λ rs e. w.listed-is ∙ w.push.ensures.rows rs e) c.loop-i.invariant
      | else-is_listed w ↦
          subst (Filling es (i + 1)) (sym w.listed-is)
          (filling_pass es i _ c.loop-i-test.true (sym c.is_listed.ensures ∙ w.if-is_listed.false) c.loop-i.invariant)
    ]

pub returns : goal.returns
returns c =
    let es = c.args.entries.now in
    let n : c.clamp.result ≡ min max_units (length es) = omega (arith, c.clamp.ensures) in
    let all = ap (λ (k : ℕ). take k es) n ∙ take_min max_units es in
    let few : length (take c.clamp.result es) ≤ max_units = omega (arith, n, length-take-le c.clamp.result es (omega (arith, n))) in
    subst (λ (l : List NodeEntry). (c.loop-i.listed ≡ filled_rows (listed_entries 1 l)) × (node_rows_in c.loop-i.listed ≡ listed_rows_from 1 (map row_of l))) all
    (filling_end few c.loop-i-test.false c.loop-i.invariant)
