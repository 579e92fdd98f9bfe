-- The template behind what is put is left to put, with the values that are not used yet.
use mathlib.Core.List.{[], ◌∷◌}
use mathlib.Core.Path.{◌∙◌}
use native.Mathlib.Omega.{arith}
use lib.ListN.{get_or, drop, drop_of_length-le}
use Rattle.std.proofs.lemmas.List.{nil_from_length, length-drop, take_all}
use Rattle.laws.specs.Runs.{drop_here}
use Rattle.text_out.specs.Putting.{owes_start, owes_on, owes_end, puts_nothing}
use Rattle.text_out.specs.Spelling.{value_of}
use Rattle.text_out.proofs.Filling.{fill_none, fill_value, fill_mark, fill_byte, fill_end, owes_as}
use Rattle.text_out.proofs.Output.form.Goals as goal
use Rattle.text_out.proofs.Output.form.Goals.{then-is_marked+in-len1-up, else-is_marked+then-byte-eq37, else-is_marked+else-byte-eq37}

pub loop-byte-init : goal.loop-byte-init
loop-byte-init c = owes_start _ _

pub returns-in_default : goal.returns-in_default
returns-in_default c =
    let here = drop_here c.args.template.now c.loop-byte.byte-index 0 c.loop-byte-test.true in
    owes_end (fill_none _ here c.if-is_marked.true (nil_from_length _ (omega arith))) c.loop-byte.invariant

pub loop-byte-preserved : goal.loop-byte-preserved
loop-byte-preserved c =
    let template = c.args.template.now in
    let i = c.loop-byte.byte-index in
    let x = get_or template i 0 in
    let unused = c.loop-byte.unused.now in
    let here = drop_here template i 0 c.loop-byte-test.true in
    let owes = c.loop-byte.invariant in
    elim c.if-is_marked.branch [
      | then-is_marked+in-len1-up w ↦
          let value = drop_here unused 0 0 w.in-len1-up.len_at_least in
          owes_as _ w.self-is w.is_marked-is ((λ t. (w.unused-is t).now) ∙ take_all _ (drop 1 unused) (omega (arith, length-drop 1 unused)))
          (owes_on (value_of x (get_or unused 0 0)) (fill_value _ here w.if-is_marked.true value) w.value.ensures owes)
      | else-is_marked+then-byte-eq37 w ↦
          owes_as _ w.self-is w.is_marked-is (λ t. (w.unused-is t).now)
          (owes_on [] (fill_mark _ here w.if-is_marked.false w.if-byte-eq37.true) (puts_nothing _) owes)
      | else-is_marked+else-byte-eq37 w ↦
          owes_as _ w.self-is (w.is_marked-is ∙ w.if-is_marked.false) (λ t. (w.unused-is t).now)
          (owes_on (x ∷ []) (fill_byte _ here w.if-is_marked.false w.if-byte-eq37.false) w.byte.ensures owes)
    ]

pub returns : goal.returns
returns c = owes_end (fill_end _ _ (drop_of_length-le _ c.loop-byte-test.false)) c.loop-byte.invariant
