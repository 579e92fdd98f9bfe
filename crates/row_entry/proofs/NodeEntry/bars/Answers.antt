-- The address counts while the entry is IGNORED.
use mathlib.Core.Bool.{Bool, ◌&&◌}
use mathlib.Core.Path.{◌≡◌, ◌∙◌, ap, sym}
use Rattle.rules.specs.Picture.{bars, in_range}
use Rattle.row_entry.specs.View.{row_of}
use Rattle.row_entry.proofs.Marks.{bars_ignored, bars_nothing}
use Rattle.row_entry.proofs.NodeEntry.bars.Goals as goal
use Rattle.row_entry.proofs.NodeEntry.bars.Goals.{then-is_ignored, else-is_ignored}

pub returns-then-eq : goal.returns-then-eq
returns-then-eq c =
    let a = c.args.address.0 in
    let e = c.args.self.now in
    let both : bars a (row_of e) ≡ (c.if-is_ignored.value && in_range a) =
    elim c.if-is_ignored.branch [
      | then-is_ignored w ↦ bars_ignored e a (sym c.is_ignored.ensures ∙ w.if-is_ignored.true) ∙ ap (λ (b : Bool). b && in_range a) (sym (w.value-is ∙ w.eq.ensures))
      | else-is_ignored w ↦ bars_nothing e a (sym c.is_ignored.ensures ∙ w.if-is_ignored.false) ∙ ap (λ (b : Bool). b && in_range a) (sym (w.value-is ∙ w.if-is_ignored.false))
    ] in
    c.in_range.ensures ∙ sym (both ∙ ap (λ (b : Bool). b && in_range a) c.if-eq.true)

pub returns-else-eq : goal.returns-else-eq
returns-else-eq c =
    let a = c.args.address.0 in
    let e = c.args.self.now in
    let both : bars a (row_of e) ≡ (c.if-is_ignored.value && in_range a) =
    elim c.if-is_ignored.branch [
      | then-is_ignored w ↦ bars_ignored e a (sym c.is_ignored.ensures ∙ w.if-is_ignored.true) ∙ ap (λ (b : Bool). b && in_range a) (sym (w.value-is ∙ w.eq.ensures))
      | else-is_ignored w ↦ bars_nothing e a (sym c.is_ignored.ensures ∙ w.if-is_ignored.false) ∙ ap (λ (b : Bool). b && in_range a) (sym (w.value-is ∙ w.if-is_ignored.false))
    ] in
    c.if-eq.false ∙ sym (both ∙ ap (λ (b : Bool). b && in_range a) c.if-eq.false)
