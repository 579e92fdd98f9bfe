-- The tests in their order.
use Rattle.std.proofs.Common.{rules}
use Rattle.laws.specs.Alls.{all_at}
use Rattle.rules.specs.House.{max_units}
use Rattle.row_entry.proofs.Arrays.{rows_length}
use Rattle.registry.proofs.Places.{row_beyond, row_there, row_zero}
use Rattle.registry.specs.View.{view_of}
use lib.ListN.{length}
use mathlib.Core.Path.{◌∙◌, ◌≡◌}
use native.Mathlib.Omega.{arith}
use Rattle.registry.proofs.image.RegistryImage.entry_at.Goals as goal
use Rattle.registry.proofs.image.RegistryImage.entry_at.Goals.{then-x-eq0-via-then-x-eq0, then-x-eq0-via-else-x-eq0+then-unit_count-x}

pub returns-then-x-eq0 : goal.returns-then-x-eq0
unfolding view_of
returns-then-x-eq0 c =
    let s = c.args.self.now in
    let m : length s.entries ≡ max_units = search rules in
    elim c.then-x-eq0.branch [
      | then-x-eq0-via-then-x-eq0 w ↦ (c.absent.ensures.0 ∙ row_zero (view_of s).rows w.if-x-eq0.true, λ k. c.absent.ensures.1)
      | then-x-eq0-via-else-x-eq0+then-unit_count-x w ↦
          (c.absent.ensures.0 ∙ row_beyond (view_of s).rows c.args.position.0 (omega (arith, w.unit_count.ensures, w.if-unit_count-x.true, rows_length s.entries m s.units)), λ k. c.absent.ensures.1)
    ]

pub returns : goal.returns
unfolding view_of
returns c =
    let s = c.args.self.now in
    let m : length s.entries ≡ max_units = search rules in (
      row_there s c.args.position.0 (record { full = m; first = omega arith; last = omega arith }) _,
      λ k. all_at _ _ (omega arith) k.entries,
    )
