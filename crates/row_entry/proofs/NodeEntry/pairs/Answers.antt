-- Pairs count while the entry is listed.
use Prim.Native.Nat.{ℕ}
use mathlib.Core.Path.{◌∙◌, ap, sym}
use Rattle.wire_pairs.specs.View.{pairs_from, pairs_of}
use Rattle.row_entry.proofs.Marks.{pairs_else, pairs_listed}
use Rattle.row_entry.proofs.NodeEntry.pairs.Goals as goal

pub returns-then-is_listed : goal.returns-then-is_listed
unfolding pairs_of
returns-then-is_listed c =
    let e = c.args.self.now in
    ap (λ (k : ℕ). pairs_from k e.blocks e.numbers) c.from.ensures ∙ sym (pairs_listed e (sym c.is_listed.ensures ∙ c.if-is_listed.true))

pub returns-else-is_listed : goal.returns-else-is_listed
returns-else-is_listed c = c.none.ensures.0 ∙ sym (pairs_else c.args.self.now (sym c.is_listed.ensures ∙ c.if-is_listed.false))
