-- No word is left, or one is read.
use mathlib.Core.Path.{refl, ap}
use native.Mathlib.Omega.{arith}
use Prim.Native.Nat.{ℕ}
use Rattle.text_arguments.proofs.Taking.{start_is, word_read, end_read}
use Rattle.text_arguments.proofs.Arguments.word.Goals as goal

pub returns-then-self-start-clause-taken : goal.returns-then-self-start-clause-taken
returns-then-self-start-clause-taken c = let s = start_is _ _ c.word_start-start.ensures.0 in (omega arith, refl)

pub returns-clause-taken : goal.returns-clause-taken
returns-clause-taken c =
    let a = c.args.self.now in
    let s = start_is a.line.now a.at c.word_start-start.ensures.0 in (
      omega arith,
      word_read a.line.now a.at c.word_start-start.ensures.0 c.word_end-self.ensures.0,
      ap (λ (n : ℕ). record a { at = n }) (end_read a.line.now a.at c.word_start-start.ensures.0 c.word_end-self.ensures.0),
    )
