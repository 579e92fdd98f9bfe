-- The words of a number: by its row, without a row, and by what was asked.
use Prim.Native.Nat.{ℕ}
use mathlib.Core.Path.{◌≡◌, refl, sym, ◌∙◌, ap}
use mathlib.Core.List.{[], ◌∷◌}
use borrow.Author.Tests.{ne_eqb}
use Rattle.laws.specs.Bools.{cond_false}
use Rattle.text_arguments.specs.declared.Reason.{Reason}
use Rattle.text_out.specs.declared.Output.{Output}
use Rattle.text_out.specs.Puts.{Puts}
use Rattle.text_out.specs.Putting.{puts_along}
use Rattle.text_out.specs.Spelling.{lined}
use Rattle.text_numbers.specs.declared.Asked.{Asked}
use Rattle.text_numbers.specs.Wording.{Table, no_words, words_beside, table_of, why_of}

-- a number is in no row of a table; N is what is known besides
abbrev pub Passed : Type 0 → Table → ℕ → Type 0
Passed N [] n = N
Passed N (row ∷ rows) n = Passed (N × (n ≡ row.0 → ⊥)) rows n

passed : (N : Type 0) (rows : Table) (n : ℕ) → Passed N rows n → N × (words_beside rows n ≡ no_words)
passed N [] n h = (h, refl)
passed N (row ∷ rows) n h =
    let r = passed (N × (n ≡ row.0 → ⊥)) rows n h in
    (r.0.0, cond_false _ _ (ne_eqb n row.0 r.0.1) ∙ r.1)

module _ (rows : Table) (o p : Output) (n : ℕ) where
  -- a number with a row
  pub in_row : (k : ℕ) → n ≡ k → Puts o (lined (words_beside rows k)) p → Puts o (lined (words_beside rows n)) p
  in_row k e h = puts_along (ap (λ (m : ℕ). lined (words_beside rows m)) (sym e)) h

  -- a number without one
  pub in_none : Passed (Unit {0}) rows n → Puts o (lined no_words) p → Puts o (lined (words_beside rows n)) p
  in_none a h = puts_along (ap lined (sym (passed (Unit {0}) rows n a).1)) h

-- the table of what was asked
pub in_table : (o p : Output) (n : ℕ) (asked a : Asked) → asked ≡ a → Puts o (lined (words_beside (table_of a) n)) p
    → Puts o (lined (words_beside (table_of asked) n)) p
in_table o p n asked a e h = puts_along (ap (λ (b : Asked). lined (words_beside (table_of b) n)) (sym e)) h

-- why a line is not understood
pub in_reason : (o p : Output) (reason r : Reason) → reason ≡ r → Puts o (lined (why_of r)) p → Puts o (lined (why_of reason)) p
in_reason o p reason r e h = puts_along (ap (λ (s : Reason). lined (why_of s)) (sym e)) h

-- what puts the words
pub ruleset told = (in_row, in_none, in_table, in_reason)
