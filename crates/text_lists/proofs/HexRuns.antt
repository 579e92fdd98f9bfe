-- Two blanks in a row, and how many bytes stand before them.
use Prim.Native.Nat.{ℕ, suc, ◌+◌, ◌-◌, ◌≤◌, ◌<◌}
use mathlib.Core.Path.{◌≡◌, refl, sym, ◌∙◌, ap}
use mathlib.Core.Bool.{Bool, true, false, cond, ◌&&◌}
use mathlib.Core.List.{List, [], ◌∷◌}
use native.Mathlib.Omega.{arith}
use lib.ListN.{length, drop, take, length-drop, drop_of_length-le}
use lib.Seq.{take_all}
use Rattle.laws.specs.Runs.{leading, drop_here}
use Rattle.text_words.specs.Text.{is_blank, blanks}
use Rattle.text_arguments.proofs.Words.{skipped}
use Rattle.text_lists.specs.Lists.{two_blanks, close_length, hex_length}

-- a text of less than two bytes, and one with two in front
pub two_short : (xs : List ℕ) → length xs < 2 → false ≡ two_blanks xs
unfolding two_blanks
two_short [] h = refl
two_short (x ∷ []) h = refl
two_short (x ∷ y ∷ rest) h = absurd (omega (arith, h))

pub two_here : {x y : ℕ} {xs rest : List ℕ} → xs ≡ x ∷ y ∷ rest → two_blanks xs ≡ is_blank x && is_blank y
unfolding two_blanks
two_here e = ap two_blanks e

-- a text has no more blanks in front than bytes
blanks_few : (xs : List ℕ) → blanks xs ≤ length xs
unfolding leading
blanks_few [] = omega arith
blanks_few (x ∷ xs) = go (is_blank x) (blanks_few xs)
  where
    go : (b : Bool) → blanks xs ≤ length xs → cond b (suc (blanks xs)) 0 ≤ suc (length xs)
    go true h = omega (arith, h)
    go false h = omega arith

module _ (line : List ℕ) (from : ℕ) where
  -- from the first group on
  module _ {start : ℕ} (s : start ≡ from + blanks (drop from line)) where
    pub hex_within : start - from ≤ length line - from
    hex_within = omega (arith, blanks_few (drop from line), length-drop from line)

    pub hex_start : start + close_length (drop start line) ≡ from + hex_length (drop from line)
    unfolding hex_length
    hex_start = omega (arith, ap close_length (skipped line from s))

module _ (line : List ℕ) (i : ℕ) {whole : ℕ} (e : i + close_length (drop i line) ≡ whole) where
  -- two blanks stand here, do not, and the line has ended
  module _ (h : i < length line) where
    here : {b : Bool} → two_blanks (take (length line - i) (drop i line)) ≡ b → close_length (drop i line) ≡ cond b 0 (suc (close_length (drop (i + 1) line)))
    unfolding close_length
    here k =
        let d = drop_here line i 0 h in
        let all = take_all (length line - i) (drop i line) (omega (arith, length-drop i line)) in
        ap close_length d ∙ ap (λ (t : Bool). cond t 0 (suc (close_length (drop (i + 1) line)))) (sym (ap two_blanks (all ∙ d)) ∙ k)

    pub hex_stops : two_blanks (take (length line - i) (drop i line)) ≡ true → i ≡ whole
    hex_stops k = omega (arith, e, here k)

    pub hex_on : two_blanks (take (length line - i) (drop i line)) ≡ false → i + 1 + close_length (drop (i + 1) line) ≡ whole
    hex_on k = omega (arith, e, here k)

  pub hex_ends : length line ≤ i → i ≡ whole
  unfolding close_length
  hex_ends h = omega (arith, e, ap close_length (drop_of_length-le line h))
