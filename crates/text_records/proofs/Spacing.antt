-- Bytes with blanks between, one by one: those that are left, and how many characters they have.
use Prim.Native.Nat.{ℕ, ◌+◌, ◌≤◌, ◌<◌}
use mathlib.Core.Path.{◌≡◌, refl, sym, ◌∙◌, ap}
use mathlib.Core.Bool.{Bool, true, false}
use mathlib.Core.List.{List, [], ◌∷◌, ◌++◌}
use native.Mathlib.Numerals.{add-one}
use native.Mathlib.Omega.{arith}
use mir.Val.{bool_byte}
use Rattle.std.proofs.Common.{lit≤}
use lib.ListN.{length, drop, get_or, length-append, drop_of_length-le}
use Rattle.laws.specs.Runs.{drop_here}
use Rattle.std.specs.Bool.{◌==◌}
use Rattle.std.proofs.lemmas.Bool.{eqb-true}
use Rattle.laws.specs.Bools.{clash}
use Rattle.text_out.specs.Spelling.{hex_of, lined}
use Rattle.text_records.specs.declared.Layout.{Layout}
use Rattle.text_records.specs.Fields.{spaced_byte, spaced_from, spaced_of, marked_of}

-- two digits, and one more character where a blank stands
byte_width : (blank : Bool) (b : ℕ) → length (spaced_byte blank b) ≡ 2 + bool_byte blank
unfolding hex_of
byte_width true b = refl
byte_width false b = refl

pub one_at_most : (blank : Bool) → bool_byte blank ≤ 1
one_at_most true = lit≤ tt
one_at_most false = lit≤ tt

module _ (gap : ℕ → Bool) (bytes : List ℕ) (i : ℕ) where
  module _ {blank : Bool} (e : blank ≡ gap i) (h : i < length bytes) where
    -- the byte at hand, and those behind it
    pub spaced_on : spaced_from gap i (drop i bytes) ≡ spaced_byte blank (get_or bytes i 0) ++ spaced_from gap (i + 1) (drop (i + 1) bytes)
    unfolding spaced_from
    spaced_on =
        ap (spaced_from gap i) (drop_here bytes i 0 h)
        ∙ sym (λ t. spaced_byte (e t) (get_or bytes i 0) ++ spaced_from gap (add-one i t) (drop (i + 1) bytes))

    pub width_on : (width : ℕ) {more whole : ℕ} → more ≡ bool_byte blank → width + length (spaced_from gap i (drop i bytes)) ≡ whole
        → width + (2 + more) + length (spaced_from gap (i + 1) (drop (i + 1) bytes)) ≡ whole
    width_on width m w =
        let rest = spaced_from gap (i + 1) (drop (i + 1) bytes) in
        omega (arith, m, w, ap length spaced_on, length-append (spaced_byte blank (get_or bytes i 0)) rest, byte_width blank (get_or bytes i 0))

  -- none is left
  pub spaced_end : length bytes ≤ i → spaced_from gap i (drop i bytes) ≡ []
  unfolding spaced_from
  spaced_end h = ap (spaced_from gap i) (drop_of_length-le bytes h)

-- a mark, with bytes behind it or not
module _ (mark : ℕ) (layout : Layout) where
  pub marked_none : (bytes : List ℕ) {b : Bool} → b ≡ (length bytes == 0) → b ≡ true → lined (mark ∷ []) ≡ marked_of mark layout bytes
  unfolding marked_of
  marked_none [] e h = refl
  marked_none (x ∷ bytes) e h = absurd (omega (arith, eqb-true (length (x ∷ bytes)) 0 (sym e ∙ h)))

  pub marked_some : (bytes : List ℕ) {b : Bool} → b ≡ (length bytes == 0) → b ≡ false
      → lined (mark ∷ 32 ∷ spaced_of layout bytes) ≡ marked_of mark layout bytes
  unfolding marked_of
  marked_some [] e h = clash e h
  marked_some (x ∷ bytes) e h = refl
