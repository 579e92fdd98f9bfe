-- What the programs say of a line: a comment, a line that is not understood, a refusal.
use Rattle.std.specs.Prelude.{ℕ, ◌-◌, Bool, true, false, cond, ◌&&◌, ◌||◌, List, [], ◌∷◌, ◌++◌, eqb, ltb, length, take}
use Prim.Native.Char.{code}
use Rattle.text_words.specs.Text.{trimmed_length}
use Rattle.text_arguments.specs.declared.Reason.{Reason}
use Rattle.text_arguments.specs.declared.Reason.TheVariants.{TooLong}
use Rattle.text_in.specs.Lines.{max_line}
use Rattle.text_out.specs.Spelling.{lined, decimal_of}
use Rattle.text_out.specs.Texts.{codes}
use Rattle.text_numbers.specs.declared.Asked.{Asked}
use Rattle.text_numbers.specs.Wording.{words_of, why_of}
use Rattle.text_answers.specs.declared.LineKind.{LineKind}
use Rattle.text_answers.specs.declared.LineKind.TheVariants.{Remark, EarlierAnswer, Offer}

-- a line without a byte, and one with # in front, is a remark; = and ! stand in front of earlier answers, and so does `other`, which is
-- in front of the other side's lines: < for who offers records, > for who offers orders
unfoldable pub kind_of : ℕ → List ℕ → LineKind
kind_of other [] = Remark
kind_of other (x ∷ xs) = cond (eqb x (code "#")) Remark (cond (eqb x (code "=") || (eqb x other || eqb x (code "!"))) EarlierAnswer Offer)

-- the reason that is told: also where the comment would be too long
unfoldable pub told_of : List ℕ → Reason → Reason
told_of line reason = cond (ltb (max_line - 2) (length line)) TooLong reason

-- how much of the line is written back: of a too long one its first 64 bytes, without the blanks at their end
abbrev pub shown_most : ℕ
shown_most = 64

abbrev pub is_too_long : Reason → Bool
is_too_long TooLong = true
is_too_long _ = false

unfoldable pub shown_of : List ℕ → Reason → ℕ
shown_of line reason = cond (is_too_long reason && ltb shown_most (length line)) (trimmed_length (take shown_most line)) (length line)

-- a blank and bytes, or nothing where there are none
unfoldable pub spaced_of : List ℕ → List ℕ
spaced_of [] = []
spaced_of (x ∷ xs) = code " " ∷ x ∷ xs

-- a line that is no command, as a comment, and why
unfoldable pub comment_of : List ℕ → Reason → List ℕ
comment_of line reason = (code "#" ∷ lined (spaced_of (take (shown_of line reason) line))) ++ codes "# not understood: " ++ lined (why_of reason)

abbrev pub not_understood : List ℕ → Reason → List ℕ
not_understood line reason = comment_of line (told_of line reason)

-- a refusal: its number and what that means, by what was asked
unfoldable pub refusal_of : Asked → ℕ → List ℕ
refusal_of asked number = codes "! " ++ decimal_of number ++ codes "  " ++ lined (words_of asked number)
