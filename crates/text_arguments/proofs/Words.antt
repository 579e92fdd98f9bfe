-- The words of a line one by one: from a place to the next word, and the word there with those behind it.
use Prim.Native.Nat.{ℕ, suc, ◌+◌, ◌-◌, ◌≤◌, ◌<◌}
use mathlib.Core.Path.{◌≡◌, refl, sym, ◌∙◌, ap}
use mathlib.Core.Bool.{Bool, true, false, cond, not}
use mathlib.Core.List.{List, [], ◌∷◌, ◌++◌, append_assoc, append-nil}
use native.Mathlib.Nat.{not-suc-le-zero}
use native.Mathlib.Omega.{arith}
use lib.ListN.{length, drop, take, length-drop, length-take, drop_of_length-le}
use lib.Seq.{drop-drop}
use Rattle.laws.specs.Bools.{cond_true}
use Rattle.laws.specs.Runs.{leading, leading_again}
use Rattle.text_words.specs.Text.{is_blank, blanks, glyphs}
use Rattle.text_arguments.specs.Reading.{start_of, word_of, end_of, words_from, words_of}

-- blanks before a word do no harm
words_skip : (xs : List ℕ) → words_of (drop (blanks xs) xs) ≡ words_of xs
unfolding words_from leading
words_skip [] = refl
words_skip (x ∷ xs) = go (is_blank x) refl (words_skip xs)
  where
    go : (b : Bool) → is_blank x ≡ b → words_of (drop (blanks xs) xs) ≡ words_of xs → words_of (drop (cond b (suc (blanks xs)) 0) (x ∷ xs)) ≡ words_of (x ∷ xs)
    go true e h = h ∙ sym (cond_true (words_of xs) (words_from (x ∷ []) xs) e)
    go false e h = refl

-- the rest of a word that has begun, and the words behind it
words_taken : (x : ℕ) (w xs : List ℕ) → words_from (x ∷ w) xs ≡ (x ∷ (w ++ take (glyphs xs) xs)) ∷ words_of (drop (glyphs xs) xs)
unfolding words_from leading
words_taken x w [] = ap (λ (l : List ℕ). (x ∷ l) ∷ []) (sym (append-nil w))
words_taken x w (y ∷ ys) = go (is_blank y) refl (words_taken x (w ++ y ∷ []) ys)
  where
    go : (b : Bool) → is_blank y ≡ b → words_from (x ∷ (w ++ y ∷ [])) ys ≡ (x ∷ ((w ++ y ∷ []) ++ take (glyphs ys) ys)) ∷ words_of (drop (glyphs ys) ys)
        → cond b ((x ∷ w) ∷ words_of ys) (words_from (x ∷ (w ++ y ∷ [])) ys)
        ≡ (x ∷ (w ++ take (cond (not b) (suc (glyphs ys)) 0) (y ∷ ys))) ∷ words_of (drop (cond (not b) (suc (glyphs ys)) 0) (y ∷ ys))
    go true e h = sym (λ t. (x ∷ append-nil w t) ∷ cond_true (words_of ys) (words_from (y ∷ []) ys) e t)
    go false e h = h ∙ ap (λ (l : List ℕ). (x ∷ l) ∷ words_of (drop (glyphs ys) ys)) (append_assoc w (y ∷ []) (take (glyphs ys) ys))

-- a text that begins with no blank begins with a word
words_next : (xs : List ℕ) → blanks xs ≡ 0 → 0 < length xs → words_of xs ≡ take (glyphs xs) xs ∷ words_of (drop (glyphs xs) xs)
unfolding words_from leading
words_next [] h l = absurd (not-suc-le-zero l)
words_next (x ∷ xs) h l = go (is_blank x) h (words_taken x [] xs)
  where
    go : (b : Bool) → cond b (suc (blanks xs)) 0 ≡ 0 → words_from (x ∷ []) xs ≡ (x ∷ take (glyphs xs) xs) ∷ words_of (drop (glyphs xs) xs)
        → cond b (words_of xs) (words_from (x ∷ []) xs) ≡ take (cond (not b) (suc (glyphs xs)) 0) (x ∷ xs) ∷ words_of (drop (cond (not b) (suc (glyphs xs)) 0) (x ∷ xs))
    go true k m = absurd (omega (arith, k))
    go false k m = m

words_some : (xs : List ℕ) → blanks xs ≡ 0 → 0 < length xs → 0 < glyphs xs
unfolding leading
words_some [] h l = l
words_some (x ∷ xs) h l = go (is_blank x) h
  where
    go : (b : Bool) → cond b (suc (blanks xs)) 0 ≡ 0 → 0 < cond (not b) (suc (glyphs xs)) 0
    go true k = omega (arith, k)
    go false k = omega arith

module _ (line : List ℕ) where
  -- from a place to the word behind its blanks
  module _ (at : ℕ) {start : ℕ} (s : start ≡ at + blanks (drop at line)) where
    pub skipped : drop start line ≡ drop (blanks (drop at line)) (drop at line)
    skipped = ap (λ (n : ℕ). drop n line) s ∙ sym (drop-drop (blanks (drop at line)) at line)

    pub skip_clear : blanks (drop start line) ≡ 0
    skip_clear = ap (leading is_blank) skipped ∙ leading_again is_blank (drop at line)

    pub skip_words : words_of (drop start line) ≡ words_of (drop at line)
    skip_words = ap words_of skipped ∙ words_skip (drop at line)

  -- the word that starts at a place, and those behind it
  module _ {start end : ℕ} (clear : blanks (drop start line) ≡ 0) (h : start < length line) (e : end ≡ start + glyphs (drop start line)) where
    pub word_is : words_of (drop start line) ≡ take (end - start) (drop start line) ∷ words_of (drop end line)
    word_is =
        let n : glyphs (drop start line) ≡ end - start = omega arith in
        words_next (drop start line) clear (omega (arith, length-drop start line))
        ∙ (λ t. take (n t) (drop start line) ∷ words_of (drop-drop (glyphs (drop start line)) start line t))
        ∙ ap (λ (m : ℕ). take (end - start) (drop start line) ∷ words_of (drop m line)) (sym e)

    pub word_some : start < end
    word_some = omega (arith, words_some (drop start line) clear (omega (arith, length-drop start line)))

-- the words from a place on: none is left, or the next one and those behind it
module _ (line : List ℕ) (at : ℕ) where
  pub words_none : length line ≤ start_of line at → words_of (drop at line) ≡ []
  unfolding words_from start_of
  words_none h = sym (skip_words line at refl) ∙ ap words_of (drop_of_length-le line h)

  pub words_more : start_of line at < length line → words_of (drop at line) ≡ word_of line at ∷ words_of (drop (end_of line at) line)
  unfolding word_of end_of start_of
  words_more h =
      let start = start_of line at in
      let n : start + glyphs (drop start line) - start ≡ glyphs (drop start line) = omega arith in
      sym (skip_words line at refl) ∙ word_is line (skip_clear line at refl) h refl
      ∙ ap (λ (k : ℕ). take k (drop start line) ∷ words_of (drop (end_of line at) line)) n

  -- the place behind it is behind its bytes
  pub word_within : start_of line at < length line → at < end_of line at
  unfolding end_of start_of
  word_within h = omega (arith, word_some line (skip_clear line at refl) h refl)

  pub word_length : at + length (word_of line at) ≤ end_of line at
  unfolding word_of end_of start_of
  word_length = omega (arith, length-take (glyphs (drop (start_of line at) line)) (drop (start_of line at) line))

  pub word_starts : at ≤ start_of line at
  unfolding start_of
  word_starts = omega arith
