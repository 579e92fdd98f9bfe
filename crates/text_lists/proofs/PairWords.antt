-- Pairs: which words are none, and the bytes that each of them adds.
use Prim.Native.Nat.{ℕ, suc, ◌+◌, ◌*◌, ◌≤◌, ◌<◌}
use mathlib.Core.Path.{◌≡◌, refl, sym, ◌∙◌, ap, subst}
use mathlib.Core.Bool.{Bool, true, false, cond}
use mathlib.Core.List.{List, ◌∷◌, ◌++◌}
use native.Mathlib.Numerals.{add-one}
use native.Mathlib.Omega.{arith}
use borrow.Author.Tests.{eqb-true, lt-ltb, le-ltb, ltb-true}
use lib.Dec.{eqb, ltb}
use lib.ListN.{length, drop, get_or, set}
use lib.Seq.{sets}
use Rattle.laws.specs.Bools.{cond_true, cond_false, and_left}
use Rattle.laws.specs.Buffers.{Wrote, Owes, owes_start, owes_on, owes_end}
use Rattle.text_words.specs.Text.{byte_of}
use Rattle.std.specs.Prelude.{Result, Ok, Err}
use Rattle.text_arguments.specs.declared.Reason.{Reason}
use Rattle.text_arguments.specs.declared.Reason.TheVariants.{NoPair, TooMany}
use Rattle.text_arguments.specs.declared.Arguments.{Arguments}
use Rattle.text_arguments.specs.Reading.{found, behind, bytes_if, found_if, start_of, word_of, end_of, words_of}
use Rattle.text_arguments.proofs.Words.{words_none, words_more}
use Rattle.text_lists.specs.Lists.{max_pair_words, is_pair, pair_bytes_of, pair_reason, pairs_bytes, pairs_reason, pairs_at, pairs_stored}

-- why a word is not taken
module _ (n : ℕ) (w : List ℕ) where
  pub pair_none : is_pair w ≡ false → Err NoPair ≡ pair_reason n w
  unfolding pair_reason
  pair_none h = sym (cond_false _ _ h)

  pub pair_many : is_pair w ≡ true → max_pair_words ≤ n → Err TooMany ≡ pair_reason n w
  unfolding pair_reason
  pair_many h k = sym (cond_true _ _ h ∙ cond_false _ _ (le-ltb n max_pair_words k))

  pub pair_taken : is_pair w ≡ true → n < max_pair_words → Ok tt ≡ pair_reason n w
  unfolding pair_reason
  pair_taken h k = sym (cond_true _ _ h ∙ cond_true _ _ (lt-ltb n max_pair_words k))

  -- one that is taken is a pair, behind few enough others
  pub pair_fits : Ok tt ≡ pair_reason n w → (length w ≡ 5) × (n < max_pair_words)
  unfolding pair_reason is_pair
  pair_fits h =
      let t = go (is_pair w) (ltb n max_pair_words) h in
      (eqb-true (length w) 5 (and_left (eqb (length w) 5) _ t.0), ltb-true n max_pair_words t.1)
    where
      go : (a b : Bool) → ◌≡◌ {A = Result (Unit {0}) Reason} (Ok tt) (cond a (cond b (Ok tt) (Err TooMany)) (Err NoPair)) → (a ≡ true) × (b ≡ true)
      go true true k = (refl, refl)
      go true false k = (cc, cc)
      go false b k = (cc, cc)

-- its bytes, one behind the other
pub pair_stored : (w : List ℕ) {b c d : List ℕ} {at x y : ℕ} → x ≡ byte_of (get_or w 0 0) (get_or w 1 0) → y ≡ byte_of (get_or w 3 0) (get_or w 4 0)
    → c ≡ set b at x → d ≡ set c (at + 1) y → Wrote b at (pair_bytes_of w) (at + 2) d
unfolding pair_bytes_of
pair_stored w {b} {c} {d} {at} {x} {y} p q h k =
    record { buffer = k ∙ (λ t. set ((h ∙ ap (set b at) p) t) (add-one at t) (q t)); place = omega arith }

pair_two : (n : ℕ) (w : List ℕ) → 2 * (n + 1) ≡ 2 * n + length (pair_bytes_of w)
unfolding pair_bytes_of
pair_two n w = omega arith

-- the words from `at` on are left, behind `count` pairs: their bytes are owed, and the reason is among them
pub record Left (line : List ℕ) (first : ℕ) (before : List ℕ) (at count : ℕ) (after : List ℕ) : Type 0 where
  pub few : count ≤ max_pair_words
  pub owes : Owes before 0 (pairs_bytes 0 (words_of (drop first line))) (2 * count) after (pairs_bytes count (words_of (drop at line)))
  pub reason : pairs_reason count (words_of (drop at line)) ≡ pairs_reason 0 (words_of (drop first line))
  pub all : count + length (words_of (drop at line)) ≡ length (words_of (drop first line))

module _ (line : List ℕ) where
  left_start : (at : ℕ) (b : List ℕ) → Left line at b at 0 b
  left_start at b = record { few = omega arith; owes = owes_start b 0 _; reason = refl; all = omega arith }

  module _ {first at count : ℕ} {before after : List ℕ} (l : Left line first before at count after) where
    -- no word is left: all are pairs
    left_done : length line ≤ start_of line at → (found count (length line) ≡ pairs_at line first) × (after ≡ sets before 0 (pairs_stored line first))
    unfolding pairs_bytes pairs_reason pairs_at pairs_stored
    left_done h =
        let none = words_none line at h in
        let w = owes_end (ap (pairs_bytes count) none) l.owes in
        let why = sym l.reason ∙ ap (pairs_reason count) none in
        let e : count ≡ length (words_of (drop first line)) = omega (arith, l.all, ap length none) in (
          ap (λ (n : ℕ). found n (length line)) e
              ∙ ap (λ (r : Result (Unit {0}) Reason). found_if r (length (words_of (drop first line))) (length line)) (sym why),
          w.buffer,
        )

    module _ (h : start_of line at < length line) {word : List ℕ} (g : word ≡ word_of line at) where
      next_is : words_of (drop at line) ≡ word ∷ words_of (drop (end_of line at) line)
      next_is = words_more line at h ∙ ap (λ (w : List ℕ). w ∷ words_of (drop (end_of line at) line)) (sym g)

      -- the next is not taken, and it says why: the pairs before it are stored
      left_refused : {r : Reason} → Err r ≡ pair_reason count word → (Err r ≡ pairs_at line first) × (after ≡ sets before 0 (pairs_stored line first))
      unfolding pairs_bytes pairs_reason pairs_at pairs_stored
      left_refused e =
          let behind_it = words_of (drop (end_of line at) line) in
          let w = owes_end (ap (pairs_bytes count) next_is ∙ ap (λ (t : Result (Unit {0}) Reason). bytes_if t (pair_bytes_of word ++ pairs_bytes (suc count) behind_it)) (sym e)) l.owes in
          let why = sym l.reason ∙ ap (pairs_reason count) next_is ∙ ap (λ (t : Result (Unit {0}) Reason). behind t (λ u. pairs_reason (suc count) behind_it)) (sym e) in
          (ap (λ (t : Result (Unit {0}) Reason). found_if t (length (words_of (drop first line))) (length line)) (sym why), w.buffer)

      -- its bytes are stored, and the words behind it are left
      left_on : {place : ℕ} {stored : List ℕ} → Ok tt ≡ pair_reason count word → Wrote after (2 * count) (pair_bytes_of word) place stored
          → Left line first before (end_of line at) (count + 1) stored
      unfolding pairs_bytes pairs_reason
      left_on {place} {stored} e w =
          let behind_it = words_of (drop (end_of line at) line) in
          let two : Wrote after (2 * count) (pair_bytes_of word) (2 * (count + 1)) stored = record { buffer = w.buffer; place = pair_two count word } in
          record {
            few = omega (arith, pair_fits count word e);
            owes =
                owes_on (pair_bytes_of word)
                (ap (pairs_bytes count) next_is ∙ ap (λ (t : Result (Unit {0}) Reason). bytes_if t (pair_bytes_of word ++ pairs_bytes (suc count) behind_it)) (sym e)
                ∙ sym (λ i. pair_bytes_of word ++ pairs_bytes (add-one count i) behind_it)) two l.owes;
            reason =
                (λ i. pairs_reason (add-one count i) behind_it)
                ∙ sym (ap (pairs_reason count) next_is ∙ ap (λ (t : Result (Unit {0}) Reason). behind t (λ u. pairs_reason (suc count) behind_it)) (sym e)) ∙ l.reason;
            all = omega (arith, l.all, ap length next_is);
          }

-- the same of the arguments as they came and as they are now
pub record LeftOf (a b : Arguments) (before : List ℕ) (count : ℕ) (after : List ℕ) : Type 0 where
  pub same : b.line.now ≡ a.line.now
  pub left : Left a.line.now a.at before b.at count after

pub all_left : (a : Arguments) (b : List ℕ) → LeftOf a a b 0 b
all_left a b = record { same = refl; left = left_start a.line.now a.at b }

module _ {a b : Arguments} {count : ℕ} {before after : List ℕ} (l : LeftOf a b before count after) where
  pub none_left : length b.line.now ≤ start_of b.line.now b.at
      → (found count (length a.line.now) ≡ pairs_at a.line.now a.at) × (after ≡ sets before 0 (pairs_stored a.line.now a.at))
  none_left h = left_done a.line.now l.left (subst (λ (r : List ℕ). length r ≤ start_of r b.at) l.same h)

  module _ (h : start_of b.line.now b.at < length b.line.now) {word : List ℕ} (g : word ≡ word_of b.line.now b.at) where
    more : start_of a.line.now b.at < length a.line.now
    more = subst (λ (r : List ℕ). start_of r b.at < length r) l.same h

    word_here : word ≡ word_of a.line.now b.at
    word_here = g ∙ ap (λ (r : List ℕ). word_of r b.at) l.same

    pub pair_refused : {r : Reason} → Err r ≡ pair_reason count word
        → (Err r ≡ pairs_at a.line.now a.at) × (after ≡ sets before 0 (pairs_stored a.line.now a.at))
    pair_refused e = left_refused a.line.now l.left more word_here e

    pub pair_read : {c : Arguments} → c ≡ record b { at = end_of b.line.now b.at } → {place : ℕ} {stored : List ℕ} → Ok tt ≡ pair_reason count word
        → Wrote after (2 * count) (pair_bytes_of word) place stored → LeftOf a c before (count + 1) stored
    pair_read {c} q {place} {stored} e w =
        let there = ap (λ (x : Arguments). x.at) q ∙ ap (λ (r : List ℕ). end_of r b.at) l.same in
        record {
          same = ap (λ (x : Arguments). x.line.now) q ∙ l.same;
          left = subst (λ (n : ℕ). Left a.line.now a.at before n (count + 1) stored) (sym there) (left_on a.line.now l.left more word_here e w);
        }
