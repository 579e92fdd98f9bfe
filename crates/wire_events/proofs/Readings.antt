-- An ANSWER read: its pairs, two bytes at a time, and its tests.
use Prim.Native.Nat.{ℕ, suc, ◌+◌, ◌*◌, ◌/◌, ◌-◌, ◌≤◌, ◌<◌, min}
use mathlib.Core.Logic.{◌⊎◌, inl, inr}
use Rattle.laws.specs.Bools.{decide}
use Rattle.std.proofs.Common.{leb-true, leb-false, take_all, length-drop}
use Rattle.std.proofs.lemmas.List.{take-append-le}
use mathlib.Core.Path.{◌≡◌, refl, sym, ◌∙◌, ap}
use mathlib.Core.Bool.{Bool, true, false, not, ◌&&◌}
use mathlib.Core.Option.{none, some}
use mathlib.Core.List.{List, [], ◌∷◌, ◌++◌, append_assoc, append-nil}
use native.Mathlib.Omega.{arith}
use lib.ListN.{length, get_or, drop, take}
use lib.Seq.{drop-cons}
use borrow.Author.Tests.{lt-leb, le-leb, eq-eqb, ne_eqb}
use lib.Dec.{leb, eqb}
use Rattle.laws.specs.Lists.{any}
use Rattle.rules.specs.House.{max_pairs}
use Rattle.rules.specs.Picture.{Pair}
use Rattle.rules.specs.Event.{ANSWER, be2, be4, read_pairs, bad_block, check, decode_answer}
use Rattle.std.specs.Bool.{then_some}
use Rattle.wire_pairs.specs.View.{pair_of}
use Rattle.wire_events.specs.declared.Event.{Event}
use Rattle.wire_events.specs.View.{event_of, event_in}

-- the pair that stands at a place, and those behind it
pub read_here : (b : List ℕ) (at : ℕ) → at + 2 ≤ length b → read_pairs (drop at b) ≡ pair_of (get_or b at 0) (get_or b (at + 1) 0) ∷ read_pairs (drop (at + 2) b)
unfolding read_pairs pair_of
read_here b at h =
    let e : at + 1 ≡ suc at = omega arith in
    let f : at + 2 ≡ suc (suc at) = omega arith in
    rw (e, f) (ap read_pairs (drop-cons b at 0 (omega arith) ∙ ap (λ (l : List ℕ). get_or b at 0 ∷ l) (drop-cons b (suc at) 0 (omega arith))))

-- one turn: the pairs read so far, and those that still stand there
pub read_on : (found next : List Pair) (b : List ℕ) (at to : ℕ) {whole : List Pair} → at + 2 ≤ length b → to ≡ at + 2
    → next ≡ found ++ pair_of (get_or b at 0) (get_or b (at + 1) 0) ∷ [] → found ++ read_pairs (drop at b) ≡ whole → next ++ read_pairs (drop to b) ≡ whole
read_on found next b at to h t e w =
    let p = pair_of (get_or b at 0) (get_or b (at + 1) 0) in
    ap (λ (k : ℕ). next ++ read_pairs (drop k b)) t ∙ ap (λ (l : List Pair). l ++ read_pairs (drop (at + 2) b)) e
    ∙ append_assoc found (p ∷ []) (read_pairs (drop (at + 2) b)) ∙ sym (ap (λ (l : List Pair). found ++ l) (read_here b at h)) ∙ w

read_short : (l : List ℕ) → length l < 2 → read_pairs l ≡ []
unfolding read_pairs
read_short [] h = refl
read_short (b ∷ []) h = refl
read_short (b ∷ n ∷ rest) h = absurd (omega (arith, h))

-- the first pairs: all that there is room for, or all that stand there
module _ (ps : List Pair) (n : ℕ) (b : List ℕ) (e : length ps ≡ n) (w : ps ++ read_pairs (drop (2 * n) b) ≡ read_pairs b) where
  pub read_firsts : n ≡ min max_pairs (length b / 2) → ps ≡ take max_pairs (read_pairs b)
  read_firsts f = go (decide (leb max_pairs (length b / 2)))
    where
      rest : List Pair
      rest = read_pairs (drop (2 * n) b)

      all : take max_pairs ps ≡ ps
      all = take_all max_pairs ps (omega arith)

      go : (leb max_pairs (length b / 2) ≡ true) ⊎ (leb max_pairs (length b / 2) ≡ false) → ps ≡ take max_pairs (read_pairs b)
      go (inl l) =
          let k = leb-true max_pairs (length b / 2) l in
          sym all ∙ sym (take-append-le max_pairs ps rest (omega arith)) ∙ ap (take max_pairs) w
      go (inr l) =
          let k = leb-false max_pairs (length b / 2) l in
          let none_left = read_short (drop (2 * n) b) (omega (arith, length-drop (2 * n) b)) in
          sym all ∙ ap (take max_pairs) (sym (append-nil ps) ∙ ap (λ (l : List Pair). ps ++ l) (sym none_left) ∙ w)

-- so many pairs as two bytes each
read_length : (l : List ℕ) → length (read_pairs l) ≡ length l / 2
unfolding read_pairs
read_length [] = omega arith
read_length (b ∷ []) = omega arith
read_length (b ∷ n ∷ rest) = let e = read_length rest in omega arith

-- an ANSWER whose length fits its count has no more pairs than there is room for
pub all_pairs : (b : List ℕ) → get_or b 10 0 ≤ max_pairs → length b ≡ 11 + 2 * get_or b 10 0
    → take max_pairs (read_pairs (take (length b - 11) (drop 11 b))) ≡ read_pairs (drop 11 b)
all_pairs b h l =
    ap (λ (k : List ℕ). take max_pairs (read_pairs k)) (take_all (length b - 11) (drop 11 b) (omega (arith, length-drop 11 b)))
    ∙ take_all max_pairs (read_pairs (drop 11 b)) (omega (arith, read_length (drop 11 b), length-drop 11 b))

-- the event, if the test holds
pub checked : (b : Bool) (e : Event) → event_in (then_some b e) ≡ check b (event_of e)
unfolding check
checked true e = refl
checked false e = refl

-- what is malformed, test by test, and what is not
module _ (b : List ℕ) where
  pub many_pairs : max_pairs < get_or b 10 0 → none ≡ decode_answer b
  unfolding decode_answer check
  many_pairs h = simp (lt-leb _ _ h)

  pub wrong_length : (length b ≡ 11 + 2 * get_or b 10 0 → ⊥) → none ≡ decode_answer b
  unfolding decode_answer check
  wrong_length h = go (leb (get_or b 10 0) max_pairs) (eqb (length b) (11 + 2 * get_or b 10 0)) (not (any bad_block (read_pairs (drop 11 b)))) (ne_eqb _ _ h)
    where
      go : (c l n : Bool) → l ≡ false → none ≡ check (c && l && n) (ANSWER (be4 b 3) (get_or b 7 0) (be2 b 8) (read_pairs (drop 11 b)))
      go true l n e = simp e
      go false l n e = refl

  pub bad_block_lem : get_or b 10 0 ≤ max_pairs → length b ≡ 11 + 2 * get_or b 10 0 → any bad_block (read_pairs (drop 11 b)) ≡ true → none ≡ decode_answer b
  unfolding decode_answer check
  bad_block_lem h l e = simp (le-leb _ _ h, eq-eqb _ _ l, e)

  pub well_formed : get_or b 10 0 ≤ max_pairs → length b ≡ 11 + 2 * get_or b 10 0 → any bad_block (read_pairs (drop 11 b)) ≡ false
      → some (ANSWER (be4 b 3) (get_or b 7 0) (be2 b 8) (read_pairs (drop 11 b))) ≡ decode_answer b
  unfolding decode_answer check
  well_formed h l e = simp (le-leb _ _ h, eq-eqb _ _ l, e)
