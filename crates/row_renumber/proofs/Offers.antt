-- Renumbering, one place at a time.
use Prim.Native.Nat.{ℕ, suc, ◌+◌, ◌<◌}
use mathlib.Core.Path.{◌≡◌, refl, sym, ◌∙◌, ap}
use mathlib.Core.Bool.{Bool, true, false, cond}
use mathlib.Core.List.{List, ◌∷◌}
use mathlib.Core.Option.{Option, none, some}
use native.Mathlib.Numerals.{add-one}
use borrow.Author.Tests.{lt-ltb}
use lib.Dec.{ltb}
use Rattle.laws.specs.Bools.{clash}
use Rattle.rules.specs.House.{max_tries}
use Rattle.rules.specs.Renumber.{Judged, Renumbering, finished, renumbers, offer, renumber_from}
use Rattle.std.specs.Prelude as code
use Rattle.row_renumber.specs.declared.renumber.Offer.{Offer}
use Rattle.row_renumber.specs.Marks.{attempt_of, renumbering_of}

-- a pair is renumbered
is_offer : Renumbering → Bool
is_offer finished = false
is_offer (renumbers place tries pair new) = true

module _ (free : ℕ → Option ℕ) (place tries : ℕ) (j : Judged) (js : List Judged) where
  later : Renumbering
  later = renumber_from free (suc place) 0 js

  offered : is_offer (attempt_of free place tries j) ≡ true → renumber_from free place tries (j ∷ js) ≡ attempt_of free place tries j
  unfolding attempt_of is_offer renumber_from offer later
  offered h = go j.good (ltb tries max_tries) (free j.pair.block) h
    where
      go : (g t : Bool) (o : Option ℕ) → is_offer (cond g finished (cond t (offer place tries j.pair o finished) finished)) ≡ true
          → cond g later (cond t (offer place tries j.pair o later) later) ≡ cond g finished (cond t (offer place tries j.pair o finished) finished)
      go true t o h = clash h refl
      go false true none h = clash h refl
      go false true (some n) h = refl
      go false false o h = clash h refl

  passed : is_offer (attempt_of free place tries j) ≡ false → renumber_from free place tries (j ∷ js) ≡ renumber_from free (place + 1) 0 js
  unfolding attempt_of is_offer renumber_from offer later
  passed h = rw (add-one place) (go j.good (ltb tries max_tries) (free j.pair.block) h)
    where
      go : (g t : Bool) (o : Option ℕ) → is_offer (cond g finished (cond t (offer place tries j.pair o finished) finished)) ≡ false
          → cond g later (cond t (offer place tries j.pair o later) later) ≡ later
      go true t o h = refl
      go false true none h = refl
      go false true (some n) h = clash refl h
      go false false o h = refl

-- the code's test
some_offer : {b : Bool} (r : code.Option Offer) → code.is_some r ≡ b → is_offer (renumbering_of r) ≡ b
unfolding is_offer
some_offer code.None e = e
some_offer (code.Some o) e = e

-- one turn: what became of the pair at hand is the whole, or the rest makes it
module _ (free : ℕ → Option ℕ) (place tries : ℕ) {js rest : List Judged} {j : Judged} {whole : Renumbering} (r : code.Option Offer) (e : js ≡ j ∷ rest)
    (a : renumbering_of r ≡ attempt_of free place tries j) (w : renumber_from free place tries js ≡ whole) where
  pub turn_offered : code.is_some r ≡ true → renumbering_of r ≡ whole
  turn_offered o = a ∙ sym (offered free place tries j rest (sym (ap is_offer a) ∙ some_offer r o)) ∙ ap (renumber_from free place tries) (sym e) ∙ w

  pub turn_passed : code.is_some r ≡ false → renumber_from free (place + 1) 0 rest ≡ whole
  turn_passed o = sym (passed free place tries j rest (sym (ap is_offer a) ∙ some_offer r o)) ∙ ap (renumber_from free place tries) (sym e) ∙ w

-- a bad pair that a try is left for
module _ (free : ℕ → Option ℕ) (place tries : ℕ) (j : Judged) (bad : j.good ≡ false) (left : tries < max_tries) where
  pub offers : {n : ℕ} → free j.pair.block ≡ some n → renumbers place (tries + 1) j.pair n ≡ attempt_of free place tries j
  unfolding attempt_of offer
  offers {n} e =
      ap (λ (t : ℕ). renumbers place t j.pair n) (add-one tries)
      ∙ (λ i. cond (sym bad i) finished (cond (sym (lt-ltb tries max_tries left) i) (offer place tries j.pair (sym e i) finished) finished))

  pub offers_none : free j.pair.block ≡ none → finished ≡ attempt_of free place tries j
  unfolding attempt_of offer
  offers_none e = (λ i. cond (sym bad i) finished (cond (sym (lt-ltb tries max_tries left) i) (offer place tries j.pair (sym e i) finished) finished))
