-- A pair renamed at its first place: what is found there, what stands besides, and what is stored.
use Prim.Native.Nat.{ℕ, suc, ◌+◌, ◌<◌, ◌≤◌, min}
use mathlib.Core.Path.{◌≡◌, refl, sym, ◌∙◌, ap}
use mathlib.Core.Bool.{Bool, true, false, cond, ◌||◌}
use mathlib.Core.List.{List, [], ◌∷◌}
use native.Mathlib.Nat.{not-suc-le-zero, le_of_suc-le-suc}
use native.Mathlib.Numerals.{add-one}
use native.Mathlib.Omega.{arith}
use lib.ListN.{length, get_or, set, take, drop}
use lib.Seq.{set-get_or, set_out}
use borrow.Author.Tests.{eqb-true}
use Rattle.laws.specs.Lists.{any}
use Rattle.laws.specs.Bools.{and_left, or_assoc, cond_true, cond_false, cond_same}
use Rattle.laws.specs.Views.{firsts, firsts_set}
use Rattle.rules.specs.Picture.{Pair, same_pair, holds}
use Rattle.rules_unit.specs.Slave.{without, rename, renumbered}
use Rattle.wire_pairs.specs.View.{pair_of, zip_pairs, pairs_from}
use Rattle.wire_pairs.proofs.Arrays.{zip_set, pairs_at_lem, pairs_length}
use Rattle.unit_renumber.specs.Places.{first_at}

module _ (a : Pair) where
  -- a search for the first place: the pair at hand is it, it is behind, there is none
  pub first_here : {b : Pair} {ps rest : List Pair} → ps ≡ b ∷ rest → same_pair a b ≡ true → first_at a ps ≡ 0
  unfolding first_at
  first_here {b} {ps} {rest} e h = ap (first_at a) e ∙ ap (λ (t : Bool). cond t 0 (suc (first_at a rest))) h

  pub first_on : {b : Pair} {ps rest : List Pair} → ps ≡ b ∷ rest → same_pair a b ≡ false → first_at a ps ≡ suc (first_at a rest)
  unfolding first_at
  first_on {b} {ps} {rest} e h = ap (first_at a) e ∙ ap (λ (t : Bool). cond t 0 (suc (first_at a rest))) h

  pub first_none : {ps : List Pair} → ps ≡ [] → first_at a ps ≡ 0
  unfolding first_at
  first_none e = ap (first_at a) e

  -- what stands there is that pair
  first_is : (ps : List Pair) (d : Pair) → first_at a ps < length ps → same_pair a (get_or ps (first_at a ps) d) ≡ true
  unfolding first_at
  first_is [] d h = absurd (not-suc-le-zero h)
  first_is (b ∷ ps) d h = go (same_pair a b) refl h (first_is ps d)
    where
      go : (t : Bool) → same_pair a b ≡ t → cond t 0 (suc (first_at a ps)) < suc (length ps)
          → (first_at a ps < length ps → same_pair a (get_or ps (first_at a ps) d) ≡ true) → same_pair a (get_or (b ∷ ps) (cond t 0 (suc (first_at a ps))) d) ≡ true
      go true e l f = e
      go false e l f = f (le_of_suc-le-suc l)

  -- the others are those before it and those behind it
  others : (ps : List Pair) (c : Pair) → holds (without a ps) c ≡ (holds (take (first_at a ps) ps) c || holds (drop (suc (first_at a ps)) ps) c)
  unfolding first_at without holds any
  others [] c = refl
  others (b ∷ ps) c = go (same_pair a b) (others ps c)
    where
      go : (t : Bool) → any (same_pair c) (without a ps) ≡ (any (same_pair c) (take (first_at a ps) ps) || any (same_pair c) (drop (suc (first_at a ps)) ps))
          → any (same_pair c) (cond t ps (b ∷ without a ps))
          ≡ (any (same_pair c) (take (cond t 0 (suc (first_at a ps))) (b ∷ ps)) || any (same_pair c) (drop (suc (cond t 0 (suc (first_at a ps)))) (b ∷ ps)))
      go true h = refl
      go false h =
          ap (λ (x : Bool). same_pair c b || x) h
          ∙ sym (or_assoc (same_pair c b) (any (same_pair c) (take (first_at a ps) ps)) (any (same_pair c) (drop (suc (first_at a ps)) ps)))

  renamed : (c : Pair) (ps : List Pair) → rename a c ps ≡ set ps (first_at a ps) c
  unfolding first_at rename
  renamed c [] = refl
  renamed c (b ∷ ps) = go (same_pair a b) (renamed c ps)
    where
      go : (t : Bool) → rename a c ps ≡ set ps (first_at a ps) c → cond t (c ∷ ps) (b ∷ rename a c ps) ≡ set (b ∷ ps) (cond t 0 (suc (first_at a ps))) c
      go true h = refl
      go false h = ap (λ (l : List Pair). b ∷ l) h

-- What a SET does to a list of pairs, by the first place of the old pair: nothing where there is none, nothing where the new pair
-- stands before or behind it, and else the new pair stands there.
module _ (b o n : ℕ) (ps : List Pair) {k : ℕ} (e : k ≡ first_at (pair_of b o) ps) where
  pub absent : length ps ≤ k → ps ≡ renumbered b o n ps
  unfolding renumbered pair_of
  absent h =
      sym (ap (λ (l : List Pair). cond t ps l) (renamed (pair_of b o) (pair_of b n) ps ∙ set_out ps (first_at (pair_of b o) ps) (pair_of b n) (omega arith))
      ∙ cond_same t ps)
    where
      t : Bool
      t = holds (without (pair_of b o) ps) (pair_of b n)

  apart : holds (without (pair_of b o) ps) (pair_of b n) ≡ (holds (take k ps) (pair_of b n) || holds (drop (k + 1) ps) (pair_of b n))
  apart = rw (add-one k, e) (others (pair_of b o) ps (pair_of b n))

  pub barred : (holds (take k ps) (pair_of b n) || holds (drop (k + 1) ps) (pair_of b n)) ≡ true → ps ≡ renumbered b o n ps
  unfolding renumbered pair_of
  barred h = sym (cond_true ps _ (apart ∙ h))

  pub moved : (holds (take k ps) (pair_of b n) || holds (drop (k + 1) ps) (pair_of b n)) ≡ false → set ps k (pair_of b n) ≡ renumbered b o n ps
  unfolding renumbered pair_of
  moved h =
      sym (cond_false ps (rename (pair_of b o) (pair_of b n) ps) (apart ∙ h)
      ∙ renamed (pair_of b o) (pair_of b n) ps ∙ ap (λ (i : ℕ). set ps i (pair_of b n)) (sym e))

-- two arrays of one length: a number stored at that place makes another pair of the same block
module _ (cap : ℕ) (bs ns : List ℕ) (h : length bs ≡ cap) (l : length ns ≡ cap) where
  block_there : (c b o : ℕ) {k : ℕ} → k ≡ first_at (pair_of b o) (pairs_from c bs ns) → k < min c cap → get_or bs k 0 ≡ b
  unfolding same_pair pair_of
  block_there c b o {k} e m =
      let ps = pairs_from c bs ns in
      let d = pair_of 0 0 in
      let f : same_pair (pair_of b o) (get_or ps k d) ≡ true = rw e (first_is (pair_of b o) ps d (omega (arith, pairs_length cap bs ns h l c))) in
      let g : same_pair (pair_of b o) (pair_of (get_or bs k 0) (get_or ns k 0)) ≡ true = rw (pairs_at_lem cap bs ns h l c k d m) at f in
      sym (eqb-true b (get_or bs k 0) (and_left _ _ g))

  pub stored : (c b o n : ℕ) {k : ℕ} → k ≡ first_at (pair_of b o) (pairs_from c bs ns) → k < min c cap
      → pairs_from c bs (set ns k n) ≡ set (pairs_from c bs ns) k (pair_of b n)
  unfolding pairs_from
  stored c b o n {k} e m =
      ap (λ (l : List ℕ). firsts (λ (a : Pair). a) c (zip_pairs l (set ns k n))) (sym (set-get_or bs k 0) ∙ ap (set bs k) (block_there c b o e m))
      ∙ ap (firsts (λ (a : Pair). a) c) (zip_set k bs ns b n) ∙ firsts_set (λ (a : Pair). a) c k (pair_of b n) (zip_pairs bs ns)
