-- Pairs: when two are the same, and that the good pairs of an answer are new and differ from each other.
use Prim.Native.Nat.{ℕ, suc, ◌≤◌}
use mathlib.Core.Path.{◌≡◌, refl, sym, ap, subst}
use mathlib.Core.Bool.{Bool, true, false, cond, not, ◌&&◌}
use mathlib.Core.List.{List, [], ◌∷◌}
use native.Mathlib.Omega.{arith}
use borrow.Author.Tests.{eqb-true, eqb-false, eq-eqb, ne_eqb}
use lib.Dec.{eqb, leb}
use lib.ListN.{length}
use Rattle.laws.specs.Lists.{any}
use Rattle.laws.specs.Bools.{clash, and_left, and_right, and_true, not_true, or_true_left, or_true_right, refute}
use Rattle.laws.specs.Alls.{All, all_nil, all_cons, all_head, all_tail, all_map, Pairwise, pairwise_nil, pairwise_cons, any_none, select_none}
use Rattle.rules.specs.House.{min_number, max_number}
use Rattle.rules.specs.Picture.{Pair, same_pair, holds}
use Rattle.rules.specs.Renumber.{is_good, judge, goods}
use Rattle.rules.specs.Ending.{missing}

pub eqb_turn : (a b : ℕ) → eqb a b ≡ false → eqb b a ≡ false
eqb_turn a b h = ne_eqb b a (λ e. eqb-false a b h (sym e))

abbrev pub Differ : Pair → Pair → Type 0
Differ a b = same_pair a b ≡ false

pub same_eq : (a b : Pair) → same_pair a b ≡ true → a ≡ b
unfolding same_pair
same_eq a b h =
    let e = eqb-true a.block b.block (and_left _ _ h) in
    let f = eqb-true a.number b.number (and_right (eqb a.block b.block) _ h) in
    λ i. record { block = e i; number = f i }

pub same_self : (a : Pair) → same_pair a a ≡ true
unfolding same_pair
same_self a = and_true (eqb a.block a.block) (eqb a.number a.number) (eq-eqb a.block a.block refl) (eq-eqb a.number a.number refl)

pub differ_turn : (a b : Pair) → Differ a b → Differ b a
differ_turn a b h = refute (same_pair b a) (λ e. clash (subst (λ (z : Pair). same_pair a z ≡ true) (sym (same_eq b a e)) (same_self a)) h)

-- every pair is one of its own list, and none of them is missing in it
held_self : (ps : List Pair) → All (λ (a : Pair). holds ps a ≡ true) ps
unfolding holds any
held_self [] = all_nil
held_self (a ∷ ps) = all_cons (or_true_left (same_pair a a) _ (same_self a)) (all_map (λ (b : Pair) (h : any (same_pair b) ps ≡ true). or_true_right (same_pair b a) (any (same_pair b) ps) h) (held_self ps))

pub missing_self : (ps : List Pair) → missing ps ps ≡ []
unfolding missing
missing_self ps = select_none (λ (a : Pair). not (holds ps a)) (all_map (λ a h. ap not h) (held_self ps))

-- what a good pair avoids
pub record New (elsewhere earlier : List Pair) (a : Pair) : Type 0 where
  pub there : All (Differ a) elsewhere
  pub before : All (Differ a) earlier

good_new : (elsewhere earlier : List Pair) (a : Pair) → is_good elsewhere earlier a ≡ true → New elsewhere earlier a
unfolding is_good holds
good_new elsewhere earlier a h =
    let n = leb min_number a.number && leb a.number max_number in
    let e = not (any (same_pair a) elsewhere) in
    record {
      there = any_none (same_pair a) elsewhere (not_true _ (and_right n e (and_left (n && e) _ h)));
      before = any_none (same_pair a) earlier (not_true _ (and_right (n && e) _ h));
    }

later_new : (elsewhere earlier : List Pair) (b a : Pair) → New elsewhere (b ∷ earlier) a → New elsewhere earlier a
later_new elsewhere earlier b a n = record { there = n.there; before = all_tail n.before }

-- every good pair of an answer is new
pub goods_new : (elsewhere earlier ps : List Pair) → All (New elsewhere earlier) (goods (judge elsewhere earlier ps))
unfolding goods judge
goods_new elsewhere earlier [] = all_nil
goods_new elsewhere earlier (a ∷ ps) = go (is_good elsewhere earlier a) refl (all_map (later_new elsewhere earlier a) (goods_new elsewhere (a ∷ earlier) ps))
  where
    go : (b : Bool) → is_good elsewhere earlier a ≡ b → {gs : List Pair} → All (New elsewhere earlier) gs
        → All (New elsewhere earlier) (cond b (a ∷ gs) gs)
    go true e h = all_cons (good_new elsewhere earlier a e) h
    go false e h = h

-- no two good pairs of an answer are the same
pub goods_differ : (elsewhere earlier ps : List Pair) → Pairwise Differ (goods (judge elsewhere earlier ps))
unfolding goods judge
goods_differ elsewhere earlier [] = pairwise_nil
goods_differ elsewhere earlier (a ∷ ps) = go (is_good elsewhere earlier a) (goods_new elsewhere (a ∷ earlier) ps) (goods_differ elsewhere (a ∷ earlier) ps)
  where
    go : (b : Bool) {gs : List Pair} → All (New elsewhere (a ∷ earlier)) gs → Pairwise Differ gs → Pairwise Differ (cond b (a ∷ gs) gs)
    go true n h = pairwise_cons (all_map (λ (g : Pair) (m : New elsewhere (a ∷ earlier) g). differ_turn g a (all_head m.before)) n) h
    go false n h = h

-- and they are no more than were announced
pub goods_few : (elsewhere earlier ps : List Pair) → length (goods (judge elsewhere earlier ps)) ≤ length ps
unfolding goods judge
goods_few elsewhere earlier [] = omega arith
goods_few elsewhere earlier (a ∷ ps) = go (is_good elsewhere earlier a) (goods (judge elsewhere (a ∷ earlier) ps)) (goods_few elsewhere (a ∷ earlier) ps)
  where
    go : (b : Bool) (gs : List Pair) → length gs ≤ length ps → length (cond b (a ∷ gs) gs) ≤ suc (length ps)
    go true gs h = omega arith
    go false gs h = omega arith
