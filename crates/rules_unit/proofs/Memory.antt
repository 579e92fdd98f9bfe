-- The answers that a unit keeps: what holds of all of them, how many they are, and each pair once.
use Prim.Native.Nat.{ℕ, ◌-◌, ◌≤◌}
use mathlib.Core.Path.{◌≡◌}
use mathlib.Core.Bool.{Bool, false, not}
use mathlib.Core.List.{List, [], ◌∷◌}
use native.Mathlib.Omega.{arith}
use lib.ListN.{length, length-append, drop, length-drop}
use Rattle.laws.specs.Lists.{any}
use Rattle.laws.specs.Bools.{not_true, or_left, on_cond}
use Rattle.laws.specs.Alls.{All, all_nil, all_cons, all_append, all_map, all_drop, all_select, all_selected, Pairwise, pairwise_nil, pairwise_cons, pairwise_append, pairwise_drop, pairwise_select, select_length}
use Rattle.rules.specs.House.{max_answers}
use Rattle.rules.specs.Picture.{Pair, same_pair, holds}
use Rattle.rules.specs.Run.{Sent}
use Rattle.rules_unit.specs.Slave.{Known, besides, newest, remember, empties, named, known_after}

-- the answer's pair is none of these
passes : List Pair → Known → Bool
passes ps k = not (holds ps k.pair)

-- what holds of all answers, and of the new one, holds of all that are remembered
pub remember_all : {P : Known → Type 0} (k : Known) (ks : List Known) → P k → All P ks → All P (remember k ks)
unfolding remember newest besides passes
remember_all k ks h hs = all_append (all_drop (length (besides (k.pair ∷ []) ks) - (max_answers - 1)) (all_select (passes (k.pair ∷ [])) hs)) (all_cons h all_nil)

pub known_all : {P : Known → Type 0} (last : ℕ) (ks : List Known) (s : Sent) → All P ks → All P (known_after last ks s)
unfolding known_after besides passes
known_all {P} last ks s h = all_select (passes (named s.order)) (on_cond (All P) (empties last s) [] ks (λ _. all_nil) (λ _. h))

-- a few, and each pair once
abbrev Apart : Known → Known → Type 0
Apart j k = same_pair j.pair k.pair ≡ false

pub record Tidy (ks : List Known) : Type 0 where
  pub few : length ks ≤ max_answers
  pub once : Pairwise Apart ks

pub tidy_nothing : Tidy []
tidy_nothing = record { few = omega arith; once = pairwise_nil }

tidy_besides : (ps : List Pair) (ks : List Known) → Tidy ks → Tidy (besides ps ks)
unfolding besides passes
tidy_besides ps ks h =
    record { few = let l = select_length (passes ps) ks in omega (arith, h.few, l); once = pairwise_select (passes ps) h.once }

pub tidy_known : (last : ℕ) (ks : List Known) (s : Sent) → Tidy ks → Tidy (known_after last ks s)
unfolding known_after
tidy_known last ks s h = tidy_besides (named s.order) _ (on_cond Tidy (empties last s) [] ks (λ _. tidy_nothing) (λ _. h))

other_pairs : (k : Known) (ks : List Known) → All (λ (j : Known). Apart j k) (besides (k.pair ∷ []) ks)
unfolding besides passes holds any
other_pairs k ks = all_map (λ j e. or_left _ false (not_true _ e)) (all_selected (passes (k.pair ∷ [])) ks)

pub tidy_remember : (k : Known) (ks : List Known) → Tidy ks → Tidy (remember k ks)
unfolding remember newest
tidy_remember k ks h =
    record {
      few = let l = length-append (drop n rest) (k ∷ []) in let m = length-drop n rest in omega arith;
      once = pairwise_append (pairwise_drop n (tidy_besides (k.pair ∷ []) ks h).once) (pairwise_cons all_nil pairwise_nil) (all_drop n others);
    }
  where
    rest : List Known
    rest = besides (k.pair ∷ []) ks

    n : ℕ
    n = length rest - (max_answers - 1)

    others : All (λ (j : Known). All (Apart j) (k ∷ [])) rest
    others = all_map (λ j e. all_cons e all_nil) (other_pairs k ks)
