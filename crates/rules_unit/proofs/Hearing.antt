-- What a unit keeps after all orders of an event: no answer that one of them names, and none at all where the first empties it.
use Prim.Native.Nat.{ℕ, ◌<◌, ◌≤◌}
use mathlib.Core.Path.{◌≡◌, refl, sym, ◌∙◌, ap, subst}
use mathlib.Core.Bool.{Bool, true, false, not}
use mathlib.Core.List.{List, [], ◌∷◌, map}
use mathlib.Core.Option.{Option}
use native.Mathlib.Omega.{arith}
use borrow.Author.Tests.{ne_eqb}
use Rattle.laws.specs.Lists.{any, select}
use Rattle.laws.specs.Bools.{clash, not_true, or_false, or_true_right, cond_true}
use Rattle.laws.specs.Alls.{All, all_nil, all_map, all_both, all_of, all_selected}
use Rattle.rules.specs.House.{min_answer_room, max_pass}
use Rattle.rules.specs.Picture.{Pair, holds}
use Rattle.rules.specs.Order.{Order, ASK, SET, OK, NOTOK, NEW, INVALID, WAIT_SHORT, WAIT_LONG, encode, encode_all}
use Rattle.rules.specs.Run.{Sent, sent_with}
use Rattle.rules_unit.specs.Slave.{Known, Slave, besides, says_not_ok, empties, named, known_after, heard, on_order, read, reads, turned, lived}
use Rattle.rules_unit.specs.Bench.{readings}
use Rattle.rules_unit.proofs.Memory.{known_all}
use Rattle.rules_unit.proofs.Orders.{narrowed, decode_order_lem, takes_apart}

-- the unit after orders of one pass, each as its bytes tell it
unfoldable pub heard_all : ℕ → Slave → List Order → Slave
heard_all c u [] = u
heard_all c u (o ∷ os) = heard_all c (heard u (sent_with c (narrowed o))) os

-- an order names the pair of an answer
abbrev pub names : Known → Order → Bool
names k o = holds (named o) k.pair

module _ (c : ℕ) (small : c ≤ max_pass) where
  read_one : (u : Slave) (o : Order) → turned u (reads (encode c o) min_answer_room) ≡ heard u (sent_with c (narrowed o))
  unfolding turned read on_order
  read_one u o = ap (λ (m : Option Sent). (on_order u m).unit) (decode_order_lem c o small)

  read_each : (u : Slave) (os : List Order) → lived u (map (λ (b : List ℕ). reads b min_answer_room) (map (encode c) os)) ≡ heard_all c u os
  unfolding lived heard_all
  read_each u [] = refl
  read_each u (o ∷ os) = ap (λ (v : Slave). lived v (map (λ (b : List ℕ). reads b min_answer_room) (map (encode c) os))) (read_one u o) ∙ read_each (heard u (sent_with c (narrowed o))) os

  -- the bytes of an event, read as they were written
  pub read_all : (u : Slave) (os : List Order) → lived u (readings (encode_all c os)) ≡ heard_all c u os
  unfolding readings
  read_all u os = ap (λ (bs : List (List ℕ)). lived u (map (λ (b : List ℕ). reads b min_answer_room) bs)) (takes_apart c os).apart ∙ read_each u os

-- the pass is that of the orders, if there are any
pub heard_pass : (c : ℕ) (u : Slave) (os : List Order) → u.pass ≤ c → (heard_all c u os).pass ≤ c
unfolding heard_all heard sent_with
heard_pass c u [] h = h
heard_pass c u (o ∷ os) h = heard_pass c (heard u (sent_with c (narrowed o))) os (omega arith)

-- what holds of all answers goes on holding: reading only drops
heard_one : {P : Known → Type 0} (u : Slave) (s : Sent) → All P u.known → All P (heard u s).known
unfolding heard
heard_one u s h = known_all u.pass u.known s h

pub heard_keeps : {P : Known → Type 0} (c : ℕ) (u : Slave) (os : List Order) → All P u.known → All P (heard_all c u os).known
unfolding heard_all
heard_keeps c u [] h = h
heard_keeps c u (o ∷ os) h = heard_keeps c (heard u (sent_with c (narrowed o))) os (heard_one u (sent_with c (narrowed o)) h)

-- what an order names does not depend on the address that a SET carries
named_narrowed : (o : Order) → named (narrowed o) ≡ named o
unfolding named narrowed
named_narrowed (ASK x) = refl
named_narrowed (SET x a b o n) = refl
named_narrowed OK = refl
named_narrowed NOTOK = refl
named_narrowed (NEW ps) = refl
named_narrowed (INVALID ps) = refl
named_narrowed WAIT_SHORT = refl
named_narrowed WAIT_LONG = refl

-- no answer is left that an order names
pub heard_unnamed : (c : ℕ) (u : Slave) (os : List Order) → All (λ (k : Known). any (names k) os ≡ false) (heard_all c u os).known
unfolding heard_all any heard known_after besides sent_with
heard_unnamed c u [] = all_of _ (λ k. refl)
heard_unnamed c u (o ∷ os) =
    all_map (λ k h. or_false (names k o) (any (names k) os) h.0 h.1)
    (all_both (heard_keeps c _ os first) (heard_unnamed c (heard u (sent_with c (narrowed o))) os))
  where
    first : All (λ (k : Known). names k o ≡ false) (heard u (sent_with c (narrowed o))).known
    first =
        all_map (λ k h. ap (λ (ps : List Pair). holds ps k.pair) (sym (named_narrowed o)) ∙ not_true _ h)
        (all_selected (λ (k : Known). not (holds (named (narrowed o)) k.pair)) _)

-- no answer at all, where the first order empties the unit
emptied : {P : Known → Type 0} (c : ℕ) (u : Slave) (o : Order) (os : List Order) → empties u.pass (sent_with c (narrowed o)) ≡ true
    → All P (heard_all c u (o ∷ os)).known
unfolding heard_all heard known_after besides select sent_with
emptied {P} c u o os h = heard_keeps c _ os (subst (λ (ks : List Known). All P (besides (named (narrowed o)) ks)) (sym (cond_true [] u.known h)) all_nil)

pub emptied_by_notok : {P : Known → Type 0} (c : ℕ) (u : Slave) (os : List Order) → All P (heard_all c u (NOTOK ∷ os)).known
unfolding narrowed empties says_not_ok sent_with
emptied_by_notok c u os = emptied c u NOTOK os refl

pub emptied_by_pass : {P : Known → Type 0} (c : ℕ) (u : Slave) (os : List Order) → u.pass < c → any (λ (o : Order). true) os ≡ true
    → All P (heard_all c u os).known
unfolding any empties sent_with
emptied_by_pass c u [] l h = clash h refl
emptied_by_pass c u (o ∷ os) l h =
    emptied c u o os (or_true_right (says_not_ok (narrowed o)) _ (ap not (ne_eqb c u.pass (λ e. omega (arith, e, l)))))
