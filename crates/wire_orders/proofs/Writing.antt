-- Orders written one behind the other, and orders that are written where a test holds.
use Prim.Native.Nat.{ℕ, ◌+◌, ◌≤◌}
use mathlib.Core.Path.{◌≡◌, refl, sym, ◌∙◌, ap, subst}
use mathlib.Core.Bool.{Bool, true, false, cond}
use mathlib.Core.List.{List, [], ◌∷◌, ◌++◌, append-nil, append_assoc}
use native.Mathlib.Omega.{arith}
use lib.ListN.{length, length-append}
use Rattle.laws.specs.Lists.{collect}
use Rattle.laws.specs.Buffers.{Wrote, wrote_nothing, wrote_append, wrote_along, wrote_length}
use Rattle.rules.specs.Picture.{State, is_ok, Pair}
use Rattle.rules.specs.Order.{Order, SET, encode, encode_all}
use Rattle.rules.specs.Renumber.{Renumbering, finished, renumbers}
use Rattle.rules.specs.Step.{set_order}

pub orders_one : (n : ℕ) (o : Order) → encode_all n (o ∷ []) ≡ encode n o
unfolding encode_all collect
orders_one n o = append-nil (encode n o)

pub orders_append : (n : ℕ) (xs ys : List Order) → encode_all n (xs ++ ys) ≡ encode_all n xs ++ encode_all n ys
unfolding encode_all collect
orders_append n [] ys = refl
orders_append n (o ∷ xs) ys = ap (λ (l : List ℕ). encode n o ++ l) (orders_append n xs ys) ∙ sym (append_assoc (encode n o) (encode_all n xs) (encode_all n ys))

pub orders_length : (n : ℕ) (xs ys : List Order) → length (encode_all n (xs ++ ys)) ≡ length (encode_all n xs) + length (encode_all n ys)
orders_length n xs ys = ap length (orders_append n xs ys) ∙ length-append (encode_all n xs) (encode_all n ys)

-- one list of orders behind another
pub wrote_orders : {b c d : List ℕ} {at i j : ℕ} (n : ℕ) (xs ys : List Order) → Wrote b at (encode_all n xs) i c → Wrote c i (encode_all n ys) j d
    → Wrote b at (encode_all n (xs ++ ys)) j d
wrote_orders n xs ys h k = wrote_along (sym (orders_append n xs ys)) (wrote_append h k)

-- room for one list of orders and another, behind `at` and from the start
module _ (n : ℕ) {os : List Order} (xs ys : List Order) (e : os ≡ xs ++ ys) where
  both_long : length (encode_all n os) ≡ length (encode_all n xs) + length (encode_all n ys)
  both_long = ap (λ (l : List Order). length (encode_all n l)) e ∙ orders_length n xs ys

  module _ (at : ℕ) (b : List ℕ) (room : at + length (encode_all n os) ≤ length b) where
    pub room_first : at + length (encode_all n xs) ≤ length b
    room_first = omega (arith, room, both_long)

    pub room_second : {c : List ℕ} {i : ℕ} → Wrote b at (encode_all n xs) i c → i + length (encode_all n ys) ≤ length c
    room_second w = omega (arith, room, both_long, w.place, wrote_length w)

  module _ (b : List ℕ) (room : length (encode_all n os) ≤ length b) where
    pub start_first : length (encode_all n xs) ≤ length b
    start_first = omega (arith, room, both_long)

    pub start_second : {c : List ℕ} {i : ℕ} → Wrote b 0 (encode_all n xs) i c → i + length (encode_all n ys) ≤ length c
    start_second w = omega (arith, room, both_long, w.place, wrote_length w)

-- an order that is written where a test holds
module _ (n : ℕ) (o : Order) (t : Bool) where
  pub room_if : (at : ℕ) {k : ℕ} → t ≡ true → at + length (encode_all n (cond t (o ∷ []) [])) ≤ k → at + length (encode n o) ≤ k
  room_if at {k} e h = subst (λ (l : List ℕ). at + length l ≤ k) (ap (λ (c : Bool). encode_all n (cond c (o ∷ []) [])) e ∙ orders_one n o) h

  pub wrote_if : {b c : List ℕ} {at i : ℕ} → t ≡ true → Wrote b at (encode n o) i c → Wrote b at (encode_all n (cond t (o ∷ []) [])) i c
  wrote_if e h = wrote_along (sym (ap (λ (c : Bool). encode_all n (cond c (o ∷ []) [])) e ∙ orders_one n o)) h

  pub wrote_else : (b : List ℕ) (at : ℕ) → t ≡ false → Wrote b at (encode_all n (cond t (o ∷ []) [])) at b
  unfolding encode_all collect
  wrote_else b at e = wrote_along (sym (ap (λ (c : Bool). encode_all n (cond c (o ∷ []) [])) e)) (wrote_nothing b at)

-- what is told: nothing but in OK, one list of orders and then another
module _ (n : ℕ) (s : State) {os : List Order} (xs ys : List Order) (e : os ≡ cond (is_ok s) (xs ++ ys) []) where
  pub told_else : (c : List ℕ) → is_ok s ≡ false → Wrote c 0 (encode_all n os) 0 c
  unfolding encode_all collect
  told_else c f = wrote_along (sym (ap (encode_all n) (e ∙ ap (λ (t : Bool). cond t (xs ++ ys) []) f))) (wrote_nothing c 0)

  module _ (ok : is_ok s ≡ true) where
    parts : encode_all n os ≡ encode_all n xs ++ encode_all n ys
    parts = ap (encode_all n) (e ∙ ap (λ (t : Bool). cond t (xs ++ ys) []) ok) ∙ orders_append n xs ys

    pub told_room : (c : List ℕ) → length (encode_all n os) ≤ length c → 0 + length (encode_all n xs) ≤ length c
    told_room c h = omega (arith, h, ap length parts, length-append (encode_all n xs) (encode_all n ys))

    pub told_room_2 : {c d : List ℕ} {i : ℕ} → Wrote c 0 (encode_all n xs) i d → length (encode_all n os) ≤ length c → i + length (encode_all n ys) ≤ length d
    told_room_2 w h = omega (arith, h, w.place, wrote_length w, ap length parts, length-append (encode_all n xs) (encode_all n ys))

    pub told_wrote : {c d f : List ℕ} {i j : ℕ} → Wrote c 0 (encode_all n xs) i d → Wrote d i (encode_all n ys) j f → Wrote c 0 (encode_all n os) j f
    told_wrote h k = wrote_along (sym parts) (wrote_append h k)

-- the SET of a renumbering
pub set_wrote : (n x a i t : ℕ) (p : Pair) (new : ℕ) {r : Renumbering} {b c : List ℕ} {at j : ℕ} → r ≡ renumbers i t p new
    → Wrote b at (encode n (SET x a p.block p.number new)) j c → Wrote b at (encode_all n (set_order x a r)) j c
unfolding set_order
set_wrote n x a i t p new e w = wrote_along (sym (ap (λ (r : Renumbering). encode_all n (set_order x a r)) e ∙ orders_one n (SET x a p.block p.number new))) w

pub set_room : (n x a i t : ℕ) (p : Pair) (new at : ℕ) {k : ℕ} {r : Renumbering} → r ≡ renumbers i t p new → at + length (encode_all n (set_order x a r)) ≤ k
    → at + length (encode n (SET x a p.block p.number new)) ≤ k
unfolding set_order
set_room n x a i t p new at {k} e h =
    subst (λ (l : List ℕ). at + length l ≤ k) (ap (λ (r : Renumbering). encode_all n (set_order x a r)) e ∙ orders_one n (SET x a p.block p.number new)) h

pub set_none : (n x a : ℕ) {r : Renumbering} (b : List ℕ) (at : ℕ) → r ≡ finished → Wrote b at (encode_all n (set_order x a r)) at b
unfolding set_order encode_all collect
set_none n x a b at e = wrote_along (sym (ap (λ (r : Renumbering). encode_all n (set_order x a r)) e)) (wrote_nothing b at)
