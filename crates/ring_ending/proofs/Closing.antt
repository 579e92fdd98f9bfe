-- What the tests of an ending come to.
use Prim.Native.Nat.{ℕ}
use mathlib.Core.Path.{◌≡◌, sym, ◌∙◌, ap}
use mathlib.Core.Bool.{Bool, cond, not, ◌&&◌, ◌||◌}
use mathlib.Core.List.{List, [], ◌∷◌, ◌++◌}
use Rattle.laws.specs.Buffers.{Wrote, wrote_along}
use Rattle.rules.specs.Picture.{State, Ok, is_not_ok, is_ok}
use Rattle.rules.specs.Order.{OK, WAIT_SHORT, WAIT_LONG, encode_all}
use Rattle.wire_orders.proofs.Writing.{wrote_orders}
use Rattle.ring_ending.specs.Closing.{is_over, state_after, starts_delay, closing_orders}

module _ (s : State) (d q n h : Bool) {ok starts : Bool} {st : State} (k : ok ≡ is_not_ok s && not q) (t : st ≡ cond ok Ok s)
    (w : starts ≡ is_ok st && not q && n && not d) where
  is_over_lem : ok ≡ is_over s q
  unfolding is_over
  is_over_lem = k

  pub is_state : st ≡ state_after s q
  unfolding state_after
  is_state = t ∙ ap (λ (b : Bool). cond b Ok s) is_over_lem

  is_start : starts ≡ starts_delay s d q n
  unfolding starts_delay
  is_start = w ∙ ap (λ (x : State). is_ok x && not q && n && not d) is_state

  pub is_delay : {r : Bool} → r ≡ d || starts → r ≡ d || starts_delay s d q n
  is_delay e = e ∙ ap (λ (b : Bool). d || b) is_start

  pub are_orders : closing_orders s d q n h ≡ cond ok (OK ∷ []) [] ++ cond starts (cond h WAIT_SHORT WAIT_LONG ∷ []) []
  unfolding closing_orders
  are_orders = (λ i. cond (sym is_over_lem i) (OK ∷ []) [] ++ cond (sym is_start i) (cond h WAIT_SHORT WAIT_LONG ∷ []) [])

  pub wrote_both : (pass : ℕ) {b c e : List ℕ} {at i j : ℕ} → Wrote b at (encode_all pass (cond ok (OK ∷ []) [])) i c
      → Wrote c i (encode_all pass (cond starts (cond h WAIT_SHORT WAIT_LONG ∷ []) [])) j e → Wrote b at (encode_all pass (closing_orders s d q n h)) j e
  wrote_both pass x y = wrote_along (ap (encode_all pass) (sym are_orders)) (wrote_orders pass (cond ok (OK ∷ []) []) (cond starts (cond h WAIT_SHORT WAIT_LONG ∷ []) []) x y)
