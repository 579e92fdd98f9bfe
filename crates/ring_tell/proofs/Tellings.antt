-- Orders one behind the other: what one turn of a loop over entries writes.
use Prim.Native.Nat.{ℕ, suc, ◌+◌, ◌≤◌}
use mathlib.Core.Path.{◌≡◌, refl, sym, ◌∙◌, ap}
use mathlib.Core.Bool.{Bool, true, false, cond}
use mathlib.Core.List.{List, [], ◌∷◌, ◌++◌, append-nil}
use native.Mathlib.Numerals.{add-one}
use lib.ListN.{length}
use Rattle.laws.specs.Buffers.{Wrote, Owes, owes_on}
use Rattle.laws.specs.Lists.{collect}
use Rattle.rules.specs.Picture.{Pair, Row}
use Rattle.rules.specs.Order.{Order, ASK, encode, encode_all}
use Rattle.rules.specs.Step.{asks}
use Rattle.rules.specs.Ending.{tell, tell_rows}
use Rattle.wire_orders.proofs.Tellings.{owes_room}
use Rattle.wire_orders.proofs.Writing.{orders_append}

module _ (pass : ℕ) where
  -- ASKs: one entry, and those behind it; none for no entries
  module _ (f : Row → Bool) where
    asks_on : (x : ℕ) {rows rest : List Row} {r : Row} → rows ≡ r ∷ rest
        → encode_all pass (asks f x rows) ≡ encode_all pass (asks f x (r ∷ [])) ++ encode_all pass (asks f (x + 1) rest)
    unfolding asks
    asks_on x {rows} {rest} {r} e =
        rw (add-one x)
        (ap (λ (l : List Row). encode_all pass (asks f x l)) e ∙ ap (encode_all pass) (go (f r)) ∙ orders_append pass (asks f x (r ∷ [])) (asks f (suc x) rest))
      where
        go : (b : Bool) → cond b (ASK x ∷ asks f (suc x) rest) (asks f (suc x) rest) ≡ cond b (ASK x ∷ []) [] ++ asks f (suc x) rest
        go true = refl
        go false = refl

    pub asks_room : {b c : List ℕ} {at i l : ℕ} {whole : List ℕ} (x : ℕ) {rows rest : List Row} {r : Row} → rows ≡ r ∷ rest
        → Owes b at whole i c (encode_all pass (asks f x rows)) → at + length whole ≤ l → i + length (encode_all pass (asks f x (r ∷ []))) ≤ l
    asks_room x {rest = rest} {r = r} e = owes_room (encode_all pass (asks f x (r ∷ []))) (encode_all pass (asks f (x + 1) rest)) (asks_on x e)

    pub asks_turn : {b c d : List ℕ} {at i j : ℕ} {whole : List ℕ} (x : ℕ) {rows rest : List Row} {r : Row} → rows ≡ r ∷ rest
        → Wrote c i (encode_all pass (asks f x (r ∷ []))) j d → Owes b at whole i c (encode_all pass (asks f x rows))
        → Owes b at whole j d (encode_all pass (asks f (x + 1) rest))
    asks_turn x {r = r} e = owes_on (encode_all pass (asks f x (r ∷ []))) (asks_on x e)

    pub asks_end : (x : ℕ) {rows : List Row} → rows ≡ [] → encode_all pass (asks f x rows) ≡ []
    unfolding asks encode_all collect
    asks_end x e = ap (λ (l : List Row). encode_all pass (asks f x l)) e

    -- the ASK of one entry, by whether it is asked
    pub asks_one : (x : ℕ) (r : Row) → f r ≡ true → encode pass (ASK x) ≡ encode_all pass (asks f x (r ∷ []))
    unfolding asks encode_all collect
    asks_one x r e = sym (ap (λ (b : Bool). collect (encode pass) (cond b (ASK x ∷ []) [])) e ∙ append-nil (encode pass (ASK x)))

    pub asks_none : (x : ℕ) (r : Row) → f r ≡ false → [] ≡ encode_all pass (asks f x (r ∷ []))
    unfolding asks encode_all collect
    asks_none x r e = sym (ap (λ (b : Bool). collect (encode pass) (cond b (ASK x ∷ []) [])) e)

  -- entries: one of each, and those behind them
  module _ (order : List Pair → Order) (size : ℕ) where
    rows_on : (pairs : Row → Row → List Pair) {bs cs bs' cs' : List Row} {b a : Row} → bs ≡ b ∷ bs' → cs ≡ a ∷ cs'
        → encode_all pass (tell_rows order pairs size bs cs) ≡ encode_all pass (tell order size (pairs b a)) ++ encode_all pass (tell_rows order pairs size bs' cs')
    unfolding tell_rows
    rows_on pairs {bs' = bs'} {cs' = cs'} {b = b} {a = a} e f =
        (λ t. encode_all pass (tell_rows order pairs size (e t) (f t))) ∙ orders_append pass (tell order size (pairs b a)) (tell_rows order pairs size bs' cs')

    pub rows_room : {b c : List ℕ} {at i l : ℕ} {whole : List ℕ} (pairs : Row → Row → List Pair) {bs cs bs' cs' : List Row} {r s : Row} → bs ≡ r ∷ bs'
        → cs ≡ s ∷ cs' → Owes b at whole i c (encode_all pass (tell_rows order pairs size bs cs)) → at + length whole ≤ l
        → i + length (encode_all pass (tell order size (pairs r s))) ≤ l
    rows_room pairs {bs' = bs'} {cs' = cs'} {r = r} {s = s} e f =
        owes_room (encode_all pass (tell order size (pairs r s))) (encode_all pass (tell_rows order pairs size bs' cs')) (rows_on pairs e f)

    pub rows_turn : {b c d : List ℕ} {at i j : ℕ} {whole : List ℕ} (pairs : Row → Row → List Pair) {bs cs bs' cs' : List Row} {r s : Row} → bs ≡ r ∷ bs'
        → cs ≡ s ∷ cs' → Wrote c i (encode_all pass (tell order size (pairs r s))) j d → Owes b at whole i c (encode_all pass (tell_rows order pairs size bs cs))
        → Owes b at whole j d (encode_all pass (tell_rows order pairs size bs' cs'))
    rows_turn pairs {r = r} {s = s} e f = owes_on (encode_all pass (tell order size (pairs r s))) (rows_on pairs e f)

    pub rows_end : (pairs : Row → Row → List Pair) {bs : List Row} (cs : List Row) → bs ≡ [] → encode_all pass (tell_rows order pairs size bs cs) ≡ []
    unfolding tell_rows encode_all collect
    rows_end pairs cs e = ap (λ (l : List Row). encode_all pass (tell_rows order pairs size l cs)) e

    -- no entries on the one side, or on the other
    pub rows_end_other : (pairs : Row → Row → List Pair) (bs : List Row) {cs : List Row} → cs ≡ [] → encode_all pass (tell_rows order pairs size bs cs) ≡ []
    unfolding tell_rows encode_all collect
    rows_end_other pairs [] e = refl
    rows_end_other pairs (b ∷ bs) e = ap (λ (l : List Row). encode_all pass (tell_rows order pairs size (b ∷ bs) l)) e
