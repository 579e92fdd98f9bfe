-- Orders that list pairs, one behind the other: what one turn of a loop over pairs writes.
use Prim.Native.Nat.{ℕ, zero, suc, ◌+◌, ◌-◌, ◌/◌, ◌≤◌, ◌<◌, min}
use mathlib.Core.Path.{◌≡◌, refl, sym, ◌∙◌, ap, subst}
use mathlib.Core.List.{List, [], ◌∷◌, ◌++◌, map}
use native.Mathlib.Nat.{not-suc-le-zero}
use native.Mathlib.Omega.{arith}
use lib.ListN.{length, length-append, take, drop, length-drop}
use Rattle.std.proofs.Math.Seq.{take-append_seam, drop-append_seam}
use Rattle.laws.specs.Buffers.{Wrote, Owes, owes_on}
use Rattle.laws.specs.Lists.{collect}
use Rattle.rules.specs.Picture.{Pair}
use Rattle.rules.specs.Order.{Order, encode, encode_all}
use Rattle.rules.specs.Ending.{packed, tell}
use Rattle.wire_pairs.specs.View.{zip_pairs}
use Rattle.wire_pairs.proofs.Arrays.{zip_short, zip_take, zip_drop}
use Rattle.wire_orders.proofs.Bytes.{delta_length}
use Rattle.wire_orders.specs.View.{delta_of, list_size}
use Rattle.wire_orders.specs.declared.Delta.{Delta}

-- enough orders are enough, however many more there could be
packed_enough : (m n cap : ℕ) (ps : List Pair) → 1 ≤ cap → length ps ≤ m → length ps ≤ n → packed m cap ps ≡ packed n cap ps
unfolding packed
packed_enough zero zero cap [] c h k = refl
packed_enough zero zero cap (a ∷ rest) c h k = refl
packed_enough zero (suc n) cap [] c h k = refl
packed_enough zero (suc n) cap (a ∷ rest) c h k = absurd (not-suc-le-zero h)
packed_enough (suc m) zero cap [] c h k = refl
packed_enough (suc m) zero cap (a ∷ rest) c h k = absurd (not-suc-le-zero k)
packed_enough (suc m) (suc n) cap [] c h k = refl
packed_enough (suc m) (suc n) cap (a ∷ rest) c h k =
    let d = length-drop cap (a ∷ rest) in
    ap (λ (l : List (List Pair)). take cap (a ∷ rest) ∷ l) (packed_enough m n cap (drop cap (a ∷ rest)) c (omega arith) (omega arith))

-- the first order, and the others
packed_on : (cap : ℕ) (ps : List Pair) → 1 ≤ cap → 0 < length ps → packed (length ps) cap ps ≡ take cap ps ∷ packed (length (drop cap ps)) cap (drop cap ps)
unfolding packed
packed_on cap [] c h = absurd (not-suc-le-zero h)
packed_on cap (a ∷ rest) c h =
    let d = length-drop cap (a ∷ rest) in
    ap (λ (l : List (List Pair)). take cap (a ∷ rest) ∷ l) (packed_enough (length rest) (length (drop cap (a ∷ rest))) cap (drop cap (a ∷ rest)) c (omega arith) (omega arith))

-- as many as fit, or all
take_min : {A : Type 0} (cap : ℕ) (xs : List A) → take cap xs ≡ take (min cap (length xs)) xs
take_min zero [] = refl
take_min zero (x ∷ xs) = let e : min 0 (suc (length xs)) ≡ 0 = omega arith in rw e refl
take_min (suc cap) [] = let e : min (suc cap) 0 ≡ 0 = omega arith in rw e refl
take_min {A} (suc cap) (x ∷ xs) =
    let e : min (suc cap) (suc (length xs)) ≡ suc (min cap (length xs)) = omega arith in rw e (ap (λ (l : List A). x ∷ l) (take_min cap xs))

drop_min : {A : Type 0} (cap : ℕ) (xs : List A) → drop cap xs ≡ drop (min cap (length xs)) xs
drop_min zero [] = refl
drop_min zero (x ∷ xs) = let e : min 0 (suc (length xs)) ≡ 0 = omega arith in rw e refl
drop_min (suc cap) [] = let e : min (suc cap) 0 ≡ 0 = omega arith in rw e refl
drop_min (suc cap) (x ∷ xs) = let e : min (suc cap) (suc (length xs)) ≡ suc (min cap (length xs)) = omega arith in rw e (drop_min cap xs)

-- room for the next part of what a loop owes
pub owes_room : {b c : List ℕ} {at i l : ℕ} {whole xs : List ℕ} (part rest : List ℕ) → xs ≡ part ++ rest → Owes b at whole i c xs → at + length whole ≤ l
    → i + length part ≤ l
owes_room part rest e w h = let f = length-append part rest in let g = ap length e in omega (arith, w.place)

module _ (pass : ℕ) where
  -- no order for no pairs
  module _ (order : List Pair → Order) (size : ℕ) where
    pub tell_end : {ps : List Pair} → ps ≡ [] → encode_all pass (tell order size ps) ≡ []
    unfolding tell packed encode_all collect
    tell_end e = ap (λ (l : List Pair). encode_all pass (tell order size l)) e

-- a chunk off the front of a list
chunk_take : {A : Type 0} (n : ℕ) {xs : List A} (x r : List A) → xs ≡ x ++ r → length x ≡ min n (length xs) → take n xs ≡ x
chunk_take n {xs} x r e h = take_min n xs ∙ (λ t. take (sym h t) (e t)) ∙ take-append_seam x r

chunk_drop : {A : Type 0} (n : ℕ) {xs : List A} (x r : List A) → xs ≡ x ++ r → length x ≡ min n (length xs) → drop n xs ≡ r
chunk_drop n {xs} x r e h = drop_min n xs ∙ (λ t. drop (sym h t) (e t)) ∙ drop-append_seam x r

-- pairs of two slices, by chunks of them: one order, and those behind it
module _ (pass : ℕ) (d : Delta) (size : ℕ) (s : 3 ≤ size) {bs ns : List ℕ} (x y bs' ns' : List ℕ) (k m : ℕ) (ek : k ≡ (size - 1) / 2) (em : m ≡ (size - 1) / 2)
    (eb : bs ≡ x ++ bs') (lx : length x ≡ min k (length bs)) (pb : 0 < length bs)
    (en : ns ≡ y ++ ns') (ly : length y ≡ min m (length ns)) (pn : 0 < length ns) where
  chunk_on : encode_all pass (tell (delta_of d) size (zip_pairs bs ns)) ≡ encode pass (delta_of d (zip_pairs x y)) ++ encode_all pass (tell (delta_of d) size (zip_pairs bs' ns'))
  unfolding tell encode_all collect
  chunk_on =
      let c : 1 ≤ (size - 1) / 2 = omega arith in
      let lx : length x ≡ min ((size - 1) / 2) (length bs) = lx ∙ ap (λ (j : ℕ). min j (length bs)) ek in
      let ly : length y ≡ min ((size - 1) / 2) (length ns) = ly ∙ ap (λ (j : ℕ). min j (length ns)) em in
      let front : take ((size - 1) / 2) (zip_pairs bs ns) ≡ zip_pairs x y = sym (zip_take ((size - 1) / 2) bs ns) ∙ (λ t. zip_pairs (chunk_take ((size - 1) / 2) x bs' eb lx t) (chunk_take ((size - 1) / 2) y ns' en ly t)) in
      let behind : drop ((size - 1) / 2) (zip_pairs bs ns) ≡ zip_pairs bs' ns' = sym (zip_drop ((size - 1) / 2) bs ns) ∙ (λ t. zip_pairs (chunk_drop ((size - 1) / 2) x bs' eb lx t) (chunk_drop ((size - 1) / 2) y ns' en ly t)) in
      ap (λ (l : List (List Pair)). encode_all pass (map (delta_of d) l)) (packed_on ((size - 1) / 2) (zip_pairs bs ns) c (omega (arith, zip_short bs ns, pb, pn)))
      ∙ (λ t. encode pass (delta_of d (front t)) ++ encode_all pass (tell (delta_of d) size (behind t)))

  pub chunk_room : {b f : List ℕ} {at j l : ℕ} {whole : List ℕ} → Owes b at whole j f (encode_all pass (tell (delta_of d) size (zip_pairs bs ns)))
      → at + length whole ≤ l → j + list_size (min (length x) (length y)) ≤ l
  chunk_room {j = j} {l = l} w h =
      subst (λ (n : ℕ). j + n ≤ l) (delta_length pass d (zip_pairs x y) ∙ ap list_size (zip_short x y))
      (owes_room (encode pass (delta_of d (zip_pairs x y))) (encode_all pass (tell (delta_of d) size (zip_pairs bs' ns'))) chunk_on w h)

  pub chunk_turn : {b f g : List ℕ} {at j i : ℕ} {whole : List ℕ} → Wrote f j (encode pass (delta_of d (zip_pairs x y))) i g
      → Owes b at whole j f (encode_all pass (tell (delta_of d) size (zip_pairs bs ns)))
      → Owes b at whole i g (encode_all pass (tell (delta_of d) size (zip_pairs bs' ns')))
  chunk_turn = owes_on (encode pass (delta_of d (zip_pairs x y))) chunk_on
