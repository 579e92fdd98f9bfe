-- What a function does with a record, from what it writes and the picture that it leaves.
use Prim.Native.Nat.{ℕ, ◌+◌, ◌≤◌}
use mathlib.Core.Path.{◌≡◌, refl, sym, ◌∙◌, ap, subst}
use mathlib.Core.Bool.{Bool, true, false}
use mathlib.Core.List.{List, ◌++◌}
use native.Mathlib.Omega.{arith}
use lib.ListN.{length}
use lib.Seq.{sets}
use Rattle.laws.specs.Bools.{clash}
use Rattle.laws.specs.Buffers.{Wrote, wrote_along, wrote_length}
use Rattle.rules.specs.Picture.{Picture, with_state, with_delay}
use Rattle.rules.specs.Order.{Order, encode_all}
use Rattle.rules.specs.Step.{Change, change}
use Rattle.rules.specs.Ending.{settled, told, ended, end_orders, orders_of, picture_of}
use Rattle.rules.specs.Run.{Outcome, refused, taken, concluded, left, written, lent, number_of}
use Rattle.registry.specs.declared.image.RegistryImage.{RegistryImage}
use Rattle.registry.specs.declared.record.Recorded.{Recorded}
use Rattle.registry.specs.View.{view_of}
use Rattle.registry.specs.Outcome.{handed, expected, Does, Ends, Marks}
use Rattle.wire_orders.proofs.Writing.{orders_length, wrote_orders}

-- the same outcome by another name
pub along : {came : RegistryImage} {o o' : Outcome} {b c : List ℕ} {r : Recorded} → o ≡ o' → Does came o' b r c → Does came o b r c
along {came} {o} {o'} {b} {c} {r} e h = subst (λ (x : Outcome). Does came x b r c) (sym e) h

is_taken : Outcome → Bool
is_taken (refused n) = false
is_taken (taken q os) = true

-- a refusal hands back the very picture
pub refuses : {came : RegistryImage} {o : Outcome} {r : Recorded} (b : List ℕ) (n : ℕ) → o ≡ refused n → (r.number ≡ n) × (r.length ≡ 0) × (r.picture ≡ came)
    → Does came o b r b
unfolding handed expected left lent number_of written
refuses b n e f = along e (record { outcome = (λ i. record { picture = view_of (f.2 i); number = f.0 i; length = f.1 i; buffer = b }); kept = λ m h. f.2; marks = subst Marks (sym f.2) })

-- what is handed back with a taken event
pub takes : {came : RegistryImage} {r : Recorded} {b d : List ℕ} (p : Picture) (c : Change) → view_of r.picture ≡ ended c.picture
    → r.number ≡ 0 → r.length ≡ length (encode_all c.picture.pass (orders_of p c)) → d ≡ sets b 0 (encode_all c.picture.pass (orders_of p c))
    → (Marks came → Marks r.picture) → Does came (concluded p (change c)) b r d
unfolding handed expected left lent number_of written concluded picture_of ended with_delay settled with_state is_taken
takes p c e n f g m = record { outcome = (λ i. record { picture = e i; number = n i; length = f i; buffer = g i }); kept = λ n h. clash refl (ap is_taken h); marks = m }

pub written_taken : (p : Picture) (c : Change) → written (concluded p (change c)) ≡ encode_all c.picture.pass (orders_of p c)
unfolding written concluded picture_of ended with_delay settled with_state
written_taken p c = refl

module _ {came : RegistryImage} {r : Recorded} {b m d : List ℕ} {at : ℕ} (p : Picture) (c : Change) where
  pub does : Wrote b 0 (encode_all c.picture.pass (c.first ++ told c.packing p c.picture ++ c.set)) at m → Ends c.picture m at r d
      → (Marks came → Marks r.picture) → Does came (concluded p (change c)) b r d
  unfolding orders_of
  does w e k =
      let x = wrote_orders c.picture.pass (c.first ++ told c.packing p c.picture ++ c.set) (end_orders c.picture) w (record { buffer = e.buffer; place = refl }) in
      takes p c e.picture e.number (e.length ∙ x.place ∙ omega arith) x.buffer k

-- An event whose change is c: the orders in front of the ending are fs, and the picture that goes to the ending is q.
module _ (p : Picture) (c : Change) {o : Outcome} (e : o ≡ concluded p (change c)) {fs : List Order} (f : c.first ++ told c.packing p c.picture ++ c.set ≡ fs)
    {q : Picture} (g : q ≡ c.picture) (b : List ℕ) where
  whole : length (written o) ≡ length (encode_all q.pass fs) + length (encode_all q.pass (end_orders q))
  unfolding orders_of
  whole =
      ap (λ (x : Outcome). length (written x)) e ∙ ap length (written_taken p c)
      ∙ orders_length c.picture.pass (c.first ++ told c.packing p c.picture ++ c.set) (end_orders c.picture)
      ∙ (λ i. length (encode_all (sym g i).pass (f i)) + length (encode_all (sym g i).pass (end_orders (sym g i))))

  pub front_room : length (written o) ≤ length b → length (encode_all q.pass fs) ≤ length b
  front_room room = omega (arith, room, whole)

  module _ {m : List ℕ} {at : ℕ} (w : Wrote b 0 (encode_all q.pass fs) at m) where
    pub end_room : length (written o) ≤ length b → at + length (encode_all q.pass (end_orders q)) ≤ length m
    end_room room = omega (arith, room, whole, w.place, wrote_length w)

    pub done : {came : RegistryImage} {r : Recorded} {d : List ℕ} → Ends q m at r d → (Marks came → Marks r.picture) → Does came o b r d
    done {came} {r} {d} h k =
        along e
        (does p c (wrote_along (λ i. encode_all (g i).pass (sym f i)) w) (subst (λ (x : Picture). Ends x m at r d) g h) k)
