-- Orders as bytes: what a few stores write, and the bytes of an order that lists pairs.
use Prim.Native.Nat.{ℕ, ◌+◌, ◌*◌, ◌≤◌, min}
use mathlib.Core.Path.{◌≡◌, refl, sym, ◌∙◌, ap}
use mathlib.Core.List.{List, [], ◌∷◌, ◌++◌, append-nil}
use native.Mathlib.Numerals.{towards_suc}
use native.Mathlib.Omega.{arith}
use lib.ListN.{length, set}
use lib.Seq.{sets}
use Rattle.laws.specs.Buffers.{Wrote, Owes, wrote_append, wrote_along}
use Rattle.laws.specs.Lists.{collect}
use Rattle.rules.specs.Picture.{Pair}
use Rattle.rules.specs.Event.{two, four, pair_bytes}
use Rattle.rules.specs.Order.{Order, kind_of, body_of, encode}
use Rattle.wire_pairs.specs.View.{pair_of, zip_pairs}
use Rattle.wire_pairs.proofs.Arrays.{zip_short}
use Rattle.wire_orders.specs.View.{notice_of, delta_of, head_bytes, head_size, pair_size, list_size}
use Rattle.wire_orders.specs.declared.Notice.{Notice}
use Rattle.wire_orders.specs.declared.Notice.TheVariants as notices
use Rattle.wire_orders.specs.declared.Delta.{Delta}
use Rattle.wire_orders.specs.declared.Delta.TheVariants as deltas

-- one byte, and two
pub wrote_one : (b : List ℕ) (at x : ℕ) → Wrote b at (x ∷ []) (at + 1) (set b at x)
wrote_one b at x = record { buffer = refl; place = refl }

pub wrote_two : (b : List ℕ) (at x y : ℕ) → Wrote b at (x ∷ y ∷ []) (at + 2) (set (set b at x) (at + 1) y)
wrote_two b at x y = record { buffer = simp towards_suc; place = refl }

-- mark, kind and pass, by three stores and one writer
pub wrote_head : {c : List ℕ} (b : List ℕ) (at k n : ℕ) → c ≡ sets (set (set (set b at 0x4D) (at + 1) 0x4F) (at + 2) k) (at + 3) (four n)
    → Wrote b at (head_bytes k n) (at + head_size) c
unfolding four two
wrote_head b at k n e = record { buffer = e ∙ simp towards_suc; place = refl }

pub head_end : {b c : List ℕ} {at i k : ℕ} (n : ℕ) → Wrote b at (head_bytes k n) i c → i ≡ at + head_size
unfolding four two
head_end n h = h.place

-- what stands behind the pass of a SET
pub wrote_set : {c : List ℕ} (b : List ℕ) (at x a k o n : ℕ) → c ≡ sets (set b at x) (at + 1) (two a)
    → Wrote b at (x ∷ two a ++ k ∷ o ∷ n ∷ []) (at + 6) (set (set (set c (at + 3) k) (at + 4) o) (at + 5) n)
unfolding two
wrote_set b at x a k o n e = record { buffer = rw e (simp towards_suc); place = refl }

-- an order's kind and what stands behind its pass
pub wrote_order : {b c d : List ℕ} {at i j : ℕ} (pass : ℕ) (o : Order) → Wrote b at (head_bytes (kind_of o) pass) i c → Wrote c i (body_of o) j d
    → Wrote b at (encode pass o) j d
unfolding encode
wrote_order pass o h k = wrote_append h k

-- how long an order is
pub order_length_lem : (pass : ℕ) (o : Order) → length (encode pass o) ≡ head_size + length (body_of o)
unfolding encode four two
order_length_lem pass o = omega arith

-- room for what stands behind the pass
pub body_room : {b c : List ℕ} {at i k l : ℕ} (pass : ℕ) (o : Order) → at + length (encode pass o) ≤ l → Wrote b at (head_bytes k pass) i c
    → i + length (body_of o) ≤ l
body_room pass o h w = omega (arith, order_length_lem pass o, head_end pass w)

-- a notice is its head alone
pub notice_body : (n : Notice) → body_of (notice_of n) ≡ []
unfolding body_of
notice_body notices.Ok = refl
notice_body notices.NotOk = refl
notice_body notices.WaitShort = refl
notice_body notices.WaitLong = refl

pub wrote_notice : {b c : List ℕ} {at i k : ℕ} (pass : ℕ) (n : Notice) → k ≡ kind_of (notice_of n) → Wrote b at (head_bytes k pass) i c
    → Wrote b at (encode pass (notice_of n)) i c
unfolding encode
wrote_notice pass n e h =
    let o = notice_of n in
    wrote_along (ap (λ (k : ℕ). head_bytes k pass) e ∙ sym (append-nil (head_bytes (kind_of o) pass)) ∙ ap (λ (l : List ℕ). head_bytes (kind_of o) pass ++ l) (sym (notice_body n))) h

-- the two orders that list pairs differ in their kind alone
pub delta_kind : (d : Delta) (ps : List Pair) → kind_of (delta_of d []) ≡ kind_of (delta_of d ps)
unfolding kind_of
delta_kind deltas.New ps = refl
delta_kind deltas.Invalid ps = refl

pub delta_body : (d : Delta) (ps : List Pair) → length ps ∷ collect pair_bytes ps ≡ body_of (delta_of d ps)
unfolding body_of
delta_body deltas.New ps = refl
delta_body deltas.Invalid ps = refl

-- an order that lists pairs: its head, the count, and the pairs
pub wrote_delta : {b c e : List ℕ} {at i j k : ℕ} (pass n : ℕ) (d : Delta) (ps : List Pair) → k ≡ kind_of (delta_of d []) → n ≡ length ps
    → Wrote b at (head_bytes k pass) i c → Wrote (set c i n) (i + 1) (collect pair_bytes ps) j e → Wrote b at (encode pass (delta_of d ps)) j e
wrote_delta {c = c} {i = i} pass n d ps f g h w =
    wrote_order pass (delta_of d ps)
    (wrote_along (ap (λ (l : ℕ). head_bytes l pass) (f ∙ delta_kind d ps)) h)
    (wrote_along (ap (λ (l : ℕ). l ∷ collect pair_bytes ps) g ∙ delta_body d ps) (wrote_append (wrote_one c i n) w))

-- how long the bytes of pairs are, and an order that lists them
pub pairs_size : (ps : List Pair) → length (collect pair_bytes ps) ≡ pair_size * length ps
unfolding collect pair_bytes
pairs_size [] = refl
pairs_size (a ∷ rest) = let e = pairs_size rest in omega arith

pub delta_length : (pass : ℕ) (d : Delta) (ps : List Pair) → length (encode pass (delta_of d ps)) ≡ list_size (length ps)
delta_length pass d ps = omega (arith, order_length_lem pass (delta_of d ps), ap length (delta_body d ps), pairs_size ps)

-- pairs of two slices: one turn of writing them, and the end, where either has none left
pub pairs_on : {bs ns bs' ns' : List ℕ} {b n : ℕ} → bs ≡ b ∷ bs' → ns ≡ n ∷ ns'
    → collect pair_bytes (zip_pairs bs ns) ≡ (b ∷ n ∷ []) ++ collect pair_bytes (zip_pairs bs' ns')
unfolding collect pair_bytes pair_of zip_pairs
pairs_on e f = λ t. collect pair_bytes (zip_pairs (e t) (f t))

pub pairs_end : {bs : List ℕ} (ns : List ℕ) → bs ≡ [] → collect pair_bytes (zip_pairs bs ns) ≡ []
unfolding collect zip_pairs
pairs_end ns e = ap (λ (l : List ℕ). collect pair_bytes (zip_pairs l ns)) e

pub pairs_end_other : (bs : List ℕ) {ns : List ℕ} → ns ≡ [] → collect pair_bytes (zip_pairs bs ns) ≡ []
unfolding collect zip_pairs
pairs_end_other [] e = refl
pairs_end_other (b ∷ bs) e = ap (λ (l : List ℕ). collect pair_bytes (zip_pairs (b ∷ bs) l)) e

-- room for a pair, where pairs are owed
pub pairs_room : {d c : List ℕ} {at i l : ℕ} {bs ns bs' ns' : List ℕ} {b n : ℕ} (blocks numbers : List ℕ) → at + pair_size * min (length blocks) (length numbers) ≤ l
    → length c ≡ l → bs ≡ b ∷ bs' → ns ≡ n ∷ ns' → Owes d at (collect pair_bytes (zip_pairs blocks numbers)) i c (collect pair_bytes (zip_pairs bs ns))
    → i + 2 ≤ length c
pairs_room blocks numbers h k e f w =
    omega (arith, w.place, ap length (pairs_on e f), pairs_size (zip_pairs blocks numbers), zip_short blocks numbers, h, k)
