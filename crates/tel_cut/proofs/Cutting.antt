-- Cutting: what the code's tests on bytes and numbers say of the rules' cut.
use Prim.Native.Nat.{ℕ, zero, suc, ◌+◌, ◌-◌, ◌*◌, ◌/◌, ◌%◌, ◌<◌, ◌≤◌, min}
use mathlib.Core.Path.{◌≡◌, refl, sym, ◌∙◌, ap}
use mathlib.Core.Bool.{true, false, cond, not, ◌||◌}
use mathlib.Core.List.{List, ◌∷◌, ◌++◌}
use mathlib.Core.Logic.{◌⊎◌, inl, inr}
use native.Mathlib.Omega.{arith}
use native.Mathlib.Nat.{div-lt_iff_lt-mul, le-div_iff_mul-le, mul-le-mul_left, pos_of_ne-zero}
use borrow.Author.Tests.{eqb-true, eqb-false, leb-true, leb-false, lt-ltb, le-ltb, lt-leb, eq-eqb, ne_eqb}
use lib.Dec.{eqb, leb, ltb}
use lib.ListN.{length, take, drop, set, length-take, length-drop}
use lib.Seq.{sets, take_all}
use Rattle.laws.specs.Bools.{decide, or_false, or_true_left, or_true_right, cond_true, cond_false}
use Rattle.rules.specs.House.{min_size, max_payload}
use Rattle.rules.specs.Picture.{legal_size}
use Rattle.rules.specs.Telegram.{count_of, tel_id_for, part_of, telegram, telegram_of, head_bytes, Cut, cut, uncut, cut_to, cut_bytes}
use Rattle.rules.specs.Event.{two, four}
use Rattle.rules.proofs.RoundTrip.{size_range, telegram_length, telegram_at, telegram_one, count_one, cuts as cuts_are}
use Rattle.tel_cut.specs.Parts.{part_id}
use Rattle.std.specs.Prelude.{Ok, Err}
use Rattle.numbers.specs.declared.Refusal.{Refusal}
use Rattle.numbers.specs.Numbers.{number_of}
use Rattle.tel_head.specs.Allowed.{Forbids}
use Rattle.tel_cut.specs.Answers.{cut_answer, Cuts}

-- the refusals of cutting, each by its test
module _ (l m : ℕ) (payload : List ℕ) (k room : ℕ) where
  pub at_10 : not (legal_size l) ≡ true → cut l m payload k room ≡ uncut 10
  unfolding cut
  at_10 e = cond_true _ _ e

  pub at_11 : legal_size l ≡ true → ltb max_payload (length payload) ≡ true → cut l m payload k room ≡ uncut 11
  unfolding cut
  at_11 legal e = cond_false _ _ (ap not legal) ∙ cond_true _ _ e

module _ (l m : ℕ) (payload : List ℕ) (legal : legal_size l ≡ true) (short : length payload ≤ max_payload) (k room : ℕ) where
  pub at_12 : (eqb k 0 || ltb (count_of l (length payload)) k) ≡ true → cut l m payload k room ≡ uncut 12
  unfolding cut
  at_12 e = cond_false _ _ (ap not legal) ∙ cond_false _ _ (le-ltb max_payload (length payload) short) ∙ cond_true _ _ e

  pub at_13 : (eqb k 0 || ltb (count_of l (length payload)) k) ≡ false → room < length (telegram_of l m payload k) → cut l m payload k room ≡ uncut 13
  unfolding cut
  at_13 e h = cond_false _ _ (ap not legal) ∙ cond_false _ _ (le-ltb max_payload (length payload) short) ∙ cond_false _ _ e ∙ cond_true _ _ (lt-ltb room _ h)

-- a payload up to L
module _ (l m : ℕ) (payload : List ℕ) (legal : legal_size l ≡ true) (h : length payload ≤ l) (k room : ℕ) where
  short : length payload ≤ max_payload
  short = omega (arith, size_range l legal)

  pub single_12 : (k ≡ 1 → ⊥) → cut l m payload k room ≡ uncut 12
  single_12 n = at_12 l m payload legal short k room (go k n)
    where
      go : (k : ℕ) → (k ≡ 1 → ⊥) → (eqb k 0 || ltb (count_of l (length payload)) k) ≡ true
      go zero n = refl
      go (suc zero) n = absurd (n refl)
      go (suc (suc k)) n = or_true_right (eqb (suc (suc k)) 0) _ (lt-ltb (count_of l (length payload)) (suc (suc k)) (omega (arith, count_one l m payload h)))

  module _ (e : k ≡ 1) where
    only : (eqb k 0 || ltb (count_of l (length payload)) k) ≡ false
    only = rw (e, count_one l m payload h) refl

    single_bytes : telegram_of l m payload k ≡ telegram m 0 payload
    single_bytes = rw e (telegram_one l m payload h)

    single_length : length (telegram_of l m payload k) ≡ 6 + length payload
    single_length = ap length single_bytes ∙ telegram_length m 0 payload

    pub single_13 : room < 6 + length payload → cut l m payload k room ≡ uncut 13
    single_13 f = at_13 l m payload legal short k room only (omega (arith, single_length))

    pub single_cut : 6 + length payload ≤ room → cut l m payload k room ≡ cut_to (telegram m 0 payload)
    single_cut f = (cuts_are l m payload legal short).cuts k room (omega arith) (omega (arith, count_one l m payload h)) (omega (arith, single_length)) ∙ ap cut_to single_bytes

-- a longer one: `before` telegrams stand in front of telegram k
module _ (l n k before : ℕ) (low : min_size ≤ l) (h : l < n) (e : k ≡ suc before) where
  count_several : count_of l n ≡ (n + (l - 2)) / (l - 1)
  unfolding count_of
  count_several = cond_false 1 _ (lt-leb n l h)

  pub beyond : n ≤ before * (l - 1) → count_of l n < k
  beyond f =
      let d = div-lt_iff_lt-mul {k = l - 1} {x = n + (l - 2)} {y = k} (omega arith) in
      rw (count_several) (d.1 (rw e (omega arith)))

  pub within : before * (l - 1) < n → k ≤ count_of l n
  within f =
      let d = le-div_iff_mul-le {k = l - 1} {x = k} {y = n + (l - 2)} (omega arith) in
      rw count_several (d.1 (rw e (omega arith)))

  -- it is the last one where no more bytes are left than it holds
  pub last : before * (l - 1) < n → n - before * (l - 1) ≤ l - 1 → k ≡ count_of l n
  last f g = let w = within f in let d = div-lt_iff_lt-mul {k = l - 1} {x = n + (l - 2)} {y = suc k} (omega arith) in let m = d.1 (rw e (omega arith)) in omega (arith, count_several)

  pub not_last : l - 1 < n - before * (l - 1) → k ≡ count_of l n → ⊥
  not_last g f = let d = le-div_iff_mul-le {k = l - 1} {x = suc k} {y = n + (l - 2)} (omega arith) in let m = d.1 (rw e (omega arith)) in omega (arith, count_several)

  pub part_id_lem : before * (l - 1) < n → tel_id_for (count_of l n) k ≡ part_id before (n - before * (l - 1)) (l - 1)
  unfolding tel_id_for part_id
  part_id_lem f = go (decide (eqb before 0)) (decide (leb (n - before * (l - 1)) (l - 1)))
    where
      go : (eqb before 0 ≡ true) ⊎ (eqb before 0 ≡ false) → (leb (n - before * (l - 1)) (l - 1) ≡ true) ⊎ (leb (n - before * (l - 1)) (l - 1) ≡ false)
          → ◌≡◌ {A = ℕ} (cond (eqb k 1) 1 (cond (eqb k (count_of l n)) 3 2)) (cond (eqb before 0) 1 (cond (leb (n - before * (l - 1)) (l - 1)) 3 2))
      go (inl z) t = let b = eqb-true before 0 z in cond_true _ _ (eq-eqb k 1 (omega arith)) ∙ sym (cond_true _ _ z)
      go (inr z) (inl t) =
          cond_false _ _ (ne_eqb k 1 (λ d. eqb-false before 0 z (omega arith)))
          ∙ cond_true _ _ (eq-eqb k (count_of l n) (last f (leb-true _ _ t)))
          ∙ sym (cond_false _ _ z ∙ cond_true _ _ t)
      go (inr z) (inr t) =
          cond_false _ _ (ne_eqb k 1 (λ d. eqb-false before 0 z (omega arith)))
          ∙ cond_false _ _ (ne_eqb k (count_of l n) (not_last (leb-false _ _ t)))
          ∙ sym (cond_false _ _ z ∙ cond_false _ _ t)

  pub no_such : n ≤ before * (l - 1) → (eqb k 0 || ltb (count_of l n) k) ≡ true
  no_such f = or_true_right (eqb k 0) _ (lt-ltb (count_of l n) k (beyond f))

  pub one_of_them : before * (l - 1) < n → (eqb k 0 || ltb (count_of l n) k) ≡ false
  one_of_them f = or_false (eqb k 0) _ (ne_eqb k 0 (λ d. omega arith)) (le-ltb (count_of l n) k (within f))

-- a number above the bytes is above the telegrams
pub too_many : (l n k : ℕ) → min_size ≤ l → l < n → n < k → (eqb k 0 || ltb (count_of l n) k) ≡ true
too_many l n k low h f = no_such l n k (k - 1) low h (omega arith) (let m = mul-le-mul_left {m = 1} {n = l - 1} (k - 1) (omega arith) in omega arith)

-- telegram k, as the code writes it
module _ (l m : ℕ) (payload : List ℕ) (k before size : ℕ) (low : min_size ≤ l) (h : l < length payload) (e : k ≡ suc before)
    (f : before * (l - 1) < length payload) (s : size ≡ min (l - 1) (length payload - before * (l - 1))) where
  part : take (l - 1) (drop (before * (l - 1)) payload) ≡ take size (drop (before * (l - 1)) payload)
  part = go (decide (leb (l - 1) (length payload - before * (l - 1))))
    where
      go : (leb (l - 1) (length payload - before * (l - 1)) ≡ true) ⊎ (leb (l - 1) (length payload - before * (l - 1)) ≡ false)
          → take (l - 1) (drop (before * (l - 1)) payload) ≡ take size (drop (before * (l - 1)) payload)
      go (inl t) = let g = leb-true (l - 1) (length payload - before * (l - 1)) t in let d : size ≡ l - 1 = omega arith in rw d refl
      go (inr t) =
          let g = leb-false (l - 1) (length payload - before * (l - 1)) t in
          let w = length-drop (before * (l - 1)) payload in
          take_all (l - 1) (drop (before * (l - 1)) payload) (omega arith) ∙ sym (take_all size (drop (before * (l - 1)) payload) (omega arith))

  pub part_telegram : telegram_of l m payload k ≡ telegram m (part_id before (length payload - before * (l - 1)) (l - 1)) (before % 256 ∷ take size (drop (before * (l - 1)) payload))
  unfolding part_of
  part_telegram =
      ap (telegram_of l m payload) e
      ∙ telegram_at l m payload before h
      ∙ ap (λ (id : ℕ). telegram m id (before % 256 ∷ part_of l payload before)) (ap (tel_id_for (count_of l (length payload))) (sym e) ∙ part_id_lem l (length payload) k before low h e f)
      ∙ ap (λ (b : List ℕ). telegram m (part_id before (length payload - before * (l - 1)) (l - 1)) (before % 256 ∷ b)) part

  pub part_length : length (take size (drop (before * (l - 1)) payload)) ≡ size
  part_length = rw (length-take, length-drop) (omega arith)

-- what the code tells, from the rules' answer
pub refused : {c : Cut} {r : Refusal} (b : List ℕ) → c ≡ uncut (number_of r) → Cuts c b (Err r) b
unfolding cut_bytes
refused b e = record { answered = sym (ap cut_answer e); buffer = sym (ap (λ (c : Cut). sets b 0 (cut_bytes c)) e) }

pub written : {c : Cut} (b t after : List ℕ) (n : ℕ) → c ≡ cut_to t → n ≡ length t → after ≡ sets b 0 t → Cuts c b (Ok n) after
unfolding cut_bytes
written b t after n e f g = record { answered = ap Ok f ∙ sym (ap cut_answer e); buffer = g ∙ sym (ap (λ (c : Cut). sets b 0 (cut_bytes c)) e) }

-- 10 and 11
pub forbidden : (l m : ℕ) (payload b : List ℕ) (k room : ℕ) (r : Refusal) → Forbids l (length payload) r → Cuts (cut l m payload k room) b (Err r) b
forbidden l m payload b k room r (inl f) = refused b (at_10 l m payload k room (ap not f.1) ∙ ap uncut (sym (ap number_of f.0)))
forbidden l m payload b k room r (inr f) = refused b (at_11 l m payload k room f.1 (lt-ltb _ _ f.2) ∙ ap uncut (sym (ap number_of f.0)))

-- the bytes that the code stores are the telegram's
pub stored_single : (m : ℕ) {id : ℕ} (payload b b₁ b₂ : List ℕ) → id ≡ 0 → b₁ ≡ sets b 0 (four m ++ head_bytes id (length payload)) → b₂ ≡ sets b₁ 6 payload
    → b₂ ≡ sets b 0 (telegram m 0 payload)
unfolding telegram head_bytes four two
stored_single m payload b b₁ b₂ i e f =
    f ∙ ap (λ (x : List ℕ). sets x 6 payload) e ∙ (λ j. sets (sets b 0 (four m ++ head_bytes (i j) (length payload))) 6 payload)

pub stored_part : (m counter : ℕ) {id n : ℕ} (part b b₁ b₂ : List ℕ) → id ≡ n → b₁ ≡ sets b 0 (four m ++ head_bytes id (1 + length part))
    → b₂ ≡ sets (set b₁ 6 counter) 7 part → b₂ ≡ sets b 0 (telegram m n (counter ∷ part))
unfolding telegram head_bytes four two
stored_part m counter part b b₁ b₂ i e f =
    let d : 1 + length part ≡ length (counter ∷ part) = omega arith in
    f
    ∙ ap (λ (x : List ℕ). sets (set x 6 counter) 7 part) e
    ∙ (λ j. sets (set (sets b 0 (four m ++ head_bytes (i j) (d j))) 6 counter) 7 part)

-- the bytes of a part and the counter byte are no more than a TelLen tells, and have room
pub part_inside : (l : ℕ) (payload : List ℕ) (from size room : ℕ) → legal_size l ≡ true → size ≡ min (l - 1) (length payload - from) → 7 + size ≤ room
    → (1 + length (take (from + size - from) (drop from payload)) < 4096) × (7 + length (take (from + size - from) (drop from payload)) ≤ room)
part_inside l payload from size room legal s g = rw (length-take, length-drop) (omega (arith, size_range l legal))

-- the answers for a payload above L
module _ (l m : ℕ) (payload : List ℕ) (legal : legal_size l ≡ true) (h : l < length payload) (short : length payload ≤ max_payload) (k room : ℕ) where
  low : min_size ≤ l
  low = (size_range l legal).0

  pub part_none : k ≡ 0 → cut l m payload k room ≡ uncut 12
  part_none e = at_12 l m payload legal short k room (or_true_left (eqb k 0) _ (eq-eqb k 0 e))

  pub part_many : length payload < k → cut l m payload k room ≡ uncut 12
  part_many f = at_12 l m payload legal short k room (too_many l (length payload) k low h f)

  module _ (some : k ≡ 0 → ⊥) where
    behind : k ≡ suc (k - 1)
    behind = omega (arith, pos_of_ne-zero some)

    pub part_12 : length payload ≤ (k - 1) * (l - 1) → cut l m payload k room ≡ uncut 12
    part_12 f = at_12 l m payload legal short k room (no_such l (length payload) k (k - 1) low h behind f)

    module _ (size : ℕ) (f : (k - 1) * (l - 1) < length payload) (s : size ≡ min (l - 1) (length payload - (k - 1) * (l - 1))) where
      this : (eqb k 0 || ltb (count_of l (length payload)) k) ≡ false
      this = one_of_them l (length payload) k (k - 1) low h behind f

      part_bytes : telegram_of l m payload k
          ≡ telegram m (part_id (k - 1) (length payload - (k - 1) * (l - 1)) (l - 1)) ((k - 1) % 256 ∷ take size (drop ((k - 1) * (l - 1)) payload))
      part_bytes = part_telegram l m payload k (k - 1) size low h behind f s

      part_size : length (take size (drop ((k - 1) * (l - 1)) payload)) ≡ size
      part_size = part_length l m payload k (k - 1) size low h behind f s

      part_long : length (telegram_of l m payload k) ≡ 7 + size
      part_long = ap length part_bytes ∙ telegram_length m _ _ ∙ omega (arith, part_size)

      pub part_13 : room < 7 + size → cut l m payload k room ≡ uncut 13
      part_13 g = at_13 l m payload legal short k room this (omega (arith, part_long))

      pub part_cuts : {id counter : ℕ} {part : List ℕ} (b after : List ℕ) → 7 + size ≤ room
          → id ≡ part_id (k - 1) (length payload - (k - 1) * (l - 1)) (l - 1) → counter ≡ (k - 1) % 256 → part ≡ take size (drop ((k - 1) * (l - 1)) payload)
          → after ≡ sets b 0 (telegram m id (counter ∷ part)) → Cuts (cut l m payload k room) b (Ok (7 + size)) after
      part_cuts b after g i c p e =
          written b _ after (7 + size)
          ((cuts_are l m payload legal short).cuts k room (pos_of_ne-zero some) (within l (length payload) k (k - 1) low h behind f) (omega (arith, part_long)) ∙ ap cut_to part_bytes)
          (sym (sym (ap length part_bytes) ∙ part_long))
          (e ∙ (λ j. sets b 0 (telegram m (i j) (c j ∷ p j))))

-- every message has a telegram
pub at_least_one : (l n : ℕ) → legal_size l ≡ true → 1 ≤ count_of l n
unfolding count_of
at_least_one l n legal = go (decide (leb n l))
  where
    go : (leb n l ≡ true) ⊎ (leb n l ≡ false) → 1 ≤ count_of l n
    go (inl e) = omega (arith, cond_true 1 ((n + (l - 2)) / (l - 1)) e)
    go (inr e) = let h = leb-false n l e in within l n 1 0 (size_range l legal).0 h refl (omega arith)
