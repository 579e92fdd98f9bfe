-- A telegram that is cut into a buffer and read from it again.
use Prim.Native.Nat.{ℕ, ◌+◌, ◌-◌, ◌*◌, ◌%◌, ◌≤◌}
use mathlib.Core.Path.{◌≡◌, ap, ◌∙◌}
use mathlib.Core.Bool.{true}
use mathlib.Core.List.{List, ◌∷◌}
use native.Mathlib.Omega.{arith}
use borrow.Author.Tests.{leb-true}
use lib.Dec.{leb}
use lib.ListN.{length, take, drop, length-take}
use lib.Seq.{sets, length-sets, take-append_seam}
use Rattle.laws.specs.Bools.{on_cond}
use Rattle.laws.specs.Buffers.{sets_start}
use Rattle.rules.specs.House.{min_size, max_size, max_payload}
use Rattle.rules.specs.Picture.{legal_size}
use Rattle.rules.specs.Telegram.{count_of, tel_id_for, part_of, telegram_of, cut, cut_to, cut_bytes}
use Rattle.rules.proofs.RoundTrip.{size_range, telegram_length, cuts}
use Rattle.std.specs.Prelude.{Ok, Err}
use Rattle.numbers.specs.declared.Refusal.{Refusal}
use Rattle.tel_cut.specs.Answers.{cut_answer, Cuts}

-- a telegram has at most L bytes behind its head
fits : (l m : ℕ) (payload : List ℕ) (k : ℕ) → min_size ≤ l → length (telegram_of l m payload k) ≤ 6 + l
unfolding telegram_of part_of
fits l m payload k low =
    on_cond (λ (t : List ℕ). length t ≤ 6 + l) (leb (length payload) l) _ _
    (λ e. omega (arith, telegram_length m 0 payload, leb-true (length payload) l e))
    (λ e. let t = take (l - 1) (drop ((k - 1) * (l - 1)) payload) in
    omega (arith, telegram_length m (tel_id_for (count_of l (length payload)) k) ((k - 1) % 256 ∷ t), length-take (l - 1) (drop ((k - 1) * (l - 1)) payload)))

module _ (l m : ℕ) (payload : List ℕ) (k : ℕ) (legal : legal_size l ≡ true) (short : length payload ≤ max_payload) (low : 1 ≤ k) (high : k ≤ count_of l (length payload)) where
  room : length (telegram_of l m payload k) ≤ 6 + max_size
  room = omega (arith, fits l m payload k (size_range l legal).0, size_range l legal)

  is : (b : List ℕ) → length b ≡ 6 + max_size → cut l m payload k (length b) ≡ cut_to (telegram_of l m payload k)
  is b long = (cuts l m payload legal short).cuts k (length b) low high (omega (arith, room))

  module _ (b : List ℕ) {after : List ℕ} (long : length b ≡ 6 + max_size) where
    -- it is not refused
    pub never : {r : Refusal} → Cuts (cut l m payload k (length b)) b (Err r) after → ⊥
    never h = let e = h.answered ∙ ap cut_answer (is b long) in cc

    module _ {n : ℕ} (h : Cuts (cut l m payload k (length b)) b (Ok n) after) where
      size : n ≡ length (telegram_of l m payload k)
      size = let e = h.answered ∙ ap cut_answer (is b long) in cc

      stored : after ≡ sets b 0 (telegram_of l m payload k)
      unfolding cut_bytes
      stored = h.buffer ∙ ap (λ c. sets b 0 (cut_bytes c)) (is b long)

      pub inside : n ≤ length after
      inside = omega (arith, size, room, ap length stored ∙ length-sets b 0 (telegram_of l m payload k))

      pub read_back : take n after ≡ telegram_of l m payload k
      read_back =
          (λ i. take (size i) ((stored ∙ sets_start b (telegram_of l m payload k) (omega (arith, room))) i))
          ∙ take-append_seam (telegram_of l m payload k) _
