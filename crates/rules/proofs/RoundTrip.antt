-- Telegrams: their number and lengths, and that a message that is cut and joined comes back the same.
use Prim.Native.Nat.{ℕ, zero, suc, ◌+◌, ◌-◌, ◌*◌, ◌/◌, ◌%◌, ◌<◌, ◌≤◌}
use mathlib.Core.Path.{◌≡◌, refl, sym, ◌∙◌, ap, subst}
use mathlib.Core.Bool.{Bool, true, false, cond, not, ◌&&◌, ◌||◌}
use mathlib.Core.List.{List, [], ◌∷◌, ◌++◌, map}
use native.Mathlib.Omega.{arith}
use mathlib.Core.Logic.{◌⊎◌, inl, inr}
use native.Mathlib.Nat.{div-add-mod', mod-lt, mul-le-mul_right}
use borrow.Author.Tests.{leb-true, leb-false, le-leb, lt-leb, le-ltb, eq-eqb, ne_eqb}
use lib.Dec.{eqb, leb, ltb, eqb-suc-zero}
use lib.ListN.{length, take, drop, length-take, length-drop, replicate}
use lib.Seq.{sets, length-sets, take-add, length-take-le, take_all}
use Rattle.laws.specs.Lists.{up_from}
use Rattle.laws.specs.Bools.{decide, and_left, and_right, and_true, and_none, or_false, cond_true, cond_false}
use Rattle.laws.specs.Buffers.{sets_append, sets_start}
use Rattle.rules.specs.House.{min_size, max_size, max_payload, max_pass}
use Rattle.rules.specs.Picture.{legal_size}
use Rattle.rules.specs.Event.{be2, be4, two, four}
use Rattle.rules.specs.Telegram.{count, cut, head_bytes, tel_id_of, tel_len_of, telegram, count_of, tel_id_for, part_of, telegram_of, telegrams, Joining, idle, opened, still_open, complete, Joined, begins, continues, join_to, malformed, join, JoinedAll, join_all}
use Rattle.rules.specs.Claims.{RoundTrip, Cuts, Lengths}
use Rattle.rules.proofs.Encode.{four_back}

pub size_range : (size : ℕ) → legal_size size ≡ true → (min_size ≤ size) × (size ≤ max_size)
unfolding legal_size
size_range size h = (leb-true min_size size (and_left _ _ h), leb-true size max_size (and_right (leb min_size size) _ h))

pub telegram_length : (msg_id id : ℕ) (body : List ℕ) → length (telegram msg_id id body) ≡ 6 + length body
unfolding telegram head_bytes four two
telegram_length msg_id id body = omega arith

-- what the joiner reads in a telegram is what was written into it
read_id : (msg_id id : ℕ) (body : List ℕ) → length body < 4_096 → tel_id_of (telegram msg_id id body) ≡ id
unfolding telegram head_bytes four two tel_id_of
read_id msg_id id body h = omega arith

read_length : (msg_id id : ℕ) (body : List ℕ) → length body < 4_096 → tel_len_of (telegram msg_id id body) ≡ length body
unfolding telegram head_bytes four two tel_len_of
read_length msg_id id body h = omega arith

read_msg : (msg_id id : ℕ) (body : List ℕ) → msg_id ≤ max_pass → be4 (telegram msg_id id body) 0 ≡ msg_id
unfolding telegram head_bytes four two be4 be2
read_msg msg_id id body h = four_back msg_id h

read_body : (msg_id id : ℕ) (body : List ℕ) → drop 6 (telegram msg_id id body) ≡ body
unfolding telegram head_bytes four two
read_body msg_id id body = refl

-- a telegram that the box writes is well formed for it
well_formed : (size msg_id id : ℕ) (body : List ℕ) → length body ≤ size → size ≤ max_size → (eqb (length body) 0 && leb 1 id && leb id 3) ≡ false
    → malformed size (telegram msg_id id body) ≡ false
unfolding malformed
well_formed size msg_id id body fits small full =
    let t = telegram msg_id id body in
    let n = read_length msg_id id body (omega arith) in
    let i = read_id msg_id id body (omega arith) in
    let m = telegram_length msg_id id body in
    or_false (ltb (length t) 6 || not (eqb (length t) (6 + tel_len_of t)) || ltb size (tel_len_of t)) _
    (or_false (ltb (length t) 6 || not (eqb (length t) (6 + tel_len_of t))) _
    (or_false (ltb (length t) 6) _ (le-ltb (length t) 6 (omega arith)) (ap not (eq-eqb (length t) (6 + tel_len_of t) (omega arith))))
    (le-ltb size (tel_len_of t) (omega arith)))
    (rw (n, i) full)

module _ (size : ℕ) (legal : legal_size size ≡ true) (msg_id : ℕ) (writable : msg_id ≤ max_pass) where
  join_written : (s : Joining) (b : List ℕ) (id : ℕ) (body : List ℕ) → max_payload ≤ length b → length body ≤ size → id ≤ 3
      → (eqb (length body) 0 && leb 1 id && leb id 3) ≡ false → join size s b (telegram msg_id id body) ≡ join_to id s msg_id body b
  unfolding join
  join_written s b id body room fits few full =
      let t = telegram msg_id id body in
      let z = size_range size legal in
      let i = read_id msg_id id body (omega (arith, z.1)) in
      cond_false _ _ (ap not legal)
      ∙ cond_false _ _ (le-ltb (length b) max_payload room)
      ∙ cond_false _ _ (well_formed size msg_id id body fits z.1 full)
      ∙ cond_false _ _ (lt-leb 4 (tel_id_of t) (omega arith))
      ∙ (λ k. join_to (i k) s (read_msg msg_id id body writable k) (read_body msg_id id body k) b)

  -- one telegram
  join_one : (s : Joining) (b payload : List ℕ) → max_payload ≤ length b → length payload ≤ size
      → join size s b (telegram msg_id 0 payload) ≡ record { answer = complete msg_id (length payload); state = idle; buffer = sets b 0 payload }
  unfolding join_to
  join_one s b payload room fits = join_written s b 0 payload room fits (omega arith) (ap (λ (t : Bool). t && true) (and_none (eqb (length payload) 0)))

  -- the first of several
  join_first : (s : Joining) (b part : List ℕ) → max_payload ≤ length b → suc (length part) ≤ size
      → join size s b (telegram msg_id 1 (0 ∷ part)) ≡ record { answer = still_open; state = opened msg_id 1 (length part); buffer = sets b 0 part }
  unfolding join_to begins
  join_first s b part room fits = join_written s b 1 (0 ∷ part) room fits (omega arith) (ap (λ (t : Bool). t && true && true) (eqb-suc-zero (length part)))

  -- the next, and the last
  join_next : (id : ℕ) (b part : List ℕ) (c n : ℕ) → max_payload ≤ length b → suc (length part) ≤ size → 2 ≤ id → id ≤ 3 → n + length part ≤ max_payload
      → join size (opened msg_id c n) b (telegram msg_id id (c ∷ part))
      ≡ record {
        answer = cond (eqb id 3) (complete msg_id (n + length part)) still_open;
        state = cond (eqb id 3) idle (opened msg_id ((c + 1) % 256) (n + length part));
        buffer = sets b n part;
      }
  unfolding join_to continues
  join_next id b part c n room fits low high total =
      join_written (opened msg_id c n) b id (c ∷ part) room fits high (ap (λ (t : Bool). t && leb 1 id && leb id 3) (eqb-suc-zero (length part)))
      ∙ cond_false _ _ (ne_eqb id 0 (λ e. omega arith))
      ∙ cond_false _ _ (ne_eqb id 1 (λ e. omega arith))
      ∙ cond_true _ _ (and_true (eqb msg_id msg_id && eqb c c) _ (and_true (eqb msg_id msg_id) _ (eq-eqb msg_id msg_id refl) (eq-eqb c c refl)) (le-leb (n + length part) max_payload total))

-- how many telegrams a longer message has: q whole parts, and one more with 1 to L − 1 bytes
record Parts (size n : ℕ) : Type 0 where
  whole : ℕ
  count : count_of size n ≡ suc whole
  some : 1 ≤ whole
  before : whole * (size - 1) < n
  behind : n ≤ whole * (size - 1) + (size - 1)

parts : (size n : ℕ) → min_size ≤ size → size < n → Parts size n
unfolding count_of
parts size n low h = go ((n + (size - 2)) / (size - 1)) refl
  where
    go : (k : ℕ) → (n + (size - 2)) / (size - 1) ≡ k → Parts size n
    go zero e =
        let d = div-add-mod' (n + (size - 2)) (size - 1) in
        let m = mod-lt (n + (size - 2)) {m = size - 1} (omega arith) in
        absurd (omega (arith, rw e at d))
    go (suc q) e =
        let d = rw e at (div-add-mod' (n + (size - 2)) (size - 1)) in
        let m = mod-lt (n + (size - 2)) {m = size - 1} (omega arith) in
        record {
          whole = q;
          count = cond_false 1 ((n + (size - 2)) / (size - 1)) (lt-leb n size h) ∙ e;
          some = some_whole q d;
          before = omega arith;
          behind = omega arith;
        }
      where
        some_whole : (q : ℕ) → suc q * (size - 1) + (n + (size - 2)) % (size - 1) ≡ n + (size - 2) → 1 ≤ q
        some_whole zero d = let m = mod-lt (n + (size - 2)) {m = size - 1} (omega arith) in absurd (omega arith)
        some_whole (suc q) d = omega arith

module _ (size msg_id : ℕ) (payload : List ℕ) where
  -- the bytes of each part
  part_whole : (q j : ℕ) → j < q → q * (size - 1) < length payload → length (part_of size payload j) ≡ size - 1
  unfolding part_of
  part_whole q j h l = let m = mul-le-mul_right (size - 1) h in rw (length-take, length-drop) (omega arith)

  part_last : (q : ℕ) → length payload ≤ q * (size - 1) + (size - 1) → length (part_of size payload q) ≡ length payload - q * (size - 1)
  unfolding part_of
  part_last q l = rw (length-take, length-drop) (omega arith)

  pub telegram_at : (j : ℕ) → size < length payload
      → telegram_of size msg_id payload (suc j) ≡ telegram msg_id (tel_id_for (count_of size (length payload)) (suc j)) (j % 256 ∷ part_of size payload j)
  unfolding telegram_of
  telegram_at j h = let e : suc j - 1 ≡ j = omega arith in cond_false _ _ (lt-leb (length payload) size h) ∙ rw e refl

module _ (size msg_id : ℕ) (payload : List ℕ) where
  pub telegram_one : length payload ≤ size → telegram_of size msg_id payload 1 ≡ telegram msg_id 0 payload
  unfolding telegram_of
  telegram_one h = cond_true _ _ (le-leb (length payload) size h)

  pub count_one : length payload ≤ size → count_of size (length payload) ≡ 1
  unfolding count_of
  count_one h = cond_true 1 _ (le-leb (length payload) size h)

  length_whole : min_size ≤ size → size < length payload → (k : ℕ) → 1 ≤ k → k < count_of size (length payload)
      → length (telegram_of size msg_id payload k) ≡ 6 + size
  length_whole low h zero l m = absurd (omega arith)
  length_whole low h (suc j) l m =
      let p = parts size (length payload) low h in
      let e = p.count in
      let w = part_whole size msg_id payload p.whole j (omega arith) p.before in
      ap length (telegram_at size msg_id payload j h) ∙ telegram_length msg_id _ _ ∙ omega arith

  length_last : min_size ≤ size → size < length payload
      → (length (telegram_of size msg_id payload (count_of size (length payload))) ≡ 7 + (length payload - (count_of size (length payload) - 1) * (size - 1)))
      × (1 ≤ length payload - (count_of size (length payload) - 1) * (size - 1))
      × (length payload - (count_of size (length payload) - 1) * (size - 1) ≤ size - 1)
  length_last low h =
      let p = parts size (length payload) low h in
      let q = p.whole in
      let e : count_of size (length payload) ≡ suc q = p.count in
      let f : suc q - 1 ≡ q = omega arith in
      let w = part_last size msg_id payload q p.behind in
      let t : length (telegram_of size msg_id payload (suc q)) ≡ 7 + (length payload - q * (size - 1)) =
      ap length (telegram_at size msg_id payload q h) ∙ telegram_length msg_id _ _ ∙ omega arith in
      let b = p.before in
      let d = p.behind in
      rw (e, f) (t, omega arith, omega arith)

-- the number of telegrams and their lengths, for every L
pub lengths : (size msg_id : ℕ) (payload : List ℕ) → legal_size size ≡ true → Lengths size msg_id payload
lengths size msg_id payload legal =
    let low = (size_range size legal).0 in
    record {
      one = λ h. (count_one size msg_id payload h, ap length (telegram_one size msg_id payload h) ∙ telegram_length msg_id 0 payload);
      several = length_whole size msg_id payload low;
      last = length_last size msg_id payload low;
    }

-- one telegram in front of a list
join_front : (size : ℕ) (s : Joining) (b t : List ℕ) (ts : List (List ℕ)) (j : Joined) (r : JoinedAll) → join size s b t ≡ j
    → join_all size j.state j.buffer ts ≡ r
    → join_all size s b (t ∷ ts) ≡ record { answers = j.answer ∷ r.answers; state = r.state; buffer = r.buffer }
unfolding join_all
join_front size s b t ts j r e f =
    ap (λ (k : Joined). joined k (join_all size k.state k.buffer ts)) e ∙ ap (joined j) f
  where
    joined : Joined → JoinedAll → JoinedAll
    joined k a = record { answers = k.answer ∷ a.answers; state = a.state; buffer = a.buffer }

join_end : (size : ℕ) (s : Joining) (b : List ℕ) → join_all size s b [] ≡ record { answers = []; state = s; buffer = b }
unfolding join_all
join_end size s b = refl

-- a message in several telegrams
module _ (size : ℕ) (legal : legal_size size ≡ true) (msg_id : ℕ) (writable : msg_id ≤ max_pass) (payload : List ℕ) (short : length payload ≤ max_payload)
    (lent : List ℕ) (room : max_payload ≤ length lent) (h : size < length payload) where
  -- the buffer when j parts stand in it
  filled : ℕ → List ℕ
  filled j = sets lent 0 (take (j * (size - 1)) payload)

  grow : (j : ℕ) → j * (size - 1) ≤ length payload
      → sets (filled j) (j * (size - 1)) (part_of size payload j) ≡ sets lent 0 (take (j * (size - 1) + (size - 1)) payload)
  unfolding filled part_of
  grow j l =
      let n = j * (size - 1) in
      let e : 0 + length (take n payload) ≡ n = rw (length-take-le n payload l) (omega arith) in
      subst (λ (at : ℕ). sets (sets lent 0 (take n payload)) at (part_of size payload j) ≡ sets lent 0 (take n payload ++ part_of size payload j)) e
      (sets_append lent 0 (take n payload) (part_of size payload j))
      ∙ ap (sets lent 0) (sym (take-add n (size - 1) payload))

  room_filled : (j : ℕ) → max_payload ≤ length (filled j)
  unfolding filled
  room_filled j = rw length-sets room

  p : Parts size (length payload)
  p = parts size (length payload) (size_range size legal).0 h

  middle : (j : ℕ) → 1 ≤ j → j < p.whole → tel_id_for (count_of size (length payload)) (suc j) ≡ 2
  unfolding tel_id_for
  middle j l m =
      let e = p.count in
      cond_false _ _ (ne_eqb (suc j) 1 (λ f. omega arith)) ∙ cond_false _ _ (ne_eqb (suc j) (count_of size (length payload)) (λ f. omega arith))

  final : tel_id_for (count_of size (length payload)) (suc p.whole) ≡ 3
  unfolding tel_id_for
  final =
      let e = p.count in
      let o = p.some in
      cond_false _ _ (ne_eqb (suc p.whole) 1 (λ f. omega arith)) ∙ cond_true _ _ (eq-eqb (suc p.whole) (count_of size (length payload)) (sym e))

  step_first : (s : Joining) → join size s lent (telegram_of size msg_id payload 1) ≡ record { answer = still_open; state = opened msg_id (1 % 256) (1 * (size - 1)); buffer = filled 1 }
  unfolding filled tel_id_for part_of
  step_first s =
      let n = part_whole size msg_id payload p.whole 0 p.some p.before in
      let z : 0 * (size - 1) ≡ 0 = omega arith in
      let o : 1 * (size - 1) ≡ size - 1 = omega arith in
      let c : length (part_of size payload 0) ≡ 1 * (size - 1) = omega arith in
      let b : part_of size payload 0 ≡ take (1 * (size - 1)) payload = rw (z, o) refl in
      let low = (size_range size legal).0 in
      ap (join size s lent) (telegram_at size msg_id payload 0 h)
      ∙ join_first size legal msg_id writable s lent (part_of size payload 0) room (omega arith)
      ∙ (λ i. record { answer = still_open; state = opened msg_id 1 (c i); buffer = sets lent 0 (b i) })

  step_next : (j : ℕ) → 1 ≤ j → j < p.whole
      → join size (opened msg_id (j % 256) (j * (size - 1))) (filled j) (telegram_of size msg_id payload (suc j))
      ≡ record { answer = still_open; state = opened msg_id (suc j % 256) (suc j * (size - 1)); buffer = filled (suc j) }
  unfolding filled
  step_next j l m =
      let part = part_of size payload j in
      let n = part_whole size msg_id payload p.whole j m p.before in
      let u = mul-le-mul_right (size - 1) m in
      let w = p.before in
      let low = (size_range size legal).0 in
      let c : (j % 256 + 1) % 256 ≡ suc j % 256 = omega arith in
      let d : j * (size - 1) + length part ≡ suc j * (size - 1) = omega arith in
      let e : j * (size - 1) + (size - 1) ≡ suc j * (size - 1) = omega arith in
      let f : sets (filled j) (j * (size - 1)) part ≡ sets lent 0 (take (suc j * (size - 1)) payload) = grow j (omega arith) ∙ ap (λ (k : ℕ). sets lent 0 (take k payload)) e in
      ap (join size (opened msg_id (j % 256) (j * (size - 1))) (filled j)) (telegram_at size msg_id payload j h ∙ ap (λ (id : ℕ). telegram msg_id id (j % 256 ∷ part)) (middle j l m))
      ∙ join_next size legal msg_id writable 2 (filled j) part (j % 256) (j * (size - 1)) (room_filled j) (omega arith) (omega arith) (omega arith) (omega arith)
      ∙ (λ i. record { answer = still_open; state = opened msg_id (c i) (d i); buffer = f i })

  step_last : join size (opened msg_id (p.whole % 256) (p.whole * (size - 1))) (filled p.whole) (telegram_of size msg_id payload (suc p.whole))
      ≡ record { answer = complete msg_id (length payload); state = idle; buffer = sets lent 0 payload }
  unfolding filled
  step_last =
      let q = p.whole in
      let part = part_of size payload q in
      let n = part_last size msg_id payload q p.behind in
      let w = p.before in
      let v = p.behind in
      let low = (size_range size legal).0 in
      let d : q * (size - 1) + length part ≡ length payload = omega arith in
      let f : sets (filled q) (q * (size - 1)) part ≡ sets lent 0 payload = grow q (omega arith) ∙ ap (sets lent 0) (take_all (q * (size - 1) + (size - 1)) payload v) in
      ap (join size (opened msg_id (q % 256) (q * (size - 1))) (filled q)) (telegram_at size msg_id payload q h ∙ ap (λ (id : ℕ). telegram msg_id id (q % 256 ∷ part)) final)
      ∙ join_next size legal msg_id writable 3 (filled q) part (q % 256) (q * (size - 1)) (room_filled q) (omega arith) (omega arith) (omega arith) (omega arith)
      ∙ (λ i. record { answer = complete msg_id (d i); state = idle; buffer = f i })

  -- from the first part on: m more, and the last
  join_rest : (m j : ℕ) → 1 ≤ j → j + m ≡ p.whole
      → join_all size (opened msg_id (j % 256) (j * (size - 1))) (filled j) (map (telegram_of size msg_id payload) (up_from (suc j) (suc m)))
      ≡ record { answers = replicate m still_open ++ complete msg_id (length payload) ∷ []; state = idle; buffer = sets lent 0 payload }
  unfolding up_from
  join_rest zero j l e =
      let z : p.whole ≡ j = omega arith in
      join_front size _ _ _ [] _ _ (subst (λ (k : ℕ). join size (opened msg_id (k % 256) (k * (size - 1))) (filled k) (telegram_of size msg_id payload (suc k)) ≡ record { answer = complete msg_id (length payload); state = idle; buffer = sets lent 0 payload }) z step_last) (join_end size _ _)
  join_rest (suc m) j l e = join_front size _ _ _ _ _ _ (step_next j l (omega arith)) (join_rest m (suc j) (omega arith) (omega arith))

  join_several : (s : Joining) → join_all size s lent (map (telegram_of size msg_id payload) (up_from 1 (suc p.whole)))
      ≡ record { answers = replicate p.whole still_open ++ complete msg_id (length payload) ∷ []; state = idle; buffer = sets lent 0 payload }
  unfolding up_from
  join_several s = go p.whole refl p.some
    where
      go : (q : ℕ) → p.whole ≡ q → 1 ≤ q → join_all size s lent (map (telegram_of size msg_id payload) (up_from 1 (suc q)))
          ≡ record { answers = replicate q still_open ++ complete msg_id (length payload) ∷ []; state = idle; buffer = sets lent 0 payload }
      go zero e l = absurd (omega arith)
      go (suc m) e l = join_front size _ _ _ _ _ _ (step_first s) (join_rest m 1 (omega arith) (omega arith))

-- A message of up to 65,535 bytes, cut and joined, comes back the same.
pub round_trip : (size msg_id : ℕ) (payload : List ℕ) (s : Joining) (lent : List ℕ) → legal_size size ≡ true → msg_id ≤ max_pass
    → length payload ≤ max_payload → max_payload ≤ length lent
    → RoundTrip size msg_id payload s lent
unfolding telegrams up_from
round_trip size msg_id payload s lent legal writable short room = go (decide (leb (length payload) size))
  where
    from : (q : ℕ) → count_of size (length payload) ≡ suc q
        → join_all size s lent (map (telegram_of size msg_id payload) (up_from 1 (suc q))) ≡ record { answers = replicate q still_open ++ complete msg_id (length payload) ∷ []; state = idle; buffer = sets lent 0 payload }
        → RoundTrip size msg_id payload s lent
    from q e h =
        let f : suc q - 1 ≡ q = omega arith in
        let g : join_all size s lent (telegrams size msg_id payload) ≡ record { answers = replicate (count_of size (length payload) - 1) still_open ++ complete msg_id (length payload) ∷ []; state = idle; buffer = sets lent 0 payload } = rw (e, f) h in
        record { answers = ap (λ (j : JoinedAll). j.answers) g; state = ap (λ (j : JoinedAll). j.state) g; buffer = ap (λ (j : JoinedAll). j.buffer) g ∙ sets_start lent payload (omega arith) }

    go : (leb (length payload) size ≡ true) ⊎ (leb (length payload) size ≡ false) → RoundTrip size msg_id payload s lent
    go (inl e) = from 0 (count_one size msg_id payload (leb-true _ _ e))
        (join_front size s lent _ [] _ _
        (ap (join size s lent) (telegram_one size msg_id payload (leb-true _ _ e)) ∙ join_one size legal msg_id writable s lent payload room (leb-true _ _ e))
        (join_end size idle (sets lent 0 payload)))
    go (inr e) =
        let h = leb-false (length payload) size e in
        from _ (p size legal msg_id writable payload short lent room h).count (join_several size legal msg_id writable payload short lent room h s)

pub cuts : (size msg_id : ℕ) (payload : List ℕ) → legal_size size ≡ true → length payload ≤ max_payload → Cuts size msg_id payload
unfolding cut count
cuts size msg_id payload legal short =
    record {
      counted = cond_false _ _ (ap not legal) ∙ cond_false _ _ (le-ltb max_payload (length payload) short);
      cuts = λ k room l m fits.
          cond_false _ _ (ap not legal)
          ∙ cond_false _ _ (le-ltb max_payload (length payload) short)
          ∙ cond_false _ _ (or_false (eqb k 0) _ (ne_eqb k 0 (λ e. omega arith)) (le-ltb (count_of size (length payload)) k m))
          ∙ cond_false _ _ (le-ltb room (length (telegram_of size msg_id payload k)) fits);
    }
