-- Decoding: an event that is decoded is well formed, and the bytes that decode to it are its bytes.
use Prim.Native.Nat.{ℕ, zero, suc, ◌+◌, ◌*◌, ◌/◌, ◌%◌, ◌<◌, ◌≤◌}
use mathlib.Core.Path.{◌≡◌, refl, sym, ◌∙◌, ap, subst}
use mathlib.Core.Bool.{Bool, true, false, ◌&&◌}
use mathlib.Core.List.{List, [], ◌∷◌, ◌++◌, map}
use mathlib.Core.Option.{Option, none, some}
use native.Mathlib.Omega.{arith}
use borrow.Author.Tests.{ltb-false, leb-true, leb-false, eqb-true}
use lib.Dec.{eqb, leb, ltb}
use lib.ListN.{length, get_or, drop, length-drop, drop_of_length-le}
use lib.Seq.{drop-cons}
use Rattle.laws.specs.Lists.{any, collect, up_from}
use Rattle.laws.specs.Bools.{and_left, and_right, or_left, or_right, not_true, on_cond}
use Rattle.laws.specs.Alls.{All, all_everywhere, all_map, any_none}
use Rattle.rules.specs.House.{max_nodes, max_pairs, max_pass}
use Rattle.rules.specs.Picture.{Pair}
use Rattle.rules.specs.Event.{Event, START, NCE, SHUTDOWN, DELAY, be2, be4, two, four, read_pairs, pair_bytes, bad_block, good_nodes, check, decode_plain, decode_answer, decode, header, encode_event}
use Rattle.rules.specs.Claims.{Writable, DecodesOnly}
use Rattle.rules.proofs.Sound.{Formed}

-- numbers of two and of four bytes, written again
pub two_again : (a b : ℕ) → a < 256 → b < 256 → two (a * 256 + b) ≡ a ∷ b ∷ []
unfolding two
two_again a b l m =
    let e : (a * 256 + b) / 256 % 256 ≡ a = omega arith in
    let f : (a * 256 + b) % 256 ≡ b = omega arith in
    λ i. e i ∷ f i ∷ []

pub four_again : (a b c d : ℕ) → a < 256 → b < 256 → c < 256 → d < 256 → four ((a * 256 + b) * 65_536 + (c * 256 + d)) ≡ a ∷ b ∷ c ∷ d ∷ []
unfolding four two
four_again a b c d k l m n =
    let w = (a * 256 + b) * 65_536 + (c * 256 + d) in
    let e : w / 65_536 ≡ a * 256 + b = omega arith in
    let f : w / 256 % 256 ≡ c = omega arith in
    let g : w % 256 ≡ d = omega arith in
    (λ i. two (e i) ++ f i ∷ g i ∷ []) ∙ ap (λ (l : List ℕ). l ++ c ∷ d ∷ []) (two_again a b k l)

-- pairs read from an even number of bytes, written again
pub pairs_again : (k : ℕ) (b : List ℕ) → length b ≡ 2 * k → (collect pair_bytes (read_pairs b) ≡ b) × (length (read_pairs b) ≡ k)
unfolding read_pairs pair_bytes collect
pairs_again zero [] h = (refl, refl)
pairs_again zero (x ∷ []) h = absurd (omega arith)
pairs_again zero (x ∷ y ∷ b) h = absurd (omega arith)
pairs_again (suc k) [] h = absurd (omega arith)
pairs_again (suc k) (x ∷ []) h = absurd (omega arith)
pairs_again (suc k) (x ∷ y ∷ b) h =
    let r = pairs_again k b (omega arith) in
    (ap (λ (l : List ℕ). x ∷ y ∷ l) r.0, ap suc r.1)

-- a list from place i on is its next n bytes and what stands behind them
pub spelled : (b : List ℕ) (i n : ℕ) → i + n ≤ length b → drop i b ≡ map (λ (k : ℕ). get_or b k 0) (up_from i n) ++ drop (i + n) b
unfolding up_from
spelled b i zero h = let e : i + 0 ≡ i = omega arith in rw e refl
spelled b i (suc n) h =
    let e : suc i + n ≡ i + suc n = omega arith in
    drop-cons b i 0 (omega arith) ∙ ap (λ (l : List ℕ). get_or b i 0 ∷ l) (rw e at (spelled b (suc i) n (omega arith)))

-- what holds of the event that is decoded, if there is one
abbrev Granted : (Event → Type 0) → Option Event → Type 0
Granted P none = Unit {0}
Granted P (some e) = P e

granted_check : (P : Event → Type 0) (b : Bool) (e : Event) → (b ≡ true → P e) → Granted P (check b e)
unfolding check
granted_check P true e f = f refl
granted_check P false e f = tt

granted_map : (P Q : Event → Type 0) → ((e : Event) → P e → Q e) → (o : Option Event) → Granted P o → Granted Q o
granted_map P Q f none h = tt
granted_map P Q f (some e) h = f e h

nodes_formed : (z : Bool) (n : ℕ) → z && good_nodes n ≡ true → (1 ≤ n) × (n ≤ max_nodes)
unfolding good_nodes
nodes_formed z n h =
    let g = and_right z (leb 1 n && leb n max_nodes) h in
    (leb-true 1 n (and_left (leb 1 n) (leb n max_nodes) g), leb-true n max_nodes (and_right (leb 1 n) (leb n max_nodes) g))

blocks_good : (ps : List Pair) → any bad_block ps ≡ false → All (λ (a : Pair). (0x02 ≤ a.block) × (a.block ≤ 0xFE)) ps
unfolding bad_block
blocks_good ps h = all_map (λ a e. (ltb-false a.block 0x02 (or_left _ _ e), below a (or_right (ltb a.block 0x02) _ e))) (any_none bad_block ps h)
  where
    below : (a : Pair) → leb 0xFF a.block ≡ false → a.block ≤ 0xFE
    below a e = omega (arith, leb-false 0xFF a.block e)

-- the event of these bytes is well formed; it can be written and has them, if they are bytes
abbrev pub Bytes : List ℕ → Type 0
Bytes b = All (λ (x : ℕ). x < 256) b

abbrev Reads : List ℕ → Event → Type 0
Reads b e = Formed e × (Bytes b → (b ≡ encode_event e) × Writable e)

-- the same of a header, if its pass is one
abbrev Heads : (kind pass x : ℕ) → Event → Type 0
Heads kind pass x e = Formed e × (pass ≤ max_pass → (header kind pass x ≡ encode_event e) × Writable e)

plain_reads : (kind pass x : ℕ) → Granted (Heads kind pass x) (decode_plain kind pass x)
unfolding decode_plain encode_event
plain_reads kind pass x =
    on_cond G (eqb kind 1) _ _
    (λ k. granted_check P _ (START x) (λ t. (nodes_formed (eqb pass 0) x t, λ h. (named 1 0 k (no_pass (good_nodes x) t), nodes_formed (eqb pass 0) x t))))
    (λ _. on_cond G (eqb kind 2) _ _
    (λ k. granted_check P _ (NCE x) (λ t. (nodes_formed (eqb pass 0) x t, λ h. (named 2 0 k (no_pass (good_nodes x) t), nodes_formed (eqb pass 0) x t))))
    (λ _. on_cond G (eqb kind 3) _ _
    (λ k. granted_check P _ SHUTDOWN (λ t. (tt, λ h. (named 3 0 k (no_pass (eqb x 0) t) ∙ ap (header 3 0) (eqb-true x 0 (and_right (eqb pass 0) _ t)), tt))))
    (λ _. on_cond G (eqb kind 5) _ _ (λ k. (tt, λ h. (named 5 pass k refl, h)))
    (λ _. on_cond G (eqb kind 6) _ _
    (λ k. granted_check P _ (DELAY pass) (λ t. (tt, λ h. (named 6 pass k refl ∙ ap (header 6 pass) (eqb-true x 0 t), h)))) (λ _. tt)))))
  where
    P : Event → Type 0
    P = Heads kind pass x

    G : Option Event → Type 0
    G = Granted P

    named : (k c : ℕ) → eqb kind k ≡ true → pass ≡ c → header kind pass x ≡ header k c x
    named k c e f = λ i. header (eqb-true kind k e i) (f i) x

    no_pass : (t : Bool) → eqb pass 0 && t ≡ true → pass ≡ 0
    no_pass t e = eqb-true pass 0 (and_left (eqb pass 0) t e)

module _ (b : List ℕ) where
  pub byte : Bytes b → (i : ℕ) → get_or b i 0 < 256
  byte h i = all_everywhere {P = λ (x : ℕ). x < 256} i 0 (omega arith) h

  pub pass_small : Bytes b → be4 b 3 ≤ max_pass
  unfolding be4 be2
  pass_small h = omega (arith, byte h 3, byte h 4, byte h 5, byte h 6)

  pub address_small : Bytes b → be2 b 8 < 65_536
  unfolding be2
  address_small h = omega (arith, byte h 8, byte h 9)

  module _ (l : 8 ≤ length b) (m : get_or b 0 0 ≡ 0x4D) (n : get_or b 1 0 ≡ 0x45) where
    -- eight bytes with the mark are a header
    header_again : Bytes b → b ≡ header (get_or b 2 0) (be4 b 3) (get_or b 7 0) ++ drop 8 b
    unfolding header four two be4 be2 up_from
    header_again h =
        let e = four_again (get_or b 3 0) (get_or b 4 0) (get_or b 5 0) (get_or b 6 0) (byte h 3) (byte h 4) (byte h 5) (byte h 6) in
        spelled b 0 8 l ∙ (λ i. m i ∷ n i ∷ get_or b 2 0 ∷ sym e i ++ get_or b 7 0 ∷ drop 8 b)

    -- address, count and pairs stand behind that of an ANSWER
    body_again : Bytes b → (ps : List Pair) → 11 ≤ length b → collect pair_bytes ps ≡ drop 11 b → length ps ≡ get_or b 10 0
        → drop 8 b ≡ two (be2 b 8) ++ length ps ∷ collect pair_bytes ps
    unfolding be2 up_from
    body_again h ps r e f = spelled b 8 3 r ∙ (λ i. sym (two_again (get_or b 8 0) (get_or b 9 0) (byte h 8) (byte h 9)) i ++ sym f i ∷ sym e i)

    answer_reads : get_or b 2 0 ≡ 4 → Granted (Reads b) (decode_answer b)
    unfolding decode_answer encode_event header four two
    answer_reads k =
        granted_check (Reads b) _ _
        (λ t.
        let c = get_or b 10 0 in
        let ps = read_pairs (drop 11 b) in
        let s = and_left (leb c max_pairs && eqb (length b) (11 + 2 * c)) _ t in
        let few : c ≤ max_pairs = leb-true c max_pairs (and_left (leb c max_pairs) _ s) in
        let fits : length b ≡ 11 + 2 * c = eqb-true (length b) (11 + 2 * c) (and_right (leb c max_pairs) _ s) in
        let good = blocks_good ps (not_true (any bad_block ps) (and_right (leb c max_pairs && eqb (length b) (11 + 2 * c)) _ t)) in
        let r = pairs_again c (drop 11 b) (rw length-drop (omega arith)) in
        let short : length ps ≤ max_pairs = omega (arith, r.1) in (
          short,
          λ h. (
            header_again h ∙ (λ i. header (k i) (be4 b 3) (get_or b 7 0) ++ body_again h ps (omega arith) r.0 r.1 i),
            (pass_small h, address_small h, short, good),
          ),
        ))

    header_reads : length b ≡ 8 → Granted (Reads b) (decode_plain (get_or b 2 0) (be4 b 3) (get_or b 7 0))
    unfolding header four two
    header_reads k =
        let w = header (get_or b 2 0) (be4 b 3) (get_or b 7 0) in
        let short : length b ≤ 8 = omega arith in
        granted_map (Heads (get_or b 2 0) (be4 b 3) (get_or b 7 0)) (Reads b)
        (λ e g. (
          g.0,
          λ h.
              let r = g.1 (pass_small h) in
              (header_again h ∙ ap (λ (l : List ℕ). w ++ l) (drop_of_length-le b short) ∙ r.0, r.1),
        ))
        (decode_plain (get_or b 2 0) (be4 b 3) (get_or b 7 0))
        (plain_reads (get_or b 2 0) (be4 b 3) (get_or b 7 0))

  reads : Granted (Reads b) (decode b)
  unfolding decode
  reads =
      on_cond (Granted (Reads b)) (leb 8 (length b) && eqb (get_or b 0 0) 0x4D && eqb (get_or b 1 0) 0x45) _ none
      (λ h.
      let t = and_left (leb 8 (length b) && eqb (get_or b 0 0) 0x4D) _ h in
      let l = leb-true 8 (length b) (and_left (leb 8 (length b)) _ t) in
      let m = eqb-true (get_or b 0 0) 0x4D (and_right (leb 8 (length b)) _ t) in
      let n = eqb-true (get_or b 1 0) 0x45 (and_right (leb 8 (length b) && eqb (get_or b 0 0) 0x4D) _ h) in
      on_cond (Granted (Reads b)) (eqb (get_or b 2 0) 4) (decode_answer b) _
      (λ k. answer_reads l m n (eqb-true (get_or b 2 0) 4 k))
      (λ _. on_cond (Granted (Reads b)) (eqb (length b) 8) _ none (λ k. header_reads l m n (eqb-true (length b) 8 k)) (λ _. tt)))
      (λ _. tt)

-- a decoded event is well formed
pub formed : (b : List ℕ) (e : Event) → decode b ≡ some e → Formed e
formed b e h = (subst (Granted (Reads b)) h (reads b)).0

-- what decodes to an event is the bytes of that event
pub decodes_only : (b : List ℕ) → DecodesOnly b
decodes_only b = record { only = λ bytes e h. (subst (Granted (Reads b)) h (reads b)).1 bytes }
