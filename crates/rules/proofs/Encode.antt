-- Decoding the bytes of an event gives the event.
use Prim.Native.Nat.{ℕ, ◌+◌, ◌*◌, ◌/◌, ◌%◌, ◌<◌, ◌≤◌}
use mathlib.Core.Path.{◌≡◌, refl, sym, ◌∙◌, ap, subst}
use mathlib.Core.Bool.{Bool, true, false, not, ◌&&◌}
use mathlib.Core.List.{List, [], ◌∷◌}
use mathlib.Core.Option.{none, some}
use native.Mathlib.Omega.{arith}
use borrow.Author.Tests.{le-ltb, le-leb, lt-leb, eq-eqb}
use lib.Dec.{eqb, leb, ltb}
use lib.ListN.{length}
use Rattle.laws.specs.Lists.{any, collect}
use Rattle.laws.specs.Bools.{and_true, or_false, cond_true}
use Rattle.laws.specs.Alls.{All, all_map, none_any}
use Rattle.rules.specs.House.{max_nodes, max_pairs, max_pass}
use Rattle.rules.specs.Picture.{Pair}
use Rattle.rules.specs.Event.{Event, START, NCE, SHUTDOWN, ANSWER, NONE, DELAY, be2, be4, two, four, read_pairs, pair_bytes, bad_block, good_nodes, check, decode_plain, decode_answer, decode, header, encode_event}
use Rattle.rules.specs.Claims.{Writable, Decodes}

pub two_back : (n : ℕ) → n < 65_536 → n / 256 % 256 * 256 + n % 256 ≡ n
two_back n h = omega arith

pub four_back : (n : ℕ) → n ≤ max_pass → (n / 65_536 / 256 % 256 * 256 + n / 65_536 % 256) * 65_536 + (n / 256 % 256 * 256 + n % 256) ≡ n
four_back n h = omega arith

pub read_back : (ps : List Pair) → read_pairs (collect pair_bytes ps) ≡ ps
unfolding read_pairs collect pair_bytes
read_back [] = refl
read_back (a ∷ ps) = ap (λ (l : List Pair). a ∷ l) (read_back ps)

pub pairs_length : (ps : List Pair) → length (collect pair_bytes ps) ≡ 2 * length ps
unfolding collect pair_bytes
pairs_length [] = refl
pairs_length (a ∷ ps) = let e = pairs_length ps in omega arith

-- an ANSWER with its eleven bytes in front is read as one
decode_answer_lem : (p₃ p₂ p₁ p₀ x a₁ a₀ n : ℕ) (rest : List ℕ) (b : List ℕ) → b ≡ 0x4D ∷ 0x45 ∷ 4 ∷ p₃ ∷ p₂ ∷ p₁ ∷ p₀ ∷ x ∷ a₁ ∷ a₀ ∷ n ∷ rest
    → n ≤ max_pairs → length rest ≡ 2 * n → any bad_block (read_pairs rest) ≡ false
    → decode b ≡ some (ANSWER ((p₃ * 256 + p₂) * 65_536 + (p₁ * 256 + p₀)) x (a₁ * 256 + a₀) (read_pairs rest))
unfolding decode decode_answer check be4 be2
decode_answer_lem p₃ p₂ p₁ p₀ x a₁ a₀ n rest b e few fits good =
    let l : List ℕ = 0x4D ∷ 0x45 ∷ 4 ∷ p₃ ∷ p₂ ∷ p₁ ∷ p₀ ∷ x ∷ a₁ ∷ a₀ ∷ n ∷ rest in
    subst (λ (l : List ℕ). decode l ≡ some (ANSWER ((p₃ * 256 + p₂) * 65_536 + (p₁ * 256 + p₀)) x (a₁ * 256 + a₀) (read_pairs rest))) (sym e)
    (cond_true _ none (and_true (leb 8 (length l) && true) true (and_true (leb 8 (length l)) true (le-leb 8 (length l) (omega arith)) refl) refl)
    ∙ ap (λ (t : Bool). check t (ANSWER ((p₃ * 256 + p₂) * 65_536 + (p₁ * 256 + p₀)) x (a₁ * 256 + a₀) (read_pairs rest)))
    (and_true (leb n max_pairs && eqb (length l) (11 + 2 * n)) (not (any bad_block (read_pairs rest)))
    (and_true (leb n max_pairs) (eqb (length l) (11 + 2 * n)) (le-leb n max_pairs few) (eq-eqb (length l) (11 + 2 * n) (omega arith)))
    (ap not good)))

nodes_good : (n : ℕ) → 1 ≤ n → n ≤ max_nodes → good_nodes n ≡ true
unfolding good_nodes
nodes_good n l h = and_true (leb 1 n) (leb n max_nodes) (le-leb 1 n l) (le-leb n max_nodes h)

blocks_not_bad : {ps : List Pair} → All (λ (a : Pair). (0x02 ≤ a.block) × (a.block ≤ 0xFE)) ps → any bad_block ps ≡ false
unfolding bad_block
blocks_not_bad h = none_any bad_block (all_map (λ a e. or_false (ltb a.block 0x02) _ (le-ltb a.block 0x02 e.0) (lt-leb 0xFF a.block (omega (arith, e.1)))) h)

-- decoding the bytes of an event gives the event
pub decode_encode : (e : Event) → Writable e → decode (encode_event e) ≡ some e
unfolding decode encode_event header four two be4 be2 decode_plain check
decode_encode (START n) w = ap (λ (t : Bool). check t (START n)) (nodes_good n w.0 w.1)
decode_encode (NCE n) w = ap (λ (t : Bool). check t (NCE n)) (nodes_good n w.0 w.1)
decode_encode SHUTDOWN w = refl
decode_encode (ANSWER c x a ps) w =
    decode_answer_lem (c / 65_536 / 256 % 256) (c / 65_536 % 256) (c / 256 % 256) (c % 256) x (a / 256 % 256) (a % 256) (length ps) (collect pair_bytes ps) _ refl
    w.2 (pairs_length ps) (ap (any bad_block) (read_back ps) ∙ blocks_not_bad w.3)
    ∙ (λ i. some (ANSWER (four_back c w.0 i) x (two_back a w.1 i) (read_back ps i)))
decode_encode (NONE c x) w = λ i. some (NONE (four_back c w i) x)
decode_encode (DELAY c) w = λ i. some (DELAY (four_back c w i))

pub decodes : (e : Event) → Decodes e
decodes e = record { decodes = decode_encode e }
