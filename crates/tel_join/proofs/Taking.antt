-- Taking: what the code hands back for a telegram by its TelID, what the refusals keep, and what a well-formed telegram has.
use Prim.Native.Nat.{ℕ, ◌+◌, ◌-◌, ◌≤◌, ◌<◌}
use mathlib.Core.Path.{◌≡◌, refl, sym, ap, ◌∙◌}
use mathlib.Core.Bool.{Bool, true, false, not, ◌&&◌, ◌||◌}
use mathlib.Core.List.{List}
use mathlib.Core.Logic.{◌⊎◌, inl, inr}
use native.Mathlib.Omega.{arith}
use native.Mathlib.Nat.{pos_of_ne-zero}
use borrow.Author.Tests.{le-leb, eqb-true, eqb-false, ltb-false}
use lib.Dec.{eqb, ltb, leb}
use lib.ListN.{length, get_or, take, drop, length-drop}
use lib.Seq.{sets, take_all}
use Rattle.std.specs.Prelude.{Option, Some, Result, Ok, Err}
use Rattle.laws.specs.Bools.{clash, decide, not_false, or_left, or_right, and_true, cond_false}
use Rattle.rules.specs.Event.{be4}
use Rattle.rules.specs.Telegram.{join_to, malformed, tel_len_of, tel_id_of}
use Rattle.rules.specs.Telegram as rules
use Rattle.numbers.specs.declared.Refusal.{Refusal}
use Rattle.numbers.specs.Numbers.{number_of}
use Rattle.tel_head.specs.declared.TelId.{TelId}
use Rattle.tel_head.specs.declared.TelId.TheVariants as ids
use Rattle.tel_head.specs.Kinds.{tel_id_number}
use Rattle.tel_join_state.specs.declared.Message.{Message}
use Rattle.tel_join_state.specs.declared.Reassembly.{Reassembly}
use Rattle.tel_join_state.specs.Answers.{joining_of, state_of, handed_back, Joins}
use Rattle.tel_join_state.proofs.Joining.{along}

-- a TelID that is read is below 4
pub small : (id : TelId) → tel_id_number id < 4
small ids.Single = omega arith
small ids.First = omega arith
small ids.Next = omega arith
small ids.Final = omega arith

-- the bytes behind the first k
rest : (k : ℕ) (t : List ℕ) → take (length t - k) (drop k t) ≡ drop k t
rest k t = take_all (length t - k) (drop k t) (omega (arith, length-drop k t))

-- a telegram by its TelID
module _ (id : ℕ) (came : Reassembly) (t b : List ℕ) {m : ℕ} (e : m ≡ be4 t 0) where
  body : List ℕ
  body = take (length t - 6) (drop 6 t)

  pub takes_single : {st : Reassembly} {after : List ℕ} → id ≡ 0 → (joining_of st ≡ rules.idle) × (st ≡ state_of rules.idle)
      → after ≡ sets b 0 (take (length t - 6) (drop 6 t))
      → Joins came (join_to id (joining_of came) (be4 t 0) (drop 6 t) b) (Ok (Some (record { msg_id = m; length = length (take (length t - 6) (drop 6 t)) }))) st after
  unfolding join_to handed_back
  takes_single i f g =
      along (ap (λ (z : ℕ). join_to z (joining_of came) (be4 t 0) (drop 6 t) b) i)
      (record { answered = (λ j. rules.complete (e j) (length (rest 6 t j))); next = f.0; numbers = f.1; buffer = g ∙ ap (sets b 0) (rest 6 t) })

  -- one of several, by what the rules do with its counter byte and its part
  pub takes_part : {n : ℕ} {a : Result (Option Message) Refusal} {st : Reassembly} {after : List ℕ} (f : ℕ → ℕ → List ℕ → rules.Joined) → id ≡ n
      → join_to n (joining_of came) (be4 t 0) (drop 6 t) b ≡ f (be4 t 0) (get_or (drop 6 t) 0 0) (drop 1 (drop 6 t))
      → Joins came (f m (get_or (take (length t - 6) (drop 6 t)) 0 0) (take (length (take (length t - 6) (drop 6 t)) - 1) (drop 1 (take (length t - 6) (drop 6 t))))) a st after
      → Joins came (join_to id (joining_of came) (be4 t 0) (drop 6 t) b) a st after
  unfolding body
  takes_part f i g h =
      along (ap (λ (z : ℕ). join_to z (joining_of came) (be4 t 0) (drop 6 t) b) i ∙ g
      ∙ (λ j. f (sym e j) (get_or (sym (rest 6 t) j) 0 0) (drop 1 (sym (rest 6 t) j)))
      ∙ ap (f m (get_or body 0 0)) (sym (rest 1 body))) h

-- 10, 13, 14 and 15
pub keeps : {j : rules.Joined} {r : Refusal} (s : Reassembly) (b : List ℕ) → eqb (number_of r) 16 ≡ false → j ≡ rules.unchanged (number_of r) (joining_of s) b → Joins s j (Err r) s b
unfolding rules.unchanged handed_back
keeps s b other e = along e (record { answered = refl; next = refl; numbers = sym (cond_false (state_of (joining_of s)) s other); buffer = refl })

-- a telegram that is not malformed
module _ (l : ℕ) (t : List ℕ) (h : malformed l t ≡ false) where
  short : Bool
  short = ltb (length t) 6

  wrong : Bool
  wrong = not (eqb (length t) (6 + tel_len_of t))

  pub has_head : 6 ≤ length t
  unfolding malformed short wrong
  has_head = ltb-false (length t) 6 (or_left short wrong (or_left (short || wrong) (ltb l (tel_len_of t)) (or_left (short || wrong || ltb l (tel_len_of t)) _ h)))

  long : length t ≡ 6 + tel_len_of t
  unfolding malformed short wrong
  long = eqb-true (length t) (6 + tel_len_of t) (not_false _ (or_right short wrong (or_left (short || wrong) (ltb l (tel_len_of t)) (or_left (short || wrong || ltb l (tel_len_of t)) _ h))))

  bounded : tel_len_of t ≤ l
  unfolding malformed short wrong
  bounded = ltb-false l (tel_len_of t) (or_right (short || wrong) (ltb l (tel_len_of t)) (or_left (short || wrong || ltb l (tel_len_of t)) _ h))

  pub at_most : length t ≤ 6 + l
  at_most = omega (arith, long, bounded)

  pub has_counter : tel_id_of t ≤ 3 → (tel_id_of t ≡ 0 → ⊥) → 7 ≤ length t
  unfolding malformed short wrong
  has_counter i j = go (decide (eqb (tel_len_of t) 0))
    where
      go : (eqb (tel_len_of t) 0 ≡ true) ⊎ (eqb (tel_len_of t) 0 ≡ false) → 7 ≤ length t
      go (inl e) =
          clash (and_true (eqb (tel_len_of t) 0 && leb 1 (tel_id_of t)) (leb (tel_id_of t) 3) (and_true (eqb (tel_len_of t) 0) (leb 1 (tel_id_of t)) e (le-leb 1 (tel_id_of t) (pos_of_ne-zero j))) (le-leb (tel_id_of t) 3 i))
          (or_right (short || wrong || ltb l (tel_len_of t)) (eqb (tel_len_of t) 0 && leb 1 (tel_id_of t) && leb (tel_id_of t) 3) h)
      go (inr e) = omega (arith, long, pos_of_ne-zero (eqb-false (tel_len_of t) 0 e))
