-- Joining: what the code hands back, from the rules' outcome.
use Rattle.std.proofs.Common.{◌≡◌, ℕ, ◌+◌, ◌%◌, ◌≤◌, Bool, true, false, cond, List, length, Option, Result, Ok, Err, refl, sym, subst, ap, ◌∙◌}
use Rattle.std.specs.Bool.{then_some}
use Rattle.std.proofs.lemmas.List.Edits.{sets}
use borrow.Author.Tests.{le-leb, eq-eqb, ne_eqb}
use Rattle.laws.specs.Bools.{and_true, cond_true, cond_false}
use Rattle.rules.specs.House.{max_payload}
use Rattle.rules.specs.Telegram.{continues}
use Rattle.rules.specs.Telegram as rules
use Rattle.numbers.specs.declared.Refusal.{Refusal}
use Rattle.numbers.specs.declared.Refusal.TheVariants as refusals
use Rattle.tel_join_state.specs.declared.Message.{Message}
use Rattle.tel_join_state.specs.declared.Reassembly.{Reassembly}
use Rattle.tel_join_state.specs.Answers.{join_answer, joining_of, state_of, handed_back, Joins}

-- the same outcome by another name
pub along : {s t : Reassembly} {j k : rules.Joined} {a : Result (Option Message) Refusal} {after : List ℕ} → j ≡ k → Joins s k a t after → Joins s j a t after
along {s} {t} {j} {k} {a} {after} e h = subst (λ (x : rules.Joined). Joins s x a t after) (sym e) h

-- 16
pub drops : {s t : Reassembly} {j : rules.Joined} {r : Refusal} (b : List ℕ) → j ≡ rules.dropped b
    → (r ≡ refusals.OutOfSequence) × (joining_of t ≡ rules.idle) × (t ≡ state_of rules.idle) → Joins s j (Err r) t b
unfolding rules.dropped handed_back
drops b e f = along e (record { answered = ap (λ (x : Refusal). join_answer (Err x)) f.0; next = f.1; numbers = f.2; buffer = refl })

-- a part that the open message waits for
module _ (s : Reassembly) (m c : ℕ) (part b : List ℕ) (some : s.open ≡ 0 → ⊥) (same : m ≡ s.msg_id) (next : c ≡ s.counter)
    (fits : s.length + length part ≤ max_payload) where
  goes_on : (last : Bool) → continues last (joining_of s) m c part b
      ≡ record {
        answer = cond last (rules.complete m (s.length + length part)) rules.still_open;
        state = cond last rules.idle (rules.opened m ((s.counter + 1) % 256) (s.length + length part));
        buffer = sets b s.length part;
      }
  unfolding joining_of continues
  goes_on last =
      ap (λ (j : rules.Joining). continues last j m c part b) (cond_false rules.idle (rules.opened s.msg_id s.counter s.length) (ne_eqb s.open 0 some))
      ∙ cond_true _ _ (and_true _ _ (and_true _ _ (eq-eqb m s.msg_id same) (eq-eqb c s.counter next)) (le-leb (s.length + length part) max_payload fits))
      ∙ (λ i. record {
        answer = cond last (rules.complete (sym same i) (s.length + length part)) rules.still_open;
        state = cond last rules.idle (rules.opened (sym same i) ((s.counter + 1) % 256) (s.length + length part));
        buffer = sets b s.length part;
      })

  module _ {t u : Reassembly} {last : Bool} {a : Option Message} {after : List ℕ} (given : a ≡ then_some last (record { msg_id = m; length = s.length + length part }))
      (is : t ≡ u) (f : after ≡ sets b s.length part) where
    pub completes : last ≡ true → (joining_of u ≡ rules.idle) × (u ≡ state_of rules.idle) → Joins s (continues last (joining_of s) m c part b) (Ok a) t after
    unfolding handed_back
    completes e n =
        along (ap (λ (x : Bool). continues x (joining_of s) m c part b) e ∙ goes_on true)
        (record {
          answered = ap (λ (o : Option Message). join_answer (Ok o)) (given ∙ ap (λ (x : Bool). then_some x (record { msg_id = m; length = s.length + length part })) e);
          next = ap joining_of is ∙ n.0;
          numbers = is ∙ n.1;
          buffer = f;
        })

    pub stays_open : {k : ℕ} → last ≡ false
        → (joining_of u ≡ rules.opened m k (s.length + length part)) × (u ≡ state_of (rules.opened m k (s.length + length part)))
        → k ≡ (s.counter + 1) % 256 → Joins s (continues last (joining_of s) m c part b) (Ok a) t after
    unfolding handed_back
    stays_open e n i =
        let o = ap (λ (z : ℕ). rules.opened m z (s.length + length part)) i in
        along (ap (λ (x : Bool). continues x (joining_of s) m c part b) e ∙ goes_on false)
        (record {
          answered = ap (λ (o : Option Message). join_answer (Ok o)) (given ∙ ap (λ (x : Bool). then_some x (record { msg_id = m; length = s.length + length part })) e);
          next = ap joining_of is ∙ n.0 ∙ o;
          numbers = is ∙ n.1 ∙ ap state_of o;
          buffer = f;
        })
