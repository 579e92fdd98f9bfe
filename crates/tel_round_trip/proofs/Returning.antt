-- A message on its way: what is still to be joined gives the whole message.
use Prim.Native.Nat.{ℕ, suc, ◌+◌, ◌-◌, ◌<◌, ◌≤◌}
use mathlib.Core.Path.{◌≡◌, refl, sym, ap, ◌∙◌, subst}
use mathlib.Core.Bool.{true, false}
use mathlib.Core.List.{List, [], ◌∷◌, ◌++◌, map}
use native.Mathlib.Omega.{arith}
use native.Mathlib.Numerals.{add-one}
use borrow.Author.Tests.{ltb-false}
use Rattle.laws.specs.Bools.{decide}
use mathlib.Core.Logic.{◌⊎◌, inl, inr}
use lib.Dec.{ltb}
use lib.ListN.{length, drop, replicate}
use Rattle.laws.specs.Lists.{up_from}
use Rattle.rules.specs.House.{max_pass, max_payload}
use Rattle.rules.specs.Picture.{legal_size}
use Rattle.rules.specs.Telegram.{count, count_is, uncounted, unjoined, count_of, telegram_of, telegrams, join, join_all, idle, still_open, complete}
use Rattle.rules.proofs.RoundTrip.{round_trip}
use Rattle.rules.specs.Telegram as rules
use Rattle.std.specs.Prelude.{Option, None, Some, IsSome, Result, Ok}
use Rattle.numbers.specs.declared.Refusal.{Refusal}
use Rattle.tel_join_state.specs.declared.Message.{Message}
use Rattle.tel_join_state.specs.declared.Reassembly.{Reassembly}
use Rattle.tel_join_state.specs.Answers.{join_answer, joining_of, Joins}
use Rattle.tel_round_trip.specs.Back.{back}

-- a message that is complete is there
pub some : {m n : ℕ} (o : Option Message) → join_answer (Ok o) ≡ complete m n → IsSome o
some None e = absurd cc
some (Some x) e = refl

module _ (l : ℕ) (payload : List ℕ) where
  -- how many telegrams, where none of the refusals applies
  pub counted : {k : ℕ} → count_is k ≡ count l payload → (legal_size l ≡ true) × (length payload ≤ max_payload) × (k ≡ count_of l (length payload))
  unfolding count
  counted {k} e = go (decide (legal_size l)) (decide (ltb max_payload (length payload)))
    where
      go : (legal_size l ≡ true) ⊎ (legal_size l ≡ false) → (ltb max_payload (length payload) ≡ true) ⊎ (ltb max_payload (length payload) ≡ false)
          → (legal_size l ≡ true) × (length payload ≤ max_payload) × (k ≡ count_of l (length payload))
      go (inl t) (inl f) = let d = simp (t, f) at e in absurd cc
      go (inl t) (inr f) = let d = simp (t, f) at e in (t, ltb-false _ _ f, cc)
      go (inr t) f = let d = simp t at e in absurd cc

  -- and where one does
  pub uncounted_back : (m : ℕ) (b : List ℕ) {n : ℕ} → uncounted n ≡ count l payload → (unjoined n ≡ (back l m payload b).answer) × (b ≡ (back l m payload b).buffer)
  unfolding count back
  uncounted_back m b {n} e = go (decide (legal_size l)) (decide (ltb max_payload (length payload)))
    where
      go : (legal_size l ≡ true) ⊎ (legal_size l ≡ false) → (ltb max_payload (length payload) ≡ true) ⊎ (ltb max_payload (length payload) ≡ false)
          → (unjoined n ≡ (back l m payload b).answer) × (b ≡ (back l m payload b).buffer)
      go (inl t) (inl f) = let d = simp (t, f) at e in let h : n ≡ 11 = cc in simp (t, f) (ap unjoined h, refl)
      go (inl t) (inr f) = let d = simp (t, f) at e in absurd cc
      go (inr t) f = let d = simp t at e in let h : n ≡ 10 = cc in simp t (ap unjoined h, refl)

module _ (l m : ℕ) (payload lent : List ℕ) where
  -- the telegrams k to the count, of which `more` stand behind the first
  unfoldable pub from : (k more : ℕ) → List (List ℕ)
  from k more = map (telegram_of l m payload) (up_from k (suc more))

  -- joined from here on, they give the message
  pub record Owed (k more : ℕ) (s : rules.Joining) (b : List ℕ) : Type 0 where
    pub gives : join_all l s b (from k more)
        ≡ record { answers = replicate more still_open ++ complete m (length payload) ∷ []; state = idle; buffer = payload ++ drop (length payload) lent }

  pub owed_start : (s : rules.Joining) → legal_size l ≡ true → m ≤ max_pass → length payload ≤ max_payload → max_payload ≤ length lent
      → 1 ≤ count_of l (length payload) → Owed 1 (count_of l (length payload) - 1) s lent
  unfolding telegrams from
  owed_start s legal writable short room some =
      let t = round_trip l m payload s lent legal writable short room in
      let e : suc (count_of l (length payload) - 1) ≡ count_of l (length payload) = omega arith in
      record { gives = ap (λ (n : ℕ). join_all l s lent (map (telegram_of l m payload) (up_from 1 n))) e ∙ (λ i. record { answers = t.answers i; state = t.state i; buffer = t.buffer i }) }

  module _ (count k : ℕ) (s : rules.Joining) (b : List ℕ) (o : Owed k (count - k) s b) {came st : Reassembly} {a : Result (Option Message) Refusal} {after : List ℕ}
      (h : Joins came (join l s b (telegram_of l m payload k)) a st after) where
    head : List rules.Join → rules.Join
    head [] = still_open
    head (x ∷ xs) = x

    tail : List rules.Join → List rules.Join
    tail [] = []
    tail (x ∷ xs) = xs

    -- one telegram more, with others behind it
    module _ (f : k < count) where
      several : Owed k (suc (count - (k + 1))) s b
      several = let e : count - k ≡ suc (count - (k + 1)) = omega arith in subst (λ (n : ℕ). Owed k n s b) e o

      pub owed_on : Owed (k + 1) (count - (k + 1)) (joining_of st) after
      unfolding from up_from join_all tail
      owed_on =
          subst (λ (n : ℕ). Owed n (count - (k + 1)) (joining_of st) after) (sym (add-one k))
          (record {
            gives =
                (λ i. join_all l (h.next i) (h.buffer i) (from (suc k) (count - (k + 1))))
                ∙ (λ i. record { answers = tail (several.gives i).answers; state = (several.gives i).state; buffer = (several.gives i).buffer });
          })

      pub owed_open : join_answer a ≡ still_open
      unfolding from up_from join_all head
      owed_open = h.answered ∙ (λ i. head (several.gives i).answers)

    -- and the last one
    pub owed_end : count ≤ k → (join_answer a ≡ complete m (length payload)) × (after ≡ payload ++ drop (length payload) lent)
    unfolding from up_from join_all head
    owed_end f =
        let e : count - k ≡ 0 = omega arith in
        let g = subst (λ (n : ℕ). Owed k n s b) e o in
        (h.answered ∙ (λ i. head (g.gives i).answers), h.buffer ∙ (λ i. (g.gives i).buffer))

  -- the last one, at the end of the loop
  pub owed_last : (count k : ℕ) (s : rules.Joining) (b : List ℕ) {came st : Reassembly} {a : Result (Option Message) Refusal} {after : List ℕ} → k ≡ count
      → Owed k (count - k) s b → Joins came (join l s b (telegram_of l m payload count)) a st after
      → (join_answer a ≡ complete m (length payload)) × (after ≡ payload ++ drop (length payload) lent)
  owed_last count k s b e o h = owed_end count count s b (subst (λ (n : ℕ). Owed n (count - n) s b) e o) h (omega arith)
