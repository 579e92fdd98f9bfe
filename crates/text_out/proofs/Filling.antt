-- What is left to put: of bytes one by one, and of a template.
use Prim.Native.Nat.{ℕ, ◌%◌}
use mathlib.Core.Path.{◌≡◌, sym, ◌∙◌, ap, subst}
use mathlib.Core.Bool.{Bool, true, false, cond}
use mathlib.Core.List.{List, [], ◌∷◌, ◌++◌}
use borrow.Author.Tests.{eq-eqb, ne_eqb}
use lib.Dec.{eqb}
use Rattle.laws.specs.Bools.{cond_true, cond_false}
use Rattle.laws.specs.Lists.{collect}
use Rattle.text_out.specs.Spelling.{hex_of, hex_pair_of, decimal_of, value_of, filled_from}
use Rattle.text_out.specs.declared.Output.{Output}
use Rattle.text_out.specs.Putting.{Owes}

module _ (f : ℕ → List ℕ) {xs : List ℕ} where
  pub collect_on : {x : ℕ} {rest : List ℕ} → xs ≡ x ∷ rest → collect f xs ≡ f x ++ collect f rest
  unfolding collect
  collect_on e = ap (collect f) e

  pub collect_end : xs ≡ [] → collect f xs ≡ []
  unfolding collect
  collect_end e = ap (collect f) e

-- a value by its letter
module _ {kind : ℕ} (v : ℕ) where
  pub value_byte : kind ≡ 98 → hex_of (v % 256) ≡ value_of kind v
  unfolding value_of
  value_byte e = sym (cond_true _ _ (eq-eqb kind 98 e))

  pub value_word : kind ≡ 119 → hex_pair_of (v % 65536) ≡ value_of kind v
  unfolding value_of
  value_word e = sym (ap (λ (k : ℕ). value_of k v) e)

  pub value_decimal : (kind ≡ 98 → ⊥) → (kind ≡ 119 → ⊥) → decimal_of v ≡ value_of kind v
  unfolding value_of
  value_decimal h k = sym (cond_false _ _ (ne_eqb kind 98 h) ∙ cond_false _ _ (ne_eqb kind 119 k))

-- a template from a byte on, behind a % or not: nothing without a value, its letter and a value; a %; a byte as it is
module _ {m : Bool} (vs : List ℕ) {x : ℕ} {xs rest : List ℕ} (e : xs ≡ x ∷ rest) where
  pub fill_none : m ≡ true → vs ≡ [] → filled_from m xs vs ≡ []
  unfolding filled_from
  fill_none k n = λ i. filled_from (k i) (e i) (n i)

  pub fill_value : {v : ℕ} {more : List ℕ} → m ≡ true → vs ≡ v ∷ more → filled_from m xs vs ≡ value_of x v ++ filled_from false rest more
  unfolding filled_from
  fill_value k n = λ i. filled_from (k i) (e i) (n i)

  begun : {b : Bool} → m ≡ false → eqb x 37 ≡ b → filled_from m xs vs ≡ cond b [] (x ∷ []) ++ filled_from b rest vs
  unfolding filled_from
  begun k h = (λ i. filled_from (k i) (e i) vs) ∙ ap (λ (b : Bool). cond b [] (x ∷ []) ++ filled_from b rest vs) h

  pub fill_mark : m ≡ false → x ≡ 37 → filled_from m xs vs ≡ filled_from true rest vs
  fill_mark k h = begun k (eq-eqb x 37 h)

  pub fill_byte : m ≡ false → (x ≡ 37 → ⊥) → filled_from m xs vs ≡ (x ∷ []) ++ filled_from false rest vs
  fill_byte k h = begun k (ne_eqb x 37 h)

pub fill_end : (m : Bool) (vs : List ℕ) {xs : List ℕ} → xs ≡ [] → filled_from m xs vs ≡ []
unfolding filled_from
fill_end true vs e = ap (λ (l : List ℕ). filled_from true l vs) e
fill_end false vs e = ap (λ (l : List ℕ). filled_from false l vs) e

-- what is left to put, by other names
pub owes_as : (rest : List ℕ) {o p q : Output} {whole vs us : List ℕ} {m n : Bool} → q ≡ p → n ≡ m → us ≡ vs → Owes o whole p (filled_from m rest vs)
    → Owes o whole q (filled_from n rest us)
owes_as rest {o} {p} {q} {whole} {vs} {us} {m} {n} s k e h =
    subst (λ (r : Output). Owes o whole r (filled_from n rest us)) (sym s)
    (subst (λ (l : List ℕ). Owes o whole p l) (λ i. filled_from (sym k i) rest (sym e i)) h)
