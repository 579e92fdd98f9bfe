-- Tests: what a conjunction, a disjunction or a choice says of its parts.
use Rattle.std.specs.Prelude.{◌≡◌, refl, Bool, true, false, cond, not, ◌&&◌, ◌||◌, ◌⊎◌}
use Rattle.std.proofs.Common.{sym, ◌∙◌, ap, true≢false, inl, inr}

pub clash {ℓ} : {X : Type ℓ} {b : Bool} → b ≡ true → b ≡ false → X
clash p q = absurd (true≢false (sym p ∙ q))

pub decide : (b : Bool) → (b ≡ true) ⊎ (b ≡ false)
decide true = inl refl
decide false = inr refl

pub and_left : (a b : Bool) → a && b ≡ true → a ≡ true
and_left true b h = refl
and_left false b h = h

pub and_right : (a b : Bool) → a && b ≡ true → b ≡ true
and_right true b h = h
and_right false b h = clash h refl

pub and_true : (a b : Bool) → a ≡ true → b ≡ true → a && b ≡ true
and_true true b p q = q
and_true false b p q = p

pub and_false : (a b : Bool) → a ≡ true → a && b ≡ false → b ≡ false
and_false true b p q = q
and_false false b p q = clash p refl

pub and_none : (b : Bool) → b && false ≡ false
and_none true = refl
and_none false = refl

pub or_left : (a b : Bool) → a || b ≡ false → a ≡ false
or_left true b h = clash refl h
or_left false b h = refl

pub or_right : (a b : Bool) → a || b ≡ false → b ≡ false
or_right true b h = clash refl h
or_right false b h = h

pub or_false : (a b : Bool) → a ≡ false → b ≡ false → a || b ≡ false
or_false true b p q = p
or_false false b p q = q

pub or_true_left : (a b : Bool) → a ≡ true → a || b ≡ true
or_true_left true b p = refl
or_true_left false b p = clash p refl

pub or_true_right : (a b : Bool) → b ≡ true → a || b ≡ true
or_true_right true b p = refl
or_true_right false b p = p

pub or_none : (b : Bool) → (b || false) ≡ b
or_none true = refl
or_none false = refl

pub or_assoc : (a b c : Bool) → ((a || b) || c) ≡ (a || (b || c))
or_assoc true b c = refl
or_assoc false b c = refl

pub or_cases : (a b : Bool) → a || b ≡ true → (a ≡ true) ⊎ (b ≡ true)
or_cases true b h = inl refl
or_cases false b h = inr h

pub not_true : (b : Bool) → not b ≡ true → b ≡ false
not_true true h = clash h refl
not_true false h = refl

pub not_false : (b : Bool) → not b ≡ false → b ≡ true
not_false true h = refl
not_false false h = sym h

-- what cannot be true is false
pub refute : (b : Bool) → (b ≡ true → b ≡ false) → b ≡ false
refute true f = f refl
refute false f = refl

module _ {ℓ} {A : Type 0} (P : A → Type ℓ) where
  -- a choice has the property if each of its sides has where it is taken
  pub on_cond : (b : Bool) (x y : A) → (b ≡ true → P x) → (b ≡ false → P y) → P (cond b x y)
  on_cond true x y f g = f refl
  on_cond false x y f g = g refl

module _ {A : Type 0} where
  pub cond_true : {b : Bool} (x y : A) → b ≡ true → cond b x y ≡ x
  cond_true {b} x y e = ap (λ (t : Bool). cond t x y) e

  pub cond_false : {b : Bool} (x y : A) → b ≡ false → cond b x y ≡ y
  cond_false {b} x y e = ap (λ (t : Bool). cond t x y) e

  pub cond_same : (b : Bool) (x : A) → cond b x x ≡ x
  cond_same true x = refl
  cond_same false x = refl
