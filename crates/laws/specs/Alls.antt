-- Properties of every element, of every two elements, and of the elements of two lists side by side.
use Rattle.std.specs.Prelude.{◌≡◌, Bool, ◌||◌, ◌⊎◌, get_or, set, drop, replicate}
use Rattle.std.proofs.Math.Path.{refl, ap}
use Rattle.std.proofs.Common.{sym, ◌∙◌, inl, inr, not-suc-le-zero, le_of_suc-le-suc}
use Rattle.std.proofs.Math.Bool.{true, false, cond}
use mathlib.Core.List.{List, [], ◌∷◌, ◌++◌, map, append_assoc}
use Prim.Native.Nat.{ℕ, zero, suc, ◌<◌, ◌≤◌}
use native.Mathlib.Omega.{arith}
use Rattle.std.proofs.Math.ListN.{length}
use Rattle.laws.specs.Lists.{any, select, collect}
use Rattle.laws.specs.Bools.{or_assoc, or_left, or_right, or_false, or_cases, or_true_left, or_true_right, cond_true, cond_false, clash}

-- P holds of every element
pub data All {A : Type 0} (P : A → Type 0) : List A → Type 0 where
  all_nil : All P []
  all_cons : {x : A} {xs : List A} → P x → All P xs → All P (x ∷ xs)

-- R holds of every two elements, the earlier one first
pub data Pairwise {A : Type 0} (R : A → A → Type 0) : List A → Type 0 where
  pairwise_nil : Pairwise R []
  pairwise_cons : {x : A} {xs : List A} → All (R x) xs → Pairwise R xs → Pairwise R (x ∷ xs)

-- R holds of each element and the one that stands in its place
pub data Each {A B : Type 0} (R : A → B → Type 0) : List A → List B → Type 0 where
  each_nil : Each R [] []
  each_cons : {x : A} {y : B} {xs : List A} {ys : List B} → R x y → Each R xs ys → Each R (x ∷ xs) (y ∷ ys)

module _ {A : Type 0} {P : A → Type 0} where
  pub all_head : {x : A} {xs : List A} → All P (x ∷ xs) → P x
  all_head (all_cons h hs) = h

  pub all_tail : {x : A} {xs : List A} → All P (x ∷ xs) → All P xs
  all_tail (all_cons h hs) = hs

  pub all_append : {xs ys : List A} → All P xs → All P ys → All P (xs ++ ys)
  all_append all_nil k = k
  all_append (all_cons h hs) k = all_cons h (all_append hs k)

  pub all_left : (xs ys : List A) → All P (xs ++ ys) → All P xs
  all_left [] ys h = all_nil
  all_left (x ∷ xs) ys h = all_cons (all_head h) (all_left xs ys (all_tail h))

  pub all_right : (xs ys : List A) → All P (xs ++ ys) → All P ys
  all_right [] ys h = h
  all_right (x ∷ xs) ys h = all_right xs ys (all_tail h)

  pub all_at : (i : ℕ) (d : A) {xs : List A} → i < length xs → All P xs → P (get_or xs i d)
  all_at i d l all_nil = absurd (not-suc-le-zero l)
  all_at zero d l (all_cons h hs) = h
  all_at (suc i) d l (all_cons h hs) = all_at i d (le_of_suc-le-suc l) hs

  pub all_set : (i : ℕ) (y : A) {xs : List A} → P y → All P xs → All P (set xs i y)
  all_set i y k all_nil = all_nil
  all_set zero y k (all_cons h hs) = all_cons k hs
  all_set (suc i) y k (all_cons h hs) = all_cons h (all_set i y k hs)

  pub all_of : (xs : List A) → ((x : A) → P x) → All P xs
  all_of [] f = all_nil
  all_of (x ∷ xs) f = all_cons (f x) (all_of xs f)

  -- the element in the seat between xs and ys taken out, put in, and looked at
  pub all_out : (xs : List A) (r : A) (ys : List A) → All P (xs ++ r ∷ ys) → All P (xs ++ ys)
  all_out [] r ys h = all_tail h
  all_out (x ∷ xs) r ys h = all_cons (all_head h) (all_out xs r ys (all_tail h))

  pub all_in : (xs : List A) (r : A) (ys : List A) → P r → All P (xs ++ ys) → All P (xs ++ r ∷ ys)
  all_in [] r ys k h = all_cons k h
  all_in (x ∷ xs) r ys k h = all_cons (all_head h) (all_in xs r ys k (all_tail h))

  pub all_seat : (xs : List A) (r : A) (ys : List A) → All P (xs ++ r ∷ ys) → P r
  all_seat [] r ys h = all_head h
  all_seat (x ∷ xs) r ys h = all_seat xs r ys (all_tail h)

module _ {A : Type 0} where
  pub all_replicate : {P : A → Type 0} (n : ℕ) (x : A) → P x → All P (replicate n x)
  all_replicate zero x h = all_nil
  all_replicate (suc n) x h = all_cons h (all_replicate n x h)

  pub all_map : {P Q : A → Type 0} → ((x : A) → P x → Q x) → {xs : List A} → All P xs → All Q xs
  all_map f all_nil = all_nil
  all_map f (all_cons {x} h hs) = all_cons (f x h) (all_map f hs)

  pub all_both : {P Q : A → Type 0} {xs : List A} → All P xs → All Q xs → All (λ (x : A). P x × Q x) xs
  all_both all_nil k = all_nil
  all_both (all_cons h hs) k = all_cons (h, all_head k) (all_both hs (all_tail k))

  module _ {R : A → A → Type 0} where
    pub pairwise_head : {x : A} {xs : List A} → Pairwise R (x ∷ xs) → All (R x) xs
    pairwise_head (pairwise_cons h hs) = h

    pub pairwise_tail : {x : A} {xs : List A} → Pairwise R (x ∷ xs) → Pairwise R xs
    pairwise_tail (pairwise_cons h hs) = hs

    pub pairwise_append : {xs ys : List A} → Pairwise R xs → Pairwise R ys → All (λ (x : A). All (R x) ys) xs → Pairwise R (xs ++ ys)
    pairwise_append pairwise_nil k c = k
    pairwise_append (pairwise_cons h hs) k c = pairwise_cons (all_append h (all_head c)) (pairwise_append hs k (all_tail c))

    pub pairwise_out : (xs : List A) (r : A) (ys : List A) → Pairwise R (xs ++ r ∷ ys) → Pairwise R (xs ++ ys)
    pairwise_out [] r ys h = pairwise_tail h
    pairwise_out (x ∷ xs) r ys h = pairwise_cons (all_out xs r ys (pairwise_head h)) (pairwise_out xs r ys (pairwise_tail h))

    pub pairwise_in : ((x y : A) → R x y → R y x) → (xs : List A) (r : A) (ys : List A) → All (R r) (xs ++ ys) → Pairwise R (xs ++ ys)
        → Pairwise R (xs ++ r ∷ ys)
    pairwise_in turn [] r ys k h = pairwise_cons k h
    pairwise_in turn (x ∷ xs) r ys k h = pairwise_cons (all_in xs r ys (turn r x (all_head k)) (pairwise_head h)) (pairwise_in turn xs r ys (all_tail k) (pairwise_tail h))

    pub pairwise_at : (d : A) (i j : ℕ) {xs : List A} → i < j → j < length xs → Pairwise R xs → R (get_or xs i d) (get_or xs j d)
    pairwise_at d i j l m pairwise_nil = absurd (not-suc-le-zero m)
    pairwise_at d i zero l m (pairwise_cons h hs) = absurd (not-suc-le-zero l)
    pairwise_at d zero (suc j) l m (pairwise_cons h hs) = all_at j d (le_of_suc-le-suc m) h
    pairwise_at d (suc i) (suc j) l m (pairwise_cons h hs) = pairwise_at d i j (le_of_suc-le-suc l) (le_of_suc-le-suc m) hs

    pub pairwise_replicate : (n : ℕ) (x : A) → R x x → Pairwise R (replicate n x)
    pairwise_replicate zero x h = pairwise_nil
    pairwise_replicate (suc n) x h = pairwise_cons (all_replicate n x h) (pairwise_replicate n x h)

  module _ (f : A → Bool) where
    pub any_none : (xs : List A) → any f xs ≡ false → All (λ (x : A). f x ≡ false) xs
    unfolding any
    any_none [] h = all_nil
    any_none (x ∷ xs) h = all_cons (or_left (f x) (any f xs) h) (any_none xs (or_right (f x) (any f xs) h))

    pub none_any : {xs : List A} → All (λ (x : A). f x ≡ false) xs → any f xs ≡ false
    unfolding any
    none_any all_nil = refl
    none_any (all_cons {x} {xs} h hs) = or_false (f x) (any f xs) h (none_any hs)

    pub any_found : (d : A) (xs : List A) → any f xs ≡ true → (i : ℕ) × (i < length xs) × (f (get_or xs i d) ≡ true)
    unfolding any
    any_found d [] h = clash h refl
    any_found d (x ∷ xs) h = go (or_cases (f x) (any f xs) h) (λ (k : any f xs ≡ true). any_found d xs k)
      where
        go : (f x ≡ true) ⊎ (any f xs ≡ true) → (any f xs ≡ true → (i : ℕ) × (i < length xs) × (f (get_or xs i d) ≡ true))
            → (i : ℕ) × (i < suc (length xs)) × (f (get_or (x ∷ xs) i d) ≡ true)
        go (inl e) later = (zero, omega arith, e)
        go (inr e) later = let r = later e in (suc r.0, omega (arith, r.1), r.2)

module _ {A B : Type 0} where
  pub each_map : (R : A → B → Type 0) (f : A → B) → ((x : A) → R x (f x)) → (xs : List A) → Each R xs (map f xs)
  each_map R f h [] = each_nil
  each_map R f h (x ∷ xs) = each_cons (h x) (each_map R f h xs)

  module _ {R : A → B → Type 0} where
    pub each_seat : {xs : List A} {xs' : List B} {r : A} {r' : B} {ys : List A} {ys' : List B} → Each R xs xs' → R r r' → Each R ys ys'
        → Each R (xs ++ r ∷ ys) (xs' ++ r' ∷ ys')
    each_seat each_nil k m = each_cons k m
    each_seat (each_cons h hs) k m = each_cons h (each_seat hs k m)

    pub each_length : {xs : List A} {ys : List B} → Each R xs ys → length xs ≡ length ys
    each_length each_nil = refl
    each_length (each_cons h hs) = ap suc (each_length hs)

    pub each_at : (d : A) (e : B) (i : ℕ) {xs : List A} {ys : List B} → R d e → Each R xs ys → R (get_or xs i d) (get_or ys i e)
    each_at d e i k each_nil = k
    each_at d e zero k (each_cons h hs) = h
    each_at d e (suc i) k (each_cons h hs) = each_at d e i k hs

    pub all_each : {P : A → Type 0} {Q : B → Type 0} → ((x : A) (y : B) → P x → R x y → Q y) → {xs : List A} {ys : List B} → All P xs
        → Each R xs ys → All Q ys
    all_each carry h each_nil = all_nil
    all_each carry h (each_cons {x} {y} k ks) = all_cons (carry x y (all_head h) k) (all_each carry (all_tail h) ks)

module _ {A : Type 0} {R S : A → A → Type 0} where
  pub pairwise_each : ((x x' y y' : A) → R x y → S x x' → S y y' → R x' y') → {xs ys : List A} → Pairwise R xs → Each S xs ys → Pairwise R ys
  pairwise_each carry h each_nil = pairwise_nil
  pairwise_each carry h (each_cons {x} {y} k ks) =
      pairwise_cons (all_each (λ (z w : A) (r : R x z) (s : S z w). carry x y z w r k s) (pairwise_head h) ks) (pairwise_each carry (pairwise_tail h) ks)

pub each_same : {A : Type 0} (R : A → A → Type 0) → ((x : A) → R x x) → (xs : List A) → Each R xs xs
each_same R h [] = each_nil
each_same R h (x ∷ xs) = each_cons (h x) (each_same R h xs)

module _ {A B : Type 0} where
  -- rows and columns exchanged
  pub all_turn : {R : A → B → Type 0} (xs : List A) (ys : List B) → All (λ (x : A). All (R x) ys) xs → All (λ (y : B). All (λ (x : A). R x y) xs) ys
  all_turn [] ys h = all_of ys (λ (y : B). all_nil)
  all_turn {R} (x ∷ xs) ys h = both ys (all_head h) (all_turn xs ys (all_tail h))
    where
      both : (zs : List B) → All (R x) zs → All (λ (y : B). All (λ (w : A). R w y) xs) zs → All (λ (y : B). All (λ (w : A). R w y) (x ∷ xs)) zs
      both [] k m = all_nil
      both (z ∷ zs) k m = all_cons (all_cons (all_head k) (all_head m)) (both zs (all_tail k) (all_tail m))

  pub all_collect : {P : B → Type 0} (f : A → List B) (xs : List A) → All P (collect f xs) → All (λ (x : A). All P (f x)) xs
  unfolding collect
  all_collect f [] h = all_nil
  all_collect f (x ∷ xs) h = all_cons (all_left (f x) (collect f xs) h) (all_collect f xs (all_right (f x) (collect f xs) h))

pub any_append : {A : Type 0} (f : A → Bool) (xs ys : List A) → any f (xs ++ ys) ≡ any f xs || any f ys
unfolding any
any_append f [] ys = refl
any_append f (x ∷ xs) ys = ap (λ (b : Bool). f x || b) (any_append f xs ys) ∙ sym (or_assoc (f x) (any f xs) (any f ys))

pub any_left : {A : Type 0} (f : A → Bool) (xs ys : List A) → any f xs ≡ true → any f (xs ++ ys) ≡ true
any_left f xs ys h = any_append f xs ys ∙ or_true_left (any f xs) (any f ys) h

pub any_right : {A : Type 0} (f : A → Bool) (xs ys : List A) → any f ys ≡ true → any f (xs ++ ys) ≡ true
any_right f xs ys h = any_append f xs ys ∙ or_true_right (any f xs) (any f ys) h

module _ {A B : Type 0} where
  pub all_mapped : {Q : B → Type 0} (f : A → B) {xs : List A} → All (λ (x : A). Q (f x)) xs → All Q (map f xs)
  all_mapped f all_nil = all_nil
  all_mapped f (all_cons h hs) = all_cons h (all_mapped f hs)

  pub all_unmapped : {Q : B → Type 0} (f : A → B) (xs : List A) → All Q (map f xs) → All (λ (x : A). Q (f x)) xs
  all_unmapped f [] h = all_nil
  all_unmapped f (x ∷ xs) h = all_cons (all_head h) (all_unmapped f xs (all_tail h))

  pub pairwise_mapped : {R : B → B → Type 0} (f : A → B) {xs : List A} → Pairwise (λ (x y : A). R (f x) (f y)) xs → Pairwise R (map f xs)
  pairwise_mapped f pairwise_nil = pairwise_nil
  pairwise_mapped f (pairwise_cons h hs) = pairwise_cons (all_mapped f h) (pairwise_mapped f hs)

-- every place of a list, and every place behind its end
pub all_everywhere : {A : Type 0} {P : A → Type 0} (i : ℕ) (d : A) {xs : List A} → P d → All P xs → P (get_or xs i d)
all_everywhere i d k all_nil = k
all_everywhere zero d k (all_cons h hs) = h
all_everywhere (suc i) d k (all_cons h hs) = all_everywhere i d k hs

pub any_drop : {A : Type 0} (f : A → Bool) (n : ℕ) (xs : List A) → any f (drop n xs) ≡ true → any f xs ≡ true
unfolding any
any_drop f zero xs h = h
any_drop f (suc n) [] h = h
any_drop f (suc n) (x ∷ xs) h = or_true_right (f x) (any f xs) (any_drop f n xs h)

module _ {A B : Type 0} where
  pub each_both : {R : A → B → Type 0} {Q : B → Type 0} {xs : List A} {ys : List B} → Each R xs ys → All Q ys
      → Each (λ (x : A) (y : B). R x y × Q y) xs ys
  each_both each_nil k = each_nil
  each_both (each_cons h hs) k = each_cons (h, all_head k) (each_both hs (all_tail k))

  pub pairwise_always : (R : B → B → Type 0) (f : A → B) → ((x y : A) → R (f x) (f y)) → (xs : List A) → Pairwise R (map f xs)
  pairwise_always R f h [] = pairwise_nil
  pairwise_always R f h (x ∷ xs) = pairwise_cons (all_mapped f {xs = xs} (all_of xs (h x))) (pairwise_always R f h xs)

-- the elements that pass a test: of two lists, where all do, where none does
module _ {A : Type 0} (f : A → Bool) where
  pub select_append : (xs ys : List A) → select f (xs ++ ys) ≡ select f xs ++ select f ys
  unfolding select
  select_append [] ys = refl
  select_append (x ∷ xs) ys = go (f x) (select_append xs ys)
    where
      go : (b : Bool) → select f (xs ++ ys) ≡ select f xs ++ select f ys
          → cond b (x ∷ select f (xs ++ ys)) (select f (xs ++ ys)) ≡ cond b (x ∷ select f xs) (select f xs) ++ select f ys
      go true e = ap (◌∷◌ x) e
      go false e = e

  pub select_all : {xs : List A} → All (λ (x : A). f x ≡ true) xs → select f xs ≡ xs
  unfolding select
  select_all all_nil = refl
  select_all (all_cons {x} {xs} h hs) = cond_true (x ∷ select f xs) (select f xs) h ∙ ap (◌∷◌ x) (select_all hs)

  pub select_none : {xs : List A} → All (λ (x : A). f x ≡ false) xs → select f xs ≡ []
  unfolding select
  select_none all_nil = refl
  select_none (all_cons {x} {xs} h hs) = cond_false (x ∷ select f xs) (select f xs) h ∙ select_none hs

  -- what is selected passes the test, and keeps what it had
  pub all_selected : (xs : List A) → All (λ (x : A). f x ≡ true) (select f xs)
  unfolding select
  all_selected [] = all_nil
  all_selected (x ∷ xs) = go (f x) refl (all_selected xs)
    where
      go : (b : Bool) → f x ≡ b → All (λ (y : A). f y ≡ true) (select f xs) → All (λ (y : A). f y ≡ true) (cond b (x ∷ select f xs) (select f xs))
      go true e h = all_cons e h
      go false e h = h

  pub all_select : {P : A → Type 0} {xs : List A} → All P xs → All P (select f xs)
  unfolding select
  all_select all_nil = all_nil
  all_select {P} (all_cons {x} {xs} h hs) = go (f x) (all_select hs)
    where
      go : (b : Bool) → All P (select f xs) → All P (cond b (x ∷ select f xs) (select f xs))
      go true k = all_cons h k
      go false k = k

  pub pairwise_select : {R : A → A → Type 0} {xs : List A} → Pairwise R xs → Pairwise R (select f xs)
  unfolding select
  pairwise_select pairwise_nil = pairwise_nil
  pairwise_select {R} (pairwise_cons {x} {xs} h hs) = go (f x) (pairwise_select hs)
    where
      go : (b : Bool) → Pairwise R (select f xs) → Pairwise R (cond b (x ∷ select f xs) (select f xs))
      go true k = pairwise_cons (all_select h) k
      go false k = k

  pub select_length : (xs : List A) → length (select f xs) ≤ length xs
  unfolding select
  select_length [] = omega arith
  select_length (x ∷ xs) = go (f x) (select_length xs)
    where
      go : (b : Bool) → length (select f xs) ≤ length xs → length (cond b (x ∷ select f xs) (select f xs)) ≤ suc (length xs)
      go true h = omega arith
      go false h = omega arith

module _ {A : Type 0} where
  pub all_drop : {P : A → Type 0} (n : ℕ) {xs : List A} → All P xs → All P (drop n xs)
  all_drop zero h = h
  all_drop (suc n) all_nil = all_nil
  all_drop (suc n) (all_cons h hs) = all_drop n hs

  pub pairwise_drop : {R : A → A → Type 0} (n : ℕ) {xs : List A} → Pairwise R xs → Pairwise R (drop n xs)
  pairwise_drop zero h = h
  pairwise_drop (suc n) pairwise_nil = pairwise_nil
  pairwise_drop (suc n) (pairwise_cons h hs) = pairwise_drop n hs

-- a test of what is made of the elements
module _ {A B : Type 0} (f : B → Bool) where
  pub any_mapped : (g : A → B) (xs : List A) → any f (map g xs) ≡ any (λ (x : A). f (g x)) xs
  unfolding any
  any_mapped g [] = refl
  any_mapped g (x ∷ xs) = ap (λ (b : Bool). f (g x) || b) (any_mapped g xs)

  pub any_collect : (g : A → List B) (xs : List A) → any f (collect g xs) ≡ any (λ (x : A). any f (g x)) xs
  unfolding any collect
  any_collect g [] = refl
  any_collect g (x ∷ xs) = any_append f (g x) (collect g xs) ∙ ap (λ (b : Bool). any f (g x) || b) (any_collect g xs)

-- what is made of two lists, one behind the other
pub collect_append : {A B : Type 0} (f : A → List B) (xs ys : List A) → collect f (xs ++ ys) ≡ collect f xs ++ collect f ys
unfolding collect
collect_append f [] ys = refl
collect_append {B = B} f (x ∷ xs) ys = ap (λ (l : List B). f x ++ l) (collect_append f xs ys) ∙ sym (append_assoc (f x) (collect f xs) (collect f ys))
