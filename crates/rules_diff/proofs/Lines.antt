-- The lines about each position; what they make of the first list.
use Prim.Native.Nat.{ℕ, zero, suc, ◌+◌, ◌*◌, ◌<◌, ◌≤◌}
use mathlib.Core.Path.{◌≡◌, refl, sym, ◌∙◌, ap, subst}
use mathlib.Core.Bool.{Bool, true, false, cond, not, ◌&&◌, ◌||◌}
use mathlib.Core.List.{List, [], ◌∷◌, ◌++◌, map, append-nil, append_assoc}
use mathlib.Core.Logic.{◌≢◌, ◌⊎◌, inl, inr}
use native.Mathlib.Nat.{not-suc-le-zero}
use native.Mathlib.Omega.{arith}
use borrow.Author.Tests.{leb-true, leb-false, eq-eqb, ne_eqb, eqb-true, eqb-false}
use lib.Dec.{eqb, leb}
use lib.ListN.{length, length-append, length-map}
use Rattle.laws.specs.Lists.{any, select, collect, up_from}
use Rattle.laws.specs.Bools.{clash, decide, and_none, or_true_left, or_true_right}
use Rattle.laws.specs.Alls.{All, all_nil, all_cons, all_head, all_tail, all_append, all_map, all_mapped, all_of, Pairwise, pairwise_nil, pairwise_cons, pairwise_append, any_append, select_append, select_all, select_none, select_length}
use Rattle.rules.specs.House.{max_units, max_pairs}
use Rattle.rules.specs.Picture.{Pair, same_pair, holds}
use Rattle.rules.specs.Ending.{missing}
use Rattle.rules.proofs.Pairs.{same_self, same_eq}
use Rattle.rules_diff.specs.Differences.{NodeRow, Seen, absent, present, seen_at, Line, address_changed, pair_gone, pair_new, address_lines, lines_at, differences, uncompared, differ, fitted, compare}
use Rattle.rules_diff.specs.Claims.{Good, Most, line_position, is_about, Tells, SameAt, with_address, without_pair, with_pair, made, made_all, applied, Exact}
use Rattle.rules_diff.proofs.Rows.{compared, enough, fitting, refused_21, sees}

-- the lines of a position are about it
about : (x : ℕ) (s t : Seen) → All (λ (l : Line). line_position l ≡ x) (lines_at x s t)
unfolding lines_at address_lines line_position
about x absent absent = all_nil
about x absent (present b qs) = all_cons refl (all_mapped (pair_new x) (all_of qs (λ (p : Pair). refl)))
about x (present a ps) absent = all_cons refl all_nil
about x (present a ps) (present b qs) =
    all_append (all_append (head (eqb a b)) (all_mapped (pair_gone x) (all_of (missing ps qs) (λ (p : Pair). refl)))) (all_mapped (pair_new x) (all_of (missing qs ps) (λ (p : Pair). refl)))
  where
    head : (e : Bool) → All (λ (l : Line). line_position l ≡ x) (cond e [] (address_changed x b ∷ []))
    head true = all_nil
    head false = all_cons refl all_nil

-- what is selected of what is collected
select_collect : {A B : Type 0} (f : B → Bool) (g : A → List B) (xs : List A) → select f (collect g xs) ≡ collect (λ (x : A). select f (g x)) xs
unfolding collect select
select_collect f g [] = refl
select_collect {B = B} f g (x ∷ xs) = select_append f (g x) (collect g xs) ∙ ap (λ (l : List B). select f (g x) ++ l) (select_collect f g xs)

-- of numbers from k on only one makes something
module _ {B : Type 0} (g : ℕ → List B) (x : ℕ) (h : (y : ℕ) → y ≢ x → g y ≡ []) where
  pick_none : (k n : ℕ) → (x < k) ⊎ (k + n ≤ x) → collect g (up_from k n) ≡ []
  unfolding collect up_from
  pick_none k zero l = refl
  pick_none k (suc n) (inl l) = (λ i. h k (λ e. omega (arith, e, l)) i ++ pick_none (suc k) n (inl (omega arith)) i)
  pick_none k (suc n) (inr l) = (λ i. h k (λ e. omega (arith, e, l)) i ++ pick_none (suc k) n (inr (omega arith)) i)

  pick : (k n : ℕ) → k ≤ x → x < k + n → collect g (up_from k n) ≡ g x
  unfolding collect up_from
  pick k zero l m = let z : 1 ≤ 0 = omega arith in absurd (not-suc-le-zero z)
  pick k (suc n) l m = go (decide (eqb k x)) (λ o. pick (suc k) n o (omega arith))
    where
      go : (eqb k x ≡ true) ⊎ (eqb k x ≡ false) → (suc k ≤ x → collect g (up_from (suc k) n) ≡ g x) → g k ++ collect g (up_from (suc k) n) ≡ g x
      go (inl e) later =
          let same = eqb-true k x e in
          (λ i. g (same i) ++ pick_none (suc k) n (inl (omega arith)) i) ∙ append-nil (g x)
      go (inr e) later =
          let other = eqb-false k x e in
          (λ i. h k other i ++ later (omega (arith, other)) i)

-- the lines about a position
select_here : (x : ℕ) (s t : Seen) → select (is_about x) (lines_at x s t) ≡ lines_at x s t
unfolding is_about
select_here x s t = select_all (is_about x) (all_map (λ (l : Line) (e : line_position l ≡ x). eq-eqb x (line_position l) (sym e)) (about x s t))

select_there : (x y : ℕ) (s t : Seen) → y ≢ x → select (is_about x) (lines_at y s t) ≡ []
unfolding is_about
select_there x y s t h = select_none (is_about x) (all_map (λ (l : Line) (e : line_position l ≡ y). ne_eqb x (line_position l) (λ d. h (sym (d ∙ e)))) (about y s t))

module _ (f s : List NodeRow) where
  at : ℕ → List Line
  at x = lines_at x (seen_at x f) (seen_at x s)

  lines_about : (x : ℕ) → 1 ≤ x → x ≤ max_units → select (is_about x) (differences f s) ≡ at x
  unfolding differences at
  lines_about x l m =
      select_collect (is_about x) at (up_from 1 max_units)
      ∙ pick (λ (y : ℕ). select (is_about x) (at y)) x (λ y h. select_there x y (seen_at y f) (seen_at y s) h) 1 max_units l (omega arith)
      ∙ select_here x (seen_at x f) (seen_at x s)

  no_lines : (x : ℕ) → (x < 1) ⊎ (1 + max_units ≤ x) → select (is_about x) (differences f s) ≡ []
  unfolding differences at
  no_lines x l =
      select_collect (is_about x) at (up_from 1 max_units)
      ∙ pick_none (λ (y : ℕ). select (is_about x) (at y)) x (λ y h. select_there x y (seen_at y f) (seen_at y s) h) 1 max_units l

-- a position has a row, or is none
inside : (x : ℕ) → ((1 ≤ x) × (x ≤ max_units)) ⊎ ((x < 1) ⊎ (1 + max_units ≤ x))
inside x = go (decide (leb 1 x)) (decide (leb x max_units))
  where
    go : (leb 1 x ≡ true) ⊎ (leb 1 x ≡ false) → (leb x max_units ≡ true) ⊎ (leb x max_units ≡ false)
        → ((1 ≤ x) × (x ≤ max_units)) ⊎ ((x < 1) ⊎ (1 + max_units ≤ x))
    go (inl a) (inl b) = inl (leb-true 1 x a, leb-true x max_units b)
    go (inl a) (inr b) = inr (inr (let l = leb-false x max_units b in omega arith))
    go (inr a) b = inr (inl (leb-false 1 x a))

-- by position
module _ (g : ℕ → List Line) (h : (x : ℕ) → All (λ (l : Line). line_position l ≡ x) (g x)) where
  at_least : (k n : ℕ) → All (λ (l : Line). k ≤ line_position l) (collect g (up_from k n))
  unfolding collect up_from
  at_least k zero = all_nil
  at_least k (suc n) =
      all_append (all_map (λ (l : Line) (e : line_position l ≡ k). omega (arith, e)) (h k))
      (all_map (λ (l : Line) (e : suc k ≤ line_position l). omega (arith, e)) (at_least (suc k) n))

  level : (k : ℕ) {ls : List Line} → All (λ (l : Line). line_position l ≡ k) ls → Pairwise (λ (l m : Line). line_position l ≤ line_position m) ls
  level k all_nil = pairwise_nil
  level k (all_cons {x = l} e es) =
      pairwise_cons {x = l} (all_map (λ (m : Line) (d : line_position m ≡ k). omega (arith, e, d)) es) (level k es)

  ascending : (k n : ℕ) → Pairwise (λ (l m : Line). line_position l ≤ line_position m) (collect g (up_from k n))
  unfolding collect up_from
  ascending k zero = pairwise_nil
  ascending k (suc n) =
      pairwise_append (level k (h k)) (ascending (suc k) n)
      (all_map (λ (l : Line) (e : line_position l ≡ k). all_map (λ (m : Line) (d : suc k ≤ line_position m). omega (arith, e, d)) (at_least (suc k) n)) (h k))

pub tells : (f s : List NodeRow) → Tells f s
unfolding differences lines_at address_lines missing at
tells f s =
    record {
      ascends = ascending (at f s) (λ x. about x (seen_at x f) (seen_at x s)) 1 max_units;
      nowhere = λ x d e. nowhere x d e (inside x);
      gone = λ x a ps l m d e. lines_about f s x l m ∙ (λ i. lines_at x (d i) (e i));
      new = λ x b qs l m d e. lines_about f s x l m ∙ (λ i. lines_at x (d i) (e i));
      stays = λ x a ps qs l m d e.
          lines_about f s x l m ∙ (λ i. lines_at x (d i) (e i))
          ∙ ap (λ (b : Bool). cond b [] (address_changed x a ∷ []) ++ map (pair_gone x) (missing ps qs) ++ map (pair_new x) (missing qs ps)) (eq-eqb a a refl);
      moves = λ x a b ps qs l m h d e.
          lines_about f s x l m ∙ (λ i. lines_at x (d i) (e i))
          ∙ ap (λ (c : Bool). cond c [] (address_changed x b ∷ []) ++ map (pair_gone x) (missing ps qs) ++ map (pair_new x) (missing qs ps)) (ne_eqb a b h);
    }
  where
    nowhere : (x : ℕ) → seen_at x f ≡ absent → seen_at x s ≡ absent → ((1 ≤ x) × (x ≤ max_units)) ⊎ ((x < 1) ⊎ (1 + max_units ≤ x))
        → select (is_about x) (differences f s) ≡ []
    nowhere x d e (inl l) = lines_about f s x l.0 l.1 ∙ (λ i. lines_at x (d i) (e i))
    nowhere x d e (inr l) = no_lines f s x l

-- how many lines
pairs_seen : Seen → List Pair
pairs_seen absent = []
pairs_seen (present a ps) = ps

lines_few : (x : ℕ) (s t : Seen) → length (pairs_seen s) ≤ max_pairs → length (pairs_seen t) ≤ max_pairs → length (lines_at x s t) ≤ 49
unfolding lines_at address_lines pairs_seen missing
lines_few x absent absent l m = omega arith
lines_few x absent (present b qs) l m = let e = length-map qs (pair_new x) in omega arith
lines_few x (present a ps) absent l m = omega arith
lines_few x (present a ps) (present b qs) l m =
    let h = cond (eqb a b) [] (address_changed x b ∷ []) in
    let g = map (pair_gone x) (missing ps qs) in
    let n = map (pair_new x) (missing qs ps) in
    omega
    (arith, head (eqb a b), length-append (h ++ g) n, length-append h g, length-map (missing ps qs) (pair_gone x), length-map (missing qs ps) (pair_new x), select_length (λ (p : Pair). not (holds qs p)) ps, select_length (λ (p : Pair). not (holds ps p)) qs)
  where
    head : (e : Bool) → length (cond e [] (address_changed x b ∷ [])) ≤ 1
    head true = omega arith
    head false = omega arith

seen_few : (x : ℕ) (rs : List NodeRow) → All Good rs → length (pairs_seen (seen_at x rs)) ≤ max_pairs
unfolding seen_at pairs_seen
seen_few x [] h = omega arith
seen_few x (r ∷ rs) h = go (eqb x r.position) (seen_few x rs (all_tail h))
  where
    go : (b : Bool) → length (pairs_seen (seen_at x rs)) ≤ max_pairs → length (pairs_seen (cond b (present r.address r.pairs) (seen_at x rs))) ≤ max_pairs
    go true k = (all_head h).few
    go false k = k

collect_few : (g : ℕ → List Line) (most : ℕ) → ((x : ℕ) → length (g x) ≤ most) → (k n : ℕ) → length (collect g (up_from k n)) ≤ n * most
unfolding collect up_from
collect_few g most h k zero = omega arith
collect_few g most h k (suc n) = let e = collect_few g most h (suc k) n in let l = h k in let a = length-append (g k) (collect g (up_from (suc k) n)) in omega arith

most_lines : (f s : List NodeRow) → All Good f → All Good s → length (differences f s) ≤ 3_087
unfolding differences
most_lines f s g h = collect_few (λ (x : ℕ). lines_at x (seen_at x f) (seen_at x s)) 49 (λ x. lines_few x (seen_at x f) (seen_at x s) (seen_few x f g) (seen_few x s h)) 1 max_units

pub most : (f s : List NodeRow) → Most f s
most f s = record { lines = most_lines f s; room = λ n l e. roomy n l e }
  where
    roomy : (n : ℕ) → 18_522 ≤ n → compare f s n ≢ uncompared 21
    roomy n l e = let t = refused_21 f s n e in let m = most_lines f s t.0 t.1 in let o = t.2 in let z : 1 ≤ 0 = omega arith in not-suc-le-zero z

-- what a pair that is gone, and one that is new, leave
holds_append : (ps qs : List Pair) (p : Pair) → holds (ps ++ qs) p ≡ holds ps p || holds qs p
unfolding holds
holds_append ps qs p = any_append (same_pair p) ps qs

drops : List Pair → List Pair → List Pair
drops [] ps = ps
drops (d ∷ ds) ps = drops ds (select (λ (q : Pair). not (same_pair d q)) ps)

and_all : (b : Bool) → b && true ≡ b
and_all true = refl
and_all false = refl

same_turn : (a b : Pair) → same_pair a b ≡ same_pair b a
same_turn a b = go (same_pair a b) (same_pair b a) refl refl
  where
    go : (x y : Bool) → same_pair a b ≡ x → same_pair b a ≡ y → x ≡ y
    go true true e d = refl
    go true false e d = clash (subst (λ (q : Pair). same_pair q a ≡ true) (same_eq a b e) (same_self a)) d
    go false true e d = clash (subst (λ (q : Pair). same_pair q b ≡ true) (same_eq b a d) (same_self b)) e
    go false false e d = refl

-- a test holds of some element that is selected exactly if it holds of some element that passes
holds_select : (t : Pair → Bool) (ps : List Pair) (p : Pair) → holds (select t ps) p ≡ holds ps p && t p
unfolding holds any select
holds_select t [] p = refl
holds_select t (q ∷ ps) p = go (t q) refl (same_pair p q) refl (holds_select t ps p)
  where
    go : (b : Bool) → t q ≡ b → (c : Bool) → same_pair p q ≡ c → any (same_pair p) (select t ps) ≡ any (same_pair p) ps && t p
        → any (same_pair p) (cond b (q ∷ select t ps) (select t ps)) ≡ (c || any (same_pair p) ps) && t p
    go true e true d h = ap (λ (z : Bool). z || any (same_pair p) (select t ps)) d ∙ sym (ap t (same_eq p q d) ∙ e)
    go true e false d h = ap (λ (z : Bool). z || any (same_pair p) (select t ps)) d ∙ h
    go false e true d h =
        let no : t p ≡ false = ap t (same_eq p q d) ∙ e in
        h ∙ ap (λ (z : Bool). any (same_pair p) ps && z) no ∙ and_none (any (same_pair p) ps) ∙ sym no
    go false e false d h = h

holds_missing : (ps qs : List Pair) (p : Pair) → holds (missing ps qs) p ≡ holds ps p && not (holds qs p)
unfolding missing
holds_missing ps qs p = holds_select (λ (a : Pair). not (holds qs a)) ps p

-- all pairs that are gone, and all that are new
holds_drops : (ds ps : List Pair) (p : Pair) → holds (drops ds ps) p ≡ holds ps p && not (holds ds p)
unfolding drops holds any
holds_drops [] ps p = sym (and_all (any (same_pair p) ps))
holds_drops (d ∷ ds) ps p =
    holds_drops ds (select (λ (q : Pair). not (same_pair d q)) ps) p
    ∙ ap (λ (b : Bool). b && not (any (same_pair p) ds)) (holds_select (λ (q : Pair). not (same_pair d q)) ps p)
    ∙ ap (λ (b : Bool). (any (same_pair p) ps && not b) && not (any (same_pair p) ds)) (same_turn d p)
    ∙ both (any (same_pair p) ps) (same_pair p d) (any (same_pair p) ds)
  where
    both : (a b c : Bool) → (a && not b) && not c ≡ a && not (b || c)
    both true true c = refl
    both true false c = refl
    both false b c = refl

gone_all : (x a : ℕ) (ds ps : List Pair) → made_all (map (pair_gone x) ds) (present a ps) ≡ present a (drops ds ps)
unfolding made_all made without_pair drops
gone_all x a [] ps = refl
gone_all x a (d ∷ ds) ps = gone_all x a ds (select (λ (q : Pair). not (same_pair d q)) ps)

new_all : (x a : ℕ) (ns ps : List Pair) → made_all (map (pair_new x) ns) (present a ps) ≡ present a (ps ++ ns)
unfolding made_all made with_pair
new_all x a [] ps = ap (present a) (sym (append-nil ps))
new_all x a (n ∷ ns) ps = new_all x a ns (ps ++ n ∷ []) ∙ ap (present a) (append_assoc ps (n ∷ []) ns)

made_append : (ls ms : List Line) (s : Seen) → made_all (ls ++ ms) s ≡ made_all ms (made_all ls s)
unfolding made_all
made_append [] ms s = refl
made_append (l ∷ ls) ms s = made_append ls ms (made l s)

-- the lines of a position make what stands there what the second list has
made_same : (x : ℕ) (s t : Seen) → SameAt (made_all (lines_at x s t) s) t
unfolding lines_at address_lines made_all made with_address
made_same x absent absent = tt
made_same x absent (present b qs) = subst (λ (u : Seen). SameAt u (present b qs)) (sym (new_all x b qs [])) (refl, λ p. refl)
made_same x (present a ps) absent = tt
made_same x (present a ps) (present b qs) = subst (λ (u : Seen). SameAt u (present b qs)) (sym made_all_lem) (refl, λ p. same_pairs p)
  where
    gs : List Pair
    gs = missing ps qs

    ns : List Pair
    ns = missing qs ps

    head : (e : Bool) → eqb a b ≡ e → made_all (cond e [] (address_changed x b ∷ [])) (present a ps) ≡ present b ps
    head true e = ap (λ (c : ℕ). present c ps) (eqb-true a b e)
    head false e = refl

    made_all_lem : made_all (address_lines x a b ++ map (pair_gone x) gs ++ map (pair_new x) ns) (present a ps) ≡ present b (drops gs ps ++ ns)
    made_all_lem =
        made_append (address_lines x a b ++ map (pair_gone x) gs) (map (pair_new x) ns) (present a ps)
        ∙ ap (made_all (map (pair_new x) ns)) (made_append (address_lines x a b) (map (pair_gone x) gs) (present a ps) ∙ ap (made_all (map (pair_gone x) gs)) (head (eqb a b) refl) ∙ gone_all x b gs ps)
        ∙ new_all x b ns (drops gs ps)

    same_pairs : (p : Pair) → holds (drops gs ps ++ ns) p ≡ holds qs p
    same_pairs p =
        holds_append (drops gs ps) ns p
        ∙ (λ i. (holds_drops gs ps p ∙ ap (λ (c : Bool). holds ps p && not c) (holds_missing ps qs p)) i || holds_missing qs ps p i)
        ∙ cases (holds ps p) (holds qs p)
      where
        cases : (a b : Bool) → (a && not (a && not b)) || (b && not a) ≡ b
        cases true true = refl
        cases true false = refl
        cases false true = refl
        cases false false = refl

-- outside 1 to 63 there is no row
nobody : (x : ℕ) (rs : List NodeRow) → All Good rs → (x < 1) ⊎ (1 + max_units ≤ x) → seen_at x rs ≡ absent
nobody x rs g l = (sees rs x).nobody (all_map (λ (r : NodeRow) (h : Good r) (e : r.position ≡ x). apart h e l) g)
  where
    apart : {r : NodeRow} → Good r → r.position ≡ x → (x < 1) ⊎ (1 + max_units ≤ x) → ⊥
    apart h e (inl m) = let z : 1 ≤ 0 = omega (arith, h.low, e, m) in not-suc-le-zero z
    apart h e (inr m) = let z : 1 ≤ 0 = omega (arith, h.high, e, m) in not-suc-le-zero z

applies_all : (f s : List NodeRow) → All Good f → All Good s → (x : ℕ) → SameAt (applied (differences f s) f x) (seen_at x s)
unfolding applied made_all at
applies_all f s g h x = go (inside x)
  where
    go : ((1 ≤ x) × (x ≤ max_units)) ⊎ ((x < 1) ⊎ (1 + max_units ≤ x)) → SameAt (made_all (select (is_about x) (differences f s)) (seen_at x f)) (seen_at x s)
    go (inl l) =
        subst (λ (ls : List Line). SameAt (made_all ls (seen_at x f)) (seen_at x s)) (sym (lines_about f s x l.0 l.1)) (made_same x (seen_at x f) (seen_at x s))
    go (inr l) = rw (no_lines f s x l, nobody x f g l, nobody x s h l) tt

-- the same on both sides has no lines
all_held : (ps qs : List Pair) → ((p : Pair) → holds ps p ≡ true → holds qs p ≡ true) → All (λ (p : Pair). not (holds qs p) ≡ false) ps
unfolding holds any
all_held [] qs h = all_nil
all_held (p ∷ ps) qs h =
    all_cons (ap not (h p (or_true_left (same_pair p p) (any (same_pair p) ps) (same_self p))))
    (all_held ps qs (λ q e. h q (or_true_right (same_pair q p) (any (same_pair q) ps) e)))

none_missing : (ps qs : List Pair) → ((p : Pair) → holds ps p ≡ holds qs p) → missing ps qs ≡ []
unfolding missing
none_missing ps qs h = select_none (λ (p : Pair). not (holds qs p)) (all_held ps qs (λ p e. sym (h p) ∙ e))

no_line : (x : ℕ) (s t : Seen) → SameAt s t → lines_at x s t ≡ []
unfolding lines_at address_lines missing
no_line x absent absent h = refl
no_line x absent (present b qs) h = absurd h
no_line x (present a ps) absent h = absurd h
no_line x (present a ps) (present b qs) h =
    (λ i. cond (eq-eqb a b h.0 i) [] (address_changed x b ∷ []) ++ map (pair_gone x) (none_missing ps qs (λ p. h.1 p) i) ++ map (pair_new x) (none_missing qs ps (λ p. sym (h.1 p)) i))

none_collected : (g : ℕ → List Line) → ((x : ℕ) → g x ≡ []) → (xs : List ℕ) → collect g xs ≡ []
unfolding collect
none_collected g h [] = refl
none_collected g h (x ∷ xs) = λ i. h x i ++ none_collected g h xs i

pub exact : (f s : List NodeRow) (room : ℕ) → Exact f s room
unfolding applied made_all select at differences
exact f s room =
    record {
      same = λ e x. applies [] e x;
      none = λ g h k l same. compared f s room g h k l ∙ ap (λ (ls : List Line). fitted ls room) (no_lines_at_all same) ∙ enough [] room (omega arith);
      applies = applies;
    }
  where
    applies : (ls : List Line) → compare f s room ≡ differ ls → (x : ℕ) → SameAt (applied ls f x) (seen_at x s)
    applies ls e x =
        let t = fitting f s ls room e in
        subst (λ (ms : List Line). SameAt (applied ms f x) (seen_at x s)) (sym t.lines) (applies_all f s t.first t.second x)

    no_lines_at_all : ((x : ℕ) → SameAt (seen_at x f) (seen_at x s)) → differences f s ≡ []
    no_lines_at_all same = none_collected (at f s) (λ x. no_line x (seen_at x f) (seen_at x s) (same x)) (up_from 1 max_units)
