-- Judging in order: one pair at a time, the good ones collected, and the marks that stand for other rows.
use Prim.Native.Nat.{ℕ, zero, suc, ◌+◌, ◌<◌, ◌≤◌}
use mathlib.Core.Path.{◌≡◌, refl, sym, ◌∙◌, ap}
use mathlib.Core.Bool.{Bool, true, false, cond, not, ◌&&◌, ◌||◌}
use mathlib.Core.List.{List, [], ◌∷◌, ◌++◌, map, append_assoc, append-nil}
use native.Mathlib.Nat.{not-suc-le-zero, le_of_suc-le-suc}
use native.Mathlib.Numerals.{add-one}
use native.Mathlib.Omega.{arith}
use lib.ListN.{length, get_or, set, take, drop, replicate, drop_of_length-le}
use lib.Dec.{leb}
use lib.Seq.{take_all, drop-cons}
use Rattle.laws.specs.Lists.{any}
use Rattle.rules.specs.House.{min_number, max_number}
use Rattle.rules.specs.Picture.{Pair, same_pair, holds}
use Rattle.rules.specs.Renumber.{Judged, is_good, judge, goods}
use Rattle.row_judge.proofs.Holding.{pair_here}
use Rattle.row_judge.specs.Marks.{or_each, is_good_marked, judge_marked, judged_of}

-- the judged pair at j, and those behind it
judged_drop : (j : ℕ) (e : Pair) (d : Bool) (ps : List Pair) (gs : List Bool) → j < length ps → j < length gs
    → drop j (judged_of ps gs) ≡ record { pair = get_or ps j e; good = get_or gs j d } ∷ drop (suc j) (judged_of ps gs)
unfolding judged_of
judged_drop j e d [] gs h k = absurd (not-suc-le-zero h)
judged_drop j e d (p ∷ ps) [] h k = absurd (not-suc-le-zero k)
judged_drop zero e d (p ∷ ps) (g ∷ gs) h k = refl
judged_drop (suc j) e d (p ∷ ps) (g ∷ gs) h k = judged_drop j e d ps gs (le_of_suc-le-suc h) (le_of_suc-le-suc k)

pub judged_at : (j : ℕ) (ps : List Pair) (gs : List Bool) {a : Pair} {b : Bool} → j < length ps → drop j ps ≡ a ∷ drop (j + 1) ps → j < length gs → get_or gs j false ≡ b
    → drop j (judged_of ps gs) ≡ record { pair = a; good = b } ∷ drop (j + 1) (judged_of ps gs)
judged_at j ps gs {a} h e k g =
    rw (add-one j) (judged_drop j a false ps gs h k)
    ∙ (λ i. record { pair = pair_here j a ps h e i; good = g i } ∷ drop (j + 1) (judged_of ps gs))

-- none past the end
pub judged_end : (j : ℕ) (ps : List Pair) (gs : List Bool) → length ps ≤ j → drop j (judged_of ps gs) ≡ []
unfolding judged_of
judged_end zero [] gs h = refl
judged_end (suc j) [] gs h = refl
judged_end zero (p ∷ ps) gs h = absurd (not-suc-le-zero h)
judged_end (suc j) (p ∷ ps) [] h = refl
judged_end (suc j) (p ∷ ps) (g ∷ gs) h = judged_end j ps gs (le_of_suc-le-suc h)

pub judged_few : (ps : List Pair) (gs : List Bool) → length (judged_of ps gs) ≤ length ps
unfolding judged_of
judged_few [] gs = omega arith
judged_few (p ∷ ps) [] = omega arith
judged_few (p ∷ ps) (g ∷ gs) = let h = judged_few ps gs in omega arith

-- one more mark
judged_push : (j : ℕ) (e : Pair) (b : Bool) (ps : List Pair) (gs : List Bool) → j < length ps → j < length gs
    → take (suc j) (judged_of ps (set gs j b)) ≡ take j (judged_of ps gs) ++ record { pair = get_or ps j e; good = b } ∷ []
unfolding judged_of
judged_push j e b [] gs h k = absurd (not-suc-le-zero h)
judged_push j e b (p ∷ ps) [] h k = absurd (not-suc-le-zero k)
judged_push zero e b (p ∷ ps) (g ∷ gs) h k = refl
judged_push (suc j) e b (p ∷ ps) (g ∷ gs) h k = ap (λ (l : List Judged). record { pair = p; good = g } ∷ l) (judged_push j e b ps gs (le_of_suc-le-suc h) (le_of_suc-le-suc k))

longer : (p : Pair) (xs ys : List Pair) → ((a : Pair) → holds xs a ≡ holds ys a) → (a : Pair) → holds (p ∷ xs) a ≡ holds (p ∷ ys) a
unfolding holds any
longer p xs ys h a = ap (λ (c : Bool). same_pair a p || c) (h a)

-- of the earlier pairs it counts only which they are
judge_same : (hs : List Bool) (xs ys ps : List Pair) → ((a : Pair) → holds xs a ≡ holds ys a) → judge_marked hs xs ps ≡ judge_marked hs ys ps
unfolding judge_marked is_good_marked
judge_same hs xs ys [] h = refl
judge_same [] xs ys (p ∷ ps) h = refl
judge_same (b ∷ hs) xs ys (p ∷ ps) h =
    (λ i. record { pair = p; good = leb min_number p.number && leb p.number max_number && not b && not (h p i) }
    ∷ judge_same hs (p ∷ xs) (p ∷ ys) ps (longer p xs ys h) i)

-- the pair at j is the last of the first j + 1
take_next : (j : ℕ) (e : Pair) (ps : List Pair) → j < length ps → take (suc j) ps ≡ take j ps ++ get_or ps j e ∷ []
take_next j e [] h = absurd (not-suc-le-zero h)
take_next zero e (p ∷ ps) h = refl
take_next (suc j) e (p ∷ ps) h = ap (λ (l : List Pair). p ∷ l) (take_next j e ps (le_of_suc-le-suc h))

holds_last : (p : Pair) (xs : List Pair) (a : Pair) → holds (p ∷ xs) a ≡ holds (xs ++ p ∷ []) a
unfolding holds any
holds_last p [] a = refl
holds_last p (x ∷ xs) a = swap (same_pair a p) (same_pair a x) (any (same_pair a) xs) ∙ ap (λ (c : Bool). same_pair a x || c) (holds_last p xs a)
  where
    swap : (b c d : Bool) → (b || (c || d)) ≡ (c || (b || d))
    swap true true d = refl
    swap true false d = refl
    swap false true d = refl
    swap false false d = refl

module _ (hs : List Bool) (ps : List Pair) where
  here : (j : ℕ) (e : Pair) (d : Bool) → j < length ps → j < length hs
      → judge_marked (drop j hs) (take j ps) (drop j ps)
      ≡ record { pair = get_or ps j e; good = is_good_marked (get_or hs j d) (take j ps) (get_or ps j e) } ∷ judge_marked (drop (suc j) hs) (take (suc j) ps) (drop (suc j) ps)
  unfolding judge_marked
  here j e d h k =
      (λ i. judge_marked (drop-cons hs j d k i) (take j ps) (drop-cons ps j e h i))
      ∙ ap (λ (l : List Judged). record { pair = get_or ps j e; good = is_good_marked (get_or hs j d) (take j ps) (get_or ps j e) } ∷ l)
      (judge_same (drop (suc j) hs) (get_or ps j e ∷ take j ps) (take (suc j) ps) (drop (suc j) ps)
      (λ a. holds_last (get_or ps j e) (take j ps) a ∙ ap (λ (l : List Pair). holds l a) (sym (take_next j e ps h))))

  pub judge_on : (j : ℕ) (d : Bool) (gs : List Bool) {e : Pair} {b : Bool} {whole : List Judged} → j < length ps → drop j ps ≡ e ∷ drop (j + 1) ps
      → j < length hs → j < length gs → b ≡ is_good_marked (get_or hs j d) (take j ps) e
      → take j (judged_of ps gs) ++ judge_marked (drop j hs) (take j ps) (drop j ps) ≡ whole
      → take (j + 1) (judged_of ps (set gs j b)) ++ judge_marked (drop (j + 1) hs) (take (j + 1) ps) (drop (j + 1) ps) ≡ whole
  judge_on j d gs {e} {b} h at k m g w =
      let f = g ∙ ap (is_good_marked (get_or hs j d) (take j ps)) (sym (pair_here j e ps h at)) in
      rw (add-one j)
      (ap (λ (l : List Judged). l ++ judge_marked (drop (suc j) hs) (take (suc j) ps) (drop (suc j) ps)) (judged_push j e b ps gs h m)
      ∙ append_assoc (take j (judged_of ps gs)) (record { pair = get_or ps j e; good = b } ∷ []) _
      ∙ ap (λ (c : Bool). take j (judged_of ps gs) ++ record { pair = get_or ps j e; good = c } ∷ judge_marked (drop (suc j) hs) (take (suc j) ps) (drop (suc j) ps)) f
      ∙ ap (λ (l : List Judged). take j (judged_of ps gs) ++ l) (sym (here j e d h k)) ∙ w)

  pub judge_end : (j : ℕ) (gs : List Bool) {whole : List Judged} → length ps ≤ j
      → take j (judged_of ps gs) ++ judge_marked (drop j hs) (take j ps) (drop j ps) ≡ whole → judged_of ps gs ≡ whole
  unfolding judge_marked
  judge_end j gs h w =
      sym (take_all j (judged_of ps gs) (omega (arith, judged_few ps gs))) ∙ sym (append-nil (take j (judged_of ps gs)))
      ∙ (λ i. take j (judged_of ps gs) ++ judge_marked (drop j hs) (take j ps) (sym (drop_of_length-le ps h) i)) ∙ w

-- the good ones, one at a time: those found so far, and those of the rest
pub goods_on : (found next : List Pair) {js rest : List Judged} {a : Pair} {b : Bool} {whole : List Pair} → js ≡ record { pair = a; good = b } ∷ rest
    → next ≡ found ++ cond b (a ∷ []) [] → found ++ goods js ≡ whole → next ++ goods rest ≡ whole
unfolding goods
goods_on found next {rest = rest} {a = a} {b = b} e f h =
    ap (λ (l : List Pair). l ++ goods rest) f ∙ append_assoc found (cond b (a ∷ []) []) (goods rest)
    ∙ ap (λ (l : List Pair). found ++ l) (go b ∙ sym (ap goods e)) ∙ h
  where
    go : (c : Bool) → cond c (a ∷ []) [] ++ goods rest ≡ cond c (a ∷ goods rest) (goods rest)
    go true = refl
    go false = refl

pub goods_end : (found : List Pair) {js : List Judged} {whole : List Pair} → js ≡ [] → found ++ goods js ≡ whole → found ≡ whole
unfolding goods
goods_end found e h = sym (append-nil found) ∙ sym (ap (λ (l : List Judged). found ++ goods l) e) ∙ h

-- marks that say what other rows keep make the rules' judging
pub judge_marked_lem : (n : ℕ) (elsewhere earlier ps : List Pair) → length ps ≤ n
    → judge_marked (or_each (replicate n false) (map (holds elsewhere) ps)) earlier ps ≡ judge elsewhere earlier ps
unfolding judge_marked judge or_each is_good_marked is_good
judge_marked_lem n elsewhere earlier [] h = refl
judge_marked_lem zero elsewhere earlier (p ∷ ps) h = absurd (not-suc-le-zero h)
judge_marked_lem (suc n) elsewhere earlier (p ∷ ps) h =
    ap (λ (l : List Judged). record { pair = p; good = is_good elsewhere earlier p } ∷ l) (judge_marked_lem n elsewhere (p ∷ earlier) ps (le_of_suc-le-suc h))
