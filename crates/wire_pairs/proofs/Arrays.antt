-- Blocks and numbers side by side: one place, a store, the length.
use Prim.Native.Nat.{ℕ, zero, suc, ◌+◌, ◌<◌, ◌≤◌, min}
use mathlib.Core.Path.{◌≡◌, refl, sym, ◌∙◌, ap}
use mathlib.Core.List.{List, [], ◌∷◌, ◌++◌, append_assoc, append-nil}
use native.Mathlib.Nat.{not-suc-le-zero, le_of_suc-le-suc}
use native.Mathlib.Omega.{arith}
use lib.ListN.{length, get_or, set, drop, take, drop_of_length-le}
use lib.Seq.{drop-cons}
use Rattle.laws.specs.Views.{firsts, firsts_length, firsts_here, firsts_at, firsts_push, firsts_min, take_firsts, take_past}
use Rattle.laws.specs.Bools.{decide}
use Rattle.std.proofs.Common.{add-one, take_all, leb, leb-true, leb-false}
use mathlib.Core.Logic.{◌⊎◌, inl, inr}
use mathlib.Core.Bool.{Bool, true, false, cond, not}
use Rattle.laws.specs.Lists.{select}
use Rattle.rules.specs.Ending.{missing}
use Rattle.rules.specs.Picture as rules
use Rattle.rules.specs.Picture.{Pair}
use Rattle.wire_pairs.specs.View.{pair_of, zip_pairs, pairs_from, pairs_of}
use Rattle.wire_pairs.specs.declared.Pairs.{Pairs}
use Rattle.rules.specs.House.{max_pairs}

-- the shorter one ends both
pub zip_short : (bs ns : List ℕ) → length (zip_pairs bs ns) ≡ min (length bs) (length ns)
unfolding zip_pairs
zip_short [] ns = omega arith
zip_short (b ∷ bs) [] = omega arith
zip_short (b ∷ bs) (n ∷ ns) = let e = zip_short bs ns in omega arith

-- as many as both have
pub zip_length : (n : ℕ) (bs ns : List ℕ) → length bs ≡ n → length ns ≡ n → length (zip_pairs bs ns) ≡ n
zip_length n bs ns h k = omega (arith, zip_short bs ns)

-- the pair at a place, and a store to both
pub zip_at : (i : ℕ) (bs ns : List ℕ) (d : Pair) → i < length bs → i < length ns → get_or (zip_pairs bs ns) i d ≡ pair_of (get_or bs i 0) (get_or ns i 0)
unfolding zip_pairs
zip_at i [] ns d h k = absurd (not-suc-le-zero h)
zip_at i (b ∷ bs) [] d h k = absurd (not-suc-le-zero k)
zip_at zero (b ∷ bs) (n ∷ ns) d h k = refl
zip_at (suc i) (b ∷ bs) (n ∷ ns) d h k = zip_at i bs ns d (le_of_suc-le-suc h) (le_of_suc-le-suc k)

pub zip_set : (i : ℕ) (bs ns : List ℕ) (b n : ℕ) → zip_pairs (set bs i b) (set ns i n) ≡ set (zip_pairs bs ns) i (pair_of b n)
unfolding zip_pairs
zip_set zero [] ns b n = refl
zip_set (suc i) [] ns b n = refl
zip_set zero (c ∷ bs) [] b n = refl
zip_set (suc i) (c ∷ bs) [] b n = refl
zip_set zero (c ∷ bs) (m ∷ ns) b n = refl
zip_set (suc i) (c ∷ bs) (m ∷ ns) b n = ap (λ (l : List Pair). pair_of c m ∷ l) (zip_set i bs ns b n)

-- the pair at a place, and those behind it; the first so many, and those behind them
pub zip_here : (bs ns : List ℕ) (i : ℕ) → i < length bs → i < length ns → drop i (zip_pairs bs ns) ≡ pair_of (get_or bs i 0) (get_or ns i 0) ∷ drop (i + 1) (zip_pairs bs ns)
zip_here bs ns i h k =
    let ps = zip_pairs bs ns in
    rw (add-one i) (drop-cons ps i (pair_of 0 0) (omega (arith, zip_short bs ns)) ∙ ap (λ (a : Pair). a ∷ drop (suc i) ps) (zip_at i bs ns (pair_of 0 0) h k))

pub zip_take : (n : ℕ) (bs ns : List ℕ) → zip_pairs (take n bs) (take n ns) ≡ take n (zip_pairs bs ns)
unfolding zip_pairs
zip_take zero bs ns = refl
zip_take (suc n) [] ns = refl
zip_take (suc n) (b ∷ bs) [] = refl
zip_take (suc n) (b ∷ bs) (m ∷ ns) = ap (λ (l : List Pair). pair_of b m ∷ l) (zip_take n bs ns)

zip_none : (bs : List ℕ) → zip_pairs bs [] ≡ []
unfolding zip_pairs
zip_none [] = refl
zip_none (b ∷ bs) = refl

pub zip_drop : (n : ℕ) (bs ns : List ℕ) → zip_pairs (drop n bs) (drop n ns) ≡ drop n (zip_pairs bs ns)
unfolding zip_pairs
zip_drop zero bs ns = refl
zip_drop (suc n) [] ns = refl
zip_drop (suc n) (b ∷ bs) [] = zip_none (drop n bs)
zip_drop (suc n) (b ∷ bs) (m ∷ ns) = zip_drop n bs ns

-- the first n of two arrays, each cut to them
pub zip_first : (n : ℕ) (bs ns : List ℕ) → zip_pairs (take n bs) (take n ns) ≡ pairs_from n bs ns
unfolding zip_pairs pairs_from firsts
zip_first zero bs ns = refl
zip_first (suc n) [] ns = refl
zip_first (suc n) (b ∷ bs) [] = refl
zip_first (suc n) (b ∷ bs) (m ∷ ns) = ap (λ (l : List Pair). pair_of b m ∷ l) (zip_first n bs ns)

-- two arrays of any length: the pair at i, and those behind it; how many there are
module _ (bs ns : List ℕ) where
  pub first_here : (c i : ℕ) → i < c → i < length bs → i < length ns
      → drop i (pairs_from c bs ns) ≡ pair_of (get_or bs i 0) (get_or ns i 0) ∷ drop (i + 1) (pairs_from c bs ns)
  unfolding pairs_from
  first_here c i l h k =
      firsts_here (λ (a : Pair). a) c i (pair_of 0 0) (zip_pairs bs ns) l (omega (arith, zip_short bs ns))
      ∙ ap (λ (a : Pair). a ∷ drop (i + 1) (firsts (λ (a : Pair). a) c (zip_pairs bs ns))) (zip_at i bs ns (pair_of 0 0) h k)

  pub first_length : (c : ℕ) → length (pairs_from c bs ns) ≡ min c (min (length bs) (length ns))
  unfolding pairs_from
  first_length c =
      let n = length (zip_pairs bs ns) in
      let e = firsts_length (λ (a : Pair). a) (min c n) (zip_pairs bs ns) (omega arith) in
      ap length (sym (firsts_min (λ (a : Pair). a) c n (zip_pairs bs ns) (omega arith))) ∙ e ∙ ap (min c) (zip_short bs ns)

  -- a smaller count is the first of them
  pub pairs_first : (c k : ℕ) → pairs_from (min c k) bs ns ≡ take k (pairs_from c bs ns)
  unfolding pairs_from
  pairs_first c k = go (decide (leb k c))
    where
      zs : List Pair
      zs = zip_pairs bs ns

      go : (leb k c ≡ true) ⊎ (leb k c ≡ false) → firsts (λ (a : Pair). a) (min c k) zs ≡ take k (firsts (λ (a : Pair). a) c zs)
      go (inl l) = let h = leb-true k c l in let e : min c k ≡ k = omega arith in rw e (sym (take_firsts (λ (a : Pair). a) k c zs h))
      go (inr l) = let h = leb-false k c l in let e : min c k ≡ c = omega arith in rw e (sym (take_past (λ (a : Pair). a) k c zs (omega arith)))

-- two arrays of one length
module _ (cap : ℕ) (bs ns : List ℕ) (h : length bs ≡ cap) (k : length ns ≡ cap) where
  -- the pair at i, and those behind it
  pub pairs_here : (c i : ℕ) → i < min c cap → drop i (pairs_from c bs ns) ≡ pair_of (get_or bs i 0) (get_or ns i 0) ∷ drop (i + 1) (pairs_from c bs ns)
  pairs_here c i l = first_here bs ns c i (omega arith) (omega arith) (omega arith)

  -- more than there are is all
  pub pairs_min : (c : ℕ) → pairs_from (min c cap) bs ns ≡ pairs_from c bs ns
  unfolding pairs_from
  pairs_min c = firsts_min (λ (a : Pair). a) c cap (zip_pairs bs ns) (omega (arith, zip_length cap bs ns h k))

  pub pairs_length : (c : ℕ) → length (pairs_from c bs ns) ≡ min c cap
  pairs_length c = omega (arith, first_length bs ns c)

  pub pairs_at_lem : (c i : ℕ) (d : Pair) → i < min c cap → get_or (pairs_from c bs ns) i d ≡ pair_of (get_or bs i 0) (get_or ns i 0)
  unfolding pairs_from
  pairs_at_lem c i d l =
      let z = zip_length cap bs ns h k in
      firsts_at (λ (a : Pair). a) c i d d (zip_pairs bs ns) (omega arith) (omega arith) ∙ zip_at i bs ns d (omega arith) (omega arith)

  -- one more pair
  pub pairs_push : (c b n : ℕ) → c < cap → pairs_from (c + 1) (set bs c b) (set ns c n) ≡ pairs_from c bs ns ++ pair_of b n ∷ []
  unfolding pairs_from
  pairs_push c b n l = ap (firsts (λ (a : Pair). a) (c + 1)) (zip_set c bs ns b n) ∙ firsts_push (λ (a : Pair). a) c (pair_of b n) (zip_pairs bs ns) (omega (arith, zip_length cap bs ns h k))

-- as many as are counted, and no more than there are places
pub pairs_count : (p : Pairs) → length p.blocks ≡ max_pairs → length p.numbers ≡ max_pairs → length (pairs_of p) ≡ min p.count max_pairs
unfolding pairs_of
pairs_count p h k = pairs_length max_pairs p.blocks p.numbers h k p.count

-- the pairs of a node, counted, and as two slices
module _ (p : Pairs) (n : ℕ) (l : n ≤ p.count) (h : length (pairs_of p) ≡ n) where
  pub pairs_cut : pairs_from n p.blocks p.numbers ≡ pairs_of p
  unfolding pairs_of pairs_from
  pairs_cut = sym (take_firsts (λ (a : Pair). a) n p.count (zip_pairs p.blocks p.numbers) l) ∙ take_all n (pairs_of p) (omega (arith, h))

  pub pairs_slices : zip_pairs (take n p.blocks) (take n p.numbers) ≡ pairs_of p
  pairs_slices = zip_first n p.blocks p.numbers ∙ pairs_cut

-- none past the end
pub none_past : (ps : List Pair) {n i : ℕ} → length ps ≡ n → n ≤ i → drop i ps ≡ []
none_past ps {n} {i} h l = drop_of_length-le ps {i = i} (omega arith)

-- the pairs that are missing, one at a time: those found so far, and those of the rest
pub missing_on : (found next : List Pair) {ps rest : List Pair} {a : Pair} (qs : List Pair) {k : Bool} {whole : List Pair} → ps ≡ a ∷ rest
    → k ≡ not (rules.holds qs a) → next ≡ found ++ cond k (a ∷ []) [] → found ++ missing ps qs ≡ whole → next ++ missing rest qs ≡ whole
unfolding missing select
missing_on found next {ps} {rest} {a} qs {k} e g f h =
    ap (λ (l : List Pair). l ++ missing rest qs) f ∙ append_assoc found (cond k (a ∷ []) []) (missing rest qs)
    ∙ ap (λ (l : List Pair). found ++ l)
    (go k ∙ ap (λ (b : Bool). cond b (a ∷ missing rest qs) (missing rest qs)) g ∙ sym (ap (λ (l : List Pair). missing l qs) e)) ∙ h
  where
    go : (b : Bool) → cond b (a ∷ []) [] ++ missing rest qs ≡ cond b (a ∷ missing rest qs) (missing rest qs)
    go true = refl
    go false = refl

pub missing_end : (found : List Pair) {ps : List Pair} (qs : List Pair) {whole : List Pair} → ps ≡ [] → found ++ missing ps qs ≡ whole → found ≡ whole
unfolding missing select
missing_end found qs e h = sym (append-nil found) ∙ sym (ap (λ (l : List Pair). found ++ missing l qs) e) ∙ h
