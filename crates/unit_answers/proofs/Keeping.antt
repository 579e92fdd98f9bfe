-- Answers kept and dropped: one turn at a time, and the newest.
use Prim.Native.Nat.{ℕ, ◌+◌, ◌-◌, ◌≤◌, ◌<◌}
use mathlib.Core.Path.{◌≡◌, refl, sym, ◌∙◌, ap}
use mathlib.Core.Bool.{Bool, true, false, cond, not}
use mathlib.Core.List.{List, [], ◌∷◌, ◌++◌, append_assoc, append-nil}
use native.Mathlib.Omega.{arith}
use lib.ListN.{length, drop, get_or}
use Rattle.laws.specs.Lists.{select}
use Rattle.rules.specs.House.{max_answers}
use Rattle.rules.specs.Picture.{Pair, holds}
use Rattle.rules.specs.Event.{read_pairs}
use Rattle.rules_unit.specs.Slave.{Known, besides, newest, remember}
use Rattle.wire_pairs.specs.View.{pair_of}

-- two bytes are a pair in front of those behind them; fewer are none
pub read_on : (two rest : List ℕ) {b : List ℕ} → b ≡ two ++ rest → length two ≡ 2
    → read_pairs b ≡ pair_of (get_or two 0 0) (get_or two 1 0) ∷ read_pairs rest
unfolding read_pairs pair_of
read_on [] rest e h = absurd (omega arith)
read_on (x ∷ []) rest e h = absurd (omega arith)
read_on (x ∷ y ∷ []) rest e h = ap read_pairs e
read_on (x ∷ y ∷ z ∷ two) rest e h = absurd (omega arith)

pub read_few : (b : List ℕ) → length b < 2 → read_pairs b ≡ []
unfolding read_pairs
read_few [] h = refl
read_few (x ∷ []) h = refl
read_few (x ∷ y ∷ b) h = absurd (omega arith)

-- the answers that stay, one at a time: those found so far, and those of the rest
pub besides_on : (found next : List Known) {ks rest : List Known} {k : Known} (ps : List Pair) {g : Bool} {whole : List Known} → ks ≡ k ∷ rest
    → g ≡ holds ps k.pair → next ≡ found ++ cond g [] (k ∷ []) → found ++ besides ps ks ≡ whole → next ++ besides ps rest ≡ whole
unfolding besides select
besides_on found next {ks} {rest} {k} ps {g} e h f w =
    ap (λ (l : List Known). l ++ besides ps rest) f ∙ append_assoc found (cond g [] (k ∷ [])) (besides ps rest)
    ∙ ap (λ (l : List Known). found ++ l)
    (go g ∙ ap (λ (b : Bool). cond (not b) (k ∷ besides ps rest) (besides ps rest)) h ∙ sym (ap (besides ps) e)) ∙ w
  where
    go : (b : Bool) → cond b [] (k ∷ []) ++ besides ps rest ≡ cond (not b) (k ∷ besides ps rest) (besides ps rest)
    go true = refl
    go false = refl

pub besides_end : (found : List Known) {ks : List Known} (ps : List Pair) {whole : List Known} → ks ≡ [] → found ++ besides ps ks ≡ whole → found ≡ whole
unfolding besides select
besides_end found ps e h = sym (append-nil found) ∙ sym (ap (λ (l : List Known). found ++ besides ps l) e) ∙ h

-- as many as there may be are all; one more loses the first
pub newest_all : (n : ℕ) (ks : List Known) → length ks ≤ n → ks ≡ newest n ks
unfolding newest
newest_all n ks h = let e : length ks - n ≡ 0 = omega arith in rw e refl

pub newest_later : (n : ℕ) (ks : List Known) → length ks ≡ n + 1 → drop 1 ks ≡ newest n ks
unfolding newest
newest_later n ks h = let e : length ks - n ≡ 1 = omega arith in rw e refl

-- answers moved one at a time: those moved so far, and the rest
pub moved_on : (found next : List Known) {ks rest : List Known} {k : Known} {whole : List Known} → ks ≡ k ∷ rest → next ≡ found ++ k ∷ [] → found ++ ks ≡ whole
    → next ++ rest ≡ whole
moved_on found next {ks} {rest} {k} e f h =
    ap (λ (l : List Known). l ++ rest) f ∙ append_assoc found (k ∷ []) rest ∙ sym (ap (λ (l : List Known). found ++ l) e) ∙ h

pub moved_end : (found : List Known) {ks : List Known} {whole : List Known} → ks ≡ [] → found ++ ks ≡ whole → found ≡ whole
moved_end found e h = sym (append-nil found) ∙ sym (ap (λ (l : List Known). found ++ l) e) ∙ h

-- one answer more: the others, as many of the newest as leave a place, and it
pub remembered : (k : Known) (ks : List Known) {others kept next : List Known} → others ≡ besides (read_pairs (k.pair.block ∷ k.pair.number ∷ [])) ks
    → kept ≡ newest (max_answers - 1) others → next ≡ kept ++ k ∷ [] → next ≡ remember k ks
unfolding remember read_pairs
remembered k ks e f g = g ∙ ap (λ (l : List Known). l ++ k ∷ []) (f ∙ ap (newest (max_answers - 1)) e)
