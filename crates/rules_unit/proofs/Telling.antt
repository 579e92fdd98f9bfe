-- What a row no longer keeps is told: an answer that is listed stays listed, or its pair is named by an INVALID.
use Prim.Native.Nat.{ℕ, suc, ◌-◌, ◌/◌, ◌≤◌}
use mathlib.Core.Path.{◌≡◌, refl, sym, ◌∙◌, ap, subst}
use mathlib.Core.Bool.{Bool, true, false, cond, not, ◌&&◌, ◌||◌}
use mathlib.Core.List.{List, [], ◌∷◌, ◌++◌, map}
use mathlib.Core.Logic.{◌⊎◌, inl, inr}
use native.Mathlib.Omega.{arith}
use borrow.Author.Tests.{eqb-true, eq-eqb}
use lib.Dec.{eqb}
use lib.ListN.{length}
use Rattle.laws.specs.Lists.{any, select}
use Rattle.laws.specs.Bools.{clash, decide, and_left, and_right, and_true, and_none, not_false, or_cases, or_true_left, or_true_right, on_cond}
use Rattle.laws.specs.Alls.{Each, each_nil, each_cons, any_append, any_left, any_right, any_mapped, any_collect}
use Rattle.rules.specs.Picture.{Pair, same_pair, holds, Row, Kept, nothing, kept, kept_in, kept_by, pairs_of, pairs_in, has_address, has_other_address, keeps, keeps_other, with_status, WAITING, is_silent, Seat}
use Rattle.rules.specs.Order.{INVALID}
use Rattle.rules.specs.Listing.{Entry, entry, entries_of, entries_from}
use Rattle.rules.specs.Step.{silenced, asked, ignored, counted, judged_for, renumbering_for, listed_row}
use Rattle.rules.specs.Renumber.{goods}
use Rattle.rules.specs.Ending.{missing, packed, tell, lost, tell_rows}
use Rattle.rules.proofs.Pairs.{same_eq}
use Rattle.rules.proofs.Sound.{kept_after}
use Rattle.rules.proofs.RingChange.{packed_all}
use Rattle.rules_unit.specs.Slave.{Known, named}
use Rattle.rules_unit.specs.Claims.{matches}
use Rattle.rules_unit.proofs.Hearing.{names}

-- the row keeps the answer's pair, with its address
abbrev pub lists : Known → Row → Bool
lists k r = keeps k.address r && holds (pairs_in r) k.pair

-- an answer is in the listing just where some row has it
spread : (s e r : Bool) → ((s && e) || (e && r)) ≡ (e && (s || r))
spread true true r = refl
spread false true r = refl
spread true false r = refl
spread false false r = refl

listed_row_lem : (k : Known) (x : ℕ) (l : Kept) → any (matches k) (entries_of x l) ≡ has_address k.address l && holds (pairs_of l) k.pair
unfolding any entries_of has_address pairs_of holds matches entry
listed_row_lem k x nothing = refl
listed_row_lem k x (kept a ps) = go ps
  where
    go : (qs : List Pair) → any (matches k) (map (entry x a) qs) ≡ eqb k.address a && any (same_pair k.pair) qs
    go [] = sym (and_none (eqb k.address a))
    go (q ∷ qs) =
        ap (λ (b : Bool). (same_pair k.pair q && eqb k.address a) || b) (go qs)
        ∙ spread (same_pair k.pair q) (eqb k.address a) (any (same_pair k.pair) qs)

pub listed_rows_lem : (k : Known) (x : ℕ) (rows : List Row) → any (matches k) (entries_from x rows) ≡ any (lists k) rows
unfolding any entries_from keeps pairs_in
listed_rows_lem k x [] = refl
listed_rows_lem k x (r ∷ rows) =
    any_append (matches k) (entries_of x (kept_in r)) (entries_from (suc x) rows)
    ∙ (λ i. listed_row_lem k x (kept_in r) i || listed_rows_lem k (suc x) rows i)

-- its pair is one of the listed pairs
pub listed_pair : (k : Known) (es : List Entry) → any (matches k) es ≡ true → holds (map (λ (e : Entry). e.pair) es) k.pair ≡ true
unfolding any holds matches
listed_pair k [] h = h
listed_pair k (e ∷ es) h = go (or_cases (matches k e) (any (matches k) es) h) (listed_pair k es)
  where
    go : (matches k e ≡ true) ⊎ (any (matches k) es ≡ true) → (any (matches k) es ≡ true → holds (map (λ (d : Entry). d.pair) es) k.pair ≡ true)
        → (same_pair k.pair e.pair || any (same_pair k.pair) (map (λ (d : Entry). d.pair) es)) ≡ true
    go (inl m) later = or_true_left (same_pair k.pair e.pair) _ (and_left (same_pair k.pair e.pair) _ m)
    go (inr m) later = or_true_right (same_pair k.pair e.pair) _ (later m)

-- what the second list lacks is missing
missing_holds : (xs ys : List Pair) (a : Pair) → holds xs a ≡ true → holds ys a ≡ false → holds (missing xs ys) a ≡ true
unfolding missing holds any select
missing_holds [] ys a h n = h
missing_holds (x ∷ xs) ys a h n = go (or_cases (same_pair a x) (any (same_pair a) xs) h) (λ (t : any (same_pair a) xs ≡ true). missing_holds xs ys a t n)
  where
    rest : List Pair
    rest = select (λ (b : Pair). not (any (same_pair b) ys)) xs

    go : (same_pair a x ≡ true) ⊎ (any (same_pair a) xs ≡ true) → (any (same_pair a) xs ≡ true → any (same_pair a) rest ≡ true)
        → any (same_pair a) (cond (not (any (same_pair x) ys)) (x ∷ rest) rest) ≡ true
    go (inl e) later =
        subst (λ (b : Bool). any (same_pair a) (cond (not b) (x ∷ rest) rest) ≡ true)
        (sym (subst (λ (z : Pair). any (same_pair z) ys ≡ false) (same_eq a x e) n)) (or_true_left (same_pair a x) (any (same_pair a) rest) e)
    go (inr e) later =
        on_cond (λ (l : List Pair). any (same_pair a) l ≡ true) (not (any (same_pair x) ys)) (x ∷ rest) rest
        (λ _. or_true_right (same_pair a x) (any (same_pair a) rest) (later e)) (λ _. later e)

-- whatever is told INVALID, some order names it
pub in_told : (k : Known) (size : ℕ) (ps : List Pair) → 3 ≤ size → holds ps k.pair ≡ true → any (names k) (tell INVALID size ps) ≡ true
unfolding tell named holds
in_told k size ps l h =
    let cap = (size - 1) / 2 in
    let parts = packed (length ps) cap ps in
    any_mapped (names k) INVALID parts
    ∙ sym (any_collect (same_pair k.pair) (λ (q : List Pair). q) parts)
    ∙ ap (any (same_pair k.pair)) (packed_all (length ps) cap ps (omega arith) (omega arith)) ∙ h

-- a row that keeps its address, or no pairs
abbrev pub Stays : Row → Row → Type 0
Stays r s = (a : ℕ) → keeps a r ≡ true → (keeps a s ≡ true) ⊎ (pairs_in s ≡ [])

-- of such rows, what is no longer listed is told INVALID
pub listed_or_told : (k : Known) (size : ℕ) → 3 ≤ size → {rows after : List Row} → Each Stays rows after → any (lists k) rows ≡ true
    → (any (lists k) after ≡ true) ⊎ (any (names k) (tell_rows INVALID lost size rows after) ≡ true)
unfolding any tell_rows holds lost
listed_or_told k size l each_nil h = clash h refl
listed_or_told k size l (each_cons {x = r} {y = s} {xs = rs} {ys = ss} t ts) h =
    go (or_cases (lists k r) (any (lists k) rs) h) (listed_or_told k size l ts)
  where
    Goal : Type 0
    Goal = ((lists k s || any (lists k) ss) ≡ true) ⊎ (any (names k) (tell INVALID size (lost r s) ++ tell_rows INVALID lost size rs ss) ≡ true)

    here : keeps k.address r ≡ true → holds (pairs_in r) k.pair ≡ true → (keeps k.address s ≡ true) ⊎ (pairs_in s ≡ [])
        → (holds (pairs_in s) k.pair ≡ true) ⊎ (holds (pairs_in s) k.pair ≡ false) → Goal
    here e f (inl a) (inl b) = inl (or_true_left (lists k s) _ (and_true (keeps k.address s) _ a b))
    here e f (inr a) (inl b) = clash b (ap (λ (ps : List Pair). holds ps k.pair) a)
    here e f a (inr b) = inr (any_left (names k) (tell INVALID size (lost r s)) _ (in_told k size (lost r s) l (missing_holds (pairs_in r) (pairs_in s) k.pair f b)))

    go : (lists k r ≡ true) ⊎ (any (lists k) rs ≡ true)
        → (any (lists k) rs ≡ true → (any (lists k) ss ≡ true) ⊎ (any (names k) (tell_rows INVALID lost size rs ss) ≡ true)) → Goal
    go (inl e) later =
        let a = and_left (keeps k.address r) _ e in
        here a (and_right (keeps k.address r) _ e) (t k.address a) (decide (holds (pairs_in s) k.pair))
    go (inr e) later = behind (later e)
      where
        behind : (any (lists k) ss ≡ true) ⊎ (any (names k) (tell_rows INVALID lost size rs ss) ≡ true) → Goal
        behind (inl m) = inl (or_true_right (lists k s) _ m)
        behind (inr m) = inr (any_right (names k) (tell INVALID size (lost r s)) _ m)

-- what a change does to one row
pub stays_same : (r : Row) → Stays r r
stays_same r a h = inl h

pub stays_silenced : (r : Row) → Stays r (silenced r)
unfolding silenced kept_by pairs_in pairs_of
stays_silenced r a h = inr refl

pub stays_ignored : (b : ℕ) (r : Row) → Stays r (ignored b r)
unfolding ignored with_status kept_by pairs_in pairs_of
stays_ignored b r a h = inr refl

pub stays_out : (b : ℕ) (r : Row) → Stays r (ignored b (counted r))
unfolding ignored with_status kept_by pairs_in pairs_of
stays_out b r a h = inr refl

pub stays_asked : (r : Row) → Stays r (asked r)
unfolding asked with_status kept_by pairs_in pairs_of
stays_asked r = on_cond (Stays r) (is_silent r) (with_status WAITING r) r (λ _ a h. inr refl) (λ _ a h. inl h)

-- an answer that is kept has the address that its row kept
same_address : (b a : ℕ) (l : Kept) → has_other_address a l ≡ false → has_address b l ≡ true → b ≡ a
unfolding has_other_address has_address
same_address b a nothing o h = clash h refl
same_address b a (kept c ps) o h = eqb-true b c h ∙ sym (eqb-true a c (not_false (eqb a c) o))

pub stays_listed : (s : Seat) (a : ℕ) (ps : List Pair) → keeps_other a s.row ≡ false → Stays s.row (listed_row s a ps)
unfolding keeps_other keeps listed_row has_address
stays_listed s a ps o b h =
    inl (ap (has_address b) (kept_after a (goods (judged_for s ps)) (renumbering_for s ps)) ∙ eq-eqb b a (same_address b a (kept_in s.row) o h))
