-- The lines of all positions, one position at a time.
use Prim.Native.Nat.{ℕ, suc, ◌+◌, ◌≤◌}
use mathlib.Core.Path.{◌≡◌, refl, sym, ◌∙◌, ap}
use mathlib.Core.Bool.{Bool, true, false, cond}
use mathlib.Core.List.{List, [], ◌∷◌, ◌++◌, map}
use native.Mathlib.Omega.{arith}
use native.Mathlib.Numerals.{add-one}
use lib.Dec.{eqb}
use lib.ListN.{length, length-append, length-map}
use Rattle.laws.specs.Lists.{collect}
use Rattle.laws.specs.Alls.{collect_append}
use mathlib.Core.Logic.{◌⊎◌, inl, inr}
use Rattle.rules.specs.Ending.{missing}
use Rattle.rules_diff.specs.Differences.{Seen, absent, present, Line, address_changed, pair_gone, pair_new, address_lines, lines_at, line_bytes, lines_bytes}
use Rattle.row_node.specs.declared.NodeRow.{NodeRow}
use Rattle.std.specs.Prelude.{Option}
use Rattle.diff_rows.specs.Gathering.{seen_in}
use Rattle.diff_lines.specs.Comparing.{seen, lines_over}

-- as many lines at every position
pub same_many : (x y : ℕ) (s t : Seen) → length (lines_at x s t) ≡ length (lines_at y s t)
unfolding lines_at address_lines
same_many x y absent absent = refl
same_many x y absent (present b qs) = let e = length-map qs (pair_new x) in let f = length-map qs (pair_new y) in omega arith
same_many x y (present a ps) absent = refl
same_many x y (present a ps) (present b qs) = go (eqb a b)
  where
    lines : ℕ → Bool → List Line
    lines z e = cond e [] (address_changed z b ∷ []) ++ map (pair_gone z) (missing ps qs) ++ map (pair_new z) (missing qs ps)

    many : (z : ℕ) (e : Bool) → length (lines z e) ≡ length (cond e [] (address_changed z b ∷ [])) + length (missing ps qs) + length (missing qs ps)
    many z e =
        let h = cond e [] (address_changed z b ∷ []) in
        let g = map (pair_gone z) (missing ps qs) in
        let n = map (pair_new z) (missing qs ps) in
        omega (arith, length-append (h ++ g) n, length-append h g, length-map (missing ps qs) (pair_gone z), length-map (missing qs ps) (pair_new z))

    go : (e : Bool) → length (lines x e) ≡ length (lines y e)
    go true = many x true ∙ sym (many y true)
    go false = many x false ∙ sym (many y false)

-- the lines of two lists of seats from a position on: those of the one at hand and those behind it, and none where one of them ends
pub over_on : (x : ℕ) {ss ts before after : List (Option NodeRow)} {s t : Option NodeRow} → ss ≡ s ∷ before → ts ≡ t ∷ after
    → lines_over x (seen ss) (seen ts) ≡ lines_at x (seen_in s) (seen_in t) ++ lines_over (x + 1) (seen before) (seen after)
unfolding lines_over seen
over_on x {before = before} {after = after} {s = s} {t = t} e f =
    (λ i. lines_over x (seen (e i)) (seen (f i)))
    ∙ ap (λ (y : ℕ). lines_at x (seen_in s) (seen_in t) ++ lines_over y (seen before) (seen after)) (sym (add-one x))

pub over_end : (x : ℕ) {ss ts : List (Option NodeRow)} → (ss ≡ []) ⊎ (ts ≡ []) → lines_over x (seen ss) (seen ts) ≡ []
unfolding lines_over seen
over_end x {ts = ts} (inl e) = ap (λ (l : List (Option NodeRow)). lines_over x (seen l) (seen ts)) e
over_end x {ss} (inr f) = ap (λ (l : List (Option NodeRow)). lines_over x (seen ss) (seen l)) f ∙ ended (seen ss)
  where
    ended : (l : List Seen) → lines_over x l [] ≡ []
    ended [] = refl
    ended (s ∷ l) = refl

-- as many lines from every position on
pub over_many : (x y : ℕ) (ss ts : List Seen) → length (lines_over x ss ts) ≡ length (lines_over y ss ts)
unfolding lines_over
over_many x y [] ts = refl
over_many x y (s ∷ ss) [] = refl
over_many x y (s ∷ ss) (t ∷ ts) =
    let a = length-append (lines_at x s t) (lines_over (suc x) ss ts) in
    let b = length-append (lines_at y s t) (lines_over (suc y) ss ts) in
    omega (arith, a, b, same_many x y s t, over_many (suc x) (suc y) ss ts)

-- one turn of a count, and its end
pub count_on : (n : ℕ) {m : ℕ} {ss ts before after : List (Option NodeRow)} {s t : Option NodeRow} {whole : ℕ} → ss ≡ s ∷ before → ts ≡ t ∷ after
    → m ≡ length (lines_at 0 (seen_in s) (seen_in t)) → n + length (lines_over 1 (seen ss) (seen ts)) ≡ whole
    → n + m + length (lines_over 1 (seen before) (seen after)) ≡ whole
count_on n {before = before} {after = after} {s = s} {t = t} e f g h =
    let a = ap length (over_on 1 e f) in
    let b = length-append (lines_at 1 (seen_in s) (seen_in t)) (lines_over 2 (seen before) (seen after)) in
    omega (arith, a, b, same_many 1 0 (seen_in s) (seen_in t), over_many 2 1 (seen before) (seen after), g, h)

-- the same of their bytes
pub bytes_on : {x p y : ℕ} {ss ts before after : List (Option NodeRow)} {s t : Option NodeRow} → p ≡ x → y ≡ x + 1 → ss ≡ s ∷ before → ts ≡ t ∷ after
    → lines_bytes (lines_over x (seen ss) (seen ts)) ≡ lines_bytes (lines_at p (seen_in s) (seen_in t)) ++ lines_bytes (lines_over y (seen before) (seen after))
unfolding lines_bytes
bytes_on {x} {before = before} {after = after} {s = s} {t = t} g h e f =
    ap lines_bytes (over_on x e f) ∙ collect_append line_bytes _ _
    ∙ (λ i. lines_bytes (lines_at (sym g i) (seen_in s) (seen_in t)) ++ lines_bytes (lines_over (sym h i) (seen before) (seen after)))

pub bytes_long : {x p : ℕ} {ss ts before after : List (Option NodeRow)} {s t : Option NodeRow} → p ≡ x → ss ≡ s ∷ before → ts ≡ t ∷ after
    → length (lines_bytes (lines_at p (seen_in s) (seen_in t))) ≤ length (lines_bytes (lines_over x (seen ss) (seen ts)))
bytes_long {x} {p} {before = before} {after = after} {s = s} {t = t} g e f =
    let a = ap length (bytes_on {y = x + 1} g refl e f) in
    omega (arith, a, length-append (lines_bytes (lines_at p (seen_in s) (seen_in t))) (lines_bytes (lines_over (x + 1) (seen before) (seen after))))

pub bytes_end : (x : ℕ) {ss ts : List (Option NodeRow)} → (ss ≡ []) ⊎ (ts ≡ []) → lines_bytes (lines_over x (seen ss) (seen ts)) ≡ []
unfolding lines_bytes collect
bytes_end x e = ap lines_bytes (over_end x e)
