-- A run of stores behind another that overlaps it.
use Prim.Native.Nat.{ℕ, ◌+◌, ◌-◌, ◌≤◌}
use mathlib.Core.Path.{◌≡◌, sym, ◌∙◌, ap}
use mathlib.Core.List.{List, ◌++◌, append_assoc}
use native.Mathlib.Omega.{arith}
use lib.ListN.{length, take, drop}
use lib.Seq.{length-sets}
use Rattle.std.proofs.Common.{drop-drop}
use Rattle.std.proofs.Math.Seq.{take-append_seam}
use Rattle.std.proofs.lemmas.List.{length-take, length-take-le, length-drop, take-append-drop, take-append-le, drop-take}
use Rattle.std.proofs.lemmas.List.Edits.{sets, sets-eq}
use Rattle.laws.specs.Buffers.{sets_append, sets_behind}

-- a run of stores, between what stands in front and behind
spread : (vs l : List ℕ) (i : ℕ) → i + length vs ≤ length l → sets l i vs ≡ take i l ++ (vs ++ drop (i + length vs) l)
spread vs l i h = sets-eq vs l i h ∙ append_assoc (take i l) vs (drop (i + length vs) l)

-- what stands in front of a run of stores stays
front : (c s : List ℕ) (i : ℕ) → i + length s ≤ length c → take i (sets c i s) ≡ take i c
front c s i h =
    let n = length-take-le i c (omega (arith, h)) in
    let whole = take i c ++ (s ++ drop (i + length s) c) in
    ap (take i) (spread s c i h) ∙ ap (λ (k : ℕ). take k whole) (sym n) ∙ take-append_seam (take i c) (s ++ drop (i + length s) c)

-- a run of stores over the start of itself
over : (c r : List ℕ) (i m : ℕ) → i + length r ≤ length c → sets (sets c i (take m r)) i r ≡ sets c i r
over c r i m h =
    let s = take m r in
    let d = sets c i s in
    let n : length s ≤ length r = omega (arith, length-take m r) in
    let rest : (l : List ℕ) → drop (i + length r) l ≡ drop (length r - length s) (drop (i + length s) l) =
    λ l. let e : i + length r ≡ i + length s + (length r - length s) = omega (arith, n) in ap (λ (k : ℕ). drop k l) e ∙ sym (drop-drop (length r - length s) (i + length s) l) in
    spread r d i (omega (arith, h, length-sets c i s))
    ∙ (λ t. front c s i (omega (arith, h, n)) t ++ (r ++ (rest d ∙ ap (drop (length r - length s)) (sets_behind c s i) ∙ sym (rest c)) t))
    ∙ sym (spread r c i h)

-- the first elements, and those up to a place behind them
parted : (p : List ℕ) (k w : ℕ) → k ≤ w → w ≤ length p → take w p ≡ take k p ++ take (w - k) (drop k p)
parted p k w l m =
    let n = length-take-le w p m in
    let front : take k (take w p) ≡ take k p = sym (take-append-le k (take w p) (drop w p) (omega (arith, l, n))) ∙ ap (take k) (take-append-drop w p) in
    let e : k + (w - k) ≡ w = omega (arith, l) in
    let rest : drop k (take w p) ≡ take (w - k) (drop k p) = ap (λ (j : ℕ). drop k (take j p)) (sym e) ∙ drop-take k (w - k) p in
    sym (take-append-drop k (take w p)) ∙ (λ t. front t ++ rest t)

-- the first bytes of a list, and those from a place on that is no further, are the list
pub overlapped : (b p : List ℕ) (at k w : ℕ) → k ≤ w → w ≤ length p → at + length p ≤ length b → sets (sets b at (take w p)) (at + k) (drop k p) ≡ sets b at p
overlapped b p at k w l m h =
    let n = length-take-le k p (omega (arith, l, m)) in
    let c = sets b at (take k p) in
    let first : sets b at (take w p) ≡ sets c (at + k) (take (w - k) (drop k p)) =
    ap (sets b at) (parted p k w l m) ∙ sym (sets_append b at (take k p) (take (w - k) (drop k p)))
    ∙ ap (λ (i : ℕ). sets c (at + i) (take (w - k) (drop k p))) n in
    ap (λ (x : List ℕ). sets x (at + k) (drop k p)) first
    ∙ over c (drop k p) (at + k) (w - k) (omega (arith, h, l, m, length-drop k p, length-sets b at (take k p)))
    ∙ ap (λ (i : ℕ). sets c (at + i) (drop k p)) (sym n) ∙ sets_append b at (take k p) (drop k p) ∙ ap (sets b at) (take-append-drop k p)
