-- Lines as bytes: what a few stores write, and the lines of a position in their three parts.
use Prim.Native.Nat.{ℕ, ◌+◌}
use mathlib.Core.Path.{◌≡◌, refl, sym, ◌∙◌, ap}
use mathlib.Core.Bool.{Bool, true, false, cond}
use mathlib.Core.List.{List, [], ◌∷◌, ◌++◌, map}
use native.Mathlib.Numerals.{towards_suc}
use native.Mathlib.Omega.{arith}
use lib.Dec.{eqb}
use lib.ListN.{length, length-append, set}
use lib.Seq.{sets}
use Rattle.laws.specs.Buffers.{Wrote}
use Rattle.laws.specs.Lists.{collect}
use Rattle.laws.specs.Alls.{collect_append}
use Rattle.rules.specs.House.{line_size}
use Rattle.rules.specs.Picture.{Pair}
use Rattle.rules.specs.Event.{two}
use Rattle.rules_diff.specs.Differences as rules
use Rattle.rules_diff.specs.Differences.{Seen, absent, present, pair_gone, pair_new, lines_at, bytes_of, line_bytes, lines_bytes}
use Rattle.std.specs.Prelude.{Option, None, Some}
use Rattle.wire_pairs.specs.View.{pair_of, pair_in}
use Rattle.diff_changes.specs.declared.LineKind.{LineKind}
use Rattle.diff_changes.specs.declared.LineKind.TheVariants as kinds
use Rattle.diff_changes.specs.Changes.{number_of, told, seen_address, head_kind, head_lines, gone_in, new_in}
use Rattle.diff_changes.proofs.Parts.{in_parts}
use Rattle.diff_position.specs.Lines.{line_in, head_line, pair_line}
use Rattle.diff_position.specs.declared.Line.{Line}

-- one line, by two stores, a writer and two stores
pub wrote_line : {c : List ℕ} (b : List ℕ) (at : ℕ) (l : Line) {k : ℕ} → k ≡ number_of l.kind
    → c ≡ sets (set (set b (at + 0) k) (at + 1) l.position.0) (at + 2) (two l.address.0)
    → Wrote b at (line_in l) (at + line_size) (set (set c (at + 4) l.pair.block) (at + 5) l.pair.number)
unfolding line_in bytes_of two
wrote_line b at l h e = let z : at + 0 ≡ at = omega arith in record { buffer = rw (e, z, h) (simp towards_suc); place = refl }

-- how long a line is
pub line_length : (l : Line) → length (line_in l) ≡ line_size
unfolding line_in bytes_of two
line_length l = refl

-- a line of its own, or none
pub head_none : {o : Option LineKind} (x a : ℕ) → o ≡ None → head_line (told o) x a ≡ []
unfolding head_line
head_none x a e = ap (λ (o : Option LineKind). head_line (told o) x a) e

pub head_some : {o : Option LineKind} (l : Line) → o ≡ Some l.kind → l.pair.block ≡ 0 → l.pair.number ≡ 0
    → head_line (told o) l.position.0 l.address.0 ≡ line_in l
unfolding head_line line_in
head_some l e b n =
    ap (λ (o : Option LineKind). head_line (told o) l.position.0 l.address.0) e ∙ go l.kind
    ∙ (λ i. bytes_of (number_of l.kind) l.position.0 l.address.0 (sym b i) (sym n i))
  where
    go : (k : LineKind) → head_line (number_of k) l.position.0 l.address.0 ≡ bytes_of (number_of k) l.position.0 l.address.0 0 0
    go kinds.PositionGone = refl
    go kinds.PositionNew = refl
    go kinds.AddressChanged = refl
    go kinds.PairGone = refl
    go kinds.PairNew = refl

-- the bytes of lines one behind the other
bytes_append : (ls ms : List rules.Line) → lines_bytes (ls ++ ms) ≡ lines_bytes ls ++ lines_bytes ms
unfolding lines_bytes
bytes_append ls ms = collect_append line_bytes ls ms

-- the lines of pairs
gone_bytes : (x : ℕ) (ps : List Pair) → lines_bytes (map (pair_gone x) ps) ≡ collect (pair_line 4 x) ps
unfolding lines_bytes collect line_bytes pair_line
gone_bytes x [] = refl
gone_bytes x (p ∷ ps) = ap (λ (l : List ℕ). line_bytes (pair_gone x p) ++ l) (gone_bytes x ps)

new_bytes : (x : ℕ) (ps : List Pair) → lines_bytes (map (pair_new x) ps) ≡ collect (pair_line 5 x) ps
unfolding lines_bytes collect line_bytes pair_line
new_bytes x [] = refl
new_bytes x (p ∷ ps) = ap (λ (l : List ℕ). line_bytes (pair_new x p) ++ l) (new_bytes x ps)

-- the line of the position itself
head_bytes : (x : ℕ) (s t : Seen) → lines_bytes (head_lines (head_kind s t) x (seen_address t)) ≡ head_line (head_kind s t) x (seen_address t)
unfolding lines_bytes collect line_bytes head_kind head_lines head_line seen_address bytes_of two
head_bytes x absent absent = refl
head_bytes x absent (present b qs) = refl
head_bytes x (present a ps) absent = refl
head_bytes x (present a ps) (present b qs) = go (eqb a b)
  where
    go : (e : Bool) → lines_bytes (head_lines (cond e 0 3) x b) ≡ head_line (cond e 0 3) x b
    go true = refl
    go false = refl

-- the three parts
pub bytes_in_parts : (x : ℕ) (s t : Seen)
    → lines_bytes (lines_at x s t) ≡ head_line (head_kind s t) x (seen_address t) ++ collect (pair_line 4 x) (gone_in s t) ++ collect (pair_line 5 x) (new_in s t)
bytes_in_parts x s t =
    let h = head_lines (head_kind s t) x (seen_address t) in
    let g = map (pair_gone x) (gone_in s t) in
    let n = map (pair_new x) (new_in s t) in
    ap lines_bytes (in_parts x s t) ∙ bytes_append (h ++ g) n
    ∙ (λ i. (bytes_append h g ∙ (λ j. head_bytes x s t j ++ gone_bytes x (gone_in s t) j)) i ++ new_bytes x (new_in s t) i)

-- the lines of the pairs from a place on: the one at hand and those behind it, and none
pub lines_on : (l : Line) {ps rest : List Pair} → l.address.0 ≡ 0 → ps ≡ pair_in l.pair ∷ rest
    → collect (pair_line (number_of l.kind) l.position.0) ps ≡ line_in l ++ collect (pair_line (number_of l.kind) l.position.0) rest
unfolding collect pair_line pair_in pair_of line_in
lines_on l {rest = rest} z e =
    ap (collect (pair_line (number_of l.kind) l.position.0)) e
    ∙ ap (λ (a : ℕ). bytes_of (number_of l.kind) l.position.0 a l.pair.block l.pair.number ++ collect (pair_line (number_of l.kind) l.position.0) rest) (sym z)

pub lines_end : (k x : ℕ) {ps : List Pair} → ps ≡ [] → collect (pair_line k x) ps ≡ []
unfolding collect
lines_end k x e = ap (collect (pair_line k x)) e

-- the three parts as they are found, and how long they are together
module _ (x : ℕ) (s t : Seen) {k a : ℕ} {gs ns : List Pair} (e : k ≡ head_kind s t) (f : a ≡ seen_address t) (g : gs ≡ gone_in s t) (n : ns ≡ new_in s t) where
  pub found_parts : lines_bytes (lines_at x s t) ≡ head_line k x a ++ collect (pair_line 4 x) gs ++ collect (pair_line 5 x) ns
  found_parts = bytes_in_parts x s t ∙ sym (λ i. head_line (e i) x (f i) ++ collect (pair_line 4 x) (g i) ++ collect (pair_line 5 x) (n i))

  pub found_length : length (lines_bytes (lines_at x s t)) ≡ length (head_line k x a) + length (collect (pair_line 4 x) gs) + length (collect (pair_line 5 x) ns)
  found_length =
      let h = head_line k x a in
      let p = collect (pair_line 4 x) gs in
      let q = collect (pair_line 5 x) ns in
      omega (arith, ap length found_parts, length-append (h ++ p) q, length-append h p)
