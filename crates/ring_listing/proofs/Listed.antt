-- Entries one behind the other: one more, those of a node, and those of the nodes passed.
use Prim.Native.Nat.{ℕ, zero, suc, ◌+◌, ◌<◌}
use mathlib.Core.Path.{◌≡◌, refl, sym, ◌∙◌, ap}
use mathlib.Core.List.{List, [], ◌∷◌, ◌++◌, append_assoc, append-nil, map}
use native.Mathlib.Omega.{arith}
use lib.ListN.{length, length-append, get_or, set, take, drop, replicate}
use Rattle.std.proofs.lemmas.List.{take_more, length-take-le, length-map}
use Rattle.std.proofs.lemmas.List.Edits.{sets}
use Rattle.laws.specs.Buffers.{sets_append}
use Rattle.rules.specs.House.{max_entries}
use Rattle.rules.specs.Picture.{Pair, Row, kept_in}
use Rattle.rules.specs.Listing.{Entry, entry, entries_of, entries_from}
use Rattle.row_entry.specs.declared.NodeEntry.{NodeEntry}
use Rattle.row_entry.specs.View.{row_of}
use Rattle.ring_listing.specs.declared.Listing.{Listing}
use Rattle.ring_listing.specs.View.{filled, flat_of}

map_append : {A B : Type 0} (f : A → B) (xs ys : List A) → map f (xs ++ ys) ≡ map f xs ++ map f ys
map_append f [] ys = refl
map_append {B = B} f (x ∷ xs) ys = ap (λ (l : List B). f x ∷ l) (map_append f xs ys)

-- one place more is filled
filled_one : (f : Entry → ℕ) (es : List Entry) (e : Entry) → set (filled (map f es)) (length es) (f e) ≡ filled (map f (es ++ e ∷ []))
unfolding filled
filled_one f es e =
    let n : length es ≡ 0 + length (map f es) = omega (arith, length-map es f) in
    ap (λ (k : ℕ). set (sets (replicate max_entries 0) 0 (map f es)) k (f e)) n
    ∙ sets_append (replicate max_entries 0) 0 (map f es) (f e ∷ []) ∙ ap (sets (replicate max_entries 0) 0) (sym (map_append f es (e ∷ [])))

-- a listing that counts so many places
unfoldable pub counting : ℕ → Listing → Listing
counting n l = record { count = n; positions = l.positions; addresses = l.addresses; blocks = l.blocks; numbers = l.numbers }

-- the count of its own
pub counting_own : (l : Listing) (n : ℕ) → n ≡ l.count → counting n l ≡ l
unfolding counting
counting_own l n e = λ t. record { count = e t; positions = l.positions; addresses = l.addresses; blocks = l.blocks; numbers = l.numbers }

-- one entry more, at the place that is counted to
pub counting_on : (l : Listing) (n m : ℕ) → m ≡ n + 1 → (e : Entry) (es : List Entry) → counting n l ≡ flat_of es
    → counting m
    (record {
      count = l.count;
      positions = set l.positions n e.position;
      addresses = set l.addresses n e.address;
      blocks = set l.blocks n e.pair.block;
      numbers = set l.numbers n e.pair.number;
    })
    ≡ flat_of (es ++ e ∷ [])
unfolding counting flat_of
counting_on l n m k e es h =
    let more : length es + 1 ≡ length (es ++ e ∷ []) = omega (arith, length-append es (e ∷ [])) in
    (λ t.
    record {
      count = k t;
      positions = set l.positions n e.position;
      addresses = set l.addresses n e.address;
      blocks = set l.blocks n e.pair.block;
      numbers = set l.numbers n e.pair.number;
    })
    ∙ (λ t.
    record {
      count = (h t).count + 1;
      positions = set (h t).positions (h t).count e.position;
      addresses = set (h t).addresses (h t).count e.address;
      blocks = set (h t).blocks (h t).count e.pair.block;
      numbers = set (h t).numbers (h t).count e.pair.number;
    })
    ∙ (λ t.
    record {
      count = more t;
      positions = filled_one (λ (e : Entry). e.position) es e t;
      addresses = filled_one (λ (e : Entry). e.address) es e t;
      blocks = filled_one (λ (e : Entry). e.pair.block) es e t;
      numbers = filled_one (λ (e : Entry). e.pair.number) es e t;
    })

-- the first elements and the one behind them
take_one : {A : Type 0} (i : ℕ) (xs : List A) {x : A} {rest : List A} → drop i xs ≡ x ∷ rest → take (suc i) xs ≡ take i xs ++ x ∷ []
take_one zero [] e = cc
take_one {A} zero (y ∷ xs) {x} e = let k : y ≡ x = cc in ap (λ (z : A). z ∷ []) k
take_one (suc i) [] e = cc
take_one {A} (suc i) (y ∷ xs) e = ap (λ (l : List A). y ∷ l) (take_one i xs e)

-- the entries of the first pairs of a node, and of the pair behind them
pub pairs_next : (x a i : ℕ) (es : List Entry) (ps : List Pair) {p : Pair} {rest : List Pair} → drop i ps ≡ p ∷ rest
    → (es ++ map (entry x a) (take i ps)) ++ entry x a p ∷ [] ≡ es ++ map (entry x a) (take (i + 1) ps)
pairs_next x a i es ps {p} h =
    append_assoc es (map (entry x a) (take i ps)) (entry x a p ∷ [])
    ∙ ap (λ (l : List Entry). es ++ l) (sym (map_append (entry x a) (take i ps) (p ∷ [])))
    ∙ (let z : i + 1 ≡ suc i = omega arith in rw z (ap (λ (l : List Pair). es ++ map (entry x a) l) (sym (take_one i ps h))))

entries_next : (x : ℕ) (r : Row) (rs : List Row) → entries_from x (rs ++ r ∷ []) ≡ entries_from x rs ++ entries_of (x + length rs) (kept_in r)
unfolding entries_from
entries_next x r [] = let z : x + 0 ≡ x = omega arith in rw z (append-nil (entries_of x (kept_in r)))
entries_next x r (a ∷ rs) =
    let z : x + suc (length rs) ≡ suc x + length rs = omega arith in
    rw (z, append_assoc) (ap (λ (l : List Entry). entries_of x (kept_in a) ++ l) (entries_next (suc x) r rs))

-- the entries of the first nodes, and of the one behind them
pub nodes_next : (es : List NodeEntry) (i : ℕ) (d : NodeEntry) → i < length es
    → entries_from 1 (map row_of (take i es)) ++ entries_of (i + 1) (kept_in (row_of (get_or es i d))) ≡ entries_from 1 (map row_of (take (i + 1) es))
nodes_next es i d h =
    let z : 1 + length (map row_of (take i es)) ≡ i + 1 = omega (arith, length-map (take i es) row_of, length-take-le i es (omega arith)) in
    ap (λ (x : ℕ). entries_from 1 (map row_of (take i es)) ++ entries_of x (kept_in (row_of (get_or es i d)))) (sym z)
    ∙ sym (entries_next 1 (row_of (get_or es i d)) (map row_of (take i es)))
    ∙ ap (entries_from 1) (sym (ap (map row_of) (take_more es i d h) ∙ map_append row_of (take i es) (get_or es i d ∷ [])))

pub flat_count : {l : Listing} (es : List Entry) → l ≡ flat_of es → l.count ≡ length es
unfolding flat_of
flat_count es h = ap (λ (l : Listing). l.count) h
