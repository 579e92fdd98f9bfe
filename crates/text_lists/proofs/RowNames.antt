-- What names a row, read word by word.
use Prim.Native.Nat.{ℕ}
use mathlib.Core.Path.{◌≡◌, sym, ◌∙◌, ap}
use mathlib.Core.List.{List, []}
use Rattle.std.specs.Prelude.{Result, Ok, Err}
use Rattle.text_arguments.specs.declared.Reason.{Reason}
use Rattle.text_arguments.specs.declared.Arguments.{Arguments}
use Rattle.text_arguments.specs.Reading.{Found, found, value_of, place_of, behind, decimal_at, hex_at}
use Rattle.text_lists.specs.declared.RowWords.{RowWords}
use Rattle.text_lists.specs.Lists.{max_position, pairs_at, pairs_stored, position_at, address_at, row_words, stored_behind, row_stored}

-- an answer and its place are what is found
value_ok : (at : ℕ) {v : ℕ} (f : Result Found Reason) → Ok v ≡ value_of f → f ≡ found v (place_of at f)
value_ok at {v} (Ok f) h = let e : f.value ≡ v = cc in ap (λ (n : ℕ). found n f.at) e
value_ok at (Err r) h = cc

value_err : {r : Reason} (f : Result Found Reason) → Err r ≡ value_of f → f ≡ Err r
value_err (Ok f) h = cc
value_err (Err r) h = cc

-- a row of its three parts
abbrev rows : Result Found Reason → (ℕ → Result Found Reason) → (ℕ → Result Found Reason) → Result RowWords Reason
rows p a n =
    behind p (λ (f : Found). behind (a f.at) (λ (g : Found). behind (n g.at) (λ (h : Found). Ok (record { position = f.value; address = g.value; pairs = h.value }))))

abbrev stored : Result Found Reason → (ℕ → Result Found Reason) → (ℕ → List ℕ) → List ℕ
stored p a bytes = stored_behind (behind p (λ (f : Found). a f.at)) bytes

-- the arguments as they came, behind the position, and behind the address
module _ (a b : Arguments) (p : b ≡ record a { at = place_of a.at (decimal_at a.line.now max_position a.at) }) where
  pub no_position : {r : Reason} → Err r ≡ value_of (decimal_at a.line.now max_position a.at)
      → (Err r ≡ row_words a.line.now a.at) × ([] ≡ row_stored a.line.now a.at)
  unfolding position_at address_at row_words row_stored
  no_position h =
      let e = value_err (decimal_at a.line.now max_position a.at) h in (
        sym (ap (λ (f : Result Found Reason). rows f (hex_at a.line.now 4) (pairs_at a.line.now)) e),
        sym (ap (λ (f : Result Found Reason). stored f (hex_at a.line.now 4) (pairs_stored a.line.now)) e),
      )

  module _ {position : ℕ} (h : Ok position ≡ value_of (decimal_at a.line.now max_position a.at)) where
    first : decimal_at a.line.now max_position a.at ≡ found position b.at
    first = value_ok a.at (decimal_at a.line.now max_position a.at) h ∙ ap (λ (x : Arguments). found position x.at) (sym p)

    line_b : b.line.now ≡ a.line.now
    line_b = ap (λ (x : Arguments). x.line.now) p

    words_behind : row_words a.line.now a.at ≡ rows (found position b.at) (hex_at a.line.now 4) (pairs_at a.line.now)
    unfolding position_at row_words
    words_behind = ap (λ (f : Result Found Reason). rows f (hex_at a.line.now 4) (pairs_at a.line.now)) first

    bytes_behind : row_stored a.line.now a.at ≡ stored (found position b.at) (hex_at a.line.now 4) (pairs_stored a.line.now)
    unfolding position_at address_at row_stored
    bytes_behind = ap (λ (f : Result Found Reason). stored f (hex_at a.line.now 4) (pairs_stored a.line.now)) first

    pub no_address : {r : Reason} → Err r ≡ value_of (hex_at b.line.now 4 b.at)
        → (Err r ≡ row_words a.line.now a.at) × ([] ≡ row_stored a.line.now a.at)
    no_address k =
        let e = ap (λ (l : List ℕ). hex_at l 4 b.at) (sym line_b) ∙ value_err (hex_at b.line.now 4 b.at) k in (
          sym
              (words_behind
              ∙ ap (λ (f : Result Found Reason). behind f (λ (g : Found). behind (pairs_at a.line.now g.at) (λ (n : Found). Ok (record { position = position; address = g.value; pairs = n.value }))))
              e),
          sym (bytes_behind ∙ ap (λ (f : Result Found Reason). stored_behind f (pairs_stored a.line.now)) e),
        )

    module _ (c : Arguments) (q : c ≡ record b { at = place_of b.at (hex_at b.line.now 4 b.at) }) {address : ℕ} (k : Ok address ≡ value_of (hex_at b.line.now 4 b.at)) where
      second : hex_at a.line.now 4 b.at ≡ found address c.at
      second =
          ap (λ (l : List ℕ). hex_at l 4 b.at) (sym line_b) ∙ value_ok b.at (hex_at b.line.now 4 b.at) k
          ∙ ap (λ (x : Arguments). found address x.at) (sym q)

      line_c : c.line.now ≡ a.line.now
      line_c = ap (λ (x : Arguments). x.line.now) q ∙ line_b

      words_left : row_words a.line.now a.at
          ≡ behind (pairs_at c.line.now c.at) (λ (n : Found). Ok (record { position = position; address = address; pairs = n.value }))
      words_left =
          words_behind
          ∙ ap (λ (f : Result Found Reason). behind f (λ (g : Found). behind (pairs_at a.line.now g.at) (λ (n : Found). Ok (record { position = position; address = g.value; pairs = n.value }))))
          second
          ∙ ap (λ (l : List ℕ). behind (pairs_at l c.at) (λ (n : Found). Ok (record { position = position; address = address; pairs = n.value }))) (sym line_c)

      pub bytes_left : pairs_stored c.line.now c.at ≡ row_stored a.line.now a.at
      bytes_left =
          sym
          (bytes_behind ∙ ap (λ (f : Result Found Reason). stored_behind f (pairs_stored a.line.now)) second
          ∙ ap (λ (l : List ℕ). pairs_stored l c.at) (sym line_c))

      pub no_pairs : {r : Reason} → Err r ≡ value_of (pairs_at c.line.now c.at) → Err r ≡ row_words a.line.now a.at
      no_pairs l =
          sym
          (words_left
          ∙ ap (λ (f : Result Found Reason). behind f (λ (n : Found). Ok (record { position = position; address = address; pairs = n.value })))
          (value_err (pairs_at c.line.now c.at) l))

      pub all_read : {pairs : ℕ} → Ok pairs ≡ value_of (pairs_at c.line.now c.at)
          → Ok (record { position = position; address = address; pairs = pairs }) ≡ row_words a.line.now a.at
      all_read l =
          sym
          (words_left
          ∙ ap (λ (f : Result Found Reason). behind f (λ (n : Found). Ok (record { position = position; address = address; pairs = n.value })))
          (value_ok c.at (pairs_at c.line.now c.at) l))
