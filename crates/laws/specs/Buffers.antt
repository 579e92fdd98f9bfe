-- Buffers: what a run of stores leaves.
use Rattle.std.specs.Prelude.{◌≡◌, refl, List, [], ◌∷◌, ◌++◌, ℕ, suc, ◌+◌, ◌≤◌, ◌<◌, length, drop, get_or, set}
use Rattle.std.proofs.Common.{sym, ◌∙◌, ap, subst, add-zero, add-one, arith, length-append, drop_of_length-le, drop-cons, drop-set-lt}
use Rattle.std.proofs.lemmas.List.Edits.{sets, sets-eq}
use Rattle.std.proofs.Math.Seq.{length-sets}

module _ {A : Type 0} where
  -- two runs of stores, one behind the other, are one
  pub sets_append : (l : List A) (i : ℕ) (xs ys : List A) → sets (sets l i xs) (i + length xs) ys ≡ sets l i (xs ++ ys)
  sets_append l i [] ys = rw add-zero refl
  sets_append l i (x ∷ xs) ys = let e : i + suc (length xs) ≡ suc i + length xs = omega arith in rw e (sets_append (set l i x) (suc i) xs ys)

  -- stores from the start: the values, and behind them what stood there
  pub sets_start : (l xs : List A) → length xs ≤ length l → sets l 0 xs ≡ xs ++ drop (length xs) l
  sets_start l xs h = let e : 0 + length xs ≡ length xs = omega arith in sets-eq xs l 0 (omega arith) ∙ rw e refl

  -- what stands behind a run of stores stays
  pub sets_behind : (l xs : List A) (i : ℕ) → drop (i + length xs) (sets l i xs) ≡ drop (i + length xs) l
  sets_behind l [] i = refl
  sets_behind l (x ∷ xs) i =
      let e : i + suc (length xs) ≡ suc i + length xs = omega arith in
      rw e (sets_behind (set l i x) xs (suc i) ∙ drop-set-lt (suc i + length xs) l i x (omega arith))

  -- a copy, element by element: one turn, with the rest still to be stored
  pub copy_on : (l xs : List A) (at i : ℕ) (d : A) → i < length xs
      → sets (set l (at + i) (get_or xs i d)) (at + (i + 1)) (drop (i + 1) xs) ≡ sets l (at + i) (drop i xs)
  copy_on l xs at i d h = let e : at + (i + 1) ≡ suc (at + i) = omega arith in rw (e, add-one i, drop-cons xs i d h) refl

  -- and its end, with nothing left
  pub copy_end : (l xs : List A) (at i : ℕ) → length xs ≤ i → sets l at (drop i xs) ≡ l
  copy_end l xs at i h = rw (drop_of_length-le xs h) refl

-- What a writer does: these bytes stand from `at` on, the place behind them is handed back, and nothing else has changed.
pub record Wrote (before : List ℕ) (at : ℕ) (bytes : List ℕ) (end : ℕ) (after : List ℕ) : Type 0 where
  pub buffer : after ≡ sets before at bytes
  pub place : end ≡ at + length bytes

pub wrote_nothing : (b : List ℕ) (at : ℕ) → Wrote b at [] at b
wrote_nothing b at = record { buffer = refl; place = omega arith }

pub wrote_append : {b c d : List ℕ} {at i j : ℕ} {xs ys : List ℕ} → Wrote b at xs i c → Wrote c i ys j d → Wrote b at (xs ++ ys) j d
wrote_append {b} {c} {d} {at} {i} {j} {xs} {ys} h k =
    record {
      buffer = k.buffer ∙ (λ t. sets (h.buffer t) (h.place t) ys) ∙ sets_append b at xs ys;
      place = let e = length-append xs ys in omega (arith, h.place, k.place);
    }

-- the buffer stays as long as it is
pub wrote_length : {b c : List ℕ} {at i : ℕ} {xs : List ℕ} → Wrote b at xs i c → length c ≡ length b
wrote_length {b} {c} {at} {i} {xs} h = ap length h.buffer ∙ length-sets b at xs

pub wrote_along : {b c : List ℕ} {at i : ℕ} {xs ys : List ℕ} → xs ≡ ys → Wrote b at xs i c → Wrote b at ys i c
wrote_along {b} {c} {at} {i} e h = subst (λ (l : List ℕ). Wrote b at l i c) e h

-- A writing loop: the rest, written from here on, makes the whole.
pub record Owes (b : List ℕ) (at : ℕ) (whole : List ℕ) (i : ℕ) (c : List ℕ) (rest : List ℕ) : Type 0 where
  pub buffer : sets c i rest ≡ sets b at whole
  pub place : i + length rest ≡ at + length whole

pub owes_start : (b : List ℕ) (at : ℕ) (whole : List ℕ) → Owes b at whole at b whole
owes_start b at whole = record { buffer = refl; place = refl }

pub owes_on : {b c d : List ℕ} {at i j : ℕ} {whole xs rest : List ℕ} (part : List ℕ) → xs ≡ part ++ rest → Wrote c i part j d → Owes b at whole i c xs
    → Owes b at whole j d rest
owes_on {b} {c} {d} {at} {i} {j} {whole} {xs} {rest} part e h k =
    record {
      buffer = (λ t. sets (h.buffer t) (h.place t) rest) ∙ sets_append c i part rest ∙ ap (sets c i) (sym e) ∙ k.buffer;
      place = let f = length-append part rest in let g = ap length e in omega (arith, h.place, k.place);
    }

-- the buffer stays as long as it is
pub owes_length : {b c : List ℕ} {at i : ℕ} {whole rest : List ℕ} → Owes b at whole i c rest → length c ≡ length b
owes_length {b} {c} {at} {i} {whole} {rest} k = sym (length-sets c i rest) ∙ ap length k.buffer ∙ length-sets b at whole

pub owes_end : {b c : List ℕ} {at i : ℕ} {whole rest : List ℕ} → rest ≡ [] → Owes b at whole i c rest → Wrote b at whole i c
owes_end {b} {c} {at} {i} {whole} {rest} e k =
    record { buffer = sym (ap (sets c i) e) ∙ k.buffer; place = let g = ap length e in omega (arith, k.place) }
