-- Bytes put one after another: laws of what waits in the buffer.
use Rattle.std.specs.Prelude.{ℕ, suc, ◌+◌, ◌≤◌, ◌<◌, ◌≡◌, refl, List, [], ◌∷◌, ◌++◌, ltb, length, take}
use Rattle.std.proofs.Common.{sym, ◌∙◌, subst, append_assoc, append-nil, arith, length-append, take_at, length-take-le}
use Rattle.std.proofs.Math.Path.{ap}
use Rattle.std.proofs.Math.Bool.{true}
use borrow.Author.Tests.{lt-ltb, le-ltb}
use Rattle.std.proofs.Math.ListN.{set}
use Rattle.std.proofs.lemmas.List.Edits.{sets, sets-eq}
use Rattle.laws.specs.Bools.{clash, cond_true, cond_false, and_left, and_right, and_true}
use Rattle.text_out.specs.Puts.{space, spot, laid, waits, fits, Drains, Puts}
use Rattle.text_out.specs.declared.Output.{Output}

-- bytes behind bytes
laid_append : (text : List ℕ) (w : ℕ) (xs ys : List ℕ) → laid (laid text w xs) (waits w xs) ys ≡ laid text w (xs ++ ys)
unfolding laid waits
laid_append text w [] ys = refl
laid_append text w (x ∷ xs) ys = laid_append (set text (spot w) x) (suc (spot w)) xs ys

waits_append : (w : ℕ) (xs ys : List ℕ) → waits (waits w xs) ys ≡ waits w (xs ++ ys)
unfolding waits
waits_append w [] ys = refl
waits_append w (x ∷ xs) ys = waits_append (suc (spot w)) xs ys

spot_room : (w : ℕ) → ltb w space ≡ true → spot w ≡ w
unfolding spot
spot_room w h = cond_true w 0 h

fits_append : (w : ℕ) (xs ys : List ℕ) → fits w (xs ++ ys) ≡ true → (fits w xs ≡ true) × (fits (waits w xs) ys ≡ true)
unfolding fits waits
fits_append w [] ys h = (refl, h)
fits_append w (x ∷ xs) ys h =
    let room = and_left (ltb w space) (fits (suc w) (xs ++ ys)) h in
    let rest = fits_append (suc w) xs ys (and_right (ltb w space) (fits (suc w) (xs ++ ys)) h) in (
      and_true (ltb w space) (fits (suc w) xs) room rest.0,
      ap (λ (n : ℕ). fits (waits (suc n) xs) ys) (spot_room w room) ∙ rest.1,
    )

-- bytes for which there is room
fits_room : (w : ℕ) (bs : List ℕ) → w + length bs ≤ space → fits w bs ≡ true
unfolding fits
fits_room w [] h = refl
fits_room w (b ∷ bs) h = and_true (ltb w space) (fits (suc w) bs) (lt-ltb w space (omega (arith, h))) (fits_room (suc w) bs (omega (arith, h)))

laid_room : (text : List ℕ) (w : ℕ) (bs : List ℕ) → w + length bs ≤ space → laid text w bs ≡ sets text w bs
unfolding laid
laid_room text w [] h = refl
laid_room text w (b ∷ bs) h =
    ap (λ (n : ℕ). laid (set text n b) (suc n) bs) (spot_room w (lt-ltb w space (omega (arith, h)))) ∙ laid_room (set text w b) (suc w) bs (omega (arith, h))

waits_room : (w : ℕ) (bs : List ℕ) → w + length bs ≤ space → waits w bs ≡ w + length bs
unfolding waits
waits_room w [] h = omega arith
waits_room w (b ∷ bs) h =
    ap (λ (n : ℕ). waits (suc n) bs) (spot_room w (lt-ltb w space (omega (arith, h)))) ∙ waits_room (suc w) bs (omega (arith, h)) ∙ omega arith

-- nothing is put
pub puts_nothing : (o : Output) → Puts o [] o
unfolding laid waits
puts_nothing o = record { buffer = refl; count = refl; unwritten = λ h. refl; failed = λ h. h; overfull = λ h k. absurd (omega (arith, k)) }

-- a byte, where there is room for it, and where the buffer is written out first
module _ {o q p : Output} {b : ℕ} (l : p.text ≡ set q.text q.waiting b) (n : p.waiting ≡ q.waiting + 1) (c : p.closed ≡ q.closed) where
  pub puts_behind : q ≡ o → o.waiting < space → Puts o (b ∷ []) p
  unfolding laid waits
  puts_behind s h =
      let e = spot_room o.waiting (lt-ltb o.waiting space h) in
      record {
        buffer = l ∙ (λ i. set (s i).text (s i).waiting b) ∙ ap (λ (w : ℕ). set o.text w b) (sym e);
        count = n ∙ (λ i. (s i).waiting + 1) ∙ omega (arith, e);
        unwritten = λ f. c ∙ (λ i. (s i).closed);
        failed = λ f. c ∙ (λ i. (s i).closed) ∙ f;
        overfull = λ l m. absurd (omega (arith, h, l));
      }

  pub puts_in_front : {r : Output} → q ≡ r → Drains o r → space ≤ o.waiting → Puts o (b ∷ []) p
  unfolding laid waits fits spot
  puts_in_front {r} s d h =
      let full = le-ltb o.waiting space h in
      let e : spot o.waiting ≡ 0 = cond_false o.waiting 0 full in
      record {
        buffer = l ∙ (λ i. set (s i).text (s i).waiting b) ∙ (λ i. set (d.buffer i) (d.count i) b) ∙ ap (λ (w : ℕ). set o.text w b) (sym e);
        count = n ∙ (λ i. (s i).waiting + 1) ∙ omega (arith, d.count, e);
        unwritten = λ f. clash (and_left (ltb o.waiting space) true f) full;
        failed = λ f. c ∙ (λ i. (s i).closed) ∙ d.failed f;
        overfull = λ l m. c ∙ (λ i. (s i).closed) ∙ d.overfull l;
      }

-- bytes and then others
pub puts_append : {o p q : Output} {xs ys : List ℕ} → Puts o xs p → Puts p ys q → Puts o (xs ++ ys) q
unfolding waits
puts_append {o} {p} {q} {xs} {ys} h k =
    record {
      buffer = k.buffer ∙ (λ i. laid (h.buffer i) (h.count i) ys) ∙ laid_append o.text o.waiting xs ys;
      count = k.count ∙ ap (λ (w : ℕ). waits w ys) h.count ∙ waits_append o.waiting xs ys;
      unwritten = λ f.
          let both = fits_append o.waiting xs ys f in
          k.unwritten (ap (λ (w : ℕ). fits w ys) h.count ∙ both.1) ∙ h.unwritten both.0;
      failed = λ f. k.failed (h.failed f);
      overfull = behind xs h.count h.overfull;
    }
  where
    behind : (xs : List ℕ) → p.waiting ≡ waits o.waiting xs → (space < o.waiting → 0 < length xs → p.closed ≡ true)
        → space < o.waiting → 0 < length (xs ++ ys) → q.closed ≡ true
    behind [] e f l m = k.overfull (omega (arith, e, l)) m
    behind (x ∷ xs) e f l m = k.failed (f l (omega arith))

-- the same bytes by another name
pub puts_along : {o p : Output} {xs ys : List ℕ} → xs ≡ ys → Puts o xs p → Puts o ys p
puts_along {o} {p} e h = subst (λ (l : List ℕ). Puts o l p) e h

-- A loop that puts the parts of a whole: those put, and the rest.
pub record Owes (o : Output) (whole : List ℕ) (p : Output) (rest : List ℕ) : Type 0 where
  pub done : List ℕ
  pub puts : Puts o done p
  pub parts : done ++ rest ≡ whole

pub owes_start : (o : Output) (whole : List ℕ) → Owes o whole o whole
owes_start o whole = record { done = []; puts = puts_nothing o; parts = refl }

pub owes_on : {o p q : Output} {whole xs rest : List ℕ} (part : List ℕ) → xs ≡ part ++ rest → Puts p part q → Owes o whole p xs
    → Owes o whole q rest
owes_on {rest = rest} part e h k =
    record {
      done = k.done ++ part;
      puts = puts_append k.puts h;
      parts = append_assoc k.done part rest ∙ ap (λ (l : List ℕ). k.done ++ l) (sym e) ∙ k.parts;
    }

pub owes_end : {o p : Output} {whole rest : List ℕ} → rest ≡ [] → Owes o whole p rest → Puts o whole p
owes_end e k = puts_along (sym (append-nil k.done) ∙ ap (λ (l : List ℕ). k.done ++ l) (sym e) ∙ k.parts) k.puts

-- Where there is room for them, bytes wait behind those that waited, and whether a write failed is what it was.
module _ {o p : Output} {bytes : List ℕ} (h : Puts o bytes p) (room : o.waiting + length bytes ≤ space) where
  pub puts_behind_others : space ≤ length o.text → take p.waiting p.text ≡ take o.waiting o.text ++ bytes
  puts_behind_others l =
      let n = h.count ∙ waits_room o.waiting bytes room in
      let front = length-take-le o.waiting o.text (omega (arith, room, l)) in
      let all = length-append (take o.waiting o.text) bytes in
      (λ i. take (n i) ((h.buffer ∙ laid_room o.text o.waiting bytes room ∙ sets-eq bytes o.text o.waiting (omega (arith, room, l))) i))
      ∙ take_at (take o.waiting o.text ++ bytes) _ (o.waiting + length bytes) (omega (arith, front, all))

  pub puts_unwritten : p.closed ≡ o.closed
  puts_unwritten = h.unwritten (fits_room o.waiting bytes room)
