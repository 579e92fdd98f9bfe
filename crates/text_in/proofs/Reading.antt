-- A line, byte by byte: what is used of the source so far, and what is held.
use Prim.Native.Nat.{ℕ, zero, suc, ◌+◌, ◌-◌, ◌≤◌, ◌<◌, min}
use mathlib.Core.Path.{◌≡◌, refl, sym, ◌∙◌, ap, subst}
use mathlib.Core.Bool.{Bool, true, false, cond}
use Rattle.std.specs.Prelude.{Option, Some, None}
use Rattle.std.specs.Bool.{then_some}
use mathlib.Core.List.{List, [], ◌∷◌, ◌++◌, append_assoc, append-nil, reverse-append}
use native.Mathlib.Omega.{arith}
use borrow.Author.Tests.{lt-ltb, le-ltb, ltb-true, ltb-false}
use lib.Dec.{ltb}
use lib.ListN.{length, get_or, set, take, length-append}
use lib.Seq.{sets, take_all, take-append-le}
use Rattle.laws.specs.Alls.{All, all_nil, all_cons, all_append}
use Rattle.laws.specs.Bools.{cond_true, cond_false}
use Rattle.laws.specs.Buffers.{sets_append}
use Rattle.laws.specs.Runs.{leading_on, leading_here}
use Rattle.text_words.specs.Text.{is_dropped, trimmed_length}
use Rattle.text_in.specs.Lines.{chunk_size, max_line, bytes_from, held, past, Filled, kept_at, Inside, most_bytes, told, Ending, at_lf, at_end, at_limit_lem, NextLine}
use Rattle.text_in.specs.declared.Input.{Input}

-- what is held: so many bytes, none, the first of them
length_from : (chunk : List ℕ) (at n : ℕ) → length (bytes_from chunk at n) ≡ n
unfolding bytes_from
length_from chunk at zero = refl
length_from chunk at (suc n) = ap suc (length_from chunk (suc at) n)

module _ (i : Input) where
  length_held : length (held i) ≡ min i.to chunk_size - i.from
  unfolding held
  length_held = length_from i.chunk i.from (min i.to chunk_size - i.from)

  held_none : min i.to chunk_size ≤ i.from → held i ≡ []
  unfolding held bytes_from
  held_none h = let e : min i.to chunk_size - i.from ≡ 0 = omega arith in ap (bytes_from i.chunk i.from) e

  held_some : i.from < min i.to chunk_size → held i ≡ get_or i.chunk i.from 0 ∷ held (past i 1)
  unfolding held bytes_from
  held_some h =
      let e : min i.to chunk_size - i.from ≡ suc (min i.to chunk_size - (i.from + 1)) = omega arith in
      let f : suc i.from ≡ i.from + 1 = omega arith in
      ap (bytes_from i.chunk i.from) e ∙ ap (λ (m : ℕ). get_or i.chunk i.from 0 ∷ bytes_from i.chunk m (min i.to chunk_size - (i.from + 1))) f

-- a byte more: what is stored, and the length without the dropped bytes at the end
stored_on : (line bytes : List ℕ) (b : ℕ) {s : ℕ} {kept : List ℕ} → s ≡ min (length bytes) (max_line + 1) → kept ≡ sets line 0 (take max_line bytes)
    → kept_at kept s b ≡ sets line 0 (take max_line (bytes ++ b ∷ []))
unfolding kept_at
stored_on line bytes b {s} {kept} h k = go (ltb (length bytes) max_line) refl
  where
    go : (r : Bool) → ltb (length bytes) max_line ≡ r → cond (ltb s max_line) (set kept s b) kept ≡ sets line 0 (take max_line (bytes ++ b ∷ []))
    go true e =
        let l = ltb-true (length bytes) max_line e in
        let p : s ≡ 0 + length bytes = omega (arith, h, l) in
        let all = length-append bytes (b ∷ []) in
        cond_true _ _ (lt-ltb s max_line (omega (arith, p, l)))
        ∙ (λ t. set ((k ∙ ap (sets line 0) (take_all max_line bytes (omega (arith, l)))) t) (p t) b)
        ∙ sets_append line 0 bytes (b ∷ [])
        ∙ ap (sets line 0) (sym (take_all max_line (bytes ++ b ∷ []) (omega (arith, all, l))))
    go false e =
        let l = ltb-false (length bytes) max_line e in
        cond_false _ _ (le-ltb s max_line (omega (arith, h, l))) ∙ k ∙ ap (sets line 0) (sym (take-append-le max_line bytes (b ∷ []) l))

trimmed_on : (bytes : List ℕ) (b : ℕ) (d : Bool) → is_dropped b ≡ d → trimmed_length (bytes ++ b ∷ []) ≡ cond d (trimmed_length bytes) (suc (length bytes))
unfolding trimmed_length
trimmed_on bytes b true e = omega (arith, length-append bytes (b ∷ []), leading_on is_dropped (reverse-append bytes (b ∷ [])) e)
trimmed_on bytes b false e = omega (arith, length-append bytes (b ∷ []), leading_here is_dropped (reverse-append bytes (b ∷ [])) e)

-- bytes of the line are used, one a turn, and what is held goes on behind them
pub record Reading (i : Input) (line : List ℕ) (j : Input) (line' : List ℕ) (seen count turns : ℕ) : Type 0 where
  pub came : List ℕ
  pub bytes : List ℕ
  pub inside : All Inside bytes
  pub source : held i ++ came ≡ bytes ++ held j
  pub stored : line' ≡ sets line 0 (take max_line bytes)
  pub counted : seen ≡ min (length bytes) (max_line + 1)
  pub trimmed : count ≡ told bytes
  pub turned : length bytes ≡ turns
  pub whole : length bytes < length (held i) → (came ≡ []) × (j ≡ past i (length bytes))
  pub within : i.from ≤ i.to → i.to ≤ chunk_size → (j.from ≤ j.to) × (j.to ≤ chunk_size)
  pub handle : j.stdin ≡ i.stdin

pub reading_start : (i : Input) (line : List ℕ) → Reading i line i line 0 0 0
unfolding trimmed_length
reading_start i line =
    let e : i.from ≡ i.from + 0 = omega arith in
    record {
      came = [];
      bytes = [];
      inside = all_nil;
      source = append-nil (held i);
      stored = refl;
      counted = refl;
      trimmed = omega arith;
      turned = refl;
      whole = λ h. (refl, λ t. record i { from = e t });
      within = λ h k. (h, k);
      handle = refl;
    }

module _ {i j : Input} {line line' : List ℕ} {seen count turns : ℕ} where
  -- what is held goes on to its end before more comes
  pub reading_filled : {k : Input} → Filled j k → Reading i line j line' seen count turns → Reading i line k line' seen count turns
  reading_filled {k} f r = go (ltb j.from j.to) refl
    where
      go : (b : Bool) → ltb j.from j.to ≡ b → Reading i line k line' seen count turns
      go true e = subst (λ (m : Input). Reading i line m line' seen count turns) (sym (f.same (ltb-true j.from j.to e))) r
      go false e =
          let l = ltb-false j.from j.to e in
          record {
            came = r.came ++ held k;
            bytes = r.bytes;
            inside = r.inside;
            source =
                sym (append_assoc (held i) r.came (held k))
                ∙ ap (λ (l : List ℕ). l ++ held k) (r.source ∙ ap (λ (l : List ℕ). r.bytes ++ l) (held_none j (omega (arith, l))) ∙ append-nil r.bytes);
            stored = r.stored;
            counted = r.counted;
            trimmed = r.trimmed;
            turned = r.turned;
            whole = λ h.
                let w = (r.whole h).1 in
                absurd (omega (arith, l, h, length_held i, ap (λ (m : Input). m.from) w, ap (λ (m : Input). m.to) w));
            within = λ h m. (omega (arith, f.start l), f.most l);
            handle = f.handle ∙ r.handle;
          }

  module _ (r : Reading i line j line' seen count turns) where
    -- nothing more comes
    pub reading_end : min j.to chunk_size ≤ j.from → {o : Option ℕ} → o ≡ then_some (ltb 0 seen) count → NextLine i line o j line'
    reading_end h {o} p =
        record {
          came = r.came;
          bytes = r.bytes;
          ended = [];
          inside = r.inside;
          source = r.source ∙ ap (λ (l : List ℕ). l ++ held j) (sym (append-nil r.bytes));
          ending =
              subst (λ (n : Option ℕ). Ending r.bytes n [] (held j))
              ((λ t. then_some (some (length r.bytes) r.counted t) (sym r.trimmed t)) ∙ sym p)
              (subst (λ (l : List ℕ). Ending r.bytes (then_some (ltb 0 (length r.bytes)) (told r.bytes)) [] l) (sym (held_none j h)) at_end);
          stored = r.stored;
          whole = λ m.
              let w = (r.whole m).1 in
              absurd (omega (arith, h, m, length_held i, ap (λ (n : Input). n.from) w, ap (λ (n : Input). n.to) w));
          within = r.within;
          handle = r.handle;
        }
      where
        some : (n : ℕ) → seen ≡ min n (max_line + 1) → ltb 0 n ≡ ltb 0 seen
        some n e = go (ltb 0 n) refl
          where
            go : (b : Bool) → ltb 0 n ≡ b → b ≡ ltb 0 seen
            go true f = sym (lt-ltb 0 seen (omega (arith, e, ltb-true 0 n f)))
            go false f = sym (le-ltb 0 seen (omega (arith, e, ltb-false 0 n f)))

    -- the limit is reached
    pub reading_limit : most_bytes ≤ turns → turns ≤ most_bytes → NextLine i line None j line'
    reading_limit h k =
        record {
          came = r.came;
          bytes = r.bytes;
          ended = [];
          inside = r.inside;
          source = r.source ∙ ap (λ (l : List ℕ). l ++ held j) (sym (append-nil r.bytes));
          ending = at_limit_lem (omega (arith, h, k, r.turned));
          stored = r.stored;
          whole = λ m. absurd (omega (arith, h, r.turned, m, length_held i));
          within = r.within;
          handle = r.handle;
        }

    module _ (h : j.from < min j.to chunk_size) where
      -- the first byte that is held is used
      used : {b : ℕ} → get_or j.chunk j.from 0 ≡ b → held i ++ r.came ≡ r.bytes ++ b ∷ [] ++ held (past j 1)
      used {b} e =
          r.source ∙ ap (λ (m : List ℕ). r.bytes ++ m) (held_some j h ∙ ap (λ (x : ℕ). x ∷ held (past j 1)) e)
          ∙ sym (append_assoc r.bytes (b ∷ []) (held (past j 1)))

      used_whole : length r.bytes < length (held i) → (r.came ≡ []) × (past j 1 ≡ past i (length r.bytes + 1))
      used_whole m =
          let w = r.whole m in
          let e : i.from + length r.bytes + 1 ≡ i.from + (length r.bytes + 1) = omega arith in
          (w.0, (λ t. past (w.1 t) 1) ∙ (λ t. record i { from = e t }))

      used_within : i.from ≤ i.to → i.to ≤ chunk_size → (j.from + 1 ≤ j.to) × (j.to ≤ chunk_size)
      used_within m n = (omega (arith, h), (r.within m n).1)

      -- an LF
      pub reading_lf : get_or j.chunk j.from 0 ≡ 10 → NextLine i line (Some count) (past j 1) line'
      reading_lf e =
          record {
            came = r.came;
            bytes = r.bytes;
            ended = 10 ∷ [];
            inside = r.inside;
            source = used e;
            ending = subst (λ (n : ℕ). Ending r.bytes (Some n) (10 ∷ []) (held (past j 1))) (sym r.trimmed) at_lf;
            stored = r.stored;
            whole = used_whole;
            within = used_within;
            handle = r.handle;
          }

      -- a byte of the line, and one turn more
      pub reading_on : {b seen' count' : ℕ} {kept : List ℕ} (d : Bool) → b ≡ get_or j.chunk j.from 0 → (b ≡ 10 → ⊥) → is_dropped b ≡ d
          → seen' ≡ min (seen + 1) (max_line + 1) → kept ≡ kept_at line' seen b → count' ≡ cond d count seen'
          → Reading i line (past j 1) kept seen' count' (turns + 1)
      reading_on {b} {seen'} {count'} {kept} d e n q s k l =
          let more = length-append r.bytes (b ∷ []) in
          record {
            came = r.came;
            bytes = r.bytes ++ b ∷ [];
            inside = all_append r.inside (all_cons n all_nil);
            source = used (sym e);
            stored = k ∙ stored_on line r.bytes b r.counted r.stored;
            counted = omega (arith, s, r.counted, more);
            trimmed = l ∙ go d (trimmed_on r.bytes b d q);
            turned = omega (arith, r.turned, more);
            whole = λ m.
                let w = used_whole (omega (arith, m, more)) in
                let p : length r.bytes + 1 ≡ length (r.bytes ++ b ∷ []) = omega (arith, more) in
                (w.0, w.1 ∙ ap (past i) p);
            within = used_within;
            handle = r.handle;
          }
        where
          go : (f : Bool) → trimmed_length (r.bytes ++ b ∷ []) ≡ cond f (trimmed_length r.bytes) (suc (length r.bytes))
              → cond f count seen' ≡ min (trimmed_length (r.bytes ++ b ∷ [])) (max_line + 1)
          go true z = omega (arith, z, r.trimmed)
          go false z = omega (arith, z, s, r.counted)
