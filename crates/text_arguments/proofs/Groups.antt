-- Groups of hexadecimal digits: the bytes that each of them adds.
use Prim.Native.Nat.{ℕ, ◌+◌, ◌-◌, ◌%◌, ◌≤◌, ◌<◌, min}
use mathlib.Core.Path.{◌≡◌, refl, sym, ◌∙◌, ap, subst}
use mathlib.Core.Bool.{true, false}
use mathlib.Core.List.{List, [], ◌∷◌, ◌++◌}
use native.Mathlib.Omega.{arith}
use borrow.Author.Tests.{eq-eqb, ne_eqb}
use lib.ListN.{length, drop}
use lib.Seq.{sets}
use Rattle.std.specs.Prelude.{Result, Ok, Err}
use Rattle.laws.specs.Bools.{cond_true, cond_false}
use Rattle.laws.specs.Buffers.{Wrote, Owes, owes_start, owes_on, owes_end}
use Rattle.text_words.specs.Text.{all_digits, byte_of, bytes_of}
use Rattle.text_arguments.specs.declared.Arguments.{Arguments}
use Rattle.text_arguments.specs.declared.Reason.{Reason}
use Rattle.text_arguments.specs.declared.Reason.TheVariants.{NoHex, OddHex}
use Rattle.text_arguments.specs.Reading.{found, behind, start_of, word_of, end_of, words_of, group_reason, bytes_if, groups_bytes, groups_reason, found_if, bytes_at, bytes_stored}
use Rattle.text_arguments.proofs.Words.{words_none, words_more, word_length, word_within, word_starts}

-- two digits are the next byte; fewer are none
pub bytes_two : {x y : ℕ} {xs rest : List ℕ} → xs ≡ x ∷ y ∷ rest → bytes_of xs ≡ (byte_of x y ∷ []) ++ bytes_of rest
unfolding bytes_of
bytes_two e = ap bytes_of e

pub bytes_none : (xs : List ℕ) → length xs ≤ 1 → bytes_of xs ≡ []
unfolding bytes_of
bytes_none [] h = refl
bytes_none (x ∷ []) h = refl
bytes_none (x ∷ y ∷ rest) h = absurd (omega (arith, h))

bytes_few : (xs : List ℕ) → length (bytes_of xs) ≤ length xs
unfolding bytes_of
bytes_few [] = omega arith
bytes_few (x ∷ []) = omega arith
bytes_few (x ∷ y ∷ rest) = let h = bytes_few rest in omega arith

-- why a group has no bytes
module _ (g : List ℕ) where
  pub group_none : all_digits 16 g ≡ false → Err NoHex ≡ group_reason g
  unfolding group_reason
  group_none h = sym (cond_false _ _ h)

  pub group_odd : all_digits 16 g ≡ true → (length g % 2 ≡ 0 → ⊥) → Err OddHex ≡ group_reason g
  unfolding group_reason
  group_odd h k = sym (cond_true _ _ h ∙ cond_false _ _ (ne_eqb _ 0 k))

  pub group_whole : all_digits 16 g ≡ true → length g % 2 ≡ 0 → Ok tt ≡ group_reason g
  unfolding group_reason
  group_whole h k = sym (cond_true _ _ h ∙ cond_true _ _ (eq-eqb _ 0 k))

-- the groups from `at` on are left: their bytes are owed, and the reason is among them
pub record Left (line : List ℕ) (first : ℕ) (before : List ℕ) (at count : ℕ) (after : List ℕ) : Type 0 where
  pub few : count ≤ at
  pub owes : Owes before 0 (groups_bytes (words_of (drop first line))) count after (groups_bytes (words_of (drop at line)))
  pub reason : groups_reason (words_of (drop at line)) ≡ groups_reason (words_of (drop first line))

module _ (line : List ℕ) where
  pub left_start : (at : ℕ) (b : List ℕ) → Left line at b at 0 b
  left_start at b = record { few = omega arith; owes = owes_start b 0 _; reason = refl }

  module _ {first at count : ℕ} {before after : List ℕ} (l : Left line first before at count after) where
    -- no group is left: the bytes are stored as far as there is room
    pub left_done : {n : ℕ} → length line ≤ start_of line at → n ≡ min count (length before)
        → (found n (length line) ≡ bytes_at line (length before) first) × (after ≡ sets before 0 (bytes_stored line first))
    unfolding groups_bytes groups_reason bytes_at bytes_stored
    left_done {n} h m =
        let none = words_none line at h in
        let w = owes_end (ap groups_bytes none) l.owes in
        let why = sym l.reason ∙ ap groups_reason none in
        let e : n ≡ min (length (groups_bytes (words_of (drop first line)))) (length before) = omega (arith, w.place, m) in (
          ap (λ (n : ℕ). found n (length line)) e
              ∙ ap (λ (r : Result (Unit {0}) Reason). found_if r (min (length (groups_bytes (words_of (drop first line)))) (length before)) (length line)) (sym why),
          w.buffer,
        )

    module _ (h : start_of line at < length line) {group : List ℕ} (g : group ≡ word_of line at) where
      -- the next word is a group
      group_is : words_of (drop at line) ≡ group ∷ words_of (drop (end_of line at) line)
      group_is = words_more line at h ∙ ap (λ (w : List ℕ). w ∷ words_of (drop (end_of line at) line)) (sym g)

      -- it has no bytes, and it says why: those before it are stored
      pub left_refused : {r : Reason} → Err r ≡ group_reason group
          → (Err r ≡ bytes_at line (length before) first) × (after ≡ sets before 0 (bytes_stored line first))
      unfolding groups_bytes groups_reason bytes_at bytes_stored
      left_refused {r} e =
          let behind_it = words_of (drop (end_of line at) line) in
          let w = owes_end (ap groups_bytes group_is ∙ ap (λ (t : Result (Unit {0}) Reason). bytes_if t (bytes_of group ++ groups_bytes behind_it)) (sym e)) l.owes in
          let why = sym l.reason ∙ ap groups_reason group_is ∙ ap (λ (t : Result (Unit {0}) Reason). behind t (λ u. groups_reason behind_it)) (sym e) in (
            ap (λ (t : Result (Unit {0}) Reason). found_if t (min (length (groups_bytes (words_of (drop first line)))) (length before)) (length line)) (sym why),
            w.buffer,
          )

      pub group_room : count + length group ≤ end_of line at
      group_room = omega (arith, l.few, word_length line at, ap length g)

      -- its bytes are stored, and the groups behind it are left
      pub left_on : {more : ℕ} {stored : List ℕ} → Ok tt ≡ group_reason group → Wrote after count (bytes_of group) more stored
          → Left line first before (end_of line at) more stored
      unfolding groups_bytes groups_reason
      left_on e w =
          let behind_it = words_of (drop (end_of line at) line) in
          record {
            few = omega (arith, group_room, w.place, bytes_few group);
            owes =
                owes_on (bytes_of group)
                (ap groups_bytes group_is ∙ ap (λ (t : Result (Unit {0}) Reason). bytes_if t (bytes_of group ++ groups_bytes behind_it)) (sym e)) w l.owes;
            reason =
                sym (ap groups_reason group_is ∙ ap (λ (t : Result (Unit {0}) Reason). behind t (λ u. groups_reason behind_it)) (sym e)) ∙ l.reason;
          }

-- the same of the arguments as they came and as they are now
pub record LeftOf (a b : Arguments) (before : List ℕ) (count : ℕ) (after : List ℕ) : Type 0 where
  pub same : b.line.now ≡ a.line.now
  pub left : Left a.line.now a.at before b.at count after

pub all_left : (a : Arguments) (b : List ℕ) → LeftOf a a b 0 b
all_left a b = record { same = refl; left = left_start a.line.now a.at b }

module _ {a b : Arguments} {count : ℕ} {before after : List ℕ} (l : LeftOf a b before count after) where
  pub none_left : {n : ℕ} → length b.line.now ≤ start_of b.line.now b.at → n ≡ min count (length before)
      → (found n (length a.line.now) ≡ bytes_at a.line.now (length before) a.at) × (after ≡ sets before 0 (bytes_stored a.line.now a.at))
  none_left h m = left_done a.line.now l.left (subst (λ (r : List ℕ). length r ≤ start_of r b.at) l.same h) m

  module _ (h : start_of b.line.now b.at < length b.line.now) {group : List ℕ} (g : group ≡ word_of b.line.now b.at) where
    more : start_of a.line.now b.at < length a.line.now
    more = subst (λ (r : List ℕ). start_of r b.at < length r) l.same h

    word_here : group ≡ word_of a.line.now b.at
    word_here = g ∙ ap (λ (r : List ℕ). word_of r b.at) l.same

    pub group_refused : {r : Reason} → Err r ≡ group_reason group
        → (Err r ≡ bytes_at a.line.now (length before) a.at) × (after ≡ sets before 0 (bytes_stored a.line.now a.at))
    group_refused e = left_refused a.line.now l.left more word_here e

    module _ {c : Arguments} (q : c ≡ record b { at = end_of b.line.now b.at }) where
      place : c.at ≡ end_of a.line.now b.at
      place = ap (λ (x : Arguments). x.at) q ∙ ap (λ (r : List ℕ). end_of r b.at) l.same

      pub group_fits : count + length group ≤ c.at
      group_fits = omega (arith, group_room a.line.now l.left more word_here, place)

      pub group_read : {end : ℕ} {stored : List ℕ} → Ok tt ≡ group_reason group → Wrote after count (bytes_of group) end stored → LeftOf a c before end stored
      group_read {end} {stored} e w =
          record {
            same = ap (λ (x : Arguments). x.line.now) q ∙ l.same;
            left = subst (λ (n : ℕ). Left a.line.now a.at before n end stored) (sym place) (left_on a.line.now l.left more word_here e w);
          }

-- a word is read from the line that is left
pub word_ends : (b c : Arguments) → start_of b.line.now b.at < length b.line.now → c ≡ record b { at = end_of b.line.now b.at }
    → length c.line.now - c.at < length b.line.now - b.at
word_ends b c h q =
    let n = word_within b.line.now b.at h in
    omega (arith, h, n, word_starts b.line.now b.at, ap (λ (x : Arguments). x.at) q, ap (λ (x : Arguments). length x.line.now) q)
