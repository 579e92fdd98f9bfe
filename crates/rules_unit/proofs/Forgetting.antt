-- What an order and a look-up leave of the kept answers.
use Prim.Native.Nat.{ℕ, ◌-◌, ◌≤◌}
use mathlib.Core.Path.{◌≡◌, refl, ◌∙◌, ap}
use mathlib.Core.Bool.{true, false, not}
use mathlib.Core.List.{List, [], ◌∷◌, ◌++◌}
use mathlib.Core.Option.{some}
use native.Mathlib.Omega.{arith}
use borrow.Author.Tests.{eq-eqb, ne_eqb}
use lib.ListN.{length, drop}
use Rattle.laws.specs.Lists.{any, select}
use Rattle.laws.specs.Bools.{or_none, or_false, or_true_left, or_true_right, cond_true, cond_false}
use Rattle.laws.specs.Alls.{all_of, select_all}
use Rattle.rules.specs.Picture.{Pair, same_pair, holds}
use Rattle.rules.specs.Order.{Order, ASK, SET, OK, NOTOK, NEW, INVALID, WAIT_SHORT, WAIT_LONG}
use Rattle.rules.specs.Run.{Sent}
use Rattle.rules.specs.Listing.{found}
use Rattle.rules_unit.specs.Reading.{decode_order}
use Rattle.rules_unit.specs.Slave.{Known, Slave, with_known, besides, newest, remember, learn, says_not_ok, empties, named, known_after, heard, Reading, on_order, read}
use Rattle.rules_unit.specs.Claims.{Forgets, for_others, Learns}
use Rattle.rules_unit.proofs.Units.{read_with_room}

-- what an order leaves of the kept answers
none_left : (last : ℕ) (ks : List Known) (s : Sent) → empties last s ≡ true → known_after last ks s ≡ []
unfolding known_after besides select
none_left last ks s e = ap (besides (named s.order)) (cond_true [] ks e)

some_left : (last : ℕ) (ks : List Known) (s : Sent) → s.pass ≡ last → says_not_ok s.order ≡ false
    → known_after last ks s ≡ besides (named s.order) ks
unfolding known_after empties
some_left last ks s p q =
    ap (besides (named s.order)) (cond_false [] ks (or_false (says_not_ok s.order) _ q (ap not (eq-eqb s.pass last p))))

not_notok : (o : Order) → (o ≡ NOTOK → ⊥) → says_not_ok o ≡ false
unfolding says_not_ok
not_notok (ASK x) f = refl
not_notok (SET x a b o n) f = refl
not_notok OK f = refl
not_notok NOTOK f = absurd (f refl)
not_notok (NEW ps) f = refl
not_notok (INVALID ps) f = refl
not_notok WAIT_SHORT f = refl
not_notok WAIT_LONG f = refl

not_invalid : (o : Order) → ((ps : List Pair) → o ≡ INVALID ps → ⊥) → named o ≡ []
unfolding named
not_invalid (ASK x) f = refl
not_invalid (SET x a b o n) f = refl
not_invalid OK f = refl
not_invalid NOTOK f = refl
not_invalid (NEW ps) f = refl
not_invalid (INVALID ps) f = absurd (f ps refl)
not_invalid WAIT_SHORT f = refl
not_invalid WAIT_LONG f = refl

besides_none : (ks : List Known) → besides [] ks ≡ ks
unfolding besides holds any
besides_none ks = select_all (λ (k : Known). true) (all_of ks (λ k. refl))

pub forgets : (u : Slave) (b : List ℕ) (room : ℕ) (s : Sent) → 64 ≤ room → decode_order b ≡ some s → Forgets u b room s
unfolding on_order heard empties says_not_ok named besides
forgets u b room s m e =
    record {
      not_ok = λ o. taken ∙ none_left u.pass u.known s (or_true_left (says_not_ok s.order) _ (ap says_not_ok o));
      another_pass = λ f. taken ∙ none_left u.pass u.known s (or_true_right (says_not_ok s.order) _ (ap not (ne_eqb s.pass u.pass f)));
      invalid = λ p ps o. taken ∙ some_left u.pass u.known s p (ap says_not_ok o) ∙ ap (λ (z : Order). besides (named z) u.known) o;
      others = λ p f g. taken ∙ some_left u.pass u.known s p (not_notok s.order f)
          ∙ ap (λ (ps : List Pair). besides ps u.known) (not_invalid s.order g) ∙ besides_none u.known;
    }
  where
    taken : (read u b room).unit.known ≡ known_after u.pass u.known s
    taken = ap (λ (r : Reading). r.unit.known) (read_with_room u b room (some s) m e)

-- what a look-up leaves
other_answers : (u : Slave) (a : Pair) → besides (a ∷ []) u.known ≡ for_others a u
unfolding besides holds any
other_answers u a = λ i. select (λ (k : Known). not (or_none (same_pair k.pair a) i)) u.known

pub learned : (u : Slave) (a : Pair) (x b : ℕ) → Learns u a x b
unfolding learn with_known remember newest
learned u a x b = record { kept = λ l. left 0 (omega arith); oldest = λ l. left 1 (omega arith); refused = λ n. refl }
  where
    with : List Known → Slave
    with ks = record { position = u.position; address = u.address; pairs = u.pairs; pass = u.pass; known = ks ++ record { pair = a; address = b } ∷ [] }

    left : (n : ℕ) → length (for_others a u) - 63 ≡ n → learn a (found x b) u ≡ with (drop n (for_others a u))
    left n e =
        (λ i. with (drop (length (other_answers u a i) - 63) (other_answers u a i))) ∙ ap (λ (m : ℕ). with (drop m (for_others a u))) e
