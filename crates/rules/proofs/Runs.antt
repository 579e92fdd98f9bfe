-- What holds after every record of every list: the picture is sound, NOTOK waits for a question, every open question is of the
-- current pass.
use Prim.Native.Nat.{ℕ, ◌≤◌}
use mathlib.Core.Path.{◌≡◌, refl, sym, ◌∙◌, ap}
use mathlib.Core.Bool.{Bool, true, false, cond, not, ◌&&◌, ◌||◌}
use mathlib.Core.List.{List, [], ◌∷◌, ◌++◌, map}
use mathlib.Core.Option.{Option, none, some}
use mathlib.Core.Logic.{◌⊎◌, inl, inr}
use native.Mathlib.Omega.{arith}
use borrow.Author.Tests.{leb-true}
use lib.Dec.{leb}
use Rattle.laws.specs.Lists.{any}
use Rattle.laws.specs.Bools.{clash, and_left, or_cases}
use Rattle.laws.specs.Alls.{any_append, any_left, any_right}
use Rattle.rules.specs.House.{min_size, max_size}
use Rattle.rules.specs.Picture.{State, Off, NotOk, Ok, is_not_ok, Picture, with_state, with_delay, is_open, open_at, legal_size, fresh}
use Rattle.rules.specs.Order.{Order}
use Rattle.rules.specs.Step.{Change}
use Rattle.rules.specs.Ending.{becomes_ok, settled, told, ended, end_orders, orders_of, picture_of}
use Rattle.rules.specs.Run.{sent_with, Sent}
use Rattle.rules.specs.Claims.{is_for, later, question_pass}
use Rattle.rules.proofs.Ways.{every_taken}
use Rattle.rules.proofs.Sound.{Sound, sound_ways, no_rows}
use Rattle.rules.proofs.Along.{Keeps}
use Rattle.rules.proofs.Questions.{asks_for, Asked, asked_ways, nothing_open}

later_none : (m : Option ℕ) → later m none ≡ m
unfolding later
later_none none = refl
later_none (some n) = refl

later_assoc : (a b c : Option ℕ) → later (later a b) c ≡ later a (later b c)
unfolding later
later_assoc none b c = refl
later_assoc (some n) b c = refl

question_append : (ss ts : List Sent) (x : ℕ) → question_pass (ss ++ ts) x ≡ later (question_pass ts x) (question_pass ss x)
unfolding question_pass
question_append [] ts x = sym (later_none (question_pass ts x))
question_append (s ∷ ss) ts x =
    ap (λ (q : Option ℕ). later q (cond (is_for x s.order) (some s.pass) none)) (question_append ss ts x) ∙ later_assoc (question_pass ts x) (question_pass ss x) _

-- the orders of one event that ask a position give its question their pass, and the others leave it
question_sent : (n : ℕ) (os : List Order) (x : ℕ) → question_pass (map (sent_with n) os) x ≡ cond (asks_for os x) (some n) none
unfolding question_pass any sent_with later
question_sent n [] x = refl
question_sent n (o ∷ os) x = ap (λ (q : Option ℕ). later q (cond (is_for x o) (some n) none)) (question_sent n os x) ∙ go (asks_for os x) (is_for x o)
  where
    go : (b c : Bool) → later (cond b (some n) none) (cond c (some n) none) ≡ cond (c || b) (some n) none
    go true true = refl
    go true false = refl
    go false true = refl
    go false false = refl

-- what is asked first, and the SET, are among the orders of the event
orders_ask : (p : Picture) (c : Change) (x : ℕ) → asks_for (c.first ++ c.set) x ≡ true → asks_for (orders_of p c) x ≡ true
unfolding orders_of
orders_ask p c x h = go (or_cases (asks_for c.first x) (asks_for c.set x) (sym (any_append (is_for x) c.first c.set) ∙ h))
  where
    f : Order → Bool
    f = is_for x

    t : List Order
    t = told c.packing p c.picture

    go : (asks_for c.first x ≡ true) ⊎ (asks_for c.set x ≡ true) → asks_for (orders_of p c) x ≡ true
    go (inl e) = any_left f (c.first ++ t ++ c.set) (end_orders c.picture) (any_left f (c.first ++ t) c.set (any_left f c.first t e))
    go (inr e) = any_left f (c.first ++ t ++ c.set) (end_orders c.picture) (any_right f (c.first ++ t) c.set e)

-- a picture of a run, with the orders given out so far
pub record Running (p : Picture) (sent : List Sent) : Type 0 where
  pub sound : Sound p
  pub waits : p.state ≡ NotOk → any is_open p.rows ≡ true
  pub current : (x : ℕ) → open_at p x ≡ true → question_pass sent x ≡ some p.pass

not_notok : {X : Type 0} (s : State) → is_not_ok s ≡ false → s ≡ NotOk → X
unfolding is_not_ok
not_notok s h e = clash (ap is_not_ok e) h

-- a fresh picture has an L that is legal
fresh_size : (l : ℕ) → min_size ≤ (fresh l).size
unfolding fresh legal_size
fresh_size l = go (legal_size l) refl
  where
    go : (t : Bool) → legal_size l ≡ t → min_size ≤ cond t l min_size
    go true h = leb-true min_size l (and_left (leb min_size l) (leb l max_size) h)
    go false h = omega arith

pub running_fresh : (l : ℕ) → Running (fresh l) []
unfolding fresh open_at is_not_ok
running_fresh l =
    record { sound = record { rows = no_rows; pass = omega arith; size = fresh_size l }; waits = λ h. not_notok Off refl h; current = λ x o. clash o (nothing_open x) }

-- NOTOK after an event means that a question is open
settled_waits : (p : Picture) → (settled p).state ≡ NotOk → any is_open p.rows ≡ true
unfolding settled with_state becomes_ok is_not_ok
settled_waits p h = go p.state (any is_open p.rows) h
  where
    go : (s : State) (b : Bool) → cond (is_not_ok s && not b) Ok s ≡ NotOk → b ≡ true
    go Off b h = not_notok Off refl h
    go NotOk true h = refl
    go NotOk false h = not_notok Ok refl h
    go Ok b h = not_notok Ok refl h

-- every taken event
pub running_taken : Keeps Running
unfolding picture_of ended settled with_state with_delay open_at later
running_taken p sent e c r t h f =
    record { sound = record { rows = sound.rows; pass = sound.pass; size = sound.size }; waits = settled_waits c.picture; current = current }
  where
    sound : Sound c.picture
    sound = every_taken p _ (sound_ways p r.sound) e c h f

    asked : (x : ℕ) → open_at c.picture x ≡ true → Asked p c x
    asked = every_taken p _ (asked_ways p) e c h

    pass : ℕ
    pass = c.picture.pass

    told_pass : (x : ℕ) → (b : Bool) → asks_for (orders_of p c) x ≡ b → Asked p c x → later (cond b (some pass) none) (question_pass sent x) ≡ some pass
    told_pass x true g a = refl
    told_pass x false g (inl a) = clash (orders_ask p c x a) g
    told_pass x false g (inr a) = r.current x a.1 ∙ ap some (sym a.0)

    current : (x : ℕ) → open_at c.picture x ≡ true → question_pass (sent ++ map (sent_with pass) (orders_of p c)) x ≡ some pass
    current x o =
        question_append sent (map (sent_with pass) (orders_of p c)) x
        ∙ ap (λ (q : Option ℕ). later q (question_pass sent x)) (question_sent pass (orders_of p c) x)
        ∙ told_pass x (asks_for (orders_of p c) x) refl (asked x o)
