-- A look-up's numbers say what it answered: a refusal, or where the pair is listed.
use mathlib.Core.Path.{◌≡◌, sym, ◌∙◌, ap}
use borrow.Author.Tests.{eq-eqb, ne_eqb}
use Rattle.laws.specs.Bools.{cond_true, cond_false}
use Rattle.rules.specs.Picture.{Pair}
use Rattle.rules.specs.Listing.{Lookup, found, not_found}
use Rattle.rules_unit.specs.Slave.{Slave, learn}
use Rattle.lathepetal.specs.declared.ring.LookupOutcome.{LookupOutcome}
use Rattle.lathepetal.specs.Units.{answer_of}

module _ (a : Pair) (u : Slave) {v : Slave} (o : LookupOutcome) where
  pub learn_refused : (o.number ≡ 0 → ⊥) → v ≡ learn a (not_found o.number) u → v ≡ learn a (answer_of o) u
  unfolding answer_of
  learn_refused h e = e ∙ ap (λ (l : Lookup). learn a l u) (sym (cond_false _ _ (ne_eqb o.number 0 h)))

  pub learn_found : o.number ≡ 0 → v ≡ learn a (found o.position o.address) u → v ≡ learn a (answer_of o) u
  unfolding answer_of
  learn_found h e = e ∙ ap (λ (l : Lookup). learn a l u) (sym (cond_true _ _ (eq-eqb o.number 0 h)))
