-- The two limits.
use Rattle.laws.specs.Bools.{cond_true, cond_false}
use Rattle.registry.proofs.Stepping.{handed_fresh}
use Rattle.registry.proofs.Sizing.{legal, legal_few, not_legal}
use Rattle.registry.specs.View.{make_answer, view_of}
use Rattle.rules.specs.Picture.{fresh}
use mathlib.Core.Path.{◌≡◌, ◌∙◌, sym}
use native.Mathlib.Omega.{arith}
use Rattle.registry.proofs.image.RegistryImage.fresh.Goals as goal

pub returns-then-illegal : goal.returns-then-illegal
unfolding make_answer fresh
returns-then-illegal c =
    let f = not_legal c.args.l (sym c.illegal.ensures ∙ c.if-illegal.true) in
    let e : view_of c.stopped.result ≡ fresh c.args.l = simp f c.stopped.ensures.0 in (sym (cond_false _ _ f), e, handed_fresh _ c.args.l e c.stopped.ensures.1)

pub overflow_cast-l : goal.overflow_cast-l
overflow_cast-l c = omega (arith, legal_few c.args.l (legal c.args.l (sym c.illegal.ensures ∙ c.if-illegal.false)))

pub returns : goal.returns
unfolding make_answer fresh
returns c =
    let f = legal c.args.l (sym c.illegal.ensures ∙ c.if-illegal.false) in
    let e : view_of c.stopped-2.result ≡ fresh c.args.l = simp f c.stopped-2.ensures.0 in (sym (cond_true _ _ f), e, handed_fresh _ c.args.l e c.stopped-2.ensures.1)
