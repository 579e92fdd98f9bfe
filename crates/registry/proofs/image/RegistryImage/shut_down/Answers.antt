-- Nothing is written.
use Rattle.registry.proofs.Scanning.{shuts}
use Rattle.registry.specs.View.{view_of}
use mathlib.Core.Path.{refl}
use Rattle.registry.proofs.image.RegistryImage.shut_down.Goals as goal

pub returns : goal.returns
unfolding view_of
returns c =
    shuts (view_of c.args.self.now) c.args.out.now c.stopped.ensures.0 refl refl (λ m. c.stopped.ensures.1)
