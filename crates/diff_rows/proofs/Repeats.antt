-- A pair that stands twice: looked for from the front.
use mathlib.Core.Path.{◌≡◌, sym, ◌∙◌, ap}
use mathlib.Core.Bool.{Bool, true, false, ◌||◌}
use mathlib.Core.List.{List, [], ◌∷◌}
use Rattle.rules.specs.Picture.{Pair, holds}
use Rattle.rules_diff.specs.Differences.{twice}

-- the first stands behind itself, it does not, there is none
pub twice_here : {a : Pair} {ps rest : List Pair} → ps ≡ a ∷ rest → holds rest a ≡ true → twice ps ≡ true
unfolding twice
twice_here {rest = rest} e h = ap twice e ∙ ap (λ (b : Bool). b || twice rest) h

pub twice_skip : {a : Pair} {ps rest : List Pair} → ps ≡ a ∷ rest → holds rest a ≡ false → twice rest ≡ twice ps
unfolding twice
twice_skip {rest = rest} e h = sym (ap twice e ∙ ap (λ (b : Bool). b || twice rest) h)

pub twice_end : {ps : List Pair} → ps ≡ [] → twice ps ≡ false
unfolding twice
twice_end e = ap twice e
