-- Some list of records makes each of the two pictures, so the rules' word for it holds.
use Prim.Native.Nat.{ℕ}
use mathlib.Core.Path.{◌≡◌, sym, ◌∙◌}
use Rattle.rules_diff.specs.Differences.{listed_rows, uncompared, compare}
use Rattle.rules_diff.proofs.Rows.{listings}
use Rattle.registry.specs.declared.image.RegistryImage.{RegistryImage}
use Rattle.registry.specs.View.{view_of}
use Rattle.registry.specs.Outcome.{HandedOut}
use Rattle.lathepetal.specs.Rows.{Promises}

compared : (p q : RegistryImage) → HandedOut p → HandedOut q → (room n : ℕ)
    → compare (listed_rows (view_of p)) (listed_rows (view_of q)) room ≡ uncompared n → n ≡ 21
compared p q h k room n e =
    let a = h.reached in
    let b = k.reached in
    (listings a.size b.size a.records b.records room).compared n
    (sym (λ i. compare (listed_rows (a.made i)) (listed_rows (b.made i)) room) ∙ e)

pub promises : Promises
promises = record { compared = compared }
