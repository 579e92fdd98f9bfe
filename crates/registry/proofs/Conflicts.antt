-- A conflict of addresses: at the limit all that are counted are IGNORED, else there is a restart, or no pass is left for one.
use Prim.Native.Nat.{ℕ, suc, ◌-◌, ◌<◌, ◌≤◌}
use mathlib.Core.Path.{◌≡◌, sym, ◌∙◌, ap}
use mathlib.Core.Bool.{Bool, true, false, cond}
use mathlib.Core.List.{[], ◌∷◌, map}
use borrow.Author.Tests.{le-leb, lt-leb}
use lib.Dec.{leb}
use Rattle.rules.specs.House.{max_pass}
use Rattle.rules.specs.Picture.{seat_at}
use Rattle.rules.specs.Order.{NOTOK}
use Rattle.rules.specs.Step.{Verdict, change, refuse_if, change_rows, scan, on_counted, emptied, conflict}
use Rattle.rules.specs.Run.{Outcome, refused, concluded}
use Rattle.row_entry.specs.View.{rows_of}
use Rattle.ring_entries.specs.Verdicts.{counts_for, counts_at_limit, limit_reached, struck}
use Rattle.registry.specs.declared.image.RegistryImage.{RegistryImage}
use Rattle.registry.specs.View.{view_of}
use Rattle.registry.specs.Outcome.{Seat, conflict_outcome, ignore_outcome, restart_outcome}
use Rattle.registry.proofs.Places.{index}

module _ (s : RegistryImage) (x : ℕ) (h : Seat s x) (a : ℕ) (v : Verdict) {limit : Bool} (e : limit ≡ limit_reached v a (seat_at (rows_of s.units s.entries) (suc (x - 1)))) where
  reached : (limit none_left : Bool) → Outcome
  reached b c =
      concluded (view_of s)
      (cond b (change (change_rows (on_counted (counts_for v a) (struck true a) (seat_at (view_of s).rows x)) (view_of s)))
      (refuse_if c 9 (change (scan (NOTOK ∷ []) (map emptied (on_counted (counts_for v a) (struck false a) (seat_at (view_of s).rows x))) (view_of s)))))

  by_limit : conflict_outcome v (view_of s) x a ≡ reached limit (leb max_pass s.pass)
  unfolding conflict reached struck view_of limit_reached counts_at_limit
  by_limit =
      ap (λ (b : Bool). reached b (leb max_pass s.pass))
      (sym (e ∙ ap (λ (n : ℕ). limit_reached v a (seat_at (rows_of s.units s.entries) n)) (sym (index s x h))))

  pub conflict_limit : limit ≡ true → conflict_outcome v (view_of s) x a ≡ ignore_outcome v (view_of s) x a
  unfolding reached
  conflict_limit p = by_limit ∙ ap (λ (b : Bool). reached b (leb max_pass s.pass)) p

  pub conflict_9 : limit ≡ false → max_pass ≤ s.pass → conflict_outcome v (view_of s) x a ≡ refused 9
  unfolding reached refuse_if concluded
  conflict_9 p l = by_limit ∙ (λ t. reached (p t) (le-leb max_pass s.pass l t))

  pub conflict_restart : limit ≡ false → s.pass < max_pass → conflict_outcome v (view_of s) x a ≡ restart_outcome v (view_of s) x a
  unfolding reached refuse_if
  conflict_restart p l = by_limit ∙ (λ t. reached (p t) (lt-leb max_pass s.pass l t))
