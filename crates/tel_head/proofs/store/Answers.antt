-- `store` leaves what stands in front of the part, the part, and what stands behind it.
use Rattle.std.proofs.Common.{◌≡◌, ℕ, ◌+◌, ◌-◌, List, ◌++◌, length, take, drop, sym, ap, ◌∙◌, arith, append_assoc, drop-drop}
use Rattle.std.proofs.lemmas.List.Edits.{sets-eq}
use Rattle.tel_head.proofs.store.Goals as goal

pub returns : goal.returns
returns c =
    let at = c.args.at in
    let b = c.args.buffer.now in
    let p = c.args.part.now in
    let e : at + length p - at ≡ length p = omega arith in
    (λ j. take at b ++ (c.copy_from_slice.ensures.after j ++ drop (e j) (drop at b)))
    ∙ ap (λ (l : List ℕ). take at b ++ (p ++ l)) (drop-drop (length p) at b)
    ∙ sym (sets-eq p b at (omega arith) ∙ append_assoc (take at b) p (drop (at + length p) b))
