-- The first word and the last one, or the whole.
use Rattle.std.proofs.Common.{◌+◌, ◌-◌, List, ℕ, drop, length, ap, ◌∙◌, take_all}
use native.Mathlib.Omega.{arith}
use Rattle.std.proofs.lemmas.List.{length-drop}
use Rattle.std.proofs.lemmas.List.Edits.{sets}
use Rattle.tel_head.proofs.Overlaps.{overlapped}
use Rattle.tel_head.proofs.store_words.Goals as goal

pub returns-then-n : goal.returns-then-n
returns-then-n c =
    let b = c.args.buffer.now in
    let p = c.args.part.now in
    let at = c.args.at in
    let k = length p - 8 in
    let last = take_all (length p - k) (drop k p) (omega (arith, length-drop k p)) in
    c.store-then-n.ensures ∙ ap (sets c.store.new.buffer (at + k)) last ∙ ap (λ (x : List ℕ). sets x (at + k) (drop k p)) c.store.ensures
    ∙ overlapped b p at k 8 (omega (arith, c.if-n.true)) c.if-n-ge-WORD.true c.requires
