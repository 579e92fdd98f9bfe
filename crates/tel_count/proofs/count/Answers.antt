-- `count` answers what the rules count: one case for each return.
use Rattle.std.proofs.Common.{◌≡◌, ℕ, inl, inr, List, length, Err}
use Rattle.std.proofs.lemmas.Result.{err_from_is_err_and}
use borrow.Author.Tests.{lt-ltb, le-ltb}
use Rattle.rules.specs.Telegram.{count}
use Rattle.rules.proofs.RoundTrip.{size_range}
use Rattle.numbers.specs.declared.Refusal.{Refusal}
use Rattle.tel_head.specs.Allowed.{Forbids}
use Rattle.tel_count.specs.Answers.{count_answer}
use Rattle.tel_count.proofs.count.Goals as goal

refused : (l : ℕ) (p : List ℕ) (e : Refusal) → Forbids l (length p) e → count_answer (Err e) ≡ count l p
unfolding count
refused l p e (inl f) = rw f.0 (simp f.1)
refused l p e (inr f) = rw f.0 (simp (f.1, lt-ltb _ _ f.2))

pub returns-in_err-allowed : goal.returns-in_err-allowed
returns-in_err-allowed c =
    let a = c.args in
    let p = err_from_is_err_and c.from_residual.result c.from_residual.ensures.1 in
    rw (p.1, p.2) (refused a.l a.payload.now _ c.in_err-allowed.ensures)

pub count_of-requires : goal.count_of-requires
count_of-requires c =
    let e = c.in_ok-allowed.ensures in
    ((size_range _ e.0).0, e.1)

pub returns : goal.returns
unfolding count
returns c =
    let e = c.in_ok-allowed.ensures in
    simp (e.0, le-ltb _ _ e.1, c.count_of.ensures)
